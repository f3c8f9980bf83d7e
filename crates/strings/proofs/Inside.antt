-- A string that was read lies in the strings, and these are not too long. Assumes nothing.
use Rattle.std.proofs.Common.{ℕ, ◌+◌, ◌≤◌, ◌<◌, ◌≡◌, refl, ap, Bool, true, false, cond, List, arith, ltb, length, drop, length-drop, ltb-true, ltb-false, Result, Ok, Err}
use Rattle.endian.specs.First.{first, is_zero, readable}
use Rattle.endian.specs.Refusals.{limit, too_long, no_string}
use Rattle.strings.specs.Strings.{string_at}
use Rattle.endian.specs.declared.refusals.Refusal.{Refusal}
use Rattle.strings.specs.declared.Place.{Place}

readable_inside : (strings : List ℕ) (offset : ℕ) → readable (drop offset strings) ≡ true
    → offset + first is_zero (drop offset strings) < length strings
unfolding readable
readable_inside strings offset e =
    let some = ltb-true (first is_zero (drop offset strings)) (length (drop offset strings)) e in
    let rest = length-drop offset strings in
    omega arith

pub string_inside : (strings : List ℕ) (offset : ℕ) (place : Place) → string_at strings offset ≡ Ok place
    → (place.start + place.len < length strings) × (length strings ≤ limit)
string_inside strings offset place read =
    by (ltb limit (length strings)) refl (readable (drop offset strings)) refl read
  where
    by : (t : Bool) → ltb limit (length strings) ≡ t → (u : Bool) → readable (drop offset strings) ≡ u
        → cond {A = Result Place Refusal} t (Err too_long) (cond u (Ok (record { start = offset; len = first is_zero (drop offset strings) })) (Err no_string))
        ≡ Ok place
        → (place.start + place.len < length strings) × (length strings ≤ limit)
    by true e u f g = let z : ◌≡◌ {A = ℕ} 0 1 = cc in absurd (omega arith)
    by false e false f g = let z : ◌≡◌ {A = ℕ} 0 1 = cc in absurd (omega arith)
    by false e true f g =
        let here : record { start = offset; len = first is_zero (drop offset strings) } ≡ place = cc in
        let s : offset ≡ place.start = ap (λ p. p.start) here in
        let l : first is_zero (drop offset strings) ≡ place.len = ap (λ p. p.len) here in
        let inside = readable_inside strings offset f in
        (omega arith, ltb-false limit (length strings) e)
