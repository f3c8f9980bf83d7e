-- What `string_equals` decides, for whoever cites it: a string is read there, and its bytes are the name's.
--     same_refl, same_true        `same` is equality
--     equals_of, equals_name      a string that is read: equal exactly if its bytes are the name
--     equals_refused              one that is not
--     equals_long, equals_reads   `string_equals` by the bytes from the offset on
-- Assumes nothing.
use Rattle.std.proofs.Common.{ℕ, ◌<◌, ◌≤◌, ◌≡◌, refl, sym, ◌∙◌, ap, Bool, true, false, cond, ◌&&◌, List, [], ◌∷◌, eqb, length, take, drop, eq-eqb, eqb-true, lt-ltb, le-ltb, Ok, Err}
pub use Rattle.endian.proofs.Falsity.{false_true}
use Rattle.endian.specs.declared.refusals.Refusal.{Refusal}
use Rattle.strings.specs.declared.Place.{Place}
use Rattle.endian.specs.First.{first, is_zero, readable, same}
use Rattle.endian.specs.Refusals.{limit, no_string}
use Rattle.name_match.specs.Reads.{text, reads}
use Rattle.strings.specs.Strings.{is_name, string_at, string_equals}

pub same_refl : (s : List ℕ) → same s s ≡ true
same_refl [] = refl
same_refl (b ∷ s) = simp (eq-eqb b b refl, same_refl s)

pub same_true : (s t : List ℕ) → same s t ≡ true → s ≡ t
same_true [] [] e = refl
same_true [] (c ∷ t) e = false_true e
same_true (b ∷ s) [] e = false_true e
same_true (b ∷ s) (c ∷ t) e = by (same_true s t) (eqb b c) refl e
  where
    by : (same s t ≡ true → s ≡ t) → (u : Bool) → eqb b c ≡ u → cond u (same s t) false ≡ true → b ∷ s ≡ c ∷ t
    by rest true f g = cc (eqb-true b c f, rest g)
    by rest false f g = false_true g

module _ (strings : List ℕ) (offset : ℕ) (name : List ℕ) where
  module _ (place : Place) (read : string_at strings offset ≡ Ok place) where
    pub equals_of : take place.len (drop place.start strings) ≡ name → string_equals strings offset name ≡ true
    unfolding string_equals
    equals_of equal = ap (is_name strings name) read ∙ rw equal (same_refl name)

    pub equals_name : string_equals strings offset name ≡ true → take place.len (drop place.start strings) ≡ name
    unfolding string_equals
    equals_name e = same_true (take place.len (drop place.start strings)) name (sym (ap (is_name strings name) read) ∙ e)

  pub equals_refused : (r : Refusal) → string_at strings offset ≡ Err r → string_equals strings offset name ≡ false
  unfolding string_equals
  equals_refused r refused = ap (is_name strings name) refused

module _ (s : List ℕ) (offset : ℕ) (name : List ℕ) where
  pub equals_long : limit < length s → string_equals s offset name ≡ false
  unfolding string_equals
  equals_long long = simp (lt-ltb _ _ long)

  pub equals_reads : length s ≤ limit → string_equals s offset name ≡ reads (drop offset s) name
  unfolding string_equals reads text
  equals_reads fits = rw (le-ltb limit (length s) fits) (by (readable (drop offset s)))
    where
      by : (t : Bool)
          → is_name s name (cond t (Ok (record { start = offset; len = first is_zero (drop offset s) })) (Err no_string))
          ≡ t && same (take (first is_zero (drop offset s)) (drop offset s)) name
      by true = refl
      by false = refl
