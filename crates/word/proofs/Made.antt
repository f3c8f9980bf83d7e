-- The bytes that a closure gave, one for each place. Assumes nothing.
--     made    each is what the closure gives at its place, where no call changes the closure
--     to_end  a part up to the end
use Rattle.std.proofs.Common.{◌≡◌, ◌∙◌, ℕ, zero, suc, ◌+◌, ◌<◌, ◌≤◌, Bool, true, false, List, length, drop, get_or, refl, sym, subst, arith, ltb, ltb-true, ltb-false}
use Rattle.std.specs.Fn.{Called}
use Rattle.std.specs.List.{slice_range}
use Rattle.std.proofs.Math.Seq.{take-length}
use Rattle.std.proofs.lemmas.List.{length-drop}
use Rattle.std.specs.Array.{IsFromFnResultFrom}
use denote.Param.Members.{Mut}

pub made : {F : Type 0} (g : Mut F (ℕ × Unit {0}) ℕ) (v : ℕ → ℕ) (f : F)
    → ((i y : ℕ) (q : F) → Called g f (i, tt) y q → (q ≡ f) × (y ≡ v i))
    → (ys : List ℕ) (i n : ℕ) → IsFromFnResultFrom g f ys i n → (k : ℕ) → i ≤ k → k < i + n → get_or ys k 0 ≡ v k
made g v f step ys i zero each k low less = absurd (omega arith)
made g v f step ys i (suc n) (q, y, there, called, rest) k low less =
    let given = step i y q called in
    let later = subst (λ p. IsFromFnResultFrom g p ys (i + 1) n) given.0 rest in
    by (there.1 0 ∙ given.1) (λ after. made g v f step ys (i + 1) n later k after (omega arith)) (ltb i k) refl
  where
    by : get_or ys i 0 ≡ v i → (i + 1 ≤ k → get_or ys k 0 ≡ v k) → (t : Bool) → ltb i k ≡ t → get_or ys k 0 ≡ v k
    by first after true e =
        let past = ltb-true i k e in
        after (omega arith)
    by first after false e =
        let past = ltb-false i k e in
        let here : k ≡ i = omega arith in
        rw here first

pub to_end : (s : List ℕ) (from : ℕ) → slice_range s from (length s) ≡ drop from s
to_end s from = rw (sym (length-drop from s)) (take-length (drop from s))
