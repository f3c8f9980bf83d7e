-- Where the walk of a hash starts, by the Option that says it.
--     answer_none, answer_some    of 0, and of another number
--     none_start, some_start      what an answer says of the start
-- Assumes nothing.
use Rattle.std.proofs.Common.{ℕ, ◌≡◌, Bool, true, false, cond, refl, sym, ap, ◌∙◌, eqb, Option, Some, None, eqb-true, eq-eqb, ne_eqb}
use Rattle.lookup.proofs.Picking.{by-test}
use Rattle.gnu.specs.Start.{start_answer}

pub answer_none : (s : ℕ) → s ≡ 0 → None ≡ start_answer s
answer_none s e = rw (eq-eqb s 0 e)

pub answer_some : (s v : ℕ) → s ≡ v → (v ≡ 0 → ⊥) → Some v ≡ start_answer s
answer_some s v e apart = rw (e, ne_eqb v 0 apart)

pub none_start : (s : ℕ) → None ≡ start_answer s → s ≡ 0
none_start s h = by-test (eqb s 0) (λ e. eqb-true s 0 e) (λ e. let z = rw e at h in cc)

pub some_start : (s v : ℕ) → Some v ≡ start_answer s → (s ≡ v) × (v ≡ 0 → ⊥)
some_start s v h =
    by-test (eqb s 0) (λ e. let z = rw e at h in cc)
    (λ e. let z : Some v ≡ Some s = rw e at h in
    let same : v ≡ s = cc in
    (sym same, λ zero. let both : s ≡ 0 = sym same ∙ zero in let t = eq-eqb s 0 both in cc))
