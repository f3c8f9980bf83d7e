-- What a needed version does to the highest index, and that it does nothing more the second time.
--     higher_once, higher_again
-- Assumes nothing.
use Rattle.std.proofs.Common.{ℕ, max, ◌≡◌, sym, ap, ◌∙◌, List, arith, Ok}
use Rattle.endian.specs.declared.kinds.Order.{Order}
use Rattle.version_layout.specs.Indices.{need_index}
use Rattle.version_layout.specs.declared.steps.Aux.{Aux}
use Rattle.version_records.specs.Outcome.{folded}
use Rattle.version_highest.specs.Highest.{aux_indices, higher_of}
use Rattle.version.specs.declared.index.VersionIndex.{VersionIndex}
use Rattle.version_records.proofs.Outcomes.{fine_same}

higher_of_again : (high index : VersionIndex) → higher_of (higher_of high index) index ≡ higher_of high index
unfolding higher_of
higher_of_again high index =
    let e : max (max high.0 index.0) index.0 ≡ max high.0 index.0 = omega arith in
    ap (λ (n : ℕ). record { 0 = n }) e

module _ (order : Order) (s : List ℕ) (a : Aux) where
  pub higher_once : (high high' index : VersionIndex) → high' ≡ higher_of high index → index ≡ need_index order s a.at
      → Ok high' ≡ folded higher_of high (aux_indices order s a)
  unfolding aux_indices
  higher_once high high' index h i = ap Ok (h ∙ ap (higher_of high) i)

  pub higher_again : (high high' : VersionIndex) → Ok high' ≡ folded higher_of high (aux_indices order s a)
      → Ok high' ≡ folded higher_of high' (aux_indices order s a)
  unfolding aux_indices
  higher_again high high' h =
      let e = fine_same _ _ h in
      ap Ok (e ∙ sym (higher_of_again high (need_index order s a.at)) ∙ ap
      (λ (x : VersionIndex). higher_of x (need_index order s a.at)) (sym e))
