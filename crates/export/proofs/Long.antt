-- The refusal of a number that is no kind, by whether a part is too long. Assumes nothing.
use Rattle.std.proofs.Common.{◌≡◌, ℕ, Bool, true, false, cond, ltb, List, [], ◌∷◌, length, refl}
use Rattle.endian.specs.Refusals.{limit, any_long, too_long, unknown_kind}
use Rattle.export.specs.Kinds.{kind_refusal}

pub kind_refusal_lem : (parts : List (List ℕ)) → kind_refusal parts ≡ cond (any_long parts) too_long unknown_kind
kind_refusal_lem [] = refl
kind_refusal_lem (p ∷ ps) = by (ltb limit (length p)) (kind_refusal_lem ps)
  where
    by : (t : Bool) → kind_refusal ps ≡ cond (any_long ps) too_long unknown_kind
        → cond t too_long (kind_refusal ps) ≡ cond (cond t true (any_long ps)) too_long unknown_kind
    by true rest = refl
    by false rest = rest
