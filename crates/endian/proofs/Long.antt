-- Whether one of several lent parts is too long, as a test of each of them. Assumes nothing.
use Rattle.std.proofs.Common.{◌≡◌, ℕ, Bool, true, false, cond, ◌||◌, List, [], ◌∷◌, map, length, nat_lt, Bor, refl, ap, ◌∙◌}
use Rattle.std.specs.List.{list_any}
use Rattle.endian.specs.Lent.{now_of}
use Rattle.endian.specs.Refusals.{limit, any_long}

pub any_long_lem : (parts : List (Bor (List ℕ)))
    → list_any (λ p. nat_lt limit (length p.now)) parts ≡ any_long (map now_of parts)
any_long_lem [] = refl
any_long_lem (p ∷ ps) = by (nat_lt limit (length p.now)) (any_long_lem ps)
  where
    by : (t : Bool) → list_any (λ p. nat_lt limit (length p.now)) ps ≡ any_long (map now_of ps)
        → (t || list_any (λ p. nat_lt limit (length p.now)) ps) ≡ cond t true (any_long (map now_of ps))
    by true rest = refl
    by false rest = rest
