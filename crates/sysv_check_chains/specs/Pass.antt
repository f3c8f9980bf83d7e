-- Need not be believed: what the walk along every chain of a SysV table computes, with so many steps. That it is T3 is proved
-- in `sysv_check` (`proofs/Counted`).
--     in_range              whether a number may stand on a chain at all
--     may_stand             whether it may stand on the chain of a bucket
--     follow                along one chain with k steps left: the steps that are left after it, or none
--     onward, follow_all    along the chains of these buckets, with what is left
--     spent                 nothing is left of the steps
--     all_spent             along every chain, in exactly so many steps
-- Assumes nothing.
use Rattle.std.specs.Prelude.{ℕ, zero, suc, Bool, true, false, cond, ◌&&◌, List, [], ◌∷◌, leb, ltb, eqb, Option, Some, None}
use Rattle.lookup.specs.Pick.{from}

abbrev pub in_range : (low count i : ℕ) → Bool
in_range low count i = leb low i && ltb i count

-- `home i`: the bucket of number i
abbrev pub may_stand : (home : ℕ → ℕ) → (low count b i : ℕ) → Bool
may_stand home low count b i = leb low i && (ltb i count && eqb (home i) b)

module _ (chain : ℕ → ℕ) where
  unfoldable pub follow : (may : ℕ → Bool) → (k i : ℕ) → Option ℕ
  follow may zero i = cond (eqb i 0) (Some 0) None
  follow may (suc k) i = cond (eqb i 0) (Some (suc k)) (cond (may i) (follow may k (chain i)) None)

  module _ (bucket : ℕ → ℕ) (may : (b i : ℕ) → Bool) where
    abbrev pub onward : (b : ℕ) → Option ℕ → Option ℕ
    onward b None = None
    onward b (Some k) = follow (may b) k (bucket b)

    unfoldable pub follow_all : List ℕ → Option ℕ → Option ℕ
    follow_all [] left = left
    follow_all (b ∷ bs) left = follow_all bs (onward b left)

abbrev pub spent : Option ℕ → Bool
spent None = false
spent (Some k) = eqb k 0

abbrev pub all_spent : (chain bucket : ℕ → ℕ) → (may : (b i : ℕ) → Bool) → (buckets steps : ℕ) → Bool
all_spent chain bucket may buckets steps = spent (follow_all chain bucket may (from 0 buckets) (Some steps))
