-- The walk, turn by turn. `walk_from n` is what a walk that has made n probes answers of the pairs that are left.
--     walk_from_start    no probe made: the walk
--     walk_from_match    the next pair matches
--     walk_from_end      it does not, and ends the chain
--     walk_from_on       it does neither
--     walk_from_none     no pair is left
-- Assumes nothing.
use Rattle.std.proofs.Common.{ℕ, suc, ◌+◌, ◌-◌, ◌<◌, ◌≡◌, ap, Bool, true, false, List, zero-add, add-zero, arith, length}
use native.Mathlib.Nat.{sub_self}
use Rattle.symbol.specs.Table.{symbol_index}
use Rattle.lookup.specs.declared.Lookup.{Lookup}
use Rattle.lookup.specs.Pick.{from, first_of, up_to}
use Rattle.lookup.specs.Wanted.{found, missing, answer_after, walk}
use Rattle.lookup.proofs.Picking.{from_cons}

module _ (match ends : ℕ → Bool) where
  abbrev pub walk_from : ℕ → List ℕ → Lookup
  walk_from n xs = answer_after (first_of match (up_to ends xs)) (n + length (up_to match (up_to ends xs)))

  pub walk_from_start : (xs : List ℕ) → walk_from 0 xs ≡ walk match (up_to ends xs)
  walk_from_start xs = ap (answer_after (first_of match (up_to ends xs))) (zero-add (length (up_to match (up_to ends xs))))

  pub walk_from_none : (n e : ℕ) → walk_from n (from e (e - e)) ≡ missing n
  walk_from_none n e = rw (sub_self, add-zero)

  module _ (n i e : ℕ) (more : i < e) where
    pub walk_from_match : match i ≡ true → walk_from n (from i (e - i)) ≡ found (symbol_index i) (n + 1)
    walk_from_match m = rw (from_cons i e more, m)

    pub walk_from_end : match i ≡ false → ends i ≡ true → walk_from n (from i (e - i)) ≡ missing (n + 1)
    walk_from_end m l = rw (from_cons i e more, m, l)

    pub walk_from_on : match i ≡ false → ends i ≡ false
        → walk_from n (from i (e - i)) ≡ walk_from (n + 1) (from (i + 1) (e - (i + 1)))
    walk_from_on m l =
        let rest = up_to ends (from (i + 1) (e - (i + 1))) in
        let one_more : n + suc (length (up_to match rest)) ≡ n + 1 + length (up_to match rest) = omega arith in
        rw (from_cons i e more, m, l) (ap (answer_after (first_of match rest)) one_more)
