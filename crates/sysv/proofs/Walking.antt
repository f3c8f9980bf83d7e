-- The walk along a chain, number by number: the numbers that are left, after the probes that were made, give the answer.
--     Walking                      a walk that stands at a number, after so many probes
--     walking_start                at its start
--     walking_zero, walking_spent  it stands at 0; no test is left
--     walking_match                it stands at a match
--     walking_past, walking_on     at none: a number at or past chain_count is the last; from another it goes on
-- Assumes nothing.
use Rattle.std.proofs.Common.{◌≡◌, sym, ap, ◌∙◌, Bool, true, false, cond, List, [], ◌∷◌, ℕ, zero, suc, ◌+◌, ◌-◌, ◌≤◌, ◌<◌, zero-add, add-zero, arith, ltb, length, ne_eqb, lt-ltb, le-ltb}
use Rattle.symbol.specs.Table.{symbol_index}
use Rattle.lookup.specs.declared.Lookup.{Lookup}
use Rattle.lookup.specs.Pick.{first_of, up_to}
use Rattle.lookup.specs.Wanted.{found as found_at, missing, answer_after, walk}
use Rattle.sysv.specs.Table.{visited}

module _ (match : ℕ → Bool) (chains : ℕ) (chain : ℕ → ℕ) (start : ℕ) where
  abbrev whole : Lookup
  whole = walk match (visited chains chain chains start)

  -- what the numbers that are left answer after n probes
  abbrev after : ℕ → List ℕ → Lookup
  after n xs = answer_after (first_of match xs) (n + length (up_to match xs))

  unfoldable pub Walking : (i probes : ℕ) → Type 0
  Walking i n = after n (visited chains chain (chains - n) i) ≡ whole

  pub walking_start : Walking start 0
  unfolding Walking
  walking_start =
      let z : chains - 0 ≡ chains = omega arith in
      rw z (ap (answer_after (first_of match (visited chains chain chains start)))
      (zero-add (length (up_to match (visited chains chain chains start)))))

  after_zero_lem : (n k : ℕ) → after n (visited chains chain k 0) ≡ missing n
  unfolding visited
  after_zero_lem n zero = rw add-zero
  after_zero_lem n (suc k) = rw add-zero

  module _ (i n : ℕ) (at : Walking i n) where
    pub walking_zero : i ≡ 0 → missing n ≡ whole
    unfolding Walking
    walking_zero z = sym (after_zero_lem n (chains - n)) ∙ (rw z at at)

    pub walking_spent : n ≡ chains → missing n ≡ whole
    unfolding Walking visited
    walking_spent e =
        let z : chains - n ≡ 0 = omega arith in
        let none : after n (visited chains chain (chains - n) i) ≡ missing n = rw (z, add-zero) in
        sym none ∙ at

    module _ (more : n < chains) (there : ¬ (i ≡ 0)) where
      here : visited chains chain (chains - n) i
          ≡ i ∷ cond (ltb i chains) (visited chains chain (chains - (n + 1)) (chain i)) []
      unfolding visited
      here = let s : chains - n ≡ suc (chains - (n + 1)) = omega arith in rw (s, ne_eqb i 0 there)

      pub walking_match : match i ≡ true → found_at (symbol_index i) (n + 1) ≡ whole
      unfolding Walking
      walking_match m =
          let found : after n (visited chains chain (chains - n) i) ≡ found_at (symbol_index i) (n + 1) = rw (here, m) in
          sym found ∙ at

      pub walking_past : match i ≡ false → chains ≤ i → missing (n + 1) ≡ whole
      unfolding Walking
      walking_past m past =
          let last : after n (visited chains chain (chains - n) i) ≡ missing (n + 1) = rw (here, m, le-ltb i chains past) in
          sym last ∙ at

      pub walking_on : match i ≡ false → i < chains → Walking (chain i) (n + 1)
      unfolding Walking
      walking_on m below =
          let rest = visited chains chain (chains - (n + 1)) (chain i) in
          let one_more : n + suc (length (up_to match rest)) ≡ n + 1 + length (up_to match rest) = omega arith in
          let on : after n (visited chains chain (chains - n) i) ≡ after (n + 1) rest =
          rw (here, m, lt-ltb i chains below) (ap (answer_after (first_of match rest)) one_more) in
          sym on ∙ at
