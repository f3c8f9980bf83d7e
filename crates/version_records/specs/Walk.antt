-- The records of a list, one after the other.
--     Walk       the records met, then the end or the refusal of the record that cannot be read
--     link       a record that was read, and the rest from it on
--     linked     the records from a place, each where the one before says, up to the end of n bytes
--     counted    as many records as the count says, each where the one before says
--     collect    what the records of a walk give, in its order; the first refusal leaves at once
-- Assumes nothing.
use Rattle.std.specs.Prelude.{ℕ, zero, suc, ◌-◌, cond, List, [], ltb}
use Rattle.endian.specs.declared.refusals.Refusal.{Refusal}
use Rattle.version_records.specs.Outcome.{Outcome, both}
use Rattle.std.specs.Prelude.{Ok, Err}

pub data Walk (A : Type 0) : Type 0 where
  end : Walk A
  broken : Refusal → Walk A
  more : A → Walk A → Walk A

abbrev pub link : {A : Type 0} → Outcome A → (A → Walk A) → Walk A
link (Ok a) rest = more a (rest a)
link (Err e) rest = broken e

-- at most `most` records
abbrev pub linked_within : {A : Type 0} → (ℕ → Outcome A) → (A → ℕ) → (n most at : ℕ) → Walk A
linked_within step next n zero at = end
linked_within step next n (suc most) at = cond (ltb at n) (link (step at) (λ a. linked_within step next n most (next a))) end

-- each record lies past the one before, so that there are no more than n - at
unfoldable pub linked : {A : Type 0} → (ℕ → Outcome A) → (A → ℕ) → (n at : ℕ) → Walk A
linked step next n at = linked_within step next n (n - at) at

abbrev pub counted : {A : Type 0} → (ℕ → Outcome A) → (A → ℕ) → (count at : ℕ) → Walk A
counted step next zero at = end
counted step next (suc count) at = link (step at) (λ a. counted step next count (next a))

abbrev pub collect : {A B : Type 0} → (A → Outcome (List B)) → Walk A → Outcome (List B)
collect g end = Ok []
collect g (broken e) = Err e
collect g (more a w) = both (g a) (collect g w)
