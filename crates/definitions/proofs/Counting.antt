-- How many numbers of a run pass a test, by the library's `filter` and `count`.
--     counted    the count of those of 1 to n - 1 is `count_in`
-- Assumes nothing.
use Rattle.std.proofs.Common.{◌≡◌, ℕ, zero, suc, ◌-◌, Bool, length, filter, refl, add-one}
use Rattle.std.specs.List.{range_with_len}
use Rattle.lookup.specs.Pick.{from, select}
use Rattle.lookup.proofs.Picking.{by-test}
use Rattle.definitions.specs.Definitions.{count_in}

module _ (p : ℕ → Bool) where
  filtered : (a k : ℕ) → length (filter p (range_with_len a k)) ≡ length (select p (from a k))
  filtered a zero = refl
  filtered a (suc k) =
      let rest = filtered (suc a) k in
      by-test (p a) (λ e. rw (e, add-one a, rest)) (λ e. rw (e, add-one a, rest))

  pub counted : (n : ℕ) → length (filter p (range_with_len 1 (n - 1))) ≡ count_in p n
  unfolding count_in
  counted n = filtered 1 (n - 1)
