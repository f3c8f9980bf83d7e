-- What the header's tests say of G1 to G5, where the rules before G5 are kept.
--     fifth_broken    G5 is broken
--     none_broken     none is
-- Assumes nothing.
use Rattle.std.proofs.Common.{◌≡◌, ℕ, ◌-◌, ◌^◌, ◌≤◌, ◌<◌, Bool, true, ◌==◌, count_ones, Some, None, sym, ◌∙◌, le-leb}
use borrow.Author.Tests.{lt-leb}
use Rattle.gnu_table.specs.declared.header.Layout.{Layout}
use Rattle.gnu_rules.specs.HeaderRules.{broken_header}
use Rattle.gnu_rules.proofs.Powers.{power_is}

module _ (layout : Layout) (count : ℕ) (power : Bool) (low : 1 ≤ layout.symbol_base) (high : layout.symbol_base ≤ count)
    (small : layout.bloom_count < 2 ^ 32) (tested : power ≡ (count_ones layout.bloom_count == 1)) (kept : power ≡ true)
    (buckets : 1 ≤ layout.bucket_count) (shift : layout.bloom_shift ≤ 31) where
  pub fifth_broken : layout.value_count < count - layout.symbol_base → Some 5 ≡ broken_header layout count
  unfolding broken_header
  fifth_broken few =
      rw (le-leb _ _ low, le-leb _ _ high, sym (tested ∙ power_is _ small) ∙ kept, le-leb _ _ buckets, le-leb _ _ shift, lt-leb _ _ few)

  pub none_broken : count - layout.symbol_base ≤ layout.value_count → None ≡ broken_header layout count
  unfolding broken_header
  none_broken enough =
      rw (le-leb _ _ low, le-leb _ _ high, sym (tested ∙ power_is _ small) ∙ kept, le-leb _ _ buckets, le-leb _ _ shift, le-leb _ _ enough)
