-- `gnu_length::highest_bucket` meets its contract. Invariant: the highest so far and the buckets from b on give the
-- highest. Assumes nothing.
use Rattle.std.proofs.Common.{ℕ, ◌+◌, ◌-◌, ◌*◌, max, ◌≡◌, List, map}
use Rattle.endian.specs.declared.kinds.Order.{Order}
use Rattle.endian.specs.Word.{word_at}
use Rattle.lookup.specs.Pick.{from, largest}
use Rattle.gnu_length.specs.Passes.{highest_of}
use Rattle.gnu_length.proofs.highest_bucket.Given as goal

abbrev pub bucket : Order → List ℕ → ℕ → ℕ → ℕ
bucket order table at b = word_at order 4 table (at + b * 4)

abbrev pub invariant-loop-b : goal.invariant-loop-b
invariant-loop-b l =
    max l.highest (largest (map (bucket l.order l.table l.buckets_at) (from l.b (l.bucket_count - l.b))))
    ≡ highest_of l.order l.table l.buckets_at l.bucket_count
