-- Need not be believed: what the passes over the buckets and the values compute, of places in the bytes. Contracts of inner
-- functions cite it, and proofs show that it is the length.
--     highest_of     the highest of so many buckets from a place on
--     length_from    the length by the symbols start to end - 1
-- Assumes nothing.
use Rattle.std.specs.Prelude.{ℕ, ◌+◌, ◌-◌, ◌*◌, List, map, Option}
use Rattle.endian.specs.declared.kinds.Order.{Order}
use Rattle.endian.specs.Word.{word_at}
use Rattle.lookup.specs.Pick.{from, first_of, largest}
use Rattle.gnu_table.specs.Places.{pair_ends}
use Rattle.gnu_length.specs.Length.{number_after, length_answer}

abbrev pub highest_of : Order → (table : List ℕ) → (buckets_at bucket_count : ℕ) → ℕ
highest_of order table buckets_at bucket_count = largest (map (λ b. word_at order 4 table (buckets_at + b * 4)) (from 0 bucket_count))

abbrev pub length_from : Order → (table : List ℕ) → (values_at base start end : ℕ) → Option ℕ
length_from order table values_at base start end =
    length_answer (number_after (first_of (pair_ends order table values_at base) (from start (end - start))))
