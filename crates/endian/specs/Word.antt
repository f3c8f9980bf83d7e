-- The number in `width` bytes at a place, in either byte order.
--     word_at    the word of `width` bytes at `at`; a byte past the end counts as 0
--     field_at   the same at `at` in a record, counted from the record's own place
-- Assumes nothing.
use Rattle.std.specs.Prelude.{ℕ, zero, suc, ◌+◌, ◌*◌, ◌^◌, List, get_or}
use Rattle.endian.specs.declared.kinds.Order.{Order}
use Rattle.endian.specs.declared.kinds.Order.TheVariants.{Little, Big}

-- each further byte is the most significant so far in little, and the least significant in big
unfoldable pub word_at : Order → (width : ℕ) → List ℕ → (at : ℕ) → ℕ
word_at Little zero s at = 0
word_at Little (suc n) s at = word_at Little n s at + 256 ^ n * get_or s (at + n) 0
word_at Big zero s at = 0
word_at Big (suc n) s at = 256 * word_at Big n s at + get_or s (at + n) 0

abbrev pub field_at : Order → List ℕ → (base width at : ℕ) → ℕ
field_at order s base width at = word_at order width s (base + at)
