-- Laws of `word_at`, over every width and both orders. Assumes nothing.
--     joined       the word of m bytes with value a, followed by n bytes with value b
--     word_byte    one byte
--     word_join    a word of m + n bytes is its first m joined with its last n
--     word_bytes   two bytes
--     word_past    a word at or past the end is 0
--     word_lt      it fits its bytes
--     word_more    a little word: its first byte, and the word after it
--     word_under   it fits more bytes too
--     word_enough  it is the word of its first bytes where the others are past the end
use Rattle.std.proofs.Common.{ℕ, zero, suc, ◌+◌, ◌*◌, ◌^◌, ◌≤◌, ◌<◌, ◌≡◌, refl, ◌∙◌, List, arith, add-zero, add-suc, add_comm, add_assoc, mul-add, mul-zero, mul_assoc, mul-le-mul_left, lt_of_lt_of_le, pow-add, length, get_or}
use native.Mathlib.Nat.{pow-succ', pow-le-pow_right}
use lib.ListN.{get_or-eq_default}
use Rattle.endian.specs.Bytes.{Bytes}
use Rattle.endian.specs.Word.{word_at}
use Rattle.endian.specs.declared.kinds.Order.{Order}
use Rattle.endian.specs.declared.kinds.Order.TheVariants.{Little, Big}

abbrev pub joined : Order → (m n a b : ℕ) → ℕ
joined Little m n a b = a + 256 ^ m * b
joined Big m n a b = 256 ^ n * a + b

pub word_byte : (o : Order) (s : List ℕ) (at : ℕ) → word_at o 1 s at ≡ get_or s at 0
unfolding word_at
word_byte Little s at = rw add-zero (omega arith)
word_byte Big s at = rw add-zero (omega arith)

pub word_join : (o : Order) (m n : ℕ) (s : List ℕ) (at : ℕ)
    → word_at o (m + n) s at ≡ joined o m n (word_at o m s at) (word_at o n s (at + m))
unfolding word_at
word_join Little m zero s at = rw (add-zero, mul-zero, add-zero)
word_join Little m (suc n) s at =
    rw (add-suc, word_join Little m n s at, pow-add, add_assoc at m n) (simp (mul-add, mul_assoc, add_assoc))
word_join Big m zero s at = rw add-zero (omega arith)
word_join Big m (suc n) s at =
    rw (add-suc, word_join Big m n s at, add_assoc at m n, pow-succ', mul_assoc) (omega arith)

pub word_bytes : (o : Order) (s : List ℕ) (at : ℕ) → word_at o 2 s at ≡ joined o 1 1 (get_or s at 0) (get_or s (at + 1) 0)
word_bytes o s at = word_join o 1 1 s at ∙ cc (word_byte o s at, word_byte o s (at + 1))

pub word_past : (o : Order) (n : ℕ) (s : List ℕ) (at : ℕ) → length s ≤ at → word_at o n s at ≡ 0
unfolding word_at
word_past Little zero s at h = refl
word_past Little (suc n) s at h =
    rw (word_past Little n s at h, get_or-eq_default s 0 {n = at + n} (omega arith), mul-zero)
word_past Big zero s at h = refl
word_past Big (suc n) s at h =
    rw (word_past Big n s at h, get_or-eq_default s 0 {n = at + n} (omega arith))

pub word_lt : (o : Order) (n : ℕ) (s : List ℕ) (at : ℕ) → Bytes s → word_at o n s at < 256 ^ n
unfolding word_at
word_lt Little zero s at bytes = omega arith
word_lt Little (suc n) s at bytes =
    let last = mul-le-mul_left {m = get_or s (at + n) 0} {n = 255} (256 ^ n) (omega (arith, bytes (at + n))) in
    rw pow-succ' (omega (arith, word_lt Little n s at bytes))
word_lt Big zero s at bytes = omega arith
word_lt Big (suc n) s at bytes = rw pow-succ' (omega (arith, word_lt Big n s at bytes, bytes (at + n)))

pub word_more : (n : ℕ) (s : List ℕ) (at : ℕ) → word_at Little (n + 1) s at ≡ get_or s at 0 + 256 * word_at Little n s (at + 1)
word_more n s at = rw (add_comm n 1, word_join Little 1 n s at, word_byte Little s at)

pub word_under : (n m : ℕ) (s : List ℕ) (at : ℕ) → Bytes s → n ≤ m → word_at Little n s at < 256 ^ m
word_under n m s at bytes h = lt_of_lt_of_le (word_lt Little n s at bytes) (pow-le-pow_right (omega arith) h)

-- the bytes past the end are 0, so fewer bytes are enough
pub word_enough : (n m : ℕ) (s : List ℕ) (at : ℕ) → length s ≤ at + n → word_at Little (n + m) s at ≡ word_at Little n s at
word_enough n m s at h = rw (word_join Little n m s at, word_past Little m s (at + n) h) (omega arith)
