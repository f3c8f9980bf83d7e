-- The word that the library makes of the bytes that were read at a place, in either order. Assumes nothing.
--     little_joined, big_joined    of the first k + 1 of them; in big they weigh as those of m + 1 bytes do
use Rattle.std.proofs.Common.{◌≡◌, ◌∙◌, ℕ, zero, suc, ◌+◌, ◌-◌, ◌*◌, ◌^◌, ◌<◌, ◌≤◌, List, get_or, refl, sym, arith, mul-add, mul_comm, mul_assoc}
use Rattle.std.specs.Int.{byte_worth, sum_through}
use native.Mathlib.Nat.{pow-succ'}
use Rattle.endian.specs.declared.kinds.Order.TheVariants.{Little, Big}
use Rattle.endian.specs.Word.{word_at}
use Rattle.endian.proofs.Word.{word_byte}
use Rattle.word.specs.Bytes.{BytesAt}

worth : (e b : ℕ) → byte_worth e b ≡ b * 256 ^ e
worth zero b = omega arith
worth (suc e) b = refl

shifted : (p w b : ℕ) → 256 * p * w + b * p ≡ p * (256 * w + b)
shifted p w b = rw (mul-add p (256 * w) b, mul_comm b p, mul_comm 256 p, mul_assoc p 256 w)

module _ (s bytes : List ℕ) (at n : ℕ) (read : BytesAt n s at bytes) where
  first_byte : 0 < n → get_or bytes 0 0 ≡ word_at Little 1 s at
  first_byte less =
      let none : at + 0 ≡ at = omega arith in
      rw none at (read.1 0 less) ∙ sym (word_byte Little s at)

  pub little_joined : (k : ℕ) → k < n → sum_through (λ i. byte_worth i (get_or bytes i 0)) k ≡ word_at Little (suc k) s at
  unfolding word_at
  little_joined zero less = first_byte less
  little_joined (suc k) less = rw (little_joined k (omega arith), read.1 (suc k) less) (omega (arith, mul_comm (256 ^ suc k) (get_or s (at + suc k) 0)))

  pub big_joined : (m k : ℕ) → k ≤ m → m < n
      → sum_through (λ i. byte_worth (m - i) (get_or bytes i 0)) k ≡ 256 ^ (m - k) * word_at Big (suc k) s at
  unfolding word_at
  big_joined m zero low less =
      rw (worth (m - 0) (get_or bytes 0 0), first_byte (omega arith), word_byte Little s at, word_byte Big s at) (mul_comm _ _)
  big_joined m (suc k) low less =
      let one_more : m - k ≡ suc (m - suc k) = omega arith in
      rw (big_joined m k (omega arith) less, worth (m - suc k) (get_or bytes (suc k) 0), read.1 (suc k) (omega arith), one_more, pow-succ')
      (shifted (256 ^ (m - suc k)) (word_at Big (suc k) s at) (get_or s (at + suc k) 0))
