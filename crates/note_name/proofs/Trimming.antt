-- The length without the zeros at the end, by the last byte that is not 0. Assumes nothing.
--     trimmed_at_last    it ends with that byte
--     trimmed_zeros      it is 0 where all bytes are 0
use Rattle.std.proofs.Common.{ℕ, ◌+◌, ◌-◌, ◌<◌, ◌≤◌, ◌≡◌, refl, Bool, true, false, List, length, get_or, leb, arith, leb-true, leb-false}
use Rattle.note_name.specs.Trim.{trimmed_length}
use Rattle.note_name.proofs.Longest.{trimmed_longest}

module _ (name : List ℕ) where
  no_longer : (n : ℕ) → ((k : ℕ) → n ≤ k → k < length name → get_or name k 0 ≡ 0) → trimmed_length name ≤ n
  no_longer n rest = by (leb (trimmed_length name) n) refl
    where
      by : (t : Bool) → leb (trimmed_length name) n ≡ t → trimmed_length name ≤ n
      by true e = leb-true (trimmed_length name) n e
      by false e =
          let longer = leb-false (trimmed_length name) n e in
          let kept = (trimmed_longest name).0 in
          absurd (kept.1 (omega arith) (rest (trimmed_length name - 1) (omega arith) (omega (arith, kept.0))))

  pub trimmed_at_last : (last : ℕ) → last < length name → (get_or name last 0 ≡ 0 → ⊥)
      → ((k : ℕ) → last + 1 ≤ k → k < length name → get_or name k 0 ≡ 0) → trimmed_length name ≡ last + 1
  trimmed_at_last last inside some rest =
      let back : last + 1 - 1 ≡ last = omega arith in
      let reaches = (trimmed_longest name).1 (last + 1) (omega arith, λ more z. some (rw back at z)) in
      omega (arith, reaches, no_longer (last + 1) rest)

  pub trimmed_zeros : ((k : ℕ) → k < length name → get_or name k 0 ≡ 0) → trimmed_length name ≡ 0
  trimmed_zeros all = omega (arith, no_longer 0 (λ k from inside. all k inside))
