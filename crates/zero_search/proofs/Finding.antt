-- What the kit's search for a zero byte finds is the first zero. Assumes nothing.
--     first_taken    the first of the places that its iterator goes through, or the length where there is none
--     first_within   which is no more than the length
--     first_drop     the first zero of what is left after some that are none
--     first_stands   a place is the first zero from itself on where a zero stands there, or nothing
use Rattle.std.proofs.Common.{◌≡◌, ◌+◌, ◌≤◌, ◌<◌, ◌∷◌, ℕ, Bool, true, false, cond, suc, zero, get_or, List, [], Option, Some, None, length, drop, refl, sym, ap, ◌∙◌, arith, ltb, ltb-true, ltb-false}
use Rattle.std.specs.List.{position_or_len}
use Rattle.std.specs.Option.{unwrap_or}
use Rattle.std.proofs.lemmas.Bool.{false≢true}
use Rattle.std.proofs.lemmas.List.Recursion.{is_position_or_len}
use Rattle.std.proofs.lemmas.List.Sums.{fails_before_first, passes_at_first, prefix_len-le-length}
use Rattle.memchr.specs.Find.{TakesFirst, NoneBefore, Passes, is_byte, places, places_between}
use Rattle.memchr.proofs.lemmas.PlaceLemmas.{places_between-first, places_between-none}
use Rattle.endian.specs.First.{first, is_zero}
use Rattle.endian.proofs.First.{first_end}
use Rattle.zero_search.specs.Zeros.{first_zero}

-- no zero stands before the first
pub first_drop : (k : ℕ) (s : List ℕ) → k ≤ first is_zero s → first is_zero s ≡ k + first is_zero (drop k s)
unfolding first
first_drop zero s le = omega arith
first_drop (suc k) [] le = absurd (omega arith)
first_drop (suc k) (b ∷ s) le = by (is_zero b) (first_drop k s) le
  where
    by : (t : Bool) → (k ≤ first is_zero s → first is_zero s ≡ k + first is_zero (drop k s))
        → suc k ≤ cond t 0 (suc (first is_zero s)) → cond t 0 (suc (first is_zero s)) ≡ suc k + first is_zero (drop k s)
    by true later h = absurd (omega arith)
    by false later h = omega (arith, later (omega arith))

abbrev head : List ℕ → ℕ
head [] = 0
head (x ∷ xs) = x

module _ (s : List ℕ) where
  abbrev at : ℕ
  at = position_or_len is_zero s

  within : at ≤ length s
  within = prefix_len-le-length _ s

  none_before : (k : ℕ) → k < at → ¬ (is_zero (get_or s k 0) ≡ true)
  none_before k less is = false≢true (sym (fails_before_first is_zero s k 0 less) ∙ is)

  leads : at < length s → places (is_byte 0) s ≡ at ∷ places_between (is_byte 0) s (at + 1) (length s)
  leads less =
      let before : NoneBefore (Passes (is_byte 0) s) 0 (length s) at = record { low = omega arith; high = less; before = λ k low high. none_before k high } in
      places_between-first (is_byte 0) s 0 (length s) at before (passes_at_first is_zero s 0 less)

  empty : length s ≤ at → places (is_byte 0) s ≡ []
  empty all = places_between-none (is_byte 0) s 0 (length s) (omega arith) (λ k low high. none_before k (omega arith))

  below : (x : ℕ) (after : List ℕ) → places (is_byte 0) s ≡ x ∷ after → at < length s
  below x after some = in_range (ltb at (length s)) refl
    where
      in_range : (t : Bool) → ltb at (length s) ≡ t → at < length s
      in_range true e = ltb-true _ _ e
      in_range false e = absurd (omega (arith, ap length (sym some ∙ empty (ltb-false _ _ e))))

  taken_at : (t : Bool) → ltb at (length s) ≡ t → (r : Option ℕ) (after : List ℕ) → TakesFirst (places (is_byte 0) s) r after
      → unwrap_or r (length s) ≡ at
  taken_at true e None after (none, rest) = absurd (omega (arith, ap length (sym none ∙ leads (ltb-true _ _ e))))
  taken_at true e (Some x) after some = ap head (sym some ∙ leads (ltb-true _ _ e))
  taken_at false e None after taken = omega (arith, within, ltb-false _ _ e)
  taken_at false e (Some x) after some = absurd (omega (arith, below x after some, ltb-false _ _ e))

  is_at : first is_zero s ≡ at
  unfolding first
  is_at = is_position_or_len (first is_zero) is_zero refl (λ x xs. grind arith) s

  pub first_within : first is_zero s ≤ length s
  first_within = rw is_at within

  pub first_stands : (i : ℕ) → i ≤ length s → (i < length s → first_zero s i ≡ i) → i ≡ first_zero s i
  first_stands i le here = at_end (ltb i (length s)) refl
    where
      at_end : (t : Bool) → ltb i (length s) ≡ t → i ≡ first_zero s i
      at_end true e = sym (here (ltb-true _ _ e))
      at_end false e = omega (arith, first_end is_zero s i (ltb-false _ _ e))

  pub first_taken : (r : Option ℕ) (after : List ℕ) → TakesFirst (places (is_byte 0) s) r after → unwrap_or r (length s) ≡ first is_zero s
  first_taken r after taken = taken_at (ltb at (length s)) refl r after taken ∙ sym is_at
