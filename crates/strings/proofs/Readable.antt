-- Which strings can be read, by the last zero byte, and the search for it from the end.
--     readable_true, _false    whether there is a zero from its start on
--     readable_below           a string can be read exactly if it starts below the place after the last zero
--     after_here               the byte before n is zero: that place is n
--     after_next               it is another: look among the bytes before it
--     after_whole              where the search begins
--     after_last               the place after the zero that the library's search from the end finds, or 0
-- Assumes nothing.
use Rattle.std.proofs.Common.{ℕ, zero, suc, ◌+◌, ◌-◌, ◌≤◌, ◌<◌, ◌≡◌, refl, sym, ap, ◌∙◌, Bool, true, false, cond, List, [], ◌∷◌, ◌++◌, arith, ltb, length, get_or, take, drop, length-drop, take-suc, length-take-le, eq-eqb, eqb-true, ne_eqb, ltb-true, ltb-false, lt-ltb, le-ltb, add-zero, Option, Some, None, MatchOption}
use lib.Seq.{take-length}
use Rattle.memchr.specs.Find.{IsLastByte, is_byte}
use Rattle.endian.specs.First.{first, is_zero, readable}
use Rattle.strings.specs.AfterZero.{after_zero}

module _ (s : List ℕ) (at : ℕ) where
  pub readable_true : first is_zero (drop at s) < length s - at → readable (drop at s) ≡ true
  unfolding readable
  readable_true h = rw length-drop (lt-ltb _ _ h)

  pub readable_false : length s - at ≤ first is_zero (drop at s) → readable (drop at s) ≡ false
  unfolding readable
  readable_false h = rw length-drop (le-ltb _ _ h)

-- two tests of numbers that decide the same
same_test : (a b c d : ℕ) → (a < b → c < d) → (b ≤ a → d ≤ c) → ltb a b ≡ ltb c d
same_test a b c d if-so if-not = by (ltb a b) refl
  where
    by : (t : Bool) → ltb a b ≡ t → t ≡ ltb c d
    by true e = sym (lt-ltb c d (if-so (ltb-true a b e)))
    by false e = sym (le-ltb c d (if-not (ltb-false a b e)))

-- the place after the last zero of a list with one byte more in front
after_cons : (b : ℕ) (s : List ℕ) → 0 < after_zero s → after_zero (b ∷ s) ≡ suc (after_zero s)
unfolding after_zero
after_cons b s more = rw (lt-ltb 0 (after_zero s) more)

after_first : (b : ℕ) (s : List ℕ) → after_zero s ≤ 0 → after_zero (b ∷ s) ≡ cond (is_zero b) 1 0
unfolding after_zero
after_first b s none = rw (le-ltb 0 (after_zero s) none)

small : (z : Bool) (at : ℕ) → cond z 1 0 ≤ suc at
small true at = omega arith
small false at = omega arith

readable_start : (s : List ℕ) → readable s ≡ ltb 0 (after_zero s)
unfolding readable first after_zero
readable_start [] = refl
readable_start (b ∷ s) = by (readable_start s) (is_zero b) refl (ltb 0 (after_zero s)) refl
  where
    by : readable s ≡ ltb 0 (after_zero s) → (z : Bool) → is_zero b ≡ z → (m : Bool) → ltb 0 (after_zero s) ≡ m
        → ltb (cond z 0 (suc (first is_zero s))) (suc (length s)) ≡ ltb 0 (cond m (suc (after_zero s)) (cond z 1 0))
    by rest true e true f = lt-ltb 0 (suc (length s)) (omega arith) ∙ sym (lt-ltb 0 (suc (after_zero s)) (omega arith))
    by rest true e false f = lt-ltb 0 (suc (length s)) (omega arith)
    by rest false e true f =
        let here = ltb-true (first is_zero s) (length s) (rest ∙ f) in
        lt-ltb (suc (first is_zero s)) (suc (length s)) (omega arith) ∙ sym (lt-ltb 0 (suc (after_zero s)) (omega arith))
    by rest false e false f =
        let none = ltb-false (first is_zero s) (length s) (rest ∙ f) in
        le-ltb (suc (first is_zero s)) (suc (length s)) (omega arith)

none_there : (at : ℕ) → readable [] ≡ ltb (suc at) (after_zero [])
unfolding readable first after_zero
none_there at = sym (le-ltb (suc at) 0 (omega arith))

pub readable_below : (s : List ℕ) (at : ℕ) → readable (drop at s) ≡ ltb at (after_zero s)
readable_below s zero = readable_start s
readable_below [] (suc at) = none_there at
readable_below (b ∷ s) (suc at) = by (readable_below s at) (ltb 0 (after_zero s)) refl
  where
    by : readable (drop at s) ≡ ltb at (after_zero s) → (m : Bool) → ltb 0 (after_zero s) ≡ m
        → readable (drop at s) ≡ ltb (suc at) (after_zero (b ∷ s))
    by rest true e =
        let more = ltb-true 0 (after_zero s) e in
        rest ∙ rw (after_cons b s more)
        (same_test at (after_zero s) (suc at) (suc (after_zero s)) (λ h. omega arith) (λ h. omega arith))
    by rest false e =
        let none = ltb-false 0 (after_zero s) e in
        rest ∙ le-ltb at (after_zero s) (omega arith)
        ∙ sym (rw (after_first b s none) (le-ltb (suc at) (cond (is_zero b) 1 0) (small (is_zero b) at)))

after_zero_byte : (s : List ℕ) (b : ℕ) → b ≡ 0 → after_zero (s ++ (b ∷ [])) ≡ suc (length s)
unfolding after_zero
after_zero_byte [] b h = rw (eq-eqb b 0 h)
after_zero_byte (x ∷ s) b h = rw (after_zero_byte s b h, lt-ltb 0 (suc (length s)) (omega arith))

after_other : (s : List ℕ) (b : ℕ) → ¬ (b ≡ 0) → after_zero (s ++ (b ∷ [])) ≡ after_zero s
unfolding after_zero
after_other [] b h = rw (ne_eqb b 0 h)
after_other (x ∷ s) b h = rw (after_other s b h)

module _ (s : List ℕ) (n : ℕ) (more : 0 < n) (there : n ≤ length s) where
  last_byte : n ≡ suc (n - 1)
  last_byte = omega arith

  inside : n - 1 < length s
  inside = omega arith

  pub after_here : get_or s (n - 1) 0 ≡ 0 → after_zero (take n s) ≡ n
  after_here h =
      let long = length-take-le (n - 1) s (omega arith) in
      let last : after_zero (take (suc (n - 1)) s) ≡ suc (length (take (n - 1) s)) =
      rw (take-suc s (n - 1) 0 inside) (after_zero_byte (take (n - 1) s) (get_or s (n - 1) 0) h) in
      let same = ap (λ k. after_zero (take k s)) last_byte in
      omega arith

  pub after_next : ¬ (get_or s (n - 1) 0 ≡ 0) → after_zero (take n s) ≡ after_zero (take (n - 1) s)
  after_next h =
      let last : after_zero (take (suc (n - 1)) s) ≡ after_zero (take (n - 1) s) =
      rw (take-suc s (n - 1) 0 inside) (after_other (take (n - 1) s) (get_or s (n - 1) 0) h) in
      ap (λ k. after_zero (take k s)) last_byte ∙ last

pub after_whole : (s : List ℕ) → after_zero s ≡ after_zero (take (length s) s)
after_whole s = ap after_zero (sym (take-length s))

-- no zero stands in the last d of n + d bytes
after_tail : (s : List ℕ) (n d : ℕ) → n + d ≤ length s → ((k : ℕ) → n ≤ k → k < n + d → ¬ (get_or s k 0 ≡ 0))
    → after_zero (take (n + d) s) ≡ after_zero (take n s)
after_tail s n zero fits other = rw add-zero
after_tail s n (suc d) fits other =
    let here : n + suc d - 1 ≡ n + d = omega arith in
    let rest = after_tail s n d (omega arith) (λ k low high. other k low (omega arith)) in
    rw here at (after_next s (n + suc d) (omega arith) fits (rw here (other (n + d) (omega arith) (omega arith)))) ∙ rest

after_rest : (s : List ℕ) (n : ℕ) → n ≤ length s → ((k : ℕ) → n ≤ k → k < length s → ¬ (get_or s k 0 ≡ 0))
    → after_zero s ≡ after_zero (take n s)
after_rest s n fits other =
    let whole : n + (length s - n) ≡ length s = omega arith in
    after_whole s ∙ rw whole at (after_tail s n (length s - n) (omega arith) (λ k low high. other k low (omega arith)))

pub after_last : (s : List ℕ) (r : Option ℕ) → IsLastByte (is_byte 0) s r → MatchOption r (after_zero s ≡ 0) (λ i. after_zero s ≡ i + 1)
unfolding after_zero
after_last s None nowhere = after_rest s 0 (omega arith) (λ k low high zero. nowhere k low high (eq-eqb _ _ zero))
after_last s (Some i) (none, here) =
    let fits = none.high in
    let back : i + 1 - 1 ≡ i = omega arith in
    after_rest s (i + 1) (omega arith) (λ k low high zero. none.after k low high (eq-eqb _ _ zero))
    ∙ after_here s (i + 1) (omega arith) (omega arith) (rw back (eqb-true _ _ here))
