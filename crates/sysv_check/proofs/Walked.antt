-- What a walk over a list answers, by the list at its first match.
--     Split, first_of_split     a list at its first match, and the probes up to it
--     walk_found, found_walk    a walk that finds, there and back
--     walk_none, none_walk      a walk that finds nothing, there and back
-- Assumes nothing.
use Rattle.std.proofs.Common.{ℕ, suc, ◌≡◌, refl, sym, ap, ◌∙◌, Bool, true, false, List, [], ◌∷◌, ◌++◌, arith, length}
use mathlib.Core.Option.{Option, some, none, none-ne-some}
use Rattle.symbol.specs.Table.{symbol_index}
use Rattle.symbol.specs.declared.table.SymbolIndex.{SymbolIndex}
use Rattle.std.specs.Prelude as std
use Rattle.lookup.specs.Pick.{first_of, up_to}
use Rattle.lookup.specs.Wanted.{answer_after, walk, found, missing}
use Rattle.lookup.proofs.Picking.{All, by-test, none_first_of, first_of_none}

found_same : (i j m n : ℕ) → found (symbol_index i) m ≡ found (symbol_index j) n → (i ≡ j) × (m ≡ n)
found_same i j m n e =
    let symbols : std.Some (symbol_index i) ≡ std.Some (symbol_index j) = ap (λ l. l.symbol) e in
    let z : symbol_index i ≡ symbol_index j = cc in
    (ap (λ (x : SymbolIndex). x.0) z, ap (λ l. l.probes) e)

missing_found : {A : Type 0} (m n : ℕ) (s : SymbolIndex) → missing m ≡ found s n → A
missing_found m n s e = let symbols : std.None ≡ std.Some s = ap (λ l. l.symbol) e in cc

module _ (p : ℕ → Bool) where
  pub record Split (xs : List ℕ) (y : ℕ) : Type 0 where
    pub before : List ℕ
    pub after : List ℕ
    pub whole : xs ≡ before ++ (y ∷ after)
    pub earlier : All (λ j. p j ≡ false) before
    pub passes : p y ≡ true
    pub probes : length (up_to p xs) ≡ suc (length before)

  first_of_split : (xs : List ℕ) (y : ℕ) → first_of p xs ≡ some y → Split xs y
  first_of_split [] y h = absurd (none-ne-some y h)
  first_of_split (x ∷ xs) y h =
      by-test (p x)
      (λ e. let h' = rw e at h in let z : x ≡ y = cc in
      record { before = []; after = xs; whole = ap (λ w. w ∷ xs) z; earlier = tt; passes = rw (← z) e; probes = rw e })
      (λ e. let r = first_of_split xs y (rw e at h) in
      record {
        before = x ∷ r.before;
        after = r.after;
        whole = ap (λ l. x ∷ l) r.whole;
        earlier = (e, r.earlier);
        passes = r.passes;
        probes = rw e (ap suc r.probes);
      })

  up_to_none : (xs : List ℕ) → All (λ j. p j ≡ false) xs → length (up_to p xs) ≡ length xs
  up_to_none [] h = refl
  up_to_none (x ∷ xs) h = rw h.0 (ap suc (up_to_none xs h.1))

  pub walk_found : (xs : List ℕ) (i n : ℕ) → walk p xs ≡ found (symbol_index i) n
      → (s : Split xs i) × (n ≡ suc (length s.before))
  walk_found xs i n h = by (first_of p xs) refl h
    where
      by : (o : Option ℕ) → first_of p xs ≡ o → answer_after o (length (up_to p xs)) ≡ found (symbol_index i) n
          → (s : Split xs i) × (n ≡ suc (length s.before))
      by none e g = missing_found (length (up_to p xs)) n (symbol_index i) g
      by (some j) e g =
          let same = found_same j i (length (up_to p xs)) n g in
          let s = first_of_split xs i (e ∙ ap (λ x. some x) same.0) in
          (s, sym same.1 ∙ s.probes)

  at_first : (before after : List ℕ) (i : ℕ) → All (λ j. p j ≡ false) before → p i ≡ true
      → (first_of p (before ++ (i ∷ after)) ≡ some i) × (length (up_to p (before ++ (i ∷ after))) ≡ suc (length before))
  at_first [] after i h e = (rw e, rw e)
  at_first (x ∷ before) after i h e =
      let r = at_first before after i h.1 e in
      (rw h.0 r.0, rw h.0 (ap suc r.1))

  pub found_walk : (xs before after : List ℕ) (i : ℕ) → xs ≡ before ++ (i ∷ after) → All (λ j. p j ≡ false) before
      → p i ≡ true → walk p xs ≡ found (symbol_index i) (suc (length before))
  found_walk xs before after i split h e =
      let r = at_first before after i h e in
      rw (split, r.0, r.1)

  pub walk_none : (xs : List ℕ) (n : ℕ) → walk p xs ≡ missing n → All (λ j. p j ≡ false) xs
  walk_none xs n h = by (first_of p xs) refl h
    where
      by : (o : Option ℕ) → first_of p xs ≡ o → answer_after o (length (up_to p xs)) ≡ missing n → All (λ j. p j ≡ false) xs
      by none e g = none_first_of p xs e
      by (some j) e g = missing_found n (length (up_to p xs)) (symbol_index j) (sym g)

  pub none_walk : (xs : List ℕ) → All (λ j. p j ≡ false) xs → walk p xs ≡ missing (length xs)
  none_walk xs h = rw (first_of_none p xs h, up_to_none xs h)
