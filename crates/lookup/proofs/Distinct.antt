-- What a wanted symbol has, and that one symbol is wanted for one name and one version (demand 3, last sentence).
--     wanted_named, wanted_fits    its name is read and is the name; its version matches the need
--     wanted_one                   two that are asked for, each with a version, and want one symbol, are the same
--     walk_wanted                  what a walk finds is a match
-- Assumes nothing.
use Rattle.std.proofs.Common.{ℕ, ◌≡◌, refl, sym, ap, ◌∙◌, Bool, true, List, length, Some}
use mathlib.Core.Option.{Option, some, none}
use Rattle.symbol.specs.Table.{symbol_index}
use Rattle.endian.specs.declared.kinds.Class.{Class}
use Rattle.endian.specs.declared.kinds.Order.{Order}
use Rattle.strings.proofs.Meaning.{false_true, same_true}
use Rattle.symbol.specs.declared.table.SymbolIndex.{SymbolIndex}
use Rattle.version_match.specs.declared.Need.{Need}
use Rattle.version_match.specs.Match.{matching}
use Rattle.version_match.proofs.Decides.{match_one}
use Rattle.lookup.specs.Pick.{first_of, up_to}
use Rattle.lookup.specs.Wanted.{Parts, Asked, name_of, is_named, wanted, wanted_in, found, answer_after, walk}
use Rattle.lookup.proofs.Picking.{and_left, and_right, first_of_passes}

-- a name that is read and is the one asked for
named_read : (name : List ℕ) (o : Option (List ℕ)) → is_named name o ≡ true → o ≡ some name
named_read name none h = false_true h
named_read name (some n) h = ap some (same_true n name h)

module _ (class : Class) (order : Order) (p : Parts) (asked : Asked) (i : ℕ) where
  abbrev name_here : Option (List ℕ)
  name_here = name_of class order p.symbols p.strings i

  abbrev fits_here : Bool
  fits_here = matching order p.versyms p.store p.version_strings (symbol_index i) asked.need asked.need_name

  pub wanted_named : wanted class order p asked i ≡ true
      → name_of class order p.symbols p.strings i ≡ some asked.name
  unfolding wanted_in
  wanted_named h = named_read asked.name name_here (and_left (is_named asked.name name_here) fits_here h)

  pub wanted_fits : wanted class order p asked i ≡ true
      → matching order p.versyms p.store p.version_strings (symbol_index i) asked.need asked.need_name ≡ true
  unfolding wanted_in
  wanted_fits h = and_right (is_named asked.name name_here) fits_here h

some_one : {A : Type 0} (a b : A) → some a ≡ some b → a ≡ b
some_one a b e = cc

module _ (class : Class) (order : Order) (p : Parts) (asked asked' : Asked) (hash hash' : ℕ) (i : ℕ) where
  pub wanted_one : asked.need ≡ Need.Hash hash → asked'.need ≡ Need.Hash hash'
      → wanted class order p asked i ≡ true → wanted class order p asked' i ≡ true
      → (asked.name ≡ asked'.name) × (asked.need_name ≡ asked'.need_name) × (hash ≡ hash')
  wanted_one need need' h h' =
      let fits = rw need at (wanted_fits class order p asked i h) in
      let fits' = rw need' at (wanted_fits class order p asked' i h') in
      let one = match_one order p.versyms p.store p.version_strings (symbol_index i) hash hash' asked.need_name
      asked'.need_name fits fits' in (
        some_one asked.name asked'.name
            (sym (wanted_named class order p asked i h) ∙ wanted_named class order p asked' i h'),
        one.1,
        one.0,
      )

found_one : (i j probes probes' : ℕ) → found (symbol_index i) probes ≡ found (symbol_index j) probes' → i ≡ j
found_one i j probes probes' e =
    let symbols : Some (symbol_index i) ≡ Some (symbol_index j) = ap (λ l. l.symbol) e in
    let z : symbol_index i ≡ symbol_index j = cc in
    ap (λ (x : SymbolIndex). x.0) z

pub walk_wanted : (match : ℕ → Bool) (xs : List ℕ) (i probes : ℕ) → walk match xs ≡ found (symbol_index i) probes
    → match i ≡ true
walk_wanted match xs i probes h = by (first_of match xs) refl h
  where
    by : (o : Option ℕ) → first_of match xs ≡ o → answer_after o (length (up_to match xs)) ≡ found (symbol_index i) probes
        → match i ≡ true
    by none e h = let symbols = ap (λ l. l.symbol) h in cc
    by (some j) e h = rw (← (found_one j i (length (up_to match xs)) probes h)) (first_of_passes match xs j e)
