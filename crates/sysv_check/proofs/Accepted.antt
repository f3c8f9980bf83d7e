-- A SysV table that the checker accepts keeps `Right` (specs/Accepted). Every match stands on the chain of the name's hash
-- (T3), and that chain holds no other numbers than symbols of 1 to n - 1.
--     accepted     that theorem
--     sysv_last    two lookups that state different versions never get one symbol
-- Assumes nothing.
use Rattle.std.proofs.Common.{ℕ, suc, ◌%◌, ◌≤◌, ◌<◌, ◌≡◌, refl, sym, ap, ◌∙◌, Bool, true, false, cond, true≢false, List, [], ◌∷◌, arith, mod-lt, ltb, length, eq-eqb, ne_eqb, Result, Ok, Err}
use mathlib.Core.Option.{Option, some, none}
use Rattle.endian.specs.declared.kinds.Class.{Class}
use Rattle.endian.specs.declared.kinds.Order.{Order}
use Rattle.endian.specs.declared.refusals.Refusal.{Refusal}
use Rattle.endian.specs.Refusals.{limit, any_long, too_long, unless_refused}
use Rattle.strings.proofs.Meaning.{same_refl}
use Rattle.symbol.specs.Table.{symbol_index}
use Rattle.name_hash.specs.Hash.{sysv_hash}
use Rattle.lookup.specs.declared.Lookup.{Lookup}
use Rattle.lookup.specs.Pick.{first_of, up_to}
use Rattle.lookup.specs.Matches.{Matches}
use Rattle.lookup.specs.Wanted.{Parts, Asked, all_parts, wanted, wanted_in, walk, answer_after, found as found_at}
use Rattle.lookup.proofs.Picking.{All, all_map, by-test, none_first_of}
use Rattle.lookup.proofs.Distinct.{wanted_named, wanted_fits}
use Rattle.sysv.specs.Table.{SysvTable, numbers, sysv_lookup}
use Rattle.sysv_header.specs.Header.{sysv_fault}
use Rattle.sysv.specs.Find.{sysv_table, sysv_find}
use Rattle.sysv.proofs.Theorems.{find_one}
use Rattle.sysv_check.specs.declared.table.Fault.{Fault}
use Rattle.sysv_check.specs.declared.table.Fault.TheVariants.{Refused}
use Rattle.sysv_check.specs.Count.{times}
use Rattle.sysv_check.specs.Rules.{first_global, sysv_table_check}
use Rattle.sysv_check.specs.Accepted.{FirstMatch, answer_by_name, Right, AcceptedHolds, SysvLast}
use Rattle.sysv_check.specs.Check.{sysv_check}
use Rattle.sysv_check.proofs.Counting.{times-all, times-append, all-times}
use Rattle.sysv_check.proofs.Ruled.{Ruled, rules}
use Rattle.sysv_check.proofs.Standing.{on_chain, stands}
use Rattle.sysv_check.proofs.Walked.{walk_found, found_walk, walk_none, none_walk}

-- an acceptance is past the limit, and past the table's places
not_long : (b : Bool) (x : Result (Unit {0}) Fault) → cond b (Err (Refused too_long)) x ≡ Ok tt → (b ≡ false) × (x ≡ Ok tt)
not_long true x h = (cc, cc)
not_long false x h = (refl, h)

no_fault : (o : Option Refusal) (x : Result (Unit {0}) Fault) → unless_refused (λ r. Err (Refused r)) o x ≡ Ok tt
    → (o ≡ none) × (x ≡ Ok tt)
no_fault none x h = (refl, h)
no_fault (some r) x h = (cc, cc)

-- the parts of the two together
both_short : (a b c d : Bool) → cond a true (cond b true (cond c true false)) ≡ false → d ≡ false
    → cond a true (cond b true (cond c true d)) ≡ false
both_short true b c d h e = h
both_short false true c d h e = h
both_short false false true d h e = h
both_short false false false d h e = e

not_refused_ok : (l : Lookup) (r : Refusal) → ¬ (Ok l ≡ Err r)
not_refused_ok l r h = cc

same_ok : (l m : Lookup) → ◌≡◌ {A = Result Lookup Refusal} (Ok l) (Ok m) → l ≡ m
same_ok l m h = cc

module _ (class : Class) (order : Order) (p : Parts) (asked : Asked)
    (good : sysv_check class order p.table p.symbols p.strings ≡ Ok tt)
    (short : any_long (p.versyms ∷ p.version_strings ∷ asked.name ∷ asked.need_name ∷ []) ≡ false) where
  abbrev t : SysvTable
  t = sysv_table class order p

  abbrev match : ℕ → Bool
  match = wanted class order p asked

  abbrev home : ℕ
  home = sysv_hash asked.name % t.bucket_count

  past : (any_long (p.table ∷ p.symbols ∷ p.strings ∷ []) ≡ false) × (sysv_fault order p.table ≡ none)
      × (sysv_table_check t first_global ≡ Ok tt)
  unfolding sysv_check
  past =
      let a = not_long (any_long (p.table ∷ p.symbols ∷ p.strings ∷ []))
      (unless_refused (λ r. Err (Refused r)) (sysv_fault order p.table) (sysv_table_check t first_global)) good in
      let f = no_fault (sysv_fault order p.table) (sysv_table_check t first_global) a.1 in
      (a.0, f.0, f.1)

  ruled : Ruled t first_global
  ruled = rules t first_global past.2

  home_low : home < t.bucket_count
  home_low = mod-lt (sysv_hash asked.name) ruled.shaped.buckets

  none_long : any_long (all_parts p asked) ≡ false
  none_long =
      both_short (ltb limit (length p.table)) (ltb limit (length p.symbols)) (ltb limit (length p.strings)) _
      past.0 short

  walked : answer_by_name class order p asked ≡ Ok (walk match (numbers t home))
  unfolding sysv_find sysv_lookup
  walked =
      let buckets = ruled.shaped.buckets in
      rw (none_long, past.1, ne_eqb t.bucket_count 0 (omega arith))

  -- a match is what is wanted
  wanted_if : (i : ℕ) → Matches class order p asked i → match i ≡ true
  unfolding wanted_in
  wanted_if i m = rw (m.name, m.version, same_refl asked.name)

  matches_if : (i : ℕ) → match i ≡ true → Matches class order p asked i
  matches_if i h = record { name = wanted_named class order p asked i h; version = wanted_fits class order p asked i h }

  not_wanted : (i : ℕ) → ¬ Matches class order p asked i → match i ≡ false
  not_wanted i ne = by-test (match i) (λ h. absurd (ne (matches_if i h))) (λ h. h)

  no_match : (i : ℕ) → match i ≡ false → ¬ Matches class order p asked i
  no_match i h m = true≢false (sym (wanted_if i m) ∙ h)

  -- what is on no chain is no match
  missed : All (λ j. match j ≡ false) (numbers t home) → (i : ℕ) → first_global ≤ i → i < t.count
      → ¬ Matches class order p asked i
  missed none_there i lo hi m =
      let there = stands t first_global ruled asked.name i lo hi m.name in
      no_match i (times-all (λ j. match j ≡ false) i (numbers t home) none_there (omega arith)) m

  first_match : (i n : ℕ) → answer_by_name class order p asked ≡ Ok (found_at (symbol_index i) n)
      → (first_global ≤ i) × (i < t.count) × (m : FirstMatch class order p asked (numbers t home) i)
      × (n ≡ suc (length m.before))
  first_match i n h =
      let found = walk_found match (numbers t home) i n (same_ok _ _ (sym walked ∙ h)) in
      let s = found.0 in
      let there : 0 < times i (numbers t home) =
      rw (s.whole, times-append i s.before (i ∷ s.after), eq-eqb i i refl) (omega arith) in
      let place = on_chain t first_global ruled home home_low i there in (
        place.0,
        place.1,
        record {
          before = s.before;
          after = s.after;
          whole = s.whole;
          none_before = λ j. times-all (λ k. ¬ Matches class order p asked k) j s.before (all_map no_match s.before s.earlier);
          matches = matches_if i s.passes;
        },
        found.1,
      )

  some_found : (i : ℕ) → first_global ≤ i → i < t.count → Matches class order p asked i
      → (j : ℕ) × (m : FirstMatch class order p asked (numbers t home) j)
      × (answer_by_name class order p asked ≡ Ok (found_at (symbol_index j) (suc (length m.before))))
  some_found i lo hi m = by (first_of match (numbers t home)) refl
    where
      by : (o : Option ℕ) → first_of match (numbers t home) ≡ o
          → (j : ℕ) × (f : FirstMatch class order p asked (numbers t home) j)
          × (answer_by_name class order p asked ≡ Ok (found_at (symbol_index j) (suc (length f.before))))
      by none e = absurd (missed (none_first_of match (numbers t home) e) i lo hi m)
      by (some j) e =
          let h : answer_by_name class order p asked ≡ Ok (found_at (symbol_index j) (length (up_to match (numbers t home)))) =
          walked ∙ ap (λ (o : Option ℕ). Ok (answer_after o (length (up_to match (numbers t home))))) e in
          let f = first_match j (length (up_to match (numbers t home))) h in
          (j, f.2, h ∙ ap (λ n. Ok (found_at (symbol_index j) n)) f.3)

  is_right : Right class order p asked
  is_right = record {
    chain = numbers t home;
    on_its_chain = (ruled.each home home_low).path;
    not_refused = λ r h. not_refused_ok _ r (sym walked ∙ h);
    nothing_then = λ n h. missed (walk_none match (numbers t home) n (same_ok _ _ (sym walked ∙ h)));
    nothing_if = λ none-matches.
        walked ∙ ap (λ l. Ok l) (none_walk match (numbers t home)
        (all-times (λ j. match j ≡ false) (numbers t home) (λ j there.
        let place = on_chain t first_global ruled home home_low j there in
        not_wanted j (none-matches j place.0 place.1))));
    found_then = first_match;
    found_first = λ i m.
        walked ∙ ap (λ l. Ok l) (found_walk match (numbers t home) m.before m.after i m.whole
        (all-times (λ j. match j ≡ false) m.before (λ j there. not_wanted j (m.none_before j there))) (wanted_if i m.matches));
    found_if = some_found;
  }

pub accepted : AcceptedHolds
accepted class order p asked good short = is_right class order p asked good short

pub sysv_last : SysvLast
sysv_last class order p = find_one class order p
