-- Demand 3 (specs/Demand3) holds.
--     demand_3, demand_3_last    the two theorems
-- Assumes nothing.
use Rattle.std.proofs.Common.{ℕ, ◌+◌, ◌-◌, ◌≤◌, ◌<◌, ◌≡◌, refl, sym, ap, ◌∙◌, subst, Bool, true, false, ◌&&◌, true≢false, List, [], ◌∷◌, ◌++◌, arith, ltb, eqb, length, Result, Ok, Err}
use mathlib.Core.Option.{Option, some, none}
use Rattle.endian.specs.declared.kinds.Class.{Class}
use Rattle.endian.specs.declared.kinds.Order.{Order}
use Rattle.endian.specs.declared.refusals.Refusal.{Refusal}
use Rattle.endian.specs.Refusals.{limit, any_long, unless_refused}
use Rattle.strings.proofs.Meaning.{same_refl}
use Rattle.name_hash.specs.Hash.{gnu_hash}
use Rattle.symbol.specs.declared.table.SymbolIndex.{SymbolIndex}
use Rattle.symbol.specs.Table.{symbols_in, symbol_index}
use Rattle.lookup.specs.declared.Lookup.{Lookup}
use Rattle.lookup.specs.Matches.{Matches}
use Rattle.lookup.specs.Pick.{from, first_of, up_to}
use Rattle.lookup.specs.Wanted.{Parts, Asked, wanted, wanted_in, found as found_at, missing as missing_at, answer_after}
use Rattle.lookup.proofs.Distinct.{wanted_named, wanted_fits}
use Rattle.lookup.proofs.Picking.{from_all, none_first_of, first_of_lowest, Lowest, by-test}
use Rattle.gnu_table.specs.Table.{GnuTable, hashed, value_of, same_but_low, bloom_filter}
use Rattle.gnu_table.specs.Header.{gnu_fault}
use Rattle.gnu.specs.Lookup.{gnu_chain, start_of, walk_at, filtered, gnu_lookup}
use Rattle.gnu.specs.Find.{gnu_table, gnu_find}
use Rattle.gnu.proofs.Theorems.{find_one}
use Rattle.gnu_rules.specs.declared.Fault.{Fault}
use Rattle.gnu_rules.specs.declared.Fault.TheVariants.{Refused}
use Rattle.gnu_rules.specs.Rules.{gnu_table_check, gnu_check}
use Rattle.gnu_rules.specs.Demand3.{probes_of, symbol_base, pairs_read, LowestMatch, walked, Demand3, Demand3Holds, Demand3Last}
use Rattle.gnu_rules.proofs.Kept.{rules, accepted_longest}
use Rattle.gnu_rules.proofs.Finds.{finds_lowest}

-- answers of two kinds are never the same
found_refused : (symbol : SymbolIndex) (probes : ℕ) (r : Refusal) → ¬ (Ok (found_at symbol probes) ≡ Err r)
found_refused symbol probes r h = let z : ◌≡◌ {A = ℕ} 0 1 = cc in omega arith

found_missing : (symbol : SymbolIndex) (probes probes' : ℕ) → ¬ (◌≡◌ {A = Result Lookup Refusal} (Ok (found_at symbol probes)) (Ok (missing_at probes')))
found_missing symbol probes probes' h =
    let e : found_at symbol probes ≡ missing_at probes' = cc in
    let symbols = ap (λ l. l.symbol) e in
    let z : ◌≡◌ {A = ℕ} 0 1 = cc in omega arith

missing_refused : (probes : ℕ) (r : Refusal) → ¬ (Ok (missing_at probes) ≡ Err r)
missing_refused probes r h = let z : ◌≡◌ {A = ℕ} 0 1 = cc in omega arith

refused_accepted : (r : Refusal) (most : ℕ) → ¬ (◌≡◌ {A = Result ℕ Fault} (Err (Refused r)) (Ok most))
refused_accepted r most h = let z : ◌≡◌ {A = ℕ} 0 1 = cc in omega arith

found_symbol : (i k probes probes' : ℕ) → ◌≡◌ {A = Result Lookup Refusal} (Ok (found_at (symbol_index i) probes)) (Ok (found_at (symbol_index k) probes')) → i ≡ k
found_symbol i k probes probes' h =
    let e : found_at (symbol_index i) probes ≡ found_at (symbol_index k) probes' = cc in
    let symbols = ap (λ l. l.symbol) e in
    let z : symbol_index i ≡ symbol_index k = cc in
    ap (λ (x : SymbolIndex). x.0) z

probes_after : (o : Option ℕ) (probes : ℕ) → probes_of (Ok (answer_after o probes)) ≡ probes
probes_after none probes = refl
probes_after (some i) probes = refl

module _ (class : Class) (order : Order) (p : Parts) (asked : Asked) where
  abbrev base : ℕ
  base = symbol_base order p

  abbrev count : ℕ
  count = symbols_in class p.symbols

  abbrev want : ℕ → Bool
  want = wanted class order p asked

  wanted_matches : (k : ℕ) → want k ≡ true → Matches class order p asked k
  wanted_matches k h = record { name = wanted_named class order p asked k h; version = wanted_fits class order p asked k h }

  not_wanted : (k : ℕ) → want k ≡ false → ¬ Matches class order p asked k
  unfolding wanted_in
  not_wanted k h m =
      let yes : want k ≡ true = rw (m.name, same_refl asked.name) m.version in
      true≢false (sym yes ∙ h)

  lowest_match : (k : ℕ) → Lowest want base count k → LowestMatch class order p asked k
  lowest_match k l =
      record {
        from_base = l.low;
        below_n = l.high;
        matches = wanted_matches k l.passes;
        none_lower = λ j lo hi. not_wanted j (l.none_lower j lo hi);
      }

  -- there is one lowest match
  lowest_one : (j k : ℕ) → LowestMatch class order p asked j → LowestMatch class order p asked k → j ≡ k
  lowest_one j k l m =
      let not-less : ¬ (j < k) = λ less. m.none_lower j l.from_base less l.matches in
      let not_more : ¬ (k < j) = λ less. l.none_lower k m.from_base less m.matches in
      omega arith

  abbrev t : GnuTable
  t = gnu_table class order p

  abbrev h : ℕ
  h = gnu_hash asked.name

  lookup_counted : probes_of (gnu_lookup t h want) ≡ length (walked class order p asked)
  unfolding gnu_lookup
  lookup_counted = by (bloom_filter t h)
    where
      tested : ℕ → Bool
      tested i = same_but_low (value_of t i) h && want i

      pairs : List ℕ
      pairs = gnu_chain t (start_of t h)

      by : (f : Result Bool Refusal) → probes_of (filtered f (walk_at t h want (start_of t h)))
          ≡ length (pairs_read f (start_of t h) (up_to tested pairs))
      by (Ok false) = refl
      by (Err r) = refl
      by (Ok true) =
          by-test (eqb (start_of t h) 0) (λ e. rw e)
          (λ e. rw e (probes_after (first_of tested pairs) (length (up_to tested pairs))))

  module _ (most probes : ℕ) (few : probes ≤ most) (counted : probes ≡ length (walked class order p asked)) where
    found_lowest : (i : ℕ) → LowestMatch class order p asked i
        → Demand3 class order p asked most (Ok (found_at (symbol_index i) probes))
    found_lowest i here =
        record {
          not_refused = λ r. found_refused _ _ r;
          found = λ k. (
            (λ h. subst (LowestMatch class order p asked) (found_symbol i k probes probes h) here),
            λ l. ap (λ j. Ok (found_at (symbol_index j) probes)) (lowest_one i k here l),
          );
          missing = (
            (λ h. absurd (found_missing _ _ _ h)),
            λ h. absurd (h i here.from_base here.below_n here.matches),
          );
          counted = counted;
          few = few;
        }

    found_none : ((k : ℕ) → base ≤ k → k < count → ¬ Matches class order p asked k)
        → Demand3 class order p asked most (Ok (missing_at probes))
    found_none nothing =
        record {
          not_refused = λ r. missing_refused _ r;
          found = λ k. (
            (λ h. absurd (found_missing _ _ _ (sym h))),
            λ l. absurd (nothing k l.from_base l.below_n l.matches),
          );
          missing = ((λ h. nothing), λ h. refl);
          counted = counted;
          few = few;
        }

    -- an answer by the first wanted symbol
    by_first : base ≤ count → (o : Option ℕ) → first_of want (from base (count - base)) ≡ o
        → Demand3 class order p asked most (Ok (answer_after o probes))
    by_first within none e =
        found_none
        (λ k lo hi. not_wanted k
        (from_all (λ j. want j ≡ false) base (count - base) (none_first_of want (from base (count - base)) e) k lo
        (omega arith)))
    by_first within (some i) e =
        let all : base + (count - base) ≡ count = omega arith in
        found_lowest i (lowest_match i (rw all at (first_of_lowest want base (count - base) i e)))

-- an accepted check is an accepted table, with no fault of the header, and parts that are short enough
record Accept (class : Class) (order : Order) (p : Parts) (most : ℕ) : Type 0 where
  table : gnu_table_check (gnu_table class order p) ≡ Ok most
  header : gnu_fault class order p.table ≡ none
  short : any_long (p.table ∷ p.symbols ∷ p.strings ∷ []) ≡ false

accept : (class : Class) (order : Order) (p : Parts) (most : ℕ)
    → gnu_check class order p.table p.symbols p.strings ≡ Ok most → Accept class order p most
unfolding gnu_check
accept class order p most h =
    by-test (any_long (p.table ∷ p.symbols ∷ p.strings ∷ []))
    (λ long. absurd (refused_accepted _ most (rw long at h)))
    (λ short. go (gnu_fault class order p.table) refl short (rw short at h))
  where
    go : (o : Option Refusal) → gnu_fault class order p.table ≡ o → any_long (p.table ∷ p.symbols ∷ p.strings ∷ []) ≡ false
        → unless_refused (λ r. Err (Refused r)) o (gnu_table_check (gnu_table class order p)) ≡ Ok most → Accept class order p most
    go none none_there short h = record { table = h; header = none_there; short = short }
    go (some r) there short h = absurd (refused_accepted r most h)

all_short : (xs ys : List (List ℕ)) → any_long xs ≡ false → any_long ys ≡ false → any_long (xs ++ ys) ≡ false
all_short [] ys h k = k
all_short (x ∷ xs) ys h k =
    by-test (ltb limit (length x)) (λ e. absurd (true≢false (rw e at h))) (λ e. rw e (all_short xs ys (rw e at h) k))

pub demand_3 : Demand3Holds
unfolding gnu_find
demand_3 class order p most accepted asked short =
    let a = accept class order p most accepted in
    let t = gnu_table class order p in
    let kept = rules t most a.table in
    let f = finds_lowest t kept asked.name (wanted class order p asked) (wanted_named class order p asked) in
    rw (all_short (p.table ∷ p.symbols ∷ p.strings ∷ []) _ a.short short, a.header, f.answer)
    (by_first class order p asked most f.probes
    (subst (λ m. f.probes ≤ m) (accepted_longest t most a.table) f.few)
    (sym (probes_after (first_of (wanted class order p asked) (hashed t)) f.probes) ∙ ap probes_of (sym f.answer)
    ∙ lookup_counted class order p asked)
    kept.base_high (first_of (wanted class order p asked) (hashed t)) refl)

pub demand_3_last : Demand3Last
demand_3_last class order p = find_one class order p
