-- The checker's answer, step by step.
--     judge_header, header_broken, header_kept    the answer by G1 to G5; what a table keeps that breaks none of them
--     numbered, unnumbered                        the number of a symbol that a pass answers
--     bits_search                                 what the bloom filter says of G8
--     from_names_6, _7, _8, _kept                 the answer by G6 to G8
--     wrong_bucket_lem, right_buckets             what the pass over the buckets says of G9
--     ends_search                                 what the pass by the next symbol looks for
--     from_buckets_9, _10, _accepted              the answer by G9 and G10
--     check_from, check_told                      the answer by what was read of the parts
-- Assumes nothing.
use Rattle.std.proofs.Common.{ℕ, zero, suc, ◌+◌, ◌-◌, ◌≤◌, ◌<◌, ◌≡◌, refl, sym, ap, ◌∙◌, Bool, true, false, cond, not, ◌&&◌, List, [], ◌∷◌, map, Result, Ok, Err, Some, None, option_map, arith, leb, ltb, eqb, length, leb-true, eqb-true, eq-eqb, ne_eqb, lt-ltb}
use mathlib.Core.Bool.{beq}
use Rattle.std.specs.Prelude as std
use mathlib.Core.Option.{Option, some, none}
use native.Mathlib.Nat.{sub-zero}
use borrow.Author.Tests.{eqb-false}
use Rattle.endian.specs.declared.kinds.Class.{Class}
use Rattle.endian.specs.declared.kinds.Order.{Order}
use Rattle.endian.specs.declared.refusals.Refusal.{Refusal}
use Rattle.endian.specs.Refusals.{limit, too_long, unless_refused}
use Rattle.symbol.specs.declared.table.SymbolIndex.{SymbolIndex}
use Rattle.symbol.specs.Table.{symbols_in, symbol_count, symbol_index}
use Rattle.lookup.specs.Pick.{from, largest}
use Rattle.lookup.proofs.Picking.{All, all_from, first_of_cong, by-test, and_right, beq_eq}
use Rattle.gnu_table.specs.declared.header.Layout.{Layout}
use Rattle.gnu_table.specs.Table.{GnuTable, hashed, value_of, odd}
use Rattle.gnu_table.specs.Header.{gnu_fault, layout_of, gnu_header}
use Rattle.gnu_table.specs.Layout.{table_with}
use Rattle.gnu_rules.specs.declared.Fault.{Fault}
use Rattle.gnu_rules.specs.declared.Fault.TheVariants.{Broken, Refused}
use Rattle.gnu_rules.specs.Rules.{gnu_bucket_of, power_of_two, base_within, some_bucket, shift_within, enough_values, name_readable, value_is_hash, bloom_bits_set, bucket_right, ends_at_last, whole, lowest, findings, longest, verdict, gnu_table_check, gnu_check}
use Rattle.gnu_rules.proofs.Kept.{power_low, lowest_none}
use Rattle.lookup.specs.Search.{answered, first_from}
use Rattle.gnu_rules.specs.HeaderRules.{first_broken, broken_header}
use Rattle.gnu_check_values.specs.Blooms.{hash_passes}
use Rattle.gnu_check_values.proofs.Filtered.{bits_set}
use Rattle.gnu_check_buckets.specs.Runs.{run_start, wrong_bucket}
use Rattle.gnu_check_ends.specs.Ends.{last_of_run, ends_run, wrong_end, chain_start, longest_chain}
use Rattle.gnu_check.specs.Verdicts.{Sound, from_names, from_buckets}
use Rattle.gnu_check.proofs.Lasts.{last_of_run_lem, longest_run, longest_run_lem}
use Rattle.lookup.proofs.Searching.{first_some, first_none}
use Rattle.gnu_check.proofs.Wrong.{least_wrong_lem}

-- ---- G1 to G5

-- the answer after the number of a broken rule, if one is
abbrev pub after_header : std.Option ℕ → Result ℕ Fault → Result ℕ Fault
after_header None answer = answer
after_header (Some n) answer = Err (Broken n 0)

judge : (g1 g2 g3 g4 g5 : Bool) (most : ℕ) (rest : List (Option ℕ))
    → verdict most 1 (whole g1 ∷ whole g2 ∷ whole g3 ∷ whole g4 ∷ whole g5 ∷ rest)
    ≡ after_header (first_broken g1 g2 g3 g4 g5) (verdict most 6 rest)
unfolding verdict
judge false g2 g3 g4 g5 most rest = refl
judge true false g3 g4 g5 most rest = refl
judge true true false g4 g5 most rest = refl
judge true true true false g5 most rest = refl
judge true true true true false most rest = refl
judge true true true true true most rest = refl

-- what it says that no rule is broken first
all_five : (g1 g2 g3 g4 g5 : Bool) → None ≡ first_broken g1 g2 g3 g4 g5
    → (g1 ≡ true) × (g2 ≡ true) × (g3 ≡ true) × (g4 ≡ true)
all_five false g2 g3 g4 g5 h = cc
all_five true false g3 g4 g5 h = cc
all_five true true false g4 g5 h = cc
all_five true true true false g5 h = cc
all_five true true true true g5 h = (refl, refl, refl, refl)

module _ (class : Class) (order : Order) (table symbols strings : List ℕ) (layout : Layout) (count : ℕ) where
  abbrev t : GnuTable
  t = table_with class order table symbols strings layout count

  judge_header : gnu_table_check t ≡ after_header (broken_header layout count) (from_names t)
  unfolding broken_header from_names findings
  judge_header =
      judge (base_within t) (power_of_two t.bloom_count) (some_bucket t) (shift_within t) (enough_values t) (longest t)
      (lowest (name_readable t) (hashed t) ∷
      lowest (value_is_hash t) (hashed t) ∷
      lowest (bloom_bits_set t) (hashed t) ∷
      lowest (bucket_right t) (from 0 t.bucket_count) ∷
      lowest (ends_at_last t) (hashed t) ∷
      [])

  pub header_broken : (n : ℕ) → Some n ≡ broken_header layout count → Err (Broken n 0) ≡ gnu_table_check t
  header_broken n is = sym (judge_header ∙ ap (λ o. after_header o (from_names t)) (sym is))

  pub header_kept : None ≡ broken_header layout count → from_names t ≡ gnu_table_check t
  header_kept is = sym (judge_header ∙ ap (λ o. after_header o (from_names t)) (sym is))

pub header_sound : (layout : Layout) (count : ℕ) → None ≡ broken_header layout count → Sound layout count
unfolding broken_header
header_sound layout count is =
    let base = layout.symbol_base in
    let five = all_five (leb 1 base && leb base count) (power_of_two layout.bloom_count) (leb 1 layout.bucket_count)
    (leb layout.bloom_shift 31) (leb (count - base) layout.value_count) is in
    record {
      base = leb-true base count (and_right (leb 1 base) (leb base count) five.0);
      blooms = power_low layout.bloom_count five.1;
      buckets = leb-true 1 layout.bucket_count five.2;
      shift = leb-true layout.bloom_shift 31 five.3;
    }

-- ---- G6 to G8

-- the number of a symbol that a pass answers, and that there is none
pub numbered : (s : SymbolIndex) (o : std.Option ℕ) → Some s ≡ option_map symbol_index o → Some s.0 ≡ o
numbered s None h = cc
numbered s (Some i) h = let z : s ≡ symbol_index i = cc in ap (λ x. Some x.0) z

pub unnumbered : (o : std.Option ℕ) → None ≡ option_map symbol_index o → None ≡ o
unnumbered None h = refl
unnumbered (Some i) h = cc

module _ (t : GnuTable) where
  -- an answer of a pass that looks for a broken rule
  module _ (kept : ℕ → Bool) where
    pub lowest_at : (r : ℕ) → Some r ≡ first_from (λ i. not (kept i)) t.base t.count → lowest kept (hashed t) ≡ some r
    lowest_at r answer = first_some (λ i. not (kept i)) t.base t.count r answer

    pub lowest_nowhere : None ≡ first_from (λ i. not (kept i)) t.base t.count → lowest kept (hashed t) ≡ none
    lowest_nowhere answer = first_none (λ i. not (kept i)) t.base t.count answer

  -- where there are bloom words and the shift is no more than 31, what the bloom filter says is G8
  pub bits_search : 1 ≤ t.bloom_count → t.shift ≤ 31
      → first_from (λ i. not (hash_passes t i)) t.base t.count ≡ first_from (λ i. not (bloom_bits_set t i)) t.base t.count
  unfolding first_from
  bits_search blooms small =
      ap answered
      (first_of_cong (λ i. not (hash_passes t i)) (λ i. not (bloom_bits_set t i)) (hashed t)
      (all_from _ t.base (t.count - t.base) (λ i lo hi. ap not (bits_set t blooms small i))))

  pub all_kept : t.base ≤ t.count → (kept : ℕ → Bool) → lowest kept (hashed t) ≡ none
      → (i : ℕ) → t.base ≤ i → i < t.count → kept i ≡ true
  all_kept within kept none_broken i lo hi = lowest_none kept t.base (t.count - t.base) none_broken i lo (omega arith)

module _ (t : GnuTable) where
  pub from_names_6 : (i : ℕ) → lowest (name_readable t) (hashed t) ≡ some i → from_names t ≡ Err (Broken 6 i)
  unfolding from_names verdict
  from_names_6 i six = rw six

  module _ (six : lowest (name_readable t) (hashed t) ≡ none) where
    pub from_names_7 : (i : ℕ) → lowest (value_is_hash t) (hashed t) ≡ some i → from_names t ≡ Err (Broken 7 i)
    unfolding from_names verdict
    from_names_7 i seven = rw (six, seven)

    module _ (seven : lowest (value_is_hash t) (hashed t) ≡ none) where
      pub from_names_8 : (i : ℕ) → lowest (bloom_bits_set t) (hashed t) ≡ some i → from_names t ≡ Err (Broken 8 i)
      unfolding from_names verdict
      from_names_8 i eight = rw (six, seven, eight)

      pub from_names_kept : lowest (bloom_bits_set t) (hashed t) ≡ none → from_names t ≡ from_buckets t
      unfolding from_names from_buckets verdict
      from_names_kept eight = rw (six, seven, eight)

-- ---- G9, G10 and the longest chain

eqb_swap : (a b : ℕ) → eqb a b ≡ eqb b a
eqb_swap a b =
    by-test (eqb a b) (λ e. e ∙ sym (eq-eqb b a (sym (eqb-true a b e))))
    (λ e. e ∙ sym (ne_eqb b a (λ z. eqb-false a b e (sym z))))

map_same : (f g : ℕ → ℕ) (xs : List ℕ) → All (λ x. f x ≡ g x) xs → map f xs ≡ map g xs
map_same f g [] h = refl
map_same f g (x ∷ xs) h = rw (h.0, map_same f g xs h.1)

module _ (t : GnuTable) (some-bucket : 1 ≤ t.bucket_count) where
  module _ (right : (i : ℕ) → t.base ≤ i → i < t.count → value_is_hash t i ≡ true) where
    as_search : wrong_bucket t ≡ answered (lowest (bucket_right t) (from 0 t.bucket_count))
    unfolding wrong_bucket
    as_search = rw (ne_eqb t.bucket_count 0 (omega arith)) (least_wrong_lem t some-bucket right)

    pub wrong_bucket_lem : (r : ℕ) → Some r ≡ wrong_bucket t → from_buckets t ≡ Err (Broken 9 r)
    unfolding from_buckets verdict
    wrong_bucket_lem r answer = by (lowest (bucket_right t) (from 0 t.bucket_count)) refl (answer ∙ as_search)
      where
        by : (o : Option ℕ) → lowest (bucket_right t) (from 0 t.bucket_count) ≡ o → Some r ≡ answered o
            → from_buckets t ≡ Err (Broken 9 r)
        by none nine h = cc
        by (some i) nine h = let z : r ≡ i = cc in rw (nine, z)

    pub right_buckets : None ≡ wrong_bucket t → lowest (bucket_right t) (from 0 t.bucket_count) ≡ none
    right_buckets answer = by (lowest (bucket_right t) (from 0 t.bucket_count)) (answer ∙ as_search)
      where
        by : (o : Option ℕ) → None ≡ answered o → o ≡ none
        by none h = refl
        by (some i) h = cc

  pub ends_search : wrong_end t ≡ first_from (λ i. not (ends_run t i)) t.base t.count
  unfolding wrong_end
  ends_search = rw (ne_eqb t.bucket_count 0 (omega arith))

  module _ (within : t.base ≤ t.count) (nine : lowest (bucket_right t) (from 0 t.bucket_count) ≡ none) where
    kept : (b : ℕ) → b < t.bucket_count → bucket_right t b ≡ true
    kept b low = lowest_none (bucket_right t) 0 t.bucket_count nine b (omega arith) (omega arith)

    ends_same : (i : ℕ) → t.base ≤ i → i < t.count → ends_run t i ≡ ends_at_last t i
    ends_same i lo hi = ap (beq (odd (value_of t i))) (sym (last_of_run_lem t some-bucket kept i lo hi))

    lowest_same : lowest (ends_run t) (hashed t) ≡ lowest (ends_at_last t) (hashed t)
    lowest_same =
        first_of_cong (λ i. not (ends_run t i)) (λ i. not (ends_at_last t i)) (hashed t)
        (all_from _ t.base (t.count - t.base) (λ i lo hi. ap not (ends_same i lo (omega arith))))

    pub from_buckets_10 : (i : ℕ) → lowest (ends_run t) (hashed t) ≡ some i → from_buckets t ≡ Err (Broken 10 i)
    unfolding from_buckets verdict
    from_buckets_10 i ten = rw (nine, sym lowest_same ∙ ten)

    module _ (ten : lowest (ends_run t) (hashed t) ≡ none) where
      ended : (i : ℕ) → t.base ≤ i → i < t.count → odd (value_of t i) ≡ last_of_run t i
      ended i lo hi = beq_eq _ _ (all_kept t within (ends_run t) ten i lo hi)

      -- the low bits start a chain where the buckets start a run
      starts_same : (k : ℕ) → t.base + k < t.count → chain_start t.base t.value k ≡ run_start t k
      unfolding chain_start run_start
      starts_same zero low = refl
      starts_same (suc k) low =
          let here = t.base + k in
          let place : here - t.base ≡ k = omega arith in
          let next : suc here ≡ t.base + suc k = omega arith in
          let bit : odd (t.value k) ≡ not (eqb (gnu_bucket_of t here) (gnu_bucket_of t (t.base + suc k))) =
          sym (ap (λ i. odd (t.value i)) place)
          ∙ (rw (next, lt-ltb (t.base + suc k) t.count low) at (ended here (omega arith) (omega arith)))
          ∙ ap not (eqb_swap (gnu_bucket_of t (t.base + suc k)) (gnu_bucket_of t here)) in
          rw (bit, starts_same k (omega arith))
          (by-test (eqb (gnu_bucket_of t here) (gnu_bucket_of t (t.base + suc k))) (λ e. rw e) (λ e. rw e))

      chain_is : longest_chain t.base t.value t.count ≡ longest_run t
      chain_is =
          ap largest
          (map_same (λ i. suc i - chain_start t.base t.value (i - t.base)) (λ i. suc i - run_start t (i - t.base))
          (hashed t)
          (all_from _ t.base (t.count - t.base)
          (λ i lo hi. ap (λ start. suc i - start) (starts_same (i - t.base) (omega arith)))))

      pub from_buckets_accepted : from_buckets t ≡ Ok (longest_chain t.base t.value t.count)
      unfolding from_buckets verdict
      from_buckets_accepted = rw (nine, sym lowest_same ∙ ten, chain_is, longest_run_lem t some-bucket kept)

-- ---- the parts

abbrev pub check_from : (strings_long : Bool) → Result ℕ Refusal → Result Layout Refusal → (Layout → ℕ → Result ℕ Fault)
    → Result ℕ Fault
check_from true counted header look = Err (Refused too_long)
check_from false (Err r) header look = Err (Refused r)
check_from false (Ok n) (Err r) look = Err (Refused r)
check_from false (Ok n) (Ok layout) look = look layout n

-- the parts may be tested in any order, for each is refused alike
any_order : (table_long symbols_long strings_long : Bool) (o : Option Refusal) (n : ℕ) (layout : Layout)
    (look : Layout → ℕ → Result ℕ Fault)
    → cond (cond table_long true (cond symbols_long true (cond strings_long true false))) (Err (Refused too_long))
    (unless_refused (λ r. Err (Refused r)) o (look layout n))
    ≡ check_from strings_long (cond symbols_long (Err too_long) (Ok n))
    (cond table_long (Err too_long) (unless_refused Err o (Ok layout))) look
any_order true true true o n layout look = refl
any_order true true false o n layout look = refl
any_order true false true o n layout look = refl
any_order true false false o n layout look = refl
any_order false true true o n layout look = refl
any_order false true false o n layout look = refl
any_order false false true o n layout look = refl
any_order false false false none n layout look = refl
any_order false false false (some r) n layout look = refl

check_from_lem : (class : Class) (order : Order) (table symbols strings : List ℕ)
    → gnu_check class order table symbols strings
    ≡ check_from (ltb limit (length strings)) (symbol_count class symbols) (gnu_header class order table)
    (λ layout count. gnu_table_check (table_with class order table symbols strings layout count))
unfolding gnu_check gnu_header
check_from_lem class order table symbols strings =
    any_order (ltb limit (length table)) (ltb limit (length symbols)) (ltb limit (length strings)) (gnu_fault class order table)
    (symbols_in class symbols) (layout_of class order table)
    (λ layout count. gnu_table_check (table_with class order table symbols strings layout count))

-- the same, told what was read
module _ (class : Class) (order : Order) (table symbols strings : List ℕ) where
  abbrev look : Layout → ℕ → Result ℕ Fault
  look layout count = gnu_table_check (table_with class order table symbols strings layout count)

  pub check_told : (long : Bool) (counted : Result ℕ Refusal) (head : Result Layout Refusal)
      → ltb limit (length strings) ≡ long → counted ≡ symbol_count class symbols → head ≡ gnu_header class order table
      → check_from long counted head look ≡ gnu_check class order table symbols strings
  check_told long counted head is-long is-counted is-head =
      ap (λ long. check_from long counted head look) (sym is-long)
      ∙ ap (λ counted. check_from (ltb limit (length strings)) counted head look) is-counted
      ∙ ap (λ head. check_from (ltb limit (length strings)) (symbol_count class symbols) head look) is-head
      ∙ sym (check_from_lem class order table symbols strings)
