-- What a SysV table that the checker accepts promises (01, "SysV checker"): for any name with its own SysV hash, any version
-- table and any need, all within the limit, the lookup is not refused; it finds nothing exactly if no symbol 1 to n - 1
-- matches; else it finds the first match on the chain of the name's hash.
--     Chain             the numbers of a chain that comes to 0, from a number on, without a bound on its steps
--     OnItsChain        those of the chain of the name's hash
--     FirstMatch        the first match on a list
--     answer_by_name    the lookup with the name's own hash
--     NoMatch           no symbol 1 to n - 1 matches
--     Right             the sentence, of that answer
--     AcceptedHolds     the theorem: an accepted table keeps it; `accepted` in proofs/Accepted proves it
--     SysvLast          demand 3's last sentence for SysV tables, as a theorem: `sysv_last` there proves it
-- Assumes nothing.
use Rattle.std.specs.Prelude.{ℕ, suc, ◌+◌, ◌*◌, ◌%◌, ◌≤◌, ◌<◌, ◌≡◌, false, List, [], ◌∷◌, ◌++◌, length, Result, Ok, Err}
use Rattle.endian.specs.declared.kinds.Class.{Class}
use Rattle.endian.specs.declared.kinds.Order.{Order}
use Rattle.endian.specs.declared.refusals.Refusal.{Refusal}
use Rattle.endian.specs.Refusals.{any_long}
use Rattle.endian.specs.Word.{word_at}
use Rattle.symbol.specs.Table.{symbols_in, symbol_index}
use Rattle.name_hash.specs.Hash.{sysv_hash}
use Rattle.lookup.specs.declared.Lookup.{Lookup}
use Rattle.lookup.specs.Matches.{Matches, OneAsked}
use Rattle.lookup.specs.Wanted.{Parts, Asked, found, missing}
use Rattle.sysv_header.specs.Header.{bucket_count_of, chain_count_of, chains_at}
use Rattle.sysv.specs.Find.{sysv_find}
use Rattle.sysv_check.specs.Count.{times}
use Rattle.sysv_check.specs.Rules.{first_global}
use Rattle.sysv_check.specs.Check.{sysv_check}

abbrev pub Chain : (chain_count : ℕ) → (chain : ℕ → ℕ) → (i : ℕ) → List ℕ → Type 0
Chain chain_count chain i [] = i ≡ 0
Chain chain_count chain i (x ∷ xs) = (x ≡ i) × (0 < i) × (i < chain_count) × Chain chain_count chain (chain i) xs

module _ (class : Class) (order : Order) (p : Parts) (asked : Asked) where
  abbrev pub OnItsChain : List ℕ → Type 0
  OnItsChain =
      Chain (chain_count_of order p.table) (λ i. word_at order 4 p.table (chains_at order p.table + i * 4))
      (word_at order 4 p.table (8 + sysv_hash asked.name % bucket_count_of order p.table * 4))

  pub record FirstMatch (chain : List ℕ) (i : ℕ) : Type 0 where
    pub before : List ℕ
    pub after : List ℕ
    pub whole : chain ≡ before ++ (i ∷ after)
    pub none_before : (j : ℕ) → 0 < times j before → ¬ Matches class order p asked j
    pub matches : Matches class order p asked i

  abbrev pub answer_by_name : Result Lookup Refusal
  answer_by_name = sysv_find class order p asked (sysv_hash asked.name)

  abbrev pub NoMatch : Type 0
  NoMatch = (i : ℕ) → first_global ≤ i → i < symbols_in class p.symbols → ¬ Matches class order p asked i

  pub record Right : Type 0 where
    pub chain : List ℕ
    pub on_its_chain : OnItsChain chain
    pub not_refused : (r : Refusal) → ¬ (answer_by_name ≡ Err r)
    -- nothing exactly if no symbol 1 to n - 1 matches
    pub nothing_then : (probes : ℕ) → answer_by_name ≡ Ok (missing probes) → NoMatch
    pub nothing_if : NoMatch → answer_by_name ≡ Ok (missing (length chain))
    -- else the first match on the chain, after as many probes as numbers up to it
    pub found_then : (i probes : ℕ) → answer_by_name ≡ Ok (found (symbol_index i) probes)
        → (first_global ≤ i) × (i < symbols_in class p.symbols)
        × (m : FirstMatch chain i) × (probes ≡ suc (length m.before))
    pub found_first : (i : ℕ) (m : FirstMatch chain i) → answer_by_name ≡ Ok (found (symbol_index i) (suc (length m.before)))
    pub found_if : (i : ℕ) → first_global ≤ i → i < symbols_in class p.symbols → Matches class order p asked i
        → (j : ℕ) × (m : FirstMatch chain j) × (answer_by_name ≡ Ok (found (symbol_index j) (suc (length m.before))))

abbrev pub AcceptedHolds : Type 0
AcceptedHolds = (class : Class) (order : Order) (p : Parts) (asked : Asked)
    → sysv_check class order p.table p.symbols p.strings ≡ Ok tt
    → any_long (p.versyms ∷ p.version_strings ∷ asked.name ∷ asked.need_name ∷ []) ≡ false
    → Right class order p asked

-- two lookups that each state a version and get the same symbol asked for one name and one version; in any table, accepted
-- or not, and by any hashes
abbrev pub SysvLast : Type 0
SysvLast = (class : Class) (order : Order) (p : Parts) → OneAsked (sysv_find class order p)
