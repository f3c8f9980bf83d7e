-- Demand 3, of the bytes: what a table that the GNU checker accepts promises of every lookup in it, and what two lookups
-- promise in any table.
--     probes_of             how many probes an answer says were made
--     symbol_base           the header's second word
--     LowestMatch           a symbol is the lowest match, from symbol_base on and below n
--     pairs_read, walked    the pairs of document 01's walk
--     Demand3               the demand's sentence, of an answer and the longest chain
--     Demand3Holds          the theorem: in an accepted table every lookup keeps it; `demand_3` in proofs/Demand3 proves it
--     Demand3Last           the demand's last sentence, as a theorem: `demand_3_last` there proves it
-- Assumes nothing.
use Rattle.std.specs.Prelude.{ℕ, ◌≤◌, ◌<◌, ◌≡◌, Bool, true, false, cond, ◌&&◌, List, [], ◌∷◌, ◌↔◌, eqb, length, Result, Ok, Err}
use Rattle.endian.specs.declared.kinds.Class.{Class}
use Rattle.endian.specs.declared.kinds.Order.{Order}
use Rattle.endian.specs.declared.refusals.Refusal.{Refusal}
use Rattle.endian.specs.Refusals.{any_long}
use Rattle.endian.specs.Word.{word_at}
use Rattle.name_hash.specs.Hash.{gnu_hash}
use Rattle.symbol.specs.Table.{symbols_in, symbol_index}
use Rattle.lookup.specs.declared.Lookup.{Lookup}
use Rattle.lookup.specs.Matches.{Matches, OneAsked}
use Rattle.lookup.specs.Pick.{up_to}
use Rattle.lookup.specs.Wanted.{Parts, Asked, wanted, found as found_at, missing as missing_at}
use Rattle.gnu_table.specs.Table.{value_of, same_but_low, bloom_filter}
use Rattle.gnu.specs.Lookup.{gnu_chain, start_of}
use Rattle.gnu.specs.Find.{gnu_table, gnu_find}
use Rattle.gnu_rules.specs.Rules.{gnu_check}

abbrev pub probes_of : Result Lookup Refusal → ℕ
probes_of (Ok lookup) = lookup.probes
probes_of (Err r) = 0

abbrev pub symbol_base : Order → Parts → ℕ
symbol_base order p = word_at order 4 p.table 4

-- pairs that are read: all of them where the filter lets the hash pass and the walk starts at a symbol, else none
abbrev pub pairs_read : Result Bool Refusal → (start : ℕ) → List ℕ → List ℕ
pairs_read (Ok true) start pairs = cond (eqb start 0) [] pairs
pairs_read (Ok false) start pairs = []
pairs_read (Err r) start pairs = []

module _ (class : Class) (order : Order) (p : Parts) (asked : Asked) where
  pub record LowestMatch (k : ℕ) : Type 0 where
    pub from_base : symbol_base order p ≤ k
    pub below_n : k < symbols_in class p.symbols
    pub matches : Matches class order p asked k
    pub none_lower : (j : ℕ) → symbol_base order p ≤ j → j < k → ¬ Matches class order p asked j

  -- from the bucket's symbol on, up to and with the first pair that ends the chain; of these up to and with the first whose
  -- value equals the name's hash but for the low bit and whose symbol has the name and the version
  abbrev pub walked : List ℕ
  walked =
      let t = gnu_table class order p in
      let h = gnu_hash asked.name in
      pairs_read (bloom_filter t h) (start_of t h)
      (up_to (λ i. same_but_low (value_of t i) h && wanted class order p asked i) (gnu_chain t (start_of t h)))

  pub record Demand3 (most : ℕ) (answer : Result Lookup Refusal) : Type 0 where
    -- the lookup is not refused
    pub not_refused : (r : Refusal) → ¬ (answer ≡ Err r)
    -- it finds symbol k exactly if k is the lowest number, from symbol_base on and below n, whose name is equal and whose
    -- version matches
    pub found : (k : ℕ) → (answer ≡ Ok (found_at (symbol_index k) (probes_of answer))) ↔ LowestMatch k
    -- it finds nothing exactly if there is none
    pub missing : (answer ≡ Ok (missing_at (probes_of answer))) ↔
        ((k : ℕ) → symbol_base order p ≤ k → k < symbols_in class p.symbols → ¬ Matches class order p asked k)
    -- its probes are one for each chain value on document 01's walk
    pub counted : probes_of answer ≡ length walked
    -- they are at most the longest chain
    pub few : probes_of answer ≤ most

-- if the checker accepts these symbols, strings, class and order, then for any name with its own GNU hash, any version
-- table and any need, all within the size limit
abbrev pub Demand3Holds : Type 0
Demand3Holds = (class : Class) (order : Order) (p : Parts) (most : ℕ)
    → gnu_check class order p.table p.symbols p.strings ≡ Ok most
    → (asked : Asked) → any_long (p.versyms ∷ p.version_strings ∷ asked.name ∷ asked.need_name ∷ []) ≡ false
    → Demand3 class order p asked most (gnu_find class order p asked (gnu_hash asked.name))

-- two lookups that each state a version and get the same symbol asked for one name and one version; in any table, accepted
-- or not, and by any hashes
abbrev pub Demand3Last : Type 0
Demand3Last = (class : Class) (order : Order) (p : Parts) → OneAsked (gnu_find class order p)
