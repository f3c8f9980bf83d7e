-- The names of symbols: what a string that was read is, and its hash.
--     name_inside               it lies in the strings, which are not too long
--     hashed                    its hash is computed
--     hash_read, hash_unread    the hash of a symbol's name, by the string that was read or refused
-- Assumes nothing.
use Rattle.std.proofs.Common.{◌≡◌, ℕ, ◌+◌, ◌-◌, ◌≤◌, Bool, true, false, cond, List, [], ◌∷◌, length, take, drop, Result, Ok, Err, sym, ap, ◌∙◌, arith, le-ltb}
use Rattle.std.proofs.Math.Option.{get_or}
use Rattle.std.proofs.Math.ListN.{length-take, length-drop}
use Rattle.endian.specs.declared.kinds.Class.{Class}
use Rattle.endian.specs.declared.kinds.Order.{Order}
use Rattle.endian.specs.declared.refusals.Refusal.{Refusal}
use Rattle.endian.specs.Refusals.{limit, any_long, too_long}
use Rattle.strings.specs.declared.Place.{Place}
use Rattle.strings.proofs.Inside.{string_inside}
use Rattle.symbol_entry.specs.declared.Symbol.{Symbol}
use Rattle.symbol.specs.Table.{symbol_at, symbol_name, name_in, symbol_index}
use Rattle.name_hash.specs.Hash.{sysv_hash, name_hash}
use Rattle.lookup.specs.Wanted.{bytes_of, name_of}
use Rattle.sysv_check_chains.specs.Hash.{sysv_hash_at}

-- ---- a string that was read

abbrev pub Inside : (strings : List ℕ) → Place → Type 0
Inside strings place = (place.start + place.len ≤ length strings) × (length strings ≤ limit)

-- ---- its hash

pub hashed : (strings : List ℕ) (place : Place) → Inside strings place
    → name_hash sysv_hash (take (place.start + place.len - place.start) (drop place.start strings))
    ≡ Ok (sysv_hash (take place.len (drop place.start strings)))
hashed strings place inside =
    let e : place.start + place.len - place.start ≡ place.len = omega arith in
    let taken = length-take place.len (drop place.start strings) in
    let left = length-drop place.start strings in
    rw (e, le-ltb limit (length (take place.len (drop place.start strings))) (omega (arith, inside.0, inside.1)))

module _ (class : Class) (order : Order) (symbols strings : List ℕ) (i : ℕ) where
  module _ (place : Place) (read : symbol_name class order symbols strings (symbol_index i) ≡ Ok place) where
    pub name_inside : Inside strings place
    name_inside = by (any_long (symbols ∷ strings ∷ [])) (symbol_at class order symbols (symbol_index i)) read
      where
        by : (t : Bool) (s : Result Symbol Refusal) → cond t (Err too_long) (name_in strings s) ≡ Ok place → Inside strings place
        by true s e = cc
        by false (Err r) e = cc
        by false (Ok symbol) e =
            let inside = string_inside strings symbol.name place e in
            (omega arith, inside.1)

    pub hash_read : sysv_hash_at (name_of class order symbols strings) i ≡ sysv_hash (take place.len (drop place.start strings))
    unfolding sysv_hash_at name_of
    hash_read = ap (λ (s : Result Place Refusal). sysv_hash (get_or (bytes_of strings s) [])) read

  pub hash_unread : (r : Refusal) → symbol_name class order symbols strings (symbol_index i) ≡ Err r
      → sysv_hash_at (name_of class order symbols strings) i ≡ 0
  unfolding sysv_hash_at name_of sysv_hash
  hash_unread r refused = ap (λ (s : Result Place Refusal). sysv_hash (get_or (bytes_of strings s) [])) refused
