-- What a match decides, for whoever cites it.
--     match_need      with a need: the symbol's versym and the version behind it, whose hash and name are the need's
--     match_of_lem    and the other way round
--     match_long      a need whose name is too long matches nothing
--     match_one       two needs that one symbol matches are the same
-- Assumes nothing.
use Rattle.std.proofs.Common.{ℕ, ◌≤◌, ◌<◌, ◌≡◌, refl, sym, ap, ◌∙◌, Bool, true, false, List, arith, eqb, length, eq-eqb, eqb-true, Result, Ok, Err, Option, Some, None}
use Rattle.endian.specs.declared.kinds.Order.{Order}
use Rattle.endian.specs.declared.refusals.Refusal.{Refusal}
use Rattle.endian.specs.Refusals.{limit}
use Rattle.endian.specs.First.{same}
use Rattle.strings.proofs.Meaning.{false_true, same_refl, same_true}
use Rattle.symbol.specs.declared.table.SymbolIndex.{SymbolIndex}
use Rattle.version.specs.Table.{entry_at, versym_at}
use Rattle.version_match.specs.Match.{satisfied, match_of, matching, version_name}
use Rattle.version.specs.declared.store.Version.{Version}
use Rattle.version.specs.declared.table.Versym.{Versym}
use Rattle.version_match.specs.declared.Need.{Need}
use Rattle.version_match.proofs.Compared.{part_short}
use Rattle.version_match.proofs.Entered.{entry_valid, and_both}

-- the version of a symbol, with a hash and a name
pub record Bound (order : Order) (versyms store strings : List ℕ) (symbol : SymbolIndex) (hash : ℕ)
    (name : List ℕ) : Type 0 where
  pub versym : Versym
  pub version : Version
  pub symbols : versym_at order versyms symbol ≡ Ok versym
  pub entry : entry_at store strings versym.index ≡ Ok (Some version)
  pub hashed : version.hash ≡ hash
  pub named : version_name strings version ≡ name

module _ (order : Order) (versyms store strings : List ℕ) (symbol : SymbolIndex) where
  module _ (hash : ℕ) (name : List ℕ) where
    pub match_need : matching order versyms store strings symbol (Need.Hash hash) name ≡ true
        → Bound order versyms store strings symbol hash name
    unfolding matching
    match_need h = by (versym_at order versyms symbol) refl h
      where
        inner : (m : Versym) → versym_at order versyms symbol ≡ Ok m
            → (e : Result (Option Version) Refusal) → entry_at store strings m.index ≡ e
            → satisfied strings m.hidden (Need.Hash hash) name e ≡ true
            → Bound order versyms store strings symbol hash name
        inner m v (Err r) e h = false_true h
        inner m v (Ok None) e h = false_true h
        inner m v (Ok (Some version)) e h =
            let k = and_both (eqb version.hash hash) (same (version_name strings version) name) h in
            record {
              versym = m;
              version = version;
              symbols = v;
              entry = e;
              hashed = eqb-true version.hash hash k.0;
              named = same_true (version_name strings version) name k.1;
            }

        by : (v : Result Versym Refusal) → versym_at order versyms symbol ≡ v → match_of store strings (Need.Hash hash) name v ≡ true
            → Bound order versyms store strings symbol hash name
        by (Err r) v h = false_true h
        by (Ok m) v h = inner m v (entry_at store strings m.index) refl h

    pub match_of_lem : Bound order versyms store strings symbol hash name
        → matching order versyms store strings symbol (Need.Hash hash) name ≡ true
    unfolding matching
    match_of_lem b =
        ap (match_of store strings (Need.Hash hash) name) b.symbols
        ∙ ap (satisfied strings b.versym.hidden (Need.Hash hash) name) b.entry
        ∙ rw (eq-eqb b.version.hash hash b.hashed, b.named) (same_refl name)

    pub match_long : limit < length name → matching order versyms store strings symbol (Need.Hash hash) name ≡ false
    match_long long = by (matching order versyms store strings symbol (Need.Hash hash) name) refl
      where
        by : (t : Bool) → matching order versyms store strings symbol (Need.Hash hash) name ≡ t → t ≡ false
        by false e = refl
        by true e =
            let b = match_need e in
            let fits : length strings ≤ limit = (entry_valid store strings b.versym.index b.version b.entry).0 in
            let part = part_short strings b.version.name.start b.version.name.len in
            let same_length : length (version_name strings b.version) ≡ length name = ap length b.named in
            absurd (omega arith)

  pub match_one : (hash hash' : ℕ) (name name' : List ℕ)
      → matching order versyms store strings symbol (Need.Hash hash) name ≡ true
      → matching order versyms store strings symbol (Need.Hash hash') name' ≡ true
      → (hash ≡ hash') × (name ≡ name')
  match_one hash hash' name name' h h' =
      let b = match_need hash name h in
      let b' = match_need hash' name' h' in
      let m : b.versym ≡ b'.versym = cc (sym b.symbols ∙ b'.symbols) in
      let e : ◌≡◌ {A = Result (Option Version) Refusal} (Ok (Some b.version)) (Ok (Some b'.version)) =
      sym b.entry ∙ ap (λ (m : Versym). entry_at store strings m.index) m ∙ b'.entry in
      let v : b.version ≡ b'.version = cc in
      (sym b.hashed ∙ ap (λ (v : Version). v.hash) v ∙ b'.hashed, sym b.named ∙ ap (version_name strings) v ∙ b'.named)
