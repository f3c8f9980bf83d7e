-- A store with room for the highest index has room for every record.
--     all_first, all_rest    what holds of every record of a list
--     entry_room             room for what a record stores, where it is not passed over
--     folded_keeps           the highest index only grows
--     all_room               a list: room for each of its records, from room for its highest index
--     highest_room           both lists
-- Assumes nothing.
use Rattle.std.proofs.Common.{ℕ, ◌≤◌, ◌≡◌, refl, sym, ap, ◌∙◌, Bool, true, false, List, [], ◌∷◌, arith, Ok, Err, Option, Some, None}
use mathlib.Core.List.{foldl}
use Rattle.endian.specs.declared.kinds.Order.{Order}
use Rattle.version_records.specs.Outcome.{Outcome, folded}
use Rattle.version_records.specs.Walk.{Walk, collect}
use Rattle.version_records.specs.Walk.Walk.{end, broken, more}
use Rattle.version_records.specs.Records.{verdefs, verneeds, vernauxs, need_count}
use Rattle.version_layout.specs.Indices.{def_index, need_index}
use Rattle.version_highest.specs.Highest.{higher_of, def_indices, aux_indices, need_indices, highest_index}
use Rattle.version.specs.Store.{store_needs}
use Rattle.version_parse.specs.Room.{All, EntryRoom, DefRoom, AuxRoom, NeedRoom}
use Rattle.version.specs.declared.index.VersionIndex.{VersionIndex}
use Rattle.version_layout.specs.declared.steps.Record.{Record}
use Rattle.version_layout.specs.declared.steps.Aux.{Aux}
use Rattle.version_entries.specs.Entries.{storing}
use Rattle.version_entries.specs.EntryAnswers.{entry_step}
use Rattle.version.specs.declared.store.Stored.{Stored}
use Rattle.version.specs.declared.store.Version.{Version}
use Rattle.version_records.proofs.Outcomes.{fine_same, stop_fine, bind_from, folded_both}

module _ {A : Type 0} (P : A → Type 0) (w : Walk A) (a : A) (rest : Walk A) (h : w ≡ more a rest) where
  pub all_first : All P w → P a
  all_first all = (rw h at all).0

  pub all_rest : All P w → All P rest
  all_rest all = (rw h at all).1

pub entry_room : (n : ℕ) (stored : Option Stored) (passed : Bool) (index : VersionIndex) (version : Outcome Version)
    → Ok stored ≡ entry_step (storing passed index version) → (passed ≡ false → store_needs index ≤ n) → EntryRoom n stored
entry_room n stored true index version h room = let e : stored ≡ None = cc in rw e tt
entry_room n stored false index (Ok v) h room =
    let e : stored ≡ Some (record { index = index; version = v }) = cc in
    rw e (room refl)
entry_room n stored false index (Err e) h room = cc

higher_of_keeps : (high index : VersionIndex) → high.0 ≤ (higher_of high index).0
unfolding higher_of
higher_of_keeps high index = omega arith

higher_of_takes : (high index : VersionIndex) → index.0 ≤ (higher_of high index).0
unfolding higher_of
higher_of_takes high index = omega arith

foldl_keeps : (xs : List VersionIndex) (high : VersionIndex) → high.0 ≤ (foldl higher_of high xs).0
foldl_keeps [] high = omega arith
foldl_keeps (x ∷ xs) high =
    let rest = foldl_keeps xs (higher_of high x) in
    omega (arith, higher_of_keeps high x)

pub folded_keeps : (o : Outcome (List VersionIndex)) (low high : VersionIndex) → folded higher_of low o ≡ Ok high
    → low.0 ≤ high.0
folded_keeps (Err e) low high h = absurd (stop_fine e high h)
folded_keeps (Ok xs) low high h =
    let e : (foldl higher_of low xs).0 ≡ high.0 = ap (λ (x : VersionIndex). x.0) (fine_same _ _ h) in
    omega (arith, foldl_keeps xs low)

module _ {A : Type 0} (n : ℕ) (g : A → Outcome (List VersionIndex)) (P : A → Type 0)
    (room : (a : A) (low high : VersionIndex) → folded higher_of low (g a) ≡ Ok high → store_needs high ≤ n → P a) where
  pub all_room : (w : Walk A) (low high : VersionIndex) → folded higher_of low (collect g w) ≡ Ok high
      → store_needs high ≤ n → All P w
  all_room end low high h fits = tt
  all_room (broken e) low high h fits = tt
  all_room (more a w) low high h fits =
      let k = bind_from (folded higher_of low (g a)) (λ mid. folded higher_of mid (collect g w)) high
      (sym (folded_both higher_of low (g a) (collect g w)) ∙ h) in
      let up = folded_keeps (collect g w) k.0 high k.2 in
      (room a low k.0 k.1 (omega arith), all_room w k.0 high k.2 fits)

module _ (order : Order) (s : List ℕ) (n : ℕ) where
  def_room : (d : Record) (low high : VersionIndex) → folded higher_of low (def_indices order s d) ≡ Ok high
      → store_needs high ≤ n
      → DefRoom order s n d
  unfolding def_indices
  def_room d low high h fits kept =
      let one : folded higher_of low (Ok (def_index order s d.at ∷ [])) ≡ Ok high = rw kept at h in
      let e : (higher_of low (def_index order s d.at)).0 ≡ high.0 = ap (λ (x : VersionIndex). x.0) (fine_same _ _ one) in
      omega (arith, higher_of_takes low (def_index order s d.at))

  aux_room : (a : Aux) (low high : VersionIndex) → folded higher_of low (aux_indices order s a) ≡ Ok high
      → store_needs high ≤ n
      → AuxRoom order s n a
  unfolding aux_indices
  aux_room a low high h fits =
      let e : (higher_of low (need_index order s a.at)).0 ≡ high.0 = ap (λ (x : VersionIndex). x.0) (fine_same _ _ h) in
      omega (arith, higher_of_takes low (need_index order s a.at))

  need_room : (r : Record) (low high : VersionIndex) → folded higher_of low (need_indices order s r) ≡ Ok high
      → store_needs high ≤ n
      → NeedRoom order s n r
  need_room r low high h fits =
      all_room n (aux_indices order s) (AuxRoom order s n) aux_room
      (vernauxs order s (need_count order s r) r.aux) low high h fits

pub highest_room : (order : Order) (verdef verneed : List ℕ) (n : ℕ) (high : VersionIndex)
    → highest_index order verdef verneed ≡ Ok high → store_needs high ≤ n
    → All (DefRoom order verdef n) (verdefs order verdef 0) × All (NeedRoom order verneed n) (verneeds order verneed 0)
highest_room order verdef verneed n high h fits =
    let defs = collect (def_indices order verdef) (verdefs order verdef 0) in
    let needs = collect (need_indices order verneed) (verneeds order verneed 0) in
    let k = bind_from (folded higher_of (record { 0 = 0 }) defs) (λ mid. folded higher_of mid needs) high
    (sym (folded_both higher_of (record { 0 = 0 }) defs needs) ∙ h) in
    let up = folded_keeps needs k.0 high k.2 in (
      all_room n (def_indices order verdef) (DefRoom order verdef n) (def_room order verdef n) (verdefs order verdef 0) _
          k.0 k.1 (omega arith),
      all_room n (need_indices order verneed) (NeedRoom order verneed n) (need_room order verneed n)
          (verneeds order verneed 0) k.0 high k.2 fits,
    )
