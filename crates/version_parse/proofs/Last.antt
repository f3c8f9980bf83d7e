-- The store by index, for whoever reads it: each entry is that of the last record, in list order (definitions, then
-- needs), that stores there.
--     Absent                        no version of a list has an index
--     put_here, put_elsewhere       an entry that is put, at its index and at another
--     folded_absent, folded_last    a list of entries, put one after the other
--     Fits                          every version of a list has room in n numbers
--     entries_fit                   what the records store has room where the highest index has
--     parsed_from                   what parsing that came to a table did
--     stored_last                   the numbers at the index of the last version of the list that has it
--     stored_none                   the numbers at an index that none of them has: 0
-- Assumes nothing.
use Rattle.std.proofs.Common.{ℕ, ◌+◌, ◌*◌, ◌≤◌, ◌<◌, ◌≡◌, refl, sym, ap, subst, ◌∙◌, Bool, true, false, List, [], ◌∷◌, ◌++◌, arith, ltb, length, get_or, replicate, ltb-true, ltb-false, Ok, Err}
use mathlib.Core.List.{foldl, foldl-append}
use lib.ListN.{length-replicate, get_or-replicate, get_or-eq_default}
use Rattle.endian.specs.declared.kinds.Order.{Order}
use Rattle.endian.specs.Refusals.{any_long, too_long, store_too_small}
use Rattle.version_records.specs.Outcome.{Outcome, bind, both, folded}
use Rattle.version_records.specs.Walk.{Walk, collect}
use Rattle.version_records.specs.Walk.Walk.{end, broken, more}
use Rattle.version.specs.Index.{is_special}
use Rattle.version_records.specs.Records.{verdefs, verneeds, vernauxs, need_count}
use Rattle.version_layout.specs.Indices.{def_index, need_index, is_base}
use Rattle.version_highest.specs.Highest.{highest_index}
use Rattle.version.specs.Store.{entry_size, store_needs, version_numbers, put_entry}
use Rattle.version.specs.declared.store.Stored.{Stored}
use Rattle.version_entries.specs.Entries.{storing, passed_over, def_version, need_version, def_entries, aux_entries}
use Rattle.version_parse.specs.SecondPass.{need_entries, entries}
use Rattle.version_parse.specs.Room.{All, DefRoom, AuxRoom, NeedRoom}
use Rattle.version_parse.specs.Parse.{parsed_into, parsed, ParsedStore}
use Rattle.version.specs.Table.{number_at}
use Rattle.version.specs.declared.index.VersionIndex.{VersionIndex}
use Rattle.version_layout.specs.declared.steps.Record.{Record}
use Rattle.version_layout.specs.declared.steps.Aux.{Aux}
use Rattle.version.specs.declared.store.Version.{Version}
use Rattle.version_records.proofs.Outcomes.{fine_same, stop_fine, cond_fine, bind_from}
use Rattle.version_parse.proofs.Puts.{sets_below, sets_above, sets_in, length_put}
use Rattle.version_parse.proofs.Again.{or_left}
use Rattle.version_parse.proofs.Rooms.{highest_room}

abbrev pub Absent : VersionIndex → List Stored → Type 0
Absent index [] = Unit {0}
Absent index (x ∷ xs) = (x.index.0 ≡ index.0 → ⊥) × Absent index xs

module _ (st : List ℕ) (x : Stored) (k : ℕ) (inner : k < entry_size) where
  pub put_here : store_needs x.index ≤ length st
      → number_at (put_entry st x) x.index k ≡ get_or (version_numbers x.version) k 0
  unfolding put_entry
  put_here room = sets_in st (x.index.0 * entry_size) k (version_numbers x.version) inner (omega arith)

  pub put_elsewhere : (index : VersionIndex) → (x.index.0 ≡ index.0 → ⊥)
      → number_at (put_entry st x) index k ≡ number_at st index k
  unfolding put_entry
  put_elsewhere index other = by (ltb index.0 x.index.0) refl
    where
      by : (t : Bool) → ltb index.0 x.index.0 ≡ t → number_at (put_entry st x) index k ≡ number_at st index k
      by true e =
          let low : index.0 < x.index.0 = ltb-true index.0 x.index.0 e in
          sets_below st (x.index.0 * entry_size) (index.0 * entry_size + k) (version_numbers x.version) (omega arith)
      by false e =
          let high : x.index.0 ≤ index.0 = ltb-false index.0 x.index.0 e in
          sets_above st (x.index.0 * entry_size) (index.0 * entry_size + k) (version_numbers x.version) (omega arith)

foldl-length : (xs : List Stored) (st : List ℕ) → length (foldl put_entry st xs) ≡ length st
foldl-length [] st = refl
foldl-length (x ∷ xs) st = foldl-length xs (put_entry st x) ∙ length_put st x

pub folded_absent : (xs : List Stored) (st : List ℕ) (index : VersionIndex) (k : ℕ) → k < entry_size → Absent index xs
    → number_at (foldl put_entry st xs) index k ≡ number_at st index k
folded_absent [] st index k inner none = refl
folded_absent (x ∷ xs) st index k inner none =
    folded_absent xs (put_entry st x) index k inner none.1 ∙ put_elsewhere st x k inner index none.0

pub folded_last : (before after : List Stored) (x : Stored) (st : List ℕ) (k : ℕ) → k < entry_size
    → store_needs x.index ≤ length st → Absent x.index after
    → number_at (foldl put_entry st (before ++ (x ∷ after))) x.index k ≡ get_or (version_numbers x.version) k 0
folded_last before after x st k inner room none =
    let st' = foldl put_entry st before in
    ap (λ (l : List ℕ). number_at l x.index k) (foldl-append put_entry st before (x ∷ after))
    ∙ folded_absent after (put_entry st' x) x.index k inner none
    ∙ put_here st' x k inner (rw (foldl-length before st) room)

abbrev pub Fits : (n : ℕ) → List Stored → Type 0
Fits n [] = Unit {0}
Fits n (x ∷ xs) = (store_needs x.index ≤ n) × Fits n xs

module _ (n : ℕ) where
  fits_append : (xs ys : List Stored) → Fits n xs → Fits n ys → Fits n (xs ++ ys)
  fits_append [] ys f g = g
  fits_append (x ∷ xs) ys f g = (f.0, fits_append xs ys f.1 g)

  fits_middle : (before after : List Stored) (x : Stored) → Fits n (before ++ (x ∷ after)) → store_needs x.index ≤ n
  fits_middle [] after x f = f.0
  fits_middle (y ∷ before) after x f = fits_middle before after x f.1

  both_fit : (p q : Outcome (List Stored)) → ((xs : List Stored) → p ≡ Ok xs → Fits n xs)
      → ((xs : List Stored) → q ≡ Ok xs → Fits n xs)
      → (xs : List Stored) → both p q ≡ Ok xs → Fits n xs
  both_fit (Err e) q f g xs h = absurd (stop_fine e xs h)
  both_fit (Ok ys) (Err e) f g xs h = absurd (stop_fine e xs h)
  both_fit (Ok ys) (Ok zs) f g xs h =
      let e : ys ++ zs ≡ xs = fine_same _ _ h in
      rw e at (fits_append ys zs (f ys refl) (g zs refl))

  module _ {A : Type 0} (g : A → Outcome (List Stored)) (P : A → Type 0)
      (fit : (a : A) → P a → (xs : List Stored) → g a ≡ Ok xs → Fits n xs) where
    collect_fits : (w : Walk A) → All P w → (xs : List Stored) → collect g w ≡ Ok xs → Fits n xs
    collect_fits end all [] h = tt
    collect_fits end all (x ∷ xs) h = let z : ◌≡◌ {A = ℕ} 0 1 = cc in absurd (omega arith)
    collect_fits (broken e) all xs h = absurd (stop_fine e xs h)
    collect_fits (more a w) all xs h = both_fit (g a) (collect g w) (fit a all.0) (collect_fits w all.1) xs h

  storing_fits : (passed : Bool) (index : VersionIndex) (version : Outcome Version)
      → (passed ≡ false → store_needs index ≤ n)
      → (xs : List Stored) → storing passed index version ≡ Ok xs → Fits n xs
  storing_fits true index version room [] h = tt
  storing_fits true index version room (x ∷ xs) h = let z : ◌≡◌ {A = ℕ} 0 1 = cc in absurd (omega arith)
  storing_fits false index (Err e) room xs h = absurd (stop_fine e xs h)
  storing_fits false index (Ok v) room xs h =
      let x : Stored = record { index = index; version = v } in
      let one : Fits n (x ∷ []) = (room refl, tt) in
      let e : x ∷ [] ≡ xs = fine_same _ _ h in
      subst (λ (l : List Stored). Fits n l) e one

  module _ (order : Order) (s strings : List ℕ) where
    def_fits : (d : Record) → DefRoom order s n d → (xs : List Stored) → def_entries order s strings d ≡ Ok xs
        → Fits n xs
    def_fits d room xs h =
        storing_fits (passed_over order s d) (def_index order s d.at) (def_version order s strings d)
        (λ kept. room (or_left (is_base order s d) _ kept)) xs h

    aux_fits : (file : ℕ) (a : Aux) → AuxRoom order s n a → (xs : List Stored)
        → aux_entries order s strings file a ≡ Ok xs → Fits n xs
    aux_fits file a room xs h =
        storing_fits (is_special (need_index order s a.at)) (need_index order s a.at) (need_version order s strings file a)
        (λ kept. room) xs h

    need_fits : (r : Record) → NeedRoom order s n r → (xs : List Stored) → need_entries order s strings r ≡ Ok xs
        → Fits n xs
    need_fits r room xs h =
        collect_fits (aux_entries order s strings _) (AuxRoom order s n) (aux_fits _)
        (vernauxs order s (need_count order s r) r.aux) room xs h

  pub entries_fit : (order : Order) (verdef verneed strings : List ℕ) (high : VersionIndex)
      → highest_index order verdef verneed ≡ Ok high
      → store_needs high ≤ n → (xs : List Stored) → entries order verdef verneed strings ≡ Ok xs → Fits n xs
  entries_fit order verdef verneed strings high h room xs =
      let rooms = highest_room order verdef verneed n high h room in
      both_fit (collect (def_entries order verdef strings) (verdefs order verdef 0))
      (collect (need_entries order verneed strings) (verneeds order verneed 0))
      (collect_fits (def_entries order verdef strings) (DefRoom order verdef n) (def_fits order verdef strings)
      (verdefs order verdef 0) rooms.0)
      (collect_fits (need_entries order verneed strings) (NeedRoom order verneed n) (need_fits order verneed strings)
      (verneeds order verneed 0) rooms.1)
      xs

abbrev zeros : (n : ℕ) → List ℕ
zeros n = replicate n 0

zeros-length : (n : ℕ) → length (zeros n) ≡ n
zeros-length n = length-replicate n _

abbrev table_of : VersionIndex → Outcome (List ℕ) → Outcome ParsedStore
table_of high filled = bind filled (λ store. Ok (record { highest = high; store = store }))

module _ (order : Order) (verdef verneed strings : List ℕ) (n : ℕ) (table : ParsedStore)
    (done : parsed order verdef verneed strings n
    ≡ Ok table) (xs : List Stored) (listed : entries order verdef verneed strings ≡ Ok xs) where
  pub parsed_from : (highest_index order verdef verneed
      ≡ Ok table.highest) × (store_needs table.highest ≤ n) × (table.store ≡ foldl put_entry (zeros n) xs)
  unfolding parsed_into
  parsed_from =
      let fits = (cond_fine (any_long (verdef ∷ verneed ∷ strings ∷ [])) too_long _ table done).1 in
      let high = bind_from (highest_index order verdef verneed) _ table fits in
      let room = cond_fine (ltb (length (zeros n)) (store_needs high.0)) store_too_small
      (table_of high.0 (folded put_entry (zeros n) (entries order verdef verneed strings))) table high.2 in
      let made : ParsedStore = record { highest = high.0; store = foldl put_entry (zeros n) xs } in
      let all : table_of high.0 (folded put_entry (zeros n) (entries order verdef verneed strings)) ≡ Ok made =
      ap (λ (o : Outcome (List Stored)). table_of high.0 (folded put_entry (zeros n) o)) listed in
      let whole : table ≡ made = fine_same table made (sym room.1 ∙ all) in
      let enough : store_needs high.0 ≤ length (zeros n) =
      ltb-false (length (zeros n)) (store_needs high.0) room.0 in (
        high.1 ∙ ap (λ (t : ParsedStore). Ok t.highest) (sym whole),
        omega (arith, zeros-length n, ap (λ (t : ParsedStore). t.highest.0) whole),
        ap (λ (t : ParsedStore). t.store) whole,
      )

zeros_at : (n j : ℕ) → get_or (zeros n) j 0 ≡ 0
zeros_at n j = by (ltb j n) refl
  where
    by : (t : Bool) → ltb j n ≡ t → get_or (zeros n) j 0 ≡ 0
    by true e = get_or-replicate n j 0 0 (ltb-true j n e)
    by false e = get_or-eq_default (zeros n) 0 {n = j} (rw (zeros-length n) (ltb-false j n e))

module _ (order : Order) (verdef verneed strings : List ℕ) (n : ℕ) (table : ParsedStore)
    (done : parsed order verdef verneed strings n ≡ Ok table) (k : ℕ) (inner : k < entry_size) where
  pub stored_last : (before after : List Stored) (x : Stored)
      → entries order verdef verneed strings ≡ Ok (before ++ (x ∷ after))
      → Absent x.index after → number_at table.store x.index k ≡ get_or (version_numbers x.version) k 0
  stored_last before after x listed none =
      let from = parsed_from order verdef verneed strings n table done (before ++ (x ∷ after)) listed in
      let fit =
      entries_fit n order verdef verneed strings table.highest from.0 from.1 (before ++ (x ∷ after)) listed in
      ap (λ (l : List ℕ). number_at l x.index k) from.2
      ∙ folded_last before after x (zeros n) k inner (rw (zeros-length n) (fits_middle n before after x fit)) none

  pub stored_none : (xs : List Stored) → entries order verdef verneed strings ≡ Ok xs → (index : VersionIndex)
      → Absent index xs
      → number_at table.store index k ≡ 0
  stored_none xs listed index none =
      ap (λ (l : List ℕ). number_at l index k) (parsed_from order verdef verneed strings n table done xs listed).2
      ∙ folded_absent xs (zeros n) index k inner none
      ∙ zeros_at n (index.0 * entry_size + k)
