-- What a record stores, as an answer.
--     entry_says                 what an answer says
--     def_past, need_past        a record past the end is passed over
--     def_inside, need_inside    one that is not lies in the bytes
-- Assumes nothing.
use Rattle.std.proofs.Common.{ℕ, ◌+◌, ◌<◌, ◌≤◌, ◌≡◌, refl, ap, Bool, true, false, List, arith, length, ltb, ltb-true, ltb-false, Result, Ok, Err, Option}
use Rattle.endian.specs.declared.kinds.Order.{Order}
use Rattle.endian.specs.declared.refusals.Refusal.{Refusal}
use Rattle.endian.proofs.Word.{word_past}
use Rattle.version_records.specs.Outcome.{Outcome}
use Rattle.version.specs.declared.store.Stored.{Stored}
use Rattle.version.specs.Index.{is_special}
use Rattle.version_layout.specs.Indices.{need_index}
use Rattle.version_layout.specs.declared.steps.Record.{Record}
use Rattle.version_layout.specs.declared.steps.Aux.{Aux}
use Rattle.version.specs.declared.index.VersionIndex.{VersionIndex}
use Rattle.version.specs.declared.store.Version.{Version}
use Rattle.version_entries.specs.Entries.{storing, passed_over}
use Rattle.version_entries.specs.EntryAnswers.{entry_step, entry_outcome}

pub entry_says : (r : Result (Option Stored) Refusal) (passed : Bool) (index : VersionIndex) (version : Outcome Version)
    → r ≡ entry_step (storing passed index version) → entry_outcome r ≡ storing passed index version
entry_says r true index version h = ap entry_outcome h
entry_says r false index (Ok v) h = ap entry_outcome h
entry_says r false index (Err e) h = ap entry_outcome h

module _ (order : Order) (s : List ℕ) where
  pub def_past : (d : Record) → length s < d.at → passed_over order s d ≡ true
  def_past d h = rw (word_past order 2 s (d.at + 2) (omega arith), word_past order 2 s (d.at + 4) (omega arith))

  pub def_inside : (d : Record) → passed_over order s d ≡ false → d.at ≤ length s
  def_inside d kept = by (ltb (length s) d.at) refl
    where
      by : (t : Bool) → ltb (length s) d.at ≡ t → d.at ≤ length s
      by true e = let past = def_past d (ltb-true _ _ e) in cc
      by false e = ltb-false _ _ e

  pub need_past : (a : Aux) → length s < a.at → is_special (need_index order s a.at) ≡ true
  need_past a h = rw (word_past order 2 s (a.at + 6) (omega arith))

  pub need_inside : (a : Aux) → is_special (need_index order s a.at) ≡ false → a.at ≤ length s
  need_inside a kept = by (ltb (length s) a.at) refl
    where
      by : (t : Bool) → ltb (length s) a.at ≡ t → a.at ≤ length s
      by true e = let past = need_past a (ltb-true _ _ e) in cc
      by false e = ltb-false _ _ e
