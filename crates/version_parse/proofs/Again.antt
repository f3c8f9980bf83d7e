-- What a record stores, once more, and where it is not passed over.
--     or_left          it is not flagged base
--     stored           what is put by an answer is what the record stores
--     storing_again    it stores the same the second time
-- Assumes nothing.
use Rattle.std.proofs.Common.{ℕ, ◌≡◌, refl, sym, ap, ◌∙◌, Bool, true, false, ◌||◌, List, Result, Ok, Err, Option}
use Rattle.version_records.specs.Outcome.{Outcome, folded}
use Rattle.endian.specs.declared.refusals.Refusal.{Refusal}
use Rattle.version_entries.specs.EntryAnswers.{entry_step, entry_outcome}
use Rattle.version_entries.proofs.Entered.{entry_says}
use Rattle.version.specs.Store.{put_entry}
use Rattle.version.specs.declared.store.Stored.{Stored}
use Rattle.version_entries.specs.Entries.{storing}
use Rattle.version.specs.declared.index.VersionIndex.{VersionIndex}
use Rattle.version.specs.declared.store.Version.{Version}
use Rattle.version_records.proofs.Outcomes.{fine_same, stop_fine}
use Rattle.version_parse.proofs.Puts.{put_again}

pub or_left : (a b : Bool) → a || b ≡ false → a ≡ false
or_left true b h = h
or_left false b h = refl

pub stored : (st : List ℕ) (step : Result (Option Stored) Refusal) (passed : Bool) (index : VersionIndex)
    (version : Outcome Version) → step ≡ entry_step (storing passed index version)
    → folded put_entry st (entry_outcome step) ≡ folded put_entry st (storing passed index version)
stored st step passed index version h = ap (folded put_entry st) (entry_says step passed index version h)

pub storing_again : (st st' : List ℕ) (passed : Bool) (index : VersionIndex) (version : Outcome Version)
    → Ok st' ≡ folded put_entry st (storing passed index version) → Ok st' ≡ folded put_entry st'
    (storing passed index version)
storing_again st st' true index version h = refl
storing_again st st' false index (Err e) h = absurd (stop_fine e st' (sym h))
storing_again st st' false index (Ok v) h =
    let x : Stored = record { index = index; version = v } in
    let e : st' ≡ put_entry st x = fine_same _ _ h in
    ap Ok (e ∙ sym (put_again st x) ∙ ap (λ (l : List ℕ). put_entry l x) (sym e))
