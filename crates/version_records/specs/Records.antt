-- The records of the version sections at a place (01, module 5), and their lists. Places count from their record and may
-- reach the end.
--     list_shape                      what a record of a list is tested for: size, places of aux and next, refusals
--     verdef_shape, verneed_shape     those of the two lists
--     verdaux_shape, vernaux_shape    the same of a record of a chain, which has no aux
--     place_after                     where the next record of a list is: the end where `next` is 0
--     record_at, aux_at               the record of a list, of a chain, at a place: short, aux, next, in that order
--     listed, verdefs, verneeds       the records of a list from a place on
--     vernauxs                        the records of a chain: as many as the count says; a `next` of 0 repeats the record
--     need_count                      of a need: how many versions it has
-- Assumes nothing.
use Rattle.std.specs.Prelude.{ℕ, ◌+◌, ◌-◌, List, cond, length, ltb, eqb}
use Rattle.endian.specs.declared.kinds.Order.{Order}
use Rattle.endian.specs.declared.refusals.Refusal.{Refusal}
use Rattle.endian.specs.Refusals.{verdef_short, bad_verdef_aux, bad_verdef_next, verdaux_short, bad_verdaux_next, verneed_short, bad_verneed_aux, bad_verneed_next, vernaux_short, bad_vernaux_next}
use Rattle.endian.specs.Word.{field_at}
use Rattle.version_layout.specs.Layouts.{field_of, verdef, verdaux, verneed, vernaux}
use Rattle.version_records.specs.Outcome.{Outcome}
use Rattle.std.specs.Prelude.{Ok, Err}
use Rattle.version_records.specs.Walk.{Walk, linked, counted}
use Rattle.version_records.specs.declared.records.ListShape.{ListShape}
use Rattle.version_records.specs.declared.records.ChainShape.{ChainShape}
use Rattle.version_layout.specs.declared.steps.Record.{Record}
use Rattle.version_layout.specs.declared.steps.Aux.{Aux}

abbrev pub list_shape : (size aux next : ℕ) → (short bad_aux bad_next : Refusal) → ListShape
list_shape size aux next short bad_aux bad_next =
    record { size = size; aux = aux; next = next; short = short; bad_aux = bad_aux; bad_next = bad_next }

abbrev pub verdef_shape : ListShape
verdef_shape = list_shape 20 verdef.aux.1 verdef.next.1 verdef_short bad_verdef_aux bad_verdef_next

abbrev pub verneed_shape : ListShape
verneed_shape = list_shape 16 verneed.aux.1 verneed.next.1 verneed_short bad_verneed_aux bad_verneed_next

abbrev pub verdaux_shape : ChainShape
verdaux_shape = record { size = 8; next = verdaux.next.1; short = verdaux_short; bad_next = bad_verdaux_next }

abbrev pub vernaux_shape : ChainShape
vernaux_shape = record { size = 16; next = vernaux.next.1; short = vernaux_short; bad_next = bad_vernaux_next }

unfoldable pub place_after : (count at next : ℕ) → ℕ
place_after count at next = cond (eqb next 0) count (at + next)

unfoldable pub record_at : ListShape → Order → List ℕ → ℕ → Outcome Record
record_at shape order s at =
    let left = length s - at in
    let aux = field_at order s at 4 shape.aux in
    let next = field_at order s at 4 shape.next in
    cond (ltb left shape.size) (Err shape.short)
    (cond (ltb left aux) (Err shape.bad_aux)
    (cond (ltb left next) (Err shape.bad_next)
    (Ok (record { at = at; aux = at + aux; next = place_after (length s) at next }))))

unfoldable pub aux_at : ChainShape → Order → List ℕ → ℕ → Outcome Aux
aux_at shape order s at =
    let left = length s - at in
    let next = field_at order s at 4 shape.next in
    cond (ltb left shape.size) (Err shape.short)
    (cond (ltb left next) (Err shape.bad_next)
    (Ok (record { at = at; next = at + next })))

abbrev pub listed : ListShape → Order → List ℕ → ℕ → Walk Record
listed shape order s at = linked (record_at shape order s) (λ r. r.next) (length s) at

abbrev pub verdefs : Order → List ℕ → ℕ → Walk Record
verdefs order s at = listed verdef_shape order s at

abbrev pub verneeds : Order → List ℕ → ℕ → Walk Record
verneeds order s at = listed verneed_shape order s at

abbrev pub vernauxs : Order → List ℕ → (count at : ℕ) → Walk Aux
vernauxs order s count at = counted (aux_at vernaux_shape order s) (λ a. a.next) count at

abbrev pub need_count : Order → List ℕ → Record → ℕ
need_count order s r = field_of order s r.at verneed.cnt
