-- A case that document 01 states beside those it marks [P]: alignment 5 or 16 gives 5. Assumes nothing.
use Rattle.std.proofs.Common.{◌≡◌, refl, []}
use Rattle.endian.specs.declared.kinds.Order.{Order}
use Rattle.endian.specs.Refusals.{bad_note_alignment}
use Rattle.note.specs.Walk.{none, stopped, section_notes}

notes_of_others : (order : Order)
    → (section_notes order 5 [] ≡ none (stopped bad_note_alignment)) × (section_notes order 16 [] ≡ none (stopped bad_note_alignment))
notes_of_others order = (refl, refl)
