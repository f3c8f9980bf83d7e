-- `export_notes::notes::fetulombo_trimmed` meets its contract. The trimmed part is as long as `trimmed_length` says. Assumes nothing.
use Rattle.std.proofs.Common.{ap, length-take-le, lt-ltb, le-ltb}
use Rattle.note_name.specs.LentPart.{Part}
use Rattle.note_name.specs.Trim.{trimmed_length}
use Rattle.note_name.proofs.Longest.{trimmed_longest}
use Rattle.export_notes.proofs.notes.fetulombo_trimmed.Goals as goal

pub returns-then-name-gt-LIMIT : goal.returns-then-name-gt-LIMIT
returns-then-name-gt-LIMIT c = rw c.no_number.ensures (simp (lt-ltb _ _ c.if-name-gt-LIMIT.true))

pub returns : goal.returns
returns c =
    let name = c.args.name.now in
    let bytes = ap (λ (p : Part). p.bytes) c.trimmed.ensures in
    let long = length-take-le (trimmed_length name) name (trimmed_longest name).0.0 in
    rw (c.number_answer.ensures, bytes, long) (simp (le-ltb _ _ c.if-name-gt-LIMIT.false))
