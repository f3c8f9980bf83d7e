-- A property reader at its end.
--     step_end         a reader at or past the end of the bytes finds the end
--     refused_stays    a refused reader is at its end, and stays there
-- Assumes nothing.
use Rattle.std.proofs.Common.{ℕ, ◌≤◌, ◌≡◌, List, length, ap, arith, Ok, None, le-ltb, le-leb}
use Rattle.endian.specs.Refusals.{limit}
use Rattle.property_reader.specs.After.{after_found, property_reader_after}
use Rattle.property_reader.specs.Reader.{property_step, property_reader_at}
use Rattle.property_reader.specs.declared.PropertyReader.{PropertyReader}

step_end : (r : PropertyReader) (s : List ℕ) → length s ≤ limit → length s ≤ r.at → property_step r s ≡ Ok None
unfolding property_step
step_end r s fits past = simp (le-ltb _ _ fits, le-leb _ _ past)

pub refused_stays : (r : PropertyReader) (s : List ℕ) → length s ≤ limit
    → (property_step (property_reader_at r (length s)) s ≡ Ok None)
    × (property_reader_after (property_reader_at r (length s)) s ≡ property_reader_at r (length s))
refused_stays r s fits =
    let end = step_end (property_reader_at r (length s)) s fits (omega arith) in
    (end, ap (after_found (property_reader_at r (length s)) s) end)
