-- The records of the version sections, as document 01's "Layouts" and the LSB's symbol versioning chapter lay them out.
--     Field, field_of                      a field's width and its place in its record; the field of the record at a place
--     verdef, verdaux, verneed, vernaux    the fields of each that are read
-- Assumes nothing.
use Rattle.std.specs.Prelude.{ℕ, List}
use Rattle.endian.specs.declared.kinds.Order.{Order}
use Rattle.endian.specs.Word.{field_at}

abbrev pub Field : Type 0
Field = ℕ × ℕ

abbrev pub field_of : Order → List ℕ → (base : ℕ) → Field → ℕ
field_of order s base field = field_at order s base field.0 field.1

-- 20 bytes; the first 2 are its own version
abbrev pub verdef : record { flags : Field; ndx : Field; cnt : Field; hash : Field; aux : Field; next : Field }
verdef = record { flags = (2, 2); ndx = (2, 4); cnt = (2, 6); hash = (4, 8); aux = (4, 12); next = (4, 16) }

-- 8 bytes
abbrev pub verdaux : record { name : Field; next : Field }
verdaux = record { name = (4, 0); next = (4, 4) }

-- 16 bytes; the first 2 are its own version
abbrev pub verneed : record { cnt : Field; file : Field; aux : Field; next : Field }
verneed = record { cnt = (2, 2); file = (4, 4); aux = (4, 8); next = (4, 12) }

-- 16 bytes; the 2 after the hash are its flags
abbrev pub vernaux : record { hash : Field; other : Field; name : Field; next : Field }
vernaux = record { hash = (4, 0); other = (2, 6); name = (4, 8); next = (4, 12) }
