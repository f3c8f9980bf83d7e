-- Need not be believed: what the tests of a record answer. Inner contracts cite it.
--     left_at      the bytes from a place on, where there are enough of them
--     offset_at    an offset at a place, where it leads no further than they do
-- Assumes nothing.
use Rattle.std.specs.Prelude.{ℕ, ◌-◌, List, cond, length, ltb, Ok, Err}
use Rattle.endian.specs.declared.kinds.Order.{Order}
use Rattle.endian.specs.declared.refusals.Refusal.{Refusal}
use Rattle.endian.specs.Word.{word_at}
use Rattle.version_records.specs.Outcome.{Outcome}

abbrev pub left_at : List ℕ → (at size : ℕ) → Refusal → Outcome ℕ
left_at s at size short = cond (ltb (length s - at) size) (Err short) (Ok (length s - at))

abbrev pub offset_at : Order → List ℕ → (at left : ℕ) → Refusal → Outcome ℕ
offset_at order s at left bad = cond (ltb left (word_at order 4 s at)) (Err bad) (Ok (word_at order 4 s at))
