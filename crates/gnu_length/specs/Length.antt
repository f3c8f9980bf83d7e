-- The length of the symbol table, from the GNU table alone (01, "GNU length").
--     highest_bucket    the highest bucket value
--     number_after      the number after a symbol's, where that is no more than 32 bits
--     length_of         the length that a table gives, or none
--     length_answer     that as Rust's Option
--     gnu_length        of the bytes: part too long (1), the places (26 to 28), then the length
-- Assumes nothing.
use Rattle.std.specs.Prelude.{ℕ, ◌+◌, ◌-◌, ◌^◌, cond, ◌||◌, List, [], map, ltb, eqb, length, Result, Ok, Err, Some, None}
use Rattle.std.specs.Prelude.{Option as Answer}
use Rattle.std.proofs.Math.Option.{Option, some, none}
use Rattle.endian.specs.declared.kinds.Class.{Class}
use Rattle.endian.specs.declared.kinds.Order.{Order}
use Rattle.endian.specs.declared.refusals.Refusal.{Refusal}
use Rattle.endian.specs.Refusals.{limit, too_long, unless_refused}
use Rattle.lookup.specs.Pick.{from, first_of, largest}
use Rattle.gnu_table.specs.Table.{GnuTable, odd, value_of}
use Rattle.gnu_table.specs.Header.{gnu_fault}
use Rattle.gnu_table.specs.Layout.{gnu_table_of}

abbrev pub highest_bucket : GnuTable → ℕ
highest_bucket t = largest (map t.bucket (from 0 t.bucket_count))

abbrev pub number_after : Option ℕ → Option ℕ
number_after none = none
number_after (some i) = cond (ltb (i + 1) (2 ^ 32)) (some (i + 1)) none

-- from the highest bucket value's word on, the first with low bit 1
unfoldable pub length_of : GnuTable → Option ℕ
length_of t =
    cond (eqb t.base 0 || (eqb t.bucket_count 0 || ltb (highest_bucket t) t.base)) none
    (number_after (first_of (λ i. odd (value_of t i)) (from (highest_bucket t) (t.value_count - (highest_bucket t - t.base)))))

abbrev pub length_answer : Option ℕ → Answer ℕ
length_answer none = None
length_answer (some n) = Some n

unfoldable pub gnu_length : Class → Order → (table : List ℕ) → Result (Answer ℕ) Refusal
gnu_length class order table =
    cond (ltb limit (length table)) (Err too_long)
    (unless_refused Err (gnu_fault class order table) (Ok (length_answer (length_of (gnu_table_of class order table [] [])))))
