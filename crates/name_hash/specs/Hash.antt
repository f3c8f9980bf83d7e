-- The two hashes of a name, from its bytes. Assumes nothing.
--     gnu_step    one byte more in the GNU hash
--     gnu_hash    the GNU convention: from 5381, times 33 plus the byte, modulo 2 ^ 32
--     sysv_hash   the gABI's `elf_hash`, on words of 32 bits
--     name_hash   either of them as an answer: a name past the limit is refused
use Rattle.std.specs.Prelude.{ℕ, ◌+◌, ◌-◌, ◌*◌, ◌/◌, ◌%◌, ◌^◌, cond, ltb, length, Result, Ok, Err}
use mathlib.Core.List.{List, foldl}
use Rattle.std.specs.Int.Bits.{bit_and, bit_xor}
use Rattle.endian.specs.Refusals.{limit, too_long}
use Rattle.endian.specs.declared.refusals.Refusal.{Refusal}

abbrev pub gnu_step : ℕ → ℕ → ℕ
gnu_step h b = (h * 33 + b) % 2 ^ 32

unfoldable pub gnu_hash : List ℕ → ℕ
gnu_hash name = foldl gnu_step 5381 name

-- one turn of the gABI's loop: h = (h << 4) + b; if (g = h & 0xf0000000) h ^= g >> 24; h &= ~g
abbrev pub sysv_step : ℕ → ℕ → ℕ
sysv_step h b =
    let t = (h * 16 + b) % 2 ^ 32 in
    let g = bit_and t 0xf000_0000 in
    bit_and (bit_xor t (g / 2 ^ 24)) (2 ^ 32 - 1 - g)

unfoldable pub sysv_hash : List ℕ → ℕ
sysv_hash name = foldl sysv_step 0 name

abbrev pub name_hash : (List ℕ → ℕ) → List ℕ → Result ℕ Refusal
name_hash hash name = cond (ltb limit (length name)) (Err too_long) (Ok (hash name))
