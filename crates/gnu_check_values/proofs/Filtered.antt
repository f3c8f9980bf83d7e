-- Both bloom bits of a symbol are set exactly if the bloom filter lets its hash pass, where there are bloom words and the
-- shift is no more than 31. Assumes nothing.
use Rattle.std.proofs.Common.{◌≡◌, ℕ, ◌≤◌, Bool, true, false, cond, not, ◌&&◌, Result, Ok, refl, arith, ne_eqb, le-ltb}
use Rattle.endian.specs.declared.refusals.Refusal.{Refusal}
use Rattle.gnu_table.specs.Table.{GnuTable, bloom_first, bloom_second, bloom_filter}
use Rattle.gnu_rules.specs.Rules.{gnu_hash_at, bloom_bits_set}
use Rattle.gnu_check_values.specs.Blooms.{passes, hash_passes}

both : (first second : Bool)
    → passes (cond {A = Result Bool Refusal} (not first) (Ok false) (cond (not second) (Ok false) (Ok true))) ≡ first && second
both true true = refl
both true false = refl
both false second = refl

pub bits_set : (t : GnuTable) → 1 ≤ t.bloom_count → t.shift ≤ 31 → (i : ℕ) → hash_passes t i ≡ bloom_bits_set t i
unfolding hash_passes bloom_filter
bits_set t blooms small i =
    rw (ne_eqb t.bloom_count 0 (omega arith), le-ltb 31 t.shift small)
    (both (bloom_first t (gnu_hash_at t i)) (bloom_second t (gnu_hash_at t i)))
