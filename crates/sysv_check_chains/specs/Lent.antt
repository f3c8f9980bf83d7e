-- Need not be believed: what the walk is lent, by what stands behind its references. Inner contracts cite it.
--     chain_of        the number after a number on its chain
--     bucket_of       the number that the chain of a bucket starts with
--     may_stand_of    whether a number may stand on the chain of a bucket, by the hash of its symbol's name
-- Assumes nothing.
use Rattle.std.specs.Prelude.{ℕ, Bool, ◌+◌, ◌*◌, ◌%◌}
use Rattle.endian.specs.Word.{word_at}
use Rattle.lookup.specs.Wanted.{name_of}
use Rattle.sysv_check_chains.specs.declared.chains.Chains.{Chains}
use Rattle.sysv_check_chains.specs.Hash.{sysv_hash_at}
use Rattle.sysv_check_chains.specs.Pass.{may_stand}

module _ (lent : Chains) where
  abbrev pub chain_of : ℕ → ℕ
  chain_of = λ j. word_at lent.order 4 lent.table.now (8 + lent.buckets * 4 + j * 4)

  abbrev pub bucket_of : ℕ → ℕ
  bucket_of = λ b. word_at lent.order 4 lent.table.now (8 + b * 4)

  abbrev pub may_stand_of : (b i : ℕ) → Bool
  may_stand_of =
      may_stand (λ j. sysv_hash_at (name_of lent.class lent.order lent.symbols.now lent.strings.now) j % lent.buckets)
      lent.first.0 lent.count
