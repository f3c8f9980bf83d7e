-- `sysv_check_chains::chains::chains_hold` meets its contract. The invariant: the buckets that are left, with the steps that are
-- left, give the answer. Assumes nothing.
use Rattle.sysv_check_chains.specs.Lent.{chain_of, bucket_of, may_stand_of}
use Rattle.sysv_check_chains.proofs.Following.{Passing}
use Rattle.sysv_check_chains.proofs.chains.chains_hold.Given as goal

abbrev pub invariant-loop-b : goal.invariant-loop-b
invariant-loop-b l =
    Passing (chain_of l.chains) (bucket_of l.chains) (may_stand_of l.chains) l.chains.buckets l.steps l.b-counter l.left
