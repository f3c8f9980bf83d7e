-- `sysv_check_chains::chains::follow` meets its contract. The invariant: what is left of the chain, with the steps that are left,
-- gives the answer. The measure is the steps that are left. Assumes nothing.
use Rattle.std.proofs.Common.{◌≡◌, ℕ, ◌^◌, ◌<◌, Bool}
use Rattle.sysv_check_chains.specs.Lent.{chain_of}
use Rattle.sysv_check_chains.proofs.Following.{Following}
use Rattle.sysv_check_chains.proofs.chains.follow.Given as goal

abbrev pub invariant-loop-number : goal.invariant-loop-number
invariant-loop-number g l =
    goal.F-IsAlwaysCallable g l.may
    × (l.number < 2 ^ 32)
    × ((test : ℕ → Bool) → ((i : ℕ) (b : Bool) → i < 2 ^ 32 → goal.F-post g l.may i b → test i ≡ b)
    → Following (chain_of l.chains) test l.left l.start l.number l.k)

abbrev pub decreases-loop-number : goal.decreases-loop-number
decreases-loop-number g l = l.k
