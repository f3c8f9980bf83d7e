-- `sysv::find::walk` meets its contract. The invariant: the numbers that are left, after the probes that were made, give the
-- answer. The measure is what is left of the tests. Assumes nothing.
use Rattle.std.proofs.Common.{◌+◌, ◌*◌, ◌-◌, ◌^◌, ◌≤◌, ◌<◌}
use Rattle.endian.specs.Word.{word_at}
use Rattle.lookup.specs.Wanted.{wanted}
use Rattle.lookup.specs.Lent.{parts_of, asked_of}
use Rattle.sysv.proofs.Walking.{Walking}
use Rattle.sysv.proofs.find.walk.Given as goal

abbrev pub invariant-chain : goal.invariant-chain
invariant-chain l =
    (l.i < 2 ^ 32) × (l.probes ≤ l.chains)
    × Walking
    (wanted l.class l.order (parts_of l.parts) (asked_of l.asked))
    l.chains (λ j. word_at l.order 4 l.parts.table.now (l.chains_at + j * 4)) l.start l.i l.probes

abbrev pub decreases-chain : goal.decreases-chain
decreases-chain l =
    l.chains - l.probes
