-- The invariant of `replay::replay`: no more records differ than were tried, and a turn tries one. Assumes nothing.
use Rattle.std.proofs.Common.{◌≤◌}
use Rattle.replay.proofs.replay.Given as goal

abbrev pub invariant-loop : goal.invariant-loop
invariant-loop g l = (l.tally.different ≤ l.tally.ran) × (l.tally.ran ≤ l.counter)
