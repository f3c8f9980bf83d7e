-- Need not be believed: how recorded answers are counted. Assumes nothing.
use Rattle.std.specs.Prelude.{ℕ, ◌+◌, ◌%◌, ◌^◌, cond, Bool}
use Rattle.replay.specs.declared.Tally.{Tally}

-- one more was tried, and one more differs unless it agrees; as numbers of 64 bits
abbrev pub counted : Tally → (agrees : Bool) → Tally
counted tally agrees = record { ran = (tally.ran + 1) % 2 ^ 64; different = (tally.different + cond agrees 0 1) % 2 ^ 64 }
