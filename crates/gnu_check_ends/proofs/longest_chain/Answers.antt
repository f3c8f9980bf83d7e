-- `gnu_check_ends::longest_chain` meets its contract. The invariant: the larger of the longest so far and of what the rest
-- gives is the answer. Assumes nothing.
use Rattle.std.proofs.Common.{◌≤◌, arith}
use Rattle.gnu_check_ends.proofs.Chaining.{chaining_start, chaining_le, chaining_next, chaining_end}
use Rattle.gnu_check_ends.proofs.longest_chain.Goals as goal

pub loop-i-init : goal.loop-i-init
loop-i-init c = chaining_start _ _ _

pub overflow_sub-i : goal.overflow_sub-i
overflow_sub-i c = c.loop-i.invariant.low

pub overflow_sub-next : goal.overflow_sub-next
overflow_sub-next c =
    -- a chain starts no later than here
    let le : c.loop-i.start ≤ c.loop-i.i = chaining_le _ _ _ _ _ _ c.loop-i.invariant in omega arith

pub loop-i-preserved : goal.loop-i-preserved
loop-i-preserved c =
    let at = c.loop-i in
    chaining_next _ _ _ at.longest at.start at.i at.invariant c.loop-i-test.true c.max-longest.result c.chain_start-start.result
    c.max-longest.ensures (rw (← c.word_of-value.ensures) c.chain_start-start.ensures)

pub returns : goal.returns
returns c = chaining_end _ _ _ c.loop-i.longest c.loop-i.start c.loop-i.i c.loop-i.invariant c.loop-i-test.false
