-- `gnu_check_ends::longest_chain` meets its contract. The invariant: the larger of the longest so far and of what the rest
-- gives is the answer. Assumes nothing.
use Rattle.std.proofs.Common.{◌+◌, ◌*◌}
use Rattle.endian.specs.Word.{word_at}
use Rattle.gnu_check_ends.proofs.Chaining.{Chaining}
use Rattle.gnu_check_ends.proofs.longest_chain.Given as goal

abbrev pub invariant-loop-i : goal.invariant-loop-i
invariant-loop-i l =
    Chaining l.layout.symbol_base (λ k. word_at l.order 4 l.table (l.layout.values_at + k * 4)) l.count l.longest l.start l.i
