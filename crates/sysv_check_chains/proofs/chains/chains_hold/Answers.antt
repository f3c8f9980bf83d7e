-- `sysv_check_chains::chains::chains_hold` meets its contract. The invariant: the buckets that are left, with the steps that are
-- left, give the answer. Assumes nothing.
use Rattle.std.proofs.Common.{◌%◌, sym, ◌∙◌, rules}
use Rattle.lookup.specs.Wanted.{name_of}
use Rattle.sysv_check_chains.specs.Hash.{sysv_hash_at}
use Rattle.sysv_check_chains.specs.Lent.{chain_of, bucket_of, may_stand_of}
use Rattle.sysv_check_chains.proofs.Following.{range_wrong, passing_start, passing_wrong, passing_on, passing_end}
use Rattle.sysv_check_chains.proofs.chains.chains_hold.Goals as goal

pub loop-b-init : goal.loop-b-init
loop-b-init c = passing_start _ _ _ _ _

pub returns-then-not-chain_ends : goal.returns-then-not-chain_ends
returns-then-not-chain_ends c =
    let at = c.loop-b in
    let a = c.args.chains in
    passing_wrong _ _ _ _ _ at.b-counter at.left at.invariant c.loop-b-test.true
    (range_wrong (chain_of a)
    (λ j. sysv_hash_at (name_of a.class a.order a.symbols.now a.strings.now) j % a.buckets)
    a.first.0 a.count at.b-counter at.left (bucket_of a at.b-counter)
    (sym (rw c.start-start.ensures at c.chain_ends.ensures) ∙ c.if-not-chain_ends.true))

pub returns-in_default : goal.returns-in_default
returns-in_default c =
    let at = c.loop-b in
    let may = may_stand_of c.args.chains at.b-counter in
    let walked = rw c.start-start.ensures at (c.follow.ensures may (λ i b low called. search rules)) in
    passing_wrong _ _ _ _ _ at.b-counter at.left at.invariant c.loop-b-test.true (sym walked ∙ c.in_default.is)

pub loop-b-preserved : goal.loop-b-preserved
loop-b-preserved c =
    let at = c.loop-b in
    let may = may_stand_of c.args.chains at.b-counter in
    let walked = rw c.start-start.ensures at (c.follow.ensures may (λ i b low called. search rules)) in
    passing_on _ _ _ _ _ at.b-counter at.left at.invariant c.loop-b-test.true _ (sym walked ∙ c.in-Some.is)

pub returns : goal.returns
returns c = passing_end _ _ _ _ _ c.loop-b.b-counter c.loop-b.left c.loop-b.invariant c.loop-b-test.false
