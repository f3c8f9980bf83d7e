-- `sysv_check_chains::chains::follow` meets its contract. The invariant: what is left of the chain, with the steps that are left,
-- gives the answer. The measure is the steps that are left. Assumes nothing.
use Rattle.std.proofs.Common.{sym, ◌∙◌, arith, rules}
use Rattle.sysv_check_chains.proofs.Following.{following_start, following_zero, following_spent, following_bad, following_on}
use Rattle.sysv_check_chains.proofs.chains.follow.Goals.{then-k-eq0-via-then-k-eq0, then-k-eq0-via-else-k-eq0+then-not-may}
use Rattle.sysv_check_chains.proofs.chains.follow.Goals as goal

pub loop-number-init : goal.loop-number-init
loop-number-init g c = (search rules, search rules, λ test agrees. following_start _ _ _ _)

pub returns-then-k-eq0 : goal.returns-then-k-eq0
returns-then-k-eq0 g c =
    λ test agrees.
    let at = c.loop-number in
    let here = at.invariant.2 test agrees in
    elim c.then-k-eq0.branch [
      | then-k-eq0-via-then-k-eq0 w ↦ following_spent _ _ _ _ at.number at.k here c.loop-number-test.true w.if-k-eq0.true
      | then-k-eq0-via-else-k-eq0+then-not-may w ↦
          following_bad _ _ _ _ at.number at.k here c.loop-number-test.true
          (agrees at.number w.may.result at.invariant.1 w.may.ensures ∙ w.if-not-may.true)
    ]

pub loop-number-preserved : goal.loop-number-preserved
loop-number-preserved g c =
    let at = c.loop-number in (
      at.invariant.0,
      search rules,
      λ test agrees.
          rw c.next-number.ensures
          (following_on _ _ _ _ at.number at.k (at.invariant.2 test agrees) c.loop-number-test.true (omega (arith, c.if-k-eq0.false))
          (agrees at.number c.may.result at.invariant.1 c.may.ensures ∙ c.if-not-may.false)),
    )

pub returns : goal.returns
returns g c =
    λ test agrees.
    let at = c.loop-number in
    following_zero _ _ _ _ at.number at.k (at.invariant.2 test agrees) c.loop-number-test.false
