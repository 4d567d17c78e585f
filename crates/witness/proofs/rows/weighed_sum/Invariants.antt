use Rattle.std.proofs.Common.{◌≡◌, ◌*◌, ◌≤◌, take, nat_abs}
use Rattle.theory.specs.Words.{◌·◌, sumℤ}
use Rattle.witness.proofs.Records.{worth}
use Rattle.witness.proofs.rows.weighed_sum.Given as goal

abbrev pub invariant-loop-edge : goal.invariant-loop-edge
invariant-loop-edge g l =
    (l.sum ≡ sumℤ (λ e. (g.T.Claim.said l.claim).number e.successor · worth l.point.grid l.point.numbers l.point.named e) (take l.edge-index l.edges))
    × (nat_abs l.sum ≤ 302231454903657293676544 * l.edge-index)
