use Rattle.std.proofs.Common.{◌≡◌, ◌*◌, ◌<◌, ◌≤◌, length, ℤ, ◌+ℤ◌, nat_abs, get_or, sym, ap, ◌∙◌, subst, arith, w64}
use mir.Syntax.{w128}
use Rattle.std.proofs.lemmas.Int.{to_z-of_z}
use Rattle.std.proofs.lemmas.List.{length-take-le, take_all}
use Rattle.chain.specs.declared.record.EdgeRecord.{EdgeRecord}
use Rattle.theory.specs.Words.{◌·◌, sumℤ}
use Rattle.witness.specs.Regions.{box_of}
use Rattle.witness.specs.Rows.{blank}
use Rattle.witness.proofs.Signs.{nat_abs_add, onto-is}
use Rattle.witness.proofs.Records.{worth, sum_more, mean-is}
use Rattle.witness.proofs.rows.weighed_sum.Goals as goal

pub loop-edge-preserved : goal.loop-edge-preserved
loop-edge-preserved g c =
    let i = c.loop-edge.edge-index in
    let s = c.loop-edge.sum in
    let t = c.term-sum.result in
    let p = c.point-point.result in
    let es = c.edges-edges.result.now in
    let row = c.args.row.now.row in
    let long : length es ≡ row.edge_count = ap length c.edges-edges.ensures ∙ length-take-le row.edge_count row.edges (omega (arith, c.args.row.now.readable.edges_few, c.args.row.now.readable.edges_long)) in
    let few : i < 8 = omega (arith, c.args.row.now.readable.edges_few) in
    let f : EdgeRecord → ℤ = λ e. (g.T.Claim.said c.args.claim.now).number e.successor · worth p.grid p.numbers p.named e in
    let added : t ≡ f (get_or es i blank)
    = c.term-sum.ensures.product ∙ (λ k. c.number.ensures k · (to_z-of_z w64 c.value.result (record { sfits = c.value.type_inv }) ∙ c.value.ensures.worth) k) in
    let B : ℤ → Type 0 = λ z. nat_abs z ≤ 302231454903657293676544 * i in
    let bs : nat_abs s ≤ 302231454903657293676544 * i = subst B c.loop-edge.sum-is c.loop-edge.invariant.1 in
    let e = onto-is w128 _ s t c.loop-edge.sum-is (record { sfits = c.term-sum.type_inv }) (omega (arith, c.term-sum.ensures.bound)) in (
      e ∙ (λ k. (sym c.loop-edge.sum-is ∙ c.loop-edge.invariant.0) k +ℤ added k) ∙ sym (sum_more f es i blank c.loop-edge-test.true),
      rw e (omega (arith, nat_abs_add s t, c.term-sum.ensures.bound)),
    )

pub returns-clause-sum : goal.returns-clause-sum
returns-clause-sum g c =
    let row = c.args.row.now.row in
    let region = c.args.row.now.region.now in
    let p = c.point-point.result in
    let es = c.edges-edges.result.now in
    let e = c.point-point.ensures in
    let x = (g.T.Claim.said c.args.claim.now).number in
    c.loop-edge.invariant.0
    ∙ ap (sumℤ (λ e. x e.successor · worth p.grid p.numbers p.named e)) (take_all _ es c.loop-edge-test.false ∙ c.edges-edges.ensures)
    ∙ mean-is _ row c.args.row.now.readable p.grid region.grid (box_of region) c.args.corner p.numbers p.named e.grid e.named e.numbers x
