use Rattle.std.proofs.lemmas.Result.{err_from_is_err_and}
use Rattle.rate_map.specs.Values.{map_value}
use Rattle.theory.specs.Answers.{safe_answer, unsafe_answer}
use Rattle.rate_map.proofs.Obeyed.{on_ok, on_err, witnessed}
use Rattle.rate_map.proofs.run.obey.Goals as goal

pub returns-in_err-lay_out-in-LayOut-clause-answer : goal.returns-in_err-lay_out-in-LayOut-clause-answer
returns-in_err-lay_out-in-LayOut-clause-answer g c =
    let p = err_from_is_err_and c.from_residual.result c.from_residual.ensures.1 in
    rw (p.1, p.2, c.in-LayOut.is) (on_err c.lay_out.ensures.change c.in_err-lay_out-in-LayOut.was)

pub returns-in_err-split-in-Split-clause-answer : goal.returns-in_err-split-in-Split-clause-answer
returns-in_err-split-in-Split-clause-answer g c =
    let p = err_from_is_err_and c.from_residual-in_err-split-in-Split.result c.from_residual-in_err-split-in-Split.ensures.1 in
    rw (p.1, p.2, c.in-Split.is) (on_err c.split.ensures.change c.in_err-split-in-Split.was)

pub returns-in_err-witness-in-Safe : goal.returns-in_err-witness-in-Safe
returns-in_err-witness-in-Safe g c =
    let p = err_from_is_err_and c.from_residual-in_err-witness-in-Safe.result c.from_residual-in_err-witness-in-Safe.ensures.1 in
    let map = c.args.map.now in
    let h = witnessed (g.C.Chain.meaning map.chain) (g.C.Chain.lawful map.chain) (map_value map) map.grid_few c.requires c.in-Safe.number
    (λ G b L. safe_answer (g.C.Chain.meaning map.chain) G b L c.in-Safe.v.now) c.witness.ensures.change in
    record { answer = rw (p.1, p.2, c.in-Safe.is) (on_err h c.in_err-witness-in-Safe.was); value = rw c.in-Safe.is h.left; chain = c.witness.ensures.chain }

pub returns-in_ok-witness-in-Safe : goal.returns-in_ok-witness-in-Safe
returns-in_ok-witness-in-Safe g c =
    let map = c.args.map.now in
    let h = witnessed (g.C.Chain.meaning map.chain) (g.C.Chain.lawful map.chain) (map_value map) map.grid_few c.requires c.in-Safe.number
    (λ G b L. safe_answer (g.C.Chain.meaning map.chain) G b L c.in-Safe.v.now) c.witness.ensures.change in
    record { answer = rw c.in-Safe.is (on_ok h c.in_ok-witness-in-Safe.was); value = rw c.in-Safe.is h.left; chain = c.witness.ensures.chain }

pub returns-in_err-witness-in-Unsafe : goal.returns-in_err-witness-in-Unsafe
returns-in_err-witness-in-Unsafe g c =
    let p = err_from_is_err_and c.from_residual-in_err-witness-in-Unsafe.result c.from_residual-in_err-witness-in-Unsafe.ensures.1 in
    let map = c.args.map.now in
    let h = witnessed (g.C.Chain.meaning map.chain) (g.C.Chain.lawful map.chain) (map_value map) map.grid_few c.requires c.in-Unsafe.number
    (λ G b L. unsafe_answer (g.C.Chain.meaning map.chain) G b L c.in-Unsafe.v.now c.in-Unsafe.w.now) c.witness-in-Unsafe.ensures.change in
    record { answer = rw (p.1, p.2, c.in-Unsafe.is) (on_err h c.in_err-witness-in-Unsafe.was); value = rw c.in-Unsafe.is h.left; chain = c.witness-in-Unsafe.ensures.chain }

pub returns-in_ok-witness-in-Unsafe : goal.returns-in_ok-witness-in-Unsafe
returns-in_ok-witness-in-Unsafe g c =
    let map = c.args.map.now in
    let h = witnessed (g.C.Chain.meaning map.chain) (g.C.Chain.lawful map.chain) (map_value map) map.grid_few c.requires c.in-Unsafe.number
    (λ G b L. unsafe_answer (g.C.Chain.meaning map.chain) G b L c.in-Unsafe.v.now c.in-Unsafe.w.now) c.witness-in-Unsafe.ensures.change in
    record { answer = rw c.in-Unsafe.is (on_ok h c.in_ok-witness-in-Unsafe.was); value = rw c.in-Unsafe.is h.left; chain = c.witness-in-Unsafe.ensures.chain }
