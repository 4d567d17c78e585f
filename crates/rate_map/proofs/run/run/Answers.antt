use Rattle.std.proofs.Common.{◌≡◌, [], map, get_or, take, vec_items, sym, refl, ap, ◌∙◌, subst}
use Rattle.std.proofs.lemmas.List.{take_all}
use Rattle.theory.specs.Maps.{MapValue, new_map}
use Rattle.theory.specs.Runs.{run_from, answers_from, after, answer}
use Rattle.theory.proofs.Runs.{runs_are_sound}
use Rattle.rate_map.specs.declared.call.Call.{Call}
use Rattle.rate_map.specs.declared.call.Call.TheVariants.{LayOut}
use Rattle.rate_map.specs.Values.{map_value}
use Rattle.rate_map.specs.Told.{command}
use Rattle.rate_map.specs.Calls.{Fit}
use Rattle.rate_map.specs.Promise.{Promised}
use Rattle.rate_map.proofs.Lists.{run_more, answers_more}
use Rattle.rate_map.proofs.Promised.{promised}
use Rattle.rate_map.proofs.run.run.Goals as goal

pub loop-call-init : goal.loop-call-init
loop-call-init g c = (refl, c.new-map.ensures.value ∙ ap (λ x. new_map (g.C.Chain.meaning x)) (sym c.new-map.ensures.chain), c.new-answers.ensures.items)

pub obey-answer-requires : goal.obey-answer-requires
obey-answer-requires g c =
    let x = c.new-map.result.chain in
    let k = g.C.Chain.meaning x in
    let s = (runs_are_sound k (g.C.Chain.lawful x) (map command (take c.loop-call.call-index c.args.calls.now))).1.proper in
    let P : MapValue → Type 0 = λ m. Fit k m in
    let Q : g.row.C.Denot → Type 0 = λ y. Fit (g.C.Chain.meaning y) (map_value c.loop-call.map) in
    subst Q (sym c.loop-call.invariant.0) (subst P (sym c.loop-call.invariant.1) s)

pub returns-then-is_err : goal.returns-then-is_err
returns-then-is_err g c = c.into_chain.ensures ∙ c.obey-answer.ensures.chain ∙ c.loop-call.invariant.0 ∙ c.new-map.ensures.chain

-- what a list of calls is read as past its end
abbrev no_call : Call
no_call = LayOut 0 0 (record { ref_ptr = (0, 0); now = [] })

pub loop-call-preserved : goal.loop-call-preserved
loop-call-preserved g c =
    let k = g.C.Chain.meaning c.new-map.result.chain in
    let same = c.loop-call.invariant.0 in
    let before = map_value c.loop-call.map in
    let value = c.obey-answer.ensures.value ∙ ap (λ x. after (g.C.Chain.meaning x) before (command (get_or c.args.calls.now c.loop-call.call-index no_call))) same in
    let answered = c.obey-answer.ensures.answer ∙ ap (λ x. answer (g.C.Chain.meaning x) before (command (get_or c.args.calls.now c.loop-call.call-index no_call))) same in (
      c.obey-answer.ensures.chain ∙ same,
      run_more command k (new_map k) c.args.calls.now c.loop-call.call-index no_call c.loop-call-test.true before _ c.loop-call.invariant.1 value,
      answers_more command k (new_map k) c.args.calls.now c.loop-call.call-index no_call c.loop-call-test.true before (vec_items c.loop-call.answers) _ c.obey-answer.result
          c.loop-call.invariant.1 c.loop-call.invariant.2 answered (rw (c.is_err.ensures.negation, c.if-is_err.false) at c.push.ensures.items),
    )

pub returns : goal.returns
returns g c =
    let x = c.new-map.result.chain in
    let k = g.C.Chain.meaning x in
    let calls = c.args.calls.now in
    let value : map_value c.loop-call.map ≡ run_from k (new_map k) (map command calls)
    = c.loop-call.invariant.1 ∙ ap (λ t. run_from k (new_map k) (map command t)) (take_all c.loop-call.call-index calls c.loop-call-test.false) in
    let answered : vec_items c.loop-call.answers ≡ answers_from k (new_map k) (map command calls)
    = c.loop-call.invariant.2 ∙ ap (λ t. answers_from k (new_map k) (map command t)) (take_all c.loop-call.call-index calls c.loop-call-test.false) in
    let P : g.row.C.Denot → Type 0 = λ y. Promised (g.C.Chain.meaning y) y (map command calls) c.args.close (record { map = c.end.result; answers = c.loop-call.answers }) in
    subst P c.new-map.ensures.chain
    (promised k x (g.C.Chain.lawful x) (map command calls) c.args.close (record { map = c.end.result; answers = c.loop-call.answers })
    (c.end.ensures.value ∙ value) answered (c.end.ensures.chain ∙ c.loop-call.invariant.0) c.end.ensures.closed)
