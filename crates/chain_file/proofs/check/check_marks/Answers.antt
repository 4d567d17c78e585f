use Rattle.std.proofs.Common.{◌≡◌, ◌+◌, ◌-◌, length, take, drop, refl, arith}
use Rattle.std.proofs.lemmas.List.{length-take, length-drop}
use Rattle.chain_file.proofs.Marks.{mark_at, marks-got, marks_wrong}
use Rattle.chain_file.proofs.check.check_marks.Goals as goal

pub returns-in-Some : goal.returns-in-Some
returns-in-Some c =
    let bs = c.args.bytes.now in
    let at = c.args.at in
    let n = c.args.states in
    let i = c.in-Some.state in
    let all : length (take (at + n - at) (drop at bs)) ≡ n = simp (length-take, length-drop) (omega arith) in
    let h = c.in-Some.ensures.first in
    marks_wrong bs at n i (omega (arith, h.0, all))
    (λ k l. omega (arith, h.2 k l, mark_at bs at n k (omega (arith, h.0, all))))
    (omega (arith, h.1, mark_at bs at n i (omega (arith, h.0, all))))

pub returns-in-None : goal.returns-in-None
returns-in-None c =
    let bs = c.args.bytes.now in
    let at = c.args.at in
    let n = c.args.states in
    let all : length (take (at + n - at) (drop at bs)) ≡ n = simp (length-take, length-drop) (omega arith) in
    let m = marks-got bs at n (λ k l. omega (arith, c.in-None.ensures.none k (omega (arith, all)), mark_at bs at n k l)) in
    (m.0, m.1, refl)
