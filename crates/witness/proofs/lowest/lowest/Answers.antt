use Rattle.std.proofs.Common.{◌≡◌, ◌<◌, true, false, rules, tests}
use Rattle.std.proofs.lemmas.Iterator.{first_from_Range, serves_from_Range}
use Rattle.witness.proofs.Found.{found_lowest}
use Rattle.witness.proofs.lowest.lowest.Goals as goal

pub find-requires-clause-callable : goal.find-requires-clause-callable
find-requires-clause-callable g c = serves_from_Range (λ x q k. search (rules, tests)) (λ x low high. search (rules, c.requires x))

pub returns : goal.returns
returns g c = λ ok told. found_lowest ok c.args.n c.find.result
    (first_from_Range _ _ _ _ (λ k. k < c.args.n → ok k ≡ false) (λ k. k < c.args.n → ok k ≡ true) c.find.ensures.ran
    (λ x q k h. search (rules, tests, told x))
    (λ x q k. (search rules, λ h. search (rules, tests, told x))))
