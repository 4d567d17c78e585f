use Rattle.std.proofs.Common.{◌≡◌, ℕ, ◌^◌, length, sym, refl, ap, ◌∙◌, arith}
use Rattle.std.proofs.lemmas.List.{length-map}
use Rattle.std.proofs.lemmas.Result.{err_from_is_err_and}
use Rattle.chain.specs.Chains.{Row}
use Rattle.chain.specs.Filled.{no_edge, filled_edge}
use Rattle.chain_format.specs.Reader.{Part, field, within}
use Rattle.chain_format.specs.Format.{version1, rate, edge}
use Rattle.chain_format.proofs.Steps.{then_got, then_cut, mapped-got, mapped-cut}
use Rattle.chain_file.proofs.Fills.{front_length, pad}
use Rattle.chain_file.proofs.Parts.{counted-got, counted-cut}
use Rattle.chain_file.proofs.row.read_row.Goals as goal

pub returns-in_err-rate_count-clause-answer : goal.returns-in_err-rate_count-clause-answer
returns-in_err-rate_count-clause-answer c =
    let p = err_from_is_err_and c.from_residual.result c.from_residual.ensures.1 in
    rw (p.1, p.2) (then_cut _ _ _ _ (then_cut _ _ _ _ c.in_err-rate_count.ensures.answer))

pub returns-in_err-read_rates-clause-answer : goal.returns-in_err-read_rates-clause-answer
returns-in_err-read_rates-clause-answer c =
    let p = err_from_is_err_and c.from_residual-in_err-read_rates.result c.from_residual-in_err-read_rates.ensures.1 in
    let f = c.in_ok-rate_count.ensures in
    let n = front_length {X = ℕ} 3 c.in_ok-rate_count.rate_count 0 (omega (arith, f.below)) in
    rw (p.1, p.2) (then_cut _ _ _ _ (counted-cut _ _ _ (λ p. rate p c.args.rates) _ _ _ _ _ _ f.answer f.same (rw n at c.in_err-read_rates.ensures.answer)))

pub returns-in_err-edge_count-clause-answer : goal.returns-in_err-edge_count-clause-answer
returns-in_err-edge_count-clause-answer c =
    let p = err_from_is_err_and c.from_residual-in_err-edge_count.result c.from_residual-in_err-edge_count.ensures.1 in
    let f = c.in_ok-rate_count.ensures in
    let n = front_length {X = ℕ} 3 c.in_ok-rate_count.rate_count 0 (omega (arith, f.below)) in
    let rates = counted-got _ _ _ (λ p. rate p c.args.rates) _ _ _ _ _ _ _ f.answer f.same (rw n at c.in_ok-read_rates.ensures.answer) in
    let same = c.read_rates.ensures.same ∙ f.same in
    let count = ap (λ (p : Part). field p 1 (within 1 8) c.read_rates.new.part.at) (sym same) ∙ c.in_err-edge_count.ensures.answer in
    rw (p.1, p.2) (then_got _ _ _ _ _ rates ∙ mapped-cut _ _ _ _ (then_cut _ _ _ _ count))

pub returns-in_err-read_edges-clause-answer : goal.returns-in_err-read_edges-clause-answer
returns-in_err-read_edges-clause-answer c =
    let p = err_from_is_err_and c.from_residual-in_err-read_edges.result c.from_residual-in_err-read_edges.ensures.1 in
    let f = c.in_ok-rate_count.ensures in
    let n = front_length {X = ℕ} 3 c.in_ok-rate_count.rate_count 0 (omega (arith, f.below)) in
    let rates = counted-got _ _ _ (λ p. rate p c.args.rates) _ _ _ _ _ _ _ f.answer f.same (rw n at c.in_ok-read_rates.ensures.answer) in
    let same = c.read_rates.ensures.same ∙ f.same in
    let h = c.in_ok-edge_count.ensures in
    let count = ap (λ (p : Part). field p 1 (within 1 8) c.read_rates.new.part.at) (sym same) ∙ h.answer in
    let m = front_length 8 c.in_ok-edge_count.edge_count no_edge (omega (arith, h.below)) in
    let size : c.power.result ≡ 2 ^ length c.read_rates.new.into = c.power.ensures.value ∙ ap (λ k. 2 ^ k) (sym (c.read_rates.auto.into ∙ n)) in
    let edges = counted-cut _ _ _ (λ p. edge version1 p c.args.states c.power.result) _ _ _ _ _ _ count (c.field-2.ensures.same ∙ same) (rw m at c.in_err-read_edges.ensures.err) in
    rw (p.1, p.2) (then_got _ _ _ _ _ rates ∙ mapped-cut _ _ _ _ (rw size at edges))

pub returns-clause-answer : goal.returns-clause-answer
returns-clause-answer c =
    let f = c.in_ok-rate_count.ensures in
    let n = front_length {X = ℕ} 3 c.in_ok-rate_count.rate_count 0 (omega (arith, f.below)) in
    let rates = counted-got _ _ _ (λ p. rate p c.args.rates) _ _ _ _ _ _ _ f.answer f.same (rw n at c.in_ok-read_rates.ensures.answer) in
    let same = c.read_rates.ensures.same ∙ f.same in
    let h = c.in_ok-edge_count.ensures in
    let count = ap (λ (p : Part). field p 1 (within 1 8) c.read_rates.new.part.at) (sym same) ∙ h.answer in
    let m = front_length 8 c.in_ok-edge_count.edge_count no_edge (omega (arith, h.below)) in
    let rs = c.read_rates.new.into in
    let few : length rs ≡ c.in_ok-rate_count.rate_count = c.read_rates.auto.into ∙ n in
    let size : c.power.result ≡ 2 ^ length rs = c.power.ensures.value ∙ ap (λ k. 2 ^ k) (sym few) in
    let o = c.in_ok-read_edges.ensures.ok in
    let edges = counted-got _ _ _ (λ p. edge version1 p c.args.states c.power.result) _ _ _ _ _ _ _ count (c.field-2.ensures.same ∙ same) (rw m at o.1) in
    let many : length c.read_edges.new.into ≡ c.in_ok-edge_count.edge_count = c.read_edges.auto.into ∙ m in
    let x : Row = record { rates = rs; edges = o.0 } in
    let tall : length x.edges ≡ c.in_ok-edge_count.edge_count = sym (ap length o.2 ∙ length-map o.0 filled_edge) ∙ many in (
      x,
      then_got _ _ _ _ _ rates ∙ mapped-got _ _ _ _ _ (rw size at edges),
      rw (pad 3 c.in_ok-rate_count.rate_count 0 rs few, pad 8 c.in_ok-edge_count.edge_count no_edge c.read_edges.new.into many, o.2, few, tall) refl,
    )
