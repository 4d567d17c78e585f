use Rattle.std.proofs.Common.{◌<◌, sym, ap, ◌∙◌, arith}
use Rattle.chain.specs.Filled.{filled}
use Rattle.chain_format.specs.Format.{version1, form, chain_in}
use Rattle.chain_format.proofs.Laws.{got_same}
use Rattle.chain_format.proofs.Steps.{never}
use Rattle.chain_format.proofs.Holds.{told, row-told-at}
use Rattle.chain_file.proofs.Openings.{short}
use Rattle.chain_file.proofs.Parts.{begun}
use Rattle.chain_file.proofs.stored.StoredChainChain.row.Goals as goal

pub read_row-requires : goal.read_row-requires
read_row-requires c =
    let self = c.args.self.now in
    let t = told self.bytes.now self.fit self.ok in
    record {
      few = omega (arith, t.lawful.rates_few, c.rates.ensures);
      near = omega (arith, short self.bytes.now self.fit self.ok, c.row_place-at.ensures.inside, c.new-part.ensures.place);
    }

pub returns-in_err-into : goal.returns-in_err-into
returns-in_err-into c =
    let self = c.args.self.now in
    let t = told self.bytes.now self.fit self.ok in
    let r = row-told-at version1 self.bytes.now (chain_in self.bytes.now) t _ _ _ c.args.state c.count-states.ensures c.rates.ensures c.row_place-at.ensures.value (omega (arith, c.count-states.ensures)) in
    absurd (never _ _ _ (sym r.2 ∙ begun (λ p. form version1 p c.count-states.result c.rates.result) c.new-part.ensures.value c.new-part.ensures.place c.in_err-into.ensures.answer))

pub returns : goal.returns
returns c =
    let self = c.args.self.now in
    let t = told self.bytes.now self.fit self.ok in
    let l : c.args.state < c.count-states.result = omega arith in
    let r = row-told-at version1 self.bytes.now (chain_in self.bytes.now) t _ _ _ c.args.state c.count-states.ensures c.rates.ensures c.row_place-at.ensures.value (omega (arith, c.count-states.ensures)) in
    let f = c.in_ok-into.ensures.answer in
    let read = begun (λ p. form version1 p c.count-states.result c.rates.result) c.new-part.ensures.value c.new-part.ensures.place f.1 in
    (omega (arith, c.count-states.ensures), f.2 ∙ ap filled (got_same _ _ _ _ (sym read ∙ r.2)).0)
