use Rattle.std.proofs.Common.{◌≡◌, length, sym, ap, ◌∙◌, arith}
use Rattle.chain_format.specs.Format.{version1, row_bytes}
use Rattle.chain_format.proofs.Written.{row-length}
use Rattle.chain_writer.specs.Wrote.{record_length}
use Rattle.chain_writer.proofs.Lengths.{row_short}
use Rattle.chain_writer.proofs.row.StateRowEncode.length.Goals as goal

pub returns-clause-exact : goal.returns-clause-exact
returns-clause-exact g c =
    let r = c.args.self.now in
    let m = g.C.Chain.meaning r.chain.now in
    let l = g.C.Chain.lawful r.chain.now in
    let e : c.row_length.result ≡ length (row_bytes version1 (m.row r.state)) =
    c.row_length.ensures ∙ ap (record_length version1) c.record.ensures ∙ sym (row-length version1 _ _ _ (m.row r.state) (l.rows r.state r.within)) in
    omega (arith, e, row_short m l r.state r.within)

pub returns-clause-within : goal.returns-clause-within
returns-clause-within g c =
    let r = c.args.self.now in
    row_short (g.C.Chain.meaning r.chain.now) (g.C.Chain.lawful r.chain.now) r.state r.within
