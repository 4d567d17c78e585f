use Rattle.std.proofs.Common.{ap, ◌∙◌, subst, arith}
use Rattle.chain.specs.declared.record.RowRecord.{RowRecord}
use Rattle.chain_format.specs.Format.{version1}
use Rattle.chain_writer.specs.Wrote.{record_bytes}
use Rattle.chain_writer.proofs.Lengths.{row_short}
use Rattle.chain_writer.proofs.Records.{record_bytes-filled}
use Rattle.chain_writer.proofs.row.StateRowEncode.encode.Goals as goal

pub put_row-requires : goal.put_row-requires
put_row-requires g c =
    let r = c.args.self.now in
    omega (arith, ap (λ (r : RowRecord). r.rate_count) c.record.ensures, ((g.C.Chain.lawful r.chain.now).rows r.state r.within).rates_few)

pub returns-clause-within : goal.returns-clause-within
returns-clause-within g c =
    let r = c.args.self.now in
    row_short (g.C.Chain.meaning r.chain.now) (g.C.Chain.lawful r.chain.now) r.state r.within

pub returns-clause-taken : goal.returns-clause-taken
returns-clause-taken g c =
    let r = c.args.self.now in
    let m = g.C.Chain.meaning r.chain.now in
    let l = g.C.Chain.lawful r.chain.now in
    let b = ap (record_bytes version1) c.record.ensures ∙ record_bytes-filled version1 m.states m.rates m.unit (m.row r.state) l.rates_few (l.rows r.state r.within) in
    subst (λ bs. g.S.Sink.Takes c.args.sink.now bs c.put_row.new.sink) b c.put_row.ensures
