use Rattle.std.proofs.Common.{◌≡◌, ◌∙◌, arith, rules}
use Rattle.chain.specs.declared.refusal.Refusal.TheVariants.{BadRow}
use Rattle.chain_format.specs.Reader.{part, value_at}
use Rattle.chain_format.proofs.Laws.{value_under}
use Rattle.chain_file.proofs.Parts.{number_in}
use Rattle.chain_file.proofs.part.value_at.Goals as goal

pub returns-clause-value : goal.returns-clause-value
returns-clause-value g c =
    c.from_le_bytes.ensures ∙ number_in c.args.bytes.now _ g.row.W c.args.at c.requires.width c.requires.inside (c.copy_from_slice.ensures.after ∙ grind arith)

pub returns-clause-under : goal.returns-clause-under
returns-clause-under g c =
    let e : c.from_le_bytes.result ≡ value_at c.args.bytes.now g.row.W c.args.at = returns-clause-value g c in
    rw e (value_under (part c.args.bytes.now 0 BadRow) (search rules) g.row.W c.args.at)
