use Rattle.script.proofs.Grammar.{reads_the_grammar}
use Rattle.script.proofs.reads_the_grammar.Goals as goal

pub returns : goal.returns
returns c = reads_the_grammar
