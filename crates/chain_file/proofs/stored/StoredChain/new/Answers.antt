use Rattle.std.proofs.Common.{refl}
use Rattle.chain_format.specs.Reader.{bytes_of, spell}
use Rattle.chain_format.proofs.Holds.{told}
use Rattle.chain_format.proofs.TripLaws.{read_then_write}
use Rattle.chain_file.proofs.Openings.{first_fits, first_opens, first_same}
use Rattle.chain_file.proofs.stored.StoredChain.new.Goals as goal

pub invariant_of-result : goal.invariant_of-result
unfolding bytes_of spell
invariant_of-result c =
    let t = told _ first_fits first_opens in
    record {
      fit = first_fits;
      ok = first_opens;
      again = (read_then_write _ first_fits first_opens).1;
      long = t.long;
      states = t.states;
      rates = t.rates;
      unit = t.unit;
      start = t.start;
      marks = t.mark;
    }

pub returns : goal.returns
unfolding bytes_of spell
returns c = (refl, first_same)
