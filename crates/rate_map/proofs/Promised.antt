-- What is promised of a list of calls follows from what its map and its answers are.
use Rattle.std.proofs.Common.{◌≡◌, Bool, List, vec_items, sym, subst}
use Rattle.chain.specs.Chains.{Meaning, Lawful}
use Rattle.theory.specs.Maps.{MapValue, new_map}
use Rattle.theory.specs.Runs.{Answer, Command, run_from, answers_from, as_made, last_laid, Guarantee, Orderly}
use Rattle.theory.proofs.Runs.{runs_are_sound}
use Rattle.rate_map.specs.declared.run.Ran.{Ran}
use Rattle.rate_map.specs.Promise.{Promised, ended_value, chain_of, is_closed}

pub promised : {C : Type 0} (c : Meaning) (chain : C) → Lawful c → (ks : List Command) (close : Bool) (r : Ran C)
    → ended_value r.map ≡ run_from c (new_map c) ks → vec_items r.answers ≡ answers_from c (new_map c) ks → chain_of r.map ≡ chain → is_closed r.map ≡ close
    → Promised c chain ks close r
promised c chain lawful ks close r value answered same closed =
    let s = runs_are_sound c lawful ks in
    record {
      value = value;
      answered = answered;
      same = same;
      closed = closed;
      guarantee = over (λ (a : List Answer) (m : MapValue). Guarantee c (last_laid c (as_made c) ks a) m.boxes) s.0;
      order = over (λ (a : List Answer) (m : MapValue). Orderly c (last_laid c (as_made c) ks a) m) s.1;
    }
  where
    over : (P : List Answer → MapValue → Type 0) → P (answers_from c (new_map c) ks) (run_from c (new_map c) ks) → P (vec_items r.answers) (ended_value r.map)
    over P h =
        let A : List Answer → Type 0 = λ a. P a (ended_value r.map) in
        let M : MapValue → Type 0 = λ m. P (answers_from c (new_map c) ks) m in
        subst A (sym answered) (subst M (sym value) h)
