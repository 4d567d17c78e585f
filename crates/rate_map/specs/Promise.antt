-- What is promised of every list of calls.
use Rattle.std.specs.Prelude.{◌≡◌, Bool, true, false, List, vec_items}
use Rattle.chain.specs.Chains.{Meaning}
use Rattle.theory.specs.Maps.{MapValue, new_map}
use Rattle.theory.specs.Runs.{Command, run_from, answers_from, as_made, last_laid, Guarantee, Orderly}
use Rattle.rate_map.specs.declared.run.Ended.{Ended}
use Rattle.rate_map.specs.declared.run.Ended.TheVariants.{Open, Closed}
use Rattle.rate_map.specs.declared.run.Ran.{Ran}
use Rattle.rate_map.specs.Values.{map_value}

module _ {C : Type 0} where
  abbrev pub ended_value : Ended C → MapValue
  ended_value (Open m) = map_value m
  ended_value (Closed m) = map_value m

  abbrev pub chain_of : Ended C → C
  chain_of (Open m) = m.chain
  chain_of (Closed m) = m.chain

  abbrev pub is_closed : Ended C → Bool
  is_closed (Open m) = false
  is_closed (Closed m) = true

  -- of the calls ks on a new map over the chain, whose meaning is c: the map and the answers are what the definitions make of the calls, the map is closed if that was asked, and over the field and the limit as the last lay out taken set them, or as made, the field is covered, boxes are apart inside, safe boxes are safe and unsafe boxes unsafe at every setting
  pub record Promised (c : Meaning) (chain : C) (ks : List Command) (close : Bool) (r : Ran C) : Type 0 where
    pub value : ended_value r.map ≡ run_from c (new_map c) ks
    pub answered : vec_items r.answers ≡ answers_from c (new_map c) ks
    pub same : chain_of r.map ≡ chain
    pub closed : is_closed r.map ≡ close
    pub guarantee : Guarantee c (last_laid c (as_made c) ks (vec_items r.answers)) (ended_value r.map).boxes
    pub order : Orderly c (last_laid c (as_made c) ks (vec_items r.answers)) (ended_value r.map)
