-- What a table and a map hold, as values.
use Rattle.std.specs.Prelude.{ℕ, ◌≤◌, List, slice_index}
use Rattle.theory.specs.declared.record.BoxRecord.{BoxRecord}
use Rattle.theory.specs.Maps.{MapValue}
use Rattle.rate_map.specs.declared.table.Table.{Table}
use Rattle.rate_map.specs.declared.map.RateMap.{RateMap}

-- the boxes in use
abbrev pub used : Table → List BoxRecord
used t = t.boxes.items

-- no high side is above a thousand
abbrev pub Few : BoxRecord → Type 0
Few b = (r : ℕ) → slice_index b.high r ≤ 1000

module _ {C S : Type 0} where
  abbrev pub map_value : RateMap C S → MapValue
  map_value m = record { grid = m.grid; limit = m.limit; boxes = used m.table }
