-- The refusal of a fault in a section, by its place.
use Rattle.std.specs.Prelude.{ℕ}
use Rattle.chain.specs.declared.refusal.Refusal.{Refusal}
use Rattle.chain.specs.declared.refusal.Refusal.TheVariants.{BadContents, BadNumbers, BadMark, BadRow}
use Rattle.chain_file.specs.declared.part.Section.{Section}
use Rattle.chain_file.specs.declared.part.Section.TheVariants.{Contents, Numbers, Marks, Rows}

abbrev pub fault_of : Section → ℕ → Refusal
fault_of Contents = BadContents
fault_of Numbers = BadNumbers
fault_of Marks = BadMark
fault_of Rows = BadRow
