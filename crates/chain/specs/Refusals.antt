-- The number and the place of each refusal, and its words.
use Rattle.std.specs.Prelude.{ℕ, List, ◌∷◌, ◌++◌, codes, decimal}
use Rattle.chain.specs.declared.refusal.Refusal.{Refusal}
use Rattle.chain.specs.declared.refusal.Refusal.TheVariants.{BadContents, BadNumbers, BadMark, BadRow, BadSum, BadGrid, BadField, InUse, NoBox, NotOpen, BadCut, Full, NoState, BadPasses, ShortBuffer, BadLength, BadNumber, BadChance, BadBound, BadSteps, BadStart, TooLong, BadLine}

abbrev pub number_of : Refusal → ℕ
number_of (BadContents byte) = 1
number_of (BadNumbers byte) = 2
number_of (BadMark byte) = 3
number_of (BadRow byte) = 4
number_of (BadSum byte) = 5
number_of BadGrid = 6
number_of BadField = 7
number_of InUse = 8
number_of NoBox = 9
number_of NotOpen = 10
number_of BadCut = 11
number_of Full = 12
number_of NoState = 13
number_of BadPasses = 14
number_of ShortBuffer = 15
number_of BadLength = 16
number_of (BadNumber state) = 17
number_of (BadChance state) = 18
number_of (BadBound state) = 19
number_of (BadSteps state) = 20
number_of BadStart = 21
number_of TooLong = 22
number_of BadLine = 23

abbrev pub place_of : Refusal → ℕ
place_of (BadContents byte) = byte
place_of (BadNumbers byte) = byte
place_of (BadMark byte) = byte
place_of (BadRow byte) = byte
place_of (BadSum byte) = byte
place_of BadGrid = 0
place_of BadField = 0
place_of InUse = 0
place_of NoBox = 0
place_of NotOpen = 0
place_of BadCut = 0
place_of Full = 0
place_of NoState = 0
place_of BadPasses = 0
place_of ShortBuffer = 0
place_of BadLength = 0
place_of (BadNumber state) = state
place_of (BadChance state) = state
place_of (BadBound state) = state
place_of (BadSteps state) = state
place_of BadStart = 0
place_of TooLong = 0
place_of BadLine = 0

-- as it is printed: the word, the number and the place
abbrev pub words_of : Refusal → List ℕ
words_of e = codes "refused " ++ (decimal (number_of e) ++ (32 ∷ decimal (place_of e)))
