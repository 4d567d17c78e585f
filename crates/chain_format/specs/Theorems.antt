-- What is proved of the format; each stands in the contract of a function.
use Rattle.std.specs.Prelude.{◌≡◌, ℕ, ◌<◌, List, length, ◌≢◌, slice_index}
use Rattle.chain.specs.Chains.{Meaning, Lawful}
use Rattle.chain_format.specs.Reader.{Answer, refused, got}
use Rattle.chain_format.specs.Format.{File, opened, meaning, encode, Opens, chain_in}
use Rattle.chain_format.specs.Same.{Same}

-- every number of the list is below 256
abbrev pub Bytes : List ℕ → Type 0
Bytes bs = (i : ℕ) → slice_index bs i < 256

-- an answer that is right for the bytes. If it is a chain, that chain is lawful and the bytes are its file; if it is a refusal, they are the file of no lawful chain
abbrev pub Right : List ℕ → Answer File → Type 0
Right bs (got f to) = Lawful (meaning f) × (bs ≡ encode (meaning f)) × (to ≡ length bs)
Right bs (refused e) = (c : Meaning) → Lawful c → bs ≢ encode c

-- opening is right for every list of bytes; so bytes open exactly when they are the file of a lawful chain
abbrev pub OpensRightly : Type 0
OpensRightly = (bs : List ℕ) → Bytes bs → Right bs (opened bs)

abbrev pub OpensExactlyFiles : Type 0
OpensExactlyFiles = (bs : List ℕ) → Bytes bs
    → (Opens bs → (c : Meaning) × Lawful c × (bs ≡ encode c))
    × ((c : Meaning) → Lawful c → bs ≡ encode c → Opens bs)

-- bytes that open are read as a lawful chain, and writing that chain gives the same bytes
abbrev pub ReadThenWrite : Type 0
ReadThenWrite = (bs : List ℕ) → Bytes bs → Opens bs → Lawful (chain_in bs) × (encode (chain_in bs) ≡ bs)

-- what is written for a lawful chain are bytes that open, and reading them gives the same chain
abbrev pub WriteThenRead : Type 0
WriteThenRead = (c : Meaning) → Lawful c → Bytes (encode c) × Opens (encode c) × Same (chain_in (encode c)) c
