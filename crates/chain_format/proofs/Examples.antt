-- Computed examples.
use Rattle.std.proofs.Common.{◌≡◌, ℕ, List, [], ◌∷◌, ◌++◌, take, drop, set, pos, negsuc, refl}
use Rattle.chain.specs.Chains.{Meaning, looping}
use Rattle.chain.specs.declared.refusal.Refusal.{Refusal}
use Rattle.chain.specs.declared.refusal.Refusal.TheVariants.{BadContents, BadNumbers, BadMark, BadRow, BadSum}
use Rattle.chain_format.specs.Reader.{refused, got, value_at, bytes_of, number, after, ◌then◌, done, mapped, tested, checked, repeat, spell}
use Rattle.chain_format.specs.Format.{version1, File, balanced, opened, encode, meaning, file_of, Opens, contents_bytes}
use Rattle.chain_format.specs.Theorems.{Bytes}
use Rattle.chain_format.proofs.OpenLaws.{file_bytes}

-- ---- one state that loops
abbrev pub one_state : Meaning
one_state = record { states = 1; rates = 1; unit = 1; start = 0; mark = λ _. 0; row = looping 1 }

abbrev pub one_file : List ℕ
one_file =
    1 ∷ 0 ∷ 4 ∷ 0
    ∷ 1 ∷ 0 ∷ 44 ∷ 0 ∷ 0 ∷ 0 ∷ 7 ∷ 0 ∷ 0 ∷ 0
    ∷ 2 ∷ 0 ∷ 51 ∷ 0 ∷ 0 ∷ 0 ∷ 1 ∷ 0 ∷ 0 ∷ 0
    ∷ 3 ∷ 0 ∷ 52 ∷ 0 ∷ 0 ∷ 0 ∷ 4 ∷ 0 ∷ 0 ∷ 0
    ∷ 4 ∷ 0 ∷ 56 ∷ 0 ∷ 0 ∷ 0 ∷ 6 ∷ 0 ∷ 0 ∷ 0
    ∷ 1 ∷ 0 ∷ 1 ∷ 1 ∷ 0 ∷ 0 ∷ 0
    ∷ 0
    ∷ 0 ∷ 0 ∷ 0 ∷ 0
    ∷ 0 ∷ 1 ∷ 0 ∷ 0 ∷ 1 ∷ 0
    ∷ []

pub one_is : encode one_state ≡ one_file
unfolding bytes_of spell
one_is = refl

pub one_fits : Bytes one_file
one_fits i = rw one_is at (file_bytes version1 (file_of one_state) i)

pub one_opens : Opens one_file
unfolding value_at number after ◌then◌ done mapped tested checked repeat balanced opened
one_opens = refl

-- the file with other lengths in its contents
abbrev with : List ℕ → List ℕ
with ls = contents_bytes version1 ls ++ drop 44 one_file

abbrev Refuses : List ℕ → Refusal → Type 0
Refuses bs e = opened bs ≡ refused e

contents-refused :
    Refuses [] (BadContents 0)
    × Refuses (take 43 one_file) (BadContents 43)
    × Refuses (set one_file 0 2) (BadContents 0)
    × Refuses (set one_file 2 5) (BadContents 2)
    × Refuses (set one_file 24 2) (BadContents 24)
    × Refuses (set one_file 16 50) (BadContents 16)
    × Refuses (take 44 one_file) (BadContents 40)
    × Refuses (one_file ++ 0 ∷ []) (BadContents 40)
unfolding value_at number after ◌then◌ done mapped tested checked repeat balanced opened
contents-refused = (refl, refl, refl, refl, refl, refl, refl, refl)

numbers-refused :
    Refuses (with (6 ∷ 1 ∷ 4 ∷ 7 ∷ [])) (BadNumbers 10)
    × Refuses (set one_file 44 0) (BadNumbers 44)
    × Refuses (set one_file 45 17) (BadNumbers 44)
    × Refuses (set one_file 46 5) (BadNumbers 46)
    × Refuses (set one_file 48 4) (BadNumbers 47)
    × Refuses (set one_file 49 1) (BadNumbers 49)
unfolding value_at bytes_of number after ◌then◌ done mapped tested checked repeat spell balanced opened
numbers-refused = (refl, refl, refl, refl, refl, refl)

marks-refused : Refuses (with (7 ∷ 2 ∷ 4 ∷ 5 ∷ [])) (BadMark 20) × Refuses (set one_file 51 2) (BadMark 51)
unfolding value_at bytes_of number after ◌then◌ done mapped tested checked repeat spell balanced opened
marks-refused = (refl, refl)

rows-refused :
    Refuses (with (7 ∷ 1 ∷ 5 ∷ 5 ∷ [])) (BadRow 30)
    × Refuses (set one_file 52 1) (BadRow 52)
    × Refuses (set one_file 56 4) (BadRow 56)
    × Refuses (set one_file 57 0) (BadRow 57)
    × Refuses (set one_file 57 2) (BadRow 62)
    × Refuses (set one_file 58 1) (BadRow 58)
    × Refuses (set one_file 61 32) (BadRow 60)
    × Refuses (take 61 (with (7 ∷ 1 ∷ 4 ∷ 5 ∷ []))) (BadRow 61)
    × Refuses (with (7 ∷ 1 ∷ 4 ∷ 7 ∷ []) ++ 0 ∷ []) (BadRow 40)
    × Refuses (set one_file 60 2) (BadSum 56)
unfolding value_at bytes_of number after ◌then◌ done mapped tested checked repeat spell balanced opened
rows-refused = (refl, refl, refl, refl, refl, refl, refl, refl, refl, refl)

-- ---- four states, and two rates
abbrev two : File
two = record {
  numbers = record { states = 4; rates = 2; unit = 1; start = 0 };
  marks = 0 ∷ 0 ∷ 1 ∷ 0 ∷ [];
  rows = record { rates = 0 ∷ []; edges = record { successor = 1; coefficients = pos 0 ∷ pos 1 ∷ [] } ∷ record { successor = 3; coefficients = pos 1 ∷ negsuc 0 ∷ [] } ∷ [] }
      ∷ record { rates = 1 ∷ []; edges = record { successor = 0; coefficients = pos 0 ∷ pos 1 ∷ [] } ∷ record { successor = 2; coefficients = pos 1 ∷ negsuc 0 ∷ [] } ∷ [] }
      ∷ looping 1 2 ∷ looping 1 3 ∷ [];
}

abbrev two_file : List ℕ
two_file =
    1 ∷ 0 ∷ 4 ∷ 0
    ∷ 1 ∷ 0 ∷ 44 ∷ 0 ∷ 0 ∷ 0 ∷ 7 ∷ 0 ∷ 0 ∷ 0
    ∷ 2 ∷ 0 ∷ 51 ∷ 0 ∷ 0 ∷ 0 ∷ 4 ∷ 0 ∷ 0 ∷ 0
    ∷ 3 ∷ 0 ∷ 55 ∷ 0 ∷ 0 ∷ 0 ∷ 16 ∷ 0 ∷ 0 ∷ 0
    ∷ 4 ∷ 0 ∷ 71 ∷ 0 ∷ 0 ∷ 0 ∷ 42 ∷ 0 ∷ 0 ∷ 0
    ∷ 4 ∷ 0 ∷ 2 ∷ 1 ∷ 0 ∷ 0 ∷ 0
    ∷ 0 ∷ 0 ∷ 1 ∷ 0
    ∷ 0 ∷ 0 ∷ 0 ∷ 0 ∷ 15 ∷ 0 ∷ 0 ∷ 0 ∷ 30 ∷ 0 ∷ 0 ∷ 0 ∷ 36 ∷ 0 ∷ 0 ∷ 0
    ∷ 1 ∷ 0 ∷ 2 ∷ 1 ∷ 0 ∷ 0 ∷ 0 ∷ 1 ∷ 0 ∷ 3 ∷ 0 ∷ 1 ∷ 0 ∷ 255 ∷ 255
    ∷ 1 ∷ 1 ∷ 2 ∷ 0 ∷ 0 ∷ 0 ∷ 0 ∷ 1 ∷ 0 ∷ 2 ∷ 0 ∷ 1 ∷ 0 ∷ 255 ∷ 255
    ∷ 0 ∷ 1 ∷ 2 ∷ 0 ∷ 1 ∷ 0
    ∷ 0 ∷ 1 ∷ 3 ∷ 0 ∷ 1 ∷ 0
    ∷ []

two_opens : opened two_file ≡ got two 113
unfolding value_at number after ◌then◌ done mapped tested checked repeat balanced opened
two_opens = refl

two_is : encode (meaning two) ≡ two_file
unfolding bytes_of spell
two_is = refl

-- the sums of a row come before the form of the next, and the form of a row before its sums
two-refused :
    Refuses (set (set two_file 76 3) 86 9) (BadSum 71)
    × Refuses (set two_file 80 1) (BadRow 80)
unfolding value_at number after ◌then◌ done mapped tested checked repeat balanced opened
two-refused = (refl, refl)
