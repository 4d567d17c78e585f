-- The words of a file format: reading little-endian numbers from bytes, and the bytes that spell them.
use Rattle.std.specs.Prelude.{ℕ, zero, suc, ◌+◌, ◌*◌, ◌/◌, ◌%◌, Bool, cond, ◌&&◌, List, [], ◌∷◌, ◌++◌, nat_le, nat_lt, slice_index}
use Rattle.chain.specs.declared.refusal.Refusal.{Refusal}

-- a refusal; or a value, and the place after it. A place is a byte of the file, counted from 0
pub data Answer (A : Type 0) : Type 0 where
  refused : Refusal → Answer A
  got : A → ℕ → Answer A

-- what is read from a place on
abbrev pub Reader : Type 0 → Type 0
Reader A = ℕ → Answer A

-- a part of a file: the file's bytes, where the part ends, and the refusal of a fault in it, by its place
pub record Part : Type 0 where
  pub bytes : List ℕ
  pub end : ℕ
  pub fault : ℕ → Refusal

abbrev pub part : List ℕ → ℕ → (ℕ → Refusal) → Part
part bs end fault = record { bytes = bs; end = end; fault = fault }

-- the number in the w bytes at a place, low byte first; and the w bytes of a number
unfoldable pub value_at : List ℕ → ℕ → ℕ → ℕ
value_at bs zero at = 0
value_at bs (suc w) at = slice_index bs at + 256 * value_at bs w (at + 1)

unfoldable pub bytes_of : ℕ → ℕ → List ℕ
bytes_of zero v = []
bytes_of (suc w) v = v % 256 ∷ bytes_of w (v / 256)

-- a number of w bytes; cut off, it is refused at the part's end
unfoldable pub number : Part → ℕ → Reader ℕ
number p w at = cond (nat_le (at + w) p.end) (got (value_at p.bytes w at) (at + w)) (refused (p.fault p.end))

-- one thing, and then what follows from it
unfoldable pub after : {A B : Type 0} → Answer A → (A → Reader B) → Answer B
after (refused e) f = refused e
after (got a to) f = f a to

infixr 5 ◌then◌
unfoldable pub ◌then◌ : {A B : Type 0} → Reader A → (A → Reader B) → Reader B
◌then◌ r f at = after (r at) f

unfoldable pub done : {A : Type 0} → A → Reader A
done a at = got a at

unfoldable pub mapped : {A B : Type 0} → (A → B) → Reader A → Reader B
mapped g r at = after (r at) (λ a to. got (g a) to)

-- a value that fails the test is refused at its own place
unfoldable pub tested : {A : Type 0} → (ℕ → Refusal) → (A → Bool) → Reader A → Reader A
tested fault ok r at = after (r at) (λ a to. cond (ok a) (got a to) (refused (fault at)))

-- the place reached is tested before anything is read
unfoldable pub checked : {A : Type 0} → Refusal → (ℕ → Bool) → Reader A → Reader A
checked e ok r at = cond (ok at) (r at) (refused e)

-- k values, each read in the state that those before it lead to; and their bytes
unfoldable pub repeat : {S A : Type 0} → (S → Reader A) → (S → A → S) → ℕ → S → Reader (List A)
repeat r next zero s at = got [] at
repeat r next (suc k) s at = after (r s at) (λ a mid. after (repeat r next k (next s a) mid) (λ more to. got (a ∷ more) to))

unfoldable pub spell : {S A : Type 0} → (S → A → List ℕ) → (S → A → S) → S → List A → List ℕ
spell w next s [] = []
spell w next s (a ∷ more) = w s a ++ spell w next (next s a) more

-- bytes, and next states, that do not depend on the state
abbrev pub each : {A : Type 0} → (A → List ℕ) → ℕ → A → List ℕ
each w _ a = w a

abbrev pub stay : {A : Type 0} → ℕ → A → ℕ
stay s _ = s

-- ---- tests of numbers: at least low and below top; from low to high; x alone
abbrev pub from : ℕ → ℕ → ℕ → Bool
from low top v = nat_le low v && nat_lt v top

abbrev pub within : ℕ → ℕ → ℕ → Bool
within low high = from low (high + 1)

abbrev pub is : ℕ → ℕ → Bool
is x = within x x

-- a number that passes a test; and how many values, and then the values
abbrev pub field : Part → ℕ → (ℕ → Bool) → Reader ℕ
field p w ok = tested p.fault ok (number p w)

abbrev pub counted : {S A : Type 0} → Part → ℕ → (ℕ → Bool) → (S → Reader A) → (S → A → S) → S → Reader (List A)
counted p w ok r next s = field p w ok then λ k. repeat r next k s
