-- The script: its lines, and which text is which call.
use Rattle.std.specs.Prelude.{◌≡◌, ℕ, ◌+◌, ◌-◌, ◌*◌, ◌^◌, ◌<◌, ◌≤◌, ◌⊎◌, List, [], ◌∷◌, ◌++◌, length, take, drop, ◌≢◌}
use Rattle.std.specs.List.{flat_map, AllByRecursion}
use Rattle.theory.specs.Runs.{Command, lay_out, cut, show_safe, show_unsafe, count_boxes, find_box, measure}

-- ---- numbers
abbrev pub Digit : ℕ → Type 0
Digit b = (48 ≤ b) × (b ≤ 57)

-- the number that some digits make behind the number n
abbrev pub value_of : ℕ → List ℕ → ℕ
value_of n [] = n
value_of n (d ∷ ds) = value_of (10 * n + (d - 48)) ds

-- the text is this number: 1 to 10 decimal digits that make it, and it is below 2^32
pub record Number (ds : List ℕ) (n : ℕ) : Type 0 where
  pub digits : AllByRecursion Digit ds
  pub some : 1 ≤ length ds
  pub few : length ds ≤ 10
  pub value : value_of 0 ds ≡ n
  pub small : n < 2 ^ 32

-- the text is these numbers, each behind one space
abbrev pub Numbers : List ℕ → List ℕ → Type 0
Numbers text [] = text ≡ []
Numbers text (n ∷ ns) = (ds : List ℕ) × ((rest : List ℕ) × (text ≡ 32 ∷ (ds ++ rest)) × Number ds n × Numbers rest ns)

-- ---- calls
-- the text is this letter and then these numbers
abbrev pub Spelled : ℕ → List ℕ → List ℕ → Type 0
Spelled letter text ns = (rest : List ℕ) × (text ≡ letter ∷ rest) × Numbers rest ns

-- the text is this call on a map over a chain of n states. The letters are L, C, S, U and Q
abbrev pub Says : ℕ → List ℕ → Command → Type 0
Says n text (lay_out G L sides) = Spelled 76 text (G ∷ L ∷ sides)
Says n text (cut b r x) = Spelled 67 text (b ∷ r ∷ x ∷ [])
Says n text (show_safe b v) = Spelled 83 text (b ∷ v)
Says n text (show_unsafe b v w) = (vw : List ℕ) × Spelled 85 text (b ∷ vw) × (v ≡ take n vw) × (w ≡ drop n vw)
Says n text (find_box b) = Spelled 81 text (b ∷ [])
Says n text count_boxes = ⊥
Says n text measure = ⊥

-- the text ends the script: the letter E alone
abbrev pub Ends : List ℕ → Type 0
Ends text = text ≡ 69 ∷ []

-- ---- lines
-- no byte of the text is byte 10
abbrev pub Unbroken : List ℕ → Type 0
Unbroken text = AllByRecursion (λ b. b ≢ 10) text

-- each line with byte 10 behind it
abbrev pub broken : List (List ℕ) → List ℕ
broken = flat_map (λ l. l ++ 10 ∷ [])

-- the script has these lines: each ends with byte 10, the last perhaps not, if it is not empty
abbrev pub HasLines : List ℕ → List (List ℕ) → Type 0
HasLines script ls = AllByRecursion Unbroken ls × ((script ≡ broken ls) ⊎ ((front : List (List ℕ)) × ((last : List ℕ) × (ls ≡ front ++ last ∷ []) × (1 ≤ length last) × (script ≡ broken front ++ last))))

-- ---- what a line says: a call, the end, or neither
pub data Said : Type 0 where
  bad : Said
  end : Said
  call : Command → Said

abbrev pub Told : ℕ → List ℕ → Said → Type 0
Told n text (call k) = Says n text k
Told n text end = Ends text
Told n text bad = ((k : Command) → Says n text k → ⊥) × (Ends text → ⊥)

abbrev pub AllTold : ℕ → List (List ℕ) → List Said → Type 0
AllTold n [] [] = Unit {0}
AllTold n [] (s ∷ ss) = ⊥
AllTold n (l ∷ ls) [] = ⊥
AllTold n (l ∷ ls) (s ∷ ss) = Told n l s × AllTold n ls ss

-- the lines of the script say this, over a chain of n states
abbrev pub ScriptSays : ℕ → List ℕ → List Said → Type 0
ScriptSays n script ss = (ls : List (List ℕ)) × HasLines script ls × AllTold n ls ss
