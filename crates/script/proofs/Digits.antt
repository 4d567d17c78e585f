-- The numbers of a line: its text between spaces.
use Rattle.std.proofs.Common.{◌≡◌, ℕ, suc, ◌+◌, ◌-◌, ◌*◌, ◌^◌, ◌<◌, ◌≤◌, Bool, true, false, cond, ◌&&◌, eqb, leb, List, [], ◌∷◌, ◌++◌, length, get_or, take, drop, Some, None, Option, sym, refl, ap, ◌∙◌, ⊎_elim, arith}
use Rattle.std.specs.Option.{option_map}
use Rattle.std.specs.List.{list_all, slice_split, onto_first}
use Rattle.std.proofs.lemmas.List.{append_assoc, append-nil, take_more, at_drop_more, at_drop_all}
use Rattle.std.proofs.lemmas.List.Splits.{length-slice_split, slice_split-cons_yes, slice_split-cons_no}
use Rattle.std.proofs.lemmas.List.Folds.{list_all_more}
use Rattle.std.proofs.lemmas.Grind.{pow_more}
use Rattle.std.proofs.lemmas.Bool.{cases_Bool, cond-true, cond-false, eqb-true, leb-true, and_parts, and_from}
use Rattle.script.specs.Grammar.{value_of}
use Rattle.script.specs.Reading.{digit, fit, kept, within}
use Rattle.script.specs.Values.{number_in}

-- ---- the digits of a number, one by one
value_of-append : (n : ℕ) (xs ys : List ℕ) → value_of n (xs ++ ys) ≡ value_of (value_of n xs) ys
value_of-append n [] ys = refl
value_of-append n (x ∷ xs) ys = value_of-append (10 * n + (x - 48)) xs ys

-- the first bytes of a text, so many, are digits, and make the number
pub record Digits (text : List ℕ) (count n : ℕ) : Type 0 where
  pub digits : list_all digit (take count text) ≡ true
  pub value : n ≡ value_of 0 (take count text)
  pub small : n < 10 ^ count

pub digits_more : {text : List ℕ} {count n : ℕ} (d : ℕ) → Digits text count n → count < length text → digit (get_or text count 0) ≡ true → d ≡ get_or text count 0 - 48
    → Digits text (count + 1) (10 * n + d)
digits_more {text = text} {count = count} {n = n} d h l e f =
    let p = and_parts (leb 48 (get_or text count 0)) (leb (get_or text count 0) 57) e in
    let ten : 10 ^ (count + 1) ≡ 10 ^ count * 10 = pow_more 10 count in
    record {
      digits = list_all_more digit text count 0 l ∙ and_from _ _ h.digits e;
      value = ap (λ m. 10 * m + d) h.value ∙ ap (λ m. 10 * value_of 0 (take count text) + m) f
          ∙ sym (ap (value_of 0) (take_more text count 0 l) ∙ value_of-append 0 (take count text) (get_or text count 0 ∷ []));
      small = omega (arith, h.small, leb-true (get_or text count 0) 57 p.1);
    }

-- ---- one byte more
pub kept-fit : (count n : ℕ) (more : Option (List ℕ)) → fit count n ≡ true → kept count n more ≡ option_map (λ ns. n ∷ ns) more
kept-fit count n more e = cond-true (fit count n) _ _ e

pub unfit_none : (count n : ℕ) (more : Option (List ℕ)) → fit count n ≡ false → kept count n more ≡ None
unfit_none count n more e = cond-false (fit count n) _ _ e

pub at-digit : (count n b : ℕ) (bs : List ℕ) → digit b ≡ true → within count n (b ∷ bs) ≡ within (count + 1) (10 * n + (b - 48)) bs
unfolding within
at-digit count n b bs e = cond-true (digit b) _ _ e

pub at_other : (count n b : ℕ) (bs : List ℕ) → digit b ≡ false → eqb b 32 ≡ false → within count n (b ∷ bs) ≡ None
unfolding within
at_other count n b bs e s = cond-false (digit b) _ _ e ∙ cond-false (eqb b 32) _ _ s

pub at_space : (count n : ℕ) (bs : List ℕ) → within count n (32 ∷ bs) ≡ kept count n (within 0 0 bs)
unfolding within
at_space count n bs = refl

pub at_space_as : (count n b : ℕ) (bs : List ℕ) → b ≡ 32 → within count n (b ∷ bs) ≡ kept count n (within 0 0 bs)
at_space_as count n b bs e = ap (λ x. within count n (x ∷ bs)) e ∙ at_space count n bs

pub at-end : (count n : ℕ) → within count n [] ≡ kept count n (Some [])
unfolding within
at-end count n = refl

-- ---- the texts between spaces
abbrev pub space : ℕ → Bool
space b = eqb b 32

-- a number in front of numbers, where there are both
abbrev pub in_front : Option ℕ → Option (List ℕ) → Option (List ℕ)
in_front None more = None
in_front (Some n) more = option_map (λ ns. n ∷ ns) more

-- the numbers that some texts are
abbrev pub numbers_of : List (List ℕ) → Option (List ℕ)
numbers_of [] = Some []
numbers_of (ds ∷ parts) = in_front (number_in ds) (numbers_of parts)

-- the number that a text is behind so many digits, which make n
abbrev number_from : ℕ → ℕ → List ℕ → Option ℕ
number_from count n ds = cond (list_all digit ds && fit (count + length ds) (value_of n ds)) (Some (value_of n ds)) None

-- the same, where the first text stands behind so many digits, which make n
abbrev numbers_from : ℕ → ℕ → List (List ℕ) → Option (List ℕ)
numbers_from count n [] = None
numbers_from count n (ds ∷ parts) = in_front (number_from count n ds) (numbers_of parts)

from_first : (ds : List ℕ) (parts : List (List ℕ)) → numbers_from 0 0 (ds ∷ parts) ≡ numbers_of (ds ∷ parts)
from_first ds parts = let z : 0 + length ds ≡ length ds = omega arith in rw z refl

none_from : (count n : ℕ) (more : Option (List ℕ)) → in_front (number_from count n []) more ≡ kept count n more
none_from count n more = let z : count + 0 ≡ count = omega arith in rw z (by (fit count n))
  where
    by : (b : Bool) → in_front (cond b (Some n) None) more ≡ cond b (option_map (λ ns. n ∷ ns) more) None
    by true = refl
    by false = refl

digit_from : (count n b : ℕ) (parts : List (List ℕ)) → 0 < length parts → digit b ≡ true → numbers_from count n (onto_first b parts) ≡ numbers_from (count + 1) (10 * n + (b - 48)) parts
digit_from count n b [] l e = absurd (omega arith)
digit_from count n b (ds ∷ parts) l e = let z : count + suc (length ds) ≡ count + 1 + length ds = omega arith in rw (e, z) refl

other_from : (count n b : ℕ) (parts : List (List ℕ)) → 0 < length parts → digit b ≡ false → numbers_from count n (onto_first b parts) ≡ None
other_from count n b [] l e = absurd (omega arith)
other_from count n b (ds ∷ parts) l e = rw e refl

some_parts : (bs : List ℕ) → 0 < length (slice_split space bs)
some_parts bs = omega (arith, length-slice_split space bs)

whole_from : (parts : List (List ℕ)) → 0 < length parts → numbers_from 0 0 parts ≡ numbers_of parts
whole_from [] l = absurd (omega arith)
whole_from (ds ∷ parts) l = from_first ds parts

split_from : (count n : ℕ) (bs : List ℕ) → within count n bs ≡ numbers_from count n (slice_split space bs)
split_from count n [] = at-end count n ∙ sym (none_from count n (Some []))
split_from count n (b ∷ bs) =
    ⊎_elim
    (λ s.
    let more : within 0 0 bs ≡ numbers_of (slice_split space bs) = split_from 0 0 bs ∙ whole_from _ (some_parts bs) in
    at_space_as count n b bs (eqb-true b 32 s) ∙ ap (kept count n) more ∙ sym (none_from count n _) ∙ sym (ap (numbers_from count n) (slice_split-cons_yes space b bs s)))
    (λ s. ⊎_elim
    (λ d.
    at-digit count n b bs d ∙ split_from (count + 1) (10 * n + (b - 48)) bs ∙ sym (digit_from count n b _ (some_parts bs) d) ∙ sym (ap (numbers_from count n) (slice_split-cons_no space b bs s)))
    (λ d. at_other count n b bs d s ∙ sym (other_from count n b _ (some_parts bs) d) ∙ sym (ap (numbers_from count n) (slice_split-cons_no space b bs s)))
    (cases_Bool (digit b)))
    (cases_Bool (eqb b 32))

-- the numbers of a text are those of its texts between spaces
pub split_numbers : (text : List ℕ) → within 0 0 text ≡ numbers_of (slice_split space text)
split_numbers text = split_from 0 0 text ∙ whole_from _ (some_parts text)

-- ---- the loop over those texts: after i of them the numbers so far are ns
abbrev pub onto : List ℕ → Option (List ℕ) → Option (List ℕ)
onto ns None = None
onto ns (Some ms) = Some (ns ++ ms)

pub record Reached (parts : List (List ℕ)) (ns : List ℕ) (i : ℕ) : Type 0 where
  pub left : numbers_of parts ≡ onto ns (numbers_of (drop i parts))

pub reached_none : (parts : List (List ℕ)) → Reached parts [] 0
reached_none parts = record { left = by (numbers_of parts) }
  where
    by : (o : Option (List ℕ)) → o ≡ onto [] o
    by None = refl
    by (Some ms) = refl

module _ {parts : List (List ℕ)} {ns : List ℕ} {i : ℕ} (ds : List ℕ) where
  here : Reached parts ns i → (i < length parts) × (ds ≡ get_or parts i ds) → (o : Option ℕ) → o ≡ number_in ds → numbers_of parts ≡ onto ns (in_front o (numbers_of (drop (i + 1) parts)))
  here r t o e =
      r.left ∙ ap (onto ns) (at_drop_more numbers_of parts i ds t.0 ∙ ap (λ x. in_front x (numbers_of (drop (i + 1) parts))) (ap number_in (sym t.1) ∙ sym e))

  pub stuck : Reached parts ns i → (i < length parts) × (ds ≡ get_or parts i ds) → None ≡ number_in ds → numbers_of parts ≡ None
  stuck r t e = here r t None e

  pub reached_more : (n : ℕ) → Reached parts ns i → (i < length parts) × (ds ≡ get_or parts i ds) → Some n ≡ number_in ds → Reached parts (ns ++ n ∷ []) (i + 1)
  reached_more n r t e = record { left = here r t (Some n) e ∙ by (numbers_of (drop (i + 1) parts)) }
    where
      by : (o : Option (List ℕ)) → onto ns (option_map (λ ms. n ∷ ms) o) ≡ onto (ns ++ n ∷ []) o
      by None = refl
      by (Some ms) = ap (λ t. Some t) (sym (append_assoc ns (n ∷ []) ms))

pub reached_all : {parts : List (List ℕ)} {ns : List ℕ} {i : ℕ} → Reached parts ns i → length parts ≤ i → numbers_of parts ≡ Some ns
reached_all {parts = parts} {ns = ns} {i = i} r l = r.left ∙ ap (onto ns) (at_drop_all numbers_of parts i l) ∙ ap (λ t. Some t) (append-nil ns)

pub reached_as : {parts : List (List ℕ)} {ns ms : List ℕ} {i k : ℕ} → ms ≡ ns → k ≡ i → Reached parts ns i → Reached parts ms k
reached_as e f r = rw (e, f) r
