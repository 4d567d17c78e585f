-- The lines of a script, and lines whose numbers stand among the numbers of the script.
use Rattle.std.proofs.Common.{◌≡◌, ℕ, zero, suc, ◌+◌, ◌-◌, ◌<◌, ◌≤◌, min, Bool, true, cond, ◌&&◌, eqb, leb, List, [], ◌∷◌, ◌++◌, map, length, get_or, take, drop, Option, sym, refl, ap, ◌∙◌, subst, ⊎_elim, arith}
use Rattle.std.specs.Borrow.{Bor}
use Rattle.std.specs.Fn.{ComputesKey, CalledAt}
use Rattle.std.specs.List.{IsFirstMatchOrLen, AllByRecursion}
use Rattle.std.specs.Option.{MatchOption}
use Rattle.std.specs.Slice.Iter.{split_inclusive_rest, split_inclusive_callee}
use Rattle.std.specs.declared.slice.SplitInclusive.{SplitInclusive}
use Rattle.std.proofs.lemmas.Bool.{cases_Bool, cond-true, cond-false, eq-eqb, ne_eqb, eqb-true, eqb-false, cases_lt, le-leb, leb-true, and_from, and_left}
use Rattle.std.proofs.lemmas.Fn.{always_returns_same}
use Rattle.std.proofs.lemmas.Iterator.{YieldsList}
use Rattle.std.proofs.lemmas.Iterator.Splits.{YieldsList-from_shown_while}
use Rattle.std.proofs.lemmas.List.{length-append, drop-append-le, take-append-le, length-drop, take_at, drop_at, take_all, drop_all, take-take, get_or-take, get_or_past, nil_from_length, map_push, map_more}
use Rattle.script.specs.Reading.{line_said, on_first, lines_of}
use Rattle.script.specs.Values.{without_break, said_behind, said_in, Placed, LineRead}
use Rattle.script.specs.declared.line.Line.{Line}
use denote.Param.Members.{Mut}

-- ---- the first line of a text
pub lines_nil : lines_of [] ≡ []
unfolding lines_of
lines_nil = refl

pub break_here : (b : ℕ) (bs : List ℕ) → b ≡ 10 → lines_of (b ∷ bs) ≡ [] ∷ lines_of bs
unfolding lines_of
break_here b bs e = cond-true (eqb b 10) _ _ (eq-eqb b 10 e)

pub no_break : (b : ℕ) (bs : List ℕ) → (b ≡ 10 → ⊥) → lines_of (b ∷ bs) ≡ on_first b (lines_of bs)
unfolding lines_of
no_break b bs h = cond-false (eqb b 10) _ _ (ne_eqb b 10 h)

lines_next : (text : List ℕ) (k : ℕ) → 0 < length text → k ≤ length text → ((i : ℕ) → i < k → get_or text i 0 ≡ 10 → ⊥) → (k < length text → get_or text k 0 ≡ 10)
    → lines_of text ≡ take k text ∷ lines_of (drop (k + 1) text)
lines_next [] k some l before found = absurd (omega arith)
lines_next (b ∷ bs) zero some l before found = break_here b bs (found (omega arith))
lines_next (b ∷ []) (suc k) some l before found =
    let z : k ≡ 0 = omega arith in
    rw z (no_break b [] (before 0 (omega arith)) ∙ ap (on_first b) lines_nil ∙ ap (λ t. (b ∷ []) ∷ t) (sym lines_nil))
lines_next (b ∷ x ∷ bs) (suc k) some l before found =
    let e : suc k + 1 ≡ suc (k + 1) = omega arith in
    let more = lines_next (x ∷ bs) k (omega arith) (omega arith) (λ i h. before (suc i) (omega arith)) (λ h. found (omega arith)) in
    rw e (no_break b (x ∷ bs) (before 0 (omega arith)) ∙ ap (on_first b) more)

-- ---- the texts between breaks, each with the byte 10 behind it
-- what `next` gives of them, in the words of its trait
abbrev pub pieces_steps : {F : Type 0} → Mut F (Bor ℕ × Unit {0}) Bool → SplitInclusive ℕ F → Option (Bor (List ℕ)) → SplitInclusive ℕ F → Type 0
pieces_steps g s r t =
    MatchOption r ((length (split_inclusive_rest s) ≡ 0) × (t ≡ s))
    (λ x. (split_inclusive_rest s ≡ x.now ++ split_inclusive_rest t)
    × ((i : ℕ) × (length x.now ≡ min (i + 1) (length (split_inclusive_rest s)))
    × ((p : ℕ → Bool) → ComputesKey g p (split_inclusive_callee s) → ComputesKey g p (split_inclusive_callee t) × IsFirstMatchOrLen p (split_inclusive_rest s) i))
    × (0 < length (split_inclusive_rest s)))

-- the first of them, which ends at the first byte 10 or with the text
module _ (text piece later : List ℕ) (k : ℕ) (e : text ≡ piece ++ later) (long : length piece ≡ min (k + 1) (length text)) (first : IsFirstMatchOrLen (λ b. eqb b 10) text k) where
  none_before : (i : ℕ) → i < k → get_or text i 0 ≡ 10 → ⊥
  none_before i l = eqb-false (get_or text i 0) 10 (first.0 i 0 (omega arith) l)

  -- past the end each byte may be taken for a 10
  within_text : k ≤ length text
  within_text =
      ⊎_elim
      (λ l. absurd (eqb-false 10 10 (ap (λ b. eqb b 10) (sym (get_or_past text (length text) 10 (omega arith))) ∙ first.0 (length text) 10 (omega arith) l) refl))
      (λ l. l)
      (cases_lt (length text) k)

  front : take (length piece) text ≡ piece
  front = ap (take (length piece)) e ∙ take_at piece later (length piece) refl

  back : drop (length piece) text ≡ later
  back = ap (drop (length piece)) e ∙ drop_at piece later (length piece) refl

  ended : k < length text → (without_break piece ≡ take k text) × (drop (k + 1) text ≡ later)
  ended l =
      let n : length piece ≡ k + 1 = omega arith in
      let z : length piece - 1 ≡ k = omega arith in
      let same : piece ≡ take (k + 1) text = sym front ∙ ap (λ m. take m text) n in
      let last : get_or piece k 0 ≡ 10 = ap (λ t. get_or t k 0) same ∙ get_or-take (k + 1) text k 0 (omega arith) ∙ eqb-true (get_or text k 0) 10 (first.1 l 0) in (
        ap (λ m. cond (eqb (get_or piece m 0) 10) (take m piece) piece) z ∙ cond-true (eqb (get_or piece k 0) 10) _ _ (eq-eqb (get_or piece k 0) 10 last) ∙ ap (take k) same ∙ take-take k (k + 1) text (omega arith),
        ap (λ m. drop m text) (sym n) ∙ back,
      )

  unended : 0 < length text → length text ≤ k → (without_break piece ≡ take k text) × (drop (k + 1) text ≡ later)
  unended some l =
      let n : length piece ≡ length text = omega arith in
      let same : piece ≡ text = sym front ∙ take_all (length piece) text (omega arith) in
      let last : get_or piece (length piece - 1) 0 ≡ 10 → ⊥ = λ h. none_before (length piece - 1) (omega arith) (ap (λ t. get_or t (length piece - 1) 0) (sym same) ∙ h) in (
        cond-false (eqb (get_or piece (length piece - 1) 0) 10) _ _ (ne_eqb (get_or piece (length piece - 1) 0) 10 last) ∙ same ∙ sym (take_all k text l),
        drop_all (k + 1) text (omega arith) ∙ sym (drop_all (length piece) text (omega arith)) ∙ back,
      )

  pub first_line : 0 < length text → lines_of text ≡ without_break piece ∷ lines_of later
  first_line some =
      let at = ⊎_elim ended (unended some) (cases_lt k (length text)) in
      lines_next text k some within_text none_before (λ l. eqb-true (get_or text k 0) 10 (first.1 l 0)) ∙ ap (λ t. t ∷ lines_of (drop (k + 1) text)) (sym at.0) ∙ ap (λ t. without_break piece ∷ lines_of t) at.1

-- without that byte they are the lines of the text
pub YieldsList-from_pieces : {F : Type 0} {s : SplitInclusive ℕ F} (g : Mut F (Bor ℕ × Unit {0}) Bool) {f : F} (text : List ℕ) → split_inclusive_rest s ≡ text → split_inclusive_callee s ≡ f
    → ((x : ℕ) (b : Bool) (q : F) → CalledAt g f x b q → (q ≡ f) × (b ≡ eqb x 10)) → YieldsList (pieces_steps g) (λ x. without_break x.now) s (lines_of text)
YieldsList-from_pieces {s = s} g {f} text rest closure tests =
    let p : ℕ → Bool = λ b. eqb b 10 in
    subst (YieldsList (pieces_steps g) (λ x. without_break x.now) s) (λ i. lines_of (rest i))
    (YieldsList-from_shown_while (pieces_steps g) (λ x. without_break x.now) (λ t. lines_of (split_inclusive_rest t)) (λ t. ComputesKey g p (split_inclusive_callee t))
    (λ t u h k. ap length (ap lines_of (nil_from_length (split_inclusive_rest t) k.0) ∙ lines_nil))
    (λ t x u h k. let m = k.1.2 p h in (m.0, first_line (split_inclusive_rest t) x.now (split_inclusive_rest u) k.1.0 k.0 k.1.1 m.1 k.2))
    s (subst (ComputesKey g p) (sym closure) (always_returns_same g (λ a r. r ≡ p a.0.now) f (λ a r q k. let m = tests a.0.now r q (record { shown = a.0; shows = refl; called = k }) in (m.1, m.0)))))

-- ---- lines in a list of numbers that grows
said_grown : (n : ℕ) (numbers more : List ℕ) (line : Line) → Placed numbers line → said_in n (numbers ++ more) line ≡ said_in n numbers line
said_grown n numbers more line p =
    let longer : length (numbers ++ more) ≡ length numbers + length more = length-append numbers more in
    let was = le-leb line.to (length numbers) p in
    let is : leb line.to (length (numbers ++ more)) ≡ true = le-leb line.to _ (omega arith) in
    ⊎_elim
    (λ e.
    let h : line.from ≤ line.to = leb-true line.from line.to e in
    let l : length (drop line.from numbers) ≡ length numbers - line.from = length-drop line.from numbers in
    let same : take (line.to - line.from) (drop line.from (numbers ++ more)) ≡ take (line.to - line.from) (drop line.from numbers) =
    ap (take (line.to - line.from)) (drop-append-le line.from numbers more (omega arith)) ∙ take-append-le (line.to - line.from) (drop line.from numbers) more (omega arith) in
    cond-true (leb line.from line.to && leb line.to (length (numbers ++ more))) _ _ (and_from _ _ e is) ∙ ap (said_behind n line.letter) same
    ∙ sym (cond-true (leb line.from line.to && leb line.to (length numbers)) _ _ (and_from _ _ e was)))
    (λ e. cond-false _ _ _ (and_left (leb line.from line.to) _ e) ∙ sym (cond-false _ _ _ (and_left (leb line.from line.to) _ e)))
    (cases_Bool (leb line.from line.to))

all_placed : (numbers more : List ℕ) (lines : List Line) → AllByRecursion (Placed numbers) lines → AllByRecursion (Placed (numbers ++ more)) lines
all_placed numbers more [] p = tt
all_placed numbers more (l ∷ ls) p = (omega (arith, length-append numbers more, p.0), all_placed numbers more ls p.1)

all_said : (n : ℕ) (numbers more : List ℕ) (lines : List Line) → AllByRecursion (Placed numbers) lines → map (said_in n (numbers ++ more)) lines ≡ map (said_in n numbers) lines
all_said n numbers more [] p = refl
all_said n numbers more (l ∷ ls) p = let e = said_grown n numbers more l p.0 in let f = all_said n numbers more ls p.1 in rw (e, f) refl

all_push : (P : Line → Type 0) (lines : List Line) (line : Line) → AllByRecursion P lines → P line → AllByRecursion P (lines ++ line ∷ [])
all_push P [] line p q = (q, tt)
all_push P (l ∷ ls) line p q = (p.0, all_push P ls line p.1 q)

-- ---- the loop over the lines: after i texts
pub record Read (texts : List (List ℕ)) (lines : List Line) (numbers : List ℕ) (i : ℕ) : Type 0 where
  pub placed : AllByRecursion (Placed numbers) lines
  pub says : (n : ℕ) → map (said_in n numbers) lines ≡ map (line_said n) (take i texts)

pub read_none : (texts : List (List ℕ)) → Read texts [] [] 0
read_none texts = record { placed = tt; says = λ n. refl }

pub read_more : {texts : List (List ℕ)} {lines : List Line} {numbers : List ℕ} {i : ℕ} (text after : List ℕ) (line : Line)
    → Read texts lines numbers i → (i < length texts) × (text ≡ get_or texts i text) → LineRead text numbers after line → Read texts (lines ++ line ∷ []) after (i + 1)
read_more {texts = texts} {lines = lines} {numbers = numbers} {i = i} text after line r t one =
    record {
      placed = all_push (Placed after) lines line (rw one.added (all_placed numbers one.more lines r.placed)) one.placed;
      says = λ n.
          map_push (said_in n after) lines line
          ∙ ap (λ ss. ss ++ said_in n after line ∷ []) (ap (λ x. map (said_in n x) lines) one.added ∙ all_said n numbers one.more lines r.placed ∙ r.says n)
          ∙ ap (λ s. map (line_said n) (take i texts) ++ s ∷ []) (one.says n ∙ ap (line_said n) t.1) ∙ sym (map_more (line_said n) texts i text t.0);
    }

pub read_as : {texts : List (List ℕ)} {lines lines' : List Line} {numbers numbers' : List ℕ} {i k : ℕ} → lines' ≡ lines → numbers' ≡ numbers → k ≡ i → Read texts lines numbers i
    → Read texts lines' numbers' k
read_as e f g r = rw (e, f, g) r
