-- What is read is what the grammar says.
use Rattle.std.proofs.Common.{◌≡◌, ℕ, suc, ◌+◌, ◌-◌, ◌*◌, ◌^◌, ◌≤◌, true, cond, ◌&&◌, eqb, ltb, leb, List, [], ◌∷◌, ◌++◌, map, length, Some, None, Option, sym, refl, ap, ◌∙◌, inl, inr, ⊎_elim, arith}
use Rattle.std.specs.Option.{option_map}
use Rattle.std.specs.List.{AllByRecursion}
use Rattle.std.proofs.lemmas.List.{append_assoc, append-nil}
use Rattle.std.proofs.lemmas.Bool.{cases_Bool, cond-true, cond-false, and_parts, and_from, leb-true, ltb-true, eqb-true, eqb-false, le-leb, lt-ltb}
use Rattle.theory.specs.Runs.{Command, lay_out, cut, show_safe, show_unsafe, count_boxes, find_box, measure}
use Rattle.script.specs.Grammar.{Digit, value_of, Number, Numbers, Spelled, Says, Ends, Unbroken, broken, HasLines, Said, bad, end, call, Told, AllTold, ScriptSays}
use Rattle.script.specs.Reading.{digit, fit, kept, within, numbers_in, laid, cuts, safes, unsafes, asks, ends, said, spelling, line_said, on_first, lines_of, script_said, ReadsTheGrammar}
use Rattle.script.proofs.Digits.{at-digit, at_other, at_space_as, at_space, at-end, kept-fit, unfit_none}
use Rattle.script.proofs.Lines.{lines_nil, break_here, no_break}

-- ---- numbers: sound
-- digits, behind so many that make n, and then numbers
pub record Found (count n : ℕ) (bs ns : List ℕ) : Type 0 where
  pub ds : List ℕ
  pub rest : List ℕ
  pub more : List ℕ
  pub text : bs ≡ ds ++ rest
  pub digits : AllByRecursion Digit ds
  pub fits : fit (count + length ds) (value_of n ds) ≡ true
  pub numbers : ns ≡ value_of n ds ∷ more
  pub follows : Numbers rest more

kept_some : (count n : ℕ) (o : Option (List ℕ)) (ns : List ℕ) → kept count n o ≡ Some ns
    → (ms : List ℕ) × (fit count n ≡ true) × (o ≡ Some ms) × (ns ≡ n ∷ ms)
kept_some count n o ns e =
    ⊎_elim
    (λ f. from-mapped o f (sym (kept-fit count n o f) ∙ e))
    (λ f. absurd (never (sym (unfit_none count n o f) ∙ e)))
    (cases_Bool (fit count n))
  where
    never : None ≡ Some ns → ⊥
    never h = let z : ◌≡◌ {A = ℕ} 0 1 = cc in omega arith

    from-mapped : (p : Option (List ℕ)) → fit count n ≡ true → option_map (λ ms. n ∷ ms) p ≡ Some ns → (ms : List ℕ) × (fit count n ≡ true) × (p ≡ Some ms) × (ns ≡ n ∷ ms)
    from-mapped None f h = absurd (never h)
    from-mapped (Some ms) f h = (ms, f, refl, cc)

pub found_number : (ds : List ℕ) (n : ℕ) → AllByRecursion Digit ds → fit (length ds) (value_of 0 ds) ≡ true → n ≡ value_of 0 ds → Number ds n
found_number ds n a f e =
    let p = and_parts (leb 1 (length ds) && leb (length ds) 10) (ltb (value_of 0 ds) (2 ^ 32)) f in
    let q = and_parts (leb 1 (length ds)) (leb (length ds) 10) p.0 in
    record {
      digits = a;
      some = leb-true 1 (length ds) q.0;
      few = leb-true (length ds) 10 q.1;
      value = sym e;
      small = rw e (ltb-true (value_of 0 ds) (2 ^ 32) p.1);
    }

found-digit : (count n b : ℕ) (bs ns : List ℕ) → digit b ≡ true → Found (count + 1) (10 * n + (b - 48)) bs ns → Found count n (b ∷ bs) ns
found-digit count n b bs ns e f =
    let p = and_parts (leb 48 b) (leb b 57) e in
    let more : count + length (b ∷ f.ds) ≡ count + 1 + length f.ds = omega arith in
    record {
      ds = b ∷ f.ds;
      rest = f.rest;
      more = f.more;
      text = ap (λ t. b ∷ t) f.text;
      digits = ((leb-true 48 b p.0, leb-true b 57 p.1), f.digits);
      fits = rw more f.fits;
      numbers = f.numbers;
      follows = f.follows;
    }

-- what stands behind a space is numbers
spaced-numbers : (bs ms : List ℕ) → Found 0 0 bs ms → Numbers (32 ∷ bs) ms
spaced-numbers bs ms f =
    let P : List ℕ → Type 0 = λ t. Numbers (32 ∷ bs) t in
    let fits : fit (length f.ds) (value_of 0 f.ds) ≡ true = let z : 0 + length f.ds ≡ length f.ds = omega arith in rw z at f.fits in
    rw f.numbers (f.ds, (f.rest, ap (λ t. 32 ∷ t) f.text, found_number f.ds (value_of 0 f.ds) f.digits fits refl, f.follows))

found-end : (count n : ℕ) (bs ns : List ℕ) (o : Option (List ℕ)) → kept count n o ≡ Some ns → ((ms : List ℕ) → o ≡ Some ms → Numbers bs ms) → Found count n bs ns
found-end count n bs ns o e h =
    let k = kept_some count n o ns e in
    let z : count + 0 ≡ count = omega arith in
    record { ds = []; rest = bs; more = k.0; text = refl; digits = tt; fits = rw z k.1; numbers = k.3; follows = h k.0 k.2 }

some_nil : (ms : List ℕ) → Some [] ≡ Some ms → [] ≡ ms
some_nil ms e = cc

none_some : (ns : List ℕ) → ◌≡◌ {A = Option (List ℕ)} None (Some ns) → ⊥
none_some ns h = let z : ◌≡◌ {A = ℕ} 0 1 = cc in omega arith

pub found : (count n : ℕ) (bs ns : List ℕ) → within count n bs ≡ Some ns → Found count n bs ns
found count n [] ns e = found-end count n [] ns (Some []) (sym (at-end count n) ∙ e) (λ ms q. rw (← some_nil ms q) refl)
found count n (b ∷ bs) ns e =
    ⊎_elim
    (λ d. found-digit count n b bs ns d (found (count + 1) (10 * n + (b - 48)) bs ns (sym (at-digit count n b bs d) ∙ e)))
    (λ d. ⊎_elim
    (λ s.
    let q = eqb-true b 32 s in
    found-end count n (b ∷ bs) ns (within 0 0 bs) (sym (at_space_as count n b bs q) ∙ e) (λ ms o. rw q (spaced-numbers bs ms (found 0 0 bs ms o))))
    (λ s. absurd (none_some ns (sym (at_other count n b bs d s) ∙ e)))
    (cases_Bool (eqb b 32)))
    (cases_Bool (digit b))

pub numbers_sound : (text ns : List ℕ) → numbers_in text ≡ Some ns → Numbers text ns
numbers_sound [] ns e = rw (← some_nil ns e) refl
numbers_sound (b ∷ bs) ns e =
    ⊎_elim
    (λ s. let q = eqb-true b 32 s in rw q (spaced-numbers bs ns (found 0 0 bs ns (sym (cond-true (eqb b 32) _ _ s) ∙ e))))
    (λ s. absurd (none_some ns (sym (cond-false (eqb b 32) _ _ s) ∙ e)))
    (cases_Bool (eqb b 32))

-- ---- numbers: complete
runs_on : (count n : ℕ) (ds tail : List ℕ) → AllByRecursion Digit ds → within count n (ds ++ tail) ≡ within (count + length ds) (value_of n ds) tail
runs_on count n [] tail a = let z : count + 0 ≡ count = omega arith in rw z refl
runs_on count n (d ∷ ds) tail a =
    let z : count + 1 + length ds ≡ count + suc (length ds) = omega arith in
    at-digit count n d (ds ++ tail) (and_from _ _ (le-leb 48 d a.0.0) (le-leb d 57 a.0.1))
    ∙ runs_on (count + 1) (10 * n + (d - 48)) ds tail a.1
    ∙ ap (λ k. within k (value_of (10 * n + (d - 48)) ds) tail) z

number_fits : (ds : List ℕ) (n : ℕ) → Number ds n → fit (length ds) n ≡ true
number_fits ds n h =
    and_from (leb 1 (length ds) && leb (length ds) 10) (ltb n (2 ^ 32))
    (and_from (leb 1 (length ds)) (leb (length ds) 10) (le-leb 1 (length ds) h.some) (le-leb (length ds) 10 h.few)) (lt-ltb n (2 ^ 32) h.small)

-- the numbers ms stand at rest, read from there
abbrev Stops : List ℕ → List ℕ → Type 0
Stops ms rest = (count n : ℕ) → fit count n ≡ true → within count n rest ≡ Some (n ∷ ms)

one_more : (m : ℕ) (ms ds rest : List ℕ) → Number ds m → Stops ms rest → within 0 0 (ds ++ rest) ≡ Some (m ∷ ms)
one_more m ms ds rest h more =
    let z : 0 + length ds ≡ length ds = omega arith in
    runs_on 0 0 ds rest h.digits
    ∙ ap (λ k. within k (value_of 0 ds) rest) z
    ∙ ap (λ v. within (length ds) v rest) h.value
    ∙ more (length ds) m (number_fits ds m h)

stop : (ms rest : List ℕ) → Numbers rest ms → Stops ms rest
stop [] rest e count n f = ap (within count n) e ∙ at-end count n ∙ kept-fit count n (Some []) f
stop (m ∷ ms) rest (ds, (later, e, h, more)) count n f =
    ap (within count n) e ∙ at_space count n (ds ++ later) ∙ kept-fit count n _ f ∙ ap (option_map (λ t. n ∷ t)) (one_more m ms ds later h (stop ms later more))

pub numbers_complete : (text ns : List ℕ) → Numbers text ns → numbers_in text ≡ Some ns
numbers_complete text [] e = ap numbers_in e
numbers_complete text (m ∷ ms) (ds, (later, e, h, more)) = ap numbers_in e ∙ one_more m ms ds later h (stop ms later more)

-- ---- lines
-- what a reading says by the grammar: nothing of a line that is neither a call nor the end
abbrev Sound : ℕ → List ℕ → Said → Type 0
Sound n text bad = Unit {0}
Sound n text end = Ends text
Sound n text (call k) = Says n text k

pick : (P : Said → Type 0) (b x : ℕ) (s t : Said) → (b ≡ x → P s) → P t → P (cond (eqb b x) s t)
pick P b x s t h k =
    ⊎_elim
    (λ e. rw (cond-true (eqb b x) s t e) (h (eqb-true b x e)))
    (λ e. rw (cond-false (eqb b x) s t e) k)
    (cases_Bool (eqb b x))

spelled : (b x : ℕ) (bs ns : List ℕ) → Numbers bs ns → b ≡ x → Spelled x (b ∷ bs) ns
spelled b x bs ns h e = (bs, ap (λ t. t ∷ bs) e, h)

sound_laid : (n b : ℕ) (bs ns : List ℕ) → Numbers bs ns → b ≡ 76 → Sound n (b ∷ bs) (laid ns)
sound_laid n b bs [] h e = tt
sound_laid n b bs (G ∷ []) h e = tt
sound_laid n b bs (G ∷ L ∷ sides) h e = spelled b 76 bs (G ∷ L ∷ sides) h e

sound_cuts : (n b : ℕ) (bs ns : List ℕ) → Numbers bs ns → b ≡ 67 → Sound n (b ∷ bs) (cuts ns)
sound_cuts n b bs [] h e = tt
sound_cuts n b bs (x ∷ []) h e = tt
sound_cuts n b bs (x ∷ r ∷ []) h e = tt
sound_cuts n b bs (x ∷ r ∷ y ∷ []) h e = spelled b 67 bs (x ∷ r ∷ y ∷ []) h e
sound_cuts n b bs (x ∷ r ∷ y ∷ z ∷ ns) h e = tt

sound_safes : (n b : ℕ) (bs ns : List ℕ) → Numbers bs ns → b ≡ 83 → Sound n (b ∷ bs) (safes ns)
sound_safes n b bs [] h e = tt
sound_safes n b bs (x ∷ v) h e = spelled b 83 bs (x ∷ v) h e

sound_unsafes : (n b : ℕ) (bs ns : List ℕ) → Numbers bs ns → b ≡ 85 → Sound n (b ∷ bs) (unsafes n ns)
sound_unsafes n b bs [] h e = tt
sound_unsafes n b bs (x ∷ vw) h e = (vw, spelled b 85 bs (x ∷ vw) h e, refl, refl)

sound_asks : (n b : ℕ) (bs ns : List ℕ) → Numbers bs ns → b ≡ 81 → Sound n (b ∷ bs) (asks ns)
sound_asks n b bs [] h e = tt
sound_asks n b bs (x ∷ []) h e = spelled b 81 bs (x ∷ []) h e
sound_asks n b bs (x ∷ y ∷ ns) h e = tt

sound_ends : (n b : ℕ) (bs ns : List ℕ) → Numbers bs ns → b ≡ 69 → Sound n (b ∷ bs) (ends ns)
sound_ends n b bs [] h e = rw (e, h) refl
sound_ends n b bs (x ∷ ns) h e = tt

sound_said : (n b : ℕ) (bs ns : List ℕ) → Numbers bs ns → Sound n (b ∷ bs) (said n b ns)
sound_said n b bs ns h =
    let P : Said → Type 0 = Sound n (b ∷ bs) in
    pick P b 76 _ _ (sound_laid n b bs ns h)
    (pick P b 67 _ _ (sound_cuts n b bs ns h)
    (pick P b 83 _ _ (sound_safes n b bs ns h)
    (pick P b 85 _ _ (sound_unsafes n b bs ns h)
    (pick P b 81 _ _ (sound_asks n b bs ns h)
    (pick P b 69 _ _ (sound_ends n b bs ns h) tt)))))

sound_spelling : (n b : ℕ) (bs : List ℕ) (o : Option (List ℕ)) → numbers_in bs ≡ o → Sound n (b ∷ bs) (spelling n b o)
sound_spelling n b bs None e = tt
sound_spelling n b bs (Some ns) e = sound_said n b bs ns (numbers_sound bs ns e)

line_sound : (n : ℕ) (text : List ℕ) → Sound n text (line_said n text)
line_sound n [] = tt
line_sound n (b ∷ bs) = sound_spelling n b bs (numbers_in bs) refl

at-line : (n letter : ℕ) (text ns : List ℕ) → Spelled letter text ns → line_said n text ≡ said n letter ns
at-line n letter text ns (rest, e, h) = ap (line_said n) e ∙ ap (spelling n letter) (numbers_complete rest ns h)

line_complete : (n : ℕ) (text : List ℕ) (k : Command) → Says n text k → line_said n text ≡ call k
line_complete n text (lay_out G L sides) h = at-line n 76 text (G ∷ L ∷ sides) h
line_complete n text (cut b r x) h = at-line n 67 text (b ∷ r ∷ x ∷ []) h
line_complete n text (show_safe b v) h = at-line n 83 text (b ∷ v) h
line_complete n text (show_unsafe b v w) (vw, h, p, q) = at-line n 85 text (b ∷ vw) h ∙ rw (p, q) refl
line_complete n text (find_box b) h = at-line n 81 text (b ∷ []) h
line_complete n text count_boxes h = absurd h
line_complete n text measure h = absurd h

line-ends : (n : ℕ) (text : List ℕ) → Ends text → line_said n text ≡ end
line-ends n text e = ap (line_said n) e

-- bad, where it is not a call and not the end
told-said : (n : ℕ) (text : List ℕ) (s : Said) → line_said n text ≡ s → Sound n text s → Told n text s
told-said n text bad e h =
    (λ k p. let q = line_complete n text k p in let z : ◌≡◌ {A = ℕ} 0 1 = cc in omega arith, λ p. let q = line-ends n text p in let z : ◌≡◌ {A = ℕ} 0 1 = cc in omega arith)
told-said n text end e h = h
told-said n text (call k) e h = h

line-told : (n : ℕ) (text : List ℕ) → Told n text (line_said n text)
line-told n text = told-said n text (line_said n text) refl (line_sound n text)

line_one : (n : ℕ) (text : List ℕ) (s : Said) → Told n text s → s ≡ line_said n text
line_one n text (call k) h = sym (line_complete n text k h)
line_one n text end h = sym (line-ends n text h)
line_one n text bad h = go (line_said n text) (line_sound n text)
  where
    go : (t : Said) → Sound n text t → bad ≡ t
    go bad p = refl
    go end p = absurd (h.1 p)
    go (call k) p = absurd (h.0 k p)

-- ---- the script
all_told : (n : ℕ) (ls : List (List ℕ)) → AllTold n ls (map (line_said n) ls)
all_told n [] = tt
all_told n (l ∷ ls) = (line-told n l, all_told n ls)

all_one : (n : ℕ) (ls : List (List ℕ)) (ss : List Said) → AllTold n ls ss → ss ≡ map (line_said n) ls
all_one n [] [] h = refl
all_one n [] (s ∷ ss) h = absurd h
all_one n (l ∷ ls) [] h = absurd h
all_one n (l ∷ ls) (s ∷ ss) h = let e = line_one n l s h.0 in let f = all_one n ls ss h.1 in rw (e, f) refl

-- one line more, ended by byte 10, and the last, which is not
lines_ended : (l more : List ℕ) → Unbroken l → lines_of (l ++ 10 ∷ more) ≡ l ∷ lines_of more
lines_ended [] more h = break_here 10 more refl
lines_ended (b ∷ l) more h = no_break b (l ++ 10 ∷ more) h.0 ∙ ap (on_first b) (lines_ended l more h.1)

lines_last : (b : ℕ) (l : List ℕ) → Unbroken (b ∷ l) → lines_of (b ∷ l) ≡ (b ∷ l) ∷ []
lines_last b [] h = no_break b [] h.0 ∙ ap (on_first b) lines_nil
lines_last b (x ∷ l) h = no_break b (x ∷ l) h.0 ∙ ap (on_first b) (lines_last x l h.1)

lines_broken : (front : List (List ℕ)) (more : List ℕ) → AllByRecursion Unbroken front → lines_of (broken front ++ more) ≡ front ++ lines_of more
lines_broken [] more h = refl
lines_broken (l ∷ front) more h =
    ap lines_of (append_assoc (l ++ 10 ∷ []) (broken front) more ∙ append_assoc l (10 ∷ []) (broken front ++ more))
    ∙ lines_ended l (broken front ++ more) h.0 ∙ ap (λ t. l ∷ t) (lines_broken front more h.1)

all_front : (front : List (List ℕ)) (l : List ℕ) → AllByRecursion Unbroken (front ++ l ∷ []) → AllByRecursion Unbroken front × Unbroken l
all_front [] l h = (tt, h.0)
all_front (x ∷ front) l h = let r = all_front front l h.1 in ((h.0, r.0), r.1)

lines_one : (script : List ℕ) (ls : List (List ℕ)) → HasLines script ls → ls ≡ lines_of script
lines_one script ls (h, inl e) = sym (ap lines_of (e ∙ sym (append-nil (broken ls))) ∙ lines_broken ls [] h ∙ ap (λ t. ls ++ t) lines_nil ∙ append-nil ls)
lines_one script ls (h, inr (front, (last, e, some, f))) =
    let both = all_front front last (rw e at h) in
    e ∙ sym (ap lines_of f ∙ lines_broken front last both.0 ∙ ap (λ t. front ++ t) (last_line last some both.1))
  where
    last_line : (l : List ℕ) → 1 ≤ length l → Unbroken l → lines_of l ≡ l ∷ []
    last_line [] s u = absurd (omega arith)
    last_line (b ∷ l) s u = lines_last b l u

-- a byte in front of a script
onto-first : (b : ℕ) (bs : List ℕ) (ls : List (List ℕ)) → (b ≡ 10 → ⊥) → HasLines bs ls → HasLines (b ∷ bs) (on_first b ls)
onto-first b bs [] n (h, inl e) = (((n, tt), tt), inr ([], (b ∷ [], refl, omega arith, ap (λ t. b ∷ t) e)))
onto-first b bs (l ∷ ls) n (h, inl e) = (((n, h.0), h.1), inl (ap (λ t. b ∷ t) e))
onto-first b bs [] n (h, inr ([], (last, e, some, f))) = absurd (let z : ◌≡◌ {A = ℕ} 0 1 = cc in omega arith)
onto-first b bs [] n (h, inr (x ∷ front, (last, e, some, f))) = absurd (let z : ◌≡◌ {A = ℕ} 0 1 = cc in omega arith)
onto-first b bs (l ∷ ls) n (h, inr ([], (last, e, some, f))) =
    let p : l ≡ last = cc in
    let q : ls ≡ [] = cc in
    (((n, h.0), h.1), inr ([], (b ∷ last, rw (p, q) refl, omega arith, ap (λ t. b ∷ t) f)))
onto-first b bs (l ∷ ls) n (h, inr (x ∷ front, (last, e, some, f))) =
    let p : l ≡ x = cc in
    let q : ls ≡ front ++ last ∷ [] = cc in
    (((n, h.0), h.1), inr ((b ∷ x) ∷ front, (last, rw (p, q) refl, some, ap (λ t. b ∷ t) f)))

ended_first : (bs : List ℕ) (ls : List (List ℕ)) → HasLines bs ls → HasLines (10 ∷ bs) ([] ∷ ls)
ended_first bs ls (h, inl e) = ((tt, h), inl (ap (λ t. 10 ∷ t) e))
ended_first bs ls (h, inr (front, (last, e, some, f))) = ((tt, h), inr ([] ∷ front, (last, ap (λ t. [] ∷ t) e, some, ap (λ t. 10 ∷ t) f)))

has_lines : (script : List ℕ) → HasLines script (lines_of script)
has_lines [] = rw lines_nil (tt, inl refl)
has_lines (b ∷ bs) =
    ⊎_elim
    (λ e. let q = eqb-true b 10 e in rw (break_here b bs q, q) (ended_first bs (lines_of bs) (has_lines bs)))
    (λ e. let q = eqb-false b 10 e in rw (no_break b bs q) (onto-first b bs (lines_of bs) q (has_lines bs)))
    (cases_Bool (eqb b 10))

pub reads_the_grammar : ReadsTheGrammar
reads_the_grammar n script =
    ((lines_of script, has_lines script, all_told n (lines_of script)), λ ss h. all_one n h.0 ss h.2 ∙ ap (map (line_said n)) (lines_one script h.0 h.1))

pub said_as : (n : ℕ) (script : List ℕ) (ss : List Said) → ss ≡ script_said n script → ScriptSays n script (script_said n script) → ScriptSays n script ss
said_as n script ss e h = rw e h
