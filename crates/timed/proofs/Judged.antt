-- The number of a call's answer.
use Rattle.std.proofs.Common.{◌≡◌, ℕ, true, List, Ok, Err, Result, refl, ap, ◌∙◌}
use Rattle.std.proofs.lemmas.Bool.{false≢true}
use Rattle.chain.specs.Chains.{Meaning}
use Rattle.chain.specs.declared.refusal.Refusal.{Refusal}
use Rattle.chain_format.specs.Reader.{Answer as Read, refused, got}
use Rattle.chain_format.specs.Format.{File, opened, meaning, file_in, Opens, chain_in}
use Rattle.chain_format.specs.Format as format
use Rattle.theory.specs.Maps.{MapValue, new_map, laid_out}
use Rattle.theory.specs.Runs.{or_kept}
use Rattle.rate_map.specs.Calls.{taken}
use Rattle.timed.specs.Timed.{result_number, laid_map, over_file}

taken_number : (w : Result MapValue Refusal) → result_number (taken w) ≡ result_number w
taken_number (Ok m) = refl
taken_number (Err e) = refl

-- the map that a witness was judged in is the one laid out, over the same chain
pub judged_number : {C : Type 0} (meaning_of : C → Meaning) (chain made laid : C) (before after : MapValue) (G L : ℕ) (sides : List ℕ) (judge : Meaning → MapValue → Result MapValue Refusal)
    (r : Result (Unit {0}) Refusal) → made ≡ chain → before ≡ new_map (meaning_of chain) → laid ≡ made → after ≡ or_kept before (laid_out (meaning_of made) before G L sides)
    → r ≡ taken (judge (meaning_of laid) after) → result_number r ≡ result_number (judge (meaning_of chain) (laid_map (meaning_of chain) G L sides))
judged_number meaning_of chain made laid before after G L sides judge r m b l a e =
    let value : after ≡ laid_map (meaning_of chain) G L sides
    = a ∙ ap (λ x. or_kept before (laid_out (meaning_of x) before G L sides)) m ∙ ap (λ m. or_kept m (laid_out (meaning_of chain) m G L sides)) b in
    ap result_number e ∙ taken_number (judge (meaning_of laid) after) ∙ ap (λ x. result_number (judge (meaning_of x) after)) (l ∙ m) ∙ ap (λ x. result_number (judge (meaning_of chain) x)) value

pub over_file_lem : (file bytes : List ℕ) (number : Meaning → ℕ) (n : ℕ) → Opens file → bytes ≡ file → n ≡ number (chain_in bytes) → n ≡ over_file (opened file) number
over_file_lem file bytes number n o e q = q ∙ ap (λ b. number (chain_in b)) e ∙ go (opened file) o
  where
    go : (a : Read File) → format.taken a ≡ true → number (meaning (file_in a)) ≡ over_file a number
    go (refused x) t = absurd (false≢true t)
    go (got f to) t = refl
