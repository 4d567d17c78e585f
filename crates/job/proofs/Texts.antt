-- What stands in a buffer that bytes were written to.
use Rattle.std.proofs.Common.{◌≡◌, ℕ, ◌-◌, List, length, take, ap, ◌∙◌, arith}
use Rattle.std.proofs.lemmas.List.{take_at}
use Rattle.sheet.specs.Wrote.{Wrote}

-- the front of a buffer that bytes were written to
pub written_front : (before after xs : List ℕ) (n : ℕ) → n ≡ length xs → Wrote before after xs → take (n - 0) after ≡ xs
written_front before after xs n e w = let z : length xs ≡ n - 0 = omega arith in ap (take (n - 0)) w ∙ take_at xs _ (n - 0) z
