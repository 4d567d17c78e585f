-- The sums of a record's edges: one edge more, one sum more, and when two of them are the same.
use Rattle.std.proofs.Common.{◌≡◌, ℕ, zero, suc, ◌-◌, ◌<◌, true, ◌&&◌, eqb, List, [], ◌∷◌, length, get_or, take, drop, ℤ, pos, ◌+ℤ◌, sym, refl, ap, ◌∙◌, arith, SFits, to_z, of_z}
use Rattle.std.proofs.lemmas.List.{take_all}
use Rattle.std.proofs.lemmas.Bool.{eqb-true, eq-eqb}
use Rattle.std.proofs.lemmas.Bool.Decides.{same_from_decides}
use Rattle.std.proofs.lemmas.Int.{to_z-of_z}
use mir.Syntax.{Width}
use Rattle.chain.specs.Chains.{due}
use Rattle.chain.specs.declared.record.EdgeRecord.{EdgeRecord}
use Rattle.chain_format.specs.Format.{eqℤ}
use Rattle.chain_format.proofs.FileLaws.{eqℤ-is}
use Rattle.chain_file.specs.Columns.{column, tallied}
use Rattle.chain_file.proofs.Fills.{all_more}

pub column_more : (i : ℕ) (xs : List EdgeRecord) (d : EdgeRecord) → 0 < length xs
    → column i xs ≡ get_or (get_or xs 0 d).coefficients i (pos 0) +ℤ column i (take (length xs - 1) (drop 1 xs))
column_more i [] d h = absurd (omega arith)
column_more i (x ∷ xs) d h = ap (λ t. get_or x.coefficients i (pos 0) +ℤ column i t) (sym (take_all (suc (length xs) - 1) xs (omega arith)))

pub tallied_none : (unit : ℕ) (es : List EdgeRecord) (k : ℕ) → k ≡ 0 → tallied unit es k ≡ true
tallied_none unit es k h = rw h refl

pub tallied_more : (unit : ℕ) (es : List EdgeRecord) (k : ℕ) → 0 < k → tallied unit es k ≡ (tallied unit es (k - 1) && eqℤ (column (k - 1) es) (due unit (k - 1)))
tallied_more unit es zero h = absurd (omega arith)
tallied_more unit es (suc k) h = let e : suc k - 1 ≡ k = omega arith in rw (e, all_more _ 0 k k (omega arith)) refl

pub eqb-of_z : (w : Width) (a b : ℤ) → SFits w a → SFits w b → eqb (of_z w a) (of_z w b) ≡ eqℤ a b
eqb-of_z w a b f g =
    same_from_decides _ _ (λ h. sym (to_z-of_z w a f) ∙ ap (to_z w) (eqb-true _ _ h) ∙ to_z-of_z w b g, λ h. eq-eqb _ _ (ap (of_z w) h)) (eqℤ-is a b)
