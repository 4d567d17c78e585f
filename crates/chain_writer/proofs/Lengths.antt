-- How many bytes a lawful chain's rows and its file have at most; and what they read as.
use Rattle.std.proofs.Common.{◌≡◌, ℕ, zero, suc, ◌+◌, ◌*◌, ◌^◌, ◌<◌, ◌≤◌, List, length, take, sym, refl, ap, ◌∙◌, arith}
use Rattle.std.proofs.Math.Nat.{mul-le-mul}
use Rattle.std.proofs.Math.Pow.{pow_mono}
use Rattle.std.proofs.lemmas.List.{length-append, take_at}
use Rattle.chain.specs.Chains.{Meaning, Lawful}
use Rattle.chain_format.specs.Format.{version1, row_bytes, encode}
use Rattle.chain_format.proofs.Written.{row-length, rows_to, rows_to_none, rows_to_more, encode-length}
use Rattle.chain_format.proofs.TripLaws.{write_then_read}
use Rattle.chain_writer.specs.Wrote.{Wrote, ReadsAs}

pub row_short : (c : Meaning) → Lawful c → (i : ℕ) → i < c.states → length (row_bytes version1 (c.row i)) ≤ 149
row_short c l i h =
    let r = l.rows i h in
    let size : 2 ^ length (c.row i).rates ≤ 8 = pow_mono r.rates_few in
    let edges : (2 + 2 * 2 ^ length (c.row i).rates) * length (c.row i).edges ≤ 18 * 8 = mul-le-mul {n₁ = 2 + 2 * 2 ^ length (c.row i).rates} {n₂ = 18} (omega arith) r.edges_few in
    omega (arith, row-length version1 _ _ _ (c.row i) r, r.rates_few)

pub length-rows_to_more : (c : Meaning) (i : ℕ) → length (rows_to version1 c (i + 1)) ≡ length (rows_to version1 c i) + length (row_bytes version1 (c.row i))
length-rows_to_more c i = ap length (rows_to_more version1 c i) ∙ length-append (rows_to version1 c i) (row_bytes version1 (c.row i))

pub rows_short : (c : Meaning) → Lawful c → (i : ℕ) → i ≤ c.states → length (rows_to version1 c i) ≤ 149 * i
rows_short c l zero h = omega (arith, ap length (rows_to_none version1 c))
rows_short c l (suc i) h =
    let e : suc i ≡ i + 1 = omega arith in
    omega (arith, ap (λ k. length (rows_to version1 c k)) e, rows_short c l i (omega arith), row_short c l i h, length-rows_to_more c i)

pub encode_short : (c : Meaning) → Lawful c → length (encode c) ≤ 51 + 154 * 4096
encode_short c l = omega (arith, encode-length c _ _ refl refl, rows_short c l c.states (omega arith), l.states_few)

-- what is written reads as the chain
pub reads_again : (c : Meaning) → Lawful c → (before after : List ℕ) (n : ℕ) → n ≡ length (encode c) → Wrote before after (encode c) → ReadsAs (take n after) c
reads_again c l before after n e h =
    let t = write_then_read c l in
    rw (ap (take n) h ∙ take_at (encode c) _ n (sym e)) (t.1, t.2)
