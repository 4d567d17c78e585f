-- How long a file is that opens, and the file that a stored chain begins with.
use Rattle.std.proofs.Common.{◌≡◌, ℕ, zero, suc, ◌^◌, ◌<◌, ◌≤◌, List, length, refl, arith}
use Rattle.chain_format.specs.Reader.{value_at, bytes_of, number, after, ◌then◌, done, mapped, tested, checked, repeat, spell}
use Rattle.chain_format.specs.Format.{version1, balanced, file_of, opened, encode, file_in, Opens, chain_in}
use Rattle.chain_format.specs.Same.{Same}
use Rattle.chain_format.specs.Theorems.{Bytes}
use Rattle.chain_format.proofs.OpenLaws.{file_bytes, opened-laid, length-numbers, length-marks, length_offsets, rows_short}
use Rattle.chain_format.proofs.TripLaws.{opens_got}
use Rattle.chain_file.specs.First.{first_chain}

pub short : (bs : List ℕ) → Bytes bs → Opens bs → length bs ≤ 2 ^ 20
short bs by o =
    let g = opens_got (opened bs) o in
    let f = file_in (opened bs) in
    opened-laid bs by f g.0 g.1 λ a b c d laid whole.
    let l = laid.lawful in
    omega (
      arith,
      whole,
      laid.len_1,
      laid.len_2,
      laid.len_3,
      laid.len_4,
      l.marks_many,
      l.rows_many,
      l.numbers_lawful.states_few,
      length-numbers version1 f.numbers,
      length-marks f.marks,
      length_offsets version1 f.rows,
      rows_short version1 (omega arith) _ _ _ f.rows l.rows_lawful,
    )

-- ---- one state, which loops
pub first_fits : Bytes (encode first_chain)
first_fits = file_bytes version1 (file_of first_chain)

pub first_opens : Opens (encode first_chain)
unfolding value_at bytes_of number after ◌then◌ done mapped tested checked repeat spell balanced opened
first_opens = refl

same_mark : (s : ℕ) → s < 1 → (chain_in (encode first_chain)).mark s ≡ 0
unfolding value_at bytes_of number after ◌then◌ done mapped tested checked repeat spell balanced opened
same_mark zero h = refl
same_mark (suc s) h = absurd (omega arith)

same_row : (s : ℕ) → s < 1 → (chain_in (encode first_chain)).row s ≡ first_chain.row s
unfolding value_at bytes_of number after ◌then◌ done mapped tested checked repeat spell balanced opened
same_row zero h = refl
same_row (suc s) h = absurd (omega arith)

pub first_same : Same (chain_in (encode first_chain)) first_chain
unfolding value_at bytes_of number after ◌then◌ done mapped tested checked repeat spell balanced opened
first_same = record { states = refl; rates = refl; unit = refl; start = refl; mark = same_mark; row = same_row }
