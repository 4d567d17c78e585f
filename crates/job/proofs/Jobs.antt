-- From the list of calls to the whole job.
use Rattle.std.proofs.Common.{◌≡◌, ℕ, ◌≤◌, Bool, true, cond, leb, List, [], ◌++◌, length, vec_items, sym, refl, ap, ◌∙◌}
use Rattle.std.proofs.lemmas.Bool.{cond-true, le-leb, false≢true}
use Rattle.chain.specs.Chains.{Meaning}
use Rattle.chain_format.specs.Reader.{Answer as Read, refused, got}
use Rattle.chain_format.specs.Format.{File, opened, meaning, file_in, taken, Opens, chain_in}
use Rattle.theory.specs.Maps.{new_map}
use Rattle.theory.specs.Runs.{Command, run_from}
use Rattle.rate_map.specs.declared.run.Ran.{Ran}
use Rattle.rate_map.specs.Promise.{Promised, ended_value, chain_of, is_closed}
use Rattle.script.specs.Grammar.{Said, ScriptSays}
use Rattle.script.specs.Reading.{script_said, commands, closes}
use Rattle.job.specs.Output.{most_bytes, texts, sheet_of, shown, map_output, opened_output, job_output}
use Rattle.job.specs.Promise.{Mapped}

-- what is shown of a script, its answers and the map that it ends with, in the words of that map's type
module _ {C : Type 0} (meaning_of : C → Meaning) (chain : C) (script : List ℕ) (said : List Said) (r : Ran C) where
  pub mapped : ScriptSays (meaning_of chain).states script said → (ks : List Command) (close : Bool) → ks ≡ commands said → close ≡ closes said
      → Promised (meaning_of chain) chain ks close r → (out : List ℕ)
      → out ≡ texts (meaning_of chain).rates said (vec_items r.answers) ++ cond (is_closed r.map) (sheet_of (meaning_of (chain_of r.map)) (ended_value r.map)) []
      → Mapped (meaning_of chain) script out
  mapped reads ks close e f p out o =
      let c = meaning_of chain in
      let q : Promised c chain (commands said) (closes said) r = rw (← e, ← f) p in
      record {
        said = said;
        map = ended_value r.map;
        answers = vec_items r.answers;
        reads = reads;
        value = q.value;
        answered = q.answered;
        guarantee = q.guarantee;
        order = q.order;
        output_is = o
            ∙ ap (λ b. texts c.rates said (vec_items r.answers) ++ cond b (sheet_of (meaning_of (chain_of r.map)) (ended_value r.map)) []) q.closed
            ∙ ap (λ x. texts c.rates said (vec_items r.answers) ++ cond (closes said) (sheet_of (meaning_of x) (ended_value r.map)) []) q.same;
      }

pub mapped_output : (c : Meaning) (script : List ℕ) (said : List Said) (out : List ℕ) → (m : Mapped c script out) → m.said ≡ said → said ≡ script_said c.states script
    → out ≡ map_output c (script_said c.states script)
mapped_output c script said out m d f =
    let e : m.said ≡ script_said c.states script = d ∙ f in
    m.output_is ∙ ap (λ x. shown c m.said x m.answers) m.value ∙ ap (shown c m.said (run_from c (new_map c) (commands m.said))) m.answered ∙ ap (map_output c) e

-- ---- the file and the script

pub short_file : (file script : List ℕ) → length file ≤ most_bytes → job_output file script ≡ opened_output (opened file) script
short_file file script h = cond-true (leb (length file) most_bytes) _ _ (le-leb (length file) most_bytes h)

-- the same with the numbers as the code has them
module _ {C : Type 0} (meaning_of : C → Meaning) (chain : C) (script : List ℕ) (said : ℕ → List Said) (r : Ran C) where
  pub whole : (states rates : ℕ) → states ≡ (meaning_of chain).states → rates ≡ (meaning_of chain).rates → ((n : ℕ) → said n ≡ script_said n script) → ((n : ℕ) → ScriptSays n script (said n))
      → (ks : List Command) (close : Bool) → ks ≡ commands (said states) → close ≡ closes (said states) → Promised (meaning_of chain) chain ks close r → (out : List ℕ)
      → out ≡ texts rates (said states) (vec_items r.answers) ++ cond (is_closed r.map) (sheet_of (meaning_of (chain_of r.map)) (ended_value r.map)) []
      → (out ≡ map_output (meaning_of chain) (script_said (meaning_of chain).states script)) × Mapped (meaning_of chain) script out
  unfolding mapped
  whole states rates e f says grammar ks close k l p out o =
      let c = meaning_of chain in
      let last = cond (is_closed r.map) (sheet_of (meaning_of (chain_of r.map)) (ended_value r.map)) [] in
      let m = mapped meaning_of chain script (said c.states) r (grammar c.states) ks close (k ∙ ap (λ n. commands (said n)) e) (l ∙ ap (λ n. closes (said n)) e) p out
      (o ∙ ap (λ n. texts rates (said n) (vec_items r.answers) ++ last) e ∙ ap (λ n. texts n (said c.states) (vec_items r.answers) ++ last) f) in
      (mapped_output c script (said c.states) out m refl (says c.states), m)

-- a file that opens, with a script that is not too long
pub run_job : (file bytes script out : List ℕ) → length file ≤ most_bytes → Opens file → length script ≤ most_bytes → bytes ≡ file
    → out ≡ map_output (chain_in bytes) (script_said (chain_in bytes).states script) → out ≡ job_output file script
run_job file bytes script out h o l e q =
    let a : out ≡ map_output (chain_in file) (script_said (chain_in file).states script) = q ∙ ap (λ b. map_output (chain_in b) (script_said (chain_in b).states script)) e in
    a ∙ sym (short_file file script h ∙ opened-output (opened file) o)
  where
    opened-output : (a : Read File) → taken a ≡ true
        → opened_output a script ≡ map_output (meaning (file_in a)) (script_said (meaning (file_in a)).states script)
    opened-output (refused x) t = absurd (false≢true t)
    opened-output (got f to) t = cond-true (leb (length script) most_bytes) _ _ (le-leb (length script) most_bytes l)
