-- The form of a row is read as it is spelt, in every version whose numbers of states have room.
use Rattle.std.proofs.Common.{◌≡◌, ℕ, suc, ◌+◌, ◌-◌, ◌^◌, ◌<◌, ◌≤◌, Bool, true, ltb, leb, List, [], ◌∷◌, ◌++◌, map, length, ℤ, pos, negsuc, sym, refl, ap, ⊎_elim, arith, w16, SFits, to_z, of_z}
use borrow.Author.Differences.{ints}
use Rattle.std.proofs.lemmas.Bool.{leb-true, le-leb, ltb-true, lt-ltb, le-ltb, and_parts, and_from, or_cases, or_left, or_right}
use Rattle.std.proofs.lemmas.Int.{to_z-of_z, of_z-to_z}
use Rattle.std.specs.List.{AllByRecursion}
use Rattle.chain_format.specs.Reader.{Reader, Part, bytes_of, spell, stay, each, from, within, field, counted}
use Rattle.chain.specs.Chains.{Edge, Row, Ascends, Limited, LawfulEdge, most_states}
use Rattle.chain_format.specs.Format.{Version, small, rate, coefficient, edge, form, coefficient_bytes, edge_bytes, row_bytes}
use Rattle.chain_format.specs.Theorems.{Bytes}
use Rattle.chain_format.proofs.Laws.{Codec, Each, number_codec, tested_codec, mapped_codec, then_codec, repeat_codec, like}

-- the numbers of a version, and every number of a state, have room in their fields
pub record Roomy (v : Version) : Type 0 where
  pub version_fits : v.version < 65536
  pub sections_fit : v.sections < 65536
  pub holds : most_states < 256 ^ v.wide
  pub few : v.wide ≤ 4

pub from_true : (low top v : ℕ) → from low top v ≡ true → (low ≤ v) × (v < top)
from_true low top v e = let t = and_parts (leb low v) (ltb v top) e in (leb-true low v t.0, ltb-true v top t.1)

pub within_true : (low high v : ℕ) → within low high v ≡ true → (low ≤ v) × (v ≤ high)
within_true low high v e = let t = from_true low (high + 1) v e in (t.0, omega (arith, t.1))

pub true_from : (low top v : ℕ) → low ≤ v → v < top → from low top v ≡ true
true_from low top v h l = and_from (leb low v) (ltb v top) (le-leb low v h) (lt-ltb v top l)

pub field_codec : (p : Part) → Bytes p.bytes → (w : ℕ) (ok : ℕ → Bool) (P : ℕ → Type 0)
    → ((v : ℕ) → v < 256 ^ w → ok v ≡ true → P v) → ((v : ℕ) → P v → (ok v ≡ true) × (v < 256 ^ w)) → Codec p (field p w ok) (bytes_of w) (λ v _. P v)
field_codec p b w ok P f g = like p (tested_codec p p.fault ok (number_codec p b w)) (λ v _ h. f v h.1 h.0) (λ v _ h. g v h)

pub counted_codec : (p : Part) → Bytes p.bytes → (w low high : ℕ) → high < 256 ^ w → {S A : Type 0} {r : S → Reader A} {v : S → A → List ℕ} {Ok : S → A → ℕ → Type 0}
    (next : S → A → S) (s : S) → ((s : S) → Codec p (r s) (v s) (Ok s)) → (P : List A → Type 0)
    → ((xs : List A) (at : ℕ) → Each v next Ok s xs at → P xs) → ((xs : List A) (at : ℕ) → P xs → Each v next Ok s xs at)
    → Codec p (counted p w (within low high) r next s) (λ xs. bytes_of w (length xs) ++ spell v next s xs)
    (λ xs _. (low ≤ length xs) × (length xs ≤ high) × P xs)
counted_codec p b w low high fits next s c P f g =
    like p
    (then_codec p length (field_codec p b w (within low high) (λ k. (low ≤ k) × (k ≤ high)) (λ v _ e. within_true low high v e) (λ v t. (true_from low (high + 1) v t.0 (omega arith), omega arith)))
    (λ k. repeat_codec p next c k s) (λ k xs at mid h t. t.0))
    (λ xs at h. (h.0.0, h.0.1, f xs _ h.1.1))
    (λ xs at h. ((h.0, h.1), (refl, g xs _ h.2)))

pub rate_codec : (p : Part) → Bytes p.bytes → (m low : ℕ) → m ≤ 4 → Codec p (rate p m low) (bytes_of 1) (λ r _. (low ≤ r) × (r < m))
rate_codec p b m low h = field_codec p b 1 (from low m) _ (λ v _ e. from_true low m v e) (λ v t. (true_from low m v t.0 t.1, omega arith))

to_z_low : (v : ℕ) → v ≤ 8000 → to_z w16 v ≡ pos v
to_z_low v h = rw (lt-ltb v 32768 (omega arith))

to_z_high : (v : ℕ) → 57536 ≤ v → to_z w16 v ≡ negsuc (65536 - suc v)
to_z_high v h = rw (le-ltb v 32768 (omega arith))

limited_to_z : (v : ℕ) → v < 65536 → small v ≡ true → Limited (to_z w16 v)
limited_to_z v h e =
    ⊎_elim (λ x. let l : v ≤ 8000 = leb-true v 8000 x in rw (to_z_low v l) (omega (arith, ints), omega (arith, ints)))
    (λ x. let l : 57536 ≤ v = leb-true 57536 v x in rw (to_z_high v l) (omega (arith, ints), omega (arith, ints))) (or_cases (leb v 8000) (leb 57536 v) e)

small-of_z : (z : ℤ) → Limited z → small (of_z w16 z) ≡ true
small-of_z (pos a) h = or_left _ _ (le-leb a 8000 (omega (arith, ints)))
small-of_z (negsuc a) h = or_right _ _ (le-leb 57536 (65536 - suc a) (omega (arith, ints)))

under_of_z : (z : ℤ) → Limited z → (of_z w16 z < 65536) × SFits w16 z
under_of_z (pos a) h = (omega (arith, ints), record { sfits = omega (arith, ints) })
under_of_z (negsuc a) h = (omega (arith, ints), record { sfits = omega (arith, ints) })

pub coefficient_codec : (p : Part) → Bytes p.bytes → Codec p (coefficient p) coefficient_bytes (λ z _. Limited z)
coefficient_codec p b =
    like p
    (mapped_codec p (to_z w16) (of_z w16) (field_codec p b 2 small (λ v. (v < 65536) × (small v ≡ true)) (λ v h e. (h, e)) (λ v t. (t.1, t.0)))
    (λ v _ h. of_z-to_z w16 v h.0))
    (λ z _ h. rw h.0 at (limited_to_z (of_z w16 z) h.1.0 h.1.1))
    (λ z _ h. (to_z-of_z w16 z (under_of_z z h).1, ((under_of_z z h).0, small-of_z z h)))

-- ---- what holds of each, without places
each_limited : (zs : List ℤ) (at : ℕ) → Each (each coefficient_bytes) stay (λ _ z _. Limited z) 0 zs at → AllByRecursion Limited zs
each_limited [] at h = tt
each_limited (z ∷ zs) at h = (h.0, each_limited zs _ h.1)

limited_each : (zs : List ℤ) (at : ℕ) → AllByRecursion Limited zs → Each (each coefficient_bytes) stay (λ _ z _. Limited z) 0 zs at
limited_each [] at h = tt
limited_each (z ∷ zs) at h = (h.0, limited_each zs _ h.1)

each_rates : (m : ℕ) (rs : List ℕ) (low at : ℕ) → Each (each (bytes_of 1)) (λ _ r. r + 1) (λ low r _. (low ≤ r) × (r < m)) low rs at → Ascends low m rs
each_rates m [] low at h = tt
each_rates m (r ∷ rs) low at h = (h.0.0, h.0.1, each_rates m rs (r + 1) _ h.1)

rates_each : (m : ℕ) (rs : List ℕ) (low at : ℕ) → Ascends low m rs → Each (each (bytes_of 1)) (λ _ r. r + 1) (λ low r _. (low ≤ r) × (r < m)) low rs at
rates_each m [] low at h = tt
rates_each m (r ∷ rs) low at h = ((h.0, h.1), rates_each m rs (r + 1) _ h.2)

abbrev Fits : ℕ → ℕ → ℕ → Edge → ℕ → Type 0
Fits n size low e _ = (low ≤ e.successor) × (e.successor < n) × LawfulEdge size e

abbrev leave : ℕ → Edge → ℕ
leave _ e = e.successor + 1

abbrev Edges : ℕ → ℕ → ℕ → List Edge → Type 0
Edges n size low es = Ascends low n (map (λ e. e.successor) es) × AllByRecursion (LawfulEdge size) es

each_edges : (v : Version) (n size : ℕ) (es : List Edge) (low at : ℕ) → Each (each (edge_bytes v)) leave (Fits n size) low es at → Edges n size low es
each_edges v n size [] low at h = (tt, tt)
each_edges v n size (e ∷ es) low at h = let t = each_edges v n size es (e.successor + 1) _ h.1 in ((h.0.0, h.0.1, t.0), (h.0.2, t.1))

edges_each : (v : Version) (n size : ℕ) (es : List Edge) (low at : ℕ) → Edges n size low es → Each (each (edge_bytes v)) leave (Fits n size) low es at
edges_each v n size [] low at h = tt
edges_each v n size (e ∷ es) low at h = ((h.0.0, h.0.1, h.1.0), edges_each v n size es (e.successor + 1) _ (h.0.2, h.1.1))

-- ---- an edge, and the form of a row
pub edge_codec : (v : Version) → Roomy v → (p : Part) → Bytes p.bytes → (n size low : ℕ) → n ≤ most_states → Codec p (edge v p n size low) (edge_bytes v) (Fits n size low)
edge_codec v room p b n size low few =
    like p
    (then_codec p (λ e. e.successor)
    (field_codec p b v.wide (from low n) (λ s. (low ≤ s) × (s < n)) (λ s _ e. from_true low n s e) (λ s t. (true_from low n s t.0 t.1, omega arith)))
    (λ s. mapped_codec p (λ cs. record { successor = s; coefficients = cs }) (λ e. e.coefficients) (repeat_codec p stay (λ _. coefficient_codec p b) size 0) (λ _ _ _. refl))
    (λ s e at mid h t. sym (ap (λ (x : Edge). x.successor) t.0)))
    (λ e at h. (h.0.0, h.0.1, record { many = h.1.1.0; limits = each_limited _ _ h.1.1.1 }))
    (λ e at h. ((h.0, h.1), (refl, (h.2.many, limited_each _ _ h.2.limits))))

pub record Formed (n m : ℕ) (r : Row) : Type 0 where
  pub rates_few : length r.rates ≤ 3
  pub rates_rise : Ascends 0 m r.rates
  pub edges_some : 1 ≤ length r.edges
  pub edges_few : length r.edges ≤ 8
  pub edges_rise : Ascends 0 n (map (λ e. e.successor) r.edges)
  pub edges_lawful : AllByRecursion (LawfulEdge (2 ^ length r.rates)) r.edges

pub form_codec : (v : Version) → Roomy v → (p : Part) → Bytes p.bytes → (n m : ℕ) → n ≤ most_states → m ≤ 4 → Codec p (form v p n m) (row_bytes v) (λ r _. Formed n m r)
form_codec v room p b n m few less =
    like p
    (then_codec p (λ r. r.rates)
    (counted_codec p b 1 0 3 (omega arith) (λ _ r. r + 1) 0 (λ low. rate_codec p b m low less) (Ascends 0 m) (λ rs at h. each_rates m rs 0 at h) (λ rs at h. rates_each m rs 0 at h))
    (λ rs. mapped_codec p (λ es. record { rates = rs; edges = es }) (λ r. r.edges)
    (counted_codec p b 1 1 8 (omega arith) leave 0 (λ low. edge_codec v room p b n (2 ^ length rs) low few) (Edges n (2 ^ length rs) 0)
    (λ es at h. each_edges v n _ es 0 at h) (λ es at h. edges_each v n _ es 0 at h)) (λ _ _ _. refl))
    (λ rs r at mid h t. sym (ap (λ (x : Row). x.rates) t.0)))
    (λ r at h. record { rates_few = h.0.1; rates_rise = h.0.2; edges_some = h.1.1.0; edges_few = h.1.1.1; edges_rise = h.1.1.2.0; edges_lawful = h.1.1.2.1 })
    (λ r at h. ((omega arith, h.rates_few, h.rates_rise), (refl, (h.edges_some, h.edges_few, (h.edges_rise, h.edges_lawful)))))
