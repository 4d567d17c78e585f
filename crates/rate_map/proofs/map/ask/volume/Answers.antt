use Rattle.std.proofs.Common.{◌≡◌, ℕ, ◌+◌, ◌-◌, ◌*◌, ◌^◌, ◌<◌, ◌≤◌, List, length, get_or, take, lit<, mul-le-mul, add-one, ap, ◌∙◌, arith, length-append}
use Rattle.std.proofs.Math.Nat.{pow-le-pow_right}
use Rattle.std.proofs.lemmas.Grind.{pow_more}
use Rattle.std.proofs.lemmas.List.{get_or-take, length-take}
use Rattle.std.proofs.lemmas.Slice.Zip.{zip_turn, zip_end}
use Rattle.std.specs.Slice.Iter.{iter_rest}
use Rattle.std.specs.Iterator.Adapters.{zip_first, zip_second}
use Rattle.theory.specs.Maps.{volume}
use Rattle.theory.specs.declared.record.BoxRecord.{BoxRecord}
use Rattle.rate_map.proofs.map.ask.volume.Goals as goal

-- ---- a product of widths, each at most a thousand
grown : (v w k : ℕ) → v ≤ 1000 ^ k → w ≤ 1000 → v * w ≤ 1000 ^ (k + 1)
grown v w k h l = rw (pow_more 1000 k) (mul-le-mul h l)

few : (v k : ℕ) → v ≤ 1000 ^ k → k ≤ 4 → v ≤ 1000000000000
few v k h l = let p : 1000 ^ k ≤ 1000 ^ 4 = pow-le-pow_right (lit< tt) l in omega (arith, h, p)

-- the sides at an iteration
in_front : (n k : ℕ) (xs : List ℕ) → k < length (take n xs) → (k < n) × (get_or (take n xs) k 0 ≡ get_or xs k 0)
in_front n k xs h = let l : k < n = omega (arith, length-take n xs) in (l, get_or-take n xs k 0 l)

record Turn (rates k w : ℕ) (b : BoxRecord) : Type 0 where
  inside : k < rates
  width : w ≡ get_or b.high k 0 - get_or b.low k 0
  bound : w ≤ 1000

turn : (c : goal.After-saturating_sub) → Turn c.args.rates (length c.loop-low.yielded) c.saturating_sub.result c.args.b.now
turn c =
    let b = c.args.b.now in
    let lows = take c.args.rates b.low in
    let z = zip_turn lows b.high c.loop-low.yielded c.into_iter-low-iterator.result c.loop-low.low-iterator c.next.new.self c.next.result
    (ap (λ z. iter_rest (zip_first z)) c.into_iter-low-iterator.ensures.into_iter_gives ∙ ap iter_rest c.zip-low-items.ensures.first ∙ c.iter.ensures.rest)
    (ap (λ z. iter_rest (zip_second z)) c.into_iter-low-iterator.ensures.into_iter_gives ∙ c.zip-low-items.ensures.second.0)
    c.loop-low.yielded_by (c.in-Some.low, c.in-Some.high) c.in-Some.is c.next.ensures.steps in
    let f = in_front c.args.rates (length c.loop-low.yielded) b.low z.0 in
    let width = c.saturating_sub.ensures ∙ (λ i. z.3 0 i - (z.2 0 ∙ f.1) i) in
    record { inside = f.0; width = width; bound = omega (arith, width, c.requires.few (length c.loop-low.yielded)) }

pub overflow_mul-product : goal.overflow_mul-product
overflow_mul-product c =
    let t = turn c in
    let g = grown c.loop-low.product c.saturating_sub.result (length c.loop-low.yielded) c.loop-low.invariant.1 t.bound in
    record { fits = omega (arith, few _ _ g (omega (arith, t.inside, c.requires.rates))) }

pub loop-low-preserved : goal.loop-low-preserved
loop-low-preserved c =
    let t = turn c in
    let k = length c.loop-low.yielded in
    rw (length-append c.loop-low.yielded _) (
      rw add-one ((λ i. c.loop-low.invariant.0 i * t.width i)),
      grown c.loop-low.product c.saturating_sub.result k c.loop-low.invariant.1 t.bound,
    )

pub returns : goal.returns
returns c =
    let b = c.args.b.now in
    let z = zip_end (take c.args.rates b.low) b.high c.loop-low.yielded c.into_iter-low-iterator.result c.loop-low.low-iterator c.next.new.self c.next.result
    (ap (λ z. iter_rest (zip_first z)) c.into_iter-low-iterator.ensures.into_iter_gives ∙ ap iter_rest c.zip-low-items.ensures.first ∙ c.iter.ensures.rest)
    (ap (λ z. iter_rest (zip_second z)) c.into_iter-low-iterator.ensures.into_iter_gives ∙ c.zip-low-items.ensures.second.0)
    c.loop-low.yielded_by c.in-None.is c.next.ensures.steps in
    let all : length c.loop-low.yielded ≡ c.args.rates = omega (arith, z, length-take c.args.rates b.low) in
    record {
      product = c.loop-low.invariant.0 ∙ ap (λ n. volume n b) all;
      few = omega (arith, few _ _ c.loop-low.invariant.1 (omega (arith, all)));
    }
