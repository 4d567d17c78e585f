-- The chain in naturals: `step f s` is the sum over the edges of s of the edge's chance times f at its successor.
use Rattle.std.proofs.Common.{◌≡◌, ℕ, zero, suc, ◌+◌, ◌-◌, ◌*◌, ◌/◌, ◌^◌, ◌<◌, ◌≤◌, min, Bool, true, false, cond, ◌⊎◌, sym, ap, inl, inr, eq-zero-or-pos, mul-le-mul_left, pow-suc, arith}
use native.Mathlib.Nat.{lt_of_mul-lt-mul_left, pow-zero, one-le-pow, lt-mul-div-succ}
use Rattle.std.proofs.lemmas.Bool.{cases_Bool}

-- from the numbers, after k steps, to the limit
over : (B k L d P H R w v : ℕ) → v ≡ L + d → P * v ≤ B * (H + R) → k * R ≤ P * w → B * w < d * k → 1 ≤ P → L * P < B * H
over B k L d P H R w v e a b c p = lt_of_mul-lt-mul_left k
    (omega (arith, mul-le-mul_left k a, mul-le-mul_left B b, mul-le-mul_left P c, ap (λ z. k * (P * z)) e))

-- the chance of a bad state within k steps
abbrev pub hits_of : ℕ → (ℕ → Bool) → ((ℕ → ℕ) → ℕ → ℕ) → ℕ → ℕ → ℕ
hits_of M bad step zero s = cond (bad s) 1 0
hits_of M bad step (suc k) s = cond (bad s) (M ^ suc k) (step (hits_of M bad step k) s)

module _ (n M : ℕ) (bad : ℕ → Bool) (step : (ℕ → ℕ) → ℕ → ℕ)
    (mono : (f g : ℕ → ℕ) → ((t : ℕ) → t < n → f t ≤ g t) → (s : ℕ) → s < n → step f s ≤ step g s)
    (scale : (m : ℕ) (f : ℕ → ℕ) (s : ℕ) → step (λ t. m * f t) s ≡ m * step f s)
    (plus : (f g : ℕ → ℕ) (s : ℕ) → step (λ t. f t + g t) s ≡ step f s + step g s)
    (sums : (s : ℕ) → s < n → step (λ _. 1) s ≡ M) where
  abbrev hits : ℕ → ℕ → ℕ
  hits = hits_of M bad step

  hits_bad : (k s : ℕ) → bad s ≡ true → hits k s ≡ M ^ k
  hits_bad zero s e = rw e (sym (pow-zero M))
  hits_bad (suc k) s e = rw e

  hits_step : (k s : ℕ) → bad s ≡ false → hits (suc k) s ≡ step (hits k) s
  hits_step k s e = rw e

  -- m f ≤ l g below n, so m step f ≤ l step g
  push : (m l : ℕ) (f g : ℕ → ℕ) → ((t : ℕ) → t < n → m * f t ≤ l * g t) → (s : ℕ) → s < n → m * step f s ≤ l * step g s
  push m l f g h s i = omega (arith, scale m f s, scale l g s, mono (λ t. m * f t) (λ t. l * g t) h s i)

  module _ (B : ℕ) (v : ℕ → ℕ) (full : (s : ℕ) → s < n → bad s ≡ true → v s ≡ B) where
    pub safe : ((s : ℕ) → s < n → bad s ≡ false → step v s ≤ v s * M) → (k s : ℕ) → s < n → B * hits_of M bad step k s ≤ M ^ k * v s
    safe most zero s h = elim (cases_Bool (bad s)) [ inl e ↦ rw (hits_bad 0 s e, full s h e) (omega arith) | inr e ↦ rw e (omega arith) ]
    safe most (suc k) s h = elim (cases_Bool (bad s)) [
      | inl e ↦ rw (hits_bad (suc k) s e, full s h e) (omega arith)
      | inr e ↦ rw (hits_step k s e, pow-suc M k) (omega (arith, push B (M ^ k) (hits k) v (safe most k) s h, mul-le-mul_left (M ^ k) (most s h e)))
    ]

    -- 1 at the states that are on the way: not bad, and with a positive number
    abbrev on : ℕ → ℕ
    on s = cond (bad s) 0 (min 1 (v s))

    -- the chance to be on the way all the time
    abbrev left : ℕ → ℕ → ℕ
    left zero s = on s
    left (suc k) s = on s * step (left k) s

    kinds : (s : ℕ) → s < n → ((on s ≡ 0) × ((k : ℕ) → M ^ k * v s ≤ B * hits k s)) ⊎ ((on s ≡ 1) × (bad s ≡ false) × (0 < v s))
    kinds s h = elim (cases_Bool (bad s)) [
      | inl e ↦ inl (rw e, λ k. rw (hits_bad k s e, full s h e) (omega arith))
      | inr e ↦ elim (eq-zero-or-pos (v s)) [ inl z ↦ inl (rw e (omega arith), λ k. rw z (omega arith)) | inr p ↦ inr (rw e (omega arith), e, p) ]
    ]

    module _ (most : (s : ℕ) → s < n → v s ≤ B) (least : (s : ℕ) → s < n → bad s ≡ false → 0 < v s → v s * M ≤ step v s) where
      -- the number of a state is at most the chance of a bad state plus that of still being on the way
      kept : (k s : ℕ) → s < n → M ^ k * v s ≤ B * (hits k s + left k s)
      kept zero s h = elim (kinds s h) [ inl e ↦ omega (arith, e.1 0) | inr e ↦ rw (e.0, pow-zero) (omega (arith, most s h)) ]
      kept (suc k) s h = elim (kinds s h) [
        | inl e ↦ omega (arith, e.1 (suc k))
        | inr e ↦ rw (hits_step k s e.1, e.0, pow-suc M k) (let p = push (M ^ k) B v (λ t. hits k t + left k t) (kept k) s h in
            omega (arith, p, ap (λ z. B * z) (plus (hits k) (left k) s), mul-le-mul_left (M ^ k) (least s h e.1 e.2)))
      ]

      -- that chance is at most 1
      little_step : (k : ℕ) → ((s : ℕ) → s < n → 1 * left k s ≤ M ^ k * 1) → (s : ℕ) → s < n → step (left k) s ≤ M ^ k * M
      little_step k few s h = omega (arith, push 1 (M ^ k) (left k) (λ _. 1) few s h, ap (λ z. M ^ k * z) (sums s h))

      little : (k s : ℕ) → s < n → 1 * left k s ≤ M ^ k * 1
      little zero s h = elim (kinds s h) [ inl e ↦ rw e.0 (omega arith) | inr e ↦ rw (e.0, pow-zero) (omega arith) ]
      little (suc k) s h = elim (kinds s h) [ inl e ↦ rw e.0 (omega arith) | inr e ↦ rw (e.0, pow-suc M k) (omega (arith, little_step k (little k) s h)) ]

      module _ (w : ℕ → ℕ) (steps : (s : ℕ) → s < n → bad s ≡ false → 0 < v s → M + step w s ≤ w s * M) where
        -- and at most w over the number of steps made
        waits : (k s : ℕ) → s < n → k * left k s ≤ M ^ k * w s
        waits zero s h = omega arith
        waits (suc k) s h = elim (kinds s h) [
          | inl e ↦ rw e.0 (omega arith)
          | inr e ↦ rw (e.0, pow-suc M k)
              (omega (arith, push k (M ^ k) (left k) w (waits k) s h, little_step k (little k) s h, mul-le-mul_left (M ^ k) (steps s h e.1 e.2)))
        ]

        pub unsafe : 0 < M → (L s : ℕ) → s < n → L < v s → L * M ^ (B * w s / (v s - L) + 1) < B * hits_of M bad step (B * w s / (v s - L) + 1) s
        unsafe positive L s h l = let k = B * w s / (v s - L) + 1 in
            over B k L (v s - L) (M ^ k) (hits k s) (left k s) (w s) (v s) (omega arith) (kept k s h) (waits k s h) (lt-mul-div-succ (B * w s) (omega arith)) (one-le-pow k M positive)
