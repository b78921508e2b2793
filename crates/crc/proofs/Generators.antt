-- The two generators: what is asked of a detecting generator, computed. The order of x is tested power by power.
use Rattle.std.proofs.Common.{◌≡◌, ℕ, zero, suc, ◌+◌, ◌<◌, Bool, true, false, cond, T, eqb, sym, refl, ap, ◌∙◌, subst, add-zero, arith}
use Rattle.std.specs.Int.Count.{ones, ones_in}
use Rattle.crc.specs.Remainder.{step, reduce}
use Rattle.crc.specs.Laws.{power, IsDetecting, KnownRemainders}

-- none of r, r x, .. r x ^ (m - 1) is 1
unfoldable apart : ℕ → ℕ → ℕ → ℕ → Bool
unfolding step
apart w G r zero = true
apart w G r (suc m) = cond (eqb r 1) false (apart w G (step w G r false) m)

one_test : (r : ℕ) (b : Bool) → T (cond (eqb r 1) false b) → (r ≡ 1 → ⊥) × T b
one_test r b t = go (eqb r 1) refl t
  where
    go : (c : Bool) → eqb r 1 ≡ c → T (cond c false b) → (r ≡ 1 → ⊥) × T b
    go true e t = absurd t
    go false e t = ((λ k. subst T (ap (λ (x : ℕ). eqb x 1) (sym k) ∙ e) tt), t)

none : (w G i m k : ℕ) → T (apart w G (power w G i) m) → k < m → power w G (i + k) ≡ 1 → ⊥
unfolding apart
none w G i zero k t h e = absurd (omega arith)
none w G i (suc m) zero t h e =
    (one_test (power w G i) (apart w G (power w G (suc i)) m) t).0 (ap (power w G) (sym (add-zero i)) ∙ e)
none w G i (suc m) (suc k) t h e =
    none w G (suc i) m k (one_test (power w G i) (apart w G (power w G (suc i)) m) t).1 (omega arith)
    (ap (power w G) (let s : suc i + k ≡ i + suc k = omega arith in s) ∙ e)

order : (w G m k : ℕ) → T (apart w G (power w G 1) m) → 0 < k → k < suc m → power w G k ≡ 1 → ⊥
order w G m zero t h l e = absurd (omega arith)
order w G m (suc k) t h l e = none w G 1 m k t (omega arith) (ap (power w G) (let s : 1 + k ≡ suc k = omega arith in s) ∙ e)

pub seven : IsDetecting 7 0xB7 63
unfolding ones ones_in step reduce apart
seven = record { degree = refl; constant = refl; even = refl; order = λ k. order 7 0xB7 62 k tt }

pub twelve : IsDetecting 12 0x180F 2047
unfolding ones ones_in step reduce apart
twelve = record { degree = refl; constant = refl; even = refl; order = λ k. order 12 0x180F 2046 k tt }

pub known : KnownRemainders
unfolding step reduce
known = record { seven = refl; twelve = refl }
