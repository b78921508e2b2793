-- Which item stands where, and where alone.
use Rattle.std.proofs.Common.{◌≡◌, ℕ, ◌+◌, ◌-◌, ◌*◌, ◌/◌, ◌%◌, ◌<◌, ◌≤◌, ◌≢◌, ◌⊎◌, inl, inr, refl, ap, ◌∙◌, arith}
use Rattle.std.proofs.lemmas.Bool.{eq-eqb, ne_eqb, le-leb, lt-leb, cases_eq, cases_lt}
use Rattle.schedule.specs.declared.Item.TheVariants.{Frame, Idle, Basic, Protection, Verification, ClientSignal, Delay, Spare}
use Rattle.schedule.specs.Cycle.{item_at, item_in, basic_mark, low_priority, opportunity_number}

pub item_in_place : (c p : ℕ) → p < 65 → item_at (65 * c + p) ≡ item_in c p
unfolding item_at
item_in_place c p h =
    let e : (65 * c + p) / 65 ≡ c = omega arith in
    let f : (65 * c + p) % 65 ≡ p = omega arith in
    rw (e, f) refl

-- by place and cycle
pub frame_in : (c p : ℕ) → p % 2 ≡ 0 → item_in c p ≡ Frame
frame_in c p h = let e = eq-eqb (p % 2) 0 h in rw e refl

pub idle_in : (c p : ℕ) → p % 2 ≡ 1 → (p ≢ 1) → (p ≢ 35) → item_in c p ≡ Idle
idle_in c p h a b =
    let e = ne_eqb (p % 2) 0 (λ z. omega arith) in
    let f = ne_eqb p 1 a in
    let g = ne_eqb p 35 b in
    rw (e, f, g) refl

pub protection_in : (c : ℕ) → c % 2 ≡ 0 → item_in c 35 ≡ Protection
protection_in c h = let e = eq-eqb (c % 2) 0 h in rw e refl

pub low_in : (c : ℕ) → c % 2 ≡ 1 → item_in c 35 ≡ low_priority (opportunity_number c)
low_in c h = let e = ne_eqb (c % 2) 0 (λ z. omega arith) in rw e refl

pub verification_low : (n : ℕ) → n ≤ 17 → low_priority n ≡ Verification (n - 1)
verification_low n h = let e = le-leb n 17 h in rw e refl

pub signal_low : (n : ℕ) → n ≡ 18 → low_priority n ≡ ClientSignal
signal_low n h = rw h refl

pub delay_low : (n : ℕ) → 19 ≤ n → n ≤ 31 → low_priority n ≡ Delay (n - 19)
delay_low n h k =
    let e = lt-leb n 17 (omega arith) in
    let f = ne_eqb n 18 (λ z. omega arith) in
    let g = le-leb n 31 k in
    rw (e, f, g) refl

pub spare_low : (n : ℕ) → 32 ≤ n → low_priority n ≡ Spare
spare_low n h =
    let e = lt-leb n 17 (omega arith) in
    let f = ne_eqb n 18 (λ z. omega arith) in
    let g = lt-leb n 31 (omega arith) in
    rw (e, f, g) refl

-- what stands at item i, with its place
pub data At (i : ℕ) : Type 0 where
  a_frame : i % 65 % 2 ≡ 0 → item_at i ≡ Frame → At i
  a_basic : i % 65 ≡ 1 → item_at i ≡ Basic (basic_mark (i / 65)) → At i
  an_idle : i % 65 % 2 ≡ 1 → item_at i ≡ Idle → At i
  a_protection : i % 65 ≡ 35 → i / 65 % 2 ≡ 0 → item_at i ≡ Protection → At i
  a_verification : i % 65 ≡ 35 → i / 65 % 2 ≡ 1 → opportunity_number (i / 65) ≤ 17 → item_at i ≡ Verification (opportunity_number (i / 65) - 1) → At i
  a_signal : i % 65 ≡ 35 → i / 65 % 2 ≡ 1 → opportunity_number (i / 65) ≡ 18 → item_at i ≡ ClientSignal → At i
  a_delay : i % 65 ≡ 35 → i / 65 % 2 ≡ 1 → 19 ≤ opportunity_number (i / 65) → opportunity_number (i / 65) ≤ 31 → item_at i ≡ Delay (opportunity_number (i / 65) - 19) → At i
  a_spare : i % 65 ≡ 35 → i / 65 % 2 ≡ 1 → 32 ≤ opportunity_number (i / 65) → item_at i ≡ Spare → At i

module _ (i : ℕ) where
  pub at_frame : i % 65 % 2 ≡ 0 → item_at i ≡ Frame
  unfolding item_at
  at_frame h = frame_in (i / 65) (i % 65) h

  pub at_basic : i % 65 ≡ 1 → item_at i ≡ Basic (basic_mark (i / 65))
  unfolding item_at
  at_basic h = ap (item_in (i / 65)) h

  pub at_idle : i % 65 % 2 ≡ 1 → (i % 65 ≢ 1) → (i % 65 ≢ 35) → item_at i ≡ Idle
  unfolding item_at
  at_idle h a b = idle_in (i / 65) (i % 65) h a b

  pub at_protection : i % 65 ≡ 35 → i / 65 % 2 ≡ 0 → item_at i ≡ Protection
  unfolding item_at
  at_protection h k = ap (item_in (i / 65)) h ∙ protection_in (i / 65) k

  pub at_low : i % 65 ≡ 35 → i / 65 % 2 ≡ 1 → item_at i ≡ low_priority (opportunity_number (i / 65))
  unfolding item_at
  at_low h k = ap (item_in (i / 65)) h ∙ low_in (i / 65) k

  low_view : i % 65 ≡ 35 → i / 65 % 2 ≡ 1 → At i
  low_view h k = by (cases_lt 17 (opportunity_number (i / 65))) (cases_eq (opportunity_number (i / 65)) 18) (cases_lt 31 (opportunity_number (i / 65)))
    where
      by : (17 < opportunity_number (i / 65)) ⊎ (opportunity_number (i / 65) ≤ 17) → (opportunity_number (i / 65) ≡ 18) ⊎ (opportunity_number (i / 65) ≡ 18 → ⊥) → (31 < opportunity_number (i / 65)) ⊎ (opportunity_number (i / 65) ≤ 31) → At i
      by (inr a) b c = a_verification h k a (at_low h k ∙ verification_low (opportunity_number (i / 65)) a)
      by (inl a) (inl b) c = a_signal h k b (at_low h k ∙ signal_low (opportunity_number (i / 65)) b)
      by (inl a) (inr b) (inr c) = a_delay h k (omega arith) c (at_low h k ∙ delay_low (opportunity_number (i / 65)) (omega arith) c)
      by (inl a) (inr b) (inl c) = a_spare h k (omega arith) (at_low h k ∙ spare_low (opportunity_number (i / 65)) (omega arith))

  pub view : At i
  view = by (cases_eq (i % 65 % 2) 0) (cases_eq (i % 65) 1) (cases_eq (i % 65) 35) (cases_eq (i / 65 % 2) 0)
    where
      by : (i % 65 % 2 ≡ 0) ⊎ (i % 65 % 2 ≡ 0 → ⊥) → (i % 65 ≡ 1) ⊎ (i % 65 ≡ 1 → ⊥) → (i % 65 ≡ 35) ⊎ (i % 65 ≡ 35 → ⊥) → (i / 65 % 2 ≡ 0) ⊎ (i / 65 % 2 ≡ 0 → ⊥) → At i
      by (inl a) b c d = a_frame a (at_frame a)
      by (inr a) (inl b) c d = a_basic b (at_basic b)
      by (inr a) (inr b) (inr c) d = let o : i % 65 % 2 ≡ 1 = omega arith in an_idle o (at_idle o b c)
      by (inr a) (inr b) (inl c) (inl d) = a_protection c d (at_protection c d)
      by (inr a) (inr b) (inl c) (inr d) = low_view c (omega arith)
