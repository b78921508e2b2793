-- At which opportunity the next block of a message goes.
use Rattle.std.proofs.Common.{◌≡◌, ℕ, ◌+◌, ◌-◌, ◌*◌, ◌/◌, ◌%◌, ◌<◌, ◌≤◌, true, false, sym, refl, ap, ◌∙◌, arith}
use Rattle.std.proofs.lemmas.Bool.{eqb-true, eq-eqb, both_ways}
use Rattle.schedule.specs.declared.Item.TheVariants.{Delay}
use Rattle.schedule.specs.Cycle.{item_at, low_priority_item, protection_item, round_items, opportunity_number}
use Rattle.schedule.proofs.Items.{At, a_frame, a_basic, an_idle, a_protection, a_verification, a_signal, a_delay, a_spare, view}
use Rattle.schedule.proofs.Counts.{delay_here, protection_here}
use Rattle.waiting.specs.declared.Sort.{Sort}
use Rattle.waiting.specs.declared.Sort.TheVariants.{Delay as delays, Protection as protections}
use Rattle.sending.specs.MessageLaws.{opportunity_item, first_start, longest_wait, FirstStarts}
use Rattle.sending.proofs.Codes.{most_blocks}
use Rattle.sending.proofs.Gaps.{due}

-- the opportunity at which the next block goes of a message of which so many are gone, once n items have begun
abbrev pub next : Sort → ℕ → ℕ → ℕ
next delays gone n = 13 * ((n + 5879 - 130 * gone) / 8320) + gone
next protections gone n = (n + 94) / 130

pub next_first : (q : Sort) (n : ℕ) → next q 0 n ≡ first_start q n
next_first delays n = omega arith
next_first protections n = refl

-- where the next block goes
delay_place : (n gone : ℕ) → At n → due delays (item_at n) gone ≡ true → (gone ≤ 12) × (n ≡ low_priority_item (n / round_items) (19 + gone))
delay_place n g (a_frame h e) t = absurd (both_ways (due delays (item_at n) g) (ap (λ x. due delays x g) e) t)
delay_place n g (a_basic h e) t = absurd (both_ways (due delays (item_at n) g) (ap (λ x. due delays x g) e) t)
delay_place n g (an_idle h e) t = absurd (both_ways (due delays (item_at n) g) (ap (λ x. due delays x g) e) t)
delay_place n g (a_protection h k e) t = absurd (both_ways (due delays (item_at n) g) (ap (λ x. due delays x g) e) t)
delay_place n g (a_verification h k a e) t = absurd (both_ways (due delays (item_at n) g) (ap (λ x. due delays x g) e) t)
delay_place n g (a_signal h k a e) t = absurd (both_ways (due delays (item_at n) g) (ap (λ x. due delays x g) e) t)
delay_place n g (a_delay h k a b e) t =
    let x : opportunity_number (n / 65) - 19 ≡ g = eqb-true (opportunity_number (n / 65) - 19) g (sym (ap (λ x. due delays x g) e) ∙ t) in
    (omega arith, omega arith)
delay_place n g (a_spare h k a e) t = absurd (both_ways (due delays (item_at n) g) (ap (λ x. due delays x g) e) t)

protection_place : (n gone : ℕ) → At n → due protections (item_at n) gone ≡ true → n ≡ protection_item (n / 130)
protection_place n g (a_frame h e) t = absurd (both_ways (due protections (item_at n) g) (ap (λ x. due protections x g) e) t)
protection_place n g (a_basic h e) t = absurd (both_ways (due protections (item_at n) g) (ap (λ x. due protections x g) e) t)
protection_place n g (an_idle h e) t = absurd (both_ways (due protections (item_at n) g) (ap (λ x. due protections x g) e) t)
protection_place n g (a_protection h k e) t = omega arith
protection_place n g (a_verification h k a e) t = absurd (both_ways (due protections (item_at n) g) (ap (λ x. due protections x g) e) t)
protection_place n g (a_signal h k a e) t = absurd (both_ways (due protections (item_at n) g) (ap (λ x. due protections x g) e) t)
protection_place n g (a_delay h k a b e) t = absurd (both_ways (due protections (item_at n) g) (ap (λ x. due protections x g) e) t)
protection_place n g (a_spare h k a e) t = absurd (both_ways (due protections (item_at n) g) (ap (λ x. due protections x g) e) t)

-- an item at which it does not go leaves its opportunity
delay_kept : (n g : ℕ) → g < 13 → (n ≡ low_priority_item (n / round_items) (19 + g) → ⊥) → next delays g (n + 1) ≡ next delays g n
delay_kept n g h f = let e : (n + 1 + 5879 - 130 * g) / 8320 ≡ (n + 5879 - 130 * g) / 8320 = omega arith in ap (λ r. 13 * r + g) e

protection_kept : (n : ℕ) → (n ≡ protection_item (n / 130) → ⊥) → (n + 1 + 94) / 130 ≡ (n + 94) / 130
protection_kept n f = omega arith

delay_due : (n g : ℕ) → g < 13 → n ≡ low_priority_item (n / round_items) (19 + g) → due delays (item_at n) g ≡ true
delay_due n g h e =
    let x : item_at n ≡ Delay (19 + g - 19) = delay_here n (19 + g) (omega arith) (omega arith) (n / round_items) e in
    ap (λ y. due delays y g) x ∙ eq-eqb (19 + g - 19) g (omega arith)

protection_due : (n g : ℕ) → n ≡ protection_item (n / 130) → due protections (item_at n) g ≡ true
protection_due n g e = ap (λ y. due protections y g) (protection_here n (n / 130) e)

pub next_kept : (q : Sort) (g n : ℕ) → g < most_blocks q → due q (item_at n) g ≡ false → next q g (n + 1) ≡ next q g n
next_kept delays g n h f = delay_kept n g h (λ e. both_ways (due delays (item_at n) g) f (delay_due n g h e))
next_kept protections g n h f = protection_kept n (λ e. both_ways (due protections (item_at n) g) f (protection_due n g e))

-- the item at which it goes is that opportunity's, and the block behind it goes at the next
delay_row : (r g : ℕ) → g < 13 → opportunity_item delays (13 * r + g) ≡ low_priority_item r (19 + g)
delay_row r g h =
    let a : (13 * r + g) / 13 ≡ r = omega arith in
    let b : (13 * r + g) % 13 ≡ g = omega arith in
    rw (a, b) refl

pub next_here : (q : Sort) (g n : ℕ) → due q (item_at n) g ≡ true → opportunity_item q (next q g n) ≡ n
next_here delays g n t =
    let p = delay_place n g (view n) t in
    let r : (n + 5879 - 130 * g) / 8320 ≡ n / round_items = omega (arith, p.0, p.1) in
    delay_row ((n + 5879 - 130 * g) / 8320) g (omega (arith, p.0)) ∙ ap (λ r. low_priority_item r (19 + g)) r ∙ sym p.1
next_here protections g n t =
    let p = protection_place n g (view n) t in
    let r : (n + 94) / 130 ≡ n / 130 = omega (arith, p) in
    ap protection_item r ∙ sym p

pub next_more : (q : Sort) (g n : ℕ) → g + 1 < most_blocks q → due q (item_at n) g ≡ true → next q (g + 1) (n + 1) ≡ next q g n + 1
next_more delays g n h t =
    let p = delay_place n g (view n) t in
    let r : (n + 1 + 5879 - 130 * (g + 1)) / 8320 ≡ (n + 5879 - 130 * g) / 8320 = omega (arith, p.0, p.1) in
    omega (arith, ap (λ r. 13 * r) r)
next_more protections g n h t =
    let p = protection_place n g (view n) t in
    omega (arith, p)

-- it is to come, and those behind it too
pub next_to_come : (q : Sort) (g n : ℕ) → g < most_blocks q → n ≤ opportunity_item q (next q g n)
next_to_come delays g n h =
    let e = delay_row ((n + 5879 - 130 * g) / 8320) g h in
    omega (arith, e)
next_to_come protections g n h = omega arith

pub rising : (q : Sort) (k : ℕ) → opportunity_item q k ≤ opportunity_item q (k + 1)
rising delays k = omega arith
rising protections k = omega arith

-- and it is not far
pub not_far : (q : Sort) (a n g j : ℕ) → next q g n ≡ first_start q a + g → g < most_blocks q → j < most_blocks q → opportunity_item q (first_start q a + j) < n + longest_wait q
not_far delays a n g j e h k =
    let r : (n + 5879 - 130 * g) / 8320 ≡ (a + 5879) / 8320 = omega arith in
    let f = delay_row ((a + 5879) / 8320) j k in
    omega (arith, f)
not_far protections a n g j e h k = omega arith

-- the first opportunity is the first
pub first_starts : FirstStarts
first_starts delays n = record {
  starts = eq-eqb (13 * ((n + 5879) / round_items) % 13) 0 (omega arith);
  to_come = omega (arith, next_to_come delays 0 n (omega arith));
  first = λ j h t. let z : j % 13 ≡ 0 = eqb-true (j % 13) 0 t in omega arith;
}
first_starts protections n = record { starts = refl; to_come = omega arith; first = λ j h t. omega arith }
