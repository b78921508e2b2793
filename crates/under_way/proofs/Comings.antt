-- A frame's first blocks.
use Rattle.std.proofs.Common.{◌≡◌, ℕ, ◌+◌, ◌-◌, ◌*◌, ◌<◌, ◌≤◌, Bool, true, false, List, [], ◌∷◌, ◌++◌, length, take, Ok, Err, Some, None, Result, refl, sym, ap, ◌∙◌, arith, eqb}
use Rattle.std.proofs.lemmas.List.{length-take-le, take_all}
use Rattle.std.proofs.lemmas.Bool.{cond-false, cond-true, eq-eqb, ne_eqb}
use Rattle.std.proofs.lemmas.Bool.Decides.{nat_tests}
use Rattle.bits.specs.Splices.{splice}
use Rattle.block.specs.declared.Block.{Block}
use Rattle.block.specs.declared.Class.{Class}
use Rattle.block.specs.declared.Class.TheVariants.{Data, Idle, Characters, OrderedSet, Start, End, Unlawful}
use Rattle.block.specs.declared.Sync.{Sync}
use Rattle.block.specs.declared.Sync.TheVariants.{Zeros, Control, Data as DataSync, Ones}
use Rattle.block.specs.Classes.{class_of}
use Rattle.block.proofs.Classes.{classes_told}
use Rattle.block.specs.Fixed.{start_block}
use Rattle.frame.specs.Frames.{frame_of, carried_after, with_data}
use Rattle.frame.specs.Places.{is_data_place}
use Rattle.frame.proofs.Frames.{frame_length}
use Rattle.frame.proofs.Steps.{closes, grows, opens}
use Rattle.frame.proofs.Storing.{none_stored, stored_data}
use Rattle.under_way.specs.Coming.{blocks_after, finish_answer, grow_answer, is_data, is_full_end, frame_if_whole}
use Rattle.under_way.specs.declared.incoming.Misfit.{Misfit}
use Rattle.under_way.specs.declared.incoming.Misfit.TheVariants.{OtherClass, OtherPlace}

pub count_is : (F : List ℕ) (n : ℕ) → n ≤ 992 → length (take n (frame_of F)) ≡ n
count_is F n h = length-take-le n (frame_of F) (omega (arith, frame_length F))

-- so the list tells how many there are
pub counted : (F : List ℕ) (n : ℕ) (bs : List Block) → n ≤ 992 → take n (frame_of F) ≡ bs → n ≡ length bs
counted F n bs h e = sym (count_is F n h) ∙ ap (λ (l : List Block). length l) e

pub begun : (F : List ℕ) → take 1 (frame_of F) ≡ start_block ∷ []
begun F = opens F

-- ---- the classes that go on with a frame
data_told : (c : Class) → is_data c ≡ true → c ≡ Data
data_told Data e = refl
data_told Idle e = cc
data_told Characters e = cc
data_told OrderedSet e = cc
data_told Start e = cc
data_told (End n) e = cc
data_told Unlawful e = cc

end_told : (c : Class) → is_full_end c ≡ true → c ≡ End 7
end_told Data e = cc
end_told Idle e = cc
end_told Characters e = cc
end_told OrderedSet e = cc
end_told Start e = cc
end_told (End n) e = let s : n ≡ 7 = grind (arith, nat_tests) in ap End s
end_told Unlawful e = cc

other_by_sync : (b : Block) (s : Sync) → b.sync ≡ s → (s ≡ DataSync → ⊥) → is_data (class_of b) ≡ false
other_by_sync b s e h = go (is_data (class_of b)) refl
  where
    go : (p : Bool) → is_data (class_of b) ≡ p → is_data (class_of b) ≡ false
    go true d = absurd (h (sym e ∙ (classes_told b Data).0 (data_told (class_of b) d)))
    go false d = d

-- the sync bits tell a data block
pub data_by_sync : (b : Block) → (elim b.sync [ Zeros ↦ false | Control ↦ false | DataSync ↦ true | Ones ↦ false ]) ≡ is_data (class_of b)
data_by_sync b = by_sync b.sync refl
  where
    by_sync : (s : Sync) → b.sync ≡ s → (elim s [ Zeros ↦ false | Control ↦ false | DataSync ↦ true | Ones ↦ false ]) ≡ is_data (class_of b)
    by_sync Zeros e = sym (other_by_sync b Zeros e (λ z. cc))
    by_sync Control e = sym (other_by_sync b Control e (λ z. cc))
    by_sync DataSync e = sym (ap is_data ((classes_told b Data).1 e))
    by_sync Ones e = sym (other_by_sync b Ones e (λ z. cc))

-- ---- a data block
pub other_class : (here : List Block) (b : Block) → is_data (class_of b) ≡ false → grow_answer here b ≡ Err OtherClass
other_class here b e = cond-false (is_data (class_of b)) _ _ e

pub other_place : (here : List Block) (b : Block) (n : ℕ) → n ≡ length here → is_data (class_of b) ≡ true → is_data_place (n + 1) ≡ false
    → grow_answer here b ≡ Err OtherPlace
other_place here b n c e h =
    let at : is_data_place (length here + 1) ≡ false = ap (λ (m : ℕ). is_data_place (m + 1)) (sym c) ∙ h in
    cond-true (is_data (class_of b)) _ _ e ∙ cond-false (is_data_place (length here + 1)) _ _ at

pub fits_next : (here : List Block) (b : Block) (n : ℕ) → n ≡ length here → is_data (class_of b) ≡ true → is_data_place (n + 1) ≡ true
    → grow_answer here b ≡ Ok tt
fits_next here b n c e h =
    let at : is_data_place (length here + 1) ≡ true = ap (λ (m : ℕ). is_data_place (m + 1)) (sym c) ∙ h in
    cond-true (is_data (class_of b)) _ _ e ∙ cond-true (is_data_place (length here + 1)) _ _ at

data_places : (n : ℕ) → is_data_place (n + 1) ≡ true → (1 ≤ n) × (n ≤ 990)
data_places n h = (grind (arith, nat_tests), grind (arith, nat_tests))

pub grown : (F G : List ℕ) (n : ℕ) (here : List Block) (b : Block) → length F ≡ 7927 → n ≤ 992 → take n (frame_of F) ≡ here
    → is_data (class_of b) ≡ true → is_data_place (n + 1) ≡ true → length b.bytes ≡ 8 → G ≡ with_data (n + 1) b.bytes F
    → take (n + 1) (frame_of G) ≡ blocks_after (grow_answer here b) here b
grown F G n here b long h e load at eight put =
    let c : n ≡ length here = counted F n here h e in
    let d : (1 ≤ n) × (n ≤ 990) = data_places n at in
    let kept : G ≡ carried_after (n + 1) b.bytes F =
    put ∙ cond-true (is_data_place (n + 1)) (splice (8 * (n + 1 - 2)) b.bytes F) F at
    ∙ sym (stored_data (n + 1) b.bytes F (λ z. omega arith) (λ z. omega arith)) in
    ap (λ (l : List ℕ). take (n + 1) (frame_of l)) kept
    ∙ grows F n b long d.0 d.1 eight (data_told (class_of b) load)
    ∙ ap (λ (l : List Block). l ++ (b ∷ [])) e
    ∙ sym (ap (λ (r : Result Unit Misfit). blocks_after r here b) (fits_next here b n c load at))

pub not_grown : (F G : List ℕ) (n : ℕ) (here : List Block) (b : Block) → n ≤ 992 → take n (frame_of F) ≡ here
    → is_data (class_of b) ≡ true → is_data_place (n + 1) ≡ false → G ≡ with_data (n + 1) b.bytes F
    → take n (frame_of G) ≡ blocks_after (grow_answer here b) here b
not_grown F G n here b h e load at put =
    let c : n ≡ length here = counted F n here h e in
    ap (λ (l : List ℕ). take n (frame_of l)) (none_stored (n + 1) b.bytes G F put at)
    ∙ e ∙ sym (ap (λ (r : Result Unit Misfit). blocks_after r here b) (other_place here b n c load at))

-- ---- the end
pub no_end : (here : List Block) (b : Block) → is_full_end (class_of b) ≡ false → finish_answer here b ≡ Err OtherClass
no_end here b e = cond-false (is_full_end (class_of b)) _ _ e

pub too_early : (here : List Block) (b : Block) (n : ℕ) → n ≡ length here → is_full_end (class_of b) ≡ true → (n ≡ 991 → ⊥)
    → finish_answer here b ≡ Err OtherPlace
too_early here b n c e h =
    let at : eqb (length here) 991 ≡ false = ne_eqb (length here) 991 (λ z. h (c ∙ z)) in
    cond-true (is_full_end (class_of b)) _ _ e ∙ cond-false (eqb (length here) 991) _ _ at

pub ends_next : (here : List Block) (b : Block) → length here ≡ 991 → is_full_end (class_of b) ≡ true → finish_answer here b ≡ Ok tt
ends_next here b c e = cond-true (is_full_end (class_of b)) _ _ e ∙ cond-true (eqb (length here) 991) _ _ (eq-eqb (length here) 991 c)

pub finished : (F G : List ℕ) (n : ℕ) (here : List Block) (b : Block) → length F ≡ 7927 → n ≡ 991 → take n (frame_of F) ≡ here
    → is_full_end (class_of b) ≡ true → length b.bytes ≡ 8 → G ≡ carried_after 992 b.bytes F
    → take 992 (frame_of G) ≡ blocks_after (finish_answer here b) here b
finished F G n here b long last e end eight put =
    let c : length here ≡ 991 = sym (counted F n here (omega arith) e) ∙ last in
    take_all 992 (frame_of G) (omega (arith, frame_length G))
    ∙ ap frame_of put
    ∙ closes F b long eight (end_told (class_of b) end)
    ∙ ap (λ (l : List Block). l ++ (b ∷ [])) (ap (λ (m : ℕ). take m (frame_of F)) (sym last) ∙ e)
    ∙ sym (ap (λ (r : Result Unit Misfit). blocks_after r here b) (ends_next here b c end))

-- ---- the whole
pub not_whole : (F : List ℕ) (n : ℕ) (here : List Block) → n < 992 → take n (frame_of F) ≡ here → None ≡ frame_if_whole here
not_whole F n here h e =
    let c : n ≡ length here = counted F n here (omega arith) e in
    sym (cond-false (eqb (length here) 992) (Some here) None (ne_eqb (length here) 992 (λ z. omega arith)))

pub is_whole : (F : List ℕ) (n : ℕ) (here : List Block) → n ≤ 992 → 992 ≤ n → take n (frame_of F) ≡ here → Some (frame_of F) ≡ frame_if_whole here
is_whole F n here h k e =
    let c : n ≡ length here = counted F n here h e in
    let all : frame_of F ≡ here = sym (take_all n (frame_of F) (omega (arith, frame_length F))) ∙ e in
    ap Some all ∙ sym (cond-true (eqb (length here) 992) (Some here) None (eq-eqb (length here) 992 (omega arith)))

-- a refusal leaves the blocks
pub after_refusal : (here : List Block) (b : Block) (r : Result Unit Misfit) (e : Misfit) → r ≡ Err e → here ≡ blocks_after r here b
after_refusal here b r e h = sym (ap (λ (x : Result Unit Misfit). blocks_after x here b) h)
