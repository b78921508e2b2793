-- Every item stands in its place.
use Rattle.std.proofs.Common.{◌≡◌, ℕ, zero, suc, ◌+◌, ◌*◌, Bool, true, false, cond, eqb, ◌⊎◌, List, [], ◌∷◌, ◌++◌, length, take, drop, sym, refl, ap, ◌∙◌, inl, inr, subst, append-nil, arith, length-append, length-drop, length-take}
use Rattle.std.proofs.lemmas.List.{length_push, take-append-drop}
use Rattle.std.proofs.lemmas.Bool.{cond-true, eq-eqb}
use Rattle.block.specs.declared.Block.{Block}
use Rattle.port.specs.Model.{Lists}
use Rattle.calendar.specs.Share.{slot_count}
use Rattle.sending.specs.Blocks.{without_idles}
use Rattle.schedule.specs.Cycle.{item_at, is_frame, frames_before}
use Rattle.schedule.specs.declared.Item.{Item}
use Rattle.schedule.specs.declared.Item.TheVariants.{Frame as FrameItem, Idle, Basic, Protection, Verification, ClientSignal, Delay, Spare}
use Rattle.schedule.proofs.Counts.{frames_more, frames_same, frame_even, frame_odd}
use Rattle.schedule.proofs.Items.{view}
use Rattle.waiting.specs.Messages.{message_to_send}
use Rattle.sending.specs.Laid.{pairs_for, room_for}
use Rattle.sending.specs.Sender.{SenderSetup, SenderState, frame_result, item_result, send_result_by, frame_due, frame_begins_by, accepted_message}
use Rattle.sending.specs.Life.{Life, LineItem, frame, gap, made, followed, send, leave, state_of, items_begun_by, items}
use Rattle.sending.specs.LineLaws.{Each, StandsInPlace, FrameStands, GapStands, ItemsInPlace, NoStart, GapsNeverStart, NoEnd, GapsNeverEnd, IdleOrMessage, blocks_of_items, frame_count, CyclesWhole}
use Rattle.sending.specs.ClientLaws.{FillsSlots, SlotsFilled, Carries, FramesCarry, blocks_given_for, TakesWaiting, GivenLeaves, OthersKeep}
use Rattle.sending.proofs.Frames.{length-frame_written}
use Rattle.sending.proofs.Codes.{basic_message, cv_sort, cs_sort, gap_no_start, gap_no_end}
use Rattle.sending.proofs.Steps.{Begins, a_frame, a_gap, begins, message_kept}
use Rattle.sending.proofs.Counts.{Counted, counted_none, due_item, counted_frame, counted_gap, counted_kept}
use Rattle.sending.proofs.Gaps.{Sound, sound_none, sound_item, sound_more, sound_leave, gap_stands}
use Rattle.sending.proofs.Carry.{fills, fills_empty, without_filled, left_frame}

pub each_push : (P : ℕ → LineItem → Type 0) (i : ℕ) (xs : List LineItem) (x : LineItem) → Each P i xs → P (i + length xs) x → Each P i (xs ++ (x ∷ []))
unfolding Each
each_push P i [] x u h = (subst (λ k. P k x) (omega arith) h, tt)
each_push P i (y ∷ xs) x (p, u) h = (p, each_push P (i + 1) xs x u (subst (λ k. P k x) (omega arith) h))

pub each_map : (P Q : ℕ → LineItem → Type 0) → ((i : ℕ) (x : LineItem) → P i x → Q i x) → (i : ℕ) (xs : List LineItem) → Each P i xs → Each Q i xs
unfolding Each
each_map P Q f i [] u = tt
each_map P Q f i (x ∷ xs) (p, u) = (f i x p, each_map P Q f (i + 1) xs u)

-- what a life keeps
pub record Standing (m : SenderSetup) (s : SenderState) (is : List LineItem) : Type 0 where
  pub counted : Counted s (length is)
  pub sound : Sound s
  pub stands : Each (StandsInPlace m) 0 is
  pub fills : Each (λ i x. FillsSlots m x) 0 is

length-pairs_for : (cal : List ℕ) (w : Lists) → length (pairs_for cal w) ≡ length cal
unfolding pairs_for
length-pairs_for [] w = refl
length-pairs_for (c ∷ cs) w = ap suc (length-pairs_for cs _)

pub frame_item : (x : Item) → is_frame x ≡ true → x ≡ FrameItem
frame_item FrameItem e = refl
frame_item Idle e = absurd (cc)
frame_item (Basic k) e = absurd (cc)
frame_item Protection e = absurd (cc)
frame_item (Verification j) e = absurd (cc)
frame_item ClientSignal e = absurd (cc)
frame_item (Delay j) e = absurd (cc)
frame_item Spare e = absurd (cc)

module _ (m : SenderSetup) (s : SenderState) (w : Lists) (is : List LineItem) (h : Standing m s is) where
  here : (x : LineItem) → StandsInPlace m (length is) x → StandsInPlace m (0 + length is) x
  here x p = let z : length is ≡ 0 + length is = omega arith in subst (λ k. StandsInPlace m k x) z p

  frame_stands : is_frame (item_at s.position) ≡ true → FrameStands m (length is) (frame_due m s w)
  unfolding frame_due
  frame_stands t = record {
    item = sym (due_item s (length is) h.counted) ∙ frame_item (item_at s.position) t;
    number = h.counted.number;
    entry = refl;
    many = length-pairs_for m.calendar w;
  }

  frame_fills : FillsSlots m (frame (frame_due m s w))
  unfolding frame_due
  frame_fills = (fills m.calendar w, fills_empty m.calendar w)

  begin_step : Begins m s w (item_at s.position) → Standing m (send_result_by m s w []).state (is ++ items_begun_by m s w [])
  begin_step (a_frame t g) = rw (t, g) (record {
    counted = rw (length_push is (frame (frame_due m s w))) (counted_frame m s w (length is) h.counted t);
    sound = rw (← g) (sound_item m s w (item_at s.position) h.sound);
    stands = each_push (StandsInPlace m) 0 is _ h.stands (here (frame (frame_due m s w)) (frame_stands t));
    fills = each_push (λ i x. FillsSlots m x) 0 is _ h.fills frame_fills;
  })
  begin_step (a_gap t g) = rw t (record {
    counted = rw (length_push is (gap (item_result m s w (item_at s.position)).block)) (counted_gap s w (length is) (item_result m s w (item_at s.position)) h.counted t g);
    sound = sound_item m s w (item_at s.position) h.sound;
    stands = each_push (StandsInPlace m) 0 is _ h.stands (here (gap (item_result m s w (item_at s.position)).block)
        (subst (GapStands m (item_result m s w (item_at s.position)).block) (due_item s (length is) h.counted) (gap_stands m s w (item_at s.position) h.sound t)));
    fills = each_push (λ i x. FillsSlots m x) 0 is _ h.fills tt;
  })

  send_step : (rest : List Block) → Standing m (send_result_by m s w rest).state (is ++ items_begun_by m s w rest)
  send_step [] = begin_step (begins m s w (item_at s.position))
  send_step (b ∷ bs) = rw (append-nil is) (record {
    counted = record { position = h.counted.position; number = h.counted.number };
    sound = sound_more s bs h.sound;
    stands = h.stands;
    fills = h.fills;
  })

pub standing : (m : SenderSetup) (l : Life) → Standing m (state_of m l) (items m l)
unfolding state_of items Each
standing m made = record { counted = counted_none; sound = sound_none; stands = tt; fills = tt }
standing m (followed l (send w)) = send_step m (state_of m l) w (items m l) (standing m l) (state_of m l).rest
standing m (followed l (leave k vs)) =
    let h : Standing m (state_of m l) (items m l) = standing m l in
    rw (append-nil (items m l)) (record {
      counted = counted_kept (state_of m l) _ (length (items m l)) h.counted (message_kept (state_of m l) (accepted_message (state_of m l) (message_to_send k vs)));
      sound = sound_leave (state_of m l) k vs h.sound;
      stands = h.stands;
      fills = h.fills;
    })

pub items_in_place : ItemsInPlace
items_in_place m l = (standing m l).stands

pub slots_filled : SlotsFilled
slots_filled m l = (standing m l).fills

filled_carries : (m : SenderSetup) (i : ℕ) (x : LineItem) → FillsSlots m x → Carries m x
filled_carries m i (frame f) h = λ k z. ap without_idles (h.0 k z) ∙ without_filled (f.given k) (room_for k m.calendar)
filled_carries m i (gap b) h = tt

pub frames_carry : FramesCarry
frames_carry m l = each_map (λ i x. FillsSlots m x) (λ i x. Carries m x) (filled_carries m) 0 (items m l) (standing m l).fills

-- no gap is a start block
gap_sort : (m : SenderSetup) (b : Block) (x : Item) → GapStands m b x → IdleOrMessage b
gap_sort m b FrameItem h = absurd h
gap_sort m b Idle h = inl h
gap_sort m b (Basic mark) h = subst IdleOrMessage (sym h) (inr (basic_message mark))
gap_sort m b Protection h = h
gap_sort m b (Verification j) h = subst IdleOrMessage (sym h) (cv_sort m.trail j)
gap_sort m b ClientSignal h = subst IdleOrMessage (sym h) cs_sort
gap_sort m b (Delay j) h = h
gap_sort m b Spare h = inl h

pub gap_idle_or_message : (m : SenderSetup) (i : ℕ) (b : Block) → StandsInPlace m i (gap b) → IdleOrMessage b
gap_idle_or_message m i b h = gap_sort m b (item_at i) h

stands_no_start : (m : SenderSetup) (i : ℕ) (x : LineItem) → StandsInPlace m i x → NoStart x
stands_no_start m i (frame f) h = tt
stands_no_start m i (gap b) h = gap_no_start b (gap_idle_or_message m i b h)

pub gaps_never_start : GapsNeverStart
gaps_never_start m l = each_map (StandsInPlace m) (λ i x. NoStart x) (stands_no_start m) 0 (items m l) (standing m l).stands

stands_no_end : (m : SenderSetup) (i : ℕ) (x : LineItem) → StandsInPlace m i x → NoEnd x
stands_no_end m i (frame f) h = tt
stands_no_end m i (gap b) h = gap_no_end b (gap_idle_or_message m i b h)

pub gaps_never_end : GapsNeverEnd
gaps_never_end m l = each_map (StandsInPlace m) (λ i x. NoEnd x) (stands_no_end m) 0 (items m l) (standing m l).stands

-- ---- at a send
module _ (m : SenderSetup) (s : SenderState) (w : Lists) (k : ℕ) where
  abbrev Takes : ℕ → List Block → Type 0
  Takes n rest = (blocks_given_for (items_begun_by m s w rest) k ≡ take n (w k)) × ((send_result_by m s w rest).waiting k ≡ drop n (w k))

  takes_begun : Begins m s w (item_at s.position) → Takes (Rattle.std.specs.Prelude.if◌then◌else◌ (is_frame (item_at s.position)) (room_for k m.calendar) 0) []
  unfolding frame_result frame_due
  takes_begun (a_frame t g) = rw (t, g) (append-nil (take (room_for k m.calendar) (w k)), left_frame m.calendar w k)
  takes_begun (a_gap t g) = rw t (refl, ap (λ (l : Lists). l k) g.waiting)

  takes_send : (rest : List Block) → Takes (Rattle.std.specs.Prelude.if◌then◌else◌ (frame_begins_by s rest) (room_for k m.calendar) 0) rest
  takes_send [] = takes_begun (begins m s w (item_at s.position))
  takes_send (b ∷ bs) = (refl, refl)

pub takes_waiting : TakesWaiting
takes_waiting m l w k = takes_send m (state_of m l) w k (state_of m l).rest

joins : (n : ℕ) (l a b : List Block) → a ≡ take n l → b ≡ drop n l → l ≡ a ++ b
joins n l a b p q = sym (ap (λ z. z ++ b) p ∙ ap (λ z. take n l ++ z) q ∙ take-append-drop n l)

pub given_leaves : GivenLeaves
given_leaves m l w k = let t = takes_waiting m l w k in joins _ (w k) _ _ t.0 t.1

no_room : (k : ℕ) (cal : List ℕ) → (slot_count k cal ≡ 0) ⊎ (k ≡ 0) → room_for k cal ≡ 0
no_room k cal (inl e) = go (eqb k 0)
  where
    go : (t : Bool) → cond t 0 (2 * slot_count k cal) ≡ 0
    go true = refl
    go false = omega arith
no_room k cal (inr e) = cond-true (eqb k 0) 0 (2 * slot_count k cal) (eq-eqb k 0 e)

none_or : (t : Bool) (n : ℕ) (l a : List Block) → n ≡ 0 → a ≡ drop (cond t n 0) l → a ≡ l
none_or true n l a e h = h ∙ ap (λ (k : ℕ). drop k l) e
none_or false n l a e h = h

pub others_keep : OthersKeep
others_keep m l w k h = none_or _ (room_for k m.calendar) (w k) _ (no_room k m.calendar h) (takes_waiting m l w k).1

-- ---- a whole cycle
shifted : (i n : ℕ) → frames_before ((i + 1) + n) ≡ frames_before (i + suc n)
shifted i n = let z : (i + 1) + n ≡ i + suc n = omega arith in ap frames_before z

pub counted_frames : (m : SenderSetup) (i : ℕ) (xs : List LineItem) → Each (StandsInPlace m) i xs → frame_count xs + frames_before i ≡ frames_before (i + length xs)
unfolding Each frame_count
counted_frames m i [] u = let z : i ≡ i + 0 = omega arith in let y : frames_before i ≡ frames_before (i + 0) = ap frames_before z in omega (arith, y)
counted_frames m i (frame f ∷ xs) (p, u) = more (frame_count xs) (length xs) (counted_frames m (i + 1) xs u)
  where
    more : (a n : ℕ) → a + frames_before (i + 1) ≡ frames_before ((i + 1) + n) → (1 + a) + frames_before i ≡ frames_before (i + suc n)
    more a n h =
        let x : frames_before (i + 1) ≡ frames_before i + 1 = frames_more i (frame_even i (view i) (ap is_frame p.item)) in
        let y : frames_before ((i + 1) + n) ≡ frames_before (i + suc n) = shifted i n in
        omega arith
counted_frames m i (gap b ∷ xs) (p, u) = more (frame_count xs) (length xs) (counted_frames m (i + 1) xs u)
  where
    no_frame : (x : Item) → GapStands m b x → is_frame x ≡ false
    no_frame FrameItem h = absurd h
    no_frame Idle h = refl
    no_frame (Basic mark) h = refl
    no_frame Protection h = refl
    no_frame (Verification j) h = refl
    no_frame ClientSignal h = refl
    no_frame (Delay j) h = refl
    no_frame Spare h = refl

    more : (a n : ℕ) → a + frames_before (i + 1) ≡ frames_before ((i + 1) + n) → (0 + a) + frames_before i ≡ frames_before (i + suc n)
    more a n h =
        let x : frames_before (i + 1) ≡ frames_before i = frames_same i (frame_odd i (no_frame (item_at i) p)) in
        let y : frames_before ((i + 1) + n) ≡ frames_before (i + suc n) = shifted i n in
        omega arith

pub each_drop : (P : ℕ → LineItem → Type 0) (i n : ℕ) (xs : List LineItem) → Each P i xs → Each P (i + n) (drop n xs)
unfolding Each
each_drop P i zero xs u = let z : i ≡ i + 0 = omega arith in subst (λ k. Each P k xs) z u
each_drop P i (suc n) [] u = tt
each_drop P i (suc n) (x ∷ xs) (p, u) = let z : (i + 1) + n ≡ i + suc n = omega arith in subst (λ k. Each P k (drop n xs)) z (each_drop P (i + 1) n xs u)

pub each_take : (P : ℕ → LineItem → Type 0) (i n : ℕ) (xs : List LineItem) → Each P i xs → Each P i (take n xs)
unfolding Each
each_take P i zero xs u = tt
each_take P i (suc n) [] u = tt
each_take P i (suc n) (x ∷ xs) (p, u) = (p, each_take P (i + 1) n xs u)

pub counted_blocks : (xs : List LineItem) → length (blocks_of_items xs) ≡ 991 * frame_count xs + length xs
unfolding frame_count blocks_of_items
counted_blocks [] = refl
counted_blocks (frame f ∷ xs) =
    let h = counted_blocks xs in
    simp length-append (omega (arith, h, length-frame_written f.number f.entry f.pairs))
counted_blocks (gap b ∷ xs) = omega (arith, counted_blocks xs)

pub cycles_whole : CyclesWhole
cycles_whole m l c h = (whole, blocks_whole)
  where
    seg : List LineItem
    seg = take 65 (drop (65 * c) (items m l))

    long : length seg ≡ 65
    long = simp (length-take, length-drop) (omega arith)

    whole : frame_count seg ≡ 33
    whole =
        let x = counted_frames m (0 + 65 * c) seg (each_take (StandsInPlace m) (0 + 65 * c) 65 (drop (65 * c) (items m l)) (each_drop (StandsInPlace m) 0 (65 * c) (items m l) (standing m l).stands)) in
        omega (arith, x, long)

    blocks_whole : length (blocks_of_items seg) ≡ 32768
    blocks_whole =
        let x = counted_blocks seg in
        omega (arith, x, long, whole)
