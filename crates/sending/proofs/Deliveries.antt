-- A message that is left is sent whole, in a row, once, and on time.
use Rattle.std.proofs.Common.{◌≡◌, ℕ, zero, suc, ◌+◌, ◌<◌, ◌≤◌, Bool, true, false, cond, not, ◌&&◌, List, [], ◌∷◌, ◌++◌, length, get_or, take, drop, Some, None, Option, sym, refl, ap, ◌∙◌, append_assoc, append-nil, subst, arith}
use Rattle.std.specs.List.{All, AllByRecursion}
use Rattle.std.proofs.lemmas.List.{take_more, take_all, flat_map_more, length-take-le, length_push}
use Rattle.std.proofs.lemmas.List.Elements.{All-from_recursion}
use Rattle.std.proofs.lemmas.Bool.{ltb-true, ltb-false, lt-ltb, and_parts, both_ways, cond-true, cond-false}
use Rattle.block.specs.declared.Block.{Block}
use Rattle.port.specs.Model.{Lists}
use Rattle.block.specs.Fixed.{idle_block}
use Rattle.message.specs.declared.Kind.{Kind}
use Rattle.schedule.specs.declared.Item.{Item}
use Rattle.schedule.specs.declared.Item.TheVariants.{Frame as FrameItem, Idle, Basic, Protection, Verification, ClientSignal, Delay, Spare}
use Rattle.schedule.specs.Cycle.{item_at, is_frame}
use Rattle.sending.specs.Blocks.{is_idle_block}
use Rattle.sending.specs.Messages.{same_sort}
use Rattle.waiting.specs.Messages.{MessageToSend, message_to_send, WaitingMessage, nothing_waits, waits, next_block, with_one_gone}
use Rattle.waiting.specs.declared.Sort.{Sort}
use Rattle.waiting.specs.declared.Sort.TheVariants.{Delay as delays, Protection as protections}
use Rattle.sending.specs.Sender.{SenderSetup, SenderState, new_sender_state, gap_result, own_result, item_result, send_result_by, frame_due, waiting_of, with_waiting, state_with, accepted_message}
use Rattle.sending.specs.Life.{Life, LineItem, frame, gap, made, followed, send, leave, state_of, items_begun_by, items}
use Rattle.sending.specs.MessageLaws.{opportunity_item, is_opportunity, first_start, BlockAt, in_a_row, found_at_item, found_on_line, LeftMessage, message_left, messages_left, whole_messages, MessagesOnTime, MessagesSent}
use Rattle.sending.proofs.Codes.{IsSound, to_send_sound, idle_idle, message_no_idle}
use Rattle.sending.proofs.Steps.{Begins, a_frame, a_gap, begins}
use Rattle.sending.proofs.Counts.{Counted, due_item}
use Rattle.sending.proofs.Gaps.{SoundOf, Sound, due, goes, moved, waiting_after, next_message, accepted_is}
use Rattle.sending.proofs.Places.{Standing, standing, frame_item}
use Rattle.sending.proofs.Opportunities.{next, next_first, next_kept, next_here, next_more, next_to_come, rising}

-- ---- lists of blocks at items
found_push : (q : Sort) (i : ℕ) (xs : List LineItem) (x : LineItem) → found_on_line q i (xs ++ (x ∷ [])) ≡ found_on_line q i xs ++ found_at_item q (i + length xs) x
unfolding found_on_line
found_push q i [] x = append-nil (found_at_item q i x) ∙ ap (λ k. found_at_item q k x) (let z : i ≡ i + 0 = omega arith in z)
found_push q i (y ∷ xs) x =
    ap (λ l. found_at_item q i y ++ l) (found_push q (i + 1) xs x ∙ ap (λ k. found_on_line q (i + 1) xs ++ found_at_item q k x) (let z : (i + 1) + length xs ≡ i + suc (length xs) = omega arith in z))
    ∙ sym (append_assoc (found_at_item q i y) (found_on_line q (i + 1) xs) (found_at_item q (i + suc (length xs)) x))

found_grown : (q : Sort) (xs : List LineItem) (x : LineItem) → found_on_line q 0 (xs ++ (x ∷ [])) ≡ found_on_line q 0 xs ++ found_at_item q (length xs) x
found_grown q xs x = found_push q 0 xs x ∙ ap (λ k. found_on_line q 0 xs ++ found_at_item q k x) (let z : 0 + length xs ≡ length xs = omega arith in z)

row_push : (q : Sort) (k : ℕ) (bs : List Block) (b : Block) → in_a_row q k (bs ++ (b ∷ [])) ≡ in_a_row q k bs ++ (record { item = opportunity_item q (k + length bs); block = b } ∷ [])
unfolding in_a_row
row_push q k [] b = ap (λ j. record { item = opportunity_item q j; block = b } ∷ []) (let z : k ≡ k + 0 = omega arith in z)
row_push q k (a ∷ bs) b =
    ap (λ l. record { item = opportunity_item q k; block = a } ∷ l)
    (row_push q (k + 1) bs b ∙ ap (λ j. in_a_row q (k + 1) bs ++ (record { item = opportunity_item q j; block = b } ∷ [])) (let z : (k + 1) + length bs ≡ k + suc (length bs) = omega arith in z))

row_none : (q : Sort) (k : ℕ) → in_a_row q k [] ≡ []
unfolding in_a_row
row_none q k = refl

row_split : (q : Sort) (k g : ℕ) (bs : List Block) → in_a_row q k bs ≡ in_a_row q k (take g bs) ++ in_a_row q (k + g) (drop g bs)
unfolding in_a_row
row_split q k zero bs = ap (λ j. in_a_row q j bs) (let z : k ≡ k + 0 = omega arith in z)
row_split q k (suc g) [] = refl
row_split q k (suc g) (b ∷ bs) =
    ap (λ l. record { item = opportunity_item q k; block = b } ∷ l)
    (row_split q (k + 1) g bs ∙ ap (λ j. in_a_row q (k + 1) (take g bs) ++ in_a_row q j (drop g bs)) (let z : (k + 1) + g ≡ k + suc g = omega arith in z))

-- all of a row is to come where its first is
row_to_come : (q : Sort) (n k : ℕ) (bs : List Block) → n ≤ opportunity_item q k → AllByRecursion (λ (x : BlockAt). n ≤ x.item) (in_a_row q k bs)
unfolding in_a_row
row_to_come q n k [] h = tt
row_to_come q n k (b ∷ bs) h = (h, row_to_come q n (k + 1) bs (let r = rising q k in omega arith))

whole_push : (q : Sort) (xs : List LeftMessage) (x : LeftMessage) → whole_messages q (xs ++ (x ∷ [])) ≡ whole_messages q xs ++ in_a_row q (first_start q x.after) x.blocks
whole_push q xs x = sym (flat_map_more (λ (y : LeftMessage). in_a_row q (first_start q y.after) y.blocks) [] xs x)

-- one block more of a row
row_grown : (q : Sort) (k g n : ℕ) (bs : List Block) → g < length bs → opportunity_item q (k + g) ≡ n → in_a_row q k (take g bs) ++ (record { item = n; block = get_or bs g idle_block } ∷ []) ≡ in_a_row q k (take (g + 1) bs)
row_grown q k g n bs h e =
    let a : length (take g bs) ≡ g = length-take-le g bs (omega arith) in
    ap (λ j. in_a_row q k (take g bs) ++ (record { item = j; block = get_or bs g idle_block } ∷ [])) (sym e ∙ ap (λ j. opportunity_item q (k + j)) (sym a))
    ∙ sym (row_push q k (take g bs) (get_or bs g idle_block))
    ∙ ap (in_a_row q k) (sym (take_more bs g idle_block h))

-- ---- what an item adds
goes_there : (q : Sort) (x : Item) (g : ℕ) → due q x g ≡ true → is_opportunity q x ≡ true
goes_there delays (Delay j) g e = refl
goes_there delays FrameItem g e = e
goes_there delays Idle g e = e
goes_there delays (Basic mark) g e = e
goes_there delays Protection g e = e
goes_there delays (Verification j) g e = e
goes_there delays ClientSignal g e = e
goes_there delays Spare g e = e
goes_there protections Protection g e = refl
goes_there protections FrameItem g e = e
goes_there protections Idle g e = e
goes_there protections (Basic mark) g e = e
goes_there protections (Verification j) g e = e
goes_there protections ClientSignal g e = e
goes_there protections (Delay j) g e = e
goes_there protections Spare g e = e

block_by : (s : SenderState) (w : Lists) (t : Bool) (b : Block) (d e : WaitingMessage) → (cond t (gap_result s w b d e) (own_result s w idle_block)).block ≡ cond t b idle_block
block_by s w true b d e = refl
block_by s w false b d e = refl

opportunity_block : (q : Sort) (m : SenderSetup) (s : SenderState) (w : Lists) (x : Item) → is_opportunity q x ≡ true → (item_result m s w x).block ≡ cond (goes q x (waiting_of s q)) (next_block (waiting_of s q)) idle_block
unfolding item_result
opportunity_block delays m s w (Delay j) e = block_by s w _ (next_block s.left.delay) (with_one_gone s.left.delay) s.left.protection
opportunity_block delays m s w FrameItem e = absurd (both_ways false refl e)
opportunity_block delays m s w Idle e = absurd (both_ways false refl e)
opportunity_block delays m s w (Basic mark) e = absurd (both_ways false refl e)
opportunity_block delays m s w Protection e = absurd (both_ways false refl e)
opportunity_block delays m s w (Verification j) e = absurd (both_ways false refl e)
opportunity_block delays m s w ClientSignal e = absurd (both_ways false refl e)
opportunity_block delays m s w Spare e = absurd (both_ways false refl e)
opportunity_block protections m s w Protection e = block_by s w _ (next_block s.left.protection) s.left.delay (with_one_gone s.left.protection)
opportunity_block protections m s w FrameItem e = absurd (both_ways false refl e)
opportunity_block protections m s w Idle e = absurd (both_ways false refl e)
opportunity_block protections m s w (Basic mark) e = absurd (both_ways false refl e)
opportunity_block protections m s w (Verification j) e = absurd (both_ways false refl e)
opportunity_block protections m s w ClientSignal e = absurd (both_ways false refl e)
opportunity_block protections m s w (Delay j) e = absurd (both_ways false refl e)
opportunity_block protections m s w Spare e = absurd (both_ways false refl e)

-- what is found of the item
abbrev now : ℕ → WaitingMessage → Bool → List BlockAt
now n d t = cond t (record { item = n; block = next_block d } ∷ []) []

module _ (q : Sort) (m : SenderSetup) (s : SenderState) (w : Lists) (n : ℕ) (c : Counted s n) (u : Sound s) where
  found_gap : found_at_item q n (gap (item_result m s w (item_at s.position)).block) ≡ now n (waiting_of s q) (goes q (item_at n) (waiting_of s q))
  found_gap = go (is_opportunity q (item_at n)) (goes q (item_at n) (waiting_of s q)) refl refl
    where
      b : Block
      b = (item_result m s w (item_at s.position)).block

      at : is_opportunity q (item_at n) ≡ true → b ≡ cond (goes q (item_at n) (waiting_of s q)) (next_block (waiting_of s q)) idle_block
      at e =
          ap (λ x. (item_result m s w x).block) (due_item s n c)
          ∙ opportunity_block q m s w (item_at n) e

      go : (t v : Bool) → is_opportunity q (item_at n) ≡ t → goes q (item_at n) (waiting_of s q) ≡ v → cond (is_opportunity q (item_at n) && not (is_idle_block b)) (record { item = n; block = b } ∷ []) [] ≡ now n (waiting_of s q) (goes q (item_at n) (waiting_of s q))
      go true true e f =
          let d : waits (waiting_of s q) ≡ true = (and_parts (due q (item_at n) (waiting_of s q).gone) (waits (waiting_of s q)) f).1 in
          let p : b ≡ next_block (waiting_of s q) = at e ∙ cond-true _ _ _ f in
          let i : is_idle_block b ≡ false = ap is_idle_block p ∙ message_no_idle (next_block (waiting_of s q)) (next_message q (waiting_of s q) (u q) d) in
          rw (e, i, f) (ap (λ x. record { item = n; block = x } ∷ []) p)
      go true false e f =
          let i : is_idle_block b ≡ true = ap is_idle_block (at e ∙ cond-false _ _ _ f) ∙ idle_idle in
          rw (e, i, f) refl
      go false true e f =
          absurd (both_ways (is_opportunity q (item_at n)) e (goes_there q (item_at n) (waiting_of s q).gone (and_parts (due q (item_at n) (waiting_of s q).gone) (waits (waiting_of s q)) f).0))
      go false false e f = rw (e, f) refl

-- ---- what is kept
pub record Delivering (q : Sort) (d : WaitingMessage) (n : ℕ) (line : List BlockAt) (lefts : List LeftMessage) : Type 0 where
  pub done : List LeftMessage
  pub last : LeftMessage
  pub lefts_are : lefts ≡ done ++ cond (waits d) (last ∷ []) []
  pub line_is : line ≡ whole_messages q done ++ cond (waits d) (in_a_row q (first_start q last.after) (take d.gone last.blocks)) []
  pub same : waits d ≡ true → last.blocks ≡ d.blocks
  pub next_is : waits d ≡ true → next q d.gone n ≡ first_start q last.after + d.gone

gone_low : (d : WaitingMessage) → waits d ≡ true → d.gone < length d.blocks
gone_low d e = ltb-true d.gone (length d.blocks) e

module _ (q : Sort) (d : WaitingMessage) (n : ℕ) (line : List BlockAt) (lefts : List LeftMessage) (u : SoundOf q d) (h : Delivering q d n line lefts) where
  still : (waits d ≡ true → due q (item_at n) d.gone ≡ false) → Delivering q d (n + 1) (line ++ []) lefts
  still f = rw (append-nil line) (record {
    done = h.done;
    last = h.last;
    lefts_are = h.lefts_are;
    line_is = h.line_is;
    same = h.same;
    next_is = λ e. next_kept q d.gone n (omega (arith, gone_low d e, u.few)) (f e) ∙ h.next_is e;
  })

  module _ (e : waits d ≡ true) (t : due q (item_at n) d.gone ≡ true) where
    here : opportunity_item q (first_start q h.last.after + d.gone) ≡ n
    here = ap (opportunity_item q) (sym (h.next_is e)) ∙ next_here q d.gone n t

    long : d.gone < length h.last.blocks
    long = omega (arith, gone_low d e, ap (λ (l : List Block). length l) (h.same e))

    grown : line ++ (record { item = n; block = next_block d } ∷ []) ≡ whole_messages q h.done ++ in_a_row q (first_start q h.last.after) (take (d.gone + 1) h.last.blocks)
    grown =
        ap (λ l. l ++ (record { item = n; block = next_block d } ∷ [])) (h.line_is ∙ ap (λ l. whole_messages q h.done ++ l) (cond-true (waits d) _ _ e))
        ∙ append_assoc (whole_messages q h.done) (in_a_row q (first_start q h.last.after) (take d.gone h.last.blocks)) (record { item = n; block = next_block d } ∷ [])
        ∙ ap (λ (l : List Block). whole_messages q h.done ++ (in_a_row q (first_start q h.last.after) (take d.gone h.last.blocks) ++ (record { item = n; block = get_or l d.gone idle_block } ∷ []))) (sym (h.same e))
        ∙ ap (λ l. whole_messages q h.done ++ l) (row_grown q (first_start q h.last.after) d.gone n h.last.blocks long here)

    lefts_with : lefts ≡ h.done ++ (h.last ∷ [])
    lefts_with = h.lefts_are ∙ ap (λ l. h.done ++ l) (cond-true (waits d) _ _ e)

    go_on : waits (with_one_gone d) ≡ true → Delivering q (with_one_gone d) (n + 1) (line ++ (record { item = n; block = next_block d } ∷ [])) lefts
    go_on f = record {
      done = h.done;
      last = h.last;
      lefts_are = lefts_with ∙ ap (λ l. h.done ++ l) (sym (cond-true (waits (with_one_gone d)) _ _ f));
      line_is = grown ∙ ap (λ l. whole_messages q h.done ++ l) (sym (cond-true (waits (with_one_gone d)) _ _ f));
      same = λ x. h.same e;
      next_is = λ x.
          let k : next q (d.gone + 1) (n + 1) ≡ next q d.gone n + 1 = next_more q d.gone n (omega (arith, gone_low (with_one_gone d) f, u.few)) t in
          omega (arith, k, h.next_is e);
    }

    ends : waits (with_one_gone d) ≡ false → Delivering q (with_one_gone d) (n + 1) (line ++ (record { item = n; block = next_block d } ∷ [])) lefts
    ends f =
        let all : length h.last.blocks ≤ d.gone + 1 = omega (arith, ltb-false (d.gone + 1) (length d.blocks) f, ap (λ (l : List Block). length l) (h.same e)) in
        record {
          done = h.done ++ (h.last ∷ []);
          last = h.last;
          lefts_are = lefts_with ∙ sym (append-nil (h.done ++ (h.last ∷ []))) ∙ ap (λ l. (h.done ++ (h.last ∷ [])) ++ l) (sym (cond-false (waits (with_one_gone d)) _ _ f));
          line_is =
              grown
              ∙ ap (λ l. whole_messages q h.done ++ in_a_row q (first_start q h.last.after) l) (take_all (d.gone + 1) h.last.blocks all)
              ∙ sym (whole_push q h.done h.last)
              ∙ sym (append-nil (whole_messages q (h.done ++ (h.last ∷ []))))
              ∙ ap (λ l. whole_messages q (h.done ++ (h.last ∷ [])) ++ l) (sym (cond-false (waits (with_one_gone d)) _ _ f));
          same = λ x. absurd (both_ways (waits (with_one_gone d)) f x);
          next_is = λ x. absurd (both_ways (waits (with_one_gone d)) f x);
        }

    advance : Delivering q (with_one_gone d) (n + 1) (line ++ (record { item = n; block = next_block d } ∷ [])) lefts
    advance = go (waits (with_one_gone d)) refl
      where
        go : (b : Bool) → waits (with_one_gone d) ≡ b → Delivering q (with_one_gone d) (n + 1) (line ++ (record { item = n; block = next_block d } ∷ [])) lefts
        go true f = go_on f
        go false f = ends f

  pub item_step : Delivering q (moved q (item_at n) d) (n + 1) (line ++ now n d (goes q (item_at n) d)) lefts
  item_step = go (due q (item_at n) d.gone) (waits d) refl refl
    where
      go : (t e : Bool) → due q (item_at n) d.gone ≡ t → waits d ≡ e → Delivering q (cond (due q (item_at n) d.gone && waits d) (with_one_gone d) d) (n + 1) (line ++ now n d (due q (item_at n) d.gone && waits d)) lefts
      go true true t e = rw (t, e) (advance e t)
      go true false t e = rw (t, e) (still (λ x. absurd (both_ways (waits d) e x)))
      go false e t f = rw t (still (λ x. t))

-- ---- over a life
frame_goes : (q : Sort) (d : WaitingMessage) → goes q FrameItem d ≡ false
frame_goes delays d = refl
frame_goes protections d = refl

waiting_more : (s : SenderState) (rest : List Block) (q : Sort) → waiting_of (record s { rest = rest }) q ≡ waiting_of s q
waiting_more s rest delays = refl
waiting_more s rest protections = refl

module _ (q : Sort) (m : SenderSetup) (s : SenderState) (w : Lists) (is : List LineItem) (lefts : List LeftMessage) (st : Standing m s is) (h : Delivering q (waiting_of s q) (length is) (found_on_line q 0 is) lefts) where
  After : LineItem → Type 0
  After x = Delivering q (waiting_of (item_result m s w (item_at s.position)).state q) (length (is ++ (x ∷ []))) (found_on_line q 0 (is ++ (x ∷ []))) lefts

  item_after : (x : LineItem) → found_at_item q (length is) x ≡ now (length is) (waiting_of s q) (goes q (item_at (length is)) (waiting_of s q)) → After x
  unfolding After
  item_after x e =
      rw (length_push is x, found_grown q is x, e, waiting_after m s w (item_at s.position) q, due_item s (length is) st.counted)
      (item_step q (waiting_of s q) (length is) (found_on_line q 0 is) lefts (st.sound q) h)

  no_frame_goes : is_frame (item_at s.position) ≡ true → goes q (item_at (length is)) (waiting_of s q) ≡ false
  no_frame_goes t = ap (λ x. goes q x (waiting_of s q)) (sym (due_item s (length is) st.counted) ∙ frame_item (item_at s.position) t) ∙ frame_goes q (waiting_of s q)

  begin_step : Begins m s w (item_at s.position) → Delivering q (waiting_of (send_result_by m s w []).state q) (length (is ++ items_begun_by m s w [])) (found_on_line q 0 (is ++ items_begun_by m s w [])) lefts
  unfolding After
  begin_step (a_frame t g) = rw t (item_after (frame (frame_due m s w)) (ap (now (length is) (waiting_of s q)) (sym (no_frame_goes t))))
  begin_step (a_gap t g) = rw t (item_after (gap (item_result m s w (item_at s.position)).block) (found_gap q m s w (length is) st.counted st.sound))

  send_step : (rest : List Block) → Delivering q (waiting_of (send_result_by m s w rest).state q) (length (is ++ items_begun_by m s w rest)) (found_on_line q 0 (is ++ items_begun_by m s w rest)) lefts
  send_step [] = begin_step (begins m s w (item_at s.position))
  send_step (b ∷ bs) = rw (append-nil is, waiting_more s bs q) h

-- a leaving
new_waits : (x : MessageToSend) → IsSound x → waits (record { blocks = x.blocks; gone = 0 }) ≡ true
new_waits x h = lt-ltb 0 (length x.blocks) h.some

module _ (q : Sort) (d : WaitingMessage) (n : ℕ) (line : List BlockAt) (lefts : List LeftMessage) (h : Delivering q d n line lefts) where
  left_new : (x : MessageToSend) → IsSound x → waits d ≡ false → Delivering q (record { blocks = x.blocks; gone = 0 }) n line (lefts ++ (record { after = n; blocks = x.blocks } ∷ []))
  left_new x k off =
      let y : LeftMessage = record { after = n; blocks = x.blocks } in
      record {
        done = h.done;
        last = record { after = n; blocks = x.blocks };
        lefts_are =
            ap (λ (l : List LeftMessage). l ++ (record { after = n; blocks = x.blocks } ∷ [])) (h.lefts_are ∙ ap (λ l. h.done ++ l) (cond-false (waits d) _ _ off) ∙ append-nil h.done)
            ∙ ap (λ l. h.done ++ l) (sym (cond-true (waits (record { blocks = x.blocks; gone = 0 })) _ _ (new_waits x k)));
        line_is =
            h.line_is
            ∙ ap (λ l. whole_messages q h.done ++ l) (cond-false (waits d) _ _ off ∙ sym (row_none q (first_start q n)) ∙ sym (cond-true (waits (record { blocks = x.blocks; gone = 0 })) _ _ (new_waits x k)));
        same = λ e. refl;
        next_is = λ e. next_first q n ∙ (let z : first_start q n ≡ first_start q n + 0 = omega arith in z);
      }

  left_same : Delivering q d n line (lefts ++ [])
  left_same = rw (append-nil lefts) h

not_waiting : (s : SenderState) (o : Option MessageToSend) (x : MessageToSend) → accepted_message s o ≡ Some x → waits (waiting_of s x.sort) ≡ false
not_waiting s None x e = absurd (cc)
not_waiting s (Some y) x e = go (waits (waiting_of s y.sort)) refl
  where
    go : (t : Bool) → waits (waiting_of s y.sort) ≡ t → waits (waiting_of s x.sort) ≡ false
    go true p = let f = rw p at e in absurd (cc)
    go false p =
        let f = rw p at e in
        let z : ◌≡◌ {A = MessageToSend} y x = cc in
        ap (λ (m : MessageToSend). waits (waiting_of s m.sort)) (sym z) ∙ p

left_by_sort : (q r : Sort) (s : SenderState) (n : ℕ) (line : List BlockAt) (lefts : List LeftMessage) → Delivering q (waiting_of s q) n line lefts → (x : MessageToSend) → IsSound x → waits (waiting_of s r) ≡ false
    → Delivering q (waiting_of (with_waiting s r (record { blocks = x.blocks; gone = 0 })) q) n line (lefts ++ cond (same_sort q r) (record { after = n; blocks = x.blocks } ∷ []) [])
left_by_sort delays delays s n line lefts h x k off = left_new delays s.left.delay n line lefts h x k off
left_by_sort delays protections s n line lefts h x k off = left_same delays s.left.delay n line lefts h
left_by_sort protections delays s n line lefts h x k off = left_same protections s.left.protection n line lefts h
left_by_sort protections protections s n line lefts h x k off = left_new protections s.left.protection n line lefts h x k off

module _ (q : Sort) (s : SenderState) (n : ℕ) (line : List BlockAt) (lefts : List LeftMessage) (h : Delivering q (waiting_of s q) n line lefts) where
  leave_some : (x : MessageToSend) → IsSound x → waits (waiting_of s x.sort) ≡ false → Delivering q (waiting_of (state_with s (Some x)) q) n line (lefts ++ message_left q n (Some x))
  leave_some x k off = left_by_sort q x.sort s n line lefts h x k off

  leave_step : (k : Option Kind) (vs : List ℕ) → Delivering q (waiting_of (state_with s (accepted_message s (message_to_send k vs))) q) n line (lefts ++ message_left q n (accepted_message s (message_to_send k vs)))
  leave_step k vs = go (accepted_message s (message_to_send k vs)) refl
    where
      go : (o : Option MessageToSend) → accepted_message s (message_to_send k vs) ≡ o → Delivering q (waiting_of (state_with s o) q) n line (lefts ++ message_left q n o)
      go None e = left_same q (waiting_of s q) n line lefts h
      go (Some x) e = leave_some x (to_send_sound k vs x (accepted_is s (message_to_send k vs) x e)) (not_waiting s (message_to_send k vs) x e)

fresh_waits : (q : Sort) → waiting_of new_sender_state q ≡ nothing_waits
fresh_waits delays = refl
fresh_waits protections = refl

pub delivering : (q : Sort) (m : SenderSetup) (l : Life) → Delivering q (waiting_of (state_of m l) q) (length (items m l)) (found_on_line q 0 (items m l)) (messages_left q m l)
unfolding state_of items messages_left found_on_line
delivering q m made = rw (fresh_waits q) (record {
  done = [];
  last = record { after = 0; blocks = [] };
  lefts_are = refl;
  line_is = refl;
  same = λ e. absurd (both_ways false refl e);
  next_is = λ e. absurd (both_ways false refl e);
})
delivering q m (followed l (send w)) = rw (append-nil (messages_left q m l)) (send_step q m (state_of m l) w (items m l) (messages_left q m l) (standing m l) (delivering q m l) (state_of m l).rest)
delivering q m (followed l (leave k vs)) = rw (append-nil (items m l)) (leave_step q (state_of m l) (length (items m l)) (found_on_line q 0 (items m l)) (messages_left q m l) (delivering q m l) k vs)

pub messages_sent : MessagesSent
messages_sent q m l = let h = delivering q m l in (h.done, (h.last, (h.lefts_are, h.line_is)))

module _ (q : Sort) (d : WaitingMessage) (n : ℕ) (line : List BlockAt) (lefts : List LeftMessage) (u : SoundOf q d) (h : Delivering q d n line lefts) where
  abbrev OnTime : Type 0
  OnTime = (rest : List BlockAt) × ((line ++ rest ≡ whole_messages q lefts) × All (λ (x : BlockAt). n ≤ x.item) rest)

  on_time : OnTime
  on_time = go (waits d) refl
    where
      go : (t : Bool) → waits d ≡ t → OnTime
      go false e = (
        [],
        (
          append-nil line
              ∙ h.line_is
              ∙ ap (λ l. whole_messages q h.done ++ l) (cond-false (waits d) _ _ e)
              ∙ append-nil (whole_messages q h.done)
              ∙ ap (whole_messages q) (sym (append-nil h.done) ∙ ap (λ l. h.done ++ l) (sym (cond-false (waits d) _ _ e)) ∙ sym h.lefts_are),
          All-from_recursion (λ (x : BlockAt). n ≤ x.item) [] tt,
        ),
      )
      go true e =
          let k : ℕ = first_start q h.last.after in (
            in_a_row q (first_start q h.last.after + d.gone) (drop d.gone h.last.blocks),
            (
              ap (λ l. l ++ in_a_row q (first_start q h.last.after + d.gone) (drop d.gone h.last.blocks)) (h.line_is ∙ ap (λ l. whole_messages q h.done ++ l) (cond-true (waits d) _ _ e))
                  ∙ append_assoc (whole_messages q h.done) (in_a_row q (first_start q h.last.after) (take d.gone h.last.blocks)) (in_a_row q (first_start q h.last.after + d.gone) (drop d.gone h.last.blocks))
                  ∙ ap (λ l. whole_messages q h.done ++ l) (sym (row_split q (first_start q h.last.after) d.gone h.last.blocks))
                  ∙ sym (whole_push q h.done h.last)
                  ∙ ap (whole_messages q) (ap (λ l. h.done ++ l) (sym (cond-true (waits d) _ _ e)) ∙ sym h.lefts_are),
              All-from_recursion (λ (x : BlockAt). n ≤ x.item) _ (row_to_come q n (first_start q h.last.after + d.gone) (drop d.gone h.last.blocks)
                  (subst (λ j. n ≤ opportunity_item q j) (h.next_is e) (next_to_come q d.gone n (omega (arith, gone_low d e, u.few))))),
            ),
          )

pub messages_on_time : MessagesOnTime
messages_on_time q m l = on_time q (waiting_of (state_of m l) q) (length (items m l)) (found_on_line q 0 (items m l)) (messages_left q m l) ((standing m l).sound q) (delivering q m l)
