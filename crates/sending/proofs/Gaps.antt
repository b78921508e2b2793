-- What a gap block is.
use Rattle.std.proofs.Common.{◌≡◌, ℕ, ◌≤◌, Bool, true, false, cond, ◌&&◌, eqb, List, length, Some, None, Option, sym, refl, ap, inl, inr, subst, arith}
use Rattle.std.proofs.lemmas.Bool.{ltb-true, and_parts, both_ways}
use Rattle.block.specs.declared.Block.{Block}
use Rattle.port.specs.Model.{Lists}
use Rattle.block.specs.Fixed.{idle_block}
use Rattle.message.specs.declared.Kind.{Kind}
use Rattle.schedule.specs.declared.Item.{Item}
use Rattle.schedule.specs.declared.Item.TheVariants.{Frame as FrameItem, Idle, Basic, Protection, Verification, ClientSignal, Delay, Spare}
use Rattle.schedule.specs.Cycle.{is_frame}
use Rattle.sending.specs.Messages.{is_message}
use Rattle.waiting.specs.Messages.{MessageToSend, message_to_send, WaitingMessage, nothing_waits, waits, next_block, with_one_gone}
use Rattle.waiting.specs.declared.Sort.{Sort}
use Rattle.waiting.specs.declared.Sort.TheVariants.{Delay as delays, Protection as protections}
use Rattle.sending.specs.Sender.{SenderSetup, SenderState, new_sender_state, frame_result, gap_result, own_result, item_result, waiting_of, with_waiting, state_with, accepted_message}
use Rattle.sending.specs.LineLaws.{IdleOrMessage, GapStands}
use Rattle.sending.proofs.Codes.{all_messages, most_blocks, IsSound, to_send_sound, at_message}

-- what waits is made of message blocks, and is not too long
pub record SoundOf (q : Sort) (d : WaitingMessage) : Type 0 where
  pub all : all_messages d.blocks ≡ true
  pub few : length d.blocks ≤ most_blocks q

abbrev pub Sound : SenderState → Type 0
Sound s = (q : Sort) → SoundOf q (waiting_of s q)

nothing_sound : (q : Sort) → SoundOf q nothing_waits
nothing_sound delays = record { all = refl; few = omega arith }
nothing_sound protections = record { all = refl; few = omega arith }

pub sound_none : Sound new_sender_state
sound_none delays = nothing_sound delays
sound_none protections = nothing_sound protections

-- ---- what an item does to the messages that wait
-- whether the next block of a message goes at the item
abbrev pub due : Sort → Item → ℕ → Bool
due delays FrameItem gone = false
due delays Idle gone = false
due delays (Basic mark) gone = false
due delays Protection gone = false
due delays (Verification j) gone = false
due delays ClientSignal gone = false
due delays (Delay j) gone = eqb j gone
due delays Spare gone = false
due protections FrameItem gone = false
due protections Idle gone = false
due protections (Basic mark) gone = false
due protections Protection gone = true
due protections (Verification j) gone = false
due protections ClientSignal gone = false
due protections (Delay j) gone = false
due protections Spare gone = false

abbrev pub goes : Sort → Item → WaitingMessage → Bool
goes q x d = due q x d.gone && waits d

abbrev pub moved : Sort → Item → WaitingMessage → WaitingMessage
moved q x d = cond (goes q x d) (with_one_gone d) d

pub waiting_after : (m : SenderSetup) (s : SenderState) (w : Lists) (x : Item) (q : Sort) → waiting_of (item_result m s w x).state q ≡ moved q x (waiting_of s q)
unfolding item_result frame_result
waiting_after m s w FrameItem delays = refl
waiting_after m s w FrameItem protections = refl
waiting_after m s w Idle delays = refl
waiting_after m s w Idle protections = refl
waiting_after m s w (Basic mark) delays = refl
waiting_after m s w (Basic mark) protections = refl
waiting_after m s w Protection delays = kept (waits s.left.protection)
  where
    kept : (t : Bool) → waiting_of (cond t (gap_result s w (next_block s.left.protection) s.left.delay (with_one_gone s.left.protection)) (own_result s w idle_block)).state delays ≡ s.left.delay
    kept true = refl
    kept false = refl
waiting_after m s w Protection protections = gone (waits s.left.protection)
  where
    gone : (t : Bool) → waiting_of (cond t (gap_result s w (next_block s.left.protection) s.left.delay (with_one_gone s.left.protection)) (own_result s w idle_block)).state protections ≡ cond t (with_one_gone s.left.protection) s.left.protection
    gone true = refl
    gone false = refl
waiting_after m s w (Verification j) delays = refl
waiting_after m s w (Verification j) protections = refl
waiting_after m s w ClientSignal delays = refl
waiting_after m s w ClientSignal protections = refl
waiting_after m s w (Delay j) delays = gone (eqb j s.left.delay.gone && waits s.left.delay)
  where
    gone : (t : Bool) → waiting_of (cond t (gap_result s w (next_block s.left.delay) (with_one_gone s.left.delay) s.left.protection) (own_result s w idle_block)).state delays ≡ cond t (with_one_gone s.left.delay) s.left.delay
    gone true = refl
    gone false = refl
waiting_after m s w (Delay j) protections = kept (eqb j s.left.delay.gone && waits s.left.delay)
  where
    kept : (t : Bool) → waiting_of (cond t (gap_result s w (next_block s.left.delay) (with_one_gone s.left.delay) s.left.protection) (own_result s w idle_block)).state protections ≡ s.left.protection
    kept true = refl
    kept false = refl
waiting_after m s w Spare delays = refl
waiting_after m s w Spare protections = refl

sound_moved : (q : Sort) (d : WaitingMessage) (t : Bool) → SoundOf q d → SoundOf q (cond t (with_one_gone d) d)
sound_moved q d true h = record { all = h.all; few = h.few }
sound_moved q d false h = h

pub sound_item : (m : SenderSetup) (s : SenderState) (w : Lists) (x : Item) → Sound s → Sound (item_result m s w x).state
sound_item m s w x h q = subst (SoundOf q) (sym (waiting_after m s w x q)) (sound_moved q (waiting_of s q) (goes q x (waiting_of s q)) (h q))

pub sound_more : (s : SenderState) (rest : List Block) → Sound s → Sound (record s { rest = rest })
sound_more s rest h delays = h delays
sound_more s rest h protections = h protections

-- ---- leaving
pub accepted_is : (s : SenderState) (o : Option MessageToSend) (x : MessageToSend) → accepted_message s o ≡ Some x → o ≡ Some x
accepted_is s None x e = absurd (cc)
accepted_is s (Some y) x e = go (waits (waiting_of s y.sort)) e
  where
    go : (t : Bool) → cond t None (Some y) ≡ Some x → ◌≡◌ {A = Option MessageToSend} (Some y) (Some x)
    go true e = absurd (cc)
    go false e = e

sound_with : (s : SenderState) (x : MessageToSend) → IsSound x → Sound s → Sound (state_with s (Some x))
sound_with s x h k q = go x.sort refl q
  where
    go : (r : Sort) → x.sort ≡ r → (q : Sort) → SoundOf q (waiting_of (with_waiting s r (record { blocks = x.blocks; gone = 0 })) q)
    go delays e delays = record { all = h.all; few = omega (arith, h.few, ap most_blocks e) }
    go delays e protections = k protections
    go protections e delays = k delays
    go protections e protections = record { all = h.all; few = omega (arith, h.few, ap most_blocks e) }

pub sound_leave : (s : SenderState) (k : Option Kind) (vs : List ℕ) → Sound s → Sound (state_with s (accepted_message s (message_to_send k vs)))
sound_leave s k vs h = go (accepted_message s (message_to_send k vs)) refl
  where
    go : (o : Option MessageToSend) → accepted_message s (message_to_send k vs) ≡ o → Sound (state_with s o)
    go None e = h
    go (Some x) e = sound_with s x (to_send_sound k vs x (accepted_is s (message_to_send k vs) x e)) h

-- ---- what stands in the gap
-- the next block of a message that waits
pub next_message : (q : Sort) (d : WaitingMessage) → SoundOf q d → waits d ≡ true → is_message (next_block d) ≡ true
next_message q d h e = at_message d.blocks d.gone h.all (ltb-true d.gone (length d.blocks) e)

pub gap_stands : (m : SenderSetup) (s : SenderState) (w : Lists) (x : Item) → Sound s → is_frame x ≡ false → GapStands m (item_result m s w x).block x
unfolding item_result
gap_stands m s w FrameItem h t = absurd (both_ways true t refl)
gap_stands m s w Idle h t = refl
gap_stands m s w (Basic mark) h t = refl
gap_stands m s w Protection h t = go (waits s.left.protection) refl
  where
    go : (u : Bool) → waits s.left.protection ≡ u → IdleOrMessage (cond u (gap_result s w (next_block s.left.protection) s.left.delay (with_one_gone s.left.protection)) (own_result s w idle_block)).block
    go true e = inr (next_message protections s.left.protection (h protections) e)
    go false e = inl refl
gap_stands m s w (Verification j) h t = refl
gap_stands m s w ClientSignal h t = refl
gap_stands m s w (Delay j) h t = go (eqb j s.left.delay.gone && waits s.left.delay) refl
  where
    go : (u : Bool) → (eqb j s.left.delay.gone && waits s.left.delay) ≡ u → IdleOrMessage (cond u (gap_result s w (next_block s.left.delay) (with_one_gone s.left.delay) s.left.protection) (own_result s w idle_block)).block
    go true e = inr (next_message delays s.left.delay (h delays) (and_parts (eqb j s.left.delay.gone) (waits s.left.delay) e).1)
    go false e = inl refl
gap_stands m s w Spare h t = refl
