-- What is known of messages and their blocks.
use Rattle.std.proofs.Common.{◌≡◌, ℕ, zero, suc, ◌+◌, ◌<◌, ◌≤◌, Bool, true, false, cond, eqb, List, [], ◌∷◌, ◌++◌, length, get_or, Some, None, Option, refl, ap, inl, inr, arith, subst}
use Rattle.std.specs.List.{list_all}
use Rattle.std.proofs.lemmas.Bool.{eqb-true, and_parts, and_from, both_ways}
use Rattle.block.specs.declared.Sync.{Sync}
use Rattle.block.specs.declared.Sync.TheVariants.{Zeros, Control, Data, Ones}
use Rattle.block.specs.declared.Block.{Block}
use Rattle.block.specs.Fixed.{idle_block}
use Rattle.message.specs.declared.Kind.{Kind}
use Rattle.message.specs.declared.Kind.TheVariants.{Basic, Aps, Cv, OneDm, TwoDmm, TwoDmr, Cs}
use Rattle.message.specs.declared.Mark.{Mark}
use Rattle.message.specs.declared.Mark.TheVariants.{Start, End}
use Rattle.message.specs.declared.MessageBlock.{MessageBlock}
use Rattle.message.specs.Kinds.{block_count_of}
use Rattle.message.specs.Blocks.{message_block, message_in_bytes}
use Rattle.message.specs.Values.{filled_values, lawful, map_pairs}
use Rattle.message.specs.Written.{message_block_at, basic_block, message_blocks}
use Rattle.message.proofs.ReadBacks.{read_back}
use Rattle.message.proofs.Writes.{some_blocks}
use Rattle.message.proofs.Laws.{laws}
use Rattle.sending.specs.Blocks.{is_start_block, is_end_block, is_idle_block}
use Rattle.sending.specs.Messages.{is_message, cv_block, cs_block}
use Rattle.waiting.specs.Messages.{sort_of, MessageToSend, message_of_kind, message_to_send}
use Rattle.waiting.specs.declared.Sort.{Sort}
use Rattle.waiting.specs.declared.Sort.TheVariants.{Delay as delays, Protection as protections}
use Rattle.sending.specs.LineLaws.{IdleOrMessage}

abbrev pub all_messages : List Block → Bool
all_messages = list_all is_message

message_is : (k : Kind) (s e : Bool) (a b : ℕ) → is_message (message_block k s e a b) ≡ true
unfolding is_message
message_is k s e a b = ap (λ (o : Option MessageBlock). elim o [ None ↦ false | Some m ↦ true ]) (read_back k s e a b)

all_paired : (k : Kind) (j : ℕ) (us : List ℕ) → all_messages (map_pairs (message_block_at k) j us) ≡ true
all_paired k j [] = refl
all_paired k j (a ∷ []) = refl
all_paired k j (a ∷ b ∷ us) = and_from (is_message (message_block_at k j a b)) (all_messages (map_pairs (message_block_at k) (suc j) us)) (message_is k (eqb j 0) (eqb (j + 1) (block_count_of k)) a b) (all_paired k (suc j) us)

pub basic_message : (mark : Mark) → is_message (basic_block mark) ≡ true
basic_message Start = message_is Basic true false 0 0
basic_message End = message_is Basic false true 0 0

pub idle_idle : is_idle_block idle_block ≡ true
unfolding is_idle_block
idle_idle = refl

pub at_message : (bs : List Block) (i : ℕ) → all_messages bs ≡ true → i < length bs → is_message (get_or bs i idle_block) ≡ true
at_message [] i h k = absurd (omega arith)
at_message (b ∷ bs) zero h k = (and_parts (is_message b) (all_messages bs) h).0
at_message (b ∷ bs) (suc i) h k = at_message bs i (and_parts (is_message b) (all_messages bs) h).1 (omega arith)

sort_at : (bs : List Block) (i : ℕ) → all_messages bs ≡ true → IdleOrMessage (get_or bs i idle_block)
sort_at [] i h = inl refl
sort_at (b ∷ bs) zero h = inr (and_parts (is_message b) (all_messages bs) h).0
sort_at (b ∷ bs) (suc i) h = sort_at bs i (and_parts (is_message b) (all_messages bs) h).1

pub cv_sort : (t : List ℕ) (i : ℕ) → IdleOrMessage (cv_block t i)
unfolding cv_block
cv_sort t i = sort_at (map_pairs (message_block_at Cv) 0 (filled_values (t ++ 0 ∷ 0 ∷ []))) i (all_paired Cv 0 (filled_values (t ++ 0 ∷ 0 ∷ [])))

pub cs_sort : IdleOrMessage cs_block
unfolding cs_block
cs_sort = sort_at (map_pairs (message_block_at Cs) 0 (filled_values (3 ∷ 0 ∷ []))) 0 (all_paired Cs 0 (filled_values (3 ∷ 0 ∷ [])))

-- ---- messages that are left
abbrev pub most_blocks : Sort → ℕ
most_blocks delays = 13
most_blocks protections = 2

pub record IsSound (x : MessageToSend) : Type 0 where
  pub all : all_messages x.blocks ≡ true
  pub some : 0 < length x.blocks
  pub few : length x.blocks ≤ most_blocks x.sort

few_of : (k : Kind) (q r : Sort) → q ≡ r → block_count_of k ≤ most_blocks q → block_count_of k ≤ most_blocks r
few_of k q r e h = subst (λ (x : Sort). block_count_of k ≤ most_blocks x) e h

few_blocks : (k : Kind) (q : Sort) → sort_of k ≡ Some q → block_count_of k ≤ most_blocks q
few_blocks Basic q e = absurd (cc)
few_blocks Aps q e = few_of Aps protections q (cc) (omega arith)
few_blocks Cv q e = absurd (cc)
few_blocks OneDm q e = few_of OneDm delays q (cc) (omega arith)
few_blocks TwoDmm q e = few_of TwoDmm delays q (cc) (omega arith)
few_blocks TwoDmr q e = few_of TwoDmr delays q (cc) (omega arith)
few_blocks Cs q e = absurd (cc)

message_sound : (k : Kind) (vs : List ℕ) (q : Sort) → sort_of k ≡ Some q → lawful k vs ≡ true → IsSound (record { sort = q; blocks = message_blocks k (filled_values vs) })
message_sound k vs q e h = record {
  all = all_paired k 0 (filled_values vs);
  some = omega (arith, laws.block_count k vs h, some_blocks k);
  few = omega (arith, laws.block_count k vs h, few_blocks k q e);
}

made_by : (k : Kind) (vs : List ℕ) (x : MessageToSend) → message_of_kind k vs ≡ Some x → IsSound x
unfolding message_of_kind
made_by k vs x e = go (lawful k vs) (sort_of k) refl refl
  where
    go : (t : Bool) (o : Option Sort) → lawful k vs ≡ t → sort_of k ≡ o → IsSound x
    go true (Some q) p r =
        let f = rw (p, r) at e in
        let z : ◌≡◌ {A = MessageToSend} (record { sort = q; blocks = message_blocks k (filled_values vs) }) x = cc in
        subst IsSound z (message_sound k vs q r p)
    go true None p r = let f = rw (p, r) at e in absurd (cc)
    go false o p r = let f = rw p at e in absurd (cc)

pub to_send_sound : (k : Option Kind) (vs : List ℕ) (x : MessageToSend) → message_to_send k vs ≡ Some x → IsSound x
to_send_sound None vs x e = absurd (cc)
to_send_sound (Some k) vs x e = made_by k vs x e

-- ---- no message is a start, an end or an idle
option_true : (o : Option MessageBlock) → elim o [ None ↦ false | Some m ↦ true ] ≡ true → (m : MessageBlock) × (o ≡ Some m)
option_true None e = absurd (both_ways false refl e)
option_true (Some m) e = (m, refl)

cond_some : {X : Type 0} (t : Bool) (x m : X) → cond t (Some x) None ≡ Some m → t ≡ true
cond_some true x m e = refl
cond_some false x m e = absurd (cc)

said_type : (bytes : List ℕ) (m : MessageBlock) → message_in_bytes bytes ≡ Some m → get_or bytes 0 0 ≡ 0x4B
said_type bytes m e =
    let c = cond_some _ _ m e in
    eqb-true (get_or bytes 0 0) 0x4B (and_parts _ _ c).0

abbrev of : Sync → List ℕ → Block
of s bytes = record { sync = s; bytes = bytes }

no_start : (s : Sync) (bytes : List ℕ) → is_message (of s bytes) ≡ true → is_start_block (of s bytes) ≡ false
unfolding is_message is_start_block
no_start Zeros bytes h = refl
no_start Control bytes h =
    let o = option_true (message_in_bytes bytes) h in
    rw (said_type bytes o.0 o.1) refl
no_start Data bytes h = refl
no_start Ones bytes h = refl

no_idle : (s : Sync) (bytes : List ℕ) → is_message (of s bytes) ≡ true → is_idle_block (of s bytes) ≡ false
unfolding is_message is_idle_block
no_idle Zeros bytes h = refl
no_idle Control bytes h =
    let o = option_true (message_in_bytes bytes) h in
    rw (said_type bytes o.0 o.1) refl
no_idle Data bytes h = refl
no_idle Ones bytes h = refl

pub message_no_idle : (b : Block) → is_message b ≡ true → is_idle_block b ≡ false
message_no_idle b h = no_idle b.sync b.bytes h

pub gap_no_start : (b : Block) → IdleOrMessage b → is_start_block b ≡ false
unfolding is_start_block
gap_no_start b (inl e) = rw e refl
gap_no_start b (inr h) = no_start b.sync b.bytes h

no_end : (s : Sync) (bytes : List ℕ) → is_message (of s bytes) ≡ true → is_end_block (of s bytes) ≡ false
unfolding is_message is_end_block
no_end Zeros bytes h = refl
no_end Control bytes h =
    let o = option_true (message_in_bytes bytes) h in
    rw (said_type bytes o.0 o.1) refl
no_end Data bytes h = refl
no_end Ones bytes h = refl

pub gap_no_end : (b : Block) → IdleOrMessage b → is_end_block b ≡ false
unfolding is_end_block
gap_no_end b (inl e) = rw e refl
gap_no_end b (inr h) = no_end b.sync b.bytes h
