-- A block's line, part by part: read, and written out.
use Rattle.std.proofs.Common.{◌≡◌, ℕ, zero, suc, ◌+◌, ◌*◌, ◌/◌, ◌<◌, Bool, true, false, cond, eqb, List, [], ◌∷◌, ◌++◌, length, get_or, Some, None, codes, Option, sym, refl, ap, ◌∙◌, subst, arith}
use Rattle.std.specs.List.{AllByRecursion}
use Rattle.std.proofs.lemmas.Bool.{and_from, and_parts, cond-true, eq-eqb, eqb-true}
use Rattle.std.proofs.lemmas.Option.{cond_some, none-some, same_Some}
use Rattle.block.specs.declared.Block.{Block}
use Rattle.block.specs.declared.Sync.{Sync}
use Rattle.block.specs.declared.Sync.TheVariants.{Zeros, Control, Data, Ones}
use Rattle.block.specs.Whole.{Bytes, Whole}
use Rattle.form.specs.Cut.{ended_text}
use Rattle.form.specs.Form.{bind, rest_after}
use Rattle.form.proofs.Cuts.{ended_is, ended_push}
use Rattle.form.proofs.Numbers.{bind_at, bind_some}
use Rattle.form.proofs.Words.{after_append, after_is}
use Rattle.packet_text.specs.Hex.{hex_bytes, hex_text, is_hex}
use Rattle.packet_text.proofs.Hex.{bytes_of_text, hex_parts, hex_text_is, length_hex_bytes}
use Rattle.block_text.specs.Lines.{BlocksRead, OnlyBlocksRead, block_bytes, block_form, block_line, leading_sync, sync_digits, sync_of}

-- bytes, said by place and one after another
pub all_bytes : (bs : List ℕ) → Bytes bs → AllByRecursion (λ b. b < 256) bs
all_bytes [] h = tt
all_bytes (b ∷ bs) h = (h 0, all_bytes bs (λ i. h (suc i)))

bytes_all : (bs : List ℕ) → AllByRecursion (λ b. b < 256) bs → Bytes bs
bytes_all [] h i = omega arith
bytes_all (b ∷ bs) h zero = h.0
bytes_all (b ∷ bs) h (suc i) = bytes_all bs h.1 i

-- sync bits as digits
sync_reads : (s : Sync) (rest : List ℕ) → leading_sync (sync_digits s ++ rest) ≡ Some (s, rest)
sync_reads Zeros rest = refl
sync_reads Control rest = refl
sync_reads Data rest = refl
sync_reads Ones rest = refl

sync_of_is : (a b : ℕ) (s : Sync) → sync_of a b ≡ Some s → a ∷ b ∷ [] ≡ sync_digits s
sync_of_is a b s e = go (eqb a 48) (eqb a 49) (eqb b 48) (eqb b 49) refl refl refl refl e
  where
    pair : (m n : ℕ) → a ≡ m → b ≡ n → a ∷ b ∷ [] ≡ m ∷ n ∷ []
    pair m n f g = rw (f, g) refl

    go : (p q r t : Bool) → eqb a 48 ≡ p → eqb a 49 ≡ q → eqb b 48 ≡ r → eqb b 49 ≡ t →
        cond p (cond r (Some Zeros) (cond t (Some Data) None)) (cond q (cond r (Some Control) (cond t (Some Ones) None)) None) ≡ Some s →
        a ∷ b ∷ [] ≡ sync_digits s
    go true q true t f g h i o = pair 48 48 (eqb-true a 48 f) (eqb-true b 48 h) ∙ ap sync_digits (same_Some _ _ o)
    go true q false true f g h i o = pair 48 49 (eqb-true a 48 f) (eqb-true b 49 i) ∙ ap sync_digits (same_Some _ _ o)
    go true q false false f g h i o = absurd (none-some _ o)
    go false true true t f g h i o = pair 49 48 (eqb-true a 49 g) (eqb-true b 48 h) ∙ ap sync_digits (same_Some _ _ o)
    go false true false true f g h i o = pair 49 49 (eqb-true a 49 g) (eqb-true b 49 i) ∙ ap sync_digits (same_Some _ _ o)
    go false true false false f g h i o = absurd (none-some _ o)
    go false false r t f g h i o = absurd (none-some _ o)

sync_is : (xs : List ℕ) (q : Sync × List ℕ) → leading_sync xs ≡ Some q → xs ≡ sync_digits q.0 ++ q.1
sync_is [] q e = absurd (none-some _ e)
sync_is (a ∷ []) q e = absurd (none-some _ e)
sync_is (a ∷ b ∷ xs) q e =
    let n = bind_some (sync_of a b) (λ s. Some (s, xs)) q e in
    let same : (n.0, xs) ≡ q = same_Some _ _ n.2 in
    ap (λ t. t ++ xs) (sync_of_is a b n.0 n.1) ∙ ap (λ p. sync_digits p.0 ++ p.1) same

-- sixteen digits and the eight bytes that they write
bytes_read : (bs : List ℕ) → length bs ≡ 8 → AllByRecursion (λ b. b < 256) bs → block_bytes (hex_text bs) ≡ Some bs
bytes_read bs n all =
    let t = bytes_of_text bs all in
    cond-true _ (Some (hex_bytes (hex_text bs))) None (and_from (is_hex (hex_text bs)) (eqb (length (hex_text bs)) 16) (hex_text_is bs all) (eq-eqb (length (hex_text bs)) 16 (omega (arith, t.1, n))))
    ∙ ap Some t.2

bytes_are : (digits bs : List ℕ) → block_bytes digits ≡ Some bs → (length bs ≡ 8) × AllByRecursion (λ b. b < 256) bs × (digits ≡ hex_text bs)
bytes_are digits bs e =
    let c = cond_some _ (hex_bytes digits) bs e in
    let both = and_parts (is_hex digits) (eqb (length digits) 16) c.0 in
    let long = eqb-true (length digits) 16 both.1 in
    let h = hex_parts digits both.0 in
    let P : List ℕ → Type 0 = λ t. (length t ≡ 8) × AllByRecursion (λ b. b < 256) t × (digits ≡ hex_text t) in
    subst P c.1 (omega (arith, length_hex_bytes digits, long), h.0, sym h.1)

-- the steps of a line, by what each gives
abbrev digits_by : Sync → List ℕ → Option Block
digits_by s digits = bind (block_bytes digits) λ bytes. Some (record { sync = s; bytes = bytes })

abbrev rest_by : Sync → List ℕ → Option Block
rest_by s rest = bind (ended_text rest) (digits_by s)

abbrev sync_by : Sync × List ℕ → Option Block
sync_by sync = bind (rest_after (codes " ") sync.1) (rest_by sync.0)

pub blocks_read : BlocksRead
blocks_read b w =
    let digits = hex_text b.bytes in
    let rest = digits ++ (10 ∷ []) in
    bind_at (leading_sync (block_line b)) sync_by (b.sync, 32 ∷ rest) (sync_reads b.sync (32 ∷ rest))
    ∙ bind_at (rest_after (codes " ") (32 ∷ rest)) (rest_by b.sync) rest (after_append (codes " ") rest)
    ∙ bind_at (ended_text rest) (digits_by b.sync) digits (ended_push digits 10)
    ∙ bind_at (block_bytes digits) (λ bytes. Some (record { sync = b.sync; bytes = bytes })) b.bytes (bytes_read b.bytes w.0 (all_bytes b.bytes w.1))

pub only_blocks_read : OnlyBlocksRead
only_blocks_read xs b e =
    let s = bind_some (leading_sync xs) sync_by b e in
    let sync : Sync × List ℕ = s.0 in
    let r = bind_some (rest_after (codes " ") sync.1) (rest_by sync.0) b s.2 in
    let d = bind_some (ended_text r.0) (digits_by sync.0) b r.2 in
    let y = bind_some (block_bytes d.0) (λ bytes. Some (record { sync = sync.0; bytes = bytes })) b d.2 in
    let is = bytes_are d.0 y.0 y.1 in
    let same : record { sync = sync.0; bytes = y.0 } ≡ b = same_Some _ _ y.2 in
    let line : xs ≡ sync_digits sync.0 ++ (32 ∷ (hex_text y.0 ++ (10 ∷ []))) =
    sync_is xs sync s.1
    ∙ ap (λ t. sync_digits sync.0 ++ t) (after_is (codes " ") sync.1 r.0 r.1 ∙ ap (λ t. 32 ∷ t) (ended_is r.0 d.0 d.1 ∙ ap (λ t. t ++ (10 ∷ [])) is.2)) in
    let P : Block → Type 0 = λ c. Whole c × (xs ≡ block_line c) in
    subst P same ((is.0, bytes_all y.0 is.1), line)
