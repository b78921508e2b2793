-- A line's packet, and what lines bring one after another.
use Rattle.std.proofs.Common.{◌≡◌, ℕ, ◌+◌, ◌*◌, ◌<◌, ◌≤◌, Bool, true, false, cond, eqb, leb, List, [], ◌∷◌, ◌++◌, length, take, drop, Some, None, Ok, Err, Option, Result, codes, decimal, sym, refl, ap, ◌∙◌, subst, append_assoc, append-nil, arith}
use Rattle.std.proofs.Math.Path.{fun_ext}
use Rattle.std.specs.List.{AllByRecursion, flat_map}
use Rattle.std.proofs.lemmas.List.{length-append, nil_from_length}
use Rattle.std.proofs.lemmas.List.Concat.{flat_map-cons}
use Rattle.std.proofs.lemmas.Bool.{cond-true, eqb-true, le-leb}
use Rattle.std.proofs.lemmas.Option.{none-some, same_Some}
use Rattle.block.specs.declared.Block.{Block}
use Rattle.refusal.specs.declared.Refusal.{Refusal}
use Rattle.refusal.specs.declared.Refusal.TheVariants.{FormBroken, OutputTooShort}
use Rattle.port.specs.Model.{Lists, updated_lists}
use Rattle.packet.specs.Format.{packet_blocks}
use Rattle.packet_text.specs.declared.PacketLine.{PacketLine}
use Rattle.packet_text.specs.Hex.{hex_text}
use Rattle.packet_text.specs.Lines.{packet_line_form, packet_line_text, line_answer}
use Rattle.packet_text.proofs.Forms.{only_lines_read}
use Rattle.packet_text.proofs.Hex.{bytes_of_text}
use Rattle.packet_lines.specs.declared.LineError.{LineError}
use Rattle.packet_lines.specs.declared.LineError.TheVariants.{NoSlot, Refused}
use Rattle.packet_lines.specs.declared.BadLine.{BadLine}
use Rattle.packet_lines.specs.declared.ReadError.{ReadError}
use Rattle.packet_lines.specs.declared.ReadError.TheVariants.{Line, Memory}
use Rattle.packet_lines.specs.Lines.{text_lines}
use Rattle.packet_lines.specs.Reading.{IsReason, bad_or, blocks_brought, by_form, first_bad, joined_lists, lists_of, packet_of}
use Rattle.packet_lines.proofs.Lines.{next_line}

-- a line is longer than its packet
packet_shorter : (line : List ℕ) (p : ℕ × List ℕ) → packet_line_form line ≡ Some p → length p.1 ≤ length line
packet_shorter line p e =
    let is = only_lines_read line p.0 p.1 e in
    let hex = bytes_of_text p.1 is.1 in
    let long : length line ≡ length (packet_line_text p.0 p.1) = ap length is.2 in
    let rest = length-append (hex_text p.1) (codes "\n") in
    let whole = length-append (decimal p.0) (codes " " ++ (hex_text p.1 ++ codes "\n")) in
    omega (arith, long, rest, whole, hex.1)

-- an output as long as the line is long enough, so only the form is refused
pub refused_by_form : (entries line : List ℕ) (n : ℕ) (cause : Refusal) → length line ≤ n → Err cause ≡ line_answer (packet_line_form line) n → packet_of entries line ≡ Err (Refused cause)
refused_by_form entries line n cause l e = go (packet_line_form line) refl
  where
    go : (o : Option (ℕ × List ℕ)) → packet_line_form line ≡ o → packet_of entries line ≡ Err (Refused cause)
    go None f =
        let r : Err cause ≡ line_answer None n = e ∙ ap (λ o. line_answer o n) f in
        let same : FormBroken ≡ cause = cc in
        ap (by_form entries) f ∙ ap (λ c. Err (Refused c)) same
    go (Some p) f =
        let fits = le-leb (length p.1) n (omega (arith, packet_shorter line p f, l)) in
        let r : ◌≡◌ {A = Result PacketLine Refusal} (Err cause) (Ok (record { client = p.0; length = length p.1 })) =
        e ∙ ap (λ o. line_answer o n) f ∙ cond-true (leb (length p.1) n) (Ok (record { client = p.0; length = length p.1 })) (Err OutputTooShort) fits in
        let z : ◌≡◌ {A = ℕ} 0 1 = cc in absurd (omega arith)

-- a packet put behind those of its client is what its line brings
pub added : (lists : Lists) (c : ℕ) (packet : List ℕ) → updated_lists lists c (lists c ++ packet_blocks packet) ≡ joined_lists lists (blocks_brought (Ok (c, packet)))
added lists c packet = fun_ext (λ k. go k (eqb k c) refl)
  where
    go : (k : ℕ) (t : Bool) → eqb k c ≡ t → cond t (lists c ++ packet_blocks packet) (lists k) ≡ lists k ++ cond t (packet_blocks packet) []
    go k true e = ap (λ j. lists j ++ packet_blocks packet) (sym (eqb-true k c e))
    go k false e = sym (append-nil (lists k))

-- one more line is read
module _ (entries rest line behind : List ℕ) (n : ℕ) (first : text_lines rest ≡ line ∷ text_lines behind) where
  -- it is taken, so the first that is not is behind it
  pub bad_behind : bad_or (packet_of entries line) n None ≡ None → first_bad entries n (text_lines rest) ≡ first_bad entries (n + 1) (text_lines behind)
  bad_behind e = ap (first_bad entries n) first ∙ go (packet_of entries line) e
    where
      go : (p : Result (ℕ × List ℕ) LineError) → bad_or p n None ≡ None → bad_or p n (first_bad entries (n + 1) (text_lines behind)) ≡ first_bad entries (n + 1) (text_lines behind)
      go (Ok p) f = refl
      go (Err error) f = absurd (none-some _ (sym f))

  -- it is not, so it is the first
  pub bad_here : (bad : BadLine) → bad_or (packet_of entries line) n None ≡ Some bad → first_bad entries n (text_lines rest) ≡ Some bad
  bad_here bad e = ap (first_bad entries n) first ∙ go (packet_of entries line) e
    where
      go : (p : Result (ℕ × List ℕ) LineError) → bad_or p n None ≡ Some bad → bad_or p n (first_bad entries (n + 1) (text_lines behind)) ≡ Some bad
      go (Ok p) f = absurd (none-some _ f)
      go (Err error) f = f

  -- what waits and what the lines bring
  pub lists_behind : (lists : Lists) → joined_lists (joined_lists lists (blocks_brought (packet_of entries line))) (lists_of entries (text_lines behind)) ≡ joined_lists lists (lists_of entries (text_lines rest))
  lists_behind lists =
      fun_ext (λ k. sym (ap (λ ls. lists k ++ lists_of entries ls k) first ∙ ap (λ l. lists k ++ l) (flat_map-cons (λ l. blocks_brought (packet_of entries l) k) line (text_lines behind))
      ∙ sym (append_assoc (lists k) (blocks_brought (packet_of entries line) k) (lists_of entries (text_lines behind) k))))

-- nothing is left
pub lists_end : (entries rest : List ℕ) (lists : Lists) → length rest ≡ 0 → joined_lists lists (lists_of entries (text_lines rest)) ≡ lists
lists_end entries rest lists e = rw (nil_from_length rest e) (fun_ext (λ k. append-nil (lists k)))

-- why reading ends at a line
pub reason_here : (entries rest line behind : List ℕ) (n : ℕ) (first : text_lines rest ≡ line ∷ text_lines behind) (error : ReadError) → IsReason (bad_or (packet_of entries line) n None) error → IsReason (first_bad entries n (text_lines rest)) error
reason_here entries rest line behind n first (Line bad) e = bad_here entries rest line behind n first bad e
reason_here entries rest line behind n first Memory e = tt
