-- A line's parts one after another: read, and written out.
use Rattle.std.proofs.lemmas.Option.{cond_some}
use Rattle.std.proofs.Common.{◌≡◌, ℕ, ◌+◌, ◌/◌, ◌%◌, ◌<◌, ◌≤◌, true, cond, ltb, List, [], ◌∷◌, ◌++◌, Some, None, codes, decimal, Option, sym, refl, ap, ◌∙◌, subst, ⊎_elim, arith}
use Rattle.std.specs.List.{AllByRecursion}
use Rattle.std.proofs.lemmas.Fmt.{decimal_digit, decimal_step}
use Rattle.std.proofs.lemmas.Bool.{cases_lt, cond-false, cond-true, le-ltb, lt-ltb}
use Rattle.form.specs.Cut.{ended_text}
use Rattle.form.specs.Form.{rest_after, bind, number}
use Rattle.form.specs.Lease as lease
use Rattle.form.proofs.Numbers.{bind_at, bind_some, number_is, number_reads}
use Rattle.form.proofs.Cuts.{ended_is, ended_push}
use Rattle.form.proofs.Words.{after_append, after_is}
use Rattle.packet_text.specs.Hex.{hex_bytes, hex_text, is_hex}
use Rattle.packet_text.specs.Lines.{LinesRead, OnlyLinesRead, packet_line_parts, packet_line_text}
use Rattle.packet_text.proofs.Hex.{bytes_of_text, hex_parts, hex_text_is}

two_digits : (n : ℕ) → 10 ≤ n → n < 100 → decimal n ≡ (48 + n / 10) ∷ (48 + n % 10) ∷ []
two_digits n low high =
    decimal_step n low (omega arith) ∙ ap (λ t. t ++ ((48 + n % 10) ∷ [])) (decimal_digit (n / 10) (omega arith))

three_digits : (n : ℕ) → 100 ≤ n → n < 1000 → decimal n ≡ (48 + n / 100) ∷ (48 + n / 10 % 10) ∷ (48 + n % 10) ∷ []
three_digits n low high =
    let e : n / 10 / 10 ≡ n / 100 = omega arith in
    decimal_step n (omega arith) (omega arith)
    ∙ ap (λ t. t ++ ((48 + n % 10) ∷ [])) (two_digits (n / 10) (omega arith) (omega arith))
    ∙ ap (λ k. (48 + k) ∷ (48 + n / 10 % 10) ∷ (48 + n % 10) ∷ []) e

-- a number below 1,000 has one way to be written in decimal
same_decimal : (n : ℕ) → n < 1000 → lease.short_decimal n ≡ decimal n
same_decimal n h =
    let long = cond (ltb n 100) ((48 + n / 10) ∷ (48 + n % 10) ∷ []) ((48 + n / 100) ∷ (48 + n / 10 % 10) ∷ (48 + n % 10) ∷ []) in
    ⊎_elim
    (λ a. cond-true (ltb n 10) ((48 + n) ∷ []) long (lt-ltb n 10 a) ∙ sym (decimal_digit n a))
    (λ a. cond-false (ltb n 10) ((48 + n) ∷ []) long (le-ltb n 10 a)
    ∙ ⊎_elim
    (λ b. cond-true (ltb n 100) _ _ (lt-ltb n 100 b) ∙ sym (two_digits n a b))
    (λ b. cond-false (ltb n 100) _ _ (le-ltb n 100 b) ∙ sym (three_digits n b h))
    (cases_lt n 100))
    (cases_lt n 10)

-- the steps of a line, by what each gives
abbrev bytes_by : ℕ × List ℕ → Option (ℕ × List ℕ)
bytes_by parts = Some (parts.0, hex_bytes parts.1)

abbrev pub digits_by : ℕ → List ℕ → Option (ℕ × List ℕ)
digits_by client digits = cond (is_hex digits) (Some (client, digits)) None

abbrev pub rest_by : ℕ → List ℕ → Option (ℕ × List ℕ)
rest_by client rest = bind (ended_text rest) (digits_by client)

abbrev client_by : ℕ × List ℕ → Option (ℕ × List ℕ)
client_by client = bind (rest_after (codes " ") client.1) (rest_by client.0)

pub lines_read : LinesRead
lines_read c bs small all =
    let digits = hex_text bs in
    let rest = digits ++ (10 ∷ []) in
    let parts : packet_line_parts (packet_line_text c bs) ≡ Some (c, digits) =
    ap (λ t. packet_line_parts (t ++ (32 ∷ rest))) (sym (same_decimal c small))
    ∙ bind_at (number (lease.short_decimal c ++ (32 ∷ rest))) client_by (c, 32 ∷ rest) (number_reads 32 rest refl c small)
    ∙ bind_at (rest_after (codes " ") (32 ∷ rest)) (rest_by c) rest (after_append (codes " ") rest)
    ∙ bind_at (ended_text rest) (digits_by c) digits (ended_push digits 10)
    ∙ cond-true (is_hex digits) (Some (c, digits)) None (hex_text_is bs all) in
    bind_at (packet_line_parts (packet_line_text c bs)) bytes_by (c, digits) parts ∙ ap (λ t. Some (c, t)) (bytes_of_text bs all).2

-- a line's parts are the line
parts_are : (xs : List ℕ) (q : ℕ × List ℕ) → packet_line_parts xs ≡ Some q → (q.0 < 1000) × (is_hex q.1 ≡ true) × (xs ≡ decimal q.0 ++ (32 ∷ (q.1 ++ (10 ∷ []))))
parts_are xs q e =
    let n = bind_some (number xs) client_by q e in
    let client : ℕ × List ℕ = n.0 in
    let r = bind_some (rest_after (codes " ") client.1) (rest_by client.0) q n.2 in
    let d = bind_some (ended_text r.0) (digits_by client.0) q r.2 in
    let h = cond_some (is_hex d.0) (client.0, d.0) q d.2 in
    let number_at = number_is xs client.1 client.0 n.1 in
    let rest_at : client.1 ≡ 32 ∷ r.0 = after_is (codes " ") client.1 r.0 r.1 in
    let end_at : r.0 ≡ d.0 ++ (10 ∷ []) = ended_is r.0 d.0 d.1 in
    let line : xs ≡ decimal client.0 ++ (32 ∷ (d.0 ++ (10 ∷ []))) =
    number_at.1
    ∙ ap (λ t. t ++ client.1) (same_decimal client.0 number_at.0)
    ∙ ap (λ t. decimal client.0 ++ t) (rest_at ∙ ap (λ t. 32 ∷ t) end_at) in
    let P : ℕ × List ℕ → Type 0 = λ p. (p.0 < 1000) × (is_hex p.1 ≡ true) × (xs ≡ decimal p.0 ++ (32 ∷ (p.1 ++ (10 ∷ [])))) in
    subst P h.1 (number_at.0, h.0, line)

pub only_lines_read : OnlyLinesRead
only_lines_read xs c bs e =
    let p = bind_some (packet_line_parts xs) bytes_by (c, bs) e in
    let q : ℕ × List ℕ = p.0 in
    let is = parts_are xs q p.1 in
    let hex = hex_parts q.1 is.1 in
    let pair : ◌≡◌ {A = ℕ × List ℕ} (q.0, hex_bytes q.1) (c, bs) = (let f = p.2 in cc) in
    let client : q.0 ≡ c = ap (λ r. r.0) pair in
    let bytes : hex_bytes q.1 ≡ bs = ap (λ r. r.1) pair in
    let P : ℕ → Type 0 = λ n. n < 1000 in
    let Q : List ℕ → Type 0 = λ t. AllByRecursion (λ b. b < 256) t in (
      subst P client is.0,
      subst Q bytes hex.0,
      is.2
          ∙ ap (λ n. decimal n ++ (32 ∷ (q.1 ++ (10 ∷ [])))) client
          ∙ ap (λ t. decimal c ++ (32 ∷ (t ++ (10 ∷ [])))) (sym hex.1 ∙ ap hex_text bytes),
    )
