-- The first line of a sheet, found by its newline and by where its reading stops; and the lines behind it.
use Rattle.std.proofs.Common.{◌≡◌, ◌≢◌, ℕ, suc, ◌+◌, ◌<◌, ◌≤◌, Bool, true, false, not, ◌&&◌, cond, eqb, ltb, List, [], ◌∷◌, length, get_or, take, drop, is_some, Some, None, Option, sym, refl, ap, ◌∙◌, subst, ⊎_elim, arith}
use Rattle.std.proofs.lemmas.Option.{cond_some}
use Rattle.std.proofs.lemmas.List.{take_rest}
use Rattle.std.specs.List.{list_all, position, position_or_len}
use Rattle.std.proofs.lemmas.Bool.{cond-true, cond-false, cond_both, eqb-true, eq-eqb, false≢true, ltb-false, ltb-true}
use Rattle.std.proofs.lemmas.Bool.Decides.{eqb_tells}
use Rattle.form.specs.Cut.{cut_line, ended_text, longer_cut, text_with_byte}
use Rattle.form.specs.Marks.{LineOf, mark_of, all_marks, lines, lines_with_byte, first_line, first_line_with_byte, stops_line}
use Rattle.form.specs.Reads.{line_by}
use Rattle.form.proofs.Cuts.{cond_none, ended_more}

-- a line with one more byte in front
line_more : (c : ℕ) (cs rest : List ℕ) (o : Option (List ℕ)) → first_line_with_byte c (line_by cs o, rest) ≡ (line_by (c ∷ cs) (text_with_byte c o), rest)
line_more c cs rest None = refl
line_more c cs rest (Some t) = refl

-- the first line is the cut without its newline, or all of the sheet
pub first_cut : (s : List ℕ) → first_line s ≡ (line_by s (ended_text (cut_line s).0), (cut_line s).1)
first_cut [] = refl
first_cut (c ∷ cs) =
    let cut = cut_line cs in
    ⊎_elim
    (λ t. let e = t.0 in
    cond-true (eqb c 10) (record { text = []; ended = true }, cs) (first_line_with_byte c (first_line cs)) e
    ∙ ap (λ o. (line_by (c ∷ cs) o, cs)) (sym (cond-true (eqb c 10) (Some []) None e))
    ∙ ap (λ p. (line_by (c ∷ cs) (ended_text p.0), p.1)) (sym (cond-true (eqb c 10) (c ∷ [], cs) (longer_cut c cut) e)))
    (λ t. let e = t.0 in
    cond-false (eqb c 10) (record { text = []; ended = true }, cs) (first_line_with_byte c (first_line cs)) e
    ∙ ap (first_line_with_byte c) (first_cut cs)
    ∙ line_more c cs cut.1 (ended_text cut.0)
    ∙ ap (λ o. (line_by (c ∷ cs) o, cut.1)) (sym (ended_more c cut.0 e))
    ∙ ap (λ p. (line_by (c ∷ cs) (ended_text p.0), p.1)) (sym (cond-false (eqb c 10) (c ∷ [], cs) (longer_cut c cut) e)))
    (eqb_tells c 10)

-- whether a byte is a mark
abbrev pub is_mark : ℕ → Bool
is_mark c = is_some (mark_of c)

pub and_cond : (a b : Bool) → (a && b) ≡ cond a b false
and_cond true b = refl
and_cond false b = refl

-- a newline is a mark, so a line is marked with it or without
pub first_marked : (s : List ℕ) → list_all is_mark (cut_line s).0 ≡ all_marks (first_line s).0.text
first_marked [] = refl
first_marked (c ∷ cs) =
    ⊎_elim
    (λ t. let e = t.0 in
    ap (λ p. list_all is_mark p.0) (cond-true (eqb c 10) (c ∷ [], cs) (longer_cut c (cut_line cs)) e)
    ∙ ap (λ x. list_all is_mark (x ∷ [])) (eqb-true c 10 e)
    ∙ ap (λ p. all_marks p.0.text) (sym (cond-true (eqb c 10) (record { text = []; ended = true }, cs) (first_line_with_byte c (first_line cs)) e)))
    (λ t. let e = t.0 in
    ap (λ p. list_all is_mark p.0) (cond-false (eqb c 10) (c ∷ [], cs) (longer_cut c (cut_line cs)) e)
    ∙ and_cond (is_mark c) (list_all is_mark (cut_line cs).0)
    ∙ ap (λ b. cond (is_mark c) b false) (first_marked cs)
    ∙ ap (λ p. all_marks p.0.text) (sym (cond-false (eqb c 10) (record { text = []; ended = true }, cs) (first_line_with_byte c (first_line cs)) e)))
    (eqb_tells c 10)

-- what the first line is, by the place at which its reading stops
pub record StopsAt (s : List ℕ) (place : ℕ) (first : LineOf × List ℕ) : Type 0 where
  pub at_end : length s ≤ place → (first ≡ (line_by s None, [])) × (all_marks first.0.text ≡ true)
  pub at_newline : place < length s → get_or s place 0 ≡ 10 → (first ≡ (line_by s (Some (take place s)), drop (place + 1) s)) × (all_marks first.0.text ≡ true)
  pub at_bad_mark : place < length s → get_or s place 0 ≢ 10 → all_marks first.0.text ≡ false

module _ (c : ℕ) (cs : List ℕ) (place : ℕ) (first : LineOf × List ℕ) where
  stops_later : is_mark c ≡ true → StopsAt cs place first → StopsAt (c ∷ cs) (suc place) (first_line_with_byte c first)
  stops_later m h =
      let kept = cond-true (is_mark c) (all_marks first.0.text) false m in
      record {
        at_end = λ past. let r = h.at_end (omega arith) in (ap (first_line_with_byte c) r.0, kept ∙ r.1);
        at_newline = λ within is.
            let r = h.at_newline (omega arith) is in
            let behind : suc place + 1 ≡ suc (place + 1) = omega arith in
            (rw behind (ap (first_line_with_byte c) r.0), kept ∙ r.1);
        at_bad_mark = λ within other. kept ∙ h.at_bad_mark (omega arith) other;
      }

  stops_by :
      (newline mark : Bool) → eqb c 10 ≡ newline → is_mark c ≡ mark → StopsAt cs place first →
      StopsAt (c ∷ cs) (cond (not (cond newline true (not mark))) (1 + place) 0) (cond newline (record { text = []; ended = true }, cs) (first_line_with_byte c first))
  stops_by true mark e m h = record {
    at_end = λ past. absurd (omega arith);
    at_newline = λ within is. (refl, refl);
    at_bad_mark = λ within other. absurd (other (eqb-true c 10 e));
  }
  stops_by false false e m h = record {
    at_end = λ past. absurd (omega arith);
    at_newline = λ within is. absurd (false≢true (sym e ∙ eq-eqb c 10 is));
    at_bad_mark = λ within other. cond-false (is_mark c) (all_marks first.0.text) false m;
  }
  stops_by false true e m h =
      let more : suc place ≡ 1 + place = omega arith in
      subst (λ n. StopsAt (c ∷ cs) n (first_line_with_byte c first)) more (stops_later m h)

first_stop : (s : List ℕ) → StopsAt s (position_or_len stops_line s) (first_line s)
first_stop [] = record {
  at_end = λ past. (refl, refl);
  at_newline = λ within is. absurd (omega arith);
  at_bad_mark = λ within other. absurd (omega arith);
}
first_stop (c ∷ cs) = stops_by c cs (position_or_len stops_line cs) (first_line cs) (eqb c 10) (is_mark c) refl refl (first_stop cs)

module _ (s : List ℕ) (i : ℕ) (e : position stops_line s ≡ Some i) where
  stop_found : (i < length s) × StopsAt s i (first_line s)
  stop_found =
      let n = position_or_len stops_line s in
      let h = cond_some (ltb n (length s)) n i e in
      (subst (λ k. k < length s) h.1 (omega (arith, ltb-true n (length s) h.0)), subst (λ k. StopsAt s k (first_line s)) h.1 (first_stop s))

  pub line_before : get_or s i 0 ≡ 10 → (line_by s (Some (take i s)), drop (i + 1) s) ≡ first_line s
  line_before is = sym (stop_found.1.at_newline stop_found.0 is).0

  pub marks_before : get_or s i 0 ≡ 10 → true ≡ all_marks (first_line s).0.text
  marks_before is = sym (stop_found.1.at_newline stop_found.0 is).1

  pub bad_mark : get_or s i 0 ≢ 10 → false ≡ all_marks (first_line s).0.text
  bad_mark other = sym (stop_found.1.at_bad_mark stop_found.0 other)

module _ (s : List ℕ) (e : position stops_line s ≡ None) where
  stop_none : (first_line s ≡ (line_by s None, [])) × (all_marks (first_line s).0.text ≡ true)
  stop_none =
      let n = position_or_len stops_line s in
      (first_stop s).at_end (omega (arith, ltb-false n (length s) (cond_none (ltb n (length s)) n e)))

  pub line_whole : (line_by s None, []) ≡ first_line s
  line_whole = sym stop_none.0

  pub marks_whole : true ≡ all_marks (first_line s).0.text
  marks_whole = sym stop_none.1

-- what the first line is, by where its reading stops
pub ruleset first_stops = (line_before, marks_before, bad_mark, line_whole, marks_whole, take_rest)

lines_by : (c : ℕ) (cs : List ℕ) → lines_with_byte c (lines cs) ≡ (first_line_with_byte c (first_line cs)).0 ∷ lines (first_line cs).1 → lines (c ∷ cs) ≡ (first_line (c ∷ cs)).0 ∷ lines (first_line (c ∷ cs)).1
lines_by c cs more =
    let P : LineOf × List ℕ → List LineOf = λ p. p.0 ∷ lines p.1 in
    ⊎_elim
    (λ t. let e = t.0 in
    cond-true (eqb c 10) (record { text = []; ended = true } ∷ lines cs) (lines_with_byte c (lines cs)) e
    ∙ ap P (sym (cond-true (eqb c 10) (record { text = []; ended = true }, cs) (first_line_with_byte c (first_line cs)) e)))
    (λ t. let e = t.0 in
    cond-false (eqb c 10) (record { text = []; ended = true } ∷ lines cs) (lines_with_byte c (lines cs)) e
    ∙ more
    ∙ ap P (sym (cond-false (eqb c 10) (record { text = []; ended = true }, cs) (first_line_with_byte c (first_line cs)) e)))
    (eqb_tells c 10)

lines_first : (c : ℕ) (cs : List ℕ) → lines (c ∷ cs) ≡ (first_line (c ∷ cs)).0 ∷ lines (first_line (c ∷ cs)).1
lines_first c [] = lines_by c [] refl
lines_first c (d ∷ cs) = lines_by c (d ∷ cs) (ap (lines_with_byte c) (lines_first d cs))

-- the lines of a sheet are its first line and the lines of what follows
pub lines_from_first : (xs : List ℕ) → 0 < length xs → lines xs ≡ (first_line xs).0 ∷ lines (first_line xs).1
lines_from_first [] h = absurd (omega arith)
lines_from_first (c ∷ cs) h = lines_first c cs

rest_short : (xs : List ℕ) → length (first_line xs).1 ≤ length xs
rest_short [] = omega arith
rest_short (c ∷ cs) =
    let i = rest_short cs in
    cond_both (eqb c 10) (record { text = []; ended = true }, cs) (first_line_with_byte c (first_line cs)) (λ p. length p.1 ≤ length (c ∷ cs)) (λ e. omega arith) (λ e. omega arith)

pub rest_shorter : (xs : List ℕ) → 0 < length xs → length (first_line xs).1 < length xs
rest_shorter [] h = absurd (omega arith)
rest_shorter (c ∷ cs) h =
    let i = rest_short cs in
    cond_both (eqb c 10) (record { text = []; ended = true }, cs) (first_line_with_byte c (first_line cs)) (λ p. length p.1 < length (c ∷ cs)) (λ e. omega arith) (λ e. omega arith)
