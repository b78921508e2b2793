-- The laws of the sheet: lawful leases are accepted, nothing else is, and the first fault refuses.
use Rattle.std.proofs.lemmas.Bool.{false≢true}
use Rattle.std.proofs.lemmas.Option.{same_Some}
use Rattle.std.proofs.Common.{◌≡◌, ℕ, ◌+◌, ◌-◌, ◌<◌, ◌≤◌, Bool, true, false, ltb, ◌⊎◌, List, [], ◌∷◌, ◌++◌, length, replicate, is_some, is_ok, Some, None, Ok, Err, Option, Result, sym, refl, ap, ◌∙◌, subst, inl, inr, ⊎_elim, arith, MatchResult}
use Rattle.std.proofs.lemmas.List.{append_assoc, append-nil, get_or-replicate, length_push}
use Rattle.std.proofs.lemmas.Bool.{cond-true, cond-false, cases_Bool, ltb-true, ltb-false}
use Rattle.refusal.specs.declared.Refusal.TheVariants.{MarkNotAllowed, FormBroken}
use Rattle.refusal.specs.declared.Level.TheVariants.{Marks, Forms}
use Rattle.refusal.specs.declared.SheetRefusal.{SheetRefusal}
use Rattle.form.specs.Lease.{Lease, Writable, lease_text}
use Rattle.form.specs.Marks.{LineOf, lines, all_marks, mark_of}
use Rattle.form.specs.Form as forms
use Rattle.form.specs.declared.Mark.{Mark}
use Rattle.form.proofs.Texts.{form_is, form_reads}
use Rattle.form.proofs.Plain.{lines_rejoined, plain_lease, plain_line, plain_marked, rejoined}
use Rattle.sheet.specs.Verdict.{chain, lines_verdict, lease_verdict, lease_line_form, line_verdict, longest_sheet, refusal_at, verdict}
use Rattle.sheet.specs.Laws.{Apart, Breaks, EachLawful, Gives, InRange, Lawful, Leases, RefusedSheet, Rule, WritesOut, StandsAt, cause_of, client, form, groups_of, level_of, marks, order, range, sheet_text, slot, lease_line, lease_lines}
use Rattle.sheet.proofs.Leased.{apart_parts, each_last, groups_append, each_prefix}
use Rattle.sheet.proofs.Steps.{not_long}
use Rattle.sheet.proofs.Weighing.{State, Fault, err_ok, ok_err, ok_same, err_same, far, again, clash, lease_fails, lease_ok, lease_reads, writable}

-- marks

pub no_bad_mark : (xs : List ℕ) (c : ℕ) → all_marks xs ≡ true → StandsAt c xs → mark_of c ≡ None → ⊥
no_bad_mark [] c e h z = h
no_bad_mark (x ∷ xs) c e h z =
    ⊎_elim
    (λ t. ⊎_elim
    (λ q. false≢true (ap is_some (sym z ∙ ap mark_of (sym q)) ∙ t))
    (λ q. no_bad_mark xs c (sym (cond-true (is_some (mark_of x)) (all_marks xs) false t) ∙ e) q z) h)
    (λ t. false≢true (sym (cond-false (is_some (mark_of x)) (all_marks xs) false t) ∙ e))
    (cases_Bool (is_some (mark_of x)))

none_of : (o : Option Mark) → is_some o ≡ false → o ≡ None
none_of None e = refl
none_of (Some x) e = absurd (false≢true (sym e))

pub bad_mark : (xs : List ℕ) → all_marks xs ≡ false → (c : ℕ) × StandsAt c xs × (mark_of c ≡ None)
bad_mark [] e = absurd (false≢true (sym e))
bad_mark (x ∷ xs) e =
    ⊎_elim
    (λ t. let r = bad_mark xs (sym (cond-true (is_some (mark_of x)) (all_marks xs) false t) ∙ e) in (r.0, inr r.1, r.2))
    (λ t. (x, inl refl, none_of (mark_of x) t))
    (cases_Bool (is_some (mark_of x)))

-- forms

written_same : (l m : Lease) → Writable l → Writable m → lease_line l ≡ lease_line m → l ≡ m
written_same l m v w e = same_Some _ _ (sym (form_reads l v) ∙ ap (λ t. forms.form t.text) e ∙ form_reads m w)

line_same : (a b : List ℕ) (s t : Bool) → a ≡ b → s ≡ t → ◌≡◌ {A = LineOf} (record { text = a; ended = s }) (record { text = b; ended = t })
line_same a b s t e f = cc

line_form_is : (l : LineOf) (m : Lease) → lease_line_form l ≡ Some m → Writable m × (l ≡ lease_line m)
line_form_is l m e =
    ⊎_elim
    (λ t. let f = form_is l.text m (sym (cond-true l.ended (forms.form l.text) None t) ∙ e) in
    (f.0, line_same l.text (lease_text m) l.ended true f.1 t))
    (λ t. absurd (let z = sym (cond-false l.ended (forms.form l.text) None t) ∙ e in let y : ◌≡◌ {A = ℕ} 0 1 = cc in omega arith))
    (cases_Bool l.ended)

line_form_reads : (m : Lease) → Writable m → lease_line_form (lease_line m) ≡ Some m
line_form_reads m w = form_reads m w

-- one line behind the leases ls

abbrev First : List Lease → LineOf → Rule → Type 0
First ls l rule = Breaks ls l rule × ((r : Rule) → order r < order rule → Breaks ls l r → ⊥)

module _ (ls : List Lease) (es : List ℕ) (state : State ls es) (n : ℕ) (l : LineOf) where
  marked_verdict : all_marks l.text ≡ true → line_verdict n es l ≡ lease_verdict n es (lease_line_form l)
  marked_verdict t = cond-true (all_marks l.text) (lease_verdict n es (lease_line_form l)) (Err (refusal_at MarkNotAllowed Marks n)) t

  form_cases : (o : Option Lease) → lease_line_form l ≡ o → (lease_line_form l ≡ None) ⊎ ((m : Lease) × (lease_line_form l ≡ Some m))
  form_cases None e = inl e
  form_cases (Some m) e = inr (m, e)

  pub line_ok : (out : List ℕ) → line_verdict n es l ≡ Ok out → (m : Lease) × (l ≡ lease_line m) × State (ls ++ (m ∷ [])) out
  line_ok out e =
      ⊎_elim
      (λ t. let f = sym (marked_verdict t) ∙ e in
      ⊎_elim
      (λ z. absurd (err_ok (sym (ap (lease_verdict n es) z) ∙ f)))
      (λ p. let m : Lease = p.0 in let w = line_form_is l m p.1 in
      (m, w.1, lease_ok ls es state m n w.0.1 out (sym (ap (lease_verdict n es) p.1) ∙ f)))
      (form_cases (lease_line_form l) refl))
      (λ t. absurd (err_ok (sym (cond-false (all_marks l.text) (lease_verdict n es (lease_line_form l)) (Err (refusal_at MarkNotAllowed Marks n)) t) ∙ e)))
      (cases_Bool (all_marks l.text))

  module _ (t : all_marks l.text ≡ true) where
    no_marks : Breaks ls l marks → ⊥
    no_marks b = no_bad_mark l.text b.0 t b.1 b.2

    before_form : (r : Rule) → order r < 1 → Breaks ls l r → ⊥
    before_form marks h b = no_marks b
    before_form form h b = omega arith
    before_form range h b = omega arith
    before_form client h b = omega arith
    before_form slot h b = omega arith

    module _ (m : Lease) (w : Writable m) (is : l ≡ lease_line m) where
      same_lease : (p : Lease) → Writable p → l ≡ lease_line p → p ≡ m
      same_lease p v e = written_same p m v w (sym e ∙ is)

      before_range : (r : Rule) → order r < 2 → Breaks ls l r → ⊥
      before_range marks h b = no_marks b
      before_range form h b = b m w is
      before_range range h b = omega arith
      before_range client h b = omega arith
      before_range slot h b = omega arith

      no_range : InRange m → Breaks ls l range → ⊥
      no_range i b = b.3 (subst InRange (sym (same_lease b.0 b.1 b.2)) i)

      before_client : InRange m → (r : Rule) → order r < 3 → Breaks ls l r → ⊥
      before_client i marks h b = no_marks b
      before_client i form h b = b m w is
      before_client i range h b = no_range i b
      before_client i client h b = omega arith
      before_client i slot h b = omega arith

      before_slots : InRange m → (Leases m.client ls → ⊥) → (r : Rule) → order r < 4 → Breaks ls l r → ⊥
      before_slots i k marks h b = no_marks b
      before_slots i k form h b = b m w is
      before_slots i k range h b = no_range i b
      before_slots i k client h b = k (subst (λ p. Leases p.client ls) (same_lease b.0 b.1 b.2) b.3)
      before_slots i k slot h b = omega arith

      fault_first : (e : SheetRefusal) → Fault ls es state m n e → (rule : Rule) × (e ≡ refusal_at (cause_of rule) (level_of rule) n) × First ls l rule
      fault_first e (far f q) = (range, q, ((m, w, is, f), before_range))
      fault_first e (again i f q) = (client, q, ((m, w, is, f), before_client i))
      fault_first e (clash i k f q) = (slot, q, ((m, w, is, f), before_slots i k))

  pub line_fault : (e : SheetRefusal) → line_verdict n es l ≡ Err e → (rule : Rule) × (e ≡ refusal_at (cause_of rule) (level_of rule) n) × First ls l rule
  line_fault e h =
      ⊎_elim
      (λ t. let f = sym (marked_verdict t) ∙ h in
      ⊎_elim
      (λ z. (
        form,
        sym (err_same (sym (ap (lease_verdict n es) z) ∙ f)),
        ((λ m w is. unwritten m w is z), before_form t),
      ))
      (λ p. let m : Lease = p.0 in let w = line_form_is l m p.1 in
      fault_first t m w.0 w.1 e (lease_fails ls es state m n w.0.1 e (sym (ap (lease_verdict n es) p.1) ∙ f)))
      (form_cases (lease_line_form l) refl))
      (λ t. (
        marks,
        sym (err_same (sym (cond-false (all_marks l.text) (lease_verdict n es (lease_line_form l)) (Err (refusal_at MarkNotAllowed Marks n)) t) ∙ h)),
        (bad_mark l.text t, λ r o b. none_before r o),
      ))
      (cases_Bool (all_marks l.text))
    where
      unwritten : (m : Lease) → Writable m → l ≡ lease_line m → lease_line_form l ≡ None → ⊥
      unwritten m w is z = let y = sym z ∙ ap lease_line_form is ∙ line_form_reads m w in let q : ◌≡◌ {A = ℕ} 0 1 = cc in omega arith

      none_before : (r : Rule) → order r < 0 → ⊥
      none_before r o = omega arith

-- line by line

chain_ok : (r : Result (List ℕ) SheetRefusal) (f : List ℕ → Result (List ℕ) SheetRefusal) (out : List ℕ) → chain r f ≡ Ok out → (mid : List ℕ) × (r ≡ Ok mid) × (f mid ≡ Ok out)
chain_ok (Ok mid) f out e = (mid, refl, e)
chain_ok (Err x) f out e = absurd (err_ok e)

chain_err : (r : Result (List ℕ) SheetRefusal) (f : List ℕ → Result (List ℕ) SheetRefusal) (e : SheetRefusal) → chain r f ≡ Err e → (r ≡ Err e) ⊎ ((mid : List ℕ) × (r ≡ Ok mid) × (f mid ≡ Err e))
chain_err (Ok mid) f e h = inr (mid, refl, h)
chain_err (Err x) f e h = inl h

pub lines_ok : (ms : List LineOf) (ls : List Lease) (n : ℕ) (es out : List ℕ) → State ls es → lines_verdict n es ms ≡ Ok out → (new : List Lease) × State (ls ++ new) out × (ms ≡ lease_lines new)
lines_ok [] ls n es out state e = ([], subst (λ t. State t out) (sym (append-nil ls)) (subst (State ls) (ok_same e) state), refl)
lines_ok (l ∷ ms) ls n es out state e =
    let c = chain_ok (line_verdict n es l) (λ after. lines_verdict (n + 1) after ms) out e in
    let m = line_ok ls es state n l c.0 c.1 in
    let r = lines_ok ms (ls ++ (m.0 ∷ [])) (n + 1) c.0 out m.2 c.2 in (
      m.0 ∷ r.0,
      subst (λ t. State t out) (append_assoc ls (m.0 ∷ []) r.0) r.1,
      ap (λ t. t ∷ ms) m.1 ∙ ap (λ t. lease_line m.0 ∷ t) r.2,
    )

-- the first fault among lines behind the leases ls
abbrev Faulty : List Lease → List LineOf → SheetRefusal → Type 0
Faulty ls ms e =
    (new : List Lease) × (l : LineOf) × (behind : List LineOf) × (rule : Rule)
    × Lawful (ls ++ new) × (ms ≡ lease_lines new ++ (l ∷ behind))
    × (e ≡ refusal_at (cause_of rule) (level_of rule) (length (ls ++ new) + 1)) × First (ls ++ new) l rule

here : (ls : List Lease) (es : List ℕ) (n : ℕ) (l : LineOf) (ms : List LineOf) (e : SheetRefusal) → State ls es → n ≡ length ls + 1 → line_verdict n es l ≡ Err e → Faulty ls (l ∷ ms) e
here ls es n l ms e state q h =
    let f = line_fault ls es state n l e h in
    let back = sym (append-nil ls) in (
      [],
      l,
      ms,
      f.0,
      subst Lawful back state.0,
      refl,
      f.1 ∙ ap (refusal_at (cause_of f.0) (level_of f.0)) q ∙ ap (λ t. refusal_at (cause_of f.0) (level_of f.0) (length t + 1)) back,
      subst (λ t. First t l f.0) back f.2,
    )

further : (ls : List Lease) (m : Lease) (l : LineOf) (ms : List LineOf) (e : SheetRefusal) → l ≡ lease_line m → Faulty (ls ++ (m ∷ [])) ms e → Faulty ls (l ∷ ms) e
further ls m l ms e is r =
    let one = append_assoc ls (m ∷ []) r.0 in (
      m ∷ r.0,
      r.1,
      r.2,
      r.3,
      subst Lawful one r.4,
      ap (λ t. t ∷ ms) is ∙ ap (λ t. lease_line m ∷ t) r.5,
      r.6 ∙ ap (λ t. refusal_at (cause_of r.3) (level_of r.3) (length t + 1)) one,
      subst (λ t. First t r.1 r.3) one r.7,
    )

pub lines_fault : (ms : List LineOf) (ls : List Lease) (n : ℕ) (es : List ℕ) (e : SheetRefusal) → State ls es → n ≡ length ls + 1 → lines_verdict n es ms ≡ Err e → Faulty ls ms e
lines_fault [] ls n es e state q h = absurd (ok_err h)
lines_fault (l ∷ ms) ls n es e state q h =
    ⊎_elim
    (λ f. here ls es n l ms e state q f)
    (λ c. let m = line_ok ls es state n l c.0 c.1 in
    further ls m.0 l ms e m.1 (lines_fault ms (ls ++ (m.0 ∷ [])) (n + 1) c.0 e m.2 (ap (λ t. t + 1) (q ∙ sym (length_push ls m.0))) c.2))
    (chain_err (line_verdict n es l) (λ after. lines_verdict (n + 1) after ms) e h)

pub lines_read : (new ls : List Lease) (n : ℕ) (es : List ℕ) → State ls es → Lawful (ls ++ new) → (out : List ℕ) × (lines_verdict n es (lease_lines new) ≡ Ok out) × State (ls ++ new) out
lines_read [] ls n es state w = (es, refl, subst (λ t. State t es) (sym (append-nil ls)) state)
lines_read (m ∷ new) ls n es state w =
    let one = append_assoc ls (m ∷ []) new in
    let v = subst Lawful (sym one) w in
    let front : Lawful (ls ++ (m ∷ [])) =
    (each_prefix (ls ++ (m ∷ [])) new v.0, (apart_parts (groups_of (ls ++ (m ∷ []))) (groups_of new) (subst Apart (groups_append (ls ++ (m ∷ [])) new) v.1)).0) in
    let last = each_last ls m front.0 in
    let can = writable m last.0 last.1 in
    let read = lease_reads ls es state m n front in
    let ok : line_verdict n es (lease_line m) ≡ Ok read.0 =
    cond-true (all_marks (lease_text m)) (lease_verdict n es (lease_line_form (lease_line m))) (Err (refusal_at MarkNotAllowed Marks n)) (plain_marked (lease_text m) (plain_lease m can))
    ∙ ap (lease_verdict n es) (line_form_reads m can) ∙ read.1 in
    let next = lease_ok ls es state m n last.0 read.0 read.1 in
    let r = lines_read new (ls ++ (m ∷ [])) (n + 1) read.0 next v in (
      r.0,
      ap (λ t. chain t (λ after. lines_verdict (n + 1) after (lease_lines new))) ok ∙ r.1,
      subst (λ t. State t r.0) one r.2,
    )

-- the whole sheet

empty_state : State [] (replicate 480 0)
empty_state = ((tt, tt), (refl, λ k one top. get_or-replicate 480 (k - 1) 0 0 (omega arith)))

lines_of_text : (ls : List Lease) → EachLawful ls → lines (sheet_text ls) ≡ lease_lines ls
lines_of_text [] e = refl
lines_of_text (l ∷ ls) e =
    plain_line (lease_text l) (sheet_text ls) (plain_lease l (writable l e.0 e.1)) ∙ ap (λ t. lease_line l ∷ t) (lines_of_text ls e.3)

text_of_lines : (ls : List Lease) → rejoined (lease_lines ls) ≡ sheet_text ls
text_of_lines [] = refl
text_of_lines (l ∷ ls) = ap (λ t. lease_text l ++ (10 ∷ t)) (text_of_lines ls)

-- lawful leases, written out, are accepted
pub lawful_accepted : (ls : List Lease) → Lawful ls → length (sheet_text ls) ≤ longest_sheet → (es : List ℕ) × (verdict (sheet_text ls) ≡ Ok es) × Gives ls es
lawful_accepted ls w short =
    let r = lines_read ls [] 1 (replicate 480 0) empty_state w in
    (r.0, not_long (sheet_text ls) short ∙ ap (lines_verdict 1 (replicate 480 0)) (lines_of_text ls w.0) ∙ r.1, r.2.1)

judged_or_long : (sheet : List ℕ) → ((verdict sheet ≡ lines_verdict 1 (replicate 480 0) (lines sheet)) × (length sheet ≤ longest_sheet)) ⊎ ((verdict sheet ≡ Err (refusal_at FormBroken Forms 1)) × (longest_sheet < length sheet))
judged_or_long sheet =
    ⊎_elim
    (λ t. inr (cond-true (ltb longest_sheet (length sheet)) (Err (refusal_at FormBroken Forms 1)) (lines_verdict 1 (replicate 480 0) (lines sheet)) t, ltb-true longest_sheet (length sheet) t))
    (λ t. let h = ltb-false longest_sheet (length sheet) t in inl (not_long sheet h, h))
    (cases_Bool (ltb longest_sheet (length sheet)))

-- nothing else is accepted
pub only_lawful_accepted : (sheet es : List ℕ) → verdict sheet ≡ Ok es → WritesOut sheet es
only_lawful_accepted sheet es e =
    ⊎_elim
    (λ j. let r = lines_ok (lines sheet) [] 1 (replicate 480 0) es empty_state (sym j.0 ∙ e) in
    (r.0, r.1.0, sym (lines_rejoined sheet) ∙ ap rejoined r.2 ∙ text_of_lines r.0, r.1.1))
    (λ j. absurd (err_ok (sym j.0 ∙ e)))
    (judged_or_long sheet)

-- the first fault refuses
pub first_fault_refuses : (sheet : List ℕ) (e : SheetRefusal) → verdict sheet ≡ Err e → RefusedSheet sheet e
first_fault_refuses sheet e h =
    ⊎_elim
    (λ j. let f = lines_fault (lines sheet) [] 1 (replicate 480 0) e empty_state refl (sym j.0 ∙ h) in
    inr (j.1, record { leases = f.0; line = f.1; behind = f.2; rule = f.3; lawful = f.4; sheet_is = f.5; refusal_is = f.6; breaks = f.7.0; first = f.7.1 }))
    (λ j. inl (j.1, sym (err_same (sym j.0 ∙ h))))
    (judged_or_long sheet)

-- what reading answers, from the verdict

pub read_only : {U : Type 0} (X : Type 0) (r : Result U SheetRefusal) (sheet out : List ℕ) → MatchResult r (λ _. verdict sheet ≡ Ok out) (λ e. (verdict sheet ≡ Err e) × X) → MatchResult r (λ _. WritesOut sheet out) (λ e. RefusedSheet sheet e)
read_only X (Ok u) sheet out h = only_lawful_accepted sheet out h
read_only X (Err e) sheet out h = first_fault_refuses sheet e h.0

pub read_every :
    {U : Type 0} (X : Type 0) (r : Result U SheetRefusal) (sheet out : List ℕ) → MatchResult r (λ _. verdict sheet ≡ Ok out) (λ e. (verdict sheet ≡ Err e) × X) →
    (ls : List Lease) → Lawful ls → sheet ≡ sheet_text ls → length sheet ≤ longest_sheet → (is_ok r ≡ true) × Gives ls out
read_every X (Ok u) sheet out h ls w is short =
    let a = lawful_accepted ls w (subst (λ t. length t ≤ longest_sheet) is short) in
    (refl, subst (Gives ls) (ok_same (sym a.1 ∙ ap verdict (sym is) ∙ h)) a.2)
read_every X (Err e) sheet out h ls w is short =
    let a = lawful_accepted ls w (subst (λ t. length t ≤ longest_sheet) is short) in
    absurd (ok_err (sym a.1 ∙ ap verdict (sym is) ∙ h.0))
