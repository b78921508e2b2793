-- A line is read as a lease exactly if it is that lease written out.
use Rattle.std.proofs.lemmas.Option.{none-some, same_Some}
use Rattle.std.proofs.Common.{◌≡◌, ℕ, zero, suc, ◌<◌, ◌≤◌, false, cond, List, [], ◌∷◌, ◌++◌, length, drop, Some, None, codes, Option, sym, refl, ap, ◌∙◌, subst, ⊎_elim, arith}
use Rattle.std.proofs.lemmas.List.{append-nil, append_assoc, length-append}
use Rattle.std.proofs.lemmas.Bool.{cond-true, cond-false, cases_Bool}
use Rattle.std.proofs.lemmas.Slice.Eq.{bytes_eq-Decides}
use Rattle.form.specs.Lease.{Group, Lease, short_decimal, group_text, groups_text, lease_text, ShortGroups, SomeGroup, Writable}
use Rattle.form.specs.Form.{bind, rest_after, number, opening, group, is_closing_bracket, put_before, groups, form}
use Rattle.form.proofs.Words.{after_append, after_is}
use Rattle.form.proofs.Numbers.{bind_some, bind_at, number_is, number_reads}

same_group : (a b : ℕ) (t ys : List ℕ) (g : Group) → ◌≡◌ {A = Option (Group × List ℕ)} (Some (record { first = a; last = b }, t)) (Some (g, ys)) → (a ≡ g.first) × (b ≡ g.last) × (t ≡ ys)
same_group a b t ys g e =
    let p : ◌≡◌ {A = Group × List ℕ} (record { first = a; last = b }, t) (g, ys) = cc in
    (ap (λ q. q.0.first) p, ap (λ q. q.0.last) p, ap (λ q. q.1) p)

regroup : (g : Group) (ys : List ℕ) → group_text g ++ ys ≡ codes " (slots " ++ (short_decimal g.first ++ (codes " " ++ (short_decimal g.last ++ (codes ")" ++ ys))))
regroup g ys = simp append_assoc

pub group_is : (xs ys : List ℕ) (g : Group) → group xs ≡ Some (g, ys) → (g.first < 1000) × (g.last < 1000) × (xs ≡ group_text g ++ ys)
group_is xs ys g e =
    let b1 = bind_some (rest_after (codes " (slots ") xs) _ (g, ys) e in
    let x1 = after_is (codes " (slots ") xs b1.0 b1.1 in
    let b2 = bind_some (number b1.0) _ (g, ys) b1.2 in
    let n1 = number_is b1.0 b2.0.1 b2.0.0 b2.1 in
    let b3 = bind_some (rest_after (codes " ") b2.0.1) _ (g, ys) b2.2 in
    let x3 = after_is (codes " ") b2.0.1 b3.0 b3.1 in
    let b4 = bind_some (number b3.0) _ (g, ys) b3.2 in
    let n2 = number_is b3.0 b4.0.1 b4.0.0 b4.1 in
    let b5 = bind_some (rest_after (codes ")") b4.0.1) _ (g, ys) b4.2 in
    let x5 = after_is (codes ")") b4.0.1 b5.0 b5.1 in
    let same = same_group b2.0.0 b4.0.0 b5.0 ys g b5.2 in
    let f = same.0 in
    let l = same.1 in
    let r = same.2 in
    let whole : xs ≡ codes " (slots " ++ (short_decimal b2.0.0 ++ (codes " " ++ (short_decimal b4.0.0 ++ (codes ")" ++ b5.0)))) =
    x1 ∙ ap (λ t. codes " (slots " ++ t) (n1.1 ∙ ap (λ t. short_decimal b2.0.0 ++ t) (x3 ∙ ap (λ t. codes " " ++ t) (n2.1 ∙ ap (λ t. short_decimal b4.0.0 ++ t) x5))) in (
      omega arith,
      omega arith,
      whole
          ∙ ap (λ n. codes " (slots " ++ (short_decimal n ++ (codes " " ++ (short_decimal b4.0.0 ++ (codes ")" ++ b5.0))))) f
          ∙ ap (λ n. codes " (slots " ++ (short_decimal g.first ++ (codes " " ++ (short_decimal n ++ (codes ")" ++ b5.0))))) l
          ∙ ap (λ t. codes " (slots " ++ (short_decimal g.first ++ (codes " " ++ (short_decimal g.last ++ (codes ")" ++ t))))) r
          ∙ sym (regroup g ys),
    )

-- the steps of `group`
abbrev from_bracket : ℕ → ℕ × List ℕ → Option (Group × List ℕ)
from_bracket a last = bind (rest_after (codes ")") last.1) λ rest. Some (record { first = a; last = last.0 }, rest)

abbrev from_last : ℕ → List ℕ → Option (Group × List ℕ)
from_last a b = bind (number b) (from_bracket a)

abbrev from_blank : ℕ × List ℕ → Option (Group × List ℕ)
from_blank first = bind (rest_after (codes " ") first.1) (from_last first.0)

abbrev from_first : List ℕ → Option (Group × List ℕ)
from_first a = bind (number a) from_blank

pub group_reads : (g : Group) (ys : List ℕ) → g.first < 1000 → g.last < 1000 → group (group_text g ++ ys) ≡ Some (g, ys)
group_reads g ys h k =
    let t1 : List ℕ = short_decimal g.first ++ (codes " " ++ (short_decimal g.last ++ (codes ")" ++ ys))) in
    let t3 : List ℕ = short_decimal g.last ++ (codes ")" ++ ys) in
    ap group (regroup g ys)
    ∙ bind_at (rest_after (codes " (slots ") (codes " (slots " ++ t1)) from_first t1 (after_append (codes " (slots ") t1)
    ∙ bind_at (number t1) from_blank (g.first, codes " " ++ t3) (number_reads 32 t3 refl g.first h)
    ∙ bind_at (rest_after (codes " ") (codes " " ++ t3)) (from_last g.first) t3 (after_append (codes " ") t3)
    ∙ bind_at (number t3) (from_bracket g.first) (g.last, codes ")" ++ ys) (number_reads 41 ys refl g.last k)
    ∙ bind_at (rest_after (codes ")") (codes ")" ++ ys)) (λ rest. Some (g, rest)) ys (after_append (codes ")") ys)

pub group_shorter : (xs ys : List ℕ) (g : Group) → group xs ≡ Some (g, ys) → length ys < length xs
group_shorter xs ys g e =
    let h = group_is xs ys g e in
    let l : length xs ≡ length (group_text g ++ ys) = ap length h.2 in
    let m = length-append (group_text g) ys in
    let one : 0 < length (group_text g) = omega arith in
    omega arith

-- groups

pub groups_none : (k : ℕ) (xs : List ℕ) → group xs ≡ None → groups k xs ≡ None
groups_none zero xs e = refl
groups_none (suc k) xs e = ap (λ o. bind o (λ g. cond (is_closing_bracket g.1) (Some (g.0 ∷ [])) (put_before g.0 (groups k g.1)))) e

pub groups_step : (k : ℕ) (xs ys : List ℕ) (g : Group) → group xs ≡ Some (g, ys) → groups (suc k) xs ≡ cond (is_closing_bracket ys) (Some (g ∷ [])) (put_before g (groups k ys))
groups_step k xs ys g e = ap (λ o. bind o (λ p. cond (is_closing_bracket p.1) (Some (p.0 ∷ [])) (put_before p.0 (groups k p.1)))) e

put_before_some : (g : Group) (o : Option (List Group)) (gs : List Group) → put_before g o ≡ Some gs → (hs : List Group) × (o ≡ Some hs) × (gs ≡ g ∷ hs)
put_before_some g None gs e = absurd (none-some _ e)
put_before_some g (Some hs) gs e = (hs, refl, cc)

GroupsWritten : List ℕ → List Group → Type 0
GroupsWritten xs gs = SomeGroup gs × ShortGroups gs × (xs ≡ groups_text gs ++ codes ")")

groups_last : (g : Group) (xs ys : List ℕ) (gs : List Group) → (g.first < 1000) × (g.last < 1000) × (xs ≡ group_text g ++ ys) → ys ≡ codes ")" → gs ≡ g ∷ [] → GroupsWritten xs gs
unfolding GroupsWritten
groups_last g xs ys gs h y e =
    subst (λ t. SomeGroup t × ShortGroups t × (xs ≡ groups_text t ++ codes ")")) (sym e)
    (tt, (h.0, h.1, tt), h.2 ∙ ap (λ t. group_text g ++ t) y ∙ ap (λ t. t ++ codes ")") (sym (append-nil (group_text g))))

groups_next : (g : Group) (xs ys : List ℕ) (gs hs : List Group) → (g.first < 1000) × (g.last < 1000) × (xs ≡ group_text g ++ ys) → GroupsWritten ys hs → gs ≡ g ∷ hs → GroupsWritten xs gs
unfolding GroupsWritten
groups_next g xs ys gs hs h w e =
    subst (λ t. SomeGroup t × ShortGroups t × (xs ≡ groups_text t ++ codes ")")) (sym e)
    (tt, (h.0, h.1, w.1), h.2 ∙ ap (λ t. group_text g ++ t) w.2 ∙ sym (append_assoc (group_text g) (groups_text hs) (codes ")")))

groups_is : (k : ℕ) (xs : List ℕ) (gs : List Group) → groups k xs ≡ Some gs → GroupsWritten xs gs
groups_is zero xs gs e = absurd (none-some _ e)
groups_is (suc k) xs gs e =
    let b = bind_some (group xs) (λ p. cond (is_closing_bracket p.1) (Some (p.0 ∷ [])) (put_before p.0 (groups k p.1))) gs e in
    let g : Group = b.0.0 in
    let ys : List ℕ = b.0.1 in
    let h = group_is xs ys g b.1 in
    ⊎_elim
    (λ t. let one : Some (g ∷ []) ≡ Some gs = sym (cond-true (is_closing_bracket ys) (Some (g ∷ [])) (put_before g (groups k ys)) t) ∙ b.2 in
    groups_last g xs ys gs h ((bytes_eq-Decides ys (codes ")")).0 t) (cc))
    (λ t. let more : put_before g (groups k ys) ≡ Some gs = sym (cond-false (is_closing_bracket ys) (Some (g ∷ [])) (put_before g (groups k ys)) t) ∙ b.2 in
    let p = put_before_some g (groups k ys) gs more in
    groups_next g xs ys gs p.0 h (groups_is k ys p.0 p.1) p.2)
    (cases_Bool (is_closing_bracket ys))

-- a group's text is no closing bracket
open_text : (g : Group) (ys : List ℕ) → is_closing_bracket (group_text g ++ ys) ≡ false
open_text g ys = refl

groups_read : (k : ℕ) (gs : List Group) → SomeGroup gs → ShortGroups gs → length gs ≤ k → groups k (groups_text gs ++ codes ")") ≡ Some gs
groups_read k [] s h n = absurd s
groups_read zero (g ∷ gs) s h n = absurd (omega arith)
groups_read (suc k) (g ∷ []) s h n =
    ap (groups (suc k)) (append_assoc (group_text g) [] (codes ")"))
    ∙ groups_step k (group_text g ++ codes ")") (codes ")") g (group_reads g (codes ")") h.0 h.1)
groups_read (suc k) (g ∷ a ∷ gs) s h n =
    let ys : List ℕ = groups_text (a ∷ gs) ++ codes ")" in
    ap (groups (suc k)) (append_assoc (group_text g) (groups_text (a ∷ gs)) (codes ")"))
    ∙ groups_step k (group_text g ++ ys) ys g (group_reads g ys h.0 h.1)
    ∙ cond-false (is_closing_bracket ys) (Some (g ∷ [])) (put_before g (groups k ys)) (ap is_closing_bracket (append_assoc (group_text a) (groups_text gs) (codes ")")) ∙ open_text a (groups_text gs ++ codes ")"))
    ∙ ap (put_before g) (groups_read k (a ∷ gs) tt h.2 (omega arith))

-- no more groups than bytes
groups_short : (gs : List Group) (ys : List ℕ) → length gs ≤ length (groups_text gs ++ ys)
groups_short [] ys = omega arith
groups_short (g ∷ gs) ys =
    let i = groups_short gs ys in
    let l = ap length (append_assoc (group_text g) (groups_text gs) ys) in
    let m = length-append (group_text g) (groups_text gs ++ ys) in
    let one : 0 < length (group_text g) = omega arith in
    omega arith

-- leases

lease_by : ℕ × List ℕ → Option Lease
lease_by c = bind (groups (length c.1) c.1) λ gs. Some (record { client = c.0; groups = gs })

reads_by : (c : ℕ) (gs : List Group) → c < 1000 → SomeGroup gs → ShortGroups gs → form (lease_text (record { client = c; groups = gs })) ≡ Some (record { client = c; groups = gs })
unfolding lease_by
reads_by c [] n s h = absurd s
reads_by c (g ∷ gs) n s h =
    let rest : List ℕ = groups_text (g ∷ gs) ++ codes ")" in
    let text : List ℕ = short_decimal c ++ rest in
    let opens : opening (codes "(client " ++ text) ≡ Some (c, rest) =
    bind_at (rest_after (codes "(client ") (codes "(client " ++ text)) number text (after_append (codes "(client ") text) ∙ number_reads 32 (drop 1 rest) refl c n in
    bind_at (opening (codes "(client " ++ text)) lease_by (c, rest) opens
    ∙ bind_at (groups (length rest) rest) (λ hs. Some (record { client = c; groups = hs })) (g ∷ gs) (groups_read (length rest) (g ∷ gs) s h (groups_short (g ∷ gs) (codes ")")))

pub form_reads : (l : Lease) → Writable l → form (lease_text l) ≡ Some l
form_reads l w = reads_by l.client l.groups w.0 w.1 w.2

pub form_is : (xs : List ℕ) (l : Lease) → form xs ≡ Some l → Writable l × (xs ≡ lease_text l)
unfolding lease_by GroupsWritten
form_is xs l e =
    let b = bind_some (opening xs) lease_by l e in
    let o = bind_some (rest_after (codes "(client ") xs) number b.0 b.1 in
    let x = after_is (codes "(client ") xs o.0 o.1 in
    let n = number_is o.0 b.0.1 b.0.0 o.2 in
    let q = bind_some (groups (length b.0.1) b.0.1) (λ gs. Some (record { client = b.0.0; groups = gs })) l b.2 in
    let w = groups_is (length b.0.1) b.0.1 q.0 q.1 in
    let same : ◌≡◌ {A = Lease} (record { client = b.0.0; groups = q.0 }) l = same_Some _ _ q.2 in
    subst (λ m. Writable m × (xs ≡ lease_text m)) same
    ((n.0, w.0, w.1), x ∙ ap (λ t. codes "(client " ++ t) (n.1 ∙ ap (λ t. short_decimal b.0.0 ++ t) w.2))
