-- What follows a word: `after` takes off what `++` put in front.
use Rattle.std.proofs.lemmas.Option.{none-some}
use Rattle.std.proofs.Common.{◌≡◌, ◌≢◌, ℕ, eqb, List, [], ◌∷◌, ◌++◌, Some, None, Option, MatchOption, Bor, sym, refl, ap, ◌∙◌, ⊎_elim}
use Rattle.std.specs.Option.{ok_or}
use Rattle.form.specs.Reads.{Reads}
use Rattle.form.specs.declared.FormError.{FormError}
use Rattle.std.proofs.lemmas.Bool.{cond-true, cond-false, eq-eqb}
use Rattle.std.proofs.lemmas.Bool.Decides.{eqb_tells}
use Rattle.form.specs.Form.{rest_after}

pub none_from : {A : Type 0} (o : Option A) → ((x : A) → o ≡ Some x → ⊥) → o ≡ None
none_from None h = refl
none_from (Some x) h = absurd (h x refl)

pub after_append : (ws rest : List ℕ) → rest_after ws (ws ++ rest) ≡ Some rest
after_append [] rest = refl
after_append (w ∷ ws) rest = cond-true (eqb w w) (rest_after ws (ws ++ rest)) None (eq-eqb w w refl) ∙ after_append ws rest

pub after_is : (ws xs ys : List ℕ) → rest_after ws xs ≡ Some ys → xs ≡ ws ++ ys
after_is [] xs ys e = cc
after_is (w ∷ ws) [] ys e = absurd (none-some _ e)
after_is (w ∷ ws) (x ∷ xs) ys e =
    ⊎_elim
    (λ t. let i = after_is ws xs ys (sym (cond-true (eqb w x) (rest_after ws xs) None t.0) ∙ e) in let q = t.1 in cc)
    (λ f. absurd (none-some _ (sym (cond-false (eqb w x) (rest_after ws xs) None f.0) ∙ e)))
    (eqb_tells w x)

pub after_none : (ws xs : List ℕ) → ((rest : List ℕ) → xs ≡ ws ++ rest → ⊥) → rest_after ws xs ≡ None
after_none ws xs h = none_from (rest_after ws xs) (λ r e. h r (after_is ws xs r e))

-- what `strip_prefix` leaves is what follows the word
pub word_read :
    (e : FormError) (text word : List ℕ) (r : Option (Bor (List ℕ))) →
    MatchOption r ((rest : List ℕ) → text ≢ word ++ rest) (λ x. text ≡ word ++ x.now) →
    Reads (λ rest. rest.now) (ok_or r e) (rest_after word text)
word_read e text word None h = after_none word text h
word_read e text word (Some x) h = ap (rest_after word) h ∙ after_append word x.now
