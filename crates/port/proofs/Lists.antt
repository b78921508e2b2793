-- Lists by client: one of them changed, and the walk over all of them.
use Rattle.std.proofs.Common.{◌≡◌, ℕ, Bool, true, false, cond, eqb, List, [], None, sym, refl, ap, ◌∙◌}
use Rattle.std.proofs.Math.Path.{fun_ext}
use Rattle.std.proofs.lemmas.Bool.{eqb-true, eq-eqb}
use Rattle.block.specs.declared.Block.{Block}
use Rattle.port.specs.Model.{Holding, Lists, updated_lists, first_of, rest_of, lists_after_next}

-- what is said of client c and of every other is said of all
pub by_client : {A : Type 0} (f g : ℕ → A) (c : ℕ) (x : A) → f c ≡ x → ((k : ℕ) → eqb k c ≡ false → f k ≡ g k) → f ≡ (λ k. cond (eqb k c) x (g k))
by_client {A} f g c x own other = fun_ext (λ k. go k (eqb k c) refl)
  where
    go : (k : ℕ) (t : Bool) → eqb k c ≡ t → f k ≡ cond (eqb k c) x (g k)
    go k true q = rw (q, eqb-true k c q) own
    go k false q = rw q (other k q)

pub updated_here : (lists : Lists) (c : ℕ) (l : List Block) → updated_lists lists c l c ≡ l
updated_here lists c l = rw (eq-eqb c c refl) refl

pub updated_same : (lists : Lists) (c : ℕ) → updated_lists lists c (lists c) ≡ lists
updated_same lists c = sym (by_client lists lists c (lists c) refl (λ _ _. refl))

pub updated_again : (lists : Lists) (c : ℕ) (l m : List Block) → updated_lists (updated_lists lists c l) c m ≡ updated_lists lists c m
updated_again lists c l m = fun_ext (λ k. go k (eqb k c))
  where
    go : (k : ℕ) (t : Bool) → cond t m (cond t l (lists k)) ≡ cond t m (lists k)
    go k true = refl
    go k false = refl

-- where client c has no block, a next gives none and leaves all lists
pub none_first : (lists : Lists) (c : ℕ) → lists c ≡ [] → None ≡ first_of (lists c)
none_first lists c e = rw e refl

pub none_removed : (lists : Lists) (c : ℕ) → lists c ≡ [] → lists ≡ lists_after_next c lists
none_removed lists c e = by_client lists lists c (rest_of (lists c)) (rw e refl) (λ _ _. refl)

-- what is held, by its lists and its free places
pub holding_by : (l m : Lists) (f g : ℕ → ℕ) → l ≡ m → f ≡ g → ◌≡◌ {A = Holding} (record { held = l; free = f }) (record { held = m; free = g })
holding_by l m f g e q = ap (λ (x : Lists). record { held = x; free = f }) e ∙ ap (λ (x : ℕ → ℕ). record { held = m; free = x }) q
