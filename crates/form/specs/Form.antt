-- The form of a line: (client N (slots A B) (slots A B) ..), with single blanks and one or more groups.
use Rattle.std.specs.Prelude.{◌≡◌, ℕ, zero, suc, ◌+◌, ◌-◌, ◌*◌, Bool, if◌then◌else◌, List, [], ◌∷◌, length, Some, None, codes, Option, ◌==◌}
use Rattle.std.specs.Str.{bytes_eq}
use Rattle.form.specs.Marks.{digit}
use Rattle.form.specs.Lease.{Group, Lease, Writable, lease_text}

abbrev pub bind : {A B : Type 0} → Option A → (A → Option B) → Option B
bind None f = None
bind (Some x) f = f x

-- what follows a word, if the text begins with it
abbrev pub rest_after : List ℕ → List ℕ → Option (List ℕ)
rest_after [] xs = Some xs
rest_after (w ∷ ws) [] = None
rest_after (w ∷ ws) (x ∷ xs) = if w == x then rest_after ws xs else None

-- the digit that a text begins with, and what follows it
abbrev pub first_digit : List ℕ → Option (ℕ × List ℕ)
first_digit [] = None
first_digit (x ∷ xs) = if digit x then Some (x - 48, xs) else None

-- a number with one more digit, if one follows it
abbrev pub longer_number : ℕ × List ℕ → Option (ℕ × List ℕ) → ℕ × List ℕ
longer_number n None = n
longer_number n (Some d) = (10 * n.0 + d.0, d.1)

abbrev pub extended_number : ℕ × List ℕ → ℕ × List ℕ
extended_number n = longer_number n (first_digit n.1)

-- a number of one to three digits with no needless zero, and what follows it
abbrev pub number : List ℕ → Option (ℕ × List ℕ)
number xs = bind (first_digit xs) λ d. Some (if d.0 == 0 then d else extended_number (extended_number d))

-- a line's opening, up to the client's number
abbrev pub opening : List ℕ → Option (ℕ × List ℕ)
opening xs = bind (rest_after (codes "(client ") xs) number

-- a group of slots, and what follows it
abbrev pub group : List ℕ → Option (Group × List ℕ)
group xs =
    bind (rest_after (codes " (slots ") xs) λ a.
    bind (number a) λ first.
    bind (rest_after (codes " ") first.1) λ b.
    bind (number b) λ last.
    bind (rest_after (codes ")") last.1) λ rest.
    Some (record { first = first.0; last = last.0 }, rest)

-- the closing bracket, and nothing behind it
abbrev pub is_closing_bracket : List ℕ → Bool
is_closing_bracket xs = bytes_eq xs (codes ")")

abbrev pub put_before : Group → Option (List Group) → Option (List Group)
put_before g None = None
put_before g (Some gs) = Some (g ∷ gs)

-- one or more groups and the closing bracket, in at most k groups
abbrev pub groups : ℕ → List ℕ → Option (List Group)
groups zero xs = None
groups (suc k) xs = bind (group xs) λ g. if is_closing_bracket g.1 then Some (g.0 ∷ []) else put_before g.0 (groups k g.1)

-- the lease that a line without its newline writes; a text has no more groups than bytes
abbrev pub form : List ℕ → Option Lease
form xs = bind (opening xs) λ c. bind (groups (length c.1) c.1) λ gs. Some (record { client = c.0; groups = gs })

-- a text is read as a lease exactly if it is that lease written out
abbrev pub FormExact : Type 0
FormExact = ((l : Lease) → Writable l → form (lease_text l) ≡ Some l) × ((xs : List ℕ) (l : Lease) → form xs ≡ Some l → Writable l × (xs ≡ lease_text l))
