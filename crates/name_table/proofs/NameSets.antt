-- Sets of names of which one is kept in place.
use Rattle.std.proofs.Common.{Bool, true, false, ◌==◌, ◌≡◌, Option, Some, None, ◌++◌, option_to_list, refl, sym, ap, ◌∙◌, inl, inr, arith, nat_cmp, BTreeSet}
use Rattle.std.specs.Prelude.{if◌then◌else◌, not, ◌&&◌, ◌||◌}
use Rattle.std.specs.BTreeMap.{is_at}
use Rattle.std.specs.BTreeSet.{contains}
use Rattle.std.specs.List.{list_any}
use Rattle.std.proofs.lemmas.Bool.{cases_eq, cases_order, eq-eqb, ne_eqb, eqb-true, lt-ltb, le-ltb}
use Rattle.registry_model.specs.Process.{Text}
use Rattle.name_table.specs.Index.{Gains, Loses}

-- the test of a set at one name
pub at_is : (x y : Text) → is_at (nat_cmp x) y ≡ (x == y)
at_is x y = elim (cases_order x y) [
  | inl i ↦ rw (le-ltb x y (omega arith), eq-eqb x y i) refl
  | inr (inl l) ↦ rw (lt-ltb x y l, ne_eqb x y (λ i. absurd (omega arith))) refl
  | inr (inr g) ↦ rw (le-ltb x y (omega arith), ne_eqb x y (λ i. absurd (omega arith))) refl
]

-- which of two names is compared with the other doesn't matter
pub flip : (x y : Text) → (x == y) ≡ (y == x)
flip x y = elim (cases_eq x y) [
  | inl i ↦ rw (eq-eqb x y i, eq-eqb y x (sym i)) refl
  | inr ne ↦ rw (ne_eqb x y ne, ne_eqb y x (λ i. ne (sym i))) refl
]

-- the test of a name in a set
pub is_at-name : (y x : Text) → is_at (nat_cmp y) x ≡ (x == y)
is_at-name y x = at_is y x ∙ flip y x

-- a set that gained a name has it
pub gained : (x : Text) (old new : BTreeSet Text) → Gains x old new → contains nat_cmp new x ≡ true
gained x old new u = u x ∙ ap (λ (b : Bool). b || contains nat_cmp old x) (eq-eqb x x refl)

-- the set of the name in place, if there is one, and of others
abbrev pub set : Option Text → BTreeSet Text → BTreeSet Text
set first others = record { keys = option_to_list first ++ others.keys }

-- this name is in place
abbrev pub is_in_place : Text → Option Text → Bool
is_in_place x first = list_any (λ z. x == z) (option_to_list first)

-- a name that comes to an empty place
pub gains_first : (x : Text) (others : BTreeSet Text) → Gains x (set None others) (set (Some x) others)
gains_first x others y = ap (λ (b : Bool). b || contains nat_cmp others y) (is_at-name y x)

-- a name that comes to the others
pub gains_other : (x : Text) (first : Option Text) (old new : BTreeSet Text) →
    ((y : Text) → contains nat_cmp new y ≡ (if is_at (nat_cmp x) y then true else contains nat_cmp old y)) →
    Gains x (set first old) (set first new)
gains_other x first old new u y = go first
  where
    at : (b c : Bool) → (if b then true else c) ≡ (b || c)
    at true c = refl
    at false c = refl

    swap : (a b c : Bool) → (a || (b || c)) ≡ (b || (a || c))
    swap true true c = refl
    swap true false c = refl
    swap false b c = refl

    others : contains nat_cmp new y ≡ ((x == y) || contains nat_cmp old y)
    others = u y ∙ ap (λ (b : Bool). if b then true else contains nat_cmp old y) (at_is x y)
        ∙ at (x == y) (contains nat_cmp old y)

    go : (o : Option Text) → contains nat_cmp (set o new) y ≡ ((x == y) || contains nat_cmp (set o old) y)
    go None = others
    go (Some z) = ap (λ (b : Bool). is_at (nat_cmp y) z || b) others
        ∙ swap (is_at (nat_cmp y) z) (x == y) (contains nat_cmp old y)

-- the test of a name that is in place
at_place : (x z y : Text) → is_in_place x (Some z) ≡ true → is_at (nat_cmp y) z ≡ (x == y)
at_place x z y h = is_at-name y z ∙ ap (λ (w : Text). w == y) (sym (eqb-true x z (passes (x == z) h)))
  where
    passes : (b : Bool) → (b || false) ≡ true → b ≡ true
    passes true k = refl
    passes false k = k

-- a name that is in place comes again
pub gains_nothing : (x : Text) (first : Option Text) (others : BTreeSet Text) → is_in_place x first ≡ true →
    Gains x (set first others) (set first others)
gains_nothing x None others h y = cc
gains_nothing x (Some z) others h y =
    ap (λ (b : Bool). b || contains nat_cmp others y) same
    ∙ twice (x == y) (contains nat_cmp others y)
    ∙ ap (λ (b : Bool). (x == y) || (b || contains nat_cmp others y)) (sym same)
  where
    twice : (b c : Bool) → (b || c) ≡ (b || (b || c))
    twice true c = refl
    twice false c = refl

    same : is_at (nat_cmp y) z ≡ (x == y)
    same = at_place x z y h

-- the name in place is taken out, and from the others
pub loses_first : (x : Text) (first : Option Text) (old new : BTreeSet Text) → is_in_place x first ≡ true →
    ((y : Text) → contains nat_cmp new y ≡ (if is_at (nat_cmp x) y then false else contains nat_cmp old y)) →
    Loses x (set first old) (set None new)
loses_first x None old new h u y = cc
loses_first x (Some z) old new h u y =
    u y ∙ ap (λ (b : Bool). if b then false else contains nat_cmp old y) (at_is x y)
    ∙ both (x == y) (contains nat_cmp old y) ∙ ap (λ (b : Bool). not (x == y) && (b || contains nat_cmp old y)) (sym same)
  where
    both : (b c : Bool) → (if b then false else c) ≡ (not b && (b || c))
    both true c = refl
    both false c = refl

    same : is_at (nat_cmp y) z ≡ (x == y)
    same = at_place x z y h

-- another name is taken from the others
pub loses_other : (x : Text) (first : Option Text) (old new : BTreeSet Text) → is_in_place x first ≡ false →
    ((y : Text) → contains nat_cmp new y ≡ (if is_at (nat_cmp x) y then false else contains nat_cmp old y)) →
    Loses x (set first old) (set first new)
loses_other x first old new h u y = go first h
  where
    at : (b c : Bool) → (if b then false else c) ≡ (not b && c)
    at true c = refl
    at false c = refl

    others : contains nat_cmp new y ≡ (not (x == y) && contains nat_cmp old y)
    others = u y ∙ ap (λ (b : Bool). if b then false else contains nat_cmp old y) (at_is x y)
        ∙ at (x == y) (contains nat_cmp old y)

    fails : (b : Bool) → (b || false) ≡ false → b ≡ false
    fails true k = k
    fails false k = refl

    part : (a b c : Bool) → (b ≡ true → a ≡ false) → (a || (not b && c)) ≡ (not b && (a || c))
    part a true c k = ap (λ (d : Bool). d || false) (k refl)
    part a false c k = refl

    go : (o : Option Text) → is_in_place x o ≡ false →
        contains nat_cmp (set o new) y ≡ (not (x == y) && contains nat_cmp (set o old) y)
    go None k = others
    go (Some z) k = ap (λ (b : Bool). is_at (nat_cmp y) z || b) others
        ∙ part (is_at (nat_cmp y) z) (x == y) (contains nat_cmp old y)
        (λ i. is_at-name y z ∙ flip z y ∙ ap (λ (w : Text). w == z) (sym (eqb-true x y i)) ∙ fails (x == z) k)
