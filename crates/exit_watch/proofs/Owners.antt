-- Who owns a name after a change, and the least owner among serials.
use Rattle.std.proofs.Common.{ℕ, Bool, true, false, ◌==◌, ◌≡◌, ◌≤◌, Option, Some, None, List, [], ◌∷◌, filter, refl, sym, ap, subst, inl, inr, arith}
use Rattle.std.specs.Prelude.{if◌then◌else◌, not, ◌||◌, nat_lt}
use Rattle.std.specs.List.{list_any}
use Rattle.std.proofs.lemmas.Bool.{cases_lt, eq-eqb, eqb-true, lt-ltb, ltb-true}
use Rattle.registry_model.specs.Process.{Process, is_process}
use Rattle.registry_model.specs.Table.{Pair, Table, owns, put, Change, Put, Remove, StrikeOwner, changed}
use Rattle.name_table.specs.Changes.{is_put}
use Rattle.protocol_model.specs.Watch.{least_owner, lesser}

-- who owns a name in a part of a table owns one in the whole
pub owns-filter : (p : Process) (ok : Pair → Bool) (t : Table) → owns p (filter ok t) ≡ true → owns p t ≡ true
owns-filter p ok [] h = h
owns-filter p ok (e ∷ t) h = go (ok e) (is_process e.owner p) refl h (owns-filter p ok t)
  where
    go : (b c : Bool) → is_process e.owner p ≡ c → owns p (if b then e ∷ filter ok t else filter ok t) ≡ true →
        (owns p (filter ok t) ≡ true → owns p t ≡ true) → (is_process e.owner p || owns p t) ≡ true
    go true true i h k = rw i refl
    go true false i h k = rw i (k (rw i at h))
    go false true i h k = rw i refl
    go false false i h k = rw i (k h)

-- a change that is no put gives nobody a name
pub owns-changed : (p : Process) (c : Change) (t : Table) → is_put c ≡ false → owns p (changed c t) ≡ true →
    owns p t ≡ true
owns-changed p (Put new) t n h = absurd cc
owns-changed p (Remove x) t n h = owns-filter p (λ e. not (e.name == x)) t h
owns-changed p (StrikeOwner q) t n h = owns-filter p (λ e. not (is_process e.owner q)) t h

-- a put gives a name to its owner alone
pub owns-put : (p : Process) (new : Pair) (t : Table) → is_process new.owner p ≡ false →
    owns p (put new t) ≡ true → owns p t ≡ true
owns-put p new [] o h = absurd (cc (o, h))
owns-put p new (e ∷ t) o h = go (e.name == new.name) (nat_lt new.name e.name) h (owns-put p new t o)
  where
    more : (u : Table) → (is_process new.owner p || owns p u) ≡ true → owns p u ≡ true
    more u k = rw o at k

    behind : (b : Bool) → is_process e.owner p ≡ b → (owns p (put new t) ≡ true → owns p t ≡ true) →
        (is_process e.owner p || owns p (put new t)) ≡ true → (is_process e.owner p || owns p t) ≡ true
    behind true i k h = rw i refl
    behind false i k h = rw i (k (rw i at h))

    there : (b : Bool) → is_process e.owner p ≡ b → owns p t ≡ true → (is_process e.owner p || owns p t) ≡ true
    there true i k = rw i refl
    there false i k = rw i k

    go : (b l : Bool) →
        owns p (if b then new ∷ t else (if l then new ∷ e ∷ t else e ∷ put new t)) ≡ true →
        (owns p (put new t) ≡ true → owns p t ≡ true) → owns p (e ∷ t) ≡ true
    go true l h k = there (is_process e.owner p) refl (more t h)
    go false true h k = more (e ∷ t) h
    go false false h k = behind (is_process e.owner p) refl k h

-- the process of node a with this serial
abbrev pub process_at : ℕ → ℕ → Process
process_at a s = record { node = a; serial = s }

-- a serial is listed
abbrev pub is_in : List ℕ → ℕ → Bool
is_in ss s = list_any (λ d. d == s) ss

-- the least owner is listed, and owns a name
pub least_owner-owns : (a : ℕ) (t : Table) (ss : List ℕ) (s : ℕ) → least_owner a t ss ≡ Some s →
    (is_in ss s ≡ true) × (owns (process_at a s) t ≡ true)
least_owner-owns a t [] s h = cc
least_owner-owns a t (x ∷ ss) s h =
    go (owns (process_at a x) t) refl h (least_owner a t ss) refl (least_owner-owns a t ss)
  where
    Found : ℕ → Type 0
    Found r = (is_in (x ∷ ss) r ≡ true) × (owns (process_at a r) t ≡ true)

    later : (r : ℕ) → (is_in ss r ≡ true) × (owns (process_at a r) t ≡ true) → Found r
    later r (l, o) = (either (x == r), o)
      where
        either : (b : Bool) → (b || is_in ss r) ≡ true
        either true = refl
        either false = l

    first : owns (process_at a x) t ≡ true → Found x
    first o = (rw (eq-eqb x x refl) refl, o)

    pick : (b : Bool) (r : ℕ) → Found r → Found x → Found (if b then r else x)
    pick true r f g = f
    pick false r f g = g

    go : (b : Bool) → owns (process_at a x) t ≡ b →
        (if b then Some (lesser x (least_owner a t ss)) else least_owner a t ss) ≡ Some s →
        (o : Option ℕ) → least_owner a t ss ≡ o →
        ((r : ℕ) → least_owner a t ss ≡ Some r → (is_in ss r ≡ true) × (owns (process_at a r) t ≡ true)) → Found s
    go false e h o q k = later s (k s h)
    go true e h None q k = let i : x ≡ s = cc in subst Found i (first e)
    go true e h (Some r) q k =
        let i : (if nat_lt r x then r else x) ≡ s = cc in
        subst Found i (pick (nat_lt r x) r (later r (k r q)) (first e))

-- where nobody listed owns a name, there is no least owner
pub least_owner-none : (a : ℕ) (t : Table) (ss : List ℕ) →
    ((r : ℕ) → is_in ss r ≡ true → owns (process_at a r) t ≡ false) → least_owner a t ss ≡ None
least_owner-none a t [] h = refl
least_owner-none a t (x ∷ ss) h =
    rw (h x (rw (eq-eqb x x refl) refl)) (least_owner-none a t ss (λ r l. h r (either (x == r) (is_in ss r) l)))
  where
    either : (b c : Bool) → c ≡ true → (b || c) ≡ true
    either true c l = refl
    either false c l = l

lesser-first : (x : ℕ) (o : Option ℕ) → lesser x o ≤ x
lesser-first x None = omega arith
lesser-first x (Some r) = go (nat_lt r x) refl
  where
    go : (b : Bool) → nat_lt r x ≡ b → (if b then r else x) ≤ x
    go true e = omega (arith, ltb-true r x e)
    go false e = omega arith

lesser-other : (x r : ℕ) → lesser x (Some r) ≤ r
lesser-other x r = go (nat_lt r x) refl
  where
    go : (b : Bool) → nat_lt r x ≡ b → (if b then r else x) ≤ r
    go true e = omega arith
    go false e = elim (cases_lt r x) [ inl l ↦ absurd (cc (lt-ltb r x l, e)) | inr l ↦ l ]

-- the least owner is no greater than an owner that is listed
pub least_owner-least : (a : ℕ) (t : Table) (ss : List ℕ) (s : ℕ) → is_in ss s ≡ true → owns (process_at a s) t ≡ true →
    (r : ℕ) × (least_owner a t ss ≡ Some r) × (r ≤ s)
least_owner-least a t [] s l o = absurd cc
least_owner-least a t (x ∷ ss) s l o =
    go (owns (process_at a x) t) refl (x == s) refl l (λ k. least_owner-least a t ss s k o)
  where
    IsFound : Option ℕ → Type 0
    IsFound p = (r : ℕ) × (p ≡ Some r) × (r ≤ s)

    go : (b : Bool) → owns (process_at a x) t ≡ b → (c : Bool) → (x == s) ≡ c → (c || is_in ss s) ≡ true →
        (is_in ss s ≡ true → IsFound (least_owner a t ss)) →
        IsFound (if b then Some (lesser x (least_owner a t ss)) else least_owner a t ss)
    go false e false i k h = h k
    go false e true i k h = absurd (cc (ap (λ (y : ℕ). owns (process_at a y) t) (eqb-true x s i), e, o))
    go true e true i k h =
        (lesser x (least_owner a t ss), refl, omega (arith, lesser-first x (least_owner a t ss), eqb-true x s i))
    go true e false i k h =
        let (r, q, m) = h k in
        let less : lesser x (least_owner a t ss) ≤ r = subst (λ (p : Option ℕ). lesser x p ≤ r) (sym q)
        (lesser-other x r) in
        (lesser x (least_owner a t ss), refl, omega arith)
