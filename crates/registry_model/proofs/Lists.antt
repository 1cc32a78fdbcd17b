-- Lists: what they contain, induction from their ends, and processes as elements.
use Rattle.std.proofs.Common.{ℕ, zero, suc, Bool, true, false, ◌==◌, ◌≡◌, Option, Some, None, List, [], ◌∷◌, ◌++◌, refl, sym, subst, ap, inl, inr, arith}
use Rattle.std.specs.Prelude.{◌⊎◌, ◌||◌, Contains}
use Rattle.std.specs.List.{list_any}
use Rattle.std.proofs.Math.Path.{ap₂}
use Rattle.std.proofs.lemmas.List.{append_assoc, append-nil}
use Rattle.std.proofs.lemmas.Bool.{eq-eqb, eqb-true, and_parts, and_from, false_from_ne_true}
use Rattle.registry_model.specs.Process.{Text, Process, is_process}
use Rattle.registry_model.specs.Settlement.{Notice}
use Rattle.registry_model.specs.Call.{is_other, is_notice, are_notices}

-- what a list contains is its front or behind it
pub Contains-cases : {X : Type 0} (y : X) (xs : List X) (x : X) → Contains (y ∷ xs) x → (y ≡ x) ⊎ Contains xs x
Contains-cases y xs x (zero, l, e) = inl e
Contains-cases y xs x (suc k, l, e) = inr (k, omega arith, e)

-- a list contains its front
pub Contains-front : {X : Type 0} (x : X) (xs : List X) → Contains (x ∷ xs) x
Contains-front x xs = (0, omega arith, refl)

-- and what stands behind it
pub Contains-behind : {X : Type 0} (y : X) (xs : List X) (x : X) → Contains xs x → Contains (y ∷ xs) x
Contains-behind y xs x (k, l, e) = (suc k, omega arith, e)

-- the empty list contains nothing
pub Contains-nil : {X : Type 0} (x : X) → Contains [] x → ⊥
Contains-nil x (k, l, e) = absurd (omega arith)

-- what a list contains stands between two parts of it
pub Contains-split : {X : Type 0} (xs : List X) (x : X) → Contains xs x →
    (before : List X) × (later : List X) × (xs ≡ before ++ x ∷ later)
Contains-split [] x c = absurd (Contains-nil x c)
Contains-split {X} (y ∷ xs) x c = go (Contains-cases y xs x c) (Contains-split xs x)
  where
    go : (y ≡ x) ⊎ Contains xs x → (Contains xs x → (before : List X) × (later : List X) × (xs ≡ before ++ x ∷ later)) →
        (before : List X) × (later : List X) × (y ∷ xs ≡ before ++ x ∷ later)
    go (inl e) h = ([], xs, ap (λ (z : X). z ∷ xs) e)
    go (inr c) h = let (before, later, e) : (before : List X) × (later : List X) × (xs ≡ before ++ x ∷ later) = h c in
        (y ∷ before, later, ap (λ (zs : List X). y ∷ zs) e)

-- induction from the end of a list
pub by_push : {X : Type 0} (P : List X → Type 0) → P [] → ((xs : List X) (x : X) → P xs → P (xs ++ x ∷ [])) →
    (xs : List X) → P xs
by_push {X} P none more xs = go [] xs none
  where
    go : (before later : List X) → P before → P (before ++ later)
    go before [] h = subst P (sym (append-nil before)) h
    go before (x ∷ later) h =
        subst P (append_assoc before (x ∷ []) later) (go (before ++ x ∷ []) later (more before x h))

-- two processes that pass the test are one
pub is_process-true : (p q : Process) → is_process p q ≡ true → p ≡ q
is_process-true p q e =
    let both : (p.node == q.node ≡ true) × (p.serial == q.serial ≡ true) =
    and_parts (p.node == q.node) (p.serial == q.serial) e in
    ap₂ (λ (n s : ℕ). let r : Process = record { node = n; serial = s } in
    r) (eqb-true p.node q.node both.0) (eqb-true p.serial q.serial both.1)

-- a process is itself
pub is_process-same : (p : Process) → is_process p p ≡ true
is_process-same p = and_from (p.node == p.node) (p.serial == p.serial) (eq-eqb p.node p.node refl)
    (eq-eqb p.serial p.serial refl)

-- the same, of two names for it
pub is_process-eq : (p q : Process) → p ≡ q → is_process p q ≡ true
is_process-eq p q e = subst (λ (r : Process). is_process p r ≡ true) e (is_process-same p)

-- two processes
pub is_process-other : (p q : Process) → (p ≡ q → ⊥) → is_process p q ≡ false
is_process-other p q ne = false_from_ne_true (is_process p q) (λ e. ne (is_process-true p q e))

-- one process or two
pub cases_process : (p q : Process) → (p ≡ q) ⊎ (p ≡ q → ⊥)
cases_process p q = go (is_process p q) refl
  where
    go : (b : Bool) → is_process p q ≡ b → (p ≡ q) ⊎ (p ≡ q → ⊥)
    go true e = inl (is_process-true p q e)
    go false e = inr (λ i. let h : is_process p q ≡ true = is_process-eq p q i in cc)

-- the test finds a process that stands in the list
pub list_any-Contains : (p : Process) (ps : List Process) → Contains ps p → list_any (is_process p) ps ≡ true
list_any-Contains p [] c = absurd (Contains-nil p c)
list_any-Contains p (q ∷ ps) c = elim (Contains-cases q ps p c) [
  | inl i ↦ rw (is_process-eq p q (sym i)) refl
  | inr h ↦ found (is_process p q) (list_any-Contains p ps h)
]
  where
    found : (b : Bool) → list_any (is_process p) ps ≡ true → (b || list_any (is_process p) ps) ≡ true
    found true h = refl
    found false h = h

-- and none else
pub Contains-list_any : (p : Process) (ps : List Process) → list_any (is_process p) ps ≡ true → Contains ps p
Contains-list_any p [] e = absurd cc
Contains-list_any p (q ∷ ps) e = go (is_process p q) refl (Contains-list_any p ps) e
  where
    go : (b : Bool) → is_process p q ≡ b → (list_any (is_process p) ps ≡ true → Contains ps p) →
        (b || list_any (is_process p) ps) ≡ true → Contains (q ∷ ps) p
    go true k h e = subst (λ (r : Process). Contains (r ∷ ps) p) (is_process-true p q k) (Contains-front p ps)
    go false k h e = Contains-behind q ps p (h e)

-- two processes that pass the test are one, if there are any
is_other-true : (p q : Option Process) → is_other p q ≡ true → p ≡ q
is_other-true None None e = refl
is_other-true (Some p) (Some q) e = ap (λ (r : Process). let o : Option Process = Some r in o) (is_process-true p q e)
is_other-true _ _ e = cc

-- notices that pass the test are one
is_notice-true : (f g : Notice) → is_notice f g ≡ true → f ≡ g
is_notice-true f g e =
    let both : (f.name == g.name ≡ true) × (is_other f.other g.other ≡ true) =
    and_parts (f.name == g.name) (is_other f.other g.other) e in
    ap₂ (λ (x : Text) (o : Option Process). let n : Notice = record { name = x; other = o } in
    n) (eqb-true f.name g.name both.0) (is_other-true f.other g.other both.1)

-- and so are lists of them
pub are_notices-true : (fs gs : List Notice) → are_notices fs gs ≡ true → fs ≡ gs
are_notices-true [] [] e = refl
are_notices-true (f ∷ fs) (g ∷ gs) e =
    let both : (is_notice f g ≡ true) × (are_notices fs gs ≡ true) = and_parts (is_notice f g) (are_notices fs gs) e in
    ap₂ (λ (h : Notice) (hs : List Notice). h ∷ hs) (is_notice-true f g both.0) (are_notices-true fs gs both.1)
are_notices-true _ _ e = cc

-- a process is the other that it is
is_other-same : (p : Option Process) → is_other p p ≡ true
is_other-same None = refl
is_other-same (Some p) = is_process-same p

-- lists of notices are themselves
pub are_notices-same : (fs : List Notice) → are_notices fs fs ≡ true
are_notices-same [] = refl
are_notices-same (f ∷ fs) =
    and_from _ _ (and_from (f.name == f.name) _ (eq-eqb f.name f.name refl) (is_other-same f.other)) (are_notices-same fs)
