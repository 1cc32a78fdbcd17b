-- What is found in a list by a test.
use Rattle.std.proofs.Common.{Bool, true, false, ◌≡◌, List, [], ◌∷◌, refl, ap, ◌∙◌, subst, inl, inr}
use Rattle.std.specs.Prelude.{◌&&◌, ◌||◌, Contains}
use Rattle.std.specs.List.{list_any, list_all}
use Rattle.std.proofs.lemmas.Bool.{and_parts}
use Rattle.registry_model.proofs.Lists.{Contains-cases, Contains-front, Contains-behind, Contains-nil}

-- what is contained and passes is found
pub found_any : {A : Type 0} (test : A → Bool) (xs : List A) (x : A) → Contains xs x → test x ≡ true
    → list_any test xs ≡ true
found_any test [] x c h = absurd (Contains-nil x c)
found_any {A} test (y ∷ xs) x c h = elim (Contains-cases y xs x c) [
  | inl e ↦ ap (λ (b : Bool). b || list_any test xs) (ap test e ∙ h)
  | inr d ↦ go (test y) (found_any test xs x d h)
]
  where
    go : (b : Bool) → list_any test xs ≡ true → (b || list_any test xs) ≡ true
    go true k = refl
    go false k = k

-- and what is found is contained
pub any_found : {A : Type 0} (test : A → Bool) (xs : List A) → list_any test xs ≡ true
    → (x : A) × Contains xs x × (test x ≡ true)
any_found test [] h = cc
any_found {A} test (x ∷ xs) h = go (test x) refl h (any_found test xs)
  where
    go : (b : Bool) → test x ≡ b → (b || list_any test xs) ≡ true
        → (list_any test xs ≡ true → (y : A) × Contains xs y × (test y ≡ true))
        → (y : A) × Contains (x ∷ xs) y × (test y ≡ true)
    go true e k more = (x, Contains-front x xs, e)
    go false e k more =
        let one : (y : A) × Contains xs y × (test y ≡ true) = more k in
        (one.0, Contains-behind x xs one.0 one.1, one.2)

-- where none is found, none that is contained passes
pub none_passes : {A : Type 0} (test : A → Bool) (xs : List A) (x : A) → list_any test xs ≡ false → Contains xs x
    → test x ≡ false
none_passes test xs x e c = go (test x) refl
  where
    go : (b : Bool) → test x ≡ b → b ≡ false
    go true h = cc (found_any test xs x c h, e)
    go false h = refl

-- and where none passes, none is found
pub none_found_in : {A : Type 0} (test : A → Bool) (xs : List A) → ((x : A) → Contains xs x → test x ≡ false)
    → list_any test xs ≡ false
none_found_in {A} test xs none = go (list_any test xs) refl
  where
    go : (b : Bool) → list_any test xs ≡ b → b ≡ false
    go true e =
        let one : (x : A) × Contains xs x × (test x ≡ true) = any_found test xs e in
        cc (none one.0 one.1, one.2)
    go false e = refl

-- where all pass, each that is contained does
pub item_passes : {A : Type 0} (test : A → Bool) (xs : List A) (x : A) → list_all test xs ≡ true → Contains xs x
    → test x ≡ true
item_passes {A} test [] x e c = absurd (Contains-nil x c)
item_passes {A} test (y ∷ ys) x e c = elim (Contains-cases y ys x c) [
  | inl q ↦ subst (λ (z : A). test z ≡ true) q (and_parts (test y) (list_all test ys) e).0
  | inr d ↦ item_passes test ys x (and_parts (test y) (list_all test ys) e).1 d
]

-- where not all pass, one of them doesn't
pub some_fails : {A : Type 0} (test : A → Bool) (xs : List A) → list_all test xs ≡ false
    → (x : A) × Contains xs x × (test x ≡ false)
some_fails test [] e = cc
some_fails {A} test (x ∷ xs) e = go (test x) refl e (some_fails test xs)
  where
    go : (b : Bool) → test x ≡ b → (b && list_all test xs) ≡ false
        → (list_all test xs ≡ false → (y : A) × Contains xs y × (test y ≡ false))
        → (y : A) × Contains (x ∷ xs) y × (test y ≡ false)
    go false i h more = (x, Contains-front x xs, i)
    go true i h more =
        let one : (y : A) × Contains xs y × (test y ≡ false) = more h in
        (one.0, Contains-behind x xs one.0 one.1, one.2)

-- and where one doesn't, not all pass
pub fails_all : {A : Type 0} (test : A → Bool) (xs : List A) (x : A) → Contains xs x → test x ≡ false
    → list_all test xs ≡ false
fails_all test xs x c f = go (list_all test xs) refl
  where
    go : (b : Bool) → list_all test xs ≡ b → b ≡ false
    go true e = cc (item_passes test xs x e c, f)
    go false e = refl
