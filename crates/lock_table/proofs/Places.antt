-- Where the grant of an id and a holder stands in a lock table, and what is so where there is none.
use Rattle.std.proofs.Common.{ℕ, zero, suc, Bool, true, false, ◌≡◌, ◌<◌, ◌++◌, Some, None, List, [], ◌∷◌, length, get_or, refl, ap, arith}
use Rattle.std.specs.Prelude.{if◌then◌else◌, find, All}
use Rattle.std.proofs.lemmas.List.Elements.{All-cons, All-head, All-tail, All-nil}
use Rattle.registry_model.specs.Process.{Process}
use Rattle.protocol_model.specs.Letter.{Id}
use Rattle.protocol_model.specs.LockTable.{Grant, Locks, is_grant_of, count, grant, give_back}

-- where no element is found, none passes
pub All-find_none : {X : Type 0} (p : X → Bool) (xs : List X) → find p xs ≡ None → All (λ x. p x ≡ false) xs
All-find_none p [] e = All-nil (λ x. p x ≡ false)
All-find_none p (x ∷ xs) e = go (p x) refl e (All-find_none p xs)
  where
    go : (b : Bool) → p x ≡ b → (if b then Some x else find p xs) ≡ None
        → (find p xs ≡ None → All (λ y. p y ≡ false) xs)
        → All (λ y. p y ≡ false) (x ∷ xs)
    go true q e rest = cc
    go false q e rest = All-cons (λ y. p y ≡ false) x xs q (rest e)

-- the first grant of this id and holder stands at place i
pub record StandsAt (id : Id) (p : Process) (t : Locks) (i : ℕ) (d : Grant) : Type 0 where
  pub within : i < length t
  pub here : is_grant_of id p (get_or t i d) ≡ true
  pub before : (k : ℕ) → k < i → is_grant_of id p (get_or t k d) ≡ false

stands_behind : (id : Id) (p : Process) (g : Grant) (t : Locks) (i : ℕ) (d : Grant)
    → StandsAt id p (g ∷ t) (suc i) d → StandsAt id p t i d
stands_behind id p g t i d s = record {
  within = omega (arith, s.within);
  here = s.here;
  before = λ k l. s.before (suc k) (omega (arith, l));
}

-- the count that stands there
pub count_there : (id : Id) (p : Process) (t : Locks) (i : ℕ) (d : Grant) → StandsAt id p t i d
    → count id p t ≡ (get_or t i d).count
count_there id p [] i d s = absurd (omega (arith, s.within))
count_there id p (g ∷ t) zero d s = rw s.here refl
count_there id p (g ∷ t) (suc i) d s = rw (s.before 0 (omega arith))
    (count_there id p t i d (stands_behind id p g t i d s))

-- Nothing is listed of this id and holder
module _ (id : Id) (p : Process) where
  abbrev Fails : Grant → Type 0
  Fails g = is_grant_of id p g ≡ false

  pub count-absent : (t : Locks) → All (λ g. is_grant_of id p g ≡ false) t → count id p t ≡ 0
  count-absent [] none = refl
  count-absent (g ∷ t) none = rw (All-head Fails g t none) (count-absent t (All-tail Fails g t none))

  pub grant-absent : (t : Locks) → All (λ g. is_grant_of id p g ≡ false) t
      → grant id p t ≡ t ++ record { id = id; holder = p; count = 1 } ∷ []
  grant-absent [] none = refl
  grant-absent (g ∷ t) none =
      rw (All-head Fails g t none) (ap (λ (u : Locks). g ∷ u) (grant-absent t (All-tail Fails g t none)))

  pub give_back-absent : (t : Locks) → All (λ g. is_grant_of id p g ≡ false) t → give_back id p t ≡ t
  give_back-absent [] none = refl
  give_back-absent (g ∷ t) none =
      rw (All-head Fails g t none) (ap (λ (u : Locks). g ∷ u) (give_back-absent t (All-tail Fails g t none)))
