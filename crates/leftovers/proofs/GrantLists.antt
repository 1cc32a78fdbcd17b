-- What is known of all grants of a lock table, by id and holder, and that each counts.
use Rattle.std.proofs.Common.{Bool, true, false, ◌≡◌, ◌+◌, ◌-◌, List, [], ◌∷◌, refl, arith}
use Rattle.std.specs.Prelude.{nat_lt, filter, if◌then◌else◌}
use Rattle.std.specs.List.{list_all}
use Rattle.std.proofs.lemmas.Bool.Decides.{nat_tests}
use Rattle.registry_model.specs.Process.{Process}
use Rattle.protocol_model.specs.Letter.{Id}
use Rattle.protocol_model.specs.LockTable.{Locks, is_grant_of, grant, give_back}
use Rattle.headline.proofs.Indices.{both}

-- every grant passes a test of its id and its holder
abbrev pub all_grants : (Id → Process → Bool) → Locks → Bool
all_grants test t = list_all (λ g. test g.id g.holder) t

-- every grant counts
abbrev pub all_count : Locks → Bool
all_count t = list_all (λ g. nat_lt 0 g.count) t

pub all_filter : {A : Type 0} (test keep : A → Bool) (t : List A) → list_all test t ≡ true
    → list_all test (filter keep t) ≡ true
all_filter test keep [] h = refl
all_filter test keep (g ∷ t) h =
    let parts : (test g ≡ true) × (list_all test t ≡ true) = both (test g) (list_all test t) h in
    go (keep g) parts.0 (all_filter test keep t parts.1)
  where
    go : (b : Bool) → test g ≡ true → list_all test (filter keep t) ≡ true
        → list_all test (if b then g ∷ filter keep t else filter keep t) ≡ true
    go true e k = rw (e, k) refl
    go false e k = k

-- what is filtered passes
pub all_kept : {A : Type 0} (keep : A → Bool) (t : List A) → list_all keep (filter keep t) ≡ true
all_kept keep [] = refl
all_kept keep (g ∷ t) = go (keep g) refl (all_kept keep t)
  where
    go : (b : Bool) → keep g ≡ b → list_all keep (filter keep t) ≡ true
        → list_all keep (if b then g ∷ filter keep t else filter keep t) ≡ true
    go true e k = rw (e, k) refl
    go false e k = k

module _ (test : Id → Process → Bool) where
  pub all_grant : (id : Id) (p : Process) (t : Locks) → test id p ≡ true → all_grants test t ≡ true
      → all_grants test (grant id p t) ≡ true
  all_grant id p [] e h = rw e refl
  all_grant id p (g ∷ t) e h =
      let parts : (test g.id g.holder ≡ true) × (all_grants test t ≡ true) = both (test g.id g.holder)
      (all_grants test t) h in
      go (is_grant_of id p g) parts.0 parts.1 (all_grant id p t e parts.1)
    where
      go : (b : Bool) → test g.id g.holder ≡ true → all_grants test t ≡ true → all_grants test (grant id p t) ≡ true
          → all_grants test (if b then record g { count = g.count + 1 } ∷ t else g ∷ grant id p t) ≡ true
      go true x y z = rw (x, y) refl
      go false x y z = rw (x, z) refl

  pub all_give_back : (id : Id) (p : Process) (t : Locks) → all_grants test t ≡ true
      → all_grants test (give_back id p t) ≡ true
  all_give_back id p [] h = refl
  all_give_back id p (g ∷ t) h =
      let parts : (test g.id g.holder ≡ true) × (all_grants test t ≡ true) = both (test g.id g.holder)
      (all_grants test t) h in
      go (is_grant_of id p g) (nat_lt 1 g.count) parts.0 parts.1 (all_give_back id p t parts.1)
    where
      go : (b c : Bool) → test g.id g.holder ≡ true → all_grants test t ≡ true
          → all_grants test (give_back id p t) ≡ true
          → all_grants test (if b then (if c then record g { count = g.count - 1 } ∷ t else t)
          else g ∷ give_back id p t) ≡ true
      go true true x y z = rw (x, y) refl
      go true false x y z = y
      go false c x y z = rw (x, z) refl

pub count_grant : (id : Id) (p : Process) (t : Locks) → all_count t ≡ true → all_count (grant id p t) ≡ true
count_grant id p [] h = refl
count_grant id p (g ∷ t) h =
    let parts : (nat_lt 0 g.count ≡ true) × (all_count t ≡ true) = both (nat_lt 0 g.count) (all_count t) h in
    go (is_grant_of id p g) parts.0 parts.1 (count_grant id p t parts.1)
  where
    more : nat_lt 0 (g.count + 1) ≡ true
    more = grind (arith, nat_tests)

    go : (b : Bool) → nat_lt 0 g.count ≡ true → all_count t ≡ true → all_count (grant id p t) ≡ true
        → all_count (if b then record g { count = g.count + 1 } ∷ t else g ∷ grant id p t) ≡ true
    go true x y z = rw (more, y) refl
    go false x y z = rw (x, z) refl

pub count_give_back : (id : Id) (p : Process) (t : Locks) → all_count t ≡ true → all_count (give_back id p t) ≡ true
count_give_back id p [] h = refl
count_give_back id p (g ∷ t) h =
    let parts : (nat_lt 0 g.count ≡ true) × (all_count t ≡ true) = both (nat_lt 0 g.count) (all_count t) h in
    go (is_grant_of id p g) (nat_lt 1 g.count) refl parts.0 parts.1 (count_give_back id p t parts.1)
  where
    less : nat_lt 1 g.count ≡ true → nat_lt 0 (g.count - 1) ≡ true
    less e = grind (arith, nat_tests, e)

    go : (b c : Bool) → nat_lt 1 g.count ≡ c → nat_lt 0 g.count ≡ true → all_count t ≡ true
        → all_count (give_back id p t) ≡ true
        → all_count (if b then (if c then record g { count = g.count - 1 } ∷ t else t)
        else g ∷ give_back id p t) ≡ true
    go true true e x y z = rw (less e, y) refl
    go true false e x y z = y
    go false c e x y z = rw (x, z) refl
