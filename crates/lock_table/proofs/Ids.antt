-- When ids of locks are one, or of one resource, and in whose name they are.
use Rattle.std.proofs.Common.{Bool, true, false, ◌==◌, ◌≡◌, refl, sym, ◌∙◌}
use Rattle.std.specs.Prelude.{◌&&◌, if◌then◌else◌}
use Rattle.std.proofs.lemmas.Bool.{eqb-true, eq-eqb, ne_eqb}
use Rattle.protocol_model.specs.Letter.{Global, Client, is_id, is_resource}
use Rattle.term.specs.declared.lock_id.LockId.{LockId}
use Rattle.term.specs.LockIds.{global_text}
use Rattle.lock_table.specs.Ids.{id_of, requester_of, resource_of}

-- an id is in its requester's name
pub requester_of-id_of : (lock : LockId) → requester_of (id_of lock) ≡ lock.requester
requester_of-id_of lock = go (lock.resource == global_text)
  where
    go : (b : Bool)
        → requester_of (if b then Global lock.requester else Client lock.resource lock.requester) ≡ lock.requester
    go true = refl
    go false = refl

-- and on its resource
pub resource_of-id_of : (lock : LockId) → resource_of (id_of lock) ≡ lock.resource
resource_of-id_of lock = go (lock.resource == global_text) refl
  where
    go : (b : Bool) → (lock.resource == global_text) ≡ b
        → resource_of (if b then Global lock.requester else Client lock.resource lock.requester) ≡ lock.resource
    go true e = sym (eqb-true lock.resource global_text e)
    go false e = refl

-- one of two resources is `global`, and the other isn't
apart : (a b : LockId) → (a.resource == global_text) ≡ true → (b.resource == global_text) ≡ false
    → (a.resource == b.resource) ≡ false
apart a b p q =
    ne_eqb a.resource b.resource
    (λ i. absurd (cc (p, q, i)))

apart_back : (a b : LockId) → (a.resource == global_text) ≡ false → (b.resource == global_text) ≡ true
    → (a.resource == b.resource) ≡ false
apart_back a b p q =
    ne_eqb a.resource b.resource
    (λ i. absurd (cc (p, q, i)))

same_global : (a b : LockId) → (a.resource == global_text) ≡ true → (b.resource == global_text) ≡ true
    → (a.resource == b.resource) ≡ true
same_global a b p q =
    eq-eqb a.resource b.resource
    (eqb-true a.resource global_text p ∙ sym (eqb-true b.resource global_text q))

pub is_resource-id_of : (a b : LockId) → is_resource (id_of a) (id_of b) ≡ (a.resource == b.resource)
is_resource-id_of a b = go (a.resource == global_text) refl (b.resource == global_text) refl
  where
    go : (x : Bool) → (a.resource == global_text) ≡ x → (y : Bool) → (b.resource == global_text) ≡ y
        → is_resource (if x then Global a.requester else Client a.resource a.requester)
        (if y then Global b.requester else Client b.resource b.requester) ≡ (a.resource == b.resource)
    go true p true q = sym (same_global a b p q)
    go true p false q = sym (apart a b p q)
    go false p true q = sym (apart_back a b p q)
    go false p false q = refl

pub is_id-id_of : (a b : LockId)
    → is_id (id_of a) (id_of b) ≡ ((a.resource == b.resource) && (a.requester == b.requester))
is_id-id_of a b = go (a.resource == global_text) refl (b.resource == global_text) refl
  where
    go : (x : Bool) → (a.resource == global_text) ≡ x → (y : Bool) → (b.resource == global_text) ≡ y
        → is_id (if x then Global a.requester else Client a.resource a.requester)
        (if y then Global b.requester else Client b.resource b.requester)
        ≡ ((a.resource == b.resource) && (a.requester == b.requester))
    go true p true q = rw (same_global a b p q) refl
    go true p false q = rw (apart a b p q) refl
    go false p true q = rw (apart_back a b p q) refl
    go false p false q = refl
