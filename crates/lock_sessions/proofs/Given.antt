-- Whom a lock table shows the global lock given to.
use Rattle.std.proofs.Common.{ℕ, Bool, true, false, ◌==◌, ◌≡◌, Some, None, [], ◌∷◌, refl, sym, ap, ◌∙◌, inl, inr}
use Rattle.std.specs.Prelude.{◌||◌, if◌then◌else◌}
use Rattle.std.proofs.lemmas.Bool.{cases_eq, eq-eqb, ne_eqb, eqb-true}
use Rattle.registry_model.specs.Process.{Process}
use Rattle.protocol_model.specs.Round.{Round}
use Rattle.protocol_model.specs.Letter.{Id, Global, Client}
use Rattle.protocol_model.specs.LockTable.{Locks}
use Rattle.protocol_model.specs.Node.{Op}
use Rattle.protocol_model.specs.World.{Opening, World}
use Rattle.protocol_model.specs.Course.{global_given}
use Rattle.moves.proofs.Rules.{IsHeld}
use Rattle.moves.proofs.Invariants.{IsUp, replica, Proper}
use Rattle.lock_sessions.proofs.LockTables.{globals, Row, Nobody, Held, grants_of, share, once}
use Rattle.lock_sessions.proofs.Locking.{Locks as KnownLocks}
use Rattle.lock_sessions.proofs.Exclusion.{held_share}

-- its own grants alone tell who has the global lock
given-globals : (t : Locks) (b : ℕ) → global_given t b ≡ global_given (globals t) b
given-globals [] b = refl
given-globals (g ∷ t) b = head g.id g.holder g.count (given-globals t b)
  where
    head : (i : Id) (h : Process) (k : ℕ) → global_given t b ≡ global_given (globals t) b
        → global_given (record { id = i; holder = h; count = k } ∷ t) b
        ≡ global_given (globals (record { id = i; holder = h; count = k } ∷ t)) b
    head (Client s q) h k e = e
    head (Global x) h k e = ap (λ (c : Bool). (x == b) || c) e

-- a node that has a share of the lock has it alone
given_alone : (row : Row) (a b : ℕ) → share a (grants_of row) ≡ once → global_given (grants_of row) b ≡ (b == a)
given_alone Nobody a b e = cc
given_alone (Held x k) a b e = same (x == a) refl e
  where
    turned : x ≡ a → ((x == b) || false) ≡ (b == a)
    turned i = elim (cases_eq b a) [
      | inl j ↦ ap (λ (c : Bool). c || false) (eq-eqb x b (i ∙ sym j)) ∙ sym (eq-eqb b a j)
      | inr ne ↦ ap (λ (c : Bool). c || false) (ne_eqb x b (λ h. ne (sym h ∙ i))) ∙ sym (ne_eqb b a ne)
    ]

    same : (c : Bool) → (x == a) ≡ c → (if c then Some k else None) ≡ once → ((x == b) || false) ≡ (b == a)
    same true i h = turned (eqb-true x a i)
    same false i h = cc

-- a member that runs has given the lock to a node whose round is held, and to no other
pub held_given : (o : Opening) (w : World) → Proper o w → KnownLocks o w → (a h : ℕ) (op : Op) (r : Round) → IsUp o w a
    → IsUp o w h → IsHeld o.bound (w.node a) op r → (replica o w a).members h ≡ true
    → (b : ℕ) → global_given (w.node h).locks b ≡ (b == a)
held_given o w I L a h op r ua uh H member b = given-globals (w.node h).locks b
    ∙ ap (λ (t : Locks). global_given t b) row.1
    ∙ given_alone row.0 a b (sym (ap (share a) row.1) ∙ held_share o w I L a h op r ua uh H member)
  where
    row : (row : Row) × (globals (w.node h).locks ≡ grants_of row)
    row = L.rows h uh
