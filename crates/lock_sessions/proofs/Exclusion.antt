-- The global lock excludes: who holds its round meets no member that writes.
use Rattle.std.proofs.Common.{ℕ, Bool, true, false, ◌≡◌, refl, ap, ◌∙◌, subst}
use Rattle.std.specs.Prelude.{if◌then◌else◌}
use Rattle.std.proofs.lemmas.Bool.{ltb-true}
use Rattle.protocol_model.specs.Round.{Round, Mark, asked}
use Rattle.protocol_model.specs.Node.{Op, Current, is_writing}
use Rattle.protocol_model.specs.World.{Opening, World}
use Rattle.moves.proofs.Rules.{IsHeld}
use Rattle.moves.proofs.Invariants.{IsUp, current, replica, Proper, Exclusive}
use Rattle.lock_sessions.proofs.Base.{not_both}
use Rattle.lock_sessions.proofs.LockTables.{globals, share, once, one_share}
use Rattle.lock_sessions.proofs.Sessions.{Stage, HasGrant, Session, fits, share_at, mark_in}
use Rattle.lock_sessions.proofs.Locking.{asks_itself, Locks}
use Rattle.lock_sessions.proofs.LockTurns.{below, held_round, asked_granted}

-- a node that has granted has the requester in its lock table
granted_share : (s : Stage) → fits s Mark.Granted ≡ true → share_at s ≡ once
granted_share HasGrant e = refl
granted_share _ e = cc

-- a node that writes has its own grant
own_mark : (h : ℕ) (c : Current) → is_writing c ≡ true → asks_itself h c ≡ true → mark_in c h ≡ Mark.Granted
own_mark h (Current.Writing op asked awaited reply) e k = ap (λ (b : Bool). if b then Mark.Granted else Mark.Out) k
own_mark h _ e k = cc

-- a member that runs has granted the lock once to a node whose round is held
pub held_share : (o : Opening) (w : World) → Proper o w → Locks o w → (a h : ℕ) (op : Op) (r : Round) → IsUp o w a
    → IsUp o w h → IsHeld o.bound (w.node a) op r → (replica o w a).members h ≡ true
    → share a (globals (w.node h).locks) ≡ once
held_share o w I L a h op r ua uh H member = P.1.share ∙ granted_share P.0
    (subst (λ (b : Bool). fits P.0 (if b then Mark.Granted else Mark.Out) ≡ true) is_asked
    (asked_granted o a w I L ua op r H h uh P.0 P.1.mark))
  where
    P : (s : Stage) × Session w a h s
    P = L.pairs a h ua uh

    is_asked : asked r h ≡ true
    is_asked = (held_round o a w I L ua op r H).grown h (ltb-true h o.bound (below o a w I L ua h uh)) member

-- a round that is held meets no member that writes
pub exclusive : (o : Opening) (w : World) → Proper o w → Locks o w → Exclusive o w
exclusive o w I L = record { alone = apart }
  where
    apart : (a h : ℕ) (op : Op) (r : Round) → IsUp o w a → IsUp o w h → IsHeld o.bound (w.node a) op r
        → is_writing (current o w h) ≡ true → (replica o w a).members h ≡ true → ⊥
    apart a h op r ua uh H writes member = not_both (is_writing (w.node h).current) writes
        (subst (λ (y : ℕ). is_writing (w.node y).current ≡ false) same (ap is_writing H.current))
      where
        Q : (s : Stage) × Session w h h s
        Q = L.pairs h h uh uh

        its_own : share h (globals (w.node h).locks) ≡ once
        its_own = Q.1.share ∙ granted_share Q.0
            (subst (λ (m : Mark). fits Q.0 m ≡ true) (own_mark h (w.node h).current writes (L.writers h uh)) Q.1.mark)

        same : a ≡ h
        same = one_share (L.rows h uh).0 (w.node h).locks (L.rows h uh).1 a h 1 1
            (held_share o w I L a h op r ua uh H member) its_own
