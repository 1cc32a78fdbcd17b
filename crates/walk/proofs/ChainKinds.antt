-- Which rules of lock calls may come behind an event's own rule: none, those of a retry, or those that go on with open
-- calls. And which rules need a letter, and which come first or not at all.
use Rattle.std.proofs.Common.{ℕ, Bool, true, false, ◌==◌, ◌≡◌, Option, Some, None}
use Rattle.std.specs.Prelude.{not, ◌&&◌, ◌||◌}
use Rattle.protocol_model.specs.Node.{Node, LockCall, call_of}
use Rattle.moves.proofs.Indices.{both}
use Rattle.moves.proofs.Rules
use Rattle.moves.proofs.Rules.{Rule, is_quiet}

pub data Kind : Type 0 where
  Aside : Kind  -- no rule of a lock call
  Again : (before : Node) → Kind  -- calls are tried again that were open at this node
  Hearing : Kind  -- open calls go on and end

-- the number is that of this call
abbrev pub is_number_of : Option LockCall → ℕ → Bool
is_number_of None m = false
is_number_of (Some c) m = c.number == m

-- a call may be tried
abbrev pub may_try : Kind → LockCall → Bool
may_try (Again v) c = is_number_of (call_of c.holder v.calls) c.number
may_try _ c = false

-- an open call may go on
abbrev pub may_go_on : Kind → Bool
may_go_on Hearing = true
may_go_on _ = false

-- a rule may come in a chain of this kind
abbrev pub suits : Kind → Rule → Bool
suits k (Rules.AsksLock c) = may_try k c
suits k (Rules.FailsLock c) = may_try k c
suits k (Rules.HearsLock f id granted c r) = may_go_on k
suits k (Rules.MarksLockDown d c r) = may_go_on k
suits k (Rules.WinsLock c r) = may_go_on k
suits k (Rules.GivesUpLock c r granted) = may_go_on k
suits k (Rules.CountsGivenBack f c owing) = may_go_on k
suits k (Rules.EndsDeletion f c owing) = may_go_on k
suits k (Rules.CountsLockDown d c owing) = may_go_on k
suits k (Rules.EndsDeletionDown d c owing) = may_go_on k
suits k (Rules.DeletesLock c) = false
suits k (Rules.DeletesNothing c) = false
suits k _ = true

-- by this rule a node decides, refuses or ends an operation, or refuses a joiner
abbrev pub settles : Rule → Bool
settles (Rules.Grants number call r) = true
settles (Rules.Denies number call r) = true
settles (Rules.Strikes p r) = true
settles (Rules.Admits j pairs r) = true
settles (Rules.Finishes op asked awaited reply) = true
settles (Rules.RefusesJoin f pairs) = true
settles _ = false

-- it settles nothing, or does so by a letter; and by no letter a refused round begins anew
abbrev pub is_allowed : Bool → Rule → Bool
is_allowed delivered (Rules.Retries op) = not delivered
is_allowed delivered r = not (settles r) || delivered

-- it leaves the lock table of its node as it is
abbrev pub leaves_locks : Rule → Bool
leaves_locks (Rules.Judges f id p) = false
leaves_locks (Rules.TakesBack f id p ack) = false
leaves_locks (Rules.Releases f p) = false
leaves_locks (Rules.IsTold f) = false
leaves_locks _ = true

-- it isn't an event's own rule, and may begin such a chain
abbrev pub may_begin : Kind → Rule → Bool
may_begin k r = (is_quiet r && is_allowed (may_go_on k) r) && suits k r

-- and may come later in it
abbrev pub is_fit : Kind → Rule → Bool
is_fit k r = leaves_locks r && may_begin k r

-- what these tests say: of a rule that begins a chain
pub begin_quiet : (k : Kind) (r : Rule) → may_begin k r ≡ true → is_quiet r ≡ true
begin_quiet k r h = (both (is_quiet r) (is_allowed (may_go_on k) r)
    (both (is_quiet r && is_allowed (may_go_on k) r) (suits k r) h).0).0

pub begin_allowed : (k : Kind) (r : Rule) → may_begin k r ≡ true → is_allowed (may_go_on k) r ≡ true
begin_allowed k r h = (both (is_quiet r) (is_allowed (may_go_on k) r)
    (both (is_quiet r && is_allowed (may_go_on k) r) (suits k r) h).0).1

pub begin_suits : (k : Kind) (r : Rule) → may_begin k r ≡ true → suits k r ≡ true
begin_suits k r h = (both (is_quiet r && is_allowed (may_go_on k) r) (suits k r) h).1

-- and of one that comes later
pub fit_begins : (k : Kind) (r : Rule) → is_fit k r ≡ true → may_begin k r ≡ true
fit_begins k r h = (both (leaves_locks r) (may_begin k r) h).1

pub fit_quiet : (k : Kind) (r : Rule) → is_fit k r ≡ true → is_quiet r ≡ true
fit_quiet k r h = begin_quiet k r (fit_begins k r h)

pub fit_leaves : (k : Kind) (r : Rule) → is_fit k r ≡ true → leaves_locks r ≡ true
fit_leaves k r h = (both (leaves_locks r) (may_begin k r) h).0
