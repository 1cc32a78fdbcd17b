-- What follows from the headline, in a user's words.
use mathlib.Core.Logic.{◌⊎◌}
use Rattle.std.specs.Prelude.{ℕ, Bool, true, false, ◌≡◌, IsTrue, Contains, Some, None, List, [], ◌∷◌, ◌++◌}
use Rattle.std.specs.List.{list_all}
use Rattle.registry_model.specs.Process.{Text, Process, Nodes, nobody}
use Rattle.registry_model.specs.Table.{Pair, Put, get}
use Rattle.registry_model.specs.Call.{NameCall, Register, Yes, No, change_of}
use Rattle.registry_model.specs.Registry.{in_group}
use Rattle.registry_model.specs.History.{Entry, Name, is_free, registry_of}
use Rattle.registry_model.specs.HistoryLaws.{HasOneOwner, IsFreeFor, Takes}
use Rattle.protocol_model.specs.Node.{holds_global}
use Rattle.protocol_model.specs.Event.{Call, Event, Refusal, Answer}
use Rattle.protocol_model.specs.World.{Opening, in_world, in_cluster, World, left, WorldEvent, At, refusal, happens, answers}
use Rattle.protocol_model.specs.Course.{Played, course}
use Rattle.protocol_model.specs.Fit.{NameAs, accepted_at}
use Rattle.protocol_model.specs.Answers.{IsSpawnOf}
use Rattle.protocol_model.specs.Headline.{Headline, EachStep}
use Rattle.headline.specs.Clauses.{world, now, events, so_far}

-- node a of the world hasn't left it
pub record Runs (o : Opening) (w : World) (a : ℕ) : Type 0 where
  pub inside : in_world o a ≡ true
  pub stays : left w a ≡ false

-- a running node that shows that it is joined
pub record RunsJoined (o : Opening) (w : World) (a : ℕ) : Type 0 where
  pub runs : Runs o w a
  pub joined : (w.node a).replica.joined ≡ true

-- At most one node of a group holds the global lock: a lone node is its own group, and of the joined nodes one holds
-- it at most
abbrev pub OneHolder : Type 0
OneHolder = (o : Opening) (es : List WorldEvent) (a b : ℕ) → RunsJoined o (world o es) a → RunsJoined o (world o es) b →
    holds_global ((world o es).node a) ≡ true → holds_global ((world o es).node b) ≡ true → a ≡ b

-- At no running node a name has two owners
abbrev pub OneOwnerAtEach : Type 0
OneOwnerAtEach = (o : Opening) (es : List WorldEvent) (a : ℕ) → Runs o (world o es) a
    → HasOneOwner ((world o es).node a).replica.table

-- While nobody holds the lock, running joined nodes that were told of the same departures show the same names
abbrev pub JoinedAgree : Type 0
JoinedAgree = (o : Opening) (es : List WorldEvent) (a b : ℕ) → RunsJoined o (world o es) a
    → RunsJoined o (world o es) b →
    (now o es).holder ≡ None → ((d : ℕ) → ((world o es).node a).replica.told d ≡ ((world o es).node b).replica.told d) →
    ((world o es).node a).replica.table ≡ ((world o es).node b).replica.table

-- A `no` to `register` is never given to a free name and a free process of a member: who is refused so saw the name or the
-- process taken
abbrev pub NoToTheTaken : Type 0
NoToTheTaken = (o : Opening) (es : List WorldEvent) (before later : List Entry) (n k : ℕ) (new : Pair) →
    (now o es).history ≡ before ++ Name n k (Register new) No ∷ later
    → IsFreeFor (registry_of (in_cluster o) before) n new → ⊥

-- A `yes` to `register` is only given to a free name and a free process of a member
abbrev pub YesToTheFreeOnly : Type 0
YesToTheFreeOnly = (o : Opening) (es : List WorldEvent) (before later : List Entry) (n k : ℕ) (new : Pair) →
    (now o es).history ≡ before ++ Name n k (Register new) Yes ∷ later
    → IsFreeFor (registry_of (in_cluster o) before) n new

-- some entry of these takes the name x from p, as n sees it
pub record IsTaken (cluster : Nodes) (before later : List Entry) (n : ℕ) (x : Text) (p : Process) : Type 0 where
  pub middle : List Entry
  pub entry : Entry
  pub rest : List Entry
  pub split : later ≡ middle ++ entry ∷ rest
  pub takes : Takes (registry_of cluster (before ++ middle)) n x p entry

-- After a `yes` to `register` every running node of the group, that wasn't told that the owner's node left, finds the
-- owner whenever no operation of its group holds, until an entry takes the name
abbrev pub YesStands : Type 0
YesStands = (o : Opening) (es : List WorldEvent) (before later : List Entry) (n k c : ℕ) (new : Pair) →
    (now o es).history ≡ before ++ Name n k (Register new) Yes ∷ later
    → in_group (registry_of (in_cluster o) before) n c ≡ true →
    (registry_of (in_cluster o) before).told c new.owner.node ≡ false → Runs o (world o es) c
    → IsTrue (is_free (so_far o es) c) →
    (get new.name ((world o es).node c).replica.table ≡ Some new.owner)
    ⊎ IsTaken (in_cluster o) (before ++ Name n k (Register new) Yes ∷ []) later c new.name new.owner

-- When a call that gives a name to a process is answered `yes`, every running node of the group finds it at once, but
-- for those that were told that the process's node left
abbrev pub YesIsFound : Type 0
YesIsFound = (o : Opening) (es : List WorldEvent) (before : List Played) (p : Played) (s : Answer) (call : NameCall)
    (new : Pair) →
    events o es ≡ before ++ p ∷ [] → Contains p.answers s → s.reply ≡ Yes →
    Contains (accepted_at s.node (events o es)) (NameAs s.number call) → change_of call ≡ Put new →
    (c : ℕ) → Runs o (world o es) c → in_group (so_far o es).registry s.node c ≡ true →
    ((world o es).node c).replica.told new.owner.node ≡ false →
    get new.name ((world o es).node c).replica.table ≡ Some new.owner

-- a refused event answers nothing and leaves the world and the course as they were
pub record ChangesNothing (o : Opening) (w : World) (e : WorldEvent) : Type 0 where
  pub world : happens o w e ≡ w
  pub answers : answers o w e ≡ []
  pub course : (es : List WorldEvent) → course o w (e ∷ es) ≡ course o w es

-- A refused event changes nothing
abbrev pub RefusedChangesNothing : Type 0
RefusedChangesNothing = (o : Opening) (w : World) (e : WorldEvent) (r : Refusal) → refusal o w e ≡ Some r
    → ChangesNothing o w e

-- no step before has given a process that this step gives
abbrev pub SpawnsAnew : List Played → Played → Type 0
SpawnsAnew before p = (q : Process) → IsSpawnOf p q → (s : Played) → Contains before s → IsSpawnOf s q → ⊥

-- No two spawns give one process
abbrev pub SpawnsGiveNew : Type 0
SpawnsGiveNew = (o : Opening) (es : List WorldEvent) → EachStep (events o es) SpawnsAnew

-- no join and no leave
abbrev pub is_fixed : WorldEvent → Bool
is_fixed (At a Event.Leave) = false
is_fixed (At a (Event.Calling (Call.JoinBy m))) = false
is_fixed _ = true

-- What stands where nobody joins or leaves: all that the headline says, and nodes of the cluster show one table and
-- one group
pub record FixedMembership (o : Opening) (es : List WorldEvent) : Type 0 where
  pub headline : Headline o (events o es) (now o es)
  -- the cluster is that of the opening, and nobody has left
  pub cluster : (c : ℕ) → (so_far o es).registry.joined c ≡ in_cluster o c
  pub stays : (c : ℕ) → (so_far o es).registry.left c ≡ false
  -- while no operation of the cluster holds, each of its nodes shows the registry's table, with the whole cluster as
  -- members, and nobody was sent anything
  pub shows : (a : ℕ) → in_cluster o a ≡ true → (so_far o es).held ≡ None →
      (now o es).node a ≡ record {
        table = (so_far o es).registry.table;
        members = in_cluster o;
        told = nobody;
        joined = true;
        notices = λ serial. [];
      }

-- The headline for every list of events without joins and departures
abbrev pub FixedAgreement : Type 0
FixedAgreement = (o : Opening) (es : List WorldEvent) → IsTrue (list_all is_fixed es) → FixedMembership o es
