-- Clients' locks of a world.
use Rattle.std.specs.Prelude.{ℕ, Bool, true, false, ◌≡◌, ◌&&◌, ◌||◌, not, Option, None, is_some, List, [], ◌∷◌, ◌++◌}
use Rattle.registry_model.specs.Process.{Text, Process}
use Rattle.protocol_model.specs.ClientLocks.{Try, tally_from, last_try, is_won, is_no_more, gives}
use Rattle.protocol_model.specs.Letter.{Id, Client}
use Rattle.protocol_model.specs.World.{Opening, World, WorldEvent as AnyWorldEvent, in_world, left, opening_world, refusal, happens, answers, run}
use Rattle.world_events.specs.declared.events.WorldEvent.{WorldEvent}
use Rattle.cluster_world.specs.WorldState.{WorldState}
use Rattle.world_events.specs.Openings.{opening_with}
use Rattle.getting_through.specs.NamedWorld.{NamedEvent, as_events}
use Rattle.cluster_world.specs.Seen.{names_of, opening_of, seen, named}
use Rattle.cluster_world.specs.Playing.{events_of}
use Rattle.cluster_world.specs.Agreeing.{IsRunOf}
use Rattle.getting_through.specs.Worlds.{of_nodes}
use Rattle.getting_through.specs.ClientLocks.{ClientLocks}
use Rattle.getting_through.specs.WorldsOfNames.{of_names}

-- Clients' locks behind these events, of which the world now is: no resource is held under two requesters at a node that hasn't
-- left it, they are counted by what is seen, and so is answered what comes next
abbrev pub LocksAfter : Opening → List AnyWorldEvent → World → Type 0
LocksAfter o es w = ClientLocks (of_nodes o) es w

-- Whatever made the old world what it was, that and then these events made the new one, locks exclude each other and are
-- answered so behind them all: in the world of names, and in the world of nodes that it is
abbrev pub LocksBehind : List WorldEvent → WorldState → WorldState → Type 0
LocksBehind es old new = (before : List NamedEvent) → IsRunOf before old
    → LocksAfter (opening_of new) (as_events (names_of new) (before ++ events_of es)) (seen new)
    × ClientLocks (of_names (names_of new)) (before ++ events_of es) (named new)

-- So it is in every world, whatever nodes it has and whichever of them are joined at first, after every list of
-- events
abbrev pub LocksInEveryWorld : Type 0
LocksInEveryWorld = (nodes cluster : List ℕ) (es : List AnyWorldEvent) → LocksAfter (opening_with nodes cluster) es
    (run (opening_with nodes cluster) (opening_world (opening_with nodes cluster)) es)

-- the event leaves p its lock of this id at c: it is refused, or behind it p is neither dead nor on a node that has
-- left, and it is no `del_lock` of that id by p that goes to c
abbrev pub is_left : Opening → World → AnyWorldEvent → Process → Id → ℕ → Bool
is_left o w e p id c = is_some (refusal o w e) || (not (is_no_more (happens o w e) p) && not (gives w e p id c))

-- so does each of these events
abbrev pub is_kept : Opening → World → List AnyWorldEvent → Process → Id → ℕ → Bool
is_kept o w [] p id c = true
is_kept o w (e ∷ es) p id c = is_left o w e p id c && is_kept o (happens o w e) es p id c

-- the world that these events made, and the last try of p behind them
abbrev pub made_by : Opening → List AnyWorldEvent → World
made_by o es = run o (opening_world o) es

abbrev pub try_behind : Opening → List AnyWorldEvent → Process → Id → ℕ → Option Try
try_behind o es p id c = (tally_from o (opening_world o) es p id c (record { number = 0; last = None })).last

-- p has the lock of this id by a grant that c was asked for: an accepted event answered `true` to its last try of that
-- id, which had to ask c, and since then p isn't gone and nothing took the lock from it there
pub record HasLock (o : Opening) (es : List AnyWorldEvent) (p : Process) (id : Id) (c : ℕ) : Type 0 where
  pub before : List AnyWorldEvent
  pub event : AnyWorldEvent
  pub later : List AnyWorldEvent
  pub split : es ≡ before ++ event ∷ later
  pub accepted : refusal o (made_by o before) event ≡ None
  pub granted : is_won p id c (answers o (made_by o before) event)
      (last_try (made_by o before) event p (try_behind o before p id c)) ≡ true
  pub alive : is_no_more (happens o (made_by o before) event) p ≡ false
  pub kept : is_kept o (happens o (made_by o before) event) later p id c ≡ true

-- Two requesters whose granted locks on one resource asked a common running node never both hold it there
abbrev pub NeverBothHold : Type 0
NeverBothHold = (nodes cluster : List ℕ) (es : List AnyWorldEvent) (c : ℕ) (p q : Process) (resource x y : Text)
    → in_world (opening_with nodes cluster) c ≡ true
    → left (made_by (opening_with nodes cluster) es) c ≡ false → (x ≡ y → ⊥)
    → HasLock (opening_with nodes cluster) es p (Client resource x) c
    → HasLock (opening_with nodes cluster) es q (Client resource y) c → ⊥
