-- What an answered lock call does to the numbers of its holder: how often it holds each lock at each node.
use Rattle.std.specs.Prelude.{ℕ, Bool, false, ◌&&◌, ◌+◌, ◌-◌, ◌≡◌, Option, Some, None, List, ◌++◌, if◌then◌else◌}
use Rattle.registry_model.specs.Process.{Process}
use Rattle.protocol_model.specs.ClientLocks.{Try, is_no_more, holds_count}
use Rattle.protocol_model.specs.Event.{Call as AnyCall}
use Rattle.protocol_model.specs.Letter.{Id, Client, is_id}
use Rattle.protocol_model.specs.Node.{Target, targets}
use Rattle.protocol_model.specs.World.{World}
use Rattle.world_events.specs.declared.events.WorldEvent.{WorldEvent}
use Rattle.cluster_world.specs.WorldState.{WorldState}
use Rattle.getting_through.specs.NamedWorld.{NamedEvent, as_events}
use Rattle.cluster_world.specs.Seen.{names_of, opening_of, seen}
use Rattle.cluster_world.specs.Playing.{events_of}
use Rattle.cluster_world.specs.Agreeing.{IsRunOf}
use Rattle.cluster_world.specs.Locks.{try_behind}

-- the call is answered, and granted
abbrev pub is_granted : Option Bool → Bool
is_granted (Some granted) = granted
is_granted None = false

-- the try had to ask c
abbrev pub has_to_ask : ℕ → Option Try → Bool
has_to_ask c None = false
has_to_ask c (Some t) = t.asks c

-- a process that is gone holds nothing: a clash of names may kill it while its call waits
abbrev pub unless_gone : World → Process → ℕ → ℕ
unless_gone w p k = if is_no_more w p then 0 else k

-- Behind these events p holds the lock of this id once more, at each node that its last try had to ask, if its
-- `set_lock` is granted. Elsewhere, and of other ids, its numbers are as before
abbrev pub CountsGrant : Process → Id → Option Bool → List WorldEvent → WorldState → WorldState → Type 0
CountsGrant p id verdict es old new = (before : List NamedEvent) → IsRunOf before old → (i : Id) (c : ℕ)
    → holds_count (opening_of old) (as_events (names_of old) (before ++ events_of es)) p i c ≡ unless_gone (seen new) p
    (if is_id id i && has_to_ask c (try_behind (opening_of old) (as_events (names_of old) (before ++ events_of es)) p i c) && is_granted verdict
    then holds_count (opening_of old) (as_events (names_of old) before) p i c + 1
    else holds_count (opening_of old) (as_events (names_of old) before) p i c)

-- Behind these events p holds the lock of this id once less, at each node that its `del_lock` goes to, unless it held
-- none there. Elsewhere, and of other ids, its numbers are as before
abbrev pub CountsDeletion : Process → Id → Target → List WorldEvent → WorldState → WorldState → Type 0
CountsDeletion p id target es old new = (before : List NamedEvent) → IsRunOf before old → (i : Id) (c : ℕ)
    → holds_count (opening_of old) (as_events (names_of old) (before ++ events_of es)) p i c ≡ unless_gone (seen new) p
    (if is_id id i && targets ((seen old).node p.node).replica.members target c
    then holds_count (opening_of old) (as_events (names_of old) before) p i c - 1
    else holds_count (opening_of old) (as_events (names_of old) before) p i c)

-- so a lock call counts, whatever it is answered; other calls say nothing of locks
abbrev pub Counts : AnyCall → Option Bool → List WorldEvent → WorldState → WorldState → Type 0
Counts (AnyCall.SetLock p r q target retries) verdict es old new = CountsGrant p (Client r q) verdict es old new
Counts (AnyCall.DelLock p r q target) verdict es old new = CountsDeletion p (Client r q) target es old new
Counts _ verdict es old new = Unit
