-- What stands before an entry of a legal history, in words: the entries before it, and not what they come to.
-- cluster: the nodes that are joined at first; h, before, later and earlier: parts of a history, the oldest entry first. p is a
-- process, n a node, d one that left, j a joiner, m its contact, k the number of a call.
use Rattle.std.specs.Prelude.{ℕ, true, false, ◌≡◌, ◌↔◌, Contains, Some, None, List, ◌∷◌, ◌++◌}
use Rattle.registry_model.specs.Process.{Process, Nodes}
use Rattle.registry_model.specs.Call.{Look, Reply, Joined, NotMember, ContactLeft}
use Rattle.registry_model.specs.Registry.{Registry, Replica, in_group}
use Rattle.registry_model.specs.SharedLaws.{IsSeenIn}
use Rattle.registry_model.specs.History.{Entry, Strike, Join, Done, Left, Told, Read, registry_of, granted_to}
use Rattle.registry_model.specs.HistoryLaws.{decided_by, Died}
use Rattle.registry_model.specs.Legal.{IsLegal}
use Rattle.protocol_model.specs.World.{Opening, in_cluster, WorldEvent, refusal, happens}
use Rattle.protocol_model.specs.Fit.{maker_of}
use Rattle.creations.specs.NodeNames.{NamedOpening, opening_of}
use Rattle.creations.specs.NamedWorld.{NamedEvent, after_events}
use Rattle.creations.specs.Clauses.{world}
use Rattle.history_words.specs.Shown.{IsShownOf}

-- n was told that d has left: by a notice, or when it joined by a contact that was told
pub data WasTold : List Entry → ℕ → ℕ → Type 0 where
  ByNotice : (h : List Entry) (n d : ℕ) → Contains h (Told n d) → WasTold h n d
  ByContact : (h before later : List Entry) (n k m d : ℕ) → h ≡ before ++ Join n k m Joined ∷ later → WasTold before m d →
      WasTold h n d

-- n has joined: it was of the cluster at first, or a join of it was granted
pub data HasJoined (cluster : Nodes) (h : List Entry) (n : ℕ) : Type 0 where
  AtFirst : cluster n ≡ true → HasJoined cluster h n
  ByJoin : (k m : ℕ) → Contains h (Join n k m Joined) → HasJoined cluster h n

-- it has joined for good: what admitted it is done
pub data IsAdmitted (cluster : Nodes) (h : List Entry) (n : ℕ) : Type 0 where
  AtFirst : cluster n ≡ true → IsAdmitted cluster h n
  ByDone : (before later : List Entry) (k m : ℕ) → h ≡ before ++ Join n k m Joined ∷ later → Contains later (Done m) →
      IsAdmitted cluster h n

-- an operation of n holds: it was granted and isn't done
pub record OperationHolds (h : List Entry) (n : ℕ) : Type 0 where
  pub before : List Entry
  pub later : List Entry
  pub entry : Entry
  pub split : h ≡ before ++ entry ∷ later
  pub granted : granted_to entry ≡ Some n
  pub not_done : Contains later (Done n) → ⊥

-- What the registry of a history tells of departures and members is what its entries say, legal or not
pub record TellsItsEntries (cluster : Nodes) (h : List Entry) : Type 0 where
  pub left : (d : ℕ) → ((registry_of cluster h).left d ≡ true) ↔ Contains h (Left d)
  pub told : (n d : ℕ) → ((registry_of cluster h).told n d ≡ true) ↔ WasTold h n d
  pub joined : (n : ℕ) → ((registry_of cluster h).joined n ≡ true) ↔ HasJoined cluster h n

-- What stands before a join that is granted: the joiner hasn't joined, and its contact has and wasn't told that the joiner left
pub record MayBeAdmitted (cluster : Nodes) (before : List Entry) (j m : ℕ) : Type 0 where
  pub lone : HasJoined cluster before j → ⊥
  pub contact : HasJoined cluster before m
  pub untold : WasTold before m j → ⊥

-- a join is granted, or it is refused by a node that isn't admitted itself, or its contact has left, as the joiner was told
pub data IsJoinReply (cluster : Nodes) (before : List Entry) (j m : ℕ) : Reply → Type 0 where
  Granted : MayBeAdmitted cluster before j m → IsJoinReply cluster before j m Joined
  OfLone : (IsAdmitted cluster before m → ⊥) → IsJoinReply cluster before j m NotMember
  OfGone : WasTold before j m → IsJoinReply cluster before j m ContactLeft

-- by this registry n answers a look-up so: the reply is seen in what n shows of it
pub record ShowsTheReply (r : Registry) (n : ℕ) (look : Look) (reply : Reply) : Type 0 where
  pub shown : Replica
  pub of_registry : IsShownOf r n shown
  pub seen : IsSeenIn shown look reply

-- a look-up is answered by all entries before it, or by these without the one whose operation holds in n's group
pub data IsReadReply (cluster : Nodes) (before : List Entry) (n : ℕ) (look : Look) (reply : Reply) : Type 0 where
  ByAll : ShowsTheReply (registry_of cluster before) n look reply → IsReadReply cluster before n look reply
  WithoutOne : (a : ℕ) (holds : OperationHolds before a) → in_group (registry_of cluster before) n a ≡ true →
      ShowsTheReply (registry_of cluster (holds.before ++ holds.later)) n look reply → IsReadReply cluster before n look reply

-- What an entry says of those before it. What a name call says of them is told by `CallsAreCarriedOut`, and an exit says nothing
pub record SaysWhatStood (cluster : Nodes) (h : List Entry) : Type 0 where
  -- who is struck had died
  pub struck : (before later : List Entry) (p : Process) → h ≡ before ++ Strike p ∷ later → Died cluster before p
  -- a join has its reply for a reason
  pub joins : (before later : List Entry) (j k m : ℕ) (reply : Reply) → h ≡ before ++ Join j k m reply ∷ later →
      IsJoinReply cluster before j m reply
  -- a node is told of those alone that have left
  pub told : (before later : List Entry) (n d : ℕ) → h ≡ before ++ Told n d ∷ later → Contains before (Left d)
  -- a node leaves once, and when all that it was granted is done
  pub leaves_once : (before later : List Entry) (d : ℕ) → h ≡ before ++ Left d ∷ later → Contains before (Left d) → ⊥
  pub leaves_free : (before later : List Entry) (d : ℕ) → h ≡ before ++ Left d ∷ later → OperationHolds before d → ⊥
  -- who decides hasn't left
  pub decides : (before later : List Entry) (e : Entry) (n : ℕ) → h ≡ before ++ e ∷ later → decided_by e ≡ Some n →
      Contains before (Left n) → ⊥
  -- a look-up has its reply by those entries
  pub reads : (before later : List Entry) (n : ℕ) (look : Look) (reply : Reply) → h ≡ before ++ Read n look reply ∷ later →
      IsReadReply cluster before n look reply
  -- what is done was granted, and wasn't done before
  pub done : (before later : List Entry) (n : ℕ) → h ≡ before ++ Done n ∷ later → OperationHolds before n

-- So it is in each legal history
abbrev pub LegalSaysWhatStood : Type 0
LegalSaysWhatStood = (cluster : Nodes) (h : List Entry) → IsLegal cluster h → SaysWhatStood cluster h

-- In that of a world, moreover, who has left does nothing more: whoever makes an entry hasn't left before it
pub record WorldSaysWhatStood (cluster : Nodes) (h : List Entry) : Type 0 where
  pub stood : SaysWhatStood cluster h
  pub acts : (before later : List Entry) (e : Entry) → h ≡ before ++ e ∷ later → Contains before (Left (maker_of e)) → ⊥

-- So it is in the history of each world, behind all events
abbrev pub WorldsSayWhatStood : Type 0
WorldsSayWhatStood = (o : Opening) (es : List WorldEvent) → WorldSaysWhatStood (in_cluster o) (world o es).history

-- and in that of each world of named nodes, behind restarts, too
abbrev pub NamedWorldsSayWhatStood : Type 0
NamedWorldsSayWhatStood = (o : NamedOpening) (es : List NamedEvent) →
    WorldSaysWhatStood (in_cluster (opening_of o)) (after_events o es).world.history

-- And who refuses a join, by an event e that is accepted, shows then that it isn't joined
abbrev pub RefusesWhileLone : Type 0
RefusesWhileLone = (o : Opening) (es : List WorldEvent) (e : WorldEvent) (earlier later : List Entry) (j k m : ℕ) →
    refusal o (world o es) e ≡ None →
    (happens o (world o es) e).history ≡ (world o es).history ++ (earlier ++ Join j k m NotMember ∷ later) →
    ((world o es).node m).replica.joined ≡ false
