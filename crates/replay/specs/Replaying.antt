-- What a replay comes to.
use Rattle.std.specs.Prelude.{ℕ, ◌≡◌, ◌⊎◌, List, ◌++◌, length}
use Rattle.protocol_model.specs.World.{World}
use Rattle.cluster_world.specs.NodeNames.{NamedOpening}
use Rattle.cluster_world.specs.WorldState.{WorldState}
use Rattle.cluster_world.specs.Playing.{Keeps}
use Rattle.cluster_world.specs.Seen.{names_of, seen}
use Rattle.cluster_world.specs.Openings.{named_opening}
use Rattle.node_log.specs.Entries.{Logged}
use Rattle.node_log.specs.declared.transcript.Transcript.{Transcript}
use Rattle.replay.specs.declared.faults.CloseFault.{CloseFault}
use Rattle.replay.specs.declared.faults.CloseFault.TheVariants.{Torn, LeftInHold, Stranger, Memory}
use Rattle.replay.specs.Steps.{Step, log_of}
use Rattle.replay.specs.Merging.{IsMerged}
use Rattle.replay.specs.Playing.{IsRun, IsStuck}
use Rattle.replay.specs.Least.{AllSuch, IsLeastOther}
use Rattle.replay.specs.Ends.{End, logs_of, is_lesser, EndedWell, HasTableOf}
use Rattle.replay.specs.Transcripts.{Fits, has_lesser_seat}

-- the world was started with these lists
abbrev pub Opens : List ℕ → List ℕ → WorldState → Type 0
Opens cluster lone h = names_of h ≡ named_opening (cluster ++ lone) cluster

-- a world that was started with these lists played the merged logs to their end
pub record PlaysOut (cluster lone : List ℕ) (logs : List Logged) (ss : List Step) (h : WorldState) : Type 0 where
  pub opens : Opens cluster lone h
  pub merged : IsMerged logs ss
  pub run : IsRun ss h

-- an opened world played the merged logs, so many steps, to their end
pub record RunsThrough (logs : List Logged) (events : ℕ) (old new : WorldState) : Type 0 where
  pub steps : List Step
  pub count : events ≡ length steps
  pub merged : IsMerged logs steps
  pub kept : Keeps old new
  pub run : IsRun steps new

-- a world that opens so is stuck in the logs; want of memory says nothing of it
abbrev pub StopsLogs : CloseFault → List Logged → NamedOpening → Type 0
StopsLogs (Torn a k) logs o = IsStuck logs o a k
StopsLogs (LeftInHold a) logs o = ⊥
StopsLogs (Stranger seat) logs o = ⊥
StopsLogs Memory logs o = Unit {0}

-- all of these are such
abbrev pub AreAll : {X : Type 0} → (X → Type 0) → List X → Type 0
AreAll Q xs = AllSuch Q xs (length xs)

-- the run of the threads was one of the world's: so many events made this world, whose tables are the nodes' last ones,
-- and each seat was answered as it answered
pub record Replayed (cluster lone : List ℕ) (ends : List End) (ts : List Transcript) (events : ℕ) (h : WorldState) : Type 0 where
  pub steps : List Step
  pub out : PlaysOut cluster lone (logs_of ends) steps h
  pub count : events ≡ length steps
  pub ended : AreAll EndedWell ends
  pub tables : AreAll (HasTableOf (seen h)) ends
  pub transcripts : AreAll (Fits (logs_of ends) ts) ts

-- node a is that of the least end that isn't such
pub record IsLeastEnd (Q : End → Type 0) (ends : List End) (a : ℕ) : Type 0 where
  pub place : ℕ
  pub least : IsLeastOther Q is_lesser ends (length ends) place
  pub whose : least.item.log.node ≡ a

-- a world that was started with these lists is stuck at entry k of node a's log
pub record StopsAt (cluster lone : List ℕ) (logs : List Logged) (a k : ℕ) : Type 0 where
  pub opening : WorldState
  pub opens : Opens cluster lone opening
  pub stuck : IsStuck logs (names_of opening) a k

-- all was played, and node a is the least whose table is another one; k is the length of its log
pub record HasOtherTable (cluster lone : List ℕ) (ends : List End) (a k : ℕ) : Type 0 where
  pub steps : List Step
  pub world : WorldState
  pub out : PlaysOut cluster lone (logs_of ends) steps world
  pub other : IsLeastEnd (HasTableOf (seen world)) ends a
  pub place : k ≡ length (log_of a (logs_of ends))

-- all was played, the tables are the world's, and this is the least seat with a transcript that doesn't fit
pub record IsStranger (cluster lone : List ℕ) (ends : List End) (ts : List Transcript) (seat : ℕ) : Type 0 where
  pub steps : List Step
  pub world : WorldState
  pub out : PlaysOut cluster lone (logs_of ends) steps world
  pub tables : AreAll (HasTableOf (seen world)) ends
  pub place : ℕ
  pub least : IsLeastOther (Fits (logs_of ends) ts) has_lesser_seat ts (length ts) place
  pub whose : least.item.seat ≡ seat

-- Behind a run that made this world, the least node whose table is another one, and the length of its log; or, where the tables
-- are the world's, the least seat with a transcript that doesn't fit. Want of memory says nothing of it
abbrev pub Differs : World → List End → List Transcript → CloseFault → Type 0
Differs w ends ts (Torn a k) = IsLeastEnd (HasTableOf w) ends a × (k ≡ length (log_of a (logs_of ends)))
Differs w ends ts (LeftInHold a) = ⊥
Differs w ends ts (Stranger seat) = AreAll (HasTableOf w) ends × ((place : ℕ)
    × (least : IsLeastOther (Fits (logs_of ends) ts) has_lesser_seat ts (length ts) place) × (least.item.seat ≡ seat))
Differs w ends ts Memory = Unit {0}

-- why a run isn't one of the world's; want of memory says nothing of it
abbrev pub IsFault : List ℕ → List ℕ → List End → List Transcript → CloseFault → Type 0
IsFault cluster lone ends ts (LeftInHold a) = IsLeastEnd EndedWell ends a
IsFault cluster lone ends ts (Torn a k) =
    AreAll EndedWell ends × (StopsAt cluster lone (logs_of ends) a k ⊎ HasOtherTable cluster lone ends a k)
IsFault cluster lone ends ts (Stranger seat) = AreAll EndedWell ends × IsStranger cluster lone ends ts seat
IsFault cluster lone ends ts Memory = AreAll EndedWell ends
