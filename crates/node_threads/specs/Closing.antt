-- What closing a cluster comes to.
use Rattle.std.specs.Prelude.{ℕ, ◌≡◌, ◌⊎◌, All, List, ◌++◌, map, Vec, Result, Ok, Err}
use Rattle.std.specs.declared.alloc.Global.{Global}
use Rattle.node_loop.specs.declared.Transcript.{Transcript}
use Rattle.node_loop.specs.declared.item.Item.{Item}
use Rattle.node_seats.specs.Lines.{Sent}
use Rattle.node_seats.specs.Books.{Known}
use Rattle.replay.specs.declared.closed.Closed.{Closed}
use Rattle.replay.specs.declared.faults.CloseFault.{CloseFault}
use Rattle.replay.specs.declared.faults.CloseFault.TheVariants.{LeftInHold, Memory}
use Rattle.replay.specs.Ends.{End}
use Rattle.replay.specs.Consistent.{AreConsistent}
use Rattle.replay.specs.Replaying.{Replayed, IsFault}
use Rattle.node_threads.specs.Wires.{Wired}
use Rattle.node_threads.specs.Drawing.{Drawn, AllCompared}
use Rattle.node_threads.specs.Ended.{owner, IsLeftBy, FailsAlone, EndsInOrder, AllReturn, AllPast}

-- The threads of these nodes gave back one end for each, which its loop left behind, with their lines and inboxes; what was taken from
-- an inbox was put on the lines into it. These ends are consistent
pub record GivesBack (cluster lone : List ℕ) (crew : List Wired) (ends : List End) : Type 0 where
  pub lines : List (List (Sent Item))
  pub drawn : List Drawn
  pub returned : AllReturn crew ends lines drawn
  pub compared : AllCompared lines drawn
  pub names : map owner ends ≡ cluster ++ lone
  pub left : All (λ e. IsLeftBy (owner e) e) ends
  pub consistent : AreConsistent cluster lone ends

module _ {N M : Type 0} (cluster lone : List ℕ) (crew : List Wired) (ts : List Transcript) where
  -- what a replay of these ends comes to
  abbrev pub Replays : List End → Result (Closed N M) CloseFault → Type 0
  Replays ends (Ok closed) = Replayed cluster lone ends ts closed.events closed.world
  Replays ends (Err fault) = IsFault cluster lone ends ts fault

  -- it is told of a thread that ended alone only where its last turn failed, and else none did
  abbrev pub StopsAlone : List End → Result (Closed N M) CloseFault → Type 0
  StopsAlone ends (Err (LeftInHold a)) = FailsAlone ends a
  StopsAlone ends _ = All EndsInOrder ends

  -- the threads of these nodes gave back these ends, and this is what a replay of them comes to
  pub record Closes (result : Result (Closed N M) CloseFault) : Type 0 where
    pub ends : List End
    pub back : GivesBack cluster lone crew ends
    pub replays : Replays ends result
    pub alone : StopsAlone ends result

  -- so, or there was no memory for the ends
  abbrev pub CloseIs : Result (Closed N M) CloseFault → Type 0
  CloseIs result = Closes result ⊎ (result ≡ Err Memory)

  -- so, and these are the pasts of their books, up to those ends
  abbrev pub CloseTells : Result (Closed N M × Vec Known Global) CloseFault → Type 0
  CloseTells (Ok told) = (closes : Closes (Ok told.0)) × AllPast crew closes.ends told.1.items
  CloseTells (Err fault) = CloseIs (Err fault)
