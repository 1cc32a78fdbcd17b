-- What the seats of consoles knew, beside the books of their nodes.
use Rattle.std.specs.Prelude.{ℕ, ◌≡◌, ◌==◌, ◌<◌, Some, List, length, slice_index_or, All, Result, Ok, Err}
use Rattle.std.specs.List.{position}
use Rattle.std.specs.Global.{Global}
use Rattle.registry_model.specs.Table.{Table}
use Rattle.node_threads.specs.declared.Transcript.{Transcript}
use Rattle.node_threads.specs.declared.Closed.{Closed}
use Rattle.node_threads.specs.declared.CloseFault.{CloseFault}
use Rattle.node_threads.specs.Books.{Known}
use Rattle.node_threads.specs.Held.{Looping}
use Rattle.node_threads.specs.Moments.{EndsAt, ArePast}
use Rattle.node_threads.specs.Addresses.{Inbox}
use Rattle.node_threads.specs.Wires.{Wired, inbox_to}
use Rattle.node_threads.specs.Ended.{AreOfAnEnd}
use Rattle.node_threads.specs.Clusters.{Crewed}
use Rattle.node_threads.specs.Closing.{Closes, CloseIs}
use Rattle.server.specs.declared.served.Witness.{Witness}

module _ (pasts : List Known) (names : List ℕ) (w : Witness) where
  -- the moments that a seat knew are of the book of its node, which is the first of these that has its name
  abbrev pub IsOfBook : Type 0
  IsOfBook = (i : ℕ) (p : Known) → position (λ name. name == w.node) names ≡ Some i → i < length pasts
      → w.token.book ≡ (slice_index_or pasts i p).book

  -- they are moments of the loop whose end that book tells of
  abbrev pub IsCovered : Type 0
  IsCovered = (i : ℕ) (p : Known) → position (λ name. name == w.node) names ≡ Some i → i < length pasts
      → (end : Looping) → EndsAt (slice_index_or pasts i p).log end → ArePast w.token.log end

-- they are of the book of its node in this crew
pub record IsOfCrew (crew : List Wired) (w : Witness) : Type 0 where
  pub inbox : Inbox
  pub at : inbox_to w.node crew ≡ Some inbox
  pub book : w.token.book ≡ inbox.book

-- A cluster closed so, with these transcripts. Where it did, what these seats knew are moments of the loops whose ends were replayed
abbrev pub ClosesOver : Crewed → List Transcript → List Witness → Result (Closed Table Global) CloseFault → Type 0
ClosesOver c ts ws (Ok closed) = (closes : Closes c.cluster c.lone c.crew ts (Ok closed)) × All (λ w. AreOfAnEnd w.node closes.ends w.token.log) ws
ClosesOver c ts ws (Err fault) = CloseIs {N = Table} {M = Global} c.cluster c.lone c.crew ts (Err fault)
