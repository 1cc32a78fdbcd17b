-- A run of two nodes in which two processes hold a lock in turn.
use Rattle.std.specs.Prelude.{ℕ, true, ◌≡◌, List, [], ◌∷◌}
use Rattle.registry_model.specs.Process.{Process}
use Rattle.registry_model.specs.Call.{True, Pid}
use Rattle.protocol_model.specs.Node.{All, Times}
use Rattle.protocol_model.specs.Event.{Call, Event, Answer}
use Rattle.protocol_model.specs.World.{Opening, WorldEvent, At, Deliver}
use Rattle.closings.specs.Merging.{Step}
use Rattle.fences.specs.Grants.{IsRun, fence, Grant, RunsAt, AreRivals}

-- nodes 0 and 1, joined with each other, and the first process of each
abbrev pub two_nodes : Opening
two_nodes = record { bound = 2; nodes = λ c. true; cluster = λ c. true }

abbrev pub first_of : ℕ → Process
first_of a = record { node = a; serial = 1 }

abbrev pub step : ℕ → ℕ → WorldEvent → List Answer → Step
step stamp a event answers = record { node = a; entry = record { stamp = stamp; event = event; answers = answers } }

-- a call of node a, which it answers later, and a letter from f that it reads
abbrev pub calls : ℕ → ℕ → Call → Step
calls stamp a call = step stamp a (At a (Event.Calling call)) []

abbrev pub spawns : ℕ → ℕ → Step
spawns stamp a =
    step stamp a (At a (Event.Calling Call.Spawn)) (record { node = a; number = 0; reply = Pid (first_of a) } ∷ [])

abbrev pub reads : ℕ → ℕ → ℕ → Step
reads stamp a f = step stamp a (Deliver f a) []

-- a letter by which node a answers its call k `true`
abbrev pub is_answered : ℕ → ℕ → ℕ → ℕ → Step
is_answered stamp a f k = step stamp a (Deliver f a) (record { node = a; number = k; reply = True } ∷ [])

-- the one has resource 5 under requester 6 from its step 6 on, and gives it back; the other has it under 7 from its step 15 on
abbrev pub in_turn : List Step
in_turn = spawns 1 0 ∷ spawns 1 1
    ∷ calls 2 0 (Call.SetLock (first_of 0) 5 6 All (Times 0))
    ∷ reads 3 1 0 ∷ reads 4 0 1 ∷ reads 5 0 0 ∷ is_answered 6 0 0 1
    ∷ calls 7 0 (Call.DelLock (first_of 0) 5 6 All)
    ∷ reads 8 0 0 ∷ reads 8 1 0 ∷ reads 9 0 0 ∷ is_answered 10 0 1 2
    ∷ calls 11 1 (Call.SetLock (first_of 1) 5 7 All (Times 0))
    ∷ reads 12 1 1 ∷ reads 13 1 1 ∷ reads 14 0 1 ∷ is_answered 15 1 0 1
    ∷ []

-- so there are two rival grants, with these numbers, where each node's place is its number
pub record TwoGrants : Type 0 where
  pub run : IsRun two_nodes in_turn
  pub first : Grant two_nodes in_turn
  pub second : Grant two_nodes in_turn
  pub rivals : AreRivals first second 0
  pub runs : RunsAt first 0
  pub runs_still : RunsAt second 0
  pub number : fence (λ a. a) first.step ≡ 48
  pub greater : fence (λ a. a) second.step ≡ 121
