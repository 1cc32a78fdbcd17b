-- Scripts: lines that are played one after the other on one world, and what the world prints for each.
use Rattle.std.specs.Prelude.{ℕ, Bool, not, Option, Some, None, option_map, map, take, List, [], ◌∷◌, ◌++◌, if◌then◌else◌}
use Rattle.registry_model.specs.Process.{Process, nodes_of}
use Rattle.registry_model.specs.Table.{Table}
use Rattle.protocol_model.specs.Letter.{Id}
use Rattle.protocol_model.specs.Event.{Event, Answer, Refusal, NoSuchNode, NodeLeft}
use Rattle.protocol_model.specs.World.{Opening, in_world, World, left, WorldEvent, At, opening_world, refusal, answers, run, all_answers, next_delivery, deliveries_left}
use Rattle.protocol_model.specs.ClientLocks.{holds_count}
use Rattle.protocol_model.specs.LockAnswers.{tries_of}

-- a line of a script
pub data Line : Type 0 where
  Play : (event : WorldEvent) → Line
  Settle : Line  -- deliveries until all links are empty, or a limit of them
  TableAt : (node : ℕ) → Line
  MembersAt : (node : ℕ) → Line

-- a line that is printed
pub data Output : Type 0 where
  Said : (answer : Answer) → Output
  Okay : Output  -- an exit or a leave was accepted
  Error : (refusal : Refusal) → Output
  Settled : Output
  SettleLimit : Output  -- some link isn't empty yet
  TableIs : (table : Table) → Output
  MembersAre : (members : List ℕ) → Output  -- rising

-- a script and what it has to print; limit: the most deliveries of one `Settle`
pub record Row : Type 0 where
  pub opening : Opening
  pub limit : ℕ
  pub lines : List Line
  pub prints : List Output

module _ (o : Opening) (limit : ℕ) where
  -- the events of a line
  abbrev pub events_in : World → Line → List WorldEvent
  events_in w (Play e) = e ∷ []
  events_in w Settle = deliveries_left o limit w
  events_in w (TableAt a) = []
  events_in w (MembersAt a) = []

  -- the events of these lines
  abbrev pub events_of : World → List Line → List WorldEvent
  events_of w [] = []
  events_of w (l ∷ ls) = events_in w l ++ events_of (run o w (events_in w l)) ls

  -- what comes before the answers of an accepted event
  abbrev pub okay : WorldEvent → List Output
  okay (At a (Event.Exiting p)) = Okay ∷ []
  okay (At a Event.Leave) = Okay ∷ []
  okay _ = []

  -- an event prints its answers, or why it is refused
  abbrev pub outputs_of : World → WorldEvent → Option Refusal → List Output
  outputs_of w e None = okay e ++ map Said (answers o w e)
  outputs_of w e (Some refusal) = Error refusal ∷ []

  -- what stands behind the answers of a `Settle`, by the next delivery, if there is one
  abbrev pub settled : Option WorldEvent → Output
  settled None = Settled
  settled (Some e) = SettleLimit

  -- node a is shown, unless it isn't of the world or has left
  abbrev pub shown_at : World → ℕ → Output → Output
  shown_at w a shown =
      if not (in_world o a) then Error NoSuchNode else (if left w a then Error NodeLeft else shown)

  -- what a line prints, whose events are es
  abbrev pub printed : World → Line → List WorldEvent → List Output
  printed w (Play e) es = outputs_of w e (refusal o w e)
  printed w Settle es = map Said (all_answers o w es) ++ settled (next_delivery o (run o w es)) ∷ []
  printed w (TableAt a) es = shown_at w a (TableIs (w.node a).replica.table) ∷ []
  printed w (MembersAt a) es = shown_at w a (MembersAre (nodes_of o.bound (w.node a).replica.members)) ∷ []

  -- what these lines print
  abbrev pub output_of : World → List Line → List Output
  output_of w [] = []
  output_of w (l ∷ ls) = printed w l (events_in w l) ++ output_of (run o w (events_in w l)) ls

-- what the world prints for a row
abbrev pub output : Row → List Output
output r = output_of r.opening r.limit (opening_world r.opening) r.lines

-- the events of a row
abbrev pub events : Row → List WorldEvent
events r = events_of r.opening r.limit (opening_world r.opening) r.lines

-- the row as far as its first k lines
abbrev pub first_lines : ℕ → Row → Row
first_lines k r = record r { lines = take k r.lines }

-- how often p has the lock of this id at c, behind the first k lines of a row, for each of these k
abbrev pub numbers_behind : Row → List ℕ → Process → Id → ℕ → List ℕ
numbers_behind r ks p id c = map (λ k. holds_count r.opening (events (first_lines k r)) p id c) ks

-- how often the last `set_lock` of p was tried, behind the first k lines of a row, for each of these k
abbrev pub tried_behind : Row → List ℕ → Process → List (Option ℕ)
tried_behind r ks p = map (λ k. option_map (λ t. t.tried) (tries_of r.opening (events (first_lines k r)) p)) ks

-- and whether something happened since its last try began for which it may fail
abbrev pub met_behind : Row → List ℕ → Process → List (Option Bool)
met_behind r ks p = map (λ k. option_map (λ t. t.met) (tries_of r.opening (events (first_lines k r)) p)) ks
