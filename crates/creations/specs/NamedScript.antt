-- Scripts on worlds of named nodes: lines that are played one after the other, and what the world prints for each.
use Rattle.std.specs.Prelude.{ℕ, zero, suc, not, Option, Some, None, is_none, map, find, flat_map, List, [], ◌∷◌, ◌++◌, if◌then◌else◌}
use Rattle.registry_model.specs.Process.{nodes_of}
use Rattle.protocol_model.specs.Event.{Event, NoSuchNode, NodeLeft}
use Rattle.protocol_model.specs.World.{left, WorldEvent, all_answers}
pub use Rattle.protocol_model.specs.NamedEvents.{NamedLine, Play, Settle, TableAt, MembersAt, NamedOutput, Said, Okay, Started, Error, Settled, SettleLimit, TableIs, MembersAre}
use Rattle.creations.specs.NodeNames.{NamedOpening, is_name, opening_of}
use Rattle.creations.specs.NamedWorld.{NamedWorld, NamedEvent, At, AtNode, Deliver, Restart, NamedRefusal, Plain, opening_named, present_node, next_node, named_refusal, happens_named, named_answers, run_named, plain_events}

-- a script and what it has to print; limit: the most deliveries of one `Settle`
pub record NamedRow : Type 0 where
  pub opening : NamedOpening
  pub limit : ℕ
  pub lines : List NamedLine
  pub prints : List NamedOutput

module _ (o : NamedOpening) where
  -- all deliveries that may be, in the order of senders, then receivers, by name
  abbrev pub named_deliveries : List NamedEvent
  named_deliveries = flat_map (λ f. map (λ t. Deliver f t) (nodes_of o.bound o.names)) (nodes_of o.bound o.names)

  -- the first of them that the world accepts
  abbrev pub next_named : NamedWorld → Option NamedEvent
  next_named w = find (λ e. is_none (named_refusal o w e)) named_deliveries

  -- the first of these, again and again; at most this many
  abbrev pub named_deliveries_left : ℕ → NamedWorld → List NamedEvent
  named_deliveries_left zero w = []
  named_deliveries_left (suc most) w =
      elim (next_named w) [ None ↦ [] | Some e ↦ e ∷ named_deliveries_left most (happens_named o w e) ]

  module _ (limit : ℕ) where
    -- the events of a line
    abbrev pub events_in : NamedWorld → NamedLine → List NamedEvent
    events_in w (Play e) = e ∷ []
    events_in w Settle = named_deliveries_left limit w
    events_in w (TableAt x) = []
    events_in w (MembersAt x) = []

    -- the events of these lines
    abbrev pub events_of : NamedWorld → List NamedLine → List NamedEvent
    events_of w [] = []
    events_of w (l ∷ ls) = events_in w l ++ events_of (run_named o w (events_in w l)) ls

  -- what comes before the answers of an accepted event
  abbrev pub okay_event : Event → List NamedOutput
  okay_event (Event.Exiting p) = Okay ∷ []
  okay_event Event.Leave = Okay ∷ []
  okay_event _ = []

  abbrev pub okay : NamedWorld → NamedEvent → List NamedOutput
  okay w (At x e) = okay_event e
  okay w (AtNode n e) = okay_event e
  okay w (Deliver f t) = []
  okay w (Restart x) = Started (next_node o w x) ∷ []

  -- an event prints its answers, or why it is refused
  abbrev pub outputs_of : NamedWorld → NamedEvent → Option NamedRefusal → List NamedOutput
  outputs_of w e None = okay w e ++ map Said (named_answers o w e)
  outputs_of w e (Some refusal) = Error refusal ∷ []

  -- what stands behind the answers of a `Settle`, by the next delivery, if there is one
  abbrev pub settled : Option NamedEvent → NamedOutput
  settled None = Settled
  settled (Some e) = SettleLimit

  -- the present node of x is shown, unless x isn't of the world or the node has left
  abbrev pub shown_at : NamedWorld → ℕ → NamedOutput → NamedOutput
  shown_at w x shown = if not (is_name o x)
      then Error (Plain NoSuchNode)
      else (if left w.world (present_node o w x) then Error (Plain NodeLeft) else shown)

  -- what a line prints, whose events are es
  abbrev pub printed : NamedWorld → NamedLine → List NamedEvent → List NamedOutput
  printed w (Play e) es = outputs_of w e (named_refusal o w e)
  printed w Settle es = map Said (all_answers (opening_of o) w.world (plain_events o w es))
      ++ settled (next_named (run_named o w es)) ∷ []
  printed w (TableAt x) es = shown_at w x (TableIs (w.world.node (present_node o w x)).replica.table) ∷ []
  printed w (MembersAt x) es = shown_at w x
      (MembersAre (nodes_of (opening_of o).bound (w.world.node (present_node o w x)).replica.members)) ∷ []

  module _ (limit : ℕ) where
    -- what these lines print
    abbrev pub output_of : NamedWorld → List NamedLine → List NamedOutput
    output_of w [] = []
    output_of w (l ∷ ls) = printed w l (events_in limit w l) ++ output_of (run_named o w (events_in limit w l)) ls

-- what the world prints for a row
abbrev pub named_output : NamedRow → List NamedOutput
named_output r = output_of r.opening r.limit (opening_named r.opening) r.lines

-- the events of a row, as events of the world
abbrev pub row_events : NamedRow → List WorldEvent
row_events r = plain_events r.opening (opening_named r.opening)
    (events_of r.opening r.limit (opening_named r.opening) r.lines)
