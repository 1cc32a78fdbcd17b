-- The step of an event: its turn, where the joins that it enters get the numbers that the world finds.
use Rattle.std.proofs.Common.{ℕ, true, ◌≡◌, None, List, [], refl, sym, ap, ◌∙◌, subst}
use Rattle.registry_model.specs.Table.{is_rising}
use Rattle.protocol_model.specs.Event.{Event as AnyEvent, causes, first_cause}
use Rattle.protocol_model.specs.Node.{Node}
use Rattle.protocol_model.specs.Turn.{Turn, begun}
use Rattle.protocol_model.specs.Calling.{event}
use Rattle.protocol_model.specs.Reading.{receive}
use Rattle.term.specs.NodeSets.{set_of}
use Rattle.node_events.specs.declared.events.Answer.{Answer}
use Rattle.node_events.specs.declared.events.Entry.{Entry}
use Rattle.node_events.specs.declared.events.Letter.{Letter}
use Rattle.node_events.specs.declared.events.Event.{Event}
use Rattle.node_events.specs.declared.events.Event.TheVariants.{Call, FromPeer, Retry, Exit, Leave}
use Rattle.node_events.specs.Letters.{letter_of}
use Rattle.node_events.specs.Made.{Made, Room, IsNothing}
use Rattle.node_core.specs.CoreState.{CoreState, IsWhole, bound_of}
use Rattle.node_core.specs.Seen.{turn_by, node_of}
use Rattle.node_events.specs.Seen.{unnumbered, call_of}
use Rattle.node_core.specs.Steps.{Keeps, Takes, Steps, IsTurn, IsAsBefore, IsHeardWithin, IsAskedWithin, IsSaidBy, GoWithin, refusal_of}
use Rattle.node_core.proofs.Numbers.{numbered, turn_numbered, event_numbered, receive_numbered}
use Rattle.node_core.proofs.ReceiversOfEvents.{sends_within}

-- the step of an event, of the turn that it made
stepped : (e : Event) (h k : CoreState) (u : Made) → refusal_of e h ≡ None
    → IsWhole h → is_rising h.table ≡ true → k.name ≡ h.name → k.world ≡ h.world
    → ((number : ℕ → ℕ) → IsTurn number e h (turn_by number k u)) → Steps e h k u
stepped e h k u accepted whole rising name world turn = record {
  name = name;
  world = world;
  accepted = accepted;
  within = λ heard. sends_within h whole rising unnumbered e k u heard (turn unnumbered);
  turn = turn;
}

-- nothing, with this room
abbrev begun_with : Room → Made
begun_with r = record { letters = []; entries = []; answers = []; room = r }

-- what is nothing is that with its own room
is_begun : (t : Made) → IsNothing t → t ≡ begun_with t.room
is_begun t empty =
    ap (λ (ls : List (ℕ × Letter)). record t { letters = ls }) empty.letters
    ∙ ap (λ (es : List Entry). record t { letters = []; entries = es }) empty.entries
    ∙ ap (λ (ss : List Answer). record t { letters = []; entries = []; answers = ss }) empty.answers

-- the step of an event that was taken
steps : (e : Event) (h k : CoreState) (r : Room) (u : Made) → refusal_of e h ≡ None
    → Keeps h k → Takes e h (begun_with r) k u → IsWhole h → is_rising h.table ≡ true → Steps e h k u
steps (Call c) h k r u accepted kept made whole rising =
    stepped (Call c) h k u accepted whole rising kept.name kept.world (λ number asked.
    turn_numbered number k u ∙ ap (numbered number) (made asked).turn
    ∙ event_numbered (bound_of h.world) h.name number (set_of h.world) (AnyEvent.Calling (call_of c))
    (begun (node_of h)))
steps Retry h k r u accepted kept made whole rising =
    stepped Retry h k u accepted whole rising made.name made.world (λ number.
    turn_numbered number k u ∙ ap (numbered number) made.turn
    ∙ event_numbered (bound_of h.world) h.name number (set_of h.world) AnyEvent.Retry (begun (node_of h)))
steps (Exit p) h k r u accepted kept made whole rising =
    stepped (Exit p) h k u accepted whole rising made.name made.world (λ number.
    turn_numbered number k u ∙ ap (numbered number) made.turn
    ∙ event_numbered (bound_of h.world) h.name number (set_of h.world) (AnyEvent.Exiting p) (begun (node_of h)))
steps Leave h k r u accepted kept made whole rising =
    stepped Leave h k u accepted whole rising made.name made.world (λ number.
    turn_numbered number k u ∙ ap (numbered number) made.turn
    ∙ event_numbered (bound_of h.world) h.name number (set_of h.world) AnyEvent.Leave (begun (node_of h)))
steps (FromPeer f l) h k r u accepted kept made whole rising =
    stepped (FromPeer f l) h k u accepted whole rising kept.name kept.world (λ number said.
    turn_numbered number k u ∙ ap (numbered number) (made said).turn
    ∙ receive_numbered (bound_of h.world) h.name number f (letter_of l) (begun (node_of h)))

-- the same, where the turn began with nothing
pub steps_from : (e : Event) (h k : CoreState) (t u : Made) → IsNothing t → refusal_of e h ≡ None
    → Keeps h k → Takes e h t k u → IsWhole h → is_rising h.table ≡ true → Steps e h k u
steps_from e h k t u empty accepted kept made whole rising =
    steps e h k t.room u accepted kept (subst (λ (x : Made). Takes e h x k u) (is_begun t empty) made) whole rising

-- a refusal asks the node alone, as the protocol sees it
pub same_refusal : (e : Event) (h k : CoreState) → IsAsBefore h k → refusal_of e k ≡ refusal_of e h
same_refusal (Call c) h k same =
    ap (λ (a : ℕ). first_cause (causes a (node_of k) (AnyEvent.Calling (call_of c)))) same.name
    ∙ ap (λ (v : Node). first_cause (causes h.name v (AnyEvent.Calling (call_of c)))) same.node
same_refusal Retry h k same =
    ap (λ (a : ℕ). first_cause (causes a (node_of k) AnyEvent.Retry)) same.name
    ∙ ap (λ (v : Node). first_cause (causes h.name v AnyEvent.Retry)) same.node
same_refusal (Exit p) h k same =
    ap (λ (a : ℕ). first_cause (causes a (node_of k) (AnyEvent.Exiting p))) same.name
    ∙ ap (λ (v : Node). first_cause (causes h.name v (AnyEvent.Exiting p))) same.node
same_refusal Leave h k same =
    ap (λ (a : ℕ). first_cause (causes a (node_of k) AnyEvent.Leave)) same.name
    ∙ ap (λ (v : Node). first_cause (causes h.name v AnyEvent.Leave)) same.node
same_refusal (FromPeer f l) h k same = refl

-- what is so of the world, the name and the node of a copy is so of the node
as_before : (F : List ℕ → ℕ → Node → Type 0) (h c : CoreState) → IsAsBefore h c → F c.world c.name (node_of c)
    → F h.world h.name (node_of h)
as_before F h c same f =
    subst (λ (v : Node). F h.world h.name v) same.node
    (subst (λ (a : ℕ). F h.world a (node_of c)) same.name
    (subst (λ (w : List ℕ). F w c.name (node_of c)) same.world f))

-- the turn of a copy is the node's
turn_before : (number : ℕ → ℕ) (e : Event) (h c : CoreState) (u : Turn) → IsAsBefore h c → IsTurn number e c u
    → IsTurn number e h u
turn_before number (Call x) h c u same t = as_before (λ w a v. IsAskedWithin w x
    → u ≡ event (bound_of w) a (set_of w) (AnyEvent.Calling (call_of x)) (begun v)) h c same t
turn_before number Retry h c u same t =
    as_before (λ w a v. u ≡ event (bound_of w) a (set_of w) AnyEvent.Retry (begun v)) h c same t
turn_before number (Exit p) h c u same t =
    as_before (λ w a v. u ≡ event (bound_of w) a (set_of w) (AnyEvent.Exiting p) (begun v)) h c same t
turn_before number Leave h c u same t =
    as_before (λ w a v. u ≡ event (bound_of w) a (set_of w) AnyEvent.Leave (begun v)) h c same t
turn_before number (FromPeer f l) h c u same t = as_before (λ w a v. IsSaidBy w a f l
    → u ≡ receive (bound_of w) a number f (letter_of l) (begun v)) h c same t

-- the step that a copy took is the node's
pub steps_by_copy : (e : Event) (h c k : CoreState) (u : Made) → IsAsBefore h c → Steps e c k u → Steps e h k u
steps_by_copy e h c k u same step = record {
  name = step.name ∙ same.name;
  world = step.world ∙ same.world;
  accepted = sym (same_refusal e h c same) ∙ step.accepted;
  within = as_before (λ w a v. IsHeardWithin w a e → GoWithin w a u.letters) h c same step.within;
  turn = λ number. turn_before number e h c (turn_by number k u) same (step.turn number);
}
