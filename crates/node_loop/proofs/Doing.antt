-- The step of a core is what the protocol's node does, as far as the node can say so alone.
use Rattle.std.proofs.Common.{◌≡◌, ◌<◌, ℕ, true, None, List, [], ◌∷◌, map, sym, ap, subst, ◌∙◌, inl, inr, All}
use Rattle.std.specs.Prelude.{◌⊎◌}
use Rattle.std.proofs.lemmas.Bool.{cases_eq, eq-eqb, ne_eqb}
use Rattle.std.proofs.lemmas.List.Elements.{All-nil, All-cons, All-head, All-tail}
use Rattle.registry_model.specs.Process.{Nodes}
use Rattle.protocol_model.specs.Event.{Event as AnyEvent, causes, first_cause}
use Rattle.protocol_model.specs.Turn.{Turn as AnyTurn, begun, sent_to}
use Rattle.protocol_model.specs.Calling.{event}
use Rattle.protocol_model.specs.Reading.{receive}
use Rattle.protocol_model.specs.World.{Opening, in_world, other}
use Rattle.protocol_model.specs.World.{WorldEvent as AnyWorldEvent}
use Rattle.closings.specs.Alone.{Stamped as StampedLetter, LogEntry as SeenEntry, Made, IsTurnOf}
use Rattle.closings.specs.Guarded.{SaysFit, ReadsIfFit, DoesIfFit}
use Rattle.term.specs.Nodes.{IsFirst}
use Rattle.term.specs.NodeSets.{set_of, with_older}
use Rattle.term.proofs.Older.{held}
use Rattle.node_log.specs.declared.Call.{Call as ClientCall}
use Rattle.node_log.specs.declared.Call.TheVariants.{Spawn, Whereis, RegisteredNames, Notices, Register, ReRegister, Unregister, SetLock, DelLock, Join as JoinBy}
use Rattle.node_log.specs.NodeEvents.TheVariants.{FromPeer}
use Rattle.node_log.specs.declared.LocalEvent.{LocalEvent}
use Rattle.node_log.specs.declared.LocalEvent.TheVariants.{Call, Retry, Exit, Leave}
use Rattle.node_log.specs.declared.Letter.{Letter}
use Rattle.node_log.specs.NodeEventsLetters.{letter_of, send_of}
use Rattle.node_log.specs.NodeEventsSeen.{answer_of, unnumbered}
use Rattle.node_core.specs.CoreState.{CoreState, bound_of}
use Rattle.node_core.specs.Made.{Made as Turn}
use Rattle.node_core.specs.Seen.{node_of, turn_by}
use Rattle.node_core.specs.Steps.{Steps, IsSaidBy, IsAskedWithin, IsHeardWithin, GoWithin}
use Rattle.node_log.specs.Events.{node_event, own_event_of, knows_contact}
use Rattle.node_loop.specs.Said.{IsSaid}
use Rattle.node_loop.specs.Sound.{IsNodeOf}
use Rattle.node_loop.proofs.Saying.{of_first, said_as, as_said}

abbrev Goes : List ℕ → ℕ → ℕ × Letter → Type 0
Goes world a s = (with_older world s.0 ≡ true) × IsSaidBy world s.0 a s.1

-- of letters that go within a world of first nodes each says what its receiver relies on
says : (world : List ℕ) → All IsFirst world → (a c : ℕ) (ss : List (ℕ × Letter)) → GoWithin world a ss
    → All (IsSaid (set_of world) a c) (sent_to c (map send_of ss))
says world alone a c [] h = All-nil (IsSaid (set_of world) a c)
says world alone a c (s ∷ ss) h = go (cases_eq s.0 c) (says world alone a c ss (All-tail (Goes world a) s ss h))
  where
    first : s.0 ≡ c → IsSaid (set_of world) a c (letter_of s.1)
    first e = as_said world alone c a s.1 (subst (λ (x : ℕ). IsSaidBy world x a s.1) e (All-head (Goes world a) s ss h).1)

    go : (s.0 ≡ c) ⊎ (s.0 ≡ c → ⊥) → All (IsSaid (set_of world) a c) (sent_to c (map send_of ss))
        → All (IsSaid (set_of world) a c) (sent_to c (map send_of (s ∷ ss)))
    go (inl e) rest = rw (eq-eqb s.0 c e)
        (All-cons (IsSaid (set_of world) a c) (letter_of s.1) (sent_to c (map send_of ss)) (first e) rest)
    go (inr ne) rest = rw (ne_eqb s.0 c ne) rest

-- a call's contact, if it has one, has started
pub asks : (nodes : List ℕ) (c : ClientCall) → knows_contact nodes (Call c) ≡ true → IsAskedWithin nodes c
asks nodes Spawn known = tt
asks nodes (Whereis x) known = tt
asks nodes RegisteredNames known = tt
asks nodes (Notices p) known = tt
asks nodes (Register pair) known = tt
asks nodes (ReRegister pair) known = tt
asks nodes (Unregister x) known = tt
asks nodes (SetLock p id asked retries) known = tt
asks nodes (DelLock p id asked) known = tt
asks nodes (JoinBy m) known = known

-- the step of an event of its own is the protocol's
pub own_turn : (h core : CoreState) (turn : Turn) (e : LocalEvent) → Steps (node_event e) h core turn → knows_contact h.world e ≡ true
    → turn_by unnumbered core turn ≡ event (bound_of h.world) h.name (set_of h.world) (own_event_of e) (begun (node_of h))
own_turn h core turn (Call c) S known = S.turn unnumbered (asks h.world c known)
own_turn h core turn Retry S known = S.turn unnumbered
own_turn h core turn (Exit p) S known = S.turn unnumbered
own_turn h core turn Leave S known = S.turn unnumbered

-- a step that a core made, and its entry, as the protocol has them
abbrev pub made : CoreState → Turn → SeenEntry → Made
made core turn entry = record { entry = entry; after = node_of core; sends = map send_of turn.letters }

module _ (o : Opening) (h : CoreState) (I : IsNodeOf o h) where
  inside : (c : ℕ) → set_of h.world c ≡ true → in_world o c ≡ true
  inside c e = ap (λ (s : Nodes). s c) I.inside ∙ e

  pub here : in_world o h.name ≡ true
  here = inside h.name I.here

  -- an event names no other node than its contact
  pub other_inside : (e : LocalEvent) → knows_contact h.world e ≡ true → in_world o (other (AnyWorldEvent.At h.name (own_event_of e))) ≡ true
  other_inside (Call Spawn) known = here
  other_inside (Call (Whereis x)) known = here
  other_inside (Call RegisteredNames) known = here
  other_inside (Call (Notices p)) known = here
  other_inside (Call (Register pair)) known = here
  other_inside (Call (ReRegister pair)) known = here
  other_inside (Call (Unregister x)) known = here
  other_inside (Call (SetLock p id asked retries)) known = here
  other_inside (Call (DelLock p id asked)) known = here
  other_inside (Call (JoinBy m)) known = inside m (of_first h.world I.first m known)
  other_inside Retry known = here
  other_inside (Exit p) known = here
  other_inside Leave known = here

  hears : (e : LocalEvent) → knows_contact h.world e ≡ true → IsHeardWithin h.world h.name (node_event e)
  hears (Call c) known = asks h.world c known
  hears Retry known = tt
  hears (Exit p) known = tt
  hears Leave known = tt

  module _ (core : CoreState) (turn : Turn) (entry : SeenEntry) (answered : entry.answers ≡ map answer_of turn.answers) where
    is_turn : (number : ℕ → ℕ) (u : AnyTurn) → turn_by number core turn ≡ u → IsTurnOf (made core turn entry) u
    is_turn number u e = record {
      node = sym (ap (λ (x : AnyTurn). x.node) e);
      sends = sym (ap (λ (x : AnyTurn). x.sends) e);
      answers = sym (answered ∙ ap (λ (x : AnyTurn). x.answers) e);
    }

    says_fit : GoWithin h.world h.name turn.letters → SaysFit (IsSaid (in_world o)) h.name (made core turn entry)
    says_fit within = λ c. subst (λ (s : Nodes). All (IsSaid s h.name c) (sent_to c (map send_of turn.letters))) (sym I.inside)
        (says h.world I.first h.name c turn.letters within)

    -- the node's turn, as its world has it
    event_is : (e : AnyEvent) → turn_by unnumbered core turn ≡ event (bound_of h.world) h.name (set_of h.world) e (begun (node_of h))
        → IsTurnOf (made core turn entry) (event o.bound h.name (in_world o) e (begun (node_of h)))
    event_is e same = is_turn unnumbered _ (same ∙ λ j. event (sym I.bound j) h.name (sym I.inside j) e (begun (node_of h)))

    accepts : (e : LocalEvent) → Steps (node_event e) h core turn → first_cause (causes h.name (node_of h) (own_event_of e)) ≡ None
    accepts (Call c) S = S.accepted
    accepts Retry S = S.accepted
    accepts (Exit p) S = S.accepted
    accepts Leave S = S.accepted

    -- an event of its own
    pub own_does : (letters : ℕ → List StampedLetter) (e : LocalEvent) → Steps (node_event e) h core turn → knows_contact h.world e ≡ true
        → DoesIfFit (IsSaid (in_world o)) o letters (node_of h) (made core turn entry) (AnyWorldEvent.At h.name (own_event_of e))
    own_does letters e S known = ((accepts e S, event_is (own_event_of e) (own_turn h core turn e S known)), says_fit (S.within (hears e known)))

    -- the letter that is the oldest from its sender
    pub letter_does : (letters : ℕ → List StampedLetter) (f n : ℕ) (l : Letter) (rest : List StampedLetter)
        → Steps (FromPeer f l) h core turn → in_world o f ≡ true → letters f ≡ record { stamp = n; letter = letter_of l } ∷ rest → n < entry.stamp
        → DoesIfFit (IsSaid (in_world o)) o letters (node_of h) (made core turn entry) (AnyWorldEvent.Deliver f h.name)
    letter_does letters f n l rest S known oldest later =
        subst (λ (ls : List StampedLetter). ReadsIfFit (IsSaid (in_world o)) o h.name f ls (node_of h) (made core turn entry)) (sym oldest) (
          later,
          λ fit. (
            (λ number. is_turn number _ (S.turn number (said fit) ∙ λ j. receive (sym I.bound j) h.name number f (letter_of l) (begun (node_of h)))),
            says_fit (S.within (held h.world f (sym (ap (λ (s : Nodes). s f) I.inside) ∙ known), said fit)),
          ),
        )
      where
        said : IsSaid (in_world o) f h.name (letter_of l) → IsSaidBy h.world h.name f l
        said fit = said_as h.world h.name f l (subst (λ (s : Nodes). IsSaid s f h.name (letter_of l)) I.inside fit)
