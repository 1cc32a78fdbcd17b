-- The step of a core is what the protocol's node does in a world of which it knows some nodes alone: what it sends to these is the same, and
-- that it has left it says to all others, too.
use Rattle.std.proofs.Common.{◌≡◌, ◌==◌, ◌<◌, ℕ, Bool, true, false, List, [], ◌∷◌, map, refl, sym, ap, subst, ◌∙◌, inl, inr, nat_lt}
use Rattle.std.specs.Prelude.{◌&&◌, not, if◌then◌else◌}
use Rattle.std.proofs.lemmas.Bool.{cases_eq, ne_eqb, true≢false}
use Rattle.std.proofs.lemmas.List.Elements.{All-head, All-tail}
use Rattle.moves.proofs.Sends.{sent_to-all}
use Rattle.protocol_model.specs.Letter.{Letter as AnyLetter}
use Rattle.protocol_model.specs.Event.{Event as AnyEvent}
use Rattle.protocol_model.specs.Turn.{Send, Turn as AnyTurn, begun, sent_to}
use Rattle.protocol_model.specs.Calling.{event}
use Rattle.protocol_model.specs.Reading.{receive}
use Rattle.protocol_model.specs.World.{Opening, in_world, other}
use Rattle.protocol_model.specs.World.{WorldEvent as AnyWorldEvent}
use Rattle.closings.specs.Alone.{Stamped as StampedLetter, LogEntry as SeenEntry, Made, IsTurnOf, Reads, Does}
use Rattle.term.specs.NodeSets.{set_of, with_older}
use Rattle.term.proofs.Older.{held}
use Rattle.node_log.specs.declared.Call.TheVariants.{Spawn, Whereis, RegisteredNames, Notices, Register, ReRegister, Unregister, SetLock, DelLock, Join as JoinBy}
use Rattle.node_log.specs.NodeEvents.{Event as NodeEvent}
use Rattle.node_log.specs.NodeEvents.TheVariants as node
use Rattle.node_log.specs.declared.LocalEvent.{LocalEvent}
use Rattle.node_log.specs.declared.LocalEvent.TheVariants.{Call, Retry, Exit, Leave}
use Rattle.node_log.specs.declared.Letter.{Letter}
use Rattle.node_log.specs.NodeEventsLetters.{letter_of, send_of}
use Rattle.node_log.specs.NodeEventsSeen.{answer_of, unnumbered}
use Rattle.node_core.specs.CoreState.{CoreState, bound_of}
use Rattle.node_core.specs.Made.{Made as Turn}
use Rattle.node_core.specs.Seen.{node_of, turn_by}
use Rattle.node_core.specs.Steps.{Steps, IsSaidBy, IsHeardWithin, GoWithin}
use Rattle.node_log.specs.Events.{node_event, own_event_of, knows_contact}
use Rattle.node_loop.specs.Returning.{IsNodeAmong}
use Rattle.node_loop.proofs.Doing.{asks, own_turn}

-- what a step sends
abbrev pub sends_of : Opening → CoreState → NodeEvent → Turn → List Send
sends_of o h node.Leave turn = (event o.bound h.name (in_world o) AnyEvent.Leave (begun (node_of h))).sends
sends_of o h e turn = map send_of turn.letters

-- a step that a core made, and its entry, as the protocol has them
abbrev pub made_from : Opening → CoreState → NodeEvent → CoreState → Turn → SeenEntry → Made
made_from o h e core turn entry = record { entry = entry; after = node_of core; sends = sends_of o h e turn }

-- nothing goes to a node that hasn't started, where all go to nodes that have
none_to : (world : List ℕ) (a t : ℕ) (ss : List (ℕ × Letter)) → GoWithin world a ss → with_older world t ≡ false
    → sent_to t (map send_of ss) ≡ []
none_to world a t [] go strange = refl
none_to world a t (s ∷ ss) go strange = elim (cases_eq s.0 t) [
  | inl e ↦ absurd (true≢false (sym ((All-head (λ x. (with_older world x.0 ≡ true) × IsSaidBy world x.0 a x.1) s ss go).0)
      ∙ (ap (with_older world) e ∙ strange)))
  | inr ne ↦ rw (ne_eqb s.0 t ne) (none_to world a t ss (All-tail (λ x. (with_older world x.0 ≡ true) × IsSaidBy world x.0 a x.1) s ss go) strange)
]

-- of an event of its own it relies on its contact alone
pub heard_own : (h : CoreState) (e : LocalEvent) → knows_contact h.world e ≡ true → IsHeardWithin h.world h.name (node_event e)
heard_own h (Call c) known = asks h.world c known
heard_own h Retry known = tt
heard_own h (Exit p) known = tt
heard_own h Leave known = tt

module _ (o : Opening) (h : CoreState) (I : IsNodeAmong o h) where
  pub here_among : in_world o h.name ≡ true
  here_among = I.inside h.name (held h.world h.name I.here)

  -- an event names no other node than its contact
  pub other_among : (e : LocalEvent) → knows_contact h.world e ≡ true → in_world o (other (AnyWorldEvent.At h.name (own_event_of e))) ≡ true
  other_among (Call Spawn) known = here_among
  other_among (Call (Whereis x)) known = here_among
  other_among (Call RegisteredNames) known = here_among
  other_among (Call (Notices p)) known = here_among
  other_among (Call (Register pair)) known = here_among
  other_among (Call (ReRegister pair)) known = here_among
  other_among (Call (Unregister x)) known = here_among
  other_among (Call (SetLock p id asked retries)) known = here_among
  other_among (Call (DelLock p id asked)) known = here_among
  other_among (Call (JoinBy m)) known = I.inside m known
  other_among Retry known = here_among
  other_among (Exit p) known = here_among
  other_among Leave known = here_among

  module _ (core : CoreState) (turn : Turn) (entry : SeenEntry) (answered : entry.answers ≡ map answer_of turn.answers) where
    is_turn : (e : NodeEvent) → sends_of o h e turn ≡ map send_of turn.letters → (number : ℕ → ℕ) (u : AnyTurn) → turn_by number core turn ≡ u
        → IsTurnOf (made_from o h e core turn entry) u
    is_turn e sends number u same = record {
      node = sym (ap (λ (x : AnyTurn). x.node) same);
      sends = sym (sends ∙ ap (λ (x : AnyTurn). x.sends) same);
      answers = sym (answered ∙ ap (λ (x : AnyTurn). x.answers) same);
    }

    -- an event of its own
    pub own_does_from : (letters : ℕ → List StampedLetter) (e : LocalEvent) → Steps (node_event e) h core turn → knows_contact h.world e ≡ true
        → Does o letters (node_of h) (made_from o h (node_event e) core turn entry) (AnyWorldEvent.At h.name (own_event_of e))
    own_does_from letters (Call c) S known = (
      S.accepted,
      is_turn (node_event (Call c)) refl unnumbered _ (own_turn h core turn (Call c) S known
          ∙ λ j. event (sym I.bound j) h.name (set_of h.world) (own_event_of (Call c)) (begun (node_of h))),
    )
    own_does_from letters Retry S known = (
      S.accepted,
      is_turn (node_event Retry) refl unnumbered _ (own_turn h core turn Retry S known
          ∙ λ j. event (sym I.bound j) h.name (set_of h.world) AnyEvent.Retry (begun (node_of h))),
    )
    own_does_from letters (Exit p) S known = (
      S.accepted,
      is_turn (node_event (Exit p)) refl unnumbered _ (own_turn h core turn (Exit p) S known
          ∙ λ j. event (sym I.bound j) h.name (set_of h.world) (AnyEvent.Exiting p) (begun (node_of h))),
    )
    own_does_from letters Leave S known =
        let same = own_turn h core turn Leave S known in (
          S.accepted,
          record {
            node = sym (ap (λ (x : AnyTurn). x.node) same);
            sends = refl;
            answers = sym (answered ∙ ap (λ (x : AnyTurn). x.answers) same);
          },
        )

    -- the letter that is the oldest from its sender, which may say that
    pub letter_does_from : (letters : ℕ → List StampedLetter) (f n : ℕ) (l : Letter) (rest : List StampedLetter)
        → Steps (node.FromPeer f l) h core turn → IsSaidBy h.world h.name f l
        → letters f ≡ record { stamp = n; letter = letter_of l } ∷ rest → n < entry.stamp
        → Does o letters (node_of h) (made_from o h (node.FromPeer f l) core turn entry) (AnyWorldEvent.Deliver f h.name)
    letter_does_from letters f n l rest S said oldest later =
        subst (λ (ls : List StampedLetter). Reads o h.name f ls (node_of h) (made_from o h (node.FromPeer f l) core turn entry)) (sym oldest) (
          later,
          λ number. is_turn (node.FromPeer f l) refl number _
              (S.turn number said ∙ λ j. receive (sym I.bound j) h.name number f (letter_of l) (begun (node_of h))),
        )

  -- to a node that it knows to be at present it sends what the protocol's node does
  module _ (core : CoreState) (turn : Turn) (t : ℕ) where
    to_all : (w : ℕ) (S : ℕ → Bool) → sent_to t (event w h.name S AnyEvent.Leave (begun (node_of h))).sends
        ≡ (if nat_lt t w && (S t && not (t == h.name)) then AnyLetter.Down ∷ [] else [])
    to_all w S = sent_to-all w (λ c. S c && not (c == h.name)) AnyLetter.Down t

    pub sent_same : (e : LocalEvent) → Steps (node_event e) h core turn → knows_contact h.world e ≡ true → set_of h.world t ≡ true
        → sent_to t (sends_of o h (node_event e) turn) ≡ sent_to t (map send_of turn.letters)
    sent_same (Call c) S known there = refl
    sent_same Retry S known there = refl
    sent_same (Exit p) S known there = refl
    sent_same Leave S known there =
        to_all o.bound (in_world o)
        ∙ (ap (λ (w : ℕ). if nat_lt t w && (in_world o t && not (t == h.name)) then AnyLetter.Down ∷ [] else []) I.bound
        ∙ (ap (λ (b : Bool). if nat_lt t (bound_of h.world) && (b && not (t == h.name)) then AnyLetter.Down ∷ [] else [])
        (I.inside t (held h.world t there) ∙ sym there)
        ∙ (sym (to_all (bound_of h.world) (set_of h.world))
        ∙ ap (sent_to t) (sym (ap (λ (x : AnyTurn). x.sends) (own_turn h core turn Leave S known))))))

    -- and to one that hasn't started nothing, unless it leaves
    pub sent_none : (e : NodeEvent) → sends_of o h e turn ≡ map send_of turn.letters → Steps e h core turn → IsHeardWithin h.world h.name e
        → with_older h.world t ≡ false → sent_to t (sends_of o h e turn) ≡ []
    sent_none e plain S heard strange = ap (sent_to t) plain ∙ none_to h.world h.name t turn.letters (S.within heard) strange
