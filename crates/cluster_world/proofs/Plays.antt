-- A step of a node, as an event that the protocol's world of names accepts or refuses.
use Rattle.std.proofs.Common.{ℕ, Bool, true, false, ◌==◌, ◌≡◌, Option, Some, None, List, [], ◌∷◌, ◌++◌, get_or, refl, sym, ap, subst, ◌∙◌}
use Rattle.std.specs.Prelude.{if◌then◌else◌, not, nat_lt, ◌&&◌, ◌||◌, is_none, option_map}
use Rattle.std.proofs.lemmas.Bool.{ne_eqb, and_parts}
use Rattle.std.proofs.lemmas.List.{append-nil}
use Rattle.registry_model.specs.Process.{Nodes}
use Rattle.protocol_model.specs.Letter.{Letter as AnyLetter}
use Rattle.protocol_model.specs.Node.{Node}
use Rattle.protocol_model.specs.Event.{Event as AnyEvent, Answer as AnyAnswer, Refusal as AnyRefusal, causes, first_cause}
use Rattle.protocol_model.specs.Turn.{Turn, sent_to, begun}
use Rattle.protocol_model.specs.Calling.{event}
use Rattle.protocol_model.specs.World.{World, WorldEvent as AnyWorldEvent, in_world, other, refusal, accepted, run, answers, all_answers, turn_of, apply}
use Rattle.getting_through.proofs.Sends.{sent_to-all}
use Rattle.getting_through.specs.NamedWorld.{NamedWorld, NamedEvent, NamedRefusal, Plain, has_started, named_refusal, plain, present_after, accepted_named, happens_named, named_answers, after_events}
use Rattle.getting_through.proofs.NamedRuns.{after_events-push}
use Rattle.term.specs.Nodes.{name_of}
use Rattle.term.specs.NodeSets.{set_of, names_in, with_older}
use Rattle.term.proofs.Older.{held}
use Rattle.link.specs.MeshState.{place}
use Rattle.node_core.specs.declared.Call.TheVariants.{Spawn, Whereis, RegisteredNames, Notices, Register, ReRegister, Unregister, SetLock, DelLock, Join as JoinBy}
use Rattle.node_core.specs.declared.Call.{Call as ClientCall}
use Rattle.node_core.specs.CoreState.{CoreState, HaveLeft, bound_of}
use Rattle.node_core.specs.Seen.{node_of}
use Rattle.node_core.specs.NodeEventsSeen.{fault_of}
use Rattle.node_core.specs.declared.StepFault.{StepFault}
use Rattle.node_core.specs.Steps.{IsTurn, IsAskedWithin, IsHeardWithin, refusal_of as node_refusal}
use Rattle.world_events.specs.declared.events.LocalEvent.{LocalEvent}
use Rattle.world_events.specs.declared.events.LocalEvent.TheVariants.{Call, Retry, Exit, Leave}
use Rattle.world_events.specs.declared.refusal.Refusal.TheVariants.{NoSuchNode, NodeLeft, Step}
use Rattle.world_events.specs.declared.events.WorldEvent.TheVariants.{At}
use Rattle.world_events.specs.Events.{node_event, own_event_of, is_leave, knows_contact}
use Rattle.cluster_world.specs.WorldState.{WorldState, nodes_of}
use Rattle.cluster_world.specs.Openings.{present_in}
use Rattle.cluster_world.specs.Playing.{RefusedWith}
use Rattle.cluster_world.specs.Seen.{names_of, opening_of, seen, named}
use Rattle.cluster_world.specs.Whole.{IsWhole}
use Rattle.cluster_world.proofs.Listed.{known_place}
use Rattle.cluster_world.proofs.Naming.{bound_is, inside, has_name, started_is}
use Rattle.cluster_world.proofs.Posting.{down_of}
use Rattle.cluster_world.proofs.Steps.{named_so, node_is, world_so}

-- Why an event is refused, by whether its node has started, whether the other one that it names has, whether the world has the one, and
-- the other, whether its node has left, and why else
abbrev pub gate : Bool → Bool → Bool → Bool → Bool → Option AnyRefusal → Option NamedRefusal
gate s t i j g rest = if s
    then (if t
    then option_map Plain (if not i || not j then Some AnyRefusal.NoSuchNode else (if g then Some AnyRefusal.NodeLeft else rest))
    else Some (Plain AnyRefusal.NoSuchNode))
    else Some (Plain AnyRefusal.NoSuchNode)

-- its node is none
pub gate_stranger : (s t i j g : Bool) (r : Option AnyRefusal) → (s && i) ≡ false
    → gate s t i j g r ≡ Some (Plain AnyRefusal.NoSuchNode)
gate_stranger false t i j g r e = refl
gate_stranger true false i j g r e = refl
gate_stranger true true false j g r e = refl
gate_stranger true true true j g r e = cc

-- the other one is none
pub gate_contact : (s t i j g : Bool) (r : Option AnyRefusal) → (t && j) ≡ false
    → gate s t i j g r ≡ Some (Plain AnyRefusal.NoSuchNode)
gate_contact false t i j g r e = refl
gate_contact true false i j g r e = refl
gate_contact true true false false g r e = refl
gate_contact true true true false g r e = refl
gate_contact true true i true g r e = cc

-- both have started
pub gate_up : (s t i j g : Bool) (r : Option AnyRefusal) → s ≡ true → t ≡ true → i ≡ true → j ≡ true
    → gate s t i j g r ≡ option_map Plain (if g then Some AnyRefusal.NodeLeft else r)
gate_up true true true true g r a b c d = refl
gate_up false t i j g r a b c d = cc
gate_up true false i j g r a b c d = cc
gate_up true true false j g r a b c d = cc
gate_up true true true false g r a b c d = cc

-- what a refusal of nothing means
pub nothing_refused : (r : Option AnyRefusal) → option_map Plain r ≡ None → r ≡ None
nothing_refused None e = refl
nothing_refused (Some x) e = cc

-- it isn't refused
pub record IsOpen (s t i j g : Bool) (r : Option AnyRefusal) : Type 0 where
  pub own : (s && i) ≡ true
  pub contact : (t && j) ≡ true
  pub runs : g ≡ false
  pub rest : r ≡ None

pub gate_open : (s t i j g : Bool) (r : Option AnyRefusal) → gate s t i j g r ≡ None → IsOpen s t i j g r
gate_open true true true true false r e = record { own = refl; contact = refl; runs = refl; rest = nothing_refused r e }
gate_open true true true true true r e = absurd (cc e)
gate_open true true true false g r e = absurd (cc e)
gate_open true true false j g r e = absurd (cc e)
gate_open true false i j g r e = absurd (cc e)
gate_open false t i j g r e = absurd (cc e)

-- a call's contact, if it has one, has started
own_asks : (nodes : List ℕ) (c : ClientCall) → knows_contact nodes (Call c) ≡ true → IsAskedWithin nodes c
own_asks nodes Spawn known = tt
own_asks nodes (Whereis x) known = tt
own_asks nodes RegisteredNames known = tt
own_asks nodes (Notices p) known = tt
own_asks nodes (Register pair) known = tt
own_asks nodes (ReRegister pair) known = tt
own_asks nodes (Unregister x) known = tt
own_asks nodes (SetLock p id asked retries) known = tt
own_asks nodes (DelLock p id asked) known = tt
own_asks nodes (JoinBy m) known = known

-- it hears nobody
pub own_hears : (nodes : List ℕ) (a : ℕ) (e : LocalEvent) → knows_contact nodes e ≡ true
    → IsHeardWithin nodes a (node_event e)
own_hears nodes a (Call c) known = own_asks nodes c known
own_hears nodes a Retry known = tt
own_hears nodes a (Exit p) known = tt
own_hears nodes a Leave known = tt

-- an event of a node that has started names no other node than its contact
other_of : (nodes : List ℕ) (a : ℕ) (e : LocalEvent) → with_older nodes a ≡ true
    → with_older nodes (other (AnyWorldEvent.At a (own_event_of e))) ≡ knows_contact nodes e
other_of nodes a (Call Spawn) here = here
other_of nodes a (Call (Whereis x)) here = here
other_of nodes a (Call RegisteredNames) here = here
other_of nodes a (Call (Notices p)) here = here
other_of nodes a (Call (Register pair)) here = here
other_of nodes a (Call (ReRegister pair)) here = here
other_of nodes a (Call (Unregister x)) here = here
other_of nodes a (Call (SetLock p id asked retries)) here = here
other_of nodes a (Call (DelLock p id asked)) here = here
other_of nodes a (Call (JoinBy m)) here = refl
other_of nodes a Retry here = here
other_of nodes a (Exit p) here = here
other_of nodes a Leave here = here

-- what only a leave does with the nodes of the world
pub not_leave : (n a : ℕ) (s t : Nodes) (e : LocalEvent) (u : Turn) → is_leave e ≡ false
    → event n a s (own_event_of e) u ≡ event n a t (own_event_of e) u
not_leave n a s t (Call c) u other = refl
not_leave n a s t Retry u other = refl
not_leave n a s t (Exit p) u other = refl
not_leave n a s t Leave u other = cc

module _ (h : WorldState) (left : HaveLeft (nodes_of h) h.links.departed) where
  -- the world has the node and it has started just where it is at present or older
  pub seen_known : (n : ℕ) → (has_started (names_of h) (named h) n && in_world (opening_of h) n) ≡ with_older (nodes_of h) n
  seen_known n = go (names_in (nodes_of h) (name_of n)) refl
    where
      go : (b : Bool) → names_in (nodes_of h) (name_of n) ≡ b
          → (has_started (names_of h) (named h) n && in_world (opening_of h) n) ≡ with_older (nodes_of h) n
      go true e = ap (λ (b : Bool). has_started (names_of h) (named h) n && b) (inside (nodes_of h) h.cluster n ∙ e)
          ∙ plain_and (has_started (names_of h) (named h) n) ∙ started_is h left.one n e
        where
          plain_and : (b : Bool) → (b && true) ≡ b
          plain_and true = refl
          plain_and false = refl
      go false e = ap (λ (b : Bool). has_started (names_of h) (named h) n && b) (inside (nodes_of h) h.cluster n ∙ e)
          ∙ none (has_started (names_of h) (named h) n) (with_older (nodes_of h) n) refl
        where
          none : (b d : Bool) → with_older (nodes_of h) n ≡ d → (b && false) ≡ d
          none b true q = cc (has_name (nodes_of h) n q, e)
          none true false q = refl
          none false false q = refl

  pub started_of : (n : ℕ) → with_older (nodes_of h) n ≡ true
      → (has_started (names_of h) (named h) n ≡ true) × (in_world (opening_of h) n ≡ true)
  started_of n e = and_parts (has_started (names_of h) (named h) n) (in_world (opening_of h) n) (seen_known n ∙ e)

  module _ (a : ℕ) (e : LocalEvent) where
    abbrev why : Option AnyRefusal
    why = first_cause (causes a ((seen h).node a) (own_event_of e))

    abbrev contact : ℕ
    contact = other (AnyWorldEvent.At a (own_event_of e))

    -- its node is none that has started, or its contact is none
    pub refuses_strange : (with_older (nodes_of h) a && knows_contact (nodes_of h) e) ≡ false → RefusedWith NoSuchNode (At a e) h
    refuses_strange strange = go (with_older (nodes_of h) a) refl strange
      where
        go : (b : Bool) → with_older (nodes_of h) a ≡ b → (b && knows_contact (nodes_of h) e) ≡ false
            → RefusedWith NoSuchNode (At a e) h
        go false q s = gate_stranger (has_started (names_of h) (named h) a) (has_started (names_of h) (named h) contact)
            (in_world (opening_of h) a) (in_world (opening_of h) contact) (with_older h.links.departed a) why (seen_known a ∙ q)
        go true q s = gate_contact (has_started (names_of h) (named h) a) (has_started (names_of h) (named h) contact)
            (in_world (opening_of h) a) (in_world (opening_of h) contact) (with_older h.links.departed a) why
            (seen_known contact ∙ other_of (nodes_of h) a e q ∙ s)

    module _ (here : with_older (nodes_of h) a ≡ true) (known : knows_contact (nodes_of h) e ≡ true) where
      refused_up : named_refusal (names_of h) (named h) (NamedEvent.AtNode a (own_event_of e))
          ≡ option_map Plain (if with_older h.links.departed a then Some AnyRefusal.NodeLeft else why)
      refused_up =
          let own = started_of a here in
          let others = started_of contact (other_of (nodes_of h) a e here ∙ known) in
          gate_up (has_started (names_of h) (named h) a) (has_started (names_of h) (named h) contact)
          (in_world (opening_of h) a) (in_world (opening_of h) contact) (with_older h.links.departed a) why
          own.0 others.0 own.1 others.1

      -- it has left
      pub refuses_gone : with_older h.links.departed a ≡ true → RefusedWith NodeLeft (At a e) h
      refuses_gone gone = refused_up
          ∙ ap (λ (b : Bool). option_map Plain (if b then Some AnyRefusal.NodeLeft else why)) gone

      -- it runs
      refused_own : with_older h.links.departed a ≡ false
          → named_refusal (names_of h) (named h) (NamedEvent.AtNode a (own_event_of e)) ≡ option_map Plain why
      refused_own up = refused_up ∙ ap (λ (b : Bool). option_map Plain (if b then Some AnyRefusal.NodeLeft else why)) up

    -- it is accepted
    pub accepts : named_refusal (names_of h) (named h) (NamedEvent.AtNode a (own_event_of e)) ≡ None
        → (with_older (nodes_of h) a ≡ true) × (knows_contact (nodes_of h) e ≡ true) × (with_older h.links.departed a ≡ false)
        × (why ≡ None)
    accepts free =
        let o : IsOpen (has_started (names_of h) (named h) a) (has_started (names_of h) (named h) contact)
        (in_world (opening_of h) a) (in_world (opening_of h) contact) (with_older h.links.departed a) why =
        gate_open (has_started (names_of h) (named h) a) (has_started (names_of h) (named h) contact)
        (in_world (opening_of h) a) (in_world (opening_of h) contact) (with_older h.links.departed a) why free in
        let here : with_older (nodes_of h) a ≡ true = sym (seen_known a) ∙ o.own in
        (here, sym (other_of (nodes_of h) a e here) ∙ sym (seen_known contact) ∙ o.contact, o.runs, o.rest)

-- why the node refuses
own_refusal : (e : LocalEvent) (c : CoreState) → node_refusal (node_event e) c ≡ first_cause (causes c.name (node_of c) (own_event_of e))
own_refusal (Call c) k = refl
own_refusal Retry k = refl
own_refusal (Exit p) k = refl
own_refusal Leave k = refl

-- an event that is accepted, with what it makes
module _ (h : WorldState) (e : NamedEvent) (E : AnyWorldEvent) (is : plain (names_of h) (named h) e ≡ E ∷ [])
    (present : present_after (names_of h) (named h) e ≡ present_in (nodes_of h))
    (free : named_refusal (names_of h) (named h) e ≡ None) (plain_free : refusal (opening_of h) (seen h) E ≡ None) where
  abbrev run_of : List AnyWorldEvent → World
  run_of es = run (opening_of h) (seen h) es

  pub happens_by : (v : NamedWorld) → v ≡ record { world = accepted (opening_of h) (seen h) E; present = present_in (nodes_of h) }
      → v ≡ happens_named (names_of h) (named h) e
  happens_by v made = made
      ∙ ap (λ (r : Option AnyRefusal). let w : NamedWorld = record {
        world = if is_none r then accepted (opening_of h) (seen h) E else seen h;
        present = present_in (nodes_of h);
      } in w) (sym plain_free)
      ∙ ap (λ (es : List AnyWorldEvent). let w : NamedWorld = record { world = run_of es; present = present_in (nodes_of h) } in w) (sym is)
      ∙ ap (λ (p : ℕ → ℕ). let w : NamedWorld = record { world = run_of (plain (names_of h) (named h) e); present = p } in w) (sym present)
      ∙ ap (λ (r : Option NamedRefusal). if is_none r then accepted_named (names_of h) (named h) e else named h) (sym free)

  pub answers_by : (given : List AnyAnswer) → given ≡ (turn_of (opening_of h) (seen h) E).answers
      → given ≡ named_answers (names_of h) (named h) e
  answers_by given made = made
      ∙ ap (λ (r : Option AnyRefusal). if is_none r then (turn_of (opening_of h) (seen h) E).answers else []) (sym plain_free)
      ∙ sym (append-nil (answers (opening_of h) (seen h) E))
      ∙ ap (λ (es : List AnyWorldEvent). all_answers (opening_of h) (seen h) es) (sym is)
      ∙ ap (λ (r : Option NamedRefusal). all_answers (opening_of h) (seen h) (if is_none r then plain (names_of h) (named h) e else []))
      (sym free)

-- where an event happened, one more made the world what it is
pub reached_more : (h : WorldState) (whole : IsWhole h) (e : NamedEvent) (v : NamedWorld) → v ≡ happens_named (names_of h) (named h) e
    → v ≡ after_events (names_of h) (whole.events ++ e ∷ [])
reached_more h whole e v is = is ∙ ap (λ (w : NamedWorld). happens_named (names_of h) w e) whole.reached
    ∙ sym (after_events-push (names_of h) whole.events e)

module _ (h : WorldState) (whole : IsWhole h) (left : HaveLeft (nodes_of h) h.links.departed) (a i : ℕ) (e : LocalEvent) (core : CoreState)
    (there : place a (nodes_of h) ≡ Some i) (is : core ≡ get_or h.cores i core) where
  why_is : first_cause (causes a ((seen h).node a) (own_event_of e)) ≡ node_refusal (node_event e) core
  why_is = ap (λ (v : Node). first_cause (causes a v (own_event_of e))) (node_is h whole a i core there is)
      ∙ ap (λ (n : ℕ). first_cause (causes n (node_of core) (own_event_of e))) (sym (named_so h whole a i core there is))
      ∙ sym (own_refusal e core)

  started_here : with_older (nodes_of h) a ≡ true
  started_here = held (nodes_of h) a (known_place (nodes_of h) a i there)

  -- its node refuses it, or accepts it
  module _ (known : knows_contact (nodes_of h) e ≡ true) (up : with_older h.links.departed a ≡ false) where
    pub refuses_step : (fault : StepFault) → node_refusal (node_event e) core ≡ fault_of fault → RefusedWith (Step fault) (At a e) h
    refuses_step fault q = refused_own h left a e started_here known up ∙ ap (option_map Plain) (why_is ∙ q)

    pub free_by_node : node_refusal (node_event e) core ≡ None
        → named_refusal (names_of h) (named h) (NamedEvent.AtNode a (own_event_of e)) ≡ None
    free_by_node q = refused_own h left a e started_here known up ∙ ap (option_map Plain) (why_is ∙ q)

    -- what the node makes
    turn_here : (u : Turn) (number : ℕ → ℕ) → IsTurn number (node_event e) core u
        → u ≡ event (bound_of core.world) core.name (set_of core.world) (own_event_of e) (begun (node_of core))
    turn_here u number = go e known
      where
        asks : (c : ClientCall) → knows_contact (nodes_of h) (Call c) ≡ true → IsAskedWithin core.world c
        asks c k = subst (λ (ns : List ℕ). IsAskedWithin ns c) (sym (world_so h whole a i core there is up)) (own_asks (nodes_of h) c k)

        go : (e : LocalEvent) → knows_contact (nodes_of h) e ≡ true → IsTurn number (node_event e) core u
            → u ≡ event (bound_of core.world) core.name (set_of core.world) (own_event_of e) (begun (node_of core))
        go (Call c) k t = t (asks c k)
        go Retry k t = t
        go (Exit p) k t = t
        go Leave k t = t

    pub own_turn : (u : Turn) (number : ℕ → ℕ) → IsTurn number (node_event e) core u
        → u ≡ event (opening_of h).bound a (set_of (nodes_of h)) (own_event_of e) (begun ((seen h).node a))
    own_turn u number t = turn_here u number t
        ∙ ap (λ (ns : List ℕ). event (bound_of ns) core.name (set_of ns) (own_event_of e) (begun (node_of core)))
        (world_so h whole a i core there is up)
        ∙ ap (λ (n : ℕ). event (bound_of (nodes_of h)) n (set_of (nodes_of h)) (own_event_of e) (begun (node_of core)))
        (named_so h whole a i core there is)
        ∙ ap (λ (n : ℕ). event n a (set_of (nodes_of h)) (own_event_of e) (begun (node_of core))) (sym (bound_is (nodes_of h) h.cluster))
        ∙ ap (λ (v : Node). event (opening_of h).bound a (set_of (nodes_of h)) (own_event_of e) (begun v))
        (sym (node_is h whole a i core there is))

  pub takes : named_refusal (names_of h) (named h) (NamedEvent.AtNode a (own_event_of e)) ≡ None → node_refusal (node_event e) core ≡ None
  takes free = let f = accepts h left a e free in sym why_is ∙ f.3

-- by another event than a leave nobody leaves
pub stays : (h : WorldState) (a : ℕ) (e : LocalEvent) → is_leave e ≡ false
    → accepted (opening_of h) (seen h) (AnyWorldEvent.At a (own_event_of e))
    ≡ apply a (event (opening_of h).bound a (set_of (nodes_of h)) (own_event_of e) (begun ((seen h).node a))) (seen h)
stays h a e other = plainly e other
    ∙ ap (λ (u : Turn). apply a u (seen h))
    (not_leave (opening_of h).bound a (in_world (opening_of h)) (set_of (nodes_of h)) e (begun ((seen h).node a)) other)
  where
    plainly : (e : LocalEvent) → is_leave e ≡ false → accepted (opening_of h) (seen h) (AnyWorldEvent.At a (own_event_of e))
        ≡ apply a (turn_of (opening_of h) (seen h) (AnyWorldEvent.At a (own_event_of e))) (seen h)
    plainly (Call c) other = refl
    plainly Retry other = refl
    plainly (Exit p) other = refl
    plainly Leave other = cc

-- a leave says so to all nodes of the world, and all links towards its node are closed
module _ (h : WorldState) (left : HaveLeft (nodes_of h) h.links.departed) (a : ℕ) where
  abbrev pub leave_among : Nodes → Turn
  leave_among s = event (opening_of h).bound a s AnyEvent.Leave (begun ((seen h).node a))

  -- of those that have started it comes to the same where the program says it to those at present
  pub same_downs : (t : ℕ) → set_of (nodes_of h) t ≡ true
      → sent_to t (leave_among (set_of (nodes_of h))).sends ≡ sent_to t (leave_among (in_world (opening_of h))).sends
  same_downs t e =
      sent_to-all (opening_of h).bound (λ c. set_of (nodes_of h) c && not (c == a)) AnyLetter.Down t
      ∙ ap (λ (b : Bool). if nat_lt t (opening_of h).bound && (b && not (t == a)) then AnyLetter.Down ∷ [] else [])
      (e ∙ sym (started_of h left t (held (nodes_of h) t e)).1)
      ∙ sym (sent_to-all (opening_of h).bound (λ c. in_world (opening_of h) c && not (c == a)) AnyLetter.Down t)

  -- and to those that haven't started it says so, too
  pub all_downs : (t : ℕ) → (t ≡ a → ⊥)
      → sent_to t (leave_among (in_world (opening_of h))).sends ≡ down_of (opening_of h) (nodes_of h) true t
  all_downs t ne =
      sent_to-all (opening_of h).bound (λ c. in_world (opening_of h) c && not (c == a)) AnyLetter.Down t
      ∙ ap (λ (b : Bool). if nat_lt t (opening_of h).bound && (in_world (opening_of h) t && not b) then AnyLetter.Down ∷ [] else [])
      (ne_eqb t a ne)
      ∙ go (nat_lt t (opening_of h).bound) ((opening_of h).nodes t)
    where
      go : (b c : Bool) → (if b && ((b && c) && true) then AnyLetter.Down ∷ [] else []) ≡ (if (b && c) && true then AnyLetter.Down ∷ [] else [])
      go true true = refl
      go true false = refl
      go false c = refl
