-- The step of an admitted event, where what is held is h, and contracts see it as old.
use Rattle.std.proofs.Common.{ℕ, Bool, true, false, ◌==◌, ◌≡◌, ◌<◌, ◌≤◌, ◌++◌, Option, Some, None, List, [], ◌∷◌, length, get_or, drop, set, map, refl, sym, ap, subst, ◌∙◌}
use Rattle.std.specs.Prelude.{if◌then◌else◌, find, option_map}
use Rattle.std.specs.List.{All, slice_get}
use Rattle.std.proofs.lemmas.Bool.{eqb-true, ne_eqb}
use Rattle.std.proofs.lemmas.List.{get_or_default}
use Rattle.std.proofs.lemmas.List.Elements.{All-head, All-tail}
use Rattle.registry_model.specs.Process.{Nodes, at}
use Rattle.registry_model.proofs.Updates.{by_test}
use Rattle.protocol_model.specs.Letter.{Letter as AnyLetter}
use Rattle.protocol_model.specs.Links.{Links, posted, taken, closed_out}
use Rattle.protocol_model.specs.Node.{Node}
use Rattle.protocol_model.specs.Event.{Refusal as AnyRefusal, causes, first_cause}
use Rattle.protocol_model.specs.Calling.{event}
use Rattle.protocol_model.specs.Turn.{Turn, sent_to, begun}
use Rattle.protocol_model.specs.Reading.{receive}
use Rattle.protocol_model.specs.World.{World, WorldEvent as AnyWorldEvent, in_world, other, refusal, accepted, turn_of, heard, apply, number_in, join_number}
use Rattle.getting_through.specs.NamedWorld.{NamedWorld, Plain, has_started, present_node, sender_to, plain, plain_refusal, happens_named}
use Rattle.getting_through.specs.Restarts.{IsUp, IsReplaced}
use Rattle.getting_through.specs.JoinNumbers.{AreJoinNumbers}
use Rattle.getting_through.proofs.NumbersRead.{join_numbers_suffice}
use Rattle.term.specs.Nodes.{name_of, text_in}
use Rattle.term.specs.NodeSets.{set_of, with_older}
use Rattle.term.proofs.Older.{held}
use Rattle.link.specs.MeshState.{place}
use Rattle.node_core.specs.declared.Answer.{Answer}
use Rattle.node_core.specs.declared.Event.TheVariants.{FromPeer}
use Rattle.node_core.specs.declared.Letter.{Letter}
use Rattle.node_core.specs.CoreState.{CoreState, HaveLeft, bound_of}
use Rattle.node_core.specs.Letters.{letter_of}
use Rattle.node_core.specs.Made.{Made}
use Rattle.node_core.specs.NodeEventsSeen.{entry_by}
use Rattle.node_core.specs.Rare.{most_answers}
use Rattle.node_core.specs.Seen.{node_of, turn_by}
use Rattle.node_core.specs.Steps.{Steps, IsSaidBy, IsHeardWithin, refusal_of as node_refusal}
use Rattle.world_events.specs.declared.events.LocalEvent.{LocalEvent}
use Rattle.world_events.specs.declared.events.LocalEvent.TheVariants.{Call, Retry, Exit, Leave}
use Rattle.world_events.specs.declared.events.WorldEvent.{WorldEvent}
use Rattle.world_events.specs.declared.events.WorldEvent.TheVariants.{At, Deliver}
use Rattle.world_events.specs.declared.refusal.Refusal.{Refusal}
use Rattle.world_events.specs.Events.{node_event, own_event_of, named_event, is_leave, knows_contact}
use Rattle.world_history.specs.declared.entry.HistoryEntry.{HistoryEntry}
use Rattle.world_history.specs.Histories.{entries_of}
use Rattle.cluster_world.specs.Cores.{core_of}
use Rattle.cluster_world.specs.WorldState.{WorldState, nodes_of}
use Rattle.cluster_world.specs.Histories.{number_of, number_at}
use Rattle.cluster_world.specs.Links.{letters_to, AreFit, IsFirstSender}
use Rattle.cluster_world.specs.Mail.{Mailed, links_of}
use Rattle.cluster_world.specs.Openings.{named_opening, present_in}
use Rattle.cluster_world.specs.Playing.{Keeps, Played, RefusedWith}
use Rattle.cluster_world.specs.Seen.{names_of, opening_of, or_else, node_with, seen, named}
use Rattle.cluster_world.specs.Steps.{IsAdmitted, AreFew}
use Rattle.cluster_world.specs.Whole.{IsWhole}
use Rattle.cluster_world.proofs.Deliveries.{sender_is, receiver_is, waits_well}
use Rattle.cluster_world.proofs.Listed.{known_place}
use Rattle.cluster_world.proofs.Naming.{bound_is, replaced_from, up_from}
use Rattle.cluster_world.proofs.Plays.{own_hears, accepts, takes, happens_by, answers_by, reached_more, own_turn, not_leave, stays, leave_among, same_downs, all_downs, nothing_refused}
use Rattle.cluster_world.proofs.Posting.{down_of, over, over-taken, over-left, all_links-over, closed_is, fit_taken, fit_closed}
use Rattle.cluster_world.proofs.Steps.{with_core, named_so, node_is, world_so, wrote, whole_with, left_by, behind_is, goes, posted_fit, stepped}

-- the answers that are given are those that its turn has
pub answers_are : {e : WorldEvent} {old new : WorldState} {given now : List Answer} → now ≡ given → Played e old new [] given
    → Played e old new [] now
answers_are {e} {old} {new} same played = subst (λ (given : List Answer). Played e old new [] given) (sym same) played

-- what is found is so, as all are
found_has : {A : Type 0} (P : A → Type 0) (p : A → Bool) (xs : List A) (c : A) → All P xs → find p xs ≡ Some c
    → P c × (p c ≡ true)
found_has P p [] c all e = absurd (cc e)
found_has P p (x ∷ xs) c all e = go (p x) refl e (found_has P p xs c (All-tail P x xs all))
  where
    go : (b : Bool) → p x ≡ b → (if b then Some x else find p xs) ≡ Some c
        → (find p xs ≡ Some c → P c × (p c ≡ true)) → P c × (p c ≡ true)
    go true q f more =
        let same : x ≡ c = cc f in (subst P same (All-head P x xs all), ap p (sym same) ∙ q)
    go false q f more = more f

-- a world of these nodes' names
names_with : (h : WorldState) (ns : List ℕ) → ns ≡ nodes_of h → named_opening ns h.cluster ≡ names_of h
names_with h ns same = ap (λ (xs : List ℕ). named_opening xs h.cluster) same

-- what is admitted, and what is played, where contracts see what is held as old
module _ (old h : WorldState) (same : h ≡ old) where
  pub admitted : (p : ℕ) (e : WorldEvent) → IsAdmitted p e old → IsAdmitted p e h
  admitted p e A = subst (IsAdmitted p e) (sym same) A

  pub played : (e : WorldEvent) (new : WorldState) (given : List Answer) → Played e h new [] given → Played e old new [] given
  played e new given P = subst (λ (k : WorldState). Played e k new [] given) same P

  pub refused : (r : Refusal) (e : WorldEvent) → RefusedWith r e h → RefusedWith r e old
  refused r e R = subst (RefusedWith r e) same R

  pub kept_by : (k : WorldState) (cores : List CoreState) (links : Mailed) (history : List HistoryEntry)
      → k ≡ record { cluster = h.cluster; cores = cores; past = h.past; links = links; history = history }
      → links.nodes ≡ nodes_of h → Keeps old k
  kept_by k cores links history is nodes = record {
    names = ap names_of is ∙ names_with h links.nodes nodes ∙ ap names_of same;
    cluster = ap (λ (x : WorldState). x.cluster) is ∙ ap (λ (x : WorldState). x.cluster) same;
  }

-- the core at a place, however it was reached
module _ (old h : WorldState) (same : h ≡ old) (p : ℕ) (core : CoreState) (is : core ≡ get_or h.cores p core) (low : p < length h.cores) where
  pub same_core : (other : CoreState) → other ≡ get_or h.cores p other → other ≡ core
  same_core other here = here ∙ get_or_default h.cores p other core low ∙ sym is

  -- its answers are few
  pub few_answers : (given : List Answer) → length given ≤ most_answers core → AreFew p old given
  few_answers given few d = subst (λ (k : CoreState). length given ≤ most_answers k)
      (is ∙ get_or_default h.cores p core d low ∙ ap (λ (k : WorldState). get_or k.cores p d) same) few

-- a node's own event
module _ (h : WorldState) (whole : IsWhole h) (left : HaveLeft (nodes_of h) h.links.departed) (p a : ℕ) (e : LocalEvent)
    (A : IsAdmitted p (At a e) h) (core : CoreState) (is : core ≡ get_or h.cores p core) where
  abbrev event_at : Nodes → Turn
  event_at s = event (opening_of h).bound a s (own_event_of e) (begun ((seen h).node a))

  abbrev world_of : World → NamedWorld
  world_of w = record { world = w; present = present_in (nodes_of h) }

  pub own_place : place a (nodes_of h) ≡ Some p
  own_place = subst (λ (n : ℕ). place n (nodes_of h) ≡ Some p) A.own A.place

  allowed : (with_older (nodes_of h) a ≡ true) × (knows_contact (nodes_of h) e ≡ true) × (with_older h.links.departed a ≡ false)
      × (first_cause (causes a ((seen h).node a) (own_event_of e)) ≡ None)
  allowed = accepts h left a e A.accepted

  knows : knows_contact (nodes_of h) e ≡ true
  knows = allowed.1

  up : with_older h.links.departed a ≡ false
  up = allowed.2

  -- the node accepts it
  pub accepts_own : node_refusal (node_event e) core ≡ None
  accepts_own = takes h whole left a p e core own_place is A.accepted

  plain_free : refusal (opening_of h) (seen h) (AnyWorldEvent.At a (own_event_of e)) ≡ None
  plain_free = by_open (has_started (names_of h) (named h) a)
      (has_started (names_of h) (named h) (other (AnyWorldEvent.At a (own_event_of e))))
      (refusal (opening_of h) (seen h) (AnyWorldEvent.At a (own_event_of e))) A.accepted
    where
      by_open : (s t : Bool) (r : Option AnyRefusal)
          → (if s then (if t then option_map Plain r else Some (Plain AnyRefusal.NoSuchNode)) else Some (Plain AnyRefusal.NoSuchNode)) ≡ None
          → r ≡ None
      by_open true true r q = nothing_refused r q
      by_open true false r q = absurd (cc q)
      by_open false t r q = absurd (cc q)

  heard_so : IsHeardWithin (nodes_of h) a (node_event e)
  heard_so = own_hears (nodes_of h) a e knows

  -- the letters go to nodes that have started
  pub own_goes : (new : CoreState) (made : Made) → Steps (node_event e) core new made → (ns : List ℕ) → ns ≡ nodes_of h
      → All (λ (s : ℕ × Letter). with_older ns s.0 ≡ true) made.letters
  own_goes new made S ns same = subst (λ (xs : List ℕ). All (λ (s : ℕ × Letter). with_older xs s.0 ≡ true) made.letters) (sym same)
      (λ k d l. (goes h whole a p core own_place is left up (node_event e) new made S heard_so k d l).0)

  module _ (new : CoreState) (made : Made) (S : Steps (node_event e) core new made) (links : Mailed)
      (nodes : links.nodes ≡ nodes_of h) (post : links_of links ≡ posted a (λ t. letters_to t made.letters) (links_of h.links)) where
    fit : AreFit (nodes_of h) (links_of links)
    fit = subst (AreFit (nodes_of h)) (sym post)
        (posted_fit h whole a p core own_place is left up (node_event e) new made S heard_so (links_of h.links) (closed_is h.links) whole.fit)

    module _ (history : List HistoryEntry) (own : ℕ)
        (enter : entries_of history ≡ entries_of h.history
        ++ map (entry_by (number_at (set h.cores p new) a own)) made.entries) where
      abbrev number : ℕ → ℕ
      number = number_at (set h.cores p new) a own

      abbrev u : Turn
      u = turn_by number new made

      turn_is : u ≡ event_at (set_of (nodes_of h))
      turn_is = own_turn h whole left a p e core own_place is knows up u number (S.turn number)

      -- it was taken, and the node stays
      module _ (other : is_leave e ≡ false) where
        behind : named (with_core h p new links history) ≡ record {
          world = accepted (opening_of h) (seen h) (AnyWorldEvent.At a (own_event_of e));
          present = present_in (nodes_of h);
        }
        behind =
            stepped h whole a p core own_place is left up (node_event e) new made S heard_so number links history (links_of h.links)
            nodes post enter
            ∙ ap (λ (l : Links AnyLetter). world_of (apply a u (record (seen h) { links = l }))) (sym (all_links-over (opening_of h) h.links))
            ∙ ap (λ (v : Turn). world_of (apply a v (seen h))) turn_is
            ∙ ap world_of (sym (stays h a e other))

        happened : named (with_core h p new links history) ≡ happens_named (names_of h) (named h) (named_event (At a e))
        happened = happens_by h (named_event (At a e)) (AnyWorldEvent.At a (own_event_of e)) refl refl A.accepted plain_free _ behind

        pub own_whole : IsWhole (with_core h p new links history)
        own_whole = whole_with h whole a p core own_place is new links history (whole.events ++ named_event (At a e) ∷ []) S.name S.world
            nodes (λ c q. sym (ap (λ (s : ℕ → Bool). s c) (left_by h whole links _ post ∙ closed_is h.links)) ∙ q) fit
            (reached_more h whole (named_event (At a e)) _ happened)

        pub own_played : Played (At a e) h (with_core h p new links history) [] made.answers
        own_played = record {
          names = names_with h links.nodes nodes;
          cluster = refl;
          accepted = A.accepted;
          happens = happened;
          answers = answers_by h (named_event (At a e)) (AnyWorldEvent.At a (own_event_of e)) refl refl A.accepted plain_free _
              (ap (λ (v : Turn). v.answers) turn_is
              ∙ ap (λ (v : Turn). v.answers)
              (not_leave (opening_of h).bound a (set_of (nodes_of h)) (in_world (opening_of h)) e (begun ((seen h).node a)) other));
        }

      -- or has left
      module _ (gone : is_leave e ≡ true) (shut : Mailed) (there : shut.nodes ≡ links.nodes)
          (closed : links_of shut ≡ closed_out a (links_of links)) where
        closes : links_of shut ≡ closed_out a (posted a (λ t. letters_to t made.letters) (links_of h.links))
        closes = closed ∙ ap (λ (w : Links Letter). closed_out a w) post

        leaves : event_at (set_of (nodes_of h)) ≡ leave_among h left a (set_of (nodes_of h))
        leaves = go e gone
          where
            go : (e : LocalEvent) → is_leave e ≡ true
                → event (opening_of h).bound a (set_of (nodes_of h)) (own_event_of e) (begun ((seen h).node a))
                ≡ leave_among h left a (set_of (nodes_of h))
            go (Call c) q = cc
            go Retry q = cc
            go (Exit x) q = cc
            go Leave q = refl

        abbrev all : Turn
        all = leave_among h left a (in_world (opening_of h))

        leave_is : u ≡ leave_among h left a (set_of (nodes_of h))
        leave_is = turn_is ∙ leaves

        open_at : (links_of h.links).closed a ≡ false
        open_at = ap (λ (s : ℕ → Bool). s a) (closed_is h.links) ∙ up

        none_left : (t : ℕ) → with_older (nodes_of h) t ≡ false → (links_of h.links).closed t ≡ false
        none_left t s = ap (λ (g : ℕ → Bool). g t) (closed_is h.links) ∙ go (with_older h.links.departed t) refl
          where
            go : (b : Bool) → with_older h.links.departed t ≡ b → b ≡ false
            go false q = refl
            go true q = absurd (cc (left.started t q, s))

        at_present : (t : ℕ) → with_older (nodes_of h) t ≡ true → (links_of h.links).closed t ≡ false → set_of (nodes_of h) t ≡ true
        at_present t s q = go (set_of (nodes_of h) t) refl
          where
            go : (b : Bool) → set_of (nodes_of h) t ≡ b → b ≡ true
            go true r = refl
            go false r = absurd (cc (left.older t s r, sym (ap (λ (g : ℕ → Bool). g t) (closed_is h.links)) ∙ q))

        apart : (t : ℕ) → with_older (nodes_of h) t ≡ false → t ≡ a → ⊥
        apart t s same = cc (ap (with_older (nodes_of h)) same, allowed.0, s)

        links_are : over (opening_of h) (nodes_of h) (links_of shut)
            ≡ closed_out a (posted a (λ t. sent_to t all.sends) (seen h).links)
        links_are = ap (over (opening_of h) (nodes_of h)) closes
            ∙ over-left (opening_of h) (nodes_of h) a made.letters all.sends (links_of h.links) allowed.0 open_at none_left
            (λ t s q ne. ap (λ (v : Turn). sent_to t v.sends) leave_is ∙ same_downs h left a t (at_present t s q))
            (λ t s. all_downs h left a t (apart t s))
            ∙ ap (λ (l : Links AnyLetter). closed_out a (posted a (λ t. sent_to t all.sends) l)) (sym (all_links-over (opening_of h) h.links))

        behind_left : named (with_core h p new shut history) ≡ record {
          world = accepted (opening_of h) (seen h) (AnyWorldEvent.At a (own_event_of e));
          present = present_in (nodes_of h);
        }
        behind_left =
            behind_is h whole a p core own_place is new shut history _ _ S.name (there ∙ nodes) links_are
            (enter ∙ ap (λ (v : Turn). (seen h).history ++ v.entries) leave_is)
            ∙ ap (λ (v : Turn). world_of (record {
              node = at (seen h).node a v.node;
              links = closed_out a (posted a (λ t. sent_to t all.sends) (seen h).links);
              history = (seen h).history ++ all.entries;
            })) leave_is
            ∙ go e gone
          where
            go : (e : LocalEvent) → is_leave e ≡ true → world_of (record {
              node = at (seen h).node a all.node;
              links = closed_out a (posted a (λ t. sent_to t all.sends) (seen h).links);
              history = (seen h).history ++ all.entries;
            }) ≡ world_of (accepted (opening_of h) (seen h) (AnyWorldEvent.At a (own_event_of e)))
            go (Call c) q = cc
            go Retry q = cc
            go (Exit x) q = cc
            go Leave q = refl

        happened_left : named (with_core h p new shut history) ≡ happens_named (names_of h) (named h) (named_event (At a e))
        happened_left = happens_by h (named_event (At a e)) (AnyWorldEvent.At a (own_event_of e)) refl refl A.accepted plain_free _ behind_left

        pub left_whole : IsWhole (with_core h p new shut history)
        left_whole = whole_with h whole a p core own_place is new shut history (whole.events ++ named_event (At a e) ∷ []) S.name S.world
            (there ∙ nodes) stay (subst (AreFit (nodes_of h)) (sym closed) (fit_closed (nodes_of h) a (links_of links) fit))
            (reached_more h whole (named_event (At a e)) _ happened_left)
          where
            stay : (c : ℕ) → with_older shut.departed c ≡ false → with_older h.links.departed c ≡ false
            stay c q = sym (ap (λ (s : ℕ → Bool). s c) (closed_is h.links))
                ∙ go (c == a) (sym (ap (λ (s : ℕ → Bool). s c) (left_by h whole shut _ closes)) ∙ q)
              where
                go : (b : Bool) → (if b then true else (links_of h.links).closed c) ≡ false → (links_of h.links).closed c ≡ false
                go true r = cc
                go false r = r

        pub left_played : Played (At a e) h (with_core h p new shut history) [] made.answers
        left_played = record {
          names = names_with h shut.nodes (there ∙ nodes);
          cluster = refl;
          accepted = A.accepted;
          happens = happened_left;
          answers = answers_by h (named_event (At a e)) (AnyWorldEvent.At a (own_event_of e)) refl refl A.accepted plain_free _
              (ap (λ (v : Turn). v.answers) leave_is ∙ go e gone);
        }
          where
            go : (e : LocalEvent) → is_leave e ≡ true → (leave_among h left a (set_of (nodes_of h))).answers
                ≡ (turn_of (opening_of h) (seen h) (AnyWorldEvent.At a (own_event_of e))).answers
            go (Call c) q = cc
            go Retry q = cc
            go (Exit x) q = cc
            go Leave q = refl

-- the delivery of the oldest letter of the nodes of a name
module _ (h : WorldState) (whole : IsWhole h) (left : HaveLeft (nodes_of h) h.links.departed) (p f t : ℕ)
    (there : place t (nodes_of h) ≡ Some p) (first : IsFirstSender (name_of f) t (Some f) (links_of h.links))
    (A : IsAdmitted p (Deliver (name_of f) (name_of t)) h) (core : CoreState) (is : core ≡ get_or h.cores p core) where
  abbrev E : AnyWorldEvent
  E = AnyWorldEvent.Deliver f t

  here : set_of (nodes_of h) t ≡ true
  here = known_place (nodes_of h) t p there

  sends : with_older (nodes_of h) f ≡ true
  sends = (waits_well h whole left f t first.1).0

  runs : with_older h.links.departed t ≡ false
  runs = (waits_well h whole left f t first.1).1

  from_is : sender_to (names_of h) (named h) (text_in (name_of f)) (text_in (name_of t)) ≡ f
  from_is = sender_is h whole left (name_of f) (name_of t) t here refl f sends first

  to_is : present_node (names_of h) (named h) (text_in (name_of t)) ≡ t
  to_is = receiver_is h whole left (name_of f) (name_of t) t here refl

  plain_is : plain (names_of h) (named h) (named_event (Deliver (name_of f) (name_of t))) ≡ E ∷ []
  plain_is =
      ap (λ (s : ℕ). AnyWorldEvent.Deliver s (present_node (names_of h) (named h) (text_in (name_of t))) ∷ []) from_is
      ∙ ap (λ (n : ℕ). AnyWorldEvent.Deliver f n ∷ []) to_is

  delivery_free : refusal (opening_of h) (seen h) E ≡ None
  delivery_free = by_open (has_started (names_of h) (named h) f) (refusal (opening_of h) (seen h) E)
      (sym (ap (λ (s : ℕ). plain_refusal (names_of h) (named h)
      (AnyWorldEvent.Deliver s (present_node (names_of h) (named h) (text_in (name_of t))))) from_is
      ∙ ap (λ (n : ℕ). plain_refusal (names_of h) (named h) (AnyWorldEvent.Deliver f n)) to_is) ∙ A.accepted)
    where
      by_open : (s : Bool) (r : Option AnyRefusal) → (if s then option_map Plain r else Some (Plain AnyRefusal.NoSuchNode)) ≡ None
          → r ≡ None
      by_open true r q = nothing_refused r q
      by_open false r q = absurd (cc q)

  module _ (letter : Letter) (oldest : slice_get ((links_of h.links).queue f t) 0 ≡ Some letter) where
    front : (ls : List Letter) → slice_get ls 0 ≡ Some letter → ls ≡ letter ∷ drop 1 ls
    front [] q = cc
    front (l ∷ ls) q = cc

    front_is : (links_of h.links).queue f t ≡ letter ∷ drop 1 ((links_of h.links).queue f t)
    front_is = front ((links_of h.links).queue f t) oldest

    queue_is : (seen h).links.queue f t ≡ letter_of letter ∷ map letter_of (drop 1 ((links_of h.links).queue f t))
    queue_is = ap (λ (b : Bool). if b then map letter_of ((links_of h.links).queue f t)
        else down_of (opening_of h) (nodes_of h) (with_older h.links.departed f) t) (held (nodes_of h) t here)
        ∙ ap (map letter_of) front_is

    -- the receiver may read it
    said : IsSaidBy (nodes_of h) t f letter
    said = All-head (IsSaidBy (nodes_of h) t f) letter (drop 1 ((links_of h.links).queue f t))
        (subst (λ (ls : List Letter). All (IsSaidBy (nodes_of h) t f) ls) front_is (whole.fit.said f t))

    hears : IsHeardWithin (nodes_of h) t (FromPeer f letter)
    hears = (sends, said)

    -- the letters go to nodes that have started
    pub read_goes : (new : CoreState) (made : Made) → Steps (FromPeer f letter) core new made → (ns : List ℕ) → ns ≡ nodes_of h
        → All (λ (s : ℕ × Letter). with_older ns s.0 ≡ true) made.letters
    read_goes new made S ns same = subst (λ (xs : List ℕ). All (λ (s : ℕ × Letter). with_older xs s.0 ≡ true) made.letters) (sym same)
        (λ k d l. (goes h whole t p core there is left runs (FromPeer f letter) new made S hears k d l).0)

    module _ (new : CoreState) (made : Made) (S : Steps (FromPeer f letter) core new made) (links : Mailed) (nodes : links.nodes ≡ nodes_of h)
        (post : links_of links ≡ posted t (λ x. letters_to x made.letters) (taken f t (links_of h.links))) where
      read_fit : AreFit (nodes_of h) (links_of links)
      read_fit = subst (AreFit (nodes_of h)) (sym post)
          (posted_fit h whole t p core there is left runs (FromPeer f letter) new made S hears (taken f t (links_of h.links))
          (closed_is h.links) (fit_taken (nodes_of h) f t (links_of h.links) whole.fit))

      module _ (history : List HistoryEntry) (own : ℕ) (owns : own ≡ number_in (node_of core).current)
          (enter : entries_of history ≡ entries_of h.history
          ++ map (entry_by (number_at (set h.cores p new) t own)) made.entries) where
        abbrev join_at : ℕ → ℕ
        join_at = number_at (set h.cores p new) t own

        abbrev read_turn : Turn
        read_turn = turn_by join_at new made

        -- a core's join has the number that the world sees, where its node wasn't replaced
        number_seen : (j : ℕ) → (IsReplaced (names_of h) (named h) j → ⊥) → (c d : Option CoreState) → core_of j h.past ≡ d
            → number_of c ≡ number_in (node_with (opening_of h) j (or_else c d)).current
        number_seen j stands (Some c) d q = refl
        number_seen j stands None None q = refl
        number_seen j stands None (Some c) q =
            let found : ((with_older (nodes_of h) c.name ≡ true) × (set_of (nodes_of h) c.name ≡ false)) × ((c.name == j) ≡ true) =
            found_has (λ (c : CoreState). (with_older (nodes_of h) c.name ≡ true) × (set_of (nodes_of h) c.name ≡ false)) (λ c. c.name == j)
            h.past c whole.older q in
            let same : c.name ≡ j = eqb-true c.name j found.1 in
            absurd (stands (subst (IsReplaced (names_of h) (named h)) same
            (replaced_from h left.one c.name found.0.0 found.0.1)))

        numbers_are : AreJoinNumbers (names_of h) (named h) join_at
        numbers_are = by_test t (λ j b. (IsReplaced (names_of h) (named h) j → ⊥)
            → (if b then own else number_of (core_of j (set h.cores p new))) ≡ join_number (seen h) j)
            (λ stands. owns ∙ sym (ap (λ (v : Node). number_in v.current) (node_is h whole t p core there is)))
            (λ j ne stands. ap number_of (wrote h whole t p core there is new S.name j
            ∙ ap (λ (b : Bool). if b then Some new else core_of j h.cores) (ne_eqb j t ne))
            ∙ number_seen j stands (core_of j h.cores) (core_of j h.past) refl)

        suffices : receive (opening_of h).bound t join_at f (letter_of letter) (begun ((seen h).node t))
            ≡ receive (opening_of h).bound t (join_number (seen h)) f (letter_of letter) (begun ((seen h).node t))
        suffices = subst (λ (v : NamedWorld). IsUp (names_of h) v t → AreJoinNumbers (names_of h) v join_at
            → receive (opening_of h).bound t join_at f (letter_of letter) (begun (v.world.node t))
            ≡ receive (opening_of h).bound t (join_number v.world) f (letter_of letter) (begun (v.world.node t)))
            (sym whole.reached) (λ i n. join_numbers_suffice (names_of h) whole.events join_at f t (letter_of letter) i n)
            (up_from h left.one t here runs) numbers_are

        said_here : IsSaidBy core.world core.name f letter
        said_here = subst (λ (n : ℕ). IsSaidBy core.world n f letter) (sym (named_so h whole t p core there is))
            (subst (λ (ns : List ℕ). IsSaidBy ns t f letter) (sym (world_so h whole t p core there is runs)) said)

        reads : read_turn ≡ turn_of (opening_of h) (seen h) E
        reads = S.turn join_at said_here
            ∙ ap (λ (ns : List ℕ). receive (bound_of ns) core.name join_at f (letter_of letter) (begun (node_of core)))
            (world_so h whole t p core there is runs)
            ∙ ap (λ (n : ℕ). receive (bound_of (nodes_of h)) n join_at f (letter_of letter) (begun (node_of core)))
            (named_so h whole t p core there is)
            ∙ ap (λ (n : ℕ). receive n t join_at f (letter_of letter) (begun (node_of core))) (sym (bound_is (nodes_of h) h.cluster))
            ∙ ap (λ (v : Node). receive (opening_of h).bound t join_at f (letter_of letter) (begun v)) (sym (node_is h whole t p core there is))
            ∙ suffices
            ∙ sym (ap (heard (opening_of h).bound t (seen h) f) queue_is)

        behind_read : named (with_core h p new links history) ≡ record {
          world = accepted (opening_of h) (seen h) E;
          present = present_in (nodes_of h);
        }
        behind_read =
            stepped h whole t p core there is left runs (FromPeer f letter) new made S hears join_at links history
            (taken f t (links_of h.links)) nodes post enter
            ∙ ap (λ (l : Links AnyLetter). let v : NamedWorld = record {
              world = apply t read_turn (record (seen h) { links = l });
              present = present_in (nodes_of h);
            } in v) (over-taken (opening_of h) (nodes_of h) f t (links_of h.links) (held (nodes_of h) t here)
            ∙ ap (λ (l : Links AnyLetter). taken f t l) (sym (all_links-over (opening_of h) h.links)))
            ∙ ap (λ (v : Turn). let w : NamedWorld = record {
              world = apply t v (record (seen h) { links = taken f t (seen h).links });
              present = present_in (nodes_of h);
            } in w) reads

        happened_read : named (with_core h p new links history)
            ≡ happens_named (names_of h) (named h) (named_event (Deliver (name_of f) (name_of t)))
        happened_read = happens_by h (named_event (Deliver (name_of f) (name_of t))) E plain_is refl A.accepted delivery_free _ behind_read

        -- it was read
        pub read_whole : IsWhole (with_core h p new links history)
        read_whole = whole_with h whole t p core there is new links history
            (whole.events ++ named_event (Deliver (name_of f) (name_of t)) ∷ []) S.name S.world nodes
            (λ c q. sym (ap (λ (s : ℕ → Bool). s c) (left_by h whole links _ post ∙ closed_is h.links)) ∙ q) read_fit
            (reached_more h whole (named_event (Deliver (name_of f) (name_of t))) _ happened_read)

        pub read_played : Played (Deliver (name_of f) (name_of t)) h (with_core h p new links history) [] made.answers
        read_played = record {
          names = names_with h links.nodes nodes;
          cluster = refl;
          accepted = A.accepted;
          happens = happened_read;
          answers = answers_by h (named_event (Deliver (name_of f) (name_of t))) E plain_is refl A.accepted delivery_free _
              (ap (λ (v : Turn). v.answers) reads);
        }
