-- The delivery that comes next, by where a letter waits first.
use Rattle.std.proofs.Common.{ℕ, Bool, true, false, ◌≡◌, ◌<◌, ◌*◌, ◌^◌, Option, Some, None, List, [], ◌∷◌, map, refl, sym, ap, subst, ◌∙◌, arith, inl, inr}
use Rattle.std.specs.Prelude.{if◌then◌else◌, not, ◌&&◌, ◌||◌, ◌⊎◌, nat_lt, is_none, option_map, find, flat_map, Contains, IfSome, MatchOption}
use Rattle.std.specs.Option.{option_or}
use Rattle.std.proofs.lemmas.Bool.{and_parts, ltb-true}
use Rattle.std.proofs.lemmas.List.Concat.{flat_map_single}
use Rattle.std.proofs.lemmas.List.Folds.{find-append}
use Rattle.registry_model.specs.Process.{nodes_of as listed}
use Rattle.registry_model.proofs.Lists.{Contains-cases, Contains-front, Contains-behind, Contains-nil}
use Rattle.registry_model.proofs.NodeLists.{are_nodes_below}
use Rattle.protocol_model.specs.Links.{is_nil}
use Rattle.protocol_model.specs.Event.{Refusal}
use Rattle.protocol_model.specs.World.{in_world, left}
use Rattle.getting_through.specs.NodeNames.{NamedOpening, first_nodes, name_of as any_name, opening_of as all_creations}
use Rattle.getting_through.specs.NamedWorld.{NamedWorld, NamedEvent, Deliver, NamedRefusal, Plain, or_present, present_node, has_started, sender_to, named_refusal}
use Rattle.getting_through.specs.NamedScript.{next_named}
use Rattle.getting_through.proofs.Lists.{Rise, nodes_rise, find_least}
use Rattle.getting_through.proofs.Numbers.{name-node}
use Rattle.getting_through.proofs.StartedLists.{in_first, first_rises}
use Rattle.getting_through.proofs.Standing.{Sound}
use Rattle.getting_through.proofs.Always.{always}
use Rattle.term.specs.Nodes.{text_in, name_of}
use Rattle.term.specs.NodeSets.{set_of, with_older, names_in}
use Rattle.term.proofs.Numbers.{text_in-first_node}
use Rattle.term.proofs.Older.{held}
use Rattle.link.specs.MeshState.{place}
use Rattle.node_core.specs.declared.Letter.{Letter}
use Rattle.node_core.specs.CoreState.{HaveLeft}
use Rattle.world_events.specs.declared.events.WorldEvent.TheVariants.{Deliver as Delivers}
use Rattle.world_events.specs.Events.{named_event}
use Rattle.cluster_world.specs.WorldState.{WorldState, nodes_of}
use Rattle.cluster_world.specs.Whole.{IsWhole}
use Rattle.cluster_world.specs.declared.admission.Delivery.{Delivery}
use Rattle.cluster_world.specs.Links.{IsBetween, WaitsFirst}
use Rattle.cluster_world.specs.Mail.{links_of}
use Rattle.cluster_world.specs.Openings.{is_named_in}
use Rattle.cluster_world.specs.Playing.{WaitsOn}
use Rattle.cluster_world.specs.Settling.{IsNextLetter}
use Rattle.cluster_world.specs.Seen.{names_of, named}
use Rattle.cluster_world.proofs.Listed.{no_place}
use Rattle.cluster_world.proofs.Naming.{known_is, text_or_name, node_named, has_name, name_of-text, present_node_is}
use Rattle.cluster_world.proofs.Deliveries.{waits_as, delivers}

module _ {E : Type 0} (p : E → Bool) (rows : ℕ → List E) where
  -- no row has what passes
  none_found : (xs : List ℕ) → ((x : ℕ) → Contains xs x → find p (rows x) ≡ None) → find p (flat_map rows xs) ≡ None
  none_found [] none = refl
  none_found (x ∷ xs) none = find-append p (rows x) (flat_map rows xs)
      ∙ ap (λ (o : Option E). option_or o (find p (flat_map rows xs))) (none x (Contains-front x xs))
      ∙ none_found xs (λ y i. none y (Contains-behind x xs y i))

  -- the row of f is the first that has it
  first_found : (xs : List ℕ) (f : ℕ) (e : E) → Rise xs → Contains xs f
      → ((x : ℕ) → Contains xs x → x < f → find p (rows x) ≡ None) → find p (rows f) ≡ Some e
      → find p (flat_map rows xs) ≡ Some e
  first_found [] f e R i before found = absurd (Contains-nil f i)
  first_found (x ∷ xs) f e R i before found = elim (Contains-cases x xs f i) [
    | inl same ↦ find-append p (rows x) (flat_map rows xs)
        ∙ ap (λ (o : Option E). option_or o (find p (flat_map rows xs))) (ap (λ (y : ℕ). find p (rows y)) same ∙ found)
    | inr behind ↦ find-append p (rows x) (flat_map rows xs)
        ∙ ap (λ (o : Option E). option_or o (find p (flat_map rows xs))) (before x (Contains-front x xs) (R.0 f behind))
        ∙ first_found xs f e R.1 behind (λ y j. before y (Contains-behind x xs y j)) found
  ]

module _ (o : NamedOpening) (w : NamedWorld) where
  -- the names of the world
  abbrev names : List ℕ
  names = listed o.bound o.names

  -- the world accepts the event
  abbrev accepts : NamedEvent → Bool
  accepts e = is_none (named_refusal o w e)

  -- no delivery is accepted from an empty link
  refused_empty : (x y : ℕ) → is_nil (w.world.links.queue (sender_to o w x y) (present_node o w y)) ≡ true
      → accepts (Deliver x y) ≡ false
  refused_empty x y e = go (has_started o w f) (not (in_world (all_creations o) t) || not (in_world (all_creations o) f))
      (left w.world t)
    where
      f : ℕ
      f = sender_to o w x y

      t : ℕ
      t = present_node o w y

      go : (a b c : Bool) → is_none (if a then option_map Plain (if b then Some Refusal.NoSuchNode else
          (if c then Some Refusal.NodeLeft else (if is_nil (w.world.links.queue f t) then Some Refusal.EmptyLink else None)))
          else Some (Plain Refusal.NoSuchNode)) ≡ false
      go false b c = refl
      go true true c = refl
      go true false true = refl
      go true false false =
          ap (λ (b : Bool). is_none (option_map Plain (if b then Some Refusal.EmptyLink else None))) e

  row : (x : ℕ) (ts : List ℕ) → map (λ t. Deliver x t) ts ≡ flat_map (λ t. Deliver x t ∷ []) ts
  row x ts = sym (flat_map_single (λ t. Deliver x t) ts)

  row_found : (x y : ℕ) (b : Bool) → accepts (Deliver x y) ≡ b → find accepts (Deliver x y ∷ [])
      ≡ (if b then Some (Deliver x y) else None)
  row_found x y b e = ap (λ (c : Bool). if c then Some (Deliver x y) else None) e

  empty_row : (x : ℕ) → ((y : ℕ) → Contains names y → accepts (Deliver x y) ≡ false)
      → find accepts (map (λ t. Deliver x t) names) ≡ None
  empty_row x refused = ap (find accepts) (row x names)
      ∙ none_found accepts (λ t. Deliver x t ∷ []) names (λ y i. row_found x y false (refused y i))

  -- no letter waits
  next_none : ((x y : ℕ) → Contains names x → Contains names y → accepts (Deliver x y) ≡ false) → next_named o w ≡ None
  next_none refused = none_found accepts (λ f. map (λ t. Deliver f t) names) names (λ x i. empty_row x (λ y j. refused x y i j))

  -- the first letter waits on the link from x to y
  next_first : (x y : ℕ) → Contains names x → Contains names y → accepts (Deliver x y) ≡ true
      → ((a b : ℕ) → Contains names a → Contains names b → (a < x) ⊎ ((a ≡ x) × (b < y)) → accepts (Deliver a b) ≡ false)
      → next_named o w ≡ Some (Deliver x y)
  next_first x y sender receiver free before =
      first_found accepts (λ f. map (λ t. Deliver f t) names) names x (Deliver x y) (nodes_rise o.bound o.names) sender
      (λ a i less. empty_row a (λ b j. before a b i j (inl less)))
      (ap (find accepts) (row x names)
      ∙ first_found accepts (λ t. Deliver x t ∷ []) names y (Deliver x y) (nodes_rise o.bound o.names) receiver
      (λ b j less. row_found x b false (before x b sender j (inr (refl, less))))
      (row_found x y true free))

module _ (h : WorldState) (whole : IsWhole h) (left : HaveLeft (nodes_of h) h.links.departed) where
  abbrev o : NamedOpening
  o = names_of h

  abbrev w : NamedWorld
  w = named h

  -- the letters that one node has sent another
  abbrev letters : ℕ → ℕ → List Letter
  letters = (links_of h.links).queue

  sound : Sound o w
  sound = subst (λ (v : NamedWorld). Sound o v) (sym whole.reached) (always o whole.events)

  -- a node that is listed as one of the world has one of its names
  named_here : (m : ℕ) → names_in (nodes_of h) (name_of m) ≡ true → Contains (names o w) (text_in m)
  named_here m e = ((are_nodes_below o.bound o.names).below (text_in m)).1 (ltb-true (text_in m) o.bound known.0, known.1)
    where
      known : (nat_lt (text_in m) o.bound ≡ true) × (is_named_in (nodes_of h) (text_in m) ≡ true)
      known = and_parts (nat_lt (text_in m) o.bound) (is_named_in (nodes_of h) (text_in m))
          (known_is (nodes_of h) h.cluster m ∙ e)

  -- and each name is that of one
  node_of_name : (y : ℕ) → Contains (names o w) y → (m : ℕ) × (set_of (nodes_of h) m ≡ true) × (text_in m ≡ y)
  node_of_name y i = (node.0, node.1, name_of-text node.0 (y * 2 ^ 32) node.2 ∙ text)
    where
      text : text_in (y * 2 ^ 32) ≡ y
      text = text_in-first_node y

      node : (m : ℕ) × (set_of (nodes_of h) m ≡ true) × (name_of m ≡ name_of (y * 2 ^ 32))
      node = node_named (nodes_of h) (name_of (y * 2 ^ 32)) (sym (text_or_name (nodes_of h) (y * 2 ^ 32))
          ∙ ap (is_named_in (nodes_of h)) text ∙ (((are_nodes_below o.bound o.names).below y).0 i).1)

  -- who sends on the link from a name has it
  sender_named : (x y : ℕ) → text_in (sender_to o w x y) ≡ x
  sender_named x y = go (find waits (first_nodes o x (w.present x))) refl
    where
      waits : ℕ → Bool
      waits n = not (is_nil (w.world.links.queue n (present_node o w y)))

      go : (r : Option ℕ) → find waits (first_nodes o x (w.present x)) ≡ r → any_name o (or_present o w x r) ≡ x
      go None e = name-node o x (w.present x) (sound.present x)
      go (Some n) e = (in_first o x (w.present x) n (sound.present x).last
          (find_least waits (first_nodes o x (w.present x)) n (first_rises o x (w.present x) (sound.present x).last) e).0).0

  -- nothing is on the link from name to name, where nothing is on any between their nodes
  nothing_on : (x y : ℕ) → Contains (names o w) y
      → ((f t : ℕ) → text_in f ≡ x → text_in t ≡ y → letters f t ≡ []) → accepts o w (Deliver x y) ≡ false
  nothing_on x y i empty = refused_empty o w x y
      (ap (λ (m : ℕ). is_nil (w.world.links.queue (sender_to o w x y) m)) present
      ∙ waits_as h whole left (sender_to o w x y) node.0 (held (nodes_of h) node.0 node.1)
      ∙ ap (λ (ls : List Letter). is_nil ls) (empty (sender_to o w x y) node.0 (sender_named x y) node.2))
    where
      node : (m : ℕ) × (set_of (nodes_of h) m ≡ true) × (text_in m ≡ y)
      node = node_of_name y i

      present : present_node o w y ≡ node.0
      present = ap (present_node o w) (sym node.2) ∙ present_node_is h left.one node.0 node.1

  -- a letter waits between these nodes, the first one of all
  module _ (f t : ℕ) (waits : WaitsFirst (Some (f, t)) (links_of h.links)) where
    both : (with_older (nodes_of h) f && set_of (nodes_of h) t) ≡ true
    both = go (with_older (nodes_of h) f && set_of (nodes_of h) t) refl
      where
        go : (b : Bool) → (with_older (nodes_of h) f && set_of (nodes_of h) t) ≡ b → b ≡ true
        go true e = refl
        go false e = absurd (cc (waits.0.1, ap (λ (ls : List Letter). is_nil ls) (whole.fit.known f t e)))

    -- the sender has started, and the receiver is at present
    sender : with_older (nodes_of h) f ≡ true
    sender = (and_parts (with_older (nodes_of h) f) (set_of (nodes_of h) t) both).0

    receiver : set_of (nodes_of h) t ≡ true
    receiver = (and_parts (with_older (nodes_of h) f) (set_of (nodes_of h) t) both).1

    -- by names
    by_names : Deliver (text_in f) (text_in t) ≡ named_event (Delivers (name_of f) (name_of t))
    by_names = ap (λ (x : ℕ). Deliver x (text_in t)) from ∙ ap (λ (y : ℕ). Deliver (text_in (name_of f)) y) to
      where
        from : text_in f ≡ text_in (name_of f)
        from = sym (text_in-first_node (text_in f))

        to : text_in t ≡ text_in (name_of t)
        to = sym (text_in-first_node (text_in t))

    free : named_refusal o w (named_event (Delivers (name_of f) (name_of t))) ≡ None
    free = delivers h whole left (name_of f) (name_of t) t receiver refl f sender waits.0

    next : next_named o w ≡ Some (Deliver (text_in f) (text_in t))
    next = next_first o w (text_in f) (text_in t)
        (named_here f (has_name (nodes_of h) f sender)) (named_here t (has_name (nodes_of h) t (held (nodes_of h) t receiver)))
        (ap (λ (e : NamedEvent). is_none (named_refusal o w e)) by_names ∙ ap (λ (r : Option NamedRefusal). is_none r) free)
        (λ a b i j before. nothing_on a b j (λ g u p q. waits.1 g u (earlier a b g u p q before)))
      where
        earlier : (a b g u : ℕ) → text_in g ≡ a → text_in u ≡ b → (a < text_in f) ⊎ ((a ≡ text_in f) × (b < text_in t))
            → (name_of g < name_of f) ⊎ ((name_of g ≡ name_of f) × (name_of u < name_of t))
        earlier a b g u p q (inl less) = let l : name_of g < name_of f = omega (arith, p, less) in inl l
        earlier a b g u p q (inr (same, less)) =
            let l : name_of u < name_of t = omega (arith, q, less) in
            let e : name_of g ≡ name_of f = ap (λ (x : ℕ). x * 2 ^ 32) (p ∙ same) in
            inr (e, l)

    waits_between : WaitsOn (Some (name_of f, name_of t)) h
    waits_between = next ∙ ap (λ (e : NamedEvent). let r : Option NamedEvent = Some e in r) by_names

    -- the receiver has a place, and so has the sender's name
    pub has_place : place t (nodes_of h) ≡ None → ⊥
    has_place e = cc (no_place (nodes_of h) t e, receiver)

    pub has_sender : names_in (nodes_of h) (name_of f) ≡ false → ⊥
    has_sender e = cc (has_name (nodes_of h) f sender, e)

  -- so it may read the letter
  pub first_letter : (d : Delivery) → WaitsFirst (Some (d.sender, d.receiver)) (links_of h.links)
      → IsBetween d.link (name_of d.sender) d.receiver (nodes_of h) → IsNextLetter d h
  first_letter d waits link = record {
    ready = record {
      link = link;
      first = waits.0;
      admitted = record {
        node = d.receiver;
        place = link.receiver;
        own = refl;
        accepted = free d.sender d.receiver waits;
      };
    };
    next = waits_between d.sender d.receiver waits;
  }

  -- no letter waits
  pub waits_nowhere : WaitsFirst None (links_of h.links) → WaitsOn None h
  waits_nowhere none = next_none o w (λ x y i j. nothing_on x y j (λ f t p q. none f t))

  -- what was found, if anything was, is delivered next
  pub next_found : (r : Option Delivery) → WaitsFirst (option_map (λ d. (d.sender, d.receiver)) r) (links_of h.links)
      → IfSome r (λ d. IsBetween d.link (name_of d.sender) d.receiver (nodes_of h))
      → MatchOption r (WaitsOn None h) (λ d. IsNextLetter d h)
  next_found None waits link = waits_nowhere waits
  next_found (Some d) waits link = first_letter d waits link
