-- Which node's letter a delivery takes, and why a delivery is refused.
use Rattle.std.proofs.Common.{ℕ, zero, suc, Bool, true, false, ◌≡◌, ◌<◌, ◌≤◌, ◌-◌, ◌+◌, Option, Some, None, List, [], ◌∷◌, get_or, map, inl, inr, refl, sym, ap, subst, ◌∙◌, arith}
use Rattle.std.specs.Prelude.{if◌then◌else◌, find, not, nat_lt, ◌&&◌, is_some, option_map}
use Rattle.std.specs.List.{slice_get}
use Rattle.std.specs.Option.{option_or}
use Rattle.std.proofs.lemmas.Bool.{cases_eq}
use Rattle.std.proofs.lemmas.List.Folds.{find-append}
use Rattle.protocol_model.specs.Links.{is_nil}
use Rattle.protocol_model.specs.Event.{Refusal as AnyRefusal}
use Rattle.protocol_model.specs.World.{WorldEvent as AnyWorldEvent, in_world}
use Rattle.getting_through.specs.NodeNames.{NamedOpening, span, node_of, name_of as name_in, first_nodes}
use Rattle.getting_through.specs.NamedWorld.{NamedWorld, NamedEvent, NamedRefusal, Plain, present_node, has_started, sender_to, or_present, plain_refusal, named_refusal}
use Rattle.getting_through.specs.Restarts.{NodesStand}
use Rattle.getting_through.proofs.Numbers.{name-node, inside-name}
use Rattle.getting_through.proofs.Standing.{started_to}
use Rattle.getting_through.proofs.Always.{nodes_always_stand}
use Rattle.term.specs.Nodes.{IsFirst, text_in, name_of, creation_of, first_node}
use Rattle.term.specs.NodeSets.{set_of, names_in, with_older}
use Rattle.term.proofs.Numbers.{of_both, text_in-first_node, name_of-packed, name_of-first}
use Rattle.term.proofs.Older.{held}
use Rattle.link.specs.declared.link_place.LinkPlace.{LinkPlace}
use Rattle.link.specs.MeshState.{place}
use Rattle.node_core.specs.declared.Letter.{Letter}
use Rattle.node_core.specs.CoreState.{CoreState, HaveLeft}
use Rattle.node_core.specs.Letters.{letter_of}
use Rattle.world_events.specs.declared.events.WorldEvent.TheVariants.{Deliver}
use Rattle.world_events.specs.declared.refusal.Refusal.TheVariants.{NoSuchNode, NodeLeft, EmptyLink}
use Rattle.cluster_world.specs.declared.admission.Delivery.{Delivery}
use Rattle.cluster_world.specs.Admissions.{IsReady, delivered_by}
use Rattle.cluster_world.specs.WorldState.{WorldState, nodes_of}
use Rattle.cluster_world.specs.Links.{IsBetween, IsFirstSender}
use Rattle.cluster_world.specs.Mail.{links_of}
use Rattle.cluster_world.specs.Openings.{present_in}
use Rattle.cluster_world.specs.Playing.{RefusedWith}
use Rattle.cluster_world.specs.Seen.{names_of, opening_of, seen, named}
use Rattle.cluster_world.specs.Steps.{IsAdmitted}
use Rattle.cluster_world.specs.Whole.{IsWhole}
use Rattle.cluster_world.proofs.Listed.{known_place}
use Rattle.cluster_world.proofs.Naming.{known_is, node_named, present_is, present_of}
use Rattle.cluster_world.proofs.Plays.{gate, gate_stranger, gate_contact, gate_up, started_of}
use Rattle.cluster_world.proofs.Posting.{down_of, closed_is}
use Rattle.cluster_world.proofs.Steps.{named_so}

-- the first of the nodes of a name that a test finds
module _ (o : NamedOpening) (p : ℕ → Bool) (x : ℕ) where
  -- none, where it finds none of them
  pub none_first : (k : ℕ) → ((d : ℕ) → 1 ≤ d → d ≤ k → p (node_of o x d) ≡ false) → find p (first_nodes o x k) ≡ None
  none_first zero not_so = refl
  none_first (suc k) not_so =
      find-append p (first_nodes o x k) (node_of o x (suc k) ∷ [])
      ∙ ap (λ (r : Option ℕ). option_or r (find p (node_of o x (suc k) ∷ []))) (none_first k (λ d l m. not_so d l (omega arith)))
      ∙ ap (λ (b : Bool). if b then Some (node_of o x (suc k)) else None) (not_so (suc k) (omega arith) (omega arith))

  pub found_first : (k c : ℕ) → 1 ≤ c → c ≤ k → p (node_of o x c) ≡ true
      → ((d : ℕ) → 1 ≤ d → d < c → p (node_of o x d) ≡ false) → find p (first_nodes o x k) ≡ Some (node_of o x c)
  found_first zero c l m so not_so = absurd (omega (arith, l, m))
  found_first (suc k) c l m so not_so =
      find-append p (first_nodes o x k) (node_of o x (suc k) ∷ [])
      ∙ elim (cases_eq c (suc k)) [
        | inl last ↦
            ap (λ (r : Option ℕ). option_or r (find p (node_of o x (suc k) ∷ [])))
            (none_first k (λ d a b. not_so d a (omega (arith, last, b))))
            ∙ ap (λ (b : Bool). if b then Some (node_of o x (suc k)) else None) (ap (λ (z : ℕ). p (node_of o x z)) (sym last) ∙ so)
            ∙ ap (λ (z : ℕ). Some (node_of o x z)) (sym last)
        | inr ne ↦ ap (λ (r : Option ℕ). option_or r (find p (node_of o x (suc k) ∷ [])))
            (found_first k c l (omega (arith, ne, m)) so not_so)
      ]

  -- what is found has the name
  found_named : (k n : ℕ) → k ≤ span o → find p (first_nodes o x k) ≡ Some n → name_in o n ≡ x
  found_named zero n l e = absurd (cc e)
  found_named (suc k) n l e = go (find p (first_nodes o x k)) refl
      (sym (find-append p (first_nodes o x k) (node_of o x (suc k) ∷ [])) ∙ e) (found_named k n (omega (arith, l)))
    where
      last : (b : Bool) → (if b then Some (node_of o x (suc k)) else None) ≡ Some n → name_in o n ≡ x
      last true f =
          let same : node_of o x (suc k) ≡ n = cc f in
          ap (name_in o) (sym same) ∙ name-node o x (suc k) (record { first = omega arith; last = l })
      last false f = absurd (cc f)

      go : (r : Option ℕ) → find p (first_nodes o x k) ≡ r
          → option_or r (if p (node_of o x (suc k)) then Some (node_of o x (suc k)) else None) ≡ Some n
          → (find p (first_nodes o x k) ≡ Some n → name_in o n ≡ x) → name_in o n ≡ x
      go (Some m) q f more = more (q ∙ f)
      go None q f more = last (p (node_of o x (suc k))) f

-- whether a list is empty doesn't depend on how its letters are seen
pub is_nil-map : (ls : List Letter) → is_nil (map letter_of ls) ≡ is_nil ls
is_nil-map [] = refl
is_nil-map (l ∷ ls) = refl

-- where a letter waits, one is the oldest
pub has_front : (ls : List Letter) → is_nil ls ≡ false → None ≡ slice_get ls 0 → ⊥
has_front [] waiting none = cc
has_front (l ∷ ls) waiting none = cc

-- the text of a node's name is its own
text_of-name : (n : ℕ) → text_in (name_of n) ≡ text_in n
text_of-name n = text_in-first_node (text_in n)

-- older nodes of a name are before younger ones
less_node : (t c d : ℕ) → 1 ≤ d → d < c → first_node t + (d - 1) < first_node t + (c - 1)
less_node t c d l m = omega (arith, l, m)

module _ (h : WorldState) (whole : IsWhole h) (left : HaveLeft (nodes_of h) h.links.departed) where
  stand : NodesStand (names_of h) (named h)
  stand = subst (λ (v : NamedWorld). NodesStand (names_of h) v) (sym whole.reached)
      (nodes_always_stand (names_of h) whole.events)

  -- whether a letter waits for a node that has started
  pub waits_as : (f t : ℕ) → with_older (nodes_of h) t ≡ true
      → is_nil ((seen h).links.queue f t) ≡ is_nil ((links_of h.links).queue f t)
  waits_as f t e = ap (λ (b : Bool). is_nil (if b then map letter_of ((links_of h.links).queue f t)
      else down_of (opening_of h) (nodes_of h) (with_older h.links.departed f) t)) e
      ∙ is_nil-map ((links_of h.links).queue f t)

  -- a letter waits for a running node at present, and of one that has started
  pub waits_well : (f t : ℕ) → is_nil ((links_of h.links).queue f t) ≡ false
      → (with_older (nodes_of h) f ≡ true) × (with_older h.links.departed t ≡ false)
  waits_well f t e = (from (with_older (nodes_of h) f) refl, to (with_older h.links.departed t) refl)
    where
      from : (b : Bool) → with_older (nodes_of h) f ≡ b → b ≡ true
      from true q = refl
      from false q = absurd (cc (
        ap (λ (ls : List Letter). is_nil ls) (whole.fit.known f t (ap (λ (b : Bool). b && set_of (nodes_of h) t) q)),
        e,
      ))

      to : (b : Bool) → with_older h.links.departed t ≡ b → b ≡ false
      to false q = refl
      to true q = absurd (cc (
        ap (λ (ls : List Letter). is_nil ls) (whole.fit.quiet f t (ap (λ (s : ℕ → Bool). s t) (closed_is h.links) ∙ q)),
        e,
      ))

  -- why a delivery between these nodes is refused
  delivery_is : (x y s t : ℕ) → sender_to (names_of h) (named h) x y ≡ s → present_node (names_of h) (named h) y ≡ t
      → named_refusal (names_of h) (named h) (NamedEvent.Deliver x y)
      ≡ gate true (has_started (names_of h) (named h) s) (in_world (opening_of h) t) (in_world (opening_of h) s)
      (with_older h.links.departed t) (if is_nil ((seen h).links.queue s t) then Some AnyRefusal.EmptyLink else None)
  delivery_is x y s t e f =
      ap (λ (a : ℕ). plain_refusal (names_of h) (named h) (AnyWorldEvent.Deliver a (present_node (names_of h) (named h) y))) e
      ∙ ap (λ (b : ℕ). plain_refusal (names_of h) (named h) (AnyWorldEvent.Deliver s b)) f

  -- between nodes that have started
  delivery_up : (x y s t : ℕ) → sender_to (names_of h) (named h) x y ≡ s → present_node (names_of h) (named h) y ≡ t
      → with_older (nodes_of h) s ≡ true → with_older (nodes_of h) t ≡ true
      → named_refusal (names_of h) (named h) (NamedEvent.Deliver x y)
      ≡ option_map Plain (if with_older h.links.departed t then Some AnyRefusal.NodeLeft
      else (if is_nil ((links_of h.links).queue s t) then Some AnyRefusal.EmptyLink else None))
  delivery_up x y s t e f from to = delivery_is x y s t e f
      ∙ gate_up true (has_started (names_of h) (named h) s) (in_world (opening_of h) t) (in_world (opening_of h) s)
      (with_older h.links.departed t) (if is_nil ((seen h).links.queue s t) then Some AnyRefusal.EmptyLink else None)
      refl (started_of h left s from).0 (started_of h left t to).1 (started_of h left s from).1
      ∙ ap (λ (b : Bool). option_map Plain (if with_older h.links.departed t then Some AnyRefusal.NodeLeft
      else (if b then Some AnyRefusal.EmptyLink else None))) (waits_as s t to)

  module _ (x y t : ℕ) (here : set_of (nodes_of h) t ≡ true) (at : name_of t ≡ y) where
    pub receiver_is : present_node (names_of h) (named h) (text_in y) ≡ t
    receiver_is = present_of h left.one t y here
        (at ∙ sym (ap name_of (sym at) ∙ name_of-first (name_of t) (is_first t) ∙ at))
      where
        is_first : (n : ℕ) → IsFirst (name_of n)
        is_first n = omega arith

    -- the letters that wait for the receiver
    abbrev waiting : ℕ → Bool
    waiting n = not (is_nil ((seen h).links.queue n t))

    abbrev sender_of : ℕ → Option ℕ
    sender_of z = find waiting (first_nodes (names_of h) z (present_in (nodes_of h) z))

    sender_by : sender_to (names_of h) (named h) (text_in x) (text_in y)
        ≡ or_present (names_of h) (named h) (text_in x) (sender_of (text_in x))
    sender_by = ap (λ (z : ℕ). or_present (names_of h) (named h) (text_in x)
        (find (λ n. not (is_nil ((seen h).links.queue n z)))
        (first_nodes (names_of h) (text_in x) (present_in (nodes_of h) (text_in x)))))
        receiver_is

    -- the oldest letter by name is that of the oldest node of which one waits
    module _ (f : ℕ) (known : with_older (nodes_of h) f ≡ true) (first : IsFirstSender x t (Some f) (links_of h.links)) where
      same_text : text_in x ≡ text_in f
      same_text = ap text_in (sym first.0) ∙ text_of-name f

      before : (d : ℕ) → 1 ≤ d → d < creation_of f → waiting (node_of (names_of h) (text_in f) d) ≡ false
      before d l m = ap not (waits_as g t (held (nodes_of h) t here)
          ∙ ap (λ (ls : List Letter). is_nil ls) (first.2 g (named_so ∙ first.0) less))
        where
          g : ℕ
          g = first_node (text_in f) + (d - 1)

          named_so : name_of g ≡ name_of f
          named_so = name_of-packed (text_in f) (d - 1) (omega (arith, l, m))

          less : g < f
          less = subst (λ (n : ℕ). g < n) (sym (of_both f)) (less_node (text_in f) (creation_of f) d l m)

      pub sender_is : sender_to (names_of h) (named h) (text_in x) (text_in y) ≡ f
      sender_is = sender_by
          ∙ ap (λ (z : ℕ). or_present (names_of h) (named h) z (sender_of z)) same_text
          ∙ ap (or_present (names_of h) (named h) (text_in f))
          (found_first (names_of h) waiting (text_in f) (present_in (nodes_of h) (text_in f)) (creation_of f) (omega arith)
          (started_to (names_of h) (named h) f (started_of h left f known).0)
          (ap waiting (sym (of_both f)) ∙ ap not (waits_as f t (held (nodes_of h) t here) ∙ first.1)) before)
          ∙ sym (of_both f)

      -- so it is accepted
      pub delivers : named_refusal (names_of h) (named h) (NamedEvent.Deliver (text_in x) (text_in y)) ≡ None
      delivers = delivery_up (text_in x) (text_in y) f t sender_is receiver_is known (held (nodes_of h) t here)
          ∙ ap (λ (b : Bool). option_map Plain (if b then Some AnyRefusal.NodeLeft
          else (if is_nil ((links_of h.links).queue f t) then Some AnyRefusal.EmptyLink else None))) (waits_well f t first.1).1
          ∙ ap (λ (b : Bool). option_map Plain (if b then Some AnyRefusal.EmptyLink else None)) first.1

    pub admitted_by : (p f : ℕ) → place t (nodes_of h) ≡ Some p → IsFirstSender x t (Some f) (links_of h.links)
        → IsAdmitted p (Deliver x y) h
    admitted_by p f there first = record {
      node = t;
      place = there;
      own = at;
      accepted = delivers f (waits_well f t first.1).0 first;
    }

    -- where no letter waits for it of the name of a node at present
    module _ (s : ℕ) (sends : set_of (nodes_of h) s ≡ true) (is : name_of s ≡ x)
        (none : IsFirstSender x t None (links_of h.links)) where
      nobody : (d : ℕ) → 1 ≤ d → d ≤ present_in (nodes_of h) (text_in s) → waiting (node_of (names_of h) (text_in s) d) ≡ false
      nobody d l m = ap not (waits_as g t (held (nodes_of h) t here)
          ∙ ap (λ (ls : List Letter). is_nil ls) (none g (named_so ∙ is)))
        where
          g : ℕ
          g = first_node (text_in s) + (d - 1)

          now : present_in (nodes_of h) (text_in s) ≡ creation_of s
          now = present_is (nodes_of h) s left.one sends

          named_so : name_of g ≡ name_of s
          named_so = name_of-packed (text_in s) (d - 1) (omega (arith, l, m, now))

      last_sender : sender_to (names_of h) (named h) (text_in x) (text_in y) ≡ s
      last_sender = sender_by
          ∙ ap (λ (z : ℕ). or_present (names_of h) (named h) z (sender_of z)) (ap text_in (sym is) ∙ text_of-name s)
          ∙ ap (or_present (names_of h) (named h) (text_in s))
          (none_first (names_of h) waiting (text_in s) (present_in (nodes_of h) (text_in s)) nobody)
          ∙ present_of h left.one s s sends refl

      empty_by : (b : Bool) → with_older h.links.departed t ≡ b
          → named_refusal (names_of h) (named h) (NamedEvent.Deliver (text_in x) (text_in y))
          ≡ option_map Plain (if b then Some AnyRefusal.NodeLeft else Some AnyRefusal.EmptyLink)
      empty_by b e = delivery_up (text_in x) (text_in y) s t last_sender receiver_is (held (nodes_of h) s sends)
          (held (nodes_of h) t here)
          ∙ ap (λ (d : Bool). option_map Plain (if d then Some AnyRefusal.NodeLeft
          else (if is_nil ((links_of h.links).queue s t) then Some AnyRefusal.EmptyLink else None))) e
          ∙ ap (λ (ls : List Letter). option_map Plain (if b then Some AnyRefusal.NodeLeft
          else (if is_nil ls then Some AnyRefusal.EmptyLink else None))) (none s is)

      -- its node has left, or the link is empty
      pub refuses_left : with_older h.links.departed t ≡ true → RefusedWith NodeLeft (Deliver x y) h
      refuses_left e = empty_by true e

      pub refuses_empty : with_older h.links.departed t ≡ false → RefusedWith EmptyLink (Deliver x y) h
      refuses_empty e = empty_by false e

  -- a node of another name is none of the world
  outside : (x n : ℕ) → IsFirst x → names_in (nodes_of h) x ≡ false → name_in (names_of h) n ≡ text_in x
      → in_world (opening_of h) n ≡ false
  outside x n first strange e = inside-name (names_of h) n
      ∙ ap (λ (z : ℕ). nat_lt z (names_of h).bound && (names_of h).names z) e
      ∙ known_is (nodes_of h) h.cluster x ∙ ap (names_in (nodes_of h)) (name_of-first x first) ∙ strange

  -- its sender is none
  pub refuses_sender : (x y : ℕ) → IsFirst x → names_in (nodes_of h) x ≡ false → RefusedWith NoSuchNode (Deliver x y) h
  refuses_sender x y first strange = gate_contact true (has_started (names_of h) (named h) sender)
      (in_world (opening_of h) (present_node (names_of h) (named h) (text_in y))) (in_world (opening_of h) sender)
      (with_older h.links.departed (present_node (names_of h) (named h) (text_in y)))
      (if is_nil ((seen h).links.queue sender (present_node (names_of h) (named h) (text_in y)))
      then Some AnyRefusal.EmptyLink
      else None)
      (ap (λ (b : Bool). has_started (names_of h) (named h) sender && b) (outside x sender first strange (by oldest refl))
      ∙ none (has_started (names_of h) (named h) sender))
    where
      oldest : Option ℕ
      oldest = find (λ n. not (is_nil ((seen h).links.queue n (present_node (names_of h) (named h) (text_in y)))))
          (first_nodes (names_of h) (text_in x) (present_in (nodes_of h) (text_in x)))

      sender : ℕ
      sender = or_present (names_of h) (named h) (text_in x) oldest

      none : (b : Bool) → (b && false) ≡ false
      none true = refl
      none false = refl

      by : (r : Option ℕ) → oldest ≡ r → name_in (names_of h) (or_present (names_of h) (named h) (text_in x) r) ≡ text_in x
      by None e = name-node (names_of h) (text_in x) (present_in (nodes_of h) (text_in x)) (stand.present (text_in x))
      by (Some n) e = found_named (names_of h)
          (λ n. not (is_nil ((seen h).links.queue n (present_node (names_of h) (named h) (text_in y))))) (text_in x)
          (present_in (nodes_of h) (text_in x)) n (stand.present (text_in x)).last e

  -- its receiver is none
  pub refuses_receiver : (x y : ℕ) → IsFirst y → names_in (nodes_of h) y ≡ false → RefusedWith NoSuchNode (Deliver x y) h
  refuses_receiver x y first strange = go (has_started (names_of h) (named h) sender) (in_world (opening_of h) receiver)
      (outside y receiver first strange
      (name-node (names_of h) (text_in y) (present_in (nodes_of h) (text_in y)) (stand.present (text_in y))))
    where
      receiver : ℕ
      receiver = present_node (names_of h) (named h) (text_in y)

      sender : ℕ
      sender = sender_to (names_of h) (named h) (text_in x) (text_in y)

      go : (b d : Bool) → d ≡ false → gate true b d (in_world (opening_of h) sender) (with_older h.links.departed receiver)
          (if is_nil ((seen h).links.queue sender receiver) then Some AnyRefusal.EmptyLink else None)
          ≡ Some (Plain AnyRefusal.NoSuchNode)
      go b d e = gate_stranger true b d (in_world (opening_of h) sender) (with_older h.links.departed receiver)
          (if is_nil ((seen h).links.queue sender receiver) then Some AnyRefusal.EmptyLink else None) e

-- The node at a place reads, and has the name that a delivery gives; what is held is seen as v and as h
module _ (v h : WorldState) (same : v ≡ h) (whole : IsWhole v) (x y p : ℕ)
    (seat : (n : ℕ) × (place n (nodes_of h) ≡ Some p) × (name_of n ≡ y)) (core : CoreState) (is : core ≡ get_or v.cores p core)
    (t : ℕ) (named_as : t ≡ core.name) where
  whole_too : IsWhole h
  whole_too = subst IsWhole same whole

  reader_is : t ≡ seat.0
  reader_is = named_as
      ∙ named_so h whole_too seat.0 p core seat.1 (subst (λ (k : WorldState). core ≡ get_or k.cores p core) same is)

  present_too : set_of (nodes_of h) t ≡ true
  present_too = ap (set_of (nodes_of h)) reader_is ∙ known_place (nodes_of h) seat.0 p seat.1

  reads_as : name_of t ≡ y
  reads_as = ap name_of reader_is ∙ seat.2

  links_too : (r : Option ℕ) → IsFirstSender x t r (links_of v.links) → IsFirstSender x t r (links_of h.links)
  links_too r = subst (λ (k : WorldState). IsFirstSender x t r (links_of k.links)) same

  reads_there : place t (nodes_of h) ≡ Some p
  reads_there = ap (λ (m : ℕ). place m (nodes_of h)) reader_is ∙ seat.1

  pub reads_between : (k : LinkPlace) → k.receiver ≡ p → (s : ℕ) × (place s (nodes_of h) ≡ Some k.sender) × (name_of s ≡ x)
      → IsBetween k x t (nodes_of v)
  reads_between k at sends = subst (λ (m : WorldState). IsBetween k x t (nodes_of m)) (sym same)
      (record { sender = sends; receiver = reads_there ∙ ap Some (sym at) })

  module _ (left : HaveLeft (nodes_of h) h.links.departed) where
    -- where a letter waits for it, it may be delivered
    module _ (d : Delivery) (at : d.link.receiver ≡ p) (to : d.receiver ≡ t)
        (sends : (s : ℕ) × (place s (nodes_of h) ≡ Some d.link.sender) × (name_of s ≡ x))
        (first : IsFirstSender x t (Some d.sender) (links_of v.links)) where
      there_too : place d.receiver (nodes_of h) ≡ Some d.link.receiver
      there_too = ap (λ (m : ℕ). place m (nodes_of h)) to ∙ reads_there ∙ ap Some (sym at)

      its_first : IsFirstSender (name_of d.sender) d.receiver (Some d.sender) (links_of h.links)
      its_first = subst (λ (m : ℕ). IsFirstSender (name_of d.sender) m (Some d.sender) (links_of h.links)) (sym to)
          (subst (λ (z : ℕ). IsFirstSender z t (Some d.sender) (links_of h.links)) (sym first.0) (links_too (Some d.sender) first))

      pub ready_found : IsReady d h
      ready_found = record {
        link = record { sender = (sends.0, sends.1, sends.2 ∙ sym first.0); receiver = there_too };
        first = its_first;
        admitted = admitted_by h whole_too left (name_of d.sender) (name_of d.receiver) d.receiver
            (known_place (nodes_of h) d.receiver d.link.receiver there_too) refl d.link.receiver d.sender there_too its_first;
      }

      pub same_event : delivered_by d ≡ Deliver x y
      same_event = ap (λ (z : ℕ). Deliver z (name_of d.receiver)) first.0
          ∙ ap (λ (z : ℕ). Deliver x z) (ap name_of to ∙ reads_as)

    -- and otherwise refused, where its sender's name has a node
    module _ (q : ℕ) (sends : (s : ℕ) × (place s (nodes_of h) ≡ Some q) × (name_of s ≡ x)) (r : Option ℕ)
        (first : IsFirstSender x t r (links_of v.links)) (nothing : r ≡ None) where
      nobody_sends : IsFirstSender x t None (links_of h.links)
      nobody_sends = subst (λ (o : Option ℕ). IsFirstSender x t o (links_of h.links)) nothing (links_too r first)

      gone_too : (b : Bool) → (links_of v.links).closed t ≡ b → with_older h.links.departed t ≡ b
      gone_too b e = ap (λ (k : WorldState). with_older k.links.departed t) (sym same)
          ∙ ap (λ (s : ℕ → Bool). s t) (sym (closed_is v.links)) ∙ e

      pub refuses_found_left : (links_of v.links).closed t ≡ true → RefusedWith NodeLeft (Deliver x y) h
      refuses_found_left e = refuses_left h whole_too left x y t present_too reads_as sends.0
          (known_place (nodes_of h) sends.0 q sends.1) sends.2 nobody_sends (gone_too true e)

      pub refuses_found_empty : (links_of v.links).closed t ≡ false → RefusedWith EmptyLink (Deliver x y) h
      refuses_found_empty e = refuses_empty h whole_too left x y t present_too reads_as sends.0
          (known_place (nodes_of h) sends.0 q sends.1) sends.2 nobody_sends (gone_too false e)
