-- Why a name does not come back: it is unknown, runs, a running node was not told, or no creation is left.
use Rattle.std.proofs.Common.{ℕ, zero, suc, Bool, true, false, ◌≡◌, ◌<◌, ◌≤◌, ◌+◌, Option, Some, None, List, [], ◌∷◌, length, get_or, refl, sym, ap, subst, ◌∙◌, arith, inl, inr}
use Rattle.std.specs.Prelude.{Contains, MatchOption}
use Rattle.std.proofs.lemmas.Bool.{cases_lt}
use Rattle.std.proofs.lemmas.List.{length-map, get_or_default}
use Rattle.std.proofs.lemmas.List.Elements.{Contains-get_or}
use Rattle.registry_model.specs.Process.{Nodes}
use Rattle.protocol_model.specs.Node.{Node}
use Rattle.protocol_model.specs.Event.{NoSuchNode}
use Rattle.getting_through.specs.NodeNames.{is_name}
use Rattle.getting_through.specs.NamedWorld.{NamedWorld, Plain, StillRunning, NotToldYet, CreationsSpent, Restart, present_node, named_refusal}
use Rattle.getting_through.specs.Restarts.{IsUp, HasGone, AllAreTold, NodesStand, RestartSaysWhy}
use Rattle.getting_through.proofs.Always.{nodes_always_stand}
use Rattle.getting_through.proofs.Refusing.{restarts_say_why}
use Rattle.term.specs.Nodes.{IsFirst, text_in, name_of, creation_of, last_creation}
use Rattle.term.specs.NodeSets.{set_of, names_in, with_older}
use Rattle.term.proofs.Numbers.{name_of-first}
use Rattle.term.proofs.NodePlaces.{place-Some}
use Rattle.term.proofs.NodeSets.{rises}
use Rattle.term.proofs.Older.{held}
use Rattle.link.specs.MeshState.{place}
use Rattle.link.proofs.Places.{place-get_or}
use Rattle.node_core.specs.CoreState.{CoreState, HaveLeft}
use Rattle.node_core.specs.Seen.{node_of}
use Rattle.cluster_world.specs.WorldState.{WorldState, nodes_of}
use Rattle.cluster_world.specs.Mail.{links_of}
use Rattle.cluster_world.specs.Openings.{present_in}
use Rattle.cluster_world.specs.Restarting.{IsFirstUntold}
use Rattle.cluster_world.specs.Seen.{names_of, seen, named}
use Rattle.cluster_world.specs.Whole.{IsWhole}
use Rattle.cluster_world.proofs.Cores.{name_at}
use Rattle.cluster_world.proofs.Listed.{known_place, no_place}
use Rattle.cluster_world.proofs.Naming.{known_is, present_is, present_of, up_from, up_to, has_name}
use Rattle.cluster_world.proofs.Posting.{closed_is}
use Rattle.cluster_world.proofs.Steps.{core_name, node_is, named_so}

-- a name and its nodes have one text
pub text_of_name : (a x : ℕ) → name_of a ≡ x → text_in x ≡ text_in a
text_of_name a x e = let n : name_of a ≡ x = e in omega (arith, n)

-- what stands at a place
item_at : (cs : List CoreState) (k : ℕ) → k < length cs → (c : CoreState) × (get_or cs k c ≡ c)
item_at [] k l = absurd (omega arith)
item_at (c ∷ cs) zero l = (c, refl)
item_at (c ∷ cs) (suc k) l = let r : (d : CoreState) × (get_or cs k d ≡ d) = item_at cs k (omega arith) in (r.0, r.1)

-- what is not false is true
was_told : (b : Bool) → (b ≡ false → ⊥) → b ≡ true
was_told true f = refl
was_told false f = absurd (f refl)

module _ (h : WorldState) (whole : IsWhole h) where
  -- what the laws of named nodes say of it
  pub stands : NodesStand (names_of h) (named h)
  stands = subst (NodesStand (names_of h)) (sym whole.reached) (nodes_always_stand (names_of h) whole.events)

  pub says_why : (x : ℕ) → RestartSaysWhy (names_of h) (named h) x
  says_why x = subst (λ (v : NamedWorld). RestartSaysWhy (names_of h) v x) (sym whole.reached)
      (restarts_say_why (names_of h) whole.events x)

  -- the place of a core is that of its node
  pub core_place : (k : ℕ) (d : CoreState) → k < length h.cores → place (get_or h.cores k d).name (nodes_of h) ≡ Some k
  core_place k d l = ap (λ (a : ℕ). place a (nodes_of h))
      (name_at core_name h.cores k d l ∙ ap (λ (ns : List ℕ). get_or ns k 0) whole.names)
      ∙ place-get_or (nodes_of h) k whole.set.rising
      (omega (arith, l, ap (λ (ns : List ℕ). length ns) whole.names, length-map h.cores core_name))

  pub core_known : (k : ℕ) (d : CoreState) → k < length h.cores → set_of (nodes_of h) (get_or h.cores k d).name ≡ true
  core_known k d l = known_place (nodes_of h) (get_or h.cores k d).name k (core_place k d l)

  -- the core at a place, as the protocol's node
  pub core_seen : (k : ℕ) (d : CoreState) → k < length h.cores → (seen h).node (get_or h.cores k d).name ≡ node_of (get_or h.cores k d)
  core_seen k d l = node_is h whole (get_or h.cores k d).name k (get_or h.cores k d) (core_place k d l)
      (get_or_default h.cores k d (get_or h.cores k d) l)

  pub contained_seen : (c : CoreState) → Contains h.cores c → (seen h).node c.name ≡ node_of c
  contained_seen c i = subst (λ (d : CoreState). (seen h).node d.name ≡ node_of d) i.2 (core_seen i.0 c i.1)

  pub contained_known : (c : CoreState) → Contains h.cores c → set_of (nodes_of h) c.name ≡ true
  contained_known c i = subst (λ (d : CoreState). set_of (nodes_of h) d.name ≡ true) i.2 (core_known i.0 c i.1)

  -- each node at present has a core
  pub core_there : (a : ℕ) → set_of (nodes_of h) a ≡ true → (c : CoreState) × Contains h.cores c × (c.name ≡ a)
  core_there a e = go (place a (nodes_of h)) refl
    where
      go : (p : Option ℕ) → place a (nodes_of h) ≡ p → (c : CoreState) × Contains h.cores c × (c.name ≡ a)
      go None f = absurd (cc (e, no_place (nodes_of h) a f))
      go (Some k) f =
          let at_place : (k < length (nodes_of h)) × (get_or (nodes_of h) k 0 ≡ a) = place-Some a (nodes_of h) k f in
          let l : k < length h.cores =
          omega (arith, at_place.0, ap (λ (ns : List ℕ). length ns) whole.names, length-map h.cores core_name) in
          let d : (c : CoreState) × (get_or h.cores k c ≡ c) = item_at h.cores k l in (
            d.0,
            subst (Contains h.cores) d.1 (Contains-get_or h.cores k d.0 l),
            ap core_name (sym d.1) ∙ name_at core_name h.cores k d.0 l ∙ ap (λ (ns : List ℕ). get_or ns k 0) whole.names ∙ at_place.1,
          )

  module _ (went : HaveLeft (nodes_of h) h.links.departed) where
    -- a running core is that of a node that is up
    pub core_up : (c : CoreState) → Contains h.cores c → with_older h.links.departed c.name ≡ false → IsUp (names_of h) (named h) c.name
    core_up c i stays = up_from h went.one c.name (contained_known c i) stays

    module _ (a x : ℕ) (known : set_of (nodes_of h) a ≡ true) (same : name_of a ≡ x) where
      pub present_here : present_node (names_of h) (named h) (text_in x) ≡ a
      present_here = ap (present_node (names_of h) (named h)) (text_of_name a x same) ∙ present_of h went.one a a known refl

      is_known : is_name (names_of h) (text_in x) ≡ true
      is_known = ap (is_name (names_of h)) (text_of_name a x same) ∙ known_is (nodes_of h) h.cluster a
          ∙ has_name (nodes_of h) a (held (nodes_of h) a known)

      -- the present creation of the name
      pub now_is : (named h).present (text_in x) ≡ creation_of a
      now_is = ap (present_in (nodes_of h)) (text_of_name a x same) ∙ present_is (nodes_of h) a went.one known

      -- it runs
      pub still_running : with_older h.links.departed a ≡ false
          → named_refusal (names_of h) (named h) (Restart (text_in x)) ≡ Some StillRunning
      still_running stays = (says_why (text_in x)).still_running.1
          (is_known, ap (with_older h.links.departed) present_here ∙ stays)

      gone_is : with_older h.links.departed a ≡ true → HasGone (names_of h) (named h) (text_in x)
      gone_is gone = record { known = is_known; gone = ap (with_older h.links.departed) present_here ∙ gone }

      -- what a running core was told of it
      pub told_is : (c : CoreState) → Contains h.cores c
          → ((named h).world.node c.name).replica.told (present_node (names_of h) (named h) (text_in x)) ≡ with_older c.told a
      told_is c i = ap (λ (v : Node). v.replica.told (present_node (names_of h) (named h) (text_in x))) (contained_seen c i)
          ∙ ap (with_older c.told) present_here

      -- some running node wasn't told
      pub not_told_yet : (n : ℕ) → with_older h.links.departed a ≡ true → IsFirstUntold a h (Some n)
          → named_refusal (names_of h) (named h) (Restart (text_in x)) ≡ Some (NotToldYet n)
      not_told_yet n gone least = ((says_why (text_in x)).not_told n).1 (
        gone_is gone,
        record {
          up = subst (IsUp (names_of h) (named h)) least.2 (core_up least.0 least.1 least.3.0);
          untold = subst (λ (m : ℕ). ((named h).world.node m).replica.told (present_node (names_of h) (named h) (text_in x)) ≡ false)
              least.2 (told_is least.0 least.1 ∙ least.3.1);
          least = λ c up l. told_below c up l;
        },
      )
        where
          told_below : (c : ℕ) → IsUp (names_of h) (named h) c → c < n
              → ((named h).world.node c).replica.told (present_node (names_of h) (named h) (text_in x)) ≡ true
          told_below c up l =
              let there : (d : CoreState) × Contains h.cores d × (d.name ≡ c) = core_there c (up_to h went.one went c up).0 in
              subst (λ (m : ℕ). ((named h).world.node m).replica.told (present_node (names_of h) (named h) (text_in x)) ≡ true)
              there.2 (told_is there.0 there.1
              ∙ was_told (with_older there.0.told a) (λ e. least.4 there.0 there.1 (let k : there.0.name ≡ c = there.2 in omega (arith, k, l))
              (ap (with_older h.links.departed) there.2 ∙ up.stays, e)))

      all_told : IsFirstUntold a h None → AllAreTold (names_of h) (named h) (text_in x)
      all_told none c up =
          let there : (d : CoreState) × Contains h.cores d × (d.name ≡ c) = core_there c (up_to h went.one went c up).0 in
          subst (λ (m : ℕ). ((named h).world.node m).replica.told (present_node (names_of h) (named h) (text_in x)) ≡ true)
          there.2 (told_is there.0 there.1 ∙ was_told (with_older there.0.told a)
          (λ e. none there.0 there.1 (ap (with_older h.links.departed) there.2 ∙ up.stays, e)))

      -- no creation is left, or one is
      pub spent : with_older h.links.departed a ≡ true → IsFirstUntold a h None → creation_of a ≡ last_creation
          → named_refusal (names_of h) (named h) (Restart (text_in x)) ≡ Some CreationsSpent
      spent gone none last = (says_why (text_in x)).spent.1 (gone_is gone, all_told none, le (now_is ∙ last))
        where
          le : (named h).present (text_in x) ≡ 4294967295 → 4294967295 ≤ (named h).present (text_in x)
          le e = omega (arith, e)

      pub may_come_back : with_older h.links.departed a ≡ true → IsFirstUntold a h None → creation_of a < last_creation
          → named_refusal (names_of h) (named h) (Restart (text_in x)) ≡ None
      may_come_back gone none less = (says_why (text_in x)).accepted.1 (gone_is gone, all_told none, lt now_is)
        where
          lt : (named h).present (text_in x) ≡ creation_of a → (named h).present (text_in x) < 4294967295
          lt e = let c : creation_of a < 4294967295 = less in omega (arith, e, c)

module _ (h : WorldState) (whole : IsWhole h) where
  -- the world has no such name
  pub no_such_name : (x : ℕ) → IsFirst x → names_in (nodes_of h) x ≡ false
      → named_refusal (names_of h) (named h) (Restart (text_in x)) ≡ Some (Plain NoSuchNode)
  no_such_name x first none = (says_why h whole (text_in x)).no_such_node.1
      (known_is (nodes_of h) h.cluster x ∙ ap (names_in (nodes_of h)) (name_of-first x first) ∙ none)

  module _ (went : HaveLeft (nodes_of h) h.links.departed) (a x p n : ℕ) (there : place a (nodes_of h) ≡ Some p)
      (same : name_of a ≡ x) (core : CoreState) (is : core ≡ get_or h.cores p core) (named_n : n ≡ core.name) where
    -- the core at the place is that of the name's node
    pub is_node : n ≡ a
    is_node = named_n ∙ named_so h whole a p core there is

    known_there : set_of (nodes_of h) a ≡ true
    known_there = known_place (nodes_of h) a p there

    went_is : (b : Bool) → b ≡ (links_of h.links).closed n → with_older h.links.departed a ≡ b
    went_is b e = sym (e ∙ ap (λ (s : Nodes). s n) (closed_is h.links) ∙ ap (with_older h.links.departed) is_node)

    pub refuses_running : (b : Bool) → b ≡ (links_of h.links).closed n → b ≡ false
        → named_refusal (names_of h) (named h) (Restart (text_in x)) ≡ Some StillRunning
    refuses_running b e f = still_running h whole went a x known_there same (went_is b e ∙ f)

    pub refuses_untold : (b : Bool) (m : ℕ) → b ≡ (links_of h.links).closed n → b ≡ true → IsFirstUntold n h (Some m)
        → named_refusal (names_of h) (named h) (Restart (text_in x)) ≡ Some (NotToldYet m)
    refuses_untold b m e f least = not_told_yet h whole went a x known_there same m (went_is b e ∙ f)
        (subst (λ (k : ℕ). IsFirstUntold k h (Some m)) is_node least)

    pub refuses_spent : (b : Bool) → b ≡ (links_of h.links).closed n → b ≡ true → IsFirstUntold n h None
        → creation_of n ≡ last_creation → named_refusal (names_of h) (named h) (Restart (text_in x)) ≡ Some CreationsSpent
    refuses_spent b e f none last = spent h whole went a x known_there same (went_is b e ∙ f)
        (subst (λ (k : ℕ). IsFirstUntold k h None) is_node none) (ap creation_of (sym is_node) ∙ last)

    pub admits : (b : Bool) → b ≡ (links_of h.links).closed n → b ≡ true → IsFirstUntold n h None
        → creation_of n < last_creation → named_refusal (names_of h) (named h) (Restart (text_in x)) ≡ None
    admits b e f none less = may_come_back h whole went a x known_there same (went_is b e ∙ f)
        (subst (λ (k : ℕ). IsFirstUntold k h None) is_node none)
        (subst (λ (k : ℕ). creation_of k < last_creation) is_node less)

-- The first of the running cores that wasn't told, searched for
abbrev pub AllToldBefore : ℕ → List ℕ → ℕ → List CoreState → Type 0
AllToldBefore gone departed i cs = (k : ℕ) (d : CoreState) → k < i → with_older departed (get_or cs k d).name ≡ false
    → with_older (get_or cs k d).told gone ≡ false → ⊥

pub told_more : (gone : ℕ) (departed : List ℕ) (i : ℕ) (cs : List CoreState) (c : CoreState) → i < length cs → c ≡ get_or cs i c
    → AllToldBefore gone departed i cs → (with_older departed c.name ≡ false → with_older c.told gone ≡ false → ⊥)
    → AllToldBefore gone departed (i + 1) cs
told_more gone departed i cs c l is before here k d m up untold = elim (cases_lt k i) [
  | inl less ↦ before k d less up untold
  | inr more ↦
      let at_i : k ≡ i = omega (arith, m, more) in
      let same : get_or cs k d ≡ c = ap (λ (j : ℕ). get_or cs j d) at_i ∙ get_or_default cs i d c l ∙ sym is in
      here (ap (λ (e : CoreState). with_older departed e.name) (sym same) ∙ up) (ap (λ (e : CoreState). with_older e.told gone) (sym same) ∙ untold)
]

module _ (h : WorldState) (whole : IsWhole h) (gone : ℕ) where
  pub all_were_told : (i : ℕ) → length h.cores ≤ i → AllToldBefore gone h.links.departed i h.cores → IsFirstUntold gone h None
  all_were_told i le before = λ c at_c out. before at_c.0 c (omega (arith, le, at_c.1))
      (ap (λ (e : CoreState). with_older h.links.departed e.name) at_c.2 ∙ out.0)
      (ap (λ (e : CoreState). with_older e.told gone) at_c.2 ∙ out.1)

  pub first_is : (i : ℕ) (c : CoreState) (n : ℕ) → i < length h.cores → c ≡ get_or h.cores i c → n ≡ c.name
      → with_older h.links.departed c.name ≡ false → with_older c.told gone ≡ false
      → AllToldBefore gone h.links.departed i h.cores → IsFirstUntold gone h (Some n)
  first_is i c n l is named_n up untold before = (
    c,
    subst (Contains h.cores) (sym is) (Contains-get_or h.cores i c l),
    sym named_n,
    (up, untold),
    λ d at_d less out. elim (cases_lt at_d.0 i) [
      | inl front ↦ before at_d.0 d front (ap (λ (e : CoreState). with_older h.links.departed e.name) at_d.2 ∙ out.0)
          (ap (λ (e : CoreState). with_older e.told gone) at_d.2 ∙ out.1)
      | inr behind ↦ above at_d.0 d at_d.1 at_d.2 behind less
    ],
  )
    where
      name_of_place : (k : ℕ) (d : CoreState) → k < length h.cores → get_or (nodes_of h) k 0 ≡ (get_or h.cores k d).name
      name_of_place k d l = ap (λ (ns : List ℕ). get_or ns k 0) (sym whole.names) ∙ sym (name_at core_name h.cores k d l)

      long : length h.cores ≡ length (nodes_of h)
      long = sym (length-map h.cores core_name) ∙ ap (λ (ns : List ℕ). length ns) whole.names

      above : (k : ℕ) (d : CoreState) → k < length h.cores → get_or h.cores k d ≡ d → i ≤ k → d.name < n → ⊥
      above k d m e le less = elim (cases_lt i k) [
        | inl later ↦
            let up_there : get_or (nodes_of h) i 0 < get_or (nodes_of h) k 0 = rises (nodes_of h) i k whole.set.rising later (omega (arith, m, long)) in
            let here : get_or (nodes_of h) i 0 ≡ n = name_of_place i c l ∙ ap core_name (sym is) ∙ sym named_n in
            let that : get_or (nodes_of h) k 0 ≡ d.name = name_of_place k d m ∙ ap core_name e in
            omega (arith, up_there, here, that, less)
        | inr not_later ↦
            let at_i : k ≡ i = omega (arith, le, not_later) in
            let here : get_or (nodes_of h) i 0 ≡ n = name_of_place i c l ∙ ap core_name (sym is) ∙ sym named_n in
            let that : get_or (nodes_of h) k 0 ≡ d.name = name_of_place k d m ∙ ap core_name e in
            let same : get_or (nodes_of h) k 0 ≡ get_or (nodes_of h) i 0 = ap (λ (j : ℕ). get_or (nodes_of h) j 0) at_i in
            omega (arith, here, that, same, less)
      ]

-- a node at present has a place
pub placed : (nodes : List ℕ) (a x : ℕ) (p : Option ℕ) → p ≡ place a nodes → set_of nodes a ≡ true → name_of a ≡ x
    → MatchOption p (names_in nodes x ≡ false) (λ k. (n : ℕ) × (place n nodes ≡ Some k) × (name_of n ≡ x))
placed nodes a x None e known same = absurd (cc (known, no_place nodes a (sym e)))
placed nodes a x (Some k) e known same = (a, sym e, same)
