-- The world behind a restart.
use Rattle.std.proofs.Common.{ℕ, suc, Bool, true, false, ◌==◌, ◌≡◌, ◌<◌, ◌≤◌, ◌+◌, ◌-◌, ◌*◌, ◌⊎◌, Option, Some, None, List, [], ◌∷◌, ◌++◌, length, get_or, set, map, refl, sym, ap, subst, ◌∙◌, arith, inl, inr}
use Rattle.std.specs.Prelude.{if◌then◌else◌, ◌&&◌, ◌||◌, Contains, fold}
use Rattle.std.specs.List.{All, AllPairs}
use Rattle.std.specs.List.Sorted.{IsStrictlyIncreasing}
use Rattle.std.proofs.Math.Path.{fun_ext}
use Rattle.std.proofs.Math.Bool.{or-false}
use Rattle.std.proofs.lemmas.Bool.{cases_eq, eq-eqb, ne_eqb, eqb-true, false_from_ne_true}
use Rattle.std.proofs.lemmas.List.{length-map, length-set, get_or-map, get_or-set_same, map-set}
use Rattle.std.proofs.lemmas.List.Elements.{All-map, All-set, All-push, Contains-get_or}
use Rattle.std.proofs.lemmas.List.Folds.{find_past}
use Rattle.registry_model.specs.Process.{Nodes, at}
use Rattle.registry_model.specs.Table.{Table, changed, StrikeOwner}
use Rattle.registry_model.specs.Registry.{Registry, opening, with_table}
use Rattle.registry_model.specs.History.{Entry as AnyEntry, Told, effect, registry_of}
use Rattle.registry_model.specs.Call.{Joined, is_grant, change_of}
use Rattle.registry_model.proofs.Updates.{by_test}
use Rattle.protocol_model.specs.Letter.{Letter as AnyLetter}
use Rattle.protocol_model.specs.Links.{Links}
use Rattle.protocol_model.specs.Node.{Node}
use Rattle.protocol_model.specs.Event.{last_u32}
use Rattle.protocol_model.specs.World.{Opening, in_cluster}
use Rattle.getting_through.specs.NodeNames.{NamedOpening, opening_of as all_creations}
use Rattle.getting_through.specs.NamedWorld.{NamedWorld, Restart, next_node, named_refusal, happens_named, named_answers, after_events}
use Rattle.getting_through.specs.Restarts.{fresh_node, who_left, StartsAnew}
use Rattle.getting_through.proofs.NamedRuns.{after_events-push}
use Rattle.getting_through.proofs.Always.{always, restarts_start_anew}
use Rattle.getting_through.proofs.Standing.{Sound}
use Rattle.term.specs.Nodes.{text_in, name_of, creation_of, last_creation}
use Rattle.term.specs.NodeSets.{IsNodeSet, set_of, with_older, succeeded}
use Rattle.term.specs.declared.limits.TheConstants.{MOST_NODES}
use Rattle.term.proofs.ExactNodes.{rising-unique}
use Rattle.term.proofs.NodePlaces.{place-Some}
use Rattle.term.proofs.NodeSets.{set_of-with_node}
use Rattle.term.proofs.Older.{held}
use Rattle.term.proofs.Succeeded.{next_of}
use Rattle.link.specs.MeshState.{place}
use Rattle.link.proofs.Places.{place-get_or}
use Rattle.node_core.specs.declared.Letter.{Letter}
use Rattle.node_core.specs.CoreState.{CoreState, HaveLeft, IsNext, fresh_behind}
use Rattle.node_core.specs.Letters.{letter_of}
use Rattle.node_core.specs.Seen.{node_of}
use Rattle.world_history.specs.declared.entry.HistoryEntry.{HistoryEntry}
use Rattle.world_history.specs.Histories.{left_with, left_in, entries_of}
use Rattle.world_history.proofs.Departures.{left_rises}
use Rattle.world_history.proofs.Entries.{entered}
use Rattle.cluster_world.specs.Cores.{core_of}
use Rattle.cluster_world.specs.WorldState.{WorldState, nodes_of}
use Rattle.cluster_world.specs.Links.{AreFit}
use Rattle.cluster_world.specs.Mail.{Mailed, links_of}
use Rattle.cluster_world.specs.Openings.{named_opening, present_in}
use Rattle.cluster_world.specs.Restarting.{replaced_in, CanReplace}
use Rattle.cluster_world.specs.Seen.{names_of, opening_of, or_else, core_at, node_with, seen, named}
use Rattle.cluster_world.specs.Whole.{IsWhole}
use Rattle.cluster_world.proofs.Cores.{name_at, no_core, core_here}
use Rattle.cluster_world.proofs.Listed.{known_place}
use Rattle.cluster_world.proofs.Naming.{succeeded_names, succeeded_present}
use Rattle.cluster_world.proofs.Posting.{down_of, over, all_links-over, closed_is}
use Rattle.cluster_world.proofs.Steps.{core_name, named_by, named-is, node_is}
use Rattle.cluster_world.proofs.Untold.{text_of_name, says_why, core_up, present_here, now_is, told_is}
use Rattle.cluster_world.proofs.Succeeding.{set_contains, contains_set, set_placed, rising_still, name_kept, node_kept, world_kept, names_kept, found_kept, seen_kept, found_past, found_last, none_past, not_yet, not_started, there_now, away_now, others_now, started_still, older_same, fit_still}

-- the next node of a name
pub is_next : (a : ℕ) → creation_of a < last_creation → IsNext a (a + 1)
is_next a l = record { is = refl; named = (let c : creation_of a < 4294967295 = l in omega (arith, c)) }

-- the core of a node is one of the cores, and has its name
found_core : (a : ℕ) (cs : List CoreState) (c : CoreState) → Some c ≡ core_of a cs → Contains cs c × (c.name ≡ a)
found_core a [] c e = absurd (cc e)
found_core a (d ∷ ds) c e = go (d.name == a) refl e (found_core a ds c)
  where
    go : (b : Bool) → (d.name == a) ≡ b → Some c ≡ (if b then Some d else core_of a ds)
        → (Some c ≡ core_of a ds → Contains ds c × (c.name ≡ a)) → Contains (d ∷ ds) c × (c.name ≡ a)
    go true q f more =
        let same : c ≡ d = cc f in
        (subst (λ (x : CoreState). Contains (d ∷ ds) x) (sym same) (0, omega arith, refl), ap core_name same ∙ eqb-true d.name a q)
    go false q f more =
        let m : Contains ds c × (c.name ≡ a) = more f in
        ((suc m.0.0, (let l : m.0.0 < length ds = m.0.1 in omega arith), m.0.2), m.1)

-- where it runs, it knows the nodes at present
pub core_world : (h : WorldState) → IsWhole h → (a : ℕ) (c : CoreState) → Some c ≡ core_of a h.cores → with_older h.links.departed a ≡ false
    → c.world ≡ nodes_of h
core_world h whole a c e stays =
    let f : Contains h.cores c × (c.name ≡ a) = found_core a h.cores c e in
    subst (λ (d : CoreState). with_older h.links.departed d.name ≡ false → d.world ≡ nodes_of h) f.0.2
    (whole.worlds f.0.0 c f.0.1) (ap (with_older h.links.departed) f.1 ∙ stays)

-- one of two is true where the second is
or_true : (b : Bool) → (b || true) ≡ true
or_true true = refl
or_true false = refl

-- Who left by the entries of a history, as the registry has it
table_left : (n : ℕ) (f : Table → Table) (r : Registry) (c : ℕ) → (with_table n f r).left c ≡ r.left c
table_left n f r c = go (r.joined n)
  where
    go : (b : Bool) → (if b then record r { table = f r.table } else record r { lone = at r.lone n (f (r.lone n)) }).left c ≡ r.left c
    go true = refl
    go false = refl

left_step : (e : AnyEntry) (l : List ℕ) (r : Registry) → ((c : ℕ) → set_of l c ≡ r.left c) → (c : ℕ)
    → set_of (left_with l e) c ≡ (effect e r).left c
left_step (AnyEntry.Name n k call reply) l r same c = same c ∙ sym (go (is_grant reply))
  where
    go : (b : Bool) → (if b then with_table n (changed (change_of call)) r else r).left c ≡ r.left c
    go true = table_left n (changed (change_of call)) r c
    go false = refl
left_step (AnyEntry.Strike p) l r same c = same c ∙ sym (table_left p.node (changed (StrikeOwner p)) r c)
left_step (AnyEntry.Join j k m Joined) l r same c = same c
left_step (AnyEntry.Join j k m _) l r same c = same c
left_step (AnyEntry.Done n) l r same c = same c
left_step (AnyEntry.Exit p) l r same c = same c
left_step (AnyEntry.Left a) l r same c = set_of-with_node l a c ∙ by_test a
    (λ x t. (set_of l x || (a == x)) ≡ (if t then true else r.left x))
    (ap (λ (b : Bool). set_of l a || b) (eq-eqb a a refl) ∙ or_true (set_of l a))
    (λ x ne. ap (λ (b : Bool). set_of l x || b) (ne_eqb a x (λ e. ne (sym e))) ∙ or-false (set_of l x) ∙ same x)
    c
left_step (AnyEntry.Told n d) l r same c = same c
left_step (AnyEntry.Read n look reply) l r same c = same c

left_fold : (es : List AnyEntry) (l : List ℕ) (r : Registry) → ((c : ℕ) → set_of l c ≡ r.left c) → (c : ℕ)
    → set_of (fold left_with l es) c ≡ (fold (λ x e. effect e x) r es).left c
left_fold [] l r same c = same c
left_fold (e ∷ es) l r same c = left_fold es (left_with l e) (effect e r) (left_step e l r same) c

-- a list that rises pair by pair rises
rising_pairs : (xs : List ℕ) → AllPairs (λ c d. c < d) xs → IsStrictlyIncreasing xs
rising_pairs xs pairs = λ k l. pairs k (k + 1) 0 (omega arith) l

module _ (h : WorldState) (whole : IsWhole h) (went : HaveLeft (nodes_of h) h.links.departed) (a x p : ℕ)
    (there : place a (nodes_of h) ≡ Some p) (same : name_of a ≡ x)
    (accepted : named_refusal (names_of h) (named h) (Restart (text_in x)) ≡ None) where
  known : set_of (nodes_of h) a ≡ true
  known = known_place (nodes_of h) a p there

  -- it has left, and a creation is left
  pub gone_then : with_older h.links.departed a ≡ true
  gone_then = ap (with_older h.links.departed) (sym (present_here h whole went a x known same))
      ∙ ((says_why h whole (text_in x)).accepted.0 accepted).0.gone

  pub further : creation_of a < last_creation
  further =
      let l : (named h).present (text_in x) < last_u32 = ((says_why h whole (text_in x)).accepted.0 accepted).2 in
      subst (λ (c : ℕ). c < last_u32) (now_is h whole went a x known same) l

  pub next_named : name_of (a + 1) ≡ name_of a
  next_named = (is_next a further).named

  -- each running core was told so
  pub can_replace : All (CanReplace h.links.departed a) h.cores
  can_replace = λ k d l stays. (
    subst (λ (ns : List ℕ). set_of ns a ≡ true) (sym (whole.worlds k d l stays)) known,
    sym (told_is h whole went a x known same (get_or h.cores k d) (Contains-get_or h.cores k d l))
        ∙ ((says_why h whole (text_in x)).accepted.0 accepted).1 (get_or h.cores k d).name
        (core_up h whole went (get_or h.cores k d) (Contains-get_or h.cores k d l) stays),
  )

  -- the node that starts
  pub next_is : next_node (names_of h) (named h) (text_in x) ≡ a + 1
  next_is = ap (λ (c : ℕ). text_in x * 4294967296 + (c + 1 - 1)) (now_is h whole went a x known same)
      ∙ ap (λ (t : ℕ). t * 4294967296 + (creation_of a + 1 - 1)) (text_of_name a x same) ∙ omega arith

  -- what the world is behind it
  abbrev after : NamedWorld
  after = happens_named (names_of h) (named h) (Restart (text_in x))

  anew : StartsAnew (names_of h) (named h) (text_in x) after (named_answers (names_of h) (named h) (Restart (text_in x)))
  anew = subst (λ (v : NamedWorld). named_refusal (names_of h) v (Restart (text_in x)) ≡ None
      → StartsAnew (names_of h) v (text_in x) (happens_named (names_of h) v (Restart (text_in x)))
      (named_answers (names_of h) v (Restart (text_in x)))) (sym whole.reached)
      (restarts_start_anew (names_of h) whole.events (text_in x)) accepted

  pub unanswered : [] ≡ named_answers (names_of h) (named h) (Restart (text_in x))
  unanswered = sym anew.unanswered

  -- who left by its history is who has left
  left_is : left_in (entries_of h.history) ≡ who_left (names_of h) (named h)
  left_is = rising-unique (left_in (entries_of h.history)) (who_left (names_of h) (named h)) (left_rises (entries_of h.history))
      (rising_pairs (who_left (names_of h) (named h)) anew.rising) (λ c. is c (with_older h.links.departed c) refl)
    where
      registry : Registry
      registry = registry_of (in_cluster (opening_of h)) (entries_of h.history)

      by_registry : (c : ℕ) → set_of (left_in (entries_of h.history)) c ≡ with_older h.links.departed c
      by_registry c = left_fold (entries_of h.history) [] (opening (in_cluster (opening_of h))) (λ d. refl) c
          ∙ recorded c
        where
          recorded : (d : ℕ) → (registry_of (in_cluster (opening_of h)) (entries_of h.history)).left d ≡ with_older h.links.departed d
          recorded d = (subst (Sound (names_of h)) (sym whole.reached) (always (names_of h) whole.events)).recorded.left d

      is : (c : ℕ) (b : Bool) → with_older h.links.departed c ≡ b
          → set_of (left_in (entries_of h.history)) c ≡ set_of (who_left (names_of h) (named h)) c
      is c true e = by_registry c ∙ e ∙ sym (set_contains (who_left (names_of h) (named h)) c ((anew.departed c).0 e))
      is c false e = by_registry c ∙ e ∙ sym (false_from_ne_true (set_of (who_left (names_of h) (named h)) c)
          (λ q. cc (e, (anew.departed c).1 (contains_set (who_left (names_of h) (named h)) c q))))

  -- the core that starts
  abbrev started : CoreState
  started = fresh_behind (a + 1) (succeeded a (a + 1) (nodes_of h)) ((a + 1) ∷ []) h.links.departed false

  turned : (c : ℕ) → ((a + 1 == c) || false) ≡ (c == a + 1)
  turned c = elim (cases_eq (a + 1) c) [
    | inl e ↦ rw (eq-eqb (a + 1) c e, eq-eqb c (a + 1) (sym e)) refl
    | inr ne ↦ rw (ne_eqb (a + 1) c ne, ne_eqb c (a + 1) (λ e. ne (sym e))) refl
  ]

  started_seen : node_of started ≡ fresh_node (with_older h.links.departed) (a + 1)
  started_seen = ap (λ (s : Nodes). record (fresh_node (with_older h.links.departed) (a + 1)) {
    replica = record (fresh_node (with_older h.links.departed) (a + 1)).replica { members = s };
  }) (fun_ext turned)

  module _ (cores past : List CoreState) (links : Mailed) (history : List HistoryEntry) (core last : CoreState)
      (is : core ≡ get_or h.cores p core)
      (made : cores ≡ set (map (replaced_in h.links.departed a (a + 1)) h.cores) p started)
      (kept : past ≡ h.past ++ last ∷ []) (was : last ≡ replaced_in h.links.departed a (a + 1) core)
      (nodes_are : links.nodes ≡ succeeded a (a + 1) (nodes_of h)) (left_are : links.departed ≡ h.links.departed)
      (linked : links_of links ≡ links_of h.links) (entered_so : history ≡ h.history ++ HistoryEntry.Restart (a + 1) ∷ []) where
    -- what is held behind it
    abbrev behind : WorldState
    behind = record { cluster = h.cluster; cores = cores; past = past; links = links; history = history }

    abbrev nodes : List ℕ
    nodes = nodes_of h

    abbrev later : List ℕ
    later = succeeded a (a + 1) (nodes_of h)

    within : p < length h.cores
    within = omega (arith, (place-Some a nodes p there).0, ap (λ (ns : List ℕ). length ns) whole.names, length-map h.cores core_name)

    core_named : core.name ≡ a
    core_named = ap core_name is ∙ name_at core_name h.cores p core within ∙ ap (λ (ns : List ℕ). get_or ns p 0) whole.names
        ∙ (place-Some a nodes p there).1

    last_named : last.name ≡ a
    last_named = ap core_name was ∙ name_kept h.links.departed a (a + 1) core ∙ core_named

    abbrev before : List CoreState
    before = map (replaced_in h.links.departed a (a + 1)) h.cores

    names_then : map core_name (set before p started) ≡ later
    names_then = map-set core_name before p started
        ∙ ap (λ (ns : List ℕ). set ns p (a + 1)) (names_kept h.links.departed a (a + 1) h.cores ∙ whole.names)
        ∙ set_placed a (a + 1) nodes p whole.set.rising there

    rising_then : IsStrictlyIncreasing later
    rising_then = rising_still a (a + 1) nodes refl (not_yet nodes h.links.departed went a known gone_then next_named) whole.set.rising

    long : length later ≡ length nodes
    long = length-map nodes (next_of a (a + 1))

    next_place : place (a + 1) later ≡ Some p
    next_place = ap (λ (n : ℕ). place n later) (sym (get_or-map (next_of a (a + 1)) nodes p 0 0 (place-Some a nodes p there).0
        ∙ ap (next_of a (a + 1)) (place-Some a nodes p there).1
        ∙ ap (λ (t : Bool). if t then a + 1 else a) (eq-eqb a a refl)))
        ∙ place-get_or later p rising_then (omega (arith, long, (place-Some a nodes p there).0))

    within_before : p < length before
    within_before = omega (arith, within, length-map h.cores (replaced_in h.links.departed a (a + 1)))

    -- the core of each node
    next_core : core_of (a + 1) (set before p started) ≡ Some started
    next_core = core_here core_name (set before p started) p started (a + 1)
        (omega (arith, within_before, length-set before p started))
        (ap (place (a + 1)) names_then ∙ next_place)
        ∙ ap (λ (c : CoreState). let r : Option CoreState = Some c in r) (get_or-set_same before p started started within_before)

    gone_core : core_of a (set before p started) ≡ None
    gone_core = no_core core_name (set before p started) a
        (ap (λ (ns : List ℕ). set_of ns a) names_then ∙ away_now nodes h.links.departed went a known gone_then next_named)

    before_named : (get_or before p started).name ≡ a
    before_named = name_at core_name before p started within_before
        ∙ ap (λ (ns : List ℕ). get_or ns p 0) (names_kept h.links.departed a (a + 1) h.cores ∙ whole.names) ∙ (place-Some a nodes p there).1

    other_core : (y : ℕ) → (y ≡ a → ⊥) → (y ≡ a + 1 → ⊥) → core_of y (set before p started) ≡ core_of y before
    other_core y ne other = find_past (λ (c : CoreState). c.name == y) before p started started
        (ne_eqb (get_or before p started).name y (λ e. ne (sym e ∙ before_named)))
        (ne_eqb (a + 1) y (λ e. other (sym e)))

    abbrev O : Opening
    O = opening_of h

    node_then : (y : ℕ) → node_with O y (or_else (core_of y (set before p started)) (core_of y (h.past ++ last ∷ [])))
        ≡ after.world.node y
    node_then y = elim (cases_eq y (a + 1)) [
      | inl e ↦
          let here : after.world.node (a + 1) ≡ fresh_node (with_older h.links.departed) (a + 1) =
          subst (λ (n : ℕ). after.world.node n ≡ fresh_node (with_older h.links.departed) n) next_is anew.node in
          subst (λ (n : ℕ). node_with O n (or_else (core_of n (set before p started)) (core_of n (h.past ++ last ∷ [])))
          ≡ after.world.node n) (sym e)
          (ap (λ (c : Option CoreState). node_with O (a + 1) (or_else c (core_of (a + 1) (h.past ++ last ∷ [])))) next_core
          ∙ started_seen ∙ sym here)
      | inr other ↦ as_before y other (cases_eq y a) ∙ sym (anew.others y (λ e. other (e ∙ next_is)))
    ]
      where
        as_before : (y : ℕ) → (y ≡ a + 1 → ⊥) → (y ≡ a) ⊎ (y ≡ a → ⊥)
            → node_with O y (or_else (core_of y (set before p started)) (core_of y (h.past ++ last ∷ []))) ≡ (seen h).node y
        as_before y other (inl e) = subst (λ (n : ℕ). node_with O n (or_else (core_of n (set before p started))
            (core_of n (h.past ++ last ∷ []))) ≡ (seen h).node n) (sym e)
            (ap (λ (c : Option CoreState). node_with O a (or_else c (core_of a (h.past ++ last ∷ [])))) gone_core
            ∙ ap (λ (c : Option CoreState). node_with O a c) (found_last a h.past last (none_past nodes a h.past known whole.older) last_named)
            ∙ ap node_of was ∙ node_kept h.links.departed a (a + 1) core
            ∙ sym (node_is h whole a p core there is))
        as_before y other (inr ne) =
            ap (λ (c : Option CoreState). node_with O y (or_else c (core_of y (h.past ++ last ∷ []))))
            (other_core y ne other ∙ found_kept h.links.departed a (a + 1) y h.cores)
            ∙ seen_kept h.links.departed a (a + 1) O y (core_of y h.cores) (core_of y (h.past ++ last ∷ []))
            ∙ ap (λ (c : Option CoreState). node_with O y (or_else (core_of y h.cores) c))
            (found_past y h.past last (λ e. ne (sym e ∙ last_named)))

    queue_then : (f t : ℕ) → (over O later (links_of h.links)).queue f t ≡ after.world.links.queue f t
    queue_then f t = elim (cases_eq t (a + 1)) [
      | inl e ↦ subst (λ (n : ℕ). (over O later (links_of h.links)).queue f n ≡ after.world.links.queue f n) (sym e)
          (ap (λ (b : Bool). if b then map letter_of ((links_of h.links).queue f (a + 1)) else down_of O later ((links_of h.links).closed f) (a + 1))
          (held later (a + 1) (there_now nodes h.links.departed went a known gone_then next_named))
          ∙ ap (map letter_of) (whole.fit.known f (a + 1) (unknown (with_older nodes f) (set_of nodes (a + 1))
          (not_yet nodes h.links.departed went a known gone_then next_named)))
          ∙ sym (subst (λ (n : ℕ). after.world.links.queue f n ≡ []) next_is (anew.here f)))
      | inr ne ↦ ap (λ (b : Bool). if b then map letter_of ((links_of h.links).queue f t) else down_of O later ((links_of h.links).closed f) t)
          (older_same nodes h.links.departed went a known gone_then next_named t ne)
          ∙ ap (λ (l : Links AnyLetter). l.queue f t) (sym (all_links-over O h.links))
          ∙ sym (anew.elsewhere f t (λ e. ne (e ∙ next_is)))
    ]
      where
        unknown : (s u : Bool) → u ≡ false → (s && u) ≡ false
        unknown true u e = e
        unknown false u e = refl

    present_then : present_in later ≡ after.present
    present_then = succeeded_present a (a + 1) (is_next a further) nodes went.one known
        ∙ ap (λ (t : ℕ). at (present_in nodes) t (present_in nodes t + 1)) (sym (text_of_name a x same))
        ∙ sym anew.present

    history_then : entries_of (h.history ++ HistoryEntry.Restart (a + 1) ∷ []) ≡ after.world.history
    history_then = entered h.history (HistoryEntry.Restart (a + 1))
        ∙ ap (λ (ds : List ℕ). entries_of h.history ++ map (Told (a + 1)) ds) left_is
        ∙ ap (λ (n : ℕ). entries_of h.history ++ map (Told n) (who_left (names_of h) (named h))) (sym next_is)
        ∙ sym anew.history

    abbrev world_of : (ℕ → Node) → (ℕ → ℕ → List AnyLetter) → Nodes → List AnyEntry → (ℕ → ℕ) → NamedWorld
    world_of f q s es k = record {
      world = record { node = f; links = record { queue = q; closed = s }; history = es };
      present = k;
    }

    pub comes_back : named behind ≡ after
    comes_back =
        named-is behind
        ∙ ap (λ (ns : List ℕ). named_by ns h.cluster (λ y. core_at y behind) (links_of links) (entries_of history)) nodes_are
        ∙ ap (λ (w : Links Letter). named_by later h.cluster (λ y. core_at y behind) w (entries_of history)) linked
        ∙ ap (λ (es : List HistoryEntry). named_by later h.cluster (λ y. core_at y behind) (links_of h.links) (entries_of es)) entered_so
        ∙ ap (λ (cs : List CoreState). named_by later h.cluster (λ y. or_else (core_of y cs) (core_of y past)) (links_of h.links) es) made
        ∙ ap (λ (ps : List CoreState). named_by later h.cluster (λ y. or_else (core_of y (set before p started)) (core_of y ps))
        (links_of h.links) es) kept
        ∙ ap (λ (o : NamedOpening). world_of
        (λ y. node_with (all_creations o) y (or_else (core_of y (set before p started)) (core_of y (h.past ++ last ∷ []))))
        (over (all_creations o) later (links_of h.links)).queue (links_of h.links).closed es (present_in later))
        (succeeded_names a (a + 1) (is_next a further) nodes h.cluster)
        ∙ ap (λ (f : ℕ → Node). world_of f (over O later (links_of h.links)).queue (links_of h.links).closed es (present_in later))
        (fun_ext node_then)
        ∙ ap (λ (q : ℕ → ℕ → List AnyLetter). world_of after.world.node q (links_of h.links).closed es (present_in later))
        (fun_ext (λ f. fun_ext (λ t. queue_then f t)))
        ∙ ap (λ (s : Nodes). world_of after.world.node after.world.links.queue s es (present_in later))
        (closed_is h.links ∙ sym anew.departures)
        ∙ ap (λ (xs : List AnyEntry). world_of after.world.node after.world.links.queue after.world.links.closed xs (present_in later))
        history_then
        ∙ ap (λ (k : ℕ → ℕ). world_of after.world.node after.world.links.queue after.world.links.closed after.world.history k)
        present_then
      where
        es : List AnyEntry
        es = entries_of (h.history ++ HistoryEntry.Restart (a + 1) ∷ [])

    pub names_back : names_of behind ≡ names_of h
    names_back = ap (λ (ns : List ℕ). named_opening ns h.cluster) nodes_are
        ∙ succeeded_names a (a + 1) (is_next a further) nodes h.cluster

    -- it is whole
    pub whole_back : IsWhole behind
    whole_back = record {
      set = subst IsNodeSet (sym nodes_are) (record { rising = rising_then; fits = fits });
      cluster = whole.cluster;
      names = ap (map core_name) made ∙ names_then ∙ sym nodes_are;
      worlds = subst (λ (cs : List CoreState). All (λ (c : CoreState). with_older links.departed c.name ≡ false → c.world ≡ links.nodes) cs) (sym made)
          (All-set (λ (c : CoreState). with_older links.departed c.name ≡ false → c.world ≡ links.nodes) before p started
          (λ up. sym nodes_are)
          (All-map (λ (c : CoreState). with_older links.departed c.name ≡ false → c.world ≡ links.nodes)
          (replaced_in h.links.departed a (a + 1)) h.cores
          (λ k d l up. world_kept h.links.departed a (a + 1) nodes (get_or h.cores k d) (whole.worlds k d l)
          (ap (λ (ds : List ℕ). with_older ds (replaced_in h.links.departed a (a + 1) (get_or h.cores k d)).name) (sym left_are) ∙ up)
          ∙ sym nodes_are)));
      older = subst (λ (cs : List CoreState). All (IsOlder links.nodes) cs) (sym kept)
          (subst (λ (ns : List ℕ). All (IsOlder ns) (h.past ++ last ∷ [])) (sym nodes_are)
          (All-push (IsOlder later) h.past last (λ k d l. still (get_or h.past k d) (whole.older k d l))
          (subst (λ (n : ℕ). (with_older later n ≡ true) × (set_of later n ≡ false)) (sym last_named) (
            started_still nodes h.links.departed went a known gone_then next_named a (held nodes a known),
            away_now nodes h.links.departed went a known gone_then next_named,
          ))));
      fit = subst (λ (ns : List ℕ). AreFit ns (links_of links)) (sym nodes_are)
          (subst (AreFit later) (sym linked)
          (fit_still nodes h.links.departed went a known gone_then next_named (links_of h.links) (closed_is h.links) whole.fit));
      events = whole.events ++ Restart (text_in x) ∷ [];
      reached = comes_back
          ∙ ap (λ (v : NamedWorld). happens_named (names_of h) v (Restart (text_in x))) whole.reached
          ∙ sym (after_events-push (names_of h) whole.events (Restart (text_in x)))
          ∙ ap (λ (o : NamedOpening). after_events o (whole.events ++ Restart (text_in x) ∷ [])) (sym names_back);
    }
      where
        IsOlder : List ℕ → CoreState → Type 0
        IsOlder ns c = (with_older ns c.name ≡ true) × (set_of ns c.name ≡ false)

        fits : length later ≤ MOST_NODES
        fits = let l : length nodes ≤ MOST_NODES = whole.set.fits in omega (arith, long, l)

        still : (c : CoreState) → (with_older nodes c.name ≡ true) × (set_of nodes c.name ≡ false)
            → (with_older later c.name ≡ true) × (set_of later c.name ≡ false)
        still c o = (
          started_still nodes h.links.departed went a known gone_then next_named c.name o.0,
          others_now nodes h.links.departed went a known gone_then next_named c.name
              (λ e. cc (known, o.1, ap (set_of nodes) e))
              (λ e. cc (o.0, not_started nodes h.links.departed went a known gone_then next_named, ap (with_older nodes) e)) ∙ o.1,
        )
