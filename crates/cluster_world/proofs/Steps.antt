-- The step of one node, as a step of the world.
use Rattle.std.proofs.Common.{ℕ, Bool, true, false, ◌==◌, ◌≡◌, ◌<◌, Option, Some, List, ◌++◌, length, get_or, set, map, refl, sym, ap, subst, ◌∙◌, arith}
use Rattle.std.specs.Prelude.{if◌then◌else◌}
use Rattle.std.specs.List.{All}
use Rattle.std.proofs.Math.Path.{fun_ext}
use Rattle.std.proofs.lemmas.List.{length-map}
use Rattle.std.proofs.lemmas.List.Elements.{All-set}
use Rattle.registry_model.specs.Process.{at}
use Rattle.registry_model.proofs.Updates.{by_test}
use Rattle.registry_model.specs.History.{Entry as AnyEntry}
use Rattle.protocol_model.specs.Letter.{Letter as AnyLetter}
use Rattle.protocol_model.specs.Links.{Links, posted}
use Rattle.protocol_model.specs.Node.{Node}
use Rattle.protocol_model.specs.World.{World, apply}
use Rattle.getting_through.specs.NodeNames.{opening_of as all_creations}
use Rattle.getting_through.specs.NamedWorld.{NamedWorld, NamedEvent, after_events}
use Rattle.term.specs.NodeSets.{IsNodeSet, set_of, with_older}
use Rattle.term.proofs.NodePlaces.{place-Some}
use Rattle.link.specs.MeshState.{place}
use Rattle.node_core.specs.declared.Event.{Event as NodeEvent}
use Rattle.node_core.specs.declared.Letter.{Letter}
use Rattle.node_core.specs.CoreState.{CoreState, HaveLeft}
use Rattle.node_core.specs.Made.{Made}
use Rattle.node_core.specs.Seen.{node_of, turn_by}
use Rattle.node_core.specs.NodeEventsSeen.{entry_by}
use Rattle.node_core.specs.Steps.{Steps, IsAsBefore, IsHeardWithin, GoWithin}
use Rattle.world_history.specs.declared.entry.HistoryEntry.{HistoryEntry}
use Rattle.world_history.specs.Histories.{entries_of}
use Rattle.cluster_world.specs.Cores.{core_of}
use Rattle.cluster_world.specs.WorldState.{WorldState, nodes_of}
use Rattle.cluster_world.specs.Links.{letters_to, AreFit}
use Rattle.cluster_world.specs.Mail.{Mailed, links_of}
use Rattle.cluster_world.specs.Openings.{named_opening, present_in}
use Rattle.cluster_world.specs.Seen.{names_of, opening_of, or_else, core_at, node_with, seen, named}
use Rattle.cluster_world.specs.Whole.{IsWhole}
use Rattle.cluster_world.proofs.Cores.{name_at, names-set, core_here, core_wrote}
use Rattle.cluster_world.proofs.Listed.{known_place}
use Rattle.cluster_world.proofs.Posting.{none_to, fit_posted, over, over-posted, all_links-over, closed_is}

abbrev pub core_name : CoreState → ℕ
core_name c = c.name

-- what is held with another core at a place, and with these links and this history
abbrev pub with_core : WorldState → ℕ → CoreState → Mailed → List HistoryEntry → WorldState
with_core h i new links history = record {
  cluster = h.cluster;
  cores = set h.cores i new;
  past = h.past;
  links = links;
  history = history;
}

-- the same with the cores as they are
abbrev pub with_links : WorldState → Mailed → List HistoryEntry → WorldState
with_links h links history = record {
  cluster = h.cluster;
  cores = h.cores;
  past = h.past;
  links = links;
  history = history;
}

-- a world of all creations of these nodes' names, by the cores, the links and the entries that are held of it
abbrev pub seen_by : List ℕ → List ℕ → (ℕ → Option CoreState) → Links Letter → List AnyEntry → World
seen_by nodes cluster cores w es = record {
  node = λ x. node_with (all_creations (named_opening nodes cluster)) x (cores x);
  links = over (all_creations (named_opening nodes cluster)) nodes w;
  history = es;
}

abbrev pub named_by : List ℕ → List ℕ → (ℕ → Option CoreState) → Links Letter → List AnyEntry → NamedWorld
named_by nodes cluster cores w es = record { world = seen_by nodes cluster cores w es; present = present_in nodes }

pub named-is : (k : WorldState)
    → named k ≡ named_by (nodes_of k) k.cluster (λ x. core_at x k) (links_of k.links) (entries_of k.history)
named-is k = ap (λ (l : Links AnyLetter). record (named k) { world = record (seen k) { links = l } })
    (all_links-over (opening_of k) k.links)

-- what all of a list have, others have that come of it
All-map : {A : Type 0} {P Q : A → Type 0} (xs : List A) → ((x : A) → P x → Q x) → All P xs → All Q xs
All-map xs f all = λ k d l. f _ (all k d l)

module _ (h : WorldState) (whole : IsWhole h) where
  -- with the same on the links and in the history the world is the same
  pub rested : (links : Mailed) (history : List HistoryEntry) → links.nodes ≡ nodes_of h → links_of links ≡ links_of h.links
      → history ≡ h.history → named (with_links h links history) ≡ named h
  rested links history same linked entered =
      named-is (with_links h links history)
      ∙ ap (λ (ns : List ℕ). named_by ns h.cluster (λ x. core_at x h) (links_of links) (entries_of history)) same
      ∙ ap (λ (w : Links Letter). named_by (nodes_of h) h.cluster (λ x. core_at x h) w (entries_of history)) linked
      ∙ ap (λ (es : List HistoryEntry). named_by (nodes_of h) h.cluster (λ x. core_at x h) (links_of h.links) (entries_of es))
      entered
      ∙ sym (named-is h)

  -- what is whole with other cores, links and entries
  pub whole_by : (cores : List CoreState) (links : Mailed) (history : List HistoryEntry) (es : List NamedEvent)
      → links.nodes ≡ nodes_of h → map core_name cores ≡ nodes_of h
      → All (λ c. with_older links.departed c.name ≡ false → c.world ≡ nodes_of h) cores
      → AreFit (nodes_of h) (links_of links)
      → (let k : WorldState = record { cluster = h.cluster; cores = cores; past = h.past; links = links; history = history } in
      named k ≡ after_events (names_of h) es → IsWhole k)
  whole_by cores links history es same names worlds fit reached = record {
    set = subst IsNodeSet (sym same) whole.set;
    cluster = whole.cluster;
    names = names ∙ sym same;
    worlds = subst (λ (ns : List ℕ). All (λ (c : CoreState). with_older links.departed c.name ≡ false → c.world ≡ ns) cores)
        (sym same) worlds;
    older = subst (λ (ns : List ℕ). All (λ (c : CoreState). (with_older ns c.name ≡ true) × (set_of ns c.name ≡ false)) h.past)
        (sym same) whole.older;
    fit = subst (λ (ns : List ℕ). AreFit ns (links_of links)) (sym same) fit;
    events = es;
    reached = reached ∙ ap (λ (ns : List ℕ). after_events (named_opening ns h.cluster) es) (sym same);
  }

  -- the cores know the nodes at present still where no more of them run
  pub worlds_still : (links : Mailed)
      → ((c : ℕ) → with_older links.departed c ≡ false → with_older h.links.departed c ≡ false)
      → All (λ c. with_older links.departed c.name ≡ false → c.world ≡ nodes_of h) h.cores
  worlds_still links stay = All-map {A = CoreState} {P = λ (c : CoreState). with_older h.links.departed c.name ≡ false → c.world ≡ nodes_of h}
      {Q = λ (c : CoreState). with_older links.departed c.name ≡ false → c.world ≡ nodes_of h} h.cores (λ c p e. p (stay c.name e)) whole.worlds

  -- who is closed out by the links
  pub left_by : (links : Mailed) (w : Links Letter) → links_of links ≡ w → with_older links.departed ≡ w.closed
  left_by links w e = sym (closed_is links) ∙ ap (λ (v : Links Letter). v.closed) e

  pub rested_whole : (links : Mailed) (history : List HistoryEntry) → links.nodes ≡ nodes_of h
      → links_of links ≡ links_of h.links → history ≡ h.history → IsWhole (with_links h links history)
  rested_whole links history same linked entered = whole_by h.cores links history whole.events same whole.names
      (worlds_still links (λ c e. sym (ap (λ (s : ℕ → Bool). s c) (left_by links (links_of h.links) linked ∙ closed_is h.links)) ∙ e))
      (subst (AreFit (nodes_of h)) (sym linked) whole.fit)
      (rested links history same linked entered ∙ whole.reached)

module _ (h : WorldState) (whole : IsWhole h) (a i : ℕ) (core : CoreState) (there : place a (nodes_of h) ≡ Some i)
    (is : core ≡ get_or h.cores i core) where
  there_too : place a (map core_name h.cores) ≡ Some i
  there_too = ap (place a) whole.names ∙ there

  pub within : i < length h.cores
  within = omega (arith, (place-Some a (map core_name h.cores) i there_too).0, length-map h.cores core_name)

  -- the core at the place of a node is the node's
  pub core_is : core_of a h.cores ≡ Some core
  core_is = core_here core_name h.cores i core a within there_too ∙ ap Some (sym is)

  named_at : (get_or h.cores i core).name ≡ a
  named_at = name_at core_name h.cores i core within ∙ (place-Some a (map core_name h.cores) i there_too).1

  pub named_so : core.name ≡ a
  named_so = ap core_name is ∙ named_at

  pub node_is : (seen h).node a ≡ node_of core
  node_is = ap (λ (c : Option CoreState). node_with (opening_of h) a (or_else c (core_of a h.past))) core_is

  -- it knows the nodes at present, where it runs
  pub world_so : with_older h.links.departed a ≡ false → core.world ≡ nodes_of h
  world_so up = ap (λ (c : CoreState). c.world) is ∙ whole.worlds i core within (ap (with_older h.links.departed) named_at ∙ up)

  -- another core of the node stands there for it
  pub wrote : (new : CoreState) → new.name ≡ core.name → (x : ℕ)
      → core_of x (set h.cores i new) ≡ (if x == a then Some new else core_of x h.cores)
  wrote new named = core_wrote core_name h.cores i new a within there_too (named ∙ named_so)

  -- with it, and with what is on the links and in the history now, the world is whole
  pub whole_with : (new : CoreState) (links : Mailed) (history : List HistoryEntry) (es : List NamedEvent) → new.name ≡ core.name
      → new.world ≡ core.world → links.nodes ≡ nodes_of h
      → ((c : ℕ) → with_older links.departed c ≡ false → with_older h.links.departed c ≡ false)
      → AreFit (nodes_of h) (links_of links)
      → named (with_core h i new links history) ≡ after_events (names_of h) es → IsWhole (with_core h i new links history)
  whole_with new links history es named placed same stay fit reached = whole_by h whole (set h.cores i new) links history es same
      (names-set core_name h.cores i new within (named ∙ named_so
      ∙ sym (place-Some a (map core_name h.cores) i there_too).1) ∙ whole.names)
      (All-set (λ (c : CoreState). with_older links.departed c.name ≡ false → c.world ≡ nodes_of h) h.cores i new
      (λ up. placed ∙ world_so (stay a (ap (with_older links.departed) (sym (named ∙ named_so)) ∙ up)))
      (worlds_still h whole links stay))
      fit reached

  -- the world with it, and with these links and entries
  pub behind_is : (new : CoreState) (links : Mailed) (history : List HistoryEntry) (l : Links AnyLetter) (es : List AnyEntry)
      → new.name ≡ core.name → links.nodes ≡ nodes_of h → over (opening_of h) (nodes_of h) (links_of links) ≡ l
      → entries_of history ≡ es
      → named (with_core h i new links history)
      ≡ record {
        world = record { node = at (seen h).node a (node_of new); links = l; history = es };
        present = present_in (nodes_of h);
      }
  behind_is new links history l es named same linked entered =
      named-is (with_core h i new links history)
      ∙ ap (λ (ns : List ℕ). named_by ns h.cluster (λ x. core_at x (with_core h i new links history)) (links_of links)
      (entries_of history)) same
      ∙ ap (λ (f : ℕ → Node). world_of f (over (opening_of h) (nodes_of h) (links_of links)) (entries_of history)) (fun_ext nodes_are)
      ∙ ap (λ (v : Links AnyLetter). world_of (at (seen h).node a (node_of new)) v (entries_of history)) linked
      ∙ ap (λ (xs : List AnyEntry). world_of (at (seen h).node a (node_of new)) l xs) entered
    where
      world_of : (ℕ → Node) → Links AnyLetter → List AnyEntry → NamedWorld
      world_of f v xs = record { world = record { node = f; links = v; history = xs }; present = present_in (nodes_of h) }

      nodes_are : (x : ℕ) → node_with (opening_of h) x (or_else (core_of x (set h.cores i new)) (core_of x h.past))
          ≡ at (seen h).node a (node_of new) x
      nodes_are x = ap (λ (c : Option CoreState). node_with (opening_of h) x (or_else c (core_of x h.past))) (wrote new named x)
          ∙ go (x == a)
        where
          go : (b : Bool) → node_with (opening_of h) x (or_else (if b then Some new else core_of x h.cores) (core_of x h.past))
              ≡ (if b then node_of new else (seen h).node x)
          go true = refl
          go false = refl

  -- where the protocol's node is as before, the protocol's world is, with the same on its links and in its history
  pub as_before : (new : CoreState) (links : Mailed) (history : List HistoryEntry) → IsAsBefore core new
      → links.nodes ≡ nodes_of h → links_of links ≡ links_of h.links → history ≡ h.history
      → named (with_core h i new links history) ≡ named h
  as_before new links history B same linked entered =
      behind_is new links history (seen h).links (seen h).history B.name same
      (ap (over (opening_of h) (nodes_of h)) linked ∙ sym (all_links-over (opening_of h) h.links)) (ap entries_of entered)
      ∙ ap (λ (f : ℕ → Node). record (named h) { world = record (seen h) { node = f } }) (fun_ext nodes_are)
    where
      nodes_are : (x : ℕ) → at (seen h).node a (node_of new) x ≡ (seen h).node x
      nodes_are = by_test a (λ y t. (if t then node_of new else (seen h).node y) ≡ (seen h).node y)
          (B.node ∙ sym node_is) (λ y ne. refl)

  pub whole_before : (new : CoreState) (links : Mailed) (history : List HistoryEntry) → new.world ≡ core.world → IsAsBefore core new
      → links.nodes ≡ nodes_of h → links_of links ≡ links_of h.links → history ≡ h.history
      → IsWhole (with_core h i new links history)
  whole_before new links history placed B same linked entered = whole_with new links history whole.events B.name placed same
      (λ c e. sym (ap (λ (s : ℕ → Bool). s c) (left_by h whole links (links_of h.links) linked ∙ closed_is h.links)) ∙ e)
      (subst (AreFit (nodes_of h)) (sym linked) whole.fit)
      (as_before new links history B same linked entered ∙ whole.reached)

  -- the step of a running node
  module _ (left : HaveLeft (nodes_of h) h.links.departed) (up : with_older h.links.departed a ≡ false) (e : NodeEvent) (new : CoreState)
      (made : Made) (S : Steps e core new made) (heard : IsHeardWithin (nodes_of h) a e) where
    -- its letters go to nodes that have started
    pub goes : GoWithin (nodes_of h) a made.letters
    goes = subst (λ (n : ℕ). GoWithin (nodes_of h) n made.letters) named_so
        (subst (λ (ns : List ℕ). GoWithin ns core.name made.letters) (world_so up)
        (S.within (subst (λ (ns : List ℕ). IsHeardWithin ns core.name e) (sym (world_so up))
        (subst (λ (n : ℕ). IsHeardWithin (nodes_of h) n e) (sym named_so) heard))))

    -- so they are fit to stand on their links
    pub posted_fit : (w : Links Letter) → w.closed ≡ with_older h.links.departed → AreFit (nodes_of h) w
        → AreFit (nodes_of h) (posted a (λ t. letters_to t made.letters) w)
    posted_fit w shut fit = fit_posted (nodes_of h) a made.letters w (known_place (nodes_of h) a i there)
        (λ c s f. ap (λ (g : ℕ → Bool). g c) shut ∙ left.older c s f) goes fit

    -- the world behind it, where these were the links before
    pub stepped : (number : ℕ → ℕ) (links : Mailed) (history : List HistoryEntry) (w : Links Letter) → links.nodes ≡ nodes_of h
        → links_of links ≡ posted a (λ t. letters_to t made.letters) w
        → entries_of history ≡ entries_of h.history ++ map (entry_by number) made.entries
        → named (with_core h i new links history)
        ≡ record {
          world = apply a (turn_by number new made) (record (seen h) { links = over (opening_of h) (nodes_of h) w });
          present = present_in (nodes_of h);
        }
    stepped number links history w same post enter = behind_is new links history _ _ S.name same
        (ap (over (opening_of h) (nodes_of h)) post
        ∙ over-posted (opening_of h) (nodes_of h) a made.letters w (λ t s. none_to (nodes_of h) a t made.letters goes s))
        enter
