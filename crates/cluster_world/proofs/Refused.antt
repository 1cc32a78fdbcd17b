-- Which nodes' registrars were refused, where no letter waits, by what the cores say.
use Rattle.std.proofs.Common.{ℕ, Bool, true, false, ◌≡◌, ◌<◌, ◌≤◌, Option, Some, None, List, [], ◌∷◌, length, get_or, refl, sym, ap, subst, ◌∙◌}
use Rattle.std.specs.Prelude.{if◌then◌else◌, not, ◌&&◌, is_some, is_none, find, option_map, Contains}
use Rattle.std.proofs.lemmas.Bool.{and_parts, not-true}
use Rattle.registry_model.proofs.Lists.{Contains-front, Contains-behind}
use Rattle.protocol_model.specs.Node.{Node, Current}
use Rattle.protocol_model.specs.Event.{is_waiting}
use Rattle.protocol_model.specs.World.{left}
use Rattle.getting_through.specs.NamedWorld.{running_nodes}
use Rattle.getting_through.specs.Restarts.{IsUp}
use Rattle.getting_through.proofs.Always.{always}
use Rattle.getting_through.proofs.Running.{runs_listed, listed_runs, running_rise}
use Rattle.getting_through.proofs.Standing.{Sound}
use Rattle.getting_through.specs.NamedFinishing.{first_refused}
use Rattle.getting_through.specs.QuietWorlds.{AtRest, Idle, Refused, Knocks, IsAtRest}
use Rattle.term.specs.NodeSets.{set_of, with_older}
use Rattle.transaction.specs.declared.op.Op.{Op}
use Rattle.node_core.specs.declared.node.Phase.{Phase}
use Rattle.node_core.specs.declared.node.Phase.TheVariants as phase
use Rattle.node_core.specs.CoreState.{CoreState, HaveLeft}
use Rattle.node_core.specs.Joining.{join_number_of}
use Rattle.node_core.specs.Seen.{node_of, phase_of, current_of}
use Rattle.cluster_world.specs.WorldState.{WorldState, nodes_of}
use Rattle.cluster_world.specs.Finishing.{seems_refused}
use Rattle.cluster_world.specs.Playing.{WaitsOn}
use Rattle.cluster_world.specs.Seen.{names_of, opening_of, seen, named}
use Rattle.cluster_world.specs.Whole.{IsWhole}
use Rattle.cluster_world.proofs.Holding.{NonePasses, found_by_name, found_same, rise_of, this_first, none_first}
use Rattle.cluster_world.proofs.Naming.{up_from, up_to}
use Rattle.cluster_world.proofs.Settling.{quiet_rests}
use Rattle.cluster_world.proofs.Steps.{core_name}
use Rattle.cluster_world.proofs.Succeeding.{contains_set, set_contains}
use Rattle.cluster_world.proofs.Untold.{core_seen, core_known}

-- what is found goes by what passes of the list
find_agrees : (p q : ℕ → Bool) (xs : List ℕ) → ((c : ℕ) → Contains xs c → p c ≡ q c) → find p xs ≡ find q xs
find_agrees p q [] same = refl
find_agrees p q (x ∷ xs) same = ap (λ (b : Bool). if b then Some x else find p xs) (same x (Contains-front x xs))
    ∙ ap (λ (r : Option ℕ). if q x then Some x else r) (find_agrees p q xs (λ c i. same c (Contains-behind x xs c i)))

-- who is at an operation isn't free
at_work : (op : Op) (awaited : List ℕ) (p : Phase) → phase_of op awaited p ≡ Current.Free → ⊥
at_work op awaited (phase.Asking r) e = cc e
at_work op awaited phase.Waiting e = cc e
at_work op awaited (phase.Writing asked reply) e = cc e
at_work op awaited (phase.Joining k m) e = cc e

-- at rest a registrar that is at an operation, and waits for no contact, was refused
by_rest : (Up : ℕ → Type 0) (h : WorldState) (n : ℕ) (op : Option Op) (awaited : List ℕ) (p : Phase) (x : Current)
    → current_of op awaited p ≡ x → AtRest Up (seen h) n x → (is_some op && is_none (join_number_of x)) ≡ is_waiting x
by_rest Up h n None awaited p x e rest = ap is_waiting e
by_rest Up h n (Some op) awaited p x e (Idle none free) = absurd (at_work op awaited p e)
by_rest Up h n (Some op) awaited p x e (Refused o) = refl
by_rest Up h n (Some op) awaited p x e (Knocks k m up joined waits once) = refl

module _ (h : WorldState) (whole : IsWhole h) (went : HaveLeft (nodes_of h) h.links.departed) (none : WaitsOn None h) where
  -- the node runs, and its registrar was refused
  abbrev refused : ℕ → Bool
  refused n = not (left (seen h) n) && is_waiting ((seen h).node n).current

  same : (k : ℕ) (d : CoreState) → k < length h.cores → refused (get_or h.cores k d).name
      ≡ seems_refused h.links.departed (get_or h.cores k d)
  same k d l = go (with_older h.links.departed c.name) refl
    where
      c : CoreState
      c = get_or h.cores k d

      up : with_older h.links.departed c.name ≡ false → IsUp (names_of h) (named h) c.name
      up e = up_from h went.one c.name (core_known h whole k d l) e

      rest : IsAtRest (IsUp (names_of h) (named h)) (opening_of h) (seen h)
      rest = quiet_rests (names_of h) whole.events (named h) whole.reached none

      runs : with_older h.links.departed c.name ≡ false
          → is_waiting ((seen h).node c.name).current ≡ (is_some c.registrar.current && is_none (join_number_of (node_of c).current))
      runs e = ap (λ (v : Node). is_waiting v.current) (core_seen h whole k d l)
          ∙ sym (by_rest (IsUp (names_of h) (named h)) h c.name c.registrar.current c.registrar.awaited c.phase (node_of c).current refl
          (subst (λ (v : Node). AtRest (IsUp (names_of h) (named h)) (seen h) c.name v.current) (core_seen h whole k d l)
          (rest.registrars c.name (up e))))

      go : (b : Bool) → with_older h.links.departed c.name ≡ b
          → (not b && is_waiting ((seen h).node c.name).current)
          ≡ (not b && is_some c.registrar.current && is_none (join_number_of (node_of c).current))
      go true e = refl
      go false e = runs e

  sound : Sound (names_of h) (named h)
  sound = subst (Sound (names_of h)) (sym whole.reached) (always (names_of h) whole.events)

  abbrev running : List ℕ
  running = running_nodes (names_of h) (named h)

  -- so it is searched for among the nodes at present
  searched : find refused running ≡ find refused (nodes_of h)
  searched = found_same refused running (nodes_of h) (running_rise (names_of h) (named h) sound)
      (rise_of (nodes_of h) whole.set.rising)
      (λ c e i. contains_set (nodes_of h) c (up_to h went.one went c (listed_runs (names_of h) (named h) sound c i)).0)
      (λ c e i. runs_listed (names_of h) (named h) sound c (up_from h went.one c (known c i)
      (not-true (left (seen h) c) (and_parts (not (left (seen h) c)) (is_waiting ((seen h).node c).current) e).0)))
    where
      known : (c : ℕ) → Contains (nodes_of h) c → set_of (nodes_of h) c ≡ true
      known c i = set_contains (nodes_of h) c i

  refused_is : first_refused (names_of h) (named h) ≡ option_map core_name (find (seems_refused h.links.departed) h.cores)
  refused_is = find_agrees (λ n. is_waiting ((seen h).node n).current) refused running
      (λ c i. ap (λ (b : Bool). not b && is_waiting ((seen h).node c).current)
      (sym (listed_runs (names_of h) (named h) sound c i).stays))
      ∙ searched ∙ ap (find refused) (sym whole.names)
      ∙ found_by_name (seems_refused h.links.departed) refused h.cores same

  -- this core was refused, and none before it
  pub this_refused : (cs : List CoreState) (i : ℕ) (c : CoreState) (x : ℕ) → cs ≡ h.cores → i < length cs → c ≡ get_or cs i c
      → NonePasses (seems_refused h.links.departed) i cs → seems_refused h.links.departed c ≡ true → x ≡ c.name
      → Some x ≡ first_refused (names_of h) (named h)
  this_refused cs i c x are l is before here its =
      this_first (seems_refused h.links.departed) h.cores cs i c x are l is before here its ∙ sym refused_is

  -- no core was
  pub none_refused : (cs : List CoreState) (i : ℕ) → cs ≡ h.cores → length cs ≤ i
      → NonePasses (seems_refused h.links.departed) i cs → None ≡ first_refused (names_of h) (named h)
  none_refused cs i are le before =
      none_first (seems_refused h.links.departed) h.cores cs i are le before ∙ sym refused_is
