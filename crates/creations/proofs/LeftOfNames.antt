-- Nothing is left over in worlds of named nodes: nothing is in the world in which all nodes that haven't started were told of all that have
-- left, and that is the same for all others.
use Rattle.std.proofs.Common.{ℕ, Bool, true, false, ◌≡◌, ◌<◌, List, [], ◌∷◌, ◌++◌, refl, sym, ap, subst, ◌∙◌}
use Rattle.std.specs.Prelude.{Contains, None, not, ◌||◌, if◌then◌else◌, filter}
use Rattle.std.proofs.lemmas.Bool.{and_parts, ltb-true, not-true, not_from_false}
use Rattle.registry_model.specs.Process.{Process, Nodes, nodes_of}
use Rattle.registry_model.specs.Table.{Pair}
use Rattle.registry_model.proofs.NodeLists.{are_nodes_below}
use Rattle.protocol_model.specs.Letter.{Letter, Id}
use Rattle.protocol_model.specs.LockTable.{Grant, count, last_count, is_free_for}
use Rattle.protocol_model.specs.Watch.{Watch, is_dead}
use Rattle.protocol_model.specs.Node.{Node, Op, Current}
use Rattle.protocol_model.specs.Course.{global_given}
use Rattle.protocol_model.specs.World.{Opening, in_world, World, left, WorldEvent, opening_world, run}
use Rattle.protocol_model.specs.ClientLocks.{is_no_more, Tally, tally_from, holds_count}
use Rattle.protocol_model.specs.Quiet.{Runs}
use Rattle.lock_answers.proofs.Nothing.{nothing_is_left as of_worlds}
use Rattle.creations.specs.NodeNames.{NamedOpening, opening_of}
use Rattle.creations.specs.NamedWorld.{NamedWorld, NamedEvent, has_started, after_events, as_events}
use Rattle.creations.specs.Restarts.{who_left, IsUp}
use Rattle.creations.specs.WorldsOfNames.{of_names, OfNames}
use Rattle.lock_answers.specs.Worlds.{of_nodes, IsQuiet, IsSettled}
use Rattle.lock_answers.specs.Leftovers.{IsKnownDead, NothingIsLeft}
use Rattle.protocol_model.proofs.Courses.{run-append}
use Rattle.creations.proofs.NamedRuns.{tally-append, named_runs_are_runs}
use Rattle.creations.proofs.Lists.{Contains-filter, filter-Contains, rise-filter, nodes_rise, distinct_of}
use Rattle.creations.proofs.Standing.{Sound}
use Rattle.creations.proofs.Catching
use Rattle.creations.proofs.Telling.{AreDistinct}
use Rattle.creations.proofs.Always.{always}
use Rattle.creations.proofs.CaughtUp.{all_downs, Ready, CaughtUp, catch_up, IsSpent, spent_all, counts_kept}

module _ (o : NamedOpening) (es : List NamedEvent) where
  abbrev pub O : Opening
  O = opening_of o

  abbrev pub E : List WorldEvent
  E = as_events o es

  abbrev pub w : NamedWorld
  w = after_events o es

  pub s : Sound o w
  s = always o es

  -- the nodes that haven't started
  abbrev pub late : List ℕ
  late = filter (λ n. not (has_started o w n)) (nodes_of O.bound (in_world O))

  pub distinct_late : AreDistinct late
  distinct_late = distinct_of late
      (rise-filter (λ n. not (has_started o w n)) (nodes_of O.bound (in_world O)) (nodes_rise O.bound (in_world O)))

  pub unstarted : (n : ℕ) → Contains late n → has_started o w n ≡ false
  unstarted n i = not-true (has_started o w n)
      (Contains-filter (λ n. not (has_started o w n)) (nodes_of O.bound (in_world O)) n i).1

  pub inside : (n : ℕ) → Contains late n → in_world O n ≡ true
  inside n i = (((are_nodes_below O.bound (in_world O)).below n).0
      (Contains-filter (λ n. not (has_started o w n)) (nodes_of O.bound (in_world O)) n i).0).1

  pub is_late : (n : ℕ) → has_started o w n ≡ false → in_world O n ≡ true → Contains late n
  is_late n e i = filter-Contains (λ n. not (has_started o w n)) (nodes_of O.bound (in_world O)) n
      (((are_nodes_below O.bound (in_world O)).below n).1 (ltb-true n O.bound (and_parts _ (O.nodes n) i).0, i))
      (not_from_false (has_started o w n) e)

  abbrev pub gone : List ℕ
  gone = who_left o w

  pub distinct_gone : AreDistinct gone
  distinct_gone = Catching.distinct o w s

  pub ready : Ready O gone distinct_gone late w.world
  ready = record {
    fresh = λ n i. Catching.fresh o w s n (unstarted n i) (inside n i);
    waits = λ n d i j. Catching.waits o w s n (unstarted n i) (inside n i) d j;
    nothing = λ n f i out. Catching.downs o w s n (unstarted n i) (inside n i) f ∙ stays f out (left w.world f) refl;
  }
    where
      stays : (f : ℕ) → (Contains gone f → ⊥) → (b : Bool) → left w.world f ≡ b → (if b then Letter.Down ∷ [] else []) ≡ []
      stays f out true e = absurd (out (Catching.listed o w s f e))
      stays f out false e = refl

  -- the world in which they were told
  abbrev pub F : List WorldEvent
  F = all_downs O gone distinct_gone late

  abbrev pub u : World
  u = run O w.world F

  pub caught : CaughtUp O gone distinct_gone late w.world u
  caught = catch_up O gone distinct_gone late distinct_late w.world ready

  here : NothingIsLeft (of_nodes O) E w.world
  here = subst (NothingIsLeft (of_nodes O) E) (sym (named_runs_are_runs o es)) (of_worlds O E)

  there : NothingIsLeft (of_nodes O) (E ++ F) u
  there = subst (NothingIsLeft (of_nodes O) (E ++ F))
      (run-append O (opening_world O) E F ∙ ap (λ (v : World). run O v F) (sym (named_runs_are_runs o es))) (of_worlds O (E ++ F))

  -- for nodes that have started it is the same
  started_is_other : (c : ℕ) → IsUp o w c → Contains late c → ⊥
  started_is_other c up i = cc (unstarted c i, up.started)

  pub same : (c : ℕ) → IsUp o w c → u.node c ≡ w.world.node c
  same c up = caught.others c (started_is_other c up)

  pub left_same : (d : ℕ) → left u d ≡ left w.world d
  left_same d = ap (λ (l : Nodes). l d) caught.departures

  runs : (c : ℕ) → IsUp o w c → Runs O u c
  runs c up = (up.inside, left_same c ∙ up.stays)

  pub quiet : IsQuiet (of_names o) w → IsQuiet (of_nodes O) u
  quiet q f c i r = go (has_started o w c) refl
    where
      go : (b : Bool) → has_started o w c ≡ b → u.links.queue f c ≡ []
      go true e =
          let up : IsUp o w c = record { inside = r.0; started = e; stays = sym (left_same c) ∙ r.1 } in
          caught.elsewhere f c (started_is_other c up) ∙ q f c i up
      go false e = caught.emptied f c (is_late c e r.0)

  settled : IsSettled (of_names o) w → IsSettled (of_nodes O) u
  settled t = record { quiet = quiet t.quiet; retried = λ c op r e. go c op r e (has_started o w c) refl }
    where
      go : (c : ℕ) (op : Op) → Runs O u c → (u.node c).current ≡ Current.Waiting op → (b : Bool) → has_started o w c ≡ b → ⊥
      go c op r e true k =
          let up : IsUp o w c = record { inside = r.0; started = k; stays = sym (left_same c) ∙ r.1 } in
          t.retried c op up (ap (λ (v : Node). v.current) (sym (same c up)) ∙ e)
      go c op r e false k = cc (ap (λ (v : Node). v.current) (caught.fresh c (is_late c k r.0)), e)

  pub counts : (p : Process) (id : Id) (c : ℕ) → holds_count O (E ++ F) p id c ≡ holds_count O E p id c
  counts p id c = ap (λ (t : Tally). t.number) (tally-append O p id c (opening_world O) E F none)
      ∙ ap (λ (v : World). (tally_from O v F p id c behind).number) (sym (named_runs_are_runs o es))
      ∙ counts_kept O gone distinct_gone p id c late distinct_late w.world behind ready
      (subst (λ (v : World). IsSpent O gone distinct_gone p id c v behind) (sym (named_runs_are_runs o es))
      (spent_all O gone distinct_gone p id c E (opening_world O) none (λ q. refl)))
    where
      none : Tally
      none = record { number = 0; last = None }

      behind : Tally
      behind = tally_from O (opening_world O) E p id c none

  pub gone_same : (p : Process) → is_no_more u p ≡ is_no_more w.world p
  gone_same p = ap (λ (b : Bool). b || is_dead (u.node p.node).watch p.serial) (left_same p.node)
      ∙ ap (λ (x : Watch). left w.world p.node || is_dead x p.serial) (caught.watch p.node)

  dead_there : (p : Process) → IsKnownDead (of_names o) es w p → IsKnownDead (of_nodes O) (E ++ F) u p
  dead_there p e = ap (λ (d : Process → Bool). d p) caught.dead ∙ e

  has_grant : (c : ℕ) (g : Grant) → IsUp o w c → Contains (w.world.node c).locks g → Contains (u.node c).locks g
  has_grant c g up i = subst (λ (v : Node). Contains v.locks g) (sym (same c up)) i

  has_pair : (c : ℕ) (pair : Pair) → IsUp o w c → Contains (w.world.node c).replica.table pair
      → Contains (u.node c).replica.table pair
  has_pair c pair up i = subst (λ (v : Node). Contains v.replica.table pair) (sym (same c up)) i

  nothing : NothingIsLeft (of_names o) es w
  nothing = record {
    stand = λ c up id p. here.stand c (up.inside, up.stays) id p;
    locks = λ c q up id p. ap (λ (v : Node). count id p v.locks) (sym (same c up)) ∙ there.locks c (quiet q) (runs c up) id p
        ∙ counts p id c;
    grants = λ c q up g i. subst (λ (k : ℕ). 0 < k) (counts g.holder g.id c)
        (there.grants c (quiet q) (runs c up) g (has_grant c g up i));
    global = λ c b q up. ap (λ (v : Node). global_given v.locks b) (sym (same c up)) ∙ there.global c b (quiet q) (runs c up);
    holders = λ c q up g i. sym (gone_same g.holder) ∙ there.holders c (quiet q) (runs c up) g (has_grant c g up i);
    free = λ c q up id p alone less. ap (λ (v : Node). is_free_for id p v.locks) (sym (same c up))
        ∙ there.free c (quiet q) (runs c up) id p (λ x i h r. alone x i (subst (λ (k : ℕ). 0 < k) (counts x i c) h) r)
        (subst (λ (k : ℕ). k < last_count) (sym (counts p id c)) less);
    known = here.known;
    carried_out = λ p q up serial e. ap (λ (x : Watch). is_dead x p.serial) (sym (caught.watch p.node))
        ∙ there.carried_out p (quiet q) (runs p.node up) serial (dead_there p e);
    when_free = λ p f up serial e. here.when_free p f (up.inside, up.stays) serial e;
    departures = λ c d q up e. ap (λ (v : Node). v.replica.told d) (sym (same c up))
        ∙ there.departures c d (quiet q) (runs c up) (left_same d ∙ e);
    departed = λ c q up pair i. sym (left_same pair.owner.node)
        ∙ there.departed c (quiet q) (runs c up) pair (has_pair c pair up i);
    owners = λ c t up pair i. sym (gone_same pair.owner) ∙ there.owners c (settled t) (runs c up) pair (has_pair c pair up i);
    dead_owners = λ c t up pair i serial e.
        there.dead_owners c (settled t) (runs c up) pair (has_pair c pair up i) serial (dead_there pair.owner e);
  }

pub nothing_is_left : OfNames NothingIsLeft
nothing_is_left o es = nothing o es
