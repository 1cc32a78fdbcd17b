-- Nothing is left over in worlds of which some nodes never start: nothing is in the world in which those were told of all that have left, and
-- that is the same for all others.
use Rattle.std.proofs.Common.{ℕ, Bool, true, false, ◌≡◌, ◌<◌, List, [], ◌∷◌, ◌++◌, refl, sym, ap, subst, ◌∙◌}
use Rattle.std.specs.Prelude.{Contains, None, not, ◌&&◌, ◌||◌, nat_lt, if◌then◌else◌, filter}
use Rattle.std.proofs.lemmas.Bool.{and_parts, ltb-true, not-true, not_from_false}
use Rattle.registry_model.specs.Process.{Process, Nodes, nobody, nodes_of}
use Rattle.registry_model.specs.Table.{Pair}
use Rattle.registry_model.proofs.NodeLists.{are_nodes_below}
use Rattle.protocol_model.specs.Letter.{Letter, Id}
use Rattle.protocol_model.specs.LockTable.{Grant, count, last_count, is_free_for}
use Rattle.protocol_model.specs.Watch.{Watch, is_dead}
use Rattle.protocol_model.specs.Node.{Node, Op, Current}
use Rattle.protocol_model.specs.Course.{global_given}
use Rattle.protocol_model.specs.World.{Opening, in_world, in_cluster, World, left, WorldEvent, opening_world, run}
use Rattle.protocol_model.specs.ClientLocks.{is_no_more, Tally, tally_from, holds_count}
use Rattle.protocol_model.specs.Quiet.{Runs}
use Rattle.lock_answers.proofs.Nothing.{nothing_is_left as of_worlds}
use Rattle.creations.specs.SomeStarted.{is_of_started, RunsOnce, of_started, MayStart}
use Rattle.lock_answers.specs.Worlds.{of_nodes, IsQuiet, IsSettled}
use Rattle.lock_answers.specs.Leftovers.{IsKnownDead, NothingIsLeft}
use Rattle.protocol_model.proofs.Courses.{run-append}
use Rattle.creations.proofs.NamedRuns.{tally-append}
use Rattle.creations.proofs.Lists.{Contains-filter, filter-Contains, rise-filter, nodes_rise, distinct_of}
use Rattle.creations.proofs.Standing.{opening_fresh}
use Rattle.creations.proofs.Telling.{AreDistinct, IsFresh}
use Rattle.creations.proofs.SomeApart.{may_move, starts_moves, never, never_moves, Stands, never_joined, always_stands}
use Rattle.creations.proofs.CaughtUp.{all_downs, Ready, CaughtUp, catch_up, spent_all, counts_kept}

module _ (o : Opening) (started : Nodes) (M : MayStart o started) (es : List WorldEvent) where
  abbrev pub E : List WorldEvent
  E = filter (is_of_started o started) es

  abbrev pub w : World
  w = run o (opening_world o) E

  abbrev pub S : Nodes
  S = may_move o started

  pub s : Stands o started w
  s = always_stands o started M es

  -- the nodes of the world for which this is so
  abbrev those : Nodes → List ℕ
  those p = filter p (nodes_of o.bound (in_world o))

  distinct_those : (p : Nodes) → AreDistinct (those p)
  distinct_those p = distinct_of (those p) (rise-filter p (nodes_of o.bound (in_world o)) (nodes_rise o.bound (in_world o)))

  is_those : (p : Nodes) (n : ℕ) → Contains (those p) n → (in_world o n ≡ true) × (p n ≡ true)
  is_those p n i =
      let known : Contains (nodes_of o.bound (in_world o)) n × (p n ≡ true) = Contains-filter p (nodes_of o.bound (in_world o)) n i in
      ((((are_nodes_below o.bound (in_world o)).below n).0 known.0).1, known.1)

  of_those : (p : Nodes) (n : ℕ) → in_world o n ≡ true → p n ≡ true → Contains (those p) n
  of_those p n i e = filter-Contains p (nodes_of o.bound (in_world o)) n
      (((are_nodes_below o.bound (in_world o)).below n).1 (ltb-true n o.bound (and_parts (nat_lt n o.bound) (o.nodes n) i).0, i)) e

  -- the nodes that never start
  abbrev pub late : List ℕ
  late = those (λ n. not (S n))

  pub distinct_late : AreDistinct late
  distinct_late = distinct_those (λ n. not (S n))

  pub unstarted : (n : ℕ) → Contains late n → S n ≡ false
  unstarted n i = not-true (S n) (is_those (λ n. not (S n)) n i).1

  pub inside : (n : ℕ) → Contains late n → in_world o n ≡ true
  inside n i = (is_those (λ n. not (S n)) n i).0

  pub is_late : (n : ℕ) → S n ≡ false → Contains late n
  is_late n e = of_those (λ n. not (S n)) n (never o started n e).1 (not_from_false (S n) e)

  -- and those that have left
  abbrev pub gone : List ℕ
  gone = those (left w)

  pub distinct_gone : AreDistinct gone
  distinct_gone = distinct_those (left w)

  has_left : (d : ℕ) → Contains gone d → left w d ≡ true
  has_left d i = (is_those (left w) d i).1

  -- who never starts has nothing, and only the `Down` of each node that has left waits for it
  pub fresh : (n : ℕ) → Contains late n → IsFresh o n w nobody
  fresh n i = record {
    inside = inside n i;
    stays = s.apart.stays n (unstarted n i);
    node = s.apart.node n (unstarted n i) ∙ opening_fresh (in_cluster o) n (never_joined o started M n (unstarted n i));
  }

  downs : (n d : ℕ) → Contains late n → w.links.queue d n ≡ (if left w d then Letter.Down ∷ [] else [])
  downs n d i = s.apart.told d n (unstarted n i)
      ∙ ap (λ (b : Bool). if left w d && b then Letter.Down ∷ [] else []) (inside n i)
      ∙ ap (λ (b : Bool). if b then Letter.Down ∷ [] else []) (plain_and (left w d))
    where
      plain_and : (b : Bool) → (b && true) ≡ b
      plain_and true = refl
      plain_and false = refl

  pub ready : Ready o gone distinct_gone late w
  ready = record {
    fresh = fresh;
    waits = λ n d i j. record {
      inside = s.inside d (has_left d j);
      other = λ same. cc (has_left d j, ap (left w) same, s.apart.stays n (unstarted n i));
      letter = downs n d i ∙ ap (λ (b : Bool). if b then Letter.Down ∷ [] else []) (has_left d j);
    };
    nothing = λ n f i out. downs n f i ∙ stays f out (left w f) refl;
  }
    where
      stays : (f : ℕ) → (Contains gone f → ⊥) → (b : Bool) → left w f ≡ b → (if b then Letter.Down ∷ [] else []) ≡ []
      stays f out true e = absurd (out (of_those (left w) f (s.inside f e) e))
      stays f out false e = refl

  -- the world in which they were told
  abbrev pub F : List WorldEvent
  F = all_downs o gone distinct_gone late

  abbrev pub u : World
  u = run o w F

  pub caught : CaughtUp o gone distinct_gone late w u
  caught = catch_up o gone distinct_gone late distinct_late w ready

  here : NothingIsLeft (of_nodes o) E w
  here = of_worlds o E

  there : NothingIsLeft (of_nodes o) (E ++ F) u
  there = subst (NothingIsLeft (of_nodes o) (E ++ F)) (run-append o (opening_world o) E F) (of_worlds o (E ++ F))

  -- for nodes that start it is the same
  started_is_other : (c : ℕ) → RunsOnce o started w c → Contains late c → ⊥
  started_is_other c up i = cc (unstarted c i, starts_moves o started c up.starts)

  pub same : (c : ℕ) → RunsOnce o started w c → u.node c ≡ w.node c
  same c up = caught.others c (started_is_other c up)

  pub left_same : (d : ℕ) → left u d ≡ left w d
  left_same d = ap (λ (l : Nodes). l d) caught.departures

  runs : (c : ℕ) → RunsOnce o started w c → Runs o u c
  runs c up = (up.inside, left_same c ∙ up.stays)

  pub quiet : IsQuiet (of_started o started) w → IsQuiet (of_nodes o) u
  quiet q f c i r = go (started c) refl
    where
      go : (b : Bool) → started c ≡ b → u.links.queue f c ≡ []
      go true e =
          let up : RunsOnce o started w c = record { inside = r.0; starts = e; stays = sym (left_same c) ∙ r.1 } in
          caught.elsewhere f c (started_is_other c up) ∙ q f c i up
      go false e = caught.emptied f c (is_late c (never_moves o started c e r.0))

  settled : IsSettled (of_started o started) w → IsSettled (of_nodes o) u
  settled t = record { quiet = quiet t.quiet; retried = λ c op r e. go c op r e (started c) refl }
    where
      go : (c : ℕ) (op : Op) → Runs o u c → (u.node c).current ≡ Current.Waiting op → (b : Bool) → started c ≡ b → ⊥
      go c op r e true k =
          let up : RunsOnce o started w c = record { inside = r.0; starts = k; stays = sym (left_same c) ∙ r.1 } in
          t.retried c op up (ap (λ (v : Node). v.current) (sym (same c up)) ∙ e)
      go c op r e false k = cc (ap (λ (v : Node). v.current) (caught.fresh c (is_late c (never_moves o started c k r.0))), e)

  pub counts : (p : Process) (id : Id) (c : ℕ) → holds_count o (E ++ F) p id c ≡ holds_count o E p id c
  counts p id c = ap (λ (t : Tally). t.number) (tally-append o p id c (opening_world o) E F none)
      ∙ counts_kept o gone distinct_gone p id c late distinct_late w behind ready
      (spent_all o gone distinct_gone p id c E (opening_world o) none (λ q. refl))
    where
      none : Tally
      none = record { number = 0; last = None }

      behind : Tally
      behind = tally_from o (opening_world o) E p id c none

  pub gone_same : (p : Process) → is_no_more u p ≡ is_no_more w p
  gone_same p = ap (λ (b : Bool). b || is_dead (u.node p.node).watch p.serial) (left_same p.node)
      ∙ ap (λ (x : Watch). left w p.node || is_dead x p.serial) (caught.watch p.node)

  dead_there : (p : Process) → IsKnownDead (of_started o started) es w p → IsKnownDead (of_nodes o) (E ++ F) u p
  dead_there p e = ap (λ (d : Process → Bool). d p) caught.dead ∙ e

  has_grant : (c : ℕ) (g : Grant) → RunsOnce o started w c → Contains (w.node c).locks g → Contains (u.node c).locks g
  has_grant c g up i = subst (λ (v : Node). Contains v.locks g) (sym (same c up)) i

  has_pair : (c : ℕ) (pair : Pair) → RunsOnce o started w c → Contains (w.node c).replica.table pair
      → Contains (u.node c).replica.table pair
  has_pair c pair up i = subst (λ (v : Node). Contains v.replica.table pair) (sym (same c up)) i

  pub nothing : NothingIsLeft (of_started o started) es w
  nothing = record {
    stand = λ c up id p. here.stand c (up.inside, up.stays) id p;
    locks = λ c q up id p. ap (λ (v : Node). count id p v.locks) (sym (same c up)) ∙ there.locks c (quiet q) (runs c up) id p
        ∙ counts p id c;
    grants = λ c q up g i. subst (λ (k : ℕ). 0 < k) (counts g.holder g.id c)
        (there.grants c (quiet q) (runs c up) g (has_grant c g up i));
    global = λ c b q up. ap (λ (v : Node). global_given v.locks b) (sym (same c up)) ∙ there.global c b (quiet q) (runs c up);
    holders = λ c q up g i. sym (gone_same g.holder) ∙ there.holders c (quiet q) (runs c up) g (has_grant c g up i);
    free = λ c q up id p alone less. ap (λ (v : Node). is_free_for id p v.locks) (sym (same c up))
        ∙ there.free c (quiet q) (runs c up) id p (λ x i h r. alone x i (subst (λ (k : ℕ). 0 < k) (counts x i c) h) r)
        (subst (λ (k : ℕ). k < last_count) (sym (counts p id c)) less);
    known = here.known;
    carried_out = λ p q up serial e. ap (λ (x : Watch). is_dead x p.serial) (sym (caught.watch p.node))
        ∙ there.carried_out p (quiet q) (runs p.node up) serial (dead_there p e);
    when_free = λ p f up serial e. here.when_free p f (up.inside, up.stays) serial e;
    departures = λ c d q up e. ap (λ (v : Node). v.replica.told d) (sym (same c up))
        ∙ there.departures c d (quiet q) (runs c up) (left_same d ∙ e);
    departed = λ c q up pair i. sym (left_same pair.owner.node)
        ∙ there.departed c (quiet q) (runs c up) pair (has_pair c pair up i);
    owners = λ c t up pair i. sym (gone_same pair.owner) ∙ there.owners c (settled t) (runs c up) pair (has_pair c pair up i);
    dead_owners = λ c t up pair i serial e.
        there.dead_owners c (settled t) (runs c up) pair (has_pair c pair up i) serial (dead_there pair.owner e);
  }
