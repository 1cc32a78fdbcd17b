-- The rules of exits, departures and notices of them; and who is dead or to be struck at home.
use Rattle.std.proofs.Common.{ℕ, Bool, true, false, ◌==◌, ◌≡◌, None, List, [], ◌∷◌, ◌++◌, refl, sym, ap, ◌∙◌, subst}
use Rattle.std.specs.Prelude.{if◌then◌else◌, not, ◌&&◌, ◌||◌, fold, nat_lt}
use Rattle.std.specs.List.{list_any, All}
use Rattle.std.proofs.Math.Path.{fun_ext, ap₂}
use Rattle.std.proofs.lemmas.Bool.{eq-eqb, eqb-true, and_from, or_left, or_right}
use Rattle.std.proofs.lemmas.List.Elements.{All-nil, All-cons, All-contains}
use Rattle.registry_model.specs.Process.{Process, is_process, Nodes, nodes_of, at}
use Rattle.registry_model.specs.Registry.{Registry, Replica, replica_of}
use Rattle.registry_model.specs.Table.{is_rising}
use Rattle.registry_model.specs.History.{Entry, Exit, Left, Told, effect as effect_of, Standing, hold_at, with_effect, after}
use Rattle.protocol_model.specs.Letter.{Letter}
use Rattle.protocol_model.specs.Watch.{is_dead}
use Rattle.protocol_model.specs.Node.{Node, Current}
use Rattle.protocol_model.specs.Reading.{bereft}
use Rattle.protocol_model.specs.Turn.{Turn, sent_to}
use Rattle.protocol_model.specs.World.{Opening, in_world, in_cluster, World, At, apply, leaver_closed_out}
use Rattle.protocol_model.specs.Event.{Event}
use Rattle.registry_model.proofs.Updates.{by_test}
use Rattle.moves.proofs.Indices.{both}
use Rattle.moves.proofs.Rules.{IsTold, Exits, Leaves, Kills, BeginsStrike, kills_in, May, turn_by, effect}
use Rattle.moves.proofs.Invariants.{Each, IsProper, Proper, Exclusive, JoinsKnown}
use Rattle.replicas.proofs.Mail.{carried, carried-bereft}
use Rattle.replicas.proofs.Departures.{replica_of-told, replica_of-untold}
use Rattle.replicas.proofs.Histories.{IsLegal-append, hold_at-with_effect}
use Rattle.replicas.proofs.Scenes.{Nothing, doing_of, is_busy, struck_by, struck_of, mine, AllDead, Scene, scene_of, AreStruck, Kept}
use Rattle.replicas.proofs.BaseLetters.{Each-mine, mine-silent, silent-each}
use Rattle.replicas.proofs.Steps.{at-itself, sent-nothing, stepped, scene_of-turn, scene_of-silent}
use Rattle.replicas.proofs.Passing.{Passes, passed_scene, Kept-passed, Kept-dead, Kept-struck, list_any-either, owed_dead}
use Rattle.replicas.proofs.Bridge.{standing, groups}
use Rattle.replicas.proofs.Known.{Known, busy_writing, kills_in-other}
use Rattle.replicas.proofs.Deciding.{same_scene}
use Rattle.replicas.proofs.Reading.{same_history}

-- the dead of a list are dead
all_of_dead : (r : Registry) (ps : List Process) → AllDead r ps → All (λ p. r.dead p ≡ true) ps
all_of_dead r [] h = All-nil (λ p. r.dead p ≡ true)
all_of_dead r (p ∷ ps) h = All-cons (λ p. r.dead p ≡ true) p ps h.0 (all_of_dead r ps h.1)

module _ (o : Opening) (w : World) (P : Proper o w) (X : Exclusive o w) (J : JoinsKnown o w) (I : Known o w)
    (a : ℕ) where
  abbrev s : Standing
  s = standing o w P X J I

  abbrev S : Scene
  S = scene_of o w

  abbrev v : Node
  v = w.node a

  -- the scene after a turn with an entry that leaves open who is joined
  stepped-passed : (u : Turn) (e : Entry) (turns : ℕ → Replica → Replica) (dead : ℕ → List ℕ) → u.entries ≡ e ∷ []
      → after s e ≡ with_effect e s
      → ((c : ℕ) → (effect_of e s.registry).joined c ≡ s.registry.joined c)
      → at S.replica a u.node.replica ≡ (λ c. turns c (S.replica c)) → doing_of u.node.current ≡ doing_of v.current
      → struck_by u.node.current ++ struck_of u.node.queue ≡ struck_by v.current ++ struck_of v.queue
      → at S.dead a u.node.watch.dead ≡ dead
      → stepped o a w u S.mail ≡ passed_scene o S e turns S.gone dead S.mail
  stepped-passed u e turns dead entries passes same t d k n =
      same_scene (stepped o a w u S.mail) (passed_scene o S e turns S.gone dead S.mail)
      (ap (λ (es : List Entry). (fold after s es).registry) entries ∙ ap (λ (t : Standing). t.registry) passes)
      (fun_ext (λ c. ap (λ (es : List Entry). hold_at (fold after s es) c) entries
      ∙ ap (λ (t : Standing). hold_at t c) passes ∙ hold_at-with_effect e s c (same c)))
      refl t (at-itself S.doing a (doing_of u.node.current) d)
      (at-itself S.struck a (struck_by u.node.current ++ struck_of u.node.queue) k) n refl

  -- node a is told that f has left
  abbrev told_turns : ℕ → ℕ → Replica → Replica
  told_turns f c x = if c == a then bereft f x else x

  Passes-told : (f : ℕ) → Passes o S (Told a f) (told_turns f) S.gone S.dead S.mail
  Passes-told f = record {
    joined = refl;
    shows = λ r c. by_test a (λ c t. replica_of (effect_of (Told a f) r) c
        ≡ (if t then bereft f (replica_of r c) else replica_of r c))
        (replica_of-told r a f) (λ c ne. replica_of-untold r a f c ne) c;
    commutes = λ c l x rises. go c (c == a) l x rises;
    left = I.kept.departed;
    all_dead = I.kept.dead;
    stays = λ c g. g;
    busy = λ x b. (I.kept.writers x b).1;
    same_mail = λ x y g. refl;
  }
    where
      go : (c : ℕ) (b : Bool) (l : Letter) (x : Replica) → is_rising x.table ≡ true
          → carried c l (if b then bereft f x else x) ≡ (if b then bereft f (carried c l x) else carried c l x)
      go c true l x rises = carried-bereft c l f x rises
      go c false l x rises = refl

  -- a notice of a departure is taken in
  pub Known-told : (f : ℕ) → May o a w (IsTold f) → Known o (effect o a (IsTold f) w)
  Known-told f m = record {
    legal = IsLegal-append (in_cluster o) w.history (Told a f) I.legal
        (I.kept.departed f ∙ (subst (Each (IsProper o w f a)) m.front.1.1 (P.letters f a m.running)).0.0);
    kept = subst (Kept o) (sym (scene_of-silent o a w (IsTold f) refl refl m.front refl
        ∙ stepped-passed (turn_by o a w (IsTold f)) (Told a f) (told_turns f) S.dead refl refl (λ c. refl)
        (fun_ext (by_test a (λ c t. (if t then bereft f v.replica else S.replica c)
        ≡ (if t then bereft f (S.replica c) else S.replica c)) refl (λ c ne. refl)))
        refl refl (at-itself S.dead a v.watch.dead refl)))
        (Kept-passed o S (Told a f) (told_turns f) S.gone S.dead S.mail I.kept (groups o w P X J I) (Passes-told f));
  }

  -- a process of this node exits
  abbrev exit_dead : Process → ℕ → List ℕ
  exit_dead p = at S.dead a (v.watch.dead ++ p.serial ∷ [])

  Passes-exit : (p : Process) → p.node ≡ a → Passes o S (Exit p) (λ c x. x) S.gone (exit_dead p) S.mail
  Passes-exit p i = record {
    joined = refl;
    shows = λ r c. refl;
    commutes = λ c l x rises. refl;
    left = I.kept.departed;
    all_dead = λ x t. by_test a (λ x b. list_any (λ d. d == t) (if b then v.watch.dead ++ p.serial ∷ [] else S.dead x)
        ≡ true
        → (is_process (record { node = x; serial = t }) p || s.registry.dead (record { node = x; serial = t }))
        ≡ true)
        (λ h. list_any-either t p.serial v.watch.dead _
        (λ k. or_right (is_process (record { node = a; serial = t }) p)
        (s.registry.dead (record { node = a; serial = t })) (I.kept.dead a t k))
        (λ k. or_left ((a == p.node) && (t == p.serial)) (s.registry.dead (record { node = a; serial = t }))
        (and_from _ _ (eq-eqb a p.node (sym i)) (eq-eqb t p.serial (sym k)))) h)
        (λ x ne h. or_right (is_process (record { node = x; serial = t }) p)
        (s.registry.dead (record { node = x; serial = t })) (I.kept.dead x t h)) x;
    stays = λ c g. g;
    busy = λ x b. (I.kept.writers x b).1;
    same_mail = λ x y g. refl;
  }

  -- an exit
  pub Known-exited : (p : Process) → May o a w (Exits p) → Known o (effect o a (Exits p) w)
  Known-exited p m = record {
    legal = IsLegal-append (in_cluster o) w.history (Exit p) I.legal refl;
    kept = subst (Kept o)
        (sym (scene_of-silent o a w (Exits p) refl refl tt
        (silent-each (nodes_of o.bound v.replica.members) (Letter.ReleaseOf p) refl)
        ∙ stepped-passed (turn_by o a w (Exits p)) (Exit p) (λ c x. x) (exit_dead p) refl refl (λ c. refl)
        (at-itself S.replica a v.replica refl) refl refl refl))
        (Kept-passed o S (Exit p) (λ c x. x) S.gone (exit_dead p) S.mail I.kept (groups o w P X J I)
        (Passes-exit p
        (eqb-true p.node a (both (p.node == a) (not (p.serial == 0))
        (both ((p.node == a) && not (p.serial == 0)) (not (nat_lt v.watch.last_serial p.serial)) m.tested.0).0).0)));
  }

  -- the node leaves
  abbrev cleared : (ℕ → ℕ → List Letter) → ℕ → ℕ → List Letter
  cleared mail x y = if y == a then [] else mail x y

  abbrev left_too : Nodes
  left_too = at S.gone a true

  Passes-left : is_busy (doing_of v.current) ≡ false → Passes o S (Left a) (λ c x. x) left_too S.dead (cleared S.mail)
  Passes-left idle = record {
    joined = refl;
    shows = λ r c. refl;
    commutes = λ c l x rises. refl;
    left = λ d. by_test a (λ d t. (if t then true else s.registry.left d) ≡ (if t then true else S.gone d)) refl
        (λ d ne. I.kept.departed d) d;
    all_dead = I.kept.dead;
    stays = λ c. by_test a (λ c t. (if t then true else S.gone c) ≡ false → S.gone c ≡ false) (λ g. cc)
        (λ c ne g. g) c;
    busy = λ x. by_test a (λ x t. is_busy (S.doing x) ≡ true → (if t then true else S.gone x) ≡ false) (λ b. cc)
        (λ x ne b. (I.kept.writers x b).1) x;
    same_mail = λ x y. by_test a (λ y t. (if t then true else S.gone y) ≡ false
        → (if t then [] else S.mail x y) ≡ S.mail x y) (λ g. cc) (λ y ne g. refl) y;
  }

  abbrev leave_turn : Turn
  leave_turn = turn_by o a w Leaves

  -- a scene that node a has left
  abbrev closed_scene : Scene → Scene
  closed_scene T = record T { gone = at T.gone a true; mail = cleared T.mail }

  scene_of-closed : (w2 : World) → scene_of o (leaver_closed_out (At a Event.Leave) w2) ≡ closed_scene (scene_of o w2)
  scene_of-closed w2 = ap (λ (mail : ℕ → ℕ → List Letter). record (closed_scene (scene_of o w2)) { mail = mail })
      (fun_ext (λ x. fun_ext (λ y. go x y (y == a))))
    where
      go : (x y : ℕ) (b : Bool) → mine (if b then [] else w2.links.queue x y)
          ≡ (if b then [] else mine (w2.links.queue x y))
      go x y true = refl
      go x y false = refl

  -- a departure
  pub Known-left : May o a w Leaves → Known o (effect o a Leaves w)
  Known-left m = record {
    legal = IsLegal-append (in_cluster o) w.history (Left a) I.legal
        (and_from _ _ (ap not (I.kept.departed a ∙ m.running))
        (ap not (I.kept.holds a ∙ busy_writing v.current ∙ m.tested)));
    kept = subst (Kept o)
        (sym (scene_of-closed (apply a leave_turn w) ∙ ap closed_scene (scene_of-turn o a w None leave_turn
        ∙ ap (stepped o a w leave_turn) (sent-nothing a w.links.closed (λ y. mine (sent_to y leave_turn.sends)) S.mail
        (λ y. mine-silent leave_turn.sends y (silent-each
        (nodes_of o.bound (λ c. in_world o c && not (c == a))) Letter.Down refl)))
        ∙ stepped-passed leave_turn (Left a) (λ c x. x) S.dead refl refl (λ c. refl)
        (at-itself S.replica a v.replica refl) refl refl (at-itself S.dead a v.watch.dead refl))))
        (Kept-passed o S (Left a) (λ c x. x) left_too S.dead (cleared S.mail) I.kept (groups o w P X J I)
        (Passes-left (busy_writing v.current ∙ m.tested)));
  }

  -- a process of this node dies by a join
  pub Known-killed : (f : ℕ) (l : Letter) (p : Process) (receivers : Nodes) → May o a w (Kills f l p receivers)
      → Known o (effect o a (Kills f l p receivers) w)
  Known-killed f l p receivers m = record {
    legal = same_history o w P X J I a (Kills f l p receivers) refl;
    kept = subst (Kept o)
        (sym (scene_of-silent o a w (Kills f l p receivers) refl refl tt
        (silent-each (nodes_of o.bound receivers) (Letter.ReleaseOf p) refl)
        ∙ same_scene (stepped o a w (turn_by o a w (Kills f l p receivers)) S.mail)
        (record S { dead = exit_dead p }) refl refl refl
        (at-itself S.replica a v.replica refl) (at-itself S.doing a (doing_of v.current) refl)
        (at-itself S.struck a (struck_by v.current ++ struck_of v.queue) refl) refl refl))
        (Kept-dead o S I.kept a (v.watch.dead ++ p.serial ∷ [])
        (λ t. list_any-either t p.serial v.watch.dead _ (I.kept.dead a t)
        (λ k. ap₂ (λ (n t : ℕ). let q : Process = record { node = n; serial = t } in s.registry.dead q) (sym same)
        (sym k) ∙ is_dead_now)));
  }
    where
      same : p.node ≡ a
      same = eqb-true p.node a (both (p.node == a) (not (p.serial == 0))
          (both ((p.node == a) && not (p.serial == 0)) (not (is_dead v.watch p.serial)) m.tested.4).0).0

      killed : Each (λ l. AllDead s.registry (kills_in l)) (w.links.queue f a)
      killed = Each-mine (λ l. AllDead s.registry (kills_in l)) (w.links.queue f a) (kills_in-other s.registry)
          (I.kept.kills f a m.running)

      is_dead_now : s.registry.dead p ≡ true
      is_dead_now = All-contains (λ q. s.registry.dead q ≡ true) (kills_in l) p
          (all_of_dead s.registry (kills_in l)
          (subst (Each (λ l. AllDead s.registry (kills_in l))) m.tested.2.1 killed).0) m.tested.3

  -- the strike of a dead process begins
  pub Known-striking : (serial : ℕ) → May o a w (BeginsStrike serial) → Known o (effect o a (BeginsStrike serial) w)
  Known-striking serial m = record {
    legal = same_history o w P X J I a (BeginsStrike serial) refl;
    kept = subst (Kept o) (sym (scene_of-silent o a w (BeginsStrike serial) refl refl tt refl
        ∙ same_scene (stepped o a w (turn_by o a w (BeginsStrike serial)) S.mail)
        (record S { struck = at S.struck a (p ∷ struck_of v.queue) }) refl refl refl
        (at-itself S.replica a v.replica refl) (at-itself S.doing a Nothing (sym (ap doing_of m.tested.0))) refl
        (at-itself S.dead a v.watch.dead refl) refl))
        (Kept-struck o S I.kept a (p ∷ struck_of v.queue) (
          (refl, I.kept.dead a serial (owed_dead a v.replica.table v.watch.dead serial m.tested.1)),
          subst (λ (c : Current). AreStruck o S a (struck_by c ++ struck_of v.queue)) m.tested.0 (I.kept.struck a),
        ));
  }
    where
      p : Process
      p = record { node = a; serial = serial }
