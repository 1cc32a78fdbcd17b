-- What each rule makes of a world in which refused registrars ask again, as long as nobody calls, exits or leaves.
use mathlib.Core.Logic.{◌⊎◌}
use Rattle.std.proofs.Common.{ℕ, Bool, true, false, ◌==◌, ◌≡◌, Option, Some, None, List, [], ◌∷◌, ◌++◌, refl, sym, ap, subst, ◌∙◌, inl, inr}
use Rattle.std.specs.Prelude.{not, ◌&&◌, ◌||◌, Contains, if◌then◌else◌}
use Rattle.std.proofs.Math.Path.{fun_ext}
use Rattle.std.proofs.lemmas.Bool.{cases_eq, eq-eqb, eqb-true}
use Rattle.registry_model.specs.Process.{Process, Nodes, nodes_of}
use Rattle.registry_model.specs.Call.{NameCall, Reply, Joined, reply_to}
use Rattle.registry_model.specs.Registry.{Replica}
use Rattle.registry_model.specs.History.{Entry}
use Rattle.registry_model.proofs.Lists.{Contains-front, Contains-nil}
use Rattle.registry_model.proofs.Updates.{by_test, at_same}
use Rattle.protocol_model.specs.Round.{Mark, Out, Later, Owes, Granted, Refused, Lost, Gone, Round, rest, is_owes, is_granted, has_granted, greatest, opens, answer, down, begin, Ending, ending}
use Rattle.protocol_model.specs.Letter.{Id, Global, Client, Letter}
use Rattle.protocol_model.specs.LockTable.{is_free_for, give_back, Locks}
use Rattle.protocol_model.specs.Watch.{owed}
use Rattle.protocol_model.specs.Node.{Node, Op, Current, LockPhase, LockCall, call_of, targets}
use Rattle.protocol_model.specs.Turn.{Turn, begun, send_all, keep_call, sent_to}
use Rattle.protocol_model.specs.Registrar.{registrar}
use Rattle.protocol_model.specs.Client.{is_spent, in_phase, close_call, give_lock}
use Rattle.protocol_model.specs.Reading.{judge}
use Rattle.protocol_model.specs.World.{Opening, in_world, World, left, join_number}
use Rattle.no_dead_end.proofs.Rules
use Rattle.no_dead_end.proofs.Rules.{Rule, Taken, FrontTaken, kills_in, awaits, IsHeld}
use Rattle.no_dead_end.proofs.Indices.{greatest_in}
use Rattle.no_dead_end.proofs.Invariants.{Each, IsUp}
use Rattle.no_dead_end.proofs.SendTests.{all_pass, pass_each}
use Rattle.no_dead_end.proofs.Sends.{to_each, sent_to-one}
use Rattle.no_dead_end.proofs.Rounds.{answer_boss, given_back}
use Rattle.no_dead_end.proofs.Base.{is_leave, effect-turn, after_turn, each-one, posted-here}
use Rattle.no_dead_end.proofs.LockTables.{is_global, globals, Row, grants_of, share, once, globals-grant-client, globals-give_back-client, is_free_for-globals, grant-row, one_share}
use Rattle.no_dead_end.proofs.Locking.{IsNamed, BossFirst, IsRound, is_unasked, call_of-client}
use Rattle.no_dead_end.proofs.Sessions.{Stage, Request, Returns, Session, fits, mark_in, requests_at, share_at, found, found-append, request_in}
use Rattle.no_dead_end.proofs.Sessions
use Rattle.no_dead_end.proofs.Families.{Whole}
use Rattle.no_dead_end.proofs.Grounds.{Base}
use Rattle.no_dead_end.proofs.Quiet.{rid, at_ease, registrars}
use Rattle.no_dead_end.proofs.Rest.{WorkRests}
use Rattle.getting_through.specs.GettingThrough.{reply_now}
use Rattle.getting_through.proofs.Groups.{below, apart, member_runs, same_members}
use Rattle.getting_through.proofs.Storm.{is_mild, is_decision, ignored, no_returns, is_simple, Parts, parts_self, NoRequest, members, boss, Plain, IsMark, Active, Held, Asked, Still, Round_at, IsAt, Before, Asking, Again, DecidedIn, Goes, Turned, simple_sends, still_after, active_after}
use Rattle.getting_through.proofs.StormRounds.{marks_begin, marks_answer, marks_down, refused_by_boss, nobody_of}
use Rattle.no_dead_end.specs.Worlds.{of_nodes, IsQuiet}

module _ (o : Opening) (w : World) (W : Whole o w) (Q : IsQuiet (of_nodes o) w) (ops : ℕ → Option Op) (may : Nodes)
    (retries : (c : ℕ) (x : Op) → may c ≡ true → (w.node c).current ≡ Current.Waiting x → ops c ≡ Some x) where
  module _ (v : World) (B : Base o v) (C : Still o w ops v) (K : (c : ℕ) → IsAt o w ops c v) (t : ℕ) (up : IsUp o v t) where
    was_up : (c : ℕ) → IsUp o v c → IsUp o w c
    was_up c u = (u.0, sym (ap (λ (s : Nodes). s c) C.stay) ∙ u.1)

    is_up : (c : ℕ) → IsUp o w c → IsUp o v c
    is_up c u = (u.0, ap (λ (s : Nodes). s c) C.stay ∙ u.1)

    up_t : IsUp o w t
    up_t = was_up t up

    eases : (c : ℕ) → IsUp o w c → (x : Current) → (w.node c).current ≡ x → at_ease o w W Q x ≡ true
    eases c u x e = ap (at_ease o w W Q) (sym e) ∙ registrars o w W Q c u

    -- who asks
    pub asking : (c : ℕ) → IsUp o w c → (x : Op) (r : Round) → (v.node c).current ≡ Current.Asking x r
        → Round_at o w ops c x r × Active o w ops (boss o w ops c) v
    asking c u x r e = go (K c)
      where
        go : IsAt o w ops c v → Round_at o w ops c x r × Active o w ops (boss o w ops c) v
        go (Before k) = cc (eases c u (Current.Asking x r) (sym k ∙ e))
        go (Again y a k) = cc (k, e)
        go (Asking y s k R A) = (
          subst (λ (z : Op). Round_at o w ops c z r) (let i : y ≡ x = cc (k, e) in i)
              (subst (λ (z : Round). Round_at o w ops c y z) (let i : s ≡ r = cc (k, e) in i) R),
          A,
        )

    pub not_writing : (c : ℕ) → IsUp o w c → (x : Op) (s awaited : Nodes) (reply : Option Reply)
        → (v.node c).current ≡ Current.Writing x s awaited reply → ⊥
    not_writing c u x s awaited reply e = go (K c)
      where
        go : IsAt o w ops c v → ⊥
        go (Before k) = cc (eases c u (Current.Writing x s awaited reply) (sym k ∙ e))
        go (Again y a k) = cc (k, e)
        go (Asking y r k R A) = cc (k, e)

    idle : (v.node t).current ≡ Current.Free → ((v.node t).queue ≡ []) × (owed t (v.node t).replica.table (v.node t).watch ≡ None)
    idle e = go (K t)
      where
        go : IsAt o w ops t v → ((v.node t).queue ≡ []) × (owed t (v.node t).replica.table (v.node t).watch ≡ None)
        go (Again y a k) = cc (k, e)
        go (Asking y r k R A) = cc (k, e)
        go (Before k) = (
          (C.parts t).queue ∙ (W.started t (sym k ∙ e)).queue,
          ap (λ (r : Replica). owed t r.table (v.node t).watch) (C.parts t).replica
              ∙ ap (owed t (w.node t).replica.table) (C.parts t).watch ∙ (W.started t (sym k ∙ e)).strikes,
        )

    keeps_contact : (k m : ℕ) → (v.node t).replica.told m ≡ true → (v.node t).current ≡ Current.Joining k m → ⊥
    keeps_contact k m told e = go (K t)
      where
        go : IsAt o w ops t v → ⊥
        go (Again y a i) = cc (i, e)
        go (Asking y r i R A) = cc (i, e)
        go (Before i) = cc (
          sym (ap (λ (r : Replica). r.told m) (C.parts t).replica) ∙ told,
          subst (WorkRests o (w.node t).replica.told) (sym i ∙ e) (W.rest t up_t.0).work,
        )

    -- a letter that is read is plain
    front : (f : ℕ) (l : Letter) → in_world o f ≡ true → Rules.IsFront o t v f l → Plain o w ops f t l
    front f l inside F = (subst (Each (Plain o w ops f t)) F.1 (C.letters f t inside up)).0

    told_left : (f : ℕ) → (v.node t).replica.told f ≡ true → IsUp o w f → ⊥
    told_left f told u = cc (B.all.proper.told_left t f up.1 told, (is_up f u).1)

    boss_up : (c : ℕ) → IsUp o w c → IsUp o w (boss o w ops c)
    boss_up c u = member_runs o w W Q c u (boss o w ops c)
        (greatest_in o.bound (members o w ops c) c (below o w W Q c u c (W.base.all.proper.itself c u))
        (W.base.all.proper.itself c u))

    -- A turn in which the node's locks stay, or change so
    module _ (r : Rule) (e : is_leave r ≡ false) (m : Rules.May o t v r) where
      abbrev u : Turn
      u = Rules.turn_by o t v r

      abbrev l : Option Taken
      l = Rules.takes o t r

      -- what others are at stays, and so is who asks
      at_others : Turned o w ops v t u l → ((b : ℕ) → IsUp o w b → Active o w ops b v → Active o w ops b (after_turn t v u l))
          → IsAt o w ops t (after_turn t v u l) → (c : ℕ) → IsAt o w ops c (after_turn t v u l)
      at_others S A here c = elim (cases_eq c t) [
        | inl same ↦ subst (λ (x : ℕ). IsAt o w ops x (after_turn t v u l)) (sym same) here
        | inr ne ↦ go (K c) (by_test t (λ x z. (x ≡ t → ⊥) → (if z then u.node else v.node x).current ≡ (v.node x).current)
            (λ k. absurd (k refl)) (λ x nx k. refl) c ne)
      ]
        where
          go : IsAt o w ops c v → ((after_turn t v u l).node c).current ≡ (v.node c).current → IsAt o w ops c (after_turn t v u l)
          go (Before k) same = Before (same ∙ k)
          go (Again y a k) same = Again y a (same ∙ k)
          go (Asking y q k R H) same = Asking y q (same ∙ k) R (A (boss o w ops c) (boss_up c R.up) H)

      goes : Turned o w ops v t u l → ((b : ℕ) → IsUp o w b → Active o w ops b v → Active o w ops b (after_turn t v u l))
          → IsAt o w ops t (after_turn t v u l) → Goes o w ops v r (Rules.effect o t r v)
      goes S A here = subst (Goes o w ops v r) (effect-turn o t v r e)
          (inl (still_after o w ops v t u l C S, at_others S A here, A))

      -- locks that stay, and a letter that is no request
      actives : u.node.locks ≡ (v.node t).locks → NoRequest o w l → (b : ℕ) → IsUp o w b → Active o w ops b v
          → Active o w ops b (after_turn t v u l)
      actives same none b u_b = active_after o w ops v t u l b (is_up b u_b).1 (λ i. (m.front, none))
          (λ x k i s. (k, ap (λ (ls : Locks). share x (globals ls)) same ∙ s))

      at_same_current : u.node.current ≡ (v.node t).current
          → ((b : ℕ) → IsUp o w b → Active o w ops b v → Active o w ops b (after_turn t v u l))
          → IsAt o w ops t (after_turn t v u l)
      at_same_current same A = go (K t)
        where
          is : ((after_turn t v u l).node t).current ≡ (v.node t).current
          is = ap (λ (x : Node). x.current) (at_same v.node t u.node) ∙ same

          go : IsAt o w ops t v → IsAt o w ops t (after_turn t v u l)
          go (Before k) = Before (is ∙ k)
          go (Again y a k) = Again y a (is ∙ k)
          go (Asking y q k R H) = Asking y q (is ∙ k) R (A (boss o w ops t) (boss_up t R.up) H)

      -- a turn that changes calls alone
      calls_alone : Parts u.node (v.node t) → u.node.current ≡ (v.node t).current → u.node.locks ≡ (v.node t).locks
          → all_pass is_simple u.sends ≡ true → u.entries ≡ [] → NoRequest o w l → Goes o w ops v r (Rules.effect o t r v)
      calls_alone parts current locks sends entries none = goes (record {
        parts = parts;
        sends = simple_sends o w ops t u sends;
        locks = λ d s out. ap (λ (ls : Locks). share d (globals ls)) locks ∙ s;
        entries = entries;
      }) (actives locks none) (at_same_current current (actives locks none))

      -- its round goes on
      round_on : Parts u.node (v.node t) → u.node.locks ≡ (v.node t).locks → all_pass is_simple u.sends ≡ true → u.entries ≡ []
          → NoRequest o w l → (x : Op) (q : Round) → u.node.current ≡ Current.Asking x q → Round_at o w ops t x q
          → (Active o w ops (boss o w ops t) v ⊎ Active o w ops (boss o w ops t) (after_turn t v u l))
          → Goes o w ops v r (Rules.effect o t r v)
      round_on parts locks sends entries none x q is R A = goes (record {
        parts = parts;
        sends = simple_sends o w ops t u sends;
        locks = λ d s out. ap (λ (ls : Locks). share d (globals ls)) locks ∙ s;
        entries = entries;
      }) (actives locks none) (Asking x q (ap (λ (y : Node). y.current) (at_same v.node t u.node) ∙ is) R (by A))
        where
          by : (Active o w ops (boss o w ops t) v ⊎ Active o w ops (boss o w ops t) (after_turn t v u l))
              → Active o w ops (boss o w ops t) (after_turn t v u l)
          by (inl H) = actives locks none (boss o w ops t) (boss_up t R.up) H
          by (inr H) = H

      -- its operation is decided
      decides : is_decision r ≡ true → (x : Op) → ops t ≡ Some x → DecidedIn o w ops t x u.entries
          → Goes o w ops v r (Rules.effect o t r v)
      decides by_rule x may_x D = subst (Goes o w ops v r) (effect-turn o t v r e) (inr (
        record {
          node = t;
          op = x;
          runs = up_t;
          may = may_x;
          more = u.entries;
          history = ap (λ (h : List Entry). h ++ u.entries) C.history;
          decided = D;
        },
        by_rule,
      ))

    -- A request for the global lock
    module _ (f : ℕ) (inside : in_world o f ≡ true) (F : Rules.IsFront o t v f (Letter.SetLock (Global f) (registrar f)))
        (untold : (v.node t).replica.told f ≡ false) where
      runs : IsUp o v f
      runs = (inside, go (left w f) refl)
        where
          go : (b : Bool) → left w f ≡ b → left v f ≡ false
          go false e = ap (λ (s : Nodes). s f) C.stay ∙ e
          go true e = cc ((rid o w W Q t f up_t e).0, ap (λ (r : Replica). r.told f) (sym (C.parts t).replica), untold)

      S : (s : Stage) × Session v f t s
      S = B.all.locks.pairs f t runs up

      asks_first : (s : Stage) → (more : List Request) → Sessions.Asks ∷ more ≡ requests_at s → s ≡ Sessions.Asked
      asks_first Sessions.Asked more e = refl
      asks_first Sessions.Free more e = cc e
      asks_first Sessions.Returning more e = cc e
      asks_first Sessions.AskedAgain more e = cc e
      asks_first Sessions.GrantComing more e = cc e
      asks_first Sessions.RefusalComing more e = cc e
      asks_first Sessions.HasGrant more e = cc e
      asks_first Sessions.HasRefusal more e = cc e

      stage : S.0 ≡ Sessions.Asked
      stage = asks_first S.0 (found request_in F.0) (sym (ap (found request_in) F.1) ∙ S.1.requests)

      none : share f (globals (v.node t).locks) ≡ None
      none = S.1.share ∙ ap share_at stage

      owing : is_owes (mark_in (v.node f).current t) ≡ true
      owing = subst (λ (s : Stage). fits s (mark_in (v.node f).current t) ≡ true) stage S.1.mark

      -- a node that asks, or has the grant of, another than its boss has its boss's grant
      has_boss : (c : ℕ) → IsUp o w c → (is_owes (mark_in (v.node c).current t) || is_granted (mark_in (v.node c).current t)) ≡ true
          → (t ≡ boss o w ops c → ⊥)
          → (members o w ops c t ≡ true) × (share c (globals (v.node (boss o w ops c)).locks) ≡ once)
      has_boss c uc h other = go (v.node c).current refl h
        where
          go : (x : Current) → (v.node c).current ≡ x → (is_owes (mark_in x t) || is_granted (mark_in x t)) ≡ true
              → (members o w ops c t ≡ true) × (share c (globals (v.node (boss o w ops c)).locks) ≡ once)
          go Current.Free e k = cc k
          go (Current.Waiting y) e k = cc k
          go (Current.Joining i j) e k = cc k
          go (Current.Writing y s awaited reply) e k = absurd (not_writing c uc y s awaited reply e)
          go (Current.Asking y r) e k = (member (r.mark t) (R.marks t) k, P.1.share ∙ ap share_at (has P.0 granted_mark))
            where
              R : Round_at o w ops c y r
              R = (asking c uc y r e).0

              first : BossFirst r
              first = subst IsRound e (B.all.locks.rounds c)

              member : (m : Mark) → IsMark o w ops c t m → (is_owes m || is_granted m) ≡ true → members o w ops c t ≡ true
              member Owes i j = i
              member Granted i j = i
              member Out i j = cc j
              member Later i j = cc j
              member Refused i j = cc j
              member Lost i j = absurd i
              member Gone i j = absurd i

              unasked : (m : Mark) → (is_owes m || is_granted m) ≡ true → is_unasked m ≡ true → ⊥
              unasked Owes i j = cc j
              unasked Granted i j = cc j
              unasked Out i j = cc i
              unasked Later i j = cc i
              unasked Refused i j = cc i
              unasked Lost i j = cc i
              unasked Gone i j = cc i

              opened : (b : Bool) → has_granted (r.mark r.boss) ≡ b → b ≡ true
              opened true i = refl
              opened false i = absurd (unasked (r.mark t) k (first.early i t (λ same. other (same ∙ R.its_boss))))

              by : (m : Mark) → IsMark o w ops c (boss o w ops c) m → has_granted m ≡ true → m ≡ Granted
              by Granted i j = refl
              by Lost i j = absurd i
              by Out i j = cc j
              by Later i j = cc j
              by Owes i j = cc j
              by Refused i j = cc j
              by Gone i j = absurd i

              at_boss : r.mark (boss o w ops c) ≡ Granted
              at_boss = by (r.mark (boss o w ops c)) (R.marks (boss o w ops c))
                  (subst (λ (z : ℕ). has_granted (r.mark z) ≡ true) R.its_boss (opened (has_granted (r.mark r.boss)) refl))

              P : (s : Stage) × Session v c (boss o w ops c) s
              P = B.all.locks.pairs c (boss o w ops c) (is_up c uc) (is_up (boss o w ops c) (boss_up c uc))

              granted_mark : fits P.0 Granted ≡ true
              granted_mark = subst (λ (m : Mark). fits P.0 m ≡ true) at_boss
                  (subst (λ (x : Current). fits P.0 (mark_in x (boss o w ops c)) ≡ true) e P.1.mark)

              has : (s : Stage) → fits s Granted ≡ true → s ≡ Sessions.HasGrant
              has Sessions.HasGrant i = refl
              has Sessions.Free i = cc i
              has Sessions.Returning i = cc i
              has Sessions.AskedAgain i = cc i
              has Sessions.Asked i = cc i
              has Sessions.GrantComing i = cc i
              has Sessions.RefusalComing i = cc i
              has Sessions.HasRefusal i = cc i

      -- so elsewhere than at f's boss nobody else has the lock
      no_other : (t ≡ boss o w ops f → ⊥) → (b k : ℕ) → globals (v.node t).locks ≡ grants_of (Row.Held b k) → ⊥
      no_other other b k e = go (in_world o b) refl (left w b) refl
        where
          has : share b (globals (v.node t).locks) ≡ Some k
          has = ap (share b) e ∙ rw (eq-eqb b b refl) refl

          go : (i : Bool) → in_world o b ≡ i → (g : Bool) → left w b ≡ g → ⊥
          go false i g j = cc (C.locks t up b (λ u. cc (u.0, i)), has)
          go true i true j = cc (C.locks t up b (λ u. cc (u.1, j)), has)
          go true i false j = clash
            where
              ub : IsUp o w b
              ub = (i, j)

              P : (s : Stage) × Session v b t s
              P = B.all.locks.pairs b t (is_up b ub) up

              holds : (s : Stage) → share_at s ≡ Some k → (m : Mark) → fits s m ≡ true
                  → requests_at s ≡ found request_in (v.links.queue b t)
                  → (is_owes m || is_granted m) ≡ true
              holds Sessions.GrantComing h m q z = ap (λ (y : Bool). y || is_granted m) q
              holds Sessions.HasGrant h m q z = last (is_owes m) (is_granted m) q
                where
                  last : (x y : Bool) → y ≡ true → (x || y) ≡ true
                  last true y q = refl
                  last false y q = q
              holds Sessions.Returning h m q z = absurd (no_returns o w ops b t (v.links.queue b t) (C.letters b t i up) [] (sym z))
              holds Sessions.AskedAgain h m q z =
                  absurd (no_returns o w ops b t (v.links.queue b t) (C.letters b t i up) (Sessions.Asks ∷ []) (sym z))
              holds Sessions.Free h m q z = cc h
              holds Sessions.Asked h m q z = cc h
              holds Sessions.RefusalComing h m q z = cc h
              holds Sessions.HasRefusal h m q z = cc h

              mark_b : (is_owes (mark_in (v.node b).current t) || is_granted (mark_in (v.node b).current t)) ≡ true
              mark_b = holds P.0 (sym P.1.share ∙ has) (mark_in (v.node b).current t) P.1.mark (sym P.1.requests)

              mark_f : (is_owes (mark_in (v.node f).current t) || is_granted (mark_in (v.node f).current t)) ≡ true
              mark_f = ap (λ (y : Bool). y || is_granted (mark_in (v.node f).current t)) owing

              H : (members o w ops f t ≡ true) × (share f (globals (v.node (boss o w ops f)).locks) ≡ once)
              H = has_boss f (was_up f runs) mark_f other

              -- b asks t, so its members are f's
              asks_t : (x : Current) → (v.node b).current ≡ x → (is_owes (mark_in x t) || is_granted (mark_in x t)) ≡ true
                  → members o w ops b t ≡ true
              asks_t Current.Free z y = cc y
              asks_t (Current.Waiting x) z y = cc y
              asks_t (Current.Joining x q) z y = cc y
              asks_t (Current.Writing x s awaited reply) z y = absurd (not_writing b ub x s awaited reply z)
              asks_t (Current.Asking x r) z y = by (r.mark t) ((asking b ub x r z).0.marks t) y
                where
                  by : (m : Mark) → IsMark o w ops b t m → (is_owes m || is_granted m) ≡ true → members o w ops b t ≡ true
                  by Owes q n = q
                  by Granted q n = q
                  by Out q n = cc n
                  by Later q n = cc n
                  by Refused q n = cc n
                  by Lost q n = absurd q
                  by Gone q n = absurd q

              same_boss : boss o w ops b ≡ boss o w ops f
              same_boss = ap (greatest o.bound) (fun_ext (same_members o w W Q b f t ub (was_up f runs)
                  (asks_t (v.node b).current refl mark_b) H.0))

              G : (members o w ops b t ≡ true) × (share b (globals (v.node (boss o w ops b)).locks) ≡ once)
              G = has_boss b ub mark_b (λ z. other (z ∙ same_boss))

              up_boss : IsUp o v (boss o w ops f)
              up_boss = is_up (boss o w ops f) (boss_up f (was_up f runs))

              clash : ⊥
              clash = cc (
                sym (ap (λ (z : ℕ). share z (globals (v.node t).locks)) (one_share (B.all.locks.rows (boss o w ops f) up_boss).0
                    (v.node (boss o w ops f)).locks (B.all.locks.rows (boss o w ops f) up_boss).1 b f 1 1
                    (subst (λ (z : ℕ). share b (globals (v.node z).locks) ≡ once) same_boss G.1) H.1)) ∙ has,
                none,
              )

      abbrev verdict : Bool
      verdict = is_free_for (Global f) (registrar f) (v.node t).locks

      by_row : verdict ≡ is_free_for (Global f) (registrar f) (grants_of (B.all.locks.rows t up).0)
      by_row = is_free_for-globals f (registrar f) (v.node t).locks
          ∙ ap (is_free_for (Global f) (registrar f)) (B.all.locks.rows t up).1

      held_by : verdict ≡ false → (b : ℕ) × (k : ℕ) × (globals (v.node t).locks ≡ grants_of (Row.Held b k))
      held_by h = go (B.all.locks.rows t up).0 (B.all.locks.rows t up).1 (sym by_row ∙ h)
        where
          go : (row : Row) → globals (v.node t).locks ≡ grants_of row → is_free_for (Global f) (registrar f) (grants_of row) ≡ false
              → (b : ℕ) × (k : ℕ) × (globals (v.node t).locks ≡ grants_of (Row.Held b k))
          go Row.Nobody e k = cc k
          go (Row.Held b k) e z = (b, k, e)

      answer_plain : (g : Bool) → verdict ≡ g → Plain o w ops t f (Letter.LockAnswer (Global f) (registrar f) g)
      answer_plain true e = refl
      answer_plain false e = elim (cases_eq t (boss o w ops f)) [
        | inl same ↦ eq-eqb t (boss o w ops f) same
        | inr ne ↦ absurd (let h : (b : ℕ) × (k : ℕ) × (globals (v.node t).locks ≡ grants_of (Row.Held b k)) = held_by e in
            no_other ne h.0 h.1 h.2)
      ]

      abbrev judged : Bool → Turn
      judged g = judge o.bound t (join_number v) f (Global f) (registrar f) g (begun (v.node t))

      abbrev taken : Option Taken
      taken = Rules.taking f (Letter.SetLock (Global f) (registrar f))

      turned_by : (g : Bool) → verdict ≡ g → Turned o w ops v t (judged g) taken
      turned_by true e = record {
        parts = record { replica = refl; watch = refl; queue = refl };
        sends = λ y. each-one (Plain o w ops t y) y f (Letter.LockAnswer (Global f) (registrar f) true)
            (λ i. subst (λ (z : ℕ). Plain o w ops t z (Letter.LockAnswer (Global f) (registrar f) true)) i (answer_plain true e));
        locks = λ d s out. (grant-row f (B.all.locks.rows t up).0 (v.node t).locks (B.all.locks.rows t up).1 e).there d
            (λ i. out (subst (IsUp o w) (sym i) (was_up f runs))) ∙ s;
        entries = refl;
      }
      turned_by false e = record {
        parts = parts_self (v.node t);
        sends = λ y. each-one (Plain o w ops t y) y f (Letter.LockAnswer (Global f) (registrar f) false)
            (λ i. subst (λ (z : ℕ). Plain o w ops t z (Letter.LockAnswer (Global f) (registrar f) false)) i (answer_plain false e));
        locks = λ d s out. s;
        entries = refl;
      }

      active_here : (g : Bool) → verdict ≡ g → Active o w ops t (after_turn t v (judged g) taken)
      active_here true e = Held f 1 (ap (λ (x : Node). share f (globals x.locks)) (at_same v.node t (judged true).node)
          ∙ (grant-row f (B.all.locks.rows t up).0 (v.node t).locks (B.all.locks.rows t up).1 e).here none)
      active_here false e = let h : (b : ℕ) × (k : ℕ) × (globals (v.node t).locks ≡ grants_of (Row.Held b k)) = held_by e in
          Held h.0 h.1 (ap (λ (x : Node). share h.0 (globals x.locks)) (at_same v.node t (judged false).node) ∙ ap (share h.0) h.2
          ∙ rw (eq-eqb h.0 h.0 refl) refl)

      judged_current : (g : Bool) → (judged g).node.current ≡ (v.node t).current
      judged_current true = refl
      judged_current false = refl

      pub judges_global : (m : Rules.May o t v (Rules.Judges f (Global f) (registrar f)))
          → Goes o w ops v (Rules.Judges f (Global f) (registrar f)) (Rules.effect o t (Rules.Judges f (Global f) (registrar f)) v)
      judges_global m = goes (Rules.Judges f (Global f) (registrar f)) refl m (turned_by verdict refl) A
          (at_same_current (Rules.Judges f (Global f) (registrar f)) refl m (judged_current verdict) A)
        where
          A : (b : ℕ) → IsUp o w b → Active o w ops b v → Active o w ops b (after_turn t v (judged verdict) taken)
          A b u_b H = elim (cases_eq b t) [
            | inl same ↦ subst (λ (z : ℕ). Active o w ops z (after_turn t v (judged verdict) taken)) (sym same)
                (active_here verdict refl)
            | inr ne ↦ active_after o w ops v t (judged verdict) taken b (is_up b u_b).1 (λ i. absurd (ne i))
                (λ x k i s. absurd (ne i)) H
          ]

    -- a request is judged
    judges : (f : ℕ) (id : Id) (p : Process) → Rules.May o t v (Rules.Judges f id p)
        → Goes o w ops v (Rules.Judges f id p) (Rules.effect o t (Rules.Judges f id p) v)
    judges f (Client r z) p m = goes (Rules.Judges f (Client r z) p) refl m (record {
      parts = (same free).0;
      sends = simple_sends o w ops t (judged free) (simple free);
      locks = λ d s out. ap (share d) (same free).1 ∙ s;
      entries = (same free).3;
    }) A (at_same_current (Rules.Judges f (Client r z) p) refl m (same free).2 A)
      where
        free : Bool
        free = is_free_for (Client r z) p (v.node t).locks

        judged : Bool → Turn
        judged g = judge o.bound t (join_number v) f (Client r z) p g (begun (v.node t))

        simple : (g : Bool) → all_pass is_simple (judged g).sends ≡ true
        simple true = refl
        simple false = refl

        same : (g : Bool) → Parts (judged g).node (v.node t) × (globals (judged g).node.locks ≡ globals (v.node t).locks)
            × ((judged g).node.current ≡ (v.node t).current) × ((judged g).entries ≡ [])
        same true = (record { replica = refl; watch = refl; queue = refl }, globals-grant-client r z p (v.node t).locks, refl, refl)
        same false = (parts_self (v.node t), refl, refl, refl)

        A : (b : ℕ) → IsUp o w b → Active o w ops b v
            → Active o w ops b (after_turn t v (judged free) (Rules.taking f (Letter.SetLock (Client r z) p)))
        A b u_b = active_after o w ops v t (judged free) (Rules.taking f (Letter.SetLock (Client r z) p)) b (is_up b u_b).1
            (λ i. (m.front, λ u. refl)) (λ x k i s. (k, ap (share x) (same free).1 ∙ s))
    judges f (Global b) p m =
        let N : (b ≡ f) × (p ≡ registrar f) =
        (subst (λ (ls : List Letter). Each (IsNamed f t) ls) m.front.1.1 (B.all.locks.named f t up.1)).0 in
        subst (λ (q : Process). Rules.May o t v (Rules.Judges f (Global b) q)
        → Goes o w ops v (Rules.Judges f (Global b) q) (Rules.effect o t (Rules.Judges f (Global b) q) v)) (sym N.1)
        (subst (λ (c : ℕ). Rules.May o t v (Rules.Judges f (Global c) (registrar f))
        → Goes o w ops v (Rules.Judges f (Global c) (registrar f)) (Rules.effect o t (Rules.Judges f (Global c) (registrar f)) v))
        (sym N.0) (λ k. judges_global f k.front.0 k.front.1 k.tested k)) m

    -- a grant of a client comes back
    takes_back : (f : ℕ) (id : Id) (p : Process) (ack : Bool) → Rules.May o t v (Rules.TakesBack f id p ack)
        → Goes o w ops v (Rules.TakesBack f id p ack) (Rules.effect o t (Rules.TakesBack f id p ack) v)
    takes_back f (Global b) p ack m = absurd (cc (front f (Letter.GiveBack (Global b) p ack) m.front.0 m.front.1))
    takes_back f (Client r z) p ack m = go ack m
      where
        back : globals (give_back (Client r z) p (v.node t).locks) ≡ globals (v.node t).locks
        back = globals-give_back-client r z p (v.node t).locks

        A : (k : Bool) → Rules.May o t v (Rules.TakesBack f (Client r z) p k)
            → globals (Rules.turn_by o t v (Rules.TakesBack f (Client r z) p k)).node.locks ≡ globals (v.node t).locks
            → (b : ℕ) → IsUp o w b → Active o w ops b v
            → Active o w ops b (after_turn t v (Rules.turn_by o t v (Rules.TakesBack f (Client r z) p k))
            (Rules.taking f (Letter.GiveBack (Client r z) p k)))
        A k n h b u_b = active_after o w ops v t (Rules.turn_by o t v (Rules.TakesBack f (Client r z) p k))
            (Rules.taking f (Letter.GiveBack (Client r z) p k)) b (is_up b u_b).1 (λ i. (n.front, λ u. refl))
            (λ x j i s. (j, ap (share x) h ∙ s))

        go : (k : Bool) → Rules.May o t v (Rules.TakesBack f (Client r z) p k)
            → Goes o w ops v (Rules.TakesBack f (Client r z) p k) (Rules.effect o t (Rules.TakesBack f (Client r z) p k) v)
        go true n = goes (Rules.TakesBack f (Client r z) p true) refl n (record {
          parts = record { replica = refl; watch = refl; queue = refl };
          sends = simple_sends o w ops t (Rules.turn_by o t v (Rules.TakesBack f (Client r z) p true)) refl;
          locks = λ d s out. ap (share d) back ∙ s;
          entries = refl;
        }) (A true n back) (at_same_current (Rules.TakesBack f (Client r z) p true) refl n refl (A true n back))
        go false n = goes (Rules.TakesBack f (Client r z) p false) refl n (record {
          parts = record { replica = refl; watch = refl; queue = refl };
          sends = simple_sends o w ops t (Rules.turn_by o t v (Rules.TakesBack f (Client r z) p false)) refl;
          locks = λ d s out. ap (share d) back ∙ s;
          entries = refl;
        }) (A false n back) (at_same_current (Rules.TakesBack f (Client r z) p false) refl n refl (A false n back))

    -- letters to a set
    to_all : (s : Nodes) (l : Letter) → is_simple l ≡ true → all_pass is_simple (to_each (nodes_of o.bound s) l) ≡ true
    to_all s l h = pass_each is_simple (nodes_of o.bound s) l h

    client : (c : LockCall) → call_of c.holder (v.node t).calls ≡ Some c → is_global c.id ≡ false
    client c e = (call_of-client c.holder (v.node t).calls c (B.all.locks.calls t) e).0

    same_parts : (x : Node) → x.replica ≡ (v.node t).replica → x.watch ≡ (v.node t).watch → x.queue ≡ (v.node t).queue
        → Parts x (v.node t)
    same_parts x b c d = record { replica = b; watch = c; queue = d }

    hears_lock : (f : ℕ) (id : Id) (g : Bool) (c : LockCall) (r : Round) → Rules.May o t v (Rules.HearsLock f id g c r)
        → Goes o w ops v (Rules.HearsLock f id g c r) (Rules.effect o t (Rules.HearsLock f id g c r) v)
    hears_lock f id g c r m = calls_alone (Rules.HearsLock f id g c r) refl m (stays (opens f g r)).0 (stays (opens f g r)).1
        (stays (opens f g r)).2 (asked_too (opens f g r)) (stays (opens f g r)).3 (λ u. refl)
      where
        turn : Bool → Turn
        turn b = keep_call (in_phase (LockPhase.Asking (answer f g r)) c)
            (if b then send_all o.bound (λ x. rest r x && not ((v.node t).replica.told x)) (Letter.SetLock c.id c.holder)
            (begun (v.node t))
            else begun (v.node t))

        asked_too : (b : Bool) → all_pass is_simple (turn b).sends ≡ true
        asked_too true = to_all (λ x. rest r x && not ((v.node t).replica.told x)) (Letter.SetLock c.id c.holder) refl
        asked_too false = refl

        stays : (b : Bool) → Parts (turn b).node (v.node t) × ((turn b).node.current ≡ (v.node t).current)
            × ((turn b).node.locks ≡ (v.node t).locks) × ((turn b).entries ≡ [])
        stays true = (same_parts _ refl refl refl, refl, refl, refl)
        stays false = (same_parts _ refl refl refl, refl, refl, refl)

    gives_up_lock : (c : LockCall) (r : Round) (s : Nodes) → Rules.May o t v (Rules.GivesUpLock c r s)
        → Goes o w ops v (Rules.GivesUpLock c r s) (Rules.effect o t (Rules.GivesUpLock c r s) v)
    gives_up_lock c r s m = calls_alone (Rules.GivesUpLock c r s) refl m (stays (is_spent c.retries)).0
        (stays (is_spent c.retries)).1
        (stays (is_spent c.retries)).2 (stays (is_spent c.retries)).3 (stays (is_spent c.retries)).4 tt
      where
        turn : Bool → Turn
        turn b = if b then close_call o.bound t c false (give_lock o.bound t c s (begun (v.node t)))
            else keep_call (in_phase LockPhase.Waiting c) (give_lock o.bound t c s (begun (v.node t)))

        back : all_pass is_simple (to_each (nodes_of o.bound s) (Letter.GiveBack c.id c.holder false)) ≡ true
        back = to_all s (Letter.GiveBack c.id c.holder false) (ap not (client c m.tested.0.call))

        stays : (b : Bool) → Parts (turn b).node (v.node t) × ((turn b).node.current ≡ (v.node t).current)
            × ((turn b).node.locks ≡ (v.node t).locks) × (all_pass is_simple (turn b).sends ≡ true) × ((turn b).entries ≡ [])
        stays true = (same_parts _ refl refl refl, refl, refl, back, refl)
        stays false = (same_parts _ refl refl refl, refl, refl, back, refl)

    members_are : (v.node t).replica.members ≡ members o w ops t
    members_are = ap (λ (r : Replica). r.members) (C.parts t).replica

    -- Rules of the registrar's round
    hears : (f : ℕ) (id : Id) (g : Bool) (x : Op) (r : Round) → Rules.May o t v (Rules.HearsAnswer f id g x r)
        → Goes o w ops v (Rules.HearsAnswer f id g x r) (Rules.effect o t (Rules.HearsAnswer f id g x r) v)
    hears f id g x r m = round_on (Rules.HearsAnswer f id g x r) refl m (stays (opens f g r)).0 (stays (opens f g r)).1
        (stays (opens f g r)).2
        (stays (opens f g r)).3 (λ u. refl) x (answer f g r) refl (record {
          up = up_t;
          op = R.0.op;
          its_boss = answer_boss f g r ∙ R.0.its_boss;
          marks = marks_answer o w ops t (below o w W Q t up_t) f g r m.tested.2
              (refuses id (subst (λ (ls : List Letter). Each (IsNamed f t) ls) m.front.1.1 (B.all.locks.named f t up.1)).0
              (front f (Letter.LockAnswer id (registrar t) g) m.front.0 m.front.1)) R.0.marks;
        }) (inl R.1)
      where
        R : Round_at o w ops t x r × Active o w ops (boss o w ops t) v
        R = asking t up_t x r m.tested.1

        refuses : (i : Id) → IsNamed f t (Letter.LockAnswer i (registrar t) g)
            → Plain o w ops f t (Letter.LockAnswer i (registrar t) g)
            → g ≡ false → f ≡ boss o w ops t
        refuses (Client s z) N P h = cc N
        refuses (Global b) N P h = eqb-true f (boss o w ops t)
            (subst (λ (c : Bool). ((false || c) || not c && (f == boss o w ops t)) ≡ true) h P)

        turn : Bool → Turn
        turn b = if b then send_all o.bound (λ y. rest r y && not ((v.node t).replica.told y))
            (Letter.SetLock (Global t) (registrar t)) (begun (v.node t))
            else begun (v.node t)

        stays : (b : Bool) → Parts (record (turn b).node { current = Current.Asking x (answer f g r) }) (v.node t)
            × ((turn b).node.locks ≡ (v.node t).locks) × (all_pass is_simple (turn b).sends ≡ true) × ((turn b).entries ≡ [])
        stays true = (
          same_parts _ refl refl refl,
          refl,
          to_all (λ y. rest r y && not ((v.node t).replica.told y))
              (Letter.SetLock (Global t) (registrar t)) refl,
          refl,
        )
        stays false = (same_parts _ refl refl refl, refl, refl, refl)

    marks_gone : (d : ℕ) (x : Op) (r : Round) → Rules.May o t v (Rules.MarksDown d x r)
        → Goes o w ops v (Rules.MarksDown d x r) (Rules.effect o t (Rules.MarksDown d x r) v)
    marks_gone d x r m = round_on (Rules.MarksDown d x r) refl m (same_parts _ refl refl refl) refl refl refl tt x (down d r) refl
        (record {
          up = up_t;
          op = R.0.op;
          its_boss = R.0.its_boss;
          marks = marks_down o w ops t (below o w W Q t up_t) d r outside (λ i. cc (outside, ap (members o w ops t) i, boss_in))
              R.0.marks;
        }) (inl R.1)
      where
        R : Round_at o w ops t x r × Active o w ops (boss o w ops t) v
        R = asking t up_t x r m.tested.1

        outside : members o w ops t d ≡ false
        outside = apart o w W Q t up_t d (sym (ap (λ (r : Replica). r.told d) (C.parts t).replica) ∙ m.tested.0)

        boss_in : members o w ops t (boss o w ops t) ≡ true
        boss_in = greatest_in o.bound (members o w ops t) t (below o w W Q t up_t t (W.base.all.proper.itself t up_t))
            (W.base.all.proper.itself t up_t)

    gives_up : (x : Op) (r : Round) (s : Nodes) → Rules.May o t v (Rules.GivesUp x r s)
        → Goes o w ops v (Rules.GivesUp x r s) (Rules.effect o t (Rules.GivesUp x r s) v)
    gives_up x r s m = goes (Rules.GivesUp x r s) refl m (record {
      parts = same_parts _ refl refl refl;
      sends = simple_sends o w ops t (Rules.turn_by o t v (Rules.GivesUp x r s))
          (ap (λ (ns : List ℕ). all_pass is_simple (to_each ns (Letter.GiveBack (Global t) (registrar t) false)))
          (nobody_of o.bound s nobody));
      locks = λ d k out. k;
      entries = refl;
    }) (actives (Rules.GivesUp x r s) refl m refl tt)
        (Again x R.0.op (ap (λ (y : Node). y.current) (at_same v.node t (Rules.turn_by o t v (Rules.GivesUp x r s)).node)))
      where
        R : Round_at o w ops t x r × Active o w ops (boss o w ops t) v
        R = asking t up_t x r m.tested.0

        nobody : (y : ℕ) → s y ≡ false
        nobody y = ap (λ (q : Nodes). q y) (given_back o.bound (v.node t).replica.members r s m.tested.2)
            ∙ refused_by_boss o w ops t (below o w W Q t up_t) r R.0.marks R.0.its_boss
            (subst IsRound m.tested.0 (B.all.locks.rounds t))
            m.tested.1 s (ap (λ (q : Nodes). Round_ending q) (sym members_are) ∙ m.tested.2) y
          where
            Round_ending : Nodes → Ending
            Round_ending q = ending o.bound q r

    -- a refused round begins anew
    retried : (x : Op) → may t ≡ true → (m : Rules.May o t v (Rules.Retries x))
        → Goes o w ops v (Rules.Retries x) (Rules.effect o t (Rules.Retries x) v)
    retried x allowed m = round_on (Rules.Retries x) refl m (same_parts _ refl refl refl) refl refl refl tt x
        (begin o.bound (members o w ops t))
        (ap (λ (s : Nodes). Current.Asking x (begin o.bound s)) members_are) (record {
          up = up_t;
          op = its (K t);
          its_boss = refl;
          marks = marks_begin o w ops t (below o w W Q t up_t);
        }) (inr (Asked t up_t (λ e. asked (sym (found_of e)))))
      where
        its : IsAt o w ops t v → ops t ≡ Some x
        its (Before k) = retries t x allowed (sym k ∙ m.tested)
        its (Again y a k) = a ∙ ap Some (let i : y ≡ x = cc (k, m.tested) in i)
        its (Asking y r k R A) = cc (k, m.tested)

        first : Letter
        first = Letter.SetLock (Global t) (registrar t)

        asked : [] ≡ found request_in (v.links.queue t (boss o w ops t)) ++ Sessions.Asks ∷ [] → ⊥
        asked e = go (found request_in (v.links.queue t (boss o w ops t))) e
          where
            go : (xs : List Request) → [] ≡ xs ++ Sessions.Asks ∷ [] → ⊥
            go [] k = cc k
            go (y ∷ ys) k = cc k

        open_link : left v (boss o w ops t) ≡ false
        open_link = (is_up (boss o w ops t) (boss_up t up_t)).1

        to_boss : sent_to (boss o w ops t) (record { to = greatest o.bound (v.node t).replica.members; letter = first } ∷ [])
            ≡ first ∷ []
        to_boss = sent_to-one (boss o w ops t) (greatest o.bound (v.node t).replica.members) first
            ∙ rw (eq-eqb (greatest o.bound (v.node t).replica.members) (boss o w ops t) (ap (greatest o.bound) members_are)) refl

        found_of : found request_in ((after_turn t v (Rules.turn_by o t v (Rules.Retries x)) None).links.queue t (boss o w ops t))
            ≡ []
            → found request_in (v.links.queue t (boss o w ops t)) ++ Sessions.Asks ∷ [] ≡ []
        found_of e = sym (ap (found request_in) (posted-here t (λ c. sent_to c (Rules.turn_by o t v (Rules.Retries x)).sends)
            v.links (boss o w ops t) open_link
            ∙ ap (λ (ls : List Letter). v.links.queue t (boss o w ops t) ++ ls) to_boss)
            ∙ found-append request_in (v.links.queue t (boss o w ops t)) (first ∷ [])) ∙ e

    held_op : (x : Op) (r : Round) → IsHeld o.bound (v.node t) x r → ops t ≡ Some x
    held_op x r H = (asking t up_t x r H.current).0.op

    named : (k : ℕ) (call : NameCall) → Entry.Name t k call (reply_to (v.node t).replica.members (v.node t).replica.table call)
        ≡ Entry.Name t k call (reply_now w t call)
    named k call = ap (λ (r : Replica). Entry.Name t k call (reply_to r.members r.table call)) (C.parts t).replica

    first : (e f : Entry) → e ≡ f → Contains (e ∷ []) f
    first e f same = subst (λ (x : Entry). Contains (x ∷ []) f) (sym same) (Contains-front f [])

    -- each rule
    pub step : (r : Rule) → Rules.May o t v r → is_mild (may t) r ≡ true → Goes o w ops v r (Rules.effect o t r v)
    step (Rules.CallsName call) m h = cc h
    step (Rules.CallsJoin j) m h = cc h
    step Rules.CallsLock m h = cc h
    step Rules.Spawns m h = cc h
    step (Rules.LooksUp look) m h = cc h
    step (Rules.Exits p) m h = cc h
    step Rules.Leaves m h = cc h
    step (Rules.Begins x qs) m h = absurd (cc ((idle m.tested.0).0, m.tested.1))
    step (Rules.BeginsStrike serial) m h = absurd (cc ((idle m.tested.0).1, m.tested.1))
    step (Rules.Retries x) m h = retried x h m
    step (Rules.AsksJoin k c qs) m h = absurd (cc ((idle m.tested.0).0, m.tested.1))
    step (Rules.SkipsJoin k c qs) m h = absurd (cc ((idle m.tested.0).0, m.tested.1))
    step (Rules.HearsAnswer f id g x r) m h = hears f id g x r m
    step (Rules.MarksDown d x r) m h = marks_gone d x r m
    step (Rules.GivesUp x r s) m h = gives_up x r s m
    step (Rules.Grants k call r) m h = decides (Rules.Grants k call r) refl m refl (Op.Name k call)
        (held_op (Op.Name k call) r m.tested.0)
        (first _ _ (named k call))
    step (Rules.Denies k call r) m h = decides (Rules.Denies k call r) refl m refl (Op.Name k call)
        (held_op (Op.Name k call) r m.tested.0)
        (first _ _ (named k call))
    step (Rules.Strikes p r) m h = decides (Rules.Strikes p r) refl m refl (Op.Strike p) (held_op (Op.Strike p) r m.tested)
        (Contains-front (Entry.Strike p) [])
    step (Rules.Admits j pairs r) m h = decides (Rules.Admits j pairs r) refl m refl (Op.Admission j pairs)
        (held_op (Op.Admission j pairs) r m.tested.0)
        (inr (join_number v j, Contains-front (Entry.Join j (join_number v j) t Joined) []))
    step (Rules.Passes j pairs r) m h = decides (Rules.Passes j pairs r) refl m refl (Op.Admission j pairs)
        (held_op (Op.Admission j pairs) r m.tested.0)
        (inl (sym (ap (λ (x : Replica). x.told j) (C.parts t).replica) ∙ m.tested.1))
    step (Rules.CountsApplied f x s awaited reply) m h = absurd (not_writing t up_t x s awaited reply m.tested.1)
    step (Rules.CountsDown d x s awaited reply) m h = absurd (not_writing t up_t x s awaited reply m.tested.1)
    step (Rules.Finishes x s awaited reply) m h = absurd (not_writing t up_t x s awaited reply m.tested.0)
    step (Rules.Judges f id p) m h = judges f id p m
    step (Rules.TakesBack f id p ack) m h = takes_back f id p ack m
    step (Rules.Releases f p) m h = absurd (cc (front f (Letter.ReleaseOf p) m.front.0 m.front.1))
    step (Rules.Writes f change) m h = absurd (cc (front f (Letter.Apply change) m.front.0 m.front.1))
    step (Rules.QueuesJoin f pairs) m h = absurd (cc (front f (Letter.JoinAsk pairs) m.front.0 m.front.1))
    step (Rules.RefusesJoin f pairs) m h = absurd (cc (front f (Letter.JoinAsk pairs) m.front.0 m.front.1))
    step (Rules.EndsJoin f k) m h = absurd (cc (front f Letter.JoinRefused m.front.0 m.front.1))
    step (Rules.Kills f l p receivers) m h = absurd (none l (front f l m.tested.1 m.tested.2) m.tested.3)
      where
        none : (x : Letter) → Plain o w ops f t x → Contains (kills_in x) p → ⊥
        none (Letter.SetLock id q) e c = Contains-nil p c
        none (Letter.LockAnswer id q g) e c = Contains-nil p c
        none (Letter.GiveBack id q ack) e c = Contains-nil p c
        none (Letter.GivenBack q) e c = Contains-nil p c
        none x e c = cc e
    step (Rules.IsAdmitted f j s) m h = absurd (cc (front f (Letter.Admit j s) m.front.0 m.front.1))
    step (Rules.IsWelcomed f k ms pairs told fate) m h =
        absurd (cc (front f (Letter.Welcome ms pairs told fate) m.front.0 m.front.1))
    step (Rules.IsTold f) m h = absurd (cc (front f Letter.Down m.front.0 m.front.1))
    step (Rules.LosesContact k c) m h = absurd (keeps_contact k c m.tested.0 m.tested.1)
    step (Rules.Ignores f l) m h = calls_alone (Rules.Ignores f l) refl m (parts_self (v.node t)) refl refl refl refl
        (λ u. ignored t (v.node t) f l m.tested.1)
    step (Rules.Drops f l) m h = calls_alone (Rules.Drops f l) refl m (parts_self (v.node t)) refl refl refl refl
        (λ u. absurd (told_left f m.tested.0 u))
    step (Rules.AsksLock c) m h = calls_alone (Rules.AsksLock c) refl m (same_parts _ refl refl refl) refl refl refl refl tt
    step (Rules.FailsLock c) m h = calls_alone (Rules.FailsLock c) refl m (same_parts _ refl refl refl) refl refl refl refl tt
    step (Rules.HearsLock f id g c r) m h = hears_lock f id g c r m
    step (Rules.MarksLockDown d c r) m h = calls_alone (Rules.MarksLockDown d c r) refl m (same_parts _ refl refl refl) refl refl
        refl refl tt
    step (Rules.WinsLock c r) m h = calls_alone (Rules.WinsLock c r) refl m (same_parts _ refl refl refl) refl refl refl refl tt
    step (Rules.GivesUpLock c r s) m h = gives_up_lock c r s m
    step (Rules.DeletesLock c) m h = calls_alone (Rules.DeletesLock c) refl m (same_parts _ refl refl refl) refl refl
        (to_all (targets (v.node t).replica.members c.target) (Letter.GiveBack c.id c.holder true)
        (ap (λ (i : Id). not (is_global i)) m.tested.0.id)) refl tt
    step (Rules.DeletesNothing c) m h = calls_alone (Rules.DeletesNothing c) refl m (same_parts _ refl refl refl) refl refl refl
        refl tt
    step (Rules.CountsGivenBack f c owing) m h =
        calls_alone (Rules.CountsGivenBack f c owing) refl m (same_parts _ refl refl refl) refl refl refl refl (λ u. refl)
    step (Rules.EndsDeletion f c owing) m h =
        calls_alone (Rules.EndsDeletion f c owing) refl m (same_parts _ refl refl refl) refl refl refl refl (λ u. refl)
    step (Rules.CountsLockDown d c owing) m h =
        calls_alone (Rules.CountsLockDown d c owing) refl m (same_parts _ refl refl refl) refl refl refl refl tt
    step (Rules.EndsDeletionDown d c owing) m h =
        calls_alone (Rules.EndsDeletionDown d c owing) refl m (same_parts _ refl refl refl) refl refl refl refl tt
