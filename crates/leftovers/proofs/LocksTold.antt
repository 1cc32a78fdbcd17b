-- In a quiet world the lock table of a running node is as events and answers tell.
use mathlib.Core.Logic.{◌⊎◌}
use Rattle.std.proofs.Common.{ℕ, Bool, true, false, ◌==◌, ◌≡◌, ◌<◌, ◌≤◌, Option, Some, None, List, [], ◌∷◌, refl, sym, ap, ◌∙◌, subst, inl, inr, arith}
use Rattle.std.specs.Prelude.{not, ◌&&◌, ◌||◌, nat_lt, is_none, find, Contains, if◌then◌else◌}
use Rattle.std.proofs.lemmas.Bool.{eq-eqb, ltb-true, lt-ltb}
use Rattle.std.proofs.Math.Bool.{and-false}
use Rattle.registry_model.specs.Process.{Process, is_process}
use Rattle.registry_model.proofs.Lists.{Contains-cases, Contains-nil, Contains-front, Contains-behind}
use Rattle.protocol_model.specs.Round.{Mark, Out}
use Rattle.protocol_model.specs.Letter.{Id, Global, Client, is_id, is_resource}
use Rattle.protocol_model.specs.LockTable.{Grant, Locks, is_grant_of, count, is_in_the_way, refused_by, last_count}
use Rattle.protocol_model.specs.Watch.{is_dead}
use Rattle.protocol_model.specs.Node.{Current}
use Rattle.protocol_model.specs.ClientLocks.{is_no_more, holds_count}
use Rattle.protocol_model.specs.Course.{global_given}
use Rattle.protocol_model.specs.World.{Opening, in_world, World, left, WorldEvent}
use Rattle.headline.proofs.Indices.{both, not_true}
use Rattle.headline.proofs.Invariants.{IsUp}
use Rattle.headline.proofs.LockTables.{is_global, globals, Row, Nobody, Held, grants_of, share}
use Rattle.headline.proofs.Sessions.{Stage, Session, requests_at, answers_at, share_at, fits, mark_in}
use Rattle.headline.proofs.RoundNumbers
use Rattle.headline.proofs.ClientLocksSessions.{settled_le}
use Rattle.headline.proofs.ClientLocksMail.{asks}
use Rattle.headline.proofs.ClientLocksClients.{Numbers, Clients, IsLive, live_parts, lives}
use Rattle.headline.proofs.Tallies.{numbers_agree}
use Rattle.protocol_model.proofs.Ids.{is_id_self}
use Rattle.headline.proofs.Ids.{is_process_same, is_process_self}
use Rattle.headline.proofs.Together.{All}
use Rattle.leftovers.proofs.Grounds.{lock_state}
use Rattle.headline.proofs.Clients.{grounds}
use Rattle.leftovers.proofs.GrantLists.{all_grants, all_count, all_filter}
use Rattle.leftovers.proofs.Departures.{none_of}
use Rattle.leftovers.proofs.Granted.{is_grant_known, suits_holder}
use Rattle.leftovers.proofs.Freed.{none_of_holder, is_freed}
use Rattle.leftovers.proofs.Families.{Whole, whole}
use Rattle.leftovers.proofs.Quiet.{rid, still, at_ease, registrars, live_counts}
use Rattle.headline.specs.Clauses.{world}
use Rattle.headline.specs.Worlds.{of_nodes, OfNodes, IsQuiet}
use Rattle.leftovers.specs.Leftovers.{HeldLocksStand, LocksAreAsTold, NoEmptyGrants, NobodyKeepsTheGlobalLock, DeadHoldersHoldNothing, FreeLocksAreGranted}

-- who has no grant isn't counted
none_counts : (id : Id) (p : Process) (t : Locks) → none_of_holder p t ≡ true → count id p t ≡ 0
none_counts id p [] h = refl
none_counts id p (g ∷ t) h =
    let parts : (not (is_process g.holder p) ≡ true) × (none_of_holder p t ≡ true) =
    both (not (is_process g.holder p)) (none_of_holder p t) h in
    go (is_id g.id id) (not_true (is_process g.holder p) parts.0) (none_counts id p t parts.1)
  where
    go : (b : Bool) → is_process g.holder p ≡ false → count id p t ≡ 0
        → (if b && is_process g.holder p then g.count else count id p t) ≡ 0
    go true e k = rw e k
    go false e k = k

-- nor is who passes no test that all grants pass
none_by : (test : Id → Process → Bool) (p : Process) → ((i : Id) → test i p ≡ false) → (t : Locks)
    → all_grants test t ≡ true → none_of_holder p t ≡ true
none_by test p fails [] h = refl
none_by test p fails (g ∷ t) h =
    let parts : (test g.id g.holder ≡ true) × (all_grants test t ≡ true) =
    both (test g.id g.holder) (all_grants test t) h in
    rw (go (is_process g.holder p) refl parts.0, none_by test p fails t parts.1) refl
  where
    go : (b : Bool) → is_process g.holder p ≡ b → test g.id g.holder ≡ true → b ≡ false
    go true e k = cc (ap (test g.id) (is_process_same g.holder p e), fails g.id, k)
    go false e k = refl

-- a grant that is listed is counted
listed_counts : (t : Locks) (g : Grant) → all_count t ≡ true → Contains t g → 0 < count g.id g.holder t
listed_counts [] g h c = absurd (Contains-nil g c)
listed_counts (x ∷ t) g h c =
    let parts : (nat_lt 0 x.count ≡ true) × (all_count t ≡ true) = both (nat_lt 0 x.count) (all_count t) h in
    go (is_grant_of g.id g.holder x) refl (ltb-true 0 x.count) parts.0 (Contains-cases x t g c)
    (listed_counts t g parts.1)
  where
    self : is_grant_of x.id x.holder x ≡ true
    self = rw (
      is_id_self x.id,
      is_process_self x.holder,
    ) refl

    go : (b : Bool) → is_grant_of g.id g.holder x ≡ b → (nat_lt 0 x.count ≡ true → 0 < x.count)
        → nat_lt 0 x.count ≡ true → (x ≡ g) ⊎ Contains t g → (Contains t g → 0 < count g.id g.holder t)
        → 0 < (if b then x.count else count g.id g.holder t)
    go true e i k c more = i k
    go false e i k (inr d) more = more d
    go false e i k (inl d) more = cc (ap (λ (y : Grant). is_grant_of y.id y.holder x) d ∙ e, self)

-- what is filtered to nothing passes nowhere
none_kept : (t : Locks) → globals t ≡ [] → all_grants (λ i p. not (is_global i)) t ≡ true
none_kept [] h = refl
none_kept (g ∷ t) h = go (is_global g.id) refl h (none_kept t)
  where
    go : (b : Bool) → is_global g.id ≡ b → (if b then g ∷ globals t else globals t) ≡ []
        → (globals t ≡ [] → all_grants (λ i p. not (is_global i)) t ≡ true)
        → (not (is_global g.id) && all_grants (λ i p. not (is_global i)) t) ≡ true
    go true e k more = cc k
    go false e k more = rw (e, more k) refl

not_given : (t : Locks) (b : ℕ) → all_grants (λ i p. not (is_global i)) t ≡ true → global_given t b ≡ false
not_given [] b h = refl
not_given (g ∷ t) b h =
    let parts : (not (is_global g.id) ≡ true) × (all_grants (λ i p. not (is_global i)) t ≡ true) =
    both (not (is_global g.id)) (all_grants (λ i p. not (is_global i)) t) h in
    ap (λ (c : Bool). c || global_given t b) (one g.id parts.0) ∙ not_given t b parts.1
  where
    one : (i : Id) → not (is_global i) ≡ true → is_id i (Global b) ≡ false
    one (Global x) k = cc k
    one (Client r q) k = refl

module _ (o : Opening) (w : World) (W : Whole o w) (Q : IsQuiet (of_nodes o) w) where
  -- no running node's registrar has a share of the lock
  no_share : (r x : ℕ) → IsUp o w r → IsUp o w x → share r (globals (w.node x).locks) ≡ None
  no_share r x ur ux =
      let P : (s : Stage) × Session w r x s × (requests_at s ≡ []) × (answers_at s ≡ []) = still o w W Q r x ur ux in
      P.1.share ∙ none P.0 P.2 P.3 (mark_in (w.node r).current x)
      (out (w.node r).current (registrars o w W Q r ur)) P.1.mark
    where
      out : (c : Current) → at_ease o w W Q c ≡ true → mark_in c x ≡ Out
      out Current.Free h = refl
      out (Current.Waiting op) h = refl
      out (Current.Joining k m) h = refl
      out (Current.Asking op r) h = cc h
      out (Current.Writing op s awaited reply) h = cc h

      none : (s : Stage) → requests_at s ≡ [] → answers_at s ≡ [] → (m : Mark)
          → m ≡ Out → fits s m ≡ true → share_at s ≡ None
      none Stage.HasGrant e f m k h = cc (k, h)
      none Stage.Returning e f m k h = cc e
      none Stage.AskedAgain e f m k h = cc e
      none Stage.GrantComing e f m k h = cc f
      none s e f m k h = refl

  -- so nobody's grant of it stands
  no_globals : (x : ℕ) → IsUp o w x → globals (w.node x).locks ≡ []
  no_globals x ux = row.1 ∙ go row.0 (sym row.1)
    where
      row : (row : Row) × (globals (w.node x).locks ≡ grants_of row)
      row = W.base.all.locks.rows x ux

      go : (r : Row) → grants_of r ≡ globals (w.node x).locks → grants_of r ≡ []
      go Nobody e = refl
      go (Held b k) e = absurd (running (left w b) refl)
        where
          known : in_world o b ≡ true
          known = (both (in_world o b) true (both (in_world o b && true) true
              (ap (all_grants (is_grant_known o)) e
              ∙ all_filter (λ g. is_grant_known o g.id g.holder) (λ g. is_global g.id) (w.node x).locks
              (W.families.granted x).known)).0).0

          running : (g : Bool) → left w b ≡ g → ⊥
          running true h = cc (sym (ap (none_of b) e
              ∙ all_filter (λ g. not (g.holder.node == b)) (λ g. is_global g.id) (w.node x).locks
              (rid o w W Q x b ux h).1) ∙ ap (λ (c : Bool). not c && true) (eq-eqb b b refl))
          running false h = cc (sym (ap (λ (c : Bool). if c then Some k else None) (eq-eqb b b refl))
              ∙ ap (share b) e ∙ no_share b x (known, h) ux)

  no_global_grants : (x : ℕ) → IsUp o w x → all_grants (λ i p. not (is_global i)) (w.node x).locks ≡ true
  no_global_grants x ux = none_kept (w.node x).locks (no_globals x ux)

  -- who doesn't live has no grant
  none_of_dead : (p : Process) (x : ℕ) → IsUp o w x → lives o w p ≡ false → none_of_holder p (w.node x).locks ≡ true
  none_of_dead p x ux h = go (in_world o p.node) refl (left w p.node) refl (p.serial == 0) refl
      (is_dead (w.node p.node).watch p.serial) refl h
    where
      t : Locks
      t = (w.node x).locks

      client : (p.serial == 0) ≡ true → none_of_holder p (w.node x).locks ≡ true
      client e = none_by (λ i q. is_grant_known o i q && not (is_global i)) p fails (w.node x).locks
          (all_both (w.node x).locks (W.families.granted x).known (no_global_grants x ux))
        where
          fails : (i : Id) → (is_grant_known o i p && not (is_global i)) ≡ false
          fails (Global b) = and-false (is_grant_known o (Global b) p)
          fails (Client r q) = rw e (off (in_world o p.node))
            where
              off : (c : Bool) → ((c && false) && true) ≡ false
              off true = refl
              off false = refl

          all_both : (s : Locks) → all_grants (is_grant_known o) s ≡ true
              → all_grants (λ i p. not (is_global i)) s ≡ true
              → all_grants (λ i q. is_grant_known o i q && not (is_global i)) s ≡ true
          all_both [] k l = refl
          all_both (g ∷ s) k l =
              let one : (is_grant_known o g.id g.holder ≡ true) × (all_grants (is_grant_known o) s ≡ true) =
              both (is_grant_known o g.id g.holder) (all_grants (is_grant_known o) s) k in
              let two : (not (is_global g.id) ≡ true) × (all_grants (λ i p. not (is_global i)) s ≡ true) =
              both (not (is_global g.id)) (all_grants (λ i p. not (is_global i)) s) l in
              rw (one.0, two.0, all_both s one.1 two.1) refl

      go : (i : Bool) → in_world o p.node ≡ i → (g : Bool) → left w p.node ≡ g → (s : Bool) → (p.serial == 0) ≡ s
          → (d : Bool) → is_dead (w.node p.node).watch p.serial ≡ d
          → (in_world o p.node && (not (left w p.node) && (not (p.serial == 0)
          && not (is_dead (w.node p.node).watch p.serial)))) ≡ false
          → none_of_holder p (w.node x).locks ≡ true
      go false ei g eg s es d ed k = none_by (is_grant_known o) p
          (λ i. ap (λ (b : Bool). b && suits_holder i p) ei) (w.node x).locks (W.families.granted x).known
      go true ei true eg s es d ed k = none_by (λ i q. not (q.node == p.node)) p
          (λ i. ap not (eq-eqb p.node p.node refl)) (w.node x).locks (rid o w W Q x p.node ux eg).1
      go true ei false eg true es d ed k = client es
      go true ei false eg false es true ed k = elim (W.families.freed p x es (ei, eg) ed ux) [
        | inl h ↦ absurd (cc (sym (ap (is_freed p) (Q p.node x ei ux)) ∙ h))
        | inr h ↦ h.1
      ]
      go true ei false eg false es false ed k = absurd (living (in_world o p.node) (left w p.node) (p.serial == 0)
          (is_dead (w.node p.node).watch p.serial) ei eg es ed k)
        where
          living : (i g s d : Bool) → i ≡ true → g ≡ false → s ≡ false → d ≡ false
              → (i && (not g && (not s && not d))) ≡ false → ⊥
          living true false false false a b c e k = cc k
          living false g s d a b c e k = cc a
          living true true s d a b c e k = cc b
          living true false true d a b c e k = cc c
          living true false false true a b c e k = cc e

-- the numbers of the statement are those of the rounds
same_number : (o : Opening) (es : List WorldEvent) (p : Process) (id : Id) (c : ℕ)
    → holds_count o es p id c ≡ RoundNumbers.round_count o es p id c
same_number o es p id c = numbers_agree o (All o) (grounds o) es p id c

module _ (o : Opening) (es : List WorldEvent) where
  num : Numbers
  num p id x = RoundNumbers.round_count o es p id x

  told : Clients o (world o es) (λ p id x. RoundNumbers.round_count o es p id x)
  told = (lock_state o es).clients

pub held_locks_stand : OfNodes HeldLocksStand
held_locks_stand o es c up id p = subst (λ (n : ℕ). n ≤ count id p ((world o es).node c).locks)
    (sym (same_number o es p id c)) (go (lives o (world o es) p) refl)
  where
    go : (b : Bool) → lives o (world o es) p ≡ b
        → RoundNumbers.round_count o es p id c ≤ count id p ((world o es).node c).locks
    go false h = omega (arith, (told o es).strangers p id c h)
    go true h = omega (
      arith,
      ((told o es).sessions p c h up).sum id,
      settled_le id (asks p ((world o es).links.queue p.node c)) (count id p ((world o es).node c).locks),
    )

pub locks_are_as_told : OfNodes LocksAreAsTold
locks_are_as_told o es c quiet up id p = go (lives o (world o es) p) refl ∙ sym (same_number o es p id c)
  where
    go : (b : Bool) → lives o (world o es) p ≡ b
        → count id p ((world o es).node c).locks ≡ RoundNumbers.round_count o es p id c
    go false h = none_counts id p ((world o es).node c).locks
        (none_of_dead o (world o es) (whole o es) quiet p c up h) ∙ sym ((told o es).strangers p id c h)
    go true h =
        let l : IsLive o (world o es) p = live_parts o (world o es) p h in
        live_counts o (world o es) (whole o es) quiet (λ q i x. RoundNumbers.round_count o es q i x) (told o es) p id c h
        (l.inside, l.up) up

pub no_empty_grants : OfNodes NoEmptyGrants
no_empty_grants o es c quiet up g listed = subst (λ (n : ℕ). 0 < n) (locks_are_as_told o es c quiet up g.id g.holder)
    (listed_counts ((world o es).node c).locks g ((whole o es).families.granted c).count listed)

pub nobody_keeps_the_global_lock : OfNodes NobodyKeepsTheGlobalLock
nobody_keeps_the_global_lock o es c b quiet up =
    not_given ((world o es).node c).locks b (no_global_grants o (world o es) (whole o es) quiet c up)

pub dead_holders_hold_nothing : OfNodes DeadHoldersHoldNothing
dead_holders_hold_nothing o es c quiet up g listed = go (is_no_more (world o es) g.holder) refl
  where
    dead : is_no_more (world o es) g.holder ≡ true → lives o (world o es) g.holder ≡ false
    dead h = off (in_world o g.holder.node) (left (world o es) g.holder.node) (g.holder.serial == 0)
        (is_dead ((world o es).node g.holder.node).watch g.holder.serial) h
      where
        off : (i l s d : Bool) → (l || d) ≡ true → (i && (not l && (not s && not d))) ≡ false
        off false l s d h = refl
        off true true s d h = refl
        off true false true d h = refl
        off true false false true h = refl
        off true false false false h = cc h

    go : (b : Bool) → is_no_more (world o es) g.holder ≡ b → b ≡ false
    go false h = refl
    go true h =
        let counted : 0 < count g.id g.holder ((world o es).node c).locks =
        listed_counts ((world o es).node c).locks g ((whole o es).families.granted c).count listed in
        let none : count g.id g.holder ((world o es).node c).locks ≡ 0 =
        none_counts g.id g.holder ((world o es).node c).locks
        (none_of_dead o (world o es) (whole o es) quiet g.holder c up (dead h)) in
        absurd (omega (arith, counted, none))

-- nothing that is listed passes
find_none : {A : Type 0} (test : A → Bool) (xs : List A) → ((x : A) → Contains xs x → test x ≡ false)
    → find test xs ≡ None
find_none test [] none = refl
find_none {A} test (x ∷ xs) none = go (test x) (none x (Contains-front x xs))
    (find_none test xs (λ y c. none y (Contains-behind x xs y c)))
  where
    go : (b : Bool) → b ≡ false → find test xs ≡ None → (if b then Some x else find test xs) ≡ None
    go true e h = cc e
    go false e h = h

pub free_locks_are_granted : OfNodes FreeLocksAreGranted
free_locks_are_granted o es c quiet up id p alone few =
    ap (λ (x : Option Grant). is_none (refused_by id p t x)) (find_none (is_in_the_way id) t clear)
    ∙ ap (λ (b : Bool). is_none (if b then None else Some id)) (lt-ltb (count id p t) last_count
    (subst (λ (n : ℕ). n < last_count) (sym (locks_are_as_told o es c quiet up id p)) few))
  where
    t : Locks
    t = ((world o es).node c).locks

    clear : (g : Grant) → Contains ((world o es).node c).locks g → is_in_the_way id g ≡ false
    clear g listed = go (is_resource g.id id) refl
      where
        go : (b : Bool) → is_resource g.id id ≡ b → (b && not (is_id g.id id)) ≡ false
        go true e = ap not (alone g.holder g.id (no_empty_grants o es c quiet up g listed) e)
        go false e = refl
