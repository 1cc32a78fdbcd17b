-- A dead process has no grants at a running node, and asks for none, or is still to be released there.
use mathlib.Core.Logic.{◌⊎◌}
use Rattle.std.proofs.Common.{ℕ, Bool, true, false, ◌==◌, ◌≡◌, Option, Some, None, List, [], ◌∷◌, ◌++◌, refl, sym, ap, ◌∙◌, subst, inl, inr}
use Rattle.std.specs.Prelude.{not, ◌&&◌, ◌||◌, nat_lt, if◌then◌else◌}
use Rattle.std.specs.List.{list_any}
use Rattle.std.proofs.lemmas.Bool.{cases_eq, eq-eqb, ne_eqb, eqb-true}
use Rattle.std.proofs.lemmas.List.{append-nil}
use Rattle.std.proofs.lemmas.List.Folds.{list_any-append}
use Rattle.std.proofs.Math.Bool.{or-true}
use Rattle.registry_model.specs.Process.{Process, is_process, Nodes, at}
use Rattle.protocol_model.specs.Round.{greatest, opens, rest, answer}
use Rattle.protocol_model.specs.Letter.{Letter}
use Rattle.protocol_model.specs.Links.{Links}
use Rattle.protocol_model.specs.LockTable.{Locks, is_free_for, grant, drop_holder}
use Rattle.protocol_model.specs.Watch.{Watch, is_dead}
use Rattle.protocol_model.specs.Node.{Node, LockPhase, call_of, targets}
use Rattle.protocol_model.specs.Turn.{begun, send_all, keep_call, sent_to}
use Rattle.protocol_model.specs.Client.{in_phase}
use Rattle.protocol_model.specs.World.{Opening, in_world, World, left, opening_world}
use Rattle.registry_model.proofs.Updates.{by_test, at_same, at_other}
use Rattle.headline.proofs.Indices.{both, neither, not_true}
use Rattle.headline.proofs.Sends.{sent_to-one, sent_to-all}
use Rattle.headline.proofs.Rules
use Rattle.headline.proofs.Rules.{Rule, Taken, IsNew, IsRetried}
use Rattle.headline.proofs.Invariants.{IsUp}
use Rattle.walk.proofs.Events.{live_own}
use Rattle.headline.proofs.Base.{popped, popped_queue, after_turn, effect-turn, letters_from, taken_first, popped-other}
use Rattle.headline.proofs.Ids.{is_process_same, is_process_self}
use Rattle.headline.proofs.ClientLocksClients.{call_at}
use Rattle.leftovers.proofs.Grounds.{Base}
use Rattle.leftovers.proofs.Parts.{watch_by, locks_by, parts}
use Rattle.leftovers.proofs.GrantLists.{all_grants, all_filter, all_kept, all_grant, all_give_back}
use Rattle.leftovers.proofs.Departures.{judged_home}
use Rattle.leftovers.proofs.Takes.{is_take, has_take, calm_turn}
use Rattle.leftovers.proofs.Members.{none_from, Apart, Members}

-- p asks for a grant
abbrev pub is_take_of : Process → Letter → Bool
is_take_of p (Letter.SetLock id q) = is_process q p
is_take_of p _ = false

abbrev pub has_take_of : Process → List Letter → Bool
has_take_of p ls = list_any (is_take_of p) ls

-- p is released
abbrev pub is_release : Process → Letter → Bool
is_release p (Letter.ReleaseOf q) = is_process q p
is_release p _ = false

-- it is, and asks for nothing behind that
abbrev pub is_freed : Process → List Letter → Bool
is_freed p [] = false
is_freed p (l ∷ ls) = is_freed p ls || is_release p l && not (has_take_of p ls)

abbrev pub none_of_holder : Process → Locks → Bool
none_of_holder p t = all_grants (λ i q. not (is_process q p)) t

abbrev pub Freed : Process → List Letter → Locks → Type 0
Freed p ls t = (is_freed p ls ≡ true) ⊎ ((has_take_of p ls ≡ false) × (none_of_holder p t ≡ true))

abbrev pub DeadFreed : Opening → World → Type 0
DeadFreed o w = (p : Process) (x : ℕ) → (p.serial == 0) ≡ false → IsUp o w p.node
    → is_dead (w.node p.node).watch p.serial ≡ true → IsUp o w x → Freed p (w.links.queue p.node x) (w.node x).locks

take_of_append : (p : Process) (xs ys : List Letter) → has_take_of p xs ≡ false → has_take_of p ys ≡ false
    → has_take_of p (xs ++ ys) ≡ false
take_of_append p xs ys h k =
    list_any-append (is_take_of p) xs ys ∙ ap (λ (b : Bool). b || has_take_of p ys) h ∙ k

-- it stays so where it asks for nothing more
freed_append : (p : Process) (xs ys : List Letter) → has_take_of p ys ≡ false → is_freed p xs ≡ true
    → is_freed p (xs ++ ys) ≡ true
freed_append p [] ys none h = cc
freed_append p (x ∷ xs) ys none h =
    go (λ e. freed_append p xs ys none e) (is_freed p xs) refl (is_release p x) (has_take_of p xs) refl h
  where
    go : (is_freed p xs ≡ true → is_freed p (xs ++ ys) ≡ true) → (f : Bool) → is_freed p xs ≡ f → (r t : Bool)
        → has_take_of p xs ≡ t → (f || r && not t) ≡ true
        → (is_freed p (xs ++ ys) || r && not (has_take_of p (xs ++ ys))) ≡ true
    go more true e r t i k = rw (more e) refl
    go more false e true false i k = rw (take_of_append p xs ys i none) (or-true (is_freed p (xs ++ ys)))
    go more false e true true i k = cc
    go more false e false t i k = cc

freed_last : (p : Process) (xs : List Letter) → is_freed p (xs ++ Letter.ReleaseOf p ∷ []) ≡ true
freed_last p [] = rw (is_process_self p) refl
freed_last p (x ∷ xs) = rw (freed_last p xs) refl

-- no client asks, so p doesn't
take_of_none : (p : Process) → (p.serial == 0) ≡ false → (ls : List Letter) → has_take ls ≡ false
    → has_take_of p ls ≡ false
take_of_none p client [] h = refl
take_of_none p client (l ∷ ls) h =
    let parts : (is_take l ≡ false) × (has_take ls ≡ false) = neither (is_take l) (has_take ls) h in
    ap (λ (b : Bool). b || has_take_of p ls) (one l parts.0) ∙ take_of_none p client ls parts.1
  where
    one : (l : Letter) → is_take l ≡ false → is_take_of p l ≡ false
    one (Letter.SetLock id q) e = go (is_process q p) refl
      where
        go : (b : Bool) → is_process q p ≡ b → b ≡ false
        go true i = cc (ap (λ (z : Process). not (z.serial == 0)) (is_process_same q p i), ap not client, e)
        go false i = refl
    one _ e = refl

-- no client of its node has a grant, so p has none
holder_none : (p : Process) → (p.serial == 0) ≡ false → (t : Locks) → none_from p.node t ≡ true
    → none_of_holder p t ≡ true
holder_none p client [] h = refl
holder_none p client (g ∷ t) h =
    let parts : (((g.holder.serial == 0) || not (g.holder.node == p.node)) ≡ true) × (none_from p.node t ≡ true) =
    both ((g.holder.serial == 0) || not (g.holder.node == p.node)) (none_from p.node t) h in
    rw (go (is_process g.holder p) refl parts.0, holder_none p client t parts.1) refl
  where
    go : (b : Bool) → is_process g.holder p ≡ b → ((g.holder.serial == 0) || not (g.holder.node == p.node)) ≡ true
        → b ≡ false
    go true i k = absurd (no (g.holder.serial == 0) (g.holder.node == p.node) (ap (λ (z : Process). z.serial == 0) same
        ∙ client) (eq-eqb g.holder.node p.node (ap (λ (z : Process). z.node) same)) k)
      where
        same : g.holder ≡ p
        same = is_process_same g.holder p i

        no : (s n : Bool) → s ≡ false → n ≡ true → (s || not n) ≡ true → ⊥
        no true n e f h = cc e
        no false true e f h = cc h
        no false false e f h = cc f
    go false i k = refl

-- a link loses what is taken and gets what is sent; the lock table changes
freed_moved : (p : Process) (taken after sent : List Letter) (t u : Locks) → has_take_of p sent ≡ false
    → (has_take_of p taken ≡ false → none_of_holder p t ≡ true → none_of_holder p u ≡ true)
    → ((l : Letter) → taken ≡ l ∷ [] → is_release p l ≡ true → none_of_holder p u ≡ true)
    → ((taken ≡ []) ⊎ ((l : Letter) × (taken ≡ l ∷ [])))
    → Freed p (taken ++ after) t → Freed p (after ++ sent) u
freed_moved p taken after sent t u none keeps frees (inl e) (inl h) = inl (freed_append p after sent none
    (sym (ap (λ (ls : List Letter). is_freed p (ls ++ after)) e) ∙ h))
freed_moved p taken after sent t u none keeps frees (inl e) (inr h) = inr (
  take_of_append p after sent (sym (ap (λ (ls : List Letter). has_take_of p (ls ++ after)) e) ∙ h.0) none,
  keeps (ap (has_take_of p) e) h.1,
)
freed_moved p taken after sent t u none keeps frees (inr (l, e)) (inl h) =
    go (is_freed p after) refl (is_release p l) refl (has_take_of p after) refl
    (sym (ap (λ (ls : List Letter). is_freed p (ls ++ after)) e) ∙ h)
  where
    go : (f : Bool) → is_freed p after ≡ f → (r : Bool) → is_release p l ≡ r → (k : Bool) → has_take_of p after ≡ k
        → (f || r && not k) ≡ true → Freed p (after ++ sent) u
    go true i r j k n q = inl (freed_append p after sent none i)
    go false i true j false n q = inr (take_of_append p after sent n none, frees l e j)
    go false i true j true n q = cc q
    go false i false j k n q = cc q
freed_moved p taken after sent t u none keeps frees (inr (l, e)) (inr h) =
    let parts : (is_take_of p l ≡ false) × (has_take_of p after ≡ false) = neither (is_take_of p l)
    (has_take_of p after) (sym (ap (λ (ls : List Letter). has_take_of p (ls ++ after)) e) ∙ h.0) in
    inr (
      take_of_append p after sent parts.1 none,
      keeps (ap (has_take_of p) e ∙ ap (λ (b : Bool). b || false) parts.0) h.1,
    )

-- one more is dead
dead_more : (ds : List ℕ) (q s : ℕ) → list_any (λ d. d == s) (ds ++ q ∷ []) ≡ true
    → (list_any (λ d. d == s) ds ≡ true) ⊎ (q ≡ s)
dead_more [] q s h = inr (eqb-true q s (go (q == s) h))
  where
    go : (b : Bool) → (b || false) ≡ true → b ≡ true
    go true k = refl
    go false k = k
dead_more (d ∷ ds) q s h = go (d == s) h (dead_more ds q s)
  where
    go : (b : Bool) → (b || list_any (λ d. d == s) (ds ++ q ∷ [])) ≡ true
        → (list_any (λ d. d == s) (ds ++ q ∷ []) ≡ true → (list_any (λ d. d == s) ds ≡ true) ⊎ (q ≡ s))
        → ((b || list_any (λ d. d == s) ds) ≡ true) ⊎ (q ≡ s)
    go true k more = inl refl
    go false k more = more k

-- who dies by a rule
abbrev pub died_by : Rule → Option Process
died_by (Rules.Exits q) = Some q
died_by (Rules.Kills f l q receivers) = Some q
died_by _ = None

pub dead_by : (r : Rule) (v : Watch) (s : ℕ) → is_dead (watch_by r v) s ≡ true
    → (is_dead v s ≡ true) ⊎ ((q : Process) × (died_by r ≡ Some q) × (q.serial ≡ s))
dead_by (Rules.Exits q) v s h = elim (dead_more v.dead q.serial s h) [
  | inl k ↦ inl k
  | inr e ↦ inr (q, refl, e)
]
dead_by (Rules.Kills f l q receivers) v s h = elim (dead_more v.dead q.serial s h) [
  | inl k ↦ inl k
  | inr e ↦ inr (q, refl, e)
]
dead_by Rules.Spawns v s h = inl h
dead_by _ v s h = inl h

module _ (o : Opening) (b : ℕ) (w : World) (B : Base o w) where
  abbrev v : Node
  v = w.node b

  -- a dead process has no call
  dead_callless : (p : Process) → left w p.node ≡ false → is_dead (w.node p.node).watch p.serial ≡ true
      → call_at w p ≡ None
  dead_callless p up dead = B.clients.callers p (off (in_world o p.node) (not (left w p.node)) (not (p.serial == 0))
      (is_dead (w.node p.node).watch p.serial) dead) up
    where
      off : (i u c d : Bool) → d ≡ true → (i && (u && (c && not d))) ≡ false
      off false u c d e = refl
      off true false c d e = refl
      off true true false d e = refl
      off true true true d e = ap not e

  -- so a dead process asks for nothing
  asks_not : (r : Rule) → Rules.May o b w r → (p : Process) → (p.serial == 0) ≡ false → p.node ≡ b
      → is_dead v.watch p.serial ≡ true → call_of p v.calls ≡ None → (x : ℕ)
      → has_take_of p (sent_to x (Rules.turn_by o b w r).sends) ≡ false
  asks_not (Rules.AsksLock c) m p client home dead none x =
      ap (has_take_of p) (sent_to-one x (greatest o.bound (targets v.replica.members c.target))
      (Letter.SetLock c.id c.holder))
      ∙ go (greatest o.bound (targets v.replica.members c.target) == x)
    where
      other : (t : Bool) → is_process c.holder p ≡ t → IsNew b v c ⊎ IsRetried v c → t ≡ false
      other false e h = refl
      other true e (inl h) =
          let alive : is_dead v.watch c.holder.serial ≡ false = not_true (is_dead v.watch c.holder.serial)
          (both ((c.holder.node == b) && not (c.holder.serial == 0)) (not (is_dead v.watch c.holder.serial)) h.live).1 in
          let gone : is_dead v.watch c.holder.serial ≡ true =
          ap (λ (q : Process). is_dead v.watch q.serial) (is_process_same c.holder p e) ∙ dead in
          cc (alive, gone)
      other true e (inr h) = cc (sym h.open_call
          ∙ ap (λ (q : Process). call_of q v.calls) (is_process_same c.holder p e) ∙ none)

      go : (t : Bool) → has_take_of p (if t then Letter.SetLock c.id c.holder ∷ [] else []) ≡ false
      go true = ap (λ (t : Bool). t || false) (other (is_process c.holder p) refl m.tested.0)
      go false = refl
  asks_not (Rules.HearsLock f id granted c r) m p client home dead none x = go (opens f granted r)
    where
      l : Letter
      l = Letter.SetLock c.id c.holder

      other : (t : Bool) → is_process c.holder p ≡ t → t ≡ false
      other false e = refl
      other true e = cc (sym m.tested.2.call
          ∙ ap (λ (q : Process). call_of q v.calls) (is_process_same c.holder p e) ∙ none)

      one : (t : Bool) → has_take_of p (if t then l ∷ [] else []) ≡ false
      one true = ap (λ (t : Bool). t || false) (other (is_process c.holder p) refl)
      one false = refl

      go : (t : Bool) → has_take_of p (sent_to x (keep_call (in_phase (LockPhase.Asking (answer f granted r)) c)
          (if t then send_all o.bound (λ y. rest r y && not (v.replica.told y)) (Letter.SetLock c.id c.holder)
          (begun v) else begun v)).sends) ≡ false
      go true = ap (has_take_of p) (sent_to-all o.bound (λ y. rest r y && not (v.replica.told y)) l x)
          ∙ one (nat_lt x o.bound && (rest r x && not (v.replica.told x)))
      go false = refl
  asks_not r m p client home dead none x = take_of_none p client (sent_to x (Rules.turn_by o b w r).sends)
      (calm_turn o b w r refl x)

  -- a lock table gets none of its grants, unless it asked
  none_kept : (r : Rule) → Rules.May o b w r → (p : Process)
      → has_take_of p (letters_from (Rules.takes o b r) p.node) ≡ false → none_of_holder p v.locks ≡ true
      → none_of_holder p (locks_by r v.locks) ≡ true
  none_kept (Rules.Judges f id q) m p silent h = go (is_free_for id q v.locks)
    where
      other : (t : Bool) → is_process q p ≡ t → t ≡ false
      other false e = refl
      other true e =
          let from : (p.node == f) ≡ true = eq-eqb p.node f (sym (ap (λ (z : Process). z.node) (is_process_same q p e))
          ∙ judged_home o b w B f id q m) in
          let asks : has_take_of p (if p.node == f then Letter.SetLock id q ∷ [] else []) ≡ true = rw (from, e) refl in
          cc (asks, silent)

      go : (t : Bool) → none_of_holder p (if t then grant id q v.locks else v.locks) ≡ true
      go true = all_grant (λ i z. not (is_process z p)) id q v.locks (ap not (other (is_process q p) refl)) h
      go false = h
  none_kept (Rules.TakesBack f id q ack) m p silent h = all_give_back (λ i z. not (is_process z p)) id q v.locks h
  none_kept (Rules.Releases f q) m p silent h = all_filter _ _ v.locks h
  none_kept (Rules.IsTold f) m p silent h = all_filter _ _ v.locks h
  none_kept _ m p silent h = h

  -- where it is released, it has none
  none_freed : (r : Rule) → Rules.May o b w r → (p : Process) → left w p.node ≡ false → (l : Letter)
      → letters_from (Rules.takes o b r) p.node ≡ l ∷ [] → is_release p l ≡ true
      → none_of_holder p (locks_by r v.locks) ≡ true
  none_freed r m p up l e h = by r m (from (Rules.takes o b r) e)
    where
      same : (x : Letter) → x ∷ [] ≡ l ∷ [] → x ≡ l
      same x q = cc q

      from : (t : Option Taken) → letters_from t p.node ≡ l ∷ []
          → (k : Taken) × (t ≡ Some k) × (p.node ≡ k.sender) × (is_release p k.letter ≡ true)
      from None q = cc q
      from (Some t) q = go (p.node == t.sender) refl q
        where
          go : (c : Bool) → (p.node == t.sender) ≡ c → (if c then t.letter ∷ [] else []) ≡ l ∷ []
              → (k : Taken) × (Some t ≡ Some k) × (p.node ≡ k.sender) × (is_release p k.letter ≡ true)
          go true i k = (t, refl, eqb-true p.node t.sender i, ap (is_release p) (same t.letter k) ∙ h)
          go false i k = cc k

      releases : Option Taken → Bool
      releases None = false
      releases (Some t) = is_release p t.letter

      unreleased : (t : Option Taken) (k : Taken) → t ≡ Some k → releases t ≡ false → is_release p k.letter ≡ true → ⊥
      unreleased None k q n z = cc q
      unreleased (Some t) k q n z = let i : t ≡ k = cc q in cc (ap (λ (y : Taken). is_release p y.letter) i, n, z)

      letter_of : (f : ℕ) (x : Letter) (k : Taken) → Some (record { sender = f; letter = x }) ≡ Some k
          → (f ≡ k.sender) × (x ≡ k.letter)
      letter_of f x k q =
          let i : record { sender = f; letter = x } ≡ k = cc q in
          (ap (λ (z : Taken). z.sender) i, ap (λ (z : Taken). z.letter) i)

      by : (s : Rule) → Rules.May o b w s
          → ((k : Taken) × (Rules.takes o b s ≡ Some k) × (p.node ≡ k.sender) × (is_release p k.letter ≡ true))
          → none_of_holder p (locks_by s v.locks) ≡ true
      by (Rules.Releases f q) n (k, i, j, z) =
          let is : q ≡ p = is_process_same q p (ap (is_release p) (letter_of f (Letter.ReleaseOf q) k i).1 ∙ z) in
          subst (λ (y : Process). none_of_holder y (drop_holder q v.locks) ≡ true) is
          (all_kept (λ g. not (is_process g.holder q)) v.locks)
      by (Rules.Drops f x) n (k, i, j, z) =
          cc (B.all.proper.told_left b f n.running n.tested.0, ap (left w) (j ∙ sym (letter_of f x k i).0), up)
      by (Rules.Ignores f (Letter.ReleaseOf q)) n (k, i, j, z) = cc n.tested.1
      by (Rules.Ignores f x) n (k, i, j, z) = absurd (unreleased (Rules.takes o b (Rules.Ignores f x)) k i refl z)
      by s n (k, i, j, z) = absurd (unreleased (Rules.takes o b s) k i refl z)

module _ (o : Opening) (b : ℕ) (w : World) (B : Base o w) (M : Members o w) (D : DeadFreed o w) where
  -- a rule that isn't the last step of its node
  module _ (r : Rule) (m : Rules.May o b w r) where
    abbrev after : World
    after = after_turn b w (Rules.turn_by o b w r) (Rules.takes o b r)

    abbrev ls : ℕ → List Letter
    ls y = sent_to y (Rules.turn_by o b w r).sends

    abbrev links : Links Letter
    links = popped b (Rules.takes o b r) w.links

    -- what is sent on a link to a node that runs
    abbrev sent : ℕ → ℕ → List Letter
    sent y x = if y == b then ls x else []

    posted_sent : (y x : ℕ) → left w x ≡ false → after.links.queue y x ≡ links.queue y x ++ sent y x
    posted_sent y x up = rw up (go (y == b))
      where
        go : (t : Bool) → (if t && true then links.queue y x ++ ls x else links.queue y x)
            ≡ links.queue y x ++ (if t then ls x else [])
        go true = refl
        go false = sym (append-nil (links.queue y x))

    -- who was dead before
    was_dead : (p : Process) (x : ℕ) → (p.serial == 0) ≡ false → IsUp o w p.node
        → is_dead (w.node p.node).watch p.serial ≡ true → IsUp o w x
        → Freed p (after.links.queue p.node x) (after.node x).locks
    was_dead p x client up dead ux = subst (λ (q : List Letter). Freed p q (after.node x).locks)
        (sym (posted_sent p.node x ux.1))
        (by_test b (λ y t. IsUp o w y → Freed p (w.links.queue p.node y) (w.node y).locks
        → Freed p (links.queue p.node y ++ sent p.node y)
        (if t then (Rules.turn_by o b w r).node else w.node y).locks) here there x ux (D p x client up dead ux))
      where
        silent : (y : ℕ) → has_take_of p (sent p.node y) ≡ false
        silent y = go (p.node == b) refl
          where
            go : (t : Bool) → (p.node == b) ≡ t → has_take_of p (if t then ls y else []) ≡ false
            go true e =
                let home : p.node ≡ b = eqb-true p.node b e in
                asks_not o b w B r m p client home
                (ap (λ (z : ℕ). is_dead (w.node z).watch p.serial) (sym home) ∙ dead)
                (ap (λ (z : ℕ). call_of p (w.node z).calls) (sym home) ∙ dead_callless o b w B p up.1 dead) y
            go false e = refl

        shape : (t : Option Taken) → (letters_from t p.node ≡ [])
            ⊎ ((l : Letter) × (letters_from t p.node ≡ l ∷ []))
        shape None = inl refl
        shape (Some t) = go (p.node == t.sender)
          where
            go : (c : Bool) → ((if c then t.letter ∷ [] else []) ≡ [])
                ⊎ ((l : Letter) × ((if c then t.letter ∷ [] else []) ≡ l ∷ []))
            go true = inr (t.letter, refl)
            go false = inl refl

        here : IsUp o w b → Freed p (w.links.queue p.node b) (w.node b).locks
            → Freed p (links.queue p.node b ++ sent p.node b) (Rules.turn_by o b w r).node.locks
        here u F = freed_moved p (letters_from (Rules.takes o b r) p.node) (links.queue p.node b) (sent p.node b)
            (w.node b).locks (Rules.turn_by o b w r).node.locks (silent b)
            (λ k n. ap (none_of_holder p) (parts o b w r).locks ∙ none_kept o b w B r m p k n)
            (λ l e k. ap (none_of_holder p) (parts o b w r).locks ∙ none_freed o b w B r m p up.1 l e k)
            (shape (Rules.takes o b r))
            (subst (λ (q : List Letter). Freed p q (w.node b).locks)
            (taken_first o b w (Rules.takes o b r) m.front p.node) F)

        there : (y : ℕ) → (y ≡ b → ⊥) → IsUp o w y → Freed p (w.links.queue p.node y) (w.node y).locks
            → Freed p (links.queue p.node y ++ sent p.node y) (w.node y).locks
        there y ne u F = freed_moved p [] (links.queue p.node y) (sent p.node y) (w.node y).locks (w.node y).locks
            (silent y) (λ k n. n) (λ l e k. cc e) (inl refl)
            (subst (λ (q : List Letter). Freed p q (w.node y).locks)
            (sym (popped-other b (Rules.takes o b r) w.links.queue p.node y ne)) F)

  -- who dies now: the members are told, and others have nothing of it
  dies_now : (p : Process) (x : ℕ) (receivers : Nodes) → (p.serial == 0) ≡ false → IsUp o w b → p.node ≡ b
      → IsUp o w x → ((c : ℕ) → (w.node b).replica.members c ≡ true → receivers c ≡ true)
      → Freed p (w.links.queue b x ++ (if nat_lt x o.bound && receivers x then Letter.ReleaseOf p ∷ [] else []))
      (w.node x).locks
  dies_now p x receivers client up home ux wider = go (receivers x) refl
    where
      below : nat_lt x o.bound ≡ true
      below = (both (nat_lt x o.bound) (o.nodes x) ux.0).0

      known : (t : Bool) → (w.node b).replica.members x ≡ t → receivers x ≡ false → t ≡ false
      known true e n = cc (wider x e, n)
      known false e n = refl

      go : (t : Bool) → receivers x ≡ t
          → Freed p (w.links.queue b x ++ (if nat_lt x o.bound && receivers x then Letter.ReleaseOf p ∷ [] else []))
          (w.node x).locks
      go true e = rw (below, e) (inl (freed_last p (w.links.queue b x)))
      go false e =
          let A : Apart b (w.links.queue b x) (w.node x).locks = M b x up ux
          (known ((w.node b).replica.members x) refl e) in
          rw (below, e) (inr (
            take_of_append p (w.links.queue b x) [] (take_of_none p client (w.links.queue b x) A.letters) refl,
            holder_none p client (w.node x).locks
                (subst (λ (y : ℕ). none_from y (w.node x).locks ≡ true) (sym home) A.grants),
          ))

  -- a rule by which q dies
  module _ (r : Rule) (m : Rules.May o b w r) (q : Process) (receivers : Nodes)
      (letters : (x : ℕ) → sent_to x (Rules.turn_by o b w r).sends
      ≡ (if nat_lt x o.bound && receivers x then Letter.ReleaseOf q ∷ [] else []))
      (untaken : Rules.takes o b r ≡ None) (locks : locks_by r (w.node b).locks ≡ (w.node b).locks)
      (home : q.node ≡ b) (wider : (c : ℕ) → (w.node b).replica.members c ≡ true → receivers c ≡ true) where
    dies_after : (p : Process) (x : ℕ) → (p.serial == 0) ≡ false → p.node ≡ b → q.serial ≡ p.serial → IsUp o w x
        → Freed p ((after r m).links.queue p.node x) ((after r m).node x).locks
    dies_after p x client own same ux = subst (λ (y : ℕ). Freed p ((after r m).links.queue y x)
        ((after r m).node x).locks) (sym own) (rw all (subst (λ (t : Locks). Freed p
        (w.links.queue b x ++ (if nat_lt x o.bound && receivers x then Letter.ReleaseOf q ∷ [] else [])) t)
        (sym kept) (subst (λ (z : Process). Freed p
        (w.links.queue b x ++ (if nat_lt x o.bound && receivers x then Letter.ReleaseOf z ∷ [] else []))
        (w.node x).locks) one (dies_now p x receivers client (m.inside, m.running) own ux wider))))
      where
        one : p ≡ q
        one = ap (λ (n : ℕ). record p { node = n }) (own ∙ sym home)
            ∙ ap (λ (s : ℕ). record { node = q.node; serial = s }) (sym same)

        kept : ((after r m).node x).locks ≡ (w.node x).locks
        kept = by_test b (λ y t. (if t then (Rules.turn_by o b w r).node else w.node y).locks ≡ (w.node y).locks)
            ((parts o b w r).locks ∙ locks) (λ y ne. refl) x

        none_popped : (t : Option Taken) → t ≡ None → popped_queue b t w.links.queue b x ≡ w.links.queue b x
        none_popped None e = refl
        none_popped (Some k) e = cc e

        all : (after r m).links.queue b x
            ≡ w.links.queue b x ++ (if nat_lt x o.bound && receivers x then Letter.ReleaseOf q ∷ [] else [])
        all = posted_sent r m b x ux.1
            ∙ ap (λ (ls : List Letter). popped_queue b (Rules.takes o b r) w.links.queue b x ++ ls)
            (here ∙ letters x)
            ∙ ap (λ (ls : List Letter). ls ++ (if nat_lt x o.bound && receivers x then Letter.ReleaseOf q ∷ [] else []))
            (none_popped (Rules.takes o b r) untaken)
          where
            here : (if b == b then sent_to x (Rules.turn_by o b w r).sends else [])
                ≡ sent_to x (Rules.turn_by o b w r).sends
            here = ap (λ (t : Bool). if t then sent_to x (Rules.turn_by o b w r).sends else []) (eq-eqb b b refl)

  -- each dead process is released after a turn
  turn_freed : (r : Rule) (m : Rules.May o b w r) → DeadFreed o (after r m)
  turn_freed r m p x client up dead ux = elim (cases_eq p.node b) [
    | inr ne ↦ was_dead r m p x client up
        (sym (ap (λ (n : Node). is_dead n.watch p.serial) (at_other w.node b (Rules.turn_by o b w r).node p.node ne))
        ∙ dead) ux
    | inl e ↦ own e (dead_by r (w.node b).watch p.serial (now e))
  ]
    where
      now : p.node ≡ b → is_dead (watch_by r (w.node b).watch) p.serial ≡ true
      now e = sym (ap (λ (n : Watch). is_dead n p.serial) (parts o b w r).watch)
          ∙ sym (ap (λ (n : Node). is_dead n.watch p.serial) (ap (λ (y : ℕ). at w.node b (Rules.turn_by o b w r).node y) e
          ∙ at_same w.node b (Rules.turn_by o b w r).node)) ∙ dead

      by : (s : Rule) (n : Rules.May o b w s) (q : Process) → died_by s ≡ Some q → p.node ≡ b → q.serial ≡ p.serial
          → Freed p ((after s n).links.queue p.node x) ((after s n).node x).locks
      by (Rules.Exits z) n q i e k = dies_after (Rules.Exits z) n z (w.node b).replica.members
          (λ y. sent_to-all o.bound (w.node b).replica.members (Letter.ReleaseOf z) y) refl refl
          (eqb-true z.node b (both (z.node == b) (not (z.serial == 0))
          (both ((z.node == b) && not (z.serial == 0)) (not (nat_lt (w.node b).watch.last_serial z.serial))
          n.tested.0).0).0) (λ c h. h) p x client e (let j : z ≡ q = cc i in ap (λ (y : Process). y.serial) j ∙ k) ux
      by (Rules.Kills f l z receivers) n q i e k = dies_after (Rules.Kills f l z receivers) n z receivers
          (λ y. sent_to-all o.bound receivers (Letter.ReleaseOf z) y) refl refl
          (eqb-true z.node b (live_own b (w.node b).watch z n.tested.4).0) n.tested.6 p x client e
          (let j : z ≡ q = cc i in ap (λ (y : Process). y.serial) j ∙ k) ux
      by s n q i e k = cc i

      own : p.node ≡ b → (is_dead (w.node b).watch p.serial ≡ true)
          ⊎ ((q : Process) × (died_by r ≡ Some q) × (q.serial ≡ p.serial))
          → Freed p ((after r m).links.queue p.node x) ((after r m).node x).locks
      own e (inl h) = was_dead r m p x client up (ap (λ (y : ℕ). is_dead (w.node y).watch p.serial) e ∙ h) ux
      own e (inr (q, i, k)) = by r m q i e k

  leave_freed : Rules.May o b w Rules.Leaves → DeadFreed o (Rules.effect o b Rules.Leaves w)
  leave_freed m p x client up dead ux = rw (ne_eqb x b (other x ux), ne_eqb p.node b (other p.node up))
      (D p x client (up.0, running p.node up) was (ux.0, running x ux))
    where
      other : (y : ℕ) → IsUp o (Rules.effect o b Rules.Leaves w) y → y ≡ b → ⊥
      other y u e = cc (ap (λ (z : ℕ). at (left w) b true z) e ∙ at_same (left w) b true, u.1)

      running : (y : ℕ) → IsUp o (Rules.effect o b Rules.Leaves w) y → left w y ≡ false
      running y u = sym (at_other (left w) b true y (other y u)) ∙ u.1

      was : is_dead (w.node p.node).watch p.serial ≡ true
      was = sym (ap (λ (n : Node). is_dead n.watch p.serial)
          (at_other w.node b (Rules.turn_by o b w Rules.Leaves).node p.node (other p.node up))) ∙ dead

  pub freed_keeps : (r : Rule) → Rules.May o b w r → DeadFreed o (Rules.effect o b r w)
  freed_keeps Rules.Leaves m = leave_freed m
  freed_keeps r m = subst (DeadFreed o) (effect-turn o b w r refl) (turn_freed r m)

pub freed_opens : (o : Opening) → DeadFreed o (opening_world o)
freed_opens o p x client up dead ux = cc
