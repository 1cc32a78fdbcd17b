-- What is known of a node of every world, so that the work of its rules is as said.
use Rattle.std.proofs.Common.{ℕ, Bool, true, false, ◌==◌, ◌≡◌, ◌<◌, ◌≤◌, ◌+◌, ◌*◌, Option, Some, None, List, [], ◌∷◌, ◌++◌, refl, sym, ap, subst, ◌∙◌, arith}
use Rattle.std.specs.Prelude.{length, not, ◌&&◌, ◌||◌, filter, fold, Contains, nat_lt, if◌then◌else◌}
use Rattle.std.specs.List.{sum_by, list_all, list_any}
use Rattle.std.proofs.lemmas.Bool.{and_parts, ltb-true, eq-eqb, eqb-true, ne_eqb}
use Rattle.std.proofs.lemmas.List.Folds.{list_all-append}
use Rattle.registry_model.specs.Process.{Process, is_process, Nodes}
use Rattle.registry_model.specs.Table.{owns, Rule, Exit, Notify, NotifyAll, Pair, Table, Change, entry, without, put_all, remove_all}
use Rattle.registry_model.specs.Settlement.{Settled, unsettled, with_kill, with_put, with_notices, note, clash, settle_one, settle, with_settled}
use Rattle.registry_model.specs.Call.{Reply}
use Rattle.registry_model.specs.Registry.{table_of, Replica, replica_of}
use Rattle.registry_model.specs.History.{Entry, old_or, Standing, Hold, hold_at}
use Rattle.registry_model.proofs.Lists.{Contains-front, Contains-behind}
use Rattle.protocol_model.specs.Round.{Mark, Out, Later, Owes, Granted, Refused, Lost, Gone, Round, is_empty, is_owes, is_gone, has_granted, owes, opens}
use Rattle.protocol_model.specs.Letter.{Letter}
use Rattle.protocol_model.specs.Node.{Op, Current, LockPhase, LockCall, call_of}
use Rattle.protocol_model.specs.Event.{is_joining}
use Rattle.protocol_model.specs.World.{Opening, in_world, in_cluster, World, left}
use Rattle.named_events.proofs.Rules.{IsHeld}
use Rattle.named_events.proofs.Indices.{both, neither, not_true, empty_at}
use Rattle.named_events.proofs.Invariants.{IsWritten, Each, IsOnItsWay, IsUp, standing_at, Replicas, JoinsKnown, IsProperCurrent}
use Rattle.named_events.proofs.Locking.{BossFirst, IsRound}
use Rattle.named_events.proofs.Locking
use Rattle.named_events.proofs.Sessions.{Stage, Session, fits, mark_in}
use Rattle.named_events.proofs.LockSessionsRounds.{gone_fits, owes_ungranted}
use Rattle.named_events.proofs.Rounds.{is_unasked, only_boss_asked}
use Rattle.named_events.proofs.ClientLocksSessions as Sessions
use Rattle.named_events.proofs.Clients.{call_at, caller_lives, RoundedIn}
use Rattle.named_events.proofs.Mail.{asks, echoes}
use Rattle.named_events.proofs.Calls.{home_of_call}
use Rattle.named_events.proofs.Gates.{OnceIn, has_join, has_one}
use Rattle.named_events.proofs.Scenes
use Rattle.named_events.proofs.ReplicasMail.{carries, is_applied}
use Rattle.named_events.proofs.Deciding.{shown}
use Rattle.named_events.proofs.States.{groups_now, joined_now}
use Rattle.named_events.proofs.Together
use Rattle.named_events.proofs.Grounds.{Base}
use Rattle.named_events.proofs.Owners.{joined_owner}
use Rattle.no_dead_end.specs.Weights.{when}
use Rattle.no_dead_end.specs.Work.{owned_on}
use Rattle.no_dead_end.proofs.LetterWork.{joins}
use Rattle.no_dead_end.proofs.TableWork.{filter-length, count-passing, put_all-count, remove_all-count}
use Rattle.std.proofs.Math.Nat.{mul-le-mul_right}
use Rattle.no_dead_end.proofs.HeldStrikes.{always_struck}
use Rattle.no_dead_end.proofs.RuleWork.{Ready}
use Rattle.no_dead_end.proofs.AdmitWork.{settle_small}
use Rattle.named_events.specs.Worlds.{running}

-- a queue without joins, and one with one at most
pub no_join : (ops : List Op) → has_join ops ≡ false → joins ops ≡ 0
no_join [] e = refl
no_join (Op.Name k call ∷ ops) e = no_join ops e
no_join (Op.Strike p ∷ ops) e = no_join ops e
no_join (Op.Admission j pairs ∷ ops) e = no_join ops e
no_join (Op.Join k m ∷ ops) e = cc e

pub one_join : (ops : List Op) → has_one ops ≡ true → joins ops ≤ 1
one_join [] e = omega arith
one_join (Op.Name k call ∷ ops) e = one_join ops e
one_join (Op.Strike p ∷ ops) e = one_join ops e
one_join (Op.Admission j pairs ∷ ops) e = one_join ops e
one_join (Op.Join k m ∷ ops) e = let h : joins ops ≡ 0 = no_join ops (not_true (has_join ops) e) in omega (arith, h)

-- names of others
others_only : (c j : ℕ) → (c ≡ j → ⊥) → (t : Table) → list_all (λ (e : Pair). e.owner.node == j) t ≡ true → owned_on c t ≡ 0
others_only c j ne [] h = refl
others_only c j ne (e ∷ t) h =
    let parts : ((e.owner.node == j) ≡ true) × (list_all (λ (x : Pair). x.owner.node == j) t ≡ true) =
    both (e.owner.node == j) (list_all (λ (x : Pair). x.owner.node == j) t) h in
    rw (ne_eqb e.owner.node c (λ k. ne (sym k ∙ eqb-true e.owner.node j parts.0))) (others_only c j ne t parts.1)

nobody_left : (j : ℕ) (p : Pair → Bool) (t : Table) → ((pair : Pair) → Contains t pair → pair.owner.node ≡ j → ⊥)
    → owned_on j (filter p t) ≡ 0
nobody_left j p [] h = refl
nobody_left j p (e ∷ t) h = go (p e) (nobody_left j p t (λ pair i. h pair (Contains-behind e t pair i)))
  where
    go : (b : Bool) → owned_on j (filter p t) ≡ 0 → owned_on j (if b then e ∷ filter p t else filter p t) ≡ 0
    go true k = rw (ne_eqb e.owner.node j (h e (Contains-front e t))) k
    go false k = k

-- names that are put are the joiner's
module _ (p : Pair → Bool) where
  pushed_all : (xs : Table) (x : Pair) → list_all p xs ≡ true → p x ≡ true → list_all p (xs ++ x ∷ []) ≡ true
  pushed_all xs x h k = list_all-append p xs (x ∷ []) ∙ ap (λ (t : Bool). t && (p x && true)) h ∙ ap (λ (t : Bool). t && true) k

  clash_puts : (rule : Rule) (pair : Pair) (q : Process) (s : Settled) → p pair ≡ true → list_all p s.puts ≡ true
      → list_all p (clash rule pair q s).puts ≡ true
  clash_puts Exit pair q s h k = go (nat_lt pair.owner.node q.node)
    where
      go : (t : Bool) → list_all p (if t then with_kill q (with_put pair s)
          else with_kill pair.owner s).puts ≡ true
      go true = pushed_all s.puts pair k h
      go false = k
  clash_puts Notify pair q s h k = go (nat_lt pair.owner.node q.node)
    where
      go : (t : Bool) → list_all p (if t
          then with_notices (note q pair.name None ∷ []) (with_put pair s)
          else with_notices (note pair.owner pair.name None ∷ []) s).puts ≡ true
      go true = pushed_all s.puts pair k h
      go false = k
  clash_puts NotifyAll pair q s h k = k

  one_puts : (pair : Pair) (e : Option Pair) (s : Settled) → p pair ≡ true → list_all p s.puts ≡ true
      → list_all p (settle_one pair e s).puts ≡ true
  one_puts pair None s h k = pushed_all s.puts pair k h
  one_puts pair (Some it) s h k = go (is_process pair.owner it.owner)
    where
      go : (t : Bool) → list_all p (if t then s else clash it.rule pair it.owner s).puts ≡ true
      go true = k
      go false = clash_puts it.rule pair it.owner s h k

  all_puts : (table pairs : Table) (s : Settled) → list_all p pairs ≡ true → list_all p s.puts ≡ true
      → list_all p (fold (λ settled pair. settle_one pair (entry pair.name table) settled) s pairs).puts ≡ true
  all_puts table [] s h k = k
  all_puts table (pair ∷ pairs) s h k =
      let parts : (p pair ≡ true) × (list_all p pairs ≡ true) = both (p pair) (list_all p pairs) h in
      all_puts table pairs (settle_one pair (entry pair.name table) s) parts.1 (one_puts pair (entry pair.name table) s parts.0 k)

-- as many names as a table has, and those that are put
owned_sum : (j : ℕ) (t : Table) → sum_by (λ pair. when (pair.owner.node == j) 1) t ≡ owned_on j t
owned_sum j t = let h : sum_by (λ pair. when (pair.owner.node == j) 1) t ≡ owned_on j t * 1 =
    count-passing (λ (pair : Pair). pair.owner.node == j) 1 t in
    omega (arith, h)

owned_settled : (j : ℕ) (s : Settled) (t : Table) → owned_on j (with_settled s t) ≤ owned_on j t + length s.puts
owned_settled j s t =
    let a : sum_by (λ pair. when (pair.owner.node == j) 1) (remove_all s.removes (put_all s.puts t))
    ≤ sum_by (λ pair. when (pair.owner.node == j) 1) (put_all s.puts t) =
    remove_all-count (λ pair. when (pair.owner.node == j) 1) s.removes (put_all s.puts t) in
    let c : sum_by (λ pair. when (pair.owner.node == j) 1) (put_all s.puts t)
    ≤ sum_by (λ pair. when (pair.owner.node == j) 1) t + sum_by (λ pair. when (pair.owner.node == j) 1) s.puts =
    put_all-count (λ pair. when (pair.owner.node == j) 1) s.puts t in
    let d : _ = owned_sum j (with_settled s t) in let e : _ = owned_sum j t in let f : _ = owned_sum j s.puts in
    let g : owned_on j s.puts ≤ length s.puts = filter-length (λ pair. pair.owner.node == j) s.puts in
    omega (arith, a, c, d, e, f, g)

-- a mark that fits isn't that of who has gone down
not_gone : (s : Stage) (m : Mark) → fits s m ≡ true → is_gone m ≡ false
not_gone s Gone h = absurd (gone_fits s h)
not_gone s Out h = refl
not_gone s Later h = refl
not_gone s Owes h = refl
not_gone s Granted h = refl
not_gone s Refused h = refl
not_gone s Lost h = refl

as_unasked : (m : Mark) → Locking.is_unasked m ≡ true → is_unasked m ≡ true
as_unasked Out h = refl
as_unasked Later h = refl
as_unasked Gone h = refl
as_unasked Owes h = cc h
as_unasked Granted h = cc h
as_unasked Refused h = cc h
as_unasked Lost h = cc h

module _ (o : Opening) (w : World) (B : Base o w) (a : ℕ) (up_a : IsUp o w a) where
  as_up : (x : ℕ) → running o w x ≡ true → IsUp o w x
  as_up x h = let p : (in_world o x ≡ true) × (not (left w x) ≡ true) = both (in_world o x) (not (left w x)) h in
      (p.0, not_true (left w x) p.1)

  low_a : a < o.bound
  low_a = ltb-true a o.bound (and_parts _ (o.nodes a) up_a.0).0

  pub counts : running o w a ≡ true
  counts = rw (up_a.0, up_a.1) refl

  pub some : is_empty o.bound (w.node a).replica.members ≡ false
  some = go (is_empty o.bound (w.node a).replica.members) refl
    where
      go : (t : Bool) → is_empty o.bound (w.node a).replica.members ≡ t → t ≡ false
      go true e = cc (empty_at o.bound (w.node a).replica.members e a low_a, B.all.proper.itself a up_a)
      go false e = refl

  pub gone : (op : Op) (r : Round) → (w.node a).current ≡ Current.Asking op r → (x : ℕ) → running o w x ≡ true
      → is_gone (r.mark x) ≡ false
  gone op r e x h =
      let P : (s : Stage) × Session w a x s = B.all.locks.pairs a x up_a (as_up x h) in
      not_gone P.0 (r.mark x) (subst (λ (c : Current). fits P.0 (mark_in c x) ≡ true) e P.1.mark)

  opened : (f : ℕ) (g : Bool) (r : Round) → opens f g r ≡ true → (f ≡ r.boss) × (has_granted (r.mark r.boss) ≡ false)
  opened f g r h =
      let p : ((g && (f == r.boss)) ≡ true) × (owes r f ≡ true) = both (g && (f == r.boss)) (owes r f) h in
      let same : f ≡ r.boss = eqb-true f r.boss (both g (f == r.boss) p.0).1 in
      (same, owes_ungranted (r.mark r.boss) (subst (λ (x : ℕ). is_owes (r.mark x) ≡ true) same p.1))

  pub first : (op : Op) (r : Round) → (w.node a).current ≡ Current.Asking op r → (f : ℕ) (g : Bool) → opens f g r ≡ true
      → (x : ℕ) → (x ≡ f → ⊥) → is_unasked (r.mark x) ≡ true
  first op r e f g h x ne =
      let R : BossFirst r = subst IsRound e (B.all.locks.rounds a) in
      let k : (f ≡ r.boss) × (has_granted (r.mark r.boss) ≡ false) = opened f g r h in
      as_unasked (r.mark x) (R.early k.1 x (λ i. ne (i ∙ sym k.0)))

  pub low : (j : ℕ) (pairs : Table) (r : Round) → IsHeld o.bound (w.node a) (Op.Admission j pairs) r → j < o.bound
  low j pairs r held = let i : in_world o j ≡ true = subst (IsProperCurrent o w) held.current (B.all.proper.currents a) in
      ltb-true j o.bound (and_parts _ (o.nodes j) i).0

  abbrev J : JoinsKnown o w
  J = Together.heard_joins o w B.all

  abbrev R : Replicas o w
  R = Together.replicas o w B.all

  module _ (j : ℕ) (pairs : Table) (r : Round) (held : IsHeld o.bound (w.node a) (Op.Admission j pairs) r) where
    abbrev s : Standing
    s = standing_at o w

    known : (s.registry.joined j ≡ false) × (s.registry.lone j ≡ pairs) × ((w.node a).replica.joined ≡ true)
        × ((k : ℕ) × ((w.node j).current ≡ Current.Joining k a))
    known = J.admission a j pairs r up_a held.current

    shows : (w.node a).replica ≡ replica_of s.registry a
    shows = shown o w B.all.proper (Together.alone o w B.all) J B.all.known a up_a (Op.Admission j pairs) r held

    host : s.registry.joined a ≡ true
    host = sym (ap (λ (v : Replica). v.joined) shows) ∙ known.2

    -- members have joined
    pub joined_member : (c : ℕ) → (w.node a).replica.members c ≡ true → s.registry.joined c ≡ true
    joined_member c h = (both (s.registry.joined c) (not (s.registry.told a c))
        (sym (ap (λ (b : Bool). (if b then s.registry.joined c else c == a) && not (s.registry.told a c)) host)
        ∙ sym (ap (λ (v : Replica). v.members c) shows) ∙ h)).0

    pub apart : (w.node a).replica.members j ≡ false
    apart = go ((w.node a).replica.members j) refl
      where
        go : (t : Bool) → (w.node a).replica.members j ≡ t → t ≡ false
        go true e = cc (joined_member j e, known.0)
        go false e = refl

    own_names : list_all (λ (e : Pair). e.owner.node == j) pairs ≡ true
    own_names = ap (list_all (λ (e : Pair). e.owner.node == j)) (sym known.1) ∙ Together.owners o w B.all j known.0

    pub foreign : (c : ℕ) → (w.node a).replica.members c ≡ true → owned_on c (settle (w.node a).replica.table pairs).puts ≡ 0
    foreign c h = others_only c j (λ e. cc (ap s.registry.joined e, joined_member c h, known.0))
        (settle (w.node a).replica.table pairs).puts
        (all_puts (λ (e : Pair). e.owner.node == j) (w.node a).replica.table pairs unsettled own_names refl)

    -- no name of the cluster is on the joiner
    none_before : owned_on j (w.node a).replica.table ≡ 0
    none_before = ap (owned_on j) (ap (λ (v : Replica). v.table) shows ∙ ap (λ (b : Bool). without (s.registry.told a)
        (if b then s.registry.table else s.registry.lone a)) host)
        ∙ nobody_left j (λ (x : Pair). not (s.registry.told a x.owner.node)) s.registry.table
        (λ pair i e. cc (ap s.registry.joined e, joined_owner (in_cluster o) w.history R.legal pair i, known.0))

    pub brought : owned_on j (with_settled (settle (w.node a).replica.table pairs) (w.node a).replica.table) ≤ length pairs
    brought =
        let h : owned_on j (with_settled (settle (w.node a).replica.table pairs) (w.node a).replica.table)
        ≤ owned_on j (w.node a).replica.table + length (settle (w.node a).replica.table pairs).puts =
        owned_settled j (settle (w.node a).replica.table pairs) (w.node a).replica.table in
        let i : owned_on j (w.node a).replica.table ≡ 0 = none_before in
        let k : length (settle (w.node a).replica.table pairs).puts ≤ 0 + length pairs =
        (settle_small (w.node a).replica.table pairs).puts in
        omega (arith, h, i, k)

  -- joins that wait
  abbrev O : OnceIn (w.node a).replica.joined (w.node a).current (w.node a).queue
  O = B.all.joins.once a

  pub welcomed : (k f : ℕ) → (w.node a).current ≡ Current.Joining k f → joins (w.node a).queue ≡ 0
  welcomed k f e = no_join (w.node a).queue (O.waits (ap is_joining e))

  -- a node in whose queue a join waits is lone, and writes by itself
  pub alone : (f : ℕ) (change : Change) (rest : List Letter) → w.links.queue f a ≡ Letter.Apply change ∷ rest
      → (k : ℕ) → joins (w.node a).queue * k ≤ when (f == a) k
  alone f change rest front k = go (has_join (w.node a).queue) refl
    where
      note : (h : Hold) × (hold_at (standing_at o w) a ≡ Some h) × (h.node ≡ f)
      note = let n : _ = (subst (Each (IsOnItsWay o w f a)) front (R.notes f a up_a.1)).0 refl in (n.0, n.1, n.2)

      go : (t : Bool) → has_join (w.node a).queue ≡ t → joins (w.node a).queue * k ≤ when (f == a) k
      go false e = let z : joins (w.node a).queue ≡ 0 = no_join (w.node a).queue e in
          let y : joins (w.node a).queue * k ≡ 0 = ap (λ (j : ℕ). j * k) z ∙ omega arith in omega (arith, y)
      go true e =
          let calm : is_joining (w.node a).current ≡ false = idle (is_joining (w.node a).current) refl in
          let lone : (standing_at o w).registry.joined a ≡ false =
          sym (joined_now o w R J a up_a calm) ∙ apart_now ((w.node a).replica.joined) refl in
          let own : note.0.node ≡ a = ((groups_now o w R).lone a note.0 note.1 lone).0 in
          let most_one : joins (w.node a).queue ≤ 1 = one_join (w.node a).queue O.queue in
          let same : when (f == a) k ≡ k = rw (eq-eqb f a (sym note.2 ∙ own)) refl in
          let bound : joins (w.node a).queue * k ≤ 1 * k = mul-le-mul_right k most_one in
          omega (arith, same, bound)
        where
          idle : (t : Bool) → is_joining (w.node a).current ≡ t → t ≡ false
          idle true h = cc (O.waits h, e)
          idle false h = refl

          apart_now : (t : Bool) → (w.node a).replica.joined ≡ t → (w.node a).replica.joined ≡ false
          apart_now true h = cc ((O.joined h).1, e)
          apart_now false h = h

  -- the round of a lock call
  module _ (c : LockCall) (r : Round) (found : call_of c.holder (w.node a).calls ≡ Some c) (e : c.phase ≡ LockPhase.Asking r) where
    home : c.holder.node ≡ a
    home = home_of_call a c.holder (w.node a).calls c (B.ordered a) found

    mine : call_at w c.holder ≡ Some c
    mine = subst (λ (x : ℕ). call_of c.holder (w.node x).calls ≡ Some c) (sym home) found

    up_home : IsUp o w c.holder.node
    up_home = subst (IsUp o w) (sym home) up_a

    pub call_gone : (x : ℕ) → running o w x ≡ true → is_gone (r.mark x) ≡ false
    call_gone x h = by (r.mark x) (subst (λ (y : LockPhase). Sessions.fits (Sessions.view_in c.id y x) ups downs ≡ true) e
        (subst (λ (y : Option LockCall). Sessions.fits (Sessions.view y x) ups downs ≡ true) mine
        (B.clients.sessions c.holder x (caller_lives o w B.num B.clients c.holder c up_home.1 mine) (as_up x h)).fit))
      where
        ups : List Sessions.Ask
        ups = asks c.holder (w.links.queue c.holder.node x)

        downs : List Sessions.Echo
        downs = echoes c.holder (w.links.queue x c.holder.node)

        none : (us : List Sessions.Ask) (ds : List Sessions.Echo) → Sessions.fits Sessions.Down us ds ≡ true → ⊥
        none us [] k = cc k
        none us (d ∷ ds) k = cc k

        by : (m : Mark) → Sessions.fits (Sessions.view_of c.id m) ups downs ≡ true → is_gone m ≡ false
        by Gone k = absurd (none ups downs k)
        by Out k = refl
        by Later k = refl
        by Owes k = refl
        by Granted k = refl
        by Refused k = refl
        by Lost k = refl

    pub call_first : (f : ℕ) (g : Bool) → opens f g r ≡ true → (x : ℕ) → (x ≡ f → ⊥) → is_unasked (r.mark x) ≡ true
    call_first f g h x ne = only_boss_asked f g r h (subst RoundedIn e (B.clients.rounds c.holder c mine)) x ne

-- nothing is counted, so nothing is there
none_counted : (p : Letter → Bool) (xs : List Letter) → Scenes.count_of p xs ≡ 0 → list_any p xs ≡ false
none_counted p [] e = refl
none_counted p (x ∷ xs) e = go (p x) e (λ k. none_counted p xs k)
  where
    go : (b : Bool) → Scenes.one_if b + Scenes.count_of p xs ≡ 0
        → (Scenes.count_of p xs ≡ 0 → list_any p xs ≡ false) → (b || list_any p xs) ≡ false
    go true h more = absurd (omega (arith, h))
    go false h more = more (omega (arith, h))

-- who owns nothing owns nothing in what is left
left_owns : (p : Process) (q : Pair → Bool) (t : Table) → owns p t ≡ false → owns p (filter q t) ≡ false
left_owns p q [] h = refl
left_owns p q (pair ∷ t) h =
    let parts : (is_process pair.owner p ≡ false) × (owns p t ≡ false) = neither (is_process pair.owner p) (owns p t) h in
    go (q pair) parts.0 (left_owns p q t parts.1)
  where
    go : (b : Bool) → is_process pair.owner p ≡ false → owns p (filter q t) ≡ false
        → owns p (if b then pair ∷ filter q t else filter q t) ≡ false
    go true e k = rw e k
    go false e k = k

module _ (o : Opening) (w : World) (B : Base o w) (a : ℕ) (up_a : IsUp o w a) where
  -- who was struck owns nothing where the strike is done
  pub struck : (p : Process) (s awaited : Nodes) (reply : Option Reply)
      → (w.node a).current ≡ Current.Writing (Op.Strike p) s awaited reply
      → is_empty o.bound awaited ≡ true → owns p (w.node a).replica.table ≡ false
  struck p s awaited reply e empty = go reply (subst (IsWritten o w a) e (R.written a))
    where
      R : Replicas o w
      R = Together.replicas o w B.all

      S : Standing
      S = standing_at o w

      silent : awaited a ≡ false
      silent = empty_at o.bound awaited empty a (ltb-true a o.bound (and_parts _ (o.nodes a) up_a.0).0)

      none : Scenes.count_of carries (Scenes.mine (w.links.queue a a)) ≡ 0
      none =
          let h : Scenes.count_of carries (Scenes.mine (w.links.queue a a))
          + Scenes.count_of is_applied (Scenes.mine (w.links.queue a a))
          ≡ Scenes.one_if (Scenes.awaits_node (Scenes.doing_of (w.node a).current) a) = B.all.known.kept.sessions a a up_a up_a in
          let i : Scenes.one_if (Scenes.awaits_node (Scenes.doing_of (w.node a).current) a) ≡ 0 =
          ap (λ (c : Current). Scenes.one_if (Scenes.awaits_node (Scenes.doing_of c) a)) e ∙ ap Scenes.one_if silent in
          omega (arith, h, i)

      shows : (h : Hold) → hold_at S a ≡ Some h → h.node ≡ a → (w.node a).replica ≡ replica_of S.registry a
      shows h held home = B.all.known.kept.facts a up_a
          ∙ ap (λ (x : Option Hold). replica_of (if Scenes.is_late o (Scenes.scene_of o w) a x
          then old_or S.registry x else S.registry) a) held
          ∙ ap (λ (t : Bool). replica_of (if t then h.old else S.registry) a)
          (ap (λ (x : ℕ). list_any carries (Scenes.mine (w.links.queue x a))) home
          ∙ none_counted carries (Scenes.mine (w.links.queue a a)) none)

      table : (h : Hold) → hold_at S a ≡ Some h → h.entry ≡ Entry.Strike p → (b : Bool) → S.registry.joined a ≡ b
          → owns p (table_of S.registry a) ≡ false
      table h held is true j = rw j ((always_struck (in_cluster o) w.history R.legal).cluster h p
          (sym (ap (λ (t : Bool). if t then S.held else S.lone_held a) j) ∙ held) is)
      table h held is false j = rw j ((always_struck (in_cluster o) w.history R.legal).lone a h p j
          (sym (ap (λ (t : Bool). if t then S.held else S.lone_held a) j) ∙ held) is)

      go : (y : Option Reply) → IsWritten o w a (Current.Writing (Op.Strike p) s awaited y)
          → owns p (w.node a).replica.table ≡ false
      go None k = ap (owns p) (ap (λ (v : Replica). v.table) (shows k.0 k.1 k.2))
          ∙ left_owns p (λ pair. not (S.registry.told a pair.owner.node)) (table_of S.registry a)
          (table k.0 k.1 k.3.0 (S.registry.joined a) refl)
      go (Some y) k = absurd k.3

-- what isn't read off other crates: whom an admission is sent has joined
pub record Beside (o : Opening) (w : World) (a : ℕ) : Type 0 where
  pub admitted : (f j : ℕ) (s : Settled) (rest : List Letter) → w.links.queue f a ≡ Letter.Admit j s ∷ rest
      → joins (w.node a).queue ≡ 0

-- so a node of every world is ready
pub is_ready : (o : Opening) (w : World) (B : Base o w) (a : ℕ) → IsUp o w a → Beside o w a → Ready o (running o w) w a
is_ready o w B a up_a X = record {
  counts = counts o w B a up_a;
  some = some o w B a up_a;
  ordered = B.ordered a;
  gone = gone o w B a up_a;
  first = first o w B a up_a;
  call_gone = call_gone o w B a up_a;
  call_first = call_first o w B a up_a;
  low = low o w B a up_a;
  apart = apart o w B a up_a;
  foreign = foreign o w B a up_a;
  brought = brought o w B a up_a;
  alone = alone o w B a up_a;
  admitted = X.admitted;
  welcomed = welcomed o w B a up_a;
  struck = struck o w B a up_a;
}
