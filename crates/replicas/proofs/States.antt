-- What the replicas of a world say of its state: the clauses of the headline on what nodes show, on leaves and on
-- the holder.
use mathlib.Core.Logic.{◌⊎◌}
use Rattle.std.proofs.Common.{ℕ, zero, suc, Bool, true, false, ◌==◌, ◌≡◌, ◌<◌, Option, Some, None, [], ◌∷◌, refl, sym, ap, ◌∙◌, inl, inr, arith}
use Rattle.std.specs.Prelude.{if◌then◌else◌, not, ◌&&◌, ◌||◌, nat_lt, find, IsTrue, option_map}
use Rattle.std.specs.Option.{option_or}
use Rattle.std.specs.List.{list_all}
use Rattle.std.proofs.lemmas.List.Folds.{find-append}
use Rattle.std.proofs.lemmas.Bool.{cases_eq, eq-eqb, eqb-true, and_parts, and_from, ltb-true}
use Rattle.registry_model.specs.Process.{Nodes, nodes_of}
use Rattle.registry_model.specs.Table.{Pair, Table, without}
use Rattle.registry_model.specs.Registry.{in_group, Replica, replica_of}
use Rattle.registry_model.specs.History.{Hold, Standing, hold_at, is_free, is_hold_of, is_holding, old_or, old}
use Rattle.protocol_model.specs.Letter.{Letter}
use Rattle.protocol_model.specs.Node.{Current, is_writing, holds_global}
use Rattle.protocol_model.specs.Event.{Event, NoSuchNode, NodeLeft, HoldsLock, cause, first_cause, is_joining}
use Rattle.protocol_model.specs.World.{Opening, in_world, in_cluster, World, left, At, holder}
use Rattle.protocol_model.specs.Course.{seen}
use Rattle.protocol_model.specs.Headline.{Shows, IsRunning}
use Rattle.moves.proofs.Invariants.{is_welcome, IsUp, standing_at, is_behind, is_pending, IsOnItsWay, Proper, Replicas, JoinsKnown}
use Rattle.replicas.proofs.Mail.{carries, carried, carried-joined}
use Rattle.replicas.proofs.BaseLetters.{Each-find}
use Rattle.replicas.proofs.Soundness.{the_hold, are_on, Sound, WithinCluster}
use Rattle.replicas.proofs.Legality.{none_of, hold_at-joined, Sound-standing_of}
use Rattle.replicas.proofs.Groups.{Groups, Groups-sound, hold-holder}

-- nobody of a set passes
find-nobody : (n : ℕ) (s p : Nodes) → ((c : ℕ) → c < n → s c ≡ true → p c ≡ false) → find p (nodes_of n s) ≡ None
find-nobody zero s p none = refl
find-nobody (suc n) s p none = find-append p (nodes_of n s) (if s n then n ∷ [] else [])
    ∙ ap (λ (x : Option ℕ). option_or x (find p (if s n then n ∷ [] else [])))
    (find-nobody n s p (λ c l k. none c (omega arith) k))
    ∙ go (s n) refl
  where
    go : (b : Bool) → s n ≡ b → find p (if b then n ∷ [] else []) ≡ None
    go true k = ap (λ (b : Bool). if b then Some n else None) (none n (omega arith) k)
    go false k = refl

-- one node of a set passes, and no other
find-one : (n : ℕ) (s p : Nodes) (x : ℕ) → x < n → s x ≡ true → p x ≡ true
    → ((c : ℕ) → s c ≡ true → p c ≡ true → c ≡ x) → find p (nodes_of n s) ≡ Some x
find-one zero s p x l k t only = absurd (omega arith)
find-one (suc n) s p x l k t only = find-append p (nodes_of n s) (if s n then n ∷ [] else []) ∙ (elim (cases_eq x n) [
  | inl e ↦ ap (λ (y : Option ℕ). option_or y (find p (if s n then n ∷ [] else [])))
      (find-nobody n s p (λ c d i. others c (λ j. absurd (omega arith)) i (p c) refl))
      ∙ ap (λ (b : Bool). find p (if b then n ∷ [] else [])) (sym (ap s e) ∙ k)
      ∙ ap (λ (b : Bool). if b then Some n else None) (sym (ap p e) ∙ t) ∙ ap Some (sym e)
  | inr ne ↦ ap (λ (y : Option ℕ). option_or y (find p (if s n then n ∷ [] else [])))
      (find-one n s p x (omega arith) k t only)
])
  where
    others : (c : ℕ) → (c ≡ x → ⊥) → s c ≡ true → (b : Bool) → p c ≡ b → p c ≡ false
    others c ne i true j = absurd (ne (only c i j))
    others c ne i false j = j

-- whoever has no name on nodes of a set keeps all
without-own : (n : ℕ) (gone : Nodes) (t : Table) → gone n ≡ false → are_on n t ≡ true → without gone t ≡ t
without-own n gone [] g h = refl
without-own n gone (e ∷ t) g h =
    ap (λ (b : Bool). if not b then e ∷ without gone t else without gone t)
    (ap gone (eqb-true e.owner.node n (and_parts (e.owner.node == n) (are_on n t) h).0) ∙ g)
    ∙ ap (λ (u : Table). e ∷ u) (without-own n gone t g (and_parts (e.owner.node == n) (are_on n t) h).1)

module _ (o : Opening) (w : World) (R : Replicas o w) where
  abbrev s : Standing
  s = standing_at o w

  -- what the history alone says
  pub sound_now : Sound s
  sound_now = Sound-standing_of (in_cluster o) w.history R.legal

  -- and what it says of groups
  pub groups_now : Groups s.registry (hold_at s)
  groups_now = Groups-sound s sound_now

  -- the node of what holds writes
  pub holder_writes : (c : ℕ) (h : Hold) → hold_at s c ≡ Some h → is_writing (w.node h.node).current ≡ true
  holder_writes c h e = sym (R.holds h.node) ∙ ap (is_hold_of h.node)
      (hold-holder s.registry (hold_at s) groups_now c h e)
      ∙ eq-eqb h.node h.node refl

  up : (a : ℕ) → IsRunning o s a → IsUp o w a
  up a run = (run.0, sym (R.departed a) ∙ run.1)

  -- where nothing holds in its group, a node shows the registry
  pub shows_free : (a : ℕ) → IsUp o w a → hold_at s a ≡ None → (w.node a).replica ≡ replica_of s.registry a
  shows_free a u none = R.facts a u ∙ ap (λ (h : Option Hold). replica_of
      (if is_behind o w a h then old_or s.registry h else s.registry) a) none

  -- the same where the test says so
  pub free : (a : ℕ) → IsRunning o s a → IsTrue (is_free s a) → Shows s.registry a (seen o w)
  free a run f = shows_free a (up a run) (none_of (hold_at s a) f)

  -- else it shows the registry with or without what holds
  pub held : (a : ℕ) → IsRunning o s a → Shows s.registry a (seen o w) ⊎ Shows (old s a) a (seen o w)
  held a run = go (is_pending o w a) (R.facts a (up a run))
    where
      go : (b : Bool) → (w.node a).replica ≡ replica_of (if b then old s a else s.registry) a
          → Shows s.registry a (seen o w) ⊎ Shows (old s a) a (seen o w)
      go true f = inr f
      go false f = inl f

  -- a leave is refused exactly while an operation of the node holds
  pub leave : (a : ℕ) → IsRunning o s a → (seen o w).refusal (At a Event.Leave)
      ≡ (if is_holding s a then Some HoldsLock else None)
  leave a run = go (in_world o a) (left w a) (holds_global (w.node a)) run.0 (up a run).1
      ∙ ap (λ (b : Bool). if b then Some HoldsLock else None) (sym (R.holds a))
    where
      go : (b c d : Bool) → b ≡ true → c ≡ false
          → first_cause (cause (not b || not b) NoSuchNode ∷ cause c NodeLeft ∷ cause d HoldsLock ∷ [])
          ≡ (if d then Some HoldsLock else None)
      go true false true e f = refl
      go true false false e f = refl
      go true true d e f = cc
      go false c d e f = cc

  -- a node that writes and shows itself joined is the node of what holds in the cluster
  abbrev is_holder : Nodes
  is_holder c = (w.node c).replica.joined && holds_global (w.node c) && not (left w c)

  joined_writer : (c : ℕ) → IsUp o w c → (w.node c).replica.joined ≡ true → is_writing (w.node c).current ≡ true
      → s.registry.joined c ≡ true
  joined_writer c u j writes = go (s.registry.joined c) refl (hold_at s c) refl (is_pending o w c) refl
    where
      go : (b : Bool) → s.registry.joined c ≡ b → (h : Option Hold) → hold_at s c ≡ h → (p : Bool)
          → is_pending o w c ≡ p → s.registry.joined c ≡ true
      go true k h e p f = k
      go false k None e p f = cc (e, R.holds c, writes)
      go false k (Some h) e true f =
          let x : (old s c).joined c ≡ true = ap (λ (b : Bool). (if b then old s c else s.registry).joined c) (sym f)
          ∙ ap (λ (v : Replica). v.joined) (sym (R.facts c u)) ∙ j in
          let y : (old s c).joined c ≡ false = ap (λ (h : Option Hold). (old_or s.registry h).joined c) e
          ∙ (groups_now.lone c h e k).1 in
          cc (x, y)
      go false k (Some h) e false f =
          let x : s.registry.joined c ≡ true = ap (λ (b : Bool). (if b then old s c else s.registry).joined c) (sym f)
          ∙ ap (λ (v : Replica). v.joined) (sym (R.facts c u)) ∙ j in
          x

  -- the holder shows itself joined
  holder_joined : (h : Hold) → s.held ≡ Some h → (w.node h.node).replica.joined ≡ true
  holder_joined h e = ap (λ (v : Replica). v.joined)
      (R.facts h.node (R.writers h.node (holder_writes h.node h at_holder))) ∙ go (is_pending o w h.node)
    where
      C : WithinCluster s.registry h
      C = sound_now.cluster h e

      at_holder : hold_at s h.node ≡ Some h
      at_holder = hold_at-joined s h.node C.node ∙ e

      go : (b : Bool) → (if b then old s h.node else s.registry).joined h.node ≡ true
      go true = ap (λ (x : Option Hold). (old_or s.registry x).joined h.node) at_holder ∙ C.before
      go false = C.node

  -- whoever passes for the holder is the node of what holds in the cluster
  passes : (c : ℕ) → in_world o c ≡ true → is_holder c ≡ true → (h : Hold) × (s.held ≡ Some h) × (h.node ≡ c)
  passes c i k = go s.held refl
    where
      parts : ((w.node c).replica.joined && holds_global (w.node c) ≡ true) × (not (left w c) ≡ true)
      parts = and_parts ((w.node c).replica.joined && holds_global (w.node c)) (not (left w c)) k

      more : ((w.node c).replica.joined ≡ true) × (holds_global (w.node c) ≡ true)
      more = and_parts (w.node c).replica.joined (holds_global (w.node c)) parts.0

      joined : s.registry.joined c ≡ true
      joined = joined_writer c (R.writers c more.1) more.0 more.1

      holding : is_hold_of c s.held ≡ true
      holding = ap (is_hold_of c) (sym (hold_at-joined s c joined)) ∙ R.holds c ∙ more.1

      go : (x : Option Hold) → s.held ≡ x → (h : Hold) × (s.held ≡ Some h) × (h.node ≡ c)
      go None e = cc (ap (is_hold_of c) e, holding)
      go (Some h) e = (h, e, eqb-true h.node c (ap (is_hold_of c) (sym e) ∙ holding))

  -- the holder is the node of what holds in the cluster
  pub holder_is : (seen o w).holder ≡ option_map (λ h. h.node) s.held
  holder_is = go s.held refl
    where
      nobody : s.held ≡ None → (c : ℕ) → in_world o c ≡ true → (b : Bool) → is_holder c ≡ b → is_holder c ≡ false
      nobody e c i true k = let x : (h : Hold) × (s.held ≡ Some h) × (h.node ≡ c) = passes c i k in cc (x.1, e)
      nobody e c i false k = k

      go : (x : Option Hold) → s.held ≡ x → holder o w ≡ option_map (λ h. h.node) x
      go None e = find-nobody o.bound (in_world o) is_holder (λ c l i. nobody e c i (is_holder c) refl)
      go (Some h) e =
          let C : WithinCluster s.registry h = sound_now.cluster h e in
          let writes : is_writing (w.node h.node).current ≡ true =
          holder_writes h.node h (hold_at-joined s h.node C.node ∙ e) in
          let u : IsUp o w h.node = R.writers h.node writes in
          find-one o.bound (in_world o) is_holder h.node
          (ltb-true h.node o.bound (and_parts (nat_lt h.node o.bound) (o.nodes h.node) u.0).0) u.0
          (and_from _ _ (and_from _ _ (holder_joined h e) writes) (ap not u.1))
          (λ c i k. let x : (h : Hold) × (s.held ≡ Some h) × (h.node ≡ c) = passes c i k in
          sym x.2 ∙ ap (λ (y : Option Hold). (the_hold h y).node) (sym x.1 ∙ e))

  -- what holds in the group of a node that doesn't write isn't its own
  pub not_own : (a : ℕ) (h : Hold) → is_writing (w.node a).current ≡ false → hold_at s a ≡ Some h → h.node ≡ a → ⊥
  not_own a h idle e i = cc (holder_writes a h e, ap (λ (x : ℕ). is_writing (w.node x).current) i, idle)

  -- the names of a lone node are its own
  pub lone_owners : (n : ℕ) → s.registry.joined n ≡ false
      → list_all (λ (e : Pair). e.owner.node == n) (s.registry.lone n) ≡ true
  lone_owners n j = sound_now.own n j

  -- at a lone node that doesn't write nothing holds
  pub lone_free : (a : ℕ) → s.registry.joined a ≡ false → is_writing (w.node a).current ≡ false → hold_at s a ≡ None
  lone_free a j idle = go (hold_at s a) refl
    where
      go : (h : Option Hold) → hold_at s a ≡ h → h ≡ None
      go None e = refl
      go (Some h) e = absurd (not_own a h idle e (groups_now.lone a h e j).0)

  -- and it shows its own map: all its names are its own
  pub lone_table : Proper o w → (a : ℕ) → IsUp o w a → s.registry.joined a ≡ false
      → is_writing (w.node a).current ≡ false
      → (w.node a).replica.table ≡ s.registry.lone a
  lone_table P a u j idle = ap (λ (v : Replica). v.table) shown
      ∙ ap (λ (b : Bool). without (s.registry.told a) (if b then s.registry.table else s.registry.lone a)) j
      ∙ without-own a (s.registry.told a) (s.registry.lone a) (untold (s.registry.told a a) refl) (sound_now.own a j)
    where
      shown : (w.node a).replica ≡ replica_of s.registry a
      shown = shows_free a u (lone_free a j idle)

      untold : (b : Bool) → s.registry.told a a ≡ b → b ≡ false
      untold true e = cc (P.told_left a a u.1 (ap (λ (v : Replica). v.told a) shown ∙ e), u.1)
      untold false e = refl

  -- where what holds in its group is its own if anything, and the node doesn't write, the whole group shows the
  -- registry
  pub group_shows : (a : ℕ) → ((h : Hold) → hold_at s a ≡ Some h → h.node ≡ a) → is_writing (w.node a).current ≡ false
      → (c : ℕ) → in_group s.registry a c ≡ true → IsRunning o s c → Shows s.registry c (seen o w)
  group_shows a own idle c g run = shows_free c (up c run) (groups_now.alike a c g ∙ go (hold_at s a) refl)
    where
      go : (h : Option Hold) → hold_at s a ≡ h → h ≡ None
      go None e = refl
      go (Some h) e = absurd (not_own a h idle e (own h e))

-- a node that waits for no contact
module _ (o : Opening) (w : World) (R : Replicas o w) (J : JoinsKnown o w) where
  -- it is as joined as the registry has it
  pub joined_now : (a : ℕ) → IsUp o w a → is_joining (w.node a).current ≡ false
      → (w.node a).replica.joined ≡ (standing_at o w).registry.joined a
  joined_now a u waits = ap (λ (v : Replica). v.joined) (R.facts a u) ∙ go (hold_at (standing_at o w) a) refl
    where
      no_welcome : (f : ℕ) (l : Letter) (b : Bool) → is_welcome l ≡ b
          → (is_welcome l ≡ true → (k : ℕ) × ((w.node a).current ≡ Current.Joining k f)) → b ≡ false
      no_welcome f l true i k = let z : (k : ℕ) × ((w.node a).current ≡ Current.Joining k f) = k i in
          cc (ap is_joining z.1, waits)
      no_welcome f l false i k = refl

      late : (h : Hold) → hold_at (standing_at o w) a ≡ Some h → (b : Bool) → is_behind o w a (Some h) ≡ b
          → (if b then h.old else (standing_at o w).registry).joined a ≡ (standing_at o w).registry.joined a
      late h e true k =
          let x : (l : Letter) × (carries l ≡ true) × IsOnItsWay o w h.node a l
          × (is_welcome l ≡ true → (k : ℕ) × ((w.node a).current ≡ Current.Joining k h.node)) =
          Each-find carries (IsOnItsWay o w h.node a)
          (λ l. is_welcome l ≡ true → (k : ℕ) × ((w.node a).current ≡ Current.Joining k h.node))
          (w.links.queue h.node a) k (R.notes h.node a u.1) (J.welcome h.node a u) in
          let y : (g : Hold) × (hold_at (standing_at o w) a ≡ Some g) × (g.node ≡ h.node) × IsUp o w h.node
          × (carried a x.0 (replica_of (old (standing_at o w) a) a) ≡ replica_of (standing_at o w).registry a) = x.2 x.1
          in
          ap (λ (q : Option Hold). (old_or (standing_at o w).registry q).joined a) (sym e)
          ∙ sym (carried-joined a x.0 (replica_of (old (standing_at o w) a) a) x.1
          (no_welcome h.node x.0 (is_welcome x.0) refl x.3))
          ∙ ap (λ (v : Replica). v.joined) y.4
      late h e false k = refl

      go : (x : Option Hold) → hold_at (standing_at o w) a ≡ x
          → (if is_behind o w a x then old_or (standing_at o w).registry x else (standing_at o w).registry).joined a
          ≡ (standing_at o w).registry.joined a
      go None e = refl
      go (Some h) e = late h e (is_behind o w a (Some h)) refl
