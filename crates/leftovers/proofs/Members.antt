-- A node that runs has asked no other running node for a client's lock but its members, and has no grants elsewhere.
use Rattle.std.proofs.Common.{ℕ, Bool, true, false, ◌==◌, ◌≡◌, List, [], ◌∷◌, ◌++◌, refl, sym, ap, ◌∙◌, subst, ◌<◌}
use Rattle.std.specs.Prelude.{not, ◌&&◌, ◌||◌, nat_lt, if◌then◌else◌}
use Rattle.std.proofs.lemmas.Bool.{ne_eqb, eqb-true}
use Rattle.registry_model.specs.Process.{Nodes, at}
use Rattle.registry_model.specs.Registry.{Replica}
use Rattle.protocol_model.specs.Round.{greatest, opens, rest, asked, answer}
use Rattle.protocol_model.specs.Letter.{Letter}
use Rattle.protocol_model.specs.Links.{Links, posted}
use Rattle.protocol_model.specs.LockTable.{Locks, is_free_for, grant}
use Rattle.protocol_model.specs.Node.{Node, LockPhase, targets}
use Rattle.protocol_model.specs.Turn.{begun, send_all, keep_call, sent_to}
use Rattle.protocol_model.specs.Client.{in_phase}
use Rattle.protocol_model.specs.World.{Opening, World, left, opening_world}
use Rattle.registry_model.proofs.Updates.{by_test, at_same, at_other}
use Rattle.headline.proofs.Indices.{greatest_in, some_of, neither}
use Rattle.headline.proofs.Sends.{sent_to-one, sent_to-all}
use Rattle.headline.proofs.Rules
use Rattle.headline.proofs.Rules.{Rule}
use Rattle.headline.proofs.Invariants.{IsUp, Each, IsProper}
use Rattle.walk.proofs.Killing.{admitted-members}
use Rattle.headline.proofs.Base.{popped, after_turn, effect-turn}
use Rattle.leftovers.proofs.Grounds.{Base, wide}
use Rattle.leftovers.proofs.Parts.{replica_by, locks_by, parts}
use Rattle.leftovers.proofs.GrantLists.{all_grants, all_filter, all_grant, all_give_back}
use Rattle.leftovers.proofs.Departures.{judged_home}
use Rattle.leftovers.proofs.Near.{Near, NearIn, is_near, target_member}
use Rattle.leftovers.proofs.Takes.{has_take, take_append, calm_turn, take_popped}

-- no client of node a has a grant here
abbrev pub none_from : ℕ → Locks → Bool
none_from a t = all_grants (λ i p. (p.serial == 0) || not (p.node == a)) t

-- a has nothing of a client's at a node with this lock table, by this link
pub record Apart (a : ℕ) (ls : List Letter) (t : Locks) : Type 0 where
  pub letters : has_take ls ≡ false
  pub grants : none_from a t ≡ true

abbrev pub Members : Opening → World → Type 0
Members o w = (a x : ℕ) → IsUp o w a → IsUp o w x → (w.node a).replica.members x ≡ false
    → Apart a (w.links.queue a x) (w.node x).locks

-- what was sent, where a node is no member, has no request
pub posted_calm : (b : ℕ) (ls : ℕ → List Letter) (q : Links Letter) (a x : ℕ) → has_take (q.queue a x) ≡ false
    → (a ≡ b → has_take (ls x) ≡ false) → has_take ((posted b ls q).queue a x) ≡ false
posted_calm b ls q a x h k = by_test b
    (λ y t. (y ≡ b → has_take (ls x) ≡ false) → has_take (q.queue y x) ≡ false
    → has_take (if t && not (q.closed x) then q.queue y x ++ ls x else q.queue y x) ≡ false)
    (λ f g. go (q.closed x) (f refl) g) (λ y ne f g. g) a k h
  where
    go : (c : Bool) → has_take (ls x) ≡ false → has_take (q.queue b x) ≡ false
        → has_take (if not c then q.queue b x ++ ls x else q.queue b x) ≡ false
    go true f g = g
    go false f g = take_append (q.queue b x) (ls x) g f

module _ (o : Opening) (b : ℕ) (w : World) (B : Base o w) (N : Near w) where
  abbrev v : Node
  v = w.node b

  -- who runs and is a member stays one
  pub members_stay : (r : Rule) → Rules.May o b w r → (x : ℕ) → left w x ≡ false → v.replica.members x ≡ true
      → (replica_by b r v.replica).members x ≡ true
  members_stay (Rules.IsAdmitted f j settled) m x up h = admitted-members b j settled v.replica x h
  members_stay (Rules.IsWelcomed f k members pairs told fate) m x up h =
      wide o w B f b k members pairs told fate m.front.1.0 m.inside m.running m.tested.0 m.tested.1 m.front.1.1 x h
  members_stay (Rules.IsTold f) m x up h = at_other v.replica.members f false x (λ e. cc (ap (left w) e, gone, up)) ∙ h
    where
      gone : left w f ≡ true
      gone = (subst (Each (IsProper o w f b)) m.front.1.1 (B.all.proper.letters f b m.running)).0.0
  members_stay _ m x up h = h

  -- who isn't asked gets no request
  asks_members : (r : Rule) → Rules.May o b w r → (x : ℕ) → left w x ≡ false → v.replica.members x ≡ false
      → has_take (sent_to x (Rules.turn_by o b w r).sends) ≡ false
  asks_members (Rules.AsksLock c) m x up none = ap has_take (sent_to-one x (greatest o.bound s) l)
      ∙ go (greatest o.bound s == x) refl
    where
      s : Nodes
      s = targets v.replica.members c.target

      l : Letter
      l = Letter.SetLock c.id c.holder

      one : (y : ℕ) × (y < o.bound) × (s y ≡ true)
      one = some_of o.bound s m.tested.1

      go : (t : Bool) → (greatest o.bound s == x) ≡ t → has_take (if t then l ∷ [] else []) ≡ false
      go true e = cc (
        target_member v.replica.members c.target x
            (ap s (sym (eqb-true (greatest o.bound s) x e))
            ∙ greatest_in o.bound s one.0 one.1 one.2),
        none,
      )
      go false e = refl
  asks_members (Rules.HearsLock f id granted c r) m x up none = go (opens f granted r)
    where
      l : Letter
      l = Letter.SetLock c.id c.holder

      untold : v.replica.told x ≡ false
      untold = known (v.replica.told x) refl
        where
          known : (t : Bool) → v.replica.told x ≡ t → t ≡ false
          known true e = cc (B.all.proper.told_left b x m.running e, up)
          known false e = refl

      stranger : asked r x ≡ false
      stranger = known (asked r x) refl
        where
          near : asked r x ≡ true → is_near v.replica x ≡ true
          near = subst (NearIn v.replica) m.tested.2.phase (N b c.holder c m.tested.2.call) x

          far : (m t : Bool) → m ≡ false → t ≡ false → (m || t) ≡ true → ⊥
          far true t e k h = cc e
          far false true e k h = cc k
          far false false e k h = cc h

          known : (t : Bool) → asked r x ≡ t → t ≡ false
          known true e = absurd (far (v.replica.members x) (v.replica.told x) none untold (near e))
          known false e = refl

      sent : (nat_lt x o.bound && (rest r x && not (v.replica.told x))) ≡ false
      sent = all (nat_lt x o.bound) (asked r x) (not (x == r.boss)) (not (v.replica.told x)) stranger
        where
          all : (p q s t : Bool) → q ≡ false → (p && ((q && s) && t)) ≡ false
          all true q s t e = rw e refl
          all false q s t e = refl

      go : (t : Bool) → has_take (sent_to x (keep_call (in_phase (LockPhase.Asking (answer f granted r)) c)
          (if t then send_all o.bound (λ y. rest r y && not (v.replica.told y)) (Letter.SetLock c.id c.holder)
          (begun v) else begun v)).sends) ≡ false
      go true = ap has_take (sent_to-all o.bound (λ y. rest r y && not (v.replica.told y)) l x)
          ∙ ap (λ (t : Bool). has_take (if t then l ∷ [] else [])) sent
      go false = refl
  asks_members r m x up none = calm_turn o b w r refl x

  -- nor does it give a grant to whom it isn't asked by
  gives_none : (r : Rule) → Rules.May o b w r → (a : ℕ) → Apart a (w.links.queue a b) v.locks
      → none_from a (locks_by r v.locks) ≡ true
  gives_none (Rules.Judges f id p) m a A = go (is_free_for id p v.locks)
    where
      test : Bool → Bool → Bool
      test s n = s || not n

      unasked : f ≡ a → not (p.serial == 0) ≡ false
      unasked e = (neither (not (p.serial == 0)) (has_take m.front.1.0)
          (sym (ap has_take (ap (λ (y : ℕ). w.links.queue y b) (sym e) ∙ m.front.1.1)) ∙ A.letters)).0

      passes : (s n : Bool) → (n ≡ true → not s ≡ false) → (s || not n) ≡ true
      passes true n h = refl
      passes false true h = cc (h refl)
      passes false false h = refl

      ok : ((p.serial == 0) || not (p.node == a)) ≡ true
      ok = passes (p.serial == 0) (p.node == a)
          (λ e. unasked (sym (judged_home o b w B f id p m) ∙ eqb-true p.node a e))

      go : (t : Bool) → none_from a (if t then grant id p v.locks else v.locks) ≡ true
      go true = all_grant (λ i q. (q.serial == 0) || not (q.node == a)) id p v.locks ok A.grants
      go false = A.grants
  gives_none (Rules.TakesBack f id p ack) m a A =
      all_give_back (λ i q. (q.serial == 0) || not (q.node == a)) id p v.locks A.grants
  gives_none (Rules.Releases f p) m a A = all_filter _ _ v.locks A.grants
  gives_none (Rules.IsTold f) m a A = all_filter _ _ v.locks A.grants
  gives_none _ m a A = A.grants

  turn_members : (r : Rule) → Rules.May o b w r → Members o w
      → Members o (after_turn b w (Rules.turn_by o b w r) (Rules.takes o b r))
  turn_members r m M a x ua ux none = record {
    letters = posted_calm b ls links a x
        (take_popped o b w (Rules.takes o b r) m.front a x was.letters)
        (λ e. asks_members r m x ux.1 (ap (λ (y : ℕ). (w.node y).replica.members x) (sym e) ∙ stranger));
    grants = by_test b (λ y t. Apart a (w.links.queue a y) (w.node y).locks
        → none_from a (if t then (Rules.turn_by o b w r).node else w.node y).locks ≡ true)
        (λ A. ap (none_from a) (parts o b w r).locks ∙ gives_none r m a A) (λ y ne A. A.grants) x was;
  }
    where
      ls : ℕ → List Letter
      ls y = sent_to y (Rules.turn_by o b w r).sends

      links : Links Letter
      links = popped b (Rules.takes o b r) w.links

      stranger : (w.node a).replica.members x ≡ false
      stranger = by_test b (λ y t. (if t then (Rules.turn_by o b w r).node else w.node y).replica.members x ≡ false
          → (w.node y).replica.members x ≡ false)
          (λ h. known (v.replica.members x) refl (sym (ap (λ (z : Replica). z.members x) (parts o b w r).replica) ∙ h))
          (λ y ne h. h) a none
        where
          known : (t : Bool) → v.replica.members x ≡ t → (replica_by b r v.replica).members x ≡ false → t ≡ false
          known true e h = cc (members_stay r m x ux.1 e, h)
          known false e h = refl

      was : Apart a (w.links.queue a x) (w.node x).locks
      was = M a x ua ux stranger

  leave_members : Rules.May o b w Rules.Leaves → Members o w → Members o (Rules.effect o b Rules.Leaves w)
  leave_members m M a x ua ux none = rw (ne_eqb x b (other x ux), ne_eqb a b (other a ua))
      (M a x (ua.0, running a ua) (ux.0, running x ux) (sym (rw (ne_eqb a b (other a ua)) refl) ∙ none))
    where
      other : (y : ℕ) → IsUp o (Rules.effect o b Rules.Leaves w) y → y ≡ b → ⊥
      other y u e = cc (
        ap (λ (z : ℕ). at (left w) b true z) e
            ∙ at_same (left w) b true,
        u.1,
      )

      running : (y : ℕ) → IsUp o (Rules.effect o b Rules.Leaves w) y → left w y ≡ false
      running y u = sym (at_other (left w) b true y (other y u)) ∙ u.1

  pub members_keeps : (r : Rule) → Rules.May o b w r → Members o w → Members o (Rules.effect o b r w)
  members_keeps Rules.Leaves m M = leave_members m M
  members_keeps r m M = subst (Members o) (effect-turn o b w r refl) (turn_members r m M)

pub members_opens : (o : Opening) → Members o (opening_world o)
members_opens o a x ua ux none = record { letters = refl; grants = refl }
