-- Whom an admission is told of has joined.
use Rattle.std.proofs.Common.{ℕ, Bool, true, false, ◌==◌, ◌≡◌, Option, Some, None, List, [], ◌∷◌, ◌++◌, refl, sym, ap, subst, ◌∙◌}
use Rattle.std.specs.Prelude.{not, ◌&&◌, fold, map, if◌then◌else◌}
use Rattle.std.specs.List.{list_all}
use Rattle.std.proofs.lemmas.List.Sums.{fold-append}
use Rattle.registry_model.specs.Process.{Nodes, with_node, nodes_of}
use Rattle.registry_model.specs.Call.{Reply}
use Rattle.registry_model.specs.Settlement.{Settled, settle, with_settled}
use Rattle.registry_model.specs.History.{Entry, Standing, after, nothing_yet, standing_of}
use Rattle.protocol_model.specs.Round.{opens, answer, rest, asked}
use Rattle.protocol_model.specs.Letter.{Letter, Global}
use Rattle.protocol_model.specs.LockTable.{is_free_for, grant}
use Rattle.protocol_model.specs.Links.{posted}
use Rattle.protocol_model.specs.Node.{Node, Op, Current, LockPhase}
use Rattle.protocol_model.specs.Client.{in_phase, is_spent, close_call, give_lock}
use Rattle.protocol_model.specs.Registrar.{registrar, done}
use Rattle.protocol_model.specs.Turn.{Turn, begun, send, send_all, at_work, with_locks, keep_call, sent_to}
use Rattle.protocol_model.specs.World.{Opening, in_world, in_cluster, World, left, WorldEvent, opening_world, run}
use Rattle.named_events.proofs.Rules
use Rattle.named_events.proofs.Rules.{Rule, Taken, IsHeld}
use Rattle.named_events.proofs.Invariants.{Each, IsUp, standing_at}
use Rattle.named_events.proofs.Sends.{to_each}
use Rattle.named_events.proofs.SendTests.{all_pass, pass_each, pass_sent}
use Rattle.named_events.proofs.Base.{is_leave, effect-turn, after_turn, each-map, each-popped, each-posted, each-all, each-append, each-one, popped}
use Rattle.named_events.proofs.Sends.{sent_to-append}
use Rattle.named_events.proofs.Pasts.{registry-after, joined_grows}
use Rattle.named_events.proofs.Together
use Rattle.named_events.proofs.Grounds.{Base, Both, base_keeps, along}
use Rattle.protocol_model.specs.Event.{is_joining}
use Rattle.named_events.proofs.Gates.{OnceIn, has_join}
use Rattle.named_events.proofs.States.{joined_now}
use Rattle.no_dead_end.proofs.RuleWork.{Ready}
use Rattle.no_dead_end.proofs.LetterWork.{joins}
use Rattle.no_dead_end.proofs.Premises.{joined_member, no_join, Beside, is_ready}
use Rattle.named_events.specs.Worlds.{running}

abbrev pub is_admit : Letter → Bool
is_admit (Letter.Admit j s) = true
is_admit _ = false

abbrev pub is_admission : Rule → Bool
is_admission (Rules.Admits j pairs r) = true
is_admission _ = false

abbrev pub no_admit : Letter → Bool
no_admit l = not (is_admit l)

-- no other rule sends one
module _ (o : Opening) (a : ℕ) (w : World) where
  abbrev v : Node
  v = w.node a

  to_all : (s : Nodes) (l : Letter) → no_admit l ≡ true
      → all_pass no_admit (map (λ c. record { to = c; letter = l }) (nodes_of o.bound s)) ≡ true
  to_all s l h = pass_each no_admit (nodes_of o.bound s) l h

  no_admits : (r : Rule) → is_admission r ≡ false → all_pass no_admit (Rules.turn_by o a w r).sends ≡ true
  no_admits (Rules.Admits j pairs r) e = cc e
  no_admits (Rules.Exits p) e = to_all v.replica.members (Letter.ReleaseOf p) refl
  no_admits (Rules.Kills f l p receivers) e = to_all receivers (Letter.ReleaseOf p) refl
  no_admits (Rules.HearsAnswer f id g op r) e = go (opens f g r)
    where
      go : (t : Bool) → all_pass no_admit (at_work (Current.Asking op (answer f g r))
          (if t then send_all o.bound (λ x. rest r x && not (v.replica.told x)) (Letter.SetLock (Global a) (registrar a)) (begun v)
          else begun v)).sends ≡ true
      go true = to_all (λ x. rest r x && not (v.replica.told x)) (Letter.SetLock (Global a) (registrar a)) refl
      go false = refl
  no_admits (Rules.GivesUp op r granted) e = to_all granted (Letter.GiveBack (Global a) (registrar a) false) refl
  no_admits (Rules.Grants k call r) e = to_all v.replica.members _ refl
  no_admits (Rules.Denies k call r) e = to_all (λ c. asked r c && not (v.replica.told c))
      (Letter.GiveBack (Global a) (registrar a) false) refl
  no_admits (Rules.Strikes p r) e = to_all v.replica.members _ refl
  no_admits (Rules.Passes j pairs r) e = to_all (λ c. asked r c && not (v.replica.told c))
      (Letter.GiveBack (Global a) (registrar a) false) refl
  no_admits (Rules.Finishes op s awaited reply) e = go op reply
    where
      go : (x : Op) (y : Option Reply) → all_pass no_admit (done o.bound a x s y (begun v)).sends ≡ true
      go (Op.Name k call) (Some y) = to_all (λ c. s c && not (v.replica.told c)) (Letter.GiveBack (Global a) (registrar a) false)
          refl
      go (Op.Name k call) None = to_all (λ c. s c && not (v.replica.told c)) (Letter.GiveBack (Global a) (registrar a) false) refl
      go (Op.Strike p) y = to_all (λ c. s c && not (v.replica.told c)) (Letter.GiveBack (Global a) (registrar a) false) refl
      go (Op.Join k m) y = to_all (λ c. s c && not (v.replica.told c)) (Letter.GiveBack (Global a) (registrar a) false) refl
      go (Op.Admission j pairs) y = to_all (λ c. s c && not (v.replica.told c)) (Letter.GiveBack (Global a) (registrar a) false)
          refl
  no_admits (Rules.Judges f id p) e = go (is_free_for id p v.locks)
    where
      go : (t : Bool) → all_pass no_admit (send f (Letter.LockAnswer id p t)
          (if t then with_locks (grant id p) (begun v) else begun v)).sends ≡ true
      go true = refl
      go false = refl
  no_admits (Rules.TakesBack f id p true) e = refl
  no_admits (Rules.TakesBack f id p false) e = refl
  no_admits (Rules.HearsLock f id g c r) e = go (opens f g r)
    where
      go : (t : Bool) → all_pass no_admit (keep_call (in_phase (LockPhase.Asking (answer f g r)) c)
          (if t then send_all o.bound (λ x. rest r x && not (v.replica.told x)) (Letter.SetLock c.id c.holder) (begun v)
          else begun v)).sends ≡ true
      go true = to_all (λ x. rest r x && not (v.replica.told x)) (Letter.SetLock c.id c.holder) refl
      go false = refl
  no_admits (Rules.GivesUpLock c r granted) e = go (is_spent c.retries)
    where
      go : (t : Bool) → all_pass no_admit (if t then close_call o.bound a c false (give_lock o.bound a c granted (begun v))
          else keep_call (in_phase LockPhase.Waiting c) (give_lock o.bound a c granted (begun v))).sends ≡ true
      go true = to_all granted (Letter.GiveBack c.id c.holder false) refl
      go false = to_all granted (Letter.GiveBack c.id c.holder false) refl
  no_admits (Rules.DeletesLock c) e = to_all _ (Letter.GiveBack c.id c.holder true) refl
  no_admits Rules.Leaves e = to_all (λ c. in_world o c && not (c == a)) Letter.Down refl
  no_admits r e = refl

-- each admission on its way goes to who has joined
abbrev pub ToJoined : Standing → ℕ → Letter → Type 0
ToJoined s c l = is_admit l ≡ true → s.registry.joined c ≡ true

abbrev pub AdmitsJoined : Opening → World → Type 0
AdmitsJoined o w = (f c : ℕ) → Each (ToJoined (standing_at o w) c) (w.links.queue f c)

-- who has joined has then
joined_later : (es : List Entry) (s : Standing) (c : ℕ) → s.registry.joined c ≡ true → (fold after s es).registry.joined c ≡ true
joined_later [] s c h = h
joined_later (e ∷ es) s c h = joined_later es (after s e) c
    (ap (λ x. x.joined c) (registry-after s e) ∙ joined_grows e s.registry c h)

each_none : (s : Standing) (c : ℕ) (ls : List Letter) → list_all no_admit ls ≡ true → Each (ToJoined s c) ls
each_none s c [] h = tt
each_none s c (l ∷ ls) h = go (is_admit l) refl h (λ k. each_none s c ls k)
  where
    go : (t : Bool) → is_admit l ≡ t → (not t && list_all no_admit ls) ≡ true
        → (list_all no_admit ls ≡ true → Each (ToJoined s c) ls)
        → Each (ToJoined s c) (l ∷ ls)
    go true e k more = cc k
    go false e k more = ((λ i. cc (i, e)), more k)

module _ (o : Opening) (a : ℕ) (w : World) (B : Base o w) (G : AdmitsJoined o w) (r : Rule) (m : Rules.May o a w r) where
  abbrev u : Turn
  u = Rules.turn_by o a w r

  abbrev later : Standing
  later = fold after (standing_at o w) u.entries

  behind : (c : ℕ) → (standing_at o w).registry.joined c ≡ true → later.registry.joined c ≡ true
  behind c h = joined_later u.entries (standing_at o w) c h

  -- of the new letters, too
  new_letters : (c : ℕ) → Each (ToJoined later c) (sent_to c u.sends)
  new_letters c = go r m behind
    where
      go : (x : Rule) → Rules.May o a w x
          → ((c : ℕ) → (standing_at o w).registry.joined c ≡ true → later.registry.joined c ≡ true)
          → Each (ToJoined later c) (sent_to c (Rules.turn_by o a w x).sends)
      go (Rules.Admits j pairs rr) k on = subst (λ (ls : List Letter). Each (ToJoined later c) ls)
          (sym (sent_to-append c (to_each (nodes_of o.bound (w.node a).replica.members)
          (Letter.Admit j (settle (w.node a).replica.table pairs)))
          (record { to = j; letter = welcome } ∷ [])))
          (each-append (ToJoined later c)
          (sent_to c (to_each (nodes_of o.bound (w.node a).replica.members)
          (Letter.Admit j (settle (w.node a).replica.table pairs))))
          (sent_to c (record { to = j; letter = welcome } ∷ []))
          (each-all (ToJoined later c) o.bound (w.node a).replica.members c (Letter.Admit j (settle (w.node a).replica.table pairs))
          (λ mem i. on c (joined_member o w B a (k.inside, k.running) j pairs rr k.tested.0 c mem)))
          (each-one (ToJoined later c) c j welcome (λ same i. cc i)))
        where
          welcome : Letter
          welcome = Letter.Welcome (with_node j (w.node a).replica.members)
              (with_settled (settle (w.node a).replica.table pairs) (w.node a).replica.table)
              (w.node a).replica.told (settle (w.node a).replica.table pairs).fate
      go x k on = each_none later c (sent_to c (Rules.turn_by o a w x).sends)
          (pass_sent no_admit c (Rules.turn_by o a w x).sends (no_admits o a w x refl))

  -- a turn that takes a letter or none
  turned : (t : Option Taken) (f c : ℕ) → Each (ToJoined later c)
      ((posted a (λ y. sent_to y u.sends) (popped a t w.links)).queue f c)
  turned t f c = each-posted (ToJoined later c) a (λ y. sent_to y u.sends) (popped a t w.links) f c
      (each-popped (ToJoined later c) a t w.links.queue f c
      (each-map (ToJoined (standing_at o w) c) (ToJoined later c) (λ l h i. behind c (h i)) (w.links.queue f c) (G f c)))
      (λ e. new_letters c)

  same : standing_of (in_cluster o) (w.history ++ u.entries) ≡ later
  same = fold-append after (nothing_yet (in_cluster o)) w.history u.entries

  -- the rule keeps it
  pub admits_keep : AdmitsJoined o (Rules.effect o a r w)
  admits_keep = go (is_leave r) refl
    where
      plain : AdmitsJoined o (after_turn a w u (Rules.takes o a r))
      plain f c = subst (λ (s : Standing). Each (ToJoined s c)
          ((posted a (λ y. sent_to y u.sends) (popped a (Rules.takes o a r) w.links)).queue f c))
          (sym same) (turned (Rules.takes o a r) f c)

      leaving : (x : Rule) → is_leave x ≡ true → AdmitsJoined o (after_turn a w (Rules.turn_by o a w x) (Rules.takes o a x))
          → AdmitsJoined o (Rules.effect o a x w)
      leaving Rules.Leaves e k = λ f c. by f c (c == a) (k f c)
        where
          by : (f c : ℕ) (t : Bool) → Each (ToJoined (standing_at o (after_turn a w (Rules.turn_by o a w Rules.Leaves) None)) c)
              ((after_turn a w (Rules.turn_by o a w Rules.Leaves) None).links.queue f c)
              → Each (ToJoined (standing_at o (after_turn a w (Rules.turn_by o a w Rules.Leaves) None)) c)
              (if t then [] else (after_turn a w (Rules.turn_by o a w Rules.Leaves) None).links.queue f c)
          by f c true q = tt
          by f c false q = q
      leaving x e k = cc e

      go : (t : Bool) → is_leave r ≡ t → AdmitsJoined o (Rules.effect o a r w)
      go false e = subst (AdmitsJoined o) (effect-turn o a w r e) plain
      go true e = leaving r e plain

-- so it is of every world that events can reach
pub keeps : (o : Opening) (a : ℕ) (w : World) (r : Rule) → Base o w → Base o (Rules.effect o a r w) → Rules.May o a w r
    → AdmitsJoined o w → AdmitsJoined o (Rules.effect o a r w)
keeps o a w r B C m G = admits_keep o a w B G r m

pub known : (o : Opening) (es : List WorldEvent) → Both o (AdmitsJoined o) (keeps o) (run o (opening_world o) es)
known o es = along o (AdmitsJoined o) (keeps o) (λ f c. tt) es

-- so a node that is sent an admission has no join in its queue
pub beside : (o : Opening) (w : World) (B : Base o w) → AdmitsJoined o w → (a : ℕ) → IsUp o w a → Beside o w a
beside o w B G a up_a = record { admitted = λ f j s rest front. go f j s rest front (has_join (w.node a).queue) refl }
  where
    O : OnceIn (w.node a).replica.joined (w.node a).current (w.node a).queue
    O = B.all.joins.once a

    go : (f j : ℕ) (s : Settled) (rest : List Letter) → w.links.queue f a ≡ Letter.Admit j s ∷ rest → (t : Bool)
        → has_join (w.node a).queue ≡ t → joins (w.node a).queue ≡ 0
    go f j s rest front false e = no_join (w.node a).queue e
    go f j s rest front true e = absurd (cc (lone, there))
      where
        there : (standing_at o w).registry.joined a ≡ true
        there = (subst (Each (ToJoined (standing_at o w) a)) front (G f a)).0 refl

        calm : (t : Bool) → is_joining (w.node a).current ≡ t → t ≡ false
        calm true h = cc (O.waits h, e)
        calm false h = refl

        apart : (t : Bool) → (w.node a).replica.joined ≡ t → t ≡ false
        apart true h = cc ((O.joined h).1, e)
        apart false h = refl

        lone : (standing_at o w).registry.joined a ≡ false
        lone = sym (joined_now o w (Together.replicas o w B.all) (Together.heard_joins o w B.all) a up_a
            (calm (is_joining (w.node a).current) refl))
            ∙ apart ((w.node a).replica.joined) refl

-- A world along the chain of an event in which nobody leaves
pub record Along (o : Opening) (w x : World) : Type 0 where
  pub base : Base o x
  pub admissions : AdmitsJoined o x
  pub stays : left x ≡ left w

-- it begins so
pub along_begins : (o : Opening) (w : World) → Both o (AdmitsJoined o) (keeps o) w → Along o w w
along_begins o w b = record { base = b.base; admissions = b.here; stays = refl }

-- each of its rules keeps it
pub along_keeps : (o : Opening) (a : ℕ) (w x : World) (r : Rule) → Along o w x → Rules.May o a x r → is_leave r ≡ false
    → Along o w (Rules.effect o a r x)
along_keeps o a w x r A m e =
    let B : Base o (Rules.effect o a r x) = base_keeps o a x r A.base m in record {
      base = B;
      admissions = keeps o a x r A.base B m A.admissions;
      stays = sym (ap left (effect-turn o a x r e)) ∙ A.stays;
    }

-- and its nodes are ready
pub along_ready : (o : Opening) (a : ℕ) (w x : World) → Along o w x → in_world o a ≡ true → left x a ≡ false
    → Ready o (running o w) x a
along_ready o a w x A i l = subst (λ (s : Nodes). Ready o (λ c. in_world o c && not (s c)) x a) A.stays
    (is_ready o x A.base a (i, l) (beside o x A.base A.admissions a (i, l)))
