-- A grant's request at a node: the last one of its holder for the lock that the node took before it was answered.
use Rattle.std.proofs.Common.{ℕ, Bool, true, false, ◌==◌, ◌≡◌, ◌≤◌, List, [], ◌∷◌, None, length, drop, refl, sym, ap, ◌∙◌, subst, arith}
use Rattle.std.specs.Prelude.{◌&&◌, nat_lt, if◌then◌else◌}
use Rattle.std.specs.List.{list_any, list_all}
use Rattle.std.proofs.lemmas.Bool.{eqb-true, eq-eqb, le-ltb}
use Rattle.registry_model.specs.Process.{Process, is_process}
use Rattle.protocol_model.specs.Letter.{Id, is_id, Letter}
use Rattle.protocol_model.specs.LockTable.{is_free_for}
use Rattle.protocol_model.specs.Turn.{begun}
use Rattle.protocol_model.specs.Registrar.{start}
use Rattle.protocol_model.specs.Reading.{judge}
use Rattle.protocol_model.specs.LockAnswers.{is_asked_first}
use Rattle.protocol_model.specs.World.{Opening, World, left, WorldEvent, At, Deliver, place, refusal, join_number, heard, letter_taken, accepted, turn_of}
use Rattle.creations.proofs.Indices.{both}
use Rattle.creations.proofs.Rules
use Rattle.creations.proofs.Rules.{Rule, May, MayAll, effect, effects}
use Rattle.walk.proofs.Chains.{LeaveLocks, TakeGone, is_gone_by}
use Rattle.walk.proofs.ChainKinds.{leaves_locks}
use Rattle.walk.proofs.Walk.{OrderedWalk, walked_in_order}
use Rattle.creations.proofs.Told.{chain_of}
use Rattle.creations.proofs.Ids.{is_process_same}
use Rattle.creations.proofs.Clients.{lives}
use Rattle.creations.proofs.Serving.{front_named}
use Rattle.creations.proofs.Grounds.{Base, base_keeps, wide}
use Rattle.creations.proofs.Besides.{start_adds}
use Rattle.creations.proofs.Settled.{node_ran, process_lived}
use Rattle.creations.proofs.Spared.{is_lock_answer}
use Rattle.fences.specs.Grants.{takes_request}
use Rattle.fences.proofs.Settling.{settles, is_taking, rule_eases}

module _ (o : Opening) (p : Process) (c : ℕ) (id : Id) where
  -- who lives behind a chain lived before it, and so of a node that runs
  lived : (a : ℕ) (rs : List Rule) (w : World) → lives o (effects o a rs w) p ≡ true → lives o w p ≡ true
  lived a [] w h = h
  lived a (r ∷ rs) w h = process_lived o a r w p (lived a rs (effect o a r w) h)

  ran : (a : ℕ) (rs : List Rule) (w : World) → left (effects o a rs w) c ≡ false → left w c ≡ false
  ran a [] w h = h
  ran a (r ∷ rs) w h = node_ran o a r w c (ran a rs (effect o a r w) h)

  calm_rule : (a : ℕ) (r : Rule) → leaves_locks r ≡ true → is_taking o p c id a r ≡ false
  calm_rule a (Rules.Judges f i q) h = cc
  calm_rule a _ h = refl

  -- rules that leave the lock table take no request
  calm_chain : (a : ℕ) (rs : List Rule) (w : World) → Base o w → MayAll o a rs w → list_all leaves_locks rs ≡ true
      → lives o (effects o a rs w) p ≡ true → left (effects o a rs w) c ≡ false
      → settles o p c id (effects o a rs w) ≤ settles o p c id w
  calm_chain a [] w B m h alive up = omega arith
  calm_chain a (r ∷ rs) w B m h alive up =
      let parts : (leaves_locks r ≡ true) × (list_all leaves_locks rs ≡ true) =
      both (leaves_locks r) (list_all leaves_locks rs) h in
      omega (
        arith,
        rule_eases o p c id a w B.num B.all.proper B.clients (lived a (r ∷ rs) w alive) r m.0 (calm_rule a r parts.0)
            (ran a rs (effect o a r w) up),
        calm_chain a rs (effect o a r w) (base_keeps o a w r B m.0) m.1 parts.1 alive up,
      )

  -- nor do those of a chain whose first takes none
  chain_eases : (a : ℕ) (rs : List Rule) (w : World) → Base o w → MayAll o a rs w → LeaveLocks rs
      → ((r : Rule) (later : List Rule) → rs ≡ r ∷ later → is_taking o p c id a r ≡ false)
      → lives o (effects o a rs w) p ≡ true → left (effects o a rs w) c ≡ false
      → settles o p c id (effects o a rs w) ≤ settles o p c id w
  chain_eases a [] w B m h first alive up = omega arith
  chain_eases a (r ∷ rs) w B m h first alive up = omega (
    arith,
    rule_eases o p c id a w B.num B.all.proper B.clients (lived a (r ∷ rs) w alive) r m.0 (first r rs refl)
        (ran a rs (effect o a r w) up),
    calm_chain a rs (effect o a r w) (base_keeps o a w r B m.0) m.1 h alive up,
  )

  module _ (w : World) (B : Base o w) (e : WorldEvent) (is : refusal o w e ≡ None) where
    abbrev W : OrderedWalk o w e
    W = walked_in_order o w e B.ordered (wide o w B) is

    -- the letter that the first rule takes is the one that is delivered
    request : (x : WorldEvent) (f : ℕ) (i : Id) (q : Process)
        → is_gone_by w (letter_taken x w) (place x) (Rules.taking f (Letter.SetLock i q)) ≡ true → q.node ≡ f
        → Rules.IsFront o (place x) w f (Letter.SetLock i q) → ((place x == c) && (is_process q p && is_id i id)) ≡ true
        → takes_request w x p id c ≡ true
    request (At a y) f i q gone home front h =
        cc (le-ltb (length (w.links.queue f a)) (length (w.links.queue f a)) (omega arith), gone)
    request (Deliver g t) f i q gone home front h = rw (eq-eqb g p.node from, parts.0, asked) refl
      where
        parts : ((t == c) ≡ true) × ((is_process q p && is_id i id) ≡ true)
        parts = both (t == c) (is_process q p && is_id i id) h

        mine : (is_process q p ≡ true) × (is_id i id ≡ true)
        mine = both (is_process q p) (is_id i id) parts.1

        same : f ≡ g
        same = go (f == g) refl gone
          where
            go : (b : Bool) → (f == g) ≡ b → nat_lt (length (if b && (t == t) then drop 1 (w.links.queue f t)
                else w.links.queue f t)) (length (w.links.queue f t)) ≡ true → f ≡ g
            go true x k = eqb-true f g x
            go false x k = cc (le-ltb (length (w.links.queue f t)) (length (w.links.queue f t)) (omega arith), k)

        from : g ≡ p.node
        from = sym same ∙ sym home ∙ ap (λ (x : Process). x.node) (is_process_same q p mine.0)

        asked : is_asked_first id p (w.links.queue g t) ≡ true
        asked = ap (λ (y : ℕ). is_asked_first id p (w.links.queue y t)) (sym same) ∙ ap (is_asked_first id p) front.1
            ∙ rw (mine.0, mine.1) refl

    taken_none : takes_request w e p id c ≡ false → (r : Rule) → May o (place e) w r
        → is_gone_by w (letter_taken e w) (place e) (Rules.takes o (place e) r) ≡ true → is_taking o p c id (place e) r ≡ false
    taken_none none (Rules.Judges f i q) m gone = go ((place e == c) && (is_process q p && is_id i id)) refl
      where
        home : q.node ≡ f
        home = eqb-true q.node f (front_named o f (place e) w (Letter.SetLock i q) (B.clients.named f (place e)) m.front.1)

        go : (b : Bool) → ((place e == c) && (is_process q p && is_id i id)) ≡ b → b ≡ false
        go false x = refl
        go true x = cc (request e f i q gone home m.front.1 x, none)
    taken_none none _ m gone = refl

    -- so an event makes it no more, unless by it c takes a request
    pub eased : takes_request w e p id c ≡ false → lives o (accepted o w e) p ≡ true → left (accepted o w e) c ≡ false
        → settles o p c id (accepted o w e) ≤ settles o p c id w
    eased none = subst (λ (v : World). lives o v p ≡ true → left v c ≡ false → settles o p c id v ≤ settles o p c id w)
        W.walk.world (chain_eases (place e) (chain_of o w e W.walk.rest) w B W.walk.may W.locks
        (λ r later first. go r later first W.walk.may W.letters))
      where
        go : (r : Rule) (later : List Rule) → chain_of o w e W.walk.rest ≡ r ∷ later
            → MayAll o (place e) (chain_of o w e W.walk.rest) w
            → TakeGone o (place e) w (letter_taken e w) (chain_of o w e W.walk.rest) → is_taking o p c id (place e) r ≡ false
        go r later first m g = taken_none none r (subst (λ (rs : List Rule). MayAll o (place e) rs w) first m).0
            (both (is_gone_by w (letter_taken e w) (place e) (Rules.takes o (place e) r)) _
            (subst (TakeGone o (place e) w (letter_taken e w)) first g)).0

    pub lived_before : lives o (accepted o w e) p ≡ true → lives o w p ≡ true
    lived_before = subst (λ (v : World). lives o v p ≡ true → lives o w p ≡ true) W.walk.world
        (lived (place e) (chain_of o w e W.walk.rest) w)

    pub ran_before : left (accepted o w e) c ≡ false → left w c ≡ false
    ran_before = subst (λ (v : World). left v c ≡ false → left w c ≡ false) W.walk.world
        (ran (place e) (chain_of o w e W.walk.rest) w)

  -- by a request no lock call is answered
  request_silent : (w : World) (f t : ℕ) (ls : List Letter) → is_asked_first id p ls ≡ true
      → list_any is_lock_answer (heard o.bound t w f ls).answers ≡ false
  request_silent w f t (Letter.SetLock i q ∷ ls) h = go ((w.node t).replica.told f)
    where
      by : (b : Bool) → list_any is_lock_answer (judge o.bound t (join_number w) f i q b (begun (w.node t))).answers ≡ false
      by true = refl
      by false = refl

      go : (b : Bool) → list_any is_lock_answer (start o.bound t (if b && true then begun (w.node t)
          else judge o.bound t (join_number w) f i q (is_free_for i q (w.node t).locks) (begun (w.node t)))).answers ≡ false
      go true = start_adds is_lock_answer (λ b k. refl) o.bound t (begun (w.node t))
      go false = start_adds is_lock_answer (λ b k. refl) o.bound t
          (judge o.bound t (join_number w) f i q (is_free_for i q (w.node t).locks) (begun (w.node t)))
          ∙ by (is_free_for i q (w.node t).locks)
  request_silent w f t _ h = cc

  pub takes_silent : (w : World) (e : WorldEvent) → takes_request w e p id c ≡ true
      → list_any is_lock_answer (turn_of o w e).answers ≡ false
  takes_silent w (At a x) h = cc
  takes_silent w (Deliver f t) h = request_silent w f t (w.links.queue f t)
      (both ((f == p.node) && (t == c)) (is_asked_first id p (w.links.queue f t)) h).1
