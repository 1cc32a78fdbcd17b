-- Where an accepted event answers `yes`, the whole group shows the registry.
use Rattle.std.proofs.Common.{ℕ, Bool, true, false, ◌≡◌, Option, Some, None, List, [], ◌∷◌, ◌++◌, refl, sym, ap, ◌∙◌, subst, inl, inr}
use Rattle.std.specs.Prelude.{◌&&◌, ◌||◌, not, map, Contains, if◌then◌else◌}
use Rattle.std.specs.List.{list_any}
use Rattle.std.proofs.lemmas.List.Folds.{list_any-append}
use Rattle.std.proofs.lemmas.List.{map-append}
use Rattle.registry_model.specs.Call.{Reply, Yes, is_reply, is_grant, reply_to}
use Rattle.registry_model.specs.History.{Entry}
use Rattle.registry_model.proofs.Lists.{Contains-cases, Contains-nil}
use Rattle.protocol_model.specs.Node.{Node, Op, Current, LockPhase, is_writing}
use Rattle.protocol_model.specs.Event.{Event, Answer}
use Rattle.protocol_model.specs.Turn.{Turn, begun, at_work, send_all, keep_call}
use Rattle.protocol_model.specs.Round.{opens, rest, answer}
use Rattle.protocol_model.specs.Letter.{Global, Letter}
use Rattle.protocol_model.specs.LockTable.{is_free_for}
use Rattle.protocol_model.specs.Registrar.{registrar}
use Rattle.protocol_model.specs.Client.{is_spent, in_phase, give_lock, close_call}
use Rattle.protocol_model.specs.Reading.{judge}
use Rattle.protocol_model.specs.World.{Opening, World, WorldEvent, At, Deliver, place, join_number, turn_of, accepted}
use Rattle.protocol_model.specs.Course.{seen}
use Rattle.protocol_model.specs.Headline.{GroupShows}
use Rattle.moves.proofs.Rules
use Rattle.moves.proofs.Rules.{Rule, Walked}
use Rattle.registry_model.proofs.Updates.{at_same}
use Rattle.moves.proofs.Indices.{neither}
use Rattle.moves.proofs.Invariants.{standing_at}
use Rattle.replicas.proofs.Owning.{IsOwn, own_keeps, own_writes}
use Rattle.replicas.proofs.States.{group_shows}
use Rattle.headline.proofs.Together.{Whole, replicas, event_makes}
use Rattle.headline.proofs.Turns.{is_yes, begins, is_busy}
use Rattle.headline.proofs.Answering.{seen_in-yes, turn_tame}

-- a list of which no item passes
pub item_fails : {A : Type 0} (test : A → Bool) (xs : List A) (x : A) → list_any test xs ≡ false → Contains xs x
    → test x ≡ false
item_fails {A} test [] x e c = absurd (Contains-nil x c)
item_fails {A} test (y ∷ ys) x e c = go (test y) refl e (λ k d. item_fails test ys x k d)
  where
    go : (b : Bool) → test y ≡ b → (b || list_any test ys) ≡ false
        → (list_any test ys ≡ false → Contains ys x → test x ≡ false) → test x ≡ false
    go true i k more = cc
    go false i k more = elim (Contains-cases y ys x c) [
      | inl q ↦ subst (λ (z : A). test z ≡ false) q i
      | inr d ↦ more k d
    ]

-- what is said of the answers of a rule: they are of its own node, and `yes` comes where the node writes
pub record Says (a : ℕ) (writes : Bool) (u : Turn) : Type 0 where
  pub nodes : map (λ (s : Answer). s.node) u.answers ≡ map (λ (s : Answer). a) u.answers
  pub yes : list_any is_yes u.answers ≡ true → writes ≡ true

says_nothing : (a : ℕ) (b : Bool) (u : Turn) → u.answers ≡ [] → Says a b u
says_nothing a b u e = record {
  nodes = ap (λ (ss : List Answer). map (λ (s : Answer). s.node) ss) e
      ∙ sym (ap (λ (ss : List Answer). map (λ (s : Answer). a) ss) e);
  yes = λ h. cc (h, ap (list_any is_yes) e);
}

rule_says : (o : Opening) (a : ℕ) (w : World) (r : Rule) → Rules.May o a w r
    → Says a (is_writing (w.node a).current) (Rules.turn_by o a w r)
rule_says o a w (Rules.LooksUp look) m = record {
  nodes = refl;
  yes = λ h. cc (h, ap (λ (b : Bool). b || false) (seen_in-yes (w.node a).replica look));
}
rule_says o a w (Rules.Denies k call r) m = record {
  nodes = refl;
  yes = λ h. denied (reply_to (w.node a).replica.members (w.node a).replica.table call) m.tested.1 h;
}
  where
    denied : (r : Reply) → is_grant r ≡ false → (is_reply r Yes || false) ≡ true → is_writing (w.node a).current ≡ true
    denied Yes g h = cc
    denied _ g h = cc
rule_says o a w (Rules.Finishes op asked awaited reply) m = go op reply
  where
    go : (op : Op) (reply : Option Reply)
        → Says a (is_writing (w.node a).current) (Rules.turn_by o a w (Rules.Finishes op asked awaited reply))
    go (Op.Name k call) (Some r) = record { nodes = refl; yes = λ h. ap is_writing m.tested.0 }
    go (Op.Name k call) None = record { nodes = refl; yes = λ h. ap is_writing m.tested.0 }
    go (Op.Strike p) reply = record { nodes = refl; yes = λ h. ap is_writing m.tested.0 }
    go (Op.Join k c) reply = record { nodes = refl; yes = λ h. ap is_writing m.tested.0 }
    go (Op.Admission j pairs) reply = record { nodes = refl; yes = λ h. ap is_writing m.tested.0 }
rule_says o a w (Rules.GivesUpLock c r granted) m = go (is_spent c.retries)
  where
    gives : Turn
    gives = give_lock o.bound a c granted (begun (w.node a))

    go : (b : Bool) → Says a (is_writing (w.node a).current)
        (if b then close_call o.bound a c false gives else keep_call (in_phase LockPhase.Waiting c) gives)
    go true = record { nodes = refl; yes = λ h. cc }
    go false = record { nodes = refl; yes = λ h. cc }
rule_says o a w (Rules.HearsAnswer f id granted op r) m = go (opens f granted r)
  where
    asks : Bool → Turn
    asks b = at_work (Current.Asking op (answer f granted r))
        (if b then send_all o.bound (λ x. rest r x && not ((w.node a).replica.told x))
        (Letter.SetLock (Global a) (registrar a)) (begun (w.node a)) else begun (w.node a))

    go : (b : Bool) → Says a (is_writing (w.node a).current) (asks b)
    go true = says_nothing a (is_writing (w.node a).current) (asks true) refl
    go false = says_nothing a (is_writing (w.node a).current) (asks false) refl
rule_says o a w (Rules.HearsLock f id granted c r) m = go (opens f granted r)
  where
    asks : Bool → Turn
    asks b = keep_call (in_phase (LockPhase.Asking (answer f granted r)) c)
        (if b then send_all o.bound (λ x. rest r x && not ((w.node a).replica.told x)) (Letter.SetLock c.id c.holder)
        (begun (w.node a)) else begun (w.node a))

    go : (b : Bool) → Says a (is_writing (w.node a).current) (asks b)
    go true = says_nothing a (is_writing (w.node a).current) (asks true) refl
    go false = says_nothing a (is_writing (w.node a).current) (asks false) refl
rule_says o a w (Rules.Judges f id p) m = go (is_free_for id p (w.node a).locks)
  where
    go : (b : Bool) → Says a (is_writing (w.node a).current)
        (judge o.bound a (join_number w) f id p b (begun (w.node a)))
    go true = says_nothing a (is_writing (w.node a).current)
        (judge o.bound a (join_number w) f id p true (begun (w.node a))) refl
    go false = says_nothing a (is_writing (w.node a).current)
        (judge o.bound a (join_number w) f id p false (begun (w.node a))) refl
rule_says o a w (Rules.TakesBack f id p true) m = says_nothing a (is_writing (w.node a).current)
    (Rules.turn_by o a w (Rules.TakesBack f id p true)) refl
rule_says o a w (Rules.TakesBack f id p false) m = says_nothing a (is_writing (w.node a).current)
    (Rules.turn_by o a w (Rules.TakesBack f id p false)) refl
rule_says o a w _ m = record { nodes = refl; yes = λ h. cc }

-- whose answers are all of one node
of_node : (a : ℕ) (ss : List Answer) (s : Answer) → map (λ (s : Answer). s.node) ss ≡ map (λ (s : Answer). a) ss
    → Contains ss s → s.node ≡ a
of_node a [] s e c = absurd (Contains-nil s c)
of_node a (t ∷ ts) s e c = go (of_node a ts s)
  where
    go : (map (λ (s : Answer). s.node) ts ≡ map (λ (s : Answer). a) ts → Contains ts s → s.node ≡ a) → s.node ≡ a
    go more = elim (Contains-cases t ts s c) [
      | inl q ↦ let head : t.node ≡ a = cc in ap (λ (x : Answer). x.node) (sym q) ∙ head
      | inr d ↦ let tail : map (λ (s : Answer). s.node) ts ≡ map (λ (s : Answer). a) ts = cc in more tail d
    ]

module _ (o : Opening) (w : World) (e : WorldEvent) (W : Whole o w) (V : Whole o (accepted o w e))
    (H : Walked o w e) where
  abbrev pub turn : Turn
  turn = turn_of o w e

  abbrev pub later : World
  later = accepted o w e

  -- the node is that of the turn
  pub node_after : later.node (place e) ≡ turn.node
  node_after = go e
    where
      go : (e : WorldEvent) → (accepted o w e).node (place e) ≡ (turn_of o w e).node
      go (Deliver f t) = at_same w.node t (turn_of o w (Deliver f t)).node
      go (At a Event.Leave) = at_same w.node a (turn_of o w (At a Event.Leave)).node
      go (At a (Event.Calling c)) = at_same w.node a (turn_of o w (At a (Event.Calling c))).node
      go (At a Event.Retry) = at_same w.node a (turn_of o w (At a Event.Retry)).node
      go (At a (Event.Exiting p)) = at_same w.node a (turn_of o w (At a (Event.Exiting p))).node

  -- all is answered by the node of the event
  answers_own : map (λ (s : Answer). s.node) turn.answers ≡ map (λ (s : Answer). place e) turn.answers
  answers_own = event_makes o K (place e) step w e refl W H refl
    where
      K : List Entry → List Answer → World → Type 0
      K es ss x = map (λ (s : Answer). s.node) ss ≡ map (λ (s : Answer). place e) ss

      step : (x : World) (r : Rule) (es : List Entry) (ss : List Answer) → K es ss x → Whole o x
          → Whole o (Rules.effect o (place e) r x)
          → Rules.May o (place e) x r
          → K (es ++ (Rules.turn_by o (place e) x r).entries) (ss ++ (Rules.turn_by o (place e) x r).answers)
          (Rules.effect o (place e) r x)
      step x r es ss k X Y m =
          map-append (λ (s : Answer). s.node) ss (Rules.turn_by o (place e) x r).answers
          ∙ ap (λ (l : List ℕ). l ++ map (λ (s : Answer). s.node) (Rules.turn_by o (place e) x r).answers) k
          ∙ ap (λ (l : List ℕ). map (λ (s : Answer). place e) ss ++ l) (rule_says o (place e) x r m).nodes
          ∙ sym (map-append (λ (s : Answer). place e) ss (Rules.turn_by o (place e) x r).answers)

  pub answers_here : (s : Answer) → Contains turn.answers s → s.node ≡ place e
  answers_here s c = of_node (place e) turn.answers s answers_own c

  -- where `yes` is answered, what holds in the group at the end is the node's own, if anything
  yes_own : list_any is_yes turn.answers ≡ true → IsOwn (place e) (standing_at o later)
  yes_own = event_makes o K (place e) step w e refl W H (λ h. cc)
    where
      K : List Entry → List Answer → World → Type 0
      K es ss x = list_any is_yes ss ≡ true → IsOwn (place e) (standing_at o x)

      step : (x : World) (r : Rule) (es : List Entry) (ss : List Answer) → K es ss x → Whole o x
          → Whole o (Rules.effect o (place e) r x)
          → Rules.May o (place e) x r
          → K (es ++ (Rules.turn_by o (place e) x r).entries) (ss ++ (Rules.turn_by o (place e) x r).answers)
          (Rules.effect o (place e) r x)
      step x r es ss k X Y m h = own_keeps o (place e) x X.kept.known r m
          (go (list_any is_yes ss) refl (sym (list_any-append is_yes ss (Rules.turn_by o (place e) x r).answers) ∙ h))
        where
          go : (b : Bool) → list_any is_yes ss ≡ b → (b || list_any is_yes (Rules.turn_by o (place e) x r).answers)
              ≡ true → IsOwn (place e) (standing_at o x)
          go true i y = k i
          go false i y = own_writes o x (place e) (replicas o x X.kept) ((rule_says o (place e) x r m).yes y)

  -- some answer is `yes`
  some_yes : (s : Answer) → Contains turn.answers s → s.reply ≡ Yes → list_any is_yes turn.answers ≡ true
  some_yes s c y = go (list_any is_yes turn.answers) refl
    where
      go : (b : Bool) → list_any is_yes turn.answers ≡ b → b ≡ true
      go true i = refl
      go false i = absurd (cc (item_fails is_yes turn.answers s i c, ap (λ (r : Reply). is_reply r Yes) y))

  not_busy : list_any is_yes turn.answers ≡ true → is_busy turn ≡ false
  not_busy y = calm (is_busy turn) (ap (λ (b : Bool). b && is_busy turn) (sym y) ∙ turn_tame o w e)
    where
      calm : (b : Bool) → (true && b) ≡ false → b ≡ false
      calm true i = cc
      calm false i = refl

  -- where `yes` is answered, every running node of the group shows the registry
  pub event_written : (s : Answer) → Contains turn.answers s → s.reply ≡ Yes
      → GroupShows o (standing_at o later) s.node (seen o later)
  event_written s c y = subst (λ (a : ℕ). GroupShows o (standing_at o later) a (seen o later)) (sym (answers_here s c))
      (group_shows o later (replicas o later V.kept) (place e) (yes_own (some_yes s c y)) idle)
    where
      idle : is_writing (later.node (place e)).current ≡ false
      idle = ap (λ (v : Node). is_writing v.current) node_after
          ∙ (neither (is_writing turn.node.current) (list_any begins turn.entries) (not_busy (some_yes s c y))).0

  -- and nothing begins to hold
  pub event_begins : (s : Answer) → Contains turn.answers s → s.reply ≡ Yes → list_any begins turn.entries ≡ false
  event_begins s c y = (neither (is_writing turn.node.current) (list_any begins turn.entries)
      (not_busy (some_yes s c y))).1
