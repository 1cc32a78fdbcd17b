-- What a process has at a node once all that it asked for on the way has come: it becomes more only where the node takes a request
-- of the process for the lock.
use Rattle.std.proofs.Common.{ℕ, Bool, true, false, ◌==◌, ◌≡◌, ◌≤◌, ◌+◌, ◌-◌, Option, Some, None, List, [], ◌∷◌, ◌++◌, refl, sym, ap, ◌∙◌, subst, inl, inr, arith}
use Rattle.std.specs.Prelude.{◌&&◌, if◌then◌else◌}
use Rattle.std.proofs.lemmas.Bool.{cases_eq, eqb-true, eq-eqb, ne_eqb}
use Rattle.registry_model.specs.Process.{Process, is_process, at}
use Rattle.registry_model.proofs.Updates.{at_same, at_other}
use Rattle.protocol_model.specs.Letter.{Id, is_id, Letter}
use Rattle.protocol_model.specs.LockTable.{Locks, count, is_free_for, grant, give_back}
use Rattle.protocol_model.specs.Node.{Node}
use Rattle.protocol_model.specs.World.{Opening, World, left}
use Rattle.creations.proofs.Rules
use Rattle.creations.proofs.Rules.{Rule, Taken, May, awaits, effect, turn_by}
use Rattle.creations.proofs.Invariants.{Proper, IsProper, Each}
use Rattle.creations.proofs.Ids.{is_process_same, is_process_swap}
use Rattle.creations.proofs.LockTables.{pair_off, count-grant, count-grant_other, count-give_back, count-give_back_other, count-drop_holder, count-drop_node}
use Rattle.creations.proofs.Sessions.{Ask, Takes, Backs, Acks, Frees, view, settled, settled_le, settled-append, fits}
use Rattle.creations.proofs.SessionMoves.{no_free_front}
use Rattle.creations.proofs.Mail.{ask_of, asks, echoes, Moved, all_moved, read_on, sent_on, turned, links_moved}
use Rattle.creations.proofs.Clients.{Numbers, lives, IsLive, live_parts, call_at, Clients}
use Rattle.creations.proofs.Serving.{front_named}
use Rattle.creations.proofs.Parts.{locks_by, parts}
use Rattle.creations.proofs.Settled.{node_ran}

-- more settles to more
one_less : (b : Bool) (m n : ℕ) → m ≤ n → (if b then m - 1 else m) ≤ (if b then n - 1 else n)
one_less true m n h = omega (arith, h)
one_less false m n h = h

settled_rises : (id : Id) (xs : List Ask) (m n : ℕ) → m ≤ n → settled id xs m ≤ settled id xs n
settled_rises id [] m n h = h
settled_rises id (Takes j ∷ xs) m n h = settled_rises id xs m n h
settled_rises id (Backs j ∷ xs) m n h = settled_rises id xs _ _ (one_less (is_id j id) m n h)
settled_rises id (Acks j ∷ xs) m n h = settled_rises id xs _ _ (one_less (is_id j id) m n h)
settled_rises id (Frees ∷ xs) m n h = omega arith

-- what is taken at the front was counted, and what comes at the back makes it no more
carried : (id : Id) (lost got before after : List Ask) (m n : ℕ) → Moved lost got before after → n ≤ settled id lost m
    → settled id after n ≤ settled id before m
carried id lost got before after m n M h = omega (
  arith,
  ap (λ (xs : List Ask). settled id xs n) M.now,
  settled-append id M.middle got n,
  settled_le id got (settled id M.middle n),
  settled_rises id M.middle n (settled id lost m) h,
  settled-append id lost M.middle m,
  ap (λ (xs : List Ask). settled id xs m) M.was,
)

-- a letter that asks no lock table for anything
abbrev asks_nothing : Letter → Bool
asks_nothing (Letter.SetLock id p) = false
asks_nothing (Letter.GiveBack id p ack) = false
asks_nothing (Letter.ReleaseOf p) = false
asks_nothing _ = true

abbrev takes_no_ask : Option Taken → Bool
takes_no_ask None = true
takes_no_ask (Some t) = asks_nothing t.letter

no_ask : (p : Process) (l : Letter) → asks_nothing l ≡ true → ask_of p l ≡ []
no_ask p (Letter.SetLock id q) h = cc
no_ask p (Letter.GiveBack id q ack) h = cc
no_ask p (Letter.ReleaseOf q) h = cc
no_ask p _ h = refl

module _ (o : Opening) (p : Process) (c : ℕ) (id : Id) where
  abbrev pub settles : World → ℕ
  settles w = settled id (asks p (w.links.queue p.node c)) (count id p (w.node c).locks)

  -- by this rule of node a, node c takes a request of p for the lock
  abbrev pub is_taking : ℕ → Rule → Bool
  is_taking a (Rules.Judges f i q) = (a == c) && (is_process q p && is_id i id)
  is_taking a _ = false

  module _ (a : ℕ) (w : World) (num : Numbers) (P : Proper o w) (C : Clients o w num) (living : lives o w p ≡ true) where
    abbrev t : Locks
    t = (w.node a).locks

    abbrev k : ℕ
    k = count id p t

    live : IsLive o w p
    live = live_parts o w p living

    -- what the letter that is taken asks for
    abbrev lost : Option Taken → List Ask
    lost x = asks p (read_on a x p.node a)

    -- a letter that asks for nothing
    unasked : (b : Bool) (l : Letter) → ask_of p l ≡ [] → asks p (if b then l ∷ [] else []) ≡ []
    unasked true l e = ap (λ (xs : List Ask). xs ++ []) e
    unasked false l e = refl

    still : (x : Option Taken) → takes_no_ask x ≡ true → k ≤ settled id (lost x) k
    still None h = omega arith
    still (Some x) h = same (ap (λ (xs : List Ask). settled id xs k)
        (unasked ((p.node == x.sender) && (a == a)) x.letter (no_ask p x.letter h)))
      where
        same : {n : ℕ} → n ≡ k → k ≤ n
        same e = omega (arith, e)

    -- of a letter of p from its own node
    front : (f : ℕ) (l : Letter) (x : Ask) → f ≡ p.node → ask_of p l ≡ x ∷ []
        → asks p (if (p.node == f) && (a == a) then l ∷ [] else []) ≡ x ∷ []
    front f l x home e = ap (λ (b : Bool). asks p (if b && (a == a) then l ∷ [] else [])) (eq-eqb p.node f (sym home))
        ∙ ap (λ (b : Bool). asks p (if b then l ∷ [] else [])) (eq-eqb a a refl)
        ∙ ap (λ (xs : List Ask). xs ++ []) e

    mine : (q : Process) → is_process q p ≡ true → (x : Ask) → (if is_process q p then x ∷ [] else []) ≡ x ∷ []
    mine q e x = ap (λ (b : Bool). if b then x ∷ [] else []) e

    other : (q : Process) → is_process q p ≡ false → (x : Ask) → (if is_process q p then x ∷ [] else []) ≡ []
    other q e x = ap (λ (b : Bool). if b then x ∷ [] else []) e

    -- what the rule leaves in the lock table of its node is what the letter that it takes asks for, or less
    eases : (r : Rule) → May o a w r → a ≡ c → is_taking a r ≡ false
        → count id p (locks_by r t) ≤ settled id (lost (Rules.takes o a r)) k
    eases (Rules.Judges f i q) m here h = go (is_free_for i q t) (is_process q p) refl (is_id i id) refl
      where
        same : (b : Bool) → k ≤ settled id (asks p (if b then Letter.SetLock i q ∷ [] else [])) k
        same false = omega arith
        same true = by (is_process q p)
          where
            by : (d : Bool) → k ≤ settled id ((if d then Takes i ∷ [] else []) ++ []) k
            by true = omega arith
            by false = omega arith

        no_more : (n : ℕ) → n ≤ k → n ≤ settled id (lost (Some (record { sender = f; letter = Letter.SetLock i q }))) k
        no_more n l = omega (arith, l, same ((p.node == f) && (a == a)))

        go : (free d : Bool) → is_process q p ≡ d → (b : Bool) → is_id i id ≡ b
            → count id p (if free then grant i q t else t)
            ≤ settled id (lost (Some (record { sender = f; letter = Letter.SetLock i q }))) k
        go false d e b j = no_more k (omega arith)
        go true false e b j =
            no_more (count id p (grant i q t)) (omega (arith, count-grant_other i q id p t (pair_off i q id p e)))
        go true true e true j = cc (h, ap (λ (x : Bool). x && (is_process q p && is_id i id)) (eq-eqb a c here), e, j)
        go true true e false j = no_more (count id p (grant i q t)) (less (
            subst (λ (x : Process). count id p (grant i x t) ≡ (if is_id i id then k + 1 else k)) (sym (is_process_same q p e))
            (count-grant i p t id)
            ∙ ap (λ (x : Bool). if x then k + 1 else k) j
            ))
          where
            less : {n : ℕ} → n ≡ k → n ≤ k
            less x = omega (arith, x)
    eases (Rules.TakesBack f i q ack) m here h = go (is_process q p) refl
      where
        home : q.node ≡ f
        home = eqb-true q.node f (front_named o f a w (Letter.GiveBack i q ack) (C.named f a) m.front.1)

        go : (d : Bool) → is_process q p ≡ d → count id p (give_back i q t)
            ≤ settled id (lost (Some (record { sender = f; letter = Letter.GiveBack i q ack }))) k
        go false e = omega (
          arith,
          count-give_back_other i q id p t (pair_off i q id p e),
          ap (λ (xs : List Ask). settled id xs k) (unasked ((p.node == f) && (a == a)) (Letter.GiveBack i q ack)
              (other q e (if ack then Acks i else Backs i))),
        )
        go true e = by ack refl
          where
            same : count id p (give_back i q t) ≡ (if is_id i id then k - 1 else k)
            same = subst (λ (x : Process). count id p (give_back i x t) ≡ (if is_id i id then k - 1 else k))
                (sym (is_process_same q p e)) (count-give_back i p t (C.tables a) id)

            asked : (b : Bool) → lost (Some (record { sender = f; letter = Letter.GiveBack i q b }))
                ≡ (if b then Acks i else Backs i) ∷ []
            asked b = front f (Letter.GiveBack i q b) (if b then Acks i else Backs i)
                (sym home ∙ ap (λ (x : Process). x.node) (is_process_same q p e)) (mine q e (if b then Acks i else Backs i))

            by : (b : Bool) → ack ≡ b → count id p (give_back i q t)
                ≤ settled id (lost (Some (record { sender = f; letter = Letter.GiveBack i q ack }))) k
            by true j = omega (
              arith,
              same,
              ap (λ (x : Bool). settled id (lost (Some (record { sender = f; letter = Letter.GiveBack i q x }))) k) j,
              ap (λ (xs : List Ask). settled id xs k) (asked true),
            )
            by false j = omega (
              arith,
              same,
              ap (λ (x : Bool). settled id (lost (Some (record { sender = f; letter = Letter.GiveBack i q x }))) k) j,
              ap (λ (xs : List Ask). settled id xs k) (asked false),
            )
    eases (Rules.Releases f q) m here h = go (is_process q p) refl
      where
        home : q.node ≡ f
        home = eqb-true q.node f (front_named o f a w (Letter.ReleaseOf q) (C.named f a) m.front.1)

        goal : Type 0
        goal = count id p (locks_by (Rules.Releases f q) t)
            ≤ settled id (lost (Some (record { sender = f; letter = Letter.ReleaseOf q }))) k

        go : (d : Bool) → is_process q p ≡ d → goal
        go false e = omega (
          arith,
          count-drop_holder q id p t (is_process_swap q p e),
          ap (λ (xs : List Ask). settled id xs k)
              (unasked ((p.node == f) && (a == a)) (Letter.ReleaseOf q) (other q e Frees)),
        )
        go true e = no_free_front (view (call_at w p) a) (asks p m.front.1.0) (echoes p (w.links.queue a p.node))
            (subst (λ (us : List Ask). fits (view (call_at w p) a) us (echoes p (w.links.queue a p.node)) ≡ true) first
            (C.sessions p a living (m.inside, m.running)).fit)
          where
            first : asks p (w.links.queue p.node a) ≡ Frees ∷ asks p m.front.1.0
            first = ap (λ (x : ℕ). asks p (w.links.queue x a))
                (sym (sym home ∙ ap (λ (x : Process). x.node) (is_process_same q p e)))
                ∙ ap (asks p) m.front.1.1 ∙ ap (λ (xs : List Ask). xs ++ asks p m.front.1.0) (mine q e Frees)
    eases (Rules.IsTold f) m here h = omega (
      arith,
      count-drop_node f id p t (ne_eqb p.node f (λ x. cc (ap (left w) x, live.up, gone))),
      ap (λ (xs : List Ask). settled id xs k) (unasked ((p.node == f) && (a == a)) Letter.Down refl),
    )
      where
        gone : left w f ≡ true
        gone = (subst (Each (IsProper o w f a)) m.front.1.1 (P.letters f a m.running)).0.0
    eases (Rules.Drops f l) m here h = omega (
      arith,
      ap (λ (b : Bool). settled id (asks p (if b && (a == a) then l ∷ [] else [])) k) elsewhere,
    )
      where
        elsewhere : (p.node == f) ≡ false
        elsewhere = ne_eqb p.node f (λ x. cc (ap (left w) x, live.up, P.told_left a f m.running m.tested.0))
    eases (Rules.Ignores f l) m here h = omega (
      arith,
      ap (λ (xs : List Ask). settled id xs k) (unasked ((p.node == f) && (a == a)) l (none l m.tested.1)),
    )
      where
        none : (x : Letter) → awaits a (w.node a) f x ≡ false → ask_of p x ≡ []
        none (Letter.SetLock i q) e = cc
        none (Letter.GiveBack i q ack) e = cc
        none (Letter.ReleaseOf q) e = cc
        none _ e = refl
    eases r m here h = still (Rules.takes o a r) refl

    -- elsewhere nothing is taken
    read_there : (x : Option Taken) (y : ℕ) → (y ≡ a → ⊥) → read_on a x p.node y ≡ []
    read_there None y ne = refl
    read_there (Some x) y ne = ap (λ (b : Bool). if (p.node == x.sender) && b then x.letter ∷ [] else []) (ne_eqb y a ne)
        ∙ none (p.node == x.sender)
      where
        none : (b : Bool) → (if b && false then x.letter ∷ [] else []) ≡ []
        none true = refl
        none false = refl

    -- so at node c
    eases_at : (r : Rule) → May o a w r → is_taking a r ≡ false → count id p (at w.node a (turn_by o a w r).node c).locks
        ≤ settled id (asks p (read_on a (Rules.takes o a r) p.node c)) (count id p (w.node c).locks)
    eases_at r m h = elim (cases_eq c a) [
      | inl e ↦ subst (λ (y : ℕ). count id p (at w.node a (turn_by o a w r).node y).locks
          ≤ settled id (asks p (read_on a (Rules.takes o a r) p.node y)) (count id p (w.node y).locks)) (sym e)
          (subst (λ (v : Node). count id p v.locks ≤ settled id (lost (Rules.takes o a r)) k)
          (sym (at_same w.node a (turn_by o a w r).node))
          (subst (λ (x : Locks). count id p x ≤ settled id (lost (Rules.takes o a r)) k) (sym (parts o a w r).locks)
          (eases r m (sym e) h)))
      | inr ne ↦ omega (
        arith,
        ap (λ (v : Node). count id p v.locks) (at_other w.node a (turn_by o a w r).node c ne),
        ap (λ (ls : List Letter). settled id (asks p ls) (count id p (w.node c).locks)) (read_there (Rules.takes o a r) c ne),
      )
    ]

    -- and of all that is on its way
    turn_eases : (r : Rule) → May o a w r → is_taking a r ≡ false → left w c ≡ false
        → settles (turned a (Rules.takes o a r) (turn_by o a w r) w) ≤ settles w
    turn_eases r m h up = carried id (asks p (read_on a (Rules.takes o a r) p.node c))
        (asks p (sent_on a (turn_by o a w r) p.node c)) (asks p (w.links.queue p.node c))
        (asks p ((turned a (Rules.takes o a r) (turn_by o a w r) w).links.queue p.node c))
        (count id p (w.node c).locks) (count id p (at w.node a (turn_by o a w r).node c).locks)
        (all_moved (ask_of p) (read_on a (Rules.takes o a r) p.node c) (sent_on a (turn_by o a w r) p.node c)
        (w.links.queue p.node c) ((turned a (Rules.takes o a r) (turn_by o a w r) w).links.queue p.node c)
        (links_moved o a (Rules.takes o a r) (turn_by o a w r) w m.front p.node c up))
        (eases_at r m h)

    -- a rule makes it no more, unless it takes such a request
    pub rule_eases : (r : Rule) → May o a w r → is_taking a r ≡ false → left (effect o a r w) c ≡ false
        → settles (effect o a r w) ≤ settles w
    rule_eases Rules.Leaves m h up = by (c == a) refl up
      where
        by : (b : Bool) → (c == a) ≡ b → (if b then true else left w c) ≡ false
            → settles (effect o a Rules.Leaves w) ≤ settles w
        by true e x = cc
        by false e x = omega (
          arith,
          ap (λ (b : Bool). settled id
              (asks p (if b then [] else (turned a None (turn_by o a w Rules.Leaves) w).links.queue p.node c))
              (count id p (at w.node a (turn_by o a w Rules.Leaves).node c).locks)) e,
          turn_eases Rules.Leaves m h x,
        )
    rule_eases r m h up = turn_eases r m h (node_ran o a r w c up)
