-- A process's last deletion along chains of rules: while it is open, and where it ends.
use Rattle.std.proofs.Common.{ℕ, Bool, true, false, ◌==◌, ◌≡◌, ◌≤◌, Option, Some, None, List, [], ◌∷◌, refl, sym, ap, ◌∙◌, subst, inl, inr, arith}
use Rattle.std.specs.Prelude.{◌&&◌, ◌||◌, if◌then◌else◌}
use Rattle.std.specs.List.{list_all}
use Rattle.std.proofs.lemmas.Bool.{eqb-true, cases_eq}
use Rattle.std.proofs.lemmas.List.Folds.{list_any-append}
use Rattle.registry_model.specs.Process.{Process, is_process, Nodes, at}
use Rattle.registry_model.proofs.Updates.{at_other}
use Rattle.protocol_model.specs.Node.{LockPhase, LockCall}
use Rattle.protocol_model.specs.Client.{in_phase}
use Rattle.protocol_model.specs.World.{Opening, World, left}
use Rattle.moves.proofs.Rules
use Rattle.moves.proofs.Rules.{Rule, IsOpen, May, MayAll, effect, effects, turn_by, takes, answers_by}
use Rattle.moves.proofs.Invariants.{IsUp}
use Rattle.moves.proofs.Indices.{both, empty_at}
use Rattle.walk.proofs.ChainKinds.{Hearing, suits}
use Rattle.leftovers.proofs.Ids.{is_process_self}
use Rattle.leftovers.proofs.Sessions.{due_if, view}
use Rattle.leftovers.proofs.Clients.{Numbers, lives, live_parts, call_at, caller_lives}
use Rattle.leftovers.proofs.Calling.{below_bound}
use Rattle.leftovers.proofs.Numbers.{num_by}
use Rattle.leftovers.proofs.Answering.{is_true, any_true, not_true_answers}
use Rattle.leftovers.proofs.Ongoing.{is_deleting}
use Rattle.leftovers.proofs.Chains.{from_heard}
use Rattle.leftovers.proofs.Numbering.{last_effect}
use Rattle.lock_answers.proofs.Settled.{Stands, stands_keeps, node_ran, process_lived}
use Rattle.lock_answers.proofs.OpenDeletions.{Known, known_keeps, Next, Stayed, Lessened, Ended, view_deleting, lives_stays, drop_after, open_home, open_found, nums_stay, follows}

-- who lives behind a chain lived before it
pub lived_chain : (o : Opening) (a : ℕ) (rs : List Rule) (w : World) (p : Process) → lives o (effects o a rs w) p ≡ true
    → lives o w p ≡ true
lived_chain o a [] w p h = h
lived_chain o a (r ∷ rs) w p h = process_lived o a r w p (lived_chain o a rs (effect o a r w) p h)

-- an answer `true` under this number at this node
true_parts : (b c : Bool) → (((b && c) && true) || false) ≡ true → (b ≡ true) × (c ≡ true)
true_parts true true h = (refl, refl)
true_parts true false h = cc
true_parts false c h = cc

-- k: the number of p's last deletion; nodes: where it went
module _ (o : Opening) (p : Process) (k : ℕ) (nodes : Nodes) where
  -- what is known of it
  pub record Deletes (w : World) : Type 0 where
    -- its call is open as a deletion, and who doesn't owe has given p's lock back
    pub own : left w p.node ≡ false → (c : LockCall) → call_at w p ≡ Some c → c.number ≡ k
        → (owing : Nodes) × (c.phase ≡ LockPhase.Deleting owing)
        × ((x : ℕ) → IsUp o w x → nodes x ≡ true → owing x ≡ false → Stands w p x)
    -- no other call has its number
    pub alone : (q : Process) (c : LockCall) → q.node ≡ p.node → call_at w q ≡ Some c → c.number ≡ k → q ≡ p
    pub below : k ≤ (w.node p.node).last_call

  -- it has ended: all nodes have given back
  pub record IsDeleted (w : World) : Type 0 where
    pub ended : call_at w p ≡ None
    pub stands : (x : ℕ) → IsUp o w x → nodes x ≡ true → Stands w p x

  module _ (a : ℕ) where
    -- a rule by which an open deletion goes on
    module _ (r : Rule) (w : World) (num : Numbers) (K : Known o w num) (h : suits Hearing r ≡ true)
        (m : May o a w r) where
      known : Known o (effect o a r w) (num_by a r w num)
      known = known_keeps o a r w num K m

      -- a node where nothing lessens what p has, by a rule before which p's call is none or a deletion
      still : lives o (effect o a r w) p ≡ true → ((c : LockCall) → call_at w p ≡ Some c → is_deleting c.phase ≡ true)
          → (x : ℕ) → IsUp o (effect o a r w) x → (b b1 : Bool) → view (call_at w p) x ≡ due_if b
          → view (call_at (effect o a r w) p) x ≡ due_if b1 → Stands w p x → Stands (effect o a r w) p x
      still living busy x up b b1 v v1 S = stands_keeps o a w num K.clients p (process_lived o a r w p living) r m
          (num_by a r w num) known.clients living x up b b1 v v1
          (λ id. nums_stay o a w num K p r h m (lives_stays o (effect o a r w) p living) busy x id) S

      -- the one call that is open is a deletion
      one_busy : (c : LockCall) (owing : Nodes) → call_at w p ≡ Some c → c.phase ≡ LockPhase.Deleting owing
          → (d : LockCall) → call_at w p ≡ Some d → is_deleting d.phase ≡ true
      one_busy c owing e i d f =
          let same : c ≡ d = cc (e, f) in
          ap (λ (j : LockCall). is_deleting j.phase) (sym same) ∙ ap is_deleting i

      pub deletes_keeps : Deletes w → Deletes (effect o a r w)
      deletes_keeps D = record {
        own = own;
        alone = λ q c home e n.
            let F : (d : LockCall) × ((call_at w q ≡ Some d) × (d.number ≡ c.number)) =
            from_heard o a w num r h m K.ordered K.replying q c e in
            D.alone q F.0 home F.1.0 (F.1.1 ∙ n);
        below = omega (arith, D.below, last_effect o a w r p.node);
      }
        where
          own : left (effect o a r w) p.node ≡ false → (d : LockCall) → call_at (effect o a r w) p ≡ Some d
              → d.number ≡ k → (owing : Nodes) × (d.phase ≡ LockPhase.Deleting owing)
              × ((x : ℕ) → IsUp o (effect o a r w) x → nodes x ≡ true → owing x ≡ false
              → Stands (effect o a r w) p x)
          own up1 d e1 n1 = by_next (follows o a w num K p c owing found deleting (process_lived o a r w p living) r h m
              (lives_stays o (effect o a r w) p living))
            where
              living : lives o (effect o a r w) p ≡ true
              living = caller_lives o (effect o a r w) (num_by a r w num) known.clients p d up1 e1

              F : (c : LockCall) × ((call_at w p ≡ Some c) × (c.number ≡ d.number))
              F = from_heard o a w num r h m K.ordered K.replying p d e1

              c : LockCall
              c = F.0

              found : call_at w p ≡ Some c
              found = F.1.0

              before : (owing : Nodes) × (c.phase ≡ LockPhase.Deleting owing)
                  × ((x : ℕ) → IsUp o w x → nodes x ≡ true → owing x ≡ false → Stands w p x)
              before = D.own (node_ran o a r w p.node up1) c found (F.1.1 ∙ n1)

              owing : Nodes
              owing = before.0

              deleting : c.phase ≡ LockPhase.Deleting owing
              deleting = before.1

              at_node : (now : Nodes) → d.phase ≡ LockPhase.Deleting now → (x : ℕ) → IsUp o (effect o a r w) x
                  → Stands w p x → Stands (effect o a r w) p x
              at_node now e x up S = still living (one_busy c owing found deleting) x up (owing x) (now x)
                  (view_deleting c owing (call_at w p) found deleting x)
                  (view_deleting d now (call_at (effect o a r w) p) e1 e x) S

              by_next : Next o w p c owing (call_at (effect o a r w) p)
                  → (now : Nodes) × (d.phase ≡ LockPhase.Deleting now)
                  × ((x : ℕ) → IsUp o (effect o a r w) x → nodes x ≡ true → now x ≡ false
                  → Stands (effect o a r w) p x)
              by_next (Stayed s) =
                  let same : c ≡ d = cc (s, e1) in
                  let phase : d.phase ≡ LockPhase.Deleting owing = ap (λ (j : LockCall). j.phase) (sym same)
                  ∙ deleting in (
                    owing,
                    phase,
                    λ x up there free. at_node owing phase x up (before.2 x (up.0, node_ran o a r w x up.1) there free),
                  )
              by_next (Lessened f back s) =
                  let same : in_phase (LockPhase.Deleting (at owing f false)) c ≡ d = cc (s, e1) in
                  let phase : d.phase ≡ LockPhase.Deleting (at owing f false) =
                  ap (λ (j : LockCall). j.phase) (sym same) in (
                    at owing f false,
                    phase,
                    λ x up there free. at_node (at owing f false) phase x up (elim (cases_eq x f) [
                      | inl e ↦ subst (λ (y : ℕ). IsUp o w y → Stands w p y) (sym e) back (up.0, node_ran o a r w x up.1)
                      | inr ne ↦ before.2 x (up.0, node_ran o a r w x up.1) there
                          (sym (at_other owing f false x ne) ∙ free)
                    ]),
                  )
              by_next (Ended f back empty s) = absurd (cc (s, e1))

      pub deleted_keeps : lives o (effect o a r w) p ≡ true → IsDeleted w → IsDeleted (effect o a r w)
      deleted_keeps living E = record {
        ended = none (call_at (effect o a r w) p) refl;
        stands = λ x up there. still living (λ c e. cc (e, E.ended)) x up false false
            (ap (λ (j : Option LockCall). view j x) E.ended)
            (ap (λ (j : Option LockCall). view j x) (none (call_at (effect o a r w) p) refl))
            (E.stands x (up.0, node_ran o a r w x up.1) there);
      }
        where
          none : (j : Option LockCall) → call_at (effect o a r w) p ≡ j → call_at (effect o a r w) p ≡ None
          none None e = e
          none (Some d) e =
              let F : (c : LockCall) × ((call_at w p ≡ Some c) × (c.number ≡ d.number)) =
              from_heard o a w num r h m K.ordered K.replying p d e in
              cc (F.1.0, E.ended)

      -- the rule by which its call is answered `true`, and dropped
      closes : Deletes w → lives o (effect o a r w) p ≡ true → (d : LockCall) (now : LockPhase)
          → IsOpen (w.node a) d now → ((a == p.node) ≡ true) × ((d.number == k) ≡ true)
          → ((q : Process) → call_at (effect o a r w) q ≡ (if is_process d.holder q then None else call_at w q))
          → IsDeleted (effect o a r w)
      closes D living d now e parts calls = by_next (follows o a w num K p d owing found deleting
          (process_lived o a r w p living) r h m (lives_stays o (effect o a r w) p living))
        where
          same : d.holder ≡ p
          same = D.alone d.holder d (open_home o a w num K d now e ∙ eqb-true a p.node parts.0)
              (open_found o a w num K d now e) (eqb-true d.number k parts.1)

          found : call_at w p ≡ Some d
          found = subst (λ (q : Process). call_at w q ≡ Some d) same (open_found o a w num K d now e)

          gone : call_at (effect o a r w) p ≡ None
          gone = calls p ∙ ap (λ (b : Bool). if b then None else call_at w p)
              (subst (λ (q : Process). is_process d.holder q ≡ true) same (is_process_self d.holder))

          before : (owing : Nodes) × (d.phase ≡ LockPhase.Deleting owing)
              × ((x : ℕ) → IsUp o w x → nodes x ≡ true → owing x ≡ false → Stands w p x)
          before = D.own (live_parts o w p (process_lived o a r w p living)).up d found (eqb-true d.number k parts.1)

          owing : Nodes
          owing = before.0

          deleting : d.phase ≡ LockPhase.Deleting owing
          deleting = before.1

          by_next : Next o w p d owing (call_at (effect o a r w) p) → IsDeleted (effect o a r w)
          by_next (Stayed s) = absurd (cc (s, gone))
          by_next (Lessened f back s) = absurd (cc (s, gone))
          by_next (Ended f back empty s) = record {
            ended = s;
            stands = λ x up there. still living (one_busy d owing found deleting) x up (owing x) false
                (view_deleting d owing (call_at w p) found deleting x)
                (ap (λ (j : Option LockCall). view j x) s)
                (elim (cases_eq x f) [
                  | inl i ↦ subst (λ (y : ℕ). IsUp o w y → Stands w p y) (sym i) back (up.0, node_ran o a r w x up.1)
                  | inr ne ↦ before.2 x (up.0, node_ran o a r w x up.1) there
                      (sym (at_other owing f false x ne)
                      ∙ empty_at o.bound (at owing f false) empty x (below_bound o (effect o a r w) x up))
                ]);
          }

    ends : (r : Rule) (w : World) (num : Numbers) → Known o w num → suits Hearing r ≡ true → May o a w r → Deletes w
        → lives o (effect o a r w) p ≡ true → any_true p.node k (turn_by o a w r).answers ≡ true
        → IsDeleted (effect o a r w)
    ends (Rules.WinsLock d r) w num K h m D living t = closes (Rules.WinsLock d r) w num K h m D living d
        (LockPhase.Asking r) m.tested.0 (true_parts (a == p.node) (d.number == k) t)
        (drop_after o a w num K (Rules.WinsLock d r) None (turn_by o a w (Rules.WinsLock d r)) refl d
        (open_home o a w num K d (LockPhase.Asking r) m.tested.0) refl)
    ends (Rules.EndsDeletion f d owed) w num K h m D living t = closes (Rules.EndsDeletion f d owed) w num K h m D
        living d (LockPhase.Deleting owed) m.tested.1 (true_parts (a == p.node) (d.number == k) t)
        (drop_after o a w num K (Rules.EndsDeletion f d owed) (takes o a (Rules.EndsDeletion f d owed))
        (turn_by o a w (Rules.EndsDeletion f d owed)) refl d
        (open_home o a w num K d (LockPhase.Deleting owed) m.tested.1) refl)
    ends (Rules.EndsDeletionDown f d owed) w num K h m D living t = closes (Rules.EndsDeletionDown f d owed) w num K h
        m D living d (LockPhase.Deleting owed) m.tested.1 (true_parts (a == p.node) (d.number == k) t)
        (drop_after o a w num K (Rules.EndsDeletionDown f d owed) None
        (turn_by o a w (Rules.EndsDeletionDown f d owed)) refl d
        (open_home o a w num K d (LockPhase.Deleting owed) m.tested.1) refl)
    ends (Rules.DeletesNothing d) w num K h m D living t = cc
    ends r w num K h m D living t = absurd (cc (not_true_answers o a w p.node k r refl m K.replying, t))

    -- chains of such rules
    pub deletes_chain : (rs : List Rule) (w : World) (num : Numbers) → Known o w num
        → list_all (suits Hearing) rs ≡ true → MayAll o a rs w → Deletes w → Deletes (effects o a rs w)
    deletes_chain [] w num K h m D = D
    deletes_chain (r ∷ rs) w num K h m D =
        let parts : (suits Hearing r ≡ true) × (list_all (suits Hearing) rs ≡ true) = both (suits Hearing r)
        (list_all (suits Hearing) rs) h in
        deletes_chain rs (effect o a r w) (num_by a r w num) (known_keeps o a r w num K m.0) parts.1 m.1
        (deletes_keeps r w num K parts.0 m.0 D)

    deleted_chain : (rs : List Rule) (w : World) (num : Numbers) → Known o w num
        → list_all (suits Hearing) rs ≡ true → MayAll o a rs w → lives o (effects o a rs w) p ≡ true → IsDeleted w
        → IsDeleted (effects o a rs w)
    deleted_chain [] w num K h m living E = E
    deleted_chain (r ∷ rs) w num K h m living E =
        let parts : (suits Hearing r ≡ true) × (list_all (suits Hearing) rs ≡ true) = both (suits Hearing r)
        (list_all (suits Hearing) rs) h in
        deleted_chain rs (effect o a r w) (num_by a r w num) (known_keeps o a r w num K m.0) parts.1 m.1 living
        (deleted_keeps r w num K parts.0 m.0 (lived_chain o a rs (effect o a r w) p living) E)

    -- where the deletion is answered all nodes that run have given back, if its process lives then
    pub ends_chain : (rs : List Rule) (w : World) (num : Numbers) → Known o w num
        → list_all (suits Hearing) rs ≡ true → MayAll o a rs w → Deletes w → lives o (effects o a rs w) p ≡ true
        → any_true p.node k (answers_by o a rs w) ≡ true → IsDeleted (effects o a rs w)
    ends_chain [] w num K h m D living t = cc
    ends_chain (r ∷ rs) w num K h m D living t = go (any_true p.node k (turn_by o a w r).answers) refl
        (ends_chain rs (effect o a r w) (num_by a r w num))
      where
        parts : (suits Hearing r ≡ true) × (list_all (suits Hearing) rs ≡ true)
        parts = both (suits Hearing r) (list_all (suits Hearing) rs) h

        known1 : Known o (effect o a r w) (num_by a r w num)
        known1 = known_keeps o a r w num K m.0

        go : (b : Bool) → any_true p.node k (turn_by o a w r).answers ≡ b
            → (Known o (effect o a r w) (num_by a r w num) → list_all (suits Hearing) rs ≡ true
            → MayAll o a rs (effect o a r w) → Deletes (effect o a r w)
            → lives o (effects o a rs (effect o a r w)) p ≡ true
            → any_true p.node k (answers_by o a rs (effect o a r w)) ≡ true
            → IsDeleted (effects o a rs (effect o a r w))) → IsDeleted (effects o a (r ∷ rs) w)
        go true e later = deleted_chain rs (effect o a r w) (num_by a r w num) known1 parts.1 m.1 living
            (ends r w num K parts.0 m.0 D (lived_chain o a rs (effect o a r w) p living) e)
        go false e later = later known1 parts.1 m.1
            (deletes_keeps r w num K parts.0 m.0 D) living
            (sym (list_any-append (is_true p.node k) (turn_by o a w r).answers (answers_by o a rs (effect o a r w))
            ∙ ap (λ (b : Bool). b || any_true p.node k (answers_by o a rs (effect o a r w))) e) ∙ t)
