-- A departure is told to all lock calls of a node: none counts the node as granted then, and who is answered `true`
-- asked somebody else.
use mathlib.Core.Logic.{◌⊎◌}
use Rattle.std.proofs.Common.{ℕ, Bool, true, false, ◌≡◌, ◌<◌, Some, None, List, [], ◌∷◌, refl, sym, ap, ◌∙◌, subst, inl, inr}
use Rattle.std.specs.Prelude.{fold, Contains, if◌then◌else◌}
use Rattle.std.proofs.lemmas.Bool.{cases_eq, eqb-true}
use Rattle.std.proofs.lemmas.List.Elements.{Contains-push_cases}
use Rattle.registry_model.specs.Process.{Process, is_process, Nodes, at}
use Rattle.registry_model.specs.Registry.{Replica}
use Rattle.registry_model.specs.Call.{True, False}
use Rattle.protocol_model.specs.Round.{Round, is_empty, asked, granted, down, is_over, Ending, Held, GiveBack, ending}
use Rattle.protocol_model.specs.Node.{LockPhase, LockCall, call_of, put_call, drop_call}
use Rattle.protocol_model.specs.Event.{Answer}
use Rattle.protocol_model.specs.Turn.{Turn, keep_call}
use Rattle.protocol_model.specs.Client.{is_spent, in_phase, close_call, give_lock, end_lock_by, go_on_lock, owe_less_in, lose_node_in}
use Rattle.protocol_model.specs.Answers.{answer_to}
use Rattle.protocol_model.specs.World.{Opening}
use Rattle.moves.proofs.Rules.{is_ordered}
use Rattle.walk.proofs.LockRounds.{IsOwn}
use Rattle.walk.proofs.Calls.{is_ordered-drop_call, is_ordered-put_call}
use Rattle.leftovers.proofs.Calls.{call_of-put, call_of-drop, holder_of_call}
use Rattle.leftovers.proofs.Ids.{is_process_self}
use Rattle.leftovers.proofs.Ongoing.{is_deleting}
use Rattle.leftovers.proofs.Rest.{Among, ToldMore}
use Rattle.leftovers.proofs.Ongoing.{asked_down}
use Rattle.lock_answers.proofs.Clear.{ClearIn, granted_down, granted_gone, granted_asked}
use Rattle.lock_answers.proofs.Winning.{held_some}

-- no open call counts one of these as granted, but for those that aren't told yet
pub record ClearBut (a : ℕ) (told : Nodes) (ks but : List LockCall) : Type 0 where
  pub sorted : is_ordered a ks ≡ true
  pub calls : (p : Process) (c : LockCall) → call_of p ks ≡ Some c → ClearIn told c.phase ⊎ Among but c

module _ (a : ℕ) (told : Nodes) (ks : List LockCall) where
  -- a call that is put in the place of one of those
  put_clear : (c d : LockCall) (cs : List LockCall) → d.holder ≡ c.holder → IsOwn a d.holder → ClearIn told d.phase
      → ClearBut a told ks (c ∷ cs) → ClearBut a told (put_call d ks) cs
  put_clear c d cs same own ok C = record {
    sorted = is_ordered-put_call a d ks own.0 own.1 C.sorted;
    calls = λ p x e. go p x (is_process d.holder p) refl
        (sym (call_of-put a p d ks (eqb-true d.holder.node a own.0) C.sorted) ∙ e);
  }
    where
      go : (p : Process) (x : LockCall) (b : Bool) → is_process d.holder p ≡ b
          → (if b then Some d else call_of p ks) ≡ Some x → ClearIn told x.phase ⊎ Among cs x
      go p x true k e = let is : d ≡ x = cc e in inl (subst (λ (y : LockCall). ClearIn told y.phase) is ok)
      go p x false k e = elim (C.calls p x e) [
        | inl h ↦ inl h
        | inr i ↦ other i
      ]
        where
          other : Among (c ∷ cs) x → ClearIn told x.phase ⊎ Among cs x
          other (inl h) =
              let here : d.holder ≡ p = same ∙ ap (λ (y : LockCall). y.holder) (sym h) ∙ holder_of_call p ks x e in
              absurd (cc (ap (is_process d.holder) (sym here), is_process_self d.holder, k))
          other (inr h) = inr h

  -- one more that is put
  more_clear : (d : LockCall) (cs : List LockCall) → IsOwn a d.holder → ClearIn told d.phase
      → ClearBut a told ks cs → ClearBut a told (put_call d ks) cs
  more_clear d cs own ok C = record {
    sorted = is_ordered-put_call a d ks own.0 own.1 C.sorted;
    calls = λ p x e. go p x (is_process d.holder p)
        (sym (call_of-put a p d ks (eqb-true d.holder.node a own.0) C.sorted) ∙ e);
  }
    where
      go : (p : Process) (x : LockCall) (b : Bool) → (if b then Some d else call_of p ks) ≡ Some x
          → ClearIn told x.phase ⊎ Among cs x
      go p x true e = let is : d ≡ x = cc e in inl (subst (λ (y : LockCall). ClearIn told y.phase) is ok)
      go p x false e = C.calls p x e

  drop_clear : (q : Process) (cs : List LockCall) → ClearBut a told ks cs → ClearBut a told (drop_call q ks) cs
  drop_clear q cs C = record {
    sorted = is_ordered-drop_call a q ks C.sorted;
    calls = λ p x e. go p x (is_process q p) (sym (call_of-drop p q ks) ∙ e);
  }
    where
      go : (p : Process) (x : LockCall) (b : Bool) → (if b then None else call_of p ks) ≡ Some x
          → ClearIn told x.phase ⊎ Among cs x
      go p x true e = cc
      go p x false e = C.calls p x e

  -- a call that is clear needs no excuse
  unexcused : (c : LockCall) (cs : List LockCall) → ClearIn told c.phase → ClearBut a told ks (c ∷ cs)
      → ClearBut a told ks cs
  unexcused c cs ok C = record {
    sorted = C.sorted;
    calls = λ p x e. elim (C.calls p x e) [
      | inl h ↦ inl h
      | inr i ↦ other x i
    ];
  }
    where
      other : (x : LockCall) → Among (c ∷ cs) x → ClearIn told x.phase ⊎ Among cs x
      other x (inl h) = inl (subst (λ (y : LockCall). ClearIn told y.phase) (sym h) ok)
      other x (inr h) = inr h

-- the call has a round that asks x
abbrev pub asks_in : ℕ → LockPhase → Bool
asks_in x (LockPhase.Asking r) = asked r x
asks_in x _ = false

-- the answer is `true` to this call, which is a deletion, or asks somebody who wasn't told to have left
abbrev pub WinsBy : ℕ → Nodes → LockCall → Answer → Type 0
WinsBy a told c s = (answer_to a c.number True ≡ s)
    × ((is_deleting c.phase ≡ true) ⊎ ((x : ℕ) × (asks_in x c.phase ≡ true) × (told x ≡ false)))

-- one call was told: u before, v behind
record Lost (a : ℕ) (c : LockCall) (cs : List LockCall) (u v : Turn) : Type 0 where
  clear : ClearBut a u.node.replica.told v.node.calls cs
  replica : v.node.replica ≡ u.node.replica
  given : (s : Answer) → Contains v.answers s → s.reply ≡ True
      → Contains u.answers s ⊎ WinsBy a u.node.replica.told c s

-- all of these were told
pub record LostAll (a : ℕ) (cs : List LockCall) (u v : Turn) : Type 0 where
  pub clear : ClearBut a u.node.replica.told v.node.calls []
  pub replica : v.node.replica ≡ u.node.replica
  pub given : (s : Answer) → Contains v.answers s → s.reply ≡ True
      → Contains u.answers s ⊎ ((c : LockCall) × Among cs c × WinsBy a u.node.replica.told c s)

module _ (o : Opening) (a : ℕ) (told : Nodes) (d : ℕ) where
  module _ (c : LockCall) (r : Round) (u : Turn) (cs : List LockCall) (phase : c.phase ≡ LockPhase.Asking r)
      (own : IsOwn a c.holder) (C : ClearIn told (LockPhase.Asking r)) (more : ToldMore d told u.node.replica.told)
      (B : ClearBut a u.node.replica.told u.node.calls (c ∷ cs)) where
    abbrev now : LockCall
    now = in_phase (LockPhase.Asking (down d r)) c

    clear_now : (x : ℕ) → u.node.replica.told x ≡ true → granted (down d r) x ≡ false
    clear_now x h = elim (cases_eq x d) [
      | inl e ↦ subst (λ (y : ℕ). granted (down d r) y ≡ false) (sym e) (granted_gone d r)
      | inr ne ↦ elim (more x h) [
        | inl e ↦ absurd (ne e)
        | inr k ↦ granted_down d r x (C x k)
      ]
    ]

    kept : ClearBut a u.node.replica.told (put_call now u.node.calls) cs
    kept = put_clear a u.node.replica.told u.node.calls c now cs refl own clear_now B

    wins : ending o.bound (asked (down d r)) (down d r) ≡ Held
        → (x : ℕ) × (asks_in x c.phase ≡ true) × (u.node.replica.told x ≡ false)
    wins e =
        let one : (x : ℕ) × (x < o.bound) × (granted (down d r) x ≡ true) =
        held_some o.bound (asked (down d r)) (down d r) e in (
          one.0,
          ap (asks_in one.0) phase ∙ sym (asked_down d r one.0) ∙ granted_asked (down d r) one.0 one.2,
          untold one.0 one.2 (u.node.replica.told one.0) refl,
        )
      where
        untold : (x : ℕ) → granted (down d r) x ≡ true → (b : Bool) → u.node.replica.told x ≡ b → b ≡ false
        untold x g true e = cc (clear_now x e, g)
        untold x g false e = refl

    -- the call goes on, or ends
    go_on_lost : Lost a c cs u (go_on_lock o.bound a c (down d r) u)
    go_on_lost = go (is_over o.bound (down d r))
      where
        refused : (given : Nodes) (b : Bool) → Lost a c cs u
            (if b then close_call o.bound a now false (give_lock o.bound a now given (keep_call now u))
            else keep_call (in_phase LockPhase.Waiting now) (give_lock o.bound a now given (keep_call now u)))
        refused given true = record {
          clear = drop_clear a u.node.replica.told (put_call now u.node.calls) c.holder cs kept;
          replica = refl;
          given = λ s h t. elim (Contains-push_cases u.answers (answer_to a c.number False) s h) [
            | inl k ↦ inl k
            | inr e ↦ absurd (cc (ap (λ (x : Answer). x.reply) e ∙ t))
          ];
        }
        refused given false = record {
          clear = more_clear a u.node.replica.told (put_call now u.node.calls) (in_phase LockPhase.Waiting now) cs own
              tt kept;
          replica = refl;
          given = λ s h t. inl h;
        }

        ends : (x : Ending) → ending o.bound (asked (down d r)) (down d r) ≡ x
            → Lost a c cs u (end_lock_by o.bound a x now (keep_call now u))
        ends Held e = record {
          clear = drop_clear a u.node.replica.told (put_call now u.node.calls) c.holder cs kept;
          replica = refl;
          given = λ s h t. elim (Contains-push_cases u.answers (answer_to a c.number True) s h) [
            | inl k ↦ inl k
            | inr i ↦ inr (i, inr (wins e))
          ];
        }
        ends (GiveBack given) e = refused given (is_spent c.retries)

        go : (b : Bool) → Lost a c cs u (if b then end_lock_by o.bound a
            (ending o.bound (asked (down d r)) (down d r)) now (keep_call now u) else keep_call now u)
        go true = ends (ending o.bound (asked (down d r)) (down d r)) refl
        go false = record { clear = kept; replica = refl; given = λ s h t. inl h }

  -- a deletion waits for one less, or ends
  owe_lost : (c : LockCall) (owing : Nodes) (u : Turn) (cs : List LockCall) → c.phase ≡ LockPhase.Deleting owing
      → IsOwn a c.holder → ClearBut a u.node.replica.told u.node.calls (c ∷ cs)
      → Lost a c cs u (owe_less_in o.bound a d (LockPhase.Deleting owing) c u)
  owe_lost c owing u cs phase own B = go (owing d) (is_empty o.bound (at owing d false))
    where
      free : ClearBut a u.node.replica.told u.node.calls cs
      free = unexcused a u.node.replica.told u.node.calls c cs
          (subst (ClearIn u.node.replica.told) (sym phase) tt) B

      go : (b e : Bool) → Lost a c cs u (if b then (if e then close_call o.bound a c true u
          else keep_call (in_phase (LockPhase.Deleting (at owing d false)) c) u) else u)
      go true true = record {
        clear = drop_clear a u.node.replica.told u.node.calls c.holder cs free;
        replica = refl;
        given = λ s h t. elim (Contains-push_cases u.answers (answer_to a c.number True) s h) [
          | inl k ↦ inl k
          | inr i ↦ inr (i, inl (ap is_deleting phase))
        ];
      }
      go true false = record {
        clear = more_clear a u.node.replica.told u.node.calls
            (in_phase (LockPhase.Deleting (at owing d false)) c) cs own tt free;
        replica = refl;
        given = λ s h t. inl h;
      }
      go false e = record { clear = free; replica = refl; given = λ s h t. inl h }

  -- any call
  lose_lost : (phase : LockPhase) (c : LockCall) (u : Turn) (cs : List LockCall) → c.phase ≡ phase → IsOwn a c.holder
      → ClearIn told phase → ToldMore d told u.node.replica.told
      → ClearBut a u.node.replica.told u.node.calls (c ∷ cs) → Lost a c cs u (lose_node_in o.bound a d phase c u)
  lose_lost (LockPhase.Asking r) c u cs e own C more B = go_on_lost c r u cs e own C more B
  lose_lost (LockPhase.Deleting owing) c u cs e own C more B = owe_lost c owing u cs e own B
  lose_lost LockPhase.Waiting c u cs e own C more B = record {
    clear = unexcused a u.node.replica.told u.node.calls c cs (subst (ClearIn u.node.replica.told) (sym e) tt) B;
    replica = refl;
    given = λ s h t. inl h;
  }

  -- these calls are clear, and are of this node
  abbrev pub ClearAll : List LockCall → Type 0
  ClearAll [] = Unit {0}
  ClearAll (c ∷ cs) = (ClearIn told c.phase × IsOwn a c.holder) × ClearAll cs

  pub all_lost : (cs : List LockCall) (u : Turn) → ClearAll cs → ToldMore d told u.node.replica.told
      → ClearBut a u.node.replica.told u.node.calls cs
      → LostAll a cs u (fold (λ turn c. lose_node_in o.bound a d c.phase c turn) u cs)
  all_lost [] u all more B = record { clear = B; replica = refl; given = λ s h t. inl h }
  all_lost (c ∷ cs) u all more B =
      join (all_lost cs (lose_node_in o.bound a d c.phase c u) all.1
      (subst (λ (x : Replica). ToldMore d told x.told) (sym one.replica) more)
      (subst (λ (x : Replica). ClearBut a x.told (lose_node_in o.bound a d c.phase c u).node.calls cs)
      (sym one.replica) one.clear))
    where
      v : Turn
      v = lose_node_in o.bound a d c.phase c u

      one : Lost a c cs u (lose_node_in o.bound a d c.phase c u)
      one = lose_lost c.phase c u cs refl all.0.1 all.0.0 more B

      join : LostAll a cs (lose_node_in o.bound a d c.phase c u)
          (fold (λ turn c. lose_node_in o.bound a d c.phase c turn) (lose_node_in o.bound a d c.phase c u) cs)
          → LostAll a (c ∷ cs) u
          (fold (λ turn c. lose_node_in o.bound a d c.phase c turn) (lose_node_in o.bound a d c.phase c u) cs)
      join L = record {
        clear = subst (λ (x : Replica). ClearBut a x.told (fold (λ turn c. lose_node_in o.bound a d c.phase c turn)
            (lose_node_in o.bound a d c.phase c u) cs).node.calls []) one.replica L.clear;
        replica = L.replica ∙ one.replica;
        given = λ s h t. elim (L.given s h t) [
          | inl k ↦ elim (one.given s k t) [
            | inl i ↦ inl i
            | inr i ↦ inr (c, inl refl, i)
          ]
          | inr k ↦ inr (k.0, inr k.1, subst (λ (x : Replica). WinsBy a x.told k.0 s) one.replica k.2)
        ];
      }
