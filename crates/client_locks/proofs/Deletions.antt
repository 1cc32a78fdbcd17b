-- Each rule of a lock call keeps the sessions: deletions.
use Rattle.std.proofs.Common.{ℕ, Bool, true, false, ◌≡◌, Option, Some, None, List, [], ◌∷◌, ◌++◌, refl, sym, ap, ◌∙◌, subst, inl, inr}
use Rattle.std.specs.Prelude.{◌&&◌, nat_lt, if◌then◌else◌}
use Rattle.std.proofs.lemmas.Bool.{cases_eq, eq-eqb, ne_eqb, lt-ltb}
use Rattle.registry_model.specs.Process.{Process, is_process, Nodes, at}
use Rattle.protocol_model.specs.Letter.{Id, is_id, Letter}
use Rattle.protocol_model.specs.Round.{is_empty}
use Rattle.protocol_model.specs.Node.{LockPhase, LockCall, call_of, targets}
use Rattle.protocol_model.specs.Turn.{Turn, begun, keep_call, sent_to}
use Rattle.protocol_model.specs.Client.{in_phase, close_call, ask_back}
use Rattle.protocol_model.specs.World.{Opening, in_world, World, left}
use Rattle.moves.proofs.Rules.{Taken, FrontTaken, IsOpen, Ordered, DeletesLock, DeletesNothing}
use Rattle.moves.proofs.Invariants.{IsUp}
use Rattle.moves.proofs.Indices.{empty_at}
use Rattle.moves.proofs.Sends.{sent_to-all}
use Rattle.client_locks.proofs.Ids.{is_process_self}
use Rattle.client_locks.proofs.Calls.{call_of-drop}
use Rattle.client_locks.proofs.Sessions.{Acks, Echo, Backed, View, Idle, Due, due_if, view, Live}
use Rattle.client_locks.proofs.SessionMoves.{less_of, live_deletes, live_is_told}
use Rattle.client_locks.proofs.Mail.{echoes, read_on, turned, ask_of}
use Rattle.client_locks.proofs.Clients.{Numbers, lives, RoundedIn, Clients}
use Rattle.client_locks.proofs.Turns.{Hears, hears_nothing, hears_letter}
use Rattle.client_locks.proofs.Serving.{ask_give_back, ask_release, echo_given_back}
use Rattle.client_locks.proofs.Numbers.{num_by, less_if}
use Rattle.client_locks.proofs.Calling.{ups_of, downs_of, held_of, num_of, called, session_as, go_without, go_with, call_home, call_lives, call_view, calls_put, reads_here, reads_there, below_bound}
use Rattle.client_locks.proofs.LockRules.{no_one, rounded_next, rounded_none, not_told}
use Rattle.client_locks.proofs.LockEnds.{Begins, not_own, begin_home, begin_lives, begin_session, on_closes}

module _ (o : Opening) (a : ℕ) (w : World) (num : Numbers) (C : Clients o w num) (order : Ordered w)
    (inside : in_world o a ≡ true) (up_a : left w a ≡ false)
    (told_left : (d : ℕ) → (w.node a).replica.told d ≡ true → left w d ≡ true) where
  module _ (c : LockCall) (begins : Begins a (w.node a) c) where
    abbrev deleted_at : Nodes
    deleted_at = targets (w.node a).replica.members c.target

    abbrev fewer : Numbers
    fewer = num_by a (DeletesLock c) w num

    fewer_at : (x : ℕ) (i : Id) → fewer c.holder i x ≡ less_if (is_id c.id i && deleted_at x) (num c.holder i x)
    fewer_at x i = ap (λ (b : Bool). less_if (b && (is_id c.id i && deleted_at x)) (num c.holder i x))
        (is_process_self c.holder)

    none_less : (b : Bool) (k : ℕ) → less_if (b && false) k ≡ k
    none_less true k = refl
    none_less false k = refl

    one_less : (b : Bool) (k : ℕ) → less_if (b && true) k ≡ less_if b k
    one_less true k = refl
    one_less false k = refl

    others : (p : Process) (id : Id) (x : ℕ) → is_process c.holder p ≡ false → fewer p id x ≡ num p id x
    others p id x ne = ap (λ (b : Bool). less_if b (num p id x)) (not_own c.holder p (is_id c.id id && deleted_at x) ne)

    -- those nodes are to give the lock up
    pub on_deletes_lock : Clients o
        (turned a None (ask_back o.bound a c (targets (w.node a).replica.members c.target) (begun (w.node a))) w)
        (num_by a (DeletesLock c) w num)
    on_deletes_lock = called o a w num C None (ask_back o.bound a c deleted_at (begun (w.node a))) fewer tt c.holder
        (Some first) (Letter.GiveBack c.id c.holder true) (λ y. nat_lt y o.bound && deleted_at y) home living
        (record {
          calls = calls_put a w order first home;
          watch = refl;
          locks = refl;
          sent = sent_to-all o.bound
              deleted_at (Letter.GiveBack c.id c.holder true);
        })
        (ask_give_back c.id c.holder true) (hears_nothing a c.holder) (rounded_next first tt) others
        (λ x up downs2 e. by_test x up downs2 e (deleted_at x) refl)
      where
        home : c.holder.node ≡ a
        home = begin_home o a w num C order inside up_a c begins

        living : lives o w c.holder ≡ true
        living = begin_lives o a w num C order inside up_a c begins

        first : LockCall
        first = in_phase (LockPhase.Deleting deleted_at) c

        sends : (x : ℕ) → IsUp o w x → (t : Bool) → deleted_at x ≡ t → (nat_lt x o.bound && deleted_at x) ≡ t
        sends x up t e = rw (lt-ltb x o.bound (below_bound o w x up), e) refl

        by_test : (x : ℕ) → IsUp o w x → (downs2 : List Echo) → downs_of w c.holder x ≡ downs2 → (t : Bool)
            → deleted_at x ≡ t
            → Live (due_if (deleted_at x)) (ups_of w c.holder x ++ (if nat_lt x o.bound && deleted_at x then ask_of
            c.holder (Letter.GiveBack c.id c.holder true) else [])) downs2 (held_of w c.holder x)
            (num_of fewer c.holder x)
        by_test x up downs2 e true et = go_with o a w num C c.holder x Due (Letter.GiveBack c.id c.holder true)
            (Acks c.id) (λ y. nat_lt y o.bound && deleted_at y) (Some first) downs2 fewer
            (less_of c.id (num_of num c.holder x))
            (sends x up true et) (ap (λ (b : Bool). if b then Acks c.id ∷ [] else []) (is_process_self c.holder))
            (ap due_if et)
            (λ i. fewer_at x i ∙ ap (λ (b : Bool). less_if (is_id c.id i && b) (num c.holder i x)) et
            ∙ one_less (is_id c.id i) (num c.holder i x))
            (live_deletes (ups_of w c.holder x) downs2 (held_of w c.holder x) (num_of num c.holder x) c.id
            (begin_session o a w num C order inside up_a c begins x up downs2 e))
        by_test x up downs2 e false et = go_without o a w num C c.holder x Idle (Letter.GiveBack c.id c.holder true)
            (λ y. nat_lt y o.bound && deleted_at y) (Some first) downs2 fewer
            (sends x up false et) (ap due_if et)
            (λ i. fewer_at x i ∙ ap (λ (b : Bool). less_if (is_id c.id i && b) (num c.holder i x)) et
            ∙ none_less (is_id c.id i) (num c.holder i x))
            (begin_session o a w num C order inside up_a c begins x up downs2 e)

    -- there is no such node
    pub on_deletes_nothing : is_empty o.bound (targets (w.node a).replica.members c.target) ≡ true
        → Clients o (turned a None (close_call o.bound a c true (begun (w.node a))) w)
        (num_by a (DeletesNothing c) w num)
    on_deletes_nothing empty = on_closes o a w num C order inside up_a c begins true fewer others
        (λ i x up. fewer_at x i ∙ ap (λ (b : Bool). less_if (is_id c.id i && b) (num c.holder i x))
        (empty_at o.bound deleted_at empty x (below_bound o w x up)) ∙ none_less (is_id c.id i) (num c.holder i x))

  module _ (c : LockCall) (owing : Nodes) (open_call : IsOpen (w.node a) c (LockPhase.Deleting owing)) where
    home : c.holder.node ≡ a
    home = call_home o a w num C order up_a c (LockPhase.Deleting owing) open_call

    living : lives o w c.holder ≡ true
    living = call_lives o a w num C order up_a c (LockPhase.Deleting owing) open_call

    stood : (x : ℕ) (b : Bool) → owing x ≡ b → IsUp o w x → (ds : List Echo) → downs_of w c.holder x ≡ ds
        → Live (due_if b) (ups_of w c.holder x) ds (held_of w c.holder x) (num_of num c.holder x)
    stood x b k up ds e = session_as o a w num C c.holder x living up (due_if b) ds
        (call_view o a w num C order up_a c (LockPhase.Deleting owing) open_call x ∙ ap due_if k) e

    -- the deletion goes on to this, where each session goes on to it
    goes_to : (t : Option Taken) (next : Option LockCall) (u : Turn) → FrontTaken o a w t
        → ((p : Process) → call_of p u.node.calls ≡ (if is_process c.holder p then next else call_of p
        (w.node a).calls))
        → u.node.watch ≡ (w.node a).watch → u.node.locks ≡ (w.node a).locks → u.sends ≡ [] → Hears a c.holder t
        → ((k : LockCall) → next ≡ Some k → RoundedIn k.phase)
        → ((x : ℕ) → IsUp o w x → (downs2 : List Echo) → downs_of w c.holder x ≡ echoes c.holder
        (read_on a t x c.holder.node) ++ downs2 → Live (view next x) (ups_of w c.holder x) downs2
        (held_of w c.holder x) (num_of num c.holder x))
        → Clients o (turned a t u w) num
    goes_to t next u front calls watch locks sends hears rounded each = called o a w num C t u num front c.holder next
        (Letter.ReleaseOf c.holder) no_one home living
        (record { calls = calls; watch = watch; locks = locks; sent = λ y. ap (sent_to y) sends })
        (ask_release c.holder) hears rounded (λ p id x ne. refl)
        (λ x up downs2 e. go_without o a w num C c.holder x (view next x)
        (Letter.ReleaseOf c.holder) no_one next downs2 num refl refl (λ i. refl) (each x up downs2 e))

    module _ (f : ℕ) (owed : owing f ≡ true) (front : FrontTaken o a w
        (Some (record { sender = f; letter = Letter.GivenBack c.holder }))) where
      abbrev acknowledgement : Option Taken
      acknowledgement = Some (record { sender = f; letter = Letter.GivenBack c.holder })

      -- f's own session
      told : IsUp o w f → (downs2 : List Echo) → downs_of w c.holder f ≡ echoes c.holder
          (read_on a acknowledgement f c.holder.node) ++ downs2
          → Live Idle (ups_of w c.holder f) downs2 (held_of w c.holder f) (num_of num c.holder f)
      told up downs2 e =
          let first : downs_of w c.holder f ≡ Backed ∷ downs2 = e ∙ ap (λ (es : List Echo). es ++ downs2)
          (reads_here a f c.holder (Letter.GivenBack c.holder) home) ∙ ap
          (λ (b : Bool). (if b then Backed ∷ [] else []) ++ downs2) (is_process_self c.holder) in
          live_is_told (ups_of w c.holder f) downs2 (held_of w c.holder f) (num_of num c.holder f)
          (stood f true owed up (Backed ∷ downs2) first)

      -- that of any other node
      untold : (x : ℕ) → (x ≡ f → ⊥) → (b : Bool) → owing x ≡ b → IsUp o w x → (downs2 : List Echo)
          → downs_of w c.holder x ≡ echoes c.holder (read_on a acknowledgement x c.holder.node) ++ downs2
          → Live (due_if b) (ups_of w c.holder x) downs2 (held_of w c.holder x) (num_of num c.holder x)
      untold x ne b k up downs2 e = stood x b k up downs2 (e ∙ ap (λ (es : List Echo). es ++ downs2)
          (reads_there a f c.holder (Letter.GivenBack c.holder) x ne))

      -- each session, where one view stands at f and each other keeps its own
      each_view : (v : ℕ → View) → v f ≡ Idle → ((x : ℕ) → (x ≡ f → ⊥) → IsUp o w x → v x ≡ due_if (owing x)) → (x : ℕ)
          → IsUp o w x → (downs2 : List Echo)
          → downs_of w c.holder x ≡ echoes c.holder (read_on a acknowledgement x c.holder.node) ++ downs2
          → Live (v x) (ups_of w c.holder x) downs2 (held_of w c.holder x) (num_of num c.holder x)
      each_view v here there x = elim (cases_eq x f) [
        | inl k ↦ subst (λ (y : ℕ). IsUp o w y → (downs2 : List Echo)
            → downs_of w c.holder y ≡ echoes c.holder (read_on a acknowledgement y c.holder.node) ++ downs2
            → Live (v y) (ups_of w c.holder y) downs2 (held_of w c.holder y) (num_of num c.holder y)) (sym k)
            (λ up downs2 e. subst (λ (i : View). Live i (ups_of w c.holder f) downs2 (held_of w c.holder f)
            (num_of num c.holder f)) (sym here) (told up downs2 e))
        | inr ne ↦ (λ up downs2 e. subst (λ (i : View). Live i (ups_of w c.holder x) downs2 (held_of w c.holder x)
            (num_of num c.holder x)) (sym (there x ne up)) (untold x ne (owing x) refl up downs2 e))
      ]

      pub on_counts_given_back : Clients o (turned a acknowledgement
          (keep_call (in_phase (LockPhase.Deleting (at owing f false)) c) (begun (w.node a))) w) num
      on_counts_given_back = goes_to acknowledgement (Some (in_phase (LockPhase.Deleting (at owing f false)) c))
          (keep_call (in_phase (LockPhase.Deleting (at owing f false)) c) (begun (w.node a))) front
          (calls_put a w order (in_phase (LockPhase.Deleting (at owing f false)) c) home) refl refl refl
          (hears_letter a f c.holder (Letter.GivenBack c.holder) (echo_given_back c.holder))
          (rounded_next (in_phase (LockPhase.Deleting (at owing f false)) c) tt)
          (each_view (λ x. due_if (at owing f false x)) (ap (λ (b : Bool). due_if (if b then false else owing f))
          (eq-eqb f f refl))
          (λ x ne up. ap (λ (b : Bool). due_if (if b then false else owing x)) (ne_eqb x f ne)))

      pub on_ends_deletion : is_empty o.bound (at owing f false) ≡ true
          → Clients o (turned a acknowledgement (close_call o.bound a c true (begun (w.node a))) w) num
      on_ends_deletion empty = goes_to acknowledgement None (close_call o.bound a c true (begun (w.node a))) front
          (λ p. call_of-drop p c.holder (w.node a).calls) refl refl refl
          (hears_letter a f c.holder (Letter.GivenBack c.holder) (echo_given_back c.holder)) rounded_none
          (each_view (λ x. Idle) refl
          (λ x ne up. sym (ap due_if (sym (ap (λ (b : Bool). if b then false else owing x) (ne_eqb x f ne))
          ∙ empty_at o.bound (at owing f false) empty x (below_bound o w x up)))))

    -- d has gone down, so it is none of the nodes that run
    module _ (d : ℕ) (gone : (w.node a).replica.told d ≡ true) where
      pub on_counts_lock_down : Clients o
          (turned a None (keep_call (in_phase (LockPhase.Deleting (at owing d false)) c) (begun (w.node a))) w) num
      on_counts_lock_down = goes_to None (Some (in_phase (LockPhase.Deleting (at owing d false)) c))
          (keep_call (in_phase (LockPhase.Deleting (at owing d false)) c) (begun (w.node a))) tt
          (calls_put a w order (in_phase (LockPhase.Deleting (at owing d false)) c) home) refl refl refl
          (hears_nothing a c.holder)
          (rounded_next (in_phase (LockPhase.Deleting (at owing d false)) c) tt)
          (λ x up downs2 e. stood x (at owing d false x)
          (sym (ap (λ (b : Bool). if b then false else owing x) (ne_eqb x d
          (not_told o a w num C order up_a told_left x d up gone)))) up downs2 e)

      pub on_ends_deletion_down : is_empty o.bound (at owing d false) ≡ true
          → Clients o (turned a None (close_call o.bound a c true (begun (w.node a))) w) num
      on_ends_deletion_down empty = goes_to None None (close_call o.bound a c true (begun (w.node a))) tt
          (λ p. call_of-drop p c.holder (w.node a).calls) refl refl refl (hears_nothing a c.holder) rounded_none
          (λ x up downs2 e. stood x false
          (sym (ap (λ (b : Bool). if b then false else owing x) (ne_eqb x d
          (not_told o a w num C order up_a told_left x d up gone))) ∙ empty_at o.bound
          (at owing d false) empty x (below_bound o w x up)) up downs2 e)
