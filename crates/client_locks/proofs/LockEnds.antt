-- Each rule of a lock call keeps the sessions: how a call begins, and how its round ends.
use Rattle.std.proofs.Common.{ℕ, Bool, true, false, ◌==◌, ◌≡◌, ◌<◌, Option, Some, None, List, [], ◌∷◌, ◌++◌, refl, sym, ap, ◌∙◌, subst, inl, inr}
use Rattle.std.specs.Prelude.{not, ◌&&◌, nat_lt, if◌then◌else◌}
use Rattle.std.proofs.lemmas.Bool.{eqb-true, eq-eqb, lt-ltb}
use mathlib.Core.Logic.{◌⊎◌}
use Rattle.registry_model.specs.Process.{Process, is_process, Nodes}
use Rattle.protocol_model.specs.Letter.{Id, is_id, Letter}
use Rattle.protocol_model.specs.Round.{Mark, Out, Later, Owes, Granted, Refused, Lost, Gone, Round, is_empty, greatest, is_out, is_owes, is_refused, begin, asked, is_over, Held, GiveBack, ending, is_granted}
use Rattle.protocol_model.specs.Watch.{is_dead}
use Rattle.protocol_model.specs.Node.{Node, LockPhase, LockCall, call_of, targets}
use Rattle.protocol_model.specs.Turn.{begun, keep_call}
use Rattle.protocol_model.specs.Client.{in_phase, close_call, ask_lock, give_lock, refuse_lock, is_spent}
use Rattle.protocol_model.specs.World.{Opening, in_world, World, left}
use Rattle.moves.proofs.Rules.{IsOpen, IsNew, IsRetried, Ordered, WinsLock}
use Rattle.moves.proofs.Invariants.{IsUp}
use Rattle.moves.proofs.Indices.{both, not_true, greatest_in, some_of}
use Rattle.moves.proofs.Sends.{sent_to-one, sent_to-all}
use Rattle.client_locks.proofs.Ids.{is_process_self}
use Rattle.client_locks.proofs.Calls.{call_of-drop, home_of_call}
use Rattle.client_locks.proofs.Rounds.{Rounded, rounded_begin, is_past, over_owes, held_marks, given_back}
use Rattle.client_locks.proofs.Sessions.{Takes, Backs, Echo, Idle, Owed, view, view_of, view_in, Live}
use Rattle.client_locks.proofs.SessionMoves.{more_of, live_asks, live_gives, live_wins, live_lets_go}
use Rattle.client_locks.proofs.Mail.{turned, ask_of}
use Rattle.client_locks.proofs.Clients.{Numbers, lives, lives_by, call_at, Clients, caller_lives}
use Rattle.client_locks.proofs.Turns.{hears_nothing}
use Rattle.client_locks.proofs.Serving.{ask_set_lock, ask_give_back, ask_release}
use Rattle.client_locks.proofs.Numbers.{num_by, plus_if}
use Rattle.client_locks.proofs.Calling.{ups_of, downs_of, held_of, num_of, called, session_as, go_without, go_counting, go_with, call_home, call_lives, call_view, call_rounded, calls_put, below_bound}
use Rattle.client_locks.proofs.LockRules.{no_one, rounded_next, rounded_none, not_down}

-- a call that isn't open, or was refused and is tried again
abbrev pub Begins : ℕ → Node → LockCall → Type 0
Begins a v c = IsNew a v c ⊎ IsRetried v c

-- a test of nobody but q
pub not_own : (q p : Process) (b : Bool) → is_process q p ≡ false → (is_process q p && b) ≡ false
not_own q p b e = rw e refl

module _ (o : Opening) (a : ℕ) (w : World) (num : Numbers) (C : Clients o w num) (order : Ordered w)
    (inside : in_world o a ≡ true) (up_a : left w a ≡ false) where
  module _ (c : LockCall) (r : Round) (open_call : IsOpen (w.node a) c (LockPhase.Asking r))
      (over : is_over o.bound r ≡ true) where
    home : c.holder.node ≡ a
    home = call_home o a w num C order up_a c (LockPhase.Asking r) open_call

    living : lives o w c.holder ≡ true
    living = call_lives o a w num C order up_a c (LockPhase.Asking r) open_call

    rounded : Rounded r
    rounded = call_rounded o a w num C order up_a c (LockPhase.Asking r) open_call

    stood : (x : ℕ) (m : Mark) → r.mark x ≡ m → IsUp o w x → (downs2 : List Echo) → downs_of w c.holder x ≡ downs2
        → Live (view_of c.id m) (ups_of w c.holder x) downs2 (held_of w c.holder x) (num_of num c.holder x)
    stood x m k up downs2 e = session_as o a w num C c.holder x living up (view_of c.id m) downs2
        (call_view o a w num C order up_a c (LockPhase.Asking r) open_call x ∙ ap (view_of c.id) k) e

    abbrev won : Numbers
    won = num_by a (WinsLock c r) w num

    -- the round is held
    pub on_wins_lock : ending o.bound (asked r) r ≡ Held → Clients o
        (turned a None (close_call o.bound a c true (begun (w.node a))) w) (num_by a (WinsLock c r) w num)
    on_wins_lock held = called o a w num C None (close_call o.bound a c true (begun (w.node a))) won tt c.holder None
        (Letter.ReleaseOf c.holder) no_one home living
        (record { calls = λ p. call_of-drop p c.holder (w.node a).calls; watch = refl; locks = refl; sent = λ y. refl })
        (ask_release c.holder) (hears_nothing a c.holder) rounded_none
        (λ p id x ne. ap (λ (b : Bool). plus_if b (num p id x)) (not_own c.holder p (is_id c.id id && asked r x) ne))
        (λ x up downs2 e. by_mark x (r.mark x) refl up (held_marks o.bound (asked r) r rounded held x
        (below_bound o w x up)) (over_owes o.bound r rounded over x (below_bound o w x up)) downs2 e)
      where
        counted_if : (x : ℕ) (id : Id) (m : Mark) → r.mark x ≡ m → won c.holder id x ≡ plus_if
            (is_id c.id id && not (is_out m)) (num c.holder id x)
        counted_if x id m k = ap (λ (b : Bool). plus_if (b && (is_id c.id id && asked r x)) (num c.holder id x))
            (is_process_self c.holder) ∙ ap (λ (i : Mark). plus_if (is_id c.id id && not (is_out i))
            (num c.holder id x)) k

        none : (b : Bool) (k : ℕ) → plus_if (b && false) k ≡ k
        none true k = refl
        none false k = refl

        one : (b : Bool) (k : ℕ) → plus_if (b && true) k ≡ plus_if b k
        one true k = refl
        one false k = refl

        by_mark : (x : ℕ) (m : Mark) → r.mark x ≡ m → IsUp o w x → (is_refused (r.mark x) ≡ false) ×
            (is_past (r.mark x) ≡ true) → is_owes (r.mark x) ≡ false → (downs2 : List Echo)
            → downs_of w c.holder x ≡ downs2
            → Live Idle (ups_of w c.holder x ++ []) downs2 (held_of w c.holder x) (num_of won c.holder x)
        by_mark x Out k up h n downs2 e = go_without o a w num C c.holder x Idle
            (Letter.ReleaseOf c.holder) no_one None downs2 won refl refl
            (λ i. counted_if x i Out k ∙ none (is_id c.id i) (num c.holder i x)) (stood x Out k up downs2 e)
        by_mark x Granted k up h n downs2 e =
            let old : Live Idle (ups_of w c.holder x) downs2 (held_of w c.holder x)
            (more_of c.id (num_of num c.holder x)) = live_wins (ups_of w c.holder x) downs2 (held_of w c.holder x)
            (num_of num c.holder x) c.id (stood x Granted k up downs2 e) in
            go_counting o a w num C c.holder x Idle (Letter.ReleaseOf c.holder) no_one None downs2 won
            (more_of c.id (num_of num c.holder x)) refl refl
            (λ i. counted_if x i Granted k ∙ one (is_id c.id i) (num c.holder i x)) old
        by_mark x Later k up h n downs2 e = let past : is_past Later ≡ true = sym (ap is_past k) ∙ h.1 in cc
        by_mark x Owes k up h n downs2 e = let owes : is_owes Owes ≡ false = sym (ap is_owes k) ∙ n in cc
        by_mark x Refused k up h n downs2 e = let refused : is_refused Refused ≡ false = sym (ap is_refused k)
            ∙ h.0 in cc
        by_mark x Lost k up h n downs2 e = not_down (ups_of w c.holder x) downs2 (held_of w c.holder x)
            (num_of num c.holder x) (stood x Lost k up downs2 e)
        by_mark x Gone k up h n downs2 e = not_down (ups_of w c.holder x) downs2 (held_of w c.holder x)
            (num_of num c.holder x) (stood x Gone k up downs2 e)

    -- the round isn't held: who granted gets the grant back
    pub on_gives_up_lock : (s : Nodes) → ending o.bound (asked r) r ≡ GiveBack s
        → Clients o (turned a None (refuse_lock o.bound a c (give_lock o.bound a c s (begun (w.node a)))) w) num
    on_gives_up_lock s ends = go (is_spent c.retries)
      where
        given : (x : ℕ) (m : Mark) → r.mark x ≡ m → IsUp o w x → (nat_lt x o.bound && s x) ≡ is_granted m
        given x m k up = rw (lt-ltb x o.bound (below_bound o w x up))
            (ap (λ (t : Nodes). t x) (given_back o.bound (asked r) r s ends) ∙ ap is_granted k)

        by_mark : (next : Option LockCall) → ((x : ℕ) → view next x ≡ Idle) → (x : ℕ) (m : Mark) → r.mark x ≡ m
            → IsUp o w x → is_owes (r.mark x) ≡ false → (downs2 : List Echo) → downs_of w c.holder x ≡ downs2
            → Live (view next x) (ups_of w c.holder x ++ (if nat_lt x o.bound && s x then ask_of c.holder
            (Letter.GiveBack c.id c.holder false) else [])) downs2 (held_of w c.holder x) (num_of num c.holder x)
        by_mark next idle x Out k up n downs2 e = go_without o a w num C c.holder x Idle
            (Letter.GiveBack c.id c.holder false) (λ y. nat_lt y o.bound && s y) next downs2 num (given x Out k up)
            (idle x) (λ i. refl) (stood x Out k up downs2 e)
        by_mark next idle x Later k up n downs2 e = go_without o a w num C c.holder x Idle
            (Letter.GiveBack c.id c.holder false) (λ y. nat_lt y o.bound && s y) next downs2 num (given x Later k up)
            (idle x) (λ i. refl) (stood x Later k up downs2 e)
        by_mark next idle x Owes k up n downs2 e = let owes : is_owes Owes ≡ false = sym (ap is_owes k) ∙ n in cc
        by_mark next idle x Granted k up n downs2 e = go_with o a w num C c.holder x Idle
            (Letter.GiveBack c.id c.holder false) (Backs c.id) (λ y. nat_lt y o.bound && s y) next downs2 num
            (num_of num c.holder x)
            (given x Granted k up) (ap (λ (b : Bool). if b then Backs c.id ∷ [] else []) (is_process_self c.holder))
            (idle x) (λ i. refl)
            (live_gives (ups_of w c.holder x) downs2 (held_of w c.holder x) (num_of num c.holder x) c.id
            (stood x Granted k up downs2 e))
        by_mark next idle x Refused k up n downs2 e = go_without o a w num C c.holder x Idle
            (Letter.GiveBack c.id c.holder false) (λ y. nat_lt y o.bound && s y) next downs2 num (given x Refused k up)
            (idle x) (λ i. refl)
            (live_lets_go (ups_of w c.holder x) downs2 (held_of w c.holder x) (num_of num c.holder x)
            (stood x Refused k up downs2 e))
        by_mark next idle x Lost k up n downs2 e = not_down (ups_of w c.holder x) downs2 (held_of w c.holder x)
            (num_of num c.holder x) (stood x Lost k up downs2 e)
        by_mark next idle x Gone k up n downs2 e = not_down (ups_of w c.holder x) downs2 (held_of w c.holder x)
            (num_of num c.holder x) (stood x Gone k up downs2 e)

        go : (b : Bool) → Clients o (turned a None (if b then close_call o.bound a c false
            (give_lock o.bound a c s (begun (w.node a))) else keep_call (in_phase LockPhase.Waiting c)
            (give_lock o.bound a c s (begun (w.node a)))) w) num
        go true = called o a w num C None (close_call o.bound a c false (give_lock o.bound a c s (begun (w.node a))))
            num tt c.holder None (Letter.GiveBack c.id c.holder false) (λ y. nat_lt y o.bound && s y) home living
            (record {
              calls = λ p. call_of-drop p c.holder (w.node a).calls;
              watch = refl;
              locks = refl;
              sent =
                  sent_to-all o.bound s (Letter.GiveBack c.id c.holder false);
            })
            (ask_give_back c.id c.holder false) (hears_nothing a c.holder) rounded_none (λ p id x ne. refl)
            (λ x up downs2 e. by_mark None (λ y. refl) x (r.mark x) refl up
            (over_owes o.bound r rounded over x (below_bound o w x up)) downs2 e)
        go false = called o a w num C None (keep_call (in_phase LockPhase.Waiting c)
            (give_lock o.bound a c s (begun (w.node a)))) num tt c.holder (Some (in_phase LockPhase.Waiting c))
            (Letter.GiveBack c.id c.holder false) (λ y. nat_lt y o.bound && s y) home living
            (record {
              calls = calls_put a w order (in_phase LockPhase.Waiting c) home;
              watch = refl;
              locks = refl;
              sent = sent_to-all o.bound s (Letter.GiveBack c.id c.holder false);
            })
            (ask_give_back c.id c.holder false) (hears_nothing a c.holder)
            (rounded_next (in_phase LockPhase.Waiting c) tt) (λ p id x ne. refl)
            (λ x up downs2 e. by_mark (Some (in_phase LockPhase.Waiting c)) (λ y. refl) x (r.mark x) refl up
            (over_owes o.bound r rounded over x (below_bound o w x up)) downs2 e)

  -- a call that begins: its process lives, is of this node, and stands idle with every node
  module _ (c : LockCall) (begins : Begins a (w.node a) c) where
    pub begin_home : c.holder.node ≡ a
    begin_home = elim begins [
      | inl new ↦ eqb-true c.holder.node a (both (c.holder.node == a) (not (c.holder.serial == 0))
          (both ((c.holder.node == a) && not (c.holder.serial == 0)) (not (is_dead (w.node a).watch c.holder.serial))
          new.live).0).0
      | inr again ↦ ap (λ (p : Process). p.node) (sym again.holder)
          ∙ home_of_call a c.holder (w.node a).calls again.before (order a) again.open_call
    ]

    pub begin_lives : lives o w c.holder ≡ true
    begin_lives = elim begins [
      | inl new ↦
          let one : (((c.holder.node == a) && not (c.holder.serial == 0)) ≡ true) ×
          (not (is_dead (w.node a).watch c.holder.serial) ≡ true) = both
          ((c.holder.node == a) && not (c.holder.serial == 0)) (not (is_dead (w.node a).watch c.holder.serial))
          new.live in
          lives_by o w c.holder (record {
            inside = ap (in_world o) begin_home ∙ inside;
            up = ap (left w) begin_home ∙ up_a;
            client = not_true (c.holder.serial == 0) (both (c.holder.node == a) (not (c.holder.serial == 0)) one.0).1;
            alive = ap (λ (i : ℕ). is_dead (w.node i).watch c.holder.serial) begin_home
                ∙ not_true (is_dead (w.node a).watch c.holder.serial) one.1;
          })
      | inr again ↦ caller_lives o w num C c.holder again.before (ap (left w) begin_home ∙ up_a)
          (ap (λ (i : ℕ). call_of c.holder (w.node i).calls) begin_home ∙ again.open_call)
    ]

    begin_view : (x : ℕ) → view (call_at w c.holder) x ≡ Idle
    begin_view x = ap (λ (i : ℕ). view (call_of c.holder (w.node i).calls) x) begin_home ∙ (elim begins [
      | inl new ↦ ap (λ (k : Option LockCall). view k x) new.none
      | inr again ↦ ap (λ (k : Option LockCall). view k x) again.open_call
          ∙ ap (λ (f : LockPhase). view_in again.before.id f x) again.phase
    ])

    pub begin_session : (x : ℕ) → IsUp o w x → (downs2 : List Echo) → downs_of w c.holder x ≡ downs2
        → Live Idle (ups_of w c.holder x) downs2 (held_of w c.holder x) (num_of num c.holder x)
    begin_session x up downs2 e = session_as o a w num C c.holder x begin_lives up Idle downs2 (begin_view x) e

    -- the boss is asked
    pub on_asks_lock : is_empty o.bound (targets (w.node a).replica.members c.target) ≡ false
        → Clients o (turned a None (ask_lock o.bound a c (targets (w.node a).replica.members c.target)
        (begun (w.node a))) w) num
    on_asks_lock some = called o a w num C None (ask_lock o.bound a c s (begun (w.node a))) num tt c.holder
        (Some first) (Letter.SetLock c.id c.holder) (λ y. greatest o.bound s == y) begin_home begin_lives
        (record {
          calls = calls_put a w order first begin_home;
          watch = refl;
          locks = refl;
          sent = λ y. sent_to-one y
              (greatest o.bound s) (Letter.SetLock c.id c.holder);
        })
        (ask_set_lock c.id c.holder) (hears_nothing a c.holder) (rounded_next first (rounded_begin o.bound s))
        (λ p id x ne. refl)
        (λ x up downs2 e. by_test x up downs2 e (s x) (greatest o.bound s == x)
        (x == greatest o.bound s) refl refl refl)
      where
        s : Nodes
        s = targets (w.node a).replica.members c.target

        first : LockCall
        first = in_phase (LockPhase.Asking (begin o.bound s)) c

        in_s : s (greatest o.bound s) ≡ true
        in_s = let one : (i : ℕ) × (i < o.bound) × (s i ≡ true) = some_of o.bound s some in greatest_in o.bound s one.0
            one.1 one.2

        by_test : (x : ℕ) → IsUp o w x → (downs2 : List Echo) → downs_of w c.holder x ≡ downs2 → (t b d : Bool)
            → s x ≡ t → (greatest o.bound s == x) ≡ b → (x == greatest o.bound s) ≡ d
            → Live (view_of c.id (if s x then (if x == greatest o.bound s then Owes else Later) else Out))
            (ups_of w c.holder x ++ (if greatest o.bound s == x then ask_of c.holder
            (Letter.SetLock c.id c.holder) else [])) downs2 (held_of w c.holder x) (num_of num c.holder x)
        by_test x up downs2 e true true true et eb ed = go_with o a w num C c.holder x (Owed c.id)
            (Letter.SetLock c.id c.holder) (Takes c.id) (λ y. greatest o.bound s == y) (Some first) downs2 num
            (num_of num c.holder x)
            eb (ap (λ (b : Bool). if b then Takes c.id ∷ [] else []) (is_process_self c.holder)) (rw (et, ed) refl)
            (λ i. refl)
            (live_asks (ups_of w c.holder x) downs2 (held_of w c.holder x) (num_of num c.holder x) c.id
            (begin_session x up downs2 e))
        by_test x up downs2 e true false false et eb ed = go_without o a w num C c.holder x Idle
            (Letter.SetLock c.id c.holder) (λ y. greatest o.bound s == y) (Some first) downs2 num eb (rw (et, ed) refl)
            (λ i. refl) (begin_session x up downs2 e)
        by_test x up downs2 e false false d et eb ed = go_without o a w num C c.holder x Idle
            (Letter.SetLock c.id c.holder) (λ y. greatest o.bound s == y) (Some first) downs2 num eb (rw et refl)
            (λ i. refl) (begin_session x up downs2 e)
        by_test x up downs2 e false true d et eb ed = absurd
            (cc (subst (λ (i : ℕ). s i ≡ true) (eqb-true (greatest o.bound s) x eb) in_s, et))
        by_test x up downs2 e true true false et eb ed = absurd
            (cc (eq-eqb x (greatest o.bound s) (sym (eqb-true (greatest o.bound s) x eb)), ed))
        by_test x up downs2 e true false true et eb ed = absurd
            (cc (eq-eqb (greatest o.bound s) x (sym (eqb-true x (greatest o.bound s) ed)), eb))

    -- there is nobody to ask
    pub on_closes : (g : Bool) → (num2 : Numbers) → ((p : Process) (id : Id) (x : ℕ) → is_process c.holder p ≡ false
        → num2 p id x ≡ num p id x) → ((id : Id) (x : ℕ) → IsUp o w x → num2 c.holder id x ≡ num c.holder id x)
        → Clients o (turned a None (close_call o.bound a c g (begun (w.node a))) w) num2
    on_closes g num2 others own = called o a w num C None (close_call o.bound a c g (begun (w.node a))) num2 tt
        c.holder None (Letter.ReleaseOf c.holder) no_one begin_home begin_lives
        (record { calls = λ p. call_of-drop p c.holder (w.node a).calls; watch = refl; locks = refl; sent = λ y. refl })
        (ask_release c.holder) (hears_nothing a c.holder) rounded_none others
        (λ x up downs2 e. go_without o a w num C c.holder x Idle (Letter.ReleaseOf c.holder) no_one None downs2 num2
        refl refl (λ i. own i x up) (begin_session x up downs2 e))
