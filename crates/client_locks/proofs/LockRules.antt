-- Each rule of a lock call keeps the sessions: rounds.
use Rattle.std.proofs.Common.{ℕ, Bool, true, false, ◌==◌, ◌≡◌, Option, Some, None, List, [], ◌∷◌, ◌++◌, refl, sym, ap, ◌∙◌, subst, inl, inr}
use Rattle.std.specs.Prelude.{not, ◌&&◌, nat_lt, if◌then◌else◌}
use Rattle.std.proofs.lemmas.Bool.{cases_eq, eqb-true, eq-eqb, ne_eqb, lt-ltb}
use Rattle.std.proofs.Math.Bool.{and-false}
use Rattle.registry_model.specs.Process.{Nodes}
use Rattle.protocol_model.specs.Letter.{Id, Letter}
use Rattle.protocol_model.specs.Round.{Mark, Out, Later, Owes, Granted, Refused, Lost, Gone, Round, is_out, is_owes, owes, asked, rest, asked_too, opens, answer, mark_down, down}
use Rattle.protocol_model.specs.Node.{LockPhase, LockCall}
use Rattle.protocol_model.specs.Turn.{begun, keep_call, send_all}
use Rattle.protocol_model.specs.Registrar.{ask_rest}
use Rattle.protocol_model.specs.Client.{in_phase}
use Rattle.protocol_model.specs.World.{Opening, World, left}
use Rattle.moves.proofs.Rules.{Taken, FrontTaken, IsOpen, Ordered}
use Rattle.moves.proofs.Invariants.{IsUp}
use Rattle.moves.proofs.Indices.{both}
use Rattle.moves.proofs.Sends.{sent_to-all}
use Rattle.client_locks.proofs.Ids.{is_process_self}
use Rattle.client_locks.proofs.Rounds.{Rounded, rounded_answer, rounded_down, mark_by, answer_opens, answer_owed, only_boss_asked, is_unasked}
use Rattle.client_locks.proofs.Sessions.{Ask, Takes, Echo, Answers, Idle, Owed, Down, view, view_of, fits, Live}
use Rattle.client_locks.proofs.SessionMoves.{live_asks, live_hears}
use Rattle.client_locks.proofs.Mail.{echoes, read_on, turned, ask_of}
use Rattle.client_locks.proofs.Clients.{Numbers, lives, call_at, RoundedIn, Clients}
use Rattle.client_locks.proofs.Turns.{hears_nothing, hears_letter}
use Rattle.client_locks.proofs.Serving.{ask_set_lock, ask_release, echo_answer}
use Rattle.client_locks.proofs.Calling.{ups_of, downs_of, held_of, num_of, GoesOn, called, session_as, go_without, go_with, call_home, call_lives, call_view, call_rounded, calls_put, reads_here, reads_there, below_bound}

-- nobody is sent a letter
abbrev pub no_one : Nodes
no_one y = false

-- the next call is a rounded one
pub rounded_next : (c : LockCall) → RoundedIn c.phase → (k : LockCall) → Some c ≡ Some k → RoundedIn k.phase
rounded_next c h k e = let same : c ≡ k = cc e in subst (λ (j : LockCall). RoundedIn j.phase) same h

pub rounded_none : (k : LockCall) → None ≡ Some k → RoundedIn k.phase
rounded_none k e = cc

-- no session is with a node that is held to have left
pub not_down : {X : Type 0} (ups : List Ask) (downs : List Echo) (held num : Id → ℕ) → Live Down ups downs held num → X
not_down ups downs held num l = let no_fit : fits Down ups downs ≡ true = l.fit in cc

module _ (o : Opening) (a : ℕ) (w : World) (num : Numbers) (C : Clients o w num) (order : Ordered w)
    (up_a : left w a ≡ false)
    (told_left : (d : ℕ) → (w.node a).replica.told d ≡ true → left w d ≡ true) where
  -- a node that runs isn't one that was told to have left
  pub not_told : (x d : ℕ) → IsUp o w x → (w.node a).replica.told d ≡ true → x ≡ d → ⊥
  not_told x d up t e = let gone : left w x ≡ true = ap (left w) e ∙ told_left d t in cc (gone, up.1)

  pub untold : (x : ℕ) → IsUp o w x → (w.node a).replica.told x ≡ false
  untold x up = go ((w.node a).replica.told x) refl
    where
      go : (b : Bool) → (w.node a).replica.told x ≡ b → b ≡ false
      go false e = refl
      go true e = absurd (not_told x x up e refl)

  module _ (c : LockCall) (r : Round) (open_call : IsOpen (w.node a) c (LockPhase.Asking r)) where
    -- a node of the round goes down
    pub on_marks_lock_down : (d : ℕ) → (w.node a).replica.told d ≡ true
        → Clients o (turned a None (keep_call (in_phase (LockPhase.Asking (down d r)) c) (begun (w.node a))) w) num
    on_marks_lock_down d gone = called o a w num C None (keep_call (in_phase (LockPhase.Asking (down d r)) c)
        (begun (w.node a))) num tt c.holder
        (Some (in_phase (LockPhase.Asking (down d r)) c)) (Letter.ReleaseOf c.holder) no_one
        home living
        (record {
          calls = calls_put a w order (in_phase (LockPhase.Asking (down d r)) c) home;
          watch = refl;
          locks =
              refl;
          sent = λ y. refl;
        })
        (ask_release c.holder) (hears_nothing a c.holder)
        (rounded_next (in_phase (LockPhase.Asking (down d r)) c) (rounded_down d r
        (call_rounded o a w num C order up_a c (LockPhase.Asking r) open_call)))
        (λ p id x ne. refl)
        (λ x up downs2 e. go_without o a w num C c.holder x (view_of c.id (r.mark x))
        (Letter.ReleaseOf c.holder) no_one (Some (in_phase (LockPhase.Asking (down d r)) c)) downs2 num
        refl (ap (λ (b : Bool). view_of c.id (if b then mark_down (r.mark d) else r.mark x))
        (ne_eqb x d (not_told x d up gone))) (λ i. refl)
        (session_as o a w num C c.holder x living up (view_of c.id (r.mark x)) downs2
        (call_view o a w num C order up_a c (LockPhase.Asking r) open_call x) e))
      where
        home : c.holder.node ≡ a
        home = call_home o a w num C order up_a c (LockPhase.Asking r) open_call

        living : lives o w c.holder ≡ true
        living = call_lives o a w num C order up_a c (LockPhase.Asking r) open_call

    -- an answer is heard
    module _ (f : ℕ) (id : Id) (g : Bool) (owed : owes r f ≡ true)
        (front : FrontTaken o a w (Some (record { sender = f; letter = Letter.LockAnswer id c.holder g }))) where
      abbrev pub the_answer : Option Taken
      the_answer = Some (record { sender = f; letter = Letter.LockAnswer id c.holder g })

      abbrev pub goes_on_to : LockCall
      goes_on_to = in_phase (LockPhase.Asking (answer f g r)) c

      h_home : c.holder.node ≡ a
      h_home = call_home o a w num C order up_a c (LockPhase.Asking r) open_call

      h_living : lives o w c.holder ≡ true
      h_living = call_lives o a w num C order up_a c (LockPhase.Asking r) open_call

      h_rounded : Rounded r
      h_rounded = call_rounded o a w num C order up_a c (LockPhase.Asking r) open_call

      mark_owes : (m : Mark) → is_owes m ≡ true → m ≡ Owes
      mark_owes Owes e = refl
      mark_owes Out e = cc
      mark_owes Later e = cc
      mark_owes Granted e = cc
      mark_owes Refused e = cc
      mark_owes Lost e = cc
      mark_owes Gone e = cc

      -- what f's own session becomes
      heard : IsUp o w f → (downs2 : List Echo) → downs_of w c.holder f ≡ echoes c.holder
          (read_on a the_answer f c.holder.node) ++ downs2
          → Live (view_of c.id (mark_by g)) (ups_of w c.holder f) downs2 (held_of w c.holder f) (num_of num c.holder f)
      heard up downs2 e =
          let first : downs_of w c.holder f ≡ Answers id g ∷ downs2 = e
          ∙ ap (λ (es : List Echo). es ++ downs2) (reads_here a f c.holder
          (Letter.LockAnswer id c.holder g) h_home) ∙ ap (λ (b : Bool).
          (if b then Answers id g ∷ [] else []) ++ downs2) (is_process_self c.holder) in
          let stands : view (call_at w c.holder) f ≡ Owed c.id = call_view o a w num C order up_a c
          (LockPhase.Asking r) open_call f ∙ ap (view_of c.id) (mark_owes (r.mark f) owed) in
          live_hears (ups_of w c.holder f) downs2 (held_of w c.holder f) (num_of num c.holder f) c.id id g
          (session_as o a w num C c.holder f h_living up (Owed c.id) (Answers id g ∷ downs2) stands first)

      -- the session of any other node, as it was
      unheard : (x : ℕ) → (x ≡ f → ⊥) → IsUp o w x → (downs2 : List Echo)
          → downs_of w c.holder x ≡ echoes c.holder (read_on a the_answer x c.holder.node) ++ downs2
          → Live (view_of c.id (r.mark x)) (ups_of w c.holder x) downs2 (held_of w c.holder x) (num_of num c.holder x)
      unheard x ne up downs2 e = session_as o a w num C c.holder x h_living up (view_of c.id (r.mark x)) downs2
          (call_view o a w num C order up_a c (LockPhase.Asking r) open_call x)
          (e ∙ ap (λ (es : List Echo). es ++ downs2) (reads_there a f c.holder (Letter.LockAnswer id c.holder g) x ne))

      h_marks : (e : opens f g r ≡ true) → g ≡ true
      h_marks e = (both g (f == r.boss) (both (g && (f == r.boss)) (owes r f) e).0).0

      -- who is asked once the boss has granted
      abbrev asked_then : Nodes
      asked_then y = nat_lt y o.bound && (rest r y && not ((w.node a).replica.told y))

      to_ask : (x : ℕ) (m : Mark) → r.mark x ≡ m → IsUp o w x → (x ≡ r.boss → ⊥) → is_out m ≡ false
          → asked_then x ≡ true
      to_ask x m e up ne h = rw (lt-ltb x o.bound (below_bound o w x up), e, h, ne_eqb x r.boss ne, untold x up) refl

      not_to_ask : (x : ℕ) → r.mark x ≡ Out → asked_then x ≡ false
      not_to_ask x e = rw e (and-false (nat_lt x o.bound))

      boss_not_asked : opens f g r ≡ true → asked_then f ≡ false
      boss_not_asked e = rw ((both g (f == r.boss) (both (g && (f == r.boss)) (owes r f) e).0).1)
          (none (nat_lt f o.bound) (asked r f) (not ((w.node a).replica.told f)))
        where
          none : (b d k : Bool) → (b && ((d && false) && k)) ≡ false
          none true true k = refl
          none true false k = refl
          none false d k = refl

      -- a node that isn't asked yet
      opened : opens f g r ≡ true → (x : ℕ) → (x ≡ f → ⊥) → (m : Mark) → r.mark x ≡ m → is_unasked m ≡ true
          → IsUp o w x → (downs2 : List Echo)
          → Live (view_of c.id m) (ups_of w c.holder x) downs2 (held_of w c.holder x) (num_of num c.holder x)
          → view (Some goes_on_to) x ≡ view_of c.id (asked_too m)
          → Live (view (Some goes_on_to) x)
          (ups_of w c.holder x ++ (if asked_then x then ask_of c.holder (Letter.SetLock c.id c.holder) else []))
          downs2 (held_of w c.holder x) (num_of num c.holder x)
      opened e x ne Out k h up downs2 old ev = go_without o a w num C c.holder x Idle
          (Letter.SetLock c.id c.holder) asked_then (Some goes_on_to) downs2 num (not_to_ask x k) ev (λ i. refl) old
      opened e x ne Later k h up downs2 old ev = go_with o a w num C c.holder x (Owed c.id)
          (Letter.SetLock c.id c.holder) (Takes c.id) asked_then (Some goes_on_to) downs2 num (num_of num c.holder x)
          (to_ask x Later k up (λ b. ne (b
          ∙ sym (eqb-true f r.boss (both g (f == r.boss) (both (g && (f == r.boss)) (owes r f) e).0).1))) refl)
          (ap (λ (b : Bool). if b then Takes c.id ∷ [] else []) (is_process_self c.holder)) ev (λ i. refl)
          (live_asks (ups_of w c.holder x) downs2 (held_of w c.holder x) (num_of num c.holder x) c.id old)
      opened e x ne Gone k h up downs2 old ev = not_down (ups_of w c.holder x) downs2 (held_of w c.holder x)
          (num_of num c.holder x) old
      opened e x ne Owes k h up downs2 old ev = cc
      opened e x ne Granted k h up downs2 old ev = cc
      opened e x ne Refused k h up downs2 old ev = cc
      opened e x ne Lost k h up downs2 old ev = cc

      pub on_hears_lock : Clients o (turned a the_answer (keep_call goes_on_to
          (ask_rest o.bound a f g (Letter.SetLock c.id c.holder) r (begun (w.node a)))) w) num
      on_hears_lock = go (opens f g r) refl
        where
          go : (b : Bool) → opens f g r ≡ b
              → Clients o (turned a the_answer
              (keep_call goes_on_to (if b then send_all o.bound (λ x. rest r x && not ((w.node a).replica.told x))
              (Letter.SetLock c.id c.holder) (begun (w.node a)) else begun (w.node a))) w) num
          go true e = called o a w num C the_answer (keep_call goes_on_to
              (send_all o.bound (λ x. rest r x && not ((w.node a).replica.told x)) (Letter.SetLock c.id c.holder)
              (begun (w.node a)))) num front
              c.holder (Some goes_on_to) (Letter.SetLock c.id c.holder) asked_then h_home h_living
              (record {
                calls = calls_put a w order goes_on_to h_home;
                watch = refl;
                locks = refl;
                sent = sent_to-all
                    o.bound (λ x. rest r x && not ((w.node a).replica.told x)) (Letter.SetLock c.id c.holder);
              })
              (ask_set_lock c.id c.holder) (hears_letter a f c.holder (Letter.LockAnswer id c.holder g)
              (echo_answer id c.holder g))
              (rounded_next goes_on_to (rounded_answer f g r owed h_rounded))
              (λ p i x ne. refl)
              (λ x. elim (cases_eq x f) [
                | inl k ↦ subst (λ (y : ℕ). GoesOn o a w the_answer c.holder (Some goes_on_to)
                    (Letter.SetLock c.id c.holder) asked_then num y) (sym k) (at_f e)
                | inr ne ↦ (λ up downs2 m. opened e x ne (r.mark x) refl (only_boss_asked f g r e h_rounded x ne) up
                    downs2 (unheard x ne up downs2 m)
                    (ap (view_of c.id) (answer_opens f g r e x) ∙ ap (λ (b : Bool). view_of c.id
                    (if b then Granted else asked_too (r.mark x))) (ne_eqb x f ne)))
              ])
            where
              at_f : opens f g r ≡ true → GoesOn o a w the_answer c.holder (Some goes_on_to)
                  (Letter.SetLock c.id c.holder) asked_then num f
              at_f e up downs2 m = go_without o a w num C c.holder f (view_of c.id (mark_by g))
                  (Letter.SetLock c.id c.holder) asked_then (Some goes_on_to) downs2 num (boss_not_asked e)
                  (ap (view_of c.id) (answer_opens f g r e f) ∙ ap (λ (b : Bool). view_of c.id
                  (if b then Granted else asked_too (r.mark f))) (eq-eqb f f refl)
                  ∙ sym (ap (λ (b : Bool). view_of c.id (mark_by b)) (h_marks e)))
                  (λ i. refl) (heard up downs2 m)
          go false e = called o a w num C the_answer (keep_call goes_on_to (begun (w.node a))) num front
              c.holder (Some goes_on_to) (Letter.SetLock c.id c.holder) no_one h_home h_living
              (record { calls = calls_put a w order goes_on_to h_home; watch = refl; locks = refl; sent = λ y. refl })
              (ask_set_lock c.id c.holder) (hears_letter a f c.holder (Letter.LockAnswer id c.holder g)
              (echo_answer id c.holder g))
              (rounded_next goes_on_to (rounded_answer f g r owed h_rounded))
              (λ p i x ne. refl)
              (λ x. elim (cases_eq x f) [
                | inl k ↦ subst (λ (y : ℕ). GoesOn o a w the_answer c.holder (Some goes_on_to)
                    (Letter.SetLock c.id c.holder) no_one num y) (sym k)
                    (λ up downs2 m. go_without o a w num C c.holder f (view_of c.id (mark_by g))
                    (Letter.SetLock c.id c.holder) no_one (Some goes_on_to) downs2 num refl
                    (ap (view_of c.id) (answer_owed f g r e owed f) ∙ ap (λ (b : Bool). view_of c.id
                    (if b then mark_by g else r.mark f)) (eq-eqb f f refl)) (λ i. refl) (heard up downs2 m))
                | inr ne ↦ (λ up downs2 m. go_without o a w num C c.holder x (view_of c.id (r.mark x))
                    (Letter.SetLock c.id c.holder) no_one (Some goes_on_to) downs2 num refl
                    (ap (view_of c.id) (answer_owed f g r e owed x) ∙ ap (λ (b : Bool). view_of c.id
                    (if b then mark_by g else r.mark x)) (ne_eqb x f ne)) (λ i. refl) (unheard x ne up downs2 m))
              ])
