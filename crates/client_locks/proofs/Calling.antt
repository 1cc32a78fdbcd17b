-- What a process's lock call does keeps all sessions: how each rule of a lock call moves the caller's own.
use Rattle.std.proofs.Common.{ℕ, Bool, true, false, ◌==◌, ◌≡◌, ◌<◌, Option, Some, List, [], ◌∷◌, ◌++◌, refl, sym, ap, ◌∙◌, subst}
use Rattle.std.specs.Prelude.{◌&&◌, nat_lt, if◌then◌else◌}
use Rattle.std.proofs.lemmas.List.{append-nil}
use Rattle.std.proofs.lemmas.Bool.{eq-eqb, ne_eqb, ltb-true}
use Rattle.registry_model.specs.Process.{Process, is_process, Nodes}
use Rattle.protocol_model.specs.Letter.{Id, Letter}
use Rattle.protocol_model.specs.LockTable.{count}
use Rattle.protocol_model.specs.Watch.{is_dead}
use Rattle.protocol_model.specs.Node.{Node, LockPhase, LockCall, call_of, put_call}
use Rattle.protocol_model.specs.Turn.{Turn, sent_to}
use Rattle.protocol_model.specs.World.{Opening, World, left}
use Rattle.moves.proofs.Rules.{Taken, FrontTaken, IsOpen, Ordered}
use Rattle.moves.proofs.Invariants.{IsUp}
use Rattle.moves.proofs.Indices.{both}
use Rattle.client_locks.proofs.Calls.{call_of-put, home_of_call}
use Rattle.client_locks.proofs.Sessions.{Ask, Echo, View, view, view_in, Live, live_along}
use Rattle.client_locks.proofs.Mail.{asks, echoes, read_on, turned, ask_of, echo_of}
use Rattle.client_locks.proofs.Clients.{Numbers, lives, call_at, RoundedIn, Clients, caller_lives, part_same}
use Rattle.client_locks.proofs.Turns.{IsAskOf, Hears, acted, lives_along}

-- the requests of q on their way to x, what comes back, and q's counts there
abbrev pub ups_of : World → Process → ℕ → List Ask
ups_of w q x = asks q (w.links.queue q.node x)

abbrev pub downs_of : World → Process → ℕ → List Echo
downs_of w q x = echoes q (w.links.queue x q.node)

abbrev pub held_of : World → Process → ℕ → Id → ℕ
held_of w q x id = count id q (w.node x).locks

abbrev pub num_of : Numbers → Process → ℕ → Id → ℕ
num_of num q x id = num q id x

-- what a lock call does to its node, and what it sends
pub record Doing (q : Process) (next : Option LockCall) (l : Letter) (whom : Nodes) (v : Node) (u : Turn) : Type 0 where
  pub calls : (p : Process) → call_of p u.node.calls ≡ (if is_process q p then next else call_of p v.calls)
  pub watch : u.node.watch ≡ v.watch
  pub locks : u.node.locks ≡ v.locks
  pub sent : (y : ℕ) → sent_to y u.sends ≡ (if whom y then l ∷ [] else [])

-- how the pair of q and x goes on
abbrev pub GoesOn : Opening → ℕ → World → Option Taken → Process → Option LockCall → Letter → Nodes → Numbers → ℕ
    → Type 0
GoesOn o a w t q next l whom num2 x = IsUp o w x → (downs2 : List Echo)
    → downs_of w q x ≡ echoes q (read_on a t x q.node) ++ downs2
    → Live (view next x) (ups_of w q x ++ (if whom x then ask_of q l else [])) downs2 (held_of w q x) (num_of num2 q x)

module _ (o : Opening) (a : ℕ) (w : World) (num : Numbers) (C : Clients o w num) where
  -- the step of a process that lives
  pub called : (t : Option Taken) (u : Turn) (num2 : Numbers) → FrontTaken o a w t
      → (q : Process) (next : Option LockCall) (l : Letter) (whom : Nodes)
      → q.node ≡ a → lives o w q ≡ true → Doing q next l whom (w.node a) u → IsAskOf q l → Hears a q t
      → ((c : LockCall) → next ≡ Some c → RoundedIn c.phase)
      → ((p : Process) (id : Id) (x : ℕ) → is_process q p ≡ false → num2 p id x ≡ num p id x)
      → ((x : ℕ) → GoesOn o a w t q next l whom num2 x)
      → Clients o (turned a t u w) num2
  called t u num2 front q next l whom home living D L H rounded others each = acted o a t u w num num2 C front q next l
      whom home
      (record { calls = D.calls; dead = λ s e. ap (λ v. is_dead v s) D.watch; locks = D.locks; sent = D.sent })
      L H rounded others
      (λ h. absurd (cc (h, still_lives)))
      (λ x up h downs2 e. each x up downs2 e)
    where
      still_lives : lives o (turned a t u w) q ≡ true
      still_lives = lives_along o a t u w q (part_same (λ v. is_dead v.watch q.serial) w a u
          (ap (λ v. is_dead v q.serial) D.watch) q.node) ∙ living

  -- the session as it was, in other words
  pub session_as : (q : Process) (x : ℕ) → lives o w q ≡ true → IsUp o w x → (v : View) (ds : List Echo)
      → view (call_at w q) x ≡ v → downs_of w q x ≡ ds
      → Live v (ups_of w q x) ds (held_of w q x) (num_of num q x)
  session_as q x living up v ds ev ed = live_along (view (call_at w q) x) v (ups_of w q x) (ups_of w q x)
      (downs_of w q x) ds (held_of w q x) (held_of w q x) (num_of num q x) (num_of num q x)
      (sym ev) refl (sym ed) (λ i. refl) (λ i. refl) (C.sessions q x living up)

  -- a session that goes on without a letter, but with other numbers
  pub go_counting : (q : Process) (x : ℕ) (v : View) (l : Letter) (whom : Nodes) (next : Option LockCall)
      (downs2 : List Echo) (num2 : Numbers) (nums : Id → ℕ)
      → whom x ≡ false → view next x ≡ v → ((i : Id) → num2 q i x ≡ nums i)
      → Live v (ups_of w q x) downs2 (held_of w q x) nums
      → Live (view next x) (ups_of w q x ++ (if whom x then ask_of q l else [])) downs2 (held_of w q x)
      (num_of num2 q x)
  go_counting q x v l whom next downs2 num2 nums nobody ev en old = live_along v (view next x) (ups_of w q x)
      (ups_of w q x ++ (if whom x then ask_of q l else [])) downs2 downs2 (held_of w q x) (held_of w q x) nums
      (num_of num2 q x)
      ev (ap (λ (b : Bool). ups_of w q x ++ (if b then ask_of q l else [])) nobody ∙ append-nil (ups_of w q x)) refl
      (λ i. refl) en old

  -- the same with the numbers that it had
  pub go_without : (q : Process) (x : ℕ) (v : View) (l : Letter) (whom : Nodes) (next : Option LockCall)
      (downs2 : List Echo) (num2 : Numbers)
      → whom x ≡ false → view next x ≡ v → ((i : Id) → num2 q i x ≡ num q i x)
      → Live v (ups_of w q x) downs2 (held_of w q x) (num_of num q x)
      → Live (view next x) (ups_of w q x ++ (if whom x then ask_of q l else [])) downs2 (held_of w q x)
      (num_of num2 q x)
  go_without q x v l whom next downs2 num2 nobody ev en old = go_counting q x v l whom next downs2 num2
      (num_of num q x) nobody ev en old

  -- a session that goes on with a letter
  pub go_with : (q : Process) (x : ℕ) (v : View) (l : Letter) (ask : Ask) (whom : Nodes) (next : Option LockCall)
      (downs2 : List Echo) (num2 : Numbers) (nums : Id → ℕ)
      → whom x ≡ true → ask_of q l ≡ ask ∷ [] → view next x ≡ v → ((i : Id) → num2 q i x ≡ nums i)
      → Live v (ups_of w q x ++ ask ∷ []) downs2 (held_of w q x) nums
      → Live (view next x) (ups_of w q x ++ (if whom x then ask_of q l else [])) downs2 (held_of w q x)
      (num_of num2 q x)
  go_with q x v l ask whom next downs2 num2 nums some el ev en old = live_along v (view next x)
      (ups_of w q x ++ ask ∷ []) (ups_of w q x ++ (if whom x then ask_of q l else [])) downs2 downs2 (held_of w q x)
      (held_of w q x) nums (num_of num2 q x)
      ev (ap (λ (b : Bool). ups_of w q x ++ (if b then ask_of q l else [])) some
      ∙ ap (λ (ls : List Ask). ups_of w q x ++ ls) el) refl (λ i. refl) en old

  -- what is known of an open call
  module _ (order : Ordered w) (up : left w a ≡ false) (c : LockCall) (now : LockPhase)
      (open_call : IsOpen (w.node a) c now) where
    pub call_home : c.holder.node ≡ a
    call_home = home_of_call a c.holder (w.node a).calls c (order a) open_call.call

    pub call_found : call_at w c.holder ≡ Some c
    call_found = ap (λ (i : ℕ). call_of c.holder (w.node i).calls) call_home ∙ open_call.call

    pub call_lives : lives o w c.holder ≡ true
    call_lives = caller_lives o w num C c.holder c (ap (left w) call_home ∙ up) call_found

    pub call_view : (x : ℕ) → view (call_at w c.holder) x ≡ view_in c.id now x
    call_view x = ap (λ (k : Option LockCall). view k x) call_found
        ∙ ap (λ (f : LockPhase). view_in c.id f x) open_call.phase

    pub call_rounded : RoundedIn now
    call_rounded = subst RoundedIn open_call.phase (C.rounds c.holder c call_found)

-- the calls after one is put, and after one is dropped
pub calls_put : (a : ℕ) (w : World) → Ordered w → (c : LockCall) → c.holder.node ≡ a → (p : Process)
    → call_of p (put_call c (w.node a).calls) ≡ (if is_process c.holder p then Some c else call_of p (w.node a).calls)
calls_put a w order c home p = call_of-put a p c (w.node a).calls home (order a)

-- an answer that is read, at its sender and elsewhere
pub reads_here : (a f : ℕ) (q : Process) (l : Letter) → q.node ≡ a
    → echoes q (read_on a (Some (record { sender = f; letter = l })) f q.node) ≡ echo_of q l
reads_here a f q l home = ap (λ (b : Bool). echoes q (if b && (q.node == a) then l ∷ [] else [])) (eq-eqb f f refl)
    ∙ ap (λ (b : Bool). echoes q (if b then l ∷ [] else [])) (eq-eqb q.node a home) ∙ append-nil (echo_of q l)

pub reads_there : (a f : ℕ) (q : Process) (l : Letter) (x : ℕ) → (x ≡ f → ⊥)
    → echoes q (read_on a (Some (record { sender = f; letter = l })) x q.node) ≡ []
reads_there a f q l x ne = ap (λ (b : Bool). echoes q (if b && (q.node == a) then l ∷ [] else [])) (ne_eqb x f ne)

-- a node that runs is below the bound
pub below_bound : (o : Opening) (w : World) (x : ℕ) → IsUp o w x → x < o.bound
below_bound o w x up = ltb-true x o.bound (both (nat_lt x o.bound) (o.nodes x) up.0).0
