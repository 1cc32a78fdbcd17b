-- Letters that are of no live client's session, with those that aren't awaited or come from a node that has left.
use Rattle.std.proofs.Common.{ℕ, Bool, true, false, ◌==◌, ◌≡◌, Option, Some, None, List, [], ◌∷◌, ◌++◌, refl, sym, ap, ◌∙◌, subst}
use Rattle.std.specs.Prelude.{◌&&◌, if◌then◌else◌}
use Rattle.std.proofs.lemmas.Bool.{eqb-true, eq-eqb, ne_eqb}
use Rattle.registry_model.specs.Process.{Process, is_process}
use Rattle.protocol_model.specs.Letter.{Id, Letter}
use Rattle.protocol_model.specs.Round.{Mark, Out, Later, Owes, Granted, Refused, Lost, Gone, is_owes}
use Rattle.protocol_model.specs.Node.{LockPhase, LockCall, call_of}
use Rattle.protocol_model.specs.Registrar.{registrar}
use Rattle.protocol_model.specs.World.{Opening, World, left}
use Rattle.moves.proofs.Rules.{Taken, taking, IsFront, awaits, some_call, is_heard_in, is_owed_in, is_heard}
use Rattle.moves.proofs.Invariants.{IsUp}
use Rattle.client_locks.proofs.Ids.{is_process_same, is_process_self}
use Rattle.client_locks.proofs.Plain.{not_client}
use Rattle.client_locks.proofs.Sessions.{Answers, Backed, Owed, Due, view, view_of, view_in, due_if, fits}
use Rattle.client_locks.proofs.SessionMoves.{answer_front, backed_front}
use Rattle.client_locks.proofs.Mail.{asks, echoes, ask_of, echo_of, read_on}
use Rattle.client_locks.proofs.Clients.{Numbers, lives, live_parts, IsLive, call_at, Clients}
use Rattle.client_locks.proofs.Turns.{no_ask_if, no_echo_if}

-- the letter that is taken is of no session
abbrev pub Unread : Opening → ℕ → Option Taken → World → Type 0
Unread o a t w = (p : Process) (x : ℕ) → lives o w p ≡ true → IsUp o w x
    → (asks p (read_on a t p.node x) ≡ []) × (echoes p (read_on a t x p.node) ≡ [])

pub unread_none : (o : Opening) (a : ℕ) (w : World) → Unread o a None w
unread_none o a w p x h up = (refl, refl)

-- a letter that is of no client
pub unread_letter : (o : Opening) (a f : ℕ) (w : World) (l : Letter)
    → ((p : Process) → (p.serial == 0) ≡ false → ask_of p l ≡ [])
    → ((p : Process) → (p.serial == 0) ≡ false → echo_of p l ≡ []) → Unread o a (taking f l) w
unread_letter o a f w l ask echo p x h up =
    let live : IsLive o w p = live_parts o w p h in (
      no_ask_if p l (ask p live.client) ((p.node == f) && (x == a)),
      no_echo_if p l (echo p live.client)
          ((x == f) && (p.node == a)),
    )

-- an answer to a registrar
pub unread_answer : (o : Opening) (a f : ℕ) (w : World) (id : Id) (g : Bool)
    → Unread o a (taking f (Letter.LockAnswer id (registrar a) g)) w
unread_answer o a f w id g = unread_letter o a f w (Letter.LockAnswer id (registrar a) g) (λ p c. refl)
    (λ p c. rw (not_client (registrar a) p refl c) refl)

-- a letter from a node that has left
pub unread_gone : (o : Opening) (a f : ℕ) (w : World) (l : Letter) → left w f ≡ true → Unread o a (taking f l) w
unread_gone o a f w l gone p x h up = (
  ap (λ (b : Bool). asks p (if b && (x == a) then l ∷ [] else [])) (other p.node (live_parts o w p h).up),
  ap
      (λ (b : Bool). echoes p (if b && (p.node == a) then l ∷ [] else [])) (other x up.1),
)
  where
    other : (c : ℕ) → left w c ≡ false → (c == f) ≡ false
    other c e = ne_eqb c f (λ k. cc (ap (left w) k, gone, e))

-- who owes an answer is awaited, and who owes an acknowledgement
mark_owed : (id j : Id) (m : Mark) → view_of id m ≡ Owed j → is_owes m ≡ true
mark_owed id j Owes e = refl
mark_owed id j Out e = cc
mark_owed id j Later e = cc
mark_owed id j Granted e = cc
mark_owed id j Refused e = cc
mark_owed id j Lost e = cc
mark_owed id j Gone e = cc

mark_not_due : {X : Type 0} (id : Id) (m : Mark) → view_of id m ≡ Due → X
mark_not_due id Owes e = cc
mark_not_due id Out e = cc
mark_not_due id Later e = cc
mark_not_due id Granted e = cc
mark_not_due id Refused e = cc
mark_not_due id Lost e = cc
mark_not_due id Gone e = cc

due_not_owed : {X : Type 0} (j : Id) (b : Bool) → due_if b ≡ Owed j → X
due_not_owed j true e = cc
due_not_owed j false e = cc

due_is : (b : Bool) → due_if b ≡ Due → b ≡ true
due_is true e = refl
due_is false e = cc

heard_in : (id j : Id) (f : LockPhase) (x : ℕ) → view_in id f x ≡ Owed j → is_heard_in x f ≡ true
heard_in id j (LockPhase.Asking r) x e = mark_owed id j (r.mark x) e
heard_in id j LockPhase.Waiting x e = cc
heard_in id j (LockPhase.Deleting owing) x e = due_not_owed j (owing x) e

owed_in : (id : Id) (f : LockPhase) (x : ℕ) → view_in id f x ≡ Due → is_owed_in x f ≡ true
owed_in id (LockPhase.Asking r) x e = mark_not_due id (r.mark x) e
owed_in id LockPhase.Waiting x e = cc
owed_in id (LockPhase.Deleting owing) x e = due_is (owing x) e

some_heard : (j : Id) (k : Option LockCall) (x : ℕ) → view k x ≡ Owed j → some_call (is_heard_in x) k ≡ true
some_heard j None x e = cc
some_heard j (Some c) x e = heard_in c.id j c.phase x e

some_owed : (k : Option LockCall) (x : ℕ) → view k x ≡ Due → some_call (is_owed_in x) k ≡ true
some_owed None x e = cc
some_owed (Some c) x e = owed_in c.id c.phase x e

module _ (o : Opening) (a f : ℕ) (w : World) (num : Numbers) (C : Clients o w num) where
  -- what p's own node hears first from x
  first_echo : (p : Process) (l : Letter) (rest : List Letter) → p.node ≡ a → w.links.queue f a ≡ l ∷ rest
      → echoes p (w.links.queue f p.node) ≡ echo_of p l ++ echoes p rest
  first_echo p l rest home e = ap (λ (i : ℕ). echoes p (w.links.queue f i)) home ∙ ap (echoes p) e

  -- an answer to a live client of this node is awaited
  answer_awaited : (p : Process) (id : Id) (g : Bool) (rest : List Letter) → lives o w p ≡ true → IsUp o w f
      → p.node ≡ a → w.links.queue f a ≡ Letter.LockAnswer id p g ∷ rest
      → awaits a (w.node a) f (Letter.LockAnswer id p g) ≡ true
  answer_awaited p id g rest h up home e =
      let live : IsLive o w p = live_parts o w p h in
      let ours : is_process p (registrar a) ≡ false = go (is_process p (registrar a)) refl live.client in
      let first : echoes p (w.links.queue f p.node) ≡ Answers id g ∷ echoes p rest = first_echo p
      (Letter.LockAnswer id p g) rest home e ∙ ap (λ (b : Bool). (if b then Answers id g ∷ [] else []) ++ echoes p
      rest) (is_process_self p) in
      let fit : fits (view (call_at w p) f) (asks p (w.links.queue p.node f)) (Answers id g ∷ echoes p rest)
      ≡ true = sym (ap (fits (view (call_at w p) f) (asks p (w.links.queue p.node f))) first)
      ∙ (C.sessions p f h up).fit in
      let was : (j : Id) × (view (call_at w p) f ≡ Owed j) × (id ≡ j) × (asks p (w.links.queue p.node f) ≡ []) ×
      (echoes p rest ≡ []) = answer_front (view (call_at w p) f) id g (asks p (w.links.queue p.node f))
      (echoes p rest) fit in
      ap (λ (b : Bool). if b then is_heard f (w.node a).current else some_call (is_heard_in f)
      (call_of p (w.node a).calls)) ours
      ∙ ap (λ (i : ℕ). some_call (is_heard_in f) (call_of p (w.node i).calls)) (sym home)
      ∙ some_heard was.0 (call_at w p) f was.1
    where
      go : (b : Bool) → is_process p (registrar a) ≡ b → (p.serial == 0) ≡ false → b ≡ false
      go false k c = refl
      go true k c = let zero_serial : (p.serial == 0) ≡ true = eq-eqb p.serial 0
          (ap (λ (q : Process). q.serial) (is_process_same p (registrar a) k)) in cc (zero_serial, c)

  -- so is an acknowledgement
  given_back_awaited : (p : Process) (rest : List Letter) → lives o w p ≡ true → IsUp o w f → p.node ≡ a
      → w.links.queue f a ≡ Letter.GivenBack p ∷ rest
      → awaits a (w.node a) f (Letter.GivenBack p) ≡ true
  given_back_awaited p rest h up home e =
      let first : echoes p (w.links.queue f p.node) ≡ Backed ∷ echoes p rest = first_echo p
      (Letter.GivenBack p) rest home e ∙ ap (λ (b : Bool). (if b then Backed ∷ [] else []) ++ echoes p rest)
      (is_process_self p) in
      let fit : fits (view (call_at w p) f) (asks p (w.links.queue p.node f)) (Backed ∷ echoes p rest) ≡ true = sym
      (ap (fits (view (call_at w p) f) (asks p (w.links.queue p.node f))) first) ∙ (C.sessions p f h up).fit in
      let was : (view (call_at w p) f ≡ Due) × (asks p (w.links.queue p.node f) ≡ []) ×
      (echoes p rest ≡ []) = backed_front (view (call_at w p) f) (asks p (w.links.queue p.node f))
      (echoes p rest) fit in
      ap (λ (i : ℕ). some_call (is_owed_in f) (call_of p (w.node i).calls)) (sym home) ∙ some_owed (call_at w p) f was.0

  ignored_answer : (id : Id) (q : Process) (g : Bool) → IsFront o a w f (Letter.LockAnswer id q g)
      → awaits a (w.node a) f (Letter.LockAnswer id q g) ≡ false
      → Unread o a (taking f (Letter.LockAnswer id q g)) w
  ignored_answer id q g front h p x lp up = (
    no_ask_if p (Letter.LockAnswer id q g) refl
        ((p.node == f) && (x == a)),
    go (x == f) (p.node == a) (is_process q p) refl refl refl,
  )
    where
      go : (b d e : Bool) → (x == f) ≡ b → (p.node == a) ≡ d → is_process q p ≡ e
          → echoes p (if b && d then Letter.LockAnswer id q g ∷ [] else []) ≡ []
      go false d e eb ed ee = refl
      go true false e eb ed ee = refl
      go true true false eb ed ee = rw ee refl
      go true true true eb ed ee =
          let same : q ≡ p = is_process_same q p ee in
          let awaited : awaits a (w.node a) f (Letter.LockAnswer id p g) ≡ true = answer_awaited p id g front.0 lp
          (subst (λ (i : ℕ). IsUp o w i) (eqb-true x f eb) up) (eqb-true p.node a ed)
          (front.1 ∙ ap (λ (k : Process). Letter.LockAnswer id k g ∷ front.0) same) in
          absurd (cc (
            subst (λ (k : Process). awaits a (w.node a) f (Letter.LockAnswer id k g) ≡ true)
                (sym same) awaited,
            h,
          ))

  ignored_given_back : (q : Process) → IsFront o a w f (Letter.GivenBack q)
      → awaits a (w.node a) f (Letter.GivenBack q) ≡ false → Unread o a (taking f (Letter.GivenBack q)) w
  ignored_given_back q front h p x lp up = (
    no_ask_if p (Letter.GivenBack q) refl ((p.node == f) && (x == a)),
    go
        (x == f) (p.node == a) (is_process q p) refl refl refl,
  )
    where
      go : (b d e : Bool) → (x == f) ≡ b → (p.node == a) ≡ d → is_process q p ≡ e
          → echoes p (if b && d then Letter.GivenBack q ∷ [] else []) ≡ []
      go false d e eb ed ee = refl
      go true false e eb ed ee = refl
      go true true false eb ed ee = rw ee refl
      go true true true eb ed ee =
          let same : q ≡ p = is_process_same q p ee in
          let awaited : awaits a (w.node a) f (Letter.GivenBack p) ≡ true = given_back_awaited p front.0 lp
          (subst (λ (i : ℕ). IsUp o w i) (eqb-true x f eb) up) (eqb-true p.node a ed)
          (front.1 ∙ ap (λ (k : Process). Letter.GivenBack k ∷ front.0) same) in
          absurd (cc (subst (λ (k : Process). awaits a (w.node a) f (Letter.GivenBack k) ≡ true) (sym same) awaited, h))

  -- a letter that isn't awaited
  pub unread_ignored : (l : Letter) → IsFront o a w f l → awaits a (w.node a) f l ≡ false → Unread o a (taking f l) w
  unread_ignored (Letter.LockAnswer id q g) front h = ignored_answer id q g front h
  unread_ignored (Letter.GivenBack q) front h = ignored_given_back q front h
  unread_ignored Letter.Applied front h = unread_letter o a f w Letter.Applied (λ p c. refl) (λ p c. refl)
  unread_ignored Letter.JoinRefused front h = unread_letter o a f w Letter.JoinRefused (λ p c. refl) (λ p c. refl)
  unread_ignored (Letter.Welcome members pairs told fate) front h = unread_letter o a f w
      (Letter.Welcome members pairs told fate) (λ p c. refl) (λ p c. refl)
  unread_ignored _ front h = cc
