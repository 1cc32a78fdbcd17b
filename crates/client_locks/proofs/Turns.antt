-- What keeps the sessions in each kind of turn: one that is no client's, one by a process, and one that serves a
-- process.
use Rattle.std.proofs.Common.{ℕ, Bool, true, false, ◌==◌, ◌≡◌, Option, Some, None, List, [], ◌∷◌, ◌++◌, refl, sym, ap, ◌∙◌, subst, inl, inr}
use Rattle.std.specs.Prelude.{not, ◌&&◌, if◌then◌else◌}
use Rattle.std.specs.List.{list_any}
use Rattle.std.proofs.lemmas.List.{append-nil}
use Rattle.std.proofs.lemmas.Bool.{cases_eq, eqb-true, eq-eqb}
use Rattle.registry_model.specs.Process.{Process, is_process, Nodes, at}
use Rattle.protocol_model.specs.Letter.{Id, Letter}
use Rattle.protocol_model.specs.LockTable.{count}
use Rattle.protocol_model.specs.Watch.{is_dead}
use Rattle.protocol_model.specs.Node.{Node, LockCall, call_of}
use Rattle.protocol_model.specs.Turn.{Turn, sent_to}
use Rattle.protocol_model.specs.World.{Opening, in_world, World, left}
use Rattle.moves.proofs.Rules.{Taken, FrontTaken}
use Rattle.moves.proofs.Invariants.{IsUp}
use Rattle.client_locks.proofs.Ids.{is_process_same, is_process_self}
use Rattle.client_locks.proofs.LockTables.{Sound}
use Rattle.client_locks.proofs.Sessions.{Ask, Echo, view, Live, live_along}
use Rattle.client_locks.proofs.Mail.{asks, echoes, letters_unmoved, read_on, sent_on, turned, is_named, all_named, ask_of, echo_of}
use Rattle.client_locks.proofs.Plain.{all_plain, asks_plain_sent, echoes_plain_sent, named_plain_sent}
use Rattle.client_locks.proofs.Clients.{Numbers, lives, IsLive, live_parts, call_at, Holding, RoundedIn, Clients, kept, part_same, node_here, node_there, Mail, mail_moves}

-- a list of letters that brings nothing
nothing_if : {A : Type 0} (f : List Letter → List A) (b : Bool) (ls : List Letter) → f ls ≡ [] → f [] ≡ []
    → f (if b then ls else []) ≡ []
nothing_if f true ls h e = h
nothing_if f false ls h e = e

-- another process of the same node has another serial
pub serials_differ : (p q : Process) → is_process q p ≡ false → p.node ≡ q.node → (p.serial == q.serial) ≡ false
serials_differ p q ne home = go (p.serial == q.serial) refl
  where
    go : (b : Bool) → (p.serial == q.serial) ≡ b → b ≡ false
    go false e = refl
    go true e =
        let one : is_process q p ≡ true = rw (
          eq-eqb q.node p.node (sym home),
          eq-eqb q.serial p.serial
              (sym (eqb-true p.serial q.serial e)),
        ) refl in
        cc (one, ne)

module _ (o : Opening) (a : ℕ) (t : Option Taken) (u : Turn) (w : World) where
  -- who is dead at a process's home decides whether it lives
  pub lives_along : (p : Process) → is_dead (at w.node a u.node p.node).watch p.serial ≡ is_dead
      (w.node p.node).watch p.serial → lives o (turned a t u w) p ≡ lives o w p
  lives_along p e = ap (λ (b : Bool). in_world o p.node && (not (left w p.node) && (not (p.serial == 0) && not b))) e

  -- a turn that is no client's
  pub record Still : Type 0 where
    pub calls : u.node.calls ≡ (w.node a).calls
    pub dead : u.node.watch.dead ≡ (w.node a).watch.dead
    pub sound : Sound u.node.locks
    pub counts : (id : Id) (p : Process) → left w p.node ≡ false → count id p u.node.locks ≡ count id p (w.node a).locks
    pub sends : all_plain a u.sends ≡ true

  module _ (num : Numbers) (C : Clients o w num) (front : FrontTaken o a w t) where
    pub still_keeps : Still → ((p : Process) (x : ℕ) → lives o w p ≡ true → IsUp o w x
        → (asks p (read_on a t p.node x) ≡ []) × (echoes p (read_on a t x p.node) ≡ []))
        → Clients o (turned a t u w) num
    still_keeps S unread = kept o a t u w num num C (record {
      sound = S.sound;
      sends = λ n. named_plain_sent a n u.sends S.sends;
      rounds = λ p c e. C.rounds p c (sym (same_call p) ∙ e);
      callers = λ p h up. same_call p ∙ C.callers p (sym (same p) ∙ h) up;
      strangers = λ p id x h. C.strangers p id x (sym (same p) ∙ h);
      sessions = λ p x h up. session p x (sym (same p) ∙ h) up;
    })
      where
        same : (p : Process) → lives o (turned a t u w) p ≡ lives o w p
        same p = lives_along p (part_same (λ v. is_dead v.watch p.serial) w a u
            (ap (λ (ds : List ℕ). list_any (λ d. d == p.serial) ds) S.dead) p.node)

        same_call : (p : Process) → call_at (turned a t u w) p ≡ call_at w p
        same_call p = part_same (λ v. call_of p v.calls) w a u (ap (call_of p) S.calls) p.node

        session : (p : Process) (x : ℕ) → lives o w p ≡ true → IsUp o w x → Holding (turned a t u w) num p x
        session p x h up =
            let live : IsLive o w p = live_parts o w p h in
            let m : Mail a t u w p x = mail_moves o a t u w front p x live.up up.1 in
            let none : (asks p (read_on a t p.node x) ≡ []) × (echoes p (read_on a t x p.node) ≡ []) = unread p x h up
            in
            live_along (view (call_at w p) x) (view (call_at (turned a t u w) p) x)
            (asks p (w.links.queue p.node x)) (asks p ((turned a t u w).links.queue p.node x))
            (echoes p (w.links.queue x p.node)) (echoes p ((turned a t u w).links.queue x p.node))
            (λ id. count id p (w.node x).locks) (λ id. count id p (at w.node a u.node x).locks)
            (λ id. num p id x) (λ id. num p id x)
            (ap (λ (c : Option LockCall). view c x) (same_call p))
            (letters_unmoved (asks p (read_on a t p.node x)) (asks p (sent_on a u p.node x)) (asks p (w.links.queue p.node x))
            (asks p ((turned a t u w).links.queue p.node x))
            none.0 (nothing_if (asks p) (p.node == a) (sent_to x u.sends)
            (asks_plain_sent a x u.sends p S.sends live.client) refl) m.ups)
            (letters_unmoved (echoes p (read_on a t x p.node)) (echoes p (sent_on a u x p.node))
            (echoes p (w.links.queue x p.node)) (echoes p ((turned a t u w).links.queue x p.node))
            none.1 (nothing_if (echoes p) (x == a) (sent_to p.node u.sends)
            (echoes_plain_sent a p.node u.sends p S.sends) refl) m.downs)
            (λ id. part_same (λ v. count id p v.locks) w a u (S.counts id p live.up) x)
            (λ id. refl)
            (C.sessions p x h up)

-- a letter that asks for this process alone
pub record IsAskOf (q : Process) (l : Letter) : Type 0 where
  pub echo : (p : Process) → echo_of p l ≡ []
  pub other : (p : Process) → is_process q p ≡ false → ask_of p l ≡ []
  pub named : (n : ℕ) → is_named q.node n l ≡ true

-- a letter that tells this process alone
pub record IsEchoOf (q : Process) (l : Letter) : Type 0 where
  pub ask : (p : Process) → ask_of p l ≡ []
  pub other : (p : Process) → is_process q p ≡ false → echo_of p l ≡ []
  pub named : (f : ℕ) → is_named f q.node l ≡ true

-- the letter to who is in the set brings nothing, where it brings nothing
brings_none : {A : Type 0} (f : Letter → List A) (F : List Letter → List A) → F [] ≡ []
    → ((l : Letter) → f l ≡ [] → F (l ∷ []) ≡ []) → (l : Letter) → f l ≡ []
    → (b : Bool) → F (if b then l ∷ [] else []) ≡ []
brings_none f F nil one l h true = one l h
brings_none f F nil one l h false = nil

pub no_ask_if : (p : Process) (l : Letter) → ask_of p l ≡ [] → (b : Bool) → asks p (if b then l ∷ [] else []) ≡ []
no_ask_if p l h b = brings_none (ask_of p) (asks p) refl (λ k e. ap (λ (xs : List Ask). xs ++ []) e) l h b

pub no_echo_if : (p : Process) (l : Letter) → echo_of p l ≡ [] → (b : Bool) → echoes p (if b then l ∷ [] else []) ≡ []
no_echo_if p l h b = brings_none (echo_of p) (echoes p) refl (λ k e. ap (λ (xs : List Echo). xs ++ []) e) l h b

-- what the process does whose turn it is: it calls no more or goes on, and sends one letter to some nodes
pub record Deed (q : Process) (next : Option LockCall) (l : Letter) (whom : Nodes) (v : Node) (u : Turn) : Type 0 where
  pub calls : (p : Process) → call_of p u.node.calls ≡ (if is_process q p then next else call_of p v.calls)
  pub dead : (s : ℕ) → (s == q.serial) ≡ false → is_dead u.node.watch s ≡ is_dead v.watch s
  pub locks : u.node.locks ≡ v.locks
  pub sent : (y : ℕ) → sent_to y u.sends ≡ (if whom y then l ∷ [] else [])

-- the letter that is taken, if there is one, tells this process alone
pub record Hears (a : ℕ) (q : Process) (t : Option Taken) : Type 0 where
  pub ask : (p : Process) (x y : ℕ) → asks p (read_on a t x y) ≡ []
  pub other : (p : Process) (x y : ℕ) → is_process q p ≡ false → echoes p (read_on a t x y) ≡ []

pub hears_nothing : (a : ℕ) (q : Process) → Hears a q None
hears_nothing a q = record { ask = λ p x y. refl; other = λ p x y e. refl }

pub hears_letter : (a f : ℕ) (q : Process) (l : Letter) → IsEchoOf q l
    → Hears a q (Some (record { sender = f; letter = l }))
hears_letter a f q l E = record {
  ask = λ p x y. no_ask_if p l (E.ask p) ((x == f) && (y == a));
  other = λ p x y e. no_echo_if p l (E.other p e) ((x == f) && (y == a));
}

module _ (o : Opening) (a : ℕ) (t : Option Taken) (u : Turn) (w : World) (num num2 : Numbers) (C : Clients o w num)
    (front : FrontTaken o a w t) where
  -- what a process does keeps the sessions of all others, and its own where each of its pairs goes on so
  pub acted : (q : Process) (next : Option LockCall) (l : Letter) (whom : Nodes) → q.node ≡ a
      → Deed q next l whom (w.node a) u → IsAskOf q l → Hears a q t
      → ((c : LockCall) → next ≡ Some c → RoundedIn c.phase)
      → ((p : Process) (id : Id) (x : ℕ) → is_process q p ≡ false → num2 p id x ≡ num p id x)
      → (lives o (turned a t u w) q ≡ false → (next ≡ None) × ((id : Id) (x : ℕ) → num2 q id x ≡ 0))
      → ((x : ℕ) → IsUp o w x → lives o (turned a t u w) q ≡ true → (downs2 : List Echo)
      → echoes q (w.links.queue x q.node) ≡ echoes q (read_on a t x q.node) ++ downs2
      → Live (view next x) (asks q (w.links.queue q.node x) ++ (if whom x then ask_of q l else [])) downs2
      (λ id. count id q (w.node x).locks) (λ id. num2 q id x))
      → Clients o (turned a t u w) num2
  acted q next l whom home D L H rounded others gone each = kept o a t u w num num2 C (record {
    sound = subst Sound (sym D.locks) (C.tables a);
    sends = λ n. subst (λ (ls : List Letter). all_named a n ls ≡ true) (sym (D.sent n)) (named_if n (whom n));
    rounds = λ p c. by_process p (λ k. call_at (turned a t u w) k ≡ Some c → RoundedIn c.phase)
        (λ e. rounded c (sym own_call ∙ e)) (λ ne e. C.rounds p c (sym (same_call p ne) ∙ e));
    callers = λ p. by_process p (λ k. lives o (turned a t u w) k ≡ false → left w k.node ≡ false
        → call_at (turned a t u w) k ≡ None)
        (λ h up. own_call ∙ (gone h).0) (λ ne h up. same_call p ne ∙ C.callers p (sym (same p ne) ∙ h) up);
    strangers = λ p id x. by_process p (λ k. lives o (turned a t u w) k ≡ false → num2 k id x ≡ 0)
        (λ h. (gone h).1 id x) (λ ne h. others p id x ne ∙ C.strangers p id x (sym (same p ne) ∙ h));
    sessions = λ p x. by_process p (λ k. lives o (turned a t u w) k ≡ true → IsUp o w x
        → Holding (turned a t u w) num2 k x)
        (λ h up. own x up h) (λ ne h up. other p x ne (sym (same p ne) ∙ h) up);
  })
    where
      -- what holds of q, and of each other process
      by_process : (p : Process) (P : Process → Type 0) → P q → (is_process q p ≡ false → P p) → P p
      by_process p P here there = go (is_process q p) refl
        where
          go : (b : Bool) → is_process q p ≡ b → P p
          go true e = subst P (is_process_same q p e) here
          go false e = there e

      named_if : (n : ℕ) (b : Bool) → all_named a n (if b then l ∷ [] else []) ≡ true
      named_if n true = rw (subst (λ (i : ℕ). is_named i n l ≡ true) home (L.named n)) refl
      named_if n false = refl

      same : (p : Process) → is_process q p ≡ false → lives o (turned a t u w) p ≡ lives o w p
      same p ne = lives_along o a t u w p (elim (cases_eq p.node a) [
        | inl e ↦ ap (λ (v : Node). is_dead v.watch p.serial) (node_here w a u p.node e)
            ∙ D.dead p.serial (serials_differ p q ne (e ∙ sym home)) ∙ ap
            (λ (i : ℕ). is_dead (w.node i).watch p.serial) (sym e)
        | inr away ↦ ap (λ (v : Node). is_dead v.watch p.serial) (node_there w a u p.node away)
      ])

      same_call : (p : Process) → is_process q p ≡ false → call_at (turned a t u w) p ≡ call_at w p
      same_call p ne = part_same (λ v. call_of p v.calls) w a u (D.calls p
          ∙ ap (λ (b : Bool). if b then next else call_of p (w.node a).calls) ne) p.node

      own_call : call_at (turned a t u w) q ≡ next
      own_call = ap (λ (v : Node). call_of q v.calls) (node_here w a u q.node home) ∙ D.calls q
          ∙ ap (λ (b : Bool). if b then next else call_of q (w.node a).calls) (is_process_self q)

      same_counts : (p : Process) (x : ℕ) (id : Id) → count id p (at w.node a u.node x).locks ≡ count id p
          (w.node x).locks
      same_counts p x id = part_same (λ v. count id p v.locks) w a u (ap (count id p) D.locks) x

      no_echo_sent : (p : Process) (x : ℕ) → echoes p (sent_on a u x p.node) ≡ []
      no_echo_sent p x = nothing_if (echoes p) (x == a) (sent_to p.node u.sends)
          (ap (echoes p) (D.sent p.node) ∙ no_echo_if p l (L.echo p) (whom p.node)) refl

      up_of : (p : Process) → lives o (turned a t u w) p ≡ true → left w p.node ≡ false
      up_of p h = (live_parts o (turned a t u w) p h).up

      other : (p : Process) (x : ℕ) → is_process q p ≡ false → lives o w p ≡ true → IsUp o w x
          → Holding (turned a t u w) num2 p x
      other p x ne h up =
          let live : IsLive o w p = live_parts o w p h in
          let m : Mail a t u w p x = mail_moves o a t u w front p x live.up up.1 in
          live_along (view (call_at w p) x) (view (call_at (turned a t u w) p) x)
          (asks p (w.links.queue p.node x)) (asks p ((turned a t u w).links.queue p.node x))
          (echoes p (w.links.queue x p.node)) (echoes p ((turned a t u w).links.queue x p.node))
          (λ id. count id p (w.node x).locks) (λ id. count id p (at w.node a u.node x).locks)
          (λ id. num p id x) (λ id. num2 p id x)
          (ap (λ (c : Option LockCall). view c x) (same_call p ne))
          (letters_unmoved (asks p (read_on a t p.node x)) (asks p (sent_on a u p.node x)) (asks p (w.links.queue p.node x))
          (asks p ((turned a t u w).links.queue p.node x))
          (H.ask p p.node x) (nothing_if (asks p) (p.node == a) (sent_to x u.sends)
          (ap (asks p) (D.sent x) ∙ no_ask_if p l (L.other p ne) (whom x)) refl) m.ups)
          (letters_unmoved (echoes p (read_on a t x p.node)) (echoes p (sent_on a u x p.node))
          (echoes p (w.links.queue x p.node)) (echoes p ((turned a t u w).links.queue x p.node))
          (H.other p x p.node ne) (no_echo_sent p x) m.downs)
          (same_counts p x)
          (λ id. others p id x ne)
          (C.sessions p x h up)

      asked_if : (b : Bool) → asks q (if b then l ∷ [] else []) ≡ (if b then ask_of q l else [])
      asked_if true = append-nil (ask_of q l)
      asked_if false = refl

      own : (x : ℕ) → IsUp o w x → lives o (turned a t u w) q ≡ true → Holding (turned a t u w) num2 q x
      own x up h =
          let m : Mail a t u w q x = mail_moves o a t u w front q x (up_of q h) up.1 in
          let sends : asks q (sent_on a u q.node x) ≡ (if whom x then ask_of q l else []) = ap
          (λ (b : Bool). asks q (if b then sent_to x u.sends else [])) (eq-eqb q.node a home)
          ∙ ap (asks q) (D.sent x) ∙ asked_if (whom x) in
          live_along (view next x) (view (call_at (turned a t u w) q) x)
          (asks q (w.links.queue q.node x) ++ (if whom x then ask_of q l else []))
          (asks q ((turned a t u w).links.queue q.node x))
          m.downs.middle (echoes q ((turned a t u w).links.queue x q.node))
          (λ id. count id q (w.node x).locks) (λ id. count id q (at w.node a u.node x).locks)
          (λ id. num2 q id x) (λ id. num2 q id x)
          (ap (λ (c : Option LockCall). view c x) own_call)
          (m.ups.now ∙ ap (λ (xs : List Ask). m.ups.middle ++ xs) sends
          ∙ ap (λ (xs : List Ask). xs ++ (if whom x then ask_of q l else []))
          (sym (m.ups.was ∙ ap (λ (xs : List Ask). xs ++ m.ups.middle) (H.ask q q.node x))))
          (m.downs.now ∙ ap (λ (xs : List Echo). m.downs.middle ++ xs) (no_echo_sent q x) ∙ append-nil m.downs.middle)
          (same_counts q x)
          (λ id. refl)
          (each x up h m.downs.middle m.downs.was)

-- what a node does for the process q, whose letter it reads: its lock table changes, and it sends one letter to some
-- nodes
pub record Service (o : Opening) (q : Process) (l : Letter) (whom : Nodes) (w : World) (a : ℕ) (u : Turn) : Type 0 where
  pub calls : u.node.calls ≡ (w.node a).calls
  pub dead : u.node.watch.dead ≡ (w.node a).watch.dead
  pub sound : Sound u.node.locks
  pub counts : (id : Id) (p : Process) → is_process q p ≡ false → count id p u.node.locks ≡ count id p (w.node a).locks
  pub sent : (y : ℕ) → sent_to y u.sends ≡ (if whom y then l ∷ [] else [])
  pub near : (y : ℕ) → whom y ≡ true → y ≡ q.node

module _ (o : Opening) (a f : ℕ) (asking : Letter) (u : Turn) (w : World) (num : Numbers) (C : Clients o w num)
    (front : FrontTaken o a w (Some (record { sender = f; letter = asking }))) where
  abbrev pub its_letter : Option Taken
  its_letter = Some (record { sender = f; letter = asking })

  -- a service keeps the sessions of all pairs but one, and that one where it goes on so
  pub served : (q : Process) (l : Letter) (whom : Nodes) → q.node ≡ f → Service o q l whom w a u → IsAskOf q asking
      → IsEchoOf q l
      → (lives o w q ≡ true → IsUp o w a → (ups2 : List Ask) → asks q (w.links.queue q.node a) ≡ ask_of q asking ++ ups2
      → Live (view (call_at w q) a) ups2 (echoes q (w.links.queue a q.node) ++
      (if whom q.node then echo_of q l else [])) (λ id. count id q u.node.locks) (λ id. num q id a))
      → Clients o (turned a its_letter u w) num
  served q l whom home S A E here = kept o a its_letter u w num num C (record {
    sound = S.sound;
    sends = λ n. subst (λ (ls : List Letter). all_named a n ls ≡ true) (sym (S.sent n)) (named_if n (whom n) refl);
    rounds = λ p c e. C.rounds p c (sym (same_call p) ∙ e);
    callers = λ p h up. same_call p ∙ C.callers p (sym (same p) ∙ h) up;
    strangers = λ p id x h. C.strangers p id x (sym (same p) ∙ h);
    sessions = λ p x h up. by_pair p x (sym (same p) ∙ h) up (is_process q p) (x == a) refl refl;
  })
    where
      named_if : (n : ℕ) (b : Bool) → whom n ≡ b → all_named a n (if b then l ∷ [] else []) ≡ true
      named_if n true e = rw (subst (λ (i : ℕ). is_named a i l ≡ true) (sym (S.near n e)) (E.named a)) refl
      named_if n false e = refl

      same : (p : Process) → lives o (turned a its_letter u w) p ≡ lives o w p
      same p = lives_along o a its_letter u w p (part_same (λ v. is_dead v.watch p.serial) w a u
          (ap (λ (ds : List ℕ). list_any (λ d. d == p.serial) ds) S.dead) p.node)

      same_call : (p : Process) → call_at (turned a its_letter u w) p ≡ call_at w p
      same_call p = part_same (λ v. call_of p v.calls) w a u (ap (call_of p) S.calls) p.node

      no_ask_sent : (p : Process) (x : ℕ) → asks p (sent_on a u p.node x) ≡ []
      no_ask_sent p x = nothing_if (asks p) (p.node == a) (sent_to x u.sends)
          (ap (asks p) (S.sent x) ∙ no_ask_if p l (E.ask p) (whom x)) refl

      no_echo_read : (p : Process) (x : ℕ) → echoes p (read_on a its_letter x p.node) ≡ []
      no_echo_read p x = no_echo_if p asking (A.echo p) ((x == f) && (p.node == a))

      -- a pair that nothing comes or goes for
      apart : (p : Process) (x : ℕ) → lives o w p ≡ true → IsUp o w x → asks p (read_on a its_letter p.node x) ≡ []
          → echoes p (sent_on a u x p.node) ≡ []
          → ((id : Id) → count id p (at w.node a u.node x).locks ≡ count id p (w.node x).locks)
          → Holding (turned a its_letter u w) num p x
      apart p x h up read sends counts =
          let live : IsLive o w p = live_parts o w p h in
          let m : Mail a its_letter u w p x = mail_moves o a its_letter u w front p x live.up up.1 in
          live_along (view (call_at w p) x) (view (call_at (turned a its_letter u w) p) x)
          (asks p (w.links.queue p.node x)) (asks p ((turned a its_letter u w).links.queue p.node x))
          (echoes p (w.links.queue x p.node)) (echoes p ((turned a its_letter u w).links.queue x p.node))
          (λ id. count id p (w.node x).locks) (λ id. count id p (at w.node a u.node x).locks)
          (λ id. num p id x) (λ id. num p id x)
          (ap (λ (c : Option LockCall). view c x) (same_call p))
          (letters_unmoved (asks p (read_on a its_letter p.node x)) (asks p (sent_on a u p.node x))
          (asks p (w.links.queue p.node x)) (asks p ((turned a its_letter u w).links.queue p.node x))
          read (no_ask_sent p x) m.ups)
          (letters_unmoved (echoes p (read_on a its_letter x p.node)) (echoes p (sent_on a u x p.node))
          (echoes p (w.links.queue x p.node)) (echoes p ((turned a its_letter u w).links.queue x p.node))
          (no_echo_read p x) sends m.downs)
          counts
          (λ id. refl)
          (C.sessions p x h up)

      told_if : (b : Bool) → echoes q (if b then l ∷ [] else []) ≡ (if b then echo_of q l else [])
      told_if true = append-nil (echo_of q l)
      told_if false = refl

      -- q and the node itself
      at_home : lives o w q ≡ true → IsUp o w a → Holding (turned a its_letter u w) num q a
      at_home h up =
          let live : IsLive o w q = live_parts o w q h in
          let m : Mail a its_letter u w q a = mail_moves o a its_letter u w front q a live.up up.1 in
          let reads : asks q (read_on a its_letter q.node a) ≡ ask_of q asking = ap
          (λ (b : Bool). asks q (if b && (a == a) then asking ∷ [] else [])) (eq-eqb q.node f home)
          ∙ ap (λ (b : Bool). asks q (if b then asking ∷ [] else [])) (eq-eqb a a refl)
          ∙ append-nil (ask_of q asking) in
          let sends : echoes q (sent_on a u a q.node) ≡ (if whom q.node then echo_of q l else []) = ap
          (λ (b : Bool). echoes q (if b then sent_to q.node u.sends else [])) (eq-eqb a a refl)
          ∙ ap (echoes q) (S.sent q.node) ∙ told_if (whom q.node) in
          live_along (view (call_at w q) a) (view (call_at (turned a its_letter u w) q) a)
          m.ups.middle (asks q ((turned a its_letter u w).links.queue q.node a))
          (echoes q (w.links.queue a q.node) ++ (if whom q.node then echo_of q l else []))
          (echoes q ((turned a its_letter u w).links.queue a q.node))
          (λ id. count id q u.node.locks) (λ id. count id q (at w.node a u.node a).locks)
          (λ id. num q id a) (λ id. num q id a)
          (ap (λ (c : Option LockCall). view c a) (same_call q))
          (m.ups.now ∙ ap (λ (xs : List Ask). m.ups.middle ++ xs) (no_ask_sent q a) ∙ append-nil m.ups.middle)
          (m.downs.now ∙ ap (λ (xs : List Echo). m.downs.middle ++ xs) sends
          ∙ ap (λ (xs : List Echo). xs ++ (if whom q.node then echo_of q l else []))
          (sym (m.downs.was ∙ ap (λ (xs : List Echo). xs ++ m.downs.middle) (no_echo_read q a))))
          (λ id. ap (λ (v : Node). count id q v.locks) (node_here w a u a refl))
          (λ id. refl)
          (here h up m.ups.middle (m.ups.was ∙ ap (λ (xs : List Ask). xs ++ m.ups.middle) reads))

      by_pair : (p : Process) (x : ℕ) → lives o w p ≡ true → IsUp o w x → (b c : Bool) → is_process q p ≡ b
          → (x == a) ≡ c → Holding (turned a its_letter u w) num p x
      by_pair p x h up true true e k =
          let one : q ≡ p = is_process_same q p e in
          let there : x ≡ a = eqb-true x a k in
          subst (λ (i : ℕ). Holding (turned a its_letter u w) num p i) (sym there)
          (subst (λ (r : Process). Holding (turned a its_letter u w) num r a) one
          (at_home (subst (λ (r : Process). lives o w r ≡ true) (sym one) h)
          (subst (λ (i : ℕ). IsUp o w i) there up)))
      by_pair p x h up true false e k = apart p x h up
          (ap (λ (b : Bool). asks p (if (p.node == f) && b then asking ∷ [] else [])) k ∙ none (p.node == f))
          (ap (λ (b : Bool). echoes p (if b then sent_to p.node u.sends else [])) k)
          (λ id. ap (λ (b : Bool). count id p (if b then u.node else w.node x).locks) k)
        where
          none : (b : Bool) → asks p (if b && false then asking ∷ [] else []) ≡ []
          none true = refl
          none false = refl
      by_pair p x h up false c e k = apart p x h up
          (no_ask_if p asking (A.other p e) ((p.node == f) && (x == a)))
          (nothing_if (echoes p) (x == a) (sent_to p.node u.sends) (ap (echoes p) (S.sent p.node)
          ∙ no_echo_if p l (E.other p e) (whom p.node)) refl)
          (λ id. part_same (λ v. count id p v.locks) w a u (S.counts id p e) x)
