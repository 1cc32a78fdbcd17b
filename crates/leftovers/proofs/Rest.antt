-- A node at rest, as it is between two events: what it awaits hasn't been told to have left, and there is something to await.
use mathlib.Core.Logic.{◌⊎◌}
use Rattle.std.proofs.Common.{ℕ, Bool, true, false, ◌≡◌, ◌<◌, Some, None, List, [], ◌∷◌, refl, sym, ap, ◌∙◌, subst, inl, inr}
use Rattle.std.specs.Prelude.{if◌then◌else◌}
use Rattle.std.proofs.lemmas.Bool.{cases_eq, eqb-true}
use Rattle.registry_model.specs.Process.{Process, is_process, Nodes, at}
use Rattle.registry_model.specs.Registry.{Replica}
use Rattle.protocol_model.specs.Round.{Round, is_empty, begin, asked, owes, answer, down, is_over}
use Rattle.protocol_model.specs.Node.{Node, Current, LockPhase, LockCall, call_of, put_call, drop_call}
use Rattle.protocol_model.specs.Event.{is_join}
use Rattle.protocol_model.specs.World.{Opening, in_world}
use Rattle.registry_model.proofs.Updates.{by_test, at_same}
use Rattle.headline.proofs.Indices.{some_of}
use Rattle.headline.proofs.Rules.{is_ordered}
use Rattle.walk.proofs.LockRounds.{IsOwn}
use Rattle.walk.proofs.Calls.{is_ordered-drop_call, is_ordered-put_call}
use Rattle.headline.proofs.Calls.{call_of-put, call_of-drop, holder_of_call}
use Rattle.headline.proofs.Ids.{is_process_self}
use Rattle.headline.proofs.Ongoing.{asked_answer, asked_down, asked_begin}
use Rattle.leftovers.proofs.RoundFacts.{is_to_come, is_before, to_come_answer, to_come_down, to_come_gone, to_come_begin, boss_answer, boss_down, boss_begin, over_begin}

-- these are awaited: nodes of the world, of which none was told to have left; there is one
pub record Awaited (o : Opening) (told s : Nodes) : Type 0 where
  pub untold : (x : ℕ) → told x ≡ true → s x ≡ false
  pub inside : (x : ℕ) → s x ≡ true → in_world o x ≡ true
  pub some : is_empty o.bound s ≡ false

-- a round: nobody who was told to have left is to answer; its boss was asked
pub record RoundOn (o : Opening) (told : Nodes) (r : Round) : Type 0 where
  pub untold : (x : ℕ) → told x ≡ true → is_to_come (r.mark x) ≡ false
  pub inside : (x : ℕ) → asked r x ≡ true → in_world o x ≡ true
  pub boss : is_before (r.mark r.boss) ≡ false

-- and it isn't over
pub record RoundRests (o : Opening) (told : Nodes) (r : Round) : Type 0 where
  pub on : RoundOn o told r
  pub going : is_over o.bound r ≡ false

abbrev pub WorkRests : Opening → Nodes → Current → Type 0
WorkRests o told (Current.Asking op r) = (is_join op ≡ false) × RoundRests o told r
WorkRests o told (Current.Waiting op) = is_join op ≡ false
WorkRests o told (Current.Writing op asked awaited reply) = Awaited o told awaited
WorkRests o told (Current.Joining k m) = told m ≡ false
WorkRests o told Current.Free = Unit {0}

abbrev pub PhaseRests : Opening → Nodes → LockPhase → Type 0
PhaseRests o told (LockPhase.Asking r) = RoundRests o told r
PhaseRests o told LockPhase.Waiting = Unit {0}
PhaseRests o told (LockPhase.Deleting owing) = Awaited o told owing

-- one of these calls
abbrev pub Among : List LockCall → LockCall → Type 0
Among [] c = ⊥
Among (d ∷ ds) c = (c ≡ d) ⊎ Among ds c

-- the members: this node is one, none was told to have left
pub record Grouped (o : Opening) (a : ℕ) (v : Replica) : Type 0 where
  pub apart : (x : ℕ) → v.members x ≡ true → v.told x ≡ false
  pub itself : v.members a ≡ true
  pub inside : (x : ℕ) → v.members x ≡ true → in_world o x ≡ true

-- the calls, but for these
pub record CallsRest (o : Opening) (a : ℕ) (told : Nodes) (ks but : List LockCall) : Type 0 where
  pub sorted : is_ordered a ks ≡ true
  pub calls : (p : Process) (c : LockCall) → call_of p ks ≡ Some c → PhaseRests o told c.phase ⊎ Among but c

-- all but what the registrar is at
pub record Sides (o : Opening) (a : ℕ) (v : Replica) (ks but : List LockCall) : Type 0 where
  pub group : Grouped o a v
  pub calls : CallsRest o a v.told ks but

-- all of a node, but for these calls
pub record Stands (o : Opening) (a : ℕ) (but : List LockCall) (v : Node) : Type 0 where
  pub sides : Sides o a v.replica v.calls but
  pub work : WorkRests o v.replica.told v.current

abbrev pub Rests : Opening → ℕ → Node → Type 0
Rests o a v = Stands o a [] v

-- one told more, at most
abbrev pub ToldMore : ℕ → Nodes → Nodes → Type 0
ToldMore d told more = (x : ℕ) → more x ≡ true → (x ≡ d) ⊎ (told x ≡ true)

module _ (o : Opening) where
  pub begin_rests : (told s : Nodes) → ((x : ℕ) → s x ≡ true → told x ≡ false) → ((x : ℕ) → s x ≡ true
      → in_world o x ≡ true) → is_empty o.bound s ≡ false → RoundRests o told (begin o.bound s)
  begin_rests told s apart inside some =
      let one : (c : ℕ) × (c < o.bound) × (s c ≡ true) = some_of o.bound s some in
      record {
        on = record {
          untold = λ x h. to_come_begin o.bound s x (out x h (s x) refl);
          inside = λ x h. inside x (sym (asked_begin o.bound s x) ∙ h);
          boss = boss_begin o.bound s one.0 one.1 one.2;
        };
        going = over_begin o.bound s;
      }
    where
      out : (x : ℕ) → told x ≡ true → (b : Bool) → s x ≡ b → b ≡ false
      out x h true e = cc (apart x e, h)
      out x h false e = refl

  pub answer_on : (told : Nodes) (f : ℕ) (g : Bool) (r : Round) → owes r f ≡ true → RoundOn o told r
      → RoundOn o told (answer f g r)
  answer_on told f g r owe R = record {
    untold = λ x h. to_come_answer f g r owe x (R.untold x h);
    inside = λ x h. R.inside x (sym (asked_answer f g r owe x) ∙ h);
    boss = boss_answer f g r owe R.boss;
  }

  pub down_on : (told more : Nodes) (d : ℕ) (r : Round) → ToldMore d told more → RoundOn o told r
      → RoundOn o more (down d r)
  down_on told more d r m R = record {
    untold = λ x h. elim (cases_eq x d) [
      | inl e ↦ subst (λ (y : ℕ). is_to_come ((down d r).mark y) ≡ false) (sym e) (to_come_gone d r)
      | inr ne ↦ elim (m x h) [
        | inl e ↦ absurd (ne e)
        | inr k ↦ to_come_down d r x ne (R.untold x k)
      ]
    ];
    inside = λ x h. R.inside x (sym (asked_down d r x) ∙ h);
    boss = boss_down d r R.boss;
  }

  -- one less is awaited
  pub less_awaited : (told more : Nodes) (d : ℕ) (s : Nodes) → ToldMore d told more → Awaited o told s
      → is_empty o.bound (at s d false) ≡ false → Awaited o more (at s d false)
  less_awaited told more d s m A some = record {
    untold = λ x h. elim (m x h) [
      | inl e ↦ ap (at s d false) e ∙ at_same s d false
      | inr k ↦ by_test d (λ y t. s y ≡ false → (if t then false else s y) ≡ false) (λ q. refl) (λ y ne q. q) x
          (A.untold x k)
    ];
    inside = λ x h. A.inside x
        (by_test d (λ y t. (if t then false else s y) ≡ true → s y ≡ true) (λ q. cc) (λ y ne q. q) x h);
    some = some;
  }

  -- who isn't awaited may be told
  pub same_awaited : (told more : Nodes) (d : ℕ) (s : Nodes) → ToldMore d told more → Awaited o told s → s d ≡ false
      → Awaited o more s
  same_awaited told more d s m A none = record {
    untold = λ x h. elim (m x h) [
      | inl e ↦ ap s e ∙ none
      | inr k ↦ A.untold x k
    ];
    inside = A.inside;
    some = A.some;
  }

module _ (o : Opening) (a : ℕ) (told : Nodes) (ks : List LockCall) where
  -- the call of a process is put, or ends; this call may be excused before, and isn't then
  put_by : (c d : LockCall) (cs but : List LockCall) → d.holder ≡ c.holder → IsOwn a d.holder
      → PhaseRests o told d.phase ⊎ Among but d → ((x : LockCall) → Among cs x → Among but x)
      → CallsRest o a told ks (c ∷ cs) → CallsRest o a told (put_call d ks) but
  put_by c d cs but same own ok wider R = record {
    sorted = is_ordered-put_call a d ks own.0 own.1 R.sorted;
    calls = λ p x e. go p x (is_process d.holder p) refl
        (sym (call_of-put a p d ks (eqb-true d.holder.node a own.0) R.sorted) ∙ e);
  }
    where
      go : (p : Process) (x : LockCall) (b : Bool) → is_process d.holder p ≡ b
          → (if b then Some d else call_of p ks) ≡ Some x → PhaseRests o told x.phase ⊎ Among but x
      go p x true k e = let is : d ≡ x = cc e in
          subst (λ (y : LockCall). PhaseRests o told y.phase ⊎ Among but y) is ok
      go p x false k e = elim (R.calls p x e) [
        | inl h ↦ inl h
        | inr i ↦ other i
      ]
        where
          other : Among (c ∷ cs) x → PhaseRests o told x.phase ⊎ Among but x
          other (inl h) =
              let here : d.holder ≡ p = same ∙ ap (λ (y : LockCall). y.holder) (sym h) ∙ holder_of_call p ks x e in
              absurd (cc (ap (is_process d.holder) (sym here), is_process_self d.holder, k))
          other (inr h) = inr (wider x h)

  pub put_rests : (c d : LockCall) (cs : List LockCall) → d.holder ≡ c.holder → IsOwn a d.holder
      → PhaseRests o told d.phase → CallsRest o a told ks (c ∷ cs) → CallsRest o a told (put_call d ks) cs
  put_rests c d cs same own ok R = put_by c d cs cs same own (inl ok) (λ x h. h) R

  pub put_open : (c d : LockCall) (cs : List LockCall) → d.holder ≡ c.holder → IsOwn a d.holder
      → CallsRest o a told ks (c ∷ cs) → CallsRest o a told (put_call d ks) (d ∷ cs)
  put_open c d cs same own R = put_by c d cs (d ∷ cs) same own (inr (inl refl)) (λ x h. inr h) R

  pub drop_rests : (c : LockCall) (cs : List LockCall) → CallsRest o a told ks (c ∷ cs)
      → CallsRest o a told (drop_call c.holder ks) cs
  drop_rests c cs R = record {
    sorted = is_ordered-drop_call a c.holder ks R.sorted;
    calls = λ p x e. go p x (is_process c.holder p) refl (sym (call_of-drop p c.holder ks) ∙ e);
  }
    where
      go : (p : Process) (x : LockCall) (b : Bool) → is_process c.holder p ≡ b
          → (if b then None else call_of p ks) ≡ Some x → PhaseRests o told x.phase ⊎ Among cs x
      go p x true k e = cc
      go p x false k e = elim (R.calls p x e) [
        | inl h ↦ inl h
        | inr i ↦ other i
      ]
        where
          other : Among (c ∷ cs) x → PhaseRests o told x.phase ⊎ Among cs x
          other (inl h) =
              let here : c.holder ≡ p = ap (λ (y : LockCall). y.holder) (sym h) ∙ holder_of_call p ks x e in
              absurd (cc (ap (is_process c.holder) (sym here), is_process_self c.holder, k))
          other (inr h) = inr h

  pub drop_any : (q : Process) (cs : List LockCall) → CallsRest o a told ks cs
      → CallsRest o a told (drop_call q ks) cs
  drop_any q cs R = record {
    sorted = is_ordered-drop_call a q ks R.sorted;
    calls = λ p x e. go p x (is_process q p) (sym (call_of-drop p q ks) ∙ e);
  }
    where
      go : (p : Process) (x : LockCall) (b : Bool) → (if b then None else call_of p ks) ≡ Some x
          → PhaseRests o told x.phase ⊎ Among cs x
      go p x true e = cc
      go p x false e = R.calls p x e

  -- a call that rests needs no excuse
  pub unexcused : (c : LockCall) (cs : List LockCall) → PhaseRests o told c.phase → CallsRest o a told ks (c ∷ cs)
      → CallsRest o a told ks cs
  unexcused c cs ok R = record {
    sorted = R.sorted;
    calls = λ p x e. elim (R.calls p x e) [
      | inl h ↦ inl h
      | inr i ↦ other x i
    ];
  }
    where
      other : (x : LockCall) → Among (c ∷ cs) x → PhaseRests o told x.phase ⊎ Among cs x
      other x (inl h) = inl (subst (λ (y : LockCall). PhaseRests o told y.phase) (sym h) ok)
      other x (inr h) = inr h

  pub excused : (c : LockCall) → CallsRest o a told ks [] → CallsRest o a told ks (c ∷ [])
  excused c R = record {
    sorted = R.sorted;
    calls = λ p x e. elim (R.calls p x e) [
      | inl h ↦ inl h
      | inr i ↦ absurd i
    ];
  }
