-- A join is answered `joined` while its admission holds.
use Rattle.std.proofs.Common.{ℕ, Bool, true, false, ◌≡◌, ◌==◌, Option, Some, None, List, [], ◌∷◌, ◌++◌, refl, sym, ap, ◌∙◌, subst}
use Rattle.std.specs.Prelude.{◌&&◌, ◌||◌, not, if◌then◌else◌}
use Rattle.std.specs.List.{AllByRecursion}
use Rattle.std.proofs.lemmas.Bool.{eq-eqb, ne_eqb}
use Rattle.registry_model.specs.Call.{NameCall, Reply, Joined, False, is_grant, reply_to}
use Rattle.registry_model.specs.Process.{Nodes}
use Rattle.registry_model.specs.Table.{Table}
use Rattle.registry_model.specs.History.{Entry, Standing, hold_at}
use Rattle.registry_model.specs.Settlement.{Fate}
use Rattle.protocol_model.specs.Node.{Node, Op, Current, is_writing}
use Rattle.protocol_model.specs.Event.{Answer}
use Rattle.protocol_model.specs.Client.{is_spent}
use Rattle.protocol_model.specs.Answers.{answer_to, is_admission_of}
use Rattle.protocol_model.specs.World.{Opening, World, join_number}
use Rattle.join_gates.proofs.Rules
use Rattle.join_gates.proofs.Invariants.{current, standing_at, Replicas, IsWritten}
use Rattle.join_gates.proofs.Made.{entered, answered, answer_of, entries_made, answers_made}
use Rattle.join_gates.proofs.Tokens.{Gate, Entering, is_entering, returns}
use Rattle.join_gates.proofs.Gates.{Gates}
use Rattle.join_gates.proofs.Pairs.{at_welcome}
use Rattle.join_gates.proofs.Pasts.{Admitted, admitted_holds, admitted_along, admitted_back_along, have_done, have_admitted}
use Rattle.join_gates.proofs.Still.{effect-standing, effect-legal}
use Rattle.fitting.proofs.Accounts.{is_word}
use Rattle.fitting.proofs.Settling.{seen_in-word}
use Rattle.fitting.proofs.Chains.{Ground}

-- what holds of each element of two lists
pub all_append : {X : Type 0} (P : X → Type 0) (xs ys : List X) → AllByRecursion P xs → AllByRecursion P ys
    → AllByRecursion P (xs ++ ys)
all_append P [] ys p q = q
all_append P (x ∷ xs) ys p q = (p.0, all_append P xs ys p.1 q)

pub all_map : {X : Type 0} (P Q : X → Type 0) → ((x : X) → P x → Q x) → (xs : List X) → AllByRecursion P xs
    → AllByRecursion Q xs
all_map P Q f [] p = tt
all_map P Q f (x ∷ xs) p = (f x p.0, all_map P Q f xs p.1)

-- the answer tells node a that its join was granted, whose admission holds by another node
abbrev pub TellsJoin : ℕ → Standing → Standing → Answer → Type 0
TellsJoin a t u s = s.reply ≡ Joined → (k : ℕ) × (f : ℕ) × (s ≡ answer_to a k Joined) × (f ≡ a → ⊥)
    × Admitted t a k f × Admitted u a k f

-- a reply to a name call
abbrev is_call_reply : Reply → Bool
is_call_reply Reply.Yes = true
is_call_reply Reply.No = true
is_call_reply Reply.Ok = true
is_call_reply Reply.UnknownNode = true
is_call_reply _ = false

reply_to-call : (members : Nodes) (table : Table) (call : NameCall)
    → is_call_reply (reply_to members table call) ≡ true
reply_to-call members table (NameCall.Register e) = go (not (members e.owner.node)) (_)
  where
    go : (b c : Bool) → is_call_reply (if b then Reply.UnknownNode else (if c then Reply.No else Reply.Yes)) ≡ true
    go true c = refl
    go false true = refl
    go false false = refl
reply_to-call members table (NameCall.ReRegister e) = go (not (members e.owner.node))
  where
    go : (b : Bool) → is_call_reply (if b then Reply.UnknownNode else Reply.Yes) ≡ true
    go true = refl
    go false = refl
reply_to-call members table (NameCall.Unregister x) = refl

-- `joined` is none
not_joined : (r : Reply) → is_call_reply r ≡ true → r ≡ Joined → ⊥
not_joined r e q = cc (sym (ap is_call_reply q) ∙ e)

-- the answer, where it is `joined`, is that of this rule, which reads a welcome
abbrev pub IsOfWelcome : ℕ → Rules.Rule → Answer → Type 0
IsOfWelcome a r s = s.reply ≡ Joined → (f : ℕ) × (k : ℕ) × (members : Nodes) × (pairs : Table) × (told : Nodes)
    × (fate : Fate) × (r ≡ Rules.IsWelcomed f k members pairs told fate) × (s ≡ answer_to a k Joined)

-- so is each answer of a rule
pub of_welcome : (o : Opening) (a : ℕ) (w : World) (r : Rules.Rule) → Replicas o w → Rules.May o a w r
    → AllByRecursion (IsOfWelcome a r) (answered a r (w.node a))
of_welcome o a w Rules.Spawns R M = (λ e. cc, tt)
of_welcome o a w (Rules.LooksUp look) R M =
    (λ e. absurd (cc (sym (seen_in-word (w.node a).replica look) ∙ ap is_word e)), tt)
of_welcome o a w (Rules.SkipsJoin k m ops) R M = (λ e. cc, tt)
of_welcome o a w (Rules.Denies k call r) R M = (
  λ e. absurd (not_joined (reply_to (w.node a).replica.members (w.node a).replica.table call)
      (reply_to-call (w.node a).replica.members (w.node a).replica.table call) e),
  tt,
)
of_welcome o a w (Rules.Finishes op asked awaited reply) R M =
    done op reply (subst (IsWritten o w a) M.tested.0 (R.written a))
  where
    done : (op : Op) (reply : Option Reply) → IsWritten o w a (Current.Writing op asked awaited reply)
        → AllByRecursion (IsOfWelcome a (Rules.Finishes op asked awaited reply)) (answer_of a op reply)
    done (Op.Name k call) (Some x) W = (λ e. absurd (cc (sym W.3.1 ∙ ap is_grant e)), tt)
    done (Op.Name k call) None W = tt
    done _ reply W = tt
of_welcome o a w (Rules.EndsJoin f k) R M = (λ e. cc, tt)
of_welcome o a w (Rules.IsWelcomed f k members pairs told fate) R M =
    (λ e. (f, k, members, pairs, told, fate, refl, refl), tt)
of_welcome o a w (Rules.LosesContact k m) R M = (λ e. cc, tt)
of_welcome o a w (Rules.FailsLock c) R M = (λ e. cc, tt)
of_welcome o a w (Rules.WinsLock c r) R M = (λ e. cc, tt)
of_welcome o a w (Rules.GivesUpLock c r granted) R M = go (is_spent c.retries)
  where
    go : (t : Bool) → AllByRecursion (IsOfWelcome a (Rules.GivesUpLock c r granted))
        (if t then answer_to a c.number False ∷ [] else [])
    go true = (λ e. cc, tt)
    go false = tt
of_welcome o a w (Rules.DeletesNothing c) R M = (λ e. cc, tt)
of_welcome o a w (Rules.EndsDeletion f c owing) R M = (λ e. cc, tt)
of_welcome o a w (Rules.EndsDeletionDown d c owing) R M = (λ e. cc, tt)
of_welcome o a w _ R M = tt

-- where a node reads the welcome that it waits for, its admission holds, by another node
pub welcome_holds : (o : Opening) (a : ℕ) (w : World) (f k : ℕ) (members : Nodes) (pairs : Table) (told : Nodes)
    (fate : Fate) (gate : ℕ → ℕ → Gate)
    → Replicas o w → Gates o w gate → Rules.May o a w (Rules.IsWelcomed f k members pairs told fate)
    → (f ≡ a → ⊥) × Admitted (standing_at o w) a k f
welcome_holds o a w f k members pairs told fate gate R G M = (apart, here)
  where
    shown : (gate a f ≡ Entering) × (returns M.front.1.0 ≡ [])
    shown = at_welcome (returns M.front.1.0) (gate a f) (sym (ap returns M.front.1.1) ∙ G.back a f M.running)

    found : (i : ℕ) × (current o w a ≡ Current.Joining i f) × Admitted (standing_at o w) a i f
    found = (G.facts a f).entering (ap is_entering shown.0) M.running

    here : Admitted (standing_at o w) a k f
    here = subst (λ (i : ℕ). Admitted (standing_at o w) a i f) (cc (sym M.tested.1 ∙ found.1)) found.2

    apart : f ≡ a → ⊥
    apart e = cc (sym (admitted_holds (standing_at o w) a k f here) ∙ R.holds f
        ∙ ap (λ (x : ℕ). is_writing (current o w x)) e ∙ ap is_writing M.tested.1)

-- an answer `joined` of a rule
joined_rule : (o : Opening) (a : ℕ) (w : World) (r : Rules.Rule) (gate : ℕ → ℕ → Gate) → Replicas o w
    → Gates o w gate → Rules.May o a w r
    → AllByRecursion (TellsJoin a (standing_at o w) (standing_at o w)) (answered a r (w.node a))
joined_rule o a w r gate R G M =
    all_map (IsOfWelcome a r) (TellsJoin a (standing_at o w) (standing_at o w)) tells (answered a r (w.node a))
    (of_welcome o a w r R M)
  where
    tells : (s : Answer) → IsOfWelcome a r s → TellsJoin a (standing_at o w) (standing_at o w) s
    tells s T e =
        let x : (f : ℕ) × (k : ℕ) × (members : Nodes) × (pairs : Table) × (told : Nodes) × (fate : Fate)
        × (r ≡ Rules.IsWelcomed f k members pairs told fate) × (s ≡ answer_to a k Joined) = T e in
        let h : (x.0 ≡ a → ⊥) × Admitted (standing_at o w) a x.1 x.0 =
        welcome_holds o a w x.0 x.1 x.2 x.3 x.4 x.5 gate R G (subst (Rules.May o a w) x.6 M) in
        (x.1, x.0, x.7, h.0, h.1, h.1)

-- node a ends no operation of another, and admits nobody for it
done_elsewhere : (a m : ℕ) (number : ℕ → ℕ) (r : Rules.Rule) (v : Node) → (m == a) ≡ false
    → have_done m (entered a number r v) ≡ false
done_elsewhere a m number (Rules.Finishes op asked awaited reply) v ne = ap (λ (b : Bool). b || false) ne
done_elsewhere a m number _ v ne = refl

admitted_elsewhere : (a m : ℕ) (number : ℕ → ℕ) (r : Rules.Rule) (v : Node) → (m == a) ≡ false
    → have_admitted m (entered a number r v) ≡ false
admitted_elsewhere a m number (Rules.Admits j pairs r) v ne = ap (λ (b : Bool). b || false) ne
admitted_elsewhere a m number _ v ne = refl

-- an admission by another node holds before a rule where it does behind it, and behind it where it does before
pub on_rule : (o : Opening) (a : ℕ) (w : World) (r : Rules.Rule) → Replicas o (Rules.effect o a r w) → (k f : ℕ)
    → (f ≡ a → ⊥)
    → Admitted (standing_at o w) a k f → Admitted (standing_at o (Rules.effect o a r w)) a k f
on_rule o a w r R k f ne A = subst (λ (t : Standing). Admitted t a k f) (sym (effect-standing o a w r))
    (admitted_along (Rules.turn_by o a w r).entries (standing_at o w) a k f A (effect-legal o a w r R)
    (ap (have_done f) (entries_made o a (join_number w) r (w.node a))
    ∙ done_elsewhere a f (join_number w) r (w.node a) (ne_eqb f a ne)))

before_rule : (o : Opening) (a : ℕ) (w : World) (r : Rules.Rule) → Replicas o (Rules.effect o a r w) → (k f : ℕ)
    → (f ≡ a → ⊥)
    → Admitted (standing_at o (Rules.effect o a r w)) a k f → Admitted (standing_at o w) a k f
before_rule o a w r R k f ne A =
    admitted_back_along (Rules.turn_by o a w r).entries (standing_at o w) a k f (effect-legal o a w r R)
    (ap (have_admitted f) (entries_made o a (join_number w) r (w.node a))
    ∙ admitted_elsewhere a f (join_number w) r (w.node a) (ne_eqb f a ne))
    (subst (λ (t : Standing). Admitted t a k f) (effect-standing o a w r) A)

module _ (o : Opening) (Good : World → Type 0) (K : Ground o Good) (a : ℕ) where
  on_chain : (rs : List Rules.Rule) (w : World) → Good w → Rules.MayAll o a rs w → (k f : ℕ) → (f ≡ a → ⊥)
      → Admitted (standing_at o w) a k f → Admitted (standing_at o (Rules.effects o a rs w)) a k f
  on_chain [] w G M k f ne A = A
  on_chain (r ∷ rs) w G M k f ne A = on_chain rs (Rules.effect o a r w) (K.keeps a w r G M.0) M.1 k f ne
      (on_rule o a w r (K.replicas (Rules.effect o a r w) (K.keeps a w r G M.0)) k f ne A)

  -- an answer `joined` of a chain: the admission holds before and behind it
  pub joined_along : (rs : List Rules.Rule) (w : World) → Good w → Rules.MayAll o a rs w
      → AllByRecursion (TellsJoin a (standing_at o w) (standing_at o (Rules.effects o a rs w)))
      (Rules.answers_by o a rs w)
  joined_along [] w G M = tt
  joined_along (r ∷ rs) w G M = all_append (TellsJoin a (standing_at o w) (standing_at o (Rules.effects o a rs v)))
      (Rules.turn_by o a w r).answers (Rules.answers_by o a rs v)
      (subst (AllByRecursion (TellsJoin a (standing_at o w) (standing_at o (Rules.effects o a rs v))))
      (sym (answers_made o a (join_number w) r (w.node a)))
      (all_map (TellsJoin a (standing_at o w) (standing_at o w))
      (TellsJoin a (standing_at o w) (standing_at o (Rules.effects o a rs v)))
      (λ s T e. let x : (k : ℕ) × (f : ℕ) × (s ≡ answer_to a k Joined) × (f ≡ a → ⊥) × Admitted (standing_at o w) a k f
      × Admitted (standing_at o w) a k f = T e in
      (x.0, x.1, x.2, x.3, x.4, on_chain (r ∷ rs) w G M x.0 x.1 x.3 x.4))
      (answered a r (w.node a)) (joined_rule o a w r (K.joins w G).gate (K.replicas w G) (K.joins w G).gates M.0)))
      (all_map (TellsJoin a (standing_at o v) (standing_at o (Rules.effects o a rs v)))
      (TellsJoin a (standing_at o w) (standing_at o (Rules.effects o a rs v)))
      (λ s T e. let x : (k : ℕ) × (f : ℕ) × (s ≡ answer_to a k Joined) × (f ≡ a → ⊥) × Admitted (standing_at o v) a k f
      × Admitted (standing_at o (Rules.effects o a rs v)) a k f = T e in
      (x.0, x.1, x.2, x.3, before_rule o a w r (K.replicas v (K.keeps a w r G M.0)) x.0 x.1 x.3 x.4, x.5))
      (Rules.answers_by o a rs v) (joined_along rs v (K.keeps a w r G M.0) M.1))
    where
      v : World
      v = Rules.effect o a r w

-- the operation that holds at a is the admission of its join
pub admission_of : (t : Standing) (a k f : ℕ) → Admitted t a k f
    → is_admission_of (answer_to a k Joined) (hold_at t a) ≡ true
admission_of t a k f A =
    ap (λ (b : Bool). is_admission_of (answer_to a k Joined) (if b then t.held else t.lone_held a)) A.inside
    ∙ ap (is_admission_of (answer_to a k Joined)) A.held
    ∙ ap (λ (e : Entry). is_admission_of (answer_to a k Joined) (Some (record A.hold { entry = e }))) A.entry
    ∙ ap (λ (b : Bool). b && (k == k)) (eq-eqb a a refl) ∙ eq-eqb k k refl
