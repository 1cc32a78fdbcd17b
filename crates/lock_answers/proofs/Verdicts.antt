-- Which rules answer lock calls, and of which calls: `false` is said where a spent call gives up, or where there is
-- nobody to ask, and `true` where a call ends well.
use Rattle.std.proofs.Common.{ℕ, Bool, true, false, ◌≡◌, Option, Some, None, List, [], ◌∷◌, refl, sym, ap, subst, inl, inr}
use Rattle.std.specs.Prelude.{Contains, if◌then◌else◌}
use Rattle.std.specs.List.{list_all}
use Rattle.std.proofs.lemmas.List.Elements.{Contains-append_cases}
use Rattle.registry_model.specs.Process.{Process, Nodes}
use Rattle.registry_model.specs.Call.{Look, Whereis, RegisteredNames, NoticesOf, Reply, True, False, pid_or_undefined, reply_to, seen_in}
use Rattle.registry_model.proofs.Lists.{Contains-cases, Contains-nil}
use Rattle.protocol_model.specs.Round.{Round, is_over, asked, GiveBack, ending}
use Rattle.protocol_model.specs.Node.{Op, Current, LockPhase, LockCall}
use Rattle.protocol_model.specs.Event.{Answer}
use Rattle.protocol_model.specs.Client.{is_spent}
use Rattle.protocol_model.specs.Answers.{answer_to}
use Rattle.protocol_model.specs.World.{Opening, World, join_number}
use Rattle.moves.proofs.Rules
use Rattle.moves.proofs.Rules.{Rule, IsOpen, May, MayAll, effect, turn_by, answers_by}
use Rattle.moves.proofs.Invariants.{IsWritten}
use Rattle.moves.proofs.Indices.{both}
use Rattle.registry_model.specs.Table.{get}
use Rattle.registry_model.specs.Registry.{Replica}
use Rattle.walk.proofs.ChainKinds.{Hearing, suits}
use Rattle.leftovers.proofs.Made.{answered, answer_of, answers_made}
use Rattle.leftovers.proofs.FittingAccounts.{is_word}
use Rattle.leftovers.proofs.FittingSettling.{reply_to-word, grant_word}
use Rattle.leftovers.proofs.Grounds.{Base, base_keeps, replicas}

-- the answer to a lock call
abbrev pub is_verdict : Reply → Bool
is_verdict True = true
is_verdict False = true
is_verdict _ = false

pub word_no_verdict : (r : Reply) → is_word r ≡ true → is_verdict r ≡ false
word_no_verdict True h = cc
word_no_verdict False h = cc
word_no_verdict _ h = refl

look_no_verdict : (v : Replica) (look : Look) → is_verdict (seen_in v look) ≡ false
look_no_verdict v (Whereis x) = go (get x v.table)
  where
    go : (p : Option Process) → is_verdict (pid_or_undefined p) ≡ false
    go None = refl
    go (Some p) = refl
look_no_verdict v RegisteredNames = refl
look_no_verdict v (NoticesOf p) = refl

-- s is the `false` of an open call whose retries are spent, and whose round at node a has failed
pub record GaveUp (o : Opening) (a : ℕ) (w : World) (s : Answer) : Type 0 where
  pub call : LockCall
  pub round : Round
  pub granted : Nodes
  pub open_call : IsOpen (w.node a) call (LockPhase.Asking round)
  pub over : is_over o.bound round ≡ true
  pub failed : ending o.bound (asked round) round ≡ GiveBack granted
  pub spent : is_spent call.retries ≡ true
  pub node : s.node ≡ a
  pub number : s.number ≡ call.number

-- s is the `true` of an open call
pub record EndedWell (a : ℕ) (w : World) (s : Answer) : Type 0 where
  pub call : LockCall
  pub phase : LockPhase
  pub open_call : IsOpen (w.node a) call phase
  pub node : s.node ≡ a
  pub number : s.number ≡ call.number

-- what a lock call's answer says of the world before the rule that gave it
pub record Said (o : Opening) (a : ℕ) (w : World) (s : Answer) : Type 0 where
  pub failed : s.reply ≡ False → GaveUp o a w s
  pub won : s.reply ≡ True → EndedWell a w s

module _ (o : Opening) (a : ℕ) (w : World) (s : Answer) where
  -- it is no lock call's answer
  no_verdict : (x : Answer) → is_verdict x.reply ≡ false → Contains (x ∷ []) s → Said o a w s
  no_verdict x h c = elim (Contains-cases x [] s c) [
    | inl e ↦ record {
      failed = λ f. cc (ap is_verdict f, ap (λ (y : Answer). is_verdict y.reply) e, h);
      won = λ f. cc (ap is_verdict f, ap (λ (y : Answer). is_verdict y.reply) e, h);
    }
    | inr none ↦ absurd (Contains-nil s none)
  ]

  silent : Contains [] s → Said o a w s
  silent c = absurd (Contains-nil s c)

  -- it is that of this call, which ends well
  wins : (c : LockCall) (phase : LockPhase) → IsOpen (w.node a) c phase
      → Contains (answer_to a c.number True ∷ []) s → Said o a w s
  wins c phase is k = elim (Contains-cases (answer_to a c.number True) [] s k) [
    | inl e ↦ record {
      failed = λ f. cc (ap is_false f, ap (λ (y : Answer). is_false y.reply) e);
      won = λ f. record {
        call = c;
        phase = phase;
        open_call = is;
        node = sym (ap (λ (y : Answer). y.node) e);
        number = sym (ap (λ (y : Answer). y.number) e);
      };
    }
    | inr none ↦ absurd (Contains-nil s none)
  ]
    where
      is_false : Reply → Bool
      is_false False = true
      is_false _ = false

  pub said_by : (r : Rule) → suits Hearing r ≡ true → Base o w → May o a w r → Contains (answered a r (w.node a)) s
      → Said o a w s
  said_by Rules.Spawns h B m c = no_verdict _ refl c
  said_by (Rules.LooksUp look) h B m c = no_verdict _ (look_no_verdict (w.node a).replica look) c
  said_by (Rules.SkipsJoin k n ops) h B m c = no_verdict _ refl c
  said_by (Rules.Denies k call r) h B m c = no_verdict _
      (word_no_verdict (reply_to (w.node a).replica.members (w.node a).replica.table call)
      (reply_to-word (w.node a).replica.members (w.node a).replica.table call)) c
  said_by (Rules.Finishes op asked awaited reply) h B m c =
      words op reply (subst (IsWritten o w a) m.tested.0 ((replicas o w B).written a)) c
    where
      words : (op : Op) (reply : Option Reply) → IsWritten o w a (Current.Writing op asked awaited reply)
          → Contains (answer_of a op reply) s → Said o a w s
      words (Op.Name k call) (Some x) W c = no_verdict _ (word_no_verdict x (grant_word x W.3.1)) c
      words (Op.Name k call) None W c = silent c
      words (Op.Strike p) reply W c = silent c
      words (Op.Join k n) reply W c = silent c
      words (Op.Admission j pairs) reply W c = silent c
  said_by (Rules.EndsJoin f k) h B m c = no_verdict _ refl c
  said_by (Rules.IsWelcomed f k members pairs told fate) h B m c = no_verdict _ refl c
  said_by (Rules.LosesContact k n) h B m c = no_verdict _ refl c
  said_by (Rules.FailsLock d) h B m c = cc
  said_by (Rules.DeletesNothing d) h B m c = cc
  said_by (Rules.WinsLock d r) h B m c = wins d (LockPhase.Asking r) m.tested.0 c
  said_by (Rules.EndsDeletion f d owing) h B m c = wins d (LockPhase.Deleting owing) m.tested.1 c
  said_by (Rules.EndsDeletionDown i d owing) h B m c = wins d (LockPhase.Deleting owing) m.tested.1 c
  said_by (Rules.GivesUpLock d r granted) h B m c = go (is_spent d.retries) refl c
    where
      is_true : Reply → Bool
      is_true True = true
      is_true _ = false

      go : (b : Bool) → is_spent d.retries ≡ b → Contains (if b then answer_to a d.number False ∷ [] else []) s
          → Said o a w s
      go false e k = silent k
      go true e k = elim (Contains-cases (answer_to a d.number False) [] s k) [
        | inl i ↦ record {
          failed = λ f. record {
            call = d;
            round = r;
            granted = granted;
            open_call = m.tested.0;
            over = m.tested.1;
            failed = m.tested.2;
            spent = e;
            node = sym (ap (λ (y : Answer). y.node) i);
            number = sym (ap (λ (y : Answer). y.number) i);
          };
          won = λ f. cc (ap is_true f, ap (λ (y : Answer). is_true y.reply) i);
        }
        | inr none ↦ absurd (Contains-nil s none)
      ]
  said_by _ h B m c = silent c

-- test: what is known of the rules of a chain, which begin no call. K: what each of them keeps. Then each answer of the
-- chain is given where this holds
module _ (o : Opening) (a : ℕ) (test : Rule → Bool) (heard : (r : Rule) → test r ≡ true → suits Hearing r ≡ true)
    (K : World → Type 0)
    (keeps : (w : World) (r : Rule) → test r ≡ true → May o a w r → Base o w → K w → K (effect o a r w)) where
  -- the world before an answer
  pub record Before (s : Answer) : Type 0 where
    pub world : World
    pub base : Base o world
    pub here : K world
    pub said : Said o a world s

  pub said_in : (rs : List Rule) (w : World) → list_all test rs ≡ true → MayAll o a rs w → Base o w → K w
      → (s : Answer) → Contains (answers_by o a rs w) s → Before s
  said_in [] w h m B k s c = absurd (Contains-nil s c)
  said_in (r ∷ rs) w h m B k s c = elim (Contains-append_cases (turn_by o a w r).answers
      (answers_by o a rs (effect o a r w)) s c) [
        | inl now ↦ record {
          world = w;
          base = B;
          here = k;
          said = said_by o a w s r (heard r parts.0) B m.0
              (subst (λ (xs : List Answer). Contains xs s) (answers_made o a (join_number w) r (w.node a)) now);
        }
        | inr later ↦ said_in rs (effect o a r w) parts.1 m.1 (base_keeps o a w r B m.0) (keeps w r parts.0 m.0 B k) s
            later
      ]
    where
      parts : (test r ≡ true) × (list_all test rs ≡ true)
      parts = both (test r) (list_all test rs) h

  -- and it holds behind the chain
  pub kept_in : (rs : List Rule) (w : World) → list_all test rs ≡ true → MayAll o a rs w → Base o w → K w
      → K (Rules.effects o a rs w)
  kept_in [] w h m B k = k
  kept_in (r ∷ rs) w h m B k =
      let parts : (test r ≡ true) × (list_all test rs ≡ true) = both (test r) (list_all test rs) h in
      kept_in rs (effect o a r w) parts.1 m.1 (base_keeps o a w r B m.0) (keeps w r parts.0 m.0 B k)
