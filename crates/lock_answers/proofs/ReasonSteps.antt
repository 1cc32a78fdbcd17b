-- An event that begins no try keeps that a bad mark in p's round, or a denial on its way to p, has a reason.
use Rattle.std.proofs.Common.{ℕ, Bool, true, false, ◌==◌, ◌≡◌, Some, List, [], ◌∷◌, ◌++◌, refl, sym, ap, ◌∙◌, subst, inl, inr}
use Rattle.std.specs.Prelude.{◌||◌, Contains}
use Rattle.std.specs.List.{list_all}
use Rattle.std.proofs.Math.Bool.{or-true}
use Rattle.std.proofs.lemmas.List.Elements.{Contains-append_cases}
use Rattle.registry_model.specs.Process.{Process}
use Rattle.registry_model.proofs.Lists.{Contains-nil}
use Rattle.protocol_model.specs.Letter.{Letter}
use Rattle.protocol_model.specs.Node.{LockPhase}
use Rattle.protocol_model.specs.Event.{Call, Event, Answer}
use Rattle.protocol_model.specs.ClientLocks.{is_no_more}
use Rattle.protocol_model.specs.LockAnswers.{Tries, meets}
use Rattle.protocol_model.specs.World.{Opening, in_world, World, left, WorldEvent, At, Deliver, place, join_number, letter_taken}
use Rattle.moves.proofs.Indices.{both}
use Rattle.moves.proofs.Invariants.{Each}
use Rattle.moves.proofs.Rules
use Rattle.moves.proofs.Rules.{Rule, MayAll, effect, effects, turn_by, answers_by, is_quiet}
use Rattle.walk.proofs.ChainKinds.{Hearing, suits, leaves_locks}
use Rattle.walk.proofs.Chains.{LeaveLocks, is_gone_by, TakeGone}
use Rattle.walk.proofs.Walk.{OrderedWalk}
use Rattle.leftovers.proofs.Made.{answers_made}
use Rattle.leftovers.proofs.Base.{is_leave}
use Rattle.leftovers.proofs.Clients.{Numbers}
use Rattle.leftovers.proofs.Told.{chain_of}
use Rattle.leftovers.proofs.Tries.{Fits}
use Rattle.leftovers.proofs.Grounds.{Base, base_keeps}
use Rattle.lock_answers.proofs.CallSteps.{AllCalls}
use Rattle.lock_answers.proofs.Verdicts.{said_by, Before, said_in, kept_in}
use Rattle.lock_answers.proofs.Denials.{Denies, each_so, is_judging}
use Rattle.lock_answers.proofs.Behind.{Known, base_of, is_plain, plain_hears}
use Rattle.lock_answers.proofs.Reasons.{MarksIn, MarksOf, Reasoned, JudgedSo, judged_calm, reasoned_keeps, is_inner, inner_hears, inner_keeps}
use Rattle.lock_answers.proofs.Meeting.{denied_so}

-- what is kept of p's last try between events
pub record Reasons (o : Opening) (p : Process) (w : World) (x : Tries) : Type 0 where
  pub client : (p.serial == 0) ≡ false
  pub inside : in_world o p.node ≡ true
  pub nodes : (c : ℕ) → x.last.asks c ≡ true → in_world o c ≡ true
  pub gone : (c : ℕ) → x.last.asks c ≡ true → left w c ≡ true → x.met ≡ true
  pub marks : AllCalls (MarksOf p x.met) w
  pub letters : is_no_more w p ≡ false → (c : ℕ) → x.last.asks c ≡ true
      → Each (Denies p x.met) (w.links.queue c p.node)

-- what is so makes it so
pub or_first : (b c : Bool) → b ≡ true → (b || c) ≡ true
or_first b c h = rw h refl

pub or_second : (b c : Bool) → c ≡ true → (b || c) ≡ true
or_second b c h = ap (λ (x : Bool). b || x) h ∙ or-true b

-- the marks of a phase, where more is so
pub marks_so : (so now : Bool) → (so ≡ true → now ≡ true) → (f : LockPhase) → MarksIn so f → MarksIn now f
marks_so so now on (LockPhase.Asking r) h = λ x k. on (h x k)
marks_so so now on LockPhase.Waiting h = on h
marks_so so now on (LockPhase.Deleting owing) h = tt

module _ (o : Opening) (p : Process) (w : World) (num : Numbers) (S : Known o w num) (x : Tries)
    (fit : Fits w p (Some x.last)) (R : Reasons o p w x) (e : WorldEvent) where
  -- whether something has happened, behind the event
  abbrev pub so : Bool
  so = x.met || meets o w e p x.last

  pub gone_so : (c : ℕ) → x.last.asks c ≡ true → left w c ≡ true → so ≡ true
  gone_so c mine gone = or_first x.met (meets o w e p x.last) (R.gone c mine gone)

  abbrev Kept : World → Type 0
  Kept v = Reasoned o p x.last so w gone_so v

  begins : Kept w
  begins = record {
    replying = S.replying;
    fits = fit;
    runs = λ c. refl;
    nodes = R.nodes;
    marks = λ q c f i. marks_so x.met so (or_first x.met (meets o w e p x.last)) c.phase (R.marks q c f i);
    letters = λ up c mine. each_so p x.met so (or_first x.met (meets o w e p x.last)) (w.links.queue c p.node)
        (R.letters up c mine);
  }

  module _ (a : ℕ) where
    -- before each answer, and behind the chain
    pub record Outcome (rs : List Rule) : Type 0 where
      pub end : Kept (effects o a rs w)
      pub said : (s : Answer) → Contains (answers_by o a rs w) s
          → Before o a (is_inner o p x.last so w gone_so) (inner_hears o p x.last so w gone_so) Kept
          (λ v r h m B k. inner_keeps o p x.last so w gone_so a v r h m B k) s

    none : Outcome []
    none = record { end = begins; said = λ s c. absurd (Contains-nil s c) }

    -- the rules behind the first leave the lock table
    inner_all : (rs : List Rule) → list_all (suits Hearing) rs ≡ true → list_all leaves_locks rs ≡ true
        → list_all is_quiet rs ≡ true → list_all (is_inner o p x.last so w gone_so) rs ≡ true
    inner_all [] h k q = refl
    inner_all (r ∷ rs) h k q =
        let one : (suits Hearing r ≡ true) × (list_all (suits Hearing) rs ≡ true) = both (suits Hearing r)
        (list_all (suits Hearing) rs) h in
        let two : (leaves_locks r ≡ true) × (list_all leaves_locks rs ≡ true) = both (leaves_locks r)
        (list_all leaves_locks rs) k in
        let three : (is_quiet r ≡ true) × (list_all is_quiet rs ≡ true) = both (is_quiet r) (list_all is_quiet rs) q in
        rw (one.0, two.0, three.0, inner_all rs one.1 two.1 three.1) refl

    some : (r : Rule) (rs : List Rule) → is_leave r ≡ false → JudgedSo o p x.last so w gone_so a w r
        → list_all (suits Hearing) (r ∷ rs) ≡ true → LeaveLocks (r ∷ rs) → list_all is_quiet rs ≡ true
        → MayAll o a (r ∷ rs) w → Outcome (r ∷ rs)
    some r rs stay j h k q m = record {
      end = kept_in o a (is_inner o p x.last so w gone_so) (inner_hears o p x.last so w gone_so) Kept
          (λ v s h m B k. inner_keeps o p x.last so w gone_so a v s h m B k) rs (effect o a r w) inner m.1 B1 first;
      said = λ s c. elim (Contains-append_cases (turn_by o a w r).answers (answers_by o a rs (effect o a r w)) s c) [
        | inl now ↦ record {
          world = w;
          base = base_of o w num S;
          here = begins;
          said = said_by o a w s r parts.0 (base_of o w num S) m.0
              (subst (λ (ss : List Answer). Contains ss s) (answers_made o a (join_number w) r (w.node a)) now);
        }
        | inr later ↦ said_in o a (is_inner o p x.last so w gone_so) (inner_hears o p x.last so w gone_so) Kept
            (λ v s h m B k. inner_keeps o p x.last so w gone_so a v s h m B k) rs (effect o a r w) inner m.1 B1 first s
            later
      ];
    }
      where
        parts : (suits Hearing r ≡ true) × (list_all (suits Hearing) rs ≡ true)
        parts = both (suits Hearing r) (list_all (suits Hearing) rs) h

        inner : list_all (is_inner o p x.last so w gone_so) rs ≡ true
        inner = inner_all rs parts.1 k q

        B1 : Base o (effect o a r w)
        B1 = base_keeps o a w r (base_of o w num S) m.0

        first : Kept (effect o a r w)
        first = reasoned_keeps o p x.last so w gone_so a w (base_of o w num S) begins r parts.0 stay j m.0

  -- a delivery whose first rule is no rule of its own
  module _ (f t : ℕ) (same : e ≡ Deliver f t) where
    met_so : meets o w (Deliver f t) p x.last ≡ true → so ≡ true
    met_so h = or_second x.met (meets o w e p x.last)
        (subst (λ (y : WorldEvent). meets o w y p x.last ≡ true) (sym same) h)

    heard : (rs : List Rule) → list_all (suits Hearing) rs ≡ true → LeaveLocks rs → list_all is_quiet rs ≡ true
        → TakeGone o t w (letter_taken (Deliver f t) w) rs → MayAll o t rs w → Outcome t rs
    heard [] h k q g m = none t
    heard (r ∷ rs) h k q g m =
        let quiet : (is_quiet r ≡ true) × (list_all is_quiet rs ≡ true) = both (is_quiet r) (list_all is_quiet rs) q in
        let taken : (is_gone_by w (letter_taken (Deliver f t) w) t (Rules.takes o t r) ≡ true)
        × TakeGone o t w (letter_taken (Deliver f t) w) rs =
        both (is_gone_by w (letter_taken (Deliver f t) w) t (Rules.takes o t r))
        (list_all (λ s. is_gone_by w (letter_taken (Deliver f t) w) t (Rules.takes o t s)) rs) g in
        some t r rs (stays r quiet.0)
        (denied_so o w num S f t p x.last so gone_so fit R.inside R.client met_so r m.0 taken.0) h k quiet.1 m
      where
        stays : (s : Rule) → is_quiet s ≡ true → is_leave s ≡ false
        stays Rules.Leaves i = cc
        stays _ i = refl

    delivered : (ls : List Letter) (rest : List Rule)
        → list_all (suits Hearing) (Rules.first_by_letter o t f ls ++ rest) ≡ true
        → LeaveLocks (Rules.first_by_letter o t f ls ++ rest) → list_all is_quiet rest ≡ true
        → TakeGone o t w (letter_taken (Deliver f t) w) (Rules.first_by_letter o t f ls ++ rest)
        → MayAll o t (Rules.first_by_letter o t f ls ++ rest) w → Outcome t (Rules.first_by_letter o t f ls ++ rest)
    delivered [] rest h k q g m = heard rest h k q g m
    delivered (Letter.Down ∷ ls) rest h k q g m = some t (Rules.IsTold f) rest refl tt h k q m
    delivered (l ∷ ls) rest h k q g m = heard rest h k q g m

-- the event isn't the last of its node
abbrev pub is_last : WorldEvent → Bool
is_last (At a Event.Leave) = true
is_last _ = false

-- how the chain of an event begins
data BeginsSo (o : Opening) (w : World) (e : WorldEvent) : Type 0 where
  Own : (y : Rule) → Rules.first_by o (place e) w e ≡ y ∷ [] → is_leave y ≡ false → is_judging y ≡ false
      → BeginsSo o w e
  Reads : (f t : ℕ) → e ≡ Deliver f t → BeginsSo o w e

begins_so : (o : Opening) (w : World) (e : WorldEvent) → is_plain e ≡ true → is_last e ≡ false → BeginsSo o w e
begins_so o w (Deliver f t) k l = Reads f t refl
begins_so o w (At a (Event.Calling Call.Spawn)) k l = Own Rules.Spawns refl refl refl
begins_so o w (At a (Event.Calling (Call.LookUp look))) k l = Own (Rules.LooksUp look) refl refl refl
begins_so o w (At a (Event.Calling (Call.OnName c))) k l = Own (Rules.CallsName c) refl refl refl
begins_so o w (At a (Event.Calling (Call.JoinBy c))) k l = Own (Rules.CallsJoin c) refl refl refl
begins_so o w (At a (Event.Calling (Call.SetLock q r z target retries))) k l = cc
begins_so o w (At a (Event.Calling (Call.DelLock q r z target))) k l = cc
begins_so o w (At a Event.Retry) k l = cc
begins_so o w (At a (Event.Exiting q)) k l = Own (Rules.Exits q) refl refl refl
begins_so o w (At a Event.Leave) k l = cc

module _ (o : Opening) (p : Process) (w : World) (num : Numbers) (S : Known o w num) (x : Tries)
    (fit : Fits w p (Some x.last)) (R : Reasons o p w x) where
  -- an event whose chain begins with a rule of its own
  own_first : (e : WorldEvent) → is_plain e ≡ true → (W : OrderedWalk o w e) → (y : Rule)
      → Rules.first_by o (place e) w e ≡ y ∷ [] → is_leave y ≡ false
      → JudgedSo o p x.last (so o p w num S x fit R e) w (gone_so o p w num S x fit R e) (place e) w y
      → Outcome o p w num S x fit R e (place e) (chain_of o w e W.walk.rest)
  own_first e k W y is stay j = subst
      (λ (rs : List Rule). list_all (suits Hearing) (rs ++ W.walk.rest) ≡ true → LeaveLocks (rs ++ W.walk.rest)
      → MayAll o (place e) (rs ++ W.walk.rest) w → Outcome o p w num S x fit R e (place e) (rs ++ W.walk.rest))
      (sym is) (λ a b c. some o p w num S x fit R e (place e) y W.walk.rest stay j a b W.walk.quiet c)
      (plain_hears o w num S e W.walk.rest k W.in_order) W.locks W.walk.may

  -- and a delivery
  letter_first : (f t : ℕ) → (W : OrderedWalk o w (Deliver f t))
      → Outcome o p w num S x fit R (Deliver f t) t (chain_of o w (Deliver f t) W.walk.rest)
  letter_first f t W = delivered o p w num S x fit R (Deliver f t) f t refl (w.links.queue f t) W.walk.rest
      (plain_hears o w num S (Deliver f t) W.walk.rest refl W.in_order) W.locks W.walk.quiet W.letters W.walk.may

  -- a plain event is one or the other, or a leave
  pub plain_outcome : (e : WorldEvent) → is_plain e ≡ true → is_last e ≡ false → (W : OrderedWalk o w e)
      → Outcome o p w num S x fit R e (place e) (chain_of o w e W.walk.rest)
  plain_outcome e k l W = go (begins_so o w e k l)
    where
      go : BeginsSo o w e → Outcome o p w num S x fit R e (place e) (chain_of o w e W.walk.rest)
      go (Own y is stay calm) = own_first e k W y is stay
          (judged_calm o p x.last (so o p w num S x fit R e) w (gone_so o p w num S x fit R e) (place e) w y calm)
      go (Reads f t same) = subst
          (λ (d : WorldEvent). (V : OrderedWalk o w d)
          → Outcome o p w num S x fit R d (place d) (chain_of o w d V.walk.rest))
          (sym same) (letter_first f t) W
