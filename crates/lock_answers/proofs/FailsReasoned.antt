-- A try is answered `false` for a reason: a node that it had to ask had left, or took its request while it couldn't grant the lock,
-- or it had nobody to ask.
use mathlib.Core.Logic.{◌⊎◌}
use Rattle.std.proofs.Common.{ℕ, Bool, true, false, ◌≡◌, Option, Some, None, List, refl, sym, ap, ◌∙◌, subst, inl, inr}
use Rattle.std.specs.Prelude.{◌||◌, Contains}
use Rattle.registry_model.specs.Process.{Process}
use Rattle.registry_model.specs.Call.{False}
use Rattle.registry_model.proofs.Lists.{Contains-nil}
use Rattle.protocol_model.specs.Node.{LockPhase}
use Rattle.protocol_model.specs.Event.{Event, Answer}
use Rattle.protocol_model.specs.LockAnswers.{Tries, meets, watched, tries_by, tries_of, Answers, AsksNobody, FailsForAReason, AtEachStep}
use Rattle.protocol_model.specs.World.{Opening, World, WorldEvent, At, place, opening_world, refusal, run, turn_of}
use Rattle.walk.proofs.Walk.{OrderedWalk}
use Rattle.leftovers.proofs.Clients.{Numbers}
use Rattle.leftovers.proofs.Tries.{Fits}
use Rattle.lock_answers.proofs.LastTry.{last_of, tries_behind}
use Rattle.lock_answers.proofs.BadMarks.{is_bad}
use Rattle.lock_answers.proofs.Behind.{Known, walk_of, is_plain, plain_tries, Stands, stands}
use Rattle.lock_answers.proofs.CallSteps.{found_at}
use Rattle.lock_answers.proofs.Nobody.{given_in_turn, IsOwn, own_call, some_same, nobody_asked}
use Rattle.lock_answers.proofs.ReasonEvents.{ReasonsAt, reasons_next}
use Rattle.lock_answers.proofs.ReasonSteps.{Reasons, so, gone_so, is_last, plain_outcome}
use Rattle.lock_answers.proofs.Reasons.{MarksIn, Reasoned, fails, is_inner, inner_hears, inner_keeps}
use Rattle.lock_answers.proofs.Verdicts.{is_verdict, GaveUp, Before}

module _ (o : Opening) (w : World) (num : Numbers) (p : Process) (S : Known o w num) (e : WorldEvent)
    (plain : is_plain e ≡ true) (stays : is_last e ≡ false) (h : refusal o w e ≡ None) (y : Tries)
    (fit : Fits w p (Some y.last)) (R : Reasons o p w y) (s : Answer) (A : Answers o w e p y.last.number s)
    (failed : s.reply ≡ False) where
  W : OrderedWalk o w e
  W = walk_of o w num S e h

  -- the world before the answer
  here : Before o (place e) (is_inner o p y.last (so o p w num S y fit R e) w (gone_so o p w num S y fit R e))
      (inner_hears o p y.last (so o p w num S y fit R e) w (gone_so o p w num S y fit R e))
      (Reasoned o p y.last (so o p w num S y fit R e) w (gone_so o p w num S y fit R e))
      (λ v r i m B k. inner_keeps o p y.last (so o p w num S y fit R e) w (gone_so o p w num S y fit R e) (place e) v r
      i m B k) s
  here = (plain_outcome o p w num S y fit R e plain stays W).said s
      (subst (λ (ss : List Answer). Contains ss s) (sym W.walk.answers) (given_in_turn o w e s h A.given))

  G : GaveUp o (place e) here.world s
  G = here.said.failed failed

  I : IsOwn here.world p G.call
  I = own_call here.world (place e) p y.last here.base.ordered here.here.fits G.call (LockPhase.Asking G.round)
      G.open_call (sym A.node ∙ G.node) (sym G.number ∙ A.number)

  plain_fails : (y.met || meets o w e p y.last) ≡ true
  plain_fails =
      let bad : (x : ℕ) × (is_bad (G.round.mark x) ≡ true) = fails o p y.last (so o p w num S y fit R e) w
      (gone_so o p w num S y fit R e) (place e) here.world here.base here.here G.call G.round G.granted G.open_call
      I.holder G.over G.failed in
      subst (MarksIn (y.met || meets o w e p y.last)) G.open_call.phase
      (here.here.marks G.call.holder G.call (found_at here.world (place e) here.base.ordered G.call
      (LockPhase.Asking G.round) G.open_call) I.holder) bad.0 bad.1

pub fails_for_a_reason : AtEachStep FailsForAReason
fails_for_a_reason o es e h p x s is A f = go (is_plain e) (is_last e) refl refl
  where
    w : World
    w = run o (opening_world o) es

    t : Option Tries
    t = tries_of o es p

    K : Stands o p (λ v g. ReasonsAt o p v g) (λ v num d g S F k i. reasons_next o p v num d g S F k i) w t
    K = stands o p (λ v g. ReasonsAt o p v g) (λ v num d g S F k i. reasons_next o p v num d g S F k i) (λ y i. cc) es

    by : tries_by o w e p t ≡ Some x
    by = sym (tries_behind o p es e h) ∙ is

    -- a leave answers nobody
    left_silent : (d : WorldEvent) → is_last d ≡ true → Contains (turn_of o w d).answers s
        → x.met ≡ true
    left_silent (At a Event.Leave) l c = absurd (Contains-nil s c)
    left_silent d l c = cc

    watched_so : (g : Option Tries) → t ≡ g → is_plain e ≡ true → is_last e ≡ false → watched o w e p g ≡ Some x
        → x.met ≡ true
    watched_so None i k l j = cc
    watched_so (Some y) i k l j =
        let same : record y { met = y.met || meets o w e p y.last } ≡ x =
        some_same (record y { met = y.met || meets o w e p y.last }) x j in
        subst (λ (z : Tries). z.met ≡ true) same
        (plain_fails o w K.num p K.known e k l h y (subst (λ (z : Option Tries). Fits w p (last_of z)) i K.fits)
        (K.kept y i) s
        (record { given = A.given; node = A.node; number = A.number ∙ sym (ap (λ (z : Tries). z.last.number) same) }) f)

    go : (k l : Bool) → is_plain e ≡ k → is_last e ≡ l → AsksNobody x.last ⊎ (x.met ≡ true)
    go false l i j = inl (nobody_asked o w K.num p t K.known K.fits x s e i h by A (ap is_verdict f)).1
    go true true i j = inr (left_silent e j (given_in_turn o w e s h A.given))
    go true false i j = inr (watched_so t refl i j (sym (plain_tries o w p t e i) ∙ by))
