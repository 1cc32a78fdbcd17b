-- A `set_lock` is answered `false` once all its retries are used, and `true` within them.
use mathlib.Core.Logic.{◌⊎◌}
use Rattle.std.proofs.Common.{ℕ, zero, suc, Bool, true, false, ◌≡◌, ◌+◌, ◌≤◌, Option, Some, None, List, [], ◌∷◌, ◌++◌, refl, sym, ap, ◌∙◌, subst, arith, inl, inr}
use Rattle.std.specs.Prelude.{Contains}
use Rattle.registry_model.specs.Process.{Process}
use Rattle.registry_model.specs.Call.{True, False}
use Rattle.protocol_model.specs.Node.{LockPhase, LockCall, Retries, Times, Endless}
use Rattle.protocol_model.specs.Event.{Answer}
use Rattle.protocol_model.specs.Client.{is_spent}
use Rattle.protocol_model.specs.LockAnswers.{Tries, tries_by, tries_of, Answers, AsksNobody, AreUsedUp, UsesAllRetries, UsesNoMore, AtEachStep}
use Rattle.protocol_model.specs.World.{Opening, World, WorldEvent, place, opening_world, refusal, run}
use Rattle.moves.proofs.Rules.{IsOpen}
use Rattle.walk.proofs.ChainKinds.{Hearing, suits}
use Rattle.walk.proofs.Walk.{OrderedWalk}
use Rattle.leftovers.proofs.Clients.{Numbers}
use Rattle.leftovers.proofs.Told.{chain_of}
use Rattle.leftovers.proofs.Tries.{Fits}
use Rattle.lock_answers.proofs.Besides.{is_true}
use Rattle.lock_answers.proofs.LastTry.{last_of, tries_behind}
use Rattle.lock_answers.proofs.Verdicts.{is_verdict, GaveUp, EndedWell, Before, said_in}
use Rattle.lock_answers.proofs.Spending.{AreLeft, IsSpending, SpendsAt, Tried, tried_keeps}
use Rattle.lock_answers.proofs.SpendEvents.{begins_plain, spends_next}
use Rattle.lock_answers.proofs.Behind.{Known, base_of, walk_of, is_plain, plain_hears, Stands, stands}
use Rattle.lock_answers.proofs.Nobody.{given_in_turn, IsOwn, own_call, some_same, nobody_asked}

-- where none is left, all are used
used_up : (t : Tries) (c : LockCall) → AreLeft t.retries t.tried c.retries → is_spent c.retries ≡ true → AreUsedUp t
used_up t c left spent = go t.retries c.retries refl left spent
  where
    go : (given now : Retries) → t.retries ≡ given → AreLeft given t.tried now → is_spent now ≡ true → AreUsedUp t
    go (Times n) (Times zero) e q k = record { given = n; all = e; used = omega (arith, q) }
    go (Times n) (Times (suc m)) e q k = cc
    go (Times n) Endless e q k = absurd q
    go Endless (Times m) e q k = absurd q
    go Endless Endless e q k = cc

-- and never more
no_more : (t : Tries) (c : LockCall) (given : ℕ) → t.retries ≡ Times given → AreLeft t.retries t.tried c.retries
    → t.tried ≤ given + 1
no_more t c given e left = go c.retries (subst (λ (g : Retries). AreLeft g t.tried c.retries) e left)
  where
    go : (now : Retries) → AreLeft (Times given) t.tried now → t.tried ≤ given + 1
    go (Times m) q = omega (arith, q)
    go Endless q = absurd q

module _ (o : Opening) (w : World) (num : Numbers) (p : Process) (t : Option Tries) (S : Known o w num)
    (fit : Fits w p (last_of t)) (k : SpendsAt w p t) (e : WorldEvent) (plain : is_plain e ≡ true)
    (h : refusal o w e ≡ None) (x : Tries) (is : tries_by o w e p t ≡ Some x) (s : Answer)
    (A : Answers o w e p x.last.number s) where
  -- the call that is answered is of these tries
  own : (v : World) → Tried p (tries_by o w e p t) v → (c : LockCall) → IsOwn v p c → IsSpending (Some x) c
  own v T c I = subst (λ (y : Option Tries). IsSpending y c) is (T.spends p c I.found refl I.deleting)

  abbrev Here : Answer → Type 0
  Here s = Before o (place e) (suits Hearing) (λ r i. i) (Tried p (tries_by o w e p t))
      (λ v r i m B y. tried_keeps o (place e) p (tries_by o w e p t) v r i m B y) s

  here : Here s
  here = said_in o (place e) (suits Hearing) (λ r i. i) (Tried p (tries_by o w e p t))
      (λ v r i m B y. tried_keeps o (place e) p (tries_by o w e p t) v r i m B y) (chain_of o w e W.walk.rest) w
      (plain_hears o w num S e W.walk.rest plain W.in_order) W.walk.may (base_of o w num S)
      (begins_plain o p w num t S fit k e plain) s
      (subst (λ (ss : List Answer). Contains ss s) (sym W.walk.answers) (given_in_turn o w e s h A.given))
    where
      W : OrderedWalk o w e
      W = walk_of o w num S e h

  own_open : (c : LockCall) (now : LockPhase) → IsOpen (here.world.node (place e)) c now → s.node ≡ place e
      → s.number ≡ c.number → IsOwn here.world p c
  own_open c now i n m = own_call here.world (place e) p x.last here.base.ordered
      (subst (λ (y : Option Tries). Fits here.world p (last_of y)) is here.here.fits) c now i (sym A.node ∙ n)
      (sym m ∙ A.number)

  plain_used : s.reply ≡ False → AreUsedUp x
  plain_used f =
      let G : GaveUp o (place e) here.world s = here.said.failed f in
      let I : IsOwn here.world p G.call = own_open G.call (LockPhase.Asking G.round) G.open_call G.node G.number in
      let mine : IsSpending (Some x) G.call = own here.world here.here G.call I in
      subst AreUsedUp (sym (some_same x mine.0 mine.1)) (used_up mine.0 G.call mine.2.left G.spent)

  plain_within : (given : ℕ) → s.reply ≡ True → x.retries ≡ Times given → x.tried ≤ given + 1
  plain_within given f r =
      let E : EndedWell (place e) here.world s = here.said.won f in
      let I : IsOwn here.world p E.call = own_open E.call E.phase E.open_call E.node E.number in
      let mine : IsSpending (Some x) E.call = own here.world here.here E.call I in
      let same : x ≡ mine.0 = some_same x mine.0 mine.1 in
      subst (λ (y : Tries). y.tried ≤ given + 1) (sym same)
      (no_more mine.0 E.call given (sym (ap (λ (y : Tries). y.retries) same) ∙ r) mine.2.left)

-- all this holds behind every list of events
abbrev pub Spent : Opening → Process → World → Option Tries → Type 0
Spent o p w t = Stands o p (λ v y. SpendsAt v p y) (λ v num e y S F k h. spends_next o p v num e y S F k h) w t

pub spent : (o : Opening) (es : List WorldEvent) (p : Process) → Spent o p (run o (opening_world o) es) (tries_of o es p)
spent o es p = stands o p (λ v y. SpendsAt v p y) (λ v num e y S F k h. spends_next o p v num e y S F k h) (λ q c f. cc)
    es

-- the law, of an event, behind these, that answers the last try of p
module _ (o : Opening) (es : List WorldEvent) (e : WorldEvent) (h : refusal o (run o (opening_world o) es) e ≡ None)
    (p : Process) (x : Tries) (s : Answer) (is : tries_of o (es ++ e ∷ []) p ≡ Some x)
    (A : Answers o (run o (opening_world o) es) e p x.last.number s) where
  abbrev w : World
  w = run o (opening_world o) es

  abbrev t : Option Tries
  t = tries_of o es p

  K : Spent o p w t
  K = spent o es p

  by : tries_by o w e p t ≡ Some x
  by = sym (tries_behind o p es e h) ∙ is

  fails : s.reply ≡ False → AsksNobody x.last ⊎ AreUsedUp x
  fails f = go (is_plain e) refl
    where
      go : (b : Bool) → is_plain e ≡ b → AsksNobody x.last ⊎ AreUsedUp x
      go false i = inl (nobody_asked o w K.num p t K.known K.fits x s e i h by A (ap is_verdict f)).1
      go true i = inr (plain_used o w K.num p t K.known K.fits K.kept e i h x by s A f)

  wins : (given : ℕ) → s.reply ≡ True → x.retries ≡ Times given → x.tried ≤ given + 1
  wins given f r = go (is_plain e) refl
    where
      go : (b : Bool) → is_plain e ≡ b → x.tried ≤ given + 1
      go false i = cc (
        ap is_true f,
        ap is_true (nobody_asked o w K.num p t K.known K.fits x s e i h by A (ap is_verdict f)).0,
      )
      go true i = plain_within o w K.num p t K.known K.fits K.kept e i h x by s A given f r

pub uses_all_retries : AtEachStep UsesAllRetries
uses_all_retries o es e h p x s is A f = fails o es e h p x s is A f

pub uses_no_more : AtEachStep UsesNoMore
uses_no_more o es e h p x s given is A f r = wins o es e h p x s is A given f r
