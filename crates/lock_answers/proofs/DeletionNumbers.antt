-- The number of a process's last deletion is that of a `del_lock` among the accepted calls of its node, so an answer to
-- it is `true`.
use Rattle.std.proofs.Common.{ℕ, Bool, true, false, ◌==◌, ◌≡◌, ◌+◌, ◌-◌, ◌<◌, Option, Some, None, List, [], ◌∷◌, ◌++◌, length, refl, sym, ap, ◌∙◌, subst, arith}
use Rattle.std.specs.Prelude.{◌&&◌, is_none, filter, if◌then◌else◌, Contains}
use Rattle.std.specs.List.{slice_get}
use Rattle.std.proofs.lemmas.List.Elements.{filter-append}
use Rattle.std.proofs.lemmas.Grind.{flat_map-append}
use Rattle.std.proofs.lemmas.Bool.{eqb-true, eq-eqb}
use Rattle.registry_model.specs.Process.{Process, is_process}
use Rattle.registry_model.specs.Call.{Reply, Yes, No, Ok, UnknownNode, True, False, Joined, NotMember, ContactLeft, Pid, Undefined, Names, Notices}
use Rattle.registry_model.proofs.Lists.{Contains-split, by_push}
use Rattle.protocol_model.specs.Event.{Call, Event, Answer, Refusal, calls_spent}
use Rattle.protocol_model.specs.Fit.{calls_in}
use Rattle.protocol_model.specs.Answers.{answer_to, may_have, calls_at, answers_under, AtMostOne, NotYet, Once}
use Rattle.protocol_model.specs.LockAnswers.{Deletion, deletion_by, deletion_after, deletion_from, deletion_of}
use Rattle.protocol_model.specs.Letter.{Client}
use Rattle.protocol_model.specs.Node.{targets}
use Rattle.protocol_model.specs.World.{Opening, World, WorldEvent, At, Deliver, opening_world, refusal, happens, run}
use Rattle.protocol_model.specs.Course.{Played, played, course, answers_of}
use Rattle.walk.proofs.Events.{accepted_of, lock_tested, live_own}
use Rattle.leftovers.proofs.FittingTheorem as Theorem
use Rattle.leftovers.proofs.Ids.{is_process_same}
use Rattle.leftovers.proofs.LockAnswers.{slice_get-behind}
use Rattle.leftovers.proofs.Passing.{slice_get-front}
use Rattle.leftovers.proofs.Tied.{course-push}
use Rattle.leftovers.proofs.Together.{Whole, whole_opens}
use Rattle.leftovers.proofs.Story.{ground}

-- behind one event more
pub deletion-push : (o : Opening) (p : Process) (es : List WorldEvent) (w : World) (e : WorldEvent)
    (t : Option Deletion)
    → deletion_from o w (es ++ e ∷ []) p t ≡ deletion_after o (run o w es) e p (deletion_from o w es p t)
deletion-push o p [] w e t = refl
deletion-push o p (x ∷ es) w e t = deletion-push o p es (happens o w x) e (deletion_after o w x p t)

abbrev is_deletion : Call → Bool
is_deletion (Call.DelLock p r q target) = true
is_deletion _ = false

-- call k of node a is a `del_lock`
pub record IsDeletion (ps : List Played) (a k : ℕ) : Type 0 where
  call : Call
  deletes : is_deletion call ≡ true
  pub positive : 0 < k
  found : slice_get (calls_at a ps) (k - 1) ≡ Some call

-- calls stay among the accepted ones
is_more : (ps qs : List Played) (a k : ℕ) → IsDeletion ps a k → IsDeletion (ps ++ qs) a k
is_more ps qs a k I = record {
  call = I.call;
  deletes = I.deletes;
  positive = I.positive;
  found = subst (λ (cs : List Call). slice_get cs (k - 1) ≡ Some I.call) (sym (flat_map-append (calls_in a) ps qs))
      (slice_get-front (calls_at a ps) (calls_at a qs) (k - 1) I.call I.found);
}

module _ (o : Opening) (p : Process) where
  abbrev Behind : List Played → Option Deletion → Type 0
  Behind ps t = (d : Deletion) → t ≡ Some d → IsDeletion ps p.node d.number

  -- one accepted event more
  one_more : (w : World) (ps : List Played) (t : Option Deletion) (e : WorldEvent) → refusal o w e ≡ None
      → (w.node p.node).last_call ≡ length (calls_at p.node ps) → Behind ps t
      → Behind (ps ++ played o w e ∷ []) (deletion_by w e p t)
  one_more w ps t (At a (Event.Calling (Call.DelLock q r z target))) h count B d i = go (is_process q p) refl i
    where
      e : WorldEvent
      e = At a (Event.Calling (Call.DelLock q r z target))

      own : (q.node == a) ≡ true
      own = (live_own a (w.node a).watch q (lock_tested a (w.node a) q r (calls_spent (w.node a) ∷ [])
          (accepted_of o w e h).local).0).0

      new : Deletion
      new = record {
        number = (w.node a).last_call + 1;
        id = Client r z;
        nodes = targets (w.node a).replica.members target;
      }

      begins : a ≡ p.node → IsDeletion (ps ++ played o w e ∷ []) p.node new.number
      begins home = record {
        call = Call.DelLock q r z target;
        deletes = refl;
        positive = omega arith;
        found = subst (λ (cs : List Call). slice_get cs (new.number - 1) ≡ Some (Call.DelLock q r z target)) (sym calls)
            (subst (λ (n : ℕ). slice_get (calls_at p.node ps ++ Call.DelLock q r z target ∷ []) n
            ≡ Some (Call.DelLock q r z target)) place
            (slice_get-behind (calls_at p.node ps) (Call.DelLock q r z target)));
      }
        where
          calls : calls_at p.node (ps ++ played o w e ∷ []) ≡ calls_at p.node ps ++ Call.DelLock q r z target ∷ []
          calls = flat_map-append (calls_in p.node) ps (played o w e ∷ [])
              ∙ ap (λ (b : Bool). calls_at p.node ps ++ ((if b && true then Call.DelLock q r z target ∷ [] else [])
              ++ [])) (eq-eqb a p.node home)

          place : length (calls_at p.node ps) ≡ new.number - 1
          place =
              let last : (w.node a).last_call ≡ length (calls_at p.node ps) =
              ap (λ (n : ℕ). (w.node n).last_call) home ∙ count in
              omega (arith, last)

      go : (b : Bool) → is_process q p ≡ b → (if b then Some new else t) ≡ Some d
          → IsDeletion (ps ++ played o w e ∷ []) p.node d.number
      go true j k =
          let same : new ≡ d = cc k in
          subst (λ (x : Deletion). IsDeletion (ps ++ played o w e ∷ []) p.node x.number) same
          (begins (sym (eqb-true q.node a own) ∙ ap (λ (x : Process). x.node) (is_process_same q p j)))
      go false j k = is_more ps (played o w e ∷ []) p.node d.number (B d k)
  one_more w ps t (At a (Event.Calling Call.Spawn)) h count B d i = is_more ps _ p.node d.number (B d i)
  one_more w ps t (At a (Event.Calling (Call.LookUp look))) h count B d i = is_more ps _ p.node d.number (B d i)
  one_more w ps t (At a (Event.Calling (Call.OnName c))) h count B d i = is_more ps _ p.node d.number (B d i)
  one_more w ps t (At a (Event.Calling (Call.SetLock q r z target retries))) h count B d i =
      is_more ps _ p.node d.number (B d i)
  one_more w ps t (At a (Event.Calling (Call.JoinBy m))) h count B d i = is_more ps _ p.node d.number (B d i)
  one_more w ps t (At a Event.Retry) h count B d i = is_more ps _ p.node d.number (B d i)
  one_more w ps t (At a (Event.Exiting q)) h count B d i = is_more ps _ p.node d.number (B d i)
  one_more w ps t (At a Event.Leave) h count B d i = is_more ps _ p.node d.number (B d i)
  one_more w ps t (Deliver f b) h count B d i = is_more ps _ p.node d.number (B d i)

  pub numbered : (es : List WorldEvent) (d : Deletion) → deletion_of o es p ≡ Some d
      → IsDeletion (course o (opening_world o) es) p.node d.number
  numbered = by_push (λ es. Behind (course o (opening_world o) es) (deletion_of o es p)) (λ d i. cc) step
    where
      step : (es : List WorldEvent) (e : WorldEvent) → Behind (course o (opening_world o) es) (deletion_of o es p)
          → Behind (course o (opening_world o) (es ++ e ∷ [])) (deletion_of o (es ++ e ∷ []) p)
      step es e B = subst (λ (ps : List Played). Behind ps (deletion_of o (es ++ e ∷ []) p))
          (sym (course-push o (opening_world o) es e))
          (subst (Behind (ps ++ (if is_none (refusal o w e) then played o w e ∷ [] else [])))
          (sym (deletion-push o p es (opening_world o) e None)) (go (refusal o w e) refl))
        where
          w : World
          w = run o (opening_world o) es

          ps : List Played
          ps = course o (opening_world o) es

          go : (x : Option Refusal) → refusal o w e ≡ x
              → Behind (ps ++ (if is_none x then played o w e ∷ [] else []))
              (if is_none x then deletion_by w e p (deletion_of o es p) else deletion_of o es p)
          go (Some x) h = λ d i. is_more ps [] p.node d.number (B d i)
          go None h = one_more w ps (deletion_of o es p) e h
              ((Theorem.kept_run o (Whole o) (ground o) (whole_opens o) es).book.count p.node) B

-- a `del_lock` is answered `true`
only_true : (call : Call) (reply : Reply) → is_deletion call ≡ true → may_have call reply ≡ true → reply ≡ True
only_true (Call.DelLock p r q target) reply h m = go reply m
  where
    go : (x : Reply) → may_have (Call.DelLock p r q target) x ≡ true → x ≡ True
    go True k = refl
    go Yes k = cc
    go No k = cc
    go Ok k = cc
    go UnknownNode k = cc
    go False k = cc
    go Joined k = cc
    go NotMember k = cc
    go ContactLeft k = cc
    go (Pid process) k = cc
    go Undefined k = cc
    go (Names names) k = cc
    go (Notices notices) k = cc
only_true Call.Spawn reply h m = cc
only_true (Call.LookUp look) reply h m = cc
only_true (Call.OnName c) reply h m = cc
only_true (Call.SetLock p r q target retries) reply h m = cc
only_true (Call.JoinBy contact) reply h m = cc

nothing : {X : Type 0} (xs ys : List Answer) (s : Answer) → [] ≡ xs ++ s ∷ ys → X
nothing [] ys s e = cc
nothing (x ∷ xs) ys s e = cc

alone : (z : Answer) (xs ys : List Answer) (s : Answer) → z ∷ [] ≡ xs ++ s ∷ ys → z ≡ s
alone z [] ys s e = cc
alone z (x ∷ []) ys s e = cc
alone z (x ∷ y ∷ xs) ys s e = cc

one_answer : (calls : List Call) (a k : ℕ) (zs xs ys : List Answer) (s : Answer) (call : Call) → AtMostOne calls a k zs
    → zs ≡ xs ++ s ∷ ys → is_deletion call ≡ true → slice_get calls (k - 1) ≡ Some call → s.reply ≡ True
one_answer calls a k zs xs ys s call NotYet e h f = nothing xs ys s e
one_answer calls a k zs xs ys s call (Once c reply is may) e h f =
    let same : answer_to a k reply ≡ s = alone (answer_to a k reply) xs ys s e in
    let own : c ≡ call = cc (is, f) in
    ap (λ (x : Answer). x.reply) (sym same)
    ∙ only_true call reply h (subst (λ (x : Call). may_have x reply ≡ true) own may)

pub answered_true : (ps : List Played) (a k : ℕ) (s : Answer) → IsDeletion ps a k
    → AtMostOne (calls_at a ps) a k (answers_under a k ps) → Contains (answers_of ps) s → s.node ≡ a → s.number ≡ k
    → s.reply ≡ True
answered_true ps a k s I one c here number = one_answer (calls_at a ps) a k (answers_under a k ps)
    (filter test parts.0) (filter test parts.1) s I.call one shown I.deletes I.found
  where
    test : Answer → Bool
    test x = (x.node == a) && (x.number == k)

    parts : (before : List Answer) × (later : List Answer) × (answers_of ps ≡ before ++ s ∷ later)
    parts = Contains-split (answers_of ps) s c

    passes : test s ≡ true
    passes = rw (eq-eqb s.node a here, eq-eqb s.number k number) refl

    shown : answers_under a k ps ≡ filter test parts.0 ++ s ∷ filter test parts.1
    shown = ap (filter test) parts.2 ∙ filter-append test parts.0 (s ∷ parts.1)
        ∙ ap (λ (b : Bool). filter test parts.0 ++ (if b then s ∷ filter test parts.1 else filter test parts.1)) passes
