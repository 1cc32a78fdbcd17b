-- The last `set_lock` of a process behind every list of events: it was accepted under its number.
use Rattle.std.proofs.Common.{ℕ, Bool, true, false, ◌==◌, ◌≡◌, ◌+◌, ◌-◌, ◌<◌, Option, Some, None, List, [], ◌∷◌, ◌++◌, length, refl, sym, ap, ◌∙◌, subst, arith}
use Rattle.std.specs.Prelude.{◌&&◌, is_none, if◌then◌else◌}
use Rattle.std.specs.List.{slice_get}
use Rattle.std.proofs.lemmas.List.{append-nil}
use Rattle.registry_model.specs.Process.{Text, Process, is_process, Nodes}
use Rattle.registry_model.proofs.Lists.{by_push}
use Rattle.protocol_model.specs.Letter.{Client}
use Rattle.protocol_model.specs.Node.{Target, Retries}
use Rattle.protocol_model.specs.Event.{Call, Event, Refusal}
use Rattle.protocol_model.specs.Answers.{calls_at}
use Rattle.protocol_model.specs.Course.{Played, played}
use Rattle.protocol_model.specs.Fit.{calls_in}
use Rattle.protocol_model.specs.ClientLocks.{Try, try_of, waits_for_retry}
use Rattle.protocol_model.specs.LockAnswers.{Tries, watched, next_try, first_try, tries_in, tries_by, tries_after, tries_of}
use Rattle.protocol_model.specs.World.{Opening, World, WorldEvent, At, Deliver, opening_world, refusal, happens, accepted}
use Rattle.leftovers.proofs.FittingTheorem as Theorem
use Rattle.leftovers.proofs.Ids.{is_process_same}
use Rattle.leftovers.proofs.Passing.{slice_get-front}
use Rattle.leftovers.proofs.Story.{ground}
use Rattle.leftovers.proofs.Tied.{course-push, run-push}
use Rattle.leftovers.proofs.Together
use Rattle.leftovers.proofs.Together.{whole_opens}
use Rattle.leftovers.specs.Clauses.{events, world}
use Rattle.leftovers.proofs.Callers.{calls_push, last_called}
use Rattle.lock_answers.proofs.Behind.{Stands, stands}
use Rattle.lock_answers.proofs.EventTurns.{SetTurn, set_turn}
use Rattle.lock_answers.proofs.LastTry.{tries_more}
use Rattle.lock_answers.proofs.Nobody.{some_same}

-- the call of these tries is that one of p among the accepted ones of its node
pub record IsSet (calls : List Call) (p : Process) (t : Tries) : Type 0 where
  pub resource : Text
  pub requester : Text
  pub id : t.last.id ≡ Client resource requester
  pub positive : 0 < t.last.number
  pub call : slice_get calls (t.last.number - 1) ≡ Some (Call.SetLock p resource requester t.last.target t.retries)

module _ (o : Opening) (p : Process) where
  -- J: what is said of a world, of p's tries and of the accepted events. What each accepted event keeps of it holds behind
  -- every list of events
  module _ (J : World → Option Tries → List Played → Type 0) (opens : J (opening_world o) None [])
      (next : (es : List WorldEvent) (e : WorldEvent) → refusal o (world o es) e ≡ None
      → J (world o es) (tries_of o es p) (events o es)
      → J (accepted o (world o es) e) (tries_by o (world o es) e p (tries_of o es p))
      (events o es ++ played o (world o es) e ∷ [])) where
    pub behind : (es : List WorldEvent) → J (world o es) (tries_of o es p) (events o es)
    behind es = by_push (λ ds. J (world o ds) (tries_of o ds p) (events o ds)) opens more es
      where
        more : (ds : List WorldEvent) (e : WorldEvent) → J (world o ds) (tries_of o ds p) (events o ds)
            → J (world o (ds ++ e ∷ [])) (tries_of o (ds ++ e ∷ []) p) (events o (ds ++ e ∷ []))
        more ds e K = subst (λ (w : World). J w (tries_of o (ds ++ e ∷ []) p) (events o (ds ++ e ∷ [])))
            (sym (run-push o (opening_world o) ds e))
            (subst (λ (t : Option Tries). J (happens o (world o ds) e) t (events o (ds ++ e ∷ [])))
            (sym (tries_more o p ds e (opening_world o) None))
            (subst (λ (ps : List Played). J (happens o (world o ds) e) (tries_after o (world o ds) e p (tries_of o ds p)) ps)
            (sym (course-push o (opening_world o) ds e)) (go (refusal o (world o ds) e) refl)))
          where
            go : (r : Option Refusal) → refusal o (world o ds) e ≡ r
                → J (if is_none r then accepted o (world o ds) e else world o ds)
                (if is_none r then tries_by o (world o ds) e p (tries_of o ds p) else tries_of o ds p)
                (events o ds ++ (if is_none r then played o (world o ds) e ∷ [] else []))
            go (Some r) h = subst (J (world o ds) (tries_of o ds p)) (sym (append-nil (events o ds))) K
            go None h = next ds e h K

  -- what is known behind every list of events
  pub known : (es : List WorldEvent) → Stands o p (λ w t. Unit {0}) (λ w num e t S F k i. tt) (world o es) (tries_of o es p)
  known es = stands o p (λ w t. Unit {0}) (λ w num e t S F k i. tt) tt es

  pub count : (es : List WorldEvent) (a : ℕ) → ((world o es).node a).last_call ≡ length (calls_at a (events o es))
  count es = (Theorem.kept_run o (Together.Whole o) (ground o) (whole_opens o) es).book.count

  module _ (es : List WorldEvent) (e : WorldEvent) (h : refusal o (world o es) e ≡ None) where
    abbrev w : World
    w = world o es

    abbrev step : Played
    step = played o w e

    -- the tries behind an event are those of a new call, or of the same
    data Goes (x : Tries) : Type 0 where
      Begins : (a : ℕ) (r z : Text) (target : Target) (retries : Retries)
          → e ≡ At a (Event.Calling (Call.SetLock p r z target retries)) → p.node ≡ a
          → x.last ≡ try_of (w.node a).replica.members ((w.node a).last_call + 1) (Client r z) target
          → x.retries ≡ retries → Goes x
      GoesOn : (y : Tries) → tries_of o es p ≡ Some y → x.last.number ≡ y.last.number → x.last.id ≡ y.last.id
          → x.last.target ≡ y.last.target → x.retries ≡ y.retries → Goes x

    goes_watched : (t : Option Tries) → tries_of o es p ≡ t → (x : Tries) → watched o w e p t ≡ Some x → Goes x
    goes_watched None i x is = cc
    goes_watched (Some y) i x is = subst Goes (some_same _ x is) (GoesOn y i refl refl refl refl)

    goes_next : (members : Nodes) (t : Option Tries) → tries_of o es p ≡ t → (x : Tries)
        → next_try o w e p members t ≡ Some x → Goes x
    goes_next members None i x is = cc
    goes_next members (Some y) i x is = subst Goes (some_same _ x is) (GoesOn y i refl refl refl refl)

    goes_in : (d : WorldEvent) → e ≡ d → (x : Tries) → tries_in o w e p (tries_of o es p) d ≡ Some x → Goes x
    goes_in (At a (Event.Calling (Call.SetLock q r z target retries))) i x is = go (is_process q p) refl is
      where
        last : Try
        last = try_of (w.node a).replica.members ((w.node a).last_call + 1) (Client r z) target

        T : SetTurn o w (known es).known.ordered a q r z target retries
        T = set_turn o w (known es).known.ordered a q r z target retries
            (subst (λ (d : WorldEvent). refusal o w d ≡ None) i h)

        go : (b : Bool) → is_process q p ≡ b
            → (if b then first_try o w e p last retries else watched o w e p (tries_of o es p)) ≡ Some x → Goes x
        go true same j =
            let own : q ≡ p = is_process_same q p same in
            subst Goes (some_same _ x j) (Begins a r z target retries
            (i ∙ ap (λ (k : Process). At a (Event.Calling (Call.SetLock k r z target retries))) own)
            (ap (λ (k : Process). k.node) (sym own) ∙ T.home) refl refl)
        go false same j = goes_watched (tries_of o es p) refl x j
    goes_in (At a Event.Retry) i x is = go ((a == p.node) && waits_for_retry w p) is
      where
        go : (b : Bool) → (if b then next_try o w e p (w.node a).replica.members (tries_of o es p)
            else watched o w e p (tries_of o es p)) ≡ Some x → Goes x
        go true j = goes_next (w.node a).replica.members (tries_of o es p) refl x j
        go false j = goes_watched (tries_of o es p) refl x j
    goes_in (At a (Event.Calling Call.Spawn)) i x is = goes_watched (tries_of o es p) refl x is
    goes_in (At a (Event.Calling (Call.LookUp look))) i x is = goes_watched (tries_of o es p) refl x is
    goes_in (At a (Event.Calling (Call.OnName c))) i x is = goes_watched (tries_of o es p) refl x is
    goes_in (At a (Event.Calling (Call.DelLock q r z target))) i x is = goes_watched (tries_of o es p) refl x is
    goes_in (At a (Event.Calling (Call.JoinBy m))) i x is = goes_watched (tries_of o es p) refl x is
    goes_in (At a (Event.Exiting q)) i x is = goes_watched (tries_of o es p) refl x is
    goes_in (At a Event.Leave) i x is = goes_watched (tries_of o es p) refl x is
    goes_in (Deliver f c) i x is = goes_watched (tries_of o es p) refl x is

    goes : (x : Tries) → tries_by o w e p (tries_of o es p) ≡ Some x → Goes x
    goes x is = goes_in e refl x is

    -- the call is among the accepted ones
    set_next : ((y : Tries) → tries_of o es p ≡ Some y → IsSet (calls_at p.node (events o es)) p y) → (x : Tries)
        → tries_by o w e p (tries_of o es p) ≡ Some x → IsSet (calls_at p.node (events o es ++ step ∷ [])) p x
    set_next K x is = elim (goes x is) [
      | Begins a r z target retries event home last given ↦ record {
        resource = r;
        requester = z;
        id = ap (λ (t : Try). t.id) last;
        positive = omega (arith, ap (λ (t : Try). t.number) last);
        call = new a r z target retries event home (ap (λ (t : Try). t.number) last) (ap (λ (t : Try). t.target) last)
            given;
      }
      | GoesOn y i number id target given ↦ old y (K y i) number id target given
    ]
      where
        new : (a : ℕ) (r z : Text) (target : Target) (retries : Retries)
            → e ≡ At a (Event.Calling (Call.SetLock p r z target retries)) → p.node ≡ a
            → x.last.number ≡ (w.node a).last_call + 1 → x.last.target ≡ target → x.retries ≡ retries
            → slice_get (calls_at p.node (events o es ++ step ∷ [])) (x.last.number - 1)
            ≡ Some (Call.SetLock p r z x.last.target x.retries)
        new a r z target retries event home number goal given =
            ap (λ (k : ℕ). slice_get (calls_at p.node (events o es ++ step ∷ [])) (k - 1)) number
            ∙ ap (λ (i : ℕ). slice_get (calls_at i (events o es ++ step ∷ [])) (((w.node a).last_call + 1) - 1)) home
            ∙ ap (λ (d : WorldEvent). slice_get (calls_at a (events o es ++ played o w d ∷ []))
            (((w.node a).last_call + 1) - 1)) event
            ∙ last_called o w (events o es) a (Call.SetLock p r z target retries) refl (count es a)
            ∙ ap (λ (t : Target). Some (Call.SetLock p r z t retries)) (sym goal)
            ∙ ap (λ (t : Retries). Some (Call.SetLock p r z x.last.target t)) (sym given)

        old : (y : Tries) → IsSet (calls_at p.node (events o es)) p y → x.last.number ≡ y.last.number
            → x.last.id ≡ y.last.id → x.last.target ≡ y.last.target → x.retries ≡ y.retries
            → IsSet (calls_at p.node (events o es ++ step ∷ [])) p x
        old y I number id goal given = record {
          resource = I.resource;
          requester = I.requester;
          id = id ∙ I.id;
          positive = subst (λ (k : ℕ). 0 < k) (sym number) I.positive;
          call = ap (λ (k : ℕ). slice_get (calls_at p.node (events o es ++ step ∷ [])) (k - 1)) number
              ∙ ap (λ (cs : List Call). slice_get cs (y.last.number - 1)) (calls_push p.node (events o es) step)
              ∙ slice_get-front (calls_at p.node (events o es)) (calls_in p.node step) (y.last.number - 1)
              (Call.SetLock p I.resource I.requester y.last.target y.retries) I.call
              ∙ ap (λ (t : Target). Some (Call.SetLock p I.resource I.requester t y.retries)) (sym goal)
              ∙ ap (λ (t : Retries). Some (Call.SetLock p I.resource I.requester x.last.target t)) (sym given);
        }

  -- the last `set_lock` of p was accepted
  pub is_set : (es : List WorldEvent) (x : Tries) → tries_of o es p ≡ Some x → IsSet (calls_at p.node (events o es)) p x
  is_set es = behind (λ w t ps. (x : Tries) → t ≡ Some x → IsSet (calls_at p.node ps) p x) (λ x i. cc) set_next es
