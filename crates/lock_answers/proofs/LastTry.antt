-- A process's last try is the same by its tries as by the tally of what it holds.
use Rattle.std.proofs.Common.{ℕ, Bool, true, false, ◌==◌, ◌≡◌, ◌+◌, Option, Some, None, List, [], ◌∷◌, ◌++◌, refl, sym, ap, ◌∙◌}
use Rattle.std.specs.Prelude.{◌&&◌, option_map, is_none, if◌then◌else◌}
use Rattle.registry_model.specs.Process.{Process, is_process, Nodes}
use Rattle.protocol_model.specs.Letter.{Id, Client}
use Rattle.protocol_model.specs.Event.{Call, Event, Refusal}
use Rattle.protocol_model.specs.ClientLocks.{Try, try_of, tried_again, waits_for_retry, last_try, Tally, tallied, tally_after, tally_from}
use Rattle.protocol_model.specs.LockAnswers.{Tries, watched, next_try, first_try, tries_in, tries_by, tries_after, tries_from, tries_of}
use Rattle.protocol_model.specs.World.{Opening, World, WorldEvent, At, Deliver, opening_world, refusal, happens, run}

-- the last of them
abbrev pub last_of : Option Tries → Option Try
last_of t = option_map (λ (x : Tries). x.last) t

module _ (o : Opening) (p : Process) where
  -- a try that is watched stays the last
  pub last_watched : (w : World) (e : WorldEvent) (t : Option Tries) → last_of (watched o w e p t) ≡ last_of t
  last_watched w e None = refl
  last_watched w e (Some t) = refl

  last_next : (w : World) (e : WorldEvent) (members : Nodes) (t : Option Tries)
      → last_of (next_try o w e p members t) ≡ tried_again members (last_of t)
  last_next w e members None = refl
  last_next w e members (Some t) = refl

  last_in : (w : World) (e : WorldEvent) (t : Option Tries) (x : WorldEvent)
      → last_of (tries_in o w e p t x) ≡ last_try w x p (last_of t)
  last_in w e t (At a (Event.Calling (Call.SetLock q r z target retries))) = go (is_process q p)
    where
      s : Try
      s = try_of (w.node a).replica.members ((w.node a).last_call + 1) (Client r z) target

      go : (b : Bool) → last_of (if b then first_try o w e p s retries else watched o w e p t)
          ≡ (if b then Some s else last_of t)
      go true = refl
      go false = last_watched w e t
  last_in w e t (At a Event.Retry) = go ((a == p.node) && waits_for_retry w p)
    where
      members : Nodes
      members = (w.node a).replica.members

      go : (b : Bool) → last_of (if b then next_try o w e p members t else watched o w e p t)
          ≡ (if b then tried_again members (last_of t) else last_of t)
      go true = last_next w e members t
      go false = last_watched w e t
  last_in w e t (At a (Event.Calling Call.Spawn)) = last_watched w e t
  last_in w e t (At a (Event.Calling (Call.LookUp look))) = last_watched w e t
  last_in w e t (At a (Event.Calling (Call.OnName c))) = last_watched w e t
  last_in w e t (At a (Event.Calling (Call.DelLock q r z target))) = last_watched w e t
  last_in w e t (At a (Event.Calling (Call.JoinBy m))) = last_watched w e t
  last_in w e t (At a (Event.Exiting q)) = last_watched w e t
  last_in w e t (At a Event.Leave) = last_watched w e t
  last_in w e t (Deliver f c) = last_watched w e t

  -- behind an accepted event
  pub last_by : (w : World) (e : WorldEvent) (t : Option Tries) → last_of (tries_by o w e p t)
      ≡ last_try w e p (last_of t)
  last_by w e t = last_in w e t e

  -- behind an event
  last_after : (w : World) (e : WorldEvent) (id : Id) (x : ℕ) (k : Tally) (t : Option Tries) → k.last ≡ last_of t
      → (tally_after o w e p id x k).last ≡ last_of (tries_after o w e p t)
  last_after w e id x k t same = go (refusal o w e)
    where
      go : (r : Option Refusal) → (if is_none r then tallied o w e p id x k else k).last
          ≡ last_of (if is_none r then tries_by o w e p t else t)
      go (Some r) = same
      go None = ap (last_try w e p) same ∙ sym (last_by w e t)

  last_from : (es : List WorldEvent) (w : World) (id : Id) (x : ℕ) (k : Tally) (t : Option Tries) → k.last ≡ last_of t
      → (tally_from o w es p id x k).last ≡ last_of (tries_from o w es p t)
  last_from [] w id x k t same = same
  last_from (e ∷ es) w id x k t same = last_from es (happens o w e) id x (tally_after o w e p id x k)
      (tries_after o w e p t) (last_after w e id x k t same)

  -- behind these events
  pub last_of_tries : (es : List WorldEvent) (id : Id) (x : ℕ)
      → (tally_from o (opening_world o) es p id x (record { number = 0; last = None })).last ≡ last_of (tries_of o es p)
  last_of_tries es id x = last_from es (opening_world o) id x (record { number = 0; last = None }) None refl

  -- one event more, at the end
  pub tries_more : (es : List WorldEvent) (e : WorldEvent) (w : World) (t : Option Tries)
      → tries_from o w (es ++ e ∷ []) p t ≡ tries_after o (run o w es) e p (tries_from o w es p t)
  tries_more [] e w t = refl
  tries_more (x ∷ es) e w t = tries_more es e (happens o w x) (tries_after o w x p t)

  -- if it is accepted
  pub tries_behind : (es : List WorldEvent) (e : WorldEvent) → refusal o (run o (opening_world o) es) e ≡ None
      → tries_of o (es ++ e ∷ []) p ≡ tries_by o (run o (opening_world o) es) e p (tries_of o es p)
  tries_behind es e h = tries_more es e (opening_world o) None
      ∙ ap (λ (r : Option Refusal). if is_none r then tries_by o (run o (opening_world o) es) e p (tries_of o es p)
      else tries_of o es p) h
