-- What each accepted event keeps of the tries of a process holds behind every list of events; and which events are
-- chains of rules that begin no lock call.
use Rattle.std.proofs.Common.{Bool, true, false, ◌≡◌, Option, Some, None, List, [], ◌∷◌, refl, sym, subst}
use Rattle.std.specs.Prelude.{is_none, if◌then◌else◌}
use Rattle.std.specs.List.{list_all}
use Rattle.registry_model.specs.Process.{Process}
use Rattle.protocol_model.specs.Event.{Call, Event, Refusal}
use Rattle.protocol_model.specs.LockAnswers.{Tries, watched, tries_by, tries_after, tries_from, tries_of}
use Rattle.protocol_model.specs.World.{Opening, World, WorldEvent, At, Deliver, opening_world, refusal, accepted, happens, run}
use Rattle.moves.proofs.Rules.{Rule}
use Rattle.walk.proofs.ChainKinds.{Aside, Hearing, suits}
use Rattle.walk.proofs.Walk.{InOrder, OrderedWalk, walked_in_order}
use Rattle.walk.proofs.Orders.{ordered_keeps}
use Rattle.leftovers.proofs.Clients.{Numbers}
use Rattle.leftovers.proofs.Numbering.{aside_hears}
use Rattle.leftovers.proofs.Opening.{no_numbers}
use Rattle.leftovers.proofs.RoundNumbers.{round_count_after}
use Rattle.leftovers.proofs.Tallies.{accepted_tried, fits_opens}
use Rattle.leftovers.proofs.Told.{chain_of, all_of_all, first_heard}
use Rattle.leftovers.proofs.Tries.{Fits}
use Rattle.leftovers.proofs.Walking.{State, event_keeps, opening_state}
use Rattle.leftovers.proofs.HeadlineClients.{grounds}
use Rattle.leftovers.proofs.Together.{All}
use Rattle.leftovers.proofs.Grounds.{Base, wide}
use Rattle.lock_answers.proofs.LastTry.{last_of, last_by}

-- what is known of clients' locks between two events
abbrev pub Known : Opening → World → Numbers → Type 0
Known o w num = State o (All o) (grounds o) w num

pub base_of : (o : Opening) (w : World) (num : Numbers) → Known o w num → Base o w
base_of o w num S = record
    { all = S.family; once = S.once; ordered = S.ordered; num = num; clients = S.clients }

-- an accepted event is walked
pub walk_of : (o : Opening) (w : World) (num : Numbers) → Known o w num → (e : WorldEvent) → refusal o w e ≡ None
    → OrderedWalk o w e
walk_of o w num S e h = walked_in_order o w e S.ordered (wide o w (base_of o w num S)) h

-- the event is no lock call and no retry
abbrev pub is_plain : WorldEvent → Bool
is_plain (At a (Event.Calling (Call.SetLock q r z target retries))) = false
is_plain (At a (Event.Calling (Call.DelLock q r z target))) = false
is_plain (At a Event.Retry) = false
is_plain _ = true

module _ (o : Opening) (w : World) where
  asides : (rest : List Rule) → list_all (suits Aside) rest ≡ true → list_all (suits Hearing) rest ≡ true
  asides rest h = all_of_all (suits Aside) (suits Hearing) aside_hears rest h

  -- it is a chain of rules that begin no lock call
  pub plain_hears : (num : Numbers) → Known o w num → (e : WorldEvent) (rest : List Rule) → is_plain e ≡ true
      → InOrder o w e rest → list_all (suits Hearing) (chain_of o w e rest) ≡ true
  plain_hears num S (At a (Event.Calling Call.Spawn)) rest h k = asides rest k
  plain_hears num S (At a (Event.Calling (Call.LookUp look))) rest h k = asides rest k
  plain_hears num S (At a (Event.Calling (Call.OnName c))) rest h k = asides rest k
  plain_hears num S (At a (Event.Calling (Call.JoinBy m))) rest h k = asides rest k
  plain_hears num S (At a (Event.Calling (Call.SetLock q r z target retries))) rest h k = cc
  plain_hears num S (At a (Event.Calling (Call.DelLock q r z target))) rest h k = cc
  plain_hears num S (At a Event.Retry) rest h k = cc
  plain_hears num S (At a (Event.Exiting q)) rest h k = asides rest k
  plain_hears num S (At a Event.Leave) rest h k = asides rest k
  plain_hears num S (Deliver f t) rest h k = first_heard o (ordered_keeps o) w num S.ordered S.replying S.numbered f t
      (w.links.queue f t) rest k

  -- and leaves the tries but for what they met
  pub plain_tries : (p : Process) (t : Option Tries) (e : WorldEvent) → is_plain e ≡ true
      → tries_by o w e p t ≡ watched o w e p t
  plain_tries p t (At a (Event.Calling Call.Spawn)) h = refl
  plain_tries p t (At a (Event.Calling (Call.LookUp look))) h = refl
  plain_tries p t (At a (Event.Calling (Call.OnName c))) h = refl
  plain_tries p t (At a (Event.Calling (Call.JoinBy m))) h = refl
  plain_tries p t (At a (Event.Calling (Call.SetLock q r z target retries))) h = cc
  plain_tries p t (At a (Event.Calling (Call.DelLock q r z target))) h = cc
  plain_tries p t (At a Event.Retry) h = cc
  plain_tries p t (At a (Event.Exiting q)) h = refl
  plain_tries p t (At a Event.Leave) h = refl
  plain_tries p t (Deliver f c) h = refl

module _ (o : Opening) (p : Process) where
  -- the last try fits behind an accepted event
  pub fits_next : (w : World) (num : Numbers) (e : WorldEvent) (t : Option Tries) → Known o w num
      → Fits w p (last_of t) → refusal o w e ≡ None → Fits (accepted o w e) p (last_of (tries_by o w e p t))
  fits_next w num e t S fit h = subst (Fits (accepted o w e) p) (sym (last_by o p w e t))
      (accepted_tried o (All o) (grounds o) w e num S p (last_of t) fit h).fits

  -- J: what is kept of the tries
  module _ (J : World → Option Tries → Type 0)
      (next : (w : World) (num : Numbers) (e : WorldEvent) (t : Option Tries) → Known o w num → Fits w p (last_of t)
      → J w t → refusal o w e ≡ None → J (accepted o w e) (tries_by o w e p t)) where
    -- all of it, behind a list of events
    pub record Stands (w : World) (t : Option Tries) : Type 0 where
      pub num : Numbers
      pub known : Known o w num
      pub fits : Fits w p (last_of t)
      pub kept : J w t

    stands_after : (w : World) (e : WorldEvent) (t : Option Tries) → Stands w t
        → Stands (happens o w e) (tries_after o w e p t)
    stands_after w e t S = record {
      num = λ q i y. round_count_after o w e q i y (S.num q i y);
      known = event_keeps o (All o) (grounds o) w e S.num S.known;
      fits = (go (refusal o w e) refl).0;
      kept = (go (refusal o w e) refl).1;
    }
      where
        go : (r : Option Refusal) → refusal o w e ≡ r
            → Fits (if is_none r then accepted o w e else w) p
            (last_of (if is_none r then tries_by o w e p t else t))
            × J (if is_none r then accepted o w e else w) (if is_none r then tries_by o w e p t else t)
        go (Some r) h = (S.fits, S.kept)
        go None h = (fits_next w S.num e t S.known S.fits h, next w S.num e t S.known S.fits S.kept h)

    stands_from : (es : List WorldEvent) (w : World) (t : Option Tries) → Stands w t
        → Stands (run o w es) (tries_from o w es p t)
    stands_from [] w t S = S
    stands_from (e ∷ es) w t S = stands_from es (happens o w e) (tries_after o w e p t) (stands_after w e t S)

    pub stands : J (opening_world o) None → (es : List WorldEvent)
        → Stands (run o (opening_world o) es) (tries_of o es p)
    stands opens es = stands_from es (opening_world o) None (record {
      num = no_numbers;
      known = opening_state o (All o) (grounds o);
      fits = fits_opens o p;
      kept = opens;
    })
