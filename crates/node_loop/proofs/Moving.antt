-- What each step of a loop keeps, its turns keep.
use Rattle.std.proofs.Common.{◌≡◌, ℕ, Bool, true, false, Option, None, Ok, Err, List, [], ◌∷◌, ◌++◌, sym, subst, inl, inr}
use Rattle.std.specs.Prelude.{MatchBool, MatchResult, ◌-◌, ◌⊎◌}
use Rattle.link.specs.declared.faults.LinkFault.{LinkFault}
use Rattle.tray.specs.Held.{Waiting}
use Rattle.node_log.specs.declared.LocalEvent.{LocalEvent}
use Rattle.node_log.specs.declared.LocalEvent.TheVariants.{Retry}
use Rattle.node_log.specs.Events.{is_leave as leaves_by, knows_contact}
use Rattle.node_loop.specs.declared.item.Item.{Item}
use Rattle.node_loop.specs.declared.item.Item.TheVariants as item
use Rattle.node_loop.specs.declared.item.Ticket.{Ticket}
use Rattle.node_loop.specs.declared.replies.TaskFault.{TaskFault}
use Rattle.node_loop.specs.declared.fault.TurnFault.{TurnFault}
use Rattle.node_loop.specs.declared.fault.TurnFault.TheVariants.{StampsSpent, Memory}
use Rattle.node_loop.specs.Told.{tell}
use Rattle.node_loop.specs.Desks.{left_by}
use Rattle.node_loop.specs.Held.{Looping, is_due, is_free_to_leave, can_step}
use Rattle.node_loop.specs.Steps.{Cause, Outcome, by_event, by_letter, desk_of, Makes, Rests, Begun, Ends, Goes}
use Rattle.node_loop.specs.Items.{Refuses, WaitsToLeave, Asks, Accepts, Handles, by_leave, Departs, Leaves, Then, Waits, behind_item, Hears, Works, Idles}
use Rattle.node_loop.specs.Turned.{Took, Missed, Turned}
use Rattle.node_loop.specs.Coming.{Turns}

-- each step keeps it, and whatever else a turn does
pub record IsKept (P : Looping → Type 0) : Type 0 where
  pub besides : (a : Looping) (tray : List (Waiting Item)) (wait : ℕ) (worked : Bool) → P a
      → P (record a { tray = tray; wait = wait; worked = worked })
  pub refuses : (a : Looping) (ticket : Option Ticket) (fault : TaskFault) → P a
      → P (record a { desk = record a.desk { replies = a.desk.replies ++ tell ticket (Err fault) } })
  pub waits : (a : Looping) (ticket : Option Ticket) → P a → P (record a { desk = record a.desk { leaves = a.desk.leaves ++ ticket ∷ [] } })
  pub makes : (k : Cause) (a b : Looping) → P a → Makes k a b → P b
  pub rests : (a b : Looping) → P a → Rests a b → P b
  pub begun : (k : Cause) (a b : Looping) → P a → Begun k (desk_of k a) a b → P b
  pub departs : (a b : Looping) → P a → Departs a b → P b
  pub departing : (a b : Looping) → P a → Begun (by_leave a) (λ core answers. left_by (desk_of (by_leave a) a core answers)) a b → P b

module _ (P : Looping → Type 0) (K : IsKept P) where
  same : (a b : Looping) → b ≡ a → P a → P b
  same a b e h = subst P (sym e) h

  ends : (k : Cause) (a b : Looping) → P a → (why : TurnFault) → Ends why k (desk_of k a) a b → P b
  ends k a b h StampsSpent E = same a b E.1 h
  ends k a b h Memory E = elim E.1 [ inl R ↦ K.rests a b h R | inr B ↦ K.begun k a b h B ]

  goes : (k : Cause) (a b : Looping) → P a → (r : Outcome) → Goes k a r b → P b
  goes k a b h (Ok u) M = K.makes k a b h M
  goes k a b h (Err why) E = ends k a b h why E

  refuses : (a b : Looping) → P a → (ticket : Option Ticket) (fault : TaskFault) (r : Outcome) → Refuses ticket fault a r b → P b
  refuses a b h ticket fault (Ok u) e = subst P (sym e) (K.refuses a ticket fault h)
  refuses a b h ticket fault (Err why) e = same a b e.1 h

  waits : (a b : Looping) → P a → (ticket : Option Ticket) (r : Outcome) → WaitsToLeave ticket a r b → P b
  waits a b h ticket (Ok u) e = subst P (sym e) (K.waits a ticket h)
  waits a b h ticket (Err why) e = same a b e.1 h

  asks : (a b : Looping) → P a → (ticket : Option Ticket) (e : LocalEvent) (r : Outcome) → Asks ticket e a r b → P b
  asks a b h ticket e r (inl g) = goes (by_event ticket e a) a b h r g
  asks a b h ticket e r (inr x) = refuses a b h ticket _ r x.3

  accepts : (a b : Looping) → P a → (ticket : Option Ticket) (e : LocalEvent) (r : Outcome) → Accepts ticket e a r b → P b
  accepts a b h ticket e r x = at_contact (knows_contact a.world e) x
    where
      at_leave : (leaves : Bool) → MatchBool leaves (WaitsToLeave ticket a r b) (Asks ticket e a r b) → P b
      at_leave true x = waits a b h ticket r x
      at_leave false x = asks a b h ticket e r x

      at_left : (left : Bool)
          → MatchBool left (Refuses ticket TaskFault.NodeLeft a r b)
          (MatchBool (leaves_by e) (WaitsToLeave ticket a r b) (Asks ticket e a r b)) → P b
      at_left true x = refuses a b h ticket _ r x
      at_left false x = at_leave (leaves_by e) x

      at_contact : (knows : Bool)
          → MatchBool knows
          (MatchBool a.left (Refuses ticket TaskFault.NodeLeft a r b)
          (MatchBool (leaves_by e) (WaitsToLeave ticket a r b) (Asks ticket e a r b)))
          (Refuses ticket TaskFault.NoSuchNode a r b) → P b
      at_contact true x = at_left a.left x
      at_contact false x = refuses a b h ticket _ r x

  handles : (a b : Looping) → P a → (from : ℕ) (i : Item) (r : Outcome) → Handles from i a r b → P b
  handles a b h from (item.Letter l) r x = at_left a.left x
    where
      at_left : (left : Bool) → MatchBool left ((r ≡ Ok tt) × (b ≡ a)) (Goes (by_letter from l a) a r b) → P b
      at_left true x = same a b x.1 h
      at_left false x = goes (by_letter from l a) a b h r x
  handles a b h from (item.Task t) r x = accepts a b h t.ticket t.event r x

  leaves : (a b : Looping) → P a → (r : Outcome) → Leaves a r b → P b
  leaves a b h r x = at_free (is_free_to_leave a) r x
    where
      ends_so : (why : TurnFault) → Ends why (by_leave a) (λ core answers. left_by (desk_of (by_leave a) a core answers)) a b → P b
      ends_so StampsSpent E = same a b E.1 h
      ends_so Memory E = elim E.1 [ inl R ↦ K.rests a b h R | inr B ↦ K.departing a b h B ]

      at_free : (free : Bool) (r : Outcome)
          → MatchBool free
          (MatchResult r (λ _. Departs a b)
          (λ why. Ends why (by_leave a) (λ core answers. left_by (desk_of (by_leave a) a core answers)) a b))
          ((r ≡ Ok tt) × (b ≡ a)) → P b
      at_free true (Ok u) x = K.departs a b h x
      at_free true (Err why) x = ends_so why x
      at_free false r x = same a b x.1 h

  -- one thing comes first, and the other behind it
  behind : (first second : Looping → Outcome → Looping → Type 0) (a : Looping) (r : Outcome) (b : Looping)
      → ((went : Outcome) (m : Looping) → first a went m → P m) → ((m : Looping) → P m → second m r b → P b) → Then first second a r b → P b
  behind first second a r b is next x = at_went x.went (is x.went x.between x.comes) x.behind
    where
      at_went : (went : Outcome) → P x.between
          → MatchResult went (λ _. second x.between r b) (λ why. (r ≡ Err why) × (b ≡ x.between)) → P b
      at_went (Ok u) h l = next x.between h l
      at_went (Err why) h l = same x.between b l.1 h

  passes : (a b : Looping) → P a → (r : Outcome) → Waits a r b → P b
  passes a b h r x = at_retry (is_due a) x
    where
      now : Looping
      now = record a { wait = a.wait - 1 }

      here : P now
      here = K.besides a a.tray (a.wait - 1) a.worked h

      at_retry : (due : Bool) → MatchBool due (Then (Goes (by_event None Retry a)) Leaves now r b) (Leaves now r b) → P b
      at_retry true x =
          behind (Goes (by_event None Retry a)) Leaves now r b (λ went m g. goes (by_event None Retry a) now m here went g)
          (λ m k l. leaves m b k r l) x
      at_retry false x = leaves now b here r x

  idles : (a b : Looping) → P a → (r : Outcome) → Idles a r b → P b
  idles a b h r x = passes (record a { worked = can_step a }) b (K.besides a a.tray a.wait (can_step a) h) r x

  behind_it : (i : Item) (a b : Looping) → P a → (r : Outcome) → behind_item i a r b → P b
  behind_it (item.Letter l) a b h r x = leaves a b h r x
  behind_it (item.Task t) a b h r x = passes a b h r x

  hears : (i : Item) (a b : Looping) → P a → Hears i a b → P b
  hears (item.Letter l) a b h x = subst P (sym x.0) (K.besides a a.tray b.wait a.worked h)
  hears (item.Task t) a b h x = same a b x h

  works : (a b : Looping) → P a → (from : ℕ) (i : Item) (r : Outcome) → Works from i a r b → P b
  works a b h from i r x =
      behind (Handles from i) (behind_item i) x.hearing r b (λ went m k. handles x.hearing m heard from i went k)
      (λ m k l. behind_it i m b k r l) x.handles
    where
      heard : P x.hearing
      heard = hears i (record a { worked = true }) x.hearing (K.besides a a.tray a.wait true h) x.hears

  pub turns : (a b : Looping) → P a → Turns a b → P b
  turns a b h T = elim T.turned [
    | inl w ↦ works sent b here w.0 w.1 T.outcome w.2
    | inr i ↦ idles sent b here T.outcome i
  ]
    where
      sent : Looping
      sent = record a { tray = T.tray }

      here : P sent
      here = K.besides a T.tray a.wait a.worked h

-- a turn over any links
module _ {S : Type 0} (posts : S → ℕ → Item → S → Type 0) (refused : S → ℕ → Item → LinkFault → Type 0) (takes : S → ℕ → Item → S → Type 0) (misses : S → Type 0) (held : ℕ → Type 0) where
  pub turn_of : (a : Looping) (s : S) (r : Outcome) (b : Looping) (t : S) → Turned posts refused takes misses held a s r b t → Turns a b
  turn_of a s r b t h = record { tray = h.tray; outcome = r; turned = at_end h.turned }
    where
      mid : Looping
      mid = record a { tray = h.tray }

      at_end : Took posts refused takes misses mid h.between r b t ⊎ Missed posts refused takes misses mid h.between r b t
          → ((from : ℕ) × (i : Item) × Works from i mid r b) ⊎ Idles mid r b
      at_end (inl took) = inl (took.from, took.item, took.works)
      at_end (inr missed) = inr missed.idles
