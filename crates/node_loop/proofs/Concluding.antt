-- What comes behind a step of the core makes the step of the loop.
use Rattle.std.proofs.Common.{◌≡◌, ◌<◌, ◌^◌, ℕ, Bool, true, false, inl, inr, Option, Ok, Err, List, [], ◌∷◌, ◌++◌, refl, sym, ap, subst, ◌∙◌, MatchBool, append-nil, arith}
use Rattle.node_log.specs.NodeEvents.{Event as NodeEvent}
use Rattle.node_core.specs.CoreState.{CoreState}
use Rattle.node_core.specs.Made.{Made as Turn}
use Rattle.node_core.specs.Steps.{Steps}
use Rattle.node_log.specs.declared.WorldEvent.{WorldEvent}
use Rattle.node_log.specs.Entries.{SeatedEntry}
use Rattle.node_log.specs.Logs.{answered}
use Rattle.node_loop.specs.declared.item.Ticket.{Ticket}
use Rattle.node_loop.specs.declared.fault.TurnFault.{TurnFault}
use Rattle.node_loop.specs.declared.fault.TurnFault.TheVariants.{StampsSpent, Memory}
use Rattle.node_loop.specs.declared.waiting.Course.{Course}
use Rattle.node_loop.specs.Desks.{Kept, Begins, settled, left_by}
use Rattle.node_loop.specs.declared.edit.Owed.{Owed}
use Rattle.node_loop.specs.Held.{Looping, Written, with_letters}
use Rattle.node_loop.specs.Owing.{KeepsOwing}
use Rattle.node_loop.specs.Steps.{Cause, stamp_of, entry_of, desk_of, IsNoted, Makes, Begun, IsSpent, Ends, Concludes}
use Rattle.node_loop.proofs.Logs.{answered_last}
use Rattle.node_loop.proofs.Letters.{puts_at}
use Rattle.node_loop.proofs.Telling.{begins_on, begins_as, left_begins}

-- the entry is last in the log, and has no answers yet
abbrev pub begun_entry : Cause → Looping → SeatedEntry
begun_entry k a = entry_of k a []

module _ (k : Cause) (a : Looping) (core : CoreState) (log : Written) (owed : Owed) (s : ℕ) (own : Option Ticket) (course : Course) (turn : Turn) (b : Looping) where
  abbrev logged_by : Written
  logged_by = record a.log { entries = a.log.entries ++ entry_of k a turn.answers ∷ [] }

  -- the log, when the last step is answered
  log_path : log ≡ record a.log { entries = a.log.entries ++ begun_entry k a ∷ [] }
      → b.log ≡ record log { entries = answered turn.answers log.entries } → b.log ≡ logged_by
  log_path l e =
      e ∙ ap (λ (x : Written). record x { entries = answered turn.answers x.entries }) l
      ∙ ap (λ (es : List SeatedEntry). record a.log { entries = es }) (answered_last turn.answers a.log.entries (begun_entry k a))

  -- the desk, by the names that the step has
  desk_path : s ≡ stamp_of k a → own ≡ k.own → course ≡ k.course → b.core ≡ core
      → settled s course own core turn.answers a.desk ≡ desk_of k a b.core turn.answers
  desk_path p o q e = λ j. settled (p j) (q j) (o j) (sym e j) turn.answers a.desk

  -- whatever it is then, what it owes its readers is noted
  abbrev OwesSo : Type 0
  OwesSo = Steps k.event a.core b.core turn → b.log ≡ logged_by → b.world ≡ a.world → b.left ≡ a.left → b.owed ≡ owed
      → IsNoted k a b × KeepsOwing a b

  stepped_to : b.core ≡ core → Steps k.event a.core core turn → Steps k.event a.core b.core turn
  stepped_to same step = subst (λ (h : CoreState). Steps k.event a.core h turn) (sym same) step

  module _ {E : Type 0} (step : Steps k.event a.core core turn) (l : log ≡ record a.log { entries = a.log.entries ++ begun_entry k a ∷ [] }) (e : s ≡ stamp_of k a) (o : own ≡ k.own) (q : course ≡ k.course) (owes : OwesSo) where
    -- so the step is made
    pub makes : s < 2 ^ 64 → (u : Unit {0}) → Concludes {E = E} s own course turn (record a { core = core; log = log; owed = owed }) (Ok u) b
        → Makes k a b
    makes fits u c = record {
      fits = subst (λ (n : ℕ). n < 2 ^ 64) e fits;
      turn = turn;
      step = stepped_to c.core step;
      log = log_path l c.log;
      stamp = c.stamp ∙ e;
      tray = c.told.1 ∙ ap (λ (n : ℕ). with_letters n turn.letters a.tray) e;
      desk = c.told.0 ∙ desk_path e o q c.core;
      noted = (owes (stepped_to c.core step) (log_path l c.log) c.world c.left c.owed).0;
      owing = (owes (stepped_to c.core step) (log_path l c.log) c.world c.left c.owed).1;
      world = c.world;
      wait = c.wait;
      left = c.left;
      worked = c.worked;
    }

    -- or the thread ends within it
    pub begins : (why : E) → Concludes s own course turn (record a { core = core; log = log; owed = owed }) (Err why) b → Begun k (desk_of k a) a b
    begins why c = record {
      turn = turn;
      step = stepped_to c.core step;
      log = log_path l c.log;
      tray = puts_at s (stamp_of k a) turn.letters a.tray b.tray e c.told.1;
      replies = begins_as _ _ _ _ refl (ap (λ (d : Kept). d.replies) (desk_path e o q c.core)) c.told.0;
      noted = (owes (stepped_to c.core step) (log_path l c.log) c.world c.left c.owed).0;
      owing = (owes (stepped_to c.core step) (log_path l c.log) c.world c.left c.owed).1;
    }

-- the core's step, of what its event is
pub stepped : (e f : NodeEvent) (old new : CoreState) (turn : Turn) → e ≡ f → Steps e old new turn → Steps f old new turn
stepped e f old new turn p h = subst (λ (x : NodeEvent). Steps x old new turn) p h

-- the log, where a step was put at its end, with room that was made
pub begun : (old mid new : Written) (s t : ℕ) (seat seat_is : Option ℕ) (w v : WorldEvent) → mid ≡ old → new.node ≡ mid.node
    → new.entries ≡ mid.entries ++ record { stamp = s; seat = seat; event = w; answers = [] } ∷ []
    → s ≡ t → seat ≡ seat_is → w ≡ v
    → new ≡ record old { entries = old.entries ++ record { stamp = t; seat = seat_is; event = v; answers = [] } ∷ [] }
begun old mid new s t seat seat_is w v m n es p q r =
    λ j. record {
      node = (n ∙ ap (λ (l : Written). l.node) m) j;
      entries = (es ∙ (λ i. (m i).entries ++ record { stamp = p i; seat = q i; event = r i; answers = [] } ∷ [])) j;
    }

-- a stamp was left for the step
pub unspent : (k : Cause) (a : Looping) (s : ℕ) → s ≡ stamp_of k a → s < 2 ^ 64 → IsSpent k a → ⊥
unspent k a s e l spent = omega (arith, e, l, spent)

-- the step of a leave was made, and there was no memory to tell all who are to be told
pub ends_left : (k : Cause) (a m b : Looping) → Makes k a m → b ≡ record m { left = true; desk = b.desk; owed = b.owed }
    → IsNoted k a b × KeepsOwing a b → Begins b.desk.replies (left_by m.desk).replies
    → Ends Memory k (λ core answers. left_by (desk_of k a core answers)) a b
ends_left k a m b M is owing told = (
  unspent k a (stamp_of k a) refl M.fits,
  inr (record {
    turn = M.turn;
    step = subst (λ (h : CoreState). Steps k.event a.core h M.turn) (sym core) M.step;
    log = ap (λ (l : Looping). l.log) is ∙ M.log;
    tray = record {
      put = M.turn.letters;
      rest = [];
      split = sym (append-nil M.turn.letters);
      tray = ap (λ (l : Looping). l.tray) is ∙ M.tray;
    };
    replies = begins_as _ _ _ _ refl (ap (λ (d : Kept). (left_by d).replies)
        (M.desk ∙ ap (λ (h : CoreState). desk_of k a h M.turn.answers) (sym core))) told;
    noted = owing.0;
    owing = owing.1;
  }),
)
  where
    core : b.core ≡ m.core
    core = ap (λ (l : Looping). l.core) is

-- the thread ends within the step of a leave
pub ends_leaving : (why : TurnFault) (k : Cause) (a b : Looping) → Ends why k (desk_of k a) a b
    → Ends why k (λ core answers. left_by (desk_of k a core answers)) a b
ends_leaving StampsSpent k a b h = h
ends_leaving Memory k a b h = (
  h.0,
  elim h.1 [
    | inl rests ↦ inl rests
    | inr begun ↦ inr (record {
      turn = begun.turn;
      step = begun.step;
      log = begun.log;
      tray = begun.tray;
      replies = begins_on _ _ _ begun.replies (left_begins (desk_of k a b.core begun.turn.answers));
      noted = begun.noted;
      owing = begun.owing;
    })
  ],
)

module _ (P Q : Type 0) where
  pub at_true : (b : Bool) → b ≡ true → P → MatchBool b P Q
  at_true true e h = h
  at_true false e h = cc

  pub at_false : (b : Bool) → b ≡ false → Q → MatchBool b P Q
  at_false true e h = cc
  at_false false e h = h
