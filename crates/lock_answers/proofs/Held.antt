-- Where `true` is answered to the last try of a process, somebody that it has to ask isn't told of as departed.
use mathlib.Core.Logic.{◌⊎◌}
use Rattle.std.proofs.Common.{ℕ, true, false, ◌≡◌, ◌≤◌, Option, Some, None, List, ◌∷◌, refl, sym, ap, ◌∙◌, subst, inl, inr}
use Rattle.std.specs.Prelude.{◌&&◌}
use Rattle.std.specs.List.{list_all}
use Rattle.std.proofs.lemmas.Bool.{eq-eqb}
use Rattle.registry_model.specs.Process.{Process}
use Rattle.registry_model.specs.Call.{Reply, True, is_reply}
use Rattle.protocol_model.specs.Letter.{Global, Letter}
use Rattle.protocol_model.specs.Node.{Node, LockPhase, LockCall, call_of}
use Rattle.protocol_model.specs.Event.{Call, Event}
use Rattle.protocol_model.specs.Turn.{Turn}
use Rattle.protocol_model.specs.ClientLocks.{Try, last_try}
use Rattle.protocol_model.specs.LockAnswers.{tries_by, tries_of, AsksSomebody, IsHeldSomewhere, AtEachStep}
use Rattle.protocol_model.specs.World.{Opening, in_world, World, WorldEvent, At, Deliver, place, opening_world, refusal, turn_of, accepted, answers}
use Rattle.protocol_model.proofs.Waiting.{accepted-node}
use Rattle.registry_model.proofs.Updates.{at_same}
use Rattle.moves.proofs.Rules
use Rattle.moves.proofs.Rules.{Rule}
use Rattle.moves.proofs.Rules.Rule.{CallsLock}
use Rattle.walk.proofs.ChainKinds.{Aside, Again, suits}
use Rattle.walk.proofs.Events.{accepted_of, IsSecond}
use Rattle.walk.proofs.Orders.{ordered_keeps}
use Rattle.walk.proofs.Walk.{OrderedWalk, InOrder, walked_in_order}
use Rattle.leftovers.proofs.Answering.{is_true, any_true}
use Rattle.leftovers.proofs.Beginnings.{either_rule, deletes_silent, nothing_silent}
use Rattle.leftovers.proofs.Chains.{is_calm, aside_calm, calm_answers}
use Rattle.leftovers.proofs.Opening.{no_numbers}
use Rattle.leftovers.proofs.Numbering.{Numbered}
use Rattle.leftovers.proofs.Ongoing.{is_deleting}
use Rattle.leftovers.proofs.Told.{all_of_all, retry_calm, chain_of, first_heard}
use Rattle.leftovers.proofs.Tallies.{fits_opens, fits_behind}
use Rattle.leftovers.proofs.Tries.{IsTryOf, Fits}
use Rattle.leftovers.proofs.Walking.{opening_state}
use Rattle.leftovers.specs.Clauses.{world}
use Rattle.leftovers.proofs.HeadlineClients.{grounds}
use Rattle.leftovers.proofs.Together.{All}
use Rattle.leftovers.proofs.Grounds.{wide, lock_state}
use Rattle.leftovers.proofs.Families.{whole}
use Rattle.leftovers.proofs.Rest.{Rests}
use Rattle.leftovers.proofs.RestEvents.{AllRest, all_rest_keeps}
use Rattle.lock_answers.proofs.LastTry.{last_of, last_by, last_of_tries, tries_behind}
use Rattle.lock_answers.proofs.Winning.{Ground, AsksMember, are_quiet, asks_by, own_call, chain_won}
use Rattle.protocol_model.proofs.Finding.{found_any}
use Rattle.lock_answers.proofs.Notices.{asks_in}
use Rattle.lock_answers.proofs.NoticeTurns.{behind, behind_wins}
use Rattle.lock_answers.proofs.GrantEvents.{quiet_or_notice, notice_turn, ground_run}
use Rattle.lock_answers.proofs.Pushed.{answers_turn, happens_now, answer_place}

-- the last try of a process fits its open call, after every list of events
pub fits_run : (o : Opening) (es : List WorldEvent) (p : Process) → Fits (world o es) p (last_of (tries_of o es p))
fits_run o es p = subst (Fits (world o es) p) (last_of_tries o p es (Global 0) 0)
    (fits_behind o (All o) (grounds o) es (opening_world o) no_numbers (opening_state o (All o) (grounds o))
    (record { number = 0; last = None }) p (Global 0) 0 (fits_opens o p))

module _ (o : Opening) (w : World) (G : Ground o w) (N : Numbered o w) (p : Process) (s : Try) where
  -- a call, an exit, a retry or a leave answers `true` to no try
  calm : (a : ℕ) (rs : List Rule) → list_all is_calm rs ≡ true → Rules.MayAll o a rs w
      → any_true p.node s.number (Rules.answers_by o a rs w) ≡ false
  calm a rs h m = calm_answers o a rs w h m G.replying p.node s.number

  aside : (a : ℕ) (rs : List Rule) → list_all (suits Aside) rs ≡ true → Rules.MayAll o a rs w
      → any_true p.node s.number (Rules.answers_by o a rs w) ≡ false
  aside a rs h m = calm a rs (all_of_all (suits Aside) is_calm aside_calm rs h) m

  -- a call
  call_silent : (a : ℕ) (c : Call) (rest : List Rule) → Rules.MayAll o a (chain_of o w (At a (Event.Calling c)) rest) w
      → InOrder o w (At a (Event.Calling c)) rest → (k : Option Try) → Fits w p k → p.node ≡ a
      → last_try w (At a (Event.Calling c)) p k ≡ Some s
      → any_true p.node s.number (Rules.answers_by o a (chain_of o w (At a (Event.Calling c)) rest) w) ≡ false
  call_silent a Call.Spawn rest m h k F home last = aside a (chain_of o w (At a (Event.Calling Call.Spawn)) rest) h m
  call_silent a (Call.LookUp look) rest m h k F home last =
      aside a (chain_of o w (At a (Event.Calling (Call.LookUp look))) rest) h m
  call_silent a (Call.OnName c) rest m h k F home last =
      aside a (chain_of o w (At a (Event.Calling (Call.OnName c))) rest) h m
  call_silent a (Call.JoinBy j) rest m h k F home last =
      aside a (chain_of o w (At a (Event.Calling (Call.JoinBy j))) rest) h m
  call_silent a (Call.SetLock q r z target times) rest m h k F home last =
      calm a (CallsLock ∷ rest) (subst (λ (rs : List Rule). list_all is_calm rs ≡ true) (sym h.1.1.0) (by h.1.1.1)) m
    where
      later : list_all is_calm h.1.0 ≡ true
      later = all_of_all (suits Aside) is_calm aside_calm h.1.0 h.1.1.2

      by : IsSecond o a w (Call.SetLock q r z target times) h.0 → (is_calm h.0 && list_all is_calm h.1.0) ≡ true
      by (inl e) = ap (λ (x : Rule). is_calm x && list_all is_calm h.1.0) e ∙ later
      by (inr e) = ap (λ (x : Rule). is_calm x && list_all is_calm h.1.0) e ∙ later
  call_silent a (Call.DelLock q r z target) rest m h k F home last =
      either_rule o w a (λ rs. any_true p.node s.number (Rules.answers_by o a (CallsLock ∷ rs) w) ≡ false) _ _ h.0 h.1.0 rest
      h.1.1.0 h.1.1.1 m
      (λ n. deletes_silent o w a q r z target G.replying h.1.0 h.1.1.2 p.node s.number n)
      (λ n. nothing_silent o w a q r z target G.replying h.1.0 h.1.1.2 p.node s.number n (λ i. low))
    where
      low : s.number ≤ (w.node a).last_call
      low = subst (λ (n : ℕ). s.number ≤ (w.node n).last_call) home (F.below s last)

  -- somebody whom the try has to ask isn't told of as departed
  module _ (R : AllRest o w) (e : WorldEvent) (is : refusal o w e ≡ None) where
    abbrev W : OrderedWalk o w e
    W = walked_in_order o w e G.base.ordered (wide o w G.base) is

    -- a chain without a notice
    by_chain : (x : WorldEvent) → e ≡ x → are_quiet (chain_of o w x W.walk.rest) ≡ true
        → Rules.MayAll o (place x) (chain_of o w x W.walk.rest) w → InOrder o w x W.walk.rest
        → Rules.effects o (place x) (chain_of o w x W.walk.rest) w ≡ accepted o w x
        → (k : Option Try) → Fits w p k → p.node ≡ place x → last_try w x p k ≡ Some s
        → any_true p.node s.number (Rules.answers_by o (place x) (chain_of o w x W.walk.rest) w) ≡ true
        → AsksSomebody (accepted o w x) p s
    by_chain (At a (Event.Calling c)) j q m h end k F home last given =
        absurd (cc (call_silent a c W.walk.rest m h k F home last, given))
    by_chain (At a Event.Retry) j q m h end k F home last given = absurd (cc (
      calm a W.walk.rest (all_of_all (suits (Again (w.node a))) is_calm (retry_calm (w.node a)) W.walk.rest h) m,
      given,
    ))
    by_chain (At a (Event.Exiting d)) j q m h end k F home last given =
        absurd (cc (aside a (chain_of o w (At a (Event.Exiting d)) W.walk.rest) h m, given))
    by_chain (At a Event.Leave) j q m h end k F home last given =
        absurd (cc (aside a (chain_of o w (At a Event.Leave) W.walk.rest) h m, given))
    by_chain (Deliver f t) j q m h end k F home last given = record {
      node = one.0;
      asked = one.1;
      stays = subst (λ (n : ℕ). ((accepted o w (Deliver f t)).node n).replica.told one.0 ≡ false) (sym home)
          (rests.sides.group.apart one.0 (subst (λ (v : World). (v.node t).replica.members one.0 ≡ true) end one.2));
    }
      where
        rests : Rests o t ((accepted o w (Deliver f t)).node t)
        rests = subst (λ (x : WorldEvent). AllRest o (accepted o w x)) j (all_rest_keeps o w G.base G.near e is R) t
            (subst (λ (x : WorldEvent). in_world o (place x) ≡ true) j (accepted_of o w e is).place_inside)

        one : AsksMember o t (Rules.effects o t (chain_of o w (Deliver f t) W.walk.rest) w) s
        one = chain_won o t p s home (chain_of o w (Deliver f t) W.walk.rest) w G (subst (Fits w p) last F)
            (first_heard o (ordered_keeps o) w G.base.num G.base.ordered G.replying N f t (w.links.queue f t)
            W.walk.rest h) q m given

    -- a notice
    by_notice : (f t : ℕ) (ls : List Letter) → w.links.queue f t ≡ Letter.Down ∷ ls → (k : Option Try) → Fits w p k
        → p.node ≡ t → last_try w (Deliver f t) p k ≡ Some s
        → any_true p.node s.number (turn_of o w (Deliver f t)).answers ≡ true
        → AsksSomebody (accepted o w (Deliver f t)) p s
    by_notice f t ls front k F home last given = asks won.0 won.1 won.2 won.3
      where
        same : turn_of o w (Deliver f t) ≡ behind o w G.base t f
        same = notice_turn o w G.base f t ls front

        won : (c : LockCall) × (call_of c.holder (w.node t).calls ≡ Some c) × (c.number ≡ s.number)
            × ((is_deleting c.phase ≡ true) ⊎ ((x : ℕ) × (asks_in x c.phase ≡ true)
            × ((behind o w G.base t f).node.replica.told x ≡ false)))
        won = behind_wins o w G.base t f (G.replying t) (G.clear t) p.node s.number
            (subst (λ (u : Turn). any_true p.node s.number u.answers ≡ true) same given)

        told_now : (x : ℕ) → (behind o w G.base t f).node.replica.told x ≡ false
            → ((accepted o w (Deliver f t)).node p.node).replica.told x ≡ false
        told_now x h = ap (λ (n : ℕ). ((accepted o w (Deliver f t)).node n).replica.told x) home
            ∙ ap (λ (g : ℕ → Node). (g t).replica.told x) (accepted-node o w (Deliver f t))
            ∙ ap (λ (v : Node). v.replica.told x) (at_same w.node t (turn_of o w (Deliver f t)).node)
            ∙ ap (λ (u : Turn). u.node.replica.told x) same ∙ h

        asks : (c : LockCall) → call_of c.holder (w.node t).calls ≡ Some c → c.number ≡ s.number
            → ((is_deleting c.phase ≡ true) ⊎ ((x : ℕ) × (asks_in x c.phase ≡ true)
            × ((behind o w G.base t f).node.replica.told x ≡ false)))
            → AsksSomebody (accepted o w (Deliver f t)) p s
        asks c found number h =
            let own : (is_deleting c.phase ≡ false) × IsTryOf s c =
            own_call o t p s home w G (subst (Fits w p) last F) c c.phase (record { call = found; phase = refl })
            number in
            elim h [
              | inl d ↦ absurd (cc (own.0, d))
              | inr x ↦ record {
                node = x.0;
                asked = by_phase c.phase refl own.1 x.0 x.1;
                stays = told_now x.0 x.2;
              }
            ]
          where
            by_phase : (f : LockPhase) → c.phase ≡ f → IsTryOf s c → (x : ℕ) → asks_in x f ≡ true → s.asks x ≡ true
            by_phase (LockPhase.Asking r) i T x q = asks_by s c r x T i q
            by_phase LockPhase.Waiting i T x q = cc
            by_phase (LockPhase.Deleting owing) i T x q = cc

    asks_somebody : (k : Option Try) → Fits w p k → p.node ≡ place e → last_try w e p k ≡ Some s
        → any_true p.node s.number (turn_of o w e).answers ≡ true → AsksSomebody (accepted o w e) p s
    asks_somebody k F home last given = elim (quiet_or_notice o w e W.walk.rest W.walk.quiet) [
      | inl q ↦ by_chain e refl q W.walk.may W.in_order W.walk.world k F home last
          (ap (any_true p.node s.number) W.walk.answers ∙ given)
      | inr I ↦ (subst (λ (x : WorldEvent). p.node ≡ place x → last_try w x p k ≡ Some s
          → any_true p.node s.number (turn_of o w x).answers ≡ true → AsksSomebody (accepted o w x) p s) (sym I.event)
          (λ i l y. by_notice I.sender I.receiver I.later I.front k F i l y)) home last given
    ]

pub is_held_somewhere : AtEachStep IsHeldSomewhere
is_held_somewhere o es e is p t s told A reply =
    subst (λ (v : World). AsksSomebody v p t.last) (sym (happens_now o es e is))
    (asks_somebody o (world o es) (ground_run o es) (lock_state o es).numbered p t.last (whole o es).rest e is
    (last_of (tries_of o es p)) (fits_run o es p) (sym A.node ∙ answer_place o es e is s A.given) last given)
  where
    now : tries_by o (world o es) e p (tries_of o es p) ≡ Some t
    now = sym (tries_behind o p es e is) ∙ told

    last : last_try (world o es) e p (last_of (tries_of o es p)) ≡ Some t.last
    last = sym (last_by o p (world o es) e (tries_of o es p)) ∙ ap last_of now

    given : any_true p.node t.last.number (turn_of o (world o es) e).answers ≡ true
    given = ap (any_true p.node t.last.number) (sym (answers_turn o es e is))
        ∙ found_any (is_true p.node t.last.number) (answers o (world o es) e) s A.given
        (rw (eq-eqb s.node p.node A.node, eq-eqb s.number t.last.number A.number)
        (ap (λ (r : Reply). is_reply r True) reply))
