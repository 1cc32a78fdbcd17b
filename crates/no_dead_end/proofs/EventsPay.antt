-- Of every world that events can reach: no event raises its work by more than it pays, so all deliveries of a run were paid for.
use Rattle.std.proofs.Common.{ℕ, Bool, true, false, ◌==◌, ◌≡◌, ◌≤◌, ◌+◌, Option, Some, None, List, [], ◌∷◌, refl, sym, ap, subst, ◌∙◌, arith}
use Rattle.std.specs.Prelude.{not, ◌&&◌, is_none, if◌then◌else◌}
use Rattle.std.specs.List.{sum_by}
use Rattle.std.proofs.lemmas.Bool.{eq-eqb}
use Rattle.registry_model.specs.Process.{Nodes}
use Rattle.registry_model.specs.Table.{without}
use Rattle.registry_model.specs.Registry.{opening}
use Rattle.protocol_model.specs.Node.{Current}
use Rattle.protocol_model.specs.Event.{Event, Refusal}
use Rattle.protocol_model.specs.World.{Opening, in_world, in_cluster, World, left, WorldEvent, At, Deliver, opening_world, refusal, accepted, happens, run}
use Rattle.protocol_model.specs.Fit.{is_delivery}
use Rattle.named_events.proofs.Indices.{both}
use Rattle.walk.proofs.Events.{accepted_of}
use Rattle.walk.proofs.Runs.{happens-accepted}
use Rattle.walk.proofs.Walk.{OrderedWalk, walked_in_order}
use Rattle.named_events.proofs.Grounds.{Both, wide, both_event}
use Rattle.no_dead_end.specs.Weights.{sum_below, Weights, when, may_strike, of_place, total}
use Rattle.no_dead_end.specs.Work.{size, may_die, work_weights, work}
use Rattle.no_dead_end.specs.Payments.{event_pays, pays, paid, delivered, EventsPay}
use Rattle.no_dead_end.proofs.Sums.{sum-same, sum-zero, when-le}
use Rattle.no_dead_end.proofs.RuleWork.{Ready}
use Rattle.no_dead_end.proofs.Deliveries.{running_few, lowers}
use Rattle.no_dead_end.proofs.AdmitsJoined.{AdmitsJoined, keeps, known, along_begins, along_ready}
use Rattle.no_dead_end.proofs.TurnWork.{is_leaving}
use Rattle.no_dead_end.proofs.Payments.{event_pays_work, leave_pays_work}
use Rattle.named_events.specs.Worlds.{running}
use Rattle.named_events.specs.Clauses.{Always}

module _ (o : Opening) where
  abbrev Known : World → Type 0
  Known w = Both o (AdmitsJoined o) (keeps o) w

  -- an accepted event
  accepted_pays : (w : World) → Known w → (e : WorldEvent) → refusal o w e ≡ None → work o (accepted o w e) ≤ work o w + pays o w e
  accepted_pays w k (Deliver f t) r =
      let less : _ = lowers o w k f t r in
      let same : work o (happens o w (Deliver f t)) ≡ work o (accepted o w (Deliver f t)) =
      ap (work o) (happens-accepted o w (Deliver f t) r) in omega (arith, less, same)
  accepted_pays w k (At a e) r = go e r (walked_in_order o w (At a e) k.base.ordered (wide o w k.base) r)
    where
      inside : (x : Event) → refusal o w (At a x) ≡ None → (in_world o a ≡ true) × (left w a ≡ false)
      inside x q = ((accepted_of o w (At a x) q).place_inside, (accepted_of o w (At a x) q).running)

      R : (in_world o a ≡ true) × (left w a ≡ false) → Ready o (running o w) w a
      R i = along_ready o a w w (along_begins o w k) i.0 i.1

      goes_on : (x : Event) → is_leaving x ≡ false → refusal o w (At a x) ≡ None → OrderedWalk o w (At a x)
          → left (accepted o w (At a x)) ≡ left w
          → work o (accepted o w (At a x)) ≤ work o w + event_pays (size o) (w.node a) x
      goes_on x l q h stay = subst (λ (s : ℕ → Bool). total o.bound (work_weights (size o) (may_die (accepted o w (At a x))))
          (λ c. in_world o c && not (s c)) (accepted o w (At a x)) ≤ work o w + event_pays (size o) (w.node a) x) (sym stay)
          (event_pays_work o (size o) (running o w) (running_few o w) a w (R (inside x q)).counts (inside x q).0
          (R (inside x q)).some x l h)

      go : (x : Event) → refusal o w (At a x) ≡ None → OrderedWalk o w (At a x)
          → work o (accepted o w (At a x)) ≤ work o w + event_pays (size o) (w.node a) x
      go (Event.Calling c) q h = goes_on (Event.Calling c) refl q h refl
      go Event.Retry q h = goes_on Event.Retry refl q h refl
      go (Event.Exiting p) q h = goes_on (Event.Exiting p) refl q h refl
      go Event.Leave q h = leave_pays_work o (size o) (running o w) (running_few o w) a w (R (inside Event.Leave q)).counts
          (inside Event.Leave q).0 (R (inside Event.Leave q)).some (running o x) (running_few o x) gone
          (λ c e. less c (both (in_world o c) (not (left x c)) e)) h
        where
          x : World
          x = accepted o w (At a Event.Leave)

          gone : running o x a ≡ false
          gone = rw (eq-eqb a a refl) (none (in_world o a))
            where
              none : (t : Bool) → (t && false) ≡ false
              none true = refl
              none false = refl

          less : (c : ℕ) → (in_world o c ≡ true) × (not (left x c) ≡ true) → running o w c ≡ true
          less c p = rw p.0 (by (c == a) (left w c) p.1)
            where
              by : (t l : Bool) → not (if t then true else l) ≡ true → not l ≡ true
              by true l h = cc h
              by false l h = h

  -- any event
  happens_pays : (w : World) → Known w → (e : WorldEvent)
      → (work o (happens o w e) ≤ work o w + when (is_none (refusal o w e)) (pays o w e)) × Known (happens o w e)
  happens_pays w k e = go (refusal o w e) refl
    where
      go : (x : Option Refusal) → refusal o w e ≡ x
          → (work o (if is_none x then accepted o w e else w) ≤ work o w + when (is_none x) (pays o w e))
          × Known (if is_none x then accepted o w e else w)
      go None r = (accepted_pays w k e r, both_event o (AdmitsJoined o) (keeps o) w e k r)
      go (Some x) r = (omega arith, k)

  -- and a delivery that is accepted is paid for
  one_paid : (w : World) → Known w → (e : WorldEvent) → when (is_none (refusal o w e) && is_delivery e) 1 + work o (happens o w e)
      ≤ work o w + when (is_none (refusal o w e)) (pays o w e)
  one_paid w k (Deliver f t) = go (refusal o w (Deliver f t)) refl
    where
      go : (x : Option Refusal) → refusal o w (Deliver f t) ≡ x → when (is_none x && true) 1 + work o (happens o w (Deliver f t))
          ≤ work o w + when (is_none x) 0
      go None r = let less : _ = lowers o w k f t r in omega (arith, less)
      go (Some x) r = let same : work o (happens o w (Deliver f t)) ≡ work o w =
          ap (λ (y : Option Refusal). work o (if is_none y then accepted o w (Deliver f t) else w)) r in omega (arith, same)
  one_paid w k (At a e) =
      let h : _ = (happens_pays w k (At a e)).0 in
      let none : when (is_none (refusal o w (At a e)) && false) 1 ≡ 0 = nothing (is_none (refusal o w (At a e))) in
      omega (arith, h, none)
    where
      nothing : (t : Bool) → when (t && false) 1 ≡ 0
      nothing true = refl
      nothing false = refl

  run_paid : (fs : List WorldEvent) (w : World) → Known w → delivered o w fs + work o (run o w fs) ≤ work o w + paid o w fs
  run_paid [] w k = omega arith
  run_paid (e ∷ fs) w k =
      let one : when (is_none (refusal o w e) && is_delivery e) 1 + work o (happens o w e)
      ≤ work o w + when (is_none (refusal o w e)) (pays o w e) = one_paid w k e in
      let more : delivered o (happens o w e) fs + work o (run o (happens o w e) fs)
      ≤ work o (happens o w e) + paid o (happens o w e) fs = run_paid fs (happens o w e) (happens_pays w k e).1 in
      omega (arith, one, more)

  -- a world opens without work, whoever counts
  pub opens_idle : (n : ℕ) (up : Nodes)
      → total o.bound (work_weights n (may_die (opening_world o))) up (opening_world o) ≡ 0
  opens_idle n up = sum-same o.bound (λ c. when (up c) (of_place o.bound W up (opening_world o) c)) (λ c. 0)
      (λ c l. ap (when (up c)) (idle c) ∙ none (up c)) ∙ sum-zero o.bound
    where
      W : Weights
      W = work_weights n (may_die (opening_world o))

      empty : (c : ℕ) → ((opening_world o).node c).replica.table ≡ []
      empty c = by (in_cluster o c)
        where
          by : (t : Bool) → without ((opening (in_cluster o)).told c) (if t then [] else []) ≡ []
          by true = refl
          by false = refl

      idle : (c : ℕ) → of_place o.bound W up (opening_world o) c ≡ 0
      idle c =
          let own : sum_by (λ pair. when (may_strike c Current.Free pair) W.owned) ((opening_world o).node c).replica.table ≡ 0 =
          ap (sum_by (λ pair. when (may_strike c Current.Free pair) W.owned)) (empty c) in
          let z : sum_below o.bound (λ f. 0) ≡ 0 = sum-zero o.bound in omega (arith, own, z)

      none : (t : Bool) → when t 0 ≡ 0
      none true = refl
      none false = refl

pub events_pay : Always EventsPay
events_pay o es = record {
  raises = λ e. let h : _ = (happens_pays o (run o (opening_world o) es) (known o es) e).0 in
      let most : when (is_none (refusal o (run o (opening_world o) es) e)) (pays o (run o (opening_world o) es) e)
      ≤ pays o (run o (opening_world o) es) e =
      when-le (is_none (refusal o (run o (opening_world o) es) e)) (pays o (run o (opening_world o) es) e) in omega (arith, h, most);
  runs = λ fs. run_paid o fs (run o (opening_world o) es) (known o es);
  all = let h : _ = run_paid o es (opening_world o) (known o []) in let none : work o (opening_world o) ≡ 0 =
      opens_idle o (size o) (running o (opening_world o)) in
      omega (arith, h, none);
}
