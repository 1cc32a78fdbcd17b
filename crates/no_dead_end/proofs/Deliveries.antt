-- Deliveries end: each lowers the work, and a `settle` of as many deliveries as there is work leaves a quiet world.
use Rattle.std.proofs.Common.{ℕ, zero, suc, Bool, true, false, ◌≡◌, ◌<◌, ◌≤◌, ◌*◌, Option, Some, None, List, [], ◌∷◌, refl, sym, ap, subst, arith}
use Rattle.std.specs.Prelude.{length, not, ◌&&◌}
use Rattle.registry_model.specs.Process.{nodes_of}
use Rattle.protocol_model.specs.World.{Opening, in_world, World, left, WorldEvent, Deliver, opening_world, refusal, accepted, happens, run, next_delivery, deliveries_left}
use Rattle.protocol_model.specs.Delivering.{LetterWaits, IsFirstDelivery}
use Rattle.protocol_model.specs.Letter.{Letter}
use Rattle.protocol_model.specs.Links.{is_nil}
use Rattle.protocol_model.proofs.Deliveries.{delivers_the_first}
use Rattle.walk.proofs.Runs.{happens-accepted}
use Rattle.walk.proofs.Walk.{walked_in_order}
use Rattle.named_events.proofs.Grounds.{Both, wide, both_event}
use Rattle.no_dead_end.specs.Weights.{sum_below, when}
use Rattle.no_dead_end.specs.Work.{size, work}
use Rattle.no_dead_end.specs.Deliveries.{DeliveriesLower, SettlesInTime}
use Rattle.no_dead_end.proofs.Sums.{sum-le, sum-each}
use Rattle.no_dead_end.proofs.DeliveryWork.{counted, delivery_work}
use Rattle.no_dead_end.proofs.AdmitsJoined.{AdmitsJoined, keeps, known, Along, along_begins, along_keeps, along_ready}
use Rattle.named_events.specs.Worlds.{of_nodes, IsQuiet, running}
use Rattle.named_events.specs.Clauses.{Always}

-- who runs is of the world
pub running_few : (o : Opening) (w : World) → length (nodes_of o.bound (running o w)) ≤ size o
running_few o w =
    let le : sum_below o.bound (λ c. when (running o w c) 1) ≤ sum_below o.bound (λ c. when (in_world o c) 1) =
    sum-le o.bound (λ c. when (running o w c) 1) (λ c. when (in_world o c) 1) (λ c l. one (in_world o c) (left w c)) in
    let a : sum_below o.bound (λ c. when (running o w c) 1) ≡ length (nodes_of o.bound (running o w)) * 1 =
    sum-each o.bound (running o w) 1 in
    let c : sum_below o.bound (λ c. when (in_world o c) 1) ≡ length (nodes_of o.bound (in_world o)) * 1 =
    sum-each o.bound (in_world o) 1 in
    omega (arith, le, a, c)
  where
    one : (i l : Bool) → when (i && not l) 1 ≤ when i 1
    one true true = omega arith
    one true false = omega arith
    one false l = omega arith

module _ (o : Opening) where
  abbrev Known : World → Type 0
  Known w = Both o (AdmitsJoined o) (keeps o) w

  -- a delivery lowers the work
  pub lowers : (w : World) → Known w → (f t : ℕ) → refusal o w (Deliver f t) ≡ None
      → work o (happens o w (Deliver f t)) < work o w
  lowers w b f t r =
      let h : counted o (size o) (running o w) (running_few o w) t (accepted o w (Deliver f t))
      < counted o (size o) (running o w) (running_few o w) t w =
      delivery_work o (size o) (running o w) (running_few o w) t (Along o w) (along_ready o t w) (along_keeps o t w) f w
      (along_begins o w b) (walked_in_order o w (Deliver f t) b.base.ordered (wide o w b.base) r) r in
      let same : work o (happens o w (Deliver f t))
      ≡ counted o (size o) (running o w) (running_few o w) t (accepted o w (Deliver f t)) =
      ap (work o) (happens-accepted o w (Deliver f t) r) in
      omega (arith, h, same)

  -- a letter that waits is delivered
  unrefused : (w : World) (f t : ℕ) → LetterWaits o w f t → refusal o w (Deliver f t) ≡ None
  unrefused w f t L = rw (L.sender, L.receiver.0, L.receiver.1, full (w.links.queue f t) L.waits) refl
    where
      full : (ls : List Letter) → (ls ≡ [] → ⊥) → is_nil ls ≡ false
      full [] h = absurd (h refl)
      full (l ∷ ls) h = refl

  -- so is what comes next
  next_lowers : (w : World) (d : WorldEvent) → Known w → next_delivery o w ≡ Some d
      → (refusal o w d ≡ None) × (work o (happens o w d) < work o w)
  next_lowers w d b e =
      let F : IsFirstDelivery o w d = (delivers_the_first o w).some d e in
      let r : refusal o w (Deliver F.sender F.receiver) ≡ None = unrefused w F.sender F.receiver F.waits in
      subst (λ (x : WorldEvent). (refusal o w x ≡ None) × (work o (happens o w x) < work o w)) (sym F.delivery)
      (r, lowers w b F.sender F.receiver r)

  -- a `settle` leaves a quiet world
  pub settles : (most : ℕ) (w : World) → Known w → work o w ≤ most → IsQuiet (of_nodes o) (run o w (deliveries_left o most w))
  settles zero w b l = go (next_delivery o w) refl
    where
      go : (x : Option WorldEvent) → next_delivery o w ≡ x → IsQuiet (of_nodes o) w
      go None e = (delivers_the_first o w).none.0 e
      go (Some d) e = let h : _ = (next_lowers w d b e).1 in absurd (omega (arith, h, l))
  settles (suc most) w b l = go (next_delivery o w) refl (λ d c k. settles most (happens o w d) c k)
    where
      go : (x : Option WorldEvent) → next_delivery o w ≡ x
          → ((d : WorldEvent) → Known (happens o w d) → work o (happens o w d) ≤ most
          → IsQuiet (of_nodes o) (run o (happens o w d) (deliveries_left o most (happens o w d))))
          → IsQuiet (of_nodes o) (run o w (elim x [ None ↦ [] | Some e ↦ e ∷ deliveries_left o most (happens o w e) ]))
      go None e more = (delivers_the_first o w).none.0 e
      go (Some d) e more =
          let h : (refusal o w d ≡ None) × (work o (happens o w d) < work o w) = next_lowers w d b e in
          more d (subst Known (sym (happens-accepted o w d h.0)) (both_event o (AdmitsJoined o) (keeps o) w d b h.0))
          (omega (arith, h.1, l))

-- so it is of every world that events can reach
pub deliveries_lower : Always DeliveriesLower
deliveries_lower o es f t r = lowers o (run o (opening_world o) es) (known o es) f t r

pub settles_in_time : Always SettlesInTime
settles_in_time o es most l = settles o most (run o (opening_world o) es) (known o es) l
