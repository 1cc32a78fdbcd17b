-- Merged ends are a run, and where places rise as nodes do, numbers rise along it.
use Rattle.std.proofs.Common.{ℕ, true, ◌≡◌, ◌<◌, inl, inr, List, ◌∷◌, ◌++◌, ap, subst, arith}
use Rattle.std.specs.Prelude.{◌⊎◌}
use Rattle.protocol_model.specs.World.{Opening, in_world, World, opening_world, run}
use Rattle.closings.specs.Merging.{Step, is_before, happening, events_in, world_behind, Takes, TakesAll}
use Rattle.closings.proofs.Merged.{consistent_ends_play}
use Rattle.walk.proofs.Events.{accepted_of}
use Rattle.fences.specs.Grants.{IsRun, fence}
use Rattle.fences.specs.Laws.{MergedEndsAreRuns, FencesRise, OwnFencesRise}
use Rattle.fences.proofs.Numbers.{by_stamp, by_place}
use Rattle.fences.proofs.Orders.{is_before_cases, order_behind, takes_behind, leads_all, leads_one}

pub merged_ends_are_runs : MergedEndsAreRuns
merged_ends_are_runs o logs tables ss C M =
    record { order = M.order; takes = (consistent_ends_play o logs tables ss C M).takes }

-- a step that the world takes is one of its nodes'
pub node_inside : (o : Opening) (w : World) (s : Step) → Takes o w s → in_world o s.node ≡ true
node_inside o w s T =
    subst (λ (a : ℕ). in_world o a ≡ true) T.own (accepted_of o w (happening s) T.accepted).place_inside

-- the first of two steps of a run is before the second
one_before : (o : Opening) (before between later : List Step) (s t : Step) → IsRun o (before ++ (s ∷ between ++ t ∷ later))
    → is_before s t ≡ true
one_before o before between later s t R = leads_one s between t later
    (leads_all s (between ++ t ∷ later) (order_behind before (s ∷ between ++ t ∷ later) R.order))

pub own_fences_rise : OwnFencesRise
own_fences_rise o place before between later s t same R =
    go (is_before_cases s t (one_before o before between later s t R)) (ap place same)
  where
    go : (s.entry.stamp < t.entry.stamp) ⊎ ((s.entry.stamp ≡ t.entry.stamp) × (s.node < t.node)) → place s.node ≡ place t.node
        → fence place s < fence place t
    go (inl h) e = omega (arith, h, e)
    go (inr h) e = absurd (omega (arith, h.1, same))

pub fences_rise : FencesRise
fences_rise o place before between later s t P rise R = elim (is_before_cases s t (one_before o before between later s t R)) [
  | inl h ↦ by_stamp s.entry.stamp t.entry.stamp (place s.node) (place t.node) (P s.node inside_first) h
  | inr h ↦ by_place s.entry.stamp t.entry.stamp (place s.node) (place t.node) h.0
      (rise s.node t.node inside_first inside_second h.1)
]
  where
    taken : TakesAll o (world_behind o before) (s ∷ between ++ t ∷ later)
    taken = takes_behind o (opening_world o) before (s ∷ between ++ t ∷ later) R.takes

    inside_first : in_world o s.node ≡ true
    inside_first = node_inside o (world_behind o before) s taken.0

    inside_second : in_world o t.node ≡ true
    inside_second = node_inside o w t (takes_behind o (world_behind o before) (s ∷ between) (t ∷ later) taken).0
      where
        w : World
        w = run o (world_behind o before) (events_in (s ∷ between))
