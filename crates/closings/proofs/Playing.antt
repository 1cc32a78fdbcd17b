-- The logs of consistent ends are merged, and the run is played.
use Rattle.std.proofs.Common.{ℕ, Bool, true, ◌≡◌, ◌≤◌, List, [], ◌∷◌, map, refl, sym, subst, ◌∙◌, arith}
use Rattle.std.proofs.lemmas.Bool.Decides.{nat_tests}
use Rattle.std.specs.Prelude.{◌&&◌, nat_lt}
use Rattle.protocol_model.specs.Node.{Node, opening_node}
use Rattle.protocol_model.specs.World.{Opening, in_cluster}
use Rattle.closings.specs.Alone.{Stamped, LogEntry, Made, sent, Does, unread_after, StartsAbove, Plays}
use Rattle.closings.proofs.Merged.{consistent_ends_play}
use Rattle.closings.specs.Laws.{AreMerged, ConsistentEndsHaveARun}
use Rattle.closings.proofs.Inserting.{AreAbove}
use Rattle.closings.proofs.Entering.{AreRising, above_lesser}
use Rattle.closings.proofs.Gathering.{merge}

-- the entries of these steps
abbrev entries : List Made → List LogEntry
entries ds = map (λ d. d.entry) ds

-- where the first of these steps has a stamp above n, and they rise, all have
all_above : (n : ℕ) (ds : List Made) → StartsAbove n ds → AreRising (entries ds) → AreAbove n (entries ds)
all_above n [] l r = tt
all_above n (d ∷ ds) l r = (l, above_lesser n d.entry.stamp (entries ds) l r.0)

-- the stamps of a node that is played alone rise
played_rise : (o : Opening) (a : ℕ) (letters : ℕ → List Stamped) (v : Node) (ds : List Made) → Plays Does o a letters v ds
    → AreRising (entries ds)
played_rise o a letters v [] P = tt
played_rise o a letters v (d ∷ ds) P =
    let rest : AreRising (entries ds) = played_rise o a (unread_after d.entry.event letters) d.after ds P.1 in
    (all_above d.entry.stamp ds P.0.rises rest, rest)

-- a node of the world is below the bound
below_bound : (a n : ℕ) (b : Bool) → (nat_lt a n && b) ≡ true → n ≤ a → ⊥
below_bound a n b h l = grind (arith, nat_tests)

-- a stranger does nothing
stranger : (o : Opening) (a : ℕ) (letters : ℕ → List Stamped) (v : Node) (ds : List Made) → Plays Does o a letters v ds
    → o.bound ≤ a → entries ds ≡ []
stranger o a letters v [] P l = refl
stranger o a letters v (d ∷ ds) P l = absurd (below_bound a o.bound (o.nodes a) P.0.here l)

pub consistent_ends_have_a_run : ConsistentEndsHaveARun
consistent_ends_have_a_run o logs tables C =
    let M : AreMerged logs o.bound = merge logs rise o.bound empty in
    record {
      steps = M.steps;
      merged = M.merged;
      plays = consistent_ends_play o logs tables M.steps C M.merged;
      count = M.count;
    }
  where
    rise : (a : ℕ) → AreRising (logs a)
    rise a = subst AreRising (C.logged a)
        (played_rise o a (λ f. sent a (C.course f)) (opening_node (in_cluster o) a) (C.course a) (C.alone a))

    empty : (a : ℕ) → o.bound ≤ a → logs a ≡ []
    empty a l = sym (C.logged a)
        ∙ stranger o a (λ f. sent a (C.course f)) (opening_node (in_cluster o) a) (C.course a) (C.alone a) l
