-- Consistent ends are played to their end.
use Rattle.std.proofs.Common.{ℕ, Bool, true, false, ◌==◌, ◌≡◌, ◌≤◌, List, [], ◌∷◌, map, filter, refl, sym, ap, subst, ◌∙◌, arith}
use Rattle.std.specs.Prelude.{if◌then◌else◌}
use Rattle.registry_model.specs.Process.{at}
use Rattle.registry_model.proofs.Updates.{by_test}
use Rattle.protocol_model.specs.Node.{Node}
use Rattle.protocol_model.specs.World.{Opening, World, happens, opening_world, run}
use Rattle.closings.specs.Alone.{Stamped, LogEntry, Made, node_behind}
use Rattle.closings.specs.Merging.{Step, steps_of, IsInOrder, happening, events_in, TakesAll}
use Rattle.closings.specs.Laws.{ConsistentEndsPlay}
use Rattle.closings.proofs.Letters.{StartsFrom}
use Rattle.closings.proofs.Stepping.{Stands}
use Rattle.closings.proofs.Runs.{before_is, own_step, other_step}
use Rattle.closings.proofs.Advance.{entries, Heads, heads, Goes, advance, opens}

-- none of these steps has a stamp below n
abbrev AllStepsFrom : ℕ → List Step → Type 0
AllStepsFrom n [] = Unit {0}
AllStepsFrom n (s ∷ ss) = (n ≤ s.entry.stamp) × AllStepsFrom n ss

-- in a run that begins with s
all_later : (n : ℕ) (s : Step) (ss : List Step) → n ≤ s.entry.stamp → IsInOrder (s ∷ ss) → AllStepsFrom n ss
all_later n s [] l h = tt
all_later n s (t ∷ ss) l h =
    let next : n ≤ t.entry.stamp =
    reach n s.entry.stamp t.entry.stamp l (before_is s.entry.stamp t.entry.stamp s.node t.node h.0) in
    (next, all_later n t ss next h.1)
  where
    reach : (x y z : ℕ) → x ≤ y → y ≤ z → x ≤ z
    reach x y z h k = omega (arith, h, k)

-- the first of these entries, if there is one, has no stamp below n
abbrev EntriesFrom : ℕ → List LogEntry → Type 0
EntriesFrom n [] = Unit {0}
EntriesFrom n (e ∷ es) = n ≤ e.stamp

-- so it is of each node's entries in a run
starts : (n c : ℕ) (ss : List Step) → AllStepsFrom n ss → EntriesFrom n (steps_of c ss)
starts n c [] h = tt
starts n c (s ∷ ss) h = go (s.node == c) (starts n c ss h.1)
  where
    go : (b : Bool) → EntriesFrom n (steps_of c ss)
        → EntriesFrom n (map (λ (t : Step). t.entry) (if b then s ∷ filter (λ (t : Step). t.node == c) ss else filter (λ (t : Step). t.node == c) ss))
    go true k = h.0
    go false k = k

begins : (n : ℕ) (ds : List Made) → EntriesFrom n (entries ds) → StartsFrom n ds
begins n [] h = tt
begins n (d ∷ ds) h = h

-- what is behind the first step is in order, too
tail_order : (s : Step) (ss : List Step) → IsInOrder (s ∷ ss) → IsInOrder ss
tail_order s [] h = tt
tail_order s (t ∷ ss) h = h.1

-- a world takes this run, and behind it each node stands as its log says
record Played (o : Opening) (w : World) (left : ℕ → List Made) (ss : List Step) : Type 0 where
  takes_all : TakesAll o w ss
  nodes : (a : ℕ) → (run o w (events_in ss)).node a ≡ node_behind (w.node a) (left a)

module _ (s : Step) (ss : List Step) (left : ℕ → List Made) (order : IsInOrder (s ∷ ss)) (whole : (a : ℕ) → steps_of a (s ∷ ss) ≡ entries (left a)) where
  -- the first step is the next of its node's log, has the least stamp of all, and the others are merged behind it
  pub head : Heads left s (steps_of s.node ss)
  head = heads left s (steps_of s.node ss) (sym (whole s.node) ∙ own_step s ss)

  pub least : (c : ℕ) → StartsFrom s.entry.stamp (left c)
  least c = begins s.entry.stamp (left c) (subst (EntriesFrom s.entry.stamp) (whole c)
      (starts s.entry.stamp c (s ∷ ss) (here s.entry.stamp, all_later s.entry.stamp s ss (here s.entry.stamp) order)))
    where
      here : (n : ℕ) → n ≤ n
      here n = omega arith

  pub whole_on : (ds : List Made) → entries ds ≡ steps_of s.node ss → (a : ℕ) → steps_of a ss ≡ entries (at left s.node ds a)
  whole_on ds is = by_test s.node (λ x b. steps_of x ss ≡ entries (if b then ds else left x)) (sym is)
      (λ x ne. sym (other_step x s ss (λ e. ne (sym e))) ∙ whole x)

-- so a run is taken step by step
plays : (o : Opening) (ss : List Step) (w : World) (q : ℕ → ℕ → List Stamped) (left : ℕ → List Made) → Stands o w q left
    → IsInOrder ss → ((a : ℕ) → steps_of a ss ≡ entries (left a)) → Played o w left ss
plays o [] w q left S order whole =
    record { takes_all = tt; nodes = λ a. nothing (w.node a) (left a) (whole a) }
  where
    nothing : (v : Node) (ds : List Made) → [] ≡ entries ds → v ≡ node_behind v ds
    nothing v [] e = refl
    nothing v (d ∷ ds) e = cc
plays o (s ∷ ss) w q left S order whole =
    let H : Heads left s (steps_of s.node ss) = head s ss left order whole in
    let G : Goes o w left s H.behind = advance o w q left S s (steps_of s.node ss) H (least s ss left order whole) in
    let rest : Played o (happens o w (happening s)) (at left s.node H.behind) ss =
    plays o ss (happens o w (happening s)) G.waiting (at left s.node H.behind) G.stands (tail_order s ss order)
    (whole_on s ss left order whole H.behind H.others) in
    record { takes_all = (G.takes, rest.takes_all); nodes = λ a. rest.nodes a ∙ G.ends a }

pub consistent_ends_play : ConsistentEndsPlay
consistent_ends_play o logs tables ss C M =
    let P : Played o (opening_world o) C.course ss =
    plays o ss (opening_world o) (λ f t. []) C.course (opens o C.course C.alone) M.order (λ a. M.whole a ∙ sym (C.logged a)) in
    record { takes = P.takes_all; last = λ a. ap (λ (v : Node). v.replica.table) (P.nodes a) ∙ C.last a }
