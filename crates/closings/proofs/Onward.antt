-- Behind any beginning of consistent ends the next step is taken.
use Rattle.std.proofs.Common.{ℕ, zero, suc, ◌≡◌, ◌<◌, Some, List, [], ◌∷◌, ◌++◌, length, drop, sym, ap, subst, ◌∙◌}
use Rattle.std.proofs.lemmas.List.{append-nil, append_assoc, map-append}
use Rattle.std.proofs.lemmas.List.Sums.{fold-append}
use Rattle.std.specs.List.{slice_get}
use Rattle.std.specs.Prelude.{if◌then◌else◌}
use Rattle.registry_model.specs.Process.{at}
use Rattle.registry_model.proofs.Updates.{by_test}
use Rattle.protocol_model.specs.Node.{Node}
use Rattle.protocol_model.specs.World.{Opening, World, happens, opening_world, run}
use Rattle.closings.specs.Alone.{Stamped, LogEntry, Made, sent, Does, Plays}
use Rattle.closings.specs.Merging.{Step, steps_of, IsNext, AreNext, Rises, happening, events_in, world_behind, Takes}
use Rattle.closings.specs.Laws.{ConsistentEndsGoOn}
use Rattle.closings.proofs.Letters.{StartsFrom}
use Rattle.closings.proofs.Stepping.{Stands}
use Rattle.closings.proofs.Runs.{not_before, count_own, count_other, left_is, head_is}
use Rattle.closings.proofs.Advance.{entries, Heads, heads, Goes, advance, opens}

-- behind a beginning of the run a world stands beside its nodes played alone, and what is left of each log is what it has from there on
pub record Behind (o : Opening) (logs : ℕ → List LogEntry) (before : List Step) : Type 0 where
  pub waiting : ℕ → ℕ → List Stamped
  pub left : ℕ → List Made
  pub stands : Stands o (world_behind o before) waiting left
  pub rest : (a : ℕ) → entries (left a) ≡ drop (length (steps_of a before)) (logs a)

-- the world behind one step more
world_on : (o : Opening) (before : List Step) (s : Step)
    → world_behind o (before ++ s ∷ []) ≡ happens o (world_behind o before) (happening s)
world_on o before s = ap (run o (opening_world o)) (map-append happening before (s ∷ []))
    ∙ fold-append (happens o) (opening_world o) (events_in before) (happening s ∷ [])

module _ (o : Opening) (logs : ℕ → List LogEntry) (before : List Step) (B : Behind o logs before) (s : Step) (N : IsNext logs before s) where
  abbrev at_k : ℕ
  at_k = length (steps_of s.node before)

  -- what comes next is the front of what is left, and has the least stamp
  head : Heads B.left s (drop (suc at_k) (logs s.node))
  head = heads B.left s (drop (suc at_k) (logs s.node)) (B.rest s.node ∙ left_is (logs s.node) at_k s.entry N.head)

  least : (c : ℕ) → StartsFrom s.entry.stamp (B.left c)
  least c = go (B.left c) (B.rest c)
    where
      go : (ds : List Made) → entries ds ≡ drop (length (steps_of c before)) (logs c) → StartsFrom s.entry.stamp ds
      go [] e = tt
      go (d ∷ ds) e =
          not_before d.entry.stamp s.entry.stamp c s.node
          (N.least (record { node = c; entry = d.entry })
          (head_is (logs c) (length (steps_of c before)) d.entry (entries ds) (sym e)))

  goes : Goes o (world_behind o before) B.left s head.behind
  goes = advance o (world_behind o before) B.waiting B.left B.stands s (drop (suc at_k) (logs s.node)) head least

  -- so the world takes it
  pub taken : Takes o (world_behind o before) s
  taken = goes.takes

  -- and stands so behind it
  pub behind_more : Behind o logs (before ++ s ∷ [])
  behind_more = record {
    waiting = goes.waiting;
    left = at B.left s.node head.behind;
    stands = subst (λ (w : World). Stands o w goes.waiting (at B.left s.node head.behind)) (sym (world_on o before s)) goes.stands;
    rest = by_test s.node
        (λ x b. entries (if b then head.behind else B.left x) ≡ drop (length (steps_of x (before ++ s ∷ []))) (logs x))
        (head.others ∙ ap (λ (k : ℕ). drop k (logs s.node)) (sym (count_own before s)))
        (λ x ne. B.rest x ∙ ap (λ (k : ℕ). drop k (logs x)) (sym (count_other x before s (λ e. ne (sym e)))));
  }

-- and behind any more of the run
behind : (o : Opening) (logs : ℕ → List LogEntry) (before ss : List Step) → Behind o logs before → AreNext logs before ss
    → Behind o logs (before ++ ss)
behind o logs before [] B h = subst (Behind o logs) (sym (append-nil before)) B
behind o logs before (s ∷ ss) B h =
    subst (Behind o logs) (append_assoc before (s ∷ []) ss)
    (behind o logs (before ++ s ∷ []) ss (behind_more o logs before B s h.0) h.1)

-- in a log that is played alone each stamp is above the one before
rises_at : (o : Opening) (a : ℕ) (ds : List Made) (letters : ℕ → List Stamped) (v : Node) (k : ℕ) → Plays Does o a letters v ds
    → Rises (entries ds) k
rises_at o a ds letters v zero P = tt
rises_at o a [] letters v (suc k) P = λ d e h. none d k h
  where
    none : (d : LogEntry) (k : ℕ) → slice_get [] k ≡ Some d → {e : LogEntry} → slice_get [] (suc k) ≡ Some e → d.stamp < e.stamp
    none d k h = cc
rises_at o a (x ∷ []) letters v (suc k) P = λ d e h i. none d e k i
  where
    none : (d e : LogEntry) (k : ℕ) → slice_get [] k ≡ Some e → d.stamp < e.stamp
    none d e k i = cc
rises_at o a (x ∷ y ∷ ds) letters v (suc zero) P = λ d e h i. is d e x.entry y.entry h i P.0.rises
  where
    is : (d e f g : LogEntry) → Some f ≡ Some d → Some g ≡ Some e → f.stamp < g.stamp → d.stamp < e.stamp
    is d e f g h i l = subst (λ (z : LogEntry). d.stamp < z.stamp) (one g e i) (subst (λ (z : LogEntry). z.stamp < g.stamp) (one f d h) l)
      where
        one : (x y : LogEntry) → Some x ≡ Some y → x ≡ y
        one x y e = cc
rises_at o a (x ∷ y ∷ ds) letters v (suc (suc k)) P =
    rises_at o a (y ∷ ds) _ x.after (suc k) P.1

pub consistent_ends_go_on : ConsistentEndsGoOn
consistent_ends_go_on o logs tables before s C A N =
    let B : Behind o logs before =
    behind o logs [] before
    (record { waiting = λ f t. []; left = C.course; stands = opens o C.course C.alone; rest = λ a. C.logged a }) A in (
      subst (λ (es : List LogEntry). Rises es (length (steps_of s.node before))) (C.logged s.node)
          (rises_at o s.node (C.course s.node) (λ f. sent s.node (C.course f)) _ (length (steps_of s.node before)) (C.alone s.node)),
      taken o logs before B s N,
    )
