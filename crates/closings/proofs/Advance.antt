-- The next step of a log is taken by the world.
use Rattle.std.proofs.Common.{ℕ, ◌≡◌, List, [], ◌∷◌, ◌++◌, map, refl, sym, ap, subst, ◌∙◌, true≢false}
use Rattle.std.specs.Prelude.{if◌then◌else◌}
use Rattle.registry_model.specs.Process.{at}
use Rattle.registry_model.proofs.Updates.{by_test}
use Rattle.protocol_model.specs.Node.{Node}
use Rattle.protocol_model.specs.World.{Opening, World, place, happens, opening_world}
use Rattle.closings.specs.Alone.{Stamped, LogEntry, Made, sent, Does, Plays, node_behind, AreConsistent}
use Rattle.closings.specs.Merging.{Step, happening, Takes}
use Rattle.closings.proofs.Letters.{StartsFrom, waiting_after}
use Rattle.closings.proofs.Stepping.{Stands, takes, stands_on, nodes_on}

-- the entries of these steps
abbrev pub entries : List Made → List LogEntry
entries ds = map (λ d. d.entry) ds

-- what is left of its node's log is the step, and then these entries
pub record Heads (left : ℕ → List Made) (s : Step) (es : List LogEntry) : Type 0 where
  pub made : Made
  pub behind : List Made
  pub is : left s.node ≡ made ∷ behind
  pub entry : made.entry ≡ s.entry
  pub others : entries behind ≡ es

-- so it is where the entries that are left say so
pub heads : (left : ℕ → List Made) (s : Step) (es : List LogEntry) → entries (left s.node) ≡ s.entry ∷ es → Heads left s es
heads left s es = go (left s.node) refl
  where
    go : (ds : List Made) → left s.node ≡ ds → entries ds ≡ s.entry ∷ es → Heads left s es
    go [] e h = cc
    go (d ∷ ds) e h = record { made = d; behind = ds; is = e; entry = first h; others = rest h }
      where
        first : {x : LogEntry} {xs : List LogEntry} → x ∷ xs ≡ s.entry ∷ es → x ≡ s.entry
        first e = cc

        rest : {x : LogEntry} {xs : List LogEntry} → x ∷ xs ≡ s.entry ∷ es → xs ≡ es
        rest e = cc

-- the world takes the step, and stands behind it so again; each node comes to stand at last as it would have
pub record Goes (o : Opening) (w : World) (left : ℕ → List Made) (s : Step) (behind : List Made) : Type 0 where
  pub takes : Takes o w s
  pub waiting : ℕ → ℕ → List Stamped
  pub stands : Stands o (happens o w (happening s)) waiting (at left s.node behind)
  pub ends : (a : ℕ) → node_behind ((happens o w (happening s)).node a) (at left s.node behind a) ≡ node_behind (w.node a) (left a)

module _ (o : Opening) (w : World) (q : ℕ → ℕ → List Stamped) (left : ℕ → List Made) (S : Stands o w q left) (d : Made) (ds : List Made) (a : ℕ) (is : left a ≡ d ∷ ds) (least : (c : ℕ) → StartsFrom d.entry.stamp (left c)) where
  -- the step is one of its own node
  own : place d.entry.event ≡ a
  own = (subst (Plays Does o a (λ f. q f a ++ sent a (left f)) (w.node a)) is (S.alone a)).0.own

  here : left (place d.entry.event) ≡ d ∷ ds
  here = ap left own ∙ is

  ends_at : (c : ℕ) → node_behind (at w.node (place d.entry.event) d.after c) (at left (place d.entry.event) ds c) ≡ node_behind (w.node c) (left c)
  ends_at = by_test (place d.entry.event)
      (λ x b. node_behind (if b then d.after else w.node x) (if b then ds else left x) ≡ node_behind (w.node x) (left x))
      (ap (node_behind (w.node (place d.entry.event))) (sym here)) (λ x ne. refl)

  -- it is taken
  goes_at : Goes o w left (record { node = place d.entry.event; entry = d.entry }) ds
  goes_at = record {
    takes = takes o w q left S d ds here least;
    waiting = waiting_after d q;
    stands = stands_on o w q left S d ds here least;
    ends = λ c. subst (λ (f : ℕ → Node). node_behind (f c) (at left (place d.entry.event) ds c) ≡ node_behind (w.node c) (left c))
        (sym (nodes_on o w q left S d ds here least)) (ends_at c);
  }

  goes : Goes o w left (record { node = a; entry = d.entry }) ds
  goes = subst (λ (x : ℕ). Goes o w left (record { node = x; entry = d.entry }) ds) own goes_at

-- what comes next in its log and has the least stamp of all that is left is taken
pub advance : (o : Opening) (w : World) (q : ℕ → ℕ → List Stamped) (left : ℕ → List Made) → Stands o w q left → (s : Step)
    (es : List LogEntry) (H : Heads left s es) → ((c : ℕ) → StartsFrom s.entry.stamp (left c)) → Goes o w left s H.behind
advance o w q left S s es H least =
    subst (λ (e : LogEntry). Goes o w left (record { node = s.node; entry = e }) H.behind) H.entry
    (goes o w q left S H.made H.behind s.node H.is (subst (λ (e : LogEntry). (c : ℕ) → StartsFrom e.stamp (left c)) (sym H.entry) least))

-- at the opening no letter waits, and all steps are left
pub opens : (o : Opening) (course : ℕ → List Made) → AreConsistent o course → Stands o (opening_world o) (λ f t. []) course
opens o course C = record { alone = C; waits = λ f t _. refl; gone = λ a h. absurd (true≢false (sym h)) }
