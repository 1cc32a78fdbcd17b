use Rattle.std.proofs.Common.{false, ◌≡◌, ◌++◌, Vec, List, map, refl, sym, subst}
use Rattle.std.specs.Prelude.{All}
use Rattle.std.specs.declared.alloc.Global.{Global}
use Rattle.node_loop.specs.declared.item.Item.{Item}
use Rattle.node_loop.specs.Openings.{repeats}
use Rattle.node_seats.specs.Lines.{Sent}
use Rattle.replay.specs.Ends.{End, end_by}
use Rattle.node_threads.specs.Clusters.{Crewed}
use Rattle.node_threads.specs.Closing.{GivesBack}
use Rattle.node_threads.specs.Drawing.{Drawn, AllCompared}
use Rattle.node_threads.specs.Ended.{AllPast}
use Rattle.node_threads.proofs.Comparing.{rows_lead}
use Rattle.node_threads.proofs.Consistency.{consistent, ends_names}
use Rattle.node_threads.proofs.Gathering.{left_all}
use Rattle.node_threads.proofs.Opening.{once}
use Rattle.node_threads.proofs.cluster.Cluster.into_ends.Goals as goal

pub compare_all-requires : goal.compare_all-requires
compare_all-requires g c = subst
    (λ (d : List Drawn). All (λ (v : Vec (Sent Item) Global). map (λ (l : Sent Item). l.room) v.items ≡ map (λ (x : Drawn). x.inbox.room) d) c.in-Some.field-0.rows.items)
    (sym c.as_mut_slice.ensures.value)
    (rows_lead c.self.inside.cluster.items c.self.inside.lone.items c.self.inside.running.items c.self.invariant.1
    (map (end_by g.N.Names.contents g.L.Record.logged) c.in-Some.field-0.ends.items) (map (λ row. row.items) c.in-Some.field-0.rows.items) c.in-Some.field-0.intakes.items c.in-Some.ensures.back
    c.in-Some.field-0.rows.items refl)

pub returns-clause-back : goal.returns-clause-back
returns-clause-back g c =
    let singles : repeats (c.self.inside.cluster.items ++ c.self.inside.lone.items) ≡ false =
    once c.self.inside.cluster.items c.self.inside.lone.items c.self.invariant.0 in
    let ends : List End = map (end_by g.N.Names.contents g.L.Record.logged) c.in-Some.field-0.ends.items in
    let rows : List (List (Sent Item)) = map (λ row. row.items) c.in-Some.field-0.rows.items in
    let compared : AllCompared rows c.in-Some.field-0.intakes.items =
    subst (AllCompared rows) c.as_mut_slice.ensures.value c.compare_all.ensures.compared in
    subst (λ (k : Crewed). GivesBack k.cluster k.lone k.crew ends) c.self.view_is (record {
      lines = rows;
      drawn = c.in-Some.field-0.intakes.items;
      returned = c.in-Some.ensures.back;
      compared = compared;
      names = ends_names c.self.inside.cluster.items c.self.inside.lone.items c.self.inside.running.items
          ends rows c.in-Some.field-0.intakes.items c.self.invariant.1 c.in-Some.ensures.back compared singles;
      left = left_all c.self.inside.running.items ends rows c.in-Some.field-0.intakes.items c.in-Some.ensures.back;
      consistent = consistent c.self.inside.cluster.items c.self.inside.lone.items c.self.inside.running.items
          ends rows c.in-Some.field-0.intakes.items c.self.invariant.1 c.in-Some.ensures.back compared singles;
    })

pub returns-clause-pasts : goal.returns-clause-pasts
returns-clause-pasts g c = subst
    (λ (k : Crewed). AllPast k.crew (map (end_by g.N.Names.contents g.L.Record.logged) c.in-Some.field-0.ends.items) c.in-Some.field-0.pasts.items)
    c.self.view_is c.in-Some.ensures.pasts
