use Rattle.std.proofs.Common.{◌∷◌, ◌++◌, [], List, map, ap, sym, subst, ◌∙◌}
use Rattle.std.proofs.lemmas.List.{map-append, append_assoc}
use Rattle.replay.specs.Ends.{End, end_by}
use Rattle.node_threads.specs.Ending.{IsWhy, TellsOf}
use Rattle.node_threads.proofs.Telling.{told_more, why}
use Rattle.node_threads.proofs.ending.tell_of.Goals as goal

pub returns-in-Err-clause-err : goal.returns-in-Err-clause-err
returns-in-Err-clause-err g c = subst (IsWhy c.in-Err.fault)
    (sym (ap (map (end_by g.N.Names.contents g.L.Record.logged))
    (c.loop-end.invariant.parts ∙ ap (λ rest. c.loop-end.yielded ++ rest) c.in-Some.ensures.steps.0)
    ∙ map-append (end_by g.N.Names.contents g.L.Record.logged) c.loop-end.yielded (c.in-Some.end ∷ c.next.new.self.rest.items)))
    (why c.in-Err.fault (map (end_by g.N.Names.contents g.L.Record.logged) c.loop-end.yielded)
    (map (end_by g.N.Names.contents g.L.Record.logged) c.next.new.self.rest.items)
    (end_by g.N.Names.contents g.L.Record.logged c.in-Some.end) c.loop-end.invariant.told.well c.in-Err.ensures.err)

pub loop-end-preserved : goal.loop-end-preserved
loop-end-preserved g c = record {
  parts = c.loop-end.invariant.parts ∙ ap (λ rest. c.loop-end.yielded ++ rest) c.in-Some.ensures.steps.0
      ∙ sym (append_assoc c.loop-end.yielded (c.in-Some.end ∷ []) c.next.new.self.rest.items);
  told = subst (λ (ends : List End). TellsOf g.N.Names.contents ends c.in-Ok.more)
      (sym (map-append (end_by g.N.Names.contents g.L.Record.logged) c.loop-end.yielded (c.in-Some.end ∷ [])))
      (told_more g.N.Names.contents (map (end_by g.N.Names.contents g.L.Record.logged) c.loop-end.yielded)
      (end_by g.N.Names.contents g.L.Record.logged c.in-Some.end) c.loop-end.ended c.in-Ok.more c.loop-end.invariant.told c.in-Ok.ensures.ok);
}
