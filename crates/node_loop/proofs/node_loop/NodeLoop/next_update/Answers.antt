use Rattle.std.proofs.Common.{◌≡◌, true, Some, sym, subst, ◌∙◌}
use Rattle.registry_model.specs.Table.{Table, is_rising}
use Rattle.node_loop.specs.declared.edit.Edit.{Edit}
use Rattle.node_loop.specs.declared.edit.Note.TheVariants.{Nothing}
use Rattle.node_loop.specs.Held.{Looping, written}
use Rattle.node_loop.specs.Owing.{TakesUpdate}
use Rattle.node_loop.proofs.Updates.{takes_one, takes_whole}
use Rattle.node_loop.proofs.node_loop.NodeLoop.next_update.Goals.{in-One, in-Whole+in-Ok}
use Rattle.node_loop.proofs.node_loop.NodeLoop.next_update.Goals as goal

pub returns-clause-ok : goal.returns-clause-ok
returns-clause-ok g c =
    let a : Looping = record {
      core = c.self.inside.core;
      world = c.self.inside.world;
      log = written (g.L.Record.logged c.self.inside.log);
      tray = c.self.inside.tray;
      desk = c.self.inside.desk;
      wait = c.self.inside.courtesy;
      stamp = c.self.inside.stamp;
      owed = c.self.inside.owed;
      left = c.self.inside.left;
      worked = c.self.inside.worked;
    } in
    let b : Looping = record a { owed = record { note = c.replace.new.dest; length = c.self.inside.owed.length } } in
    let taken : b ≡ record a { owed = record a.owed { note = Nothing } } =
    λ j. record a { owed = record { note = c.replace.ensures.after j; length = c.self.inside.owed.length } } in
    subst (λ (x : Looping). TakesUpdate (Some (record { length = c.self.inside.owed.length; edit = c.match-replace.edit })) x b) c.self.view_is
    (elim c.match-replace.branch [
      | in-One w ↦ subst (λ (e : Edit). TakesUpdate (Some (record { length = c.self.inside.owed.length; edit = e })) a b) (sym w.edit-is)
          (takes_one a b taken w.in-One.edit (sym c.replace.ensures.value ∙ w.in-One.is))
      | in-Whole+in-Ok w ↦ subst (λ (e : Edit). TakesUpdate (Some (record { length = c.self.inside.owed.length; edit = e })) a b) (sym w.edit-is)
          (takes_whole a b taken w.in-Ok.pairs (sym c.replace.ensures.value ∙ w.in-Whole.is)
          (subst (λ (t : Table). is_rising t ≡ true) w.table.ensures w.pairs.ensures.rising)
          (w.in-Ok.ensures.all ∙ w.table.ensures))
    ])
