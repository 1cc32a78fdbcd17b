use Rattle.std.proofs.Common.{refl, subst}
use Rattle.node_loop.specs.Held.{Looping, written}
use Rattle.node_loop.specs.Returning.{LeavesSoundFrom}
use Rattle.node_loop.specs.Sound.{LeavesSound}
use Rattle.node_loop.proofs.Beginning.{leaves_sound}
use Rattle.node_loop.proofs.BeginningFrom.{leaves_sound_from}
use Rattle.node_loop.proofs.node_loop.NodeLoop.into_end.Goals as goal

pub returns-clause-sound : goal.returns-clause-sound
returns-clause-sound g c =
    let a : Looping = record {
      core = c.self.inside.core;
      world = c.self.inside.world;
      log = written (g.L.Record.logged c.self.inside.log);
      tray = c.self.inside.tray;
      desk = c.self.inside.desk;
      wait = c.self.inside.courtesy;
      stamp = c.self.inside.stamp;
      owed = c.self.inside.owed;
      left = c.self.inside.left;
      worked = c.self.inside.worked;
    } in
    subst (λ (x : Looping). LeavesSound x (written (g.L.Record.logged c.self.inside.log)) (g.N.Names.contents c.into_table.result)) c.self.view_is
    (leaves_sound a (written (g.L.Record.logged c.self.inside.log)) (g.N.Names.contents c.into_table.result) refl c.into_table.ensures)

pub returns-clause-sound_from : goal.returns-clause-sound_from
returns-clause-sound_from g c =
    let a : Looping = record {
      core = c.self.inside.core;
      world = c.self.inside.world;
      log = written (g.L.Record.logged c.self.inside.log);
      tray = c.self.inside.tray;
      desk = c.self.inside.desk;
      wait = c.self.inside.courtesy;
      stamp = c.self.inside.stamp;
      owed = c.self.inside.owed;
      left = c.self.inside.left;
      worked = c.self.inside.worked;
    } in
    subst (λ (x : Looping). LeavesSoundFrom x (written (g.L.Record.logged c.self.inside.log)) (g.N.Names.contents c.into_table.result)) c.self.view_is
    (leaves_sound_from a (written (g.L.Record.logged c.self.inside.log)) (g.N.Names.contents c.into_table.result) refl c.into_table.ensures)
