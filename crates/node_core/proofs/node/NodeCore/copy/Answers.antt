use Rattle.std.proofs.Common.{refl}
use Rattle.node_core.proofs.Copying.{alike_whole, alike_before_at, alike_bounds_at}
use Rattle.node_core.proofs.node.NodeCore.copy.Goals as goal

pub invariant_of-result : goal.invariant_of-result
invariant_of-result g c = alike_whole _ _ (record {
  name = c.copy.ensures;
  world = c.copy-2.ensures;
  members = c.copy-3.ensures;
  told = c.copy-4.ensures;
  joined = refl;
  table = c.in_ok-table.ensures.table;
  notices = c.in_ok-table.ensures.notices;
  locks = c.in_ok-table.ensures.locks;
  watch = c.in_ok-watch.ensures.watch;
  work = c.in_ok-registrar.ensures.registrar;
  phase = c.in_ok-registrar.ensures.phase;
  calls = c.in_ok-watch.ensures.calls;
  last_call = refl;
}) c.self.invariant

pub returns-clause-copy : goal.returns-clause-copy
returns-clause-copy g c =
    alike_before_at _ c.args.self.now _ c.self.view_is (record {
      name = c.copy.ensures;
      world = c.copy-2.ensures;
      members = c.copy-3.ensures;
      told = c.copy-4.ensures;
      joined = refl;
      table = c.in_ok-table.ensures.table;
      notices = c.in_ok-table.ensures.notices;
      locks = c.in_ok-table.ensures.locks;
      watch = c.in_ok-watch.ensures.watch;
      work = c.in_ok-registrar.ensures.registrar;
      phase = c.in_ok-registrar.ensures.phase;
      calls = c.in_ok-watch.ensures.calls;
      last_call = refl;
    })

pub returns-clause-bounds : goal.returns-clause-bounds
returns-clause-bounds g c =
    alike_bounds_at _ c.args.self.now _ c.self.view_is (record {
      name = c.copy.ensures;
      world = c.copy-2.ensures;
      members = c.copy-3.ensures;
      told = c.copy-4.ensures;
      joined = refl;
      table = c.in_ok-table.ensures.table;
      notices = c.in_ok-table.ensures.notices;
      locks = c.in_ok-table.ensures.locks;
      watch = c.in_ok-watch.ensures.watch;
      work = c.in_ok-registrar.ensures.registrar;
      phase = c.in_ok-registrar.ensures.phase;
      calls = c.in_ok-watch.ensures.calls;
      last_call = refl;
    })
