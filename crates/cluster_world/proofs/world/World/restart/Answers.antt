use Rattle.std.proofs.Common.{ℕ, ◌≡◌, ◌∙◌, List, map, ap}
use Rattle.std.proofs.lemmas.Result.{err_from_is_err_and}
use Rattle.term.specs.NodeSets.{succeeded}
use Rattle.cluster_world.specs.Restarting.{replaced_in}
use Rattle.cluster_world.specs.Seen.{named}
use Rattle.cluster_world.proofs.Returning.{slice_is, slice_put, long_then, older_known, older_left, were_told, next_known, next_stays, restarted_whole, restarted_played, restarted_entered}
use Rattle.cluster_world.proofs.Steps.{rested, rested_whole}
use Rattle.cluster_world.proofs.world.World.restart.Given.{Over}
use Rattle.cluster_world.proofs.world.World.restart.Goals as goal

pub invariant_of-self : goal.invariant_of-self
invariant_of-self g c =
    rested_whole _ c.self.invariant c.enter_restart.new.links c.enter_restart.new.history.entries c.enter_restart.ensures.nodes
    c.enter_restart.ensures.links c.in_err-enter_restart.ensures.unchanged

pub returns-in_err-enter_restart-clause-as_before : goal.returns-in_err-enter_restart-clause-as_before
returns-in_err-enter_restart-clause-as_before g c =
    let p = err_from_is_err_and c.from_residual.result c.from_residual.ensures.1 in
    rw p.1 (rested _ c.self.invariant c.enter_restart.new.links c.enter_restart.new.history.entries c.enter_restart.ensures.nodes
    c.enter_restart.ensures.links c.in_err-enter_restart.ensures.unchanged ∙ ap named c.self.view_is)

pub reopen-requires-clause-present : goal.reopen-requires-clause-present
reopen-requires-clause-present g c =
    older_known c.args.self.now _ c.self.view_is c.self.invariant c.enter_restart.ensures.left c.args.comeback
    c.requires
    c.enter_restart.new.links c.enter_restart.ensures.nodes

pub reopen-requires-clause-left : goal.reopen-requires-clause-left
reopen-requires-clause-left g c =
    older_left c.args.self.now _ c.self.view_is c.self.invariant c.enter_restart.ensures.left c.args.comeback
    c.requires
    c.enter_restart.new.links c.enter_restart.ensures.departed

pub replace_in-requires-clause-told : goal.replace_in-requires-clause-told
replace_in-requires-clause-told g c =
    were_told c.args.self.now _ c.self.view_is c.self.invariant c.enter_restart.ensures.left c.args.comeback
    c.requires
    c.departed.result.now c.as_mut_slice.result.now (c.departed.ensures.departed ∙
    (c.reopen.ensures.departed ∙ c.enter_restart.ensures.departed)) c.as_mut_slice.ensures.value

pub come_back-core-requires-clause-known : goal.come_back-core-requires-clause-known
come_back-core-requires-clause-known g c =
    next_known c.args.self.now _ c.self.view_is c.self.invariant c.enter_restart.ensures.left c.args.comeback
    c.requires
    c.nodes.result.now (c.nodes.ensures.nodes ∙
    (c.reopen.ensures.nodes ∙ ap (succeeded c.args.comeback.older c.args.comeback.next) c.enter_restart.ensures.nodes))

pub come_back-core-requires-clause-stays : goal.come_back-core-requires-clause-stays
come_back-core-requires-clause-stays g c =
    next_stays c.args.self.now _ c.self.view_is c.self.invariant c.enter_restart.ensures.left c.args.comeback
    c.requires
    c.departed-2.result.now
    (c.departed-2.ensures.departed ∙ (c.reopen.ensures.departed ∙ c.enter_restart.ensures.departed))

pub put_core-requires : goal.put_core-requires
put_core-requires g c =
    long_then c.args.self.now _ c.self.view_is c.self.invariant c.enter_restart.ensures.left c.args.comeback
    c.requires
    c.departed.result.now c.as_mut_slice-2.result.now
    (slice_is c.departed.result.now c.args.comeback.older c.args.comeback.next c.self.inside.cores.len c.self.inside.cores.items
    c.replace_in.new.cores
    c.as_mut_slice.result.now _ c.as_mut_slice-2.result.now c.as_mut_slice.ensures.value c.replace_in.ensures
    c.self.inside.cores.ok.0
    c.as_mut_slice-2.ensures.value)

-- what holds once the name is back
module _ (g : Over) (c : goal.After-self-2-1 g) where
  abbrev nodes : List ℕ
  nodes = c.self.inside.links.nodes

  abbrev departed : List ℕ
  departed = c.self.inside.links.departed

  abbrev older : ℕ
  older = c.args.comeback.older

  abbrev next : ℕ
  next = c.args.comeback.next

  left : c.reopen.new.self.departed ≡ departed
  left = c.reopen.ensures.departed ∙ c.enter_restart.ensures.departed

  later : c.reopen.new.self.nodes ≡ succeeded older next nodes
  later = c.reopen.ensures.nodes ∙ ap (succeeded older next) c.enter_restart.ensures.nodes

  took : c.as_mut_slice-2.result.now ≡ map (replaced_in c.departed.result.now older next) c.self.inside.cores.items
  took = slice_is c.departed.result.now older next c.self.inside.cores.len c.self.inside.cores.items c.replace_in.new.cores
      c.as_mut_slice.result.now _ c.as_mut_slice-2.result.now c.as_mut_slice.ensures.value c.replace_in.ensures
      c.self.inside.cores.ok.0 c.as_mut_slice-2.ensures.value

pub invariant_of-self-2 : goal.invariant_of-self-2
invariant_of-self-2 g c =
    restarted_whole c.args.self.now _ c.self.view_is c.self.invariant c.enter_restart.ensures.left c.args.comeback
    c.requires c.departed.result.now c.departed-2.result.now c.nodes.result.now
    c.as_mut_slice-2.result.now _ _ c.reopen.new.self c.enter_restart.new.history.entries c.come_back-core.result
    (c.departed.ensures.departed ∙ left g c) (c.departed-2.ensures.departed ∙ left g c) (c.nodes.ensures.nodes ∙ later g c)
    (took g c)
    c.come_back-core.ensures (slice_put c.departed.result.now (older g c) (next g c) c.self.inside.cores.len c.args.comeback.place
    c.self.inside.cores.items
    c.as_mut_slice-2.result.now c.put_core.new.cores _ c.come_back-core.result (took g c) c.self.inside.cores.ok.0
    c.put_core.ensures.cores) c.put_core.ensures.past (later g c) (left g c)
    (c.reopen.ensures.links ∙ c.enter_restart.ensures.links) c.in_ok-enter_restart.ensures.entered

pub returns-clause-ok : goal.returns-clause-ok
returns-clause-ok g c =
    restarted_played c.args.self.now _ c.self.view_is c.self.invariant c.enter_restart.ensures.left c.args.comeback
    c.requires c.departed.result.now c.departed-2.result.now c.nodes.result.now
    c.as_mut_slice-2.result.now _ _ c.reopen.new.self c.enter_restart.new.history.entries c.come_back-core.result
    (c.departed.ensures.departed ∙ left g c) (c.departed-2.ensures.departed ∙ left g c) (c.nodes.ensures.nodes ∙ later g c)
    (took g c)
    c.come_back-core.ensures (slice_put c.departed.result.now (older g c) (next g c) c.self.inside.cores.len c.args.comeback.place
    c.self.inside.cores.items
    c.as_mut_slice-2.result.now c.put_core.new.cores _ c.come_back-core.result (took g c) c.self.inside.cores.ok.0
    c.put_core.ensures.cores) c.put_core.ensures.past (later g c) (left g c)
    (c.reopen.ensures.links ∙ c.enter_restart.ensures.links) c.in_ok-enter_restart.ensures.entered

pub returns-clause-entered : goal.returns-clause-entered
returns-clause-entered g c =
    restarted_entered c.args.self.now _ c.self.view_is c.self.invariant c.enter_restart.ensures.left c.args.comeback
    c.requires _ c.in_ok-enter_restart.ensures.entered

pub returns-clause-kept : goal.returns-clause-kept
returns-clause-kept g c =
    let played = returns-clause-ok g c in
    record { names = played.names; cluster = played.cluster }
