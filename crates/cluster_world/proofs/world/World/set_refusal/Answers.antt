use Rattle.std.proofs.Common.{ℕ, ◌≡◌, get_or, refl, ap, sym, subst}
use Rattle.registry_model.specs.Process.{Process}
use Rattle.transaction.specs.Calls.{retries_of}
use Rattle.node_core.specs.declared.Call.TheVariants.{SetLock}
use Rattle.world_events.specs.declared.events.LocalEvent.TheVariants.{Call as Calls}
use Rattle.world_events.specs.declared.events.WorldEvent.TheVariants.{At}
use Rattle.world_events.specs.declared.refusal.Refusal.TheVariants.{Step}
use Rattle.world_events.specs.Refusals.{out_of_memory}
use Rattle.cluster_world.specs.WorldState.{WorldState}
use Rattle.cluster_world.specs.Playing.{RefusedWith}
use Rattle.cluster_world.specs.Whole.{IsWhole}
use Rattle.cluster_world.proofs.Plays.{refuses_step, free_by_node}
use Rattle.cluster_world.proofs.world.World.set_refusal.Goals as goal

pub returns-in_err-fault-in-Ok : goal.returns-in_err-fault-in-Ok
returns-in_err-fault-in-Ok g c = λ retries.
    rw c.from_residual.ensures
    (subst (λ (n : ℕ). RefusedWith out_of_memory (At n (Calls (SetLock c.args.holder.now c.args.id.now c.args.nodes.now retries)))
    c.args.self.now) (ap (λ (p : Process). p.node) c.holder.view_is)
    (free_by_node c.args.self.now (subst IsWhole c.self.view_is c.self.invariant) c.in-Ok.ensures.left
    c.holder.inside.node c.in-Ok.place (Calls (SetLock c.args.holder.now c.args.id.now c.args.nodes.now retries))
    c.index.result.now c.in-Ok.ensures.ok.0
    (subst (λ (h : WorldState). c.index.result.now ≡ get_or h.cores c.in-Ok.place c.index.result.now) c.self.view_is c.index.ensures) refl
    c.in-Ok.ensures.ok.1 (sym (c.in_err-fault-in-Ok.ensures.cause c.args.id.now.requester (retries_of retries)))))

pub returns-in_ok-fault-in-Ok : goal.returns-in_ok-fault-in-Ok
returns-in_ok-fault-in-Ok g c = λ retries.
    subst (λ (n : ℕ). RefusedWith (Step c.in_ok-fault-in-Ok.fault)
    (At n (Calls (SetLock c.args.holder.now c.args.id.now c.args.nodes.now retries))) c.args.self.now)
    (ap (λ (p : Process). p.node) c.holder.view_is)
    (refuses_step c.args.self.now (subst IsWhole c.self.view_is c.self.invariant) c.in-Ok.ensures.left
    c.holder.inside.node c.in-Ok.place (Calls (SetLock c.args.holder.now c.args.id.now c.args.nodes.now retries))
    c.index.result.now c.in-Ok.ensures.ok.0
    (subst (λ (h : WorldState). c.index.result.now ≡ get_or h.cores c.in-Ok.place c.index.result.now) c.self.view_is c.index.ensures) refl
    c.in-Ok.ensures.ok.1 c.in_ok-fault-in-Ok.fault
    (sym (c.in_ok-fault-in-Ok.ensures.cause c.args.id.now.requester (retries_of retries))))

pub returns-in-Err : goal.returns-in-Err
returns-in-Err g c = λ retries.
    subst (λ (n : ℕ). RefusedWith c.in-Err.refusal
    (At n (Calls (SetLock c.args.holder.now c.args.id.now c.args.nodes.now retries))) c.args.self.now)
    (ap (λ (p : Process). p.node) c.holder.view_is)
    (c.in-Err.ensures.refused (Calls (SetLock c.args.holder.now c.args.id.now c.args.nodes.now retries)) refl)
