use Rattle.std.proofs.Common.{ℕ, ◌≡◌, ◌<◌, ◌+◌, ◌∙◌, Some, get_or, ap, sym, subst}
use Rattle.term.specs.Nodes.{name_of, creation_of, last_creation}
use Rattle.cluster_world.specs.WorldState.{WorldState}
use Rattle.cluster_world.specs.Mail.{links_of}
use Rattle.cluster_world.specs.Restarting.{IsFirstUntold}
use Rattle.cluster_world.specs.Whole.{IsWhole}
use Rattle.cluster_world.proofs.Admissions.{may_start}
use Rattle.cluster_world.proofs.Untold.{is_node, refuses_running, refuses_untold, refuses_spent, admits}
use Rattle.cluster_world.proofs.world.World.admit_restart.Goals as goal

pub returns-then-not-has_left-clause-refused : goal.returns-then-not-has_left-clause-refused
returns-then-not-has_left-clause-refused g c = refuses_running c.args.self.now (subst IsWhole c.self.view_is c.self.invariant)
    c.in-Some.ensures.left
    c.in-Some.ensures.place.0 c.args.name.now c.in-Some.place c.node-node.result.now c.in-Some.ensures.place.1
    c.in-Some.ensures.place.2
    c.index.result.now (subst (λ (h : WorldState). c.index.result.now ≡ get_or h.cores c.in-Some.place c.index.result.now) c.self.view_is
    c.index.ensures) c.node-node.ensures.name c.has_left.result
    (subst (λ (h : WorldState). c.has_left.result ≡ (links_of h.links).closed c.node-node.result.now) c.self.view_is c.has_left.ensures)
    c.if-not-has_left.true

pub returns-in-Some-first_untold-clause-refused : goal.returns-in-Some-first_untold-clause-refused
returns-in-Some-first_untold-clause-refused g c = refuses_untold c.args.self.now (subst IsWhole c.self.view_is c.self.invariant)
    c.in-Some.ensures.left
    c.in-Some.ensures.place.0 c.args.name.now c.in-Some.place c.node-node.result.now c.in-Some.ensures.place.1
    c.in-Some.ensures.place.2
    c.index.result.now (subst (λ (h : WorldState). c.index.result.now ≡ get_or h.cores c.in-Some.place c.index.result.now) c.self.view_is
    c.index.ensures) c.node-node.ensures.name c.has_left.result
    c.copy.result
    (subst (λ (h : WorldState). c.has_left.result ≡ (links_of h.links).closed c.node-node.result.now) c.self.view_is c.has_left.ensures)
    c.if-not-has_left.false
    (subst (λ (m : ℕ). IsFirstUntold c.node-node.result.now c.args.self.now (Some m)) (sym c.copy.ensures)
    c.in-Some-first_untold.ensures)

pub returns-in-Some-next-clause-ok : goal.returns-in-Some-next-clause-ok
returns-in-Some-next-clause-ok g c =
    let core_is = subst (λ (h : WorldState). c.index.result.now ≡ get_or h.cores c.in-Some.place c.index.result.now) c.self.view_is
    c.index.ensures in
    let whole = subst IsWhole c.self.view_is c.self.invariant in
    may_start (record { place = c.in-Some.place; older = c.copy-in-Some-next.result; next = c.in-Some-next.next }) c.args.self.now
    c.in-Some.ensures.place.0 c.args.name.now c.in-Some.ensures.place.1 c.in-Some.ensures.place.2
    (c.copy-in-Some-next.ensures ∙ is_node c.args.self.now whole c.in-Some.ensures.left c.in-Some.ensures.place.0 c.args.name.now
    c.in-Some.place c.node-node.result.now c.in-Some.ensures.place.1 c.in-Some.ensures.place.2 c.index.result.now core_is
    c.node-node.ensures.name)
    (subst (λ (n : ℕ). creation_of n < last_creation) (sym c.copy-in-Some-next.ensures) c.in-Some-next.ensures.0)
    (c.in-Some-next.ensures.1 ∙ ap (λ (n : ℕ). n + 1) (sym c.copy-in-Some-next.ensures))
    (admits c.args.self.now whole c.in-Some.ensures.left
    c.in-Some.ensures.place.0 c.args.name.now c.in-Some.place c.node-node.result.now c.in-Some.ensures.place.1
    c.in-Some.ensures.place.2 c.index.result.now core_is c.node-node.ensures.name c.has_left.result
    (subst (λ (h : WorldState). c.has_left.result ≡ (links_of h.links).closed c.node-node.result.now) c.self.view_is c.has_left.ensures)
    c.if-not-has_left.false c.in_default-first_untold.ensures c.in-Some-next.ensures.0)

pub returns-in-Some-next-clause-event : goal.returns-in-Some-next-clause-event
returns-in-Some-next-clause-event g c =
    ap name_of (c.copy-in-Some-next.ensures
    ∙ is_node c.args.self.now (subst IsWhole c.self.view_is c.self.invariant) c.in-Some.ensures.left
    c.in-Some.ensures.place.0 c.args.name.now c.in-Some.place c.node-node.result.now c.in-Some.ensures.place.1
    c.in-Some.ensures.place.2 c.index.result.now
    (subst (λ (h : WorldState). c.index.result.now ≡ get_or h.cores c.in-Some.place c.index.result.now) c.self.view_is c.index.ensures)
    c.node-node.ensures.name)
    ∙ c.in-Some.ensures.place.2

pub returns-in-None-clause-refused : goal.returns-in-None-clause-refused
returns-in-None-clause-refused g c = refuses_spent c.args.self.now (subst IsWhole c.self.view_is c.self.invariant)
    c.in-Some.ensures.left
    c.in-Some.ensures.place.0 c.args.name.now c.in-Some.place c.node-node.result.now c.in-Some.ensures.place.1
    c.in-Some.ensures.place.2
    c.index.result.now (subst (λ (h : WorldState). c.index.result.now ≡ get_or h.cores c.in-Some.place c.index.result.now) c.self.view_is
    c.index.ensures) c.node-node.ensures.name c.has_left.result
    (subst (λ (h : WorldState). c.has_left.result ≡ (links_of h.links).closed c.node-node.result.now) c.self.view_is c.has_left.ensures)
    c.if-not-has_left.false c.in_default-first_untold.ensures c.in-None.ensures
