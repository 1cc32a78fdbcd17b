use Rattle.std.proofs.Common.{◌∙◌, sym, subst, refl}
use Rattle.cluster_world.specs.Whole.{IsWhole}
use Rattle.cluster_world.proofs.Deliveries.{refuses_sender, refuses_receiver, reads_between, ready_found, same_event}
use Rattle.cluster_world.proofs.Deliveries.{refuses_found_left, refuses_found_empty}
use Rattle.cluster_world.proofs.world.World.admit_delivery.Goals as goal
use Rattle.cluster_world.proofs.world.World.admit_delivery.Goals.{in_default-via-in-Some+in_default, in_default-via-in_default}

pub returns-in_default-clause-refused : goal.returns-in_default-clause-refused
returns-in_default-clause-refused g c = elim c.in_default.branch [
  | in_default-via-in-Some+in_default w ↦
      refuses_receiver c.args.self.now (subst IsWhole c.self.view_is c.self.invariant) c.place_of-2.ensures.left
      c.args.sender.now c.args.receiver.now c.place_of-2.ensures.first w.in_default.ensures'.place
  | in_default-via-in_default w ↦
      refuses_sender c.args.self.now (subst IsWhole c.self.view_is c.self.invariant) c.place_of.ensures.left
      c.args.sender.now c.args.receiver.now c.place_of.ensures.first w.in_default.ensures-1.place
]

pub first_sender-requires : goal.first_sender-requires
first_sender-requires g c =
    reads_between _ c.args.self.now c.self.view_is c.self.invariant c.args.sender.now c.args.receiver.now c.in-Some-Some.to
    c.in-Some-Some.ensures'.place c.index.result.now c.index.ensures c.node-node.result.now c.node-node.ensures.name
    (record { sender = c.in-Some-Some.from; receiver = c.in-Some-Some.to }) refl c.in-Some-Some.ensures.place

pub returns-in-Some-clause-ok : goal.returns-in-Some-clause-ok
returns-in-Some-clause-ok g c =
    ready_found _ c.args.self.now c.self.view_is c.self.invariant c.args.sender.now c.args.receiver.now c.in-Some-Some.to
    c.in-Some-Some.ensures'.place c.index.result.now c.index.ensures c.node-node.result.now c.node-node.ensures.name
    c.place_of.ensures.left
    (record {
      link = record { sender = c.in-Some-Some.from; receiver = c.in-Some-Some.to };
      sender = c.in-Some.sender;
      receiver = c.copy.result;
    }) refl c.copy.ensures c.in-Some-Some.ensures.place c.in-Some.ensures.first

pub returns-in-Some-clause-event : goal.returns-in-Some-clause-event
returns-in-Some-clause-event g c =
    same_event _ c.args.self.now c.self.view_is c.self.invariant c.args.sender.now c.args.receiver.now c.in-Some-Some.to
    c.in-Some-Some.ensures'.place c.index.result.now c.index.ensures c.node-node.result.now c.node-node.ensures.name
    c.place_of.ensures.left
    (record {
      link = record { sender = c.in-Some-Some.from; receiver = c.in-Some-Some.to };
      sender = c.in-Some.sender;
      receiver = c.copy.result;
    }) refl c.copy.ensures c.in-Some-Some.ensures.place c.in-Some.ensures.first

pub returns-in-None-clause-refused : goal.returns-in-None-clause-refused
returns-in-None-clause-refused g c =
    refuses_found_left _ c.args.self.now c.self.view_is c.self.invariant c.args.sender.now c.args.receiver.now c.in-Some-Some.to
    c.in-Some-Some.ensures'.place c.index.result.now c.index.ensures c.node-node.result.now c.node-node.ensures.name
    c.place_of.ensures.left c.in-Some-Some.from c.in-Some-Some.ensures.place c.first_sender.result c.first_sender.ensures.first
    c.in-None.is (sym c.has_left.ensures ∙ c.if-has_left.true)

pub returns-in-None-2-clause-refused : goal.returns-in-None-2-clause-refused
returns-in-None-2-clause-refused g c =
    refuses_found_empty _ c.args.self.now c.self.view_is c.self.invariant c.args.sender.now c.args.receiver.now c.in-Some-Some.to
    c.in-Some-Some.ensures'.place c.index.result.now c.index.ensures c.node-node.result.now c.node-node.ensures.name
    c.place_of.ensures.left c.in-Some-Some.from c.in-Some-Some.ensures.place c.first_sender.result c.first_sender.ensures.first
    c.in-None.is (sym c.has_left.ensures ∙ c.if-has_left.false)
