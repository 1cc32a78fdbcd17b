use Rattle.std.proofs.Common.{ℕ, ◌∙◌, List, ap, sym}
use Rattle.protocol_model.specs.Links.{posted}
use Rattle.node_core.specs.declared.Letter.{Letter}
use Rattle.cluster_world.specs.Links.{SentLetter, letters_to}
use Rattle.cluster_world.specs.Mail.{Mailed, on_links}
use Rattle.cluster_world.proofs.Listed.{known_place}
use Rattle.cluster_world.proofs.Mails.{IsSending, sending_first, sending_place, sending_past, sending_one, sending_back}
use Rattle.cluster_world.proofs.mail.Mail.send_all.Goals as goal

pub loop-receiver-init : goal.loop-receiver-init
loop-receiver-init c = sending_first c.args.sender.now c.args.self.now c.args.letters.now.items
    (record {
      nodes = c.self.inside.nodes;
      departed = c.self.inside.departed;
      mesh = c.self.inside.mesh;
      unsent = c.self.inside.unsent;
    })
    c.self.view_is c.self.invariant c.requires.within

pub loop-receiver-preserved-then-reaches : goal.loop-receiver-preserved-then-reaches
loop-receiver-preserved-then-reaches c =
    let m : Mailed = record {
      nodes = c.loop-receiver.self-inside.nodes;
      departed = c.loop-receiver.self-inside.departed;
      mesh = c.loop-receiver.self-inside.mesh;
      unsent = c.loop-receiver.self-inside.unsent;
    } in
    sending_past c.args.sender.now c.args.self.now c.args.letters.now.items m c.loop-receiver.letters.items
    c.pop_front.new.self.items c.in-Some.receiver c.in-Some.letter c.loop-receiver.invariant
    c.in-Some.ensures.items
    (sym c.if-reaches.ensures)

pub send_from-requires : goal.send_from-requires
send_from-requires c =
    let m : Mailed = record {
      nodes = c.loop-receiver.self-inside.nodes;
      departed = c.loop-receiver.self-inside.departed;
      mesh = c.loop-receiver.self-inside.mesh;
      unsent = c.loop-receiver.self-inside.unsent;
    } in
    (sending_place c.args.sender.now c.args.self.now c.args.letters.now.items m c.loop-receiver.letters.items
    c.loop-receiver.invariant c.args.place c.requires.sender).0

-- the mail amid the sending of the letters, one of which memory was refused for
module _ (c : goal.After-push_front_reserved) where
  abbrev m : Mailed
  m = record {
    nodes = c.loop-receiver.self-inside.nodes;
    departed = c.loop-receiver.self-inside.departed;
    mesh = c.loop-receiver.self-inside.mesh;
    unsent = c.loop-receiver.self-inside.unsent;
  }

  back : IsSending c.args.sender.now c.args.self.now c.args.letters.now.items (record m { mesh = c.send_from.new.self })
      c.push_front_reserved.new.self.items
  back = sending_back c.args.sender.now c.args.self.now c.args.letters.now.items m c.loop-receiver.letters.items
      c.pop_front.new.self.items c.in-Some.receiver c.in-Some.letter c.loop-receiver.invariant
      c.in-Some.ensures.items c.send_from.new.self c.push_front_reserved.new.self.items _
      c.in-Err.ensures.unchanged c.push_front_reserved.ensures.items
      (ap (λ (u : _). u.letter.letter) c.unsent.view_is ∙ ap (λ (s : SentLetter). s.letter) c.in-Err.ensures.returned)

pub invariant_of-self : goal.invariant_of-self
invariant_of-self c = (back c).sound

pub returns-in-Err-clause-nodes : goal.returns-in-Err-clause-nodes
returns-in-Err-clause-nodes c = c.loop-receiver.invariant.nodes

pub returns-in-Err-clause-departed : goal.returns-in-Err-clause-departed
returns-in-Err-clause-departed c = c.loop-receiver.invariant.departed

pub returns-in-Err-clause-unsent : goal.returns-in-Err-clause-unsent
returns-in-Err-clause-unsent c = c.loop-receiver.invariant.unsent

pub returns-in-Err-clause-left : goal.returns-in-Err-clause-left
returns-in-Err-clause-left c = (back c).within

pub returns-in-Err-clause-links : goal.returns-in-Err-clause-links
returns-in-Err-clause-links c = (back c).links

pub loop-receiver-preserved : goal.loop-receiver-preserved
loop-receiver-preserved c =
    let m : Mailed = record {
      nodes = c.loop-receiver.self-inside.nodes;
      departed = c.loop-receiver.self-inside.departed;
      mesh = c.loop-receiver.self-inside.mesh;
      unsent = c.loop-receiver.self-inside.unsent;
    } in
    let at = sending_place c.args.sender.now c.args.self.now c.args.letters.now.items m c.loop-receiver.letters.items
    c.loop-receiver.invariant c.args.place c.requires.sender in
    sending_one c.args.sender.now c.args.self.now c.args.letters.now.items m c.loop-receiver.letters.items
    c.pop_front.new.self.items c.in-Some.receiver c.in-Some.letter c.loop-receiver.invariant
    c.in-Some.ensures.items
    c.send_from.new.self _ c.on_mesh.result
    (record { sender = c.copy.result; letter = c.in-Some.letter })
    (known_place c.args.self.now.nodes c.args.sender.now c.args.place c.requires.sender) (sym c.if-reaches.ensures) at.1
    c.on_mesh.ensures
    (ap (λ (x : ℕ). record { sender = x; letter = c.in-Some.letter }) c.copy.ensures)
    c.in_default-send_from.ensures.nodes c.in_default-send_from.ensures.ok

pub invariant_of-self-in_default : goal.invariant_of-self-in_default
invariant_of-self-in_default c = c.loop-receiver.invariant.sound

pub returns-clause-nodes : goal.returns-clause-nodes
returns-clause-nodes c = c.loop-receiver.invariant.nodes

pub returns-clause-departed : goal.returns-clause-departed
returns-clause-departed c = c.loop-receiver.invariant.departed

pub returns-clause-unsent : goal.returns-clause-unsent
returns-clause-unsent c = c.loop-receiver.invariant.unsent

pub returns-clause-links : goal.returns-clause-links
returns-clause-links c =
    let m : Mailed = record {
      nodes = c.loop-receiver.self-inside.nodes;
      departed = c.loop-receiver.self-inside.departed;
      mesh = c.loop-receiver.self-inside.mesh;
      unsent = c.loop-receiver.self-inside.unsent;
    } in
    ap (λ (ss : List (ℕ × Letter)). posted c.args.sender.now (λ t. letters_to t ss) (on_links m))
    (sym c.in_default.ensures.items)
    ∙ c.loop-receiver.invariant.links
