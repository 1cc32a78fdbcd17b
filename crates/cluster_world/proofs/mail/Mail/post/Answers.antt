use Rattle.std.proofs.Common.{ℕ, ◌∙◌, List, ap}
use Rattle.protocol_model.specs.Links.{posted}
use Rattle.node_core.specs.declared.Letter.{Letter}
use Rattle.cluster_world.specs.Links.{letters_to}
use Rattle.cluster_world.specs.Mail.{Mailed, on_links}
use Rattle.cluster_world.proofs.Mails.{links_left}
use Rattle.cluster_world.proofs.mail.Mail.post.Goals as goal

pub returns-clause-links : goal.returns-clause-links
returns-clause-links c =
    let v : Mailed = record {
      nodes = c.self.inside.nodes;
      departed = c.self.inside.departed;
      mesh = c.self.inside.mesh;
      unsent = c.self.inside.unsent;
    } in
    links_left v c.args.self.now c.args.place c.args.sender.now c.send_all.new.letters.items c.args.letters.now.items c.rest_of.result
    c.rest_of.ensures c.requires.all
    (ap (λ (h : Mailed). posted c.args.sender.now (λ t. letters_to t c.send_all.new.letters.items) (on_links h)) c.self.view_is
    ∙ c.send_all.ensures.links
    ∙ ap (λ (ss : List (ℕ × Letter)). posted c.args.sender.now (λ t. letters_to t ss) (on_links c.args.self.now))
    (c.from-waiting.ensures.0 ∙ ap (λ (q : _). q.items) c.replace.ensures.value))
