use Rattle.cluster_world.proofs.Mails.{link_there, links_taken, sound_taken}
use Rattle.cluster_world.proofs.mail.Mail.take.Goals as goal

pub take_at-requires : goal.take_at-requires
take_at-requires c =
    (link_there _ c.self.invariant c.args.self.now c.self.view_is c.args.delivery.now.link _ c.args.delivery.now.receiver
    c.requires.link).0

pub invariant_of-self : goal.invariant_of-self
invariant_of-self c =
    sound_taken _ c.self.invariant c.args.self.now c.self.view_is c.args.delivery.now c.take_at.new.self c.requires.all
    c.requires.link c.requires.first c.take_at.ensures.nodes c.take_at.ensures.taken

pub returns-clause-links : goal.returns-clause-links
returns-clause-links c =
    links_taken _ c.self.invariant c.args.self.now c.self.view_is c.args.delivery.now c.take_at.new.self c.requires.all
    c.requires.link c.requires.first c.take_at.ensures.nodes c.take_at.ensures.taken
