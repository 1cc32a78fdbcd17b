use Rattle.std.proofs.Common.{◌∙◌, Some, None, ap}
use Rattle.std.specs.Option.{option_copied}
use Rattle.cluster_world.specs.Links.{SentLetter}
use Rattle.cluster_world.proofs.Mails.{letter_found, link_there}
use Rattle.cluster_world.proofs.mail.Mail.front.Goals as goal

pub front_at-requires : goal.front_at-requires
front_at-requires c =
    (link_there _ c.self.invariant c.args.self.now c.self.view_is c.args.delivery.now.link _ c.args.delivery.now.receiver
    c.requires.link).0

pub returns-in_err-oldest : goal.returns-in_err-oldest
returns-in_err-oldest c =
    ap option_copied c.from_residual.ensures
    ∙ letter_found _ c.self.invariant c.args.self.now c.self.view_is c.args.delivery.now c.requires.all c.requires.link
    c.requires.first None c.in_err-oldest.ensures

pub returns : goal.returns
returns c =
    ap (λ (s : SentLetter). Some s.letter) c.oldest.view_is
    ∙ letter_found _ c.self.invariant c.args.self.now c.self.view_is c.args.delivery.now c.requires.all c.requires.link
    c.requires.first (Some c.in_ok-oldest.oldest.now) c.in_ok-oldest.ensures
