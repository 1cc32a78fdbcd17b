use Rattle.std.proofs.Common.{◌∙◌, sym, ap}
use Rattle.std.specs.Option.{option_copied_mut}
use Rattle.exchange.proofs.Sending.{sent_first-seen}
use Rattle.exchange.proofs.lists.NoticeLists.push.Goals as goal

pub returns : goal.returns
returns c = sent_first-seen c.args.self.now c.self.inside.lists.entries c.get_mut.follows.lender-at-none.entries
    c.insert.new.self.entries c.args.serial c.args.notice.now c.in_ok-sent.sent c.self.view_is
    (ap (λ m. m.entries) c.get_mut.follows.holds-at-none)
    (sym (ap option_copied_mut c.in_default.is) ∙ c.get_mut.ensures.value) c.in_ok-sent.ensures
    c.in_ok-insert.ensures.updates.0
