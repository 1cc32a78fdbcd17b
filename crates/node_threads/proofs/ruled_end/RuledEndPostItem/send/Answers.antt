use Rattle.std.proofs.Common.{false, ap, sym, ◌∙◌}
use Rattle.link.specs.Mailboxes.{taken}
use Rattle.node_seats.specs.Lines.{place}
use Rattle.node_threads.specs.Traffics.{lasting}
use Rattle.node_threads.proofs.Sending.{posts_or_not}
use Rattle.node_threads.proofs.ruled_end.RuledEndPostItem.send.Goals as goal

pub returns : goal.returns
returns g c = posts_or_not c.self.inside.node c.args.to.now c.self.inside.first.value c.self.inside.lines.items (taken c.self.inside.mailbox)
    c.self.inside.waiting.items c.self.inside.in_a_row c.self.inside.has_passed 0 false c.args.letter c.in-Some.place c.index_mut.result.now c.send.new.self
    (ap (place c.args.to.now) (sym c.as_slice.ensures.value) ∙ sym c.place_of.ensures ∙ c.in-Some.is) c.index_mut.ensures.value
    (lasting c.args.self.now) (ap lasting c.self.view_is) c.send.result c.send.ensures.ok c.send.ensures.unchanged c.send.ensures.err
