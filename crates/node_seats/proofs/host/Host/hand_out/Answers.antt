use Rattle.std.proofs.Common.{◌∙◌, ap, sym}
use Rattle.shared_table.specs.Pages.{Book}
use Rattle.node_seats.specs.Hosts.{Hosting}
use Rattle.node_seats.proofs.Telling.{held_where_written}
use Rattle.node_seats.proofs.host.Host.hand_out.Goals as goal

pub lay_all-requires-clause-held : goal.lay_all-requires-clause-held
lay_all-requires-clause-held g c = held_where_written c.args.node.now c.args.publisher.now c.requires.written

pub lay_all-requires-clause-book : goal.lay_all-requires-clause-book
lay_all-requires-clause-book g c = c.requires.book ∙ sym (ap (λ (h : Hosting). h.book) c.self.view_is)

pub returns-clause-same : goal.returns-clause-same
returns-clause-same g c =
    ap (λ (b : Book). record { yields = c.self.inside.rest.yields; book = b }) c.lay_all.ensures.same ∙ c.self.view_is
