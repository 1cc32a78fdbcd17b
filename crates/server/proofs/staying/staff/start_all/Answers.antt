use Rattle.server.proofs.Posting.{both_if_started}
use Rattle.server.proofs.staying.staff.start_all.Goals as goal

pub returns : goal.returns
returns g c = both_if_started c.args.office.nodes c.args.threads.now.items c.args.workers 1 c.start_workers.new.threads.items
    c.post.new.threads.items c.post.result c.in_ok-start_workers.ensures c.post.ensures
