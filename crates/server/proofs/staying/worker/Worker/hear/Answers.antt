use Rattle.server.proofs.staying.worker.Worker.hear.Goals as goal

pub returns-in-Ok-Some : goal.returns-in-Ok-Some
returns-in-Ok-Some g c =
    let e = c.in-Ok-Some.field-0-is in
    let cookie = c.as_ref.ensures.value in
    let options = c.deref.ensures in
    let reads = rw e at c.in-Ok-Some.ensures.reads in
    let shows = rw e at c.in-Ok-Some.ensures.shows in
    (rw (cookie, options) at reads, rw (cookie, options) at shows)
