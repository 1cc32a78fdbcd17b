use Rattle.node_threads.proofs.running.fn.spawn.spawn_with+FnOnce.call_once.Goals as goal

-- what the closure asks of its types is what the thread does
pub spawn_with-requires : goal.spawn_with-requires
spawn_with-requires g c =
    let (asked, (came, (publishes, (book, sends)))) = c.requires.1.1.1.1 in
    (asked.0, (asked.1, (asked.2, (asked.3, (asked.4, (sends, (came, (publishes, book))))))))
