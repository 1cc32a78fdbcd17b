use Rattle.node_port.proofs.port.Port.replace.Goals as goal

pub returns-clause-start : goal.returns-clause-start
returns-clause-start c = record {
  older = c.args.older.now;
  may = c.requires.may;
  starts = record { next_is = c.requires.may.next_is; alone = c.requires.alone; begins = c.started.ensures.state };
  loop = c.replace.ensures;
}
