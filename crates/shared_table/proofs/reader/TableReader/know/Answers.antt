use Rattle.shared_table.proofs.reader.TableReader.know.Goals as goal

pub returns-clause-reads : goal.returns-clause-reads
returns-clause-reads c = c.hear.ensures.reads c.requires.late

pub returns-clause-shows : goal.returns-clause-shows
returns-clause-shows c = c.hear.ensures.shows c.requires.late
