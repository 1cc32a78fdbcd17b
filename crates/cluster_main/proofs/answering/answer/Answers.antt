use Rattle.std.proofs.Common.{List, inl, map, string_bytes, subst}
use Rattle.std.proofs.KnownBytes.{Keeps-refl}
use Rattle.std.specs.Io.Buffered.{reader_remaining}
use Rattle.clap.specs.Words.{Text, subcommand_of}
use Rattle.arguments.specs.CommandLine.{program, value_in}
use Rattle.arguments.specs.Reading.{Asks}
use Rattle.cluster_main.specs.Answering.{Streams, Told}
use Rattle.cluster_main.proofs.Answered.{played, ran, refused, served}
use Rattle.cluster_main.proofs.Placed.{ready}
use Rattle.cluster_main.proofs.answering.answer.Goals as goal

pub serve-requires-after_bounds : goal.serve-requires-after_bounds
serve-requires-after_bounds g c κs within =
    let words : List Text = map string_bytes c.in-Some.words.now in
    let mode = subst (Asks words) c.in-Ok-Serve.field-0-is c.in-Ok-Serve.ensures.mode in
    ready (value_in (subcommand_of program words)) c.in-Ok-Serve.options mode.asked.1

pub returns-in-Ok-Serve : goal.returns-in-Ok-Serve
returns-in-Ok-Serve g c =
    let s : Streams = record {
      input = reader_remaining g.R.Read.remaining c.args.reader.now;
      rest = reader_remaining g.R.Read.remaining c.args.reader.now;
      old = g.W.Write.contents c.args.writer.now;
      new = g.W.Write.contents c.serve.new.writer;
    } in
    let told : Told = record {
      old = g.E.Write.contents c.args.errors.now;
      new = g.E.Write.contents c.serve.new.errors;
    } in
    let words : List Text = map string_bytes c.in-Some.words.now in
    let mode = subst (Asks words) c.in-Ok-Serve.field-0-is c.in-Ok-Serve.ensures.mode in
    let d = served words c.in-Ok-Serve.options c.serve.result s told c.status.result mode
    (Keeps-refl (reader_remaining g.R.Read.remaining c.args.reader.now)) c.serve.ensures.serves c.serve.ensures.why c.status.ensures in
    rw c.in-Some.is (inl d)

pub returns-in-Ok-Script : goal.returns-in-Ok-Script
returns-in-Ok-Script g c =
    let s : Streams = record {
      input = reader_remaining g.R.Read.remaining c.args.reader.now;
      rest = reader_remaining g.R.Read.remaining c.play.new.reader;
      old = g.W.Write.contents c.args.writer.now;
      new = g.W.Write.contents c.play.new.writer;
    } in
    let told : Told = record {
      old = g.E.Write.contents c.args.errors.now;
      new = g.E.Write.contents c.args.errors.now;
    } in
    let words : List Text = map string_bytes c.in-Some.words.now in
    let mode = subst (Asks words) c.in-Ok-Script.field-0-is c.in-Ok-Script.ensures.mode in
    let d = played words s told c.play.result mode c.play.ensures (Keeps-refl (g.E.Write.contents c.args.errors.now)) in
    rw c.in-Some.is (inl d)

pub run-requires : goal.run-requires
run-requires g c = (subst (Asks (map string_bytes c.in-Some.words.now)) c.in-Ok-Node.field-0-is c.in-Ok-Node.ensures.mode).asked.1.placed.known

pub returns-in-Ok-Node : goal.returns-in-Ok-Node
returns-in-Ok-Node g c =
    let s : Streams = record {
      input = reader_remaining g.R.Read.remaining c.args.reader.now;
      rest = reader_remaining g.R.Read.remaining c.run.new.reader;
      old = g.W.Write.contents c.args.writer.now;
      new = g.W.Write.contents c.run.new.writer;
    } in
    let told : Told = record {
      old = g.E.Write.contents c.args.errors.now;
      new = g.E.Write.contents c.args.errors.now;
    } in
    let words : List Text = map string_bytes c.in-Some.words.now in
    let mode = subst (Asks words) c.in-Ok-Node.field-0-is c.in-Ok-Node.ensures.mode in
    let d = ran words c.in-Ok-Node.options s told c.run.result mode c.run.ensures
    (Keeps-refl (g.E.Write.contents c.args.errors.now)) in
    rw c.in-Some.is (inl d)

pub returns-in-Err : goal.returns-in-Err
returns-in-Err g c =
    let s : Streams = record {
      input = reader_remaining g.R.Read.remaining c.args.reader.now;
      rest = reader_remaining g.R.Read.remaining c.args.reader.now;
      old = g.W.Write.contents c.args.writer.now;
      new = g.W.Write.contents c.refuse.new.writer;
    } in
    let told : Told = record {
      old = g.E.Write.contents c.args.errors.now;
      new = g.E.Write.contents c.refuse.new.errors;
    } in
    let d = refused (map string_bytes c.in-Some.words.now) c.in-Err.fault s told c.refuse.result c.in-Err.ensures.mode
    (Keeps-refl (reader_remaining g.R.Read.remaining c.args.reader.now)) c.refuse.ensures in
    rw c.in-Some.is d
