use Rattle.std.proofs.Common.{List, ◌++◌, subst, sym, Ok}
use Rattle.std.specs.Prelude.{All}
use Rattle.node_threads.specs.declared.Transcript.{Transcript}
use Rattle.node_threads.specs.Books.{Known}
use Rattle.server.specs.declared.served.Witness.{Witness}
use Rattle.server.specs.Covering.{ClosesOver, IsCovered, IsOfBook}
use Rattle.server.proofs.Covered.{all_of_books, all_of_ends}
use Rattle.server.proofs.serving.close_over.Goals as goal

pub cover_all-requires : goal.cover_all-requires
cover_all-requires g c =
    let tells = c.in_ok-closed.ensures.tells in
    subst (λ (x : List Known × List Witness). All (IsOfBook x.0 (c.args.cluster.now ++ c.args.lone.now)) x.1)
    (λ j. (sym c.as_slice-2.ensures.value j, sym c.as_slice-3.ensures.value j))
    (all_of_books c.args.cluster.now c.args.lone.now c.args.running.crew c.requires.crew c.in_ok-closed.pasts.items tells.0.ends tells.1
    tells.0.back.returned.as_many_ends c.args.legacy.now.witnesses.items c.requires.books)

pub returns : goal.returns
returns g c =
    let tells = c.in_ok-closed.ensures.tells in
    let witnesses = c.args.legacy.now.witnesses.items in
    let pasts = c.in_ok-closed.pasts.items in
    let covered : All (IsCovered pasts (c.args.cluster.now ++ c.args.lone.now)) witnesses =
    subst (λ (x : List Known × List Witness). All (IsCovered x.0 (c.args.cluster.now ++ c.args.lone.now)) x.1)
    (λ j. (c.as_slice-2.ensures.value j, c.as_slice-3.ensures.value j)) c.cover_all.ensures in
    record {
      closes = subst (λ (ts : List Transcript). ClosesOver c.args.running ts witnesses (Ok c.in_ok-closed.closed)) c.as_slice.ensures.value (
        tells.0,
        all_of_ends c.args.cluster.now c.args.lone.now c.args.running.crew c.requires.crew pasts tells.0.ends tells.1
            tells.0.back.returned.as_many_ends witnesses c.requires.books covered,
      );
      whole = tt;
    }
