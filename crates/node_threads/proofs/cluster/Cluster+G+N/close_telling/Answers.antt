use Rattle.std.proofs.Common.{◌++◌, List, ℕ, map, ap, ◌∙◌, sym}
use mathlib.Core.List.{map-map}
use Rattle.term.specs.NodeSets.{set_of}
use Rattle.node_loop.specs.declared.NodeEnd.{NodeEnd}
use Rattle.node_loop.specs.Openings.{repeats}
use Rattle.replay.specs.Ends.{end_of}
use Rattle.node_threads.specs.Ended.{owner}
use Rattle.node_threads.proofs.Closing.{closes_telling, never_torn, still_whole}
use Rattle.node_threads.proofs.Opening.{once}
use Rattle.node_threads.proofs.cluster.Cluster+G+N.close_telling.Goals as goal

pub replay-told-requires-clause-once : goal.replay-told-requires-clause-once
replay-told-requires-clause-once g c = ap (λ (es : List (NodeEnd _ _ _)). repeats (map (λ e. e.log.node) es)) c.as_slice-3.ensures.value
    ∙ ap repeats (sym (map-map owner (end_of g.N.Names.contents) c.in-Ok.field-0.ends.items) ∙ c.in-Ok.ensures.back.names)
    ∙ once c.args.self.cluster c.args.self.lone c.into_ends.ensures.lists

pub replay-told-requires-clause-each : goal.replay-told-requires-clause-each
replay-told-requires-clause-each g c = λ n. ap (λ (es : List (NodeEnd _ _ _)). set_of (map (λ e. e.log.node) es) n) c.as_slice-3.ensures.value
    ∙ ap (λ (ns : List ℕ). set_of ns n) (sym (map-map owner (end_of g.N.Names.contents) c.in-Ok.field-0.ends.items) ∙ c.in-Ok.ensures.back.names)
    ∙ (λ j. set_of (sym (c.as_slice.ensures.value ∙ c.in-Ok.ensures.cluster) j ++ sym (c.as_slice-2.ensures.value ∙ c.in-Ok.ensures.lone) j) n)

pub returns-clause-tells : goal.returns-clause-tells
returns-clause-tells g c = closes_telling c.args.self.cluster c.args.self.lone c.args.self.crew c.args.transcripts.now
    (map (end_of g.N.Names.contents) c.in-Ok.field-0.ends.items) c.in-Ok.ensures.back
    c.as_slice.result.now c.as_slice-2.result.now (map (end_of g.N.Names.contents) c.as_slice-3.result.now)
    (c.as_slice.ensures.value ∙ c.in-Ok.ensures.cluster) (c.as_slice-2.ensures.value ∙ c.in-Ok.ensures.lone)
    (ap (map (end_of g.N.Names.contents)) c.as_slice-3.ensures.value) c.replay-told.result c.replay-told.ensures.ok c.replay-told.ensures.refused
    c.in-Ok.field-0.pasts c.in-Ok.ensures.pasts c.with_pasts.result c.with_pasts.ensures

pub returns-clause-whole : goal.returns-clause-whole
returns-clause-whole g c = still_whole c.replay-told.result c.with_pasts.result c.in-Ok.field-0.pasts c.with_pasts.ensures
    (never_torn c.args.self.cluster c.args.self.lone c.args.self.crew c.args.transcripts.now (map (end_of g.N.Names.contents) c.in-Ok.field-0.ends.items) c.in-Ok.ensures.back
    c.as_slice.result.now c.as_slice-2.result.now (map (end_of g.N.Names.contents) c.as_slice-3.result.now)
    (c.as_slice.ensures.value ∙ c.in-Ok.ensures.cluster) (c.as_slice-2.ensures.value ∙ c.in-Ok.ensures.lone)
    (ap (map (end_of g.N.Names.contents)) c.as_slice-3.ensures.value) c.replay-told.result c.replay-told.ensures.torn)
