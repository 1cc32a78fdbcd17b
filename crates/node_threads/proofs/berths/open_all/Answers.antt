use Rattle.std.proofs.Common.{ℕ, ◌++◌, ◌∷◌, [], List, map, take, sym, ap, ◌∙◌, arith, append_assoc}
use Rattle.std.proofs.lemmas.List.{take_more}
use Rattle.std.proofs.lemmas.List.Elements.{All-push, All-same}
use Rattle.node_threads.specs.Wires.{name_of}
use Rattle.node_threads.specs.Berths.{Berthed, wired_of, IsOpened}
use Rattle.node_threads.proofs.Connecting.{names_push}
use Rattle.node_threads.proofs.berths.open_all.Goals as goal

pub loop-node-preserved : goal.loop-node-preserved
loop-node-preserved g c =
    let before : List ℕ = map name_of (wired_of c.args.berths.now.items) in
    record {
      names = ap (λ (bs : List Berthed). map name_of (wired_of bs)) c.in_ok-push.ensures.items
          ∙ names_push c.loop-node.berths.items c.in_ok-open.field-0
          ∙ ap (λ (l : List ℕ). l ++ name_of c.in_ok-open.field-0.wired ∷ []) c.loop-node.invariant.names
          ∙ append_assoc before (take c.loop-node.node-index c.args.nodes.now) (name_of c.in_ok-open.field-0.wired ∷ [])
          ∙ ap (λ (n : ℕ). before ++ (take c.loop-node.node-index c.args.nodes.now ++ n ∷ []))
          (c.in_ok-open.ensures.name ∙ c.first-own.ensures.node ∙ c.copy.ensures ∙ c.node-item.is)
          ∙ ap (λ (l : List ℕ). before ++ l)
          (sym (take_more c.args.nodes.now c.loop-node.node-index c.node-item.result c.loop-node-test.true));
      opened = All-same (IsOpened c.args.opening.now) c.push.new.self.items (c.loop-node.berths.items ++ c.in_ok-open.field-0 ∷ [])
          c.in_ok-push.ensures.items
          (All-push (IsOpened c.args.opening.now) c.loop-node.berths.items c.in_ok-open.field-0 c.loop-node.invariant.opened
          c.in_ok-open.ensures.opened);
      long = omega (arith, c.in_ok-push.ensures.len, c.loop-node.invariant.long);
    }
