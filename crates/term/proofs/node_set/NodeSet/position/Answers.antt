use Rattle.std.proofs.Common.{◌≡◌, ℕ, ◌==◌, List, Result, Ok, Err, sym, ◌∙◌}
use Rattle.std.specs.List.{position}
use Rattle.std.specs.Result.{result_ok}
use Rattle.std.specs.List.Sorted.{IsStrictlyIncreasing, IsBinarySearchResult}
use Rattle.std.specs.Ordering.{nat_cmp}
use Rattle.term.proofs.NodeSets.{found, position-there, position-fits}
use Rattle.term.proofs.node_set.NodeSet.position.Goals as goal

placed : (xs : List ℕ) (c : ℕ) (r : Result ℕ ℕ) → IsStrictlyIncreasing xs → IsBinarySearchResult (λ y. nat_cmp y c) xs r
    → result_ok r ≡ position (λ m. m == c) xs
placed xs c (Ok i) up s = sym (position-there xs i c up (found xs c (Ok i) s up))
placed xs c (Err i) up s = sym (position-fits xs i c (found xs c (Err i) s up))

pub returns : goal.returns
returns c =
    rw (← c.self.view_is)
    (c.ok.ensures.value
    ∙ placed c.self.inside.nodes.items c.args.node.now c.binary_search.result c.self.invariant.rising
    (rw (← c.deref.ensures.0) (c.binary_search.ensures.position)))
