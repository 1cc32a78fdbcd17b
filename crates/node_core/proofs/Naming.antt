-- Names of nodes stand for the nodes that have them.
use Rattle.std.proofs.Common.{ℕ, Bool, ◌==◌, ◌≡◌, List, [], ◌∷◌, map, refl, sym, ap, ◌∙◌}
use Rattle.std.specs.Prelude.{All, ◌||◌, ◌&&◌}
use Rattle.std.specs.List.{list_any, list_all}
use Rattle.std.proofs.lemmas.List.Elements.{All-head, All-tail}
use Rattle.term.specs.Nodes.{IsFirst, name_of, nodes_of}
use Rattle.term.specs.NodeSets.{set_of, names_in}
use Rattle.term.proofs.Numbers.{list_any-nodes_of, list_any-set_of, eq-other_way}

-- a node has one of these names if it is one of the nodes that they stand for
pub has_one : (names : List ℕ) (c : ℕ) → All IsFirst names
    → set_of names (name_of c) ≡ list_any (λ nodes. list_any (λ m. m == c) nodes) (map nodes_of names)
has_one [] c first = refl
has_one (x ∷ names) c first =
    ap (λ (b : Bool). b || set_of names (name_of c)) (eq-other_way x (name_of c) ∙ sym (list_any-nodes_of x c (All-head IsFirst x names first)))
    ∙ ap (λ (b : Bool). list_any (λ m. m == c) (nodes_of x) || b) (has_one names c (All-tail IsFirst x names first))

-- each name has a member if one of the nodes that it stands for is one
pub all_have : (names members : List ℕ) → All IsFirst names
    → list_all (names_in members) names ≡ list_all (λ nodes. list_any (set_of members) nodes) (map nodes_of names)
all_have [] members first = refl
all_have (x ∷ names) members first =
    ap (λ (b : Bool). b && list_all (names_in members) names) (sym (list_any-set_of members x (All-head IsFirst x names first)))
    ∙ ap (λ (b : Bool). list_any (set_of members) (nodes_of x) && b) (all_have names members (All-tail IsFirst x names first))
