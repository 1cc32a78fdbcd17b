use Rattle.std.proofs.Common.{ℕ, ◌≡◌, ◌∙◌, List, Option, Some, None, false, true, ap, subst, sym, refl}
use Rattle.std.specs.Prelude.{MatchOption, IfSome, is_some}
use Rattle.getting_through.specs.NamedWorld.{present_node}
use Rattle.term.specs.Nodes.{name_of, text_in}
use Rattle.term.specs.NodeSets.{set_of, names_in}
use Rattle.cluster_world.specs.WorldState.{WorldState, nodes_of}
use Rattle.cluster_world.specs.Seen.{names_of, named}
use Rattle.cluster_world.proofs.Naming.{OneOfEach, names_in-of, present_of}
use Rattle.cluster_world.proofs.Untold.{text_of_name}
use Rattle.cluster_world.proofs.world.World.present.Goals as goal

abbrev Finds : {B : Type 0} → Option B → (B → ℕ) → List ℕ → ℕ → Type 0
Finds r now nodes x = MatchOption r (names_in nodes x ≡ false) (λ b. (set_of nodes (now b) ≡ true) × (name_of (now b) ≡ x))

-- it is found where the name is known
is_here : {B : Type 0} (r : Option B) (now : B → ℕ) (nodes : List ℕ) (x : ℕ) → Finds r now nodes x → is_some r ≡ names_in nodes x
is_here None now nodes x e = sym e
is_here (Some b) now nodes x e = sym (subst (λ (n : ℕ). names_in nodes n ≡ true) e.1 (names_in-of nodes (now b) (now b) e.0 refl))

-- and is the name's present node
is_node : {B : Type 0} (r : Option B) (now : B → ℕ) (h : WorldState) (x : ℕ) → OneOfEach (nodes_of h) → Finds r now (nodes_of h) x
    → IfSome r (λ b. (set_of (nodes_of h) (now b) ≡ true) × (now b ≡ present_node (names_of h) (named h) (text_in x)))
is_node None now h x one e = tt
is_node (Some b) now h x one e = (
  e.0,
  sym (ap (present_node (names_of h) (named h)) (text_of_name (now b) x e.1) ∙ present_of h one (now b) (now b) e.0 refl),
)

pub returns-clause-here : goal.returns-clause-here
returns-clause-here g c =
    subst (λ (h : WorldState). is_some c.present.result ≡ names_in (nodes_of h) c.args.name.now) c.self.view_is
    (is_here c.present.result (λ b. b.now) c.self.inside.links.nodes c.args.name.now c.present.ensures)

pub returns-clause-node : goal.returns-clause-node
returns-clause-node g c =
    is_node c.present.result (λ b. b.now) c.args.self.now c.args.name.now
    (subst (λ (h : WorldState). OneOfEach (nodes_of h)) c.self.view_is c.nodes-nodes.ensures.left.one)
    (subst (λ (h : WorldState). Finds c.present.result (λ b. b.now) (nodes_of h) c.args.name.now) c.self.view_is c.present.ensures)
