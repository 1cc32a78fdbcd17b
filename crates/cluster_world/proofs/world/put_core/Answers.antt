use Rattle.std.proofs.Common.{ℕ, ◌≡◌, ◌∙◌, ◌<◌, ◌++◌, List, [], ◌∷◌, length, get_or, map, ap}
use Rattle.std.proofs.lemmas.List.{map-append, get_or_default}
use Rattle.node_core.specs.CoreState.{CoreState}
use Rattle.cluster_world.proofs.world.put_core.Goals as goal

-- of what has been, and a pair behind it, the first parts
firsts : {A B : Type 0} (items was : List (A × B)) (x y : A) (u : B) → items ≡ was ++ (x, u) ∷ [] → x ≡ y
    → map (λ p. p.0) items ≡ map (λ p. p.0) was ++ y ∷ []
firsts {A} {B} items was x y u e same = ap (λ (ps : List (A × B)). map (λ p. p.0) ps) e
    ∙ map-append (λ (p : A × B). p.0) was ((x, u) ∷ [])
    ∙ ap (λ (z : A). map (λ (p : A × B). p.0) was ++ z ∷ []) same

-- the core that stood there
stood : (cs : List CoreState) (p : ℕ) (x c d : CoreState) → p < length cs → x ≡ get_or cs p c → x ≡ get_or cs p d
stood cs p x c d l is = is ∙ get_or_default cs p c d l

pub returns-clause-past : goal.returns-clause-past
returns-clause-past g c = firsts c.and.result.items c.args.past.now.items c.replace-gone.result
    (get_or c.args.cores.now c.args.place c.args.core) _ c.and.ensures
    (stood c.args.cores.now c.args.place c.replace-gone.result c.index-cores-place.result c.args.core c.requires
    c.replace-gone.ensures.value)
