use Rattle.std.proofs.Common.{ℕ, ◌<◌, ◌≡◌, ◌-◌, Some, List, [], length, ap, ◌∙◌, refl}
use Rattle.std.specs.List.{slice_get}
use Rattle.term.specs.NodeSets.{IsNodeSet, set_of, without_node}
use Rattle.boss_order.specs.Boss.{boss_of, others_of}
use Rattle.boss_order.proofs.Others.{without_boss, boss-Some, boss-None, set_of-others}
use Rattle.boss_order.proofs.order.rest.Goals as goal

-- what is left of a copy without the last
left : (xs ys zs : List ℕ) (b : ℕ) → IsNodeSet xs → ys ≡ xs → Some b ≡ slice_get xs (length xs - 1)
    → zs ≡ without_node ys b → (0 < length xs) × (zs ≡ others_of xs)
left xs ys zs b set same last is =
    let boss : (0 < length xs) × (b ≡ boss_of xs) = boss-Some xs b last in (
      boss.0,
      is ∙ ap (λ (us : List ℕ). without_node us b) same ∙ ap (without_node xs) boss.1
          ∙ without_boss xs set boss.0,
    )

left_there : (c : goal.After-remove) → (0 < length c.args.nodes.now) × (c.remove.new.self ≡ others_of c.args.nodes.now)
left_there c =
    left c.args.nodes.now c.copy-rest.result c.remove.new.self c.in-Some.boss.now c.as_slice.ensures.set
    c.copy-rest.ensures
    (rw c.as_slice.ensures.nodes at c.in-Some.ensures.value) c.remove.ensures.others

none_there : (c : goal.In_default) → c.args.nodes.now ≡ []
none_there c = boss-None c.args.nodes.now (rw c.as_slice.ensures.nodes at c.in_default.ensures.value)

pub returns-in-Some-clause-value : goal.returns-in-Some-clause-value
returns-in-Some-clause-value c = (left_there c).1

pub returns-in-Some-clause-members : goal.returns-in-Some-clause-members
returns-in-Some-clause-members c =
    λ x. ap (λ (ys : List ℕ). set_of ys x) (left_there c).1
    ∙ set_of-others c.args.nodes.now c.as_slice.ensures.set (left_there c).0 x

pub returns-in_default-clause-value : goal.returns-in_default-clause-value
returns-in_default-clause-value c = rw (c.copy-rest.ensures, none_there c) refl

pub returns-in_default-clause-members : goal.returns-in_default-clause-members
returns-in_default-clause-members c = λ x. rw (c.copy-rest.ensures, none_there c) refl
