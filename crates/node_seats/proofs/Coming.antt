-- A loop whose oldest reply is handed out came by turns still.
use Rattle.std.proofs.Common.{ℕ, ◌≡◌, List, [], ◌∷◌, suc, inl, inr, ap, sym, subst, ◌∙◌}
use Rattle.shared_table.specs.Told.{Told}
use Rattle.shared_table.specs.Held.{Looping}
use Rattle.shared_table.specs.Coming.{IsLoopOf}
use Rattle.shared_table.specs.Onward.{ComesFrom}
use Rattle.shared_table.proofs.Onward.{comes_by, comes_from_itself}

pub handed_out : (name : ℕ) (a b : Looping) (told : Told) → IsLoopOf name a → a.desk.replies ≡ told ∷ b.desk.replies
    → b ≡ record a { desk = record a.desk { replies = b.desk.replies } } → IsLoopOf name b
handed_out name a b told came oldest rest = record {
  nodes = came.nodes;
  cluster = came.cluster;
  stamp = came.stamp;
  moves = suc came.moves;
  comes = (a, came.comes, inr (inl (record { told = told; oldest = oldest; rest = rest })));
}

pub by_handing_out : (a b : Looping) (told : Told) → a.desk.replies ≡ told ∷ b.desk.replies
    → b ≡ record a { desk = record a.desk { replies = b.desk.replies } } → ComesFrom a b
by_handing_out a b told oldest rest = comes_by a a b (comes_from_itself a) (inr (inl (record { told = told; oldest = oldest; rest = rest })))

-- there was none
pub by_nothing : (a b : Looping) → (a.desk.replies ≡ []) × (b.desk.replies ≡ [])
    → b ≡ record a { desk = record a.desk { replies = b.desk.replies } } → ComesFrom a b
by_nothing a b none rest = subst (ComesFrom a)
    (sym (rest ∙ ap (λ (rs : List Told). record a { desk = record a.desk { replies = rs } }) (none.1 ∙ sym none.0))) (comes_from_itself a)
