-- Ends at their places.
use Rattle.std.proofs.Common.{ℕ, Bool, true, false, ◌≡◌, ◌<◌, ◌∙◌, Some, None, List, length, get_or, map, ap, sym, refl}
use Rattle.std.proofs.lemmas.Option.{slice_get-map, slice_get_read}
use Rattle.std.specs.List.{slice_get}
use Rattle.std.specs.Option.{option_map}
use Rattle.std.specs.Prelude.{Option, nat_lt, if◌then◌else◌}
use Rattle.registry_model.specs.Table.{Table}
use Rattle.node_log.specs.declared.node_end.NodeEnd.{NodeEnd}
use Rattle.node_log.specs.Entries.{Logged}
use Rattle.replay.specs.Ends.{End, end_of, is_lesser}
use Rattle.replay.specs.Least.{IsChosen}

module _ {N M : Type 0} (contents : N → Table) (ends : List (NodeEnd N Logged M)) (k : ℕ) where
  pub end_at : (e : NodeEnd N Logged M) → k < length ends → e ≡ get_or ends k e
      → slice_get (map (end_of contents) ends) k ≡ Some (end_of contents e)
  end_at e l is = slice_get-map (end_of contents) ends k
      ∙ ap (option_map (end_of contents)) (slice_get_read ends (length ends) k e refl l is)

  some_item : {X Y : Type 0} (f : X → Y) (o : Option X) (y : Y) → option_map f o ≡ Some y → (x : X) × (o ≡ Some x) × (f x ≡ y)
  some_item f None y e = cc
  some_item {X} {Y} f (Some x) y e = (x, refl, some_one (f x) y e)
    where
      some_one : (a b : Y) → Some a ≡ Some b → a ≡ b
      some_one a b e = cc

  -- what is chosen of ends is chosen of what they are seen as
  pub chosen_end : (o r : Option ℕ) → IsChosen (λ e f. nat_lt e.log.node f.log.node) ends k o r
      → IsChosen is_lesser (map (end_of contents) ends) k o r
  chosen_end None r h = h
  chosen_end (Some j) r h = λ x y p q.
      let a = some_item (end_of contents) (slice_get ends k) x (sym (slice_get-map (end_of contents) ends k) ∙ p) in
      let b = some_item (end_of contents) (slice_get ends j) y (sym (slice_get-map (end_of contents) ends j) ∙ q) in
      h a.0 b.0 a.1 b.1
      ∙ ap (λ (e : End). if is_lesser e (end_of contents b.0) then Some k else Some j) a.2
      ∙ ap (λ (f : End). if is_lesser x f then Some k else Some j) b.2

pub ended_alone : (b : Bool) → b ≡ true → b ≡ false → ⊥
ended_alone b e f = cc

pub same_node : {N M : Type 0} (e f : NodeEnd N Logged M) → e ≡ f → e.log.node ≡ f.log.node
same_node {N} {M} e f is = ap (λ (x : NodeEnd N Logged M). x.log.node) is

pub same_length : {N M : Type 0} (e f : NodeEnd N Logged M) → e ≡ f → length e.log.entries ≡ length f.log.entries
same_length {N} {M} e f is = ap (λ (x : NodeEnd N Logged M). length x.log.entries) is
