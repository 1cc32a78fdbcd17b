-- What all nodes tell of themselves is consistent.
use Rattle.std.proofs.Common.{◌≡◌, ℕ, Bool, true, false, List, [], map, refl, sym, ap, subst, ◌∙◌}
use Rattle.registry_model.specs.Table.{Table}
use Rattle.protocol_model.specs.Node.{opening_node}
use Rattle.protocol_model.specs.World.{Opening, in_world, in_cluster}
use Rattle.closings.specs.Alone.{Made, node_behind}
use Rattle.closings.specs.Guarded.{Vouches}
use Rattle.closings.proofs.Vouching.{vouched_ends_are_consistent}
use Rattle.node_log.specs.Seen.{seen_entry}
use Rattle.node_loop.specs.Held.{Written}
use Rattle.node_loop.specs.Said.{IsSaid}
use Rattle.node_loop.specs.Dealings.{Dealt, took, put}
use Rattle.node_loop.specs.Telling.{AllTell, ThreadsAreConsistent}

module _ (o : Opening) (logs : ℕ → Written) (tables : ℕ → Table) (dealt : ℕ → Dealt) (A : AllTell o logs tables dealt) where
  -- the steps of a node, and none of a stranger
  abbrev steps_at : (a : ℕ) (b : Bool) → in_world o a ≡ b → List Made
  steps_at a true known = (A.tell a known).course
  steps_at a false strange = []

  abbrev pub steps : ℕ → List Made
  steps a = steps_at a (in_world o a) refl

  logged_at : (a : ℕ) (b : Bool) (e : in_world o a ≡ b) → map (λ m. m.entry) (steps_at a b e) ≡ map seen_entry (logs a).entries
  logged_at a true known = (A.tell a known).logged
  logged_at a false strange = ap (map seen_entry) (sym (A.silent a strange))

  last_at : (a : ℕ) (b : Bool) (e : in_world o a ≡ b)
      → (node_behind (opening_node (in_cluster o) a) (steps_at a b e)).replica.table ≡ tables a
  last_at a true known =
      ap (λ (n : ℕ). (node_behind (opening_node (in_cluster o) n) (A.tell a known).course).replica.table) (sym (A.nodes a))
      ∙ (A.tell a known).last
  last_at a false strange = sym (A.bare a strange)

  vouches_at : (a : ℕ) (b : Bool) (e : in_world o a ≡ b) → b ≡ true
      → Vouches (IsSaid (in_world o)) o a (took (dealt a)) (put (dealt a)) (steps_at a b e)
  vouches_at a true known h =
      subst (λ (n : ℕ). Vouches (IsSaid (in_world o)) o n (took (dealt a)) (put (dealt a)) (A.tell a known).course) (A.nodes a)
      (A.tell a known).vouches
  vouches_at a false strange h = cc

  none_at : (a : ℕ) (b : Bool) (e : in_world o a ≡ b) → b ≡ false → steps_at a b e ≡ []
  none_at a true known h = cc
  none_at a false strange h = refl

pub threads_are_consistent : ThreadsAreConsistent
threads_are_consistent o logs tables dealt A pairs = record {
  course = steps o logs tables dealt A;
  logged = λ a. logged_at o logs tables dealt A a (in_world o a) refl;
  alone = vouched_ends_are_consistent (IsSaid (in_world o)) o (steps o logs tables dealt A) (λ a. took (dealt a)) (λ a. put (dealt a))
      (λ a known. vouches_at o logs tables dealt A a (in_world o a) refl known)
      (λ a strange. none_at o logs tables dealt A a (in_world o a) refl strange) pairs;
  last = λ a. last_at o logs tables dealt A a (in_world o a) refl;
}
