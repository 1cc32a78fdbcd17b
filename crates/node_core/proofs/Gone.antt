-- Nodes of a world and one more of them, and the nodes that have left and one more.
use Rattle.std.proofs.Common.{ℕ, Bool, true, false, ◌==◌, ◌≡◌, ◌≤◌, List, [], ◌∷◌, sym, ◌∙◌, ap, refl, inl, inr, arith}
use Rattle.std.specs.Prelude.{◌&&◌, ◌||◌}
use Rattle.std.proofs.Math.Path.{fun_ext}
use Rattle.std.proofs.Math.Bool.{or-false, or-true}
use Rattle.std.proofs.lemmas.Bool.{cases_eq, eq-eqb, ne_eqb}
use Rattle.registry_model.specs.Process.{with_node}
use Rattle.term.specs.Nodes.{name_of}
use Rattle.term.specs.NodeSets.{set_of, with_older}
use Rattle.term.proofs.Older.{held, reached}
use Rattle.node_core.specs.CoreState.{AreOf, HaveLeft}

-- of two tests the first
first : (a b : Bool) → (a && b) ≡ true → a ≡ true
first true b e = refl
first false b e = e

-- a test comes out one way
pub one_way : (b : Bool) → b ≡ true → b ≡ false → ⊥
one_way b yes_ not_ = cc

-- more: nodes of the world, these and f
module _ (world some more : List ℕ) (f : ℕ)
    (are : (c : ℕ) → set_of more c ≡ (set_of world c && (set_of some c || (c == f)))) where
  -- they are of the world
  pub more_within : AreOf world more
  more_within c e = first (set_of world c) (set_of some c || (c == f)) (sym (are c) ∙ e)

  -- they are those of before and f
  pub more_is : AreOf world some → set_of world f ≡ true → set_of more ≡ with_node f (set_of some)
  more_is within of = fun_ext (λ c. are c ∙ elim (cases_eq c f) [
    | inl same ↦ rw (eq-eqb c f same, ap (set_of world) same ∙ of) (or-true (set_of some c))
    | inr ne ↦ rw (ne_eqb c f ne, or-false (set_of some c)) (both (set_of world c) (set_of some c) (within c))
  ])
    where
      both : (w t : Bool) → (t ≡ true → w ≡ true) → (w && t) ≡ t
      both true t e = refl
      both false true e = e refl
      both false false e = refl

-- who has started and hasn't left is of the world
pub stands : (world left : List ℕ) (c : ℕ) → HaveLeft world left → with_older world c ≡ true
    → with_older left c ≡ false → set_of world c ≡ true
stands world left c gone started here = go (set_of world c) refl
  where
    go : (b : Bool) → set_of world c ≡ b → b ≡ true
    go true e = refl
    go false e = absurd (one_way (with_older left c) (gone.older c started e) here)

-- of two nodes of one name that have started the older one isn't of the world
pub older_out : (world : List ℕ) (left : List ℕ) (c f : ℕ) → HaveLeft world left → with_older world f ≡ true
    → name_of f ≡ name_of c → c ≤ f → (c ≡ f → ⊥) → set_of world c ≡ false
older_out world left c f gone started named less other = go (set_of world c) refl
  where
    go : (b : Bool) → set_of world c ≡ b → b ≡ false
    go false e = refl
    go true e =
        let m = reached world f started in
        let same : c ≡ m.0 = gone.one c m.0 e m.1 (sym (m.2 ∙ named)) in
        absurd (other (let up = m.3 in omega (arith, same, up, less)))

-- f has started, and has left, too; more: all that have left then
module _ (world left more : List ℕ) (f : ℕ) (gone : HaveLeft world left) (started : with_older world f ≡ true)
    (are : (c : ℕ) → with_older more c ≡ (with_older world c && (with_older left c || with_older (f ∷ []) c))) where
  -- they are those of before and f: the older ones of its name had left
  pub told_is : with_older more ≡ with_node f (with_older left)
  told_is = fun_ext (λ c. are c ∙ elim (cases_eq c f) [
    | inl same ↦ rw (eq-eqb c f same, ap (with_older world) same ∙ started, ap (with_older (f ∷ [])) same ∙ itself)
        (or-true (with_older left c))
    | inr ne ↦ rw (ne_eqb c f ne) (go c ne (with_older world c) (with_older left c) (with_older (f ∷ []) c) refl refl refl)
  ])
    where
      itself : with_older (f ∷ []) f ≡ true
      itself = held (f ∷ []) f (ap (λ (b : Bool). b || false) (eq-eqb f f refl))

      go : (c : ℕ) → (c ≡ f → ⊥) → (w l o : Bool) → with_older world c ≡ w → with_older left c ≡ l
          → with_older (f ∷ []) c ≡ o → (w && (l || o)) ≡ l
      go c other true true o d e g = refl
      go c other true false false d e g = refl
      go c other true false true d e g = absurd (out (reached (f ∷ []) c g))
        where
          out : (m : ℕ) × (set_of (f ∷ []) m ≡ true) × (name_of m ≡ name_of c) × (c ≤ m) → ⊥
          out m = one_way (with_older left c) (gone.older c d (older_out world left c f gone started
              (ap name_of same ∙ m.2) (let up = m.3 in omega (arith, up, same)) other)) e
            where
              same : f ≡ m.0
              same = elim (cases_eq f m.0) [
                | inl is ↦ is
                | inr not_ ↦ absurd (one_way false (rw (ne_eqb f m.0 not_) at m.1) refl)
              ]
      go c other false true o d e g = absurd (one_way (with_older world c) (gone.started c e) d)
      go c other false false o d e g = refl

  -- with f and them all older ones have left
  pub left_too : HaveLeft world more
  left_too = record {
    one = gone.one;
    started = λ c e. first (with_older world c) (with_older left c || with_older (f ∷ []) c) (sym (are c) ∙ e);
    older = λ c w out. are c ∙ rw (w, gone.older c w out) refl;
  }
