-- Links on which a node has sent, or from which a letter was taken.
use Rattle.std.proofs.Common.{ℕ, Bool, true, false, ◌==◌, ◌≡◌, ◌+◌, List, [], ◌∷◌, ◌++◌, refl, ap, ◌∙◌, arith}
use Rattle.std.specs.Prelude.{if◌then◌else◌, not, ◌&&◌}
use Rattle.std.specs.List.{list_any}
use Rattle.std.proofs.lemmas.Bool.{eq-eqb, ne_eqb, eqb-true}
use Rattle.registry_model.specs.Process.{Process, Nodes}
use Rattle.registry_model.specs.Registry.{Registry}
use Rattle.protocol_model.specs.Letter.{Letter}
use Rattle.protocol_model.specs.World.{Opening}
use Rattle.moves.proofs.Invariants.{Each}
use Rattle.replicas.proofs.Mail.{carries, is_applied}
use Rattle.replicas.proofs.Scenes.{count_of, Scene, AreStruck, AllDead}
use Rattle.replicas.proofs.BaseLetters.{Each-append, count_of-append, list_any-more}
use Rattle.replicas.proofs.Steps.{sent, took, by_link}

module _ (a : ℕ) (gone : Nodes) (new : ℕ → List Letter) (mail : ℕ → ℕ → List Letter) where
  -- to a node that hasn't gone the letters come behind those that are on their way
  pub sent-same : (y : ℕ) → gone y ≡ false → sent a gone new mail a y ≡ mail a y ++ new y
  sent-same y g = ap (λ (b : Bool). if b && not (gone y) then mail a y ++ new y else mail a y) (eq-eqb a a refl)
      ∙ ap (λ (b : Bool). if true && not b then mail a y ++ new y else mail a y) g

  -- another node's links stay
  pub sent-other : (x y : ℕ) → (x ≡ a → ⊥) → sent a gone new mail x y ≡ mail x y
  sent-other x y ne = ap (λ (b : Bool). if b && not (gone y) then mail x y ++ new y else mail x y) (ne_eqb x a ne)

  -- what stands of each letter before, and of each that is sent
  pub Each-sent : (P : Letter → Type 0) (x y : ℕ) → Each P (mail x y) → (x ≡ a → Each P (new y))
      → Each P (sent a gone new mail x y)
  Each-sent P x y old fresh = go (x == a) (not (gone y)) refl
    where
      go : (b c : Bool) → (x == a) ≡ b → Each P (if b && c then mail x y ++ new y else mail x y)
      go true true e = Each-append P (mail x y) (new y) old (fresh (eqb-true x a e))
      go true false e = old
      go false c e = old

  -- letters that fail a test change no count of those that pass
  pub count_of-sent : (test : Letter → Bool) (x y : ℕ) → count_of test (new y) ≡ 0
      → count_of test (sent a gone new mail x y) ≡ count_of test (mail x y)
  count_of-sent test x y none = go (x == a && not (gone y))
    where
      go : (b : Bool) → count_of test (if b then mail x y ++ new y else mail x y) ≡ count_of test (mail x y)
      go true = let h : count_of test (mail x y ++ new y) ≡ count_of test (mail x y) + count_of test (new y) =
          count_of-append test (mail x y) (new y) in omega arith
      go false = refl

  -- nor whether one passes
  pub list_any-sent : (test : Letter → Bool) (x y : ℕ) → list_any test (new y) ≡ false
      → list_any test (sent a gone new mail x y) ≡ list_any test (mail x y)
  list_any-sent test x y none = go (x == a && not (gone y))
    where
      go : (b : Bool) → list_any test (if b then mail x y ++ new y else mail x y) ≡ list_any test (mail x y)
      go true = list_any-more test (mail x y) (new y) none
      go false = refl

module _ (f a : ℕ) (rest : List Letter) (mail : ℕ → ℕ → List Letter) where
  -- what is left on the link
  pub took-same : took f a rest mail f a ≡ rest
  took-same = ap (λ (b : Bool). if b && (a == a) then rest else mail f a) (eq-eqb f f refl)
      ∙ ap (λ (b : Bool). if true && b then rest else mail f a) (eq-eqb a a refl)

  -- links from another node stay
  pub took-from : (x y : ℕ) → (x ≡ f → ⊥) → took f a rest mail x y ≡ mail x y
  took-from x y ne = ap (λ (b : Bool). if b && (y == a) then rest else mail x y) (ne_eqb x f ne)

  -- links to another node stay
  pub took-to : (x y : ℕ) → (y ≡ a → ⊥) → took f a rest mail x y ≡ mail x y
  took-to x y ne = ap (λ (b : Bool). if (x == f) && b then rest else mail x y) (ne_eqb y a ne) ∙ go (x == f)
    where
      go : (b : Bool) → (if b && false then rest else mail x y) ≡ mail x y
      go true = refl
      go false = refl

  -- what stands of each letter stands of those that are left
  pub Each-took : (P : ℕ → ℕ → Letter → Type 0) → (Each (P f a) (mail f a) → Each (P f a) rest) → (x y : ℕ)
      → Each (P x y) (mail x y) → Each (P x y) (took f a rest mail x y)
  Each-took P less x y = by_link f a (λ x y t. Each (P x y) (mail x y) → Each (P x y) (if t then rest else mail x y))
      less (λ x y e. e) x y

-- a letter that carries an operation out is no answer to one
pub carries_no_answer : (l : Letter) → carries l ≡ true → is_applied l ≡ false
carries_no_answer Letter.Applied e = cc
carries_no_answer _ e = refl

-- who is dead stays dead
pub AllDead-more : (r q : Registry) → ((p : Process) → r.dead p ≡ true → q.dead p ≡ true) → (ps : List Process)
    → AllDead r ps → AllDead q ps
AllDead-more r q more [] h = tt
AllDead-more r q more (p ∷ ps) h = (more p h.0, AllDead-more r q more ps h.1)

-- who is to be struck stays so, where who is dead stays dead
pub AreStruck-more : (o : Opening) (S T : Scene)
    → ((p : Process) → S.registry.dead p ≡ true → T.registry.dead p ≡ true) → (a : ℕ) (ps : List Process)
    → AreStruck o S a ps → AreStruck o T a ps
AreStruck-more o S T more a [] h = tt
AreStruck-more o S T more a (p ∷ ps) h = ((h.0.0, more p h.0.1), AreStruck-more o S T more a ps h.1)
