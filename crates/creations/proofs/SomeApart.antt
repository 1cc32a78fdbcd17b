-- Nodes of a world that never start stand apart, where no event is theirs.
use mathlib.Core.Logic.{inl, inr}
use Rattle.std.proofs.Common.{ℕ, Bool, true, false, ◌==◌, ◌≡◌, List, [], ◌∷◌, refl, ap, ◌∙◌}
use Rattle.std.specs.Prelude.{Option, Some, None, is_none, not, ◌||◌, if◌then◌else◌, All, filter}
use Rattle.std.proofs.lemmas.Bool.{eqb-true, and_parts, false_from_ne_true}
use Rattle.std.proofs.lemmas.List.Elements.{All-nil}
use Rattle.registry_model.specs.Process.{Nodes, nobody}
use Rattle.registry_model.specs.Table.{without}
use Rattle.protocol_model.specs.Node.{opening_node}
use Rattle.protocol_model.specs.Event.{Refusal}
use Rattle.protocol_model.specs.Turn.{begun}
use Rattle.protocol_model.specs.World.{Opening, in_world, in_cluster, World, left, WorldEvent, place, other, opening_world, refusal, accepted, happens, run}
use Rattle.creations.specs.SomeStarted.{is_of_started, MayStart}
use Rattle.creations.proofs.Inside.{IsOwnedIn, IsGrantIn, IsCallIn, IsLetterIn, IsSentIn, IsEntryIn, IsInside}
use Rattle.creations.proofs.Apart.{Apart, accepted_apart, unrefused_by}
use Rattle.creations.proofs.Growing.{left_by}

module _ (o : Opening) (started : Nodes) where
  -- who starts, and all that aren't of the world
  abbrev pub may_move : Nodes
  may_move n = started n || not (in_world o n)

  pub starts_moves : (n : ℕ) → started n ≡ true → may_move n ≡ true
  starts_moves n e = ap (λ (b : Bool). b || not (in_world o n)) e

  pub never : (n : ℕ) → may_move n ≡ false → (started n ≡ false) × (in_world o n ≡ true)
  never n e = parts (started n) (in_world o n) e
    where
      parts : (b c : Bool) → (b || not c) ≡ false → (b ≡ false) × (c ≡ true)
      parts false true q = (refl, refl)
      parts false false q = cc
      parts true c q = cc

  pub never_moves : (n : ℕ) → started n ≡ false → in_world o n ≡ true → may_move n ≡ false
  never_moves n e i = ap (λ (b : Bool). b || not (in_world o n)) e ∙ ap not i

  pub moves_starts : (n : ℕ) → may_move n ≡ true → in_world o n ≡ true → started n ≡ true
  moves_starts n e i = parts (started n) (in_world o n) e i
    where
      parts : (b c : Bool) → (b || not c) ≡ true → c ≡ true → b ≡ true
      parts true c q i = refl
      parts false true q i = cc
      parts false false q i = cc

  -- What holds of their worlds
  pub record Stands (w : World) : Type 0 where
    pub apart : Apart o may_move w
    pub inside : (d : ℕ) → left w d ≡ true → in_world o d ≡ true

  module _ (M : MayStart o started) where
    pub least_moves : may_move 0 ≡ true
    least_moves = go (in_world o 0) refl
      where
        either : (b : Bool) → (b || true) ≡ true
        either true = refl
        either false = refl

        go : (b : Bool) → in_world o 0 ≡ b → may_move 0 ≡ true
        go true i = starts_moves 0 (M.least i)
        go false i = ap (λ (b : Bool). started 0 || not b) i ∙ either (started 0)

    -- who never starts opens lone
    pub never_joined : (n : ℕ) → may_move n ≡ false → in_cluster o n ≡ false
    never_joined n e = false_from_ne_true (in_cluster o n) (λ i. cc (M.joined n i, (never n e).0))

    -- a node at the opening knows of such alone as start
    opens_inside : (n : ℕ) → may_move n ≡ true → IsInside may_move (begun (opening_node (in_cluster o) n))
    opens_inside n moves = record {
      members = λ c e. go (in_cluster o n) c (and_parts _ true e).0;
      told = λ c e. cc;
      disjoint = λ c e. refl;
      table = by (in_cluster o n);
      grants = All-nil (IsGrantIn may_move);
      queue = tt;
      current = tt;
      called = All-nil (IsCallIn may_move);
      sent = All-nil (IsSentIn may_move);
      entered = All-nil (IsEntryIn may_move);
    }
      where
        go : (b : Bool) (c : ℕ) → (if b then in_cluster o c else c == n) ≡ true → may_move c ≡ true
        go true c e = starts_moves c (M.joined c e)
        go false c e = ap may_move (eqb-true c n e) ∙ moves

        by : (b : Bool) → All (IsOwnedIn may_move) (without nobody (if b then [] else []))
        by true = All-nil (IsOwnedIn may_move)
        by false = All-nil (IsOwnedIn may_move)

    pub opens : Stands (opening_world o)
    opens = record {
      apart = record {
        node = λ n e. refl;
        silent = λ n t e. refl;
        stays = λ n e. refl;
        told = λ f n e. refl;
        inside = opens_inside;
        mail = λ f t p q. All-nil (IsLetterIn may_move);
      };
      inside = λ d e. cc;
    }

    happens_stands : (w : World) (e : WorldEvent) → is_of_started o started e ≡ true → Stands w → Stands (happens o w e)
    happens_stands w e is B = go (refusal o w e) refl
      where
        is_inside : (b c : Bool) → (not b || not c) ≡ false → b ≡ true
        is_inside true c q = refl
        is_inside false c q = cc

        go : (r : Option Refusal) → refusal o w e ≡ r → Stands (if is_none r then accepted o w e else w)
        go None q = record {
          apart = accepted_apart o may_move w least_moves B.apart e
              (starts_moves (place e) (and_parts (started (place e)) (started (other e)) is).0)
              (starts_moves (other e) (and_parts (started (place e)) (started (other e)) is).1) q;
          inside = λ d l. elim (left_by o w e d l) [
            | inl old ↦ B.inside d old
            | inr same ↦ ap (in_world o) same
                ∙ is_inside (in_world o (place e)) (in_world o (other e)) (unrefused_by o w e q).0
          ];
        }
        go (Some x) q = B

    pub run_stands : (es : List WorldEvent) (w : World) → Stands w → Stands (run o w (filter (is_of_started o started) es))
    run_stands [] w B = B
    run_stands (e ∷ es) w B = go (is_of_started o started e) refl (λ v S. run_stands es v S)
      where
        go : (b : Bool) → is_of_started o started e ≡ b
            → ((v : World) → Stands v → Stands (run o v (filter (is_of_started o started) es)))
            → Stands (run o w (if b then e ∷ filter (is_of_started o started) es else filter (is_of_started o started) es))
        go true q rest = rest (happens o w e) (happens_stands w e q B)
        go false q rest = rest w B

    pub always_stands : (es : List WorldEvent) → Stands (run o (opening_world o) (filter (is_of_started o started) es))
    always_stands es = run_stands es (opening_world o) opens
