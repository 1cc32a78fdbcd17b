-- The rules that read a letter of an operation, or drop a letter.
use Rattle.std.proofs.Common.{ℕ, Bool, true, false, ◌==◌, ◌≡◌, ◌+◌, Option, List, [], ◌∷◌, ◌++◌, refl, sym, ap, ◌∙◌, subst, arith}
use Rattle.std.specs.Prelude.{if◌then◌else◌, not, ◌||◌, fold}
use Rattle.std.proofs.Math.Path.{fun_ext}
use Rattle.std.proofs.lemmas.Bool.{eq-eqb}
use Rattle.std.proofs.lemmas.List.{append-nil}
use Rattle.registry_model.specs.Process.{Nodes, at}
use Rattle.registry_model.specs.Table.{Table, Change}
use Rattle.registry_model.specs.Call.{Reply}
use Rattle.registry_model.specs.History.{Entry, hold_at, after}
use Rattle.registry_model.specs.Legal.{IsLegal}
use Rattle.registry_model.specs.Settlement.{Fate, Settled}
use Rattle.protocol_model.specs.Letter.{Letter}
use Rattle.protocol_model.specs.Node.{Op, Current}
use Rattle.protocol_model.specs.Turn.{Turn, begun, Send, sent_to}
use Rattle.protocol_model.specs.World.{Opening, in_cluster, World}
use Rattle.moves.proofs.Sends.{sent_to-one}
use Rattle.moves.proofs.Rules.{Rule, Writes, IsAdmitted, IsWelcomed, CountsApplied, CountsDown, Ignores, Drops, May, awaits, takes, is_joining_by, is_awaited, without_letter, turn_by, effect}
use Rattle.moves.proofs.Invariants.{Each, is_welcome, Proper, Exclusive, JoinsKnown}
use Rattle.replicas.proofs.Mail.{carries, is_applied, carried}
use Rattle.replicas.proofs.Scenes.{Carries, doing_of, awaits_node, struck_by, struck_of, is_mine, mine, one_if, count_of, Scene, scene_of, Runs, Kept}
use Rattle.replicas.proofs.BaseLetters.{mine-same}
use Rattle.replicas.proofs.Steps.{at-itself, sent, sent-nothing, took, mine-took, stepped, mail_of, scene_of-effect, scene_of-silent, scene_of-quiet}
use Rattle.replicas.proofs.Carrying.{carried_scene, Kept-carried, dropped_scene, Kept-dropped}
use Rattle.replicas.proofs.Counting.{counted_scene, Kept-counted, less_scene, Kept-less}
use Rattle.replicas.proofs.Bridge.{standing, groups}
use Rattle.replicas.proofs.Known.{Known}
use Rattle.replicas.proofs.Deciding.{same_scene}

-- a letter that carries an operation out is of the scene
carries_mine : (l : Letter) → carries l ≡ true → is_mine l ≡ true
carries_mine l e = ap (λ (b : Bool). b || is_applied l) e

module _ (o : Opening) (w : World) (P : Proper o w) (X : Exclusive o w) (J : JoinsKnown o w) (I : Known o w)
    (a : ℕ) where
  abbrev S : Scene
  S = scene_of o w

  -- a history with no entries more
  pub same_history : (r : Rule) → (effect o a r w).history ≡ w.history ++ []
      → IsLegal (in_cluster o) (effect o a r w).history
  same_history r e = subst (IsLegal (in_cluster o)) (sym (e ∙ append-nil w.history)) I.legal

  module _ (f : ℕ) (l : Letter) (rest : List Letter) (front : w.links.queue f a ≡ l ∷ rest) where
    front_mine : is_mine l ≡ true → S.mail f a ≡ l ∷ mine rest
    front_mine i = ap mine front ∙ mine-same l rest i

    -- a turn that carries the operation of the letter out
    Kept-turn : (up : Runs o S a) (is : carries l ≡ true) (u : Turn) → u.entries ≡ []
        → u.node.replica ≡ carried a l (w.node a).replica
        → doing_of u.node.current ≡ doing_of (w.node a).current
        → struck_by u.node.current ++ struck_of u.node.queue
        ≡ struck_by (w.node a).current ++ struck_of (w.node a).queue
        → u.node.watch.dead ≡ (w.node a).watch.dead → u.sends ≡ record { to = f; letter = Letter.Applied } ∷ []
        → Kept o (stepped o a w u (sent a w.links.closed (λ y. mine (sent_to y u.sends))
        (took f a (mine rest) S.mail)))
    Kept-turn up is u entries v d k n sends =
        subst (Kept o) (sym same) (Kept-carried o S I.kept (groups o w P X J I) f a l (mine rest)
        (front_mine (carries_mine l is)) up is)
      where
        answers : (y : ℕ) → mine (sent_to y u.sends) ≡ (if f == y then Letter.Applied ∷ [] else [])
        answers y = ap (λ (ss : List Send). mine (sent_to y ss)) sends ∙ ap mine (sent_to-one y f Letter.Applied)
            ∙ go (f == y)
          where
            go : (b : Bool) → mine (if b then Letter.Applied ∷ [] else []) ≡ (if b then Letter.Applied ∷ [] else [])
            go true = refl
            go false = refl

        same : stepped o a w u (sent a w.links.closed (λ y. mine (sent_to y u.sends)) (took f a (mine rest) S.mail))
            ≡ carried_scene o S I.kept (groups o w P X J I) f a l (mine rest) (front_mine (carries_mine l is))
        same = same_scene _ _
            (ap (λ (es : List Entry). (fold after (standing o w P X J I) es).registry) entries)
            (ap (λ (es : List Entry). hold_at (fold after (standing o w P X J I) es)) entries) refl
            (ap (at S.replica a) v) (at-itself S.doing a (doing_of u.node.current) d)
            (at-itself S.struck a (struck_by u.node.current ++ struck_of u.node.queue) k)
            (at-itself S.dead a u.node.watch.dead n)
            (ap (λ (new : ℕ → List Letter). sent a w.links.closed new (took f a (mine rest) S.mail))
            (fun_ext answers))

  -- a write is carried out
  pub Known-wrote : (f : ℕ) (change : Change) → May o a w (Writes f change) → Known o (effect o a (Writes f change) w)
  Known-wrote f change m = record {
    legal = same_history (Writes f change) refl;
    kept = subst (Kept o) (sym (scene_of-effect o a w (Writes f change) refl
        ∙ ap (λ (mail : ℕ → ℕ → List Letter). stepped o a w (turn_by o a w (Writes f change))
        (sent a w.links.closed (λ y. mine (sent_to y (turn_by o a w (Writes f change)).sends)) mail))
        (mine-took f a (Letter.Apply change) m.front.1.0 w.links.queue m.front.1.1)))
        (Kept-turn f (Letter.Apply change) m.front.1.0 m.front.1.1 (m.inside, m.running) refl
        (turn_by o a w (Writes f change)) refl refl refl refl refl refl);
  }

  -- an admission is carried out
  pub Known-wrote_admission : (f j : ℕ) (settled : Settled) → May o a w (IsAdmitted f j settled)
      → Known o (effect o a (IsAdmitted f j settled) w)
  Known-wrote_admission f j settled m = record {
    legal = same_history (IsAdmitted f j settled) refl;
    kept = subst (Kept o) (sym (scene_of-effect o a w (IsAdmitted f j settled) refl
        ∙ ap (λ (mail : ℕ → ℕ → List Letter). stepped o a w (turn_by o a w (IsAdmitted f j settled))
        (sent a w.links.closed (λ y. mine (sent_to y (turn_by o a w (IsAdmitted f j settled)).sends)) mail))
        (mine-took f a (Letter.Admit j settled) m.front.1.0 w.links.queue m.front.1.1)))
        (Kept-turn f (Letter.Admit j settled) m.front.1.0 m.front.1.1 (m.inside, m.running) refl
        (turn_by o a w (IsAdmitted f j settled)) refl refl refl refl refl refl);
  }

  -- a welcome is carried out
  pub Known-welcomed : (f k : ℕ) (members : Nodes) (pairs : Table) (told : Nodes) (fate : Fate)
      → May o a w (IsWelcomed f k members pairs told fate)
      → Known o (effect o a (IsWelcomed f k members pairs told fate) w)
  Known-welcomed f k members pairs told fate m = record {
    legal = same_history (IsWelcomed f k members pairs told fate) refl;
    kept = subst (Kept o) (sym (scene_of-effect o a w (IsWelcomed f k members pairs told fate) refl
        ∙ ap (λ (mail : ℕ → ℕ → List Letter). stepped o a w (turn_by o a w (IsWelcomed f k members pairs told fate))
        (sent a w.links.closed (λ y. mine (sent_to y (turn_by o a w (IsWelcomed f k members pairs told fate)).sends))
        mail))
        (mine-took f a (Letter.Welcome members pairs told fate) m.front.1.0 w.links.queue m.front.1.1)))
        (Kept-turn f (Letter.Welcome members pairs told fate) m.front.1.0 m.front.1.1 (m.inside, m.running) refl
        (turn_by o a w (IsWelcomed f k members pairs told fate)) refl refl
        (sym (ap doing_of m.tested.1))
        (sym (ap (λ (c : Current). struck_by c ++ struck_of (w.node a).queue) m.tested.1)) refl refl);
  }

  -- an answer is counted
  pub Known-counted : (f : ℕ) (op : Op) (asked awaited : Nodes) (reply : Option Reply)
      → May o a w (CountsApplied f op asked awaited reply)
      → Known o (effect o a (CountsApplied f op asked awaited reply) w)
  Known-counted f op asked awaited reply m = record {
    legal = same_history (CountsApplied f op asked awaited reply) refl;
    kept = subst (Kept o) (sym (scene_of-effect o a w (CountsApplied f op asked awaited reply) refl
        ∙ same_scene (stepped o a w (turn_by o a w (CountsApplied f op asked awaited reply))
        (sent a w.links.closed (λ y. [])
        (mail_of o a w (without_letter o a (takes o a (CountsApplied f op asked awaited reply)) w))))
        (counted_scene o S I.kept (groups o w P X J I) a op awaited reply at_it f (mine m.front.1.0)
        (front_mine f Letter.Applied m.front.1.0 m.front.1.1 refl) m.tested.2)
        refl refl refl (at-itself S.replica a (w.node a).replica refl) refl
        (at-itself S.struck a (struck_by (Current.Writing op asked (at awaited f false) reply) ++ struck_of
        (w.node a).queue) (sym (ap (λ (c : Current). struck_by c ++ struck_of (w.node a).queue) m.tested.1)))
        (at-itself S.dead a (w.node a).watch.dead refl)
        (sent-nothing a w.links.closed (λ y. [])
        (mail_of o a w (without_letter o a (takes o a (CountsApplied f op asked awaited reply)) w)) (λ y. refl)
        ∙ mine-took f a Letter.Applied m.front.1.0 w.links.queue m.front.1.1)))
        (Kept-counted o S I.kept (groups o w P X J I) a op awaited reply at_it f (mine m.front.1.0)
        (front_mine f Letter.Applied m.front.1.0 m.front.1.1 refl) m.tested.2);
  }
    where
      at_it : doing_of (w.node a).current ≡ Carries op awaited reply
      at_it = ap doing_of m.tested.1

  -- a departure is counted
  pub Known-less : (d : ℕ) (op : Op) (asked awaited : Nodes) (reply : Option Reply)
      → May o a w (CountsDown d op asked awaited reply)
      → Known o (effect o a (CountsDown d op asked awaited reply) w)
  Known-less d op asked awaited reply m = record {
    legal = same_history (CountsDown d op asked awaited reply) refl;
    kept = subst (Kept o) (sym (scene_of-silent o a w (CountsDown d op asked awaited reply) refl refl tt refl
        ∙ same_scene (stepped o a w (turn_by o a w (CountsDown d op asked awaited reply)) S.mail)
        (less_scene o S I.kept (groups o w P X J I) a op awaited reply (ap doing_of m.tested.1) d)
        refl refl refl (at-itself S.replica a (w.node a).replica refl) refl
        (at-itself S.struck a (struck_by (Current.Writing op asked (at awaited d false) reply) ++ struck_of
        (w.node a).queue) (sym (ap (λ (c : Current). struck_by c ++ struck_of (w.node a).queue) m.tested.1)))
        (at-itself S.dead a (w.node a).watch.dead refl) refl))
        (Kept-less o S I.kept (groups o w P X J I) a op awaited reply (ap doing_of m.tested.1) d
        (P.told_left a d m.running m.tested.0));
  }

  -- what stands of each letter of a link stands of those behind the oldest
  behind_oldest : (f : ℕ) (l : Letter) (rest : List Letter) → w.links.queue f a ≡ l ∷ rest → (Q : Letter → Type 0)
      → Each Q (S.mail f a) → Each Q (mine rest)
  behind_oldest f l rest front Q e = go (is_mine l) (subst (λ (ls : List Letter). Each Q (mine ls)) front e)
    where
      go : (b : Bool) → Each Q (if b then l ∷ mine rest else mine rest) → Each Q (mine rest)
      go true e = e.1
      go false e = e

  -- a letter from a node that doesn't run is dropped
  Kept-unread : (f : ℕ) (l : Letter) (rest : List Letter) (front : w.links.queue f a ≡ l ∷ rest)
      → w.links.closed f ≡ true
      → Kept o (stepped o a w (begun (w.node a)) (sent a w.links.closed (λ y. []) (took f a (mine rest) S.mail)))
  Kept-unread f l rest front left = subst (Kept o)
      (sym (same_scene (stepped o a w (begun (w.node a))
      (sent a w.links.closed (λ y. []) (took f a (mine rest) S.mail)))
      (dropped_scene o S I.kept (groups o w P X J I) f a (mine rest)) refl refl refl
      (at-itself S.replica a (w.node a).replica refl)
      (at-itself S.doing a (doing_of (w.node a).current) refl)
      (at-itself S.struck a (struck_by (w.node a).current ++ struck_of (w.node a).queue) refl)
      (at-itself S.dead a (w.node a).watch.dead refl)
      (sent-nothing a w.links.closed (λ y. []) (took f a (mine rest) S.mail) (λ y. refl))))
      (Kept-dropped o S I.kept (groups o w P X J I) f a (mine rest) (λ u. absurd (cc (u.1, left)))
      (behind_oldest f l rest front))

  -- a letter from a node that is told to have left
  pub Known-dropped : (f : ℕ) (l : Letter) → May o a w (Drops f l) → Known o (effect o a (Drops f l) w)
  Known-dropped f l m = record {
    legal = same_history (Drops f l) refl;
    kept = subst (Kept o) (sym (scene_of-effect o a w (Drops f l) refl
        ∙ ap (λ (mail : ℕ → ℕ → List Letter). stepped o a w (begun (w.node a)) (sent a w.links.closed (λ y. []) mail))
        (mine-took f a l m.front.1.0 w.links.queue m.front.1.1)))
        (Kept-unread f l m.front.1.0 m.front.1.1 (P.told_left a f m.running m.tested.0));
  }

  -- a letter from a node that runs is awaited, if it is of the scene
  unawaited : (f : ℕ) (l : Letter) (rest : List Letter) → w.links.queue f a ≡ l ∷ rest → Runs o S f → Runs o S a
      → awaits a (w.node a) f l ≡ false → is_mine l ≡ false
  unawaited f (Letter.Apply change) rest front uf ua e = cc
  unawaited f (Letter.Admit j settled) rest front uf ua e = cc
  unawaited f (Letter.Welcome members pairs told fate) rest front uf ua e =
      let x : (k : ℕ) × ((w.node a).current ≡ Current.Joining k f) =
      (subst (Each (λ l. is_welcome l ≡ true → (k : ℕ) × ((w.node a).current ≡ Current.Joining k f))) front
      (J.welcome f a ua)).0 refl in
      let y : is_joining_by f (w.node a).current ≡ true = ap (is_joining_by f) x.1 ∙ eq-eqb f f refl in
      cc (y, e)
  unawaited f Letter.Applied rest front uf ua e =
      let x : count_of carries (S.mail a f) + count_of is_applied (S.mail f a)
      ≡ one_if (awaits_node (doing_of (w.node a).current) f) = I.kept.sessions a f ua uf in
      let y : count_of is_applied (S.mail f a) ≡ 1 + count_of is_applied (mine rest) =
      ap (count_of is_applied) (front_mine f Letter.Applied rest front refl) in
      let z : one_if (awaits_node (doing_of (w.node a).current) f) ≡ 0 = ap one_if (same (w.node a).current ∙ e) in
      absurd (omega arith)
    where
      same : (c : Current) → awaits_node (doing_of c) f ≡ is_awaited f c
      same (Current.Writing op asked awaited reply) = refl
      same _ = refl
  unawaited f _ rest front uf ua e = refl

  -- a letter that isn't awaited
  pub Known-ignored : (f : ℕ) (l : Letter) → May o a w (Ignores f l) → Known o (effect o a (Ignores f l) w)
  Known-ignored f l m = record { legal = same_history (Ignores f l) refl; kept = go (w.links.closed f) refl }
    where
      go : (b : Bool) → w.links.closed f ≡ b → Kept o (scene_of o (effect o a (Ignores f l) w))
      go true e = subst (Kept o) (sym (scene_of-effect o a w (Ignores f l) refl
          ∙ ap (λ (mail : ℕ → ℕ → List Letter). stepped o a w (begun (w.node a))
          (sent a w.links.closed (λ y. []) mail)) (mine-took f a l m.front.1.0 w.links.queue m.front.1.1)))
          (Kept-unread f l m.front.1.0 m.front.1.1 e)
      go false e = subst (Kept o) (sym (scene_of-quiet o a w (Ignores f l) refl
          (ap not (unawaited f l m.front.1.0 m.front.1.1 (m.front.0, e) (m.inside, m.running) m.tested.1)) m.front
          (record {
            legal = refl;
            standing = refl;
            silent = refl;
            replica = refl;
            doing = refl;
            struck = refl;
            dead =
                refl;
          }))) I.kept
