-- The scene after a rule; and rules that leave the scene, or its mail, as it is.
use Rattle.std.proofs.Common.{ℕ, Bool, true, false, ◌==◌, ◌≡◌, Option, Some, None, List, [], ◌∷◌, ◌++◌, refl, sym, ap, ◌∙◌}
use Rattle.std.specs.Prelude.{if◌then◌else◌, not, ◌&&◌, fold, drop}
use Rattle.std.proofs.Math.Path.{fun_ext}
use Rattle.std.proofs.lemmas.List.{append-nil}
use Rattle.registry_model.specs.Process.{Process, Nodes, at}
use Rattle.registry_model.specs.Registry.{Replica}
use Rattle.registry_model.specs.History.{Standing, hold_at, after, standing_of}
use Rattle.registry_model.specs.Legal.{all_legal}
use Rattle.protocol_model.specs.Letter.{Letter}
use Rattle.protocol_model.specs.Node.{Node}
use Rattle.protocol_model.specs.Turn.{Turn, sent_to}
use Rattle.protocol_model.specs.World.{Opening, in_cluster, World, apply}
use Rattle.registry_model.proofs.Updates.{by_test}
use Rattle.moves.proofs.Rules.{Rule, Leaves, Taken, FrontTaken, takes, without_letter, turn_by, effect, closed_by}
use Rattle.registry_model.proofs.HistoryParts.{standing_of-append}
use Rattle.replicas.proofs.Scenes.{Doing, doing_of, struck_by, struck_of, is_mine, mine, Scene, scene_of}
use Rattle.replicas.proofs.BaseLetters.{mine-append, mine-other, is_silent, mine-silent}

-- f, but v at a, where v is what f has there
pub at-itself : {A : Type 0} (f : ℕ → A) (a : ℕ) (v : A) → v ≡ f a → at f a v ≡ f
at-itself {A} f a v e = fun_ext (by_test a (λ x t. (if t then v else f x) ≡ f x) e (λ x ne. refl))

-- a part of each node
at-map : {A B : Type 0} (g : A → B) (f : ℕ → A) (a : ℕ) (v : A) → (λ x. g (at f a v x)) ≡ at (λ x. g (f x)) a (g v)
at-map {A} {B} g f a v = fun_ext (λ x. go x (x == a))
  where
    go : (x : ℕ) (b : Bool) → g (if b then v else f x) ≡ (if b then g v else g (f x))
    go x true = refl
    go x false = refl

-- the oldest letter of the link from f to a is taken, and these are left
abbrev pub took : ℕ → ℕ → List Letter → (ℕ → ℕ → List Letter) → ℕ → ℕ → List Letter
took f a rest mail x y = if x == f && (y == a) then rest else mail x y

-- a sends to each node that hasn't gone
abbrev pub sent : ℕ → Nodes → (ℕ → List Letter) → (ℕ → ℕ → List Letter) → ℕ → ℕ → List Letter
sent a gone new mail x y = if x == a && not (gone y) then mail x y ++ new y else mail x y

-- where nothing is sent the links stay
pub sent-nothing : (a : ℕ) (gone : Nodes) (new : ℕ → List Letter) (mail : ℕ → ℕ → List Letter)
    → ((y : ℕ) → new y ≡ []) → sent a gone new mail ≡ mail
sent-nothing a gone new mail none = fun_ext (λ x. fun_ext (λ y. go x y (x == a && not (gone y))))
  where
    go : (x y : ℕ) (b : Bool) → (if b then mail x y ++ new y else mail x y) ≡ mail x y
    go x y true = ap (λ (ls : List Letter). mail x y ++ ls) (none y) ∙ append-nil (mail x y)
    go x y false = refl

-- what holds at a link, and at every other
pub by_link : (f a : ℕ) (P : ℕ → ℕ → Bool → Type 0) → P f a true → ((x y : ℕ) → P x y false) → (x y : ℕ)
    → P x y (x == f && (y == a))
by_link f a P here there x y = by_test f (λ x t. P x y (t && (y == a)))
    (by_test a (λ y t. P f y t) here (λ y ne. there f y) y) (λ x ne. there x y) x

-- the letters of a scene, where one of another kind is taken
pub mine-took : (f a : ℕ) (l : Letter) (rest : List Letter) (queue : ℕ → ℕ → List Letter) → queue f a ≡ l ∷ rest
    → (λ (x y : ℕ). mine (if x == f && (y == a) then drop 1 (queue x y) else queue x y))
    ≡ took f a (mine rest) (λ x y. mine (queue x y))
mine-took f a l rest queue e = fun_ext (λ x. fun_ext (λ y. by_link f a
    (λ x y t. mine (if t then drop 1 (queue x y) else queue x y) ≡ (if t then mine rest else mine (queue x y)))
    (ap (λ (ls : List Letter). mine (drop 1 ls)) e) (λ x y. refl) x y))

-- where the link's letters stay, all links do
pub took-other : (f a : ℕ) (rest : List Letter) (mail : ℕ → ℕ → List Letter) → mail f a ≡ rest
    → took f a rest mail ≡ mail
took-other f a rest mail e = fun_ext (λ x. fun_ext
    (λ y. by_link f a (λ x y t. (if t then rest else mail x y) ≡ mail x y) (sym e) (λ x y. refl) x y))

module _ (o : Opening) (a : ℕ) (w : World) where
  -- what the history comes to
  abbrev pub past_now : Standing
  past_now = standing_of (in_cluster o) w.history

  -- the scene after a turn, but for letters that are taken
  abbrev pub stepped : Turn → (ℕ → ℕ → List Letter) → Scene
  stepped u mail = record {
    registry = (fold after past_now u.entries).registry;
    hold = hold_at (fold after past_now u.entries);
    gone = w.links.closed;
    replica = at (λ c. (w.node c).replica) a u.node.replica;
    doing = at (λ c. doing_of (w.node c).current) a (doing_of u.node.current);
    struck = at (λ c. struck_by (w.node c).current ++ struck_of (w.node c).queue) a
        (struck_by u.node.current ++ struck_of u.node.queue);
    dead = at (λ c. (w.node c).watch.dead) a u.node.watch.dead;
    mail = mail;
  }

  -- a scene of these parts
  abbrev scene_by : Standing → (ℕ → Replica) → (ℕ → Doing) → (ℕ → List Process) → (ℕ → List ℕ) → (ℕ → ℕ → List Letter)
      → Scene
  scene_by s replica doing struck dead mail = record {
    registry = s.registry;
    hold = hold_at s;
    gone = w.links.closed;
    replica = replica;
    doing = doing;
    struck = struck;
    dead = dead;
    mail = mail;
  }

  same_parts : {s s2 : Standing} {r r2 : ℕ → Replica} {d d2 : ℕ → Doing} {k k2 : ℕ → List Process} {e e2 : ℕ → List ℕ}
      {m m2 : ℕ → ℕ → List Letter}
      → s ≡ s2 → r ≡ r2 → d ≡ d2 → k ≡ k2 → e ≡ e2 → m ≡ m2 → scene_by s r d k e m ≡ scene_by s2 r2 d2 k2 e2 m2
  same_parts {s} {s2} {r} {r2} {d} {d2} {k} {k2} {e} {e2} {m} {m2} es er ed ek ee em =
      ap (λ (x : Standing). scene_by x r d k e m) es ∙ ap (λ (x : ℕ → Replica). scene_by s2 x d k e m) er
      ∙ ap (λ (x : ℕ → Doing). scene_by s2 r2 x k e m) ed
      ∙ ap (λ (x : ℕ → List Process). scene_by s2 r2 d2 x e m) ek
      ∙ ap (λ (x : ℕ → List ℕ). scene_by s2 r2 d2 k2 x m) ee
      ∙ ap (λ (x : ℕ → ℕ → List Letter). scene_by s2 r2 d2 k2 e2 x) em

  mine-sent : (u : Turn) (queue : ℕ → ℕ → List Letter)
      → (λ (x y : ℕ). mine (if x == a && not (w.links.closed y) then queue x y ++ sent_to y u.sends else queue x y))
      ≡ sent a w.links.closed (λ y. mine (sent_to y u.sends)) (λ x y. mine (queue x y))
  mine-sent u queue = fun_ext (λ x. fun_ext (λ y. go x y (x == a && not (w.links.closed y))))
    where
      go : (x y : ℕ) (b : Bool) → mine (if b then queue x y ++ sent_to y u.sends else queue x y)
          ≡ (if b then mine (queue x y) ++ mine (sent_to y u.sends) else mine (queue x y))
      go x y true = mine-append (queue x y) (sent_to y u.sends)
      go x y false = refl

  -- the scene after a turn, with the letter taken before it
  pub scene_of-turn : (t : Option Taken) (u : Turn) → scene_of o (apply a u (without_letter o a t w))
      ≡ stepped u (sent a w.links.closed (λ y. mine (sent_to y u.sends))
      (λ x y. mine ((without_letter o a t w).links.queue x y)))
  scene_of-turn None u = same_parts (standing_of-append (in_cluster o) w.history u.entries)
      (at-map (λ (v : Node). v.replica) w.node a u.node) (at-map (λ (v : Node). doing_of v.current) w.node a u.node)
      (at-map (λ (v : Node). struck_by v.current ++ struck_of v.queue) w.node a u.node)
      (at-map (λ (v : Node). v.watch.dead) w.node a u.node)
      (mine-sent u w.links.queue)
  scene_of-turn (Some t) u = same_parts (standing_of-append (in_cluster o) w.history u.entries)
      (at-map (λ (v : Node). v.replica) w.node a u.node) (at-map (λ (v : Node). doing_of v.current) w.node a u.node)
      (at-map (λ (v : Node). struck_by v.current ++ struck_of v.queue) w.node a u.node)
      (at-map (λ (v : Node). v.watch.dead) w.node a u.node)
      (mine-sent u (without_letter o a (Some t) w).links.queue)

  -- the rule is the last step of its node
  abbrev pub is_leaving : Rule → Bool
  is_leaving Leaves = true
  is_leaving _ = false

  closed_by-other : (r : Rule) (v : World) → is_leaving r ≡ false → closed_by o a r v ≡ v
  closed_by-other Leaves v e = cc
  closed_by-other _ v e = refl

  -- the scene after a rule
  pub scene_of-effect : (r : Rule) → is_leaving r ≡ false → scene_of o (effect o a r w)
      ≡ stepped (turn_by o a w r) (sent a w.links.closed (λ y. mine (sent_to y (turn_by o a w r).sends))
      (λ x y. mine ((without_letter o a (takes o a r) w).links.queue x y)))
  scene_of-effect r e = ap (scene_of o) (closed_by-other r
      (apply a (turn_by o a w r) (without_letter o a (takes o a r) w)) e)
      ∙ scene_of-turn (takes o a r) (turn_by o a w r)

  -- the letters of a world's scene
  abbrev pub mail_of : World → ℕ → ℕ → List Letter
  mail_of v x y = mine (v.links.queue x y)

  -- the letter that is taken, if there is one, is of another kind
  abbrev pub is_foreign : Option Taken → Bool
  is_foreign None = true
  is_foreign (Some t) = not (is_mine t.letter)

  mine-foreign : (t : Option Taken) → is_foreign t ≡ true → FrontTaken o a w t
      → mail_of (without_letter o a t w) ≡ mail_of w
  mine-foreign None e f = refl
  mine-foreign (Some t) e f = mine-took t.sender a t.letter f.1.0 w.links.queue f.1.1
      ∙ took-other t.sender a (mine f.1.0) (λ x y. mine (w.links.queue x y))
      (ap mine f.1.1 ∙ mine-other t.letter f.1.0 (go (is_mine t.letter) e))
    where
      go : (b : Bool) → not b ≡ true → b ≡ false
      go true e = cc
      go false e = refl

  -- a rule that sends and takes other letters alone leaves the mail as it is
  pub scene_of-silent : (r : Rule) → is_leaving r ≡ false → is_foreign (takes o a r) ≡ true
      → FrontTaken o a w (takes o a r)
      → is_silent (turn_by o a w r).sends ≡ true
      → scene_of o (effect o a r w) ≡ stepped (turn_by o a w r) (λ x y. mine (w.links.queue x y))
  scene_of-silent r leaving foreign front silent = scene_of-effect r leaving
      ∙ ap (stepped (turn_by o a w r)) (sent-nothing a w.links.closed (λ y. mine (sent_to y (turn_by o a w r).sends))
      (λ x y. mine ((without_letter o a (takes o a r) w).links.queue x y))
      (λ y. mine-silent (turn_by o a w r).sends y silent)
      ∙ mine-foreign (takes o a r) foreign front)

  -- a turn that the scene doesn't show
  pub record QuietTurn (u : Turn) : Type 0 where
    pub legal : all_legal past_now u.entries ≡ true
    pub standing : fold after past_now u.entries ≡ past_now
    pub silent : is_silent u.sends ≡ true
    pub replica : u.node.replica ≡ (w.node a).replica
    pub doing : doing_of u.node.current ≡ doing_of (w.node a).current
    pub struck : struck_by u.node.current ++ struck_of u.node.queue
        ≡ struck_by (w.node a).current ++ struck_of (w.node a).queue
    pub dead : u.node.watch.dead ≡ (w.node a).watch.dead

  stepped-quiet : (u : Turn) → QuietTurn u → stepped u (λ x y. mine (w.links.queue x y)) ≡ scene_of o w
  stepped-quiet u q = same_parts q.standing (at-itself (λ c. (w.node c).replica) a u.node.replica q.replica)
      (at-itself (λ c. doing_of (w.node c).current) a (doing_of u.node.current) q.doing)
      (at-itself (λ c. struck_by (w.node c).current ++ struck_of (w.node c).queue) a
      (struck_by u.node.current ++ struck_of u.node.queue) q.struck)
      (at-itself (λ c. (w.node c).watch.dead) a u.node.watch.dead q.dead)
      refl

  -- a rule with such a turn leaves the scene as it is
  pub scene_of-quiet : (r : Rule) → is_leaving r ≡ false → is_foreign (takes o a r) ≡ true
      → FrontTaken o a w (takes o a r)
      → QuietTurn (turn_by o a w r) → scene_of o (effect o a r w) ≡ scene_of o w
  scene_of-quiet r leaving foreign front q =
      scene_of-silent r leaving foreign front q.silent ∙ stepped-quiet (turn_by o a w r) q

  -- the history after a rule, and what it comes to
  pub effect-history : (r : Rule) → (effect o a r w).history ≡ w.history ++ (turn_by o a w r).entries
  effect-history Leaves = refl
  effect-history _ = refl

  -- and what it comes to
  pub standing_of-effect : (r : Rule) → standing_of (in_cluster o) (effect o a r w).history
      ≡ fold after past_now (turn_by o a w r).entries
  standing_of-effect r = ap (standing_of (in_cluster o)) (effect-history r)
      ∙ standing_of-append (in_cluster o) w.history (turn_by o a w r).entries
