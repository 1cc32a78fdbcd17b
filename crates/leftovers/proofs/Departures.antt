-- Each running node was told of each node that has left, and has no grant of its processes, or `Down` is on its way.
use mathlib.Core.Logic.{◌⊎◌}
use Rattle.std.proofs.Common.{ℕ, Bool, true, false, ◌==◌, ◌≡◌, Option, Some, None, List, [], ◌∷◌, ◌++◌, refl, sym, ap, ◌∙◌, subst, inl, inr}
use Rattle.std.specs.Prelude.{not, ◌&&◌, ◌||◌, nat_lt, if◌then◌else◌}
use Rattle.std.specs.List.{list_any}
use Rattle.std.proofs.lemmas.Bool.{cases_eq, eq-eqb, ne_eqb, eqb-true}
use Rattle.registry_model.specs.Process.{Process, Nodes, at}
use Rattle.registry_model.specs.Registry.{Replica}
use Rattle.registry_model.specs.Settlement.{Settled}
use Rattle.protocol_model.specs.Letter.{Id, Letter, is_down}
use Rattle.protocol_model.specs.Links.{Links, posted}
use Rattle.protocol_model.specs.LockTable.{Locks, is_free_for, grant, drop_node}
use Rattle.protocol_model.specs.Node.{Node}
use Rattle.protocol_model.specs.Turn.{sent_to}
use Rattle.protocol_model.specs.Reading.{with_member, admitted}
use Rattle.protocol_model.specs.World.{Opening, in_world, World, left, opening_world}
use Rattle.registry_model.proofs.Updates.{by_test, at_same, at_other}
use Rattle.headline.proofs.Rules
use Rattle.headline.proofs.Rules.{Rule, Taken, FrontTaken}
use Rattle.headline.proofs.Indices.{both}
use Rattle.headline.proofs.Sends.{sent_to-all}
use Rattle.headline.proofs.Invariants.{IsUp}
use Rattle.headline.proofs.Base.{popped_queue, popped, after_turn, is_leave, effect-turn, letters_from, taken_first, popped-other}
use Rattle.headline.proofs.Serving.{front_named}
use Rattle.headline.proofs.Writes.{wrote_all-keeps}
use Rattle.leftovers.proofs.Grounds.{Base}
use Rattle.leftovers.proofs.Parts.{replica_by, locks_by, parts}
use Rattle.leftovers.proofs.GrantLists.{all_grants, all_filter, all_kept, all_grant, all_give_back}

-- `Down` is among these letters
abbrev pub has_down : List Letter → Bool
has_down ls = list_any is_down ls

-- no process of d has a grant here
abbrev pub none_of : ℕ → Locks → Bool
none_of d t = all_grants (λ i p. not (p.node == d)) t

-- c was told that d left, and has none of its grants
abbrev pub IsRid : ℕ → Node → Type 0
IsRid d v = (v.replica.told d ≡ true) × (none_of d v.locks ≡ true)

abbrev pub Departed : Opening → World → Type 0
Departed o w = (d c : ℕ) → IsUp o w c → left w d ≡ true → (has_down (w.links.queue d c) ≡ true) ⊎ IsRid d (w.node c)

down_more : (xs ys : List Letter) → has_down xs ≡ true → has_down (xs ++ ys) ≡ true
down_more [] ys h = cc
down_more (x ∷ xs) ys h = go (is_down x) h (down_more xs ys)
  where
    go : (b : Bool) → (b || has_down xs) ≡ true → (has_down xs ≡ true → has_down (xs ++ ys) ≡ true)
        → (b || has_down (xs ++ ys)) ≡ true
    go true k more = refl
    go false k more = more k

down_last : (xs : List Letter) → has_down (xs ++ Letter.Down ∷ []) ≡ true
down_last [] = refl
down_last (x ∷ xs) = go (is_down x) (down_last xs)
  where
    go : (b : Bool) → has_down (xs ++ Letter.Down ∷ []) ≡ true → (b || has_down (xs ++ Letter.Down ∷ [])) ≡ true
    go true h = refl
    go false h = h

-- the letter that is taken is `Down`
abbrev taken_down : Option Taken → Bool
taken_down None = false
taken_down (Some t) = is_down t.letter

abbrev is_told : Rule → Bool
is_told (Rules.IsTold f) = true
is_told _ = false

-- only where a node is told it is
untaken_down : (o : Opening) (a : ℕ) (w : World) (v : Node) (r : Rule) → Rules.Tested o a w v r → is_told r ≡ false
    → taken_down (Rules.takes o a r) ≡ false
untaken_down o a w v (Rules.IsTold f) m e = cc
untaken_down o a w v (Rules.Ignores f Letter.Down) m e = cc m.1
untaken_down o a w v (Rules.Ignores f l) m e = refl
untaken_down o a w v (Rules.Drops f l) m e = m.1
untaken_down o a w v _ m e = refl

-- `Down` stays on its link where another letter is taken
down_popped : (o : Opening) (a : ℕ) (w : World) (t : Option Taken) → FrontTaken o a w t → taken_down t ≡ false
    → (d c : ℕ) → has_down (w.links.queue d c) ≡ true → has_down (popped_queue a t w.links.queue d c) ≡ true
down_popped o a w t front other d c h = elim (cases_eq c a) [
  | inl e ↦ subst (λ (y : ℕ). has_down (popped_queue a t w.links.queue d y) ≡ true) (sym e)
      (here t other (popped_queue a t w.links.queue d a)
      (sym (ap has_down (taken_first o a w t front d)) ∙ ap (λ (y : ℕ). has_down (w.links.queue d y)) (sym e) ∙ h))
  | inr ne ↦ ap has_down (popped-other a t w.links.queue d c ne) ∙ h
]
  where
    here : (t : Option Taken) → taken_down t ≡ false → (rest : List Letter)
        → has_down (letters_from t d ++ rest) ≡ true → has_down rest ≡ true
    here None k rest e = e
    here (Some t) k rest e = go (d == t.sender) e
      where
        go : (b : Bool) → has_down ((if b then t.letter ∷ [] else []) ++ rest) ≡ true → has_down rest ≡ true
        go true x = ap (λ (b : Bool). b || has_down rest) (sym k) ∙ x
        go false x = x

-- and where letters come
down_posted : (a : ℕ) (ls : ℕ → List Letter) (q : Links Letter) (d c : ℕ) → has_down (q.queue d c) ≡ true
    → has_down ((posted a ls q).queue d c) ≡ true
down_posted a ls q d c h = go (d == a && not (q.closed c))
  where
    go : (b : Bool) → has_down (if b then q.queue d c ++ ls c else q.queue d c) ≡ true
    go true = down_more (q.queue d c) (ls c) h
    go false = h

-- an admission lets one node in, and tells nothing
pub admitted-group : (a j : ℕ) (settled : Settled) (v : Replica)
    → (admitted a j settled v).members ≡ (if v.told j then v else record v { members = at v.members j true }).members
admitted-group a j settled v = (wrote_all-keeps settled (with_member j v)).members

pub admitted-told : (a j : ℕ) (settled : Settled) (v : Replica) → (admitted a j settled v).told ≡ v.told
admitted-told a j settled v = (wrote_all-keeps settled (with_member j v)).told ∙ go (v.told j)
  where
    go : (t : Bool) → (if t then v else record v { members = at v.members j true }).told ≡ v.told
    go true = refl
    go false = refl

-- who is told stays told
pub told_by_rule : (a : ℕ) (r : Rule) (v : Replica) (d : ℕ) → v.told d ≡ true → (replica_by a r v).told d ≡ true
told_by_rule a (Rules.IsAdmitted f j settled) v d h = ap (λ (s : Nodes). s d) (admitted-told a j settled v) ∙ h
told_by_rule a (Rules.IsWelcomed f k members pairs told fate) v d h = ap (λ (b : Bool). b || told d) h
told_by_rule a (Rules.IsTold f) v d h = by_test f (λ x t. v.told x ≡ true → (if t then true else v.told x) ≡ true)
    (λ k. refl) (λ x ne k. k) d h
told_by_rule a _ v d h = h

module _ (o : Opening) (a : ℕ) (w : World) (B : Base o w) where
  -- who asks for a lock is of the sender
  pub judged_home : (f : ℕ) (id : Id) (p : Process) → Rules.May o a w (Rules.Judges f id p) → p.node ≡ f
  judged_home f id p m = eqb-true p.node f (front_named o f a w (Letter.SetLock id p) (B.clients.named f a) m.front.1)

  -- a node that has no grants of d and was told that it left, gets none
  rid_stays : (r : Rule) → Rules.May o a w r → (d : ℕ) → (w.node a).replica.told d ≡ true
      → none_of d (w.node a).locks ≡ true → none_of d (locks_by r (w.node a).locks) ≡ true
  rid_stays (Rules.Judges f id p) m d told h = go (is_free_for id p (w.node a).locks)
    where
      other : (d ≡ f → ⊥)
      other e = cc (ap (w.node a).replica.told e, told, m.tested)

      go : (b : Bool) → none_of d (if b then grant id p (w.node a).locks else (w.node a).locks) ≡ true
      go true = all_grant (λ i q. not (q.node == d)) id p (w.node a).locks
          (ap not (ne_eqb p.node d (λ e. other (sym e ∙ judged_home f id p m)))) h
      go false = h
  rid_stays (Rules.TakesBack f id p ack) m d told h = all_give_back (λ i q. not (q.node == d)) id p (w.node a).locks h
  rid_stays (Rules.Releases f p) m d told h = all_filter (λ g. not (g.holder.node == d)) _ (w.node a).locks h
  rid_stays (Rules.IsTold f) m d told h = all_filter (λ g. not (g.holder.node == d)) _ (w.node a).locks h
  rid_stays _ m d told h = h

  rid_after : (r : Rule) → Rules.May o a w r → (d : ℕ) → IsRid d (w.node a) → IsRid d (Rules.turn_by o a w r).node
  rid_after r m d R = (
    ap (λ (v : Replica). v.told d) (parts o a w r).replica ∙ told_by_rule a r (w.node a).replica d R.0,
    ap (none_of d) (parts o a w r).locks ∙ rid_stays r m d R.0 R.1,
  )

  -- a turn that isn't the last step of its node
  turn_keeps : (r : Rule) → is_leave r ≡ false → Rules.May o a w r → Departed o w
      → Departed o (after_turn a w (Rules.turn_by o a w r) (Rules.takes o a r))
  turn_keeps r stays m D d c up gone = by_test a
      (λ x t. IsUp o w x → (has_down (w.links.queue d x) ≡ true) ⊎ IsRid d (w.node x)
      → (has_down ((posted a ls links).queue d x) ≡ true) ⊎ IsRid d (if t then (Rules.turn_by o a w r).node else w.node x))
      here (λ x ne u k. there x ne k) c up (D d c up gone)
    where
      ls : ℕ → List Letter
      ls x = sent_to x (Rules.turn_by o a w r).sends

      links : Links Letter
      links = popped a (Rules.takes o a r) w.links

      there : (x : ℕ) → (x ≡ a → ⊥) → (has_down (w.links.queue d x) ≡ true) ⊎ IsRid d (w.node x)
          → (has_down ((posted a ls links).queue d x) ≡ true) ⊎ IsRid d (w.node x)
      there x ne (inl h) = inl (down_posted a ls links d x
          (ap has_down (popped-other a (Rules.takes o a r) w.links.queue d x ne) ∙ h))
      there x ne (inr R) = inr R

      on_link : (s : Rule) → Rules.May o a w s → has_down (w.links.queue d a) ≡ true
          → (has_down (popped_queue a (Rules.takes o a s) w.links.queue d a) ≡ true)
          ⊎ IsRid d (Rules.turn_by o a w s).node
      on_link (Rules.IsTold f) k h = elim (cases_eq d f) [
        | inl e ↦ inr (
          ap (λ (x : ℕ). at (w.node a).replica.told f true x) e ∙ at_same (w.node a).replica.told f true,
          subst (λ (x : ℕ). none_of x (drop_node f (w.node a).locks) ≡ true) (sym e)
              (all_kept (λ g. not (g.holder.node == f)) (w.node a).locks),
        )
        | inr ne ↦ inl (rw (ne_eqb d f ne) h)
      ]
      on_link s k h = inl (down_popped o a w (Rules.takes o a s) k.front
          (untaken_down o a w (w.node a) s k.tested refl) d a h)

      here : IsUp o w a → (has_down (w.links.queue d a) ≡ true) ⊎ IsRid d (w.node a)
          → (has_down ((posted a ls links).queue d a) ≡ true) ⊎ IsRid d (Rules.turn_by o a w r).node
      here u (inr R) = inr (rid_after r m d R)
      here u (inl h) = elim (on_link r m h) [
        | inl k ↦ inl (down_posted a ls links d a k)
        | inr R ↦ inr R
      ]

  -- a node leaves
  leave_keeps : Rules.May o a w Rules.Leaves → Departed o w → Departed o (Rules.effect o a Rules.Leaves w)
  leave_keeps m D d c up gone = elim (cases_eq c a) [
    | inl e ↦ absurd (cc (ap (λ (x : ℕ). at (left w) a true x) e ∙ at_same (left w) a true, up.1))
    | inr ne ↦ rw (ne_eqb c a ne) (goes ne)
  ]
    where
      ls : ℕ → List Letter
      ls x = sent_to x (Rules.turn_by o a w Rules.Leaves).sends

      running : (c ≡ a → ⊥) → left w c ≡ false
      running ne = sym (at_other (left w) a true c ne) ∙ up.1

      told : (c ≡ a → ⊥) → ls c ≡ Letter.Down ∷ []
      told ne = sent_to-all o.bound (λ x. in_world o x && not (x == a)) Letter.Down c
          ∙ ap (λ (b : Bool). if b then Letter.Down ∷ [] else [])
          (all (nat_lt c o.bound) (in_world o c) (c == a) (both (nat_lt c o.bound) (o.nodes c) up.0).0 up.0
          (ne_eqb c a ne))
        where
          all : (x y z : Bool) → x ≡ true → y ≡ true → z ≡ false → (x && (y && not z)) ≡ true
          all x y z p q r = rw (p, q, r) refl

      goes : (c ≡ a → ⊥) → (has_down ((posted a ls w.links).queue d c) ≡ true) ⊎ IsRid d (w.node c)
      goes ne = elim (cases_eq d a) [
        | inl e ↦ inl (rw (eq-eqb d a e, running ne, told ne) (down_last (w.links.queue d c)))
        | inr other ↦ elim (D d c (up.0, running ne) (sym (at_other (left w) a true d other) ∙ gone)) [
          | inl h ↦ inl (down_posted a ls w.links d c h)
          | inr R ↦ inr R
        ]
      ]

  pub departed_keeps : (r : Rule) → Rules.May o a w r → Departed o w → Departed o (Rules.effect o a r w)
  departed_keeps Rules.Leaves m D = leave_keeps m D
  departed_keeps r m D = subst (Departed o) (effect-turn o a w r refl) (turn_keeps r refl m D)

pub departed_opens : (o : Opening) → Departed o (opening_world o)
departed_opens o d c up gone = cc
