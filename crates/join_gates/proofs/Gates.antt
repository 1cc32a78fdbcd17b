-- The invariant of joins under way: a gate for each joiner and contact.
use Rattle.std.proofs.Common.{ℕ, Bool, true, false, ◌≡◌, ◌==◌, List, [], ◌∷◌, refl, ◌∙◌}
use Rattle.std.specs.Prelude.{not, if◌then◌else◌}
use Rattle.std.specs.List.{list_any}
use Rattle.registry_model.specs.Table.{Table}
use Rattle.protocol_model.specs.Node.{Node, Op, Current}
use Rattle.protocol_model.specs.Event.{is_join, is_joining}
use Rattle.protocol_model.specs.World.{Opening, World, left}
use Rattle.registry_model.proofs.Updates.{by_test}
use Rattle.moves.proofs.Indices.{at_pair}
use Rattle.moves.proofs.Invariants.{replica, current, standing_at}
use Rattle.join_gates.proofs.Tokens.{Gate, Away, is_away, is_wait, is_turned, is_entering, hopes, knocks, returns, admissions, jobs, knocks_of, returns_of, queued_of, knocks-append, returns-append}
use Rattle.join_gates.proofs.Links.{on_links}
use Rattle.join_gates.proofs.Pasts.{Admitted}

-- what is known of the join of j by m, by its gate
pub record Facts (o : Opening) (w : World) (j m : ℕ) (g : Gate) : Type 0 where
  pub fit : is_away g ≡ false → (k : ℕ) × (current o w j ≡ Current.Joining k m)
  pub host : is_wait g ≡ true → (replica o w m).joined ≡ true
  pub heard : is_turned g ≡ true → left w j ≡ false → (replica o w j).told m ≡ false
  pub tokens : (p : Table) → hopes g ≡ p ∷ [] → ((standing_at o w).registry.joined j ≡ false)
      × ((standing_at o w).registry.lone j ≡ p)
  pub entering : is_entering g ≡ true → left w j ≡ false
      → (k : ℕ) × (current o w j ≡ Current.Joining k m) × Admitted (standing_at o w) j k m

-- the gate tells what of a join is on links and in queues towards nodes that run
pub record Gates (o : Opening) (w : World) (gate : ℕ → ℕ → Gate) : Type 0 where
  pub knock : (j m : ℕ) → left w m ≡ false → on_links knocks knocks-append w j m ≡ knocks_of (gate j m)
  pub back : (j m : ℕ) → left w j ≡ false → on_links returns returns-append w m j ≡ returns_of (gate j m)
  pub queued : (j m : ℕ) → left w m ≡ false → admissions j (jobs (w.node m)) ≡ queued_of (gate j m)
  pub facts : (j m : ℕ) → Facts o w j m (gate j m)

-- no join stands in this queue, or at most one
abbrev pub has_join : List Op → Bool
has_join ops = list_any is_join ops

abbrev pub has_one : List Op → Bool
has_one [] = true
has_one (Op.Join k m ∷ ops) = not (has_join ops)
has_one (op ∷ ops) = has_one ops

-- a node joins once: when it has joined none of its joins is open, and else at most one
pub record OnceIn (has_joined : Bool) (c : Current) (ops : List Op) : Type 0 where
  pub joined : has_joined ≡ true → (is_joining c ≡ false) × (has_join ops ≡ false)
  pub waits : is_joining c ≡ true → has_join ops ≡ false
  pub queue : has_one ops ≡ true

abbrev pub Once : Node → Type 0
Once v = OnceIn v.replica.joined v.current v.queue

-- joins under way
pub record Joins (o : Opening) (w : World) : Type 0 where
  pub gate : ℕ → ℕ → Gate
  pub gates : Gates o w gate
  pub once : (n : ℕ) → Once (w.node n)

-- what holds at (a, c), and at each other pair
pub by_other : {A : Type 0} (f : ℕ → ℕ → A) (a c : ℕ) (v : A) (P : ℕ → ℕ → A → Type 0) → P a c v
    → ((x y : ℕ) → (x ≡ a → y ≡ c → ⊥) → P x y (f x y)) → (x y : ℕ) → P x y (at_pair f a c v x y)
by_other f a c v P here there = by_test a (λ x t. (y : ℕ)
    → P x y (if t then (if y == c then v else f x y) else f x y))
    (by_test c (λ y t. P a y (if t then v else f a y)) here (λ y ne. there a y (λ e q. ne q)))
    (λ x ne y. there x y (λ e q. ne e))

-- what is read off the gates changes where a gate does
pub pair_maps : {A B : Type 0} (L : ℕ → ℕ → Type 0) (f : ℕ → ℕ → A) (gate : ℕ → ℕ → B) (j m : ℕ) (v : A) (g : B)
    (h : B → A)
    → (L j m → v ≡ h g) → ((x y : ℕ) → L x y → f x y ≡ h (gate x y)) → (x y : ℕ) → L x y
    → at_pair f j m v x y ≡ h (at_pair gate j m g x y)
pair_maps L f gate j m v g h here there =
    by_test j (λ x s. (y : ℕ) → L x y → (if s then (if y == m then v else f x y) else f x y)
    ≡ h (if s then (if y == m then g else gate x y) else gate x y))
    (by_test m (λ y t. L j y → (if t then v else f j y) ≡ h (if t then g else gate j y)) here (λ y ne. there j y))
    (λ x ne y. there x y)

-- a gate moves
pub moved : (o : Opening) (w v : World) (gate : ℕ → ℕ → Gate) (j m : ℕ) (g : Gate) (k : List Table) (b : List Bool)
    (q : List Table)
    → Gates o w gate → ((x : ℕ) → left v x ≡ false → left w x ≡ false)
    → ((x y : ℕ) → left v y ≡ false → on_links knocks knocks-append v x y
    ≡ at_pair (on_links knocks knocks-append w) j m k x y)
    → (left v m ≡ false → k ≡ knocks_of g)
    → ((x y : ℕ) → left v x ≡ false → on_links returns returns-append v y x
    ≡ at_pair (λ x y. on_links returns returns-append w y x) j m b x y)
    → (left v j ≡ false → b ≡ returns_of g)
    → ((x y : ℕ) → left v y ≡ false → admissions x (jobs (v.node y))
    ≡ at_pair (λ x y. admissions x (jobs (w.node y))) j m q x y)
    → (left v m ≡ false → q ≡ queued_of g)
    → ((x y : ℕ) → (x ≡ j → y ≡ m → ⊥) → Facts o w x y (gate x y) → Facts o v x y (gate x y))
    → Facts o v j m g
    → Gates o v (at_pair gate j m g)
moved o w v gate j m g k b q G runs K knows B backs Q queues facts here = record {
  knock = λ x y l. K x y l ∙ pair_maps (λ x y. left v y ≡ false)
      (on_links knocks knocks-append w) gate j m k g knocks_of knows
      (λ x y e. G.knock x y (runs y e)) x y l;
  back = λ x y l. B x y l ∙ pair_maps (λ x y. left v x ≡ false)
      (λ x y. on_links returns returns-append w y x) gate j m b g returns_of backs
      (λ x y e. G.back x y (runs x e)) x y l;
  queued = λ x y l. Q x y l ∙ pair_maps (λ x y. left v y ≡ false)
      (λ x y. admissions x (jobs (w.node y))) gate j m q g queued_of queues
      (λ x y e. G.queued x y (runs y e)) x y l;
  facts = by_other gate j m g (Facts o v) here (λ x y ne. facts x y ne (G.facts x y));
}

-- no gate moves
pub gates_unmoved : (o : Opening) (w v : World) (gate : ℕ → ℕ → Gate)
    → Gates o w gate → ((x : ℕ) → left v x ≡ false → left w x ≡ false)
    → ((x y : ℕ) → left v y ≡ false → on_links knocks knocks-append v x y ≡ on_links knocks knocks-append w x y)
    → ((x y : ℕ) → left v y ≡ false → on_links returns returns-append v x y ≡ on_links returns returns-append w x y)
    → ((x y : ℕ) → left v y ≡ false → admissions x (jobs (v.node y)) ≡ admissions x (jobs (w.node y)))
    → ((x y : ℕ) → Facts o w x y (gate x y) → Facts o v x y (gate x y))
    → Gates o v gate
gates_unmoved o w v gate G runs K B Q facts = record {
  knock = λ x y l. K x y l ∙ G.knock x y (runs y l);
  back = λ x y l. B y x l ∙ G.back x y (runs x l);
  queued = λ x y l. Q x y l ∙ G.queued x y (runs y l);
  facts = λ x y. facts x y (G.facts x y);
}

-- the facts of a gate that stays
pub kept : (o : Opening) (w v : World) (j m : ℕ) (g : Gate) → Facts o w j m g
    → ((k : ℕ) → current o w j ≡ Current.Joining k m → current o v j ≡ Current.Joining k m)
    → ((replica o w m).joined ≡ true → (replica o v m).joined ≡ true)
    → (left v j ≡ false → left w j ≡ false)
    → (is_turned g ≡ true → left v j ≡ false → (replica o w j).told m ≡ false → (replica o v j).told m ≡ false)
    → ((k : ℕ) → current o w j ≡ Current.Joining k m → (standing_at o w).registry.joined j ≡ false
    → ((standing_at o v).registry.joined j ≡ false)
    × ((standing_at o v).registry.lone j ≡ (standing_at o w).registry.lone j))
    → (is_entering g ≡ true → left v j ≡ false → (k : ℕ) → current o w j ≡ Current.Joining k m
    → Admitted (standing_at o w) j k m → Admitted (standing_at o v) j k m)
    → Facts o v j m g
kept o w v j m g F contact joined runs told lone admitted = record {
  fit = λ e. let here : (k : ℕ) × (current o w j ≡ Current.Joining k m) = F.fit e in (here.0, contact here.0 here.1);
  host = λ e. joined (F.host e);
  heard = λ e l. told e l (F.heard e (runs l));
  tokens = λ p e.
      let now : ((standing_at o w).registry.joined j ≡ false)
      × ((standing_at o w).registry.lone j ≡ p) = F.tokens p e in
      let here : (k : ℕ) × (current o w j ≡ Current.Joining k m) = F.fit (busy g p e) in
      let after : ((standing_at o v).registry.joined j ≡ false)
      × ((standing_at o v).registry.lone j ≡ (standing_at o w).registry.lone j) = lone here.0 here.1 now.0 in
      (after.0, after.1 ∙ now.1);
  entering = λ e l.
      let here : (k : ℕ) × (current o w j ≡ Current.Joining k m) × Admitted (standing_at o w) j k m =
      F.entering e (runs l) in
      (here.0, contact here.0 here.1, admitted e l here.0 here.1 here.2);
}
  where
    busy : (g : Gate) (p : Table) → hopes g ≡ p ∷ [] → is_away g ≡ false
    busy Away p e = cc
    busy _ p e = refl

-- a gate that is shut says nothing
pub shut : (o : Opening) (w : World) (j m : ℕ) → Facts o w j m Away
shut o w j m = record { fit = λ e. cc; host = λ e. cc; heard = λ e l. cc; tokens = λ p e. cc; entering = λ e l. cc }
