-- A lone node that is free shows its lone table in the registry.
use Rattle.std.proofs.Common.{ℕ, Bool, true, false, ◌≡◌, ◌==◌, Option, Some, None, List, [], ◌∷◌, ◌++◌, refl, sym, ap, ◌∙◌}
use Rattle.std.specs.Prelude.{◌&&◌, not, if◌then◌else◌}
use Rattle.std.specs.List.{list_any, list_all}
use Rattle.std.proofs.lemmas.Bool.{eqb-true, eq-eqb}
use Rattle.registry_model.specs.Process.{Nodes}
use Rattle.registry_model.specs.Table.{Pair, Table, without}
use Rattle.registry_model.specs.Registry.{Replica, replica_of}
use Rattle.registry_model.specs.History.{Hold, Standing, hold_at, is_hold_of, is_holding, old}
use Rattle.protocol_model.specs.Letter.{Letter}
use Rattle.protocol_model.specs.Node.{Current, is_writing}
use Rattle.protocol_model.specs.World.{Opening, World, in_cluster}
use Rattle.moves.proofs.Indices.{both}
use Rattle.moves.proofs.Invariants.{Each, IsUp, is_welcome, is_write, acts, replica, current, standing_at, is_behind, is_pending, IsOnItsWay, Proper, Replicas}
use Rattle.join_gates.proofs.Tokens.{Gate, is_away, returns, returns_of}
use Rattle.join_gates.proofs.Pasts.{lone_holds}
use Rattle.join_gates.proofs.Gates.{Gates}
use Rattle.join_gates.proofs.Calm.{admitted-same}

-- the names of a lone node are of its own processes
abbrev pub LoneOwners : Opening → World → Type 0
LoneOwners o w = (n : ℕ) → (standing_at o w).registry.joined n ≡ false
    → list_all (λ (e : Pair). e.owner.node == n) ((standing_at o w).registry.lone n) ≡ true

-- the same, from any test that goes over the names so
pub owners_from : (n : ℕ) (test : Table → Bool) → ((e : Pair) (t : Table) → test (e ∷ t)
    ≡ ((e.owner.node == n) && test t))
    → (t : Table) → test t ≡ true → list_all (λ (e : Pair). e.owner.node == n) t ≡ true
owners_from n test step [] h = refl
owners_from n test step (e ∷ t) h =
    let parts : ((e.owner.node == n) ≡ true) × (test t ≡ true) = both (e.owner.node == n) (test t) (sym (step e t) ∙ h)
    in
    ap (λ (b : Bool). b && list_all (λ (e : Pair). e.owner.node == n) t) parts.0 ∙ owners_from n test step t parts.1

-- a table of one node's names, seen by one that wasn't told that this node left
without_others : (n : ℕ) (gone : Nodes) (t : Table) → gone n ≡ false
    → list_all (λ (e : Pair). e.owner.node == n) t ≡ true → without gone t ≡ t
without_others n gone [] k own = refl
without_others n gone (e ∷ t) k own =
    let parts : ((e.owner.node == n) ≡ true) × (list_all (λ (e : Pair). e.owner.node == n) t ≡ true)
    = both (e.owner.node == n) (list_all (λ (e : Pair). e.owner.node == n) t) own in
    ap (λ (b : Bool). if not b then e ∷ without gone t else without gone t)
    (ap gone (eqb-true e.owner.node n parts.0) ∙ k)
    ∙ ap (λ (l : Table). e ∷ l) (without_others n gone t k parts.1)

-- a letter that carries an operation out is on the link
find_write : (o : Opening) (w : World) (P : Letter → Type 0) (ls : List Letter) → list_any (is_write o w) ls ≡ true
    → Each P ls
    → (l : Letter) × (is_write o w l ≡ true) × P l
    × (is_welcome l ≡ true → (b : List Bool) × (c : List Bool) × (returns ls ≡ b ++ true ∷ c))
find_write o w P [] e E = cc
find_write o w P (Letter.Apply change ∷ ls) e E = (Letter.Apply change, refl, E.0, λ h. cc)
find_write o w P (Letter.Admit j settled ∷ ls) e E = (Letter.Admit j settled, refl, E.0, λ h. cc)
find_write o w P (Letter.Welcome members pairs told fate ∷ ls) e E =
    (Letter.Welcome members pairs told fate, refl, E.0, λ h. ([], returns ls, refl))
find_write o w P (Letter.JoinRefused ∷ ls) e E =
    let x : (l : Letter) × (is_write o w l ≡ true) × P l
    × (is_welcome l ≡ true → (b : List Bool) × (c : List Bool) × (returns ls ≡ b ++ true ∷ c)) =
    find_write o w P ls e E.1 in
    (x.0, x.1, x.2, λ h. (false ∷ (x.3 h).0, (x.3 h).1, ap (λ (l : List Bool). false ∷ l) (x.3 h).2))
find_write o w P (_ ∷ ls) e E = find_write o w P ls e E.1

-- but for a welcome it leaves open who is joined
acts-joined : (o : Opening) (w : World) (a : ℕ) (l : Letter) (v : Replica) → is_welcome l ≡ false
    → (acts o w a l v).joined ≡ v.joined
acts-joined o w a (Letter.Welcome members pairs told fate) v e = cc
acts-joined o w a (Letter.Admit j settled) v e = (admitted-same a j settled v).0
acts-joined o w a _ v e = refl

-- a welcome on a link belongs to a join that is let in
pub let_in : (g : Gate) (b c : List Bool) → returns_of g ≡ b ++ true ∷ c → is_away g ≡ false
let_in g b c e = go g b e
  where
    go : (g : Gate) (b : List Bool) → returns_of g ≡ b ++ true ∷ c → is_away g ≡ false
    go Gate.Away [] e = cc
    go Gate.Away (x ∷ b) e = cc
    go _ b e = refl

pub lone_shown : (o : Opening) (w : World) (gate : ℕ → ℕ → Gate) (a : ℕ) → Proper o w → Replicas o w → LoneOwners o w
    → Gates o w gate
    → IsUp o w a → current o w a ≡ Current.Free → (replica o w a).joined ≡ false
    → ((standing_at o w).registry.joined a ≡ false) × ((standing_at o w).registry.lone a ≡ (replica o w a).table)
lone_shown o w gate a P R own G up free lone = go (is_pending o w a) refl
  where
    s : Standing
    s = standing_at o w

    shown : replica o w a ≡ replica_of s.registry a
        → (s.registry.joined a ≡ false) × (s.registry.lone a ≡ (replica o w a).table)
    shown e = (
      alone,
      sym (ap (λ (v : Replica). v.table) e ∙ ap (λ (b : Bool). without (s.registry.told a)
          (if b then s.registry.table else s.registry.lone a)) alone
          ∙ without_others a (s.registry.told a) (s.registry.lone a) (untold (s.registry.told a a) refl)
          (own a alone)),
    )
      where
        alone : s.registry.joined a ≡ false
        alone = sym (ap (λ (v : Replica). v.joined) e) ∙ lone

        untold : (b : Bool) → s.registry.told a a ≡ b → s.registry.told a a ≡ false
        untold false k = k
        untold true k = absurd (cc (P.told_left a a up.1 (ap (λ (v : Replica). v.told a) e ∙ k), up.1))

    behind : (h : Option Hold) → hold_at s a ≡ h → is_behind o w a h ≡ true → replica o w a ≡ replica_of (old s a) a
        → ⊥
    behind None is late shows = cc
    behind (Some h) is late shows = found (find_write o w (IsOnItsWay o w h.node a) (w.links.queue h.node a) late
        (R.notes h.node a up.1))
      where
        found : (l : Letter) × (is_write o w l ≡ true) × IsOnItsWay o w h.node a l
            × (is_welcome l ≡ true → (b : List Bool) × (c : List Bool)
            × (returns (w.links.queue h.node a) ≡ b ++ true ∷ c)) → ⊥
        found x = go (is_welcome x.0) refl
          where
            go : (b : Bool) → is_welcome x.0 ≡ b → ⊥
            go true is_one =
                let y : (b : List Bool) × (c : List Bool) × (returns (w.links.queue h.node a) ≡ b ++ true ∷ c) =
                x.3 is_one in
                let waits : (k : ℕ) × (current o w a ≡ Current.Joining k h.node)
                = (G.facts a h.node).fit (let_in (gate a h.node) y.0 y.1 (sym (G.back a h.node up.1) ∙ y.2)) in
                absurd (cc (sym free ∙ waits.1))
            go false is_none =
                let note : (k : Hold) × (hold_at s a ≡ Some k) × (k.node ≡ h.node) × IsUp o w h.node
                × (acts o w a x.0 (replica_of (old s a) a) ≡ replica_of s.registry a)
                = x.2 x.1 in
                let alone : s.registry.joined a ≡ false = sym (ap (λ (v : Replica). v.joined) note.4)
                ∙ acts-joined o w a x.0 (replica_of (old s a) a) is_none
                ∙ sym (ap (λ (v : Replica). v.joined) shows) ∙ lone in
                let here : h.node ≡ a = lone_holds (in_cluster o) w.history a h
                (sym (ap (λ (b : Bool). if b then s.held else s.lone_held a) alone) ∙ is) in
                let holding : is_holding s a ≡ true = ap (is_hold_of a) is ∙ eq-eqb h.node a here in
                absurd (cc (sym holding ∙ R.holds a ∙ ap is_writing free))

    go : (b : Bool) → is_pending o w a ≡ b → (s.registry.joined a ≡ false)
        × (s.registry.lone a ≡ (replica o w a).table)
    go false is = shown (R.facts a up ∙ ap (λ (b : Bool). replica_of (if b then old s a else s.registry) a) is)
    go true is = absurd (behind (hold_at s a) refl is
        (R.facts a up ∙ ap (λ (b : Bool). replica_of (if b then old s a else s.registry) a) is))
