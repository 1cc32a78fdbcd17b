-- Who has left has left for good, and who was told of it stays so.
use Rattle.std.proofs.Common.{ℕ, Bool, true, false, ◌==◌, ◌≡◌, List, [], ◌∷◌, refl, ap, ◌∙◌, inl, inr}
use Rattle.std.specs.Prelude.{◌⊎◌, ◌&&◌, ◌||◌, not, if◌then◌else◌, fold}
use Rattle.registry_model.specs.Process.{Text, Nodes, at, with_node}
use Rattle.registry_model.specs.Table.{Pair, Put, Remove}
use Rattle.registry_model.specs.Settlement.{Fate, Settled}
use Rattle.registry_model.specs.Registry.{Replica}
use Rattle.registry_model.proofs.Updates.{by_test}
use Rattle.protocol_model.specs.Letter.{Letter, is_down}
use Rattle.protocol_model.specs.Node.{Node, Current, wrote}
use Rattle.protocol_model.specs.Event.{Event}
use Rattle.protocol_model.specs.Reading.{with_member, wrote_all, welcomed}
use Rattle.protocol_model.specs.World.{Opening, in_world, World, left, WorldEvent, At, Deliver, place, join_number, heard, turn_of, accepted}
use Rattle.table_steps.specs.Behind.{behind_welcome, behind_letter, behind}
use Rattle.table_steps.proofs.Steps.{letters_write, events_keep}

module _ (o : Opening) (w : World) where
  -- departures
  pub left_grows : (e : WorldEvent) (d : ℕ) → left w d ≡ true → left (accepted o w e) d ≡ true
  left_grows (At a (Event.Calling c)) d e = e
  left_grows (At a Event.Retry) d e = e
  left_grows (At a (Event.Exiting p)) d e = e
  left_grows (At a Event.Leave) d e = go (d == a)
    where
      go : (b : Bool) → (if b then true else left w d) ≡ true
      go true = refl
      go false = e
  left_grows (Deliver f t) d e = e

  -- who has left now had left before, or leaves
  pub left_by : (e : WorldEvent) (d : ℕ) → left (accepted o w e) d ≡ true → (left w d ≡ true) ⊎ (d ≡ place e)
  left_by (At a (Event.Calling c)) d e = inl e
  left_by (At a Event.Retry) d e = inl e
  left_by (At a (Event.Exiting p)) d e = inl e
  left_by (At a Event.Leave) d e = by_test a
      (λ x t. (if t then true else left w x) ≡ true → (left w x ≡ true) ⊎ (x ≡ a)) (λ q. inr refl) (λ x ne q. inl q) d e
  left_by (Deliver f t) d e = inl e

-- what is written changes nothing of what a node was told
puts_told : (pairs : List Pair) (v : Replica) → (fold (λ replica pair. wrote (Put pair) replica) v pairs).told ≡ v.told
puts_told [] v = refl
puts_told (pair ∷ pairs) v = puts_told pairs (wrote (Put pair) v)

removes_told : (xs : List Text) (v : Replica) → (fold (λ replica x. wrote (Remove x) replica) v xs).told ≡ v.told
removes_told [] v = refl
removes_told (x ∷ xs) v = removes_told xs (wrote (Remove x) v)

wrote_told : (settled : Settled) (v : Replica) → (wrote_all settled v).told ≡ v.told
wrote_told settled v =
    removes_told settled.removes (fold (λ replica pair. wrote (Put pair) replica) v settled.puts) ∙ puts_told settled.puts v

member_told : (j : ℕ) (v : Replica) → (with_member j v).told ≡ v.told
member_told j v = go (v.told j)
  where
    go : (b : Bool) → (if b then v else record v { members = with_node j v.members }).told
        ≡ v.told
    go true = refl
    go false = refl

either : (b c : Bool) → b ≡ true → (b || c) ≡ true
either true c e = refl
either false c e = cc

module _ (a f d : ℕ) (v : Replica) (told : v.told d ≡ true) where
  told_welcome : (members : Nodes) (pairs : List Pair) (gone : Nodes) (fate : Fate)
      (now : Current) → (behind_welcome a f members pairs gone fate now v).told d ≡ true
  told_welcome members pairs gone fate (Current.Joining k m) = go (m == f)
    where
      go : (b : Bool) → (if b then welcomed a members pairs gone fate v else v).told d ≡ true
      go true = either (v.told d) (gone d) told
      go false = told
  told_welcome members pairs gone fate Current.Free = told
  told_welcome members pairs gone fate (Current.Asking op r) = told
  told_welcome members pairs gone fate (Current.Waiting op) = told
  told_welcome members pairs gone fate (Current.Writing op s awaited reply) = told

  told_letter : (l : Letter) (now : Current) → (behind_letter a f l now v).told d ≡ true
  told_letter (Letter.Apply change) now = told
  told_letter (Letter.Admit j settled) now =
      ap (λ (s : Nodes). s d) (wrote_told settled (with_member j v) ∙ member_told j v) ∙ told
  told_letter (Letter.Welcome members pairs gone fate) now = told_welcome members pairs gone fate now
  told_letter Letter.Down now = go (d == f)
    where
      go : (b : Bool) → (if b then true else v.told d) ≡ true
      go true = refl
      go false = told
  told_letter (Letter.SetLock id p) now = told
  told_letter (Letter.LockAnswer id p granted) now = told
  told_letter (Letter.GiveBack id p ack) now = told
  told_letter (Letter.GivenBack p) now = told
  told_letter (Letter.ReleaseOf p) now = told
  told_letter Letter.Applied now = told
  told_letter (Letter.JoinAsk pairs) now = told
  told_letter Letter.JoinRefused now = told

-- a letter that is read
told_behind : (a f d : ℕ) (l : Letter) (v : Node) → v.replica.told d ≡ true → (behind a f l v).told d ≡ true
told_behind a f d l v told = go (v.replica.told f && not (is_down l))
  where
    go : (b : Bool) → (if b then v.replica else behind_letter a f l v.current v.replica).told d ≡ true
    go true = told
    go false = told_letter a f d v.replica told l v.current

module _ (o : Opening) (w : World) where
  heard_told : (f t d : ℕ) (ls : List Letter) → (w.node t).replica.told d ≡ true
      → (heard o.bound t w f ls).node.replica.told d ≡ true
  heard_told f t d [] e = e
  heard_told f t d (l ∷ ls) e =
      ap (λ (v : Replica). v.told d) (letters_write o.bound t (join_number w) f l (w.node t)) ∙ told_behind t f d l (w.node t) e

  turn_told : (e : WorldEvent) (d : ℕ) → (w.node (place e)).replica.told d ≡ true
      → (turn_of o w e).node.replica.told d ≡ true
  turn_told (At a e) d told = ap (λ (v : Replica). v.told d) (events_keep o.bound a (in_world o) e (w.node a)) ∙ told
  turn_told (Deliver f t) d told = heard_told f t d (w.links.queue f t) told

  -- an accepted event leaves each node told of whom it was told
  pub told_grows : (e : WorldEvent) (c d : ℕ) → (w.node c).replica.told d ≡ true
      → ((accepted o w e).node c).replica.told d ≡ true
  told_grows e c d told = same e (by_test (place e)
      (λ x t. (w.node x).replica.told d ≡ true → (if t then (turn_of o w e).node else w.node x).replica.told d ≡ true)
      (λ q. turn_told e d q) (λ x ne q. q) c told)
    where
      same : (e : WorldEvent) → (at w.node (place e) (turn_of o w e).node c).replica.told d ≡ true
          → ((accepted o w e).node c).replica.told d ≡ true
      same (At a (Event.Calling k)) q = q
      same (At a Event.Retry) q = q
      same (At a (Event.Exiting p)) q = q
      same (At a Event.Leave) q = q
      same (Deliver f t) q = q
