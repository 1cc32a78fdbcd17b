-- Who is killed by a letter dies before the letter is read: the same as in the model, where the replica has changed
-- before.
use Rattle.std.proofs.Common.{ℕ, Bool, true, false, ◌≡◌, List, [], ◌∷◌, refl, ap, ◌∙◌}
use Rattle.std.specs.Prelude.{fold, Contains, if◌then◌else◌}
use Rattle.std.specs.List.{All}
use Rattle.std.proofs.lemmas.List.Elements.{All-head, All-tail}
use Rattle.registry_model.specs.Process.{Process, Nodes, at}
use Rattle.registry_model.specs.Registry.{Replica}
use Rattle.registry_model.specs.Settlement.{Settled}
use Rattle.protocol_model.specs.Letter.{Letter}
use Rattle.protocol_model.specs.Watch.{is_live}
use Rattle.protocol_model.specs.Node.{Node}
use Rattle.protocol_model.specs.Turn.{Turn, with_replica}
use Rattle.protocol_model.specs.Calling.{die, kill}
use Rattle.protocol_model.specs.Reading.{with_member, admitted}
use Rattle.protocol_model.specs.World.{Opening, in_world, World, left}
use Rattle.registry_model.proofs.Updates.{by_test}
use Rattle.moves.proofs.Rules
use Rattle.moves.proofs.Rules.{die_to, kills_in, awaits}
use Rattle.moves.proofs.Writes.{wrote_all-keeps}
use Rattle.walk.proofs.Worlds.{stays_front}
use Rattle.walk.proofs.ChainKinds.{Hearing}
use Rattle.walk.proofs.Chains.{Chain, chain_more}

-- those of the killed that live here die, in order, and these are to drop their grants
abbrev pub kill_to : ℕ → ℕ → Nodes → List Process → Turn → Turn
kill_to n a receivers ps u = fold (λ v p. if is_live a v.node.watch p then die_to n receivers p v else v) u ps

-- the node has this replica from now on
abbrev pub replaced : Replica → Turn → Turn
replaced r u = with_replica (λ v. r) u

-- a kill with another replica is that kill to its members, and then that replica
pub kill-replaced : (n a : ℕ) (r : Replica) (ps : List Process) (u : Turn)
    → kill n a ps (replaced r u) ≡ replaced r (kill_to n a r.members ps u)
kill-replaced n a r [] u = refl
kill-replaced n a r (p ∷ ps) u = go (is_live a u.node.watch p) (kill-replaced n a r ps)
  where
    go : (t : Bool) → ((v : Turn) → kill n a ps (replaced r v) ≡ replaced r (kill_to n a r.members ps v))
        → kill n a ps (if t then die n a p (replaced r u) else replaced r u)
        ≡ replaced r (kill_to n a r.members ps (if t then die_to n r.members p u else u))
    go true h = h (die_to n r.members p u)
    go false h = h u

-- a kill changes no replica
pub kill_to-replica : (n a : ℕ) (s : Nodes) (ps : List Process) (u : Turn)
    → (kill_to n a s ps u).node.replica ≡ u.node.replica
kill_to-replica n a s [] u = refl
kill_to-replica n a s (p ∷ ps) u = go (is_live a u.node.watch p) (kill_to-replica n a s ps)
  where
    go : (t : Bool) → ((v : Turn) → (kill_to n a s ps v).node.replica ≡ v.node.replica)
        → (kill_to n a s ps (if t then die_to n s p u else u)).node.replica ≡ u.node.replica
    go true h = h (die_to n s p u)
    go false h = h u

-- nor what the registrar is at
pub kill_to-current : (n a : ℕ) (s : Nodes) (ps : List Process) (u : Turn)
    → (kill_to n a s ps u).node.current ≡ u.node.current
kill_to-current n a s [] u = refl
kill_to-current n a s (p ∷ ps) u = go (is_live a u.node.watch p) (kill_to-current n a s ps)
  where
    go : (t : Bool) → ((v : Turn) → (kill_to n a s ps v).node.current ≡ v.node.current)
        → (kill_to n a s ps (if t then die_to n s p u else u)).node.current ≡ u.node.current
    go true h = h (die_to n s p u)
    go false h = h u

-- who is a member is one after an admission
pub admitted-members : (a j : ℕ) (settled : Settled) (v : Replica) (c : ℕ) → v.members c ≡ true
    → (admitted a j settled v).members c ≡ true
admitted-members a j settled v c m =
    ap (λ (s : Nodes). s c) (wrote_all-keeps settled (with_member j v)).members ∙ go (v.told j)
  where
    go : (t : Bool) → (if t then v else record v { members = at v.members j true }).members c ≡ true
    go true = m
    go false =
        by_test j (λ x t. v.members x ≡ true → (if t then true else v.members x) ≡ true) (λ k. refl) (λ x ne k. k) c m

module _ (o : Opening) (a : ℕ) (inside : in_world o a ≡ true) (w : World) (running : left w a ≡ false)
    (f : ℕ) (l : Letter) (rest : List Letter) (known : in_world o f ≡ true) (front : w.links.queue f a ≡ l ∷ rest)
    (receivers : Nodes) where
  -- Each of the killed that lives here dies, before the letter is taken
  pub kill_to-chain : (ps : List Process) (u : Turn) → Chain o a Hearing w [] w u → u.node.replica.told f ≡ false
      → ((v : Node) → v.current ≡ u.node.current → awaits a v f l ≡ true)
      → ((c : ℕ) → u.node.replica.members c ≡ true → receivers c ≡ true)
      → All (Contains (kills_in l)) ps
      → Chain o a Hearing w [] w (kill_to o.bound a receivers ps u)
  kill_to-chain [] u h told waits wide all = h
  kill_to-chain (p ∷ ps) u h told waits wide all = go (is_live a u.node.watch p) refl (kill_to-chain ps)
    where
      go : (t : Bool) → is_live a u.node.watch p ≡ t
          → ((v : Turn) → Chain o a Hearing w [] w v → v.node.replica.told f ≡ false
          → ((x : Node) → x.current ≡ v.node.current → awaits a x f l ≡ true)
          → ((c : ℕ) → v.node.replica.members c ≡ true → receivers c ≡ true)
          → All (Contains (kills_in l)) ps
          → Chain o a Hearing w [] w (kill_to o.bound a receivers ps v))
          → Chain o a Hearing w [] w (kill_to o.bound a receivers ps (if t then die_to o.bound receivers p u else u))
      go true live more = more (die_to o.bound receivers p u)
          (chain_more o a Hearing inside w [] w u (Rules.Kills f l p receivers) running h refl refl (
            told,
            known,
            stays_front a f u w l rest front,
            All-head
                (Contains (kills_in l)) p ps all,
            live,
            waits u.node refl,
            wide,
          ))
          told waits wide (All-tail (Contains (kills_in l)) p ps all)
      go false live more = more u h told waits wide (All-tail (Contains (kills_in l)) p ps all)
