-- What the invariants of the protocol say to each other. Each family of invariants is proved in a crate of its own and
-- may use of the others what stands here.
use Rattle.std.proofs.Common.{ℕ, Bool, true, false, ◌≡◌, Option, Some, None, List, [], ◌∷◌}
use Rattle.std.specs.Prelude.{not, ◌&&◌, ◌||◌, if◌then◌else◌}
use Rattle.std.specs.List.{list_any}
use Rattle.registry_model.specs.Process.{Process}
use Rattle.registry_model.specs.Table.{Table}
use Rattle.registry_model.specs.Call.{Reply, Joined, is_grant}
use Rattle.registry_model.specs.Registry.{Replica, replica_of}
use Rattle.registry_model.specs.History.{Entry, Hold, Standing, standing_of, hold_at, is_holding, old}
use Rattle.registry_model.specs.Legal.{IsLegal}
use Rattle.protocol_model.specs.Round.{Round}
use Rattle.protocol_model.specs.Letter.{Letter, is_down}
use Rattle.protocol_model.specs.Links.{is_nil}
use Rattle.protocol_model.specs.Watch.{is_dead}
use Rattle.protocol_model.specs.Node.{Op, Current, is_writing, wrote}
use Rattle.protocol_model.specs.Reading.{admitted, welcomed}
use Rattle.protocol_model.specs.World.{Opening, in_world, in_cluster, World, left}
use Rattle.moves.proofs.Rules.{IsHeld, kills_in}

-- what holds of each letter of a list
abbrev pub Each : (Letter → Type 0) → List Letter → Type 0
Each P [] = Unit {0}
Each P (l ∷ ls) = P l × Each P ls

-- a letter to a joiner
abbrev pub is_welcome : Letter → Bool
is_welcome (Letter.Welcome members pairs told fate) = true
is_welcome _ = false

-- a `Down` stands only at the end
abbrev pub is_down_last : List Letter → Bool
is_down_last [] = true
is_down_last (l ∷ ls) = (not (is_down l) || is_nil ls) && is_down_last ls

module _ (o : Opening) (w : World) where
  -- node a is of the world and hasn't left
  abbrev pub IsUp : ℕ → Type 0
  IsUp a = (in_world o a ≡ true) × (left w a ≡ false)

  abbrev pub replica : ℕ → Replica
  replica a = (w.node a).replica

  abbrev pub current : ℕ → Current
  current a = (w.node a).current

  -- what the history comes to
  abbrev pub standing_at : Standing
  standing_at = standing_of (in_cluster o) w.history

  -- what is known of a letter on the link from f to n by itself
  abbrev pub IsProper : ℕ → ℕ → Letter → Type 0
  IsProper f n Letter.Down = (left w f ≡ true) × (f ≡ n → ⊥)
  IsProper f n (Letter.Admit j settled) = in_world o j ≡ true
  IsProper f n (Letter.Welcome members pairs told fate) =
      (members n ≡ true) × ((c : ℕ) → members c ≡ true → in_world o c ≡ true)
      × ((d : ℕ) → told d ≡ true → left w d ≡ true)
  IsProper f n _ = Unit {0}

  -- an operation of the registrar names nodes of the world
  abbrev pub IsProperOp : Op → Type 0
  IsProperOp (Op.Join k m) = in_world o m ≡ true
  IsProperOp (Op.Admission j pairs) = in_world o j ≡ true
  IsProperOp _ = Unit {0}

  abbrev pub AreProperOps : List Op → Type 0
  AreProperOps [] = Unit {0}
  AreProperOps (op ∷ ops) = IsProperOp op × AreProperOps ops

  abbrev pub IsProperCurrent : Current → Type 0
  IsProperCurrent (Current.Asking op r) = IsProperOp op
  IsProperCurrent (Current.Waiting op) = IsProperOp op
  IsProperCurrent (Current.Writing op asked awaited reply) = IsProperOp op
  IsProperCurrent (Current.Joining k m) = in_world o m ≡ true
  IsProperCurrent Current.Free = Unit {0}

  -- departures, members and letters by themselves; nothing is said of a node that has left but that its `Down` is its
  -- last letter
  pub record Proper : Type 0 where
    pub last : (d n : ℕ) → is_down_last (w.links.queue d n) ≡ true
    pub letters : (f n : ℕ) → left w n ≡ false → Each (IsProper f n) (w.links.queue f n)
    pub told_left : (n d : ℕ) → left w n ≡ false → (replica n).told d ≡ true → left w d ≡ true
    pub itself : (n : ℕ) → IsUp n → (replica n).members n ≡ true
    pub inside : (n c : ℕ) → left w n ≡ false → in_world o n ≡ true → (replica n).members c ≡ true → in_world o c ≡ true
    pub queues : (n : ℕ) → AreProperOps (w.node n).queue
    pub currents : (n : ℕ) → IsProperCurrent (current n)

  -- a round that is held meets no member that writes: it has granted, and the writer has its own grant
  pub record Exclusive : Type 0 where
    pub alone : (a h : ℕ) (op : Op) (r : Round) → IsUp a → IsUp h → IsHeld o.bound (w.node a) op r
        → is_writing (current h) ≡ true → (replica a).members h ≡ true → ⊥

  -- a letter that carries an operation out
  abbrev pub is_write : Letter → Bool
  is_write (Letter.Apply change) = true
  is_write (Letter.Admit j settled) = true
  is_write (Letter.Welcome members pairs told fate) = true
  is_write _ = false

  -- what it makes of the replica of node c
  abbrev pub acts : ℕ → Letter → Replica → Replica
  acts c (Letter.Apply change) v = wrote change v
  acts c (Letter.Admit j settled) v = admitted c j settled v
  acts c (Letter.Welcome members pairs told fate) v = welcomed c members pairs told fate v
  acts c _ v = v

  -- whether c hasn't carried out the operation that holds in its group
  abbrev pub is_behind : ℕ → Option Hold → Bool
  is_behind c None = false
  is_behind c (Some h) = list_any is_write (w.links.queue h.node c)

  abbrev pub is_pending : ℕ → Bool
  is_pending c = is_behind c (hold_at standing_at c)

  -- the entry of the operation that node a writes
  abbrev pub IsEntryOf : ℕ → Op → Option Reply → Entry → Type 0
  IsEntryOf a (Op.Name k call) (Some r) e = (e ≡ Entry.Name a k call r) × (is_grant r ≡ true)
  IsEntryOf a (Op.Strike p) None e = (e ≡ Entry.Strike p) × (p.node ≡ a)
  IsEntryOf a (Op.Admission j pairs) None e = (k : ℕ) × (e ≡ Entry.Join j k a Joined)
  IsEntryOf a _ _ e = ⊥

  -- what an operation that is written has as its entry
  abbrev pub IsWritten : ℕ → Current → Type 0
  IsWritten a (Current.Writing op asked awaited reply) =
      (h : Hold) × (hold_at standing_at a ≡ Some h) × (h.node ≡ a) × IsEntryOf a op reply h.entry
  IsWritten a _ = Unit {0}

  -- what is known of a letter that carries an operation out, from f to c
  abbrev pub IsOnItsWay : ℕ → ℕ → Letter → Type 0
  IsOnItsWay f c l = is_write l ≡ true →
      (h : Hold) × (hold_at standing_at c ≡ Some h) × (h.node ≡ f) × IsUp f
      × (acts c l (replica_of (old standing_at c) c) ≡ replica_of standing_at.registry c)

  abbrev pub AllDead : List Process → Type 0
  AllDead [] = Unit {0}
  AllDead (p ∷ ps) = (standing_at.registry.dead p ≡ true) × AllDead ps

  -- the replicas are those of the registry of the history
  pub record Replicas : Type 0 where
    pub legal : IsLegal (in_cluster o) w.history
    pub departed : (d : ℕ) → standing_at.registry.left d ≡ left w d
    pub joined_inside : (c : ℕ) → standing_at.registry.joined c ≡ true → in_world o c ≡ true
    -- an operation of a node holds by the history exactly while the node writes, and then it runs
    pub holds : (a : ℕ) → is_holding standing_at a ≡ is_writing (current a)
    pub writers : (a : ℕ) → is_writing (current a) ≡ true → IsUp a
    pub written : (a : ℕ) → IsWritten a (current a)
    -- a node shows the registry with the operation that holds, or without it where it still has to carry it out
    pub facts : (c : ℕ) → IsUp c → replica c ≡ replica_of
        (if is_pending c then old standing_at c else standing_at.registry) c
    pub notes : (f c : ℕ) → left w c ≡ false → Each (IsOnItsWay f c) (w.links.queue f c)
    -- who dies by a letter, who is dead at home and who is to be struck is dead
    pub kills : (f c : ℕ) → left w c ≡ false → Each (λ l. AllDead (kills_in l)) (w.links.queue f c)
    pub dead : (a s : ℕ) → is_dead (w.node a).watch s ≡ true
        → standing_at.registry.dead (record { node = a; serial = s }) ≡ true

  -- what the replicas ask of the joins
  pub record JoinsKnown : Type 0 where
    -- the joiner of an admission that is asked for waits for it, lone, with the names that it sent
    pub admission : (m j : ℕ) (pairs : Table) (r : Round) → IsUp m → current m
        ≡ Current.Asking (Op.Admission j pairs) r →
        (standing_at.registry.joined j ≡ false) × (standing_at.registry.lone j ≡ pairs) × ((replica m).joined ≡ true)
        × ((k : ℕ) × (current j ≡ Current.Joining k m))
    -- a node with a welcome on its way waits for it
    pub welcome : (f n : ℕ) → IsUp n → Each (λ l. is_welcome l ≡ true → (k : ℕ) × (current n ≡ Current.Joining k f))
        (w.links.queue f n)
