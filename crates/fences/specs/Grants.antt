-- Grants in a run: which node holds what when they are answered, and the number that goes with each.
use Rattle.std.specs.Prelude.{ℕ, Bool, true, false, ◌≡◌, ◌==◌, ◌&&◌, ◌<◌, ◌+◌, ◌*◌, Contains, Some, List, [], ◌∷◌, ◌++◌}
use Rattle.registry_model.specs.declared.limits.TheConstants.{MOST_NODES}
use Rattle.registry_model.specs.Process.{Text, Process}
use Rattle.registry_model.specs.Call.{True}
use Rattle.protocol_model.specs.Letter.{Id, Client}
use Rattle.protocol_model.specs.LockTable.{Locks, count}
use Rattle.protocol_model.specs.Event.{Answer}
use Rattle.protocol_model.specs.ClientLocks.{holds_count}
use Rattle.protocol_model.specs.LockAnswers.{Tries, is_asked_first, tries_of}
use Rattle.protocol_model.specs.Quiet.{Runs}
use Rattle.protocol_model.specs.World.{Opening, in_world, World, WorldEvent, Deliver, opening_world}
use Rattle.closings.specs.Merging.{Step, IsInOrder, happening, events_in, world_behind, TakesAll}

-- a run: steps by their stamps, and those of one stamp by their nodes, which a world that opens so takes one after the other
pub record IsRun (o : Opening) (ss : List Step) : Type 0 where
  pub order : IsInOrder ss
  pub takes : TakesAll o (opening_world o) ss

-- the number of a step: its stamp, and behind it the place of its node, one of as many as there may be nodes
abbrev pub fence : (ℕ → ℕ) → Step → ℕ
fence place s = s.entry.stamp * MOST_NODES + place s.node

-- each node of the world has one of these places
abbrev pub ArePlaces : Opening → (ℕ → ℕ) → Type 0
ArePlaces o place = (a : ℕ) → in_world o a ≡ true → place a < MOST_NODES

-- p's last try is answered `true`
abbrev pub true_to : Process → Tries → Answer
true_to p t = record { node = p.node; number = t.last.number; reply = True }

-- a grant: a step of the run answers `true` to the last `set_lock` of a process
pub record Grant (o : Opening) (ss : List Step) : Type 0 where
  pub before : List Step
  pub step : Step
  pub later : List Step
  pub split : ss ≡ before ++ step ∷ later
  pub holder : Process
  pub resource : Text
  pub requester : Text
  pub tries : Tries
  pub last : tries_of o (events_in (before ++ step ∷ [])) holder ≡ Some tries
  pub id : tries.last.id ≡ Client resource requester
  pub given : Contains step.entry.answers (true_to holder tries)

-- the lock table has the resource under this requester, and under no other
pub record IsUnder (t : Locks) (resource requester : Text) : Type 0 where
  pub holder : Process
  pub has : 0 < count (Client resource requester) holder t
  pub alone : (q : Process) (other : Text) → 0 < count (Client resource other) q t → other ≡ requester

-- by the event node c takes p's request for this lock
abbrev pub takes_request : World → WorldEvent → Process → Id → ℕ → Bool
takes_request w e p id c = elim e [
  | Deliver f t ↦ (f == p.node) && (t == c) && is_asked_first id p (w.links.queue f t)
  | _ ↦ false
]

module _ {o : Opening} {ss : List Step} where
  -- the steps up to that of a grant, and with it
  abbrev pub up_to : Grant o ss → List Step
  up_to g = g.before ++ g.step ∷ []

  -- how often the holder of a grant has its lock at node c behind these steps
  abbrev pub held : Grant o ss → ℕ → List Step → ℕ
  held g c steps = holds_count o (events_in steps) g.holder (Client g.resource g.requester) c

  -- when the grant is answered, node c runs
  abbrev pub RunsAt : Grant o ss → ℕ → Type 0
  RunsAt g c = Runs o (world_behind o (up_to g)) c

  -- when the grant is answered, node c's lock table has the resource under its requester alone
  abbrev pub StandsAt : Grant o ss → ℕ → Type 0
  StandsAt g c = IsUnder ((world_behind o (up_to g)).node c).locks g.resource g.requester

  -- where node c takes the request that the grant answers, its holder's last one for the lock; from then on until it is answered
  -- the lock stands in c's lock table
  pub record IsRequested (g : Grant o ss) (c : ℕ) : Type 0 where
    pub before : List Step
    pub step : Step
    pub between : List Step
    pub split : g.before ≡ before ++ step ∷ between
    pub takes : takes_request (world_behind o before) (happening step) g.holder (Client g.resource g.requester) c ≡ true
    pub last : (front : List Step) (s : Step) (rest : List Step) → between ≡ front ++ s ∷ rest →
        takes_request (world_behind o (before ++ step ∷ front)) (happening s) g.holder (Client g.resource g.requester) c ≡ false
    pub stands : (front rest : List Step) → between ≡ front ++ rest →
        0 < count (Client g.resource g.requester) g.holder ((world_behind o (before ++ step ∷ front)).node c).locks

  -- the step of h comes behind that of g
  abbrev pub IsLater : Grant o ss → Grant o ss → Type 0
  IsLater g h = (between : List Step) × (h.before ≡ g.before ++ g.step ∷ between)

  -- two grants of one resource under different requesters, both of which asked node c
  pub record AreRivals (g h : Grant o ss) (c : ℕ) : Type 0 where
    pub resource : g.resource ≡ h.resource
    pub requesters : g.requester ≡ h.requester → ⊥
    pub asked : g.tries.last.asks c ≡ true
    pub asked_too : h.tries.last.asks c ≡ true

  -- Grant g comes first at node c, and then h
  pub record ComesFirst (g h : Grant o ss) (c : ℕ) : Type 0 where
    pub later : IsLater g h
    pub stamps : g.step.entry.stamp < h.step.entry.stamp
    -- when g is answered, its holder has the lock at c, and the other's hasn't
    pub has : 0 < held g c (up_to g)
    pub not_yet : held h c (up_to g) ≡ 0
    -- when h is answered, its holder has it, and the other's has it no more
    pub has_now : 0 < held h c (up_to h)
    pub no_more : held g c (up_to h) ≡ 0
    -- and so does c's lock table
    pub stands : StandsAt g c
    pub stands_now : StandsAt h c
    -- c takes the request that h answers behind the step of g
    pub request : IsRequested h c
    pub request_later : (between : List Step) × (request.before ≡ g.before ++ g.step ∷ between)
