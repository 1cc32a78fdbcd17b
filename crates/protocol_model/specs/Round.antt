-- A lock round: one node asks others for a grant, the greatest of them first, and then the rest at once.
-- The greatest is the boss of the round.
use Rattle.std.specs.Prelude.{ℕ, Bool, true, false, zero, suc, not, ◌&&◌, ◌||◌, ◌==◌, if◌then◌else◌}
use Rattle.registry_model.specs.Process.{Nodes, at}

-- no node below n is in the set
abbrev pub is_empty : ℕ → Nodes → Bool
is_empty zero s = true
is_empty (suc n) s = not (s n) && is_empty n s

-- the greatest node of a set below n; 0 where there is none
abbrev pub greatest : ℕ → Nodes → ℕ
greatest zero s = 0
greatest (suc n) s = if s n then n else greatest n s

-- what a round knows of a node
pub data Mark : Type 0 where
  Out : Mark  -- isn't asked by this round
  Later : Mark  -- is asked once the boss has granted
  Owes : Mark  -- was asked and owes an answer
  Granted : Mark
  Refused : Mark
  Lost : Mark  -- granted, and has gone down since
  Gone : Mark  -- has gone down before it answered

-- the boss, and a mark for each node
pub record Round : Type 0 where
  pub boss : ℕ
  pub mark : ℕ → Mark

-- isn't asked
abbrev pub is_out : Mark → Bool
is_out Out = true
is_out _ = false

-- owes an answer
abbrev pub is_owes : Mark → Bool
is_owes Owes = true
is_owes _ = false

-- has granted and not gone down
abbrev pub is_granted : Mark → Bool
is_granted Granted = true
is_granted _ = false

-- has refused
abbrev pub is_refused : Mark → Bool
is_refused Refused = true
is_refused _ = false

-- has granted, whether it has gone down since or not
abbrev pub has_granted : Mark → Bool
has_granted Granted = true
has_granted Lost = true
has_granted _ = false

-- has gone down before it answered
abbrev pub is_gone : Mark → Bool
is_gone Gone = true
is_gone _ = false

-- a round over a set, of which the boss alone is asked at first
abbrev pub begin : ℕ → Nodes → Round
begin n s = record { boss = greatest n s; mark = λ c. if s c then (if c == greatest n s then Owes else Later) else Out }

-- all that the round asks, now or later
abbrev pub asked : Round → Nodes
asked r c = not (is_out (r.mark c))

-- all of these but the boss
abbrev pub rest : Round → Nodes
rest r c = asked r c && not (c == r.boss)

-- whom to ask at this point: the boss until it has answered, the rest once it has granted
abbrev pub asked_now : Round → Nodes
asked_now r c =
    if has_granted (r.mark r.boss) then rest r c else (c == r.boss) && is_owes (r.mark r.boss)

-- who is to be asked later is asked now
abbrev pub asked_too : Mark → Mark
asked_too Later = Owes
asked_too m = m

-- the mark of c is m
abbrev pub marked : ℕ → Mark → Round → Round
marked c m r = record r { mark = at r.mark c m }

-- c owes an answer
abbrev pub owes : Round → Nodes
owes r c = is_owes (r.mark c)

-- it is the boss's grant, which opens the round to the rest
abbrev pub opens : ℕ → Bool → Round → Bool
opens c granted r = granted && (c == r.boss) && owes r c

-- c answers; an answer that isn't owed changes nothing
abbrev pub answer : ℕ → Bool → Round → Round
answer c granted r =
    if opens c granted r
    then marked c Granted (record r { mark = λ x. asked_too (r.mark x) })
    else (if owes r c then marked c (if granted then Granted else Refused) r else r)

-- the mark of a node that goes down
abbrev pub mark_down : Mark → Mark
mark_down Later = Gone
mark_down Owes = Gone
mark_down Granted = Lost
mark_down m = m

-- c goes down
abbrev pub down : ℕ → Round → Round
down c r = marked c (mark_down (r.mark c)) r

-- the boss refused, or went down before it answered, or granted and nobody owes an answer
abbrev pub is_over : ℕ → Round → Bool
is_over n r =
    is_refused (r.mark r.boss) || is_gone (r.mark r.boss) || has_granted (r.mark r.boss) && is_empty n (owes r)

-- how a round ends
pub data Ending : Type 0 where
  Held : Ending
  GiveBack : (granted : Nodes) → Ending  -- these get their grants back

-- who granted and hasn't gone down
abbrev pub granted : Round → Nodes
granted r c = is_granted (r.mark c)

-- the growth check: each of these members was asked
abbrev pub asked_all : ℕ → Nodes → Round → Bool
asked_all n members r = is_empty n (λ c. members c && is_out (r.mark c))

-- the boss granted, nobody refused, all these members were asked, and some node that granted hasn't gone down
abbrev pub is_held : ℕ → Nodes → Round → Bool
is_held n members r =
    has_granted (r.mark r.boss) && is_empty n (λ c. is_refused (r.mark c)) && asked_all n members r && not (is_empty n (granted r))

-- how a round that is over ends, by the members as they are now
abbrev pub ending : ℕ → Nodes → Round → Ending
ending n members r = if is_held n members r then Held else GiveBack (granted r)
