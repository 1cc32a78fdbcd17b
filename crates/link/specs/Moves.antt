-- What is put on ordered links and taken off them, in one list.
use Rattle.std.specs.Prelude.{ℕ, Bool, true, false, ◌≡◌, ◌≤◌, ◌<◌, ◌==◌, ◌&&◌, Some, List, [], ◌∷◌, ◌++◌, All, length, map, if◌then◌else◌}
use Rattle.std.specs.List.{slice_get}
use Rattle.protocol_model.specs.Links.{Links, no_letters, posted, taken, closed_out}
use Rattle.link.specs.MeshState.{only_to}
use Rattle.link.specs.Reopening.{reopened}
use Rattle.link.specs.Rule.{Begins}

-- a letter from one node to another is put, or taken; or a node is closed out, or reopened
pub data Move (L : Type 0) : Type 0 where
  Puts : (sender receiver : ℕ) → (letter : L) → Move L
  Takes : (sender receiver : ℕ) → (letter : L) → Move L
  Closes : (node : ℕ) → Move L
  Reopens : (node : ℕ) → Move L

module _ {L : Type 0} where
  -- what a move makes of the links
  abbrev pub moved : Links L → Move L → Links L
  moved links (Puts f t l) = posted f (only_to t l) links
  moved links (Takes f t l) = taken f t links
  moved links (Closes d) = closed_out d links
  moved links (Reopens d) = reopened d links

  -- all that f puts for t, the oldest first
  abbrev pub put_on : ℕ → ℕ → List (Move L) → List L
  put_on f t [] = []
  put_on f t (Puts x y l ∷ ms) = if f == x && (t == y) then l ∷ put_on f t ms else put_on f t ms
  put_on f t (Takes x y l ∷ ms) = put_on f t ms
  put_on f t (Closes d ∷ ms) = put_on f t ms
  put_on f t (Reopens d ∷ ms) = put_on f t ms

  -- all that t takes of f, the oldest first
  abbrev pub taken_off : ℕ → ℕ → List (Move L) → List L
  taken_off f t [] = []
  taken_off f t (Puts x y l ∷ ms) = taken_off f t ms
  taken_off f t (Takes x y l ∷ ms) = if f == x && (t == y) then l ∷ taken_off f t ms else taken_off f t ms
  taken_off f t (Closes d ∷ ms) = taken_off f t ms
  taken_off f t (Reopens d ∷ ms) = taken_off f t ms

  -- t's stay: the moves until t is reopened after a closing. out: it's closed out already
  abbrev pub stay : ℕ → Bool → List (Move L) → List (Move L)
  stay t out [] = []
  stay t out (Puts x y l ∷ ms) = Puts x y l ∷ stay t out ms
  stay t out (Takes x y l ∷ ms) = Takes x y l ∷ stay t out ms
  stay t out (Closes d ∷ ms) = Closes d ∷ stay t (if t == d then true else out) ms
  stay t out (Reopens d ∷ ms) = if out && (t == d) then [] else Reopens d ∷ stay t out ms

  -- its later stays: the moves behind each such reopening, until the next
  abbrev pub later_stays : ℕ → Bool → List (Move L) → List (List (Move L))
  later_stays t out [] = []
  later_stays t out (Puts x y l ∷ ms) = later_stays t out ms
  later_stays t out (Takes x y l ∷ ms) = later_stays t out ms
  later_stays t out (Closes d ∷ ms) = later_stays t (if t == d then true else out) ms
  later_stays t out (Reopens d ∷ ms) = if out && (t == d) then stay t false ms ∷ later_stays t false ms else later_stays t out ms

  -- all its stays: for a node that is never reopened all moves are one
  abbrev pub stays : ℕ → List (Move L) → List (List (Move L))
  stays t ms = stay t false ms ∷ later_stays t false ms

  -- a node that was closed out takes nothing until it is reopened
  abbrev pub ClosedTakeNothing : List (Move L) → Type 0
  ClosedTakeNothing [] = Unit {0}
  ClosedTakeNothing (Puts f t l ∷ ms) = ClosedTakeNothing ms
  ClosedTakeNothing (Takes f t l ∷ ms) = ClosedTakeNothing ms
  ClosedTakeNothing (Closes d ∷ ms) = ((f : ℕ) → taken_off f d (stay d true ms) ≡ []) × ClosedTakeNothing ms
  ClosedTakeNothing (Reopens d ∷ ms) = ClosedTakeNothing ms

  -- of what f puts for t a beginning is taken
  abbrev pub TakesBeginning : ℕ → ℕ → List (Move L) → Type 0
  TakesBeginning f t ms = Begins (taken_off f t ms) (put_on f t ms)

  -- no more is taken of it than was put
  abbrev pub TakesNoMore : ℕ → ℕ → List (Move L) → Type 0
  TakesNoMore f t ms = length (taken_off f t ms) ≤ length (put_on f t ms)

  -- of each pair, in each stay of the receiver, a beginning of what is put is taken, and at no point more than was put
  pub record ArePrefixes (ms : List (Move L)) : Type 0 where
    pub begins : (f t : ℕ) → All (TakesBeginning f t) (stays t ms)
    pub enough : (before after : List (Move L)) (f t : ℕ) → ms ≡ before ++ after → All (TakesNoMore f t) (stays t before)
    pub gone : ClosedTakeNothing ms

  -- a letter that is taken is the oldest on its link
  abbrev pub TakesOldest : Links L → Move L → Type 0
  TakesOldest links (Puts f t l) = Unit {0}
  TakesOldest links (Takes f t l) = slice_get (links.queue f t) 0 ≡ Some l
  TakesOldest links (Closes d) = Unit {0}
  TakesOldest links (Reopens d) = Unit {0}

  -- so is each of them
  abbrev pub AreDelivered : Links L → List (Move L) → Type 0
  AreDelivered links [] = Unit {0}
  AreDelivered links (m ∷ ms) = TakesOldest links m × AreDelivered (moved links m) ms

-- prefixes of what each pair puts, in one list in which a letter is put before it is taken, are deliveries of the oldest letter
abbrev pub PrefixesAreDelivered : Type 0 → Type 0
PrefixesAreDelivered L = (ms : List (Move L)) → ArePrefixes ms → AreDelivered no_letters ms

-- a move of a step with this stamp
pub record StampedMove (L : Type 0) : Type 0 where
  pub stamp : ℕ
  pub move : Move L

-- the moves without their stamps
abbrev pub moves_of : {L : Type 0} → List (StampedMove L) → List (Move L)
moves_of ss = map (λ s. s.move) ss

-- sent_at: the stamp of the step that puts a letter
module _ {L : Type 0} (sent_at : L → ℕ) where
  -- a step with stamp n puts letters with that stamp, and takes such with a lesser one
  abbrev pub IsTimely : ℕ → Move L → Type 0
  IsTimely n (Puts f t l) = sent_at l ≡ n
  IsTimely n (Takes f t l) = sent_at l < n
  IsTimely n (Closes d) = Unit {0}
  IsTimely n (Reopens d) = Unit {0}

  -- the moves stand in the order of their stamps, of which none is below n
  abbrev pub AreByStamp : ℕ → List (StampedMove L) → Type 0
  AreByStamp n [] = Unit {0}
  AreByStamp n (s ∷ ss) = (n ≤ s.stamp) × IsTimely s.stamp s.move × AreByStamp s.stamp ss

  -- of each pair, in each stay of the receiver, a beginning of what is put is taken, in one list by stamps
  pub record AreStampedPrefixes (ss : List (StampedMove L)) : Type 0 where
    pub begins : (f t : ℕ) → All (TakesBeginning f t) (stays t (moves_of ss))
    pub stamps : AreByStamp 0 ss
    pub gone : ClosedTakeNothing (moves_of ss)

  -- prefixes of what each pair puts, merged by stamp, are deliveries of the oldest letter
  abbrev pub StampedPrefixesAreDelivered : Type 0
  StampedPrefixesAreDelivered = (ss : List (StampedMove L)) → AreStampedPrefixes ss → AreDelivered no_letters (moves_of ss)
