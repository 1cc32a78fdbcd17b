-- Links whose letters are seen as others, letters that aren't on their links yet, and what may stand on a link.
use Rattle.std.specs.Prelude.{ℕ, true, false, ◌==◌, ◌<◌, ◌≡◌, ◌&&◌, ◌||◌, ◌⊎◌, nat_le, nat_lt, Option, Some, None, List, [], ◌∷◌, map, filter, All, if◌then◌else◌}
use Rattle.registry_model.specs.Process.{Nodes}
use Rattle.link.specs.declared.link_place.LinkPlace.{LinkPlace}
use Rattle.link.specs.MeshState.{place}
use Rattle.protocol_model.specs.Links.{Links, is_nil, posted}
use Rattle.term.specs.Nodes.{name_of}
use Rattle.term.specs.NodeSets.{set_of, with_older}
use Rattle.node_core.specs.declared.Letter.{Letter}
use Rattle.node_core.specs.Steps.{IsSaidBy}

-- the same links, where f says what each letter is
abbrev pub mapped : {L M : Type 0} → (L → M) → Links L → Links M
mapped f w = record { queue = λ a b. map f (w.queue a b); closed = w.closed }

-- of these letters with their receivers, those to t
abbrev pub letters_to : {L : Type 0} → ℕ → List (ℕ × L) → List L
letters_to t ss = map (λ s. s.1) (filter (λ s. s.0 == t) ss)

-- a letter, and the node that sent it
pub record SentLetter : Type 0 where
  pub sender : ℕ
  pub letter : Letter

-- letters of the node at a place with their receivers, in order, that aren't on their links yet
pub record Unsent : Type 0 where
  pub place : ℕ
  pub sender : ℕ
  pub letters : List (ℕ × Letter)

-- these links, with the letters behind that aren't on theirs yet
abbrev pub with_unsent : Option Unsent → Links Letter → Links Letter
with_unsent None w = w
with_unsent (Some u) w = posted u.sender (λ t. letters_to t u.letters) w

-- what is left of the letters of node a, which stands at place p, if anything is
abbrev pub rest_as : ℕ → ℕ → List (ℕ × Letter) → Option Unsent
rest_as p a [] = None
rest_as p a (l ∷ ls) = Some (record { place = p; sender = a; letters = l ∷ ls })

-- where these nodes are at present, the link is the one from the nodes of name x to node t
pub record IsBetween (k : LinkPlace) (x t : ℕ) (nodes : List ℕ) : Type 0 where
  pub sender : (s : ℕ) × (place s nodes ≡ Some k.sender) × (name_of s ≡ x)
  pub receiver : place t nodes ≡ Some k.receiver

-- of the nodes of name x, the oldest one of which a letter waits for t, if one does
abbrev pub IsFirstSender : ℕ → ℕ → Option ℕ → Links Letter → Type 0
IsFirstSender x t None w = (f : ℕ) → name_of f ≡ x → w.queue f t ≡ []
IsFirstSender x t (Some f) w = (name_of f ≡ x) × (is_nil (w.queue f t) ≡ false)
    × ((g : ℕ) → name_of g ≡ x → g < f → w.queue g t ≡ [])

-- the first link on which a letter waits, in the order of the names of senders and then of receivers, and who sent the oldest one there
abbrev pub WaitsFirst : Option (ℕ × ℕ) → Links Letter → Type 0
WaitsFirst None w = (x y : ℕ) → w.queue x y ≡ []
WaitsFirst (Some (f, t)) w = IsFirstSender (name_of f) t (Some f) w
    × ((x y : ℕ) → (name_of x < name_of f) ⊎ ((name_of x ≡ name_of f) × (name_of y < name_of t)) → w.queue x y ≡ [])

-- of these letters with their receivers, the least node that one waits for, of those that weren't closed out
abbrev pub IsLeastOpen : {L : Type 0} → Nodes → List (ℕ × L) → Option ℕ → Type 0
IsLeastOpen closed ss None = (x : ℕ) → closed x ≡ false → letters_to x ss ≡ []
IsLeastOpen closed ss (Some t) =
    (closed t ≡ false) × (is_nil (letters_to t ss) ≡ false)
    × ((x : ℕ) → x < t → closed x ≡ false → letters_to x ss ≡ [])

-- the lesser of two nodes, of which the first may be missing
abbrev pub lesser : Option ℕ → ℕ → ℕ
lesser None a = a
lesser (Some c) a = if nat_le c a then c else a

-- the earlier of a link and the one from s to t by their names, if there are both
abbrev pub earlier : Option (ℕ × ℕ) → ℕ → Option ℕ → Option (ℕ × ℕ)
earlier first s None = first
earlier None s (Some t) = Some (s, t)
earlier (Some (f, u)) s (Some t) =
    if nat_lt (name_of f) (name_of s) || ((name_of f == name_of s) && nat_le (name_of u) (name_of t))
    then Some (f, u)
    else Some (s, t)

-- For nodes at present alone letters wait, of nodes that have started, none for one that has left, and each says what its reader relies on
pub record AreFit (nodes : List ℕ) (w : Links Letter) : Type 0 where
  pub known : (f t : ℕ) → (with_older nodes f && set_of nodes t) ≡ false → w.queue f t ≡ []
  pub quiet : (f t : ℕ) → w.closed t ≡ true → w.queue f t ≡ []
  pub said : (f t : ℕ) → All (IsSaidBy nodes t f) (w.queue f t)
