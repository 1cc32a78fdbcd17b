-- What lies behind a round that ends held.
use Rattle.std.specs.Prelude.{ℕ, Bool, true, false, ◌≡◌, ◌<◌, ◌||◌, List, [], ◌∷◌}
use Rattle.registry_model.specs.Process.{Nodes}
use Rattle.protocol_model.specs.Round as protocol
use Rattle.protocol_model.specs.Round.{Round, is_refused, is_gone, has_granted, granted, is_empty, is_over}

-- what a round takes in
pub data Move : Type 0 where
  Answers : (node : ℕ) (granted : Bool) → Move
  GoesDown : (node : ℕ) → Move

-- the round behind these moves, the oldest first
abbrev pub after : List Move → Round → Round
after [] r = r
after (Answers c granted ∷ moves) r = after moves (protocol.answer c granted r)
after (GoesDown c ∷ moves) r = after moves (protocol.down c r)

-- each member granted, or went down before it answered; nobody refused; and some node granted and runs
pub record IsGranted (n : ℕ) (members : Nodes) (r : Round) : Type 0 where
  pub each : (c : ℕ) → c < n → members c ≡ true → (has_granted (r.mark c) || is_gone (r.mark c)) ≡ true
  pub nobody_refused : (c : ℕ) → c < n → is_refused (r.mark c) ≡ false
  pub somebody : is_empty n (granted r) ≡ false

-- a round over a set that is over and ends held is granted
abbrev pub HeldIsGranted : ℕ → Nodes → Nodes → List Move → Type 0
HeldIsGranted n asked members moves =
    is_over n (after moves (protocol.begin n asked)) ≡ true
    → protocol.ending n members (after moves (protocol.begin n asked)) ≡ protocol.Held
    → IsGranted n members (after moves (protocol.begin n asked))
