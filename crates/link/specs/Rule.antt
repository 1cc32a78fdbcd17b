-- The rule of an inbox: for each sender, its items in what was taken and then in the queue are what it put.
use Rattle.std.specs.Prelude.{◌≡◌, ℕ, ◌<◌, ◌≤◌, ◌==◌, true, false, List, [], ◌++◌}
use Rattle.std.specs.List.{filter}
use mathlib.Core.Option.{some}
use lib.ListN.{get_elem?}
use Rattle.link.specs.declared.mailbox.rule.Hand.{Hand}

module _ {T : Type 0} where
  -- the first pass makes senders and takes
  abbrev pub opening : Hand T
  opening = record { makes = true; made = 0; sends = false; from = 0; put = []; gets = true; taken = [] }

  -- a new sender, which has put nothing
  abbrev pub newcomer : ℕ → Hand T
  newcomer from = record { makes = false; made = 0; sends = true; from = from; put = []; gets = false; taken = [] }

  -- the receiver, which has taken these
  abbrev pub receiver : List T → Hand T
  receiver taken = record { makes = false; made = 0; sends = false; from = 0; put = []; gets = true; taken = taken }

  -- a pass that is spent
  abbrev pub idle : Hand T
  idle = record { makes = false; made = 0; sends = false; from = 0; put = []; gets = false; taken = [] }

  -- xs is a beginning of ys
  abbrev pub Begins : List T → List T → Type 0
  Begins xs ys = (rest : List T) × (ys ≡ xs ++ rest)

module _ {T : Type 0} (source : T → ℕ) where
  -- the items of this sender, in order
  abbrev pub of : ℕ → List T → List T
  of p = filter (λ x. source x == p)

  -- a pass knows what its roles say: a sender all that it put, the receiver all that was taken, the maker how many senders
  -- there are. The sender with the number p has the pass seat p, and all are the items that were put
  pub record Fits (maker reader made : ℕ) (seat : ℕ → ℕ) (got all : List T) (pass : ℕ) (v : Hand T) : Type 0 where
    pub sends : v.sends ≡ true → (seat v.from ≡ pass) × (v.from < made) × (v.put ≡ of v.from all)
    pub gets : v.gets ≡ true → (pass ≡ reader) × (v.taken ≡ got)
    pub makes : v.makes ≡ true → (pass ≡ maker) × (v.made ≡ made)

  pub record Kept (items : List T) (views : List (Hand T)) : Type 0 where
    pub maker : ℕ
    pub reader : ℕ
    pub made : ℕ
    pub seat : ℕ → ℕ
    pub got : List T
    pub strangers : (p : ℕ) → made ≤ p → of p (got ++ items) ≡ []
    pub fits : (pass : ℕ) (v : Hand T) → get_elem? views pass ≡ some v
        → Fits maker reader made seat got (got ++ items) pass v

  -- what was taken of the sender is a beginning of what it put
  abbrev pub Hears : Hand T → List T → Type 0
  Hears v items = Begins (of v.from v.taken) v.put
