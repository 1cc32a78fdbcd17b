-- What lines are, whatever was put on them.
use Rattle.std.proofs.Common.{ℕ, Bool, true, false, ◌==◌, ◌≡◌, List, [], ◌∷◌, map, refl, ap}
use Rattle.std.specs.Prelude.{if◌then◌else◌}
use Rattle.link.specs.Mailboxes.{Room}
use Rattle.node_loop.specs.declared.item.Item.{Item}
use Rattle.node_seats.specs.declared.parcel.Parcel.{Parcel}
use Rattle.node_seats.specs.Lines.{Sent, with_parcel, with_parcel_to}
use Rattle.node_threads.specs.Givers.{receivers}
use Rattle.node_seats.specs.Addresses.{Inbox}
use Rattle.node_threads.specs.Wires.{line_to, unused}

-- the inboxes that lines lead into
abbrev pub rooms : List (Sent Item) → List (Room (Parcel Item))
rooms lines = map (λ l. l.room) lines

-- an item more changes none of it
module _ (to : ℕ) (i : Item) where
  pub unused_kept : (lines : List (Sent Item)) → map unused (with_parcel_to to i lines) ≡ map unused lines
  unused_kept [] = refl
  unused_kept (line ∷ lines) = go (line.receiver == to) (unused_kept lines)
    where
      go : (b : Bool) → map unused (with_parcel_to to i lines) ≡ map unused lines
          → map unused (if b then with_parcel i line ∷ lines else line ∷ with_parcel_to to i lines) ≡ unused line ∷ map unused lines
      go true rest = refl
      go false rest = ap (λ (ls : List (Sent Item)). unused line ∷ ls) rest

  pub receivers_kept : (lines : List (Sent Item)) → receivers (with_parcel_to to i lines) ≡ receivers lines
  receivers_kept [] = refl
  receivers_kept (line ∷ lines) = go (line.receiver == to) (receivers_kept lines)
    where
      go : (b : Bool) → receivers (with_parcel_to to i lines) ≡ receivers lines
          → receivers (if b then with_parcel i line ∷ lines else line ∷ with_parcel_to to i lines) ≡ line.receiver ∷ receivers lines
      go true rest = refl
      go false rest = ap (λ (cs : List ℕ). line.receiver ∷ cs) rest

-- so of lines on which nothing was put
pub receivers_unused : (lines : List (Sent Item)) → receivers (map unused lines) ≡ receivers lines
receivers_unused [] = refl
receivers_unused (line ∷ lines) = ap (λ (cs : List ℕ). line.receiver ∷ cs) (receivers_unused lines)

pub rooms_unused : (lines : List (Sent Item)) → rooms (map unused lines) ≡ rooms lines
rooms_unused [] = refl
rooms_unused (line ∷ lines) = ap (λ (rs : List (Room (Parcel Item))). line.room ∷ rs) (rooms_unused lines)

-- and of the lines into inboxes
module _ (number : ℕ) where
  pub unused_new : (xs : List Inbox) → map unused (map (line_to number) xs) ≡ map (line_to number) xs
  unused_new [] = refl
  unused_new (x ∷ xs) = ap (λ (ls : List (Sent Item)). line_to number x ∷ ls) (unused_new xs)

  pub receivers_new : (xs : List Inbox) → receivers (map (line_to number) xs) ≡ map (λ x. x.node) xs
  receivers_new [] = refl
  receivers_new (x ∷ xs) = ap (λ (cs : List ℕ). x.node ∷ cs) (receivers_new xs)

  pub rooms_new : (xs : List Inbox) → rooms (map (line_to number) xs) ≡ map (λ x. x.room) xs
  rooms_new [] = refl
  rooms_new (x ∷ xs) = ap (λ (rs : List (Room (Parcel Item))). x.room ∷ rs) (rooms_new xs)
