-- What was taken, as it is held against what was put.
use Rattle.std.proofs.Common.{ℕ, ◌+◌, ◌≡◌, ◌<◌, ◌⊎◌, inl, inr, List, Vec, [], ◌∷◌, ◌++◌, length, map, get_or, refl, sym, ap, subst, ◌∙◌, arith}
use Rattle.std.specs.Prelude.{All}
use Rattle.std.specs.declared.alloc.Global.{Global}
use Rattle.std.proofs.lemmas.Bool.{cases_eq}
use Rattle.std.proofs.lemmas.List.{get_or_append_left, get_or_at, get_or_push, get_or-map, length-append, length_push, length-map, same_lists}
use Rattle.link.specs.Mailboxes.{Room}
use Rattle.node_loop.specs.declared.item.Item.{Item}
use Rattle.node_seats.specs.declared.parcel.Parcel.{Parcel}
use Rattle.node_seats.specs.Lines.{Sent}
use Rattle.replay.specs.Ends.{End}
use Rattle.node_seats.specs.Addresses.{Inbox}
use Rattle.node_threads.specs.Wires.{Wired, inboxes, IsCrew}
use Rattle.node_threads.specs.Drawing.{Drawn, Compares, CompareAll, AllCompared}
use Rattle.node_threads.specs.Ended.{AllReturn}
use Rattle.node_threads.proofs.Gathering.{item_at, returned}
use Rattle.node_threads.proofs.Lines.{rooms, rooms_unused, rooms_new}

-- one more of a list is such
at_one_more : {X : Type 0} (P : ℕ → X → Type 0) (xs : List X) (x : X) → ((k : ℕ) (d : X) → k < length xs → P k (get_or xs k d))
    → P (length xs) x → (k : ℕ) (d : X) → k < length (xs ++ x ∷ []) → P k (get_or (xs ++ x ∷ []) k d)
at_one_more {X} P xs x all one k d lt = at (cases_eq k (length xs))
  where
    at : (k ≡ length xs) ⊎ (k ≡ length xs → ⊥) → P k (get_or (xs ++ x ∷ []) k d)
    at (inl e) = subst (P k) (sym (get_or_push xs x d k (sym e))) (subst (λ (n : ℕ). P n x) (sym e) one)
    at (inr ne) =
        let below : k < length xs = omega (arith, lt, ne, length_push xs x) in
        subst (P k) (sym (get_or_append_left xs (x ∷ []) d k below)) (all k d below)

-- a line more of a row was held against the inbox at its place
pub compared_more : (row : List (Sent Item)) (line : Sent Item) (drawn : List Drawn) (d : Drawn) → CompareAll row drawn
    → Compares line d → ((e : Drawn) → get_or drawn (length row) e ≡ d) → CompareAll (row ++ line ∷ []) drawn
compared_more row line drawn d all one here = λ j l e lt. at_one_more (λ k x. Compares x (get_or drawn k e)) row line
    (λ k x m. all k x e m) (subst (Compares line) (sym (here e)) one) j l lt

-- the lines of a node more were
pub all_compared_more : (rows : List (List (Sent Item))) (row : List (Sent Item)) (drawn : List Drawn) → AllCompared rows drawn
    → CompareAll row drawn → AllCompared (rows ++ row ∷ []) drawn
all_compared_more rows row drawn all one = λ i r lt. at_one_more (λ k x. CompareAll x drawn) rows row all one i r lt

-- a line of a row leads into the inbox at its place
module _ (row done rest : List (Sent Item)) (line : Sent Item) (drawn : List Drawn) (same : map (λ l. l.room) row ≡ map (λ x. x.inbox.room) drawn) (parts : done ++ line ∷ rest ≡ row) where
  within : length done < length row
  within = omega (arith, ap length parts, length-append done (line ∷ rest))

  pub has_inbox : length done < length drawn
  has_inbox = omega (arith, within, ap length same, length-map row (λ (l : Sent Item). l.room), length-map drawn (λ (x : Drawn). x.inbox.room))

  pub room_at : (d : Drawn) → line.room ≡ (get_or drawn (length done) d).inbox.room
  room_at d =
      sym (ap (λ (l : Sent Item). l.room) stands) ∙ sym (get_or-map (λ (l : Sent Item). l.room) row (length done) line line.room within)
      ∙ ap (λ (rs : List (Room (Parcel Item))). get_or rs (length done) line.room) same
      ∙ get_or-map (λ (x : Drawn). x.inbox.room) drawn (length done) d line.room has_inbox
    where
      stands : get_or row (length done) line ≡ line
      stands = ap (λ (ls : List (Sent Item)). get_or ls (length done) line) (sym parts) ∙ get_or_at done line rest line (length done) refl

-- what threads give back leads so
module _ (cluster lone : List ℕ) (ws : List Wired) (crew : IsCrew cluster lone ws) (ends : List End) (rows : List (List (Sent Item))) (drawn : List Drawn) (A : AllReturn ws ends rows drawn) where
  -- the inboxes are those of the nodes
  drawn_from : map (λ x. x.inbox) drawn ≡ inboxes ws
  drawn_from = same_lists (map (λ (x : Drawn). x.inbox) drawn) (inboxes ws)
      (length-map drawn (λ (x : Drawn). x.inbox) ∙ A.as_many_drawn ∙ sym (length-map ws (λ (w : Wired). w.inbox)))
      (λ k d lt. at k d (omega (arith, lt, length-map drawn (λ (x : Drawn). x.inbox), A.as_many_drawn)))
    where
      at : (k : ℕ) (d : Inbox) → k < length ws → get_or (map (λ (x : Drawn). x.inbox) drawn) k d ≡ get_or (inboxes ws) k d
      at k d lt = get_or-map (λ (x : Drawn). x.inbox) drawn k (record { inbox = d; taken = [] }) d (omega (arith, lt, A.as_many_drawn))
          ∙ (returned ws ends rows drawn A k lt (item_at ws k lt) [] (record { inbox = d; taken = [] })).inbox
          ∙ sym (get_or-map (λ (w : Wired). w.inbox) ws k (item_at ws k lt) d lt)

  rooms_drawn : map (λ x. x.inbox.room) drawn ≡ map (λ b. b.room) (inboxes ws)
  rooms_drawn = sym (by_inbox drawn) ∙ ap (map (λ (b : Inbox). b.room)) drawn_from
    where
      by_inbox : (ds : List Drawn) → map (λ b. b.room) (map (λ x. x.inbox) ds) ≡ map (λ x. x.inbox.room) ds
      by_inbox [] = refl
      by_inbox (d ∷ ds) = ap (λ (rs : List (Room (Parcel Item))). d.inbox.room ∷ rs) (by_inbox ds)

  -- each row of lines leads into them, in their order
  rooms_of : (k : ℕ) (r : List (Sent Item)) → k < length ws → map (λ l. l.room) (get_or rows k r) ≡ map (λ x. x.inbox.room) drawn
  rooms_of k r lt =
      let w = item_at ws k lt in
      sym (rooms_unused (get_or rows k r))
      ∙ ap rooms ((returned ws ends rows drawn A k lt w r (item_at drawn k (omega (arith, lt, A.as_many_drawn)))).kept ∙ crew.wired k w lt)
      ∙ rooms_new (k + 1) (inboxes ws) ∙ sym rooms_drawn

  -- so as they are held
  pub rows_lead : (vs : List (Vec (Sent Item) Global)) → rows ≡ map (λ v. v.items) vs
      → All (λ v. map (λ l. l.room) v.items ≡ map (λ x. x.inbox.room) drawn) vs
  rows_lead vs is k d lt =
      sym (ap (λ (r : List (Sent Item)). map (λ (l : Sent Item). l.room) r)
      (ap (λ (rs : List (List (Sent Item))). get_or rs k d.items) is ∙ get_or-map (λ v. v.items) vs k d d.items lt))
      ∙ rooms_of k d.items (omega (arith, lt, ap length is, length-map vs (λ v. v.items), A.as_many_rows))
