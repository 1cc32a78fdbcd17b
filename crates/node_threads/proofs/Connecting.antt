-- Nodes, as they are connected with one another.
use Rattle.std.proofs.Common.{ℕ, ◌+◌, ◌≡◌, ◌<◌, ◌⊎◌, inl, inr, List, [], ◌∷◌, ◌++◌, length, map, take, drop, get_or, set, refl, sym, ap, subst, ◌∙◌, arith, get_or-set_same, get_or-set_other}
use Rattle.std.specs.Prelude.{All}
use Rattle.std.proofs.lemmas.Bool.{cases_eq}
use Rattle.std.proofs.lemmas.List.{drop_more, get_or_at, get_or-map, length-map, length-take-le, map_push}
use Rattle.std.proofs.lemmas.List.Elements.{All-set, All-tail, All-head}
use Rattle.std.proofs.Math.Seq.{map-set_same}
use Rattle.node_loop.specs.declared.item.Item.{Item}
use Rattle.node_seats.specs.Lines.{Sent}
use Rattle.node_seats.specs.Addresses.{Inbox}
use Rattle.node_threads.specs.Wires.{Wired, name_of, line_to, unused, inboxes, AreWired}
use Rattle.node_threads.specs.Berths.{Berthed, wired_of, opened_of, next_line, one_more}
use Rattle.node_threads.proofs.Lines.{unused_new}

-- what is read next, where those before it were changed
pub read_next : {X : Type 0} (f : X → X) (xs ys : List X) (i : ℕ) (d : X) → i < length xs → ys ≡ map f (take i xs) ++ drop i xs
    → get_or ys i d ≡ get_or xs i d
read_next {X} f xs ys i d lt is = ap (λ (l : List X). get_or l i d) (is ∙ ap (λ (l : List X). map f (take i xs) ++ l) (drop_more xs i d lt))
    ∙ get_or_at (map f (take i xs)) (get_or xs i d) (drop (i + 1) xs) d i
    (length-map (take i xs) f ∙ length-take-le i xs (omega (arith, lt)))

-- a node more has its name behind the others
pub names_push : (bs : List Berthed) (b : Berthed) → map name_of (wired_of (bs ++ b ∷ [])) ≡ map name_of (wired_of bs) ++ name_of b.wired ∷ []
names_push bs b = ap (map name_of) (map_push (λ (x : Berthed). x.wired) bs b) ∙ map_push name_of (wired_of bs) b.wired

-- the inboxes of these
abbrev pub inboxes_at : List Berthed → List Inbox
inboxes_at bs = map (λ b. b.wired.inbox) bs

-- they are told by what doesn't change
inboxes_by : (bs : List Berthed) → map (λ w. w.inbox) (map opened_of bs) ≡ inboxes_at bs
inboxes_by [] = refl
inboxes_by (b ∷ bs) = ap (λ (xs : List Inbox). b.wired.inbox ∷ xs) (inboxes_by bs)

inboxes_wired : (bs : List Berthed) → inboxes (wired_of bs) ≡ inboxes_at bs
inboxes_wired [] = refl
inboxes_wired (b ∷ bs) = ap (λ (xs : List Inbox). b.wired.inbox ∷ xs) (inboxes_wired bs)

-- where so many were made to each, the next line to each has that number
lines_of : (n : ℕ) (bs : List Berthed) → All (λ b. b.made ≡ n) bs → map next_line bs ≡ map (line_to n) (inboxes_at bs)
lines_of n [] all = refl
lines_of n (b ∷ bs) all = λ j. line_to (All-head (λ x. x.made ≡ n) b bs all j) b.wired.inbox
    ∷ lines_of n bs (All-tail (λ x. x.made ≡ n) b bs all) j

-- a line more changes nothing else
opened_more : (bs : List Berthed) → map opened_of (map one_more bs) ≡ map opened_of bs
opened_more [] = refl
opened_more (b ∷ bs) = ap (λ (ws : List Wired). opened_of b ∷ ws) (opened_more bs)

made_more : (n : ℕ) (bs : List Berthed) → All (λ b. b.made ≡ n) bs → All (λ b. b.made ≡ n + 1) (map one_more bs)
made_more n bs all k d lt =
    ap (λ (b : Berthed). b.made) (get_or-map one_more bs k d d within) ∙ ap (λ (m : ℕ). m + 1) (all k d within)
  where
    within : k < length bs
    within = omega (arith, lt, length-map bs one_more)

-- The first of these, so many, have their lines to all. The nodes are those that were there before; of each as many lines were made as
-- there are such, beside its cluster's own
pub record AreConnected (before : List Berthed) (place : ℕ) (bs : List Berthed) : Type 0 where
  pub opened : map opened_of bs ≡ map opened_of before
  pub made : All (λ b. b.made ≡ place + 1) bs
  pub wired : (i : ℕ) (d : Berthed) → i < place → (get_or bs i d).wired.lines ≡ map (line_to (i + 1)) (inboxes_at before)

-- none has at first
pub none_connected : (bs : List Berthed) → All (λ b. b.made ≡ 1) bs → AreConnected bs 0 bs
none_connected bs all = record { opened = refl; made = all; wired = λ i d lt. absurd (omega (arith, lt)) }

-- one more is
module _ (before bs : List Berthed) (place : ℕ) (C : AreConnected before place bs) (inside : place < length bs) (lines : List (Sent Item)) (are : lines ≡ map next_line bs) where
  same : inboxes_at bs ≡ inboxes_at before
  same = sym (inboxes_by bs) ∙ ap (λ (ws : List Wired). map (λ w. w.inbox) ws) C.opened ∙ inboxes_by before

  pub lines_are : lines ≡ map (line_to (place + 1)) (inboxes_at before)
  lines_are = are ∙ lines_of (place + 1) bs C.made ∙ ap (map (line_to (place + 1))) same

  pub lines_unused : map unused lines ≡ lines
  lines_unused = ap (map unused) lines_are ∙ unused_new (place + 1) (inboxes_at before) ∙ sym lines_are

  module _ (more : List Berthed) (is_more : more ≡ map one_more bs) (b new : Berthed) (read : b ≡ get_or more place b) (is : new ≡ record b { wired = record b.wired { lines = lines } }) where
    long : length more ≡ length bs
    long = ap length is_more ∙ length-map bs one_more

    made : b.made ≡ place + 1 + 1
    made = ap (λ (x : Berthed). x.made) (read ∙ ap (λ (xs : List Berthed). get_or xs place b) is_more)
        ∙ made_more (place + 1) bs C.made place b (omega (arith, inside, length-map bs one_more))

    pub one_connected : AreConnected before (place + 1) (set more place new)
    one_connected = record {
      opened = map-set_same opened_of more place new b (ap opened_of is ∙ ap opened_of read)
          ∙ ap (map opened_of) is_more ∙ opened_more bs ∙ C.opened;
      made = All-set (λ x. x.made ≡ place + 1 + 1) more place new (ap (λ (x : Berthed). x.made) is ∙ made)
          (subst (All (λ x. x.made ≡ place + 1 + 1)) (sym is_more) (made_more (place + 1) bs C.made));
      wired = λ i d lt. at i d lt (cases_eq i place);
    }
      where
        at : (i : ℕ) (d : Berthed) → i < place + 1 → (i ≡ place) ⊎ (i ≡ place → ⊥)
            → (get_or (set more place new) i d).wired.lines ≡ map (line_to (i + 1)) (inboxes_at before)
        at i d lt (inl e) =
            ap (λ (k : ℕ). (get_or (set more place new) k d).wired.lines) e
            ∙ ap (λ (x : Berthed). x.wired.lines) (get_or-set_same more place new d (omega (arith, inside, long)) ∙ is)
            ∙ lines_are ∙ ap (λ (k : ℕ). map (line_to (k + 1)) (inboxes_at before)) (sym e)
        at i d lt (inr ne) =
            ap (λ (x : Berthed). x.wired.lines)
            (get_or-set_other more place i new d ne ∙ ap (λ (xs : List Berthed). get_or xs i d) is_more
            ∙ get_or-map one_more bs i d d (omega (arith, inside, below)))
            ∙ C.wired i d below
          where
            below : i < place
            below = omega (arith, lt, ne)

-- all are
pub all_wired : (before bs : List Berthed) → AreConnected before (length before) bs → AreWired (wired_of bs)
all_wired before bs C i d lt =
    ap (λ (w : Wired). w.lines) (get_or-map (λ b. b.wired) bs i (record { wired = d; made = 0 }) d within)
    ∙ C.wired i (record { wired = d; made = 0 }) (omega (arith, within, long))
    ∙ ap (map (line_to (i + 1))) (sym (inboxes_by before) ∙ ap (λ (ws : List Wired). map (λ w. w.inbox) ws) (sym C.opened)
    ∙ inboxes_by bs ∙ sym (inboxes_wired bs))
  where
    within : i < length bs
    within = omega (arith, lt, length-map bs (λ (b : Berthed). b.wired))

    long : length bs ≡ length before
    long = sym (length-map bs opened_of) ∙ ap length C.opened ∙ length-map before opened_of
