-- What threads give back, as it is gathered.
use Rattle.std.proofs.Common.{ℕ, zero, suc, ◌+◌, ◌≡◌, ◌<◌, ◌⊎◌, inl, inr, Option, Some, None, List, [], ◌∷◌, ◌++◌, length, get_or, sym, ap, subst, ◌∙◌, arith}
use Rattle.std.specs.Prelude.{All, IfSome, MatchOption}
use Rattle.std.proofs.lemmas.Bool.{cases_eq}
use Rattle.std.proofs.lemmas.List.{get_or_append_left, get_or_push, length_push}
use Rattle.node_loop.specs.declared.item.Item.{Item}
use Rattle.node_seats.specs.Lines.{Sent}
use Rattle.node_seats.specs.Books.{Known}
use Rattle.replay.specs.Ends.{End}
use Rattle.node_threads.specs.Wires.{Wired, name_of}
use Rattle.node_threads.specs.Drawing.{Drawn}
use Rattle.node_threads.specs.Ended.{owner, IsLeftBy, IsPastOf, Returns, AllReturn, AllPast}

-- the element at a place
pub item_at : {X : Type 0} (xs : List X) (k : ℕ) → k < length xs → X
item_at [] k lt = absurd (omega (arith, lt))
item_at (x ∷ xs) zero lt = x
item_at (x ∷ xs) (suc k) lt = item_at xs k (omega (arith, lt))

-- one thread more gave this back
module _ (ws : List Wired) (ends : List End) (rows : List (List (Sent Item))) (drawn : List Drawn) (A : AllReturn ws ends rows drawn)
    (w : Wired) (end : End) (row : List (Sent Item)) (d : Drawn) (R : Returns w end row d) where
  pushed : AllReturn (ws ++ w ∷ []) (ends ++ end ∷ []) (rows ++ row ∷ []) (drawn ++ d ∷ [])
  pushed = record {
    as_many_ends = length_push ends end ∙ ap (λ (n : ℕ). n + 1) A.as_many_ends ∙ sym (length_push ws w);
    as_many_rows = length_push rows row ∙ ap (λ (n : ℕ). n + 1) A.as_many_rows ∙ sym (length_push ws w);
    as_many_drawn = length_push drawn d ∙ ap (λ (n : ℕ). n + 1) A.as_many_drawn ∙ sym (length_push ws w);
    each = λ i v e r c lt. at i v e r c lt (cases_eq i (length ws));
  }
    where
      at : (i : ℕ) (v : Wired) (e : End) (r : List (Sent Item)) (c : Drawn) → i < length (ws ++ w ∷ [])
          → (i ≡ length ws) ⊎ (i ≡ length ws → ⊥)
          → Returns (get_or (ws ++ w ∷ []) i v) (get_or (ends ++ end ∷ []) i e) (get_or (rows ++ row ∷ []) i r) (get_or (drawn ++ d ∷ []) i c)
      at i v e r c lt (inl is) =
          subst (λ (x : Wired × End × List (Sent Item) × Drawn). Returns x.0 x.1 x.2 x.3)
          (λ j. (
            sym (get_or_push ws w v i (sym is)) j,
            sym (get_or_push ends end e i (A.as_many_ends ∙ sym is)) j,
            sym (get_or_push rows row r i (A.as_many_rows ∙ sym is)) j,
            sym (get_or_push drawn d c i (A.as_many_drawn ∙ sym is)) j,
          )) R
      at i v e r c lt (inr ne) =
          subst (λ (x : Wired × End × List (Sent Item) × Drawn). Returns x.0 x.1 x.2 x.3)
          (λ j. (
            sym (get_or_append_left ws (w ∷ []) v i below) j,
            sym (get_or_append_left ends (end ∷ []) e i (omega (arith, below, A.as_many_ends))) j,
            sym (get_or_append_left rows (row ∷ []) r i (omega (arith, below, A.as_many_rows))) j,
            sym (get_or_append_left drawn (d ∷ []) c i (omega (arith, below, A.as_many_drawn))) j,
          )) (A.each i v e r c below)
        where
          below : i < length ws
          below = omega (arith, lt, ne, length_push ws w)

  pub one_more_returned : (more_ends : List End) (more_rows : List (List (Sent Item))) (more_drawn : List Drawn)
      → more_ends ≡ ends ++ end ∷ [] → more_rows ≡ rows ++ row ∷ [] → more_drawn ≡ drawn ++ d ∷ []
      → AllReturn (ws ++ w ∷ []) more_ends more_rows more_drawn
  one_more_returned more_ends more_rows more_drawn p q r =
      subst (λ (x : List End × List (List (Sent Item)) × List Drawn). AllReturn (ws ++ w ∷ []) x.0 x.1 x.2)
      (λ j. (sym p j, sym q j, sym r j)) pushed

-- and so is its past
module _ (ws : List Wired) (ends : List End) (pasts : List Known) (A : AllPast ws ends pasts) (even : length ends ≡ length ws) (w : Wired) (end : End) where
  past_pushed : (past : Known) → IsPastOf (name_of w) w.inbox.book end past → AllPast (ws ++ w ∷ []) (ends ++ end ∷ []) (pasts ++ past ∷ [])
  past_pushed past P = record {
    as_many = length_push pasts past ∙ ap (λ (n : ℕ). n + 1) A.as_many ∙ sym (length_push ws w);
    each = λ i v e p lt. at i v e p lt (cases_eq i (length ws));
  }
    where
      at : (i : ℕ) (v : Wired) (e : End) (p : Known) → i < length (ws ++ w ∷ []) → (i ≡ length ws) ⊎ (i ≡ length ws → ⊥)
          → IsPastOf (name_of (get_or (ws ++ w ∷ []) i v)) (get_or (ws ++ w ∷ []) i v).inbox.book (get_or (ends ++ end ∷ []) i e) (get_or (pasts ++ past ∷ []) i p)
      at i v e p lt (inl is) = subst (λ (x : Wired × End × Known). IsPastOf (name_of x.0) x.0.inbox.book x.1 x.2)
          (λ j. (
            sym (get_or_push ws w v i (sym is)) j,
            sym (get_or_push ends end e i (even ∙ sym is)) j,
            sym (get_or_push pasts past p i (A.as_many ∙ sym is)) j,
          )) P
      at i v e p lt (inr ne) = subst (λ (x : Wired × End × Known). IsPastOf (name_of x.0) x.0.inbox.book x.1 x.2)
          (λ j. (
            sym (get_or_append_left ws (w ∷ []) v i below) j,
            sym (get_or_append_left ends (end ∷ []) e i (omega (arith, below, even))) j,
            sym (get_or_append_left pasts (past ∷ []) p i (omega (arith, below, A.as_many))) j,
          )) (A.each i v e p below)
        where
          below : i < length ws
          below = omega (arith, lt, ne, length_push ws w)

  -- where its book was sealed
  pub one_more_past : (o : Option Known) → IfSome o (IsPastOf (name_of w) w.inbox.book end) → (more_ends : List End) (more_pasts : List Known)
      → more_ends ≡ ends ++ end ∷ [] → MatchOption o ⊥ (λ past. more_pasts ≡ pasts ++ past ∷ []) → AllPast (ws ++ w ∷ []) more_ends more_pasts
  one_more_past None P more_ends more_pasts p put = absurd put
  one_more_past (Some past) P more_ends more_pasts p put =
      subst (λ (x : List End × List Known). AllPast (ws ++ w ∷ []) x.0 x.1) (λ j. (sym p j, sym put j)) (past_pushed past P)

-- of each node the end is what its loop left behind
module _ (ws : List Wired) (ends : List End) (rows : List (List (Sent Item))) (drawn : List Drawn) (A : AllReturn ws ends rows drawn) where
  pub returned : (k : ℕ) (lt : k < length ws) (w : Wired) (r : List (Sent Item)) (d : Drawn)
      → Returns (get_or ws k w) (get_or ends k (item_at ends k (omega (arith, lt, A.as_many_ends)))) (get_or rows k r) (get_or drawn k d)
  returned k lt w r d = A.each k w (item_at ends k (omega (arith, lt, A.as_many_ends))) r d lt

  left_at : (k : ℕ) (w : Wired) (e : End) → k < length ws → IsLeftBy (name_of (get_or ws k w)) (get_or ends k e)
  left_at k w e lt = (A.each k w e [] (item_at drawn k (omega (arith, lt, A.as_many_drawn))) lt).left

  pub left_all : All (λ e. IsLeftBy (owner e) e) ends
  left_all k e lt =
      let here : k < length ws = omega (arith, lt, A.as_many_ends) in
      let left : IsLeftBy (name_of (get_or ws k (item_at ws k here))) (get_or ends k e) = left_at k (item_at ws k here) e here in
      subst (λ (n : ℕ). IsLeftBy n (get_or ends k e)) (sym left.node) left
