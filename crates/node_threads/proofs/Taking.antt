-- What a taking comes to.
use Rattle.std.specs.Prelude.{nat_lt, nat_le, ◌&&◌}
use Rattle.std.proofs.Common.{ℕ, true, false, ◌≡◌, inl, inr, Some, None, List, [], ◌∷◌, ◌++◌, length, refl, sym, ap, subst, ◌∙◌, append-nil}
use Rattle.node_loop.specs.declared.item.Item.TheVariants.{Task as TaskItem}
use Rattle.node_loop.specs.declared.item.Stamped.{Stamped}
use Rattle.node_loop.specs.declared.item.Task.{Task}
use Rattle.node_threads.specs.declared.ruled_end.Traffic.{Traffic}
use Rattle.node_threads.specs.Traffics.{with_tasks, lasting, is_tasks_turn, counted, HasSearched, Hears, FindsNext, Serves, Takes}
use Rattle.term.specs.declared.limits.TheConstants.{MOST_LETTERS}

both_empty : {A : Type 0} (xs ys : List A) → xs ++ ys ≡ [] → (xs ≡ []) × (ys ≡ [])
both_empty [] ys e = (refl, e)
both_empty (x ∷ xs) ys e = absurd (cc e)

none_more : (s : Traffic) → with_tasks [] s ≡ s
none_more s = λ j. record s { tasks = append-nil s.tasks j; waiting = append-nil s.waiting j }

-- no letter was taken: the tasks that came off the inbox wait
module _ (s u : Traffic) where
  behind : FindsNext None s u → (more : List Task) × (lasting u ≡ with_tasks more (lasting s))
  behind (inl turn) = ([], turn.1 ∙ sym (none_more (lasting s)))
  behind (inr searched) = (searched.0, searched.1)

  -- one of them is taken
  pub takes_task : (k : Task) (t : Traffic) (from : ℕ) → from ≡ t.node → FindsNext None s u → Serves k u t
      → Takes (lasting s) from (TaskItem k) (lasting t)
  takes_task k t from is none serves =
      let came : (more : List Task) × (lasting u ≡ with_tasks more (lasting s)) = behind none in (
        is ∙ ap (λ (x : Traffic). x.node) serves.2 ∙ ap (λ (x : Traffic). x.node) came.1,
        came.0,
        subst (λ (v : Traffic). Serves k v (lasting t)) came.1 (serves.0, serves.1, ap lasting serves.2),
      )

  -- none waits: nothing changed
  pub takes_none : FindsNext None s u → u.waiting ≡ [] → (lasting u ≡ lasting s) × (s.waiting ≡ []) × HasSearched u
  takes_none (inl turn) none = absurd (waits (sym (ap (λ (x : Traffic). x.waiting) turn.1) ∙ none) turn.0)
    where
      waits : s.waiting ≡ [] → is_tasks_turn s ≡ true → ⊥
      waits e here = absurd (cc (sym (ap (λ (l : List Task). nat_lt 0 (length l) && nat_le MOST_LETTERS s.in_a_row) e) ∙ here))
  takes_none (inr searched) none =
      let empty : (s.waiting ≡ []) × (searched.0 ≡ []) =
      both_empty s.waiting searched.0 (sym (ap (λ (x : Traffic). x.waiting) searched.1) ∙ none) in (
        searched.1 ∙ ap (λ (l : List Task). with_tasks l (lasting s)) empty.1 ∙ none_more (lasting s),
        empty.0,
        searched.2,
      )

-- a letter was taken
pub finds_letter : (s u : Traffic) (x : ℕ × Stamped) (more : List Task) → is_tasks_turn s ≡ false
    → Hears x.0 x.1 (with_tasks more (lasting s)) (lasting u) → FindsNext (Some x) s (counted u)
finds_letter s u x more may hears = (may, more, (hears.0, hears.1, ap counted hears.2))
