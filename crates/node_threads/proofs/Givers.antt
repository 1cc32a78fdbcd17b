-- What looks into an inbox find.
use Rattle.std.proofs.Common.{ℕ, Bool, ◌≡◌, Option, Some, None, List, [], ◌∷◌, ◌++◌, sym, ap, subst, ◌∙◌, append-nil}
use Rattle.std.proofs.lemmas.Grind.{flat_map-append}
use Rattle.node_loop.specs.declared.item.Item.{Item}
use Rattle.node_loop.specs.declared.item.Item.TheVariants.{Letter, Task as TaskItem}
use Rattle.node_loop.specs.declared.item.Stamped.{Stamped}
use Rattle.node_loop.specs.declared.item.Task.{Task}
use Rattle.node_seats.specs.declared.parcel.Parcel.{Parcel}
use Rattle.link.specs.declared.mailbox.Mailbox.{Mailbox}
use Rattle.node_seats.specs.Lines.{Sent}
use Rattle.node_threads.specs.declared.ruled_end.Found.TheVariants.{Heard, Other}
use Rattle.node_threads.specs.declared.ruled_end.Traffic.{Traffic}
use Rattle.node_threads.specs.Givers.{receivers, node_under, letter_by, letters_of, task_in, tasks_of}
use Rattle.node_threads.specs.Traffics.{Finds}

-- an end, by what came off its inbox, and by what takings take turns
abbrev pub end_at : ℕ → Mailbox (Parcel Item) → List (Sent Item) → List (Parcel Item) → List Task → ℕ → Bool → ℕ → Bool → Traffic
end_at node first lines ps waiting row passed looked dry = record {
  node = node;
  first = first;
  lines = lines;
  letters = letters_of (receivers lines) ps;
  tasks = tasks_of ps;
  waiting = waiting;
  in_a_row = row;
  has_passed = passed;
  looks = looked;
  in_vain = dry;
}

-- a parcel more came off it
module _ (node : ℕ) (first : Mailbox (Parcel Item)) (lines : List (Sent Item)) (ps more : List (Parcel Item)) (waiting now : List Task) (row : ℕ) (passed : Bool) (looked : ℕ) (dry : Bool) (s : Traffic) (is : end_at node first lines ps waiting row passed looked dry ≡ s) (p : Parcel Item) (grown : more ≡ ps ++ p ∷ []) where
  letters_more : letters_of (receivers lines) more ≡ letters_of (receivers lines) ps ++ letter_by p.item (node_under p.number (receivers lines))
  letters_more = ap (letters_of (receivers lines)) grown
      ∙ flat_map-append (λ q. letter_by q.item (node_under q.number (receivers lines))) ps (p ∷ [])
      ∙ ap (λ (l : List (ℕ × Item)). letters_of (receivers lines) ps ++ l) (append-nil (letter_by p.item (node_under p.number (receivers lines))))

  tasks_more : tasks_of more ≡ tasks_of ps ++ task_in p.item
  tasks_more = ap tasks_of grown ∙ flat_map-append (λ q. task_in q.item) ps (p ∷ []) ∙ ap (λ (l : List Task). tasks_of ps ++ l) (append-nil (task_in p.item))

  pub finds_task : (k : Task) → p.item ≡ TaskItem k → now ≡ waiting ++ k ∷ [] → Finds Other s (end_at node first lines more now row passed looked dry)
  finds_task k e held = subst (λ (x : Traffic). Finds Other x (end_at node first lines more now row passed looked dry)) is (
    k ∷ [],
    λ j. record {
      node = node;
      first = first;
      lines = lines;
      letters = (letters_more ∙ ap (λ (i : Item). letters_of (receivers lines) ps ++ letter_by i (node_under p.number (receivers lines))) e
          ∙ append-nil (letters_of (receivers lines) ps)) j;
      tasks = (tasks_more ∙ ap (λ (i : Item). tasks_of ps ++ task_in i) e) j;
      waiting = held j;
      in_a_row = row;
      has_passed = passed;
      looks = looked;
      in_vain = dry;
    },
  )

  -- a letter that a node sent, or nobody that is one
  module _ (l : Stamped) (e : p.item ≡ Letter l) (held : now ≡ waiting) where
    by_line : (from : Option ℕ) → node_under p.number (receivers lines) ≡ from
        → letters_of (receivers lines) more ≡ letters_of (receivers lines) ps ++ letter_by (Letter l) from
    by_line from under = letters_more ∙ λ j. letters_of (receivers lines) ps ++ letter_by (e j) (under j)

    no_task : tasks_of more ≡ tasks_of ps ++ []
    no_task = tasks_more ∙ ap (λ (i : Item). tasks_of ps ++ task_in i) e

    pub finds_letter : (from : ℕ) → node_under p.number (receivers lines) ≡ Some from → Finds (Heard from l) s (end_at node first lines more now row passed looked dry)
    finds_letter from under = subst (λ (x : Traffic). Finds (Heard from l) x (end_at node first lines more now row passed looked dry)) is (
      p.number,
      under,
      λ j. record {
        node = node;
        first = first;
        lines = lines;
        letters = by_line (Some from) under j;
        tasks = (no_task ∙ append-nil (tasks_of ps)) j;
        waiting = held j;
        in_a_row = row;
        has_passed = passed;
        looks = looked;
        in_vain = dry;
      },
    )

    pub finds_stranger : node_under p.number (receivers lines) ≡ None → Finds Other s (end_at node first lines more now row passed looked dry)
    finds_stranger under = subst (λ (x : Traffic). Finds Other x (end_at node first lines more now row passed looked dry)) is (
      [],
      λ j. record {
        node = node;
        first = first;
        lines = lines;
        letters = (by_line None under ∙ append-nil (letters_of (receivers lines) ps)) j;
        tasks = no_task j;
        waiting = (held ∙ sym (append-nil waiting)) j;
        in_a_row = row;
        has_passed = passed;
        looks = looked;
        in_vain = dry;
      },
    )
