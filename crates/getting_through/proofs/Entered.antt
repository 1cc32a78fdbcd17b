-- What a course enters and answers: in a quiet world all that the history has for a running node was answered.
use Rattle.std.proofs.Common.{ℕ, true, ◌≡◌, List, [], ◌∷◌, ◌++◌, refl, sym, ap, subst, ◌∙◌, inl, inr}
use Rattle.std.specs.Prelude.{Contains, is_none, filter, flat_map, if◌then◌else◌}
use Rattle.std.proofs.lemmas.List.{append-nil, append_assoc}
use Rattle.std.proofs.lemmas.List.Elements.{Contains-append_left, Contains-append_right}
use Rattle.registry_model.specs.History.{Entry}
use Rattle.registry_model.proofs.Lists.{Contains-cases, Contains-nil}
use Rattle.protocol_model.specs.Node.{Current}
use Rattle.protocol_model.specs.Event.{Answer}
use Rattle.protocol_model.specs.World.{Opening, in_world, World, WorldEvent, opening_world, refusal, happens, run}
use Rattle.protocol_model.specs.Course.{Played, played, entries_of, answers_of, course}
use Rattle.protocol_model.specs.Answers.{entered_at}
use Rattle.protocol_model.proofs.Courses.{run-append}
use Rattle.no_dead_end.proofs.Invariants.{IsUp, IsProperCurrent}
use Rattle.no_dead_end.proofs.Tokens.{Gate, Away, Knock, Wait, Turned, Entering}
use Rattle.no_dead_end.proofs.Tokens
use Rattle.no_dead_end.proofs.Accounts.{owed_by, is_word_at, replies_to, reply_by, answer_with}
use Rattle.no_dead_end.proofs.Chains.{Book}
use Rattle.no_dead_end.proofs.Theorem
use Rattle.no_dead_end.proofs.Courses.{entries_of-append}
use Rattle.no_dead_end.proofs.Passing.{item_filtered}
use Rattle.no_dead_end.proofs.Story.{ground}
use Rattle.no_dead_end.proofs.HeadlineTheorem.{history_grows}
use Rattle.no_dead_end.proofs.Together.{Whole, whole_opens}
use Rattle.no_dead_end.proofs.Families.{Whole as WholeWorld, whole}
use Rattle.no_dead_end.proofs.Quiet.{at_ease, registrars}
use Rattle.no_dead_end.specs.Worlds.{of_nodes, IsQuiet}
use Rattle.no_dead_end.specs.Clauses.{world}

-- one list of events after another
pub course-append : (o : Opening) (w : World) (xs ys : List WorldEvent)
    → course o w (xs ++ ys) ≡ course o w xs ++ course o (run o w xs) ys
course-append o w [] ys = refl
course-append o w (x ∷ xs) ys =
    ap (λ (l : List Played). (if is_none (refusal o w x) then played o w x ∷ [] else []) ++ l)
    (course-append o (happens o w x) xs ys)
    ∙ sym (append_assoc (if is_none (refusal o w x) then played o w x ∷ [] else []) (course o (happens o w x) xs)
    (course o (run o w (x ∷ xs)) ys))

-- the history has what more events entered behind what it had
pub history_more : (o : Opening) (es fs : List WorldEvent)
    → (run o (world o es) fs).history ≡ (world o es).history ++ entries_of (course o (world o es) fs)
history_more o es fs = ap (λ (v : World). v.history) (sym (run-append o (opening_world o) es fs)) ∙ history_grows o (es ++ fs)
    ∙ ap entries_of (course-append o (opening_world o) es fs)
    ∙ entries_of-append (course o (opening_world o) es) (course o (world o es) fs)
    ∙ ap (λ (l : List Entry). l ++ entries_of (course o (world o es) fs)) (sym (history_grows o es))

-- what one item brings is among what all bring
pub brought : {A B : Type 0} (f : A → List B) (xs : List A) (x : A) (y : B) → Contains xs x → Contains (f x) y
    → Contains (flat_map f xs) y
brought f [] x y c d = absurd (Contains-nil x c)
brought {A} {B} f (z ∷ xs) x y c d = elim (Contains-cases z xs x c) [
  | inl same ↦ Contains-append_left (f z) (flat_map f xs) y (subst (λ (v : A). Contains (f v) y) (sym same) d)
  | inr more ↦ Contains-append_right (f z) (flat_map f xs) y (brought f xs x y more d)
]

module _ (o : Opening) (es : List WorldEvent) (Q : IsQuiet (of_nodes o) (world o es)) (a : ℕ) (up : IsUp o (world o es) a) where
  abbrev w : World
  w = world o es

  abbrev W : WholeWorld o w
  W = whole o es

  B : Book o w (course o (opening_world o) es)
  B = (Theorem.kept_run o (Whole o) (ground o) (whole_opens o) es).book

  -- no reply is on its way, and nobody writes
  none_owed : (c : Current) → (w.node a).current ≡ c → owed_by a (replies_to B.accounts.gate a) c ≡ []
  none_owed Current.Free e = refl
  none_owed (Current.Waiting op) e = refl
  none_owed (Current.Asking op r) e = refl
  none_owed (Current.Writing op s awaited reply) e = absurd (cc (ap (at_ease o w W Q) e, registrars o w W Q a up))
  none_owed (Current.Joining k m) e = go (B.accounts.gate a m) refl
    where
      inside : in_world o m ≡ true
      inside = subst (IsProperCurrent o w) e (W.base.all.proper.currents a)

      go : (g : Gate) → B.accounts.gate a m ≡ g → answer_with a k (reply_by g) ≡ []
      go Away i = refl
      go (Knock p) i = refl
      go (Wait p) i = refl
      go Turned i = absurd (cc (sym (ap Tokens.returns (Q m a inside up)) ∙ B.accounts.gates.back a m up.1
          ∙ ap Tokens.returns_of i))
      go Entering i = absurd (cc (sym (ap Tokens.returns (Q m a inside up)) ∙ B.accounts.gates.back a m up.1
          ∙ ap Tokens.returns_of i))

  pub entered_answered : (e : Entry) (s : Answer) → Contains w.history e → Contains (entered_at a e) s
      → Contains (answers_of (course o (opening_world o) es)) s
  entered_answered e s c d = (item_filtered (is_word_at a) (answers_of (course o (opening_world o) es)) s
      (subst (λ (l : List Answer). Contains l s) all (brought (entered_at a) w.history e s c d))).0
    where
      all : flat_map (entered_at a) w.history ≡ filter (is_word_at a) (answers_of (course o (opening_world o) es))
      all = B.accounts.answers a
          ∙ ap (λ (l : List Answer). filter (is_word_at a) (answers_of (course o (opening_world o) es)) ++ l)
          (none_owed (w.node a).current refl)
          ∙ append-nil (filter (is_word_at a) (answers_of (course o (opening_world o) es)))
