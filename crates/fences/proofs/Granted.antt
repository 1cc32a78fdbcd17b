-- A grant of a run: behind it its holder has the lock at each node that it asked.
use Rattle.std.proofs.Common.{ℕ, true, false, ◌≡◌, ◌<◌, ◌+◌, Some, None, List, [], ◌∷◌, ◌++◌, refl, sym, ap, ◌∙◌, subst, arith}
use Rattle.std.specs.Prelude.{Contains}
use Rattle.std.proofs.lemmas.Bool.{eq-eqb}
use Rattle.registry_model.specs.Process.{Process}
use Rattle.protocol_model.specs.Letter.{Id, is_id}
use Rattle.protocol_model.specs.Answers.{calls_at}
use Rattle.protocol_model.specs.Course.{course}
use Rattle.protocol_model.specs.ClientLocks.{last_try, is_true_to, is_won, gives, is_no_more, Tally, holds_count}
use Rattle.protocol_model.specs.LockAnswers.{Tries, tries_of}
use Rattle.protocol_model.specs.World.{Opening, WorldEvent, opening_world, refusal, happens, answers}
use Rattle.protocol_model.proofs.Finding.{found_any}
use Rattle.protocol_model.proofs.Ids.{is_id_self}
use Rattle.creations.proofs.LastTry.{last_of, last_by, last_of_tries, tries_behind}
use Rattle.creations.proofs.LastCalls.{IsSet, is_set}
use Rattle.creations.proofs.Living.{answers_the_living}
use Rattle.fences.specs.Grants.{true_to}
use Rattle.fences.proofs.Elsewhere.{tally, tally_push, counted}
use Rattle.creations.specs.Clauses.{world}

module _ (o : Opening) (es : List WorldEvent) (e : WorldEvent) (is : refusal o (world o es) e ≡ None) (p : Process) (t : Tries)
    (told : tries_of o (es ++ e ∷ []) p ≡ Some t) (given : Contains (answers o (world o es) e) (true_to p t)) where
  -- the call is one of p's
  called : IsSet (calls_at p.node (course o (opening_world o) (es ++ e ∷ []))) p t
  called = is_set o p (es ++ e ∷ []) t told

  -- p isn't gone
  pub alive : is_no_more (happens o (world o es) e) p ≡ false
  alive = (answers_the_living o es e is (true_to p t) _ p given (called.positive, called.call) refl).1

  module _ (id : Id) (c : ℕ) (of : t.last.id ≡ id) (asked : t.last.asks c ≡ true) where
    last : last_try (world o es) e p (tally o es p id c).last ≡ Some t.last
    last = ap (last_try (world o es) e p) (last_of_tries o p es id c)
        ∙ sym (last_by o p (world o es) e (tries_of o es p))
        ∙ ap last_of (sym (tries_behind o p es e is) ∙ told)

    won : is_won p id c (answers o (world o es) e) (last_try (world o es) e p (tally o es p id c).last) ≡ true
    won = ap (is_won p id c (answers o (world o es) e)) last
        ∙ rw (
          ap (λ (i : Id). is_id i id) of ∙ is_id_self id,
          asked,
          found_any (is_true_to p t.last) (answers o (world o es) e)
              (true_to p t) given (rw (eq-eqb p.node p.node refl, eq-eqb t.last.number t.last.number refl) refl),
        ) refl

    -- and has the lock there
    pub has : 0 < holds_count o (es ++ e ∷ []) p id c
    has = subst (λ (n : ℕ). 0 < n) (sym one) more
      where
        one : holds_count o (es ++ e ∷ []) p id c ≡ (tally o es p id c).number + 1
        one = ap (λ (k : Tally). k.number) (tally_push o es e p id c)
            ∙ counted o (world o es) e p id c (tally o es p id c) false true (gives (world o es) e p id c) is alive won refl

        more : 0 < (tally o es p id c).number + 1
        more = omega arith
