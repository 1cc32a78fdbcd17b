-- Threads that are started one after another for the same nodes.
use Rattle.std.proofs.Common.{ℕ, List, [], ◌∷◌, ◌++◌, ◌≡◌, ◌+◌, Result, Ok, Err, length, length-append, ap, subst, sym, ◌∙◌, arith}
use Rattle.std.specs.Prelude.{OnOk}
use Rattle.std.proofs.lemmas.List.Elements.{All-push}
use Rattle.std.specs.declared.thread.PromisedHandle.{PromisedHandle}
use Rattle.server.specs.declared.staying.staff.Posted.{Posted}
use Rattle.server.specs.Staying.{Crew, Serve, Starts}

module _ (nodes : List ℕ) (old : Crew) where
  -- none
  pub none_started : Starts nodes 0 old old
  none_started = record { served = λ all. all; counted = omega arith }

  -- one
  pub one_started : (new : Crew) (t : PromisedHandle (List ℕ) Posted) → t.promise.0.value ≡ nodes → new ≡ old ++ t ∷ []
      → Starts nodes 1 old new
  one_started new t for is = record {
    served = λ all. subst (λ (threads : Crew). Serve nodes threads) (sym is) (All-push (λ u. u.promise.0.value ≡ nodes) old t all for);
    counted = ap (λ (threads : Crew). length threads) is ∙ length-append old (t ∷ []);
  }

  -- these, and then those
  pub both_started : (i k : ℕ) (between new : Crew) → Starts nodes i old between → Starts nodes k between new → Starts nodes (i + k) old new
  both_started i k between new s t = record {
    served = λ all. t.served (s.served all);
    counted = omega (arith, s.counted, t.counted);
  }

  -- these, and then those, if they were
  pub both_if_started : {A F : Type 0} (i k : ℕ) (between new : Crew) (r : Result A F) → Starts nodes i old between
      → OnOk r (Starts nodes k between new) → OnOk r (Starts nodes (i + k) old new)
  both_if_started i k between new (Ok a) s t = both_started i k between new s t
  both_if_started i k between new (Err fault) s t = tt
