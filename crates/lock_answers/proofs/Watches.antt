-- A lock call and a retry kill nobody.
use Rattle.std.proofs.Common.{Bool, true, false, ◌≡◌, ℕ, List, [], ◌∷◌, refl, ◌∙◌}
use Rattle.std.specs.Prelude.{fold, if◌then◌else◌}
use Rattle.protocol_model.specs.Round.{is_empty}
use Rattle.protocol_model.specs.Node.{Current, LockPhase, LockCall, targets}
use Rattle.protocol_model.specs.Turn.{Turn}
use Rattle.protocol_model.specs.Registrar.{retry_global}
use Rattle.protocol_model.specs.Client.{one_less, close_call, ask_lock, try_lock, retry_in, delete_lock, ask_back}

module _ (n a : ℕ) where
  -- a try begins
  pub try-watch : (c : LockCall) (u : Turn) → (try_lock n a c u).node.watch ≡ u.node.watch
  try-watch c u = go (is_empty n (targets u.node.replica.members c.target))
    where
      go : (b : Bool) → (if b then close_call n a c false u
          else ask_lock n a c (targets u.node.replica.members c.target) u).node.watch ≡ u.node.watch
      go true = refl
      go false = refl

  pub delete-watch : (c : LockCall) (u : Turn) → (delete_lock n a c u).node.watch ≡ u.node.watch
  delete-watch c u = go (is_empty n (targets u.node.replica.members c.target))
    where
      go : (b : Bool) → (if b then close_call n a c true u
          else ask_back n a c (targets u.node.replica.members c.target) u).node.watch ≡ u.node.watch
      go true = refl
      go false = refl

  -- refused calls are tried again
  pub retry-watch : (cs : List LockCall) (u : Turn)
      → (fold (λ turn c. retry_in n a c.phase c turn) u cs).node.watch ≡ u.node.watch
  retry-watch [] u = refl
  retry-watch (c ∷ cs) u = retry-watch cs (retry_in n a c.phase c u) ∙ go c.phase
    where
      go : (f : LockPhase) → (retry_in n a f c u).node.watch ≡ u.node.watch
      go LockPhase.Waiting = try-watch (record c { retries = one_less c.retries }) u
      go (LockPhase.Asking r) = refl
      go (LockPhase.Deleting owing) = refl

  -- the registrar asks again
  pub again-watch : (c : Current) (u : Turn) → (retry_global n a c u).node.watch ≡ u.node.watch
  again-watch (Current.Waiting op) u = refl
  again-watch _ u = refl
