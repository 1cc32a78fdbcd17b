use Rattle.std.proofs.Common.{ℕ, List, ◌==◌, ◌∙◌, sym, ap}
use Rattle.std.specs.List.{list_any}
use Rattle.std.proofs.Math.Path.{ap₂}
use Rattle.exit_watch.specs.WatchState.{WatchState}
use Rattle.exit_watch.proofs.Sets.{same_numbers}
use Rattle.exit_watch.proofs.watch.Watch.copy.Goals as goal

pub invariant_of-result : goal.invariant_of-result
invariant_of-result c s e =
    let suspects =
    same_numbers c.self.inside.suspects.keys c.in_ok-clone.field-0.keys c.in_ok-clone.ensures.cases in
    ap (λ (ds : List ℕ). list_any (λ d. d == s) ds) c.in_ok-copy.ensures
    ∙ c.self.invariant s (ap (λ (ds : List ℕ). list_any (λ d. d == s) ds) (sym suspects) ∙ e)

pub returns : goal.returns
returns c =
    let suspects =
    same_numbers c.self.inside.suspects.keys c.in_ok-clone.field-0.keys c.in_ok-clone.ensures.cases in
    let held : ℕ → List ℕ → List ℕ → WatchState = λ n ds ss. record {
      node = n;
      watch = record { last_serial = c.self.inside.last_serial; dead = ds };
      suspects = ss;
    } in
    ap (λ (n : ℕ). held n c.in_ok-copy.field-0 c.in_ok-clone.field-0.keys) c.copy.ensures
    ∙ ap₂ (λ (ds ss : List ℕ). held c.self.inside.node ds ss) c.in_ok-copy.ensures suspects ∙ c.self.view_is
