-- Processes and lock ids that are one.
use Rattle.std.proofs.Common.{ℕ, Bool, true, false, ◌==◌, ◌≡◌, refl, sym, ap, ◌∙◌, subst}
use Rattle.std.proofs.lemmas.Bool.{eqb-true, eq-eqb}
use Rattle.registry_model.specs.Process.{Process, is_process}
use Rattle.moves.proofs.Indices.{both}
pub use Rattle.protocol_model.proofs.Ids.{is_id_same}

pub is_process_same : (p q : Process) → is_process p q ≡ true → p ≡ q
is_process_same p q e =
    let parts : ((p.node == q.node) ≡ true) × ((p.serial == q.serial) ≡ true) = both (p.node == q.node)
    (p.serial == q.serial) e in
    let here : ℕ → Process = λ n. record { node = n; serial = p.serial } in
    let there : ℕ → Process = λ s. record { node = q.node; serial = s } in
    ap here (eqb-true p.node q.node parts.0) ∙ ap there (eqb-true p.serial q.serial parts.1)

pub is_process_self : (p : Process) → is_process p p ≡ true
is_process_self p = rw (eq-eqb p.node p.node refl, eq-eqb p.serial p.serial refl) refl

pub is_process_swap : (p q : Process) → is_process p q ≡ false → is_process q p ≡ false
is_process_swap p q e = go (is_process q p) refl
  where
    go : (b : Bool) → is_process q p ≡ b → b ≡ false
    go false h = refl
    go true h =
        let back : is_process p q ≡ true = subst (λ (x : Process). is_process p x ≡ true) (sym (is_process_same q p h))
        (is_process_self p) in
        cc (back, e)
