-- Who is present in a node's world is the last of its name there, and a node isn't told of itself.
use Rattle.std.proofs.Common.{ℕ, true, false, ◌≡◌, sym, ◌∙◌, arith}
use Rattle.std.proofs.lemmas.Bool.{false_from_ne_true}
use Rattle.term.specs.NodeSets.{set_of, with_older}
use Rattle.term.proofs.Older.{reached}
use Rattle.node_core.specs.CoreState.{CoreState, IsNext, IsWhole}

pub present_last : (h : CoreState) → IsWhole h → (n next : ℕ) → set_of h.world n ≡ true → IsNext n next → with_older h.world next ≡ false
present_last h W n next here is = false_from_ne_true (with_older h.world next) (λ q.
    let r = reached h.world next q in
    let same : n ≡ r.0 = W.told.one n r.0 here r.1 (sym is.named ∙ sym r.2) in
    absurd (omega (arith, same, r.3, is.is)))

pub not_itself : (h : CoreState) → IsWhole h → with_older h.told h.name ≡ false
not_itself h W = W.apart h.name W.self
