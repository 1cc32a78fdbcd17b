use Rattle.std.proofs.Common.{ℕ, ◌≡◌, ◌<◌, ◌-◌, List, Result, Ok, Err, Option, Some, None, ap, subst, arith, ◌∙◌}
use Rattle.std.specs.Prelude.{OnOk, OnErr, unwrap_or}
use Rattle.std.specs.BTreeMap.{insert_entry, get}
use Rattle.std.proofs.lemmas.Bool.{lt-ltb}
use Rattle.lock_lines.specs.declared.grants.Grant.{Grant}
use Rattle.lock_lines.specs.Held.{Times, grant_cmp, taken, times_of}
use Rattle.lock_lines.proofs.grants.Grants.take.Goals as goal

-- one that counts more than once is there, and counts once less
counted_less : {E : Type 0} (g k : Grant) (m : Times) (n : ℕ) (r : Result (Option ℕ) E) (new : List (Grant × ℕ))
    → n ≡ times_of g m → k ≡ g → 1 < n → OnOk r (new ≡ insert_entry grant_cmp m.entries k (n - 1))
    → OnErr r (get grant_cmp m k ≡ None) → new ≡ taken g m
counted_less {E} g k m n (Ok o) new is same more inserted absent = rw (lt-ltb 1 (times_of g m) (omega (arith, is, more)))
    (inserted ∙ ap (λ (h : Grant). insert_entry grant_cmp m.entries h (n - 1)) same
    ∙ ap (λ (v : ℕ). insert_entry grant_cmp m.entries g (v - 1)) is)
counted_less {E} g k m n (Err e) new is same more inserted absent = absurd (omega (arith, more, gone))
  where
    gone : n ≡ 0
    gone = is ∙ ap (λ (v : Option ℕ). unwrap_or v 0) (subst (λ (h : Grant). get grant_cmp m h ≡ None) same absent)

pub returns-then-times-gt1 : goal.returns-then-times-gt1
returns-then-times-gt1 c = counted_less c.args.grant.now c.copy.result c.args.self.now.times c.times-times.result c.insert-counted.result
    c.insert-counted.new.self.entries c.times-times.ensures c.copy.ensures c.if-times-gt1.true c.insert-counted.ensures.entries
    c.insert-counted.ensures.absent
