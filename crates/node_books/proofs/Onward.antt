-- A loop comes from each moment to each later one, and its log only grows.
use Rattle.std.proofs.Common.{◌≡◌, ℕ, zero, suc, [], ◌∷◌, ◌++◌, refl, sym, ap, subst, ◌∙◌, inl, inr}
use Rattle.std.specs.Prelude.{◌⊎◌}
use Rattle.node_loop.specs.Held.{Looping, Written}
use Rattle.node_loop.specs.Steps.{entry_of}
use Rattle.node_loop.specs.Items.{by_leave}
use Rattle.node_loop.specs.Coming.{Turns, HandsOut, HandsOver, IsLoopOf}
use Rattle.node_loop.proofs.Moving.{IsKept, turns}
use Rattle.node_books.specs.Onward.{Leads, ComesFrom, Extends, LogsOnlyGrow}
use Rattle.node_books.proofs.Beginnings.{prefix_self, prefix_trans}

pub comes_from_itself : (a : Looping) → ComesFrom a a
comes_from_itself a = record { moves = 0; leads = refl }

-- by one turn more, or by what is handed out or over
pub comes_by : (a b c : Looping) → ComesFrom a b → Turns b c ⊎ HandsOut b c ⊎ HandsOver b c → ComesFrom a c
comes_by a b c h move = record { moves = suc h.moves; leads = (b, h.leads, move) }

comes_on_by : (n : ℕ) (a b c : Looping) → ComesFrom a b → Leads n b c → ComesFrom a c
comes_on_by zero a b c h e = subst (ComesFrom a) (sym e) h
comes_on_by (suc n) a b c h x = comes_by a x.0 c (comes_on_by n a b x.0 h x.1) x.2

pub comes_on : (a b c : Looping) → ComesFrom a b → ComesFrom b c → ComesFrom a c
comes_on a b c h k = comes_on_by k.moves a b c h k.leads

loop_on_by : (n name : ℕ) (a b : Looping) → IsLoopOf name a → Leads n a b → IsLoopOf name b
loop_on_by zero name a b is e = subst (IsLoopOf name) (sym e) is
loop_on_by (suc n) name a b is x =
    let before = loop_on_by n name a x.0 is x.1 in record {
      nodes = before.nodes;
      cluster = before.cluster;
      stamp = before.stamp;
      moves = suc before.moves;
      comes = (x.0, before.comes, x.2);
    }

-- what the loop of a node comes to is its loop
pub loop_on : (name : ℕ) (a b : Looping) → IsLoopOf name a → ComesFrom a b → IsLoopOf name b
loop_on name a b is h = loop_on_by h.moves name a b is h.leads

pub extends_itself : (a : Written) → Extends a a
extends_itself a = record { node = refl; entries = prefix_self a.entries }

pub extends_on : (a b c : Written) → Extends a b → Extends b c → Extends a c
extends_on a b c E F = record { node = F.node ∙ E.node; entries = prefix_trans a.entries b.entries c.entries E.entries F.entries }

-- whose log a loop's goes on from
module _ (a : Looping) where
  abbrev GoesOnFrom : Looping → Type 0
  GoesOnFrom b = Extends a.log b.log

  -- with an entry more
  more : (b c : Looping) (e : _) → GoesOnFrom b → c.log ≡ record b.log { entries = b.log.entries ++ e ∷ [] } → GoesOnFrom c
  more b c e E is = extends_on a.log b.log c.log E (record {
    node = ap (λ (l : Written). l.node) is;
    entries = (e ∷ [], sym (ap (λ (l : Written). l.entries) is));
  })

  kept : IsKept GoesOnFrom
  kept = record {
    besides = λ b tray wait worked E. record { node = E.node; entries = E.entries };
    refuses = λ b ticket fault E. record { node = E.node; entries = E.entries };
    waits = λ b ticket E. record { node = E.node; entries = E.entries };
    makes = λ k b c E M. more b c (entry_of k b M.turn.answers) E M.log;
    rests = λ b c E R. subst GoesOnFrom (sym R.others) (record { node = E.node; entries = E.entries });
    begun = λ k b c E B. more b c (entry_of k b B.turn.answers) E B.log;
    departs = λ b c E D. more b c (entry_of (by_leave b) b D.step.turn.answers) E (ap (λ (l : Looping). l.log) D.behind ∙ D.step.log);
    departing = λ b c E B. more b c (entry_of (by_leave b) b B.turn.answers) E B.log;
  }

  grows : (n : ℕ) (b : Looping) → Leads n a b → GoesOnFrom b
  grows zero b e = subst GoesOnFrom (sym e) (extends_itself a.log)
  grows (suc n) b x = elim x.2 [
    | inl T ↦ turns GoesOnFrom kept x.0 b (grows n x.0 x.1) T
    | inr (inl H) ↦ subst GoesOnFrom (sym H.rest) (grows n x.0 x.1)
    | inr (inr O) ↦ subst GoesOnFrom (sym O) (grows n x.0 x.1)
  ]

pub logs_only_grow : LogsOnlyGrow
logs_only_grow a b h = grows a h.moves b h.leads
