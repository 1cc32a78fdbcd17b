-- A loop begins sound where nodes come back, and what it leaves behind tells of its node.
use Rattle.std.proofs.Common.{◌≡◌, ℕ, [], map, refl, sym, ap, subst, ◌∙◌, inl, inr, arith}
use Rattle.std.specs.List.Sorted.{IsStrictlyIncreasing}
use Rattle.registry_model.specs.Table.{Table}
use Rattle.protocol_model.specs.Node.{Node}
use Rattle.protocol_model.specs.World.{Opening}
use Rattle.node_core.specs.CoreState.{CoreState}
use Rattle.node_core.specs.Seen.{node_of}
use Rattle.node_log.specs.Seen.{seen_entry}
use Rattle.tray.specs.Held.{none_for}
use Rattle.node_loop.specs.Held.{Looping, Written}
use Rattle.node_loop.specs.Dealings.{Dealt, letters_in, took, put, waiting_for, receivers}
use Rattle.node_loop.specs.Returning.{IsNodeAmong, Start, BeginsSoundFrom, EndsSoundFrom, VouchesFrom, TellsFrom, LeavesSoundFrom}
use Rattle.node_loop.proofs.Beginning.{receivers_of, nothing_waits}
use Rattle.node_loop.proofs.StandingFrom.{ends_still}

pub begins_sound_from : (h : CoreState) (a : Looping) (stamp : ℕ) → IsStrictlyIncreasing h.world → a.core ≡ h → a.world ≡ h.world
    → a.log ≡ record { node = h.name; entries = [] } → a.tray ≡ map none_for h.world → a.stamp ≡ stamp → BeginsSoundFrom h stamp a
begins_sound_from h a stamp rising core world log tray same o I = record {
  of = subst (IsNodeAmong o) (sym core) I;
  named = ap (λ (l : Written). l.node) log ∙ ap (λ (k : CoreState). k.name) (sym core);
  world = world ∙ ap (λ (k : CoreState). k.world) (sym core);
  rising = subst (λ (k : CoreState). IsStrictlyIncreasing k.world) (sym core) rising;
  course = [];
  logged = ap (λ (l : Written). map seen_entry l.entries) (sym log);
  plays = tt;
  node = ap node_of (sym core);
  starts = tt;
  above = omega (arith, same);
  below = tt;
  running = λ l. (tt, refl);
  known = λ f strange. refl;
  tray = ap receivers tray ∙ (receivers_of h.world ∙ ap (λ (k : CoreState). k.world) (sym core));
  sends = λ t there. ap letters_in (sym (nothing_waits t h.world) ∙ ap (waiting_for t) (sym tray));
  older = λ t out before. ([], refl);
  later = λ t out. (refl, λ l. refl);
}

tells_from : (a : Looping) (log : Written) (table : Table) → log ≡ a.log → table ≡ (node_of a.core).replica.table → (o : Opening) (start : Start)
    (d : Dealt) → EndsSoundFrom o start a d → TellsFrom o start log table d
tells_from a log table same is o start d E = record {
  course = E.course;
  logged = E.logged ∙ ap (λ (l : Written). map seen_entry l.entries) (sym same);
  vouches = subst (λ (n : ℕ). VouchesFrom o start n (took d) (put d) E.course) (sym (ap (λ (l : Written). l.node) same ∙ E.named)) E.vouches;
  last = ap (λ (v : Node). v.replica.table) E.node ∙ sym is;
}

pub leaves_sound_from : (a : Looping) (log : Written) (table : Table) → log ≡ a.log → table ≡ (node_of a.core).replica.table
    → LeavesSoundFrom a log table
leaves_sound_from a log table same is o start d (inl S) =
    tells_from a log table same is o start d (ends_still o start (λ f. []) a d S a refl (record { name = refl; world = refl; node = refl }))
leaves_sound_from a log table same is o start d (inr E) = tells_from a log table same is o start d E
