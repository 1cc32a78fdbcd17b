-- A loop begins sound, and what it leaves behind tells of its node.
use Rattle.std.proofs.Common.{◌≡◌, ◌==◌, ℕ, Bool, true, false, List, [], ◌∷◌, map, refl, sym, ap, subst, ◌∙◌, inl, inr}
use Rattle.std.specs.Prelude.{if◌then◌else◌}
use Rattle.std.specs.List.Sorted.{IsStrictlyIncreasing}
use Rattle.registry_model.specs.Table.{Table}
use Rattle.protocol_model.specs.Node.{Node, opening_node}
use Rattle.protocol_model.specs.World.{Opening, in_world, in_cluster}
use Rattle.closings.specs.Alone.{node_behind}
use Rattle.closings.specs.Guarded.{Vouches}
use Rattle.node_core.specs.CoreState.{CoreState}
use Rattle.node_core.specs.Seen.{node_of}
use Rattle.node_log.specs.Seen.{seen_entry}
use Rattle.tray.specs.Held.{none_for}
use Rattle.node_loop.specs.Held.{Looping, Written}
use Rattle.node_loop.specs.Said.{IsSaid}
use Rattle.node_loop.specs.Dealings.{Dealt, letters_in, took, put, receivers, waiting_for}
use Rattle.node_loop.specs.Sound.{IsNodeOf, opened, BeginsSound, EndsSound, Tells, LeavesSound}
use Rattle.node_loop.proofs.Standing.{ends_still}

-- nothing waits in a new tray
pub receivers_of : (world : List ℕ) → receivers (map none_for world) ≡ world
receivers_of [] = refl
receivers_of (c ∷ cs) = ap (λ (l : List ℕ). c ∷ l) (receivers_of cs)

pub nothing_waits : (t : ℕ) (world : List ℕ) → waiting_for t (map none_for world) ≡ []
nothing_waits t [] = refl
nothing_waits t (c ∷ cs) = go (c == t) (nothing_waits t cs)
  where
    go : (b : Bool) → waiting_for t (map none_for cs) ≡ [] → (if b then [] else waiting_for t (map none_for cs)) ≡ []
    go true h = refl
    go false h = h

pub begins_sound : (h : CoreState) (a : Looping) → IsStrictlyIncreasing h.world → a.core ≡ h → a.world ≡ h.world
    → a.log ≡ record { node = h.name; entries = [] } → a.tray ≡ map none_for h.world → BeginsSound h a
begins_sound h a rising core world log tray o I opens = record {
  of = subst (IsNodeOf o) (sym core) I;
  named = ap (λ (l : Written). l.node) log ∙ ap (λ (k : CoreState). k.name) (sym core);
  world = world ∙ ap (λ (k : CoreState). k.world) (sym core);
  rising = subst (λ (k : CoreState). IsStrictlyIncreasing k.world) (sym core) rising;
  course = [];
  logged = ap (λ (l : Written). map seen_entry l.entries) (sym log);
  plays = tt;
  node = subst (λ (k : CoreState). opened o k ≡ node_of k) (sym core) (sym opens);
  below = tt;
  running = λ l. (tt, refl);
  known = λ f strange. refl;
  tray = ap receivers tray ∙ (receivers_of h.world ∙ ap (λ (k : CoreState). k.world) (sym core));
  sends = λ t known. ap letters_in (sym (nothing_waits t h.world) ∙ ap (waiting_for t) (sym tray));
}

tells : (a : Looping) (log : Written) (table : Table) → log ≡ a.log → table ≡ (node_of a.core).replica.table → (o : Opening) (d : Dealt)
    → EndsSound o a d → Tells o log table d
tells a log table same is o d E = record {
  course = E.course;
  logged = E.logged ∙ ap (λ (l : Written). map seen_entry l.entries) (sym same);
  vouches = subst (λ (n : ℕ). Vouches (IsSaid (in_world o)) o n (took d) (put d) E.course) (sym name) E.vouches;
  last = ap (λ (n : ℕ). (node_behind (opening_node (in_cluster o) n) E.course).replica.table) name
      ∙ (ap (λ (v : Node). v.replica.table) E.node ∙ sym is);
}
  where
    name : log.node ≡ a.core.name
    name = ap (λ (l : Written). l.node) same ∙ E.named

pub leaves_sound : (a : Looping) (log : Written) (table : Table) → log ≡ a.log → table ≡ (node_of a.core).replica.table
    → LeavesSound a log table
leaves_sound a log table same is o d (inl S) =
    tells a log table same is o d (ends_still o (λ f. []) a d S a refl (record { name = refl; world = refl; node = refl }))
leaves_sound a log table same is o d (inr E) = tells a log table same is o d E
