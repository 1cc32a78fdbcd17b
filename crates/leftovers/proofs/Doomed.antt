-- Who is to die by a letter is dead once its node has read it.
use Rattle.std.proofs.Common.{ℕ, Bool, true, false, ◌==◌, ◌≡◌, Option, Some, None, List, [], ◌∷◌, refl, sym, ap, ◌∙◌}
use Rattle.std.specs.Prelude.{not, ◌&&◌, ◌||◌, if◌then◌else◌}
use Rattle.std.specs.List.{list_any}
use Rattle.std.proofs.lemmas.Bool.{eq-eqb}
use Rattle.registry_model.specs.Process.{Process, is_process}
use Rattle.protocol_model.specs.Watch.{is_dead, is_live, with_dead, owed}
use Rattle.protocol_model.specs.Node.{Op, Current}
use Rattle.protocol_model.specs.Turn.{Turn, with_queue}
use Rattle.protocol_model.specs.Registrar.{start_queue, start_next, start_free, start, ask_join, contact_left}
use Rattle.protocol_model.specs.Calling.{die, kill}
use Rattle.headline.proofs.Growing.{dead_too}
use Rattle.headline.proofs.Ids.{is_process_same}
use Rattle.headline.proofs.Exiting.{dead_last}

-- the start of the next operation kills nobody, and changes no watch
pub start-watch : (n a : ℕ) (u : Turn) → (start n a u).node.watch ≡ u.node.watch
start-watch n a u = go u.node.current
  where
    queue : (ops : List Op) (z : Turn) → (start_queue n a ops z).node.watch ≡ z.node.watch
    queue [] z = refl
    queue (Op.Join k m ∷ ops) z = by (z.node.replica.told m) (queue ops (contact_left n a k m z))
      where
        by : (t : Bool) → (start_queue n a ops (contact_left n a k m z)).node.watch ≡ z.node.watch
            → (if t then start_queue n a ops (contact_left n a k m z) else ask_join n a k m (with_queue ops z)).node.watch
            ≡ z.node.watch
        by true more = more
        by false more = refl
    queue (Op.Name k c ∷ ops) z = refl
    queue (Op.Strike p ∷ ops) z = refl
    queue (Op.Admission j pairs ∷ ops) z = refl

    next : (s : Option ℕ) → (start_next n a s u).node.watch ≡ u.node.watch
    next (Some serial) = refl
    next None = queue u.node.queue u

    go : (c : Current) → (start_free n a c u).node.watch ≡ u.node.watch
    go Current.Free = next (owed a u.node.replica.table u.node.watch)
    go _ = refl

-- who is to die at its node dies
kill_dead : (n a : ℕ) (s : ℕ) (ps : List Process) (u : Turn) → is_dead u.node.watch s ≡ true
    → is_dead (kill n a ps u).node.watch s ≡ true
kill_dead n a s [] u h = h
kill_dead n a s (p ∷ ps) u h = go (is_live a u.node.watch p) (kill_dead n a s ps)
  where
    go : (b : Bool) → ((z : Turn) → is_dead z.node.watch s ≡ true → is_dead (kill n a ps z).node.watch s ≡ true)
        → is_dead (kill n a ps (if b then die n a p u else u)).node.watch s ≡ true
    go true more = more (die n a p u) (dead_too u.node.watch.dead p.serial s h)
    go false more = more u h

pub kill_kills : (n a : ℕ) (p : Process) → p.node ≡ a → (p.serial == 0) ≡ false → (ps : List Process) (u : Turn)
    → list_any (is_process p) ps ≡ true → is_dead (kill n a ps u).node.watch p.serial ≡ true
kill_kills n a p home client [] u h = cc
kill_kills n a p home client (q ∷ ps) u h = go (is_process p q) refl h (kill_kills n a p home client ps)
  where
    this : p ≡ q → (b : Bool) → is_live a u.node.watch q ≡ b
        → is_dead (if b then die n a q u else u).node.watch p.serial ≡ true
    this e true k = ap (λ (z : Process). is_dead (with_dead z.serial u.node.watch) p.serial) (sym e)
        ∙ dead_last u.node.watch.dead p.serial
    this e false k = known (is_dead u.node.watch p.serial) refl
      where
        alive : ((p.node == a) && not (p.serial == 0) && not (is_dead u.node.watch p.serial)) ≡ false
        alive = ap (λ (z : Process). is_live a u.node.watch z) e ∙ k

        known : (d : Bool) → is_dead u.node.watch p.serial ≡ d → d ≡ true
        known true i = refl
        known false i =
            let lives : ((p.node == a) && not (p.serial == 0) && not (is_dead u.node.watch p.serial)) ≡ true =
            rw (eq-eqb p.node a home, client, i) refl in
            cc (lives, alive)

    go : (b : Bool) → is_process p q ≡ b → (b || list_any (is_process p) ps) ≡ true
        → ((z : Turn) → list_any (is_process p) ps ≡ true → is_dead (kill n a ps z).node.watch p.serial ≡ true)
        → is_dead (kill n a ps (if is_live a u.node.watch q then die n a q u else u)).node.watch p.serial ≡ true
    go true e k more = kill_dead n a p.serial ps (if is_live a u.node.watch q then die n a q u else u)
        (this (is_process_same p q e) (is_live a u.node.watch q) refl)
    go false e k more = more (if is_live a u.node.watch q then die n a q u else u) k
