-- A `spawn` gives the least process of its node above all that were spawned there that isn't dead.
use mathlib.Core.Logic.{◌⊎◌}
use Rattle.std.proofs.Common.{ℕ, true, ◌≡◌, ◌+◌, ◌<◌, ◌≤◌, Option, Some, None, List, [], ◌∷◌, ◌++◌, refl, sym, ap, subst, arith, inl, inr}
use Rattle.std.specs.Prelude.{Contains, is_none, if◌then◌else◌}
use Rattle.std.proofs.lemmas.List.Elements.{Contains-append_left, Contains-append_right}
use Rattle.registry_model.specs.Process.{Process}
use Rattle.registry_model.specs.Call.{Pid}
use Rattle.registry_model.proofs.Lists.{Contains-front, Contains-nil}
use Rattle.protocol_model.specs.Watch.{Watch, is_dead}
use Rattle.protocol_model.specs.Event.{Call, Event, Answer, Refusal}
use Rattle.protocol_model.specs.World.{Opening, World, WorldEvent, At, opening_world, refusal, turn_of, accepted, answers}
use Rattle.protocol_model.specs.Course.{Played, played, seen}
use Rattle.protocol_model.specs.Answers.{answer_to, IsSpawnOf, WasSpawned, IsNextProcess}
use Rattle.protocol_model.proofs.Serials.{next_serial-new, next_serial-lives, next_serial-passed}
use Rattle.fitting.proofs.Chains
use Rattle.headline.specs.Clauses.{events, world, now, SpawnsGiveTheNext}
use Rattle.headline.proofs.Together.{Whole, whole_opens}
use Rattle.headline.proofs.Story.{ground}
use Rattle.headline.proofs.Spawning.{serial_at, next_at, serial_behind, spawn_answers, spawn_gives, Given, given_opens, given_keeps}

-- the process of node b with the greatest serial that was given there
abbrev pub last_at : World → ℕ → Process
last_at w b = record { node = b; serial = serial_at w b }

-- an event that is answered is accepted
accepts : (o : Opening) (w : World) (e : WorldEvent) (s : Answer) → Contains (answers o w e) s → refusal o w e ≡ None
accepts o w e s = go (refusal o w e)
  where
    go : (r : Option Refusal) → Contains (if is_none r then (turn_of o w e).answers else []) s → r ≡ None
    go None c = refl
    go (Some r) c = absurd (Contains-nil s c)

-- what was spawned stays so
was_more : (ps : List Played) (p : Played) (q : Process) → WasSpawned ps q → WasSpawned (ps ++ p ∷ []) q
was_more ps p q (s, c, I) = (s, Contains-append_left ps (p ∷ []) s c, I)

-- what is kept of serials: the greatest at each node was spawned, where there is one
pub record Spawned (o : Opening) (w : World) (ps : List Played) : Type 0 where
  pub given : Given o w ps
  pub reached : (b : ℕ) → (serial_at w b ≡ 0) ⊎ WasSpawned ps (last_at w b)

module _ (o : Opening) where
  spawned_opens : Spawned o (opening_world o) []
  spawned_opens = record { given = given_opens o; reached = λ b. inl refl }

  -- a step that is a `spawn` at b spawns the next process there
  step_spawns : (w : World) (e : WorldEvent) (ps : List Played) (b : ℕ) → Given o w ps → refusal o w e ≡ None
      → e ≡ At b (Event.Calling Call.Spawn) → IsSpawnOf (played o w e) (next_at w b)
  step_spawns w e ps b G is here = record { event = here; answer = (subst Goal (sym here) answered) is }
    where
      s : Answer
      s = answer_to b 0 (Pid (next_at w b))

      Goal : WorldEvent → Type 0
      Goal e = refusal o w e ≡ None → Contains (played o w e).answers s

      answered : Goal (At b (Event.Calling Call.Spawn))
      answered is = subst (λ (xs : List Answer). Contains xs s) (sym (spawn_answers o w ps b G.kept is))
          (Contains-front s [])

  spawned_keeps : (w : World) (e : WorldEvent) (ps : List Played) → Whole o w → refusal o w e ≡ None → Spawned o w ps
      → Spawned o (accepted o w e) (ps ++ played o w e ∷ [])
  spawned_keeps w e ps W is S = record {
    given = given_keeps o w e ps W is S.given;
    reached = λ b. elim (serial_behind o w e W is b) [
      | inl same ↦ subst (Goal b) (sym same) (elim (S.reached b) [
        | inl none ↦ inl none
        | inr was ↦ inr (was_more ps p (last_at w b) was)
      ])
      | inr next ↦ subst (Goal b) (sym next.1) (inr
          (p, Contains-append_right ps (p ∷ []) p (Contains-front p []), step_spawns w e ps b S.given is next.0))
    ];
  }
    where
      p : Played
      p = played o w e

      Goal : ℕ → ℕ → Type 0
      Goal b serial = (serial ≡ 0) ⊎ WasSpawned (ps ++ p ∷ []) (record { node = b; serial = serial })

  -- what a `spawn` would give is the next process
  pub is_next : (w : World) (ps : List Played) (a : ℕ) → Spawned o w ps → IsNextProcess ps (seen o w).dead a (next_at w a)
  is_next w ps a S = record {
    home = refl;
    serial = omega (arith, next_serial-new v);
    alive = next_serial-lives v;
    above = λ r home was. omega (arith, S.given.below was.0 r was.1 was.2, ap (serial_at w) home, next_serial-new v);
    between = λ r home pos less all. subst (λ (b : ℕ). is_dead (w.node b).watch r.serial ≡ true) (sym home)
        (next_serial-passed v r.serial (behind r pos all (S.reached a)) less);
  }
    where
      v : Watch
      v = (w.node a).watch

      behind : (r : Process) → 0 < r.serial → ((s : Process) → s.node ≡ a → WasSpawned ps s → s.serial < r.serial)
          → (serial_at w a ≡ 0) ⊎ WasSpawned ps (last_at w a) → serial_at w a + 1 ≤ r.serial
      behind r pos all (inl none) = omega arith
      behind r pos all (inr was) = omega (arith, all (last_at w a) refl was)

  -- it holds behind every list of events
  pub spawned : (es : List WorldEvent) → Spawned o (world o es) (events o es)
  spawned es = Chains.course_keeps o (Whole o) (ground o) (Spawned o) spawned_keeps es (opening_world o) []
      (whole_opens o) spawned_opens

-- a `spawn` gives the next process
pub spawns_give_the_next : SpawnsGiveTheNext
spawns_give_the_next o es a q c =
    subst (IsNextProcess (events o es) (now o es).dead a)
    (spawn_gives o (world o es) (events o es) a q (spawned o es).given.kept
    (accepts o (world o es) (At a (Event.Calling Call.Spawn)) (answer_to a 0 (Pid q)) c) c)
    (is_next o (world o es) (events o es) a (spawned o es))
