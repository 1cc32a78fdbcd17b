-- A loop that tells of the steps of its node, as these become more.
use Rattle.std.proofs.Common.{◌≡◌, ◌≤◌, ◌+◌, ℕ, Bool, true, false, List, [], ◌∷◌, ◌++◌, map, refl, sym, ap, subst, ◌∙◌, inl, inr, arith, append_assoc, true≢false}
use Rattle.std.specs.Prelude.{◌⊎◌}
use Rattle.std.specs.List.{All}
use Rattle.std.specs.List.Sorted.{IsStrictlyIncreasing}
use Rattle.std.proofs.lemmas.Bool.{cases_eq, ne_eqb}
use Rattle.std.proofs.lemmas.List.{map-append}
use Rattle.registry_model.specs.Process.{Nodes}
use Rattle.protocol_model.specs.Node.{Node, opening_node}
use Rattle.protocol_model.specs.World.{Opening, in_world, in_cluster, place, other}
use Rattle.closings.specs.Alone.{Stamped as StampedLetter, Made, letters_to, sent, unread_after, unread_behind, AreBelow, is_leave, IsStep, Plays, node_behind}
use Rattle.closings.specs.Guarded.{DoesIfFit}
use Rattle.closings.proofs.Growing.{plays_longer, unread_behind_longer, plays_more, node_on, unread_on, sent_on, below_from, below_on, staying_on}
use Rattle.term.specs.Nodes.{IsFirst}
use Rattle.term.specs.NodeSets.{set_of}
use Rattle.node_core.specs.CoreState.{CoreState, bound_of}
use Rattle.node_core.specs.Made.{Made as Turn}
use Rattle.node_core.specs.Seen.{node_of}
use Rattle.node_core.specs.Steps.{Steps, IsAsBefore}
use Rattle.node_log.specs.Entries.{SeatedEntry}
use Rattle.node_log.specs.Events.{event_of}
use Rattle.node_log.specs.Seen.{seen_entry}
use Rattle.tray.specs.Held.{Waiting}
use Rattle.node_loop.specs.declared.item.Item.{Item}
use Rattle.node_loop.specs.declared.edit.Owed.{Owed}
use Rattle.node_loop.specs.Desks.{Kept}
use Rattle.node_loop.specs.Held.{Looping, Written, with_letters}
use Rattle.node_loop.specs.Steps.{Cause, stamp_of, entry_of}
use Rattle.node_loop.specs.Said.{IsSaid}
use Rattle.node_loop.specs.Dealings.{Dealt, letters_in, took, put, receivers, waiting_for}
use Rattle.node_loop.specs.Sound.{IsNodeOf, opened, Stands, EndsSound}
use Rattle.node_loop.proofs.Dealing.{letters_from}
use Rattle.node_loop.proofs.Doing.{made, here}
use Rattle.node_loop.proofs.Trays.{receivers_with, letters_with}

-- it is a node of the world still, where it has the same name and the same world
of_same : (o : Opening) (h k : CoreState) → IsNodeOf o h → k.name ≡ h.name → k.world ≡ h.world → IsNodeOf o k
of_same o h k I n w = record {
  bound = I.bound ∙ ap bound_of (sym w);
  inside = I.inside ∙ ap set_of (sym w);
  here = ap (λ (x : List ℕ). set_of x k.name) w ∙ (ap (set_of h.world) n ∙ I.here);
  first = subst (All IsFirst) (sym w) I.first;
}

-- what its letters were at its opening goes by its name
played_by : (o : Opening) (m n : ℕ) (letters : ℕ → List StampedLetter) (ds : List Made) → n ≡ m
    → Plays (DoesIfFit (IsSaid (in_world o))) o m letters (opening_node (in_cluster o) m) ds
    → Plays (DoesIfFit (IsSaid (in_world o))) o n letters (opening_node (in_cluster o) n) ds
played_by o m n letters ds e h =
    subst (λ (x : ℕ). Plays (DoesIfFit (IsSaid (in_world o))) o x letters (opening_node (in_cluster o) x) ds) (sym e) h

pub logged_more : (course : List Made) (es fs : List SeatedEntry) (m : Made) (e : SeatedEntry) → map (λ x. x.entry) course ≡ map seen_entry es
    → m.entry ≡ seen_entry e → fs ≡ es ++ e ∷ [] → map (λ x. x.entry) (course ++ m ∷ []) ≡ map seen_entry fs
logged_more course es fs m e same one more =
    map-append (λ (x : Made). x.entry) course (m ∷ [])
    ∙ ((λ j. same j ++ one j ∷ [])
    ∙ (sym (map-append seen_entry es (e ∷ [])) ∙ ap (map seen_entry) (sym more)))

module _ (o : Opening) (unread : ℕ → List StampedLetter) (a : Looping) (d : Dealt) (S : Stands o unread a d) where
  -- what the protocol doesn't see of it may be otherwise
  pub besides : (desk : Kept) (wait : ℕ) (worked : Bool) (owed : Owed)
      → Stands o unread (record a { desk = desk; wait = wait; worked = worked; owed = owed }) d
  besides desk wait worked owed = record {
    of = S.of;
    named = S.named;
    world = S.world;
    rising = S.rising;
    course = S.course;
    logged = S.logged;
    plays = S.plays;
    node = S.node;
    below = S.below;
    running = S.running;
    known = S.known;
    tray = S.tray;
    sends = S.sends;
  }

  -- what its steps send begins with what it put
  puts_first : (t : ℕ) (ds : List StampedLetter) (rest : List StampedLetter) → ds ≡ (put d t ++ letters_in (waiting_for t a.tray)) ++ rest
      → (more : List StampedLetter) × (ds ≡ put d t ++ more)
  puts_first t ds rest e = (letters_in (waiting_for t a.tray) ++ rest, e ∙ append_assoc (put d t) (letters_in (waiting_for t a.tray)) rest)

  -- no step more is made
  pub ends_still : (b : Looping) → b.log ≡ a.log → IsAsBefore a.core b.core → EndsSound o b d
  ends_still b log B = record {
    of = of_same o a.core b.core S.of B.name B.world;
    named = ap (λ (l : Written). l.node) log ∙ (S.named ∙ sym B.name);
    course = S.course;
    logged = S.logged ∙ ap (λ (l : Written). map seen_entry l.entries) (sym log);
    node = ap (λ (n : ℕ). node_behind (opening_node (in_cluster o) n) S.course) B.name ∙ (S.node ∙ sym B.node);
    vouches = record {
      plays = played_by o a.core.name b.core.name (took d) S.course B.name S.plays;
      known = S.known;
      puts = λ t known. (letters_in (waiting_for t a.tray), S.sends t known);
    };
  }

  -- its tray is sent as far as it goes
  pub sent_off : (ws : List (Waiting Item)) (e : Dealt) → receivers ws ≡ receivers a.tray → took e ≡ took d
      → ((t : ℕ) → put e t ++ letters_in (waiting_for t ws) ≡ put d t ++ letters_in (waiting_for t a.tray))
      → Stands o unread (record a { tray = ws }) e
  sent_off ws e slots same goes = record {
    of = S.of;
    named = S.named;
    world = S.world;
    rising = S.rising;
    course = S.course;
    logged = S.logged;
    plays = subst (λ (ls : ℕ → List StampedLetter). Plays (DoesIfFit (IsSaid (in_world o))) o a.core.name ls (opened o a.core) S.course)
        (sym same) S.plays;
    node = S.node;
    below = S.below;
    running = λ l. ((S.running l).0, ap (λ (ls : ℕ → List StampedLetter). unread_behind ls S.course) same ∙ (S.running l).1);
    known = λ f strange. (λ j. same j f) ∙ S.known f strange;
    tray = slots ∙ S.tray;
    sends = λ t known. S.sends t known ∙ sym (goes t);
  }

  -- a step more
  module _ (run : a.left ≡ false) (k : Cause) (core : CoreState) (turn : Turn) (step : Steps k.event a.core core turn)
      (own : place (event_of k.logged) ≡ a.core.name) (known : in_world o (other (event_of k.logged)) ≡ true)
      (does : DoesIfFit (IsSaid (in_world o)) o unread (node_of a.core) (made core turn (seen_entry (entry_of k a turn.answers))) (event_of k.logged)) where
    abbrev m : Made
    m = made core turn (seen_entry (entry_of k a turn.answers))

    is_step : IsStep (DoesIfFit (IsSaid (in_world o))) o a.core.name (unread_behind (took d) S.course) (node_behind (opened o a.core) S.course) m []
    is_step = record {
      own = own;
      here = here o a.core S.of;
      known = known;
      does = subst (λ (p : (ℕ → List StampedLetter) × Node). DoesIfFit (IsSaid (in_world o)) o p.0 p.1 m (event_of k.logged))
          (λ j. (sym (S.running run).1 j, sym S.node j)) does;
      rises = tt;
      last = λ _. refl;
    }

    later : a.stamp + 1 ≤ stamp_of k a
    later = omega arith

    plays : Plays (DoesIfFit (IsSaid (in_world o))) o a.core.name (took d) (opened o a.core) (S.course ++ m ∷ [])
    plays = plays_more (DoesIfFit (IsSaid (in_world o))) o a.core.name m (took d) (opened o a.core) S.course S.plays
        (below_from (a.stamp + 1) (stamp_of k a) S.course later S.below) (S.running run).0 is_step

    -- it is logged, and the thread ends
    pub ends_more : (b : Looping) → b.core ≡ core → b.log ≡ record a.log { entries = a.log.entries ++ entry_of k a turn.answers ∷ [] }
        → EndsSound o b d
    ends_more b same log =
        let name : b.core.name ≡ a.core.name = ap (λ (h : CoreState). h.name) same ∙ step.name in
        record {
          of = of_same o a.core b.core S.of name (ap (λ (h : CoreState). h.world) same ∙ step.world);
          named = ap (λ (l : Written). l.node) log ∙ (S.named ∙ sym name);
          course = S.course ++ m ∷ [];
          logged = logged_more S.course a.log.entries b.log.entries m (entry_of k a turn.answers) S.logged refl
              (ap (λ (l : Written). l.entries) log);
          node = node_on m (opened o b.core) S.course ∙ ap node_of (sym same);
          vouches = record {
            plays = played_by o a.core.name b.core.name (took d) (S.course ++ m ∷ []) name plays;
            known = S.known;
            puts = λ t known. puts_first t (sent t (S.course ++ m ∷ [])) (letters_to t m)
                (sent_on m t S.course ∙ ap (λ (l : List StampedLetter). l ++ letters_to t m) (S.sends t known));
          };
        }

    -- it is made, and the thread goes on
    pub stands_more : (b : Looping) → b.core ≡ core → b.log ≡ record a.log { entries = a.log.entries ++ entry_of k a turn.answers ∷ [] }
        → b.stamp ≡ stamp_of k a → b.tray ≡ with_letters (stamp_of k a) turn.letters a.tray → b.world ≡ a.world
        → (b.left ≡ false → is_leave (event_of k.logged) ≡ false) → Stands o (unread_after (event_of k.logged) unread) b d
    stands_more b same log stamp tray world stays =
        let name : b.core.name ≡ a.core.name = ap (λ (h : CoreState). h.name) same ∙ step.name in
        let where_ : b.core.world ≡ a.core.world = ap (λ (h : CoreState). h.world) same ∙ step.world in
        record {
          of = of_same o a.core b.core S.of name where_;
          named = ap (λ (l : Written). l.node) log ∙ (S.named ∙ sym name);
          world = world ∙ (S.world ∙ sym where_);
          rising = subst IsStrictlyIncreasing (sym where_) S.rising;
          course = S.course ++ m ∷ [];
          logged = logged_more S.course a.log.entries b.log.entries m (entry_of k a turn.answers) S.logged refl
              (ap (λ (l : Written). l.entries) log);
          plays = played_by o a.core.name b.core.name (took d) (S.course ++ m ∷ []) name plays;
          node = node_on m (opened o b.core) S.course ∙ ap node_of (sym same);
          below = subst (λ (n : ℕ). AreBelow (n + 1) (S.course ++ m ∷ [])) (sym stamp)
              (below_on m (stamp_of k a + 1) S.course (below_from (a.stamp + 1) (stamp_of k a + 1) S.course (on (stamp_of k a) later) S.below)
              (omega arith));
          running = λ l. (
            staying_on m S.course (S.running run).0 (stays l),
            unread_on m (took d) S.course ∙ ap (unread_after (event_of k.logged)) (S.running run).1,
          );
          known = S.known;
          tray = ap receivers tray ∙ (receivers_with (stamp_of k a) turn.letters a.tray ∙ (S.tray ∙ sym where_));
          sends = λ t known. sent_on m t S.course
              ∙ (ap (λ (l : List StampedLetter). l ++ letters_to t m) (S.sends t known)
              ∙ (append_assoc (put d t) (letters_in (waiting_for t a.tray)) (letters_to t m)
              ∙ ap (λ (l : List StampedLetter). put d t ++ l) (waits t known ∙ ap (λ (ws : List (Waiting Item)). letters_in (waiting_for t ws)) (sym tray))));
        }
      where
        on : (n : ℕ) → a.stamp + 1 ≤ n → a.stamp + 1 ≤ n + 1
        on n l = omega (arith, l)

        waits : (t : ℕ) → in_world o t ≡ true
            → letters_in (waiting_for t a.tray) ++ letters_to t m
            ≡ letters_in (waiting_for t (with_letters (stamp_of k a) turn.letters a.tray))
        waits t known = sym (letters_with (stamp_of k a) t turn.letters a.tray
            (ap (λ (x : List ℕ). set_of x t) S.tray ∙ (sym (ap (λ (s : Nodes). s t) S.of.inside) ∙ known)))

-- a letter that is taken is unread
module _ (o : Opening) (a : Looping) (d e : Dealt) (S : Stands o (λ f. []) a d) where
  pub taken : (from : ℕ) (i : Item) → in_world o from ≡ true → took e ≡ (λ f. took d f ++ letters_from from i f) → put e ≡ put d
      → Stands o (letters_from from i) a e
  taken from i known more same = record {
    of = S.of;
    named = S.named;
    world = S.world;
    rising = S.rising;
    course = S.course;
    logged = S.logged;
    plays = subst (λ (ls : ℕ → List StampedLetter). Plays (DoesIfFit (IsSaid (in_world o))) o a.core.name ls (opened o a.core) S.course)
        (sym more)
        (plays_longer (IsSaid (in_world o)) o (letters_from from i) a.core.name (took d) (opened o a.core) S.course S.plays);
    node = S.node;
    below = S.below;
    running = λ l. (
      (S.running l).0,
      ap (λ (ls : ℕ → List StampedLetter). unread_behind ls S.course) more
          ∙ (unread_behind_longer (IsSaid (in_world o)) o (letters_from from i) a.core.name (took d) (opened o a.core) S.course S.plays
          ∙ λ j f. (S.running l).1 j f ++ letters_from from i f),
    );
    known = λ f strange. (λ j. more j f)
        ∙ ((λ j. S.known f strange j ++ letters_from from i f) ∙ none f strange (cases_eq f from));
    tray = S.tray;
    sends = λ t here. S.sends t here ∙ λ j. sym same j t ++ letters_in (waiting_for t a.tray);
  }
    where
      none : (f : ℕ) → in_world o f ≡ false → (f ≡ from) ⊎ (f ≡ from → ⊥) → letters_from from i f ≡ []
      none f strange (inl e) = absurd (true≢false (sym known ∙ (ap (in_world o) (sym e) ∙ strange)))
      none f strange (inr ne) = rw (ne_eqb f from ne) refl
