-- What stood before an entry of a legal history.
use mathlib.Core.Logic.{◌⊎◌, inl, inr}
use Rattle.std.proofs.Common.{ℕ, Bool, true, false, ◌≡◌, Option, Some, None, List, [], ◌∷◌, ◌++◌, refl, sym, ap, ◌∙◌, subst}
use Rattle.std.specs.Prelude.{not, ◌==◌, Contains, if◌then◌else◌}
use Rattle.std.proofs.lemmas.Bool.{and_parts, or_cases, not-true, eqb-true, eq-eqb}
use Rattle.registry_model.specs.Process.{Nodes}
use Rattle.registry_model.specs.Call.{Look, Reply, Joined, NotMember, ContactLeft, is_reply, seen_in}
use Rattle.registry_model.specs.Registry.{Registry, in_group, replica_of}
use Rattle.registry_model.specs.History.{Entry, Name, Strike, Join, Done, Exit, Left, Told, Read, registry_of, granted_to, Hold, Standing, hold_at, is_free, is_hold_of, is_holding, old_or, old, standing_of}
use Rattle.registry_model.specs.HistoryLaws.{decided_by, IsLeftOut}
use Rattle.registry_model.specs.Legal.{IsLegal, is_legal, may_decide}
use Rattle.registry_model.proofs.Lists.{Contains-front, Contains-behind}
use Rattle.registry_model.proofs.HistoryParts.{registry-standing_of, is_legal-at, IsLegal-front}
use Rattle.registry_model.proofs.Legality.{is_reply-true, name_is_legal, JoinIsLegal, join_is_legal}
use Rattle.registry_model.proofs.Deaths.{Died-dead}
use Rattle.registry_model.proofs.LookUps.{look_law}
use Rattle.registry_model.proofs.Rising.{Rises, Rises-registry_of, is_rising-view}
use Rattle.registry_model.proofs.Holding.{Holds, Holds-standing_of, left_out-hold_at, IsHeld, holds_law}
use Rattle.protocol_model.specs.World.{in_cluster, World}
use Rattle.creations.specs.NodeNames.{opening_of}
use Rattle.creations.specs.NamedWorld.{as_events}
use Rattle.creations.proofs.NamedRuns.{named_runs_are_runs}
use Rattle.creations.specs.Clauses.{world}
use Rattle.creations.proofs.Theorem.{history_is_legal}
use Rattle.history_words.specs.Entries.{HasJoined, ByJoin, IsAdmitted, ByDone, OperationHolds, IsJoinReply, Granted, OfLone, OfGone, ShowsTheReply, IsReadReply, ByAll, WithoutOne, SaysWhatStood, LegalSaysWhatStood, WorldsSayWhatStood, NamedWorldsSayWhatStood, WorldSaysWhatStood}
use Rattle.history_words.proofs.Shown.{shown_of}
use Rattle.history_words.proofs.Acting.{acts_while_there}
use Rattle.history_words.proofs.Entries.{left_entered, entered_left, told_entered, entered_told, joined_entered, entered_joined}

-- the element between two parts of a list
among : (b l : List Entry) (e : Entry) → Contains (b ++ e ∷ l) e
among [] l e = Contains-front e l
among (d ∷ b) l e = Contains-behind d (b ++ e ∷ l) e (among b l e)

-- a list in two parts around one element, and around another: both are one, or the first is among the rest
two_splits : (b l c m : List Entry) (e f : Entry) → b ++ e ∷ l ≡ c ++ f ∷ m → ((e ≡ f) × (l ≡ m)) ⊎ Contains (c ++ m) e
two_splits [] l [] m e f s = inl (cc s, cc s)
two_splits [] l (d ∷ c) m e f s =
    let same : e ≡ d = cc s in inr (subst (λ (x : Entry). Contains (d ∷ (c ++ m)) x) (sym same) (Contains-front d (c ++ m)))
two_splits (d ∷ b) l [] m e f s =
    let rest : b ++ e ∷ l ≡ m = cc s in inr (subst (λ (xs : List Entry). Contains xs e) rest (among b l e))
two_splits (d ∷ b) l (g ∷ c) m e f s =
    let rest : b ++ e ∷ l ≡ c ++ f ∷ m = cc s in
    elim (two_splits b l c m e f rest) [
      | inl same ↦ inl same
      | inr i ↦ inr (Contains-behind g (c ++ m) e i)
    ]

-- whoever decides hasn't left
decider_stays : (s : Standing) (e : Entry) (n : ℕ) → is_legal s e ≡ true → decided_by e ≡ Some n → s.registry.left n ≡ false
decider_stays s (Name b k call reply) n l d =
    let same : b ≡ n = cc d in
    subst (λ (x : ℕ). s.registry.left x ≡ false) same (name_is_legal s b call reply l).running
decider_stays s (Strike p) n l d =
    let same : p.node ≡ n = cc d in
    let a : (may_decide s p.node ≡ true) × (s.registry.dead p ≡ true) = and_parts (may_decide s p.node) (s.registry.dead p) l in
    subst (λ (x : ℕ). s.registry.left x ≡ false) same
    (not-true (s.registry.left p.node) (and_parts (is_free s p.node) (not (s.registry.left p.node)) a.0).1)
decider_stays s (Join j k m Joined) n l d =
    let same : m ≡ n = cc d in subst (λ (x : ℕ). s.registry.left x ≡ false) same (join_is_legal s j m l).running
decider_stays s (Join j k m _) n l d = absurd (cc d)
decider_stays s (Done m) n l d = absurd (cc d)
decider_stays s (Exit p) n l d = absurd (cc d)
decider_stays s (Left c) n l d = absurd (cc d)
decider_stays s (Told m c) n l d = absurd (cc d)
decider_stays s (Read m look reply) n l d = absurd (cc d)

module _ (cluster : Nodes) where
  -- an admitted node has joined, also without an operation that is left out
  admitted_before : (h : List Entry) (n : ℕ) → IsAdmitted cluster h n → HasJoined cluster h n
  admitted_before h n (IsAdmitted.AtFirst q) = HasJoined.AtFirst q
  admitted_before h n (ByDone before later k m s d) =
      ByJoin k m (subst (λ (xs : List Entry). Contains xs (Join n k m Joined)) (sym s) (among before later (Join n k m Joined)))

  admitted_without : (h : List Entry) (n : ℕ) (hold : Hold) → IsAdmitted cluster h n → (L : IsLeftOut cluster h hold)
      → HasJoined cluster (L.before ++ L.later) n
  admitted_without h n hold (IsAdmitted.AtFirst q) L = HasJoined.AtFirst q
  admitted_without h n hold (ByDone before later k m s d) L =
      elim (two_splits before later L.before L.later (Join n k m Joined) hold.entry (sym s ∙ L.split)) [
        | inl same ↦
            let granted : Some m ≡ Some hold.node = ap granted_to same.0 ∙ L.holder in
            let node : m ≡ hold.node = cc granted in
            absurd (L.not_done (subst (λ (x : ℕ). Contains L.later (Done x)) node
            (subst (λ (xs : List Entry). Contains xs (Done m)) same.1 d)))
        | inr i ↦ ByJoin k m i
      ]

  -- so it is joined by the registry, and by that without the operation that holds
  joined_old : (h : List Entry) (n : ℕ) → IsAdmitted cluster h n → (old (standing_of cluster h) n).joined n ≡ true
  joined_old h n a = go (hold_at (standing_of cluster h) n) refl
    where
      go : (x : Option Hold) → hold_at (standing_of cluster h) n ≡ x
          → (old_or (standing_of cluster h).registry x).joined n ≡ true
      go None e = ap (λ (r : Registry). r.joined n) (registry-standing_of cluster h)
          ∙ entered_joined cluster n h (admitted_before h n a)
      go (Some hold) e =
          let L : IsLeftOut cluster h hold =
          left_out-hold_at cluster h (standing_of cluster h) (Holds-standing_of cluster h) n hold e in
          ap (λ (r : Registry). r.joined n) L.old
          ∙ entered_joined cluster n (L.before ++ L.later) (admitted_without h n hold a L)

  -- what is told by the standing of a history is told by its registry
  in_registry : (h : List Entry) (f : Registry → Bool) (b : Bool) → f (standing_of cluster h).registry ≡ b
      → f (registry_of cluster h) ≡ b
  in_registry h f b e = ap f (sym (registry-standing_of cluster h)) ∙ e

  join_reply : (h : List Entry) (j k m : ℕ) (reply : Reply) → is_legal (standing_of cluster h) (Join j k m reply) ≡ true
      → IsJoinReply cluster h j m reply
  join_reply h j k m Joined l =
      let J : JoinIsLegal (standing_of cluster h) j m = join_is_legal (standing_of cluster h) j m l in
      Granted (record {
        lone = λ a. cc (in_registry h (λ r. r.joined j) false J.lone, entered_joined cluster j h a);
        contact = joined_entered cluster m h (in_registry h (λ r. r.joined m) true J.contact);
        untold = λ t. cc (in_registry h (λ r. r.told m j) false J.untold, entered_told cluster h m j t);
      })
  join_reply h j k m NotMember l = OfLone (λ a. cc (not-true ((old (standing_of cluster h) m).joined m) l, joined_old h m a))
  join_reply h j k m ContactLeft l = OfGone (told_entered cluster h j m (in_registry h (λ r. r.told j m) true l))
  join_reply h j k m _ l = absurd (cc l)

  -- a hold is of an operation that isn't done
  hold_open : (h : List Entry) (n : ℕ) (x : Option Hold) → hold_at (standing_of cluster h) n ≡ x → is_hold_of n x ≡ true
      → OperationHolds h n
  hold_open h n None e q = absurd (cc q)
  hold_open h n (Some hold) e q =
      let L : IsLeftOut cluster h hold =
      left_out-hold_at cluster h (standing_of cluster h) (Holds-standing_of cluster h) n hold e in
      let same : hold.node ≡ n = eqb-true hold.node n q in
      record {
        before = L.before;
        later = L.later;
        entry = hold.entry;
        split = L.split;
        granted = L.holder ∙ ap (λ (x : ℕ). let y : Option ℕ = Some x in y) same;
        not_done = λ d. L.not_done (subst (λ (x : ℕ). Contains L.later (Done x)) (sym same) d);
      }

  -- and an operation that isn't done holds
  open_holds : (h : List Entry) (n : ℕ) → IsLegal cluster h → OperationHolds h n → is_holding (standing_of cluster h) n ≡ true
  open_holds h n l O =
      let H : IsHeld (standing_of cluster h) n O.entry =
      holds_law cluster h l O.before O.later O.entry n O.split O.granted O.not_done in
      ap (is_hold_of n) H.1 ∙ eq-eqb H.0.node n H.2

  -- what is seen in what a rising registry has to show
  shows_reply : (r : Registry) → Rises r → (n : ℕ) (look : Look) (reply : Reply)
      → is_reply reply (seen_in (replica_of r n) look) ≡ true → ShowsTheReply r n look reply
  shows_reply r rises n look reply e = record {
    shown = replica_of r n;
    of_registry = shown_of r rises n;
    seen = (look_law (replica_of r n) look reply (is_rising-view r rises n)).1
        (is_reply-true reply (seen_in (replica_of r n) look) e);
  }

  -- an operation that holds at n is of a node of its group
  hold_group : (h : List Entry) (n : ℕ) (hold : Hold) → hold_at (standing_of cluster h) n ≡ Some hold
      → in_group (registry_of cluster h) n hold.node ≡ true
  hold_group h n hold e = ap (λ (r : Registry). in_group r n hold.node) (sym (registry-standing_of cluster h))
      ∙ go ((standing_of cluster h).registry.joined n) e
    where
      known : Holds cluster h (standing_of cluster h)
      known = Holds-standing_of cluster h

      go : (b : Bool) → (if b then (standing_of cluster h).held else (standing_of cluster h).lone_held n) ≡ Some hold
          → (if b then (standing_of cluster h).registry.joined hold.node else hold.node == n) ≡ true
      go true q = known.joined hold q
      go false q = eq-eqb hold.node n (known.lone n hold q)

  read_reply : (h : List Entry) (n : ℕ) (look : Look) (reply : Reply)
      → is_legal (standing_of cluster h) (Read n look reply) ≡ true → IsReadReply cluster h n look reply
  read_reply h n look reply l = elim (or_cases
      (is_reply reply (seen_in (replica_of (standing_of cluster h).registry n) look))
      (is_reply reply (seen_in (replica_of (old (standing_of cluster h) n) n) look)) l) [
        | inl e ↦ all e
        | inr e ↦ without (hold_at (standing_of cluster h) n) refl e
      ]
    where
      all : is_reply reply (seen_in (replica_of (standing_of cluster h).registry n) look) ≡ true
          → IsReadReply cluster h n look reply
      all e = ByAll (shows_reply (registry_of cluster h) (Rises-registry_of cluster h) n look reply
          (in_registry h (λ r. is_reply reply (seen_in (replica_of r n) look)) true e))

      without : (x : Option Hold) → hold_at (standing_of cluster h) n ≡ x
          → is_reply reply (seen_in (replica_of (old_or (standing_of cluster h).registry x) n) look) ≡ true
          → IsReadReply cluster h n look reply
      without None q e = all e
      without (Some hold) q e =
          let L : IsLeftOut cluster h hold =
          left_out-hold_at cluster h (standing_of cluster h) (Holds-standing_of cluster h) n hold q in
          WithoutOne hold.node (record {
            before = L.before;
            later = L.later;
            entry = hold.entry;
            split = L.split;
            granted = L.holder;
            not_done = L.not_done;
          }) (hold_group h n hold q)
          (shows_reply (registry_of cluster (L.before ++ L.later)) (Rises-registry_of cluster (L.before ++ L.later)) n look reply
          (ap (λ (r : Registry). is_reply reply (seen_in (replica_of r n) look)) (sym L.old) ∙ e))

  says_what_stood : (h : List Entry) → IsLegal cluster h → SaysWhatStood cluster h
  says_what_stood h legal = record {
    struck = λ before later p s.
        let l : (may_decide (standing_of cluster before) p.node ≡ true) × ((standing_of cluster before).registry.dead p ≡ true) =
        and_parts (may_decide (standing_of cluster before) p.node) ((standing_of cluster before).registry.dead p)
        (legal_at before later (Strike p) s) in
        Died-dead cluster p before (in_registry before (λ r. r.dead p) true l.1);
    joins = λ before later j k m reply s. join_reply before j k m reply (legal_at before later (Join j k m reply) s);
    told = λ before later n d s.
        left_entered cluster d before (in_registry before (λ r. r.left d) true (legal_at before later (Told n d) s));
    leaves_once = λ before later d s c. cc (
      not-true ((standing_of cluster before).registry.left d) (leaving before later d s).0,
      ap (λ (r : Registry). r.left d) (registry-standing_of cluster before) ∙ entered_left cluster d before c,
    );
    leaves_free = λ before later d s O. cc (
      not-true (is_holding (standing_of cluster before) d) (leaving before later d s).1,
      open_holds before d (IsLegal-front cluster before (Left d ∷ later) (whole before later (Left d) s)) O,
    );
    decides = λ before later e n s d c. cc (
      decider_stays (standing_of cluster before) e n (legal_at before later e s) d,
      ap (λ (r : Registry). r.left n) (registry-standing_of cluster before) ∙ entered_left cluster n before c,
    );
    reads = λ before later n look reply s. read_reply before n look reply (legal_at before later (Read n look reply) s);
    done = λ before later n s.
        hold_open before n (hold_at (standing_of cluster before) n) refl (legal_at before later (Done n) s);
  }
    where
      whole : (before later : List Entry) (e : Entry) → h ≡ before ++ e ∷ later → IsLegal cluster (before ++ e ∷ later)
      whole before later e s = subst (λ (g : List Entry). IsLegal cluster g) s legal

      legal_at : (before later : List Entry) (e : Entry) → h ≡ before ++ e ∷ later → is_legal (standing_of cluster before) e ≡ true
      legal_at before later e s = is_legal-at cluster before later e (whole before later e s)

      leaving : (before later : List Entry) (d : ℕ) → h ≡ before ++ Left d ∷ later
          → (not ((standing_of cluster before).registry.left d) ≡ true) × (not (is_holding (standing_of cluster before) d) ≡ true)
      leaving before later d s = and_parts (not ((standing_of cluster before).registry.left d))
          (not (is_holding (standing_of cluster before) d)) (legal_at before later (Left d) s)

pub legal_says_what_stood : LegalSaysWhatStood
legal_says_what_stood cluster h legal = says_what_stood cluster h legal

pub worlds_say_what_stood : WorldsSayWhatStood
worlds_say_what_stood o es = record {
  stood = says_what_stood (in_cluster o) (world o es).history (history_is_legal o es);
  acts = acts_while_there o es;
}

pub named_worlds_say_what_stood : NamedWorldsSayWhatStood
named_worlds_say_what_stood o es =
    subst (λ (w : World). WorldSaysWhatStood (in_cluster (opening_of o)) w.history) (sym (named_runs_are_runs o es))
    (worlds_say_what_stood (opening_of o) (as_events o es))
