-- Why a restart is refused.
use mathlib.Core.Logic.{inl, inr}
use Rattle.std.proofs.Common.{ℕ, Bool, true, false, ◌≡◌, ◌<◌, ◌≤◌, refl, ap, subst, ◌∙◌}
use Rattle.std.specs.Prelude.{Contains, Option, Some, None, not, nat_lt, if◌then◌else◌}
use Rattle.std.proofs.lemmas.Bool.{cases_order, ltb-true, ltb-false, lt-ltb, le-ltb, not-true, not-false}
use Rattle.protocol_model.specs.Event.{NoSuchNode}
use Rattle.protocol_model.specs.World.{left}
use Rattle.creations.specs.NodeNames.{NamedOpening, is_name}
use Rattle.creations.specs.NamedWorld.{NamedWorld, NamedRefusal, Plain, StillRunning, NotToldYet, CreationsSpent, Restart, present_node, running_nodes, first_untold, untold_or_spent, named_refusal, after_events}
use Rattle.creations.specs.Restarts.{IsLeastUntold, HasGone, AllAreTold, RestartSaysWhy, RestartsSayWhy}
use Rattle.creations.proofs.Lists.{find_none, find_least}
use Rattle.creations.proofs.Standing.{Sound}
use Rattle.creations.proofs.Running.{runs_listed, listed_runs, running_rise}
use Rattle.creations.proofs.Always.{always}

module _ (o : NamedOpening) (w : NamedWorld) (s : Sound o w) (x : ℕ) where
  abbrev old : ℕ
  old = present_node o w x

  abbrev untold : ℕ → Bool
  untold c = not ((w.world.node c).replica.told old)

  -- the refusal, by what is tested
  abbrev by_tests : Bool → Bool → Option ℕ → Option NamedRefusal
  by_tests b c u = if not b then Some (Plain NoSuchNode) else (if c then untold_or_spent o w x u else Some StillRunning)

  -- who is found is the least that wasn't told
  found : (n : ℕ) → first_untold o w old ≡ Some n → IsLeastUntold o w x n
  found n e =
      let f : Contains (running_nodes o w) n × (untold n ≡ true)
      × ((c : ℕ) → Contains (running_nodes o w) c → c < n → untold c ≡ false) =
      find_least untold (running_nodes o w) n (running_rise o w s) e in
      record {
        up = listed_runs o w s n f.0;
        untold = not-true ((w.world.node n).replica.told old) f.1;
        least = λ c up l. not-false ((w.world.node c).replica.told old) (f.2 c (runs_listed o w s c up) l);
      }

  all_told : first_untold o w old ≡ None → AllAreTold o w x
  all_told e c up = not-false ((w.world.node c).replica.told old)
      (find_none untold (running_nodes o w) e c (runs_listed o w s c up))

  none_found : AllAreTold o w x → first_untold o w old ≡ None
  none_found all = go (first_untold o w old) refl
    where
      go : (u : Option ℕ) → first_untold o w old ≡ u → u ≡ None
      go None e = refl
      go (Some n) e = let l : IsLeastUntold o w x n = found n e in absurd (cc (l.untold, all n l.up))

  least_found : (n : ℕ) → IsLeastUntold o w x n → first_untold o w old ≡ Some n
  least_found n l = go (first_untold o w old) refl
    where
      go : (u : Option ℕ) → first_untold o w old ≡ u → u ≡ Some n
      go None e = absurd (cc (l.untold, all_told e n l.up))
      go (Some k) e =
          let m : IsLeastUntold o w x k = found k e in
          elim (cases_order k n) [
            | inl same ↦ ap (λ (y : ℕ). let r : Option ℕ = Some y in r) same
            | inr (inl less) ↦ absurd (cc (l.least k m.up less, m.untold))
            | inr (inr more) ↦ absurd (cc (m.least n l.up more, l.untold))
          ]

  -- the refusal where these tests came out so
  refused_by : (b c : Bool) (u : Option ℕ) → is_name o x ≡ b → left w.world old ≡ c → first_untold o w old ≡ u
      → named_refusal o w (Restart x) ≡ by_tests b c u
  refused_by b c u e f g = ap (λ (y : Bool). by_tests y (left w.world old) (first_untold o w old)) e
      ∙ ap (λ (y : Bool). by_tests b y (first_untold o w old)) f ∙ ap (λ (y : Option ℕ). by_tests b c y) g

  -- whether creations are left
  abbrev left_or_spent : Bool → Option NamedRefusal
  left_or_spent b = if b then None else Some CreationsSpent

  -- what a refusal tells of the tests, where P is said of each outcome
  told_by : (P : Option NamedRefusal → Type 0) → (is_name o x ≡ false → P (Some (Plain NoSuchNode)))
      → (is_name o x ≡ true → left w.world old ≡ false → P (Some StillRunning))
      → ((n : ℕ) → HasGone o w x → IsLeastUntold o w x n → P (Some (NotToldYet n)))
      → (HasGone o w x → AllAreTold o w x → o.last ≤ w.present x → P (Some CreationsSpent))
      → (HasGone o w x → AllAreTold o w x → w.present x < o.last → P None) → P (named_refusal o w (Restart x))
  told_by P nobody runs waits spent fine = go (is_name o x) (left w.world old) (first_untold o w old) refl refl refl
    where
      by : (b : Bool) → nat_lt (w.present x) o.last ≡ b → HasGone o w x → AllAreTold o w x → P (left_or_spent b)
      by true e h all = fine h all (ltb-true (w.present x) o.last e)
      by false e h all = spent h all (ltb-false (w.present x) o.last e)

      go : (b c : Bool) (u : Option ℕ) → is_name o x ≡ b → left w.world old ≡ c → first_untold o w old ≡ u → P (by_tests b c u)
      go false c u e f g = nobody e
      go true false u e f g = runs e f
      go true true (Some n) e f g = waits n (record { known = e; gone = f }) (found n g)
      go true true None e f g = by (nat_lt (w.present x) o.last) refl (record { known = e; gone = f }) (all_told g)

  says_why : RestartSaysWhy o w x
  says_why = record {
    no_such_node = (
      told_by (λ r. r ≡ Some (Plain NoSuchNode) → is_name o x ≡ false) (λ e q. e) (λ e f q. absurd (cc q))
          (λ n h l q. absurd (cc q)) (λ h a l q. absurd (cc q)) (λ h a l q. absurd (cc q)),
      λ e. refused_by false (left w.world old) (first_untold o w old) e refl refl,
    );
    still_running = (
      told_by (λ r. r ≡ Some StillRunning → (is_name o x ≡ true) × (left w.world old ≡ false)) (λ e q. absurd (cc q))
          (λ e f q. (e, f)) (λ n h l q. absurd (cc q)) (λ h a l q. absurd (cc q)) (λ h a l q. absurd (cc q)),
      λ e. refused_by true false (first_untold o w old) e.0 e.1 refl,
    );
    not_told = λ n. (
      told_by (λ r. r ≡ Some (NotToldYet n) → HasGone o w x × IsLeastUntold o w x n) (λ e q. absurd (cc q))
          (λ e f q. absurd (cc q)) (λ k h l q. (h, subst (IsLeastUntold o w x) (same k n q) l)) (λ h a l q. absurd (cc q))
          (λ h a l q. absurd (cc q)),
      λ e. refused_by true true (Some n) e.0.known e.0.gone (least_found n e.1),
    );
    spent = (
      told_by (λ r. r ≡ Some CreationsSpent → HasGone o w x × AllAreTold o w x × (o.last ≤ w.present x)) (λ e q. absurd (cc q))
          (λ e f q. absurd (cc q)) (λ n h l q. absurd (cc q)) (λ h a l q. (h, a, l)) (λ h a l q. absurd (cc q)),
      λ e. refused_by true true None e.0.known e.0.gone (none_found e.1) ∙ ap left_or_spent (le-ltb (w.present x) o.last e.2),
    );
    accepted = (
      told_by (λ r. r ≡ None → HasGone o w x × AllAreTold o w x × (w.present x < o.last)) (λ e q. absurd (cc q))
          (λ e f q. absurd (cc q)) (λ n h l q. absurd (cc q)) (λ h a l q. absurd (cc q)) (λ h a l q. (h, a, l)),
      λ e. refused_by true true None e.0.known e.0.gone (none_found e.1) ∙ ap left_or_spent (lt-ltb (w.present x) o.last e.2),
    );
  }
    where
      same : (k n : ℕ) → Some (NotToldYet k) ≡ Some (NotToldYet n) → k ≡ n
      same k n q = cc

pub restarts_say_why : RestartsSayWhy
restarts_say_why o es x = says_why o (after_events o es) (always o es) x
