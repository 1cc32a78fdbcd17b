-- What nodes show, in words.
use mathlib.Core.Logic.{inl, inr}
use Rattle.std.proofs.Common.{ℕ, Bool, true, ◌==◌, ◌≡◌, Option, Some, None, List, ◌++◌, refl, sym, ap, ◌∙◌, subst}
use Rattle.std.specs.Prelude.{not, if◌then◌else◌}
use Rattle.std.proofs.lemmas.Bool.{and_parts, and_from, not-true, eqb-true, eq-eqb}
use Rattle.registry_model.specs.Process.{Nodes}
use Rattle.registry_model.specs.Table.{without}
use Rattle.registry_model.specs.Call.{NoticesOf}
use Rattle.registry_model.specs.Registry.{Registry, in_group, replica_of}
use Rattle.registry_model.specs.SharedLaws.{IsWithout}
use Rattle.registry_model.specs.History.{Entry, registry_of, Hold, Standing, hold_at, old_or, old, standing_of}
use Rattle.registry_model.specs.HistoryLaws.{IsLeftOut}
use Rattle.registry_model.proofs.Changes.{without_law}
use Rattle.registry_model.proofs.Rising.{Rises, Rises-registry_of, is_rising-view}
use Rattle.registry_model.proofs.HistoryParts.{registry-standing_of}
use Rattle.registry_model.proofs.Holding.{Holds-standing_of, left_out-hold_at}
use Rattle.protocol_model.specs.World.{Opening, in_cluster, WorldEvent}
use Rattle.protocol_model.specs.Course.{entries_of}
use Rattle.protocol_model.specs.Headline.{Headline}
use Rattle.creations.specs.Clauses.{now, events}
use Rattle.creations.proofs.Theorem.{agreement}
use Rattle.history_words.specs.Shown.{IsShownOf, ShowsTheRegistry, ShowsInWords, NodesShowInWords}

-- what a node has to show of a registry whose tables rise
pub shown_of : (r : Registry) → Rises r → (n : ℕ) → IsShownOf r n (replica_of r n)
shown_of r rises n = record {
  rises = is_rising-view r rises n;
  cluster = λ j. subst (λ (b : Bool). IsWithout (r.told n) r.table (without (r.told n) (if b then r.table else r.lone n))) (sym j)
      (without_law (r.told n) r.table rises.table).so;
  lone = λ j. subst (λ (b : Bool). IsWithout (r.told n) (r.lone n) (without (r.told n) (if b then r.table else r.lone n))) (sym j)
      (without_law (r.told n) (r.lone n) (rises.lone n)).so;
  members = λ j c. (
    λ e.
        let parts : (in_group r n c ≡ true) × (not (r.told n c) ≡ true) = and_parts (in_group r n c) (not (r.told n c)) e in
        (sym (ap (λ (b : Bool). if b then r.joined c else c == n) j) ∙ parts.0, not-true (r.told n c) parts.1),
    λ h. and_from (in_group r n c) (not (r.told n c)) (ap (λ (b : Bool). if b then r.joined c else c == n) j ∙ h.0) (ap not h.1),
  );
  alone = λ j c. (
    λ e.
        let parts : (in_group r n c ≡ true) × (not (r.told n c) ≡ true) = and_parts (in_group r n c) (not (r.told n c)) e in
        (eqb-true c n (sym (ap (λ (b : Bool). if b then r.joined c else c == n) j) ∙ parts.0), not-true (r.told n c) parts.1),
    λ h. and_from (in_group r n c) (not (r.told n c))
        (ap (λ (b : Bool). if b then r.joined c else c == n) j ∙ eq-eqb c n h.0) (ap not h.1),
  );
  told = λ d. refl;
  joined = refl;
  notices = λ p e. subst (λ (m : ℕ). (replica_of r m).notices p.serial ≡ r.notices p) e refl;
}

pub shows_the_registry : ShowsTheRegistry
shows_the_registry cluster h n = shown_of (registry_of cluster h) (Rises-registry_of cluster h) n

module _ (cluster : Nodes) (h : List Entry) where
  abbrev stands : Standing
  stands = standing_of cluster h

  -- the registry of a history rises, and so does that without the operation that holds
  rises_now : Rises stands.registry
  rises_now = subst Rises (sym (registry-standing_of cluster h)) (Rises-registry_of cluster h)

  pub rises_old : (a : ℕ) → Rises (old stands a)
  rises_old a = go (hold_at stands a) refl
    where
      go : (x : Option Hold) → hold_at stands a ≡ x → Rises (old_or stands.registry x)
      go None e = rises_now
      go (Some hold) e =
          let L : IsLeftOut cluster h hold = left_out-hold_at cluster h stands (Holds-standing_of cluster h) a hold e in
          subst Rises (sym L.old) (Rises-registry_of cluster (L.before ++ L.later))

shows : (o : Opening) (es : List WorldEvent) (a : ℕ) → ShowsInWords o es a
shows o es a =
    let H : Headline o (events o es) (now o es) = agreement o es in
    record {
      free = λ runs free. subst (IsShownOf (stands (in_cluster o) h).registry a) (sym (H.free a runs free))
          (shown_of (stands (in_cluster o) h).registry (rises_now (in_cluster o) h) a);
      held = λ runs. elim (H.held a runs) [
        | inl e ↦ inl (subst (IsShownOf (stands (in_cluster o) h).registry a) (sym e)
            (shown_of (stands (in_cluster o) h).registry (rises_now (in_cluster o) h) a))
        | inr e ↦ inr (subst (IsShownOf (old (stands (in_cluster o) h) a) a) (sym e)
            (shown_of (old (stands (in_cluster o) h) a) (rises_old (in_cluster o) h a) a))
      ];
      answered = λ p runs may. H.reads a (NoticesOf p) runs may;
    }
  where
    h : List Entry
    h = entries_of (events o es)

pub nodes_show_in_words : (o : Opening) → NodesShowInWords o
nodes_show_in_words o = record { opens = λ a serial. refl; shows = shows o }
