-- A node that hasn't started can be told at any time of all nodes that have left: their `Down`s wait for it.
use Rattle.std.proofs.Common.{ℕ, Bool, true, false, ◌≡◌, [], ◌∷◌, refl, sym, ap, ◌∙◌, inl, inr}
use Rattle.std.specs.Prelude.{Contains, ◌&&◌, nat_lt, if◌then◌else◌}
use Rattle.std.proofs.Math.Path.{fun_ext}
use Rattle.std.proofs.lemmas.Bool.{and_parts, ltb-true, false_from_ne_true}
use Rattle.std.proofs.lemmas.List.Elements.{filter_agree}
use Rattle.registry_model.specs.Process.{Nodes, nobody}
use Rattle.protocol_model.specs.Letter.{Letter}
use Rattle.protocol_model.specs.Course.{is_down_first}
use Rattle.protocol_model.specs.World.{in_world, in_cluster, left}
use Rattle.creations.specs.NodeNames.{NamedOpening, name_of, opening_of}
use Rattle.creations.specs.NamedWorld.{NamedWorld, has_started, started_nodes, waiting_for}
use Rattle.creations.specs.Restarts.{who_left}
use Rattle.creations.proofs.Numbers.{inside-name}
use Rattle.creations.proofs.Telling.{told_all, told_of, told_only, AreDistinct, Waits, IsFresh}
use Rattle.creations.proofs.Lists.{Contains-filter, filter-Contains, Rise, rise-filter, distinct_of}
use Rattle.creations.proofs.StartedLists.{in_started, started_rise}
use Rattle.creations.proofs.Standing.{Sound, started_to, unstarted_lone, opening_fresh}

module _ (o : NamedOpening) (w : NamedWorld) (s : Sound o w) where
  abbrev S : Nodes
  S = has_started o w

  pub left_started : (d : ℕ) → left w.world d ≡ true → S d ≡ true
  left_started d e = go (S d) refl
    where
      go : (b : Bool) → S d ≡ b → b ≡ true
      go true q = refl
      go false q = cc (s.apart.stays d q, e)

  -- who has left is listed
  pub listed : (d : ℕ) → left w.world d ≡ true → Contains (who_left o w) d
  listed d e = filter-Contains (left w.world) (started_nodes o w) d
      (in_started o w s.present d (ltb-true (name_of o d) o.bound known.0) known.1 (started_to o w d (left_started d e))) e
    where
      known : (nat_lt (name_of o d) o.bound ≡ true) × (o.names (name_of o d) ≡ true)
      known = and_parts (nat_lt (name_of o d) o.bound) (o.names (name_of o d)) (sym (inside-name o d) ∙ s.inside d e)

  pub has_left : (d : ℕ) → Contains (who_left o w) d → left w.world d ≡ true
  has_left d i = (Contains-filter (left w.world) (started_nodes o w) d i).1

  pub told_are : told_all nobody (who_left o w) ≡ left w.world
  told_are = fun_ext (λ c. go c (left w.world c) refl)
    where
      go : (c : ℕ) (b : Bool) → left w.world c ≡ b → told_all nobody (who_left o w) c ≡ b
      go c true e = told_of nobody (who_left o w) c (listed c e)
      go c false e = false_from_ne_true (told_all nobody (who_left o w) c) (λ q. elim (told_only nobody (who_left o w) c q) [
        | inl none ↦ cc none
        | inr i ↦ cc (has_left c i, e)
      ])

  pub they_rise : Rise (who_left o w)
  they_rise = rise-filter (left w.world) (started_nodes o w) (started_rise o w s.present)

  pub distinct : AreDistinct (who_left o w)
  distinct = distinct_of (who_left o w) they_rise

  module _ (n : ℕ) (unstarted : S n ≡ false) (inside-n : in_world (opening_of o) n ≡ true) where
    -- the `Down` of each node that has left waits for it, and nothing else
    pub downs : (d : ℕ) → w.world.links.queue d n ≡ (if left w.world d then Letter.Down ∷ [] else [])
    downs d = s.apart.told d n unstarted ∙ ap (λ (b : Bool). if left w.world d && b then Letter.Down ∷ [] else []) inside-n
        ∙ ap (λ (b : Bool). if b then Letter.Down ∷ [] else []) (plain_and (left w.world d))
      where
        plain_and : (b : Bool) → (b && true) ≡ b
        plain_and true = refl
        plain_and false = refl

    pub who_waits : waiting_for o w n ≡ who_left o w
    who_waits = filter_agree (λ d. is_down_first (w.world.links.queue d n)) (left w.world)
        (λ d. ap is_down_first (downs d) ∙ go (left w.world d)) (started_nodes o w)
      where
        go : (b : Bool) → is_down_first (if b then Letter.Down ∷ [] else []) ≡ b
        go true = refl
        go false = refl

    pub waits : (d : ℕ) → Contains (who_left o w) d → Waits (opening_of o) n w.world d
    waits d i = record {
      inside = s.inside d (has_left d i);
      other = λ same. cc (has_left d i, ap (left w.world) same, s.apart.stays n unstarted);
      letter = downs d ∙ ap (λ (b : Bool). if b then Letter.Down ∷ [] else []) (has_left d i);
    }

    pub fresh : IsFresh (opening_of o) n w.world nobody
    fresh = record {
      inside = inside-n;
      stays = s.apart.stays n unstarted;
      node = s.apart.node n unstarted ∙ opening_fresh (in_cluster (opening_of o)) n (unstarted_lone o w s n unstarted);
    }
