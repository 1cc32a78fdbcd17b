-- In a quiet world nodes that have a common member have the same members, and all of these run.
use Rattle.std.proofs.Common.{ℕ, Bool, true, false, ◌==◌, ◌≡◌, ◌<◌, Option, Some, None, refl, sym, ap, ◌∙◌}
use Rattle.std.specs.Prelude.{not, ◌&&◌, nat_lt, if◌then◌else◌}
use Rattle.std.proofs.lemmas.Bool.{eqb-true, ltb-true}
use Rattle.registry_model.specs.Registry.{Registry, Replica, replica_of}
use Rattle.registry_model.specs.History.{Hold, hold_at}
use Rattle.protocol_model.specs.Node.{Current, is_writing}
use Rattle.protocol_model.specs.World.{Opening, World, left}
use Rattle.no_dead_end.proofs.Indices.{both}
use Rattle.no_dead_end.proofs.Invariants.{IsUp, standing_at}
use Rattle.no_dead_end.proofs.States
use Rattle.no_dead_end.proofs.Families.{Whole}
use Rattle.no_dead_end.proofs.Grounds.{replicas}
use Rattle.no_dead_end.proofs.Quiet.{rid, at_ease, registrars}
use Rattle.no_dead_end.proofs.Rest.{Grouped}
use Rattle.no_dead_end.specs.Worlds.{of_nodes, IsQuiet}

module _ (o : Opening) (w : World) (W : Whole o w) (Q : IsQuiet (of_nodes o) w) where
  abbrev r : Registry
  r = (standing_at o w).registry

  -- no operation holds, since nobody writes
  nothing_holds : (c : ℕ) (x : Option Hold) → hold_at (standing_at o w) c ≡ x → x ≡ None
  nothing_holds c None e = refl
  nothing_holds c (Some h) e =
      let writes : is_writing (w.node h.node).current ≡ true = States.holder_writes o w (replicas o w W.base) c h e in
      absurd (idle (w.node h.node).current (registrars o w W Q h.node ((replicas o w W.base).writers h.node writes)) writes)
    where
      idle : (x : Current) → at_ease o w W Q x ≡ true → is_writing x ≡ true → ⊥
      idle (Current.Writing op t awaited reply) i k = cc i
      idle x i k = cc k

  shown : (c : ℕ) → IsUp o w c → (w.node c).replica ≡ replica_of r c
  shown c up = States.shows_free o w (replicas o w W.base) c up (nothing_holds c (hold_at (standing_at o w) c) refl)

  group : (c : ℕ) → IsUp o w c → Grouped o c (w.node c).replica
  group c up = (W.rest c up.0).sides.group

  pub below : (c : ℕ) → IsUp o w c → (x : ℕ) → (w.node c).replica.members x ≡ true → x < o.bound
  below c up x h = ltb-true x o.bound (both (nat_lt x o.bound) (o.nodes x) ((group c up).inside x h)).0

  pub apart : (c : ℕ) → IsUp o w c → (x : ℕ) → (w.node c).replica.told x ≡ true → (w.node c).replica.members x ≡ false
  apart c up x told = go ((w.node c).replica.members x) refl
    where
      go : (b : Bool) → (w.node c).replica.members x ≡ b → b ≡ false
      go true e = cc ((group c up).apart x e, told)
      go false e = refl

  pub member_runs : (c : ℕ) → IsUp o w c → (x : ℕ) → (w.node c).replica.members x ≡ true → IsUp o w x
  member_runs c up x h = ((group c up).inside x h, go (left w x) refl)
    where
      go : (b : Bool) → left w x ≡ b → b ≡ false
      go false i = refl
      go true i = cc ((rid o w W Q c x up i).0, (group c up).apart x h)

  -- who is told has left, and who has left is told
  told_same : (c d : ℕ) → IsUp o w c → IsUp o w d → (x : ℕ) → r.told c x ≡ r.told d x
  told_same c d uc ud x = go (r.told c x) (r.told d x) refl refl
    where
      there : (e f : ℕ) → IsUp o w e → IsUp o w f → r.told e x ≡ true → r.told f x ≡ true
      there e f ue uf k = sym (ap (λ (v : Replica). v.told x) (shown f uf))
          ∙ (rid o w W Q f x uf (W.base.all.proper.told_left e x ue.1 (ap (λ (v : Replica). v.told x) (shown e ue) ∙ k))).0

      go : (b k : Bool) → r.told c x ≡ b → r.told d x ≡ k → b ≡ k
      go true true e f = refl
      go false false e f = refl
      go true false e f = cc (there c d uc ud e, f)
      go false true e f = cc (there d c ud uc f, e)

  pub same_members : (c d t : ℕ) → IsUp o w c → IsUp o w d → (w.node c).replica.members t ≡ true
      → (w.node d).replica.members t ≡ true → (x : ℕ) → (w.node c).replica.members x ≡ (w.node d).replica.members x
  same_members c d t uc ud hc hd x = ap (λ (v : Replica). v.members x) (shown c uc) ∙ go (r.joined c) (r.joined d) refl refl
      ∙ sym (ap (λ (v : Replica). v.members x) (shown d ud))
    where
      of : Bool → ℕ → ℕ → Bool
      of b e y = (if b then r.joined y else y == e) && not (r.told e y)

      mine : (e : ℕ) → IsUp o w e → (w.node e).replica.members t ≡ true → (b : Bool) → r.joined e ≡ b
          → (if b then r.joined t else t == e) ≡ true
      mine e ue h b i = (both (if b then r.joined t else t == e) (not (r.told e t))
          (ap (λ (k : Bool). of k e t) (sym i) ∙ sym (ap (λ (v : Replica). v.members t) (shown e ue)) ∙ h)).0

      go : (b k : Bool) → r.joined c ≡ b → r.joined d ≡ k → of (r.joined c) c x ≡ of (r.joined d) d x
      go true true i j = rw (i, j) (ap (λ (k : Bool). r.joined x && not k) (told_same c d uc ud x))
      go true false i j = cc (mine c uc hc true i, ap r.joined (eqb-true t d (mine d ud hd false j)), j)
      go false true i j = cc (mine d ud hd true j, ap r.joined (eqb-true t c (mine c uc hc false i)), i)
      go false false i j =
          let same : c ≡ d = sym (eqb-true t c (mine c uc hc false i)) ∙ eqb-true t d (mine d ud hd false j) in
          ap (λ (e : ℕ). of (r.joined e) e x) same
