-- Whether a thread ended alone, by why its turns ended and whether its node had left.
use Rattle.std.proofs.Common.{ℕ, zero, suc, Bool, true, false, ◌≡◌, List, [], ◌∷◌, refl, sym, subst, ◌∙◌, ◌⊎◌, inl, inr, arith}
use Rattle.std.specs.Prelude.{All, Contains}
use Rattle.std.proofs.lemmas.List.Elements.{Contains-append_right}
use Rattle.std.proofs.lemmas.Option.{slice_get-get_or, get_or_from_slice_get}
use Rattle.node_loop.specs.Coming.{IsLoopOf}
use Rattle.node_seats.specs.declared.host.Stop.{Stop}
use Rattle.node_seats.specs.declared.host.Stop.TheVariants.{Asked, Failed}
use Rattle.node_seats.specs.Stops.{ends_alone}
use Rattle.replay.specs.Ends.{End, EndedWell}
use Rattle.replay.specs.Replaying.{AreAll, IsLeastEnd}
use Rattle.node_threads.specs.Ended.{owner, IsLeftBy, FailsAlone, EndsInOrder}
use Rattle.node_threads.specs.Ending.{AreWell, EndsAlone}

-- it is alone only where a turn failed and the node hadn't left
failed : (stop : Stop) (left : Bool) → ends_alone stop left ≡ true → (stop ≡ Failed) × (left ≡ false)
failed Asked left e = absurd (cc e)
failed Failed true e = absurd (cc e)
failed Failed false e = (refl, refl)

-- it isn't where all went on, or the node had left
in_order : (stop : Stop) (left : Bool) → ends_alone stop left ≡ false → (stop ≡ Asked) ⊎ (left ≡ true)
in_order Asked left e = inl refl
in_order Failed true e = inr refl
in_order Failed false e = absurd (cc e)

is_true : (b : Bool) → (b ≡ false → ⊥) → b ≡ true
is_true true other = refl
is_true false other = absurd (other refl)

-- by another name of its node
abbrev pub named : (e : End) (n a : ℕ) → owner e ≡ a → n ≡ a → IsLeftBy n e → IsLeftBy a e
named e n a own is L = record {
  loop = L.loop;
  came = subst (λ (m : ℕ). IsLoopOf m L.loop) is L.came;
  node = own;
  log = L.log;
  table = L.table;
  first = L.first;
  began = subst (λ (m : ℕ). IsLoopOf m L.first) is L.began;
  stop = L.stop;
  stopped = L.stopped;
  alone = L.alone;
}

-- ends that loops of their nodes left behind
module _ (ends : List End) (each : All (λ e. IsLeftBy (owner e) e) ends) where
  fails : (e : End) → Contains ends e → e.ended_alone ≡ true → (a : ℕ) → owner e ≡ a → FailsAlone ends a
  fails e among alone a is =
      let here : IsLeftBy (owner e) e = subst (λ (x : End). IsLeftBy (owner x) x) among.2 (each among.0 e among.1) in
      let why = failed here.stop here.loop.left (sym here.alone ∙ alone) in
      record { end = e; among = among; left = named e (owner e) a is is here; failed = why.0; stays = why.1 }

  -- the first that ended alone
  pub first_fails : (a : ℕ) → EndsAlone ends a → FailsAlone ends a
  first_fails a E = fails E.end
      (subst (λ (l : List End). Contains l E.end) (sym E.parts)
      (Contains-append_right E.before (E.end ∷ E.rest) E.end (0, omega arith, refl)))
      E.alone a E.whose

  -- the least
  pub least_fails : (a : ℕ) → IsLeastEnd EndedWell ends a → FailsAlone ends a
  least_fails a I = fails I.least.item
      (I.place, I.least.within, get_or_from_slice_get ends I.place I.least.item I.least.item I.least.here)
      (is_true I.least.item.ended_alone I.least.other) a I.whose

  all_in_order : All EndedWell ends → All EndsInOrder ends
  all_in_order well k d lt =
      let here = each k d lt in record { left = here; order = in_order here.stop here.loop.left (sym here.alone ∙ well k d lt) }

  pub such_in_order : AreAll EndedWell ends → All EndsInOrder ends
  such_in_order well = all_in_order (λ k d lt. well k _ lt (slice_get-get_or ends k d lt))

  pub well_in_order : AreWell ends → All EndsInOrder ends
  well_in_order well = all_in_order (at ends well)
    where
      at : (es : List End) → AreWell es → All EndedWell es
      at [] w k d lt = absurd (omega (arith, lt))
      at (e ∷ es) w zero d lt = w.0
      at (e ∷ es) w (suc k) d lt = at es w.1 k d (omega (arith, lt))
