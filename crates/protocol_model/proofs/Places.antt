-- The nodes of a world, and those that an event names, in words.
use mathlib.Core.Logic.{◌⊎◌}
use Rattle.std.proofs.Common.{ℕ, true, ◌≡◌, ◌<◌, refl, sym, subst, inl, inr}
use Rattle.std.specs.Prelude.{nat_lt}
use Rattle.std.proofs.lemmas.Bool.{and_parts, and_from, ltb-true, lt-ltb}
use Rattle.protocol_model.specs.Event.{Call, Event}
use Rattle.protocol_model.specs.World.{Opening, in_world, WorldEvent, At, Deliver, place, other}
use Rattle.protocol_model.specs.SharedLaws.{HappensAt, AtNode, AtReceiver, NamesNode, Place, Sender, Contact, TellsItsPlaces, TellsItsNodes}

in_place : (e : WorldEvent) → HappensAt e (place e)
in_place (At a e) = AtNode a e
in_place (Deliver f t) = AtReceiver f t

its_place : (e : WorldEvent) (c : ℕ) → HappensAt e c → c ≡ place e
its_place _ _ (AtNode a e) = refl
its_place _ _ (AtReceiver f t) = refl

names_other : (e : WorldEvent) → NamesNode e (other e)
names_other (At a (Event.Calling (Call.JoinBy m))) = Contact a m
names_other (At a e) = Place (At a e) a (AtNode a e)
names_other (Deliver f t) = Sender f t

one_of_two : (e : WorldEvent) (c : ℕ) → NamesNode e c → (c ≡ place e) ⊎ (c ≡ other e)
one_of_two _ _ (Place e c h) = inl (its_place e c h)
one_of_two _ _ (Sender f t) = inr refl
one_of_two _ _ (Contact a m) = inr refl

pub tells_its_places : TellsItsPlaces
tells_its_places = record {
  happens = λ e c. (its_place e c, λ i. subst (HappensAt e) (sym i) (in_place e));
  names = λ e c. (one_of_two e c, back e c);
}
  where
    back : (e : WorldEvent) (c : ℕ) → (c ≡ place e) ⊎ (c ≡ other e) → NamesNode e c
    back e c (inl i) = subst (NamesNode e) (sym i) (Place e (place e) (in_place e))
    back e c (inr i) = subst (NamesNode e) (sym i) (names_other e)

pub tells_its_nodes : (o : Opening) → TellsItsNodes o
tells_its_nodes o = record {
  world = λ c. (there c, λ h. back c h.0 h.1);
  cluster = λ c. (
    λ e.
        let parts : (in_world o c ≡ true) × (o.cluster c ≡ true) = and_parts (in_world o c) (o.cluster c) e in
        let of_world : (c < o.bound) × (o.nodes c ≡ true) = there c parts.0 in
        (of_world.0, of_world.1, parts.1),
    λ h. and_from (in_world o c) (o.cluster c) (back c h.0 h.1) h.2,
  );
}
  where
    there : (c : ℕ) → in_world o c ≡ true → (c < o.bound) × (o.nodes c ≡ true)
    there c e = let parts : (nat_lt c o.bound ≡ true) × (o.nodes c ≡ true) = and_parts (nat_lt c o.bound) (o.nodes c) e in
        (ltb-true c o.bound parts.0, parts.1)

    back : (c : ℕ) → c < o.bound → o.nodes c ≡ true → in_world o c ≡ true
    back c l e = and_from (nat_lt c o.bound) (o.nodes c) (lt-ltb c o.bound l) e
