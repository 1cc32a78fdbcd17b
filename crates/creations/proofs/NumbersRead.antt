-- Whose numbers of joins a letter reads: those of nodes that the reading node wasn't told of alone.
use Rattle.std.proofs.Common.{ℕ, Bool, true, false, ◌==◌, ◌≡◌, refl, ap}
use Rattle.std.specs.Prelude.{None, not, ◌&&◌, if◌then◌else◌}
use Rattle.registry_model.specs.Process.{Process, is_process, Nodes}
use Rattle.registry_model.specs.Table.{Table}
use Rattle.registry_model.specs.Settlement.{Settled, settle}
use Rattle.protocol_model.specs.Letter.{Letter as AnyLetter, Global, is_down}
use Rattle.protocol_model.specs.Node.{Op as AnyOp, Current, call_of}
use Rattle.protocol_model.specs.Round.{Round, rest, opens, owes, asked, answer, down, is_over, Ending, ending}
use Rattle.protocol_model.specs.Turn.{Turn, begun, at_work, send_all}
use Rattle.protocol_model.specs.Registrar.{registrar, finish, ask_rest, contact_left, lose_contact, start}
use Rattle.protocol_model.specs.Client.{hear_lock, lose_node}
use Rattle.protocol_model.specs.Deciding.{admit, held, end_by, end_round, go_on, hear_answer, lose}
use Rattle.protocol_model.specs.Reading.{hear, asked_to_admit, told_of, lose_join, bereave, read, receive}
use Rattle.protocol_model.specs.World.{join_number}
use Rattle.creations.specs.NodeNames.{opening_of}
use Rattle.creations.specs.NamedWorld.{NamedWorld, after_events}
use Rattle.creations.specs.JoinNumbers.{JoinNumbersSuffice}
use Rattle.creations.proofs.Standing.{Sound}
use Rattle.creations.proofs.Always.{always}

module _ (n a : ℕ) (p q : ℕ → ℕ) where
  -- they are the same numbers for each node that this one wasn't told of
  abbrev Agree : Turn → Type 0
  Agree u = (j : ℕ) → u.node.replica.told j ≡ false → p j ≡ q j

  -- how the registrar's round ends: a joiner is let in only if it wasn't told of
  lets_in : (j : ℕ) (ps : Table) (s : Nodes) (w : Settled) (u : Turn) → p j ≡ q j
      → admit n a p j ps s w u ≡ admit n a q j ps s w u
  lets_in j ps s w u e = ap (λ (k : ℕ). admit n a (λ x. k) j ps s w u) e

  holds : (op : AnyOp) (s : Nodes) (u : Turn) → Agree u → held n a p op s u ≡ held n a q op s u
  holds (AnyOp.Name k c) s u agree = refl
  holds (AnyOp.Strike r) s u agree = refl
  holds (AnyOp.Admission j ps) s u agree = go (u.node.replica.told j) refl
    where
      w : Settled
      w = settle u.node.replica.table ps

      go : (b : Bool) → u.node.replica.told j ≡ b
          → (if b then finish n a (AnyOp.Admission j ps) s None u else admit n a p j ps s w u)
          ≡ (if b then finish n a (AnyOp.Admission j ps) s None u else admit n a q j ps s w u)
      go true e = refl
      go false e = lets_in j ps s w u (agree j e)
  holds (AnyOp.Join k m) s u agree = refl

  ends_by : (e : Ending) (op : AnyOp) (s : Nodes) (u : Turn) → Agree u
      → end_by n a p e op s u ≡ end_by n a q e op s u
  ends_by Ending.Held op s u agree = holds op s u agree
  ends_by (Ending.GiveBack granted) op s u agree = refl

  ends_round : (op : AnyOp) (r : Round) (u : Turn) → Agree u → end_round n a p op r u ≡ end_round n a q op r u
  ends_round op r u agree = go (is_over n r)
    where
      e : Ending
      e = ending n u.node.replica.members r

      go : (b : Bool) → (if b then end_by n a p e op (asked r) u else u) ≡ (if b then end_by n a q e op (asked r) u else u)
      go true = ends_by e op (asked r) u agree
      go false = refl

  goes_on : (op : AnyOp) (r : Round) (u : Turn) → Agree u → go_on n a p op r u ≡ go_on n a q op r u
  goes_on op r u agree = ends_round op r (at_work (Current.Asking op r) u) agree

  -- the rest may have been asked before
  agree_asked : (c : ℕ) (g : Bool) (l : AnyLetter) (r : Round) (u : Turn) → Agree u → Agree (ask_rest n a c g l r u)
  agree_asked c g l r u agree = go (opens c g r)
    where
      go : (b : Bool) → Agree (if b then send_all n (λ x. rest r x && not (u.node.replica.told x)) l u else u)
      go true = agree
      go false = agree

  hears : (c : ℕ) (g : Bool) (cur : Current) (u : Turn) → Agree u → hear_answer n a p c g cur u ≡ hear_answer n a q c g cur u
  hears c g (Current.Asking op r) u agree = go (owes r c)
    where
      v : Turn
      v = ask_rest n a c g (AnyLetter.SetLock (Global a) (registrar a)) r u

      go : (b : Bool) → (if b then go_on n a p op (answer c g r) v else u) ≡ (if b then go_on n a q op (answer c g r) v else u)
      go true = goes_on op (answer c g r) v (agree_asked c g (AnyLetter.SetLock (Global a) (registrar a)) r u agree)
      go false = refl
  hears c g _ u agree = refl

  hears_for : (f : ℕ) (r : Process) (g : Bool) (u : Turn) → Agree u → hear n a p f r g u ≡ hear n a q f r g u
  hears_for f r g u agree = go (is_process r (registrar a))
    where
      go : (b : Bool)
          → (if b then hear_answer n a p f g u.node.current u else hear_lock n a f g (call_of r u.node.calls) u)
          ≡ (if b then hear_answer n a q f g u.node.current u else hear_lock n a f g (call_of r u.node.calls) u)
      go true = hears f g u.node.current u agree
      go false = refl

  loses : (d : ℕ) (cur : Current) (u : Turn) → Agree u → lose n a p d cur u ≡ lose n a q d cur u
  loses d (Current.Asking op r) u agree = goes_on op (down d r) u agree
  loses d _ u agree = refl

  -- who is told of a further node was told of the others before
  agree_told : (d : ℕ) (u : Turn) → Agree u → Agree (told_of n a p d u)
  agree_told d u agree j e = agree j (before (j == d) (u.node.replica.told j) e)
    where
      before : (b t : Bool) → (if b then true else t) ≡ false → t ≡ false
      before true t k = cc k
      before false t k = k

  -- a join may have ended before
  agree_lost : (d : ℕ) (cur : Current) (u : Turn) → Agree u → Agree (lose_contact n a d cur u)
  agree_lost d (Current.Joining k m) u agree = go (m == d)
    where
      go : (b : Bool) → Agree (if b then contact_left n a k m (at_work Current.Free u) else u)
      go true = agree
      go false = agree
  agree_lost d _ u agree = agree

  bereaves : (d : ℕ) (u : Turn) → Agree u → bereave n a p d u ≡ bereave n a q d u
  bereaves d u agree = ap (lose_node n a d)
      (loses d w.node.current w (agree_lost d v.node.current v (agree_told d u agree)))
    where
      v : Turn
      v = told_of n a p d u

      w : Turn
      w = lose_join n a p d v

  -- who asks to join wasn't told of, or its letter had been dropped
  asks_to_join : (f : ℕ) (ps : Table) (u : Turn) → p f ≡ q f → asked_to_admit n a p f ps u ≡ asked_to_admit n a q f ps u
  asks_to_join f ps u e = ap (λ (k : ℕ). asked_to_admit n a (λ x. k) f ps u) e

  reads : (f : ℕ) (l : AnyLetter) (u : Turn) → Agree u → (is_down l ≡ false → u.node.replica.told f ≡ false)
      → read n a p f l u ≡ read n a q f l u
  reads f (AnyLetter.LockAnswer id r g) u agree untold = hears_for f r g u agree
  reads f (AnyLetter.JoinAsk ps) u agree untold = asks_to_join f ps u (agree f (untold refl))
  reads f AnyLetter.Down u agree untold = bereaves f u agree
  reads f _ u agree untold = refl

  -- a letter is read the same
  pub receives : (f : ℕ) (l : AnyLetter) (u : Turn) → Agree u → receive n a p f l u ≡ receive n a q f l u
  receives f l u agree = ap (start n a) (go (u.node.replica.told f) (is_down l) refl refl)
    where
      go : (b c : Bool) → u.node.replica.told f ≡ b → is_down l ≡ c
          → (if b && not c then u else read n a p f l u) ≡ (if b && not c then u else read n a q f l u)
      go true false told letter = refl
      go true true told letter = reads f l u agree (λ other. cc (letter, other))
      go false c told letter = reads f l u agree (λ other. told)

pub join_numbers_suffice : JoinNumbersSuffice
join_numbers_suffice o es number f t l up given =
    receives (opening_of o).bound t number (join_number w.world) f l (begun (w.world.node t))
    (λ j untold. given j (λ replaced. cc (s.older_told t j up replaced, untold)))
  where
    w : NamedWorld
    w = after_events o es

    s : Sound o w
    s = always o es
