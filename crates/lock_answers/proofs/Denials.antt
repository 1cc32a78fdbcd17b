-- Letters by which a process is denied a lock, and who sends them: the node that judges its request, and no other.
use Rattle.std.proofs.Common.{ℕ, Bool, true, false, ◌≡◌, List, [], ◌∷◌, ◌++◌, refl, ap}
use Rattle.std.specs.Prelude.{not, ◌&&◌, if◌then◌else◌}
use Rattle.std.specs.List.{list_all}
use Rattle.registry_model.specs.Process.{Process, is_process, nodes_of}
use Rattle.protocol_model.specs.Letter.{Letter}
use Rattle.protocol_model.specs.Round.{opens, rest, answer}
use Rattle.protocol_model.specs.Node.{Node, LockPhase}
use Rattle.protocol_model.specs.Turn.{Send, begun, send_all, sent_to, keep_call}
use Rattle.protocol_model.specs.Client.{in_phase}
use Rattle.protocol_model.specs.World.{Opening, World}
use Rattle.moves.proofs.Indices.{both}
use Rattle.moves.proofs.SendTests.{pass_each, pass_sent, pass_more}
use Rattle.moves.proofs.Rules
use Rattle.moves.proofs.Rules.{Rule}
use Rattle.moves.proofs.Invariants.{Each}
use Rattle.leftovers.proofs.Mail.{echoes, echo_of}
use Rattle.leftovers.proofs.Requests.{is_apart, sends_apart}
use Rattle.leftovers.proofs.Sessions.{Echo}
use Rattle.lock_answers.proofs.CallTurns.{is_no_denial, deny_none}

-- the letter denies p a lock
abbrev pub is_denial_of : Process → Letter → Bool
is_denial_of p (Letter.LockAnswer id q granted) = is_process q p && not granted
is_denial_of p _ = false

-- where it does, this is so
abbrev pub Denies : Process → Bool → Letter → Type 0
Denies p so l = is_denial_of p l ≡ true → so ≡ true

-- letters that deny nobody
each_spared : (p : Process) (so : Bool) (ls : List Letter) → list_all is_no_denial ls ≡ true → Each (Denies p so) ls
each_spared p so [] h = tt
each_spared p so (l ∷ ls) h =
    let parts : (is_no_denial l ≡ true) × (list_all is_no_denial ls ≡ true) = both (is_no_denial l)
    (list_all is_no_denial ls) h in
    (one l parts.0, each_spared p so ls parts.1)
  where
    one : (l : Letter) → is_no_denial l ≡ true → Denies p so l
    one (Letter.LockAnswer id q granted) i d = cc (ap not i, (both (is_process q p) (not granted) d).1)
    one _ i d = cc

pub each_calm : (p : Process) (so : Bool) (ss : List Send) → deny_none ss ≡ true → (y : ℕ)
    → Each (Denies p so) (sent_to y ss)
each_calm p so ss h y = each_spared p so (sent_to y ss) (pass_sent is_no_denial y ss h)

-- and letters that tell p nothing
pub each_unheard : (p : Process) (so : Bool) (ls : List Letter) → echoes p ls ≡ [] → Each (Denies p so) ls
each_unheard p so [] h = tt
each_unheard p so (l ∷ ls) h = (first l h, each_unheard p so ls (later (echo_of p l) (echoes p ls) h))
  where
    later : (xs ys : List Echo) → xs ++ ys ≡ [] → ys ≡ []
    later [] ys e = e
    later (x ∷ xs) ys e = cc

    first : (l : Letter) → echo_of p l ++ echoes p ls ≡ [] → Denies p so l
    first (Letter.LockAnswer id q granted) e d = go (is_process q p) (both (is_process q p) (not granted) d).0 e
      where
        go : (b : Bool) → b ≡ true → (if b then Echo.Answers id granted ∷ [] else []) ++ echoes p ls ≡ [] → so ≡ true
        go true i k = cc
        go false i k = cc
    first _ e d = cc

-- what is so still is where more is so
pub each_so : (p : Process) (so now : Bool) → (so ≡ true → now ≡ true) → (ls : List Letter) → Each (Denies p so) ls
    → Each (Denies p now) ls
each_so p so now f [] h = tt
each_so p so now f (l ∷ ls) h = ((λ d. f (h.0 d)), each_so p so now f ls h.1)

-- a rule by which a node judges
abbrev pub is_judging : Rule → Bool
is_judging (Rules.Judges f id p) = true
is_judging _ = false

module _ (o : Opening) (a : ℕ) (w : World) where
  abbrev v : Node
  v = w.node a

  apart_calm : (l : Letter) → is_apart l ≡ true → is_no_denial l ≡ true
  apart_calm (Letter.LockAnswer id p granted) h = cc
  apart_calm _ h = refl

  -- no other rule denies
  pub calm_rule : (r : Rule) → is_judging r ≡ false → deny_none (Rules.turn_by o a w r).sends ≡ true
  calm_rule (Rules.Judges f id p) h = cc
  calm_rule (Rules.AsksLock c) h = refl
  calm_rule (Rules.HearsLock f id granted c r) h = go (opens f granted r)
    where
      go : (t : Bool) → deny_none (keep_call (in_phase (LockPhase.Asking (answer f granted r)) c)
          (if t then send_all o.bound (λ y. rest r y && not (v.replica.told y)) (Letter.SetLock c.id c.holder)
          (begun v) else begun v)).sends ≡ true
      go true = pass_each is_no_denial (nodes_of o.bound (λ y. rest r y && not (v.replica.told y)))
          (Letter.SetLock c.id c.holder) refl
      go false = refl
  calm_rule r h = pass_more is_apart is_no_denial apart_calm (Rules.turn_by o a w r).sends (sends_apart o a w r refl)
