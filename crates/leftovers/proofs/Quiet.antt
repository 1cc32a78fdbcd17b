-- A quiet world: who has left is known, no round asks, and nothing is written or deleted.
use Rattle.std.proofs.Common.{ℕ, Bool, true, false, ◌≡◌, ◌+◌, Option, Some, None, List, [], refl, sym, ap, ◌∙◌, subst, inl, inr, arith}
use Rattle.std.specs.Prelude.{not, ◌&&◌, ◌||◌}
use Rattle.registry_model.specs.Process.{Process, Nodes}
use Rattle.protocol_model.specs.Round.{Mark, Out, Later, Owes, Granted, Refused, Lost, Gone, Round, is_empty, is_owes, is_out, is_refused, is_gone, has_granted, owes}
use Rattle.protocol_model.specs.Letter.{Id, Letter}
use Rattle.protocol_model.specs.Node.{Current, LockPhase, LockCall}
use Rattle.protocol_model.specs.LockTable.{count}
use Rattle.protocol_model.specs.World.{Opening, in_world, World, left}
use Rattle.headline.proofs.Indices.{is_empty_from}
use Rattle.headline.proofs.Invariants.{IsUp}
use Rattle.headline.proofs.Sessions.{Stage, Free, Returning, AskedAgain, Asked, GrantComing, RefusalComing, HasGrant, HasRefusal, Session, fits, requests_at, answers_at, request_in, answer_in, found, mark_in}
use Rattle.headline.proofs.Scenes
use Rattle.headline.proofs.Mail.{carries, is_applied}
use Rattle.headline.proofs.ClientLocksSessions.{View, Live, view}
use Rattle.headline.proofs.ClientLocksSessions as Sessions
use Rattle.headline.proofs.ClientLocksMail.{asks, echoes}
use Rattle.headline.proofs.ClientLocksClients.{Numbers, Clients, call_at, lives, caller_lives}
use Rattle.leftovers.proofs.RoundFacts.{is_to_come, is_before}
use Rattle.leftovers.proofs.Departures.{IsRid, has_down}
use Rattle.leftovers.proofs.Rest.{Awaited, RoundRests, WorkRests, PhaseRests}
use Rattle.leftovers.proofs.Families.{Whole}
use Rattle.headline.specs.Worlds.{of_nodes, IsQuiet}

module _ (o : Opening) (w : World) (W : Whole o w) (Q : IsQuiet (of_nodes o) w) where
  -- a link between nodes that run
  nothing : (x y : ℕ) → IsUp o w x → IsUp o w y → w.links.queue x y ≡ []
  nothing x y ux uy = Q x y ux.0 uy

  -- each running node was told of each node that has left, and has none of its grants
  pub rid : (c d : ℕ) → IsUp o w c → left w d ≡ true → IsRid d (w.node c)
  rid c d up gone = elim (W.families.departed d c up gone) [
    | inl h ↦ absurd (cc (sym (ap has_down (Q d c (W.families.left_inside d gone) up)) ∙ h))
    | inr R ↦ R
  ]

  -- a set of nodes of the world in which nobody is who runs or was told to have left
  nobody_in : (c : ℕ) → IsUp o w c → (s : Nodes) → ((x : ℕ) → s x ≡ true → in_world o x ≡ true)
      → ((x : ℕ) → (w.node c).replica.told x ≡ true → s x ≡ false) → ((x : ℕ) → IsUp o w x → s x ≡ false)
      → (x : ℕ) → s x ≡ false
  nobody_in c up s inside untold idle x = go (s x) refl (left w x) refl
    where
      go : (b : Bool) → s x ≡ b → (g : Bool) → left w x ≡ g → b ≡ false
      go false e g h = refl
      go true e true h = cc (untold x (rid c x up h).0, e)
      go true e false h = cc (idle x (inside x e, h), e)

  come_of_owes : (m : Mark) → is_to_come m ≡ false → is_owes m ≡ false
  come_of_owes Owes h = cc
  come_of_owes _ h = refl

  asked_of_owes : (m : Mark) → is_owes m ≡ true → not (is_out m) ≡ true
  asked_of_owes Owes h = refl
  asked_of_owes _ h = cc

  -- a round in which nobody who runs owes an answer is over
  pub no_round : (c : ℕ) → IsUp o w c → (r : Round) → RoundRests o (w.node c).replica.told r
      → ((x : ℕ) → IsUp o w x → is_owes (r.mark x) ≡ false) → ⊥
  no_round c up r R idle = absurd (over (r.mark r.boss) R.on.boss (silent r.boss)
      (is_empty_from o.bound (owes r) (λ x l. silent x)) R.going)
    where
      silent : (x : ℕ) → owes r x ≡ false
      silent x = nobody_in c up (owes r) (λ y h. R.on.inside y (asked_of_owes (r.mark y) h))
          (λ y h. come_of_owes (r.mark y) (R.on.untold y h)) idle x

      over : (m : Mark) → is_before m ≡ false → is_owes m ≡ false → is_empty o.bound (owes r) ≡ true
          → (is_refused m || is_gone m || has_granted m && is_empty o.bound (owes r)) ≡ false → ⊥
      over Out b e k h = cc b
      over Later b e k h = cc b
      over Owes b e k h = cc e
      over Granted b e k h = cc (k, h)
      over Lost b e k h = cc (k, h)
      over Refused b e k h = cc h
      over Gone b e k h = cc h

  -- nor is anybody awaited
  pub no_wait : (c : ℕ) → IsUp o w c → (s : Nodes) → Awaited o (w.node c).replica.told s
      → ((x : ℕ) → IsUp o w x → s x ≡ false) → ⊥
  no_wait c up s A idle = cc (is_empty_from o.bound s (λ x l. nobody_in c up s A.inside A.untold idle x), A.some)

  -- without letters no node owes an answer to a registrar's round
  no_owes : (s : Stage) → requests_at s ≡ [] → answers_at s ≡ [] → (m : Mark) → fits s m ≡ true → is_owes m ≡ false
  no_owes AskedAgain r a m f = cc r
  no_owes Asked r a m f = cc r
  no_owes Returning r a m f = cc r
  no_owes GrantComing r a m f = cc a
  no_owes RefusalComing r a m f = cc a
  no_owes Free r a Owes f = cc f
  no_owes Free r a m f = refl
  no_owes HasGrant r a Owes f = cc f
  no_owes HasGrant r a m f = refl
  no_owes HasRefusal r a Owes f = cc f
  no_owes HasRefusal r a m f = refl

  -- where a requester and a node stand
  pub still : (r x : ℕ) → IsUp o w r → IsUp o w x
      → (s : Stage) × Session w r x s × (requests_at s ≡ []) × (answers_at s ≡ [])
  still r x ur ux =
      let P : (s : Stage) × Session w r x s = W.base.all.locks.pairs r x ur ux in (
        P.0,
        P.1,
        sym (sym (ap (found request_in) (nothing r x ur ux)) ∙ P.1.requests),
        sym (sym (ap (found answer_in) (nothing x r ux ur)) ∙ P.1.answers),
      )

  -- no registrar asks or writes
  abbrev pub at_ease : Current → Bool
  at_ease (Current.Asking op r) = false
  at_ease (Current.Writing op s awaited reply) = false
  at_ease _ = true

  pub registrars : (c : ℕ) → IsUp o w c → at_ease (w.node c).current ≡ true
  registrars c up = go (w.node c).current refl
    where
      go : (x : Current) → (w.node c).current ≡ x → at_ease x ≡ true
      go Current.Free e = refl
      go (Current.Waiting op) e = refl
      go (Current.Joining k m) e = refl
      go (Current.Asking op r) e = absurd (no_round c up r rests idle)
        where
          rests : RoundRests o (w.node c).replica.told r
          rests = (subst (WorkRests o (w.node c).replica.told) e (W.rest c up.0).work).1

          idle : (x : ℕ) → IsUp o w x → is_owes (r.mark x) ≡ false
          idle x ux =
              let P : (s : Stage) × Session w c x s × (requests_at s ≡ []) × (answers_at s ≡ []) = still c x up ux in
              no_owes P.0 P.2 P.3 (r.mark x) (subst (λ (y : Current). fits P.0 (mark_in y x) ≡ true) e P.1.mark)
      go (Current.Writing op s awaited reply) e = absurd (no_wait c up awaited rests idle)
        where
          rests : Awaited o (w.node c).replica.told awaited
          rests = subst (WorkRests o (w.node c).replica.told) e (W.rest c up.0).work

          one : (b : Bool) → Scenes.one_if b ≡ 0 → b ≡ false
          one true h = cc h
          one false h = refl

          idle : (x : ℕ) → IsUp o w x → awaited x ≡ false
          idle x ux = one (awaited x)
              (sym (ap (λ (y : Current). Scenes.one_if (Scenes.awaits_node (Scenes.doing_of y) x)) e)
              ∙ sym (W.base.all.known.kept.sessions c x up ux)
              ∙ ap (λ (ls : List Letter). Scenes.count_of carries (Scenes.mine ls)
              + Scenes.count_of is_applied (Scenes.mine (w.links.queue x c))) (nothing c x up ux)
              ∙ ap (λ (ls : List Letter). 0 + Scenes.count_of is_applied (Scenes.mine ls)) (nothing x c ux up))

  -- a client's session without letters
  quiet_session : (num : Numbers) → Clients o w num → (p : Process) (x : ℕ) → lives o w p ≡ true → IsUp o w p.node
      → IsUp o w x → Live (view (call_at w p) x) [] [] (λ id. count id p (w.node x).locks) (λ id. num p id x)
  quiet_session num C p x h up ux =
      subst (λ (ls : List Letter). Live (view (call_at w p) x) [] (echoes p ls)
      (λ id. count id p (w.node x).locks) (λ id. num p id x)) (nothing x p.node ux up)
      (subst (λ (ls : List Letter). Live (view (call_at w p) x) (asks p ls) (echoes p (w.links.queue x p.node))
      (λ id. count id p (w.node x).locks) (λ id. num p id x)) (nothing p.node x up ux) (C.sessions p x h ux))

  -- each open lock call waits for a retry
  pub calls_wait : (p : Process) (c : LockCall) → IsUp o w p.node → call_at w p ≡ Some c
      → c.phase ≡ LockPhase.Waiting
  calls_wait p c up e = go c.phase refl
    where
      living : lives o w p ≡ true
      living = caller_lives o w W.base.num W.base.clients p c up.1 e

      rests : PhaseRests o (w.node p.node).replica.told c.phase
      rests = elim ((W.rest p.node up.0).sides.calls.calls p c e) [
        | inl h ↦ h
        | inr i ↦ absurd i
      ]

      fit : (x : ℕ) → IsUp o w x → (ph : LockPhase) → c.phase ≡ ph
          → Sessions.fits (Sessions.view_in c.id ph x) [] [] ≡ true
      fit x ux ph k = subst (λ (y : LockPhase). Sessions.fits (Sessions.view_in c.id y x) [] [] ≡ true) k
          (subst (λ (y : Option LockCall). Sessions.fits (view y x) [] [] ≡ true) e
          (quiet_session W.base.num W.base.clients p x living up ux).fit)

      go : (ph : LockPhase) → c.phase ≡ ph → c.phase ≡ LockPhase.Waiting
      go LockPhase.Waiting k = k
      go (LockPhase.Asking r) k = absurd (no_round p.node up r
          (subst (PhaseRests o (w.node p.node).replica.told) k rests) idle)
        where
          free : (m : Mark) → Sessions.fits (Sessions.view_of c.id m) [] [] ≡ true → is_owes m ≡ false
          free Owes h = cc h
          free _ h = refl

          idle : (x : ℕ) → IsUp o w x → is_owes (r.mark x) ≡ false
          idle x ux = free (r.mark x) (fit x ux (LockPhase.Asking r) k)
      go (LockPhase.Deleting owing) k = absurd (no_wait p.node up owing
          (subst (PhaseRests o (w.node p.node).replica.told) k rests) idle)
        where
          free : (b : Bool) → Sessions.fits (Sessions.due_if b) [] [] ≡ true → b ≡ false
          free true h = cc h
          free false h = refl

          idle : (x : ℕ) → IsUp o w x → owing x ≡ false
          idle x ux = free (owing x) (fit x ux (LockPhase.Deleting owing) k)

  -- so at a node that runs a live process has each lock as often as it holds it
  pub live_counts : (num : Numbers) → Clients o w num → (p : Process) (id : Id) (x : ℕ) → lives o w p ≡ true
      → IsUp o w p.node → IsUp o w x → count id p (w.node x).locks ≡ num p id x
  live_counts num C p id x h up ux = (quiet_session num C p x h up ux).sum id
      ∙ ap (λ (k : ℕ). num p id x + k) (go (call_at w p) refl) ∙ omega arith
    where
      go : (c : Option LockCall) → call_at w p ≡ c → Sessions.due id (view (call_at w p) x) [] ≡ 0
      go None e = ap (λ (y : Option LockCall). Sessions.due id (view y x) []) e
      go (Some c) e = ap (λ (y : Option LockCall). Sessions.due id (view y x) []) e
          ∙ ap (λ (y : LockPhase). Sessions.due id (Sessions.view_in c.id y x) []) (calls_wait p c up e)
