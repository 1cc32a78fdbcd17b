-- After every list of events no lock call counts a node as granted that was told to have left.
use mathlib.Core.Logic.{◌⊎◌}
use Rattle.std.proofs.Common.{ℕ, Bool, true, false, ◌≡◌, None, List, [], ◌∷◌, ◌++◌, refl, sym, ap, ◌∙◌, subst, inl, inr}
use Rattle.std.specs.Prelude.{not, ◌&&◌, if◌then◌else◌}
use Rattle.std.specs.List.{list_all}
use Rattle.registry_model.proofs.Updates.{by_test}
use Rattle.protocol_model.specs.Letter.{Letter}
use Rattle.protocol_model.specs.Node.{Node}
use Rattle.protocol_model.specs.Event.{Call, Event}
use Rattle.protocol_model.specs.Turn.{Turn, begun}
use Rattle.protocol_model.specs.Registrar.{start}
use Rattle.protocol_model.specs.Reading.{read}
use Rattle.protocol_model.specs.World.{Opening, World, WorldEvent, At, Deliver, place, opening_world, refusal, join_number, turn_of, heard, accepted, run}
use Rattle.protocol_model.proofs.Waiting.{accepted-node}
use Rattle.moves.proofs.Rules
use Rattle.moves.proofs.Rules.{Rule, Walked, is_quiet}
use Rattle.walk.proofs.Runs.{rules_of}
use Rattle.walk.proofs.Walk.{event_walked}
use Rattle.leftovers.proofs.Growing.{Replying, replying_keeps, replying_opens}
use Rattle.leftovers.proofs.Told.{all_of_all}
use Rattle.leftovers.proofs.Grounds.{Base, wide, between}
use Rattle.leftovers.proofs.Near.{Near}
use Rattle.leftovers.proofs.Families.{Families, families_keep, families_open, Whole, whole}
use Rattle.lock_answers.proofs.Clear.{ClearAt, Clear, is_notice, clear_opens}
use Rattle.lock_answers.proofs.Winning.{Ground, are_quiet, ground_chain}
use Rattle.lock_answers.proofs.NoticeTurns.{behind, behind_clear}

-- rules that may come later in a chain are no notices
pub later_quiet : (rs : List Rule) → list_all is_quiet rs ≡ true → are_quiet rs ≡ true
later_quiet rs h = all_of_all is_quiet (λ r. not (is_notice r)) one rs h
  where
    one : (r : Rule) → is_quiet r ≡ true → not (is_notice r) ≡ true
    one (Rules.IsTold f) e = cc
    one _ e = refl

-- the event delivers a `Down`
pub record IsNotice (w : World) (e : WorldEvent) : Type 0 where
  pub sender : ℕ
  pub receiver : ℕ
  pub event : e ≡ Deliver sender receiver
  pub later : List Letter
  pub front : w.links.queue sender receiver ≡ Letter.Down ∷ later

module _ (o : Opening) where
  -- or its chain reads none
  pub quiet_or_notice : (w : World) (e : WorldEvent) (rest : List Rule) → list_all is_quiet rest ≡ true
      → (are_quiet (Rules.first_by o (place e) w e ++ rest) ≡ true) ⊎ IsNotice w e
  quiet_or_notice w (At a (Event.Calling Call.Spawn)) rest h = inl (later_quiet rest h)
  quiet_or_notice w (At a (Event.Calling (Call.LookUp look))) rest h = inl (later_quiet rest h)
  quiet_or_notice w (At a (Event.Calling (Call.OnName c))) rest h = inl (later_quiet rest h)
  quiet_or_notice w (At a (Event.Calling (Call.SetLock p r q target times))) rest h = inl (later_quiet rest h)
  quiet_or_notice w (At a (Event.Calling (Call.DelLock p r q target))) rest h = inl (later_quiet rest h)
  quiet_or_notice w (At a (Event.Calling (Call.JoinBy m))) rest h = inl (later_quiet rest h)
  quiet_or_notice w (At a Event.Retry) rest h = inl (later_quiet rest h)
  quiet_or_notice w (At a (Event.Exiting p)) rest h = inl (later_quiet rest h)
  quiet_or_notice w (At a Event.Leave) rest h = inl (later_quiet rest h)
  quiet_or_notice w (Deliver f t) rest h = go (w.links.queue f t) refl
    where
      go : (ls : List Letter) → w.links.queue f t ≡ ls
          → (are_quiet (Rules.first_by_letter o t f ls ++ rest) ≡ true) ⊎ IsNotice w (Deliver f t)
      go [] e = inl (later_quiet rest h)
      go (Letter.Down ∷ ls) e = inr (record { sender = f; receiver = t; event = refl; later = ls; front = e })
      go (_ ∷ ls) e = inl (later_quiet rest h)

  -- the turn of a notice
  pub notice_turn : (w : World) (B : Base o w) (f t : ℕ) (ls : List Letter) → w.links.queue f t ≡ Letter.Down ∷ ls
      → turn_of o w (Deliver f t) ≡ behind o w B t f
  notice_turn w B f t ls e = ap (heard o.bound t w f) e ∙ go ((w.node t).replica.told f)
    where
      u : Turn
      u = begun (w.node t)

      go : (b : Bool) → start o.bound t (if b && false then begun (w.node t)
          else read o.bound t (join_number w) f Letter.Down (begun (w.node t))) ≡ behind o w B t f
      go true = refl
      go false = refl

  replying_chain : (a : ℕ) (rs : List Rule) (w : World) → Rules.MayAll o a rs w → Replying w
      → Replying (Rules.effects o a rs w)
  replying_chain a [] w m R = R
  replying_chain a (r ∷ rs) w m R =
      replying_chain a rs (Rules.effect o a r w) m.1 (replying_keeps o a w r m.0 R)

  -- what each accepted event keeps
  record Kept (w : World) : Type 0 where
    clear : Clear w
    replying : Replying w

  kept_on : (w : World) (e : WorldEvent) → Base o w → Near w → refusal o w e ≡ None → Kept w → Kept (accepted o w e)
  kept_on w e B N h K = record {
    clear = elim (quiet_or_notice w e W.rest W.quiet) [
      | inl q ↦ subst Clear W.world (ground_chain o (place e) (rules_of o w e W) w q W.may
          (record { base = B; near = N; clear = K.clear; replying = K.replying })).clear
      | inr I ↦ noticed I
    ];
    replying = subst Replying W.world (replying_chain (place e) (rules_of o w e W) w W.may K.replying);
  }
    where
      W : Walked o w e
      W = event_walked o w e B.ordered (wide o w B) h

      delivered : (f t : ℕ) (ls : List Letter) → w.links.queue f t ≡ Letter.Down ∷ ls
          → Clear (accepted o w (Deliver f t))
      delivered f t ls front = subst (λ (f : ℕ → Node). (x : ℕ) → ClearAt (f x)) (sym (accepted-node o w (Deliver f t)))
          (by_test t (λ x b. ClearAt (if b then (turn_of o w (Deliver f t)).node else w.node x))
          (subst (λ (u : Turn). ClearAt u.node) (sym (notice_turn w B f t ls front))
          (behind_clear o w B t f (K.clear t)))
          (λ x ne. K.clear x))

      noticed : IsNotice w e → Clear (accepted o w e)
      noticed I = subst (λ (x : WorldEvent). Clear (accepted o w x)) (sym I.event)
          (delivered I.sender I.receiver I.later I.front)

  -- so it is after every list of events
  pub ground_run : (es : List WorldEvent) → Ground o (run o (opening_world o) es)
  ground_run es =
      let W : Whole o (run o (opening_world o) es) = whole o es in
      let K : Kept (run o (opening_world o) es) = between o (Families o) (families_keep o) Kept
      (λ w e b c h k. kept_on w e b.base b.here.near h k) (families_open o)
      (record { clear = clear_opens o; replying = replying_opens o }) es in
      record { base = W.base; near = W.families.near; clear = K.clear; replying = K.replying }
