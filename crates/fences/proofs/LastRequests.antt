-- In a run behind which a process has a lock at a node, there is a last request for it that the node took, and from it on the lock
-- stands in the node's lock table.
use Rattle.std.proofs.Common.{ℕ, Bool, true, false, ◌≡◌, ◌<◌, ◌≤◌, List, [], ◌∷◌, ◌++◌, refl, sym, ap, ◌∙◌, subst, arith}
use Rattle.std.proofs.lemmas.List.{append-nil, append_assoc}
use Rattle.registry_model.specs.Process.{Process}
use Rattle.registry_model.proofs.Lists.{by_push}
use Rattle.protocol_model.specs.Letter.{Id}
use Rattle.protocol_model.specs.LockTable.{count}
use Rattle.protocol_model.specs.ClientLocks.{holds_count}
use Rattle.protocol_model.specs.World.{Opening, World, WorldEvent, in_world, left, opening_world, accepted, run}
use Rattle.closings.specs.Merging.{Step, happening, events_in, world_behind, Takes, TakesAll}
use Rattle.creations.proofs.Clients.{Numbers, lives, Clients}
use Rattle.creations.proofs.Grounds.{Base, lock_state}
use Rattle.creations.proofs.HeadlineClients.{grounds}
use Rattle.creations.proofs.Mail.{asks}
use Rattle.creations.proofs.RoundNumbers
use Rattle.creations.proofs.Sessions.{settled_le}
use Rattle.creations.proofs.Tallies.{numbers_agree}
use Rattle.creations.proofs.Together.{All}
use Rattle.creations.proofs.GrantEvents.{ground_run}
use Rattle.creations.proofs.Pushed.{happens_now}
use Rattle.fences.specs.Grants.{takes_request}
use Rattle.fences.proofs.Elsewhere.{world_push}
use Rattle.fences.proofs.Orders.{takes_behind, takes_front}
use Rattle.fences.proofs.Settling.{settles}
use Rattle.fences.proofs.Requests.{eased, lived_before, ran_before}

-- P holds behind the steps b and behind each of those that follow, and Q of each of these behind what is before it
abbrev pub Along : (List Step → Type 0) → (List Step → Step → Type 0) → List Step → List Step → Type 0
Along P Q b [] = P b
Along P Q b (s ∷ ss) = P b × Q b s × Along P Q (b ++ s ∷ []) ss

module _ (P : List Step → Type 0) (Q : List Step → Step → Type 0) where
  -- and of one more
  along_push : (b m : List Step) (s : Step) → Along P Q b m → Q (b ++ m) s → P ((b ++ m) ++ s ∷ []) → Along P Q b (m ++ s ∷ [])
  along_push b [] s A q h = (
    A,
    subst (λ (xs : List Step). Q xs s) (append-nil b) q,
    subst (λ (xs : List Step). P (xs ++ s ∷ [])) (append-nil b) h,
  )
  along_push b (x ∷ m) s A q h = (
    A.0,
    A.1,
    along_push (b ++ x ∷ []) m s A.2 (subst (λ (xs : List Step). Q xs s) (sym (append_assoc b (x ∷ []) m)) q)
        (subst (λ (xs : List Step). P (xs ++ s ∷ [])) (sym (append_assoc b (x ∷ []) m)) h),
  )

  along_here : (b m : List Step) → Along P Q b m → P b
  along_here b [] A = A
  along_here b (x ∷ m) A = A.0

  -- at each place
  pub along_at : (b front rest : List Step) → Along P Q b (front ++ rest) → P (b ++ front)
  along_at b [] rest A = subst P (sym (append-nil b)) (along_here b rest A)
  along_at b (x ∷ front) rest A = subst P (append_assoc b (x ∷ []) front) (along_at (b ++ x ∷ []) front rest A.2)

  pub along_step : (b front : List Step) (s : Step) (rest : List Step) → Along P Q b (front ++ s ∷ rest) → Q (b ++ front) s
  along_step b [] s rest A = subst (λ (xs : List Step). Q xs s) (sym (append-nil b)) A.1
  along_step b (x ∷ front) s rest A =
      subst (λ (xs : List Step). Q xs s) (append_assoc b (x ∷ []) front) (along_step (b ++ x ∷ []) front s rest A.2)

module _ (o : Opening) (p : Process) (c : ℕ) (id : Id) where
  -- the lock stands behind these steps
  abbrev pub Stands : List Step → Type 0
  Stands ss = 0 < count id p ((world_behind o ss).node c).locks

  -- node c takes no request by the next step
  abbrev pub TakesNone : List Step → Step → Type 0
  TakesNone ss s = takes_request (world_behind o ss) (happening s) p id c ≡ false

  -- the last request that c took among these steps
  pub record Found (ss : List Step) : Type 0 where
    pub before : List Step
    pub step : Step
    pub between : List Step
    pub split : ss ≡ before ++ step ∷ between
    pub takes : takes_request (world_behind o before) (happening step) p id c ≡ true
    pub along : Along Stands TakesNone (before ++ step ∷ []) between

  standing : (w : World) → 0 < settles o p c id w → 0 < count id p (w.node c).locks
  standing w h = omega (arith, h, settled_le id (asks p (w.links.queue p.node c)) (count id p (w.node c).locks))

  -- what is said of the world behind these steps
  record Has (w : World) : Type 0 where
    lives_there : lives o w p ≡ true
    runs : left w c ≡ false
    some : 0 < settles o p c id w

  -- behind one more step, it was so before, unless c took a request by it
  earlier : (ss : List Step) (s : Step) → Takes o (world_behind o ss) s
      → takes_request (world_behind o ss) (happening s) p id c ≡ false → Has (world_behind o (ss ++ s ∷ []))
      → Has (world_behind o ss)
  earlier ss s T none H = record {
    lives_there = lived_before o p c id w base (happening s) T.accepted now.lives_there;
    runs = ran_before o p c id w base (happening s) T.accepted now.runs;
    some = more (eased o p c id w base (happening s) T.accepted none now.lives_there now.runs) now.some;
  }
    where
      w : World
      w = world_behind o ss

      base : Base o w
      base = (ground_run o (events_in ss)).base

      now : Has (accepted o w (happening s))
      now = subst Has (world_push o ss s ∙ happens_now o (events_in ss) (happening s) T.accepted) H

      more : {m n : ℕ} → m ≤ n → 0 < m → 0 < n
      more l h = omega (arith, l, h)

  found : (ss : List Step) → TakesAll o (opening_world o) ss → Has (world_behind o ss) → Found ss
  found = by_push (λ ss. TakesAll o (opening_world o) ss → Has (world_behind o ss) → Found ss) (λ T H. absurd (none H.some)) more
    where
      none : 0 < 0 → ⊥
      none h = omega (arith, h)

      more : (ss : List Step) (s : Step) → (TakesAll o (opening_world o) ss → Has (world_behind o ss) → Found ss)
          → TakesAll o (opening_world o) (ss ++ s ∷ []) → Has (world_behind o (ss ++ s ∷ [])) → Found (ss ++ s ∷ [])
      more ss s before T H = go (takes_request (world_behind o ss) (happening s) p id c) refl
        where
          here : Stands (ss ++ s ∷ [])
          here = standing (world_behind o (ss ++ s ∷ [])) H.some

          go : (b : Bool) → takes_request (world_behind o ss) (happening s) p id c ≡ b → Found (ss ++ s ∷ [])
          go true e = record { before = ss; step = s; between = []; split = refl; takes = e; along = here }
          go false e = one_more (before (takes_front o (opening_world o) ss (s ∷ []) T)
              (earlier ss s (takes_behind o (opening_world o) ss (s ∷ []) T).0 e H))
            where
              one_more : Found ss → Found (ss ++ s ∷ [])
              one_more F = record {
                before = F.before;
                step = F.step;
                between = F.between ++ s ∷ [];
                split = ap (λ (xs : List Step). xs ++ s ∷ []) F.split
                    ∙ append_assoc F.before (F.step ∷ F.between) (s ∷ []);
                takes = F.takes;
                along = along_push Stands TakesNone (F.before ++ F.step ∷ []) F.between s F.along
                    (subst (λ (xs : List Step). TakesNone xs s) whole e)
                    (subst (λ (xs : List Step). Stands (xs ++ s ∷ [])) whole here);
              }
                where
                  whole : ss ≡ (F.before ++ F.step ∷ []) ++ F.between
                  whole = F.split ∙ sym (append_assoc F.before (F.step ∷ []) F.between)

  -- who holds the lock at c has it there
  holds_has : (es : List WorldEvent) → in_world o c ≡ true → left (run o (opening_world o) es) c ≡ false
      → 0 < holds_count o es p id c → Has (run o (opening_world o) es)
  holds_has es inside up holds = record { lives_there = alive; runs = up; some = some }
    where
      w : World
      w = run o (opening_world o) es

      num : Numbers
      num q i x = RoundNumbers.round_count o es q i x

      clients : Clients o w num
      clients = (lock_state o es).clients

      counted : 0 < num p id c
      counted = subst (λ (n : ℕ). 0 < n) (numbers_agree o (All o) (grounds o) es p id c) holds

      alive : lives o w p ≡ true
      alive = go (lives o w p) refl
        where
          go : (b : Bool) → lives o w p ≡ b → b ≡ true
          go true e = refl
          go false e = absurd (omega (arith, counted, clients.strangers p id c e))

      some : 0 < settles o p c id w
      some = omega (arith, (clients.sessions p c alive (inside, up)).sum id, counted)

  -- where p holds the lock behind a step by which c takes no request, there is a last one that c took before
  pub last_request : (ss : List Step) (s : Step) → TakesAll o (opening_world o) (ss ++ s ∷ []) → in_world o c ≡ true
      → left (world_behind o (ss ++ s ∷ [])) c ≡ false → 0 < holds_count o (events_in (ss ++ s ∷ [])) p id c
      → takes_request (world_behind o ss) (happening s) p id c ≡ false → Found ss
  last_request ss s T inside up holds none = found ss (takes_front o (opening_world o) ss (s ∷ []) T)
      (earlier ss s (takes_behind o (opening_world o) ss (s ∷ []) T).0 none
      (holds_has (events_in (ss ++ s ∷ [])) inside up holds))
