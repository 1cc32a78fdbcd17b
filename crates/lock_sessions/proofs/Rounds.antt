-- How the parts of a round move the stage of a requester and a node, and what holds of a round that is over or held.
use Rattle.std.proofs.Common.{ℕ, Bool, true, false, ◌==◌, ◌≡◌, ◌<◌, None, List, [], ◌∷◌, ◌++◌, refl, sym, ap, ◌∙◌, subst, inl, inr}
use Rattle.std.specs.Prelude.{not, ◌&&◌, ◌||◌, if◌then◌else◌}
use Rattle.std.proofs.lemmas.Bool.{cases_eq, eq-eqb, ne_eqb, eqb-true}
use Rattle.registry_model.specs.Process.{Nodes, at}
use Rattle.protocol_model.specs.Round.{Round, Mark, is_empty, greatest, begin, is_out, is_owes, is_granted, is_refused, is_gone, has_granted, asked, asked_too, marked, owes, opens, answer, mark_down, down, is_over, Ending, Held, GiveBack, granted, asked_all, is_held, ending}
use Rattle.registry_model.proofs.Updates.{by_test, at_same, at_other}
use Rattle.moves.proofs.Indices.{both, empty_at}
use Rattle.lock_sessions.proofs.Base.{not_both}
use Rattle.lock_sessions.proofs.LockTables.{once}
use Rattle.lock_sessions.proofs.Sessions.{Request, Asks, Returns, Stage, Free, Returning, AskedAgain, Asked, GrantComing, RefusalComing, HasGrant, HasRefusal, fits, requests_at, answers_at, share_at}
use Rattle.lock_sessions.proofs.Locking.{is_unasked, is_later, BossFirst}

-- a requester takes its stage from s to e: it then has this mark, has sent these requests, and has heard these answers
pub record Moved (s e : Stage) (m : Mark) (sent : List Request) (heard : List Bool) : Type 0 where
  pub mark : fits e m ≡ true
  pub requests : requests_at s ++ sent ≡ requests_at e
  pub answers : answers_at s ≡ heard ++ answers_at e
  pub share : share_at s ≡ share_at e

-- the stage once the node is asked
abbrev pub asked_at : Stage → Stage
asked_at Free = Asked
asked_at Returning = AskedAgain
asked_at s = s

-- it is asked
pub is_asked : (s : Stage) → fits s Mark.Out ≡ true → Moved s (asked_at s) Mark.Owes (Asks ∷ []) []
is_asked Free e = record { mark = refl; requests = refl; answers = refl; share = refl }
is_asked Returning e = record { mark = refl; requests = refl; answers = refl; share = refl }
is_asked _ e = cc

-- nothing is sent or heard
pub mark_stays : (s : Stage) (m : Mark) → fits s m ≡ true → Moved s s m [] []
mark_stays Returning m e = record { mark = e; requests = refl; answers = refl; share = refl }
mark_stays AskedAgain m e = record { mark = e; requests = refl; answers = refl; share = refl }
mark_stays Asked m e = record { mark = e; requests = refl; answers = refl; share = refl }
mark_stays _ m e = record { mark = e; requests = refl; answers = refl; share = refl }

-- it gets the lock back
pub gets_back : (s : Stage) → fits s Mark.Granted ≡ true → Moved s Returning Mark.Out (Returns ∷ []) []
gets_back HasGrant e = record { mark = refl; requests = refl; answers = refl; share = refl }
gets_back _ e = cc

-- it had refused
pub is_forgotten : (s : Stage) → fits s Mark.Refused ≡ true → Moved s Free Mark.Out [] []
is_forgotten HasRefusal e = record { mark = refl; requests = refl; answers = refl; share = refl }
is_forgotten _ e = cc

-- its answer is heard
pub is_heard : (s : Stage) (g : Bool) (rest : List Bool) → answers_at s ≡ g ∷ rest
    → Moved s (if g then HasGrant else HasRefusal) (if g then Mark.Granted else Mark.Refused) [] (g ∷ [])
is_heard GrantComing true rest e = record { mark = refl; requests = refl; answers = refl; share = refl }
is_heard RefusalComing false rest e = record { mark = refl; requests = refl; answers = refl; share = refl }
is_heard _ _ rest e = cc

-- a node with an answer on its way owes it
pub owes_answer : (s : Stage) (m : Mark) (g : Bool) (rest : List Bool) → answers_at s ≡ g ∷ rest → fits s m ≡ true
    → is_owes m ≡ true
owes_answer GrantComing m g rest e f = f
owes_answer RefusalComing m g rest e f = f
owes_answer _ m g rest e f = cc

-- who is to be asked later stands as who isn't asked
pub later_fits : (s : Stage) → fits s Mark.Later ≡ true → fits s Mark.Out ≡ true
later_fits Free e = refl
later_fits Returning e = refl
later_fits _ e = cc

-- and the other way round
pub out_fits : (s : Stage) → fits s Mark.Out ≡ true → fits s Mark.Later ≡ true
out_fits Free e = refl
out_fits Returning e = refl
out_fits _ e = cc

-- no stage of two nodes that run allows a mark of a departure
pub lost_fits : (s : Stage) → fits s Mark.Lost ≡ true → ⊥
lost_fits Free e = cc
lost_fits _ e = cc

pub gone_fits : (s : Stage) → fits s Mark.Gone ≡ true → ⊥
gone_fits Free e = cc
gone_fits _ e = cc

-- in a held round all that are asked have granted
pub held_fits : (s : Stage) (m : Mark) → fits s m ≡ true → is_owes m ≡ false → is_refused m ≡ false → is_later m ≡ false
    → fits s (if not (is_out m) then Mark.Granted else Mark.Out) ≡ true
held_fits s Mark.Out f o r l = f
held_fits s Mark.Later f o r l = cc
held_fits s Mark.Owes f o r l = cc
held_fits s Mark.Granted f o r l = f
held_fits s Mark.Refused f o r l = cc
held_fits s Mark.Lost f o r l = absurd (lost_fits s f)
held_fits s Mark.Gone f o r l = absurd (gone_fits s f)

-- the round is given up: who granted gets the lock back
pub gives_up : (s : Stage) (m : Mark) → fits s m ≡ true → is_owes m ≡ false
    → (e : Stage) × Moved s e Mark.Out (if is_granted m then Returns ∷ [] else []) []
gives_up s Mark.Out f o = (s, mark_stays s Mark.Out f)
gives_up s Mark.Later f o = (s, mark_stays s Mark.Out (later_fits s f))
gives_up s Mark.Owes f o = cc
gives_up s Mark.Granted f o = (Returning, gets_back s f)
gives_up s Mark.Refused f o = (Free, is_forgotten s f)
gives_up s Mark.Lost f o = absurd (lost_fits s f)
gives_up s Mark.Gone f o = absurd (gone_fits s f)

-- the boss has granted: who was to be asked later is asked
pub asks_more : (s : Stage) (m : Mark) → fits s m ≡ true → is_unasked m ≡ true
    → (e : Stage) × Moved s e (asked_too m) (if not (is_out m) then Asks ∷ [] else []) []
asks_more s Mark.Out f u = (s, mark_stays s Mark.Out f)
asks_more s Mark.Later f u = (asked_at s, is_asked s (later_fits s f))
asks_more s Mark.Gone f u = absurd (gone_fits s f)
asks_more s _ f u = cc

-- the operation is done: who was asked gets the lock back
pub finishes : (s : Stage) (b : Bool) → fits s (if b then Mark.Granted else Mark.Out) ≡ true
    → (e : Stage) × Moved s e Mark.Out (if b then Returns ∷ [] else []) []
finishes s true f = (Returning, gets_back s f)
finishes s false f = (s, mark_stays s Mark.Out f)

-- a node that is asked judges: it sends g, and its share is the requester's from then on where it grants
pub record Judged (s e : Stage) (g : Bool) : Type 0 where
  pub mark : (m : Mark) → fits s m ≡ true → fits e m ≡ true
  pub requests : requests_at s ≡ Asks ∷ requests_at e
  pub answers : answers_at s ++ g ∷ [] ≡ answers_at e
  pub before : share_at s ≡ None
  pub after : share_at e ≡ (if g then once else None)

-- a node whose next letter asks for the lock judges
pub is_judged : (s : Stage) (g : Bool) (rest : List Request) → requests_at s ≡ Asks ∷ rest
    → Judged s (if g then GrantComing else RefusalComing) g
is_judged Asked true rest e = record { mark = λ m h. h; requests = refl; answers = refl; before = refl; after = refl }
is_judged Asked false rest e = record { mark = λ m h. h; requests = refl; answers = refl; before = refl; after = refl }
is_judged _ g rest e = cc

-- a node takes the lock back
pub record TakenBack (s e : Stage) : Type 0 where
  pub mark : (m : Mark) → fits s m ≡ true → fits e m ≡ true
  pub requests : requests_at s ≡ Returns ∷ requests_at e
  pub answers : answers_at s ≡ answers_at e
  pub before : share_at s ≡ once
  pub after : share_at e ≡ None

-- a node whose next letter gives the lock back takes it
pub is_taken_back : (s : Stage) (rest : List Request) → requests_at s ≡ Returns ∷ rest → (e : Stage) × TakenBack s e
is_taken_back Returning rest e =
    (Free, record { mark = λ m h. h; requests = refl; answers = refl; before = refl; after = refl })
is_taken_back AskedAgain rest e =
    (Asked, record { mark = λ m h. h; requests = refl; answers = refl; before = refl; after = refl })
is_taken_back _ rest e = cc

-- a round begins with its boss
pub begin-first : (n : ℕ) (s : Nodes) → BossFirst (begin n s)
begin-first n s = record {
  early = λ e x ne. unasked x ne (s x);
  late = λ e x. absurd (not_both (has_granted ((begin n s).mark (greatest n s))) e
      (none (s (greatest n s)) (greatest n s == greatest n s)));
}
  where
    none : (b c : Bool) → has_granted (if b then (if c then Mark.Owes else Mark.Later) else Mark.Out) ≡ false
    none true true = refl
    none true false = refl
    none false c = refl

    unasked : (x : ℕ) → (x ≡ greatest n s → ⊥) → (b : Bool)
        → is_unasked (if b then (if x == greatest n s then Mark.Owes else Mark.Later) else Mark.Out) ≡ true
    unasked x ne true = rw (ne_eqb x (greatest n s) ne) refl
    unasked x ne false = refl

-- a departure doesn't change who has granted
pub has_granted-mark_down : (m : Mark) → has_granted (mark_down m) ≡ has_granted m
has_granted-mark_down Mark.Out = refl
has_granted-mark_down _ = refl

is_unasked-mark_down : (m : Mark) → is_unasked m ≡ true → is_unasked (mark_down m) ≡ true
is_unasked-mark_down Mark.Out e = refl
is_unasked-mark_down Mark.Later e = refl
is_unasked-mark_down Mark.Gone e = refl
is_unasked-mark_down _ e = cc

is_later-mark_down : (m : Mark) → is_later (mark_down m) ≡ false
is_later-mark_down Mark.Out = refl
is_later-mark_down _ = refl

-- a node that goes down changes nothing of it
pub down-first : (d : ℕ) (r : Round) → BossFirst r → BossFirst (down d r)
down-first d r B = record {
  early = λ e x ne. by_test d
      (λ x b. is_unasked (r.mark x) ≡ true → is_unasked (if b then mark_down (r.mark d) else r.mark x) ≡ true)
      (is_unasked-mark_down (r.mark d)) (λ x other h. h) x (B.early (sym boss ∙ e) x ne);
  late = λ e x. by_test d (λ x b. is_later (r.mark x) ≡ false
      → is_later (if b then mark_down (r.mark d) else r.mark x) ≡ false)
      (λ h. is_later-mark_down (r.mark d)) (λ x other h. h) x (B.late (sym boss ∙ e) x);
}
  where
    boss : has_granted ((down d r).mark r.boss) ≡ has_granted (r.mark r.boss)
    boss = by_test d (λ x b. has_granted (if b then mark_down (r.mark d) else r.mark x) ≡ has_granted (r.mark x))
        (has_granted-mark_down (r.mark d)) (λ x other. refl) r.boss

is_later-asked_too : (m : Mark) → is_later (asked_too m) ≡ false
is_later-asked_too Mark.Out = refl
is_later-asked_too _ = refl

-- the boss's grant
pub answer-opens : (f : ℕ) (granted : Bool) (r : Round) → opens f granted r ≡ true
    → answer f granted r ≡ marked f Mark.Granted (record r { mark = λ x. asked_too (r.mark x) })
answer-opens f granted r e = rw e refl

-- any other answer that is owed
pub answer-owed : (f : ℕ) (granted : Bool) (r : Round) → opens f granted r ≡ false → owes r f ≡ true
    → answer f granted r ≡ marked f (if granted then Mark.Granted else Mark.Refused) r
answer-owed f granted r e k = rw (e, k) refl

-- who owes an answer hasn't granted
pub owes_ungranted : (m : Mark) → is_owes m ≡ true → has_granted m ≡ false
owes_ungranted Mark.Owes e = refl
owes_ungranted _ e = cc

-- and was asked
owes_asked : (m : Mark) → is_owes m ≡ true → is_unasked m ≡ false
owes_asked Mark.Owes e = refl
owes_asked _ e = cc

-- what the boss's grant is
pub opens-boss : (f : ℕ) (granted : Bool) (r : Round) → opens f granted r ≡ true
    → (granted ≡ true) × (f ≡ r.boss) × (owes r f ≡ true)
opens-boss f true r e = (refl, eqb-true f r.boss parts.0, parts.1)
  where
    parts : ((f == r.boss) ≡ true) × (owes r f ≡ true)
    parts = both (f == r.boss) (owes r f) e
opens-boss f false r e = cc

-- an answer changes nothing of it
pub answer-first : (f : ℕ) (granted : Bool) (r : Round) → owes r f ≡ true → BossFirst r → BossFirst (answer f granted r)
answer-first f granted r o B = go (opens f granted r) refl
  where
    opened : opens f granted r ≡ true
        → BossFirst (marked f Mark.Granted (record r { mark = λ x. asked_too (r.mark x) }))
    opened e = record {
      early = λ h x ne. absurd (not_both (has_granted (at (λ x. asked_too (r.mark x)) f Mark.Granted r.boss))
          (subst (λ (b : ℕ). has_granted (at (λ x. asked_too (r.mark x)) f Mark.Granted b) ≡ true)
          (opens-boss f granted r e).1
          (ap has_granted (at_same (λ x. asked_too (r.mark x)) f Mark.Granted))) h);
      late = λ h. by_test f (λ x b. is_later (if b then Mark.Granted else asked_too (r.mark x)) ≡ false) refl
          (λ x ne. is_later-asked_too (r.mark x));
    }

    answered : (g : Bool) → (f ≡ r.boss → g ≡ false) → BossFirst (marked f (if g then Mark.Granted else Mark.Refused) r)
    answered g only = elim (cases_eq f r.boss) [
      | inl e ↦ record {
        early = λ h x ne. subst (λ (m : Mark). is_unasked m ≡ true)
            (sym (at_other r.mark f (if g then Mark.Granted else Mark.Refused) x (λ k. ne (k ∙ e))))
            (B.early (subst (λ (b : ℕ). has_granted (r.mark b) ≡ false) e (owes_ungranted (r.mark f) o)) x ne);
        late = λ h x. absurd (not_both (has_granted (at r.mark f (if g then Mark.Granted else Mark.Refused) r.boss)) h
            (subst (λ (b : ℕ). has_granted (at r.mark f (if g then Mark.Granted else Mark.Refused) b) ≡ false) e
            (ap has_granted (at_same r.mark f (if g then Mark.Granted else Mark.Refused))
            ∙ ap (λ (b : Bool). has_granted (if b then Mark.Granted else Mark.Refused)) (only e))));
      }
      | inr ne ↦ record {
        early = λ h x other. absurd
            (not_both (is_unasked (r.mark f)) (B.early (sym (boss ne) ∙ h) f ne) (owes_asked (r.mark f) o));
        late = λ h. by_test f (λ x b. is_later (if b then (if g then Mark.Granted else Mark.Refused) else r.mark x)
            ≡ false) (unlater g) (λ x other. B.late (sym (boss ne) ∙ h) x);
      }
    ]
      where
        boss : (f ≡ r.boss → ⊥) → has_granted (at r.mark f (if g then Mark.Granted else Mark.Refused) r.boss)
            ≡ has_granted (r.mark r.boss)
        boss ne = ap has_granted (at_other r.mark f (if g then Mark.Granted else Mark.Refused) r.boss (λ e. ne (sym e)))

        unlater : (g : Bool) → is_later (if g then Mark.Granted else Mark.Refused) ≡ false
        unlater true = refl
        unlater false = refl

    refuses : (g : Bool) → opens f g r ≡ false → f ≡ r.boss → g ≡ false
    refuses true e k = absurd (not_both (opens f true r) (rw (eq-eqb f r.boss k, o) refl) e)
    refuses false e k = refl

    go : (b : Bool) → opens f granted r ≡ b → BossFirst (answer f granted r)
    go true e = subst (λ (x : Round). BossFirst x) (sym (answer-opens f granted r e)) (opened e)
    go false e = subst (λ (x : Round). BossFirst x) (sym (answer-owed f granted r e o))
        (answered granted (refuses granted e))

-- nobody of a round that is over owes an answer
pub over-owes : (n : ℕ) (r : Round) → BossFirst r → is_over n r ≡ true → (x : ℕ) → x < n → is_owes (r.mark x) ≡ false
over-owes n r B over x l = go (r.mark r.boss) refl over
  where
    unasked : (m : Mark) → is_unasked m ≡ true → is_owes m ≡ false
    unasked Mark.Out e = refl
    unasked Mark.Later e = refl
    unasked Mark.Gone e = refl
    unasked _ e = cc

    ended : has_granted (r.mark r.boss) ≡ false → is_owes (r.mark r.boss) ≡ false → is_owes (r.mark x) ≡ false
    ended h k = elim (cases_eq x r.boss) [
      | inl e ↦ ap (λ (y : ℕ). is_owes (r.mark y)) e ∙ k
      | inr ne ↦ unasked (r.mark x) (B.early h x ne)
    ]

    go : (m : Mark) → r.mark r.boss ≡ m → (is_refused m || is_gone m || has_granted m && is_empty n (owes r)) ≡ true
        → is_owes (r.mark x) ≡ false
    go Mark.Refused e h = ended (ap has_granted e) (ap is_owes e)
    go Mark.Gone e h = ended (ap has_granted e) (ap is_owes e)
    go Mark.Granted e h = empty_at n (owes r) h x l
    go Mark.Lost e h = empty_at n (owes r) h x l
    go _ e h = cc

-- what holds in a held round
pub record HeldRound (n : ℕ) (members : Nodes) (r : Round) : Type 0 where
  pub boss : has_granted (r.mark r.boss) ≡ true
  pub unrefused : (x : ℕ) → x < n → is_refused (r.mark x) ≡ false
  pub grown : (x : ℕ) → x < n → members x ≡ true → asked r x ≡ true

pub ending-held : (n : ℕ) (members : Nodes) (r : Round) → ending n members r ≡ Held → HeldRound n members r
ending-held n members r e = go (is_held n members r) refl e
  where
    held : is_held n members r ≡ true → HeldRound n members r
    held h = record {
      boss = third.0;
      unrefused = λ x l. empty_at n (λ c. is_refused (r.mark c)) third.1 x l;
      grown = λ x l m. (ap not (sym (ap (λ (b : Bool). b && is_out (r.mark x)) m))
          ∙ ap not (empty_at n (λ c. members c && is_out (r.mark c)) second.1 x l));
    }
      where
        first : ((has_granted (r.mark r.boss) && is_empty n (λ c. is_refused (r.mark c)) && asked_all n members r)
            ≡ true) × (not (is_empty n (granted r)) ≡ true)
        first = both (has_granted (r.mark r.boss) && is_empty n (λ c. is_refused (r.mark c)) && asked_all n members r)
            (not (is_empty n (granted r))) h

        second : ((has_granted (r.mark r.boss) && is_empty n (λ c. is_refused (r.mark c))) ≡ true)
            × (asked_all n members r ≡ true)
        second = both (has_granted (r.mark r.boss) && is_empty n (λ c. is_refused (r.mark c)))
            (asked_all n members r) first.0

        third : (has_granted (r.mark r.boss) ≡ true) × (is_empty n (λ c. is_refused (r.mark c)) ≡ true)
        third = both (has_granted (r.mark r.boss)) (is_empty n (λ c. is_refused (r.mark c))) second.0

    go : (b : Bool) → is_held n members r ≡ b → (if b then Held else GiveBack (granted r)) ≡ Held
        → HeldRound n members r
    go true h e = held h
    go false h e = cc

-- whom a round that isn't held gives back
pub ending-given : (n : ℕ) (members back : Nodes) (r : Round) → ending n members r ≡ GiveBack back → (x : ℕ)
    → back x ≡ is_granted (r.mark x)
ending-given n members back r e x = go (is_held n members r) e
  where
    given : Ending → Bool
    given Held = false
    given (GiveBack s) = s x

    go : (b : Bool) → (if b then Held else GiveBack (granted r)) ≡ GiveBack back → back x ≡ is_granted (r.mark x)
    go true e = cc
    go false e = sym (ap given e)
