-- What leads a node from one moment to a later one: what was read and printed on the way, what is shown, and what its log says.
use Rattle.std.proofs.Common.{◌≡◌, ℕ, suc, inl, inr, List, [], ◌∷◌, ◌++◌, map, refl, sym, ap, subst, ◌∙◌, append-nil, append_assoc, All}
use Rattle.std.specs.Prelude.{Contains, ◌⊎◌, Result}
use Rattle.std.proofs.lemmas.Grind.{flat_map-append}
use Rattle.std.proofs.lemmas.List.Elements.{All-nil, All-cons, All-append, All-weaker, Contains-append_left}
use Rattle.protocol_model.specs.Event.{Answer as AnyAnswer}
use Rattle.node_loop.specs.declared.edit.Edition.{Edition}
use Rattle.node_loop.specs.declared.edit.Update.{Update}
use Rattle.node_loop.specs.declared.item.Item.{Item}
use Rattle.node_loop.specs.declared.item.Ticket.{Ticket}
use Rattle.node_loop.specs.declared.replies.TaskFault.{TaskFault}
use Rattle.node_loop.specs.declared.item.Item.TheVariants.{Letter, Task}
use Rattle.node_loop.specs.Answers.{LogsAnswer}
use Rattle.node_loop.specs.Coming.{IsLoopOf, IsLoopFrom, Turns, HandsOut, HandsOver, Replaces}
use Rattle.node_loop.specs.Editions.{updated}
use Rattle.node_loop.specs.Held.{Looping, Written}
use Rattle.node_loop.specs.Items.{by_leave}
use Rattle.node_loop.specs.NodeCoreState.{CoreState}
use Rattle.node_loop.specs.Owing.{shown_by, Owes}
use Rattle.node_loop.specs.Steps.{Outcome, entry_of}
use Rattle.node_loop.specs.Told.{Told, Came}
use Rattle.node_loop.proofs.Answers.{next_is_logged_from}
use Rattle.node_loop.proofs.Moving.{IsKept, turns, turn_of}
use Rattle.node_loop.proofs.Owing.{turns_keep}
use Rattle.wire_end.specs.declared.line.LinkLine.{LinkLine}
use Rattle.wire_end.specs.declared.wire_end.Wiring.{Wiring}
use Rattle.wire_end.specs.Wirings.{Posts, Refuses, Takes, Misses}
use Rattle.node_port.specs.Deeds.{Stand, Deed, Turn, Show, Hand, Does, DoesAll, change_by, changes_by, reply_by, replies_by}
use Rattle.node_port.specs.Edits.{Changed, Edited, Stood, update_of, updates_of}
use Rattle.node_port.specs.Ran.{IsGiven, shown_behind}
use Rattle.node_port.specs.Shown.{Shown, Tells}
use Rattle.node_port.proofs.Moves.{turn_holds, same_by_post}
use Rattle.node_port.proofs.Ordering.{IsOrdered, stay_ordered}

-- where `nobody` says that no other node starts on the way, it is the loop of its name still
pub record Leads (nobody : Type 0) (reads : List (ℕ × LinkLine)) (letters : List ℕ) (updates : List Update) (answers : List Shown) (a b : Stand)
    : Type 0 where
  pub node : b.end.node ≡ a.end.node
  pub read : b.end.read ≡ a.end.read ++ reads
  pub order : (out : List ℕ) → IsOrdered out a.end → IsOrdered (out ++ letters) b.end
  pub owes : (e : Edition) → Owes a.loop e → Owes b.loop (shown_behind e updates)
  pub came : nobody → (name : ℕ) → IsLoopOf name a.loop → IsLoopOf name b.loop
  pub came_from : (stamp : ℕ) (core : CoreState) → IsLoopFrom stamp core a.loop → IsLoopFrom stamp core b.loop
  pub stays : (stamp : ℕ) (answer : AnyAnswer) → LogsAnswer a.loop.log stamp answer → LogsAnswer b.loop.log stamp answer
  pub given : (stamp : ℕ) (core : CoreState) → IsLoopFrom stamp core a.loop → All (IsGiven b.loop.log) answers

shown_on : (e : Edition) (us vs : List Update) → shown_behind e (us ++ vs) ≡ shown_behind (shown_behind e us) vs
shown_on e [] vs = refl
shown_on e (u ∷ us) vs = shown_on (updated e u) us vs

-- an answer stays given where its step stays in the log
given_still : (a b : Written) → ((stamp : ℕ) (answer : AnyAnswer) → LogsAnswer a stamp answer → LogsAnswer b stamp answer)
    → (s : Shown) → IsGiven a s → IsGiven b s
given_still a b stays (Tells told) h = λ stamp answer e. stays stamp answer (h stamp answer e)
given_still a b stays (Shown.Puts x p) h = tt
given_still a b stays (Shown.Removes x) h = tt
given_still a b stays (Shown.Strikes p) h = tt
given_still a b stays (Shown.Drops n) h = tt
given_still a b stays Shown.Clears h = tt
given_still a b stays (Shown.Stands j m) h = tt
given_still a b stays (Shown.Counts t n) h = tt
given_still a b stays (Shown.Refuses t f) h = tt
given_still a b stays (Shown.Gaps n k) h = tt
given_still a b stays Shown.Strays h = tt
given_still a b stays Shown.Misses h = tt
given_still a b stays Shown.Untells h = tt
given_still a b stays Shown.Waits h = tt
given_still a b stays Shown.Spends h = tt

pub leads_none : (nobody : Type 0) (a : Stand) → Leads nobody [] [] [] [] a a
leads_none nobody a = record {
  node = refl;
  read = sym (append-nil a.end.read);
  order = λ out h. subst (λ (t : List ℕ). IsOrdered t a.end) (sym (append-nil out)) h;
  owes = λ e h. h;
  came = λ still name h. h;
  came_from = λ stamp core h. h;
  stays = λ stamp answer h. h;
  given = λ stamp core h. All-nil (IsGiven a.loop.log);
}

pub leads_on : (nobody : Type 0) (r q : List (ℕ × LinkLine)) (l m : List ℕ) (us vs : List Update) (xs ys : List Shown) (a b c : Stand)
    → Leads nobody r l us xs a b → Leads nobody q m vs ys b c → Leads nobody (r ++ q) (l ++ m) (us ++ vs) (xs ++ ys) a c
leads_on nobody r q l m us vs xs ys a b c A B = record {
  node = B.node ∙ A.node;
  read = B.read ∙ (ap (λ (z : List (ℕ × LinkLine)). z ++ q) A.read ∙ append_assoc a.end.read r q);
  order = λ out h. subst (λ (t : List ℕ). IsOrdered t c.end) (append_assoc out l m) (B.order (out ++ l) (A.order out h));
  owes = λ e h. subst (Owes c.loop) (sym (shown_on e us vs)) (B.owes (shown_behind e us) (A.owes e h));
  came = λ still name h. B.came still name (A.came still name h);
  came_from = λ stamp core h. B.came_from stamp core (A.came_from stamp core h);
  stays = λ stamp answer h. B.stays stamp answer (A.stays stamp answer h);
  given = λ stamp core h. All-append (IsGiven c.loop.log) xs ys
      (All-weaker (IsGiven b.loop.log) (IsGiven c.loop.log) (given_still b.loop.log c.loop.log B.stays) xs (A.given stamp core h))
      (B.given stamp core (A.came_from stamp core h));
}

-- the same, said otherwise
pub leads_as : (nobody : Type 0) (r : List (ℕ × LinkLine)) (l m : List ℕ) (us vs : List Update) (xs ys : List Shown) (a b : Stand)
    → l ≡ m → us ≡ vs → xs ≡ ys → Leads nobody r l us xs a b → Leads nobody r m vs ys a b
leads_as nobody r l m us vs xs ys a b e f g h =
    subst (λ (x : List ℕ). Leads nobody r x vs ys a b) e
    (subst (λ (x : List Update). Leads nobody r l x ys a b) f (subst (λ (x : List Shown). Leads nobody r l us x a b) g h))

-- a step's answers stay in a log that gets an entry more
module _ (stamp : ℕ) (answer : AnyAnswer) where
  abbrev Has : Looping → Type 0
  Has b = LogsAnswer b.log stamp answer

  more : (a b : Looping) (e : _) → Has a → b.log ≡ record a.log { entries = a.log.entries ++ e ∷ [] } → Has b
  more a b e h is = record {
    entry = h.entry;
    logged = subst (λ (w : Written). Contains w.entries h.entry) (sym is) (Contains-append_left a.log.entries (e ∷ []) h.entry h.logged);
    stamped = h.stamped;
    given = h.given;
  }

  pub as_before : (a b : Looping) → b.log ≡ a.log → LogsAnswer a.log stamp answer → LogsAnswer b.log stamp answer
  as_before a b e h = subst (λ (w : Written). LogsAnswer w stamp answer) (sym e) h

  kept : IsKept Has
  kept = record {
    besides = λ a tray wait worked h. h;
    refuses = λ a ticket fault h. h;
    waits = λ a ticket h. h;
    makes = λ k a b h M. more a b (entry_of k a M.turn.answers) h M.log;
    rests = λ a b h R. as_before a b (ap (λ (l : Looping). l.log) R.others) h;
    begun = λ k a b h B. more a b (entry_of k a B.turn.answers) h B.log;
    departs = λ a b h D. more a b (entry_of (by_leave a) a D.step.turn.answers) h (ap (λ (l : Looping). l.log) D.behind ∙ D.step.log);
    departing = λ a b h B. more a b (entry_of (by_leave a) a B.turn.answers) h B.log;
  }

  has_still : (a b : Looping) → Turns a b → Has a → Has b
  has_still a b T h = turns Has kept a b h T

-- one move more
moves_on : (name : ℕ) (a b : Looping) → Turns a b ⊎ HandsOut a b ⊎ HandsOver a b → IsLoopOf name a → IsLoopOf name b
moves_on name a b move is = record {
  nodes = is.nodes;
  cluster = is.cluster;
  stamp = is.stamp;
  moves = suc is.moves;
  comes = (a, is.comes, move);
}

pub moves_from : (stamp : ℕ) (core : CoreState) (a b : Looping) → Turns a b ⊎ HandsOut a b ⊎ HandsOver a b ⊎ Replaces a b → IsLoopFrom stamp core a
    → IsLoopFrom stamp core b
moves_from stamp core a b move is = record { moves = suc is.moves; comes = (a, is.comes, move) }

-- a turn
node_by_taking : (s : Wiring) (from : ℕ) (i : Item) (t : Wiring) → Takes s from i t → (x : ℕ) → s.node ≡ x → t.node ≡ x
node_by_taking s from (Letter l) t (inl h) x e = ap (λ (u : Wiring). u.node) h.rest ∙ e
node_by_taking s from (Letter l) t (inr h) x e = ap (λ (u : Wiring). u.node) h.rest ∙ e
node_by_taking s from (Task k) t h x e = ap (λ (u : Wiring). u.node) h.rest ∙ e

read_by_taking : (s : Wiring) (from : ℕ) (i : Item) (t : Wiring) → Takes s from i t → (x : List (ℕ × LinkLine)) → s.read ≡ x → t.read ≡ x
read_by_taking s from (Letter l) t (inl h) x e = ap (λ (u : Wiring). u.read) h.rest ∙ e
read_by_taking s from (Letter l) t (inr h) x e = ap (λ (u : Wiring). u.read) h.rest ∙ e
read_by_taking s from (Task k) t h x e = ap (λ (u : Wiring). u.read) h.rest ∙ e

turn_leads : (nobody : Type 0) (r : Outcome) (a b : Stand) → Does (Turn r) a b → Leads nobody [] [] [] [] a b
turn_leads nobody r a b T = record {
  node = turn_holds (λ s. s.node ≡ a.end.node)
      (λ s to i t h e. same_by_post (λ (u : Wiring). u.node) (λ s l. refl) (λ s to l. refl) s to i t h a.end.node e)
      (λ s from i t h e. node_by_taking s from i t h a.end.node e) a.loop a.end r b.loop b.end T refl;
  read = turn_holds (λ s. s.read ≡ a.end.read)
      (λ s to i t h e. same_by_post (λ (u : Wiring). u.read) (λ s l. refl) (λ s to l. refl) s to i t h a.end.read e)
      (λ s from i t h e. read_by_taking s from i t h a.end.read e) a.loop a.end r b.loop b.end T refl
      ∙ sym (append-nil a.end.read);
  order = λ out h. subst (λ (x : List ℕ). IsOrdered x b.end) (sym (append-nil out))
      (turn_holds (IsOrdered out) (λ s to i t p k. stay_ordered.sends out s to i t k p) (λ s from i t p k. stay_ordered.gives out s from i t k p)
      a.loop a.end r b.loop b.end T h);
  owes = λ e h. turns_keep a.loop b.loop moved e h;
  came = λ still name h. moves_on name a.loop b.loop (inl moved) h;
  came_from = λ stamp core h. moves_from stamp core a.loop b.loop (inl moved) h;
  stays = λ stamp answer h. has_still stamp answer a.loop b.loop moved h;
  given = λ stamp core h. All-nil (IsGiven b.loop.log);
}
  where
    moved : Turns a.loop b.loop
    moved = turn_of Posts Refuses Takes Misses (λ n. Unit {0}) a.loop a.end r b.loop b.end T

-- behind it the end is as it was
module _ (a b : Stand) (same : b.end ≡ a.end) where
  node_as : b.end.node ≡ a.end.node
  node_as = ap (λ (u : Wiring). u.node) same

  read_as : b.end.read ≡ a.end.read ++ []
  read_as = ap (λ (u : Wiring). u.read) same ∙ sym (append-nil a.end.read)

  order_as : (out : List ℕ) → IsOrdered out a.end → IsOrdered (out ++ []) b.end
  order_as out h = subst (λ (x : List ℕ). IsOrdered x b.end) (sym (append-nil out)) (subst (IsOrdered out) (sym same) h)

-- what changed is shown
show_leads : (nobody : Type 0) (c : Changed) (a b : Stand) → Does (Show c) a b → Leads nobody [] [] (update_of c) [] a b
show_leads nobody (Edited u) a b D = record {
  node = node_as a b D.1;
  read = read_as a b D.1;
  order = order_as a b D.1;
  owes = λ e h. subst (λ (x : Looping). Owes x (updated e u)) (sym D.0.0) (record {
    world = h.world;
    length = h.length;
    leads = (D.0.2 e h).0 ∙ ap shown_by D.0.0;
  });
  came = λ still name h. moves_on name a.loop b.loop (inr (inr over)) h;
  came_from = λ stamp core h. moves_from stamp core a.loop b.loop (inr (inr (inl over))) h;
  stays = λ stamp answer h. as_before stamp answer a.loop b.loop (ap (λ (l : Looping). l.log) D.0.0) h;
  given = λ stamp core h. All-nil (IsGiven b.loop.log);
}
  where
    over : HandsOver a.loop b.loop
    over = D.0.0 ∙ (λ j. record a.loop { owed = record a.loop.owed { note = sym (ap (λ (l : Looping). l.owed.note) D.0.0) j } })
show_leads nobody (Stood joined members) a b D = record {
  node = node_as a b D.1;
  read = read_as a b D.1;
  order = order_as a b D.1;
  owes = λ e h. subst (λ (x : Looping). Owes x e) (sym D.0.2) h;
  came = λ still name h. subst (IsLoopOf name) (sym D.0.2) h;
  came_from = λ stamp core h. subst (IsLoopFrom stamp core) (sym D.0.2) h;
  stays = λ stamp answer h. as_before stamp answer a.loop b.loop (ap (λ (l : Looping). l.log) D.0.2) h;
  given = λ stamp core h. All-nil (IsGiven b.loop.log);
}

abbrev as_told : Ticket → Result Came TaskFault → Told
as_told t o = record { ticket = t; outcome = o }

-- a reply is handed out
hand_leads : (nobody : Type 0) (told : Told) (a b : Stand) → Does (Hand told) a b → Leads nobody [] [] [] (Tells told ∷ []) a b
hand_leads nobody told a b D = record {
  node = node_as a b D.1;
  read = read_as a b D.1;
  order = order_as a b D.1;
  owes = λ e h. subst (λ (x : Looping). Owes x e) (sym D.0.rest) (record { world = h.world; length = h.length; leads = h.leads });
  came = λ still name h. moves_on name a.loop b.loop (inr (inl out)) h;
  came_from = λ stamp core h. moves_from stamp core a.loop b.loop (inr (inl out)) h;
  stays = λ stamp answer h. as_before stamp answer a.loop b.loop log h;
  given = λ start core h. All-cons (IsGiven b.loop.log) (Tells told) [] (λ stamp answer e. as_before stamp answer a.loop b.loop log
      (next_is_logged_from start core a.loop h told.ticket stamp answer b.loop.desk.replies
      (D.0.oldest ∙ ap (λ (o : Result Came TaskFault). as_told told.ticket o ∷ b.loop.desk.replies) e))) (All-nil (IsGiven b.loop.log));
}
  where
    log : b.loop.log ≡ a.loop.log
    log = ap (λ (l : Looping). l.log) D.0.rest

    out : HandsOut a.loop b.loop
    out = record { told = told; oldest = D.0.oldest; rest = D.0.rest }

deed_leads : (nobody : Type 0) (d : Deed) (a b : Stand) → Does d a b
    → Leads nobody [] [] (updates_of (change_by d)) (map Tells (reply_by d)) a b
deed_leads nobody (Turn r) a b D = turn_leads nobody r a b D
deed_leads nobody (Show c) a b D =
    subst (λ (us : List Update). Leads nobody [] [] us [] a b) (sym (append-nil (update_of c))) (show_leads nobody c a b D)
deed_leads nobody (Hand told) a b D = hand_leads nobody told a b D

updates_more : (d : Deed) (ds : List Deed) → updates_of (changes_by (d ∷ ds)) ≡ updates_of (change_by d) ++ updates_of (changes_by ds)
updates_more d ds = flat_map-append update_of (change_by d) (changes_by ds)

answers_more : (d : Deed) (ds : List Deed) → map Tells (replies_by (d ∷ ds)) ≡ map Tells (reply_by d) ++ map Tells (replies_by ds)
answers_more (Turn r) ds = refl
answers_more (Show c) ds = refl
answers_more (Hand told) ds = refl

pub deeds_lead : (nobody : Type 0) (ds : List Deed) (a b : Stand) → DoesAll ds a b
    → Leads nobody [] [] (updates_of (changes_by ds)) (map Tells (replies_by ds)) a b
deeds_lead nobody [] a b D = subst (λ (x : Stand). Leads nobody [] [] [] [] a x) (sym D) (leads_none nobody a)
deeds_lead nobody (d ∷ ds) a c D =
    leads_as nobody [] [] [] (updates_of (change_by d) ++ updates_of (changes_by ds)) (updates_of (changes_by (d ∷ ds)))
    (map Tells (reply_by d) ++ map Tells (replies_by ds)) (map Tells (replies_by (d ∷ ds))) a c refl (sym (updates_more d ds))
    (sym (answers_more d ds))
    (leads_on nobody [] [] [] [] (updates_of (change_by d)) (updates_of (changes_by ds)) (map Tells (reply_by d)) (map Tells (replies_by ds)) a D.0 c
    (deed_leads nobody d a D.0 D.1) (deeds_lead nobody ds D.0 c D.2))
