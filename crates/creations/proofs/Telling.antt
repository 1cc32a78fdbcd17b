-- A node that has nothing is told of nodes that have left, one after the other.
use Rattle.std.proofs.Common.{ℕ, Bool, true, false, ◌==◌, ◌≡◌, List, [], ◌∷◌, ◌++◌, map, refl, sym, ap, subst, ◌∙◌, inl, inr}
use Rattle.std.specs.Prelude.{◌⊎◌, Option, None, Contains, not, ◌&&◌, if◌then◌else◌, is_none, drop, fold}
use Rattle.std.proofs.Math.Path.{fun_ext}
use Rattle.std.proofs.lemmas.Bool.{eq-eqb, ne_eqb}
use Rattle.std.proofs.lemmas.List.{append-nil, append_assoc}
use Rattle.registry_model.specs.Process.{Nodes, with_node, without_node}
use Rattle.registry_model.specs.History.{Told}
use Rattle.registry_model.proofs.Lists.{Contains-cases, Contains-front, Contains-behind, Contains-nil}
use Rattle.registry_model.proofs.Updates.{by_test, at_same, at_other}
use Rattle.protocol_model.specs.Letter.{Letter}
use Rattle.protocol_model.specs.Node.{Node}
use Rattle.protocol_model.specs.Event.{Answer, Refusal}
use Rattle.protocol_model.specs.Turn.{Turn, begun}
use Rattle.protocol_model.specs.Registrar.{start}
use Rattle.protocol_model.specs.Reading.{read, receive}
use Rattle.protocol_model.specs.Course.{Played, played, course}
use Rattle.protocol_model.specs.World.{Opening, in_world, World, left, WorldEvent, Deliver, refusal, join_number, heard, apply, letter_taken, accepted, happens, answers, turn_of, run, all_answers}
use Rattle.creations.specs.Restarts.{fresh_node}

-- what such a node makes of a `Down` of d
abbrev pub told_turn : Nodes → ℕ → ℕ → Turn
told_turn T n d = record { node = fresh_node (with_node d T) n; sends = []; entries = Told n d ∷ []; answers = [] }

pub receive_down : (bound n d : ℕ) (number : ℕ → ℕ) (T : Nodes) → (d ≡ n → ⊥)
    → receive bound n number d Letter.Down (begun (fresh_node T n)) ≡ told_turn T n d
receive_down bound n d number T ne =
    unread (T d) ∙ ap (λ (s : Nodes). let v : Node = fresh_node (with_node d T) n in
    let u : Turn = record (told_turn T n d) { node = record v { replica = record v.replica { members = s } } } in u) itself
  where
    unread : (b : Bool)
        → start bound n (if b && false then begun (fresh_node T n) else read bound n number d Letter.Down (begun (fresh_node T n)))
        ≡ start bound n (read bound n number d Letter.Down (begun (fresh_node T n)))
    unread true = refl
    unread false = refl

    itself : without_node d (λ c. c == n) ≡ (λ c. c == n)
    itself = fun_ext (by_test d (λ x t. (if t then false else x == n) ≡ (x == n)) (sym (ne_eqb d n ne)) (λ x no. refl))

-- who is told of after these, too
abbrev pub told_all : Nodes → List ℕ → Nodes
told_all T ds = fold (λ s d. with_node d s) T ds

pub told_before : (T : Nodes) (ds : List ℕ) (c : ℕ) → T c ≡ true → told_all T ds c ≡ true
told_before T [] c e = e
told_before T (d ∷ ds) c e = told_before (with_node d T) ds c (go (c == d))
  where
    go : (b : Bool) → (if b then true else T c) ≡ true
    go true = refl
    go false = e

pub told_of : (T : Nodes) (ds : List ℕ) (c : ℕ) → Contains ds c → told_all T ds c ≡ true
told_of T [] c i = absurd (Contains-nil c i)
told_of T (d ∷ ds) c i = elim (Contains-cases d ds c i) [
  | inl same ↦ told_before (with_node d T) ds c (ap (λ (b : Bool). if b then true else T c) (eq-eqb c d (sym same)))
  | inr more ↦ told_of (with_node d T) ds c more
]

pub told_only : (T : Nodes) (ds : List ℕ) (c : ℕ) → told_all T ds c ≡ true → (T c ≡ true) ⊎ Contains ds c
told_only T [] c e = inl e
told_only T (d ∷ ds) c e = elim (told_only (with_node d T) ds c e) [
  | inl one ↦ by_test d (λ x t. (if t then true else T x) ≡ true → (T x ≡ true) ⊎ Contains (d ∷ ds) x)
      (λ q. inr (Contains-front d ds)) (λ x ne q. inl q) c one
  | inr more ↦ inr (Contains-behind d ds c more)
]

-- no node stands twice
abbrev pub AreDistinct : List ℕ → Type 0
AreDistinct [] = Unit {0}
AreDistinct (d ∷ ds) = (Contains ds d → ⊥) × AreDistinct ds

-- from w to v, node n, which was told of T, is told of these too, and nothing else happens
pub record Tells (n : ℕ) (T : Nodes) (ds : List ℕ) (w v : World) : Type 0 where
  pub node : v.node n ≡ fresh_node (told_all T ds) n
  pub others : (a : ℕ) → (a ≡ n → ⊥) → v.node a ≡ w.node a
  pub emptied : (f : ℕ) → Contains ds f → v.links.queue f n ≡ []
  pub waiting : (f : ℕ) → (Contains ds f → ⊥) → v.links.queue f n ≡ w.links.queue f n
  pub elsewhere : (f t : ℕ) → (t ≡ n → ⊥) → v.links.queue f t ≡ w.links.queue f t
  pub departures : left v ≡ left w
  pub history : v.history ≡ w.history ++ map (Told n) ds

module _ (o : Opening) (n : ℕ) where
  -- a `Down` alone waits for n
  pub record Waits (w : World) (d : ℕ) : Type 0 where
    pub inside : in_world o d ≡ true
    pub other : d ≡ n → ⊥
    pub letter : w.links.queue d n ≡ Letter.Down ∷ []

  -- n has nothing, and was told of T
  pub record IsFresh (w : World) (T : Nodes) : Type 0 where
    pub inside : in_world o n ≡ true
    pub stays : left w n ≡ false
    pub node : w.node n ≡ fresh_node T n

  -- the world behind one of these deliveries
  abbrev pub behind : World → Nodes → ℕ → World
  behind w T d = apply n (told_turn T n d) (letter_taken (Deliver d n) w)

  accepts : (w : World) (T : Nodes) (d : ℕ) → IsFresh w T → Waits w d → refusal o w (Deliver d n) ≡ None
  accepts w T d F W = rw (F.inside, W.inside, F.stays, W.letter) refl

  turns : (w : World) (T : Nodes) (d : ℕ) → IsFresh w T → Waits w d → turn_of o w (Deliver d n) ≡ told_turn T n d
  turns w T d F W =
      ap (λ (ls : List Letter). heard o.bound n w d ls) W.letter
      ∙ ap (λ (v : Node). receive o.bound n (join_number w) d Letter.Down (begun v)) F.node
      ∙ receive_down o.bound n d (join_number w) T W.other

  pub happens-told : (w : World) (T : Nodes) (d : ℕ) → IsFresh w T → Waits w d → happens o w (Deliver d n) ≡ behind w T d
  happens-told w T d F W =
      ap (λ (r : Option Refusal). if is_none r then accepted o w (Deliver d n) else w) (accepts w T d F W)
      ∙ ap (λ (u : Turn). apply n u (letter_taken (Deliver d n) w)) (turns w T d F W)

  pub answers-told : (w : World) (T : Nodes) (d : ℕ) → IsFresh w T → Waits w d → answers o w (Deliver d n) ≡ []
  answers-told w T d F W =
      ap (λ (r : Option Refusal). if is_none r then (turn_of o w (Deliver d n)).answers else []) (accepts w T d F W)
      ∙ ap (λ (u : Turn). u.answers) (turns w T d F W)

  -- what is on the links behind it
  queue-behind : (w : World) (T : Nodes) (d f t : ℕ)
      → (behind w T d).links.queue f t ≡ (letter_taken (Deliver d n) w).links.queue f t
  queue-behind w T d f t = go (f == n && not (w.links.closed t))
    where
      go : (b : Bool)
          → (if b then (letter_taken (Deliver d n) w).links.queue f t ++ [] else (letter_taken (Deliver d n) w).links.queue f t)
          ≡ (letter_taken (Deliver d n) w).links.queue f t
      go true = append-nil ((letter_taken (Deliver d n) w).links.queue f t)
      go false = refl

  queue-taken : (w : World) (T : Nodes) (d : ℕ) → w.links.queue d n ≡ Letter.Down ∷ []
      → (behind w T d).links.queue d n ≡ []
  queue-taken w T d e = queue-behind w T d d n ∙ rw (eq-eqb d d refl, eq-eqb n n refl) (ap (drop 1) e)

  queue-other : (w : World) (T : Nodes) (d f : ℕ) → (f ≡ d → ⊥)
      → (behind w T d).links.queue f n ≡ w.links.queue f n
  queue-other w T d f ne = queue-behind w T d f n ∙ rw (ne_eqb f d ne) refl

  queue-elsewhere : (w : World) (T : Nodes) (d f t : ℕ) → (t ≡ n → ⊥)
      → (behind w T d).links.queue f t ≡ w.links.queue f t
  queue-elsewhere w T d f t ne = queue-behind w T d f t ∙ rw (ne_eqb t n ne) (go (f == d))
    where
      go : (b : Bool) → (if b && false then drop 1 (w.links.queue f t) else w.links.queue f t) ≡ w.links.queue f t
      go true = refl
      go false = refl

  abbrev pub deliveries_to : List ℕ → List WorldEvent
  deliveries_to ds = map (λ d. Deliver d n) ds

  pub fresh_behind : (w : World) (T : Nodes) (d : ℕ) → IsFresh w T → IsFresh (behind w T d) (with_node d T)
  fresh_behind w T d F = record {
    inside = F.inside;
    stays = F.stays;
    node = at_same w.node n (fresh_node (with_node d T) n);
  }

  pub waits_behind : (w : World) (T : Nodes) (d : ℕ) (ds : List ℕ) → (Contains ds d → ⊥)
      → ((f : ℕ) → Contains (d ∷ ds) f → Waits w f) → (f : ℕ) → Contains ds f → Waits (behind w T d) f
  waits_behind w T d ds fresh W f i =
      let v : Waits w f = W f (Contains-behind d ds f i) in record {
        inside = v.inside;
        other = v.other;
        letter = queue-other w T d f (λ same. fresh (subst (λ (x : ℕ). Contains ds x) same i)) ∙ v.letter;
      }

  pub tells : (ds : List ℕ) (w : World) (T : Nodes) → IsFresh w T → AreDistinct ds → ((f : ℕ) → Contains ds f → Waits w f)
      → Tells n T ds w (run o w (deliveries_to ds))
  tells [] w T F D W = record {
    node = F.node;
    others = λ a ne. refl;
    emptied = λ f i. absurd (Contains-nil f i);
    waiting = λ f i. refl;
    elsewhere = λ f t ne. refl;
    departures = refl;
    history = sym (append-nil w.history);
  }
  tells (d ∷ ds) w T F D W =
      subst (λ (v : World). Tells n T (d ∷ ds) w (run o v (deliveries_to ds))) (sym (happens-told w T d F here))
      (joins (tells ds v1 (with_node d T) (fresh_behind w T d F) D.1 (waits_behind w T d ds D.0 W)))
    where
      here : Waits w d
      here = W d (Contains-front d ds)

      v1 : World
      v1 = behind w T d

      joins : Tells n (with_node d T) ds v1 (run o v1 (deliveries_to ds))
          → Tells n T (d ∷ ds) w (run o v1 (deliveries_to ds))
      joins t = record {
        node = t.node;
        others = λ a ne. t.others a ne ∙ at_other w.node n (fresh_node (with_node d T) n) a ne;
        emptied = λ f i. elim (Contains-cases d ds f i) [
          | inl same ↦ subst (λ (x : ℕ). (run o v1 (deliveries_to ds)).links.queue x n ≡ []) same
              (t.waiting d D.0 ∙ queue-taken w T d here.letter)
          | inr more ↦ t.emptied f more
        ];
        waiting = λ f i. t.waiting f (λ more. i (Contains-behind d ds f more))
            ∙ queue-other w T d f (λ same. i (subst (λ (x : ℕ). Contains (d ∷ ds) x) (sym same) (Contains-front d ds)));
        elsewhere = λ f t2 ne. t.elsewhere f t2 ne ∙ queue-elsewhere w T d f t2 ne;
        departures = t.departures;
        history = t.history ∙ append_assoc w.history (Told n d ∷ []) (map (Told n) ds);
      }

  -- nothing is answered
  pub answers_none : (ds : List ℕ) (w : World) (T : Nodes) → IsFresh w T → AreDistinct ds
      → ((f : ℕ) → Contains ds f → Waits w f) → all_answers o w (deliveries_to ds) ≡ []
  answers_none [] w T F D W = refl
  answers_none (d ∷ ds) w T F D W =
      ap (λ (xs : List Answer). xs ++ all_answers o (happens o w (Deliver d n)) (deliveries_to ds))
      (answers-told w T d F (W d (Contains-front d ds)))
      ∙ ap (λ (v : World). all_answers o v (deliveries_to ds)) (happens-told w T d F (W d (Contains-front d ds)))
      ∙ answers_none ds (behind w T d) (with_node d T) (fresh_behind w T d F) D.1 (waits_behind w T d ds D.0 W)

  -- each is accepted
  pub played_all : (ds : List ℕ) (w : World) (T : Nodes) → IsFresh w T → AreDistinct ds
      → ((f : ℕ) → Contains ds f → Waits w f) → map (λ (p : Played). p.event) (course o w (deliveries_to ds)) ≡ deliveries_to ds
  played_all [] w T F D W = refl
  played_all (d ∷ ds) w T F D W =
      ap (λ (r : Option Refusal). map (λ (p : Played). p.event)
      ((if is_none r then played o w (Deliver d n) ∷ [] else []) ++ course o (happens o w (Deliver d n)) (deliveries_to ds)))
      (accepts w T d F (W d (Contains-front d ds)))
      ∙ ap (λ (xs : List WorldEvent). Deliver d n ∷ xs)
      (ap (λ (v : World). map (λ (p : Played). p.event) (course o v (deliveries_to ds))) (happens-told w T d F (W d (Contains-front d ds)))
      ∙ played_all ds (behind w T d) (with_node d T) (fresh_behind w T d F) D.1 (waits_behind w T d ds D.0 W))
