-- The rules that move no gate keep the gates.
use Rattle.std.proofs.Common.{ℕ, Bool, true, false, ◌≡◌, ◌==◌, Option, Some, None, List, [], ◌∷◌, ◌++◌, refl, sym, ap, ◌∙◌, subst, inl, inr}
use Rattle.std.specs.Prelude.{◌||◌, fold}
use Rattle.std.proofs.lemmas.Bool.{cases_eq, ne_eqb}
use Rattle.registry_model.specs.Process.{at}
use Rattle.registry_model.specs.History.{Entry, Standing, hold_at, after, standing_of}
use Rattle.registry_model.specs.Legal.{all_legal, IsLegal}
use Rattle.protocol_model.specs.Letter.{Letter}
use Rattle.protocol_model.specs.Node.{Node, Op, Current}
use Rattle.protocol_model.specs.World.{Opening, World, in_cluster, left, join_number}
use Rattle.moves.proofs.Rules
use Rattle.registry_model.proofs.Updates.{at_same}
use Rattle.moves.proofs.Invariants.{Each, is_welcome, current, standing_at, IsWritten, is_write, IsOnItsWay, Replicas}
use Rattle.join_gates.proofs.Made.{entered, entries_made}
use Rattle.join_gates.proofs.Tokens.{Gate, Entering, is_entering, returns, returns_of, returns-append, plain_returns}
use Rattle.join_gates.proofs.Links.{sent_none}
use Rattle.join_gates.proofs.Pasts.{Admitted, touch, have_done, standing_of-append, legal_rest, done_frees}
use Rattle.join_gates.proofs.Gates.{Gates}
use Rattle.join_gates.proofs.Turns.{calm_turn}
use Rattle.join_gates.proofs.Calm.{sends_token, takes_token, turns_node, sends_plain, takes_plain, quietly}

abbrev pub is_leaving : Rules.Rule → Bool
is_leaving Rules.Leaves = true
is_leaving _ = false

abbrev pub is_finish : Rules.Rule → Bool
is_finish (Rules.Finishes op asked awaited reply) = true
is_finish _ = false

abbrev pub is_admission : Rules.Rule → Bool
is_admission (Rules.Admits j pairs r) = true
is_admission _ = false

closed_by-same : (o : Opening) (a : ℕ) (r : Rules.Rule) (v : World) → is_leaving r ≡ false
    → Rules.closed_by o a r v ≡ v
closed_by-same o a Rules.Leaves v e = cc
closed_by-same o a _ v e = refl

closed_by-history : (o : Opening) (a : ℕ) (r : Rules.Rule) (v : World) → (Rules.closed_by o a r v).history ≡ v.history
closed_by-history o a Rules.Leaves v = refl
closed_by-history o a _ v = refl

without_letter-history : (o : Opening) (a : ℕ) (t : Option Rules.Taken) (w : World)
    → (Rules.without_letter o a t w).history ≡ w.history
without_letter-history o a None w = refl
without_letter-history o a (Some t) w = refl

without_letter-node : (o : Opening) (a : ℕ) (t : Option Rules.Taken) (w : World)
    → (Rules.without_letter o a t w).node ≡ w.node
without_letter-node o a None w = refl
without_letter-node o a (Some t) w = refl

closed_by-node : (o : Opening) (a : ℕ) (r : Rules.Rule) (v : World) → (Rules.closed_by o a r v).node ≡ v.node
closed_by-node o a Rules.Leaves v = refl
closed_by-node o a _ v = refl

-- a rule changes its own node alone
pub effect-node : (o : Opening) (a : ℕ) (w : World) (r : Rules.Rule)
    → (Rules.effect o a r w).node ≡ at w.node a (Rules.turn_by o a w r).node
effect-node o a w r = closed_by-node o a r _ ∙ ap (λ (f : ℕ → Node). at f a (Rules.turn_by o a w r).node)
    (without_letter-node o a (Rules.takes o a r) w)

-- and adds its entries to the history
pub effect-history : (o : Opening) (a : ℕ) (w : World) (r : Rules.Rule)
    → (Rules.effect o a r w).history ≡ w.history ++ (Rules.turn_by o a w r).entries
effect-history o a w r = closed_by-history o a r _
    ∙ ap (λ (h : List Entry). h ++ (Rules.turn_by o a w r).entries) (without_letter-history o a (Rules.takes o a r) w)

pub effect-standing : (o : Opening) (a : ℕ) (w : World) (r : Rules.Rule)
    → standing_at o (Rules.effect o a r w) ≡ fold after (standing_at o w) (Rules.turn_by o a w r).entries
effect-standing o a w r = ap (standing_of (in_cluster o)) (effect-history o a w r)
    ∙ standing_of-append (in_cluster o) w.history (Rules.turn_by o a w r).entries

-- its entries are legal, where the history is behind it
pub effect-legal : (o : Opening) (a : ℕ) (w : World) (r : Rules.Rule) → Replicas o (Rules.effect o a r w)
    → all_legal (standing_at o w) (Rules.turn_by o a w r).entries ≡ true
effect-legal o a w r R = legal_rest (in_cluster o) w.history (Rules.turn_by o a w r).entries
    (subst (IsLegal (in_cluster o)) (effect-history o a w r) R.legal)

-- a node that waits for a contact isn't this one, which asks
not_here : (o : Opening) (w : World) (a x k m : ℕ) (op : Op) (r : _) → current o w a ≡ Current.Asking op r
    → current o w x ≡ Current.Joining k m → (x == a) ≡ false
not_here o w a x k m op r here there = ne_eqb x a
    (λ e. absurd (cc (sym here ∙ ap (λ (y : ℕ). (w.node y).current) (sym e) ∙ there)))

-- who is struck is of the node that strikes
strikes_here : (o : Opening) (a : ℕ) (w : World) (p : _) (r : _)
    → Replicas o (Rules.effect o a (Rules.Strikes p r) w) → p.node ≡ a
strikes_here o a w p r R = find (subst (λ (v : Node). IsWritten o
    (Rules.effect o a (Rules.Strikes p r) w) a v.current)
    (at_same w.node a (Rules.turn_by o a w (Rules.Strikes p r)).node) (R.written a))
  where
    find : IsWritten o (Rules.effect o a (Rules.Strikes p r) w) a
        (Rules.turn_by o a w (Rules.Strikes p r)).node.current → p.node ≡ a
    find W = W.3.1

-- the entries of a rule leave alone who waits for a contact, but for an admission
pub clears : (o : Opening) (a : ℕ) (w : World) (r : Rules.Rule) → is_admission r ≡ false → Rules.May o a w r
    → Replicas o (Rules.effect o a r w)
    → (x k m : ℕ) → current o w x ≡ Current.Joining k m → touch (Rules.turn_by o a w r).entries x ≡ false
clears o a w r other M R x k m is = ap (λ (es : List Entry). touch es x)
    (entries_made o a (join_number w) r (w.node a)) ∙ go r other M R
  where
    go : (r : Rules.Rule) → is_admission r ≡ false → Rules.May o a w r → Replicas o (Rules.effect o a r w)
        → touch (entered a (join_number w) r (w.node a)) x ≡ false
    go (Rules.Admits j pairs r) other M R = cc
    go (Rules.Grants i call r) other M R = ap (λ (b : Bool). b || false)
        (not_here o w a x k m (Op.Name i call) r M.tested.0.current is)
    go (Rules.Denies i call r) other M R = ap (λ (b : Bool). b || false)
        (not_here o w a x k m (Op.Name i call) r M.tested.0.current is)
    go (Rules.Strikes p r) other M R = ap (λ (n : ℕ). (x == n) || false) (strikes_here o a w p r R)
        ∙ ap (λ (b : Bool). b || false) (not_here o w a x k m (Op.Strike p) r M.tested.current is)
    go _ other M R = refl

-- no other rule ends an operation
pub not_done : (o : Opening) (a : ℕ) (w : World) (r : Rules.Rule) → is_finish r ≡ false → (m : ℕ)
    → have_done m (Rules.turn_by o a w r).entries ≡ false
not_done o a w r other m = ap (have_done m) (entries_made o a (join_number w) r (w.node a)) ∙ go r other
  where
    go : (r : Rules.Rule) → is_finish r ≡ false → have_done m (entered a (join_number w) r (w.node a)) ≡ false
    go (Rules.Finishes op asked awaited reply) other = cc
    go _ other = refl

-- a rule that moves no gate
pub still : (o : Opening) (a : ℕ) (w : World) (r : Rules.Rule) (gate : ℕ → ℕ → Gate)
    → sends_token r ≡ false → takes_token r ≡ false → turns_node r ≡ false → is_leaving r ≡ false
    → is_admission r ≡ false
    → ((j m : ℕ) → is_entering (gate j m) ≡ true → left w j ≡ false
    → have_done m (Rules.turn_by o a w r).entries ≡ false)
    → Replicas o (Rules.effect o a r w) → Rules.May o a w r → Gates o w gate → Gates o (Rules.effect o a r w) gate
still o a w r gate sends takes turns leaves admits going R M G =
    subst (λ (v : World). Gates o v gate) (sym (closed_by-same o a r _ leaves))
    (calm_turn o a w (Rules.turn_by o a w r) gate (Rules.takes o a r) M.front (takes_plain o a r takes)
    (sends_plain o a (join_number w) r (w.node a) sends)
    (quietly o a w r turns M) (clears o a w r admits M R) (effect-legal o a w r R) going G)

-- a welcome among letters
each_welcome : (P : Letter → Type 0) (ls : List Letter) → returns ls ≡ true ∷ [] → Each P ls
    → (l : Letter) × (is_welcome l ≡ true) × P l
each_welcome P [] e E = cc
each_welcome P (Letter.JoinRefused ∷ ls) e E = cc
each_welcome P (Letter.Welcome members pairs told fate ∷ ls) e E =
    (Letter.Welcome members pairs told fate, refl, E.0)
each_welcome P (_ ∷ ls) e E = each_welcome P ls e E.1

-- at the end of an operation no welcome of it is on its way
pub finish_going : (o : Opening) (a : ℕ) (w : World) (op : Op) (asked awaited : _) (reply : _) (gate : ℕ → ℕ → Gate)
    → Replicas o (Rules.effect o a (Rules.Finishes op asked awaited reply) w) → Gates o w gate
    → (j m : ℕ) → is_entering (gate j m) ≡ true → left w j ≡ false
    → have_done m (Rules.turn_by o a w (Rules.Finishes op asked awaited reply)).entries ≡ false
finish_going o a w op asked awaited reply gate R G j m enters runs =
    ap (have_done m) (entries_made o a (join_number w) r (w.node a)) ∙ elim (cases_eq m a) [
      | inl e ↦ absurd (clash e)
      | inr ne ↦ ap (λ (b : Bool). b || false) (ne_eqb m a ne)
    ]
  where
    r : Rules.Rule
    r = Rules.Finishes op asked awaited reply

    v : World
    v = Rules.effect o a r w

    entering_is : (g : Gate) → is_entering g ≡ true → returns_of g ≡ true ∷ []
    entering_is Entering e = refl
    entering_is _ e = cc

    writes : (l : Letter) → is_welcome l ≡ true → is_write o v l ≡ true
    writes (Letter.Welcome members pairs told fate) e = refl
    writes _ e = cc

    clash : m ≡ a → ⊥
    clash e = none (each_welcome (IsOnItsWay o v m j) (v.links.queue m j) on_link (R.notes m j runs))
      where
        k : ℕ
        k = ((G.facts j m).entering enters runs).0

        A : Admitted (standing_at o w) j k m
        A = ((G.facts j m).entering enters runs).2

        on_link : returns (v.links.queue m j) ≡ true ∷ []
        on_link = sent_none returns returns-append w a (Rules.turn_by o a w r)
            (plain_returns _ (sends_plain o a (join_number w) r (w.node a) refl)) m j
            ∙ G.back j m runs ∙ entering_is (gate j m) enters

        behind : standing_at o v ≡ after (standing_at o w) (Entry.Done m)
        behind = effect-standing o a w r ∙ ap (λ (es : List Entry). fold after (standing_at o w) es)
            (entries_made o a (join_number w) r (w.node a))
            ∙ ap (λ (x : ℕ). after (standing_at o w) (Entry.Done x)) (sym e)

        none : (l : Letter) × (is_welcome l ≡ true) × IsOnItsWay o v m j l → ⊥
        none found = absurd (cc (sym (ap (λ (s : Standing). hold_at s j) behind ∙ done_frees (standing_at o w) j k m A)
            ∙ (found.2 (writes found.0 found.1)).1))
