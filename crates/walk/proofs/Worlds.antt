-- One turn after another at the same node, and turns before and after a letter is taken.
use Rattle.std.proofs.Common.{ℕ, Bool, true, false, ◌==◌, ◌≡◌, List, [], ◌∷◌, ◌++◌, refl, sym, ap, ◌∙◌}
use Rattle.std.specs.Prelude.{not, ◌&&◌, if◌then◌else◌, drop}
use Rattle.std.proofs.lemmas.List.{append-nil, append_assoc}
use Rattle.std.proofs.Math.Path.{fun_ext}
use Rattle.registry_model.specs.Process.{Nodes, at}
use Rattle.registry_model.specs.History.{Entry}
use Rattle.protocol_model.specs.Letter.{Letter}
use Rattle.protocol_model.specs.Links.{Links, posted}
use Rattle.protocol_model.specs.Event.{Answer}
use Rattle.protocol_model.specs.Node.{Node}
use Rattle.protocol_model.specs.Turn.{Send, Turn, begun, sent_to}
use Rattle.protocol_model.specs.World.{World, Deliver, apply, letter_taken}
use Rattle.registry_model.proofs.Updates.{by_test}
use Rattle.moves.proofs.Sends.{sent_to-append}

-- a turn, and then one more from its node
abbrev pub onto : Turn → Turn → Turn
onto u v =
    record {
      node = v.node;
      sends = u.sends ++ v.sends;
      entries = u.entries ++ v.entries;
      answers =
          u.answers ++ v.answers;
    }

-- two turns with the same parts are one
pub same_turn : (u v : Turn) → u.node ≡ v.node → u.sends ≡ v.sends → u.entries ≡ v.entries → u.answers ≡ v.answers
    → u ≡ v
same_turn u v p q r s =
    ap (λ (x : Node). record u { node = x }) p
    ∙ ap (λ (x : List Send). record u { node = v.node; sends = x }) q
    ∙ ap (λ (x : List Entry). record v { entries = x; answers = u.answers }) r
    ∙ ap (λ (x : List Answer). record v { answers = x }) s

-- two worlds with the same parts are one
pub same_world : (w x : World) → w.node ≡ x.node → w.links ≡ x.links → w.history ≡ x.history → w ≡ x
same_world w x p q r =
    ap (λ (y : ℕ → Node). record w { node = y }) p
    ∙ ap (λ (y : Links Letter). record x { links = y; history = w.history }) q
    ∙ ap (λ (y : List Entry). record x { history = y }) r

-- links with the same queues and the same closed nodes are one
pub same_links : (w x : Links Letter) → ((f t : ℕ) → w.queue f t ≡ x.queue f t) → w.closed ≡ x.closed → w ≡ x
same_links w x p q =
    ap (λ (y : ℕ → ℕ → List Letter). record w { queue = y }) (fun_ext (λ f. fun_ext (p f)))
    ∙ ap (λ (y : Nodes). record x { closed = y }) q

-- a second write at the same index wins
pub at-twice : {A : Type 0} (f : ℕ → A) (a : ℕ) (u v : A) → at (at f a u) a v ≡ at f a v
at-twice f a u v = fun_ext (λ x. go x (x == a))
  where
    go : (x : ℕ) (t : Bool) → (if t then v else (if t then u else f x)) ≡ (if t then v else f x)
    go x true = refl
    go x false = refl

-- what stands at an index is written there again
pub at-itself : {A : Type 0} (f : ℕ → A) (a : ℕ) → at f a (f a) ≡ f
at-itself f a = fun_ext (by_test a (λ x t. (if t then f a else f x) ≡ f x) refl (λ x ne. refl))

-- a turn begun changes nothing
pub apply-begun : (a : ℕ) (w : World) → apply a (begun (w.node a)) w ≡ w
apply-begun a w = same_world (apply a (begun (w.node a)) w) w (at-itself w.node a)
    (same_links (apply a (begun (w.node a)) w).links w.links (λ f t. go f t (f == a && not (w.links.closed t))) refl)
    (append-nil w.history)
  where
    go : (f t : ℕ) (b : Bool) → (if b then w.links.queue f t ++ [] else w.links.queue f t) ≡ w.links.queue f t
    go f t true = append-nil (w.links.queue f t)
    go f t false = refl

-- one turn after another is one turn of both
pub apply-onto : (a : ℕ) (u v : Turn) (w : World) → apply a v (apply a u w) ≡ apply a (onto u v) w
apply-onto a u v w = same_world (apply a v (apply a u w)) (apply a (onto u v) w)
    (at-twice w.node a u.node v.node)
    (same_links (apply a v (apply a u w)).links (apply a (onto u v) w).links
    (λ f t. go f t (f == a && not (w.links.closed t)))
    refl)
    (append_assoc w.history u.entries v.entries)
  where
    go : (f t : ℕ) (b : Bool)
        → (if b then (if b then w.links.queue f t ++ sent_to t u.sends else w.links.queue f t) ++ sent_to t v.sends
        else (if b then w.links.queue f t ++ sent_to t u.sends else w.links.queue f t))
        ≡ (if b then w.links.queue f t ++ sent_to t (u.sends ++ v.sends) else w.links.queue f t)
    go f t true = append_assoc (w.links.queue f t) (sent_to t u.sends) (sent_to t v.sends)
        ∙ ap (λ (ls : List Letter). w.links.queue f t ++ ls) (sym (sent_to-append t u.sends v.sends))
    go f t false = refl

-- the oldest letter of a link can be taken before or after a turn
pub opened-apply : (a f : ℕ) (u : Turn) (w : World) (l : Letter) (rest : List Letter) → w.links.queue f a ≡ l ∷ rest
    → letter_taken (Deliver f a) (apply a u w) ≡ apply a u (letter_taken (Deliver f a) w)
opened-apply a f u w l rest e =
    same_world (letter_taken (Deliver f a) (apply a u w)) (apply a u (letter_taken (Deliver f a) w)) refl
    (same_links (letter_taken (Deliver f a) (apply a u w)).links (apply a u (letter_taken (Deliver f a) w)).links
    (λ x y. by_test f
    (λ z t. (if t && (y == a) then drop 1 ((posted a (λ c. sent_to c u.sends) w.links).queue z y)
    else (posted a (λ c. sent_to c u.sends) w.links).queue z y)
    ≡ (if z == a && not (w.links.closed y)
    then (if t && (y == a) then drop 1 (w.links.queue z y) else w.links.queue z y) ++ sent_to y u.sends
    else (if t && (y == a) then drop 1 (w.links.queue z y) else w.links.queue z y)))
    (by_test a
    (λ z t. (if t then drop 1 ((posted a (λ c. sent_to c u.sends) w.links).queue f z)
    else (posted a (λ c. sent_to c u.sends) w.links).queue f z)
    ≡ (if f == a && not (w.links.closed z)
    then (if t then drop 1 (w.links.queue f z) else w.links.queue f z) ++ sent_to z u.sends
    else (if t then drop 1 (w.links.queue f z) else w.links.queue f z)))
    (here (f == a && not (w.links.closed a)) (w.links.queue f a) e)
    (λ z ne. refl) y)
    (λ z ne. refl) x)
    refl)
    refl
  where
    here : (b : Bool) (ls : List Letter) → ls ≡ l ∷ rest
        → drop 1 (if b then ls ++ sent_to a u.sends else ls) ≡ (if b then drop 1 ls ++ sent_to a u.sends else drop 1 ls)
    here true [] q = cc
    here true (m ∷ ls) q = refl
    here false ls q = refl

-- the oldest letter of a link is still the oldest after a turn
pub stays_front : (a f : ℕ) (u : Turn) (w : World) (l : Letter) (rest : List Letter) → w.links.queue f a ≡ l ∷ rest
    → (more : List Letter) × ((apply a u w).links.queue f a ≡ l ∷ more)
stays_front a f u w l rest e = go (f == a && not (w.links.closed a))
  where
    go : (b : Bool) → (more : List Letter)
        × ((if b then w.links.queue f a ++ sent_to a u.sends else w.links.queue f a) ≡ l ∷ more)
    go true = (rest ++ sent_to a u.sends, ap (λ (ls : List Letter). ls ++ sent_to a u.sends) e)
    go false = (rest, e)
