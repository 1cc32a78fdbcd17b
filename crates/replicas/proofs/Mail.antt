-- Letters that carry operations out, and what each makes of a replica.
use Rattle.std.proofs.Common.{ℕ, Bool, true, false, ◌≡◌, ◌==◌, refl, sym, ap, ◌∙◌, List, [], ◌∷◌}
use Rattle.std.specs.Prelude.{if◌then◌else◌, not, ◌&&◌, ◌||◌, fold}
use Rattle.std.proofs.Math.Path.{ap₂, fun_ext}
use Rattle.std.proofs.lemmas.Bool.{eqb-true, eq-eqb}
use Rattle.registry_model.specs.Process.{Text, Nodes, at}
use Rattle.registry_model.specs.Table.{Table, is_rising, put, remove, without, Change, Put, Remove, StrikeOwner, changed}
use Rattle.registry_model.specs.Registry.{Replica}
use Rattle.registry_model.specs.Settlement.{Notice, Fate, Settled}
use Rattle.registry_model.proofs.Tables.{without-remove, without-strike, without-put, is_rising-changed, without-at}
use Rattle.protocol_model.specs.Letter.{Letter}
use Rattle.protocol_model.specs.Node.{unless_told, wrote}
use Rattle.moves.proofs.Invariants.{is_welcome}
use Rattle.protocol_model.specs.Reading.{with_member, wrote_all, noted, admitted, joined_with, welcomed, bereft}
use Rattle.moves.proofs.Writes.{wrote_all-keeps}

-- a letter that carries an operation out
abbrev pub carries : Letter → Bool
carries (Letter.Apply change) = true
carries (Letter.Admit j settled) = true
carries (Letter.Welcome members pairs told fate) = true
carries _ = false

-- the answer to it
abbrev pub is_applied : Letter → Bool
is_applied Letter.Applied = true
is_applied _ = false

-- what it makes of the replica of node c
abbrev pub carried : ℕ → Letter → Replica → Replica
carried c (Letter.Apply change) v = wrote change v
carried c (Letter.Admit j settled) v = admitted c j settled v
carried c (Letter.Welcome members pairs told fate) v = welcomed c members pairs told fate v
carried c _ v = v

-- a replica is told by its parts
same_replica : {t s : Table} {m k : Nodes} (told : Nodes) (joined : Bool) (notices : ℕ → List Notice) → t ≡ s → m ≡ k
    → ◌≡◌ {A = Replica} (record { table = t; members = m; told = told; joined = joined; notices = notices })
    (record { table = s; members = k; told = told; joined = joined; notices = notices })
same_replica told joined notices e f = ap₂ (λ (t : Table) (m : Nodes). let v : Replica =
    record { table = t; members = m; told = told; joined = joined; notices = notices } in v) e f

-- less d, a table is written as if d were told
without-written : (d : ℕ) (told : Nodes) (ch : Change) (t : Table) → is_rising t ≡ true
    → changed (unless_told (at told d true) ch) (without (λ c. c == d) t)
    ≡ without (λ c. c == d) (changed (unless_told told ch) t)
without-written d told (Put new) t r =
    go (told new.owner.node) (new.owner.node == d) (without-put (λ c. c == d) new t r)
  where
    go : (b c : Bool) → without (λ c. c == d) (put new t)
        ≡ (if c then remove new.name (without (λ c. c == d) t) else put new (without (λ c. c == d) t))
        → changed (if (if c then true else b) then Remove new.name else Put new) (without (λ c. c == d) t)
        ≡ without (λ c. c == d) (changed (if b then Remove new.name else Put new) t)
    go true true e = sym (without-remove (λ c. c == d) new.name t)
    go true false e = sym (without-remove (λ c. c == d) new.name t)
    go false true e = sym e
    go false false e = sym e
without-written d told (Remove x) t r = sym (without-remove (λ c. c == d) x t)
without-written d told (StrikeOwner p) t r = sym (without-strike (λ c. c == d) p t)

wrote-bereft : (d : ℕ) (ch : Change) (v : Replica) → is_rising v.table ≡ true
    → wrote ch (bereft d v) ≡ bereft d (wrote ch v)
wrote-bereft d ch v r = same_replica (at v.told d true) v.joined v.notices (without-written d v.told ch v.table r) refl

-- one node more is told
pub members-at : (s told : Nodes) (d : ℕ)
    → ◌≡◌ {A = Nodes} (λ c. s c && not (at told d true c)) (at (λ c. s c && not (told c)) d false)
members-at s told d = fun_ext (λ c. go (c == d) (s c) (told c))
  where
    go : (b m t : Bool) → (m && not (if b then true else t)) ≡ (if b then false else m && not t)
    go true true t = refl
    go true false t = refl
    go false m t = refl

with_member-bereft : (d j : ℕ) (v : Replica) → with_member j (bereft d v) ≡ bereft d (with_member j v)
with_member-bereft d j v = go (v.told j) (j == d) refl
  where
    both_told : (x : ℕ) (b c : Bool) → c ≡ b
        → (if b then false else v.members x) ≡ (if b then false else (if c then true else v.members x))
    both_told x true c e = refl
    both_told x false true e = cc
    both_told x false false e = refl

    apart : (x : ℕ) (b c : Bool) → (b ≡ true → c ≡ true → ⊥)
        → (if c then true else (if b then false else v.members x))
        ≡ (if b then false else (if c then true else v.members x))
    apart x true true n = absurd (n refl refl)
    apart x true false n = refl
    apart x false true n = refl
    apart x false false n = refl

    go : (b c : Bool) → (j == d) ≡ c → (if (if c then true else b) then bereft d v else record (bereft d v)
        { members = at (at v.members d false) j true })
        ≡ bereft d (if b then v else record v { members = at v.members j true })
    go true true e = refl
    go true false e = refl
    go false true e = same_replica (at v.told d true) v.joined v.notices refl
        (fun_ext (λ x. both_told x (x == d) (x == j) (ap (λ (y : ℕ). x == y) (eqb-true j d e))))
    go false false e = same_replica (at v.told d true) v.joined v.notices refl
        (fun_ext (λ x. apart x (x == d) (x == j)
        (λ i k. absurd (cc (eq-eqb j d (sym (eqb-true x j k) ∙ eqb-true x d i), e)))))

-- names that are put one after another
pub puts-bereft : (d : ℕ) (puts : Table) (v : Replica) → is_rising v.table ≡ true
    → fold (λ x e. wrote (Put e) x) (bereft d v) puts
    ≡ bereft d (fold (λ x e. wrote (Put e) x) v puts)
puts-bereft d [] v r = refl
puts-bereft d (e ∷ puts) v r = ap (λ (x : Replica). fold (λ x e. wrote (Put e) x) x puts)
    (wrote-bereft d (Put e) v r)
    ∙ puts-bereft d puts (wrote (Put e) v)
    (is_rising-changed (unless_told v.told (Put e)) v.table r)

-- names that are removed one after another
removes-bereft : (d : ℕ) (xs : List Text) (v : Replica)
    → fold (λ x y. wrote (Remove y) x) (bereft d v) xs
    ≡ bereft d (fold (λ x y. wrote (Remove y) x) v xs)
removes-bereft d [] v = refl
removes-bereft d (y ∷ xs) v = ap (λ (x : Replica). fold (λ x y. wrote (Remove y) x) x xs)
    (same_replica (at v.told d true) v.joined v.notices (sym (without-remove (λ c. c == d) y v.table)) refl)
    ∙ removes-bereft d xs (wrote (Remove y) v)

wrote_all-bereft : (d : ℕ) (settled : Settled) (v : Replica) → is_rising v.table ≡ true
    → wrote_all settled (bereft d v) ≡ bereft d (wrote_all settled v)
wrote_all-bereft d settled v r =
    ap (λ (x : Replica). fold (λ x y. wrote (Remove y) x) x settled.removes) (puts-bereft d settled.puts v r)
    ∙ removes-bereft d settled.removes (fold (λ x e. wrote (Put e) x) v settled.puts)

admitted-bereft : (d a j : ℕ) (settled : Settled) (v : Replica) → is_rising v.table ≡ true
    → admitted a j settled (bereft d v) ≡ bereft d (admitted a j settled v)
admitted-bereft d a j settled v r = ap (λ (x : Replica). noted a settled.fate (wrote_all settled x))
    (with_member-bereft d j v)
    ∙ ap (noted a settled.fate) (wrote_all-bereft d settled (with_member j v) (go (v.told j)))
  where
    go : (b : Bool) → is_rising (if b then v else record v { members = at v.members j true }).table ≡ true
    go true = r
    go false = r

welcomed-bereft : (d a : ℕ) (members : Nodes) (pairs : Table) (told : Nodes) (fate : Fate) (v : Replica)
    → welcomed a members pairs told fate (bereft d v) ≡ bereft d (welcomed a members pairs told fate v)
welcomed-bereft d a members pairs told fate v =
    ap (λ (gone : Nodes). noted a fate (joined_with members pairs gone v))
    (fun_ext (λ c. go (c == d) (v.told c) (told c)))
    ∙ same_replica (at gone d true) true (noted a fate v).notices (without-at gone d pairs) (members-at members gone d)
  where
    gone : Nodes
    gone c = v.told c || told c

    go : (b t u : Bool) → ((if b then true else t) || u) ≡ (if b then true else t || u)
    go true t u = refl
    go false t u = refl

-- what a letter carries out and a departure may change places
pub carried-bereft : (a : ℕ) (l : Letter) (d : ℕ) (v : Replica) → is_rising v.table ≡ true
    → carried a l (bereft d v) ≡ bereft d (carried a l v)
carried-bereft a (Letter.Apply change) d v r = wrote-bereft d change v r
carried-bereft a (Letter.Admit j settled) d v r = admitted-bereft d a j settled v r
carried-bereft a (Letter.Welcome members pairs told fate) d v r = welcomed-bereft d a members pairs told fate v
carried-bereft a _ d v r = refl

-- only a welcome changes whether a node is joined: a letter that is none leaves it
pub carried-joined : (a : ℕ) (l : Letter) (v : Replica) → carries l ≡ true → is_welcome l ≡ false
    → (carried a l v).joined ≡ v.joined
carried-joined a (Letter.Apply change) v e f = refl
carried-joined a (Letter.Admit j settled) v e f = (wrote_all-keeps settled (with_member j v)).joined ∙ go (v.told j)
  where
    go : (b : Bool) → (if b then v else record v { members = at v.members j true }).joined ≡ v.joined
    go true = refl
    go false = refl
carried-joined a (Letter.Welcome members pairs told fate) v e f = cc
carried-joined a _ v e f = cc
