-- A granted join: what the joiner shows after it, what the other joined nodes show, and what lone nodes show.
use Rattle.std.proofs.Common.{ℕ, Bool, true, false, ◌==◌, ◌≡◌, List, [], ◌∷◌, ◌++◌, refl, sym, subst, ap, ◌∙◌}
use Rattle.std.specs.Prelude.{if◌then◌else◌, not, ◌&&◌, ◌||◌, fold}
use Rattle.std.proofs.Math.Path.{ap₂, fun_ext}
use Rattle.std.proofs.lemmas.List.{append-nil}
use Rattle.std.proofs.lemmas.Bool.{eqb-true}
use Rattle.std.proofs.Math.Bool.{and-false}
use Rattle.registry_model.specs.Process.{Text, Nodes, at}
use Rattle.registry_model.specs.Table.{Table, is_rising, put, put_all, remove, remove_all, without, Put, Remove, changed}
use Rattle.registry_model.specs.Settlement.{Notice, notices_to, Settled, with_settled}
use Rattle.registry_model.specs.Registry.{Registry, view, members, process_of, Replica, replica_of, with_joiner}
use Rattle.registry_model.proofs.Rising.{Rises}
use Rattle.registry_model.proofs.Tables.{without-without, without_agree, without-remove, is_rising-put, is_rising-without}
use Rattle.protocol_model.specs.Node.{unless_told, wrote}
use Rattle.protocol_model.specs.Reading.{wrote_all, noted, admitted, joined_with, welcomed}
use Rattle.registry_model.proofs.Updates.{at_same, at_other}
use Rattle.replicas.proofs.Writes.{with_rows, without-changed}

-- tables that are one without some nodes stay so while names are put
without-puts : (gone : Nodes) (puts s t : Table) → is_rising s ≡ true → is_rising t ≡ true
    → without gone s ≡ without gone t
    → without gone (put_all puts s) ≡ without gone (put_all puts t)
without-puts gone [] s t rs rt e = e
without-puts gone (p ∷ puts) s t rs rt e = without-puts gone puts (put p s) (put p t)
    (is_rising-put p s rs) (is_rising-put p t rt)
    (without-changed gone (Put p) s rs ∙ ap (changed (unless_told gone (Put p))) e
    ∙ sym (without-changed gone (Put p) t rt))

-- and while names are removed
without-removes : (gone : Nodes) (xs : List Text) (s t : Table) → without gone s ≡ without gone t
    → without gone (remove_all xs s) ≡ without gone (remove_all xs t)
without-removes gone [] s t e = e
without-removes gone (x ∷ xs) s t e = without-removes gone xs (remove x s) (remove x t)
    (without-remove gone x s ∙ ap (remove x) e ∙ sym (without-remove gone x t))

-- what was told on the way need not be put aside before
without-put_all : (f g : Nodes) (puts t : Table) → is_rising t ≡ true
    → without (λ d. g d || f d) (put_all puts (without f t)) ≡ without (λ d. g d || f d) (put_all puts t)
without-put_all f g puts t r = without-puts (λ d. g d || f d) puts (without f t) t (is_rising-without f t r) r
    (without-without (λ d. g d || f d) f t ∙ without_agree (λ d. f d || (g d || f d)) (λ d. g d || f d)
    (λ d. go (f d) (g d)) t)
  where
    go : (b c : Bool) → (b || (c || b)) ≡ (c || b)
    go true true = refl
    go true false = refl
    go false c = refl

-- the same of a settlement
pub without-settled : (f g : Nodes) (s : Settled) (t : Table) → is_rising t ≡ true
    → without (λ d. g d || f d) (with_settled s (without f t)) ≡ without (λ d. g d || f d) (with_settled s t)
without-settled f g s t r = without-removes (λ d. g d || f d) s.removes (put_all s.puts (without f t))
    (put_all s.puts t) (without-put_all f g s.puts t r)

-- names are put one after another by the rule Write
puts-written : (puts t : Table) (v : Replica) → is_rising t ≡ true
    → fold (λ x e. wrote (Put e) x) (with_rows v (without v.told t)) puts ≡ with_rows v (without v.told (put_all puts t))
puts-written [] t v r = refl
puts-written (p ∷ puts) t v r =
    ap (λ (u : Table). fold (λ x e. wrote (Put e) x) (with_rows v u) puts) (sym (without-changed v.told (Put p) t r))
    ∙ puts-written puts (put p t) v (is_rising-put p t r)

-- and removed
removes-written : (xs : List Text) (t : Table) (v : Replica)
    → fold (λ x y. wrote (Remove y) x) (with_rows v (without v.told t)) xs
    ≡ with_rows v (without v.told (remove_all xs t))
removes-written [] t v = refl
removes-written (y ∷ xs) t v =
    ap (λ (u : Table). fold (λ x y. wrote (Remove y) x) (with_rows v u) xs) (sym (without-remove v.told y t))
    ∙ removes-written xs (remove y t) v

-- so is what was settled
settled-written : (s : Settled) (t : Table) (v : Replica) → is_rising t ≡ true
    → wrote_all s (with_rows v (without v.told t)) ≡ with_rows v (without v.told (with_settled s t))
settled-written s t v r = ap (λ (x : Replica). fold (λ x y. wrote (Remove y) x) x s.removes)
    (puts-written s.puts t v r)
    ∙ removes-written s.removes (put_all s.puts t) v

-- what the processes of c were sent, by serial
abbrev notices_at : Registry → ℕ → ℕ → List Notice
notices_at r c serial = r.notices (process_of c serial)

-- what c shows where these are joined, and it is one of them and was told that those have left
abbrev joined_less : Nodes → Table → Nodes → (ℕ → List Notice) → Replica
joined_less joined table gone notices = record {
  table = without gone table;
  members = λ x. joined x && not (gone x);
  told = gone;
  joined = true;
  notices = notices;
}

abbrev lone_less : ℕ → Table → Nodes → (ℕ → List Notice) → Replica
lone_less c table gone notices = record {
  table = without gone table;
  members = λ x. (x == c) && not (gone x);
  told = gone;
  joined = false;
  notices = notices;
}

-- a joined node shows the cluster
pub replica_of-joined : (r : Registry) (c : ℕ) → r.joined c ≡ true
    → replica_of r c ≡ joined_less r.joined r.table (r.told c) (notices_at r c)
replica_of-joined r c j = ap (λ (b : Bool). let v : Replica =
    record {
      table = without (r.told c) (if b then r.table else r.lone c);
      members =
          λ x. (if b then r.joined x else x == c) && not (r.told c x);
      told = r.told c;
      joined = b;
      notices = notices_at r c;
    } in v) j

-- a lone node shows itself
pub replica_of-lone : (r : Registry) (c : ℕ) → r.joined c ≡ false
    → replica_of r c ≡ lone_less c (r.lone c) (r.told c) (notices_at r c)
replica_of-lone r c j = ap (λ (b : Bool). let v : Replica =
    record {
      table = without (r.told c) (if b then r.table else r.lone c);
      members =
          λ x. (if b then r.joined x else x == c) && not (r.told c x);
      told = r.told c;
      joined = b;
      notices = notices_at r c;
    } in v) j

-- one member more
admitted-joined : (a j : ℕ) (joined : Nodes) (s : Settled) (table : Table) (told : Nodes) (notices : ℕ → List Notice)
    → is_rising table ≡ true
    → admitted a j s (joined_less joined table told notices)
    ≡ joined_less (at joined j true) (with_settled s table) told
    (λ serial. notices serial ++ notices_to (process_of a serial) s.fate.notices)
admitted-joined a j joined s table told notices r = go (told j) refl
  where
    -- one that is told isn't a member
    absent : (x : ℕ) (b : Bool) → (b ≡ true → told x ≡ true)
        → (joined x && not (told x)) ≡ ((if b then true else joined x) && not (told x))
    absent x true h = rw (h refl) (and-false (joined x))
    absent x false h = refl

    present : (x : ℕ) (b : Bool) → (b ≡ true → told x ≡ false)
        → (if b then true else joined x && not (told x)) ≡ ((if b then true else joined x) && not (told x))
    present x true h = rw (h refl) refl
    present x false h = refl

    of : (b : Bool) → told j ≡ b → (x : ℕ) → (x == j) ≡ true → told x ≡ b
    of b e x i = subst (λ (y : ℕ). told y ≡ b) (sym (eqb-true x j i)) e

    -- what is shown with these members, before and after
    before : Nodes → Replica
    before m = record { table = without told table; members = m; told = told; joined = true; notices = notices }

    with : Nodes → Replica
    with m = record {
      table = without told (with_settled s table);
      members = m;
      told = told;
      joined = true;
      notices = λ serial. notices serial ++ notices_to (process_of a serial) s.fate.notices;
    }

    go : (b : Bool) → told j ≡ b → noted a s.fate (wrote_all s
        (if b then joined_less joined table told notices else record (joined_less joined table told notices)
        { members = at (λ x. joined x && not (told x)) j true }))
        ≡ joined_less (at joined j true) (with_settled s table) told
        (λ serial. notices serial ++ notices_to (process_of a serial) s.fate.notices)
    go true e = ap (noted a s.fate) (settled-written s table (before (λ x. joined x && not (told x))) r)
        ∙ ap with (fun_ext (λ x. absent x (x == j) (of true e x)))
    go false e = ap (noted a s.fate) (settled-written s table (before (at (λ x. joined x && not (told x)) j true)) r)
        ∙ ap with (fun_ext (λ x. present x (x == j) (of false e x)))

module _ (r : Registry) (j m : ℕ) (s : Settled) (R : Rises r) where
  abbrev q : Registry
  q = with_joiner j m s r

  -- a joined node that admits the joiner shows the join
  pub replica_of-admitted : (c : ℕ) → r.joined c ≡ true → (c ≡ j → ⊥)
      → replica_of (with_joiner j m s r) c ≡ admitted c j s (replica_of r c)
  replica_of-admitted c k ne = replica_of-joined q c (at_other r.joined j true c ne ∙ k)
      ∙ ap (λ (gone : Nodes). joined_less (at r.joined j true) (with_settled s r.table) gone (notices_at q c))
      (at_other r.told j (λ d. r.told j d || r.told m d) c ne)
      ∙ sym (admitted-joined c j r.joined s r.table (r.told c) (notices_at r c) R.table)
      ∙ ap (admitted c j s) (sym (replica_of-joined r c k))

  -- the joiner that is welcomed with what its contact shows shows the join
  pub replica_of-welcomed : r.joined m ≡ true
      → replica_of (with_joiner j m s r) j
      ≡ welcomed j (at (members r m) j true) (with_settled s (view r m)) (r.told m) s.fate (replica_of r j)
  replica_of-welcomed k = replica_of-joined q j (at_same r.joined j true)
      ∙ ap (λ (gone : Nodes). joined_less (at r.joined j true) (with_settled s r.table) gone (notices_at q j))
      (at_same r.told j gone)
      ∙ ap₂ (λ (t : Table) (ms : Nodes). let v : Replica =
      record { table = t; members = ms; told = gone; joined = true; notices = notices_at q j } in v)
      (sym (without-settled (r.told m) (r.told j) s r.table R.table))
      (fun_ext (λ x. go (x == j) (r.joined x) (r.told m x) (r.told j x)))
      ∙ ap (λ (b : Bool). noted j s.fate (joined_with
      (at (λ x. (if b then r.joined x else x == m) && not (r.told m x)) j true)
      (with_settled s (without (r.told m) (if b then r.table else r.lone m))) gone (replica_of r j))) (sym k)
    where
      gone : Nodes
      gone d = r.told j d || r.told m d

      go : (b k t u : Bool) → ((if b then true else k) && not (u || t))
          ≡ ((if b then true else k && not t) && not (u || t))
      go true k t u = refl
      go false true true true = refl
      go false true true false = refl
      go false true false u = refl
      go false false t u = refl

  -- a lone node that doesn't join shows nothing of it where its processes are told nothing
  pub replica_of-apart : (c : ℕ) → r.joined c ≡ false → (c ≡ j → ⊥)
      → ((serial : ℕ) → notices_to (process_of c serial) s.fate.notices ≡ [])
      → replica_of (with_joiner j m s r) c ≡ replica_of r c
  replica_of-apart c k ne untold = replica_of-lone q c (at_other r.joined j true c ne ∙ k)
      ∙ ap (λ (t : Table). lone_less c t (q.told c) (notices_at q c)) (at_other r.lone j [] c ne)
      ∙ ap₂ (lone_less c (r.lone c)) (at_other r.told j (λ d. r.told j d || r.told m d) c ne)
      (fun_ext (λ serial. ap (λ (ns : List Notice). r.notices (process_of c serial) ++ ns) (untold serial)
      ∙ append-nil (r.notices (process_of c serial))))
      ∙ sym (replica_of-lone r c k)
