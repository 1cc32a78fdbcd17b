-- What one grant more or less of what is filed under a key makes of the list of the grants.
use Rattle.std.proofs.Common.{ℕ, false, ◌==◌, ◌≡◌, ◌<◌, ◌≤◌, ◌+◌, ◌-◌, Some, None, List, sym, ap, ◌∙◌, subst, arith}
use Rattle.std.specs.Prelude.{not, filter}
use Rattle.std.specs.Map.{set_value}
use Rattle.registry_model.specs.Process.{Process}
use Rattle.protocol_model.specs.LockTable.{Locks, grant, give_back, last_count}
use Rattle.term.specs.declared.lock_id.LockId.{LockId}
use Rattle.lock_table.specs.Filed.{Entry, IsFiled, held_at, is_key, listed}
use Rattle.lock_table.specs.Grants.{Recounts}
use Rattle.lock_table.specs.Ids.{id_of}
use Rattle.lock_table.specs.declared.grant.Key.{Key}
use Rattle.lock_table.specs.declared.grant.Held.{Held}
use Rattle.lock_table.specs.Index.{is_under}
use Rattle.lock_table.proofs.Changes.{grant-recount, give_back-recount, give_back-filter}
use Rattle.lock_table.proofs.Filing.{key_of, found_under, counted-held, count_in, filed-recount, listed-gone, listed-recount, never-absent, never-other}
use Rattle.lock_table.proofs.Places.{give_back-absent}
use Rattle.lock_table.proofs.Removal.{listed-kept}

module _ (n : ℕ) (m : List Entry) (filed : IsFiled n m) (lock : LockId) (p : Process) (k : Key)
    (under : k ≡ key_of lock p) where
  abbrev Table : Locks
  Table = listed n m

  -- Something is filed there
  module _ (v : Held) (found : Some v ≡ held_at m k) where
    at : held_at m (key_of lock p) ≡ Some v
    at = found_under m lock p k (Some v) under found

    -- in another requester's name
    pub give_back-stranger : (v.requester == lock.requester) ≡ false → Table ≡ give_back (id_of lock) p Table
    give_back-stranger other = sym (give_back-absent (id_of lock) p Table (never-other n m filed lock p v at other))

    module _ (own : v.requester ≡ lock.requester) where
      written : (c : ℕ) (es : List Entry) → Recounts k c m es
          → es ≡ set_value (is_key (key_of lock p)) m (record v { count = c })
      written c es recounts =
          recounts.1 v (sym found) ∙ ap (λ (q : Key). set_value (is_key q) m (record v { count = c })) under

      pub filed-written : (c : ℕ) (es : List Entry) → 1 ≤ c → c ≤ last_count → Recounts k c m es → IsFiled n es
      filed-written c es low high recounts =
          subst (IsFiled n) (sym (written c es recounts)) (filed-recount n m filed lock p v at own c low high)

      pub count_range : (1 ≤ v.count) × (v.count ≤ last_count)
      count_range = count_in n m filed lock p v at own

      pub give_back-less : (es : List Entry) → 1 < v.count → Recounts k (v.count - 1) m es
          → listed n es ≡ give_back (id_of lock) p Table
      give_back-less es more recounts =
          ap (listed n) (written (v.count - 1) es recounts) ∙ listed-recount n m filed lock p v at own (v.count - 1)
          ∙ sym (give_back-recount (id_of lock) p v.count Table filed.sound (counted-held n m filed lock p v at own)
          more)

      pub grant-more : (es : List Entry) → Recounts k (v.count + 1) m es → listed n es ≡ grant (id_of lock) p Table
      grant-more es recounts =
          ap (listed n) (written (v.count + 1) es recounts) ∙ listed-recount n m filed lock p v at own (v.count + 1)
          ∙ sym (grant-recount (id_of lock) p v.count Table filed.sound (counted-held n m filed lock p v at own)
          (omega (arith, count_range.0)))

      pub give_back-under : v.count ≤ 1 → filter (λ g. not (is_under k g)) Table ≡ give_back (id_of lock) p Table
      give_back-under last =
          sym (listed-kept k n m)
          ∙ ap (λ (q : Key). listed n (filter (λ d. not (is_key q d.0)) m)) under
          ∙ listed-gone n m filed lock p v at own
          ∙ sym (give_back-filter (id_of lock) p v.count Table filed.sound (counted-held n m filed lock p v at own)
          last)

  -- Nothing is filed there
  module _ (absent : None ≡ held_at m k) where
    pub give_back-none : give_back (id_of lock) p Table ≡ Table
    give_back-none =
        give_back-absent (id_of lock) p Table
        (never-absent n m filed lock p (found_under m lock p k None under absent))
