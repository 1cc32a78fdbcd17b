-- What a loop owes its readers is taken, and the moment at which it stands then may be written down.
use Rattle.std.proofs.Common.{◌≡◌, ◌<◌, ℕ, false, List, [], ◌∷◌, ◌++◌, Some, None, refl, ap, sym, ◌∙◌, subst, inl, inr, arith}
use Rattle.node_loop.specs.declared.edit.Edition.{Edition}
use Rattle.node_loop.specs.declared.edit.Note.{Note}
use Rattle.node_loop.specs.declared.edit.Note.TheVariants.{Nothing, Whole}
use Rattle.node_loop.specs.declared.edit.Update.{Update}
use Rattle.node_loop.specs.Held.{Looping}
use Rattle.node_loop.specs.Coming.{IsLoopOf, HandsOver}
use Rattle.node_loop.specs.Owing.{shown_by, LeadsTo, Owes, TakesUpdate}
use Rattle.node_books.specs.declared.moment.Moment.{Moment}
use Rattle.node_books.specs.Onward.{ComesFrom, ShowsMore}
use Rattle.node_books.specs.Moments.{moment, Follows, last_from, shown_at}
use Rattle.node_books.proofs.Onward.{comes_by, comes_on, comes_from_itself, loop_on, logs_only_grow}
use Rattle.node_books.proofs.Owing.{owed_is_more, taken_is_more}
use Rattle.node_books.proofs.Rising.{last_snoc}

-- its loop is that of its own node still
pub own_on : (a b : Looping) → IsLoopOf a.log.node a → ComesFrom a b → IsLoopOf b.log.node b
own_on a b is h = subst (λ (n : ℕ). IsLoopOf n b) (sym (logs_only_grow a b h).node) (loop_on a.log.node a b is h)

-- the moments are followed by whatever the loop comes to, as long as it owes what it shows since
pub follows_on : (ms : List Moment) (a b : Looping) → Follows ms a → ComesFrom a b → Owes b (shown_at ms) → Follows ms b
follows_on [] a b f h owes = own_on a b f h
follows_on (m ∷ ms) a b f h owes = (comes_on (last_from m ms).node a b f.0 h, owed_is_more (last_from m ms).node b owes)

pub by_handing_over : (a b : Looping) → HandsOver a b → ComesFrom a b
by_handing_over a b h = comes_by a a b (comes_from_itself a) (inr (inr h))

pub hands_nothing : (a b : Looping) → b ≡ a → HandsOver a b
hands_nothing a b is = subst (λ (x : Looping). x ≡ record a { owed = record a.owed { note = x.owed.note } }) (sym is) refl

-- whatever is noted then, the loop has handed over alone
handed : (a b : Looping) (n : Note) → b ≡ record a { owed = record a.owed { note = n } } → HandsOver a b
handed a b n is = is ∙ ap (λ (m : Note). record a { owed = record a.owed { note = m } }) (sym (ap (λ (l : Looping). l.owed.note) is))

-- where an update was taken
module _ (a b : Looping) (u : Update) (taken : TakesUpdate (Some u) a b) where
  pub took : HandsOver a b
  took = handed a b Nothing taken.0

  pub took_follows : (ms : List Moment) → Follows ms a → Owes a (shown_at ms) → Follows ms b
  took_follows [] f owes = own_on a b f (by_handing_over a b took)
  took_follows (m ∷ ms) f owes = (
    comes_on (last_from m ms).node a b f.0 (by_handing_over a b took),
    taken_is_more (last_from m ms).node a b (Some u) owes taken,
  )

  -- it owes nothing then
  pub owes_nothing : (e : Edition) → Owes a e → Owes b (shown_by b)
  owes_nothing e owes = subst (λ (l : Looping). Owes l (shown_by l)) (sym taken.0) (record { world = owes.world; length = owes.length; leads = refl })

  -- where it can't be shown, all is owed
  module _ (c : Looping) (whole : c ≡ record b { owed = record b.owed { note = Whole } }) where
    from_start : c ≡ record a { owed = record a.owed { note = Whole } }
    from_start = whole ∙ ap (λ (l : Looping). record l { owed = record l.owed { note = Whole } }) taken.0

    pub owed_whole : HandsOver a c
    owed_whole = handed a c Whole from_start

    pub owes_whole : (e : Edition) → Owes a e → Owes c e
    owes_whole e owes =
        let up = taken.2 e owes in
        let same : shown_by b ≡ shown_by a = ap shown_by taken.0 in
        subst (λ (l : Looping). Owes l e) (sym from_start) (record {
          world = owes.world;
          length = owes.length;
          leads = (ap (λ (f : Edition). f.node) (up.0 ∙ same), omega (arith, up.1, taken.1));
        })

-- the moment is the last one
pub shown_behind : (ms : List Moment) (b : Looping) → shown_at (ms ++ moment false b ∷ []) ≡ shown_by b
shown_behind [] b = refl
shown_behind (m ∷ ms) b = ap (λ (k : Moment). shown_by k.node) (last_snoc m ms (moment false b))

pub follows_behind : (ms : List Moment) (b : Looping) → Follows (ms ++ moment false b ∷ []) b
follows_behind [] b = (comes_from_itself b, inl refl)
follows_behind (m ∷ ms) b = subst (λ (k : Moment). ComesFrom k.node b × ShowsMore k.node b) (sym (last_snoc m ms (moment false b)))
    (comes_from_itself b, inl refl)

-- nothing was owed
pub nothing_more : (a b : Looping) (e : Edition) → TakesUpdate None a b → Owes a e → e ≡ shown_by b
nothing_more a b e taken owes = subst (λ (n : Note). LeadsTo n e (shown_by a)) taken.1 owes.leads ∙ ap shown_by (sym taken.0)
