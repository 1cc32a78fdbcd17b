-- What the walk over words has found where none of its steps fails, for a command whose arguments take one value each, or are flags.
use Rattle.std.proofs.Common.{◌≡◌, ◌∙◌, ◌&&◌, ◌||◌, ◌⊎◌, ℕ, Bool, cond, codes, true, false, not, zero, suc, refl, sym, ap, subst, arith, List, [], ◌∷◌, ◌++◌, length, drop, Option, Some, None, inl, inr, is_some, find, fold, bytes_eq, chars, if◌then◌else◌, ne_eqb, append-nil}
use Rattle.std.specs.Prelude.{⊤, encode_utf8, slice_get, unwrap_or, ◌==◌}
use Rattle.std.specs.Option.{option_map_or}
use Rattle.clap.specs.Values.{is_request}
use Rattle.clap.specs.Facts.{unwrap_or_range}
use Rattle.clap.specs.Lexer.{long_of, short_of}
use Rattle.clap.specs.Walk.{Held, Names, Outcome, Row, Rule, Step, Text, Waiting, Walk, action_of, after_flag, after_step, arg_by_id, arg_by_index, arg_by_long, arg_by_short, at_row, attached_value, bundle, bundle_met, bundle_step, default_rows, done, flag_met, has_row, idle, is_pending, long_met, long_or_other, more_values, most_values, next, nothing_held, option, option_met, option_word, plain, plain_word, positional, pushed, reacted, reading_by, refused, rows_after, settled, settled_rows, short_met, short_or_plain, subcommand, subcommand_met, subcommand_or_other, takes_several, takes_values, to_positional, trailing, used, used_as, used_by_id, value, values_or_missing, waits, walk, walk_from, walked, walked_from, with_default, with_values, without, word_met}
use Rattle.clap.specs.Simple.{Shape}
use Rattle.clap.specs.Kinds.{Kinds, or_else, range_kinds}
use Rattle.clap.specs.Faults.{action_fault, bundle_fault, bundle_step_fault, check_fault, defaults_fault, flag_word_fault, flags_fault, level_fault, long_fault, option_fault, other_fault, positional_fault, react_fault, repeat_fault, set_fault, settle_fault, short_fault, step_fault, stray_fault, turn_fault, use_fault, values_fault, walk_fault, word_fault}
use Rattle.clap.specs.declared.builder.action.ArgAction.{ArgAction}
use Rattle.clap.specs.declared.builder.action.ArgAction.TheVariants as action
use Rattle.clap.specs.declared.builder.range.ValueRange.{ValueRange}
use Rattle.clap.specs.declared.error.kind.ErrorKind.TheVariants as kind
use Rattle.clap.specs.declared.parser.matches.ValueSource.TheVariants.{CommandLine, DefaultValue}

-- ---- rows and rules

abbrev pub AllRows : (Row → Type 0) → List Row → Type 0
AllRows P [] = ⊤
AllRows P (r ∷ rs) = P r × AllRows P rs

abbrev pub AllRules : (Rule → Type 0) → List Rule → Type 0
AllRules G [] = ⊤
AllRules G (a ∷ rest) = G a × AllRules G rest

-- the row of an option with one value
abbrev pub row_with : Rule → Text → Row
row_with a v = record { id = a.id; values = v ∷ []; count = None; source = Some CommandLine; reading = reading_by a }

abbrev pub one_value : ValueRange
one_value = record { start_inclusive = 1; end_inclusive = 1 }

-- an argument with one value: where that passes, its row has the property
pub record TakesOne (P : Row → Type 0) (a : Rule) : Type 0 where
  pub set : action_of a ≡ action.Set
  pub range : unwrap_or_range a.range ≡ one_value
  pub fits : (v : Text) → values_fault a (v ∷ []) ≡ [] → P (row_with a v)

abbrev pub no_value : ValueRange
no_value = record { start_inclusive = 0; end_inclusive = 0 }

-- a flag: its row has the property
pub record IsFlag (P : Row → Type 0) (a : Rule) : Type 0 where
  pub set : action_of a ≡ action.SetTrue
  pub range : unwrap_or_range a.range ≡ no_value
  pub text : Text
  pub stands : a.missing ≡ text ∷ []
  pub fits : P (row_with a text)

-- such an argument or flag, or one that asks for help or the version
abbrev pub IsFine : (Row → Type 0) → Rule → Type 0
IsFine P a = (is_request (action_of a) ≡ true) ⊎ (TakesOne P a ⊎ IsFlag P a)

-- the row of an option that isn't used and has a default
abbrev pub default_row : Rule → Text → Row
default_row a v = record { id = a.id; values = v ∷ []; count = None; source = Some DefaultValue; reading = reading_by a }

-- an option has no default, or one whose row has the property
abbrev pub HasFineDefault : (Row → Type 0) → Rule → Type 0
HasFineDefault P a = (a.defaults ≡ []) ⊎ ((v : Text) × (a.defaults ≡ v ∷ []) × P (default_row a v))

-- a command has such arguments and flags only, each of which may be used once
pub record HasFineRules (P : Row → Type 0) (again : Bool) (c : List Rule) : Type 0 where
  pub once : again ≡ false
  pub fine : AllRules (IsFine P) c
  pub defaults : AllRules (HasFineDefault P) c

rows_more : (P : Row → Type 0) (xs ys : List Row) → AllRows P xs → AllRows P ys → AllRows P (xs ++ ys)
rows_more P [] ys a b = b
rows_more P (x ∷ xs) ys a b = (a.0, rows_more P xs ys a.1 b)

find_rule : (G : Rule → Type 0) (p : Rule → Bool) (c : List Rule) (a : Rule) → AllRules G c → find p c ≡ Some a → G a
find_rule G p [] a g h = cc
find_rule G p (x ∷ xs) a g h = go (p x) h (λ rest. find_rule G p xs a g.1 rest)
  where
    go : (b : Bool) → cond b (Some x) (find p xs) ≡ Some a → (find p xs ≡ Some a → G a) → G a
    go true e rec = subst G (ap (λ (o : Option Rule). unwrap_or o x) e) g.0
    go false e rec = rec e

-- the first row of an id, with what holds of each
pub find_row : (P : Row → Type 0) (id : Text) (rows : List Row) (r : Row) → AllRows P rows → find (λ x. bytes_eq x.id id) rows ≡ Some r
    → P r × (bytes_eq r.id id ≡ true)
find_row P id [] r all h = cc
find_row P id (x ∷ xs) r all h = go (bytes_eq x.id id) refl h (λ rest. find_row P id xs r all.1 rest)
  where
    go : (b : Bool) → bytes_eq x.id id ≡ b → cond b (Some x) (find (λ y. bytes_eq y.id id) xs) ≡ Some r
        → (find (λ y. bytes_eq y.id id) xs ≡ Some r → P r × (bytes_eq r.id id ≡ true)) → P r × (bytes_eq r.id id ≡ true)
    go true is e rec =
        let same : x ≡ r = ap (λ (o : Option Row). unwrap_or o x) e in
        subst (λ (y : Row). P y × (bytes_eq y.id id ≡ true)) same (all.0, is)
    go false is e rec = rec e

-- a row of a new id comes last
at_new : (id : Text) (change : Row → List Row) (missing rows : List Row) → has_row id rows ≡ false → at_row id change missing rows ≡ rows ++ missing
at_new id change missing [] none = refl
at_new id change missing (r ∷ rs) none = go (bytes_eq r.id id) none (at_new id change missing rs)
  where
    go : (b : Bool) → (b || has_row id rs) ≡ false → (has_row id rs ≡ false → at_row id change missing rs ≡ rs ++ missing)
        → (if b then change r ++ rs else r ∷ at_row id change missing rs) ≡ r ∷ (rs ++ missing)
    go true n rec = cc
    go false n rec = ap (λ (l : List Row). r ∷ l) (rec n)

-- ---- one use of an argument

pub nil_both : (a b : Kinds) → or_else a b ≡ [] → (a ≡ []) × (b ≡ [])
nil_both [] b h = (refl, h)
nil_both (k ∷ ks) b h = cc

request_fails : (x : ArgAction) (again : Bool) (a : Rule) (values : List Text) (rows : List Row) → is_request x ≡ true
    → action_fault x again a values rows ≡ [] → ⊥
request_fails action.Set again a values rows r h = cc
request_fails action.Append again a values rows r h = cc
request_fails action.SetTrue again a values rows r h = cc
request_fails action.SetFalse again a values rows r h = cc
request_fails action.Count again a values rows r h = cc
request_fails action.Help again a values rows r h = cc
request_fails action.HelpShort again a values rows r h = cc
request_fails action.HelpLong again a values rows r h = cc
request_fails action.Version again a values rows r h = cc

no_repeat : (has again : Bool) → again ≡ false → (if has && not again then kind.ArgumentConflict ∷ [] else []) ≡ [] → has ≡ false
no_repeat false again once h = refl
no_repeat true false once h = cc
no_repeat true true once h = cc

set_row : (P : Row → Type 0) (again : Bool) (a : Rule) (v : Text) (rows : List Row) → again ≡ false → (values_fault a (v ∷ []) ≡ [] → P (row_with a v))
    → set_fault again a (v ∷ []) rows ≡ [] → AllRows P rows → AllRows P (with_values a.id (reading_by a) CommandLine (v ∷ []) (without a.id rows))
set_row P again a v rows once fits s all =
    let parts = nil_both (repeat_fault again a.id rows) (values_fault a (v ∷ [])) s in
    let none = no_repeat (has_row a.id rows) again once parts.0 in
    let same : without a.id rows ≡ rows = at_new a.id (λ _. []) [] rows none ∙ append-nil rows in
    let last : with_values a.id (reading_by a) CommandLine (v ∷ []) (without a.id rows) ≡ rows ++ row_with a v ∷ [] =
    ap (with_values a.id (reading_by a) CommandLine (v ∷ [])) same
    ∙ at_new a.id (more_values CommandLine (v ∷ [])) (row_with a v ∷ []) rows none in
    subst (AllRows P) (sym last) (rows_more P rows (row_with a v ∷ []) all (fits parts.1, tt))

set_rows : (P : Row → Type 0) (again : Bool) (a : Rule) (values : List Text) (rows : List Row) → again ≡ false → TakesOne P a
    → range_kinds 1 1 (length values) ≡ [] → set_fault again a (values_or_missing a values) rows ≡ [] → AllRows P rows
    → AllRows P (used_as action.Set a.id (reading_by a) (values_or_missing a values) rows)
set_rows P again a [] rows once t r s all = cc
set_rows P again a (v ∷ []) rows once t r s all = set_row P again a v rows once (t.fits v) s all
set_rows P again a (v ∷ w ∷ vs) rows once t r s all =
    let n = length (v ∷ w ∷ vs) in
    let some : (n == 0) ≡ false = ne_eqb n 0 (λ e. omega arith) in
    let more : (1 == n) ≡ false = ne_eqb 1 n (λ e. omega arith) in
    let bad : kind.WrongNumberOfValues ∷ [] ≡ [] = rw (some, more) at r in
    cc

flag_rows : (P : Row → Type 0) (again : Bool) (a : Rule) (values : List Text) (rows : List Row) → again ≡ false → IsFlag P a
    → range_kinds 0 0 (length values) ≡ [] → set_fault again a (values_or_missing a values) rows ≡ [] → AllRows P rows
    → AllRows P (used_as action.SetTrue a.id (reading_by a) (values_or_missing a values) rows)
flag_rows P again a [] rows once t r s all =
    let fault = subst (λ (vs : List Text). set_fault again a vs rows ≡ []) t.stands s in
    subst (λ (vs : List Text). AllRows P (used_as action.SetTrue a.id (reading_by a) vs rows)) (sym t.stands)
    (set_row P again a t.text rows once (λ passed. t.fits) fault all)
flag_rows P again a (v ∷ vs) rows once t r s all =
    let n = length (v ∷ vs) in
    let some : (0 == n) ≡ false = ne_eqb 0 n (λ e. omega arith) in
    let bad : kind.WrongNumberOfValues ∷ [] ≡ [] = rw some at r in
    cc

use_rows : (P : Row → Type 0) (again : Bool) (a : Rule) (values : List Text) (rows : List Row) → again ≡ false → IsFine P a
    → use_fault again a values rows ≡ [] → AllRows P rows → AllRows P (used a values rows)
use_rows P again a values rows once (inl r) h all =
    let parts = nil_both (range_kinds (unwrap_or_range a.range).start_inclusive (most_values a) (length values))
    (action_fault (action_of a) again a (values_or_missing a values) rows) h in
    absurd (request_fails (action_of a) again a (values_or_missing a values) rows r parts.1)
use_rows P again a values rows once (inr (inr t)) h all =
    let parts = nil_both (range_kinds (unwrap_or_range a.range).start_inclusive (most_values a) (length values))
    (action_fault (action_of a) again a (values_or_missing a values) rows) h in
    let count = subst (λ (g : ValueRange). range_kinds g.start_inclusive g.end_inclusive (length values) ≡ []) t.range parts.0 in
    let fault = subst (λ (x : ArgAction). action_fault x again a (values_or_missing a values) rows ≡ []) t.set parts.1 in
    subst (λ (x : ArgAction). AllRows P (used_as x a.id (reading_by a) (values_or_missing a values) rows)) (sym t.set)
    (flag_rows P again a values rows once t count fault all)
use_rows P again a values rows once (inr (inl t)) h all =
    let parts = nil_both (range_kinds (unwrap_or_range a.range).start_inclusive (most_values a) (length values))
    (action_fault (action_of a) again a (values_or_missing a values) rows) h in
    let count = subst (λ (g : ValueRange). range_kinds g.start_inclusive g.end_inclusive (length values) ≡ []) t.range parts.0 in
    let fault = subst (λ (x : ArgAction). action_fault x again a (values_or_missing a values) rows ≡ []) t.set parts.1 in
    subst (λ (x : ArgAction). AllRows P (used_as x a.id (reading_by a) (values_or_missing a values) rows)) (sym t.set)
    (set_rows P again a values rows once t count fault all)

settle_rows : (P : Row → Type 0) (again : Bool) (c : List Rule) → HasFineRules P again c → (h : Held) → settle_fault c again h ≡ []
    → AllRows P h.rows → AllRows P (settled c h).rows
settle_rows P again c f h none all = pend h.pending none
  where
    arg : (p : Text × List Text) (o : Option Rule) → arg_by_id c p.0 ≡ o → option_map_or (λ a. use_fault again a p.1 h.rows) o [] ≡ []
        → AllRows P (used_by_id o p.1 h.rows)
    arg p None e n = all
    arg p (Some a) e n = use_rows P again a p.1 h.rows f.once (find_rule (IsFine P) (λ a. bytes_eq a.id p.0) c a f.fine e) n all

    pend : (o : Option (Text × List Text)) → option_map_or (λ p. option_map_or (λ a. use_fault again a p.1 h.rows) (arg_by_id c p.0) []) o [] ≡ []
        → AllRows P (settled_rows c o h.rows)
    pend None n = all
    pend (Some p) n = arg p (arg_by_id c p.0) refl n

react_rows : (P : Row → Type 0) (again : Bool) (c : List Rule) → HasFineRules P again c → (a : Rule) (values : List Text) (h : Held)
    → IsFine P a → react_fault c again a values h ≡ [] → AllRows P h.rows → AllRows P (reacted c a values h).rows
react_rows P again c f a values h fine none all =
    let parts = nil_both (settle_fault c again h) (use_fault again a values (settled c h).rows) none in
    use_rows P again a values (settled c h).rows f.once fine parts.1 (settle_rows P again c f h parts.0 all)

option_rows : (P : Row → Type 0) (again : Bool) (c : List Rule) → HasFineRules P again c → (a : Rule) (v : Option Text) (h : Held)
    → IsFine P a → option_fault c again a v h ≡ [] → AllRows P h.rows → AllRows P (option_met c a v h).0.rows
option_rows P again c f a (Some v) h fine none all = react_rows P again c f a (v ∷ []) h fine none all
option_rows P again c f a None h fine none all = settle_rows P again c f h none all

-- ---- one word

long_rows : (P : Row → Type 0) (again : Bool) (c : List Rule) → HasFineRules P again c → (found : Option Rule) (v : Option Text) (h : Held)
    → ((a : Rule) → found ≡ Some a → IsFine P a) → long_fault c again found v h ≡ [] → AllRows P h.rows → AllRows P (long_met c found v h).0.rows
long_rows P again c f None v h fine none all = cc
long_rows P again c f (Some a) v h fine none all = go (takes_values a) none
  where
    flag : (o : Option Text) → (if is_some o then kind.TooManyValues ∷ [] else react_fault c again a [] h) ≡ [] → AllRows P (flag_met c a o h).0.rows
    flag None n = react_rows P again c f a [] h (fine a refl) n all
    flag (Some t) n = cc

    go : (b : Bool) → (if b then option_fault c again a v h else (if is_some v then kind.TooManyValues ∷ [] else react_fault c again a [] h)) ≡ []
        → AllRows P (if b then option_met c a v h else flag_met c a v h).0.rows
    go true n = option_rows P again c f a v h (fine a refl) n all
    go false n = flag v n

short_rows : (P : Row → Type 0) (again : Bool) (c : List Rule) → HasFineRules P again c → (found : Option Rule) (rest : Text) (h : Held)
    (after : Held → Kinds) (met : Held → Held × Outcome) → ((a : Rule) → found ≡ Some a → IsFine P a)
    → ((g : Held) → after g ≡ [] → AllRows P g.rows → AllRows P (met g).0.rows)
    → short_fault c again found rest h after ≡ [] → AllRows P h.rows → AllRows P (short_met c found rest h met).0.rows
short_rows P again c f None rest h after met fine rec none all = cc
short_rows P again c f (Some a) rest h after met fine rec none all = go (takes_values a) none
  where
    go : (b : Bool) → (if b then option_fault c again a (attached_value rest) h else or_else (react_fault c again a [] h) (after (reacted c a [] h))) ≡ []
        → AllRows P (if b then option_met c a (attached_value rest) h else met (reacted c a [] h)).0.rows
    go true n = option_rows P again c f a (attached_value rest) h (fine a refl) n all
    go false n =
        let parts = nil_both (react_fault c again a [] h) (after (reacted c a [] h)) n in
        rec (reacted c a [] h) parts.1 (react_rows P again c f a [] h (fine a refl) parts.0 all)

bundle_step_rows : (P : Row → Type 0) (again : Bool) (c : List Rule) → HasFineRules P again c → (o : Option ℕ) (flags : Text) (skip : ℕ)
    (so_far : Outcome) (h : Held) (after : Text → ℕ → Held → Kinds) (met : Text → ℕ → Outcome → Held → Held × Outcome)
    → ((t : Text) (n : ℕ) (x : Outcome) (g : Held) → after t n g ≡ [] → AllRows P g.rows → AllRows P (met t n x g).0.rows)
    → bundle_step_fault c again o flags skip h after ≡ [] → AllRows P h.rows → AllRows P (bundle_step c o flags skip so_far h met).0.rows
bundle_step_rows P again c f None flags skip so_far h after met rec none all = all
bundle_step_rows P again c f (Some x) flags zero so_far h after met rec none all =
    let rest = drop (length (encode_utf8 x)) flags in
    short_rows P again c f (arg_by_short c x) rest h (after rest 0) (met rest 0 done)
    (λ a e. find_rule (IsFine P) _ c a f.fine e) (rec rest 0 done) none all
bundle_step_rows P again c f (Some x) flags (suc skip) so_far h after met rec none all =
    rec (drop (length (encode_utf8 x)) flags) skip so_far h none all

bundle_rows : (P : Row → Type 0) (again : Bool) (c : List Rule) → HasFineRules P again c → (k : ℕ) (flags : Text) (skip : ℕ)
    (so_far : Outcome) (h : Held) → flags_fault c again k flags skip h ≡ [] → AllRows P h.rows → AllRows P (bundle_met c k flags skip so_far h).0.rows
unfolding flags_fault bundle_met
bundle_rows P again c f zero flags skip so_far h none all = all
bundle_rows P again c f (suc k) flags skip so_far h none all =
    bundle_step_rows P again c f (slice_get (chars flags) 0) flags skip so_far h (flags_fault c again k) (bundle_met c k)
    (bundle_rows P again c f k) none all

plain_rows : (P : Row → Type 0) (c : List Rule) (waiting : Waiting) (word : Text) (h : Held) → AllRows P h.rows
    → AllRows P (plain_word c waiting word h).0.rows
plain_rows P c (option id) word h all = go (arg_by_id c id)
  where
    go : (o : Option Rule) → AllRows P (option_word o id word h).0.rows
    go None = all
    go (Some a) = all
plain_rows P c idle word h all = all
plain_rows P c positional word h all = all

after_rows : (P : Row → Type 0) (c : List Rule) (waiting : Waiting) (word : Text) (h : Held) (o : Outcome) → AllRows P h.rows
    → AllRows P (after_flag c waiting word h o).0.rows
after_rows P c waiting word h done all = all
after_rows P c waiting word h (waits id) all = all
after_rows P c waiting word h plain all = plain_rows P c waiting word h all
after_rows P c waiting word h refused all = plain_rows P c waiting word h all

short_word_rows : (P : Row → Type 0) (again : Bool) (c : List Rule) → HasFineRules P again c → (waiting : Waiting) (word : Text) (h : Held)
    (o : Option Text) → option_map_or (λ flags. bundle_fault c again flags h) o [] ≡ [] → AllRows P h.rows
    → AllRows P (short_or_plain c waiting word o h).0.rows
short_word_rows P again c f waiting word h None none all = plain_rows P c waiting word h all
short_word_rows P again c f waiting word h (Some flags) none all =
    after_rows P c waiting word (bundle c flags h).0 (bundle c flags h).1
    (bundle_rows P again c f (length flags) flags h.skip plain (record h { skip = 0 }) none all)

flag_word_rows : (P : Row → Type 0) (again : Bool) (c : List Rule) → HasFineRules P again c → (waiting : Waiting) (word : Text) (h : Held)
    (o : Option (Text × Option Text)) → flag_word_fault c again o word h ≡ [] → AllRows P h.rows → AllRows P (long_or_other c waiting word o h).0.rows
flag_word_rows P again c f waiting word h None none all = short_word_rows P again c f waiting word h (short_of word) none all
flag_word_rows P again c f waiting word h (Some p) none all =
    after_rows P c waiting word (long_met c (arg_by_long c p.0) p.1 h).0 (long_met c (arg_by_long c p.0) p.1 h).1
    (long_rows P again c f (arg_by_long c p.0) p.1 h (λ a e. find_rule (IsFine P) _ c a f.fine e) none all)

other_rows : (P : Row → Type 0) (s : Shape) → HasFineRules P s.args_override_self s.rules → (waiting : Waiting) (position : ℕ) (word : Text) (h : Held)
    (o : Option Text) → other_fault s o word h ≡ [] → AllRows P h.rows → AllRows P (subcommand_or_other s.rules o waiting position word h).0.rows
other_rows P s f waiting position word h (Some name) none all = all
other_rows P s f waiting position word h None none all = go (bytes_eq word (45 ∷ 45 ∷ [])) none
  where
    go : (b : Bool) → (if b then [] else flag_word_fault s.rules s.args_override_self (long_of word) word h) ≡ []
        → AllRows P (if b then (h, trailing position) else long_or_other s.rules waiting word (long_of word) h).0.rows
    go true n = all
    go false n = flag_word_rows P s.args_override_self s.rules f waiting word h (long_of word) n all

word_rows : (P : Row → Type 0) (s : Shape) → HasFineRules P s.args_override_self s.rules → (names : Names) (is_trailing : Bool) (waiting : Waiting)
    (position : ℕ) (word : Text) (h : Held) → word_fault s names is_trailing waiting word h ≡ [] → AllRows P h.rows
    → AllRows P (word_met s.rules names is_trailing waiting position word h).0.rows
word_rows P s f names true waiting position word h none all = all
word_rows P s f names false waiting position word h none all =
    other_rows P s f waiting position word h (subcommand_met names waiting word) none all

-- ---- the walk

step_rows : (P : Row → Type 0) (s : Shape) → HasFineRules P s.args_override_self s.rules → (word : Text) (w : Walk) (h : Held) (step : Step)
    → step_fault s w.position h step ≡ [] → AllRows P h.rows → AllRows P (after_step s.rules word w h step).held.rows
step_rows P s f word w h (next waiting) none all = all
step_rows P s f word w h (trailing position) none all = all
step_rows P s f word w h (subcommand name) none all = all
step_rows P s f word w h value none all = go (arg_by_index s.rules w.position) none
  where
    push : (a : Rule) (more : Bool) → (if more then [] else settle_fault s.rules s.args_override_self h) ≡ []
        → AllRows P (pushed a.id word (if more then h else settled s.rules h)).rows
    push a true n = all
    push a false n = settle_rows P s.args_override_self s.rules f h n all

    go : (o : Option Rule) → option_map_or (λ a. positional_fault s.rules s.args_override_self a h) o (stray_fault s) ≡ []
        → AllRows P (to_positional s.rules o word w h).held.rows
    go None n = all
    go (Some a) n = push a (is_pending a h.pending && takes_several a) n

turn_rows : (P : Row → Type 0) (s : Shape) → HasFineRules P s.args_override_self s.rules → (names : Names) (w : Walk) (word : Text)
    → turn_fault s names w word ≡ [] → AllRows P w.held.rows → AllRows P (walked_from s.rules names w.stopped w word).held.rows
turn_rows P s f names w word none all = go w.stopped none
  where
    met : Held × Step
    met = word_met s.rules names w.is_trailing w.waiting w.position word w.held

    go : (o : Option (Text × List Text)) → (if is_some o then [] else or_else (word_fault s names w.is_trailing w.waiting word w.held)
        (step_fault s w.position (word_met s.rules names w.is_trailing w.waiting w.position word w.held).0
        (word_met s.rules names w.is_trailing w.waiting w.position word w.held).1)) ≡ []
        → AllRows P (walked_from s.rules names o w word).held.rows
    go (Some p) n = all
    go None n =
        let parts = nil_both (word_fault s names w.is_trailing w.waiting word w.held) _ n in
        step_rows P s f word w _ _ parts.1
        (word_rows P s f names w.is_trailing w.waiting w.position word w.held parts.0 all)

pub walk_rows : (P : Row → Type 0) (s : Shape) → HasFineRules P s.args_override_self s.rules → (names : Names) (w : Walk) (words : List Text)
    → walk_fault s names w words ≡ [] → AllRows P w.held.rows → AllRows P (fold (walked s.rules names) w words).held.rows
unfolding walk_fault walked
walk_rows P s f names w [] none all = all
walk_rows P s f names w (word ∷ rest) none all =
    let parts = nil_both (turn_fault s names w word) (walk_fault s names (walked s.rules names w word) rest) none in
    walk_rows P s f names (walked s.rules names w word) rest parts.1 (turn_rows P s f names w word parts.0 all)

default_fine : (P : Row → Type 0) (a : Rule) (rows : List Row) → HasFineDefault P a → AllRows P rows → AllRows P (with_default rows a)
default_fine P a rows fine all = go (has_row a.id rows) refl fine
  where
    go : (b : Bool) → has_row a.id rows ≡ b → HasFineDefault P a
        → AllRows P (if b then rows else default_rows a.id (reading_by a) a.defaults rows)
    go true is fine = all
    go false is (inl none) = subst (λ (d : List Text). AllRows P (default_rows a.id (reading_by a) d rows)) (sym none) all
    go false is (inr d) =
        let last : with_values a.id (reading_by a) DefaultValue (d.0 ∷ []) rows ≡ rows ++ default_row a d.0 ∷ [] =
        at_new a.id (more_values DefaultValue (d.0 ∷ [])) (default_row a d.0 ∷ []) rows is in
        subst (λ (ds : List Text). AllRows P (default_rows a.id (reading_by a) ds rows)) (sym d.1)
        (subst (AllRows P) (sym last) (rows_more P rows (default_row a d.0 ∷ []) all (d.2, tt)))

defaults_fine : (P : Row → Type 0) (c : List Rule) (rows : List Row) → AllRules (HasFineDefault P) c → AllRows P rows
    → AllRows P (fold with_default rows c)
defaults_fine P [] rows fine all = all
defaults_fine P (a ∷ rest) rows fine all =
    defaults_fine P rest (with_default rows a) fine.1 (default_fine P a rows fine.0 all)

-- all rows of a level that does not fail, and its last check
pub level_rows : (P : Row → Type 0) (s : Shape) → HasFineRules P s.args_override_self s.rules → (words : List Text)
    → level_fault s [] nothing_held words false [] ≡ []
    → AllRows P (rows_after s.rules [] words) × (check_fault s (rows_after s.rules [] words) false ≡ [])
level_rows P s f words none =
    let end = (walk s.rules [] nothing_held words).held in
    let walking = nil_both (walk_fault s [] (walk_from nothing_held) words) _ none in
    let settling = nil_both (settle_fault s.rules s.args_override_self end) _ walking.1 in
    let checking = nil_both (defaults_fault (settled s.rules end).rows s.rules) _ settling.1 in
    let walked_all = walk_rows P s f [] (walk_from nothing_held) words walking.0 tt in
    let all = settle_rows P s.args_override_self s.rules f end settling.0 walked_all in
    (defaults_fine P s.rules (settled s.rules end).rows f.defaults all, checking.1)

-- ---- where the walk stops

-- the subcommand is not `help`
abbrev pub StopsFine : Option (Text × List Text) → Type 0
StopsFine None = ⊤
StopsFine (Some p) = bytes_eq p.0 (codes "help") ≡ false

abbrev StepsFine : Step → Type 0
StepsFine (next waiting) = ⊤
StepsFine (trailing position) = ⊤
StepsFine (subcommand name) = bytes_eq name (codes "help") ≡ false
StepsFine value = ⊤

plain_step : (c : List Rule) (waiting : Waiting) (word : Text) (h : Held) → StepsFine (plain_word c waiting word h).1
plain_step c (option id) word h = tt
plain_step c idle word h = tt
plain_step c positional word h = tt

flag_step : (c : List Rule) (waiting : Waiting) (word : Text) (h : Held) (o : Outcome) → StepsFine (after_flag c waiting word h o).1
flag_step c waiting word h done = tt
flag_step c waiting word h (waits id) = tt
flag_step c waiting word h plain = plain_step c waiting word h
flag_step c waiting word h refused = plain_step c waiting word h

short_step : (c : List Rule) (waiting : Waiting) (word : Text) (h : Held) (o : Option Text) → StepsFine (short_or_plain c waiting word o h).1
short_step c waiting word h None = plain_step c waiting word h
short_step c waiting word h (Some flags) = flag_step c waiting word (bundle c flags h).0 (bundle c flags h).1

long_step : (c : List Rule) (waiting : Waiting) (word : Text) (h : Held) (o : Option (Text × Option Text))
    → StepsFine (long_or_other c waiting word o h).1
long_step c waiting word h None = short_step c waiting word h (short_of word)
long_step c waiting word h (Some p) =
    flag_step c waiting word (long_met c (arg_by_long c p.0) p.1 h).0 (long_met c (arg_by_long c p.0) p.1 h).1

other_step : (s : Shape) → s.disable_help_subcommand ≡ false → (waiting : Waiting) (position : ℕ) (word : Text) (h : Held) (o : Option Text)
    → other_fault s o word h ≡ [] → StepsFine (subcommand_or_other s.rules o waiting position word h).1
other_step s helps waiting position word h (Some name) none = go (bytes_eq name (codes "help")) s.disable_help_subcommand helps none
  where
    go : (b d : Bool) → d ≡ false → (if b && not d then kind.DisplayHelp ∷ kind.InvalidSubcommand ∷ [] else []) ≡ [] → b ≡ false
    go false d e n = refl
    go true false e n = cc
    go true true e n = cc
other_step s helps waiting position word h None none = go (bytes_eq word (45 ∷ 45 ∷ []))
  where
    go : (b : Bool) → StepsFine (if b then (h, trailing position) else long_or_other s.rules waiting word (long_of word) h).1
    go true = tt
    go false = long_step s.rules waiting word h (long_of word)

word_step : (s : Shape) → s.disable_help_subcommand ≡ false → (names : Names) (is_trailing : Bool) (waiting : Waiting)
    (position : ℕ) (word : Text) (h : Held) → word_fault s names is_trailing waiting word h ≡ []
    → StepsFine (word_met s.rules names is_trailing waiting position word h).1
word_step s helps names true waiting position word h none = tt
word_step s helps names false waiting position word h none =
    other_step s helps waiting position word h (subcommand_met names waiting word) none

step_stops : (c : List Rule) (word : Text) (w : Walk) (h : Held) (step : Step) → StopsFine w.stopped → StepsFine step
    → StopsFine (after_step c word w h step).stopped
step_stops c word w h (next waiting) fine step = fine
step_stops c word w h (trailing position) fine step = fine
step_stops c word w h (subcommand name) fine step = step
step_stops c word w h value fine step = go (arg_by_index c w.position)
  where
    go : (o : Option Rule) → StopsFine (to_positional c o word w h).stopped
    go None = fine
    go (Some a) = tt

turn_stops : (s : Shape) → s.disable_help_subcommand ≡ false → (names : Names) (w : Walk) (word : Text)
    → turn_fault s names w word ≡ [] → StopsFine w.stopped → StopsFine (walked_from s.rules names w.stopped w word).stopped
turn_stops s helps names w word none fine = go w.stopped fine none
  where
    go : (o : Option (Text × List Text)) → StopsFine o → (if is_some o then [] else or_else (word_fault s names w.is_trailing w.waiting word w.held)
        (step_fault s w.position (word_met s.rules names w.is_trailing w.waiting w.position word w.held).0
        (word_met s.rules names w.is_trailing w.waiting w.position word w.held).1)) ≡ []
        → StopsFine (walked_from s.rules names o w word).stopped
    go (Some p) stops n = stops
    go None stops n =
        let parts = nil_both (word_fault s names w.is_trailing w.waiting word w.held) _ n in
        step_stops s.rules word w _ _ fine
        (word_step s helps names w.is_trailing w.waiting w.position word w.held parts.0)

pub walk_stops : (s : Shape) → s.disable_help_subcommand ≡ false → (names : Names) (w : Walk) (words : List Text)
    → walk_fault s names w words ≡ [] → StopsFine w.stopped → StopsFine (fold (walked s.rules names) w words).stopped
unfolding walk_fault walked
walk_stops s helps names w [] none fine = fine
walk_stops s helps names w (word ∷ rest) none fine =
    let parts = nil_both (turn_fault s names w word) (walk_fault s names (walked s.rules names w word) rest) none in
    walk_stops s helps names (walked s.rules names w word) rest parts.1 (turn_stops s helps names w word parts.0 fine)
