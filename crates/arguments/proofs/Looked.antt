-- What clap has seen to, where it takes the words.
use Rattle.std.proofs.Common.{◌≡◌, ◌∙◌, ◌&&◌, ◌||◌, ◌⊎◌, ℕ, Bool, cond, codes, true, false, not, refl, sym, ap, subst, List, [], ◌∷◌, Option, Some, None, inl, inr, is_some, find, bytes_eq, pos, if◌then◌else◌, MatchResult, Result, Ok, Err, IfSome, option_map, option_and_then, slice_get}
use Rattle.std.specs.Prelude.{slice_index_or}
use Rattle.std.specs.Option.{option_map_or}
use Rattle.clap.specs.Facts.{explicit_source, unwrap_or_range}
use Rattle.clap.specs.Values.{IsSignedIn, read_as}
use Rattle.clap.specs.ValueTests.{accepts}
use Rattle.clap.specs.Lexer.{without_minus}
use Rattle.clap.specs.Takes.{is_given}
use Rattle.clap.specs.Words.{first_of}
use Rattle.clap.specs.Kinds.{check_kinds, or_else, value_kinds}
use Rattle.clap.specs.Faults.{defaults_fault, entered_fault, level_fault, settle_fault, values_fault, walk_fault}
use Rattle.clap.specs.Walk.{Row, Rule, Text, action_of, answers_to, nothing_held, row_text, rows_after, walk, walk_from, settled}
use Rattle.clap.specs.Simple.{Shape, argument_words, built, entered, label_of, names_of, rows_at, subcommand_of}
use Rattle.clap.specs.declared.builder.value_parser.ValueParser.TheVariants as vp
use Rattle.clap.specs.declared.builder.action.ArgAction.TheVariants as action
use Rattle.clap.specs.declared.builder.value_parser.Reading.{Reading}
use Rattle.clap.specs.declared.builder.value_parser.Reading.TheVariants.{AsWritten, WithoutMinus}
use Rattle.clap.specs.declared.parser.matches.ValueSource.TheVariants.{CommandLine}
use Rattle.clap.specs.declared.error.kind.ErrorKind.{ErrorKind}
use Rattle.clap.specs.declared.error.kind.ErrorKind.TheVariants as kind
use Rattle.clap.proofs.ValueTestLemmas.{accepts-Accepts}
use Rattle.std.proofs.lemmas.Slice.Eq.{bytes_eq-Decides}
use Rattle.term.specs.declared.limits.TheConstants.{MOST_CONSOLES_AT_ONCE, LONGEST_SILENCE}
use Rattle.arguments.specs.CommandLine.{program, refusals, serve_shape}
use Rattle.arguments.specs.Reading.{Asks, AsksIn, HasArguments, HasOptions, IsFlagText, IsLooked, Refuses, RefusesIn, RefusesValues}
use Rattle.arguments.specs.CommandLine.{Entered}
use Rattle.arguments.specs.declared.faults.ArgFault.{ArgFault}
use Rattle.arguments.specs.declared.faults.ArgFault.TheVariants as fault
use Rattle.arguments.specs.declared.mode.Mode.{Mode}
use Rattle.arguments.proofs.Taken.{AllRows, HasFineRules, IsFine, StopsFine, find_row, level_rows, nil_both, one_value, row_with, walk_stops}

-- the row has one value
abbrev HasOneValue : Row → Type 0
HasOneValue r = (text : Text) × (r.values ≡ text ∷ [])

-- ---- the options of `serve`

-- the row of a number, which is one of 1 to the most
abbrev IsNumber : ℕ → Row → Text → Type 0
IsNumber most r text = (r.reading ≡ WithoutMinus) × IsSignedIn (pos 1) (pos most) text

-- a row of `serve`: it has one value; those of numbers are in their ranges, and that of the flag says whether it is set
record ServeRow (r : Row) : Type 0 where
  text : Text
  is : r.values ≡ text ∷ []
  number : bytes_eq r.id (codes "consoles") ≡ true → IsNumber MOST_CONSOLES_AT_ONCE r text
  seconds : bytes_eq r.id (codes "idle") ≡ true → IsNumber LONGEST_SILENCE r text
  flag : bytes_eq r.id (codes "stay") ≡ true → (r.reading ≡ AsWritten) × IsFlagText text

-- `serve`, as it is built
abbrev serve_built : Shape
serve_built = slice_index_or (built program).subs 1 serve_shape

is_accepted : (b : Bool) (k : ErrorKind) → (if b then [] else k ∷ []) ≡ [] → b ≡ true
is_accepted true k h = refl
is_accepted false k h = cc

number_accepted : (most : ℕ) (v : Text) → or_else (value_kinds false (vp.Signed (pos 1) (pos most)) v) [] ≡ []
    → IsSignedIn (pos 1) (pos most) v
number_accepted most v h =
    let parts = nil_both (value_kinds false (vp.Signed (pos 1) (pos most)) v) [] h in
    accepts-Accepts false (vp.Signed (pos 1) (pos most)) v (is_accepted (accepts false (vp.Signed (pos 1) (pos most)) v) kind.ValueValidation parts.0)

-- an option with one value that is neither
one_valued_fine : (P : Row → Type 0) (a : Rule) → action_of a ≡ action.Set → unwrap_or_range a.range ≡ one_value
    → ((v : Text) → values_fault a (v ∷ []) ≡ [] → P (row_with a v)) → IsFine P a
one_valued_fine P a set range fits = inr (inl (record { set = set; range = range; fits = fits }))

plain_row : (id text : Text) (reading : Reading) → bytes_eq id (codes "consoles") ≡ false → bytes_eq id (codes "idle") ≡ false
    → bytes_eq id (codes "stay") ≡ false → ServeRow (record { id = id; values = text ∷ []; count = None; source = Some CommandLine; reading = reading })
plain_row id text reading one two three = record {
  text = text;
  is = refl;
  number = λ e. absurd (differ (sym e ∙ one));
  seconds = λ e. absurd (differ (sym e ∙ two));
  flag = λ e. absurd (differ (sym e ∙ three));
}
  where
    differ : true ≡ false → ⊥
    differ e = cc

serve_fine : HasFineRules ServeRow serve_built.args_override_self serve_built.rules
serve_fine = record {
  once = refl;
  fine = (
    one_valued_fine ServeRow _ refl refl (λ v h. plain_row _ v _ refl refl refl),
    (
      one_valued_fine ServeRow _ refl refl (λ v h. plain_row _ v _ refl refl refl),
      (
        one_valued_fine ServeRow _ refl refl (λ v h. plain_row _ v _ refl refl refl),
        (
          one_valued_fine ServeRow _ refl refl (λ v h. record {
            text = v;
            is = refl;
            number = λ e. (refl, number_accepted MOST_CONSOLES_AT_ONCE v h);
            seconds = λ e. cc;
            flag = λ e. cc;
          }),
          (
            inr (inr (record {
              set = refl;
              range = refl;
              text = codes "true";
              stands = refl;
              fits = record { text = codes "true"; is = refl; number = λ e. cc; seconds = λ e. cc; flag = λ e. (refl, inl refl) };
            })),
            (
              one_valued_fine ServeRow _ refl refl (λ v h. plain_row _ v _ refl refl refl),
              (
                one_valued_fine ServeRow _ refl refl (λ v h. record {
                  text = v;
                  is = refl;
                  number = λ e. cc;
                  seconds = λ e. (refl, number_accepted LONGEST_SILENCE v h);
                  flag = λ e. cc;
                }),
                (inl refl, tt),
              ),
            ),
          ),
        ),
      ),
    ),
  );
  defaults = (
    inl refl,
    (
      inl refl,
      (
        inl refl,
        (
          inl refl,
          (
            inr (
              codes "false",
              refl,
              record { text = codes "false"; is = refl; number = λ e. cc; seconds = λ e. cc; flag = λ e. (refl, inr refl) },
            ),
            (inl refl, (inl refl, (inl refl, tt))),
          ),
        ),
      ),
    ),
  );
}

-- a row that was given has a value
some_value : (o : Option Row) → ((r : Row) → o ≡ Some r → HasOneValue r) → option_map_or (λ r. explicit_source r.source) o false ≡ true
    → is_some (option_and_then (λ (r : Row). slice_get r.values 0) o) ≡ true
some_value None rows given = cc
some_value (Some r) rows given =
    subst (λ (vs : List Text). is_some (slice_get vs 0) ≡ true) (sym (rows r refl).1) refl

number_value : (most : ℕ) (o : Option Row) → ((r : Row) → o ≡ Some r → (text : Text) × (r.values ≡ text ∷ []) × IsNumber most r text)
    → IfSome (option_and_then (λ (r : Row). slice_get r.values 0) o) (IsSignedIn (pos 1) (pos most))
number_value most None rows = tt
number_value most (Some r) rows =
    let row = rows r refl in
    subst (λ (vs : List Text). IfSome (slice_get vs 0) (IsSignedIn (pos 1) (pos most))) (sym row.1) row.2.1

number_text : (most : ℕ) (o : Option Row) → ((r : Row) → o ≡ Some r → (text : Text) × (r.values ≡ text ∷ []) × IsNumber most r text)
    → option_and_then row_text o ≡ option_map without_minus (option_and_then (λ (r : Row). slice_get r.values 0) o)
number_text most None rows = refl
number_text most (Some r) rows =
    ap (λ how. option_map (read_as how) (slice_get r.values 0)) (rows r refl).2.0

flag_value : (o : Option Row) → ((r : Row) → o ≡ Some r → ServeRow r × (bytes_eq r.id (codes "stay") ≡ true))
    → IfSome (option_and_then (λ (r : Row). slice_get r.values 0) o) IsFlagText
flag_value None rows = tt
flag_value (Some r) rows =
    let row = rows r refl in
    subst (λ (vs : List Text). IfSome (slice_get vs 0) IsFlagText) (sym row.0.is) (row.0.flag row.1).1

flag_text : (o : Option Row) → ((r : Row) → o ≡ Some r → ServeRow r × (bytes_eq r.id (codes "stay") ≡ true))
    → option_and_then row_text o ≡ option_and_then (λ (r : Row). slice_get r.values 0) o
flag_text None rows = refl
flag_text (Some r) rows =
    let row = rows r refl in
    ap (λ how. option_map (read_as how) (slice_get r.values 0)) (row.0.flag row.1).0 ∙ as_written (slice_get r.values 0)
  where
    as_written : (v : Option Text) → option_map (read_as AsWritten) v ≡ v
    as_written None = refl
    as_written (Some v) = refl

has_both : (a b : Bool) → check_kinds false false ((true && not a) || ((true && not b) || false)) ≡ [] → (a ≡ true) × (b ≡ true)
has_both true true h = (refl, refl)
has_both true false h = cc
has_both false true h = cc
has_both false false h = cc

-- a wanted option was given, and has a value
wanted_value : (id : Text) (rows : List Row) → AllRows ServeRow rows → is_given id rows ≡ true → is_some (first_of id rows) ≡ true
wanted_value id rows all given = some_value (find (λ r. bytes_eq r.id id) rows) one given
  where
    one : (r : Row) → find (λ x. bytes_eq x.id id) rows ≡ Some r → HasOneValue r
    one r e = let found = find_row ServeRow id rows r all e in (found.0.text, found.0.is)

-- the rows of the two numbers
numbered : (rows : List Row) → AllRows ServeRow rows → (r : Row) → find (λ x. bytes_eq x.id (codes "consoles")) rows ≡ Some r
    → (text : Text) × (r.values ≡ text ∷ []) × IsNumber MOST_CONSOLES_AT_ONCE r text
numbered rows all r e =
    let found = find_row ServeRow (codes "consoles") rows r all e in (found.0.text, found.0.is, found.0.number found.1)

limited : (rows : List Row) → AllRows ServeRow rows → (r : Row) → find (λ x. bytes_eq x.id (codes "idle")) rows ≡ Some r
    → (text : Text) × (r.values ≡ text ∷ []) × IsNumber LONGEST_SILENCE r text
limited rows all r e =
    let found = find_row ServeRow (codes "idle") rows r all e in (found.0.text, found.0.is, found.0.seconds found.1)

options_of : (words : List Text) → level_fault serve_built [] nothing_held words false [] ≡ []
    → HasOptions (rows_after serve_built.rules [] words)
options_of words none =
    let rows = rows_after serve_built.rules [] words in
    let level = level_rows ServeRow serve_built serve_fine words none in
    let both = has_both (is_given (codes "listen") rows) (is_given (codes "nodes") rows) level.1 in
    record {
      listen = wanted_value (codes "listen") rows level.0 both.0;
      nodes = wanted_value (codes "nodes") rows level.0 both.1;
      consoles = number_value MOST_CONSOLES_AT_ONCE (find (λ r. bytes_eq r.id (codes "consoles")) rows) (numbered rows level.0);
      digits = number_text MOST_CONSOLES_AT_ONCE (find (λ r. bytes_eq r.id (codes "consoles")) rows) (numbered rows level.0);
      idle = number_value LONGEST_SILENCE (find (λ r. bytes_eq r.id (codes "idle")) rows) (limited rows level.0);
      seconds = number_text LONGEST_SILENCE (find (λ r. bytes_eq r.id (codes "idle")) rows) (limited rows level.0);
      flag = flag_value (find (λ r. bytes_eq r.id (codes "stay")) rows) (λ r e. find_row ServeRow (codes "stay") rows r level.0 e);
      written = flag_text (find (λ r. bytes_eq r.id (codes "stay")) rows) (λ r e. find_row ServeRow (codes "stay") rows r level.0 e);
    }

-- ---- the arguments of `node`

-- `node`, as it is built
abbrev node_built : Shape
node_built = slice_index_or (built program).subs 2 serve_shape

node_fine : HasFineRules HasOneValue node_built.args_override_self node_built.rules
node_fine = record {
  once = refl;
  fine = (
    one_valued_fine HasOneValue _ refl refl (λ v h. (v, refl)),
    (one_valued_fine HasOneValue _ refl refl (λ v h. (v, refl)), (inl refl, tt)),
  );
  defaults = (inl refl, (inl refl, (inl refl, tt)));
}

-- an argument was given, and has a value
placed_value : (id : Text) (rows : List Row) → AllRows HasOneValue rows → is_given id rows ≡ true → is_some (first_of id rows) ≡ true
placed_value id rows all given =
    some_value (find (λ r. bytes_eq r.id id) rows) (λ r e. (find_row HasOneValue id rows r all e).0) given

arguments_of : (words : List Text) → level_fault node_built [] nothing_held words false [] ≡ []
    → HasArguments (rows_after node_built.rules [] words)
arguments_of words none =
    let rows = rows_after node_built.rules [] words in
    let level = level_rows HasOneValue node_built node_fine words none in
    let both = has_both (is_given (codes "node") rows) (is_given (codes "nodes") rows) level.1 in
    record { node = placed_value (codes "node") rows level.0 both.0; nodes = placed_value (codes "nodes") rows level.0 both.1 }

-- ---- the subcommand

-- the first of four that passes, if any does
abbrev FirstOf : (Shape → Bool) → Option Shape → Shape → Shape → Shape → Shape → Type 0
FirstOf p o a b d e = (o ≡ Some a) ⊎ (o ≡ Some b) ⊎ (o ≡ Some d) ⊎ ((o ≡ Some e) × (p e ≡ true)) ⊎ (o ≡ None)

first_of_four : (p : Shape → Bool) (a b d e : Shape) → FirstOf p (find p (a ∷ b ∷ d ∷ e ∷ [])) a b d e
first_of_four p a b d e = go (p a) (p b) (p d) (p e) refl
  where
    go : (x y z u : Bool) → p e ≡ u → FirstOf p (cond x (Some a) (cond y (Some b) (cond z (Some d) (cond u (Some e) None)))) a b d e
    go true y z u is = inl refl
    go false true z u is = inr (inl refl)
    go false false true u is = inr (inr (inl refl))
    go false false false true is = inr (inr (inr (inl (refl, is))))
    go false false false false is = inr (inr (inr (inr refl)))

abbrev script_built : Shape
script_built = slice_index_or (built program).subs 0 serve_shape

abbrev help_built : Shape
help_built = slice_index_or (built program).subs 3 serve_shape

-- `help` is no name of another subcommand
not_help : (name : Text) → bytes_eq name (codes "help") ≡ false → (bytes_eq (codes "help") name || false) ≡ true → ⊥
not_help name otherwise named = go (bytes_eq (codes "help") name) refl named
  where
    go : (b : Bool) → bytes_eq (codes "help") name ≡ b → (b || false) ≡ true → ⊥
    go true e h =
        let same : codes "help" ≡ name = (bytes_eq-Decides (codes "help") name).0 e in
        let bad : bytes_eq (codes "help") (codes "help") ≡ false = subst (λ (t : Text). bytes_eq t (codes "help") ≡ false) (sym same) otherwise in
        cc
    go false e h = cc

-- the subcommand that was found is `script`, or `serve` with its options, or `node` with its arguments
found_one : (o : Option Shape) (p : Text × List Text) → (bytes_eq p.0 (codes "help") ≡ false)
    → FirstOf (λ s. answers_to p.0 (label_of s)) o script_built serve_built node_built help_built
    → option_map_or (λ s. level_fault s [] nothing_held p.1 false []) o [] ≡ [] → is_some (option_map (λ s. rows_at s p.1) o) ≡ true
    → IsLooked (option_map (λ s. rows_at s p.1) o)
found_one o p other (inl is) none some = rw is (inl refl)
found_one o p other (inr (inl is)) none some =
    let level = subst (λ (x : Option Shape). option_map_or (λ s. level_fault s [] nothing_held p.1 false []) x [] ≡ []) is none in
    rw is (inr (inl (rows_after serve_built.rules [] p.1, refl, options_of p.1 level)))
found_one o p other (inr (inr (inl is))) none some =
    let level = subst (λ (x : Option Shape). option_map_or (λ s. level_fault s [] nothing_held p.1 false []) x [] ≡ []) is none in
    rw is (inr (inr (rows_after node_built.rules [] p.1, refl, arguments_of p.1 level)))
found_one o p other (inr (inr (inr (inl is)))) none some = absurd (not_help p.0 other is.1)
found_one o p other (inr (inr (inr (inr is)))) none some =
    let bad : false ≡ true = subst (λ (x : Option Shape). is_some (option_map (λ s. rows_at s p.1) x) ≡ true) is some in
    cc

entered_one : (stop : Option (Text × List Text)) → StopsFine stop → entered_fault (built program) stop ≡ []
    → is_some (entered (built program) stop) ≡ true → IsLooked (entered (built program) stop)
entered_one None fine none some = cc
entered_one (Some p) fine none some =
    found_one (find (λ s. answers_to p.0 (label_of s)) (built program).subs) p fine
    (first_of_four (λ s. answers_to p.0 (label_of s)) script_built serve_built node_built help_built) none some

is_entered : (b : Bool) → check_kinds (not b && false) (not b && true) false ≡ [] → b ≡ true
is_entered true h = refl
is_entered false h = cc

-- where clap takes the words, they name `script`, or `serve` with its options, or `node` with its arguments
pub looked : (words : List Text) → refusals words ≡ [] → IsLooked (subcommand_of program words)
looked words none =
    let a = built program in
    let rest = argument_words a words in
    let end = (walk a.top.rules (names_of a) nothing_held rest).held in
    let stop = (walk a.top.rules (names_of a) nothing_held rest).stopped in
    let walking = nil_both (walk_fault a.top (names_of a) (walk_from nothing_held) rest) _ none in
    let below = nil_both (entered_fault a stop) _ walking.1 in
    let settling = nil_both (settle_fault a.top.rules a.top.args_override_self end) _ below.1 in
    let checking = nil_both (defaults_fault (settled a.top.rules end).rows a.top.rules) _ settling.1 in
    let fine = walk_stops a.top refl (names_of a) (walk_from nothing_held) rest walking.0 tt in
    entered_one stop fine below.0 (is_entered (is_some (entered a stop)) checking.1)

-- options of `serve` that are refused
pub refused_options : (entered : Entered) (rows : List Row) (f : ArgFault) → entered ≡ Some (codes "serve", rows)
    → RefusesValues (λ id. first_of id rows) f → RefusesIn entered f
refused_options entered rows f same h = subst (λ (e : Entered). RefusesIn e f) (sym same) (inl (refl, h))

-- what the words ask for, by what they name
pub asked_by : (words : List Text) (e : Entered) (r : Result Mode ArgFault) → e ≡ subcommand_of program words → refusals words ≡ []
    → MatchResult r (AsksIn e) (RefusesIn e) → MatchResult r (Asks words) (Refuses words)
asked_by words e (Ok t) is none h = record { taken = none; asked = subst (λ (x : Entered). AsksIn x t) is h }
asked_by words e (Err (fault.Words x)) is none (inl h) = inl h.1
asked_by words e (Err (fault.Words x)) is none (inr h) = absurd h.1.refused
asked_by words e (Err (fault.Text f)) is none h = record { taken = none; refused = subst (λ (x : Entered). RefusesIn x (fault.Text f)) is h }
asked_by words e (Err fault.SameNode) is none h = record { taken = none; refused = subst (λ (x : Entered). RefusesIn x fault.SameNode) is h }
asked_by words e (Err fault.TooManyNodes) is none h = record { taken = none; refused = subst (λ (x : Entered). RefusesIn x fault.TooManyNodes) is h }
asked_by words e (Err fault.NoSuchNode) is none h = record { taken = none; refused = subst (λ (x : Entered). RefusesIn x fault.NoSuchNode) is h }
asked_by words e (Err (fault.Options f)) is none h = record { taken = none; refused = subst (λ (x : Entered). RefusesIn x (fault.Options f)) is h }
