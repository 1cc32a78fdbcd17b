-- Lines that tell why something is refused.
use Rattle.std.proofs.Common.{ℕ, ◌≡◌, List, [], ◌++◌, Option, Some, None, IfOk, IfSome, MatchResult, Result, Ok, Err, refl, ap, subst, codes, option_map}
use Rattle.std.specs.Io.KnownBytes.{Keeps}
use Rattle.std.proofs.KnownBytes.{Appends-kept, Appends-nil, Keeps-refl}
use Rattle.text_lines.specs.Writing.{AppendsPart, Writes}
use Rattle.text_lines.proofs.Written.{Writes-partly}
use Rattle.arguments.specs.Faults.{option_text, word_of}
use Rattle.arguments.specs.declared.faults.ArgFault.{ArgFault}
use Rattle.arguments.specs.declared.faults.ArgFault.TheVariants.{Options, Words, Text, SameNode, TooManyNodes, NoSuchNode}
use Rattle.arguments.specs.declared.faults.OptionFault.{OptionFault}
use Rattle.server.specs.Printing.{ended, error_line}
use Rattle.cluster_main.specs.Refusing.{IsRefused, IsTold, RefusesValue, fault_line, refusal}

-- nothing is a part of each line
nothing_told : (a b : Option (List ℕ)) (line : List ℕ) → Keeps a b → AppendsPart a b line
nothing_told a b line h = ([], line, refl, Appends-kept a a b [] (Appends-nil a) h)

-- nothing was told, for want of memory
pub value_untold : {T E : Type 0} (option value : List ℕ) (bytes : T → List ℕ) (words : Result T E) (a : Option (List ℕ))
    → MatchResult words (λ text. AppendsPart a a (refusal option value (bytes text))) (λ _. Keeps a a)
value_untold option value bytes (Ok text) a = nothing_told a a _ (Keeps-refl a)
value_untold option value bytes (Err e) a = Keeps-refl a

-- words that are told are those that are known
pub value_refused : {T E : Type 0} (option value : List ℕ) (known : Option (List ℕ)) (bytes : T → List ℕ) (words : Result T E)
    (a b : Option (List ℕ)) → IfOk words (λ text. IfSome known (λ k. bytes text ≡ k))
    → MatchResult words (λ text. AppendsPart a b (refusal option value (bytes text))) (λ _. Keeps a b) → RefusesValue option value known a b
value_refused option value known bytes (Ok text) a b said told = (bytes text, said, told)
value_refused option value None bytes (Err e) a b said told = ([], tt, nothing_told a b _ told)
value_refused option value (Some words) bytes (Err e) a b said told = (words, refl, nothing_told a b _ told)

-- an option that doesn't go with the others was told of
pub option_refused : {T E : Type 0} (f : OptionFault) (a c d : Option (List ℕ)) (r : Result T E) (text : List ℕ) → text ≡ option_text f
    → Writes c d r (ended (codes "error: " ++ text)) → IsRefused (Options f) a a c d 2
option_refused f a c d r text is w = record {
  line = ended (codes "error: " ++ option_text f);
  line_is = refl;
  unprinted = Keeps-refl a;
  told = subst (λ (t : List ℕ). AppendsPart c d (ended (codes "error: " ++ t))) is (Writes-partly c d r _ w);
  status_is = refl;
}

-- the word of a fault was told
word_told : {T E : Type 0} (f : ArgFault) (a c d : Option (List ℕ)) (r : Result T E) (word : List ℕ) → fault_line f ≡ Some (error_line word)
    → Writes c d r (error_line word) → IsTold f a a c d 2
word_told f a c d r word is w = record {
  line = error_line word;
  line_is = is;
  unprinted = Keeps-refl a;
  told = Writes-partly c d r _ w;
  status_is = refl;
}

-- a fault of the nodes was told of
pub nodes_refused : {T E : Type 0} (f : ArgFault) (a c d : Option (List ℕ)) (r : Result T E) (word : List ℕ) → word_of f ≡ Some word
    → Writes c d r (error_line word) → IsRefused f a a c d 2
nodes_refused (Words e) a c d r word is w = cc
nodes_refused (Options f) a c d r word is w = cc
nodes_refused (Text f) a c d r word is w = word_told (Text f) a c d r word (ap (option_map error_line) is) w
nodes_refused SameNode a c d r word is w = word_told SameNode a c d r word (ap (option_map error_line) is) w
nodes_refused TooManyNodes a c d r word is w = word_told TooManyNodes a c d r word (ap (option_map error_line) is) w
nodes_refused NoSuchNode a c d r word is w = word_told NoSuchNode a c d r word (ap (option_map error_line) is) w
