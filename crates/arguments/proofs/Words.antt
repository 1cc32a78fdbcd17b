-- The words that the program takes, computed.
use Rattle.std.proofs.Common.{[], ◌∷◌, ◌≡◌, refl, true, codes, Some, None}
use Rattle.clap.specs.Words.{Text, is_simple, is_simple_and_free, subcommand_of}
use Rattle.clap.proofs.OnLiterals.{clap_on_literals}
use Rattle.clap.specs.declared.error.kind.ErrorKind.TheVariants as kind
use Rattle.arguments.specs.CommandLine.{KnownWords, program, refusals, running, serving, value_in}

-- no argument has a rule on another
pub is_free : is_simple_and_free program ≡ true
unfolding clap_on_literals
is_free = refl

pub is_plain : is_simple program ≡ true
unfolding clap_on_literals
is_plain = refl

script : (name : Text) → refusals (name ∷ codes "script" ∷ []) ≡ []
unfolding clap_on_literals
script name = refl

help : (name : Text) → refusals (name ∷ codes "--help" ∷ []) ≡ kind.DisplayHelp ∷ []
unfolding clap_on_literals
help name = refl

short_help : (name : Text) → refusals (name ∷ codes "-h" ∷ []) ≡ kind.DisplayHelp ∷ []
unfolding clap_on_literals
short_help name = refl

version : (name : Text) → refusals (name ∷ codes "--version" ∷ []) ≡ kind.DisplayVersion ∷ []
unfolding clap_on_literals
version name = refl

nothing : (name : Text) → refusals (name ∷ []) ≡ kind.MissingSubcommand ∷ []
unfolding clap_on_literals
nothing name = refl

nonsense : (name : Text) → refusals (name ∷ codes "nonsense" ∷ []) ≡ kind.UnknownArgument ∷ kind.InvalidSubcommand ∷ []
unfolding clap_on_literals
nonsense name = refl

more : (name : Text) → refusals (name ∷ codes "script" ∷ codes "more" ∷ []) ≡ kind.UnknownArgument ∷ []
unfolding clap_on_literals
more name = refl

serve_help : (name : Text) → refusals (name ∷ codes "serve" ∷ codes "--help" ∷ []) ≡ kind.DisplayHelp ∷ []
unfolding clap_on_literals
serve_help name = refl

serve_alone : (name : Text) → refusals (name ∷ codes "serve" ∷ []) ≡ kind.MissingRequiredArgument ∷ []
unfolding clap_on_literals
serve_alone name = refl

serve_without_nodes : (name : Text) → refusals (name ∷ codes "serve" ∷ codes "--listen" ∷ codes "x:1" ∷ []) ≡ kind.MissingRequiredArgument ∷ []
unfolding clap_on_literals
serve_without_nodes name = refl

serve_with_nodes : (name : Text) → refusals (serving name []) ≡ []
unfolding clap_on_literals
serve_with_nodes name = refl

serve_with_consoles : (name : Text) → refusals (serving name (codes "--consoles" ∷ codes "1024" ∷ [])) ≡ []
unfolding clap_on_literals
serve_with_consoles name = refl

too_many_consoles : (name : Text) → refusals (serving name (codes "--consoles" ∷ codes "1025" ∷ [])) ≡ kind.ValueValidation ∷ []
unfolding clap_on_literals
too_many_consoles name = refl

no_consoles : (name : Text) → refusals (serving name (codes "--consoles=0" ∷ [])) ≡ kind.ValueValidation ∷ []
unfolding clap_on_literals
no_consoles name = refl

lone_twice : (name : Text) → refusals (serving name (codes "--lone=d" ∷ codes "--lone=e" ∷ [])) ≡ kind.ArgumentConflict ∷ []
unfolding clap_on_literals
lone_twice name = refl

serve_staying : (name : Text) → refusals (serving name (codes "--stay" ∷ [])) ≡ []
unfolding clap_on_literals
serve_staying name = refl

stay_twice : (name : Text) → refusals (serving name (codes "--stay" ∷ codes "--stay" ∷ [])) ≡ kind.ArgumentConflict ∷ []
unfolding clap_on_literals
stay_twice name = refl

stay_with_a_value : (name : Text) → refusals (serving name (codes "--stay=yes" ∷ [])) ≡ kind.TooManyValues ∷ []
unfolding clap_on_literals
stay_with_a_value name = refl

serve_with_a_cookie : (name : Text) → refusals (serving name (codes "--cookie-file" ∷ codes "x" ∷ [])) ≡ []
unfolding clap_on_literals
serve_with_a_cookie name = refl

longest_silence : (name : Text) → refusals (serving name (codes "--idle" ∷ codes "31536000" ∷ [])) ≡ []
unfolding clap_on_literals
longest_silence name = refl

too_long_silence : (name : Text) → refusals (serving name (codes "--idle=31536001" ∷ [])) ≡ kind.ValueValidation ∷ []
unfolding clap_on_literals
too_long_silence name = refl

no_silence : (name : Text) → refusals (serving name (codes "--idle=0" ∷ [])) ≡ kind.ValueValidation ∷ []
unfolding clap_on_literals
no_silence name = refl

address : (name : Text) → value_in (subcommand_of program (serving name [])) (codes "listen") ≡ Some (codes "x:1")
unfolding clap_on_literals
address name = refl

nodes : (name : Text) → value_in (subcommand_of program (serving name [])) (codes "nodes") ≡ Some (codes "a,b")
unfolding clap_on_literals
nodes name = refl

no_lone : (name : Text) → value_in (subcommand_of program (serving name [])) (codes "lone") ≡ None
unfolding clap_on_literals
no_lone name = refl

lone : (name : Text) → value_in (subcommand_of program (serving name (codes "--lone=d" ∷ []))) (codes "lone") ≡ Some (codes "d")
unfolding clap_on_literals
lone name = refl

stays : (name : Text) → value_in (subcommand_of program (serving name (codes "--stay" ∷ []))) (codes "stay") ≡ Some (codes "true")
unfolding clap_on_literals
stays name = refl

cookie_file : (name : Text) → value_in (subcommand_of program (serving name (codes "--cookie-file=x" ∷ []))) (codes "cookie-file") ≡ Some (codes "x")
unfolding clap_on_literals
cookie_file name = refl

idle : (name : Text) → value_in (subcommand_of program (serving name (codes "--idle=9" ∷ []))) (codes "idle") ≡ Some (codes "9")
unfolding clap_on_literals
idle name = refl

ends : (name : Text) → value_in (subcommand_of program (serving name [])) (codes "stay") ≡ Some (codes "false")
unfolding clap_on_literals
ends name = refl

node_help : (name : Text) → refusals (name ∷ codes "node" ∷ codes "--help" ∷ []) ≡ kind.DisplayHelp ∷ []
unfolding clap_on_literals
node_help name = refl

node_alone : (name : Text) → refusals (name ∷ codes "node" ∷ []) ≡ kind.MissingRequiredArgument ∷ []
unfolding clap_on_literals
node_alone name = refl

node_without_list : (name : Text) → refusals (name ∷ codes "node" ∷ codes "a" ∷ []) ≡ kind.MissingRequiredArgument ∷ []
unfolding clap_on_literals
node_without_list name = refl

node_of_a_list : (name : Text) → refusals (running name []) ≡ []
unfolding clap_on_literals
node_of_a_list name = refl

node_with_more : (name : Text) → refusals (running name (codes "c" ∷ [])) ≡ kind.UnknownArgument ∷ []
unfolding clap_on_literals
node_with_more name = refl

node_with_an_option : (name : Text) → refusals (running name (codes "--stay" ∷ [])) ≡ kind.UnknownArgument ∷ []
unfolding clap_on_literals
node_with_an_option name = refl

own_node : (name : Text) → value_in (subcommand_of program (running name [])) (codes "node") ≡ Some (codes "a")
unfolding clap_on_literals
own_node name = refl

all_nodes : (name : Text) → value_in (subcommand_of program (running name [])) (codes "nodes") ≡ Some (codes "a,b")
unfolding clap_on_literals
all_nodes name = refl

pub known_words : KnownWords
known_words = record {
  script = script;
  help = help;
  short_help = short_help;
  version = version;
  nothing = nothing;
  nonsense = nonsense;
  more = more;
  serve_help = serve_help;
  serve_alone = serve_alone;
  serve_without_nodes = serve_without_nodes;
  serve_with_nodes = serve_with_nodes;
  serve_with_consoles = serve_with_consoles;
  too_many_consoles = too_many_consoles;
  no_consoles = no_consoles;
  lone_twice = lone_twice;
  serve_staying = serve_staying;
  stay_twice = stay_twice;
  stay_with_a_value = stay_with_a_value;
  serve_with_a_cookie = serve_with_a_cookie;
  longest_silence = longest_silence;
  too_long_silence = too_long_silence;
  no_silence = no_silence;
  address = address;
  nodes = nodes;
  no_lone = no_lone;
  lone = lone;
  stays = stays;
  cookie_file = cookie_file;
  idle = idle;
  ends = ends;
  node_help = node_help;
  node_alone = node_alone;
  node_without_list = node_without_list;
  node_of_a_list = node_of_a_list;
  node_with_more = node_with_more;
  node_with_an_option = node_with_an_option;
  own_node = own_node;
  all_nodes = all_nodes;
}
