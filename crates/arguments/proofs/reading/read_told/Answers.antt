use Rattle.std.proofs.Common.{◌≡◌, ◌∙◌, ap, sym, subst, codes, Some, option_map, List, ℕ, Bor}
use Rattle.clap.specs.Words.{first_of, found_of, one_of, rows_of}
use Rattle.clap.proofs.CallerLemmas.{some_of_text}
use Rattle.clap.proofs.WalkLemmas.{first_value-rows, one_text-rows}
use Rattle.arguments.specs.Nodes.{PlacesNodes}
use Rattle.arguments.specs.Reading.{RefusesTold, Tells, Values}
use Rattle.arguments.proofs.Counted.{flag_read, handed_on, lists_refused}
use Rattle.arguments.proofs.reading.read_told.Goals as goal

pub unwrap-listen-requires : goal.unwrap-listen-requires
unwrap-listen-requires c =
    some_of_text _ c.get_str.result _ (c.get_str.ensures ∙ first_value-rows (found_of c.args.matches.now) (codes "listen")) c.requires.listen

pub unwrap-nodes-requires : goal.unwrap-nodes-requires
unwrap-nodes-requires c =
    some_of_text _ c.get_str-2.result _ (c.get_str-2.ensures ∙ first_value-rows (found_of c.args.matches.now) (codes "nodes")) c.requires.nodes

pub returns-in_err-cluster : goal.returns-in_err-cluster
returns-in_err-cluster c =
    let f = found_of c.args.matches.now in
    let nodes : first_of (codes "nodes") (rows_of f) ≡ Some c.unwrap-nodes.result.now =
    sym (c.get_str-2.ensures ∙ first_value-rows f (codes "nodes")) ∙ ap (option_map (λ (s : Bor (List ℕ)). s.now)) c.unwrap-nodes.ensures in
    let values : Values = λ id. first_of id (rows_of f) in
    handed_on (Tells values) (RefusesTold values) c.from_residual.result c.in_err-cluster.field-0.0 c.from_residual.ensures.1
    (lists_refused _ c.unwrap-nodes.result.now _ c.in_err-cluster.field-0.0 nodes
    (c.get_str-3.ensures ∙ first_value-rows f (codes "lone")) c.in_err-cluster.ensures)

pub returns : goal.returns
returns c =
    let f = found_of c.args.matches.now in
    let listen : first_of (codes "listen") (rows_of f) ≡ Some c.unwrap-listen.result.now =
    sym (c.get_str.ensures ∙ first_value-rows f (codes "listen")) ∙ ap (option_map (λ (s : Bor (List ℕ)). s.now)) c.unwrap-listen.ensures in
    let nodes : first_of (codes "nodes") (rows_of f) ≡ Some c.unwrap-nodes.result.now =
    sym (c.get_str-2.ensures ∙ first_value-rows f (codes "nodes")) ∙ ap (option_map (λ (s : Bor (List ℕ)). s.now)) c.unwrap-nodes.ensures in
    let one = one_text-rows f (codes "stay") in
    record {
      address = listen ∙ ap Some (sym c.in_ok-listen.ensures.ok);
      list = c.unwrap-nodes.result.now;
      nodes = nodes;
      placed = subst (λ o. PlacesNodes c.unwrap-nodes.result.now o c.in_ok-cluster.cluster c.in_ok-cluster.lone)
          (c.get_str-3.ensures ∙ first_value-rows f (codes "lone")) c.in_ok-cluster.ensures;
      count = c.read_consoles-consoles.ensures;
      stays = flag_read (first_of (codes "stay") (rows_of f)) (one_of (codes "stay") (rows_of f)) c.get_flag-stay.result c.requires.flag
          c.requires.written (λ e. c.get_flag-stay.ensures.none (one ∙ e)) (λ e. c.get_flag-stay.ensures.value (one ∙ e))
          (λ e. c.get_flag-stay.ensures.other (one ∙ e));
      cookie = c.in_ok-cookie_file.ensures ∙ c.get_str-4.ensures ∙ first_value-rows f (codes "cookie-file");
      limit = c.read_idle.ensures;
    }
