use Rattle.std.proofs.Common.{◌≡◌, List, ℕ, ◌++◌, length, map, sym, ap, subst, ◌∙◌, arith}
use Rattle.std.proofs.lemmas.List.{length-append, length-map, with_items_is}
use Rattle.std.proofs.lemmas.List.Elements.{All-same, All-weaker}
use Rattle.node_threads.specs.Wires.{name_of, IsCrew}
use Rattle.node_threads.specs.Berths.{Berthed, wired_of, opened_of, IsOpened}
use Rattle.node_threads.proofs.Opening.{few, joined_known, lone_known, opens_all, names_all}
use Rattle.node_threads.proofs.berths.berths_of.Goals as goal

pub open_all-requires-clause-known : goal.open_all-requires-clause-known
open_all-requires-clause-known g c _ _ =
    joined_known c.args.cluster.now c.args.lone.now c.args.opening.now c.requires.opens

pub open_all-requires-clause-few : goal.open_all-requires-clause-few
open_all-requires-clause-few g c = omega (
  arith,
  few c.args.cluster.now c.args.lone.now c.requires.lists,
  length-append c.args.cluster.now c.args.lone.now,
  c.new-berths.ensures.len,
)

pub open_all-requires-2-clause-known : goal.open_all-requires-2-clause-known
open_all-requires-2-clause-known g c _ _ =
    lone_known c.args.cluster.now c.args.lone.now c.args.opening.now c.requires.opens

pub open_all-requires-2-clause-few : goal.open_all-requires-2-clause-few
open_all-requires-2-clause-few g c =
    let names : map name_of (wired_of c.open_all.new.berths.items)
    ≡ map name_of (wired_of c.new-berths.result.items) ++ c.args.cluster.now = c.in_ok-open_all.ensures.names in
    omega (
      arith,
      few c.args.cluster.now c.args.lone.now c.requires.lists,
      length-append c.args.cluster.now c.args.lone.now,
      c.open_all.new.berths.ok.0,
      ap length names,
      length-append (map name_of (wired_of c.new-berths.result.items)) c.args.cluster.now,
      ap (λ (bs : List Berthed). length (map name_of (wired_of bs))) c.new-berths.ensures.items,
      length-map (wired_of c.open_all.new.berths.items) name_of,
      length-map c.open_all.new.berths.items (λ (b : Berthed). b.wired),
    )

pub connect-requires-after_bounds : goal.connect-requires-after_bounds
connect-requires-after_bounds g c = λ κs within. All-same (λ (b : Berthed). b.made ≡ 1) _ c.open_all-2.new.berths.items c.as_mut_slice.ensures.value
    (All-weaker (IsOpened c.args.opening.now) (λ (b : Berthed). b.made ≡ 1) (λ b is. is.made) c.open_all-2.new.berths.items
    c.in_ok-open_all-2.ensures.opened)

pub returns : goal.returns
returns g c =
    let before : List Berthed = c.open_all-2.new.berths.items in
    let same : map opened_of c.connect.new.berths ≡ map opened_of before =
    c.in_ok-connect.ensures.opened ∙ ap (map opened_of) c.as_mut_slice.ensures.value in
    let names : map name_of (wired_of before) ≡ c.args.cluster.now ++ c.args.lone.now =
    c.in_ok-open_all-2.ensures.names
    ∙ ap (λ (l : List ℕ). l ++ c.args.lone.now)
    (c.in_ok-open_all.ensures.names
    ∙ ap (λ (bs : List Berthed). map name_of (wired_of bs) ++ c.args.cluster.now) c.new-berths.ensures.items) in
    let crew : IsCrew c.args.cluster.now c.args.lone.now (wired_of c.connect.new.berths) = record {
      names = names_all c.args.cluster.now c.args.lone.now c.args.opening.now c.requires.opens before c.connect.new.berths names same;
      wired = c.in_ok-connect.ensures.wired;
      opens = opens_all c.args.cluster.now c.args.lone.now c.args.opening.now c.requires.opens c.requires.first before c.connect.new.berths names
          c.in_ok-open_all-2.ensures.opened same;
    } in
    subst (λ (bs : List Berthed). IsCrew c.args.cluster.now c.args.lone.now (wired_of bs))
    (sym (with_items_is c.open_all-2.new.berths c.connect.new.berths
    (omega (arith, ap length same, length-map c.connect.new.berths opened_of, length-map before opened_of, c.open_all-2.new.berths.ok.0))))
    crew
