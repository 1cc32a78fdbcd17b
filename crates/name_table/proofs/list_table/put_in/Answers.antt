use Rattle.std.proofs.Common.{ap, sym, ◌∙◌, arith, Result, Ok, Err, OnErr}
use Rattle.registry_model.specs.Process.{Text}
use Rattle.registry_model.specs.Table.{Pair, Table, is_rising}
use Rattle.registry_model.proofs.Tables.{is_rising-put}
use Rattle.name_table.specs.Places.{place, stands}
use Rattle.name_table.proofs.Places.{place_within, get-absent, put_stands, put_absent}
use Rattle.name_table.proofs.list_table.put_in.Goals as goal

-- what holds anyway holds of a refusal
where_refused : {T E P : Type 0} (r : Result T E) → P → OnErr r P
where_refused (Ok x) h = tt
where_refused (Err e) h = h

pub insert-requires : goal.insert-requires
insert-requires g c =
    let within = place_within c.pair.inside.name c.as_slice.result.now in
    let at = c.place_of-at.ensures in
    let len = c.as_slice.ensures.len in
    omega (arith, within, at, len)

pub returns-then-stands_at-clause-ok : goal.returns-then-stands_at-clause-ok
returns-then-stands_at-clause-ok g c =
    let name = ap (λ (e : Pair). e.name) c.pair.view_is in
    put_stands c.args.pair c.args.pairs.now.items c.place_of-at.result
    (c.place_of-at.ensures ∙ ap (λ (x : Text). place x c.as_slice.result.now) name
    ∙ ap (place c.args.pair.name) c.as_slice.ensures.value)
    (ap (λ (t : Table). stands c.args.pair.name t c.place_of-at.result) (sym c.as_slice-2.ensures.value)
    ∙ ap (λ (x : Text). stands x c.as_slice-2.result.now c.place_of-at.result) (sym name)
    ∙ sym c.stands_at.ensures ∙ c.if-stands_at.true)

pub returns-then-stands_at-clause-rising : goal.returns-then-stands_at-clause-rising
returns-then-stands_at-clause-rising g c =
    ap is_rising (returns-then-stands_at-clause-ok g c) ∙ is_rising-put c.args.pair c.args.pairs.now.items c.requires

pub returns-in_ok-insert-clause-ok : goal.returns-in_ok-insert-clause-ok
returns-in_ok-insert-clause-ok g c =
    let name = ap (λ (e : Pair). e.name) c.pair.view_is in
    c.in_ok-insert.ensures.items ∙ put_absent c.args.pair c.args.pairs.now.items c.place_of-at.result
    (c.place_of-at.ensures ∙ ap (λ (x : Text). place x c.as_slice.result.now) name
    ∙ ap (place c.args.pair.name) c.as_slice.ensures.value)
    (ap (λ (t : Table). stands c.args.pair.name t c.place_of-at.result) (sym c.as_slice-2.ensures.value)
    ∙ ap (λ (x : Text). stands x c.as_slice-2.result.now c.place_of-at.result) (sym name)
    ∙ sym c.stands_at.ensures ∙ c.if-stands_at.false)

pub returns-in_ok-insert-clause-rising : goal.returns-in_ok-insert-clause-rising
returns-in_ok-insert-clause-rising g c =
    ap is_rising (returns-in_ok-insert-clause-ok g c) ∙ is_rising-put c.args.pair c.args.pairs.now.items c.requires

pub returns-in_err-insert-clause-absent : goal.returns-in_err-insert-clause-absent
returns-in_err-insert-clause-absent g c =
    let name = ap (λ (e : Pair). e.name) c.pair.view_is in
    let at = c.place_of-at.ensures ∙ ap (λ (x : Text). place x c.as_slice.result.now) name
    ∙ ap (place c.args.pair.name) c.as_slice.ensures.value in
    where_refused c.from_residual.result (get-absent c.args.pair.name c.args.pairs.now.items c.requires
    (ap (stands c.args.pair.name c.args.pairs.now.items) (sym at)
    ∙ ap (λ (t : Table). stands c.args.pair.name t c.place_of-at.result) (sym c.as_slice-2.ensures.value)
    ∙ ap (λ (x : Text). stands x c.as_slice-2.result.now c.place_of-at.result) (sym name)
    ∙ sym c.stands_at.ensures ∙ c.if-stands_at.false))
