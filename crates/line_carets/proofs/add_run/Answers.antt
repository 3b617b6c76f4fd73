use Rattle.std.proofs.Common.{◌≡◌, ◌++◌, None, Some, slice_get, length, refl, sym, ap, subst, ◌∙◌, OnOk, append-nil}
use Rattle.std.proofs.lemmas.Option.{slice_get_past, slice_get_read}
use Rattle.line_carets.specs.LineCarets as places
use Rattle.line_carets.proofs.add_run.Goals as goal

pub returns-in_default : goal.returns-in_default
returns-in_default c =
    let runs = c.args.runs.now in
    let past : slice_get runs c.args.place ≡ None = slice_get_past runs c.args.place c.in_default.ensures.lookup.3 in
    sym (ap (λ run. c.args.all.now.items ++ places.carets_if c.args.stops.now run) past ∙ append-nil c.args.all.now.items)

pub returns : goal.returns
returns c =
    let runs = c.args.runs.now in
    let found : slice_get runs c.args.place ≡ Some c.in-Some.run'.now =
    slice_get_read runs (length runs) c.args.place c.in-Some.run'.now refl c.in-Some.ensures.lookup.3.0 c.in-Some.ensures.lookup.1 in
    subst (λ run. OnOk c.add_carets.result (c.add_carets.new.all.items ≡ c.args.all.now.items ++ places.carets_if c.args.stops.now run))
    (sym found) c.add_carets.ensures
