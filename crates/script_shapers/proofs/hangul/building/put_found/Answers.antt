use Rattle.std.proofs.Common.{rules, ◌≡◌, None, sym}
use Rattle.std.proofs.lemmas.List.{append-nil}
use Rattle.script_shapers.proofs.hangul.building.put_found.Goals as goal

pub returns-in_default-clause-ok : goal.returns-in_default-clause-ok
returns-in_default-clause-ok c =
    let none : c.args.found ≡ None = search rules in
    rw none (sym (append-nil c.args.items.now.items))
