use Rattle.std.proofs.Common.{◌∙◌, Some, sym, ap, subst}
use Rattle.layout_matching.specs.declared.firsts.Firsts.{Firsts}
use Rattle.layout_matching.specs.declared.lookup.Lookup.{Lookup}
use Rattle.opentype_layout.specs.Digested.{IsSaid}
use Rattle.opentype_layout.proofs.StoredLemmas.{known_said, known_some}
use Rattle.opentype_layout.proofs.lookups.made_ready.Goals as goal

pub returns-clause-value : goal.returns-clause-value
returns-clause-value c =
    ap Some c.used.ensures
    ∙ known_some c.args.tables c.args.map.now c.args.stored.firsts.now c.args.known.now c.args.head.now c.requires.known c.requires.head

pub returns-clause-said : goal.returns-clause-said
returns-clause-said c =
    let known = c.args.known.now in
    let firsts : Firsts = record { all = c.args.stored.firsts; from = known.from; count = known.count; wholes = c.args.stored.wholes; index = c.args.map.now.index } in
    subst (λ (l : Lookup). IsSaid c.args.tables.positioning (record { lookup = l; digest = known.digest; firsts = firsts })) (sym c.used.ensures)
    (known_said c.args.tables c.args.map.now c.args.stored known c.args.head.now c.requires.known c.requires.wholes c.requires.head)
