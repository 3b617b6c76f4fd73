use Rattle.std.proofs.Common.{◌<◌, ap, max, subst, ◌∙◌}
use Rattle.layout_matching.specs.declared.lookup.Lookup.{Lookup}
use Rattle.layout_positions.proofs.TollLemmas.{plain_kind, plain_walk}
use Rattle.opentype_layout.specs.Lookups.{lookup_by}
use Rattle.opentype_layout.proofs.positioning.plain_walk_work.Goals as goal

pub returns : goal.returns
returns c = λ map.
    let head = c.requires.head in
    let l : Lookup = lookup_by c.args.tables.now map c.args.head.now in
    plain_walk l c.args.count c.max-parts.result c.saturating_mul.result c.requires.kind
    (plain_kind l c.requires.kind (subst (λ kind. kind < 7) head.kind c.requires.plain))
    (c.max-parts.ensures ∙ ap (λ n. max n 1) head.subtables) c.saturating_mul.ensures
