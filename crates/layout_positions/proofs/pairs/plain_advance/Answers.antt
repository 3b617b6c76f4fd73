use Rattle.std.proofs.Common.{FitsSigned, rules, ap, sym, ◌∙◌}
use Rattle.std.proofs.lemmas.Int.{to_z-of_z}
use Rattle.layout_positions.specs.Pairs.{advance_values}
use Rattle.layout_positions.proofs.ValueLemmas.{alone_said}
use Rattle.layout_positions.proofs.pairs.plain_advance.Goals as goal
use mir.Syntax.{w32}

pub returns : goal.returns
returns c =
    let fits : FitsSigned w32 c.i16_at.result = search rules in
    alone_said c.args.lookup.now c.args.records.now c.i16_at.result (sym c.is_advance_alone.ensures ∙ c.if-not-is_advance_alone.false) c.i16_at.ensures.value fits
    ∙ ap advance_values (sym (to_z-of_z w32 c.i16_at.result fits))
