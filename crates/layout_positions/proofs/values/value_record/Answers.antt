use Rattle.std.proofs.Common.{FitsSigned, rules, ap, ◌∙◌}
use Rattle.std.proofs.lemmas.Int.{to_z-of_z}
use Rattle.layout_positions.specs.Values.{advance_only}
use Rattle.layout_positions.proofs.ValueLemmas.{advance_said, none_said, sizeless}
use Rattle.layout_positions.proofs.values.value_record.Goals as goal
use mir.Syntax.{w32}

pub returns-in-0 : goal.returns-in-0
returns-in-0 c = c.advance_only.ensures ∙ none_said c.args.lookup.now c.args.format c.args.base c.args.at c.in-0.is

pub returns-in-4 : goal.returns-in-4
returns-in-4 c =
    let fits : FitsSigned w32 c.i16_at.result = search rules in
    c.advance_only-in-4.ensures ∙ ap advance_only (to_z-of_z w32 c.i16_at.result fits ∙ c.i16_at.ensures.value)
    ∙ advance_said c.args.lookup.now c.args.format c.args.base c.args.at c.in-4.is (sizeless c.args.lookup.now (search rules))
