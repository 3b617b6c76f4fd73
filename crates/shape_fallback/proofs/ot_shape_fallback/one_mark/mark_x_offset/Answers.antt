use Rattle.std.proofs.Common.{◌≡◌, ◌∙◌, arith, to_z, of_z, w32}
use Rattle.shape_common.proofs.WrappingLemmas.{kept_bits}
use Rattle.shape_fallback.specs.OneMark.{mark_x_offset}
use Rattle.shape_fallback.proofs.ExactLemmas.{x_offset-exact}
use Rattle.shape_fallback.proofs.ot_shape_fallback.one_mark.mark_x_offset.Goals as goal

pub returns-then-is_double-clause-exact : goal.returns-then-is_double-clause-exact
returns-then-is_double-clause-exact c = λ fits.
    let value : to_z w32 (of_z w32 c.difference-then-is_double.result)
    ≡ mark_x_offset c.args.horizontal c.args.forward c.args.ccc c.args.base c.args.mark = grind (arith, kept_bits) in
    value ∙ x_offset-exact _ _ _ _ _ fits

pub returns-then-is_left-clause-exact : goal.returns-then-is_left-clause-exact
returns-then-is_left-clause-exact c = λ fits.
    let value : to_z w32 (of_z w32 c.difference-then-is_left.result)
    ≡ mark_x_offset c.args.horizontal c.args.forward c.args.ccc c.args.base c.args.mark = grind (arith, kept_bits) in
    value ∙ x_offset-exact _ _ _ _ _ fits

pub returns-then-is_right-clause-exact : goal.returns-then-is_right-clause-exact
returns-then-is_right-clause-exact c = λ fits.
    let value : to_z w32 (of_z w32 c.difference-then-is_right-2.result)
    ≡ mark_x_offset c.args.horizontal c.args.forward c.args.ccc c.args.base c.args.mark = grind (arith, kept_bits) in
    value ∙ x_offset-exact _ _ _ _ _ fits

pub returns-clause-exact : goal.returns-clause-exact
returns-clause-exact c = λ fits.
    let value : to_z w32 (of_z w32 c.difference-3.result)
    ≡ mark_x_offset c.args.horizontal c.args.forward c.args.ccc c.args.base c.args.mark = grind (arith, kept_bits) in
    value ∙ x_offset-exact _ _ _ _ _ fits
