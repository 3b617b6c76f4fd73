use Rattle.std.proofs.Common.{◌≡◌, ◌∙◌, rules, to_z, of_z, w32}
use Rattle.shape_common.specs.Wrapping.{◌-ʷ◌, -ʷ-exact}
use Rattle.shape_glyphs.proofs.zeroing.move_back.Goals as goal

pub returns-clause-exact_x : goal.returns-clause-exact_x
returns-clause-exact_x c = λ fits.
    let kept : to_z w32 (of_z w32 c.difference.result) ≡ c.args.position.x_offset -ʷ c.args.position.x_advance = search rules in
    kept ∙ -ʷ-exact c.args.position.x_offset c.args.position.x_advance fits

pub returns-clause-exact_y : goal.returns-clause-exact_y
returns-clause-exact_y c = λ fits.
    let kept : to_z w32 (of_z w32 c.difference-2.result) ≡ c.args.position.y_offset -ʷ c.args.position.y_advance = search rules in
    kept ∙ -ʷ-exact c.args.position.y_offset c.args.position.y_advance fits
