use Rattle.std.proofs.Common.{◌≡◌, true, rules, refl}
use Rattle.std.specs.Prelude.{◌&&◌, not}
use Rattle.shape_glyphs.specs.Ignorables.{ignorables_zeroed, hides_ignorables, removes_ignorables}
use Rattle.shape_glyphs.proofs.StepLemmas.{Made-as}
use Rattle.shape_glyphs.proofs.ignorables.zero_width_default_ignorables.Goals as goal

pub returns : goal.returns
unfolding ignorables_zeroed
returns c =
    let b = c.args.buffer.now in
    let on : (hides_ignorables b && not (removes_ignorables b)) ≡ true = search rules in
    Made-as ignorables_zeroed c.zero_ignorables.ensures (rw on refl)
