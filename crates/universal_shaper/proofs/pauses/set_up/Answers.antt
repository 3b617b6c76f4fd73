use Rattle.std.proofs.Common.{ap, ◌∙◌, arith}
use Rattle.universal_shaper.specs.Pauses.{rephas_masked_if, forms_set_unless}
use Rattle.universal_shaper.proofs.pauses.set_up.Goals as goal

pub returns : goal.returns
returns c =
    let one = c.find_syllables.ensures in
    let two = c.mask_rephas_if.ensures in
    let three = c.set_forms_unless.ensures in
    record {
      made = three.made ∙ ap (forms_set_unless c.args.joins c.args.forms) (two.made ∙ ap (rephas_masked_if c.args.repha) one.made);
      no_longer = omega (arith, one.no_longer, two.no_longer, three.no_longer);
      same_limit = three.same_limit ∙ two.same_limit ∙ one.same_limit;
    }
