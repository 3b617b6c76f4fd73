use Rattle.std.proofs.Common.{ap, ◌∙◌, arith}
use Rattle.syllabic.specs.Walking.{each_syllable, marked}
use Rattle.myanmar_shaper.specs.Syllables.{numbered}
use Rattle.myanmar_shaper.proofs.finding.find_syllables.Goals as goal

pub returns : goal.returns
returns c =
    let one = c.categorize.ensures in
    let two = c.number.ensures in
    let three = c.mark_syllables.ensures in
    record {
      made = three.made ∙ ap (each_syllable marked) (two.made ∙ ap numbered one.made);
      no_longer = omega (arith, one.no_longer, two.no_longer, three.no_longer);
      same_limit = three.same_limit ∙ two.same_limit ∙ one.same_limit;
    }
