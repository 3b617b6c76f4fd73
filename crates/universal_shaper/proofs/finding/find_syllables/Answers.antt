use Rattle.std.proofs.Common.{ap, ◌∙◌, arith}
use Rattle.syllabic.specs.Walking.{each_syllable, marked}
use Rattle.universal_shaper.specs.Syllables.{joiners_skipped, numbered}
use Rattle.universal_shaper.proofs.finding.find_syllables.Goals as goal

pub returns : goal.returns
returns c =
    let one = c.categorize.ensures in
    let two = c.skip_joiners.ensures in
    let three = c.number.ensures in
    let four = c.mark_syllables.ensures in
    record {
      made = four.made ∙ ap (each_syllable marked) (three.made ∙ ap numbered (two.made ∙ ap joiners_skipped one.made));
      no_longer = omega (arith, one.no_longer, two.no_longer, three.no_longer, four.no_longer);
      same_limit = four.same_limit ∙ three.same_limit ∙ two.same_limit ∙ one.same_limit;
    }
