use Rattle.font_variations.proofs.PartLemmas.{slope_part}
use Rattle.font_variations.proofs.tents.Tent.scalar.Goals as goal

pub returns-clause-part : goal.returns-clause-part
returns-clause-part c =
    let self = c.args.self.now in
    let formed = c.if-is_malformed.false in
    slope_part c.slope.result self.start self.peak self.end _ c.slope.ensures c.requires.start c.requires.end
    (c.is_malformed.ensures.rises formed) (c.is_malformed.ensures.falls formed)
