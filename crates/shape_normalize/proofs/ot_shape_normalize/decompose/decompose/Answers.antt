use Rattle.std.proofs.Common.{map, sym, ap}
use Rattle.std.specs.Option.{option_map, is_some}
use Rattle.shape_plan.specs.Rules.{rules_of, decompositions, has_glyph}
use Rattle.shape_normalize.specs.Recast.{mapped_char}
use Rattle.shape_normalize.proofs.RoundOne.ChainPartLemmas.{chosen-unsplit}
use Rattle.shape_normalize.proofs.ot_shape_normalize.decompose.decompose.Goals as goal

pub returns-in-None : goal.returns-in-None
returns-in-None g c =
    let shaper = g.T.Shaper.hb_ot_shaper_t in
    let rules = rules_of g.T.Unicode.hb_unicode_funcs_t.unicode shaper.constants shaper.hooks g.T.Face.hb_font_t.face c.args.plan.now c.args.face.now in
    let glyph = rules.face.nominal_glyph in
    sym (ap (option_map (map (mapped_char glyph)))
    (chosen-unsplit (decompositions rules) (has_glyph glyph) c.args.shortest c.args.c (ap is_some (sym c.in-None.ensures))))
