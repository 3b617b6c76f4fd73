use Rattle.std.proofs.Common.{◌∙◌, sym}
use Rattle.shape_fallback.proofs.SpacesLemmas.{em_fraction-positive}
use Rattle.shape_fallback.proofs.ot_shape_fallback.spaces.space_advance.Goals as goal

pub em_advance-requires : goal.em_advance-requires
em_advance-requires g c = em_fraction-positive c.args.space_type (sym c.is_em_fraction.ensures ∙ c.if-is_em_fraction.true)
