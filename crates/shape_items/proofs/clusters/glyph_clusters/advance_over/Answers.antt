use Rattle.std.proofs.Common.{arith}
use Rattle.std.proofs.lemmas.Grind.{common_steps}
use Rattle.shape_common.proofs.WrappingLemmas.{kept_bits}
use Rattle.shape_items.specs.GlyphClusters.{advance_over}
use Rattle.shape_items.proofs.clusters.glyph_clusters.advance_over.Goals as goal

pub loop-position-preserved : goal.loop-position-preserved
loop-position-preserved c = grind (arith, common_steps, kept_bits)

pub returns : goal.returns
unfolding advance_over
returns c = grind (arith, common_steps, kept_bits)
