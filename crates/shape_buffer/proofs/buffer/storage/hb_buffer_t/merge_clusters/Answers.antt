use Rattle.std.proofs.Common.{arith}
use Rattle.std.proofs.lemmas.Grind.{common_steps}
use Rattle.shape_items.proofs.Deletion.DeletePreserves.{merged_preserves}
use Rattle.shape_buffer.proofs.buffer.storage.hb_buffer_t.merge_clusters.Goals as goal

pub returns-then-eq-clause-preserves : goal.returns-then-eq-clause-preserves
returns-then-eq-clause-preserves c = merged_preserves c.args.start c.args.end c.args.self.now _ c.requires.within (grind (arith, common_steps))

pub returns-else-eq-clause-preserves : goal.returns-else-eq-clause-preserves
returns-else-eq-clause-preserves c = merged_preserves c.args.start c.args.end c.args.self.now _ c.requires.within (grind (arith, common_steps))
