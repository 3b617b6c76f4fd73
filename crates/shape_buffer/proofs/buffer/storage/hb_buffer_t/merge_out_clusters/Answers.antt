use Rattle.std.proofs.Common.{arith}
use Rattle.std.proofs.lemmas.Grind.{common_steps}
use Rattle.shape_items.proofs.Deletion.DeletePreserves.{merged_out_preserves}
use Rattle.shape_buffer.proofs.buffer.storage.hb_buffer_t.merge_out_clusters.Goals as goal

pub returns-then-ne-clause-preserves : goal.returns-then-ne-clause-preserves
returns-then-ne-clause-preserves c = merged_out_preserves c.args.start c.args.end c.args.self.now _ c.requires.within (grind (arith, common_steps))
