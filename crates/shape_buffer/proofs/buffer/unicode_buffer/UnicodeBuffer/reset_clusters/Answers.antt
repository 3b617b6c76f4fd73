use Rattle.shape_buffer.proofs.TextLemmas.{numbered-rise}
use Rattle.shape_buffer.proofs.buffer.unicode_buffer.UnicodeBuffer.reset_clusters.Goals as goal

pub returns-clause-clusters : goal.returns-clause-clusters
returns-clause-clusters c = rw (c.reset_clusters.ensures) (numbered-rise 0 _)
