use Rattle.std.proofs.Common.{refl}
use Rattle.apple_substitution.proofs.DeletedLemmas.{deleted_narrowed-flags, deleted_narrowed-order}
use Rattle.shape_buffer.specs.PositionWalks.{positions_mapped}
use Rattle.apple_substitution.proofs.laws.narrowing_deleted_glyphs_preserves.Goals as goal

pub returns-clause-clusters : goal.returns-clause-clusters
returns-clause-clusters c = deleted_narrowed-order

pub returns-clause-flags : goal.returns-clause-flags
returns-clause-flags c = deleted_narrowed-flags

pub returns-clause-count : goal.returns-clause-count
unfolding positions_mapped
returns-clause-count c = λ b. refl

pub returns-clause-left : goal.returns-clause-left
unfolding positions_mapped
returns-clause-left c = λ b. refl
