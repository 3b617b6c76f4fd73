use Rattle.apple_substitution.proofs.DeletedLemmas.{without_deleted-flags, without_deleted-left, without_deleted-order}
use Rattle.apple_substitution.proofs.laws.removing_deleted_glyphs_preserves.Goals as goal

pub returns-clause-clusters : goal.returns-clause-clusters
returns-clause-clusters c = without_deleted-order

pub returns-clause-flags : goal.returns-clause-flags
returns-clause-flags c = without_deleted-flags

pub returns-clause-left : goal.returns-clause-left
returns-clause-left c = without_deleted-left
