use Rattle.shape_carets.proofs.CoverLemmas.{selection-pieces, selection-no_gap}
use Rattle.shape_carets.proofs.laws.selections_are_exact.Goals as goal

pub returns-clause-pieces : goal.returns-clause-pieces
returns-clause-pieces c = selection-pieces

pub returns-clause-no_gap : goal.returns-clause-no_gap
returns-clause-no_gap c = selection-no_gap
