use Rattle.opentype_layout.proofs.CallLemmas.{stage-pays, position-pays, never-raises, in-turn, work-of}
use Rattle.opentype_layout.proofs.laws.calls_try_no_more_than_they_may.Goals as goal

pub returns-clause-stage : goal.returns-clause-stage
returns-clause-stage c = stage-pays

pub returns-clause-position : goal.returns-clause-position
returns-clause-position c = position-pays

pub returns-clause-never_raise : goal.returns-clause-never_raise
returns-clause-never_raise c = never-raises

pub returns-clause-in_turn : goal.returns-clause-in_turn
returns-clause-in_turn c = in-turn

pub returns-clause-begun : goal.returns-clause-begun
returns-clause-begun c = work-of
