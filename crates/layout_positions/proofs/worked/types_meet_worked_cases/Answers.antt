use Rattle.layout_positions.specs.Worked.Types.{worked_far_marks, worked_mark_classes, worked_pairs_down, worked_flags}
use Rattle.layout_positions.proofs.worked.types_meet_worked_cases.Goals as goal

pub returns-clause-far_marks : goal.returns-clause-far_marks
returns-clause-far_marks c = worked_far_marks

pub returns-clause-mark_classes : goal.returns-clause-mark_classes
returns-clause-mark_classes c = worked_mark_classes

pub returns-clause-pairs_down : goal.returns-clause-pairs_down
returns-clause-pairs_down c = worked_pairs_down

pub returns-clause-flags : goal.returns-clause-flags
returns-clause-flags c = worked_flags
