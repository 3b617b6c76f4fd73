use Rattle.layout_positions.specs.Marks.{is_base_at}
use Rattle.layout_positions.proofs.NearestLemmas.{nearest-afresh, nearest-kept, nearest-unique}
use Rattle.layout_positions.proofs.laws.marks_stand_on_the_nearest_base.Goals as goal

pub returns-clause-afresh : goal.returns-clause-afresh
returns-clause-afresh c l subtable items i = nearest-afresh (is_base_at l subtable items) i

pub returns-clause-going_on : goal.returns-clause-going_on
returns-clause-going_on c l subtable items i seen is = nearest-kept (is_base_at l subtable items) seen.until seen.place i is

pub returns-clause-one : goal.returns-clause-one
returns-clause-one c l subtable items i x y first other = nearest-unique (is_base_at l subtable items) i x y first other
