use Rattle.layout_map.specs.Worked.Settings.{worked_settings}
use Rattle.layout_map.specs.Worked.Bits.{worked_bits, worked_allotment}
use Rattle.layout_map.proofs.worked.features_meet_worked_cases.Goals as goal

pub returns-clause-settings : goal.returns-clause-settings
returns-clause-settings c = worked_settings

pub returns-clause-bits : goal.returns-clause-bits
returns-clause-bits c = worked_bits

pub returns-clause-allotment : goal.returns-clause-allotment
returns-clause-allotment c = worked_allotment
