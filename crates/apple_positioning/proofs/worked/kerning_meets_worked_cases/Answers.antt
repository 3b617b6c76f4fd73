use Rattle.apple_positioning.specs.Worked.Kerning.{worked_chains, worked_headers, worked_pairs, worked_classes, worked_rows}
use Rattle.apple_positioning.proofs.worked.kerning_meets_worked_cases.Goals as goal

pub returns-clause-chains : goal.returns-clause-chains
returns-clause-chains c = worked_chains

pub returns-clause-headers : goal.returns-clause-headers
returns-clause-headers c = worked_headers

pub returns-clause-pairs : goal.returns-clause-pairs
returns-clause-pairs c = worked_pairs

pub returns-clause-classes : goal.returns-clause-classes
returns-clause-classes c = worked_classes

pub returns-clause-rows : goal.returns-clause-rows
returns-clause-rows c = worked_rows
