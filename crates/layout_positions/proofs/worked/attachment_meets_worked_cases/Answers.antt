use Rattle.layout_positions.specs.Worked.Marks.{worked_marks}
use Rattle.layout_positions.specs.Worked.Marks.{worked_bases}
use Rattle.layout_positions.specs.Worked.Marks.{worked_base_work}
use Rattle.layout_positions.specs.Worked.Marks.{worked_search_work}
use Rattle.layout_positions.specs.Worked.Marks.{worked_multiplied}
use Rattle.layout_positions.specs.Worked.Marks.{worked_components}
use Rattle.layout_positions.specs.Worked.Cursive.{worked_cursive}
use Rattle.layout_positions.specs.Worked.Attachment.{worked_attachment}
use Rattle.layout_positions.specs.Worked.Attachment.{worked_turning}
use Rattle.layout_positions.proofs.worked.attachment_meets_worked_cases.Goals as goal

pub returns-clause-marks : goal.returns-clause-marks
returns-clause-marks c = worked_marks

pub returns-clause-bases : goal.returns-clause-bases
returns-clause-bases c = worked_bases

pub returns-clause-base_work : goal.returns-clause-base_work
returns-clause-base_work c = worked_base_work

pub returns-clause-search_work : goal.returns-clause-search_work
returns-clause-search_work c = worked_search_work

pub returns-clause-multiplied : goal.returns-clause-multiplied
returns-clause-multiplied c = worked_multiplied

pub returns-clause-components : goal.returns-clause-components
returns-clause-components c = worked_components

pub returns-clause-cursive : goal.returns-clause-cursive
returns-clause-cursive c = worked_cursive

pub returns-clause-attachment : goal.returns-clause-attachment
returns-clause-attachment c = worked_attachment

pub returns-clause-turning : goal.returns-clause-turning
returns-clause-turning c = worked_turning
