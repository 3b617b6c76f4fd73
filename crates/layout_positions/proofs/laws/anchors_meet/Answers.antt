use Rattle.layout_positions.proofs.LinkLemmas.{mark-links, line-links}
use Rattle.layout_positions.proofs.PointLemmas.{marks-meet, lines-meet}
use Rattle.layout_positions.proofs.laws.anchors_meet.Goals as goal

pub returns-clause-marks : goal.returns-clause-marks
returns-clause-marks c = marks-meet

pub returns-clause-lines : goal.returns-clause-lines
returns-clause-lines c = lines-meet

pub returns-clause-marked : goal.returns-clause-marked
returns-clause-marked c = mark-links

pub returns-clause-joined : goal.returns-clause-joined
returns-clause-joined c i j own other b = line-links i j own other b
