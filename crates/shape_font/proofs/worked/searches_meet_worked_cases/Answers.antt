use Rattle.shape_font.specs.Worked.Searches.{worked_searches, worked_variations}
use Rattle.shape_font.specs.Worked.Names.{worked_names}
use Rattle.shape_font.specs.Worked.Face.{worked_face, worked_origins}
use Rattle.shape_font.specs.Worked.Instances.{worked_instances}
use Rattle.shape_font.specs.Worked.PointsAt.{worked_point_places, worked_points}
use Rattle.shape_font.proofs.worked.searches_meet_worked_cases.Goals as goal

pub returns-clause-searches : goal.returns-clause-searches
returns-clause-searches c = worked_searches

pub returns-clause-variations : goal.returns-clause-variations
returns-clause-variations c = worked_variations

pub returns-clause-names : goal.returns-clause-names
returns-clause-names c = worked_names

pub returns-clause-face : goal.returns-clause-face
returns-clause-face c = worked_face

pub returns-clause-origins : goal.returns-clause-origins
returns-clause-origins c = worked_origins

pub returns-clause-instances : goal.returns-clause-instances
returns-clause-instances c = worked_instances

pub returns-clause-points : goal.returns-clause-points
returns-clause-points c = worked_points

pub returns-clause-places : goal.returns-clause-places
returns-clause-places c = worked_point_places
