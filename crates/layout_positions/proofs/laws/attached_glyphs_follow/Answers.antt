use Rattle.layout_positions.proofs.ForestLemmas.{finished-follows, finished-stays, finished-ways}
use Rattle.layout_positions.proofs.laws.attached_glyphs_follow.Goals as goal

pub returns-clause-follows : goal.returns-clause-follows
returns-clause-follows c = finished-follows

pub returns-clause-stays : goal.returns-clause-stays
returns-clause-stays c = finished-stays

pub returns-clause-ways : goal.returns-clause-ways
returns-clause-ways c = finished-ways
