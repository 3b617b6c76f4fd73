use Rattle.font_variations.proofs.DefaultLemmas.{advances_at_default, bearings_at_default, origins_at_default}
use Rattle.font_variations.proofs.laws.default_metrics_stay.Goals as goal

pub returns-clause-advances : goal.returns-clause-advances
returns-clause-advances c = advances_at_default

pub returns-clause-bearings : goal.returns-clause-bearings
returns-clause-bearings c = bearings_at_default

pub returns-clause-origins : goal.returns-clause-origins
returns-clause-origins c = origins_at_default
