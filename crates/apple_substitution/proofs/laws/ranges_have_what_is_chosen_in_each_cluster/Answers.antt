use Rattle.apple_substitution.proofs.MapLaws.{chains_hold, ranges_hold}
use Rattle.apple_substitution.proofs.laws.ranges_have_what_is_chosen_in_each_cluster.Goals as goal

pub returns-clause-ranges : goal.returns-clause-ranges
returns-clause-ranges c = ranges_hold

pub returns-clause-chains : goal.returns-clause-chains
returns-clause-chains c = chains_hold
