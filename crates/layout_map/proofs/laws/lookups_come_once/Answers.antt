use Rattle.layout_map.specs.Lookups.{gsub_uses, gpos_uses}
use Rattle.layout_map.proofs.OnceLemmas.{used_increase}
use Rattle.layout_map.proofs.laws.lookups_come_once.Goals as goal

pub returns-clause-gsub : goal.returns-clause-gsub
returns-clause-gsub c = λ t features required_stage stage. used_increase 0 (gsub_uses t features required_stage stage)

pub returns-clause-gpos : goal.returns-clause-gpos
returns-clause-gpos c = λ t features. used_increase 0 (gpos_uses t features)
