use Rattle.plan_cache.proofs.KeyRows.{worked_keys}
use Rattle.plan_cache.proofs.keys.keys_meet_worked_cases.Goals as goal

pub returns : goal.returns
returns c = worked_keys
