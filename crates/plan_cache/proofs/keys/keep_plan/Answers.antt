use Rattle.std.proofs.Common.{◌≡◌, length, ap}
use Rattle.plan_cache.proofs.keys.keep_plan.Goals as goal

pub returns-clause-kept : goal.returns-clause-kept
returns-clause-kept g c = record {
  key = c.in_ok-key.key;
  place_is = ap length c.as_slice-place.ensures.value;
  behind = c.in_ok-push.ensures.items;
  key_is = c.in_ok-key.ensures.key;
}
