use Rattle.std.proofs.Common.{◌≡◌, map, take}
use Rattle.shape_buffer.specs.MapBuilder.{with_requests}
use Rattle.shape_plan.specs.Requests.{user_request}
use Rattle.shape_plan.proofs.planner.requests.add_user_features.Given as goal

abbrev pub invariant-loop-feature : goal.invariant-loop-feature
invariant-loop-feature l = l.builder ≡ with_requests l.fn.builder (map user_request (take l.feature-index l.features))
