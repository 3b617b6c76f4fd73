use Rattle.std.proofs.Common.{◌≡◌, map, take}
use Rattle.shape_buffer.specs.MapBuilder.{with_requests}
use Rattle.shape_plan.specs.Requests.{add}
use Rattle.shape_plan.proofs.planner.requests.add_features.Given as goal

abbrev pub invariant-loop-tag : goal.invariant-loop-tag
invariant-loop-tag l = l.builder ≡ with_requests l.fn.builder (map (λ f. add f.0 f.1) (take l.tag-index l.features))
