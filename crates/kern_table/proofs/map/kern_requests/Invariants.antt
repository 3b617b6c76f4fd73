use Rattle.std.proofs.Common.{◌≡◌, drop, fold}
use Rattle.kern_table.specs.Map.{requested_by, no_kern_requests}
use Rattle.kern_table.proofs.map.kern_requests.Given as goal

-- what the requests from here on make of the requests so far is what all make of none
abbrev pub invariant-loop-request : goal.invariant-loop-request
invariant-loop-request l = fold requested_by l.all (drop l.request-index l.requests) ≡ fold requested_by no_kern_requests l.fn.requests
