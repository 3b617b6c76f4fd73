use Rattle.std.proofs.Common.{length}
use Rattle.test_buffers.proofs.sessions.+are_in_order.Given as goal

-- proposed from what the function passes where it calls itself
abbrev pub decreases-are_in_order : goal.decreases-are_in_order
decreases-are_in_order l = length l.spans.now
