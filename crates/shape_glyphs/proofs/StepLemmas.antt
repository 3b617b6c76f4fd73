-- Steps that make the same of a buffer.
use Rattle.std.proofs.Common.{◌≡◌, ◌∙◌}
use Rattle.shape_items.specs.Buffer.{Buffer}
use Rattle.shape_buffer.specs.Outcome.{Made}

-- if a step was made, so was every other step that makes the same of the buffer
pub Made-as : {f : Buffer → Buffer} (g : Buffer → Buffer) {old new : Buffer} → Made f old new → f old ≡ g old → Made g old new
Made-as g made same = record { made = made.made ∙ same; no_longer = made.no_longer; same_limit = made.same_limit }
