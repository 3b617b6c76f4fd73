-- A reversed list is as long as it was.
use Rattle.std.proofs.Common.{◌≡◌, true, nat_lt, ap, ◌∙◌}
use Rattle.std.proofs.lemmas.List.{length-reverse}
use Rattle.shape_items.specs.Buffer.{Buffer, limit_of}
use Rattle.apple_substitution.specs.Edits.{is_past}
use Rattle.apple_substitution.specs.Subtables.{reversed}

pub past_reversed : (b : Buffer) → is_past b ≡ true → is_past (reversed b) ≡ true
past_reversed b is = ap (λ n. nat_lt (limit_of b) n) (length-reverse b.items) ∙ is
