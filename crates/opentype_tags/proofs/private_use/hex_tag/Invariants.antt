-- the digits left make of the number so far what all of them make of 0
use Rattle.std.specs.Prelude.{◌≡◌, Some, drop, fold}
use Rattle.opentype_tags.specs.PrivateUse.{with_digit}
use Rattle.opentype_tags.proofs.private_use.hex_tag.Given as goal

abbrev pub invariant-loop-byte : goal.invariant-loop-byte
invariant-loop-byte l = fold with_digit l.tag (drop l.byte-index l.byte-items) ≡ fold with_digit (Some 0) l.byte-items
