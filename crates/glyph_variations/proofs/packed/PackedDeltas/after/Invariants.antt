use Rattle.std.proofs.Common.{◌≡◌, ◌≤◌, ◌+◌, ◌*◌}
use Rattle.glyph_variations.specs.Packed as packed
use Rattle.glyph_variations.specs.Times.{times}
use Rattle.glyph_variations.proofs.packed.PackedDeltas.after.Given as goal

abbrev pub invariant-loop-to_go : goal.invariant-loop-to_go
invariant-loop-to_go l = record {
  read : times (packed.next_delta l.bytes) l.to_go l.deltas ≡ times (packed.next_delta l.bytes) l.fn.count l.fn.self;
  near : l.deltas.at + 5 * l.to_go ≤ l.fn.self.at + 5 * l.fn.count;
}

abbrev pub decreases-loop-to_go : goal.decreases-loop-to_go
decreases-loop-to_go l = l.to_go
