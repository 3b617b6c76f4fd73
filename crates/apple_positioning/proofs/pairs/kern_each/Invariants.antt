use Rattle.std.proofs.Common.{◌≡◌, ◌<◌, length}
use Rattle.std.specs.Option.{IfSome}
use Rattle.shape_items.specs.Buffer.{limit_of}
use Rattle.shape_items.specs.BufferClusters.{unsafe_to_concat}
use Rattle.apple_positioning.specs.Pairs.{kerned_to}
use Rattle.apple_positioning.specs.Runs.{source_of}
use Rattle.apple_positioning.proofs.pairs.kern_each.Given as goal

-- the first glyphs are kerned
abbrev pub invariant-loop-j : goal.invariant-loop-j
invariant-loop-j l = record {
  made : l.buffer ≡ (kerned_to (source_of l.kerning) l.j (unsafe_to_concat 0 (length l.fn.buffer.items) l.fn.buffer)).buffer;
  waits : l.left ≡ (kerned_to (source_of l.kerning) l.j (unsafe_to_concat 0 (length l.fn.buffer.items) l.fn.buffer)).left;
  after : IfSome l.left (λ i. i < l.j);
  len : length l.buffer.items ≡ length l.fn.buffer.items;
  limit : limit_of l.buffer ≡ limit_of l.fn.buffer;
}
