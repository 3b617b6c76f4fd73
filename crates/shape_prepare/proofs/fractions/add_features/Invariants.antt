use Rattle.std.proofs.Common.{◌≡◌, length}
use Rattle.shape_items.specs.Clusters.{map_range}
use Rattle.shape_prepare.specs.Fractions.{with_features}
use Rattle.shape_prepare.proofs.fractions.add_features.Given as goal

-- the items before place i have the features
abbrev pub invariant-loop-i : goal.invariant-loop-i
invariant-loop-i l = record {
  same_length : length l.buffer.items ≡ length l.fn.buffer.items;
  added : l.buffer ≡ record l.fn.buffer { items = map_range (with_features l.mask) l.start l.i l.fn.buffer.items };
}
