use Rattle.std.proofs.Common.{◌≡◌, ℕ, ◌<◌, ◌≤◌, length, take, get_or}
use Rattle.shape_lines.specs.Places.{cluster_at}
use Rattle.shape_lines.specs.Spots.{marks_of}
use Rattle.shape_lines.specs.TextOrder.{text_order}
use Rattle.shape_lines.proofs.spots.marks.Given as goal

abbrev pub invariant-loop-place : goal.invariant-loop-place
invariant-loop-place l = record {
  marks_are : l.marks.items ≡ take l.place (marks_of l.listed (text_order l.glyphs));
  within : l.next ≤ length l.listed;
  below : (k j : ℕ) → k < l.next → l.place ≤ j → j < length l.glyphs.items → get_or l.listed k 0 < cluster_at (text_order l.glyphs) j;
}
