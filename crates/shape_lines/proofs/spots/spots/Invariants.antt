use Rattle.std.proofs.Common.{◌≡◌, length, take, vec_len}
use Rattle.shape_lines.specs.Spots.{spots_of}
use Rattle.shape_lines.proofs.spots.spots.Given as goal

abbrev pub invariant-loop-place : goal.invariant-loop-place
invariant-loop-place l = record {
  spots_are : l.spots.items ≡ take l.place (spots_of l.glyphs l.breaks.allowed.now l.breaks.mandatory.now l.breaks.spaces.now);
  allowed_long : vec_len l.marks.allowed ≡ length l.glyphs.items;
  mandatory_long : vec_len l.marks.mandatory ≡ length l.glyphs.items;
  spaces_long : vec_len l.marks.spaces ≡ length l.glyphs.items;
}
