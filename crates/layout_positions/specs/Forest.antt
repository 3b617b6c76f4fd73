-- Attached glyphs as a forest (OpenType, `GPOS`, lookup types 3 to 6): each glyph follows at most one other, and its own offset
-- leads on from where that one ends up.
use Prim.Native.Nat.{zero}
use Rattle.std.specs.Prelude.{◌≡◌, ℕ, suc, ℤ, pos, Bool, true, false, Some, ◌+◌, ◌<◌, ◌||◌, not, is_some, length, nat_eq, nat_lt, if◌then◌else◌}
use Rattle.std.specs.Option.{option_map_or}
use Rattle.shape_common.specs.Direction.{is_horizontal, is_forward}
use Rattle.shape_common.specs.Wrapping.{◌+ʷ◌, ◌-ʷ◌}
use Rattle.shape_common.specs.declared.positions.GlyphPosition.{GlyphPosition}
use Rattle.shape_items.specs.Buffer.{Buffer}
use Rattle.layout_positions.specs.Attachment.{MARK_ATTACHED, CURSIVE_ATTACHED, MOST_LINKS, parent_of, hung, carried}
use Rattle.layout_positions.specs.Cursive.{gap_across}
use Rattle.layout_positions.specs.Edits.{position_at}
use Rattle.layout_positions.specs.Turning.{offset_across}
use Rattle.layout_positions.specs.Ways.{way, way_between}
use Rattle.layout_positions.specs.declared.anchors.Anchor.{Anchor}
use Rattle.layout_positions.specs.declared.ways.Pen.{Pen}

-- in so many links from the glyph at place `i` comes one that follows none, or one before place `first`
abbrev pub ends_within : Buffer → ℕ → ℕ → ℕ → Bool
ends_within b first zero i = nat_lt i first || not (is_some (parent_of b i))
ends_within b first (suc n) i = nat_lt i first || option_map_or (ends_within b first n) (parent_of b i) true

-- no glyph follows itself, over however many others, and no chain goes on over more than 64 links before it comes to an earlier
-- glyph
pub record IsForest (b : Buffer) : Type 0 where
  pub height : ℕ → ℕ
  pub falls : (i j : ℕ) → parent_of b i ≡ Some j → height j < height i
  pub short : (i : ℕ) → ends_within b i MOST_LINKS i ≡ true

-- ---- one glyph that follows another

-- a position that is attached to nothing
abbrev pub loose : GlyphPosition → GlyphPosition
loose p = record p { attach_chain = pos 0 }

-- the position of the glyph at place `i` that follows the one at place `j`, which has come to stand at `there`
abbrev pub moved_with : Buffer → ℕ → ℕ → GlyphPosition → GlyphPosition
moved_with b i j there = let own = loose (position_at b i) in
    (if nat_eq own.attach_type CURSIVE_ATTACHED then carried (is_horizontal b.direction) there own
    else hung (is_forward b.direction) (way_between b i j) there own)

-- ---- where glyphs stand

-- where the pen is before a glyph is drawn; the glyphs of a backward text are drawn last first
abbrev pub pen_before : Buffer → ℕ → Pen
pen_before b i = if is_forward b.direction then way b 0 i else way b (i + 1) (length b.items)

-- the origin of a glyph, and a point of it that is given from there
abbrev pub point_of : Buffer → ℕ → Anchor → Pen
point_of b i a = record {
  x = (pen_before b i).x +ʷ (position_at b i).x_offset +ʷ a.x;
  y = (pen_before b i).y +ʷ (position_at b i).y_offset +ʷ a.y;
}

-- how far a point of a glyph is from the line, across it
abbrev pub across_of : Bool → Anchor → ℤ
across_of true a = a.y
across_of false a = a.x

abbrev pub height_of : Buffer → ℕ → Anchor → ℤ
height_of b i a = let horizontal = is_horizontal b.direction in
    offset_across horizontal (position_at b i) +ʷ across_of horizontal a

-- ---- pairs that lookups join

-- the glyph at place `i` is a mark on the one at place `j`: one anchor is to come to stand on the other
pub record IsMarkOn (b : Buffer) (i j : ℕ) (mark base : Anchor) : Type 0 where
  pub inside : i < length b.items
  pub after : j < i
  pub follows : parent_of b i ≡ Some j
  pub type : (position_at b i).attach_type ≡ MARK_ATTACHED
  pub x : (position_at b i).x_offset ≡ base.x -ʷ mark.x
  pub y : (position_at b i).y_offset ≡ base.y -ʷ mark.y

-- the glyph at place `i` follows the one at place `j` in a cursive line: one anchor is to come to stand as high as the other
pub record IsJoinedTo (b : Buffer) (i j : ℕ) (own other : Anchor) : Type 0 where
  pub inside : i < length b.items
  pub follows : parent_of b i ≡ Some j
  pub type : (position_at b i).attach_type ≡ CURSIVE_ATTACHED
  pub across : offset_across (is_horizontal b.direction) (position_at b i) ≡ gap_across (is_horizontal b.direction) other own
