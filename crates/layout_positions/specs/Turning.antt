-- Cursive attachment: a glyph that gets another one to follow, and the chain that it was in.
use Rattle.std.specs.Prelude.{ℕ, ℤ, pos, Bool, true, false, Option, Some, None, ◌+◌, length, nat_eq, if◌then◌else◌}
use Rattle.std.specs.Option.{option_and_then, option_map_or}
use Rattle.shape_common.specs.Direction.{is_horizontal}
use Rattle.shape_common.specs.Wrapping.{neg_w}
use Rattle.shape_common.specs.declared.positions.GlyphPosition.{GlyphPosition}
use Rattle.shape_items.specs.Buffer.{Buffer}
use Rattle.layout_matching.specs.Loops.{times}
use Rattle.layout_positions.specs.Edits.{position_at, position_put}
use Rattle.layout_positions.specs.Attachment.{CURSIVE_ATTACHED, chain_to, place_at, parent_of, freed}

-- a position across the line
abbrev pub across : Bool → ℤ → GlyphPosition → GlyphPosition
across true v p = record p { y_offset = v }
across false v p = record p { x_offset = v }

abbrev pub offset_across : Bool → GlyphPosition → ℤ
offset_across true p = p.y_offset
offset_across false p = p.x_offset

abbrev pub linked : Bool → ℕ → ℕ → ℤ → GlyphPosition → GlyphPosition
linked horizontal i j v p = across horizontal v (record p { attach_chain = chain_to i j; attach_type = CURSIVE_ATTACHED })

-- the glyph at `at`, whose link is to be turned round, its position before, and how many links have been turned
pub record Turn : Type 0 where
  pub buffer : Buffer
  pub at : ℕ
  pub was : GlyphPosition
  pub links : ℕ

-- the glyph that it followed in a cursive line, if that isn't the one where the walk ends
abbrev pub unless_end : ℕ → ℕ → Option ℕ
unless_end end j = if nat_eq j end then None else Some j

abbrev pub turn_next : ℕ → Turn → Option ℕ
turn_next end s = if nat_eq s.was.attach_type CURSIVE_ATTACHED
    then option_and_then (unless_end end) (place_at (length s.buffer.items) s.at s.was.attach_chain) else None

-- that one follows it from now on, on the other side across the line
abbrev pub turn_at : Turn → ℕ → Turn
turn_at s j = let horizontal = is_horizontal s.buffer.direction in
    let next = position_at s.buffer j in
    record {
      buffer = position_put j (linked horizontal j s.at (neg_w (offset_across horizontal s.was)) next) s.buffer;
      at = j;
      was = next;
      links = s.links + 1;
    }

abbrev pub turn_step : ℕ → Turn → Turn
turn_step end s = option_map_or (turn_at s) (turn_next end s) s

-- the chain from a glyph on turned round, up to the one that the glyph is to follow
abbrev pub first_turn : ℕ → Buffer → Turn
first_turn child b = record { buffer = freed child b; at = child; was = position_at b child; links = 0 }

abbrev pub last_turn : ℕ → ℕ → Buffer → Turn
last_turn child end b = times (turn_step end) (length b.items) (first_turn child b)

abbrev pub turned : ℕ → ℕ → Buffer → Buffer
turned child end b = (last_turn child end b).buffer

abbrev pub links_turned : ℕ → ℕ → Buffer → ℕ
links_turned child end b = (last_turn child end b).links

-- two glyphs don't follow each other
abbrev pub follows : ℕ → ℕ → Buffer → Bool
follows i j b = option_map_or (nat_eq j) (parent_of b i) false

abbrev pub parent_freed : ℕ → ℕ → Buffer → Buffer
parent_freed child parent b = if follows parent child b
    then position_put parent (across (is_horizontal b.direction) (pos 0) (record (position_at b parent) { attach_chain = pos 0 })) b
    else b

-- a glyph follows another one, so far from it across the line
abbrev pub link_put : ℕ → ℕ → ℤ → Buffer → Buffer
link_put child parent v b = position_put child (linked (is_horizontal b.direction) child parent v (position_at b child)) b

abbrev pub attached : ℕ → ℕ → ℤ → Buffer → Buffer
attached child parent v b = parent_freed child parent (link_put child parent v (turned child parent b))
