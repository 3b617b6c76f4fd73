-- Glyphs attached to others: how far, and where they end up.
use Prim.Native.Nat.{zero}
use Rattle.std.specs.Prelude.{ℕ, suc, ℤ, pos, neg_ℤ, Bool, true, false, Option, Some, None, ◌+◌, ◌-◌, ◌||◌, length, nat_eq, nat_lt, nat_le, int_lt}
use Rattle.std.specs.Prelude.{unsigned_abs, if◌then◌else◌}
use Rattle.std.specs.Option.{option_map_or}
use Rattle.shape_common.specs.Direction.{is_horizontal, is_forward}
use Rattle.shape_common.specs.Wrapping.{◌+ʷ◌, ◌-ʷ◌}
use Rattle.shape_common.specs.declared.positions.GlyphPosition.{GlyphPosition}
use Rattle.shape_items.specs.Buffer.{Buffer}
use Rattle.layout_positions.specs.Edits.{position_at, position_put}
use Rattle.layout_positions.specs.Ways.{way_between}
use Rattle.layout_positions.specs.declared.ways.Pen.{Pen}

-- how a glyph is attached: as a mark, or by cursive attachment
abbrev pub MARK_ATTACHED : ℕ
MARK_ATTACHED = 1

abbrev pub CURSIVE_ATTACHED : ℕ
CURSIVE_ATTACHED = 2

-- the distance from a place to the one that it is attached to; 0, which is not attached, if it is past 16 bits
abbrev pub chain_to : ℕ → ℕ → ℤ
chain_to i j = if nat_lt j i then (if nat_lt 32767 (i - j) then pos 0 else neg_ℤ (pos (i - j)))
    else (if nat_lt 32767 (j - i) then pos 0 else pos (j - i))

-- the place that far from place `i`, none at distance 0 and none outside of the list
abbrev pub place_at : ℕ → ℕ → ℤ → Option ℕ
place_at count i chain = let n = unsigned_abs chain in
    (if int_lt chain (pos 0) then (if nat_le n i then Some (i - n) else None)
    else (if nat_eq n 0 || nat_le count (i + n) then None else Some (i + n)))

abbrev pub parent_of : Buffer → ℕ → Option ℕ
parent_of b i = place_at (length b.items) i (position_at b i).attach_chain

abbrev pub freed : ℕ → Buffer → Buffer
freed i b = position_put i (record (position_at b i) { attach_chain = pos 0 }) b

-- ---- what is attached follows what it is attached to

-- a mark stands where the glyph does: it moves as the glyph, and the pen goes back to that
abbrev pub hung : Bool → Pen → GlyphPosition → GlyphPosition → GlyphPosition
hung true w q p = record p { x_offset = p.x_offset +ʷ q.x_offset -ʷ w.x; y_offset = p.y_offset +ʷ q.y_offset -ʷ w.y }
hung false w q p = record p { x_offset = p.x_offset +ʷ q.x_offset +ʷ w.x; y_offset = p.y_offset +ʷ q.y_offset +ʷ w.y }

-- a glyph in a cursive line moves across the line as the other one does
abbrev pub carried : Bool → GlyphPosition → GlyphPosition → GlyphPosition
carried true q p = record p { y_offset = p.y_offset +ʷ q.y_offset }
carried false q p = record p { x_offset = p.x_offset +ʷ q.x_offset }

abbrev pub followed : ℕ → ℕ → Buffer → Buffer
followed i j b = let p = position_at b i in
    position_put i
    (if nat_eq p.attach_type CURSIVE_ATTACHED then carried (is_horizontal b.direction) (position_at b j) p
    else hung (is_forward b.direction) (way_between b i j) (position_at b j) p) b

-- the glyph at a place follows the one that it is attached to, after that one has followed its own, in so many links; a
-- link is taken off as it is followed, so that a chain that goes round ends
abbrev pub settled : ℕ → ℕ → Buffer → Buffer
settled zero i b = freed i b
settled (suc level) i b = option_map_or (λ j. followed i j (settled level j (freed i b))) (parent_of b i) (freed i b)

-- the first `n` places, one after the other
abbrev pub each : {S : Type 0} → (ℕ → S → S) → ℕ → S → S
each f zero s = s
each f (suc n) s = f n (each f n s)

-- as many links as lookups may be nested
abbrev pub MOST_LINKS : ℕ
MOST_LINKS = 64

abbrev pub offsets_finished : Buffer → Buffer
offsets_finished b = each (settled MOST_LINKS) (length b.items) b
