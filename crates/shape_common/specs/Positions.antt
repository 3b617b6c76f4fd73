-- Positions of glyphs.
use Rattle.std.specs.Prelude.{pos}
use Rattle.shape_common.specs.declared.positions.GlyphPosition.{GlyphPosition}

-- a position that moves nothing
abbrev pub zero_position : GlyphPosition
zero_position = record { x_advance = pos 0; y_advance = pos 0; x_offset = pos 0; y_offset = pos 0; attach_chain = pos 0; attach_type = 0 }
