-- where the outline of a glyph stands (OpenType, `loca`)
use Rattle.std.specs.Prelude.{ℕ, List, [], Bool, is_some, ◌||◌, ◌+◌, ◌&&◌, nat_lt, nat_le, length, slice_range, if◌then◌else◌}
use Rattle.shape_font.specs.Metrics.{place_of}
use Rattle.shape_font.specs.Bytes.{u16_of}
use Rattle.shape_font.specs.Cff.{chosen_layout}
use Rattle.shape_font.specs.Directory.{bytes_of, has_table}
use Rattle.glyph_outlines.specs.declared.outlines.TheConstants.{GLYF, MAXP}
use Rattle.glyph_outlines.specs.declared.outlines.Outlines.{Outlines}

-- from its own place in `glyf` to the next glyph's; none if that is empty or not all there
abbrev pub outline_bytes : Outlines → ℕ → List ℕ
outline_bytes o glyph = let start = place_of o.loca.now o.long glyph in let end = place_of o.loca.now o.long (glyph + 1) in
    (if nat_lt start end && nat_le end (length o.glyf.now) then slice_range o.glyf.now start end else [])

-- whether a font has a table `glyf`, or a font in `CFF2` or `CFF ` with so many glyphs
abbrev pub has_outlines : List ℕ → ℕ → Bool
has_outlines bytes index = has_table bytes index GLYF || is_some (chosen_layout bytes index (u16_of (bytes_of bytes index MAXP) 4))
