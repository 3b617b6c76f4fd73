-- How many steps the metrics of a glyph take at coordinates.
use Rattle.std.specs.Prelude.{ℕ, length, ◌*◌, nat_eq, if◌then◌else◌}
use Rattle.font_variations.specs.Metrics as variations
use Rattle.glyph_variations.specs.declared.sums.TheConstants.{MOST_STEPS}
use Rattle.shape_font.specs.declared.face.FontFace.{FontFace}

-- of the advance along the line at most: those of its row in `HVAR`, or of two points by `gvar`; none at the default instance
abbrev pub advance_steps : FontFace → ℕ → ℕ
advance_steps f glyph = if nat_eq (length f.coordinates.now) 0 then 0
    else (if nat_eq (length f.hvar.now) 0 then (if nat_eq (length f.gvar.now) 0 then 0 else 2 * MOST_STEPS)
    else variations.advance_steps f.hvar.now glyph)
