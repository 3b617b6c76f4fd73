-- The glyphs of runs as C sees them.
use Rattle.std.specs.Prelude.{ℕ, ◌+◌, ◌%◌, List, [], ◌∷◌, ◌++◌, length, map}
use Rattle.std.specs.List.{zip}
use Rattle.shape_common.specs.declared.positions.GlyphPosition.{GlyphPosition}
use Rattle.shape_items.specs.Buffer.{Buffer}
use Rattle.shape_items.specs.Items.{Item}
use Rattle.shape_pipeline.specs.Shaped.{shaped}
use Rattle.shape_plan.specs.Run.{Run}
use Rattle.c_runs.specs.Texts.{Units, text_of_run}
use Rattle.c_runs.specs.declared.plain.luthgarn_glyph.{luthgarn_glyph}
use Rattle.c_runs.specs.declared.plain.luthgarn_run.{luthgarn_run}

-- a glyph: its number, its cluster, its three flags, how far it moves the pen and how far it is moved
abbrev pub glyph_of : Item × GlyphPosition → luthgarn_glyph
glyph_of (item, position) = record {
  glyph = item.glyph_id;
  cluster = item.cluster;
  flags = item.mask % 8;
  x_advance = position.x_advance;
  y_advance = position.y_advance;
  x_offset = position.x_offset;
  y_offset = position.y_offset;
}

abbrev pub glyphs_of : Buffer → List luthgarn_glyph
glyphs_of buffer = map glyph_of (zip buffer.items buffer.positions)

-- the glyphs of a run, where `runs` says how a text is shaped
abbrev pub glyphs_of_run : (Buffer → Run) → Units → luthgarn_run → List luthgarn_glyph
glyphs_of_run runs text run = glyphs_of (shaped (runs (text_of_run text run)) (text_of_run text run))

-- the glyphs of all runs, one run after the other
abbrev pub joined : (luthgarn_run → List luthgarn_glyph) → List luthgarn_run → List luthgarn_glyph
joined glyphs [] = []
joined glyphs (run ∷ rest) = glyphs run ++ joined glyphs rest

-- the runs with how many glyphs there are up to the end of each, after so many before them
abbrev pub counted : (luthgarn_run → List luthgarn_glyph) → ℕ → List luthgarn_run → List luthgarn_run
counted glyphs n [] = []
counted glyphs n (run ∷ rest) =
    record run { glyphs = n + length (glyphs run) } ∷ counted glyphs (n + length (glyphs run)) rest
