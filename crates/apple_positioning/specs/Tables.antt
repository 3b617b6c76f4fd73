-- A run of the whole table `kerx` over a line (TrueType Reference Manual, "The 'kerx' table"): its subtables one after the other, as
-- HarfBuzz 10.2.0 runs them (`KerxTable::apply`).
use Rattle.std.specs.Prelude.{ℕ, List, [], ◌∷◌, Bool, false, Option, pos, negsuc, ◌&&◌, ◌||◌, not, length, nat_eq, nat_lt, if◌then◌else◌}
use Rattle.std.specs.Int.RustNames.{bit_and}
use Rattle.font_sizes.specs.declared.scales.Scale.{Scale}
use Rattle.kern_table.specs.Tables.{charged, subtable_work}
use Rattle.shape_buffer.specs.PositionWalks.{positions_mapped}
use Rattle.shape_common.specs.Direction.{is_forward, is_horizontal}
use Rattle.shape_common.specs.declared.positions.GlyphPosition.{GlyphPosition}
use Rattle.shape_items.specs.Buffer.{Buffer}
use Rattle.shape_items.specs.BufferClusters.{unsafe_to_concat}
use Rattle.shape_items.specs.Items.{Item}
use Rattle.apple_positioning.specs.Chains.{subtables_of}
use Rattle.apple_positioning.specs.Runs.{HAS_ATTACHMENT, Source, header}
use Rattle.apple_positioning.specs.Subtables.{is_for, subtable_run}
use Rattle.apple_positioning.specs.declared.tables.ExtendedKerning.{ExtendedKerning}
use Rattle.apple_positioning.specs.declared.values.Layout.TheVariants.{Kerx}

-- the tables `kerx` and `ankr`, how many glyphs the font has, the size of the font, if it has one, and the mask of kerning
pub record Font : Type 0 where
  pub kerx : List ℕ
  pub ankr : List ℕ
  pub glyphs : ℕ
  pub scale : Option Scale
  pub mask : ℕ

abbrev pub font_of : ExtendedKerning → Font
font_of k = record { kerx = k.kerx.now; ankr = k.ankr.now; glyphs = k.glyphs; scale = k.scale; mask = k.mask }

abbrev pub source : Font → List ℕ → Source
source f bytes = record { layout = Kerx; bytes = bytes; ankr = f.ankr; glyphs = f.glyphs; scale = f.scale; mask = f.mask }

-- ---- a line whose glyphs move across it

-- each glyph follows the one before it in the line: of a text in the backward direction the one after it in the list
abbrev pub chained : Bool → GlyphPosition → GlyphPosition
chained forward p = record p { attach_type = 2; attach_chain = if forward then negsuc 0 else pos 1 }

abbrev pub all_chained : Buffer → Buffer
all_chained b = positions_mapped (λ (item : Item). chained (is_forward b.direction)) b

-- that is so from the first subtable on that is for lines of this kind and moves glyphs across them
abbrev pub chains : Source → Bool → Buffer → Bool
chains s is_chained b = let h = header s in
    not is_chained && (h.is_cross_stream && is_for h (is_horizontal b.direction))

-- a glyph that follows none
abbrev pub loose : GlyphPosition → GlyphPosition
loose p = record p { attach_chain = pos 0 }

-- in a run in which no glyph was moved across the line or attached, none follows another one
unfoldable pub finished : Buffer → Buffer
finished b = if nat_eq (bit_and b.scratch_flags.0 HAS_ATTACHMENT) 0 then positions_mapped (λ (item : Item). loose) b else b

-- ---- the subtables

abbrev pub one_run : Source → Bool → Buffer → Buffer
one_run s is_chained b = subtable_run s (if chains s is_chained b then all_chained b else b)

-- each is charged for as one of the table `kern`; one that what is left doesn't suffice for ends the run, and nothing is left
abbrev pub runs_from : Font → List (List ℕ) → Bool → Buffer → Buffer
runs_from f [] is_chained b = b
runs_from f (bytes ∷ rest) is_chained b = let s = source f bytes in
    (if nat_lt b.max_ops (subtable_work (length b.items)) then charged b
    else runs_from f rest (is_chained || chains s is_chained (charged b)) (one_run s is_chained (charged b)))

-- all of the text is unsafe to concatenate first
unfoldable pub table_run : Font → Buffer → Buffer
table_run f b = finished (runs_from f (subtables_of f.kerx) false (unsafe_to_concat 0 (length b.items) b))
