-- What a run of a subtable of `kerx` or `kern` reads, and what it notes.
use Rattle.std.specs.Prelude.{ℕ, ℤ, Bool, List, Option, not, nat_eq}
use Rattle.std.specs.Int.RustNames.{bit_and, bit_or}
use Rattle.font_sizes.specs.Scales.{across, up}
use Rattle.font_sizes.specs.declared.scales.Scale.{Scale}
use Rattle.shape_font.specs.Metrics.{as_short}
use Rattle.shape_items.specs.Buffer.{Buffer}
use Rattle.shape_items.specs.Items.{Item}
use Rattle.apple_tables.specs.declared.states.Entry.{Entry}
use Rattle.apple_positioning.specs.Layouts.{action_by, header_for, kerning_by}
use Rattle.apple_positioning.specs.declared.chains.Header.{Header}
use Rattle.apple_positioning.specs.declared.runs.Kerning.{Kerning}
use Rattle.apple_positioning.specs.declared.values.Layout.{Layout}

-- the subtable, by its layout and its bytes; the table `ankr`; how many glyphs the font has; the size of the font, if it has one; and the mask of kerning
pub record Source : Type 0 where
  pub layout : Layout
  pub bytes : List ℕ
  pub ankr : List ℕ
  pub glyphs : ℕ
  pub scale : Option Scale
  pub mask : ℕ

abbrev pub source_of : Kerning → Source
source_of k = record {
  layout = k.subtable.layout;
  bytes = k.subtable.bytes.now;
  ankr = k.ankr.now;
  glyphs = k.subtable.glyphs;
  scale = k.scale;
  mask = k.mask;
}

-- what the subtable says
abbrev pub header : Source → Header
header s = header_for s.layout s.bytes

abbrev pub kerning_for : Source → ℕ → ℕ → ℤ
kerning_for s left right = kerning_by s.layout s.bytes s.glyphs left right

-- the action of an entry
abbrev pub action_for : Source → Entry → Option ℕ
action_for s e = action_by s.layout s.bytes e

-- a number to the right or upwards, at the size of the font: HarfBuzz scales its last 16 bits, as a number with a sign
abbrev pub to_right : Source → ℤ → ℤ
to_right s n = across s.scale (as_short n)

abbrev pub upwards : Source → ℤ → ℤ
upwards s n = up s.scale (as_short n)

-- kerning is on for a glyph whose mask shares a bit with that of kerning
abbrev pub is_on : Source → Item → Bool
is_on s item = not (nat_eq (bit_and item.mask s.mask) 0)

-- the scratch flag of a run in which a glyph is moved across the line, or attached to another one (HarfBuzz's `HAS_GPOS_ATTACHMENT`)
abbrev pub HAS_ATTACHMENT : ℕ
HAS_ATTACHMENT = 64

abbrev pub with_attachment : Buffer → Buffer
with_attachment b = record b { scratch_flags = record { 0 = bit_or b.scratch_flags.0 HAS_ATTACHMENT } }
