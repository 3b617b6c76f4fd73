-- what an opened face stores
use Prim.Native.Nat.{zero}
use Rattle.std.specs.Prelude.{◌≡◌, ◌<◌, ◌≤◌, ℕ, suc, ℤ, pos, List, ◌+◌, ◌*◌, ◌/◌, ◌%◌, length, slice_index, slice_index_or}
use Rattle.kern_table.specs.Sides.{HoldPairs}
use Rattle.kern_table.specs.declared.sides.PairGlyphs.{PairGlyphs}
use Rattle.shape_font.specs.Cmap.{mapped_glyph}
use Rattle.shape_font.specs.Face.{sized_h_advance}
use Rattle.shape_font.specs.Steps.{advance_steps}
use Rattle.shape_font.specs.declared.face.FontFace.{FontFace}
use Rattle.opened_face.specs.declared.advances.TheConstants.{MOST_STEPS}

-- the page of each number in `index` is the one with that place among the stored pages
abbrev pub IsIndexOf : List ℕ → List ℕ → Type 0
IsIndexOf pages index = (p : ℕ) → p < length index → slice_index index p < length pages
    → slice_index pages (slice_index index p) ≡ p

-- glyph `i` of these pages, one page of 256 characters after the other
unfoldable pub glyph_in : FontFace → List ℕ → ℕ → ℕ
glyph_in f pages i = mapped_glyph f.cmap.now f.font_page (256 * slice_index pages (i / 256) + i % 256)

abbrev pub AreGlyphsOf : FontFace → List ℕ → List ℕ → Type 0
AreGlyphsOf f pages glyphs = (i : ℕ) → i < length glyphs → slice_index glyphs i ≡ glyph_in f pages i

-- each number that is found for a character is the one that `cmap` gives it
abbrev pub AreStored : FontFace → List ℕ → List ℕ → Type 0
AreStored f index glyphs = (c : ℕ) → c / 256 < length index
    → 256 * slice_index index (c / 256) + c % 256 < length glyphs
    → slice_index glyphs (256 * slice_index index (c / 256) + c % 256) ≡ mapped_glyph f.cmap.now f.font_page c

-- each stored advance is that of its glyph
abbrev pub AreAdvances : FontFace → List ℤ → Type 0
AreAdvances f advances = (g : ℕ) → g < length advances
    → slice_index_or advances g (pos 0) ≡ sized_h_advance f (record { 0 = g })

-- how many steps the advances of the first `n` glyphs take at coordinates, at most
abbrev pub steps_below : FontFace → ℕ → ℕ
steps_below f zero = 0
steps_below f (suc n) = steps_below f n + advance_steps f n

-- so many advances are stored: all, or as many as don't take more steps than that
pub record IsStoredCount (f : FontFace) (n : ℕ) : Type 0 where
  pub within : n ≤ f.glyph_count
  pub steps : steps_below f n ≤ MOST_STEPS
  pub most : n < f.glyph_count → MOST_STEPS < steps_below f n + advance_steps f n

pub record IsOpened (f : FontFace) (index glyphs : List ℕ) (advances : List ℤ) (pairs : PairGlyphs) : Type 0 where
  pub stored : AreStored f index glyphs
  pub advanced : AreAdvances f advances
  pub counted : IsStoredCount f (length advances)
  pub paired : HoldPairs f.kern.now pairs
  -- 512 pages of 256 glyphs at most, those of Unicode, and the advances and sides of 65,535 glyphs at most
  pub few_glyphs : length glyphs ≤ 131072
  pub few_pages : length index ≤ 4352
  pub few_advances : length advances ≤ 65535
  pub few_lefts : length pairs.lefts.items ≤ 65535
  pub few_rights : length pairs.rights.items ≤ 65535
