-- The glyphs of a buffer in the order of their text, each as a line breaker sees it.
use Rattle.std.specs.Prelude.{ℕ, ◌-◌, ℤ, neg_ℤ, Bool, not, nat_lt, List, [], ◌∷◌, length, reverse, slice_index, if◌then◌else◌}
use Rattle.shape_items.specs.Buffer.{Buffer}
use Rattle.shape_items.specs.Clusters.{clusters}
use Rattle.shape_common.specs.Direction.{is_vertical}
use Rattle.shape_common.specs.FlagNames.{UNSAFE_TO_BREAK}
use Rattle.shape_items.specs.Items.{Item}
use Rattle.shape_items.specs.PreservesFlags.{has_flag}
use Rattle.shape_common.specs.Positions.{zero_position}
use Rattle.shape_common.specs.declared.positions.GlyphPosition.{GlyphPosition}
use Rattle.shape_common.specs.declared.text_types.Direction.{Direction}

-- a glyph as a line breaker sees it: its cluster, whether it lacks UNSAFE_TO_BREAK, and its width
pub record Glyph : Type 0 where
  pub cluster : ℕ
  pub lacks_break : Bool
  pub width : ℤ

-- a glyph's width: how far it moves the pen on, downwards if the direction is vertical
abbrev pub width_of : Direction → GlyphPosition → ℤ
width_of direction position = if is_vertical direction then neg_ℤ position.y_advance else position.x_advance

abbrev pub glyph_of : Direction → Item → GlyphPosition → Glyph
glyph_of direction item position = record {
  cluster = item.cluster;
  lacks_break = not (has_flag UNSAFE_TO_BREAK item);
  width = width_of direction position;
}

-- the glyphs with their positions; a buffer has as many of one as of the other
abbrev pub glyphs_of : Direction → List Item → List GlyphPosition → List Glyph
glyphs_of direction [] positions = []
glyphs_of direction (item ∷ items) [] = glyph_of direction item zero_position ∷ glyphs_of direction items []
glyphs_of direction (item ∷ items) (position ∷ positions) = glyph_of direction item position ∷ glyphs_of direction items positions

-- clusters fall: the last one is below the first
abbrev pub falls : List ℕ → Bool
falls ks = nat_lt (slice_index ks (length ks - 1)) (slice_index ks 0)

-- from the end of the list if its clusters fall
abbrev pub text_order : Buffer → List Glyph
text_order b =
    let glyphs = glyphs_of b.direction b.items b.positions in
    if falls (clusters b.items) then reverse glyphs else glyphs

-- where the glyph of a place of the text stands in a list of so many
abbrev pub place_in : Bool → ℕ → ℕ → ℕ
place_in back count place = if back then count - 1 - place else place
