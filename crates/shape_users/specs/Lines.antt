-- Where a line may end.
use Rattle.std.specs.Prelude.{ℕ, ◌==◌, Bool, false, List, unwrap_or}
use Rattle.std.specs.Int.RustNames.{bit_and}
use Rattle.std.specs.List.{find}
use Rattle.std.specs.Option.{option_map}
use Rattle.shape_items.specs.Items.{Item, has_cluster}
use Rattle.shape_common.specs.FlagNames.{UNSAFE_TO_BREAK}

-- the glyph lacks UNSAFE_TO_BREAK (1)
abbrev pub lacks_break : Item → Bool
lacks_break glyph = bit_and glyph.mask UNSAFE_TO_BREAK == 0

-- the first glyph of the cluster is there and lacks it
abbrev pub cut_at : ℕ → List Item → Bool
cut_at cluster glyphs = unwrap_or (option_map lacks_break (find (has_cluster cluster) glyphs)) false
