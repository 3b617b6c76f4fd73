-- Noncontextual subtables (TrueType Reference Manual, "The 'morx' table", "Noncontextual Glyph Substitution Subtable"): each glyph
-- by a lookup table.
use Rattle.std.specs.Prelude.{ℕ, List, length, nat_lt, if◌then◌else◌}
use Rattle.std.specs.Option.{option_map_or}
use Rattle.shape_buffer.specs.Walks.{items_mapped}
use Rattle.shape_items.specs.Buffer.{Buffer}
use Rattle.shape_items.specs.Items.{Item}
use Rattle.apple_substitution.specs.Contextual.{Source}
use Rattle.apple_substitution.specs.Edits.{charged}
use Rattle.apple_substitution.specs.Glyphs.{glyph_by, replaced}
use Rattle.apple_substitution.specs.Ranges.{is_on, walk_work}
use Rattle.apple_substitution.specs.declared.noncontextual.Noncontextual.{Noncontextual}
use Rattle.apple_substitution.specs.declared.ranges.FlagRange.{FlagRange}

abbrev pub source_of : Noncontextual → Source
source_of n = record { morx = n.tables.morx.now; gdef = n.tables.gdef.now; start = n.start; glyphs = n.tables.glyphs }

-- the glyph that the table has in place of this one, where features have the subtable on
unfoldable pub substituted_by : Source → List FlagRange → ℕ → Item → Item
substituted_by s ranges wanted item = if is_on ranges wanted item.cluster
    then option_map_or (λ glyph. replaced s.gdef glyph item) (glyph_by s.morx s.start s.glyphs item.glyph_id) item
    else item

-- a walk is charged for; if what is left doesn't suffice, it isn't made, and nothing is left
unfoldable pub all_substituted_by : Source → List FlagRange → ℕ → Buffer → Buffer
all_substituted_by s ranges wanted b = let work = walk_work (length ranges) b in
    (if nat_lt b.max_ops work then charged work b else items_mapped (substituted_by s ranges wanted) (charged work b))

abbrev pub substituted : Noncontextual → Item → Item
substituted n = substituted_by (source_of n) n.ranges.list.now n.ranges.wanted

abbrev pub all_substituted : Noncontextual → Buffer → Buffer
all_substituted n = all_substituted_by (source_of n) n.ranges.list.now n.ranges.wanted
