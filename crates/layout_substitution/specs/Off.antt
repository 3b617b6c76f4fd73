-- The glyphs for which a lookup is off.
use Rattle.std.specs.Prelude.{◌≡◌, ℕ, List, [], ◌∷◌, if◌then◌else◌}
use Rattle.shape_items.specs.Items.{Item, feature_bits}
use Rattle.layout_matching.specs.Skipping.{shares}
use Rattle.layout_matching.specs.declared.lookup.Lookup.{Lookup}

-- those whose masks have no bit of the lookup's, in their order
abbrev pub off_glyphs : Lookup → List Item → List ℕ
off_glyphs l [] = []
off_glyphs l (x ∷ xs) = if shares x.mask l.mask then off_glyphs l xs else x.glyph_id ∷ off_glyphs l xs

-- a lookup is on by features, and not by the defined flags of a mask
abbrev pub HasNoFlag : Lookup → Type 0
HasNoFlag l = feature_bits l.mask ≡ l.mask
