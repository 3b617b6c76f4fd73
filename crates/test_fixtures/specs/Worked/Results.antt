-- The clusters of a result, clusters by number, and scripts by their tags, worked by hand.
use Rattle.std.specs.Int.{int_wrap}
use Rattle.std.specs.Prelude.{◌≡◌, ℕ, ℤ, pos, true, false, List, [], ◌∷◌, map, Option, Some, None, refl}
use Rattle.shape_items.specs.Buffer.{Buffer, new_buffer}
use Rattle.shape_items.specs.GlyphClusters.{advance_over, clusters_in_text_order}
use Rattle.shape_items.specs.Items.{Item, new_item}
use Rattle.shape_common.specs.Positions.{zero_position}
use Rattle.shape_common.specs.ScriptTags.{script_of_tag}
use Rattle.shape_buffer.specs.Text.{numbered_from}
use Rattle.shape_common.specs.Wrapping.{◌+ʷ◌}
use Rattle.shape_items.specs.declared.clusters.glyph_clusters.GlyphCluster.{GlyphCluster}
use Rattle.shape_common.specs.declared.positions.GlyphPosition.{GlyphPosition}
use Rattle.shape_common.specs.declared.text_types.Direction.{Direction}
use Rattle.shape_common.specs.declared.text_types.Direction.TheVariants.{LeftToRight, RightToLeft, TopToBottom, BottomToTop}
use Rattle.shape_common.specs.declared.text_types.Script.{Script}

-- ---- clusters of a result

-- a glyph of a cluster with this mask, and a position that moves the pen so far across and so far down
abbrev pub glyph_in : ℕ → ℕ → Item
glyph_in cluster mask = record (new_item 0x67 cluster) { mask = mask }

abbrev pub moved : ℤ → ℤ → GlyphPosition
moved across down = record zero_position { x_advance = across; y_advance = down }

-- two glyphs of cluster 3, the second unsafe to break, and one of cluster 1 that is unsafe to concat
abbrev pub three_glyphs : Direction → Buffer
three_glyphs direction = record new_buffer {
  direction = direction;
  items = glyph_in 3 0 ∷ glyph_in 3 1 ∷ glyph_in 1 2 ∷ [];
  positions = moved (pos 2) (pos 20) ∷ moved (pos 3) (pos 30) ∷ moved (pos 4) (pos 40) ∷ [];
}

abbrev pub pair : ℤ → GlyphCluster
pair advance = record { cluster = 3; start = 0; end = 2; advance = advance; unsafe_to_break = true }

abbrev pub single : ℤ → GlyphCluster
single advance = record { cluster = 1; start = 2; end = 3; advance = advance; unsafe_to_break = false }

pub record ClustersOfResults : Type 0 where
  pub rightward : clusters_in_text_order (three_glyphs LeftToRight) ≡ pair (pos 5) ∷ single (pos 4) ∷ []
  pub leftward : clusters_in_text_order (three_glyphs RightToLeft) ≡ single (pos 4) ∷ pair (pos 5) ∷ []
  pub downward : clusters_in_text_order (three_glyphs TopToBottom) ≡ pair (pos 50) ∷ single (pos 40) ∷ []
  pub upward : clusters_in_text_order (three_glyphs BottomToTop) ≡ single (pos 40) ∷ pair (pos 50) ∷ []
  pub none : clusters_in_text_order new_buffer ≡ []
  pub no_advance : advance_over LeftToRight [] ≡ pos 0

clusters_of_results : ClustersOfResults
unfolding advance_over ◌+ʷ◌ int_wrap
clusters_of_results = record { rightward = refl; leftward = refl; downward = refl; upward = refl; none = refl; no_advance = refl }

-- ---- clusters by number

-- three items, whatever clusters they had
abbrev pub three_items : List Item
three_items = new_item 0x61 7 ∷ new_item 0x62 7 ∷ new_item 0x63 2 ∷ []

pub record NumberedClusters : Type 0 where
  pub from_zero : numbered_from 0 three_items ≡ new_item 0x61 0 ∷ new_item 0x62 1 ∷ new_item 0x63 2 ∷ []
  pub past_32_bits : numbered_from 4294967294 three_items
      ≡ new_item 0x61 4294967294 ∷ new_item 0x62 4294967295 ∷ new_item 0x63 4294967295 ∷ []
  pub none : numbered_from 0 [] ≡ []

numbered_clusters : NumberedClusters
numbered_clusters = record { from_zero = refl; past_32_bits = refl; none = refl }

-- ---- scripts by tag

abbrev pub script : ℕ → Option Script
script tag = Some (record { 0 = record { 0 = tag } })

pub record ScriptsOfTags : Type 0 where
  pub none : script_of_tag 0 ≡ None
  pub latin : script_of_tag 0x4C61746E ≡ script 0x4C61746E
  -- `latn`, `LATN` and `lATn`
  pub small : script_of_tag 0x6C61746E ≡ script 0x4C61746E
  pub capital : script_of_tag 0x4C41544E ≡ script 0x4C61746E
  pub mixed : script_of_tag 0x6C41546E ≡ script 0x4C61746E
  -- Qaai Qaac Aran Cyrs Geok Hans Hant Jamo Latf Latg Syre Syrj Syrn
  pub variants : map script_of_tag (0x51616169 ∷ 0x51616163 ∷ 0x4172616E ∷ 0x43797273 ∷ 0x47656F6B ∷ 0x48616E73 ∷ 0x48616E74 ∷ 0x4A616D6F
      ∷ 0x4C617466 ∷ 0x4C617467 ∷ 0x53797265 ∷ 0x5379726A ∷ 0x5379726E ∷ [])
      ≡ script 0x5A696E68 ∷ script 0x436F7074 ∷ script 0x41726162 ∷ script 0x4379726C ∷ script 0x47656F72 ∷ script 0x48616E69
      ∷ script 0x48616E69 ∷ script 0x48616E67 ∷ script 0x4C61746E ∷ script 0x4C61746E ∷ script 0x53797263 ∷ script 0x53797263
      ∷ script 0x53797263 ∷ []
  -- `1234`, and `Lat1`: no names
  pub digits : script_of_tag 0x31323334 ≡ script 0x5A7A7A7A
  pub one_digit : script_of_tag 0x4C617431 ≡ script 0x5A7A7A7A

scripts_of_tags : ScriptsOfTags
scripts_of_tags = record {
  none = refl;
  latin = refl;
  small = refl;
  capital = refl;
  mixed = refl;
  variants = refl;
  digits = refl;
  one_digit = refl;
}

pub record WorkedResults : Type 0 where
  pub clusters : ClustersOfResults
  pub numbers : NumberedClusters
  pub scripts : ScriptsOfTags

pub worked_results : WorkedResults
worked_results = record { clusters = clusters_of_results; numbers = numbered_clusters; scripts = scripts_of_tags }
