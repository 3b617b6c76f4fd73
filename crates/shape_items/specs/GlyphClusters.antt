-- The clusters of a result, each with its glyphs.
use Rattle.std.specs.Prelude.{ℕ, ℤ, pos, ◌+◌, List, [], ◌∷◌, length, fold, reverse, slice_range, if◌then◌else◌}
use Rattle.std.specs.List.{prefix_len}
use Rattle.shape_items.specs.Buffer.{Buffer}
use Rattle.shape_common.specs.Direction.{is_vertical, is_backward}
use Rattle.shape_common.specs.FlagNames.{UNSAFE_TO_BREAK}
use Rattle.shape_items.specs.Flags.{cluster_runs}
use Rattle.shape_items.specs.Items.{Item, has_cluster}
use Rattle.shape_items.specs.PreservesFlags.{some_has}
use Rattle.shape_common.specs.Wrapping.{◌+ʷ◌}
use Rattle.shape_items.specs.declared.clusters.glyph_clusters.GlyphCluster.{GlyphCluster}
use Rattle.shape_common.specs.declared.positions.GlyphPosition.{GlyphPosition}
use Rattle.shape_common.specs.declared.text_types.Direction.{Direction}

-- how far a position moves the pen along the line
abbrev pub advance_along : Direction → GlyphPosition → ℤ
advance_along direction position = if is_vertical direction then position.y_advance else position.x_advance

-- how far some positions move it, modulo 2^32
unfoldable pub advance_over : Direction → List GlyphPosition → ℤ
advance_over direction positions = fold (λ total position. total +ʷ advance_along direction position) (pos 0) positions

-- the cluster of the first of some glyphs, 0 for none
abbrev pub first_cluster : List Item → ℕ
first_cluster [] = 0
first_cluster (glyph ∷ glyphs) = glyph.cluster

-- how many glyphs from the first one on have its cluster
abbrev pub run_length : List Item → ℕ
run_length [] = 0
run_length (glyph ∷ glyphs) = prefix_len (has_cluster glyph.cluster) (glyph ∷ glyphs)

-- a span of glyphs of one cluster, the first of them at a place
abbrev pub cluster_of : Direction → List GlyphPosition → ℕ → List Item → GlyphCluster
cluster_of direction positions place run = record {
  cluster = first_cluster run;
  start = place;
  end = place + length run;
  advance = advance_over direction (slice_range positions place (place + length run));
  unsafe_to_break = some_has UNSAFE_TO_BREAK run;
}

-- spans that stand one after the other, the first of them at a place
abbrev pub clusters_of : Direction → List GlyphPosition → ℕ → List (List Item) → List GlyphCluster
clusters_of direction positions place [] = []
clusters_of direction positions place (run ∷ runs) =
    cluster_of direction positions place run ∷ clusters_of direction positions (place + length run) runs

-- the clusters of a result in the order of the text: that of the list, reversed if text runs backward
abbrev pub clusters_in_text_order : Buffer → List GlyphCluster
clusters_in_text_order b =
    let clusters = clusters_of b.direction b.positions 0 (cluster_runs b.items) in
    if is_backward b.direction then reverse clusters else clusters
