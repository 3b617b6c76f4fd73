-- The clusters of graphemes.
use Rattle.std.specs.Prelude.{ℕ, ◌==◌, if◌then◌else◌, fold}
use Rattle.std.specs.Int.RustNames.{bit_and}
use Rattle.shape_items.specs.Buffer.{Buffer}
use Rattle.shape_items.specs.BufferClusters.{merge_clusters, unsafe_to_break}
use Rattle.shape_common.specs.declared.text_types.BufferClusterLevel.TheVariants.{MonotoneGraphemes, MonotoneCharacters, Characters}
use Rattle.shape_items.specs.GraphemeSpans.{grapheme_spans}
use Rattle.shape_common.specs.FlagNames.{HAS_NON_ASCII}

-- f over the span of each grapheme, from left to right
abbrev pub over_graphemes : (ℕ → ℕ → Buffer → Buffer) → Buffer → Buffer
over_graphemes f b = fold (λ b span. f span.0 span.1 b) b (grapheme_spans b.items)

-- if a character past ASCII was seen (1), each grapheme is merged at level MONOTONE_GRAPHEMES, at the others marked
-- unsafe to break
unfoldable pub clusters_formed : Buffer → Buffer
clusters_formed b =
    if bit_and b.scratch_flags.0 HAS_NON_ASCII == HAS_NON_ASCII then (elim b.cluster_level [
      | MonotoneGraphemes ↦ over_graphemes merge_clusters b
      | MonotoneCharacters ↦ over_graphemes unsafe_to_break b
      | Characters ↦ over_graphemes unsafe_to_break b
    ])
    else b
