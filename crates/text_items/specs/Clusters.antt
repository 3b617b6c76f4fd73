-- A text as grapheme clusters, each with what decides its run.
use Rattle.std.specs.Prelude.{ℕ, ◌+◌, true, List, [], ◌∷◌, drop, length}
use Rattle.std.specs.Str.{chars}
use Rattle.ucd_script.specs.declared.Script.TheVariants.{Common}
use Rattle.unicode_segmentation.specs.Grapheme.{graphemes}
use Rattle.text_items.specs.Presentations.{of_cluster}
use Rattle.text_items.specs.Ranges.{number_at}
use Rattle.text_items.specs.Scripts.{own_script, with_next}
use Rattle.text_items.specs.declared.clusters.Cluster.{Cluster}
use Rattle.text_items.specs.declared.ranges.NumberedRange.{NumberedRange}

-- the level of the first of some characters, 0 past the end of the levels
abbrev pub first_level : List ℕ → ℕ
first_level [] = 0
first_level (level ∷ levels) = level

abbrev pub first_of : List ℕ → ℕ
first_of [] = 0x20
first_of (c ∷ cs) = c

-- the cluster from a byte to another, of these characters: it has the first of the levels of the characters from there on, and the
-- numbers of the place where it begins
abbrev pub cluster_by : List ℕ → List NumberedRange → List NumberedRange → ℕ → ℕ → List ℕ → Cluster
cluster_by levels languages features start end letters = record {
  start = start;
  end = end;
  first = first_of letters;
  script = own_script letters;
  next = Common;
  level = first_level levels;
  presentation = of_cluster letters;
  language = number_at languages start;
  features = number_at features start;
}

-- the clusters from a byte on, and the levels of the characters from there on
abbrev pub clusters_from : List ℕ → List NumberedRange → List NumberedRange → ℕ → List (List ℕ) → List Cluster
clusters_from levels languages features start [] = []
clusters_from levels languages features start (piece ∷ pieces) =
    cluster_by levels languages features start (start + length piece) (chars piece)
    ∷ clusters_from (drop (length (chars piece)) levels) languages features (start + length piece) pieces

-- the extended grapheme clusters of a text
abbrev pub clusters_of : List ℕ → List NumberedRange → List NumberedRange → List ℕ → List Cluster
clusters_of levels languages features text = with_next (clusters_from levels languages features 0 (graphemes true text))
