use Rattle.std.proofs.Common.{◌≡◌, true, ℕ, ◌+◌, ◌≤◌, ◌++◌, length, drop}
use Rattle.std.specs.List.{concat}
use Rattle.unicode_segmentation.specs.Iter.{graphemes_left}
use Rattle.unicode_segmentation.specs.Grapheme.{graphemes}
use Rattle.text_items.specs.Clusters.{clusters_from}
use Rattle.text_items.specs.Ranges.{number_at}
use Rattle.text_items.proofs.clusters.read_clusters.Given as goal

abbrev pub invariant-loop-piece : goal.invariant-loop-piece
invariant-loop-piece l = record {
  clusters_are : l.clusters.items ++ clusters_from (drop l.place.levels l.options.levels.now) l.options.languages.now l.options.features.now l.place.offset (graphemes_left l.piece-iterator)
      ≡ clusters_from l.options.levels.now l.options.languages.now l.options.features.now 0 (graphemes true l.text);
  languages : (at : ℕ) → l.place.offset ≤ at → number_at (drop l.place.languages l.options.languages.now) at ≡ number_at l.options.languages.now at;
  features : (at : ℕ) → l.place.offset ≤ at → number_at (drop l.place.features l.options.features.now) at ≡ number_at l.options.features.now at;
  bytes : l.place.offset + length (concat (graphemes_left l.piece-iterator)) ≡ length l.text;
}
