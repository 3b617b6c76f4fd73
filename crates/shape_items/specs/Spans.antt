-- Spans of items that are merged one after the other.
use Rattle.std.specs.Prelude.{ℕ, ◌-◌, ◌≤◌, ⊤, List, [], ◌∷◌, fold, length, nat_lt, if◌then◌else◌}
use Rattle.std.specs.List.{suffix_len}
use Rattle.shape_items.specs.Items.{Item, has_cluster}
use Rattle.shape_items.specs.Clusters.{merge, put_range}
use Rattle.shape_items.specs.Buffer.{Buffer}
use Rattle.shape_items.specs.BufferClusters.{merge_clusters, merge_out_clusters}

-- no span begins before this place, nor before the one that precedes it begins, and each ends within so many items
abbrev pub AreSpansInOrder : ℕ → ℕ → List (ℕ × ℕ) → Type 0
AreSpansInOrder from size [] = ⊤
AreSpansInOrder from size (span ∷ spans) =
    (from ≤ span.0) × (span.0 ≤ span.1) × (span.1 ≤ size) × AreSpansInOrder span.0 size spans

-- the items with each span merged, in order
abbrev pub merge_each : List (ℕ × ℕ) → List Item → List Item
merge_each spans xs = fold (λ xs span. merge span.0 span.1 xs) xs spans

-- the buffer with each span merged as its level asks, in order
abbrev pub all_merged : List (ℕ × ℕ) → Buffer → Buffer
all_merged spans b = fold (λ b span. merge_clusters span.0 span.1 b) b spans

-- and with each span merged at the monotone levels alone
abbrev pub spans_merged_out : List (ℕ × ℕ) → Buffer → Buffer
spans_merged_out spans b = fold (λ b span. merge_out_clusters span.0 span.1 b) b spans

-- what becomes of the items before a span whose least cluster is `least` and whose first item is in cluster `first`:
-- those at their end in `first` are put in `least`, if that is less
abbrev pub grown_left : ℕ → ℕ → List Item → List Item
grown_left first least given =
    if nat_lt least first then put_range (length given - suffix_len (has_cluster first) given) (length given) least given else given
