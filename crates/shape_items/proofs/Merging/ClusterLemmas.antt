-- Merging and marking, case by case: a span is long or short, a level merges or marks.
use Rattle.std.proofs.Common.{◌≡◌, ℕ, ◌+◌, ◌-◌, ◌<◌, ◌≤◌, ◌==◌, true, false, List, map, refl, sym, subst, arith, nat_lt, bit_and, slice_range, inl, inr, ◌⊎◌}
use Rattle.std.proofs.lemmas.Bool.{cases_Bool}
use Rattle.std.proofs.lemmas.Bool.Decides.{nat_tests}
use Rattle.std.proofs.lemmas.List.{drop-drop}
use borrow.Rule.Slice.PartMut.{put_mid}
use Rattle.shape_items.specs.Buffer.{Buffer}
use Rattle.shape_items.specs.BufferClusters.{with_glyph_flags, merge_at, merge_clusters, merge_out_clusters, unsafe_to_break, tatweel_marked, safe_to_insert_tatweel}
use Rattle.shape_items.specs.Clusters.{map_range, put_range, merge, mark_break, mark_tatweel, least_cluster, growth_left, growth_right}
use Rattle.shape_items.specs.ClusterOrder.{IsMonotoneLevel}
use Rattle.shape_items.specs.Items.{Item}
use Rattle.shape_common.specs.declared.text_types.BufferClusterLevel.{BufferClusterLevel}
use Rattle.shape_common.specs.declared.text_types.BufferClusterLevel.TheVariants.{MonotoneGraphemes, MonotoneCharacters, Characters}

-- what a write to a part leaves, if f goes over the part
pub put_mid-map_range : (f : Item → Item) (a b : ℕ) (xs ys : List Item) → a ≤ b → ys ≡ map f (slice_range xs a b)
    → put_mid a (b - a) xs ys ≡ map_range f a b xs
put_mid-map_range f a b xs ys le e =
    let sum : a + (b - a) ≡ b = omega arith in
    rw (e, drop-drop (b - a) a xs, sum) refl

-- ---- a list

-- where the span of a merge begins and ends once it has grown
abbrev pub grown_start : ℕ → ℕ → List Item → ℕ
grown_start start end xs = start - growth_left xs start (least_cluster (slice_range xs start end))

abbrev pub grown_end : ℕ → ℕ → List Item → ℕ
grown_end start end xs = end + growth_right xs (end - 1) (least_cluster (slice_range xs start end))

-- that span in its least cluster
abbrev pub merged_span : ℕ → ℕ → List Item → List Item
merged_span start end xs = put_range (grown_start start end xs) (grown_end start end xs) (least_cluster (slice_range xs start end)) xs

pub merge_short : (start end : ℕ) (xs : List Item) → nat_lt (start + 1) end ≡ false → merge start end xs ≡ xs
unfolding merge
merge_short start end xs short = rw short refl

pub merge_long : (start end : ℕ) (xs : List Item) → nat_lt (start + 1) end ≡ true → merge start end xs ≡ merged_span start end xs
unfolding merge
merge_long start end xs long = rw long refl

pub merge-cases : (P : List Item → Type 0) (start end : ℕ) (xs : List Item) → (start + 1 < end → P (merged_span start end xs)) → P xs
    → P (merge start end xs)
merge-cases P start end xs long short = elim (cases_Bool (nat_lt (start + 1) end)) [
  | inl more ↦ subst P (sym (merge_long start end xs more)) (long (grind (arith, nat_tests)))
  | inr few ↦ subst P (sym (merge_short start end xs few)) short
]

-- ---- a buffer

-- the span marked
abbrev pub marked_span : ℕ → ℕ → Buffer → Buffer
marked_span start end b =
    record (with_glyph_flags b) { items = map_range (mark_break (least_cluster (slice_range b.items start end))) start end b.items }

pub unsafe_to_break-cases : (P : Buffer → Type 0) (start end : ℕ) (b : Buffer) → (start + 1 < end → P (marked_span start end b)) → P b
    → P (unsafe_to_break start end b)
unsafe_to_break-cases P start end b long short = elim (cases_Bool (nat_lt (start + 1) end)) [
  | inl more ↦ rw more (long (grind (arith, nat_tests)))
  | inr few ↦ rw few short
]

-- the span marked safe to insert tatweel
abbrev pub tatweel_span : ℕ → ℕ → Buffer → Buffer
tatweel_span start end b =
    record (with_glyph_flags b) { items = map_range (mark_tatweel (least_cluster (slice_range b.items start end))) start end b.items }

tatweel_marked-cases : (P : Buffer → Type 0) (start end : ℕ) (b : Buffer) → (start + 1 < end → P (tatweel_span start end b)) → P b
    → P (tatweel_marked start end b)
tatweel_marked-cases P start end b long short = elim (cases_Bool (nat_lt (start + 1) end)) [
  | inl more ↦ rw more (long (grind (arith, nat_tests)))
  | inr few ↦ rw few short
]

-- it is asked for, or the span is marked unsafe to break
pub tatweel-cases : (P : Buffer → Type 0) (start end : ℕ) (b : Buffer) → (start + 1 < end → P (tatweel_span start end b)) → P b
    → P (unsafe_to_break start end b) → P (safe_to_insert_tatweel start end b)
tatweel-cases P start end b long short unsafe = elim (cases_Bool (bit_and b.flags.0 128 == 128)) [
  | inl asked ↦ rw asked (tatweel_marked-cases P start end b long short)
  | inr unasked ↦ rw unasked unsafe
]

pub merge_clusters-cases : (P : Buffer → Type 0) (start end : ℕ) (b : Buffer) → (IsMonotoneLevel b.cluster_level → P (merge_at start end b))
    → (b.cluster_level ≡ Characters → P (unsafe_to_break start end b)) → P (merge_clusters start end b)
merge_clusters-cases P start end b = at_level b.cluster_level
  where
    at_level : (level : BufferClusterLevel) → (IsMonotoneLevel level → P (merge_at start end b))
        → (level ≡ Characters → P (unsafe_to_break start end b)) → P (elim level as (λ v. Buffer) [
          | MonotoneGraphemes ↦ merge_at start end b
          | MonotoneCharacters ↦ merge_at start end b
          | Characters ↦ unsafe_to_break start end b
        ])
    at_level MonotoneGraphemes merged marked = merged tt
    at_level MonotoneCharacters merged marked = merged tt
    at_level Characters merged marked = marked refl

pub merge_out-cases : (P : Buffer → Type 0) (start end : ℕ) (b : Buffer) → P (merge_at start end b) → P b
    → P (merge_out_clusters start end b)
merge_out-cases P start end b merged same = at_level b.cluster_level
  where
    at_level : (level : BufferClusterLevel) → P (elim level as (λ v. Buffer) [
      | MonotoneGraphemes ↦ merge_at start end b
      | MonotoneCharacters ↦ merge_at start end b
      | Characters ↦ b
    ])
    at_level MonotoneGraphemes = merged
    at_level MonotoneCharacters = merged
    at_level Characters = same

-- at a monotone level a span is merged
pub merge_clusters-monotone : (start end : ℕ) (b : Buffer) → IsMonotoneLevel b.cluster_level
    → merge_clusters start end b ≡ merge_at start end b
merge_clusters-monotone start end b monotone =
    merge_clusters-cases (λ c. c ≡ merge_at start end b) start end b (λ m. refl) (λ is. absurd (subst IsMonotoneLevel is monotone))

pub merge_out-monotone : (start end : ℕ) (b : Buffer) → IsMonotoneLevel b.cluster_level
    → merge_out_clusters start end b ≡ merge_at start end b
merge_out-monotone start end b = at_level b.cluster_level
  where
    at_level : (level : BufferClusterLevel) → IsMonotoneLevel level → (elim level as (λ v. Buffer) [
      | MonotoneGraphemes ↦ merge_at start end b
      | MonotoneCharacters ↦ merge_at start end b
      | Characters ↦ b
    ]) ≡ merge_at start end b
    at_level MonotoneGraphemes monotone = refl
    at_level MonotoneCharacters monotone = refl
    at_level Characters monotone = absurd monotone

-- a level merges, or it is CHARACTERS
pub level_cases : (level : BufferClusterLevel) → IsMonotoneLevel level ⊎ (level ≡ Characters)
level_cases MonotoneGraphemes = inl tt
level_cases MonotoneCharacters = inl tt
level_cases Characters = inr refl
