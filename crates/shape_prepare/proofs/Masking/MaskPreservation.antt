-- What each step of masks preserves, and their list.
use Rattle.std.proofs.Common.{◌≡◌, ◌&&◌, ◌+◌, ℕ, true, false, nat_le, nat_lt, List, [], ◌∷◌, map, refl, ap, sym, ◌∙◌, inl, inr, arith, fold}
use Rattle.std.proofs.lemmas.Bool.{cases_Bool}
use Rattle.std.proofs.lemmas.Bool.Decides.{nat_tests}
use Rattle.shape_items.specs.Buffer.{Buffer}
use Rattle.shape_common.specs.Direction.{is_forward}
use Rattle.shape_items.specs.Items.{Item}
use Rattle.shape_buffer.specs.Preservation.{IsClusterPreserving, IsFlagPreserving}
use Rattle.shape_items.specs.PreservesFlags.{IsDefinedFlag, has_flag, PreservesFlags}
use Rattle.shape_buffer.specs.Layout.{MapMeaning, LawfulMasks, HasNoDefinedFlag}
use Rattle.shape_common.specs.declared.text_types.Direction.{Direction}
use Rattle.shape_common.specs.declared.text_types.Feature.{Feature}
use Rattle.shape_items.proofs.Flags.FlagLemmas.{the_first, range_brings, unsafe_to_break_preserves, PreservesFlags-items, PreservesFlags-same, PreservesFlags-then}
use Rattle.shape_buffer.proofs.Steps.PreservationLemmas.{PreservesOrder-same, flags-none_brought, flags-unsafe_to_concat}
use Rattle.shape_buffer.proofs.Flags.FeatureBitLemmas.{feature-or, added_brings_none}
use Rattle.shape_plan.specs.Shaper.{without_mask}
use Rattle.shape_plan.proofs.PreservationLemmas.{preserving-hook}
use Rattle.shape_plan.proofs.MaskLemmas.{MasksAlone, MasksAlone-same, MasksAlone-then, alone-items_mapped, order-masks}
use Rattle.shape_plan.specs.declared.decisions.Decisions.{Decisions}
use Rattle.shape_prepare.specs.Fractions.{with_features, features_added, has_whole, whole_start, whole_end, slash_masked, slash_places, next_place, slashes_masked, fraction_masks, may_have_fractions, fractions_masked}
use Rattle.shape_prepare.specs.Preservation.{FractionsAreFeatures, MasksPreserveClusters, MasksPreserveFlags}
use Rattle.shape_plan.specs.Requests.{is_global}
use Rattle.shape_prepare.specs.Ranges.{shifted, with_feature, range_masked, ranges_masked}
use Rattle.shape_prepare.specs.declared.fractions.FractionMasks.{FractionMasks}
use Rattle.shape_prepare.proofs.Masking.FeatureBitLemmas.{value_brings_none}
use Rattle.shape_prepare.proofs.Masking.MaskLemmas.{alone-fractions_masked, slash_masked-alone, slash_masked-whole}

-- ---- fractions

order-fractions_masked : (decisions : Decisions) → IsClusterPreserving (fractions_masked decisions)
order-fractions_masked decisions = order-masks (fractions_masked decisions) (alone-fractions_masked decisions)

flags-features_added : (mask start end : ℕ) → HasNoDefinedFlag mask → IsFlagPreserving (features_added mask start end)
unfolding features_added
flags-features_added mask start end none b = PreservesFlags-items b _ (λ flag defined some. the_first _
    (range_brings (with_features mask) (has_flag flag) false
    (λ x has. inl (ap (nat_lt 0) (sym (added_brings_none mask x.mask flag none defined)) ∙ has)) start end b.items some))

-- the masks of the parts of a fraction are features
record PlainParts (masks : FractionMasks) : Type 0 where
  before : HasNoDefinedFlag masks.before
  slash : HasNoDefinedFlag masks.slash
  after : HasNoDefinedFlag masks.after

flags-slash_masked : (masks : FractionMasks) → PlainParts masks → (slash : ℕ) → IsFlagPreserving (slash_masked masks slash)
flags-slash_masked masks plain slash b = elim (cases_Bool (has_whole b.items slash)) [
  | inl some ↦
      let start = whole_start b.items slash in
      let end = whole_end b.items slash in
      rw (slash_masked-whole masks slash b some)
      (PreservesFlags-then b _ _ (unsafe_to_break_preserves start end b)
      (PreservesFlags-then _ _ _ (flags-features_added masks.before start slash plain.before _)
      (PreservesFlags-then _ _ _ (flags-features_added masks.slash slash (slash + 1) plain.slash _)
      (flags-features_added masks.after (slash + 1) end plain.after _))))
  | inr none ↦ rw (slash_masked-alone masks slash b none) (flags-unsafe_to_concat slash (slash + 1) b)
]

flags-slashes_masked : (masks : FractionMasks) → PlainParts masks → (next : ℕ) (slashes : List ℕ) (b : Buffer)
    → PreservesFlags b (slashes_masked masks next slashes b)
flags-slashes_masked masks plain next [] b = PreservesFlags-same b
flags-slashes_masked masks plain next (slash ∷ slashes) b = elim (cases_Bool (nat_lt slash next)) [
  | inl passed ↦ rw passed (flags-slashes_masked masks plain next slashes b)
  | inr reached ↦ rw reached (PreservesFlags-then b _ _ (flags-slash_masked masks plain slash b)
      (flags-slashes_masked masks plain (next_place b.items slash) slashes (slash_masked masks slash b)))
]

plain_parts : (decisions : Decisions) (direction : Direction) → FractionsAreFeatures decisions
    → PlainParts (fraction_masks decisions direction)
plain_parts decisions direction features = elim (cases_Bool (is_forward direction)) [
  | inl forward ↦ rw forward (record { before = feature-or _ _ features.numr features.frac; slash = features.frac; after = feature-or _ _ features.frac features.dnom })
  | inr backward ↦ rw backward (record { before = feature-or _ _ features.frac features.dnom; slash = features.frac; after = feature-or _ _ features.numr features.frac })
]

flags-fractions_masked : (decisions : Decisions) → FractionsAreFeatures decisions → IsFlagPreserving (fractions_masked decisions)
unfolding fractions_masked
flags-fractions_masked decisions features b = elim (cases_Bool (may_have_fractions decisions b)) [
  | inl due ↦ rw due (flags-slashes_masked (fraction_masks decisions b.direction) (plain_parts decisions b.direction features) 0
      (slash_places 0 b.items) b)
  | inr not_due ↦ rw not_due (PreservesFlags-same b)
]

-- ---- the user's features

feature-alone : (feature : Feature) (place : ℕ × ℕ) (item : Item) → without_mask (with_feature feature place item) ≡ without_mask item
feature-alone feature place item = elim (cases_Bool (nat_le feature.start item.cluster && nat_lt item.cluster feature.end)) [
  | inl within ↦ rw within refl
  | inr without ↦ rw without refl
]

alone-range_masked : (map : MapMeaning) (feature : Feature) (b : Buffer) → MasksAlone b (range_masked map b feature)
alone-range_masked map feature b = elim (cases_Bool (is_global feature)) [
  | inl global ↦ rw global (MasksAlone-same b)
  | inr part ↦ rw part (alone-items_mapped (with_feature feature (map.mask feature.tag)) (feature-alone feature (map.mask feature.tag)) b)
]

alone-features : (map : MapMeaning) (features : List Feature) (b : Buffer) → MasksAlone b (fold (range_masked map) b features)
alone-features map [] b = MasksAlone-same b
alone-features map (feature ∷ features) b =
    MasksAlone-then (alone-range_masked map feature b) (alone-features map features (range_masked map b feature))

order-ranges_masked : (map : MapMeaning) (features : List Feature) → IsClusterPreserving (ranges_masked map features)
unfolding ranges_masked
order-ranges_masked map features = order-masks (ranges_masked map features) (alone-features map features)

feature_brings_none : (feature : Feature) (place : ℕ × ℕ) → HasNoDefinedFlag place.0 → (flag : ℕ) → IsDefinedFlag flag → (item : Item)
    → has_flag flag (with_feature feature place item) ≡ true → has_flag flag item ≡ true
feature_brings_none feature place none flag defined item =
    elim (cases_Bool (nat_le feature.start item.cluster && nat_lt item.cluster feature.end)) [
      | inl within ↦ rw within (λ has. let less = value_brings_none place.0 (shifted feature.value place.1) item.mask flag none defined in grind
          (arith, nat_tests))
      | inr without ↦ rw without (λ has. has)
    ]

flags-range_masked : (map : MapMeaning) → LawfulMasks map → (feature : Feature) (b : Buffer) → PreservesFlags b (range_masked map b feature)
flags-range_masked map lawful feature b = elim (cases_Bool (is_global feature)) [
  | inl global ↦ rw global (PreservesFlags-same b)
  | inr part ↦ rw part (flags-none_brought (with_feature feature (map.mask feature.tag))
      (feature_brings_none feature (map.mask feature.tag) (lawful.mask feature.tag)) b)
]

flags-features : (map : MapMeaning) → LawfulMasks map → (features : List Feature) (b : Buffer)
    → PreservesFlags b (fold (range_masked map) b features)
flags-features map lawful [] b = PreservesFlags-same b
flags-features map lawful (feature ∷ features) b =
    PreservesFlags-then b _ _ (flags-range_masked map lawful feature b) (flags-features map lawful features (range_masked map b feature))

flags-ranges_masked : (map : MapMeaning) → LawfulMasks map → (features : List Feature) → IsFlagPreserving (ranges_masked map features)
unfolding ranges_masked
flags-ranges_masked map lawful features = flags-features map lawful features

-- ---- the list

pub masks-preserve_clusters : MasksPreserveClusters
masks-preserve_clusters run keep = (
  order-fractions_masked run.decisions,
  (
    preserving-hook IsClusterPreserving (λ b monotone. PreservesOrder-same b) run.constants.has_setup_masks run.hooks (λ h. h.setup_masks)
        (λ h is. (keep.hooks h is).setup_masks),
    (order-ranges_masked run.map run.user_features, tt),
  ),
)

pub masks-preserve_flags : MasksPreserveFlags
masks-preserve_flags run masks features keep = (
  flags-fractions_masked run.decisions features,
  (
    preserving-hook IsFlagPreserving PreservesFlags-same run.constants.has_setup_masks run.hooks (λ h. h.setup_masks)
        (λ h is. (keep.hooks h is).setup_masks),
    (flags-ranges_masked run.map masks run.user_features, tt),
  ),
)
