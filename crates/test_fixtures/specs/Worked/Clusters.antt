-- What is promised of clusters and flags of whole runs, on lists that were worked by hand: what each promise takes, and
-- what it refuses.
use Rattle.std.specs.Prelude.{ℕ, List, [], ◌∷◌, map}
use Rattle.shape_items.specs.Buffer.{Buffer, new_buffer}
use Rattle.shape_items.specs.Items.{new_item}
use Rattle.shape_common.specs.declared.text_types.BufferClusterLevel.{BufferClusterLevel}
use Rattle.shape_common.specs.declared.text_types.BufferClusterLevel.TheVariants.{MonotoneGraphemes, MonotoneCharacters, Characters}
use Rattle.shape_common.specs.declared.text_types.Direction.{Direction}
use Rattle.shape_common.specs.declared.text_types.Direction.TheVariants.{LeftToRight, RightToLeft, TopToBottom, BottomToTop}
use Rattle.shape_pipeline.specs.Headline.{HasFlagsByCluster}
use Rattle.shape_pipeline.specs.Order.{ComesInOrder, ClustersComeInOrder}
use Rattle.shape_plan.specs.Run.{Run}
use Rattle.shape_prepare.specs.Worked.Unicode.{worked_unicode, text_of}

-- ---- clusters

-- U+0061 U+0301 U+0062, two graphemes
abbrev pub accented : BufferClusterLevel → Buffer
accented level = record (text_of ((0x61, 0) ∷ (0x301, 1) ∷ (0x62, 3) ∷ [])) { cluster_level = level }

abbrev pub glyphs_in : List ℕ → Buffer
glyphs_in ks = record new_buffer { items = map (new_item 0x67) ks }

-- glyphs in these clusters come in order, or they don't, at a level and for a direction
abbrev pub Come : BufferClusterLevel → Direction → List ℕ → Type 0
Come level target ks = (run : Run) → ComesInOrder (record run { unicode = worked_unicode }) target (accented level) (glyphs_in ks)

abbrev pub ComeNot : BufferClusterLevel → Direction → List ℕ → Type 0
ComeNot level target ks =
    (run : Run) → ComesInOrder (record run { unicode = worked_unicode }) target (accented level) (glyphs_in ks) → ⊥

pub record OrderOfClusters : Type 0 where
  pub rightward : Come MonotoneCharacters LeftToRight (0 ∷ 1 ∷ 3 ∷ [])
  pub leftward : Come MonotoneCharacters RightToLeft (3 ∷ 1 ∷ 0 ∷ [])
  pub downward : Come MonotoneCharacters TopToBottom (0 ∷ 1 ∷ 3 ∷ [])
  pub upward : Come MonotoneCharacters BottomToTop (3 ∷ 1 ∷ 0 ∷ [])
  pub none : Come MonotoneCharacters LeftToRight []
  pub merged : Come MonotoneCharacters LeftToRight (0 ∷ 0 ∷ 3 ∷ [])
  pub merged_leftward : Come MonotoneCharacters RightToLeft (3 ∷ 1 ∷ 1 ∷ [])
  -- more glyphs than characters, and a cluster that has none
  pub doubled : Come MonotoneCharacters LeftToRight (1 ∷ 1 ∷ 1 ∷ 3 ∷ [])
  pub graphemes : Come MonotoneGraphemes LeftToRight (0 ∷ 0 ∷ 3 ∷ [])
  pub graphemes_leftward : Come MonotoneGraphemes RightToLeft (3 ∷ 0 ∷ 0 ∷ [])

pub record NoOrderOfClusters : Type 0 where
  pub falls : ComeNot MonotoneCharacters LeftToRight (1 ∷ 0 ∷ 3 ∷ [])
  pub falls_at_the_end : ComeNot MonotoneCharacters LeftToRight (0 ∷ 3 ∷ 1 ∷ [])
  pub falls_downward : ComeNot MonotoneCharacters TopToBottom (3 ∷ 1 ∷ 0 ∷ [])
  pub rises_leftward : ComeNot MonotoneCharacters RightToLeft (0 ∷ 1 ∷ 3 ∷ [])
  pub rises_upward : ComeNot MonotoneCharacters BottomToTop (3 ∷ 0 ∷ 1 ∷ [])
  pub from_nowhere : ComeNot MonotoneCharacters LeftToRight (0 ∷ 2 ∷ 3 ∷ [])
  pub past_the_text : ComeNot MonotoneCharacters RightToLeft (4 ∷ 0 ∷ [])
  pub falls_at_graphemes : ComeNot MonotoneGraphemes LeftToRight (3 ∷ 0 ∷ 0 ∷ [])
  -- the cluster of a mark
  pub inside_a_grapheme : ComeNot MonotoneGraphemes LeftToRight (0 ∷ 1 ∷ 3 ∷ [])
  pub inside_leftward : ComeNot MonotoneGraphemes RightToLeft (3 ∷ 1 ∷ [])

-- if clusters aren't merged nothing is promised
pub record AtNoMonotoneLevel : Type 0 where
  pub anything : (run : Run) (ks : List ℕ) → ClustersComeInOrder run LeftToRight (accented Characters) (glyphs_in ks)

-- ---- flags

-- a text with these flags, and glyphs by their clusters and masks
abbrev pub asking : ℕ → Buffer
asking flags = record new_buffer { flags = record { 0 = flags } }

abbrev pub glyphs_with : List (ℕ × ℕ) → Buffer
glyphs_with ks = record new_buffer { items = map (λ k. record (new_item 0x67 k.0) { mask = k.1 }) ks }

pub record FlagsOfClusters : Type 0 where
  pub none : HasFlagsByCluster (asking 0) (glyphs_with [])
  pub one_set : HasFlagsByCluster (asking 0) (glyphs_with ((0, 1) ∷ (0, 1) ∷ (3, 0) ∷ []))
  pub each_its_own : HasFlagsByCluster (asking 0) (glyphs_with ((3, 5) ∷ (1, 4) ∷ (0, 0) ∷ []))
  -- 8 and 16 are no flags
  pub features_differ : HasFlagsByCluster (asking 0) (glyphs_with ((0, 9) ∷ (0, 17) ∷ []))
  pub asked_for : HasFlagsByCluster (asking 64) (glyphs_with ((0, 3) ∷ (0, 3) ∷ (1, 2) ∷ []))

pub record NoFlagsOfClusters : Type 0 where
  pub first_differs : HasFlagsByCluster (asking 0) (glyphs_with ((0, 1) ∷ (0, 0) ∷ [])) → ⊥
  pub last_differs : HasFlagsByCluster (asking 0) (glyphs_with ((0, 1) ∷ (3, 0) ∷ (3, 4) ∷ [])) → ⊥
  pub leftward : HasFlagsByCluster (asking 64) (glyphs_with ((3, 2) ∷ (0, 1) ∷ (0, 3) ∷ [])) → ⊥
  pub unasked : HasFlagsByCluster (asking 0) (glyphs_with ((0, 1) ∷ (1, 2) ∷ [])) → ⊥
  -- 128 asks for tatweel, 63 for all that is below 64
  pub others_asked : HasFlagsByCluster (asking 191) (glyphs_with ((0, 3) ∷ [])) → ⊥

pub record WorkedPromises : Type 0 where
  pub order : OrderOfClusters
  pub no_order : NoOrderOfClusters
  pub at_no_level : AtNoMonotoneLevel
  pub flags : FlagsOfClusters
  pub no_flags : NoFlagsOfClusters
