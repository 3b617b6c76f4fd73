-- The order of syllables, and the masks of their items, worked out by hand.
use Rattle.std.specs.Prelude.{◌≡◌, ℕ, ◌+◌, List, [], ◌∷◌, ◌++◌, length, map, refl}
use Rattle.shape_common.specs.declared.text_types.BufferClusterLevel.TheVariants.{Characters}
use Rattle.shape_items.specs.Buffer.{Buffer}
use Rattle.shape_items.specs.Clusters.{merge}
use Rattle.shape_items.specs.Items.{Item}
use Rattle.syllabic.specs.Worked.Items.{item, buffer, chars}
use Rattle.syllables.specs.IndicCategories.{C, H, Ra, VPre, VPst}
use Rattle.khmer_shaper.specs.Reordering.{reordered, each_reordered}
use Rattle.khmer_shaper.specs.declared.reordering.KhmerMasks.{KhmerMasks}

abbrev masks : KhmerMasks
masks = record { after_base = 16; prebase = 32; after_ro = 64 }

-- a character and its category
abbrev Letter : Type 0
Letter = ℕ × ℕ

abbrev ka : Letter
ka = (0x1780, C)

abbrev ta : Letter
ta = (0x178F, C)

abbrev ro : Letter
ro = (0x179A, Ra)

abbrev coeng : Letter
coeng = (0x17D2, H)

abbrev e : Letter
e = (0x17C1, VPre)

abbrev aa : Letter
aa = (0x17B6, VPst)

-- the items of a syllable by its byte, each in its own cluster
abbrev items_from : (byte n : ℕ) → List Letter → List Item
items_from byte n [] = []
items_from byte n (x ∷ xs) = item x.0 n x.1 byte ∷ items_from byte (n + 1) xs

-- an item's character, cluster and mask
abbrev shown : Buffer → List (ℕ × ℕ × ℕ)
shown b = map (λ (x : Item). (x.codepoint, x.cluster, x.mask)) b.items

-- the first syllable, of this kind
abbrev ordered : ℕ → List Letter → List (ℕ × ℕ × ℕ)
ordered kind letters = shown (reordered masks (buffer (items_from (16 + kind) 0 letters)) 0 (length letters))

-- the characters alone
abbrev characters : List Letter → List ℕ
characters letters = map (λ (x : Item). x.codepoint) (reordered masks (buffer (items_from 16 0 letters)) 0 (length letters)).items

abbrev by_character : List Letter → List (ℕ × ℕ)
by_character letters =
    map (λ (x : Item). (x.codepoint, x.cluster))
    (reordered masks (record (buffer (items_from 16 0 letters)) { cluster_level = Characters }) 0 (length letters)).items

-- the characters and masks of two syllables, one after the other
abbrev both : List Letter → List Letter → List (ℕ × ℕ)
both first second =
    map (λ (x : Item). (x.codepoint, x.mask))
    (each_reordered masks (buffer (items_from 16 0 first ++ items_from 32 (length first) second))).items

pub record WorkedOrders : Type 0 where
  -- what follows the base gets the mask of blwf, abvf and pstf
  pub after_base : ordered 0 (ka ∷ aa ∷ []) ≡ (0x1780, 0, 0) ∷ (0x17B6, 1, 16) ∷ []
  -- a vowel goes before the base, in one cluster with it
  pub vowel : ordered 0 (ka ∷ e ∷ aa ∷ []) ≡ (0x17C1, 0, 16) ∷ (0x1780, 0, 0) ∷ (0x17B6, 2, 16) ∷ []
  pub vowel_of_two : ordered 0 (ka ∷ coeng ∷ ta ∷ e ∷ []) ≡ (0x17C1, 0, 16) ∷ (0x1780, 0, 0) ∷ (0x17D2, 0, 16) ∷ (0x178F, 0, 16) ∷ []
  pub vowel_by_character : by_character (ka ∷ e ∷ []) ≡ (0x17C1, 1) ∷ (0x1780, 0) ∷ []
  -- COENG and RO go to the front and get pref; what follows them gets cfar
  pub ro_below : ordered 0 (ka ∷ coeng ∷ ro ∷ []) ≡ (0x17D2, 0, 48) ∷ (0x179A, 0, 48) ∷ (0x1780, 0, 0) ∷ []
  pub ro_first : ordered 0 (ka ∷ coeng ∷ ro ∷ coeng ∷ ta ∷ [])
      ≡ (0x17D2, 0, 48) ∷ (0x179A, 0, 48) ∷ (0x1780, 0, 0) ∷ (0x17D2, 3, 80) ∷ (0x178F, 4, 80) ∷ []
  pub ro_last : ordered 0 (ka ∷ coeng ∷ ta ∷ coeng ∷ ro ∷ [])
      ≡ (0x17D2, 0, 48) ∷ (0x179A, 0, 48) ∷ (0x1780, 0, 0) ∷ (0x17D2, 0, 16) ∷ (0x178F, 0, 16) ∷ []
  -- a vowel goes before them
  pub ro_and_vowel : ordered 0 (ka ∷ coeng ∷ ro ∷ e ∷ [])
      ≡ (0x17C1, 0, 80) ∷ (0x17D2, 0, 48) ∷ (0x179A, 0, 48) ∷ (0x1780, 0, 0) ∷ []
  -- of a second RO after the first the pair goes to the front, too; three COENGs are looked at, not four
  pub second_ro : characters (ka ∷ coeng ∷ ro ∷ coeng ∷ ro ∷ []) ≡ 0x17D2 ∷ 0x179A ∷ 0x17D2 ∷ 0x179A ∷ 0x1780 ∷ []
  pub ros : ordered 0 (ka ∷ coeng ∷ ro ∷ coeng ∷ ro ∷ [])
      ≡ (0x17D2, 0, 112) ∷ (0x179A, 0, 112) ∷ (0x17D2, 0, 48) ∷ (0x179A, 0, 48) ∷ (0x1780, 0, 0) ∷ []
  pub ros_by_character : by_character (ka ∷ coeng ∷ ro ∷ coeng ∷ ro ∷ coeng ∷ ta ∷ [])
      ≡ (0x17D2, 3) ∷ (0x179A, 4) ∷ (0x17D2, 1) ∷ (0x179A, 2) ∷ (0x1780, 0) ∷ (0x17D2, 5) ∷ (0x178F, 6) ∷ []
  pub third : characters (ka ∷ coeng ∷ ta ∷ coeng ∷ ta ∷ coeng ∷ ro ∷ [])
      ≡ 0x17D2 ∷ 0x179A ∷ 0x1780 ∷ 0x17D2 ∷ 0x178F ∷ 0x17D2 ∷ 0x178F ∷ []
  pub fourth : characters (ka ∷ coeng ∷ ta ∷ coeng ∷ ta ∷ coeng ∷ ta ∷ coeng ∷ ro ∷ [])
      ≡ 0x1780 ∷ 0x17D2 ∷ 0x178F ∷ 0x17D2 ∷ 0x178F ∷ 0x17D2 ∷ 0x178F ∷ 0x17D2 ∷ 0x179A ∷ []
  -- RO without COENG, and COENG at the end, stay
  pub ro_alone : characters (ka ∷ ro ∷ []) ≡ 0x1780 ∷ 0x179A ∷ []
  pub coeng_last : characters (ka ∷ coeng ∷ []) ≡ 0x1780 ∷ 0x17D2 ∷ []
  -- broken syllables (1) are ordered alike, others (2) aren't
  pub broken : ordered 1 (coeng ∷ ta ∷ e ∷ []) ≡ (0x17C1, 0, 16) ∷ (0x17D2, 0, 0) ∷ (0x178F, 0, 16) ∷ []
  pub other : ordered 2 (ka ∷ e ∷ []) ≡ (0x1780, 0, 0) ∷ (0x17C1, 1, 0) ∷ []
  -- after COENG and RO a third COENG is looked at, and no fourth
  pub ro_counts_as_second : characters (ka ∷ coeng ∷ ro ∷ coeng ∷ ta ∷ coeng ∷ ro ∷ [])
      ≡ 0x17D2 ∷ 0x179A ∷ 0x1780 ∷ 0x17D2 ∷ 0x178F ∷ 0x17D2 ∷ 0x179A ∷ []
  -- a syllable ends where the next one begins: no mask, no vowel and no RO of that one counts
  pub next_unmasked : both (ka ∷ coeng ∷ ro ∷ []) (ta ∷ aa ∷ [])
      ≡ (0x17D2, 48) ∷ (0x179A, 48) ∷ (0x1780, 0) ∷ (0x178F, 0) ∷ (0x17B6, 16) ∷ []
  pub next_vowel : both (ka ∷ []) (e ∷ []) ≡ (0x1780, 0) ∷ (0x17C1, 0) ∷ []
  pub later_vowel : both (ka ∷ aa ∷ []) (ta ∷ []) ≡ (0x1780, 0) ∷ (0x17B6, 16) ∷ (0x178F, 0) ∷ []
  pub next_ro : both (ka ∷ coeng ∷ []) (ro ∷ []) ≡ (0x1780, 0) ∷ (0x17D2, 16) ∷ (0x179A, 0) ∷ []
  pub third_vowel : chars (each_reordered masks (buffer (items_from 16 0 (ka ∷ []) ++ items_from 32 1 (ta ∷ []) ++ items_from 50 2 (e ∷ [])))).items
      ≡ 0x1780 ∷ 0x178F ∷ 0x17C1 ∷ []

pub worked_orders : WorkedOrders
unfolding merge
worked_orders = record {
  after_base = refl;
  vowel = refl;
  vowel_of_two = refl;
  vowel_by_character = refl;
  ro_below = refl;
  ro_first = refl;
  ro_last = refl;
  ro_and_vowel = refl;
  second_ro = refl;
  ros = refl;
  ros_by_character = refl;
  third = refl;
  fourth = refl;
  ro_alone = refl;
  coeng_last = refl;
  broken = refl;
  other = refl;
  ro_counts_as_second = refl;
  next_unmasked = refl;
  next_vowel = refl;
  later_vowel = refl;
  next_ro = refl;
  third_vowel = refl;
}
