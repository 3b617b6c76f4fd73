-- How modifier marks are reordered, on runs whose answers are worked out by hand.
use Rattle.std.specs.Prelude.{◌≡◌, ℕ, List, [], ◌∷◌, map, refl}
use Rattle.shape_items.specs.Buffer.{Buffer, new_buffer}
use Rattle.shape_items.specs.Clusters.{merge}
use Rattle.shape_items.specs.Items.{Item, new_item, ccc_of_item}
use Rattle.shape_common.specs.declared.text_types.BufferClusterLevel.TheVariants.{Characters}
use Rattle.shape_plan.specs.Reorder.{with_ccc}
use Rattle.script_shapers.specs.Modifiers.{modifiers_reordered}
use Rattle.script_shapers.specs.declared.arabic.modifiers.TheConstants.{MODIFIER_MARKS}

-- a character, its ccc and its cluster
abbrev pub Mark : Type 0
Mark = ℕ × ℕ × ℕ

abbrev pub item_of : Mark → Item
item_of mark = with_ccc mark.1 (new_item mark.0 mark.2)

abbrev pub marked : List Mark → Buffer
marked marks = record new_buffer { items = map item_of marks }

abbrev pub shown : Buffer → List Mark
shown b = map (λ item. (item.codepoint, ccc_of_item item, item.cluster)) b.items

-- beh, then its marks
abbrev pub shadda_and_hamza : List Mark
shadda_and_hamza = (0x628, 0, 0) ∷ (0x651, 27, 2) ∷ (0x654, 230, 4) ∷ []

abbrev pub below_and_above : List Mark
below_and_above = (0x628, 0, 0) ∷ (0x64E, 31, 2) ∷ (0x655, 220, 4) ∷ (0x654, 230, 6) ∷ []

abbrev pub two_above : List Mark
two_above = (0x628, 0, 0) ∷ (0x651, 27, 2) ∷ (0x6DC, 230, 4) ∷ (0x654, 230, 6) ∷ (0x653, 230, 8) ∷ []

abbrev pub no_modifier : List Mark
no_modifier = (0x628, 0, 0) ∷ (0x64E, 31, 2) ∷ (0x653, 230, 4) ∷ []

abbrev pub not_first : List Mark
not_first = (0x628, 0, 0) ∷ (0x64E, 31, 2) ∷ (0x653, 230, 4) ∷ (0x654, 230, 6) ∷ []

abbrev pub low_seen : List Mark
low_seen = (0x628, 0, 0) ∷ (0x64E, 31, 2) ∷ (0x6E3, 220, 4) ∷ []

pub record WorkedModifiers : Type 0 where
  pub above_shadda : shown (modifiers_reordered (marked shadda_and_hamza) 1 3)
      ≡ (0x628, 0, 0) ∷ (0x654, 26, 2) ∷ (0x651, 27, 2) ∷ []
  pub below_then_above : shown (modifiers_reordered (marked below_and_above) 1 4)
      ≡ (0x628, 0, 0) ∷ (0x655, 25, 2) ∷ (0x654, 26, 2) ∷ (0x64E, 31, 2) ∷ []
  pub in_their_order : shown (modifiers_reordered (marked two_above) 1 5)
      ≡ (0x628, 0, 0) ∷ (0x6DC, 26, 2) ∷ (0x654, 26, 2) ∷ (0x651, 27, 2) ∷ (0x653, 230, 8) ∷ []
  pub low : shown (modifiers_reordered (marked low_seen) 1 3) ≡ (0x628, 0, 0) ∷ (0x6E3, 25, 2) ∷ (0x64E, 31, 2) ∷ []
  -- the list of Unicode's report on the order of Arabic marks (UTR 53)
  pub marks : MODIFIER_MARKS ≡ 0x654 ∷ 0x655 ∷ 0x658 ∷ 0x6DC ∷ 0x6E3 ∷ 0x6E7 ∷ 0x6E8 ∷ 0x8CA ∷ 0x8CB ∷ 0x8CD ∷ 0x8CE ∷ 0x8CF ∷ 0x8D3 ∷ 0x8F3 ∷ []
  pub none : shown (modifiers_reordered (marked no_modifier) 1 3) ≡ no_modifier
  pub after_another : shown (modifiers_reordered (marked not_first) 1 4) ≡ not_first
  pub by_character : shown (modifiers_reordered (record (marked shadda_and_hamza) { cluster_level = Characters }) 1 3)
      ≡ (0x628, 0, 0) ∷ (0x654, 26, 4) ∷ (0x651, 27, 2) ∷ []

pub worked_modifiers : WorkedModifiers
unfolding merge
worked_modifiers = record {
  above_shadda = refl;
  below_then_above = refl;
  in_their_order = refl;
  low = refl;
  marks = refl;
  none = refl;
  after_another = refl;
  by_character = refl;
}
