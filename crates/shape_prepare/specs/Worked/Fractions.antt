-- Fractions, computed on small cases whose answers are worked out by hand.
use Rattle.std.specs.Prelude.{◌≡◌, ℕ, Bool, true, false, List, [], ◌∷◌, map, refl}
use Rattle.shape_items.specs.Buffer.{Buffer, new_buffer}
use Rattle.shape_items.specs.Items.{Item, new_item}
use Rattle.shape_common.specs.declared.general_category.hb_unicode_general_category_t.{hb_unicode_general_category_t}
use Rattle.shape_common.specs.declared.general_category.hb_unicode_general_category_t.TheVariants.{DecimalNumber, OtherNumber, OtherLetter, MathSymbol}
use Rattle.shape_common.specs.declared.text_types.Direction.{Direction}
use Rattle.shape_common.specs.declared.text_types.Direction.TheVariants.{Invalid, LeftToRight, RightToLeft, TopToBottom, BottomToTop}
use Rattle.shape_plan.specs.Worked.Decisions.{no_decisions}
use Rattle.shape_plan.specs.declared.decisions.Decisions.{Decisions}
use Rattle.shape_prepare.specs.Fractions.{features_added, slash_masked, slash_places, whole_start, whole_end, next_place, fractions_masked}

-- a plan that does nothing except for its masks of fractions: frac 0x100, numr 0x200, dnom 0x400
abbrev pub with_fractions : Bool → Decisions
with_fractions has_frac = record no_decisions { frac_mask = 0x100; numr_mask = 0x200; dnom_mask = 0x400; has_frac = has_frac }

abbrev pub with_category : hb_unicode_general_category_t → Item → Item
with_category category item = record item { properties = record item.properties { general_category = category } }

-- U+0031, U+2044 and U+0061 in a cluster
abbrev digit : ℕ → Item
digit cluster = with_category DecimalNumber (new_item 0x31 cluster)

abbrev slash : ℕ → Item
slash cluster = with_category MathSymbol (new_item 0x2044 cluster)

abbrev letter : ℕ → Item
letter cluster = with_category OtherLetter (new_item 0x61 cluster)

-- a text with flags of the caller and scratch flags
abbrev pub text : Direction → ℕ → ℕ → List Item → Buffer
text direction flags scratch items =
    record new_buffer { items = items; direction = direction; flags = record { 0 = flags }; scratch_flags = record { 0 = scratch } }

abbrev pub masks_of : Buffer → List ℕ
masks_of b = map (λ item. item.mask) b.items

-- the masks of a text in which a character past ASCII was seen
abbrev masked : Direction → List Item → List ℕ
masked direction items = masks_of (fractions_masked (with_fractions true) (text direction 0 1 items))

-- the same if unsafe to concat is asked for (64)
abbrev masked_for_concat : List Item → List ℕ
masked_for_concat items = masks_of (fractions_masked (with_fractions true) (text LeftToRight 64 1 items))

-- one digit, the slash, one digit, of clusters 0, 1, 4
abbrev pub half : List Item
half = digit 0 ∷ slash 1 ∷ digit 4 ∷ []

pub record MasksOfFractions : Type 0 where
  pub left_to_right : masked LeftToRight half ≡ 0x300 ∷ 0x103 ∷ 0x503 ∷ []
  pub right_to_left : masked RightToLeft half ≡ 0x500 ∷ 0x103 ∷ 0x303 ∷ []
  pub top_to_bottom : masked TopToBottom half ≡ 0x300 ∷ 0x103 ∷ 0x503 ∷ []
  pub bottom_to_top : masked BottomToTop half ≡ 0x500 ∷ 0x103 ∷ 0x303 ∷ []
  pub without_direction : masked Invalid half ≡ 0x500 ∷ 0x103 ∷ 0x303 ∷ []
  pub in_one_cluster : masked LeftToRight (digit 7 ∷ slash 7 ∷ digit 7 ∷ []) ≡ 0x300 ∷ 0x100 ∷ 0x500 ∷ []
  pub notes_flags : (fractions_masked (with_fractions true) (text LeftToRight 0 3 half)).scratch_flags.0 ≡ 35
  pub without_lookups : masks_of (fractions_masked (with_fractions false) (text LeftToRight 0 1 half)) ≡ 0 ∷ 0 ∷ 0 ∷ []
  pub ascii_alone : masks_of (fractions_masked (with_fractions true) (text LeftToRight 0 62 half)) ≡ 0 ∷ 0 ∷ 0 ∷ []
  pub features_stay : masked LeftToRight (record (digit 0) { mask = 0x208 } ∷ slash 0 ∷ digit 0 ∷ []) ≡ 0x308 ∷ 0x100 ∷ 0x500 ∷ []

masks_of_fractions : MasksOfFractions
unfolding fractions_masked slash_masked features_added
masks_of_fractions = record {
  left_to_right = refl;
  right_to_left = refl;
  top_to_bottom = refl;
  bottom_to_top = refl;
  without_direction = refl;
  in_one_cluster = refl;
  notes_flags = refl;
  without_lookups = refl;
  ascii_alone = refl;
  features_stay = refl;
}

pub record SidesOfSlashes : Type 0 where
  pub none_before : masked_for_concat (slash 0 ∷ digit 3 ∷ []) ≡ 2 ∷ 0 ∷ []
  pub none_after : masked_for_concat (digit 0 ∷ slash 1 ∷ []) ≡ 0 ∷ 2 ∷ []
  pub letter_between : masked_for_concat (digit 0 ∷ letter 1 ∷ slash 2 ∷ digit 5 ∷ []) ≡ 0 ∷ 0 ∷ 2 ∷ 0 ∷ []
  pub unasked : masked LeftToRight (slash 0 ∷ digit 3 ∷ []) ≡ 0 ∷ 0 ∷ []
  pub digits_alone : masked_for_concat (letter 0 ∷ digit 0 ∷ digit 0 ∷ slash 0 ∷ digit 0 ∷ digit 0 ∷ letter 0 ∷ [])
      ≡ 0 ∷ 0x300 ∷ 0x300 ∷ 0x100 ∷ 0x500 ∷ 0x500 ∷ 0 ∷ []
  pub by_category : masked LeftToRight (with_category DecimalNumber (letter 0) ∷ slash 0 ∷ digit 0 ∷ []) ≡ 0x300 ∷ 0x100 ∷ 0x500 ∷ []
  pub by_category_alone : masked_for_concat (with_category OtherNumber (digit 0) ∷ slash 0 ∷ digit 0 ∷ []) ≡ 0 ∷ 2 ∷ 0 ∷ []
  pub two_slashes : masked_for_concat (digit 0 ∷ slash 0 ∷ slash 0 ∷ digit 0 ∷ []) ≡ 0 ∷ 2 ∷ 2 ∷ 0 ∷ []
  pub digit_of_two : masked LeftToRight (digit 0 ∷ slash 0 ∷ digit 0 ∷ slash 0 ∷ digit 0 ∷ []) ≡ 0x300 ∷ 0x100 ∷ 0x700 ∷ 0x100 ∷ 0x500 ∷ []

sides_of_slashes : SidesOfSlashes
unfolding fractions_masked slash_masked features_added
sides_of_slashes = record {
  none_before = refl;
  none_after = refl;
  letter_between = refl;
  unasked = refl;
  digits_alone = refl;
  by_category = refl;
  by_category_alone = refl;
  two_slashes = refl;
  digit_of_two = refl;
}

-- a slash that is a digit by its category
abbrev digit_slash : Item
digit_slash = with_category DecimalNumber (slash 0)

pub record WalkOverSlashes : Type 0 where
  pub places : slash_places 0 (digit 0 ∷ slash 1 ∷ letter 4 ∷ slash 5 ∷ []) ≡ 1 ∷ 3 ∷ []
  pub start : whole_start (letter 0 ∷ digit 1 ∷ digit 2 ∷ slash 3 ∷ digit 6 ∷ []) 3 ≡ 1
  pub end : whole_end (digit 0 ∷ slash 1 ∷ digit 4 ∷ digit 5 ∷ []) 1 ≡ 4
  pub after_whole : next_place (digit 0 ∷ slash 1 ∷ digit 4 ∷ digit 5 ∷ []) 1 ≡ 4
  pub after_slash : next_place (letter 0 ∷ slash 1 ∷ digit 4 ∷ digit 5 ∷ []) 1 ≡ 2
  -- the first slash has nothing before it; the second has the first and the third as digits, and the walk goes on after
  -- the third
  pub skipped_by : masked_for_concat (digit_slash ∷ digit_slash ∷ digit_slash ∷ []) ≡ 0x302 ∷ 0x100 ∷ 0x500 ∷ []

walk_over_slashes : WalkOverSlashes
unfolding fractions_masked slash_masked features_added
walk_over_slashes = record { places = refl; start = refl; end = refl; after_whole = refl; after_slash = refl; skipped_by = refl }

pub record WorkedFractions : Type 0 where
  pub masks : MasksOfFractions
  pub sides : SidesOfSlashes
  pub walk : WalkOverSlashes

pub worked_fractions : WorkedFractions
worked_fractions = record { masks = masks_of_fractions; sides = sides_of_slashes; walk = walk_over_slashes }
