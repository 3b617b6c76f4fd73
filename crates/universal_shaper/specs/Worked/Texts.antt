-- Syllables of texts with joiners: which are passed over, and which number each item gets.
use Rattle.std.specs.Prelude.{◌≡◌, ℕ, List, [], ◌∷◌, map, refl}
use Rattle.shape_common.specs.declared.general_category.hb_unicode_general_category_t.TheVariants.{NonspacingMark}
use Rattle.shape_items.specs.Buffer.{Buffer}
use Rattle.shape_items.specs.Items.{Item}
use Rattle.shape_buffer.specs.Walks.{items_mapped}
use Rattle.syllables.specs.UniversalCategories.{O, B, CGJ, WJ, ZWNJ, VBlw}
use Rattle.syllabic.specs.Walking.{category_of, syllable_of}
use Rattle.syllabic.specs.Worked.Items.{item, of_category, buffer}
use Rattle.universal_shaper.specs.Syllables.{joiners_skipped, numbered, found}

abbrev mark : Item
mark =
    let x = of_category VBlw in record x { properties = record x.properties { general_category = NonspacingMark } }

abbrev letter : Item
letter = of_category B

abbrev skipped : List Item → List ℕ
skipped items = map category_of (joiners_skipped (buffer items)).items

abbrev bytes : List Item → List ℕ
bytes items = map syllable_of (numbered (buffer items)).items

abbrev javanese : Buffer
javanese =
    let sign = item 0xA9B8 2 0 0 in
    let below = record sign { properties = record sign.properties { general_category = NonspacingMark } } in
    buffer (item 0xA98F 0 0 0 ∷ item 0x200C 1 0 0 ∷ below ∷ item 0xA98F 3 0 0 ∷ item 0x2060 4 0 0 ∷ [])

pub record WorkedTexts : Type 0 where
  -- a ZWNJ before a mark, over joiners too, is passed over; before a letter and at the end it isn't
  pub before_mark : skipped (letter ∷ of_category ZWNJ ∷ mark ∷ []) ≡ B ∷ CGJ ∷ VBlw ∷ []
  pub over_joiner : skipped (letter ∷ of_category ZWNJ ∷ of_category CGJ ∷ mark ∷ []) ≡ B ∷ CGJ ∷ CGJ ∷ VBlw ∷ []
  pub before_letter : skipped (letter ∷ of_category ZWNJ ∷ letter ∷ mark ∷ []) ≡ B ∷ ZWNJ ∷ B ∷ VBlw ∷ []
  pub at_the_end : skipped (letter ∷ of_category ZWNJ ∷ []) ≡ B ∷ ZWNJ ∷ []
  -- the number of a syllable, and its kind: two standard ones (2), a symbol (5) and a broken one (7)
  pub two : bytes (letter ∷ mark ∷ letter ∷ []) ≡ 0x12 ∷ 0x12 ∷ 0x22 ∷ []
  pub kinds : bytes (of_category O ∷ letter ∷ of_category ZWNJ ∷ mark ∷ []) ≡ 0x15 ∷ 0x22 ∷ 0x22 ∷ 0x37 ∷ []
  -- joiners at the beginning are in no syllable, others in that before them
  pub leading : bytes (of_category CGJ ∷ of_category CGJ ∷ letter ∷ of_category CGJ ∷ letter ∷ []) ≡ 0 ∷ 0 ∷ 0x12 ∷ 0x12 ∷ 0x22 ∷ []
  pub only_joiners : bytes (of_category CGJ ∷ []) ≡ 0 ∷ []
  -- what is no cluster has a kind of its own (8); a text is found by its characters: KA of Javanese, ZWNJ, a sign below (a mark), KA
  -- and WORD JOINER; the second item of the first syllable on is unsafe to break (1) and to concat (2)
  pub no_cluster : bytes (of_category WJ ∷ []) ≡ 0x18 ∷ []
  pub found_bytes : map syllable_of (found javanese).items ≡ 0x12 ∷ 0x12 ∷ 0x12 ∷ 0x22 ∷ 0x38 ∷ []
  pub found_categories : map category_of (found javanese).items ≡ B ∷ CGJ ∷ VBlw ∷ B ∷ WJ ∷ []
  pub found_flags : map (λ (x : Item). x.mask) (found javanese).items ≡ 0 ∷ 3 ∷ 3 ∷ 0 ∷ 0 ∷ []

pub worked_texts : WorkedTexts
unfolding items_mapped
worked_texts = record {
  before_mark = refl;
  over_joiner = refl;
  before_letter = refl;
  at_the_end = refl;
  two = refl;
  kinds = refl;
  leading = refl;
  only_joiners = refl;
  no_cluster = refl;
  found_bytes = refl;
  found_categories = refl;
  found_flags = refl;
}
