-- Units of UTF-16, and their characters, by hand. U+1F600 is D83D DE00; the greatest character, U+10FFFF, is DBFF DFFF, and the
-- least of two units, U+10000, is D800 DC00.
use Rattle.std.specs.Prelude.{◌≡◌, ℕ, List, [], ◌∷◌}
use Rattle.shape_items.specs.Items.{new_item}
use Rattle.utf16_text.specs.Utf16.{utf16_items, utf16_before, utf16_after}

pub record WorkedItems : Type 0 where
  pub none : utf16_items [] ≡ []
  pub letters : utf16_items (0x61 ∷ 0x10D ∷ []) ≡ new_item 0x61 0 ∷ new_item 0x10D 1 ∷ []
  pub pair : utf16_items (0x61 ∷ 0xD83D ∷ 0xDE00 ∷ 0x62 ∷ []) ≡ new_item 0x61 0 ∷ new_item 0x1F600 1 ∷ new_item 0x62 3 ∷ []
  pub least_pair : utf16_items (0xD800 ∷ 0xDC00 ∷ []) ≡ new_item 0x10000 0 ∷ []
  pub greatest_pair : utf16_items (0xDBFF ∷ 0xDFFF ∷ []) ≡ new_item 0x10FFFF 0 ∷ []
  pub high_alone : utf16_items (0xD83D ∷ 0x61 ∷ []) ≡ new_item 0xFFFD 0 ∷ new_item 0x61 1 ∷ []
  pub high_at_the_end : utf16_items (0x61 ∷ 0xD83D ∷ []) ≡ new_item 0x61 0 ∷ new_item 0xFFFD 1 ∷ []
  pub low_at_the_end : utf16_items (0x61 ∷ 0xDE00 ∷ []) ≡ new_item 0x61 0 ∷ new_item 0xFFFD 1 ∷ []
  pub reversed : utf16_items (0xDE00 ∷ 0xD83D ∷ []) ≡ new_item 0xFFFD 0 ∷ new_item 0xFFFD 1 ∷ []
  pub two_high : utf16_items (0xD83D ∷ 0xD83D ∷ 0xDE00 ∷ []) ≡ new_item 0xFFFD 0 ∷ new_item 0x1F600 1 ∷ []
  pub beside_surrogates : utf16_items (0xD7FF ∷ 0xE000 ∷ 0xFFFF ∷ []) ≡ new_item 0xD7FF 0 ∷ new_item 0xE000 1 ∷ new_item 0xFFFF 2 ∷ []

-- the first and the last five characters of seven units, six characters
pub record WorkedContexts : Type 0 where
  pub before : utf16_before (0x61 ∷ 0x62 ∷ 0x63 ∷ 0xD83D ∷ 0xDE00 ∷ 0x64 ∷ 0xDE00 ∷ []) ≡ 0x62 ∷ 0x63 ∷ 0x1F600 ∷ 0x64 ∷ 0xFFFD ∷ []
  pub after : utf16_after (0x61 ∷ 0x62 ∷ 0x63 ∷ 0xD83D ∷ 0xDE00 ∷ 0x64 ∷ 0xDE00 ∷ []) ≡ 0x61 ∷ 0x62 ∷ 0x63 ∷ 0x1F600 ∷ 0x64 ∷ []

pub record WorkedUnits : Type 0 where
  pub items : WorkedItems
  pub contexts : WorkedContexts
