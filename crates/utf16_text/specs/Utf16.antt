-- The items that a text in UTF-16 brings in, and the contexts beside it. The text's characters (the Unicode Standard 3.9, D91):
-- a unit that is no surrogate is one, and so are a high surrogate and a low one right behind it. Any other surrogate stands for
-- U+FFFD.
use Rattle.std.specs.Prelude.{◌≡◌, ◌<◌, ◌+◌, ◌-◌, ℕ, List, [], ◌∷◌, length, take, drop}
use Rattle.std.specs.Char.Escape.{encode_utf16}
use Rattle.std.specs.Char.Utf16.{utf16_lossy_chars}
use Rattle.shape_buffer.specs.Text.{CONTEXT_LENGTH}
use Rattle.shape_items.specs.Items.{Item, new_item}

-- an item for each character, in the cluster of its first unit; the first character begins at unit `start`
abbrev pub utf16_items_from : ℕ → List ℕ → List Item
utf16_items_from start [] = []
utf16_items_from start (c ∷ cs) = new_item c start ∷ utf16_items_from (start + length (encode_utf16 c)) cs

-- the items of a text, whose clusters are places of units
abbrev pub utf16_items : List ℕ → List Item
utf16_items units = utf16_items_from 0 (utf16_lossy_chars units)

-- the item's cluster is the place of its character's first unit: from there on the units spell that character first
pub record IsFirstUnit (units : List ℕ) (item : Item) : Type 0 where
  pub within : item.cluster < length units
  pub character : take 1 (utf16_lossy_chars (drop item.cluster units)) ≡ item.codepoint ∷ []

-- what is kept of the text before: its last characters
abbrev pub utf16_before : List ℕ → List ℕ
utf16_before units = drop (length (utf16_lossy_chars units) - CONTEXT_LENGTH) (utf16_lossy_chars units)

-- what is kept of the text after: its first characters
abbrev pub utf16_after : List ℕ → List ℕ
utf16_after units = take CONTEXT_LENGTH (utf16_lossy_chars units)
