-- Prepared lists: each item is a mark exactly if its character is one, and has the ccc of its character.
use Rattle.std.specs.Prelude.{◌≡◌, List}
use Rattle.std.specs.List.{All}
use Rattle.shape_items.specs.Items.{Item, is_mark_item, ccc_of_item}
use Rattle.shape_common.specs.Unicode.{UnicodeMeaning, is_mark}

pub record IsPreparedItem (unicode : UnicodeMeaning) (item : Item) : Type 0 where
  pub mark : is_mark_item item ≡ is_mark unicode item.codepoint
  pub ccc : ccc_of_item item ≡ unicode.ccc item.codepoint

abbrev pub IsPrepared : UnicodeMeaning → List Item → Type 0
IsPrepared unicode items = All (IsPreparedItem unicode) items
