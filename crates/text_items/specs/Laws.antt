-- What holds of the runs of any text.
use Rattle.std.specs.Prelude.{◌≡◌, ◌<◌, ◌==◌, ℕ, true, false, List, [], ◌∷◌}
use Rattle.std.specs.List.{list_any}
use Rattle.unicode_segmentation.specs.Grapheme.{graphemes}
use Rattle.unicode_segmentation.specs.Segments.{with_offsets}
use Rattle.text_items.specs.Items.{is_same}
use Rattle.text_items.specs.declared.items.Item.{Item}

-- runs that begin at one place and end at another, each where the one before it ends, and none empty
abbrev pub Covers : ℕ → List Item → ℕ → Type 0
Covers from [] to = from ≡ to
Covers from (item ∷ items) to = (item.start ≡ from) × (item.start < item.end) × Covers item.end items to

-- a run begins where an extended grapheme cluster of the text does
abbrev pub BeginsCluster : List ℕ → Item → Type 0
BeginsCluster text item = list_any (λ (piece : ℕ × List ℕ). piece.0 == item.start) (with_offsets 0 (graphemes true text)) ≡ true

-- no run agrees with the one after it, so none could be longer
abbrev pub AreApart : List Item → Type 0
AreApart [] = Unit {0}
AreApart (item ∷ []) = Unit {0}
AreApart (item ∷ next ∷ items) = (is_same item.properties next.properties ≡ false) × AreApart (next ∷ items)
