-- What rules of substitution make of items and buffers.
use Rattle.std.specs.Prelude.{ℕ, zero, suc, ◌+◌, ◌^◌, ◌%◌, ◌==◌, ◌&&◌, ◌||◌, not, Bool, true, false, List, [], ◌∷◌, length, drop, get_or, set}
use Rattle.std.specs.Prelude.{replicate, remove, if◌then◌else◌}
use Rattle.std.specs.Int.RustNames.{bit_and}
use Rattle.std.specs.List.{flat_map}
use Rattle.shape_items.specs.Buffer.{Buffer}
use Rattle.shape_items.specs.BufferClusters.{merge_clusters}
use Rattle.shape_items.specs.Items.{Item, new_item}
use Rattle.shape_common.specs.Positions.{zero_position}
use Rattle.shape_buffer.specs.Walks.{items_mapped}
use Rattle.test_fixtures.specs.declared.rules.Single.{Single as OneForOne}
use Rattle.test_fixtures.specs.declared.rules.Multiple.{Multiple as TwoForOne}
use Rattle.test_fixtures.specs.declared.rules.Ligature.{Ligature as OneForTwo}
use Rattle.test_fixtures.specs.declared.rules.Stage.{Stage as AnyStage}
use Rattle.test_fixtures.specs.declared.rules.Stage.TheVariants.{Add, Single, Multiple, Ligature}

-- the feature is on for an item: some bit of it is in its mask, or it is 0
abbrev pub is_on : ℕ → Item → Bool
is_on feature item = feature == 0 || not (bit_and item.mask feature == 0)

-- it is on, and the item has the glyph
abbrev pub takes : ℕ → ℕ → Item → Bool
takes feature glyph item = is_on feature item && item.glyph_id == glyph

-- the item with a glyph that a lookup has made
abbrev pub with_glyph : ℕ → Item → Item
with_glyph glyph item = record item { glyph_id = glyph; properties = record item.properties { substituted = true } }

abbrev pub added : ℕ → Item → Item
added number item = with_glyph ((item.glyph_id + number) % 2 ^ 32) item

abbrev pub one_for_one : OneForOne → Item → Item
one_for_one rule item = if takes rule.feature rule.from item then with_glyph rule.to item else item

abbrev pub two_for_one : TwoForOne → Item → List Item
two_for_one rule item =
    if takes rule.feature rule.from item then with_glyph rule.first item ∷ with_glyph rule.second item ∷ []
    else item ∷ []

-- two glyphs in place of each that the rule takes, at positions of zeros
unfoldable pub multiplied : TwoForOne → Buffer → Buffer
multiplied rule b =
    let items = flat_map (two_for_one rule) b.items in
    record b { items = items; positions = replicate (length items) zero_position }

-- the list begins with two items that the rule takes
abbrev pub begins_with_pair : OneForTwo → List Item → Bool
begins_with_pair rule [] = false
begins_with_pair rule (first ∷ []) = false
begins_with_pair rule (first ∷ second ∷ items) = takes rule.feature rule.first first && takes rule.feature rule.second second

-- the items at places i and i + 1 become one, once their clusters are merged
unfoldable pub made_one : OneForTwo → ℕ → Buffer → Buffer
made_one rule i b =
    let merged = merge_clusters i (i + 2) b in
    let glyph = with_glyph rule.into (get_or merged.items i (new_item 0 0)) in
    record merged { items = remove (set merged.items i glyph) (i + 1); positions = remove merged.positions (i + 1) }

abbrev pub ligated_at : OneForTwo → ℕ → Buffer → Buffer
ligated_at rule i b = if begins_with_pair rule (drop i b.items) then made_one rule i b else b

-- the first n places are visited from left to right, each as it stands when it is reached
abbrev pub ligated_to : OneForTwo → ℕ → Buffer → Buffer
ligated_to rule zero b = b
ligated_to rule (suc n) b = ligated_at rule n (ligated_to rule n b)

abbrev pub ligated : OneForTwo → Buffer → Buffer
ligated rule b = ligated_to rule (length b.items) b

-- what a stage makes of a buffer
abbrev pub stage_made : AnyStage → Buffer → Buffer
stage_made (Add number) b = items_mapped (added number) b
stage_made (Single rule) b = items_mapped (one_for_one rule) b
stage_made (Multiple rule) b = multiplied rule b
stage_made (Ligature rule) b = ligated rule b

-- what the first of a list of stages makes of it
abbrev pub first_made : List AnyStage → Buffer → Buffer
first_made [] b = b
first_made (stage ∷ stages) b = stage_made stage b
