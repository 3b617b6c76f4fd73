-- the script and the language system that are taken for a text
use Rattle.std.specs.Prelude.{ℕ, ℤ, List, Option, map, slice_get}
use Rattle.std.specs.Option.{option_map, option_map_or}
use Rattle.shape_common.specs.declared.text_types.Script.{Script}
use Rattle.shape_common.specs.declared.text_types.hb_tag_t.{hb_tag_t}
use Rattle.opentype_tags.specs.Language.{script_tags, language_tags}
use Rattle.layout_tables.specs.Scripts.{chosen_script}
use Rattle.layout_map.specs.Chosen.{Chosen, chosen}

abbrev pub numbers_of : List hb_tag_t → List ℕ
numbers_of tags = map (λ tag. tag.0) tags

abbrev pub number_at : List hb_tag_t → ℕ → ℕ
number_at tags i = option_map_or (λ tag. tag.0) (slice_get tags i) 0

-- by OpenType's tags of the text's script
abbrev pub script_in : List ℕ → Option Script → Option (List ℕ) → Option hb_tag_t
script_in t script language = option_map (λ tag. record { 0 = tag }) (chosen_script t (numbers_of (script_tags script language)))

-- by OpenType's tags of the text's language, at the coordinates of the font
abbrev pub chosen_in : List ℕ → List ℤ → Option hb_tag_t → Option (List ℕ) → Chosen
chosen_in t coordinates script language = chosen t coordinates (option_map (λ tag. tag.0) script) (numbers_of (language_tags language))
