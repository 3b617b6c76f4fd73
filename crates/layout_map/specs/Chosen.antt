-- A table of lookups, and what is chosen in it for a text.
use Rattle.std.specs.Prelude.{ℕ, ℤ, List, Option}
use Rattle.std.specs.Option.{option_and_then, option_map_or}
use Rattle.layout_tables.specs.Scripts.{chosen_lang_sys}
use Rattle.layout_tables.specs.Features.{feature_index_of, required_feature_of, feature_tag_of}
use Rattle.layout_tables.specs.Variations.{substitution_of, varied_feature_of}

-- the bytes, where the language system stands, and where the features stand that take the place of others
pub record Chosen : Type 0 where
  pub bytes : List ℕ
  pub lang_sys : Option ℕ
  pub substitution : Option ℕ

-- the language system of a script of the table for a text whose language has these tags, none without a script; and the features
-- at the coordinates of a font
abbrev pub chosen : List ℕ → List ℤ → Option ℕ → List ℕ → Chosen
chosen bytes coordinates script languages = record {
  bytes = bytes;
  lang_sys = option_and_then (λ tag. chosen_lang_sys bytes tag languages) script;
  substitution = substitution_of bytes coordinates;
}

-- the index of the feature with a tag that the language system lists
abbrev pub index_of : Chosen → ℕ → Option ℕ
index_of t tag = option_and_then (λ l. feature_index_of t.bytes l tag) t.lang_sys

-- the index and the tag of its required feature; the tag is 0 if it has none
abbrev pub required_of : Chosen → Option ℕ
required_of t = option_and_then (required_feature_of t.bytes) t.lang_sys

abbrev pub required_tag_of : Chosen → ℕ
required_tag_of t = option_map_or (feature_tag_of t.bytes) (required_of t) 0

-- where the Feature table of a feature stands
abbrev pub feature_place : Chosen → Option ℕ → Option ℕ
feature_place t index = option_and_then (varied_feature_of t.bytes t.substitution) index
