-- Which shaper a script asks for, in horizontal and in vertical texts, by the script that the engine chose.
use Rattle.std.specs.Prelude.{◌≡◌, ℕ, true, false, Option, None, Some, List, [], ◌∷◌, map, refl}
use Rattle.shape_common.specs.declared.text_types.Direction.{Direction}
use Rattle.shape_common.specs.declared.text_types.Direction.TheVariants.{LeftToRight, RightToLeft, TopToBottom, BottomToTop}
use Rattle.shape_common.specs.declared.text_types.hb_tag_t.{hb_tag_t}
use Rattle.shaper_choice.specs.Choice.{OfEach, category_of, of_category, preserves_equivalence, served_by}
use Rattle.shaper_choice.specs.declared.choice.Category.{Category}
use Rattle.shaper_choice.specs.declared.choice.Category.TheVariants as is

abbrev pub tag : ℕ → Option hb_tag_t
tag number = Some (record { 0 = number })

abbrev pub of : ℕ → Direction → Option hb_tag_t → Category
of script direction chosen = category_of (Some (record { 0 = record { 0 = script } })) direction chosen

abbrev served_by_tag : ℕ → Category
served_by_tag script = served_by (record { 0 = record { 0 = script } })

abbrev all_categories : List Category
all_categories =
    is.Default ∷ is.Arabic ∷ is.Hangul ∷ is.Hebrew ∷ is.Thai ∷ is.Universal ∷ is.Khmer ∷ is.Myanmar ∷ is.Zawgyi ∷ is.Indic ∷ []

abbrev numbers : OfEach ℕ
numbers = record {
  default = 1;
  arabic = 2;
  hangul = 3;
  hebrew = 4;
  thai = 5;
  universal = 6;
  khmer = 7;
  myanmar = 8;
  zawgyi = 9;
  indic = 10;
}

pub record WorkedChoice : Type 0 where
  -- Arabic in horizontal texts, whatever the font has; Syriac unless the font has DFLT alone
  pub arabic : of 0x41726162 RightToLeft None ≡ is.Arabic
  pub arabic_by_default : of 0x41726162 LeftToRight (tag 0x44464C54) ≡ is.Arabic
  pub arabic_down : of 0x41726162 TopToBottom None ≡ is.Default
  pub arabic_up : of 0x41726162 BottomToTop None ≡ is.Default
  pub syriac : of 0x53797263 RightToLeft (tag 0x73797263) ≡ is.Arabic
  pub syriac_without_tables : of 0x53797263 RightToLeft None ≡ is.Arabic
  pub syriac_by_default : of 0x53797263 RightToLeft (tag 0x44464C54) ≡ is.Default
  pub syriac_by_latin : of 0x53797263 RightToLeft (tag 0x6C61746E) ≡ is.Arabic
  pub syriac_down : of 0x53797263 TopToBottom None ≡ is.Default
  -- Hangul, Hebrew, Thai, Lao, Khmer and Zawgyi in any direction, whatever the font has
  pub hangul : of 0x48616E67 TopToBottom None ≡ is.Hangul
  pub hebrew : of 0x48656272 RightToLeft (tag 0x44464C54) ≡ is.Hebrew
  pub thai : of 0x54686169 LeftToRight None ≡ is.Thai
  pub lao : of 0x4C616F6F LeftToRight (tag 0x6C616F20) ≡ is.Thai
  pub khmer : of 0x4B686D72 LeftToRight (tag 0x6B686D72) ≡ is.Khmer
  pub khmer_by_default : of 0x4B686D72 TopToBottom (tag 0x44464C54) ≡ is.Khmer
  pub zawgyi : of 0x51616167 LeftToRight (tag 0x44464C54) ≡ is.Zawgyi
  -- Myanmar unless the font has DFLT, latn or mymr alone
  pub myanmar : of 0x4D796D72 LeftToRight (tag 0x6D796D32) ≡ is.Myanmar
  pub myanmar_without_tables : of 0x4D796D72 TopToBottom None ≡ is.Myanmar
  pub myanmar_by_default : of 0x4D796D72 LeftToRight (tag 0x44464C54) ≡ is.Default
  pub myanmar_by_latin : of 0x4D796D72 LeftToRight (tag 0x6C61746E) ≡ is.Default
  pub myanmar_as_it_was : of 0x4D796D72 LeftToRight (tag 0x6D796D72) ≡ is.Default
  -- Tibetan, Mongolian from top to bottom, and Adlam, unless the font has DFLT or latn alone
  pub tibetan : of 0x54696274 LeftToRight (tag 0x74696274) ≡ is.Universal
  pub tibetan_without_tables : of 0x54696274 LeftToRight None ≡ is.Universal
  pub tibetan_by_default : of 0x54696274 LeftToRight (tag 0x44464C54) ≡ is.Default
  pub tibetan_by_latin : of 0x54696274 LeftToRight (tag 0x6C61746E) ≡ is.Default
  pub mongolian_down : of 0x4D6F6E67 TopToBottom (tag 0x6D6F6E67) ≡ is.Universal
  pub adlam : of 0x41646C6D RightToLeft (tag 0x61646C6D) ≡ is.Universal
  -- Kannada and Devanagari by the older and the newer specification, unless the font has DFLT or latn alone; with knd3 as Tibetan
  pub kannada_third : of 0x4B6E6461 LeftToRight (tag 0x6B6E6433) ≡ is.Universal
  pub kannada_second : of 0x4B6E6461 LeftToRight (tag 0x6B6E6432) ≡ is.Indic
  pub devanagari_first : of 0x44657661 LeftToRight (tag 0x64657661) ≡ is.Indic
  pub devanagari_down : of 0x44657661 TopToBottom (tag 0x64657632) ≡ is.Indic
  pub kannada_by_default : of 0x4B6E6461 LeftToRight (tag 0x44464C54) ≡ is.Default
  pub kannada_by_latin : of 0x4B6E6461 LeftToRight (tag 0x6C61746E) ≡ is.Default
  pub kannada_without_tables : of 0x4B6E6461 LeftToRight None ≡ is.Indic
  -- others, also one with a tag that ends in 3, and a text without a script
  pub latin : of 0x4C61746E LeftToRight (tag 0x6C61746E) ≡ is.Default
  pub ethiopic_third : of 0x45746869 LeftToRight (tag 0x65746833) ≡ is.Default
  pub no_script : category_of None LeftToRight None ≡ is.Default
  -- what serves a script: Latin and Chinese need no shaper of their own; Arabic, Syriac, Korean, Hebrew, Lao, Tibetan, Mongolian,
  -- Khmer, Myanmar, Zawgyi, Telugu
  pub served : map served_by_tag (0x4C61746E ∷ 0x48616E69 ∷ 0x41726162 ∷ 0x53797263 ∷ 0x48616E67 ∷ 0x48656272 ∷ 0x4C616F6F ∷ 0x54696274
      ∷ 0x4D6F6E67 ∷ 0x4B686D72 ∷ 0x4D796D72 ∷ 0x51616167 ∷ 0x54656C75 ∷ [])
      ≡ is.Default ∷ is.Default ∷ is.Arabic ∷ is.Arabic ∷ is.Hangul ∷ is.Hebrew ∷ is.Thai ∷ is.Universal ∷ is.Universal ∷ is.Khmer
      ∷ is.Myanmar ∷ is.Zawgyi ∷ is.Indic ∷ []
  -- one of something for each shaper
  pub of_each : map (λ (c : Category). of_category c numbers) all_categories ≡ 1 ∷ 2 ∷ 3 ∷ 4 ∷ 5 ∷ 6 ∷ 7 ∷ 8 ∷ 9 ∷ 10 ∷ []
  -- the default shaper and those of Myanmar have no hook before normalising or in it
  pub equivalence : map preserves_equivalence all_categories
      ≡ true ∷ false ∷ false ∷ false ∷ false ∷ false ∷ false ∷ true ∷ true ∷ false ∷ []

pub worked_choice : WorkedChoice
worked_choice = record {
  arabic = refl;
  arabic_by_default = refl;
  arabic_down = refl;
  arabic_up = refl;
  syriac = refl;
  syriac_without_tables = refl;
  syriac_by_default = refl;
  syriac_by_latin = refl;
  syriac_down = refl;
  hangul = refl;
  hebrew = refl;
  thai = refl;
  lao = refl;
  khmer = refl;
  khmer_by_default = refl;
  zawgyi = refl;
  myanmar = refl;
  myanmar_without_tables = refl;
  myanmar_by_default = refl;
  myanmar_by_latin = refl;
  myanmar_as_it_was = refl;
  tibetan = refl;
  tibetan_without_tables = refl;
  tibetan_by_default = refl;
  tibetan_by_latin = refl;
  mongolian_down = refl;
  adlam = refl;
  kannada_third = refl;
  kannada_second = refl;
  devanagari_first = refl;
  devanagari_down = refl;
  kannada_by_default = refl;
  kannada_by_latin = refl;
  kannada_without_tables = refl;
  latin = refl;
  ethiopic_third = refl;
  no_script = refl;
  served = refl;
  of_each = refl;
  equivalence = refl;
}
