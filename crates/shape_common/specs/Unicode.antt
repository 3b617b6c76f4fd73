-- What the Unicode functions mean, and the laws that every implementation proves.
use Rattle.std.specs.Prelude.{◌≡◌, ◌≢◌, ℕ, ◌<◌, Bool, true, false, Option, Some}
use Rattle.canonical_form.specs.Decompositions.{Decompositions}
use Rattle.canonical_form.specs.SplitsFall.{SplitsFall}
use Rattle.canonical_form.specs.Equivalent.{ComposesSoundly}
use Rattle.shape_common.specs.Category.{is_mark_category, is_space_category}
use Rattle.shape_common.specs.declared.general_category.hb_unicode_general_category_t.{hb_unicode_general_category_t}
use Rattle.shape_common.specs.declared.text_types.Direction.{Direction}
use Rattle.shape_common.specs.declared.text_types.Script.{Script}

-- what the functions return for each character, and a height that falls along splits
pub record UnicodeMeaning : Type 0 where
  pub category : ℕ → hb_unicode_general_category_t
  pub ccc : ℕ → ℕ
  pub split : ℕ → Option (ℕ × ℕ)
  pub height : ℕ → ℕ
  pub compose : ℕ → ℕ → Option ℕ
  pub mirrored : ℕ → Option ℕ
  pub vertical : ℕ → Option ℕ
  pub space_fallback : ℕ → ℕ
  pub ignorable : ℕ → Bool
  pub pictographic : ℕ → Bool
  pub selector : ℕ → Bool
  pub script : ℕ → Script
  pub script_direction : Script → Option Direction

-- its splits, with their heights and the combining classes
abbrev pub decompositions_of : UnicodeMeaning → Decompositions
decompositions_of unicode = record { split = unicode.split; height = unicode.height; ccc = unicode.ccc }

-- a character of one of the three categories of marks
abbrev pub is_mark : UnicodeMeaning → ℕ → Bool
is_mark unicode c = is_mark_category (unicode.category c)

-- neither a mark nor a space separator
pub record IsPlain (unicode : UnicodeMeaning) (c : ℕ) : Type 0 where
  pub no_mark : is_mark unicode c ≡ false
  pub no_space : is_space_category (unicode.category c) ≡ false

-- the law mirrors-are-plain, for mirrors as for vertical forms: a character that has another form is plain, and so is
-- that form
abbrev pub FormsArePlain : UnicodeMeaning → (ℕ → Option ℕ) → Type 0
FormsArePlain unicode form = (c d : ℕ) → form c ≡ Some d → IsPlain unicode c × IsPlain unicode d

-- the laws, over all numbers: of a number that is no character a meaning may return whatever keeps them
pub record LawfulUnicode (unicode : UnicodeMeaning) : Type 0 where
  pub only_marks_have_ccc : (c : ℕ) → unicode.ccc c ≢ 0 → is_mark unicode c ≡ true
  pub ascii_is_no_mark : (c : ℕ) → c < 128 → is_mark unicode c ≡ false
  pub mirrors_are_plain : FormsArePlain unicode unicode.mirrored
  pub verticals_are_plain : FormsArePlain unicode unicode.vertical
  pub splits_fall : SplitsFall (decompositions_of unicode)
  pub composes_soundly : ComposesSoundly (decompositions_of unicode) unicode.compose
