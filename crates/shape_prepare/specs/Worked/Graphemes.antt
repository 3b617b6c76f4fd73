-- Graphemes and dotted circles on cases whose answers are worked out by hand.
use Rattle.std.specs.Prelude.{◌≡◌, ℕ, ◌==◌, Bool, true, false, List, [], ◌∷◌, map, refl}
use Rattle.shape_items.specs.Buffer.{Buffer}
use Rattle.shape_items.specs.Items.{Item, new_item}
use Rattle.shape_common.specs.Unicode.{UnicodeMeaning}
use Rattle.shape_common.specs.declared.general_category.hb_unicode_general_category_t.{hb_unicode_general_category_t}
use Rattle.shape_common.specs.declared.general_category.hb_unicode_general_category_t.TheVariants.{UppercaseLetter, LowercaseLetter, TitlecaseLetter}
use Rattle.shape_common.specs.declared.general_category.hb_unicode_general_category_t.TheVariants.{ModifierLetter, OtherLetter, SpaceSeparator}
use Rattle.shape_common.specs.declared.general_category.hb_unicode_general_category_t.TheVariants.{LineSeparator, ModifierSymbol, OtherSymbol, Format}
use Rattle.shape_prepare.specs.Graphemes.{graphemes_marked, is_unasked, is_skin_tone, is_extender, continues_by_rule, is_to_next, is_left_alone}
use Rattle.shape_prepare.specs.DottedCircle.{circle_before, dotted_circled}
use Rattle.shape_prepare.specs.declared.graphemes.Before.TheVariants.{Plain, Zwj}
use Rattle.shape_prepare.specs.Worked.Unicode.{worked_unicode, face_with, text_of, shown, continued}

abbrev pub continuations_of : List ℕ → List Bool
continuations_of cs = continued (graphemes_marked worked_unicode (text_of (map (λ c. (c, 0)) cs)))

-- two regional indicators make one grapheme
pub record Flags : Type 0 where
  pub four : continuations_of (0x1F1E6 ∷ 0x1F1E6 ∷ 0x1F1E6 ∷ 0x1F1E6 ∷ []) ≡ false ∷ true ∷ false ∷ true ∷ []
  pub third_pairs_with_fourth : continuations_of (0x1F1E6 ∷ 0x1F1FF ∷ 0x1F1E9 ∷ []) ≡ false ∷ true ∷ false ∷ []
  pub mark_parts_them : continuations_of (0x1F1E6 ∷ 0x301 ∷ 0x1F1E6 ∷ 0x1F1E6 ∷ []) ≡ false ∷ true ∷ false ∷ true ∷ []
  pub beside_the_range : continuations_of (0x1F1E5 ∷ 0x1F1E6 ∷ 0x1F200 ∷ []) ≡ false ∷ false ∷ false ∷ []
  pub sub_region_tags : continuations_of (0x1F3F4 ∷ 0xE0067 ∷ 0xE0062 ∷ 0xE007F ∷ 0x1F3F4 ∷ []) ≡ false ∷ true ∷ true ∷ true ∷ false ∷ []
  pub beside_the_tags : continuations_of (0x1F3F4 ∷ 0xE001F ∷ 0xE0020 ∷ 0xE0080 ∷ []) ≡ false ∷ false ∷ true ∷ false ∷ []

flags : Flags
unfolding graphemes_marked
flags =
    record {
      four = refl;
      third_pairs_with_fourth = refl;
      mark_parts_them = refl;
      beside_the_range = refl;
      sub_region_tags = refl;
      beside_the_tags = refl;
    }

-- sequences of emoji (UAX 29, GB9 and GB11); ZWJ joins pictographs alone, and a pictograph without one begins anew
pub record Emoji : Type 0 where
  pub skin_tone : continuations_of (0x1F44B ∷ 0x1F3FB ∷ 0x1F44B ∷ 0x1F3FF ∷ []) ≡ false ∷ true ∷ false ∷ true ∷ []
  pub family : continuations_of (0x1F468 ∷ 0x200D ∷ 0x1F469 ∷ 0x200D ∷ 0x1F467 ∷ []) ≡ false ∷ true ∷ true ∷ true ∷ true ∷ []
  pub two_pictographs : continuations_of (0x1F468 ∷ 0x1F469 ∷ []) ≡ false ∷ false ∷ []
  pub zwj_before_letter : continuations_of (0x61 ∷ 0x200D ∷ 0x61 ∷ []) ≡ false ∷ true ∷ false ∷ []
  pub joined_with_selector : continuations_of (0x2764 ∷ 0xFE0F ∷ 0x200D ∷ 0x1F525 ∷ []) ≡ false ∷ true ∷ true ∷ true ∷ []
  pub keycap : continuations_of (0x31 ∷ 0xFE0F ∷ 0x20E3 ∷ 0x32 ∷ []) ≡ false ∷ true ∷ true ∷ false ∷ []
  pub two_zwjs : continuations_of (0x1F468 ∷ 0x200D ∷ 0x200D ∷ 0x1F469 ∷ []) ≡ false ∷ true ∷ true ∷ true ∷ []
  pub flag_after_zwj : continuations_of (0x1F468 ∷ 0x200D ∷ 0x1F1E6 ∷ 0x1F1E6 ∷ []) ≡ false ∷ true ∷ false ∷ true ∷ []

emoji : Emoji
unfolding graphemes_marked
emoji = record {
  skin_tone = refl;
  family = refl;
  two_pictographs = refl;
  zwj_before_letter = refl;
  joined_with_selector = refl;
  keycap = refl;
  two_zwjs = refl;
  flag_after_zwj = refl;
}

-- marks continue, voice marks of halfwidth katakana too; letters, spaces and digits begin
pub record Others : Type 0 where
  pub marks_of_a_letter : continuations_of (0x61 ∷ 0x301 ∷ 0x323 ∷ 0x62 ∷ []) ≡ false ∷ true ∷ true ∷ false ∷ []
  pub first_mark : continuations_of (0x301 ∷ 0x61 ∷ []) ≡ true ∷ false ∷ []
  pub voice_mark : continuations_of (0xFF76 ∷ 0xFF9E ∷ 0x20 ∷ 0x30 ∷ []) ≡ false ∷ true ∷ false ∷ false ∷ []

others : Others
unfolding graphemes_marked
others = record { marks_of_a_letter = refl; first_mark = refl; voice_mark = refl }

abbrev pub of_category : hb_unicode_general_category_t → ℕ → Item
of_category category c =
    let plain : Item = new_item c 0 in
    record plain { properties = record plain.properties { general_category = category } }

abbrev pub joiner_of : hb_unicode_general_category_t → Item
joiner_of category = let plain : Item = of_category category 0x200D in record plain { properties = record plain.properties { zwj = true } }

-- every character a pictograph
abbrev pub pictures : UnicodeMeaning
pictures = record worked_unicode { pictographic = λ c. true }

-- each rule with the characters and categories beside it
pub record RulesByThemselves : Type 0 where
  pub unasked : map is_unasked (UppercaseLetter ∷ LowercaseLetter ∷ TitlecaseLetter ∷ ModifierLetter ∷ OtherLetter
      ∷ SpaceSeparator ∷ LineSeparator ∷ ModifierSymbol ∷ Format ∷ [])
      ≡ true ∷ true ∷ true ∷ false ∷ true ∷ true ∷ false ∷ false ∷ false ∷ []
  pub skin_tones : map is_skin_tone (0x1F3FA ∷ 0x1F3FB ∷ 0x1F3FF ∷ 0x1F400 ∷ []) ≡ false ∷ true ∷ true ∷ false ∷ []
  pub extenders : map is_extender (0xFF9D ∷ 0xFF9E ∷ 0xFF9F ∷ 0xFFA0 ∷ []) ≡ false ∷ true ∷ true ∷ false ∷ []
  pub circumflex : continues_by_rule Plain (of_category ModifierSymbol 0x5E) ≡ false
  pub tone_of_no_modifier : continues_by_rule Plain (of_category OtherSymbol 0x1F3FB) ≡ false
  pub joiner : is_to_next worked_unicode Plain (joiner_of Format) ≡ Zwj
  pub joined_joiner : is_to_next pictures Zwj (joiner_of Format) ≡ Plain
  pub plain_joiner : is_to_next worked_unicode Plain (joiner_of OtherLetter) ≡ Plain
  pub letter_alone : is_left_alone Plain (of_category LowercaseLetter 0x3B1) ≡ true
  pub letter_after_joiner : is_left_alone Zwj (of_category LowercaseLetter 0x3B1) ≡ false
  pub symbol_alone : is_left_alone Plain (of_category ModifierSymbol 0x1F3FB) ≡ false
  pub before_indicators : is_left_alone Plain (of_category OtherLetter 0x1F1E5) ≡ true
  pub at_indicators : is_left_alone Plain (of_category OtherLetter 0x1F1E6) ≡ false

rules_by_themselves : RulesByThemselves
rules_by_themselves = record {
  unasked = refl;
  skin_tones = refl;
  extenders = refl;
  circumflex = refl;
  tone_of_no_modifier = refl;
  joiner = refl;
  joined_joiner = refl;
  plain_joiner = refl;
  letter_alone = refl;
  letter_after_joiner = refl;
  symbol_alone = refl;
  before_indicators = refl;
  at_indicators = refl;
}

-- a text that begins here with a mark
abbrev pub accent_first : Buffer
accent_first = record (text_of ((0x301, 7) ∷ (0x61, 9) ∷ [])) { flags = record { 0 = 2 } }

abbrev pub circled : (ℕ → Bool) → Buffer → Buffer
circled has b = dotted_circled worked_unicode (face_with has) (graphemes_marked worked_unicode b)

-- a mark that already has a mask
abbrev pub masked_accent : Item
masked_accent = record (new_item 0x301 7) { mask = 16 }

pub record Circles : Type 0 where
  pub put_in : shown (circled (λ c. c == 0x25CC) accent_first) ≡ (0x25CC, 7) ∷ (0x301, 7) ∷ (0x61, 9) ∷ []
  pub not_a_mark : continued (circled (λ c. true) accent_first) ≡ false ∷ true ∷ false ∷ []
  pub without_glyph : shown (circled (λ c. c == 0x301) accent_first) ≡ (0x301, 7) ∷ (0x61, 9) ∷ []
  pub forbidden : shown (circled (λ c. true) (record accent_first { flags = record { 0 = 34 } })) ≡ (0x301, 7) ∷ (0x61, 9) ∷ []
  pub not_begun : shown (circled (λ c. true) (record accent_first { flags = record { 0 = 0 } })) ≡ (0x301, 7) ∷ (0x61, 9) ∷ []
  pub in_context : shown (circled (λ c. true) (record accent_first { pre_context = 0x61 ∷ [] })) ≡ (0x301, 7) ∷ (0x61, 9) ∷ []
  pub letter_first : shown (circled (λ c. true) (record (text_of ((0x61, 0) ∷ (0x301, 1) ∷ [])) { flags = record { 0 = 2 } }))
      ≡ (0x61, 0) ∷ (0x301, 1) ∷ []
  pub of_nothing : shown (circled (λ c. true) (record (text_of []) { flags = record { 0 = 2 } })) ≡ []
  pub joiner_first : shown (circled (λ c. true) (record (text_of ((0x200D, 0) ∷ [])) { flags = record { 0 = 2 } })) ≡ (0x200D, 0) ∷ []
  pub mask_of_mark : (circle_before worked_unicode masked_accent).mask ≡ 16
  pub category_of_symbols : (circle_before worked_unicode masked_accent).properties.general_category ≡ OtherSymbol

circles : Circles
unfolding graphemes_marked dotted_circled
circles = record {
  put_in = refl;
  not_a_mark = refl;
  without_glyph = refl;
  forbidden = refl;
  not_begun = refl;
  in_context = refl;
  letter_first = refl;
  of_nothing = refl;
  joiner_first = refl;
  mask_of_mark = refl;
  category_of_symbols = refl;
}

abbrev pub WorkedGraphemes : Type 0
WorkedGraphemes = Flags × Emoji × Others × RulesByThemselves × Circles

pub worked_graphemes : WorkedGraphemes
worked_graphemes = (flags, emoji, others, rules_by_themselves, circles)
