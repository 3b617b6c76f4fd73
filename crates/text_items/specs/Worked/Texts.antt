-- Emoji, and whole texts, worked out by hand from UTS 51, UAX 29 and the data of Unicode.
use Rattle.std.specs.Prelude.{◌≡◌, [], ◌∷◌, refl}
use Rattle.ucd_bidi.proofs.Computing.{ucd_bidi}
use Rattle.ucd_emoji.proofs.Computing.{ucd_emoji}
use Rattle.ucd_script.proofs.Computing.{ucd_script}
use Rattle.ucd_script.specs.declared.Script.TheVariants.{Greek}
use Rattle.unicode_segmentation.proofs.Computing.{unicode_segmentation}
use Rattle.text_items.specs.Items.{items_of}
use Rattle.text_items.specs.Presentations.{of_cluster}
use Rattle.text_items.specs.Worked.{plain, run}
use Rattle.text_items.specs.declared.presentation.Presentation.TheVariants.{Emoji, Text}

pub record WorkedEmoji : Type 0 where
  pub emoji_by_default : of_cluster (0x1F600 ∷ []) ≡ Emoji
  pub text_by_default : of_cluster (0x2764 ∷ []) ≡ Text
  pub letter : of_cluster (0x61 ∷ []) ≡ Text
  -- ED-8a and ED-9a: WATCH, an emoji by default; HEAVY BLACK HEART, a text
  pub text_selector : of_cluster (0x231A ∷ 0xFE0E ∷ []) ≡ Text
  pub emoji_selector : of_cluster (0x2764 ∷ 0xFE0F ∷ []) ≡ Emoji
  pub selector_of_a_letter : of_cluster (0x61 ∷ 0xFE0F ∷ []) ≡ Text
  pub selector_of_no_sequence : of_cluster (0x1F9D1 ∷ 0xFE0E ∷ []) ≡ Emoji
  -- ED-13: WHITE UP POINTING INDEX with a skin tone; a heart takes none
  pub modifier : of_cluster (0x261D ∷ 0x1F3FD ∷ []) ≡ Emoji
  pub modifier_of_no_base : of_cluster (0x2764 ∷ 0x1F3FD ∷ []) ≡ Text
  -- ED-14, ED-14a, ED-14c
  pub flag : of_cluster (0x1F1E8 ∷ 0x1F1FF ∷ []) ≡ Emoji
  pub tags : of_cluster (0x2764 ∷ 0xE0067 ∷ 0xE007F ∷ []) ≡ Emoji
  pub first_tag : of_cluster (0x2764 ∷ 0xE0020 ∷ []) ≡ Emoji
  pub last_tag : of_cluster (0x2764 ∷ 0xE007E ∷ []) ≡ Emoji
  pub no_tags : of_cluster (0x2764 ∷ 0xE007F ∷ []) ≡ Text
  pub keycap : of_cluster (0x31 ∷ 0xFE0F ∷ 0x20E3 ∷ []) ≡ Emoji
  pub keycap_as_text : of_cluster (0x31 ∷ 0x20E3 ∷ []) ≡ Text
  -- ED-16: a heart and fire, joined at once and after a mark
  pub joined : of_cluster (0x2764 ∷ 0x200D ∷ 0x1F525 ∷ []) ≡ Emoji
  pub joined_later : of_cluster (0x2764 ∷ 0x301 ∷ 0x200D ∷ 0x1F525 ∷ []) ≡ Emoji
  pub joined_to_nothing : of_cluster (0x2764 ∷ 0x200D ∷ []) ≡ Text
  pub joined_apart : of_cluster (0x2764 ∷ 0x200D ∷ 0x301 ∷ 0x1F525 ∷ []) ≡ Text
  pub no_emoji_first : of_cluster (0x61 ∷ 0x200D ∷ 0x1F525 ∷ []) ≡ Text

pub worked_emoji : WorkedEmoji
unfolding ucd_emoji
worked_emoji = record {
  emoji_by_default = refl;
  text_by_default = refl;
  letter = refl;
  text_selector = refl;
  emoji_selector = refl;
  selector_of_a_letter = refl;
  selector_of_no_sequence = refl;
  modifier = refl;
  modifier_of_no_base = refl;
  flag = refl;
  tags = refl;
  first_tag = refl;
  last_tag = refl;
  no_tags = refl;
  keycap = refl;
  keycap_as_text = refl;
  joined = refl;
  joined_later = refl;
  joined_to_nothing = refl;
  joined_apart = refl;
  no_emoji_first = refl;
}

pub record WorkedTexts : Type 0 where
  pub no_text : items_of [] [] [] [] ≡ []
  -- a, U+0301, b: the level of a cluster is that of its first character, and each character has one in the list
  pub levels : items_of (1 ∷ 2 ∷ 3 ∷ []) [] [] (0x61 ∷ 0xCC ∷ 0x81 ∷ 0x62 ∷ [])
      ≡ run 0 3 (record plain { level = 1 }) ∷ run 3 4 (record plain { level = 3 }) ∷ []
  pub no_levels_left : items_of (1 ∷ []) [] [] (0x61 ∷ 0x62 ∷ []) ≡ run 0 1 (record plain { level = 1 }) ∷ run 1 2 plain ∷ []
  -- ab, of which the first is in language 7 and the second has features 9
  pub numbers : items_of [] (record { start = 0; end = 1; number = 7 } ∷ []) (record { start = 1; end = 2; number = 9 } ∷ []) (0x61 ∷ 0x62 ∷ [])
      ≡ run 0 1 (record plain { language = 7 }) ∷ run 1 2 (record plain { features = 9 }) ∷ []
  -- a, a smile, γ
  pub three : items_of [] [] [] (0x61 ∷ 0xF0 ∷ 0x9F ∷ 0x98 ∷ 0x80 ∷ 0xCE ∷ 0xB3 ∷ [])
      ≡ run 0 1 plain ∷ run 1 5 (record plain { presentation = Emoji }) ∷ run 5 7 (record plain { script = Greek }) ∷ []

pub worked_texts : WorkedTexts
unfolding unicode_segmentation ucd_script ucd_bidi ucd_emoji
worked_texts = record {
  no_text = refl;
  levels = refl;
  no_levels_left = refl;
  numbers = refl;
  three = refl;
}
