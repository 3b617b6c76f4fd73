-- Whether a grapheme cluster has emoji presentation: the sequences of UTS 51, by the numbers of its definitions.
use Rattle.std.specs.Prelude.{ℕ, ◌==◌, ◌&&◌, ◌||◌, nat_le, Bool, false, List, [], ◌∷◌, if◌then◌else◌}
use Rattle.ucd_emoji.specs.Binary.{is_emoji, is_emoji_presentation, is_emoji_modifier, is_emoji_modifier_base, is_emoji_variation_base}
use Rattle.text_items.specs.declared.presentation.Presentation.{Presentation}
use Rattle.text_items.specs.declared.presentation.Presentation.TheVariants.{Text, Emoji}

abbrev pub number : Presentation → ℕ
number Text = 0
number Emoji = 1

-- ED-6, default emoji presentation character: "a character that, by default, should appear with an emoji presentation, rather than a
-- text presentation"; ED-7, default text presentation character: one that should not
abbrev pub by_default : ℕ → Presentation
by_default c = if is_emoji_presentation c then Emoji else Text

-- ED-8a, text presentation sequence: an emoji, and U+FE0E
abbrev pub is_text_sequence : ℕ → ℕ → Bool
is_text_sequence c next = (next == 0xFE0E) && is_emoji_variation_base c

-- ED-9a, emoji presentation sequence: an emoji, and U+FE0F; with U+20E3 after it, ED-14c, emoji keycap sequence
abbrev pub is_emoji_sequence : ℕ → ℕ → Bool
is_emoji_sequence c next = (next == 0xFE0F) && is_emoji_variation_base c

-- ED-13, emoji modifier sequence: an emoji modifier base, and an emoji modifier
abbrev pub is_modifier_sequence : ℕ → ℕ → Bool
is_modifier_sequence c next = is_emoji_modifier next && is_emoji_modifier_base c

-- ED-14a, emoji tag sequence: an emoji, characters from U+E0020 to U+E007E, and U+E007F
abbrev pub is_tag : ℕ → Bool
is_tag c = nat_le 0xE0020 c && nat_le c 0xE007E

-- ED-16, emoji ZWJ sequence: emoji, each with its selector or modifier, and U+200D between them. So one is joined where U+200D
-- stands before it
abbrev pub joins_emoji : Bool → List ℕ → Bool
joins_emoji joined [] = false
joins_emoji joined (c ∷ cs) = (joined && is_emoji c) || joins_emoji (c == 0x200D) cs

-- an emoji, and the characters that follow it in its cluster; ED-14, a flag of two regional indicators, has its presentation by default
abbrev pub of_sequence : ℕ → List ℕ → Presentation
of_sequence c [] = by_default c
of_sequence c (next ∷ cs) =
    if is_text_sequence c next then Text
    else if is_emoji_sequence c next || (is_modifier_sequence c next || (is_tag next || joins_emoji false (next ∷ cs))) then Emoji
    else by_default c

-- a cluster, by its characters
abbrev pub of_cluster : List ℕ → Presentation
of_cluster [] = Text
of_cluster (c ∷ []) = by_default c
of_cluster (c ∷ d ∷ cs) = if is_emoji c then of_sequence c (d ∷ cs) else Text
