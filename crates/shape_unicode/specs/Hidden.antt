-- Characters that are unseen, and those that pick a variant of the one before them.
use Rattle.std.specs.Prelude.{ℕ, ◌==◌, ◌&&◌, ◌||◌, not, nat_le, nat_lt, Bool}
use Rattle.ucd_derived.specs.Binary.{is_default_ignorable_code_point}
use Rattle.ucd_props.specs.Binary.{is_variation_selector}

-- the fillers of Hangul, U+180F and the shorthand format controls, which are shown
abbrev pub is_seen_though_ignorable : ℕ → Bool
is_seen_though_ignorable c =
    c == 0x115F || c == 0x1160 || c == 0x180F || c == 0x3164 || c == 0xFFA0 || (nat_le 0x1BCA0 c && nat_le c 0x1BCA3)

-- before U+061C there are two ignorables alone
abbrev pub is_seen_early : ℕ → Bool
is_seen_early c = nat_lt c 0x61C && (not (c == 0xAD) && not (c == 0x34F))

-- between U+180F and U+200B there are none
abbrev pub is_seen_between : ℕ → Bool
is_seen_between c = nat_lt 0x180F c && nat_lt c 0x200B

-- between U+1D17A and U+E0000 neither
abbrev pub is_seen_late : ℕ → Bool
is_seen_late c = nat_lt 0x1D17A c && nat_lt c 0xE0000

-- the spaces and joiners without a width, and the marks of direction
abbrev pub is_unseen_early : ℕ → Bool
is_unseen_early c = nat_lt 0x200A c && nat_lt c 0x2010

-- Default_Ignorable_Code_Point, without those that are shown
abbrev pub is_ignorable : ℕ → Bool
is_ignorable c = is_default_ignorable_code_point c && not (is_seen_though_ignorable c)

-- the block Mongolian
abbrev pub is_mongolian : ℕ → Bool
is_mongolian c = nat_le 0x1800 c && nat_le c 0x18AF

-- between U+FE0F and U+E0100 there is no variation selector
abbrev pub is_between_selectors : ℕ → Bool
is_between_selectors c = nat_lt 0xFE0F c && nat_lt c 0xE0100

-- Variation_Selector, without those of Mongolian
abbrev pub is_selector : ℕ → Bool
is_selector c = is_variation_selector c && not (is_mongolian c)
