-- Mirror images (UAX 9, Bidi_Mirroring_Glyph).
use Rattle.std.specs.Prelude.{ℕ, ◌==◌, ◌&&◌, ◌||◌, nat_lt, Bool, Option, None, option_map, if◌then◌else◌}
use Rattle.std.specs.List.{find}
use Rattle.ucd_bidi.specs.Binary.{is_bidi_mirrored}
use Rattle.shape_unicode.specs.declared.mirror_pairs.TheConstants.{MIRROR_PAIRS}

-- the other one of a pair
abbrev pub other_one : ℕ → ℕ × ℕ → ℕ
other_one c pair = if pair.0 == c then pair.1 else pair.0

-- c is one of the pair
abbrev pub is_one_of : ℕ → ℕ × ℕ → Bool
is_one_of c pair = pair.0 == c || pair.1 == c

-- the other one of the pair that c belongs to
abbrev pub other_of_pair : ℕ → Option ℕ
other_of_pair c = option_map (other_one c) (find (is_one_of c) MIRROR_PAIRS)

-- after the last of Latin-1 and before the first of Tibetan, where nothing is mirrored
abbrev pub is_between_brackets : ℕ → Bool
is_between_brackets c = nat_lt 0xBB c && nat_lt c 0xF3A

-- in General Punctuation before the first of its angle quotes, where nothing is mirrored either
abbrev pub is_before_angles : ℕ → Bool
is_before_angles c = nat_lt 0x1FFF c && nat_lt c 0x2039

-- after the last of all pairs
abbrev pub is_past_pairs : ℕ → Bool
is_past_pairs c = nat_lt 0xFF63 c

-- Bidi_Mirroring_Glyph
abbrev pub mirrored_of : ℕ → Option ℕ
mirrored_of c = if is_bidi_mirrored c then other_of_pair c else None
