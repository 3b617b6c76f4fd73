-- Vowels of two parts, and marks that aren't composed.
use Rattle.std.specs.Prelude.{ℕ, ◌+◌, ◌==◌, ◌||◌, Bool, if◌then◌else◌, Option, None, Some}
use Rattle.shape_common.specs.Category.{is_mark_category}
use Rattle.shape_common.specs.Unicode.{UnicodeMeaning}

abbrev pub is_split : ℕ → Bool
is_split c = (c == 0x17BE) || (c == 0x17BF) || (c == 0x17C0) || (c == 0x17C4) || (c == 0x17C5)

-- the vowel E and the vowel itself; E has no parts
abbrev pub split : UnicodeMeaning → ℕ → Option (ℕ × ℕ)
split unicode c = if is_split c then Some (0x17C1, c) else if c == 0x17C1 then None else unicode.split c

-- E, then these vowels, then all others by Unicode
abbrev pub height : UnicodeMeaning → ℕ → ℕ
height unicode c = if is_split c then 1 else if c == 0x17C1 then 0 else unicode.height c + 2

abbrev pub compose_letters : UnicodeMeaning → ℕ → ℕ → Option ℕ
compose_letters unicode a b = if is_mark_category (unicode.category a) then None else unicode.compose a b
