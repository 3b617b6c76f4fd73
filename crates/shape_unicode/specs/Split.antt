-- One step of canonical decomposition (UAX 44, Decomposition_Mapping without a tag; The Unicode Standard, section
-- 3.12).
use Rattle.std.specs.Prelude.{ℕ, zero, suc, ◌+◌, ◌-◌, ◌/◌, ◌%◌, ◌==◌, ◌&&◌, ◌||◌, nat_lt, Bool, List, [], ◌∷◌, Option, Some, None, if◌then◌else◌}
use Rattle.std.specs.Option.{option_map_or}
use Rattle.ucd_normal.specs.Decomposition.{canonical_mapping}
use Rattle.unicode_normalization.specs.Hangul.{is_syllable, s_base, l_base, v_base, t_base, n_count, t_count}

-- the two parts that a canonical mapping names; U+0000 stands for no second part
abbrev pub parts_of : List ℕ → Option (ℕ × ℕ)
parts_of [] = None
parts_of (a ∷ []) = Some (a, 0)
parts_of (a ∷ b ∷ []) = Some (a, b)
parts_of _ = None

-- the leading consonant and the vowel of a syllable, or the syllable without its trailing consonant, and this consonant
abbrev pub split_syllable : ℕ → ℕ × ℕ
split_syllable s =
    let index = s - s_base in
    if index % t_count == 0 then (l_base + index / n_count, v_base + index % n_count / t_count)
    else (s - index % t_count, t_base + index % t_count)

-- places without a canonical mapping, which are no syllables either
abbrev pub is_whole_early : ℕ → Bool
is_whole_early c =
    nat_lt c 0xC0 || (nat_lt 0x2FF c && nat_lt c 0x340) || (nat_lt 0x4F9 c && nat_lt c 0x622) || (nat_lt 0x2001 c && nat_lt c 0x2126)

-- the canonical mapping of the database, and that of syllables
abbrev pub split_of : ℕ → Option (ℕ × ℕ)
split_of c = if is_syllable c then Some (split_syllable c) else parts_of (canonical_mapping c)

-- how often a mapping splits a character and then its first parts, up to a limit
abbrev pub depth_within : (ℕ → List ℕ) → ℕ → ℕ → ℕ
depth_within mapping zero c = 0
depth_within mapping (suc limit) c = option_map_or (λ parts. suc (depth_within mapping limit parts.0)) (parts_of (mapping c)) 0

-- the height that falls along splits; no character of the database splits more than three times
abbrev pub height_of : ℕ → ℕ
height_of c = if is_syllable c then (if (c - s_base) % t_count == 0 then 1 else 2) else depth_within canonical_mapping 4 c
