-- OpenType's tags of a script of ISO 15924 ("Script tags" of the OpenType specification)
use Rattle.std.specs.Prelude.{ℕ, ◌+◌, ◌==◌, ◌++◌, Option, Some, None, List, [], ◌∷◌, if◌then◌else◌}
use Rattle.std.specs.Int.RustNames.{bit_or}
use Rattle.shape_common.specs.declared.text_types.hb_tag_t.{hb_tag_t}
use Rattle.shape_common.specs.declared.text_types.Script.{Script}

abbrev pub tag : ℕ → hb_tag_t
tag n = record { 0 = n }

-- the tag of the scripts whose shaping was defined anew, in version 2
abbrev pub new_tag : ℕ → Option ℕ
new_tag script =
    if script == 0x42656E67 then Some 0x626E6732  -- Beng: bng2
    else if script == 0x44657661 then Some 0x64657632  -- Deva: dev2
    else if script == 0x47756A72 then Some 0x676A7232  -- Gujr: gjr2
    else if script == 0x47757275 then Some 0x67757232  -- Guru: gur2
    else if script == 0x4B6E6461 then Some 0x6B6E6432  -- Knda: knd2
    else if script == 0x4D6C796D then Some 0x6D6C6D32  -- Mlym: mlm2
    else if script == 0x4F727961 then Some 0x6F727932  -- Orya: ory2
    else if script == 0x54616D6C then Some 0x746D6C32  -- Taml: tml2
    else if script == 0x54656C75 then Some 0x74656C32  -- Telu: tel2
    else if script == 0x4D796D72 then Some 0x6D796D32  -- Mymr: mym2
    else None

-- the first tag of a script: its own with a small first letter, with these exceptions
abbrev pub old_tag : ℕ → ℕ
old_tag script =
    if script == 0x5A6D7468 then 0x6D617468  -- Zmth: math
    else if script == 0x48697261 then 0x6B616E61  -- Hira: kana
    else if script == 0x4C616F6F then 0x6C616F20  -- Laoo: lao
    else if script == 0x59696969 then 0x79692020  -- Yiii: yi
    else if script == 0x4E6B6F6F then 0x6E6B6F20  -- Nkoo: nko
    else if script == 0x56616969 then 0x76616920  -- Vaii: vai
    else bit_or script 0x20000000

-- version 3 before version 2; Myanmar has no version 3
abbrev pub new_tags : Option ℕ → List hb_tag_t
new_tags None = []
new_tags (Some n) = if n == 0x6D796D32 then tag n ∷ [] else tag (n + 1) ∷ tag n ∷ []

abbrev pub tags_of_script : Option Script → List hb_tag_t
tags_of_script None = []
tags_of_script (Some script) =
    if script.0.0 == 0 then [] else new_tags (new_tag script.0.0) ++ tag (old_tag script.0.0) ∷ []
