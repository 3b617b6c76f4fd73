-- Scripts by their tags of ISO 15924.
use Rattle.std.specs.Prelude.{ℕ, ◌==◌, ◌||◌, Bool, not, Option, Some, None, if◌then◌else◌}
use Rattle.std.specs.Int.RustNames.{bit_and, bit_or}
use Rattle.shape_common.specs.declared.text_types.Script.{Script}

-- the tag with one capital letter and three small ones, as the standard writes them
abbrev pub in_standard_case : ℕ → ℕ
in_standard_case tag = bit_or (bit_and tag 0xDFDFDFDF) 0x202020

-- the script that a tag names a variant of, or used to name; any other tag as it is
abbrev pub main_script : ℕ → ℕ
main_script tag =
    if tag == 0x51616169 then 0x5A696E68  -- Qaai: Zinh
    else if tag == 0x51616163 then 0x436F7074  -- Qaac: Copt
    else if tag == 0x4172616E then 0x41726162  -- Aran: Arab
    else if tag == 0x43797273 then 0x4379726C  -- Cyrs: Cyrl
    else if tag == 0x47656F6B then 0x47656F72  -- Geok: Geor
    else if tag == 0x48616E73 then 0x48616E69  -- Hans: Hani
    else if tag == 0x48616E74 then 0x48616E69  -- Hant: Hani
    else if tag == 0x4A616D6F then 0x48616E67  -- Jamo: Hang
    else if tag == 0x4C617466 then 0x4C61746E  -- Latf: Latn
    else if tag == 0x4C617467 then 0x4C61746E  -- Latg: Latn
    else if tag == 0x53797265 then 0x53797263  -- Syre: Syrc
    else if tag == 0x5379726A then 0x53797263  -- Syrj: Syrc
    else if tag == 0x5379726E then 0x53797263  -- Syrn: Syrc
    else tag

-- each byte lies where letters of its case do, in 0x40..0x60 or 0x60..0x80
abbrev pub looks_like_a_name : ℕ → Bool
looks_like_a_name tag = bit_and tag 0xE0E0E0E0 == 0x40606060

-- no script for the tag 0, and Unknown (Zzzz) for what doesn't look like a name
abbrev pub script_of_tag : ℕ → Option Script
script_of_tag tag =
    let script = main_script (in_standard_case tag) in
    if tag == 0 then None
    else if looks_like_a_name script then Some (record { 0 = record { 0 = script } })
    else Some (record { 0 = record { 0 = 0x5A7A7A7A } })

-- a script other than Common (Zyyy), Inherited (Zinh) and Unknown (Zzzz)
abbrev pub is_specific : Script → Bool
is_specific script = not (script.0.0 == 0x5A797979 || script.0.0 == 0x5A696E68 || script.0.0 == 0x5A7A7A7A)
