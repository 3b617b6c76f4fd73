-- OpenType's tags of a language of BCP 47 ("Language system tags" of the OpenType specification)
use Rattle.std.specs.Prelude.{ℕ, ◌+◌, ◌*◌, ◌==◌, ◌&&◌, ◌||◌, nat_eq, nat_le, Bool, true, false, not, Option, Some, None, List, [], ◌∷◌, ◌++◌, length}
use Rattle.std.specs.Prelude.{take, fold, if◌then◌else◌, slice_index, codes}
use Rattle.std.specs.List.{starts_with}
use Rattle.std.specs.Option.{option_map, option_and_then, unwrap_or}
use Rattle.std.specs.Int.RustNames.{bit_and}
use Rattle.shape_common.specs.declared.text_types.hb_tag_t.{hb_tag_t}
use Rattle.shape_common.specs.declared.text_types.Script.{Script}
use Rattle.opentype_tags.specs.Script.{tag, tags_of_script}
use Rattle.opentype_tags.specs.Subtags.{first_subtag, after_first, registered_subtags, has_subtag, begins_with, is_letter}
use Rattle.opentype_tags.specs.PrivateUse.{private_tag}
use Rattle.opentype_tags.specs.Rows.{rows_of}

abbrev pub private_script_tag : Option (List ℕ) → Option ℕ
private_script_tag None = None
private_script_tag (Some name) = private_tag true (codes "-hbsc") name

abbrev pub private_language_tag : List ℕ → Option ℕ
private_language_tag name = private_tag false (codes "-hbot") name

abbrev pub one_or : Option ℕ → List hb_tag_t → List hb_tag_t
one_or None others = others
one_or (Some n) others = tag n ∷ []

-- the language by its name
abbrev pub script_tags : Option Script → Option (List ℕ) → List hb_tag_t
script_tags script language = one_or (private_script_tag language) (tags_of_script script)

-- a variant or a script that has a tag of its own in whatever language
abbrev pub variant_tag : List ℕ → Option ℕ
variant_tag name =
    if has_subtag name (codes "-fonnapa") then Some 0x41505048  -- APPH
    else if has_subtag name (codes "-polyton") then Some 0x50475220  -- PGR
    else if has_subtag name (codes "-arevmda") then Some 0x48594520  -- HYE
    else if has_subtag name (codes "-provenc") then Some 0x50524F20  -- PRO
    else if has_subtag name (codes "-fonipa") then Some 0x49505048  -- IPPH
    else if has_subtag name (codes "-geok") then Some 0x4B474520  -- KGE
    else if has_subtag name (codes "-syre") then Some 0x53595245  -- SYRE
    else if has_subtag name (codes "-syrj") then Some 0x5359524A  -- SYRJ
    else if has_subtag name (codes "-syrn") then Some 0x5359524E  -- SYRN
    else None

abbrev pub is_name : List ℕ → List ℕ → Bool
is_name name whole = nat_eq (length name) (length whole) && starts_with nat_eq name whole

-- names that are registered as a whole
abbrev pub tags_of_whole : List ℕ → Option (List hb_tag_t)
tags_of_whole name =
    if is_name name (codes "art-lojban") then Some (tag 0x4A424F20 ∷ [])  -- JBO
    else if is_name name (codes "i-navajo") then Some (tag 0x4E415620 ∷ tag 0x41544820 ∷ [])  -- NAV, ATH
    else if is_name name (codes "i-hak") then Some (tag 0x5A485320 ∷ [])  -- ZHS
    else if is_name name (codes "i-lux") then Some (tag 0x4C545A20 ∷ [])  -- LTZ
    else if is_name name (codes "no-bok") then Some (tag 0x4E4F5220 ∷ [])  -- NOR
    else if is_name name (codes "no-nyn") then Some (tag 0x4E594E20 ∷ [])  -- NYN
    else if is_name name (codes "zh-min-nan") then Some (tag 0x5A485320 ∷ [])  -- ZHS
    else if is_name name (codes "zh-min") then Some (tag 0x5A485320 ∷ [])  -- ZHS
    else None

-- a subtag of two or three bytes as one number, filled up with spaces; 0 for others
abbrev pub subtag_key : List ℕ → ℕ
subtag_key subtag =
    if length subtag == 2 then slice_index subtag 0 * 0x1000000 + slice_index subtag 1 * 0x10000 + 0x2020
    else if length subtag == 3 then
    slice_index subtag 0 * 0x1000000 + slice_index subtag 1 * 0x10000 + slice_index subtag 2 * 0x100 + 0x20
    else 0

-- the Chinese languages whose writing depends on the script or the place
abbrev pub is_chinese : ℕ → Bool
is_chinese key =
    key == 0x7A682020  -- zh
    || key == 0x63646F20  -- cdo
    || key == 0x636A7920  -- cjy
    || key == 0x636D6E20  -- cmn
    || key == 0x636E7020  -- cnp
    || key == 0x63707820  -- cpx
    || key == 0x63737020  -- csp
    || key == 0x637A6820  -- czh
    || key == 0x637A6F20  -- czo
    || key == 0x67616E20  -- gan
    || key == 0x68616B20  -- hak
    || key == 0x68736E20  -- hsn
    || key == 0x6D6E7020  -- mnp
    || key == 0x6E616E20  -- nan
    || key == 0x77757520  -- wuu

-- Chinese by script and place: traditional of Hong Kong (ZHH) and Macao (ZHTM), simplified (ZHS), traditional (ZHT)
abbrev pub chinese_tags : List ℕ → List ℕ → Option (List hb_tag_t)
chinese_tags name after =
    if begins_with after (codes "hant-hk") then Some (tag 0x5A484820 ∷ [])
    else if begins_with after (codes "hant-mo") then Some (tag 0x5A48544D ∷ tag 0x5A484820 ∷ [])
    else if begins_with after (codes "hans") then Some (tag 0x5A485320 ∷ [])
    else if begins_with after (codes "hant") then Some (tag 0x5A485420 ∷ [])
    else if has_subtag name (codes "-hk") then Some (tag 0x5A484820 ∷ [])
    else if has_subtag name (codes "-mo") then Some (tag 0x5A48544D ∷ tag 0x5A484820 ∷ [])
    else if has_subtag name (codes "-tw") then Some (tag 0x5A485420 ∷ [])
    else None

-- other languages that a script or a place gives another tag: lzh and yue (ZHS), ga (IRT), mnw (MONT), ro (MOL, ROM)
abbrev pub placed_tags : ℕ → List ℕ → List ℕ → Option (List hb_tag_t)
placed_tags key name after =
    if (key == 0x6C7A6820 || key == 0x79756520) && begins_with after (codes "hans") then Some (tag 0x5A485320 ∷ [])
    else if key == 0x67612020 && begins_with after (codes "latg") then Some (tag 0x49525420 ∷ [])
    else if key == 0x6D6E7720 && has_subtag name (codes "-th") then Some (tag 0x4D4F4E54 ∷ [])
    else if key == 0x726F2020 && has_subtag name (codes "-md") then Some (tag 0x4D4F4C20 ∷ tag 0x524F4D20 ∷ [])
    else None

abbrev pub regional_tags : List ℕ → Option (List hb_tag_t)
regional_tags name =
    let key = subtag_key (first_subtag name) in
    if is_chinese key then chinese_tags name (after_first name) else placed_tags key name (after_first name)

-- a row's tag after those before, of its language; 0 is no tag
abbrev pub with_tag : List hb_tag_t → ℕ → List hb_tag_t
with_tag tags n = if n == 0 then tags else take 3 (tags ++ tag n ∷ [])

abbrev pub with_row : ℕ → Option (List hb_tag_t) → ℕ × ℕ → Option (List hb_tag_t)
with_row key found row = if row.0 == key then Some (with_tag (unwrap_or found []) row.1) else found

-- what the rows of a subtag say; none if it has no row
abbrev pub row_tags : List ℕ → Option (List hb_tag_t)
row_tags subtag = fold (with_row (subtag_key subtag)) None (rows_of (slice_index subtag 0))

-- a second subtag of three letters names the language more closely (RFC 5646, 2.2.2)
abbrev pub has_extended : List ℕ → Bool
has_extended name =
    nat_le 6 (length name) && nat_eq (length (first_subtag (after_first name))) 3
    && is_letter (slice_index (after_first name) 0)

-- without a row, three letters are taken for the tag
abbrev pub capital_tag : List ℕ → List hb_tag_t
capital_tag subtag = if length subtag == 3 then tag (bit_and (subtag_key subtag) 0xDFDFDFFF) ∷ [] else []

abbrev pub listed_tags : List ℕ → List hb_tag_t
listed_tags name =
    if has_extended name then unwrap_or (row_tags (first_subtag (after_first name))) []
    else unwrap_or (row_tags (first_subtag name)) (capital_tag (first_subtag name))

abbrev pub long_variant_tag : List ℕ → Option ℕ
long_variant_tag name = if nat_le 7 (length name) then variant_tag name else None

-- by a variant, as a whole, by script and place, by the rows
abbrev pub registered_tags : List ℕ → List ℕ → List hb_tag_t
registered_tags name subtags =
    one_or (long_variant_tag subtags)
    (unwrap_or (tags_of_whole name) (unwrap_or (regional_tags subtags) (listed_tags subtags)))

abbrev pub name_tags : List ℕ → List hb_tag_t
name_tags name = one_or (private_language_tag name) (registered_tags name (registered_subtags name))

abbrev pub language_tags : Option (List ℕ) → List hb_tag_t
language_tags None = []
language_tags (Some name) = name_tags name
