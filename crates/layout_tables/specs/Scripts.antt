-- Scripts and their language systems (OpenType, "OpenType Layout Common Table Formats", Script List and Script Table), and
-- which of them HarfBuzz takes for a text.
use Rattle.std.specs.Prelude.{ℕ, List, [], ◌∷◌, Option, Some, None, is_some, ◌+◌, ◌*◌, if◌then◌else◌}
use Rattle.std.specs.Option.{option_and_then, option_or, option_map_or}
use Rattle.std.specs.declared.cmp.Ordering.{Ordering}
use Rattle.shape_font.specs.Bytes.{u16_of, u32_of, fitting}
use Rattle.shape_font.specs.Search.{side_of, found_by}
use Rattle.layout_tables.specs.Offsets.{offset16_of, header_offset_of}

-- the record with this tag, of those that follow the count at `start`: a tag and an Offset16 each, in order of their tags
abbrev pub side_of_tag : List ℕ → ℕ → ℕ → ℕ → Ordering
side_of_tag t start tag i = let there = u32_of t (start + 2 + 6 * i) in side_of tag there there

abbrev pub tagged : List ℕ → ℕ → ℕ → Option ℕ
tagged t start tag = found_by (side_of_tag t start tag) (fitting t (u16_of t start) (start + 2) 6)

-- the record of a script, and where its Script table stands
abbrev pub script_record : List ℕ → ℕ → Option ℕ
script_record t tag = option_and_then (λ list. tagged t list tag) (header_offset_of t 4)

abbrev pub script_at : List ℕ → ℕ → ℕ → Option ℕ
script_at t i list = offset16_of t list (list + 6 + 6 * i)

abbrev pub script_of : List ℕ → ℕ → Option ℕ
script_of t tag = option_and_then (λ i. option_and_then (script_at t i) (header_offset_of t 4)) (script_record t tag)

-- the first of these tags that has a record
abbrev pub first_script : List ℕ → List ℕ → Option ℕ
first_script t [] = None
first_script t (tag ∷ tags) = if is_some (script_record t tag) then Some tag else first_script t tags

-- if there is none, `DFLT`; then `dflt`, as some fonts spell it; then `latn`, where old fonts keep all that they have
abbrev pub chosen_script : List ℕ → List ℕ → Option ℕ
chosen_script t tags = option_or (first_script t tags) (first_script t (0x44464C54 ∷ 0x64666C74 ∷ 0x6C61746E ∷ []))

-- the record of a language in the Script table at `script`, and of the first of these languages that has one
abbrev pub lang_sys_record : List ℕ → ℕ → ℕ → Option ℕ
lang_sys_record t script tag = tagged t (script + 2) tag

abbrev pub first_lang_sys : List ℕ → ℕ → List ℕ → Option ℕ
first_lang_sys t script [] = None
first_lang_sys t script (tag ∷ tags) = option_or (lang_sys_record t script tag) (first_lang_sys t script tags)

-- where the LangSys table stands: of the first of these languages, else of `dflt`, else the default one of the script
abbrev pub lang_sys_of : List ℕ → List ℕ → ℕ → Option ℕ
lang_sys_of t tags script = option_map_or (λ i. offset16_of t script (script + 8 + 6 * i))
    (option_or (first_lang_sys t script tags) (lang_sys_record t script 0x64666C74)) (offset16_of t script script)

abbrev pub chosen_lang_sys : List ℕ → ℕ → List ℕ → Option ℕ
chosen_lang_sys t script_tag tags = option_and_then (lang_sys_of t tags) (script_of t script_tag)
