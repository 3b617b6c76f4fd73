-- a font's parts, by the header and the Top DICT (Adobe Technical Note 5176, sections 6 to 9 and 16; OpenType, "CFF2")
use Rattle.std.specs.Prelude.{ℕ, List, Bool, true, false, Option, Some, None, is_some, ◌+◌, ◌*◌, ◌^◌, ◌&&◌, ◌||◌, nat_eq, nat_lt, nat_le, length}
use Rattle.std.specs.Prelude.{if◌then◌else◌, slice_index}
use Rattle.std.specs.Option.{option_and_then, option_map_or}
use Rattle.cff_tables.specs.Bytes.{word_of, number_of, part_of}
use Rattle.cff_tables.specs.Index.{index_end, object_of, object_count}
use Rattle.cff_tables.specs.Dict.{values_of}
use Rattle.cff_tables.specs.Charset.{name_number, string_of}
use Rattle.cff_tables.specs.Select.{fd_of}
use Rattle.cff_tables.specs.declared.dict.DictValues.{DictValues}
use Rattle.cff_tables.specs.declared.font.Layout.{Layout}
use Rattle.cff_tables.specs.declared.font.Parts.{Parts}

-- whether the table holds an INDEX whole
abbrev pub is_index : List ℕ → Bool → ℕ → Bool
is_index t wide at = is_some (index_end t wide at)

-- whether there are charstrings of so many glyphs
abbrev pub has_glyphs : List ℕ → Bool → ℕ → ℕ → Bool
has_glyphs t wide at count = nat_lt 0 at && is_index t wide at && nat_eq (object_count t wide at) count

-- the place of an INDEX that the table holds whole; 0 if it does not
abbrev pub index_or_none : List ℕ → Bool → ℕ → ℕ
index_or_none t wide at = if is_index t wide at then at else 0

-- the Private DICT
abbrev pub private_of : List ℕ → DictValues → Option DictValues
private_of t v = option_and_then values_of (part_of t v.private_at (v.private_at + v.private_len))

-- the place of the local subroutines, which is counted from the Private DICT; 0 if there are none
abbrev pub local_at : List ℕ → Bool → ℕ → ℕ → ℕ
local_at t wide private subrs = if nat_lt 0 subrs && nat_lt (private + subrs) (2 ^ 32) && is_index t wide (private + subrs)
    then private + subrs else 0

abbrev pub local_of : List ℕ → Bool → DictValues → ℕ
local_of t wide v = option_map_or (λ p. local_at t wide v.private_at p.subrs) (private_of t v) 0

-- what stands after the header: names, Top DICTs, strings and global subroutines, each an INDEX
abbrev pub parts_from : List ℕ → ℕ → Option Parts
parts_from t top = option_and_then (λ strings. option_and_then (λ global. Some (record { top = top; strings = strings; global = global }))
    (index_end t false strings)) (index_end t false top)

abbrev pub parts_of : List ℕ → Option Parts
parts_of t = option_and_then (parts_from t) (index_end t false (slice_index t 2))

-- charsets 0, 1 and 2 need not be there; another has one of three formats
abbrev pub is_charset : List ℕ → ℕ → Bool
is_charset t at = nat_le at 2 || (nat_lt at (length t) && nat_le (slice_index t at) 2)

-- the layout of a table `CFF ` whose Top DICT is read
abbrev pub laid_out : List ℕ → ℕ → Parts → DictValues → Option Layout
laid_out t count parts v = if has_glyphs t false v.char_strings count && is_charset t v.charset
    then (if v.cid then (if is_index t false v.fd_array then Some (record {
      wide = false;
      cid = true;
      glyph_count = count;
      char_strings = v.char_strings;
      global = index_or_none t false parts.global;
      local = 0;
      charset = v.charset;
      strings = parts.strings;
      fd_array = v.fd_array;
      fd_select = v.fd_select;
      vstore = 0;
    }) else None)
    else Some (record {
      wide = false;
      cid = false;
      glyph_count = count;
      char_strings = v.char_strings;
      global = index_or_none t false parts.global;
      local = local_of t false v;
      charset = v.charset;
      strings = parts.strings;
      fd_array = 0;
      fd_select = 0;
      vstore = 0;
    }))
    else None

-- the first Top DICT counts, as an OpenType font has one
abbrev pub cff_layout : List ℕ → ℕ → Option Layout
cff_layout t count = if nat_lt (length t) (2 ^ 32) && nat_eq (slice_index t 0) 1
    then option_and_then (λ parts. option_and_then (laid_out t count parts)
    (option_and_then values_of (object_of t false parts.top 0))) (parts_of t)
    else None

-- the layout of a table `CFF2` whose Top DICT, which ends at a place, is read; global subroutines follow it
abbrev pub wide_layout : List ℕ → ℕ → ℕ → DictValues → Option Layout
wide_layout t count end v = if has_glyphs t true v.char_strings count && is_index t true v.fd_array && is_index t true end
    then Some (record {
      wide = true;
      cid = false;
      glyph_count = count;
      char_strings = v.char_strings;
      global = end;
      local = 0;
      charset = 0;
      strings = 0;
      fd_array = v.fd_array;
      fd_select = v.fd_select;
      vstore = v.vstore;
    })
    else None

-- where the Top DICT of a table `CFF2` ends
abbrev pub top_end : List ℕ → ℕ
top_end t = slice_index t 2 + word_of t 3

abbrev pub cff2_layout : List ℕ → ℕ → Option Layout
cff2_layout t count = if nat_lt (length t) (2 ^ 32) && nat_eq (slice_index t 0) 2
    then option_and_then (wide_layout t count (top_end t)) (option_and_then values_of (part_of t (slice_index t 2) (top_end t)))
    else None

-- the Font DICT of a glyph
abbrev pub font_dict_of : List ℕ → Layout → ℕ → Option DictValues
font_dict_of t l glyph = option_and_then values_of (object_of t l.wide l.fd_array (fd_of t l.fd_select glyph))

-- the place of the local subroutines of a glyph; 0 if there are none
abbrev pub glyph_local : List ℕ → Layout → ℕ → ℕ
glyph_local t l glyph = if l.wide || l.cid then option_map_or (local_of t l.wide) (font_dict_of t l glyph) 0 else l.local

-- the variation data that a glyph's charstring begins with
abbrev pub glyph_variation : List ℕ → Layout → ℕ → ℕ
glyph_variation t l glyph = option_map_or (λ p. p.vsindex) (option_and_then (private_of t) (font_dict_of t l glyph)) 0

-- of how many regions variation data has deltas (OpenType, "Item variation store"; the store follows two bytes of its length)
abbrev pub region_count : List ℕ → ℕ → ℕ → ℕ
region_count t vstore i = let store = vstore + 2 in
    (if nat_eq vstore 0 then 0
    else (if nat_lt i (word_of t (store + 6)) then word_of t (store + number_of t (store + 8 + 4 * i) 4 + 4) else 0))

-- a glyph's name; a CID font and a table `CFF2` have none, and an empty one is none
abbrev pub name_of : List ℕ → Layout → ℕ → Option (List ℕ)
name_of t l glyph = if l.wide || l.cid then None
    else (if nat_lt glyph l.glyph_count
    then option_and_then (λ s. if nat_eq (length s) 0 then None else Some s) (string_of t l.strings (name_number t l.charset glyph))
    else None)
