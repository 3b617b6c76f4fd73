-- What the table GDEF says of glyphs (OpenType, "GDEF: Glyph Definition Table").
use Rattle.std.specs.Prelude.{ℕ, List, Option, None, Bool, false, is_some, ◌+◌, ◌*◌, ◌%◌, ◌&&◌, nat_eq, nat_lt, if◌then◌else◌}
use Rattle.std.specs.Option.{option_map_or}
use Rattle.shape_font.specs.Bytes.{u16_of, fitting}
use Rattle.layout_tables.specs.Offsets.{offset32_of, header_offset_of}
use Rattle.layout_tables.specs.Coverage.{covers}
use Rattle.layout_tables.specs.Classes.{class_of}

-- Glyph Class Definition Table
abbrev pub has_glyph_classes : List ℕ → Bool
has_glyph_classes t = is_some (header_offset_of t 4)

abbrev pub glyph_class : List ℕ → ℕ → ℕ
glyph_class t glyph = option_map_or (λ start. class_of t start glyph) (header_offset_of t 4) 0

-- Mark Attachment Class Definition Table
abbrev pub mark_attachment_class : List ℕ → ℕ → ℕ
mark_attachment_class t glyph = option_map_or (λ start. class_of t start glyph) (header_offset_of t 10) 0

-- properties by the class: 2 of a base (class 1), 4 of a ligature (2), 8 of a mark (3) with its attachment class in the upper
-- byte; class 4, a component, has none
abbrev pub props_of : ℕ → ℕ → ℕ
props_of class attachment = if nat_eq class 1 then 2
    else (if nat_eq class 2 then 4
    else (if nat_eq class 3 then 8 + 256 * (attachment % 256) else 0))

abbrev pub glyph_props : List ℕ → ℕ → ℕ
glyph_props t glyph = props_of (glyph_class t glyph) (mark_attachment_class t glyph)

-- Mark Glyph Sets Table, since version 1.2
abbrev pub mark_sets : List ℕ → Option ℕ
mark_sets t = if nat_lt (u16_of t 2) 2 then None else header_offset_of t 12

-- format 1: Coverage tables by Offset32
abbrev pub mark_set_in : List ℕ → ℕ → ℕ → Option ℕ
mark_set_in t set start =
    if nat_eq (u16_of t start) 1 && nat_lt set (fitting t (u16_of t (start + 2)) (start + 4) 4)
    then offset32_of t start (start + 4 + 4 * set) else None

abbrev pub mark_set_in_covers : List ℕ → ℕ → ℕ → ℕ → Bool
mark_set_in_covers t set glyph start = option_map_or (λ coverage. covers t coverage glyph) (mark_set_in t set start) false

abbrev pub mark_set_covers : List ℕ → ℕ → ℕ → Bool
mark_set_covers t set glyph = option_map_or (mark_set_in_covers t set glyph) (mark_sets t) false
