-- glyphs of characters, by the tables of `cmap`; glyph 0 is none
use Rattle.std.specs.Prelude.{ℕ, List, Bool, true, false, Option, cond, ◌+◌, ◌-◌, ◌*◌, ◌/◌, ◌%◌, nat_lt, nat_eq, if◌then◌else◌, slice_index}
use Rattle.std.specs.Option.{option_map_or}
use Rattle.std.specs.declared.cmp.Ordering.{Ordering}
use Rattle.shape_font.specs.Bytes.{u16_of, u32_of, fitting}
use Rattle.shape_font.specs.FontPages.{place_in}
use Rattle.shape_font.specs.Search.{side_of, side_from_end, found_by}
use Rattle.shape_font.specs.declared.font_pages.FontPage.{FontPage}

-- format 0: a byte for each of 256 characters
abbrev pub glyph_0 : List ℕ → ℕ → ℕ
glyph_0 t c = if nat_lt c 256 then slice_index t (6 + c) else 0

-- format 4: whether a character is before segment `i` of `count`, after it or in it
abbrev pub side_of_segment : List ℕ → ℕ → ℕ → ℕ → Ordering
side_of_segment t count c i = side_from_end c (u16_of t (16 + 2 * count + 2 * i)) (u16_of t (14 + 2 * i))

-- the segment that holds the character, among those that the table has room for
abbrev pub segment_of : List ℕ → ℕ → ℕ → Option ℕ
segment_of t count c = found_by (side_of_segment t count c) (fitting t count 14 2)

-- what segment `i` of `count` says of a character that it holds
abbrev pub segment_glyph : List ℕ → ℕ → ℕ → ℕ → ℕ
segment_glyph t count c i =
    let start = u16_of t (16 + 2 * count + 2 * i) in
    let delta = u16_of t (16 + 4 * count + 2 * i) in
    let at = 16 + 6 * count + 2 * i in
    let range = u16_of t at in
    let glyph = u16_of t (at + range + 2 * (c - start)) in
    (if nat_eq range 0 then (c + delta) % 65536
    else (if nat_eq glyph 0 then 0 else (glyph + delta) % 65536))

abbrev pub glyph_of_segments : List ℕ → ℕ → ℕ → ℕ
glyph_of_segments t count c = option_map_or (segment_glyph t count c) (segment_of t count c) 0

abbrev pub glyph_4 : List ℕ → ℕ → ℕ
glyph_4 t c = glyph_of_segments t (u16_of t 6 / 2) c

-- formats 6 and 10: the glyphs of `count` characters in a row from `start` on are listed at `at`
abbrev pub listed_glyph : List ℕ → ℕ → ℕ → ℕ → ℕ → ℕ
listed_glyph t start count at c = if nat_lt c start then 0
    else (if nat_lt (c - start) count then u16_of t (at + 2 * (c - start)) else 0)

-- formats 12 and 13: how many groups the table has room for, at most as many as it states
abbrev pub groups_of : List ℕ → ℕ
groups_of t = fitting t (u32_of t 12) 16 12

-- whether a character is before group `i`, after it or in it
abbrev pub side_of_group : List ℕ → ℕ → ℕ → Ordering
side_of_group t c i = side_of c (u32_of t (16 + 12 * i)) (u32_of t (20 + 12 * i))

-- the group that holds the character
abbrev pub group_of : List ℕ → ℕ → Option ℕ
group_of t c = found_by (side_of_group t c) (groups_of t)

-- what group `i` says of a character that it holds: in format 12 its glyphs stand in a row, in format 13 there is one
-- for all; 32 bits hold the number
abbrev pub group_glyph : List ℕ → Bool → ℕ → ℕ → ℕ
group_glyph t one c i = (u32_of t (24 + 12 * i) + cond one 0 (c - u32_of t (16 + 12 * i))) % 4294967296

abbrev pub glyph_of_groups : List ℕ → Bool → ℕ → ℕ
glyph_of_groups t one c = option_map_or (group_glyph t one c) (group_of t c) 0

-- the glyph of a character, by the format of the table
abbrev pub cmap_glyph : List ℕ → ℕ → ℕ
cmap_glyph t c = let format = u16_of t 0 in
    (if nat_eq format 0 then glyph_0 t c
    else (if nat_eq format 4 then glyph_4 t c
    else (if nat_eq format 6 then listed_glyph t (u16_of t 6) (u16_of t 8) 10 c
    else (if nat_eq format 10 then listed_glyph t (u32_of t 12) (u32_of t 16) 20 c
    else (if nat_eq format 12 then glyph_of_groups t false c
    else (if nat_eq format 13 then glyph_of_groups t true c
    else 0))))))

-- a character without a glyph at its own number has the one at its code in the page
abbrev pub mapped_glyph : List ℕ → FontPage → ℕ → ℕ
mapped_glyph t page c = let glyph = cmap_glyph t c in
    (if nat_eq glyph 0 then option_map_or (cmap_glyph t) (place_in page c) 0 else glyph)
