-- pages of 256 codes, of fonts from before Unicode (OpenType, `cmap`, platform 3, encoding 0; "Legacy Arabic fonts")
use Rattle.std.specs.Prelude.{ℕ, List, Option, Some, None, ◌+◌, ◌*◌, ◌/◌, nat_lt, nat_eq, if◌then◌else◌, slice_index}
use Rattle.std.specs.Option.{option_map}
use Rattle.std.specs.declared.cmp.Ordering.{Ordering}
use Rattle.shape_font.specs.Bytes.{u16_of, fitting}
use Rattle.shape_font.specs.Search.{side_of, found_by}
use Rattle.shape_font.specs.Subtables.{symbols_of}
use Rattle.shape_font.specs.declared.font_pages.TheConstants.{SIMPLIFIED, TRADITIONAL}
use Rattle.shape_font.specs.declared.font_pages.FontPage.{FontPage}
use Rattle.shape_font.specs.declared.font_pages.FontPage.TheVariants.{Unicode, Symbols, SimplifiedArabic, TraditionalArabic}

-- a page lists three bytes for each character that it has, its number and its code, in the order of numbers
abbrev pub side_of_listed : List ℕ → ℕ → ℕ → Ordering
side_of_listed page c i = let there = u16_of page (3 * i) in side_of c there there

-- the character's code, counted from the start of the page
abbrev pub listed_code : List ℕ → ℕ → ℕ → Option ℕ
listed_code page start c = option_map (λ i. start + slice_index page (3 * i + 2))
    (found_by (side_of_listed page c) (fitting page 65536 0 3))

-- where a character has its glyph in the private use area, if it has none at its own number
abbrev pub place_in : FontPage → ℕ → Option ℕ
place_in Unicode c = None
place_in Symbols c = if nat_lt c 256 then Some (0xF000 + c) else None
place_in SimplifiedArabic c = listed_code SIMPLIFIED.now 0xF100 c
place_in TraditionalArabic c = listed_code TRADITIONAL.now 0xF200 c

-- the page that version 0 of `OS/2` names in the upper byte of its `fsSelection`, that of symbols if it names none
abbrev pub page_named : List ℕ → FontPage
page_named os2 = let page = u16_of os2 62 / 256 in
    (if nat_lt 0 (u16_of os2 0) then Symbols
    else (if nat_eq page 0 then Symbols
    else (if nat_eq page 0xB2 then SimplifiedArabic
    else (if nat_eq page 0xB3 then TraditionalArabic
    else Unicode))))

-- tables of symbols have pages, others don't
abbrev pub font_page_of : List ℕ → List ℕ → FontPage
font_page_of cmap os2 = if symbols_of cmap then page_named os2 else Unicode
