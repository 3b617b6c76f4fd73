-- Pages of old fonts and fonts in resource forks, on bytes that were read by hand.
use Rattle.std.specs.Prelude.{◌≡◌, ℕ, List, [], ◌∷◌, ◌++◌, Some, None, true, false, replicate, refl}
use Rattle.shape_font.specs.Cmap.{mapped_glyph}
use Rattle.shape_font.specs.Directory.{table_of}
use Rattle.shape_font.specs.FontPages.{place_in, page_named, font_page_of}
use Rattle.shape_font.specs.ResourceFork.{is_fork, types_at, font_type_in, start_in, font_of}
use Rattle.shape_font.specs.Worked.Glyphs.{words}
use Rattle.shape_font.specs.Worked.Tables.{two_subtables}
use Rattle.shape_font.specs.declared.font_pages.FontPage.TheVariants.{Unicode, Symbols, SimplifiedArabic, TraditionalArabic}

-- format 6 with the glyphs 8 and 9 from a character on
abbrev pub two_from : ℕ → List ℕ
two_from start = words (6 ∷ 14 ∷ 0 ∷ start ∷ 2 ∷ 8 ∷ 9 ∷ [])

-- `OS/2` of a version, with this upper byte of `fsSelection`
abbrev pub os2 : ℕ → ℕ → List ℕ
os2 version page = 0 ∷ version ∷ replicate 60 0 ++ page ∷ 0x40 ∷ []

pub record WorkedFontPages : Type 0 where
  -- U+0628 is at code 4A of the one page and at 4C of the other
  pub simplified : mapped_glyph (two_from 0xF149) SimplifiedArabic 0x628 ≡ 9
  pub traditional : mapped_glyph (two_from 0xF24C) TraditionalArabic 0x628 ≡ 8
  pub other_page : mapped_glyph (two_from 0xF149) TraditionalArabic 0x628 ≡ 0
  pub own_number_first : mapped_glyph (two_from 0x628) SimplifiedArabic 0x628 ≡ 8
  pub no_page : place_in Unicode 0x41 ≡ None
  pub last_symbol : place_in Symbols 0xFF ≡ Some 0xF0FF
  pub past_the_symbols : place_in Symbols 0x100 ≡ None
  pub first_listed : place_in SimplifiedArabic 0x20 ≡ Some 0xF120
  pub last_listed : place_in SimplifiedArabic 0xFEFC ≡ Some 0xF1BC
  pub past_the_last : place_in SimplifiedArabic 0xFEFD ≡ None
  pub not_listed : place_in SimplifiedArabic 0x41 ≡ None
  pub code_0 : place_in SimplifiedArabic 0x63B ≡ Some 0xF100
  pub ligature : place_in TraditionalArabic 0xFC08 ≡ Some 0xF202
  pub no_ligature : place_in SimplifiedArabic 0xFC08 ≡ None
  pub last_of_the_other : place_in TraditionalArabic 0xFEFC ≡ Some 0xF2DD
  pub names_simplified : page_named (os2 0 0xB2) ≡ SimplifiedArabic
  pub names_traditional : page_named (os2 0 0xB3) ≡ TraditionalArabic
  pub names_none : page_named (os2 0 0) ≡ Symbols
  pub names_hebrew : page_named (os2 0 0xB1) ≡ Unicode
  pub later_versions_name_none : page_named (os2 1 0xB2) ≡ Symbols
  pub no_table : page_named [] ≡ Symbols
  pub of_symbols : font_page_of (two_subtables 3 1 3 0) (os2 0 0xB2) ≡ SimplifiedArabic
  pub not_of_symbols : font_page_of (two_subtables 3 1 3 10) (os2 0 0xB2) ≡ Unicode

pub worked_font_pages : WorkedFontPages
worked_font_pages = record {
  simplified = refl;
  traditional = refl;
  other_page = refl;
  own_number_first = refl;
  no_page = refl;
  last_symbol = refl;
  past_the_symbols = refl;
  first_listed = refl;
  last_listed = refl;
  past_the_last = refl;
  not_listed = refl;
  code_0 = refl;
  ligature = refl;
  no_ligature = refl;
  last_of_the_other = refl;
  names_simplified = refl;
  names_traditional = refl;
  names_none = refl;
  names_hebrew = refl;
  later_versions_name_none = refl;
  no_table = refl;
  of_symbols = refl;
  not_of_symbols = refl;
}

-- a resource fork with its map at 320: so many types and one more, the first of them `TEXT` and the second with this last letter
-- after `sfn`; its two resources begin at 0 and 20 of the data, and their records 18 bytes after the list of types, which begins 28
-- bytes after the map. The second is a font of one table `AA  ` of two bytes
abbrev pub fork_of : ℕ → ℕ → List ℕ
fork_of types letter = 0 ∷ 0 ∷ 1 ∷ 0 ∷ 0 ∷ 0 ∷ 1 ∷ 64 ∷ replicate 248 0
    ++ 0 ∷ 0 ∷ 0 ∷ 16 ∷ replicate 16 9
    ++ 0 ∷ 0 ∷ 0 ∷ 30 ∷ 0 ∷ 1 ∷ 0 ∷ 0 ∷ 0 ∷ 1 ∷ replicate 6 0
    ++ 65 ∷ 65 ∷ 32 ∷ 32 ∷ 0 ∷ 0 ∷ 0 ∷ 0 ∷ 0 ∷ 0 ∷ 0 ∷ 28 ∷ 0 ∷ 0 ∷ 0 ∷ 2 ∷ 7 ∷ 8 ∷ replicate 34 0
    ++ 0 ∷ 28 ∷ 0 ∷ 0
    ∷ 0 ∷ types ∷ 0x54 ∷ 0x45 ∷ 0x58 ∷ 0x54 ∷ 0 ∷ 0 ∷ 0 ∷ 0 ∷ 0x73 ∷ 0x66 ∷ 0x6E ∷ letter ∷ 0 ∷ 1 ∷ 0 ∷ 18
    ∷ 0 ∷ 1 ∷ 0xFF ∷ 0xFF ∷ 0 ∷ 0 ∷ 0 ∷ 0 ∷ 0 ∷ 0 ∷ 0 ∷ 0
    ∷ 0 ∷ 2 ∷ 0xFF ∷ 0xFF ∷ 0 ∷ 0 ∷ 0 ∷ 20 ∷ 0 ∷ 0 ∷ 0 ∷ 0 ∷ []

pub record WorkedForks : Type 0 where
  pub fork : is_fork (fork_of 1 0x74) ≡ true
  pub no_fork : is_fork (0 ∷ 1 ∷ 0 ∷ 0 ∷ []) ≡ false
  pub types : types_at (fork_of 1 0x74) ≡ 348
  pub first : start_in (fork_of 1 0x74) 348 358 0 ≡ Some 260
  pub second : start_in (fork_of 1 0x74) 348 358 1 ≡ Some 280
  pub past_the_last : start_in (fork_of 1 0x74) 348 358 2 ≡ None
  -- places in the font are counted from its beginning
  pub table : table_of (fork_of 1 0x74) 1 0x41412020 ≡ Some (7 ∷ 8 ∷ [])
  pub no_such_font : font_of (fork_of 1 0x74) 2 ≡ []
  pub other_type : font_of (fork_of 1 0x75) 1 ≡ []
  pub past_the_types : font_of (fork_of 0 0x74) 1 ≡ []

pub worked_forks : WorkedForks
unfolding font_type_in
worked_forks = record {
  fork = refl;
  no_fork = refl;
  types = refl;
  first = refl;
  second = refl;
  past_the_last = refl;
  table = refl;
  no_such_font = refl;
  other_type = refl;
  past_the_types = refl;
}
