-- Numbers and tables, on bytes that were read by hand.
use Rattle.std.specs.Prelude.{◌≡◌, ℕ, pos, negsuc, List, [], ◌∷◌, ◌++◌, Some, None, true, false, codes, refl}
use Rattle.shape_font.specs.Bytes.{u16_of, u32_of, i16_of, fitting}
use Rattle.shape_font.specs.Directory.{font_start, slice_of, table_at, table_of, has_table, bytes_of}
use Rattle.shape_font.specs.Subtables.{subtable_of, chosen_subtable, symbols_of}
use Rattle.shape_font.specs.declared.tags.TheConstants.{HEAD, HHEA, MAXP, HMTX, VHEA, VMTX, VORG, OS2, CMAP, LOCA, GLYF, GDEF, GSUB, GPOS, MORX, KERX}
use Rattle.shape_font.specs.declared.tags.TheConstants.{TRAK, KERN, POST, HVAR, VVAR, GVAR, CFF, CFF2, SBIX, CBLC, CBDT}

pub record WorkedNumbers : Type 0 where
  pub two_bytes : u16_of (7 ∷ 1 ∷ 2 ∷ []) 1 ≡ 258
  pub half_past_the_end : u16_of (7 ∷ 1 ∷ []) 1 ≡ 256
  pub past_the_end : u16_of (7 ∷ 1 ∷ []) 2 ≡ 0
  pub four_bytes : u32_of (1 ∷ 2 ∷ 3 ∷ 4 ∷ []) 0 ≡ 16909060
  pub as_many_as_said : fitting (1 ∷ 2 ∷ 3 ∷ 4 ∷ 5 ∷ []) 1 1 2 ≡ 1
  pub whole_ones_alone : fitting (1 ∷ 2 ∷ 3 ∷ 4 ∷ []) 9 1 2 ≡ 1
  pub no_room : fitting (1 ∷ []) 9 4 2 ≡ 0
  pub greatest : i16_of (127 ∷ 255 ∷ []) 0 ≡ pos 32767
  pub least : i16_of (128 ∷ 0 ∷ []) 0 ≡ negsuc 32767
  pub minus_two : i16_of (255 ∷ 254 ∷ []) 0 ≡ negsuc 1

pub worked_numbers : WorkedNumbers
unfolding i16_of
worked_numbers = record {
  two_bytes = refl;
  half_past_the_end = refl;
  past_the_end = refl;
  four_bytes = refl;
  as_many_as_said = refl;
  whole_ones_alone = refl;
  no_room = refl;
  greatest = refl;
  least = refl;
  minus_two = refl;
}

-- a directory that states so many tables: "AA" of 2 bytes at 44, "BB" of 3 bytes at 45, each tag with two spaces
abbrev pub header : ℕ → List ℕ
header count = 0 ∷ 1 ∷ 0 ∷ 0 ∷ 0 ∷ count ∷ 0 ∷ 0 ∷ 0 ∷ 0 ∷ 0 ∷ 0 ∷ []

abbrev pub entry : ℕ → ℕ → ℕ → List ℕ
entry letter at len = letter ∷ letter ∷ 32 ∷ 32 ∷ 9 ∷ 9 ∷ 9 ∷ 9 ∷ 0 ∷ 0 ∷ 0 ∷ at ∷ 0 ∷ 0 ∷ 0 ∷ len ∷ []

abbrev pub two_tables : ℕ → List ℕ
two_tables count = header count ++ entry 65 44 2 ++ entry 66 45 3 ++ 11 ∷ 12 ∷ 13 ∷ 14 ∷ []

pub record WorkedDirectory : Type 0 where
  pub first : table_of (two_tables 2) 0 0x41412020 ≡ Some (11 ∷ 12 ∷ [])
  pub second : table_of (two_tables 2) 0 0x42422020 ≡ Some (12 ∷ 13 ∷ 14 ∷ [])
  pub past_the_count : table_of (two_tables 1) 0 0x42422020 ≡ None
  pub other_tag : table_of (two_tables 2) 0 0x43432020 ≡ None
  pub longer_than_the_file : table_of (header 1 ++ entry 65 28 3 ++ 11 ∷ 12 ∷ []) 0 0x41412020 ≡ None
  pub first_of_two : table_of (header 2 ++ entry 65 44 1 ++ entry 65 45 1 ++ 11 ∷ 12 ∷ []) 0 0x41412020 ≡ Some (11 ∷ [])
  pub other_font : table_of (two_tables 2) 1 0x41412020 ≡ None
  pub there : has_table (two_tables 2) 0 0x41412020 ≡ true
  pub not_there : has_table (two_tables 2) 0 0x43432020 ≡ false
  pub there_but_longer_than_the_file : has_table (header 1 ++ entry 65 28 3 ++ 11 ∷ 12 ∷ []) 0 0x41412020 ≡ false
  pub as_it_is : bytes_of (two_tables 2) 0 0x41412020 ≡ 11 ∷ 12 ∷ []
  pub empty : bytes_of (two_tables 2) 0 0x43432020 ≡ []
  pub whole : slice_of (11 ∷ 12 ∷ []) 0 2 ≡ Some (11 ∷ 12 ∷ [])
  pub cut_off : table_of (header 1 ++ 65 ∷ 65 ∷ 32 ∷ 32 ∷ []) 0 0x41412020 ≡ None
  pub offset_of_32_bits : table_of (header 1 ++ 65 ∷ 65 ∷ 32 ∷ 32 ∷ 9 ∷ 9 ∷ 9 ∷ 9 ∷ 0 ∷ 1 ∷ 0 ∷ 0 ∷ 0 ∷ 0 ∷ 0 ∷ 1 ∷ []) 0 0x41412020 ≡ None
  pub length_of_32_bits : table_of (header 1 ++ 65 ∷ 65 ∷ 32 ∷ 32 ∷ 9 ∷ 9 ∷ 9 ∷ 9 ∷ 0 ∷ 0 ∷ 0 ∷ 0 ∷ 0 ∷ 1 ∷ 0 ∷ 1 ∷ []) 0 0x41412020 ≡ None

pub worked_directory : WorkedDirectory
unfolding has_table bytes_of
worked_directory = record {
  first = refl;
  second = refl;
  past_the_count = refl;
  other_tag = refl;
  longer_than_the_file = refl;
  first_of_two = refl;
  other_font = refl;
  there = refl;
  not_there = refl;
  there_but_longer_than_the_file = refl;
  as_it_is = refl;
  empty = refl;
  whole = refl;
  cut_off = refl;
  offset_of_32_bits = refl;
  length_of_32_bits = refl;
}

-- a collection of two fonts, at 300 and 65536
abbrev pub two_fonts : List ℕ
two_fonts = 0x74 ∷ 0x74 ∷ 0x63 ∷ 0x66 ∷ 0 ∷ 1 ∷ 0 ∷ 0 ∷ 0 ∷ 0 ∷ 0 ∷ 2 ∷ 0 ∷ 0 ∷ 1 ∷ 44 ∷ 0 ∷ 1 ∷ 0 ∷ 0 ∷ 9 ∷ 9 ∷ 9 ∷ 9 ∷ []

pub record WorkedCollections : Type 0 where
  pub first : font_start two_fonts 0 ≡ Some 300
  pub second : font_start two_fonts 1 ≡ Some 65536
  pub past_the_last : font_start two_fonts 2 ≡ None
  pub one_font : font_start (two_tables 2) 0 ≡ Some 0
  pub one_font_only : font_start (two_tables 2) 1 ≡ None
  -- records are found from the font's beginning, tables from the file's
  pub after_a_byte : table_at (99 ∷ header 1 ++ entry 65 29 1 ++ 11 ∷ []) 1 0x41412020 ≡ Some (11 ∷ [])
  pub count_of_32_bits : font_start (0x74 ∷ 0x74 ∷ 0x63 ∷ 0x66 ∷ 0 ∷ 1 ∷ 0 ∷ 0 ∷ 0 ∷ 1 ∷ 0 ∷ 0 ∷ 0 ∷ 0 ∷ 1 ∷ 44 ∷ []) 0 ≡ Some 300

pub worked_collections : WorkedCollections
worked_collections = record {
  first = refl;
  second = refl;
  past_the_last = refl;
  one_font = refl;
  one_font_only = refl;
  after_a_byte = refl;
  count_of_32_bits = refl;
}

-- a table `cmap` of one subtable or two, each one byte long and at the end
abbrev pub one_subtable : ℕ → ℕ → List ℕ
one_subtable platform encoding = 0 ∷ 0 ∷ 0 ∷ 1 ∷ 0 ∷ platform ∷ 0 ∷ encoding ∷ 0 ∷ 0 ∷ 0 ∷ 12 ∷ 77 ∷ []

abbrev pub stated_subtables : ℕ → ℕ → ℕ → ℕ → ℕ → List ℕ
stated_subtables count platform encoding second_platform second_encoding =
    0 ∷ 0 ∷ 0 ∷ count ∷ 0 ∷ platform ∷ 0 ∷ encoding ∷ 0 ∷ 0 ∷ 0 ∷ 20
    ∷ 0 ∷ second_platform ∷ 0 ∷ second_encoding ∷ 0 ∷ 0 ∷ 0 ∷ 21 ∷ 77 ∷ 78 ∷ []

abbrev pub two_subtables : ℕ → ℕ → ℕ → ℕ → List ℕ
two_subtables = stated_subtables 2

pub record WorkedSubtables : Type 0 where
  pub found : subtable_of (one_subtable 3 1) 0x30001 ≡ Some (77 ∷ [])
  pub other : subtable_of (one_subtable 3 1) 0x3000A ≡ None
  pub symbols_first : chosen_subtable (two_subtables 3 10 3 0) ≡ 78 ∷ []
  pub whole_before_plane_0 : chosen_subtable (two_subtables 3 1 3 10) ≡ 78 ∷ []
  pub windows_before_unicode_whole : chosen_subtable (two_subtables 0 6 3 10) ≡ 78 ∷ []
  pub unicode_6_before_4 : chosen_subtable (two_subtables 0 4 0 6) ≡ 78 ∷ []
  pub unicode_4_before_windows_plane_0 : chosen_subtable (two_subtables 0 4 3 1) ≡ 77 ∷ 78 ∷ []
  pub windows_before_unicode : chosen_subtable (two_subtables 0 3 3 1) ≡ 78 ∷ []
  pub unicode_3_before_2 : chosen_subtable (two_subtables 0 2 0 3) ≡ 78 ∷ []
  pub unicode_2_before_1 : chosen_subtable (two_subtables 0 1 0 2) ≡ 78 ∷ []
  pub unicode_1_before_0 : chosen_subtable (two_subtables 0 0 0 1) ≡ 78 ∷ []
  pub unicode_0_last : chosen_subtable (one_subtable 0 0) ≡ 77 ∷ []
  pub variations_are_none : chosen_subtable (one_subtable 0 5) ≡ []
  pub macintosh_is_none : chosen_subtable (one_subtable 1 0) ≡ []
  pub offset_0 : subtable_of (0 ∷ 0 ∷ 0 ∷ 1 ∷ 0 ∷ 3 ∷ 0 ∷ 1 ∷ 0 ∷ 0 ∷ 0 ∷ 0 ∷ 77 ∷ []) 0x30001 ≡ None
  pub offset_past_the_end : subtable_of (0 ∷ 0 ∷ 0 ∷ 1 ∷ 0 ∷ 3 ∷ 0 ∷ 1 ∷ 0 ∷ 0 ∷ 0 ∷ 99 ∷ 77 ∷ []) 0x30001 ≡ Some []
  pub symbols : symbols_of (two_subtables 3 1 3 0) ≡ true
  pub no_symbols : symbols_of (two_subtables 3 1 3 10) ≡ false
  pub past_the_count : subtable_of (stated_subtables 1 3 1 3 10) 0x3000A ≡ None
  pub offset_of_32_bits : subtable_of (0 ∷ 0 ∷ 0 ∷ 1 ∷ 0 ∷ 3 ∷ 0 ∷ 1 ∷ 0 ∷ 1 ∷ 0 ∷ 12 ∷ 77 ∷ []) 0x30001 ≡ Some []
  pub first_of_two : chosen_subtable (two_subtables 3 1 3 1) ≡ 77 ∷ 78 ∷ []

pub worked_subtables : WorkedSubtables
worked_subtables = record {
  found = refl;
  other = refl;
  symbols_first = refl;
  whole_before_plane_0 = refl;
  windows_before_unicode_whole = refl;
  unicode_6_before_4 = refl;
  unicode_4_before_windows_plane_0 = refl;
  windows_before_unicode = refl;
  unicode_3_before_2 = refl;
  unicode_2_before_1 = refl;
  unicode_1_before_0 = refl;
  unicode_0_last = refl;
  variations_are_none = refl;
  macintosh_is_none = refl;
  offset_0 = refl;
  offset_past_the_end = refl;
  symbols = refl;
  no_symbols = refl;
  past_the_count = refl;
  offset_of_32_bits = refl;
  first_of_two = refl;
}

-- the tables by their tags
pub record WorkedTags : Type 0 where
  pub head : HEAD ≡ u32_of (codes "head") 0
  pub hhea : HHEA ≡ u32_of (codes "hhea") 0
  pub maxp : MAXP ≡ u32_of (codes "maxp") 0
  pub hmtx : HMTX ≡ u32_of (codes "hmtx") 0
  pub vhea : VHEA ≡ u32_of (codes "vhea") 0
  pub vmtx : VMTX ≡ u32_of (codes "vmtx") 0
  pub vorg : VORG ≡ u32_of (codes "VORG") 0
  pub os2 : OS2 ≡ u32_of (codes "OS/2") 0
  pub cmap : CMAP ≡ u32_of (codes "cmap") 0
  pub loca : LOCA ≡ u32_of (codes "loca") 0
  pub glyf : GLYF ≡ u32_of (codes "glyf") 0
  pub gsub : GSUB ≡ u32_of (codes "GSUB") 0
  pub gpos : GPOS ≡ u32_of (codes "GPOS") 0
  pub morx : MORX ≡ u32_of (codes "morx") 0
  pub kerx : KERX ≡ u32_of (codes "kerx") 0
  pub trak : TRAK ≡ u32_of (codes "trak") 0
  pub kern : KERN ≡ u32_of (codes "kern") 0
  pub post : POST ≡ u32_of (codes "post") 0
  pub gdef : GDEF ≡ u32_of (codes "GDEF") 0
  pub hvar : HVAR ≡ u32_of (codes "HVAR") 0
  pub vvar : VVAR ≡ u32_of (codes "VVAR") 0
  pub gvar : GVAR ≡ u32_of (codes "gvar") 0
  pub cff : CFF ≡ u32_of (codes "CFF ") 0
  pub cff2 : CFF2 ≡ u32_of (codes "CFF2") 0
  pub sbix : SBIX ≡ u32_of (codes "sbix") 0
  pub cblc : CBLC ≡ u32_of (codes "CBLC") 0
  pub cbdt : CBDT ≡ u32_of (codes "CBDT") 0

pub worked_tags : WorkedTags
worked_tags = record {
  head = refl;
  hhea = refl;
  maxp = refl;
  hmtx = refl;
  vhea = refl;
  vmtx = refl;
  vorg = refl;
  os2 = refl;
  cmap = refl;
  loca = refl;
  glyf = refl;
  gsub = refl;
  gpos = refl;
  morx = refl;
  kerx = refl;
  trak = refl;
  kern = refl;
  post = refl;
  gdef = refl;
  hvar = refl;
  vvar = refl;
  gvar = refl;
  cff = refl;
  cff2 = refl;
  sbix = refl;
  cblc = refl;
  cbdt = refl;
}
