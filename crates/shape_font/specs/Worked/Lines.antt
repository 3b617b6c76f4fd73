-- Vertical lines, on tables that were read by hand.
use Rattle.std.specs.Prelude.{◌≡◌, ℕ, pos, negsuc, List, [], ◌∷◌, ◌++◌, false, replicate, refl}
use Rattle.shape_font.specs.Bytes.{i16_of}
use Rattle.shape_font.specs.Metrics.{listed_origin, typographic, ascender_of, descender_of, line_gap_of, half_down}
use Rattle.shape_font.specs.Worked.Glyphs.{words}

-- `VORG` that states so many records: origins at 880, except for glyph 3 at 900 and glyph 5 at -1
abbrev pub origins : ℕ → List ℕ
origins said = words (1 ∷ 0 ∷ 880 ∷ said ∷ 3 ∷ 900 ∷ 5 ∷ 65535 ∷ [])

-- glyph 5 before glyph 3, and glyph 3 twice, at 900 and at 901
abbrev pub out_of_order : List ℕ
out_of_order = words (1 ∷ 0 ∷ 880 ∷ 2 ∷ 5 ∷ 65535 ∷ 3 ∷ 900 ∷ [])

abbrev pub alike : List ℕ
alike = words (1 ∷ 0 ∷ 880 ∷ 3 ∷ 3 ∷ 900 ∷ 3 ∷ 901 ∷ 5 ∷ 902 ∷ [])

-- `hhea`: 800 up, 200 down, a gap of 90; `OS/2`: 700 up, 300 down, a gap of -1, with these selections
abbrev pub plain_line : List ℕ
plain_line = words (1 ∷ 0 ∷ 800 ∷ 65336 ∷ 90 ∷ [])

abbrev pub designed_line : ℕ → List ℕ
designed_line selections = replicate 62 0 ++ words (selections ∷ 0 ∷ 0 ∷ 700 ∷ 65236 ∷ 65535 ∷ [])

pub record WorkedLines : Type 0 where
  pub first_record : listed_origin (origins 2) 3 ≡ pos 900
  pub last_record : listed_origin (origins 2) 5 ≡ negsuc 0
  pub no_record : listed_origin (origins 2) 4 ≡ pos 880
  pub fewer_records : listed_origin (origins 1) 5 ≡ pos 880
  pub up : ascender_of [] plain_line ≡ 800
  pub down : descender_of [] plain_line ≡ 200
  pub up_as_designed : ascender_of (designed_line 128) plain_line ≡ 700
  pub down_as_designed : descender_of (designed_line 128) plain_line ≡ 300
  pub gap : line_gap_of [] plain_line ≡ pos 90
  pub gap_as_designed : line_gap_of (designed_line 128) plain_line ≡ negsuc 0
  pub no_gap : line_gap_of (designed_line 0) [] ≡ pos 0
  pub bit_7 : typographic (designed_line 0xFF7F) ≡ false
  pub up_with_any_sign : ascender_of [] (words (1 ∷ 0 ∷ 64736 ∷ [])) ≡ 800
  pub down_with_any_sign : descender_of [] (words (1 ∷ 0 ∷ 0 ∷ 200 ∷ [])) ≡ 200
  pub half_of_7 : half_down (pos 7) ≡ pos 3
  pub half_of_minus_1 : half_down (negsuc 0) ≡ negsuc 0
  pub half_of_minus_2 : half_down (negsuc 1) ≡ negsuc 0
  pub half_of_minus_3 : half_down (negsuc 2) ≡ negsuc 1
  pub no_record_past_the_end : listed_origin (origins 9) 0 ≡ pos 880
  pub count_of_16_bits : listed_origin (origins 256) 5 ≡ negsuc 0
  -- the first of two is asked first: 3 would stand before it, 5 is there
  pub missed_out_of_order : listed_origin out_of_order 3 ≡ pos 880
  pub found_out_of_order : listed_origin out_of_order 5 ≡ negsuc 0
  -- the middle one of three is asked first
  pub middle_of_those_alike : listed_origin alike 3 ≡ pos 901
  pub after_those_alike : listed_origin alike 5 ≡ pos 902
  pub before_all : listed_origin alike 2 ≡ pos 880
  -- 65536 more than glyph 3
  pub past_all_glyphs : listed_origin (origins 2) 65539 ≡ pos 880

pub worked_lines : WorkedLines
unfolding i16_of
worked_lines = record {
  first_record = refl;
  last_record = refl;
  no_record = refl;
  fewer_records = refl;
  up = refl;
  down = refl;
  up_as_designed = refl;
  down_as_designed = refl;
  gap = refl;
  gap_as_designed = refl;
  no_gap = refl;
  bit_7 = refl;
  up_with_any_sign = refl;
  down_with_any_sign = refl;
  half_of_7 = refl;
  half_of_minus_1 = refl;
  half_of_minus_2 = refl;
  half_of_minus_3 = refl;
  no_record_past_the_end = refl;
  count_of_16_bits = refl;
  missed_out_of_order = refl;
  found_out_of_order = refl;
  middle_of_those_alike = refl;
  after_those_alike = refl;
  before_all = refl;
  past_all_glyphs = refl;
}
