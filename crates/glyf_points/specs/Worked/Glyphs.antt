-- glyphs on bytes that were read by hand
use Rattle.std.specs.Prelude.{◌≡◌, ℕ, ℤ, pos, negsuc, List, [], ◌∷◌, Bool, true, false, Some, None, refl}
use Rattle.std.specs.Int.{int_wrap}
use Rattle.shape_common.specs.Wrapping.{◌+ʷ◌, ◌-ʷ◌}
use Rattle.font_bytes.specs.Bytes.{i8_of, i16_of}
use Rattle.glyf_points.specs.Axes.{across, upwards, next_value, step_size}
use Rattle.glyf_points.specs.Composite.{components_of}
use Rattle.glyf_points.specs.Flags.{flags_of, first, read}
use Rattle.glyf_points.specs.Simple.{points_of, said}
use Rattle.glyf_points.specs.declared.composite.Placement.TheVariants.{Moved, OnPoint}
use Rattle.glyf_points.specs.declared.composite.Matrix.{Matrix}
use Rattle.glyf_points.specs.declared.composite.Component.{Component}
use Rattle.glyf_points.specs.declared.simple.GlyphPoint.{GlyphPoint}

-- a flag alone, one for three points, one alone
abbrev pub some_flags : List ℕ
some_flags = 9 ∷ 0x01 ∷ 0x08 ∷ 2 ∷ 0x11 ∷ []

pub record WorkedFlags : Type 0 where
  pub one : flags_of some_flags 1 (first 1) ≡ Some (read (0x01 ∷ []) 2)
  pub repeated : flags_of some_flags 4 (first 1) ≡ Some (read (0x01 ∷ 0x08 ∷ 0x08 ∷ 0x08 ∷ []) 4)
  pub all : flags_of some_flags 5 (first 1) ≡ Some (read (0x01 ∷ 0x08 ∷ 0x08 ∷ 0x08 ∷ 0x11 ∷ []) 5)
  pub more_than_points : flags_of some_flags 2 (first 1) ≡ Some (read (0x01 ∷ 0x08 ∷ []) 4)
  pub none : flags_of some_flags 0 (first 1) ≡ Some (read [] 1)
  pub cut_off : flags_of some_flags 6 (first 1) ≡ None
  pub count_cut_off : flags_of (0x08 ∷ []) 1 (first 0) ≡ None

pub record WorkedSteps : Type 0 where
  pub byte_forwards : next_value (7 ∷ 9 ∷ []) 1 across 0x12 (pos 100) ≡ pos 109
  pub byte_backwards : next_value (7 ∷ 9 ∷ []) 1 across 0x02 (pos 100) ≡ pos 91
  pub same : next_value (7 ∷ 9 ∷ []) 1 across 0x10 (pos 100) ≡ pos 100
  pub word : next_value (255 ∷ 254 ∷ []) 0 across 0x00 (pos 100) ≡ pos 98
  pub other_axis : next_value (7 ∷ 9 ∷ []) 1 upwards 0x24 (pos 100) ≡ pos 109
  pub other_axis_same : next_value (7 ∷ 9 ∷ []) 1 upwards 0x22 (pos 100) ≡ pos 100
  pub byte_size : step_size across 0x12 ≡ 1
  pub no_size : step_size across 0x10 ≡ 0
  pub word_size : step_size across 0x24 ≡ 2
  pub size_upwards : step_size upwards 0x24 ≡ 1

-- two contours, of three and two points; an instruction of one byte
abbrev pub small_glyph : List ℕ
small_glyph = 0 ∷ 2 ∷ 0 ∷ 0 ∷ 0 ∷ 0 ∷ 0 ∷ 0 ∷ 0 ∷ 0 ∷ 0 ∷ 2 ∷ 0 ∷ 4 ∷ 0 ∷ 1 ∷ 170 ∷ 0x01 ∷ 0x3B ∷ 1 ∷ 0x26 ∷ 0x11
    ∷ 0 ∷ 100 ∷ 10 ∷ 20 ∷ 5 ∷ 255 ∷ 156 ∷ 7 ∷ 0 ∷ 3 ∷ []

abbrev pub at : ℤ → ℤ → Bool → Bool → GlyphPoint
at x y on ends = record { x = x; y = y; on = on; ends = ends }

pub record WorkedPoints : Type 0 where
  pub two_contours : points_of small_glyph ≡ Some (at (pos 100) (negsuc 99) true false ∷ at (pos 110) (negsuc 99) true false
      ∷ at (pos 130) (negsuc 99) true true ∷ at (pos 125) (negsuc 92) false false ∷ at (pos 125) (negsuc 89) true true ∷ [])
  -- without the last byte
  pub cut_off : points_of (0 ∷ 1 ∷ 0 ∷ 0 ∷ 0 ∷ 0 ∷ 0 ∷ 0 ∷ 0 ∷ 0 ∷ 0 ∷ 0 ∷ 0 ∷ 0 ∷ 0x01 ∷ 0 ∷ 1 ∷ 0 ∷ []) ≡ None
  pub whole : points_of (0 ∷ 1 ∷ 0 ∷ 0 ∷ 0 ∷ 0 ∷ 0 ∷ 0 ∷ 0 ∷ 0 ∷ 0 ∷ 0 ∷ 0 ∷ 0 ∷ 0x01 ∷ 0 ∷ 1 ∷ 0 ∷ 2 ∷ []) ≡ Some (at (pos 1) (pos 2) true true ∷ [])
  pub no_flags : points_of (0 ∷ 1 ∷ 0 ∷ 0 ∷ 0 ∷ 0 ∷ 0 ∷ 0 ∷ 0 ∷ 0 ∷ 0 ∷ 0 ∷ 0 ∷ 0 ∷ []) ≡ None
  pub empty : points_of [] ≡ Some []
  pub made_of_others : points_of (255 ∷ 255 ∷ 0 ∷ []) ≡ Some []
  pub said_of_two_contours : said small_glyph ≡ 7
  pub said_of_others : said (255 ∷ 255 ∷ 0 ∷ []) ≡ 0
  pub said_of_nothing : said [] ≡ 0

-- three components after the header: moved by words; placed by points, with a scale; moved by bytes, with four numbers
abbrev pub three_parts : List ℕ
three_parts = 255 ∷ 255 ∷ 0 ∷ 0 ∷ 0 ∷ 0 ∷ 0 ∷ 0 ∷ 0 ∷ 0 ∷ 0x02 ∷ 0x23 ∷ 0 ∷ 5 ∷ 1 ∷ 0 ∷ 255 ∷ 255
    ∷ 0 ∷ 0x28 ∷ 1 ∷ 0 ∷ 3 ∷ 4 ∷ 0x20 ∷ 0 ∷ 0x08 ∷ 0x82 ∷ 0 ∷ 7 ∷ 9 ∷ 254 ∷ 0x40 ∷ 0 ∷ 0 ∷ 1 ∷ 0 ∷ 2 ∷ 0xC0 ∷ 0 ∷ []

abbrev pub plain : Matrix
plain = record { xx = pos 16384; xy = pos 0; yx = pos 0; yy = pos 16384 }

abbrev pub first_part : Component
first_part = record { glyph = 5; placement = Moved (pos 256) (negsuc 0); matrix = plain; is_offset_scaled = false; has_metrics = true }

abbrev pub second_part : Component
second_part = record {
  glyph = 256;
  placement = OnPoint 3 4;
  matrix = record plain { xx = pos 8192; yy = pos 8192 };
  is_offset_scaled = false;
  has_metrics = false;
}

abbrev pub third_part : Component
third_part = record {
  glyph = 7;
  placement = Moved (pos 9) (negsuc 1);
  matrix = record { xx = pos 16384; xy = pos 1; yx = pos 2; yy = negsuc 16383 };
  is_offset_scaled = true;
  has_metrics = false;
}

pub record WorkedParts : Type 0 where
  pub three : components_of three_parts 256 ≡ first_part ∷ second_part ∷ third_part ∷ []
  -- the third one says that another follows
  pub cut_off : components_of (255 ∷ 255 ∷ 0 ∷ 0 ∷ 0 ∷ 0 ∷ 0 ∷ 0 ∷ 0 ∷ 0 ∷ 0x02 ∷ 0x23 ∷ 0 ∷ 5 ∷ 1 ∷ 0 ∷ 255 ∷ 255 ∷ 0 ∷ 0x28 ∷ []) 256 ≡ first_part ∷ []
  -- words of points, two scales; offsets that are scaled and aren't are not
  pub by_words : components_of (255 ∷ 255 ∷ 0 ∷ 0 ∷ 0 ∷ 0 ∷ 0 ∷ 0 ∷ 0 ∷ 0 ∷ 0x18 ∷ 0x41 ∷ 0 ∷ 5 ∷ 1 ∷ 0 ∷ 255 ∷ 255 ∷ 0x20 ∷ 0 ∷ 0x10 ∷ 0 ∷ []) 256
      ≡ record {
        glyph = 5;
        placement = OnPoint 256 65535;
        matrix = record plain { xx = pos 8192; yy = pos 4096 };
        is_offset_scaled = false;
        has_metrics = false;
      } ∷ []
  pub two_at_most : components_of three_parts 2 ≡ first_part ∷ second_part ∷ []
  pub none : components_of small_glyph 256 ≡ []

pub worked_flags : WorkedFlags
worked_flags = record { one = refl; repeated = refl; all = refl; more_than_points = refl; none = refl; cut_off = refl; count_cut_off = refl }

pub worked_steps : WorkedSteps
unfolding ◌+ʷ◌ ◌-ʷ◌ int_wrap i16_of
worked_steps = record {
  byte_forwards = refl;
  byte_backwards = refl;
  same = refl;
  word = refl;
  other_axis = refl;
  other_axis_same = refl;
  byte_size = refl;
  no_size = refl;
  word_size = refl;
  size_upwards = refl;
}

pub worked_points : WorkedPoints
unfolding ◌+ʷ◌ ◌-ʷ◌ int_wrap i16_of
worked_points = record {
  two_contours = refl;
  cut_off = refl;
  whole = refl;
  no_flags = refl;
  empty = refl;
  made_of_others = refl;
  said_of_two_contours = refl;
  said_of_others = refl;
  said_of_nothing = refl;
}

pub worked_parts : WorkedParts
unfolding i8_of i16_of
worked_parts = record { three = refl; cut_off = refl; by_words = refl; two_at_most = refl; none = refl }
