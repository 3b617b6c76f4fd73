-- Positions that fit an i32 are exact: each difference wraps at most once.
use Rattle.std.proofs.Common.{ℤ, refl}
use Rattle.shape_common.specs.Wrapping.{◌-ʷ◌, -ʷ-exact}
use Rattle.shape_glyphs.specs.Advances.{glyph_of, IsExactDifference}
use Rattle.shape_glyphs.specs.Exact.{ExactAdvances, ExactMarkWidths}

exact_difference : (before lost : ℤ) → IsExactDifference before lost (before -ʷ lost)
exact_difference before lost fits = -ʷ-exact before lost fits

pub exact_advances : ExactAdvances
exact_advances = record {
  along = λ face item p. refl;
  down = λ face item p. refl;
  origin_right = λ face item p. exact_difference p.x_offset (face.h_origin (glyph_of item));
  origin_up = λ face item p. exact_difference p.y_offset (face.v_origin (glyph_of item));
}

pub exact_mark_widths : ExactMarkWidths
exact_mark_widths = record {
  no_width = λ adjust item p is. rw is refl;
  no_height = λ adjust item p is. rw is refl;
  moved_right = λ item p is. rw is (exact_difference p.x_offset p.x_advance);
  moved_up = λ item p is. rw is (exact_difference p.y_offset p.y_advance);
}
