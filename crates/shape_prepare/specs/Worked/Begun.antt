-- What a buffer of an earlier use begins with, worked out by hand.
use Rattle.std.specs.Prelude.{◌≡◌, [], ◌∷◌, refl, pos}
use Rattle.shape_items.specs.Buffer.{Buffer, new_buffer}
use Rattle.shape_items.specs.Items.{new_item}
use Rattle.shape_common.specs.Positions.{zero_position}
use Rattle.shape_prepare.specs.Begun.{begun}
use Rattle.shape_prepare.specs.Worked.Unicode.{masks}

-- mask 5, and a glyph that was placed
abbrev pub used : Buffer
used = record new_buffer {
  items = record (new_item 0x61 0) { mask = 5 } ∷ [];
  positions = record zero_position { x_advance = pos 9; y_offset = pos 8 } ∷ [];
}

pub record WorkedBegun : Type 0 where
  pub masks_anew : masks (begun 8 used) ≡ 8 ∷ []
  pub positions_anew : (begun 8 used).positions ≡ zero_position ∷ []

pub worked_begun : WorkedBegun
unfolding begun
worked_begun = record { masks_anew = refl; positions_anew = refl }
