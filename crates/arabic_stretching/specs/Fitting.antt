-- How tiles fill the width of their word.
use Rattle.std.specs.Prelude.{ℤ, pos, ◌&&◌, Bool, List, fold, take, drop, int_lt, int_div, unsigned_abs, if◌then◌else◌}
use Rattle.std.specs.List.{prefix_len}
use Rattle.shape_common.specs.Face.{FaceMeaning}
use Rattle.shape_common.specs.Wrapping.{◌+ʷ◌, ◌-ʷ◌, ◌*ʷ◌}
use Rattle.arabic_stretching.specs.Tiles.{is_tile, is_word, repeats}
use Rattle.arabic_stretching.specs.declared.fitting.Fit.{Fit}
use Rattle.arabic_stretching.specs.declared.fitting.Glyph.{Glyph}
use Rattle.arabic_stretching.specs.declared.fitting.Widths.{Widths}

abbrev pub is_tile_glyph : Glyph → Bool
is_tile_glyph g = is_tile g.info

abbrev pub is_word_glyph : Glyph → Bool
is_word_glyph g = is_word g.info

-- the advance of a glyph by the face
abbrev pub advance_of : FaceMeaning → Glyph → ℤ
advance_of face g = face.h_advance (record { 0 = g.info.glyph_id })

abbrev pub no_widths : Widths
no_widths = record { fixed = pos 0; repeating = pos 0; count = pos 0 }

abbrev pub with_tile : FaceMeaning → Widths → Glyph → Widths
with_tile face w g =
    if repeats g.info then record w { repeating = w.repeating +ʷ advance_of face g; count = w.count +ʷ pos 1 }
    else record w { fixed = w.fixed +ʷ advance_of face g }

-- how wide tiles are, those that repeat by themselves
abbrev pub widths_of : FaceMeaning → List Glyph → Widths
widths_of face tiles = fold (with_tile face) no_widths tiles

abbrev pub with_advance : ℤ → Glyph → ℤ
with_advance width g = width +ʷ g.position.x_advance

abbrev pub word_width : List Glyph → ℤ
word_width word = fold with_advance (pos 0) word

-- how often tiles can be repeated without passing what is left
abbrev pub whole_copies : ℤ → ℤ → ℤ
whole_copies left repeating =
    if int_lt (pos 0) repeating && int_lt repeating left then int_div left repeating -ʷ pos 1 else pos 0

-- what is left then
abbrev pub shortfall : ℤ → ℤ → ℤ → ℤ
shortfall left repeating copies = left -ʷ repeating *ʷ (copies +ʷ pos 1)

-- how far each of so many copies overlaps the one before it
abbrev pub overlap_of : ℤ → ℤ → ℤ
overlap_of excess copies = if int_lt (pos 0) copies then int_div excess copies else pos 0

-- copies that don't overlap: the first tile is moved by half of what the fixed ones leave
abbrev pub apart : ℤ → ℤ → Fit
apart left copies = record { copies = unsigned_abs copies; overlap = pos 0; offset = int_div left (pos 2) }

-- if they are one more than go in whole, they overlap and fill the word
abbrev pub squeezed : ℤ → Widths → ℤ → Fit
squeezed left w copies = let excess = w.repeating *ʷ (copies +ʷ pos 1) -ʷ left in
    if int_lt (pos 0) excess then record {
      copies = unsigned_abs copies;
      overlap = overlap_of excess (copies *ʷ w.count);
      offset = pos 0;
    }
    else apart left copies

-- what the fixed tiles leave is filled by the repeating ones
unfoldable pub fit_by : ℤ → Widths → Fit
fit_by left w = let copies = whole_copies left w.repeating in
    (if int_lt (pos 0) (shortfall left w.repeating copies) && int_lt (pos 0) w.count
    then squeezed left w (copies +ʷ pos 1) else apart left copies)

-- how wide the word at the beginning of a list is
abbrev pub word_at : List Glyph → ℤ
word_at gs = word_width (take (prefix_len is_word_glyph gs) gs)

-- how tiles fill the width of the word at the beginning of the rest
unfoldable pub fit_over : FaceMeaning → List Glyph → List Glyph → Fit
fit_over face tiles rest = let w = widths_of face tiles in fit_by (word_at rest -ʷ w.fixed) w

-- how the tiles at the beginning of a list fill the width of the word after them
abbrev pub fit_at : FaceMeaning → List Glyph → Fit
fit_at face gs = let tiles = prefix_len is_tile_glyph gs in fit_over face (take tiles gs) (drop tiles gs)
