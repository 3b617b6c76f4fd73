-- Tiles put side by side over their word.
use Rattle.std.specs.Prelude.{ℕ, zero, suc, pos, Bool, Option, Some, None, List, [], ◌∷◌, ◌++◌, if◌then◌else◌}
use Rattle.shape_common.specs.Face.{FaceMeaning}
use Rattle.shape_common.specs.Wrapping.{◌+ʷ◌, ◌-ʷ◌}
use Rattle.arabic_stretching.specs.Fitting.{is_tile_glyph, advance_of, fit_at}
use Rattle.arabic_stretching.specs.Tiles.{repeats}
use Rattle.arabic_stretching.specs.declared.copying.Pen.{Pen}
use Rattle.arabic_stretching.specs.declared.fitting.Fit.{Fit}
use Rattle.arabic_stretching.specs.declared.fitting.Glyph.{Glyph}

-- the pen after a copy
abbrev pub moved : Pen → Pen
moved p = record p { offset = if p.right_to_left then p.offset -ʷ p.by else p.offset +ʷ p.by }

abbrev pub moved_by : ℕ → Pen → Pen
moved_by zero p = p
moved_by (suc n) p = moved_by n (moved p)

-- a copy takes no room of its own; from right to left it ends at the pen
abbrev pub placed : Pen → Glyph → Glyph
placed p g = record g {
  position = record g.position { x_advance = pos 0; x_offset = if p.right_to_left then (moved p).offset else p.offset };
}

abbrev pub copies_of : Pen → Glyph → ℕ → List Glyph
copies_of p g zero = []
copies_of p g (suc n) = placed p g ∷ copies_of (moved p) g n

abbrev pub extra_copies : Fit → Glyph → ℕ
extra_copies fit g = if repeats g.info then fit.copies else 0

-- copies that overlap are nearer to one another
abbrev pub closer : Fit → Pen → Pen
closer fit p = record p { by = p.by -ʷ fit.overlap }

abbrev pub pen_at : FaceMeaning → Bool → Fit → Glyph → Pen
pen_at face right_to_left fit g = record { right_to_left = right_to_left; by = advance_of face g; offset = fit.offset }

-- a tile and its copies, each of which overlaps the one before it
abbrev pub tile_copies : Pen → Fit → Glyph → List Glyph
tile_copies p fit g = placed p g ∷ copies_of (closer fit (moved p)) g (extra_copies fit g)

abbrev pub pen_after : Pen → Fit → Glyph → Pen
pen_after p fit g = moved_by (extra_copies fit g) (closer fit (moved p))

-- tiles side by side are of one sign, which fills the width of the word after them
abbrev pub fit_or : FaceMeaning → Option Fit → List Glyph → Fit
fit_or face None gs = fit_at face gs
fit_or face (Some fit) gs = fit

abbrev pub fit_for : FaceMeaning → Option Fit → Glyph → List Glyph → Option Fit
fit_for face walk g gs = if is_tile_glyph g then Some (fit_or face walk gs) else None

-- what becomes of a glyph
abbrev pub next_glyphs : FaceMeaning → Bool → Option Fit → Glyph → List Glyph
next_glyphs face right_to_left None g = g ∷ []
next_glyphs face right_to_left (Some fit) g = tile_copies (pen_at face right_to_left fit g) fit g

-- where the tile after it begins
abbrev pub next_walk : FaceMeaning → Bool → Option Fit → Glyph → Option Fit
next_walk face right_to_left None g = None
next_walk face right_to_left (Some fit) g =
    Some (record fit { offset = (pen_after (pen_at face right_to_left fit g) fit g).offset })

abbrev pub stretched_from : FaceMeaning → Bool → Option Fit → List Glyph → List Glyph
stretched_from face right_to_left walk [] = []
stretched_from face right_to_left walk (g ∷ gs) = let fit = fit_for face walk g (g ∷ gs) in
    (next_glyphs face right_to_left fit g ++ stretched_from face right_to_left (next_walk face right_to_left fit g) gs)
