-- what one step over the points of a part does
use Rattle.std.proofs.Common.{◌≡◌, ℕ, ◌<◌, ◌≤◌, ◌+◌, List, [], ◌∷◌, ◌++◌, length, get_or, drop, refl, ap, ◌∙◌, append_assoc}
use Rattle.std.specs.Prelude.{map}
use Rattle.std.proofs.lemmas.List.{append-nil, at_drop_more, at_drop_all}
use Rattle.glyf_points.specs.declared.composite.Component.{Component}
use Rattle.glyf_points.specs.declared.simple.GlyphPoint.{GlyphPoint}
use Rattle.shape_font.specs.BoxesAt.{offset_of}
use Rattle.glyph_outlines.specs.Frames.{placed, placed_at}
use Rattle.glyph_outlines.specs.declared.frame.Frame.{Frame}
use Rattle.glyph_outlines.specs.declared.frame.OutlinePoint.{OutlinePoint}
use Rattle.glyph_outlines.specs.declared.varied.VariedPoint.{VariedPoint}

pub placed_step : (before : List OutlinePoint) (frame : Frame) (own : List GlyphPoint) (i : ℕ) (d : GlyphPoint) → i < length own
    → before ++ map (placed frame) (drop i own) ≡ (before ++ placed frame (get_or own i d) ∷ []) ++ map (placed frame) (drop (i + 1) own)
placed_step before frame own i d h =
    ap (λ rest. before ++ rest) (at_drop_more (map (placed frame)) own i d h) ∙ rw append_assoc refl

pub placed_end : (before : List OutlinePoint) (frame : Frame) (own : List GlyphPoint) (i : ℕ) → length own ≤ i
    → before ++ map (placed frame) (drop i own) ≡ before
placed_end before frame own i h = ap (λ rest. before ++ rest) (at_drop_all (map (placed frame)) own i h) ∙ append-nil before

pub varied_step : (before : List OutlinePoint) (frame : Frame) (own : List VariedPoint) (i : ℕ) (d : VariedPoint) → i < length own
    → before ++ map (placed_at frame) (drop i own) ≡ (before ++ placed_at frame (get_or own i d) ∷ []) ++ map (placed_at frame) (drop (i + 1) own)
varied_step before frame own i d h =
    ap (λ rest. before ++ rest) (at_drop_more (map (placed_at frame)) own i d h) ∙ rw append_assoc refl

pub varied_end : (before : List OutlinePoint) (frame : Frame) (own : List VariedPoint) (i : ℕ) → length own ≤ i
    → before ++ map (placed_at frame) (drop i own) ≡ before
varied_end before frame own i h = ap (λ rest. before ++ rest) (at_drop_all (map (placed_at frame)) own i h) ∙ append-nil before

-- and over components
pub offsets_step : (before : List GlyphPoint) (cs : List Component) (i : ℕ) (d : Component) → i < length cs
    → before ++ map offset_of (drop i cs) ≡ (before ++ offset_of (get_or cs i d) ∷ []) ++ map offset_of (drop (i + 1) cs)
offsets_step before cs i d h = ap (λ rest. before ++ rest) (at_drop_more (map offset_of) cs i d h) ∙ rw append_assoc refl

pub offsets_end : (before : List GlyphPoint) (cs : List Component) (i : ℕ) → length cs ≤ i → before ++ map offset_of (drop i cs) ≡ before
offsets_end before cs i h = ap (λ rest. before ++ rest) (at_drop_all (map offset_of) cs i h) ∙ append-nil before
