-- What the standard says of inferred deltas (OpenType, "gvar", "Inferred deltas for un-referenced point numbers"), of the definitions.
use Rattle.std.specs.Prelude.{◌≡◌, ℕ, List, Bool, true, false, None, ◌+◌, refl}
use Rattle.std.specs.Float.{Float}
use lib.Ieee.{eq, lt}
use Rattle.font_variations.specs.Tents.{nothing}
use Rattle.glyf_points.specs.declared.simple.GlyphPoint.{GlyphPoint}
use Rattle.glyph_variations.specs.Inferred.{inferred, lower, higher, between, last_touched, size_of, spread, spread_step, listed_at}
use Rattle.glyph_variations.specs.declared.inferred.Listed.{Listed}
use Rattle.glyph_variations.specs.declared.inferred.Neighbor.{Neighbor}
use Rattle.glyph_variations.specs.declared.inferred.Contour.{Contour}
use Rattle.glyph_variations.specs.declared.sums.Moving.{Moving}

pub record InfersDeltas : Type 0 where
  -- where both neighbours stand at one place: the delta that both have, else 0. So one touched point, which is next to all others on both
  -- sides, moves its whole contour
  pub same_delta : (place : Float) (a b : Neighbor) → eq a.place b.place ≡ true → eq a.delta b.delta ≡ true → inferred place a b ≡ a.delta
  pub other_delta : (place : Float) (a b : Neighbor) → eq a.place b.place ≡ true → eq a.delta b.delta ≡ false → inferred place a b ≡ nothing
  -- not between the two: as the nearer one moves
  pub below : (place : Float) (a b : Neighbor) → eq a.place b.place ≡ false → lt (lower a b).place place ≡ false
      → inferred place a b ≡ (lower a b).delta
  pub above : (place : Float) (a b : Neighbor) → eq a.place b.place ≡ false → lt (lower a b).place place ≡ true
      → lt place (higher a b).place ≡ false → inferred place a b ≡ (higher a b).delta
  -- between them: in proportion
  pub in_proportion : (place : Float) (a b : Neighbor) → eq a.place b.place ≡ false → lt (lower a b).place place ≡ true
      → lt place (higher a b).place ≡ true → inferred place a b ≡ between place a b
  -- a contour of which no point is listed stays
  pub no_point : (points : List GlyphPoint) (vertical : Bool) (c : Contour) (xs : List Listed) (ms : List Moving)
      → last_touched xs c.start (size_of c) ≡ None → spread points vertical c xs ms ≡ ms
  pub touched_points_stay : (points : List GlyphPoint) (vertical : Bool) (c : Contour) (xs : List Listed) (k : ℕ) (ms : List Moving)
      → (listed_at xs (c.start + k)).touched ≡ true → spread_step points vertical c xs k ms ≡ ms

pub infers_deltas : InfersDeltas
unfolding inferred spread
infers_deltas = record {
  same_delta = λ place a b e f. rw (e, f) refl;
  other_delta = λ place a b e f. rw (e, f) refl;
  below = λ place a b e f. rw (e, f) refl;
  above = λ place a b e f g. rw (e, f, g) refl;
  in_proportion = λ place a b e f g. rw (e, f, g) refl;
  no_point = λ points vertical c xs ms e. rw e refl;
  touched_points_stay = λ points vertical c xs k ms e. rw e refl;
}
