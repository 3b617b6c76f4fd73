-- Where a text may be cut: between two clusters, by a flag of the greater one.
use Rattle.std.specs.Prelude.{◌≡◌, ◌≢◌, ℕ, zero, suc, ◌-◌, ◌<◌, max, Bool, true, List, [], ◌∷◌, length}
use Rattle.shape_lines.specs.TextOrder.{Glyph}

-- the cluster of the glyph at a place, 0 past the end
abbrev pub cluster_at : List Glyph → ℕ → ℕ
cluster_at [] place = 0
cluster_at (glyph ∷ glyphs) zero = glyph.cluster
cluster_at (glyph ∷ glyphs) (suc place) = cluster_at glyphs place

-- whether the glyph at a place lacks UNSAFE_TO_BREAK
abbrev pub lacks_break_at : List Glyph → ℕ → Bool
lacks_break_at [] place = true
lacks_break_at (glyph ∷ glyphs) zero = glyph.lacks_break
lacks_break_at (glyph ∷ glyphs) (suc place) = lacks_break_at glyphs place

-- Place of a cut: between two neighbouring glyphs of different clusters, if the glyphs of the greater cluster lack
-- UNSAFE_TO_BREAK
pub record IsPlaceOfCut (glyphs : List Glyph) (place : ℕ) : Type 0 where
  pub beyond : 0 < place
  pub before : place < length glyphs
  pub differ : cluster_at glyphs (place - 1) ≢ cluster_at glyphs place
  pub safe : (k : ℕ) → k < length glyphs
      → cluster_at glyphs k ≡ max (cluster_at glyphs (place - 1)) (cluster_at glyphs place) → lacks_break_at glyphs k ≡ true

-- the glyph at a place begins another cluster, and lacks UNSAFE_TO_BREAK
pub record BeginsSafely (glyphs : List Glyph) (place : ℕ) : Type 0 where
  pub differ : cluster_at glyphs (place - 1) ≢ cluster_at glyphs place
  pub lacks : lacks_break_at glyphs place ≡ true
