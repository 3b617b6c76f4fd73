-- Laws of carets.
use Rattle.std.specs.Prelude.{◌≡◌, ◌≢◌, ◌⊎◌, ℕ, suc, ◌<◌, ℤ, ◌≤ℤ◌, Bool, true, List, [], ◌∷◌, length, Some}
use Rattle.shape_items.specs.declared.clusters.glyph_clusters.GlyphCluster.{GlyphCluster}
use Rattle.shape_carets.specs.Carets.{carets_of, offset_at, x_at}
use Rattle.shape_carets.specs.Places.{IsPlaceOf, IsNearest, CaretStandsAt, OffsetIsNearest}
use Rattle.shape_carets.specs.Selections.{is_selected, selection_of}
use Rattle.shape_carets.specs.declared.caret.Caret.{Caret}
use Rattle.shape_carets.specs.declared.selecting.Span.{Span}

-- offsets rise from caret to caret
abbrev pub OffsetsRise : List Caret → Type 0
OffsetsRise carets = (k : ℕ) → suc k < length carets → offset_at carets k < offset_at carets (suc k)

-- each stop is past the one before
abbrev pub StopsRise : List ℕ → Type 0
StopsRise [] = Unit {0}
StopsRise (s ∷ []) = Unit {0}
StopsRise (s ∷ t ∷ stops) = (s < t) × StopsRise (t ∷ stops)

-- offsets of carets rise, whatever the clusters are
abbrev pub CaretsRise : Type 0
CaretsRise = (backward : Bool) (text_start text_end : ℕ) (stops : List ℕ) (clusters : List GlyphCluster) → StopsRise stops
    → OffsetsRise (carets_of backward text_start text_end stops clusters)

pub record CaretsAreUnique : Type 0 where
  pub place : (carets : List Caret) (offset a b : ℕ) → IsPlaceOf carets offset a → IsPlaceOf carets offset b → a ≡ b
  pub nearest : (carets : List Caret) (x : ℤ) (a b : ℕ) → IsNearest carets x a → IsNearest carets x b → a ≡ b

-- what stands where the caret of an offset does is that offset's, if no later caret stands there
abbrev pub OffsetsReturn : Type 0
OffsetsReturn = (carets : List Caret) (k offset : ℕ) (x : ℤ) → OffsetsRise carets → k < length carets
    → ((j : ℕ) → k < j → j < length carets → x_at carets j ≢ x_at carets k)
    → CaretStandsAt carets (offset_at carets k) x → OffsetIsNearest carets x offset → offset ≡ offset_at carets k

-- carets go to the right, or to the left
abbrev pub GoesOneWay : List Caret → Type 0
GoesOneWay carets =
    ((k : ℕ) → suc k < length carets → x_at carets k ≤ℤ x_at carets (suc k))
    ⊎ ((k : ℕ) → suc k < length carets → x_at carets (suc k) ≤ℤ x_at carets k)

-- the same, if carets go one way and the next one stands elsewhere
abbrev pub OffsetsReturnFrom : Type 0
OffsetsReturnFrom = (carets : List Caret) (k offset : ℕ) (x : ℤ) → OffsetsRise carets → GoesOneWay carets → suc k < length carets
    → x_at carets (suc k) ≢ x_at carets k
    → CaretStandsAt carets (offset_at carets k) x → OffsetIsNearest carets x offset → offset ≡ offset_at carets k

-- a place on the line lies between two carets
abbrev pub LiesBetween : ℤ → ℤ → ℤ → Type 0
LiesBetween a b x = ((a ≤ℤ x) × (x ≤ℤ b)) ⊎ ((b ≤ℤ x) × (x ≤ℤ a))

-- a place lies in a piece of which some is selected
abbrev pub IsCovered : List Caret → ℕ → ℕ → ℤ → Type 0
IsCovered carets start end x =
    (k : ℕ) × (suc k < length carets) × (is_selected (offset_at carets k) (offset_at carets (suc k)) start end ≡ true)
    × LiesBetween (x_at carets k) (x_at carets (suc k)) x

abbrev pub SelectionHasPieces : Type 0
SelectionHasPieces = (carets : List Caret) (start end : ℕ) (x : ℤ) → IsCovered carets start end x
    → (span : Span) × (selection_of carets start end ≡ Some span) × (span.start ≤ℤ x) × (x ≤ℤ span.end)

abbrev pub SelectionHasNoGap : Type 0
SelectionHasNoGap = (carets : List Caret) (start end : ℕ) (span : Span) (x : ℤ) → OffsetsRise carets → selection_of carets start end ≡ Some span
    → span.start ≤ℤ x → x ≤ℤ span.end → IsCovered carets start end x
