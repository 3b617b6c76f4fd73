-- What is said of spans in the laws.
use Rattle.std.specs.Prelude.{◌≡◌, ◌⊎◌, ℕ, ◌<◌, ◌≤◌, Bool, List, [], ◌∷◌, length}
use Rattle.font_fallback.specs.declared.spans.Span.{Span}

-- a cluster stands in a span
abbrev pub Holds : Span → ℕ → Type 0
Holds span k = (span.start ≤ k) × (k < span.end)

abbrev pub InNone : List Span → ℕ → Type 0
InNone [] k = Unit {0}
InNone (span ∷ spans) k = (Holds span k → ⊥) × InNone spans k

-- it stands in exactly one, which is of this font
abbrev pub IsInOne : List Span → ℕ → ℕ → Type 0
IsInOne [] k font = ⊥
IsInOne (span ∷ spans) k font =
    (Holds span k × (span.font ≡ font) × InNone spans k) ⊎ ((Holds span k → ⊥) × IsInOne spans k font)

-- what the first font that was tried has
abbrev pub first_row : List (List Bool) → List Bool
first_row [] = []
first_row (row ∷ rows) = row

-- one font was tried, the first, and it shows all
pub record IsOneSpan (rows : List (List Bool)) (clusters : ℕ) (spans : List Span) : Type 0 where
  pub one_tried : length rows ≡ 1
  pub is : spans ≡ (record { font = 0; start = 0; end = clusters }) ∷ []
