-- From an offset of the text to a place on its line, and back.
use Rattle.std.specs.Prelude.{◌≡◌, ◌⊎◌, ℕ, ◌+◌, ◌<◌, ◌≤◌, ℤ, pos, ◌-ℤ◌, List, [], length}
use Rattle.std.specs.Prelude.{unsigned_abs}
use Rattle.shape_carets.specs.Carets.{offset_at, x_at}
use Rattle.shape_carets.specs.declared.caret.Caret.{Caret}

-- The caret of an offset: none up to it is past the offset, unless it's the first, and the next one is.
pub record IsPlaceOf (carets : List Caret) (offset place : ℕ) : Type 0 where
  pub within : place < length carets
  pub none_past : (k : ℕ) → 0 < k → k ≤ place → offset_at carets k ≤ offset
  pub next_past : place + 1 < length carets → offset < offset_at carets (place + 1)

-- how far apart two places on the line are
abbrev pub gap : ℤ → ℤ → ℕ
gap a b = unsigned_abs (a -ℤ b)

-- of the first carets the one nearest to a place on the line, of several the last one
pub record IsNearestOf (carets : List Caret) (x : ℤ) (count place : ℕ) : Type 0 where
  pub within : place < count
  pub none_nearer : (k : ℕ) → k < place → gap (x_at carets place) x ≤ gap (x_at carets k) x
  pub last : (k : ℕ) → place < k → k < count → gap (x_at carets place) x < gap (x_at carets k) x

abbrev pub IsNearest : List Caret → ℤ → ℕ → Type 0
IsNearest carets x place = IsNearestOf carets x (length carets) place

-- the caret of an offset stands at x; 0 where no caret is
abbrev pub CaretStandsAt : List Caret → ℕ → ℤ → Type 0
CaretStandsAt carets offset x =
    ((carets ≡ []) × (x ≡ pos 0)) ⊎ ((place : ℕ) × IsPlaceOf carets offset place × (x ≡ x_at carets place))

-- the offset is that of the nearest caret; 0 where no caret is
abbrev pub OffsetIsNearest : List Caret → ℤ → ℕ → Type 0
OffsetIsNearest carets x offset =
    ((carets ≡ []) × (offset ≡ 0)) ⊎ ((place : ℕ) × IsNearest carets x place × (offset ≡ offset_at carets place))
