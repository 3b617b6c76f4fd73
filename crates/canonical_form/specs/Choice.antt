-- What the choice of an expansion is asked to be: supported, and the shortest or the longest such.
use Rattle.std.specs.Prelude.{◌≡◌, ℕ, ◌<◌, ◌⊎◌, Bool, true, false, List, Option, Some}
use Rattle.canonical_form.specs.Expansion.{expansion, is_supported}

module _ (split : ℕ → Option (ℕ × ℕ)) (has_glyph : ℕ → Bool) where
  -- a supported expansion of c, and none is longer
  pub record IsGreatestSupported (c : ℕ) (parts : List ℕ) : Type 0 where
    pub length : ℕ
    pub above : 0 < length
    pub is : expansion split length c ≡ Some parts
    pub supported : is_supported has_glyph (expansion split length c) ≡ true
    pub none_longer : (k : ℕ) → length < k → is_supported has_glyph (expansion split k c) ≡ false

  -- a supported expansion of c, and none is shorter
  pub record IsLeastSupported (c : ℕ) (parts : List ℕ) : Type 0 where
    pub length : ℕ
    pub above : 0 < length
    pub is : expansion split length c ≡ Some parts
    pub supported : is_supported has_glyph (expansion split length c) ≡ true
    pub none_shorter : (k : ℕ) → 0 < k → k < length → is_supported has_glyph (expansion split k c) ≡ false

  abbrev pub HasNoneSupported : ℕ → Type 0
  HasNoneSupported c = (k : ℕ) → 0 < k → is_supported has_glyph (expansion split k c) ≡ false

-- a character that stands for c: c itself, or one that has a glyph
abbrev pub HasGlyphOrIs : (ℕ → Bool) → ℕ → ℕ → Type 0
HasGlyphOrIs has_glyph c d = (has_glyph d ≡ true) ⊎ (d ≡ c)
