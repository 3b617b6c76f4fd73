-- How the small tables agree with the character database.
use Rattle.std.specs.Prelude.{◌≡◌, ◌≢◌, ℕ, ◌⊎◌, true, [], ◌∷◌, Some}
use Rattle.ucd_bidi.specs.Binary.{is_bidi_mirrored}
use Rattle.ucd_normal.specs.Decomposition.{decomposition, any_mapping}
use Rattle.ucd_normal.specs.DecompositionRows.Tag.{vertical}
use Rattle.shape_common.specs.Category.{is_space_category}
use Rattle.shape_common.specs.declared.space_types.TheConstants.{NOT_SPACE}
use Rattle.shape_unicode.specs.Category.{category_of}
use Rattle.shape_unicode.specs.Mirror.{mirrored_of}
use Rattle.shape_unicode.specs.Space.{space_of}
use Rattle.shape_unicode.specs.Vertical.{vertical_of}

-- a mirror image has the property Bidi_Mirrored, and its own mirror image is what it is the image of
pub record MirrorsAreMutual : Type 0 where
  pub mirrored : (c d : ℕ) → mirrored_of c ≡ Some d → is_bidi_mirrored d ≡ true
  pub back : (c d : ℕ) → mirrored_of c ≡ Some d → mirrored_of d ≡ Some c

-- the mapping of a vertical form has the tag `vertical`, and names c or what c itself is mapped to
abbrev pub VerticalsAreMapped : Type 0
VerticalsAreMapped =
    (c d : ℕ) → vertical_of c ≡ Some d → (decomposition d ≡ (vertical, c ∷ [])) ⊎ (decomposition d ≡ (vertical, any_mapping c))

-- what has a mapping with that tag to one character is a vertical form
abbrev pub VerticalsAreAll : Type 0
VerticalsAreAll = (d x : ℕ) → decomposition d ≡ (vertical, x ∷ []) → (c : ℕ) × (vertical_of c ≡ Some d)

-- the space separators have a width, except for U+1680, and nothing else has
pub record SpacesAreSeparators : Type 0 where
  pub separators : (c : ℕ) → is_space_category (category_of c) ≡ true → (c ≡ 0x1680) ⊎ (space_of c ≢ NOT_SPACE)
  pub nothing_else : (c : ℕ) → space_of c ≢ NOT_SPACE → is_space_category (category_of c) ≡ true
