-- Texts from their characters through both pauses, worked out by hand.
use Rattle.std.specs.Prelude.{◌≡◌, ◌==◌, ◌+◌, ℕ, false, pos, Some, None, if◌then◌else◌, List, [], ◌∷◌, map, refl}
use Rattle.shape_common.specs.Face.{FaceMeaning}
use Rattle.shape_items.specs.Buffer.{Buffer, new_buffer}
use Rattle.shape_items.specs.Clusters.{merge}
use Rattle.shape_items.specs.Items.{Item, new_item}
use Rattle.shape_buffer.specs.Walks.{items_mapped}
use Rattle.myanmar_shaper.specs.Pauses.{made_by_pause}

-- a face that has a dotted circle alone
abbrev face : FaceMeaning
face = record {
  nominal_glyph = λ c. if c == 0x25CC then Some (record { 0 = 9 }) else None;
  variation_glyph = λ c s. None;
  h_advance = λ g. pos 0;
  v_advance = λ g. pos 0;
  h_origin = λ g. pos 0;
  v_origin = λ g. pos 0;
  extents = λ g. None;
  units_per_em = 1000;
  x_scale = pos 1000;
  y_scale = pos 1000;
  tables = record { gsub = false; gpos = false; morx = false; kerx = false; trak = false };
}

abbrev items_from : ℕ → List ℕ → List Item
items_from n [] = []
items_from n (c ∷ cs) = new_item c n ∷ items_from (n + 1) cs

abbrev text : (flags : ℕ) → List ℕ → Buffer
text flags chars = record new_buffer { items = items_from 0 chars; flags = record { 0 = flags } }

-- the bytes of the syllables, 16 times the number and the kind
abbrev bytes : List ℕ → List ℕ
bytes chars = map (λ (x : Item). x.properties.syllable) (made_by_pause 1 face (text 0 chars)).items

-- the flags of glyphs then: 1 unsafe to break, 2 unsafe to concatenate
abbrev flags_of : List ℕ → List ℕ
flags_of chars = map (λ (x : Item). x.mask) (made_by_pause 1 face (text 0 chars)).items

-- the characters and clusters once both pauses are over
abbrev shown : (flags : ℕ) → List ℕ → List (ℕ × ℕ)
shown flags chars =
    map (λ (x : Item). (x.codepoint, x.cluster)) (made_by_pause 2 face (made_by_pause 1 face (text flags chars))).items

pub record WorkedTexts : Type 0 where
  -- "Myanmar": MA and medial RA, NA and asat, MA and AA are three syllables; medial RA goes before the base
  pub syllables : bytes (0x1019 ∷ 0x103C ∷ 0x1014 ∷ 0x103A ∷ 0x1019 ∷ 0x102C ∷ []) ≡ 16 ∷ 16 ∷ 32 ∷ 32 ∷ 48 ∷ 48 ∷ []
  -- what follows the first item of a syllable is unsafe to break
  pub flags : flags_of (0x1019 ∷ 0x103C ∷ 0x1014 ∷ 0x103A ∷ 0x1019 ∷ 0x102C ∷ []) ≡ 0 ∷ 3 ∷ 0 ∷ 3 ∷ 0 ∷ 3 ∷ []
  pub ordered : shown 0 (0x1019 ∷ 0x103C ∷ 0x1014 ∷ 0x103A ∷ 0x1019 ∷ 0x102C ∷ [])
      ≡ (0x103C, 0) ∷ (0x1019, 0) ∷ (0x1014, 2) ∷ (0x103A, 3) ∷ (0x1019, 4) ∷ (0x102C, 5) ∷ []
  -- kinzi over GA
  pub kinzi : shown 0 (0x1004 ∷ 0x103A ∷ 0x1039 ∷ 0x1002 ∷ []) ≡ (0x1002, 0) ∷ (0x1004, 0) ∷ (0x103A, 0) ∷ (0x1039, 0) ∷ []
  -- a vowel without a base gets a dotted circle and goes before it, unless the flag forbids circles
  pub broken : bytes (0x1031 ∷ 0x41 ∷ []) ≡ 17 ∷ 34 ∷ []
  pub circle : shown 0 (0x1031 ∷ 0x41 ∷ []) ≡ (0x1031, 0) ∷ (0x25CC, 0) ∷ (0x41, 1) ∷ []
  pub forbidden : shown 32 (0x1031 ∷ 0x41 ∷ []) ≡ (0x1031, 0) ∷ (0x41, 1) ∷ []
  -- other pauses leave the text
  pub no_pause : made_by_pause 3 face (text 0 (0x1000 ∷ 0x1031 ∷ [])) ≡ text 0 (0x1000 ∷ 0x1031 ∷ [])

pub worked_texts : WorkedTexts
unfolding merge items_mapped
worked_texts = record {
  syllables = refl;
  flags = refl;
  ordered = refl;
  kinzi = refl;
  broken = refl;
  circle = refl;
  forbidden = refl;
  no_pause = refl;
}
