-- Texts from their characters through both pauses, worked out by hand.
use Rattle.std.specs.Prelude.{◌≡◌, ◌==◌, ◌+◌, ℕ, false, pos, Some, None, if◌then◌else◌, List, [], ◌∷◌, map as list_map, refl}
use Rattle.shape_common.specs.Face.{FaceMeaning}
use Rattle.shape_items.specs.Buffer.{Buffer, new_buffer}
use Rattle.shape_items.specs.Clusters.{merge}
use Rattle.shape_items.specs.Items.{Item, new_item}
use Rattle.shape_buffer.specs.Layout.{MapMeaning}
use Rattle.shape_buffer.specs.Walks.{items_mapped}
use Rattle.khmer_shaper.specs.Pauses.{khmer_masks, made_by_pause}

-- a face that has a dotted circle alone
abbrev face : FaceMeaning
face = record {
  nominal_glyph = λ c. if c == 0x25CC then Some (record { 0 = 9 }) else None;
  variation_glyph = λ c s. None;
  h_advance = λ g. pos 0;
  v_advance = λ g. pos 0;
  h_origin = λ g. pos 0;
  v_origin = λ g. pos 0;
  extents = λ g. None;
  units_per_em = 1000;
  x_scale = pos 1000;
  y_scale = pos 1000;
  tables = record { gsub = false; gpos = false; morx = false; kerx = false; trak = false };
}

-- pref 256, blwf 512, abvf 1024, pstf 2048, cfar 4096
abbrev bit_of : ℕ → ℕ
bit_of tag =
    if tag == 0x70726566 then 256 else if tag == 0x626C7766 then 512 else if tag == 0x61627666 then 1024
    else if tag == 0x70737466 then 2048 else if tag == 0x63666172 then 4096 else 0

abbrev map : MapMeaning
map = record {
  global_mask = 0;
  one_mask = λ tag. bit_of tag.0;
  mask = λ tag. (0, 0);
  feature_index = λ table tag. None;
  stages = 1;
  pause_after = λ i. None;
}

abbrev items_from : ℕ → List ℕ → List Item
items_from n [] = []
items_from n (c ∷ cs) = new_item c n ∷ items_from (n + 1) cs

abbrev text : (flags : ℕ) → List ℕ → Buffer
text flags chars = record new_buffer { items = items_from 0 chars; flags = record { 0 = flags } }

-- the bytes of the syllables, 16 times the number and the kind
abbrev bytes : List ℕ → List ℕ
bytes chars = list_map (λ (x : Item). x.properties.syllable) (made_by_pause 1 map face (text 0 chars)).items

-- the flags of glyphs then: 1 unsafe to break, 2 unsafe to concatenate
abbrev flags_of : List ℕ → List ℕ
flags_of chars = list_map (λ (x : Item). x.mask) (made_by_pause 1 map face (text 0 chars)).items

-- the characters and clusters once both pauses are over
abbrev shown : (flags : ℕ) → List ℕ → List (ℕ × ℕ)
shown flags chars =
    list_map (λ (x : Item). (x.codepoint, x.cluster)) (made_by_pause 2 map face (made_by_pause 1 map face (text flags chars))).items

pub record WorkedTexts : Type 0 where
  pub masks : khmer_masks map ≡ record { after_base = 3584; prebase = 256; after_ro = 4096 }
  -- "Khmer": KHA, COENG, MO and AE are one syllable, RO is the next
  pub syllables : bytes (0x1781 ∷ 0x17D2 ∷ 0x1798 ∷ 0x17C2 ∷ 0x179A ∷ []) ≡ 16 ∷ 16 ∷ 16 ∷ 16 ∷ 32 ∷ []
  -- what follows the first item of a syllable is unsafe to break
  pub flags : flags_of (0x1781 ∷ 0x17D2 ∷ 0x1798 ∷ 0x17C2 ∷ 0x179A ∷ []) ≡ 0 ∷ 3 ∷ 3 ∷ 3 ∷ 0 ∷ []
  pub ordered : shown 0 (0x1781 ∷ 0x17D2 ∷ 0x1798 ∷ 0x17C2 ∷ 0x179A ∷ [])
      ≡ (0x17C2, 0) ∷ (0x1781, 0) ∷ (0x17D2, 0) ∷ (0x1798, 0) ∷ (0x179A, 4) ∷ []
  -- a vowel without a base gets a dotted circle and goes before it, unless the flag forbids circles
  pub broken : bytes (0x17C1 ∷ 0x41 ∷ []) ≡ 17 ∷ 34 ∷ []
  pub circle : shown 0 (0x17C1 ∷ 0x41 ∷ []) ≡ (0x17C1, 0) ∷ (0x25CC, 0) ∷ (0x41, 1) ∷ []
  pub forbidden : shown 32 (0x17C1 ∷ 0x41 ∷ []) ≡ (0x17C1, 0) ∷ (0x41, 1) ∷ []
  -- other pauses leave the text
  pub no_pause : made_by_pause 3 map face (text 0 (0x1781 ∷ 0x17C1 ∷ [])) ≡ text 0 (0x1781 ∷ 0x17C1 ∷ [])

pub worked_texts : WorkedTexts
unfolding merge items_mapped
worked_texts = record {
  masks = refl;
  syllables = refl;
  flags = refl;
  ordered = refl;
  broken = refl;
  circle = refl;
  forbidden = refl;
  no_pause = refl;
}
