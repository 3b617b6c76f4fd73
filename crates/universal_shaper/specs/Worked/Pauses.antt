-- What each pause does to a text, worked out by hand.
use Rattle.std.specs.Prelude.{◌≡◌, ◌==◌, ◌+◌, ℕ, Bool, true, false, pos, Some, None, if◌then◌else◌, List, [], ◌∷◌, map as list_map, refl}
use Rattle.shape_common.specs.Face.{FaceMeaning}
use Rattle.shape_items.specs.Buffer.{Buffer}
use Rattle.shape_items.specs.Clusters.{merge}
use Rattle.shape_items.specs.Items.{Item, new_item}
use Rattle.shape_buffer.specs.Layout.{MapMeaning}
use Rattle.shape_buffer.specs.Walks.{items_mapped}
use Rattle.syllables.specs.UniversalCategories.{B, R, VPre, VBlw}
use Rattle.syllabic.specs.Walking.{category_of, syllable_of}
use Rattle.syllabic.specs.Worked.Items.{item, buffer, chars}
use Rattle.universal_shaper.specs.Pauses.{form_masks, made_by_pause}

-- a face that has a dotted circle alone
abbrev face : FaceMeaning
face = record {
  nominal_glyph = λ c. if c == 0x25CC then Some (record { 0 = 9 }) else None;
  variation_glyph = λ c s. None;
  h_advance = λ g. pos 0;
  v_advance = λ g. pos 0;
  h_origin = λ g. pos 0;
  v_origin = λ g. pos 0;
  extents = λ g. None;
  units_per_em = 1000;
  x_scale = pos 1000;
  y_scale = pos 1000;
  tables = record { gsub = false; gpos = false; morx = false; kerx = false; trak = false };
}

-- isol 512, init 1024, medi 2048, fina 4096, and rphf by itself
abbrev bit_of : (repha tag : ℕ) → ℕ
bit_of repha tag =
    if tag == 0x72706866 then repha else if tag == 0x69736F6C then 512 else if tag == 0x696E6974 then 1024
    else if tag == 0x6D656469 then 2048 else if tag == 0x66696E61 then 4096 else 0

abbrev map_by : (global repha : ℕ) → MapMeaning
map_by global repha = record {
  global_mask = global;
  one_mask = λ tag. bit_of repha tag.0;
  mask = λ tag. (0, 0);
  feature_index = λ table tag. None;
  stages = 1;
  pause_after = λ i. None;
}

abbrev items_from : ℕ → List ℕ → List Item
items_from n [] = []
items_from n (c ∷ cs) = new_item c n ∷ items_from (n + 1) cs

abbrev paused : (n tag : ℕ) → MapMeaning → Buffer → Buffer
paused n tag map b = made_by_pause n map (Some (record { 0 = record { 0 = tag } })) face b

-- bytes of syllables, categories and masks after the first pause, in a script
abbrev set_up : (tag : ℕ) → MapMeaning → List ℕ → List (ℕ × ℕ × ℕ)
set_up tag map text =
    list_map (λ (x : Item). (syllable_of x, category_of x, x.mask)) (paused 1 tag map (buffer (items_from 0 text))).items

-- an item of a syllable, masked for a repha, which a lookup has made or not
abbrev made : Bool → ℕ → Item
made by_lookup syllable =
    let x = item 0x61 0 B syllable in
    record x { mask = 256; properties = record x.properties { substituted = by_lookup } }

abbrev categories : Buffer → List ℕ
categories b = list_map category_of b.items

abbrev substituted : Buffer → List Bool
substituted b = list_map (λ (x : Item). x.properties.substituted) b.items

-- two syllables, of whose items lookups made the second and the third
abbrev noted : Buffer
noted = buffer (made false 0x12 ∷ made true 0x12 ∷ made true 0x22 ∷ [])

pub record WorkedPauses : Type 0 where
  -- 1: KA and E of Javanese are a syllable, the next KA another one; E is unsafe to break (3), the first items may become a repha
  -- (256), and the syllables have the forms init (1024) and fina (4096)
  pub first : set_up 0x4A617661 (map_by 4 256) (0xA98F ∷ 0xA9BA ∷ 0xA98F ∷ [])
      ≡ (0x12, B, 1280) ∷ (0x12, VPre, 1283) ∷ (0x22, B, 4352) ∷ []
  -- in a script that joins, N'Ko, syllables have no forms
  pub joining : set_up 0x4E6B6F6F (map_by 4 256) (0xA98F ∷ 0xA9BA ∷ 0xA98F ∷ [])
      ≡ (0x12, B, 256) ∷ (0x12, VPre, 259) ∷ (0x22, B, 256) ∷ []
  -- without rphf no item is masked for it; a form that is on everywhere has no mask of its own
  pub no_repha : set_up 0x4A617661 (map_by 4 0) (0xA98F ∷ 0xA9BA ∷ 0xA98F ∷ [])
      ≡ (0x12, B, 1024) ∷ (0x12, VPre, 1027) ∷ (0x22, B, 4096) ∷ []
  pub global : set_up 0x4A617661 (map_by 512 256) (0xA98F ∷ []) ≡ (0x12, B, 256) ∷ []
  pub masks : form_masks (map_by 1024 256) ≡ record { isol = 512; init = 0; medi = 2048; fina = 4096 }
  -- 2: what lookups have made is forgotten; nothing else is done
  pub cleared : substituted (paused 2 0x4A617661 (map_by 4 256) noted) ≡ false ∷ false ∷ false ∷ []
  pub cleared_alone : categories (paused 2 0x4A617661 (map_by 4 256) noted) ≡ B ∷ B ∷ B ∷ []
  -- 3: what they have made of masked items is a repha, if the font has rphf
  pub repha : categories (paused 3 0x4A617661 (map_by 4 256) noted) ≡ B ∷ R ∷ R ∷ []
  pub repha_of_none : categories (paused 3 0x4A617661 (map_by 4 0) noted) ≡ B ∷ B ∷ B ∷ []
  -- 4: the first item that they have made goes before the base
  pub prebase : categories (paused 4 0x4A617661 (map_by 4 256) noted) ≡ B ∷ VPre ∷ VPre ∷ []
  -- 5: a broken syllable gets a circle, a base, and its vowel goes before it; a standard one is ordered
  pub ordered : chars (paused 5 0x4A617661 (map_by 4 256) (buffer (item 0x65 0 VPre 0x17 ∷ item 0x61 1 B 0x22 ∷ item 0x65 2 VPre 0x22 ∷ []))).items
      ≡ 0x65 ∷ 0x25CC ∷ 0x65 ∷ 0x61 ∷ []
  pub circle : categories (paused 5 0x4A617661 (map_by 4 256) (buffer (item 0x75 3 VBlw 0x17 ∷ []))) ≡ B ∷ VBlw ∷ []
  -- after a repha
  pub circle_after_repha : chars (paused 5 0x4A617661 (map_by 4 256) (buffer (item 0x72 0 R 0x17 ∷ item 0x75 1 VBlw 0x17 ∷ []))).items
      ≡ 0x25CC ∷ 0x72 ∷ 0x75 ∷ []
  -- others do nothing
  pub sixth : paused 6 0x4A617661 (map_by 4 256) noted ≡ noted
  pub none : paused 0 0x4A617661 (map_by 4 256) noted ≡ noted

pub worked_pauses : WorkedPauses
unfolding merge items_mapped
worked_pauses = record {
  first = refl;
  joining = refl;
  no_repha = refl;
  global = refl;
  masks = refl;
  cleared = refl;
  cleared_alone = refl;
  repha = refl;
  repha_of_none = refl;
  prebase = refl;
  ordered = refl;
  circle = refl;
  circle_after_repha = refl;
  sixth = refl;
  none = refl;
}
