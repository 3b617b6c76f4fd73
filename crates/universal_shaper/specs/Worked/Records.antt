-- What is masked before lookups, and what is noted after them.
use Rattle.std.specs.Prelude.{◌≡◌, ℕ, Bool, true, false, List, [], ◌∷◌, map, refl}
use Rattle.shape_items.specs.Buffer.{Buffer}
use Rattle.shape_items.specs.Items.{Item}
use Rattle.shape_buffer.specs.Walks.{items_mapped}
use Rattle.syllables.specs.UniversalCategories.{B, H, R, VPre, VBlw}
use Rattle.syllabic.specs.Walking.{category_of}
use Rattle.syllabic.specs.Worked.Items.{item, buffer}
use Rattle.universal_shaper.specs.Masks.{rephas_masked}
use Rattle.universal_shaper.specs.Recording.{substitutions_cleared, rephas_recorded, prebases_recorded}

abbrev masks : Buffer → List ℕ
masks b = map (λ (x : Item). x.mask) b.items

abbrev categories : Buffer → List ℕ
categories b = map category_of b.items

-- an item of a syllable with a mask, which a lookup has made or not
abbrev made : Bool → (mask category syllable : ℕ) → Item
made by_lookup mask category syllable =
    let x = item 0x61 0 category syllable in
    record x { mask = mask; properties = record x.properties { substituted = by_lookup } }

abbrev letter : ℕ → Item
letter syllable = item 0x61 0 B syllable

abbrev sign : ℕ → Item
sign syllable = item 0x72 0 R syllable

pub record WorkedRecords : Type 0 where
  -- the first three items of a syllable may become a repha, and of one that begins with a sign for it that one
  pub three : masks (rephas_masked 8 (buffer (letter 0x12 ∷ letter 0x12 ∷ letter 0x12 ∷ letter 0x12 ∷ []))) ≡ 8 ∷ 8 ∷ 8 ∷ 0 ∷ []
  pub short : masks (rephas_masked 8 (buffer (letter 0x12 ∷ letter 0x12 ∷ letter 0x22 ∷ []))) ≡ 8 ∷ 8 ∷ 8 ∷ []
  pub one : masks (rephas_masked 8 (buffer (sign 0x12 ∷ letter 0x12 ∷ letter 0x22 ∷ []))) ≡ 8 ∷ 0 ∷ 8 ∷ []
  -- the first masked item that a lookup has made is a repha, if those before it are masked, too
  pub made_first : categories (rephas_recorded 8 (buffer (made true 8 B 0x12 ∷ made false 0 B 0x12 ∷ []))) ≡ R ∷ B ∷ []
  pub made_second : categories (rephas_recorded 8 (buffer (made false 8 B 0x12 ∷ made true 8 B 0x12 ∷ []))) ≡ B ∷ R ∷ []
  pub none_made : categories (rephas_recorded 8 (buffer (made false 8 B 0x12 ∷ made false 8 H 0x12 ∷ []))) ≡ B ∷ H ∷ []
  pub not_masked : categories (rephas_recorded 8 (buffer (made false 0 B 0x12 ∷ made true 8 B 0x12 ∷ []))) ≡ B ∷ B ∷ []
  pub each_syllable : categories (rephas_recorded 8 (buffer (made true 8 B 0x12 ∷ made true 8 B 0x22 ∷ []))) ≡ R ∷ R ∷ []
  -- the first item of a syllable that a lookup has made goes before the base
  pub prebase : categories (prebases_recorded (buffer (made false 0 B 0x12 ∷ made true 0 B 0x12 ∷ made true 0 VBlw 0x12 ∷ [])))
      ≡ B ∷ VPre ∷ VBlw ∷ []
  pub no_prebase : categories (prebases_recorded (buffer (made false 0 B 0x12 ∷ []))) ≡ B ∷ []
  -- what lookups have made so far is forgotten
  pub cleared : categories (prebases_recorded (substitutions_cleared (buffer (made true 0 B 0x12 ∷ [])))) ≡ B ∷ []
  -- the span of a syllable is its own: not so many items as stand before its end
  pub one_of_one : masks (rephas_masked 8 (buffer (letter 0x12 ∷ letter 0x22 ∷ sign 0x32 ∷ letter 0x32 ∷ []))) ≡ 8 ∷ 8 ∷ 8 ∷ 0 ∷ []
  -- nothing is noted past the end of a syllable
  pub repha_at_end : categories (rephas_recorded 8 (buffer (made false 8 B 0x12 ∷ made false 8 B 0x22 ∷ []))) ≡ B ∷ B ∷ []
  pub prebase_at_end : categories (prebases_recorded (buffer (made false 0 B 0x12 ∷ made false 0 B 0x22 ∷ []))) ≡ B ∷ B ∷ []
  pub prebase_later : categories (prebases_recorded (buffer (made false 0 B 0x12 ∷ made false 0 B 0x22 ∷ made true 0 B 0x22 ∷ [])))
      ≡ B ∷ B ∷ VPre ∷ []

pub worked_records : WorkedRecords
unfolding items_mapped
worked_records = record {
  three = refl;
  short = refl;
  one = refl;
  made_first = refl;
  made_second = refl;
  none_made = refl;
  not_masked = refl;
  each_syllable = refl;
  prebase = refl;
  no_prebase = refl;
  cleared = refl;
  one_of_one = refl;
  repha_at_end = refl;
  prebase_at_end = refl;
  prebase_later = refl;
}
