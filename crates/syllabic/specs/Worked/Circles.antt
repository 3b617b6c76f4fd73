-- Where dotted circles go, on syllables worked out by hand. The kind of broken ones is 7, a repha has category 10, a vowel below 23.
use Rattle.std.specs.Prelude.{◌≡◌, true, false, List, [], ◌∷◌, map, Some, None, refl}
use Rattle.shape_common.specs.declared.text_types.GlyphId.{GlyphId}
use Rattle.shape_items.specs.Items.{Item}
use Rattle.syllabic.specs.Circles.{are_due, circle_of, circled_items, no_circling, taken_from}
use Rattle.syllabic.specs.Worked.Items.{item, chars, clusters_of}
use Rattle.syllabic.specs.declared.circles.Circled.{Circled}

abbrev after_repha : Circled
after_repha = record { kind = 7; category = 1; repha = Some 10 }

abbrev before_all : Circled
before_all = record { kind = 7; category = 1; repha = None }

abbrev glyph : GlyphId
glyph = record { 0 = 9 }

abbrev by : Circled → List Item → List Item
by circled items = circled_items circled glyph no_circling items

pub record WorkedCircles : Type 0 where
  -- a vowel sign by itself (0x17) gets a base before it, in its cluster; a whole syllable (0x22) gets none
  pub before_sign : chars (by after_repha (item 0xA9B4 0 23 0x17 ∷ item 0xA98F 1 1 0x22 ∷ [])) ≡ 0x25CC ∷ 0xA9B4 ∷ 0xA98F ∷ []
  pub cluster : clusters_of (by after_repha (item 0xA98F 3 1 0x12 ∷ item 0xA9B4 4 23 0x27 ∷ [])) ≡ 3 ∷ 4 ∷ 4 ∷ []
  -- after a repha, and before it if the shaper says so
  pub repha : chars (by after_repha (item 0xA982 0 10 0x17 ∷ item 0xA9B4 1 23 0x17 ∷ [])) ≡ 0xA982 ∷ 0x25CC ∷ 0xA9B4 ∷ []
  pub repha_cluster : clusters_of (by after_repha (item 0xA982 0 10 0x17 ∷ item 0xA9B4 1 23 0x17 ∷ [])) ≡ 0 ∷ 0 ∷ 1 ∷ []
  pub no_repha : chars (by before_all (item 0xA982 0 10 0x17 ∷ item 0xA9B4 1 23 0x17 ∷ [])) ≡ 0x25CC ∷ 0xA982 ∷ 0xA9B4 ∷ []
  -- a repha alone, at the end and before another broken syllable
  pub alone : chars (by after_repha (item 0xA982 0 10 0x17 ∷ [])) ≡ 0xA982 ∷ 0x25CC ∷ []
  pub two : chars (by after_repha (item 0xA982 0 10 0x17 ∷ item 0xA9B4 1 23 0x27 ∷ [])) ≡ 0xA982 ∷ 0x25CC ∷ 0x25CC ∷ 0xA9B4 ∷ []
  -- one for each syllable, but none for one with the byte of the last that got one
  pub same_byte : chars (by after_repha (item 0xA9B4 0 23 0x17 ∷ item 0xA98F 1 1 0x22 ∷ item 0xA9B4 2 23 0x17 ∷ []))
      ≡ 0x25CC ∷ 0xA9B4 ∷ 0xA98F ∷ 0xA9B4 ∷ []
  pub whole : by after_repha (item 0xA98F 0 1 0x12 ∷ []) ≡ item 0xA98F 0 1 0x12 ∷ []
  -- behind two signs of one repha, in the cluster of the last; a later sign of it stays where it is
  pub two_signs : chars (by after_repha (item 0xA982 0 10 0x17 ∷ item 0xA982 1 10 0x17 ∷ item 0xA9B4 2 23 0x17 ∷ []))
      ≡ 0xA982 ∷ 0xA982 ∷ 0x25CC ∷ 0xA9B4 ∷ []
  pub two_signs_clusters : clusters_of (by after_repha (item 0xA982 0 10 0x17 ∷ item 0xA982 1 10 0x17 ∷ item 0xA9B4 2 23 0x17 ∷ []))
      ≡ 0 ∷ 1 ∷ 1 ∷ 2 ∷ []
  pub late_sign : chars (by after_repha (item 0xA9B4 0 23 0x17 ∷ item 0xA982 1 10 0x17 ∷ [])) ≡ 0x25CC ∷ 0xA9B4 ∷ 0xA982 ∷ []
  -- a circle has the face's glyph, the cluster, the mask and the syllable of the item, and the category of a base
  pub circle : circle_of after_repha glyph (taken_from (record (item 0xA9B4 5 23 0x17) { mask = 6 }))
      ≡ record (item 0x25CC 5 1 0x17) { glyph_index = 9; glyph_id = 9; mask = 6 }
  -- circles come if a syllable is broken, the flag 32 isn't set, whatever the others, and the face has the glyph
  pub due : map (λ flags. are_due (record { 0 = flags }) 7 (item 0xA9B4 0 23 0x17 ∷ [])) (0 ∷ 1 ∷ 31 ∷ 32 ∷ 33 ∷ 255 ∷ [])
      ≡ true ∷ true ∷ true ∷ false ∷ false ∷ false ∷ []
  pub not_broken : are_due (record { 0 = 0 }) 7 (item 0xA98F 0 1 0x12 ∷ []) ≡ false

pub worked_circles : WorkedCircles
worked_circles = record {
  before_sign = refl;
  cluster = refl;
  repha = refl;
  repha_cluster = refl;
  no_repha = refl;
  alone = refl;
  two = refl;
  same_byte = refl;
  whole = refl;
  two_signs = refl;
  two_signs_clusters = refl;
  late_sign = refl;
  circle = refl;
  due = refl;
  not_broken = refl;
}
