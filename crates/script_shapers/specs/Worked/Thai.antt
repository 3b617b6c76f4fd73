-- SARA AM of Thai and Lao in its two parts, worked out by hand.
use Rattle.std.specs.Prelude.{◌≡◌, ℕ, Bool, true, false, List, [], ◌∷◌, map, refl}
use Rattle.shape_common.specs.Category.{is_mark_category}
use Rattle.shape_common.specs.declared.text_types.BufferClusterLevel.{BufferClusterLevel}
use Rattle.shape_common.specs.declared.text_types.BufferClusterLevel.TheVariants.{MonotoneGraphemes, MonotoneCharacters, Characters}
use Rattle.shape_items.specs.Buffer.{Buffer, new_buffer}
use Rattle.shape_items.specs.Clusters.{merge}
use Rattle.shape_items.specs.Items.{Item}
use Rattle.script_shapers.specs.Thai.{sara_am_parted}
use Rattle.letter_joining.specs.Worked.JoinedText.{items_from}

-- an item's character and cluster
abbrev pub shown : Buffer → List (ℕ × ℕ)
shown b = map (λ (x : Item). (x.codepoint, x.cluster)) b.items

abbrev pub parted : BufferClusterLevel → List ℕ → Buffer
parted level chars = sara_am_parted (record new_buffer { items = items_from 0 chars; cluster_level = level })

-- which items are marks that go on with the one before
abbrev pub marks : Buffer → List (Bool × Bool)
marks b = map (λ (x : Item). (is_mark_category x.properties.general_category, x.properties.continuation)) b.items

pub record WorkedThai : Type 0 where
  -- after a letter; one cluster with it at level MONOTONE_GRAPHEMES, its own at the others
  pub after_letter : shown (parted MonotoneGraphemes (0xE14 ∷ 0xE33 ∷ [])) ≡ (0xE14, 0) ∷ (0xE4D, 0) ∷ (0xE32, 0) ∷ []
  pub by_character : shown (parted MonotoneCharacters (0xE14 ∷ 0xE33 ∷ [])) ≡ (0xE14, 0) ∷ (0xE4D, 1) ∷ (0xE32, 1) ∷ []
  -- after a tone mark, and after two marks: NIKHAHIT comes before them, and all are one cluster
  pub after_tone : shown (parted MonotoneGraphemes (0xE14 ∷ 0xE4B ∷ 0xE33 ∷ []))
      ≡ (0xE14, 0) ∷ (0xE4D, 1) ∷ (0xE4B, 1) ∷ (0xE32, 1) ∷ []
  pub tone_by_character : shown (parted MonotoneCharacters (0xE14 ∷ 0xE4B ∷ 0xE33 ∷ []))
      ≡ (0xE14, 0) ∷ (0xE4D, 1) ∷ (0xE4B, 1) ∷ (0xE32, 1) ∷ []
  pub after_two : shown (parted MonotoneGraphemes (0xE14 ∷ 0xE34 ∷ 0xE48 ∷ 0xE33 ∷ []))
      ≡ (0xE14, 0) ∷ (0xE4D, 1) ∷ (0xE34, 1) ∷ (0xE48, 1) ∷ (0xE32, 1) ∷ []
  pub unmerged : shown (parted Characters (0xE14 ∷ 0xE4B ∷ 0xE33 ∷ [])) ≡ (0xE14, 0) ∷ (0xE4D, 2) ∷ (0xE4B, 1) ∷ (0xE32, 2) ∷ []
  -- a mark below stays before it
  pub below : shown (parted MonotoneGraphemes (0xE14 ∷ 0xE38 ∷ 0xE33 ∷ [])) ≡ (0xE14, 0) ∷ (0xE38, 1) ∷ (0xE4D, 1) ∷ (0xE32, 1) ∷ []
  -- at the very front, and two in a row
  pub first : shown (parted MonotoneGraphemes (0xE33 ∷ [])) ≡ (0xE4D, 0) ∷ (0xE32, 0) ∷ []
  pub two : shown (parted MonotoneCharacters (0xE33 ∷ 0xE33 ∷ [])) ≡ (0xE4D, 0) ∷ (0xE32, 0) ∷ (0xE4D, 1) ∷ (0xE32, 1) ∷ []
  -- that of Lao, after a tone mark of Lao
  pub lao : shown (parted MonotoneGraphemes (0xE94 ∷ 0xEC8 ∷ 0xEB3 ∷ [])) ≡ (0xE94, 0) ∷ (0xECD, 1) ∷ (0xEC8, 1) ∷ (0xEB2, 1) ∷ []
  -- a NIKHAHIT of the text stays where it is
  pub written : shown (parted MonotoneGraphemes (0xE14 ∷ 0xE4B ∷ 0xE4D ∷ [])) ≡ (0xE14, 0) ∷ (0xE4B, 1) ∷ (0xE4D, 2) ∷ []
  -- NIKHAHIT is a mark
  pub mark : marks (parted MonotoneGraphemes (0xE33 ∷ [])) ≡ (true, true) ∷ (false, false) ∷ []

pub worked_thai : WorkedThai
unfolding merge
worked_thai = record {
  after_letter = refl;
  by_character = refl;
  after_tone = refl;
  tone_by_character = refl;
  after_two = refl;
  unmerged = refl;
  below = refl;
  first = refl;
  two = refl;
  lao = refl;
  written = refl;
  mark = refl;
}
