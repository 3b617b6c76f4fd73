-- Signs that step before their letters, worked out by hand.
use Rattle.std.specs.Prelude.{◌≡◌, ℕ, List, [], ◌∷◌, map, refl}
use Rattle.shape_items.specs.Buffer.{Buffer, new_buffer}
use Rattle.shape_items.specs.Clusters.{merge}
use Rattle.shape_items.specs.Items.{new_item}
use Rattle.shape_common.specs.declared.text_types.BufferClusterLevel.TheVariants.{MonotoneCharacters, Characters}
use Rattle.shape_users.specs.Signs.{signs_first, signs_stepped}

-- characters with their clusters
abbrev pub typed : List (ℕ × ℕ) → Buffer
typed text = record new_buffer { items = map (λ at. new_item at.0 at.1) text }

-- the characters in order, with their clusters and masks
abbrev pub shown_signs : Buffer → List (ℕ × ℕ × ℕ)
shown_signs b = map (λ item. (item.codepoint, item.cluster, item.mask)) b.items

-- KA, GA and HA are U+1A00, U+1A01 and U+1A16; the signs I, U, E and O are U+1A17 to U+1A1A
pub record WorkedTexts : Type 0 where
  pub after_letter : signs_first (0x1A00 ∷ 0x1A19 ∷ []) ≡ 0x1A19 ∷ 0x1A00 ∷ []
  pub second_letter : signs_first (0x1A00 ∷ 0x1A01 ∷ 0x1A19 ∷ []) ≡ 0x1A00 ∷ 0x1A19 ∷ 0x1A01 ∷ []
  pub two_letters : signs_first (0x1A00 ∷ 0x1A19 ∷ 0x1A16 ∷ 0x1A19 ∷ []) ≡ 0x1A19 ∷ 0x1A00 ∷ 0x1A19 ∷ 0x1A16 ∷ []
  pub two_signs : signs_first (0x1A00 ∷ 0x1A19 ∷ 0x1A19 ∷ 0x1A01 ∷ []) ≡ 0x1A19 ∷ 0x1A19 ∷ 0x1A00 ∷ 0x1A01 ∷ []
  pub at_start : signs_first (0x1A19 ∷ 0x1A00 ∷ []) ≡ 0x1A19 ∷ 0x1A00 ∷ []
  pub after_mark : signs_first (0x1A00 ∷ 0x1A17 ∷ 0x1A19 ∷ []) ≡ 0x1A00 ∷ 0x1A17 ∷ 0x1A19 ∷ []
  pub after_another_script : signs_first (0x19FF ∷ 0x1A19 ∷ 0x61 ∷ 0x1A19 ∷ []) ≡ 0x19FF ∷ 0x1A19 ∷ 0x61 ∷ 0x1A19 ∷ []
  pub other_signs : signs_first (0x1A00 ∷ 0x1A18 ∷ 0x1A16 ∷ 0x1A1A ∷ []) ≡ 0x1A00 ∷ 0x1A18 ∷ 0x1A16 ∷ 0x1A1A ∷ []
  pub none : signs_first [] ≡ []

worked_texts : WorkedTexts
worked_texts = record {
  after_letter = refl;
  second_letter = refl;
  two_letters = refl;
  two_signs = refl;
  at_start = refl;
  after_mark = refl;
  after_another_script = refl;
  other_signs = refl;
  none = refl;
}

pub record WorkedClusters : Type 0 where
  -- the two get the least cluster of both
  pub joined : shown_signs (signs_stepped (typed ((0x1A00, 0) ∷ (0x1A01, 3) ∷ (0x1A19, 6) ∷ (0x1A00, 9) ∷ [])))
      ≡ (0x1A00, 0, 0) ∷ (0x1A19, 3, 0) ∷ (0x1A01, 3, 0) ∷ (0x1A00, 9, 0) ∷ []
  pub by_monotone_character : shown_signs (signs_stepped (record (typed ((0x1A00, 0) ∷ (0x1A19, 3) ∷ [])) { cluster_level = MonotoneCharacters }))
      ≡ (0x1A19, 0, 0) ∷ (0x1A00, 0, 0) ∷ []
  pub falling : shown_signs (signs_stepped (typed ((0x1A00, 3) ∷ (0x1A19, 0) ∷ []))) ≡ (0x1A19, 0, 0) ∷ (0x1A00, 0, 0) ∷ []
  pub two_signs : shown_signs (signs_stepped (typed ((0x1A00, 0) ∷ (0x1A19, 3) ∷ (0x1A19, 6) ∷ [])))
      ≡ (0x1A19, 0, 0) ∷ (0x1A19, 0, 0) ∷ (0x1A00, 0, 0) ∷ []
  -- the rest of the sign's cluster goes with it
  pub longer_cluster : shown_signs (signs_stepped (typed ((0x1A00, 0) ∷ (0x1A19, 3) ∷ (0x1A17, 3) ∷ [])))
      ≡ (0x1A19, 0, 0) ∷ (0x1A00, 0, 0) ∷ (0x1A17, 0, 0) ∷ []
  -- if clusters aren't merged, the sign is marked unsafe to break
  pub by_character : shown_signs (signs_stepped (record (typed ((0x1A00, 0) ∷ (0x1A19, 3) ∷ [])) { cluster_level = Characters }))
      ≡ (0x1A19, 3, 3) ∷ (0x1A00, 0, 0) ∷ []
  pub as_they_were : signs_stepped (typed ((0x1A19, 0) ∷ (0x1A00, 3) ∷ (0x1A17, 6) ∷ (0x1A19, 9) ∷ []))
      ≡ typed ((0x1A19, 0) ∷ (0x1A00, 3) ∷ (0x1A17, 6) ∷ (0x1A19, 9) ∷ [])

worked_clusters : WorkedClusters
unfolding merge
worked_clusters = record {
  joined = refl;
  by_monotone_character = refl;
  falling = refl;
  two_signs = refl;
  longer_cluster = refl;
  by_character = refl;
  as_they_were = refl;
}

pub record WorkedSigns : Type 0 where
  pub texts : WorkedTexts
  pub clusters : WorkedClusters

pub worked_signs : WorkedSigns
worked_signs = record { texts = worked_texts; clusters = worked_clusters }
