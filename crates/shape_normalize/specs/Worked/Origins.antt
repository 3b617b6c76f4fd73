-- Where items came from, computed on small cases whose answers are worked out by hand.
use Rattle.std.specs.Prelude.{◌≡◌, ℕ, true, false, List, [], ◌∷◌, replicate, Some}
use Rattle.std.specs.List.{range_with_len}
use Rattle.shape_items.specs.Buffer.{Buffer}
use Rattle.shape_items.specs.Items.{Item}
use Rattle.shape_plan.specs.Rules.{Rules}
use Rattle.shape_normalize.specs.Normalized.{PreservesFeatures}
use Rattle.shape_normalize.specs.Origins.{Origin, origin_at, origins, new_origins, HasOfOrigin, all_places, AreInOneRun, IsOrderOf, IsFromPlace}
use Rattle.shape_normalize.specs.Origins.{IsFromStarter, ComesByPlace}
use Rattle.shape_normalize.specs.RoundThree.{Placed}
use Rattle.shape_normalize.specs.RoundTwo.{unhidden}
use Rattle.shape_normalize.specs.Worked.Fixture.{rules_in, item, buffer_of}

-- where the items that round one makes of these came from
abbrev pub origins_of : List ℕ → List Item → List Origin
origins_of chars items = origins (rules_in 1 chars) (buffer_of items)

-- the places of round one
pub record PlacesWorked : Type 0 where
  -- U+00E1 splits in two, and stays if a part has no glyph
  pub parts : origins_of (0x61 ∷ 0x301 ∷ []) (item 0xE1 0 ∷ item 0x62 1 ∷ [])
      ≡ origin_at false 0 ∷ origin_at false 0 ∷ origin_at false 1 ∷ []
  pub whole : origins_of (0x61 ∷ []) (item 0xE1 0 ∷ item 0x62 1 ∷ []) ≡ origin_at false 0 ∷ origin_at false 1 ∷ []
  pub in_sequence : origins_of (0x61 ∷ 0x301 ∷ []) (item 0xE1 0 ∷ item 0x323 1 ∷ item 0xE1 2 ∷ [])
      ≡ origin_at false 0 ∷ origin_at false 0 ∷ origin_at false 1 ∷ origin_at false 2 ∷ origin_at false 2 ∷ []
  -- U+0061 and its selector become one item, which came from the first, if the face has a glyph for the two
  pub variation_sequence :
      origins_of (0x61 ∷ 0xFE00 ∷ []) (item 0x61 0 ∷ item 0xFE00 1 ∷ item 0x301 2 ∷ [])
      ≡ origin_at true 0 ∷ origin_at true 2 ∷ []
  pub no_variation_sequence : origins_of (0x61 ∷ []) (item 0x61 0 ∷ item 0xFE00 1 ∷ item 0x301 2 ∷ [])
      ≡ origin_at true 0 ∷ origin_at true 1 ∷ origin_at true 2 ∷ []
  pub second_selector : origins_of (0x61 ∷ 0xFE00 ∷ []) (item 0x61 0 ∷ item 0xFE00 1 ∷ item 0xFE00 2 ∷ [])
      ≡ origin_at true 0 ∷ origin_at true 2 ∷ []
  -- each item with its own selectors: here U+0061 has none
  pub mark_before_selector : origins_of (0x61 ∷ 0x301 ∷ []) (item 0x61 0 ∷ item 0x301 1 ∷ item 0xFE00 2 ∷ [])
      ≡ origin_at true 0 ∷ origin_at true 1 ∷ origin_at true 2 ∷ []
  -- after and before such a sequence
  pub after_variation_sequence : origins_of (0x61 ∷ 0xFE00 ∷ 0x301 ∷ []) (item 0x61 0 ∷ item 0xFE00 1 ∷ item 0xE1 2 ∷ [])
      ≡ origin_at true 0 ∷ origin_at false 2 ∷ origin_at false 2 ∷ []
  pub before_variation_sequence : origins_of (0x61 ∷ 0xFE00 ∷ 0x301 ∷ []) (item 0xE1 0 ∷ item 0x61 1 ∷ item 0xFE00 2 ∷ [])
      ≡ origin_at false 0 ∷ origin_at false 0 ∷ origin_at true 1 ∷ []
  -- a selector by itself is expanded as any item is
  pub lone_selector : origins_of [] (item 0xFE00 0 ∷ []) ≡ origin_at false 0 ∷ []
  -- the shortest expansion is asked for of U+00E1 by itself
  pub shortest : origins (rules_in 2 (0x61 ∷ 0x301 ∷ 0xE1 ∷ [])) (buffer_of (item 0xE1 0 ∷ item 0x62 1 ∷ []))
      ≡ origin_at false 0 ∷ origin_at false 1 ∷ []

-- what came of these items by the end, if their two marks change places
abbrev pub two_marks : Buffer
two_marks = buffer_of (item 0x62 0 ∷ item 0x61 1 ∷ item 0x301 2 ∷ item 0x323 3 ∷ [])

pub record NewPlacesWorked : Type 0 where
  -- U+0301 goes into its starter, past U+0323, in the modes that compose
  pub composed : new_origins (rules_in 3 (0x61 ∷ 0xE1 ∷ 0x301 ∷ 0x323 ∷ [])) two_marks (0 ∷ 1 ∷ 3 ∷ 2 ∷ [])
      ≡ origin_at false 0 ∷ origin_at false 1 ∷ origin_at false 3 ∷ []
  pub left : new_origins (rules_in 1 (0x61 ∷ 0xE1 ∷ 0x301 ∷ 0x323 ∷ [])) two_marks (0 ∷ 1 ∷ 3 ∷ 2 ∷ [])
      ≡ origin_at false 0 ∷ origin_at false 1 ∷ origin_at false 3 ∷ origin_at false 2 ∷ []
  -- places of the expanded list are no places of the text: U+00E1 splits, U+0323 goes before U+0301, which composes
  -- again
  pub expanded_composed : new_origins (rules_in 3 (0x61 ∷ 0xE1 ∷ 0x301 ∷ 0x323 ∷ [])) (buffer_of (item 0xE1 0 ∷ item 0x323 1 ∷ []))
      (0 ∷ 2 ∷ 1 ∷ [])
      ≡ origin_at false 0 ∷ origin_at false 1 ∷ []
  -- nothing is composed if no mark stood past the first item
  pub unmarked : new_origins (rules_in 3 (0x61 ∷ 0xE1 ∷ 0x301 ∷ [])) (buffer_of (item 0xE1 0 ∷ item 0x62 1 ∷ [])) (0 ∷ 1 ∷ 2 ∷ [])
      ≡ origin_at false 0 ∷ origin_at false 0 ∷ origin_at false 1 ∷ []

-- ---- what an item has of the one that it came from

-- an item with a mask and a glyph index
abbrev pub masked : ℕ → ℕ → Item → Item
masked mask index plain = record plain { mask = mask; glyph_index = index }

-- an item that is hidden, as a hook may leave it
abbrev pub hidden_item : Item → Item
hidden_item plain = record plain { properties = record plain.properties { hidden = true } }

-- U+00E1 and a U+0062 that is hidden, each with feature bits of its own
abbrev pub text : Buffer
text = buffer_of (masked 256 0 (item 0xE1 0) ∷ masked 512 0 (hidden_item (item 0x62 1)) ∷ [])

abbrev pub Has : Origin → Item → Type 0
Has origin one = HasOfOrigin (rules_in 1 (0x61 ∷ 0x62 ∷ 0x301 ∷ [])) text false origin one

pub record OfOriginWorked : Type 0 where
  pub part : Has (origin_at false 0) (masked 256 0x61 (item 0x61 0))
  pub kept : Has (origin_at false 1) (masked 512 0x62 (hidden_item (item 0x62 1)))
  -- not with the feature bits of its neighbour
  pub other_features : Has (origin_at false 0) (masked 512 0x61 (item 0x61 0)) → ⊥
  -- nor with another glyph than its character's, except for sequences with a selector
  pub other_glyph : Has (origin_at false 0) (masked 256 7 (item 0x61 0)) → ⊥
  pub variant_glyph : Has (origin_at true 0) (masked 256 7 (item 0x61 0))
  -- nor hidden if neither it nor its character is
  pub other_hidden : Has (origin_at false 0) (masked 256 0x61 (hidden_item (item 0x61 0))) → ⊥
  pub neighbour_hidden : Has (origin_at false 1) (masked 512 0x61 (hidden_item (item 0x61 0))) → ⊥
  -- except for a CGJ, once these were unhidden, and for nothing else
  pub once_unhidden : HasOfOrigin (rules_in 1 (0x34F ∷ [])) text true (origin_at false 1) (masked 512 0x34F (unhidden (item 0x34F 0)))
  pub none_unhidden : HasOfOrigin (rules_in 1 (0x34F ∷ [])) text false (origin_at false 1) (masked 512 0x34F (unhidden (item 0x34F 0))) → ⊥
  pub other_unhidden : HasOfOrigin (rules_in 1 (0x61 ∷ [])) text true (origin_at false 1) (masked 512 0x61 (hidden_item (item 0x61 0))) → ⊥

-- ---- the order that round two leaves

-- a starter with three marks, and one with one
abbrev pub runs_of_marks : List Item
runs_of_marks = item 0x61 0 ∷ item 0x301 1 ∷ item 0x323 2 ∷ item 0x308 3 ∷ item 0x62 4 ∷ item 0x301 5 ∷ []

-- a starter with so many marks of one ccc
abbrev pub with_marks : ℕ → List Item
with_marks n = item 0x61 0 ∷ replicate n (item 0x301 1)

-- rules with a reorder hook that does nothing
abbrev pub hooked : Rules
hooked = record (rules_in 1 []) { reorder = Some (λ b start end. b) }

pub record OrderWorked : Type 0 where
  pub same_place : AreInOneRun runs_of_marks 4 4
  pub in_run : AreInOneRun runs_of_marks 3 1
  pub not_with_starter : AreInOneRun runs_of_marks 1 0 → ⊥
  pub not_past_starter : AreInOneRun runs_of_marks 3 5 → ⊥
  -- a hook may reverse the run, and move no starter, nor a mark to another run, nor leave one out
  pub reversed : IsOrderOf hooked runs_of_marks (0 ∷ 3 ∷ 2 ∷ 1 ∷ 4 ∷ 5 ∷ [])
  pub starter_moved : IsOrderOf hooked runs_of_marks (1 ∷ 0 ∷ 2 ∷ 3 ∷ 4 ∷ 5 ∷ []) → ⊥
  pub other_run : IsOrderOf hooked runs_of_marks (0 ∷ 1 ∷ 2 ∷ 5 ∷ 4 ∷ 3 ∷ []) → ⊥
  pub left_out : IsOrderOf hooked runs_of_marks (0 ∷ 1 ∷ 2 ∷ 4 ∷ 5 ∷ []) → ⊥
  -- it is handed runs of at most 32 marks: a longer one stays, and no part of it counts as a run
  pub in_run_of_32 : AreInOneRun (with_marks 32) 1 32
  pub not_in_run_of_33 : AreInOneRun (with_marks 33) 1 2 → ⊥
  pub long_run_stays : IsOrderOf hooked (with_marks 33) (all_places (with_marks 33))
  pub long_run_moved : IsOrderOf hooked (with_marks 33) (0 ∷ 2 ∷ 1 ∷ range_with_len 3 31) → ⊥
  -- without one the marks stand in the order of their ccc
  pub by_ccc : IsOrderOf (rules_in 1 []) runs_of_marks (0 ∷ 2 ∷ 1 ∷ 3 ∷ 4 ∷ 5 ∷ [])
  pub not_by_ccc : IsOrderOf (rules_in 1 []) runs_of_marks (0 ∷ 1 ∷ 2 ∷ 3 ∷ 4 ∷ 5 ∷ []) → ⊥

-- ---- CGJ

-- U+0061 and U+034F, which the run has seen or not
abbrev pub with_cgj : ℕ → Buffer
with_cgj flags = record (buffer_of (item 0x61 0 ∷ masked 256 0 (item 0x34F 1) ∷ [])) { scratch_flags = record { 0 = flags } }

abbrev pub unhidden_cgj : Item
unhidden_cgj = masked 256 0 (unhidden (item 0x34F 7))

pub record FromPlaceWorked : Type 0 where
  pub stays : IsFromPlace (rules_in 1 []) (with_cgj 0) 1 (masked 259 0 (item 0x34F 7))
  pub seen : IsFromPlace (rules_in 1 []) (with_cgj 8) 1 unhidden_cgj
  pub unseen : IsFromPlace (rules_in 1 []) (with_cgj 0) 1 unhidden_cgj → ⊥
  pub other_place : IsFromPlace (rules_in 1 []) (with_cgj 8) 0 unhidden_cgj → ⊥
  pub other_features : IsFromPlace (rules_in 1 []) (with_cgj 8) 1 (masked 512 0 (item 0x34F 7)) → ⊥

-- ---- composed items

-- a starter and a mark, each with feature bits of its own
abbrev pub to_compose : List Item
to_compose = masked 256 0x61 (item 0x61 0) ∷ masked 512 0x301 (item 0x301 1) ∷ []

-- the starter by itself, and with the mark composed with it
abbrev pub alone : Placed
alone = record { item = item 0x61 0; place = 0; absorbed = [] }

abbrev pub with_mark : Placed
with_mark = record alone { absorbed = record { place = 1; char = 0xE1 } ∷ [] }

abbrev pub FromStarter : Placed → Item → Type 0
FromStarter p one = IsFromStarter (rules_in 1 (0x61 ∷ 0xE1 ∷ [])) to_compose p one

pub record FromStarterWorked : Type 0 where
  pub stays : FromStarter alone (masked 259 0x61 (item 0x61 5))
  pub composed : FromStarter with_mark (masked 259 0xE1 (item 0xE1 5))
  pub features_of_mark : FromStarter with_mark (masked 512 0xE1 (item 0xE1 5)) → ⊥
  pub not_composed : FromStarter alone (masked 256 0xE1 (item 0xE1 5)) → ⊥
  pub other_glyph : FromStarter with_mark (masked 256 0x61 (item 0xE1 5)) → ⊥
  pub starter_itself : FromStarter with_mark (masked 256 0x61 (item 0x61 5)) → ⊥

-- ---- whole lists

-- two letters with feature bits of their own
abbrev pub letters : ℕ → ℕ → Buffer
letters first second = buffer_of (masked first 0x62 (item 0x62 0) ∷ masked second 0x62 (item 0x62 1) ∷ [])

-- two letters that change feature bits have those of items of the text, but not of the items that they came from
pub record WholeWorked : Type 0 where
  pub of_some_item : PreservesFeatures (letters 256 512) (letters 512 256)
  pub not_by_place : ComesByPlace (rules_in 1 (0x62 ∷ [])) (letters 256 512) (letters 512 256) → ⊥

pub record OriginsWorked : Type 0 where
  pub places : PlacesWorked
  pub new_places : NewPlacesWorked
  pub of_origin : OfOriginWorked
  pub order : OrderWorked
  pub from_place : FromPlaceWorked
  pub from_starter : FromStarterWorked
  pub whole : WholeWorked
