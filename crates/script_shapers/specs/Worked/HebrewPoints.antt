-- How points below a letter are reordered, on lists worked out by hand.
use Rattle.std.specs.Prelude.{◌≡◌, ℕ, Bool, true, false, List, [], ◌∷◌, map, Option, Some, None, refl}
use Rattle.shape_items.specs.Buffer.{Buffer, new_buffer}
use Rattle.shape_items.specs.Clusters.{merge}
use Rattle.shape_items.specs.Items.{new_item}
use Rattle.shape_common.specs.declared.text_types.BufferClusterLevel.TheVariants.{Characters}
use Rattle.shape_plan.specs.Reorder.{with_ccc}
use Rattle.script_shapers.specs.HebrewPoints.{is_triple, third_place, points_reordered}

abbrev pub are_triple : ℕ × ℕ × ℕ → Bool
are_triple ccc = is_triple ccc.0 ccc.1 ccc.2

pub record WorkedTriples : Type 0 where
  -- patah and qamats, sheva and hiriq, meteg and marks below
  pub triples : map are_triple ((20, 22, 25) ∷ (20, 22, 220) ∷ (20, 23, 25) ∷ (21, 22, 25) ∷ (21, 23, 220) ∷ [])
      ≡ true ∷ true ∷ true ∷ true ∷ true ∷ []
  pub beside_the_first : map are_triple ((19, 22, 25) ∷ (22, 22, 25) ∷ (0, 22, 25) ∷ []) ≡ false ∷ false ∷ false ∷ []
  pub beside_the_second : map are_triple ((20, 21, 25) ∷ (20, 24, 25) ∷ (20, 20, 25) ∷ []) ≡ false ∷ false ∷ false ∷ []
  pub beside_the_third : map are_triple ((20, 22, 24) ∷ (20, 22, 26) ∷ (20, 22, 219) ∷ (20, 22, 221) ∷ (20, 22, 230) ∷ [])
      ≡ false ∷ false ∷ false ∷ false ∷ false ∷ []
  pub another_order : map are_triple ((22, 20, 25) ∷ (20, 25, 22) ∷ (25, 22, 20) ∷ []) ≡ false ∷ false ∷ false ∷ []

worked_triples : WorkedTriples
worked_triples = record {
  triples = refl;
  beside_the_first = refl;
  beside_the_second = refl;
  beside_the_third = refl;
  another_order = refl;
}

-- the place of the third of the first three
abbrev pub third_of : List ℕ → Option ℕ
third_of ccc = third_place 0 0 0 (map (λ c. with_ccc c (new_item 0x5B0 0)) ccc)

-- a character, its ccc and its cluster
abbrev pub Point : Type 0
Point = ℕ × ℕ × ℕ

abbrev pub pointed : List Point → Buffer
pointed points = record new_buffer { items = map (λ point. with_ccc point.1 (new_item point.0 point.2)) points }

-- the characters in order, with their clusters and masks
abbrev pub shown_points : Buffer → List Point
shown_points b = map (λ item. (item.codepoint, item.cluster, item.mask)) b.items

-- bet with patah, sheva and meteg, and with qamats before them
abbrev pub three_points : List Point
three_points = (0x5D1, 0, 0) ∷ (0x5B7, 20, 2) ∷ (0x5B0, 22, 4) ∷ (0x5BD, 25, 6) ∷ []

abbrev pub four_points : List Point
four_points = (0x5D1, 0, 0) ∷ (0x5B7, 20, 2) ∷ (0x5B8, 21, 4) ∷ (0x5B4, 23, 6) ∷ (0x323, 220, 8) ∷ []

pub record WorkedReorderings : Type 0 where
  pub first_three : third_of (20 ∷ 22 ∷ 25 ∷ 20 ∷ 22 ∷ 25 ∷ []) ≡ Some 2
  pub later_three : third_of (20 ∷ 20 ∷ 22 ∷ 220 ∷ []) ≡ Some 3
  pub no_three : third_of (20 ∷ 22 ∷ 24 ∷ 25 ∷ []) ≡ None
  pub two : third_of (22 ∷ 25 ∷ []) ≡ None
  -- meteg goes before sheva, into one cluster with it
  pub meteg : shown_points (points_reordered (pointed three_points) 1 4)
      ≡ (0x5D1, 0, 0) ∷ (0x5B7, 2, 0) ∷ (0x5BD, 4, 0) ∷ (0x5B0, 4, 0) ∷ []
  pub mark_below : shown_points (points_reordered (pointed four_points) 1 5)
      ≡ (0x5D1, 0, 0) ∷ (0x5B7, 2, 0) ∷ (0x5B8, 4, 0) ∷ (0x323, 6, 0) ∷ (0x5B4, 6, 0) ∷ []
  -- if clusters aren't merged, the two are marked unsafe to break
  pub by_character : shown_points (points_reordered (record (pointed three_points) { cluster_level = Characters }) 1 4)
      ≡ (0x5D1, 0, 0) ∷ (0x5B7, 2, 0) ∷ (0x5BD, 6, 3) ∷ (0x5B0, 4, 0) ∷ []
  -- three that begin before the run, or end after it
  pub begun_before : points_reordered (pointed three_points) 2 4 ≡ pointed three_points
  pub ended_after : points_reordered (pointed three_points) 1 3 ≡ pointed three_points

worked_reorderings : WorkedReorderings
unfolding merge
worked_reorderings = record {
  first_three = refl;
  later_three = refl;
  no_three = refl;
  two = refl;
  meteg = refl;
  mark_below = refl;
  by_character = refl;
  begun_before = refl;
  ended_after = refl;
}

pub record WorkedPoints : Type 0 where
  pub triples : WorkedTriples
  pub reorderings : WorkedReorderings

pub worked_points : WorkedPoints
worked_points = record { triples = worked_triples; reorderings = worked_reorderings }
