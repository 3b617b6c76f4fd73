-- Which end of a line is right, and which isn't, on three glyphs, each 10 wide, worked out by hand.
use Rattle.std.specs.Prelude.{ℕ, Bool, true, false, pos, List, [], ◌∷◌}
use Rattle.shape_lines.specs.LinesAt.{MayEndBy, IsEndAt}
use Rattle.shape_lines.specs.Worked.Spots.{spot}
use Rattle.shape_lines.specs.declared.spots.Spot.{Spot}

-- a line may end before the second glyph; before the third one it may safely, if lines may end anywhere
abbrev pub two_places : List Spot
two_places = spot (pos 10) false false false false ∷ spot (pos 10) true false false false ∷ spot (pos 10) false false true false ∷ []

-- a line must end before the second glyph
abbrev pub must_end : List Spot
must_end = spot (pos 10) false false false false ∷ spot (pos 10) false true false false ∷ spot (pos 10) true false true false ∷ []

pub record EndsTaken : Type 0 where
  pub longest : IsEndAt false two_places (pos 30) 0 3
  pub longest_allowed : IsEndAt true two_places (pos 20) 0 1
  pub shortest : IsEndAt false two_places (pos 5) 0 1
  pub anywhere : IsEndAt true two_places (pos 10) 1 2
  pub to_the_end : IsEndAt false two_places (pos 10) 1 3
  pub from_a_mandatory_place : IsEndAt false must_end (pos 20) 1 3

pub record EndsRefused : Type 0 where
  pub at_its_start : MayEndBy false two_places 1 1 → ⊥
  pub past_the_text : MayEndBy false two_places 0 4 → ⊥
  pub at_no_place : MayEndBy false two_places 0 2 → ⊥
  pub past_a_mandatory_place : MayEndBy false must_end 0 2 → ⊥
  pub a_longer_one_fits : IsEndAt false two_places (pos 30) 0 1 → ⊥
  pub too_wide : IsEndAt false two_places (pos 20) 0 3 → ⊥
  -- an allowed place fits, so no other one counts
  pub anywhere_though_one_fits : IsEndAt true two_places (pos 20) 0 2 → ⊥
  pub a_shorter_one_though_none_fits : IsEndAt false two_places (pos 5) 0 3 → ⊥
  pub nowhere_else : IsEndAt false two_places (pos 10) 1 2 → ⊥
  pub longer_than_what_fits_anywhere : IsEndAt true two_places (pos 10) 1 3 → ⊥

pub record WorkedEnds : Type 0 where
  pub taken : EndsTaken
  pub refused : EndsRefused
