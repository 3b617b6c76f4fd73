-- The laws on bytes that were read by hand: that their premises can hold, what then holds, and what doesn't without them.
use Rattle.std.specs.Prelude.{◌≡◌, ℕ, ℤ, pos, negsuc, List, [], ◌∷◌, ◌++◌, true, false}
use Rattle.std.specs.Float.{fin}
use Rattle.font_variations.specs.Deltas.{delta_of, has_data}
use Rattle.font_variations.specs.Laws.{IsPart, AreBytes, AreDefault, IsElsewhere, AreElsewhere}
use Rattle.font_variations.specs.Regions.{region_scalar}
use Rattle.font_variations.specs.Tents.{nothing, whole, tent}
use Rattle.font_variations.specs.Worked.Deltas.{store, there}
use Rattle.font_variations.specs.Worked.Scalars.{regions}

-- both axes at their defaults
abbrev pub defaults : List ℤ
defaults = pos 0 ∷ pos 0 ∷ []

-- one region of one axis, with its peak at 0; a store in this format, of one row with the delta 7 for that region
abbrev pub flat_regions : List ℕ
flat_regions = 0 ∷ 1 ∷ 0 ∷ 1 ∷ 0 ∷ 0 ∷ 0 ∷ 0 ∷ 0 ∷ 0 ∷ []

abbrev pub flat_store : ℕ → List ℕ
flat_store format = 0 ∷ format ∷ 0 ∷ 0 ∷ 0 ∷ 12 ∷ 0 ∷ 1 ∷ 0 ∷ 0 ∷ 0 ∷ 22 ∷ (flat_regions ++ 0 ∷ 1 ∷ 0 ∷ 0 ∷ 0 ∷ 1 ∷ 0 ∷ 0 ∷ 7 ∷ [])

pub record WorkedParts : Type 0 where
  pub none : IsPart nothing
  pub all : IsPart whole
  pub more_than_one : IsPart (fin false 3 (negsuc 0)) → ⊥
  pub below_none : IsPart (fin true 1 (negsuc 0)) → ⊥
  -- a third of an axis, and an eighth of a region
  pub of_an_axis : IsPart (tent (pos 0) (pos 3) (pos 6) (pos 1))
  pub of_a_region : IsPart (region_scalar regions 0 there 1)

pub record WorkedDefaults : Type 0 where
  pub are_default : AreDefault defaults
  pub are_bytes : AreBytes store
  -- the first region has its peak away from 0 along the first axis, and so has the second
  pub first_elsewhere : IsElsewhere regions 0 0
  pub second_elsewhere : IsElsewhere regions 0 1
  pub first_none : region_scalar regions 0 defaults 0 ≡ nothing
  pub second_none : region_scalar regions 0 defaults 1 ≡ nothing
  pub row_elsewhere : AreElsewhere store 1
  pub row_none : delta_of store defaults 1 ≡ nothing
  -- a region with each peak at 0 counts at the default instance, too
  pub flat_bytes : AreBytes (flat_store 1)
  pub flat_not_elsewhere : IsElsewhere flat_regions 0 0 → ⊥
  pub flat_counts : region_scalar flat_regions 0 [] 0 ≡ whole
  pub flat_row_not_elsewhere : AreElsewhere (flat_store 1) 0 → ⊥
  pub flat_row_counts : delta_of (flat_store 1) [] 0 ≡ fin false 7 (pos 0)
  -- of an unknown format no data are read, whatever the regions are
  pub no_data : has_data (flat_store 2) 0 ≡ false
  pub no_data_elsewhere : AreElsewhere (flat_store 2) 0
  pub no_data_none : delta_of (flat_store 2) [] 0 ≡ nothing
