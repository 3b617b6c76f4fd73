-- Glyphs at the sides of pairs, on a table that was read by hand.
use Rattle.std.specs.Prelude.{◌≡◌, ℕ, List, Bool, [], ◌∷◌, true, false}
use Rattle.kern_table.specs.Pairs.{HoldSides}
use Rattle.kern_table.specs.Sides.{AreMarked, HoldPairs}
use Rattle.kern_table.specs.Worked.Kern.{subtable}
use Rattle.kern_table.specs.declared.sides.PairGlyphs.{PairGlyphs}

-- one subtable at 4 that states one pair, glyphs 2 and 3 by -50; the pair behind it, 3 and 2, isn't stated
abbrev pub one_pair : List ℕ
one_pair = 0 ∷ 0 ∷ 0 ∷ 1 ∷ subtable 26 1 1

-- marks of glyphs 0 to 2 and of 0 to 3: of none, and of the last one
abbrev pub none_of_3 : List Bool
none_of_3 = false ∷ false ∷ false ∷ []

abbrev pub glyph_2 : List Bool
glyph_2 = false ∷ false ∷ true ∷ []

abbrev pub none_of_4 : List Bool
none_of_4 = false ∷ none_of_3

abbrev pub glyph_3 : List Bool
glyph_3 = false ∷ glyph_2

pub record MarksOfPairs : Type 0 where
  pub left : AreMarked one_pair 4 true 1 glyph_2
  pub right : AreMarked one_pair 4 false 1 glyph_3
  pub left_alone : AreMarked one_pair 4 false 1 (false ∷ false ∷ true ∷ false ∷ []) → ⊥
  pub right_alone : AreMarked one_pair 4 true 1 glyph_3 → ⊥
  -- a glyph past the marks needs none
  pub past_the_marks : AreMarked one_pair 4 false 1 none_of_3

-- a glyph without a mark has no value at that side
pub record SidesOfPairs : Type 0 where
  pub left_unmarked : HoldSides one_pair 4 none_of_3 [] → ⊥
  pub right_unmarked : HoldSides one_pair 4 [] none_of_4 → ⊥
  pub nothing_said : HoldSides one_pair 4 [] []

-- what is stored tells of the subtable at 4, the left glyphs by themselves and the right ones
pub record StoredPairs (glyphs : PairGlyphs) : Type 0 where
  pub left_unmarked : glyphs.lefts.items ≡ none_of_3 → HoldPairs one_pair glyphs → ⊥
  pub right_unmarked : glyphs.rights.items ≡ none_of_4 → HoldPairs one_pair glyphs → ⊥

pub record WorkedSides : Type 0 where
  pub marks : MarksOfPairs
  pub sides : SidesOfPairs
  pub stored : (glyphs : PairGlyphs) → StoredPairs glyphs
