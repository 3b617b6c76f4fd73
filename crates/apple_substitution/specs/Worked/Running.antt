-- Subtables that run over a text, computed by hand on tables of 16-bit words.
use Rattle.std.specs.Prelude.{◌≡◌, ℕ, List, [], ◌∷◌, ◌++◌, refl}
use Rattle.shape_buffer.specs.Walks.{items_mapped}
use Rattle.shape_common.specs.declared.text_types.Direction.{Direction}
use Rattle.shape_common.specs.declared.text_types.Direction.TheVariants.{LeftToRight, RightToLeft, TopToBottom}
use Rattle.shape_font.specs.Worked.Glyphs.{words}
use Rattle.shape_items.specs.Clusters.{merge}
use Rattle.shape_items.specs.Items.{Item}
use Rattle.apple_substitution.specs.Drives.{entered, gone_on, step}
use Rattle.apple_substitution.specs.Insertion.{current_done, inserted_beside}
use Rattle.apple_substitution.specs.Ligature.{added, ligated, popped_one}
use Rattle.apple_substitution.specs.Noncontextual.{all_substituted_by, substituted_by}
use Rattle.apple_substitution.specs.Subtables.{acted, acted_in_order, ran}
use Rattle.apple_substitution.specs.Worked.Driving.{glyph, glyphs_of, text}
use Rattle.apple_substitution.specs.Worked.Replacing.{five_and_six}

-- a subtable after two bytes, in a chain that has flag 2 on in cluster 0, and flag 1 behind it
abbrev run : List ℕ → Direction → List Item → List ℕ
run table direction items = glyphs_of (ran (record {
  morx = 0 ∷ 0 ∷ table;
  gdef = [];
  glyphs = 9;
  ranges = record { last = 0; flags = 2 } ∷ record { last = 9; flags = 1 } ∷ [];
}) 2 (record (text items 100) { direction = direction }))

-- 50 in place of 5 and 60 in place of 6, with a coverage, and flags that have it on
abbrev pub replaces : ℕ → ℕ → List ℕ
replaces coverage wanted = words (0 ∷ 22 ∷ 0 ∷ coverage ∷ 0 ∷ wanted ∷ []) ++ five_and_six

abbrev pub both : List Item
both = glyph 5 0 ∷ glyph 6 1 ∷ []

pub record WorkedRuns : Type 0 where
  pub everywhere : run (replaces 4 3) LeftToRight both ≡ 50 ∷ 60 ∷ []
  pub in_a_range : run (replaces 4 1) LeftToRight both ≡ 5 ∷ 60 ∷ []
  pub nowhere : run (replaces 4 4) LeftToRight both ≡ 5 ∷ 6 ∷ []
  pub not_in_vertical_text : run (replaces 4 3) TopToBottom both ≡ 5 ∷ 6 ∷ []
  pub no_such_kind : run (replaces 3 3) LeftToRight both ≡ 5 ∷ 6 ∷ []

pub worked_runs : WorkedRuns
unfolding acted acted_in_order all_substituted_by items_mapped ran substituted_by
worked_runs = record {
  everywhere = refl;
  in_a_range = refl;
  nowhere = refl;
  not_in_vertical_text = refl;
  no_such_kind = refl;
}

-- a state table of a kind, with its length: glyph 5 has class 4, and leads to entry 1; glyph 6 has class 5, and leads to entry 2
abbrev table_of : ℕ → ℕ → List ℕ → List ℕ → List ℕ
table_of kind size offsets entries = words ((0 ∷ size ∷ 0 ∷ kind ∷ 0 ∷ 3 ∷ 0 ∷ 6 ∷ offsets)
    ++ (8 ∷ 5 ∷ 2 ∷ 4 ∷ 5 ∷ 0 ∷ 0 ∷ 0 ∷ 0 ∷ 1 ∷ 2 ∷ 0 ∷ 0 ∷ 0 ∷ 0 ∷ 1 ∷ 2 ∷ entries))

-- glyph 5 is marked; glyph 6 has it replaced by table 0, and itself by table 1
abbrev contexts : List ℕ
contexts = table_of 1 114 (0 ∷ 20 ∷ 0 ∷ 30 ∷ 0 ∷ 54 ∷ 0 ∷ 78 ∷ [])
    (0 ∷ 0 ∷ 0xFFFF ∷ 0xFFFF ∷ 0 ∷ 0x8000 ∷ 0xFFFF ∷ 0xFFFF ∷ 0 ∷ 0 ∷ 0 ∷ 1 ∷
    0 ∷ 8 ∷ 0 ∷ 16 ∷ 8 ∷ 5 ∷ 1 ∷ 50 ∷ 8 ∷ 6 ∷ 1 ∷ 60 ∷ [])

-- both are pushed, and glyph 6 leads to two actions: 6 less than the glyph, then 4 less, the last one
abbrev ligatures : List ℕ
ligatures = table_of 2 112 (0 ∷ 28 ∷ 0 ∷ 38 ∷ 0 ∷ 62 ∷ 0 ∷ 80 ∷ 0 ∷ 88 ∷ 0 ∷ 92 ∷ [])
    (0 ∷ 0 ∷ 0 ∷ 0 ∷ 0x8000 ∷ 0 ∷ 0 ∷ 0xA000 ∷ 0 ∷
    0x3FFF ∷ 0xFFFA ∷ 0xBFFF ∷ 0xFFFC ∷ 1 ∷ 2 ∷ 70 ∷ 71 ∷ 72 ∷ 73 ∷ [])

-- glyph 6 has two glyphs inserted before it
abbrev pub insertions : List ℕ
insertions = table_of 5 94 (0 ∷ 20 ∷ 0 ∷ 30 ∷ 0 ∷ 54 ∷ 0 ∷ 78 ∷ [])
    (0 ∷ 0 ∷ 0xFFFF ∷ 0xFFFF ∷ 0 ∷ 0 ∷ 0xFFFF ∷ 0xFFFF ∷ 0 ∷ 0x0840 ∷ 0 ∷ 0xFFFF ∷ 80 ∷ 81 ∷ [])

pub record WorkedKinds : Type 0 where
  pub contextual : run contexts LeftToRight both ≡ 50 ∷ 60 ∷ []
  pub ligature : run ligatures LeftToRight both ≡ 73 ∷ 0xFFFF ∷ []
  pub insertion : run insertions LeftToRight both ≡ 5 ∷ 80 ∷ 81 ∷ 6 ∷ []

pub worked_kinds : WorkedKinds
unfolding acted acted_in_order added current_done entered gone_on inserted_beside ligated merge popped_one ran step
worked_kinds = record {
  contextual = refl;
  ligature = refl;
  insertion = refl;
}

-- rearrangement: glyph 5 marks the first of a span, and glyph 6 the last one, and the two change sides
abbrev changes : List ℕ
changes = table_of 0 74 (0 ∷ 16 ∷ 0 ∷ 26 ∷ 0 ∷ 50 ∷ []) (0 ∷ 0 ∷ 0 ∷ 0x8000 ∷ 0 ∷ 0x2003 ∷ [])

pub record WorkedOrders : Type 0 where
  pub in_the_text : run changes LeftToRight (glyph 5 0 ∷ glyph 6 1 ∷ glyph 7 2 ∷ []) ≡ 6 ∷ 5 ∷ 7 ∷ []
  pub not_before : run changes LeftToRight (glyph 6 0 ∷ glyph 5 1 ∷ glyph 7 2 ∷ []) ≡ 6 ∷ 5 ∷ 7 ∷ []
  -- from the left of the line on, glyph 5 comes first
  pub in_the_line : run changes RightToLeft (glyph 6 0 ∷ glyph 5 1 ∷ glyph 7 2 ∷ []) ≡ 5 ∷ 6 ∷ 7 ∷ []

pub worked_orders : WorkedOrders
unfolding acted acted_in_order entered gone_on merge ran step
worked_orders = record {
  in_the_text = refl;
  not_before = refl;
  in_the_line = refl;
}
