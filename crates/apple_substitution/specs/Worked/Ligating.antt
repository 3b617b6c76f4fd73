-- Ligatures of components, computed by hand on a table of 16-bit words.
use Rattle.std.specs.Prelude.{◌≡◌, ℕ, Bool, List, [], ◌∷◌, Some, None, true, false, refl}
use Rattle.shape_common.specs.declared.text_types.BufferClusterLevel.TheVariants.{Characters}
use Rattle.shape_font.specs.Worked.Glyphs.{words}
use Rattle.shape_items.specs.Buffer.{Buffer}
use Rattle.shape_items.specs.Clusters.{clusters, merge}
use Rattle.apple_tables.specs.declared.states.Entry.{Entry}
use Rattle.apple_substitution.specs.Driver.{Spot}
use Rattle.apple_substitution.specs.Ligature.{Popped, added, component_of, deleted, distance_of, is_actionable, ligated, ligature_of}
use Rattle.apple_substitution.specs.Ligature.{next_pop, performed, place_in, popped_one, pushed, stack_after, transition}
use Rattle.apple_substitution.specs.Worked.Driving.{entry, glyph, glyphs_of, text}
use Rattle.apple_substitution.specs.declared.ligature.Popping.{Popping}
use Rattle.apple_substitution.specs.declared.ligature.Stack.{Stack}

abbrev stack_of : ℕ → List ℕ → Stack
stack_of count places = record { count = count; places = places }

pub record WorkedStack : Type 0 where
  pub first : pushed 2 (stack_of 0 (0 ∷ 0 ∷ [])) ≡ stack_of 1 (2 ∷ 0 ∷ [])
  pub second : pushed 3 (stack_of 1 (2 ∷ 0 ∷ [])) ≡ stack_of 2 (2 ∷ 3 ∷ [])
  pub not_twice : pushed 2 (stack_of 1 (2 ∷ 0 ∷ [])) ≡ stack_of 1 (2 ∷ 0 ∷ [])
  -- component 64 stands where component 0 stood
  pub around : pushed 9 (stack_of 64 (3 ∷ 4 ∷ [])) ≡ stack_of 65 (9 ∷ 4 ∷ [])
  pub read_around : place_in (3 ∷ 4 ∷ []) 65 ≡ 4
  pub pushes : stack_after (entry 0 0x8000 0) 2 (stack_of 0 (0 ∷ [])) ≡ stack_of 1 (2 ∷ [])
  pub does_not_push : stack_after (entry 0 0x7FFF 0) 2 (stack_of 0 (0 ∷ [])) ≡ stack_of 0 (0 ∷ [])
  pub acts : is_actionable false (stack_of 0 []) (entry 0 0x2000 0) ≡ true
  pub does_not_act : is_actionable false (stack_of 1 []) (entry 0 0xDFFF 0) ≡ false

pub worked_stack : WorkedStack
worked_stack = record {
  first = refl;
  second = refl;
  not_twice = refl;
  around = refl;
  read_around = refl;
  pushes = refl;
  does_not_push = refl;
  acts = refl;
  does_not_act = refl;
}

-- actions begin at 28: 6 less than the glyph, then 4 less, the last one; the same two with a flag that stores. Two numbers of
-- components begin at 44, and four ligatures at 48. From 56 on stand data of entries: action 0, and action 2
abbrev ligatures : List ℕ
ligatures = words (0 ∷ 0 ∷ 0 ∷ 0 ∷ 0 ∷ 0 ∷ 0 ∷ 0 ∷ 0 ∷ 28 ∷ 0 ∷ 44 ∷ 0 ∷ 48 ∷
    0x3FFF ∷ 0xFFFA ∷ 0xBFFF ∷ 0xFFFC ∷ 0x7FFF ∷ 0xFFFA ∷ 0xBFFF ∷ 0xFFFC ∷
    1 ∷ 2 ∷
    70 ∷ 71 ∷ 72 ∷ 73 ∷
    0 ∷ 2 ∷ [])

pub record WorkedNumbers : Type 0 where
  pub back : distance_of 0x7FFFFFFA ≡ 0xFFFFFFFA
  pub furthest_back : distance_of 0x20000000 ≡ 0xE0000000
  pub on : distance_of 0xC0000004 ≡ 4
  pub furthest_on : distance_of 0x1FFFFFFF ≡ 0x1FFFFFFF
  pub component : component_of ligatures 0 0xBFFFFFFC 5 ≡ Some 2
  pub no_component : component_of ligatures 0 0 8 ≡ None
  pub ligature : ligature_of ligatures 0 3 ≡ Some 73
  pub last_of_the_table : ligature_of ligatures 0 5 ≡ Some 2
  pub no_ligature : ligature_of ligatures 0 6 ≡ None
  pub deleted_is_ignored : (deleted (glyph 5 0)).properties.ignorable ≡ true

pub worked_numbers : WorkedNumbers
worked_numbers = record {
  back = refl;
  furthest_back = refl;
  on = refl;
  furthest_on = refl;
  component = refl;
  no_component = refl;
  ligature = refl;
  last_of_the_table = refl;
  no_ligature = refl;
  deleted_is_ignored = refl;
}

abbrev four : ℕ → Buffer
four left = text (glyph 5 0 ∷ glyph 8 1 ∷ glyph 6 2 ∷ glyph 7 3 ∷ []) left

-- at the third of four glyphs, with the first one on the stack
abbrev ligating : ℕ → ℕ → Buffer → Spot Stack
ligating flags «data» b = transition ligatures 0 (entry 0 flags «data»)
    (record { buffer = b; at = 2; memory = stack_of 1 (0 ∷ 9 ∷ []) })

-- actions under way
abbrev pops : ℕ → ℕ → ℕ → ℕ → Bool → Popping
pops cursor count action sum has_ended =
    record { cursor = cursor; count = count; action = action; sum = sum; has_ended = has_ended }

-- the actions of an entry with a component at each place
abbrev both : Entry → Popped
both e = performed ligatures 0 e (stack_of 2 (0 ∷ 2 ∷ [])) (four 100)

pub record WorkedActions : Type 0 where
  pub next : next_pop (pops 2 2 28 1 false) ≡ pops 1 2 32 1 false
  pub none_below : next_pop (pops 0 1 28 1 false) ≡ pops 0 1 32 1 false
  pub made : glyphs_of (both (entry 0 0xA000 56)).buffer ≡ 73 ∷ 8 ∷ 0xFFFF ∷ 7 ∷ []
  -- of two components the ligature of the sum is left, and two actions are past
  pub done : (both (entry 0 0xA000 56)).popping ≡ pops 0 1 36 3 true
  -- the table has no action 70
  pub no_action : (both (entry 0 0xA000 48)).popping ≡ pops 2 2 308 0 true

pub worked_actions : WorkedActions
unfolding added ligated popped_one merge
worked_actions = record { next = refl; none_below = refl; made = refl; done = refl; no_action = refl }

abbrev third : ℕ → ℕ → Spot Stack
third «data» left = ligating 0xA000 «data» (four left)

pub record WorkedLigature : Type 0 where
  -- 1 for glyph 6, and 2 for glyph 5
  pub made : glyphs_of (third 56 100).buffer ≡ 73 ∷ 8 ∷ 0xFFFF ∷ 7 ∷ []
  pub merged : clusters (third 56 100).buffer.items ≡ 0 ∷ 0 ∷ 0 ∷ 3 ∷ []

pub worked_ligature : WorkedLigature
unfolding added ligated popped_one merge
worked_ligature = record { made = refl; merged = refl }

pub record WorkedLeft : Type 0 where
  -- it stays on the stack
  pub left : (third 56 100).memory ≡ stack_of 1 (0 ∷ 2 ∷ [])
  pub stays_there : (third 56 100).at ≡ 2
  -- two actions, and a span of three
  pub charged : (third 56 100).buffer.max_ops ≡ 65

pub worked_left : WorkedLeft
unfolding added ligated popped_one merge
worked_left = record { left = refl; stays_there = refl; charged = refl }

pub record WorkedTooLittle : Type 0 where
  pub suffices : glyphs_of (third 56 35).buffer ≡ 73 ∷ 8 ∷ 0xFFFF ∷ 7 ∷ []
  pub too_little_for_the_span : glyphs_of (third 56 34).buffer ≡ 5 ∷ 8 ∷ 6 ∷ 7 ∷ []
  pub nothing_left : (third 56 34).buffer.max_ops ≡ 0
  pub too_little_for_an_action : glyphs_of (third 56 31).buffer ≡ 5 ∷ 8 ∷ 6 ∷ 7 ∷ []

pub worked_too_little : WorkedTooLittle
unfolding added ligated popped_one merge
worked_too_little = record { suffices = refl; too_little_for_the_span = refl; nothing_left = refl; too_little_for_an_action = refl }

pub record WorkedStores : Type 0 where
  -- a ligature is stored in place of glyph 6, and popped again: the sum goes on
  pub made_of_a_ligature : glyphs_of (third 58 100).buffer ≡ 73 ∷ 8 ∷ 0xFFFF ∷ 7 ∷ []
  pub charged_twice : (third 58 100).buffer.max_ops ≡ 64
  -- at level CHARACTERS no clusters merge
  pub characters : clusters (ligating 0xA000 56 (record (four 100) { cluster_level = Characters })).buffer.items
      ≡ 0 ∷ 1 ∷ 2 ∷ 3 ∷ []

pub worked_stores : WorkedStores
unfolding added ligated popped_one merge
worked_stores = record { made_of_a_ligature = refl; charged_twice = refl; characters = refl }

pub record WorkedNoLigature : Type 0 where
  pub not_asked : glyphs_of (ligating 0x8000 56 (four 100)).buffer ≡ 5 ∷ 8 ∷ 6 ∷ 7 ∷ []
  pub pushed_alone : (ligating 0x8000 56 (four 100)).memory ≡ stack_of 2 (0 ∷ 2 ∷ [])
  -- more is popped than was pushed
  pub emptied : (transition ligatures 0 (entry 0 0xA000 56)
      (record { buffer = four 100; at = 2; memory = stack_of 0 (0 ∷ []) })).memory ≡ stack_of 0 (2 ∷ [])
  -- the table has no action 70
  pub no_action : (third 48 100).memory ≡ stack_of 2 (0 ∷ 2 ∷ [])
  pub at_the_end : glyphs_of (transition ligatures 0 (entry 0 0x2000 56)
      (record { buffer = four 100; at = 4; memory = stack_of 2 (0 ∷ 2 ∷ []) })).buffer ≡ 5 ∷ 8 ∷ 6 ∷ 7 ∷ []

pub worked_no_ligature : WorkedNoLigature
unfolding added ligated popped_one merge
worked_no_ligature = record { not_asked = refl; pushed_alone = refl; emptied = refl; no_action = refl; at_the_end = refl }
