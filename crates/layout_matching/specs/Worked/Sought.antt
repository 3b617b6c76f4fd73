-- What looking for a rule of context costs, computed by hand on tables of 16-bit words.
use Rattle.std.specs.Prelude.{◌≡◌, ℕ, List, [], ◌∷◌, Option, Some, None, true, refl}
use Rattle.std.specs.Option.{option_map}
use Rattle.shape_font.specs.Worked.Glyphs.{words}
use Rattle.shape_items.specs.Items.{Item}
use Rattle.layout_matching.specs.Sought.{sought}
use Rattle.layout_matching.specs.Worked.Work.{shared_rules, one_rule, over_marks, plain, a_mark}
use Rattle.layout_matching.specs.declared.found.Found.{Found}
use Rattle.layout_matching.specs.declared.lookup.Lookup.{Lookup}
use Rattle.layout_matching.specs.declared.sought.Sought.{Sought}

-- format 3 twice: two lists of glyph 5, and one lookup
abbrev pub two_rules : List ℕ
two_rules = words (5 ∷ 8 ∷ 2 ∷ 10 ∷ 10 ∷ 3 ∷ 2 ∷ 1 ∷ 14 ∷ 14 ∷ 0 ∷ 0 ∷ 1 ∷ 1 ∷ 5 ∷ [])

-- where the last glyph of the rule stands that applies
abbrev pub last_found : Option Sought → Option (Option ℕ)
last_found = option_map (λ (s : Sought). option_map (λ (f : Found). f.span.last) s.found)

pub record Seeks (table : List ℕ) (items : List Item) (at left rest : ℕ) (last : Option ℕ) : Type 0 where
  pub leaves : (l : Lookup) → l.table.now ≡ table
      → option_map (λ (s : Sought). s.left) (sought (over_marks l) items (record { at = at; is_steady = true }) left) ≡ Some rest
  pub finds : (l : Lookup) → l.table.now ≡ table
      → last_found (sought (over_marks l) items (record { at = at; is_steady = true }) left) ≡ Some last

abbrev pub FallsShort : List ℕ → List Item → ℕ → Type 0
FallsShort table items left = (l : Lookup) → l.table.now ≡ table
    → sought (over_marks l) items (record { at = 0; is_steady = true }) left ≡ None

pub record WorkedSought : Type 0 where
  -- 8 for the subtable, 1 for each of two rules, and for the first of them 1, two glyphs and a lookup; the second isn't read
  pub first_rule : Seeks shared_rules (plain 5 ∷ plain 6 ∷ []) 0 100 86 (Some 1)
  pub just_enough : Seeks shared_rules (plain 5 ∷ plain 6 ∷ []) 0 14 0 (Some 1)
  pub too_little : FallsShort shared_rules (plain 5 ∷ plain 6 ∷ []) 13
  -- rules that the next glyph refuses, or the end of the list
  pub refused : Seeks shared_rules (plain 5 ∷ plain 7 ∷ []) 0 100 90 None
  pub refused_at_the_end : Seeks shared_rules (plain 7 ∷ plain 5 ∷ []) 1 10 0 None
  pub too_little_for_the_set : FallsShort shared_rules (plain 5 ∷ plain 7 ∷ []) 9
  pub too_little_for_the_subtable : FallsShort shared_rules (plain 5 ∷ plain 7 ∷ []) 7
  -- a mark that is passed over costs 1 for the set, and for a rule that isn't refused 1, and 1 for its lookup
  pub over_a_mark : Seeks shared_rules (plain 5 ∷ a_mark ∷ plain 6 ∷ []) 0 100 83 (Some 2)
  pub refused_over_a_mark : Seeks shared_rules (plain 5 ∷ a_mark ∷ plain 7 ∷ []) 0 100 89 None
  pub another_glyph : Seeks shared_rules (plain 6 ∷ plain 6 ∷ []) 0 0 0 None
  -- 8 for the subtable, 8 for each of two glyphs, a lookup and the rule
  pub whole_rule : Seeks one_rule (plain 5 ∷ plain 5 ∷ []) 0 100 74 (Some 1)
  pub whole_rule_in_vain : Seeks one_rule (plain 5 ∷ plain 6 ∷ []) 0 26 0 None
  pub too_little_for_lists : FallsShort one_rule (plain 5 ∷ plain 5 ∷ []) 25
  pub not_its_first_glyph : Seeks one_rule (plain 6 ∷ plain 5 ∷ []) 0 0 0 None
  -- up to the first that applies
  pub first_of_two : Seeks two_rules (plain 5 ∷ plain 5 ∷ []) 0 100 74 (Some 1)
  pub neither_of_two : Seeks two_rules (plain 5 ∷ plain 6 ∷ []) 0 100 48 None

pub worked_sought : WorkedSought
worked_sought = record {
  first_rule = record { leaves = λ l t. rw t refl; finds = λ l t. rw t refl };
  just_enough = record { leaves = λ l t. rw t refl; finds = λ l t. rw t refl };
  too_little = λ l t. rw t refl;
  refused = record { leaves = λ l t. rw t refl; finds = λ l t. rw t refl };
  refused_at_the_end = record { leaves = λ l t. rw t refl; finds = λ l t. rw t refl };
  too_little_for_the_set = λ l t. rw t refl;
  too_little_for_the_subtable = λ l t. rw t refl;
  over_a_mark = record { leaves = λ l t. rw t refl; finds = λ l t. rw t refl };
  refused_over_a_mark = record { leaves = λ l t. rw t refl; finds = λ l t. rw t refl };
  another_glyph = record { leaves = λ l t. rw t refl; finds = λ l t. rw t refl };
  whole_rule = record { leaves = λ l t. rw t refl; finds = λ l t. rw t refl };
  whole_rule_in_vain = record { leaves = λ l t. rw t refl; finds = λ l t. rw t refl };
  too_little_for_lists = λ l t. rw t refl;
  not_its_first_glyph = record { leaves = λ l t. rw t refl; finds = λ l t. rw t refl };
  first_of_two = record { leaves = λ l t. rw t refl; finds = λ l t. rw t refl };
  neither_of_two = record { leaves = λ l t. rw t refl; finds = λ l t. rw t refl };
}
