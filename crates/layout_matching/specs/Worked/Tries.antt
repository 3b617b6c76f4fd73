-- What is tried, counted by hand on tables of 16-bit words.
use Rattle.std.specs.Prelude.{◌≡◌, ℕ, List, [], ◌∷◌, Some, None, true, ◌+◌, nat_eq, refl, if◌then◌else◌}
use Rattle.shape_items.specs.Items.{Item}
use Rattle.layout_matching.specs.Tries.{counted_along, counted_to_first, rules_tried, subtables_sought, all_tried}
use Rattle.layout_matching.specs.Worked.Sought.{two_rules}
use Rattle.layout_matching.specs.Worked.Work.{shared_rules, one_rule, over_marks, plain, a_mark}
use Rattle.layout_matching.specs.declared.lookup.Lookup.{Lookup}

-- how many subtables, and how many rules
pub record Tries (table : List ℕ) (items : List Item) (at subtables rules : ℕ) : Type 0 where
  pub asks : (l : Lookup) → l.table.now ≡ table → subtables_sought (over_marks l) items (record { at = at; is_steady = true }) ≡ subtables
  pub compares : (l : Lookup) → l.table.now ≡ table → rules_tried (over_marks l) items (record { at = at; is_steady = true }) ≡ rules

pub record WorkedTries : Type 0 where
  -- 1, 3 and 5
  pub each_step : counted_along (λ (n : ℕ). n) (λ n. n + 2) 3 1 ≡ 9
  pub no_step : counted_along (λ (n : ℕ). n) (λ n. n + 2) 0 1 ≡ 0
  -- 2, 3 and 4
  pub to_the_first : counted_to_first (λ i. i) (λ i. if nat_eq i 4 then Some i else None) 5 2 ≡ 9
  pub to_the_end : counted_to_first (λ i. i) (λ i. if nat_eq i 9 then Some i else None) 3 2 ≡ 9
  pub both : all_tried (record { subtables = 2; others = 5 }) ≡ 7
  -- of two rules in a set the first applies, or none
  pub first_rule : Tries shared_rules (plain 5 ∷ plain 6 ∷ []) 0 1 1
  pub each_rule : Tries shared_rules (plain 5 ∷ plain 7 ∷ []) 0 1 2
  pub over_a_mark : Tries shared_rules (plain 5 ∷ a_mark ∷ plain 6 ∷ []) 0 1 1
  pub another_glyph : Tries shared_rules (plain 6 ∷ plain 6 ∷ []) 0 1 0
  pub at_a_place : Tries shared_rules (plain 6 ∷ plain 5 ∷ plain 7 ∷ []) 1 1 2
  pub whole_rule : Tries one_rule (plain 5 ∷ plain 5 ∷ []) 0 1 1
  pub whole_rule_in_vain : Tries one_rule (plain 5 ∷ plain 6 ∷ []) 0 1 1
  pub not_its_first_glyph : Tries one_rule (plain 6 ∷ plain 5 ∷ []) 0 1 0
  -- of two subtables
  pub first_of_two : Tries two_rules (plain 5 ∷ plain 5 ∷ []) 0 1 1
  pub neither_of_two : Tries two_rules (plain 5 ∷ plain 6 ∷ []) 0 2 2
  pub none_begins : Tries two_rules (plain 6 ∷ plain 5 ∷ []) 0 2 0

pub worked_tries : WorkedTries
worked_tries = record {
  each_step = refl;
  no_step = refl;
  to_the_first = refl;
  to_the_end = refl;
  both = refl;
  first_rule = record { asks = λ l t. rw t refl; compares = λ l t. rw t refl };
  each_rule = record { asks = λ l t. rw t refl; compares = λ l t. rw t refl };
  over_a_mark = record { asks = λ l t. rw t refl; compares = λ l t. rw t refl };
  another_glyph = record { asks = λ l t. rw t refl; compares = λ l t. rw t refl };
  at_a_place = record { asks = λ l t. rw t refl; compares = λ l t. rw t refl };
  whole_rule = record { asks = λ l t. rw t refl; compares = λ l t. rw t refl };
  whole_rule_in_vain = record { asks = λ l t. rw t refl; compares = λ l t. rw t refl };
  not_its_first_glyph = record { asks = λ l t. rw t refl; compares = λ l t. rw t refl };
  first_of_two = record { asks = λ l t. rw t refl; compares = λ l t. rw t refl };
  neither_of_two = record { asks = λ l t. rw t refl; compares = λ l t. rw t refl };
  none_begins = record { asks = λ l t. rw t refl; compares = λ l t. rw t refl };
}
