-- How far sets of rules look, computed by hand on tables of 16-bit words.
use Rattle.std.specs.Prelude.{◌≡◌, ℕ, List, [], ◌∷◌, Bool, Option, Some, None, true, false, refl}
use Rattle.shape_font.specs.Worked.Glyphs.{words}
use Rattle.shape_items.specs.Items.{Item}
use Rattle.layout_matching.specs.Rules.{plain_rule, chained}
use Rattle.layout_matching.specs.Tried.{set_reach, lets_next, lets_second, ahead_of, foreseen, large_reach}
use Rattle.layout_matching.specs.Worked.Work.{over_marks, plain, a_mark, a_zwj}
use Rattle.layout_matching.specs.declared.lookup.Lookup.{Lookup}
use Rattle.layout_matching.specs.declared.rules.Rule.{Rule}
use Rattle.layout_matching.specs.declared.rules.Test.TheVariants.{Glyph}

-- format 1, and a set of so many plain rules at 2: two of three glyphs, of which the second is 6, and three of two, with 9
abbrev pub plain_set : ℕ → List ℕ
plain_set count = words (1 ∷ count ∷ 12 ∷ 20 ∷ 28 ∷ 34 ∷ 40 ∷
    3 ∷ 0 ∷ 6 ∷ 7 ∷ 3 ∷ 0 ∷ 6 ∷ 8 ∷ 2 ∷ 0 ∷ 9 ∷ 2 ∷ 0 ∷ 9 ∷ 2 ∷ 0 ∷ 9 ∷ [])

-- the same of chained rules: four of two glyphs, with 4, and another one
abbrev pub chain_set : ℕ → List ℕ → List ℕ
chain_set count last = words (1 ∷ count ∷ 12 ∷ 22 ∷ 32 ∷ 42 ∷ 52 ∷
    0 ∷ 2 ∷ 4 ∷ 0 ∷ 0 ∷ 0 ∷ 2 ∷ 4 ∷ 0 ∷ 0 ∷ 0 ∷ 2 ∷ 4 ∷ 0 ∷ 0 ∷ 0 ∷ 2 ∷ 4 ∷ 0 ∷ 0 ∷ last)

-- with 4 after its first glyph, and of a glyph before 6
abbrev pub with_4 : List ℕ
with_4 = 0 ∷ 2 ∷ 4 ∷ 0 ∷ 0 ∷ []

abbrev pub before_6 : List ℕ
before_6 = 0 ∷ 1 ∷ 1 ∷ 6 ∷ 0 ∷ []

abbrev pub joining : Lookup → Lookup
joining l = record (over_marks l) { auto_zwnj = true; auto_zwj = true }

abbrev pub zwnj_counts : Lookup → Lookup
zwnj_counts l = record (over_marks l) { auto_zwnj = false; auto_zwj = true }

-- from the first glyph up to this place, and whether a rule matched
abbrev pub Looks : (Lookup → Lookup) → ℕ → List ℕ → List Item → ℕ → Bool → Type 0
Looks by kind table items to matched = (l : Lookup) → l.table.now ≡ table
    → set_reach (by l) items (record { at = 0; is_steady = true }) (record { kind = kind; start = 0 }) 2
    ≡ record { from = 0; to = to; matched = matched }

pub record WorkedTried : Type 0 where
  -- as far as the second glyph, which both rules with the first one refuse; a set of four rules is tried
  pub second_refused : Looks joining 5 (plain_set 5) (plain 5 ∷ plain 6 ∷ plain 9 ∷ plain 9 ∷ []) 3 false
  pub next_refused : Looks joining 5 (plain_set 5) (plain 5 ∷ plain 4 ∷ plain 9 ∷ []) 2 false
  pub next_refused_of_four : Looks joining 5 (plain_set 4) (plain 5 ∷ plain 4 ∷ plain 9 ∷ []) 2 false
  pub over_a_mark : Looks joining 5 (plain_set 5) (plain 5 ∷ a_mark ∷ plain 4 ∷ plain 9 ∷ []) 3 false
  -- with no glyph after it a large set is asked nothing
  pub at_the_end : Looks joining 5 (plain_set 5) (plain 5 ∷ []) 0 false
  pub at_the_end_of_four : Looks joining 5 (plain_set 4) (plain 5 ∷ []) 1 false
  pub plain_match : Looks joining 5 (plain_set 5) (plain 5 ∷ plain 9 ∷ []) 0 true
  -- of chained rules that aren't whole nothing is marked, if they are tried
  pub chain_refused : Looks joining 6 (chain_set 5 with_4) (plain 5 ∷ plain 7 ∷ []) 2 false
  pub chain_refused_of_four : Looks joining 6 (chain_set 4 with_4) (plain 5 ∷ plain 7 ∷ []) 0 false
  pub where_joiners_count : Looks zwnj_counts 6 (chain_set 5 with_4) (plain 5 ∷ plain 7 ∷ []) 0 false
  pub chain_at_the_end : Looks joining 6 (chain_set 5 before_6) (plain 5 ∷ []) 0 false
  pub chain_match : Looks joining 6 (chain_set 5 before_6) (plain 5 ∷ plain 6 ∷ []) 0 true

pub worked_tried : WorkedTried
worked_tried = record {
  second_refused = λ l t. rw t refl;
  next_refused = λ l t. rw t refl;
  next_refused_of_four = λ l t. rw t refl;
  over_a_mark = λ l t. rw t refl;
  at_the_end = λ l t. rw t refl;
  at_the_end_of_four = λ l t. rw t refl;
  plain_match = λ l t. rw t refl;
  chain_refused = λ l t. rw t refl;
  chain_refused_of_four = λ l t. rw t refl;
  where_joiners_count = λ l t. rw t refl;
  chain_at_the_end = λ l t. rw t refl;
  chain_match = λ l t. rw t refl;
}

-- ---- what rules look for after their first glyph

-- two glyphs and one behind; one and two behind; three
abbrev pub two_and_one : Rule
two_and_one = chained (words (0 ∷ 2 ∷ 6 ∷ 1 ∷ 7 ∷ 0 ∷ [])) Glyph 0 0 0 0 0

abbrev pub one_and_two : Rule
one_and_two = chained (words (0 ∷ 1 ∷ 2 ∷ 6 ∷ 7 ∷ 0 ∷ [])) Glyph 0 0 0 0 0

abbrev pub three : Rule
three = plain_rule (words (3 ∷ 0 ∷ 6 ∷ 7 ∷ [])) Glyph 0 0 4

abbrev pub alone : Rule
alone = plain_rule (words (1 ∷ 0 ∷ [])) Glyph 0 0 4

pub record WorkedLets : Type 0 where
  pub its_second : lets_next (words (0 ∷ 2 ∷ 6 ∷ 1 ∷ 7 ∷ 0 ∷ [])) two_and_one 6 ≡ true
  pub not_its_second : lets_next (words (0 ∷ 2 ∷ 6 ∷ 1 ∷ 7 ∷ 0 ∷ [])) two_and_one 7 ≡ false
  pub behind_two : lets_second (words (0 ∷ 2 ∷ 6 ∷ 1 ∷ 7 ∷ 0 ∷ [])) two_and_one 7 ≡ true
  pub not_behind_two : lets_second (words (0 ∷ 2 ∷ 6 ∷ 1 ∷ 7 ∷ 0 ∷ [])) two_and_one 6 ≡ false
  pub behind_one : lets_next (words (0 ∷ 1 ∷ 2 ∷ 6 ∷ 7 ∷ 0 ∷ [])) one_and_two 6 ≡ true
  pub not_behind_one : lets_next (words (0 ∷ 1 ∷ 2 ∷ 6 ∷ 7 ∷ 0 ∷ [])) one_and_two 7 ≡ false
  pub second_behind_one : lets_second (words (0 ∷ 1 ∷ 2 ∷ 6 ∷ 7 ∷ 0 ∷ [])) one_and_two 7 ≡ true
  pub not_second_behind_one : lets_second (words (0 ∷ 1 ∷ 2 ∷ 6 ∷ 7 ∷ 0 ∷ [])) one_and_two 6 ≡ false
  pub its_third : lets_second (words (3 ∷ 0 ∷ 6 ∷ 7 ∷ [])) three 7 ≡ true
  pub not_its_third : lets_second (words (3 ∷ 0 ∷ 6 ∷ 7 ∷ [])) three 6 ≡ false
  pub any_next : lets_next (words (1 ∷ 0 ∷ [])) alone 9 ≡ true
  pub any_second : lets_second (words (1 ∷ 0 ∷ [])) alone 9 ≡ true

pub worked_lets : WorkedLets
worked_lets = record {
  its_second = refl;
  not_its_second = refl;
  behind_two = refl;
  not_behind_two = refl;
  behind_one = refl;
  not_behind_one = refl;
  second_behind_one = refl;
  not_second_behind_one = refl;
  its_third = refl;
  not_its_third = refl;
  any_next = refl;
  any_second = refl;
}

-- ---- the two glyphs after a place

abbrev pub Ahead : List Item → ℕ → Option ℕ → Type 0
Ahead items next second = (l : Lookup) → ahead_of (joining l) items 0 next ≡ record { next = next; second = second }

-- where the rule of 5, 6 and 7 is seen to end that one of the two doesn't let stand
abbrev pub Foresees : List Item → Option ℕ → Option ℕ → Type 0
Foresees items second end = (l : Lookup) → l.table.now ≡ words (3 ∷ 0 ∷ 6 ∷ 7 ∷ [])
    → foreseen (joining l) items (record { next = 1; second = second }) three ≡ end

-- over a set of rules of a kind, whose next glyph is at place 1
abbrev pub LooksLarge : ℕ → List ℕ → List Item → ℕ → Bool → Type 0
LooksLarge kind table items to matched = (l : Lookup) → l.table.now ≡ table
    → large_reach (joining l) items (record { at = 0; is_steady = true }) (record { kind = kind; start = 0 }) 2 1
    ≡ record { from = 0; to = to; matched = matched }

pub record WorkedAhead : Type 0 where
  pub second : Ahead (plain 5 ∷ plain 6 ∷ plain 7 ∷ []) 1 (Some 2)
  pub over_a_mark : Ahead (plain 5 ∷ plain 6 ∷ a_mark ∷ plain 7 ∷ []) 1 (Some 3)
  pub no_second : Ahead (plain 5 ∷ plain 6 ∷ []) 1 None
  -- ZWJ may be passed over: it says nothing
  pub joiner_second : Ahead (plain 5 ∷ plain 6 ∷ a_zwj ∷ plain 7 ∷ []) 1 None
  pub lets_both : Foresees (plain 5 ∷ plain 6 ∷ plain 7 ∷ []) (Some 2) None
  pub not_the_next : Foresees (plain 5 ∷ plain 9 ∷ plain 7 ∷ []) (Some 2) (Some 2)
  pub not_the_second : Foresees (plain 5 ∷ plain 6 ∷ plain 9 ∷ []) (Some 2) (Some 3)
  pub not_a_later_second : Foresees (plain 5 ∷ plain 6 ∷ a_mark ∷ plain 9 ∷ []) (Some 3) (Some 4)
  pub no_second_asked : Foresees (plain 5 ∷ plain 6 ∷ plain 9 ∷ []) None None
  -- what was asked is marked, unless a rule matches
  pub next_of_plain_rules : LooksLarge 5 (plain_set 5) (plain 5 ∷ plain 4 ∷ plain 9 ∷ []) 2 false
  pub second_of_plain_rules : LooksLarge 5 (plain_set 5) (plain 5 ∷ plain 6 ∷ plain 9 ∷ []) 3 false
  pub match_of_plain_rules : LooksLarge 5 (plain_set 5) (plain 5 ∷ plain 9 ∷ []) 0 true
  pub match_after_a_refused_one : LooksLarge 5 (plain_set 5) (plain 5 ∷ plain 9 ∷ plain 9 ∷ []) 0 true
  pub chained_rules : LooksLarge 6 (chain_set 5 with_4) (plain 5 ∷ plain 7 ∷ []) 2 false

pub worked_ahead : WorkedAhead
worked_ahead = record {
  second = λ l. refl;
  over_a_mark = λ l. refl;
  no_second = λ l. refl;
  joiner_second = λ l. refl;
  lets_both = λ l t. rw t refl;
  not_the_next = λ l t. rw t refl;
  not_the_second = λ l t. rw t refl;
  not_a_later_second = λ l t. rw t refl;
  no_second_asked = λ l t. rw t refl;
  next_of_plain_rules = λ l t. rw t refl;
  second_of_plain_rules = λ l t. rw t refl;
  match_of_plain_rules = λ l t. rw t refl;
  match_after_a_refused_one = λ l t. rw t refl;
  chained_rules = λ l t. rw t refl;
}
