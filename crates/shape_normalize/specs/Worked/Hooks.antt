-- Whose ccc counts when a shaper's hooks are given, computed on small cases whose answers are worked out by hand:
-- Unicode's of each character that a hook splits or composes, and the item's own of each mark that a hook has
-- reordered.
use Rattle.std.specs.Prelude.{◌≡◌, ℕ, ◌+◌, ◌==◌, ◌&&◌, Bool, true, false, if◌then◌else◌, List, [], ◌∷◌, map, get_or, Some, None, refl}
use Rattle.shape_items.specs.Buffer.{Buffer}
use Rattle.shape_items.specs.Clusters.{merge}
use Rattle.shape_items.specs.Items.{Item, new_item, ccc_of_item}
use Rattle.shape_plan.specs.Reorder.{exchanged, ccc_set}
use Rattle.shape_plan.specs.Rules.{Rules}
use Rattle.shape_normalize.specs.Normalized.{normalized, hidden_char}
use Rattle.shape_normalize.specs.RoundTwo.{run_settled}
use Rattle.shape_normalize.specs.Worked.Fixture.{rules_in, item, buffer_of}

-- every mark of the small fixture that has a ccc, with U+0061, U+0062 and U+00E1
abbrev pub marks_and_letters : List ℕ
marks_and_letters = 0x61 ∷ 0x62 ∷ 0xE1 ∷ 0x301 ∷ 0x308 ∷ 0x323 ∷ 0x344 ∷ 0x34F ∷ []

-- an item's character and ccc
abbrev pub char_and_ccc : Item → ℕ × ℕ
char_and_ccc one = (one.codepoint, ccc_of_item one)

-- the normalised items, by characters and ccc
abbrev pub cccs_by : Rules → List Item → List (ℕ × ℕ)
cccs_by rules items = map char_and_ccc (normalized rules (buffer_of items)).items

-- ---- compose and decompose hooks

-- U+0308 U+0301, both of ccc 230, compose to another character than Unicode's
abbrev pub composing_to : ℕ → Rules
composing_to c =
    record (rules_in 3 marks_and_letters) { compose = λ a b. if a == 0x308 && b == 0x301 then Some c else None }

-- U+0308, of ccc 230, splits into U+0062 and U+0323
abbrev pub splitting : Rules
splitting = record (rules_in 1 marks_and_letters) {
  split = λ c. if c == 0x308 then Some (0x62, 0x323) else None;
  height = λ c. if c == 0x308 then 1 else 0;
}

pub record CccOfHookCharacters : Type 0 where
  pub composed_below : cccs_by (composing_to 0x323) (item 0x308 0 ∷ item 0x301 0 ∷ []) ≡ (0x323, 220) ∷ []
  pub composed_letter : cccs_by (composing_to 0x62) (item 0x308 0 ∷ item 0x301 0 ∷ []) ≡ (0x62, 0) ∷ []
  pub split_parts : cccs_by splitting (item 0x61 0 ∷ item 0x308 0 ∷ []) ≡ (0x61, 0) ∷ (0x62, 0) ∷ (0x323, 220) ∷ []
  -- and round two orders by it
  pub split_in_order : cccs_by splitting (item 0x61 0 ∷ item 0x308 0 ∷ item 0x301 0 ∷ item 0x323 0 ∷ [])
      ≡ (0x61, 0) ∷ (0x62, 0) ∷ (0x323, 220) ∷ (0x323, 220) ∷ (0x301, 230) ∷ []

ccc_of_hook_characters : CccOfHookCharacters
unfolding run_settled merge
ccc_of_hook_characters = record { composed_below = refl; composed_letter = refl; split_parts = refl; split_in_order = refl }

-- ---- reorder hooks

-- the first item of the run after the first letter gets another ccc
abbrev pub first_of_ccc : ℕ → Buffer → ℕ → ℕ → Buffer
first_of_ccc ccc b start end = if start == 1 then ccc_set 1 (get_or b.items 1 (new_item 0 0)) ccc b else b

-- the first two items of a run change places
abbrev pub first_two_reversed : Buffer → ℕ → ℕ → Buffer
first_two_reversed b start end = exchanged start (start + 1) b

-- in a mode, with such a hook
abbrev pub reordering : ℕ → (Buffer → ℕ → ℕ → Buffer) → Rules
reordering mode reorder = record (rules_in mode marks_and_letters) { reorder = Some reorder }

-- the same if a CGJ was seen, by characters and whether they are hidden
abbrev pub hidden_by : Rules → List Item → List (ℕ × Bool)
hidden_by rules items =
    map hidden_char (normalized rules (record (buffer_of items) { scratch_flags = record { 0 = 8 } })).items

pub record CccOfReorderedMarks : Type 0 where
  -- the hook is handed the run in its order, and has the last word on it
  pub after_the_order : cccs_by (reordering 1 first_two_reversed) (item 0x61 0 ∷ item 0x301 0 ∷ item 0x323 0 ∷ [])
      ≡ (0x61, 0) ∷ (0x301, 230) ∷ (0x323, 220) ∷ []
  pub keeps_what_it_set : cccs_by (reordering 1 (first_of_ccc 10)) (item 0x61 0 ∷ item 0x301 0 ∷ item 0x323 0 ∷ [])
      ≡ (0x61, 0) ∷ (0x323, 10) ∷ (0x301, 230) ∷ []
  -- round three: U+0301 composes past U+0323, but not once that has the same ccc; and past U+0308 once that has a
  -- smaller one
  pub blocks : cccs_by (reordering 3 (first_of_ccc 230)) (item 0x61 0 ∷ item 0x323 0 ∷ item 0x301 0 ∷ [])
      ≡ (0x61, 0) ∷ (0x323, 230) ∷ (0x301, 230) ∷ []
  pub lets_pass : cccs_by (reordering 3 (first_of_ccc 220)) (item 0x61 0 ∷ item 0x308 0 ∷ item 0x301 0 ∷ [])
      ≡ (0xE1, 0) ∷ (0x308, 220) ∷ []
  -- U+0308 comes to stand before U+0323, and keeps U+0301 from the letter
  pub blocks_before_smaller : cccs_by (reordering 3 first_two_reversed) (item 0x61 0 ∷ item 0x323 0 ∷ item 0x308 0 ∷ item 0x301 0 ∷ [])
      ≡ (0x61, 0) ∷ (0x308, 230) ∷ (0x323, 220) ∷ (0x301, 230) ∷ []
  -- CGJ: what stands before it is of a greater ccc than what stands after, or of a smaller one, once the hook has set
  -- it
  pub keeps_apart : hidden_by (reordering 1 (first_of_ccc 240)) (item 0x61 0 ∷ item 0x323 0 ∷ item 0x34F 0 ∷ item 0x301 0 ∷ [])
      ≡ (0x61, false) ∷ (0x323, false) ∷ (0x34F, true) ∷ (0x301, false) ∷ []
  pub keeps_nothing_apart : hidden_by (reordering 1 (first_of_ccc 10)) (item 0x61 0 ∷ item 0x301 0 ∷ item 0x34F 0 ∷ item 0x323 0 ∷ [])
      ≡ (0x61, false) ∷ (0x301, false) ∷ (0x34F, false) ∷ (0x323, false) ∷ []

ccc_of_reordered_marks : CccOfReorderedMarks
unfolding run_settled merge
ccc_of_reordered_marks = record {
  after_the_order = refl;
  keeps_what_it_set = refl;
  blocks = refl;
  lets_pass = refl;
  blocks_before_smaller = refl;
  keeps_apart = refl;
  keeps_nothing_apart = refl;
}

pub record HooksWorked : Type 0 where
  pub characters : CccOfHookCharacters
  pub reordered : CccOfReorderedMarks

pub hooks_worked : HooksWorked
hooks_worked = record { characters = ccc_of_hook_characters; reordered = ccc_of_reordered_marks }
