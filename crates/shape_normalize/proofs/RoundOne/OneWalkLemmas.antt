-- One walk over a list whose sequences are all expanded: item by item it gives what round one gives.
use Rattle.std.proofs.Common.{◌≡◌, ℕ, suc, ◌+◌, ◌<◌, ◌≤◌, ◌==◌, Bool, true, false, List, [], ◌∷◌, ◌++◌, fold, take, drop, set, length, get_or, replicate, Option, refl, sym, ap, ap₂, ◌∙◌, arith, append_assoc, append-nil, add-one, drop-cons}
use Rattle.std.proofs.lemmas.List.{take_more_set, drop-set-lt, take_all, drop_all, length-append}
use Rattle.std.proofs.lemmas.List.Elements.{recursion_from_All, All-from_recursion}
use Rattle.std.proofs.lemmas.Bool.{cond-false, and_right, or_parts}
use Rattle.std.proofs.lemmas.Bool.Decides.{nat_tests}
use Rattle.std.proofs.lemmas.List.Folds.{list_any_none}
use Rattle.std.specs.List.{AllByRecursion, flat_map, list_any}
use Rattle.canonical_form.specs.Expanded.{expanded_from}
use Rattle.canonical_form.proofs.Lists.DividedLemmas.{divided-parts}
use Rattle.shape_items.specs.Buffer.{Buffer, limit_of}
use Rattle.shape_items.specs.Items.{Item, is_mark_item}
use Rattle.shape_common.specs.Positions.{zero_position}
use Rattle.shape_items.specs.Spans.{all_merged}
use Rattle.shape_common.specs.Unicode.{UnicodeMeaning}
use Rattle.shape_common.specs.declared.flags.ScratchFlags.{ScratchFlags}
use Rattle.shape_common.specs.declared.text_types.GlyphId.{GlyphId}
use Rattle.shape_plan.specs.Rules.{Rules}
use Rattle.shape_normalize.specs.RoundOne.{emitted_for, seen_emitted, sequences, is_with_marks, is_selector_item, is_selector_sequence}
use Rattle.shape_normalize.specs.RoundOne.{sequence_items, seen_sequence, variation_sequences_from, variation_sequences_merged, expanded, round_one}
use Rattle.shape_normalize.specs.OneWalk.{HasNoSelectorSequence, item_becomes, stands_with_marks, expanded_after, seen_after}
use Rattle.shape_normalize.specs.RoundTwo.{has_mark_past_first}
use Rattle.shape_normalize.proofs.RoundOne.SequenceLemmas.{each_part, each_weaker, flat_map_same, sequence_becomes, sequences-expanded}

-- ---- the walk

-- what stands after a place begins with the item there
at_place : (items : List Item) (i : ℕ) (x : Item) → i < length items → x ≡ get_or items i x → drop i items ≡ x ∷ drop (i + 1) items
at_place items i x within at = rw (add-one i) (drop-cons items i x within ∙ ap (λ y. y ∷ drop (suc i) items) (sym at))

after_first : (i : ℕ) → (i + 1 == 0) ≡ false
after_first i = grind (arith, nat_tests)

-- a limit that a part passes is passed by the whole
pub passed_by_more : (front back whole : List Item) (limit : ℕ) → front ++ back ≡ whole → limit < length front → limit < length whole
passed_by_more front back whole limit is skipped = omega (arith, ap length is, length-append front back)

module _ (rules : Rules) (invisible : Option GlyphId) where
  -- the items after a place become what the item there becomes, and then what those after it become
  pub after_here : (items : List Item) (i : ℕ) (x : Item) → i < length items → x ≡ get_or items i x
      → expanded_after rules invisible (i == 0) (drop i items)
      ≡ emitted_for rules invisible (rules.short (stands_with_marks (i == 0) (drop i items))) x
      ++ expanded_after rules invisible (i + 1 == 0) (drop (i + 1) items)
  after_here items i x within at = rw (after_first i, at_place items i x within at) refl

  pub seen_here : (items : List Item) (i : ℕ) (x : Item) (flags : ScratchFlags) → i < length items → x ≡ get_or items i x
      → seen_after rules invisible (i == 0) flags (drop i items)
      ≡ seen_after rules invisible (i + 1 == 0)
      (seen_emitted rules invisible (rules.short (stands_with_marks (i == 0) (drop i items))) flags x) (drop (i + 1) items)
  seen_here items i x flags within at = rw (after_first i, at_place items i x within at) refl

  -- an item that stays whole is written where it stands
  pub placed_more : (items : List Item) (i : ℕ) (x w : Item) → i < length items → x ≡ get_or items i x
      → emitted_for rules invisible (rules.short (stands_with_marks (i == 0) (drop i items))) x ≡ w ∷ []
      → take (i + 1) (set items i w) ++ expanded_after rules invisible (i + 1 == 0) (drop (i + 1) (set items i w))
      ≡ take i items ++ expanded_after rules invisible (i == 0) (drop i items)
  placed_more items i x w within at stays =
      let rest = expanded_after rules invisible (i + 1 == 0) (drop (i + 1) items) in
      let front : take (i + 1) (set items i w) ≡ take i items ++ w ∷ [] = take_more_set items i w within in
      let back : drop (i + 1) (set items i w) ≡ drop (i + 1) items = drop-set-lt (i + 1) items i w (omega arith) in
      ap₂ (λ xs ys. xs ++ expanded_after rules invisible (i + 1 == 0) ys) front back
      ∙ append_assoc (take i items) (w ∷ []) rest
      ∙ ap (λ xs. take i items ++ (xs ++ rest)) (sym stays)
      ∙ ap (λ xs. take i items ++ xs) (sym (after_here items i x within at))

  pub seen_more : (items : List Item) (i : ℕ) (x w : Item) (flags : ScratchFlags) → i < length items → x ≡ get_or items i x
      → seen_after rules invisible (i + 1 == 0)
      (seen_emitted rules invisible (rules.short (stands_with_marks (i == 0) (drop i items))) flags x) (drop (i + 1) (set items i w))
      ≡ seen_after rules invisible (i == 0) flags (drop i items)
  seen_more items i x w flags within at =
      let back : drop (i + 1) (set items i w) ≡ drop (i + 1) items = drop-set-lt (i + 1) items i w (omega arith) in
      rw back (sym (seen_here items i x flags within at))

  -- if nothing stands after a place
  pub placed_all : (items : List Item) (n : ℕ) (first : Bool) → length items ≤ n
      → take n items ++ expanded_after rules invisible first (drop n items) ≡ items
  placed_all items n first all = rw (take_all n items all, drop_all n items all) (append-nil items)

  pub seen_all : (items : List Item) (n : ℕ) (first : Bool) (flags : ScratchFlags) → length items ≤ n
      → seen_after rules invisible first flags (drop n items) ≡ flags
  seen_all items n first flags all = rw (drop_all n items all) refl

  -- ---- round one by items

  -- the scratch flags go through a list of steps, one for each item
  abbrev steps : Bool → Item → List (ScratchFlags → ScratchFlags)
  steps with_marks item = (λ flags. seen_emitted rules invisible (rules.short with_marks) flags item) ∷ []

  abbrev taken : ScratchFlags → List (ScratchFlags → ScratchFlags) → ScratchFlags
  taken flags list = fold (λ flags step. step flags) flags list

  taken-after : (first : Bool) (flags : ScratchFlags) (items : List Item)
      → taken flags (expanded_from is_mark_item steps first items) ≡ seen_after rules invisible first flags items
  taken-after first flags [] = refl
  taken-after first flags (x ∷ rest) =
      taken-after false (seen_emitted rules invisible (rules.short (stands_with_marks first (x ∷ rest))) flags x) rest

  taken-append : (flags : ScratchFlags) (front back : List (ScratchFlags → ScratchFlags)) → taken flags (front ++ back) ≡ taken (taken flags front) back
  taken-append flags [] back = refl
  taken-append flags (step ∷ front) back = taken-append (step flags) front back

  taken-items : (with_marks : Bool) (flags : ScratchFlags) (items : List Item)
      → taken flags (flat_map (steps with_marks) items) ≡ fold (seen_emitted rules invisible (rules.short with_marks)) flags items
  taken-items with_marks flags [] = refl
  taken-items with_marks flags (x ∷ rest) = taken-items with_marks (seen_emitted rules invisible (rules.short with_marks) flags x) rest

  seen-parts : (flags : ScratchFlags) (parts : List (List Item)) → AllByRecursion (λ sequence. is_selector_sequence rules.unicode sequence ≡ false) parts
      → fold (seen_sequence rules invisible) flags parts ≡ taken flags (flat_map (sequence_becomes steps) parts)
  seen-parts flags [] none = refl
  seen-parts flags (sequence ∷ parts) none =
      let here : seen_sequence rules invisible flags sequence ≡ taken flags (sequence_becomes steps sequence) =
      cond-false _ _ _ none.0 ∙ sym (taken-items (is_with_marks sequence) flags sequence) in
      ap (λ flags. fold (seen_sequence rules invisible) flags parts) here
      ∙ seen-parts (taken flags (sequence_becomes steps sequence)) parts none.1
      ∙ sym (taken-append flags (sequence_becomes steps sequence) (flat_map (sequence_becomes steps) parts))

  module _ (items : List Item) (none : HasNoSelectorSequence rules.unicode items) where
    parts_none : AllByRecursion (λ sequence. is_selector_sequence rules.unicode sequence ≡ false) (sequences items)
    parts_none = recursion_from_All (λ sequence. is_selector_sequence rules.unicode sequence ≡ false) (sequences items) none

    pub expanded-one_walk : (not_found : Option GlyphId)
        → expanded rules invisible not_found items ≡ expanded_after rules invisible true items
    expanded-one_walk not_found =
        flat_map_same (sequence_items rules invisible not_found) (sequence_becomes (item_becomes rules invisible)) (sequences items)
        (each_weaker (λ sequence. is_selector_sequence rules.unicode sequence ≡ false)
        (λ sequence. sequence_items rules invisible not_found sequence ≡ sequence_becomes (item_becomes rules invisible) sequence)
        (λ sequence free. cond-false _ _ _ free) (sequences items) parts_none)
        ∙ sequences-expanded (item_becomes rules invisible) items

    pub seen-one_walk : (flags : ScratchFlags)
        → fold (seen_sequence rules invisible) flags (sequences items) ≡ seen_after rules invisible true flags items
    seen-one_walk flags =
        seen-parts flags (sequences items) parts_none ∙ ap (taken flags) (sequences-expanded steps items) ∙ taken-after true flags items

  no_spans : (place : ℕ) (parts : List (List Item)) → AllByRecursion (λ sequence. is_selector_sequence rules.unicode sequence ≡ false) parts
      → variation_sequences_from rules.unicode rules.face place parts ≡ []
  no_spans place [] none = refl
  no_spans place (sequence ∷ parts) none = cond-false _ _ _ none.0 ∙ no_spans (place + length sequence) parts none.1

-- nothing is merged, and what the walk leaves is round one's
module _ (rules : Rules) (b : Buffer) (none : HasNoSelectorSequence rules.unicode b.items) where
  merged_none : variation_sequences_merged rules b ≡ b
  merged_none =
      ap (λ spans. all_merged spans b) (no_spans rules b.invisible_glyph 0 (sequences b.items) (parts_none rules b.invisible_glyph b.items none))

  pub round_one-one_walk : (items : List Item) (flags : ScratchFlags) → items ≡ expanded_after rules b.invisible_glyph true b.items
      → flags ≡ seen_after rules b.invisible_glyph true b.scratch_flags b.items
      → record b { items = items; positions = replicate (length items) zero_position; scratch_flags = flags } ≡ round_one rules b
  round_one-one_walk items flags items_are flags_are =
      ap₂ (λ xs f. record b { items = xs; positions = replicate (length xs) zero_position; scratch_flags = f })
      (items_are ∙ sym (expanded-one_walk rules b.invisible_glyph b.items none b.not_found_variation_selector_glyph))
      (flags_are ∙ sym (seen-one_walk rules b.invisible_glyph b.items none b.scratch_flags))
      ∙ ap (λ (m : Buffer). record m {
        items = expanded rules b.invisible_glyph b.not_found_variation_selector_glyph m.items;
        positions = replicate (length (expanded rules b.invisible_glyph b.not_found_variation_selector_glyph m.items)) zero_position;
        scratch_flags = fold (seen_sequence rules b.invisible_glyph) m.scratch_flags (sequences m.items);
      }) (sym merged_none)

  pub items_round_one-one_walk : (round_one rules b).items ≡ expanded_after rules b.invisible_glyph true b.items
  items_round_one-one_walk =
      ap (λ (m : Buffer). expanded rules b.invisible_glyph b.not_found_variation_selector_glyph m.items) merged_none
      ∙ expanded-one_walk rules b.invisible_glyph b.items none b.not_found_variation_selector_glyph

-- what the two parts of the walk leave: `placed` is the buffer after the walk in place, which came to place `n`
module _ (rules : Rules) (old placed : Buffer) (n : ℕ) (none : HasNoSelectorSequence rules.unicode old.items)
    (is : take n placed.items ++ expanded_after rules old.invisible_glyph (n == 0) (drop n placed.items)
    ≡ expanded_after rules old.invisible_glyph true old.items)
    (rest : placed ≡ record old { items = placed.items; scratch_flags = placed.scratch_flags }) where
  invisible : placed.invisible_glyph ≡ old.invisible_glyph
  invisible = ap (λ (m : Buffer). m.invisible_glyph) rest

  pub limit-placed : limit_of placed ≡ limit_of old
  limit-placed = ap limit_of rest

  -- it came to the end
  pub counts_whole : length placed.items ≤ n → (limit : ℕ) → limit < length placed.items → limit < length (round_one rules old).items
  counts_whole all limit skipped =
      let whole : placed.items ≡ (round_one rules old).items =
      sym (placed_all rules old.invisible_glyph placed.items n (n == 0) all) ∙ is ∙ sym (items_round_one-one_walk rules old none) in
      omega (arith, ap length whole)

  pub placed_whole : length placed.items ≤ n
      → seen_after rules old.invisible_glyph (n == 0) placed.scratch_flags (drop n placed.items)
      ≡ seen_after rules old.invisible_glyph true old.scratch_flags old.items
      → record placed { positions = replicate (length placed.items) zero_position } ≡ round_one rules old
  placed_whole all seen =
      ap (λ (m : Buffer). record m { positions = replicate (length placed.items) zero_position }) rest
      ∙ round_one-one_walk rules old none placed.items placed.scratch_flags
      (sym (placed_all rules old.invisible_glyph placed.items n (n == 0) all) ∙ is)
      (sym (seen_all rules old.invisible_glyph placed.items n (n == 0) placed.scratch_flags all) ∙ seen)

  -- it went on into a list of its own
  on : take n placed.items ++ expanded_after rules placed.invisible_glyph (n == 0) (drop n placed.items)
      ≡ expanded_after rules old.invisible_glyph true old.items
  on = ap (λ g. take n placed.items ++ expanded_after rules g (n == 0) (drop n placed.items)) invisible ∙ is

  pub counts_on : limit_of placed < length (take n placed.items ++ expanded_after rules placed.invisible_glyph (n == 0) (drop n placed.items))
      → limit_of old < length (round_one rules old).items
  counts_on skipped =
      let whole = on ∙ sym (items_round_one-one_walk rules old none) in
      omega (arith, ap length whole, limit-placed)

  pub placed_on : (items : List Item) (flags : ScratchFlags)
      → seen_after rules old.invisible_glyph (n == 0) placed.scratch_flags (drop n placed.items)
      ≡ seen_after rules old.invisible_glyph true old.scratch_flags old.items
      → items ≡ take n placed.items ++ expanded_after rules placed.invisible_glyph (n == 0) (drop n placed.items)
      → flags ≡ seen_after rules placed.invisible_glyph (n == 0) placed.scratch_flags (drop n placed.items)
      → record placed { items = items; positions = replicate (length items) zero_position; scratch_flags = flags } ≡ round_one rules old
  placed_on items flags seen items_are flags_are =
      ap (λ (m : Buffer). record m { items = items; positions = replicate (length items) zero_position; scratch_flags = flags }) rest
      ∙ round_one-one_walk rules old none items flags (items_are ∙ on)
      (flags_are ∙ ap (λ g. seen_after rules g (n == 0) placed.scratch_flags (drop n placed.items)) invisible ∙ seen)

-- ---- which lists have no sequence that isn't expanded

module _ (unicode : UnicodeMeaning) where
  -- without marks past the first item each sequence is one item
  lone_sequences : (x : Item) (rest : List Item) → list_any is_mark_item rest ≡ false
      → AllByRecursion (λ sequence. is_selector_sequence unicode sequence ≡ false) (sequences (x ∷ rest))
  lone_sequences x [] unmarked = (refl, tt)
  lone_sequences x (y ∷ rest) unmarked =
      let parts = or_parts (is_mark_item y) (list_any is_mark_item rest) unmarked in
      rw (divided-parts is_mark_item x y rest parts.0) (refl, lone_sequences y rest parts.1)

  pub none-unmarked : (items : List Item) → has_mark_past_first items ≡ false → HasNoSelectorSequence unicode items
  none-unmarked [] unmarked = All-from_recursion (λ sequence. is_selector_sequence unicode sequence ≡ false) [] tt
  none-unmarked (x ∷ rest) unmarked =
      All-from_recursion (λ sequence. is_selector_sequence unicode sequence ≡ false) (sequences (x ∷ rest)) (lone_sequences x rest unmarked)

none_any : (test : Item → Bool) (items : List Item) → list_any test items ≡ false → AllByRecursion (λ item. test item ≡ false) items
none_any test [] none = tt
none_any test (x ∷ rest) none = let parts = or_parts (test x) (list_any test rest) none in (parts.0, none_any test rest parts.1)

-- and so has none a list without selectors
pub none-unselected : (unicode : UnicodeMeaning) (items : List Item) → list_any (is_selector_item unicode) items ≡ false
    → HasNoSelectorSequence unicode items
none-unselected unicode items unselected =
    let P = λ (item : Item). is_selector_item unicode item ≡ false in
    let Q = λ (sequence : List Item). is_selector_sequence unicode sequence ≡ false in
    All-from_recursion Q (sequences items)
    (each_weaker (λ sequence. AllByRecursion P sequence) Q
    (λ sequence each. and_right (is_with_marks sequence) (list_any (is_selector_item unicode) sequence)
    (list_any_none (is_selector_item unicode) sequence (All-from_recursion P sequence each)))
    (sequences items) (each_part is_mark_item P items (none_any (is_selector_item unicode) items unselected)))
