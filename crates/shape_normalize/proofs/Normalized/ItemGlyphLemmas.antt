-- Each item of a normalised list has the glyph of its character, or what replaces it, or comes from a sequence with a
-- variation selector.
use Rattle.std.proofs.Common.{◌≡◌, ◌⊎◌, ℕ, Bool, true, false, List, [], ◌∷◌, ◌++◌, length, map, Option, None, Some, is_some, unwrap_or, refl, arith, inl, inr}
use Rattle.std.specs.List.{All, AllByRecursion, Contains, flat_map, filter}
use Rattle.std.specs.Option.{option_map, option_map_or}
use Rattle.std.proofs.lemmas.Bool.{cases_Bool}
use Rattle.std.proofs.lemmas.List.Elements.{All-from_recursion, recursion_from_All, All-contains_itself}
use Rattle.std.proofs.lemmas.List.Sums.{AllPass-from_list_all}
use Rattle.shape_items.specs.Items.{Item}
use Rattle.shape_items.specs.Buffer.{Buffer}
use Rattle.shape_common.specs.declared.text_types.GlyphId.{GlyphId}
use Rattle.canonical_form.proofs.Expanding.ChoiceLemmas.{chosen_glyphs}
use Rattle.canonical_form.proofs.Lists.EveryLemmas.{append_all}
use Rattle.shape_plan.specs.Rules.{Rules, decompositions, has_glyph}
use Rattle.shape_normalize.specs.Recast.{recast_to}
use Rattle.shape_normalize.specs.RoundOne.{item_glyph, remembers_space, whole_item, emitted_for, expansion_of, sequences, is_selector_sequence, is_with_marks, variation_sequences_merged, sequence_items, round_one}
use Rattle.shape_normalize.specs.Normalized.{normalized, content, selector_items, HasItemGlyph}
use Rattle.shape_normalize.proofs.Normalized.NormalizedLemmas.{normalized_all}
use Rattle.shape_normalize.proofs.Hooks.ReorderLemmas.{LawfulReorder}
use Rattle.shape_normalize.proofs.RoundOne.SequenceLemmas.{each_of_values, each_weaker}

-- a list of no items has whatever is asked of each
pub all_of_none : {X : Type 0} (P : X → Type 0) (xs : List X) → length xs ≡ 0 → All P xs
all_of_none P xs none = λ k d h. absurd (omega arith)

-- if there is a glyph, no other replaces it
index_of_glyph : (found : Option GlyphId) (n : ℕ) → is_some found ≡ true
    → unwrap_or (option_map (λ g. g.0) found) 0 ≡ option_map_or (λ g. g.0) found n
index_of_glyph None n has = absurd (cc)
index_of_glyph (Some g) n has = refl

-- ---- the expanded list

module _ (rules : Rules) (invisible not_found : Option GlyphId) where
  abbrev HasOwnGlyph : Item → Type 0
  HasOwnGlyph item = item.glyph_index ≡ item_glyph rules invisible item

  pub part_has_glyph : (item : Item) (c : ℕ) → has_glyph rules.face.nominal_glyph c ≡ true
      → HasOwnGlyph (recast_to rules.unicode rules.face.nominal_glyph item c)
  part_has_glyph item c has = index_of_glyph (rules.face.nominal_glyph c) _ has

  parts_have_glyphs : (item : Item) (cs : List ℕ) → AllByRecursion (λ c. has_glyph rules.face.nominal_glyph c ≡ true) cs
      → AllByRecursion HasOwnGlyph (map (recast_to rules.unicode rules.face.nominal_glyph item) cs)
  parts_have_glyphs item [] each = tt
  parts_have_glyphs item (c ∷ cs) each = (part_has_glyph item c each.0, parts_have_glyphs item cs each.1)

  whole_has_glyph : (item : Item) → HasOwnGlyph (whole_item rules invisible item)
  whole_has_glyph item =
      elim (cases_Bool (remembers_space rules invisible item)) [ inl remembers ↦ rw remembers refl | inr forgets ↦ rw forgets refl ]

  found_has_glyphs : (item : Item) (found : Option (List ℕ))
      → ((cs : List ℕ) → found ≡ Some cs → AllByRecursion (λ c. has_glyph rules.face.nominal_glyph c ≡ true) cs)
      → AllByRecursion HasOwnGlyph (option_map_or (map (recast_to rules.unicode rules.face.nominal_glyph item)) found
      (whole_item rules invisible item ∷ []))
  found_has_glyphs item None has = (whole_has_glyph item, tt)
  found_has_glyphs item (Some cs) has = parts_have_glyphs item cs (has cs refl)

  pub item_has_glyphs : (short : Bool) (item : Item) → AllByRecursion HasOwnGlyph (emitted_for rules invisible short item)
  item_has_glyphs short item =
      let has = has_glyph rules.face.nominal_glyph in
      found_has_glyphs item (expansion_of rules short item)
      (λ cs found. recursion_from_All (λ c. has c ≡ true) cs
      (AllPass-from_list_all has cs (chosen_glyphs (decompositions rules) has short item.codepoint cs found)))

  plain_have_glyphs : (short : Bool) (sequence : List Item)
      → AllByRecursion HasOwnGlyph (flat_map (emitted_for rules invisible short) sequence)
  plain_have_glyphs short [] = tt
  plain_have_glyphs short (item ∷ sequence) =
      append_all HasOwnGlyph (emitted_for rules invisible short item) _ (item_has_glyphs short item) (plain_have_glyphs short sequence)

  -- each item of a sequence without a selector has its glyph
  sequence_has_glyphs : (sequence : List Item) → is_selector_sequence rules.unicode sequence ≡ false
      → AllByRecursion HasOwnGlyph (sequence_items rules invisible not_found sequence)
  sequence_has_glyphs sequence none = rw none (plain_have_glyphs (rules.short (is_with_marks sequence)) sequence)

-- what holds of all that the chosen values become, and of all that each other value becomes, holds of what all become
module _ {A B : Type 0} (chosen : A → Bool) (become : A → List B) (P : B → Type 0)
    (others : (x : A) → chosen x ≡ false → AllByRecursion P (become x)) where
  front_and_back : (front back : List B) → AllByRecursion P (front ++ back) → AllByRecursion P front × AllByRecursion P back
  front_and_back [] back each = (tt, each)
  front_and_back (y ∷ front) back each = let later = front_and_back front back each.1 in ((each.0, later.0), later.1)

  chosen_and_others : (values : List A) → AllByRecursion P (flat_map become (filter chosen values))
      → AllByRecursion P (flat_map become values)
  chosen_and_others [] each = tt
  chosen_and_others (x ∷ values) each =
      elim (cases_Bool (chosen x)) [
        | inl is ↦
            let parts = front_and_back (become x) (flat_map become (filter chosen values)) (rw is at each) in
            append_all P (become x) (flat_map become values) parts.0 (chosen_and_others values parts.1)
        | inr other ↦
            append_all P (become x) (flat_map become values) (others x other) (chosen_and_others values (rw other at each))
      ]

module _ (rules : Rules) where
  -- an item of the expanded list has its glyph, or is one of those that sequences with a selector become
  round_one_has_glyphs : (b : Buffer) → AllByRecursion (HasItemGlyph rules b) (round_one rules b).items
  round_one_has_glyphs b =
      let merged = (variation_sequences_merged rules b).items in
      let become = sequence_items rules b.invisible_glyph b.not_found_variation_selector_glyph in
      let those : List Item = map (content rules) (selector_items rules b) in
      let themselves : AllByRecursion (λ item. Contains those (content rules item)) (selector_items rules b) =
      each_of_values (content rules) (Contains those) (selector_items rules b)
      (recursion_from_All (Contains those) those (All-contains_itself those)) in
      chosen_and_others (is_selector_sequence rules.unicode) become (HasItemGlyph rules b)
      (λ sequence none. each_weaker (λ item. item.glyph_index ≡ item_glyph rules b.invisible_glyph item) (HasItemGlyph rules b)
      (λ item own. inl own) (become sequence)
      (sequence_has_glyphs rules b.invisible_glyph b.not_found_variation_selector_glyph sequence none))
      (sequences merged)
      (each_weaker (λ item. Contains those (content rules item)) (HasItemGlyph rules b) (λ item one. inr one)
      (selector_items rules b) themselves)

  module _ (lawful : LawfulReorder rules.reorder) where
    -- each item of the normalised list has its glyph, or comes from a sequence with a selector
    pub normalized_has_glyphs : (b new : Buffer) → new ≡ normalized rules b → All (HasItemGlyph rules b) new.items
    normalized_has_glyphs b new is =
        rw is (All-from_recursion (HasItemGlyph rules b) (normalized rules b).items
        (normalized_all rules lawful (λ kept. (kept.glyph_index ≡ item_glyph rules b.invisible_glyph kept)
        ⊎ Contains (map (content rules) (selector_items rules b)) kept)
        (λ item c has. inl (part_has_glyph rules b.invisible_glyph b.not_found_variation_selector_glyph item c has)) b
        (round_one_has_glyphs b)))
