-- What round one makes of a list: its characters are choices or stay, and each that is brought in has a glyph.
use Rattle.std.proofs.Common.{◌≡◌, ℕ, ◌+◌, ◌⊎◌, inl, inr, Bool, true, false, if◌then◌else◌, List, [], ◌∷◌, map, length, Option, None, Some, unwrap_or, refl, sym, ◌∙◌, ap, subst}
use Rattle.std.specs.List.{AllByRecursion, Contains, flat_map, list_any}
use Rattle.std.specs.Option.{option_map_or}
use Rattle.std.proofs.lemmas.Bool.{cond-false, and_right}
use Rattle.std.proofs.lemmas.List.Elements.{All-from_recursion, recursion_from_All, All-contains_itself}
use Rattle.std.proofs.lemmas.List.Folds.{list_any_none}
use Rattle.canonical_form.proofs.Expanding.ChoiceLemmas.{choice_glyphs}
use Rattle.canonical_form.proofs.Expanding.ExpandedLemmas.{expanded-map}
use Rattle.shape_items.proofs.Merging.KeyLemmas.{IsKey}
use Rattle.shape_items.proofs.MergingInOrder.EachSpanLemmas.{keys-all_merged}
use Rattle.shape_items.specs.Buffer.{Buffer}
use Rattle.canonical_form.specs.Choice.{HasGlyphOrIs}
use Rattle.canonical_form.specs.Expanded.{expanded_in_sequences, expanded_text}
use Rattle.canonical_form.specs.Expansion.{choice}
use Rattle.shape_items.specs.Items.{Item, char_of, is_mark_item}
use Rattle.shape_common.specs.Unicode.{is_mark}
use Rattle.shape_common.specs.declared.text_types.GlyphId.{GlyphId}
use Rattle.shape_normalize.specs.Normalized.{BroughtInHaveGlyphs}
use Rattle.shape_items.specs.Prepared.{IsPreparedItem}
use Rattle.shape_items.specs.Spans.{all_merged}
use Rattle.shape_normalize.specs.Recast.{recast_to}
use Rattle.shape_normalize.specs.RoundOne.{item_glyph, skipped_item, whole_item, remembers_space, emitted_for, expanded, expansion_of}
use Rattle.shape_normalize.specs.RoundOne.{is_selector_item, is_selector_sequence, is_with_marks, marked_selector, variant_items, variants, sequences}
use Rattle.shape_normalize.specs.RoundOne.{sequence_items, variation_sequences_from, variation_sequences_merged, round_one}
use Rattle.shape_plan.specs.Rules.{Rules, decompositions, has_glyph}
use Rattle.shape_normalize.proofs.RoundOne.SequenceLemmas.{each_part, each_of_values, each_value, each_weaker, flat_map_all, flat_map_same, flat_map_parts_all, sequence_becomes, sequences-expanded}

-- ---- merging variation sequences

module _ (rules : Rules) where
  -- what depends on neither clusters nor the defined flags stays
  pub keys-variation_sequences_merged : {B : Type 0} (key : Item → B) → IsKey key → (b : Buffer) → map key (variation_sequences_merged rules b).items ≡ map key b.items
  keys-variation_sequences_merged key is_key b = keys-all_merged key is_key (variation_sequences_from rules.unicode rules.face 0 (sequences b.items)) b

-- ---- what an item becomes

module _ (rules : Rules) (invisible : Option GlyphId) where
  -- what holds of an item whatever its glyph and its fallback type holds of the item that keeps its character
  pub whole_item_is : (P : Item → Type 0) (item : Item) → ((glyph : ℕ) → P (record item { glyph_index = glyph }))
      → ((glyph space : ℕ) → P (record item { glyph_index = glyph; properties = record item.properties { space_type = space } }))
      → P (whole_item rules invisible item)
  whole_item_is P item plain space =
      elim (remembers_space rules invisible item) as (λ t. P (if t
      then record item {
        glyph_index = item_glyph rules invisible item;
        properties = record item.properties { space_type = rules.unicode.space_fallback item.codepoint };
      }
      else record item { glyph_index = item_glyph rules invisible item })) [
        | true ↦ space (item_glyph rules invisible item) (rules.unicode.space_fallback item.codepoint)
        | false ↦ plain (item_glyph rules invisible item)
      ]

  chars-parts : (item : Item) (cs : List ℕ) → map char_of (map (recast_to rules.unicode rules.face.nominal_glyph item) cs) ≡ cs
  chars-parts item [] = refl
  chars-parts item (c ∷ cs) = ap (λ rest. c ∷ rest) (chars-parts item cs)

  chars-found : (item : Item) (found : Option (List ℕ))
      → map char_of (option_map_or (map (recast_to rules.unicode rules.face.nominal_glyph item)) found
      (whole_item rules invisible item ∷ [])) ≡ unwrap_or found (item.codepoint ∷ [])
  chars-found item None =
      ap (λ c. c ∷ []) (whole_item_is (λ whole. char_of whole ≡ item.codepoint) item (λ glyph. refl) (λ glyph space. refl))
  chars-found item (Some cs) = chars-parts item cs

  -- the characters that an item becomes are the choice of its character
  pub chars-emitted_for : (short : Bool) (item : Item)
      → map char_of (emitted_for rules invisible short item)
      ≡ choice (decompositions rules) (has_glyph rules.face.nominal_glyph) short item.codepoint
  chars-emitted_for short item = chars-found item (expansion_of rules short item)

-- ---- what holds of each item

-- what holds of an item carries over to what it becomes: with another glyph, as a marked selector, or expanded
module _ (rules : Rules) (invisible not_found : Option GlyphId) (P Q : Item → Type 0) (takes_glyph : (item : Item) (glyph : ℕ) → P item
    → Q (record item { glyph_index = glyph })) (is_marked : (item : Item) (glyph : ℕ) → P item
    → Q (marked_selector not_found (record item { glyph_index = glyph })))
    (expands : (short : Bool) (item : Item) → P item → AllByRecursion Q (emitted_for rules invisible short item)) where
  skipped_all : (rest : List Item) → AllByRecursion P rest → AllByRecursion Q (map (skipped_item rules.face.nominal_glyph) rest)
  skipped_all [] each = tt
  skipped_all (item ∷ rest) each = (takes_glyph item _ each.0, skipped_all rest each.1)

  variant_all : (part : List Item) → AllByRecursion P part → AllByRecursion Q (variant_items rules.face not_found part)
  variant_all [] each = tt
  variant_all (x ∷ []) each = (takes_glyph x _ each.0, tt)
  variant_all (x ∷ v ∷ rest) each =
      elim (rules.face.variation_glyph x.codepoint v.codepoint) as (λ o. AllByRecursion Q (elim o [
        | Some g ↦ record x { glyph_index = g.0 }
            ∷ map (skipped_item rules.face.nominal_glyph) rest
        | None ↦ skipped_item rules.face.nominal_glyph x
            ∷ marked_selector not_found (skipped_item rules.face.nominal_glyph v) ∷ map (skipped_item rules.face.nominal_glyph) rest
      ])) [
        | Some g ↦ (takes_glyph x g.0 each.0, skipped_all rest each.1.1)
        | None ↦ (takes_glyph x _ each.0, (is_marked v _ each.1.0, skipped_all rest each.1.1))
      ]

  sequence_all : (sequence : List Item) → AllByRecursion P sequence → AllByRecursion Q (sequence_items rules invisible not_found sequence)
  sequence_all sequence each =
      elim (is_selector_sequence rules.unicode sequence) as (λ t. AllByRecursion Q
      (if t then flat_map (variant_items rules.face not_found) (variants rules.unicode sequence)
      else flat_map (emitted_for rules invisible (rules.short (is_with_marks sequence))) sequence)) [
        | true ↦ flat_map_parts_all (is_selector_item rules.unicode) P Q (variant_items rules.face not_found) variant_all sequence each
        | false ↦ flat_map_all P Q (emitted_for rules invisible (rules.short (is_with_marks sequence)))
            (expands (rules.short (is_with_marks sequence))) sequence each
      ]

  pub expanded_all : (items : List Item) → AllByRecursion P items → AllByRecursion Q (expanded rules invisible not_found items)
  expanded_all items each = flat_map_parts_all is_mark_item P Q (sequence_items rules invisible not_found) sequence_all items each

-- ---- characters that are brought in

-- the character of an item is among these, or has a glyph
abbrev IsBroughtIn : Rules → List ℕ → ℕ → Type 0
IsBroughtIn rules among c = (has_glyph rules.face.nominal_glyph c ≡ true) ⊎ Contains among c

module _ (rules : Rules) (among : List ℕ) where
  of_choice : (c d : ℕ) → Contains among c → HasGlyphOrIs (has_glyph rules.face.nominal_glyph) c d → IsBroughtIn rules among d
  of_choice c d here (inl has) = inl has
  of_choice c d here (inr same) = inr (rw same here)

  emitted_for_brings_in : (invisible : Option GlyphId) (short : Bool) (item : Item) → Contains among item.codepoint
      → AllByRecursion (λ new. IsBroughtIn rules among new.codepoint) (emitted_for rules invisible short item)
  emitted_for_brings_in invisible short item here =
      let chosen = choice (decompositions rules) (has_glyph rules.face.nominal_glyph) short item.codepoint in
      let each : AllByRecursion (IsBroughtIn rules among) chosen =
      each_weaker (HasGlyphOrIs (has_glyph rules.face.nominal_glyph) item.codepoint) (IsBroughtIn rules among)
      (λ d. of_choice item.codepoint d here) chosen
      (recursion_from_All (HasGlyphOrIs (has_glyph rules.face.nominal_glyph) item.codepoint) chosen
      (choice_glyphs (decompositions rules) (has_glyph rules.face.nominal_glyph) short item.codepoint)) in
      each_of_values char_of (IsBroughtIn rules among) (emitted_for rules invisible short item)
      (subst (AllByRecursion (IsBroughtIn rules among)) (sym (chars-emitted_for rules invisible short item)) each)

  expanded_brings_in : (invisible not_found : Option GlyphId) (items : List Item) → AllByRecursion (Contains among) (map char_of items)
      → AllByRecursion (IsBroughtIn rules among) (map char_of (expanded rules invisible not_found items))
  expanded_brings_in invisible not_found items each =
      each_value char_of (IsBroughtIn rules among) (expanded rules invisible not_found items)
      (expanded_all rules invisible not_found (λ item. Contains among item.codepoint) (λ new. IsBroughtIn rules among new.codepoint)
      (λ item glyph here. inr here) (λ item glyph here. inr here) (emitted_for_brings_in invisible) items
      (each_of_values char_of (Contains among) items each))

-- every character of the expanded list has a glyph or stands in the list as it was
pub round_one_brings_in : (rules : Rules) (b : Buffer)
    → BroughtInHaveGlyphs rules.face.nominal_glyph (map char_of b.items) (map char_of (round_one rules b).items)
round_one_brings_in rules b =
    let among : List ℕ = map char_of b.items in
    let each : AllByRecursion (Contains among) (map char_of (variation_sequences_merged rules b).items) =
    subst (AllByRecursion (Contains among)) (sym (keys-variation_sequences_merged rules char_of
    (record { by_cluster = λ item cluster. refl; by_break = λ item. refl }) b))
    (recursion_from_All (Contains among) among (All-contains_itself among)) in
    All-from_recursion (IsBroughtIn rules among) (map char_of (round_one rules b).items)
    (expanded_brings_in rules among b.invisible_glyph b.not_found_variation_selector_glyph (variation_sequences_merged rules b).items each)

-- ---- texts without variation selectors

module _ (rules : Rules) where
  -- no item of a list is a variation selector
  abbrev pub HasNoSelectorItem : List Item → Type 0
  HasNoSelectorItem items = AllByRecursion (λ item. is_selector_item rules.unicode item ≡ false) items

  is_selector_sequence-none : (sequence : List Item) → HasNoSelectorItem sequence → is_selector_sequence rules.unicode sequence ≡ false
  is_selector_sequence-none sequence none =
      and_right (is_with_marks sequence) (list_any (is_selector_item rules.unicode) sequence)
      (list_any_none (is_selector_item rules.unicode) sequence
      (All-from_recursion (λ item. is_selector_item rules.unicode item ≡ false) sequence none))

  variation_sequences_from-none : (place : ℕ) (parts : List (List Item)) → AllByRecursion HasNoSelectorItem parts
      → variation_sequences_from rules.unicode rules.face place parts ≡ []
  variation_sequences_from-none place [] none = refl
  variation_sequences_from-none place (sequence ∷ parts) none =
      cond-false _ _ _ (is_selector_sequence-none sequence none.0) ∙ variation_sequences_from-none (place + length sequence) parts none.1

  none_by_sequences : (items : List Item) → HasNoSelectorItem items → AllByRecursion HasNoSelectorItem (sequences items)
  none_by_sequences items none = each_part is_mark_item (λ item. is_selector_item rules.unicode item ≡ false) items none

  -- nothing is merged
  pub variation_sequences_merged-none : (b : Buffer) → HasNoSelectorItem b.items → variation_sequences_merged rules b ≡ b
  variation_sequences_merged-none b none =
      ap (λ spans. all_merged spans b) (variation_sequences_from-none 0 (sequences b.items) (none_by_sequences b.items none))

  -- what an item becomes by whether it stands in a sequence with marks
  abbrev pub item_becomes : Option GlyphId → Bool → Item → List Item
  item_becomes invisible with_marks item = emitted_for rules invisible (rules.short with_marks) item

  -- each item is expanded, by whether it stands in a sequence with marks
  pub expanded-no_selector : (invisible not_found : Option GlyphId) (items : List Item) → HasNoSelectorItem items
      → expanded rules invisible not_found items ≡ expanded_in_sequences is_mark_item (item_becomes invisible) items
  expanded-no_selector invisible not_found items none =
      flat_map_same (sequence_items rules invisible not_found) (sequence_becomes (item_becomes invisible)) (sequences items)
      (each_weaker HasNoSelectorItem (λ sequence. sequence_items rules invisible not_found sequence
      ≡ sequence_becomes (item_becomes invisible) sequence)
      (λ sequence free. cond-false _ _ _ (is_selector_sequence-none sequence free)) (sequences items) (none_by_sequences items none))
      ∙ sequences-expanded (item_becomes invisible) items

  -- the characters of the expanded list are the choices of those of the list
  pub chars-round_one : (b : Buffer) → AllByRecursion (IsPreparedItem rules.unicode) b.items → HasNoSelectorItem b.items
      → map char_of (round_one rules b).items ≡ expanded_text (decompositions rules) (has_glyph rules.face.nominal_glyph)
      (is_mark rules.unicode) rules.short (map char_of b.items)
  chars-round_one b prepared none =
      ap (λ (merged : Buffer). map char_of (expanded rules b.invisible_glyph b.not_found_variation_selector_glyph merged.items))
      (variation_sequences_merged-none b none)
      ∙ ap (map char_of) (expanded-no_selector b.invisible_glyph b.not_found_variation_selector_glyph b.items none)
      ∙ expanded-map (IsPreparedItem rules.unicode) char_of char_of is_mark_item (is_mark rules.unicode) (item_becomes b.invisible_glyph)
      (λ with_marks. choice (decompositions rules) (has_glyph rules.face.nominal_glyph) (rules.short with_marks))
      (λ item prepared. sym prepared.mark) (λ with_marks item prepared. chars-emitted_for rules b.invisible_glyph
      (rules.short with_marks) item)
      b.items prepared
