-- Sequences that hold a variation selector, and the items that become one with it.
use Rattle.std.proofs.Common.{◌≡◌, ℕ, ◌+◌, ◌≤◌, nat_lt, Bool, true, false, if◌then◌else◌, is_some, List, [], ◌∷◌, ◌++◌, length, sum_by, fold, replicate, refl, ap, ap₂, ◌∙◌, arith, rules}
use Rattle.std.proofs.lemmas.List.Sums.{sum_by-cons}
use Rattle.shape_items.specs.Buffer.{Buffer, cleared, limit_of}
use Rattle.shape_common.specs.Face.{FaceMeaning}
use Rattle.shape_items.specs.Items.{Item, is_mark_item}
use Rattle.shape_common.specs.Positions.{zero_position}
use Rattle.shape_items.specs.Spans.{AreSpansInOrder}
use Rattle.shape_common.specs.Unicode.{UnicodeMeaning}
use Rattle.shape_common.specs.declared.flags.ScratchFlags.{ScratchFlags}
use Rattle.canonical_form.proofs.Lists.DividedLemmas.{lengths-divided}
use Rattle.shape_items.proofs.Merging.KeyLemmas.{without_items}
use Rattle.shape_items.proofs.MergingInOrder.EachSpanLemmas.{AreSpansInOrder-lower, AreSpansInOrder-append, without_items-all_merged}
use Rattle.shape_plan.specs.Rules.{Rules}
use Rattle.shape_normalize.specs.RoundOne.{is_with_marks, is_selector_item, is_selector_sequence, variants, sequences, variation_sequence_glyph}
use Rattle.shape_normalize.specs.RoundOne.{variation_sequence_spans, variation_sequences_from, variation_sequences_merged, expanded, seen_sequence}
use Rattle.shape_normalize.specs.RoundOne.{round_one}

-- a sequence has marks if it has more than one item
pub is_with_marks-length : (sequence : List Item) → is_with_marks sequence ≡ nat_lt 1 (length sequence)
is_with_marks-length [] = refl
is_with_marks-length (x ∷ []) = refl
is_with_marks-length (x ∷ y ∷ rest) = search rules

-- ---- the spans of the items that become one with the selector after them

-- a variation sequence has two items
variation_sequence-two : (face : FaceMeaning) (part : List Item) → is_some (variation_sequence_glyph face part) ≡ true
    → 2 ≤ length part
variation_sequence-two face [] some = cc
variation_sequence-two face (x ∷ []) some = cc
variation_sequence-two face (x ∷ v ∷ rest) some = omega arith

one_more_in_order : (face : FaceMeaning) (place size : ℕ) (part : List Item) (more : List (ℕ × ℕ)) → place + length part ≤ size
    → AreSpansInOrder (place + length part) size more
    → AreSpansInOrder place size (if is_some (variation_sequence_glyph face part) then (place, place + 2) ∷ more else more)
one_more_in_order face place size part more within later =
    let behind : AreSpansInOrder place size more = AreSpansInOrder-lower place (place + length part) size more (omega arith) later in
    let P : Bool → Type 0 = λ t. is_some (variation_sequence_glyph face part) ≡ t
    → AreSpansInOrder place size (if t then (place, place + 2) ∷ more else more) in
    let cases : P (is_some (variation_sequence_glyph face part)) = elim (is_some (variation_sequence_glyph face part)) as P [
      | true ↦ λ some. (omega arith, omega arith, omega (arith, within, variation_sequence-two face part some), behind)
      | false ↦ λ none. behind
    ] in
    cases refl

variation_sequence_spans-in_order : (face : FaceMeaning) (place size : ℕ) (parts : List (List Item)) → place + sum_by length parts ≤ size
    → AreSpansInOrder place size (variation_sequence_spans face place parts)
variation_sequence_spans-in_order face place size [] within = tt
variation_sequence_spans-in_order face place size (part ∷ parts) within =
    let all = sum_by-cons length part parts in
    let behind = place + length part in
    one_more_in_order face place size part (variation_sequence_spans face behind parts) (omega (arith, all, within))
    (variation_sequence_spans-in_order face behind size parts (omega (arith, all, within)))

variation_sequences_from-in_order : (unicode : UnicodeMeaning) (face : FaceMeaning) (place size : ℕ) (parts : List (List Item))
    → place + sum_by length parts ≤ size → AreSpansInOrder place size (variation_sequences_from unicode face place parts)
variation_sequences_from-in_order unicode face place size [] within = tt
variation_sequences_from-in_order unicode face place size (sequence ∷ rest) within =
    let all = sum_by-cons length sequence rest in
    let behind = place + length sequence in
    let here = variation_sequence_spans face place (variants unicode sequence) in
    let more = variation_sequences_from unicode face behind rest in
    let as_long : sum_by length (variants unicode sequence) ≡ length sequence = lengths-divided (is_selector_item unicode) sequence in
    let later = variation_sequences_from-in_order unicode face behind size rest (omega (arith, all, within)) in
    elim (is_selector_sequence unicode sequence) as (λ t. AreSpansInOrder place size (if t then here ++ more else more)) [
      | true ↦ AreSpansInOrder-append place behind size here more (omega arith) (omega (arith, all, within))
          (variation_sequence_spans-in_order face place behind (variants unicode sequence) (omega (arith, as_long))) later
      | false ↦ AreSpansInOrder-lower place behind size more (omega arith) later
    ]

-- variation sequences stand in order, and lie in the list
pub variation_sequences_in_order : (unicode : UnicodeMeaning) (face : FaceMeaning) (items : List Item)
    → AreSpansInOrder 0 (length items) (variation_sequences_from unicode face 0 (sequences items))
variation_sequences_in_order unicode face items =
    variation_sequences_from-in_order unicode face 0 (length items) (sequences items) (omega (arith, lengths-divided is_mark_item items))

-- those found in a list that is the buffer's
pub found_in_order : (unicode : UnicodeMeaning) (face : FaceMeaning) (items infos : List Item) (spans : List (ℕ × ℕ)) → infos ≡ items
    → spans ≡ variation_sequences_from unicode face 0 (sequences infos) → AreSpansInOrder 0 (length items) spans
found_in_order unicode face items infos spans same found =
    rw (found, same) (variation_sequences_in_order unicode face items)

-- ---- round one

module _ (rules : Rules) (b merged : Buffer) (is_merged : merged ≡ variation_sequences_merged rules b) where
  settings : without_items merged ≡ without_items b
  settings = ap without_items is_merged ∙ without_items-all_merged (variation_sequences_from rules.unicode rules.face 0 (sequences b.items)) b

  -- merging preserves the limit, and what clearing keeps
  pub limit-merged : limit_of merged ≡ limit_of b
  limit-merged = ap limit_of settings

  pub cleared-merged : cleared merged ≡ cleared b
  cleared-merged = ap cleared settings

  invisible-merged : merged.invisible_glyph ≡ b.invisible_glyph
  invisible-merged = ap (λ (m : Buffer). m.invisible_glyph) settings

  not_found-merged : merged.not_found_variation_selector_glyph ≡ b.not_found_variation_selector_glyph
  not_found-merged = ap (λ (m : Buffer). m.not_found_variation_selector_glyph) settings

  -- what the merged items become is the list of round one
  pub items-round_one : expanded rules merged.invisible_glyph merged.not_found_variation_selector_glyph merged.items
      ≡ (round_one rules b).items
  items-round_one =
      ap₂ (λ invisible not_found. expanded rules invisible not_found merged.items) invisible-merged not_found-merged
      ∙ ap (λ (m : Buffer). expanded rules b.invisible_glyph b.not_found_variation_selector_glyph m.items) is_merged

  flags-round_one : fold (seen_sequence rules merged.invisible_glyph) merged.scratch_flags (sequences merged.items)
      ≡ (round_one rules b).scratch_flags
  flags-round_one =
      ap (λ invisible. fold (seen_sequence rules invisible) merged.scratch_flags (sequences merged.items)) invisible-merged
      ∙ ap (λ (m : Buffer). fold (seen_sequence rules b.invisible_glyph) m.scratch_flags (sequences m.items)) is_merged

  -- and so is the whole buffer
  pub round_one-from_merged : (items : List Item) (flags : ScratchFlags)
      → items ≡ expanded rules merged.invisible_glyph merged.not_found_variation_selector_glyph merged.items
      → flags ≡ fold (seen_sequence rules merged.invisible_glyph) merged.scratch_flags (sequences merged.items)
      → record merged { items = items; positions = replicate (length items) zero_position; scratch_flags = flags } ≡ round_one rules b
  round_one-from_merged items flags items_are flags_are =
      ap (λ (m : Buffer). record m { items = items; positions = replicate (length items) zero_position; scratch_flags = flags }) is_merged
      ∙ ap₂ (λ xs f. record (variation_sequences_merged rules b) { items = xs; positions = replicate (length xs) zero_position; scratch_flags = f })
      (items_are ∙ items-round_one) (flags_are ∙ flags-round_one)
