-- If no CGJ was seen by the end of round one, none is unhidden: hidden bits are those of characters, or of the text.
use Rattle.std.proofs.Common.{◌≡◌, ℕ, ◌+◌, ◌≤◌, ◌==◌, ◌&&◌, bit_and, Bool, true, false, if◌then◌else◌, ◌⊎◌, inl, inr, List, [], ◌∷◌, map, fold, length, slice_range, Option, None, Some, refl, sym, ap, subst, ◌∙◌}
use Rattle.std.specs.List.{AllByRecursion, Contains}
use Rattle.std.specs.Option.{option_map_or}
use Rattle.std.proofs.lemmas.Bool.{cond-false}
use Rattle.std.proofs.lemmas.List.Elements.{All-from_recursion, recursion_from_All, All-contains_itself}
use Rattle.std.proofs.lemmas.Nat.{and_or_apart}
use Rattle.shape_items.specs.Buffer.{Buffer}
use Rattle.shape_items.specs.BufferClusters.{merge_clusters}
use Rattle.shape_items.specs.Items.{Item}
use Rattle.shape_items.specs.UnicodeProps.{is_hidden_char}
use Rattle.shape_common.specs.declared.text_types.GlyphId.{GlyphId}
use Rattle.shape_items.proofs.Merging.ClusterLemmas.{unsafe_to_break-cases, merge_clusters-cases}
use Rattle.shape_items.proofs.Merging.KeyLemmas.{IsKey}
use Rattle.shape_normalize.specs.Normalized.{ordered, normalized, hidden_char, PreservesHidden}
use Rattle.shape_normalize.specs.Recast.{recast_to}
use Rattle.shape_normalize.specs.RoundOne.{whole_item, expansion_of, variation_sequences_merged, round_one}
use Rattle.shape_normalize.specs.RoundThree.{round_three}
use Rattle.shape_normalize.specs.RoundTwo.{spans, run_cccs, run_settled, marks_ordered, has_mark_past_first, has_seen_cgj, cgj_unhidden, cgj_unhidden_where_seen}
use Rattle.shape_plan.specs.Rules.{Rules}
use Rattle.shape_normalize.proofs.RoundThree.RecomposedItemLemmas.{round_three_all}
use Rattle.shape_normalize.proofs.Hooks.ReorderLemmas.{LawfulReorder, preserved_by_steps}
use Rattle.shape_normalize.proofs.RoundOne.RoundOneLemmas.{keys-variation_sequences_merged, whole_item_is, expanded_all}
use Rattle.shape_normalize.proofs.RoundOne.SequenceLemmas.{each_of_values, each_value}
use Rattle.shape_normalize.proofs.RoundTwo.RunMarkLemmas.{AreMarks}
use Rattle.shape_normalize.proofs.RoundTwo.SettleLemmas.{run_placed, run_placed-in_order, length-run_placed, settled_cases, Reorders-run_reordered, preserved_by_marks_ordered, keys-marks_ordered}

-- ---- ordering sees no CGJ

-- the flag of CGJ
abbrev cgj_flag : Buffer → ℕ
cgj_flag b = bit_and b.scratch_flags.0 8

flag-merge_clusters : (start end : ℕ) (b : Buffer) → cgj_flag (merge_clusters start end b) ≡ cgj_flag b
flag-merge_clusters start end b =
    let Kept : Buffer → Type 0 = λ c. cgj_flag c ≡ cgj_flag b in
    let marked = unsafe_to_break-cases Kept start end b (λ long. and_or_apart 8 b.scratch_flags.0 32 refl) refl in
    merge_clusters-cases Kept start end b (λ monotone. refl) (λ is. marked)

flag-merged : (start : ℕ) (b : Buffer) (ps : List (ℕ × ℕ))
    → cgj_flag (fold (λ (b : Buffer) (span : ℕ × ℕ). merge_clusters (start + span.0) (start + span.1) b) b ps) ≡ cgj_flag b
flag-merged start b [] = refl
flag-merged start b (p ∷ ps) =
    flag-merged start (merge_clusters (start + p.0) (start + p.1) b) ps ∙ flag-merge_clusters (start + p.0) (start + p.1) b

module _ (reorder : Option (Buffer → ℕ → ℕ → Buffer)) (lawful : LawfulReorder reorder) where
  flag-run_settled : (start end : ℕ) (b : Buffer) → start ≤ end → end ≤ length b.items → AreMarks (slice_range b.items start end)
      → cgj_flag (run_settled reorder b (start, end)) ≡ cgj_flag b
  flag-run_settled start end b rising within marks =
      let placed : Buffer = run_placed start end b in
      let inside : end ≤ length placed.items = rw (length-run_placed start end b rising) within in
      settled_cases reorder start end b (λ c. cgj_flag c ≡ cgj_flag b)
      (λ few. preserved_by_steps start end (λ x. cgj_flag x ≡ cgj_flag b)
      (λ x i j low_i high_i low_j high_j long so_far. so_far) (λ x from to low up high long so_far. flag-merge_clusters from to x ∙ so_far)
      (λ x i item ccc low high long is mark so_far. so_far)
      (Reorders-run_reordered reorder lawful start end placed (run_placed-in_order start end b rising within marks few)) inside
      (flag-merged start b (spans (run_cccs start end b)))) refl

  pub flag-marks_ordered : (b : Buffer) → cgj_flag (marks_ordered reorder b) ≡ cgj_flag b
  flag-marks_ordered b =
      preserved_by_marks_ordered reorder lawful b (λ c. cgj_flag c ≡ cgj_flag b)
      (λ start end c run within marks so_far. flag-run_settled start end c run.ordered within marks ∙ so_far) refl

-- if no CGJ was seen, none is unhidden
pub cgj_unseen : (b : Buffer) → has_seen_cgj b ≡ false → cgj_unhidden_where_seen b ≡ b
cgj_unseen b unseen = cond-false _ (record b { items = cgj_unhidden b.items }) b unseen

-- ---- hidden bits

pub IsKey-hidden_char : IsKey hidden_char
IsKey-hidden_char = record { by_cluster = λ item cluster. refl; by_break = λ item. refl }

module _ (rules : Rules) (those : List (ℕ × Bool)) where
  -- the hidden bit is that of the character, or the two are among these
  abbrev Hides : ℕ × Bool → Type 0
  Hides k = (k.1 ≡ is_hidden_char k.0) ⊎ Contains those k

  abbrev EachHides : List Item → Type 0
  EachHides items = AllByRecursion (λ item. Hides (hidden_char item)) items

  parts_hide : (item : Item) (cs : List ℕ) → EachHides (map (recast_to rules.unicode rules.face.nominal_glyph item) cs)
  parts_hide item [] = tt
  parts_hide item (c ∷ cs) = (inl refl, parts_hide item cs)

  found_hide : (invisible : Option GlyphId) (item : Item) → Contains those (hidden_char item) → (found : Option (List ℕ))
      → EachHides (option_map_or (map (recast_to rules.unicode rules.face.nominal_glyph item)) found (whole_item rules invisible item ∷ []))
  found_hide invisible item h None =
      (whole_item_is rules invisible (λ whole. Hides (hidden_char whole)) item (λ glyph. inr h) (λ glyph space. inr h), tt)
  found_hide invisible item h (Some cs) = parts_hide item cs

  round_one_hides : (b : Buffer) → AllByRecursion (Contains those) (map hidden_char b.items) → EachHides (round_one rules b).items
  round_one_hides b each =
      let merged = (variation_sequences_merged rules b).items in
      let of_merged = subst (AllByRecursion (Contains those)) (sym (keys-variation_sequences_merged rules hidden_char IsKey-hidden_char b)) each in
      expanded_all rules b.invisible_glyph b.not_found_variation_selector_glyph (λ item. Contains those (hidden_char item))
      (λ item. Hides (hidden_char item))
      (λ item glyph h. inr h) (λ item glyph h. inr h) (λ short item h. found_hide b.invisible_glyph item h (expansion_of rules short item))
      merged (each_of_values hidden_char (Contains those) merged of_merged)

  module _ (lawful : LawfulReorder rules.reorder) where
    ordered_hides : (one : Buffer) (test : Bool) → has_seen_cgj one ≡ false → EachHides one.items
        → EachHides (cgj_unhidden_where_seen (if test then marks_ordered rules.reorder one else one)).items
    ordered_hides one true unseen each =
        let marked : Buffer = marks_ordered rules.reorder one in
        subst (λ (c : Buffer). EachHides c.items)
        (sym (cgj_unseen marked (ap (λ flag. flag == 8) (flag-marks_ordered rules.reorder lawful one) ∙ unseen)))
        (each_of_values hidden_char Hides marked.items (keys-marks_ordered rules.reorder lawful hidden_char IsKey-hidden_char
        (λ f is item ccc. refl) Hides one (each_value hidden_char Hides one.items each)))
    ordered_hides one false unseen each = subst (λ (c : Buffer). EachHides c.items) (sym (cgj_unseen one unseen)) each

    recomposed_hides : (test : Bool) (c : Buffer) → EachHides c.items → EachHides (if test then round_three rules c else c).items
    recomposed_hides true c each =
        round_three_all rules (λ item. Hides (hidden_char item)) (λ item cluster mask h. h) (λ item d has h. inl refl) c each
    recomposed_hides false c each = each

    normalized_hides : (b : Buffer) → has_seen_cgj (round_one rules b) ≡ false → AllByRecursion (Contains those) (map hidden_char b.items)
        → EachHides (normalized rules b).items
    normalized_hides b unseen each =
        recomposed_hides (has_mark_past_first b.items && rules.recomposes) (ordered rules b)
        (ordered_hides (round_one rules b) (has_mark_past_first b.items) unseen (round_one_hides b each))

-- if no CGJ was seen, hidden bits are those of characters, or of the text
pub normalized_preserves_hidden : (rules : Rules) → LawfulReorder rules.reorder → (b new : Buffer) → new ≡ normalized rules b
    → PreservesHidden rules b new
normalized_preserves_hidden rules lawful b new is = λ unseen.
    let those : List (ℕ × Bool) = map hidden_char b.items in
    let all : List Item = (normalized rules b).items in
    rw is (All-from_recursion (λ item. (item.properties.hidden ≡ is_hidden_char item.codepoint) ⊎ Contains those (hidden_char item)) all
    (normalized_hides rules those lawful b unseen (recursion_from_All (Contains those) those (All-contains_itself those))))
