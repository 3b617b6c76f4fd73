-- Normalising preserves flags: it copies items, and merges.
use Rattle.std.proofs.Common.{◌≡◌, ◌==◌, ℕ, ◌+◌, ◌-◌, ◌<◌, ◌≤◌, Bool, true, false, if◌then◌else◌, ◌||◌, ◌&&◌, List, [], ◌∷◌, map, take, drop, length}
use Rattle.std.proofs.Common.{get_or, zero, suc, slice_range, Option, None, Some, refl, sym, ap, subst, is_some, arith, ◌∙◌, inl, inr, bit_and}
use Rattle.std.proofs.Common.{nat_lt}
use Rattle.std.specs.List.{AllByRecursion, fold}
use Rattle.std.specs.Option.{option_map_or}
use Rattle.std.proofs.lemmas.Bool.{cases_Bool}
use Rattle.std.proofs.lemmas.Nat.{and_or_apart}
use Rattle.std.proofs.lemmas.List.Sorted.{IsPermutation-swap, list_any-IsPermutation}
use Rattle.std.specs.List.{swap}
use Rattle.shape_items.specs.Buffer.{Buffer}
use Rattle.shape_items.specs.BufferClusters.{merge_clusters, merge_out_clusters}
use Rattle.shape_items.specs.Items.{Item, ccc_of_item}
use Rattle.shape_items.specs.PreservesFlags.{has_flag, some_has, PreservesFlags}
use Rattle.canonical_form.specs.Order.{in_order}
use Rattle.shape_items.specs.UnicodeProps.{with_scratch_of, flag_if, beyond_ascii}
use Rattle.shape_common.specs.Unicode.{UnicodeMeaning}
use Rattle.shape_common.specs.Face.{FaceMeaning}
use Rattle.shape_common.specs.declared.flags.ScratchFlags.{ScratchFlags}
use Rattle.shape_common.specs.declared.text_types.GlyphId.{GlyphId}
use Rattle.shape_items.proofs.Flags.FlagLemmas.{append-cases, take_in, drop_in, PreservesFlags-items, PreservesFlags-same, PreservesFlags-then, merge_clusters_preserves, merge_out_clusters_preserves}
use Rattle.canonical_form.proofs.Ordering.OrderLemmas.{Swaps-in_order}
use Rattle.canonical_form.proofs.Ordering.SwapLemmas.{all-swaps}
use Rattle.shape_normalize.specs.Normalized.{normalized}
use Rattle.shape_plan.specs.Reorder.{exchanged, ccc_set, Reorders}
use Rattle.shape_normalize.specs.Recast.{recast_to, seen_chars}
use Rattle.shape_normalize.specs.RoundOne.{whole_item, expansion_of, variation_sequences_merged, variation_sequences_from, sequences, round_one}
use Rattle.shape_normalize.specs.RoundOne.{remembers_space, seen_emitted, seen_variant, seen_sequence, variants, is_selector_sequence, is_with_marks}
use Rattle.shape_normalize.specs.RoundOne.{with_space_fallback, with_selector_fallback}
use Rattle.shape_items.specs.Spans.{spans_merged_out}
use Rattle.shape_normalize.specs.RoundThree.{Placed, recomposed_items, absorbed_spans, with_cluster_at, round_three, composed_chars}
use Rattle.shape_normalize.specs.RoundTwo.{spans, run_cccs, spans_merged, run_in_order, run_reordered, run_settled, marks_ordered, cgj_unhidden_where_seen, cgj_unhidden}
use Rattle.shape_plan.specs.Rules.{Rules}
use Rattle.shape_normalize.proofs.RoundTwo.CgjLemmas.{keys-cgj_unhidden_where_seen}
use Rattle.shape_normalize.proofs.Normalized.NormalizedLemmas.{preserved_by_rounds}
use Rattle.shape_normalize.proofs.RoundThree.RecomposedItemLemmas.{each_recomposed}
use Rattle.shape_normalize.proofs.Hooks.ReorderLemmas.{LawfulReorder, preserved_by_steps, keys-ccc_set}
use Rattle.shape_normalize.proofs.RoundOne.RoundOneLemmas.{whole_item_is, expanded_all}
use Rattle.shape_normalize.proofs.RoundOne.SelectorLemmas.{variation_sequences_in_order}
use Rattle.shape_items.proofs.MergingInOrder.EachSpanLemmas.{all_merged_preserve, spans_merged_out_is}
use Rattle.shape_normalize.proofs.RoundTwo.RunMarkLemmas.{AreMarks}
use Rattle.shape_normalize.proofs.RoundOne.SequenceLemmas.{each_of_values, each_value}
use Rattle.shape_normalize.proofs.RoundTwo.SettleLemmas.{run_placed, run_placed-in_order, length-run_placed, settled_cases, preserved_by_marks_ordered, Reorders-run_reordered}

-- no item of a list has the flag
abbrev pub Bare : ℕ → List Item → Type 0
Bare flag xs = AllByRecursion (λ item. has_flag flag item ≡ false) xs

head_false : (a b : Bool) → (a || b) ≡ false → a ≡ false
head_false true b none = none
head_false false b none = refl

tail_false : (a b : Bool) → (a || b) ≡ false → b ≡ false
tail_false true b none = absurd (let e : true ≡ false = none in cc)
tail_false false b none = none

bare_of : (flag : ℕ) (xs : List Item) → some_has flag xs ≡ false → Bare flag xs
bare_of flag [] e = tt
bare_of flag (x ∷ xs) e = (head_false (has_flag flag x) _ e, bare_of flag xs (tail_false (has_flag flag x) _ e))

none_of : (flag : ℕ) (xs : List Item) → Bare flag xs → some_has flag xs ≡ false
none_of flag [] bare = refl
none_of flag (x ∷ xs) bare = rw (bare.0, none_of flag xs bare.1) refl

-- a flag that comes was there
brings : (flag : ℕ) (xs ys : List Item) → (Bare flag xs → Bare flag ys) → some_has flag ys ≡ true → some_has flag xs ≡ true
brings flag xs ys h some = elim (cases_Bool (some_has flag xs)) [
  | inl there ↦ there
  | inr none ↦ let bare = none_of flag ys (h (bare_of flag xs none)) in cc
]

PreservesFlags-bare : (b c : Buffer) → c.flags ≡ b.flags → bit_and c.scratch_flags.0 32 ≡ bit_and b.scratch_flags.0 32
    → ((flag : ℕ) → Bare flag b.items → Bare flag c.items) → PreservesFlags b c
PreservesFlags-bare b c flags seen h = record {
  flags = flags;
  stays_set = λ set. ap (λ n. n == 32) seen ∙ set;
  none_new = λ flag d some. inl (brings flag b.items c.items (h flag) some);
}

bare_same : (flag : ℕ) (xs ys : List Item) → map (λ (item : Item). item.mask) ys ≡ map (λ (item : Item). item.mask) xs → Bare flag xs
    → Bare flag ys
bare_same flag xs ys same bare =
    each_of_values (λ (item : Item). item.mask) (λ m. nat_lt 0 (bit_and m flag) ≡ false) ys
    (subst (AllByRecursion (λ m. nat_lt 0 (bit_and m flag) ≡ false)) (sym same)
    (each_value (λ (item : Item). item.mask) (λ m. nat_lt 0 (bit_and m flag) ≡ false) xs bare))

-- ---- scratch flags

seen-fold : {A : Type 0} (f : ScratchFlags → A → ScratchFlags)
    → ((flags : ScratchFlags) (a : A) → bit_and (f flags a).0 32 ≡ bit_and flags.0 32) → (xs : List A) (flags : ScratchFlags)
    → bit_and (fold f flags xs).0 32 ≡ bit_and flags.0 32
seen-fold f h [] flags = refl
seen-fold f h (x ∷ xs) flags = seen-fold f h xs (f flags x) ∙ h flags x

seen-flag_if : (test : Bool) (flag flags : ℕ) → bit_and flag 32 ≡ 0 → bit_and (flag_if test flag flags) 32 ≡ bit_and flags 32
seen-flag_if true flag flags apart = and_or_apart 32 flags flag apart
seen-flag_if false flag flags apart = refl

seen-char : (unicode : UnicodeMeaning) (c : ℕ) (flags : ScratchFlags) → bit_and (with_scratch_of unicode c flags).0 32 ≡ bit_and flags.0 32
seen-char unicode c flags =
    let first = flag_if (beyond_ascii c) 1 flags.0 in
    let second = flag_if (beyond_ascii c && unicode.ignorable c) 2 first in
    seen-flag_if (c == 0x34F) 8 second refl ∙ seen-flag_if (beyond_ascii c && unicode.ignorable c) 2 first refl
    ∙ seen-flag_if (beyond_ascii c) 1 flags.0 refl

seen-chars : (unicode : UnicodeMeaning) (cs : List ℕ) (flags : ScratchFlags)
    → bit_and (seen_chars unicode flags cs).0 32 ≡ bit_and flags.0 32
seen-chars unicode cs flags = seen-fold (λ flags c. with_scratch_of unicode c flags) (λ flags c. seen-char unicode c flags) cs flags

seen-variant : (face : FaceMeaning) (flags : ScratchFlags) (part : List Item)
    → bit_and (seen_variant face flags part).0 32 ≡ bit_and flags.0 32
seen-variant face flags [] = refl
seen-variant face flags (x ∷ []) = refl
seen-variant face flags (x ∷ v ∷ rest) = by_glyph (face.variation_glyph x.codepoint v.codepoint)
  where
    by_glyph : (found : Option GlyphId) → bit_and (if is_some found then flags else with_selector_fallback flags).0 32 ≡ bit_and flags.0 32
    by_glyph (Some g) = refl
    by_glyph None = and_or_apart 32 flags.0 16 refl

module _ (rules : Rules) (invisible : Option GlyphId) where
  seen-expanded : (short : Bool) (flags : ScratchFlags) (item : Item)
      → bit_and (seen_emitted rules invisible short flags item).0 32 ≡ bit_and flags.0 32
  seen-expanded short flags item = by_found (expansion_of rules short item) (remembers_space rules invisible item)
    where
      by_found : (found : Option (List ℕ)) (test : Bool)
          → bit_and (option_map_or (seen_chars rules.unicode flags) found (if test then with_space_fallback flags else flags)).0 32
          ≡ bit_and flags.0 32
      by_found (Some cs) test = seen-chars rules.unicode cs flags
      by_found None true = and_or_apart 32 flags.0 4 refl
      by_found None false = refl

  seen-sequence : (flags : ScratchFlags) (sequence : List Item)
      → bit_and (seen_sequence rules invisible flags sequence).0 32 ≡ bit_and flags.0 32
  seen-sequence flags sequence = by_test (is_selector_sequence rules.unicode sequence)
    where
      by_test : (test : Bool)
          → bit_and (if test then fold (seen_variant rules.face) flags (variants rules.unicode sequence)
          else fold (seen_emitted rules invisible (rules.short (is_with_marks sequence))) flags sequence).0 32 ≡ bit_and flags.0 32
      by_test true = seen-fold (seen_variant rules.face) (seen-variant rules.face) (variants rules.unicode sequence) flags
      by_test false =
          seen-fold (seen_emitted rules invisible (rules.short (is_with_marks sequence)))
          (seen-expanded (rules.short (is_with_marks sequence))) sequence flags

-- ---- merging many spans

flags-spans : (start : ℕ) (parts : List (ℕ × ℕ)) (b : Buffer)
    → PreservesFlags b (fold (λ b span. merge_clusters (start + span.0) (start + span.1) b) b parts)
flags-spans start [] b = PreservesFlags-same b
flags-spans start (span ∷ parts) b =
    let next = merge_clusters (start + span.0) (start + span.1) b in
    PreservesFlags-then b next _ (merge_clusters_preserves (start + span.0) (start + span.1) b) (flags-spans start parts next)

flags-spans_out : (parts : List (ℕ × ℕ)) (b : Buffer) → PreservesFlags b (spans_merged_out parts b)
flags-spans_out [] b = PreservesFlags-same b
flags-spans_out (span ∷ parts) b =
    let next = merge_out_clusters span.0 span.1 b in
    PreservesFlags-then b next (spans_merged_out parts next) (merge_out_clusters_preserves span.0 span.1 b) (flags-spans_out parts next)

-- ---- round one

module _ (rules : Rules) (flag : ℕ) where
  parts_bare : (item : Item) → has_flag flag item ≡ false → (cs : List ℕ)
      → Bare flag (map (recast_to rules.unicode rules.face.nominal_glyph item) cs)
  parts_bare item h [] = tt
  parts_bare item h (c ∷ cs) = (h, parts_bare item h cs)

  found_bare : (invisible : Option GlyphId) (item : Item) → has_flag flag item ≡ false → (found : Option (List ℕ))
      → Bare flag (option_map_or (map (recast_to rules.unicode rules.face.nominal_glyph item)) found (whole_item rules invisible item ∷ []))
  found_bare invisible item h None =
      (whole_item_is rules invisible (λ whole. has_flag flag whole ≡ false) item (λ glyph. h) (λ glyph space. h), tt)
  found_bare invisible item h (Some cs) = parts_bare item h cs

flags-round_one : (rules : Rules) (b : Buffer) → PreservesFlags b (round_one rules b)
flags-round_one rules b =
    let merged = variation_sequences_merged rules b in
    let spans = variation_sequences_from rules.unicode rules.face 0 (sequences b.items) in
    PreservesFlags-then b merged (round_one rules b)
    (all_merged_preserve 0 spans b merged (variation_sequences_in_order rules.unicode rules.face b.items) refl).1
    (PreservesFlags-bare merged (round_one rules b) refl
    (seen-fold (seen_sequence rules b.invisible_glyph) (seen-sequence rules b.invisible_glyph)
    (sequences merged.items) merged.scratch_flags)
    (λ flag. expanded_all rules b.invisible_glyph b.not_found_variation_selector_glyph (λ item. has_flag flag item ≡ false)
    (λ item. has_flag flag item ≡ false)
    (λ item glyph h. h) (λ item glyph h. h) (λ short item h. found_bare rules flag b.invisible_glyph item h
    (expansion_of rules short item)) merged.items))

-- ---- round two

flags-in_order : (start end : ℕ) (b : Buffer) → PreservesFlags b (run_in_order start end b)
flags-in_order start end b =
    let run = slice_range b.items start end in
    PreservesFlags-items b _ (λ flag d some.
    elim (append-cases (has_flag flag) (take start b.items) _ some) [
      | inl before ↦ take_in (has_flag flag) start b.items before
      | inr rest ↦ elim (append-cases (has_flag flag) (in_order ccc_of_item run) (drop end b.items) rest) [
        | inl within ↦ drop_in (has_flag flag) start b.items (take_in (has_flag flag) (end - start) (drop start b.items)
            (brings flag run (in_order ccc_of_item run)
            (all-swaps (λ item. has_flag flag item ≡ false) (Swaps-in_order ccc_of_item run)) within))
        | inr after ↦ drop_in (has_flag flag) end b.items after
      ]
    ])

flags-exchanged : (i j : ℕ) (b : Buffer) → i < length b.items → j < length b.items → PreservesFlags b (exchanged i j b)
flags-exchanged i j b first second =
    PreservesFlags-items b (swap b.items i j) (λ flag d some. list_any-IsPermutation (has_flag flag) b.items (swap b.items i j)
    (IsPermutation-swap b.items (swap b.items i j) i j first second refl) ∙ some)

flags-ccc_set : (i : ℕ) (item : Item) (ccc : ℕ) (b : Buffer) → item ≡ get_or b.items i item → PreservesFlags b (ccc_set i item ccc b)
flags-ccc_set i item ccc b is =
    PreservesFlags-bare b (ccc_set i item ccc b) refl refl
    (λ flag. bare_same flag b.items (ccc_set i item ccc b).items
    (keys-ccc_set (λ (item : Item). item.mask) (λ item ccc. refl) i item ccc b is))

-- what a reorder hook may do
pub flags-Reorders : (start end : ℕ) (b : Buffer) {c : Buffer} → end ≤ length b.items → Reorders start end b c → PreservesFlags b c
flags-Reorders start end b within steps =
    preserved_by_steps start end (λ x. PreservesFlags b x)
    (λ x i j low_i high_i low_j high_j inside so_far. PreservesFlags-then b x (exchanged i j x) so_far
    (flags-exchanged i j x (omega arith) (omega arith)))
    (λ x from to low ordered high inside so_far. PreservesFlags-then b x (merge_clusters from to x) so_far (merge_clusters_preserves from to x))
    (λ x i item ccc low high inside is mark so_far. PreservesFlags-then b x (ccc_set i item ccc x) so_far
    (flags-ccc_set i item ccc x is)) steps within (PreservesFlags-same b)

module _ (reorder : Option (Buffer → ℕ → ℕ → Buffer)) (lawful : LawfulReorder reorder) where
  flags-run_settled : (start end : ℕ) (b : Buffer) → start ≤ end → end ≤ length b.items → AreMarks (slice_range b.items start end)
      → PreservesFlags b (run_settled reorder b (start, end))
  flags-run_settled start end b ordered within marks =
      let merged = spans_merged start end b in
      let placed = run_placed start end b in
      let there : end ≤ length placed.items = rw (length-run_placed start end b ordered) within in
      settled_cases reorder start end b (λ x. PreservesFlags b x)
      (λ few. PreservesFlags-then b placed (run_reordered reorder start end placed)
      (PreservesFlags-then b merged placed (flags-spans start (spans (run_cccs start end b)) b) (flags-in_order start end merged))
      (flags-Reorders start end placed there (Reorders-run_reordered reorder lawful start end placed
      (run_placed-in_order start end b ordered within marks few))))
      (PreservesFlags-same b)

  flags-marks_ordered : (b : Buffer) → PreservesFlags b (marks_ordered reorder b)
  flags-marks_ordered b =
      preserved_by_marks_ordered reorder lawful b (λ c. PreservesFlags b c)
      (λ start end c run within marks so_far. PreservesFlags-then b c (run_settled reorder c (start, end)) so_far
      (flags-run_settled start end c run.ordered within marks))
      (PreservesFlags-same b)

flags-cgj : (b : Buffer) → PreservesFlags b (cgj_unhidden_where_seen b)
flags-cgj b =
    PreservesFlags-bare b (cgj_unhidden_where_seen b) (by_flags (bit_and b.scratch_flags.0 8 == 8)) (by_seen (bit_and b.scratch_flags.0 8 == 8))
    (λ flag. bare_same flag b.items (cgj_unhidden_where_seen b).items (keys-cgj_unhidden_where_seen (λ (item : Item). item.mask) (λ item. refl) b))
  where
    by_flags : (test : Bool) → (if test then record b { items = cgj_unhidden b.items } else b).flags ≡ b.flags
    by_flags true = refl
    by_flags false = refl

    by_seen : (test : Bool)
        → bit_and (if test then record b { items = cgj_unhidden b.items } else b).scratch_flags.0 32 ≡ bit_and b.scratch_flags.0 32
    by_seen true = refl
    by_seen false = refl

-- ---- round three

scratch-spans_out : (parts : List (ℕ × ℕ)) (b : Buffer) → (spans_merged_out parts b).scratch_flags ≡ b.scratch_flags
scratch-spans_out parts b = ap (λ (c : Buffer). c.scratch_flags) (spans_merged_out_is parts b)

module _ (flag : ℕ) where
  bare_at : (items : List Item) (place : ℕ) (other : Item) → Bare flag items → has_flag flag other ≡ false
      → has_flag flag (get_or items place other) ≡ false
  bare_at [] place other each h = h
  bare_at (item ∷ items) zero other each h = each.0
  bare_at (item ∷ items) (suc place) other each h = bare_at items place other each.1 h

  put_out_bare : (items : List Item) → Bare flag items → (out : List Placed)
      → AllByRecursion (λ (p : Placed). has_flag flag p.item ≡ false) out → Bare flag (map (with_cluster_at items) out)
  put_out_bare items bare [] each = tt
  put_out_bare items bare (p ∷ out) each = (bare_at items p.place p.item bare each.0, put_out_bare items bare out each.1)

flags-round_three : (rules : Rules) (b : Buffer) → PreservesFlags b (round_three rules b)
flags-round_three rules b =
    let out = recomposed_items rules b.items in
    let merged = spans_merged_out (absorbed_spans out) b in
    let preserves = flags-spans_out (absorbed_spans out) b in
    let chars = seen-chars rules.unicode (composed_chars out) b.scratch_flags in
    record {
      flags = preserves.flags;
      stays_set = λ set. ap (λ n. n == 32) chars ∙ set;
      none_new = λ flag d some. elim (cases_Bool (some_has flag b.items)) [
        | inl there ↦ inl there
        | inr none ↦ elim (cases_Bool (some_has flag merged.items)) [
          | inl came ↦ elim (preserves.none_new flag d came) [
            | inl there ↦ inl there
            | inr set ↦ inr (ap (λ n. n == 32)
                (chars ∙ ap (λ (s : ScratchFlags). bit_and s.0 32) (sym (scratch-spans_out (absorbed_spans out) b))) ∙ set)
          ]
          | inr still ↦
              let bare = put_out_bare flag merged.items (bare_of flag merged.items still) out
              (each_recomposed rules (λ item. has_flag flag item ≡ false) (λ item c has h. h) b.items (bare_of flag b.items none)) in
              let no_more = none_of flag (map (with_cluster_at merged.items) out) bare in
              cc
        ]
      ];
    }

-- ---- the rounds

pub PreservesFlags-normalized : (rules : Rules) → LawfulReorder rules.reorder → (b : Buffer) → PreservesFlags b (normalized rules b)
PreservesFlags-normalized rules lawful b =
    let one : Buffer = round_one rules b in
    preserved_by_rounds rules (λ c. PreservesFlags b c) b
    (λ so_far. PreservesFlags-then b one (marks_ordered rules.reorder one) so_far (flags-marks_ordered rules.reorder lawful one))
    (λ c so_far. PreservesFlags-then b c (cgj_unhidden_where_seen c) so_far (flags-cgj c))
    (λ c so_far. PreservesFlags-then b c (round_three rules c) so_far (flags-round_three rules c))
    (flags-round_one rules b)
