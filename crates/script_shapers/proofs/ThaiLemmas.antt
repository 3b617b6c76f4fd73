-- Taking SARA AM apart preserves the order of clusters and the flags of glyphs.
use Rattle.std.proofs.Common.{◌≡◌, ℕ, zero, suc, ◌+◌, ◌-◌, ◌<◌, ◌≤◌, ◌==◌, ◌&&◌, ◌||◌, nat_lt, Bool, true, false, if◌then◌else◌, List, [], ◌∷◌, ◌++◌, Option, None, Some, length, take, get_or, refl, ap, sym, subst, ◌∙◌, inl, inr, arith}
use Rattle.std.proofs.lemmas.Bool.{or_right, or_cases}
use Rattle.std.proofs.lemmas.Bool.Decides.{nat_tests}
use Rattle.std.proofs.lemmas.List.{append_assoc, append-nil}
use Rattle.std.proofs.lemmas.List.Sums.{suffix_len-take_yes, suffix_len-take_no}
use Rattle.std.specs.Option.{option_map}
use Rattle.std.specs.List.{find, suffix_len}
use Rattle.shape_common.specs.declared.text_types.BufferClusterLevel.{BufferClusterLevel}
use Rattle.shape_common.specs.declared.text_types.BufferClusterLevel.TheVariants.{MonotoneGraphemes, MonotoneCharacters, Characters}
use Rattle.shape_items.specs.Buffer.{Buffer, limit_of}
use Rattle.shape_items.specs.Clusters.{clusters}
use Rattle.shape_items.specs.ClusterOrder.{IsMonotoneLevel}
use Rattle.shape_items.specs.Items.{Item, new_item}
use Rattle.shape_items.specs.Spans.{AreSpansInOrder}
use Rattle.shape_items.specs.PreservesFlags.{has_flag, some_has}
use Rattle.shape_items.proofs.Flags.FlagLemmas.{PreservesFlags-then}
use Rattle.shape_items.proofs.MergingInOrder.EachSpanLemmas.{AreSpansInOrder-lower, length-spans_merged_out, spans_merged_out_is, spans_merged_out_preserve}
use Rattle.shape_items.proofs.Order.DrawsInOrder.{DrawsInOrder, DrawsInOrder-same, DrawsInOrder-after, DrawsInOrder-again}
use Rattle.shape_buffer.specs.Preservation.{IsClusterPreserving, IsFlagPreserving}
use Rattle.shape_buffer.proofs.Steps.PreservationLemmas.{PreservesOrder-then}
use Rattle.script_shapers.specs.Thai.{is_sara_am, is_base, same, if_sara_am, sara_am_after, nikhahit_before, own_part, is_above_item, both, parted, is_graphemes, merge_start, item_at, span_at, am_spans, merged, sara_am_parted, sara_aa_of}
use Rattle.script_shapers.proofs.PreservationLemmas.{PreservesAll, order-replaced, flags-replaced, BringsNone, found_has, found-in}

-- ---- the spans of SARA AM

abbrev above : List Item → ℕ → ℕ
above items i = suffix_len is_above_item (take i items)

above-next : (items : List Item) (i : ℕ) → i < length items → above items (i + 1) ≤ above items i + 1
above-next items i within = by_last (is_above_item (get_or items (i + 1 - 1) (new_item 0 0))) refl
  where
    by_last : (t : Bool) → is_above_item (get_or items (i + 1 - 1) (new_item 0 0)) ≡ t → above items (i + 1) ≤ above items i + 1
    by_last true e =
        let more = suffix_len-take_yes is_above_item items (i + 1) (new_item 0 0) (omega arith) (omega (arith, within)) e in
        let same : above items (i + 1 - 1) ≡ above items i = ap (above items) (omega arith) in
        omega (arith, more, same)
    by_last false e =
        let none = suffix_len-take_no is_above_item items (i + 1) (new_item 0 0) (omega arith) (omega (arith, within)) e in
        omega (arith, none)

lowest : (c : Bool) (m i : ℕ) → (c ≡ true → m ≡ 0) → (if c then i - 1 else i - m) ≤ i - m
lowest true m i none = let e = none refl in omega (arith, e)
lowest false m i none = omega arith

highest : (c : Bool) (m n i : ℕ) → n ≤ m + 1 → i - m ≤ (if c then i + 1 - 1 else i + 1 - n)
highest true m n i le = omega arith
highest false m n i le = omega (arith, le)

start-low : (level : BufferClusterLevel) (items : List Item) (i : ℕ) → merge_start level items i ≤ i - above items i
start-low level items i =
    lowest ((above items i == 0) && is_graphemes level && nat_lt 0 i) (above items i) i (λ e. grind (arith, nat_tests, e))

-- spans begin in order, whatever the items are
start-next : (level : BufferClusterLevel) (items : List Item) (i : ℕ) → i < length items
    → merge_start level items i ≤ merge_start level items (i + 1)
start-next level items i within =
    let low = start-low level items i in
    let high = highest ((above items (i + 1) == 0) && is_graphemes level && nat_lt 0 (i + 1)) (above items i) (above items (i + 1)) i
    (above-next items i within) in
    omega (arith, low, high)

am_spans-before : (level : BufferClusterLevel) (items : List Item) (n : ℕ) → n ≤ length items → (later : List (ℕ × ℕ))
    → AreSpansInOrder (merge_start level items n) (length items) later
    → AreSpansInOrder 0 (length items) (am_spans level items n ++ later)
am_spans-before level items zero within later h =
    AreSpansInOrder-lower 0 (merge_start level items 0) (length items) later (omega arith) h
am_spans-before level items (suc i) within later h =
    let size = length items in
    let start = merge_start level items i in
    let next : i + 1 ≡ suc i = omega arith in
    let lower : start ≤ merge_start level items (suc i)
    = subst (λ n. start ≤ merge_start level items n) next (start-next level items i (omega (arith, within))) in
    let behind : AreSpansInOrder start size later = AreSpansInOrder-lower start (merge_start level items (suc i)) size later lower h in
    let low = start-low level items i in
    let here : AreSpansInOrder start size (span_at level items i ++ later) =
    elim (is_sara_am (item_at items i).codepoint) as (λ t. AreSpansInOrder start size ((if t then (start, i + 1) ∷ [] else []) ++ later)) [
      | true ↦ (omega arith, omega (arith, low), omega (arith, within), behind)
      | false ↦ behind
    ] in
    subst (AreSpansInOrder 0 size) (sym (append_assoc (am_spans level items i) (span_at level items i) later))
    (am_spans-before level items i (omega (arith, within)) (span_at level items i ++ later) here)

pub am_spans_in_order : (level : BufferClusterLevel) (items : List Item)
    → AreSpansInOrder 0 (length items) (am_spans level items (length items))
am_spans_in_order level items =
    subst (AreSpansInOrder 0 (length items)) (append-nil (am_spans level items (length items)))
    (am_spans-before level items (length items) (omega arith) [] tt)

pub merged-limit : (b : Buffer) → limit_of (merged b) ≡ limit_of b
merged-limit b = ap limit_of (spans_merged_out_is (am_spans b.cluster_level b.items (length b.items)) b)

merged-preserves : (b : Buffer) → PreservesAll b (merged b)
merged-preserves b =
    let spans = am_spans b.cluster_level b.items (length b.items) in
    let rest : merged b ≡ record b { items = (merged b).items } = spans_merged_out_is spans b in
    let both = spans_merged_out_preserve 0 spans b (merged b) (am_spans_in_order b.cluster_level b.items) refl in
    record {
      order = record {
        clusters = both.0;
        direction = ap (λ (c : Buffer). c.direction) rest;
        flags = ap (λ (c : Buffer). c.flags) rest;
        level = ap (λ (c : Buffer). c.cluster_level) rest;
      };
      flags = both.1;
      count = length-spans_merged_out spans b;
    }

own_part-same : (x : Item) → ((own_part x).cluster ≡ x.cluster) × ((own_part x).mask ≡ x.mask)
own_part-same x =
    elim (is_sara_am x.codepoint)
    as (λ t. ((if t then record x { codepoint = sara_aa_of x.codepoint } else x).cluster ≡ x.cluster)
    × ((if t then record x { codepoint = sara_aa_of x.codepoint } else x).mask ≡ x.mask)) [ true ↦ (refl, refl) | false ↦ (refl, refl) ]

-- ---- clusters

at_monotone : (level : BufferClusterLevel) → IsMonotoneLevel level → (x am : Item) → (nikhahit_before level x am).cluster ≡ x.cluster
at_monotone MonotoneGraphemes monotone x am = refl
at_monotone MonotoneCharacters monotone x am = refl
at_monotone Characters monotone x am = absurd monotone

both_draws : (level : BufferClusterLevel) → IsMonotoneLevel level → (x own : Item) → own.cluster ≡ x.cluster → (found : Option Item)
    → (cs : List ℕ) (rest : List Item) → DrawsInOrder cs (clusters rest)
    → DrawsInOrder (x.cluster ∷ cs) (clusters (both (option_map (nikhahit_before level x) found) own ++ rest))
both_draws level monotone x own is None cs rest draws =
    rw is (DrawsInOrder-again x.cluster cs (clusters rest) (DrawsInOrder-after x.cluster cs (clusters rest) draws))
both_draws level monotone x own is (Some am) cs rest draws =
    let once = DrawsInOrder-again x.cluster cs (clusters rest) (DrawsInOrder-after x.cluster cs (clusters rest) draws) in
    rw (at_monotone level monotone x am, is) (DrawsInOrder-again x.cluster cs (x.cluster ∷ clusters rest) once)

parted_draws : (level : BufferClusterLevel) → IsMonotoneLevel level → (after : Bool) (xs : List Item)
    → DrawsInOrder (clusters xs) (clusters (parted level after xs))
parted_draws level monotone after [] = DrawsInOrder-same []
parted_draws level monotone after (x ∷ xs) =
    let rest = parted level (is_above_item x) xs in
    let later = parted_draws level monotone (is_above_item x) xs in
    let is = (own_part-same x).0 in
    elim after as (λ t. DrawsInOrder (x.cluster ∷ clusters xs)
    (clusters (both (if t then None else option_map (nikhahit_before level x) (sara_am_after (x ∷ xs))) (own_part x) ++ rest))) [
      | true ↦ both_draws level monotone x (own_part x) is None (clusters xs) rest later
      | false ↦ both_draws level monotone x (own_part x) is (sara_am_after (x ∷ xs)) (clusters xs) rest later
    ]

pub sara_am_preserves_clusters : IsClusterPreserving sara_am_parted
sara_am_preserves_clusters b monotone =
    let mid = merged b in
    let first = merged-preserves b in
    let level : IsMonotoneLevel mid.cluster_level = subst IsMonotoneLevel (sym first.order.level) monotone in
    PreservesOrder-then b mid _ first.order (order-replaced mid _ (parted_draws mid.cluster_level level false mid.items))

-- ---- flags

same_mask : (flag : ℕ) (x y : Item) → y.mask ≡ x.mask → has_flag flag y ≡ has_flag flag x
same_mask flag x y is = rw is refl

-- SARA AM that was found is one of the items
if_found : (flag : ℕ) (xs : List Item) (found : Option Item) → (found_has flag found ≡ true → some_has flag xs ≡ true)
    → found_has flag (if_sara_am (option_map same found)) ≡ true → some_has flag xs ≡ true
if_found flag xs None holds = λ e. cc
if_found flag xs (Some am) holds =
    elim (is_sara_am am.codepoint) as (λ t. found_has flag (if t then Some am else None) ≡ true → some_has flag xs ≡ true) [
      | true ↦ holds
      | false ↦ λ e. cc
    ]

own_brings : (flag : ℕ) (x own : Item) → own.mask ≡ x.mask → (xs rest : List Item)
    → (some_has flag rest ≡ true → some_has flag xs ≡ true)
    → some_has flag (own ∷ rest) ≡ true → some_has flag (x ∷ xs) ≡ true
own_brings flag x own is xs rest later some =
    elim (or_cases (has_flag flag own) (some_has flag rest) some) [
      | inl here ↦ (let there : has_flag flag x ≡ true = sym (same_mask flag x own is) ∙ here in rw there refl)
      | inr more ↦ or_right (has_flag flag x) (some_has flag xs) (later more)
    ]

both_brings : (level : BufferClusterLevel) (flag : ℕ) (x own : Item) → own.mask ≡ x.mask → (found : Option Item) (xs rest : List Item)
    → (found_has flag (if_sara_am found) ≡ true → some_has flag (x ∷ xs) ≡ true) → (some_has flag rest ≡ true → some_has flag xs ≡ true)
    → some_has flag (both (option_map (nikhahit_before level x) (if_sara_am found)) own ++ rest) ≡ true → some_has flag (x ∷ xs) ≡ true
both_brings level flag x own is found xs rest holds later = cases (if_sara_am found) holds
  where
    cases : (o : Option Item) → (found_has flag o ≡ true → some_has flag (x ∷ xs) ≡ true)
        → some_has flag (both (option_map (nikhahit_before level x) o) own ++ rest) ≡ true → some_has flag (x ∷ xs) ≡ true
    cases None h some = own_brings flag x own is xs rest later some
    cases (Some am) h some = elim (or_cases (has_flag flag am) (has_flag flag own || some_has flag rest) some) [
      | inl here ↦ h here
      | inr more ↦ own_brings flag x own is xs rest later more
    ]

parted_brings : (level : BufferClusterLevel) (after : Bool) (xs : List Item) → BringsNone xs (parted level after xs)
parted_brings level after [] flag = λ some. cc
parted_brings level after (x ∷ xs) flag =
    let rest = parted level (is_above_item x) xs in
    let later = parted_brings level (is_above_item x) xs flag in
    let is = (own_part-same x).1 in
    elim after as (λ t. some_has flag (both (if t then None else option_map (nikhahit_before level x) (sara_am_after (x ∷ xs))) (own_part x) ++ rest)
    ≡ true → some_has flag (x ∷ xs) ≡ true) [
      | true ↦ own_brings flag x (own_part x) is xs rest later
      | false ↦ both_brings level flag x (own_part x) is (option_map same (find is_base (x ∷ xs))) xs rest
          (if_found flag (x ∷ xs) (find is_base (x ∷ xs)) (found-in is_base flag (x ∷ xs))) later
    ]

pub sara_am_preserves_flags : IsFlagPreserving sara_am_parted
sara_am_preserves_flags b =
    let mid = merged b in
    let first = merged-preserves b in
    PreservesFlags-then b mid _ first.flags (flags-replaced mid _ (parted_brings mid.cluster_level false mid.items))
