-- What holds of the runs of any text: they cover it, each begins with a cluster, and none agrees with the next.
use Rattle.std.proofs.Common.{◌≡◌, ℕ, ◌+◌, ◌<◌, ◌==◌, ◌||◌, true, false, Bool, List, [], ◌∷◌, length, drop, refl, ap, sym, subst, arith, inl, inr, eq-eqb, length-append}
use Rattle.std.specs.Prelude.{All}
use Rattle.std.specs.List.{concat, list_any}
use Rattle.std.specs.Str.{chars, IsUtf8}
use Rattle.std.proofs.lemmas.Bool.{cases_Bool, cond-true, cond-false}
use Rattle.std.proofs.lemmas.List.Elements.{All-cons, All-head, All-nil, All-tail, All-weaker}
use Rattle.unicode_segmentation.specs.Grapheme.{graphemes, is_grapheme_break}
use Rattle.unicode_segmentation.specs.Segments.{with_offsets}
use Rattle.unicode_segmentation.proofs.SegmentsLemmas.{AllPieces, concat-segments, segments_nonempty}
use Rattle.text_items.specs.Clusters.{cluster_by, clusters_from, clusters_of}
use Rattle.text_items.specs.Items.{is_same, items_of, joined, joined_from, single, singles, singles_from}
use Rattle.text_items.specs.Laws.{AreApart, BeginsCluster, Covers}
use Rattle.text_items.specs.Scripts.{Context, context_of, first_script, stepped, with_next}
use Rattle.text_items.specs.declared.items.Item.{Item}
use Rattle.text_items.specs.declared.ranges.NumberedRange.{NumberedRange}

-- ---- the runs of single clusters cover the text

singles_cover : (levels : List ℕ) (languages features : List NumberedRange) (start : ℕ) (pieces : List (List ℕ)) (context : Context) (to : ℕ)
    → start + length (concat pieces) ≡ to → AllPieces (λ p. 0 < length p) pieces
    → Covers start (singles_from context (with_next (clusters_from levels languages features start pieces))) to
singles_cover levels languages features start [] context to sum some = omega arith
singles_cover levels languages features start (piece ∷ pieces) context to sum some =
    let long = length-append piece (concat pieces) in
    let filled = some.0 in
    let others = clusters_from (drop (length (chars piece)) levels) languages features (start + length piece) pieces in
    let cluster = record (cluster_by levels languages features start (start + length piece) (chars piece)) { next = first_script others } in
    (refl, omega arith, singles_cover (drop (length (chars piece)) levels) languages features (start + length piece) pieces (stepped cluster context) to (omega arith) some.1)

-- ---- joining runs keeps that they cover

joined_covers : (item : Item) (items : List Item) (to : ℕ) → item.start < item.end → Covers item.end items to → Covers item.start (joined_from item items) to
joined_covers item [] to some rest = (refl, some, rest)
joined_covers item (next ∷ items) to some rest =
    let begins = rest.0 in
    let filled = rest.1 in
    elim (cases_Bool (is_same item.properties next.properties)) [
      | inl on ↦ subst (λ l. Covers item.start l to) (sym (cond-true (is_same item.properties next.properties) _ _ on))
          (joined_covers (record item { end = next.end }) items to (omega arith) rest.2)
      | inr off ↦ subst (λ l. Covers item.start l to) (sym (cond-false (is_same item.properties next.properties) _ _ off))
          (refl, some, subst (λ k. Covers k (joined_from next items) to) begins (joined_covers next items to filled rest.2))
    ]

all_joined_cover : (items : List Item) (from to : ℕ) → Covers from items to → Covers from (joined items) to
all_joined_cover [] from to h = h
all_joined_cover (item ∷ items) from to h = subst (λ k. Covers k (joined_from item items) to) h.0 (joined_covers item items to h.1 h.2)

pub items_cover : (levels : List ℕ) (languages features : List NumberedRange) (text : List ℕ) → IsUtf8 text
    → Covers 0 (items_of levels languages features text) (length text)
items_cover levels languages features text u =
    let pieces = graphemes true text in
    let clusters = with_next (clusters_from levels languages features 0 pieces) in
    let whole = ap length (concat-segments (is_grapheme_break true) text u) in
    all_joined_cover (singles clusters) 0 (length text)
    (singles_cover levels languages features 0 pieces (context_of (first_script clusters)) (length text) (omega arith) (segments_nonempty (is_grapheme_break true) text))

-- ---- each begins with a cluster

or_first : (a b : Bool) → a ≡ true → (a || b) ≡ true
or_first true b h = refl
or_first false b h = cc

or_later : (a b : Bool) → b ≡ true → (a || b) ≡ true
or_later true b h = refl
or_later false b h = h

abbrev begins_among : List (ℕ × List ℕ) → ℕ → Bool
begins_among pieces start = list_any (λ (piece : ℕ × List ℕ). piece.0 == start) pieces

abbrev BeginsAmong : List (ℕ × List ℕ) → ℕ → Type 0
BeginsAmong pieces start = begins_among pieces start ≡ true

singles_begin : (levels : List ℕ) (languages features : List NumberedRange) (start : ℕ) (pieces : List (List ℕ)) (context : Context)
    → All (λ (i : Item). BeginsAmong (with_offsets start pieces) i.start) (singles_from context (with_next (clusters_from levels languages features start pieces)))
unfolding with_offsets
singles_begin levels languages features start [] context = All-nil _
singles_begin levels languages features start (piece ∷ pieces) context =
    let end = start + length piece in
    let clusters = clusters_from (drop (length (chars piece)) levels) languages features end pieces in
    let cluster = record (cluster_by levels languages features start end (chars piece)) { next = first_script clusters } in
    let after = stepped cluster context in
    let others = singles_from after (with_next clusters) in
    All-cons (λ (i : Item). BeginsAmong ((start, piece) ∷ with_offsets end pieces) i.start) (single cluster after) others
    (or_first (start == start) (begins_among (with_offsets end pieces) start) (eq-eqb start start refl))
    (All-weaker (λ (i : Item). BeginsAmong (with_offsets end pieces) i.start) (λ (i : Item). BeginsAmong ((start, piece) ∷ with_offsets end pieces) i.start)
    (λ i h. or_later (start == i.start) (begins_among (with_offsets end pieces) i.start) h) others
    (singles_begin (drop (length (chars piece)) levels) languages features end pieces after))

module _ (P : ℕ → Type 0) where
  joined_begin : (item : Item) (items : List Item) → P item.start → All (λ (i : Item). P i.start) items → All (λ (i : Item). P i.start) (joined_from item items)
  joined_begin item [] here all = All-cons (λ (i : Item). P i.start) item [] here all
  joined_begin item (next ∷ items) here all =
      let others = All-tail (λ (i : Item). P i.start) next items all in
      elim (cases_Bool (is_same item.properties next.properties)) [
        | inl on ↦ subst (λ l. All (λ (i : Item). P i.start) l) (sym (cond-true (is_same item.properties next.properties) _ _ on))
            (joined_begin (record item { end = next.end }) items here others)
        | inr off ↦ subst (λ l. All (λ (i : Item). P i.start) l) (sym (cond-false (is_same item.properties next.properties) _ _ off))
            (All-cons (λ (i : Item). P i.start) item (joined_from next items) here (joined_begin next items (All-head (λ (i : Item). P i.start) next items all) others))
      ]

  all_joined_begin : (items : List Item) → All (λ (i : Item). P i.start) items → All (λ (i : Item). P i.start) (joined items)
  all_joined_begin [] all = all
  all_joined_begin (item ∷ items) all =
      joined_begin item items (All-head (λ (i : Item). P i.start) item items all) (All-tail (λ (i : Item). P i.start) item items all)

pub items_begin : (levels : List ℕ) (languages features : List NumberedRange) (text : List ℕ)
    → All (BeginsCluster text) (items_of levels languages features text)
items_begin levels languages features text =
    let pieces = graphemes true text in
    let clusters = with_next (clusters_from levels languages features 0 pieces) in
    all_joined_begin (BeginsAmong (with_offsets 0 pieces)) (singles clusters)
    (singles_begin levels languages features 0 pieces (context_of (first_script clusters)))

-- ---- none agrees with the next

apart_after : (before item : Item) (items : List Item) → is_same before.properties item.properties ≡ false → AreApart (before ∷ joined_from item items)
apart_after before item [] off = (off, tt)
apart_after before item (next ∷ items) off =
    elim (cases_Bool (is_same item.properties next.properties)) [
      | inl on ↦ subst (λ l. AreApart (before ∷ l)) (sym (cond-true (is_same item.properties next.properties) _ _ on))
          (apart_after before (record item { end = next.end }) items off)
      | inr off' ↦ subst (λ l. AreApart (before ∷ l)) (sym (cond-false (is_same item.properties next.properties) _ _ off'))
          (off, apart_after item next items off')
    ]

joined_are_apart : (item : Item) (items : List Item) → AreApart (joined_from item items)
joined_are_apart item [] = tt
joined_are_apart item (next ∷ items) =
    elim (cases_Bool (is_same item.properties next.properties)) [
      | inl on ↦ subst AreApart (sym (cond-true (is_same item.properties next.properties) _ _ on))
          (joined_are_apart (record item { end = next.end }) items)
      | inr off ↦ subst AreApart (sym (cond-false (is_same item.properties next.properties) _ _ off)) (apart_after item next items off)
    ]

all_are_apart : (items : List Item) → AreApart (joined items)
all_are_apart [] = tt
all_are_apart (item ∷ items) = joined_are_apart item items

pub items_are_apart : (levels : List ℕ) (languages features : List NumberedRange) (text : List ℕ) → AreApart (items_of levels languages features text)
items_are_apart levels languages features text = all_are_apart (singles (clusters_of levels languages features text))
