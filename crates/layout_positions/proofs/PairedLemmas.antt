-- pairs that are known: what subtables of pairs make of two glyphs, one after the other
use Rattle.std.proofs.Common.{◌≡◌, ℕ, ℤ, pos, ◌+◌, ◌<◌, ◌&&◌, ◌||◌, Bool, true, false, Option, Some, None, All, replicate, is_some, length, min, nat_eq, refl, sym, ap, subst, ◌∙◌, arith, if◌then◌else◌}
use Rattle.std.proofs.lemmas.Bool.Decides.{nat_tests}
use Rattle.std.proofs.lemmas.List.Elements.{All-replicate}
use Rattle.std.specs.Option.{option_and_then, option_map, option_map_or}
use Rattle.shape_font.specs.Bytes.{u16_of}
use Rattle.shape_items.specs.Buffer.{Buffer}
use Rattle.layout_tables.specs.Lookups.{subtable_count_of, subtable_of}
use Rattle.layout_tables.specs.declared.lookups.LookupSubtable.{LookupSubtable}
use Rattle.layout_matching.specs.Firsts.{IsOut}
use Rattle.layout_matching.specs.Loops.{times}
use Rattle.layout_matching.specs.Skipping.{nth}
use Rattle.layout_matching.specs.declared.lookup.Lookup.{Lookup}
use Rattle.layout_matching.proofs.LoopLemmas.{times_step}
use Rattle.layout_positions.specs.Anchors.{number_at}
use Rattle.layout_positions.specs.Edits.{asks_for_concat, broken, concat_marked}
use Rattle.layout_positions.specs.Lookups.{Applied, unapplied, glyph_after, end_after}
use Rattle.layout_positions.specs.Paired.{pair_in, found_put, placed_as, AreBeside, untried, HasAt, HasFor, advance_pair, plain_found, found_of, IsKnownPair}
use Rattle.layout_positions.specs.Pairs.{has_pairs, pair_of, pair_put, pair_ended, pair_with, pair_at_number, pair_applied}
use Rattle.layout_positions.specs.Subtables.{kind_applied, sought, unplaced, subtable_placed, subtable_tried, trial_of, trial_step, placed_by, lookup_placed}
use Rattle.layout_positions.specs.Values.{advance_only}
use Rattle.layout_positions.specs.declared.bases.BaseSeen.{BaseSeen}
use Rattle.layout_positions.specs.declared.paired.FoundPair.{FoundPair}
use Rattle.layout_positions.specs.declared.paired.KnownPair.{KnownPair}
use Rattle.layout_positions.specs.declared.paired.PlainPair.{PlainPair}
use Rattle.layout_positions.specs.declared.pairs.PairValues.{PairValues}
use Rattle.layout_positions.specs.declared.values.Adjustment.{Adjustment}
use Rattle.layout_positions.proofs.FlaggedLemmas.{concat_unasked}
use Rattle.layout_positions.proofs.SubtableLemmas.{kind_alone, tried_until}
use Rattle.layout_positions.proofs.UncoveredLemmas.{subtable_passed}

-- ---- a subtable

pair-met : (l : Lookup) (start i j : ℕ) (b : Buffer) → asks_for_concat b ≡ false → glyph_after l b.items i ≡ Some j
    → pair_applied l start i b ≡ found_put i j b (pair_in l start (nth b.items i).glyph_id (nth b.items j).glyph_id)
pair-met l start i j b unasked next = by_format (has_pairs l.table.now start)
  where
    by_pair : (o : Option PairValues) → option_map_or (pair_put (nat_eq (u16_of l.table.now start) 1) i j b) o (unapplied (concat_marked i (j + 1) b))
        ≡ found_put i j b (option_map (λ values. record { listed = nat_eq (u16_of l.table.now start) 1; values = values }) o)
    by_pair None = ap unapplied (sym (concat_unasked i (j + 1) b unasked))
    by_pair (Some values) = refl

    by_number : (o : Option ℕ) → option_map_or (pair_at_number l start i b) o (unapplied b)
        ≡ found_put i j b (option_map (λ values. record { listed = nat_eq (u16_of l.table.now start) 1; values = values })
        (option_and_then (λ number. pair_of l start number (nth b.items i).glyph_id (nth b.items j).glyph_id) o))
    by_number None = refl
    by_number (Some number) =
        ap (λ o. option_map_or (pair_with l start i number b) o (unapplied (concat_marked i (end_after l b.items i) b))) next
        ∙ by_pair (pair_of l start number (nth b.items i).glyph_id (nth b.items j).glyph_id)

    by_format : (t : Bool)
        → (if t then option_map_or (pair_at_number l start i b) (number_at l.table.now start (start + 2) (nth b.items i).glyph_id) (unapplied b)
        else unapplied b)
        ≡ found_put i j b (if t then option_map (λ values. record { listed = nat_eq (u16_of l.table.now start) 1; values = values })
        (option_and_then (λ number. pair_of l start number (nth b.items i).glyph_id (nth b.items j).glyph_id)
        (number_at l.table.now start (start + 2) (nth b.items i).glyph_id)) else None)
    by_format true = by_number (number_at l.table.now start (start + 2) (nth b.items i).glyph_id)
    by_format false = refl

pair-kind : (l : Lookup) (subtable : LookupSubtable) (base : Option ℕ) (i : ℕ) (b : Buffer) → subtable.kind ≡ 2
    → kind_applied l subtable base i b ≡ pair_applied l subtable.start i b
pair-kind l subtable base i b is = rw is refl

pair-placed : (l : Lookup) (subtable : LookupSubtable) (i : ℕ) (b : Buffer) (seen : BaseSeen) (rest : ℕ) → subtable.kind ≡ 2
    → subtable_placed l subtable i b (sought l subtable i b seen rest) ≡ placed_as seen rest (pair_applied l subtable.start i b)
pair-placed l subtable i b seen rest is =
    sym (kind_alone l subtable i b seen rest (ap (λ n. nat_eq n 3) is) (ap (λ n. nat_eq n 4 || nat_eq n 5) is))
    ∙ ap (placed_as seen rest) (pair-kind l subtable seen.place i b is)

pair-glyphs : (l : Lookup) (start left right : ℕ) (b : Buffer) (i j : ℕ) → AreBeside l left right b i j
    → pair_in l start (nth b.items i).glyph_id (nth b.items j).glyph_id ≡ pair_in l start left right
pair-glyphs l start left right b i j beside =
    ap (λ g. pair_in l start g (nth b.items j).glyph_id) beside.left_is ∙ ap (pair_in l start left) beside.right_is

-- one of pairs
pub pair_has : (l : Lookup) (subtable : LookupSubtable) (left right k : ℕ) (found : Option FoundPair)
    → subtable_of l.table.now 9 l.place k ≡ Some subtable → subtable.kind ≡ 2 → found ≡ pair_in l subtable.start left right
    → HasAt l left right k found
pair_has l subtable left right k found this kind is b i j seen rest beside =
    let here = untried b seen rest k in
    ap (λ o. option_map_or (subtable_tried l i here) o (trial_of here (unplaced rest seen b))) this
    ∙ ap (trial_of here) (pair-placed l subtable i b seen rest kind
    ∙ ap (placed_as seen rest) (pair-met l subtable.start i j b beside.unasked beside.next
    ∙ ap (found_put i j b) (pair-glyphs l subtable.start left right b i j beside ∙ sym is)))

-- none at all
none-at : (l : Lookup) (left right k : ℕ) → subtable_of l.table.now 9 l.place k ≡ None → HasAt l left right k None
none-at l left right k none b i j seen rest beside =
    let here = untried b seen rest k in
    ap (λ o. option_map_or (subtable_tried l i here) o (trial_of here (unplaced rest seen b))) none

pub none_has : (l : Lookup) (left right k : ℕ) (found : Option FoundPair) → subtable_of l.table.now 9 l.place k ≡ None → found ≡ None
    → HasAt l left right k found
none_has l left right k found none is = subst (λ o. HasAt l left right k o) (sym is) (none-at l left right k none)

-- one that doesn't begin at the first glyph
out-at : (l : Lookup) (left right k : ℕ) → l.positioning ≡ true → IsOut l k left → HasAt l left right k None
out-at l left right k gpos out b i j seen rest beside =
    sym (subtable_passed l i k rest seen b None refl gpos (subst (IsOut l k) (sym beside.left_is) out))

pub out_has : (l : Lookup) (left right k : ℕ) (found : Option FoundPair) → l.positioning ≡ true → IsOut l k left → found ≡ None
    → HasAt l left right k found
out_has l left right k found gpos out is = subst (λ o. HasAt l left right k o) (sym is) (out-at l left right k gpos out)

-- ---- the subtables one after the other

-- so many of them do nothing
abbrev pub Passes : Lookup → ℕ → ℕ → ℕ → Type 0
Passes l left right k = (b : Buffer) (i j : ℕ) (seen : BaseSeen) (rest : ℕ) → AreBeside l left right b i j
    → untried b seen rest k ≡ times (trial_step l i) k (untried b seen rest 0)

pub passes_none : (l : Lookup) (left right : ℕ) → Passes l left right 0
passes_none l left right b i j seen rest beside = refl

pub passes_on : (l : Lookup) (left right k : ℕ) (found : Option FoundPair) → Passes l left right k → HasAt l left right k found
    → is_some found ≡ false → Passes l left right (k + 1)
passes_on l left right k None before at none b i j seen rest beside =
    times_step (trial_step l i) k (untried b seen rest 0) (untried b seen rest k) (untried b seen rest (k + 1))
    (before b i j seen rest beside) (sym (at b i j seen rest beside))
passes_on l left right k (Some f) before at none b i j seen rest beside = cc

abbrev next-of : Applied → Option ℕ
next-of made = made.next

ended-some : (i j : ℕ) (b : Buffer) (values : PairValues) → is_some (pair_ended values i j b).next ≡ true
ended-some i j b values = by_second values.has_second
  where
    by_second : (t : Bool) → is_some (next-of (if t then record { buffer = broken i (min (j + 2) (length b.items)) b; next = Some (j + 1) }
        else record { buffer = b; next = Some j })) ≡ true
    by_second true = refl
    by_second false = refl

-- what the lookup has, if the first of them that has something has it
pub found_first : (l : Lookup) (left right k n : ℕ) (found : Option FoundPair) → Passes l left right k → HasAt l left right k found
    → is_some found ≡ true → k < n → n ≡ subtable_count_of l.table.now l.place → HasFor l left right found
found_first l left right k n None before at some below count b i j seen rest beside = cc
found_first l left right k n (Some f) before at some below count b i j seen rest beside =
    let first = untried b seen rest 0 in
    let here = untried b seen rest k in
    let there = trial_of here (placed_as seen rest (found_put i j b (Some f))) in
    tried_until l i n k first here there below (before b i j seen rest beside) (sym (at b i j seen rest beside)) (ended-some i j _ f.values)
    ∙ ap (λ m. placed_by (times (trial_step l i) m first)) count

-- or if none has
none-for : (l : Lookup) (left right n : ℕ) → Passes l left right n → n ≡ subtable_count_of l.table.now l.place
    → HasFor l left right None
none-for l left right n before count b i j seen rest beside =
    ap placed_by (before b i j seen rest beside) ∙ ap (λ m. placed_by (times (trial_step l i) m (untried b seen rest 0))) count

pub none_first : (l : Lookup) (left right n : ℕ) (found : Option FoundPair) → Passes l left right n
    → n ≡ subtable_count_of l.table.now l.place → found ≡ None → HasFor l left right found
none_first l left right n found before count is = subst (λ o. HasFor l left right o) (sym is) (none-for l left right n before count)

-- ---- two glyphs adjusted as it was found for them

pub found_made : (l : Lookup) (left right : ℕ) (found : Option FoundPair) (b : Buffer) (i j : ℕ) (made : Buffer) (next : Option ℕ)
    → HasFor l left right found → AreBeside l left right b i j → made ≡ (found_put i j b found).buffer
    → next ≡ (found_put i j b found).next → (seen : BaseSeen) (rest : ℕ)
    → placed_as seen rest (record { buffer = made; next = next }) ≡ lookup_placed l i rest seen b
found_made l left right found b i j made next has beside is goes_on seen rest =
    let same : placed_as seen rest (record { buffer = made; next = next }) ≡ placed_as seen rest (found_put i j b found) =
    λ k. record { buffer = is k; next = goes_on k; seen = seen; left = rest } in
    same ∙ has b i j seen rest beside

-- ---- what is kept in mind

pub plain_some : (p : PlainPair) → p.is_found ≡ is_some (plain_found p)
plain_some p = by_found p.is_found
  where
    by_found : (t : Bool) → t ≡ is_some (if t then Some (advance_pair p.listed p.advance) else None)
    by_found true = refl
    by_found false = refl

left-of : (s t : Bool) → (s && t) ≡ true → s ≡ true
left-of true t e = refl
left-of false t e = cc

right-of : (s t : Bool) → (s && t) ≡ true → t ≡ true
right-of true t e = e
right-of false t e = cc

pub known_for : (l : Lookup) (left right : ℕ) (known : KnownPair) → IsKnownPair l known
    → (known.is_sought && nat_eq known.left left && nat_eq known.right right) ≡ true → HasFor l left right (found_of known)
known_for l left right known is same =
    let two = left-of (known.is_sought && nat_eq known.left left) (nat_eq known.right right) same in
    let first : known.left ≡ left = grind (arith, nat_tests, right-of known.is_sought (nat_eq known.left left) two) in
    let second : known.right ≡ right =
    grind (arith, nat_tests, right-of (known.is_sought && nat_eq known.left left) (nat_eq known.right right) same) in
    subst (λ h. HasFor l left h (found_of known)) second
    (subst (λ g. HasFor l g known.right (found_of known)) first (is (left-of known.is_sought (nat_eq known.left left) two)))

pub all_unsought : (l : Lookup) (n : ℕ) (known : KnownPair) → known.is_sought ≡ false → All (IsKnownPair l) (replicate n known)
all_unsought l n known still = All-replicate (IsKnownPair l) n known (λ is. cc)

pub noted_known : (l : Lookup) (left right : ℕ) (found : Option FoundPair) (known : KnownPair) → HasFor l left right found
    → known.left ≡ left → known.right ≡ right → found_of known ≡ found → IsKnownPair l known
noted_known l left right found known has first second same sought =
    subst (λ o. HasFor l known.left known.right o) (sym same)
    (subst (λ g. HasFor l g known.right found) (sym first) (subst (λ h. HasFor l left h found) (sym second) has))

pub advance_alone : (v : Adjustment) → v.x_placement ≡ pos 0 → v.y_placement ≡ pos 0 → v.y_advance ≡ pos 0 → v.counted.placement ≡ false
    → v.counted.x_advance ≡ false → v.counted.y_advance ≡ false → v ≡ advance_only v.x_advance
advance_alone v a b c d e f =
    ap (λ n. record { x_placement = n; y_placement = v.y_placement; x_advance = v.x_advance; y_advance = v.y_advance; counted = v.counted }) a
    ∙ ap (λ n. record { x_placement = pos 0; y_placement = n; x_advance = v.x_advance; y_advance = v.y_advance; counted = v.counted }) b
    ∙ ap (λ n. record { x_placement = pos 0; y_placement = pos 0; x_advance = v.x_advance; y_advance = n; counted = v.counted }) c
    ∙ ap (λ t. record (advance_only v.x_advance) { counted = record { placement = t; x_advance = v.counted.x_advance; y_advance = v.counted.y_advance } }) d
    ∙ ap (λ t. record (advance_only v.x_advance) { counted = record { placement = false; x_advance = t; y_advance = v.counted.y_advance } }) e
    ∙ ap (λ t. record (advance_only v.x_advance) { counted = record { placement = false; x_advance = false; y_advance = t } }) f

pub pair_alone : (v : PairValues) (x : ℤ) → v.first ≡ advance_only x → v.second ≡ advance_only (pos 0) → v.has_second ≡ false
    → v ≡ record { first = advance_only x; second = advance_only (pos 0); has_second = false }
pair_alone v x first second alone =
    ap (λ f. record { first = f; second = v.second; has_second = v.has_second }) first
    ∙ ap (λ s. record { first = advance_only x; second = s; has_second = v.has_second }) second
    ∙ ap (λ t. record { first = advance_only x; second = advance_only (pos 0); has_second = t }) alone
