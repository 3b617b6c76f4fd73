-- what is stored of a rule of format 3: what it costs, and what it says at a place
use Rattle.std.proofs.Common.{◌≡◌, ℕ, ◌+◌, ◌-◌, ◌*◌, ◌<◌, ◌≤◌, ◌^◌, Bool, true, false, List, Option, Some, None, length, max, min, nat_eq, nat_lt, refl, sym, ap, subst, ◌∙◌, arith, if◌then◌else◌}
use Rattle.std.proofs.lemmas.Bool.Decides.{nat_tests}
use Rattle.std.specs.Option.{option_and_then, option_map, option_map_or}
use Rattle.shape_font.specs.Bytes.{u16_of}
use Rattle.shape_items.specs.Buffer.{most_countable}
use Rattle.shape_items.specs.Items.{Item, is_ignorable_item}
use Rattle.layout_tables.specs.Coverage.{covers}
use Rattle.layout_tables.specs.declared.lookups.LookupSubtable.{LookupSubtable}
use Rattle.layout_matching.specs.Firsts.{may_begin}
use Rattle.layout_matching.specs.Found.{is_chained, is_context_subtable, is_first, found_if, subtable_at, whole_rule}
use Rattle.layout_matching.specs.Rules.{is_inside}
use Rattle.layout_matching.specs.Seeking.{next_place, prev_place}
use Rattle.layout_matching.specs.Skipping.{nth, is_skipped}
use Rattle.layout_matching.specs.Sought.{unfound, first_sought, whole_sought, sets_sought, subtable_sought, sought_at_subtable, begun_sought}
use Rattle.layout_matching.specs.Spans.{span_of}
use Rattle.layout_matching.specs.WholeRules.{row_after, rule_paid, stored_paid, IsCounted, IsNearest, HasNearest, IsWhole, IsWholeOf}
use Rattle.layout_matching.specs.Work.{charged, counts_of, counts_tallied, counts_work, lists_charged, passed_charged, rule_counted, uncounted, SEARCH_WORK, SUBTABLE_WORK}
use Rattle.layout_matching.specs.declared.firsts.First.{First}
use Rattle.layout_matching.specs.declared.found.Found.{Found}
use Rattle.layout_matching.specs.declared.lookup.Lookup.{Lookup}
use Rattle.layout_matching.specs.declared.rules.Row.{Row}
use Rattle.layout_matching.specs.declared.rules.Rule.{Rule}
use Rattle.layout_matching.specs.declared.seeking.Seek.{Seek}
use Rattle.layout_matching.specs.declared.sought.Sought.{Sought}
use Rattle.layout_matching.specs.declared.spans.Origin.{Origin}
use Rattle.layout_matching.specs.declared.spans.Span.{Span}
use Rattle.layout_matching.specs.declared.tally.Tally.{Tally}
use Rattle.layout_matching.specs.declared.whole_rules.WholeRule.{WholeRule}
use Rattle.layout_matching.proofs.LigatureSetLemmas.{charged-twice}
use Rattle.layout_matching.proofs.NearestLemmas.{next_other, prev_other, missed_input, missed_before, missed_after}

-- ---- what it costs

-- how many lists a rule names
abbrev glyphs_of : Rule → ℕ
glyphs_of rule = rule.before.count + rule.input.count + rule.after.count

abbrev tallied : WholeRule → ℕ → Tally
tallied w rest = record { left = rest; before = w.before; after = w.after; tries = w.tries }

pub counted_paid : (rule : Rule) (w : WholeRule) → w.work ≡ SUBTABLE_WORK + glyphs_of rule * SEARCH_WORK + glyphs_of rule + rule.count + 1
    → w.before ≡ rule.before.count → w.after ≡ rule.input.count - 1 + rule.after.count → w.tries ≡ rule.count + 1 → rule.count < 2 ^ 16
    → (left : ℕ) → rule_paid rule left ≡ stored_paid w left
counted_paid rule w work before after tries few left =
    ap (option_and_then (λ rest. rule_counted rule (uncounted rest))) (charged-twice SUBTABLE_WORK (glyphs_of rule * SEARCH_WORK) left)
    ∙ here (charged (SUBTABLE_WORK + glyphs_of rule * SEARCH_WORK) left)
    ∙ ap (option_map (tallied w)) (charged-twice (SUBTABLE_WORK + glyphs_of rule * SEARCH_WORK) (counts_work (counts_of rule)) left
    ∙ ap (λ n. charged n left) all)
  where
    all : SUBTABLE_WORK + glyphs_of rule * SEARCH_WORK + counts_work (counts_of rule) ≡ w.work
    all = omega (arith, work)

    same : (rest : ℕ) → counts_tallied (counts_of rule) (uncounted rest) rest ≡ tallied w rest
    same rest =
        let b : max 0 rule.before.count ≡ w.before = omega (arith, before) in
        let a : max 0 (rule.input.count - 1 + rule.after.count) ≡ w.after = omega (arith, after) in
        let n : min (0 + (rule.count + 1)) most_countable ≡ w.tries = omega (arith, tries, few) in
        rw (b, a, n) refl

    one-map : (rest : ℕ) (o : Option ℕ) → option_map (counts_tallied (counts_of rule) (uncounted rest)) o ≡ option_map (tallied w) o
    one-map rest None = refl
    one-map rest (Some less) = ap Some (same less)

    here : (o : Option ℕ) → option_and_then (λ rest. rule_counted rule (uncounted rest)) o
        ≡ option_map (tallied w) (option_and_then (charged (counts_work (counts_of rule))) o)
    here None = refl
    here (Some rest) = one-map rest (charged (counts_work (counts_of rule)) rest)

-- ---- the nearest glyph, where each search ends at it

pub before_other : (l : Lookup) (items : List Item) (at : ℕ) (near : First) → 0 < at
    → is_skipped l (nth items (at - 1)) ≡ false → is_ignorable_item (nth items (at - 1)) ≡ false
    → may_begin near (nth items (at - 1)).glyph_id ≡ false → (row : Row) → 0 < row.count → IsNearest l.table.now row near
    → (seek : Seek) → seek.row ≡ row → prev_place l seek items 0 at ≡ None
before_other l items at near some seen opaque out row more nearest seek is =
    prev_other l seek row items at some is seen opaque (nearest (nth items (at - 1)).glyph_id more out)

pub after_other : (l : Lookup) (items : List Item) (at : ℕ) (near : First) → at + 1 < length items
    → is_skipped l (nth items (at + 1)) ≡ false → is_ignorable_item (nth items (at + 1)) ≡ false
    → may_begin near (nth items (at + 1)).glyph_id ≡ false → (row : Row) → 0 < row.count → IsNearest l.table.now row near
    → (seek : Seek) → seek.row ≡ row → next_place l seek items 0 at ≡ None
after_other l items at near inside seen opaque out row more nearest seek is =
    next_other l seek row items at inside is seen opaque (nearest (nth items (at + 1)).glyph_id more out)

pub refused_before : (l : Lookup) (items : List Item) (origin : Origin) (start : ℕ) (rule : Rule) (w : WholeRule) → 0 < w.before
    → ((row : Row) → 0 < row.count → IsNearest l.table.now row w.nearest_before → (seek : Seek) → seek.row ≡ row
    → prev_place l seek items 0 origin.at ≡ None)
    → IsCounted l.table.now start rule w → HasNearest l.table.now rule w → span_of l items origin rule ≡ None
refused_before l items origin start rule w some missed counted nearest =
    let more : 0 < rule.before.count = omega (arith, some, counted.before) in
    missed_before l items origin rule more (missed rule.before more nearest.before)

pub refused_after : (l : Lookup) (items : List Item) (origin : Origin) (start : ℕ) (rule : Rule) (w : WholeRule) → 0 < w.after
    → ((row : Row) → 0 < row.count → IsNearest l.table.now row w.nearest_after → (seek : Seek) → seek.row ≡ row
    → next_place l seek items 0 origin.at ≡ None)
    → IsCounted l.table.now start rule w → HasNearest l.table.now rule w → span_of l items origin rule ≡ None
refused_after l items origin start rule w some missed counted nearest = by_count (nat_lt 1 rule.input.count) refl
  where
    row : (u : Bool) → nat_lt 1 rule.input.count ≡ u → IsNearest l.table.now (if u then rule.input else rule.after) w.nearest_after
    row u is = subst (λ v. IsNearest l.table.now (if v then rule.input else rule.after) w.nearest_after) is nearest.after

    by_count : (u : Bool) → nat_lt 1 rule.input.count ≡ u → span_of l items origin rule ≡ None
    by_count true is =
        let two : 1 < rule.input.count = grind (arith, nat_tests, is) in
        missed_input l items origin rule two (missed rule.input (omega (arith, two)) (row true is))
    by_count false is =
        let one : rule.input.count ≤ 1 = grind (arith, nat_tests, is) in
        let behind : 0 < rule.after.count = omega (arith, one, some, counted.after) in
        missed_after l items origin rule one behind (missed rule.after behind (row false is))

-- ---- the subtable

abbrev rule_in : Lookup → LookupSubtable → Rule
rule_in l subtable = whole_rule l.table.now (is_chained l subtable) subtable.start

pub first_listed : (t : List ℕ) (start glyph : ℕ) (rule : Rule) (w : WholeRule) → IsCounted t start rule w
    → is_first t start rule glyph ≡ covers t w.list glyph
first_listed t start glyph rule w counted = ap (λ o. option_map_or (λ list. covers t list glyph) o false) counted.list

abbrev if_first : Lookup → List Item → Origin → LookupSubtable → ℕ → Bool → Option Sought
if_first l items origin subtable left begins =
    if begins then option_and_then (first_sought l items origin subtable) (charged SUBTABLE_WORK left) else Some (unfound left)

pub whole_unbegun : (l : Lookup) (items : List Item) (origin : Origin) (subtable : LookupSubtable) (left : ℕ)
    → is_first l.table.now subtable.start (rule_in l subtable) (nth items origin.at).glyph_id ≡ false
    → whole_sought l items origin subtable left ≡ Some (unfound left)
whole_unbegun l items origin subtable left not_first = ap (if_first l items origin subtable left) not_first

-- what is charged for step by step is charged for at once
at-once : {A B C D : Type 0} (f : C → D) (pass : B → Option C) (count : A → Option B) (lists : A → Option A) (o : Option A)
    → option_and_then (λ left. option_map f (option_and_then (λ rest. option_and_then pass (count rest)) (lists left))) o
    ≡ option_map f (option_and_then pass (option_and_then count (option_and_then lists o)))
at-once f pass count lists None = refl
at-once {A} f pass count lists (Some left) = by_lists (lists left)
  where
    by_lists : (o : Option A) → option_map f (option_and_then (λ rest. option_and_then pass (count rest)) o)
        ≡ option_map f (option_and_then pass (option_and_then count o))
    by_lists None = refl
    by_lists (Some rest) = refl

pub whole_refused : (l : Lookup) (items : List Item) (origin : Origin) (w : WholeRule) (left rest : ℕ)
    → IsCounted l.table.now w.subtable.start (rule_in l w.subtable) w
    → is_first l.table.now w.subtable.start (rule_in l w.subtable) (nth items origin.at).glyph_id ≡ true
    → span_of l items origin (rule_in l w.subtable) ≡ None
    → Some rest ≡ option_and_then (passed_charged l true items origin.at) (stored_paid w left)
    → whole_sought l items origin w.subtable left ≡ Some (unfound rest)
whole_refused l items origin w left rest counted first missed paid =
    ap (if_first l items origin w.subtable left) first
    ∙ at-once sought (passed_charged l true items origin.at) (λ rest. rule_counted rule (uncounted rest)) (lists_charged rule)
    (charged SUBTABLE_WORK left)
    ∙ ap (λ o. option_map sought (option_and_then (passed_charged l true items origin.at) o)) (counted.paid left)
    ∙ ap (option_map sought) (sym paid)
    ∙ ap (λ (f : Option Found). Some (record { left = rest; found = f })) (none-found (is_inside l.table.now rule))
  where
    rule : Rule
    rule = rule_in l w.subtable

    sought : ℕ → Sought
    sought rest = record { left = rest; found = found_if l items origin rule }

    here : Span → Found
    here span = record { rule = rule; span = span }

    none-found : (u : Bool)
        → (if u then option_map here (span_of l items origin rule) else None) ≡ None
    none-found true = ap (option_map here) missed
    none-found false = refl

pub stored_sought : (l : Lookup) (items : List Item) (origin : Origin) (i left : ℕ) (w : WholeRule) → IsWholeOf l i w
    → sought_at_subtable l items origin i left ≡ whole_sought l items origin w.subtable left
stored_sought l items origin i left w held =
    ap (λ o. option_map_or (subtable_sought l items origin left) o (Some (unfound left))) held.subtable
    ∙ ap (λ u. if u then by_format (nat_eq (u16_of l.table.now w.subtable.start) 3) else Some (unfound left)) held.context
    ∙ ap (λ n. by_format (nat_eq n 3)) held.whole.format
  where
    by_format : Bool → Option Sought
    by_format u = if u then whole_sought l items origin w.subtable left else sets_sought l items origin w.subtable left

pub stored_begun : (l : Lookup) (items : List Item) (origin : Origin) (left : ℕ) (w : WholeRule) → u16_of l.table.now w.subtable.start ≡ 3
    → is_first l.table.now w.subtable.start (rule_in l w.subtable) (nth items origin.at).glyph_id ≡ true
    → whole_sought l items origin w.subtable left ≡ begun_sought l items origin left w.subtable
stored_begun l items origin left w format first =
    ap (if_first l items origin w.subtable left) first
    ∙ sym (ap (λ n. if nat_eq n 3 then if_first l items origin w.subtable left true else sets_sought l items origin w.subtable left) format)
