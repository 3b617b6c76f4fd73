-- rules that a glance refuses match nothing
use Rattle.std.proofs.Common.{◌≡◌, ℕ, ◌+◌, ◌-◌, ◌*◌, ◌<◌, ◌≤◌, ◌&&◌, ◌||◌, Bool, true, false, min, List, Option, Some, None, nat_eq, nat_lt, refl, ap, ◌∙◌, arith, if◌then◌else◌}
use Rattle.std.proofs.lemmas.Bool.Decides.{nat_tests}
use Rattle.std.specs.Option.{option_and_then, option_map}
use Rattle.shape_font.specs.Bytes.{u16_of}
use Rattle.shape_items.specs.Items.{Item}
use Rattle.layout_tables.specs.declared.lookups.LookupSubtable.{LookupSubtable}
use Rattle.layout_matching.specs.Found.{is_chained, class_place, rule_of, found_at}
use Rattle.layout_matching.specs.Glance.{glance_after, glance_before, rows_of, glances_of, glances_in, refuses, plain_refused, chain_refused, is_refused}
use Rattle.layout_matching.specs.Input.{with_glyph_at, input_step, seek_input, input_matched}
use Rattle.layout_matching.specs.Loops.{steps}
use Rattle.layout_matching.specs.Rules.{FAR, is_inside, plain_rule, chained}
use Rattle.layout_matching.specs.Seeking.{next_place, prev_place, last_after, last_before}
use Rattle.layout_matching.specs.Skipping.{nth}
use Rattle.layout_matching.specs.Spans.{seek_around, span_to, span_from, span_of}
use Rattle.layout_matching.specs.declared.found.Found.{Found}
use Rattle.layout_matching.specs.declared.input.Matched.{Matched}
use Rattle.layout_matching.specs.declared.lookup.Lookup.{Lookup}
use Rattle.layout_matching.specs.declared.rules.Row.{Row}
use Rattle.layout_matching.specs.declared.rules.RowTests.{RowTests}
use Rattle.layout_matching.specs.declared.rules.Rule.{Rule}
use Rattle.layout_matching.specs.declared.rules.Test.TheVariants.{Glyph, Class}
use Rattle.layout_matching.specs.declared.seeking.Seek.{Seek}
use Rattle.layout_matching.specs.declared.spans.Origin.{Origin}
use Rattle.layout_matching.specs.declared.spans.Span.{Span}
use Rattle.layout_matching.proofs.LoopLemmas.{steps_none}
use Rattle.layout_matching.specs.declared.glance.Glances.{Glances}
use Rattle.layout_matching.proofs.GlanceLemmas.{IsRefused, next_refused, prev_refused}

-- ---- words of truth

or-cases : {X : Type 0} (a b : Bool) → (a ≡ true → X) → (b ≡ true → X) → (a || b) ≡ true → X
or-cases true b f g h = f refl
or-cases false b f g h = g h

pub and_both : {X : Type 0} (a b : Bool) → (a ≡ true → b ≡ true → X) → (a && b) ≡ true → X
and_both true b f h = f refl h
and_both false b f h = let bad : false ≡ true = h in cc

if-cases : {X : Type 0} (c a b : Bool) → (c ≡ true → a ≡ true → X) → (c ≡ false → b ≡ true → X) → (if c then a else b) ≡ true → X
if-cases true a b f g h = f refl h
if-cases false a b f g h = g refl h

unless : {X : Type 0} (t : Bool) (x : Option X) → x ≡ None → (if t then None else x) ≡ None
unless true x none = refl
unless false x none = none

pub when : {X : Type 0} (t : Bool) (x : Option X) → x ≡ None → (if t then x else None) ≡ None
when true x none = none
when false x none = refl

and-then-none : {X Y : Type 0} (f : X → Option Y) (o : Option X) → ((x : X) → f x ≡ None) → option_and_then f o ≡ None
and-then-none f None none = refl
and-then-none f (Some x) none = none x

-- ---- counts

some-count : (n : ℕ) → nat_lt 0 n ≡ true → 0 < n
some-count n some = grind (arith, nat_tests, some)

two-count : (n : ℕ) → nat_lt 1 n ≡ true → 0 < n - 1
two-count n two = let more : 1 < n = grind (arith, nat_tests, two) in omega (arith, more)

one-count : (n : ℕ) → nat_lt 1 n ≡ false → n - 1 ≡ 0
one-count n one = let few : n ≤ 1 = grind (arith, nat_tests, one) in omega (arith, few)

second-place : (m : ℕ) → m + 2 + 2 * 0 ≡ m + 2
second-place m = omega arith

count-place : (m n : ℕ) → n ≡ 0 → m + 2 + 2 * 0 + 2 * n ≡ m + 2
count-place m n none = omega (arith, none)

behind-place : (m n : ℕ) → n ≡ 0 → m + 2 + 2 * 0 + 2 * n + 2 ≡ m + 4
behind-place m n none = omega (arith, none)

-- ---- rows and rules

first-step : {S : Type 0} (f : ℕ → S → Option S) (n : ℕ) (s : S) → 0 < n → f 0 s ≡ None → steps f n 0 s ≡ None
first-step f n s some none =
    let e : n ≡ n - 0 = omega arith in
    ap (λ m. steps f m 0 s) e ∙ steps_none f n 0 s some none

pub input_refused : (l : Lookup) (items : List Item) (at : ℕ) (row : Row) → nat_lt 1 row.count ≡ true
    → IsRefused l (seek_input l (nth items at) row) (glance_after l (seek_input l (nth items at) row) items at)
    → input_matched l items at row ≡ None
input_refused l items at row two refused =
    let seek = seek_input l (nth items at) row in
    let some : 0 < row.count - 1 = two-count row.count two in
    let first : Matched = record { last = at; all_marks = true } in
    let none : input_step l seek items at 0 first ≡ None =
    ap (option_and_then (with_glyph_at l items at first)) (next_refused l seek items at refused) in
    unless (nat_lt 64 row.count) (steps (input_step l seek items at) (row.count - 1) 0 first)
    (first-step (input_step l seek items at) (row.count - 1) first some none)

span-by-input : (l : Lookup) (items : List Item) (origin : Origin) (rule : Rule) → nat_lt 1 rule.input.count ≡ true
    → IsRefused l (seek_input l (nth items origin.at) rule.input)
    (glance_after l (seek_input l (nth items origin.at) rule.input) items origin.at)
    → span_of l items origin rule ≡ None
span-by-input l items origin rule two refused =
    ap (option_and_then (span_from l items origin rule)) (input_refused l items origin.at rule.input two refused)

span-by-before : (l : Lookup) (items : List Item) (origin : Origin) (rule : Rule) → nat_lt 0 rule.before.count ≡ true
    → IsRefused l (seek_around l (nth items origin.at) origin.is_steady rule.before)
    (glance_before l (seek_around l (nth items origin.at) origin.is_steady rule.before) items origin.at)
    → span_of l items origin rule ≡ None
span-by-before l items origin rule one refused =
    let seek = seek_around l (nth items origin.at) origin.is_steady rule.before in
    let some : 0 < rule.before.count = some-count rule.before.count one in
    let none : last_before l seek items rule.before.count origin.at ≡ None =
    first-step (prev_place l seek items) rule.before.count origin.at some (prev_refused l seek items origin.at refused) in
    and-then-none (span_from l items origin rule) (input_matched l items origin.at rule.input)
    (λ m. ap (option_and_then (span_to l items origin rule m.last)) none)

itself : (n : ℕ) → nat_eq n n ≡ true
itself n = grind (arith, nat_tests)

span-by-after : (l : Lookup) (items : List Item) (origin : Origin) (rule : Rule) → nat_lt 1 rule.input.count ≡ false
    → nat_lt 0 rule.after.count ≡ true
    → IsRefused l (seek_around l (nth items origin.at) true rule.after)
    (glance_after l (seek_around l (nth items origin.at) true rule.after) items origin.at)
    → span_of l items origin rule ≡ None
span-by-after l items origin rule one follows refused =
    by_count (nat_lt 64 rule.input.count)
  where
    first : Item
    first = nth items origin.at

    seek : Seek
    seek = seek_around l first true rule.after

    made : Matched
    made = record { last = origin.at; all_marks = true }

    step : ℕ → Matched → Option Matched
    step = input_step l (seek_input l first rule.input) items origin.at

    to : Bool → ℕ → Option Span
    to stays start = option_map (λ far. record { start = start; last = origin.at; end = far + 1 })
        (last_after l (seek_around l first stays rule.after) items rule.after.count origin.at)

    behind : (start : ℕ) → to (nat_eq origin.at origin.at) start ≡ None
    behind start =
        let some : 0 < rule.after.count = some-count rule.after.count follows in
        let spanned : Option ℕ → Option Span = option_map (λ far. record { start = start; last = origin.at; end = far + 1 }) in
        ap (λ b. to b start) (itself origin.at)
        ∙ ap spanned (first-step (next_place l seek items) rule.after.count origin.at some (next_refused l seek items origin.at refused))

    by_count : (t : Bool) → option_and_then (span_from l items origin rule)
        (if t then None else steps step (rule.input.count - 1) 0 made) ≡ None
    by_count true = refl
    by_count false =
        let e : rule.input.count - 1 ≡ 0 = one-count rule.input.count one in
        ap (λ n. option_and_then (span_from l items origin rule) (steps step n 0 made)) e
        ∙ and-then-none (span_to l items origin rule origin.at)
        (last_before l (seek_around l first origin.is_steady rule.before) items rule.before.count origin.at) behind

plain-none : (l : Lookup) (items : List Item) (origin : Origin) (rows : RowTests) (at : ℕ)
    → plain_refused l.table.now (glances_of l items origin false rows) at ≡ true
    → span_of l items origin (plain_rule l.table.now rows.test rows.input at (at + 4)) ≡ None
plain-none l items origin rows at =
    and_both (nat_lt 1 (u16_of l.table.now at)) (refuses l.table.now (min (at + 4) FAR) (glances_of l items origin false rows).input)
    (span-by-input l items origin (plain_rule l.table.now rows.test rows.input at (at + 4)))

chain-none : (l : Lookup) (items : List Item) (origin : Origin) (rows : RowTests) (at : ℕ)
    → chain_refused l.table.now (glances_of l items origin true rows) at ≡ true
    → span_of l items origin (chained l.table.now rows.test rows.before rows.input rows.after 0 at) ≡ None
chain-none l items origin rows at =
    or-cases (nat_lt 0 (u16_of t at) && refuses t (min (at + 2) FAR) around.before)
    (if nat_lt 1 (u16_of t middle) then refuses t (min (middle + 2) FAR) around.input
    else nat_lt 0 (u16_of t (middle + 2)) && refuses t (min (middle + 4) FAR) around.after)
    (and_both (nat_lt 0 (u16_of t at)) (refuses t (min (at + 2) FAR) around.before) (span-by-before l items origin rule))
    (if-cases (nat_lt 1 (u16_of t middle)) (refuses t (min (middle + 2) FAR) around.input)
    (nat_lt 0 (u16_of t (middle + 2)) && refuses t (min (middle + 4) FAR) around.after) by_input
    (λ one. and_both (nat_lt 0 (u16_of t (middle + 2))) (refuses t (min (middle + 4) FAR) around.after) (by_after one)))
  where
    t : List ℕ
    t = l.table.now

    rule : Rule
    rule = chained t rows.test rows.before rows.input rows.after 0 at

    middle : ℕ
    middle = at + 2 + 2 * u16_of t at

    around : Glances
    around = glances_of l items origin true rows

    by_input : nat_lt 1 (u16_of t middle) ≡ true → refuses t (min (middle + 2) FAR) around.input ≡ true
        → span_of l items origin rule ≡ None
    by_input two refused =
        let e : middle + 2 + 2 * 0 ≡ middle + 2 = second-place middle in
        span-by-input l items origin rule two (ap (λ v. refuses t (min v FAR) around.input) e ∙ refused)

    by_after : nat_lt 1 (u16_of t middle) ≡ false → nat_lt 0 (u16_of t (middle + 2)) ≡ true
        → refuses t (min (middle + 4) FAR) around.after ≡ true
        → span_of l items origin rule ≡ None
    by_after one follows refused =
        let none : u16_of t middle - 1 ≡ 0 = one-count (u16_of t middle) one in
        let e : middle + 2 + 2 * 0 + 2 * (u16_of t middle - 1) ≡ middle + 2 = count-place middle (u16_of t middle - 1) none in
        let f : middle + 2 + 2 * 0 + 2 * (u16_of t middle - 1) + 2 ≡ middle + 4 = behind-place middle (u16_of t middle - 1) none in
        span-by-after l items origin rule one (ap (λ v. nat_lt 0 (u16_of t v)) e ∙ follows)
        (ap (λ v. refuses t (min v FAR) around.after) f ∙ refused)

-- a rule of format 1 or 2, by what its rows say
abbrev pub rule_with : List ℕ → Bool → RowTests → ℕ → Rule
rule_with t is_chain rows at = if is_chain then chained t rows.test rows.before rows.input rows.after 0 at
    else plain_rule t rows.test rows.input at (at + 4)

rule-by-rows : (t : List ℕ) (is_chain : Bool) (start at : ℕ) → rule_of t is_chain start at ≡ rule_with t is_chain (rows_of t is_chain start) at
rule-by-rows t is_chain start at = by_format (nat_eq (u16_of t start) 1) is_chain
  where
    by_format : (f c : Bool) → (if f
        then (if c then chained t Glyph start start start 0 at else plain_rule t Glyph start at (at + 4))
        else (if c then chained t Class (class_place t start 4) (class_place t start 6) (class_place t start 8) 0 at
        else plain_rule t Class (class_place t start 4) at (at + 4)))
        ≡ rule_with t c (if f then record { test = Glyph; before = start; input = start; after = start }
        else (if c then record { test = Class; before = class_place t start 4; input = class_place t start 6; after = class_place t start 8 }
        else record { test = Class; before = class_place t start 4; input = class_place t start 4; after = class_place t start 4 })) at
    by_format true true = refl
    by_format true false = refl
    by_format false true = refl
    by_format false false = refl

span-refused : (l : Lookup) (items : List Item) (origin : Origin) (c : Bool) (rows : RowTests) (at : ℕ)
    → is_refused l.table.now (glances_of l items origin c rows) c at ≡ true
    → span_of l items origin (rule_with l.table.now c rows at) ≡ None
span-refused l items origin true rows at = chain-none l items origin rows at
span-refused l items origin false rows at = plain-none l items origin rows at

pub refused_rule : (l : Lookup) (items : List Item) (origin : Origin) (subtable : LookupSubtable) (at : ℕ)
    → is_refused l.table.now (glances_in l items origin subtable) (is_chained l subtable) at ≡ true
    → found_at l items origin subtable at ≡ None
refused_rule l items origin subtable at refused =
    let t = l.table.now in
    let c = is_chained l subtable in
    let rows = rows_of t c subtable.start in
    let none : span_of l items origin (rule_of t c subtable.start at) ≡ None =
    ap (span_of l items origin) (rule-by-rows t c subtable.start at) ∙ span-refused l items origin c rows at refused in
    let made : Option Span → Option Found = option_map (λ span. record { rule = rule_of t c subtable.start at; span = span }) in
    when (is_inside t (rule_of t c subtable.start at)) (made (span_of l items origin (rule_of t c subtable.start at))) (ap made none)
