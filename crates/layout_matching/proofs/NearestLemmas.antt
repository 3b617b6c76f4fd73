-- glyphs right beside a place that end each search, and don't fit
use Prim.Native.Nat.{zero}
use Rattle.std.proofs.Common.{◌≡◌, ℕ, suc, ◌+◌, ◌-◌, ◌/◌, ◌<◌, ◌≤◌, ◌&&◌, ◌||◌, not, Bool, true, false, List, Option, Some, None, length, min, nat_eq, nat_lt, refl, sym, ap, subst, ◌∙◌, arith, if◌then◌else◌}
use Rattle.std.proofs.lemmas.Bool.Decides.{nat_tests}
use Rattle.std.specs.Option.{option_and_then, option_map, option_map_or, unwrap_or}
use Rattle.shape_font.specs.Search.{first_at}
use Rattle.shape_items.specs.Buffer.{most_countable}
use Rattle.shape_items.specs.Items.{Item, is_ignorable_item}
use Rattle.layout_matching.specs.Glance.{any_glyph, glance_at}
use Rattle.layout_matching.specs.Input.{is_on_component, marks_back, marks_passed, with_glyph_at, input_step, seek_input, input_matched}
use Rattle.layout_matching.specs.Loops.{steps}
use Rattle.layout_matching.specs.Rules.{fits_row, row}
use Rattle.layout_matching.specs.Seeking.{mask_of, fits, is_between, if_fits, next_place, prev_place, last_after, last_before}
use Rattle.layout_matching.specs.Sifted.{nearest_glance, second_glance}
use Rattle.layout_matching.specs.Skipping.{nth, shares, is_skipped, is_transparent, passes_zwnj, passes_zwj}
use Rattle.layout_matching.specs.Spans.{seek_around, span_to, span_from, span_of}
use Rattle.layout_matching.specs.Work.{is_passed, passed, passed_after, passed_before, passing_step}
use Rattle.layout_matching.specs.declared.glance.Glance.TheVariants.{Open, Closed, Only}
use Rattle.layout_matching.specs.declared.input.Matched.{Matched}
use Rattle.layout_matching.specs.declared.lookup.Lookup.{Lookup}
use Rattle.layout_matching.specs.declared.rules.Row.{Row}
use Rattle.layout_matching.specs.declared.rules.Rule.{Rule}
use Rattle.layout_matching.specs.declared.rules.Test.TheVariants.{Glyph}
use Rattle.layout_matching.specs.declared.seeking.Seek.{Seek}
use Rattle.layout_matching.specs.declared.spans.Origin.{Origin}
use Rattle.layout_matching.specs.declared.tally.Tally.{Tally}
use Rattle.layout_matching.proofs.LoopLemmas.{steps_none}

-- ---- one glyph

neither : (a b c : Bool) → a ≡ false → b ≡ false → (a || (b && c)) ≡ false
neither false false c x y = refl
neither true b c x y = x
neither false true c x y = cc

opaque_and : (a b c d : Bool) → a ≡ false → (a && b && c && d) ≡ false
opaque_and false b c d x = refl
opaque_and true b c d x = cc

all_but_last : (a b c : Bool) → c ≡ false → (a && b && c) ≡ false
all_but_last true true c x = x
all_but_last true false c x = refl
all_but_last false b c x = refl

transparent_not : (l : Lookup) (is_input : Bool) (item : Item) → is_ignorable_item item ≡ false → is_transparent l is_input item ≡ false
transparent_not l is_input item opaque = opaque_and (is_ignorable_item item) (passes_zwnj l is_input || not item.properties.zwnj)
    (passes_zwj l is_input || not item.properties.zwj) (l.positioning || not item.properties.hidden) opaque

ends : (l : Lookup) (seek : Seek) (k : ℕ) (item : Item) → is_skipped l item ≡ false → is_ignorable_item item ≡ false
    → not (is_between l seek k item) ≡ true
ends l seek k item seen opaque = ap not (neither (is_skipped l item) (is_transparent l seek.is_input item) (not (fits l seek k item)) seen
    (transparent_not l seek.is_input item opaque))

unfit : (l : Lookup) (seek : Seek) (row : Row) (k : ℕ) (item : Item) → seek.row ≡ row → fits_row l.table.now row k item.glyph_id ≡ false
    → fits l seek k item ≡ false
unfit l seek row k item is other = all_but_last (shares item.mask (mask_of l seek)) (nat_eq seek.syllable 0 || nat_eq item.properties.syllable seek.syllable)
    (fits_row l.table.now seek.row k item.glyph_id) (ap (λ (r : Row). fits_row l.table.now r k item.glyph_id) is ∙ other)

pub passed_not : (l : Lookup) (item : Item) → is_skipped l item ≡ false → is_ignorable_item item ≡ false → is_passed l item ≡ false
passed_not l item seen opaque = either (is_skipped l item) (is_transparent l false item) seen (transparent_not l false item opaque)
  where
    either : (a b : Bool) → a ≡ false → b ≡ false → (a || b) ≡ false
    either false b x y = y
    either true b x y = x

-- ---- the first place of a search

first-here : (p : ℕ → Bool) (n i : ℕ) → 0 < n → p i ≡ true → first_at p n i ≡ Some i
first-here p zero i some here = absurd (omega (arith, some))
first-here p (suc n) i some here = rw here refl

first-none : (p : ℕ → Bool) (n i : ℕ) → n ≡ 0 → first_at p n i ≡ None
first-none p zero i none = refl
first-none p (suc n) i none = absurd (omega (arith, none))

if-not : {X : Type 0} (t : Bool) (x : Option X) → t ≡ false → (if t then x else None) ≡ None
if-not true x e = cc
if-not false x e = refl

pub next_past : (l : Lookup) (seek : Seek) (items : List Item) (at : ℕ) → length items ≤ at + 1 → next_place l seek items 0 at ≡ None
next_past l seek items at over =
    ap (option_and_then (if_fits l seek items 0))
    (first-none (λ j. not (is_between l seek 0 (nth items j))) (length items - (at + 1)) (at + 1) (omega (arith, over)))

pub next_other : (l : Lookup) (seek : Seek) (row : Row) (items : List Item) (at : ℕ) → at + 1 < length items → seek.row ≡ row
    → is_skipped l (nth items (at + 1)) ≡ false → is_ignorable_item (nth items (at + 1)) ≡ false
    → fits_row l.table.now row 0 (nth items (at + 1)).glyph_id ≡ false → next_place l seek items 0 at ≡ None
next_other l seek row items at inside is seen opaque other =
    ap (option_and_then (if_fits l seek items 0))
    (first-here (λ j. not (is_between l seek 0 (nth items j))) (length items - (at + 1)) (at + 1) (omega (arith, inside))
    (ends l seek 0 (nth items (at + 1)) seen opaque))
    ∙ if-not (fits l seek 0 (nth items (at + 1))) (Some (at + 1)) (unfit l seek row 0 (nth items (at + 1)) is other)

pub prev_past : (l : Lookup) (seek : Seek) (items : List Item) (at : ℕ) → at ≡ 0 → prev_place l seek items 0 at ≡ None
prev_past l seek items at first =
    ap (option_and_then (λ d. if_fits l seek items 0 (at - 1 - d)))
    (first-none (λ d. not (is_between l seek 0 (nth items (at - 1 - d)))) at 0 first)

pub prev_other : (l : Lookup) (seek : Seek) (row : Row) (items : List Item) (at : ℕ) → 0 < at → seek.row ≡ row
    → is_skipped l (nth items (at - 1)) ≡ false → is_ignorable_item (nth items (at - 1)) ≡ false
    → fits_row l.table.now row 0 (nth items (at - 1)).glyph_id ≡ false → prev_place l seek items 0 at ≡ None
prev_other l seek row items at some is seen opaque other =
    let same : at - 1 ≡ at - 1 - 0 = omega arith in
    ap (option_and_then (λ d. if_fits l seek items 0 (at - 1 - d)))
    (first-here (λ d. not (is_between l seek 0 (nth items (at - 1 - d)))) at 0 some
    (ends l seek 0 (nth items (at - 1 - 0)) (subst (λ i. is_skipped l (nth items i) ≡ false) same seen)
    (subst (λ i. is_ignorable_item (nth items i) ≡ false) same opaque)))
    ∙ if-not (fits l seek 0 (nth items (at - 1 - 0))) (Some (at - 1 - 0))
    (unfit l seek row 0 (nth items (at - 1 - 0)) is (subst (λ i. fits_row l.table.now row 0 (nth items i).glyph_id ≡ false) same other))

-- ---- rules

first-step : {S : Type 0} (f : ℕ → S → Option S) (n : ℕ) (s : S) → 0 < n → f 0 s ≡ None → steps f n 0 s ≡ None
first-step f n s some none =
    let e : n ≡ n - 0 = omega arith in
    ap (λ m. steps f m 0 s) e ∙ steps_none f n 0 s some none

unless : {X : Type 0} (t : Bool) (x : Option X) → x ≡ None → (if t then None else x) ≡ None
unless true x none = refl
unless false x none = none

and-then-none : {X Y : Type 0} (f : X → Option Y) (o : Option X) → ((x : X) → f x ≡ None) → option_and_then f o ≡ None
and-then-none f None none = refl
and-then-none f (Some x) none = none x

pub missed_input : (l : Lookup) (items : List Item) (origin : Origin) (rule : Rule) → 1 < rule.input.count
    → ((seek : Seek) → seek.row ≡ rule.input → next_place l seek items 0 origin.at ≡ None) → span_of l items origin rule ≡ None
missed_input l items origin rule two none =
    let seek = seek_input l (nth items origin.at) rule.input in
    let first : Matched = record { last = origin.at; all_marks = true } in
    let step : input_step l seek items origin.at 0 first ≡ None =
    ap (option_and_then (with_glyph_at l items origin.at first)) (none seek refl) in
    ap (option_and_then (span_from l items origin rule))
    (unless (nat_lt 64 rule.input.count) (steps (input_step l seek items origin.at) (rule.input.count - 1) 0 first)
    (first-step (input_step l seek items origin.at) (rule.input.count - 1) first (omega (arith, two)) step))

pub missed_before : (l : Lookup) (items : List Item) (origin : Origin) (rule : Rule) → 0 < rule.before.count
    → ((seek : Seek) → seek.row ≡ rule.before → prev_place l seek items 0 origin.at ≡ None) → span_of l items origin rule ≡ None
missed_before l items origin rule some none =
    let seek = seek_around l (nth items origin.at) origin.is_steady rule.before in
    let missing : last_before l seek items rule.before.count origin.at ≡ None =
    first-step (prev_place l seek items) rule.before.count origin.at some (none seek refl) in
    and-then-none (span_from l items origin rule) (input_matched l items origin.at rule.input)
    (λ m. ap (option_and_then (span_to l items origin rule m.last)) missing)

-- what is matched is the glyph at the place alone
alone : (l : Lookup) (items : List Item) (at : ℕ) (row : Row) → row.count ≤ 1
    → input_matched l items at row ≡ Some (record { last = at; all_marks = true })
alone l items at row one =
    let few : nat_lt 64 row.count ≡ false = grind (arith, nat_tests, one) in
    let none : row.count - 1 ≡ 0 = omega (arith, one) in
    let first : Matched = record { last = at; all_marks = true } in
    let seek = seek_input l (nth items at) row in
    ap (λ t. if t then None else steps (input_step l seek items at) (row.count - 1) 0 first) few
    ∙ ap (λ n. steps (input_step l seek items at) n 0 first) none

pub missed_after : (l : Lookup) (items : List Item) (origin : Origin) (rule : Rule) → rule.input.count ≤ 1 → 0 < rule.after.count
    → ((seek : Seek) → seek.row ≡ rule.after → next_place l seek items 0 origin.at ≡ None) → span_of l items origin rule ≡ None
missed_after l items origin rule one some none =
    let first : Matched = record { last = origin.at; all_marks = true } in
    let seek = seek_around l (nth items origin.at) (nat_eq origin.at origin.at) rule.after in
    let missing : last_after l seek items rule.after.count origin.at ≡ None =
    first-step (next_place l seek items) rule.after.count origin.at some (none seek refl) in
    ap (option_and_then (span_from l items origin rule)) (alone l items origin.at rule.input one)
    ∙ and-then-none (span_to l items origin rule origin.at)
    (last_before l (seek_around l (nth items origin.at) origin.is_steady rule.before) items rule.before.count origin.at)
    (λ start. ap (option_map (λ far. record { start = start; last = origin.at; end = far + 1 })) missing)

-- ---- glyphs that are passed over

pub step_ends : (l : Lookup) (listed : Bool) (item : Item) (stops : ℕ) → nat_eq stops 0 ≡ false → is_passed l item ≡ false
    → passing_step l listed item (record { stops = stops; total = 0 }) ≡ record { stops = stops - 1; total = 0 }
step_ends l listed item stops some free = rw (some, free) refl

pub not_true : (t : Bool) → not t ≡ true → t ≡ false
not_true false e = refl
not_true true e = sym e

pub passed_none : (l : Lookup) (listed : Bool) (items : List Item) (at : ℕ) (s : Tally) → passed_before l listed items at s.before ≡ 0
    → passed_after l listed items at s.after ≡ 0 → is_on_component (nth items at) ≡ false → passed l listed items at s ≡ 0
passed_none l listed items at s before after single =
    ap (λ n. min (min (n + passed_before l listed items at s.before) most_countable + marks_passed l items at / 4) most_countable) after
    ∙ ap (λ n. min (min (0 + n) most_countable + marks_passed l items at / 4) most_countable) before
    ∙ ap (λ n. min (min (0 + 0) most_countable + n / 4) most_countable) (marks l.positioning)
  where
    marks : (p : Bool) → (if p || not (is_on_component (nth items at)) then 0
        else unwrap_or (marks_back items (nth items at).properties.ligature_id at) at) ≡ 0
    marks true = refl
    marks false = rw single refl

-- ---- what the next glyph says, if each search ends at it

pub glance_nearest : (l : Lookup) (items : List Item) (at : ℕ) → at + 1 < length items → is_skipped l (nth items (at + 1)) ≡ false
    → is_ignorable_item (nth items (at + 1)) ≡ false
    → second_glance l items at ≡ nearest_glance l (seek_input l (nth items at) (row Glyph 0 0 0)) (nth items (at + 1))
glance_nearest l items at more seen opaque =
    ap (λ o. option_map_or (glance_at l seek items) (option_and_then (if_fits l (any_glyph seek) items 0) o) Closed)
    (first-here (λ j. not (is_between l (any_glyph seek) 0 (nth items j))) (length items - (at + 1)) (at + 1) (omega (arith, more))
    (ends l (any_glyph seek) 0 item seen opaque))
    ∙ by_fit (fits l (any_glyph seek) 0 item)
  where
    seek : Seek
    seek = seek_input l (nth items at) (row Glyph 0 0 0)

    item : Item
    item = nth items (at + 1)

    by_fit : (t : Bool) → option_map_or (glance_at l seek items) (if t then Some (at + 1) else None) Closed
        ≡ (if t then Only item.glyph_id else Closed)
    by_fit true = ap (λ u. if u then Open else Only item.glyph_id) (transparent_not l true item opaque)
    by_fit false = refl

pub glance_past : (l : Lookup) (items : List Item) (at : ℕ) → length items ≤ at + 1 → second_glance l items at ≡ Closed
glance_past l items at over =
    let seek = seek_input l (nth items at) (row Glyph 0 0 0) in
    ap (λ o. option_map_or (glance_at l seek items) o Closed) (next_past l (any_glyph seek) items at over)
