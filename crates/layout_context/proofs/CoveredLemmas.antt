-- A lookup that covers no glyph of a list changes nothing.
use Prim.Native.Nat.{zero}
use Rattle.std.proofs.Common.{◌≡◌, ℕ, suc, ◌+◌, ◌-◌, ◌≤◌, ◌<◌, Bool, true, false, List, Option, Some, None, is_some, length, nat_eq, nat_lt, refl, sym, ap, ◌∙◌, subst, arith, if◌then◌else◌, ◌&&◌, ◌||◌}
use Rattle.std.proofs.lemmas.Bool.Decides.{nat_tests}
use Rattle.std.specs.Option.{option_and_then, option_map, option_map_or}
use Rattle.shape_items.specs.Buffer.{Buffer}
use Rattle.shape_items.specs.Items.{Item}
use Rattle.shape_font.specs.Bytes.{u16_of}
use Rattle.layout_tables.specs.Lookups.{subtable_count_of, subtable_of}
use Rattle.layout_tables.specs.declared.lookups.LookupSubtable.{LookupSubtable}
use Rattle.layout_matching.specs.Found.{extension_kind, is_context, is_context_subtable, is_chained, whole_rule, is_first, number_of, found_at_subtable, found_of}
use Rattle.layout_matching.specs.Loops.{times, first_some}
use Rattle.layout_matching.specs.Skipping.{nth, is_on}
use Rattle.layout_matching.specs.Tried.{untried, whole_reach, number_reach, sets_reach, subtable_reach, reach_at_subtable}
use Rattle.layout_matching.specs.Work.{lookup_charged, walk_work}
use Rattle.layout_matching.specs.Firsts.{begins, IsOut}
use Rattle.layout_matching.proofs.FirstLemmas.{found_out, charged_out}
use Rattle.layout_matching.proofs.SoughtLemmas.{sought_free}
use Rattle.layout_matching.proofs.WorkLemmas.{lookup_free}
use Rattle.layout_substitution.proofs.OutLemmas.{subtable_out}
use Rattle.layout_digests.proofs.TriedLemmas.{until_untried_below}
use Rattle.layout_matching.specs.declared.lookup.Lookup.{Lookup}
use Rattle.layout_matching.specs.declared.sought.Sought.{Sought}
use Rattle.layout_matching.specs.declared.spans.Origin.{Origin}
use Rattle.layout_substitution.specs.Applied.{unapplied}
use Rattle.layout_substitution.specs.Edits.{item_at, is_inside, is_past, concat_marked}
use Rattle.layout_substitution.proofs.EditLemmas.{concat_marked_untried}
use Rattle.layout_substitution.specs.Kinds.{subtable_applied, subtables_applied, or_next, lookup_applied}
use Rattle.layout_substitution.specs.declared.apply.Spot.{Spot}
use Rattle.layout_context.specs.Covered.{context_covers, subtable_covers, IsUncovered, CoversNone}
use Rattle.layout_context.specs.Nested.{rule_applied, origin_of, sought_left, place_charged, tried_marked, first_rule_applied, level_applied, nested_applied}
use Rattle.layout_context.specs.Reverse.{reversal_of, reversal_by, reversal_in, reversal_reach_of, reversal_reach_by, reversal_reach_in}
use Rattle.layout_context.specs.Reverse.{reversal_reach, reversed_by, first_reversed, reversed_at, Backwards, reversed_within, reverse_step, reversed}
use Rattle.layout_context.specs.Reverse.{is_reverse}
use Rattle.layout_context.specs.Stages.{Walk, passed, gone_on, with_left, tried_within, tried, lookup_step, first_walk, walked, gone_back, gone_over, walk_charged, looked_up}

none_of : {A : Type 0} (o : Option A) → is_some o ≡ false → o ≡ None
none_of None e = refl
none_of (Some x) e = cc

and_then_none : {A B : Type 0} (f : A → Option B) (o : Option A) → o ≡ None → option_and_then f o ≡ None
and_then_none f o e = ap (option_and_then f) e

map_or_none : {A B : Type 0} (f : A → B) (d : B) (o : Option A) → o ≡ None → option_map_or f o d ≡ d
map_or_none f d o e = ap (λ p. option_map_or f p d) e

first_some_none : {X : Type 0} (f : ℕ → Option X) (m : ℕ) → ((i : ℕ) → i < m → f i ≡ None) → (n i : ℕ) → n + i ≤ m → first_some f n i ≡ None
first_some_none f m none zero i within = refl
first_some_none f m none (suc n) i within = rw (none i (omega (arith, within))) (first_some_none f m none n (suc i) (omega (arith, within)))

if_same : {A : Type 0} (t : Bool) (x y z : A) → x ≡ z → y ≡ z → (if t then x else y) ≡ z
if_same true x y z a b = a
if_same false x y z a b = b

-- ---- a subtable of a lookup

-- a subtable of context isn't of kind 8
not_reverse : (l : Lookup) (subtable : LookupSubtable) → l.positioning ≡ false → is_context_subtable l subtable ≡ true → nat_eq subtable.kind 8 ≡ false
not_reverse l subtable gsub is =
    let kinds : (nat_eq subtable.kind 5 || nat_eq subtable.kind 6) ≡ true =
    subst (λ t. (nat_eq subtable.kind (if t then 7 else 5) || nat_eq subtable.kind (if t then 8 else 6)) ≡ true) gsub is in
    grind (arith, nat_tests, kinds)

number_out : (l : Lookup) (subtable : LookupSubtable) (glyph : ℕ) → is_context_subtable l subtable ≡ false → subtable_covers l subtable glyph ≡ false
    → number_of l.table.now subtable.start glyph ≡ None
number_out l subtable glyph kind out = none_of (number_of l.table.now subtable.start glyph)
    (subst (λ t. (if t then context_covers l subtable glyph else is_some (number_of l.table.now subtable.start glyph)) ≡ false) kind out)

context_out : (l : Lookup) (subtable : LookupSubtable) (glyph : ℕ) → is_context_subtable l subtable ≡ true → subtable_covers l subtable glyph ≡ false
    → context_covers l subtable glyph ≡ false
context_out l subtable glyph kind out =
    subst (λ t. (if t then context_covers l subtable glyph else is_some (number_of l.table.now subtable.start glyph)) ≡ false) kind out

-- ---- lookups of kinds 1 to 4

-- a subtable is out at a glyph that the lookup doesn't cover
out_at : (l : Lookup) (glyph i : ℕ) → l.positioning ≡ false → IsUncovered l glyph → i < subtable_count_of l.table.now l.place → IsOut l i glyph
out_at l glyph i gsub out below = subst (λ k. (subtable : LookupSubtable) → subtable_of l.table.now k l.place i ≡ Some subtable
    → begins l subtable glyph ≡ false) (sym (ap (λ t. if t then 9 else 7) gsub)) (λ subtable. out i subtable below)

subtable-uncovered : (l : Lookup) (i : ℕ) (spot : Spot) (b : Buffer) → l.positioning ≡ false → IsUncovered l (item_at b spot.at).glyph_id
    → i < subtable_count_of l.table.now l.place
    → subtable_applied l i spot b ≡ unapplied b
subtable-uncovered l i spot b gsub out below = subtable_out l i spot b gsub (out_at l (item_at b spot.at).glyph_id i gsub out below)

subtables-uncovered : (l : Lookup) (spot : Spot) (b : Buffer) → l.positioning ≡ false → IsUncovered l (item_at b spot.at).glyph_id
    → (n i : ℕ) → n + i ≤ subtable_count_of l.table.now l.place → subtables_applied l spot n i b ≡ unapplied b
subtables-uncovered l spot b gsub out zero i within = refl
subtables-uncovered l spot b gsub out (suc n) i within =
    ap (or_next (subtables_applied l spot n (suc i))) (subtable-uncovered l i spot b gsub out (omega (arith, within)))
    ∙ if_same (is_past b) (unapplied b) (subtables_applied l spot n (suc i) b) (unapplied b) refl
    (subtables-uncovered l spot b gsub out n (suc i) (omega (arith, within)))

-- ---- lookups of context

found-uncovered : (l : Lookup) (items : List Item) (origin : Origin) → l.positioning ≡ false → IsUncovered l (nth items origin.at).glyph_id
    → found_of l items origin ≡ None
found-uncovered l items origin gsub out =
    first_some_none (found_at_subtable l items origin) (subtable_count_of l.table.now l.place) (λ i below. found_out l items origin i (out_at l (nth items origin.at).glyph_id i gsub out below))
    (subtable_count_of l.table.now l.place) 0 (omega arith)

in_subtable-reach : (l : Lookup) (items : List Item) (origin : Origin) (subtable : LookupSubtable)
    → subtable_covers l subtable (nth items origin.at).glyph_id ≡ false → subtable_reach l items origin subtable ≡ untried origin.at
in_subtable-reach l items origin subtable out = by_kind (is_context_subtable l subtable) refl
  where
    by_format : (t : Bool) → nat_eq (u16_of l.table.now subtable.start) 3 ≡ t → context_covers l subtable (nth items origin.at).glyph_id ≡ false
        → (if t then whole_reach l items origin subtable else sets_reach l items origin subtable) ≡ untried origin.at
    by_format true is none =
        let first : is_first l.table.now subtable.start (whole_rule l.table.now (is_chained l subtable) subtable.start)
        (nth items origin.at).glyph_id ≡ false =
        subst (λ t. (if t then is_first l.table.now subtable.start (whole_rule l.table.now (is_chained l subtable) subtable.start)
        (nth items origin.at).glyph_id
        else is_some (number_of l.table.now subtable.start (nth items origin.at).glyph_id)) ≡ false) is none in
        rw first refl
    by_format false is none =
        let number : is_some (number_of l.table.now subtable.start (nth items origin.at).glyph_id) ≡ false =
        subst (λ t. (if t then is_first l.table.now subtable.start (whole_rule l.table.now (is_chained l subtable) subtable.start)
        (nth items origin.at).glyph_id
        else is_some (number_of l.table.now subtable.start (nth items origin.at).glyph_id)) ≡ false) is none in
        map_or_none (number_reach l items origin subtable) (untried origin.at) _ (none_of _ number)

    by_kind : (t : Bool) → is_context_subtable l subtable ≡ t
        → (if t then (if nat_eq (u16_of l.table.now subtable.start) 3 then whole_reach l items origin subtable else sets_reach l items origin subtable)
        else untried origin.at) ≡ untried origin.at
    by_kind true is = by_format (nat_eq (u16_of l.table.now subtable.start) 3) refl (context_out l subtable (nth items origin.at).glyph_id is out)
    by_kind false is = refl

at_subtable-reach : (l : Lookup) (items : List Item) (origin : Origin) (i : ℕ) → l.positioning ≡ false
    → IsUncovered l (nth items origin.at).glyph_id
    → i < subtable_count_of l.table.now l.place
    → reach_at_subtable l items origin i ≡ untried origin.at
at_subtable-reach l items origin i gsub out below =
    let e : extension_kind l ≡ 7 = ap (λ t. if t then 9 else 7) gsub in
    ap (λ k. option_map_or (subtable_reach l items origin) (subtable_of l.table.now k l.place i) (untried origin.at)) e
    ∙ by_subtable (subtable_of l.table.now 7 l.place i) refl
  where
    by_subtable : (o : Option LookupSubtable) → subtable_of l.table.now 7 l.place i ≡ o
        → option_map_or (subtable_reach l items origin) o (untried origin.at) ≡ untried origin.at
    by_subtable None e = refl
    by_subtable (Some subtable) e = in_subtable-reach l items origin subtable (out i subtable below e)

-- nothing was looked at, so nothing is marked
tried-uncovered : (l : Lookup) (spot : Spot) (b : Buffer) → l.positioning ≡ false → IsUncovered l (item_at b spot.at).glyph_id
    → tried_marked l spot b ≡ b
tried-uncovered l spot b gsub out =
    let origin = origin_of spot b in
    ap (λ r. concat_marked r b) (until_untried_below (reach_at_subtable l b.items origin) spot.at (subtable_count_of l.table.now l.place) (λ i below. at_subtable-reach l b.items origin i gsub out below)
    (subtable_count_of l.table.now l.place) 0 (omega arith)) ∙ concat_marked_untried spot.at b

pub nested-uncovered : (level : ℕ) (l : Lookup) (spot : Spot) (b : Buffer) → l.positioning ≡ false → IsUncovered l (item_at b spot.at).glyph_id
    → nested_applied level l spot b ≡ unapplied b
nested-uncovered zero l spot b gsub out = refl
nested-uncovered (suc level) l spot b gsub out =
    let here : level_applied (nested_applied level) l spot b ≡ unapplied b =
    if_same (is_context l) (first_rule_applied (nested_applied level) l spot (tried_marked l spot b))
    (lookup_applied l spot b) (unapplied b)
    (ap (first_rule_applied (nested_applied level) l spot) (tried-uncovered l spot b gsub out)
    ∙ map_or_none (rule_applied (nested_applied level) l spot b) (unapplied b) _ (found-uncovered l b.items (origin_of spot b) gsub out))
    (subtables-uncovered l spot b gsub out (subtable_count_of l.table.now l.place) 0 (omega arith)) in
    if_same (is_past b) (unapplied b) _ (unapplied b) refl
    (if_same (is_inside spot.at b) (level_applied (nested_applied level) l spot b) (unapplied b) (unapplied b) here refl)

-- ---- the walk

walk_same : (t : Bool) (b : Buffer) (x y : Walk) → x.buffer ≡ b → y.buffer ≡ b → (if t then x else y).buffer ≡ b
walk_same true b x y k m = k
walk_same false b x y k m = m

-- a lookup that doesn't cover the glyph is charged for nothing
pub charged-uncovered : (l : Lookup) (items : List Item) (at left : ℕ) → l.positioning ≡ false → IsUncovered l (nth items at).glyph_id
    → lookup_charged l items at left ≡ Some left
charged-uncovered l items at left gsub out = lookup_free l items at left
    (λ i below. charged_out l items at i left (out_at l (nth items at).glyph_id i gsub out below))

place-uncovered : (l : Lookup) (items : List Item) (origin : Origin) (left : ℕ) → l.positioning ≡ false
    → IsUncovered l (nth items origin.at).glyph_id → place_charged l items origin left ≡ Some left
place-uncovered l items origin left gsub out =
    if_same (is_context l) (sought_left l items origin left) (lookup_charged l items origin.at left) (Some left)
    (ap (option_map (λ (s : Sought). s.left))
    (sought_free l items origin left (λ i below. out_at l (nth items origin.at).glyph_id i gsub out below)))
    (charged-uncovered l items origin.at left gsub out)

pub tried-uncovered-at : (levels : ℕ) (l : Lookup) (s : Walk) → l.positioning ≡ false → IsUncovered l (item_at s.buffer s.spot.at).glyph_id
    → tried (nested_applied levels l) l s ≡ passed s
tried-uncovered-at levels l s gsub out =
    ap (λ o. option_map_or (tried_within (nested_applied levels l) s) o (passed (with_left 0 s)))
    (place-uncovered l s.buffer.items (origin_of s.spot s.buffer) s.spot.left gsub out)
    ∙ ap (gone_on s) (nested-uncovered levels l s.spot s.buffer gsub out)

step-uncovered : (levels : ℕ) (l : Lookup) (s : Walk) → l.positioning ≡ false → CoversNone l s.buffer.items
    → (lookup_step (nested_applied levels l) l s).buffer ≡ s.buffer
step-uncovered levels l s gsub none =
    walk_same (is_past s.buffer) s.buffer s _ refl (inside (is_inside s.spot.at s.buffer) refl)
  where
    inside : (t : Bool) → is_inside s.spot.at s.buffer ≡ t
        → (if t then (if is_on l (item_at s.buffer s.spot.at) then tried (nested_applied levels l) l s else passed s) else s).buffer
        ≡ s.buffer
    inside false e = refl
    inside true e =
        walk_same (is_on l (item_at s.buffer s.spot.at)) s.buffer (tried (nested_applied levels l) l s) (passed s)
        (ap (λ (w : Walk). w.buffer) (tried-uncovered-at levels l s gsub (none s.spot.at (grind (arith, nat_tests, e))))) refl

walk-uncovered : (levels : ℕ) (l : Lookup) (s : Walk) → l.positioning ≡ false → CoversNone l s.buffer.items
    → (n : ℕ) → (times (lookup_step (nested_applied levels l) l) n s).buffer ≡ s.buffer
walk-uncovered levels l s gsub none zero = refl
walk-uncovered levels l s gsub none (suc n) =
    let here = times (lookup_step (nested_applied levels l) l) n s in
    let same : here.buffer ≡ s.buffer = walk-uncovered levels l s gsub none n in
    step-uncovered levels l here gsub (subst (λ (b : Buffer). CoversNone l b.items) (sym same) none) ∙ same

-- ---- backwards

reversal-uncovered : (l : Lookup) (items : List Item) (at i : ℕ) → l.positioning ≡ false → IsUncovered l (nth items at).glyph_id
    → i < subtable_count_of l.table.now l.place
    → reversal_in l items at i ≡ None
reversal-uncovered l items at i gsub out below =
    let e : extension_kind l ≡ 7 = ap (λ t. if t then 9 else 7) gsub in
    ap (λ k. option_and_then (reversal_by l items at) (subtable_of l.table.now k l.place i)) e
    ∙ by_subtable (subtable_of l.table.now 7 l.place i) refl
  where
    by_kind : (subtable : LookupSubtable) (t : Bool) → is_context_subtable l subtable ≡ t → subtable_covers l subtable (nth items at).glyph_id ≡ false
        → reversal_by l items at subtable ≡ None
    by_kind subtable true is none = rw (not_reverse l subtable gsub is) refl
    by_kind subtable false is none =
        if_same (nat_eq subtable.kind 8 && nat_eq (u16_of l.table.now subtable.start) 1) _ _ None
        (and_then_none (reversal_of l items at subtable.start) _ (number_out l subtable (nth items at).glyph_id is none)) refl

    by_subtable : (o : Option LookupSubtable) → subtable_of l.table.now 7 l.place i ≡ o → option_and_then (reversal_by l items at) o ≡ None
    by_subtable None e = refl
    by_subtable (Some subtable) e = by_kind subtable (is_context_subtable l subtable) refl (out i subtable below e)

backwards-reach : (l : Lookup) (items : List Item) (at i : ℕ) → l.positioning ≡ false → IsUncovered l (nth items at).glyph_id
    → i < subtable_count_of l.table.now l.place
    → reversal_reach_in l items at i ≡ untried at
backwards-reach l items at i gsub out below =
    let e : extension_kind l ≡ 7 = ap (λ t. if t then 9 else 7) gsub in
    ap (λ k. option_map_or (reversal_reach_by l items at) (subtable_of l.table.now k l.place i) (untried at)) e
    ∙ by_subtable (subtable_of l.table.now 7 l.place i) refl
  where
    by_kind : (subtable : LookupSubtable) (t : Bool) → is_context_subtable l subtable ≡ t → subtable_covers l subtable (nth items at).glyph_id ≡ false
        → reversal_reach_by l items at subtable ≡ untried at
    by_kind subtable true is none = rw (not_reverse l subtable gsub is) refl
    by_kind subtable false is none =
        if_same (nat_eq subtable.kind 8 && nat_eq (u16_of l.table.now subtable.start) 1) _ _ (untried at)
        (map_or_none (reversal_reach_of l items at subtable.start) (untried at) _ (number_out l subtable (nth items at).glyph_id is none)) refl

    by_subtable : (o : Option LookupSubtable) → subtable_of l.table.now 7 l.place i ≡ o
        → option_map_or (reversal_reach_by l items at) o (untried at) ≡ untried at
    by_subtable None e = refl
    by_subtable (Some subtable) e = by_kind subtable (is_context_subtable l subtable) refl (out i subtable below e)

at-uncovered : (l : Lookup) (at : ℕ) (b : Buffer) → l.positioning ≡ false → IsUncovered l (item_at b at).glyph_id → reversed_at l at b ≡ b
at-uncovered l at b gsub out =
    let n = subtable_count_of l.table.now l.place in
    let still : concat_marked (reversal_reach l b.items at) b ≡ b =
    ap (λ r. concat_marked r b) (until_untried_below (reversal_reach_in l b.items at) at n (λ i below. backwards-reach l b.items at i gsub out below) n 0 (omega arith))
    ∙ concat_marked_untried at b in
    if_same (is_on l (item_at b at)) (first_reversed l at (concat_marked (reversal_reach l b.items at) b)) b b
    (ap (first_reversed l at) still
    ∙ map_or_none (reversed_by l at b) b _ (first_some_none (reversal_in l b.items at) n
    (λ i below. reversal-uncovered l b.items at i gsub out below) n 0 (omega arith))) refl

abbrev pub back : Buffer → ℕ → ℕ → Backwards
back b left at = record { buffer = b; at = at; left = left }

-- the place is inside the list all along
back-uncovered : (l : Lookup) (left : ℕ) (b : Buffer) → l.positioning ≡ false → CoversNone l b.items → (n m : ℕ)
    → m < length b.items + 1 → times (reverse_step l) n (back b left m) ≡ back b left (m - n)
back-uncovered l left b gsub none zero m within = ap (back b left) (omega arith)
back-uncovered l left b gsub none (suc n) m within =
    ap (reverse_step l) (back-uncovered l left b gsub none n m within) ∙ one (nat_eq (m - n) 0) refl
  where
    one : (t : Bool) → nat_eq (m - n) 0 ≡ t
        → (if t then back b left (m - n) else option_map_or (reversed_within l (back b left (m - n)))
        (lookup_charged l b.items (m - n - 1) left) (back b 0 (m - n - 1))) ≡ back b left (m - suc n)
    one true e =
        let zero_left : m - n ≡ m - suc n = grind (arith, nat_tests, e) in
        ap (back b left) zero_left
    one false e =
        let inside : m - n - 1 < length b.items = grind (arith, nat_tests, e, within) in
        let place : m - n - 1 ≡ m - suc n = omega arith in
        let out : IsUncovered l (nth b.items (m - n - 1)).glyph_id = none (m - n - 1) inside in
        ap (λ o. option_map_or (reversed_within l (back b left (m - n))) o (back b 0 (m - n - 1)))
        (charged-uncovered l b.items (m - n - 1) left gsub out)
        ∙ ap (λ (c : Buffer). back c left (m - n - 1)) (at-uncovered l (m - n - 1) b gsub out) ∙ ap (back b left) place

pub reversed-uncovered : (l : Lookup) (left : ℕ) (b : Buffer) → l.positioning ≡ false → CoversNone l b.items
    → reversed l left b ≡ back b left (length b.items - length b.items)
reversed-uncovered l left b gsub none = back-uncovered l left b gsub none (length b.items) (length b.items) (omega arith)

pub over-uncovered : (levels : ℕ) (l : Lookup) (s : Walk) → l.positioning ≡ false → CoversNone l s.buffer.items
    → (gone_over levels l s).buffer ≡ s.buffer
over-uncovered levels l s gsub none =
    walk_same (is_reverse l) s.buffer (gone_back s (reversed l s.spot.left s.buffer)) (walked (nested_applied levels l) l s)
    (ap (λ (w : Backwards). w.buffer) (reversed-uncovered l s.spot.left s.buffer gsub none))
    (walk-uncovered levels l (first_walk s) gsub none (length s.buffer.items))

pub looked-uncovered : (levels : ℕ) (l : Lookup) (s : Walk) → l.positioning ≡ false → CoversNone l s.buffer.items
    → (looked_up levels l s).buffer ≡ s.buffer
looked-uncovered levels l s gsub none =
    walk_same (nat_lt s.spot.left (walk_work l (length s.buffer.items))) s.buffer (walk_charged l s) (gone_over levels l (walk_charged l s))
    refl (over-uncovered levels l (walk_charged l s) gsub none)
