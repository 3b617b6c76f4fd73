-- a list that no lookup covers stays as it is
use Prim.Native.Nat.{zero}
use Rattle.std.proofs.Common.{◌≡◌, ℕ, suc, ◌+◌, ◌-◌, ◌*◌, ◌&&◌, Bool, true, false, List, [], ◌∷◌, Option, Some, None, is_some, All, fold, length, nat_eq, nat_lt, refl, sym, ap, subst, ◌∙◌, arith, ◌<◌, ◌≤◌, ◌||◌, if◌then◌else◌}
use Rattle.std.proofs.lemmas.Bool.Decides.{nat_tests}
use Rattle.std.specs.Option.{option_map, option_map_or, option_and_then}
use Rattle.shape_font.specs.Bytes.{u16_of}
use Rattle.shape_items.specs.Buffer.{Buffer}
use Rattle.shape_items.specs.Items.{Item}
use Rattle.layout_tables.specs.Lookups.{subtable_count_of, subtable_of}
use Rattle.layout_tables.specs.declared.lookups.LookupSubtable.{LookupSubtable}
use Rattle.layout_matching.specs.Firsts.{begins, IsOut}
use Rattle.layout_matching.specs.Found.{extension_kind, is_context, is_context_subtable, is_chained, whole_rule, is_first, found_whole, found_by_number, found_in_sets, found_in_subtable, found_at_subtable, found_of}
use Rattle.layout_matching.specs.Loops.{times, first_some}
use Rattle.layout_matching.specs.Skipping.{nth, is_on}
use Rattle.layout_matching.specs.Tried.{untried, whole_reach, number_reach, sets_reach, subtable_reach, reach_at_subtable, reach_of}
use Rattle.layout_digests.proofs.TriedLemmas.{until_untried_below}
use Rattle.layout_matching.specs.Sought.{sought_left, place_charged}
use Rattle.layout_matching.specs.Work.{lookup_charged, walk_work, walks_charged}
use Rattle.layout_matching.proofs.FirstLemmas.{charged_out}
use Rattle.layout_matching.proofs.SoughtLemmas.{sought_free}
use Rattle.layout_matching.proofs.WorkLemmas.{lookup_free}
use Rattle.layout_matching.specs.declared.lookup.Lookup.{Lookup}
use Rattle.layout_matching.specs.declared.sought.Sought.{Sought as RuleSought}
use Rattle.layout_matching.specs.declared.spans.Origin.{Origin}
use Rattle.layout_matching.specs.declared.tried.Reach.{Reach}
use Rattle.layout_positions.specs.Anchors.{number_at}
use Rattle.layout_positions.specs.Cursive.{entry_in, cursive_at, cursive_applied, links_at, cursive_links}
use Rattle.layout_positions.specs.Edits.{concat_marked}
use Rattle.layout_positions.specs.Lookups.{Applied, unapplied}
use Rattle.layout_positions.specs.Marks.{mark_base_at, mark_base_applied, mark_number, base_seen, mark_ligature_at, mark_ligature_applied, mark_mark_at, mark_mark_applied}
use Rattle.layout_positions.specs.Nested.{rule_placed, origin_at, tried_concat_marked, first_rule_placed, level_placed, nested_placed, LEVELS}
use Rattle.layout_positions.specs.Pairs.{single_value, single_put, single_applied, pair_at_number, has_pairs, pair_applied}
use Rattle.layout_positions.specs.Subtables.{if_first_format, kind_applied, LINK_WORK, links_of, links_charged, unsought, sought_from, sought}
use Rattle.layout_positions.specs.Subtables.{kind_placed, subtable_placed, Trial, subtable_tried, trial_of, trial_step, Placing, unplaced, placed_by}
use Rattle.layout_positions.specs.Subtables.{lookup_placed}
use Rattle.layout_positions.specs.Uncovered.{is_listed_at, rule_lists, subtable_lists, IsUnlisted, IsUncovered}
use Rattle.layout_positions.specs.Walk.{Walk, gone_on, tried_within, tried, lookup_step, Budgeted, first_walk, gone_over, walk_charged, lookup_applied, budgeted, settled_up, positioned}
use Rattle.layout_positions.specs.declared.bases.BaseSeen.{BaseSeen}
use Rattle.layout_positions.specs.declared.subtables.Sought.{Sought}

same-if : {X : Type 0} (t : Bool) (x y z : X) → x ≡ z → y ≡ z → (if t then x else y) ≡ z
same-if true x y z a b = a
same-if false x y z a b = b

-- ---- a subtable

format-un : (l : Lookup) (start : ℕ) (b : Buffer) (made : Applied) → made ≡ unapplied b → if_first_format l start b made ≡ unapplied b
format-un l start b made is = same-if (nat_eq (u16_of l.table.now start) 1) made (unapplied b) (unapplied b) is refl

kind-un : (l : Lookup) (subtable : LookupSubtable) (base : Option ℕ) (i : ℕ) (b : Buffer)
    → number_at l.table.now subtable.start (subtable.start + 2) (nth b.items i).glyph_id ≡ None → kind_applied l subtable base i b ≡ unapplied b
kind-un l subtable base i b none =
    let t = l.table.now in
    let s = subtable.start in
    let single : single_applied l s i b ≡ unapplied b =
    ap (λ o. option_map_or (single_put i b) (option_and_then (single_value l s) o) (unapplied b)) none in
    let pair : pair_applied l s i b ≡ unapplied b =
    same-if (has_pairs t s) _ (unapplied b) (unapplied b) (ap (λ o. option_map_or (pair_at_number l s i b) o (unapplied b)) none) refl in
    let cursive : cursive_applied l s i b ≡ unapplied b =
    ap (λ o. option_map_or (cursive_at l s i b) (option_and_then (entry_in l s) o) (unapplied b)) none in
    let on_base : mark_base_applied l s base i b ≡ unapplied b = ap (λ o. option_map_or (mark_base_at l s base i b) o (unapplied b)) none in
    let on_ligature : mark_ligature_applied l s base i b ≡ unapplied b =
    ap (λ o. option_map_or (mark_ligature_at l s base i b) o (unapplied b)) none in
    let on_mark : mark_mark_applied l s i b ≡ unapplied b = ap (λ o. option_map_or (mark_mark_at l s i b) o (unapplied b)) none in
    same-if (nat_eq subtable.kind 1) _ _ _ single
    (same-if (nat_eq subtable.kind 2) _ _ _ pair
    (same-if (nat_eq subtable.kind 3) _ _ _ (format-un l s b _ cursive)
    (same-if (nat_eq subtable.kind 4) _ _ _ (format-un l s b _ on_base)
    (same-if (nat_eq subtable.kind 5) _ _ _ (format-un l s b _ on_ligature)
    (same-if (nat_eq subtable.kind 6) _ _ _ (format-un l s b _ on_mark) refl)))))

-- contexts have their own kinds
kind-context : (l : Lookup) (subtable : LookupSubtable) (base : Option ℕ) (i : ℕ) (b : Buffer) → l.positioning ≡ true
    → is_context_subtable l subtable ≡ true → kind_applied l subtable base i b ≡ unapplied b
kind-context l subtable base i b gpos is =
    let kinds : (nat_eq subtable.kind 7 || nat_eq subtable.kind 8) ≡ true =
    subst (λ t. (nat_eq subtable.kind (if t then 7 else 5) || nat_eq subtable.kind (if t then 8 else 6)) ≡ true) gpos is in
    let one : nat_eq subtable.kind 1 ≡ false = grind (arith, nat_tests, kinds) in
    let two : nat_eq subtable.kind 2 ≡ false = grind (arith, nat_tests, kinds) in
    let three : nat_eq subtable.kind 3 ≡ false = grind (arith, nat_tests, kinds) in
    let four : nat_eq subtable.kind 4 ≡ false = grind (arith, nat_tests, kinds) in
    let five : nat_eq subtable.kind 5 ≡ false = grind (arith, nat_tests, kinds) in
    let six : nat_eq subtable.kind 6 ≡ false = grind (arith, nat_tests, kinds) in
    rw one (rw two (rw three (rw four (rw five (rw six refl)))))

none_of : {A : Type 0} (o : Option A) → is_some o ≡ false → o ≡ None
none_of None e = refl
none_of (Some x) e = cc

-- a subtable that doesn't list the glyph isn't applied
subtable-un : (l : Lookup) (b : Buffer) (i : ℕ) → l.positioning ≡ true → (subtable : LookupSubtable)
    → subtable_lists l subtable (nth b.items i).glyph_id ≡ false → (base : Option ℕ) → kind_applied l subtable base i b ≡ unapplied b
subtable-un l b i gpos subtable un base = by_kind (is_context_subtable l subtable) refl un
  where
    by_kind : (t : Bool) → is_context_subtable l subtable ≡ t
        → (if t then rule_lists l subtable (nth b.items i).glyph_id else is_listed_at l subtable (nth b.items i).glyph_id) ≡ false
        → kind_applied l subtable base i b ≡ unapplied b
    by_kind true is none = kind-context l subtable base i b gpos is
    by_kind false is none = kind-un l subtable base i b
        (none_of (number_at l.table.now subtable.start (subtable.start + 2) (nth b.items i).glyph_id) none)

last-out : {X : Type 0} (x y z : Bool) (p q : X) → z ≡ false → (if x && y && z then p else q) ≡ q
last-out true true true p q is = cc
last-out true true false p q is = refl
last-out true false z p q is = refl
last-out false y z p q is = refl

-- and looks for no base
seen-un : (l : Lookup) (subtable : LookupSubtable) (i : ℕ) (b : Buffer) (seen : BaseSeen) (left : ℕ) → l.positioning ≡ true
    → subtable_lists l subtable (nth b.items i).glyph_id ≡ false
    → sought l subtable i b seen left ≡ record { seen = seen; left = unsought l subtable i b left }
seen-un l subtable i b seen left gpos un = by_kind (is_context_subtable l subtable) refl un
  where
    by_kind : (t : Bool) → is_context_subtable l subtable ≡ t
        → (if t then rule_lists l subtable (nth b.items i).glyph_id else is_listed_at l subtable (nth b.items i).glyph_id) ≡ false
        → sought l subtable i b seen left ≡ record { seen = seen; left = unsought l subtable i b left }
    by_kind true is none =
        let kinds : (nat_eq subtable.kind 7 || nat_eq subtable.kind 8) ≡ true =
        subst (λ t. (nat_eq subtable.kind (if t then 7 else 5) || nat_eq subtable.kind (if t then 8 else 6)) ≡ true) gpos is in
        let four : nat_eq subtable.kind 4 ≡ false = grind (arith, nat_tests, kinds) in
        let five : nat_eq subtable.kind 5 ≡ false = grind (arith, nat_tests, kinds) in
        rw four (rw five refl)
    by_kind false is none = last-out (nat_eq subtable.kind 4 || nat_eq subtable.kind 5) (nat_eq (u16_of l.table.now subtable.start) 1)
        (is_some (mark_number l subtable.start i b)) (sought_from l subtable b.items i seen left (base_seen l subtable b.items i seen))
        (record { seen = seen; left = unsought l subtable i b left }) none

-- and turns no chain
links-un : (l : Lookup) (subtable : LookupSubtable) (i : ℕ) (b : Buffer) → l.positioning ≡ true
    → subtable_lists l subtable (nth b.items i).glyph_id ≡ false → nat_eq subtable.kind 3 ≡ true → links_of l subtable i b ≡ 0
links-un l subtable i b gpos un third = by_kind (is_context_subtable l subtable) refl un
  where
    by_kind : (t : Bool) → is_context_subtable l subtable ≡ t
        → (if t then rule_lists l subtable (nth b.items i).glyph_id else is_listed_at l subtable (nth b.items i).glyph_id) ≡ false
        → links_of l subtable i b ≡ 0
    by_kind true is none =
        let kinds : (nat_eq subtable.kind 7 || nat_eq subtable.kind 8) ≡ true =
        subst (λ t. (nat_eq subtable.kind (if t then 7 else 5) || nat_eq subtable.kind (if t then 8 else 6)) ≡ true) gpos is in
        let other : nat_eq subtable.kind 3 ≡ false = grind (arith, nat_tests, kinds) in
        cc
    by_kind false is none =
        same-if (nat_eq (u16_of l.table.now subtable.start) 1) (cursive_links l subtable.start i b) 0 0
        (ap (λ o. option_map_or (links_at l subtable.start i b) (option_and_then (entry_in l subtable.start) o) 0)
        (none_of (number_at l.table.now subtable.start (subtable.start + 2) (nth b.items i).glyph_id) none)) refl

-- so that what is left stays
left-un : (l : Lookup) (subtable : LookupSubtable) (i : ℕ) (b : Buffer) (seen : BaseSeen) (left : ℕ) → l.positioning ≡ true
    → subtable_lists l subtable (nth b.items i).glyph_id ≡ false → kind_applied l subtable seen.place i b ≡ unapplied b
    → subtable_placed l subtable i b (record { seen = seen; left = unsought l subtable i b left }) ≡ unplaced left seen b
left-un l subtable i b seen left gpos un still = by_kind (nat_eq subtable.kind 3) refl
  where
    applied : (n : ℕ) → n ≡ left → kind_placed l subtable i b seen n ≡ unplaced left seen b
    applied n is = ap (λ (a : Applied). record { buffer = a.buffer; next = a.next; seen = seen; left = n }) still
        ∙ ap (λ m. unplaced m seen b) is

    by_left : (t : Bool) → nat_eq left 0 ≡ t → links_of l subtable i b ≡ 0
        → option_map_or (kind_placed l subtable i b seen) (if t then None else Some (left - links_of l subtable i b * LINK_WORK)) (unplaced 0 seen b)
        ≡ unplaced left seen b
    by_left true is none = ap (λ m. unplaced m seen b) (grind (arith, nat_tests, is))
    by_left false is none =
        let whole : left - 0 ≡ left = omega arith in
        applied _ (ap (λ n. left - n * LINK_WORK) none ∙ whole)

    by_kind : (t : Bool) → nat_eq subtable.kind 3 ≡ t
        → option_map_or (kind_placed l subtable i b seen) (if t then links_charged l subtable i b left else Some left) (unplaced 0 seen b)
        ≡ unplaced left seen b
    by_kind true is = by_left (nat_eq left 0) refl (links-un l subtable i b gpos un is)
    by_kind false is = applied left refl

-- ---- a lookup at a place

-- nothing has been done by so many subtables
abbrev still : ℕ → BaseSeen → Buffer → ℕ → Trial
still left seen b n = record { buffer = b; next = None; seen = seen; left = left; subtable = n }

tried-un : (l : Lookup) (b : Buffer) (i n left : ℕ) (seen : BaseSeen) → l.positioning ≡ true → (o : Option LookupSubtable)
    → ((subtable : LookupSubtable) → o ≡ Some subtable → subtable_lists l subtable (nth b.items i).glyph_id ≡ false)
    → option_map_or (subtable_tried l i (still left seen b n)) o (trial_of (still left seen b n) (unplaced left seen b))
    ≡ still left seen b (n + 1)
tried-un l b i n left seen gpos None un = refl
tried-un l b i n left seen gpos (Some subtable) un =
    let unlisted : subtable_lists l subtable (nth b.items i).glyph_id ≡ false = un subtable refl in
    ap (λ (s : Sought). trial_of (still left seen b n) (subtable_placed l subtable i b s)) (seen-un l subtable i b seen left gpos unlisted)
    ∙ ap (trial_of (still left seen b n))
    (left-un l subtable i b seen left gpos unlisted (subtable-un l b i gpos subtable unlisted seen.place))

-- a subtable that doesn't begin at the glyph leaves all as it was
subtable_out : (l : Lookup) (i n left : ℕ) (seen : BaseSeen) (b : Buffer) → l.positioning ≡ true → IsOut l n (nth b.items i).glyph_id
    → still left seen b (n + 1) ≡ trial_step l i (still left seen b n)
subtable_out l i n left seen b gpos out = sym (tried-un l b i n left seen gpos (subtable_of l.table.now 9 l.place n)
    (λ subtable there. out subtable (ap (λ t. subtable_of l.table.now (if t then 9 else 7) l.place n) gpos ∙ there)))

pub subtable_passed : (l : Lookup) (i n left : ℕ) (seen : BaseSeen) (b : Buffer) (next : Option ℕ) → is_some next ≡ false → l.positioning ≡ true
    → IsOut l n (nth b.items i).glyph_id
    → ◌≡◌ {A = Trial} (record { buffer = b; next = next; seen = seen; left = left; subtable = n + 1 })
    (trial_step l i (record { buffer = b; next = next; seen = seen; left = left; subtable = n }))
subtable_passed l i n left seen b None none gpos out = subtable_out l i n left seen b gpos out
subtable_passed l i n left seen b (Some x) none gpos out = cc

times-un : (l : Lookup) (b : Buffer) (i left : ℕ) (seen : BaseSeen) → l.positioning ≡ true → IsUnlisted l (nth b.items i).glyph_id
    → (n : ℕ) → n ≤ subtable_count_of l.table.now l.place → times (trial_step l i) n (still left seen b 0) ≡ still left seen b n
times-un l b i left seen gpos un zero within = refl
times-un l b i left seen gpos un (suc n) within =
    let e : n + 1 ≡ suc n = omega arith in
    ap (trial_step l i) (times-un l b i left seen gpos un n (omega (arith, within)))
    ∙ tried-un l b i n left seen gpos (subtable_of l.table.now 9 l.place n) (λ subtable there. un n subtable (omega (arith, within)) there)
    ∙ ap (still left seen b) e

-- ---- rules at a place

and_then_none : {A B : Type 0} (f : A → Option B) (o : Option A) → o ≡ None → option_and_then f o ≡ None
and_then_none f o e = ap (option_and_then f) e

first_some_none : {X : Type 0} (f : ℕ → Option X) (m : ℕ) → ((i : ℕ) → i < m → f i ≡ None) → (n i : ℕ) → n + i ≤ m → first_some f n i ≡ None
first_some_none f m none zero i within = refl
first_some_none f m none (suc n) i within = rw (none i (omega (arith, within))) (first_some_none f m none n (suc i) (omega (arith, within)))

rules-un : (l : Lookup) (items : List Item) (origin : Origin) (subtable : LookupSubtable)
    → subtable_lists l subtable (nth items origin.at).glyph_id ≡ false → found_in_subtable l items origin subtable ≡ None
rules-un l items origin subtable out = by_kind (is_context_subtable l subtable) refl out
  where
    by_format : (t : Bool)
        → (if t then is_first l.table.now subtable.start (whole_rule l.table.now (is_chained l subtable) subtable.start) (nth items origin.at).glyph_id
        else is_listed_at l subtable (nth items origin.at).glyph_id) ≡ false
        → (if t then found_whole l items origin subtable else found_in_sets l items origin subtable) ≡ None
    by_format true none = rw none refl
    by_format false none = and_then_none (found_by_number l items origin subtable) _
        (none_of (number_at l.table.now subtable.start (subtable.start + 2) (nth items origin.at).glyph_id) none)

    by_kind : (t : Bool) → is_context_subtable l subtable ≡ t
        → (if t then rule_lists l subtable (nth items origin.at).glyph_id else is_listed_at l subtable (nth items origin.at).glyph_id) ≡ false
        → (if t then (if nat_eq (u16_of l.table.now subtable.start) 3 then found_whole l items origin subtable else found_in_sets l items origin subtable)
        else None) ≡ None
    by_kind true is none = by_format (nat_eq (u16_of l.table.now subtable.start) 3) none
    by_kind false is none = refl

at_subtable-un : (l : Lookup) (items : List Item) (origin : Origin) (k : ℕ) → l.positioning ≡ true → IsUnlisted l (nth items origin.at).glyph_id
    → k < subtable_count_of l.table.now l.place
    → found_at_subtable l items origin k ≡ None
at_subtable-un l items origin k gpos un below =
    let far : extension_kind l ≡ 9 = ap (λ t. if t then 9 else 7) gpos in
    ap (λ kind. option_and_then (found_in_subtable l items origin) (subtable_of l.table.now kind l.place k)) far
    ∙ by_concat (subtable_of l.table.now 9 l.place k) refl
  where
    by_concat : (o : Option LookupSubtable) → subtable_of l.table.now 9 l.place k ≡ o
        → option_and_then (found_in_subtable l items origin) o ≡ None
    by_concat None e = refl
    by_concat (Some subtable) e = rules-un l items origin subtable (un k subtable below e)

found-un : (l : Lookup) (items : List Item) (origin : Origin) → l.positioning ≡ true → IsUnlisted l (nth items origin.at).glyph_id
    → found_of l items origin ≡ None
found-un l items origin gpos un =
    first_some_none (found_at_subtable l items origin) (subtable_count_of l.table.now l.place)
    (λ k below. at_subtable-un l items origin k gpos un below) (subtable_count_of l.table.now l.place) 0 (omega arith)

-- ---- what rules look at in vain

reach_in-un : (l : Lookup) (items : List Item) (origin : Origin) (subtable : LookupSubtable)
    → subtable_lists l subtable (nth items origin.at).glyph_id ≡ false → subtable_reach l items origin subtable ≡ untried origin.at
reach_in-un l items origin subtable out = by_kind (is_context_subtable l subtable) refl out
  where
    by_format : (t : Bool)
        → (if t then is_first l.table.now subtable.start (whole_rule l.table.now (is_chained l subtable) subtable.start) (nth items origin.at).glyph_id
        else is_listed_at l subtable (nth items origin.at).glyph_id) ≡ false
        → (if t then whole_reach l items origin subtable else sets_reach l items origin subtable) ≡ untried origin.at
    by_format true none = rw none refl
    by_format false none = ap (λ o. option_map_or (number_reach l items origin subtable) o (untried origin.at))
        (none_of (number_at l.table.now subtable.start (subtable.start + 2) (nth items origin.at).glyph_id) none)

    by_kind : (t : Bool) → is_context_subtable l subtable ≡ t
        → (if t then rule_lists l subtable (nth items origin.at).glyph_id else is_listed_at l subtable (nth items origin.at).glyph_id) ≡ false
        → (if t then (if nat_eq (u16_of l.table.now subtable.start) 3 then whole_reach l items origin subtable else sets_reach l items origin subtable)
        else untried origin.at) ≡ untried origin.at
    by_kind true is none = by_format (nat_eq (u16_of l.table.now subtable.start) 3) none
    by_kind false is none = refl

reach_at-un : (l : Lookup) (items : List Item) (origin : Origin) (k : ℕ) → l.positioning ≡ true → IsUnlisted l (nth items origin.at).glyph_id
    → k < subtable_count_of l.table.now l.place
    → reach_at_subtable l items origin k ≡ untried origin.at
reach_at-un l items origin k gpos un below =
    let far : extension_kind l ≡ 9 = ap (λ t. if t then 9 else 7) gpos in
    ap (λ kind. option_map_or (subtable_reach l items origin) (subtable_of l.table.now kind l.place k) (untried origin.at)) far
    ∙ by_concat (subtable_of l.table.now 9 l.place k) refl
  where
    by_concat : (o : Option LookupSubtable) → subtable_of l.table.now 9 l.place k ≡ o
        → option_map_or (subtable_reach l items origin) o (untried origin.at) ≡ untried origin.at
    by_concat None e = refl
    by_concat (Some subtable) e = reach_in-un l items origin subtable (un k subtable below e)

tried-still : (i : ℕ) (b : Buffer) (reach : Reach) → reach ≡ untried i → (if nat_lt reach.from reach.to then concat_marked reach.from reach.to b else b) ≡ b
tried-still i b reach is =
    let none : nat_lt i i ≡ false = grind (arith, nat_tests) in
    ap (λ (r : Reach). if nat_lt r.from r.to then concat_marked r.from r.to b else b) is ∙ ap (λ t. if t then concat_marked i i b else b) none

tried-none : (l : Lookup) (i : ℕ) (b : Buffer) → l.positioning ≡ true → IsUnlisted l (nth b.items i).glyph_id → tried_concat_marked l i b ≡ b
tried-none l i b gpos un = tried-still i b (reach_of l b.items (origin_at i))
    (until_untried_below (reach_at_subtable l b.items (origin_at i)) i (subtable_count_of l.table.now l.place)
    (λ k below. reach_at-un l b.items (origin_at i) k gpos un below) (subtable_count_of l.table.now l.place) 0 (omega arith))

-- ---- levels

level-un : (next : Lookup → ℕ → ℕ → BaseSeen → Buffer → Placing) (l : Lookup) (i left : ℕ) (seen : BaseSeen) (b : Buffer)
    → l.positioning ≡ true → IsUnlisted l (nth b.items i).glyph_id → level_placed next l i left seen b ≡ unplaced left seen b
level-un next l i left seen b gpos un =
    same-if (is_context l) _ (lookup_placed l i left seen b) (unplaced left seen b)
    (ap (first_rule_placed next l i left seen) (tried-none l i b gpos un)
    ∙ ap (λ o. option_map_or (rule_placed next l i left seen b) o (unplaced left seen b)) (found-un l b.items (origin_at i) gpos un))
    (ap placed_by (times-un l b i left seen gpos un (subtable_count_of l.table.now l.place) (omega arith)))

-- nothing is done, and the lookup goes on to the next glyph
nested-un : (level : ℕ) (l : Lookup) (i left : ℕ) (seen : BaseSeen) (b : Buffer) → l.positioning ≡ true
    → IsUnlisted l (nth b.items i).glyph_id → nested_placed level l i left seen b ≡ unplaced left seen b
nested-un zero l i left seen b gpos un = refl
nested-un (suc level) l i left seen b gpos un =
    same-if (nat_lt i (length b.items)) (level_placed (nested_placed level) l i left seen b) (unplaced left seen b) (unplaced left seen b)
    (level-un (nested_placed level) l i left seen b gpos un) refl

-- ---- over a list

-- to the next glyph
abbrev passed : Walk → Walk
passed s = record s { at = s.at + 1 }

-- a lookup that doesn't list the glyph is charged for nothing
out_of : (l : Lookup) (glyph k : ℕ) → l.positioning ≡ true → IsUnlisted l glyph → k < subtable_count_of l.table.now l.place → IsOut l k glyph
out_of l glyph k gpos un below =
    subst (λ kind. (subtable : LookupSubtable) → subtable_of l.table.now kind l.place k ≡ Some subtable → begins l subtable glyph ≡ false)
    (sym (ap (λ t. if t then 9 else 7) gpos)) (λ subtable. un k subtable below)

charged-un : (l : Lookup) (items : List Item) (origin : Origin) (left : ℕ) → l.positioning ≡ true
    → IsUnlisted l (nth items origin.at).glyph_id → place_charged l items origin left ≡ Some left
charged-un l items origin left gpos un =
    same-if (is_context l) (sought_left l items origin left) (lookup_charged l items origin.at left) (Some left)
    (ap (option_map (λ (s : RuleSought). s.left))
    (sought_free l items origin left (λ k below. out_of l (nth items origin.at).glyph_id k gpos un below)))
    (lookup_free l items origin.at left
    (λ k below. charged_out l items origin.at k left (out_of l (nth items origin.at).glyph_id k gpos un below)))

try-un : (l : Lookup) (s : Walk) → l.positioning ≡ true → IsUnlisted l (nth s.buffer.items s.at).glyph_id → tried l s ≡ passed s
try-un l s gpos un =
    ap (λ o. option_map_or (tried_within l s) o (record s { at = s.at + 1; left = 0 }))
    (charged-un l s.buffer.items (origin_at s.at) s.left gpos un)
    ∙ ap (gone_on s.at) (nested-un LEVELS l s.at s.left s.seen s.buffer gpos un)

-- at a glyph that no subtable lists
pub step-unlisted : (l : Lookup) (s : Walk) → l.positioning ≡ true → IsUnlisted l (nth s.buffer.items s.at).glyph_id
    → nat_lt s.at (length s.buffer.items) ≡ true → lookup_step l s ≡ record s { at = s.at + 1 }
step-unlisted l s gpos un inside =
    ap (λ t. if t then (if is_on l (nth s.buffer.items s.at) then tried l s else passed s) else s) inside
    ∙ same-if (is_on l (nth s.buffer.items s.at)) (tried l s) (passed s) (passed s) (try-un l s gpos un) refl

-- a walk that has changed nothing
record IsIdle (b : Buffer) (budget : ℕ) (s : Walk) : Type 0 where
  buffer : s.buffer ≡ b
  left : s.left ≡ budget

step-un : (l : Lookup) (b : Buffer) (left : ℕ) → IsUncovered b l → (s : Walk) → IsIdle b left s → IsIdle b left (lookup_step l s)
step-un l b left un s idle = by_place (nat_lt s.at (length s.buffer.items)) refl
  where
    by_place : (t : Bool) → nat_lt s.at (length s.buffer.items) ≡ t → IsIdle b left (lookup_step l s)
    by_place true e =
        let inside : s.at < length b.items = grind (arith, nat_tests, ap (λ (c : Buffer). nat_lt s.at (length c.items)) (sym idle.buffer) ∙ e) in
        let listed : IsUnlisted l (nth s.buffer.items s.at).glyph_id =
        subst (λ (c : Buffer). IsUnlisted l (nth c.items s.at).glyph_id) (sym idle.buffer) (un.glyphs s.at inside) in
        let is : lookup_step l s ≡ passed s = step-unlisted l s un.positioning listed e in
        subst (IsIdle b left) (sym is) (record { buffer = idle.buffer; left = idle.left })
    by_place false e =
        let is : lookup_step l s ≡ s = ap (λ t. if t then (if is_on l (nth s.buffer.items s.at) then tried l s else passed s) else s) e in
        subst (IsIdle b left) (sym is) idle

walk-un : (l : Lookup) (b : Buffer) (left : ℕ) → IsUncovered b l → (n : ℕ) (s : Walk) → IsIdle b left s → IsIdle b left (times (lookup_step l) n s)
walk-un l b left un zero s idle = idle
walk-un l b left un (suc n) s idle = step-un l b left un (times (lookup_step l) n s) (walk-un l b left un n s idle)

-- a lookup that covers none leaves all as it is
over-uncovered : (l : Lookup) (b : Buffer) (left : ℕ) → IsUncovered b l
    → gone_over (record { buffer = b; left = left }) l ≡ record { buffer = b; left = left }
over-uncovered l b left un =
    let s : Budgeted = record { buffer = b; left = left } in
    let end = walk-un l b left un (length b.items) (first_walk s) (record { buffer = refl; left = refl }) in
    ap (λ (c : Buffer). record { buffer = c; left = (times (lookup_step l) (length b.items) (first_walk s)).left }) end.buffer
    ∙ ap (λ n. record { buffer = b; left = n }) end.left

-- its walk is charged for all the same
pub lookup-uncovered : (l : Lookup) (s : Budgeted) → IsUncovered s.buffer l → lookup_applied s l ≡ walk_charged s l
lookup-uncovered l s un =
    let t = walk_charged s l in
    same-if (nat_lt s.left (walk_work l (length s.buffer.items))) t (gone_over t l) t refl (over-uncovered l s.buffer t.left un)

lookups-un : (lookups : List Lookup) (s : Budgeted) → All (IsUncovered s.buffer) lookups
    → settled_up (fold lookup_applied s lookups)
    ≡ record s.buffer { max_ops = walks_charged lookups (length s.buffer.items) s.left }
lookups-un [] s all = refl
lookups-un (l ∷ lookups) s all =
    let first : IsUncovered s.buffer l = all 0 l (omega arith) in
    ap (λ t. settled_up (fold lookup_applied t lookups)) (lookup-uncovered l s first)
    ∙ lookups-un lookups (walk_charged s l) (λ k d inside. all (suc k) d (omega (arith, inside)))

pub positioned-uncovered : (lookups : List Lookup) (b : Buffer) → All (IsUncovered b) lookups
    → positioned lookups b ≡ record b { max_ops = walks_charged lookups (length b.items) b.max_ops }
positioned-uncovered lookups b all = lookups-un lookups (budgeted b) all
