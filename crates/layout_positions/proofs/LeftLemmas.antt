-- what is left for lookups never rises, and nothing is done once nothing is left
use Prim.Native.Nat.{zero}
use Rattle.std.proofs.Common.{◌≡◌, ℕ, suc, ◌<◌, ◌≤◌, ◌+◌, ◌-◌, ◌*◌, Bool, true, false, List, [], ◌∷◌, Option, Some, None, fold, is_some, length, nat_eq, nat_lt, refl, ap, arith, if◌then◌else◌}
use Rattle.std.specs.Option.{option_map_or}
use Rattle.std.proofs.lemmas.Bool.Decides.{nat_tests}
use Rattle.shape_items.specs.Buffer.{Buffer}
use Rattle.layout_tables.specs.Lookups.{subtable_count_of, subtable_of}
use Rattle.layout_tables.specs.declared.lookups.LookupSubtable.{LookupSubtable}
use Rattle.layout_matching.specs.Found.{found_of, is_context}
use Rattle.layout_matching.specs.Loops.{times}
use Rattle.layout_matching.specs.Skipping.{nth, is_on}
use Rattle.layout_matching.specs.Sought.{place_charged, named_charged}
use Rattle.layout_matching.specs.Work.{walk_work}
use Rattle.layout_matching.specs.declared.found.Found.{Found}
use Rattle.layout_matching.specs.declared.lookup.Lookup.{Lookup}
use Rattle.layout_matching.specs.declared.rules.Rule.{Rule}
use Rattle.layout_positions.specs.Edits.{broken}
use Rattle.layout_positions.specs.Marks.{base_seen, seek_work}
use Rattle.layout_positions.specs.Nested.{LEVELS, named_index, named_place, named_lookup, Nest, skipped, spent, record_within, record_at_place}
use Rattle.layout_positions.specs.Nested.{seek_charged, record_for, record_step, rule_placed, origin_at, tried_concat_marked, first_rule_placed}
use Rattle.layout_positions.specs.Nested.{level_placed, nested_placed}
use Rattle.layout_positions.specs.Subtables.{looks_for_base, Placing, unplaced, sought_from, links_of, links_charged, unsought, sought, kind_placed, subtable_placed, Trial, trial_of, subtable_tried, next_tried, trial_step, lookup_placed}
use Rattle.layout_positions.specs.Walk.{Budgeted, Walk, tried_within, tried, lookup_step, first_walk, gone_over, walk_charged, lookup_applied, budgeted, positioned}
use Rattle.layout_positions.specs.declared.bases.BaseSeen.{BaseSeen}
use Rattle.layout_matching.proofs.ChargeLemmas.{charged-lessens, place_charged-lessens, named_charged-lessens}

pub nothing-left : {P : Type 0} → 0 < 0 → P
nothing-left less = absurd (omega (arith, less))

clash : {A : Type 0} {P : Type 0} (x : A) → ◌≡◌ {A = Option A} None (Some x) → P
clash x e = absurd (let bad : ◌≡◌ {A = Option _} None (Some x) = e in cc)

pub some-before : (now before : ℕ) → now ≤ before → 0 < now → 0 < before
some-before now before less some = omega (arith, less, some)

sought-lessens : (l : Lookup) (subtable : LookupSubtable) (i : ℕ) (b : Buffer) (seen : BaseSeen) (left rest : ℕ)
    → (sought l subtable i b seen left).left ≡ Some rest → rest ≤ left
sought-lessens l subtable i b seen left rest is = by_looks (looks_for_base l subtable i b) is
  where
    by_none : (t : Bool) → (if t then None else Some (left - links_of l subtable i b * 2)) ≡ Some rest → rest ≤ left
    by_none true e = clash rest e
    by_none false e =
        let same : left - links_of l subtable i b * 2 ≡ rest = ap (λ (o : Option ℕ). option_map_or (λ n. n) o 0) e in
        omega (arith, same)

    by_kind : (t : Bool) → (if t then links_charged l subtable i b left else Some left) ≡ Some rest → rest ≤ left
    by_kind true e = by_none (nat_eq left 0) e
    by_kind false e = let same : left ≡ rest = ap (λ (o : Option ℕ). option_map_or (λ n. n) o 0) e in omega (arith, same)

    by_looks : (t : Bool)
        → (if t then sought_from l subtable b.items i seen left (base_seen l subtable b.items i seen)
        else record { seen = seen; left = unsought l subtable i b left }).left ≡ Some rest → rest ≤ left
    by_looks true e = charged-lessens (seek_work l subtable b.items i seen (base_seen l subtable b.items i seen).place) left rest e
    by_looks false e = by_kind (nat_eq subtable.kind 3) e

placed-less : (l : Lookup) (subtable : LookupSubtable) (i : ℕ) (b : Buffer) (seen : BaseSeen) (left : ℕ)
    → (subtable_placed l subtable i b (sought l subtable i b seen left)).left ≤ left
placed-less l subtable i b seen left =
    by_charge (sought l subtable i b seen left).left (λ rest. sought-lessens l subtable i b seen left rest)
  where
    by_charge : (o : Option ℕ) → ((rest : ℕ) → o ≡ Some rest → rest ≤ left)
        → (option_map_or (kind_placed l subtable i b (sought l subtable i b seen left).seen) o
        (unplaced 0 (sought l subtable i b seen left).seen b)).left ≤ left
    by_charge None less = omega arith
    by_charge (Some rest) less = less rest refl

trial-less : (l : Lookup) (i : ℕ) (s : Trial) → (trial_step l i s).left ≤ s.left
trial-less l i s = by_next (is_some s.next)
  where
    by_subtable : (o : Option LookupSubtable) → (option_map_or (subtable_tried l i s) o (trial_of s (unplaced s.left s.seen s.buffer))).left ≤ s.left
    by_subtable None = omega arith
    by_subtable (Some subtable) = placed-less l subtable i s.buffer s.seen s.left

    by_next : (t : Bool) → (if t then record s { subtable = s.subtable + 1 } else next_tried l i s).left ≤ s.left
    by_next true = omega arith
    by_next false = by_subtable (subtable_of l.table.now 9 l.place s.subtable)

pub trial-left : (l : Lookup) (i : ℕ) (s : Trial) → 0 < (trial_step l i s).left → 0 < s.left
trial-left l i s = some-before (trial_step l i s).left s.left (trial-less l i s)

times-less : {S : Type 0} (view : S → ℕ) (f : S → S) → ((s : S) → view (f s) ≤ view s) → (n : ℕ) (s : S) → view (times f n s) ≤ view s
times-less view f one zero s = omega arith
times-less view f one (suc n) s =
    let last = one (times f n s) in
    let before = times-less view f one n s in
    omega (arith, last, before)

-- ---- lookups that are named

abbrev pub NextLess : (Lookup → ℕ → ℕ → BaseSeen → Buffer → Placing) → Type 0
NextLess next = (l : Lookup) (i left : ℕ) (seen : BaseSeen) (b : Buffer) → (next l i left seen b).left ≤ left

record-less : (next : Lookup → ℕ → ℕ → BaseSeen → Buffer → Placing) → NextLess next → (l : Lookup) (at : ℕ) (rule : Rule) (s : Nest)
    → (record_step next l at rule s).left ≤ s.left
record-less next deeper l at rule s = by_left (nat_eq s.left 0)
  where
    by_charge : (other : Lookup) (place : ℕ) (o : Option ℕ)
        → ((rest : ℕ) → o ≡ Some rest → rest ≤ s.left - named_index l rule s.r * 8)
        → (option_map_or (record_within next (seek_charged l rule s) other place) o (spent (seek_charged l rule s))).left ≤ s.left
    by_charge other place None low = omega arith
    by_charge other place (Some rest) low =
        let first = low rest refl in
        let made = deeper other place rest s.seen s.buffer in
        omega (arith, first, made)

    by_place : (other : Lookup) (o : Option ℕ)
        → (option_map_or (record_at_place next (seek_charged l rule s) other) o (skipped s)).left ≤ s.left
    by_place other None = omega arith
    by_place other (Some place) =
        by_charge other place (named_charged other s.buffer.items (origin_at place) (s.left - named_index l rule s.r * 8))
        (λ rest. named_charged-lessens other s.buffer.items (origin_at place) (s.left - named_index l rule s.r * 8) rest)

    by_lookup : (o : Option Lookup) → (option_map_or (record_for next l at rule s) o (skipped s)).left ≤ s.left
    by_lookup None = omega arith
    by_lookup (Some other) = by_place other (named_place l s.buffer.items at rule s.r)

    by_left : (t : Bool)
        → (if t then skipped s else option_map_or (record_for next l at rule s) (named_lookup l rule s.r) (skipped s)).left ≤ s.left
    by_left true = omega arith
    by_left false = by_lookup (named_lookup l rule s.r)

pub level-less : (next : Lookup → ℕ → ℕ → BaseSeen → Buffer → Placing) → NextLess next → NextLess (level_placed next)
level-less next deeper l i left seen b = by_kind (is_context l)
  where
    by_found : (c : Buffer) (o : Option Found) → (option_map_or (rule_placed next l i left seen c) o (unplaced left seen c)).left ≤ left
    by_found c None = omega arith
    by_found c (Some found) =
        times-less (λ (t : Nest). t.left) (record_step next l i found.rule) (record-less next deeper l i found.rule) found.rule.count
        (record { buffer = broken found.span.start found.span.end c; seen = seen; left = left; r = 0 })

    by_kind : (t : Bool)
        → (if t then first_rule_placed next l i left seen (tried_concat_marked l i b) else lookup_placed l i left seen b).left ≤ left
    by_kind true =
        let c = tried_concat_marked l i b in
        by_found c (found_of l c.items (origin_at i))
    by_kind false =
        times-less (λ (t : Trial). t.left) (trial_step l i) (trial-less l i) (subtable_count_of l.table.now l.place)
        (record { buffer = b; next = None; seen = seen; left = left; subtable = 0 })

pub nested-less : (level : ℕ) → NextLess (nested_placed level)
nested-less zero l i left seen b = omega arith
nested-less (suc level) l i left seen b = by_inside (level-less (nested_placed level) (nested-less level) l i left seen b) (nat_lt i (length b.items))
  where
    by_inside : (level_placed (nested_placed level) l i left seen b).left ≤ left → (t : Bool)
        → (if t then level_placed (nested_placed level) l i left seen b else unplaced left seen b).left ≤ left
    by_inside made true = made
    by_inside made false = omega arith

-- ---- records and trials, where something is left after them

pub record-left : (next : Lookup → ℕ → ℕ → BaseSeen → Buffer → Placing) (other : Lookup) (at : ℕ) (rule : Rule) (s : Nest)
    → 0 < (record_step next other at rule s).left → 0 < s.left
record-left next other at rule s more = by_left (nat_eq s.left 0) refl more
  where
    by_left : (t : Bool) → nat_eq s.left 0 ≡ t
        → 0 < (if t then skipped s else option_map_or (record_for next other at rule s) (named_lookup other rule s.r) (skipped s)).left
        → 0 < s.left
    by_left true is some = some
    by_left false is some = grind (arith, nat_tests, is)

pub times-left : {S : Type 0} (view : S → ℕ) (f : S → S) → ((s : S) → 0 < view (f s) → 0 < view s) → (n : ℕ) (s : S)
    → 0 < view (times f n s) → 0 < view s
times-left view f one zero s some = some
times-left view f one (suc n) s some = times-left view f one n s (one (times f n s) some)

-- ---- walks

pub walk-less : (l : Lookup) (s : Walk) → (lookup_step l s).left ≤ s.left
walk-less l s = by_inside (nat_lt s.at (length s.buffer.items))
  where
    by_charge : (o : Option ℕ) → ((rest : ℕ) → o ≡ Some rest → rest ≤ s.left)
        → (option_map_or (tried_within l s) o (record s { at = s.at + 1; left = 0 })).left ≤ s.left
    by_charge None low = omega arith
    by_charge (Some rest) low =
        let first = low rest refl in
        let made = nested-less LEVELS l s.at rest s.seen s.buffer in
        omega (arith, first, made)

    by_on : (t : Bool) → (if t then tried l s else record s { at = s.at + 1 }).left ≤ s.left
    by_on true = by_charge (place_charged l s.buffer.items (origin_at s.at) s.left)
        (λ rest. place_charged-lessens l s.buffer.items (origin_at s.at) s.left rest)
    by_on false = omega arith

    by_inside : (t : Bool) → (if t then (if is_on l (nth s.buffer.items s.at) then tried l s else record s { at = s.at + 1 }) else s).left ≤ s.left
    by_inside true = by_on (is_on l (nth s.buffer.items s.at))
    by_inside false = omega arith

pub over-less : (l : Lookup) (s : Budgeted) → (gone_over s l).left ≤ s.left
over-less l s = times-less (λ (w : Walk). w.left) (lookup_step l) (walk-less l) (length s.buffer.items) (first_walk s)

lookup-less : (l : Lookup) (s : Budgeted) → (lookup_applied s l).left ≤ s.left
lookup-less l s = by_work (nat_lt s.left (walk_work l (length s.buffer.items)))
  where
    by_work : (t : Bool) → (if t then walk_charged s l else gone_over (walk_charged s l) l).left ≤ s.left
    by_work true = omega arith
    by_work false = let over = over-less l (walk_charged s l) in omega (arith, over)

pub fold-less : (lookups : List Lookup) (s : Budgeted) → (fold lookup_applied s lookups).left ≤ s.left
fold-less [] s = omega arith
fold-less (l ∷ lookups) s =
    let first = lookup-less l s in
    let later = fold-less lookups (lookup_applied s l) in
    omega (arith, first, later)

pub positioned-less : (lookups : List Lookup) (b : Buffer) → (positioned lookups b).max_ops ≤ b.max_ops
positioned-less lookups b = fold-less lookups (budgeted b)
