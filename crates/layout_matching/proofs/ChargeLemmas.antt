-- a charge leaves no more than there was
use Prim.Native.Nat.{zero}
use Rattle.std.proofs.Common.{◌≡◌, ℕ, suc, ◌≤◌, ◌+◌, ◌-◌, Bool, true, false, List, Option, Some, None, nat_eq, nat_lt, is_some, refl, ap, arith, if◌then◌else◌}
use Rattle.std.specs.Option.{option_and_then, option_map, option_map_or}
use Rattle.shape_items.specs.Items.{Item}
use Rattle.shape_font.specs.Bytes.{u16_of}
use Rattle.layout_tables.specs.Lookups.{subtable_count_of}
use Rattle.layout_tables.specs.declared.lookups.LookupSubtable.{LookupSubtable}
use Rattle.layout_matching.specs.Found.{is_context, is_context_subtable, is_first, set_for, whole_rule, is_chained, number_of, subtable_at, found_at, found_if}
use Rattle.layout_matching.specs.Loops.{steps}
use Rattle.layout_matching.specs.Rules.{rule_place}
use Rattle.layout_matching.specs.Skipping.{nth}
use Rattle.layout_matching.specs.Sought.{unfound, unless_found, is_idle, rule_paid, tried_sought, place_sought, rule_sought, rules_in, set_paid}
use Rattle.layout_matching.specs.Sought.{rules_sought, set_sought, numbered_sought, sets_sought, first_sought, whole_sought, subtable_sought}
use Rattle.layout_matching.specs.Sought.{sought_at_subtable, sought, sought_left, place_charged, named_charged}
use Rattle.layout_matching.specs.Work.{charged, counts_tallied, counted, counts_at, has_classes, rule_counted, counts_of, counts_work, null_counted}
use Rattle.layout_matching.specs.Work.{passed_charged, lists_charged, counted_charged, rule_charged, part_rule, part_counted, set_passed, set_counted}
use Rattle.layout_matching.specs.Work.{set_charged, uncounted, beside, SUBTABLE_WORK, backward_rule, is_backward, parts_for, whole_list}
use Rattle.layout_matching.specs.Work.{begun_charged, parts_charged, numbered_charged, whole_charged, is_whole, subtable_charged, charged_at_subtable}
use Rattle.layout_matching.specs.Work.{subtables_charged, is_paid, lookup_charged, steps_work, NESTED_WORK, nested_charged}
use Rattle.layout_matching.specs.declared.found.Found.{Found}
use Rattle.layout_matching.specs.declared.lookup.Lookup.{Lookup}
use Rattle.layout_matching.specs.declared.rules.Rule.{Rule}
use Rattle.layout_matching.specs.declared.sought.Sought.{Sought}
use Rattle.layout_matching.specs.declared.spans.Origin.{Origin}
use Rattle.layout_matching.specs.declared.tally.Counts.{Counts}
use Rattle.layout_matching.specs.declared.tally.Tally.{Tally}

abbrev pub Lessens : (ℕ → Option ℕ) → Type 0
Lessens f = (left rest : ℕ) → f left ≡ Some rest → rest ≤ left

abbrev value-of : Option ℕ → ℕ
value-of o = option_map_or (λ n. n) o 0

pub clash : {A : Type 0} {P : Type 0} (x : A) → ◌≡◌ {A = Option A} None (Some x) → P
clash x e = absurd (let bad : ◌≡◌ {A = Option _} None (Some x) = e in cc)

pub charged-lessens : (work : ℕ) → Lessens (charged work)
charged-lessens work left rest is = by_test (nat_lt left work) is
  where
    by_test : (t : Bool) → (if t then None else Some (left - work)) ≡ Some rest → rest ≤ left
    by_test true e = clash rest e
    by_test false e = let same : left - work ≡ rest = ap (λ (o : Option ℕ). option_map_or (λ n. n) o 0) e in omega (arith, same)

-- one charge, and another one from what it leaves
pub then-lessens : (left : ℕ) (o : Option ℕ) (g : ℕ → Option ℕ) → ((mid : ℕ) → o ≡ Some mid → mid ≤ left) → Lessens g → (rest : ℕ)
    → option_and_then g o ≡ Some rest → rest ≤ left
then-lessens left None g first later rest is = clash rest is
then-lessens left (Some mid) g first later rest is =
    let less = first mid refl in
    let more = later mid rest is in
    omega (arith, less, more)

-- the same over a tally
pub tally-lessens : (left : ℕ) (o : Option Tally) (g : Tally → Option ℕ) → ((mid : Tally) → o ≡ Some mid → mid.left ≤ left)
    → ((s : Tally) (rest : ℕ) → g s ≡ Some rest → rest ≤ s.left) → (rest : ℕ) → option_and_then g o ≡ Some rest → rest ≤ left
tally-lessens left None g first later rest is = clash rest is
tally-lessens left (Some mid) g first later rest is =
    let less = first mid refl in
    let more = later mid rest is in
    omega (arith, less, more)

pub steps-lessen : {S : Type 0} (view : S → ℕ) (f : ℕ → S → Option S) → ((k : ℕ) (s t : S) → f k s ≡ Some t → view t ≤ view s)
    → (n k : ℕ) (s t : S) → steps f n k s ≡ Some t → view t ≤ view s
steps-lessen {S} view f one zero k s t is =
    let same : view s ≡ view t = ap (λ (o : Option S). option_map_or view o (view s)) is in
    omega (arith, same)
steps-lessen {S} view f one (suc n) k s t is = by_step (f k s) (one k s) (λ u. steps-lessen view f one n (suc k) u t) is
  where
    by_step : (o : Option S) → ((u : S) → o ≡ Some u → view u ≤ view s) → ((u : S) → steps f n (suc k) u ≡ Some t → view t ≤ view u)
        → option_and_then (steps f n (suc k)) o ≡ Some t → view t ≤ view s
    by_step None first later e = clash t e
    by_step (Some u) first later e =
        let less = first u refl in
        let more = later u e in
        omega (arith, less, more)

-- ---- rules and ligatures

pub mapped-lessens : (left : ℕ) (f : ℕ → Tally) (o : Option ℕ) → ((n : ℕ) → (f n).left ≡ n) → ((n : ℕ) → o ≡ Some n → n ≤ left)
    → (t : Tally) → option_map f o ≡ Some t → t.left ≤ left
mapped-lessens left f None same less t is = clash t is
mapped-lessens left f (Some n) same less t is =
    let here : (f n).left ≡ t.left = ap (λ (o : Option Tally). option_map_or (λ (s : Tally). s.left) o 0) is in
    let it = same n in
    let low = less n refl in
    omega (arith, here, it, low)

counted-lessens : (c : Counts) (s t : Tally) → counted c s ≡ Some t → t.left ≤ s.left
counted-lessens c s t is =
    mapped-lessens s.left (counts_tallied c s) (charged (counts_work c) s.left) (λ n. refl)
    (λ n. charged-lessens (counts_work c) s.left n) t is

rule_counted-lessens : (rule : Rule) (s t : Tally) → rule_counted rule s ≡ Some t → t.left ≤ s.left
rule_counted-lessens rule = counted-lessens (counts_of rule)

null_counted-lessens : (s t : Tally) → null_counted s ≡ Some t → t.left ≤ s.left
null_counted-lessens s t is =
    mapped-lessens s.left (λ left. record s { left = left }) (charged 1 s.left) (λ n. refl) (λ n. charged-lessens 1 s.left n) t is

pub rule_charged-lessens : (l : Lookup) (items : List Item) (at : ℕ) (rule : Rule) → Lessens (rule_charged l items at rule)
rule_charged-lessens l items at rule left rest is =
    then-lessens left (lists_charged rule left) (counted_charged l items at rule)
    (λ mid. charged-lessens _ left mid)
    (λ mid more e. tally-lessens mid (rule_counted rule (uncounted mid)) (passed_charged l true items at)
    (λ s. rule_counted-lessens rule (uncounted mid) s) (λ s n. charged-lessens _ s.left n) more e)
    rest is

part_counted-lessens : (l : Lookup) (subtable : LookupSubtable) (set r : ℕ) (s t : Tally) → part_counted l subtable set r s ≡ Some t
    → t.left ≤ s.left
part_counted-lessens l subtable set r s t is = by_place (rule_place l.table.now set r) is
  where
    by_place : (o : Option ℕ) → option_map_or (λ place. rule_counted (part_rule l subtable place) s) o (null_counted s) ≡ Some t
        → t.left ≤ s.left
    by_place None e = null_counted-lessens s t e
    by_place (Some place) e = rule_counted-lessens (part_rule l subtable place) s t e

set_charged-lessens : (l : Lookup) (items : List Item) (at : ℕ) (subtable : LookupSubtable) (set left rest : ℕ)
    → set_charged l items at subtable left set ≡ Some rest → rest ≤ left
set_charged-lessens l items at subtable set left rest is =
    tally-lessens left (set_counted l subtable left set) (set_passed l items at subtable set)
    (λ s. steps-lessen (λ (t : Tally). t.left) (part_counted l subtable set) (part_counted-lessens l subtable set) _ 0 (beside left) s)
    (λ s n. charged-lessens _ s.left n) rest is

-- ---- subtables

pub parts_charged-lessens : (l : Lookup) (items : List Item) (at : ℕ) (subtable : LookupSubtable) (number : ℕ)
    → Lessens (parts_charged l items at subtable number)
parts_charged-lessens l items at subtable number left rest is = by_kind (is_backward l subtable) is
  where
    by_parts : (o : Option ℕ) → option_map_or (set_charged l items at subtable left) o (passed_charged l false items at (beside left)) ≡ Some rest
        → rest ≤ left
    by_parts None e = charged-lessens _ left rest e
    by_parts (Some set) e = set_charged-lessens l items at subtable set left rest e

    by_kind : (t : Bool) → (if t then rule_charged l items at (backward_rule l.table.now subtable.start) left
        else option_map_or (set_charged l items at subtable left) (parts_for l subtable (nth items at).glyph_id number)
        (passed_charged l false items at (beside left))) ≡ Some rest → rest ≤ left
    by_kind true e = rule_charged-lessens l items at (backward_rule l.table.now subtable.start) left rest e
    by_kind false e = by_parts (parts_for l subtable (nth items at).glyph_id number) e

pub begun_charged-lessens : (l : Lookup) (items : List Item) (subtable : LookupSubtable) → Lessens (begun_charged l items subtable)
begun_charged-lessens l items subtable left rest is =
    then-lessens left (charged (whole_list l items subtable) left) (charged SUBTABLE_WORK) (λ mid. charged-lessens _ left mid)
    (charged-lessens SUBTABLE_WORK) rest is

numbered_charged-lessens : (l : Lookup) (items : List Item) (at : ℕ) (subtable : LookupSubtable) (number left rest : ℕ)
    → numbered_charged l items at subtable left number ≡ Some rest → rest ≤ left
numbered_charged-lessens l items at subtable number left rest is =
    then-lessens left (begun_charged l items subtable left) (parts_charged l items at subtable number)
    (begun_charged-lessens l items subtable left) (parts_charged-lessens l items at subtable number) rest is

pub stays : (left rest : ℕ) → Some left ≡ Some rest → rest ≤ left
stays left rest is = let same : left ≡ rest = ap (λ (o : Option ℕ). option_map_or (λ n. n) o 0) is in omega (arith, same)

whole_charged-lessens : (l : Lookup) (items : List Item) (at : ℕ) (subtable : LookupSubtable) → Lessens (whole_charged l items at subtable)
whole_charged-lessens l items at subtable left rest is =
    by_first (is_first l.table.now subtable.start rule (nth items at).glyph_id) is
  where
    rule : Rule
    rule = whole_rule l.table.now (is_chained l subtable) subtable.start

    by_first : (t : Bool) → (if t then option_and_then (rule_charged l items at rule) (begun_charged l items subtable left) else Some left)
        ≡ Some rest → rest ≤ left
    by_first true e =
        then-lessens left (begun_charged l items subtable left) (rule_charged l items at rule)
        (begun_charged-lessens l items subtable left) (rule_charged-lessens l items at rule) rest e
    by_first false e = stays left rest e

pub subtable_charged-lessens : (l : Lookup) (items : List Item) (at : ℕ) (subtable : LookupSubtable) (left rest : ℕ)
    → subtable_charged l items at left subtable ≡ Some rest → rest ≤ left
subtable_charged-lessens l items at subtable left rest is = by_whole (is_whole l subtable) is
  where
    by_number : (o : Option ℕ) → option_map_or (numbered_charged l items at subtable left) o (Some left) ≡ Some rest → rest ≤ left
    by_number None e = stays left rest e
    by_number (Some number) e = numbered_charged-lessens l items at subtable number left rest e

    by_whole : (t : Bool) → (if t then whole_charged l items at subtable left
        else option_map_or (numbered_charged l items at subtable left) (number_of l.table.now subtable.start (nth items at).glyph_id)
        (Some left)) ≡ Some rest → rest ≤ left
    by_whole true e = whole_charged-lessens l items at subtable left rest e
    by_whole false e = by_number (number_of l.table.now subtable.start (nth items at).glyph_id) e

pub charged_at-lessens : (l : Lookup) (items : List Item) (at i left rest : ℕ) → charged_at_subtable l items at i left ≡ Some rest → rest ≤ left
charged_at-lessens l items at i left rest is = by_subtable (subtable_at l i) is
  where
    by_subtable : (o : Option LookupSubtable) → option_map_or (subtable_charged l items at left) o (Some left) ≡ Some rest → rest ≤ left
    by_subtable None e = stays left rest e
    by_subtable (Some subtable) e = subtable_charged-lessens l items at subtable left rest e

-- ---- lookups

pub subtables_charged-lessens : (l : Lookup) (items : List Item) (at : ℕ) → Lessens (subtables_charged l items at)
subtables_charged-lessens l items at left rest is =
    steps-lessen (λ n. n) (charged_at_subtable l items at) (λ i. charged_at-lessens l items at i)
    (subtable_count_of l.table.now l.place) 0 left rest is

pub lookup_charged-lessens : (l : Lookup) (items : List Item) (at : ℕ) → Lessens (lookup_charged l items at)
lookup_charged-lessens l items at left rest is = by_paid (is_paid l (nth items at)) is
  where
    by_paid : (t : Bool) → (if t then Some left else subtables_charged l items at left) ≡ Some rest → rest ≤ left
    by_paid true e = stays left rest e
    by_paid false e = subtables_charged-lessens l items at left rest e

pub nested_charged-lessens : (l : Lookup) (items : List Item) (at : ℕ) → Lessens (nested_charged l items at)
nested_charged-lessens l items at left rest is =
    then-lessens left (charged (steps_work l + NESTED_WORK) left) (subtables_charged l items at) (λ mid. charged-lessens _ left mid)
    (subtables_charged-lessens l items at) rest is

-- ---- the rule that is sought

abbrev Leaves : ℕ → Option Sought → Type 0
Leaves left o = (s : Sought) → o ≡ Some s → s.left ≤ left

abbrev left-in : Option Sought → ℕ
left-in o = option_map_or (λ (s : Sought). s.left) o 0

unfound-leaves : (left : ℕ) → Leaves left (Some (unfound left))
unfound-leaves left s is = let same : left ≡ s.left = ap left-in is in omega (arith, same)

found-leaves : (left : ℕ) (found : Option Found) (o : Option ℕ) → ((rest : ℕ) → o ≡ Some rest → rest ≤ left)
    → Leaves left (option_map (λ rest. record { left = rest; found = found }) o)
found-leaves left found None less s is = clash s is
found-leaves left found (Some rest) less s is =
    let same : rest ≡ s.left = ap left-in is in
    let low = less rest refl in
    omega (arith, same, low)

then-leaves : (left : ℕ) (o : Option ℕ) (g : ℕ → Option Sought) → ((mid : ℕ) → o ≡ Some mid → mid ≤ left)
    → ((mid : ℕ) → Leaves mid (g mid)) → Leaves left (option_and_then g o)
then-leaves left None g first later s is = clash s is
then-leaves left (Some mid) g first later s is =
    let less = first mid refl in
    let more = later mid s is in
    omega (arith, less, more)

walk-leaves : (f : ℕ → ℕ → Option Sought) → ((k left : ℕ) → Leaves left (f k left)) → (n left : ℕ)
    → Leaves left (steps (unless_found f) n 0 (unfound left))
walk-leaves f each n left s is = steps-lessen (λ (t : Sought). t.left) (unless_found f) one n 0 (unfound left) s is
  where
    one : (k : ℕ) (t u : Sought) → unless_found f k t ≡ Some u → u.left ≤ t.left
    one k t u = by_found (is_some t.found)
      where
        by_found : (b : Bool) → (if b then Some t else f k t.left) ≡ Some u → u.left ≤ t.left
        by_found true e = let same : t.left ≡ u.left = ap left-in e in omega (arith, same)
        by_found false e = each k t.left u e

module _ (l : Lookup) (items : List Item) (origin : Origin) where
  rule-leaves : (subtable : LookupSubtable) (set r left : ℕ) → Leaves left (rule_sought l items origin subtable set r left)
  rule-leaves subtable set r left = by_place (rule_place l.table.now set r)
    where
      paid : (place rest : ℕ) → rule_paid l items origin.at subtable left place ≡ Some rest → rest ≤ left
      paid place rest is =
          let counts = counts_at l.table.now (is_chained l subtable) place in
          tally-lessens left (counted counts (uncounted left)) (passed_charged l (has_classes l subtable) items origin.at)
          (λ s. counted-lessens counts (uncounted left) s) (λ s n. charged-lessens _ s.left n) rest is

      by_idle : (place : ℕ) (t : Bool)
          → Leaves left (if t then Some (unfound left) else tried_sought l items origin subtable left place)
      by_idle place true = unfound-leaves left
      by_idle place false =
          found-leaves left (found_at l items origin subtable place) (rule_paid l items origin.at subtable left place) (paid place)

      by_place : (o : Option ℕ) → Leaves left (option_map_or (place_sought l items origin subtable left) o (Some (unfound left)))
      by_place None = unfound-leaves left
      by_place (Some place) = by_idle place (is_idle l items origin subtable place)

  set-leaves : (subtable : LookupSubtable) (left set : ℕ) → Leaves left (set_sought l items origin subtable left set)
  set-leaves subtable left set =
      then-leaves left (set_paid l items origin.at subtable left set) (rules_sought l items origin subtable set) paid
      (λ mid. walk-leaves (rule_sought l items origin subtable set) (rule-leaves subtable set) (rules_in l set) mid)
    where
      paid : (rest : ℕ) → set_paid l items origin.at subtable left set ≡ Some rest → rest ≤ left
      paid rest is =
          then-lessens left (charged (rules_in l set) left)
          (λ mid. passed_charged l (has_classes l subtable) items origin.at (beside mid))
          (λ mid. charged-lessens (rules_in l set) left mid) (λ mid more e. charged-lessens _ mid more e) rest is

  sets-leave : (subtable : LookupSubtable) (left : ℕ) → Leaves left (sets_sought l items origin subtable left)
  sets-leave subtable left = by_number (number_of l.table.now subtable.start (nth items origin.at).glyph_id)
    where
      by_set : (rest : ℕ) (o : Option ℕ) → Leaves rest (option_map_or (set_sought l items origin subtable rest) o (Some (unfound rest)))
      by_set rest None = unfound-leaves rest
      by_set rest (Some set) = set-leaves subtable rest set

      by_number : (o : Option ℕ)
          → Leaves left (option_map_or (λ number. option_and_then (numbered_sought l items origin subtable number) (charged SUBTABLE_WORK left))
          o (Some (unfound left)))
      by_number None = unfound-leaves left
      by_number (Some number) =
          then-leaves left (charged SUBTABLE_WORK left) (numbered_sought l items origin subtable number)
          (λ mid. charged-lessens SUBTABLE_WORK left mid)
          (λ mid. by_set mid (set_for l.table.now (is_chained l subtable) subtable.start (nth items origin.at).glyph_id number))

  whole-leaves : (subtable : LookupSubtable) (left : ℕ) → Leaves left (whole_sought l items origin subtable left)
  whole-leaves subtable left = by_first (is_first l.table.now subtable.start rule (nth items origin.at).glyph_id)
    where
      rule : Rule
      rule = whole_rule l.table.now (is_chained l subtable) subtable.start

      by_first : (t : Bool)
          → Leaves left (if t then option_and_then (first_sought l items origin subtable) (charged SUBTABLE_WORK left) else Some (unfound left))
      by_first true =
          then-leaves left (charged SUBTABLE_WORK left) (first_sought l items origin subtable)
          (λ mid. charged-lessens SUBTABLE_WORK left mid)
          (λ mid. found-leaves mid (found_if l items origin rule) (rule_charged l items origin.at rule mid)
          (rule_charged-lessens l items origin.at rule mid))
      by_first false = unfound-leaves left

  sought_at-leaves : (i left : ℕ) → Leaves left (sought_at_subtable l items origin i left)
  sought_at-leaves i left = by_subtable (subtable_at l i)
    where
      by_format : (subtable : LookupSubtable) (t : Bool)
          → Leaves left (if t then whole_sought l items origin subtable left else sets_sought l items origin subtable left)
      by_format subtable true = whole-leaves subtable left
      by_format subtable false = sets-leave subtable left

      by_kind : (subtable : LookupSubtable) (t : Bool)
          → Leaves left (if t then (if nat_eq (u16_of l.table.now subtable.start) 3 then whole_sought l items origin subtable left
          else sets_sought l items origin subtable left) else Some (unfound left))
      by_kind subtable true = by_format subtable (nat_eq (u16_of l.table.now subtable.start) 3)
      by_kind subtable false = unfound-leaves left

      by_subtable : (o : Option LookupSubtable) → Leaves left (option_map_or (subtable_sought l items origin left) o (Some (unfound left)))
      by_subtable None = unfound-leaves left
      by_subtable (Some subtable) = by_kind subtable (is_context_subtable l subtable)

  sought-leaves : (left : ℕ) → Leaves left (sought l items origin left)
  sought-leaves left =
      walk-leaves (sought_at_subtable l items origin) sought_at-leaves (subtable_count_of l.table.now l.place) left

  sought_left-lessens : Lessens (sought_left l items origin)
  sought_left-lessens left rest is = by_sought (sought l items origin left) (sought-leaves left) is
    where
      by_sought : (o : Option Sought) → Leaves left o → option_map (λ (s : Sought). s.left) o ≡ Some rest → rest ≤ left
      by_sought None less e = clash rest e
      by_sought (Some s) less e =
          let same : s.left ≡ rest = ap value-of e in
          let low = less s refl in
          omega (arith, same, low)

  pub place_charged-lessens : Lessens (place_charged l items origin)
  place_charged-lessens left rest is = by_kind (is_context l) is
    where
      by_kind : (t : Bool) → (if t then sought_left l items origin left else lookup_charged l items origin.at left) ≡ Some rest → rest ≤ left
      by_kind true e = sought_left-lessens left rest e
      by_kind false e = lookup_charged-lessens l items origin.at left rest e

  pub named_charged-lessens : Lessens (named_charged l items origin)
  named_charged-lessens left rest is = by_kind (is_context l) is
    where
      by_kind : (t : Bool) → (if t then option_and_then (sought_left l items origin) (charged (steps_work l + NESTED_WORK) left)
          else nested_charged l items origin.at left) ≡ Some rest → rest ≤ left
      by_kind true e =
          then-lessens left (charged (steps_work l + NESTED_WORK) left) (sought_left l items origin) (λ mid. charged-lessens _ left mid)
          sought_left-lessens rest e
      by_kind false e = nested_charged-lessens l items origin.at left rest e
