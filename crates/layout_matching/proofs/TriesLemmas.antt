-- no more is tried than is charged for
use Prim.Native.Nat.{zero}
use Rattle.std.proofs.Common.{◌≡◌, ℕ, suc, ◌≤◌, ◌+◌, ◌-◌, ◌*◌, ◌&&◌, ◌||◌, not, max, min, Bool, true, false, List, Option, Some, None, is_some, nat_eq, nat_lt, refl, sym, ap, subst, ◌∙◌, arith, if◌then◌else◌}
use Rattle.std.proofs.lemmas.Bool.Decides.{nat_tests}
use Rattle.std.proofs.Math.Nat.{mul-le-mul_left}
use Rattle.std.specs.Option.{option_and_then, option_map, option_map_or}
use Rattle.shape_font.specs.Bytes.{u16_of}
use Rattle.shape_items.specs.Buffer.{most_countable}
use Rattle.shape_items.specs.Items.{Item}
use Rattle.layout_tables.specs.Lookups.{lookup_type_of, subtable_count_of}
use Rattle.layout_tables.specs.declared.lookups.LookupSubtable.{LookupSubtable}
use Rattle.layout_matching.specs.Found.{is_chained, is_context_subtable, is_first, whole_rule, set_for, number_of, subtable_at, found_at, found_rule, found_at_subtable, is_context}
use Rattle.layout_matching.specs.Loops.{steps, times}
use Rattle.layout_matching.specs.Rules.{rule_place, rules_at as rules_from}
use Rattle.layout_matching.specs.Skipping.{nth, is_transparent}
use Rattle.layout_matching.specs.Sought.{unfound, unless_found, is_idle, rule_paid, tried_sought, place_sought, rule_sought, rules_in, set_paid}
use Rattle.layout_matching.specs.Sought.{rules_sought, set_sought, numbered_sought, sets_sought, first_sought, whole_sought, subtable_sought}
use Rattle.layout_matching.specs.Sought.{sought_at_subtable, sought}
use Rattle.layout_matching.specs.Tries.{counted_along, counted_to_first, each_one, rules_of_set, rules_by_number, whole_rules, rules_of, rules_at, rules_tried, subtables_sought}
use Rattle.layout_matching.specs.Work.{one_if, devices_work, charged, counts_tallied, counts_of, counts_at, counts_work, counted, rule_counted}
use Rattle.layout_matching.specs.Work.{null_counted, passed_charged, part_rule, part_counted, set_passed, set_counted, set_charged, uncounted, beside}
use Rattle.layout_matching.specs.Work.{has_classes, SUBTABLE_WORK, backward_rule, is_backward, is_ligature, parts_for, whole_list, begun_charged}
use Rattle.layout_matching.specs.Work.{parts_charged, numbered_charged, whole_charged, subtable_charged, charged_at_subtable, subtables_charged}
use Rattle.layout_matching.specs.Work.{rule_charged, walk_work, steps_work, is_plain, is_paid}
use Rattle.layout_matching.specs.declared.found.Found.{Found}
use Rattle.layout_matching.specs.declared.lookup.Lookup.{Lookup}
use Rattle.layout_matching.specs.declared.rules.Rule.{Rule}
use Rattle.layout_matching.specs.declared.sought.Sought.{Sought}
use Rattle.layout_matching.specs.declared.spans.Origin.{Origin}
use Rattle.layout_matching.specs.declared.tally.Counts.{Counts}
use Rattle.layout_matching.specs.declared.tally.Tally.{Tally}
use Rattle.layout_matching.proofs.ChargeLemmas.{Lessens, clash, charged-lessens, tally-lessens, steps-lessen, stays, rule_charged-lessens, parts_charged-lessens, subtable_charged-lessens}
use Rattle.layout_matching.proofs.KindLemmas.{plain_kind}
use Rattle.layout_matching.proofs.SoughtLemmas.{at_subtable_finds}

-- ---- counts

pub to-first-few : {X : Type 0} (f : ℕ → Option X) (n i : ℕ) → counted_to_first each_one f n i ≤ n
to-first-few f zero i = omega arith
to-first-few f (suc n) i = by_test (to-first-few f n (suc i)) (is_some (f i))
  where
    by_test : counted_to_first each_one f n (suc i) ≤ n → (t : Bool) → 1 + (if t then 0 else counted_to_first each_one f n (suc i)) ≤ suc n
    by_test few true = omega (arith, few)
    by_test few false = omega (arith, few)

pub along-few : {S : Type 0} (count : S → ℕ) (f : S → S) (most : ℕ) → ((s : S) → count s ≤ most) → (n : ℕ) (s : S)
    → counted_along count f n s ≤ n * most
along-few count f most few zero s = omega arith
along-few count f most few (suc n) s =
    let before = along-few count f most few n s in
    let last = few (times f n s) in
    let more : suc n * most ≡ n * most + most = omega arith in
    omega (arith, before, last, more)

-- what each step counts, it takes from what is left
pub along-paid : {S : Type 0} (view : S → ℕ) (count : S → ℕ) (f : S → S) → ((s : S) → count s + view (f s) ≤ view s) → (n : ℕ) (s : S)
    → counted_along count f n s + view (times f n s) ≤ view s
along-paid view count f paid zero s = omega arith
along-paid view count f paid (suc n) s =
    let before = along-paid view count f paid n s in
    let last = paid (times f n s) in
    omega (arith, before, last)

-- ---- what a charge leaves, if it pays for so much

-- so much at least is charged
abbrev pub Pays : ℕ → (ℕ → Option ℕ) → Type 0
Pays n f = (left rest : ℕ) → f left ≡ Some rest → n + rest ≤ left

pub charged-pays : (work : ℕ) → Pays work (charged work)
charged-pays work left rest is = by_test (nat_lt left work) refl is
  where
    by_test : (t : Bool) → nat_lt left work ≡ t → (if t then None else Some (left - work)) ≡ Some rest → work + rest ≤ left
    by_test true test e = clash rest e
    by_test false test e =
        let same : left - work ≡ rest = ap (λ (o : Option ℕ). option_map_or (λ n. n) o 0) e in
        let enough : work ≤ left = grind (arith, nat_tests, test) in
        omega (arith, same, enough)

-- nothing, if it leaves no more
pub nothing-pays : (f : ℕ → Option ℕ) → Lessens f → Pays 0 f
nothing-pays f lessens left rest is = let less = lessens left rest is in omega (arith, less)

-- one charge, and another one from what it leaves
pub then-pays : (left n m : ℕ) (o : Option ℕ) (g : ℕ → Option ℕ) → ((mid : ℕ) → o ≡ Some mid → n + mid ≤ left) → Pays m g → (rest : ℕ)
    → option_and_then g o ≡ Some rest → n + m + rest ≤ left
then-pays left n m None g first later rest is = clash rest is
then-pays left n m (Some mid) g first later rest is =
    let less = first mid refl in
    let more = later mid rest is in
    omega (arith, less, more)

-- ---- the rules, or the ligatures, of a set

mapped-pays : (left work : ℕ) (f : ℕ → Tally) → ((n : ℕ) → (f n).left ≡ n) → 1 ≤ work → (t : Tally)
    → option_map f (charged work left) ≡ Some t → 1 + t.left ≤ left
mapped-pays left work f same some t is = by_charge (charged work left) (λ rest. charged-pays work left rest) is
  where
    by_charge : (o : Option ℕ) → ((rest : ℕ) → o ≡ Some rest → work + rest ≤ left) → option_map f o ≡ Some t → 1 + t.left ≤ left
    by_charge None paid e = clash t e
    by_charge (Some rest) paid e =
        let here : (f rest).left ≡ t.left = ap (λ (o : Option Tally). option_map_or (λ (s : Tally). s.left) o 0) e in
        let it = same rest in
        let low = paid rest refl in
        omega (arith, here, it, low, some)

part_counted-pays : (l : Lookup) (subtable : LookupSubtable) (set r : ℕ) (s t : Tally) → part_counted l subtable set r s ≡ Some t
    → 1 + t.left ≤ s.left
part_counted-pays l subtable set r s t is = by_place (rule_place l.table.now set r) is
  where
    by_place : (o : Option ℕ) → option_map_or (λ place. rule_counted (part_rule l subtable place) s) o (null_counted s) ≡ Some t
        → 1 + t.left ≤ s.left
    by_place None e = mapped-pays s.left 1 (λ left. record s { left = left }) (λ n. refl) (omega arith) t e
    by_place (Some place) e =
        let c : Counts = counts_of (part_rule l subtable place) in
        mapped-pays s.left (counts_work c) (counts_tallied c s) (λ n. refl) (omega arith) t e

-- each step takes one
steps-pay : {S : Type 0} (view : S → ℕ) (f : ℕ → S → Option S) → ((k : ℕ) (s t : S) → f k s ≡ Some t → 1 + view t ≤ view s)
    → (n k : ℕ) (s t : S) → steps f n k s ≡ Some t → n + view t ≤ view s
steps-pay {S} view f one zero k s t is =
    let same : view s ≡ view t = ap (λ (o : Option S). option_map_or view o (view s)) is in
    omega (arith, same)
steps-pay {S} view f one (suc n) k s t is = by_step (f k s) (one k s) (λ u. steps-pay view f one n (suc k) u t) is
  where
    by_step : (o : Option S) → ((u : S) → o ≡ Some u → 1 + view u ≤ view s) → ((u : S) → steps f n (suc k) u ≡ Some t → n + view t ≤ view u)
        → option_and_then (steps f n (suc k)) o ≡ Some t → suc n + view t ≤ view s
    by_step None first later e = clash t e
    by_step (Some u) first later e =
        let less = first u refl in
        let more = later u e in
        omega (arith, less, more)

set_charged-pays : (l : Lookup) (items : List Item) (at : ℕ) (subtable : LookupSubtable) (set left rest : ℕ)
    → set_charged l items at subtable left set ≡ Some rest → rules_in l set + rest ≤ left
set_charged-pays l items at subtable set left rest is = by_counts (set_counted l subtable left set)
    (λ s. steps-pay (λ (t : Tally). t.left) (part_counted l subtable set) (part_counted-pays l subtable set) (rules_in l set) 0 (beside left) s) is
  where
    by_counts : (o : Option Tally) → ((s : Tally) → o ≡ Some s → rules_in l set + s.left ≤ left)
        → option_and_then (set_passed l items at subtable set) o ≡ Some rest → rules_in l set + rest ≤ left
    by_counts None paid e = clash rest e
    by_counts (Some s) paid e =
        let first = paid s refl in
        let later = charged-lessens _ s.left rest e in
        omega (arith, first, later)

-- ---- a subtable

-- how many rules or ligatures its set has, if it has one
abbrev pub rules_if : Lookup → Option ℕ → ℕ
rules_if l o = option_map_or (rules_in l) o 0

-- one that doesn't go backwards pays for all of its set
pub parts-pay : (l : Lookup) (items : List Item) (at : ℕ) (subtable : LookupSubtable) (number : ℕ) → is_backward l subtable ≡ false
    → Pays (rules_if l (parts_for l subtable (nth items at).glyph_id number)) (parts_charged l items at subtable number)
parts-pay l items at subtable number forward left rest is = by_back (is_backward l subtable) forward is
  where
    by_set : (o : Option ℕ) → option_map_or (set_charged l items at subtable left) o (passed_charged l false items at (beside left)) ≡ Some rest
        → rules_if l o + rest ≤ left
    by_set None e = let less = charged-lessens _ left rest e in omega (arith, less)
    by_set (Some set) e = set_charged-pays l items at subtable set left rest e

    by_back : (t : Bool) → t ≡ false → (if t then rule_charged l items at (backward_rule l.table.now subtable.start) left
        else option_map_or (set_charged l items at subtable left) (parts_for l subtable (nth items at).glyph_id number)
        (passed_charged l false items at (beside left))) ≡ Some rest
        → rules_if l (parts_for l subtable (nth items at).glyph_id number) + rest ≤ left
    by_back true never e = absurd (let bad : true ≡ false = never in cc)
    by_back false never e = by_set (parts_for l subtable (nth items at).glyph_id number) e

begun-pays : (l : Lookup) (items : List Item) (subtable : LookupSubtable) → Pays 8 (begun_charged l items subtable)
begun-pays l items subtable left rest is =
    then-pays left 0 8 (charged (whole_list l items subtable) left) (charged SUBTABLE_WORK)
    (nothing-pays (charged (whole_list l items subtable)) (charged-lessens (whole_list l items subtable)) left)
    (charged-pays SUBTABLE_WORK) rest is

pub numbered-pays : (l : Lookup) (items : List Item) (at : ℕ) (subtable : LookupSubtable) (number left rest : ℕ) → is_backward l subtable ≡ false
    → numbered_charged l items at subtable left number ≡ Some rest
    → rules_if l (parts_for l subtable (nth items at).glyph_id number) + rest ≤ left
numbered-pays l items at subtable number left rest forward is =
    let all = then-pays left 8 (rules_if l (parts_for l subtable (nth items at).glyph_id number)) (begun_charged l items subtable left)
    (parts_charged l items at subtable number) (begun-pays l items subtable left) (parts-pay l items at subtable number forward) rest is in
    omega (arith, all)

-- whatever it looks for, a subtable that begins with the glyph pays for itself
pub numbered-begun : (l : Lookup) (items : List Item) (at : ℕ) (subtable : LookupSubtable) (number left rest : ℕ)
    → numbered_charged l items at subtable left number ≡ Some rest → 8 + rest ≤ left
numbered-begun l items at subtable number left rest is =
    let all = then-pays left 8 0 (begun_charged l items subtable left) (parts_charged l items at subtable number)
    (begun-pays l items subtable left)
    (nothing-pays (parts_charged l items at subtable number) (parts_charged-lessens l items at subtable number)) rest is in
    omega (arith, all)

-- a subtable of context doesn't go backwards
forward-context : (l : Lookup) (subtable : LookupSubtable) → is_context_subtable l subtable ≡ true → is_backward l subtable ≡ false
forward-context l subtable = by_table l.positioning
  where
    by_table : (t : Bool) → (nat_eq subtable.kind (if t then 7 else 5) || nat_eq subtable.kind (if t then 8 else 6)) ≡ true
        → (not t && nat_eq subtable.kind 8) ≡ false
    by_table true is = refl
    by_table false is = grind (arith, nat_tests, is)

whole-pays : (l : Lookup) (items : List Item) (origin : Origin) (subtable : LookupSubtable) (left rest : ℕ)
    → whole_charged l items origin.at subtable left ≡ Some rest → whole_rules l items origin subtable + rest ≤ left
whole-pays l items origin subtable left rest is =
    by_first (is_first l.table.now subtable.start rule (nth items origin.at).glyph_id) is
  where
    rule : Rule
    rule = whole_rule l.table.now (is_chained l subtable) subtable.start

    by_first : (t : Bool)
        → (if t then option_and_then (rule_charged l items origin.at rule) (begun_charged l items subtable left) else Some left) ≡ Some rest
        → one_if t + rest ≤ left
    by_first true e =
        let all = then-pays left 8 0 (begun_charged l items subtable left) (rule_charged l items origin.at rule)
        (begun-pays l items subtable left) (nothing-pays (rule_charged l items origin.at rule) (rule_charged-lessens l items origin.at rule)) rest e in
        omega (arith, all)
    by_first false e = let same = stays left rest e in omega (arith, same)

-- the set that a subtable of context has for a glyph
set_parts : (l : Lookup) (subtable : LookupSubtable) (glyph number : ℕ) → is_context_subtable l subtable ≡ true
    → parts_for l subtable glyph number ≡ set_for l.table.now (is_chained l subtable) subtable.start glyph number
set_parts l subtable glyph number context = ap (λ t. if t then set_for l.table.now (is_chained l subtable) subtable.start glyph number
    else (if is_ligature l subtable then rules_from l.table.now subtable.start 4 number else None)) context

-- no more rules are compared in a set than it has
set-few : (l : Lookup) (items : List Item) (origin : Origin) (subtable : LookupSubtable) (o : Option ℕ)
    → option_map_or (rules_of_set l items origin subtable) o 0 ≤ rules_if l o
set-few l items origin subtable None = omega arith
set-few l items origin subtable (Some set) = to-first-few (found_rule l items origin subtable set) (rules_in l set) 0

subtable-pays : (l : Lookup) (items : List Item) (origin : Origin) (subtable : LookupSubtable) (left rest : ℕ)
    → subtable_charged l items origin.at left subtable ≡ Some rest → rules_of l items origin subtable + rest ≤ left
subtable-pays l items origin subtable left rest is =
    by_kind (is_context_subtable l subtable) (nat_eq (u16_of l.table.now subtable.start) 3) refl is
  where
    glyph : ℕ
    glyph = (nth items origin.at).glyph_id

    by_set : (number : ℕ) → is_context_subtable l subtable ≡ true → numbered_charged l items origin.at subtable left number ≡ Some rest
        → rules_by_number l items origin subtable number + rest ≤ left
    by_set number context e =
        let paid = numbered-pays l items origin.at subtable number left rest (forward-context l subtable context) e in
        let few = set-few l items origin subtable (set_for l.table.now (is_chained l subtable) subtable.start glyph number) in
        let same : rules_if l (parts_for l subtable glyph number)
        ≡ rules_if l (set_for l.table.now (is_chained l subtable) subtable.start glyph number) =
        ap (rules_if l) (set_parts l subtable glyph number context) in
        omega (arith, paid, few, same)

    by_number : (o : Option ℕ) → is_context_subtable l subtable ≡ true
        → option_map_or (numbered_charged l items origin.at subtable left) o (Some left) ≡ Some rest
        → option_map_or (rules_by_number l items origin subtable) o 0 + rest ≤ left
    by_number None context e = let same = stays left rest e in omega (arith, same)
    by_number (Some number) context e = by_set number context e

    by_kind : (c w : Bool) → is_context_subtable l subtable ≡ c
        → (if c && w then whole_charged l items origin.at subtable left
        else option_map_or (numbered_charged l items origin.at subtable left) (number_of l.table.now subtable.start glyph) (Some left)) ≡ Some rest
        → (if c then (if w then whole_rules l items origin subtable
        else option_map_or (rules_by_number l items origin subtable) (number_of l.table.now subtable.start glyph) 0)
        else 0) + rest ≤ left
    by_kind true true context e = whole-pays l items origin subtable left rest e
    by_kind true false context e = by_number (number_of l.table.now subtable.start glyph) context e
    by_kind false w context e = let less = subtable_charged-lessens l items origin.at subtable left rest is in omega (arith, less)

-- ---- a lookup that is charged for before it is tried

-- places that are charged one after the other pay for those up to the first that gives something
pub to-first-paid : {X : Type 0} (count : ℕ → ℕ) (g : ℕ → Option X) (f : ℕ → ℕ → Option ℕ)
    → ((k left rest : ℕ) → f k left ≡ Some rest → count k + rest ≤ left) → (n k left rest : ℕ) → steps f n k left ≡ Some rest
    → counted_to_first count g n k + rest ≤ left
to-first-paid count g f each zero k left rest is = let same = stays left rest is in omega (arith, same)
to-first-paid count g f each (suc n) k left rest is =
    by_step (f k left) (each k left) (λ mid. to-first-paid count g f each n (suc k) mid rest) is
  where
    by_found : (t : Bool) (mid : ℕ) → count k + mid ≤ left → counted_to_first count g n (suc k) + rest ≤ mid
        → count k + (if t then 0 else counted_to_first count g n (suc k)) + rest ≤ left
    by_found true mid first later = omega (arith, first, later)
    by_found false mid first later = omega (arith, first, later)

    by_step : (o : Option ℕ) → ((mid : ℕ) → o ≡ Some mid → count k + mid ≤ left)
        → ((mid : ℕ) → steps f n (suc k) mid ≡ Some rest → counted_to_first count g n (suc k) + rest ≤ mid)
        → option_and_then (steps f n (suc k)) o ≡ Some rest → count k + (if is_some (g k) then 0 else counted_to_first count g n (suc k)) + rest ≤ left
    by_step None first later e = clash rest e
    by_step (Some mid) first later e = by_found (is_some (g k)) mid (first mid refl) (later mid e)

at-pays : (l : Lookup) (items : List Item) (origin : Origin) (i left rest : ℕ) → charged_at_subtable l items origin.at i left ≡ Some rest
    → rules_at l items origin i + rest ≤ left
at-pays l items origin i left rest is = by_subtable (subtable_at l i) is
  where
    by_subtable : (o : Option LookupSubtable) → option_map_or (subtable_charged l items origin.at left) o (Some left) ≡ Some rest
        → option_map_or (rules_of l items origin) o 0 + rest ≤ left
    by_subtable None e = let same = stays left rest e in omega (arith, same)
    by_subtable (Some subtable) e = subtable-pays l items origin subtable left rest e

pub subtables-pay : (l : Lookup) (items : List Item) (origin : Origin) (left rest : ℕ) → subtables_charged l items origin.at left ≡ Some rest
    → rules_tried l items origin + rest ≤ left
subtables-pay l items origin left rest is =
    to-first-paid (rules_at l items origin) (found_at_subtable l items origin) (charged_at_subtable l items origin.at)
    (at-pays l items origin) (subtable_count_of l.table.now l.place) 0 left rest is

-- ---- a lookup whose rule is sought

abbrev left-in : Option Sought → ℕ
left-in o = option_map_or (λ (t : Sought). t.left) o 0

unfound-stays : (left : ℕ) (s : Sought) → Some (unfound left) ≡ Some s → s.left ≤ left
unfound-stays left s is = let same : left ≡ s.left = ap left-in is in omega (arith, same)

map-sought : (found : Option Found) (o : Option ℕ) (left : ℕ) (s : Sought) → ((rest : ℕ) → o ≡ Some rest → rest ≤ left)
    → option_map (λ rest. record { left = rest; found = found }) o ≡ Some s → s.left ≤ left
map-sought found None left s less is = clash s is
map-sought found (Some rest) left s less is =
    let same : rest ≡ s.left = ap left-in is in
    let low = less rest refl in
    omega (arith, same, low)

rule_paid-lessens : (l : Lookup) (items : List Item) (at : ℕ) (subtable : LookupSubtable) (left place rest : ℕ)
    → rule_paid l items at subtable left place ≡ Some rest → rest ≤ left
rule_paid-lessens l items at subtable left place rest is =
    tally-lessens left (counted (counts_at l.table.now (is_chained l subtable) place) (uncounted left))
    (passed_charged l (has_classes l subtable) items at)
    (λ s e. let paid = mapped-pays left (counts_work (counts_at l.table.now (is_chained l subtable) place))
    (counts_tallied (counts_at l.table.now (is_chained l subtable) place) (uncounted left)) (λ n. refl) (omega arith) s e in omega (arith, paid))
    (λ s n. charged-lessens _ s.left n) rest is

rule_sought-lessens : (l : Lookup) (items : List Item) (origin : Origin) (subtable : LookupSubtable) (set r left : ℕ) (s : Sought)
    → rule_sought l items origin subtable set r left ≡ Some s → s.left ≤ left
rule_sought-lessens l items origin subtable set r left s is = by_place (rule_place l.table.now set r) is
  where
    by_idle : (place : ℕ) (t : Bool) → (if t then Some (unfound left) else tried_sought l items origin subtable left place) ≡ Some s → s.left ≤ left
    by_idle place true e = unfound-stays left s e
    by_idle place false e =
        map-sought (found_at l items origin subtable place) (rule_paid l items origin.at subtable left place) left s
        (λ rest. rule_paid-lessens l items origin.at subtable left place rest) e

    by_place : (o : Option ℕ) → option_map_or (place_sought l items origin subtable left) o (Some (unfound left)) ≡ Some s → s.left ≤ left
    by_place None e = unfound-stays left s e
    by_place (Some place) e = by_idle place (is_idle l items origin subtable place) e

unless-lessens : (f : ℕ → ℕ → Option Sought) → ((k left : ℕ) (s : Sought) → f k left ≡ Some s → s.left ≤ left)
    → (k : ℕ) (s t : Sought) → unless_found f k s ≡ Some t → t.left ≤ s.left
unless-lessens f each k s t is = by_found (is_some s.found) is
  where
    by_found : (u : Bool) → (if u then Some s else f k s.left) ≡ Some t → t.left ≤ s.left
    by_found true e = let same : s.left ≡ t.left = ap left-in e in omega (arith, same)
    by_found false e = each k s.left t e

set_paid-pays : (l : Lookup) (items : List Item) (at : ℕ) (subtable : LookupSubtable) (set left rest : ℕ)
    → set_paid l items at subtable left set ≡ Some rest → rules_in l set + rest ≤ left
set_paid-pays l items at subtable set left rest is =
    let all = then-pays left (rules_in l set) 0 (charged (rules_in l set) left)
    (λ mid. passed_charged l (has_classes l subtable) items at (beside mid)) (λ mid. charged-pays (rules_in l set) left mid)
    (nothing-pays (λ mid. passed_charged l (has_classes l subtable) items at (beside mid)) (λ mid more. charged-lessens _ mid more)) rest is in
    omega (arith, all)

set_sought-pays : (l : Lookup) (items : List Item) (origin : Origin) (subtable : LookupSubtable) (set left : ℕ) (s : Sought)
    → set_sought l items origin subtable left set ≡ Some s → rules_of_set l items origin subtable set + s.left ≤ left
set_sought-pays l items origin subtable set left s is =
    by_paid (set_paid l items origin.at subtable left set) (λ mid. set_paid-pays l items origin.at subtable set left mid) is
  where
    by_paid : (o : Option ℕ) → ((mid : ℕ) → o ≡ Some mid → rules_in l set + mid ≤ left)
        → option_and_then (rules_sought l items origin subtable set) o ≡ Some s → rules_of_set l items origin subtable set + s.left ≤ left
    by_paid None paid e = clash s e
    by_paid (Some mid) paid e =
        let first = paid mid refl in
        let few = to-first-few (found_rule l items origin subtable set) (rules_in l set) 0 in
        let later = steps-lessen (λ (t : Sought). t.left) (unless_found (rule_sought l items origin subtable set))
        (unless-lessens (rule_sought l items origin subtable set) (rule_sought-lessens l items origin subtable set))
        (rules_in l set) 0 (unfound mid) s e in
        omega (arith, first, few, later)

sets_sought-pays : (l : Lookup) (items : List Item) (origin : Origin) (subtable : LookupSubtable) (left : ℕ) (s : Sought)
    → sets_sought l items origin subtable left ≡ Some s
    → option_map_or (rules_by_number l items origin subtable) (number_of l.table.now subtable.start (nth items origin.at).glyph_id) 0 + s.left ≤ left
sets_sought-pays l items origin subtable left s is = by_number (number_of l.table.now subtable.start (nth items origin.at).glyph_id) is
  where
    by_set : (mid : ℕ) (o : Option ℕ) → option_map_or (set_sought l items origin subtable mid) o (Some (unfound mid)) ≡ Some s
        → option_map_or (rules_of_set l items origin subtable) o 0 + s.left ≤ mid
    by_set mid None e = let less = unfound-stays mid s e in omega (arith, less)
    by_set mid (Some set) e = set_sought-pays l items origin subtable set mid s e

    by_charge : (number : ℕ) (o : Option ℕ) → ((mid : ℕ) → o ≡ Some mid → mid ≤ left)
        → option_and_then (numbered_sought l items origin subtable number) o ≡ Some s
        → rules_by_number l items origin subtable number + s.left ≤ left
    by_charge number None less e = clash s e
    by_charge number (Some mid) less e =
        let low = less mid refl in
        let paid = by_set mid (set_for l.table.now (is_chained l subtable) subtable.start (nth items origin.at).glyph_id number) e in
        omega (arith, low, paid)

    by_number : (o : Option ℕ)
        → option_map_or (λ number. option_and_then (numbered_sought l items origin subtable number) (charged SUBTABLE_WORK left)) o
        (Some (unfound left)) ≡ Some s
        → option_map_or (rules_by_number l items origin subtable) o 0 + s.left ≤ left
    by_number None e = let less = unfound-stays left s e in omega (arith, less)
    by_number (Some number) e = by_charge number (charged SUBTABLE_WORK left) (λ mid. charged-lessens SUBTABLE_WORK left mid) e

whole_sought-pays : (l : Lookup) (items : List Item) (origin : Origin) (subtable : LookupSubtable) (left : ℕ) (s : Sought)
    → whole_sought l items origin subtable left ≡ Some s → whole_rules l items origin subtable + s.left ≤ left
whole_sought-pays l items origin subtable left s is = by_first (is_first l.table.now subtable.start rule (nth items origin.at).glyph_id) is
  where
    rule : Rule
    rule = whole_rule l.table.now (is_chained l subtable) subtable.start

    by_charge : (o : Option ℕ) → ((mid : ℕ) → o ≡ Some mid → 8 + mid ≤ left) → option_and_then (first_sought l items origin subtable) o ≡ Some s
        → 1 + s.left ≤ left
    by_charge None paid e = clash s e
    by_charge (Some mid) paid e =
        let first = paid mid refl in
        let later = map-sought _ (rule_charged l items origin.at rule mid) mid s (λ rest. rule_charged-lessens l items origin.at rule mid rest) e in
        omega (arith, first, later)

    by_first : (t : Bool)
        → (if t then option_and_then (first_sought l items origin subtable) (charged SUBTABLE_WORK left) else Some (unfound left)) ≡ Some s
        → one_if t + s.left ≤ left
    by_first true e = by_charge (charged SUBTABLE_WORK left) (λ mid. charged-pays SUBTABLE_WORK left mid) e
    by_first false e = let less = unfound-stays left s e in omega (arith, less)

at_subtable-pays : (l : Lookup) (items : List Item) (origin : Origin) (i left : ℕ) (s : Sought) → sought_at_subtable l items origin i left ≡ Some s
    → rules_at l items origin i + s.left ≤ left
at_subtable-pays l items origin i left s is = by_subtable (subtable_at l i) is
  where
    by_kind : (subtable : LookupSubtable) (c w : Bool)
        → (if c then (if w then whole_sought l items origin subtable left else sets_sought l items origin subtable left)
        else Some (unfound left)) ≡ Some s
        → (if c then (if w then whole_rules l items origin subtable
        else option_map_or (rules_by_number l items origin subtable) (number_of l.table.now subtable.start (nth items origin.at).glyph_id) 0)
        else 0) + s.left ≤ left
    by_kind subtable true true e = whole_sought-pays l items origin subtable left s e
    by_kind subtable true false e = sets_sought-pays l items origin subtable left s e
    by_kind subtable false w e = let less = unfound-stays left s e in omega (arith, less)

    by_subtable : (o : Option LookupSubtable) → option_map_or (subtable_sought l items origin left) o (Some (unfound left)) ≡ Some s
        → option_map_or (rules_of l items origin) o 0 + s.left ≤ left
    by_subtable None e = let less = unfound-stays left s e in omega (arith, less)
    by_subtable (Some subtable) e = by_kind subtable (is_context_subtable l subtable) (nat_eq (u16_of l.table.now subtable.start) 3) e

-- a search that ends with the first that finds something pays for those up to it
walk-sought : (f : ℕ → ℕ → Option Sought) (g : ℕ → Option Found) (count : ℕ → ℕ)
    → ((k left : ℕ) (s : Sought) → f k left ≡ Some s → s.found ≡ g k)
    → ((k left : ℕ) (s : Sought) → f k left ≡ Some s → count k + s.left ≤ left)
    → (n k left : ℕ) (s : Sought) → steps (unless_found f) n k (unfound left) ≡ Some s → counted_to_first count g n k + s.left ≤ left
walk-sought f g count finds pays zero k left s is = let same : left ≡ s.left = ap left-in is in omega (arith, same)
walk-sought f g count finds pays (suc n) k left s is =
    by_step (λ mid. walk-sought f g count finds pays n (suc k) mid s) (f k left) (finds k left) (pays k left) is
  where
    tail : ℕ
    tail = counted_to_first count g n (suc k)

    by_found : (t : Sought) (o : Option Found) → t.found ≡ o → t.found ≡ g k → count k + t.left ≤ left
        → ((mid : ℕ) → steps (unless_found f) n (suc k) (unfound mid) ≡ Some s → tail + s.left ≤ mid)
        → steps (unless_found f) n (suc k) t ≡ Some s → count k + (if is_some (g k) then 0 else tail) + s.left ≤ left
    by_found t (Some found) e there paid below made =
        let some : is_some (g k) ≡ true = ap is_some (sym there) ∙ ap is_some e in
        let less = steps-lessen (λ (u : Sought). u.left) (unless_found f)
        (unless-lessens f (λ j rest u is. let paid_there = pays j rest u is in omega (arith, paid_there))) n (suc k) t s made in
        subst (λ u. count k + (if u then 0 else tail) + s.left ≤ left) (sym some) (omega (arith, paid, less))
    by_found t None e there paid below made =
        let none : is_some (g k) ≡ false = ap is_some (sym there) ∙ ap is_some e in
        let same : t ≡ unfound t.left = ap (λ o. record { left = t.left; found = o }) e in
        let later = below t.left (subst (λ u. steps (unless_found f) n (suc k) u ≡ Some s) same made) in
        subst (λ u. count k + (if u then 0 else tail) + s.left ≤ left) (sym none) (omega (arith, paid, later))

    by_step : ((mid : ℕ) → steps (unless_found f) n (suc k) (unfound mid) ≡ Some s → tail + s.left ≤ mid)
        → (o : Option Sought) → ((t : Sought) → o ≡ Some t → t.found ≡ g k) → ((t : Sought) → o ≡ Some t → count k + t.left ≤ left)
        → option_and_then (steps (unless_found f) n (suc k)) o ≡ Some s → count k + (if is_some (g k) then 0 else tail) + s.left ≤ left
    by_step below None finds_there pays_there e = clash s e
    by_step below (Some t) finds_there pays_there e = by_found t t.found refl (finds_there t refl) (pays_there t refl) below e

pub sought-pays : (l : Lookup) (items : List Item) (origin : Origin) (left : ℕ) (s : Sought) → sought l items origin left ≡ Some s
    → rules_tried l items origin + s.left ≤ left
sought-pays l items origin left s is =
    walk-sought (sought_at_subtable l items origin) (found_at_subtable l items origin) (rules_at l items origin)
    (at_subtable_finds l items origin) (at_subtable-pays l items origin) (subtable_count_of l.table.now l.place) 0 left s is

-- ---- walks

pub subtables-few : (l : Lookup) (items : List Item) (origin : Origin) → subtables_sought l items origin ≤ subtable_count_of l.table.now l.place
subtables-few l items origin = to-first-few (found_at_subtable l items origin) (subtable_count_of l.table.now l.place) 0

pub steps-cover : (l : Lookup) → subtable_count_of l.table.now l.place ≤ steps_work l
steps-cover l = by_plain (is_plain l)
  where
    n : ℕ
    n = subtable_count_of l.table.now l.place

    several : (work : ℕ) → 1 ≤ work → n ≤ max n 1 * work
    several work some =
        let all : max n 1 * 1 ≤ max n 1 * work = mul-le-mul_left (max n 1) some in
        omega (arith, all)

    by_plain : (t : Bool) → n ≤ max n 1 * (if t then 16 + devices_work l else 8)
    by_plain true = several (16 + devices_work l) (omega arith)
    by_plain false = several 8 (omega arith)

-- a walk over so many items pays for each of the subtables at each item
pub walk-covers : (l : Lookup) (n subtables : ℕ) → subtables ≤ n * subtable_count_of l.table.now l.place
    → min subtables most_countable ≤ walk_work l n
walk-covers l n subtables few =
    let all : n * subtable_count_of l.table.now l.place ≤ n * steps_work l =
    mul-le-mul_left n (steps-cover l) in
    omega (arith, few, all)

-- ---- lookups that walks pay for

-- a plain lookup isn't one of context
pub plain-alone : (l : Lookup) → is_plain l ≡ true → is_context l ≡ false
plain-alone l = by_table l.positioning
  where
    type : ℕ
    type = lookup_type_of l.table.now l.place

    by_kind : (t : Bool) → not t ≡ true → t ≡ false
    by_kind true bad = absurd (let no : false ≡ true = bad in cc)
    by_kind false is = refl

    by_table : (t : Bool) → (if t then not (is_context l) else nat_eq type 1 || nat_eq type 2 || (nat_eq type 3 && not l.random)) ≡ true
        → is_context l ≡ false
    by_table true is = by_kind (is_context l) is
    by_table false is = plain_kind l (grind (arith, nat_tests, is))

-- and one that a walk has paid for at a place is plain
pub paid-plain : (l : Lookup) (item : Item) → is_paid l item ≡ true → is_plain l ≡ true
paid-plain l item is = by_and (is_plain l) (not (is_transparent l false item)) is
  where
    by_and : (t u : Bool) → (t && u) ≡ true → t ≡ true
    by_and true u is = refl
    by_and false u is = is

pub paid-alone : (l : Lookup) (item : Item) → is_paid l item ≡ true → is_context l ≡ false
paid-alone l item is = plain-alone l (paid-plain l item is)
