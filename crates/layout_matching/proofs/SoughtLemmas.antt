-- what is sought is what is found, and a subtable that doesn't begin at the glyph of the place costs nothing
use Prim.Native.Nat.{zero}
use Rattle.std.proofs.Common.{◌≡◌, ℕ, suc, Bool, true, false, List, Option, Some, None, ◌<◌, ◌≤◌, ◌+◌, ◌-◌, ◌||◌, not, is_some, nat_eq, nat_le, length, refl, sym, ap, ◌∙◌, arith, if◌then◌else◌}
use Rattle.std.specs.Option.{option_and_then, option_map, option_map_or, option_or}
use Rattle.shape_font.specs.Bytes.{u16_of}
use Rattle.shape_items.specs.Items.{Item}
use Rattle.layout_tables.specs.Lookups.{subtable_count_of}
use Rattle.layout_tables.specs.declared.lookups.LookupSubtable.{LookupSubtable}
use Rattle.layout_matching.specs.Firsts.{begins, IsOut, AreOut}
use Rattle.layout_matching.specs.Found.{is_chained, is_context_subtable, whole_rule, is_first, set_for, number_of, subtable_at, found_if, found_at}
use Rattle.layout_matching.specs.Found.{found_rule, found_in_set, found_by_number, found_whole, found_in_sets, found_in_subtable, found_at_subtable}
use Rattle.layout_matching.specs.Found.{found_of}
use Rattle.layout_matching.specs.Glance.{glances_in, is_refused}
use Rattle.layout_matching.specs.Loops.{first_some, steps}
use Rattle.layout_matching.specs.Rules.{rule_place}
use Rattle.layout_matching.specs.Skipping.{nth}
use Rattle.layout_matching.specs.Work.{charged, rule_charged, SUBTABLE_WORK}
use Rattle.layout_matching.specs.Sought.{unfound, unless_found, is_idle, rule_paid, place_sought, rule_sought, rules_in, set_paid, rules_sought}
use Rattle.layout_matching.specs.Sought.{set_sought, numbered_sought, sets_sought, first_sought, whole_sought, subtable_sought, sought_at_subtable}
use Rattle.layout_matching.specs.Sought.{sought}
use Rattle.layout_matching.specs.declared.found.Found.{Found}
use Rattle.layout_matching.specs.declared.lookup.Lookup.{Lookup}
use Rattle.layout_matching.specs.declared.sought.Sought.{Sought}
use Rattle.layout_matching.specs.declared.spans.Origin.{Origin}
use Rattle.layout_matching.proofs.LoopLemmas.{steps_next, steps_to}
use Rattle.layout_matching.proofs.PastLemmas.{found_past}
use Rattle.layout_matching.proofs.RefusalLemmas.{refused_rule}

pub none_of : {X : Type 0} (o : Option X) → is_some o ≡ false → o ≡ None
none_of None e = refl
none_of (Some x) e = cc

-- ---- loops

-- once something is found, nothing more is looked at
stays_found : (f : ℕ → ℕ → Option Sought) (n k : ℕ) (s : Sought) → is_some s.found ≡ true → steps (unless_found f) n k s ≡ Some s
stays_found f zero k s is = refl
stays_found f (suc n) k s is =
    ap (λ t. option_and_then (steps (unless_found f) n (suc k)) (if t then Some s else f k s.left)) is ∙ stays_found f n (suc k) s is

pub found_there : (f : ℕ → ℕ → Option Sought) (n k left : ℕ) (s : Sought) → k < n → f k left ≡ Some s → is_some s.found ≡ true
    → steps (unless_found f) (n - k) k (unfound left) ≡ Some s
found_there f n k left s more is found =
    let e : n - k ≡ suc (n - (k + 1)) = omega (arith, more) in
    ap (λ m. steps (unless_found f) m k (unfound left)) e
    ∙ ap (option_and_then (steps (unless_found f) (n - (k + 1)) (suc k))) is
    ∙ stays_found f (n - (k + 1)) (suc k) s found

-- a walk finds what the first of its steps does that finds anything
abbrev Finds : (ℕ → ℕ → Option Sought) → (ℕ → Option Found) → Type 0
Finds f g = (k left : ℕ) (s : Sought) → f k left ≡ Some s → s.found ≡ g k

abbrev found_in : Option Sought → Option Found
found_in o = option_map_or (λ (t : Sought). t.found) o None

walk_finds : (f : ℕ → ℕ → Option Sought) (g : ℕ → Option Found) → Finds f g → (n k left : ℕ) (s : Sought)
    → steps (unless_found f) n k (unfound left) ≡ Some s → s.found ≡ first_some g n k
walk_finds f g each zero k left s is = sym (ap found_in is)
walk_finds f g each (suc n) k left s is = by_step (λ rest. walk_finds f g each n (suc k) rest s) (f k left) refl is
  where
    by_found : ((rest : ℕ) → steps (unless_found f) n (suc k) (unfound rest) ≡ Some s → s.found ≡ first_some g n (suc k))
        → (t : Sought) (o : Option Found) → t.found ≡ o → t.found ≡ g k
        → steps (unless_found f) n (suc k) t ≡ Some s → s.found ≡ option_or (g k) (first_some g n (suc k))
    by_found below t (Some found) e made is =
        let here : s.found ≡ t.found = ap found_in (sym is ∙ stays_found f n (suc k) t (ap is_some e)) in
        here ∙ e ∙ ap (λ o. option_or o (first_some g n (suc k))) (sym e ∙ made)
    by_found below t None e made is =
        let there : t ≡ unfound t.left = ap (λ o. record { left = t.left; found = o }) e in
        below t.left (sym (ap (steps (unless_found f) n (suc k)) there) ∙ is)
        ∙ ap (λ o. option_or o (first_some g n (suc k))) (sym e ∙ made)

    by_step : ((rest : ℕ) → steps (unless_found f) n (suc k) (unfound rest) ≡ Some s → s.found ≡ first_some g n (suc k))
        → (o : Option Sought) → f k left ≡ o → option_and_then (steps (unless_found f) n (suc k)) o ≡ Some s
        → s.found ≡ option_or (g k) (first_some g n (suc k))
    by_step below None e none = cc
    by_step below (Some t) e is = by_found below t t.found refl (each k left t e) is

-- ---- the rules of a set

idle_finds : (l : Lookup) (items : List Item) (origin : Origin) (subtable : LookupSubtable) (place : ℕ)
    → is_idle l items origin subtable place ≡ true → found_at l items origin subtable place ≡ None
idle_finds l items origin subtable place = by_inside (nat_le (place + 4) (length l.table.now)) refl
  where
    by_inside : (t : Bool) → nat_le (place + 4) (length l.table.now) ≡ t
        → (not t || is_refused l.table.now (glances_in l items origin subtable) (is_chained l subtable) place) ≡ true
        → found_at l items origin subtable place ≡ None
    by_inside true e is = refused_rule l items origin subtable place is
    by_inside false e is = found_past l items origin subtable place e

map_finds : (g : Option Found) (o : Option ℕ) (s : Sought) → option_map (λ rest. record { left = rest; found = g }) o ≡ Some s → s.found ≡ g
map_finds g None s is = cc
map_finds g (Some rest) s is = sym (ap found_in is)

unfound_finds : (left : ℕ) (s : Sought) → Some (unfound left) ≡ Some s → s.found ≡ None
unfound_finds left s is = sym (ap found_in is)

place_finds : (l : Lookup) (items : List Item) (origin : Origin) (subtable : LookupSubtable) (left place : ℕ) (s : Sought)
    → place_sought l items origin subtable left place ≡ Some s → s.found ≡ found_at l items origin subtable place
place_finds l items origin subtable left place s = by_idle (is_idle l items origin subtable place) refl
  where
    by_idle : (t : Bool) → is_idle l items origin subtable place ≡ t
        → (if t then Some (unfound left) else option_map (λ rest. record { left = rest; found = found_at l items origin subtable place })
        (rule_paid l items origin.at subtable left place)) ≡ Some s
        → s.found ≡ found_at l items origin subtable place
    by_idle true e is = unfound_finds left s is ∙ sym (idle_finds l items origin subtable place e)
    by_idle false e is = map_finds (found_at l items origin subtable place) (rule_paid l items origin.at subtable left place) s is

rule_finds : (l : Lookup) (items : List Item) (origin : Origin) (subtable : LookupSubtable) (set : ℕ)
    → Finds (rule_sought l items origin subtable set) (found_rule l items origin subtable set)
rule_finds l items origin subtable set r left s = by_place (rule_place l.table.now set r)
  where
    by_place : (o : Option ℕ) → option_map_or (place_sought l items origin subtable left) o (Some (unfound left)) ≡ Some s
        → s.found ≡ option_and_then (found_at l items origin subtable) o
    by_place None is = unfound_finds left s is
    by_place (Some place) is = place_finds l items origin subtable left place s is

set_finds : (l : Lookup) (items : List Item) (origin : Origin) (subtable : LookupSubtable) (left set : ℕ) (s : Sought)
    → set_sought l items origin subtable left set ≡ Some s → s.found ≡ found_in_set l items origin subtable set
set_finds l items origin subtable left set s = by_paid (set_paid l items origin.at subtable left set)
  where
    by_paid : (o : Option ℕ) → option_and_then (rules_sought l items origin subtable set) o ≡ Some s
        → s.found ≡ found_in_set l items origin subtable set
    by_paid None is = cc
    by_paid (Some rest) is =
        walk_finds (rule_sought l items origin subtable set) (found_rule l items origin subtable set)
        (rule_finds l items origin subtable set) (rules_in l set) 0 rest s is

-- ---- subtables

sets_find : (l : Lookup) (items : List Item) (origin : Origin) (subtable : LookupSubtable) (left : ℕ) (s : Sought)
    → sets_sought l items origin subtable left ≡ Some s → s.found ≡ found_in_sets l items origin subtable
sets_find l items origin subtable left s = by_number (number_of l.table.now subtable.start (nth items origin.at).glyph_id)
  where
    by_set : (rest : ℕ) (o : Option ℕ) → option_map_or (set_sought l items origin subtable rest) o (Some (unfound rest)) ≡ Some s
        → s.found ≡ option_and_then (found_in_set l items origin subtable) o
    by_set rest None is = unfound_finds rest s is
    by_set rest (Some set) is = set_finds l items origin subtable rest set s is

    by_charge : (number : ℕ) (o : Option ℕ) → option_and_then (numbered_sought l items origin subtable number) o ≡ Some s
        → s.found ≡ found_by_number l items origin subtable number
    by_charge number None is = cc
    by_charge number (Some rest) is =
        by_set rest (set_for l.table.now (is_chained l subtable) subtable.start (nth items origin.at).glyph_id number) is

    by_number : (o : Option ℕ)
        → option_map_or (λ number. option_and_then (numbered_sought l items origin subtable number) (charged SUBTABLE_WORK left)) o
        (Some (unfound left)) ≡ Some s
        → s.found ≡ option_and_then (found_by_number l items origin subtable) o
    by_number None is = unfound_finds left s is
    by_number (Some number) is = by_charge number (charged SUBTABLE_WORK left) is

whole_finds : (l : Lookup) (items : List Item) (origin : Origin) (subtable : LookupSubtable) (left : ℕ) (s : Sought)
    → whole_sought l items origin subtable left ≡ Some s → s.found ≡ found_whole l items origin subtable
whole_finds l items origin subtable left s =
    by_first (is_first l.table.now subtable.start (whole_rule l.table.now (is_chained l subtable) subtable.start) (nth items origin.at).glyph_id)
  where
    made : Option Found
    made = found_if l items origin (whole_rule l.table.now (is_chained l subtable) subtable.start)

    by_charge : (o : Option ℕ) → option_and_then (first_sought l items origin subtable) o ≡ Some s → s.found ≡ made
    by_charge None is = cc
    by_charge (Some rest) is =
        map_finds made (rule_charged l items origin.at (whole_rule l.table.now (is_chained l subtable) subtable.start) rest) s is

    by_first : (t : Bool)
        → (if t then option_and_then (first_sought l items origin subtable) (charged SUBTABLE_WORK left) else Some (unfound left)) ≡ Some s
        → s.found ≡ (if t then made else None)
    by_first true is = by_charge (charged SUBTABLE_WORK left) is
    by_first false is = unfound_finds left s is

subtable_finds : (l : Lookup) (items : List Item) (origin : Origin) (left : ℕ) (subtable : LookupSubtable) (s : Sought)
    → subtable_sought l items origin left subtable ≡ Some s → s.found ≡ found_in_subtable l items origin subtable
subtable_finds l items origin left subtable s = by_kind (is_context_subtable l subtable) (nat_eq (u16_of l.table.now subtable.start) 3)
  where
    by_kind : (t u : Bool)
        → (if t then (if u then whole_sought l items origin subtable left else sets_sought l items origin subtable left)
        else Some (unfound left)) ≡ Some s
        → s.found ≡ (if t then (if u then found_whole l items origin subtable else found_in_sets l items origin subtable) else None)
    by_kind true true is = whole_finds l items origin subtable left s is
    by_kind true false is = sets_find l items origin subtable left s is
    by_kind false u is = unfound_finds left s is

pub at_subtable_finds : (l : Lookup) (items : List Item) (origin : Origin) → Finds (sought_at_subtable l items origin) (found_at_subtable l items origin)
at_subtable_finds l items origin i left s = by_subtable (subtable_at l i)
  where
    by_subtable : (o : Option LookupSubtable) → option_map_or (subtable_sought l items origin left) o (Some (unfound left)) ≡ Some s
        → s.found ≡ option_and_then (found_in_subtable l items origin) o
    by_subtable None is = unfound_finds left s is
    by_subtable (Some subtable) is = subtable_finds l items origin left subtable s is

-- the rule that is sought is the first that matches
pub sought_finds : (l : Lookup) (items : List Item) (origin : Origin) (left : ℕ) (s : Sought)
    → sought l items origin left ≡ Some s → s.found ≡ found_of l items origin
sought_finds l items origin left s is =
    walk_finds (sought_at_subtable l items origin) (found_at_subtable l items origin) (at_subtable_finds l items origin)
    (subtable_count_of l.table.now l.place) 0 left s is

-- ---- subtables that don't begin at the glyph

unbegun : (l : Lookup) (items : List Item) (origin : Origin) (left : ℕ) (subtable : LookupSubtable)
    → begins l subtable (nth items origin.at).glyph_id ≡ false → subtable_sought l items origin left subtable ≡ Some (unfound left)
unbegun l items origin left subtable =
    by_kind (is_context_subtable l subtable) (nat_eq (u16_of l.table.now subtable.start) 3)
    (is_first l.table.now subtable.start (whole_rule l.table.now (is_chained l subtable) subtable.start) (nth items origin.at).glyph_id)
    (number_of l.table.now subtable.start (nth items origin.at).glyph_id)
  where
    by_number : (o : Option ℕ) → is_some o ≡ false
        → option_map_or (λ number. option_and_then (numbered_sought l items origin subtable number) (charged SUBTABLE_WORK left)) o
        (Some (unfound left)) ≡ Some (unfound left)
    by_number None none = refl
    by_number (Some number) none = cc

    by_first : (t : Bool) (x : Option Sought) → t ≡ false → (if t then x else Some (unfound left)) ≡ Some (unfound left)
    by_first true x not = cc
    by_first false x not = refl

    by_kind : (t u first : Bool) (o : Option ℕ) → (if t then (if u then first else is_some o) else is_some o) ≡ false
        → (if t then (if u
        then (if first then option_and_then (first_sought l items origin subtable) (charged SUBTABLE_WORK left) else Some (unfound left))
        else option_map_or (λ number. option_and_then (numbered_sought l items origin subtable number) (charged SUBTABLE_WORK left)) o
        (Some (unfound left)))
        else Some (unfound left)) ≡ Some (unfound left)
    by_kind true true first o not = by_first first _ not
    by_kind true false first o not = by_number o not
    by_kind false u first o not = refl

pub sought_out : (l : Lookup) (items : List Item) (origin : Origin) (i left : ℕ) → IsOut l i (nth items origin.at).glyph_id
    → sought_at_subtable l items origin i left ≡ Some (unfound left)
sought_out l items origin i left out = by_subtable (subtable_at l i) refl
  where
    by_subtable : (o : Option LookupSubtable) → subtable_at l i ≡ o
        → option_map_or (subtable_sought l items origin left) o (Some (unfound left)) ≡ Some (unfound left)
    by_subtable None e = refl
    by_subtable (Some subtable) e = unbegun l items origin left subtable (out subtable e)

-- those that don't are passed over
none_sought : (l : Lookup) (items : List Item) (origin : Origin) (n i j left : ℕ) → i ≤ j → j ≤ n
    → AreOut l i j (nth items origin.at).glyph_id
    → steps (unless_found (sought_at_subtable l items origin)) (n - i) i (unfound left)
    ≡ steps (unless_found (sought_at_subtable l items origin)) (n - j) j (unfound left)
none_sought l items origin n i j left from within out =
    steps_to (unless_found (sought_at_subtable l items origin)) n i j (unfound left) from within
    (λ k low below. sought_out l items origin k left (out k low below))

pub seek_begun : (l : Lookup) (items : List Item) (origin : Origin) (n j left : ℕ) → n ≡ subtable_count_of l.table.now l.place → j ≤ n
    → AreOut l 0 j (nth items origin.at).glyph_id
    → sought l items origin left ≡ steps (unless_found (sought_at_subtable l items origin)) (n - j) j (unfound left)
seek_begun l items origin n j left count within out =
    let f = unless_found (sought_at_subtable l items origin) in
    let e : subtable_count_of l.table.now l.place ≡ n - 0 = omega (arith, count) in
    ap (λ m. steps f m 0 (unfound left)) e ∙ none_sought l items origin n 0 j left (omega arith) within out

pub seek_next : (l : Lookup) (items : List Item) (origin : Origin) (n i j first left : ℕ) (s : Sought) → i < n → i + 1 ≤ j → j ≤ n
    → AreOut l (i + 1) j (nth items origin.at).glyph_id → sought_at_subtable l items origin i left ≡ Some s → is_some s.found ≡ false
    → sought l items origin first ≡ steps (unless_found (sought_at_subtable l items origin)) (n - i) i (unfound left)
    → sought l items origin first ≡ steps (unless_found (sought_at_subtable l items origin)) (n - j) j (unfound s.left)
seek_next l items origin n i j first left s more from within out made none before =
    let f = unless_found (sought_at_subtable l items origin) in
    before ∙ steps_next f n i (unfound left) s more made
    ∙ ap (steps f (n - (i + 1)) (i + 1)) (ap (λ o. record { left = s.left; found = o }) (none_of s.found none))
    ∙ none_sought l items origin n (i + 1) j s.left from within out

pub seek_end : (l : Lookup) (items : List Item) (origin : Origin) (n i first left : ℕ) → n ≤ i
    → sought l items origin first ≡ steps (unless_found (sought_at_subtable l items origin)) (n - i) i (unfound left)
    → sought l items origin first ≡ Some (unfound left)
seek_end l items origin n i first left over before =
    let e : n - i ≡ 0 = omega (arith, over) in
    before ∙ ap (λ m. steps (unless_found (sought_at_subtable l items origin)) m i (unfound left)) e

pub sought_free : (l : Lookup) (items : List Item) (origin : Origin) (left : ℕ)
    → ((i : ℕ) → i < subtable_count_of l.table.now l.place → IsOut l i (nth items origin.at).glyph_id)
    → sought l items origin left ≡ Some (unfound left)
sought_free l items origin left out =
    let n = subtable_count_of l.table.now l.place in
    seek_end l items origin n n left left (omega arith) (seek_begun l items origin n n left refl (omega arith) (λ k low below. out k below))
