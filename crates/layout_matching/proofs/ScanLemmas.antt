-- rules that the glyphs around a place refuse are passed over
use Rattle.std.proofs.Common.{◌≡◌, ℕ, ◌+◌, ◌-◌, ◌*◌, ◌^◌, ◌<◌, ◌≤◌, ◌&&◌, ◌||◌, Bool, true, false, List, Option, Some, None, min, nat_eq, nat_le, nat_lt, not, IfSome, length, refl, ap, ◌∙◌, subst, arith, if◌then◌else◌}
use Rattle.std.proofs.lemmas.Bool.Decides.{nat_tests}
use Rattle.std.specs.Option.{option_map_or}
use Rattle.shape_items.specs.Items.{Item}
use Rattle.layout_tables.specs.declared.lookups.LookupSubtable.{LookupSubtable}
use Rattle.layout_matching.specs.Found.{is_chained}
use Rattle.shape_font.specs.Bytes.{u16_of}
use Rattle.layout_matching.specs.Glance.{Tells, glances_in, is_refused, plain_refused, chain_refused, refused_on, refuses}
use Rattle.layout_matching.specs.Loops.{steps}
use Rattle.layout_matching.specs.Rules.{FAR, rule_place}
use Rattle.layout_matching.specs.Scanning.{AreRefused, IsRefused}
use Rattle.layout_matching.specs.Sought.{is_idle, place_sought, rule_sought, tried_sought, unfound, unless_found}
use Rattle.layout_matching.specs.declared.glance.Glance.{Glance}
use Rattle.layout_matching.specs.declared.glance.Glances.{Glances}
use Rattle.layout_matching.specs.declared.lookup.Lookup.{Lookup}
use Rattle.layout_matching.specs.declared.sought.Sought.{Sought}
use Rattle.layout_matching.specs.declared.spans.Origin.{Origin}
use Rattle.layout_matching.proofs.LoopLemmas.{steps_next, steps_to}

-- a refused rule costs nothing, and isn't found
pub refused_sought : (l : Lookup) (items : List Item) (origin : Origin) (subtable : LookupSubtable) (set k left : ℕ)
    → IsRefused l.table.now set (glances_in l items origin subtable) (is_chained l subtable) k
    → rule_sought l items origin subtable set k left ≡ Some (unfound left)
refused_sought l items origin subtable set k left refused = by_place (rule_place l.table.now set k) refl
  where
    glances : Glances
    glances = glances_in l items origin subtable

    either : (a b : Bool) → b ≡ true → (a || b) ≡ true
    either true b is = refl
    either false b is = is

    idle : (place : ℕ) → rule_place l.table.now set k ≡ Some place → is_idle l items origin subtable place ≡ true
    idle place e = either (not (nat_le (place + 4) (length l.table.now))) (is_refused l.table.now glances (is_chained l subtable) place)
        (refused place e)

    by_idle : (t : Bool) (x : Option Sought) → t ≡ true → (if t then Some (unfound left) else x) ≡ Some (unfound left)
    by_idle true x is = refl
    by_idle false x is = cc

    by_place : (o : Option ℕ) → rule_place l.table.now set k ≡ o
        → option_map_or (place_sought l items origin subtable left) o (Some (unfound left)) ≡ Some (unfound left)
    by_place None e = refl
    by_place (Some place) e =
        by_idle (is_idle l items origin subtable place) (tried_sought l items origin subtable left place) (idle place e)

-- one rule that finds nothing, and those behind it that are passed over
pub rules_next : (f : ℕ → ℕ → Option Sought) (n i j left rest : ℕ) → i < n → f i left ≡ Some (unfound rest) → i + 1 ≤ j → j ≤ n
    → ((k : ℕ) → i + 1 ≤ k → k < j → f k rest ≡ Some (unfound rest))
    → steps (unless_found f) (n - i) i (unfound left) ≡ steps (unless_found f) (n - j) j (unfound rest)
rules_next f n i j left rest more made from within passed =
    steps_next (unless_found f) n i (unfound left) (unfound rest) more made
    ∙ steps_to (unless_found f) n (i + 1) j (unfound rest) from within passed

-- ---- one rule, by the first value that it begins with

second : (a b : Bool) → b ≡ true → (a || b) ≡ true
second true b is = refl
second false b is = is

first : (a b c : Bool) → a ≡ true → b ≡ true → ((a && b) || c) ≡ true
first true true c is too = refl
first true false c is too = cc
first false b c is too = cc

both : (a b : Bool) → a ≡ true → b ≡ true → (a && b) ≡ true
both true b is too = too
both false b is too = cc

refused-at : (t : List ℕ) (v at : ℕ) (g : Glance) → Tells v g → at < 2 ^ 38 → nat_eq v (u16_of t at) ≡ false → refuses t (min at FAR) g ≡ true
refused-at t v at g tells near other =
    let same : at ≡ min at FAR = omega (arith, near) in
    subst (λ n. refuses t n g ≡ true) same (tells t at other)

pub told_second : (t : List ℕ) (v place : ℕ) (g : Glances) → Tells v g.input → place < 2 ^ 37 → 1 < u16_of t place
    → nat_eq v (u16_of t (place + 4)) ≡ false → plain_refused t g place ≡ true
told_second t v place g tells near two other =
    both (nat_lt 1 (u16_of t place)) (refuses t (min (place + 4) FAR) g.input) (grind (arith, nat_tests, two))
    (refused-at t v (place + 4) g.input tells (omega (arith, near)) other)

pub told_before : (t : List ℕ) (v place : ℕ) (g : Glances) → Tells v g.before → place < 2 ^ 37 → 0 < u16_of t place
    → nat_eq v (u16_of t (place + 2)) ≡ false → chain_refused t g place ≡ true
told_before t v place g tells near some other =
    first (nat_lt 0 (u16_of t place)) (refuses t (min (place + 2) FAR) g.before) (refused_on t g (place + 2 + 2 * u16_of t place))
    (grind (arith, nat_tests, some)) (refused-at t v (place + 2) g.before tells (omega (arith, near)) other)

none-before : (t : List ℕ) (place : ℕ) (g : Glances) → u16_of t place ≡ 0 → refused_on t g (place + 2) ≡ true → chain_refused t g place ≡ true
none-before t place g none refused =
    let same : place + 2 ≡ place + 2 + 2 * u16_of t place = omega (arith, none) in
    second (nat_lt 0 (u16_of t place) && refuses t (min (place + 2) FAR) g.before) (refused_on t g (place + 2 + 2 * u16_of t place))
    (subst (λ n. refused_on t g n ≡ true) same refused)

pub told_input : (t : List ℕ) (v place : ℕ) (g : Glances) → Tells v g.input → place < 2 ^ 37 → u16_of t place ≡ 0 → 1 < u16_of t (place + 2)
    → nat_eq v (u16_of t (place + 4)) ≡ false → chain_refused t g place ≡ true
told_input t v place g tells near none two other =
    let many : nat_lt 1 (u16_of t (place + 2)) ≡ true = grind (arith, nat_tests, two) in
    let same : place + 4 ≡ place + 2 + 2 = omega arith in
    none-before t place g none
    (ap (λ b. if b then refuses t (min (place + 2 + 2) FAR) g.input
    else nat_lt 0 (u16_of t (place + 2 + 2)) && refuses t (min (place + 2 + 4) FAR) g.after) many
    ∙ refused-at t v (place + 2 + 2) g.input tells (omega (arith, near)) (subst (λ n. nat_eq v (u16_of t n) ≡ false) same other))

pub told_after : (t : List ℕ) (v place : ℕ) (g : Glances) → Tells v g.after → place < 2 ^ 37 → u16_of t place ≡ 0 → u16_of t (place + 2) ≤ 1
    → 0 < u16_of t (place + 4) → nat_eq v (u16_of t (place + 6)) ≡ false → chain_refused t g place ≡ true
told_after t v place g tells near none one some other =
    let few : nat_lt 1 (u16_of t (place + 2)) ≡ false = grind (arith, nat_tests, one) in
    let same : place + 4 ≡ place + 2 + 2 = omega arith in
    let here : place + 6 ≡ place + 2 + 4 = omega arith in
    let any : nat_lt 0 (u16_of t (place + 2 + 2)) ≡ true =
    subst (λ n. nat_lt 0 (u16_of t n) ≡ true) same (grind (arith, nat_tests, some)) in
    none-before t place g none
    (ap (λ b. if b then refuses t (min (place + 2 + 2) FAR) g.input
    else nat_lt 0 (u16_of t (place + 2 + 2)) && refuses t (min (place + 2 + 4) FAR) g.after) few
    ∙ both (nat_lt 0 (u16_of t (place + 2 + 2))) (refuses t (min (place + 2 + 4) FAR) g.after) any
    (refused-at t v (place + 2 + 4) g.after tells (omega (arith, near)) (subst (λ n. nat_eq v (u16_of t n) ≡ false) here other)))

-- ---- rules of a set

-- where a rule stands that isn't NULL
pub placed : (t : List ℕ) (set r place : ℕ) → rule_place t set r ≡ Some place → set + u16_of t (set + 2 + 2 * r) ≡ place
placed t set r place = by_offset (nat_eq (u16_of t (set + 2 + 2 * r)) 0)
  where
    by_offset : (b : Bool) → (if b then None else Some (set + u16_of t (set + 2 + 2 * r))) ≡ Some place
        → set + u16_of t (set + 2 + 2 * r) ≡ place
    by_offset true is = cc
    by_offset false is = ap (λ (o : Option ℕ). option_map_or (λ n. n) o 0) is

pub one_refused : (t : List ℕ) (set : ℕ) (g : Glances) (is_chain : Bool) (i j : ℕ) → AreRefused t set g is_chain i j → IsRefused t set g is_chain j
    → AreRefused t set g is_chain i (j + 1)
one_refused t set g is_chain i j before new k from below = by_last (nat_eq k j) refl
  where
    by_last : (b : Bool) → nat_eq k j ≡ b → IsRefused t set g is_chain k
    by_last true is = let same : j ≡ k = grind (arith, nat_tests, is) in subst (λ n. IsRefused t set g is_chain n) same new
    by_last false is = before k from (grind (arith, nat_tests, is, below))

-- those of which the next rule is told
pub passed_rules : (l : Lookup) (items : List Item) (origin : Origin) (subtable : LookupSubtable) (set r next : ℕ) (o : Option Glances)
    → IfSome o (λ g. g ≡ glances_in l items origin subtable) → (o ≡ None → next ≡ r)
    → ((g : Glances) → o ≡ Some g → AreRefused l.table.now set g (is_chained l subtable) r next)
    → (k left : ℕ) → r ≤ k → k < next → rule_sought l items origin subtable set k left ≡ Some (unfound left)
passed_rules l items origin subtable set r next None known none refused k left from below =
    let same : next ≡ r = none refl in absurd (omega (arith, same, from, below))
passed_rules l items origin subtable set r next (Some g) known none refused k left from below =
    refused_sought l items origin subtable set k left
    (subst (λ (h : Glances). IsRefused l.table.now set h (is_chained l subtable) k) known (refused g refl k from below))
