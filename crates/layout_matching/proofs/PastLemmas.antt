-- a rule whose first bytes the table hasn't matches nothing, and looks at nothing
use Rattle.std.proofs.Common.{◌≡◌, ℕ, ◌+◌, ◌-◌, ◌*◌, ◌≤◌, ◌&&◌, Bool, true, false, List, Option, None, length, nat_le, nat_eq, ap, arith, if◌then◌else◌}
use Rattle.std.proofs.lemmas.Bool.Decides.{nat_tests}
use Rattle.std.specs.Option.{option_map}
use Rattle.shape_font.specs.Bytes.{u16_of}
use Rattle.shape_items.specs.Items.{Item}
use Rattle.layout_tables.specs.declared.lookups.LookupSubtable.{LookupSubtable}
use Rattle.layout_matching.specs.Found.{is_chained, class_place, rule_of, found_at}
use Rattle.layout_matching.specs.Rules.{is_inside, plain_rule, chained}
use Rattle.layout_matching.specs.Spans.{span_of}
use Rattle.layout_matching.specs.declared.found.Found.{Found}
use Rattle.layout_matching.specs.declared.lookup.Lookup.{Lookup}
use Rattle.layout_matching.specs.declared.rules.Rule.{Rule}
use Rattle.layout_matching.specs.declared.rules.Test.{Test}
use Rattle.layout_matching.specs.declared.rules.Test.TheVariants.{Glyph, Class}
use Rattle.layout_matching.specs.declared.spans.Origin.{Origin}

-- ---- the records of a rule's lookups stand behind its first bytes

plain-behind : (t : List ℕ) (test : Test) (from at : ℕ) → at + 4 ≤ (plain_rule t test from at (at + 4)).lookups
plain-behind t test from at = let n = u16_of t at in omega arith

after-four : (at before input after : ℕ) → at + 4 ≤ at + 2 + 2 * before + 2 + 2 * 0 + 2 * input + 2 + 2 * after + 2
after-four at before input after = omega arith

chain-behind : (t : List ℕ) (test : Test) (x y z at : ℕ) → at + 4 ≤ (chained t test x y z 0 at).lookups
chain-behind t test x y z at =
    let rule = chained t test x y z 0 at in
    after-four at rule.before.count (rule.input.count - 1) rule.after.count

behind-if : (c : Bool) (at : ℕ) (x y : Rule) → at + 4 ≤ x.lookups → at + 4 ≤ y.lookups → at + 4 ≤ (if c then x else y).lookups
behind-if true at x y a b = a
behind-if false at x y a b = b

rule-behind : (t : List ℕ) (is_chain : Bool) (start at : ℕ) → at + 4 ≤ (rule_of t is_chain start at).lookups
rule-behind t true start at =
    let x = class_place t start 4 in
    let y = class_place t start 6 in
    let z = class_place t start 8 in
    behind-if (nat_eq (u16_of t start) 1) at (chained t Glyph start start start 0 at) (chained t Class x y z 0 at)
    (chain-behind t Glyph start start start at) (chain-behind t Class x y z at)
rule-behind t false start at =
    let x = class_place t start 4 in
    behind-if (nat_eq (u16_of t start) 1) at (plain_rule t Glyph start at (at + 4)) (plain_rule t Class x at (at + 4))
    (plain-behind t Glyph start at) (plain-behind t Class x at)

is-past : (n m k : ℕ) → nat_le (k + 4) n ≡ false → k + 4 ≤ m → nat_le m n ≡ false
is-past n m k past behind = grind (arith, nat_tests, past, behind)

not-inside : (t : List ℕ) (is_chain : Bool) (start at : ℕ) → nat_le (at + 4) (length t) ≡ false
    → is_inside t (rule_of t is_chain start at) ≡ false
not-inside t is_chain start at past =
    let rule = rule_of t is_chain start at in
    ap (λ b. b && nat_le (4 * rule.count) (length t - rule.lookups))
    (is-past (length t) rule.lookups at past (rule-behind t is_chain start at))

-- ---- what matches, and how far it looks

pub found_past : (l : Lookup) (items : List Item) (origin : Origin) (subtable : LookupSubtable) (at : ℕ)
    → nat_le (at + 4) (length l.table.now) ≡ false → found_at l items origin subtable at ≡ None
found_past l items origin subtable at past =
    let rule = rule_of l.table.now (is_chained l subtable) subtable.start at in
    let made : Option Found = option_map (λ span. record { rule = rule; span = span }) (span_of l items origin rule) in
    ap (λ b. if b then made else None) (not-inside l.table.now (is_chained l subtable) subtable.start at past)
