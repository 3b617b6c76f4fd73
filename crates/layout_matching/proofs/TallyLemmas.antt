-- rules are counted without being read
use Rattle.std.proofs.Common.{◌≡◌, ℕ, ◌+◌, ◌*◌, Bool, true, false, List, refl, ap, arith, nat_eq, if◌then◌else◌}
use Rattle.shape_font.specs.Bytes.{u16_of}
use Rattle.layout_tables.specs.declared.lookups.LookupSubtable.{LookupSubtable}
use Rattle.layout_matching.specs.Found.{is_chained, is_context_subtable, class_place, rule_of}
use Rattle.layout_matching.specs.Rules.{chained}
use Rattle.layout_matching.specs.Work.{rule_counted, ligature_rule, part_rule, counts_of, counted, counts_behind, chain_counts, counts_at, part_counts}
use Rattle.layout_matching.specs.declared.lookup.Lookup.{Lookup}
use Rattle.layout_matching.specs.declared.rules.Rule.{Rule}
use Rattle.layout_matching.specs.declared.rules.Test.{Test}
use Rattle.layout_matching.specs.declared.rules.Test.TheVariants.{Glyph, Class}
use Rattle.layout_matching.specs.declared.tally.Counts.{Counts}
use Rattle.layout_matching.specs.declared.tally.Tally.{Tally}

counts_if : (t : Bool) (x y : Rule) (c : Counts) → counts_of x ≡ c → counts_of y ≡ c → counts_of (if t then x else y) ≡ c
counts_if true x y c a b = a
counts_if false x y c a b = b

chain-counts : (t : List ℕ) (test : Test) (x y z at : ℕ) → counts_of (chained t test x y z 0 at) ≡ chain_counts t at
chain-counts t test x y z at =
    let before = u16_of t at in
    let middle = at + 2 + 2 * before in
    let e : middle + 2 + 2 * 0 ≡ middle + 2 = omega arith in
    ap (counts_behind t before (u16_of t middle)) e

rule-counts : (t : List ℕ) (is_chain : Bool) (start at : ℕ) → counts_of (rule_of t is_chain start at) ≡ counts_at t is_chain at
rule-counts t true start at =
    let x = class_place t start 4 in
    let y = class_place t start 6 in
    let z = class_place t start 8 in
    counts_if (nat_eq (u16_of t start) 1) (chained t Glyph start start start 0 at) (chained t Class x y z 0 at) (chain_counts t at)
    (chain-counts t Glyph start start start at) (chain-counts t Class x y z at)
rule-counts t false start at =
    counts_if (nat_eq (u16_of t start) 1) _ _ (counts_at t false at) refl refl

part-counts : (l : Lookup) (subtable : LookupSubtable) (place : ℕ) → counts_of (part_rule l subtable place) ≡ part_counts l subtable place
part-counts l subtable place = by_kind (is_context_subtable l subtable)
  where
    by_kind : (t : Bool) → counts_of (if t then rule_of l.table.now (is_chained l subtable) subtable.start place
        else ligature_rule l.table.now place)
        ≡ (if t then counts_at l.table.now (is_chained l subtable) place
        else counts_of (ligature_rule l.table.now place))
    by_kind true = rule-counts l.table.now (is_chained l subtable) subtable.start place
    by_kind false = refl

pub part_counted_by : (l : Lookup) (subtable : LookupSubtable) (place : ℕ) (s : Tally)
    → rule_counted (part_rule l subtable place) s ≡ counted (part_counts l subtable place) s
part_counted_by l subtable place s = ap (λ c. counted c s) (part-counts l subtable place)
