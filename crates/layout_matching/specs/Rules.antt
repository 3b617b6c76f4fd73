-- Rules of context: what stands before, what is matched, what stands after, and the lookups that are applied then
use Rattle.std.specs.Prelude.{ℕ, List, Bool, true, Option, None, min, ◌+◌, ◌-◌, ◌*◌, ◌&&◌, nat_eq, nat_lt, nat_le, length, if◌then◌else◌}
use Rattle.shape_font.specs.Bytes.{u16_of, fitting}
use Rattle.layout_tables.specs.Coverage.{covers}
use Rattle.layout_tables.specs.Offsets.{offset16_of}
use Rattle.layout_tables.specs.Classes.{class_of}
use Rattle.layout_matching.specs.declared.rules.Test.{Test}
use Rattle.layout_matching.specs.declared.rules.Test.TheVariants.{Glyph, Class, Coverage, Any}
use Rattle.layout_matching.specs.declared.rules.Row.{Row}
use Rattle.layout_matching.specs.declared.rules.Rule.{Rule}

-- whether a glyph is the one that a value names: itself, its class, one of a list, or any
abbrev pub is_named : List ℕ → ℕ → ℕ → ℕ → Test → Bool
is_named t from value glyph Glyph = nat_eq glyph value
is_named t from value glyph Class = nat_eq (class_of t from glyph) value
is_named t from value glyph Coverage = nat_lt 0 value && covers t (from + value) glyph
is_named t from value glyph Any = true

-- no table is so long
abbrev pub FAR : ℕ
FAR = 274877906944

-- glyph number `k` of a row
abbrev pub fits_row : List ℕ → Row → ℕ → ℕ → Bool
fits_row t row k glyph = is_named t (min row.from FAR) (u16_of t (min row.values FAR + 2 * k)) glyph row.test

-- where the rules for glyph or class number `i` stand
abbrev pub rules_at : List ℕ → ℕ → ℕ → ℕ → Option ℕ
rules_at t start counted i = if nat_lt i (fitting t (u16_of t (start + counted)) (start + counted + 2) 2)
    then offset16_of t start (start + counted + 2 + 2 * i) else None

-- a row of so many values
abbrev pub row : Test → ℕ → ℕ → ℕ → Row
row test from count values = record { test = test; from = from; count = count; values = values }

-- context: how many glyphs, how many lookups, and from `values` on the values of the glyphs after the first one
abbrev pub plain_rule : List ℕ → Test → ℕ → ℕ → ℕ → Rule
plain_rule t test from at values = let count = u16_of t at in record {
  before = row test from 0 values;
  input = row test from count values;
  after = row test from 0 values;
  lookups = values + 2 * (count - 1);
  count = u16_of t (at + 2);
}

-- chained context: what stands before, what is matched, what stands after; `first` is 0 if the first glyph has a value too
abbrev pub chained : List ℕ → Test → ℕ → ℕ → ℕ → ℕ → ℕ → Rule
chained t test from_before from_input from_after whole at =
    let before = row test from_before (u16_of t at) (at + 2) in
    let middle = at + 2 + 2 * before.count in
    let count = u16_of t middle in
    let input = row test from_input count (middle + 2 + 2 * whole) in
    let follows = middle + 2 + 2 * whole + 2 * (count - 1) in
    let after = row test from_after (u16_of t follows) (follows + 2) in
    let last = follows + 2 + 2 * after.count in
    record { before = before; input = input; after = after; lookups = last + 2; count = u16_of t last }

-- whether the table has all bytes of a rule, whose records of lookups, 4 bytes each, come last
abbrev pub is_inside : List ℕ → Rule → Bool
is_inside t rule = nat_le rule.lookups (length t) && nat_le (4 * rule.count) (length t - rule.lookups)

-- the rule number `r` of those at `rules`
abbrev pub rule_place : List ℕ → ℕ → ℕ → Option ℕ
rule_place t rules r = offset16_of t rules (rules + 2 + 2 * r)
