-- What is stored of the one rule of a subtable of format 3: what it costs, and which glyphs may stand right beside its place.
use Rattle.std.specs.Prelude.{◌≡◌, ℕ, List, Bool, true, false, Option, Some, None, ◌+◌, ◌-◌, ◌<◌, ◌^◌, min, nat_eq, nat_lt, slice_index_or, length}
use Rattle.std.specs.Prelude.{if◌then◌else◌}
use Rattle.std.specs.Global.{Vec}
use Rattle.std.specs.Option.{ForSome, option_and_then, option_map}
use Rattle.shape_font.specs.Bytes.{u16_of}
use Rattle.layout_tables.specs.Offsets.{offset16_of}
use Rattle.layout_matching.specs.Firsts.{may_begin}
use Rattle.layout_matching.specs.Found.{first_list, is_chained, is_context_subtable, subtable_at, whole_rule}
use Rattle.layout_matching.specs.Rules.{FAR, fits_row}
use Rattle.layout_matching.specs.Work.{charged, lists_charged, rule_counted, uncounted, SUBTABLE_WORK}
use Rattle.layout_matching.specs.declared.firsts.First.{First}
use Rattle.layout_matching.specs.declared.firsts.Firsts.{Firsts}
use Rattle.layout_matching.specs.declared.lookup.Lookup.{Lookup}
use Rattle.layout_matching.specs.declared.rules.Row.{Row}
use Rattle.layout_matching.specs.declared.rules.Rule.{Rule}
use Rattle.layout_matching.specs.declared.tally.Tally.{Tally}
use Rattle.layout_matching.specs.declared.whole_rules.WholeRule.{WholeRule}

-- where the list of the first glyph of a row stands; none if the row is empty, or no glyph fits it
abbrev pub list_of : List ℕ → ℕ → Row → Option ℕ
list_of t start row = if nat_eq row.count 0 then None else offset16_of t start (min row.values FAR)

-- the glyphs after the place: the others that a rule matches, or if that is one glyph, what stands behind
abbrev pub row_after : Rule → Row
row_after rule = if nat_lt 1 rule.input.count then rule.input else rule.after

-- what is left after a rule with its subtable and the searches of its lists, and how far it looks beside the place
abbrev pub rule_paid : Rule → ℕ → Option Tally
rule_paid rule left = option_and_then (λ rest. rule_counted rule (uncounted rest)) (option_and_then (lists_charged rule) (charged SUBTABLE_WORK left))

-- the same by what is stored
abbrev pub stored_paid : WholeRule → ℕ → Option Tally
stored_paid w left = option_map (λ rest. record { left = rest; before = w.before; after = w.after; tries = w.tries }) (charged w.work left)

-- what is stored of a rule of a table whose lists stand from `start` on: where the list of its first glyph stands, what it costs, and
-- how many glyphs it has before its place and after it
pub record IsCounted (t : List ℕ) (start : ℕ) (rule : Rule) (w : WholeRule) : Type 0 where
  pub list : first_list t start rule ≡ Some w.list
  pub near : w.list < 2 ^ 40
  pub paid : (left : ℕ) → rule_paid rule left ≡ stored_paid w left
  pub before : w.before ≡ rule.before.count
  pub after : w.after ≡ rule.input.count - 1 + rule.after.count

-- no glyph that isn't among these is the first one of a row
abbrev pub IsNearest : List ℕ → Row → First → Type 0
IsNearest t row near = (glyph : ℕ) → 0 < row.count → may_begin near glyph ≡ false → fits_row t row 0 glyph ≡ false

pub record HasNearest (t : List ℕ) (rule : Rule) (w : WholeRule) : Type 0 where
  pub before : IsNearest t rule.before w.nearest_before
  pub after : IsNearest t (row_after rule) w.nearest_after

-- what is stored of the rule of the subtable that is stored with it
pub record IsWhole (t : List ℕ) (is_chain : Bool) (w : WholeRule) : Type 0 where
  pub near : w.subtable.start < 2 ^ 35
  pub format : u16_of t w.subtable.start ≡ 3
  pub counted : IsCounted t w.subtable.start (whole_rule t is_chain w.subtable.start) w
  pub nearest : HasNearest t (whole_rule t is_chain w.subtable.start) w

-- and that is subtable `i` of a lookup
pub record IsWholeOf (l : Lookup) (i : ℕ) (w : WholeRule) : Type 0 where
  pub subtable : subtable_at l i ≡ Some w.subtable
  pub context : is_context_subtable l w.subtable ≡ true
  pub whole : IsWhole l.table.now (is_chained l w.subtable) w

-- of the subtables of a lookup, in their order; none of those without such a rule
abbrev pub AreWholes : Lookup → List (Option WholeRule) → Type 0
AreWholes l ws = (i : ℕ) → i < length ws → ForSome (slice_index_or ws i None) (IsWholeOf l i)

-- those that are stored with this index, if any are
abbrev pub AreWholesOf : Lookup → Firsts → Type 0
AreWholesOf l f = (none : Vec (Option WholeRule)) → f.index < length f.wholes.now
    → AreWholes l (slice_index_or f.wholes.now f.index none).items
