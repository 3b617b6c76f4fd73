-- what is stored of the rules of format 3 of a table
use Rattle.std.specs.Prelude.{◌≡◌, ℕ, Bool, true, false, List, Option, Some, None, ◌<◌, length, slice_index_or}
use Rattle.std.specs.Global.{Vec}
use Rattle.std.specs.Option.{IfSome, option_map_or}
use Rattle.layout_tables.specs.Coverage.{covers}
use Rattle.layout_tables.specs.Lookups.{lookup_of, subtable_of}
use Rattle.layout_matching.specs.Firsts.{may_begin}
use Rattle.layout_matching.specs.WholeRules.{IsWhole}
use Rattle.layout_matching.specs.declared.firsts.First.{First}
use Rattle.layout_matching.specs.declared.whole_rules.WholeRule.{WholeRule}
use Rattle.layout_digests.specs.Lookups.{extension_kind, is_chained_kind, is_context_kind}

-- the glyphs that a list covers are among these; none if there is no list
abbrev pub HoldsList : List ℕ → Option ℕ → First → Type 0
HoldsList t list near = (glyph : ℕ) → may_begin near glyph ≡ false → option_map_or (λ place. covers t place glyph) list false ≡ false

-- of subtable `i` of the lookup at a place
pub record IsWholeAt (t : List ℕ) (positioning : Bool) (place i : ℕ) (w : WholeRule) : Type 0 where
  pub subtable : subtable_of t (extension_kind positioning) place i ≡ Some w.subtable
  pub context : is_context_kind positioning w.subtable.kind ≡ true
  pub whole : IsWhole t (is_chained_kind positioning w.subtable.kind) w

-- of its subtables, in their order; none of those without such a rule
abbrev pub AreWholesOf : List ℕ → Bool → ℕ → List (Option WholeRule) → Type 0
AreWholesOf t positioning place ws = (i : ℕ) → i < length ws → IfSome (slice_index_or ws i None) (IsWholeAt t positioning place i)

-- of the lookup with an index
abbrev pub AreWholesAt : List ℕ → Bool → ℕ → List (Option WholeRule) → Type 0
AreWholesAt t positioning index ws = (place : ℕ) → lookup_of t index ≡ Some place → AreWholesOf t positioning place ws

-- of each lookup, by its index
abbrev pub HoldWholes : List ℕ → Bool → List (Vec (Option WholeRule)) → Type 0
HoldWholes t positioning all = (index : ℕ) (none : Vec (Option WholeRule)) → index < length all
    → AreWholesAt t positioning index (slice_index_or all index none).items
