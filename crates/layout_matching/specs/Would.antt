-- Whether a subtable of context matches glyphs that stand alone (OpenType, "Common table formats", sequence context 1 to 3, chained
-- 1 to 3): the input sequence of one of its rules is exactly these glyphs. None is skipped. With no context only rules count that
-- want no glyph before and none after.
use Rattle.std.specs.Prelude.{ℕ, List, Bool, false, Option, is_some, ◌+◌, ◌-◌, ◌&&◌, ◌||◌, not, length, nat_eq, slice_index, if◌then◌else◌}
use Rattle.std.specs.Option.{option_and_then, option_map_or}
use Rattle.shape_font.specs.Bytes.{u16_of, fitting}
use Rattle.layout_matching.specs.Found.{whole_rule, is_first, set_for, rule_of, number_of}
use Rattle.layout_matching.specs.Loops.{some_passes, each_passes}
use Rattle.layout_matching.specs.Rules.{fits_row, is_inside, rule_place}
use Rattle.layout_matching.specs.declared.rules.Row.{Row}
use Rattle.layout_matching.specs.declared.rules.Rule.{Rule}

abbrev pub first_of : List ℕ → ℕ
first_of glyphs = slice_index glyphs 0

-- as many glyphs as the row has, and those after the first one are what it names
abbrev pub is_input : List ℕ → Row → List ℕ → Bool
is_input t row glyphs = nat_eq row.count (length glyphs)
    && each_passes (λ k. fits_row t row k (slice_index glyphs (k + 1))) (row.count - 1) 0

-- no glyph is wanted before, and none after
abbrev pub has_no_context : Rule → Bool
has_no_context rule = nat_eq rule.before.count 0 && nat_eq rule.after.count 0

abbrev pub rule_would : List ℕ → List ℕ → Bool → Rule → Bool
rule_would t glyphs zero_context rule =
    is_inside t rule && (not zero_context || has_no_context rule) && is_input t rule.input glyphs

-- formats 1 and 2: one of the rules for the first glyph, by its number or its class
abbrev pub rule_would_in : List ℕ → Bool → ℕ → List ℕ → Bool → ℕ → ℕ → Bool
rule_would_in t is_chain start glyphs zero_context set r =
    option_map_or (λ place. rule_would t glyphs zero_context (rule_of t is_chain start place)) (rule_place t set r) false

abbrev pub set_would : List ℕ → Bool → ℕ → List ℕ → Bool → ℕ → Bool
set_would t is_chain start glyphs zero_context set = some_passes (rule_would_in t is_chain start glyphs zero_context set)
    (fitting t (u16_of t set) (set + 2) 2) 0

-- a class alone says which rules these are: HarfBuzz asks the lookup whole whether it begins at the first glyph, and no subtable
abbrev pub set_of_first : List ℕ → Bool → ℕ → ℕ → Option ℕ
set_of_first t is_chain start glyph = if nat_eq (u16_of t start) 1
    then option_and_then (set_for t is_chain start glyph) (number_of t start glyph)
    else set_for t is_chain start glyph 0

-- format 3: its one rule
abbrev pub context_would : List ℕ → Bool → ℕ → List ℕ → Bool → Bool
context_would t is_chain start glyphs zero_context = if nat_eq (u16_of t start) 3
    then rule_would t glyphs zero_context (whole_rule t is_chain start)
    else option_map_or (set_would t is_chain start glyphs zero_context) (set_of_first t is_chain start (first_of glyphs)) false

-- whether a subtable begins at a glyph: its list has it, which in format 3 is that of the rule's first glyph
abbrev pub context_begins : List ℕ → Bool → ℕ → ℕ → Bool
context_begins t is_chain start glyph = let format = u16_of t start in
    (if nat_eq format 3 then is_first t start (whole_rule t is_chain start) glyph
    else (nat_eq format 1 || nat_eq format 2) && is_some (number_of t start glyph))
