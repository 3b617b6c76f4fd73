-- Whether a lookup would substitute exactly these glyphs if they stood alone (OpenType, "GSUB", types 1 to 8). No glyph is skipped. With
-- no context only rules count that want no glyph before and none after.
use Rattle.std.specs.Prelude.{ℕ, List, Bool, true, false, is_some, ◌+◌, ◌*◌, ◌&&◌, ◌||◌, length, nat_eq, nat_lt, if◌then◌else◌}
use Rattle.std.specs.Option.{option_map_or}
use Rattle.shape_font.specs.Bytes.{u16_of}
use Rattle.layout_tables.specs.Lookups.{subtable_count_of, subtable_of}
use Rattle.layout_tables.specs.Offsets.{offset16_of}
use Rattle.layout_tables.specs.declared.lookups.LookupSubtable.{LookupSubtable}
use Rattle.layout_matching.specs.Found.{number_of}
use Rattle.layout_matching.specs.Loops.{some_passes}
use Rattle.layout_matching.specs.Rules.{row}
use Rattle.layout_matching.specs.Would.{first_of, is_input, context_would, context_begins}
use Rattle.layout_matching.specs.declared.rules.Test.TheVariants.{Glyph}
use Rattle.layout_substitution.specs.Substitutes.{set_of, listed_count, component_count, has_components}

-- type 4: the components of a ligature of the first glyph are these glyphs
abbrev pub ligature_would : List ℕ → List ℕ → ℕ → Bool
ligature_would t glyphs ligature =
    has_components t ligature && is_input t (row Glyph 0 (component_count t ligature) (ligature + 4)) glyphs

abbrev pub ligature_would_in : List ℕ → List ℕ → ℕ → ℕ → Bool
ligature_would_in t glyphs set i = option_map_or (ligature_would t glyphs) (offset16_of t set (set + 2 + 2 * i)) false

abbrev pub set_would : List ℕ → List ℕ → ℕ → Bool
set_would t glyphs set = some_passes (ligature_would_in t glyphs set) (listed_count t set) 0

abbrev pub ligatures_would : List ℕ → ℕ → List ℕ → Bool
ligatures_would t start glyphs = option_map_or (set_would t glyphs) (set_of t start (first_of glyphs)) false

-- types 1 to 4 and 8 begin at the glyphs of one list: type 1 in formats 1 and 2, the others in format 1
abbrev pub has_list : List ℕ → LookupSubtable → Bool
has_list t s = nat_eq (u16_of t s.start) 1 || (nat_eq s.kind 1 && nat_eq (u16_of t s.start) 2)

abbrev pub is_of_list : ℕ → Bool
is_of_list kind = (nat_lt 0 kind && nat_lt kind 5) || nat_eq kind 8

abbrev pub is_listed : List ℕ → LookupSubtable → ℕ → Bool
is_listed t s glyph = is_of_list s.kind && has_list t s && is_some (number_of t s.start glyph)

abbrev pub begins : List ℕ → LookupSubtable → ℕ → Bool
begins t s glyph = if nat_eq s.kind 5 then context_begins t false s.start glyph
    else (if nat_eq s.kind 6 then context_begins t true s.start glyph else is_listed t s glyph)

-- types 1, 2, 3 and 8: one glyph, at which the subtable begins
abbrev pub subtable_would : List ℕ → List ℕ → Bool → LookupSubtable → Bool
subtable_would t glyphs zero_context s = if nat_eq s.kind 4 then ligatures_would t s.start glyphs
    else (if nat_eq s.kind 5 then context_would t false s.start glyphs zero_context
    else (if nat_eq s.kind 6 then context_would t true s.start glyphs zero_context
    else nat_eq (length glyphs) 1 && is_listed t s (first_of glyphs)))

-- subtable `i`; one of type 7 is the one that it stands for
abbrev pub would_at : List ℕ → ℕ → List ℕ → Bool → ℕ → Bool
would_at t place glyphs zero_context i = option_map_or (subtable_would t glyphs zero_context) (subtable_of t 7 place i) false

abbrev pub some_would : List ℕ → ℕ → List ℕ → Bool → Bool
some_would t place glyphs zero_context = some_passes (would_at t place glyphs zero_context) (subtable_count_of t place) 0

abbrev pub begins_at : List ℕ → ℕ → ℕ → ℕ → Bool
begins_at t place glyph i = option_map_or (λ s. begins t s glyph) (subtable_of t 7 place i) false

abbrev pub lookup_begins : List ℕ → ℕ → ℕ → Bool
lookup_begins t place glyph = some_passes (begins_at t place glyph) (subtable_count_of t place) 0

-- one subtable would, and the lookup begins at the first glyph: by that subtable or, as HarfBuzz asks the lookup whole, by another one
abbrev pub lookup_would : List ℕ → ℕ → List ℕ → Bool → Bool
lookup_would t place glyphs zero_context = nat_lt 0 (length glyphs)
    && some_would t place glyphs zero_context && lookup_begins t place (first_of glyphs)
