-- Lookups asked for glyphs that stand alone, computed by hand on tables of 16-bit words. Each lookup stands at byte 0.
use Rattle.std.specs.Prelude.{◌≡◌, ℕ, Bool, List, [], ◌∷◌, ◌++◌, true, false, refl}
use Rattle.shape_font.specs.Worked.Glyphs.{words}
use Rattle.layout_matching.specs.Worked.Would.{by_glyph, by_class, by_list, chained_by_glyph, chained_by_class, chained_by_list}
use Rattle.layout_substitution.specs.Would.{lookup_would}

-- one subtable of a kind and a format, whose list is glyph 5
abbrev pub of_list : ℕ → ℕ → List ℕ
of_list kind format = words (kind ∷ 0 ∷ 1 ∷ 8 ∷ format ∷ 6 ∷ 1 ∷ 1 ∷ 1 ∷ 5 ∷ [])

-- two of kind 1: of glyph 5, and of glyph 7
abbrev pub two_singles : List ℕ
two_singles = words (1 ∷ 0 ∷ 2 ∷ 10 ∷ 22 ∷ 1 ∷ 6 ∷ 1 ∷ 1 ∷ 1 ∷ 5 ∷ 1 ∷ 6 ∷ 1 ∷ 1 ∷ 1 ∷ 7 ∷ [])

-- the offset of the first subtable is NULL
abbrev pub null_first : List ℕ
null_first = words (1 ∷ 0 ∷ 2 ∷ 0 ∷ 10 ∷ 1 ∷ 6 ∷ 1 ∷ 1 ∷ 1 ∷ 5 ∷ [])

-- an extension that stands for a subtable of kind 1
abbrev pub far_single : List ℕ
far_single = words (7 ∷ 0 ∷ 1 ∷ 8 ∷ 1 ∷ 1 ∷ 0 ∷ 8 ∷ 1 ∷ 6 ∷ 1 ∷ 1 ∷ 1 ∷ 5 ∷ [])

-- ligatures of glyphs 5, 6 and 7, and of glyphs 5 and 6
abbrev pub ligatures : List ℕ
ligatures = words (4 ∷ 0 ∷ 1 ∷ 8 ∷ 1 ∷ 8 ∷ 1 ∷ 14 ∷ 1 ∷ 1 ∷ 5 ∷ 2 ∷ 6 ∷ 14 ∷ 50 ∷ 3 ∷ 6 ∷ 7 ∷ 51 ∷ 2 ∷ 6 ∷ [])

-- its one ligature has a component that the table lacks
abbrev pub ligature_cut : List ℕ
ligature_cut = words (4 ∷ 0 ∷ 1 ∷ 8 ∷ 1 ∷ 8 ∷ 1 ∷ 14 ∷ 1 ∷ 1 ∷ 5 ∷ 1 ∷ 4 ∷ 50 ∷ 2 ∷ [])

-- one subtable of context, and one of chained context
abbrev pub context : List ℕ → List ℕ
context subtable = words (5 ∷ 0 ∷ 1 ∷ 8 ∷ []) ++ subtable

abbrev pub chained : List ℕ → List ℕ
chained subtable = words (6 ∷ 0 ∷ 1 ∷ 8 ∷ []) ++ subtable

-- glyphs 5 and 6 by their lists, and glyph 4 by its own
abbrev pub two_contexts : List ℕ
two_contexts = words (5 ∷ 0 ∷ 2 ∷ 10 ∷ 32 ∷ []) ++ by_list ++ words (3 ∷ 1 ∷ 0 ∷ 8 ∷ 1 ∷ 1 ∷ 4 ∷ [])

-- in any context, and in none
abbrev pub Would : List ℕ → List ℕ → Bool → Type 0
Would t glyphs is = lookup_would t 0 glyphs false ≡ is

abbrev pub WouldAlone : List ℕ → List ℕ → Bool → Type 0
WouldAlone t glyphs is = lookup_would t 0 glyphs true ≡ is

pub record WorkedWould : Type 0 where
  pub single : Would (of_list 1 1) (5 ∷ []) true
  pub single_alone : WouldAlone (of_list 1 1) (5 ∷ []) true
  pub single_of_format_2 : Would (of_list 1 2) (5 ∷ []) true
  pub single_of_format_3 : Would (of_list 1 3) (5 ∷ []) false
  pub another_glyph : Would (of_list 1 1) (6 ∷ []) false
  pub two_glyphs : Would (of_list 1 1) (5 ∷ 5 ∷ []) false
  pub no_glyph : Would (of_list 1 1) [] false
  pub multiple : Would (of_list 2 1) (5 ∷ []) true
  pub multiple_alone : WouldAlone (of_list 2 1) (5 ∷ []) true
  pub multiple_of_format_2 : Would (of_list 2 2) (5 ∷ []) false
  pub alternate : Would (of_list 3 1) (5 ∷ []) true
  pub alternate_alone : WouldAlone (of_list 3 1) (5 ∷ []) true
  pub reverse : Would (of_list 8 1) (5 ∷ []) true
  pub reverse_alone : WouldAlone (of_list 8 1) (5 ∷ []) true
  pub unknown_kind : Would (of_list 9 1) (5 ∷ []) false
  pub second_subtable : Would two_singles (7 ∷ []) true
  pub no_subtable : Would two_singles (6 ∷ []) false
  pub after_null : Would null_first (5 ∷ []) true
  pub extension : Would far_single (5 ∷ []) true
  pub extension_of_another : Would far_single (6 ∷ []) false
  pub ligature : Would ligatures (5 ∷ 6 ∷ 7 ∷ []) true
  pub ligature_alone : WouldAlone ligatures (5 ∷ 6 ∷ 7 ∷ []) true
  pub second_ligature : Would ligatures (5 ∷ 6 ∷ []) true
  pub another_component : Would ligatures (5 ∷ 7 ∷ []) false
  pub no_component : Would ligatures (5 ∷ []) false
  pub another_first : Would ligatures (6 ∷ 6 ∷ []) false
  pub cut : Would ligature_cut (5 ∷ 0 ∷ []) false
  pub by_glyphs : Would (context by_glyph) (5 ∷ 6 ∷ []) true
  pub by_glyphs_alone : WouldAlone (context by_glyph) (5 ∷ 6 ∷ []) true
  pub by_classes : Would (context by_class) (5 ∷ 6 ∷ []) true
  pub by_lists : Would (context by_list) (5 ∷ 6 ∷ []) true
  pub by_fewer : Would (context by_list) (5 ∷ []) false
  -- the lookup doesn't begin at glyph 4, unless another subtable does
  pub not_first_by_class : Would (context by_class) (4 ∷ 6 ∷ []) false
  pub not_first_by_list : Would (context by_list) (4 ∷ 6 ∷ []) false
  pub first_of_another : Would two_contexts (4 ∷ 6 ∷ []) true
  pub chained_by_glyphs : Would (chained chained_by_glyph) (5 ∷ 6 ∷ []) true
  pub chained_by_glyphs_alone : WouldAlone (chained chained_by_glyph) (5 ∷ 6 ∷ []) false
  pub chained_around_nothing : WouldAlone (chained chained_by_glyph) (5 ∷ 8 ∷ []) true
  pub chained_by_classes : Would (chained chained_by_class) (5 ∷ 6 ∷ []) true
  pub chained_by_classes_alone : WouldAlone (chained chained_by_class) (5 ∷ 6 ∷ []) false
  pub chained_by_lists : Would (chained chained_by_list) (5 ∷ 6 ∷ []) true
  pub chained_by_lists_alone : WouldAlone (chained chained_by_list) (5 ∷ 6 ∷ []) false

pub worked_would : WorkedWould
worked_would = record {
  single = refl;
  single_alone = refl;
  single_of_format_2 = refl;
  single_of_format_3 = refl;
  another_glyph = refl;
  two_glyphs = refl;
  no_glyph = refl;
  multiple = refl;
  multiple_alone = refl;
  multiple_of_format_2 = refl;
  alternate = refl;
  alternate_alone = refl;
  reverse = refl;
  reverse_alone = refl;
  unknown_kind = refl;
  second_subtable = refl;
  no_subtable = refl;
  after_null = refl;
  extension = refl;
  extension_of_another = refl;
  ligature = refl;
  ligature_alone = refl;
  second_ligature = refl;
  another_component = refl;
  no_component = refl;
  another_first = refl;
  cut = refl;
  by_glyphs = refl;
  by_glyphs_alone = refl;
  by_classes = refl;
  by_lists = refl;
  by_fewer = refl;
  not_first_by_class = refl;
  not_first_by_list = refl;
  first_of_another = refl;
  chained_by_glyphs = refl;
  chained_by_glyphs_alone = refl;
  chained_around_nothing = refl;
  chained_by_classes = refl;
  chained_by_classes_alone = refl;
  chained_by_lists = refl;
  chained_by_lists_alone = refl;
}
