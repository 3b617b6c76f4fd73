-- Glyphs that stand alone, computed by hand on subtables of 16-bit words.
use Rattle.std.specs.Prelude.{◌≡◌, ℕ, Bool, List, [], ◌∷◌, true, false, refl}
use Rattle.shape_font.specs.Worked.Glyphs.{words}
use Rattle.layout_matching.specs.Would.{context_would, context_begins}

-- format 1: the rules for glyph 5 are one of glyphs 5 and 6, and one of it alone
abbrev pub by_glyph : List ℕ
by_glyph = words (1 ∷ 8 ∷ 1 ∷ 14 ∷ 1 ∷ 1 ∷ 5 ∷ 2 ∷ 6 ∷ 12 ∷ 2 ∷ 0 ∷ 6 ∷ 1 ∷ 0 ∷ [])

-- format 2: glyphs 4 and 5 are of class 1, glyph 6 of class 2. Class 1 has a rule with class 2; the list has glyph 5 alone
abbrev pub by_class : List ℕ
by_class = words (2 ∷ 12 ∷ 18 ∷ 2 ∷ 0 ∷ 30 ∷ 1 ∷ 1 ∷ 5 ∷ 1 ∷ 4 ∷ 3 ∷ 1 ∷ 1 ∷ 2 ∷ 1 ∷ 4 ∷ 2 ∷ 0 ∷ 2 ∷ [])

-- format 3: glyphs 5 and 6, each by its list
abbrev pub by_list : List ℕ
by_list = words (3 ∷ 2 ∷ 0 ∷ 10 ∷ 16 ∷ 1 ∷ 1 ∷ 5 ∷ 1 ∷ 1 ∷ 6 ∷ [])

-- format 3: glyph 5, and so many records of lookups, of which the table has one
abbrev pub with_lookups : ℕ → List ℕ
with_lookups count = words (3 ∷ 1 ∷ count ∷ 8 ∷ 1 ∷ 1 ∷ 5 ∷ [])

-- chained, format 1: glyphs 5 and 6 after glyph 9, glyphs 5 and 7 before glyph 9, glyphs 5 and 8
abbrev pub chained_by_glyph : List ℕ
chained_by_glyph = words (1 ∷ 8 ∷ 1 ∷ 14 ∷ 1 ∷ 1 ∷ 5 ∷ 3 ∷ 8 ∷ 20 ∷ 32 ∷ 1 ∷ 9 ∷ 2 ∷ 6 ∷ 0 ∷ 0 ∷ 0 ∷ 2 ∷ 7 ∷ 1 ∷ 9 ∷ 0 ∷ 0 ∷ 2 ∷ 8 ∷ 0 ∷ 0 ∷ [])

-- chained, format 2: glyph 5 is of class 1, glyph 6 of class 2. Class 1 has a rule with class 2, before a glyph of class 0
abbrev pub chained_by_class : List ℕ
chained_by_class = words (2 ∷ 16 ∷ 0 ∷ 22 ∷ 0 ∷ 2 ∷ 0 ∷ 32 ∷ 1 ∷ 1 ∷ 5 ∷ 1 ∷ 5 ∷ 2 ∷ 1 ∷ 2 ∷ 1 ∷ 4 ∷ 0 ∷ 2 ∷ 2 ∷ 1 ∷ 0 ∷ 0 ∷ [])

-- chained, format 3: glyphs 5 and 6, after glyph 5, and by themselves
abbrev pub chained_by_list : List ℕ
chained_by_list = words (3 ∷ 1 ∷ 16 ∷ 2 ∷ 16 ∷ 22 ∷ 0 ∷ 0 ∷ 1 ∷ 1 ∷ 5 ∷ 1 ∷ 1 ∷ 6 ∷ [])

abbrev pub chained_around_nothing : List ℕ
chained_around_nothing = words (3 ∷ 0 ∷ 2 ∷ 14 ∷ 20 ∷ 0 ∷ 0 ∷ 1 ∷ 1 ∷ 5 ∷ 1 ∷ 1 ∷ 6 ∷ [])

-- context, in any context and in none
abbrev pub Plain : List ℕ → List ℕ → Bool → Type 0
Plain t glyphs is = context_would t false 0 glyphs false ≡ is

abbrev pub PlainAlone : List ℕ → List ℕ → Bool → Type 0
PlainAlone t glyphs is = context_would t false 0 glyphs true ≡ is

abbrev pub Chained : List ℕ → List ℕ → Bool → Type 0
Chained t glyphs is = context_would t true 0 glyphs false ≡ is

abbrev pub ChainedAlone : List ℕ → List ℕ → Bool → Type 0
ChainedAlone t glyphs is = context_would t true 0 glyphs true ≡ is

pub record WorkedWould : Type 0 where
  pub first_rule : Plain by_glyph (5 ∷ 6 ∷ []) true
  pub second_rule : Plain by_glyph (5 ∷ []) true
  pub alone : PlainAlone by_glyph (5 ∷ 6 ∷ []) true
  pub another_second : Plain by_glyph (5 ∷ 7 ∷ []) false
  pub one_more : Plain by_glyph (5 ∷ 6 ∷ 6 ∷ []) false
  pub another_first : Plain by_glyph (6 ∷ 6 ∷ []) false
  pub no_glyph : Plain by_glyph [] false
  pub begins : context_begins by_glyph false 0 5 ≡ true
  pub begins_not : context_begins by_glyph false 0 6 ≡ false
  pub classes : Plain by_class (5 ∷ 6 ∷ []) true
  pub class_alone : PlainAlone by_class (5 ∷ 6 ∷ []) true
  pub another_class : Plain by_class (5 ∷ 5 ∷ []) false
  pub of_class_0 : Plain by_class (7 ∷ 6 ∷ []) false
  -- the list isn't asked for the first glyph; where the subtable begins, it is
  pub not_listed : Plain by_class (4 ∷ 6 ∷ []) true
  pub begins_by_list : context_begins by_class false 0 5 ≡ true
  pub begins_by_no_class : context_begins by_class false 0 4 ≡ false
  pub lists : Plain by_list (5 ∷ 6 ∷ []) true
  pub lists_alone : PlainAlone by_list (5 ∷ 6 ∷ []) true
  pub not_in_second_list : Plain by_list (5 ∷ 5 ∷ []) false
  pub not_in_first_list : Plain by_list (4 ∷ 6 ∷ []) true
  pub first_of_two : Plain by_list (5 ∷ []) false
  pub begins_in_first_list : context_begins by_list false 0 5 ≡ true
  pub begins_in_no_second_list : context_begins by_list false 0 6 ≡ false
  -- a rule that leads past the end of the table
  pub one_record : Plain (with_lookups 1) (5 ∷ []) true
  pub two_records : Plain (with_lookups 2) (5 ∷ []) false
  pub before : Chained chained_by_glyph (5 ∷ 6 ∷ []) true
  pub before_alone : ChainedAlone chained_by_glyph (5 ∷ 6 ∷ []) false
  pub after : Chained chained_by_glyph (5 ∷ 7 ∷ []) true
  pub after_alone : ChainedAlone chained_by_glyph (5 ∷ 7 ∷ []) false
  pub around_nothing : Chained chained_by_glyph (5 ∷ 8 ∷ []) true
  pub around_nothing_alone : ChainedAlone chained_by_glyph (5 ∷ 8 ∷ []) true
  pub chained_begins : context_begins chained_by_glyph true 0 5 ≡ true
  pub no_rule : Chained chained_by_glyph (5 ∷ 9 ∷ []) false
  pub chained_classes : Chained chained_by_class (5 ∷ 6 ∷ []) true
  pub chained_classes_alone : ChainedAlone chained_by_class (5 ∷ 6 ∷ []) false
  pub class_without_rules : Chained chained_by_class (6 ∷ 6 ∷ []) false
  pub chained_lists : Chained chained_by_list (5 ∷ 6 ∷ []) true
  pub chained_lists_alone : ChainedAlone chained_by_list (5 ∷ 6 ∷ []) false
  pub chained_lists_around_nothing : ChainedAlone chained_around_nothing (5 ∷ 6 ∷ []) true
  pub chained_begins_in_list : context_begins chained_by_list true 0 5 ≡ true
  pub chained_begins_not : context_begins chained_by_list true 0 6 ≡ false
  -- a format that isn't known
  pub fourth_format : Plain (words (4 ∷ 8 ∷ 1 ∷ 14 ∷ 1 ∷ 1 ∷ 5 ∷ [])) (5 ∷ []) false
  pub fourth_format_begins : context_begins (words (4 ∷ 8 ∷ 1 ∷ 14 ∷ 1 ∷ 1 ∷ 5 ∷ [])) false 0 5 ≡ false

pub worked_would : WorkedWould
worked_would = record {
  first_rule = refl;
  second_rule = refl;
  alone = refl;
  another_second = refl;
  one_more = refl;
  another_first = refl;
  no_glyph = refl;
  begins = refl;
  begins_not = refl;
  classes = refl;
  class_alone = refl;
  another_class = refl;
  of_class_0 = refl;
  not_listed = refl;
  begins_by_list = refl;
  begins_by_no_class = refl;
  lists = refl;
  lists_alone = refl;
  not_in_second_list = refl;
  not_in_first_list = refl;
  first_of_two = refl;
  begins_in_first_list = refl;
  begins_in_no_second_list = refl;
  one_record = refl;
  two_records = refl;
  before = refl;
  before_alone = refl;
  after = refl;
  after_alone = refl;
  around_nothing = refl;
  around_nothing_alone = refl;
  chained_begins = refl;
  no_rule = refl;
  chained_classes = refl;
  chained_classes_alone = refl;
  class_without_rules = refl;
  chained_lists = refl;
  chained_lists_alone = refl;
  chained_lists_around_nothing = refl;
  chained_begins_in_list = refl;
  chained_begins_not = refl;
  fourth_format = refl;
  fourth_format_begins = refl;
}
