-- Parts that stand one after the other, and their runs, computed by hand on tables of 16-bit words.
use Rattle.std.specs.Prelude.{◌≡◌, ℕ, List, [], ◌∷◌, ◌++◌, Some, true, false, refl}
use Rattle.shape_font.specs.Worked.Glyphs.{words}
use Rattle.shape_items.specs.Buffer.{Buffer}
use Rattle.apple_substitution.specs.Parts.{all_run, is_end, is_part, is_spent, places_from, size_of}
use Rattle.apple_substitution.specs.Worked.Driving.{glyph, glyphs_of, text}
use Rattle.apple_substitution.specs.declared.parts.TheConstants.{CHAIN, SUBTABLE}

-- subtables of 14, 12 and 11 bytes, after two bytes
abbrev subtables : List ℕ
subtables = 0 ∷ 0 ∷ words (0 ∷ 14 ∷ 0 ∷ 0 ∷ 0 ∷ 0 ∷ 0 ∷ 0 ∷ 12 ∷ 0 ∷ 0 ∷ 0 ∷ 0 ∷ 0 ∷ 11 ∷ 0 ∷ 0 ∷ 0 ∷ 0 ∷ [])

-- a chain of sixteen bytes that says how long it is
abbrev chain_of : ℕ → List ℕ
chain_of size = words (0 ∷ 3 ∷ 0 ∷ size ∷ 0 ∷ 0 ∷ 0 ∷ 0 ∷ [])

pub record WorkedPlaces : Type 0 where
  pub size : size_of subtables SUBTABLE 2 ≡ 14
  pub size_of_a_chain : size_of (chain_of 17) CHAIN 0 ≡ 17
  pub whole : is_part (chain_of 16) CHAIN 0 ≡ true
  pub past_the_table : is_part (chain_of 17) CHAIN 0 ≡ false
  pub shorter_than_its_header : is_part (chain_of 15) CHAIN 0 ≡ false
  pub shortest_subtable : is_part subtables SUBTABLE 16 ≡ true
  pub all : places_from subtables SUBTABLE 3 2 ≡ 2 ∷ 16 ∷ []
  pub as_said : places_from subtables SUBTABLE 1 2 ≡ 2 ∷ []
  pub none : places_from subtables SUBTABLE 0 2 ≡ []
  -- what follows a part that is none isn't looked at
  pub no_first : places_from (chain_of 15 ++ chain_of 16) CHAIN 2 0 ≡ []

pub worked_places : WorkedPlaces
worked_places = record {
  size = refl;
  size_of_a_chain = refl;
  whole = refl;
  past_the_table = refl;
  shorter_than_its_header = refl;
  shortest_subtable = refl;
  all = refl;
  as_said = refl;
  none = refl;
  no_first = refl;
}

pub record WorkedEnds : Type 0 where
  pub suffices : is_spent 7 (text [] 7) ≡ false
  pub too_little : is_spent 8 (text [] 7) ≡ true
  pub at_the_limit : is_spent 0 (record (text (glyph 5 0 ∷ []) 7) { length_limit = Some 1 }) ≡ false
  pub past_the_limit : is_spent 0 (record (text (glyph 5 0 ∷ []) 7) { length_limit = Some 0 }) ≡ true
  pub goes_on : is_end subtables SUBTABLE 16 7 (text [] 7) ≡ false
  pub ends_without_work : is_end subtables SUBTABLE 16 8 (text [] 7) ≡ true
  pub ends_without_a_part : is_end subtables SUBTABLE 28 7 (text [] 7) ≡ true

pub worked_ends : WorkedEnds
worked_ends = record {
  suffices = refl;
  too_little = refl;
  at_the_limit = refl;
  past_the_limit = refl;
  goes_on = refl;
  ends_without_work = refl;
  ends_without_a_part = refl;
}

-- a part puts its place at the end of the list, and costs as much
abbrev put : ℕ → Buffer → Buffer
put at b = record b { items = b.items ++ (glyph at 0 ∷ []) }

abbrev run : List ℕ → Buffer → Buffer
run places b = all_run (λ at. at) put places b

pub record WorkedPartRuns : Type 0 where
  pub in_order : glyphs_of (run (3 ∷ 4 ∷ []) (text [] 10)) ≡ 3 ∷ 4 ∷ []
  pub charged : (run (3 ∷ 4 ∷ []) (text [] 10)).max_ops ≡ 3
  -- 6 is too much of the 5 that are left, and 1 comes after it
  pub ends : glyphs_of (run (5 ∷ 6 ∷ 1 ∷ []) (text [] 10)) ≡ 5 ∷ []
  pub left : (run (5 ∷ 6 ∷ 1 ∷ []) (text [] 10)).max_ops ≡ 5
  pub past_the_limit : glyphs_of (run (1 ∷ 2 ∷ 3 ∷ []) (record (text [] 10) { length_limit = Some 1 })) ≡ 1 ∷ 2 ∷ []

pub worked_part_runs : WorkedPartRuns
worked_part_runs = record { in_order = refl; charged = refl; ends = refl; left = refl; past_the_limit = refl }
