-- What calls of the engine try, one after the other, and what lookups cost at each item, by hand.
use Rattle.std.specs.Prelude.{◌≡◌, ℕ, List, [], ◌∷◌, ◌+◌, Some, None, true, false, map, refl}
use Rattle.std.specs.Int.{int_wrap}
use Rattle.std.specs.Int.Count.{ones}
use Rattle.shape_common.specs.Positions.{zero_position}
use Rattle.shape_common.specs.Wrapping.{◌+ʷ◌}
use Rattle.shape_font.specs.Bytes.{i16_of}
use Rattle.shape_items.specs.Buffer.{Buffer, new_buffer}
use Rattle.shape_items.specs.Clusters.{merge}
use Rattle.shape_items.specs.Items.{new_item}
use Rattle.layout_map.specs.Map.{OtMap}
use Rattle.layout_matching.specs.declared.lookup.Lookup.{Lookup}
use Rattle.layout_digests.specs.declared.stored.Head.{Head}
use Rattle.layout_substitution.specs.Replaced.{is_multiplied, as_ligature}
use Rattle.layout_context.specs.Stages.{substituted}
use Rattle.opentype_layout.specs.Engine.{gsub_tables}
use Rattle.opentype_layout.specs.Lookups.{lookups_of, steps_work_by}
use Rattle.opentype_layout.specs.Stage.{after}
use Rattle.opentype_layout.specs.Tries.{Call, stage_call, position_call, other_call, made_by, tries_by}
use Rattle.opentype_layout.specs.Would.{index_would}
use Rattle.opentype_layout.specs.Worked.Engine.{use_of}
use Rattle.opentype_layout.specs.Worked.Fonts.{words, gsub_of_two}
use Rattle.opentype_layout.specs.declared.face.OpenTypeFace.{OpenTypeFace}

-- glyphs for which the lookups are on
abbrev line : List ℕ → Buffer
line glyphs = record new_buffer {
  items = map (λ g. record (new_item 0 0) { glyph_id = g; mask = 0x30 }) glyphs;
  positions = map (λ _. zero_position) glyphs;
}

-- lookup 0 in a first stage, lookup 1 in a second one; and lookup 0 of positions
abbrev two_stages : OtMap
two_stages = record {
  features = [];
  global = 0;
  gsub = record {
    lookups = use_of 0 ∷ use_of 1 ∷ [];
    stages = record { end = 1; pause = None } ∷ record { end = 2; pause = None } ∷ [];
  };
  gpos = use_of 0 ∷ [];
}

-- `GPOS` with one lookup, of type 1: glyph 5 is wider by 10
abbrev gpos : List ℕ
gpos = words (1 ∷ 0 ∷ 0 ∷ 0 ∷ 10 ∷ 1 ∷ 4 ∷ 1 ∷ 0 ∷ 1 ∷ 8 ∷ 1 ∷ 8 ∷ 4 ∷ 10 ∷ 1 ∷ 1 ∷ 5 ∷ [])

-- what is stored of a lookup of a type, with so many subtables
abbrev head : ℕ → ℕ → Head
head kind subtables = record { place = 0; flags = 0; mark_set = 0; kind = kind; subtables = subtables }

pub record WorkedTries : Type 0 where
  pub none : (b : Buffer) → tries_by [] b ≡ 0
  pub two : (c d : Call) (b : Buffer) → tries_by (c ∷ d ∷ []) b ≡ c.tries b + (d.tries (c.makes b) + 0)
  pub made_by_two : (c d : Call) (b : Buffer) → made_by (c ∷ d ∷ []) b ≡ d.makes (c.makes b)
  pub tries_none : (f : Buffer → Buffer) (b : Buffer) → (other_call f).tries b ≡ 0
  -- the subtable of lookup 0 at each of two glyphs; that of lookup 1, and at the first glyph its ligature
  pub first_stage : (f : OpenTypeFace) → f.gsub.now ≡ gsub_of_two → (stage_call two_stages f 0).tries (line (5 ∷ 5 ∷ [])) ≡ 2
  -- the first one makes 6 of both, with which no ligature begins
  pub one_after_the_other : (f : OpenTypeFace) → f.gsub.now ≡ gsub_of_two → f.gdef.now ≡ []
      → tries_by (stage_call two_stages f 0 ∷ stage_call two_stages f 1 ∷ []) (line (5 ∷ 5 ∷ [])) ≡ 4
  pub second_stage : (f : OpenTypeFace) → f.gsub.now ≡ gsub_of_two → (stage_call two_stages f 1).tries (line (5 ∷ 6 ∷ [])) ≡ 2
  pub no_third_stage : (f : OpenTypeFace) → f.gsub.now ≡ gsub_of_two → (stage_call two_stages f 2).tries (line (5 ∷ 6 ∷ [])) ≡ 0
  pub positions : (f : OpenTypeFace) → f.gpos.now ≡ gpos → f.device_work ≡ 0
      → (position_call two_stages f).tries (line (5 ∷ 6 ∷ [])) ≡ 2
  -- lookups in the order that they are asked for
  pub lookups : (f : OpenTypeFace) → f.gsub.now ≡ gsub_of_two
      → map (λ (l : Lookup). l.place) (lookups_of (gsub_tables f) (use_of 0 ∷ use_of 1 ∷ [])) ≡ 52 ∷ 72 ∷ []
  pub one_before : (l : Lookup) (ls : List Lookup) → after (Some l) ls ≡ l ∷ ls
  pub none_before : (ls : List Lookup) → after None ls ≡ ls
  pub past_the_lookups : index_would gsub_of_two (5 ∷ []) false 2 ≡ false
  -- 16 for each subtable of types 1 and 2, and of 3 if it isn't at random, else 8; one without subtables counts as one
  pub of_type_1 : steps_work_by (head 1 3) false ≡ 48
  pub of_type_2 : steps_work_by (head 2 1) true ≡ 16
  pub alternates : steps_work_by (head 3 2) false ≡ 32
  pub alternates_at_random : steps_work_by (head 3 2) true ≡ 16
  pub ligatures : steps_work_by (head 4 2) false ≡ 16
  pub no_subtable : steps_work_by (head 1 0) false ≡ 16

pub worked_tries : WorkedTries
unfolding substituted merge is_multiplied as_ligature i16_of ◌+ʷ◌ int_wrap ones lib.Count.count_trailing_zeros
worked_tries = record {
  none = λ b. refl;
  two = λ c d b. refl;
  made_by_two = λ c d b. refl;
  tries_none = λ f b. refl;
  first_stage = λ f e. rw e refl;
  one_after_the_other = λ f e g. rw (e, g) refl;
  second_stage = λ f e. rw e refl;
  no_third_stage = λ f e. refl;
  positions = λ f e none. rw (e, none) refl;
  lookups = λ f e. rw e refl;
  one_before = λ l ls. refl;
  none_before = λ ls. refl;
  past_the_lookups = refl;
  of_type_1 = refl;
  of_type_2 = refl;
  alternates = refl;
  alternates_at_random = refl;
  ligatures = refl;
  no_subtable = refl;
}
