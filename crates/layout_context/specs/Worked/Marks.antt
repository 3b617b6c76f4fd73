-- What is marked unsafe to concat where the buffer asks for that, alternates at random, and ids through lookups, computed by hand.
use Rattle.std.specs.Prelude.{◌≡◌, ℕ, List, [], ◌∷◌, true, refl}
use Rattle.shape_items.specs.Buffer.{Buffer}
use Rattle.shape_items.specs.Clusters.{merge}
use Rattle.shape_items.specs.Items.{Item}
use Rattle.shape_common.specs.FlagNames.{PRODUCE_UNSAFE_TO_CONCAT}
use Rattle.layout_matching.specs.declared.lookup.Lookup.{Lookup}
use Rattle.layout_substitution.specs.Applied.{next_random}
use Rattle.layout_substitution.specs.Replaced.{as_ligature}
use Rattle.layout_context.specs.Stages.{looked_up, stage_made}
use Rattle.layout_context.specs.Worked.Contexts.{HoldsOf, chained_lists, by_glyphs, flags_of, ids_of}
use Rattle.layout_context.specs.Worked.Lookups.{set_words, ligatures, alternates, backwards, on, glyph, list, glyphs, after}

abbrev pub asking : List Item → Buffer
asking items = record (list items) { flags = record { 0 = PRODUCE_UNSAFE_TO_CONCAT } }

abbrev pub after_in : Lookup → Buffer → Buffer
after_in l b = (looked_up 3 l (record { buffer = b; spot = record { at = 0; random = 1; left = 999; whole = 0 } })).buffer

abbrev pub Marks : List ℕ → ℕ → List Item → List ℕ → Type 0
Marks table place items flags = HoldsOf table [] (λ l. flags_of (after_in (on l place 0) (asking items)) ≡ flags)

pub record WorkedVainLigatures : Type 0 where
  -- up to the glyph that isn't the component
  pub another_glyph : Marks ligatures 0 (glyph 4 0 ∷ glyph 5 1 ∷ glyph 8 2 ∷ glyph 4 3 ∷ []) (0 ∷ 2 ∷ 2 ∷ 0 ∷ [])
  pub end_of_list : Marks ligatures 0 (glyph 4 0 ∷ glyph 5 1 ∷ []) (0 ∷ 2 ∷ [])
  -- the longer ligature looked at the third glyph in vain
  pub shorter_one : Marks ligatures 0 (glyph 5 0 ∷ glyph 6 1 ∷ glyph 8 2 ∷ []) (2 ∷ 2 ∷ [])
  pub not_asked : HoldsOf ligatures [] (λ l. flags_of (after (on l 0 0) (glyph 5 0 ∷ glyph 8 1 ∷ [])) ≡ 0 ∷ 0 ∷ [])

pub worked_vain_ligatures : WorkedVainLigatures
unfolding merge as_ligature
worked_vain_ligatures = record {
  another_glyph = λ l. refl;
  end_of_list = λ l. refl;
  shorter_one = λ l. refl;
  not_asked = λ l. refl;
}

pub record WorkedVainRules : Type 0 where
  pub context : Marks by_glyphs 16 (glyph 5 0 ∷ glyph 7 1 ∷ glyph 4 2 ∷ []) (2 ∷ 2 ∷ 0 ∷ [])
  -- from the first glyph to the one after it that isn't there
  pub glyph_after : Marks chained_lists 16 (glyph 9 0 ∷ glyph 5 1 ∷ glyph 7 2 ∷ []) (0 ∷ 2 ∷ 2 ∷ [])
  -- from a glyph before the one that isn't there
  pub glyph_before : Marks chained_lists 16 (glyph 3 0 ∷ glyph 3 1 ∷ glyph 4 2 ∷ glyph 5 3 ∷ glyph 6 4 ∷ []) (0 ∷ 2 ∷ 2 ∷ 2 ∷ 2 ∷ [])
  -- backwards nothing is marked where the glyph before isn't there
  pub backwards_before : Marks backwards 0 (glyph 4 0 ∷ glyph 5 1 ∷ []) (0 ∷ 0 ∷ [])

pub worked_vain_rules : WorkedVainRules
unfolding merge
worked_vain_rules = record {
  context = λ l. refl;
  glyph_after = λ l. refl;
  glyph_before = λ l. refl;
  backwards_before = λ l. refl;
}

-- a lookup that picks at random where the value is 255, and a glyph with that value
abbrev pub at_random : Lookup → Lookup
at_random l = record (on l 0 0) { mask = 0xFF0; random = true }

abbrev pub any_alternate : ℕ → ℕ → Item
any_alternate g cluster = record (glyph g cluster) { mask = 0xFF0 }

pub record WorkedRandom : Type 0 where
  -- 182605794 * 48271 is above 2 ^ 32
  pub products_are_cut : next_random 182605794 ≡ 1291390782
  -- 48271 is odd, and 48271 * 48271 % 2147483647 = 182605794 even
  pub second_then_first : HoldsOf alternates []
      (λ l. glyphs (after (at_random l) (any_alternate 5 0 ∷ any_alternate 5 1 ∷ [])) ≡ 41 ∷ 40 ∷ [])
  pub nothing_is_safe_to_break : HoldsOf alternates []
      (λ l. flags_of (after (at_random l) (glyph 4 0 ∷ any_alternate 5 1 ∷ glyph 4 2 ∷ [])) ≡ 0 ∷ 3 ∷ 3 ∷ [])
  -- another value picks as ever
  pub by_value : HoldsOf alternates [] (λ l. glyphs (after (at_random l) (glyph 5 0 ∷ [])) ≡ 40 ∷ [])
  pub no_alternate : HoldsOf (set_words 3 (0 ∷ [])) [] (λ l. glyphs (after (at_random l) (any_alternate 5 0 ∷ [])) ≡ 5 ∷ [])

pub worked_random : WorkedRandom
worked_random = record {
  products_are_cut = refl;
  second_then_first = λ l. refl;
  nothing_is_safe_to_break = λ l. refl;
  by_value = λ l. refl;
  no_alternate = λ l. refl;
}

abbrev pub with_serial : ℕ → List Item → Buffer
with_serial serial items = record (list items) { serial = serial }

pub record WorkedIds : Type 0 where
  pub one_after_the_other : HoldsOf ligatures []
      (λ l. ids_of (after (on l 0 0) (glyph 5 0 ∷ glyph 6 1 ∷ glyph 5 2 ∷ glyph 6 3 ∷ [])) ≡ 1 ∷ 2 ∷ [])
  -- a later lookup counts on
  pub counted_on : HoldsOf ligatures []
      (λ l. ids_of (after_in (on l 0 0) (with_serial 3 (glyph 5 0 ∷ glyph 6 1 ∷ []))) ≡ 4 ∷ [])
  pub after_the_seventh : HoldsOf ligatures []
      (λ l. ids_of (after_in (on l 0 0) (with_serial 7 (glyph 5 0 ∷ glyph 6 1 ∷ []))) ≡ 1 ∷ [])
  pub count_is_left : HoldsOf ligatures [] (λ l. (after_in (on l 0 0) (with_serial 3 (glyph 5 0 ∷ glyph 6 1 ∷ []))).serial ≡ 4)

pub worked_ids : WorkedIds
unfolding merge as_ligature
worked_ids = record {
  one_after_the_other = λ l. refl;
  counted_on = λ l. refl;
  after_the_seventh = λ l. refl;
  count_is_left = λ l. refl;
}

-- glyphs of a run whose lookups may still ask for so much
abbrev pub with_ops : ℕ → List Item → Buffer
with_ops ops items = record (list items) { max_ops = ops }

abbrev pub staged : Lookup → Buffer → Buffer
staged l = stage_made 3 (on l 0 0 ∷ [])

abbrev pub three_glyphs : List Item
three_glyphs = glyph 5 0 ∷ glyph 6 1 ∷ glyph 7 2 ∷ []

abbrev pub Leaves : (Lookup → Buffer) → List ℕ → ℕ → Type 0
Leaves made left ops = HoldsOf ligatures [] (λ l. (glyphs (made l) ≡ left) × ((made l).max_ops ≡ ops))

pub record WorkedOps : Type 0 where
  -- 24 for the walk over three glyphs; at the first 8 for the subtable, 4 and 3 for the ligatures
  pub charged : Leaves (λ l. staged l (with_ops 1000 three_glyphs)) (50 ∷ []) 961
  pub just_enough : Leaves (λ l. staged l (with_ops 39 three_glyphs)) (50 ∷ []) 0
  pub too_little : Leaves (λ l. staged l (with_ops 38 three_glyphs)) (5 ∷ 6 ∷ 7 ∷ []) 0
  pub too_little_for_the_walk : Leaves (λ l. staged l (with_ops 23 three_glyphs)) (5 ∷ 6 ∷ 7 ∷ []) 0
  pub another_glyph : Leaves (λ l. staged l (with_ops 1000 (glyph 9 0 ∷ []))) (9 ∷ []) 992
  -- the second stage has what the first one leaves: 41, and 8 go for its walk
  pub two_stages : Leaves (λ l. staged l (staged l (with_ops 80 three_glyphs))) (50 ∷ []) 33

pub worked_ops : WorkedOps
unfolding merge as_ligature
worked_ops = record {
  charged = λ l. (refl, refl);
  just_enough = λ l. (refl, refl);
  too_little = λ l. (refl, refl);
  too_little_for_the_walk = λ l. (refl, refl);
  another_glyph = λ l. (refl, refl);
  two_stages = λ l. (refl, refl);
}
