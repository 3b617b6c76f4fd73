-- Chained context, nested lookups after skipped marks and through extensions, levels, and nested lookups that delete, computed by hand.
use Rattle.std.specs.Prelude.{◌≡◌, ℕ, List, [], ◌∷◌, ◌++◌, Option, Some, None, true, refl}
use Rattle.std.specs.Option.{option_map}
use Rattle.shape_items.specs.Clusters.{merge}
use Rattle.shape_items.specs.Items.{Item}
use Rattle.shape_items.specs.Buffer.{Buffer}
use Rattle.layout_matching.specs.Found.{found_of}
use Rattle.layout_matching.specs.declared.found.Found.{Found}
use Rattle.layout_matching.specs.declared.lookup.Lookup.{Lookup}
use Rattle.layout_matching.specs.declared.spans.Span.{Span}
use Rattle.layout_substitution.specs.Replaced.{is_multiplied}
use Rattle.layout_context.specs.Stages.{looked_up}
use Rattle.layout_context.specs.Worked.Contexts.{HoldsOf, with_second}
use Rattle.layout_context.specs.Worked.Lookups.{words, lookup_words, none_for_one, context, on, glyph, off, mark, list, glyphs, after}

-- chained, format 1: 5 5 after 9 8, the nearest first, and before 7; the second lookup is applied to the second 5
abbrev pub chained_glyphs : List ℕ
chained_glyphs = with_second 52 (6 ∷ 0 ∷ 1 ∷ 8 ∷ 1 ∷ 8 ∷ 1 ∷ 14 ∷ 1 ∷ 1 ∷ 5 ∷ 1 ∷ 4 ∷ 2 ∷ 8 ∷ 9 ∷ 2 ∷ 5 ∷ 1 ∷ 7 ∷ 1 ∷ 1 ∷ 1 ∷ [])

-- 5 5, and the second lookup is applied to the second of them
abbrev pub second_of_two : List ℕ
second_of_two = with_second 42 (5 ∷ 0 ∷ 1 ∷ 8 ∷ 1 ∷ 8 ∷ 1 ∷ 14 ∷ 1 ∷ 1 ∷ 5 ∷ 1 ∷ 4 ∷ 2 ∷ 1 ∷ 5 ∷ 1 ∷ 1 ∷ [])

-- single substitution, three glyphs further, through an extension
abbrev pub extended : List ℕ
extended = words (7 ∷ 0 ∷ 1 ∷ 8 ∷ 1 ∷ 1 ∷ 0 ∷ 8 ∷ 1 ∷ 6 ∷ 3 ∷ 1 ∷ 1 ∷ 5 ∷ [])

-- 5 5, of which the first is deleted, and then the second
abbrev pub both_deleted : List ℕ
both_deleted = words (1 ∷ 0 ∷ 0 ∷ 0 ∷ 10 ∷ 2 ∷ 6 ∷ 46 ∷ [])
    ++ words (5 ∷ 0 ∷ 1 ∷ 8 ∷ 1 ∷ 8 ∷ 1 ∷ 14 ∷ 1 ∷ 1 ∷ 5 ∷ 1 ∷ 4 ∷ 2 ∷ 2 ∷ 5 ∷ 0 ∷ 1 ∷ 1 ∷ 1 ∷ []) ++ none_for_one

-- the same with the second first
abbrev pub both_deleted_backwards : List ℕ
both_deleted_backwards = words (1 ∷ 0 ∷ 0 ∷ 0 ∷ 10 ∷ 2 ∷ 6 ∷ 46 ∷ [])
    ++ words (5 ∷ 0 ∷ 1 ∷ 8 ∷ 1 ∷ 8 ∷ 1 ∷ 14 ∷ 1 ∷ 1 ∷ 5 ∷ 1 ∷ 4 ∷ 2 ∷ 2 ∷ 5 ∷ 1 ∷ 1 ∷ 0 ∷ 1 ∷ []) ++ none_for_one

-- with so many levels
abbrev pub after_levels : ℕ → Lookup → List Item → Buffer
after_levels levels l items =
    (looked_up levels l (record { buffer = list items; spot = record { at = 0; random = 1; left = 999; whole = 0 } })).buffer

-- where a rule stands whose first glyph is the third of the list
abbrev pub span_at_third : Lookup → List Item → Option Span
span_at_third l items = option_map (λ (f : Found). f.span) (found_of l items (record { at = 2; is_steady = true }))

pub record WorkedChainedGlyphs : Type 0 where
  pub nearest_first : HoldsOf chained_glyphs [] (λ l.
      span_at_third (on l 16 0) (glyph 9 0 ∷ glyph 8 1 ∷ glyph 5 2 ∷ glyph 5 3 ∷ glyph 7 4 ∷ [])
      ≡ Some (record { start = 0; last = 3; end = 5 }))
  pub in_text_order : HoldsOf chained_glyphs []
      (λ l. span_at_third (on l 16 0) (glyph 8 0 ∷ glyph 9 1 ∷ glyph 5 2 ∷ glyph 5 3 ∷ glyph 7 4 ∷ []) ≡ None)
  pub after_the_last : HoldsOf chained_glyphs []
      (λ l. span_at_third (on l 16 0) (glyph 9 0 ∷ glyph 8 1 ∷ glyph 5 2 ∷ glyph 5 3 ∷ glyph 6 4 ∷ []) ≡ None)

pub worked_chained_glyphs : WorkedChainedGlyphs
worked_chained_glyphs = record {
  nearest_first = λ l. refl;
  in_text_order = λ l. refl;
  after_the_last = λ l. refl;
}

pub record WorkedNested : Type 0 where
  pub after_a_skipped_mark : HoldsOf second_of_two []
      (λ l. glyphs (after (on l 16 8) (glyph 5 0 ∷ mark 9 1 ∷ glyph 5 2 ∷ [])) ≡ 5 ∷ 9 ∷ 30 ∷ 31 ∷ 32 ∷ [])
  pub through_an_extension : HoldsOf extended [] (λ l. glyphs (after (on l 0 0) (glyph 5 0 ∷ glyph 6 1 ∷ [])) ≡ 8 ∷ 6 ∷ [])
  pub no_level_left : HoldsOf context [] (λ l. glyphs (after_levels 1 (on l 16 0) (glyph 5 0 ∷ glyph 6 1 ∷ [])) ≡ 5 ∷ 6 ∷ [])
  pub one_level_left : HoldsOf context []
      (λ l. glyphs (after_levels 2 (on l 16 0) (glyph 5 0 ∷ glyph 6 1 ∷ [])) ≡ 30 ∷ 31 ∷ 32 ∷ 6 ∷ [])

pub worked_nested : WorkedNested
unfolding merge is_multiplied
worked_nested = record {
  after_a_skipped_mark = λ l. refl;
  through_an_extension = λ l. refl;
  no_level_left = λ l. refl;
  one_level_left = λ l. refl;
}

-- 5 5, over a mark: the first 5 is deleted, and then the third lookup, 12 for 9, is applied where the first 5 was
abbrev pub deleted_then_single : List ℕ
deleted_then_single = words (1 ∷ 0 ∷ 0 ∷ 0 ∷ 10 ∷ 3 ∷ 8 ∷ 48 ∷ 72 ∷ [])
    ++ words (5 ∷ 0 ∷ 1 ∷ 8 ∷ 1 ∷ 8 ∷ 1 ∷ 14 ∷ 1 ∷ 1 ∷ 5 ∷ 1 ∷ 4 ∷ 2 ∷ 2 ∷ 5 ∷ 0 ∷ 1 ∷ 0 ∷ 2 ∷ []) ++ none_for_one
    ++ lookup_words 1 (1 ∷ 6 ∷ 3 ∷ 1 ∷ 1 ∷ 9 ∷ [])

pub record WorkedDeletions : Type 0 where
  -- the mark, for which the lookup is off, stands at the place then
  pub off_glyph_is_reached : HoldsOf deleted_then_single []
      (λ l. glyphs (after (on l 18 8) (glyph 5 0 ∷ off (mark 9 1) ∷ glyph 5 2 ∷ [])) ≡ 12 ∷ 5 ∷ [])
  -- the second glyph is taken to be the one that went: its record does nothing
  pub second_is_missing : HoldsOf both_deleted [] (λ l. glyphs (after (on l 16 0) (glyph 5 0 ∷ glyph 5 1 ∷ [])) ≡ 5 ∷ [])
  pub last_first : HoldsOf both_deleted_backwards [] (λ l. glyphs (after (on l 16 0) (glyph 5 0 ∷ glyph 5 1 ∷ [])) ≡ [])

pub worked_deletions : WorkedDeletions
unfolding merge
worked_deletions = record {
  off_glyph_is_reached = λ l. refl;
  second_is_missing = λ l. refl;
  last_first = λ l. refl;
}
