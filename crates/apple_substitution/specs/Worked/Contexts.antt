-- Contextual substitution, computed by hand on a table of 16-bit words.
use Rattle.std.specs.Prelude.{◌≡◌, ℕ, Bool, [], ◌∷◌, Some, None, true, false, refl}
use Rattle.shape_font.specs.Worked.Glyphs.{words}
use Rattle.shape_items.specs.Buffer.{Buffer}
use Rattle.apple_substitution.specs.Contextual.{Source, glyph_in, is_actionable, lookup_of, mark_after, transition}
use Rattle.apple_substitution.specs.Worked.Driving.{entry, glyph, glyphs_of, masks_of, text}
use Rattle.apple_substitution.specs.declared.contextual.Mark.{Mark}

-- the list of lookup tables begins at 20: table 0 has 50 in place of 5, table 1 has 60 in place of 6. From 44 on stand data of
-- entries: the current glyph by table 1, the marked one by table 0, both, and none
abbrev contexts : Source
contexts = record {
  morx = words (0 ∷ 0 ∷ 0 ∷ 0 ∷ 0 ∷ 0 ∷ 0 ∷ 0 ∷ 0 ∷ 20 ∷
      0 ∷ 8 ∷ 0 ∷ 16 ∷
      8 ∷ 5 ∷ 1 ∷ 50 ∷
      8 ∷ 6 ∷ 1 ∷ 60 ∷
      0xFFFF ∷ 1 ∷ 0 ∷ 0xFFFF ∷ 0 ∷ 1 ∷ 0xFFFF ∷ 0xFFFF ∷ []);
  gdef = [];
  start = 0;
  glyphs = 100;
}

abbrev mark_at : ℕ → Bool → Mark
mark_at place is_set = record { place = place; is_set = is_set }

abbrev acts : ℕ → Bool → Bool → Bool
acts «data» ends is_set = is_actionable contexts ends (mark_at 0 is_set) (entry 0 0 «data»)

-- glyphs 5 and 6 after an entry with data at a place; the first one is marked, or none
abbrev after : ℕ → ℕ → Bool → ℕ → Buffer
after «data» at is_set left = (transition contexts (entry 0 0 «data»)
    (record { buffer = text (glyph 5 0 ∷ glyph 6 1 ∷ []) left; at = at; memory = mark_at 0 is_set })).buffer

pub record WorkedContexts : Type 0 where
  pub second_table : lookup_of contexts.morx 0 1 ≡ 36
  pub in_the_table : glyph_in contexts 1 6 ≡ Some 60
  pub not_in_the_table : glyph_in contexts 1 5 ≡ None
  pub no_table : glyph_in contexts 0xFFFF 6 ≡ None
  pub on_the_current : acts 44 false false ≡ true
  pub on_the_mark : acts 48 false false ≡ true
  pub on_none : acts 56 false true ≡ false
  -- at the end of the text, without a mark and with one
  pub idle : acts 52 true false ≡ false
  pub marked_at_the_end : acts 52 true true ≡ true
  pub marks : mark_after (entry 0 0x8000 0) 2 (mark_at 1 true) ≡ mark_at 2 true
  pub does_not_mark : mark_after (entry 0 0x7FFF 0) 2 (mark_at 1 true) ≡ mark_at 1 true

pub worked_contexts : WorkedContexts
worked_contexts = record {
  second_table = refl;
  in_the_table = refl;
  not_in_the_table = refl;
  no_table = refl;
  on_the_current = refl;
  on_the_mark = refl;
  on_none = refl;
  idle = refl;
  marked_at_the_end = refl;
  marks = refl;
  does_not_mark = refl;
}

pub record WorkedCurrent : Type 0 where
  pub current : glyphs_of (after 44 1 false 40) ≡ 5 ∷ 60 ∷ []
  pub current_is_safe : masks_of (after 44 1 true 40) ≡ 0 ∷ 0 ∷ []
  -- before any mark the first glyph counts as marked
  pub first : glyphs_of (after 48 1 false 40) ≡ 50 ∷ 6 ∷ []
  pub idle_at_the_end : glyphs_of (after 52 2 false 40) ≡ 5 ∷ 6 ∷ []

pub worked_current : WorkedCurrent
worked_current = record {
  current = refl;
  current_is_safe = refl;
  first = refl;
  idle_at_the_end = refl;
}

pub record WorkedBoth : Type 0 where
  pub both : glyphs_of (after 52 1 true 40) ≡ 50 ∷ 60 ∷ []
  pub both_are_unsafe : masks_of (after 52 1 true 40) ≡ 0 ∷ 3 ∷ []
  -- at the end of the text the last glyph is the current one, if one was marked
  pub at_the_end : glyphs_of (after 52 2 true 40) ≡ 50 ∷ 60 ∷ []

pub worked_both : WorkedBoth
worked_both = record {
  both = refl;
  both_are_unsafe = refl;
  at_the_end = refl;
}

pub record WorkedMarkCharges : Type 0 where
  -- two glyphs from the marked one up to the current one
  pub charged : (after 52 1 true 40).max_ops ≡ 38
  pub suffices : glyphs_of (after 52 1 true 2) ≡ 50 ∷ 60 ∷ []
  pub too_little : glyphs_of (after 52 1 true 1) ≡ 5 ∷ 60 ∷ []
  pub nothing_left : (after 52 1 true 1).max_ops ≡ 0

pub worked_mark_charges : WorkedMarkCharges
worked_mark_charges = record {
  charged = refl;
  suffices = refl;
  too_little = refl;
  nothing_left = refl;
}
