-- Where the glyphs of a rule stand after a nested lookup, computed by hand: the glyph number, its place, how many items there
-- were and are, and the places of all.
use Rattle.std.specs.Prelude.{◌≡◌, [], ◌∷◌, true, false, refl, replicate}
use Rattle.layout_context.specs.Places.{renumbered, moved_end, is_too_long}

pub record WorkedPlaces : Type 0 where
  -- two glyphs of three became one: the second goes, the third moves
  pub ligature_of_two : renumbered 4 0 10 9 (4 ∷ 5 ∷ 6 ∷ []) ≡ 4 ∷ 5 ∷ []
  -- a mark stands between them and stays
  pub ligature_over_a_mark : renumbered 4 0 10 9 (4 ∷ 6 ∷ 7 ∷ []) ≡ 4 ∷ 6 ∷ []
  -- three became one
  pub ligature_of_all : renumbered 4 0 10 8 (4 ∷ 5 ∷ 6 ∷ []) ≡ 4 ∷ []
  -- the second became three: two more stand after it
  pub middle_multiplied : renumbered 3 1 8 10 (2 ∷ 3 ∷ 4 ∷ []) ≡ 2 ∷ 3 ∷ 4 ∷ 5 ∷ 6 ∷ []
  -- the last became three
  pub last_multiplied : renumbered 3 1 8 10 (2 ∷ 3 ∷ []) ≡ 2 ∷ 3 ∷ 4 ∷ 5 ∷ []
  -- the first became two, and the others stand farther away
  pub multiplied_before_a_mark : renumbered 2 0 9 10 (2 ∷ 4 ∷ 7 ∷ []) ≡ 2 ∷ 3 ∷ 5 ∷ 8 ∷ []
  -- the first was deleted: the place after it is left out
  pub first_deleted : renumbered 2 0 8 7 (2 ∷ 3 ∷ 4 ∷ []) ≡ 2 ∷ 3 ∷ []
  -- the last was deleted: there is none after it to leave out
  pub last_deleted : renumbered 4 2 8 7 (2 ∷ 3 ∷ 4 ∷ []) ≡ 2 ∷ 3 ∷ 4 ∷ []
  -- a ligature took two glyphs after what was matched as well
  pub beyond_the_match : renumbered 2 0 8 5 (2 ∷ 3 ∷ []) ≡ 2 ∷ []
  -- as many glyphs as before: nothing moves
  pub as_many : renumbered 2 0 8 8 (2 ∷ 3 ∷ []) ≡ 2 ∷ 3 ∷ []
  -- the first became two, and these one again
  pub multiplied_then_joined : renumbered 2 0 9 8 (renumbered 2 0 8 9 (2 ∷ 3 ∷ [])) ≡ 2 ∷ 3 ∷ []
  -- where the rule goes on, after a ligature of two
  pub end_moves_back : moved_end 4 10 9 7 ≡ 6
  -- after one glyph became three
  pub end_moves_on : moved_end 3 8 10 5 ≡ 7
  -- after a ligature that took more than what was matched
  pub end_stays_after_the_glyph : moved_end 2 8 5 4 ≡ 2
  -- after the only glyph was deleted
  pub all_deleted : moved_end 0 1 0 1 ≡ 0
  -- 62 glyphs and two more
  pub sixty_four : is_too_long 100 102 (replicate 62 0) ≡ false
  -- 62 glyphs and three more
  pub sixty_five : is_too_long 100 103 (replicate 62 0) ≡ true
  -- fewer glyphs are never too long
  pub fewer : is_too_long 100 90 (replicate 64 0) ≡ false

pub worked_places : WorkedPlaces
worked_places = record {
  ligature_of_two = refl;
  ligature_over_a_mark = refl;
  ligature_of_all = refl;
  middle_multiplied = refl;
  last_multiplied = refl;
  multiplied_before_a_mark = refl;
  first_deleted = refl;
  last_deleted = refl;
  beyond_the_match = refl;
  as_many = refl;
  multiplied_then_joined = refl;
  end_moves_back = refl;
  end_moves_on = refl;
  end_stays_after_the_glyph = refl;
  all_deleted = refl;
  sixty_four = refl;
  sixty_five = refl;
  fewer = refl;
}
