-- The rows of runs and glyphs by hand.
use Rattle.std.proofs.Common.{◌≡◌, true, false, List, refl, arith}
use Rattle.std.specs.Char.Utf16.{utf16_chars}
use Rattle.std.specs.Str.{chars}
use Rattle.shape_font.specs.Directory.{bytes_of}
use Rattle.c_runs.specs.Worked.Runs.{TextsWorked, UnitsWorked, NamesWorked, GlyphsWorked, WorkedRuns}
use Rattle.c_runs.specs.Worked.Wishes.{WishesWorked}
use Rattle.c_runs.specs.declared.plain.luthgarn_glyph.{luthgarn_glyph}
use Rattle.c_runs.specs.declared.plain.luthgarn_run.{luthgarn_run}

texts : TextsWorked
unfolding chars
texts = record {
  own = refl;
  text = refl;
  placed = record { before = omega arith; own = omega arith; after = omega arith; within = omega arith; direction = refl; level = refl };
  past_what_follows = λ is. absurd (omega (arith, is.after));
  backward = λ is. absurd (omega (arith, is.own));
  past_the_text = λ is. absurd (omega (arith, is.within));
  no_direction = λ is. absurd (let e : false ≡ true = is.direction in cc);
  no_level = λ is. absurd (let e : false ≡ true = is.level in cc);
}

units : UnitsWorked
unfolding utf16_chars
units = record {
  items = refl;
  from_the_run = refl;
  before = refl;
  after = refl;
  cut = refl;
  cut_after = refl;
  placed = record { before = omega arith; own = omega arith; after = omega arith; within = omega arith; direction = refl; level = refl };
  past_the_text = λ is. absurd (omega (arith, is.within));
}

names : NamesWorked
names = record {
  whole = refl;
  subtags = refl;
  all_room = refl;
  underscore = refl;
  single = refl;
  no_subtag = refl;
  hyphens = refl;
  last = refl;
  at_the_place = refl;
  before_it = refl;
  not_the_first = refl;
  past_the_name = refl;
  letter_removed = refl;
  two_letters_stay = refl;
  first_stays = refl;
}

wishes : WishesWorked
unfolding bytes_of
wishes = record {
  wish = refl;
  nothing_wished = λ _. refl;
  no_font = refl;
  room = record { count_is = refl; fits = λ _. (refl, refl); else_same = λ is. absurd (omega (arith, is)) };
  all_room = record { count_is = refl; fits = λ _. (refl, refl); else_same = λ is. absurd (omega (arith, is)) };
  no_room = record { count_is = refl; fits = λ is. absurd (omega (arith, is)); else_same = λ _. (refl, refl) };
  none = record { count_is = refl; fits = λ _. (refl, refl); else_same = λ is. absurd (omega (arith, is)) };
}

glyphs_of_two : (glyphs : luthgarn_run → List luthgarn_glyph) (g h i : luthgarn_glyph) → GlyphsWorked glyphs g h i
glyphs_of_two glyphs g h i = record {
  in_order = λ a b. rw (a, b) refl;
  ends = λ a b. rw (a, b) refl;
  numbers = refl;
}

pub worked_runs : WorkedRuns
worked_runs = record { texts = texts; units = units; names = names; wishes = wishes; glyphs = glyphs_of_two }
