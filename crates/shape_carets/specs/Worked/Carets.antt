-- The carets of texts, on small cases whose results are worked out by hand.
use Rattle.std.specs.Prelude.{◌≡◌, ℕ, true, false, ℤ, pos, negsuc, List, [], ◌∷◌, refl}
use Rattle.std.specs.Int.{int_wrap}
use Rattle.shape_common.specs.Wrapping.{◌+ʷ◌, neg_w}
use Rattle.shape_items.specs.declared.clusters.glyph_clusters.GlyphCluster.{GlyphCluster}
use Rattle.shape_carets.specs.Carets.{caret, carets_of}
use Rattle.shape_carets.specs.declared.caret.Caret.{Caret}

abbrev pub at : ℕ → ℤ → GlyphCluster
at cluster advance = record { cluster = cluster; start = 0; end = 0; advance = advance; unsafe_to_break = false }

abbrev pub forward : ℕ → ℕ → List ℕ → List GlyphCluster → List Caret
forward text_start text_end stops clusters = carets_of false text_start text_end stops clusters

abbrev pub backward : ℕ → ℕ → List ℕ → List GlyphCluster → List Caret
backward text_start text_end stops clusters = carets_of true text_start text_end stops clusters

-- three letters, 600, 500 and 250 wide
abbrev pub letters : List GlyphCluster
letters = at 0 (pos 600) ∷ at 1 (pos 500) ∷ at 2 (pos 250) ∷ []

-- a ligature of three letters, 1000 wide, and a letter of 300
abbrev pub ligature : List GlyphCluster
ligature = at 0 (pos 1000) ∷ at 3 (pos 300) ∷ []

pub record WorkedCarets : Type 0 where
  pub to_the_right : forward 0 3 [] letters ≡ caret 0 (pos 0) ∷ caret 1 (pos 600) ∷ caret 2 (pos 1100) ∷ caret 3 (pos 1350) ∷ []
  pub to_the_left : backward 0 3 [] letters ≡ caret 0 (pos 1350) ∷ caret 1 (pos 750) ∷ caret 2 (pos 250) ∷ caret 3 (pos 0) ∷ []
  pub downward : forward 0 2 [] (at 0 (negsuc 999) ∷ at 1 (negsuc 999) ∷ [])
      ≡ caret 0 (pos 0) ∷ caret 1 (negsuc 999) ∷ caret 2 (negsuc 1999) ∷ []
  pub no_width : forward 0 3 [] (at 0 (pos 600) ∷ at 1 (pos 0) ∷ at 2 (pos 500) ∷ [])
      ≡ caret 0 (pos 0) ∷ caret 1 (pos 600) ∷ caret 2 (pos 600) ∷ caret 3 (pos 1100) ∷ []
  pub no_text : forward 0 0 [] [] ≡ caret 0 (pos 0) ∷ []
  pub no_glyphs : forward 2 5 [] [] ≡ caret 2 (pos 0) ∷ caret 5 (pos 0) ∷ []
  pub text_before_the_first : forward 0 5 [] (at 3 (pos 10) ∷ []) ≡ caret 0 (pos 0) ∷ caret 3 (pos 0) ∷ caret 5 (pos 10) ∷ []
  pub a_line : forward 1 3 [] (at 1 (pos 500) ∷ at 2 (pos 250) ∷ []) ≡ caret 1 (pos 0) ∷ caret 2 (pos 500) ∷ caret 3 (pos 750) ∷ []
  pub not_past_the_one_before : forward 0 3 [] (at 0 (pos 10) ∷ at 2 (pos 20) ∷ at 1 (pos 40) ∷ [])
      ≡ caret 0 (pos 0) ∷ caret 2 (pos 10) ∷ caret 3 (pos 70) ∷ []
  pub past_the_end : forward 0 1 [] (at 0 (pos 10) ∷ at 1 (pos 20) ∷ []) ≡ caret 0 (pos 0) ∷ caret 1 (pos 30) ∷ []
  pub sums_wrap : forward 0 2 [] (at 0 (pos 2147483647) ∷ at 1 (pos 1) ∷ [])
      ≡ caret 0 (pos 0) ∷ caret 1 (pos 2147483647) ∷ caret 2 (negsuc 2147483647) ∷ []

pub worked_carets : WorkedCarets
unfolding ◌+ʷ◌ neg_w int_wrap
worked_carets = record {
  to_the_right = refl;
  to_the_left = refl;
  downward = refl;
  no_width = refl;
  no_text = refl;
  no_glyphs = refl;
  text_before_the_first = refl;
  a_line = refl;
  not_past_the_one_before = refl;
  past_the_end = refl;
  sums_wrap = refl;
}

pub record WorkedStops : Type 0 where
  pub none_inside : forward 0 4 [] ligature ≡ caret 0 (pos 0) ∷ caret 3 (pos 1000) ∷ caret 4 (pos 1300) ∷ []
  pub letters_of_a_ligature : forward 0 4 (1 ∷ 2 ∷ []) ligature
      ≡ caret 0 (pos 0) ∷ caret 1 (pos 333) ∷ caret 2 (pos 666) ∷ caret 3 (pos 1000) ∷ caret 4 (pos 1300) ∷ []
  pub running_to_the_left : backward 0 4 (1 ∷ 2 ∷ []) ligature
      ≡ caret 0 (pos 1300) ∷ caret 1 (pos 967) ∷ caret 2 (pos 634) ∷ caret 3 (pos 300) ∷ caret 4 (pos 0) ∷ []
  -- at the start of a cluster, at the ends of the text or outside
  pub others_say_nothing : forward 0 4 (0 ∷ 3 ∷ 4 ∷ 9 ∷ []) ligature ≡ caret 0 (pos 0) ∷ caret 3 (pos 1000) ∷ caret 4 (pos 1300) ∷ []
  pub in_the_last : forward 0 4 (1 ∷ []) (at 0 (pos 10) ∷ []) ≡ caret 0 (pos 0) ∷ caret 1 (pos 5) ∷ caret 4 (pos 10) ∷ []
  pub no_width : forward 0 2 (1 ∷ []) (at 0 (pos 0) ∷ []) ≡ caret 0 (pos 0) ∷ caret 1 (pos 0) ∷ caret 2 (pos 0) ∷ []

pub worked_stops : WorkedStops
unfolding ◌+ʷ◌ neg_w int_wrap
worked_stops = record {
  none_inside = refl;
  letters_of_a_ligature = refl;
  running_to_the_left = refl;
  others_say_nothing = refl;
  in_the_last = refl;
  no_width = refl;
}
