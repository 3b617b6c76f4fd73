-- Rearrangement, computed by hand.
use Rattle.std.specs.Prelude.{◌≡◌, ℕ, List, [], ◌∷◌, true, false, length, map, refl}
use Rattle.shape_common.specs.declared.text_types.BufferClusterLevel.TheVariants.{Characters}
use Rattle.shape_items.specs.Buffer.{Buffer}
use Rattle.shape_items.specs.Clusters.{clusters, merge}
use Rattle.shape_items.specs.Items.{Item}
use Rattle.apple_substitution.specs.Driver.{Spot}
use Rattle.apple_substitution.specs.Edits.{merged_onwards}
use Rattle.apple_substitution.specs.Rearrangement.{is_actionable, is_fitting, marks_of, moved, transition}
use Rattle.apple_substitution.specs.Worked.Driving.{entry, glyph, glyphs_of, masks_of, text}
use Rattle.apple_substitution.specs.declared.rearrangement.Marks.{Marks}

abbrev marked : ℕ → ℕ → Marks
marked first end = record { first = first; end = end }

-- what a verb makes of a span: A, B, C and D are 1 to 4, and what stays between is 9
abbrev Moves : ℕ → List ℕ → List ℕ → Type 0
Moves verb span made = glyphs_of (moved (entry 0 verb 0) (marked 0 (length span)) (text (map (λ g. glyph g 0) span) 40)) ≡ made

pub record WorkedVerbs : Type 0 where
  pub verb_0 : Moves 0 (1 ∷ 9 ∷ 4 ∷ []) (1 ∷ 9 ∷ 4 ∷ [])
  pub verb_1 : Moves 1 (1 ∷ 9 ∷ []) (9 ∷ 1 ∷ [])
  pub verb_2 : Moves 2 (9 ∷ 4 ∷ []) (4 ∷ 9 ∷ [])
  pub verb_3 : Moves 3 (1 ∷ 9 ∷ 4 ∷ []) (4 ∷ 9 ∷ 1 ∷ [])
  pub verb_4 : Moves 4 (1 ∷ 2 ∷ 9 ∷ []) (9 ∷ 1 ∷ 2 ∷ [])
  pub verb_5 : Moves 5 (1 ∷ 2 ∷ 9 ∷ []) (9 ∷ 2 ∷ 1 ∷ [])
  pub verb_6 : Moves 6 (9 ∷ 3 ∷ 4 ∷ []) (3 ∷ 4 ∷ 9 ∷ [])
  pub verb_7 : Moves 7 (9 ∷ 3 ∷ 4 ∷ []) (4 ∷ 3 ∷ 9 ∷ [])
  pub verb_8 : Moves 8 (1 ∷ 9 ∷ 3 ∷ 4 ∷ []) (3 ∷ 4 ∷ 9 ∷ 1 ∷ [])
  pub verb_9 : Moves 9 (1 ∷ 9 ∷ 3 ∷ 4 ∷ []) (4 ∷ 3 ∷ 9 ∷ 1 ∷ [])
  pub verb_10 : Moves 10 (1 ∷ 2 ∷ 9 ∷ 4 ∷ []) (4 ∷ 9 ∷ 1 ∷ 2 ∷ [])
  pub verb_11 : Moves 11 (1 ∷ 2 ∷ 9 ∷ 4 ∷ []) (4 ∷ 9 ∷ 2 ∷ 1 ∷ [])
  pub verb_12 : Moves 12 (1 ∷ 2 ∷ 9 ∷ 3 ∷ 4 ∷ []) (3 ∷ 4 ∷ 9 ∷ 1 ∷ 2 ∷ [])
  pub verb_13 : Moves 13 (1 ∷ 2 ∷ 9 ∷ 3 ∷ 4 ∷ []) (3 ∷ 4 ∷ 9 ∷ 2 ∷ 1 ∷ [])
  pub verb_14 : Moves 14 (1 ∷ 2 ∷ 9 ∷ 3 ∷ 4 ∷ []) (4 ∷ 3 ∷ 9 ∷ 1 ∷ 2 ∷ [])
  pub verb_15 : Moves 15 (1 ∷ 2 ∷ 9 ∷ 3 ∷ 4 ∷ []) (4 ∷ 3 ∷ 9 ∷ 2 ∷ 1 ∷ [])
  -- the other bits of the flags say nothing of it
  pub other_flags : Moves 0x1FF1 (1 ∷ 9 ∷ []) (9 ∷ 1 ∷ [])

pub worked_verbs : WorkedVerbs
worked_verbs = record {
  verb_0 = refl;
  verb_1 = refl;
  verb_2 = refl;
  verb_3 = refl;
  verb_4 = refl;
  verb_5 = refl;
  verb_6 = refl;
  verb_7 = refl;
  verb_8 = refl;
  verb_9 = refl;
  verb_10 = refl;
  verb_11 = refl;
  verb_12 = refl;
  verb_13 = refl;
  verb_14 = refl;
  verb_15 = refl;
  other_flags = refl;
}

-- at the last of four glyphs, of which the second one is marked as the first of a span
abbrev at_the_last : ℕ → ℕ → Spot Marks
at_the_last flags left = transition (entry 0 flags 0) (record {
  buffer = text (glyph 8 0 ∷ glyph 1 1 ∷ glyph 9 2 ∷ glyph 4 3 ∷ []) left;
  at = 3;
  memory = marked 1 0;
})

pub record WorkedSpans : Type 0 where
  pub first_marked : marks_of (entry 0 0x8000 0) 2 5 (marked 1 4) ≡ marked 2 4
  pub last_marked : marks_of (entry 0 0x2000 0) 2 5 (marked 1 4) ≡ marked 1 3
  pub last_at_the_end : marks_of (entry 0 0x2000 0) 5 5 (marked 1 4) ≡ marked 1 5
  pub none_marked : marks_of (entry 0 0x5FFF 0) 2 5 (marked 1 4) ≡ marked 1 4
  pub acts : is_actionable false (marked 0 1) (entry 0 1 0) ≡ true
  pub no_verb : is_actionable false (marked 0 1) (entry 0 0xFFF0 0) ≡ false
  pub no_span : is_actionable false (marked 1 1) (entry 0 1 0) ≡ false
  pub fits : is_fitting (entry 0 3 0) (marked 0 2) 2 ≡ true
  pub too_short : is_fitting (entry 0 3 0) (marked 0 1) 2 ≡ false
  pub longest : is_fitting (entry 0 3 0) (marked 1 65) 100 ≡ true
  pub too_long : is_fitting (entry 0 3 0) (marked 1 66) 100 ≡ false
  pub past_the_list : is_fitting (entry 0 3 0) (marked 0 3) 2 ≡ false
  -- the span is marked, merges for three, and its ends change sides
  pub rearranged : glyphs_of (at_the_last 0x2003 40).buffer ≡ 8 ∷ 4 ∷ 9 ∷ 1 ∷ []
  pub merged : clusters (at_the_last 0x2003 40).buffer.items ≡ 0 ∷ 1 ∷ 1 ∷ 1 ∷ []
  pub charged : (at_the_last 0x2003 40).buffer.max_ops ≡ 37
  pub remembered : (at_the_last 0x2003 40).memory ≡ marked 1 4
  pub stays_there : (at_the_last 0x2003 40).at ≡ 3
  pub suffices : glyphs_of (at_the_last 0x2003 3).buffer ≡ 8 ∷ 4 ∷ 9 ∷ 1 ∷ []
  pub too_little : glyphs_of (at_the_last 0x2003 2).buffer ≡ 8 ∷ 1 ∷ 9 ∷ 4 ∷ []
  pub nothing_left : (at_the_last 0x2003 2).buffer.max_ops ≡ 0

pub worked_spans : WorkedSpans
unfolding merge
worked_spans = record {
  first_marked = refl;
  last_marked = refl;
  last_at_the_end = refl;
  none_marked = refl;
  acts = refl;
  no_verb = refl;
  no_span = refl;
  fits = refl;
  too_short = refl;
  longest = refl;
  too_long = refl;
  past_the_list = refl;
  rearranged = refl;
  merged = refl;
  charged = refl;
  remembered = refl;
  stays_there = refl;
  suffices = refl;
  too_little = refl;
  nothing_left = refl;
}

-- five glyphs in these clusters
abbrev five : ℕ → ℕ → ℕ → ℕ → ℕ → List Item
five a b c d e = glyph 5 a ∷ glyph 8 b ∷ glyph 1 c ∷ glyph 9 d ∷ glyph 4 e ∷ []

-- a list after an entry at one of its glyphs
abbrev after : List Item → ℕ → ℕ → Marks → Buffer
after items flags at marks = (transition (entry 0 flags 0) (record { buffer = text items 40; at = at; memory = marks })).buffer

-- four glyphs at level CHARACTERS
abbrev at_characters : Buffer
at_characters = record (text (glyph 8 3 ∷ glyph 1 3 ∷ glyph 4 0 ∷ glyph 9 0 ∷ []) 40) { cluster_level = Characters }

pub record WorkedMerges : Type 0 where
  -- the glyph before the span is in the cluster of its first one, and stays
  pub before_stays : clusters (after (five 4 2 2 0 0) 0x2003 4 (marked 2 0)).items ≡ 4 ∷ 2 ∷ 0 ∷ 0 ∷ 0 ∷ []
  pub ends_change : glyphs_of (after (five 4 2 2 0 0) 0x2003 4 (marked 2 0)) ≡ 5 ∷ 8 ∷ 4 ∷ 9 ∷ 1 ∷ []
  -- the glyph after the span is in the cluster of its last one, and merges
  pub after_merges : clusters (after (five 0 1 2 2 4) 0x2003 2 (marked 1 0)).items ≡ 0 ∷ 1 ∷ 1 ∷ 1 ∷ 4 ∷ []
  -- but not if that one is the least
  pub after_stays : clusters (after (five 4 2 0 0 0) 0x2003 2 (marked 1 0)).items ≡ 4 ∷ 0 ∷ 0 ∷ 0 ∷ 0 ∷ []
  -- the current glyph is after the span: it merges, and what is before the span stays
  pub current_merges : clusters (after (five 3 3 2 1 0) 3 3 (marked 1 3)).items ≡ 3 ∷ 1 ∷ 1 ∷ 1 ∷ 0 ∷ []
  -- at level CHARACTERS no cluster changes: what isn't in the least one is unsafe to break and to concat
  pub characters : clusters (merged_onwards 1 3 at_characters).items ≡ 3 ∷ 3 ∷ 0 ∷ 0 ∷ []
  pub marks : masks_of (merged_onwards 1 3 at_characters) ≡ 0 ∷ 3 ∷ 0 ∷ 0 ∷ []
  -- one glyph alone stays, and so does a list that is shorter
  pub one_alone : clusters (merged_onwards 1 2 (text (glyph 8 2 ∷ glyph 1 2 ∷ glyph 4 2 ∷ []) 40)).items ≡ 2 ∷ 2 ∷ 2 ∷ []
  pub past_the_end : clusters (merged_onwards 0 3 (text (glyph 8 2 ∷ glyph 1 0 ∷ []) 40)).items ≡ 2 ∷ 0 ∷ []

pub worked_merges : WorkedMerges
unfolding merge
worked_merges = record {
  before_stays = refl;
  ends_change = refl;
  after_merges = refl;
  after_stays = refl;
  current_merges = refl;
  characters = refl;
  marks = refl;
  one_alone = refl;
  past_the_end = refl;
}
