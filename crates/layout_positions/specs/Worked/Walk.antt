-- Lookups over lines, on tables that were read by hand.
use Rattle.std.specs.Prelude.{◌≡◌, ℕ, ℤ, pos, negsuc, List, [], ◌∷◌, ◌++◌, Some, None, true, false, refl}
use Rattle.shape_common.specs.Positions.{zero_position}
use Rattle.std.specs.Int.{int_wrap}
use Rattle.std.specs.Int.Count.{ones}
use Rattle.shape_common.specs.Wrapping.{◌+ʷ◌, ◌-ʷ◌, neg_w}
use Rattle.shape_common.specs.declared.text_types.Direction.TheVariants.{LeftToRight}
use Rattle.shape_font.specs.Bytes.{i16_of}
use Rattle.shape_items.specs.Buffer.{Buffer}
use Rattle.shape_items.specs.Items.{Item}
use Rattle.layout_matching.specs.declared.lookup.Lookup.{Lookup}
use Rattle.layout_positions.specs.Sizes.{point}
use Rattle.layout_positions.specs.Attachment.{MOST_LINKS}
use Rattle.layout_positions.specs.Marks.{mark_position}
use Rattle.layout_positions.specs.Nested.{LEVELS, nested_placed}
use Rattle.layout_positions.specs.Subtables.{Placing}
use Rattle.layout_positions.specs.Uncovered.{subtable_lists}
use Rattle.layout_positions.specs.Walk.{Budgeted, none_seen, budgeted, settled_up, positioned, tried, unattached}
use Rattle.layout_positions.specs.Worked.Lines.{base, mark, component_of, line, advances, offsets, chains, masks}
use Rattle.layout_positions.specs.Worked.Cursive.{joins, joins_by, followed}
use Rattle.layout_positions.specs.Worked.Marks.{on_bases}
use Rattle.layout_positions.specs.Worked.Pairs.{single_one, single_two, pairs_one, IsLookup}

-- a lookup of this type with one subtable, and one with two
abbrev pub one_subtable : ℕ → List ℕ → List ℕ
one_subtable kind subtable = 0 ∷ kind ∷ 0 ∷ 0 ∷ 0 ∷ 1 ∷ 0 ∷ 8 ∷ subtable

abbrev pub two_subtables : List ℕ
two_subtables = 0 ∷ 1 ∷ 0 ∷ 0 ∷ 0 ∷ 2 ∷ 0 ∷ 10 ∷ 0 ∷ 28 ∷ (single_one ++ single_two)

-- a subtable far away
abbrev pub far : List ℕ
far = one_subtable 9 (0 ∷ 1 ∷ 0 ∷ 1 ∷ 0 ∷ 0 ∷ 0 ∷ 8 ∷ single_one)

-- a table with two lookups: by the rule of the first one, at 16, lookup 1 is applied to a glyph of some glyphs 2 or 3
abbrev two_lookups : ℕ → List ℕ → List ℕ
two_lookups second rule = 0 ∷ 1 ∷ 0 ∷ 0 ∷ 0 ∷ 0 ∷ 0 ∷ 0 ∷ 0 ∷ 10 ∷ 0 ∷ 2 ∷ 0 ∷ 6 ∷ 0 ∷ second
    ∷ one_subtable 7 (rule ++ 0 ∷ 1 ∷ 0 ∷ 2 ∷ 0 ∷ 2 ∷ 0 ∷ 3 ∷ one_subtable 1 single_one)

-- to the second of two of them, to the first, and to the third of three
abbrev pub in_context : List ℕ
in_context = two_lookups 36 (0 ∷ 3 ∷ 0 ∷ 2 ∷ 0 ∷ 1 ∷ 0 ∷ 14 ∷ 0 ∷ 14 ∷ 0 ∷ 1 ∷ 0 ∷ 1 ∷ [])

abbrev first_in_context : List ℕ
first_in_context = two_lookups 36 (0 ∷ 3 ∷ 0 ∷ 2 ∷ 0 ∷ 1 ∷ 0 ∷ 14 ∷ 0 ∷ 14 ∷ 0 ∷ 0 ∷ 0 ∷ 1 ∷ [])

abbrev third_in_context : List ℕ
third_in_context = two_lookups 38 (0 ∷ 3 ∷ 0 ∷ 3 ∷ 0 ∷ 1 ∷ 0 ∷ 16 ∷ 0 ∷ 16 ∷ 0 ∷ 16 ∷ 0 ∷ 2 ∷ 0 ∷ 1 ∷ [])

-- to both of two, and to a third that the rule doesn't have
abbrev pub each_in_context : List ℕ
each_in_context = two_lookups 40 (0 ∷ 3 ∷ 0 ∷ 2 ∷ 0 ∷ 2 ∷ 0 ∷ 18 ∷ 0 ∷ 18 ∷ 0 ∷ 0 ∷ 0 ∷ 1 ∷ 0 ∷ 1 ∷ 0 ∷ 1 ∷ [])

abbrev pub past_context : List ℕ
past_context = two_lookups 36 (0 ∷ 3 ∷ 0 ∷ 2 ∷ 0 ∷ 1 ∷ 0 ∷ 14 ∷ 0 ∷ 14 ∷ 0 ∷ 2 ∷ 0 ∷ 1 ∷ [])

abbrev pub over : Lookup → List Item → Buffer
over l items = positioned (l ∷ []) (line LeftToRight items)

-- what is unsafe to concat is asked for
abbrev asking : List Item → Buffer
asking items = record (line LeftToRight items) { flags = record { 0 = 64 } }

-- the same glyph, for which the lookup is off
abbrev pub off : ℕ → ℕ → Item
off glyph cluster = record (base glyph cluster) { mask = 8 }

abbrev pub still : ℤ × ℤ
still = (pos 0, pos 0)

-- glyphs that the rule matches, at the first of them, with so much left
abbrev named_in : List Item → Lookup → ℕ → Placing
named_in items l left = nested_placed LEVELS l 0 left none_seen (line LeftToRight items)

abbrev named : Lookup → ℕ → Placing
named = named_in (base 2 0 ∷ base 3 1 ∷ [])

-- a mark, or another glyph, on a base, with so much left
abbrev sought : Lookup → Item → ℕ → Placing
sought l item left = nested_placed LEVELS l 1 left none_seen (line LeftToRight (base 2 0 ∷ item ∷ []))

-- a glyph that is to follow the one before it, and follows the one after it, with so much left
abbrev turned_with : Lookup → ℕ → Placing
turned_with l left = nested_placed LEVELS l 1 left none_seen (followed LeftToRight)

pub record WorkedBounds : Type 0 where
  -- a lookup of the plan and 64 levels below it
  pub levels : LEVELS ≡ 65
  pub links : MOST_LINKS ≡ 64
  -- a mark is attached as one
  pub as_a_mark : (mark_position 1 0 (point (pos 0) (pos 0)) (point (pos 0) (pos 0)) zero_position).attach_type ≡ 1
  -- what the stages have left, and what the lookups leave
  pub begun : (b : Buffer) → (budgeted b).left ≡ b.max_ops
  pub ended : (s : Budgeted) → settled_up s ≡ record s.buffer { max_ops = s.left }
  pub none_is_attached_at_first : unattached (record zero_position { attach_chain = pos 1; attach_type = 2 }) ≡ zero_position

pub worked_bounds : WorkedBounds
worked_bounds = record {
  levels = refl;
  links = refl;
  as_a_mark = refl;
  begun = λ b. refl;
  ended = λ s. refl;
  none_is_attached_at_first = refl;
}

-- a lookup with these flags over these bytes of `GPOS`, at a place
abbrev over_table : List ℕ → ℕ → ℕ → Lookup → Lookup
over_table table flags place l = record l {
  table = record l.table { now = table };
  place = place;
  flags = flags;
  mask = 16;
  auto_zwj = true;
  per_syllable = false;
  positioning = true;
  device_work = 0;
  scale = None;
}

abbrev pub Over : List ℕ → ℕ → ℕ → (Lookup → Type 0) → Type 0
Over table flags place fact = (l : Lookup) → fact (over_table table flags place l)

pub record WorkedWalk : Type 0 where
  pub each_glyph : Over (one_subtable 1 single_one) 0 0
      (λ l. offsets (over l (base 2 0 ∷ base 7 1 ∷ base 3 2 ∷ [])) ≡ (pos 10, pos 0) ∷ still ∷ (pos 10, pos 0) ∷ [])
  pub where_it_is_on : Over (one_subtable 1 single_one) 0 0
      (λ l. offsets (over l (base 2 0 ∷ off 3 1 ∷ [])) ≡ (pos 10, pos 0) ∷ still ∷ [])
  pub first_subtable_alone : Over two_subtables 0 0 (λ l. offsets (over l (base 2 0 ∷ [])) ≡ (pos 10, pos 0) ∷ [])
  pub far_away : Over far 0 0 (λ l. offsets (over l (base 2 0 ∷ [])) ≡ (pos 10, pos 0) ∷ [])
  pub pair_after_pair : Over (one_subtable 2 pairs_one) 0 0
      (λ l. advances (over l (base 2 0 ∷ base 3 1 ∷ base 3 2 ∷ [])) ≡ (pos 550, pos 0) ∷ (pos 530, pos 0) ∷ (pos 600, pos 0) ∷ [])
  pub marks_on_one_base : Over (one_subtable 4 on_bases) 0 0
      (λ l. chains (over l (base 2 0 ∷ mark 8 0 ∷ mark 8 0 ∷ mark 8 0 ∷ [])) ≡ pos 0 ∷ negsuc 0 ∷ negsuc 1 ∷ negsuc 2 ∷ [])
  -- the search for the base looks at one place
  pub search_for_a_base : Over (one_subtable 4 on_bases) 0 0 (λ l. (sought l (mark 8 0) 5).left ≡ 4)
  pub just_enough_for_a_search : Over (one_subtable 4 on_bases) 0 0 (λ l. (sought l (mark 8 0) 1).next ≡ Some 2)
  pub too_little_for_a_search : Over (one_subtable 4 on_bases) 0 0 (λ l. chains (sought l (mark 8 0) 0).buffer ≡ pos 0 ∷ pos 0 ∷ [])
  pub no_search : Over (one_subtable 4 on_bases) 0 0 (λ l. (sought l (mark 7 0) 5).left ≡ 5)
  -- two for the one link that is turned; it is turned if anything is left
  pub turned_link : Over (one_subtable 3 joins) 0 0 (λ l. (turned_with l 5).left ≡ 3)
  pub last_link : Over (one_subtable 3 joins) 0 0 (λ l. (turned_with l 1).left ≡ 0)
  pub last_link_turned : Over (one_subtable 3 joins) 0 0 (λ l. chains (turned_with l 1).buffer ≡ pos 0 ∷ negsuc 0 ∷ negsuc 0 ∷ [])
  pub no_more_links : Over (one_subtable 3 joins) 0 0 (λ l. chains (turned_with l 0).buffer ≡ pos 0 ∷ pos 1 ∷ pos 0 ∷ [])
  pub not_joined : Over (one_subtable 3 joins) 0 0 (λ l. (turned_with l 0).next ≡ None)
  -- by the flag RIGHT_TO_LEFT the first one follows the second one, and no link is turned
  pub no_turned_link : Over (one_subtable 3 joins) 1 0 (λ l. (turned_with l 5).left ≡ 5)
  pub no_link_of_another_format : Over (one_subtable 3 (joins_by 2)) 0 0 (λ l. (turned_with l 5).left ≡ 5)
  pub mark_on_the_first_component : Over (one_subtable 4 on_bases) 0 0
      (λ l. chains (over l (component_of 0 (base 2 0) ∷ component_of 1 (base 3 0) ∷ mark 8 0 ∷ [])) ≡ pos 0 ∷ pos 0 ∷ negsuc 1 ∷ [])
  pub mark_on_the_listed_component : Over (one_subtable 4 on_bases) 0 0
      (λ l. chains (over l (component_of 0 (base 3 0) ∷ component_of 1 (base 2 0) ∷ mark 8 0 ∷ [])) ≡ pos 0 ∷ pos 0 ∷ negsuc 0 ∷ [])
  pub named_glyph_alone : Over in_context 0 16
      (λ l. offsets (over l (base 2 0 ∷ base 3 1 ∷ base 7 2 ∷ [])) ≡ still ∷ (pos 10, pos 0) ∷ still ∷ [])
  -- at 0 glyph 7 is looked at in vain, at 2 the end of the list
  pub in_vain : Over in_context 0 16
      (λ l. masks (positioned (l ∷ []) (asking (base 2 0 ∷ base 7 1 ∷ base 7 2 ∷ base 3 3 ∷ []))) ≡ 18 ∷ 18 ∷ 16 ∷ 18 ∷ [])
  pub in_vain_unasked : Over in_context 0 16
      (λ l. masks (over l (base 2 0 ∷ base 7 1 ∷ base 7 2 ∷ base 3 3 ∷ [])) ≡ 16 ∷ 16 ∷ 16 ∷ 16 ∷ [])
  pub out_of_context : Over in_context 0 16
      (λ l. offsets (over l (base 2 0 ∷ base 7 1 ∷ base 3 2 ∷ [])) ≡ still ∷ still ∷ still ∷ [])
  -- 32 for a lookup that is named, 16 for its one subtable, since it is plain, and 8 since that begins with the glyph
  pub first_is_named : Over first_in_context 0 16 (λ l. (named l 60).left ≡ 4)
  -- and 8 for each glyph before the one that is named
  pub one_is_named : Over in_context 0 16 (λ l. (named l 68).left ≡ 4)
  pub third_is_named : Over third_in_context 0 16 (λ l. (named_in (base 2 0 ∷ base 3 1 ∷ base 2 2 ∷ []) l 76).left ≡ 4)
  -- 56 for the first record, and 64 for the second
  pub each_is_named : Over each_in_context 0 16 (λ l. (named l 124).left ≡ 4)
  pub none_there_is_named : Over past_context 0 16 (λ l. (named l 10).left ≡ 10)
  pub none_may_be_named : Over in_context 0 16 (λ l. offsets (named l 0).buffer ≡ still ∷ still ∷ [])
  -- where too little is left for a rule, nothing is
  pub too_little_for_a_rule : Over in_context 0 16 (λ l.
      (tried l (record { buffer = line LeftToRight (base 2 0 ∷ base 2 1 ∷ []); at = 0; seen = none_seen; left = 5 })).left ≡ 0)
  pub too_little_is_left : Over in_context 0 16 (λ l. offsets (named l 63).buffer ≡ still ∷ still ∷ [])
  pub nothing_is_left_then : Over in_context 0 16 (λ l. (named l 63).left ≡ 0)
  pub just_enough_is_left : Over in_context 0 16 (λ l. offsets (named l 64).buffer ≡ still ∷ (pos 10, pos 0) ∷ [])
  pub goes_on_after_the_rule : Over in_context 0 16 (λ l. (named l 68).next ≡ Some 2)
  pub unsafe_in_the_rule : Over in_context 0 16 (λ l. masks (named l 68).buffer ≡ 16 ∷ 19 ∷ [])
  -- a subtable has a list of its glyphs, a rule of format 3 one of its first glyph
  pub listed : (l : Lookup) → IsLookup l (one_subtable 1 single_one) 0 → subtable_lists l (record { kind = 1; start = 8 }) 2 ≡ true
  pub not_listed : (l : Lookup) → IsLookup l (one_subtable 1 single_one) 0 → subtable_lists l (record { kind = 1; start = 8 }) 7 ≡ false
  pub first_of_a_rule : (l : Lookup) → IsLookup l in_context 0 → subtable_lists l (record { kind = 7; start = 24 }) 2 ≡ true
  pub not_first_of_a_rule : (l : Lookup) → IsLookup l in_context 0 → subtable_lists l (record { kind = 7; start = 24 }) 7 ≡ false

pub worked_walk : WorkedWalk
unfolding i16_of ◌+ʷ◌ ◌-ʷ◌ neg_w int_wrap ones
worked_walk = record {
  each_glyph = λ l. refl;
  where_it_is_on = λ l. refl;
  first_subtable_alone = λ l. refl;
  far_away = λ l. refl;
  pair_after_pair = λ l. refl;
  marks_on_one_base = λ l. refl;
  search_for_a_base = λ l. refl;
  just_enough_for_a_search = λ l. refl;
  too_little_for_a_search = λ l. refl;
  no_search = λ l. refl;
  turned_link = λ l. refl;
  last_link = λ l. refl;
  last_link_turned = λ l. refl;
  no_more_links = λ l. refl;
  not_joined = λ l. refl;
  no_turned_link = λ l. refl;
  no_link_of_another_format = λ l. refl;
  mark_on_the_first_component = λ l. refl;
  mark_on_the_listed_component = λ l. refl;
  named_glyph_alone = λ l. refl;
  in_vain = λ l. refl;
  in_vain_unasked = λ l. refl;
  out_of_context = λ l. refl;
  first_is_named = λ l. refl;
  one_is_named = λ l. refl;
  third_is_named = λ l. refl;
  each_is_named = λ l. refl;
  none_there_is_named = λ l. refl;
  none_may_be_named = λ l. refl;
  too_little_for_a_rule = λ l. refl;
  too_little_is_left = λ l. refl;
  nothing_is_left_then = λ l. refl;
  just_enough_is_left = λ l. refl;
  goes_on_after_the_rule = λ l. refl;
  unsafe_in_the_rule = λ l. refl;
  listed = λ l is. rw (is.table, is.positioning) refl;
  not_listed = λ l is. rw (is.table, is.positioning) refl;
  first_of_a_rule = λ l is. rw (is.table, is.positioning) refl;
  not_first_of_a_rule = λ l is. rw (is.table, is.positioning) refl;
}
