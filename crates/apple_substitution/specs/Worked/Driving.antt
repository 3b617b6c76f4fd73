-- Walks of a driver over a few glyphs, computed by hand.
use Rattle.std.specs.Prelude.{◌≡◌, ℕ, List, [], ◌∷◌, ◌+◌, Some, true, false, map, not, nat_eq, refl, ◌&&◌, if◌then◌else◌}
use Rattle.shape_items.specs.Buffer.{Buffer, new_buffer}
use Rattle.shape_items.specs.Items.{Item, new_item}
use Rattle.apple_tables.specs.declared.states.Entry.{Entry}
use Rattle.apple_substitution.specs.Driver.{Actions, Rules, Spot}
use Rattle.apple_substitution.specs.Drives.{drive_on, driven, entered, first_drive, gone_on, most_steps, step, walked}
use Rattle.apple_substitution.specs.Edits.{item_at, put_at}
use Rattle.apple_substitution.specs.Ranges.{is_on}
use Rattle.apple_substitution.specs.declared.driver.Machine.{Machine}
use Rattle.apple_substitution.specs.declared.ranges.FlagRange.{FlagRange}

-- a glyph in its cluster
abbrev pub glyph : ℕ → ℕ → Item
glyph g cluster = record (new_item 0 cluster) { glyph_id = g }

-- glyphs, and what may still be asked for
abbrev pub text : List Item → ℕ → Buffer
text items left = record new_buffer { items = items; max_ops = left }

abbrev pub glyphs_of : Buffer → List ℕ
glyphs_of b = map (λ (x : Item). x.glyph_id) b.items

abbrev pub masks_of : Buffer → List ℕ
masks_of b = map (λ (x : Item). x.mask) b.items

-- a subtable whose entries have a glyph in place of their data: it is put in place of the current one, if it isn't 0; counted is how
-- many were put
abbrev pub entry : ℕ → ℕ → ℕ → Entry
entry next flags put = record { at = put; next = next; flags = flags }

abbrev pub put_by : Entry → Spot ℕ → Spot ℕ
put_by e s = if nat_eq e.at 0 then s else record {
  buffer = put_at s.at (record (item_at s.buffer s.at) { glyph_id = e.at }) s.buffer;
  at = s.at;
  memory = s.memory + 1;
}

abbrev pub puts : Actions ℕ
puts = record { is_actionable = λ ends count e. not (nat_eq e.at 0); transition = put_by }

-- a glyph is its own class; 0 is the end of the text. State 2 is that after glyph 5, and state 4 that after glyph 2
abbrev pub after_five : ℕ → Entry
after_five class = if nat_eq class 3 then entry 0 0 0
    else (if nat_eq class 6 then entry 0 0 60
    else (if nat_eq class 7 then entry 0 0x4000 0
    else (if nat_eq class 10 then entry 3 0 0
    else (if nat_eq class 11 then entry 3 0x4000 0
    else entry 0 0 0))))

abbrev pub else_where : ℕ → Entry
else_where class = if nat_eq class 3 then entry 0 0 30
    else (if nat_eq class 7 then entry 0 0 70
    else (if nat_eq class 11 then entry 3 0 0
    else entry 0 0 0))

abbrev pub entry_for : ℕ → ℕ → Entry
entry_for state class = if nat_eq class 2 then entry 4 0 0
    else (if nat_eq class 5 then entry 2 0 0
    else (if nat_eq class 8 then entry 1 0x4000 0
    else (if nat_eq state 4 && nat_eq class 0 then entry 0 0 99
    else (if nat_eq state 2 then after_five class else else_where class))))

-- features are off in cluster 4
abbrev pub rules : Rules
rules = record { class = λ g. g; entry = entry_for; is_on = λ cluster. not (nat_eq cluster 4) }

abbrev pub Becomes : List Item → List ℕ → Type 0
Becomes items glyphs = glyphs_of (walked rules puts 0 (text items 40)) ≡ glyphs

-- of two glyphs in two clusters the second one is unsafe to break, or none is
abbrev pub Breaks : ℕ → ℕ → List ℕ → Type 0
Breaks one other masks = masks_of (walked rules puts 0 (text (glyph one 0 ∷ glyph other 1 ∷ []) 40)) ≡ masks

abbrev pub Puts : List Item → ℕ → Type 0
Puts items count = (drive_on rules puts 100 (first_drive 0 (text items 40))).memory ≡ count

-- a table without a byte, whose entries have 4 in place of their data, and one range of features
abbrev Driven : ℕ → List ℕ → Type 0
Driven left glyphs = (m : Machine) → m.states.table.now ≡ [] → m.ranges.list.now ≡ record { last = 9; flags = 1 } ∷ []
    → glyphs_of (driven (record m {
      states = record m.states { start = 0; entry_size = 4; glyphs = 10 };
      ranges = record m.ranges { wanted = 1 };
    }) puts 0 (text (glyph 5 0 ∷ glyph 6 1 ∷ []) left)) ≡ glyphs

abbrev two_ranges : List FlagRange
two_ranges = record { last = 3; flags = 1 } ∷ record { last = 9; flags = 6 } ∷ []

pub record WorkedDrives : Type 0 where
  -- what comes before leads to a state
  pub alone : Becomes (glyph 6 0 ∷ []) (6 ∷ [])
  pub after_another : Becomes (glyph 5 0 ∷ glyph 6 1 ∷ []) (5 ∷ 60 ∷ [])
  pub state_is_left : Becomes (glyph 5 0 ∷ glyph 1 1 ∷ glyph 6 2 ∷ []) (5 ∷ 1 ∷ 6 ∷ [])
  -- a glyph is looked at again, for 16
  pub looked_at_again : Becomes (glyph 5 0 ∷ glyph 7 1 ∷ []) (5 ∷ 70 ∷ [])
  pub charged : (walked rules puts 0 (text (glyph 5 0 ∷ glyph 7 1 ∷ []) 16)).max_ops ≡ 0
  pub too_little_is_left : glyphs_of (walked rules puts 0 (text (glyph 5 0 ∷ glyph 7 1 ∷ []) 15)) ≡ 5 ∷ 7 ∷ []
  -- a glyph that is always looked at again is left once no more is
  pub for_ever : (walked rules puts 0 (text (glyph 8 0 ∷ glyph 5 1 ∷ glyph 6 2 ∷ []) 40)).max_ops ≡ 8
  pub goes_on : Becomes (glyph 8 0 ∷ glyph 5 1 ∷ glyph 6 2 ∷ []) (8 ∷ 5 ∷ 60 ∷ [])
  pub most : most_steps (text (glyph 8 0 ∷ glyph 5 1 ∷ []) 40) ≡ 43
  -- at the end of the text something is done after glyph 2
  pub at_the_end : Puts (glyph 1 0 ∷ glyph 2 1 ∷ []) 1
  pub nothing_at_the_end : Puts (glyph 2 0 ∷ glyph 1 1 ∷ []) 0
  -- features are off for a glyph, which is passed, and the next one is as at the start
  pub off : Becomes (glyph 5 0 ∷ glyph 6 4 ∷ []) (5 ∷ 6 ∷ [])
  pub off_between : Becomes (glyph 5 0 ∷ glyph 5 4 ∷ glyph 6 5 ∷ []) (5 ∷ 5 ∷ 6 ∷ [])
  pub on_again : Becomes (glyph 1 4 ∷ glyph 5 5 ∷ glyph 6 6 ∷ []) (1 ∷ 5 ∷ 60 ∷ [])
  pub off_at_the_end : Puts (glyph 2 0 ∷ glyph 2 4 ∷ []) 0
  -- a list past the limit of the run stays
  pub past_the_limit : glyphs_of (walked rules puts 0 (record (text (glyph 5 0 ∷ glyph 6 1 ∷ []) 40) { length_limit = Some 1 }))
      ≡ 5 ∷ 6 ∷ []

pub worked_drives : WorkedDrives
unfolding step gone_on entered
worked_drives = record {
  alone = refl;
  after_another = refl;
  state_is_left = refl;
  looked_at_again = refl;
  charged = refl;
  too_little_is_left = refl;
  for_ever = refl;
  goes_on = refl;
  most = refl;
  at_the_end = refl;
  nothing_at_the_end = refl;
  off = refl;
  off_between = refl;
  on_again = refl;
  off_at_the_end = refl;
  past_the_limit = refl;
}

pub record WorkedBreaks : Type 0 where
  -- nothing is done, in the first state and after glyph 5
  pub in_the_first_state : Breaks 1 5 (0 ∷ 0 ∷ [])
  pub leads_alike : Breaks 5 1 (0 ∷ 0 ∷ [])
  pub leads_to_one_state : Breaks 5 5 (0 ∷ 0 ∷ [])
  -- something is done
  pub acts : Breaks 5 6 (0 ∷ 3 ∷ [])
  pub acts_in_the_first_state : Breaks 1 7 (0 ∷ 3 ∷ [])
  -- something would be done at the start of a text
  pub would_act : Breaks 5 3 (0 ∷ 3 ∷ [])
  -- another state, or the same glyph again
  pub leads_to_another_state : Breaks 5 10 (0 ∷ 3 ∷ [])
  pub leads_to_the_same_glyph : Breaks 5 11 (0 ∷ 3 ∷ [])
  -- something would be done at the end of a text
  pub would_act_at_the_end : Breaks 2 5 (0 ∷ 3 ∷ [])
  -- the first glyph has none before it
  pub first : masks_of (walked rules puts 0 (text (glyph 7 5 ∷ []) 40)) ≡ 0 ∷ []
  -- a glyph that is looked at again in the first state is apart from what comes before
  pub again_in_the_first_state : masks_of (walked (record rules {
    entry = λ state class.
        if nat_eq class 7 && nat_eq state 0 then entry 0 0 0 else entry_for state class;
  }) puts 0
      (text (glyph 5 0 ∷ glyph 7 1 ∷ []) 40)) ≡ 0 ∷ 0 ∷ []

pub worked_breaks : WorkedBreaks
unfolding step gone_on entered
worked_breaks = record {
  in_the_first_state = refl;
  leads_alike = refl;
  leads_to_one_state = refl;
  acts = refl;
  acts_in_the_first_state = refl;
  would_act = refl;
  leads_to_another_state = refl;
  leads_to_the_same_glyph = refl;
  would_act_at_the_end = refl;
  first = refl;
  again_in_the_first_state = refl;
}

pub record WorkedCharges : Type 0 where
  -- two glyphs, each for a step and for one range
  pub suffices : Driven 34 (4 ∷ 4 ∷ [])
  pub does_not_suffice : Driven 33 (5 ∷ 6 ∷ [])
  -- the first range that doesn't end before a cluster counts
  pub last_of_the_first : is_on two_ranges 2 3 ≡ false
  pub first_of_the_second : is_on two_ranges 2 4 ≡ true
  pub last_of_the_second : is_on two_ranges 2 9 ≡ true
  pub past_the_ranges : is_on two_ranges 7 10 ≡ false
  pub other_flags : is_on two_ranges 2 0 ≡ false
  pub one_of_several_flags : is_on two_ranges 3 0 ≡ true

pub worked_charges : WorkedCharges
unfolding step gone_on entered
worked_charges = record {
  suffices = λ m t r. rw (t, r) refl;
  does_not_suffice = λ m t r. rw (t, r) refl;
  last_of_the_first = refl;
  first_of_the_second = refl;
  last_of_the_second = refl;
  past_the_ranges = refl;
  other_flags = refl;
  one_of_several_flags = refl;
}
