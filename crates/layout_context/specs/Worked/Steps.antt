-- Steps of lookups and of rules, one at a time, by hand; and stages that nothing is counted in.
use Rattle.std.specs.Prelude.{◌≡◌, ℕ, Bool, List, [], ◌∷◌, ◌++◌, Some, None, true, false, length, replicate, refl}
use Rattle.std.specs.Option.{option_map}
use Rattle.shape_items.specs.Buffer.{Buffer}
use Rattle.shape_items.specs.Clusters.{merge}
use Rattle.layout_matching.specs.Found.{whole_rule}
use Rattle.layout_matching.specs.Rules.{plain_rule}
use Rattle.layout_matching.specs.declared.lookup.Lookup.{Lookup}
use Rattle.layout_matching.specs.declared.nesting.Target.{Target}
use Rattle.layout_matching.specs.declared.rules.Rule.{Rule}
use Rattle.layout_matching.specs.declared.rules.Test.TheVariants.{Any}
use Rattle.layout_substitution.specs.Applied.{Applied, unapplied}
use Rattle.layout_substitution.specs.Replaced.{is_multiplied, as_ligature}
use Rattle.layout_substitution.specs.declared.apply.Spot.{Spot}
use Rattle.layout_context.specs.Nested.{Nest, origin_of, place_charged, named_charged, settled, nest_after, record_step, first_nest, nested_applied, attempt_by}
use Rattle.layout_context.specs.Reverse.{reversal_at, reversal_found, reversal_reach, reversed_at, reverse_step}
use Rattle.layout_context.specs.Stage.{Standing, Made, Going, unmade, unless_made, next_glyph, going_on, stage_applied}
use Rattle.layout_context.specs.Stages.{first_walk, lookup_step, stage_begun, tried}
use Rattle.layout_context.specs.Worked.Lookups.{words, lookup_words, single_1, context, backwards, on, glyph, off, list, glyphs, after_with, Holds}
use Rattle.layout_context.specs.declared.nested.LookupRule.{LookupRule}
use Rattle.layout_context.specs.declared.progress.Progress.{Progress}
use Rattle.layout_context.specs.declared.nested.Tried.{Tried}

-- a lookup that numbers ligatures from 9 on, wherever it is applied
abbrev numbering : Lookup → Spot → Buffer → Applied
numbering l spot b = unapplied (record b { serial = 9 })

-- the rule of `context`, whose one record has lookup 1 applied to its first glyph
abbrev its_rule : Lookup → LookupRule
its_rule l = record { lookup = on l 16 0; rule = whole_rule context false 24 }

-- before that record: the first of the matched glyphs at a place of two, so much left, stopped or not
abbrev before_record : ℕ → ℕ → Bool → Nest
before_record place left stopped = record {
  buffer = list (glyph 5 0 ∷ glyph 6 1 ∷ []);
  places = place ∷ 1 ∷ [];
  progress = record { spot = record { at = 0; random = 1; left = left; whole = 2 }; end = 2; stopped = stopped; r = 0 };
}

abbrev Numbers : ℕ → ℕ → Bool → ℕ → Type 0
Numbers place left stopped serial =
    Holds context (λ l. (record_step numbering (its_rule l) (before_record place left stopped)).buffer.serial ≡ serial)

-- two substitutes, of which one is stated
abbrev one_substitute : List ℕ
one_substitute = words (1 ∷ 60 ∷ 61 ∷ [])

-- format 1 of reverse chaining, with nothing before and nothing after: 60 for one glyph; and a lookup of those of 4 and of 5
abbrev sixty_for : ℕ → List ℕ
sixty_for g = words (1 ∷ 12 ∷ 0 ∷ 0 ∷ 1 ∷ 60 ∷ 1 ∷ 1 ∷ g ∷ [])

abbrev of_4_and_5 : List ℕ
of_4_and_5 = words (8 ∷ 0 ∷ 2 ∷ 10 ∷ 28 ∷ []) ++ (sixty_for 4 ++ sixty_for 5)

-- what is left of so much after the item before a place, where 9 stands before 5
abbrev LeavesBackwards : ℕ → ℕ → ℕ → Type 0
LeavesBackwards at before left = Holds backwards (λ l.
    (reverse_step (on l 0 0) (record { buffer = list (glyph 9 0 ∷ glyph 5 1 ∷ []); at = at; left = before })).left ≡ left)

-- 5 after 9 and before 7 becomes 60
abbrev between : List ℕ
between = lookup_words 8 (1 ∷ 16 ∷ 1 ∷ 22 ∷ 1 ∷ 28 ∷ 1 ∷ 60 ∷ 1 ∷ 1 ∷ 5 ∷ 1 ∷ 1 ∷ 9 ∷ 1 ∷ 1 ∷ 7 ∷ [])

-- at the first of two glyphs, with so much left
abbrev at_the_first : ℕ → Spot
at_the_first left = record { at = 0; random = 7; left = left; whole = 2 }

abbrev five_six : Buffer
five_six = list (glyph 5 0 ∷ glyph 6 1 ∷ [])

-- how many places there are of so many, after two items more came at the first
abbrev PlacesAfter : ℕ → ℕ → Type 0
PlacesAfter before after = (t : Target) (spot : Spot) (p : Progress) → length (nest_after
    (record { buffer = list (glyph 5 0 ∷ []); places = replicate before 0; progress = p })
    (record t { place = 0; index = 0 }) spot (unapplied (list (glyph 5 0 ∷ glyph 5 0 ∷ glyph 5 0 ∷ [])))).places ≡ after

pub record WorkedSteps : Type 0 where
  -- a record is applied at its glyph; not past the end of the list, after a rule that stopped, or where too little is left
  pub applied : Numbers 0 999 false 9
  pub past_the_list : Numbers 2 999 false 0
  pub after_a_stop : Numbers 0 999 true 0
  pub too_little : Numbers 0 0 false 0
  pub stops : Holds context (λ l. (record_step numbering (its_rule l) (before_record 0 0 false)).progress.stopped ≡ true)
  -- what a lookup leaves is what the next record has
  pub leaves : (t : Target) (spot : Spot) (p : Progress) → (settled t 2 2 [] spot p).spot ≡ spot
  -- a rule goes on after the last glyph that it matches, whatever it looks for behind that
  pub goes_on : (l : Lookup) (spot : Spot) (b : Buffer) (rule : Rule)
      → (first_nest l spot b (record { rule = rule; span = record { start = 0; last = 1; end = 3 } })).progress.end ≡ 2
  -- 26 for the rule of two lists and one lookup; where it is named 8 and 32 more
  pub context_at_a_place :
      Holds context (λ l. place_charged (on l 16 0) (glyph 5 0 ∷ glyph 6 1 ∷ []) (record { at = 0; is_steady = true }) 100 ≡ Some 74)
  pub context_by_name :
      Holds context (λ l. named_charged (on l 16 0) (glyph 5 0 ∷ glyph 6 1 ∷ []) (record { at = 0; is_steady = true }) 100 ≡ Some 34)
  -- the walk pays for a plain one; where it is named it costs 16 and 32, and 8 for the subtable that begins there
  pub plain_at_a_place :
      Holds single_1 (λ l. place_charged (on l 0 0) (glyph 5 0 ∷ glyph 6 1 ∷ []) (record { at = 0; is_steady = true }) 100 ≡ Some 100)
  pub plain_by_name :
      Holds single_1 (λ l. named_charged (on l 0 0) (glyph 5 0 ∷ glyph 6 1 ∷ []) (record { at = 0; is_steady = true }) 100 ≡ Some 44)
  -- each lookup begins at the first glyph of the list as it is then; alternates at random go on
  pub begins : (b : Buffer) → (first_walk (record { buffer = b; spot = record { at = 3; random = 7; left = 5; whole = 9 } })).spot
      ≡ record { at = 0; random = 7; left = 5; whole = length b.items }
  -- 16 for each of two glyphs
  pub walk_is_made : Holds single_1 (λ l. glyphs (after_with 32 (on l 0 0) (glyph 5 0 ∷ glyph 6 1 ∷ [])) ≡ 8 ∷ 6 ∷ [])
  pub walk_is_too_dear : Holds single_1 (λ l. glyphs (after_with 31 (on l 0 0) (glyph 5 0 ∷ glyph 6 1 ∷ [])) ≡ 5 ∷ 6 ∷ [])
  pub reversed : Holds backwards (λ l. glyphs (reversed_at (on l 0 0) 1 (list (glyph 9 0 ∷ glyph 5 1 ∷ []))) ≡ 9 ∷ 60 ∷ [])
  pub not_reversed : Holds backwards (λ l. glyphs (reversed_at (on l 0 0) 1 (list (glyph 9 0 ∷ off (glyph 5 1) ∷ []))) ≡ 9 ∷ 5 ∷ [])
  pub substitute : reversal_at one_substitute (record (plain_rule [] Any 0 0 0) { lookups = 0 }) 0 (record { start = 0; last = 1; end = 2 })
      ≡ Some (record { glyph = 60; start = 0; end = 2 })
  pub by_the_second : Holds of_4_and_5 (λ l. reversal_found (on l 0 0) (glyph 5 0 ∷ []) 0 ≡ Some (record { glyph = 60; start = 0; end = 1 }))
  pub by_neither : Holds of_4_and_5 (λ l. reversal_found (on l 0 0) (glyph 6 0 ∷ []) 0 ≡ None)
  -- 8 for the subtable, 14 for two lists, and 3 for two glyphs and the rule; nothing where it doesn't begin
  pub before_the_end : LeavesBackwards 2 100 75
  pub before_the_second : LeavesBackwards 1 100 100
  pub too_little_backwards : LeavesBackwards 2 24 0
  pub at_the_start : LeavesBackwards 0 100 100
  -- what stands before is there, and what stands after isn't
  pub looked_at : Holds between (λ l.
      reversal_reach (on l 0 0) (glyph 9 0 ∷ glyph 5 1 ∷ glyph 8 2 ∷ []) 1 ≡ record { from = 0; to = 3; matched = false })
  pub looked_at_nothing : Holds between (λ l.
      reversal_reach (on l 0 0) (glyph 8 0 ∷ glyph 5 1 ∷ glyph 7 2 ∷ []) 1 ≡ record { from = 1; to = 1; matched = false })
  -- the list is as long as the walk found it, or longer, or shorter
  pub steady : (origin_of (record { at = 0; random = 1; left = 9; whole = 2 }) five_six).is_steady ≡ true
  pub grown : (origin_of (record { at = 0; random = 1; left = 9; whole = 1 }) five_six).is_steady ≡ false
  pub shrunk : (origin_of (record { at = 0; random = 1; left = 9; whole = 3 }) five_six).is_steady ≡ false
  -- where too little is left for a rule, nothing is, and the walk goes on; past the limit it doesn't
  pub tried_for_too_little : Holds context (λ l. (tried (nested_applied 3 (on l 16 0)) (on l 16 0)
      (record { buffer = five_six; spot = at_the_first 5 })).spot ≡ record { at = 1; random = 7; left = 0; whole = 2 })
  pub walk_past_the_limit : Holds single_1 (λ l. (lookup_step (nested_applied 3 (on l 0 0)) (on l 0 0)
      (record { buffer = record five_six { length_limit = Some 1 }; spot = at_the_first 99 })).spot ≡ at_the_first 99)
  pub nothing_past_the_limit : Holds single_1 (λ l.
      glyphs (nested_applied 3 (on l 0 0) (at_the_first 99) (record five_six { length_limit = Some 1 })).buffer ≡ 5 ∷ 6 ∷ [])
  pub within_the_limit : Holds single_1 (λ l.
      glyphs (nested_applied 3 (on l 0 0) (at_the_first 99) (record five_six { length_limit = Some 2 })).buffer ≡ 8 ∷ 6 ∷ [])
  -- what is left after the charge, if it sufficed
  pub attempted : Holds single_1 (λ l.
      option_map (λ (t : Tried). t.left) (attempt_by 3 (on l 0 0) (at_the_first 99) five_six (Some 7)).tried ≡ Some 7)
  pub not_attempted : Holds single_1 (λ l.
      option_map (λ (t : Tried). t.left) (attempt_by 3 (on l 0 0) (at_the_first 99) five_six None).tried ≡ None)
  pub stage_begins : (b : Buffer) → (stage_begun b).spot ≡ record { at = 0; random = 1; left = b.max_ops; whole = 0 }
  -- a rule whose glyphs become more than 64 is left where it is
  pub sixty_four : PlacesAfter 62 64
  pub sixty_five : PlacesAfter 63 63
  pub past_the_substitutes :
      reversal_at one_substitute (record (plain_rule [] Any 0 0 0) { lookups = 0 }) 1 (record { start = 0; last = 1; end = 2 }) ≡ None

-- stages as OpenType says them
pub record WorkedStages : Type 0 where
  pub applied_ends : (next : Buffer → Made) (b : Buffer) (s : Standing)
      → unless_made next (record { buffer = b; next = Some s }) ≡ record { buffer = b; next = Some s }
  pub unapplied_goes_on : (next : Buffer → Made) (b : Buffer) → unless_made next (unmade b) ≡ next b
  pub after_what_it_made : (g : Going) (b : Buffer) (s : Standing)
      → going_on g (record { buffer = b; next = Some s }) ≡ record { buffer = b; standing = s }
  pub to_the_next_glyph : (g : Going) (b : Buffer) → (going_on g (unmade b)).standing ≡ next_glyph g.standing
  pub where_it_is_on : Holds single_1 (λ l.
      glyphs (stage_applied (on l 0 0 ∷ []) (list (glyph 5 0 ∷ off (glyph 5 1) ∷ glyph 6 2 ∷ []))) ≡ 8 ∷ 5 ∷ 6 ∷ [])
  -- what is made isn't gone over
  pub named_by_a_rule : Holds context (λ l.
      glyphs (stage_applied (on l 16 0 ∷ []) (list (glyph 5 0 ∷ glyph 6 1 ∷ glyph 5 2 ∷ []))) ≡ 30 ∷ 31 ∷ 32 ∷ 6 ∷ 5 ∷ [])
  -- from the last glyph on: 60 isn't there yet before the second 5
  pub from_the_end : Holds backwards (λ l.
      glyphs (stage_applied (on l 0 0 ∷ []) (list (glyph 9 0 ∷ glyph 5 1 ∷ glyph 5 2 ∷ []))) ≡ 9 ∷ 60 ∷ 5 ∷ [])
  pub no_lookup : (b : Buffer) → stage_applied [] b ≡ b

pub worked_steps : WorkedSteps
unfolding merge is_multiplied as_ligature
worked_steps = record {
  applied = λ l. refl;
  past_the_list = λ l. refl;
  after_a_stop = λ l. refl;
  too_little = λ l. refl;
  stops = λ l. refl;
  leaves = λ t spot p. refl;
  goes_on = λ l spot b rule. refl;
  context_at_a_place = λ l. refl;
  context_by_name = λ l. refl;
  plain_at_a_place = λ l. refl;
  plain_by_name = λ l. refl;
  begins = λ b. refl;
  walk_is_made = λ l. refl;
  walk_is_too_dear = λ l. refl;
  reversed = λ l. refl;
  not_reversed = λ l. refl;
  substitute = refl;
  by_the_second = λ l. refl;
  by_neither = λ l. refl;
  before_the_end = λ l. refl;
  before_the_second = λ l. refl;
  too_little_backwards = λ l. refl;
  at_the_start = λ l. refl;
  looked_at = λ l. refl;
  looked_at_nothing = λ l. refl;
  steady = refl;
  grown = refl;
  shrunk = refl;
  tried_for_too_little = λ l. refl;
  walk_past_the_limit = λ l. refl;
  nothing_past_the_limit = λ l. refl;
  within_the_limit = λ l. refl;
  attempted = λ l. refl;
  not_attempted = λ l. refl;
  stage_begins = λ b. refl;
  sixty_four = λ t spot p. refl;
  sixty_five = λ t spot p. refl;
  past_the_substitutes = refl;
}

pub worked_stages : WorkedStages
unfolding merge is_multiplied as_ligature
worked_stages = record {
  applied_ends = λ next b s. refl;
  unapplied_goes_on = λ next b. refl;
  after_what_it_made = λ g b s. refl;
  to_the_next_glyph = λ g b. refl;
  where_it_is_on = λ l. refl;
  named_by_a_rule = λ l. refl;
  from_the_end = λ l. refl;
  no_lookup = λ b. refl;
}
