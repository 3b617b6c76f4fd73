-- What is stored of rules of format 3, computed by hand.
use Rattle.std.specs.Prelude.{◌≡◌, ℕ, List, [], ◌∷◌, Some, None, true, false, refl}
use Rattle.std.proofs.Common.{lit<}
use Rattle.shape_font.specs.Worked.Glyphs.{words}
use Rattle.layout_matching.specs.Firsts.{has_bit, no_first}
use Rattle.layout_matching.specs.Found.{whole_rule}
use Rattle.layout_matching.specs.Rules.{fits_row}
use Rattle.layout_matching.specs.WholeRules.{list_of, row_after, rule_paid, stored_paid, IsCounted, IsNearest}
use Rattle.layout_matching.specs.declared.firsts.First.{First}
use Rattle.layout_matching.specs.declared.rules.Rule.{Rule}
use Rattle.layout_matching.specs.declared.whole_rules.WholeRule.{WholeRule}

-- a chained rule of glyph 5 with 4 before it and 6 behind, that names one lookup: the lists stand at 20, 26 and 32
abbrev pub between : List ℕ
between = words (3 ∷ 1 ∷ 26 ∷ 1 ∷ 20 ∷ 1 ∷ 32 ∷ 1 ∷ 0 ∷ 0 ∷ 1 ∷ 1 ∷ 5 ∷ 1 ∷ 1 ∷ 4 ∷ 1 ∷ 1 ∷ 6 ∷ [])

-- one of glyphs 5 and 7 that isn't chained
abbrev pub two_glyphs : List ℕ
two_glyphs = words (3 ∷ 2 ∷ 0 ∷ 10 ∷ 16 ∷ 1 ∷ 1 ∷ 5 ∷ 1 ∷ 1 ∷ 7 ∷ [])

abbrev pub the_rule : Rule
the_rule = whole_rule between true 0

-- the bits of glyph 4 alone, and of glyph 6
abbrev pub four : First
four = record { fine = 16; middle = 1; coarse = 1 }

abbrev pub six : First
six = record { fine = 64; middle = 1; coarse = 1 }

-- the subtable costs 8, three lists 7 each, three glyphs, one lookup and the rule 1 each
abbrev pub of_between : WholeRule
of_between = record {
  subtable = record { kind = 6; start = 0 };
  list = 20;
  work = 34;
  before = 1;
  after = 1;
  tries = 2;
  nearest_before = four;
  nearest_after = six;
}

pub record WorkedWholes : Type 0 where
  pub glyph_before : list_of between 0 the_rule.before ≡ Some 26
  pub glyph_behind : list_of between 0 (row_after the_rule) ≡ Some 32
  pub second_glyph : list_of two_glyphs 0 (row_after (whole_rule two_glyphs false 0)) ≡ Some 16
  pub none_before : list_of two_glyphs 0 (whole_rule two_glyphs false 0).before ≡ None
  pub costs : rule_paid the_rule 100 ≡ Some (record { left = 66; before = 1; after = 1; tries = 2 })
  pub just_enough : rule_paid the_rule 34 ≡ Some (record { left = 0; before = 1; after = 1; tries = 2 })
  pub too_little : rule_paid the_rule 33 ≡ None
  pub paid : stored_paid of_between 100 ≡ Some (record { left = 66; before = 1; after = 1; tries = 2 })
  pub just_paid : stored_paid of_between 34 ≡ Some (record { left = 0; before = 1; after = 1; tries = 2 })
  pub unpaid : stored_paid of_between 33 ≡ None
  -- less than the rule costs, another list, fewer glyphs on a side
  pub too_cheap : IsCounted between 0 the_rule (record of_between { work = 33 }) → ⊥
  pub another_list : IsCounted between 0 the_rule (record of_between { list = 26 }) → ⊥
  pub nothing_before : IsCounted between 0 the_rule (record of_between { before = 0 }) → ⊥
  pub nothing_behind : IsCounted between 0 the_rule (record of_between { after = 0 }) → ⊥
  -- a nearest glyph that is left out
  pub left_out : IsNearest between the_rule.before no_first → ⊥
  pub the_second : fits_row two_glyphs (row_after (whole_rule two_glyphs false 0)) 0 7 ≡ true

pub worked_wholes : WorkedWholes
unfolding has_bit
worked_wholes = record {
  glyph_before = refl;
  glyph_behind = refl;
  second_glyph = refl;
  none_before = refl;
  costs = refl;
  just_enough = refl;
  too_little = refl;
  paid = refl;
  just_paid = refl;
  unpaid = refl;
  too_cheap = λ has. let wrong : None ≡ Some (record { left = 0; before = 1; after = 1; tries = 2 }) = has.paid 33 in cc;
  another_list = λ has. let wrong : Some 20 ≡ Some 26 = has.list in cc;
  nothing_before = λ has. let wrong : 0 ≡ 1 = has.before in cc;
  nothing_behind = λ has. let wrong : 0 ≡ 1 = has.after in cc;
  left_out = λ near. let wrong : true ≡ false = near 4 (lit< tt) refl in cc;
  the_second = refl;
}
