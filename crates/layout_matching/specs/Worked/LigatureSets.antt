-- What is stored of sets of ligatures, computed by hand.
use Rattle.std.specs.Prelude.{◌≡◌, ℕ, List, Some, None, true, false, refl}
use Rattle.std.proofs.Common.{lit<}
use Rattle.layout_matching.specs.Firsts.{has_bit, no_first}
use Rattle.layout_matching.specs.LigatureSets.{ligatures_counted, count_of, set_paid, subtable_paid, HasSet, first_start, IsSetFor}
use Rattle.layout_matching.specs.Rules.{rules_at}
use Rattle.layout_matching.specs.Worked.Work.{shared_ligatures, no_subtables}
use Rattle.layout_matching.specs.declared.firsts.First.{First}
use Rattle.layout_matching.specs.declared.ligature_sets.LigatureSet.{LigatureSet}

-- the bits of glyph 6 alone: bit 6, bit 0 of its sixteenth, bit 0 of its 512th
abbrev pub six : First
six = record { fine = 64; middle = 1; coarse = 1 }

-- those three ligatures cost 3, 3 and, NULL, 1; the longest has one glyph after the first; the set looks once, and each of two again
abbrev pub of_shared : LigatureSet
of_shared = record { start = 8; set = 22; work = 7; after = 1; tries = 3; seconds = six; is_closed = true }

pub record WorkedSets : Type 0 where
  pub none_counted : ligatures_counted shared_ligatures 22 0 100 ≡ Some (record { left = 100; before = 1; after = 1; tries = 1 })
  pub one_counted : ligatures_counted shared_ligatures 22 1 100 ≡ Some (record { left = 97; before = 1; after = 1; tries = 2 })
  pub all_counted : ligatures_counted shared_ligatures 22 3 100 ≡ Some (record { left = 93; before = 1; after = 1; tries = 3 })
  pub just_enough : ligatures_counted shared_ligatures 22 3 7 ≡ Some (record { left = 0; before = 1; after = 1; tries = 3 })
  pub too_little : ligatures_counted shared_ligatures 22 3 6 ≡ None
  pub paid : set_paid of_shared 9 ≡ Some (record { left = 2; before = 1; after = 1; tries = 3 })
  pub just_paid : set_paid of_shared 7 ≡ Some (record { left = 0; before = 1; after = 1; tries = 3 })
  pub unpaid : set_paid of_shared 6 ≡ None
  -- and 8 for its subtable
  pub subtable : subtable_paid of_shared 15 ≡ Some (record { left = 0; before = 1; after = 1; tries = 3 })
  pub no_subtable : subtable_paid of_shared 14 ≡ None
  pub three : count_of shared_ligatures 22 ≡ 3
  -- the offset of the first subtable stands six bytes after the start of the lookup
  pub first : first_start shared_ligatures 0 ≡ Some 8
  pub no_first_one : first_start no_subtables 0 ≡ None
  pub its_set : rules_at shared_ligatures 8 4 0 ≡ Some 22
  -- less work than the ligatures cost, and a second glyph that is left out
  pub too_cheap : HasSet shared_ligatures 22 (record of_shared { work = 6 }) → ⊥
  pub left_out : HasSet shared_ligatures 22 (record of_shared { seconds = no_first }) → ⊥
  -- of another set, of another subtable, and of a glyph that isn't covered
  pub another_set : IsSetFor shared_ligatures 0 5 (record of_shared { set = 20 }) → ⊥
  pub another_subtable : IsSetFor shared_ligatures 0 5 (record of_shared { start = 6 }) → ⊥
  pub another_glyph : IsSetFor shared_ligatures 0 6 of_shared → ⊥

pub worked_sets : WorkedSets
unfolding has_bit
worked_sets = record {
  none_counted = refl;
  one_counted = refl;
  all_counted = refl;
  just_enough = refl;
  too_little = refl;
  paid = refl;
  just_paid = refl;
  unpaid = refl;
  subtable = refl;
  no_subtable = refl;
  three = refl;
  first = refl;
  no_first_one = refl;
  its_set = refl;
  too_cheap = λ has. let wrong : None ≡ Some (record { left = 0; before = 1; after = 1; tries = 3 }) = has.paid 6 in cc;
  left_out = λ has. let wrong : false ≡ true = has.seconds 6 refl 0 (lit< tt) in cc;
  another_set = λ is. let wrong : Some 22 ≡ Some 20 = is.held.set in cc;
  another_subtable = λ is. let wrong : Some 8 ≡ Some 6 = is.first in cc;
  another_glyph = λ is. let wrong : None ≡ Some 22 = is.held.set in cc;
}
