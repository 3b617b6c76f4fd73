-- The rows of glyphs at the sides of pairs.
use Rattle.std.proofs.Common.{◌≡◌, zero, suc, pos, negsuc, Bool, true, false, List, [], refl, subst, arith}
use Rattle.shape_font.specs.Bytes.{i16_of}
use Rattle.kern_table.specs.Headers.{format_of, header_size}
use Rattle.kern_table.specs.Pairs.{HoldSides, value_of}
use Rattle.kern_table.specs.Sides.{AreMarked}
use Rattle.kern_table.specs.Worked.Sides.{one_pair, none_of_3, none_of_4, glyph_2, glyph_3}
use Rattle.kern_table.specs.Worked.Sides.{MarksOfPairs, SidesOfPairs, StoredPairs, WorkedSides}
use Rattle.kern_table.specs.declared.sides.PairGlyphs.{PairGlyphs}

left : AreMarked one_pair 4 true 1 glyph_2
unfolding header_size
left zero lt within = refl
left (suc i) lt within = absurd (omega arith)

right : AreMarked one_pair 4 false 1 glyph_3
unfolding header_size
right zero lt within = refl
right (suc i) lt within = absurd (omega arith)

past_the_marks : AreMarked one_pair 4 false 1 none_of_3
unfolding header_size
past_the_marks zero lt within = absurd (omega (arith, within))
past_the_marks (suc i) lt within = absurd (omega arith)

marks_of_pairs : MarksOfPairs
unfolding header_size
marks_of_pairs = record {
  left = left;
  right = right;
  left_alone = λ are. let e : false ≡ true = are 0 (omega arith) (omega arith) in absurd cc;
  right_alone = λ are. let e : false ≡ true = are 0 (omega arith) (omega arith) in absurd cc;
  past_the_marks = past_the_marks;
}

left_unmarked : HoldSides one_pair 4 none_of_3 [] → ⊥
unfolding i16_of value_of format_of header_size
left_unmarked hold = let e : negsuc 49 ≡ pos 0 = hold.left 2 3 (omega arith) refl in absurd cc

right_unmarked : HoldSides one_pair 4 [] none_of_4 → ⊥
unfolding i16_of value_of format_of header_size
right_unmarked hold = let e : negsuc 49 ≡ pos 0 = hold.right 2 3 (omega arith) refl in absurd cc

sides_of_pairs : SidesOfPairs
sides_of_pairs = record {
  left_unmarked = left_unmarked;
  right_unmarked = right_unmarked;
  nothing_said = record { left = λ left right lt none. absurd (omega arith); right = λ left right lt none. absurd (omega arith) };
}

-- whatever is said of the other side
left_of_any : (rights : List Bool) → HoldSides one_pair 4 none_of_3 rights → ⊥
left_of_any rights hold =
    left_unmarked (record { left = hold.left; right = λ left right lt none. absurd (omega arith) })

right_of_any : (lefts : List Bool) → HoldSides one_pair 4 lefts none_of_4 → ⊥
right_of_any lefts hold =
    right_unmarked (record { left = λ left right lt none. absurd (omega arith); right = hold.right })

stored_pairs : (glyphs : PairGlyphs) → StoredPairs glyphs
stored_pairs glyphs = record {
  left_unmarked = λ is hold. left_of_any glyphs.rights.items
      (subst (λ (marks : List Bool). HoldSides one_pair 4 marks glyphs.rights.items) is hold);
  right_unmarked = λ is hold. right_of_any glyphs.lefts.items
      (subst (λ (marks : List Bool). HoldSides one_pair 4 glyphs.lefts.items marks) is hold);
}

pub worked_sides : WorkedSides
worked_sides = record { marks = marks_of_pairs; sides = sides_of_pairs; stored = stored_pairs }
