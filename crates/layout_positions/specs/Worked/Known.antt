-- Which subtables of marks are known not to list a glyph, computed by hand.
use Rattle.std.specs.Prelude.{◌≡◌, ℕ, [], ◌∷◌, Option, Some, None, refl}
use Rattle.std.proofs.Common.{lit<}
use Rattle.shape_font.specs.Worked.Glyphs.{words}
use Rattle.layout_tables.specs.Lookups.{subtable_of}
use Rattle.layout_tables.specs.declared.lookups.LookupSubtable.{LookupSubtable}
use Rattle.layout_matching.specs.declared.lookup.Lookup.{Lookup}
use Rattle.layout_positions.specs.Known.{listed_as, IsVain, IsOut, AreOut, IsKnown}
use Rattle.layout_positions.specs.Worked.Marks.{on_bases}
use Rattle.layout_positions.specs.Worked.Pairs.{IsLookup}
use Rattle.layout_positions.specs.Worked.Walk.{one_subtable}

-- a subtable of this type at a place
abbrev of_type : ℕ → ℕ → LookupSubtable
of_type kind start = record { kind = kind; start = start }

pub record WorkedKnown : Type 0 where
  -- mark 8 is the first of the list; glyph 2 is a base
  pub first_mark : (l : Lookup) → IsLookup l on_bases 0 → listed_as l (of_type 4 0) 8 ≡ Some 0
  pub no_mark : (l : Lookup) → IsLookup l on_bases 0 → listed_as l (of_type 4 0) 2 ≡ None
  pub other_format : (l : Lookup) → IsLookup l (words (2 ∷ 4 ∷ 1 ∷ 1 ∷ 8 ∷ [])) 0 → listed_as l (of_type 4 0) 8 ≡ None
  pub on_a_base : (l : Lookup) → IsLookup l on_bases 0 → IsVain l 7 (of_type 4 0)
  pub on_a_component : (l : Lookup) → IsLookup l on_bases 0 → IsVain l 7 (of_type 5 0)
  pub on_a_mark : (l : Lookup) → IsLookup l on_bases 0 → IsVain l 7 (of_type 6 0)
  pub its_mark : (l : Lookup) → IsLookup l on_bases 0 → IsVain l 8 (of_type 4 0) → ⊥
  pub cursive : (l : Lookup) → IsLookup l on_bases 0 → IsVain l 7 (of_type 3 0) → ⊥
  pub context : (l : Lookup) → IsLookup l on_bases 0 → IsVain l 7 (of_type 7 0) → ⊥
  -- a lookup at 0 with one subtable, and one with two, of which the second is NULL and lists no glyph
  pub out_of_it : (l : Lookup) → IsLookup l (one_subtable 4 on_bases) 0 → l.place ≡ 0 → IsOut l 8 0 → ⊥
  pub none_there : (l : Lookup) → IsLookup l (words (4 ∷ 0 ∷ 2 ∷ 10 ∷ 0 ∷ [])) 0 → l.place ≡ 0 → IsOut l 8 1
  -- the bits of 5 are 0 and 2, that of 2 ^ 63 is the last
  pub by_bit_0 : (l : Lookup) → AreOut l 7 5 → IsOut l 7 0
  pub by_bit_2 : (l : Lookup) → AreOut l 7 5 → IsOut l 7 2
  pub by_the_last_bit : (l : Lookup) → AreOut l 7 0x8000000000000000 → IsOut l 7 63
  pub of_its_glyph : (l : Lookup) → IsKnown l (record { glyph = 7; out = 4 }) → IsOut l 7 2

some-none : {n : ℕ} {o : Option ℕ} → o ≡ Some n → o ≡ None → ⊥
some-none p q = cc

first : (l : Lookup) → IsLookup l on_bases 0 → listed_as l (of_type 4 0) 8 ≡ Some 0
first l is = rw is.table refl

first_after : (l : Lookup) → IsLookup l (one_subtable 4 on_bases) 0 → listed_as l (of_type 4 8) 8 ≡ Some 0
first_after l is = rw is.table refl

pub worked_known : WorkedKnown
worked_known = record {
  first_mark = first;
  no_mark = λ l is. rw is.table refl;
  other_format = λ l is. rw is.table refl;
  on_a_base = λ l is. record { kind = refl; unlisted = rw is.table refl };
  on_a_component = λ l is. record { kind = refl; unlisted = rw is.table refl };
  on_a_mark = λ l is. record { kind = refl; unlisted = rw is.table refl };
  its_mark = λ l is vain. some-none (first l is) vain.unlisted;
  cursive = λ l is vain. let no = vain.kind in cc;
  context = λ l is vain. let no = vain.kind in cc;
  out_of_it = λ l is at out. some-none (first_after l is) (out (of_type 4 8) (rw (is.table, at) refl)).unlisted;
  none_there = λ l is at subtable there. let none : subtable_of l.table.now 9 l.place 1 ≡ None = rw (is.table, at) refl in cc;
  by_bit_0 = λ l out. out 0 (lit< tt) refl;
  by_bit_2 = λ l out. out 2 (lit< tt) refl;
  by_the_last_bit = λ l out. out 63 (lit< tt) refl;
  of_its_glyph = λ l known. known 2 (lit< tt) refl;
}
