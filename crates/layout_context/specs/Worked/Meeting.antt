-- Which items of a list a lookup with a digest meets, computed by hand.
use Rattle.std.specs.Prelude.{◌≡◌, ◌<◌, ℕ, [], ◌∷◌, true, false, refl}
use Rattle.std.proofs.Common.{lit<, arith, subst}
use Rattle.layout_matching.specs.Firsts.{has_bit}
use Rattle.layout_matching.specs.Skipping.{nth}
use Rattle.layout_digests.specs.Digests.{has}
use Rattle.layout_digests.specs.Worked.Digests.{of_one}
use Rattle.layout_digests.specs.declared.digested.Digested.{Digested}
use Rattle.layout_context.specs.Digested.{meets, MeetsNone, HoldsGlyphs}
use Rattle.layout_context.specs.Worked.Lookups.{on, glyph, mark, off}

-- a lookup with these flags whose set has glyph 4660
abbrev of : ℕ → Digested → Digested
of flags d = record d { lookup = on d.lookup 0 flags; digest = of_one }

pub record WorkedMeeting : Type 0 where
  pub its_glyph : (d : Digested) → meets (of 0 d) (glyph 4660 0) ≡ true
  pub another_glyph : (d : Digested) → meets (of 0 d) (glyph 4661 0) ≡ false
  -- its bits are those of glyph 4660: what isn't in the set may be met, too
  pub same_bits : (d : Digested) → meets (of 0 d) (glyph 37428 0) ≡ true
  pub off_for_it : (d : Digested) → meets (of 0 d) (off (glyph 4660 0)) ≡ false
  pub another_bit_of_its_mask : (d : Digested) → meets (of 0 d) (record (glyph 4660 0) { mask = 0x80 }) ≡ true
  pub none_of_its_bits : (d : Digested) → meets (of 0 d) (record (glyph 4660 0) { mask = 0xF0F }) ≡ false
  pub mark_is_seen : (d : Digested) → meets (of 0 d) (mark 4660 0) ≡ true
  pub mark_is_skipped : (d : Digested) → meets (of 8 d) (mark 4660 0) ≡ false
  -- the second of three is met
  pub none_before : (d : Digested) → MeetsNone (of 0 d) (glyph 4661 0 ∷ glyph 4660 1 ∷ glyph 4661 2 ∷ []) 1
  pub one_is_met : (d : Digested) → MeetsNone (of 0 d) (glyph 4661 0 ∷ glyph 4660 1 ∷ glyph 4661 2 ∷ []) 2 → ⊥
  pub holds_it : HoldsGlyphs of_one (glyph 4660 0 ∷ [])
  pub holds_no_other : HoldsGlyphs of_one (glyph 4660 0 ∷ glyph 4661 1 ∷ []) → ⊥

-- the first place alone is below 1
at_first : (P : ℕ → Type 0) → P 0 → (j : ℕ) → j < 1 → P j
at_first P first j less = let e : 0 ≡ j = omega (arith, less) in subst P e first

pub worked_meeting : WorkedMeeting
unfolding has has_bit
worked_meeting = record {
  its_glyph = λ d. refl;
  another_glyph = λ d. refl;
  same_bits = λ d. refl;
  off_for_it = λ d. refl;
  another_bit_of_its_mask = λ d. refl;
  none_of_its_bits = λ d. refl;
  mark_is_seen = λ d. refl;
  mark_is_skipped = λ d. refl;
  none_before = λ d. at_first (λ j. meets (of 0 d) (nth (glyph 4661 0 ∷ glyph 4660 1 ∷ glyph 4661 2 ∷ []) j) ≡ false) refl;
  one_is_met = λ d none. let here = none 1 (lit< tt) in cc;
  holds_it = at_first (λ j. has of_one (nth (glyph 4660 0 ∷ []) j).glyph_id ≡ true) refl;
  holds_no_other = λ holds. let here = holds 1 (lit< tt) in cc;
}
