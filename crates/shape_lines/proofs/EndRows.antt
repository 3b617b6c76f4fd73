-- The rows of right and wrong ends.
use Rattle.std.proofs.Common.{◌≡◌, ◌⊎◌, ℕ, zero, suc, ◌<◌, ◌≤◌, Bool, true, false, ℤ, ◌<ℤ◌, ◌≤ℤ◌, pos, refl, sym, arith, inl, inr}
use Rattle.std.proofs.lemmas.Bool.{false≢true}
use Rattle.std.proofs.lemmas.Int.{ints}
use Rattle.shape_lines.specs.LinesAt.{MayEndBy, IsEndAt}
use Rattle.shape_lines.specs.Worked.Ends.{two_places, must_end, EndsTaken, EndsRefused, WorkedEnds}
use Rattle.shape_lines.specs.Spots.{spot_at}
use Rattle.shape_lines.proofs.AtDecideLemmas.{end_at-from}

taken : EndsTaken
taken = record {
  longest = end_at-from false two_places (pos 30) 0 3 refl;
  longest_allowed = end_at-from true two_places (pos 20) 0 1 refl;
  shortest = end_at-from false two_places (pos 5) 0 1 refl;
  anywhere = end_at-from true two_places (pos 10) 1 2 refl;
  to_the_end = end_at-from false two_places (pos 10) 1 3 refl;
  from_a_mandatory_place = end_at-from false must_end (pos 20) 1 3 refl;
}

-- the places after the first one where a line may end
to_the_first : MayEndBy false two_places 0 1
to_the_first = record { after = omega arith; within = omega arith; is = refl; none_between = λ k after before. absurd (omega (arith, after, before)) }

to_the_second : MayEndBy true two_places 1 2
to_the_second = record { after = omega arith; within = omega arith; is = refl; none_between = λ k after before. absurd (omega (arith, after, before)) }

to_the_last : MayEndBy false two_places 0 3
to_the_last = record { after = omega arith; within = omega arith; is = refl; none_between = between }
  where
    between : (k : ℕ) → 0 < k → k < 3 → (spot_at two_places k).mandatory ≡ false
    between zero after before = absurd (omega (arith, after))
    between (suc zero) after before = refl
    between (suc (suc zero)) after before = refl
    between (suc (suc (suc k))) after before = absurd (omega (arith, before))

a_longer_one_fits : IsEndAt false two_places (pos 30) 0 1 → ⊥
a_longer_one_fits (inl x) = let wide : pos 30 <ℤ pos 30 = x.none_longer 3 (omega arith) to_the_last in absurd (omega (arith, ints))
a_longer_one_fits (inr y) = let wide : pos 30 <ℤ pos 10 = y.0 1 to_the_first in absurd (omega (arith, ints))

too_wide : IsEndAt false two_places (pos 20) 0 3 → ⊥
too_wide (inl x) = let fits : pos 30 ≤ℤ pos 20 = x.fits in absurd (omega (arith, ints))
too_wide (inr y) = let wide : pos 20 <ℤ pos 10 = y.0 1 to_the_first in absurd (omega (arith, ints))

anywhere_though_one_fits : IsEndAt true two_places (pos 20) 0 2 → ⊥
anywhere_though_one_fits (inl x) = absurd (false≢true x.may_end.is)
anywhere_though_one_fits (inr y) = let wide : pos 20 <ℤ pos 10 = y.0 1 to_the_first in absurd (omega (arith, ints))

a_shorter_one_though_none_fits : IsEndAt false two_places (pos 5) 0 3 → ⊥
a_shorter_one_though_none_fits (inl x) = let fits : pos 30 ≤ℤ pos 5 = x.fits in absurd (omega (arith, ints))
a_shorter_one_though_none_fits (inr (none, inl x)) = let fits : pos 30 ≤ℤ pos 5 = x.fits in absurd (omega (arith, ints))
a_shorter_one_though_none_fits (inr (none, inr x)) = x.none_shorter 1 (omega arith) to_the_first

nowhere_else : IsEndAt false two_places (pos 10) 1 2 → ⊥
nowhere_else (inl x) = absurd (false≢true x.may_end.is)
nowhere_else (inr (none, inl x)) = absurd (false≢true x.may_end.is)
nowhere_else (inr (none, inr x)) = absurd (false≢true x.may_end.is)

longer_than_what_fits_anywhere : IsEndAt true two_places (pos 10) 1 3 → ⊥
longer_than_what_fits_anywhere (inl x) = let fits : pos 30 ≤ℤ pos 20 = x.fits in absurd (omega (arith, ints))
longer_than_what_fits_anywhere (inr (none, inl x)) = let fits : pos 30 ≤ℤ pos 20 = x.fits in absurd (omega (arith, ints))
longer_than_what_fits_anywhere (inr (none, inr x)) = let wide : pos 20 <ℤ pos 20 = x.none_fits 2 to_the_second in absurd (omega (arith, ints))

refused : EndsRefused
refused = record {
  at_its_start = λ may. let after : 1 < 1 = may.after in omega (arith, after);
  past_the_text = λ may. let within : 4 ≤ 3 = may.within in omega (arith, within);
  at_no_place = λ may. false≢true may.is;
  past_a_mandatory_place = λ may. false≢true (sym (may.none_between 1 (omega arith) (omega arith)));
  a_longer_one_fits = a_longer_one_fits;
  too_wide = too_wide;
  anywhere_though_one_fits = anywhere_though_one_fits;
  a_shorter_one_though_none_fits = a_shorter_one_though_none_fits;
  nowhere_else = nowhere_else;
  longer_than_what_fits_anywhere = longer_than_what_fits_anywhere;
}

pub worked_ends : WorkedEnds
worked_ends = record { taken = taken; refused = refused }
