-- Lines at allowed places of small texts, decided by tests: what the worked rows rest on.
use Rattle.std.proofs.Common.{◌≡◌, ◌⊎◌, ℕ, zero, suc, ◌+◌, ◌-◌, ◌<◌, ◌≤◌, ◌&&◌, ◌||◌, not, Bool, true, false, ℤ, ◌+ℤ◌, ◌<ℤ◌, ◌≤ℤ◌, int_lt, List, [], ◌∷◌, length, refl, sym, ap, subst, ◌∙◌, arith, inl, inr}
use Rattle.std.proofs.lemmas.Bool.{cases_Bool, cases_lt, and_parts, false≢true}
use Rattle.std.proofs.lemmas.Bool.Decides.{nat_tests}
use Rattle.std.proofs.lemmas.Int.{ints}
use Rattle.std.specs.Prelude.{nat_lt, nat_le}
use Rattle.shape_items.specs.Buffer.{Buffer}
use Rattle.shape_lines.specs.LinesAt.{ends_before, MayEndBy, IsLongestBy, IsShortestBy, NoneFitsBy, IsEndAt, line_at, AreLinesFrom}
use Rattle.shape_lines.specs.Spots.{spot_at, reach, pen}
use Rattle.shape_lines.specs.declared.allowed.LineAt.{LineAt}
use Rattle.shape_lines.specs.declared.spots.Spot.{Spot}

from_not : (t u : Bool) → (not t || u) ≡ true → t ≡ true → u ≡ true
from_not true u e is = e
from_not false u e is = absurd (false≢true is)

not_false : (t : Bool) → not t ≡ true → t ≡ false
not_false true e = sym e
not_false false e = refl

module _ (any : Bool) (ss : List Spot) (width : ℤ) (start : ℕ) where
  abbrev is_wide : ℕ → Bool
  is_wide end = int_lt (pen ss start +ℤ width) (reach ss end)

  -- of so many places from one on, up to a mandatory one, none is an end that fits
  abbrev none_fits : ℕ → ℕ → Bool
  none_fits from zero = true
  none_fits from (suc n) = (not (ends_before any (spot_at ss from)) || is_wide from) && ((spot_at ss from).mandatory || none_fits (suc from) n)

  abbrev none_ends : ℕ → ℕ → Bool
  none_ends from zero = true
  none_ends from (suc n) = not (ends_before any (spot_at ss from)) && none_ends (suc from) n

  abbrev none_must : ℕ → ℕ → Bool
  none_must from zero = true
  none_must from (suc n) = not (spot_at ss from).mandatory && none_must (suc from) n

  none_must-at : (from n : ℕ) → none_must from n ≡ true → (k : ℕ) → from ≤ k → k < from + n → (spot_at ss k).mandatory ≡ false
  none_must-at from zero e k le lt = absurd (omega arith)
  none_must-at from (suc n) e k le lt =
      let both = and_parts (not (spot_at ss from).mandatory) (none_must (suc from) n) e in
      elim (cases_lt from k) [
        | inl later ↦ none_must-at (suc from) n both.1 k (omega arith) (omega arith)
        | inr same ↦
            let here : from ≡ k = omega arith in
            subst (λ j. (spot_at ss j).mandatory ≡ false) here (not_false (spot_at ss from).mandatory both.0)
      ]

  none_ends-at : (from n : ℕ) → none_ends from n ≡ true → (k : ℕ) → from ≤ k → k < from + n → ends_before any (spot_at ss k) ≡ false
  none_ends-at from zero e k le lt = absurd (omega arith)
  none_ends-at from (suc n) e k le lt =
      let both = and_parts (not (ends_before any (spot_at ss from))) (none_ends (suc from) n) e in
      elim (cases_lt from k) [
        | inl later ↦ none_ends-at (suc from) n both.1 k (omega arith) (omega arith)
        | inr same ↦
            let here : from ≡ k = omega arith in
            subst (λ j. ends_before any (spot_at ss j) ≡ false) here (not_false (ends_before any (spot_at ss from)) both.0)
      ]

  none_fits-at : (from n : ℕ) → none_fits from n ≡ true → (k : ℕ) → from ≤ k → k < from + n → ends_before any (spot_at ss k) ≡ true
      → ((j : ℕ) → from ≤ j → j < k → (spot_at ss j).mandatory ≡ false) → (pen ss start +ℤ width) <ℤ reach ss k
  none_fits-at from zero e k le lt is clear = absurd (omega arith)
  none_fits-at from (suc n) e k le lt is clear =
      let both = and_parts (not (ends_before any (spot_at ss from)) || is_wide from) ((spot_at ss from).mandatory || none_fits (suc from) n) e in
      elim (cases_lt from k) [
        | inl later ↦
            let may : (spot_at ss from).mandatory ≡ false = clear from (omega arith) later in
            let rest : none_fits (suc from) n ≡ true = sym (ap (λ t. t || none_fits (suc from) n) may) ∙ both.1 in
            none_fits-at (suc from) n rest k (omega arith) (omega arith) is (λ j after before. clear j (omega arith) before)
        | inr same ↦
            let here : k ≡ from = omega arith in
            let end : ends_before any (spot_at ss from) ≡ true = ap (λ j. ends_before any (spot_at ss j)) (sym here) ∙ is in
            let wide : is_wide from ≡ true = from_not (ends_before any (spot_at ss from)) (is_wide from) both.0 end in
            subst (λ j. (pen ss start +ℤ width) <ℤ reach ss j) (sym here) (too_wide (pen ss start +ℤ width) (reach ss from) wide)
      ]
    where
      too_wide : (v w : ℤ) → int_lt v w ≡ true → v <ℤ w
      too_wide v w wide = omega (arith, ints)

  abbrev pub may_end : ℕ → Bool
  may_end end = nat_lt start end && (nat_le end (length ss) && (ends_before any (spot_at ss end) && none_must (suc start) (end - suc start)))

  abbrev pub none_fits_at_all : Bool
  none_fits_at_all = none_fits (suc start) (length ss - start)

  abbrev pub is_longest : ℕ → Bool
  is_longest end = not (is_wide end) && ((spot_at ss end).mandatory || none_fits (suc end) (length ss - end))

  abbrev pub is_shortest : ℕ → Bool
  is_shortest end = none_fits_at_all && none_ends (suc start) (end - suc start)

  may_end-from : (end : ℕ) → may_end end ≡ true → MayEndBy any ss start end
  may_end-from end e =
      let one = and_parts (nat_lt start end) (nat_le end (length ss) && (ends_before any (spot_at ss end) && none_must (suc start) (end - suc start))) e in
      let two = and_parts (nat_le end (length ss)) (ends_before any (spot_at ss end) && none_must (suc start) (end - suc start)) one.1 in
      let three = and_parts (ends_before any (spot_at ss end)) (none_must (suc start) (end - suc start)) two.1 in
      record {
        after = less start end one.0;
        within = up_to end (length ss) two.0;
        is = three.0;
        none_between = λ k after before. none_must-at (suc start) (end - suc start) three.1 k (omega arith) (omega arith);
      }
    where
      less : (a b : ℕ) → nat_lt a b ≡ true → a < b
      less a b t = grind (arith, nat_tests, t)

      up_to : (a b : ℕ) → nat_le a b ≡ true → a ≤ b
      up_to a b t = grind (arith, nat_tests, t)

  none_fits-from : none_fits_at_all ≡ true → NoneFitsBy any ss width start
  none_fits-from e end may =
      let after = may.after in
      let within = may.within in
      none_fits-at (suc start) (length ss - start) e end (omega arith) (omega arith) may.is (λ j from before. may.none_between j (omega arith) before)

  longest-from : (end : ℕ) → MayEndBy any ss start end → is_longest end ≡ true → IsLongestBy any ss width start end
  longest-from end can e =
      let both = and_parts (not (is_wide end)) ((spot_at ss end).mandatory || none_fits (suc end) (length ss - end)) e in
      let in_start = can.after in
      record {
        may_end = can;
        fits = narrow (pen ss start +ℤ width) (reach ss end) both.0;
        none_longer = λ later longer may.
            let open_end : (spot_at ss end).mandatory ≡ false = may.none_between end in_start longer in
            let rest : none_fits (suc end) (length ss - end) ≡ true = sym (ap (λ t. t || none_fits (suc end) (length ss - end)) open_end) ∙ both.1 in
            let within = may.within in
            none_fits-at (suc end) (length ss - end) rest later (omega arith) (omega arith) may.is
            (λ j from before. may.none_between j (omega arith) before);
      }
    where
      narrow : (v w : ℤ) → not (int_lt v w) ≡ true → w ≤ℤ v
      narrow v w t = let is : int_lt v w ≡ false = not_false (int_lt v w) t in omega (arith, ints)

  shortest-from : (end : ℕ) → MayEndBy any ss start end → is_shortest end ≡ true → IsShortestBy any ss width start end
  shortest-from end can e =
      let both = and_parts none_fits_at_all (none_ends (suc start) (end - suc start)) e in
      record {
        may_end = can;
        none_fits = none_fits-from both.0;
        none_shorter = λ earlier shorter may.
            let after = may.after in
            false≢true (sym (none_ends-at (suc start) (end - suc start) both.1 earlier (omega arith) (omega arith)) ∙ may.is);
      }

  abbrev pub is_by : ℕ → Bool
  is_by end = may_end end && (is_longest end || is_shortest end)

  pub by-from : (end : ℕ) → is_by end ≡ true → IsLongestBy any ss width start end ⊎ IsShortestBy any ss width start end
  by-from end e =
      let both = and_parts (may_end end) (is_longest end || is_shortest end) e in
      let can = may_end-from end both.0 in
      elim (cases_Bool (is_longest end)) [
        | inl long ↦ inl (longest-from end can long)
        | inr short ↦ inr (shortest-from end can (sym (ap (λ t. t || is_shortest end) short) ∙ both.1))
      ]

-- an end to an allowed place that fits, or one by the places that count if none does
abbrev pub is_end_at : Bool → List Spot → ℤ → ℕ → ℕ → Bool
is_end_at any ss width start end =
    (may_end false ss width start end && is_longest false ss width start end) || (none_fits_at_all false ss width start && is_by any ss width start end)

pub end_at-from : (any : Bool) (ss : List Spot) (width : ℤ) (start end : ℕ) → is_end_at any ss width start end ≡ true → IsEndAt any ss width start end
end_at-from any ss width start end e =
    elim (cases_Bool (may_end false ss width start end && is_longest false ss width start end)) [
      | inl first ↦
          let both = and_parts (may_end false ss width start end) (is_longest false ss width start end) first in
          inl (longest-from false ss width start end (may_end-from false ss width start end both.0) both.1)
      | inr second ↦
          let rest : (none_fits_at_all false ss width start && is_by any ss width start end) ≡ true =
          sym (ap (λ t. t || (none_fits_at_all false ss width start && is_by any ss width start end)) second) ∙ e in
          let both = and_parts (none_fits_at_all false ss width start) (is_by any ss width start end) rest in
          inr (none_fits-from false ss width start both.0, by-from any ss width start end both.1)
    ]

-- lines by their ends
abbrev pub are_ends_at : Bool → List Spot → ℤ → ℕ → List ℕ → Bool
are_ends_at any ss width start [] = nat_le (length ss) start && nat_le start (length ss)
are_ends_at any ss width start (end ∷ ends) = is_end_at any ss width start end && are_ends_at any ss width end ends

abbrev pub lines_at_by : (ℕ → ℕ → LineAt) → ℕ → List ℕ → List LineAt
lines_at_by line start [] = []
lines_at_by line start (end ∷ ends) = line start end ∷ lines_at_by line end ends

pub lines_at_from : (b : Buffer) (text_end : ℕ) (any : Bool) (ss : List Spot) (width : ℤ) (start : ℕ) (ends : List ℕ)
    → are_ends_at any ss width start ends ≡ true → AreLinesFrom b text_end any ss width start (lines_at_by (line_at b text_end ss) start ends)
lines_at_from b text_end any ss width start [] e =
    let both = and_parts (nat_le (length ss) start) (nat_le start (length ss)) e in
    equal (length ss) start both.0 both.1
  where
    equal : (n k : ℕ) → nat_le n k ≡ true → nat_le k n ≡ true → k ≡ n
    equal n k low high = grind (arith, nat_tests, low, high)
lines_at_from b text_end any ss width start (end ∷ ends) e =
    let both = and_parts (is_end_at any ss width start end) (are_ends_at any ss width end ends) e in
    (end, end_at-from any ss width start end both.0, refl, lines_at_from b text_end any ss width end ends both.1)
