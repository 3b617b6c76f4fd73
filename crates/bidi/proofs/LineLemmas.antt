-- The rules L1 and L2: one character on, and that L2 only moves characters.
use Rattle.std.proofs.Common.{◌≡◌, ℕ, zero, suc, ◌+◌, ◌-◌, ◌%◌, ◌==◌, ◌<◌, ◌≤◌, Bool, true, List, [], ◌∷◌, ◌++◌, length, get_or, take, drop, refl, ap, ap₂, subst, sym, ◌∙◌, arith, inl, inr}
use Rattle.std.proofs.Math.ListN.{set}
use Rattle.std.proofs.lemmas.Bool.{cases_Bool}
use Rattle.std.proofs.lemmas.List.{append-nil, at_drop_all, drop_more}
use Rattle.std.proofs.lemmas.List.Sorted.{IsPermutation-refl, IsPermutation-trans, IsPermutation-cons, IsPermutation-middle, IsPermutation-append_right, IsPermutation-map}
use Rattle.std.specs.List.Sorted.{IsPermutation}
use Rattle.std.specs.Prelude.{nat_le}
use Rattle.ucd_bidi.specs.declared.BidiClass.{BidiClass}
use Rattle.ucd_bidi.specs.declared.BidiClass.TheVariants.{ArabicLetter}
use Rattle.bidi.specs.Lines.{ends_with, highest, indices, is_ended, line_level, line_levels, lowest_odd, place_of, places_from, reordered, reversed_runs, visual_order}
use Rattle.bidi.specs.declared.lines.Place.{Place}

runs_move : (level : ℕ) (pending xs : List Place) → IsPermutation (pending ++ xs) (reversed_runs level pending xs)
runs_move level pending [] = subst (λ l. IsPermutation l pending) (sym (append-nil pending)) (IsPermutation-refl pending)
runs_move level pending (x ∷ xs) = elim (cases_Bool (nat_le level x.level)) [
  | inl on ↦ IsPermutation-trans (pending ++ x ∷ xs) (x ∷ (pending ++ xs)) (reversed_runs level pending (x ∷ xs)) (IsPermutation-middle pending x xs)
      (rw on (runs_move level (x ∷ pending) xs))
  | inr off ↦ rw off (IsPermutation-append_right pending (x ∷ xs) (x ∷ reversed_runs level [] xs) (IsPermutation-cons x xs (reversed_runs level [] xs) (runs_move level [] xs)))
]

levels_move : (lowest count : ℕ) (xs : List Place) → IsPermutation xs (reordered lowest count xs)
levels_move lowest zero xs = IsPermutation-refl xs
levels_move lowest (suc count) xs =
    IsPermutation-trans xs (reversed_runs (lowest + count) [] xs) (reordered lowest (suc count) xs) (runs_move (lowest + count) [] xs)
    (levels_move lowest count (reversed_runs (lowest + count) [] xs))

pub order_moves : (levels : List ℕ) → IsPermutation (indices levels) (visual_order levels)
order_moves levels =
    IsPermutation-map place_of (places_from 0 levels) (reordered (lowest_odd levels) (highest levels + 1 - lowest_odd levels) (places_from 0 levels))
    (levels_move (lowest_odd levels) (highest levels + 1 - lowest_odd levels) (places_from 0 levels))

-- ---- L1, from the end

front : {A : Type 0} (xs : List A) (n : ℕ) (v : A) → take n (set xs n v) ≡ take n xs
front [] zero v = refl
front [] (suc n) v = refl
front (x ∷ xs) zero v = refl
front (x ∷ xs) (suc n) v = ap (λ l. x ∷ l) (front xs n v)

back : {A : Type 0} (xs : List A) (n : ℕ) (v : A) → n < length xs → drop n (set xs n v) ≡ v ∷ drop (suc n) xs
back [] n v lt = absurd (omega arith)
back (x ∷ xs) zero v lt = refl
back (x ∷ xs) (suc n) v lt = back xs n v (omega arith)

fewer : {A : Type 0} (xs ys : List A) (n : ℕ) → take (suc n) xs ≡ take (suc n) ys → take n xs ≡ take n ys
fewer [] [] n e = refl
fewer [] (y ∷ ys) n e = cc
fewer (x ∷ xs) [] n e = cc
fewer (x ∷ xs) (y ∷ ys) zero e = refl
fewer (x ∷ xs) (y ∷ ys) (suc n) e = ap₂ (λ a l. a ∷ l) (ap (λ l. get_or l 0 x) e) (fewer xs ys n (ap (drop 1) e))

-- what is done from a place on, given what is done from the next one on
pub record IsEndedFrom (base : ℕ) (cs : List BidiClass) (old levels : List ℕ) (ended : Bool) (n : ℕ) : Type 0 where
  pub is_end : ended ≡ is_ended (drop n cs)
  pub front : take n levels ≡ take n old
  pub back : drop n levels ≡ line_levels base (drop n cs) (drop n old)

same_at : (xs ys : List ℕ) (n : ℕ) → take (suc n) xs ≡ take (suc n) ys → n < length xs → n < length ys → get_or xs n 0 ≡ get_or ys n 0
same_at [] ys n e lt lt' = absurd (omega arith)
same_at (x ∷ xs) [] n e lt lt' = absurd (omega arith)
same_at (x ∷ xs) (y ∷ ys) zero e lt lt' = ap (λ l. get_or l 0 x) e
same_at (x ∷ xs) (y ∷ ys) (suc n) e lt lt' = same_at xs ys n (ap (drop 1) e) (omega arith) (omega arith)

pub ended_step : (base n i v : ℕ) (cs : List BidiClass) (old levels : List ℕ) (after ended : Bool) → i ≡ suc n → n < length cs → n < length levels
    → n < length old → IsEndedFrom base cs old levels after i → ended ≡ ends_with (get_or cs n ArabicLetter) after
    → v ≡ line_level base ended (get_or levels n 0) → IsEndedFrom base cs old (set levels n v) ended n
ended_step base n i v cs old levels after ended e lt lt' lt'' h ends is_level =
    let so : n + 1 ≡ i = omega arith in
    let rest : drop n cs ≡ get_or cs n ArabicLetter ∷ drop i cs = drop_more cs n ArabicLetter lt ∙ ap (λ k. get_or cs n ArabicLetter ∷ drop k cs) so in
    let olds : drop n old ≡ get_or old n 0 ∷ drop i old = drop_more old n 0 lt'' ∙ ap (λ k. get_or old n 0 ∷ drop k old) so in
    let taken : take (suc n) levels ≡ take (suc n) old = subst (λ k. take k levels ≡ take k old) e h.front in
    let end : ended ≡ is_ended (get_or cs n ArabicLetter ∷ drop i cs) = ends ∙ ap (ends_with (get_or cs n ArabicLetter)) h.is_end in
    let level : v ≡ line_level base (is_ended (get_or cs n ArabicLetter ∷ drop i cs)) (get_or old n 0) =
    is_level ∙ ap₂ (line_level base) end (same_at levels old n taken lt' lt'') in
    record {
      is_end = end ∙ ap is_ended (sym rest);
      front = front levels n v ∙ fewer levels old n taken;
      back = back levels n v lt' ∙ ap₂ (λ a l. a ∷ l) level (ap (λ k. drop k levels) (sym e) ∙ h.back)
          ∙ sym (ap₂ (line_levels base) rest olds);
    }

pub lowest_odd-within : (levels : List ℕ) → lowest_odd levels ≤ 255
lowest_odd-within [] = omega arith
lowest_odd-within (level ∷ levels) = elim (cases_Bool (level % 2 == 0)) [
  | inl on ↦ rw on (lowest_odd-within levels)
  | inr off ↦ rw off (omega (arith, lowest_odd-within levels))
]

pub ended_start : (base : ℕ) (cs : List BidiClass) (old : List ℕ) → IsEndedFrom base cs old old true (length cs)
ended_start base cs old = record {
  is_end = sym (at_drop_all is_ended cs (length cs) (omega arith));
  front = refl;
  back = sym (at_drop_all (λ l. line_levels base l (drop (length cs) old)) cs (length cs) (omega arith));
}

pub ended_all : (base i : ℕ) (cs : List BidiClass) (old levels : List ℕ) (ended : Bool) → i ≡ 0 → IsEndedFrom base cs old levels ended i
    → levels ≡ line_levels base cs old
ended_all base i cs old levels ended e h = subst (λ k. drop k levels ≡ line_levels base (drop k cs) (drop k old)) e h.back
