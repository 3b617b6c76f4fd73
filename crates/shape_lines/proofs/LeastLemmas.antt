-- The least width from a place to an end at it or after it.
use Rattle.std.proofs.Common.{◌≡◌, ℕ, zero, suc, ◌+◌, ◌-◌, ◌^◌, reverse, ◌<◌, ◌≤◌, true, ℤ, pos, ◌+ℤ◌, ◌≤ℤ◌, List, [], ◌∷◌, ◌++◌, length, take, drop, get_or, if◌then◌else◌, refl, sym, ap, ap₂, subst, ◌∙◌, ◌⊎◌, arith, inl, inr}
use Rattle.std.proofs.lemmas.Bool.{cases_Bool, cond-true, cond-false}
use Rattle.std.proofs.lemmas.Int.{ints, clamps}
use Rattle.std.proofs.lemmas.List.{length-take-le, length-drop, drop_more, reverse-append}
use Rattle.std.specs.Int.{int_min}
use Rattle.std.specs.Prelude.{int_lt}
use Rattle.shape_lines.specs.declared.reading.Piece.{Piece}
use Rattle.shape_lines.specs.Pieces.{total, width_between, is_end, AreNarrow, IsNarrow}
use Rattle.shape_lines.specs.Walked.{least, leasts, IsSmall}
use Rattle.shape_lines.proofs.TotalLemmas.{IsWithin, IsWithin-total, narrow-take, narrow-drop, is_end-drop}

-- it is no more than that to any such end
pub least-below : (ps : List Piece) (m : ℕ) → m ≤ length ps → is_end ps m ≡ true → least ps ≤ℤ total (take m ps)
least-below [] zero le is = omega (arith, ints)
least-below [] (suc m) le is = absurd (omega arith)
least-below (p ∷ ps) zero le is =
    let here : least (p ∷ ps) ≡ int_min (pos 0) (p.width +ℤ least ps) = cond-true p.cut _ _ is in
    omega (arith, ints, clamps, here)
least-below (p ∷ ps) (suc m) le is =
    let rest = least-below ps m (omega arith) is in
    elim (cases_Bool p.cut) [
      | inl cut ↦
          let here : least (p ∷ ps) ≡ int_min (pos 0) (p.width +ℤ least ps) = cond-true p.cut _ _ cut in
          omega (arith, ints, clamps, here, rest)
      | inr whole ↦
          let here : least (p ∷ ps) ≡ p.width +ℤ least ps = cond-false p.cut _ _ whole in
          omega (arith, ints, here, rest)
    ]

-- and it is that to one of them
pub record IsReached (ps : List Piece) : Type 0 where
  pub end : ℕ
  pub within : end ≤ length ps
  pub is : is_end ps end ≡ true
  pub reached : least ps ≡ total (take end ps)

int_min_either : (x y : ℤ) → (int_min x y ≡ x) ⊎ (int_min x y ≡ y)
int_min_either x y =
    elim (cases_Bool (int_lt y x)) [
      | inl less ↦ inr (cond-true (int_lt y x) y x less)
      | inr more ↦ inl (cond-false (int_lt y x) y x more)
    ]

reached_on : (p : Piece) (ps : List Piece) → IsReached ps → least (p ∷ ps) ≡ p.width +ℤ least ps → IsReached (p ∷ ps)
reached_on p ps rest here = record {
  end = suc rest.end;
  within = let le = rest.within in omega arith;
  is = rest.is;
  reached = here ∙ ap (λ w. p.width +ℤ w) rest.reached;
}

reached_next : (p : Piece) (ps : List Piece) → IsReached ps → IsReached (p ∷ ps)
reached_next p ps rest =
    elim (cases_Bool p.cut) [
      | inr whole ↦ reached_on p ps rest (cond-false p.cut _ _ whole)
      | inl cut ↦
          let here : least (p ∷ ps) ≡ int_min (pos 0) (p.width +ℤ least ps) = cond-true p.cut _ _ cut in
          elim (int_min_either (pos 0) (p.width +ℤ least ps)) [
            | inl zero_is ↦ record { end = 0; within = omega arith; is = cut; reached = here ∙ zero_is }
            | inr on_is ↦ reached_on p ps rest (here ∙ on_is)
          ]
    ]

pub least-reached : (ps : List Piece) → IsReached ps
least-reached [] = record { end = 0; within = omega arith; is = refl; reached = refl }
least-reached (p ∷ ps) = reached_next p ps (least-reached ps)

-- the least width is within the bounds of a sum of so many widths
pub IsWithin-least : (ps : List Piece) → AreNarrow ps → IsWithin (length ps) (least ps)
IsWithin-least ps narrow =
    let at = least-reached ps in
    let low = IsWithin-total (take at.end ps) (narrow-take at.end ps narrow) in
    let above = low.0 in
    let below = low.1 in
    let len : length (take at.end ps) ≡ at.end = length-take-le at.end ps at.within in
    let le = at.within in
    rw at.reached (omega (arith, ints, len), omega (arith, ints, len))

-- at a place of a text: no end from there on is nearer
pub least_at-below : (ps : List Piece) (k end : ℕ) → k ≤ end → end ≤ length ps → is_end ps end ≡ true
    → least (drop k ps) ≤ℤ width_between ps k end
least_at-below ps k end le within is =
    let back : k + (end - k) ≡ end = omega arith in
    least-below (drop k ps) (end - k) (omega (arith, length-drop k ps))
    (is_end-drop k (end - k) ps (omega arith) ∙ ap (is_end ps) back ∙ is)

pub record IsReachedAt (ps : List Piece) (k : ℕ) : Type 0 where
  pub end : ℕ
  pub from : k ≤ end
  pub within : end ≤ length ps
  pub is : is_end ps end ≡ true
  pub reached : least (drop k ps) ≡ width_between ps k end

pub least_at-reached : (ps : List Piece) (k : ℕ) → k ≤ length ps → IsReachedAt ps k
least_at-reached ps k le =
    let at = least-reached (drop k ps) in
    let within = at.within in
    let long = length-drop k ps in
    let back : (k + at.end) - k ≡ at.end = omega arith in
    record {
      end = k + at.end;
      from = omega arith;
      within = omega arith;
      is = sym (is_end-drop k at.end ps le) ∙ at.is;
      reached = at.reached ∙ ap (λ n. total (take n (drop k ps))) (sym back);
    }

-- what a walk from the end adds: n is one place further on
pub IsSmall-rest : (ps : List Piece) (n : ℕ) → length ps < 2 ^ 64 → AreNarrow (drop n ps) → IsSmall (least (drop n ps))
IsSmall-rest ps n short narrow =
    let both = IsWithin-least (drop n ps) narrow in
    let low = both.0 in
    let high = both.1 in
    let long = length-drop n ps in
    record { above = omega (arith, ints); below = omega (arith, ints) }

pub IsSmall-least : (ps : List Piece) (n : ℕ) → length ps < 2 ^ 64 → AreNarrow ps → IsSmall (least (drop n ps))
IsSmall-least ps n short narrow = IsSmall-rest ps n short (narrow-drop n ps narrow)

pub least-more : (ps : List Piece) (n : ℕ) (p : Piece) (on : ℤ) → 0 < n → n ≤ length ps → p ≡ get_or ps (n - 1) p → on ≡ least (drop n ps)
    → (if p.cut then int_min (pos 0) (p.width +ℤ on) else p.width +ℤ on) ≡ least (drop (n - 1) ps)
least-more ps n p on some le here is =
    let back : (n - 1) + 1 ≡ n = omega arith in
    ap (λ z. if p.cut then int_min (pos 0) (p.width +ℤ z) else p.width +ℤ z) (is ∙ ap (λ k. least (drop k ps)) (sym back))
    ∙ ap (λ (q : Piece). least (q ∷ drop ((n - 1) + 1) ps)) here ∙ sym (ap least (drop_more ps (n - 1) p (omega arith)))

pub leasts-more : (ps : List Piece) (n : ℕ) (d : Piece) → 0 < n → n ≤ length ps
    → reverse (leasts (drop (n - 1) ps)) ≡ reverse (leasts (drop n ps)) ++ least (drop (n - 1) ps) ∷ []
leasts-more ps n d some le =
    let back : (n - 1) + 1 ≡ n = omega arith in
    let p : Piece = get_or ps (n - 1) d in
    let whole : drop (n - 1) ps ≡ p ∷ drop n ps = drop_more ps (n - 1) d (omega arith) ∙ ap (λ k. p ∷ drop k ps) back in
    ap (λ l. reverse (leasts l)) whole ∙ reverse-append (least (p ∷ drop n ps) ∷ []) (leasts (drop n ps))
    ∙ ap (λ l. reverse (leasts (drop n ps)) ++ least l ∷ []) (sym whole)

pub leasts-at : (ps : List Piece) (k : ℕ) (d : ℤ) → k < length ps → get_or (leasts ps) k d ≡ least (drop k ps)
leasts-at [] k d lt = absurd (omega arith)
leasts-at (p ∷ ps) zero d lt = refl
leasts-at (p ∷ ps) (suc k) d lt = leasts-at ps k d (omega arith)

pub length-leasts : (ps : List Piece) → length (leasts ps) ≡ length ps
length-leasts [] = refl
length-leasts (p ∷ ps) = ap suc (length-leasts ps)

-- at the end of the text
pub least-all : (ps : List Piece) → least (drop (length ps) ps) ≡ pos 0
least-all [] = refl
least-all (p ∷ ps) = least-all ps

-- the sum that was kept for a place
pub least_kept : (ps : List Piece) (sums : List ℤ) (k : ℕ) (z : ℤ) → sums ≡ leasts ps → k < length ps → z ≡ get_or sums k z
    → z ≡ least (drop k ps)
least_kept ps sums k z are lt is = is ∙ ap (λ l. get_or l k z) are ∙ leasts-at ps k z lt

pub drop_all : (ps : List Piece) (n : ℕ) → n ≡ length ps → drop n ps ≡ []
drop_all [] zero e = refl
drop_all [] (suc n) e = refl
drop_all (p ∷ ps) zero e = absurd (omega arith)
drop_all (p ∷ ps) (suc n) e = drop_all ps n (omega arith)

-- what the walk from the end has read is narrow
pub narrow-more : (ps : List Piece) (n : ℕ) (p : Piece) → 0 < n → n ≤ length ps → p ≡ get_or ps (n - 1) p → IsNarrow p.width
    → AreNarrow (drop n ps) → AreNarrow (drop (n - 1) ps)
narrow-more ps n p some le is here rest =
    let back : (n - 1) + 1 ≡ n = omega arith in
    let whole : drop (n - 1) ps ≡ p ∷ drop n ps = drop_more ps (n - 1) p (omega arith) ∙ ap₂ (λ (q : Piece) k. q ∷ drop k ps) (sym is) back in
    subst AreNarrow (sym whole) (here, rest)
