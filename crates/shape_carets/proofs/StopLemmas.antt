-- The stops inside a cell are a stretch of those that rise.
use Rattle.std.proofs.Common.{◌≡◌, ℕ, suc, ◌+◌, ◌-◌, ◌<◌, ◌≤◌, Bool, true, false, List, [], ◌∷◌, ◌++◌, length, take, drop, get_or, arith, refl, sym, ap, ap₂, ◌∙◌, append-nil}
use Rattle.std.proofs.lemmas.Bool.Decides.{nat_tests}
use Rattle.std.proofs.lemmas.List.{take-append-drop, get_or-drop, length-drop, get_or-take, length-take}
use Rattle.std.proofs.lemmas.List.Elements.{filter-append}
use Rattle.std.proofs.lemmas.List.Folds.{drop_split}
use Rattle.std.specs.List.{filter, slice_range}
use Rattle.shape_carets.specs.Carets.{is_inside}

none_pass : (p : ℕ → Bool) (xs : List ℕ) → ((k : ℕ) → k < length xs → p (get_or xs k 0) ≡ false) → filter p xs ≡ []
none_pass p [] each = refl
none_pass p (x ∷ xs) each = rw (each 0 (omega arith)) (none_pass p xs (λ k lt. each (suc k) (omega arith)))

all_pass : (p : ℕ → Bool) (xs : List ℕ) → ((k : ℕ) → k < length xs → p (get_or xs k 0) ≡ true) → filter p xs ≡ xs
all_pass p [] each = refl
all_pass p (x ∷ xs) each = rw (each 0 (omega arith)) (ap (λ l. x ∷ l) (all_pass p xs (λ k lt. each (suc k) (omega arith))))

-- what stands before is at most the start, what stands after at least the end
pub inside-stretch : (start end : ℕ) (xs : List ℕ) (from next : ℕ) → from ≤ next → next ≤ length xs
    → ((k : ℕ) → k < from → get_or xs k 0 < start + 1)
    → ((k : ℕ) → from ≤ k → k < next → (start < get_or xs k 0) × (get_or xs k 0 < end))
    → ((k : ℕ) → next ≤ k → k < length xs → end ≤ get_or xs k 0)
    → filter (is_inside start end) xs ≡ slice_range xs from next
inside-stretch start end xs from next order within before inside after =
    let p = is_inside start end in
    let front : filter p (take from xs) ≡ [] = none_pass p (take from xs) (λ k lt.
    let low = length-take from xs in
    let at = get_or-take from xs k 0 (omega arith) in
    let le = before k (omega arith) in
    grind (arith, nat_tests, at, le)) in
    let middle : filter p (slice_range xs from next) ≡ slice_range xs from next = all_pass p (slice_range xs from next) (λ k lt.
    let long = length-take (next - from) (drop from xs) in
    let short : k < next - from = omega arith in
    let at = get_or-take (next - from) (drop from xs) k 0 short in
    let there = get_or-drop from xs k 0 in
    let both = inside (from + k) (omega arith) (omega arith) in
    let low = both.0 in
    let high = both.1 in
    grind (arith, nat_tests, at, there, low, high)) in
    let back : filter p (drop next xs) ≡ [] = none_pass p (drop next xs) (λ k lt.
    let long = length-drop next xs in
    let at = get_or-drop next xs k 0 in
    let le = after (next + k) (omega arith) (omega arith) in
    grind (arith, nat_tests, at, le)) in
    ap (filter p) (sym (take-append-drop from xs))
    ∙ filter-append p (take from xs) (drop from xs)
    ∙ ap (λ l. l ++ filter p (drop from xs)) front
    ∙ ap (filter p) (drop_split xs from next order)
    ∙ filter-append p (slice_range xs from next) (drop next xs)
    ∙ ap₂ (λ l m. l ++ m) middle back
    ∙ append-nil (slice_range xs from next)
