-- How marks below a letter are reordered.
use Rattle.std.specs.Prelude.{◌≡◌, ℕ, ◌+◌, ◌-◌, ◌<◌, ◌≤◌, ◌==◌, ◌&&◌, ◌||◌, Bool, true, false, if◌then◌else◌, List, [], ◌∷◌, length, drop, Option}
use Rattle.std.specs.Prelude.{Some, None, slice_range, refl}
use Rattle.std.specs.Option.{option_map_or}
use Rattle.std.proofs.Common.{arith, cond}
use Rattle.std.proofs.lemmas.List.{length-take-le, length-drop}
use Rattle.shape_items.specs.Buffer.{Buffer}
use Rattle.shape_items.specs.BufferClusters.{merge_clusters}
use Rattle.shape_items.specs.Items.{Item, ccc_of_item}
use Rattle.shape_plan.specs.Reorder.{exchanged, Reorders, done, exchange, merge, ReordersRanges}

-- patah or qamats (20, 21), then sheva or hiriq (22, 23), then meteg (25) or a mark below (220)
abbrev pub is_triple : ℕ → ℕ → ℕ → Bool
is_triple first second third = (first == 20 || first == 21) && ((second == 22 || second == 23) && (third == 25 || third == 220))

-- the place of the last one of the first such three, in a list that begins at this place with these two ccc before it
abbrev pub third_place : ℕ → ℕ → ℕ → List Item → Option ℕ
third_place first second place [] = None
third_place first second place (x ∷ xs) =
    if is_triple first second (ccc_of_item x) then Some place else third_place second (ccc_of_item x) (place + 1) xs

-- the third mark of the first three steps before the second one, once the two are one cluster
abbrev pub step_before : ℕ → Buffer → Buffer
step_before third b = exchanged (third - 1) third (merge_clusters (third - 1) (third + 1) b)

abbrev pub points_reordered : Buffer → ℕ → ℕ → Buffer
points_reordered b start end =
    option_map_or (λ place. step_before (start + place) b) (third_place 0 0 0 (slice_range b.items start end)) b

-- the place lies in the list
pub third_place_within : (first second place : ℕ) (xs : List Item) (k : ℕ) → third_place first second place xs ≡ Some k
    → (place ≤ k) × (k < place + length xs)
third_place_within first second place [] k found = cc
third_place_within first second place (x ∷ xs) k found =
    let P : Bool → Type 0 = λ t. cond t (Some place) (third_place second (ccc_of_item x) (place + 1) xs) ≡ Some k
    → (place ≤ k) × (k < place + length (x ∷ xs)) in
    let cases : P (is_triple first second (ccc_of_item x)) = elim (is_triple first second (ccc_of_item x)) as P [
      | true ↦ λ e. let same : place ≡ k = cc in (omega (arith, same), omega (arith, same))
      | false ↦ λ e. let more = third_place_within second (ccc_of_item x) (place + 1) xs k e in
          (omega (arith, more.0), omega (arith, more.1))
    ] in
    cases found

-- and past its beginning, where no two ccc stand before it
pub third_place_past : (xs : List Item) (k : ℕ) → third_place 0 0 0 xs ≡ Some k → (1 ≤ k) × (k < length xs)
third_place_past [] k found = cc
third_place_past (x ∷ xs) k found = let more = third_place_within 0 (ccc_of_item x) 1 xs k found in (more.0, omega (arith, more.1))

-- a place in the run is one in the range of the list, past its first one
pub place_in_range : (xs : List Item) (start end k : ℕ) → start ≤ end → end ≤ length xs
    → third_place 0 0 0 (slice_range xs start end) ≡ Some k → (1 ≤ k) × (start + k < end)
place_in_range xs start end k ordered within found =
    let past = third_place_past (slice_range xs start end) k found in
    let long : length (slice_range xs start end)
    ≡ end - start = length-take-le (end - start) (drop start xs) (rw (length-drop start xs) (omega arith)) in
    (past.0, omega (arith, past.1, long))

pub points_reordered-reorders : ReordersRanges points_reordered
points_reordered-reorders = record { reorders = λ b start end run. steps b start end (let some = run.some in omega arith) run.within }
  where
    steps : (b : Buffer) (start end : ℕ) → start ≤ end → end ≤ length b.items → Reorders start end b (points_reordered b start end)
    steps b start end ordered within =
        let run = slice_range b.items start end in
        let P : Option ℕ → Type 0 = λ v. third_place 0 0 0 run ≡ v
        → Reorders start end b (option_map_or (λ place. step_before (start + place) b) v b) in
        let cases : P (third_place 0 0 0 run) = elim (third_place 0 0 0 run) as P [
          | None ↦ λ e. done
          | Some place ↦ λ e.
              let at = place_in_range b.items start end place ordered within e in
              merge (start + place - 1) (start + place + 1) (omega arith) (omega arith) (omega (arith, at.1))
              (exchange (start + place - 1) (start + place) (omega (arith, at.0)) (omega (arith, at.1)) (omega (arith, at.0))
              (omega (arith, at.1)) done)
        ] in
        cases refl
