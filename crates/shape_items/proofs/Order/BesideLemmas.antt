-- A block of clusters before the rest, each drawn from its own list.
use Rattle.std.proofs.Common.{◌≡◌, ℕ, ◌+◌, ◌-◌, ◌<◌, ◌≤◌, nat_lt, Bool, true, false, if◌then◌else◌, List, length, ◌++◌, get_or, slice_index, refl, sym, ap, ◌∙◌, arith, inl, inr, ◌⊎◌}
use Rattle.std.proofs.lemmas.Bool.{cases_Bool}
use Rattle.std.proofs.lemmas.Bool.Decides.{nat_tests}
use Rattle.std.proofs.lemmas.List.{length-append, get_or_append_left}
use Rattle.std.proofs.Math.Seq.{get_or-append_right}
use Rattle.shape_items.proofs.Order.DrawsInOrder.{DrawsInOrder}

-- a place of the block is one of its own list, a later one stands after all of that
abbrev place_beside : ℕ → ℕ → (ℕ → ℕ) → (ℕ → ℕ) → ℕ → ℕ
place_beside count drawn first second k = if nat_lt k drawn then first k else count + second (k - drawn)

module _ (xs ys rest rest_drawn : List ℕ) (block : DrawsInOrder xs ys) (others : DrawsInOrder rest rest_drawn) where
  abbrev at : ℕ → ℕ
  at = place_beside (length xs) (length ys) block.place others.place

  in_block : (k : ℕ) → nat_lt k (length ys) ≡ true → at k ≡ block.place k
  in_block k is = rw is refl

  after_block : (k : ℕ) → nat_lt k (length ys) ≡ false → at k ≡ length xs + others.place (k - length ys)
  after_block k is = rw is refl

  within : (k : ℕ) → k < length (ys ++ rest_drawn) → at k < length (xs ++ rest)
  within k lt =
      let count : length (xs ++ rest) ≡ length xs + length rest = length-append xs rest in
      let drawn : length (ys ++ rest_drawn) ≡ length ys + length rest_drawn = length-append ys rest_drawn in
      elim (cases_Bool (nat_lt k (length ys))) [
        | inl is ↦
            let below : k < length ys = grind (arith, nat_tests, is) in
            let there = block.within k below in
            omega (arith, in_block k is, there, count)
        | inr is ↦
            let above : length ys ≤ k = grind (arith, nat_tests, is) in
            let there = others.within (k - length ys) (omega (arith, lt, drawn, above)) in
            omega (arith, after_block k is, there, count)
      ]

  same : (k : ℕ) → k < length (ys ++ rest_drawn) → slice_index (ys ++ rest_drawn) k ≡ slice_index (xs ++ rest) (at k)
  same k lt =
      let drawn : length (ys ++ rest_drawn) ≡ length ys + length rest_drawn = length-append ys rest_drawn in
      elim (cases_Bool (nat_lt k (length ys))) [
        | inl is ↦
            let below : k < length ys = grind (arith, nat_tests, is) in
            get_or_append_left ys rest_drawn 0 k below ∙ block.same k below
            ∙ sym (get_or_append_left xs rest 0 (block.place k) (block.within k below))
            ∙ ap (λ (i : ℕ). slice_index (xs ++ rest) i) (sym (in_block k is))
        | inr is ↦
            let above : length ys ≤ k = grind (arith, nat_tests, is) in
            let later : k - length ys < length rest_drawn = omega (arith, lt, drawn, above) in
            let place : ℕ = others.place (k - length ys) in
            let back : length xs + place - length xs ≡ place = omega arith in
            get_or-append_right ys rest_drawn k 0 above ∙ others.same (k - length ys) later
            ∙ ap (λ (i : ℕ). slice_index rest i) (sym back)
            ∙ sym (get_or-append_right xs rest (length xs + place) 0 (omega arith))
            ∙ ap (λ (i : ℕ). slice_index (xs ++ rest) i) (sym (after_block k is))
      ]

  in_order : (i j : ℕ) → i ≤ j → j < length (ys ++ rest_drawn) → at i ≤ at j
  in_order i j le lt =
      let drawn : length (ys ++ rest_drawn) ≡ length ys + length rest_drawn = length-append ys rest_drawn in
      elim (cases_Bool (nat_lt i (length ys))) [
        | inl first ↦ elim (cases_Bool (nat_lt j (length ys))) [
          | inl second ↦
              let below : j < length ys = grind (arith, nat_tests, second) in
              omega (arith, in_block i first, in_block j second, block.in_order i j le below)
          | inr second ↦
              let below : i < length ys = grind (arith, nat_tests, first) in
              omega (arith, in_block i first, after_block j second, block.within i below)
        ]
        | inr first ↦ elim (cases_Bool (nat_lt j (length ys))) [
          | inl second ↦
              let below : j < length ys = grind (arith, nat_tests, second) in
              let above : length ys ≤ i = grind (arith, nat_tests, first) in
              absurd (omega (arith, below, above, le))
          | inr second ↦
              let above : length ys ≤ i = grind (arith, nat_tests, first) in
              let later : i - length ys ≤ j - length ys = omega (arith, le) in
              let inside : j - length ys < length rest_drawn = omega (arith, lt, drawn, above, le) in
              omega (arith, after_block i first, after_block j second, others.in_order (i - length ys) (j - length ys) later inside)
        ]
      ]

  pub DrawsInOrder-beside : DrawsInOrder (xs ++ rest) (ys ++ rest_drawn)
  DrawsInOrder-beside = record { place = at; within = within; same = same; in_order = in_order }
