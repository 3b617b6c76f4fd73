-- Glyphs as they are cut at allowed places: which clusters a list that rises has, and what is read at a place.
use Rattle.std.proofs.Common.{◌≡◌, ℕ, zero, suc, ◌+◌, ◌-◌, ◌<◌, ◌≤◌, ◌==◌, ◌&&◌, ◌||◌, not, Bool, true, false, ℤ, List, [], ◌∷◌, ◌++◌, length, take, drop, get_or, refl, sym, ap, ap₂, ◌∙◌, arith, inl, inr, ne_eqb, eq-eqb}
use Rattle.std.proofs.lemmas.Bool.{cases_lt}
use Rattle.std.proofs.lemmas.Bool.Decides.{nat_tests}
use Rattle.std.proofs.lemmas.List.{drop_more, drop_all, get_or-drop, length-drop, take_more}
use Rattle.std.specs.List.Sorted.{IsNonDecreasing}
use Rattle.std.specs.Prelude.{nat_lt}
use Rattle.shape_items.specs.Buffer.{Buffer}
use Rattle.shape_lines.specs.Pieces.{pieces_after, pieces_of}
use Rattle.shape_lines.specs.Places.{cluster_at}
use Rattle.shape_lines.specs.Spots.{has, marks_of, spots_after, spots_of, spot_at, the_end}
use Rattle.shape_lines.specs.TextOrder.{Glyph, text_order}
use Rattle.shape_lines.specs.declared.reading.Piece.{Piece}
use Rattle.shape_lines.specs.declared.spots.Spot.{Spot}
use Rattle.shape_lines.proofs.PieceLemmas.{before_of, before-first}
use Rattle.shape_lines.proofs.TextOrderLemmas.{length-text}

-- ---- a list that rises

none_above : (xs : List ℕ) (c : ℕ) → ((k : ℕ) → k < length xs → c < get_or xs k 0) → has xs c ≡ false
none_above [] c above = refl
none_above (x ∷ xs) c above =
    let first : c < x = above 0 (omega arith) in
    let apart : (x == c) ≡ false = ne_eqb x c (λ e. omega arith) in
    ap (λ t. t || has xs c) apart ∙ none_above xs c (λ k lt. above (suc k) (omega arith))

none_below : (xs : List ℕ) (n c : ℕ) → n ≤ length xs → ((k : ℕ) → k < n → get_or xs k 0 < c) → has xs c ≡ has (drop n xs) c
none_below xs zero c le below = refl
none_below [] (suc n) c le below = refl
none_below (x ∷ xs) (suc n) c le below =
    let first : x < c = below 0 (omega arith) in
    let apart : (x == c) ≡ false = ne_eqb x c (λ e. omega arith) in
    ap (λ t. t || has xs c) apart ∙ none_below xs n c (omega arith) (λ k lt. below (suc k) (omega arith))

next_has : (xs : List ℕ) (n c : ℕ) → IsNonDecreasing xs → n < length xs → c ≤ get_or xs n 0
    → ((get_or xs n 0 == c) || has (drop (n + 1) xs) c) ≡ (get_or xs n 0 == c)
next_has xs n c rise lt reached =
    let y = get_or xs n 0 in
    elim (cases_lt c y) [
      | inl less ↦
          let apart : (y == c) ≡ false = ne_eqb y c (λ e. omega arith) in
          let long = length-drop (n + 1) xs in
          let rest = none_above (drop (n + 1) xs) c (λ k within.
          let up = rise n (n + 1 + k) 0 (omega arith) (omega arith) in
          let at = get_or-drop (n + 1) xs k 0 in
          omega arith) in
          ap₂ (λ s t. s || t) apart rest ∙ sym apart
      | inr le ↦
          let e : y ≡ c = omega arith in
          let yes : (y == c) ≡ true = eq-eqb y c e in
          ap (λ t. t || has (drop (n + 1) xs) c) yes ∙ sym yes
    ]

-- what was passed is below a cluster, and what comes next isn't
pub has-next : (xs : List ℕ) (n c : ℕ) → IsNonDecreasing xs → n ≤ length xs → ((k : ℕ) → k < n → get_or xs k 0 < c)
    → (n < length xs → c ≤ get_or xs n 0) → (nat_lt n (length xs) && (get_or xs n 0 == c)) ≡ has xs c
has-next xs n c rise le below reached =
    elim (cases_lt n (length xs)) [
      | inl lt ↦
          let test : nat_lt n (length xs) ≡ true = grind (arith, nat_tests, lt) in
          ap (λ t. t && (get_or xs n 0 == c)) test ∙ sym (next_has xs n c rise lt (reached lt))
          ∙ sym (ap (λ l. has l c) (drop_more xs n 0 lt)) ∙ sym (none_below xs n c le below)
      | inr ge ↦
          let test : nat_lt n (length xs) ≡ false = grind (arith, nat_tests, ge) in
          ap (λ t. t && (get_or xs n 0 == c)) test
          ∙ sym (ap (λ l. has l c) (drop_all n xs ge)) ∙ sym (none_below xs n c le below)
    ]

-- ---- marks

pub length-marks : (xs : List ℕ) (gs : List Glyph) → length (marks_of xs gs) ≡ length gs
length-marks xs [] = refl
length-marks xs (g ∷ gs) = ap suc (length-marks xs gs)

pub mark-at : (xs : List ℕ) (gs : List Glyph) (k : ℕ) (d : Bool) → k < length gs → get_or (marks_of xs gs) k d ≡ has xs (cluster_at gs k)
mark-at xs [] k d lt = absurd (omega arith)
mark-at xs (g ∷ gs) zero d lt = refl
mark-at xs (g ∷ gs) (suc k) d lt = mark-at xs gs k d (omega arith)

-- ---- what is read at a place

abbrev pub spot : ℤ → Bool → Bool → Bool → Bool → Spot
spot w a m s p = record { width = w; allowed = a; mandatory = m; safe = s; space = p }

pub length-spots : (a m s : List ℕ) (before : ℕ) (gs : List Glyph) → length (spots_after a m s before gs) ≡ length gs
length-spots a m s before [] = refl
length-spots a m s before (g ∷ gs) = ap suc (length-spots a m s g.cluster gs)

pub length-spots_of : (b : Buffer) (a m s : List ℕ) → length (spots_of b a m s) ≡ length b.items
length-spots_of b a m s = length-spots a m s (cluster_at (text_order b) 0) (text_order b) ∙ length-text b

spot-after : (a m s : List ℕ) (before : ℕ) (gs : List Glyph) (k : ℕ) (d : Spot) (p : Piece) → k < length gs
    → get_or (spots_after a m s before gs) k d
    ≡ spot (get_or (pieces_after before gs) k p).width (not (cluster_at gs k == before_of before gs k) && has a (cluster_at gs k))
    (not (cluster_at gs k == before_of before gs k) && has m (cluster_at gs k)) (get_or (pieces_after before gs) k p).cut (has s (cluster_at gs k))
spot-after a m s before [] k d p lt = absurd (omega arith)
spot-after a m s before (g ∷ gs) zero d p lt = refl
spot-after a m s before (g ∷ gs) (suc zero) d p lt = spot-after a m s g.cluster gs zero d p (omega arith)
spot-after a m s before (g ∷ gs) (suc (suc k)) d p lt = spot-after a m s g.cluster gs (suc k) d p (omega arith)

pub spot-read : (b : Buffer) (a m s : List ℕ) (k : ℕ) (d : Spot) (p : Piece) (begins am mm sm : Bool) → k < length b.items
    → p ≡ get_or (pieces_of b) k p → begins ≡ not (cluster_at (text_order b) k == cluster_at (text_order b) (k - 1))
    → am ≡ has a (cluster_at (text_order b) k) → mm ≡ has m (cluster_at (text_order b) k) → sm ≡ has s (cluster_at (text_order b) k)
    → spot p.width (begins && am) (begins && mm) p.cut sm ≡ get_or (spots_of b a m s) k d
spot-read b a m s k d p begins am mm sm lt is begins_is am_is mm_is sm_is =
    let gs = text_order b in
    let short : k < length gs = omega (arith, length-text b, lt) in
    let q : Piece = get_or (pieces_of b) k p in
    let begins_at : begins ≡ not (cluster_at gs k == before_of (cluster_at gs 0) gs k) =
    begins_is ∙ ap (λ (n : ℕ). not (cluster_at gs k == n)) (sym (before-first gs k)) in
    ap (λ (r : Piece). spot r.width (begins && am) (begins && mm) r.cut sm) is
    ∙ ap (λ t. spot q.width (t && am) (t && mm) q.cut sm) begins_at
    ∙ ap₂ (λ t u. spot q.width (not (cluster_at gs k == before_of (cluster_at gs 0) gs k) && t)
    (not (cluster_at gs k == before_of (cluster_at gs 0) gs k) && u) q.cut sm) am_is mm_is
    ∙ ap (λ t. spot q.width (not (cluster_at gs k == before_of (cluster_at gs 0) gs k) && has a (cluster_at gs k))
    (not (cluster_at gs k == before_of (cluster_at gs 0) gs k) && has m (cluster_at gs k)) q.cut t) sm_is
    ∙ sym (spot-after a m s (cluster_at gs 0) gs k d p short)

pub spot-get : (ss : List Spot) (k : ℕ) (d : Spot) → k < length ss → spot_at ss k ≡ get_or ss k d
spot-get [] k d lt = absurd (omega arith)
spot-get (p ∷ ss) zero d lt = refl
spot-get (p ∷ ss) (suc k) d lt = spot-get ss k d (omega arith)

pub spot-past : (ss : List Spot) (k : ℕ) → length ss ≤ k → spot_at ss k ≡ the_end
spot-past [] k le = refl
spot-past (p ∷ ss) zero le = absurd (omega arith)
spot-past (p ∷ ss) (suc k) le = spot-past ss k (omega arith)

-- ---- one more

pub spots_push : (all old new : List Spot) (n : ℕ) (v : Spot) → new ≡ old ++ v ∷ [] → old ≡ take n all → v ≡ get_or all n v → n < length all
    → new ≡ take (n + 1) all
spots_push all old new n v items are is lt =
    items ∙ ap (λ l. l ++ v ∷ []) are ∙ ap (λ x. take n all ++ x ∷ []) is ∙ sym (take_more all n v lt)

pub spot_same : (w w' : ℤ) (a a' m m' s p : Bool) → w ≡ w' → a ≡ a' → m ≡ m' → spot w a m s p ≡ spot w' a' m' s p
spot_same w w' a a' m m' s p ew ea em = ap (λ x. spot x a m s p) ew ∙ ap₂ (λ x y. spot w' x y s p) ea em
