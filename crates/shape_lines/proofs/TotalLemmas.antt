-- Sums of widths: pieces side by side, and how large a sum can be.
use Rattle.std.proofs.Common.{◌≡◌, ℕ, zero, suc, ◌+◌, ◌-◌, ◌*◌, ◌<◌, ◌≤◌, true, ℤ, pos, ◌+ℤ◌, ◌≤ℤ◌, List, [], ◌∷◌, length, take, drop, get_or, refl, sym, ap, ◌∙◌, arith}
use Rattle.std.proofs.lemmas.Int.{ints}
use Rattle.std.proofs.lemmas.List.{drop-drop, drop_more}
use Rattle.shape_lines.specs.declared.reading.Piece.{Piece}
use Rattle.shape_lines.specs.Pieces.{total, width_between, is_end, AreNarrow, IsNarrow}

pub total-take : (n m : ℕ) (ps : List Piece) → total (take (n + m) ps) ≡ total (take n ps) +ℤ total (take m (drop n ps))
total-take zero m ps =
    let e : zero + m ≡ m = omega arith in
    rw e (omega (arith, ints))
total-take (suc n) m [] =
    let e : suc n + m ≡ suc (n + m) = omega arith in
    rw e (take_nil m)
  where
    take_nil : (m : ℕ) → pos 0 ≡ pos 0 +ℤ total (take m [])
    take_nil zero = refl
    take_nil (suc m) = refl
total-take (suc n) m (p ∷ ps) =
    let e : suc n + m ≡ suc (n + m) = omega arith in
    let rest = total-take n m ps in
    rw e (omega (arith, ints, rest))

-- a piece from one place to another, cut at a place between
pub width-split : (ps : List Piece) (a b c : ℕ) → a ≤ b → b ≤ c → width_between ps a c ≡ width_between ps a b +ℤ width_between ps b c
width-split ps a b c le le' =
    let whole : c - a ≡ (b - a) + (c - b) = omega arith in
    let there : a + (b - a) ≡ b = omega arith in
    ap (λ n. total (take n (drop a ps))) whole ∙ total-take (b - a) (c - b) (drop a ps)
    ∙ ap (λ l. total (take (b - a) (drop a ps)) +ℤ total (take (c - b) l)) (drop-drop (b - a) a ps ∙ ap (λ n. drop n ps) there)

pub width-none : (ps : List Piece) (a : ℕ) → width_between ps a a ≡ pos 0
width-none ps a = let none : a - a ≡ 0 = omega arith in ap (λ n. total (take n (drop a ps))) none

pub width-one : (ps : List Piece) (k : ℕ) (p : Piece) → k < length ps → width_between ps k (k + 1) ≡ (get_or ps k p).width
width-one ps k p lt =
    let one : (k + 1) - k ≡ 1 = omega arith in
    ap (λ n. total (take n (drop k ps))) one ∙ ap (λ l. total (take 1 l)) (drop_more ps k p lt) ∙ omega (arith, ints)

-- one piece more
pub width-more : (ps : List Piece) (a k : ℕ) (p : Piece) → a ≤ k → k < length ps → p ≡ get_or ps k p
    → width_between ps a (k + 1) ≡ width_between ps a k +ℤ p.width
width-more ps a k p le lt is =
    width-split ps a k (k + 1) le (omega arith) ∙ ap (λ w. width_between ps a k +ℤ w) (width-one ps k p lt ∙ ap (λ (q : Piece). q.width) (sym is))

-- within the bounds of a sum of so many widths
abbrev pub IsWithin : ℕ → ℤ → Type 0
IsWithin n z = (pos 0 ≤ℤ (z +ℤ pos (n * 2147483648))) × (z ≤ℤ pos (n * 2147483648))

pub IsWithin-total : (ps : List Piece) → AreNarrow ps → IsWithin (length ps) (total ps)
IsWithin-total [] h = (omega (arith, ints), omega (arith, ints))
IsWithin-total (p ∷ ps) h =
    let rest = IsWithin-total ps h.1 in
    let low = rest.0 in
    let high = rest.1 in
    let above = h.0.above in
    let below = h.0.below in
    (omega (arith, ints), omega (arith, ints))

pub narrow-take : (n : ℕ) (ps : List Piece) → AreNarrow ps → AreNarrow (take n ps)
narrow-take zero ps h = tt
narrow-take (suc n) [] h = tt
narrow-take (suc n) (p ∷ ps) h = (h.0, narrow-take n ps h.1)

pub narrow-drop : (n : ℕ) (ps : List Piece) → AreNarrow ps → AreNarrow (drop n ps)
narrow-drop zero ps h = h
narrow-drop (suc n) [] h = tt
narrow-drop (suc n) (p ∷ ps) h = narrow-drop n ps h.1

-- an end of the rest is one of the whole
pub is_end-drop : (k m : ℕ) (ps : List Piece) → k ≤ length ps → is_end (drop k ps) m ≡ is_end ps (k + m)
is_end-drop zero m ps le = let e : zero + m ≡ m = omega arith in rw e refl
is_end-drop (suc k) m [] le = absurd (omega arith)
is_end-drop (suc k) m (p ∷ ps) le =
    let e : suc k + m ≡ suc (k + m) = omega arith in
    rw e (is_end-drop k m ps (omega arith))

pub is_end-cut : (ps : List Piece) (k : ℕ) (p : Piece) → k < length ps → is_end ps k ≡ (get_or ps k p).cut
is_end-cut [] k p lt = absurd (omega arith)
is_end-cut (q ∷ ps) zero p lt = refl
is_end-cut (q ∷ ps) (suc k) p lt = is_end-cut ps k p (omega arith)

pub is_end-last : (ps : List Piece) → is_end ps (length ps) ≡ true
is_end-last [] = refl
is_end-last (p ∷ ps) = is_end-last ps
