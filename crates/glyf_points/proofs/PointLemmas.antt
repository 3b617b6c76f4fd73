-- what one step over points does
use Rattle.std.proofs.Common.{◌≡◌, ℕ, ℤ, suc, ◌<◌, ◌≤◌, ◌+◌, ◌*◌, List, [], ◌∷◌, ◌++◌, length, get_or, drop, refl, ap, ◌∙◌, append_assoc, arith}
use Rattle.std.proofs.lemmas.List.{append-nil, drop_more, at_drop_all}
use Rattle.font_bytes.specs.Bytes.{u16_of}
use Rattle.glyf_points.specs.Simple.{joined, point, marked, ends_marked}
use Rattle.glyf_points.specs.declared.simple.GlyphPoint.{GlyphPoint}

pub joined_step : (before : List GlyphPoint) (flags : List ℕ) (xs ys : List ℤ) (i d : ℕ) (e f : ℤ) → i < length flags → i < length xs
    → i < length ys
    → before ++ joined (drop i flags) (drop i xs) (drop i ys)
    ≡ (before ++ point (get_or flags i d) (get_or xs i e) (get_or ys i f) ∷ []) ++ joined (drop (i + 1) flags) (drop (i + 1) xs) (drop (i + 1) ys)
joined_step before flags xs ys i d e f h k l =
    let a : drop i flags ≡ get_or flags i d ∷ drop (i + 1) flags = drop_more flags i d h in
    let b : drop i xs ≡ get_or xs i e ∷ drop (i + 1) xs = drop_more xs i e k in
    let c : drop i ys ≡ get_or ys i f ∷ drop (i + 1) ys = drop_more ys i f l in
    rw a (rw b (rw c (rw append_assoc refl)))

pub joined_end : (before : List GlyphPoint) (flags : List ℕ) (xs ys : List ℤ) (i : ℕ) → length flags ≤ i
    → before ++ joined (drop i flags) (drop i xs) (drop i ys) ≡ before
joined_end before flags xs ys i h =
    ap (λ rest. before ++ rest) (at_drop_all (λ rest. joined rest (drop i xs) (drop i ys)) flags i h) ∙ append-nil before

pub marked_step : (t : List ℕ) (i : ℕ) (points : List GlyphPoint)
    → ends_marked t (i + 1) points ≡ marked (ends_marked t i points) (u16_of t (10 + 2 * i))
marked_step t i points =
    let e : i + 1 ≡ suc i = omega arith in
    rw e refl
