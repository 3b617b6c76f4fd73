-- what one step along contours does
use Rattle.std.proofs.Common.{◌≡◌, ℕ, ◌<◌, ◌≤◌, ◌+◌, List, [], ◌∷◌, ◌++◌, Option, true, false, length, get_or, drop, refl, ap, sym, ◌∙◌, append_assoc, arith}
use Rattle.std.proofs.lemmas.List.{append-nil, at_drop_more, at_drop_all}
use Rattle.glyph_outlines.specs.Contours.{lead, led, closing, control_after, last_of, contour_from, contour, outline}
use Rattle.glyph_outlines.specs.declared.frame.Point.{Point}
use Rattle.glyph_outlines.specs.declared.frame.OutlinePoint.{OutlinePoint}
use Rattle.glyph_outlines.specs.declared.segments.Segment.{Segment}

pub led_step : (before : List Segment) (start : Point) (control : Option Point) (points : List Point) (i : ℕ) (d : Point) → i < length points
    → before ++ led start control (drop i points)
    ≡ (before ++ lead control (get_or points i d)) ++ led start (control_after (get_or points i d)) (drop (i + 1) points)
led_step before start control points i d h =
    ap (λ rest. before ++ rest) (at_drop_more (led start control) points i d h) ∙ rw append_assoc refl

pub led_end : (before : List Segment) (start : Point) (control : Option Point) (points : List Point) (i : ℕ) → length points ≤ i
    → before ++ led start control (drop i points) ≡ before ++ closing start control
led_end before start control points i h = ap (λ rest. before ++ rest) (at_drop_all (led start control) points i h)

pub outline_goes_on : (before : List Segment) (begun : List Point) (points : List OutlinePoint) (i : ℕ) (d : OutlinePoint) → i < length points
    → (get_or points i d).ends ≡ false
    → before ++ outline begun (drop i points) ≡ before ++ outline (begun ++ (get_or points i d).point ∷ []) (drop (i + 1) points)
outline_goes_on before begun points i d h goes =
    let now : outline begun (drop i points) ≡ outline (begun ++ (get_or points i d).point ∷ []) (drop (i + 1) points) =
    at_drop_more (outline begun) points i d h ∙ rw goes refl in
    ap (λ rest. before ++ rest) now

pub outline_closes : (before : List Segment) (begun : List Point) (points : List OutlinePoint) (i : ℕ) (d : OutlinePoint) → i < length points
    → (get_or points i d).ends ≡ true
    → before ++ outline begun (drop i points)
    ≡ (before ++ contour (begun ++ (get_or points i d).point ∷ [])) ++ outline [] (drop (i + 1) points)
outline_closes before begun points i d h ends =
    let now : outline begun (drop i points) ≡ contour (begun ++ (get_or points i d).point ∷ []) ++ outline [] (drop (i + 1) points) =
    at_drop_more (outline begun) points i d h ∙ rw ends refl in
    ap (λ rest. before ++ rest) now ∙ sym (append_assoc before (contour (begun ++ (get_or points i d).point ∷ [])) (outline [] (drop (i + 1) points)))

pub outline_over : (before : List Segment) (begun : List Point) (points : List OutlinePoint) (i : ℕ) → length points ≤ i
    → before ++ outline begun (drop i points) ≡ before
outline_over before begun points i h =
    ap (λ rest. before ++ rest) (at_drop_all (outline begun) points i h) ∙ append-nil before

pub last_step : (p : Point) (points : List Point) (i : ℕ) (d : Point) → i < length points
    → last_of p (drop i points) ≡ last_of (get_or points i d) (drop (i + 1) points)
last_step p points i d h = at_drop_more (last_of p) points i d h

pub last_end : (p : Point) (points : List Point) (i : ℕ) → length points ≤ i → last_of p (drop i points) ≡ p
last_end p points i h = at_drop_all (last_of p) points i h

pub contour_joined : (before led : List Segment) (m c : Segment) → ((before ++ m ∷ []) ++ led) ++ c ∷ [] ≡ before ++ m ∷ (led ++ c ∷ [])
contour_joined before led m c = simp append_assoc

pub contour_begun : (points : List Point) (d : Point) → 0 < length points → contour_from (get_or points 0 d) points ≡ contour points
contour_begun [] d h = absurd (omega (arith, h))
contour_begun (p ∷ ps) d h = refl

pub no_contour : (before : List Segment) (points : List Point) → length points ≡ 0 → before ++ contour points ≡ before
no_contour before [] h = append-nil before
no_contour before (p ∷ ps) h = absurd (omega (arith, h))
