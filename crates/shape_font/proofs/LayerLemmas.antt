-- the box of layers, layer by layer
use Prim.Native.Nat.{zero}
use Rattle.std.proofs.Common.{◌≡◌, ℕ, suc, ◌+◌, ◌-◌, ◌<◌, Some, None, refl, ap, arith}
use Rattle.shape_font.specs.Colors.{layer_glyph}
use Rattle.shape_font.specs.Face.{layer_walked, covering, layers_from}
use Rattle.shape_font.specs.declared.face.FontFace.{FontFace}
use Rattle.shape_font.specs.declared.face.boxes.Walked.{Walked}

pub layers_next : (f : FontFace) (first n k : ℕ) (w layer : Walked) → k < n
    → layer_walked f w.left (layer_glyph f.colr.now (first + k)) ≡ Some layer
    → layers_from f (first + k) (n - k) w ≡ layers_from f (first + (k + 1)) (n - (k + 1)) (covering w layer)
layers_next f first n k w layer within is =
    let one : n - k ≡ suc (n - (k + 1)) = omega (arith, within) in
    let next : suc (first + k) ≡ first + (k + 1) = omega arith in
    rw (one, is) (ap (λ i. layers_from f i (n - (k + 1)) (covering w layer)) next)

pub layers_refused : (f : FontFace) (first n k : ℕ) (w : Walked) → k < n
    → layer_walked f w.left (layer_glyph f.colr.now (first + k)) ≡ None → layers_from f (first + k) (n - k) w ≡ None
layers_refused f first n k w within is =
    let one : n - k ≡ suc (n - (k + 1)) = omega (arith, within) in
    rw (one, is) refl

pub layers_end : (f : FontFace) (first n : ℕ) (w : Walked) → layers_from f (first + n) (n - n) w ≡ Some w
layers_end f first n w =
    let none : n - n ≡ zero = omega arith in
    rw none refl
