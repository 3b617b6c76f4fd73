-- what one step over components, coordinates and parts does
use Rattle.std.proofs.Common.{◌≡◌, ◌∙◌, ℕ, ℤ, suc, ◌<◌, ◌≤◌, ◌+◌, ◌-◌, List, [], ◌∷◌, ◌++◌, Some, None, true, false, nat_le, length, get_or, drop, refl, ap, append_assoc, arith}
use Rattle.std.specs.Prelude.{map, pos}
use Rattle.std.specs.Ordering.{int_eq}
use Rattle.std.proofs.lemmas.List.{append-nil, at_drop_more, at_drop_all}
use Rattle.glyf_points.specs.declared.composite.Component.{Component}
use Rattle.glyf_points.specs.declared.simple.GlyphPoint.{GlyphPoint}
use Rattle.shape_font.specs.BoxesAt.{Gathered, all_moved, is_moved, offset_of, part_step, parts_from}
use Rattle.shape_font.specs.Face.{is_default}
use Rattle.shape_font.specs.declared.face.FontFace.{FontFace}

pub moved_next : (cs : List Component) (i : ℕ) (d : Component) → i < length cs → is_moved (get_or cs i d) ≡ true
    → all_moved (drop i cs) ≡ all_moved (drop (i + 1) cs)
moved_next cs i d h is = at_drop_more all_moved cs i d h ∙ rw is refl

pub moved_not : (cs : List Component) (i : ℕ) (d : Component) → i < length cs → is_moved (get_or cs i d) ≡ false
    → all_moved (drop i cs) ≡ false
moved_not cs i d h is = at_drop_more all_moved cs i d h ∙ rw is refl

pub moved_end : (cs : List Component) (i : ℕ) → length cs ≤ i → all_moved (drop i cs) ≡ true
moved_end cs i h = at_drop_all all_moved cs i h

pub default_next : (cs : List ℤ) (i : ℕ) (d : ℤ) → i < length cs → int_eq (get_or cs i d) (pos 0) ≡ true
    → is_default (drop i cs) ≡ is_default (drop (i + 1) cs)
default_next cs i d h is = at_drop_more is_default cs i d h ∙ rw is refl

pub default_not : (cs : List ℤ) (i : ℕ) (d : ℤ) → i < length cs → int_eq (get_or cs i d) (pos 0) ≡ false → is_default (drop i cs) ≡ false
default_not cs i d h is = at_drop_more is_default cs i d h ∙ rw is refl

pub default_end : (cs : List ℤ) (i : ℕ) → length cs ≤ i → is_default (drop i cs) ≡ true
default_end cs i h = at_drop_all is_default cs i h

pub offsets_next : (before : List GlyphPoint) (cs : List Component) (i : ℕ) (d : Component) → i < length cs
    → before ++ map offset_of (drop i cs) ≡ (before ++ offset_of (get_or cs i d) ∷ []) ++ map offset_of (drop (i + 1) cs)
offsets_next before cs i d h = ap (λ rest. before ++ rest) (at_drop_more (map offset_of) cs i d h) ∙ rw append_assoc refl

pub offsets_end : (before : List GlyphPoint) (cs : List Component) (i : ℕ) → length cs ≤ i → before ++ map offset_of (drop i cs) ≡ before
offsets_end before cs i h = ap (λ rest. before ++ rest) (at_drop_all (map offset_of) cs i h) ∙ append-nil before

pub parts_next : (f : FontFace) (n i : ℕ) (g h : Gathered) → i < n → nat_le (length g.parts) i ≡ false → part_step f i g ≡ Some h
    → parts_from f (n - i) i g ≡ parts_from f (n - (i + 1)) (i + 1) h
parts_next f n i g h less more is =
    let e : n - i ≡ suc (n - (i + 1)) = omega arith in
    rw e (rw (more, is, parts_from) refl)

pub parts_done : (f : FontFace) (n i : ℕ) (g : Gathered) → i < n → nat_le (length g.parts) i ≡ true → parts_from f (n - i) i g ≡ Some g
parts_done f n i g less more =
    let e : n - i ≡ suc (n - (i + 1)) = omega arith in
    rw e (rw (more, parts_from) refl)

pub parts_refused : (f : FontFace) (n i : ℕ) (g : Gathered) → i < n → nat_le (length g.parts) i ≡ false → part_step f i g ≡ None
    → parts_from f (n - i) i g ≡ None
parts_refused f n i g less more is =
    let e : n - i ≡ suc (n - (i + 1)) = omega arith in
    rw e (rw (more, is, parts_from) refl)

pub parts_end : (f : FontFace) (n i : ℕ) (g : Gathered) → parts_from f (n - n) i g ≡ Some g
parts_end f n i g =
    let e : n - n ≡ 0 = omega arith in
    rw e refl
