-- Stretched glyphs are drawn from the list in its order, some more than once, and none has a flag of its own.
use Rattle.std.proofs.Common.{◌≡◌, ◌||◌, ℕ, zero, suc, Bool, true, false, Option, None, Some, List, [], ◌∷◌, ◌++◌, map, refl, arith}
use Rattle.shape_common.specs.Face.{FaceMeaning}
use Rattle.shape_common.specs.declared.positions.GlyphPosition.{GlyphPosition}
use Rattle.shape_items.specs.Clusters.{clusters}
use Rattle.shape_items.specs.Items.{Item}
use Rattle.shape_items.specs.PreservesFlags.{has_flag, some_has}
use Rattle.shape_items.proofs.Order.DrawsInOrder.{DrawsInOrder, DrawsInOrder-same, DrawsInOrder-after, DrawsInOrder-again}
use Rattle.arabic_stretching.specs.Copying.{moved, copies_of, extra_copies, closer, pen_at, fit_for, next_glyphs, next_walk, stretched_from}
use Rattle.arabic_stretching.specs.Stretching.{glyphs_from, glyph_info}
use Rattle.arabic_stretching.specs.declared.copying.Pen.{Pen}
use Rattle.arabic_stretching.specs.declared.fitting.Fit.{Fit}
use Rattle.arabic_stretching.specs.declared.fitting.Glyph.{Glyph}

-- the clusters of glyphs
abbrev pub keys : List Glyph → List ℕ
keys gs = clusters (map glyph_info gs)

-- a flag stands in some mask
abbrev pub some_of : ℕ → List Glyph → Bool
some_of flag gs = some_has flag (map glyph_info gs)

-- ---- copies of one glyph before others

draws-copies : (p : Pen) (g : Glyph) (n : ℕ) (cs : List ℕ) (ys : List Glyph) → DrawsInOrder (g.info.cluster ∷ cs) (keys ys)
    → DrawsInOrder (g.info.cluster ∷ cs) (keys (copies_of p g n ++ ys))
draws-copies p g zero cs ys rest = rest
draws-copies p g (suc n) cs ys rest =
    DrawsInOrder-again g.info.cluster cs (keys (copies_of (moved p) g n ++ ys)) (draws-copies (moved p) g n cs ys rest)

draws-next : (face : FaceMeaning) (right_to_left : Bool) (fit : Option Fit) (g : Glyph) (cs : List ℕ) (ys : List Glyph) → DrawsInOrder cs (keys ys)
    → DrawsInOrder (g.info.cluster ∷ cs) (keys (next_glyphs face right_to_left fit g ++ ys))
draws-next face right_to_left None g cs ys rest =
    DrawsInOrder-again g.info.cluster cs (keys ys) (DrawsInOrder-after g.info.cluster cs (keys ys) rest)
draws-next face right_to_left (Some fit) g cs ys rest =
    let p = closer fit (moved (pen_at face right_to_left fit g)) in
    DrawsInOrder-again g.info.cluster cs (keys (copies_of p g (extra_copies fit g) ++ ys))
    (draws-copies p g (extra_copies fit g) cs ys (DrawsInOrder-after g.info.cluster cs (keys ys) rest))

module _ (face : FaceMeaning) (right_to_left : Bool) where
  pub stretched-draws : (walk : Option Fit) (gs : List Glyph) → DrawsInOrder (keys gs) (keys (stretched_from face right_to_left walk gs))
  stretched-draws walk [] = DrawsInOrder-same []
  stretched-draws walk (g ∷ gs) =
      let fit = fit_for face walk g (g ∷ gs) in
      let next = next_walk face right_to_left fit g in
      draws-next face right_to_left fit g (keys gs) (stretched_from face right_to_left next gs) (stretched-draws next gs)

-- ---- flags

or_left : (a b c : Bool) → (b ≡ true → c ≡ true) → (a || b) ≡ true → (a || c) ≡ true
or_left true b c more some = refl
or_left false b c more some = more some

or_same : (a b c : Bool) → (b ≡ true → (a || c) ≡ true) → (a || b) ≡ true → (a || c) ≡ true
or_same true b c more some = refl
or_same false b c more some = more some

or_right : (a b : Bool) → b ≡ true → (a || b) ≡ true
or_right true b some = refl
or_right false b some = some

some-copies : (flag : ℕ) (p : Pen) (g : Glyph) (n : ℕ) (c : Bool) (ys : List Glyph) → (some_of flag ys ≡ true → (has_flag flag g.info || c) ≡ true)
    → some_of flag (copies_of p g n ++ ys) ≡ true → (has_flag flag g.info || c) ≡ true
some-copies flag p g zero c ys rest = rest
some-copies flag p g (suc n) c ys rest =
    or_same (has_flag flag g.info) (some_of flag (copies_of (moved p) g n ++ ys)) c (some-copies flag (moved p) g n c ys rest)

some-next : (flag : ℕ) (face : FaceMeaning) (right_to_left : Bool) (fit : Option Fit) (g : Glyph) (c : Bool) (ys : List Glyph)
    → (some_of flag ys ≡ true → c ≡ true) → some_of flag (next_glyphs face right_to_left fit g ++ ys) ≡ true → (has_flag flag g.info || c) ≡ true
some-next flag face right_to_left None g c ys rest = or_left (has_flag flag g.info) (some_of flag ys) c rest
some-next flag face right_to_left (Some fit) g c ys rest =
    let p = closer fit (moved (pen_at face right_to_left fit g)) in
    or_same (has_flag flag g.info) (some_of flag (copies_of p g (extra_copies fit g) ++ ys)) c
    (some-copies flag p g (extra_copies fit g) c ys (λ e. or_right (has_flag flag g.info) c (rest e)))

module _ (flag : ℕ) (face : FaceMeaning) (right_to_left : Bool) where
  pub stretched-some : (walk : Option Fit) (gs : List Glyph) → some_of flag (stretched_from face right_to_left walk gs) ≡ true
      → some_of flag gs ≡ true
  stretched-some walk [] = λ some. some
  stretched-some walk (g ∷ gs) =
      let fit = fit_for face walk g (g ∷ gs) in
      let next = next_walk face right_to_left fit g in
      some-next flag face right_to_left fit g (some_of flag gs) (stretched_from face right_to_left next gs) (stretched-some next gs)

-- ---- the glyphs of a buffer

pub glyphs-draws : (xs : List Item) (ps : List GlyphPosition) → DrawsInOrder (clusters xs) (keys (glyphs_from xs ps))
glyphs-draws [] ps = DrawsInOrder-same []
glyphs-draws (x ∷ xs) [] = record { place = λ k. k; within = λ k lt. absurd (omega (arith, lt)); same = λ k lt. absurd (omega (arith, lt)); in_order = λ i j le lt. le }
glyphs-draws (x ∷ xs) (p ∷ ps) =
    DrawsInOrder-again x.cluster (clusters xs) (keys (glyphs_from xs ps))
    (DrawsInOrder-after x.cluster (clusters xs) (keys (glyphs_from xs ps)) (glyphs-draws xs ps))

pub glyphs-some : (flag : ℕ) (xs : List Item) (ps : List GlyphPosition) → some_of flag (glyphs_from xs ps) ≡ true → some_has flag xs ≡ true
glyphs-some flag [] ps some = some
glyphs-some flag (x ∷ xs) [] some = absurd (let e : false ≡ true = some in cc)
glyphs-some flag (x ∷ xs) (p ∷ ps) some =
    or_left (has_flag flag x) (some_of flag (glyphs_from xs ps)) (some_has flag xs) (glyphs-some flag xs ps) some
