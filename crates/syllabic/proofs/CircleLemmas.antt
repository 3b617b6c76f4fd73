-- Dotted circles in broken syllables preserve the order of clusters and the flags of glyphs.
use Rattle.std.proofs.Common.{◌≡◌, ℕ, ◌&&◌, ◌||◌, not, Bool, true, false, if◌then◌else◌, List, [], ◌∷◌, ◌++◌, Option, None, Some, refl, sym, subst, ◌∙◌, inl, inr}
use Rattle.std.proofs.lemmas.Bool.{cases_Bool}
use Rattle.shape_common.specs.Face.{FaceMeaning}
use Rattle.shape_common.specs.declared.text_types.GlyphId.{GlyphId}
use Rattle.shape_items.specs.Buffer.{Buffer}
use Rattle.shape_items.specs.Clusters.{clusters}
use Rattle.shape_items.specs.Items.{Item}
use Rattle.shape_items.specs.PreservesFlags.{has_flag, some_has}
use Rattle.shape_items.proofs.Order.DrawsInOrder.{DrawsInOrder, DrawsInOrder-same, DrawsInOrder-after, DrawsInOrder-again}
use Rattle.syllabic.specs.Circles.{is_repha, taken_from, circle_of, begins, goes_on, held, listed, alone, circling_after, circled_items, circles_by, due_glyph, with_circles, no_circling}
use Rattle.syllabic.specs.declared.circles.Circled.{Circled}
use Rattle.syllabic.specs.declared.circles.Circling.{Circling}
use Rattle.syllabic.specs.declared.circles.Taken.{Taken}
use Rattle.syllabic.proofs.PreservationLemmas.{Preserved, Preserved-same, Preserved-replaced}

module _ (circled : Circled) (glyph : GlyphId) where
  -- what a step puts, and what waits after it, by three tests: whether a syllable begins, at a repha, and whether one goes on
  abbrev step_items : (b r g : Bool) → Taken → Option Taken → Item → List Item
  step_items b r g taken waiting x =
      listed circled glyph (if g then None else waiting) ++ listed circled glyph (if b && not r then Some taken else None) ++ alone x

  abbrev step_waiting : (b r g : Bool) → Taken → Option Taken → Item → Option Taken
  step_waiting b r g taken waiting x = if b then if r then Some taken else None else if g then held waiting x else None

  -- clusters drawn in order from others, and if a circle waits also from its own, which stands before them
  abbrev Drawn : Option Taken → ℕ → List ℕ → List ℕ → Type 0
  Drawn None p xs ys = DrawsInOrder xs ys
  Drawn (Some taken) p xs ys = taken.cluster ≡ p → DrawsInOrder (p ∷ xs) ys

  again : (x : ℕ) (xs ys : List ℕ) → DrawsInOrder xs ys → DrawsInOrder (x ∷ xs) (x ∷ ys)
  again x xs ys h = DrawsInOrder-again x xs ys (DrawsInOrder-after x xs ys h)

  -- a cluster that is the first one by another name
  named : (x y : ℕ) (xs ys : List ℕ) → y ≡ x → DrawsInOrder (x ∷ xs) ys → DrawsInOrder (x ∷ xs) (y ∷ ys)
  named x y xs ys same h = subst (λ z. DrawsInOrder (x ∷ xs) (z ∷ ys)) (sym same) (DrawsInOrder-again x xs ys h)

  step-drawn : (b r g : Bool) (t : Taken) (x : Item) → t.cluster ≡ x.cluster → (w : Option Taken) (p : ℕ) (xs : List ℕ) (rest : List Item)
      → Drawn (step_waiting b r g t w x) x.cluster xs (clusters rest)
      → Drawn w p (x.cluster ∷ xs) (clusters (step_items b r g t w x ++ rest))
  step-drawn true true true t x same None p xs rest h = DrawsInOrder-again x.cluster xs (clusters rest) (h same)
  step-drawn true true false t x same None p xs rest h = DrawsInOrder-again x.cluster xs (clusters rest) (h same)
  step-drawn true false true t x same None p xs rest h =
      named x.cluster t.cluster xs (x.cluster ∷ clusters rest) same (again x.cluster xs (clusters rest) h)
  step-drawn true false false t x same None p xs rest h =
      named x.cluster t.cluster xs (x.cluster ∷ clusters rest) same (again x.cluster xs (clusters rest) h)
  step-drawn false r true t x same None p xs rest h = again x.cluster xs (clusters rest) h
  step-drawn false r false t x same None p xs rest h = again x.cluster xs (clusters rest) h
  step-drawn true true true t x same (Some c) p xs rest h = λ is.
      DrawsInOrder-after p (x.cluster ∷ xs) (x.cluster ∷ clusters rest) (DrawsInOrder-again x.cluster xs (clusters rest) (h same))
  step-drawn true true false t x same (Some c) p xs rest h = λ is.
      named p c.cluster (x.cluster ∷ xs) (x.cluster ∷ clusters rest) is
      (DrawsInOrder-after p (x.cluster ∷ xs) (x.cluster ∷ clusters rest) (DrawsInOrder-again x.cluster xs (clusters rest) (h same)))
  step-drawn true false true t x same (Some c) p xs rest h = λ is.
      DrawsInOrder-after p (x.cluster ∷ xs) (t.cluster ∷ x.cluster ∷ clusters rest)
      (named x.cluster t.cluster xs (x.cluster ∷ clusters rest) same (again x.cluster xs (clusters rest) h))
  step-drawn true false false t x same (Some c) p xs rest h = λ is.
      named p c.cluster (x.cluster ∷ xs) (t.cluster ∷ x.cluster ∷ clusters rest) is
      (DrawsInOrder-after p (x.cluster ∷ xs) (t.cluster ∷ x.cluster ∷ clusters rest)
      (named x.cluster t.cluster xs (x.cluster ∷ clusters rest) same (again x.cluster xs (clusters rest) h)))
  step-drawn false r true t x same (Some c) p xs rest h = λ is.
      DrawsInOrder-after p (x.cluster ∷ xs) (x.cluster ∷ clusters rest) (DrawsInOrder-again x.cluster xs (clusters rest) (h refl))
  step-drawn false r false t x same (Some c) p xs rest h = λ is.
      named p c.cluster (x.cluster ∷ xs) (x.cluster ∷ clusters rest) is
      (DrawsInOrder-after p (x.cluster ∷ xs) (x.cluster ∷ clusters rest) (again x.cluster xs (clusters rest) h))

  end-drawn : (w : Option Taken) (p : ℕ) → Drawn w p [] (clusters (listed circled glyph w))
  end-drawn None p = DrawsInOrder-same []
  end-drawn (Some c) p = λ is. subst (λ z. DrawsInOrder (p ∷ []) (z ∷ [])) (sym is) (DrawsInOrder-same (p ∷ []))

  circled-drawn : (circling : Circling) (p : ℕ) (xs : List Item)
      → Drawn circling.waiting p (clusters xs) (clusters (circled_items circled glyph circling xs))
  circled-drawn circling p [] = end-drawn circling.waiting p
  circled-drawn circling p (x ∷ xs) =
      let next = circling_after circled circling x in
      step-drawn (begins circled circling x) (is_repha circled x) (goes_on circled circling x) (taken_from x) x refl
      circling.waiting p (clusters xs) (circled_items circled glyph next xs) (circled-drawn next x.cluster xs)

  circled-draws : (xs : List Item) → DrawsInOrder (clusters xs) (clusters (circled_items circled glyph no_circling xs))
  circled-draws xs = circled-drawn no_circling 0 xs

  -- ---- flags

  abbrev waiting_has : ℕ → Option Taken → Bool
  waiting_has flag None = false
  waiting_has flag (Some taken) = has_flag flag (circle_of circled glyph taken)

  -- if neither the item nor the circle that waits has a flag, what a step puts has it not
  step-lacks : (flag : ℕ) (b r g : Bool) (t : Taken) (x : Item) → has_flag flag (circle_of circled glyph t) ≡ has_flag flag x
      → has_flag flag x ≡ false → (w : Option Taken) → waiting_has flag w ≡ false → (rest : List Item)
      → (waiting_has flag (step_waiting b r g t w x) ≡ false → some_has flag rest ≡ false)
      → some_has flag (step_items b r g t w x ++ rest) ≡ false
  step-lacks flag true true true t x same bare None none rest h = rw bare (h (same ∙ bare))
  step-lacks flag true true false t x same bare None none rest h = rw bare (h (same ∙ bare))
  step-lacks flag true false true t x same bare None none rest h = let own = same ∙ bare in rw (own, bare) (h refl)
  step-lacks flag true false false t x same bare None none rest h = let own = same ∙ bare in rw (own, bare) (h refl)
  step-lacks flag false r true t x same bare None none rest h = rw bare (h refl)
  step-lacks flag false r false t x same bare None none rest h = rw bare (h refl)
  step-lacks flag true true true t x same bare (Some c) none rest h = rw bare (h (same ∙ bare))
  step-lacks flag true true false t x same bare (Some c) none rest h = rw (none, bare) (h (same ∙ bare))
  step-lacks flag true false true t x same bare (Some c) none rest h = let own = same ∙ bare in rw (own, bare) (h refl)
  step-lacks flag true false false t x same bare (Some c) none rest h = let own = same ∙ bare in rw (none, own, bare) (h refl)
  step-lacks flag false r true t x same bare (Some c) none rest h = rw bare (h none)
  step-lacks flag false r false t x same bare (Some c) none rest h = rw (none, bare) (h refl)

  or-none : (s t : Bool) → (s || t) ≡ false → (s ≡ false) × (t ≡ false)
  or-none false t e = (refl, e)
  or-none true t e = absurd (cc)

  listed-lacks : (flag : ℕ) (w : Option Taken) → waiting_has flag w ≡ false → some_has flag (listed circled glyph w) ≡ false
  listed-lacks flag None none = refl
  listed-lacks flag (Some c) none = rw none refl

  circled-lacks : (flag : ℕ) (circling : Circling) (xs : List Item) → waiting_has flag circling.waiting ≡ false
      → some_has flag xs ≡ false → some_has flag (circled_items circled glyph circling xs) ≡ false
  circled-lacks flag circling [] none lacks = listed-lacks flag circling.waiting none
  circled-lacks flag circling (x ∷ xs) none lacks =
      let next = circling_after circled circling x in
      let parts = or-none (has_flag flag x) (some_has flag xs) lacks in
      step-lacks flag (begins circled circling x) (is_repha circled x) (goes_on circled circling x) (taken_from x) x refl parts.0
      circling.waiting none (circled_items circled glyph next xs) (λ later. circled-lacks flag next xs later parts.1)

  circled-brings_none : (xs : List Item) (flag : ℕ) → some_has flag (circled_items circled glyph no_circling xs) ≡ true
      → some_has flag xs ≡ true
  circled-brings_none xs flag some = elim (cases_Bool (some_has flag xs)) [
    | inl has ↦ has
    | inr lacks ↦ absurd (let none = circled-lacks flag no_circling xs refl lacks in cc)
  ]

pub Preserved-circles : (face : FaceMeaning) (circled : Circled) (b : Buffer) → Preserved b (with_circles face circled b)
Preserved-circles face circled b = by_glyph (due_glyph face circled.kind b)
  where
    by_glyph : (glyph : Option GlyphId) → Preserved b (circles_by circled glyph b)
    by_glyph None = Preserved-same b
    by_glyph (Some glyph) =
        Preserved-replaced b (circled_items circled glyph no_circling b.items) (circled-draws circled glyph b.items) (circled-brings_none circled glyph b.items)
