-- The pieces that the cutter goes over: as many as glyphs, each with its glyph's width; one glyph tells whether a line
-- may end before it.
use Rattle.std.proofs.Common.{◌≡◌, ℕ, zero, suc, ◌+◌, ◌-◌, ◌<◌, ◌==◌, ◌&&◌, not, Bool, true, ℤ, ◌+ℤ◌, List, [], ◌∷◌, length, take, drop, get_or, refl, sym, ap, ap₂, ◌∙◌, arith}
use Rattle.std.proofs.lemmas.List.{get_or-map}
use Rattle.shape_items.specs.Buffer.{Buffer}
use Rattle.shape_items.specs.Clusters.{clusters}
use Rattle.shape_common.specs.FlagNames.{UNSAFE_TO_BREAK}
use Rattle.shape_items.specs.Items.{Item}
use Rattle.shape_items.specs.PreservesFlags.{has_flag}
use Rattle.shape_common.specs.declared.positions.GlyphPosition.{GlyphPosition}
use Rattle.shape_common.specs.declared.text_types.Direction.{Direction}
use Rattle.shape_lines.specs.Pieces.{pieces_after, pieces_from, pieces_of, is_end, total, width_between}
use Rattle.shape_lines.specs.Places.{cluster_at, lacks_break_at}
use Rattle.shape_lines.specs.RightLines.{total_width, width_from}
use Rattle.shape_lines.specs.TextOrder.{Glyph, glyphs_of, falls, text_order, place_in, width_of}
use Rattle.shape_lines.specs.declared.reading.Piece.{Piece}
use Rattle.shape_lines.proofs.TextOrderLemmas.{length-text, listed, cluster-text, flag-text, place_in-within, no_glyph}

-- the cluster before a place
abbrev pub before_of : ℕ → List Glyph → ℕ → ℕ
before_of before gs zero = before
before_of before gs (suc place) = cluster_at gs place

pub before-first : (gs : List Glyph) (k : ℕ) → before_of (cluster_at gs 0) gs k ≡ cluster_at gs (k - 1)
before-first gs zero = refl
before-first gs (suc k) = let back : k ≡ suc k - 1 = omega arith in ap (cluster_at gs) back

pub length-pieces : (before : ℕ) (gs : List Glyph) → length (pieces_after before gs) ≡ length gs
length-pieces before [] = refl
length-pieces before (g ∷ gs) = ap suc (length-pieces g.cluster gs)

pub length-pieces_of : (b : Buffer) → length (pieces_of b) ≡ length b.items
length-pieces_of b = length-pieces (cluster_at (text_order b) 0) (text_order b) ∙ length-text b

is_end-after : (before : ℕ) (gs : List Glyph) (place : ℕ) → place < length gs
    → is_end (pieces_after before gs) place ≡ (not (cluster_at gs place == before_of before gs place) && lacks_break_at gs place)
is_end-after before [] place lt = absurd (omega arith)
is_end-after before (g ∷ gs) zero lt = refl
is_end-after before (g ∷ gs) (suc zero) lt = is_end-after g.cluster gs zero (omega arith)
is_end-after before (g ∷ gs) (suc (suc place)) lt = is_end-after g.cluster gs (suc place) (omega arith)

pub is_end-pieces : (gs : List Glyph) (place : ℕ) → place < length gs
    → is_end (pieces_from gs) place ≡ (not (cluster_at gs place == cluster_at gs (place - 1)) && lacks_break_at gs place)
is_end-pieces gs place lt =
    is_end-after (cluster_at gs 0) gs place lt
    ∙ ap (λ (k : ℕ). not (cluster_at gs place == k) && lacks_break_at gs place) (before-first gs place)

drop-pieces : (before : ℕ) (gs : List Glyph) (n : ℕ) → (b : ℕ) × (drop n (pieces_after before gs) ≡ pieces_after b (drop n gs))
drop-pieces before gs zero = (before, refl)
drop-pieces before [] (suc n) = (before, refl)
drop-pieces before (g ∷ gs) (suc n) = drop-pieces g.cluster gs n

total-pieces : (before : ℕ) (gs : List Glyph) (n : ℕ) → total (take n (pieces_after before gs)) ≡ total_width (take n gs)
total-pieces before gs zero = refl
total-pieces before [] (suc n) = refl
total-pieces before (g ∷ gs) (suc n) = ap (λ w. g.width +ℤ w) (total-pieces g.cluster gs n)

pub widths-alike : (gs : List Glyph) (a b : ℕ) → width_between (pieces_from gs) a b ≡ width_from gs a b
widths-alike gs a b =
    let at = drop-pieces (cluster_at gs 0) gs a in
    ap (λ l. total (take (b - a) l)) at.1 ∙ total-pieces at.0 (drop a gs) (b - a)

-- ---- what is read at a place

pub cluster-listed : (b : Buffer) (k at : ℕ) (x : Item) → k < length b.items → at ≡ place_in (falls (clusters b.items)) (length b.items) k
    → (get_or b.items at x).cluster ≡ cluster_at (text_order b) k
cluster-listed b k at x lt is =
    let there = place_in-within (falls (clusters b.items)) (length b.items) k lt in
    ap (λ n. (get_or b.items n x).cluster) is
    ∙ sym (get_or-map (λ (item : Item). item.cluster) b.items _ x 0 there) ∙ sym (cluster-text b k lt)

glyphs-width : (d : Direction) (items : List Item) (ps : List GlyphPosition) (k : ℕ) (g : Glyph) (p : GlyphPosition) → k < length items
    → length ps ≡ length items → (get_or (glyphs_of d items ps) k g).width ≡ width_of d (get_or ps k p)
glyphs-width d [] ps k g p lt as_many = absurd (omega arith)
glyphs-width d (x ∷ items) [] k g p lt as_many = absurd (omega arith)
glyphs-width d (x ∷ items) (q ∷ ps) zero g p lt as_many = refl
glyphs-width d (x ∷ items) (q ∷ ps) (suc k) g p lt as_many = glyphs-width d items ps k g p (omega arith) (omega arith)

width-after : (before : ℕ) (gs : List Glyph) (k : ℕ) (g : Glyph) (d : Piece) → k < length gs
    → (get_or (pieces_after before gs) k d).width ≡ (get_or gs k g).width
width-after before [] k g d lt = absurd (omega arith)
width-after before (h ∷ gs) zero g d lt = refl
width-after before (h ∷ gs) (suc k) g d lt = width-after h.cluster gs k g d (omega arith)

cut-is_end : (ps : List Piece) (k : ℕ) (p : Piece) → k < length ps → (get_or ps k p).cut ≡ is_end ps k
cut-is_end [] k p lt = absurd (omega arith)
cut-is_end (q ∷ ps) zero p lt = refl
cut-is_end (q ∷ ps) (suc k) p lt = cut-is_end ps k p (omega arith)

abbrev pub piece : ℤ → Bool → Piece
piece w c = record { width = w; cut = c }

pub piece-listed : (b : Buffer) (k at : ℕ) (x : Item) (p : GlyphPosition) (d : Piece) (w : ℤ) (c : Bool) → length b.positions ≡ length b.items
    → k < length b.items → at ≡ place_in (falls (clusters b.items)) (length b.items) k → w ≡ width_of b.direction (get_or b.positions at p)
    → c ≡ (not (cluster_at (text_order b) k == cluster_at (text_order b) (k - 1)) && not (has_flag UNSAFE_TO_BREAK (get_or b.items at x)))
    → piece w c ≡ get_or (pieces_of b) k d
piece-listed b k at x p d w c as_many lt is is_width is_cut =
    let gs = text_order b in
    let short : k < length gs = omega (arith, length-text b, lt) in
    let shorter : k < length (pieces_of b) = omega (arith, length-pieces_of b, lt) in
    let there = place_in-within (falls (clusters b.items)) (length b.items) k lt in
    let begins = not (cluster_at gs k == cluster_at gs (k - 1)) in
    ap₂ piece
    (is_width ∙ ap (λ n. width_of b.direction (get_or b.positions n p)) is
    ∙ sym (glyphs-width b.direction b.items b.positions _ no_glyph p there as_many)
    ∙ sym (ap (λ (g : Glyph). g.width) (listed b k no_glyph lt)) ∙ sym (width-after (cluster_at gs 0) gs k no_glyph d short))
    (is_cut ∙ ap (λ n. begins && not (has_flag UNSAFE_TO_BREAK (get_or b.items n x))) is ∙ ap (λ t. begins && t) (sym (flag-text b k x lt))
    ∙ sym (is_end-pieces gs k short) ∙ sym (cut-is_end (pieces_of b) k d shorter))
