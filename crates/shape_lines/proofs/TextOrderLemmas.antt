-- The glyphs in the order of the text: where each stands in the list, that their clusters rise, and that each cluster
-- has one flag.
use Rattle.std.proofs.Common.{◌≡◌, ℕ, zero, suc, ◌+◌, ◌-◌, ◌<◌, ◌≤◌, Bool, true, false, not, pos, List, [], ◌∷◌, length, get_or, reverse, refl, sym, ap, ◌∙◌, arith, inl, inr}
use Rattle.std.specs.Prelude.{nat_lt, if◌then◌else◌}
use Rattle.std.proofs.lemmas.Bool.Decides.{nat_tests}
use Rattle.std.proofs.lemmas.List.{get_or-reverse, length-reverse, get_or-map, length-map}
use Rattle.std.proofs.lemmas.Nat.{and_assoc}
use Rattle.std.specs.Int.RustNames.{bit_and}
use Rattle.shape_items.specs.Buffer.{Buffer}
use Rattle.shape_items.specs.Clusters.{clusters}
use Rattle.shape_common.specs.FlagNames.{UNSAFE_TO_BREAK}
use Rattle.shape_items.specs.Flags.{flags_of, HasOneSetOfFlags}
use Rattle.shape_items.specs.Items.{Item, new_item}
use Rattle.shape_items.specs.PreservesFlags.{has_flag}
use Rattle.shape_common.specs.declared.positions.GlyphPosition.{GlyphPosition}
use Rattle.shape_common.specs.declared.text_types.Direction.{Direction}
use Rattle.shape_lines.specs.CanCut.{IsMonotone}
use Rattle.shape_lines.specs.Places.{cluster_at, lacks_break_at}
use Rattle.shape_lines.specs.TextOrder.{Glyph, glyphs_of, falls, text_order, place_in}
use Rattle.shape_lines.proofs.NeighbourLemmas.{flags-pairs, shares_to}

abbrev pub ClustersRise : List Glyph → Type 0
ClustersRise gs = (i j : ℕ) → i ≤ j → j < length gs → cluster_at gs i ≤ cluster_at gs j

-- neighbours in one cluster have the same flag
abbrev pub HasOneFlag : List Glyph → Type 0
HasOneFlag gs = (i : ℕ) → suc i < length gs → cluster_at gs i ≡ cluster_at gs (suc i) → lacks_break_at gs i ≡ lacks_break_at gs (suc i)

-- ---- what was read at a place

pub cluster-read : (gs : List Glyph) (k : ℕ) (d : Glyph) → k < length gs → (get_or gs k d).cluster ≡ cluster_at gs k
cluster-read [] k d lt = absurd (omega arith)
cluster-read (g ∷ gs) zero d lt = refl
cluster-read (g ∷ gs) (suc k) d lt = cluster-read gs k d (omega arith)

flag-read : (gs : List Glyph) (k : ℕ) (d : Glyph) → k < length gs → (get_or gs k d).lacks_break ≡ lacks_break_at gs k
flag-read [] k d lt = absurd (omega arith)
flag-read (g ∷ gs) zero d lt = refl
flag-read (g ∷ gs) (suc k) d lt = flag-read gs k d (omega arith)

-- ---- the glyphs of the list

pub length-glyphs : (d : Direction) (items : List Item) (ps : List GlyphPosition) → length (glyphs_of d items ps) ≡ length items
length-glyphs d [] ps = refl
length-glyphs d (x ∷ items) [] = ap suc (length-glyphs d items [])
length-glyphs d (x ∷ items) (p ∷ ps) = ap suc (length-glyphs d items ps)

glyphs-cluster : (d : Direction) (items : List Item) (ps : List GlyphPosition) (k : ℕ) (g : Glyph) → k < length items
    → (get_or (glyphs_of d items ps) k g).cluster ≡ get_or (clusters items) k 0
glyphs-cluster d [] ps k g lt = absurd (omega arith)
glyphs-cluster d (x ∷ items) [] zero g lt = refl
glyphs-cluster d (x ∷ items) [] (suc k) g lt = glyphs-cluster d items [] k g (omega arith)
glyphs-cluster d (x ∷ items) (p ∷ ps) zero g lt = refl
glyphs-cluster d (x ∷ items) (p ∷ ps) (suc k) g lt = glyphs-cluster d items ps k g (omega arith)

glyphs-flag : (d : Direction) (items : List Item) (ps : List GlyphPosition) (k : ℕ) (g : Glyph) (x : Item) → k < length items
    → (get_or (glyphs_of d items ps) k g).lacks_break ≡ not (has_flag UNSAFE_TO_BREAK (get_or items k x))
glyphs-flag d [] ps k g x lt = absurd (omega arith)
glyphs-flag d (y ∷ items) [] zero g x lt = refl
glyphs-flag d (y ∷ items) [] (suc k) g x lt = glyphs-flag d items [] k g x (omega arith)
glyphs-flag d (y ∷ items) (p ∷ ps) zero g x lt = refl
glyphs-flag d (y ∷ items) (p ∷ ps) (suc k) g x lt = glyphs-flag d items ps k g x (omega arith)

-- ---- the order of the text

pub place_in-within : (back : Bool) (n k : ℕ) → k < n → place_in back n k < n
place_in-within true n k lt = omega arith
place_in-within false n k lt = lt

abbrev pub reversed_if : Bool → List Glyph → List Glyph
reversed_if back gs = if back then reverse gs else gs

length-reversed : (back : Bool) (gs : List Glyph) → length (reversed_if back gs) ≡ length gs
length-reversed true gs = length-reverse gs
length-reversed false gs = refl

reversed-at : (back : Bool) (gs : List Glyph) (k : ℕ) (g : Glyph) → k < length gs
    → get_or (reversed_if back gs) k g ≡ get_or gs (place_in back (length gs) k) g
reversed-at true gs k g lt = get_or-reverse gs k g lt
reversed-at false gs k g lt = refl

pub length-text : (b : Buffer) → length (text_order b) ≡ length b.items
length-text b =
    length-reversed (falls (clusters b.items)) (glyphs_of b.direction b.items b.positions) ∙ length-glyphs b.direction b.items b.positions

-- the glyph of a place of the text, in the list
pub listed : (b : Buffer) (k : ℕ) (g : Glyph) → k < length b.items
    → get_or (text_order b) k g
    ≡ get_or (glyphs_of b.direction b.items b.positions) (place_in (falls (clusters b.items)) (length b.items) k) g
listed b k g lt =
    let gs = glyphs_of b.direction b.items b.positions in
    let long = length-glyphs b.direction b.items b.positions in
    let short : k < length gs = omega (arith, long, lt) in
    reversed-at (falls (clusters b.items)) gs k g short
    ∙ ap (λ n. get_or gs (place_in (falls (clusters b.items)) n k) g) long

pub no_glyph : Glyph
no_glyph = record { cluster = 0; lacks_break = true; width = pos 0 }

pub cluster-text : (b : Buffer) (k : ℕ) → k < length b.items
    → cluster_at (text_order b) k ≡ get_or (clusters b.items) (place_in (falls (clusters b.items)) (length b.items) k) 0
cluster-text b k lt =
    let long = length-text b in
    let short : k < length (text_order b) = omega (arith, long, lt) in
    sym (cluster-read (text_order b) k no_glyph short) ∙ ap (λ (g : Glyph). g.cluster) (listed b k no_glyph lt)
    ∙ glyphs-cluster b.direction b.items b.positions _ no_glyph (place_in-within (falls (clusters b.items)) (length b.items) k lt)

pub flag-text : (b : Buffer) (k : ℕ) (x : Item) → k < length b.items
    → lacks_break_at (text_order b) k
    ≡ not (has_flag UNSAFE_TO_BREAK (get_or b.items (place_in (falls (clusters b.items)) (length b.items) k) x))
flag-text b k x lt =
    let long = length-text b in
    let short : k < length (text_order b) = omega (arith, long, lt) in
    sym (flag-read (text_order b) k no_glyph short) ∙ ap (λ (g : Glyph). g.lacks_break) (listed b k no_glyph lt)
    ∙ glyphs-flag b.direction b.items b.positions _ no_glyph x (place_in-within (falls (clusters b.items)) (length b.items) k lt)

-- ---- clusters rise

-- numbers of a monotone list, in the order that its ends tell
rise_by : (ks : List ℕ) → IsMonotone ks → (back : Bool) → falls ks ≡ back → (i j : ℕ) → i ≤ j → j < length ks
    → get_or ks (place_in back (length ks) i) 0 ≤ get_or ks (place_in back (length ks) j) 0
rise_by ks (inl rise) true e i j le lt =
    let less : get_or ks (length ks - 1) 0 < get_or ks 0 0 = grind (arith, nat_tests, e) in
    let up = rise 0 (length ks - 1) 0 (omega arith) (omega arith) in
    absurd (omega arith)
rise_by ks (inr fall) true e i j le lt = fall (length ks - 1 - j) (length ks - 1 - i) 0 (omega arith) (omega arith)
rise_by ks (inl rise) false e i j le lt = rise i j 0 le lt
rise_by ks (inr fall) false e i j le lt =
    let ends : get_or ks 0 0 ≤ get_or ks (length ks - 1) 0 = grind (arith, nat_tests, e) in
    let first = fall 0 i 0 (omega arith) (omega arith) in
    let last = fall j (length ks - 1) 0 (omega arith) (omega arith) in
    omega arith

pub rises-text : (b : Buffer) → IsMonotone (clusters b.items) → ClustersRise (text_order b)
rises-text b monotone i j le lt =
    let ks = clusters b.items in
    let long = length-text b in
    let count = length-map b.items (λ (item : Item). item.cluster) in
    let short : j < length b.items = omega (arith, long, lt) in
    let near : i < length b.items = omega (arith, short, le) in
    let within : j < length ks = omega (arith, count, short) in
    let up = rise_by ks monotone (falls ks) refl i j le within in
    let here = cluster-text b i near ∙ ap (λ n. get_or ks (place_in (falls ks) n i) 0) (sym count) in
    let there = cluster-text b j short ∙ ap (λ n. get_or ks (place_in (falls ks) n j) 0) (sym count) in
    rw (here, there) up

-- ---- one flag for each cluster

break_of : (x y : Item) → flags_of x ≡ flags_of y → not (has_flag UNSAFE_TO_BREAK x) ≡ not (has_flag UNSAFE_TO_BREAK y)
break_of x y same =
    let first : bit_and (flags_of x) 1 ≡ bit_and x.mask 1 = and_assoc 1 x.mask 7 in
    let second : bit_and (flags_of y) 1 ≡ bit_and y.mask 1 = and_assoc 1 y.mask 7 in
    ap (λ (f : ℕ). not (nat_lt 0 f)) (sym first ∙ ap (λ (f : ℕ). bit_and f 1) same ∙ second)

-- neighbours of the list
alike : (items : List Item) → HasOneSetOfFlags items → (k : ℕ) (x : Item) → k + 1 < length items
    → get_or (clusters items) k 0 ≡ get_or (clusters items) (k + 1) 0
    → not (has_flag UNSAFE_TO_BREAK (get_or items k x)) ≡ not (has_flag UNSAFE_TO_BREAK (get_or items (k + 1) x))
alike items one k x lt same =
    let here = get_or-map (λ (item : Item). item.cluster) items k x 0 (omega arith) in
    let next = get_or-map (λ (item : Item). item.cluster) items (k + 1) x 0 lt in
    break_of (get_or items k x) (get_or items (k + 1) x)
    (shares_to (get_or items k x) (get_or items (k + 1) x) ((flags-pairs items).1 one k x lt) (sym here ∙ same ∙ next))

-- neighbours of the text
alike_by : (items : List Item) → HasOneSetOfFlags items → (back : Bool) (i : ℕ) (x : Item) → suc i < length items
    → get_or (clusters items) (place_in back (length items) i) 0 ≡ get_or (clusters items) (place_in back (length items) (suc i)) 0
    → not (has_flag UNSAFE_TO_BREAK (get_or items (place_in back (length items) i) x))
    ≡ not (has_flag UNSAFE_TO_BREAK (get_or items (place_in back (length items) (suc i)) x))
alike_by items one true i x lt same =
    let e : length items - 1 - i ≡ (length items - 1 - suc i) + 1 = omega arith in
    ap (λ n. not (has_flag UNSAFE_TO_BREAK (get_or items n x))) e
    ∙ sym (alike items one (length items - 1 - suc i) x (omega arith) (sym same ∙ ap (λ n. get_or (clusters items) n 0) e))
alike_by items one false i x lt same =
    let e : suc i ≡ i + 1 = omega arith in
    alike items one i x (omega arith) (same ∙ ap (λ n. get_or (clusters items) n 0) e)
    ∙ ap (λ n. not (has_flag UNSAFE_TO_BREAK (get_or items n x))) (sym e)

pub one_flag-text : (b : Buffer) → HasOneSetOfFlags b.items → HasOneFlag (text_order b)
one_flag-text b one i lt same =
    let long = length-text b in
    let short : suc i < length b.items = omega (arith, long, lt) in
    let x = new_item 0 0 in
    flag-text b i x (omega arith)
    ∙ alike_by b.items one (falls (clusters b.items)) i x short
    (sym (cluster-text b i (omega arith)) ∙ same ∙ cluster-text b (suc i) short)
    ∙ sym (flag-text b (suc i) x short)
