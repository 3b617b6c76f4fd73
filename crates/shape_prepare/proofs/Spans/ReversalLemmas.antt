-- Parts reversed one by one, and then the whole list.
use Rattle.std.proofs.Common.{◌≡◌, ℕ, ◌+◌, ◌-◌, ◌≤◌, List, [], ◌∷◌, ◌++◌, length, take, drop, map, fold, reverse, slice_range, refl, sym, ap, ap₂, ◌∙◌, arith, append_assoc}
use Rattle.std.proofs.lemmas.List.{reverse-append, reverse-reverse, length-append, length-drop, length-take-le, append-nil, take-append-drop, take_at, drop_at, drop-map}
use Rattle.std.proofs.lemmas.Grind.{flat_map-append, common_steps}
use Rattle.canonical_form.proofs.Lists.DividedLemmas.{whole, whole-divided}
use Rattle.shape_items.specs.Buffer.{Buffer}
use Rattle.shape_buffer.specs.Ranges.{reversed_range}
use Rattle.shape_common.specs.Direction.{reverse_of}
use Rattle.shape_items.specs.Items.{Item}
use Rattle.shape_common.specs.declared.positions.GlyphPosition.{GlyphPosition}
use Rattle.shape_items.specs.GraphemeSpans.{graphemes, is_continuation, spans_from}
use Rattle.shape_prepare.specs.ClustersFormed.{over_graphemes}
use Rattle.shape_prepare.specs.GraphemeWalk.{reverse_span}
use Rattle.shape_prepare.specs.NativeOrder.{parted, from_last, graphemes_reversed}

-- one part reversed in place
reversed_range-at : {A : Type 0} (pre part behind : List A)
    → reversed_range (length pre) (length pre + length part) (pre ++ (part ++ behind)) ≡ pre ++ (reverse part ++ behind)
reversed_range-at {A} pre part behind =
    let back : length pre + length part - length pre ≡ length part = omega arith in
    let whole : length pre + length part ≡ length (pre ++ part) = sym (length-append pre part) in
    let first : take (length pre) (pre ++ (part ++ behind)) ≡ pre = take_at pre (part ++ behind) (length pre) refl in
    let rest : drop (length pre) (pre ++ (part ++ behind)) ≡ part ++ behind = drop_at pre (part ++ behind) (length pre) refl in
    let middle : take (length pre + length part - length pre) (drop (length pre) (pre ++ (part ++ behind))) ≡ part =
    ap₂ (λ n (l : List A). take n l) back rest ∙ take_at part behind (length part) refl in
    let last : drop (length pre + length part) (pre ++ (part ++ behind)) ≡ behind =
    ap (λ (l : List A). drop (length pre + length part) l) (sym (append_assoc pre part behind))
    ∙ drop_at (pre ++ part) behind (length pre + length part) (sym whole) in
    ap₂ (λ (a b : List A). a
    ++ (reverse (take (length pre + length part - length pre) (drop (length pre) (pre ++ (part ++ behind)))) ++ b)) first last
    ∙ ap (λ (m : List A). pre ++ (reverse m ++ behind)) middle

-- each part reversed in place
spans-reversed : {A : Type 0} (pre : List A) (parts : List (List A))
    → fold (λ xs span. reversed_range span.0 span.1 xs) (pre ++ whole parts) (spans_from (length pre) (map length parts))
    ≡ pre ++ whole (map reverse parts)
spans-reversed pre [] = refl
spans-reversed {A} pre (part ∷ parts) =
    let over = λ (xs : List A) (span : ℕ × ℕ). reversed_range span.0 span.1 xs in
    let size : length pre + length part ≡ length (pre ++ reverse part) = grind (arith, common_steps) in
    ap (λ xs. fold over xs (spans_from (length pre + length part) (map length parts)))
    (reversed_range-at pre part (whole parts) ∙ sym (append_assoc pre (reverse part) (whole parts)))
    ∙ ap (λ n. fold over ((pre ++ reverse part) ++ whole parts) (spans_from n (map length parts))) size
    ∙ spans-reversed (pre ++ reverse part) parts
    ∙ append_assoc pre (reverse part) (whole (map reverse parts))

-- reversed parts reversed as a whole are the parts from the last
reverse-parts : {A : Type 0} (parts : List (List A)) → reverse (whole (map reverse parts)) ≡ from_last parts
reverse-parts [] = refl
reverse-parts {A} (part ∷ parts) =
    reverse-append (reverse part) (whole (map reverse parts))
    ∙ ap₂ (λ (a b : List A). a ++ b) (reverse-parts parts) (reverse-reverse part)
    ∙ ap (λ (l : List A). from_last parts ++ l) (sym (append-nil part))
    ∙ sym (flat_map-append (λ (p : List A). p) (reverse parts) (part ∷ []))
    ∙ ap (λ (l : List (List A)). whole l) (sym (reverse-append (part ∷ []) parts))

-- the walk over a list in parts, and the list reversed then
pub reversed-parts : {A : Type 0} (parts : List (List A))
    → reverse (fold (λ xs span. reversed_range span.0 span.1 xs) (whole parts) (spans_from 0 (map length parts))) ≡ from_last parts
reversed-parts parts = ap reverse (spans-reversed [] parts) ∙ reverse-parts parts

-- what parts of these sizes hold together
abbrev pub total : List ℕ → ℕ
total [] = 0
total (size ∷ sizes) = size + total sizes

pub total-lengths : {A : Type 0} (parts : List (List A)) → total (map length parts) ≡ length (whole parts)
total-lengths [] = refl
total-lengths (part ∷ parts) = ap (λ n. length part + n) (total-lengths parts) ∙ sym (length-append part (whole parts))

-- a list in parts of these sizes
whole-parted : {A : Type 0} (sizes : List ℕ) (xs : List A) → total sizes ≡ length xs → whole (parted sizes xs) ≡ xs
whole-parted [] [] e = refl
whole-parted [] (x ∷ xs) e = absurd (omega (arith, e))
whole-parted {A} (size ∷ sizes) xs e =
    let rest : total sizes ≡ length (drop size xs) = omega (arith, e, length-drop size xs) in
    ap (λ (l : List A). take size xs ++ l) (whole-parted sizes (drop size xs) rest) ∙ take-append-drop size xs

sizes-parted : {A : Type 0} (sizes : List ℕ) (xs : List A) → total sizes ≡ length xs → map length (parted sizes xs) ≡ sizes
sizes-parted [] xs e = refl
sizes-parted (size ∷ sizes) xs e =
    let rest : total sizes ≡ length (drop size xs) = omega (arith, e, length-drop size xs) in
    let first : length (take size xs) ≡ size = length-take-le size xs (omega (arith, e)) in
    ap₂ (λ (n : ℕ) (ns : List ℕ). n ∷ ns) first (sizes-parted sizes (drop size xs) rest)

pub reversed-sizes : {A : Type 0} (sizes : List ℕ) (xs : List A) → total sizes ≡ length xs
    → reverse (fold (λ xs span. reversed_range span.0 span.1 xs) xs (spans_from 0 sizes)) ≡ from_last (parted sizes xs)
reversed-sizes {A} sizes xs e =
    ap₂ (λ (l : List A) (ns : List ℕ). reverse (fold (λ (xs : List A) (span : ℕ × ℕ). reversed_range span.0 span.1 xs) l (spans_from 0 ns)))
    (sym (whole-parted sizes xs e)) (sym (sizes-parted sizes xs e))
    ∙ reversed-parts (parted sizes xs)

-- the walk over a buffer goes over its items and over its positions
pub reverse_spans : (spans : List (ℕ × ℕ)) (b : Buffer)
    → fold (λ b span. reverse_span span.0 span.1 b) b spans
    ≡ record b {
      items = fold (λ xs span. reversed_range span.0 span.1 xs) b.items spans;
      positions = fold
          (λ xs span. reversed_range span.0 span.1 xs) b.positions spans;
    }
reverse_spans [] b = refl
reverse_spans (span ∷ spans) b = reverse_spans spans (reverse_span span.0 span.1 b)

-- a part that was reversed in place changes nothing after it
pub after-reversed : {A B : Type 0} (f : A → B) (start end : ℕ) (xs : List A) → start ≤ end → end ≤ length xs
    → drop end (map f (reversed_range start end xs)) ≡ drop end (map f xs)
after-reversed {A} f start end xs le within =
    let front = take start xs ++ reverse (slice_range xs start end) in
    let size : length front ≡ end = grind (arith, common_steps) in
    let split : reversed_range start end xs
    ≡ front ++ drop end xs = sym (append_assoc (take start xs) (reverse (slice_range xs start end)) (drop end xs)) in
    drop-map f end (reversed_range start end xs)
    ∙ ap (map f) (ap (λ (l : List A). drop end l) split ∙ drop_at front (drop end xs) end size)
    ∙ sym (drop-map f end xs)

pub length-reversed_range : {A : Type 0} (start end : ℕ) (xs : List A) → start ≤ end → end ≤ length xs
    → length (reversed_range start end xs) ≡ length xs
length-reversed_range start end xs le within = grind (arith, common_steps)

-- a buffer reversed as a whole, and its direction
abbrev pub reversed_over : Buffer → Buffer
reversed_over b = record b { items = reverse b.items; positions = reverse b.positions; direction = reverse_of b.direction }

-- the walk over the parts of a buffer, and the buffer reversed then, leaves the parts from the last
pub reversed-whole : (b : Buffer) → length b.positions ≡ length b.items → reversed_over (over_graphemes reverse_span b) ≡ graphemes_reversed b
reversed-whole b as_many =
    let parts = graphemes b.items in
    let sizes = map length parts in
    let spans = spans_from 0 sizes in
    let together : whole parts ≡ b.items = whole-divided is_continuation b.items in
    let full : total sizes ≡ length b.positions = total-lengths parts ∙ ap length together ∙ sym as_many in
    let items : reverse (fold (λ xs span. reversed_range span.0 span.1 xs) b.items spans) ≡ from_last parts =
    ap (λ (l : List Item). reverse (fold (λ (xs : List Item) (span : ℕ × ℕ). reversed_range span.0 span.1 xs) l spans)) (sym together)
    ∙ reversed-parts parts in
    ap reversed_over (reverse_spans spans b)
    ∙ ap₂ (λ (is : List Item) (ps : List GlyphPosition). record b { items = is; positions = ps; direction = reverse_of b.direction }) items
    (reversed-sizes sizes b.positions full)
