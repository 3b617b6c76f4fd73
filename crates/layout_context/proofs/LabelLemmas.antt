-- the places of the glyphs of a rule are those of the labels that they carry
use Prim.Native.Nat.{zero}
use Rattle.std.proofs.Common.{◌≡◌, ℕ, suc, ◌<◌, ◌≤◌, ◌+◌, ◌-◌, Bool, true, false, List, [], ◌∷◌, ◌++◌, map, drop, length, insert, remove, replicate, nat_lt, refl, sym, ap, ap₂, ◌∙◌, arith, if◌then◌else◌}
use Rattle.std.proofs.lemmas.Bool.Decides.{nat_tests}
use Rattle.std.proofs.lemmas.List.{map-append, length-append, length-replicate}
use Rattle.std.proofs.lemmas.List.Edits.{remove-append_right, insert-append_right}
use Rattle.layout_matching.specs.Loops.{times}
use Rattle.layout_context.specs.Labels.{labelled_from, labelled, around, with_more, without_first}
use Rattle.layout_context.specs.Places.{shifted, one_dropped, Growing, one_grown, grown, renumbered}

-- ---- the places of labels

labelled-append : (i : ℕ) (xs ys : List Bool) → labelled_from i (xs ++ ys) ≡ labelled_from i xs ++ labelled_from (i + length xs) ys
labelled-append i [] ys = let same : i ≡ i + 0 = omega arith in ap (λ k. labelled_from k ys) same
labelled-append i (true ∷ xs) ys =
    let same : suc i + length xs ≡ i + suc (length xs) = omega arith in
    ap (λ ks. i ∷ ks) (labelled-append (suc i) xs ys ∙ ap (λ k. labelled_from (suc i) xs ++ labelled_from k ys) same)
labelled-append i (false ∷ xs) ys =
    let same : suc i + length xs ≡ i + suc (length xs) = omega arith in
    labelled-append (suc i) xs ys ∙ ap (λ k. labelled_from (suc i) xs ++ labelled_from k ys) same

-- the glyph's own, those before it, and those behind it
labelled-around : (before behind : List Bool)
    → labelled (around before behind) ≡ labelled before ++ length before ∷ labelled_from (length before + 1) behind
labelled-around before behind =
    let here : 0 + length before ≡ length before = omega arith in
    let next : suc (length before) ≡ length before + 1 = omega arith in
    labelled-append 0 before (true ∷ behind)
    ∙ ap (λ k. labelled before ++ labelled_from k (true ∷ behind)) here
    ∙ ap (λ k. labelled before ++ length before ∷ labelled_from k behind) next

-- a function that agrees on each of those places
map-labelled : (f : ℕ → ℕ) (n i : ℕ) (labels : List Bool) → ((j : ℕ) → i ≤ j → j < i + length labels → f j ≡ j + n)
    → map f (labelled_from i labels) ≡ labelled_from (i + n) labels
map-labelled f n i [] each = refl
map-labelled f n i (true ∷ labels) each =
    let next : suc i + n ≡ suc (i + n) = omega arith in
    ap₂ ◌∷◌ (each i (omega arith) (omega arith))
    (map-labelled f n (suc i) labels (λ j low high. each j (omega (arith, low)) (omega (arith, high)))
    ∙ ap (λ k. labelled_from k labels) next)
map-labelled f n i (false ∷ labels) each =
    let next : suc i + n ≡ suc (i + n) = omega arith in
    map-labelled f n (suc i) labels (λ j low high. each j (omega (arith, low)) (omega (arith, high)))
    ∙ ap (λ k. labelled_from k labels) next

-- those before the glyph stay
map-before : (f : ℕ → ℕ) (place : ℕ) → ((j : ℕ) → j ≤ place → f j ≡ j) → (before : List Bool) → length before ≡ place
    → map f (labelled before) ≡ labelled before
map-before f place each before long =
    map-labelled f 0 0 before (λ j low high. let here = each j (omega (arith, high, long)) in omega (arith, here))

-- ---- items that came

abbrev range : ℕ → ℕ → List ℕ
range i n = labelled_from i (replicate n true)

abbrev growing : List ℕ → ℕ → Growing
growing places next = record { places = places; next = next }

insert-behind : (P R : List ℕ) (x v : ℕ) → insert (P ++ x ∷ R) (length P + 1) v ≡ P ++ x ∷ v ∷ R
insert-behind P R x v =
    let rest : length P + 1 - length P ≡ 1 = omega arith in
    insert-append_right P (x ∷ R) (length P) (length P + 1) v refl (omega arith)
    ∙ ap (λ k. P ++ insert (x ∷ R) k v) rest

grown-so-far : (P Q : List ℕ) (x next k : ℕ) → k ≤ next
    → times (one_grown (length P)) k (growing (P ++ x ∷ Q) next) ≡ growing (P ++ x ∷ (range (next - k + 1) k ++ Q)) (next - k)
grown-so-far P Q x next zero low =
    let same : next ≡ next - 0 = omega arith in
    ap (growing (P ++ x ∷ Q)) same
grown-so-far P Q x next (suc k) low =
    ap (one_grown (length P)) (grown-so-far P Q x next k (omega (arith, low)))
    ∙ by_inside (nat_lt (length P) (length (P ++ x ∷ R))) inside
    ∙ ap (growing (P ++ x ∷ (next - k) ∷ R)) left
    ∙ ap (λ (ks : List ℕ). growing (P ++ x ∷ (ks ++ Q)) (next - suc k)) more
  where
    R : List ℕ
    R = range (next - k + 1) k ++ Q

    inside : nat_lt (length P) (length (P ++ x ∷ R)) ≡ true
    inside =
        let long : length (P ++ x ∷ R) ≡ length P + suc (length R) = length-append P (x ∷ R) in
        grind (arith, nat_tests, long)

    by_inside : (t : Bool) → t ≡ true
        → growing (if t then insert (P ++ x ∷ R) (length P + 1) (next - k) else P ++ x ∷ R) (next - k - 1)
        ≡ growing (P ++ x ∷ (next - k) ∷ R) (next - k - 1)
    by_inside true is = ap (λ (ks : List ℕ). growing ks (next - k - 1)) (insert-behind P R x (next - k))
    by_inside false never = absurd (let bad : false ≡ true = never in cc)

    left : next - k - 1 ≡ next - suc k
    left = omega arith

    more : (next - k) ∷ range (next - k + 1) k ≡ range (next - suc k + 1) (suc k)
    more =
        let first : next - k ≡ next - suc k + 1 = omega (arith, low) in
        let later : next - k + 1 ≡ suc (next - suc k + 1) = omega (arith, low) in
        ap₂ ◌∷◌ first (ap (λ i. range i k) later)

pub labels-grow : (before behind : List Bool) (n : ℕ) → let count = length (around before behind) in
    renumbered (length before) (length (labelled before)) count (count + n) (labelled (around before behind))
    ≡ labelled (around before (with_more n behind))
labels-grow before behind n =
    ap (λ d. grown place (length P) (count + n - count) (map (shifted place count (count + n)) (times (one_dropped (length P)) d places))) none
    ∙ ap (λ d. grown place (length P) d (map (shifted place count (count + n)) places)) some
    ∙ ap (grown place (length P) n) moved
    ∙ ap (λ (g : Growing). g.places) (grown-so-far P Q place (place + n) n (omega arith))
    ∙ ap (λ i. P ++ place ∷ (range i n ++ Q)) start
    ∙ ap (λ ks. P ++ place ∷ ks) joined
    ∙ sym (labelled-around before (with_more n behind))
  where
    place : ℕ
    place = length before

    count : ℕ
    count = length (around before behind)

    places : List ℕ
    places = labelled (around before behind)

    P : List ℕ
    P = labelled before

    Q : List ℕ
    Q = labelled_from (place + 1 + n) behind

    long : count ≡ place + suc (length behind)
    long = length-append before (true ∷ behind)

    none : count - (count + n) ≡ 0
    none = omega arith

    some : count + n - count ≡ n
    some = omega arith

    start : place + n - n + 1 ≡ place + 1
    start = omega arith

    stays : (j : ℕ) → j ≤ place → shifted place count (count + n) j ≡ j
    stays j low = by_test (nat_lt place j) refl
      where
        by_test : (t : Bool) → nat_lt place j ≡ t → (if t then count + n - (count - j) else j) ≡ j
        by_test true is = absurd (let less : place < j = grind (arith, nat_tests, is) in omega (arith, less, low))
        by_test false is = refl

    moves : (j : ℕ) → place + 1 ≤ j → j < place + 1 + length behind → shifted place count (count + n) j ≡ j + n
    moves j low high = by_test (nat_lt place j) refl
      where
        by_test : (t : Bool) → nat_lt place j ≡ t → (if t then count + n - (count - j) else j) ≡ j + n
        by_test true is = omega (arith, low, high, long)
        by_test false is = absurd (let less : j ≤ place = grind (arith, nat_tests, is) in omega (arith, less, low))

    moved : map (shifted place count (count + n)) places ≡ P ++ place ∷ Q
    moved =
        ap (map (shifted place count (count + n))) (labelled-around before behind)
        ∙ map-append (shifted place count (count + n)) P (place ∷ labelled_from (place + 1) behind)
        ∙ ap₂ ◌++◌ (map-before (shifted place count (count + n)) place stays before refl)
        (ap₂ ◌∷◌ (stays place (omega arith)) (map-labelled (shifted place count (count + n)) n (place + 1) behind moves))

    joined : range (place + 1) n ++ Q ≡ labelled_from (place + 1) (with_more n behind)
    joined =
        let long_more : place + 1 + n ≡ place + 1 + length (replicate n true) = ap (λ k. place + 1 + k) (sym (length-replicate n true)) in
        ap (λ k. range (place + 1) n ++ labelled_from k behind) long_more
        ∙ sym (labelled-append (place + 1) (replicate n true) behind)

-- ---- items that went

remove-behind : (P R : List ℕ) (x y : ℕ) → remove (P ++ x ∷ y ∷ R) (length P + 1) ≡ P ++ x ∷ R
remove-behind P R x y =
    let rest : length P + 1 - length P ≡ 1 = omega arith in
    remove-append_right P (x ∷ y ∷ R) (length P) (length P + 1) refl (omega arith)
    ∙ ap (λ k. P ++ remove (x ∷ y ∷ R) k) rest

dropped-one : (P Q : List ℕ) (x : ℕ) → one_dropped (length P) (P ++ x ∷ Q) ≡ P ++ x ∷ drop 1 Q
dropped-one P [] x = by_test (nat_lt (length P + 1) (length (P ++ x ∷ []))) refl
  where
    long : length (P ++ x ∷ []) ≡ length P + 1
    long = length-append P (x ∷ [])

    by_test : (t : Bool) → nat_lt (length P + 1) (length (P ++ x ∷ [])) ≡ t
        → (if t then remove (P ++ x ∷ []) (length P + 1) else P ++ x ∷ []) ≡ P ++ x ∷ []
    by_test true is = absurd (let less : length P + 1 < length (P ++ x ∷ []) = grind (arith, nat_tests, is) in omega (arith, less, long))
    by_test false is = refl
dropped-one P (y ∷ Q) x = by_test (nat_lt (length P + 1) (length (P ++ x ∷ y ∷ Q))) refl
  where
    long : length (P ++ x ∷ y ∷ Q) ≡ length P + suc (suc (length Q))
    long = length-append P (x ∷ y ∷ Q)

    by_test : (t : Bool) → nat_lt (length P + 1) (length (P ++ x ∷ y ∷ Q)) ≡ t
        → (if t then remove (P ++ x ∷ y ∷ Q) (length P + 1) else P ++ x ∷ y ∷ Q) ≡ P ++ x ∷ Q
    by_test true is = remove-behind P Q x y
    by_test false is =
        absurd (let more : length (P ++ x ∷ y ∷ Q) ≤ length P + 1 = grind (arith, nat_tests, is) in omega (arith, more, long))

drop-next : (n : ℕ) (Q : List ℕ) → drop 1 (drop n Q) ≡ drop (suc n) Q
drop-next zero Q = refl
drop-next (suc n) [] = refl
drop-next (suc n) (x ∷ Q) = drop-next n Q

dropped-some : (P Q : List ℕ) (x n : ℕ) → times (one_dropped (length P)) n (P ++ x ∷ Q) ≡ P ++ x ∷ drop n Q
dropped-some P Q x zero = refl
dropped-some P Q x (suc n) =
    ap (one_dropped (length P)) (dropped-some P Q x n) ∙ dropped-one P (drop n Q) x ∙ ap (λ ks. P ++ x ∷ ks) (drop-next n Q)

-- what is left of the places behind the glyph, moved back
moved-back : (n e i : ℕ) (labels : List Bool)
    → map (λ j. j - (e + n)) (drop n (labelled_from (i + e) labels)) ≡ labelled_from i (without_first n labels)
moved-back zero e i [] = refl
moved-back zero e i (true ∷ labels) =
    let first : i + e - (e + 0) ≡ i = omega arith in
    let next : suc (i + e) ≡ suc i + e = omega arith in
    ap₂ ◌∷◌ first (ap (λ k. map (λ j. j - (e + 0)) (labelled_from k labels)) next ∙ moved-back zero e (suc i) labels)
moved-back zero e i (false ∷ labels) =
    let next : suc (i + e) ≡ suc i + e = omega arith in
    ap (λ k. map (λ j. j - (e + 0)) (labelled_from k labels)) next ∙ moved-back zero e (suc i) labels
moved-back (suc n) e i [] = refl
moved-back (suc n) e i (true ∷ labels) =
    let next : suc (i + e) ≡ i + suc e = omega arith in
    let same : e + suc n ≡ suc e + n = omega arith in
    ap (λ k. map (λ j. j - k) (drop n (labelled_from (suc (i + e)) labels))) same
    ∙ ap (λ k. map (λ j. j - (suc e + n)) (drop n (labelled_from k labels))) next
    ∙ moved-back n (suc e) i labels
moved-back (suc n) e i (false ∷ labels) =
    let next : suc (i + e) ≡ suc i + e = omega arith in
    ap (λ k. map (λ j. j - (e + suc n)) (drop (suc n) (labelled_from k labels))) next ∙ moved-back (suc n) e (suc i) labels

map-dropped : (f g : ℕ → ℕ) (n i : ℕ) (labels : List Bool) → ((j : ℕ) → i ≤ j → j < i + length labels → f j ≡ g j)
    → map f (drop n (labelled_from i labels)) ≡ map g (drop n (labelled_from i labels))
map-dropped f g zero i [] each = refl
map-dropped f g zero i (true ∷ labels) each =
    ap₂ ◌∷◌ (each i (omega arith) (omega arith))
    (map-dropped f g zero (suc i) labels (λ j low high. each j (omega (arith, low)) (omega (arith, high))))
map-dropped f g zero i (false ∷ labels) each =
    map-dropped f g zero (suc i) labels (λ j low high. each j (omega (arith, low)) (omega (arith, high)))
map-dropped f g (suc n) i [] each = refl
map-dropped f g (suc n) i (true ∷ labels) each =
    map-dropped f g n (suc i) labels (λ j low high. each j (omega (arith, low)) (omega (arith, high)))
map-dropped f g (suc n) i (false ∷ labels) each =
    map-dropped f g (suc n) (suc i) labels (λ j low high. each j (omega (arith, low)) (omega (arith, high)))

pub labels-shrink : (before behind : List Bool) (n : ℕ) → n ≤ length behind → let count = length (around before behind) in
    renumbered (length before) (length (labelled before)) count (count - n) (labelled (around before behind))
    ≡ labelled (around before (without_first n behind))
labels-shrink before behind n fits =
    ap (λ d. grown place (length P) d (map f (times (one_dropped (length P)) (count - (count - n)) places))) none
    ∙ ap (λ d. map f (times (one_dropped (length P)) d places)) some
    ∙ ap (map f) (ap (times (one_dropped (length P)) n) (labelled-around before behind) ∙ dropped-some P (labelled_from (place + 1) behind) place n)
    ∙ map-append f P (place ∷ drop n (labelled_from (place + 1) behind))
    ∙ ap₂ ◌++◌ (map-before f place stays before refl) (ap₂ ◌∷◌ (stays place (omega arith)) moved)
    ∙ sym (labelled-around before (without_first n behind))
  where
    place : ℕ
    place = length before

    count : ℕ
    count = length (around before behind)

    places : List ℕ
    places = labelled (around before behind)

    P : List ℕ
    P = labelled before

    f : ℕ → ℕ
    f = shifted place count (count - n)

    long : count ≡ place + suc (length behind)
    long = length-append before (true ∷ behind)

    none : count - n - count ≡ 0
    none = omega arith

    some : count - (count - n) ≡ n
    some = omega (arith, fits, long)

    stays : (j : ℕ) → j ≤ place → f j ≡ j
    stays j low = by_test (nat_lt place j) refl
      where
        by_test : (t : Bool) → nat_lt place j ≡ t → (if t then count - n - (count - j) else j) ≡ j
        by_test true is = absurd (let less : place < j = grind (arith, nat_tests, is) in omega (arith, less, low))
        by_test false is = refl

    moves : (j : ℕ) → place + 1 ≤ j → j < place + 1 + length behind → f j ≡ j - (0 + n)
    moves j low high = by_test (nat_lt place j) refl
      where
        by_test : (t : Bool) → nat_lt place j ≡ t → (if t then count - n - (count - j) else j) ≡ j - (0 + n)
        by_test true is = omega (arith, low, high, long, fits)
        by_test false is = absurd (let less : j ≤ place = grind (arith, nat_tests, is) in omega (arith, less, low))

    moved : map f (drop n (labelled_from (place + 1) behind)) ≡ labelled_from (place + 1) (without_first n behind)
    moved =
        let same : place + 1 ≡ place + 1 + 0 = omega arith in
        map-dropped f (λ j. j - (0 + n)) n (place + 1) behind moves
        ∙ ap (λ k. map (λ j. j - (0 + n)) (drop n (labelled_from k behind))) same
        ∙ moved-back n 0 (place + 1) behind
