-- Items that are reversed: those of one cluster keep the list of clusters.
use Rattle.std.proofs.Common.{◌≡◌, ℕ, zero, suc, ◌+◌, ◌-◌, ◌<◌, ◌≤◌, List, [], ◌∷◌, ◌++◌, length, take, drop, get_or, reverse, slice_range, refl, ap, ap₂, sym, subst, ◌∙◌, arith, inl}
use Rattle.std.proofs.Math.Seq.{drop-nil}
use Rattle.std.proofs.lemmas.List.{reverse-append, map-append, take-append-drop, get_or-take, get_or-drop, get_or-map, length-drop, length-map, length-take-le}
use Rattle.std.proofs.lemmas.List.Folds.{list_any-append}
use Rattle.shape_items.specs.Buffer.{Buffer}
use Rattle.shape_items.specs.BufferClusters.{merge_clusters}
use Rattle.shape_items.specs.Clusters.{clusters}
use Rattle.shape_items.specs.Items.{Item, new_item}
use Rattle.shape_items.specs.ClusterOrder.{IsMonotoneLevel}
use Rattle.shape_items.specs.PreservesFlags.{has_flag, some_has}
use Rattle.shape_items.proofs.Order.ReversedLemmas.{clusters-reverse, some_has-reverse}
use Rattle.shape_buffer.specs.Ranges.{reversed_range}
use Rattle.shape_buffer.proofs.Steps.PreservationLemmas.{PreservesClusters-equal}
use Rattle.syllabic.specs.Moving.{reversed, run_brought_before}
use Rattle.syllabic.proofs.MovingLemmas.{length-reversed}
use Rattle.syllabic.proofs.PreservationLemmas.{Keeps, Keeps-then, Keeps-merge, AreJoined, JoinedIf, joined-merged}

-- ---- a list in three parts

rest-twice : {A : Type 0} (n m : ℕ) (xs : List A) → drop n (drop m xs) ≡ drop (m + n) xs
rest-twice n zero xs = ap (λ k. drop k xs) (omega arith)
rest-twice n (suc m) [] = drop-nil n ∙ sym (drop-nil (suc m + n))
rest-twice {A} n (suc m) (x ∷ xs) =
    let far : suc (m + n) ≡ suc m + n = omega arith in
    rest-twice n m xs ∙ ap (λ k. drop k (x ∷ xs)) far

in_parts : {A : Type 0} (start end : ℕ) (xs : List A) → start ≤ end → take start xs ++ (slice_range xs start end ++ drop end xs) ≡ xs
in_parts {A} start end xs ordered =
    let far : start + (end - start) ≡ end = omega (arith, ordered) in
    let rest : drop end xs ≡ drop (end - start) (drop start xs) = sym (rest-twice (end - start) start xs ∙ ap (λ n. drop n xs) far) in
    ap (λ (l : List A). take start xs ++ (slice_range xs start end ++ l)) rest
    ∙ ap (λ (l : List A). take start xs ++ l) (take-append-drop (end - start) (drop start xs))
    ∙ take-append-drop start xs

-- ---- numbers that are all the same

abbrev AreAll : ℕ → List ℕ → Type 0
AreAll c cs = (k : ℕ) → k < length cs → get_or cs k 0 ≡ c

all-later : (c x : ℕ) (cs : List ℕ) → AreAll c (x ∷ cs) → AreAll c cs
all-later c x cs are k lt = are (suc k) (omega (arith, lt))

put_last : (c : ℕ) (cs : List ℕ) → AreAll c cs → cs ++ (c ∷ []) ≡ c ∷ cs
put_last c [] are = refl
put_last c (x ∷ cs) are =
    let same : x ≡ c = are 0 (omega arith) in
    ap (λ (l : List ℕ). x ∷ l) (put_last c cs (all-later c x cs are)) ∙ ap₂ (λ (y z : ℕ). y ∷ z ∷ cs) same (sym same)

reverse-same : (c : ℕ) (cs : List ℕ) → AreAll c cs → reverse cs ≡ cs
reverse-same c [] are = refl
reverse-same c (x ∷ cs) are =
    let same : x ≡ c = are 0 (omega arith) in
    let later = all-later c x cs are in
    reverse-append (x ∷ []) cs
    ∙ ap₂ (λ (l : List ℕ) (y : ℕ). l ++ (y ∷ [])) (reverse-same c cs later) same
    ∙ put_last c cs later ∙ ap (λ (y : ℕ). y ∷ cs) (sym same)

-- neighbours that are the same are all the same as the first
as_first : (from to : ℕ) (cs : List ℕ) → AreJoined from to cs → (k : ℕ) → from + k < to → get_or cs (from + k) 0 ≡ get_or cs from 0
as_first from to cs joined zero lt = ap (λ n. get_or cs n 0) (omega arith)
as_first from to cs joined (suc k) lt =
    let next : from + suc k ≡ from + k + 1 = omega arith in
    ap (λ n. get_or cs n 0) next ∙ sym (joined (from + k) (omega arith) (omega (arith, lt)))
    ∙ as_first from to cs joined k (omega (arith, lt))

-- ---- clusters and flags of a list with a part reversed

clusters-parts : (xs ys zs : List Item) → clusters (xs ++ (ys ++ zs)) ≡ clusters xs ++ (clusters ys ++ clusters zs)
clusters-parts xs ys zs =
    let key : Item → ℕ = λ x. x.cluster in
    map-append key xs (ys ++ zs) ∙ ap (λ (l : List ℕ). clusters xs ++ l) (map-append key ys zs)

-- the clusters of a part of joined items
part-same : (from to start end : ℕ) (xs : List Item) → from ≤ start → start ≤ end → end ≤ to → to ≤ length xs
    → AreJoined from to (clusters xs) → AreAll (get_or (clusters xs) from 0) (clusters (slice_range xs start end))
part-same from to start end xs low ordered high within joined k lt =
    let d = new_item 0 0 in
    let key : Item → ℕ = λ x. x.cluster in
    let part = slice_range xs start end in
    let long : length part ≡ end - start
    = length-take-le (end - start) (drop start xs) (rw (length-drop start xs) (omega (arith, ordered, high, within))) in
    let less : k < length part = omega (arith, lt, length-map part key) in
    let at : get_or part k d ≡ get_or xs (start + k) d
    = get_or-take (end - start) (drop start xs) k d (omega (arith, less, long)) ∙ get_or-drop start xs k d in
    let place : start + k ≡ from + (start - from + k) = omega (arith, low) in
    get_or-map key part k d 0 less ∙ ap key at ∙ sym (get_or-map key xs (start + k) d 0 (omega (arith, less, long, high, within)))
    ∙ ap (λ n. get_or (clusters xs) n 0) place ∙ as_first from to (clusters xs) joined (start - from + k) (omega (arith, less, long, high, low))

clusters-reversed : (from to start end : ℕ) (xs : List Item) → from ≤ start → start ≤ end → end ≤ to → to ≤ length xs
    → AreJoined from to (clusters xs) → clusters (reversed_range start end xs) ≡ clusters xs
clusters-reversed from to start end xs low ordered high within joined =
    let part = slice_range xs start end in
    let same : clusters (reverse part) ≡ clusters part
    = clusters-reverse part ∙ reverse-same (get_or (clusters xs) from 0) (clusters part) (part-same from to start end xs low ordered high within joined) in
    clusters-parts (take start xs) (reverse part) (drop end xs)
    ∙ ap (λ (l : List ℕ). clusters (take start xs) ++ (l ++ clusters (drop end xs))) same
    ∙ sym (clusters-parts (take start xs) part (drop end xs)) ∙ ap clusters (in_parts start end xs ordered)

some_has-parts : (flag : ℕ) (xs ys zs : List Item) → some_has flag (xs ++ (reverse ys ++ zs)) ≡ some_has flag (xs ++ (ys ++ zs))
some_has-parts flag xs ys zs =
    rw (
      list_any-append (has_flag flag) xs (reverse ys ++ zs),
      list_any-append (has_flag flag) (reverse ys) zs,
      some_has-reverse flag ys,
      list_any-append (has_flag flag) xs (ys ++ zs),
      list_any-append (has_flag flag) ys zs,
    ) refl

some_has-reversed : (flag start end : ℕ) (xs : List Item) → start ≤ end → some_has flag (reversed_range start end xs) ≡ some_has flag xs
some_has-reversed flag start end xs ordered =
    some_has-parts flag (take start xs) (slice_range xs start end) (drop end xs) ∙ ap (some_has flag) (in_parts start end xs ordered)

-- ---- what is kept

pub Keeps-reversed : (from to start end : ℕ) (b : Buffer) → from ≤ start → start ≤ end → end ≤ to → to ≤ length b.items → JoinedIf from to b
    → Keeps b (reversed start end b) × JoinedIf from to (reversed start end b)
Keeps-reversed from to start end b low ordered high within joined =
    let same = λ (monotone : IsMonotoneLevel b.cluster_level). clusters-reversed from to start end b.items low ordered high within (joined monotone) in (
      record {
        order = λ monotone. record {
          clusters = PreservesClusters-equal (clusters b.items) (clusters (reversed_range start end b.items)) (same monotone);
          direction = refl;
          flags = refl;
          level = refl;
        };
        flags = record {
          flags = refl;
          stays_set = λ e. e;
          none_new = λ flag d some. inl (sym (some_has-reversed flag start end b.items ordered) ∙ some);
        };
        count = length-reversed start end b ordered (omega (arith, high, within));
      },
      λ monotone. subst (AreJoined from to) (sym (same monotone)) (joined monotone),
    )

-- the items from one place up to another one, which go before those from a place on: they are in one cluster with these still
pub Keeps-run_joined : (place from to : ℕ) (b : Buffer) → place ≤ from → from ≤ to → to ≤ length b.items
    → Keeps b (run_brought_before place from to b) × JoinedIf place to (run_brought_before place from to b)
Keeps-run_joined place from to b ordered some within =
    let merged = merge_clusters place to b in
    let one = Keeps-merge place to b within in
    let long : to ≤ length merged.items = omega (arith, within, one.count) in
    let joined = joined-merged place to b within in
    let all = Keeps-reversed place to place to merged (omega arith) (omega (arith, ordered, some)) (omega arith) long joined in
    let turned = reversed place to merged in
    let last = Keeps-reversed place to (place + (to - from)) to turned (omega arith) (omega (arith, ordered, some)) (omega arith)
    (omega (arith, long, all.0.count)) all.1 in
    (Keeps-then b turned (run_brought_before place from to b) (Keeps-then b merged turned one all.0) last.0, last.1)

pub Keeps-run_brought_before : (place from to : ℕ) (b : Buffer) → place ≤ from → from ≤ to → to ≤ length b.items
    → Keeps b (run_brought_before place from to b)
Keeps-run_brought_before place from to b ordered some within = (Keeps-run_joined place from to b ordered some within).0
