-- Of a span that is marked unsafe to break, and is marked again as a longer one, only what is new is marked.
use Rattle.std.proofs.Common.{◌≡◌, ℕ, ◌+◌, ◌-◌, ◌≤◌, ◌<◌, ◌==◌, Bool, true, false, List, [], ◌∷◌, ◌++◌, map, take, drop, min, max, fold, length}
use Rattle.std.proofs.Common.{get_or, set, slice_range, nat_le, nat_lt, refl, sym, ap, ap₂, ◌∙◌, subst, arith, bit_or, if◌then◌else◌}
use Rattle.std.specs.Int.{bit_at}
use Rattle.std.proofs.lemmas.Bool.Decides.{nat_tests}
use Rattle.std.proofs.lemmas.List.{take-take, drop-take, drop-drop, take-append-drop, append_assoc, map-append, take-map, length-append}
use Rattle.std.proofs.lemmas.List.{length-take-le, length-drop, length-map, take_at, drop_at, drop_more, set_at, get_or_at, get_or_default}
use Rattle.std.proofs.lemmas.Nat.Bits.{bit_at_or, same_from_bits}
use Rattle.shape_items.specs.Buffer.{Buffer}
use Rattle.shape_items.specs.BufferClusters.{unsafe_to_break, unsafe_to_concat, with_glyph_flags}
use Rattle.shape_items.specs.Clusters.{least_cluster, map_range, mark_break}
use Rattle.shape_items.specs.Items.{Item}
use Rattle.shape_items.proofs.Merging.KeyLemmas.{length-map_range}
use Rattle.shape_items.proofs.MergingInOrder.StandingLemmas.{slice_range-more}
use Rattle.layout_positions.specs.Edits.{asks_for_concat, concat_marked}
use Rattle.layout_positions.specs.Flagged.{unsafe_item, IsFlagged}
use Rattle.layout_positions.specs.declared.flagged.Flagged.{Flagged}

-- ---- spans of a list

front_split : {T : Type 0} (a b : ℕ) (xs : List T) → a ≤ b → take b xs ≡ take a xs ++ slice_range xs a b
front_split a b xs le =
    let sum : a + (b - a) ≡ b = omega arith in
    let first : take a (take b xs) ≡ take a xs = take-take a b xs le in
    let rest : drop a (take b xs) ≡ slice_range xs a b = ap (λ k. drop a (take k xs)) (sym sum) ∙ drop-take a (b - a) xs in
    sym (take-append-drop a (take b xs)) ∙ ap₂ (λ l r. l ++ r) first rest

span_split : {T : Type 0} (a b c : ℕ) (xs : List T) → a ≤ b → b ≤ c → slice_range xs a c ≡ slice_range xs a b ++ slice_range xs b c
span_split a b c xs ab bc =
    let first : take (b - a) (slice_range xs a c) ≡ slice_range xs a b = take-take (b - a) (c - a) (drop a xs) (omega arith) in
    let sum : (b - a) + (c - b) ≡ c - a = omega arith in
    let there : a + (b - a) ≡ b = omega arith in
    let rest : drop (b - a) (slice_range xs a c) ≡ slice_range xs b c =
    ap (λ k. drop (b - a) (take k (drop a xs))) (sym sum) ∙ drop-take (b - a) (c - b) (drop a xs)
    ∙ ap (take (c - b)) (drop-drop (b - a) a xs ∙ ap (λ k. drop k xs) there) in
    sym (take-append-drop (b - a) (slice_range xs a c)) ∙ ap₂ (λ l r. l ++ r) first rest

length_span : {T : Type 0} (a b : ℕ) (xs : List T) → a ≤ b → b ≤ length xs → length (slice_range xs a b) ≡ b - a
length_span a b xs le within = length-take-le (b - a) (drop a xs) (omega (arith, length-drop a xs))

-- a span of the front of a list
span_of_front : {T : Type 0} (a t b : ℕ) (xs : List T) → a ≤ t → t ≤ b → slice_range (take b xs) a t ≡ slice_range xs a t
span_of_front a t b xs le within =
    let sum : a + (b - a) ≡ b = omega arith in
    ap (λ k. take (t - a) (drop a (take k xs))) (sym sum) ∙ ap (take (t - a)) (drop-take a (b - a) xs)
    ∙ take-take (t - a) (b - a) (drop a xs) (omega arith)

-- what stands before a range stays
span_before : (f : Item → Item) (a t b c : ℕ) (xs : List Item) → a ≤ t → t ≤ b → b ≤ length xs
    → slice_range (map_range f b c xs) a t ≡ slice_range xs a t
span_before f a t b c xs le before within =
    let rest : List Item = map f (slice_range xs b c) ++ drop c xs in
    let front : take b (take b xs ++ rest) ≡ take b xs = take_at (take b xs) rest b (length-take-le b xs within) in
    sym (span_of_front a t b (take b xs ++ rest) le before) ∙ ap (λ l. slice_range l a t) front ∙ span_of_front a t b xs le before

-- and the range is gone over
span_in : (f : Item → Item) (a c : ℕ) (xs : List Item) → a ≤ c → c ≤ length xs
    → slice_range (map_range f a c xs) a c ≡ map f (slice_range xs a c)
span_in f a c xs le within =
    let new : List Item = map f (slice_range xs a c) in
    let rest : List Item = drop c xs in
    let count : length new ≡ c - a = length-map (slice_range xs a c) f ∙ length_span a c xs le within in
    ap (take (c - a)) (drop_at (take a xs) (new ++ rest) a (length-take-le a xs (omega (arith, le, within))))
    ∙ take_at new rest (c - a) count

-- what a function leaves as it is need not be gone over
map_range_further : (f : Item → Item) (a b c : ℕ) (xs : List Item) → a ≤ b → b ≤ c → map f (slice_range xs a b) ≡ slice_range xs a b
    → map_range f b c xs ≡ map_range f a c xs
map_range_further f a b c xs ab bc same =
    let rest : List Item = drop c xs in
    let new : List Item = map f (slice_range xs b c) in
    let whole : map f (slice_range xs a c) ≡ slice_range xs a b ++ new =
    ap (map f) (span_split a b c xs ab bc) ∙ map-append f (slice_range xs a b) (slice_range xs b c) ∙ ap (λ l. l ++ new) same in
    ap (λ l. l ++ (new ++ rest)) (front_split a b xs ab)
    ∙ append_assoc (take a xs) (slice_range xs a b) (new ++ rest)
    ∙ ap (λ l. take a xs ++ l) (sym (append_assoc (slice_range xs a b) new rest))
    ∙ ap (λ l. take a xs ++ (l ++ rest)) (sym whole)

-- a span at the start of a range is gone over
span_of_range : (f : Item → Item) (a t c : ℕ) (xs : List Item) → a ≤ t → t ≤ c → c ≤ length xs
    → slice_range (map_range f a c xs) a t ≡ map f (slice_range xs a t)
span_of_range f a t c xs le before within =
    let whole = span_in f a c xs (omega (arith, le, before)) within in
    sym (take-take (t - a) (c - a) (drop a (map_range f a c xs)) (omega (arith, le, before)))
    ∙ ap (take (t - a)) whole ∙ take-map f (t - a) (slice_range xs a c)
    ∙ ap (map f) (take-take (t - a) (c - a) (drop a xs) (omega (arith, le, before)))

range_none : (f : Item → Item) (a : ℕ) (xs : List Item) → map_range f a a xs ≡ xs
range_none f a xs =
    let none : a - a ≡ 0 = omega arith in
    ap (λ n. take a xs ++ (map f (take n (drop a xs)) ++ drop a xs)) none ∙ take-append-drop a xs

-- one item more of a range
pub range_more : (f : Item → Item) (a i : ℕ) (xs : List Item) (x : Item) → a ≤ i → i < length xs → x ≡ get_or (map_range f a i xs) i x
    → set (map_range f a i xs) i (f x) ≡ map_range f a (i + 1) xs
range_more f a i xs x le inside is =
    let y : Item = get_or xs i x in
    let rest : List Item = drop (i + 1) xs in
    let front : List Item = take a xs ++ map f (slice_range xs a i) in
    let count : length front ≡ i =
    length-append (take a xs) (map f (slice_range xs a i)) ∙ ap₂ (λ n k. n + k) (length-take-le a xs (omega (arith, le, inside)))
    (length-map (slice_range xs a i) f ∙ length_span a i xs le (omega (arith, inside))) ∙ omega (arith, le) in
    let here : map_range f a i xs ≡ front ++ y ∷ rest =
    sym (append_assoc (take a xs) (map f (slice_range xs a i)) (drop i xs)) ∙ ap (λ l. front ++ l) (drop_more xs i x inside) in
    let same : x ≡ y = is ∙ ap (λ l. get_or l i x) here ∙ get_or_at front y rest x i count in
    let more : map f (slice_range xs a (i + 1)) ≡ map f (slice_range xs a i) ++ f y ∷ [] =
    ap (map f) (slice_range-more xs a i y le inside (get_or_default xs i x y inside)) ∙ map-append f (slice_range xs a i) (y ∷ []) in
    ap (λ l. set l i (f x)) here ∙ set_at front y rest (f x) i count
    ∙ ap (λ z. front ++ f z ∷ rest) same
    ∙ append_assoc (take a xs) (map f (slice_range xs a i)) (f y ∷ rest)
    ∙ ap (λ l. take a xs ++ l) (sym (append_assoc (map f (slice_range xs a i)) (f y ∷ []) rest))
    ∙ ap (λ l. take a xs ++ (l ++ rest)) (sym more)

-- ---- marks

-- a bit that is set twice is set once
or_twice : (a m : ℕ) → bit_or (bit_or a m) m ≡ bit_or a m
or_twice a m =
    same_from_bits (bit_or (bit_or a m) m) (bit_or a m)
    (λ i. bit_at_or (bit_or a m) m i ∙ ap (λ n. max n (bit_at m i)) (bit_at_or a m i) ∙ max_twice (bit_at a i) (bit_at m i)
    ∙ sym (bit_at_or a m i))
  where
    max_twice : (x y : ℕ) → max (max x y) y ≡ max x y
    max_twice x y = omega arith

marked_if : Bool → Item → Item
marked_if t x = if t then x else unsafe_item x

unsafe_twice : (x : Item) → unsafe_item (unsafe_item x) ≡ unsafe_item x
unsafe_twice x = ap (λ m. record x { mask = m }) (or_twice x.mask 3)

mark_twice : (k : ℕ) (x : Item) → mark_break k (mark_break k x) ≡ mark_break k x
mark_twice k x = by_test (x.cluster == k) refl
  where
    by_test : (t : Bool) → (x.cluster == k) ≡ t → mark_break k (mark_break k x) ≡ mark_break k x
    by_test true e = rw (e, e) refl
    by_test false e = rw (e, e) (unsafe_twice x)

mark_unsafe : (k : ℕ) (x : Item) → unsafe_item x ≡ x → mark_break k x ≡ x
mark_unsafe k x is = by_test (x.cluster == k)
  where
    by_test : (t : Bool) → (if t then x else unsafe_item x) ≡ x
    by_test true = refl
    by_test false = is

all_twice : (f : Item → Item) → ((x : Item) → f (f x) ≡ f x) → (xs : List Item) → map f (map f xs) ≡ map f xs
all_twice f twice [] = refl
all_twice f twice (x ∷ xs) = ap₂ (λ y ys. y ∷ ys) (twice x) (all_twice f twice xs)

all_unsafe : (k : ℕ) (xs : List Item) → map unsafe_item xs ≡ xs → map (mark_break k) xs ≡ xs
all_unsafe k [] is = refl
all_unsafe k (x ∷ xs) is = ap₂ (λ y ys. y ∷ ys) (mark_unsafe k x (ap (λ l. get_or l 0 x) is)) (all_unsafe k xs (ap (drop 1) is))

-- ---- the least cluster

cluster_marked : (k : ℕ) (x : Item) → (mark_break k x).cluster ≡ x.cluster
cluster_marked k x = by_test (x.cluster == k)
  where
    by_test : (t : Bool) → (if t then x else unsafe_item x).cluster ≡ x.cluster
    by_test true = refl
    by_test false = refl

abbrev lesser : ℕ → Item → ℕ
lesser least item = min least item.cluster

fold_marked : (k n : ℕ) (xs : List Item) → fold lesser n (map (mark_break k) xs) ≡ fold lesser n xs
fold_marked k n [] = refl
fold_marked k n (x ∷ xs) = ap (λ c. fold lesser (min n c) (map (mark_break k) xs)) (cluster_marked k x) ∙ fold_marked k (min n x.cluster) xs

least_marked : (k : ℕ) (xs : List Item) → least_cluster (map (mark_break k) xs) ≡ least_cluster xs
least_marked k [] = refl
least_marked k (x ∷ xs) = ap (λ c. fold lesser c (map (mark_break k) xs)) (cluster_marked k x) ∙ fold_marked k x.cluster xs

fold_below : (n : ℕ) (xs : List Item) → fold lesser n xs ≤ n
fold_below n [] = omega arith
fold_below n (x ∷ xs) = let rest = fold_below (min n x.cluster) xs in omega (arith, rest)

fold_min : (a b : ℕ) (xs : List Item) → fold lesser (min a b) xs ≡ min a (fold lesser b xs)
fold_min a b [] = refl
fold_min a b (x ∷ xs) =
    let same : min (min a b) x.cluster ≡ min a (min b x.cluster) = omega arith in
    ap (λ n. fold lesser n xs) same ∙ fold_min a (min b x.cluster) xs

fold_append : (n : ℕ) (xs : List Item) (y : Item) (ys : List Item) → fold lesser n (xs ++ y ∷ ys) ≡ min (fold lesser n xs) (fold lesser y.cluster ys)
fold_append n [] y ys = fold_min n y.cluster ys
fold_append n (x ∷ xs) y ys = fold_append (min n x.cluster) xs y ys

least_of_both : (xs ys : List Item) → 0 < length xs → 0 < length ys → least_cluster (xs ++ ys) ≡ min (least_cluster xs) (least_cluster ys)
least_of_both [] ys some more = absurd (omega (arith, some))
least_of_both (x ∷ xs) [] some more = absurd (omega (arith, more))
least_of_both (x ∷ xs) (y ∷ ys) some more = fold_append x.cluster xs y ys

-- all of a list is marked where its least cluster is greater
marked_item : (k n : ℕ) (x : Item) → k < min n x.cluster → unsafe_item (mark_break k x) ≡ mark_break k x
marked_item k n x less = by_test (x.cluster == k) refl
  where
    by_test : (t : Bool) → (x.cluster == k) ≡ t → unsafe_item (mark_break k x) ≡ mark_break k x
    by_test true e = absurd (grind (arith, nat_tests, e, less))
    by_test false e = rw e (unsafe_twice x)

marked_above : (k n : ℕ) (xs : List Item) → k < fold lesser n xs → map unsafe_item (map (mark_break k) xs) ≡ map (mark_break k) xs
marked_above k n [] less = refl
marked_above k n (x ∷ xs) less =
    let below = fold_below (min n x.cluster) xs in
    ap₂ (λ y ys. y ∷ ys) (marked_item k n x (omega (arith, below, less))) (marked_above k (min n x.cluster) xs less)

all_above : (k : ℕ) (xs : List Item) → k < least_cluster xs → map unsafe_item (map (mark_break k) xs) ≡ map (mark_break k) xs
all_above k [] less = refl
all_above k (x ∷ xs) less =
    let below = fold_below x.cluster xs in
    ap₂ (λ y ys. y ∷ ys) (marked_item k x.cluster x (omega (arith, below, less))) (marked_above k x.cluster xs less)

-- ---- what is known of a span

span-none : (from : ℕ) (xs : List Item) → slice_range xs from from ≡ []
span-none from xs =
    let none : from - from ≡ 0 = omega arith in
    ap (λ n. take n (drop from xs)) none

flagged_at : (from low to k : ℕ) (xs ys : List Item) → from ≤ low → low ≤ to → to ≤ length xs → k ≡ least_cluster (slice_range xs from to)
    → ys ≡ map_range (mark_break k) from to xs → map unsafe_item (slice_range ys from low) ≡ slice_range ys from low
    → IsFlagged (record { from = from; low = low; to = to; least = k }) ys
flagged_at from low to k xs ys le before within is made whole =
    let order : from ≤ to = omega (arith, le, before) in
    let span : slice_range ys from to ≡ map (mark_break k) (slice_range xs from to) =
    ap (λ l. slice_range l from to) made ∙ span_in (mark_break k) from to xs order within in
    let count : length ys ≡ length xs = ap (λ (l : List Item). length l) made ∙ length-map_range (mark_break k) from to xs order in
    record {
      begins = le;
      goes_on = before;
      ends = omega (arith, count, within);
      least = is ∙ sym (least_marked k (slice_range xs from to)) ∙ ap least_cluster (sym span);
      whole = whole;
      others = ap (map (mark_break k)) span ∙ all_twice (mark_break k) (mark_twice k) (slice_range xs from to) ∙ sym span;
    }

-- a span that has just been marked
pub flagged_anew : (from to least : ℕ) (b c : Buffer) → from + 1 < to → to ≤ length b.items → c ≡ unsafe_to_break from to b
    → least ≡ least_cluster (slice_range c.items from to)
    → IsFlagged (record { from = from; low = from; to = to; least = least }) c.items
flagged_anew from to least b c long within made is =
    let xs = b.items in
    let k = least_cluster (slice_range xs from to) in
    let order : from ≤ to = omega (arith, long) in
    let test : nat_lt (from + 1) to ≡ true = grind (arith, nat_tests, long) in
    let marked : c.items ≡ map_range (mark_break k) from to xs =
    ap (λ (d : Buffer). d.items) made
    ∙ ap (λ t. (if t then record (with_glyph_flags b) { items = map_range (mark_break k) from to xs } else b).items) test in
    let same : least ≡ k =
    is ∙ ap (λ l. least_cluster (slice_range l from to)) marked ∙ ap least_cluster (span_in (mark_break k) from to xs order within)
    ∙ least_marked k (slice_range xs from to) in
    let none : map unsafe_item (slice_range c.items from from) ≡ slice_range c.items from from =
    ap (map unsafe_item) (span-none from c.items) ∙ sym (span-none from c.items) in
    subst (λ n. IsFlagged (record { from = from; low = from; to = to; least = n }) c.items) (sym same)
    (flagged_at from from to k xs c.items (omega arith) order within refl marked none)

-- the least cluster of a longer span
least_further : (m : Flagged) (to : ℕ) (xs : List Item) → IsFlagged m xs → m.from < m.to → m.to < to → to ≤ length xs
    → least_cluster (slice_range xs m.from to) ≡ min m.least (least_cluster (slice_range xs m.to to))
least_further m to xs known some more within =
    let first : 0 < length (slice_range xs m.from m.to) =
    omega (arith, length_span m.from m.to xs (omega (arith, some)) (omega (arith, more, within)), some) in
    let second : 0 < length (slice_range xs m.to to) = omega (arith, length_span m.to to xs (omega (arith, more)) within, more) in
    ap least_cluster (span_split m.from m.to to xs (omega (arith, some)) (omega (arith, more)))
    ∙ least_of_both (slice_range xs m.from m.to) (slice_range xs m.to to) first second
    ∙ ap (λ n. min n (least_cluster (slice_range xs m.to to))) (sym known.least)

-- a longer span with the same least cluster
pub same_further : (m : Flagged) (to least : ℕ) (xs : List Item) → IsFlagged m xs → m.from < m.to → m.to < to → to ≤ length xs
    → least ≡ least_cluster (slice_range xs m.to to) → m.least ≤ least
    → (map_range (mark_break m.least) m.to to xs ≡ map_range (mark_break (least_cluster (slice_range xs m.from to))) m.from to xs)
    × IsFlagged (record m { to = to }) (map_range (mark_break m.least) m.to to xs)
same_further m to least xs known some more within is no_less =
    let k = m.least in
    let le : m.from ≤ m.to = omega (arith, some) in
    let on : m.to ≤ to = omega (arith, more) in
    let whole = least_further m to xs known some more within in
    let same : k ≡ least_cluster (slice_range xs m.from to) = omega (arith, whole, is, no_less) in
    let made = map_range_further (mark_break k) m.from m.to to xs le on known.others in
    let ys : List Item = map_range (mark_break k) m.to to xs in
    let before : slice_range ys m.from m.low ≡ slice_range xs m.from m.low =
    span_before (mark_break k) m.from m.low m.to to xs known.begins known.goes_on known.ends in (
      made ∙ ap (λ n. map_range (mark_break n) m.from to xs) same,
      flagged_at m.from m.low to k xs ys known.begins (omega (arith, known.goes_on, more)) within same made
          (ap (map unsafe_item) before ∙ known.whole ∙ sym before),
    )

-- a longer span with a lesser one: what was of the former least cluster is marked, too
pub less_further : (m : Flagged) (to least : ℕ) (xs : List Item) → IsFlagged m xs → m.from < m.to → m.to < to → to ≤ length xs
    → least ≡ least_cluster (slice_range xs m.to to) → least < m.least
    → (map_range (mark_break least) m.low to xs ≡ map_range (mark_break (least_cluster (slice_range xs m.from to))) m.from to xs)
    × IsFlagged (record { from = m.from; low = m.to; to = to; least = least }) (map_range (mark_break least) m.low to xs)
less_further m to least xs known some more within is less =
    let le : m.from ≤ m.to = omega (arith, some) in
    let on : m.to ≤ to = omega (arith, more) in
    let whole = least_further m to xs known some more within in
    let same : least ≡ least_cluster (slice_range xs m.from to) = omega (arith, whole, is, less) in
    let made = map_range_further (mark_break least) m.from m.low to xs known.begins (omega (arith, known.goes_on, more))
    (all_unsafe least (slice_range xs m.from m.low) known.whole) in
    let ys : List Item = map_range (mark_break least) m.low to xs in
    let span : slice_range ys m.from m.to ≡ map (mark_break least) (slice_range xs m.from m.to) =
    ap (λ l. slice_range l m.from m.to) made ∙ span_of_range (mark_break least) m.from m.to to xs le on within in
    let above : least < least_cluster (slice_range xs m.from m.to) = omega (arith, less, known.least) in (
      made ∙ ap (λ n. map_range (mark_break n) m.from to xs) same,
      flagged_at m.from m.to to least xs ys le on within same made
          (ap (map unsafe_item) span ∙ all_above least (slice_range xs m.from m.to) above ∙ sym span),
    )

-- ---- buffers

-- a range of which nothing is marked yet
pub broken_none : (k a : ℕ) (b : Buffer) → b ≡ record b { items = map_range (mark_break k) a a b.items }
broken_none k a b = ap (λ xs. record b { items = xs }) (sym (range_none (mark_break k) a b.items))

-- one item more
pub broken_more : (k a i : ℕ) (b c d : Buffer) (x : Item) → a ≤ i → i < length b.items
    → c ≡ record b { items = map_range (mark_break k) a i b.items } → x ≡ get_or c.items i x
    → d ≡ record c { items = set c.items i (mark_break k x) } → d ≡ record b { items = map_range (mark_break k) a (i + 1) b.items }
broken_more k a i b c d x le inside made is put =
    let items : c.items ≡ map_range (mark_break k) a i b.items = ap (λ (e : Buffer). e.items) made in
    let more = range_more (mark_break k) a i b.items x le inside (is ∙ ap (λ l. get_or l i x) items) in
    put ∙ ap (λ (e : Buffer). record e { items = set e.items i (mark_break k x) }) made ∙ ap (λ xs. record b { items = xs }) more

-- a span of which a part is marked anew
pub part_made : (from low to k : ℕ) (b c d : Buffer) → from + 1 < to → c ≡ with_glyph_flags b
    → d ≡ record c { items = map_range (mark_break k) low to c.items }
    → map_range (mark_break k) low to b.items ≡ map_range (mark_break (least_cluster (slice_range b.items from to))) from to b.items
    → d ≡ unsafe_to_break from to b
part_made from low to k b c d long flags put same =
    let f = mark_break k in
    let all : List Item = map_range (mark_break (least_cluster (slice_range b.items from to))) from to b.items in
    let test : nat_lt (from + 1) to ≡ true = grind (arith, nat_tests, long) in
    put ∙ ap (λ (e : Buffer). record e { items = map_range f low to e.items }) flags
    ∙ ap (λ xs. record (with_glyph_flags b) { items = xs }) same
    ∙ ap (λ t. if t then record (with_glyph_flags b) { items = all } else b) (sym test)

-- ---- nothing is marked unsafe to concat where that isn't asked for

pub concat_unasked : (start end : ℕ) (b : Buffer) → asks_for_concat b ≡ false → b ≡ concat_marked start end b
concat_unasked start end b unasked =
    let last = min end (length b.items) in
    by_order (nat_le start last)
  where
    by_order : (t : Bool) → b ≡ (if t then unsafe_to_concat start (min end (length b.items)) b else b)
    by_order true = rw unasked refl
    by_order false = refl
