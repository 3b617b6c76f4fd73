-- A list whose items before a span stand for others: what merging the span makes of it.
use Rattle.std.proofs.Common.{◌≡◌, ℕ, ◌+◌, ◌-◌, ◌<◌, ◌≤◌, ◌==◌, true, false, nat_lt, List, [], ◌∷◌, ◌++◌, length, get_or, take, drop, map, min, slice_range, slice_index, refl, ap, ap₂, sym, ◌∙◌, arith, inl, inr, append_assoc}
use Rattle.std.proofs.lemmas.Bool.{cases_Bool}
use Rattle.std.proofs.lemmas.Bool.Decides.{nat_tests}
use Rattle.std.proofs.lemmas.List.{take_at, drop_at, take-take, drop-drop, drop-map, get_or-drop, get_or-map, take_more, take_all, drop_all, take-append-le, drop-append-le, take-append-drop, length-take-le, map-append, append-nil}
use Rattle.std.proofs.lemmas.Slice.{between_is}
use Rattle.std.specs.List.{fold}
use Rattle.shape_items.specs.Items.{Item, new_item, put_in}
use Rattle.shape_items.specs.Clusters.{clusters, map_range, put_range, merge, least_cluster, growth_left, growth_right}
use Rattle.shape_items.specs.Spans.{grown_left}
use Rattle.shape_items.proofs.Merging.ClusterLemmas.{merge_long}
use Rattle.shape_items.proofs.Merging.NestedMergeLemmas.{slice-first}
use Rattle.shape_items.proofs.MergingInOrder.GrownLeftLemmas.{map_range-none}

-- ---- the least cluster of a span isn't above that of its first item

fold_least-le : (a : ℕ) (xs : List Item) → fold (λ least item. min least item.cluster) a xs ≤ a
fold_least-le a [] = omega arith
fold_least-le a (x ∷ xs) =
    let later = fold_least-le (min a x.cluster) xs in
    let first : min a x.cluster ≤ a = grind (arith, nat_tests) in
    omega arith

least-le_first : (xs : List Item) (start end : ℕ) → start < end → end ≤ length xs
    → least_cluster (slice_range xs start end) ≤ slice_index (clusters xs) start
least-le_first xs start end lt within =
    let d = new_item 0 0 in
    let read : (get_or xs start d).cluster
    ≡ slice_index (clusters xs) start = sym (get_or-map (λ (x : Item). x.cluster) xs start d 0 (omega arith)) in
    rw (slice-first xs start end d lt within, ← read) (fold_least-le (get_or xs start d).cluster (slice_range xs (start + 1) end))

-- ---- what is read from a place on

module _ (xs ys : List Item) (start : ℕ) (same : drop start xs ≡ drop start ys) where
  pub drop-from : (k : ℕ) → start ≤ k → drop k xs ≡ drop k ys
  drop-from k le =
      let sum : start + (k - start) ≡ k = omega arith in
      sym (drop-drop (k - start) start xs ∙ ap (λ j. drop j xs) sum)
      ∙ ap (drop (k - start)) same ∙ drop-drop (k - start) start ys ∙ ap (λ j. drop j ys) sum

  cluster-from : (k : ℕ) → start ≤ k → slice_index (clusters xs) k ≡ slice_index (clusters ys) k
  cluster-from k le =
      let sum : start + (k - start) ≡ k = omega arith in
      let read = λ (zs : List Item).
      ap (λ cs. get_or cs (k - start) 0) (sym (drop-map (λ (x : Item). x.cluster) start zs))
      ∙ get_or-drop start (clusters zs) (k - start) 0 ∙ ap (λ j. get_or (clusters zs) j 0) sum in
      sym (read xs) ∙ ap (λ zs. get_or (clusters zs) (k - start) 0) same ∙ read ys

  growth_right-from : (last least : ℕ) → start ≤ last → growth_right xs last least ≡ growth_right ys last least
  growth_right-from last least le =
      let behind : drop (last + 1) xs ≡ drop (last + 1) ys = drop-from (last + 1) (omega arith) in
      rw (cluster-from last le, behind) refl

-- ---- a part, and what comes after it

pub slice_range-more : (xs : List Item) (a i : ℕ) (x : Item) → a ≤ i → i < length xs → x ≡ get_or xs i x
    → slice_range xs a (i + 1) ≡ slice_range xs a i ++ x ∷ []
slice_range-more xs a i x le lt ex =
    let front : take (i + 1) xs ≡ take i xs ++ x ∷ [] = take_more xs i x lt ∙ ap (λ y. take i xs ++ y ∷ []) (sym ex) in
    let size : length (take i xs) ≡ i = length-take-le i xs (omega arith) in
    between_is xs a (i + 1) ∙ ap (drop a) front ∙ drop-append-le a (take i xs) (x ∷ []) (omega arith)
    ∙ ap (λ z. z ++ x ∷ []) (sym (between_is xs a i))

-- a part goes over to the front, and the list is the same
pub front-longer : (xs given : List Item) (a b : ℕ) → a ≤ b → (given ++ slice_range xs a b) ++ drop b xs ≡ given ++ drop a xs
front-longer xs given a b le =
    let sum : a + (b - a) ≡ b = omega arith in
    let behind : drop b xs ≡ drop (b - a) (drop a xs) = sym (drop-drop (b - a) a xs ∙ ap (λ j. drop j xs) sum) in
    append_assoc given (slice_range xs a b) (drop b xs)
    ∙ ap (λ z. given ++ (slice_range xs a b ++ z)) behind
    ∙ ap (λ z. given ++ z) (take-append-drop (b - a) (drop a xs))

-- ---- a put over the end of one list and the beginning of the next

map_range-over : (f : Item → Item) (a start to : ℕ) (given infos : List Item) → a ≤ start → start ≤ to → length given ≡ start
    → start ≤ length infos
    → map_range f a to (given ++ drop start infos) ≡ map_range f a start given ++ drop start (map_range f start to infos)
map_range-over f a start to given infos below above size within =
    let rest = drop start infos in
    let sum : start + (to - start) ≡ to = omega arith in
    let same : drop start (given ++ rest) ≡ rest = drop_at given rest start size in
    let head : take a (given ++ rest) ≡ take a given = take-append-le a given rest (omega arith) in
    let tail : drop to (given ++ rest) ≡ drop to infos = drop-from (given ++ rest) infos start same to above in
    let whole : take start given ≡ given = take_all start given (omega arith) in
    let none : drop start given ≡ [] = drop_all start given (omega arith) in
    let front : slice_range given a start ≡ drop a given = between_is given a start ∙ ap (drop a) whole in
    let upto : take to (given ++ rest) ≡ given ++ slice_range infos start to =
    sym (take-append-drop start (take to (given ++ rest)))
    ∙ ap₂ ◌++◌ (take-take start to (given ++ rest) above ∙ take_at given rest start size)
    (sym (between_is (given ++ rest) start to) ∙ ap (take (to - start)) same) in
    let part : slice_range (given ++ rest) a to ≡ drop a given ++ slice_range infos start to =
    between_is (given ++ rest) a to ∙ ap (drop a) upto ∙ drop-append-le a given (slice_range infos start to) (omega arith) in
    let behind = map f (slice_range infos start to) ++ drop to infos in
    let left : map_range f a to (given ++ rest) ≡ take a given ++ (map f (drop a given) ++ behind) =
    ap (λ z. z ++ (map f (slice_range (given ++ rest) a to) ++ drop to (given ++ rest))) head
    ∙ ap (λ z. take a given ++ (map f (slice_range (given ++ rest) a to) ++ z)) tail
    ∙ ap (λ z. take a given ++ (map f z ++ drop to infos)) part
    ∙ ap (λ z. take a given ++ (z ++ drop to infos)) (map-append f (drop a given) (slice_range infos start to))
    ∙ ap (λ z. take a given ++ z) (append_assoc (map f (drop a given)) (map f (slice_range infos start to)) (drop to infos)) in
    let right : map_range f a start given ≡ take a given ++ map f (drop a given) =
    ap (λ z. take a given ++ (map f z ++ drop start given)) front
    ∙ ap (λ z. take a given ++ (map f (drop a given) ++ z)) none
    ∙ ap (λ z. take a given ++ z) (append-nil (map f (drop a given))) in
    let later : drop start (map_range f start to infos) ≡ behind = drop_at (take start infos) behind start (length-take-le start infos within) in
    left ∙ sym (append_assoc (take a given) (map f (drop a given)) behind) ∙ ap₂ ◌++◌ (sym right) (sym later)

-- ---- a span is merged

module _ (infos given : List Item) (start end first least to : ℕ) (long : start + 1 < end) (within : end ≤ length infos)
    (size : length given ≡ start) (first_is : first ≡ slice_index (clusters infos) start)
    (least_is : least ≡ least_cluster (slice_range infos start end)) (to_is : to ≡ end + growth_right infos (end - 1) least) where
  -- the list that is merged
  abbrev all : List Item
  all = given ++ drop start infos

  same_after : drop start all ≡ drop start infos
  same_after = drop_at given (drop start infos) start size

  -- the items before the span
  put_left : put_range (start - growth_left all start least) start least given ≡ grown_left first least given
  put_left =
      let read : slice_index (clusters all) start ≡ first = cluster-from all infos start same_after start (omega arith) ∙ sym first_is in
      let head : take start all ≡ given = take_at given (drop start infos) start size in
      let le : least ≤ first = rw (least_is, first_is) (least-le_first infos start end (omega arith) within) in
      elim (cases_Bool (nat_lt least first)) [
        | inl below ↦
            let differs : first == least ≡ false = grind (arith, nat_tests) in
            rw (read, differs, head, below, size) refl
        | inr not_below ↦
            let equal : first == least ≡ true = grind (arith, nat_tests) in
            rw (read, equal, not_below) (map_range-none (put_in least) (start - 0) start given (omega arith))
      ]

  pub merge-standing : grown_left first least given ++ drop start (put_range start to least infos) ≡ merge start end all
  merge-standing =
      let above : nat_lt (start + 1) end ≡ true = grind (arith, nat_tests) in
      let same_least : least_cluster (slice_range all start end) ≡ least = ap (λ z. least_cluster (take (end - start) z)) same_after
      ∙ sym least_is in
      let right : growth_right all (end - 1) least
      ≡ growth_right infos (end - 1) least = growth_right-from all infos start same_after (end - 1) least (omega arith) in
      sym (merge_long start end all above
      ∙ ap (λ l. put_range (start - growth_left all start l) (end + growth_right all (end - 1) l) l all) same_least
      ∙ ap (λ n. put_range (start - growth_left all start least) n least all) (ap (λ n. end + n) right ∙ sym to_is)
      ∙ map_range-over (put_in least) (start - growth_left all start least) start to given infos (omega arith) (omega arith) size (omega arith)
      ∙ ap (λ z. z ++ drop start (put_range start to least infos)) put_left)
