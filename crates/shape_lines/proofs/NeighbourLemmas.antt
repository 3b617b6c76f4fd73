-- What holds of each glyph and the next holds of the whole list: the order of clusters, and one set of flags for each.
use Rattle.std.proofs.Common.{◌≡◌, ◌↔◌, ℕ, zero, suc, ◌+◌, ◌-◌, ◌<◌, ◌≤◌, ◌==◌, ◌||◌, not, Bool, true, false, List, [], ◌∷◌, length, get_or, refl, sym, subst, ◌∙◌, arith}
use Rattle.std.proofs.lemmas.Bool.{false≢true}
use Rattle.std.proofs.lemmas.Bool.Decides.{nat_tests}
use Rattle.std.proofs.lemmas.List.{get_or-map, length-map}
use Rattle.std.proofs.lemmas.List.Sums.{AllPass-from_list_all, list_all-from_AllPass}
use Rattle.std.specs.List.{AllAdjacentBelow, IsAllAdjacentAnswer, list_all}
use Rattle.std.specs.List.Sorted.{IsNonDecreasing}
use Rattle.std.specs.Prelude.{nat_le, nat_lt, All}
use Rattle.shape_items.specs.ClusterOrder.{IsNonIncreasing}
use Rattle.shape_items.specs.Clusters.{clusters}
use Rattle.shape_items.specs.Flags.{flags_of, HasOneSetOfFlags}
use Rattle.shape_items.specs.Items.{Item, new_item}

-- a test passes each glyph and the next
abbrev pub EachPair : (Item → Item → Bool) → List Item → Type 0
EachPair test items = AllAdjacentBelow (λ x y. test x y ≡ true) items (length items)

-- what `is_sorted_by` returns
pub answers : (test : Item → Item → Bool) (items : List Item) (r : Bool) → IsAllAdjacentAnswer (λ x y b. b ≡ test x y) items r
    → (r ≡ true) ↔ EachPair test items
answers test items true all = (λ e k d lt. sym (all k d lt), λ _. refl)
answers test items false (k, lt, refused) =
    (λ e. absurd (false≢true e), λ all. absurd (false≢true (refused (new_item 0 0) ∙ all k (new_item 0 0) lt)))

-- ---- the order of clusters

length-clusters : (items : List Item) → length (clusters items) ≡ length items
length-clusters items = length-map items (λ (item : Item). item.cluster)

cluster-at : (items : List Item) (k : ℕ) (x : Item) (d : ℕ) → k < length items → get_or (clusters items) k d ≡ (get_or items k x).cluster
cluster-at items k x d lt = get_or-map (λ (item : Item). item.cluster) items k x d lt

-- an order between neighbours is one between any two
module _ (R : ℕ → ℕ → Type 0) (same : (a : ℕ) → R a a) (join : (a b c : ℕ) → R a b → R b c → R a c) where
  far : (xs : List ℕ) (d : ℕ) → ((k : ℕ) → k + 1 < length xs → R (get_or xs k d) (get_or xs (k + 1) d)) → (i m : ℕ)
      → i + m < length xs → R (get_or xs i d) (get_or xs (i + m) d)
  far xs d near i zero lt = let e : i + zero ≡ i = omega arith in rw e (same (get_or xs i d))
  far xs d near i (suc m) lt =
      let e : i + suc m ≡ (i + m) + 1 = omega arith in
      rw e (join _ _ _ (far xs d near i m (omega arith)) (near (i + m) (omega arith)))

  pub any_two : (xs : List ℕ) (d : ℕ) → ((k : ℕ) → k + 1 < length xs → R (get_or xs k d) (get_or xs (k + 1) d)) → (i j : ℕ) → i ≤ j
      → j < length xs → R (get_or xs i d) (get_or xs j d)
  any_two xs d near i j le lt =
      let e : i + (j - i) ≡ j = omega arith in
      subst (λ n. R (get_or xs i d) (get_or xs n d)) e (far xs d near i (j - i) (omega arith))

abbrev pub rises_to : Item → Item → Bool
rises_to x y = nat_le x.cluster y.cluster

abbrev pub falls_to : Item → Item → Bool
falls_to x y = nat_le y.cluster x.cluster

le_test : (a b : ℕ) → nat_le a b ≡ true → a ≤ b
le_test a b e = grind (arith, nat_tests, e)

test_le : (a b : ℕ) → a ≤ b → nat_le a b ≡ true
test_le a b le = grind (arith, nat_tests, le)

pub rises-pairs : (items : List Item) → EachPair rises_to items ↔ IsNonDecreasing (clusters items)
rises-pairs items = (
  λ pairs i j d le lt. any_two (λ a b. a ≤ b) (λ a. omega arith) (λ a b c ab bc. omega arith) (clusters items) d (near pairs d) i j le lt,
  λ rise k x lt. test_le _ _ (pair rise k x lt),
)
  where
    near : EachPair rises_to items → (d k : ℕ) → k + 1 < length (clusters items)
        → get_or (clusters items) k d ≤ get_or (clusters items) (k + 1) d
    near pairs d k lt =
        let x = new_item 0 0 in
        let here : k + 1 < length items = omega (arith, length-clusters items, lt) in
        let up = le_test _ _ (pairs k x here) in
        omega (arith, up, cluster-at items k x d (omega arith), cluster-at items (k + 1) x d here)

    pair : IsNonDecreasing (clusters items) → (k : ℕ) (x : Item) → k + 1 < length items
        → (get_or items k x).cluster ≤ (get_or items (k + 1) x).cluster
    pair rise k x lt =
        let here : k + 1 < length (clusters items) = omega (arith, length-clusters items, lt) in
        let up = rise k (k + 1) 0 (omega arith) here in
        omega (arith, up, cluster-at items k x 0 (omega arith), cluster-at items (k + 1) x 0 lt)

pub falls-pairs : (items : List Item) → EachPair falls_to items ↔ IsNonIncreasing (clusters items)
falls-pairs items = (
  λ pairs i j d le lt. any_two (λ a b. b ≤ a) (λ a. omega arith) (λ a b c ab bc. omega arith) (clusters items) d (near pairs d) i j le lt,
  λ fall k x lt. test_le _ _ (pair fall k x lt),
)
  where
    near : EachPair falls_to items → (d k : ℕ) → k + 1 < length (clusters items)
        → get_or (clusters items) (k + 1) d ≤ get_or (clusters items) k d
    near pairs d k lt =
        let x = new_item 0 0 in
        let here : k + 1 < length items = omega (arith, length-clusters items, lt) in
        let down = le_test _ _ (pairs k x here) in
        omega (arith, down, cluster-at items k x d (omega arith), cluster-at items (k + 1) x d here)

    pair : IsNonIncreasing (clusters items) → (k : ℕ) (x : Item) → k + 1 < length items
        → (get_or items (k + 1) x).cluster ≤ (get_or items k x).cluster
    pair fall k x lt =
        let here : k + 1 < length (clusters items) = omega (arith, length-clusters items, lt) in
        let down = fall k (k + 1) 0 (omega arith) here in
        omega (arith, down, cluster-at items k x 0 (omega arith), cluster-at items (k + 1) x 0 lt)

-- ---- one set of flags

abbrev pub shares_flags : Item → Item → Bool
shares_flags x y = not (x.cluster == y.cluster) || (flags_of x == flags_of y)

pub shares_to : (x y : Item) → shares_flags x y ≡ true → x.cluster ≡ y.cluster → flags_of x ≡ flags_of y
shares_to x y e same = grind (arith, nat_tests, e, same)

shares_from : (x y : Item) → (x.cluster ≡ y.cluster → flags_of x ≡ flags_of y) → shares_flags x y ≡ true
shares_from x y alike = by_cluster (x.cluster == y.cluster) refl
  where
    by_cluster : (t : Bool) → (x.cluster == y.cluster) ≡ t → (not t || (flags_of x == flags_of y)) ≡ true
    by_cluster false e = refl
    by_cluster true e =
        let same : x.cluster ≡ y.cluster = grind (arith, nat_tests, e) in
        let flags = alike same in
        grind (arith, nat_tests, flags)

pub flags-pairs : (items : List Item) → EachPair shares_flags items ↔ HasOneSetOfFlags items
flags-pairs [] = (λ pairs. tt, λ one k d lt. absurd (omega arith))
flags-pairs (x ∷ []) = (λ pairs. tt, λ one k d lt. absurd (omega arith))
flags-pairs (x ∷ y ∷ items) = (
  λ pairs. (shares_to x y (pairs 0 x (omega arith)), (flags-pairs (y ∷ items)).0 (rest pairs)),
  λ one. back one.0 ((flags-pairs (y ∷ items)).1 one.1),
)
  where
    rest : EachPair shares_flags (x ∷ y ∷ items) → EachPair shares_flags (y ∷ items)
    rest pairs k d lt =
        let e : suc k + 1 ≡ suc (k + 1) = omega arith in
        subst (λ n. shares_flags (get_or (y ∷ items) k d) (get_or (x ∷ y ∷ items) n d) ≡ true) e (pairs (suc k) d (omega arith))

    back : (x.cluster ≡ y.cluster → flags_of x ≡ flags_of y) → EachPair shares_flags (y ∷ items) → EachPair shares_flags (x ∷ y ∷ items)
    back first later zero d lt = shares_from x y first
    back first later (suc k) d lt =
        let e : suc k + 1 ≡ suc (k + 1) = omega arith in
        rw e (later k d (omega arith))

-- ---- below the end of the text

pub below_end : (items : List Item) (end : ℕ)
    → (list_all (λ (item : Item). nat_lt item.cluster end) items ≡ true) ↔ All (λ cluster. cluster < end) (clusters items)
below_end items end = (
  λ all k d lt.
      let here : k < length items = omega (arith, length-clusters items, lt) in
      let test = AllPass-from_list_all (λ (item : Item). nat_lt item.cluster end) items all k (new_item 0 0) here in
      rw (cluster-at items k (new_item 0 0) d here) (lt_test _ _ test),
  λ below. list_all-from_AllPass (λ (item : Item). nat_lt item.cluster end) items (λ k x lt.
      let low = below k 0 (omega (arith, length-clusters items, lt)) in
      test_lt _ _ (subst (λ n. n < end) (cluster-at items k x 0 lt) low)),
)
  where
    lt_test : (a b : ℕ) → nat_lt a b ≡ true → a < b
    lt_test a b e = grind (arith, nat_tests, e)

    test_lt : (a b : ℕ) → a < b → nat_lt a b ≡ true
    test_lt a b lt = grind (arith, nat_tests, lt)
