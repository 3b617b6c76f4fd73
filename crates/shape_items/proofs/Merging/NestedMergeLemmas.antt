-- A span that begins among items of one cluster: merging it makes the same of the list wherever among them it begins.
use Rattle.std.proofs.Common.{◌≡◌, ℕ, zero, suc, ◌+◌, ◌-◌, ◌<◌, ◌≤◌, true, false, ◌==◌, nat_lt, min, List, [], ◌∷◌, ◌++◌, map, length, get_or, take}
use Rattle.std.proofs.Common.{drop, refl, sym, ap, ap₂, ◌∙◌, arith, slice_range, inl, inr, append_assoc, drop-cons, add-one, eq-eqb, eqb-true}
use Rattle.std.proofs.Math.Seq.{take-suc}
use Rattle.std.proofs.lemmas.Bool.{cases_Bool}
use Rattle.std.proofs.lemmas.Bool.Decides.{nat_tests}
use Rattle.std.proofs.lemmas.List.{get_or-map}
use Rattle.std.proofs.lemmas.List.Sums.{suffix_len-take_yes}
use Rattle.std.specs.List.{suffix_len, fold}
use Rattle.shape_items.specs.Items.{Item, new_item, has_cluster, put_in}
use Rattle.shape_items.specs.Clusters.{put_range, merge, least_cluster, growth_left, growth_right}
use Rattle.shape_items.proofs.Merging.ClusterLemmas.{merge_long}
use Rattle.shape_items.proofs.Merging.JoinLemmas.{cluster_at, Joined}
use Rattle.shape_items.proofs.Merging.MergeOrder.{growth_right-within}

min_same : (a b : ℕ) → a ≡ b → min a b ≡ b
min_same a b e = grind (arith, nat_tests)

-- the first of two items in one cluster adds nothing to the least
least-after : (x y : Item) (zs : List Item) → x.cluster ≡ y.cluster → least_cluster (x ∷ y ∷ zs) ≡ least_cluster (y ∷ zs)
least-after x y zs same = ap (λ c. fold (λ least item. min least item.cluster) c zs) (min_same x.cluster y.cluster same)

pub slice-first : (xs : List Item) (k end : ℕ) (d : Item) → k < end → end ≤ length xs
    → slice_range xs k end ≡ get_or xs k d ∷ slice_range xs (k + 1) end
slice-first xs k end d lt within =
    let more : end - k ≡ suc (end - (k + 1)) = omega arith in
    let split : drop k xs ≡ get_or xs k d ∷ drop (k + 1) xs = rw add-one (drop-cons xs k d (omega arith)) in
    ap₂ take more split

put_in-same : (c : ℕ) (x : Item) → x.cluster ≡ c → put_in c x ≡ x
put_in-same c x is = grind (arith, nat_tests)

-- a put over items the first of which has that cluster
put_range-after : (k b c : ℕ) (xs : List Item) → k < b → b ≤ length xs → cluster_at xs k ≡ c
    → put_range k b c xs ≡ put_range (k + 1) b c xs
put_range-after k b c xs lt within is =
    let d = new_item 0 0 in
    let x = get_or xs k d in
    let size : k < length xs = omega arith in
    let same : x.cluster ≡ c = sym (get_or-map (λ (item : Item). item.cluster) xs k d 0 size) ∙ is in
    let later = map (put_in c) (slice_range xs (k + 1) b) ++ drop b xs in
    let front : take (k + 1) xs ≡ take k xs ++ x ∷ [] = rw add-one (take-suc xs k d size) in
    ap (λ l. take k xs ++ (map (put_in c) l ++ drop b xs)) (slice-first xs k b d lt within)
    ∙ ap (λ y. take k xs ++ (y ∷ later)) (put_in-same c x same)
    ∙ sym (append_assoc (take k xs) (x ∷ []) later)
    ∙ ap (λ l. l ++ later) (sym front)

-- if the first of the items isn't in the least cluster, the growth from the next one is one more
growth_left-after : (xs : List Item) (k least : ℕ) → k + 1 < length xs → Joined xs k → (cluster_at xs k == least) ≡ false
    → growth_left xs (k + 1) least ≡ 1 + growth_left xs k least
growth_left-after xs k least lt joined not_least =
    let d = new_item 0 0 in
    let first = cluster_at xs k in
    let back : k + 1 - 1 ≡ k = omega arith in
    let here : (get_or xs k d).cluster ≡ first = sym (get_or-map (λ (item : Item). item.cluster) xs k d 0 (omega arith)) in
    let yes : has_cluster first (get_or xs (k + 1 - 1) d) ≡ true = rw back (eq-eqb _ _ here) in
    let more : suffix_len (has_cluster first) (take (k + 1) xs)
    ≡ 1 + suffix_len (has_cluster first) (take (k + 1 - 1) xs) = suffix_len-take_yes (has_cluster first) xs (k + 1) d (omega arith)
    (omega arith) yes in
    let at_next : growth_left xs (k + 1) least ≡ suffix_len (has_cluster first) (take (k + 1) xs) = rw (sym joined, not_least) refl in
    let at_first : growth_left xs k least ≡ suffix_len (has_cluster first) (take k xs) = rw not_least refl in
    at_next ∙ more ∙ ap (λ n. 1 + n) (ap (λ n. suffix_len (has_cluster first) (take n xs)) back ∙ sym at_first)

module _ (xs : List Item) (k end : ℕ) (room : k + 2 < end) (within : end ≤ length xs) (joined : Joined xs k) where
  least_same : least_cluster (slice_range xs k end) ≡ least_cluster (slice_range xs (k + 1) end)
  least_same =
      let d = new_item 0 0 in
      let two : k + 1 + 1 ≡ k + 2 = omega arith in
      let next : slice_range xs (k + 1) end
      ≡ get_or xs (k + 1) d ∷ slice_range xs (k + 1 + 1) end = slice-first xs (k + 1) end d (omega arith) within in
      let same : (get_or xs k d).cluster ≡ (get_or xs (k + 1) d).cluster =
      sym (get_or-map (λ (item : Item). item.cluster) xs k d 0 (omega arith)) ∙ joined
      ∙ get_or-map (λ (item : Item). item.cluster) xs (k + 1) d 0 (omega arith) in
      ap least_cluster (slice-first xs k end d (omega arith) within ∙ ap (λ l. get_or xs k d ∷ l) next)
      ∙ least-after (get_or xs k d) (get_or xs (k + 1) d) (slice_range xs (k + 1 + 1) end) same
      ∙ ap least_cluster (sym next)

  put-after : (least : ℕ)
      → put_range (k - growth_left xs k least) (end + growth_right xs (end - 1) least) least xs
      ≡ put_range (k + 1 - growth_left xs (k + 1) least) (end + growth_right xs (end - 1) least) least xs
  put-after least =
      let b = end + growth_right xs (end - 1) least in
      let right : end - 1 + growth_right xs (end - 1) least < length xs = growth_right-within xs (end - 1) least (omega arith) in
      elim (cases_Bool (cluster_at xs k == least)) [
        | inl is_least ↦
            let none : k - growth_left xs k least ≡ k = rw is_least (omega arith) in
            let none_next : k + 1 - growth_left xs (k + 1) least ≡ k + 1 = rw (sym joined, is_least) (omega arith) in
            rw (none, none_next) (put_range-after k b least xs (omega arith) (omega arith) (eqb-true _ _ is_least))
        | inr not_least ↦
            let more : growth_left xs (k + 1) least
            ≡ 1 + growth_left xs k least = growth_left-after xs k least (omega arith) joined not_least in
            let e : k - growth_left xs k least ≡ k + 1 - growth_left xs (k + 1) least = omega arith in
            ap (λ a. put_range a b least xs) e
      ]

  -- a span that begins one item later, among those of one cluster, makes the same of the list
  merge-after : merge k end xs ≡ merge (k + 1) end xs
  merge-after =
      let long : nat_lt (k + 1) end ≡ true = grind (arith, nat_tests) in
      let long_next : nat_lt (k + 1 + 1) end ≡ true = grind (arith, nat_tests) in
      let least = least_cluster (slice_range xs k end) in
      merge_long k end xs long
      ∙ put-after least
      ∙ ap (λ l. put_range (k + 1 - growth_left xs (k + 1) l) (end + growth_right xs (end - 1) l) l xs) least_same
      ∙ sym (merge_long (k + 1) end xs long_next)

-- several items later
pub merge-from_later : (start count end : ℕ) (xs : List Item) → start + count + 1 < end → end ≤ length xs
    → ((k : ℕ) → start ≤ k → k < start + count → Joined xs k)
    → merge start end xs ≡ merge (start + count) end xs
merge-from_later start zero end xs room within joined = ap (λ s. merge s end xs) (let e : start ≡ start + 0 = omega arith in e)
merge-from_later start (suc count) end xs room within joined =
    let e : start + count + 1 ≡ start + suc count = omega arith in
    merge-from_later start count end xs (omega arith) within (λ k ge lt. joined k ge (omega arith))
    ∙ merge-after xs (start + count) end (omega arith) within (joined (start + count) (omega arith) (omega arith))
    ∙ ap (λ s. merge s end xs) e
