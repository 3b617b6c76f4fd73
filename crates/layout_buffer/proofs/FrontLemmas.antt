-- A span is marked or merged in the front of a list, which is cut after all that changes.
use Rattle.std.proofs.Common.{◌≡◌, ℕ, suc, zero, ◌+◌, ◌-◌, ◌≤◌, ◌<◌, ◌==◌, Bool, true, false, cond, nat_lt, List, [], ◌∷◌, ◌++◌, map, take, drop, length, get_or, slice_index, slice_range, refl, sym, ap, ap₂, ◌∙◌, arith}
use Rattle.std.specs.List.{prefix_len}
use Rattle.std.proofs.lemmas.Bool.Decides.{nat_tests}
use Rattle.std.proofs.lemmas.List.{take-take, drop-take, drop-drop, take-append-drop, append_assoc, take-map, get_or-take, length-take-le, length-drop, take_all, take_at}
use Rattle.std.proofs.lemmas.Slice.{drop-append-drop}
use Rattle.shape_items.specs.Items.{Item, has_cluster, put_in}
use Rattle.shape_items.specs.Clusters.{clusters, least_cluster, growth_left, growth_right, map_range, mark_break, merge}
use Rattle.shape_items.proofs.Merging.ClusterLemmas.{merge_short, merge_long}
use Rattle.layout_buffer.specs.Gap.{around}
use Rattle.layout_buffer.specs.GapMerging.{growth_after}
use Rattle.layout_buffer.proofs.GapLemmas.{front_of, back_of, length_around}

-- ---- any list

range_front : {T : Type 0} (a b m : ℕ) (xs : List T) → a ≤ b → b ≤ m → slice_range (take m xs) a b ≡ slice_range xs a b
range_front a b m xs le within =
    let sum : a + (m - a) ≡ m = omega arith in
    ap (λ k. take (b - a) (drop a (take k xs))) (sym sum) ∙ ap (take (b - a)) (drop-take a (m - a) xs)
    ∙ take-take (b - a) (m - a) (drop a xs) (omega arith)

rest_front : {T : Type 0} (b m : ℕ) (xs : List T) → b ≤ m → drop b (take m xs) ++ drop m xs ≡ drop b xs
rest_front b m xs le =
    let sum : b + (m - b) ≡ m = omega arith in
    let first : drop b (take m xs) ≡ take (m - b) (drop b xs) = ap (λ k. drop b (take k xs)) (sym sum) ∙ drop-take b (m - b) xs in
    let rest : drop m xs ≡ drop (m - b) (drop b xs) = ap (λ k. drop k xs) (sym sum) ∙ sym (drop-drop (m - b) b xs) in
    ap₂ (λ l r. l ++ r) first rest ∙ take-append-drop (m - b) (drop b xs)

prefix_front : {T : Type 0} (p : T → Bool) (xs : List T) (k : ℕ) → prefix_len p xs ≤ k → prefix_len p (take k xs) ≡ prefix_len p xs
prefix_front p [] zero le = refl
prefix_front p [] (suc k) le = refl
prefix_front p (x ∷ xs) zero le = let none : prefix_len p (x ∷ xs) ≡ 0 = omega arith in sym none
prefix_front p (x ∷ xs) (suc k) le =
    elim (p x) as (λ t. cond t (1 + prefix_len p xs) 0 ≤ suc k → cond t (1 + prefix_len p (take k xs)) 0 ≡ cond t (1 + prefix_len p xs) 0) [
      | true ↦ λ fits. ap (λ n. 1 + n) (prefix_front p xs k (omega arith))
      | false ↦ λ fits. refl
    ] le

-- ---- items

map_range_front : (f : Item → Item) (a b m : ℕ) (xs : List Item) → a ≤ b → b ≤ m
    → map_range f a b (take m xs) ++ drop m xs ≡ map_range f a b xs
map_range_front f a b m xs le within =
    let middle = map f (slice_range xs a b) in
    rw (take-take a m xs (omega arith), range_front a b m xs le within)
    (append_assoc (take a xs) (middle ++ drop b (take m xs)) (drop m xs)
    ∙ ap (λ l. take a xs ++ l) (append_assoc middle (drop b (take m xs)) (drop m xs)
    ∙ ap (λ l. middle ++ l) (rest_front b m xs within)))

cluster_front : (i m : ℕ) (xs : List Item) → i < m → slice_index (clusters (take m xs)) i ≡ slice_index (clusters xs) i
cluster_front i m xs lt = ap (λ l. get_or l i 0) (sym (take-map (λ item. item.cluster) m xs)) ∙ get_or-take m (clusters xs) i 0 lt

left_front : (start m least : ℕ) (xs : List Item) → start < m → growth_left (take m xs) start least ≡ growth_left xs start least
left_front start m least xs lt = rw (cluster_front start m xs lt, take-take start m xs (omega arith)) refl

-- the growth over what stands after a span, by a list that is cut at its end
pub growth_cut : (start end : ℕ) (xs : List Item) → start < end → end ≤ length xs
    → growth_after start (take end xs) (drop end xs) ≡ growth_right xs (end - 1) (least_cluster (slice_range xs start end))
growth_cut start end xs lt fits =
    let count : length (take end xs) ≡ end = length-take-le end xs fits in
    let next : end - 1 + 1 ≡ end = omega arith in
    let left = length-drop start (take end xs) in
    let span : drop start (take end xs) ≡ slice_range xs start end =
    sym (take_all (end - start) (drop start (take end xs)) (omega arith)) ∙ range_front start end end xs (omega arith) (omega arith) in
    rw (count, next, span, cluster_front (end - 1) end xs (omega arith)) refl

right_front : (last m least : ℕ) (xs : List Item) → last < m → last + 1 + growth_right xs last least ≤ m
    → growth_right (take m xs) last least ≡ growth_right xs last least
right_front last m least xs lt fits =
    let sum : last + 1 + (m - (last + 1)) ≡ m = omega arith in
    let cut : drop (last + 1) (take m xs) ≡ take (m - (last + 1)) (drop (last + 1) xs) =
    ap (λ k. drop (last + 1) (take k xs)) (sym sum) ∙ drop-take (last + 1) (m - (last + 1)) xs in
    let cluster = slice_index (clusters xs) last in
    rw (cluster_front last m xs lt, cut)
    (elim (cluster == least) as (λ t. last + 1 + cond t 0 (prefix_len (has_cluster cluster) (drop (last + 1) xs)) ≤ m
    → cond t 0 (prefix_len (has_cluster cluster) (take (m - (last + 1)) (drop (last + 1) xs)))
    ≡ cond t 0 (prefix_len (has_cluster cluster) (drop (last + 1) xs))) [
      | true ↦ λ within. refl
      | false ↦ λ within. prefix_front (has_cluster cluster) (drop (last + 1) xs) (m - (last + 1)) (omega arith)
    ] fits)

pub merge_few : (start end : ℕ) (xs : List Item) → end - start < 2 → merge start end xs ≡ xs
merge_few start end xs few = merge_short start end xs (grind (arith, nat_tests))

-- a span is merged in a front that holds all that the merge takes in
merge_front : (start end m : ℕ) (xs : List Item) → start + 1 < end
    → end + growth_right xs (end - 1) (least_cluster (slice_range xs start end)) ≤ m → m ≤ length xs
    → merge start end (take m xs) ++ drop m xs ≡ merge start end xs
merge_front start end m xs lt holds fits =
    let long : nat_lt (start + 1) end ≡ true = grind (arith, nat_tests) in
    let next : end - 1 + 1 ≡ end = omega arith in
    let least = least_cluster (slice_range xs start end) in
    let right : growth_right (take m xs) (end - 1) least ≡ growth_right xs (end - 1) least =
    right_front (end - 1) m least xs (omega arith) (omega arith) in
    rw (merge_long start end (take m xs) long, merge_long start end xs long, range_front start end m xs (omega arith) (omega arith), left_front start m least xs (omega arith), right)
    (map_range_front (put_in least) (start - growth_left xs start least) (end + growth_right xs (end - 1) least) m xs (omega arith) holds)

-- ---- a front in storage is written

written_front : (at room : ℕ) (stored ys : List Item) → at + room ≤ length stored → length ys ≡ length (take at stored)
    → around at room (ys ++ drop at stored) ≡ ys ++ drop at (around at room stored)
written_front at room stored ys fits same =
    let count : length ys ≡ at = same ∙ length-take-le at stored (omega arith) in
    ap₂ (λ l r. l ++ r) (take_at ys (drop at stored) at count)
    (drop-append-drop at stored ys (at + room) (omega arith) count ∙ sym (back_of at room stored fits))

pub marked_front : (f : Item → Item) (a b at room : ℕ) (stored ys : List Item) → a ≤ b → b ≤ at → at + room ≤ length stored
    → length ys ≡ length (take at stored) → ys ≡ map_range f a b (take at stored)
    → around at room (ys ++ drop at stored) ≡ map_range f a b (around at room stored)
marked_front f a b at room stored ys le within fits count e =
    written_front at room stored ys fits count
    ∙ ap (λ l. l ++ drop at (around at room stored)) (e ∙ ap (map_range f a b) (sym (front_of at room stored fits)))
    ∙ map_range_front f a b at (around at room stored) le within

-- those marked are told by the least cluster of the span
pub break_front : (a b at room : ℕ) (stored ys : List Item) → a ≤ b → b ≤ at → at + room ≤ length stored
    → length ys ≡ length (take at stored) → ys ≡ map_range (mark_break (least_cluster (slice_range (take at stored) a b))) a b (take at stored)
    → around at room (ys ++ drop at stored)
    ≡ map_range (mark_break (least_cluster (slice_range (around at room stored) a b))) a b (around at room stored)
break_front a b at room stored ys le within fits count e =
    let span : slice_range (take at stored) a b ≡ slice_range (around at room stored) a b =
    ap (λ l. slice_range l a b) (sym (front_of at room stored fits)) ∙ range_front a b at (around at room stored) le within in
    marked_front (mark_break (least_cluster (slice_range (around at room stored) a b))) a b at room stored ys le within fits count
    (e ∙ ap (λ l. map_range (mark_break (least_cluster l)) a b (take at stored)) span)

pub merged_front : (start end at room : ℕ) (stored ys : List Item) → start + 1 < end → at + room ≤ length stored
    → end + growth_right (around at room stored) (end - 1) (least_cluster (slice_range (around at room stored) start end)) ≤ at
    → length ys ≡ length (take at stored) → ys ≡ merge start end (take at stored)
    → around at room (ys ++ drop at stored) ≡ merge start end (around at room stored)
merged_front start end at room stored ys lt fits holds count e =
    let long = length_around at room stored fits in
    written_front at room stored ys fits count
    ∙ ap (λ l. l ++ drop at (around at room stored)) (e ∙ ap (merge start end) (sym (front_of at room stored fits)))
    ∙ merge_front start end at (around at room stored) lt holds (omega arith)
