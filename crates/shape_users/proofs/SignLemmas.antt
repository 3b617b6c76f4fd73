-- A sign that steps before its letter preserves clusters and flags: the two are one cluster by then.
use Rattle.std.proofs.Common.{◌≡◌, ℕ, zero, suc, ◌+◌, ◌<◌, ◌≤◌, Bool, true, false, List, length, nat_lt, refl, ap, sym, ◌∙◌, subst, arith, if◌then◌else◌}
use Rattle.std.proofs.lemmas.Bool.Decides.{nat_tests}
use Rattle.std.proofs.lemmas.List.Sorted.{IsPermutation-swap, list_any-IsPermutation}
use Rattle.std.proofs.Math.ListN.{get_or-eq_default}
use Rattle.std.specs.List.{swap}
use Rattle.shape_items.specs.Buffer.{Buffer}
use Rattle.shape_items.specs.BufferClusters.{merge_clusters}
use Rattle.shape_items.specs.Clusters.{merge}
use Rattle.shape_items.specs.ClusterOrder.{IsMonotoneLevel}
use Rattle.shape_items.specs.Items.{Item, new_item}
use Rattle.shape_items.specs.PreservesFlags.{PreservesFlags, has_flag}
use Rattle.shape_items.proofs.Merging.ClusterLemmas.{merge_clusters-monotone}
use Rattle.shape_items.proofs.Merging.JoinLemmas.{Joined, merge_joins}
use Rattle.shape_buffer.specs.Preservation.{PreservesOrder, IsClusterPreserving, IsFlagPreserving}
use Rattle.shape_plan.specs.Reorder.{exchanged}
use Rattle.shape_plan.proofs.AuthorLemmas.{PreservesClusters-equal, PreservesOrder-same, PreservesOrder-then, PreservesFlags-same, PreservesFlags-then, PreservesFlags-items, all-merge_clusters}
use Rattle.script_shapers.proofs.HookLemmas.{clusters_swapped}
use Rattle.shape_users.specs.Ligatures.{nth_item}
use Rattle.shape_users.specs.Signs.{is_typed_at, stepped_at, stepped_to, signs_stepped}

-- ---- neighbours that share a cluster are exchanged

exchanged-order : (i : ℕ) (b : Buffer) → i + 1 < length b.items → Joined b.items i → PreservesOrder b (exchanged i (i + 1) b)
exchanged-order i b within joined = record {
  clusters = PreservesClusters-equal _ _
      (clusters_swapped b.items i (i + 1) (omega (arith, within)) within (λ e. absurd (omega (arith, e))) joined);
  direction = refl;
  flags = refl;
  level = refl;
}

exchanged-flags : (i : ℕ) (b : Buffer) → i + 1 < length b.items → PreservesFlags b (exchanged i (i + 1) b)
exchanged-flags i b within =
    let ys = swap b.items i (i + 1) in
    let same = IsPermutation-swap b.items ys i (i + 1) (omega (arith, within)) within refl in
    PreservesFlags-items b ys (λ flag defined some. list_any-IsPermutation (has_flag flag) b.items ys same ∙ some)

-- two that were merged do share one
merged-joined : (i : ℕ) (b : Buffer) → IsMonotoneLevel b.cluster_level → i + 2 ≤ length b.items
    → Joined (merge_clusters i (i + 2) b).items i
merged-joined i b monotone within =
    let are : (merge_clusters i (i + 2) b).items
    ≡ merge i (i + 2) b.items = ap (λ (m : Buffer). m.items) (merge_clusters-monotone i (i + 2) b monotone) in
    subst (λ xs. Joined xs i) (sym are) (merge_joins i (i + 2) b.items i (omega arith) (omega arith) within)

-- ---- one sign

-- a letter and its sign are in the list
pub typed-within : (xs : List Item) (i : ℕ) → is_typed_at xs i ≡ true → i + 2 ≤ length xs
typed-within xs i typed =
    let sign : (nth_item xs (i + 1)).codepoint ≡ 0x1A19 = grind (arith, nat_tests, typed) in
    let P : Bool → Type 0 = λ t. nat_lt (i + 1) (length xs) ≡ t → i + 2 ≤ length xs in
    let cases : P (nat_lt (i + 1) (length xs)) = elim (nat_lt (i + 1) (length xs)) as P [
      | true ↦ λ e. grind (arith, nat_tests, e)
      | false ↦ λ e.
          let past : length xs ≤ i + 1 = grind (arith, nat_tests, e) in
          let none : (nth_item xs (i + 1)).codepoint ≡ 0 = ap (λ (x : Item). x.codepoint) (get_or-eq_default xs (new_item 0 0) past) in
          absurd (omega (arith, sign, none))
    ] in
    cases refl

stepped_at-order : (i : ℕ) → IsClusterPreserving (stepped_at i)
stepped_at-order i b monotone =
    let merged = merge_clusters i (i + 2) b in
    let P : Bool → Type 0 = λ t. is_typed_at b.items i ≡ t → PreservesOrder b (if t then exchanged i (i + 1) merged else b) in
    let cases : P (is_typed_at b.items i) = elim (is_typed_at b.items i) as P [
      | true ↦ λ e.
          let within = typed-within b.items i e in
          let all = all-merge_clusters i (i + 2) b within in
          PreservesOrder-then b merged (exchanged i (i + 1) merged) all.order
          (exchanged-order i merged (omega (arith, within, all.count)) (merged-joined i b monotone within))
      | false ↦ λ e. PreservesOrder-same b
    ] in
    cases refl

stepped_at-flags : (i : ℕ) → IsFlagPreserving (stepped_at i)
stepped_at-flags i b =
    let merged = merge_clusters i (i + 2) b in
    let P : Bool → Type 0 = λ t. is_typed_at b.items i ≡ t → PreservesFlags b (if t then exchanged i (i + 1) merged else b) in
    let cases : P (is_typed_at b.items i) = elim (is_typed_at b.items i) as P [
      | true ↦ λ e.
          let within = typed-within b.items i e in
          let all = all-merge_clusters i (i + 2) b within in
          PreservesFlags-then b merged (exchanged i (i + 1) merged) all.flags (exchanged-flags i merged (omega (arith, within, all.count)))
      | false ↦ λ e. PreservesFlags-same b
    ] in
    cases refl

-- ---- all of them

stepped_to-order : (n : ℕ) → IsClusterPreserving (stepped_to n)
stepped_to-order zero b monotone = PreservesOrder-same b
stepped_to-order (suc n) b monotone =
    let before = stepped_to-order n b monotone in
    PreservesOrder-then b (stepped_to n b) (stepped_at n (stepped_to n b)) before
    (stepped_at-order n (stepped_to n b) (subst IsMonotoneLevel (sym before.level) monotone))

stepped_to-flags : (n : ℕ) → IsFlagPreserving (stepped_to n)
stepped_to-flags zero b = PreservesFlags-same b
stepped_to-flags (suc n) b =
    PreservesFlags-then b (stepped_to n b) (stepped_at n (stepped_to n b)) (stepped_to-flags n b) (stepped_at-flags n (stepped_to n b))

pub signs_stepped-order : IsClusterPreserving signs_stepped
signs_stepped-order b monotone = stepped_to-order (length b.items) b monotone

pub signs_stepped-flags : IsFlagPreserving signs_stepped
signs_stepped-flags b = stepped_to-flags (length b.items) b
