-- What the author of a hook that reorders marks proves of it, taken to whole runs.
use Rattle.std.proofs.Common.{◌≡◌, ◌≢◌, ℕ, ◌<◌, List, map, length, get_or, set, Option, Some, None, refl, sym, ap, ◌∙◌, subst}
use Rattle.std.proofs.lemmas.List.{get_or-map, get_or-set_other}
use Rattle.std.proofs.lemmas.List.Edits.{swap_is}
use Rattle.std.proofs.Math.Seq.{map-set_same}
use Rattle.std.specs.List.{swap}
use Rattle.std.specs.Option.{option_map}
use Rattle.shape_items.specs.Buffer.{Buffer}
use Rattle.shape_items.specs.Clusters.{clusters}
use Rattle.shape_items.specs.ClusterOrder.{PreservesClusters, IsMonotoneLevel}
use Rattle.shape_items.specs.Items.{Item, new_item}
use Rattle.shape_items.proofs.Merging.JoinLemmas.{cluster_at}
use Rattle.shape_plan.specs.Reorder.{IsRunInOrder}
use Rattle.shape_plan.specs.Shaper.{HookMeaning}

-- items that share a cluster are exchanged, and the list of clusters stays
pub clusters_swapped : (xs : List Item) (i j : ℕ) → i < length xs → j < length xs → j ≢ i → cluster_at xs i ≡ cluster_at xs j
    → clusters (swap xs i j) ≡ clusters xs
clusters_swapped xs i j first second apart joined =
    let d = new_item 0 0 in
    let key : Item → ℕ = λ x. x.cluster in
    let a = get_or xs i d in
    let b = get_or xs j d in
    let same : key a ≡ key b = sym (get_or-map key xs i d 0 first) ∙ joined ∙ get_or-map key xs j d 0 second in
    let inner : map key (set xs i b) ≡ map key xs = map-set_same key xs i b d (sym same) in
    let other : get_or (set xs i b) j d ≡ b = get_or-set_other xs i j b d apart in
    let outer : map key (set (set xs i b) j a) ≡ map key (set xs i b) = map-set_same key (set xs i b) j a d (same ∙ ap key (sym other)) in
    ap (map key) (sym (swap_is xs i j d first second)) ∙ outer ∙ inner

-- a reordering preserves the clusters of each run in order
abbrev pub PreservesRuns : (Buffer → ℕ → ℕ → Buffer) → Type 0
PreservesRuns reorder = (b : Buffer) (start end : ℕ) → IsMonotoneLevel b.cluster_level → IsRunInOrder b.items start end
    → PreservesClusters (clusters b.items) (clusters (reorder b start end).items)

-- so it does under every plan, if the plan uses the shaper
reordering-preserves : (own : Buffer → ℕ → ℕ → Buffer) → PreservesRuns own → (hooks : Option HookMeaning)
    → ((h : HookMeaning) → hooks ≡ Some h → h.reorder ≡ own)
    → (reorder : Buffer → ℕ → ℕ → Buffer) → option_map (λ (h : HookMeaning). h.reorder) hooks ≡ Some reorder → PreservesRuns reorder
reordering-preserves own preserves None is reorder given = cc
reordering-preserves own preserves (Some hooks) is reorder given =
    let same : own ≡ reorder = sym (is hooks refl) ∙ (let e : hooks.reorder ≡ reorder = cc in e) in
    subst PreservesRuns same preserves

-- of a shaper whose hook this is
pub shaper-preserves : {S : Type 0} (own : Buffer → ℕ → ℕ → Buffer) → PreservesRuns own → (hooks : S → HookMeaning)
    → ((s : S) → (hooks s).reorder ≡ own) → (shaper : Option S)
    → (reorder : Buffer → ℕ → ℕ → Buffer) → option_map (λ (h : HookMeaning). h.reorder) (option_map hooks shaper) ≡ Some reorder
    → PreservesRuns reorder
shaper-preserves own preserves hooks is None = reordering-preserves own preserves None (λ h e. cc)
shaper-preserves own preserves hooks is (Some s) =
    reordering-preserves own preserves (Some (hooks s))
    (λ h e. let same : hooks s ≡ h = cc in sym (ap (λ (x : HookMeaning). x.reorder) same) ∙ is s)
