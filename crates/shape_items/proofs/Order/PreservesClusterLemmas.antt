-- What preserves clusters: the same list of them, and one step after another.
use Rattle.std.proofs.Common.{◌≡◌, ℕ, List, map, sym, subst}
use Rattle.shape_items.specs.ClusterOrder.{PreservesClusters}
use Rattle.shape_items.specs.Clusters.{clusters}
use Rattle.shape_items.specs.Items.{Item}
use Rattle.shape_items.proofs.Merging.KeyLemmas.{keys-map}

pub PreservesClusters-same : (xs : List ℕ) → PreservesClusters xs xs
PreservesClusters-same xs = record { rising = λ h. h; falling = λ h. h; none_new = λ k h. h }

pub PreservesClusters-equal : (before after : List ℕ) → after ≡ before → PreservesClusters before after
PreservesClusters-equal before after same =
    subst (λ (xs : List ℕ). PreservesClusters before xs) (sym same) (PreservesClusters-same before)

pub PreservesClusters-then : (xs ys zs : List ℕ) → PreservesClusters xs ys → PreservesClusters ys zs → PreservesClusters xs zs
PreservesClusters-then xs ys zs first later = record {
  rising = λ h. later.rising (first.rising h);
  falling = λ h. later.falling (first.falling h);
  none_new = λ k h. first.none_new k (later.none_new k h);
}

pub clusters-map : (f : Item → Item) → ((x : Item) → (f x).cluster ≡ x.cluster) → (xs : List Item)
    → clusters (map f xs) ≡ clusters xs
clusters-map = keys-map (λ item. item.cluster)
