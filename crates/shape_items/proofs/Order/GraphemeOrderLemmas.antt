-- The order of clusters if graphemes are reversed.
use Rattle.std.proofs.Common.{◌≡◌, ℕ, zero, suc, ◌-◌, ◌<◌, List, [], ◌∷◌, ◌++◌, length, reverse, replicate, refl, ap, sym, ◌∙◌, arith, subst}
use Rattle.std.proofs.lemmas.List.{get_or-reverse, length-reverse, reverse-append, map-append, append-nil}
use Rattle.std.proofs.lemmas.Grind.{flat_map-append}
use Rattle.std.specs.List.Sorted.{IsNonDecreasing}
use Rattle.canonical_form.proofs.Lists.DividedLemmas.{whole}
use Rattle.shape_items.specs.Items.{Item}
use Rattle.shape_items.specs.Clusters.{clusters}
use Rattle.shape_items.specs.ClusterOrder.{IsNonIncreasing}
use Rattle.shape_items.proofs.Order.ReversedLemmas.{falls-reverse}

-- a part stands in one cluster
abbrev pub IsOneCluster : List Item → Type 0
IsOneCluster part = (cluster : ℕ) × (clusters part ≡ replicate (length part) cluster)

abbrev pub AreOneCluster : List (List Item) → Type 0
AreOneCluster [] = Unit {0}
AreOneCluster (part ∷ parts) = IsOneCluster part × AreOneCluster parts

after-replicate : (n c : ℕ) → replicate n c ++ (c ∷ []) ≡ c ∷ replicate n c
after-replicate zero c = refl
after-replicate (suc n) c = ap (λ (cs : List ℕ). c ∷ cs) (after-replicate n c)

reverse-replicate : (n c : ℕ) → reverse (replicate n c) ≡ replicate n c
reverse-replicate zero c = refl
reverse-replicate (suc n) c =
    reverse-append (c ∷ []) (replicate n c) ∙ ap (λ (cs : List ℕ). cs ++ (c ∷ [])) (reverse-replicate n c) ∙ after-replicate n c

one_cluster-reverse : (part : List Item) → IsOneCluster part → reverse (clusters part) ≡ clusters part
one_cluster-reverse part (c, is) = ap (λ (cs : List ℕ). reverse cs) is ∙ reverse-replicate (length part) c ∙ sym is

whole-after : (parts : List (List Item)) (part : List Item)
    → clusters (whole (parts ++ (part ∷ []))) ≡ clusters (whole parts) ++ clusters part
whole-after parts part =
    ap clusters (flat_map-append (λ (p : List Item). p) parts (part ∷ []) ∙ ap (λ (xs : List Item). whole parts ++ xs) (append-nil part))
    ∙ map-append (λ (item : Item). item.cluster) (whole parts) part

-- parts in one cluster each, from the last to the first, have the clusters of the whole from its end
pub clusters-reversed : (parts : List (List Item)) → AreOneCluster parts
    → clusters (whole (reverse parts)) ≡ reverse (clusters (whole parts))
clusters-reversed [] one = refl
clusters-reversed (part ∷ parts) one =
    ap (λ (ps : List (List Item)). clusters (whole ps)) (reverse-append (part ∷ []) parts)
    ∙ whole-after (reverse parts) part
    ∙ ap (λ (cs : List ℕ). cs ++ clusters part) (clusters-reversed parts one.1)
    ∙ ap (λ (cs : List ℕ). reverse (clusters (whole parts)) ++ cs) (sym (one_cluster-reverse part one.0))
    ∙ sym (reverse-append (clusters part) (clusters (whole parts)))
    ∙ ap (λ (cs : List ℕ). reverse cs) (sym (map-append (λ (item : Item). item.cluster) part (whole parts)))

-- rising clusters fall once the parts are reversed
pub falls-reversed : (parts : List (List Item)) → AreOneCluster parts → IsNonDecreasing (clusters (whole parts))
    → IsNonIncreasing (clusters (whole (reverse parts)))
falls-reversed parts one rising =
    subst (λ (cs : List ℕ). IsNonIncreasing cs) (sym (clusters-reversed parts one)) (falls-reverse (clusters (whole parts)) rising)
