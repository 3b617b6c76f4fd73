-- Ranges of a text one by one.
use Rattle.std.proofs.Common.{◌≡◌, ℕ, suc, ◌+◌, ◌-◌, ◌<◌, true, false, List, [], ◌∷◌, ◌++◌, map, nat_eq, refl, sym, ap, ◌∙◌, arith, if◌then◌else◌}
use Rattle.std.proofs.lemmas.List.{append_assoc, append-nil, map-append}
use Rattle.apple_substitution.specs.FeatureMap.{LAST, edge_after, range_at, ranges_from}
use Rattle.apple_substitution.specs.FeatureRanges.{Request, request_of}
use Rattle.apple_substitution.specs.declared.feature_map.Choice.{Choice}
use Rattle.apple_substitution.specs.declared.feature_ranges.FeatureRange.{FeatureRange}

-- the range that a cluster begins, and those after it
first_range : (cs : List Choice) (n cluster next : ℕ) → next ≡ edge_after cluster cs
    → ranges_from cs (suc n) cluster ≡ range_at cs cluster next ∷ (if nat_eq next LAST then [] else ranges_from cs n next)
first_range cs n cluster next is = rw is refl

-- one range more
pushed : (rs new : List FeatureRange) (r : FeatureRange) (q : Request) (after : List Request) → new ≡ rs ++ r ∷ [] → request_of r ≡ q
    → map request_of new ++ after ≡ map request_of rs ++ (q ∷ after)
pushed rs new r q after is there =
    ap (λ xs. map request_of xs ++ after) is ∙ ap (λ xs. xs ++ after) (map-append request_of rs (r ∷ []))
    ∙ append_assoc (map request_of rs) (request_of r ∷ []) after ∙ ap (λ x. map request_of rs ++ (x ∷ after)) there

pub next_range : (cs : List Choice) (n i cluster next : ℕ) (rs new : List FeatureRange) (r : FeatureRange) (end : List Request) → i < n
    → map request_of rs ++ ranges_from cs (n - i) cluster ≡ end → next ≡ edge_after cluster cs → nat_eq next LAST ≡ false
    → request_of r ≡ range_at cs cluster next → new ≡ rs ++ r ∷ []
    → map request_of new ++ ranges_from cs (n - (i + 1)) next ≡ end
next_range cs n i cluster next rs new r end more made edge goes_on there is =
    let e : n - i ≡ suc (n - (i + 1)) = omega (arith, more) in
    let all : ranges_from cs (n - i) cluster ≡ range_at cs cluster next ∷ ranges_from cs (n - (i + 1)) next =
    ap (λ k. ranges_from cs k cluster) e ∙ first_range cs (n - (i + 1)) cluster next edge
    ∙ ap (λ t. range_at cs cluster next ∷ (if t then [] else ranges_from cs (n - (i + 1)) next)) goes_on in
    pushed rs new r (range_at cs cluster next) (ranges_from cs (n - (i + 1)) next) is there
    ∙ ap (λ xs. map request_of rs ++ xs) (sym all) ∙ made

pub last_range : (cs : List Choice) (n i cluster next : ℕ) (rs new : List FeatureRange) (r : FeatureRange) (end : List Request) → i < n
    → map request_of rs ++ ranges_from cs (n - i) cluster ≡ end → next ≡ edge_after cluster cs → nat_eq next LAST ≡ true
    → request_of r ≡ range_at cs cluster next → new ≡ rs ++ r ∷ [] → map request_of new ≡ end
last_range cs n i cluster next rs new r end more made edge over there is =
    let e : n - i ≡ suc (n - (i + 1)) = omega (arith, more) in
    let all : ranges_from cs (n - i) cluster ≡ range_at cs cluster next ∷ [] =
    ap (λ k. ranges_from cs k cluster) e ∙ first_range cs (n - (i + 1)) cluster next edge
    ∙ ap (λ t. range_at cs cluster next ∷ (if t then [] else ranges_from cs (n - (i + 1)) next)) over in
    sym (append-nil (map request_of new)) ∙ pushed rs new r (range_at cs cluster next) [] is there
    ∙ ap (λ xs. map request_of rs ++ xs) (sym all) ∙ made
