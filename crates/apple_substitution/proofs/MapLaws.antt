-- In each cluster the settings of its range are those that are chosen there.
use Prim.Native.Nat.{zero}
use Rattle.std.proofs.Common.{◌≡◌, ◌≢◌, ℕ, suc, ◌+◌, ◌*◌, ◌<◌, ◌≤◌, Bool, true, false, List, [], ◌∷◌, Some, length, nat_eq, nat_le, nat_lt, slice_index_or}
use Rattle.std.proofs.Common.{not, refl, sym, ap, ◌∙◌, arith, if◌then◌else◌}
use Rattle.std.proofs.lemmas.Bool.Decides.{nat_tests}
use Rattle.apple_substitution.specs.FeatureMap.{LAST, edge_after, features_in, range_at, ranges_from, ranges_of}
use Rattle.apple_substitution.specs.Chains.{chain_flags}
use Rattle.apple_substitution.specs.FeatureMapLaws.{ChainsHold, RangesHold, features_at, reaches}
use Rattle.apple_substitution.specs.FeatureRanges.{Request, flags_in, flags_of}
use Rattle.apple_substitution.specs.Languages.{Spoken}
use Rattle.apple_substitution.specs.Ranges.{ends_before, flags_at, is_on, place_of, shares}
use Rattle.apple_substitution.specs.declared.chains.Feature.{Feature}
use Rattle.apple_substitution.specs.declared.ranges.FlagRange.{FlagRange}
use Rattle.apple_substitution.specs.declared.feature_map.Choice.{Choice}
use Rattle.apple_substitution.proofs.EdgeLemmas.{edges_after, edges_left, edges_left_after, edges_left_at_most, same_features}

-- the range of a cluster is the first one, or one of those after it
at_first : (q : ℕ) (r : Request) (rs : List Request) → reaches q r ≡ true → features_at q (r ∷ rs) ≡ Some r.features
at_first q r rs is = rw is refl

at_rest : (q : ℕ) (r : Request) (rs : List Request) → reaches q r ≡ false → features_at q (r ∷ rs) ≡ features_at q rs
at_rest q r rs is = rw is refl

ends_after : (cs : List Choice) (p q next : ℕ) → q < next → q < LAST → reaches q (range_at cs p next) ≡ true
ends_after cs p q next lt below = grind (arith, nat_tests)

stops_before : (cs : List Choice) (p q next : ℕ) → p < next → next ≤ q → q < LAST → reaches q (range_at cs p next) ≡ false
stops_before cs p q next after le below = grind (arith, nat_tests)

goes_on : (next q : ℕ) → next ≤ q → q < LAST → nat_eq next LAST ≡ false
goes_on next q le below = grind (arith, nat_tests)

by_side : (cs : List Choice) (n p q : ℕ) (first : Bool) → nat_lt q (edge_after p cs) ≡ first → p ≤ q → q < LAST
    → (edge_after p cs ≤ q → features_at q (ranges_from cs n (edge_after p cs)) ≡ Some (features_in q cs))
    → features_at q (ranges_from cs (suc n) p) ≡ Some (features_in q cs)
by_side cs n p q true e le below after =
    let lt : q < edge_after p cs = grind (arith, nat_tests, e) in
    at_first q (range_at cs p (edge_after p cs)) (if nat_eq (edge_after p cs) LAST then [] else ranges_from cs n (edge_after p cs))
    (ends_after cs p q (edge_after p cs) lt below)
    ∙ ap Some (sym (same_features p q LAST (edge_after p cs) [] cs le refl lt))
by_side cs n p q false e le below after =
    let there : edge_after p cs ≤ q = grind (arith, nat_tests, e) in
    let further : p < edge_after p cs = edges_after p LAST cs (omega (arith, le, below)) in
    at_rest q (range_at cs p (edge_after p cs)) (if nat_eq (edge_after p cs) LAST then [] else ranges_from cs n (edge_after p cs))
    (stops_before cs p q (edge_after p cs) further there below)
    ∙ ap (λ t. features_at q (if t then [] else ranges_from cs n (edge_after p cs))) (goes_on (edge_after p cs) q there below)
    ∙ after there

from_here : (cs : List Choice) (n p q : ℕ) → edges_left p cs < n → p ≤ q → q < LAST
    → features_at q (ranges_from cs n p) ≡ Some (features_in q cs)
from_here cs zero p q few le below = absurd (omega (arith, few))
from_here cs (suc n) p q few le below = by_side cs n p q (nat_lt q (edge_after p cs)) refl le below (λ there.
    let further : p < edge_after p cs = edges_after p LAST cs (omega (arith, le, below)) in
    let other : edge_after p cs ≢ LAST = λ is. omega (arith, is, there, below) in
    from_here cs n (edge_after p cs) q (omega (arith, few, edges_left_after p LAST (edge_after p cs) cs further refl other)) there below)

pub ranges_hold : RangesHold
ranges_hold = λ cs cluster below.
    from_here cs (2 * length cs + 1) 0 cluster (omega (arith, edges_left_at_most 0 cs)) (omega arith) below

-- ---- flags of a chain

flags_first : (r : FlagRange) (rs : List FlagRange) → flags_at (r ∷ rs) 0 ≡ r.flags
flags_first r rs =
    let inside : nat_lt 0 (length (r ∷ rs)) ≡ true = grind (arith, nat_tests) in
    ap (λ t. if t then r.flags else 0) inside

flags_rest : (r : FlagRange) (rs : List FlagRange) (k : ℕ) → flags_at (r ∷ rs) (suc k) ≡ flags_at rs k
flags_rest r rs k =
    let alike : nat_lt (suc k) (length (r ∷ rs)) ≡ nat_lt k (length rs) = grind (arith, nat_tests) in
    ap (λ t. if t then (slice_index_or rs k (record { last = 0; flags = 0 })).flags else 0) alike

first_flags : (r : FlagRange) (rs : List FlagRange) (q wanted : ℕ) → ends_before q r ≡ false
    → is_on (r ∷ rs) wanted q ≡ shares r.flags wanted
first_flags r rs q wanted is =
    ap (λ (t : Bool). shares (flags_at (r ∷ rs) (if t then 1 + place_of rs q else 0)) wanted) is
    ∙ ap (λ n. shares n wanted) (flags_first r rs)

rest_flags : (r : FlagRange) (rs : List FlagRange) (q wanted : ℕ) → ends_before q r ≡ true
    → is_on (r ∷ rs) wanted q ≡ is_on rs wanted q
rest_flags r rs q wanted is =
    let next : 1 + place_of rs q ≡ suc (place_of rs q) = omega arith in
    ap (λ (t : Bool). shares (flags_at (r ∷ rs) (if t then 1 + place_of rs q else 0)) wanted) is
    ∙ ap (λ k. shares (flags_at (r ∷ rs) k) wanted) next
    ∙ ap (λ n. shares n wanted) (flags_rest r rs (place_of rs q))

other_way : (q last : ℕ) (t : Bool) → nat_le q last ≡ t → nat_lt last q ≡ not t
other_way q last true e = grind (arith, nat_tests, e)
other_way q last false e = grind (arith, nat_tests, e)

by_reach : (t : List ℕ) (l : Spoken) (chain q wanted : ℕ) (r : Request) (rs : List Request) (fs : List Feature) (here : Bool) → reaches q r ≡ here
    → features_at q (r ∷ rs) ≡ Some fs
    → (features_at q rs ≡ Some fs → is_on (flags_of t l chain rs) wanted q ≡ shares (chain_flags t l fs chain) wanted)
    → is_on (flags_of t l chain (r ∷ rs)) wanted q ≡ shares (chain_flags t l fs chain) wanted
by_reach t l chain q wanted r rs fs true e is after =
    let same : r.features ≡ fs = cc (at_first q r rs e) in
    first_flags (flags_in t l chain r) (flags_of t l chain rs) q wanted (other_way q r.last true e)
    ∙ ap (λ gs. shares (chain_flags t l gs chain) wanted) same
by_reach t l chain q wanted r rs fs false e is after =
    rest_flags (flags_in t l chain r) (flags_of t l chain rs) q wanted (other_way q r.last false e)
    ∙ after (sym (at_rest q r rs e) ∙ is)

flags_hold : (t : List ℕ) (l : Spoken) (chain q wanted : ℕ) (rs : List Request) (fs : List Feature) → features_at q rs ≡ Some fs
    → is_on (flags_of t l chain rs) wanted q ≡ shares (chain_flags t l fs chain) wanted
flags_hold t l chain q wanted [] fs is = cc
flags_hold t l chain q wanted (r ∷ rs) fs is =
    by_reach t l chain q wanted r rs fs (reaches q r) refl is (flags_hold t l chain q wanted rs fs)

pub chains_hold : ChainsHold
chains_hold = λ t l chain cs wanted cluster below.
    flags_hold t l chain cluster wanted (ranges_of cs) (features_in cluster cs) (ranges_hold cs cluster below)
