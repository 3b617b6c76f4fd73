-- Between two edges nothing changes, and each range begins at an edge.
use Rattle.std.proofs.Common.{◌≡◌, ◌≢◌, ℕ, ◌+◌, ◌*◌, ◌<◌, ◌≤◌, Bool, true, false, ◌&&◌, List, [], ◌∷◌, ◌++◌, not}
use Rattle.std.proofs.Common.{fold, length, nat_eq, nat_lt, refl, ap, ◌∙◌, arith, if◌then◌else◌}
use Rattle.std.proofs.lemmas.Bool.Decides.{nat_tests}
use Rattle.std.specs.List.{list_any}
use Rattle.apple_substitution.specs.FeatureMap.{added, is_against, is_in, nearer, nearer_of}
use Rattle.apple_substitution.specs.declared.chains.Feature.{Feature}
use Rattle.apple_substitution.specs.declared.feature_map.Choice.{Choice}

-- ---- the nearest edge

nearer_at_most : (p b e : ℕ) → nearer p b e ≤ b
nearer_at_most p b e = grind (arith, nat_tests)

nearer_after : (p b e : ℕ) → p < b → p < nearer p b e
nearer_after p b e lt = grind (arith, nat_tests)

-- an edge after p is no nearer
nearer_edge : (p b e : ℕ) → p < e → nearer p b e ≤ e
nearer_edge p b e lt = grind (arith, nat_tests)

pub edges_at_most : (p b : ℕ) (cs : List Choice) → fold (nearer_of p) b cs ≤ b
edges_at_most p b [] = omega arith
edges_at_most p b (c ∷ cs) = omega (
  arith,
  edges_at_most p (nearer_of p b c) cs,
  nearer_at_most p b c.start,
  nearer_at_most p (nearer p b c.start) c.end,
)

pub edges_after : (p b : ℕ) (cs : List Choice) → p < b → p < fold (nearer_of p) b cs
edges_after p b [] lt = lt
edges_after p b (c ∷ cs) lt = edges_after p (nearer_of p b c) cs (nearer_after p (nearer p b c.start) c.end (nearer_after p b c.start lt))

-- ---- up to it the same settings are chosen

same_inside : (p q : ℕ) (c : Choice) → p ≤ q → (p < c.start → q < c.start) → (p < c.end → q < c.end) → is_in q c ≡ is_in p c
same_inside p q c le start end = grind (arith, nat_tests)

same_added : (p q : ℕ) (fs : List Feature) (c : Choice) → is_in q c ≡ is_in p c → added q fs c ≡ added p fs c
same_added p q fs c is = ap (λ t. if t && not (list_any (is_against c) fs) then fs ++ (c.feature ∷ []) else fs) is

pub same_features : (p q b n : ℕ) (fs : List Feature) (cs : List Choice) → p ≤ q → n ≡ fold (nearer_of p) b cs → q < n
    → fold (added q) fs cs ≡ fold (added p) fs cs
same_features p q b n fs [] le is lt = refl
same_features p q b n fs (c ∷ cs) le is lt =
    let most : n ≤ nearer_of p b c = omega (arith, is, edges_at_most p (nearer_of p b c) cs) in
    let start : p < c.start → q < c.start = λ after. omega (arith, nearer_edge p b c.start after, most, nearer_at_most p (nearer p b c.start) c.end) in
    let end : p < c.end → q < c.end = λ after. omega (arith, nearer_edge p (nearer p b c.start) c.end after, most) in
    ap (λ gs. fold (added q) gs cs) (same_added p q fs c (same_inside p q c le start end))
    ∙ same_features p q (nearer_of p b c) n (added p fs c) cs le is lt

-- ---- fewer edges are left after each

is_left : ℕ → ℕ → ℕ
is_left p e = if nat_lt p e then 1 else 0

-- how many edges come after a cluster
pub edges_left : ℕ → List Choice → ℕ
edges_left p [] = 0
edges_left p (c ∷ cs) = is_left p c.start + is_left p c.end + edges_left p cs

left_at_most : (p e : ℕ) → is_left p e ≤ 1
unfolding is_left
left_at_most p e = grind (arith, nat_tests)

left_falls : (p n e : ℕ) → p ≤ n → is_left n e ≤ is_left p e
unfolding is_left
left_falls p n e le = grind (arith, nat_tests)

pub edges_left_at_most : (p : ℕ) (cs : List Choice) → edges_left p cs ≤ 2 * length cs
unfolding edges_left
edges_left_at_most p [] = omega arith
edges_left_at_most p (c ∷ cs) = omega (arith, left_at_most p c.start, left_at_most p c.end, edges_left_at_most p cs)

edges_fall : (p n : ℕ) (cs : List Choice) → p ≤ n → edges_left n cs ≤ edges_left p cs
unfolding edges_left
edges_fall p n [] le = omega arith
edges_fall p n (c ∷ cs) le = omega (arith, left_falls p n c.start le, left_falls p n c.end le, edges_fall p n cs le)

-- a choice whose edge was come to has that edge left no more
choice_left : (p b n : ℕ) (c : Choice) → p ≤ n → n ≡ nearer_of p b c → n ≢ b
    → is_left n c.start + is_left n c.end < is_left p c.start + is_left p c.end
unfolding is_left
choice_left p b n c le is other = grind (arith, nat_tests)

by_place : (p b n : ℕ) (c : Choice) (cs : List Choice) (here : Bool) → nat_eq n (nearer_of p b c) ≡ here → p < n → n ≢ b
    → n ≡ fold (nearer_of p) (nearer_of p b c) cs → (n ≢ nearer_of p b c → edges_left n cs < edges_left p cs)
    → edges_left n (c ∷ cs) < edges_left p (c ∷ cs)
unfolding edges_left
by_place p b n c cs true e lt other is after =
    let le : p ≤ n = omega (arith, lt) in
    let there : n ≡ nearer_of p b c = grind (arith, nat_tests, e) in
    omega (arith, choice_left p b n c le there other, edges_fall p n cs le)
by_place p b n c cs false e lt other is after =
    let le : p ≤ n = omega (arith, lt) in
    let further : n ≢ nearer_of p b c = grind (arith, nat_tests, e) in
    omega (arith, left_falls p n c.start le, left_falls p n c.end le, after further)

pub edges_left_after : (p b n : ℕ) (cs : List Choice) → p < n → n ≡ fold (nearer_of p) b cs → n ≢ b
    → edges_left n cs < edges_left p cs
edges_left_after p b n [] lt is other = absurd (other is)
edges_left_after p b n (c ∷ cs) lt is other =
    by_place p b n c cs (nat_eq n (nearer_of p b c)) refl lt other is (edges_left_after p (nearer_of p b c) n cs lt is)
