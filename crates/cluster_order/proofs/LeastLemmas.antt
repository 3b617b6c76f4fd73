-- The least clusters ahead rise, fall if the list did, and are those of the list.
use Rattle.std.proofs.Common.{◌≡◌, ℕ, zero, suc, ◌<◌, ◌≤◌, ◌⊎◌, inl, inr, List, [], ◌∷◌, length, get_or, min, refl, sym, ap, subst, ◌∙◌, arith}
use Rattle.std.specs.Prelude.{Contains}
use Rattle.std.specs.List.Sorted.{IsNonDecreasing}
use Rattle.shape_items.specs.ClusterOrder.{IsNonIncreasing, PreservesClusters}
use Rattle.cluster_order.specs.Least.{least_with, least_ahead}

rises-cons : (h : ℕ) (zs : List ℕ) → IsNonDecreasing zs → ((d : ℕ) → 0 < length zs → h ≤ get_or zs 0 d) → IsNonDecreasing (h ∷ zs)
rises-cons h zs r b zero zero d le lt = omega arith
rises-cons h zs r b zero (suc j) d le lt =
    let front : h ≤ get_or zs 0 d = b d (omega arith) in
    let rest : get_or zs 0 d ≤ get_or zs j d = r 0 j d (omega arith) (omega arith) in omega arith
rises-cons h zs r b (suc i) zero d le lt = absurd (omega arith)
rises-cons h zs r b (suc i) (suc j) d le lt = r i j d (omega arith) (omega arith)

falls-cons : (h : ℕ) (zs : List ℕ) → IsNonIncreasing zs → ((d : ℕ) → 0 < length zs → get_or zs 0 d ≤ h) → IsNonIncreasing (h ∷ zs)
falls-cons h zs r b zero zero d le lt = omega arith
falls-cons h zs r b zero (suc j) d le lt =
    let front : get_or zs 0 d ≤ h = b d (omega arith) in
    let rest : get_or zs j d ≤ get_or zs 0 d = r 0 j d (omega arith) (omega arith) in omega arith
falls-cons h zs r b (suc i) zero d le lt = absurd (omega arith)
falls-cons h zs r b (suc i) (suc j) d le lt = r i j d (omega arith) (omega arith)

least-below : (x : ℕ) (zs : List ℕ) (d : ℕ) → 0 < length zs → least_with x zs ≤ get_or zs 0 d
least-below x [] d lt = absurd (omega arith)
least-below x (z ∷ zs) d lt = omega arith

least-within : (x : ℕ) (zs : List ℕ) → least_with x zs ≤ x
least-within x [] = omega arith
least-within x (z ∷ zs) = omega arith

pub ahead-rises : (xs : List ℕ) → IsNonDecreasing (least_ahead xs)
ahead-rises [] = λ i j d le lt. absurd (omega arith)
ahead-rises (x ∷ xs) = rises-cons (least_with x (least_ahead xs)) (least_ahead xs) (ahead-rises xs) (least-below x (least_ahead xs))

-- the first of a list is not below the least
ahead-first : (xs : List ℕ) (d : ℕ) → 0 < length xs → get_or (least_ahead xs) 0 d ≤ get_or xs 0 d
ahead-first [] d lt = absurd (omega arith)
ahead-first (x ∷ xs) d lt = least-within x (least_ahead xs)

length-ahead : (xs : List ℕ) → length (least_ahead xs) ≡ length xs
length-ahead [] = refl
length-ahead (x ∷ xs) = ap suc (length-ahead xs)

falls-tail : (x : ℕ) (xs : List ℕ) → IsNonIncreasing (x ∷ xs) → IsNonIncreasing xs
falls-tail x xs f i j d le lt = f (suc i) (suc j) d (omega arith) (omega arith)

rises-tail : (x : ℕ) (xs : List ℕ) → IsNonDecreasing (x ∷ xs) → IsNonDecreasing xs
rises-tail x xs f i j d le lt = f (suc i) (suc j) d (omega arith) (omega arith)

-- where the first is not below what follows, the least of both is the first that follows
least-falls : (x : ℕ) (zs : List ℕ) → ((d : ℕ) → 0 < length zs → get_or zs 0 d ≤ x) → (d : ℕ) → 0 < length zs → get_or zs 0 d ≤ least_with x zs
least-falls x [] b d lt = absurd (omega arith)
least-falls x (z ∷ zs) b d lt = let h : z ≤ x = b d lt in omega arith

pub ahead-falls : (xs : List ℕ) → IsNonIncreasing xs → IsNonIncreasing (least_ahead xs)
ahead-falls [] f = λ i j d le lt. absurd (omega arith)
ahead-falls (x ∷ xs) f =
    falls-cons (least_with x (least_ahead xs)) (least_ahead xs) (ahead-falls xs (falls-tail x xs f))
    (least-falls x (least_ahead xs) (λ d lt.
    let long = length-ahead xs in
    let first : get_or (least_ahead xs) 0 d ≤ get_or xs 0 d = ahead-first xs d (omega arith) in
    let next : get_or xs 0 d ≤ x = f 0 1 d (omega arith) (omega arith) in omega arith))

least-one : (x : ℕ) (zs : List ℕ) → (least_with x zs ≡ x) ⊎ Contains zs (least_with x zs)
least-one x [] = inl refl
least-one x (z ∷ zs) = elim (dec_min x z) [ inl e ↦ inl e | inr e ↦ inr (0, omega arith, sym e) ]
  where
    dec_min : (a b : ℕ) → (min a b ≡ a) ⊎ (min a b ≡ b)
    dec_min zero b = inl (omega arith)
    dec_min (suc a) zero = inr (omega arith)
    dec_min (suc a) (suc b) = elim (dec_min a b) [ inl e ↦ inl (omega arith) | inr e ↦ inr (omega arith) ]

contains-after : (x k : ℕ) (xs : List ℕ) → Contains xs k → Contains (x ∷ xs) k
contains-after x k xs (i, lt, e) = (suc i, omega arith, e)

pub ahead-none_new : (xs : List ℕ) (k : ℕ) → Contains (least_ahead xs) k → Contains xs k
ahead-none_new [] k (i, lt, e) = absurd (omega arith)
ahead-none_new (x ∷ xs) k (zero, lt, e) = elim (least-one x (least_ahead xs)) [
  | inl same ↦ (0, omega arith, sym same ∙ e)
  | inr there ↦ contains-after x k xs (ahead-none_new xs k (subst (λ n. Contains (least_ahead xs) n) e there))
]
ahead-none_new (x ∷ xs) k (suc i, lt, e) = contains-after x k xs (ahead-none_new xs k (i, omega arith, e))

pub preserves : (xs : List ℕ) → PreservesClusters xs (least_ahead xs)
preserves xs = record { rising = λ _. ahead-rises xs; falling = ahead-falls xs; none_new = ahead-none_new xs }

least-rises : (x : ℕ) (zs : List ℕ) → ((d : ℕ) → 0 < length zs → x ≤ get_or zs 0 d) → least_with x zs ≡ x
least-rises x [] b = refl
least-rises x (z ∷ zs) b = let h : x ≤ z = b 0 (omega arith) in omega arith

pub ahead-same : (xs : List ℕ) → IsNonDecreasing xs → least_ahead xs ≡ xs
ahead-same [] r = refl
ahead-same (x ∷ xs) r =
    let rest : least_ahead xs ≡ xs = ahead-same xs (rises-tail x xs r) in
    let first : least_with x xs ≡ x = least-rises x xs (λ d lt. r 0 1 d (omega arith) (omega arith)) in
    subst (λ zs. least_with x zs ∷ zs ≡ x ∷ xs) (sym rest) (subst (λ n. n ∷ xs ≡ x ∷ xs) (sym first) refl)
