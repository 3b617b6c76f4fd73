-- Whether a line may end before a cluster is decided by each of its glyphs alike, if clusters are in order and
-- neighbours have one set of flags.
use Rattle.std.proofs.Common.{◌≡◌, ℕ, zero, suc, ◌<◌, ◌≤◌, ◌==◌, Bool, true, false, cond, List, [], ◌∷◌, length, get_or, Some, refl, ap, sym, ◌∙◌, arith}
use Rattle.std.proofs.lemmas.List.{get_or-map, length-map}
use Rattle.std.proofs.lemmas.Bool.Decides.{nat_tests}
use Rattle.std.proofs.lemmas.Nat.{and_assoc}
use Rattle.std.specs.Int.RustNames.{bit_and}
use Rattle.std.specs.List.{find}
use Rattle.std.specs.Option.{option_map}
use Rattle.std.specs.Prelude.{All, unwrap_or}
use Rattle.shape_items.specs.Clusters.{clusters}
use Rattle.shape_items.specs.Flags.{flags_of, HasOneSetOfFlags}
use Rattle.shape_items.specs.Items.{Item, has_cluster}
use Rattle.shape_items.specs.ClusterOrder.{IsOrderedFor}
use Rattle.shape_users.specs.Lines.{lacks_break, cut_at}

-- the cluster of the item at a place
pub cluster-at : (xs : List Item) (k : ℕ) (d : Item) → k < length xs → get_or (clusters xs) k 0 ≡ (get_or xs k d).cluster
cluster-at xs k d within = get_or-map (λ (x : Item). x.cluster) xs k d 0 within

-- what stands between two glyphs of a cluster is of that cluster
between : (backward : Bool) (xs : List Item) → IsOrderedFor backward (clusters xs) → (i j m : ℕ) (d : Item) → i ≤ m → m ≤ j → j < length xs
    → (get_or xs i d).cluster ≡ (get_or xs j d).cluster → (get_or xs m d).cluster ≡ (get_or xs i d).cluster
between true xs ordered i j m d from to within same =
    let low = ordered i m 0 from (rw length-map (omega arith)) in
    let high = ordered m j 0 to (rw length-map within) in
    omega (arith, low, high, same, cluster-at xs i d (omega arith), cluster-at xs m d (omega arith), cluster-at xs j d within)
between false xs ordered i j m d from to within same =
    let low = ordered i m 0 from (rw length-map (omega arith)) in
    let high = ordered m j 0 to (rw length-map within) in
    omega (arith, low, high, same, cluster-at xs i d (omega arith), cluster-at xs m d (omega arith), cluster-at xs j d within)

-- neighbours in one cluster have the same flags
neighbours : (xs : List Item) → HasOneSetOfFlags xs → (i : ℕ) (d : Item) → suc i < length xs
    → (get_or xs i d).cluster ≡ (get_or xs (suc i) d).cluster
    → flags_of (get_or xs i d) ≡ flags_of (get_or xs (suc i) d)
neighbours [] one i d within same = absurd (omega arith)
neighbours (x ∷ []) one i d within same = absurd (omega arith)
neighbours (x ∷ y ∷ xs) one zero d within same = one.0 same
neighbours (x ∷ y ∷ xs) one (suc i) d within same = neighbours (y ∷ xs) one.1 i d (omega arith) same

-- and so have all of a cluster
first_and : (backward : Bool) (xs : List Item) → IsOrderedFor backward (clusters xs) → HasOneSetOfFlags xs → (n : ℕ) (d : Item)
    → n < length xs
    → (get_or xs 0 d).cluster ≡ (get_or xs n d).cluster → flags_of (get_or xs 0 d) ≡ flags_of (get_or xs n d)
first_and backward xs ordered one zero d within same = refl
first_and backward xs ordered one (suc n) d within same =
    let before : (get_or xs n d).cluster
    ≡ (get_or xs 0 d).cluster = between backward xs ordered 0 (suc n) n d (omega arith) (omega arith) within same in
    first_and backward xs ordered one n d (omega arith) (sym before) ∙ neighbours xs one n d within (before ∙ same)

-- the flag is one of the set
lacks-flags : (x y : Item) → flags_of x ≡ flags_of y → lacks_break x ≡ lacks_break y
lacks-flags x y same =
    let first : bit_and (flags_of x) 1 ≡ bit_and x.mask 1 = and_assoc 1 x.mask 7 in
    let second : bit_and (flags_of y) 1 ≡ bit_and y.mask 1 = and_assoc 1 y.mask 7 in
    ap (λ (f : ℕ). f == 0) (sym first ∙ ap (λ (f : ℕ). bit_and f 1) same ∙ second)

ordered_rest : (backward : Bool) (x : Item) (xs : List Item) → IsOrderedFor backward (clusters (x ∷ xs))
    → IsOrderedFor backward (clusters xs)
ordered_rest true x xs ordered = λ i j d from within. ordered (suc i) (suc j) d (omega arith) (omega arith)
ordered_rest false x xs ordered = λ i j d from within. ordered (suc i) (suc j) d (omega arith) (omega arith)

one_rest : (x : Item) (xs : List Item) → HasOneSetOfFlags (x ∷ xs) → HasOneSetOfFlags xs
one_rest x [] one = tt
one_rest x (y ∷ xs) one = one.1

-- each glyph of the rest says the same with one more at the front, if that is of another cluster
later : (cluster : ℕ) (x : Item) (xs : List Item) → All (λ glyph. glyph.cluster ≡ cluster → lacks_break glyph ≡ cut_at cluster xs) xs
    → (k : ℕ) (d : Item) → k < length (x ∷ xs) → (get_or (x ∷ xs) k d).cluster ≡ cluster → (x.cluster ≡ cluster → ⊥)
    → lacks_break (get_or (x ∷ xs) k d) ≡ cut_at cluster xs
later cluster x xs all zero d within is other = absurd (other is)
later cluster x xs all (suc k) d within is other = all k d (omega arith) is

-- each glyph of a cluster says what the first one does
pub each_answers : (backward : Bool) (cluster : ℕ) (xs : List Item) → IsOrderedFor backward (clusters xs) → HasOneSetOfFlags xs
    → All (λ glyph. glyph.cluster ≡ cluster → lacks_break glyph ≡ cut_at cluster xs) xs
each_answers backward cluster [] ordered one = λ k d within. absurd (omega arith)
each_answers backward cluster (x ∷ xs) ordered one = λ k d within is.
    let P : Bool → Type 0 = λ t. (x.cluster == cluster) ≡ t
    → lacks_break (get_or (x ∷ xs) k d) ≡ unwrap_or (option_map lacks_break (cond t (Some x) (find (has_cluster cluster) xs))) false in
    let cases : P (x.cluster == cluster) = elim (x.cluster == cluster) as P [
      | true ↦ λ e.
          let same : x.cluster ≡ cluster = grind (arith, nat_tests, e) in
          sym (lacks-flags x (get_or (x ∷ xs) k d) (first_and backward (x ∷ xs) ordered one k d within (same ∙ sym is)))
      | false ↦ λ e. later cluster x xs (each_answers backward cluster xs (ordered_rest backward x xs ordered)
          (one_rest x xs one)) k d within is (λ same. grind (arith, nat_tests, e, same))
    ] in
    cases refl
