-- the places of the glyphs of a row, one by one
use Rattle.std.proofs.Common.{◌≡◌, ℕ, suc, ◌+◌, ◌-◌, ◌<◌, List, [], ◌∷◌, ◌++◌, Some, None, sym, ap, ◌∙◌, arith}
use Rattle.std.proofs.lemmas.List.{append_assoc, append-nil}
use Rattle.shape_items.specs.Items.{Item}
use Rattle.layout_matching.specs.declared.lookup.Lookup.{Lookup}
use Rattle.layout_matching.specs.Seeking.{next_place, places_after}
use Rattle.layout_matching.specs.declared.seeking.Seek.{Seek}

pub places_some : (l : Lookup) (seek : Seek) (items : List Item) (n k i j : ℕ) → k < n → next_place l seek items k i ≡ Some j
    → places_after l seek items (n - k) k i ≡ j ∷ places_after l seek items (n - (k + 1)) (k + 1) j
places_some l seek items n k i j more is =
    let e : n - k ≡ suc (n - (k + 1)) = omega (arith, more) in
    let s : suc k ≡ k + 1 = omega arith in
    ap (λ m. places_after l seek items m k i) e
    ∙ rw is (ap (λ m. j ∷ places_after l seek items (n - (k + 1)) m j) s)

pub places_pushed : (l : Lookup) (seek : Seek) (items : List Item) (n k i j : ℕ) (xs : List ℕ) → k < n → next_place l seek items k i ≡ Some j
    → (xs ++ j ∷ []) ++ places_after l seek items (n - (k + 1)) (k + 1) j ≡ xs ++ places_after l seek items (n - k) k i
places_pushed l seek items n k i j xs more is =
    append_assoc xs (j ∷ []) (places_after l seek items (n - (k + 1)) (k + 1) j)
    ∙ ap (λ ys. xs ++ ys) (sym (places_some l seek items n k i j more is))

pub places_none : (l : Lookup) (seek : Seek) (items : List Item) (n k i : ℕ) (xs : List ℕ) → k < n → next_place l seek items k i ≡ None
    → xs ++ places_after l seek items (n - k) k i ≡ xs
places_none l seek items n k i xs more is =
    let e : n - k ≡ suc (n - (k + 1)) = omega (arith, more) in
    ap (λ m. xs ++ places_after l seek items m k i) e ∙ rw is (append-nil xs)

pub places_end : (l : Lookup) (seek : Seek) (items : List Item) (n i : ℕ) (xs : List ℕ) → xs ++ places_after l seek items (n - n) n i ≡ xs
places_end l seek items n i xs =
    let e : n - n ≡ 0 = omega arith in
    ap (λ m. xs ++ places_after l seek items m n i) e ∙ append-nil xs
