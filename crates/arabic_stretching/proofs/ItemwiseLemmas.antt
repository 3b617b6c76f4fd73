-- A list that is made item by item: what an item adds, and the state after it, hang on what is left of the items.
use Rattle.std.proofs.Common.{◌≡◌, ℕ, ◌+◌, ◌<◌, List, ◌∷◌, ◌++◌, drop, length, get_or, ap, sym, ◌∙◌}
use Rattle.std.proofs.lemmas.List.{drop_more, append_assoc}

-- what is left makes what its first item adds, and what the rest makes
pub made_here : {S X Y : Type 0} (made : S → List X → List Y) (add : S → X → List X → List Y) (on : S → X → List X → S)
    → ((s : S) (x : X) (xs : List X) → made s (x ∷ xs) ≡ add s x (x ∷ xs) ++ made (on s x (x ∷ xs)) xs)
    → (xs : List X) (i : ℕ) (x : X) (s : S) → i < length xs → x ≡ get_or xs i x
    → made s (drop i xs) ≡ add s x (drop i xs) ++ made (on s x (drop i xs)) (drop (i + 1) xs)
made_here {S} {X} {Y} made add on step xs i x s lt here =
    let rest = drop (i + 1) xs in
    let left : drop i xs ≡ x ∷ rest = drop_more xs i x lt ∙ ap (λ (y : X). y ∷ rest) (sym here) in
    ap (made s) left ∙ step s x rest ∙ ap (λ (l : List X). add s x l ++ made (on s x l) rest) (sym left)

-- the whole stays the same as an item is gone over
pub made_on : {S X Y : Type 0} (made : S → List X → List Y) (add : S → X → List X → List Y) (on : S → X → List X → S)
    → ((s : S) (x : X) (xs : List X) → made s (x ∷ xs) ≡ add s x (x ∷ xs) ++ made (on s x (x ∷ xs)) xs)
    → (xs : List X) (i : ℕ) (x : X) (s next : S) (old new whole : List Y) → i < length xs → x ≡ get_or xs i x
    → new ≡ old ++ add s x (drop i xs) → next ≡ on s x (drop i xs) → old ++ made s (drop i xs) ≡ whole
    → new ++ made next (drop (i + 1) xs) ≡ whole
made_on {S} {X} {Y} made add on step xs i x s next old new whole lt here new_is next_is so_far =
    let rest = drop (i + 1) xs in
    ap (λ (l : List Y). l ++ made next rest) new_is ∙ ap (λ (t : S). (old ++ add s x (drop i xs)) ++ made t rest) next_is
    ∙ append_assoc old (add s x (drop i xs)) (made (on s x (drop i xs)) rest)
    ∙ ap (λ (l : List Y). old ++ l) (sym (made_here made add on step xs i x s lt here)) ∙ so_far
