-- What the walk over signs makes of the characters: each sign comes before its letter.
use Rattle.std.proofs.Common.{◌≡◌, ℕ, zero, suc, ◌+◌, ◌<◌, ◌≤◌, ◌&&◌, Bool, true, false, List, [], ◌∷◌, ◌++◌, map, length, take, drop, get_or, set, refl, ap, sym, ◌∙◌, arith, if◌then◌else◌}
use Rattle.std.proofs.Math.Seq.{take-length, take-suc, drop-cons, drop-length}
use Rattle.std.proofs.lemmas.List.{append-nil, length-map, length-take-le}
use Rattle.std.proofs.lemmas.List.Edits.{swap_is}
use Rattle.std.specs.List.{swap}
use Rattle.shape_items.specs.Buffer.{Buffer}
use Rattle.shape_items.specs.BufferClusters.{merge_clusters}
use Rattle.shape_items.specs.Items.{Item, new_item}
use Rattle.shape_items.proofs.Merging.KeyLemmas.{IsKey, keys-merge_clusters}
use Rattle.shape_plan.specs.Reorder.{exchanged}
use Rattle.shape_users.specs.Ligatures.{nth_item}
use Rattle.shape_users.specs.Signs.{is_letter, is_typed, is_typed_at, shown_from, signs_first, characters, stepped_at, stepped_to, signs_stepped}
use Rattle.shape_users.proofs.SignLemmas.{typed-within}

abbrev character : Item → ℕ
character item = item.codepoint

-- ---- one place of a list of characters

-- the two characters from a place on exchanged, if they are a letter and its sign
abbrev flip : ℕ → List ℕ → List ℕ
flip i [] = []
flip zero (c ∷ []) = c ∷ []
flip zero (c ∷ d ∷ cs) = if is_typed c d then d ∷ c ∷ cs else c ∷ d ∷ cs
flip (suc i) (c ∷ cs) = c ∷ flip i cs

-- the same at the first places, one after the other
abbrev flipped : ℕ → List ℕ → List ℕ
flipped zero cs = cs
flipped (suc n) cs = flip n (flipped n cs)

-- at the end there is nothing after the letter
flip-past : (i : ℕ) (cs : List ℕ) → length cs ≤ suc i → flip i cs ≡ cs
flip-past i [] short = refl
flip-past zero (c ∷ []) short = refl
flip-past zero (c ∷ d ∷ cs) short = absurd (omega (arith, short))
flip-past (suc i) (c ∷ cs) short = ap (λ rest. c ∷ rest) (flip-past i cs (omega (arith, short)))

-- ---- the walk over characters

flip-shown : (c : ℕ) (ys : List ℕ) (d : ℕ) (ds : List ℕ)
    → flip (length ys) (shown_from c ys ++ d ∷ ds) ≡ shown_from c (ys ++ d ∷ []) ++ ds
flip-shown c [] d ds =
    elim (is_typed c d) as (λ t. (if t then d ∷ c ∷ ds else c ∷ d ∷ ds) ≡ (if t then d ∷ c ∷ [] else c ∷ d ∷ []) ++ ds) [
      | true ↦ refl
      | false ↦ refl
    ]
flip-shown c (y ∷ ys) d ds =
    elim (is_typed c y) as (λ t. flip (suc (length ys)) ((if t then y ∷ shown_from c ys else c ∷ shown_from y ys) ++ d ∷ ds)
    ≡ (if t then y ∷ shown_from c (ys ++ d ∷ []) else c ∷ shown_from y (ys ++ d ∷ [])) ++ ds) [
      | true ↦ ap (λ rest. y ∷ rest) (flip-shown c ys d ds)
      | false ↦ ap (λ rest. c ∷ rest) (flip-shown y ys d ds)
    ]

-- after n places: the first n + 1 characters as they are shown, and the others as they were
flipped-shown : (n : ℕ) (c : ℕ) (cs : List ℕ) → n ≤ length cs → flipped n (c ∷ cs) ≡ shown_from c (take n cs) ++ drop n cs
flipped-shown zero c cs within = refl
flipped-shown (suc n) c cs within =
    let inside : n < length cs = omega (arith, within) in
    let d = get_or cs n 0 in
    let long : length (take n cs) ≡ n = length-take-le n cs (omega (arith, within)) in
    let before : flipped n (c ∷ cs) ≡ shown_from c (take n cs) ++ d ∷ drop (suc n) cs = flipped-shown n c cs (omega (arith, within))
    ∙ ap (λ rest. shown_from c (take n cs) ++ rest) (drop-cons cs n 0 inside) in
    ap (flip n) before ∙ ap (λ k. flip k (shown_from c (take n cs) ++ d ∷ drop (suc n) cs)) (sym long)
    ∙ flip-shown c (take n cs) d (drop (suc n) cs)
    ∙ ap (λ some. shown_from c some ++ drop (suc n) cs) (sym (take-suc cs n 0 inside))

length-shown : (c : ℕ) (cs : List ℕ) → length (shown_from c cs) ≡ suc (length cs)
length-shown c [] = refl
length-shown c (d ∷ cs) =
    elim (is_typed c d) as (λ t. length (if t then d ∷ shown_from c cs else c ∷ shown_from d cs) ≡ suc (suc (length cs))) [
      | true ↦ ap suc (length-shown c cs)
      | false ↦ ap suc (length-shown d cs)
    ]

flipped-first : (cs : List ℕ) → flipped (length cs) cs ≡ signs_first cs
flipped-first [] = refl
flipped-first (c ∷ cs) =
    let n = length cs in
    let all : take n cs ≡ cs = take-length cs in
    let none : drop n cs ≡ [] = drop-length cs in
    let before : flipped n (c ∷ cs) ≡ shown_from c cs = flipped-shown n c cs (omega arith)
    ∙ ap (λ some. shown_from c some ++ drop n cs) all ∙ ap (λ rest. shown_from c cs ++ rest) none ∙ append-nil (shown_from c cs) in
    ap (flip n) before ∙ flip-past n (shown_from c cs) (omega (arith, length-shown c cs))

-- ---- the walk over items does the same to their characters

-- the two items from a place on exchanged, by a default for what lies outside the list
abbrev changed : List Item → ℕ → List Item
changed xs i = set (set xs i (nth_item xs (suc i))) (suc i) (nth_item xs i)

abbrev typed_next : List Item → ℕ → Bool
typed_next xs i = is_typed (nth_item xs i).codepoint (nth_item xs (suc i)).codepoint

changed-flip : (xs : List Item) (i : ℕ) → map character (if typed_next xs i then changed xs i else xs) ≡ flip i (map character xs)
changed-flip [] i = refl
changed-flip (x ∷ []) zero =
    elim (is_letter x.codepoint) as (λ t. map character (if t && false then changed (x ∷ []) zero else x ∷ []) ≡ x.codepoint ∷ []) [
      | true ↦ refl
      | false ↦ refl
    ]
changed-flip (x ∷ y ∷ xs) zero =
    elim (is_typed x.codepoint y.codepoint) as (λ t. map character (if t then y ∷ x ∷ xs else x ∷ y ∷ xs)
    ≡ (if t then y.codepoint ∷ x.codepoint ∷ map character xs else x.codepoint ∷ y.codepoint ∷ map character xs)) [
      | true ↦ refl
      | false ↦ refl
    ]
changed-flip (x ∷ xs) (suc i) =
    let F = flip i (map character xs) in
    let P : Bool → Type 0 = λ t. map character (if t then changed xs i else xs) ≡ F
    → map character (if t then x ∷ changed xs i else x ∷ xs) ≡ x.codepoint ∷ F in
    let cases : P (typed_next xs i) = elim (typed_next xs i) as P [
      | true ↦ λ e. ap (λ rest. x.codepoint ∷ rest) e
      | false ↦ λ e. ap (λ rest. x.codepoint ∷ rest) e
    ] in
    cases (changed-flip xs i)

-- what is at a place, by the characters
nth-character : (xs : List Item) (i : ℕ) → (nth_item xs i).codepoint ≡ get_or (map character xs) i 0
nth-character [] i = refl
nth-character (x ∷ xs) zero = refl
nth-character (x ∷ xs) (suc i) = nth-character xs i

typed-same : (xs ys : List Item) (i : ℕ) → map character xs ≡ map character ys → is_typed_at xs i ≡ is_typed_at ys i
typed-same xs ys i same =
    ap (λ c. is_typed c (nth_item xs (i + 1)).codepoint) (at i) ∙ ap (λ d. is_typed (nth_item ys i).codepoint d) (at (i + 1))
  where
    at : (k : ℕ) → (nth_item xs k).codepoint ≡ (nth_item ys k).codepoint
    at k = nth-character xs k ∙ ap (λ cs. get_or cs k 0) same ∙ sym (nth-character ys k)

IsKey-character : IsKey character
IsKey-character = record { by_cluster = λ item cluster. refl; by_break = λ item. refl }

-- an exchange of a letter and its sign
swap-flip : (xs : List Item) (i : ℕ) → is_typed_at xs i ≡ true → map character (swap xs i (i + 1)) ≡ flip i (map character xs)
swap-flip xs i typed =
    let next : i + 1 ≡ suc i = omega arith in
    let within = typed-within xs i typed in
    let next_typed : typed_next xs i ≡ true = ap (λ k. is_typed (nth_item xs i).codepoint (nth_item xs k).codepoint) (sym next) ∙ typed in
    ap (λ k. map character (swap xs i k)) next
    ∙ ap (map character) (sym (swap_is xs i (suc i) (new_item 0 0) (omega (arith, within)) (omega (arith, within))))
    ∙ ap (λ t. map character (if t then changed xs i else xs)) (sym next_typed) ∙ changed-flip xs i

-- and no exchange
flip-none : (xs : List Item) (i : ℕ) → is_typed_at xs i ≡ false → map character xs ≡ flip i (map character xs)
flip-none xs i typed =
    let next : i + 1 ≡ suc i = omega arith in
    let next_typed : typed_next xs i ≡ false = ap (λ k. is_typed (nth_item xs i).codepoint (nth_item xs k).codepoint) (sym next) ∙ typed in
    ap (λ t. map character (if t then changed xs i else xs)) (sym next_typed) ∙ changed-flip xs i

characters-stepped_at : (i : ℕ) (b : Buffer) → characters (stepped_at i b) ≡ flip i (characters b)
characters-stepped_at i b =
    let merged = merge_clusters i (i + 2) b in
    let same : characters merged ≡ characters b = keys-merge_clusters character IsKey-character i (i + 2) b in
    let P : Bool → Type 0 = λ t. is_typed_at b.items i ≡ t → characters (if t then exchanged i (i + 1) merged else b) ≡ flip i (characters b) in
    let cases : P (is_typed_at b.items i) = elim (is_typed_at b.items i) as P [
      | true ↦ λ e. swap-flip merged.items i (typed-same merged.items b.items i same ∙ e) ∙ ap (flip i) same
      | false ↦ λ e. flip-none b.items i e
    ] in
    cases refl

characters-stepped_to : (n : ℕ) (b : Buffer) → characters (stepped_to n b) ≡ flipped n (characters b)
characters-stepped_to zero b = refl
characters-stepped_to (suc n) b = characters-stepped_at n (stepped_to n b) ∙ ap (flip n) (characters-stepped_to n b)

pub characters-stepped : (b : Buffer) → characters (signs_stepped b) ≡ signs_first (characters b)
characters-stepped b =
    let long : length b.items ≡ length (characters b) = sym (length-map b.items character) in
    characters-stepped_to (length b.items) b ∙ ap (λ n. flipped n (characters b)) long ∙ flipped-first (characters b)
