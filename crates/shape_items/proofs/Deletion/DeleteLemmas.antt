-- Lemmas on deletion in place.
use Rattle.std.proofs.Common.{◌≡◌, ℕ, ◌+◌, ◌-◌, ◌<◌, ◌≤◌, Bool, true, false, cond, nat_lt, List, [], ◌∷◌, ◌++◌, length, get_or, take, drop, set, map, refl, ap, sym, ◌∙◌, arith, zero, suc, inl, inr, slice_range, slice_index, remove, add-one}
use Rattle.std.proofs.lemmas.List.{drop_at, take_at, drop_more, take_more_set, drop-set-lt, append_assoc, length-take-le, drop-drop, get_or_append_left, length-map, map-append, take-append-le, take_all, drop_all, append-nil}
use Rattle.std.proofs.lemmas.Slice.{between_is}
use Rattle.std.specs.List.{suffix_len}
use Rattle.shape_common.specs.declared.positions.GlyphPosition.{GlyphPosition}
use Rattle.shape_common.specs.declared.flags.ScratchFlags.{ScratchFlags}
use Rattle.shape_items.specs.Buffer.{Buffer}
use Rattle.shape_items.specs.Items.{Item, has_cluster}
use Rattle.shape_items.specs.Clusters.{clusters, map_range}
use Rattle.shape_items.specs.BufferClusters.{merge_clusters}
use Rattle.std.proofs.lemmas.Bool.{cases_Bool}
use Rattle.std.proofs.lemmas.Bool.Decides.{nat_tests}
use Rattle.shape_items.specs.Delete.{begins_in, give_to_kept, hand_on, hand_over, lose, visit, delete_from}

-- the list that a vector stands for while its first k items are kept, those from i on are left to visit, and what lies
-- between is gone
abbrev pub standing : {X : Type 0} → ℕ → ℕ → List X → List X
standing k i xs = take k xs ++ drop i xs

take-standing : {X : Type 0} (k i : ℕ) (xs : List X) → k ≤ length xs → take k (standing k i xs) ≡ take k xs
take-standing k i xs le = take_at (take k xs) (drop i xs) k (length-take-le k xs le)

drop-standing : {X : Type 0} (k i : ℕ) (xs : List X) → k ≤ length xs → drop k (standing k i xs) ≡ drop i xs
drop-standing k i xs le = drop_at (take k xs) (drop i xs) k (length-take-le k xs le)

-- a glyph that stays moves to the end of those kept
pub standing_kept : {X : Type 0} (k i : ℕ) (xs : List X) (d : X) → k ≤ i → i < length xs
    → standing (k + 1) (i + 1) (set xs k (get_or xs i d)) ≡ standing k i xs
standing_kept k i xs d le lt =
    rw (take_more_set xs k (get_or xs i d) (omega arith), drop-set-lt (i + 1) xs k (get_or xs i d) (omega arith), drop_more xs i d lt)
    (append_assoc (take k xs) (get_or xs i d ∷ []) (drop (i + 1) xs))

-- one that goes
pub standing_lost : {X : Type 0} (k i : ℕ) (xs : List X) → k ≤ i → i < length xs
    → remove (standing k i xs) k ≡ standing k (i + 1) xs
standing_lost k i xs le lt =
    let fits : k ≤ length xs = omega arith in
    let rest : drop (suc k) (standing k i xs) ≡ drop (i + 1) xs =
    rw (← add-one k, ← drop-drop 1 k (standing k i xs), drop-standing k i xs fits, drop-drop 1 i xs) refl in
    rw (take-standing k i xs fits, rest) refl

-- a visit
pub visit_kept : (p : Item → Bool) (k : ℕ) (next : ℕ → Buffer → Buffer) (b : Buffer) (x : Item) (rest : List Item) → p x ≡ false
    → visit p k next b (x ∷ rest) ≡ next (k + 1) b
visit_kept p k next b x rest e = rw e refl

pub visit_lost : (p : Item → Bool) (k : ℕ) (next : ℕ → Buffer → Buffer) (b : Buffer) (x : Item) (rest : List Item) → p x ≡ true
    → visit p k next b (x ∷ rest) ≡ next k (lose k (hand_on k x rest b))
visit_lost p k next b x rest e = rw e refl

-- the buffer with these items, positions and scratch flags
abbrev pub with_glyphs : List Item → List GlyphPosition → ScratchFlags → Buffer → Buffer
with_glyphs xs ps fs b = record b { items = xs; positions = ps; scratch_flags = fs }

pub delete_from-suc : (p : Item → Bool) (n k : ℕ) (b : Buffer) → delete_from p (suc n) k b ≡ visit p k (delete_from p n) b (drop k b.items)
unfolding delete_from
delete_from-suc p n k b = refl

pub delete_from-zero : (p : Item → Bool) (k : ℕ) (b : Buffer) → delete_from p 0 k b ≡ b
unfolding delete_from
delete_from-zero p k b = refl

visited : (p : Item → Bool) (m n k : ℕ) (b : Buffer) (x : Item) (rest : List Item) → m ≡ n + 1 → drop k b.items ≡ x ∷ rest
    → delete_from p m k b ≡ visit p k (delete_from p n) b (x ∷ rest)
visited p m n k b x rest em next =
    ap (λ z. delete_from p z k b) (em ∙ add-one n) ∙ delete_from-suc p n k b ∙ ap (visit p k (delete_from p n) b) next

-- the glyph at place k stays
pub step_kept : (p : Item → Bool) (m n k : ℕ) (b : Buffer) (x : Item) (rest : List Item) → m ≡ n + 1 → drop k b.items ≡ x ∷ rest
    → p x ≡ false
    → delete_from p m k b ≡ delete_from p n (k + 1) b
step_kept p m n k b x rest em next picked =
    visited p m n k b x rest em next ∙ visit_kept p k (delete_from p n) b x rest picked

-- the glyph at place k goes
pub step_lost : (p : Item → Bool) (m n k : ℕ) (b c : Buffer) (x : Item) (rest : List Item) → m ≡ n + 1 → drop k b.items ≡ x ∷ rest
    → p x ≡ true
    → c ≡ lose k (hand_on k x rest b)
    → delete_from p m k b ≡ delete_from p n k c
step_lost p m n k b c x rest em next picked handed =
    visited p m n k b x rest em next ∙ visit_lost p k (delete_from p n) b x rest picked ∙ ap (delete_from p n k) (sym handed)

same_glyphs : (xs xs' : List Item) (ps ps' : List GlyphPosition) (fs : ScratchFlags) (b : Buffer) → xs ≡ xs' → ps ≡ ps'
    → with_glyphs xs ps fs b ≡ with_glyphs xs' ps' fs b
same_glyphs xs xs' ps ps' fs b items positions =
    ap (λ ys. with_glyphs ys ps fs b) items ∙ ap (λ qs. with_glyphs xs' qs fs b) positions

-- nothing is left to visit
pub finished : (p : Item → Bool) (m k : ℕ) (xs xs' : List Item) (ps ps' : List GlyphPosition) (fs : ScratchFlags) (b : Buffer) → m ≡ 0
    → xs ≡ xs' → ps ≡ ps'
    → delete_from p m k (with_glyphs xs ps fs b) ≡ with_glyphs xs' ps' fs b
finished p m k xs xs' ps ps' fs b none items positions =
    ap (λ z. delete_from p z k (with_glyphs xs ps fs b)) none ∙ delete_from-zero p k (with_glyphs xs ps fs b)
    ∙ same_glyphs _ _ _ _ fs b items positions

map_range-append : (f : Item → Item) (a k : ℕ) (xs ys : List Item) → a ≤ k → k ≡ length xs
    → map_range f a k (xs ++ ys) ≡ map_range f a k xs ++ ys
map_range-append f a k xs ys le e =
    let head : take a (xs ++ ys) ≡ take a xs = take-append-le a xs ys (omega arith) in
    let whole : take k (xs ++ ys) ≡ xs = take_at xs ys k (sym e) in
    let part : slice_range (xs ++ ys) a k ≡ drop a xs = between_is (xs ++ ys) a k ∙ ap (drop a) whole in
    let part' : slice_range xs a k ≡ drop a xs = between_is xs a k ∙ ap (drop a) (take_all k xs (omega arith)) in
    let tail : drop k (xs ++ ys) ≡ ys = drop_at xs ys k (sym e) in
    let none : drop k xs ≡ [] = drop_all k xs (omega arith) in
    let left : map_range f a k (xs ++ ys) ≡ take a xs ++ (map f (drop a xs) ++ ys) =
    ap (λ z. z ++ (map f (slice_range (xs ++ ys) a k) ++ drop k (xs ++ ys))) head
    ∙ ap (λ z. take a xs ++ (map f z ++ drop k (xs ++ ys))) part ∙ ap (λ z. take a xs ++ (map f (drop a xs) ++ z)) tail in
    let right : map_range f a k xs ≡ take a xs ++ map f (drop a xs) =
    ap (λ z. take a xs ++ (map f z ++ drop k xs)) part' ∙ ap (λ z. take a xs ++ (map f (drop a xs) ++ z)) none
    ∙ ap (λ z. take a xs ++ z) (append-nil (map f (drop a xs))) in
    left ∙ sym (append_assoc (take a xs) (map f (drop a xs)) ys) ∙ ap (λ z. z ++ ys) (sym right)

cond-append : (b : Bool) (f : Item → Item) (a k : ℕ) (xs ys : List Item) → a ≤ k → k ≡ length xs
    → cond b (map_range f a k (xs ++ ys)) (xs ++ ys) ≡ cond b (map_range f a k xs) xs ++ ys
cond-append true f a k xs ys le e = map_range-append f a k xs ys le e
cond-append false f a k xs ys le e = refl

-- what the kept items take, if others come after them
pub give-append : (k : ℕ) (x : Item) (xs ys : List Item) → 0 < k → k ≡ length xs → give_to_kept k x (xs ++ ys) ≡ give_to_kept k x xs ++ ys
give-append k x xs ys some e =
    let n : length (clusters xs) ≡ length xs = length-map xs (λ y. y.cluster) in
    let last : slice_index (clusters (xs ++ ys)) (k - 1) ≡ slice_index (clusters xs) (k - 1) =
    ap (λ z. get_or z (k - 1) 0) (map-append (λ y. y.cluster) xs ys)
    ∙ get_or_append_left (clusters xs) (clusters ys) 0 (k - 1) (omega arith) in
    let whole : take k (xs ++ ys) ≡ take k xs = take-append-le k xs ys (omega arith) in
    rw (last, whole) (cond-append (nat_lt x.cluster (slice_index (clusters xs) (k - 1))) (hand_over x)
    (k - suffix_len (has_cluster (slice_index (clusters xs) (k - 1))) (take k xs)) k xs ys (omega arith) e)

-- the four cases
pub hand_on-first : (k : ℕ) (x : Item) (rest : List Item) (b : Buffer) → begins_in x.cluster rest ≡ true → hand_on k x rest b ≡ b
hand_on-first k x rest b e = rw e refl

pub hand_on-second : (k : ℕ) (x : Item) (rest : List Item) (b : Buffer) → begins_in x.cluster rest ≡ false → 0 < k
    → hand_on k x rest b ≡ record b { items = give_to_kept k x b.items }
hand_on-second k x rest b e some = let holds : nat_lt 0 k ≡ true = grind (arith, nat_tests) in rw (e, holds) refl

pub hand_on-third : (k : ℕ) (x : Item) (rest : List Item) (b : Buffer) → begins_in x.cluster rest ≡ false → k ≡ 0 → 0 < length rest
    → hand_on k x rest b ≡ merge_clusters 0 2 b
hand_on-third k x rest b e none some =
    let fails : nat_lt 0 k ≡ false = grind (arith, nat_tests) in
    let holds : nat_lt 0 (length rest) ≡ true = grind (arith, nat_tests) in
    rw (e, fails, holds) refl

pub hand_on-fourth : (k : ℕ) (x : Item) (rest : List Item) (b : Buffer) → begins_in x.cluster rest ≡ false → k ≡ 0 → length rest ≡ 0
    → hand_on k x rest b ≡ b
hand_on-fourth k x rest b e none last =
    let fails : nat_lt 0 k ≡ false = grind (arith, nat_tests) in
    let fails' : nat_lt 0 (length rest) ≡ false = grind (arith, nat_tests) in
    rw (e, fails, fails') refl

pub hand_on-cases : (P : Buffer → Type 0) (k : ℕ) (x : Item) (rest : List Item) (b : Buffer) → P b
    → P (record b { items = give_to_kept k x b.items }) → (0 < length rest → P (merge_clusters 0 2 b)) → P (hand_on k x rest b)
hand_on-cases P k x rest b same given merged = elim (cases_Bool (begins_in x.cluster rest)) [
  | inl holds ↦ rw holds same
  | inr fails ↦ elim (cases_Bool (nat_lt 0 k)) [
    | inl some ↦ rw (fails, some) given
    | inr none ↦ elim (cases_Bool (nat_lt 0 (length rest))) [
      | inl more ↦ rw (fails, none, more) (merged (grind (arith, nat_tests)))
      | inr last ↦ rw (fails, none, last) same
    ]
  ]
]

-- ---- what deletion keeps

-- what stays when the glyph at a place goes
abbrev pub IsPreservedByLoss : (Buffer → Type 0) → Type 0
IsPreservedByLoss P = (k : ℕ) (x : Item) (rest : List Item) (b : Buffer) → drop k b.items ≡ x ∷ rest → P b → P (lose k (hand_on k x rest b))

preserved_by_visit : (P : Buffer → Type 0) → IsPreservedByLoss P → (p : Item → Bool) (k : ℕ) (next : ℕ → Buffer → Buffer) (b : Buffer)
    (xs : List Item) → drop k b.items ≡ xs → ((j : ℕ) (c : Buffer) → P c → P (next j c)) → P b → P (visit p k next b xs)
preserved_by_visit P preserves p k next b [] e later holds = holds
preserved_by_visit P preserves p k next b (x ∷ rest) e later holds = elim (cases_Bool (p x)) [
  | inl picked ↦ rw (visit_lost p k next b x rest picked) (later k (lose k (hand_on k x rest b)) (preserves k x rest b e holds))
  | inr stays ↦ rw (visit_kept p k next b x rest stays) (later (k + 1) b holds)
]

pub preserved_by_deletion : (P : Buffer → Type 0) → IsPreservedByLoss P → (p : Item → Bool) (n k : ℕ) (b : Buffer) → P b → P (delete_from p n k b)
preserved_by_deletion P preserves p zero k b holds = rw (delete_from-zero p k b) holds
preserved_by_deletion P preserves p (suc n) k b holds =
    rw (delete_from-suc p n k b)
    (preserved_by_visit P preserves p k (delete_from p n) b (drop k b.items) refl (λ j c. preserved_by_deletion P preserves p n j c) holds)

-- ---- the walk of the code

-- a vector whose first k items stand for others: the one at i is kept
pub kept_after : (p : Item → Bool) (m n k i : ℕ) (given xs xs' : List Item) (ps : List GlyphPosition) (fs : ScratchFlags) (b : Buffer)
    (x : Item) (q : GlyphPosition)
    → m ≡ n + 1 → k ≤ i → i < length xs → k ≡ length given → length ps ≡ length xs → x ≡ get_or xs i x → q ≡ get_or ps i q → p x ≡ false
    → xs' ≡ set xs k x
    → delete_from p m k (with_glyphs (given ++ drop i xs) (standing k i ps) fs b)
    ≡ delete_from p n (k + 1) (with_glyphs ((given ++ x ∷ []) ++ drop (i + 1) xs') (standing (k + 1) (i + 1) (set ps k q)) fs b)
kept_after p m n k i given xs xs' ps fs b x q em le lt size same ex eq picked exs =
    let lt' : i < length ps = omega arith in
    let next' : drop i xs ≡ x ∷ drop (i + 1) xs = drop_more xs i x lt ∙ ap (λ y. y ∷ drop (i + 1) xs) (sym ex) in
    let next : drop k (given ++ drop i xs) ≡ x ∷ drop (i + 1) xs = drop_at given (drop i xs) k (sym size) ∙ next' in
    let rest : drop (i + 1) xs' ≡ drop (i + 1) xs = ap (drop (i + 1)) exs ∙ drop-set-lt (i + 1) xs k x (omega arith) in
    let items : given ++ drop i xs ≡ (given ++ x ∷ []) ++ drop (i + 1) xs' =
    ap (λ z. given ++ z) next' ∙ sym (append_assoc given (x ∷ []) (drop (i + 1) xs)) ∙ ap (λ z. (given ++ x ∷ []) ++ z) (sym rest) in
    let positions : standing k i ps ≡ standing (k + 1) (i + 1) (set ps k q) =
    sym (ap (λ y. standing (k + 1) (i + 1) (set ps k y)) eq ∙ standing_kept k i ps q le lt') in
    step_kept p m n k (with_glyphs (given ++ drop i xs) (standing k i ps) fs b) x (drop (i + 1) xs) em next picked
    ∙ ap (delete_from p n (k + 1)) (same_glyphs _ _ _ _ fs b items positions)

-- and the one at i goes, where `left` is what the kept ones are then
pub lost_after : (p : Item → Bool) (m n k i : ℕ) (given left xs ys : List Item) (ps : List GlyphPosition) (fs fs' : ScratchFlags)
    (b : Buffer) (x : Item)
    → m ≡ n + 1 → k ≤ i → i < length xs → k ≡ length given → k ≡ length left → length ps ≡ length xs → length ys ≡ length xs
    → x ≡ get_or xs i x → p x ≡ true
    → with_glyphs (left ++ drop i ys) (standing k i ps) fs' b
    ≡ hand_on k x (drop (i + 1) xs) (with_glyphs (given ++ drop i xs) (standing k i ps) fs b)
    → delete_from p m k (with_glyphs (given ++ drop i xs) (standing k i ps) fs b)
    ≡ delete_from p n k (with_glyphs (left ++ drop (i + 1) ys) (standing k (i + 1) ps) fs' b)
lost_after p m n k i given left xs ys ps fs fs' b x em le lt size size' same long ex picked handed =
    let lt_ps : i < length ps = omega arith in
    let lt_ys : i < length ys = omega arith in
    let next : drop k (given ++ drop i xs) ≡ x ∷ drop (i + 1) xs =
    drop_at given (drop i xs) k (sym size) ∙ drop_more xs i x lt ∙ ap (λ y. y ∷ drop (i + 1) xs) (sym ex) in
    let head : take k (left ++ drop i ys) ≡ left = take_at left (drop i ys) k (sym size') in
    let tail : drop (suc k) (left ++ drop i ys) ≡ drop (i + 1) ys =
    ap (λ j. drop j (left ++ drop i ys)) (sym (add-one k)) ∙ sym (drop-drop 1 k (left ++ drop i ys))
    ∙ ap (drop 1) (drop_at left (drop i ys) k (sym size')) ∙ drop-drop 1 i ys in
    let gone : remove (left ++ drop i ys) k ≡ left ++ drop (i + 1) ys = ap (λ z. z ++ drop (suc k) (left ++ drop i ys)) head
    ∙ ap (λ z. left ++ z) tail in
    step_lost p m n k (with_glyphs (given ++ drop i xs) (standing k i ps) fs b)
    (with_glyphs (left ++ drop (i + 1) ys) (standing k (i + 1) ps) fs' b) x (drop (i + 1) xs) em next picked
    (sym (same_glyphs _ _ _ _ fs' b gone (standing_lost k i ps le lt_ps)) ∙ ap (lose k) handed)
