-- Lists that are drawn in order from others, piece by piece.
use Rattle.std.proofs.Common.{ℕ, List, [], ◌∷◌, ◌++◌, append_assoc, append-nil}
use Rattle.std.specs.List.{flat_map}
use Rattle.std.proofs.lemmas.List.{map-append}
use Rattle.shape_items.specs.Clusters.{clusters}
use Rattle.shape_items.specs.Items.{Item}
use Rattle.shape_items.proofs.Order.DrawsInOrder.{DrawsInOrder, DrawsInOrder-same, DrawsInOrder-after, DrawsInOrder-again}

-- what is drawn in order from a list still is once the first list goes before that one, and the second before what is
-- drawn
abbrev pub DrawsBefore : List ℕ → List ℕ → Type 0
DrawsBefore xs ys = (from drawn : List ℕ) → DrawsInOrder from drawn → DrawsInOrder (xs ++ from) (ys ++ drawn)

pub DrawsBefore-same : (xs : List ℕ) → DrawsBefore xs xs
DrawsBefore-same [] from drawn h = h
DrawsBefore-same (x ∷ xs) from drawn h =
    DrawsInOrder-again x (xs ++ from) (xs ++ drawn) (DrawsInOrder-after x (xs ++ from) (xs ++ drawn) (DrawsBefore-same xs from drawn h))

pub DrawsBefore-append : (xs ys xs' ys' : List ℕ) → DrawsBefore xs xs' → DrawsBefore ys ys' → DrawsBefore (xs ++ ys) (xs' ++ ys')
DrawsBefore-append xs ys xs' ys' first later = λ from drawn h.
    rw (append_assoc xs ys from, append_assoc xs' ys' drawn) (first (ys ++ from) (ys' ++ drawn) (later from drawn h))

pub draws_whole : (xs ys : List ℕ) → DrawsBefore xs ys → DrawsInOrder xs ys
draws_whole xs ys h = rw (append-nil xs, append-nil ys) at (h [] [] (DrawsInOrder-same []))

-- without one of them
pub draws_without : (xs : List ℕ) (x : ℕ) (ys : List ℕ) → DrawsInOrder (xs ++ x ∷ ys) (xs ++ ys)
draws_without xs x ys = DrawsBefore-same xs (x ∷ ys) ys (DrawsInOrder-after x ys ys (DrawsInOrder-same ys))

-- if each becomes a list whose clusters are drawn from its own, so does the whole
pub draws_pieces : {A : Type 0} (become : A → List Item) (own : A → List ℕ) → ((x : A) → DrawsBefore (own x) (clusters (become x)))
    → (xs : List A) → DrawsBefore (flat_map own xs) (clusters (flat_map become xs))
draws_pieces become own each [] = DrawsBefore-same []
draws_pieces become own each (x ∷ xs) =
    rw (map-append (λ (item : Item). item.cluster) (become x) (flat_map become xs))
    (DrawsBefore-append (own x) (flat_map own xs) (clusters (become x)) (clusters (flat_map become xs)) (each x)
    (draws_pieces become own each xs))
