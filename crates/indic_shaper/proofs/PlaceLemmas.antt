-- Walks that are made from the end of a list.
use Rattle.std.proofs.Common.{◌≡◌, ℕ, zero, suc, ◌<◌, List, [], ◌∷◌, ◌++◌, length, take, drop, set, refl, ap, sym}
use Rattle.std.proofs.Common.{◌∙◌, arith, drop-cons}
use Rattle.std.proofs.lemmas.List.{take_all, drop_all, append-nil}
use Rattle.shape_items.specs.Items.{Item, new_item}
use Rattle.syllabic.specs.Walking.{item_at}
use Rattle.indic_shaper.specs.Places.{walked}

-- a list in front of a rest, up to a place
set_back : (old rest : List Item) (k : ℕ) (v : Item) → k < length old → set (take (suc k) old ++ rest) k v ≡ take k old ++ (v ∷ rest)
set_back [] rest k v lt = absurd (omega (arith, lt))
set_back (x ∷ xs) rest zero v lt = refl
set_back (x ∷ xs) rest (suc k) v lt = ap (λ (ys : List Item). x ∷ ys) (set_back xs rest k v (omega (arith, lt)))

pub item_back : (old rest : List Item) (k : ℕ) → k < length old → item_at (take (suc k) old ++ rest) k ≡ item_at old k
item_back [] rest k lt = absurd (omega (arith, lt))
item_back (x ∷ xs) rest zero lt = refl
item_back (x ∷ xs) rest (suc k) lt = item_back xs rest k (omega (arith, lt))

-- one more item put there
pub set_walked : {S : Type 0} (here : S → Item → List Item → Item) (next : S → Item → List Item → S) (old : List Item) (k : ℕ) (s : S)
    (v : Item) (now : List Item) → k < length old
    → now ≡ take (suc k) old ++ walked here next (next s (item_at old k) (drop (suc k) old)) (drop (suc k) old)
    → v ≡ here s (item_at old k) (drop (suc k) old)
    → set now k v ≡ take k old ++ walked here next s (drop k old)
set_walked here next old k s v now lt is made =
    let rest = walked here next (next s (item_at old k) (drop (suc k) old)) (drop (suc k) old) in
    ap (λ (xs : List Item). set xs k v) is ∙ set_back old rest k v lt
    ∙ ap (λ (x : Item). take k old ++ (x ∷ rest)) made
    ∙ ap (λ (xs : List Item). take k old ++ walked here next s xs) (sym (drop-cons old k (new_item 0 0) lt))

-- none yet
pub walked_none : {S : Type 0} (here : S → Item → List Item → Item) (next : S → Item → List Item → S) (old : List Item) (s : S)
    → old ≡ take (length old) old ++ walked here next s (drop (length old) old)
walked_none here next old s = rw (take_all (length old) old (omega arith), drop_all (length old) old (omega arith), append-nil old) refl
