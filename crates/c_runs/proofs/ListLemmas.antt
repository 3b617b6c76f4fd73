-- Lists that are written from some place on.
use Rattle.std.proofs.Common.{◌≡◌, ◌∙◌, ℕ, suc, ◌+◌, ◌<◌, ◌≤◌, List, [], ◌∷◌, ◌++◌, length, map, take, drop, set, get_or, refl, ap, sym, arith, append_assoc, drop-cons, length-append}
use Rattle.std.proofs.Math.Seq.{set-append_seam}
use Rattle.std.proofs.lemmas.List.{take_more, take_all, map-append, length-map, length-take-le}

module _ {P G : Type 0} (f : P → G) (old : List G) (pairs : List P) (start k : ℕ) where
  front : List G
  front = take start old ++ map f (take k pairs)

  length-front : start ≤ length old → k ≤ length pairs → length front ≡ start + k
  unfolding front
  length-front a b = rw (length-append, length-map, length-take-le start old a, length-take-le k pairs b) refl

  set-front : (x y : G) (rest : List G) → start ≤ length old → k ≤ length pairs
      → set (front ++ x ∷ rest) (start + k) y ≡ front ++ y ∷ rest
  set-front x y rest a b =
      ap (λ (n : ℕ). set (front ++ x ∷ rest) n y) (sym (length-front a b)) ∙ set-append_seam front x rest y

  -- one more pair
  pub written_more : (room : List G) (p d : P) → room ≡ take start old ++ (map f (take k pairs) ++ drop (start + k) old)
      → k < length pairs → start + length pairs ≤ length old → p ≡ get_or pairs k d
      → set room (start + k) (f p) ≡ take start old ++ (map f (take (k + 1) pairs) ++ drop (start + (k + 1)) old)
  unfolding front
  written_more room p d is below fits at =
      let lt : start + k < length old = omega arith in
      let fits_front : start ≤ length old = omega arith in
      let x = get_or old (start + k) (f p) in
      let rest = drop (suc (start + k)) old in
      let split : drop (start + k) old ≡ x ∷ rest = drop-cons old (start + k) (f p) lt in
      let whole : room ≡ front ++ x ∷ rest =
      is ∙ ap (λ (r : List G). take start old ++ (map f (take k pairs) ++ r)) split
      ∙ sym (append_assoc (take start old) (map f (take k pairs)) (x ∷ rest)) in
      let more : map f (take (k + 1) pairs) ≡ map f (take k pairs) ++ f p ∷ [] =
      ap (map f) (take_more pairs k d below) ∙ map-append f (take k pairs) (get_or pairs k d ∷ [])
      ∙ ap (λ (q : P). map f (take k pairs) ++ f q ∷ []) (sym at) in
      let after : suc (start + k) ≡ start + (k + 1) = omega arith in
      ap (λ (r : List G). set r (start + k) (f p)) whole ∙ set-front x (f p) rest fits_front (omega arith)
      ∙ append_assoc (take start old) (map f (take k pairs)) (f p ∷ rest)
      ∙ ap (λ (r : List G). take start old ++ r) (sym (append_assoc (map f (take k pairs)) (f p ∷ []) rest))
      ∙ ap (λ (r : List G). take start old ++ (r ++ rest)) (sym more)
      ∙ ap (λ (n : ℕ). take start old ++ (map f (take (k + 1) pairs) ++ drop n old)) after

-- all pairs
pub written_all : {P G : Type 0} (f : P → G) (old : List G) (pairs : List P) (start k n : ℕ) (room : List G)
    → room ≡ take start old ++ (map f (take k pairs) ++ drop (start + k) old) → k ≡ n → length pairs ≤ k
    → room ≡ take start old ++ (map f pairs ++ drop (start + n) old)
written_all f old pairs start k n room is end all =
    is ∙ ap (λ (ps : List _). take start old ++ (map f ps ++ drop (start + k) old)) (take_all k pairs all)
    ∙ ap (λ (m : ℕ). take start old ++ (map f pairs ++ drop (start + m) old)) end
