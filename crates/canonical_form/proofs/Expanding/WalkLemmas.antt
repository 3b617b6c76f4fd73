-- A walk along the chain of a character finds its supported expansion of greatest length.
use Rattle.std.proofs.Common.{◌≡◌, ℕ, ◌≤◌, Bool, true, false, if◌then◌else◌, ◌&&◌, ◌==◌, List, [], ◌∷◌, ◌++◌, reverse, take, length, Option, None, Some, IfSome, refl, sym, ◌∙◌, ap, arith, append_assoc}
use Rattle.std.proofs.lemmas.List.{take_all, take-append-le, reverse-append}
use Rattle.std.specs.List.{list_all}
use Rattle.std.specs.Option.{option_map, option_or}
use Rattle.canonical_form.specs.Chain.{FallsAlong, kept_part}
use Rattle.canonical_form.specs.Decompositions.{Decompositions}
use Rattle.canonical_form.specs.Expansion.{supported, greatest_supported}
use Rattle.canonical_form.proofs.Expanding.ExpansionLemmas.{put_after, greatest-split, greatest-end}

-- what a walk that keeps second parts in order has found: nothing, or a point with so many of them after it, the last
-- one first
abbrev pub found_parts : Option (ℕ × ℕ) → List ℕ → Option (List ℕ)
found_parts found kept_parts = option_map (λ f. f.0 ∷ reverse (take f.1 kept_parts)) found

-- more second parts don't change what was found
pub found_parts-more : (found : Option (ℕ × ℕ)) (seconds more : List ℕ) → IfSome found (λ f. f.1 ≤ length seconds)
    → found_parts found (seconds ++ more) ≡ found_parts found seconds
found_parts-more None seconds more within = refl
found_parts-more (Some found) seconds more within = rw take-append-le

-- what a walk gives in the end that has kept the second parts `seconds` and found `found` so far, if the rest of the
-- chain gives `r`
abbrev pub walked : Option (List ℕ) → List ℕ → Option (List ℕ) → Option (List ℕ)
walked found seconds r = option_or (option_map (λ ys. ys ++ reverse seconds) r) found

reverse-kept_part : (b : ℕ) → reverse (kept_part b) ≡ kept_part b
reverse-kept_part b =
    elim (b == 0) as (λ t. reverse (if t then [] else b ∷ []) ≡ (if t then [] else b ∷ [])) [ true ↦ refl | false ↦ refl ]

pub reverse-more : (s : List ℕ) (b : ℕ) → reverse (s ++ kept_part b) ≡ kept_part b ++ reverse s
reverse-more s b = reverse-append s (kept_part b) ∙ ap (λ xs. xs ++ reverse s) (reverse-kept_part b)

-- what a walk has found once it is past a
abbrev found_at : Bool → ℕ → List ℕ → Option (List ℕ) → Option (List ℕ)
found_at has_a a seconds found = if has_a then Some (a ∷ reverse seconds) else found

walked-none : (t : Bool) (found : Option (List ℕ)) (seconds : List ℕ) (a b : ℕ)
    → walked found seconds (put_after true b (if t && true then Some (a ∷ []) else None))
    ≡ found_at t a (seconds ++ kept_part b) found
walked-none true found seconds a b = ap (λ xs. Some (a ∷ xs)) (sym (reverse-more seconds b))
walked-none false found seconds a b = refl

module _ (split : ℕ → Option (ℕ × ℕ)) (has_glyph : ℕ → Bool) where
  walked-step : (found : Option (List ℕ)) (seconds : List ℕ) (a b : ℕ) (r : Option (List ℕ))
      → walked found seconds (put_after true b (option_or r (supported split has_glyph 0 a)))
      ≡ walked (found_at (has_glyph a) a (seconds ++ kept_part b) found) (seconds ++ kept_part b) r
  walked-step found seconds a b None = walked-none (has_glyph a) found seconds a b
  walked-step found seconds a b (Some ys) =
      ap Some (append_assoc ys (kept_part b) (reverse seconds) ∙ ap (λ xs. ys ++ xs) (sym (reverse-more seconds b)))

  -- if the chain ends, what was found is the expansion
  pub walk_ended : (start found : Option (List ℕ)) (seconds : List ℕ) (n c : ℕ)
      → start ≡ walked found seconds (greatest_supported split has_glyph n c) → None ≡ split c → found ≡ start
  walk_ended start found seconds n c inv e = sym (inv ∙ ap (walked found seconds) (greatest-end split has_glyph n c (sym e)))

module _ (D : Decompositions) (has_glyph : ℕ → Bool) (falling : FallsAlong D.split D.height) where
  -- a walk goes on past a split whose second part has a glyph
  walked-split : (found : Option (List ℕ)) (seconds : List ℕ) (c a b : ℕ) → D.split c ≡ Some (a, b)
      → list_all has_glyph (kept_part b) ≡ true →
      walked found seconds (greatest_supported D.split has_glyph (D.height c) c)
      ≡ walked (found_at (has_glyph a) a (seconds ++ kept_part b) found) (seconds ++ kept_part b)
      (greatest_supported D.split has_glyph (D.height a) a)
  walked-split found seconds c a b e h =
      ap (walked found seconds) (greatest-split D has_glyph falling c a b e
      ∙ ap (λ t. put_after t b (option_or (greatest_supported D.split has_glyph (D.height a) a)
      (supported D.split has_glyph 0 a))) h)
      ∙ walked-step D.split has_glyph found seconds a b (greatest_supported D.split has_glyph (D.height a) a)

  -- a walk that keeps the second part b and finds a glyph of a
  pub walk_found : (start found : Option (List ℕ)) (seconds after : List ℕ) (n c a b : ℕ) →
      start ≡ walked found seconds (greatest_supported D.split has_glyph (D.height c) c) → Some (a, b) ≡ D.split c
      → true ≡ list_all has_glyph (kept_part b) → after ≡ seconds ++ kept_part b → true ≡ has_glyph a → n ≡ length after →
      start ≡ walked (found_parts (Some (a, n)) after) after (greatest_supported D.split has_glyph (D.height a) a)
  walk_found start found seconds after n c a b inv e kept_b grown glyph len =
      let q : take n after ≡ after = take_all n after (omega arith) in
      rw (q, grown) (inv ∙ walked-split found seconds c a b (sym e) (sym kept_b)
      ∙ ap (λ t. walked (found_at t a (seconds ++ kept_part b) found) (seconds ++ kept_part b)
      (greatest_supported D.split has_glyph (D.height a) a)) (sym glyph))

  -- the same, if a has none
  pub walk_past : (start : Option (List ℕ)) (seconds after : List ℕ) (found : Option (ℕ × ℕ)) (c a b : ℕ) →
      start ≡ walked (found_parts found seconds) seconds (greatest_supported D.split has_glyph (D.height c) c)
      → IfSome found (λ f. f.1 ≤ length seconds) → Some (a, b) ≡ D.split c → true ≡ list_all has_glyph (kept_part b)
      → after ≡ seconds ++ kept_part b → false ≡ has_glyph a →
      start ≡ walked (found_parts found after) after (greatest_supported D.split has_glyph (D.height a) a)
  walk_past start seconds after found c a b inv within e kept_b grown glyph =
      rw (grown, found_parts-more found seconds (kept_part b) within)
      (inv ∙ walked-split (found_parts found seconds) seconds c a b (sym e) (sym kept_b)
      ∙ ap (λ t. walked (found_at t a (seconds ++ kept_part b) (found_parts found seconds)) (seconds ++ kept_part b)
      (greatest_supported D.split has_glyph (D.height a) a)) (sym glyph))

  -- before a split whose second part has no glyph, what was found is the expansion
  pub walk_broken : (start found : Option (List ℕ)) (seconds : List ℕ) (c a b : ℕ) →
      start ≡ walked found seconds (greatest_supported D.split has_glyph (D.height c) c) → Some (a, b) ≡ D.split c
      → false ≡ list_all has_glyph (kept_part b) → found ≡ start
  walk_broken start found seconds c a b inv e kept_b =
      sym (inv ∙ ap (walked found seconds) (greatest-split D has_glyph falling c a b (sym e)
      ∙ ap (λ t. put_after t b (option_or (greatest_supported D.split has_glyph (D.height a) a)
      (supported D.split has_glyph 0 a))) (sym kept_b)))
