-- The walk along a chain that stops at the first point it finds, if the shortest is asked for.
use Rattle.std.proofs.Common.{◌≡◌, ℕ, ◌≤◌, Bool, true, false, if◌then◌else◌, ◌&&◌, List, [], ◌∷◌, ◌++◌, reverse, length, Option, None, Some, IfSome, refl, sym, ◌∙◌, ap, arith, append_assoc}
use Rattle.std.proofs.lemmas.Bool.{both_ways}
use Rattle.std.proofs.lemmas.List.{take_all}
use Rattle.std.specs.List.{list_all}
use Rattle.std.specs.Option.{option_or}
use Rattle.canonical_form.specs.Chain.{FallsAlong, kept_part}
use Rattle.canonical_form.specs.Decompositions.{Decompositions}
use Rattle.canonical_form.specs.Expansion.{supported, least_supported, greatest_supported}
use Rattle.canonical_form.proofs.Expanding.ExpansionLemmas.{put_after, least-split, least-end}
use Rattle.canonical_form.proofs.Expanding.WalkLemmas.{found_parts, walked, reverse-more, found_parts-more, walk_found, walk_past, walk_ended, walk_broken}

-- to put b after what the rest gives is to keep it with the second parts
walked-pass : (found : Option (List ℕ)) (seconds : List ℕ) (b : ℕ) (r : Option (List ℕ))
    → walked found seconds (put_after true b r) ≡ walked found (seconds ++ kept_part b) r
walked-pass found seconds b None = refl
walked-pass found seconds b (Some ys) =
    ap Some (append_assoc ys (kept_part b) (reverse seconds) ∙ ap (λ xs. ys ++ xs) (sym (reverse-more seconds b)))

module _ (split : ℕ → Option (ℕ × ℕ)) (has_glyph : ℕ → Bool) where
  -- what a walk looks for: the least if the shortest is asked for, else the greatest
  abbrev pub sought : Bool → ℕ → ℕ → Option (List ℕ)
  sought true n c = least_supported split has_glyph n c
  sought false n c = greatest_supported split has_glyph n c

  -- if the chain ends, what was found is the expansion
  pub sought_ended : (short : Bool) (start found : Option (List ℕ)) (seconds : List ℕ) (n c : ℕ)
      → start ≡ walked found seconds (sought short n c) → None ≡ split c → found ≡ start
  sought_ended false start found seconds n c inv e = walk_ended split has_glyph start found seconds n c inv e
  sought_ended true start found seconds n c inv e = sym (inv ∙ ap (walked found seconds) (least-end split has_glyph n c (sym e)))

module _ (D : Decompositions) (has_glyph : ℕ → Bool) (falling : FallsAlong D.split D.height) where
  least-at : (c a b : ℕ) (t u : Bool) → D.split c ≡ Some (a, b) → list_all has_glyph (kept_part b) ≡ t → has_glyph a ≡ u
      → least_supported D.split has_glyph (D.height c) c
      ≡ put_after t b (option_or (if u && true then Some (a ∷ []) else None) (least_supported D.split has_glyph (D.height a) a))
  least-at c a b t u e kept_b glyph =
      least-split D has_glyph falling c a b e
      ∙ ap (λ t. put_after t b (option_or (supported D.split has_glyph 0 a)
      (least_supported D.split has_glyph (D.height a) a))) kept_b
      ∙ ap (λ u. put_after t b (option_or (if u && true then Some (a ∷ []) else None)
      (least_supported D.split has_glyph (D.height a) a))) glyph

  -- the shortest is found at the first point that has a glyph
  pub sought_first : (short : Bool) (start found : Option (List ℕ)) (seconds after : List ℕ) (n c a b : ℕ) → short ≡ true →
      start ≡ walked found seconds (sought D.split has_glyph short (D.height c) c) → Some (a, b) ≡ D.split c
      → true ≡ list_all has_glyph (kept_part b) → after ≡ seconds ++ kept_part b → true ≡ has_glyph a → n ≡ length after →
      found_parts (Some (a, n)) after ≡ start
  sought_first false start found seconds after n c a b clash inv e kept_b grown glyph len = absurd (both_ways _ refl clash)
  sought_first true start found seconds after n c a b asked inv e kept_b grown glyph len =
      ap (λ l. Some (a ∷ reverse l)) (take_all n after (omega arith) ∙ grown)
      ∙ ap (λ l. Some (a ∷ l)) (reverse-more seconds b)
      ∙ sym (inv ∙ ap (walked found seconds) (least-at c a b true true (sym e) (sym kept_b) (sym glyph)))

  -- the greatest is looked for on past it
  pub sought_found : (short : Bool) (start found : Option (List ℕ)) (seconds after : List ℕ) (n c a b : ℕ) → short ≡ false →
      start ≡ walked found seconds (sought D.split has_glyph short (D.height c) c) → Some (a, b) ≡ D.split c
      → true ≡ list_all has_glyph (kept_part b) → after ≡ seconds ++ kept_part b → true ≡ has_glyph a → n ≡ length after →
      start ≡ walked (found_parts (Some (a, n)) after) after (sought D.split has_glyph short (D.height a) a)
  sought_found true start found seconds after n c a b clash inv e kept_b grown glyph len = absurd (both_ways _ clash refl)
  sought_found false start found seconds after n c a b asked inv e kept_b grown glyph len =
      walk_found D has_glyph falling start found seconds after n c a b inv e kept_b grown glyph len

  -- both go on past a point that has none
  pub sought_past : (short : Bool) (start : Option (List ℕ)) (seconds after : List ℕ) (found : Option (ℕ × ℕ)) (c a b : ℕ) →
      start ≡ walked (found_parts found seconds) seconds (sought D.split has_glyph short (D.height c) c)
      → IfSome found (λ f. f.1 ≤ length seconds) → Some (a, b) ≡ D.split c → true ≡ list_all has_glyph (kept_part b)
      → after ≡ seconds ++ kept_part b → false ≡ has_glyph a →
      start ≡ walked (found_parts found after) after (sought D.split has_glyph short (D.height a) a)
  sought_past false start seconds after found c a b inv within e kept_b grown glyph =
      walk_past D has_glyph falling start seconds after found c a b inv within e kept_b grown glyph
  sought_past true start seconds after found c a b inv within e kept_b grown glyph =
      rw (grown, found_parts-more found seconds (kept_part b) within)
      (inv ∙ ap (walked (found_parts found seconds) seconds) (least-at c a b true false (sym e) (sym kept_b) (sym glyph))
      ∙ walked-pass (found_parts found seconds) seconds b (least_supported D.split has_glyph (D.height a) a))

  -- before a split whose second part has no glyph, what was found is the expansion
  pub sought_broken : (short : Bool) (start found : Option (List ℕ)) (seconds : List ℕ) (c a b : ℕ) →
      start ≡ walked found seconds (sought D.split has_glyph short (D.height c) c) → Some (a, b) ≡ D.split c
      → false ≡ list_all has_glyph (kept_part b) → found ≡ start
  sought_broken false start found seconds c a b inv e kept_b =
      walk_broken D has_glyph falling start found seconds c a b inv e kept_b
  sought_broken true start found seconds c a b inv e kept_b =
      sym (inv ∙ ap (walked found seconds) (least-at c a b false (has_glyph a) (sym e) (sym kept_b) refl))
