-- The expansions of a character from those of the first part of its split.
use Rattle.std.proofs.Common.{◌≡◌, ℕ, zero, suc, ◌+◌, ◌-◌, ◌<◌, Bool, true, false, ◌&&◌, if◌then◌else◌, List, [], ◌∷◌, ◌++◌, Option, None, Some, refl, sym, ◌∙◌, ap, ap₂, arith, append_assoc, append-nil}
use Rattle.std.proofs.lemmas.List.Folds.{list_all-append}
use Rattle.std.specs.List.{list_all}
use Rattle.std.specs.Option.{option_map, option_map_or, option_and_then, option_or}
use Rattle.canonical_form.proofs.Lists.OptionLemmas.{option_or-none, option_or-assoc}
use Rattle.canonical_form.specs.Chain.{FallsAlong, kept_part, chain_point, second_part}
use Rattle.canonical_form.specs.Decompositions.{Decompositions}
use Rattle.canonical_form.specs.Expansion.{seconds, expansion, is_supported, supported, least_supported, greatest_supported}

module _ (split : ℕ → Option (ℕ × ℕ)) where
  -- the first part of a point
  abbrev next_point : ℕ → Option ℕ
  next_point point = option_map (λ parts. parts.0) (split point)

  pub chain_point-suc : (k c a b : ℕ) → split c ≡ Some (a, b) → chain_point split (suc k) c ≡ chain_point split k a
  chain_point-suc zero c a b e = ap (option_map (λ parts. parts.0)) e
  chain_point-suc (suc k) c a b e = ap (option_and_then next_point) (chain_point-suc k c a b e)

  pub chain_point-end : (k c : ℕ) → split c ≡ None → chain_point split (suc k) c ≡ None
  chain_point-end zero c e = ap (option_map (λ parts. parts.0)) e
  chain_point-end (suc k) c e = ap (option_and_then next_point) (chain_point-end k c e)

  pub seconds-suc : (k c a b : ℕ) → split c ≡ Some (a, b) → seconds split (suc k) c ≡ seconds split k a ++ kept_part b
  seconds-suc zero c a b e =
      ap (λ o. option_map_or kept_part (option_map (λ parts. parts.1) o) [] ++ []) e ∙ append-nil (kept_part b)
  seconds-suc (suc k) c a b e =
      ap₂ (λ point parts. option_map_or kept_part
      (option_and_then (λ p. option_map (λ parts. parts.1) (split p)) point) [] ++ parts) (chain_point-suc k c a b e)
      (seconds-suc k c a b e)
      ∙ sym (append_assoc (option_map_or kept_part (second_part split (suc k) a) []) (seconds split k a) (kept_part b))

  extended : (o : Option ℕ) (parts more : List ℕ)
      → option_map (λ point. point ∷ (parts ++ more)) o ≡ option_map (λ xs. xs ++ more) (option_map (λ point. point ∷ parts) o)
  extended None parts more = refl
  extended (Some point) parts more = refl

  -- an expansion of what splits into a and b is one of a, then b
  pub expansion-suc : (k c a b : ℕ) → split c ≡ Some (a, b)
      → expansion split (suc k) c ≡ option_map (λ xs. xs ++ kept_part b) (expansion split k a)
  expansion-suc k c a b e =
      ap₂ (λ parts o. option_map (λ point. point ∷ parts) o) (seconds-suc k c a b e) (chain_point-suc k c a b e)
      ∙ extended (chain_point split k a) (seconds split k a) (kept_part b)

  -- what doesn't split has none
  pub expansion-end : (k c : ℕ) → split c ≡ None → expansion split (suc k) c ≡ None
  expansion-end k c e = ap (option_map (λ point. point ∷ seconds split (suc k) c)) (chain_point-end k c e)

-- no expansion is longer than the height
pub expansion-none : (D : Decompositions) → FallsAlong D.split D.height → (k c : ℕ) → D.height c < k
    → expansion D.split k c ≡ None
expansion-none D falling zero c h = absurd (omega arith)
expansion-none D falling (suc k) c h =
    elim (D.split c) as (λ o. D.split c ≡ o → expansion D.split (suc k) c ≡ None) [
      | None ↦ λ e. expansion-end D.split k c e
      | Some p ↦ λ e.
          let lt : D.height p.0 < D.height c = falling.falls c p.0 p.1 e in
          expansion-suc D.split k c p.0 p.1 e ∙ ap (option_map (λ xs. xs ++ kept_part p.1))
          (expansion-none D falling k p.0 (omega arith))
    ] refl

pub is_supported-extended : (has_glyph : ℕ → Bool) (b : ℕ) (o : Option (List ℕ))
    → is_supported has_glyph (option_map (λ xs. xs ++ kept_part b) o)
    ≡ (is_supported has_glyph o && list_all has_glyph (kept_part b))
is_supported-extended has_glyph b None = refl
is_supported-extended has_glyph b (Some xs) = list_all-append has_glyph xs (kept_part b)

-- ---- the supported expansions of a character that splits

-- an expansion of a first part, with the second part b put after it if that has a glyph
abbrev pub put_after : Bool → ℕ → Option (List ℕ) → Option (List ℕ)
put_after false b o = None
put_after true b o = option_map (λ xs. xs ++ kept_part b) o

put_after-or : (t : Bool) (b : ℕ) (o p : Option (List ℕ))
    → option_or (put_after t b o) (put_after t b p) ≡ put_after t b (option_or o p)
put_after-or false b o p = refl
put_after-or true b None p = refl
put_after-or true b (Some xs) p = refl

put_after-if : (s t : Bool) (b : ℕ) (o : Option (List ℕ))
    → (if s && t then option_map (λ xs. xs ++ kept_part b) o else None) ≡ put_after t b (if s then o else None)
put_after-if true true b o = refl
put_after-if true false b o = refl
put_after-if false true b o = refl
put_after-if false false b o = refl

module _ (split : ℕ → Option (ℕ × ℕ)) (has_glyph : ℕ → Bool) where
  pub supported-suc : (k c a b : ℕ) → split c ≡ Some (a, b)
      → supported split has_glyph (suc k) c ≡ put_after (list_all has_glyph (kept_part b)) b (supported split has_glyph k a)
  supported-suc k c a b e =
      ap (λ o. if is_supported has_glyph o then o else None) (expansion-suc split k c a b e)
      ∙ ap (λ t. if t then option_map (λ xs. xs ++ kept_part b) (expansion split k a) else None)
      (is_supported-extended has_glyph b (expansion split k a))
      ∙ put_after-if (is_supported has_glyph (expansion split k a)) (list_all has_glyph (kept_part b)) b (expansion split k a)

  pub supported-end : (k c : ℕ) → split c ≡ None → supported split has_glyph (suc k) c ≡ None
  supported-end k c e = ap (λ o. if is_supported has_glyph o then o else None) (expansion-end split k c e)

  pub greatest-suc : (n c a b : ℕ) → split c ≡ Some (a, b)
      → greatest_supported split has_glyph (suc n) c
      ≡ put_after (list_all has_glyph (kept_part b)) b
      (option_or (greatest_supported split has_glyph n a) (supported split has_glyph 0 a))
  greatest-suc zero c a b e = option_or-none (supported split has_glyph 1 c) ∙ supported-suc 0 c a b e
  greatest-suc (suc n) c a b e =
      ap₂ option_or (supported-suc (suc n) c a b e) (greatest-suc n c a b e)
      ∙ put_after-or (list_all has_glyph (kept_part b)) b (supported split has_glyph (suc n) a)
      (option_or (greatest_supported split has_glyph n a) (supported split has_glyph 0 a))
      ∙ ap (put_after (list_all has_glyph (kept_part b)) b)
      (sym (option_or-assoc (supported split has_glyph (suc n) a) (greatest_supported split has_glyph n a)
      (supported split has_glyph 0 a)))

  pub least-suc : (n c a b : ℕ) → split c ≡ Some (a, b)
      → least_supported split has_glyph (suc n) c
      ≡ put_after (list_all has_glyph (kept_part b)) b
      (option_or (supported split has_glyph 0 a) (least_supported split has_glyph n a))
  least-suc zero c a b e =
      supported-suc 0 c a b e ∙ ap (put_after (list_all has_glyph (kept_part b)) b)
      (sym (option_or-none (supported split has_glyph 0 a)))
  least-suc (suc n) c a b e =
      ap₂ option_or (least-suc n c a b e) (supported-suc (suc n) c a b e)
      ∙ put_after-or (list_all has_glyph (kept_part b)) b
      (option_or (supported split has_glyph 0 a) (least_supported split has_glyph n a)) (supported split has_glyph (suc n) a)
      ∙ ap (put_after (list_all has_glyph (kept_part b)) b)
      (option_or-assoc (supported split has_glyph 0 a) (least_supported split has_glyph n a)
      (supported split has_glyph (suc n) a))

  pub greatest-end : (n c : ℕ) → split c ≡ None → greatest_supported split has_glyph n c ≡ None
  greatest-end zero c e = refl
  greatest-end (suc n) c e = ap₂ option_or (supported-end n c e) (greatest-end n c e)

  pub least-end : (n c : ℕ) → split c ≡ None → least_supported split has_glyph n c ≡ None
  least-end zero c e = refl
  least-end (suc n) c e = ap₂ option_or (least-end n c e) (supported-end n c e)

-- ---- the height is far enough to look

module _ (D : Decompositions) (has_glyph : ℕ → Bool) (falling : FallsAlong D.split D.height) where
  pub supported-none : (k c : ℕ) → D.height c < k → supported D.split has_glyph k c ≡ None
  supported-none k c h = ap (λ o. if is_supported has_glyph o then o else None) (expansion-none D falling k c h)

  pub greatest-enough : (d n c : ℕ) → n ≡ d + D.height c
      → greatest_supported D.split has_glyph n c ≡ greatest_supported D.split has_glyph (D.height c) c
  greatest-enough zero n c e = let q : n ≡ D.height c = omega arith in ap (λ m. greatest_supported D.split has_glyph m c) q
  greatest-enough (suc d) n c e =
      let m : ℕ = d + D.height c in
      let q : n ≡ suc m = omega arith in
      ap (λ m. greatest_supported D.split has_glyph m c) q
      ∙ ap (λ o. option_or o (greatest_supported D.split has_glyph m c)) (supported-none (suc m) c (omega arith))
      ∙ greatest-enough d m c refl

  pub least-enough : (d n c : ℕ) → n ≡ d + D.height c
      → least_supported D.split has_glyph n c ≡ least_supported D.split has_glyph (D.height c) c
  least-enough zero n c e = let q : n ≡ D.height c = omega arith in ap (λ m. least_supported D.split has_glyph m c) q
  least-enough (suc d) n c e =
      let m : ℕ = d + D.height c in
      let q : n ≡ suc m = omega arith in
      ap (λ m. least_supported D.split has_glyph m c) q
      ∙ ap (option_or (least_supported D.split has_glyph m c)) (supported-none (suc m) c (omega arith))
      ∙ option_or-none (least_supported D.split has_glyph m c) ∙ least-enough d m c refl

  -- the greatest of c from that of its first part
  pub greatest-split : (c a b : ℕ) → D.split c ≡ Some (a, b)
      → greatest_supported D.split has_glyph (D.height c) c
      ≡ put_after (list_all has_glyph (kept_part b)) b
      (option_or (greatest_supported D.split has_glyph (D.height a) a) (supported D.split has_glyph 0 a))
  greatest-split c a b e =
      let lt : D.height a < D.height c = falling.falls c a b e in
      let m : ℕ = D.height c - 1 in
      let q : D.height c ≡ suc m = omega arith in
      ap (λ n. greatest_supported D.split has_glyph n c) q ∙ greatest-suc D.split has_glyph m c a b e
      ∙ ap (λ o. put_after (list_all has_glyph (kept_part b)) b (option_or o (supported D.split has_glyph 0 a)))
      (greatest-enough (m - D.height a) m a (omega arith))

  -- the least of c from that of its first part
  pub least-split : (c a b : ℕ) → D.split c ≡ Some (a, b)
      → least_supported D.split has_glyph (D.height c) c
      ≡ put_after (list_all has_glyph (kept_part b)) b
      (option_or (supported D.split has_glyph 0 a) (least_supported D.split has_glyph (D.height a) a))
  least-split c a b e =
      let lt : D.height a < D.height c = falling.falls c a b e in
      let m : ℕ = D.height c - 1 in
      let q : D.height c ≡ suc m = omega arith in
      ap (λ n. least_supported D.split has_glyph n c) q ∙ least-suc D.split has_glyph m c a b e
      ∙ ap (λ o. put_after (list_all has_glyph (kept_part b)) b (option_or (supported D.split has_glyph 0 a) o))
      (least-enough (m - D.height a) m a (omega arith))
