-- Marks that move as usual: their two ccc determine each other, so that the same swaps may be made.
use Rattle.std.proofs.Common.{◌≡◌, ◌≢◌, ℕ, ◌<◌, ◌==◌, ◌&&◌, ◌||◌, not, Bool, true, false, List, Option, Some, None, is_some, unwrap_or, option_map, refl, sym, ap, ◌∙◌, arith, inl, inr, eqb-true, eq-eqb, ne_eqb}
use Rattle.std.proofs.lemmas.Bool.{cases_Bool, and_parts, and_from, or_cases, cond-true, cond-false}
use Rattle.std.specs.List.{find, list_all}
use Rattle.ucd_table.proofs.RangedFacts.{Stepped-at_points}
use Rattle.ucd_normal.specs.CanonicalCombiningClass.{canonical_combining_class as ccc}
use Rattle.ucd_normal.proofs.CanonicalCombiningClassLemmas.{canonical_combining_class_stepped}
use Rattle.canonical_form.specs.Chain.{full, full_text}
use Rattle.canonical_form.specs.Order.{IsSwap, here, behind, Swaps, done, then}
use Rattle.shape_unicode.specs.Ccc.{modified_ccc, ccc_by_character, modified_ccc_from, modified_ccc_of}
use Rattle.shape_unicode.specs.Tables.{by_trees}
use Rattle.shape_unicode.specs.SplitLaws.{not_true, true_is_false}
use Rattle.shape_unicode.specs.Canonical.{moves_otherwise, EquivalenceIsCanonical}
use Rattle.shape_unicode.specs.declared.ccc.TheConstants.{MODIFIED_CCC}

-- the combining class that a ccc stands for
abbrev original : ℕ → ℕ
original ccc = unwrap_or (option_map (λ entry. entry.0) (find (λ entry. entry.1 == ccc) MODIFIED_CCC)) ccc

-- a character of combining class n has a ccc that n can be read from, or moves otherwise
abbrev distinguished : ℕ → ℕ → Bool
distinguished c n = moves_otherwise c || (not (modified_ccc_from n c == 0) && original (modified_ccc_from n c) == n)

-- computed over the rows of the database
distinguished_ok : (c : ℕ) → (ccc c == 0) ≡ false → distinguished c (ccc c) ≡ true
unfolding by_trees
distinguished_ok = Stepped-at_points ccc canonical_combining_class_stepped (λ n. n == 0) distinguished refl

-- a mark that moves as usual
abbrev usual : ℕ → Bool
usual c = not (moves_otherwise c)

nonzero : (n : ℕ) → 0 < n → (n == 0) ≡ false
nonzero n positive = ne_eqb n 0 (λ e. omega arith)

-- only what has a combining class has a ccc
has_combining_class : (c : ℕ) → 0 < modified_ccc_of c → 0 < ccc c
has_combining_class c positive =
    elim (cases_Bool (ccc c == 0)) [
      | inl h ↦ let none : modified_ccc_of c ≡ 0 = cond-true (ccc c == 0) 0 _ h in absurd (omega arith)
      | inr h ↦ let some : ccc c ≢ 0 = λ e. true_is_false (sym (eq-eqb (ccc c) 0 e) ∙ h) in omega arith
    ]

module _ (c : ℕ) (as_usual : usual c ≡ true) (positive : 0 < ccc c) where
  apart : (not (modified_ccc_of c == 0) && original (modified_ccc_of c) == ccc c) ≡ true
  apart = elim (or_cases _ _ (distinguished_ok c (nonzero (ccc c) positive))) [
    | inl moves ↦ true_is_false (sym moves ∙ not_true _ as_usual)
    | inr told ↦ told
  ]

  has_ccc : 0 < modified_ccc_of c
  has_ccc =
      let some : modified_ccc_of c ≢ 0 = λ e. true_is_false (sym (eq-eqb (modified_ccc_of c) 0 e) ∙ not_true _ (and_parts _ _ apart).0) in
      omega arith

  original_of : original (modified_ccc_of c) ≡ ccc c
  original_of = eqb-true _ _ (and_parts _ _ apart).1

  modified_of : modified_ccc_of c ≡ modified_ccc (ccc c)
  modified_of = cond-false (ccc c == 0) _ _ (nonzero (ccc c) positive) ∙ ap (λ own. unwrap_or own (modified_ccc (ccc c))) no_own
    where
      none : (own : Option ℕ) → is_some own ≡ false → own ≡ None
      none None h = refl
      none (Some n) h = cc

      no_own : ccc_by_character c ≡ None
      no_own = none _ (not_true _ as_usual)

-- swaps by one ccc are swaps by another one that agrees with it
module _ (first second : ℕ → ℕ) (agree : (x y : ℕ) → usual x ≡ true → usual y ≡ true → 0 < first x → 0 < first y → first x ≢ first y
    → (0 < second x) × (0 < second y) × (second x ≢ second y)) where
  swap_agrees : {xs ys : List ℕ} → list_all usual xs ≡ true → IsSwap first xs ys → IsSwap second xs ys × (list_all usual ys ≡ true)
  swap_agrees each (here x y rest of_x of_y distinct) =
      let head = and_parts (usual x) _ each in
      let next = and_parts (usual y) _ head.1 in
      let both = agree x y head.0 next.0 of_x of_y distinct in
      (here x y rest both.0 both.1 both.2, and_from _ _ next.0 (and_from _ _ head.0 next.1))
  swap_agrees each (behind x s) =
      let head = and_parts (usual x) _ each in
      let rest = swap_agrees head.1 s in
      (behind x rest.0, and_from _ _ head.0 rest.1)

  swaps_agree : {xs ys : List ℕ} → list_all usual xs ≡ true → Swaps first xs ys → Swaps second xs ys
  swaps_agree each done = done
  swaps_agree each (then s rest) = let one = swap_agrees each s in then one.0 (swaps_agree one.1 rest)

modified_to_ccc : (x y : ℕ) → usual x ≡ true → usual y ≡ true → 0 < modified_ccc_of x → 0 < modified_ccc_of y
    → modified_ccc_of x ≢ modified_ccc_of y → (0 < ccc x) × (0 < ccc y) × (ccc x ≢ ccc y)
modified_to_ccc x y usual_x usual_y of_x of_y distinct =
    let mark_x = has_combining_class x of_x in
    let mark_y = has_combining_class y of_y in
    (mark_x, mark_y, λ e. distinct (modified_of x usual_x mark_x ∙ ap modified_ccc e ∙ sym (modified_of y usual_y mark_y)))

ccc_to_modified : (x y : ℕ) → usual x ≡ true → usual y ≡ true → 0 < ccc x → 0 < ccc y → ccc x ≢ ccc y
    → (0 < modified_ccc_of x) × (0 < modified_ccc_of y) × (modified_ccc_of x ≢ modified_ccc_of y)
ccc_to_modified x y usual_x usual_y mark_x mark_y distinct = (
  has_ccc x usual_x mark_x,
  has_ccc y usual_y mark_y,
  λ e. distinct (sym (original_of x usual_x mark_x) ∙ ap original e ∙ original_of y usual_y mark_y),
)

pub equivalence_is_canonical : EquivalenceIsCanonical
unfolding full full_text
equivalence_is_canonical s t marks =
    (swaps_agree modified_ccc_of ccc modified_to_ccc marks, swaps_agree ccc modified_ccc_of ccc_to_modified marks)
