-- Equivalence: swaps keep it, and it leads to one canonical list.
use Rattle.std.proofs.Common.{◌≡◌, ◌≢◌, ℕ, ◌<◌, List, [], ◌∷◌, ◌++◌, None, flat_map, refl, sym, ap₂, ◌∙◌, arith, append_assoc}
use Rattle.std.proofs.lemmas.List.Elements.{All-head, All-tail}
use Rattle.std.specs.List.{All, AllByRecursion}
use Rattle.canonical_form.specs.Chain.{FallsAlong, full_text}
use Rattle.canonical_form.specs.Decompositions.{Decompositions}
use Rattle.canonical_form.specs.Equivalent.{IsEquivalent, IsCanonical}
use Rattle.canonical_form.specs.Order.{IsSwap, here, behind, Swaps, done, then}
use Rattle.canonical_form.proofs.Expanding.ChainLemmas.{full-stays}
use Rattle.canonical_form.proofs.Ordering.OrderLemmas.{canonical_unique}
use Rattle.canonical_form.proofs.Ordering.SwapLemmas.{◌⟫◌, no_swap, Passes, Swaps-after, Swaps-before, Swaps-blocks}

-- items of a domain, whose parts have a ccc of their own: those of a mark have its ccc
module _ {A B : Type 0} (IsItem : A → Type 0) (ccc : A → ℕ) (ccc_of_part : B → ℕ) (parts : A → List B)
    (preserves : (c : A) → IsItem c → 0 < ccc c → AllByRecursion (λ d. ccc_of_part d ≡ ccc c) (parts c)) where
  passes : (m c : ℕ) (xs ys : List B) → 0 < m → 0 < c → m ≢ c → AllByRecursion (λ d. ccc_of_part d ≡ m) xs
      → AllByRecursion (λ d. ccc_of_part d ≡ c) ys → AllByRecursion (λ x. (0 < ccc_of_part x) × Passes ccc_of_part x ys) xs
  passes m c [] ys mark_m mark_c distinct left right = tt
  passes m c (x ∷ xs) ys mark_m mark_c distinct left right =
      ((omega (arith, left.0), one ys right), passes m c xs ys mark_m mark_c distinct left.1 right)
    where
      one : (ys : List B) → AllByRecursion (λ d. ccc_of_part d ≡ c) ys → Passes ccc_of_part x ys
      one [] h = tt
      one (y ∷ ys) h = ((omega (arith, h.0), λ e. distinct (sym left.0 ∙ e ∙ h.0)), one ys h.1)

  -- the parts of two marks change places
  pub past_mark : (m c : A) → IsItem m → IsItem c → 0 < ccc m → 0 < ccc c → ccc m ≢ ccc c
      → Swaps ccc_of_part (parts m ++ parts c) (parts c ++ parts m)
  past_mark m c item_m item_c mark_m mark_c distinct =
      Swaps-blocks ccc_of_part (parts m) (parts c)
      (passes (ccc m) (ccc c) (parts m) (parts c) mark_m mark_c distinct (preserves m item_m mark_m) (preserves c item_c mark_c))

  items-swap : {xs ys : List A} → IsSwap ccc xs ys → AllByRecursion IsItem xs → AllByRecursion IsItem ys
  items-swap (here x y rest mark_x mark_y distinct) items = (items.1.0, (items.0, items.1.1))
  items-swap (behind x s) items = (items.0, items-swap s items.1)

  parts-swap : {xs ys : List A} → IsSwap ccc xs ys → AllByRecursion IsItem xs
      → Swaps ccc_of_part (flat_map parts xs) (flat_map parts ys)
  parts-swap (here x y rest mark_x mark_y distinct) items =
      no_swap (sym (append_assoc (parts x) (parts y) (flat_map parts rest)))
      ⟫ Swaps-before (flat_map parts rest) (past_mark x y items.0 items.1.0 mark_x mark_y distinct)
      ⟫ no_swap (append_assoc (parts y) (parts x) (flat_map parts rest))
  parts-swap (behind x s) items = Swaps-after (parts x) (parts-swap s items.1)

  -- swaps of items are swaps of their parts
  pub parts-swaps : {xs ys : List A} → Swaps ccc xs ys → AllByRecursion IsItem xs
      → Swaps ccc_of_part (flat_map parts xs) (flat_map parts ys)
  parts-swaps done items = done
  parts-swaps (then s rest) items = parts-swap s items ⟫ parts-swaps rest (items-swap s items)

module _ (D : Decompositions) (falling : FallsAlong D.split D.height) where
  -- a list in which nothing splits is its own Full
  pub full_text-whole : (text : List ℕ) → All (λ c. D.split c ≡ None) text → full_text D text ≡ text
  unfolding full_text
  full_text-whole [] whole = refl
  full_text-whole (c ∷ text) whole =
      ap₂ ◌++◌ (full-stays D falling c (All-head (λ c. D.split c ≡ None) c text whole))
      (full_text-whole text (All-tail (λ c. D.split c ≡ None) c text whole))

  -- no two different canonical lists are equivalent
  pub canonical_equal : (s t : List ℕ) → IsCanonical D s → IsCanonical D t → IsEquivalent D s t → s ≡ t
  canonical_equal s t form_s form_t swaps =
      canonical_unique D.ccc s t form_s.ordered form_t.ordered
      (no_swap (sym (full_text-whole s form_s.whole)) ⟫ swaps ⟫ no_swap (full_text-whole t form_t.whole))
