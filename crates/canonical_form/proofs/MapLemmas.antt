-- From items to their characters: if each item has the ccc and mark of its character, both are settled and recomposed
-- alike.
use Rattle.std.proofs.Common.{◌≡◌, ℕ, Bool, true, false, not, ◌==◌, ◌&&◌, ◌||◌, nat_le, cond, List, [], ◌∷◌, ◌++◌, length, map, Option, Some, None, option_map, refl, sym, ap, ap₂, subst, ◌∙◌, arith, inl, inr}
use Rattle.std.proofs.lemmas.Bool.{cases_Bool, MatchBool-at_true, MatchBool-at_false}
use Rattle.std.proofs.lemmas.List.{map-append, length-map}
use Rattle.std.specs.List.{AllByRecursion}
use Rattle.canonical_form.specs.Order.{IsSwap, here, behind, Swaps, done, then, IsOrdered, IsPutInOrder}
use Rattle.canonical_form.specs.Recompose.{is_blocked, composed, recomposed_from, recomposed}
use Rattle.canonical_form.specs.Runs.{IsSettled, AreRunsSettled}
use Rattle.canonical_form.proofs.Ordering.SwapLemmas.{all-swap, all-swaps}
use Rattle.canonical_form.proofs.Lists.EveryLemmas.{push_all}
use Rattle.canonical_form.proofs.Recomposing.RecomposeLemmas.{by_steps, recomposed_from-some, recomposed_from-starter, recomposed_from-mark}
use Rattle.canonical_form.proofs.Ordering.RunLemmas.{cases_item, from_starter}

module _ {A B : Type 0} (IsItem : A → Type 0) (f : A → B) (ccc : A → ℕ) (ccc' : B → ℕ)
    (same : (x : A) → IsItem x → ccc' (f x) ≡ ccc x) where
  IsSwap-map : {xs ys : List A} → IsSwap ccc xs ys → AllByRecursion IsItem xs → IsSwap ccc' (map f xs) (map f ys)
  IsSwap-map (here x y rest mark_x mark_y distinct) items =
      let e_x = same x items.0 in
      let e_y = same y items.1.0 in
      here (f x) (f y) (map f rest) (omega arith) (omega arith) (λ e. distinct (sym e_x ∙ e ∙ e_y))
  IsSwap-map (behind x s) items = behind (f x) (IsSwap-map s items.1)

  pub Swaps-map : {xs ys : List A} → Swaps ccc xs ys → AllByRecursion IsItem xs → Swaps ccc' (map f xs) (map f ys)
  Swaps-map done items = done
  Swaps-map (then s rest) items = then (IsSwap-map s items) (Swaps-map rest (all-swap IsItem s items))

  pub IsOrdered-map : (xs : List A) → AllByRecursion IsItem xs → IsOrdered ccc xs → IsOrdered ccc' (map f xs)
  IsOrdered-map [] items up = tt
  IsOrdered-map (x ∷ []) items up = tt
  IsOrdered-map (x ∷ y ∷ xs) items up =
      let e_x = same x items.0 in
      let e_y = same y items.1.0 in
      let first = up.0 in
      (λ mark. omega (arith, first (omega arith)), IsOrdered-map (y ∷ xs) items.1 up.1)

  IsSettled-map : (limit : ℕ) (run new : List A) → AllByRecursion IsItem run → IsSettled ccc limit run new
      → IsSettled ccc' limit (map f run) (map f new)
  IsSettled-map limit run new items h =
      elim (cases_Bool (nat_le (length run) limit)) [
        | inl short ↦
            let inner = MatchBool-at_true (IsPutInOrder ccc run new) (new ≡ run) short h in
            rw (length-map, short)
            (record {
              reached = Swaps-map inner.reached items;
              ordered = IsOrdered-map new (all-swaps IsItem inner.reached items) inner.ordered;
            })
        | inr long ↦ rw (length-map, long) (ap (map f) (MatchBool-at_false (IsPutInOrder ccc run new) (new ≡ run) long h))
      ]

  pub AreRunsSettled-map : (limit : ℕ) (pending xs new : List A) → AllByRecursion IsItem pending → AllByRecursion IsItem xs
      → AreRunsSettled ccc limit pending xs new → AreRunsSettled ccc' limit (map f pending) (map f xs) (map f new)
  AreRunsSettled-map limit pending [] new marks items h = IsSettled-map limit pending new marks h
  AreRunsSettled-map limit pending (x ∷ xs) new marks items h =
      let test : (ccc' (f x) == 0) ≡ (ccc x == 0) = ap (λ n. n == 0) (same x items.0) in
      elim (cases_item ccc limit pending x xs new h) [
        | inl (start, parts) ↦
            subst (AreRunsSettled ccc' limit (map f pending) (f x ∷ map f xs))
            (sym (ap (map f) parts.is ∙ map-append f parts.run (x ∷ parts.rest)))
            (from_starter ccc' limit (map f pending) (f x) (map f xs) (map f parts.run) (map f parts.rest) (test ∙ start)
            (IsSettled-map limit pending parts.run marks parts.settled)
            (AreRunsSettled-map limit [] xs parts.rest tt items.1 parts.later))
        | inr (mark, later) ↦
            let inner = AreRunsSettled-map limit (pending ++ x ∷ []) xs new
            (push_all IsItem pending x marks items.0) items.1 later in
            let is_mark = test ∙ mark in
            rw is_mark (subst (λ l. AreRunsSettled ccc' limit l (map f xs) (map f new)) (map-append f pending (x ∷ [])) inner)
      ]

  pub is_blocked-map : (ms : List A) (c : A) → AllByRecursion IsItem ms → IsItem c
      → is_blocked ccc' (map f ms) (f c) ≡ is_blocked ccc ms c
  is_blocked-map [] c items item = refl
  is_blocked-map (m ∷ ms) c items item =
      ap₂ (λ b rest. b || rest) (ap₂ (λ n k. n == 0 || nat_le k n) (same m items.0) (same c item)) (is_blocked-map ms c items.1 item)

  module _ (blocks : List A → A → Bool) (blocks' : List B → B → Bool)
      (block : (ms : List A) (c : A) → AllByRecursion IsItem ms → IsItem c → blocks' (map f ms) (f c) ≡ blocks ms c)
      (is_mark : A → Bool) (is_mark' : B → Bool) (compose : A → A → Option A) (compose' : B → B → Option B)
      (marks : (x : A) → IsItem x → is_mark' (f x) ≡ is_mark x)
      (makes_item : (s c d : A) → IsItem s → IsItem c → compose s c ≡ Some d → IsItem d)
      (composes : (s c : A) → IsItem s → IsItem c → compose' (f s) (f c) ≡ option_map f (compose s c)) where
    abbrev after : A → List A → List A → List A
    after = recomposed_from ccc blocks is_mark compose

    abbrev after' : B → List B → List B → List B
    after' = recomposed_from ccc' blocks' is_mark' compose'

    option_map-cond : (b : Bool) (o : Option A) → option_map f (cond b o None) ≡ cond b (option_map f o) None
    option_map-cond true o = refl
    option_map-cond false o = refl

    composed-map : (s : A) (ms : List A) (c : A) → IsItem s → AllByRecursion IsItem ms → IsItem c
        → composed ccc' blocks' is_mark' compose' (f s) (map f ms) (f c) ≡ option_map f (composed ccc blocks is_mark compose s ms c)
    composed-map s ms c item_s items item_c =
        ap₂ (λ a b. cond (a && not b) (compose' (f s) (f c)) None) (marks c item_c) (block ms c items item_c)
        ∙ ap (λ o. cond (is_mark c && not (blocks ms c)) o None) (composes s c item_s item_c)
        ∙ sym (option_map-cond (is_mark c && not (blocks ms c)) (compose s c))

    recomposed_from-map : (s : A) (ms rest : List A) → IsItem s → AllByRecursion IsItem ms → AllByRecursion IsItem rest
        → map f (after s ms rest) ≡ after' (f s) (map f ms) (map f rest)
    recomposed_from-map =
        by_steps ccc blocks is_mark compose (λ s ms rest out. IsItem s → AllByRecursion IsItem ms → AllByRecursion IsItem rest
        → map f out ≡ after' (f s) (map f ms) (map f rest)) (record {
          ends = λ s ms item_s items later_items. refl;
          composes = λ s ms c d rest out found free made later item_s items later_items.
              later (makes_item s c d item_s later_items.0 made) items later_items.1
              ∙ sym (recomposed_from-some ccc' blocks' is_mark' compose' (f s) (map f ms) (f c) (map f rest) (f d)
              (composed-map s ms c item_s items later_items.0 ∙ ap (option_map f) found));
          starts = λ s ms c rest out none start later item_s items later_items.
              ap (λ l. f s ∷ l) (map-append f ms out ∙ ap (λ l. map f ms ++ l) (later later_items.0 tt later_items.1))
              ∙ sym (recomposed_from-starter ccc' blocks' is_mark' compose' (f s) (map f ms) (f c) (map f rest)
              (composed-map s ms c item_s items later_items.0 ∙ ap (option_map f) none) (test c later_items.0 ∙ start));
          passes = λ s ms c rest out none mark later item_s items later_items.
              later item_s (push_all IsItem ms c items later_items.0) later_items.1
              ∙ ap (λ l. after' (f s) l (map f rest)) (map-append f ms (c ∷ []))
              ∙ sym (recomposed_from-mark ccc' blocks' is_mark' compose' (f s) (map f ms) (f c) (map f rest)
              (composed-map s ms c item_s items later_items.0 ∙ ap (option_map f) none) (test c later_items.0 ∙ mark));
        })
      where
        test : (c : A) → IsItem c → (ccc' (f c) == 0) ≡ (ccc c == 0)
        test c item = ap (λ n. n == 0) (same c item)

    pub recomposed-map : (xs : List A) → AllByRecursion IsItem xs
        → map f (recomposed ccc blocks is_mark compose xs) ≡ recomposed ccc' blocks' is_mark' compose' (map f xs)
    recomposed-map [] items = refl
    recomposed-map (x ∷ xs) items = recomposed_from-map x [] xs items.0 tt items.1
