-- Recomposing, by what each of its steps keeps: it keeps the full decomposition, up to swaps.
use Rattle.std.proofs.Common.{◌≡◌, ℕ, ◌<◌, Bool, true, false, not, ◌==◌, ◌&&◌, ◌||◌, nat_le, List, [], ◌∷◌, ◌++◌, Option, Some, None, flat_map, sym, ap, subst, ◌∙◌, arith, inl, inr, append-nil, append_assoc}
use Rattle.std.proofs.lemmas.Bool.{cond-true, cond-false, cases_Bool, or_parts, and_parts, and_left, not-true}
use Rattle.std.proofs.lemmas.Bool.Decides.{nat_tests}
use Rattle.std.proofs.lemmas.Grind.{flat_map-append}
use Rattle.std.specs.List.{AllByRecursion}
use Rattle.canonical_form.specs.Order.{Swaps, done}
use Rattle.canonical_form.specs.Recompose.{is_blocked, composed, recomposed_from, recomposed}
use Rattle.canonical_form.proofs.Lists.OptionLemmas.{cases_Option}
use Rattle.canonical_form.proofs.Lists.EveryLemmas.{append_all, push_all}
use Rattle.canonical_form.proofs.EquivalentLemmas.{past_mark}
use Rattle.canonical_form.proofs.Ordering.SwapLemmas.{◌⟫◌, no_swap, Swaps-sym, Swaps-after, Swaps-before}

-- each item is of a domain, all parts of a mark have its ccc, and what is composed has the decomposition of its two
-- parts
pub record ComposesLawfully {A B : Type 0} (IsItem : A → Type 0) (ccc : A → ℕ) (ccc_of_part : B → ℕ) (full : A → List B)
    (compose : A → A → Option A) : Type 0 where
  pub marks : (c : A) → IsItem c → 0 < ccc c → AllByRecursion (λ d. ccc_of_part d ≡ ccc c) (full c)
  pub items : (s c d : A) → IsItem s → IsItem c → compose s c ≡ Some d → IsItem d
  pub composes : (s c d : A) → IsItem s → IsItem c → compose s c ≡ Some d → Swaps ccc_of_part (full d) (full s ++ full c)

-- the three steps, whatever the test of blocking
module _ {A : Type 0} (ccc : A → ℕ) (blocks : List A → A → Bool) (is_mark : A → Bool) (compose : A → A → Option A) where
  pub composed-some : (s : A) (ms : List A) (c d : A) → composed ccc blocks is_mark compose s ms c ≡ Some d
      → (blocks ms c ≡ false) × (compose s c ≡ Some d)
  composed-some s ms c d h =
      elim (cases_Bool (is_mark c && not (blocks ms c))) [
        | inl pass ↦ (not-true _ (and_parts (is_mark c) (not (blocks ms c)) pass).1, sym (cond-true _ (compose s c) None pass) ∙ h)
        | inr fail ↦ let none = sym (cond-false _ (compose s c) None fail) ∙ h in cc
      ]

  pub recomposed_from-some : (s : A) (ms : List A) (c : A) (rest : List A) (d : A)
      → composed ccc blocks is_mark compose s ms c ≡ Some d
      → recomposed_from ccc blocks is_mark compose s ms (c ∷ rest) ≡ recomposed_from ccc blocks is_mark compose d ms rest
  recomposed_from-some s ms c rest d h = rw (h, recomposed_from)

  pub recomposed_from-starter : (s : A) (ms : List A) (c : A) (rest : List A) → composed ccc blocks is_mark compose s ms c ≡ None
      → (ccc c == 0) ≡ true
      → recomposed_from ccc blocks is_mark compose s ms (c ∷ rest) ≡ s ∷ ms ++ recomposed_from ccc blocks is_mark compose c [] rest
  recomposed_from-starter s ms c rest h start = rw (h, start, recomposed_from)

  pub recomposed_from-mark : (s : A) (ms : List A) (c : A) (rest : List A) → composed ccc blocks is_mark compose s ms c ≡ None
      → (ccc c == 0) ≡ false
      → recomposed_from ccc blocks is_mark compose s ms (c ∷ rest) ≡ recomposed_from ccc blocks is_mark compose s (ms ++ c ∷ []) rest
  recomposed_from-mark s ms c rest h mark = rw (h, mark, recomposed_from)

  -- what each step keeps: it is said of a starter, the marks that were emitted since, what is still to come,
  -- and what is emitted of these
  pub record IsPreservedByEachStep (P : A → List A → List A → List A → Type 0) : Type 0 where
    pub ends : (s : A) (ms : List A) → P s ms [] (s ∷ ms)
    pub composes : (s : A) (ms : List A) (c d : A) (rest out : List A) → composed ccc blocks is_mark compose s ms c ≡ Some d
        → blocks ms c ≡ false → compose s c ≡ Some d → P d ms rest out → P s ms (c ∷ rest) out
    pub starts : (s : A) (ms : List A) (c : A) (rest out : List A) → composed ccc blocks is_mark compose s ms c ≡ None
        → (ccc c == 0) ≡ true → P c [] rest out → P s ms (c ∷ rest) (s ∷ ms ++ out)
    pub passes : (s : A) (ms : List A) (c : A) (rest out : List A) → composed ccc blocks is_mark compose s ms c ≡ None
        → (ccc c == 0) ≡ false → P s (ms ++ c ∷ []) rest out → P s ms (c ∷ rest) out

  -- holds of all that recomposing emits: the one induction on its walk
  pub by_steps : (P : A → List A → List A → List A → Type 0) → IsPreservedByEachStep P → (s : A) (ms rest : List A)
      → P s ms rest (recomposed_from ccc blocks is_mark compose s ms rest)
  by_steps P kept s ms [] = kept.ends s ms
  by_steps P kept s ms (c ∷ rest) =
      elim (cases_Option (composed ccc blocks is_mark compose s ms c)) [
        | inr (d, found) ↦
            let at = composed-some s ms c d found in
            subst (P s ms (c ∷ rest)) (sym (recomposed_from-some s ms c rest d found))
            (kept.composes s ms c d rest _ found at.0 at.1 (by_steps P kept d ms rest))
        | inl none ↦
            elim (cases_Bool (ccc c == 0)) [
              | inl start ↦
                  subst (P s ms (c ∷ rest)) (sym (recomposed_from-starter s ms c rest none start))
                  (kept.starts s ms c rest _ none start (by_steps P kept c [] rest))
              | inr mark ↦
                  subst (P s ms (c ∷ rest)) (sym (recomposed_from-mark s ms c rest none mark))
                  (kept.passes s ms c rest _ none mark (by_steps P kept s (ms ++ c ∷ []) rest))
            ]
      ]

  composed-unmarked : (s : A) (ms : List A) (c : A) → is_mark c ≡ false → composed ccc blocks is_mark compose s ms c ≡ None
  composed-unmarked s ms c h = cond-false _ (compose s c) None (and_left (is_mark c) (not (blocks ms c)) h)

  -- before an item of ccc 0 that is no mark the list may be cut
  pub recomposed_from-append : (c : A) (ys : List A) → is_mark c ≡ false → (ccc c == 0) ≡ true → (s : A) (ms xs : List A)
      → recomposed_from ccc blocks is_mark compose s ms (xs ++ c ∷ ys)
      ≡ recomposed_from ccc blocks is_mark compose s ms xs ++ recomposed ccc blocks is_mark compose (c ∷ ys)
  recomposed_from-append c ys unmarked start =
      let tail = recomposed ccc blocks is_mark compose (c ∷ ys) in
      by_steps (λ s ms xs out. recomposed_from ccc blocks is_mark compose s ms (xs ++ c ∷ ys) ≡ out ++ tail) (record {
        ends = λ s ms. recomposed_from-starter s ms c ys (composed-unmarked s ms c unmarked) start;
        composes = λ s ms x d rest out found free made later. recomposed_from-some s ms x (rest ++ c ∷ ys) d found ∙ later;
        starts = λ s ms x rest out none starts later.
            recomposed_from-starter s ms x (rest ++ c ∷ ys) none starts ∙ ap (λ l. s ∷ ms ++ l) later
            ∙ sym (append_assoc (s ∷ ms) out tail);
        passes = λ s ms x rest out none mark later. recomposed_from-mark s ms x (rest ++ c ∷ ys) none mark ∙ later;
      })

  -- what holds of each item, and of what two items compose to, holds of each recomposed item
  recomposed_from-all : (P : A → Type 0) → ((s c d : A) → P s → P c → compose s c ≡ Some d → P d) → (s : A) (ms rest : List A)
      → P s → AllByRecursion P ms → AllByRecursion P rest → AllByRecursion P (recomposed_from ccc blocks is_mark compose s ms rest)
  recomposed_from-all P composes =
      by_steps (λ s ms rest out. P s → AllByRecursion P ms → AllByRecursion P rest → AllByRecursion P out) (record {
        ends = λ s ms of_s of_ms of_rest. (of_s, of_ms);
        composes = λ s ms c d rest out found free made later of_s of_ms of_rest.
            later (composes s c d of_s of_rest.0 made) of_ms of_rest.1;
        starts = λ s ms c rest out none start later of_s of_ms of_rest.
            (of_s, append_all P ms out of_ms (later of_rest.0 tt of_rest.1));
        passes = λ s ms c rest out none mark later of_s of_ms of_rest. later of_s (push_all P ms c of_ms of_rest.0) of_rest.1;
      })

  pub recomposed-all : (P : A → Type 0) → ((s c d : A) → P s → P c → compose s c ≡ Some d → P d) → (xs : List A)
      → AllByRecursion P xs → AllByRecursion P (recomposed ccc blocks is_mark compose xs)
  recomposed-all P composes [] items = tt
  recomposed-all P composes (x ∷ xs) items = recomposed_from-all P composes x [] xs items.0 tt items.1

module _ {A B : Type 0} (IsItem : A → Type 0) (ccc : A → ℕ) (ccc_of_part : B → ℕ) (full : A → List B) (is_mark : A → Bool)
    (compose : A → A → Option A) (lawful : ComposesLawfully IsItem ccc ccc_of_part full compose) where
  abbrev Fulls : List A → List B
  Fulls xs = flat_map full xs

  not_blocked : (m : A) (ms : List A) (c : A) → is_blocked ccc (m ∷ ms) c ≡ false
      → (0 < ccc m) × (ccc m < ccc c) × (is_blocked ccc ms c ≡ false)
  not_blocked m ms c h =
      let parts = or_parts (ccc m == 0 || nat_le (ccc c) (ccc m)) (is_blocked ccc ms c) h in
      let first = parts.0 in
      (grind (arith, nat_tests), grind (arith, nat_tests), parts.1)

  past_marks : (ms : List A) (c : A) → AllByRecursion IsItem ms → IsItem c → is_blocked ccc ms c ≡ false
      → Swaps ccc_of_part (Fulls ms ++ full c) (full c ++ Fulls ms)
  past_marks [] c items item_c free = no_swap (sym (append-nil (full c)))
  past_marks (m ∷ ms) c items item_c free =
      let parts = not_blocked m ms c free in
      no_swap (append_assoc (full m) (Fulls ms) (full c))
      ⟫ Swaps-after (full m) (past_marks ms c items.1 item_c parts.2)
      ⟫ no_swap (sym (append_assoc (full m) (full c) (Fulls ms)))
      ⟫ Swaps-before (Fulls ms) (past_mark IsItem ccc ccc_of_part full lawful.marks m c items.0 item_c parts.0
      (omega (arith, parts.1)) (λ e. omega (arith, parts.1)))
      ⟫ no_swap (append_assoc (full c) (full m) (Fulls ms))

  -- what a starter and c compose to, in their place
  pub swaps_composed : (s c d : A) (ms rest : List A) → IsItem s → IsItem c → AllByRecursion IsItem ms → is_blocked ccc ms c ≡ false
      → compose s c ≡ Some d → Swaps ccc_of_part (Fulls (s ∷ ms ++ c ∷ rest)) (Fulls (d ∷ ms ++ rest))
  swaps_composed s c d ms rest item_s item_c items free composes =
      no_swap (ap (λ l. full s ++ l) (flat_map-append full ms (c ∷ rest) ∙ sym (append_assoc (Fulls ms) (full c) (Fulls rest))))
      ⟫ Swaps-after (full s) (Swaps-before (Fulls rest) (past_marks ms c items item_c free))
      ⟫ no_swap (ap (λ l. full s ++ l) (append_assoc (full c) (Fulls ms) (Fulls rest))
      ∙ sym (append_assoc (full s) (full c) (Fulls ms ++ Fulls rest)))
      ⟫ Swaps-before (Fulls ms ++ Fulls rest) (Swaps-sym (lawful.composes s c d item_s item_c composes))
      ⟫ no_swap (ap (λ l. full d ++ l) (sym (flat_map-append full ms rest)))

  recomposed_from-preserves : (s : A) (ms rest : List A) → IsItem s → AllByRecursion IsItem ms → AllByRecursion IsItem rest
      → Swaps ccc_of_part (Fulls (s ∷ ms ++ rest)) (Fulls (recomposed_from ccc (is_blocked ccc) is_mark compose s ms rest))
  recomposed_from-preserves =
      by_steps ccc (is_blocked ccc) is_mark compose (λ s ms rest out. IsItem s → AllByRecursion IsItem ms
      → AllByRecursion IsItem rest
      → Swaps ccc_of_part (Fulls (s ∷ ms ++ rest)) (Fulls out)) (record {
        ends = λ s ms item_s items rest_items. no_swap (ap (λ l. Fulls (s ∷ l)) (append-nil ms));
        composes = λ s ms c d rest out found free made later item_s items rest_items.
            swaps_composed s c d ms rest item_s rest_items.0 items free made
            ⟫ later (lawful.items s c d item_s rest_items.0 made) items rest_items.1;
        starts = λ s ms c rest out none start later item_s items rest_items.
            no_swap (ap (λ l. full s ++ l) (flat_map-append full ms (c ∷ rest)))
            ⟫ Swaps-after (full s) (Swaps-after (Fulls ms) (later rest_items.0 tt rest_items.1))
            ⟫ no_swap (ap (λ l. full s ++ l) (sym (flat_map-append full ms out)));
        passes = λ s ms c rest out none mark later item_s items rest_items.
            no_swap (ap (λ l. Fulls (s ∷ l)) (sym (append_assoc ms (c ∷ []) rest)))
            ⟫ later item_s (push_all IsItem ms c items rest_items.0) rest_items.1;
      })

  -- recomposing leaves a text equivalent to the one that went in
  pub recomposed-preserves : (xs : List A) → AllByRecursion IsItem xs
      → Swaps ccc_of_part (Fulls xs) (Fulls (recomposed ccc (is_blocked ccc) is_mark compose xs))
  recomposed-preserves [] items = done
  recomposed-preserves (x ∷ xs) items = recomposed_from-preserves x [] xs items.0 tt items.1
