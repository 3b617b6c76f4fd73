-- What a cache holds was shaped, and what was asked for is first.
use Rattle.std.proofs.Common.{◌≡◌, ℕ, zero, suc, ◌<◌, ◌≤◌, List, [], ◌∷◌, length, take, slice_get, nat_eq, true, Option, Some, None, refl, sym, ap, subst, ◌∙◌, arith, inl, inr}
use Rattle.std.proofs.lemmas.Bool.{cases_Bool, false≢true}
use Rattle.std.proofs.lemmas.Cmp.{nat_list_eq_equiv}
use Rattle.std.specs.Cmp.Lexicographic.{pointwise, same_text}
use Rattle.std.specs.List.{AllByRecursion}
use Rattle.std.specs.Option.{option_map_or}
use Rattle.shape_plan.specs.Run.{Run}
use Rattle.word_cache.specs.Keys.{key_of, spelled}
use Rattle.word_cache.specs.Laws.{IsFirst}
use Rattle.word_cache.specs.Shaping.{HoldsShaped, IsFresh, IsShaped, IsShapedTo}
use Rattle.word_cache.specs.Words.{Entry, Words, entry, has_key, found_entry, without, brought_first, HasKey, IsFront}

module _ (P : Entry → Type 0) where
  all-take : (n : ℕ) (es : List Entry) → AllByRecursion P es → AllByRecursion P (take n es)
  all-take zero es all = tt
  all-take (suc n) [] all = tt
  all-take (suc n) (e ∷ es) all = (all.0, all-take n es all.1)

  all-without : (key : List ℕ) (es : List Entry) → AllByRecursion P es → AllByRecursion P (without key es)
  all-without key [] all = tt
  all-without key (e ∷ es) all =
      elim (cases_Bool (has_key key e)) [
        | inl same ↦ rw same all.1
        | inr other ↦ rw other (all.0, all-without key es all.1)
      ]

  found-one : (key : List ℕ) (es : List Entry) (e : Entry) → found_entry key es ≡ Some e → AllByRecursion P es → P e
  found-one key [] e is all = absurd (let clash : None ≡ Some e = is in cc)
  found-one key (f ∷ es) e is all =
      elim (cases_Bool (has_key key f)) [
        | inl same ↦ let own : Some f ≡ Some e = rw same at is in let here : f ≡ e = cc in subst P here all.0
        | inr other ↦ found-one key es e (rw other at is) all.1
      ]

  all-first : (key : List ℕ) (es : List Entry) (o : Option Entry) → found_entry key es ≡ o → AllByRecursion P es
      → AllByRecursion P (option_map_or (λ e. e ∷ without key es) o es)
  all-first key es None is all = all
  all-first key es (Some e) is all = (found-one key es e is all, all-without key es all)

  pub all-brought : (key : List ℕ) (es : List Entry) → AllByRecursion P es → AllByRecursion P (brought_first key es)
  all-brought key es all = all-first key es (found_entry key es) refl all

  pub all-front : (limit : ℕ) (e : Entry) (es kept : List Entry) → P e → AllByRecursion P es → IsFront limit (e ∷ es) kept → AllByRecursion P kept
  all-front limit e es kept own all front = subst (AllByRecursion P) (sym front.is) (all-take front.count (e ∷ es) (own, all))

pub fresh-shaped : (runs : ℕ → Run) (number : ℕ) (spelling : List ℕ) (old new : Words) → HoldsShaped runs old
    → IsFresh (runs number) number spelling old new → HoldsShaped runs new
fresh-shaped runs number spelling old new all fresh =
    let key = key_of (runs number) number (spelled spelling) in
    all-front (IsShaped runs) old.limit (entry key fresh.word) old.entries new.entries
    (record { number = number; spelling = spelling; key_is = refl; is_shaped = fresh.is_shaped }) all fresh.kept.front

-- ---- the first

found-key : (key : List ℕ) (es : List Entry) → HasKey key es → (e : Entry) × (found_entry key es ≡ Some e) × (e.key ≡ key)
found-key key [] has = elim has [ ]
found-key key (f ∷ es) has =
    elim (cases_Bool (has_key key f)) [
      | inl same ↦ (f, rw same refl, sym (same_text key f.key (sym same)))
      | inr other ↦ elim has [
        | inl here ↦ absurd (false≢true (sym other ∙ subst (λ l. pointwise nat_eq key l ≡ true) (sym here) (nat_list_eq_equiv.refl key)))
        | inr on ↦ let rest = found-key key es on in (rest.0, rw other rest.1, rest.2)
      ]
    ]

pub found-first : (key : List ℕ) (es : List Entry) → HasKey key es → (e : Entry) × IsFirst key (brought_first key es) e
found-first key es has =
    let found = found-key key es has in
    let first : brought_first key es ≡ found.0 ∷ without key es = ap (λ o. option_map_or (λ e. e ∷ without key es) o es) found.1 in
    (found.0, (ap (λ l. slice_get l 0) first, found.2))

some_front : (limit count : ℕ) (e : Entry) (es kept : List Entry) → kept ≡ take count (e ∷ es) → (count < length (e ∷ es) → 1 ≤ count)
    → count ≤ length (e ∷ es) → slice_get kept 0 ≡ Some e
some_front limit zero e es kept is some le = let one = some (omega arith) in absurd (omega arith)
some_front limit (suc n) e es kept is some le = ap (λ l. slice_get l 0) is

pub fresh-first : (run : Run) (number : ℕ) (spelling : List ℕ) (old new : Words) → IsFresh run number spelling old new
    → (e : Entry) × IsFirst (key_of run number (spelled spelling)) new.entries e × IsShapedTo run spelling e.word
fresh-first run number spelling old new fresh =
    let e = entry (key_of run number (spelled spelling)) fresh.word in
    let front = fresh.kept.front in
    (e, (some_front old.limit front.count e old.entries new.entries front.is (λ lt. (front.most lt).0) front.within, refl), fresh.is_shaped)
