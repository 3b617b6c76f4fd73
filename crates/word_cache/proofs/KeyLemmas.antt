-- Entries under their keys, as the map has them and as they are shown.
use Rattle.std.proofs.Common.{◌≡◌, ℕ, ◌+◌, ◌-◌, ◌≤◌, Bool, true, false, nat_eq, is_some, List, [], ◌∷◌, length, Option, Some, None, Vec, Global, refl, sym, ap, subst, ◌∙◌, arith, inl, inr}
use Rattle.std.proofs.lemmas.Bool.{cases_Bool, false≢true}
use Rattle.std.proofs.lemmas.List.{take_all}
use Rattle.std.proofs.lemmas.Cmp.{nat_list_eq_equiv}
use Rattle.std.specs.Cmp.Lexicographic.{pointwise, same_text}
use Rattle.std.specs.Map.{lookup, lookup_entry, remove_entry}
use Rattle.std.specs.Option.{option_map_or}
use Rattle.lru.specs.LruCache.{LruCache, promoted, put_entries}
use Rattle.word_cache.specs.Words.{Entry, entry, entry_bytes, shown, total, has_key, found_entry, without, brought_first, HasKey}
use Rattle.word_cache.specs.declared.words.Word.{Word}
use Rattle.word_cache.proofs.TotalLemmas.{Raw}

-- lists that are equal number by number are one
same_list : (xs ys : List ℕ) → pointwise nat_eq xs ys ≡ true → xs ≡ ys
same_list xs ys e = same_text xs ys (sym e)

abbrev pub test_of : List ℕ → Vec ℕ Global → Bool
test_of key k = pointwise nat_eq key k.items

module _ (key : List ℕ) where
  pub has_from : (es : List Raw) → is_some (lookup (test_of key) es) ≡ true → HasKey key (shown es)
  has_from [] is = absurd (false≢true is)
  has_from (e ∷ es) is =
      elim (cases_Bool (test_of key e.0)) [
        | inl same ↦ inl (sym (same_list key e.0.items same))
        | inr other ↦ inr (has_from es (rw other at is))
      ]

  pub from_has : (es : List Raw) → HasKey key (shown es) → is_some (lookup (test_of key) es) ≡ true
  from_has (e ∷ es) (inl same) =
      let own : test_of key e.0 ≡ true = subst (λ l. pointwise nat_eq key l ≡ true) (sym same) (nat_list_eq_equiv.refl key) in
      rw own refl
  from_has (e ∷ es) (inr on) =
      elim (cases_Bool (test_of key e.0)) [
        | inl same ↦ rw same refl
        | inr other ↦ rw other (from_has es on)
      ]
  from_has [] has = elim has [ ]

  pub none_from : (es : List Raw) → is_some (lookup (test_of key) es) ≡ false → lookup_entry (test_of key) es ≡ None
  none_from [] is = refl
  none_from (e ∷ es) is =
      elim (cases_Bool (test_of key e.0)) [
        | inl same ↦ absurd (false≢true (sym (rw same at is)))
        | inr other ↦ rw other (none_from es (rw other at is))
      ]

  none_found : (es : List Raw) → is_some (lookup (test_of key) es) ≡ false → found_entry key (shown es) ≡ None
  none_found [] is = refl
  none_found (e ∷ es) is =
      elim (cases_Bool (test_of key e.0)) [
        | inl same ↦ absurd (false≢true (sym (rw same at is)))
        | inr other ↦ rw other (none_found es (rw other at is))
      ]

  -- without the key nothing is brought first
  pub brought-none : (es : List Raw) → is_some (lookup (test_of key) es) ≡ false → brought_first key (shown es) ≡ shown es
  brought-none es is = ap (λ o. option_map_or (λ e. e ∷ without key (shown es)) o (shown es)) (none_found es is)

  shown-remove : (es : List Raw) → shown (remove_entry (test_of key) es) ≡ without key (shown es)
  shown-remove [] = refl
  shown-remove (e ∷ es) =
      elim (cases_Bool (test_of key e.0)) [
        | inl same ↦ rw same refl
        | inr other ↦ rw other (ap (λ l. entry e.0.items e.1 ∷ l) (shown-remove es))
      ]

  abbrev show_found : Option Raw → Option Entry
  show_found None = None
  show_found (Some e) = Some (entry e.0.items e.1)

  shown-found : (es : List Raw) → show_found (lookup_entry (test_of key) es) ≡ found_entry key (shown es)
  shown-found [] = refl
  shown-found (e ∷ es) =
      elim (cases_Bool (test_of key e.0)) [
        | inl same ↦ rw same refl
        | inr other ↦ rw other (shown-found es)
      ]

  shown-first : (es rest : List Raw) (o : Option Raw) → shown (option_map_or (λ e. e ∷ rest) o es)
      ≡ option_map_or (λ e. e ∷ shown rest) (show_found o) (shown es)
  shown-first es rest None = refl
  shown-first es rest (Some e) = refl

  pub shown-promoted : (es : List Raw) → shown (promoted (test_of key) es) ≡ brought_first key (shown es)
  shown-promoted es =
      shown-first es (remove_entry (test_of key) es) (lookup_entry (test_of key) es)
      ∙ ap (λ o. option_map_or (λ e. e ∷ shown (remove_entry (test_of key) es)) o (shown es)) (shown-found es)
      ∙ ap (λ l. option_map_or (λ e. e ∷ l) (found_entry key (shown es)) (shown es)) (shown-remove es)

  -- ---- bytes stay

  total-without : (es : List Entry) (e : Entry) → found_entry key es ≡ Some e → total es ≡ entry_bytes e + total (without key es)
  total-without [] e is = absurd (let clash : None ≡ Some e = is in cc)
  total-without (f ∷ es) e is =
      elim (cases_Bool (has_key key f)) [
        | inl same ↦ let own : Some f ≡ Some e = rw same at is in let here : f ≡ e = cc in rw same (ap (λ x. entry_bytes x + total es) here)
        | inr other ↦ let rest = total-without es e (rw other at is) in rw other (omega arith)
      ]

  total-first : (es : List Entry) (o : Option Entry) → found_entry key es ≡ o → total (option_map_or (λ e. e ∷ without key es) o es) ≡ total es
  total-first es None is = refl
  total-first es (Some e) is = sym (total-without es e is)

  pub total-brought : (es : List Entry) → total (brought_first key es) ≡ total es
  total-brought es = total-first es (found_entry key es) refl

-- a new key goes first
pub put-absent : (c : LruCache (Vec ℕ Global) Word) (k : Vec ℕ Global) (v : Word) → is_some (lookup (test_of k.items) c.entries) ≡ false
    → length c.entries ≤ c.cap - 1 → put_entries (λ (a b : Vec ℕ Global). pointwise nat_eq a.items b.items) c k v ≡ (k, v) ∷ c.entries
put-absent c k v absent le = rw (none_from k.items c.entries absent) (ap (λ l. (k, v) ∷ l) (take_all (c.cap - 1) c.entries le))
