-- Fonts tried one after another.
use Rattle.std.proofs.Common.{◌≡◌, ◌≢◌, ℕ, zero, suc, ◌+◌, ◌<◌, Bool, true, false, List, [], ◌∷◌, ◌++◌, length, get_or, Option, Some, None, refl, sym, ap, subst, ◌∙◌, arith, inl, inr}
use Rattle.std.proofs.lemmas.Bool.{cases_Bool, false≢true}
use Rattle.std.proofs.lemmas.List.{same_from_push}
use Rattle.std.specs.List.{list_any}
use Rattle.std.specs.Prelude.{is_none}
use Rattle.font_fallback.specs.Choice.{AreTries, no_tries, one_more, HaveAll, found_in, first_with, has_by}

-- one more font, after those that were tried
pub first_with-push : (font : ℕ) (rows : List (List Bool)) (row : List Bool) (k : ℕ)
    → first_with font (rows ++ row ∷ []) k ≡ found_in (first_with font rows k) (font + length rows) (has_by row k)
first_with-push font [] row k = elim (cases_Bool (has_by row k)) [
  | inl has ↦ rw has (ap Some (omega arith))
  | inr hasnt ↦ rw hasnt refl
]
first_with-push font (first ∷ rows) row k =
    let rest = first_with-push (font + 1) rows row k in
    let count : (font + 1) + length rows ≡ font + suc (length rows) = omega arith in
    elim (cases_Bool (has_by first k)) [
      | inl has ↦ rw has refl
      | inr hasnt ↦ rw hasnt (rest ∙ ap (λ n. found_in (first_with (font + 1) rows k) n (has_by row k)) count)
    ]

pub AreTries-push : {C T : Type 0} {gives : C → ℕ → T → C → Type 0} {now then next : C} {font : ℕ} {tried : List T} {one : T} (count : ℕ)
    → AreTries gives now font tried then → count ≡ font + length tried → gives then count one next
    → AreTries gives now font (tried ++ one ∷ []) next
AreTries-push {gives} {then} {next} {font} {one} count no_tries is given =
    let here : count ≡ font = omega (arith, is) in
    one_more (subst (λ n. gives then n one next) here given) no_tries
AreTries-push count (one_more first rest) is given = one_more first (AreTries-push count rest (omega (arith, is)) given)

-- no cluster is without a font, if none of the list is
none_missed : (fonts : List (Option ℕ)) → list_any is_none fonts ≡ false → (k : ℕ) → k < length fonts → get_or fonts k None ≢ None
none_missed [] e k lt = absurd (omega arith)
none_missed (None ∷ fonts) e k lt = absurd (false≢true (sym e))
none_missed (Some font ∷ fonts) e zero lt = λ is. cc
none_missed (Some font ∷ fonts) e (suc k) lt = none_missed fonts e k (omega arith)

some_missed : (fonts : List (Option ℕ)) → list_any is_none fonts ≡ true → (k : ℕ) × (k < length fonts) × (get_or fonts k None ≡ None)
some_missed [] e = absurd (false≢true e)
some_missed (None ∷ fonts) e = (0, omega arith, refl)
some_missed (Some font ∷ fonts) e = let rest = some_missed fonts e in (suc rest.0, omega (arith, rest.1), rest.2)

-- the list of fonts found so far is that of the fonts that were tried
abbrev pub AreFound : List (Option ℕ) → List (List Bool) → ℕ → Type 0
AreFound found rows clusters = (k : ℕ) → k < clusters → get_or found k None ≡ first_with 0 rows k

pub HaveAll-none : (found : List (Option ℕ)) (rows : List (List Bool)) (clusters : ℕ) → length found ≡ clusters → AreFound found rows clusters
    → list_any is_none found ≡ false → HaveAll rows clusters
HaveAll-none found rows clusters each is none k lt missed = none_missed found none k (omega arith) (is k lt ∙ missed)

pub one_more_needed : (found : List (Option ℕ)) (rows : List (List Bool)) (clusters : ℕ) → length found ≡ clusters → AreFound found rows clusters
    → list_any is_none found ≡ true → (row : List Bool) (fewer : List (List Bool)) (last : List Bool) → rows ++ row ∷ [] ≡ fewer ++ last ∷ []
    → HaveAll fewer clusters → ⊥
one_more_needed found rows clusters each is some row fewer last same all =
    let missed = some_missed found some in
    let before = same_from_push rows fewer row last same in
    all missed.0 (omega (arith, missed.1)) (ap (λ r. first_with 0 r missed.0) (sym before.0) ∙ sym (is missed.0 (omega (arith, missed.1))) ∙ missed.2)
