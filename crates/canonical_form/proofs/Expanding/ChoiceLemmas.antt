-- What the choice of an expansion is, keeps and brings in.
use Rattle.std.proofs.Common.{◌≡◌, ℕ, zero, suc, ◌<◌, ◌≤◌, ◌⊎◌, Bool, true, false, if◌then◌else◌, List, [], ◌∷◌, ◌++◌, Option, Some, None, unwrap_or, flat_map, refl, sym, ap, ap₂, subst, ◌∙◌, arith, inl, inr, append-nil}
use Rattle.std.proofs.lemmas.Bool.{cond-true, cond-false, cases_Bool, cases_eq, cases_order, both_ways, and_parts}
use Rattle.std.proofs.lemmas.Grind.{flat_map-append}
use Rattle.std.proofs.lemmas.List.Elements.{All-push, All-nil}
use Rattle.std.proofs.lemmas.List.Folds.{list_all-append}
use Rattle.std.proofs.lemmas.List.Sums.{AllPass-from_list_all}
use Rattle.std.proofs.lemmas.Option.{none-some}
use Rattle.std.specs.List.{All, list_all}
use Rattle.std.specs.Option.{option_map, option_or}
use Rattle.canonical_form.proofs.Expanding.ChainLemmas.{full-stays, full-splits, full_text-kept_part}
use Rattle.canonical_form.proofs.Expanding.ExpansionLemmas.{expansion-suc, expansion-end, expansion-none}
use Rattle.canonical_form.proofs.Expanding.ExpandedLemmas.{expanded-parts, expanded-plain}
use Rattle.canonical_form.proofs.Lists.OptionLemmas.{cases_Option}
use Rattle.canonical_form.specs.Chain.{FallsAlong, kept_part, full, full_text}
use Rattle.canonical_form.specs.Decompositions.{Decompositions}
use Rattle.canonical_form.specs.Choice.{IsGreatestSupported, IsLeastSupported, HasNoneSupported, HasGlyphOrIs}
use Rattle.canonical_form.specs.Expanded.{expanded_text}
use Rattle.canonical_form.specs.Expansion.{expansion, is_supported, supported, least_supported, greatest_supported, chosen_expansion, choice}
use Rattle.canonical_form.specs.SplitsFall.{SplitsFall}

or_none : {A : Type 0} (o p : Option A) → option_or o p ≡ None → (o ≡ None) × (p ≡ None)
or_none None p e = (refl, e)
or_none (Some x) p e = absurd (none-some x (sym e))

or_some : {A : Type 0} (o p : Option A) (x : A) → option_or o p ≡ Some x → (o ≡ Some x) ⊎ ((o ≡ None) × (p ≡ Some x))
or_some None p x e = inr (refl, e)
or_some (Some y) p x e = inl e

-- an expansion that is supported, or else none
if_supported : (has_glyph : ℕ → Bool) (o : Option (List ℕ)) (l : List ℕ)
    → (if is_supported has_glyph o then o else None) ≡ Some l → (o ≡ Some l) × (list_all has_glyph l ≡ true)
if_supported has_glyph None l e = absurd (none-some l e)
if_supported has_glyph (Some xs) l e =
    elim (cases_Bool (list_all has_glyph xs)) [
      | inl pass ↦
          let at : Some xs ≡ Some l = sym (cond-true _ (Some xs) None pass) ∙ e in
          let same : xs ≡ l = cc in
          (at, subst (λ m. list_all has_glyph m ≡ true) same pass)
      | inr fail ↦ absurd (none-some l (sym (cond-false _ (Some xs) None fail) ∙ e))
    ]

if_unsupported : (has_glyph : ℕ → Bool) (o : Option (List ℕ)) → (if is_supported has_glyph o then o else None) ≡ None
    → is_supported has_glyph o ≡ false
if_unsupported has_glyph None e = refl
if_unsupported has_glyph (Some xs) e =
    elim (cases_Bool (list_all has_glyph xs)) [
      | inl pass ↦ absurd (none-some xs (sym e ∙ cond-true _ (Some xs) None pass))
      | inr fail ↦ fail
    ]

module _ (split : ℕ → Option (ℕ × ℕ)) (has_glyph : ℕ → Bool) where
  abbrev at_length : ℕ → ℕ → Option (List ℕ)
  at_length = supported split has_glyph

  next_none : (c n k : ℕ) → at_length (suc n) c ≡ None → (k ≤ n → at_length k c ≡ None) → k ≤ suc n → at_length k c ≡ None
  next_none c n k last before below =
      elim (cases_eq k (suc n)) [ inl same ↦ ap (λ j. at_length j c) same ∙ last | inr other ↦ before (omega arith) ]

  greatest-none : (n c k : ℕ) → greatest_supported split has_glyph n c ≡ None → 0 < k → k ≤ n → at_length k c ≡ None
  greatest-none zero c k e above below = absurd (omega arith)
  greatest-none (suc n) c k e above below =
      let parts = or_none (at_length (suc n) c) (greatest_supported split has_glyph n c) e in
      next_none c n k parts.0 (λ lower. greatest-none n c k parts.1 above lower) below

  least-none : (n c k : ℕ) → least_supported split has_glyph n c ≡ None → 0 < k → k ≤ n → at_length k c ≡ None
  least-none zero c k e above below = absurd (omega arith)
  least-none (suc n) c k e above below =
      let parts = or_none (least_supported split has_glyph n c) (at_length (suc n) c) e in
      next_none c n k parts.1 (λ lower. least-none n c k parts.0 above lower) below

  greatest-some : (n c : ℕ) (l : List ℕ) → greatest_supported split has_glyph n c ≡ Some l
      → (k : ℕ) × (0 < k) × (k ≤ n) × (at_length k c ≡ Some l) × ((j : ℕ) → k < j → j ≤ n → at_length j c ≡ None)
  greatest-some zero c l e = absurd (none-some l e)
  greatest-some (suc n) c l e =
      elim (or_some (at_length (suc n) c) (greatest_supported split has_glyph n c) l e) [
        | inl found ↦ (suc n, omega arith, omega arith, found, λ j above below. absurd (omega arith))
        | inr (none, later) ↦
            let rest = greatest-some n c l later in (
              rest.0,
              rest.1,
              omega (arith, rest.2),
              rest.3,
              λ j above below.
                  next_none c n j none (λ lower. rest.4 j above lower) below,
            )
      ]

  least-some : (n c : ℕ) (l : List ℕ) → least_supported split has_glyph n c ≡ Some l
      → (k : ℕ) × (0 < k) × (k ≤ n) × (at_length k c ≡ Some l) × ((j : ℕ) → 0 < j → j < k → at_length j c ≡ None)
  least-some zero c l e = absurd (none-some l e)
  least-some (suc n) c l e =
      elim (or_some (least_supported split has_glyph n c) (at_length (suc n) c) l e) [
        | inl found ↦
            let rest = least-some n c l found in
            (rest.0, rest.1, omega (arith, rest.2), rest.3, rest.4)
        | inr (none, later) ↦ (suc n, omega arith, omega arith, later, λ j above below. least-none n c j none above (omega arith))
      ]

  -- what was found at length k, and is there nowhere if `rest` is none
  found_at_length : (c k : ℕ) (l : List ℕ) → at_length k c ≡ Some l
      → (expansion split k c ≡ Some l) × (is_supported has_glyph (expansion split k c) ≡ true)
  found_at_length c k l e =
      let parts = if_supported has_glyph (expansion split k c) l e in
      (parts.0, ap (is_supported has_glyph) parts.0 ∙ parts.1)

  none_at_length : (c k : ℕ) → at_length k c ≡ None → is_supported has_glyph (expansion split k c) ≡ false
  none_at_length c k e = if_unsupported has_glyph (expansion split k c) e

  pub least_found : (n c : ℕ) (l : List ℕ) → least_supported split has_glyph n c ≡ Some l → IsLeastSupported split has_glyph c l
  least_found n c l e =
      let at = least-some n c l e in
      let found = found_at_length c at.0 l at.3 in
      record {
        length = at.0;
        above = at.1;
        is = found.0;
        supported = found.1;
        none_shorter = λ k above shorter. none_at_length c k (at.4 k above shorter);
      }

module _ (D : Decompositions) (has_glyph : ℕ → Bool) (falling : FallsAlong D.split D.height) where
  none_past : (c k : ℕ) → D.height c < k → is_supported has_glyph (expansion D.split k c) ≡ false
  none_past c k above = ap (is_supported has_glyph) (expansion-none D falling k c above)

  none_anywhere : (c : ℕ) → ((k : ℕ) → 0 < k → k ≤ D.height c → at_length D.split has_glyph k c ≡ None)
      → HasNoneSupported D.split has_glyph c
  none_anywhere c none k above =
      elim (cases_order k (D.height c)) [
        | inl same ↦ none_at_length D.split has_glyph c k (none k above (omega arith))
        | inr (inl below) ↦ none_at_length D.split has_glyph c k (none k above (omega arith))
        | inr (inr past) ↦ none_past c k past
      ]

  pub greatest_none : (c : ℕ) → greatest_supported D.split has_glyph (D.height c) c ≡ None → HasNoneSupported D.split has_glyph c
  greatest_none c e = none_anywhere c (λ k above below. greatest-none D.split has_glyph (D.height c) c k e above below)

  pub least_none : (c : ℕ) → least_supported D.split has_glyph (D.height c) c ≡ None → HasNoneSupported D.split has_glyph c
  least_none c e = none_anywhere c (λ k above below. least-none D.split has_glyph (D.height c) c k e above below)

  pub greatest_found : (c : ℕ) (l : List ℕ) → greatest_supported D.split has_glyph (D.height c) c ≡ Some l
      → IsGreatestSupported D.split has_glyph c l
  greatest_found c l e =
      let at = greatest-some D.split has_glyph (D.height c) c l e in
      let found = found_at_length D.split has_glyph c at.0 l at.3 in
      record {
        length = at.0;
        above = at.1;
        is = found.0;
        supported = found.1;
        none_longer = λ k longer. beyond at.0 at.4 k longer;
      }
    where
      beyond : (n : ℕ) → ((j : ℕ) → n < j → j ≤ D.height c → at_length D.split has_glyph j c ≡ None) → (k : ℕ) → n < k
          → is_supported has_glyph (expansion D.split k c) ≡ false
      beyond n none k longer =
          elim (cases_order k (D.height c)) [
            | inl same ↦ none_at_length D.split has_glyph c k (none k longer (omega arith))
            | inr (inl below) ↦ none_at_length D.split has_glyph c k (none k longer (omega arith))
            | inr (inr past) ↦ none_past c k past
          ]

-- ---- what a choice is made of

-- a choice is the character itself or an expansion
abbrev pub IsSomeExpansion : (ℕ → Option (ℕ × ℕ)) → ℕ → List ℕ → Type 0
IsSomeExpansion split c l = (k : ℕ) × (expansion split k c ≡ Some l)

module _ (D : Decompositions) (has_glyph : ℕ → Bool) where
  -- what is chosen is an expansion of some length, each of whose characters has a glyph
  chosen_expands : (short : Bool) (c : ℕ) (l : List ℕ) → chosen_expansion D has_glyph short c ≡ Some l
      → (k : ℕ) × (expansion D.split k c ≡ Some l) × (list_all has_glyph l ≡ true)
  chosen_expands false c l e =
      let at = greatest-some D.split has_glyph (D.height c) c l e in
      let found = if_supported has_glyph (expansion D.split at.0 c) l at.3 in
      (at.0, found.0, found.1)
  chosen_expands true c l e =
      elim (cases_Bool (has_glyph c)) [
        | inl whole ↦ absurd (none-some l (sym (cond-true _ None (least_supported D.split has_glyph (D.height c) c) whole) ∙ e))
        | inr lacks ↦
            let least = sym (cond-false _ None (least_supported D.split has_glyph (D.height c) c) lacks) ∙ e in
            let at = least-some D.split has_glyph (D.height c) c l least in
            let found = if_supported has_glyph (expansion D.split at.0 c) l at.3 in
            (at.0, found.0, found.1)
      ]

  pub chosen_glyphs : (short : Bool) (c : ℕ) (l : List ℕ) → chosen_expansion D has_glyph short c ≡ Some l
      → list_all has_glyph l ≡ true
  chosen_glyphs short c l e = (chosen_expands short c l e).2

  itself_glyphs : (c : ℕ) → All (HasGlyphOrIs has_glyph c) (c ∷ [])
  itself_glyphs c = All-push (HasGlyphOrIs has_glyph c) [] c (All-nil (HasGlyphOrIs has_glyph c)) (inr refl)

  or_itself_glyphs : (c : ℕ) (o : Option (List ℕ)) → ((l : List ℕ) → o ≡ Some l → list_all has_glyph l ≡ true)
      → All (HasGlyphOrIs has_glyph c) (unwrap_or o (c ∷ []))
  or_itself_glyphs c None glyphs = itself_glyphs c
  or_itself_glyphs c (Some l) glyphs = λ k d h. inl (AllPass-from_list_all has_glyph l (glyphs l refl) k d h)

  -- each character of a choice is the character itself or has a glyph
  pub choice_glyphs : (short : Bool) (c : ℕ) → All (HasGlyphOrIs has_glyph c) (choice D has_glyph short c)
  choice_glyphs short c = or_itself_glyphs c (chosen_expansion D has_glyph short c) (λ l e. chosen_glyphs short c l e)

  or_itself_expansion : (c : ℕ) (o : Option (List ℕ)) → ((l : List ℕ) → o ≡ Some l → IsSomeExpansion D.split c l)
      → IsSomeExpansion D.split c (unwrap_or o (c ∷ []))
  or_itself_expansion c None found = (0, refl)
  or_itself_expansion c (Some l) found = found l refl

  pub choice_expansion : (short : Bool) (c : ℕ) → IsSomeExpansion D.split c (choice D has_glyph short c)
  choice_expansion short c =
      or_itself_expansion c (chosen_expansion D has_glyph short c) (λ l e. let at = chosen_expands short c l e in (at.0, at.1))

-- ---- Full

module _ (D : Decompositions) (lawful : SplitsFall D) where
  -- Full of an expansion of c is Full of c
  pub full_text-expansion : (k c : ℕ) (l : List ℕ) → expansion D.split k c ≡ Some l → full_text D l ≡ full D c
  unfolding full_text
  full_text-expansion zero c l e =
      let same : c ∷ [] ≡ l = cc in
      ap (flat_map (full D)) (sym same) ∙ append-nil (full D c)
  full_text-expansion (suc k) c l e = outer (D.split c) refl (λ a parts found. full_text-expansion k a parts found)
    where
      inner : (a b : ℕ) → D.split c ≡ Some (a, b) → (o : Option (List ℕ)) → expansion D.split k a ≡ o
          → option_map (λ xs. xs ++ kept_part b) o ≡ Some l
          → ((parts : List ℕ) → expansion D.split k a ≡ Some parts → flat_map (full D) parts ≡ full D a)
          → flat_map (full D) l ≡ full D c
      inner a b splits None found none later = absurd (none-some l none)
      inner a b splits (Some parts) found some later =
          let same : parts ++ kept_part b ≡ l = cc in
          ap (flat_map (full D)) (sym same) ∙ flat_map-append (full D) parts (kept_part b)
          ∙ ap₂ ◌++◌ (later parts found) (full_text-kept_part D lawful c a b splits)
          ∙ sym (full-splits D lawful.height_falls c a b splits)

      outer : (o : Option (ℕ × ℕ)) → D.split c ≡ o
          → ((a : ℕ) (parts : List ℕ) → expansion D.split k a ≡ Some parts → flat_map (full D) parts ≡ full D a)
          → flat_map (full D) l ≡ full D c
      outer None whole later = absurd (none-some l (sym (expansion-end D.split k c whole) ∙ e))
      outer (Some p) splits later =
          inner p.0 p.1 splits (expansion D.split k p.0) refl (sym (expansion-suc D.split k c p.0 p.1 splits) ∙ e)
          (λ parts found. later p.0 parts found)

  -- a choice keeps Full
  pub full_text-choice : (has_glyph : ℕ → Bool) (short : Bool) (c : ℕ) → full_text D (choice D has_glyph short c) ≡ full D c
  full_text-choice has_glyph short c =
      let at = choice_expansion D has_glyph short c in
      full_text-expansion at.0 c _ at.1

  -- so do the choices of a text, in sequences with marks and by themselves
  pub full_text-expanded : (has_glyph is_mark : ℕ → Bool) (short : Bool → Bool) (text : List ℕ)
      → full_text D (expanded_text D has_glyph is_mark short text) ≡ full_text D text
  unfolding full_text
  full_text-expanded has_glyph is_mark short text =
      expanded-parts is_mark (λ with_marks. choice D has_glyph (short with_marks)) (full D) (full D)
      (λ with_marks c. full_text-choice has_glyph (short with_marks) c) text

-- ---- with a glyph for all of Full

module _ (D : Decompositions) (falling : FallsAlong D.split D.height) where
  -- the chain of c ends: at some length the expansion is Full, and none is longer
  pub record EndsAt (c n : ℕ) : Type 0 where
    pub within : n ≤ D.height c
    pub whole : expansion D.split n c ≡ Some (full D c)
    pub none_longer : (j : ℕ) → n < j → expansion D.split j c ≡ None

  end_here : (c : ℕ) → D.split c ≡ None → (j : ℕ) → 0 < j → expansion D.split j c ≡ None
  end_here c last zero above = absurd (omega arith)
  end_here c last (suc j) above = expansion-end D.split j c last

  ends_whole : (c : ℕ) → D.split c ≡ None → (n : ℕ) × EndsAt c n
  ends_whole c last =
      (0, record { within = omega arith; whole = ap Some (sym (full-stays D falling c last)); none_longer = end_here c last })

  ends_later : (c a b n : ℕ) → D.split c ≡ Some (a, b) → EndsAt a n → EndsAt c (suc n)
  ends_later c a b n splits end =
      let falls = falling.falls c a b splits in
      record {
        within = omega (arith, end.within);
        whole =
            expansion-suc D.split n c a b splits ∙ ap (option_map (λ parts. parts ++ kept_part b)) end.whole
            ∙ ap Some (sym (full-splits D falling c a b splits));
        none_longer = λ j above. longer j above;
      }
    where
      longer : (j : ℕ) → suc n < j → expansion D.split j c ≡ None
      longer zero above = absurd (omega arith)
      longer (suc j) above =
          expansion-suc D.split j c a b splits ∙ ap (option_map (λ parts. parts ++ kept_part b)) (end.none_longer j (omega arith))

  pub chain_end : (m c : ℕ) → D.height c ≤ m → (n : ℕ) × EndsAt c n
  chain_end zero c low = go (D.split c) refl
    where
      go : (o : Option (ℕ × ℕ)) → D.split c ≡ o → (n : ℕ) × EndsAt c n
      go None e = ends_whole c e
      go (Some p) e = absurd (omega (arith, falling.falls c p.0 p.1 e))
  chain_end (suc m) c low =
      elim (cases_Option (D.split c)) [
        | inl last ↦ ends_whole c last
        | inr (p, splits) ↦
            let falls = falling.falls c p.0 p.1 splits in
            let rest = chain_end m p.0 (omega arith) in
            (suc rest.0, ends_later c p.0 p.1 rest.0 splits rest.1)
      ]

  at_end : (has_glyph : ℕ → Bool) (c n : ℕ) → EndsAt c n → list_all has_glyph (full D c) ≡ true → (o : Option (List ℕ))
      → greatest_supported D.split has_glyph (D.height c) c ≡ o → unwrap_or o (c ∷ []) ≡ full D c
  at_end has_glyph c n end glyphs None e =
      let pass : is_supported has_glyph (expansion D.split n c) ≡ true = ap (is_supported has_glyph) end.whole ∙ glyphs in
      let last : n ≡ 0 =
      elim (cases_eq n 0) [
        | inl null ↦ null
        | inr long ↦ absurd
            (both_ways _ (greatest_none D has_glyph falling c e n (omega arith)) pass)
      ] in
      let itself : Some (c ∷ []) ≡ Some (full D c) = ap (λ k. expansion D.split k c) (sym last) ∙ end.whole in
      cc
  at_end has_glyph c n end glyphs (Some l) e =
      let pass : is_supported has_glyph (expansion D.split n c) ≡ true = ap (is_supported has_glyph) end.whole ∙ glyphs in
      let found = greatest_found D has_glyph falling c l e in
      let same : found.length ≡ n =
      elim (cases_order found.length n) [
        | inl same ↦ same
        | inr (inl shorter) ↦ absurd (both_ways _ (found.none_longer n shorter) pass)
        | inr (inr longer) ↦ absurd (none-some l (sym (end.none_longer found.length longer) ∙ found.is))
      ] in
      let whole : Some l ≡ Some (full D c) = sym found.is ∙ ap (λ k. expansion D.split k c) same ∙ end.whole in
      cc

  -- with a glyph for each character of Full of c, the choice of greatest length is Full of c
  pub choice-full : (has_glyph : ℕ → Bool) (c : ℕ) → list_all has_glyph (full D c) ≡ true → choice D has_glyph false c ≡ full D c
  choice-full has_glyph c glyphs =
      let end = chain_end (D.height c) c (omega arith) in
      at_end has_glyph c end.0 end.1 glyphs (greatest_supported D.split has_glyph (D.height c) c) refl

  -- and of a text, Full of the text
  choices-full : (has_glyph : ℕ → Bool) (text : List ℕ) → list_all has_glyph (full_text D text) ≡ true
      → flat_map (choice D has_glyph false) text ≡ full_text D text
  unfolding full_text
  choices-full has_glyph [] glyphs = refl
  choices-full has_glyph (c ∷ text) glyphs =
      let parts = and_parts _ _ (sym (list_all-append has_glyph (full D c) (flat_map (full D) text)) ∙ glyphs) in
      ap₂ ◌++◌ (choice-full has_glyph c parts.0) (choices-full has_glyph text parts.1)

  pub expanded-full : (has_glyph is_mark : ℕ → Bool) (text : List ℕ) → list_all has_glyph (full_text D text) ≡ true
      → expanded_text D has_glyph is_mark (λ with_marks. false) text ≡ full_text D text
  expanded-full has_glyph is_mark text glyphs =
      expanded-plain is_mark (λ with_marks. choice D has_glyph false) (choice D has_glyph false) (λ with_marks c. refl) text
      ∙ choices-full has_glyph text glyphs
