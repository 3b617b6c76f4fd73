-- A selection has its pieces, and nothing else.
use Rattle.std.proofs.Common.{◌≡◌, ◌⊎◌, ℕ, zero, suc, ◌<◌, ◌≤◌, max, min, true, false, ℤ, ◌≤ℤ◌, int_lt, List, [], ◌∷◌, length, Option, None, Some, refl, sym, subst, ◌∙◌, arith, inl, inr}
use Rattle.std.proofs.lemmas.Bool.{cases_Bool}
use Rattle.std.proofs.lemmas.Bool.Decides.{nat_tests}
use Rattle.std.proofs.lemmas.Int.{ints, int_min_is, int_max_is}
use Rattle.std.specs.Int.{int_min, int_max}
use Rattle.shape_carets.specs.Carets.{offset_at, x_at}
use Rattle.shape_carets.specs.Laws.{OffsetsRise, LiesBetween, IsCovered}
use Rattle.shape_carets.specs.Selections.{covered, is_selected, selection_of, span_between, united}
use Rattle.shape_carets.specs.declared.caret.Caret.{Caret}
use Rattle.shape_carets.specs.declared.selecting.Span.{Span}

-- a span has a place
abbrev pub Has : Option Span → ℤ → Type 0
Has None x = ⊥
Has (Some s) x = (s.start ≤ℤ x) × (x ≤ℤ s.end)

-- a place lies in a piece of which some is selected, by recursion
abbrev CoveredIn : List Caret → ℕ → ℕ → ℤ → Type 0
CoveredIn [] start end x = ⊥
CoveredIn (a ∷ []) start end x = ⊥
CoveredIn (a ∷ b ∷ carets) start end x =
    ((is_selected a.offset b.offset start end ≡ true) × LiesBetween a.x b.x x) ⊎ CoveredIn (b ∷ carets) start end x

abbrev RisesIn : List Caret → Type 0
RisesIn [] = Unit {0}
RisesIn (a ∷ []) = Unit {0}
RisesIn (a ∷ b ∷ carets) = (a.offset < b.offset) × RisesIn (b ∷ carets)

rises_in : (carets : List Caret) → OffsetsRise carets → RisesIn carets
rises_in [] rise = tt
rises_in (a ∷ []) rise = tt
rises_in (a ∷ b ∷ carets) rise = (rise 0 (omega arith), rises_in (b ∷ carets) (λ k lt. rise (suc k) (omega arith)))

covered_in : (carets : List Caret) (start end : ℕ) (x : ℤ) (k : ℕ) → suc k < length carets
    → is_selected (offset_at carets k) (offset_at carets (suc k)) start end ≡ true
    → LiesBetween (x_at carets k) (x_at carets (suc k)) x → CoveredIn carets start end x
covered_in [] start end x k lt selected lies = absurd (omega arith)
covered_in (a ∷ []) start end x k lt selected lies = absurd (omega arith)
covered_in (a ∷ b ∷ carets) start end x zero lt selected lies = inl (selected, lies)
covered_in (a ∷ b ∷ carets) start end x (suc k) lt selected lies = inr (covered_in (b ∷ carets) start end x k (omega arith) selected lies)

from_in : (carets : List Caret) (start end : ℕ) (x : ℤ) → CoveredIn carets start end x → IsCovered carets start end x
from_in [] start end x is = elim is [ ]
from_in (a ∷ []) start end x is = elim is [ ]
from_in (a ∷ b ∷ carets) start end x (inl here) = (0, omega arith, here.0, here.1)
from_in (a ∷ b ∷ carets) start end x (inr on) =
    let rest = from_in (b ∷ carets) start end x on in (suc rest.0, (let lt = rest.1 in omega arith), rest.2, rest.3)

covered-selected : (a b : Caret) (start end : ℕ) (rest : Option Span) → is_selected a.offset b.offset start end ≡ true
    → covered a b start end rest ≡ Some (united (span_between a.x b.x) rest)
covered-selected a b start end rest selected = rw selected refl

covered-other : (a b : Caret) (start end : ℕ) (rest : Option Span) → is_selected a.offset b.offset start end ≡ false
    → covered a b start end rest ≡ rest
covered-other a b start end rest other = rw other refl

-- ---- least and greatest

min_first : (a b x : ℤ) → a ≤ℤ x → int_min a b ≤ℤ x
min_first a b x le = omega (arith, ints, int_min_is a b)

min_second : (a b x : ℤ) → b ≤ℤ x → int_min a b ≤ℤ x
min_second a b x le = omega (arith, ints, int_min_is a b)

max_first : (a b x : ℤ) → x ≤ℤ a → x ≤ℤ int_max a b
max_first a b x le = omega (arith, ints, int_max_is a b)

max_second : (a b x : ℤ) → x ≤ℤ b → x ≤ℤ int_max a b
max_second a b x le = omega (arith, ints, int_max_is a b)

between : (a b x : ℤ) → LiesBetween a b x → (int_min a b ≤ℤ x) × (x ≤ℤ int_max a b)
between a b x (inl lies) = (min_first a b x lies.0, max_second a b x lies.1)
between a b x (inr lies) = (min_second a b x lies.0, max_first a b x lies.1)

in_own : (a b x : ℤ) → int_min a b ≤ℤ x → x ≤ℤ int_max a b → LiesBetween a b x
in_own a b x low high = elim (cases_Bool (int_lt b a)) [
  | inl gt ↦ inr (omega (arith, ints, int_min_is a b), omega (arith, ints, int_max_is a b))
  | inr le ↦ inl (omega (arith, ints, int_min_is a b), omega (arith, ints, int_max_is a b))
]

has_own : (a b : ℤ) (rest : Option Span) (x : ℤ) → LiesBetween a b x → Has (Some (united (span_between a b) rest)) x
has_own a b None x lies = between a b x lies
has_own a b (Some t) x lies =
    (min_first (int_min a b) t.start x (between a b x lies).0, max_first (int_max a b) t.end x (between a b x lies).1)

has_rest : (a b : ℤ) (rest : Option Span) (x : ℤ) → Has rest x → Has (Some (united (span_between a b) rest)) x
has_rest a b None x has = elim has [ ]
has_rest a b (Some t) x has = (min_second (int_min a b) t.start x has.0, max_second (int_max a b) t.end x has.1)

has_pieces : (carets : List Caret) (start end : ℕ) (x : ℤ) → CoveredIn carets start end x → Has (selection_of carets start end) x
has_pieces [] start end x is = elim is [ ]
has_pieces (a ∷ []) start end x is = elim is [ ]
has_pieces (a ∷ b ∷ carets) start end x (inl here) =
    let rest = selection_of (b ∷ carets) start end in
    subst (λ s. Has s x) (sym (covered-selected a b start end rest here.0)) (has_own a.x b.x rest x here.1)
has_pieces (a ∷ b ∷ carets) start end x (inr on) =
    let rest = selection_of (b ∷ carets) start end in
    let has = has_pieces (b ∷ carets) start end x on in
    elim (cases_Bool (is_selected a.offset b.offset start end)) [
      | inl selected ↦ subst (λ s. Has s x) (sym (covered-selected a b start end rest selected)) (has_rest a.x b.x rest x has)
      | inr other ↦ subst (λ s. Has s x) (sym (covered-other a b start end rest other)) has
    ]

span_had : (s : Option Span) (x : ℤ) → Has s x → (span : Span) × (s ≡ Some span) × (span.start ≤ℤ x) × (x ≤ℤ span.end)
span_had None x has = elim has [ ]
span_had (Some span) x has = (span, refl, has.0, has.1)

pub selection-pieces : (carets : List Caret) (start end : ℕ) (x : ℤ) → IsCovered carets start end x
    → (span : Span) × (selection_of carets start end ≡ Some span) × (span.start ≤ℤ x) × (x ≤ℤ span.end)
selection-pieces carets start end x is =
    span_had (selection_of carets start end) x (has_pieces carets start end x (covered_in carets start end x is.0 is.1 is.2 is.3))

-- ---- no gap

none_after : (c : Caret) (carets : List Caret) (start end : ℕ) → RisesIn (c ∷ carets) → end ≤ c.offset → selection_of (c ∷ carets) start end ≡ None
none_after c [] start end rise le = refl
none_after c (d ∷ carets) start end rise le =
    let other : is_selected c.offset d.offset start end ≡ false = grind (arith, nat_tests, le) in
    let up = rise.0 in
    covered-other c d start end (selection_of (d ∷ carets) start end) other ∙ none_after d carets start end rise.1 (omega arith)

-- what is selected on from a piece begins at its end
touches : (a b : Caret) (carets : List Caret) (start end : ℕ) (t : Span) → RisesIn (b ∷ carets) → is_selected a.offset b.offset start end ≡ true
    → selection_of (b ∷ carets) start end ≡ Some t → Has (Some t) b.x
touches a b [] start end t rise selected is = absurd (let e : None ≡ Some t = is in cc)
touches a b (c ∷ carets) start end t rise selected is =
    let rest = selection_of (c ∷ carets) start end in
    elim (cases_Bool (is_selected b.offset c.offset start end)) [
      | inl next ↦
          subst (λ s. Has s b.x) (sym (covered-selected b c start end rest next) ∙ is)
          (has_own b.x c.x rest b.x (elim (cases_Bool (int_lt c.x b.x)) [
            | inl gt ↦ inr (omega (arith, ints), omega (arith, ints))
            | inr le ↦ inl (omega (arith, ints), omega (arith, ints))
          ]))
      | inr other ↦
          let up = rise.0 in
          let before : max a.offset start < min b.offset end = grind (arith, nat_tests, selected) in
          let after : min c.offset end ≤ max b.offset start = grind (arith, nat_tests, other) in
          let past : end ≤ c.offset = omega arith in
          absurd (let e = sym (none_after c carets start end rise.1 past) ∙ sym (covered-other b c start end rest other) ∙ is in
          let clash : None ≡ Some t = e in cc)
    ]

-- what the piece and the rest have, one of them does, since they have b in common
one_of : (a b : ℤ) (t : Span) (x : ℤ) → Has (Some t) b → Has (Some (united (span_between a b) (Some t))) x → LiesBetween a b x ⊎ Has (Some t) x
one_of a b t x both within =
    let low : int_min (int_min a b) t.start ≤ℤ x = within.0 in
    let high : x ≤ℤ int_max (int_max a b) t.end = within.1 in
    let left = both.0 in
    let right = both.1 in
    let left_is = int_min_is a b in
    let right_is = int_max_is a b in
    let start_is = int_min_is (int_min a b) t.start in
    let end_is = int_max_is (int_max a b) t.end in
    elim (cases_Bool (int_lt x (int_min a b))) [
      | inl before ↦ inr (omega (arith, ints), omega (arith, ints))
      | inr from ↦ elim (cases_Bool (int_lt (int_max a b) x)) [
        | inl after ↦ inr (omega (arith, ints), omega (arith, ints))
        | inr up_to ↦ inl (in_own a b x (omega (arith, ints)) (omega (arith, ints)))
      ]
    ]

one_more : (a b : Caret) (carets : List Caret) (start end : ℕ) (x : ℤ) (rest : Option Span) → RisesIn (b ∷ carets)
    → selection_of (b ∷ carets) start end ≡ rest → is_selected a.offset b.offset start end ≡ true
    → Has (Some (united (span_between a.x b.x) rest)) x → LiesBetween a.x b.x x ⊎ Has rest x
one_more a b carets start end x None rise is selected within = inl (in_own a.x b.x x within.0 within.1)
one_more a b carets start end x (Some t) rise is selected within =
    one_of a.x b.x t x (touches a b carets start end t rise selected is) within

no_gap : (carets : List Caret) (start end : ℕ) (x : ℤ) → RisesIn carets → Has (selection_of carets start end) x → CoveredIn carets start end x
no_gap [] start end x rise has = elim has [ ]
no_gap (a ∷ []) start end x rise has = elim has [ ]
no_gap (a ∷ b ∷ carets) start end x rise has =
    let rest = selection_of (b ∷ carets) start end in
    elim (cases_Bool (is_selected a.offset b.offset start end)) [
      | inl selected ↦ elim (one_more a b carets start end x rest rise.1 refl selected
          (subst (λ s. Has s x) (covered-selected a b start end rest selected) has)) [
            | inl here ↦ inl (selected, here)
            | inr on ↦ inr (no_gap (b ∷ carets) start end x rise.1 on)
          ]
      | inr other ↦ inr (no_gap (b ∷ carets) start end x rise.1 (subst (λ s. Has s x) (covered-other a b start end rest other) has))
    ]

pub selection-no_gap : (carets : List Caret) (start end : ℕ) (span : Span) (x : ℤ) → OffsetsRise carets → selection_of carets start end ≡ Some span
    → span.start ≤ℤ x → x ≤ℤ span.end → IsCovered carets start end x
selection-no_gap carets start end span x rise is low high =
    from_in carets start end x (no_gap carets start end x (rises_in carets rise) (subst (λ s. Has s x) (sym is) (low, high)))
