-- The walk of the cutter: what an end does to a line, and what each piece adds.
use Rattle.std.proofs.Common.{◌≡◌, ℕ, zero, suc, ◌+◌, ◌-◌, ◌<◌, ◌≤◌, true, false, ℤ, pos, ◌+ℤ◌, ◌≤ℤ◌, ◌<ℤ◌, List, [], ◌∷◌, ◌++◌, length, take, drop, ◌^◌, get_or, refl, sym, ap, subst, ◌∙◌, arith, inl, inr, append_assoc}
use Rattle.std.proofs.lemmas.Bool.{false≢true, cases_lt}
use Rattle.std.proofs.lemmas.Int.{ints, by_lt_z}
use Rattle.std.proofs.lemmas.List.{length-take, length-drop}
use Rattle.shape_lines.specs.declared.cutting.Line.{Line}
use Rattle.shape_lines.specs.declared.reading.Piece.{Piece}
use Rattle.shape_lines.specs.Pieces.{width_between, is_end, MayEnd, Fits, IsLineEnd, AreLines, AreNarrow, IsNarrow}
use Rattle.shape_lines.specs.Walked.{least, IsSmall, IsTaken, IsWalked}
use Rattle.shape_lines.proofs.TotalLemmas.{IsWithin-total, narrow-take, narrow-drop, width-split, width-none, width-more}
use Rattle.shape_lines.proofs.LeastLemmas.{least_at-below, least_at-reached}

module _ (ps : List Piece) (width : ℤ) (cut : ℕ → ℕ → Line) where
  -- if no longer piece fits, the line ends where it was taken to
  taken_ends : (start taken : ℕ) → IsTaken ps width start taken
      → ((later : ℕ) → taken < later → MayEnd ps start later → width <ℤ width_between ps start later)
      → IsLineEnd ps width start taken
  taken_ends start taken h none_longer =
      elim h.for [
        | inl some ↦ inl (record { may_end = h.may_end; fits = fits some.0 some.1 some.2 some.3; none_longer = none_longer })
        | inr none ↦
            by_lt_z width (width_between ps start taken)
            (λ wide. inr (record { may_end = h.may_end; none_fits = none_fits none wide; none_shorter = none }))
            (λ fit. inl (record { may_end = h.may_end; fits = fit; none_longer = none_longer }))
      ]
    where
      fits : (end : ℕ) → taken ≤ end → MayEnd ps start end → Fits ps width start end → Fits ps width start taken
      fits end le may_end fit =
          elim (cases_lt taken end) [
            | inl longer ↦ let wide = none_longer end longer may_end in absurd (omega (arith, ints))
            | inr same ↦ let is : end ≡ taken = omega arith in subst (λ e. Fits ps width start e) is fit
          ]

      none_fits : ((earlier : ℕ) → earlier < taken → MayEnd ps start earlier → ⊥) → width <ℤ width_between ps start taken
          → (other : ℕ) → MayEnd ps start other → width <ℤ width_between ps start other
      none_fits none wide other may_end =
          elim (cases_lt other taken) [
            | inl shorter ↦ absurd (none other shorter may_end)
            | inr le ↦
                elim (cases_lt taken other) [
                  | inl longer ↦ none_longer other longer may_end
                  | inr ge ↦ let is : taken ≡ other = omega arith in subst (λ e. width <ℤ width_between ps start e) is wide
                ]
          ]

  -- one line more
  lines_push : (lines : List Line) (start taken : ℕ) → IsLineEnd ps width start taken
      → ((rest : List Line) → AreLines ps width cut start rest → AreLines ps width cut 0 (lines ++ rest))
      → (rest : List Line) → AreLines ps width cut taken rest → AreLines ps width cut 0 ((lines ++ cut start taken ∷ []) ++ rest)
  lines_push lines start taken is_end_of_line lines_on rest later =
      subst (AreLines ps width cut 0) (sym (append_assoc lines (cut start taken ∷ []) rest))
      (lines_on (cut start taken ∷ rest) (taken, is_end_of_line, refl, later))

  module _ (lines : List Line) (start taken : ℕ) (so_far beyond : ℤ) (place : ℕ)
      (h : IsWalked ps width cut lines start taken so_far beyond place place) (is : is_end ps place ≡ true) (within : place ≤ length ps) where
    -- nothing ends between what was taken and this place
    later_from : (end : ℕ) → taken < end → is_end ps end ≡ true → place ≤ end
    later_from end longer ends_there =
        elim (cases_lt end place) [
          | inl before ↦ absurd (false≢true (sym (h.none_since end longer before) ∙ ends_there))
          | inr le ↦ le
        ]

    place_ends : MayEnd ps start place
    place_ends = let order = h.order in let ahead = h.ahead in record { after = omega arith; within = within; is = is }

    none_new : (end : ℕ) → place < end → end < place + 1 → is_end ps end ≡ false
    none_new end after before = absurd (omega arith)

    -- if some piece fits that ends here or later, the line is taken up to here
    pub IsWalked-taken : (so_far +ℤ least (drop place ps)) ≤ℤ width → IsWalked ps width cut lines start place so_far (pos 0) place (place + 1)
    IsWalked-taken fit =
        let at = least_at-reached ps place within in
        let reached = at.reached in
        let order = h.order in
        let ahead = h.ahead in
        let from = at.from in
        let sum = width-split ps start place at.end (omega arith) at.from in
        let is_sum = h.so_far_is in
        record {
          lines_on = h.lines_on;
          order = omega arith;
          ahead = omega arith;
          near = omega arith;
          within = omega arith;
          none_since = none_new;
          so_far_is = h.so_far_is;
          beyond_is = sym (width-none ps place);
          line = inr (record {
            may_end = place_ends;
            for = inl (at.end, from, record { after = omega arith; within = at.within; is = at.is }, omega (arith, ints));
          });
        }

    -- and if it has met no end yet
    pub IsWalked-begun : taken ≡ start → IsWalked ps width cut lines start place so_far (pos 0) place (place + 1)
    IsWalked-begun none =
        let order = h.order in
        let ahead = h.ahead in
        record {
          lines_on = h.lines_on;
          order = omega arith;
          ahead = omega arith;
          near = omega arith;
          within = omega arith;
          none_since = none_new;
          so_far_is = h.so_far_is;
          beyond_is = sym (width-none ps place);
          line = inr (record {
            may_end = place_ends;
            for = inr (λ earlier before may_end.
                let after = may_end.after in
                false≢true (sym (h.none_since earlier (omega arith) before) ∙ may_end.is));
          });
        }

    -- else the line ends where it was taken to, and a new one begins there
    pub IsWalked-ended : start < taken → width <ℤ (so_far +ℤ least (drop place ps))
        → IsWalked ps width cut (lines ++ cut start taken ∷ []) taken place beyond (pos 0) place (place + 1)
    IsWalked-ended some wide =
        let order = h.order in
        let ahead = h.ahead in
        record {
          lines_on = lines_push lines start taken (taken_ends start taken at_taken none_longer) h.lines_on;
          order = omega arith;
          ahead = omega arith;
          near = omega arith;
          within = omega arith;
          none_since = none_new;
          so_far_is = h.beyond_is;
          beyond_is = sym (width-none ps place);
          line = inr (record {
            may_end = record { after = omega arith; within = within; is = is };
            for = inr (λ earlier before may_end. false≢true (sym (h.none_since earlier may_end.after before) ∙ may_end.is));
          });
        }
      where
        at_taken : IsTaken ps width start taken
        at_taken = elim h.line [ inl none ↦ absurd (omega arith) | inr at ↦ at ]

        none_longer : (later : ℕ) → taken < later → MayEnd ps start later → width <ℤ width_between ps start later
        none_longer later longer may_end =
            let le : place ≤ later = later_from later longer may_end.is in
            let below = least_at-below ps place later le may_end.within may_end.is in
            let order = h.order in
            let ahead = h.ahead in
            let sum = width-split ps start place later (omega arith) le in
            let is_sum = h.so_far_is in
            omega (arith, ints)

  -- a place where no line may end
  pub IsWalked-past : (lines : List Line) (start taken : ℕ) (so_far beyond : ℤ) (place : ℕ)
      → IsWalked ps width cut lines start taken so_far beyond place place → is_end ps place ≡ false
      → IsWalked ps width cut lines start taken so_far beyond place (place + 1)
  IsWalked-past lines start taken so_far beyond place h none =
      let ahead = h.ahead in
      record {
        lines_on = h.lines_on;
        order = h.order;
        ahead = omega arith;
        near = omega arith;
        within = h.within;
        none_since = λ end after before.
            elim (cases_lt end place) [
              | inl earlier ↦ h.none_since end after earlier
              | inr le ↦ let here : place ≡ end = omega arith in ap (is_end ps) (sym here) ∙ none
            ];
        so_far_is = h.so_far_is;
        beyond_is = h.beyond_is;
        line = h.line;
      }

  -- one piece more
  pub IsWalked-more : (lines : List Line) (start taken : ℕ) (so_far beyond : ℤ) (place : ℕ) (p : Piece) → place < length ps
      → p ≡ get_or ps place p → IsWalked ps width cut lines start taken so_far beyond place (place + 1)
      → IsWalked ps width cut lines start taken (so_far +ℤ p.width) (beyond +ℤ p.width) (place + 1) (place + 1)
  IsWalked-more lines start taken so_far beyond place p lt is h =
      let order = h.order in
      let within = h.within in
      record {
        lines_on = h.lines_on;
        order = h.order;
        ahead = h.ahead;
        near = omega arith;
        within = omega arith;
        none_since = h.none_since;
        so_far_is = ap (λ w. w +ℤ p.width) h.so_far_is ∙ sym (width-more ps start place p (omega arith) lt is);
        beyond_is = ap (λ w. w +ℤ p.width) h.beyond_is ∙ sym (width-more ps taken place p within lt is);
        line = h.line;
      }

  -- the walk as it begins
  pub IsWalked-none : IsWalked ps width cut [] 0 0 (pos 0) (pos 0) 0 1
  IsWalked-none = record {
    lines_on = λ rest later. later;
    order = omega arith;
    ahead = omega arith;
    near = omega arith;
    within = omega arith;
    none_since = λ end after before. absurd (omega arith);
    so_far_is = sym (width-none ps 0);
    beyond_is = sym (width-none ps 0);
    line = inl refl;
  }

  -- an end that the walk meets, by the test of the code
  pub IsWalked-preserved : (lines : List Line) (start taken : ℕ) (so_far beyond : ℤ) (place : ℕ)
      → IsWalked ps width cut lines start taken so_far beyond place place → is_end ps place ≡ true → place ≤ length ps
      → (start < taken → (so_far +ℤ least (drop place ps)) ≤ℤ width)
      → IsWalked ps width cut lines start place so_far (pos 0) place (place + 1)
  IsWalked-preserved lines start taken so_far beyond place h is within test =
      elim (cases_lt start taken) [
        | inl some ↦ IsWalked-taken lines start taken so_far beyond place h is within (test some)
        | inr none ↦ let order = h.order in IsWalked-begun lines start taken so_far beyond place h is within (omega arith)
      ]

  -- the walk at the end of the text
  pub IsWalked-all : (lines : List Line) (start taken : ℕ) (so_far beyond : ℤ) (place seen : ℕ) → place ≡ length ps → taken ≡ place → start < place
      → IsWalked ps width cut lines start taken so_far beyond place seen → AreLines ps width cut 0 (lines ++ cut start taken ∷ [])
  IsWalked-all lines start taken so_far beyond place seen all is some h =
      elim h.line [
        | inl none ↦ absurd (omega arith)
        | inr at ↦
            h.lines_on (cut start taken ∷ []) (
              taken,
              taken_ends start taken at (λ later longer may_end. let within = may_end.within in absurd (omega arith)),
              refl,
              is ∙ all,
            )
      ]

pub narrow-at : (ps : List Piece) (k : ℕ) (d : Piece) → AreNarrow ps → k < length ps → IsNarrow (get_or ps k d).width
narrow-at [] k d narrow lt = absurd (omega arith)
narrow-at (p ∷ ps) zero d narrow lt = narrow.0
narrow-at (p ∷ ps) (suc k) d narrow lt = narrow-at ps k d narrow.1 (omega arith)

-- the sums are those of few enough pieces
pub small_sums : (ps : List Piece) (a b : ℕ) → length ps < 2 ^ 64 → AreNarrow ps → IsSmall (width_between ps a b)
small_sums ps a b short narrow =
    let both = IsWithin-total (take (b - a) (drop a ps)) (narrow-take (b - a) (drop a ps) (narrow-drop a ps narrow)) in
    let low = both.0 in
    let high = both.1 in
    let long = length-take (b - a) (drop a ps) in
    let longer = length-drop a ps in
    record { above = omega (arith, ints); below = omega (arith, ints) }
