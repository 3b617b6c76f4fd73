-- The lines of the walk are right: if clusters rise, each with one set of flags, the glyph after a place tells of its
-- whole cluster.
use Rattle.std.proofs.Common.{◌≡◌, ◌≢◌, ◌⊎◌, ℕ, zero, suc, ◌-◌, ◌<◌, ◌≤◌, ◌==◌, ◌&&◌, not, Bool, true, false, ℤ, ◌<ℤ◌, ◌≤ℤ◌, List, [], ◌∷◌, length, refl, sym, ap, subst, ◌∙◌, arith, inl, inr, ne_eqb}
use Rattle.std.proofs.lemmas.Bool.{cases_lt, and_parts, and_from, cond-true, cond-false}
use Rattle.std.proofs.lemmas.Bool.Decides.{nat_tests}
use Rattle.std.specs.Prelude.{nat_lt, if◌then◌else◌}
use Rattle.shape_items.specs.Buffer.{Buffer}
use Rattle.shape_items.specs.Clusters.{clusters}
use Rattle.shape_lines.specs.CanCut.{CanCut}
use Rattle.shape_lines.specs.Pieces.{pieces_from, pieces_of, is_end, width_between, MayEnd, IsLineEnd, AreLines}
use Rattle.shape_lines.specs.Places.{cluster_at, lacks_break_at, IsPlaceOfCut, BeginsSafely}
use Rattle.shape_lines.specs.RightLines.{MayEndAt, width_from, IsLongest, IsShortestAsNoneFits, IsLeastCluster, end_place, IsRightLine, next_text, AreRightFrom, AreRightLines}
use Rattle.shape_lines.specs.TextOrder.{Glyph, falls, text_order}
use Rattle.shape_lines.specs.Walked.{text_at, line_of}
use Rattle.shape_lines.specs.declared.cutting.Line.{Line}
use Rattle.shape_lines.proofs.PieceLemmas.{length-pieces, length-pieces_of, is_end-pieces, widths-alike}
use Rattle.shape_lines.proofs.PlaceLemmas.{place_from_begin, begin_from_place}
use Rattle.shape_lines.proofs.TextOrderLemmas.{ClustersRise, HasOneFlag, rises-text, one_flag-text, length-text}
use Rattle.shape_lines.proofs.TotalLemmas.{is_end-last}

begins_from_test : (gs : List Glyph) (place : ℕ) → place < length gs → is_end (pieces_from gs) place ≡ true → BeginsSafely gs place
begins_from_test gs place lt is =
    let here = cluster_at gs place in
    let before = cluster_at gs (place - 1) in
    let pieces = and_parts (not (here == before)) (lacks_break_at gs place) (sym (is_end-pieces gs place lt) ∙ is) in
    record { differ = apart here before pieces.0; lacks = pieces.1 }
  where
    apart : (a b : ℕ) → not (a == b) ≡ true → b ≢ a
    apart a b test e = grind (arith, nat_tests, test, e)

test_from_begins : (gs : List Glyph) (place : ℕ) → place < length gs → BeginsSafely gs place → is_end (pieces_from gs) place ≡ true
test_from_begins gs place lt begins =
    let here = cluster_at gs place in
    let before = cluster_at gs (place - 1) in
    is_end-pieces gs place lt
    ∙ and_from (not (here == before)) (lacks_break_at gs place) (ap not (ne_eqb here before (λ e. begins.differ (sym e)))) begins.lacks

module _ (gs : List Glyph) (rise : ClustersRise gs) (one : HasOneFlag gs) where
  may_end_to : (start end : ℕ) → MayEnd (pieces_from gs) start end → MayEndAt gs start end
  may_end_to start end h =
      let after = h.after in
      let within = h.within in
      let long = length-pieces (cluster_at gs 0) gs in
      record {
        after = h.after;
        is = elim (cases_lt end (length gs)) [
          | inl before ↦ inr (place_from_begin gs rise one end (omega arith) before (begins_from_test gs end before h.is))
          | inr all ↦ inl (omega arith)
        ];
      }

  may_end_from : (start end : ℕ) → MayEndAt gs start end → MayEnd (pieces_from gs) start end
  may_end_from start end h =
      let long = length-pieces (cluster_at gs 0) gs in
      elim h.is [
        | inl all ↦ record {
          after = h.after;
          within = omega arith;
          is = ap (is_end (pieces_from gs)) (all ∙ sym long) ∙ is_end-last (pieces_from gs);
        }
        | inr place ↦ record {
          after = h.after;
          within = let before = place.before in omega arith;
          is = test_from_begins gs end place.before (begin_from_place gs rise one end place);
        }
      ]

  module _ (width : ℤ) where
    wide_to : (start end : ℕ) → width <ℤ width_between (pieces_from gs) start end → width <ℤ width_from gs start end
    wide_to start end wide = subst (λ w. width <ℤ w) (widths-alike gs start end) wide

    pub line_end_to : (start end : ℕ) → IsLineEnd (pieces_from gs) width start end
        → IsLongest gs width start end ⊎ IsShortestAsNoneFits gs width start end
    line_end_to start end h =
        elim h [
          | inl longest ↦ inl (record {
            may_end = may_end_to start end longest.may_end;
            fits = subst (λ w. w ≤ℤ width) (widths-alike gs start end) longest.fits;
            none_longer = λ later longer may_end. wide_to start later (longest.none_longer later longer (may_end_from start later may_end));
          })
          | inr shortest ↦ inr (record {
            may_end = may_end_to start end shortest.may_end;
            none_fits = λ other may_end. wide_to start other (shortest.none_fits other (may_end_from start other may_end));
            none_shorter = λ earlier shorter may_end. shortest.none_shorter earlier shorter (may_end_from start earlier may_end);
          })
        ]

-- ---- the line of two places

line_ends_within : (b : Buffer) (width : ℤ) (start end : ℕ) → IsLineEnd (pieces_of b) width start end → (start < end) × (end ≤ length b.items)
line_ends_within b width start end h =
    let long = length-pieces_of b in
    elim h [
      | inl longest ↦
          let within = longest.may_end.within in
          (longest.may_end.after, omega arith)
      | inr shortest ↦
          let within = shortest.may_end.within in
          (shortest.may_end.after, omega arith)
    ]

listed_within : (back : Bool) (n start end : ℕ) → start < end → end ≤ n → (if back then n - start else end) ≤ n
listed_within true n start end some le = omega arith
listed_within false n start end some le = le

listed_first : (back : Bool) (n start end : ℕ) → start < end → end ≤ n
    → (if back then n - (if back then n - start else end) else (if back then n - end else start)) ≡ start
listed_first true n start end some le = omega arith
listed_first false n start end some le = refl

listed_end : (back : Bool) (n start end : ℕ) → start < end → end ≤ n
    → (if back then n - (if back then n - end else start) else (if back then n - start else end)) ≡ end
listed_end true n start end some le = omega arith
listed_end false n start end some le = refl

text-inside : (b : Buffer) (text_end place : ℕ) → place < length b.items → text_at b text_end place ≡ cluster_at (text_order b) place
text-inside b text_end place lt =
    let test : nat_lt place (length b.items) ≡ true = grind (arith, nat_tests, lt) in
    cond-true (nat_lt place (length b.items)) (cluster_at (text_order b) place) text_end test

text-past : (b : Buffer) (text_end place : ℕ) → place ≡ length b.items → text_at b text_end place ≡ text_end
text-past b text_end place all =
    let test : nat_lt place (length b.items) ≡ false = grind (arith, nat_tests, all) in
    cond-false (nat_lt place (length b.items)) (cluster_at (text_order b) place) text_end test

module _ (b : Buffer) (text_end : ℕ) (can : CanCut b text_end) (width : ℤ) where
  first_is_least : (start end : ℕ) → start < end → end ≤ length b.items → IsLeastCluster (text_order b) start end (text_at b text_end start)
  first_is_least start end some le =
      let at = text-inside b text_end start (omega arith) in
      let long = length-text b in
      record {
        is_one = (start, omega arith, some, sym at);
        none_less = λ k from lt.
            let up = rises-text b can.monotone start k from (omega (arith, long, le)) in
            omega (arith, at);
      }

  right_line : (start end : ℕ) → IsLineEnd (pieces_of b) width start end → IsRightLine b width start (line_of b text_end start end)
  right_line start end h =
      let both = line_ends_within b width start end h in
      let some = both.0 in
      let le = both.1 in
      let back = falls (clusters b.items) in
      let n = length b.items in
      let there = sym (listed_end back n start end some le) in
      record {
        within = listed_within back n start end some le;
        begins = listed_first back n start end some le;
        ends = subst (λ e. IsLongest (text_order b) width start e ⊎ IsShortestAsNoneFits (text_order b) width start e) there
            (line_end_to (text_order b) (rises-text b can.monotone) (one_flag-text b can.one_set) width start end h);
        text_start = subst (λ e. IsLeastCluster (text_order b) start e (text_at b text_end start)) there (first_is_least start end some le);
      }

  next_begins : (end : ℕ) (lines : List Line) → AreLines (pieces_of b) width (line_of b text_end) end lines
      → text_at b text_end end ≡ next_text text_end lines
  next_begins end [] all = text-past b text_end end (all ∙ length-pieces_of b)
  next_begins end (line ∷ lines) h = sym (ap (λ (l : Line). l.text_start) h.2)

  pub right_from : (start : ℕ) (lines : List Line) → AreLines (pieces_of b) width (line_of b text_end) start lines
      → AreRightFrom b text_end width start lines
  right_from start [] all = all ∙ length-pieces_of b
  right_from start (line ∷ lines) h =
      let end = h.0 in
      let is = h.2 in
      let rest = h.3 in
      let both = line_ends_within b width start end h.1 in
      let there = listed_end (falls (clusters b.items)) (length b.items) start end both.0 both.1 in
      subst (λ (l : Line). IsRightLine b width start l × (l.text_end ≡ next_text text_end lines) × AreRightFrom b text_end width (end_place b l) lines)
      (sym is) (
        right_line start end h.1,
        next_begins end lines rest,
        subst (λ e. AreRightFrom b text_end width e lines) (sym there) (right_from end lines rest),
      )
