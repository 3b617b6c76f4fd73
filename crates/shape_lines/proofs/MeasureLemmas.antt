-- The least reach at the ends to come, and the end of a line by it.
use Rattle.std.proofs.Common.{◌≡◌, ◌⊎◌, ℕ, zero, suc, ◌+◌, ◌-◌, ◌<◌, ◌≤◌, ◌||◌, ◌&&◌, Bool, true, false, ℤ, pos, ◌+ℤ◌, ◌≤ℤ◌, ◌<ℤ◌, List, [], ◌∷◌, ◌++◌, length, get_or, set, if◌then◌else◌, refl, sym, ap, ap₂, subst, ◌∙◌, arith, inl, inr}
use Rattle.std.proofs.lemmas.Bool.{cases_Bool, cases_lt, cond-true, cond-false, false≢true}
use Rattle.std.proofs.lemmas.Int.{ints, clamps}
use Rattle.std.proofs.lemmas.List.{get_or_append_left, get_or_push, length_push, get_or-set_same, get_or-set_other, length-set}
use Rattle.std.specs.Int.{int_min}
use Rattle.std.specs.Prelude.{int_lt}
use Rattle.shape_lines.specs.LinesAt.{ends_before, MayEndBy, IsLongestBy, IsShortestBy, NoneFitsBy, IsEndAt}
use Rattle.shape_lines.specs.Measured.{IsAhead, IsLeastReach, AreFor, AreReaches, AreLeast}
use Rattle.shape_lines.specs.Spots.{spot_at, reach, pen}
use Rattle.shape_lines.specs.declared.spots.Spot.{Spot}
use Rattle.shape_lines.proofs.SpotLemmas.{spot-past}

-- ---- numbers by a rule, pushed one by one

pub each_push : (zs : List ℤ) (z : ℤ) (n : ℕ) (Rule : ℕ → ℤ → Type 0) → length zs ≡ n + 1
    → ((k : ℕ) → k ≤ n → Rule k (get_or zs k (pos 0))) → Rule (n + 1) z → (k : ℕ) → k ≤ n + 1 → Rule k (get_or (zs ++ z ∷ []) k (pos 0))
each_push zs z n Rule long each is k le =
    elim (cases_lt k (n + 1)) [
      | inl less ↦ subst (Rule k) (sym (get_or_append_left zs (z ∷ []) (pos 0) k (omega arith))) (each k (omega arith))
      | inr ge ↦
          let here : n + 1 ≡ k = omega arith in
          let there : length zs ≡ k = omega arith in
          subst (Rule k) (sym (get_or_push zs z (pos 0) k there)) (subst (λ j. Rule j z) here is)
    ]

-- ---- one place further on

pub pen-more : (ss : List Spot) (k : ℕ) → pen ss (k + 1) ≡ pen ss k +ℤ (spot_at ss k).width
pen-more ss k = let e : k + 1 ≡ suc k = omega arith in ap (pen ss) e

pub reach_step : (ss : List Spot) (k : ℕ) (s : Spot) (r p v : ℤ) → s ≡ spot_at ss k → r ≡ reach ss k → p ≡ pen ss (k + 1)
    → v ≡ (if s.space then r else p) → v ≡ reach ss (k + 1)
reach_step ss k s r p v s_is r_is p_is v_is =
    let e : k + 1 ≡ suc k = omega arith in
    v_is ∙ ap (λ (x : Spot). if x.space then r else p) s_is
    ∙ ap₂ (λ x y. if (spot_at ss k).space then x else y) r_is (p_is ∙ ap (pen ss) e) ∙ ap (reach ss) (sym e)

-- ---- the least reach

module _ (any : Bool) (ss : List Spot) where
  ends_at_end : ends_before any (spot_at ss (length ss)) ≡ true
  ends_at_end = ap (ends_before any) (spot-past ss (length ss) (omega arith))

  pub least-end : IsLeastReach any ss (length ss) (reach ss (length ss))
  least-end =
      let all : IsAhead any ss (length ss) (length ss) = record {
        from = omega arith;
        within = omega arith;
        is = ends_at_end;
        none_between = λ k from before. absurd (omega arith);
      } in
      record {
        none_less = λ end ahead.
            let from = ahead.from in
            let within = ahead.within in
            let here : length ss ≡ end = omega arith in
            subst (λ k. reach ss (length ss) ≤ℤ reach ss k) here (omega (arith, ints));
        is_one = (length ss, all, refl);
      }

  ahead_here : (p : ℕ) → p < length ss → ends_before any (spot_at ss p) ≡ true → IsAhead any ss p p
  ahead_here p lt is = record { from = omega arith; within = omega arith; is = is; none_between = λ k from before. absurd (omega arith) }

  ahead_on : (p end : ℕ) → (spot_at ss p).mandatory ≡ false → IsAhead any ss (p + 1) end → IsAhead any ss p end
  ahead_on p end may ahead =
      let from = ahead.from in
      record {
        from = omega arith;
        within = ahead.within;
        is = ahead.is;
        none_between = λ k after before. elim (cases_lt p k) [
          | inl later ↦ ahead.none_between k (omega arith) before
          | inr le ↦ let here : p ≡ k = omega arith in subst (λ j. (spot_at ss j).mandatory ≡ false) here may
        ];
      }

  ahead_past : (p end : ℕ) → p < end → IsAhead any ss p end → IsAhead any ss (p + 1) end
  ahead_past p end lt ahead = record {
    from = omega arith;
    within = ahead.within;
    is = ahead.is;
    none_between = λ k after before. ahead.none_between k (omega arith) before;
  }

  ends_must : (p : ℕ) → (spot_at ss p).mandatory ≡ true → ends_before any (spot_at ss p) ≡ true
  ends_must p must = ap (λ t. t || ((spot_at ss p).allowed || (any && (spot_at ss p).safe))) must

  -- the end of an ahead: here, or further on
  module _ (p : ℕ) (lt : p < length ss) (on : ℤ) (rest : IsLeastReach any ss (p + 1) on) where
    least_must : (spot_at ss p).mandatory ≡ true → IsLeastReach any ss p (reach ss p)
    least_must must = record {
      none_less = λ end ahead. elim (cases_lt p end) [
        | inl later ↦ absurd (false≢true (sym (ahead.none_between p (omega arith) later) ∙ must))
        | inr le ↦
            let from = ahead.from in
            let here : p ≡ end = omega arith in
            subst (λ k. reach ss p ≤ℤ reach ss k) here (omega (arith, ints))
      ];
      is_one = (p, ahead_here p lt (ends_must p must), refl);
    }

    least_may : (spot_at ss p).mandatory ≡ false → ends_before any (spot_at ss p) ≡ true → IsLeastReach any ss p (int_min (reach ss p) on)
    least_may may is = record {
      none_less = λ end ahead. elim (cases_lt p end) [
        | inl later ↦ let low = rest.none_less end (ahead_past p end later ahead) in omega (arith, ints, clamps, low)
        | inr le ↦
            let from = ahead.from in
            let here : p ≡ end = omega arith in
            subst (λ k. int_min (reach ss p) on ≤ℤ reach ss k) here (omega (arith, ints, clamps))
      ];
      is_one = elim (int_min_is (reach ss p) on) [
        | inl first ↦ (p, ahead_here p lt is, first)
        | inr second ↦
            let one = rest.is_one in
            (one.0, ahead_on p one.0 may one.1, second ∙ one.2)
      ];
    }
      where
        int_min_is : (x y : ℤ) → (int_min x y ≡ x) ⊎ (int_min x y ≡ y)
        int_min_is x y = elim (cases_Bool (int_lt y x)) [
          | inl less ↦ inr (cond-true (int_lt y x) y x less)
          | inr more ↦ inl (cond-false (int_lt y x) y x more)
        ]

    least_not : (spot_at ss p).mandatory ≡ false → ends_before any (spot_at ss p) ≡ false → IsLeastReach any ss p on
    least_not may is = record {
      none_less = λ end ahead. elim (cases_lt p end) [
        | inl later ↦ rest.none_less end (ahead_past p end later ahead)
        | inr le ↦
            let from = ahead.from in
            let here : end ≡ p = omega arith in
            absurd (false≢true (sym is ∙ ap (λ k. ends_before any (spot_at ss k)) (sym here) ∙ ahead.is))
      ];
      is_one = let one = rest.is_one in (one.0, ahead_on p one.0 may one.1, one.2);
    }

    pub least-more : IsLeastReach any ss p (if (spot_at ss p).mandatory then reach ss p
        else if ends_before any (spot_at ss p) then int_min (reach ss p) on else on)
    least-more = elim (cases_Bool (spot_at ss p).mandatory) [
      | inl must ↦ subst (IsLeastReach any ss p) (sym (cond-true (spot_at ss p).mandatory _ _ must)) (least_must must)
      | inr may ↦ subst (IsLeastReach any ss p) (sym (cond-false (spot_at ss p).mandatory _ _ may)) (elim (cases_Bool (ends_before any (spot_at ss p))) [
        | inl ends ↦ subst (IsLeastReach any ss p) (sym (cond-true (ends_before any (spot_at ss p)) _ _ ends)) (least_may may ends)
        | inr none ↦ subst (IsLeastReach any ss p) (sym (cond-false (ends_before any (spot_at ss p)) _ _ none)) (least_not may none)
      ])
    ]

  -- ---- the end of a line

  may_from_ahead : (start end : ℕ) → IsAhead any ss (start + 1) end → MayEndBy any ss start end
  may_from_ahead start end ahead =
      let from = ahead.from in
      record {
        after = omega arith;
        within = ahead.within;
        is = ahead.is;
        none_between = λ k after before. ahead.none_between k (omega arith) before;
      }

  ahead_from_may : (start end : ℕ) → MayEndBy any ss start end → IsAhead any ss (start + 1) end
  ahead_from_may start end may =
      let after = may.after in
      record {
        from = omega arith;
        within = may.within;
        is = may.is;
        none_between = λ k from before. may.none_between k (omega arith) before;
      }

  module _ (least : List ℤ) (are : AreLeast any ss least) (width : ℤ) (start : ℕ) (some : start < length ss) where
    abbrev limit : ℤ
    limit = pen ss start +ℤ width

    pub none_fits : (limit <ℤ get_or least (start + 1) (pos 0)) → NoneFitsBy any ss width start
    none_fits wide end may =
        let low = (are.each (start + 1) (omega arith)).none_less end (ahead_from_may start end may) in
        omega (arith, ints)

    -- the pieces from the start up to a place fit as far as ends to come are told, and there it stops
    module _ (end : ℕ) (after : start < end) (within : end ≤ length ss)
        (none : (k : ℕ) → start < k → k < end → (spot_at ss k).mandatory ≡ false)
        (fit : (k : ℕ) → start < k → k < end → get_or least (k + 1) (pos 0) ≤ℤ limit)
        (first : get_or least (start + 1) (pos 0) ≤ℤ limit)
        (stops : ((spot_at ss end).mandatory ≡ true) ⊎ (limit <ℤ get_or least (end + 1) (pos 0))) where
      here_fits : get_or least end (pos 0) ≤ℤ limit
      here_fits = elim (cases_lt (start + 1) end) [
        | inl later ↦
            let e : (end - 1) + 1 ≡ end = omega arith in
            subst (λ k. get_or least k (pos 0) ≤ℤ limit) e (fit (end - 1) (omega arith) (omega arith))
        | inr le ↦
            let e : start + 1 ≡ end = omega arith in
            subst (λ k. get_or least k (pos 0) ≤ℤ limit) e first
      ]

      abbrev IsHere : Type 0
      IsHere = (ends_before any (spot_at ss end) ≡ true) × (reach ss end ≤ℤ limit)

      is_here : IsHere
      is_here =
          let at = are.each end within in
          let one = at.is_one in
          let from = one.1.from in
          elim (cases_lt end one.0) [
            | inl later ↦ elim stops [
              | inl must ↦ absurd (false≢true (sym (one.1.none_between end (omega arith) later) ∙ must))
              | inr wide ↦
                  let short = one.1.within in
                  let low = (are.each (end + 1) (omega arith)).none_less one.0 (ahead_past end one.0 later one.1) in
                  let is = one.2 in
                  let fits = here_fits in
                  absurd (omega (arith, ints))
            ]
            | inr le ↦
                let e : one.0 ≡ end = omega arith in
                let is = one.2 in
                let fits = here_fits in
                let reaches : reach ss one.0 ≤ℤ limit = omega (arith, ints) in
                (subst (λ k. ends_before any (spot_at ss k) ≡ true) e one.1.is, subst (λ k. reach ss k ≤ℤ limit) e reaches)
          ]

      pub longest_is : IsLongestBy any ss width start end
      longest_is = record {
        may_end = record { after = after; within = within; is = is_here.0; none_between = none };
        fits = is_here.1;
        none_longer = λ later longer may. elim stops [
          | inl must ↦ absurd (false≢true (sym (may.none_between end after longer) ∙ must))
          | inr wide ↦
              let short = may.within in
              let low = (are.each (end + 1) (omega arith)).none_less later
              (record {
                from = omega arith;
                within = may.within;
                is = may.is;
                none_between = λ k from before. may.none_between k (omega arith) before;
              }) in
              omega (arith, ints)
        ];
      }

    pub shortest_is : (end : ℕ) → start < end → end ≤ length ss → ends_before any (spot_at ss end) ≡ true
        → ((k : ℕ) → start < k → k < end → ends_before any (spot_at ss k) ≡ false) → limit <ℤ get_or least (start + 1) (pos 0)
        → IsShortestBy any ss width start end
    shortest_is end after within is none wide = record {
      may_end = record {
        after = after;
        within = within;
        is = is;
        none_between = λ k from before. elim (cases_Bool (spot_at ss k).mandatory) [
          | inl must ↦ absurd (false≢true (sym (none k from before) ∙ ends_must k must))
          | inr may ↦ may
        ];
      };
      none_fits = none_fits wide;
      none_shorter = λ earlier shorter may. false≢true (sym (none earlier may.after shorter) ∙ may.is);
    }

-- ---- the least reach, put in its place

pub least_at : (any : Bool) (ss : List Spot) (p : ℕ) (spot : Spot) (here on v : ℤ) → p < length ss → spot ≡ spot_at ss p → here ≡ reach ss p
    → IsLeastReach any ss (p + 1) on → v ≡ (if spot.mandatory then here else if ends_before any spot then int_min here on else on)
    → IsLeastReach any ss p v
least_at any ss p spot here on v lt spot_is here_is rest v_is =
    subst (IsLeastReach any ss p)
    (sym (v_is ∙ ap₂ (λ (s : Spot) h. if s.mandatory then h else if ends_before any s then int_min h on else on) spot_is here_is))
    (least-more any ss p lt on rest)

pub least_set : (any : Bool) (ss : List Spot) (zs : List ℤ) (n p : ℕ) (v : ℤ) → n ≡ p + 1 → n ≤ length ss → length zs ≡ length ss + 1
    → ((k : ℕ) → n ≤ k → k ≤ length ss → IsLeastReach any ss k (get_or zs k (pos 0))) → IsLeastReach any ss p v
    → (k : ℕ) → p ≤ k → k ≤ length ss → IsLeastReach any ss k (get_or (set zs p v) k (pos 0))
least_set any ss zs n p v one le long done is k low high =
    elim (cases_lt p k) [
      | inl later ↦
          let other : get_or (set zs p v) k (pos 0) ≡ get_or zs k (pos 0) = get_or-set_other zs p k v (pos 0) (λ e. omega arith) in
          subst (IsLeastReach any ss k) (sym other) (done k (omega arith) high)
      | inr ge ↦
          let here : p ≡ k = omega arith in
          let same : get_or (set zs p v) p (pos 0) ≡ v = get_or-set_same zs p v (pos 0) (omega arith) in
          subst (λ j. IsLeastReach any ss j (get_or (set zs p v) j (pos 0))) here (subst (IsLeastReach any ss p) (sym same) is)
    ]

-- the end of a line that an end to come fits, by what the code knows
pub longest_by : (any : Bool) (ss : List Spot) (least : List ℤ) (width limit : ℤ) (start end : ℕ) → AreLeast any ss least → start < length ss
    → limit ≡ pen ss start +ℤ width → start < end → end ≤ length ss → ((k : ℕ) → start < k → k < end → (spot_at ss k).mandatory ≡ false)
    → ((k : ℕ) → start < k → k < end → get_or least (k + 1) (pos 0) ≤ℤ limit) → get_or least (start + 1) (pos 0) ≤ℤ limit
    → ((spot_at ss end).mandatory ≡ true) ⊎ (limit <ℤ get_or least (end + 1) (pos 0)) → IsLongestBy any ss width start end
longest_by any ss least width limit start end are some is after within none fit first stops =
    let known = subst
    (λ z. ((k : ℕ) → start < k → k < end → get_or least (k + 1) (pos 0) ≤ℤ z) × (get_or least (start + 1) (pos 0) ≤ℤ z)
    × (((spot_at ss end).mandatory ≡ true) ⊎ (z <ℤ get_or least (end + 1) (pos 0)))) is (fit, first, stops) in
    longest_is any ss least are width start some end after within none known.0 known.1 known.2
