use Rattle.std.proofs.Common.{◌≡◌, ◌⊎◌, ℕ, ◌+◌, ◌<◌, ◌≤◌, ◌+ℤ◌, ◌<ℤ◌, ◌≤ℤ◌, Bool, true, false, ℤ, pos, List, length, get_or, sym, ap, subst, ◌∙◌, to_z, of_z, inl, inr, arith, rules}
use Rattle.std.proofs.lemmas.Int.{ints}
use Rattle.std.proofs.lemmas.List.{get_or_read}
use Rattle.shape_lines.specs.LinesAt.{ends_before, IsLongestBy}
use Rattle.shape_lines.specs.Measured.{AreLeast}
use Rattle.shape_lines.specs.Spots.{spot_at, pen}
use Rattle.shape_lines.specs.declared.spots.Spot.{Spot}
use Rattle.shape_lines.proofs.MeasureLemmas.{longest_by, none_fits, shortest_is}
use Rattle.shape_lines.proofs.allowed.line_end.Goals as goal
use mir.Syntax.{w128}

-- by copies of the two lists
longest_of : (any : Bool) (ss ds : List Spot) (least copy : List ℤ) (width limit : ℤ) (start end : ℕ) → ds ≡ ss → copy ≡ least → AreLeast any ss least
    → start < length ss → limit ≡ pen ss start +ℤ width → start < end → end ≤ length ds
    → ((k : ℕ) → start < k → k < end → (spot_at ds k).mandatory ≡ false) → ((k : ℕ) → start < k → k < end → get_or copy (k + 1) (pos 0) ≤ℤ limit)
    → get_or least (start + 1) (pos 0) ≤ℤ limit → ((spot_at ds end).mandatory ≡ true) ⊎ (limit <ℤ get_or copy (end + 1) (pos 0))
    → IsLongestBy any ss width start end
longest_of any ss ds least copy width limit start end same alike are some is after within none fit first stops =
    longest_by any ss least width limit start end are some is after (subst (λ l. end ≤ length l) same within)
    (subst (λ l. (k : ℕ) → start < k → k < end → (spot_at l k).mandatory ≡ false) same none)
    (subst (λ l. (k : ℕ) → start < k → k < end → get_or l (k + 1) (pos 0) ≤ℤ limit) alike fit) first
    (subst (λ l. ((spot_at l end).mandatory ≡ true) ⊎ (limit <ℤ get_or least (end + 1) (pos 0))) same
    (subst (λ l. ((spot_at ds end).mandatory ≡ true) ⊎ (limit <ℤ get_or l (end + 1) (pos 0))) alike stops))

pub returns-then-index-limit-clause-end : goal.returns-then-index-limit-clause-end
returns-then-index-limit-clause-end c =
    let m = c.args.measures.now in
    let ss = m.spots.items in
    let start = c.args.start in
    let limit = c.limit_of-limit.result in
    let some = c.requires.some in
    let long = c.requires.measured.allowed.as_many in
    let within : start + 1 < length m.allowed.items = omega arith in
    let at = get_or_read m.allowed.items (start + 1) c.index.result.now within c.index.ensures (pos 0) in
    let limit_is : to_z w128 (of_z w128 limit) ≡ limit = search rules in
    let at_is : to_z w128 (of_z w128 c.index.result.now) ≡ c.index.result.now = search rules in
    let test = c.if-index-limit.true in
    let first : get_or m.allowed.items (start + 1) (pos 0) ≤ℤ limit = omega (arith, ints) in
    inl (longest_of false ss c.deref.result.now m.allowed.items c.deref-then-index-limit.result.now (pos c.args.width) limit start c.longest.result
    c.deref.ensures.value c.deref-then-index-limit.ensures.value c.requires.measured.allowed some c.limit_of-limit.ensures c.longest.ensures.order
    c.longest.ensures.within c.longest.ensures.none (λ k after before. let fits = c.longest.ensures.fit k after before in omega (arith, ints, limit_is, fits)) first
    (elim c.longest.ensures.stops [ inl must ↦ inl must | inr wide ↦ inr (omega (arith, ints, limit_is, wide)) ]))

pub returns-then-index-limit-2-clause-end : goal.returns-then-index-limit-2-clause-end
returns-then-index-limit-2-clause-end c =
    let m = c.args.measures.now in
    let ss = m.spots.items in
    let start = c.args.start in
    let limit = c.limit_of-limit.result in
    let some = c.requires.some in
    let sum = c.limit_of-limit.ensures in
    let long = c.requires.measured.allowed.as_many in
    let long2 = c.requires.measured.any.as_many in
    let within : start + 1 < length m.allowed.items = omega arith in
    let within2 : start + 1 < length m.any.items = omega arith in
    let at = get_or_read m.allowed.items (start + 1) c.index.result.now within c.index.ensures (pos 0) in
    let at2 = get_or_read m.any.items (start + 1) c.index-2.result.now within2 c.index-2.ensures (pos 0) in
    let limit_is : to_z w128 (of_z w128 limit) ≡ limit = search rules in
    let at_is : to_z w128 (of_z w128 c.index.result.now) ≡ c.index.result.now = search rules in
    let at2_is : to_z w128 (of_z w128 c.index-2.result.now) ≡ c.index-2.result.now = search rules in
    let test = c.if-index-limit.false in
    let test2 = c.if-index-limit-2.true in
    let wide : (pen ss start +ℤ pos c.args.width) <ℤ get_or m.allowed.items (start + 1) (pos 0) = omega (arith, ints) in
    let first : get_or m.any.items (start + 1) (pos 0) ≤ℤ limit = omega (arith, ints) in
    inr (
      none_fits false ss m.allowed.items c.requires.measured.allowed (pos c.args.width) start some wide,
      inl (longest_of m.anywhere ss c.deref-then-index-limit-2.result.now m.any.items c.deref-then-index-limit-2-2.result.now (pos c.args.width) limit start
          c.longest-then-index-limit-2.result c.deref-then-index-limit-2.ensures.value c.deref-then-index-limit-2-2.ensures.value c.requires.measured.any some sum
          c.longest-then-index-limit-2.ensures.order c.longest-then-index-limit-2.ensures.within c.longest-then-index-limit-2.ensures.none
          (λ k after before. let fits = c.longest-then-index-limit-2.ensures.fit k after before in omega (arith, ints, limit_is, fits)) first
          (elim c.longest-then-index-limit-2.ensures.stops [ inl must ↦ inl must | inr far ↦ inr (omega (arith, ints, limit_is, far)) ])),
    )

pub returns-clause-end : goal.returns-clause-end
returns-clause-end c =
    let m = c.args.measures.now in
    let ss = m.spots.items in
    let start = c.args.start in
    let end = c.shortest.result in
    let limit = c.limit_of-limit.result in
    let some = c.requires.some in
    let sum = c.limit_of-limit.ensures in
    let long = c.requires.measured.allowed.as_many in
    let long2 = c.requires.measured.any.as_many in
    let within : start + 1 < length m.allowed.items = omega arith in
    let within2 : start + 1 < length m.any.items = omega arith in
    let at = get_or_read m.allowed.items (start + 1) c.index.result.now within c.index.ensures (pos 0) in
    let at2 = get_or_read m.any.items (start + 1) c.index-2.result.now within2 c.index-2.ensures (pos 0) in
    let limit_is : to_z w128 (of_z w128 limit) ≡ limit = search rules in
    let at_is : to_z w128 (of_z w128 c.index.result.now) ≡ c.index.result.now = search rules in
    let at2_is : to_z w128 (of_z w128 c.index-2.result.now) ≡ c.index-2.result.now = search rules in
    let test = c.if-index-limit.false in
    let test2 = c.if-index-limit-2.false in
    let wide : (pen ss start +ℤ pos c.args.width) <ℤ get_or m.allowed.items (start + 1) (pos 0) = omega (arith, ints) in
    let wide2 : (pen ss start +ℤ pos c.args.width) <ℤ get_or m.any.items (start + 1) (pos 0) = omega (arith, ints) in
    let same = c.deref-2.ensures.value in
    inr (
      none_fits false ss m.allowed.items c.requires.measured.allowed (pos c.args.width) start some wide,
      inr (shortest_is m.anywhere ss m.any.items c.requires.measured.any (pos c.args.width) start some end c.shortest.ensures.order
          (subst (λ l. end ≤ length l) same c.shortest.ensures.within)
          (subst (λ l. ends_before m.anywhere (spot_at l end) ≡ true) same c.shortest.ensures.is)
          (subst (λ l. (k : ℕ) → start < k → k < end → ends_before m.anywhere (spot_at l k) ≡ false) same c.shortest.ensures.none) wide2),
    )
