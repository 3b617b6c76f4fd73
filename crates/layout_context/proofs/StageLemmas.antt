-- Lookups over a buffer and stages, step by step.
use Rattle.std.proofs.Common.{◌≡◌, ℕ, suc, ◌+◌, ◌<◌, ◌≤◌, Bool, true, false, List, [], ◌∷◌, Option, Some, None, length, nat_lt, refl, sym, ap, ◌∙◌, subst, inl, arith, if◌then◌else◌, Result, Ok, Err, drop, slice_index_or}
use Rattle.std.proofs.lemmas.Bool.Decides.{nat_tests}
use Rattle.std.proofs.lemmas.List.{drop_more}
use Rattle.std.specs.Option.{option_map_or}
use Rattle.std.specs.Prelude.{IsErrOf, OnOk}
use Rattle.shape_items.specs.Buffer.{Buffer, limit_of}
use Rattle.shape_items.specs.Clusters.{clusters}
use Rattle.shape_items.proofs.Order.DrawsInOrder.{PreservesClusters-from_draws}
use Rattle.shape_buffer.specs.Preservation.{IsClusterPreserving, IsFlagPreserving}
use Rattle.shape_buffer.specs.Outcome.{IsWithinLimit, Outcome, step, Ran, Refused, for_length, for_memory}
use Rattle.shape_buffer.specs.declared.buffer.error.ShapeError.{ShapeError}
use Rattle.shape_buffer.specs.declared.buffer.error.ShapeError.TheVariants.{Memory, Length}
use Rattle.layout_matching.specs.Loops.{times}
use Rattle.layout_matching.specs.Skipping.{is_on}
use Rattle.layout_matching.specs.Work.{walk_work}
use Rattle.layout_matching.specs.declared.lookup.Lookup.{Lookup}
use Rattle.layout_matching.proofs.LoopLemmas.{times_still, times_stays}
use Rattle.layout_substitution.specs.Applied.{Applied}
use Rattle.layout_substitution.specs.Edits.{item_at, is_inside, is_past}
use Rattle.layout_substitution.specs.declared.apply.Spot.{Spot}
use Rattle.layout_substitution.proofs.KindLemmas.{limit-preserves}
use Rattle.layout_substitution.proofs.PreservedLemmas.{Preserves, Preserves-same, Preserves-then, Preserves-times}
use Rattle.layout_context.specs.Nested.{nested_applied, origin_of, place_charged}
use Rattle.layout_context.specs.Reverse.{is_reverse, reversed}
use Rattle.layout_context.specs.Stages.{Walk, passed, with_left, tried_within, tried, lookup_step, first_walk, walked, gone_back, gone_over, walk_charged, looked_up, all_looked_up, stage_begun, stage_made, substituted}
use Rattle.layout_context.proofs.NestedLemmas.{nested-preserves}
use Rattle.layout_context.proofs.ReverseLemmas.{length-reversed, reversed-preserves}

-- ---- past the limit nothing is done any more

pub past_still : (f : Spot → Buffer → Applied) (l : Lookup) (s : Walk) → is_past s.buffer ≡ true → lookup_step f l s ≡ s
past_still f l s past = rw past refl

pub past_times : (f : Spot → Buffer → Applied) (l : Lookup) (n i : ℕ) (first here : Walk) → i < n → here ≡ times (lookup_step f l) i first
    → is_past (lookup_step f l here).buffer ≡ true → is_past (times (lookup_step f l) n first).buffer ≡ true
past_times f l n i first here more is past =
    let there = lookup_step f l here in
    let e : i + 1 ≡ suc i = omega arith in
    let after : there ≡ times (lookup_step f l) (i + 1) first = rw e (ap (lookup_step f l) is) in
    let stays : times (lookup_step f l) n first ≡ there =
    times_stays (lookup_step f l) n (i + 1) first there (omega (arith, more)) after (past_still f l there past) in
    ap (λ (s : Walk). is_past s.buffer) stays ∙ past

walked-past : (f : Spot → Buffer → Applied) (l : Lookup) (s : Walk) → is_past s.buffer ≡ true → is_past (walked f l s).buffer ≡ true
walked-past f l s past =
    let start = first_walk s in
    let still : times (lookup_step f l) (length s.buffer.items) start ≡ start =
    times_still (lookup_step f l) (length s.buffer.items) start (past_still f l start past) in
    ap (λ (w : Walk). is_past w.buffer) still ∙ past

reversed-past : (l : Lookup) (left : ℕ) (b : Buffer) → is_past b ≡ true → is_past (reversed l left b).buffer ≡ true
reversed-past l left b past =
    let after = (reversed l left b).buffer in
    ap (λ n. nat_lt n (length after.items)) (limit-preserves b after (reversed-preserves l left b))
    ∙ ap (λ n. nat_lt (limit_of b) n) (length-reversed l left b) ∙ past

over-past : (levels : ℕ) (l : Lookup) (s : Walk) → is_past s.buffer ≡ true → is_past (gone_over levels l s).buffer ≡ true
over-past levels l s past = elim (is_reverse l) as (λ t.
    is_past (if t then gone_back s (reversed l s.spot.left s.buffer) else walked (nested_applied levels l) l s).buffer ≡ true) [
      | true ↦ reversed-past l s.spot.left s.buffer past
      | false ↦ walked-past (nested_applied levels l) l s past
    ]

looked-past : (levels : ℕ) (l : Lookup) (s : Walk) → is_past s.buffer ≡ true → is_past (looked_up levels l s).buffer ≡ true
looked-past levels l s past =
    let t = walk_charged l s in
    elim (nat_lt s.spot.left (walk_work l (length s.buffer.items))) as (λ u. is_past (if u then t else gone_over levels l t).buffer ≡ true)
    [ true ↦ past | false ↦ over-past levels l t past ]

pub past_all : (levels : ℕ) (ls : List Lookup) (s : Walk) → is_past s.buffer ≡ true → is_past (all_looked_up levels ls s).buffer ≡ true
past_all levels [] s past = past
past_all levels (l ∷ ls) s past = past_all levels ls (looked_up levels l s) (looked-past levels l s past)

pub past_from : (levels : ℕ) (ls : List Lookup) (k : ℕ) (here first : Walk) (d : Lookup) → k < length ls
    → all_looked_up levels (drop k ls) here ≡ all_looked_up levels ls first
    → is_past (looked_up levels (slice_index_or ls k d) here).buffer ≡ true
    → is_past (all_looked_up levels ls first).buffer ≡ true
past_from levels ls k here first d more same past =
    sym (ap (λ (w : Walk). is_past w.buffer) same) ∙ ap (λ (left : List Lookup). is_past
    (all_looked_up levels left here).buffer) (drop_more ls k d more)
    ∙ past_all levels (drop (k + 1) ls) (looked_up levels (slice_index_or ls k d) here) past

-- ---- what stages preserve

walk-if : (t : Bool) (a : Buffer) (x y : Walk) → Preserves a x.buffer → Preserves a y.buffer → Preserves a (if t then x else y).buffer
walk-if true a x y k m = k
walk-if false a x y k m = m

tried-preserves : (levels : ℕ) (l : Lookup) (s : Walk) → Preserves s.buffer (tried (nested_applied levels l) l s).buffer
tried-preserves levels l s = by_charge (place_charged l s.buffer.items (origin_of s.spot s.buffer) s.spot.left)
  where
    by_charge : (o : Option ℕ)
        → Preserves s.buffer (option_map_or (tried_within (nested_applied levels l) s) o (passed (with_left 0 s))).buffer
    by_charge None = Preserves-same s.buffer
    by_charge (Some left) = nested-preserves levels l (with_left left s).spot s.buffer

step-preserves : (levels : ℕ) (l : Lookup) (s : Walk) → Preserves s.buffer (lookup_step (nested_applied levels l) l s).buffer
step-preserves levels l s =
    walk-if (is_past s.buffer) s.buffer s _ (Preserves-same s.buffer)
    (walk-if (is_inside s.spot.at s.buffer) s.buffer _ s
    (walk-if (is_on l (item_at s.buffer s.spot.at)) s.buffer (tried (nested_applied levels l) l s) (passed s)
    (tried-preserves levels l s) (Preserves-same s.buffer))
    (Preserves-same s.buffer))

over-preserves : (levels : ℕ) (l : Lookup) (s : Walk) → Preserves s.buffer (gone_over levels l s).buffer
over-preserves levels l s =
    walk-if (is_reverse l) s.buffer (gone_back s (reversed l s.spot.left s.buffer)) (walked (nested_applied levels l) l s)
    (reversed-preserves l s.spot.left s.buffer)
    (Preserves-times (λ (w : Walk). w.buffer) (lookup_step (nested_applied levels l) l) (step-preserves levels l)
    (length s.buffer.items) (first_walk s))

looked-preserves : (levels : ℕ) (l : Lookup) (s : Walk) → Preserves s.buffer (looked_up levels l s).buffer
looked-preserves levels l s =
    walk-if (nat_lt s.spot.left (walk_work l (length s.buffer.items))) s.buffer (walk_charged l s) (gone_over levels l (walk_charged l s))
    (Preserves-same s.buffer) (over-preserves levels l (walk_charged l s))

all-preserves : (levels : ℕ) (ls : List Lookup) (s : Walk) → Preserves s.buffer (all_looked_up levels ls s).buffer
all-preserves levels [] s = Preserves-same s.buffer
all-preserves levels (l ∷ ls) s =
    Preserves-then s.buffer (looked_up levels l s).buffer (all_looked_up levels ls (looked_up levels l s)).buffer
    (looked-preserves levels l s)
    (all-preserves levels ls (looked_up levels l s))

counted-preserves : (n : ℕ) (b c : Buffer) → Preserves b c → Preserves b (record c { max_ops = n })
counted-preserves n b c kept = record {
  draws = kept.draws;
  flags = record { flags = kept.flags.flags; stays_set = kept.flags.stays_set; none_new = kept.flags.none_new };
  direction = kept.direction;
  level = kept.level;
  limit = kept.limit;
}

pub stage-preserves : (levels : ℕ) (ls : List Lookup) (b : Buffer) → Preserves b (stage_made levels ls b)
stage-preserves levels ls b =
    let end = all_looked_up levels ls (stage_begun b) in
    counted-preserves end.spot.left b end.buffer (all-preserves levels ls (stage_begun b))

-- ---- outcomes

stage_ran : (levels : ℕ) (ls : List Lookup) (b c : Buffer) → c ≡ stage_made levels ls b → length c.items ≤ limit_of c
    → Ran (step (stage_made levels ls) ∷ []) b c
stage_ran levels ls b c is within =
    let same : limit_of c ≡ limit_of b = ap limit_of is ∙ limit-preserves b (stage_made levels ls b) (stage-preserves levels ls b) in
    let counted : length (stage_made levels ls b).items ≤ limit_of b = subst
    (λ (d : Buffer). length d.items ≤ limit_of b) is (subst (λ n. length c.items ≤ n) same within) in
    record { made = is; each_within = (counted, tt); within = within; same_limit = same }

stage_refused : (levels : ℕ) (ls : List Lookup) (b : Buffer) → is_past (stage_made levels ls b) ≡ true
    → limit_of b < length (stage_made levels ls b).items
stage_refused levels ls b past =
    let same : limit_of (stage_made levels ls b) ≡ limit_of b = limit-preserves b (stage_made levels ls b) (stage-preserves levels ls b) in
    let more : limit_of (stage_made levels ls b) < length (stage_made levels ls b).items = grind (arith, nat_tests, past) in
    subst (λ n. n < length (stage_made levels ls b).items) same more

pub refused_by : {T : Type 0} (levels : ℕ) (ls : List Lookup) (b : Buffer) (error : ShapeError)
    → (IsErrOf {T = T} (Err error) Length → is_past (stage_made levels ls b) ≡ true) → Refused (step (stage_made levels ls) ∷ []) b error
refused_by levels ls b Memory past = for_memory
refused_by levels ls b Length past = for_length (inl (stage_refused levels ls b (past refl)))

pub outcome_of : {T : Type 0} (levels : ℕ) (ls : List Lookup) (b c : Buffer) (result : Result T ShapeError) → c ≡ stage_made levels ls b
    → OnOk result (IsWithinLimit c) → (IsErrOf result Length → is_past c ≡ true) → Outcome (step (stage_made levels ls)) b c result
outcome_of levels ls b c (Ok x) is within past = stage_ran levels ls b c is within
outcome_of {T} levels ls b c (Err error) is within past = refused_by {T = T} levels ls b error (λ e. sym (ap is_past is) ∙ past e)

-- ---- laws

pub stage-order : (ls : List Lookup) → IsClusterPreserving (substituted ls)
unfolding substituted
stage-order ls b monotone =
    let kept = stage-preserves 65 ls b in
    record {
      clusters = PreservesClusters-from_draws (clusters b.items) (clusters (stage_made 65 ls b).items) kept.draws;
      direction = kept.direction;
      flags = kept.flags.flags;
      level = kept.level;
    }

pub stage-flags : (ls : List Lookup) → IsFlagPreserving (substituted ls)
unfolding substituted
stage-flags ls b = (stage-preserves 65 ls b).flags
