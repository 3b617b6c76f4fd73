-- Nested lookups preserve what single ones preserve; levels and records, one by one.
use Prim.Native.Nat.{zero}
use Rattle.std.proofs.Common.{◌≡◌, ℕ, suc, ◌+◌, ◌-◌, ◌<◌, not, Bool, true, false, Option, Some, None, refl, sym, ap, ◌∙◌, arith, if◌then◌else◌}
use Rattle.std.specs.Option.{option_map_or}
use Rattle.shape_items.specs.Buffer.{Buffer}
use Rattle.layout_matching.specs.Found.{is_context, found_of}
use Rattle.layout_matching.specs.Loops.{times}
use Rattle.layout_matching.specs.Nesting.{target_of}
use Rattle.layout_matching.specs.Tried.{reach_of}
use Rattle.layout_matching.specs.declared.found.Found.{Found}
use Rattle.layout_matching.specs.declared.lookup.Lookup.{Lookup}
use Rattle.layout_matching.specs.declared.nesting.Target.{Target}
use Rattle.layout_matching.proofs.LoopLemmas.{times_after}
use Rattle.layout_substitution.specs.Applied.{Applied, unapplied}
use Rattle.layout_substitution.specs.Edits.{is_inside, is_past}
use Rattle.layout_substitution.specs.declared.apply.Spot.{Spot}
use Rattle.layout_substitution.proofs.AppliedLemmas.{or_unapplied, applied-if}
use Rattle.layout_substitution.proofs.KindLemmas.{lookup-preserves}
use Rattle.layout_substitution.proofs.PreservedLemmas.{Preserves, Preserves-same, Preserves-then, Preserves-times, Preserves-broken, Preserves-concat_marked}
use Rattle.layout_context.specs.Nested.{Nest, nested_spot, passed_record, stopped_record, target_within, target_charged, target_applied, target_done}
use Rattle.layout_context.specs.Nested.{record_step, first_nest, records_made, rule_applied, origin_of, tried_marked, first_rule_applied}
use Rattle.layout_context.specs.Nested.{level_applied, nested_applied}
use Rattle.layout_context.specs.declared.nested.LookupRule.{LookupRule}

-- ---- what is applied next preserves

abbrev PreservesNext : (Lookup → Spot → Buffer → Applied) → Type 0
PreservesNext next = (l : Lookup) (spot : Spot) (b : Buffer) → Preserves b (next l spot b).buffer

nest-if : (t : Bool) (a : Buffer) (x y : Nest) → Preserves a x.buffer → Preserves a y.buffer → Preserves a (if t then x else y).buffer
nest-if true a x y k m = k
nest-if false a x y k m = m

target-preserves : (next : Lookup → Spot → Buffer → Applied) → PreservesNext next → (s : Nest) (t : Target)
    → Preserves s.buffer (target_applied next s t).buffer
target-preserves next each s t =
    nest-if (not (is_inside t.place s.buffer)) s.buffer (record s { progress = passed_record s.progress }) _ (Preserves-same s.buffer)
    (by_charge (target_charged s t))
  where
    by_charge : (o : Option ℕ)
        → Preserves s.buffer (option_map_or (target_within next s t) o (record s { progress = stopped_record s.progress })).buffer
    by_charge None = Preserves-same s.buffer
    by_charge (Some left) = each t.lookup (nested_spot s.progress.spot t.place left) s.buffer

done-preserves : (next : Lookup → Spot → Buffer → Applied) → PreservesNext next → (s : Nest) (t : Option Target)
    → Preserves s.buffer (target_done next s t).buffer
done-preserves next each s None = Preserves-same s.buffer
done-preserves next each s (Some t) = target-preserves next each s t

step-preserves : (next : Lookup → Spot → Buffer → Applied) → PreservesNext next → (named : LookupRule) (s : Nest)
    → Preserves s.buffer (record_step next named s).buffer
step-preserves next each named s =
    nest-if s.progress.stopped s.buffer (record s { progress = passed_record s.progress }) _ (Preserves-same s.buffer)
    (done-preserves next each s (target_of named.lookup named.rule s.places s.progress.r))

rule-preserves : (next : Lookup → Spot → Buffer → Applied) → PreservesNext next → (l : Lookup) (spot : Spot) (b : Buffer) (found : Found)
    → Preserves b (rule_applied next l spot b found).buffer
rule-preserves next each l spot b found =
    let named : LookupRule = record { lookup = l; rule = found.rule } in
    let first = first_nest l spot b found in
    Preserves-then b first.buffer (records_made next l spot b found).buffer (Preserves-broken found.span.start found.span.end b)
    (Preserves-times (λ (s : Nest). s.buffer) (record_step next named) (step-preserves next each named) found.rule.count first)

level-preserves : (next : Lookup → Spot → Buffer → Applied) → PreservesNext next → (l : Lookup) (spot : Spot) (b : Buffer)
    → Preserves b (level_applied next l spot b).buffer
level-preserves next each l spot b =
    let c = tried_marked l spot b in
    applied-if (is_context l) b (first_rule_applied next l spot c) _
    (Preserves-then b c (first_rule_applied next l spot c).buffer (Preserves-concat_marked (reach_of l b.items (origin_of spot b)) b)
    (or_unapplied (rule_applied next l spot c) c (rule-preserves next each l spot c) (found_of l c.items (origin_of spot c))))
    (lookup-preserves l spot b)

pub nested-preserves : (level : ℕ) (l : Lookup) (spot : Spot) (b : Buffer) → Preserves b (nested_applied level l spot b).buffer
nested-preserves zero l spot b = Preserves-same b
nested-preserves (suc level) l spot b =
    applied-if (is_past b) b (unapplied b) _ (Preserves-same b)
    (applied-if (is_inside spot.at b) b (level_applied (nested_applied level) l spot b) (unapplied b)
    (level-preserves (nested_applied level) (nested-preserves level) l spot b) (Preserves-same b))

-- ---- levels

pub nested_none : (l : Lookup) (spot : Spot) (b : Buffer) (level : ℕ) → level ≡ 0 → nested_applied level l spot b ≡ unapplied b
nested_none l spot b level none = ap (λ n. nested_applied n l spot b) none

pub nested_past : (level : ℕ) (l : Lookup) (spot : Spot) (b : Buffer) → is_past b ≡ true → nested_applied level l spot b ≡ unapplied b
nested_past zero l spot b past = refl
nested_past (suc level) l spot b past = rw past refl

outside_if : (t : Bool) (made : Applied) (b : Buffer) → (if t then unapplied b else unapplied b) ≡ unapplied b
outside_if true made b = refl
outside_if false made b = refl

pub nested_outside : (level : ℕ) (l : Lookup) (spot : Spot) (b : Buffer) → is_inside spot.at b ≡ false
    → nested_applied level l spot b ≡ unapplied b
nested_outside zero l spot b out = refl
nested_outside (suc level) l spot b out = rw out (outside_if (is_past b) (unapplied b) b)

pub nested_level : (level : ℕ) (l : Lookup) (spot : Spot) (b : Buffer) → 0 < level → is_past b ≡ false → is_inside spot.at b ≡ true
    → nested_applied level l spot b ≡ level_applied (nested_applied (level - 1)) l spot b
nested_level level l spot b some within inside =
    let e : level ≡ suc (level - 1) = omega (arith, some) in
    ap (λ n. nested_applied n l spot b) e ∙ rw (within, inside) refl

-- ---- past the limit nothing is done any more

past-if : (t : Bool) (x y : Nest) → is_past x.buffer ≡ true → is_past y.buffer ≡ true → is_past (if t then x else y).buffer ≡ true
past-if true x y k m = k
past-if false x y k m = m

step-past : (level : ℕ) (named : LookupRule) (s : Nest) → is_past s.buffer ≡ true
    → is_past (record_step (nested_applied level) named s).buffer ≡ true
step-past level named s past =
    past-if s.progress.stopped (record s { progress = passed_record s.progress }) _ past
    (by_target (target_of named.lookup named.rule s.places s.progress.r))
  where
    by_charge : (t : Target) (o : Option ℕ) → is_past
        (option_map_or (target_within (nested_applied level) s t) o (record s { progress = stopped_record s.progress })).buffer ≡ true
    by_charge t None = past
    by_charge t (Some left) =
        ap (λ (a : Applied). is_past a.buffer) (nested_past level t.lookup (nested_spot s.progress.spot t.place left) s.buffer past)
        ∙ past

    by_target : (t : Option Target) → is_past (target_done (nested_applied level) s t).buffer ≡ true
    by_target None = past
    by_target (Some t) =
        past-if (not (is_inside t.place s.buffer)) (record s { progress = passed_record s.progress }) _ past
        (by_charge t (target_charged s t))

times-past : (level : ℕ) (named : LookupRule) (n : ℕ) (s : Nest) → is_past s.buffer ≡ true
    → is_past (times (record_step (nested_applied level) named) n s).buffer ≡ true
times-past level named zero s past = past
times-past level named (suc n) s past =
    step-past level named (times (record_step (nested_applied level) named) n s) (times-past level named n s past)

pub past_records : (level : ℕ) (named : LookupRule) (n r : ℕ) (first here : Nest) → r < n
    → here ≡ times (record_step (nested_applied level) named) r first
    → is_past (record_step (nested_applied level) named here).buffer ≡ true
    → is_past (times (record_step (nested_applied level) named) n first).buffer ≡ true
past_records level named n r first here more is past =
    let f = record_step (nested_applied level) named in
    let e : n ≡ (n - (r + 1)) + (r + 1) = omega (arith, more) in
    let s : r + 1 ≡ suc r = omega arith in
    let there : times f (r + 1) first ≡ f here = ap (λ m. times f m first) s ∙ ap f (sym is) in
    let whole : times f n first ≡ times f (n - (r + 1)) (f here) =
    ap (λ m. times f m first) e ∙ times_after f (n - (r + 1)) (r + 1) first ∙ ap (times f (n - (r + 1))) there in
    ap (λ (s : Nest). is_past s.buffer) whole ∙ times-past level named (n - (r + 1)) (f here) past
