use Rattle.std.proofs.Common.{◌≡◌, ◌-◌, ◌<◌, ◌≤◌, length, get_or, set, arith, ap, sym, ◌∙◌}
use Rattle.std.proofs.lemmas.Grind.{common_steps}
use Rattle.std.proofs.lemmas.List.{take_all, get_or_default, length-set}
use Rattle.shape_items.specs.Delete.{hand_over}
use Rattle.shape_items.proofs.Unwritten.GivenLemmas.{some_start, start_within, give_nothing, give_apart, give_joins}
use Rattle.shape_items.proofs.clusters.unwritten.give_to_last.Goals as goal

pub returns-then-infos-last-clause-stands : goal.returns-then-infos-last-clause-stands
returns-then-infos-last-clause-stands c = λ given s.
    let x = c.index-infos-last.result in
    let below : x.cluster ≤ c.args.picked.now.cluster = omega (arith, ap (λ y. y.cluster) c.index-infos-last.is, c.if-infos-last.true) in
    rw (
      take_all (length c.args.starts.now) c.args.starts.now (omega arith),
      give_nothing c.args.infos.now c.args.starts.now given c.args.picked.now x (length c.args.infos.now - 1)
          (omega arith) c.index-infos-last.is below s,
    ) s

pub overflow_sub-start : goal.overflow_sub-start
overflow_sub-start c = some_start c.args.infos.now c.args.starts.now c.requires.stands.0 c.requires.stands.1 c.requires.some

pub bounds-starts-count : goal.bounds-starts-count
bounds-starts-count c =
    let some = some_start c.args.infos.now c.args.starts.now c.requires.stands.0 c.requires.stands.1 c.requires.some in
    omega arith

pub returns-then-start-eq0-clause-stands : goal.returns-then-start-eq0-clause-stands
returns-then-start-eq0-clause-stands c = λ given s.
    let n = length c.args.infos.now - 1 in
    let x = c.index-infos-last-2.result in
    let e : c.hand_over.new.info ≡ hand_over c.args.picked.now x = c.hand_over.ensures
    ∙ ap (hand_over c.args.picked.now) (sym c.index-infos-last-2.is) in
    let same = ap (λ y. y.cluster) (get_or_default c.args.infos.now n c.index-infos-last.result x (omega arith)) in
    let smaller : c.args.picked.now.cluster < x.cluster = omega
    (arith, ap (λ y. y.cluster) c.index-infos-last-2.is, same, c.if-infos-last.false) in
    let some = some_start c.args.infos.now c.args.starts.now given s c.requires.some in
    rw (take_all (length c.args.starts.now) c.args.starts.now (omega arith), e)
    (give_apart c.args.infos.now c.args.starts.now given c.args.picked.now x x n (length c.args.starts.now - 1) (omega arith)
    (omega arith) c.index-infos-last-2.is smaller
    (λ later. absurd (omega (arith, c.if-start-eq0.true))) s)

pub offset_bounds-infos-start : goal.offset_bounds-infos-start
offset_bounds-infos-start c =
    let some = some_start c.args.infos.now c.args.starts.now c.requires.stands.0 c.requires.stands.1 c.requires.some in
    let within = start_within c.args.infos.now c.args.starts.now c.requires.stands.0 (length c.args.starts.now - 1) c.requires.stands.1
    (omega arith) in
    grind (arith, common_steps)

pub bounds-infos-start : goal.bounds-infos-start
bounds-infos-start c =
    let some = some_start c.args.infos.now c.args.starts.now c.requires.stands.0 c.requires.stands.1 c.requires.some in
    let within = start_within c.args.infos.now c.args.starts.now c.requires.stands.0 (length c.args.starts.now - 1) c.requires.stands.1
    (omega arith) in
    rw length-set (omega (arith, within))

pub bounds-infos-start-else-start-eq0 : goal.bounds-infos-start-else-start-eq0
bounds-infos-start-else-start-eq0 c = bounds-infos-start c

pub returns-then-infos-start-clause-stands : goal.returns-then-infos-start-clause-stands
returns-then-infos-start-clause-stands c = λ given s.
    let n = length c.args.infos.now - 1 in
    let x = c.index-infos-last-2.result in
    let e : c.hand_over.new.info ≡ hand_over c.args.picked.now x = c.hand_over.ensures
    ∙ ap (hand_over c.args.picked.now) (sym c.index-infos-last-2.is) in
    let same = ap (λ y. y.cluster) (get_or_default c.args.infos.now n c.index-infos-last.result x (omega arith)) in
    let smaller : c.args.picked.now.cluster < x.cluster = omega
    (arith, ap (λ y. y.cluster) c.index-infos-last-2.is, same, c.if-infos-last.false) in
    let some = some_start c.args.infos.now c.args.starts.now given s c.requires.some in
    let start = get_or c.args.starts.now (length c.args.starts.now - 1) 0 in
    rw (take_all (length c.args.starts.now) c.args.starts.now (omega arith), e)
    (give_apart c.args.infos.now c.args.starts.now given c.args.picked.now x c.index-infos-start.result n (length c.args.starts.now - 1)
    (omega arith) (omega arith) c.index-infos-last-2.is smaller
    (λ later equal. c.if-infos-start.true (ap (λ z. (get_or (set c.args.infos.now n z) (start - 1) c.index-infos-start.result).cluster) e
    ∙ equal)) s)

pub returns-clause-stands : goal.returns-clause-stands
returns-clause-stands c = λ given s.
    let n = length c.args.infos.now - 1 in
    let x = c.index-infos-last-2.result in
    let e : c.hand_over.new.info ≡ hand_over c.args.picked.now x = c.hand_over.ensures
    ∙ ap (hand_over c.args.picked.now) (sym c.index-infos-last-2.is) in
    let same = ap (λ y. y.cluster) (get_or_default c.args.infos.now n c.index-infos-last.result x (omega arith)) in
    let smaller : c.args.picked.now.cluster < x.cluster = omega
    (arith, ap (λ y. y.cluster) c.index-infos-last-2.is, same, c.if-infos-last.false) in
    let some = some_start c.args.infos.now c.args.starts.now given s c.requires.some in
    let start = get_or c.args.starts.now (length c.args.starts.now - 1) 0 in
    rw e
    (give_joins c.args.infos.now c.args.starts.now given c.args.picked.now x c.index-infos-start.result n (length c.args.starts.now - 1)
    (omega arith) (omega arith) c.index-infos-last-2.is smaller
    (omega (arith, c.if-start-eq0.false))
    (sym (ap (λ z. (get_or (set c.args.infos.now n z) (start - 1) c.index-infos-start.result).cluster) e) ∙ c.if-infos-start.false) s)
